use Rattle.std.proofs.Common.{◌∙◌, ap, sym, subst}
use Rattle.std.proofs.lemmas.Bool.{true≢false}
use Rattle.std.proofs.lemmas.Result.{IfOk-weaker}
use Rattle.bl_files.specs.Sources.{path_of}
use Rattle.bl_load.specs.OpenFiles.{IsFresh}
use Rattle.bl_load.specs.Prepares.{GoesOnWith, IsForFile, IsForFileAt}
use Rattle.bl_load.proofs.PreparedFiles.{for_file, fresh_result, no_fault, of_source}
use Rattle.bl_load.proofs.preparing.prepare_file.Goals as goal

pub returns-in-Some-was-clause-told : goal.returns-in-Some-was-clause-told
returns-in-Some-was-clause-told g c = λ files told fresh.
    let source = c.args.source.now in
    let path = c.in-Some.path in
    let feed = c.args.feed.now in
    let file = c.in-Some-was.file in
    let path_is = sym (c.in_ok-path.ensures.path ∙ ap path_of c.as_slice.ensures) ∙ c.in-Some.is in
    let f = subst (λ o. IsFresh files o) (sym c.in-Some-was.ensures.was) fresh in
    IfOk-weaker c.go_on.result (GoesOnWith f.header f.records file c.go_on.new.held) (IsForFile files source feed)
    (λ prepared goes. of_source files source path feed prepared path_is (for_file files path feed file c.go_on.new.held prepared f (c.is_at.ensures.0 c.if-is_at.true) goes))
    (c.go_on.ensures.goes_on f.header f.records f.is)

pub returns-in-Some-was-clause-fresh : goal.returns-in-Some-was-clause-fresh
returns-in-Some-was-clause-fresh g c = λ files told fresh.
    let f = subst (λ o. IsFresh files o) (sym c.in-Some-was.ensures.was) fresh in
    fresh_result files c.in-Some-was.file c.go_on.new.held c.go_on.result f (c.go_on.ensures.goes_on f.header f.records f.is) c.go_on.ensures.held

pub returns-in-Some-was-clause-fault : goal.returns-in-Some-was-clause-fault
returns-in-Some-was-clause-fault g c =
    let file = c.in-Some-was.file in
    let some = c.in-Some-was.ensures.held in
    IfOk-weaker c.go_on.result (GoesOnWith some.0 some.1 file c.go_on.new.held) _
    (λ prepared goes fault. absurd (true≢false (sym fault ∙ no_fault some.0 some.1 file c.go_on.new.held prepared goes)))
    (c.go_on.ensures.goes_on some.0 some.1 some.2)

pub returns-in_default-was-clause-told : goal.returns-in_default-was-clause-told
returns-in_default-was-clause-told g c = λ files told fresh.
    let path_is = sym (c.in_ok-path.ensures.path ∙ ap path_of c.as_slice.ensures) ∙ c.in-Some.is in
    IfOk-weaker c.begin.result (IsForFileAt files c.in-Some.path c.args.feed.now) (IsForFile files c.args.source.now c.args.feed.now)
    (λ prepared for. of_source files c.args.source.now c.in-Some.path c.args.feed.now prepared path_is for) (c.begin.ensures.told files told)
