use Rattle.std.proofs.Common.{◌≡◌, ◌∙◌, true, sym, subst}
use Rattle.std.proofs.lemmas.Bool.{true≢false}
use Rattle.std.proofs.lemmas.Result.{IfOk-weaker}
use Rattle.bl_outside.specs.Counts.{Rose}
use Rattle.bl_load.specs.Prepares.{GoesOnWith, IsForFileAt, is_fault}
use Rattle.bl_load.specs.Resuming.{IsSomeResumed, Resumes}
use Rattle.bl_load.proofs.PreparedFiles.{for_file, fresh_result, no_fault}
use Rattle.bl_load.proofs.preparing.begin.Goals as goal

pub returns-in-Open-clause-told : goal.returns-in-Open-clause-told
returns-in-Open-clause-told g c = λ files told.
    let path = c.args.path in
    let feed = c.args.feed.now in
    let file = c.in-Open.file in
    let r = subst (λ x. Resumes files path feed x) c.in-Open.is (c.in_ok-resume.ensures.resumes files told) in
    IfOk-weaker c.go_on.result (GoesOnWith r.0.header r.0.records file c.go_on.new.held) (IsForFileAt files path feed)
    (λ prepared goes. for_file files path feed file c.go_on.new.held prepared r.0 r.1 goes) (c.go_on.ensures.goes_on r.0.header r.0.records r.0.is)

pub returns-in-Open-clause-fresh : goal.returns-in-Open-clause-fresh
returns-in-Open-clause-fresh g c = λ files told.
    let r = subst (λ x. Resumes files c.args.path c.args.feed.now x) c.in-Open.is (c.in_ok-resume.ensures.resumes files told) in
    fresh_result files c.in-Open.file c.go_on.new.held c.go_on.result r.0 (c.go_on.ensures.goes_on r.0.header r.0.records r.0.is) c.go_on.ensures.held

pub returns-in-Open-clause-fault : goal.returns-in-Open-clause-fault
returns-in-Open-clause-fault g c =
    let file = c.in-Open.file in
    let some = (subst (λ x. IsSomeResumed c.args.feed.now x) c.in-Open.is c.in_ok-resume.ensures.some).0 in
    IfOk-weaker c.go_on.result (GoesOnWith some.0 some.1 file c.go_on.new.held) (λ prepared. is_fault prepared ≡ true → Rose (g.F.Folder.faults c.args.folder.now) (g.F.Folder.faults c.resume.new.folder))
    (λ prepared goes fault. absurd (true≢false (sym fault ∙ no_fault some.0 some.1 file c.go_on.new.held prepared goes))) (c.go_on.ensures.goes_on some.0 some.1 some.2)
