use Rattle.std.proofs.Common.{◌≡◌, ◌∙◌, sym, subst, arith, length}
use Rattle.std.proofs.lemmas.List.Elements.{All-get_or}
use Rattle.std.specs.FinMap.{get}
use Rattle.std.specs.Prelude.{IsSome}
use Rattle.bl_load.specs.Finding.{IsFoundAt}
use Rattle.bl_load.specs.SourceFiles.{file_path}
use Rattle.bl_load.proofs.FoundNames.{AreFoundSoFar, found_all, found_more, zip_more}
use Rattle.bl_load.proofs.planning.find_all.Goals as goal

pub loop-name-preserved : goal.loop-name-preserved
loop-name-preserved g c =
    let names = c.args.names.now in
    let i = c.loop-name.name-index in
    let item = c.name-item.result in
    let inv = c.loop-name.invariant in
    record {
      so_far = found_more names i item c.loop-name.found c.add_found.new.found c.in_ok-add_found.field-0 (omega arith) (sym c.name-item.is) inv.so_far c.in_ok-add_found.ensures.adds;
      files = c.in_ok-add_found.ensures.files ∙ inv.files;
      later = omega (arith, inv.later, c.in_ok-add_found.ensures.later);
      told = λ files told there.
          let here = All-get_or (λ name. IsSome (get files (file_path c.args.source.now name))) names i item (omega arith) there in
          let found = c.in_ok-add_found.ensures.told files (inv.files ∙ told) (subst (λ name. IsSome (get files (file_path c.args.source.now name))) (sym c.name-item.is) here) c.if-not-branch.false in
          zip_more (IsFoundAt files c.args.source.now c.args.previous.now) names i item c.loop-name.found c.add_found.new.found found.0 (omega arith) (sym c.name-item.is) (inv.told files told there) found.1 found.2;
    }

pub returns-clause-planned : goal.returns-clause-planned
returns-clause-planned g c =
    let names = c.args.names.now in
    let e : c.loop-name.name-index ≡ length names = omega arith in
    found_all names c.loop-name.found (subst (λ k. AreFoundSoFar names k c.loop-name.found) e c.loop-name.invariant.so_far)
