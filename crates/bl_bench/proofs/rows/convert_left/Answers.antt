use Rattle.std.proofs.Common.{◌≡◌, ◌+◌, [], None, length, sum_by, ap, subst, arith}
use Rattle.std.proofs.lemmas.List.Sums.{sum_by-cons}
use Rattle.bl_rows.specs.RowReaders.{GivesRow}
use Rattle.bl_rows.proofs.RowsLeft.{GaveRow, gave_row, none_left}
use Rattle.bl_bench.proofs.rows.convert_left.Goals as goal

pub returns-in_default-found : goal.returns-in_default-found
returns-in_default-found c = λ all taken left stands.
    let kept = c.loop-items.invariant all taken left stands in
    let gives : GivesRow all kept.0 kept.1 c.next.new.self None = subst (GivesRow all kept.0 kept.1 c.next.new.self) c.in_default-found.is (c.in-Ok.ensures all kept.0 kept.1 kept.2) in
    let none : kept.1 ≡ [] = none_left all kept.1 kept.0 c.next.new.self gives in
    record { items = omega (arith, kept.3, ap length none); bytes = omega (arith, kept.4, ap (sum_by (sum_by length)) none) }

pub loop-items-preserved : goal.loop-items-preserved
loop-items-preserved c = λ all taken left stands.
    let kept = c.loop-items.invariant all taken left stands in
    let gave : GaveRow all kept.1 kept.0 c.next.new.self c.in-Some.fields =
    gave_row all kept.1 kept.0 c.next.new.self c.in-Some.fields (subst (GivesRow all kept.0 kept.1 c.next.new.self) c.in-Some.is (c.in-Ok.ensures all kept.0 kept.1 kept.2)) in (
      kept.0 + 1,
      gave.rest,
      gave.stands,
      omega (arith, kept.3, ap length gave.is),
      omega (arith, kept.4, ap (sum_by (sum_by length)) gave.is, sum_by-cons (sum_by length) c.in-Some.fields gave.rest, c.in_ok-bytes.ensures.1, c.in_ok-convert_one.ensures),
    )
