use Rattle.std.proofs.Common.{subst, arith, drop}
use Rattle.bl_rows.specs.RowReaders.{GivesRow}
use Rattle.bl_load.proofs.Skipped.{skipped_all, skipped_more}
use Rattle.bl_load.proofs.resuming.skip.Goals as goal

pub returns-in_default : goal.returns-in_default
returns-in_default c = λ all left stands.
    let i = c.loop-record._record in
    let inv = c.loop-record.invariant all left stands in
    omega (arith, skipped_all all left i c.next.new.self (subst (λ o. GivesRow all i (drop i left) c.next.new.self o) c.in_default.is (c.in_ok-next.ensures all i (drop i left) inv.1)))

pub loop-record-preserved : goal.loop-record-preserved
loop-record-preserved c = λ all left stands.
    let i = c.loop-record._record in
    let inv = c.loop-record.invariant all left stands in
    skipped_more all left i c.next.new.self _ (subst (λ o. GivesRow all i (drop i left) c.next.new.self o) c.in-Some.is (c.in_ok-next.ensures all i (drop i left) inv.1))
