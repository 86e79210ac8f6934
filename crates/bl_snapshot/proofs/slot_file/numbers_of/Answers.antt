use Rattle.std.proofs.Common.{◌<◌, List, ℕ, Ok, length, subst, take, drop}
use Rattle.bl_outside.specs.Disks.{OfContent}
use Rattle.bl_snapshot.specs.TwoSlots.{LengthIs}
use Rattle.bl_snapshot.proofs.Readings.{never_short}
use Rattle.bl_snapshot.proofs.slot_file.numbers_of.Goals as goal

pub returns-then-numbers-lt8-clause-numbers : goal.returns-then-numbers-lt8-clause-numbers
returns-then-numbers-lt8-clause-numbers g c =
    let seen = g.D.Disk.seen c.args.disk.now in
    never_short seen c.in-Some.length c.in_ok-numbers.numbers (subst (λ o. LengthIs seen (Ok o)) c.in-Some.is c.in_ok-length_of.ensures.length)
    (subst (λ o. OfContent o (λ content. take 16 (drop 20 content)) c.in_ok-numbers.numbers) c.length_of.ensures.seen c.in_ok-numbers.ensures.bytes)
    (subst (λ (l : List ℕ). length l < 8) c.as_slice-numbers.ensures c.if-numbers-lt8.true)
