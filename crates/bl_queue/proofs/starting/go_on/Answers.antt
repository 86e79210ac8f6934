use Rattle.std.proofs.Common.{◌≡◌, Err, ap, subst, arith, length}
use Rattle.bl_files.specs.Carried.{Carries}
use Rattle.bl_files.specs.declared.carrying.CarryRefusal.{CarryRefusal}
use Rattle.bl_files.specs.declared.carrying.CarryRefusal.TheVariants.{TooMany}
use Rattle.bl_queue.proofs.starting.go_on.Goals as goal

pub unreachable-requires : goal.unreachable-requires
unreachable-requires c =
    let previous = c.args.previous.now in
    let found = c.args.found.now in
    let carries : Carries previous found (Err (TooMany c.in-Err-TooMany.field-0-0)) = subst (λ (e : CarryRefusal). Carries previous found (Err e)) c.in-Err-TooMany.field-0-is c.in-Err-TooMany.ensures.carries in
    let same : c.requires.room.0 ≡ carries.0 = c.carried_feeds_are_one_list.ensures previous found c.requires.room.0 carries.0 c.requires.room.1 carries.1 in
    omega (arith, ap length same, carries.2, carries.3, c.requires.room.2)
