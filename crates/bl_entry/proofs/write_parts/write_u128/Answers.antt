use Rattle.std.proofs.Common.{◌^◌, ◌/◌, ◌%◌}
use Rattle.std.proofs.lemmas.Result.{on_ok_weaker}
use Rattle.bl_entry.specs.Encoding.{u64_bytes}
use Rattle.bl_entry.proofs.Appends.{after}
use Rattle.bl_entry.proofs.write_parts.write_u128.Goals as goal

pub returns : goal.returns
returns c =
    on_ok_weaker c.write_u64-2.result
    (λ e. after c.args.out.now (u64_bytes (c.args.number / 2 ^ 64)) (u64_bytes (c.args.number % 2 ^ 64)) _ _ c.in_ok-write_u64.ensures e)
    c.write_u64-2.ensures
