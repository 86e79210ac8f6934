use Rattle.std.proofs.Common.{◌++◌}
use Rattle.std.proofs.lemmas.Result.{on_ok_weaker}
use Rattle.bl_entry.specs.Encoding.{code_bytes, u32_bytes, u64_bytes}
use Rattle.bl_entry.proofs.Appends.{after}
use Rattle.bl_entry.proofs.write_parts.write_log.Goals as goal

pub returns : goal.returns
returns c =
    on_ok_weaker c.write_u32.result
    (λ e. after c.args.out.now (code_bytes c.args.log.now.code) (u64_bytes c.args.log.now.number ++ u32_bytes c.args.log.now.column) _ _ c.in_ok-write_code.ensures
    (after _ (u64_bytes c.args.log.now.number) (u32_bytes c.args.log.now.column) _ _ c.in_ok-write_u64.ensures e))
    c.write_u32.ensures
