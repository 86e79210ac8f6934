use Rattle.std.proofs.Common.{◌++◌, sym, ap, ◌∙◌}
use Rattle.std.proofs.lemmas.Result.{on_ok_weaker}
use Rattle.bl_entry.specs.Encoding.{u8_bytes, log_bytes, end_bytes}
use Rattle.bl_entry.proofs.Appends.{after}
use Rattle.bl_entry.proofs.write_parts.write_end.Goals as goal

pub returns-in_ok-push-in-Stopped : goal.returns-in_ok-push-in-Stopped
returns-in_ok-push-in-Stopped c =
    on_ok_weaker c.write_log.result
    (λ e. (after c.args.out.now (u8_bytes 1) (log_bytes c.in-Stopped.log) _ _ c.in_ok-push-in-Stopped.ensures.ok e) ∙ ap (λ x. c.args.out.now ++ end_bytes x) (sym c.in-Stopped.is))
    c.write_log.ensures
