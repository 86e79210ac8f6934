use Rattle.std.proofs.Common.{◌++◌}
use Rattle.std.proofs.lemmas.Result.{on_ok_weaker}
use Rattle.bl_entry.specs.Encoding.{u8_bytes, u128_bytes, text_bytes, truth_bytes, list_bytes, mode_bytes}
use Rattle.bl_entry.proofs.Appends.{after}
use Rattle.bl_entry.proofs.write_parts.write_request.Goals as goal

pub returns : goal.returns
returns c =
    on_ok_weaker c.write_list.result
    (λ e. (after c.args.out.now (text_bytes c.args.request.now.source) ((u8_bytes c.args.request.now.format) ++ ((mode_bytes c.args.request.now.mode) ++ ((truth_bytes c.args.request.now.fail_on_error) ++ ((truth_bytes c.args.request.now.update_single) ++ ((u8_bytes c.args.request.now.parallelism) ++ ((truth_bytes c.args.request.now.queue) ++ (list_bytes u128_bytes c.args.request.now.dependencies))))))) _ _ c.in_ok-write_text.ensures (after _ (u8_bytes c.args.request.now.format) ((mode_bytes c.args.request.now.mode) ++ ((truth_bytes c.args.request.now.fail_on_error) ++ ((truth_bytes c.args.request.now.update_single) ++ ((u8_bytes c.args.request.now.parallelism) ++ ((truth_bytes c.args.request.now.queue) ++ (list_bytes u128_bytes c.args.request.now.dependencies)))))) _ _ c.in_ok-push.ensures.ok (after _ (mode_bytes c.args.request.now.mode) ((truth_bytes c.args.request.now.fail_on_error) ++ ((truth_bytes c.args.request.now.update_single) ++ ((u8_bytes c.args.request.now.parallelism) ++ ((truth_bytes c.args.request.now.queue) ++ (list_bytes u128_bytes c.args.request.now.dependencies))))) _ _ c.in_ok-write_mode.ensures (after _ (truth_bytes c.args.request.now.fail_on_error) ((truth_bytes c.args.request.now.update_single) ++ ((u8_bytes c.args.request.now.parallelism) ++ ((truth_bytes c.args.request.now.queue) ++ (list_bytes u128_bytes c.args.request.now.dependencies)))) _ _ c.in_ok-write_truth.ensures (after _ (truth_bytes c.args.request.now.update_single) ((u8_bytes c.args.request.now.parallelism) ++ ((truth_bytes c.args.request.now.queue) ++ (list_bytes u128_bytes c.args.request.now.dependencies))) _ _ c.in_ok-write_truth-2.ensures (after _ (u8_bytes c.args.request.now.parallelism) ((truth_bytes c.args.request.now.queue) ++ (list_bytes u128_bytes c.args.request.now.dependencies)) _ _ c.in_ok-push-2.ensures.ok (after _ (truth_bytes c.args.request.now.queue) (list_bytes u128_bytes c.args.request.now.dependencies) _ _ c.in_ok-write_truth-3.ensures e))))))))
    c.write_list.ensures
