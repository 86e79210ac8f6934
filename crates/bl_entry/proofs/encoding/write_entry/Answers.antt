use Rattle.std.proofs.Common.{◌++◌, sym, ap, ◌∙◌}
use Rattle.std.proofs.lemmas.Result.{on_ok_weaker}
use Rattle.bl_entry.specs.Encoding.{u8_bytes, u32_bytes, u64_bytes, u128_bytes, digest_bytes, list_bytes, log_bytes, change_bytes, plan_bytes, end_bytes, request_bytes, entry_bytes}
use Rattle.bl_entry.proofs.Appends.{after}
use Rattle.bl_entry.proofs.encoding.write_entry.Goals as goal

pub returns-in_ok-write_u128-in-Submit : goal.returns-in_ok-write_u128-in-Submit
returns-in_ok-write_u128-in-Submit c =
    on_ok_weaker c.write_request.result
    (λ e. (after c.args.out.now (u8_bytes 1) ((u64_bytes c.in-Submit.moment) ++ ((u32_bytes c.in-Submit.job) ++ ((u128_bytes c.in-Submit.id) ++ (request_bytes c.in-Submit.request)))) _ _ c.in_ok-push-in-Submit.ensures.ok (after _ (u64_bytes c.in-Submit.moment) ((u32_bytes c.in-Submit.job) ++ ((u128_bytes c.in-Submit.id) ++ (request_bytes c.in-Submit.request))) _ _ c.in_ok-write_u64-in-Submit.ensures (after _ (u32_bytes c.in-Submit.job) ((u128_bytes c.in-Submit.id) ++ (request_bytes c.in-Submit.request)) _ _ c.in_ok-write_u32-in-Submit.ensures (after _ (u128_bytes c.in-Submit.id) (request_bytes c.in-Submit.request) _ _ c.in_ok-write_u128-in-Submit.ensures e)))) ∙ ap (λ x. c.args.out.now ++ entry_bytes x) (sym c.in-Submit.is))
    c.write_request.ensures

pub returns-in_ok-write_u64-in-Cancel : goal.returns-in_ok-write_u64-in-Cancel
returns-in_ok-write_u64-in-Cancel c =
    on_ok_weaker c.write_u32-in-Cancel.result
    (λ e. (after c.args.out.now (u8_bytes 2) ((u64_bytes c.in-Cancel.moment) ++ (u32_bytes c.in-Cancel.job)) _ _ c.in_ok-push-in-Cancel.ensures.ok (after _ (u64_bytes c.in-Cancel.moment) (u32_bytes c.in-Cancel.job) _ _ c.in_ok-write_u64-in-Cancel.ensures e)) ∙ ap (λ x. c.args.out.now ++ entry_bytes x) (sym c.in-Cancel.is))
    c.write_u32-in-Cancel.ensures

pub returns-in_ok-write_u32-in-Start : goal.returns-in_ok-write_u32-in-Start
returns-in_ok-write_u32-in-Start c =
    on_ok_weaker c.write_plan.result
    (λ e. (after c.args.out.now (u8_bytes 3) ((u64_bytes c.in-Start.moment) ++ ((u32_bytes c.in-Start.job) ++ (plan_bytes c.in-Start.plan))) _ _ c.in_ok-push-in-Start.ensures.ok (after _ (u64_bytes c.in-Start.moment) ((u32_bytes c.in-Start.job) ++ (plan_bytes c.in-Start.plan)) _ _ c.in_ok-write_u64-in-Start.ensures (after _ (u32_bytes c.in-Start.job) (plan_bytes c.in-Start.plan) _ _ c.in_ok-write_u32-in-Start.ensures e))) ∙ ap (λ x. c.args.out.now ++ entry_bytes x) (sym c.in-Start.is))
    c.write_plan.ensures

pub returns-in_ok-write_list-in-Batch : goal.returns-in_ok-write_list-in-Batch
returns-in_ok-write_list-in-Batch c =
    on_ok_weaker c.write_list-in-Batch.result
    (λ e. (after c.args.out.now (u8_bytes 4) ((u64_bytes c.in-Batch.moment) ++ ((u32_bytes c.in-Batch.job) ++ ((u32_bytes c.in-Batch.feed) ++ ((u64_bytes c.in-Batch.from) ++ ((u32_bytes c.in-Batch.rows) ++ ((digest_bytes c.in-Batch.digest) ++ ((u32_bytes c.in-Batch.duplicates) ++ ((list_bytes log_bytes c.in-Batch.logs) ++ (list_bytes change_bytes c.in-Batch.changes))))))))) _ _ c.in_ok-push-in-Batch.ensures.ok (after _ (u64_bytes c.in-Batch.moment) ((u32_bytes c.in-Batch.job) ++ ((u32_bytes c.in-Batch.feed) ++ ((u64_bytes c.in-Batch.from) ++ ((u32_bytes c.in-Batch.rows) ++ ((digest_bytes c.in-Batch.digest) ++ ((u32_bytes c.in-Batch.duplicates) ++ ((list_bytes log_bytes c.in-Batch.logs) ++ (list_bytes change_bytes c.in-Batch.changes)))))))) _ _ c.in_ok-write_u64-in-Batch.ensures (after _ (u32_bytes c.in-Batch.job) ((u32_bytes c.in-Batch.feed) ++ ((u64_bytes c.in-Batch.from) ++ ((u32_bytes c.in-Batch.rows) ++ ((digest_bytes c.in-Batch.digest) ++ ((u32_bytes c.in-Batch.duplicates) ++ ((list_bytes log_bytes c.in-Batch.logs) ++ (list_bytes change_bytes c.in-Batch.changes))))))) _ _ c.in_ok-write_u32-in-Batch.ensures (after _ (u32_bytes c.in-Batch.feed) ((u64_bytes c.in-Batch.from) ++ ((u32_bytes c.in-Batch.rows) ++ ((digest_bytes c.in-Batch.digest) ++ ((u32_bytes c.in-Batch.duplicates) ++ ((list_bytes log_bytes c.in-Batch.logs) ++ (list_bytes change_bytes c.in-Batch.changes)))))) _ _ c.in_ok-write_u32-in-Batch-2.ensures (after _ (u64_bytes c.in-Batch.from) ((u32_bytes c.in-Batch.rows) ++ ((digest_bytes c.in-Batch.digest) ++ ((u32_bytes c.in-Batch.duplicates) ++ ((list_bytes log_bytes c.in-Batch.logs) ++ (list_bytes change_bytes c.in-Batch.changes))))) _ _ c.in_ok-write_u64-in-Batch-2.ensures (after _ (u32_bytes c.in-Batch.rows) ((digest_bytes c.in-Batch.digest) ++ ((u32_bytes c.in-Batch.duplicates) ++ ((list_bytes log_bytes c.in-Batch.logs) ++ (list_bytes change_bytes c.in-Batch.changes)))) _ _ c.in_ok-write_u32-in-Batch-3.ensures (after _ (digest_bytes c.in-Batch.digest) ((u32_bytes c.in-Batch.duplicates) ++ ((list_bytes log_bytes c.in-Batch.logs) ++ (list_bytes change_bytes c.in-Batch.changes))) _ _ c.in_ok-extend-in-Batch.ensures.ok (after _ (u32_bytes c.in-Batch.duplicates) ((list_bytes log_bytes c.in-Batch.logs) ++ (list_bytes change_bytes c.in-Batch.changes)) _ _ c.in_ok-write_u32-in-Batch-4.ensures (after _ (list_bytes log_bytes c.in-Batch.logs) (list_bytes change_bytes c.in-Batch.changes) _ _ c.in_ok-write_list-in-Batch.ensures e))))))))) ∙ ap (λ x. c.args.out.now ++ entry_bytes x) (sym c.in-Batch.is))
    c.write_list-in-Batch.ensures

pub returns-in_ok-write_u32-in-FeedEnd-2 : goal.returns-in_ok-write_u32-in-FeedEnd-2
returns-in_ok-write_u32-in-FeedEnd-2 c =
    on_ok_weaker c.write_end.result
    (λ e. (after c.args.out.now (u8_bytes 5) ((u64_bytes c.in-FeedEnd.moment) ++ ((u32_bytes c.in-FeedEnd.job) ++ ((u32_bytes c.in-FeedEnd.feed) ++ (end_bytes c.in-FeedEnd.end)))) _ _ c.in_ok-push-in-FeedEnd.ensures.ok (after _ (u64_bytes c.in-FeedEnd.moment) ((u32_bytes c.in-FeedEnd.job) ++ ((u32_bytes c.in-FeedEnd.feed) ++ (end_bytes c.in-FeedEnd.end))) _ _ c.in_ok-write_u64-in-FeedEnd.ensures (after _ (u32_bytes c.in-FeedEnd.job) ((u32_bytes c.in-FeedEnd.feed) ++ (end_bytes c.in-FeedEnd.end)) _ _ c.in_ok-write_u32-in-FeedEnd.ensures (after _ (u32_bytes c.in-FeedEnd.feed) (end_bytes c.in-FeedEnd.end) _ _ c.in_ok-write_u32-in-FeedEnd-2.ensures e)))) ∙ ap (λ x. c.args.out.now ++ entry_bytes x) (sym c.in-FeedEnd.is))
    c.write_end.ensures
