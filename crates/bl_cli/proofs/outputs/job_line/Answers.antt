use Rattle.std.proofs.Common.{◌∙◌, ◌++◌, ◌∷◌, [], ap}
use Rattle.std.specs.List.{flat_map}
use Rattle.bl_files.specs.Shown.{totals}
use Rattle.bl_cli.specs.JobTexts.{status_text}
use Rattle.bl_cli.specs.Outputs.{number_behind, numbers_of}
use Rattle.bl_cli.proofs.outputs.job_line.Goals as goal

pub returns : goal.returns
returns c =
    c.in_ok-push-2.ensures.ok
    ∙ ap (λ line. line ++ 10 ∷ []) (c.in_ok-push_counts.ensures ∙ ap (λ counts. c.extend.new.self ++ flat_map number_behind (numbers_of counts)) c.totals.ensures
    ∙ ap (λ line. line ++ flat_map number_behind (numbers_of (totals c.args.job.now.feeds))) (c.in_ok-extend.ensures.ok
    ∙ ap (λ status. c.push.new.self ++ status) (c.as_bytes.ensures.value ∙ c.status_text.ensures)
    ∙ ap (λ line. line ++ status_text c.args.job.now.status) (c.in_ok-push.ensures.ok ∙ ap (λ line. line ++ 32 ∷ []) c.in_ok-line.ensures)))
