use Rattle.std.proofs.Common.{[], subst}
use Rattle.bl_cli.specs.Outputs.{job_line}
use Rattle.bl_cli.specs.Printing.{Prints, PrintsFront}
use Rattle.bl_cli.proofs.Prints.{front_after, on_err_map}
use Rattle.bl_cli.proofs.printing.print_end.Goals as goal

pub returns-clause-front : goal.returns-clause-front
returns-clause-front g c =
    on_err_map c.flush.result (PrintsFront [] (g.O.Sink.written c.print_text.new.out) c.print_text.new.waiting (g.O.Sink.written c.flush.new.out))
    (PrintsFront (job_line c.args.job.now) (g.O.Sink.written c.args.out.now) c.args.waiting.now (g.O.Sink.written c.flush.new.out))
    (front_after (job_line c.args.job.now) (g.O.Sink.written c.args.out.now) c.args.waiting.now (g.O.Sink.written c.print_text.new.out) c.print_text.new.waiting (g.O.Sink.written c.flush.new.out)
    (subst (λ text. Prints text (g.O.Sink.written c.args.out.now) c.args.waiting.now (g.O.Sink.written c.print_text.new.out) c.print_text.new.waiting) c.in_ok-line.ensures c.in_ok-print_text.ensures.ok))
    c.flush.ensures.front
