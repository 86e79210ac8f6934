use Rattle.std.proofs.Common.{◌+◌, drop, length, nat_eq, subst, arith, refl}
use Rattle.std.specs.List.{flat_map}
use Rattle.bl_cli.specs.Outputs.{commit_lines, event_line, events_from}
use Rattle.bl_cli.specs.Printing.{Leaves}
use Rattle.bl_cli.proofs.Prints.{changes_more, front_left, front_so_far, leaves_less, on_err}
use Rattle.bl_cli.proofs.printing.print_commit.Goals as goal

pub returns-in_err-line-clause-front : goal.returns-in_err-line-clause-front
returns-in_err-line-clause-front g c =
    on_err _ _ (front_so_far (flat_map event_line (events_from c.args.number (c.loop-i.i + 1) c.args.commit.now.moment (drop c.loop-i.i c.as_slice-changes.result.now))) (commit_lines (c.args.number, c.args.commit.now))
    (g.O.Sink.written c.args.out.now) c.args.waiting.now (g.O.Sink.written c.loop-i.out) c.loop-i.waiting c.loop-i.invariant.so)

pub returns-in_err-print_text-clause-front : goal.returns-in_err-print_text-clause-front
returns-in_err-print_text-clause-front g c =
    on_err _ _ (front_left c.in_ok-line.line (flat_map event_line (events_from c.args.number (c.loop-i.i + 1 + 1) c.args.commit.now.moment (drop (c.loop-i.i + 1) c.as_slice-changes.result.now))) (commit_lines (c.args.number, c.args.commit.now))
    (g.O.Sink.written c.args.out.now) c.args.waiting.now (g.O.Sink.written c.loop-i.out) c.loop-i.waiting (g.O.Sink.written c.print_text.new.out)
    (subst (λ rest. Leaves rest (commit_lines (c.args.number, c.args.commit.now)) (g.O.Sink.written c.args.out.now) c.args.waiting.now (g.O.Sink.written c.loop-i.out) c.loop-i.waiting)
    (changes_more c.args.number c.args.commit.now.moment c.loop-i.i c.as_slice-changes.result.now c.index-changes-i.result (nat_eq (c.loop-i.i + 1) (length c.as_slice-changes.result.now)) c.in_ok-line.line
    c.loop-i-test.true c.index-changes-i.is refl c.in_ok-line.ensures)
    c.loop-i.invariant.so)
    c.in_err-print_text.ensures.front)

pub loop-i-preserved : goal.loop-i-preserved
loop-i-preserved g c = record {
  so =
      leaves_less c.in_ok-line.line (flat_map event_line (events_from c.args.number (c.loop-i.i + 1 + 1) c.args.commit.now.moment (drop (c.loop-i.i + 1) c.as_slice-changes.result.now))) (commit_lines (c.args.number, c.args.commit.now))
      (g.O.Sink.written c.args.out.now) c.args.waiting.now (g.O.Sink.written c.loop-i.out) c.loop-i.waiting (g.O.Sink.written c.print_text.new.out) c.print_text.new.waiting
      (subst (λ rest. Leaves rest (commit_lines (c.args.number, c.args.commit.now)) (g.O.Sink.written c.args.out.now) c.args.waiting.now (g.O.Sink.written c.loop-i.out) c.loop-i.waiting)
      (changes_more c.args.number c.args.commit.now.moment c.loop-i.i c.as_slice-changes.result.now c.index-changes-i.result (nat_eq (c.loop-i.i + 1) (length c.as_slice-changes.result.now)) c.in_ok-line.line
      c.loop-i-test.true c.index-changes-i.is refl c.in_ok-line.ensures)
      c.loop-i.invariant.so)
      c.in_ok-print_text.ensures.ok;
  later = omega (arith, c.loop-i.invariant.later, c.print_text.ensures.cause.later);
}
