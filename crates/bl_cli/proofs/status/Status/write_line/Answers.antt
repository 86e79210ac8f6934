use Rattle.std.proofs.Common.{◌++◌, subst, sym, ◌∙◌, ap}
use Rattle.bl_outside.specs.Streams.{Puts}
use Rattle.bl_cli.specs.Statuses.{line_of, place_behind, plain_line}
use Rattle.bl_cli.proofs.Prints.{line_parts, puts_front_at, puts_then}
use Rattle.bl_cli.proofs.status.Status.write_line.Goals as goal

pub returns-in_err-put-clause-puts : goal.returns-in_err-put-clause-puts
returns-in_err-put-clause-puts g c =
    let parts = line_parts c.args.self in
    subst (λ line. Puts (g.E.Sink.written c.args.err.now) (g.E.Sink.written c.put.new.self) line c.from_residual.result) (ap (λ first. first ++ parts.0) c.plain_line.ensures ∙ parts.1)
    (puts_front_at (g.E.Sink.written c.args.err.now) (g.E.Sink.written c.put.new.self) c.plain_line.result.now parts.0 c.in_err-put.field-0.0 c.from_residual.result c.from_residual.ensures.0 c.in_err-put.ensures.bytes)

pub returns-in-BadStore-clause-puts : goal.returns-in-BadStore-clause-puts
returns-in-BadStore-clause-puts g c =
    subst (λ line. Puts (g.E.Sink.written c.args.err.now) (g.E.Sink.written c.put_place.new.err) line c.put_place.result)
    (ap (λ first. first ++ place_behind c.in-BadStore.place) (c.plain_line.ensures ∙ ap plain_line c.in-BadStore.is) ∙ sym (ap line_of c.in-BadStore.is))
    (puts_then (g.E.Sink.written c.args.err.now) (g.E.Sink.written c.put.new.self) (g.E.Sink.written c.put_place.new.err) c.plain_line.result.now (place_behind c.in-BadStore.place) tt c.put_place.result c.in_ok-put.ensures.bytes c.put_place.ensures.puts)
