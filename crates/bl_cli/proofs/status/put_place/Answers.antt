use Rattle.std.proofs.Common.{◌++◌, ◌∷◌, [], subst, ◌∙◌}
use Rattle.bl_outside.specs.Streams.{Puts}
use Rattle.bl_cli.proofs.Prints.{puts_front_at, puts_then}
use Rattle.bl_cli.proofs.status.put_place.Goals as goal

pub returns-in_err-put-clause-puts : goal.returns-in_err-put-clause-puts
returns-in_err-put-clause-puts g c =
    subst (λ digits. Puts (g.E.Sink.written c.args.err.now) (g.E.Sink.written c.put.new.self) (digits ++ 10 ∷ []) c.from_residual.result) (c.as_bytes.ensures.value ∙ c.format.ensures.text)
    (puts_front_at (g.E.Sink.written c.args.err.now) (g.E.Sink.written c.put.new.self) c.as_bytes.result.now (10 ∷ []) c.in_err-put.field-0.0 c.from_residual.result c.from_residual.ensures.0 c.in_err-put.ensures.bytes)

pub returns-clause-puts : goal.returns-clause-puts
returns-clause-puts g c =
    subst (λ digits. Puts (g.E.Sink.written c.args.err.now) (g.E.Sink.written c.put-2.new.self) (digits ++ 10 ∷ []) c.put-2.result) (c.as_bytes.ensures.value ∙ c.format.ensures.text)
    (puts_then (g.E.Sink.written c.args.err.now) (g.E.Sink.written c.put.new.self) (g.E.Sink.written c.put-2.new.self) c.as_bytes.result.now (10 ∷ []) tt c.put-2.result c.in_ok-put.ensures.bytes c.put-2.ensures.bytes)
