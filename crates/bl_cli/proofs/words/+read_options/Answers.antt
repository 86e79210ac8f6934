use Rattle.std.proofs.Common.{map, sym, subst, arith}
use Rattle.std.specs.String.{string_bytes}
use Rattle.bl_cli.specs.Options.{Reads}
use Rattle.bl_cli.proofs.Readings.{reads_more, reads_none_at, reads_repeated, rest_shorter}
use Rattle.bl_cli.proofs.words.+read_options.Goals as goal

pub returns-in_err-option : goal.returns-in_err-option
returns-in_err-option t c =
    subst (λ r. Reads (map string_bytes c.args.words.now) c.args.given r) (sym c.from_residual.ensures)
    (reads_none_at string_bytes c.args.words.now c.args.given (sym c.if-is_empty.ensures) (sym c.in_err-option.ensures))

pub returns-in_err-with : goal.returns-in_err-with
returns-in_err-with t c =
    subst (λ r. Reads (map string_bytes c.args.words.now) c.args.given r) (sym c.from_residual-in_err-with.ensures)
    (reads_repeated (map string_bytes c.args.words.now) (map string_bytes c.in_ok-option.rest.now) c.in_ok-option.option c.args.given (sym c.in_ok-option.ensures) (sym c.in_err-with.ensures))

pub read_options-requires : goal.read_options-requires
read_options-requires t c = (omega (arith, rest_shorter string_bytes c.args.words.now c.in_ok-option.rest.now c.in_ok-option.option (sym c.in_ok-option.ensures), c.decreases), tt)

pub returns : goal.returns
returns t c =
    reads_more (map string_bytes c.args.words.now) (map string_bytes c.in_ok-option.rest.now) c.in_ok-option.option c.args.given c.in_ok-with.field-0 c.read_options.result (sym c.in_ok-option.ensures) (sym c.in_ok-with.ensures)
    c.read_options.ensures
