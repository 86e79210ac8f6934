use Rattle.std.specs.String.{string_bytes}
use Rattle.bl_cli.proofs.ReadCommands.{no_status}
use Rattle.bl_cli.proofs.commands.status_in.Goals as goal

pub returns-in-len2-up-clause-value : goal.returns-in-len2-up-clause-value
returns-in-len2-up-clause-value c = no_status string_bytes c.args.words.now c.in-len2-up.len_at_least
