use Rattle.std.proofs.Common.{inl, refl, subst, sym}
use Rattle.std.specs.Int.{w128, to_be_bytes}
use Rattle.std.specs.Str.{IsUtf8}
use Rattle.std.proofs.lemmas.Str.{IsUtf8-from_ascii}
use Rattle.uuid.specs.Text.{lower}
use Rattle.uuid.proofs.TextLemmas.{hyphenated_ascii}
use Rattle.bl_feed.specs.Bodies.{id_text}
use Rattle.bl_session.proofs.problem.busy_message.Goals as goal

pub as_str-requires : goal.as_str-requires
as_str-requires c = subst IsUtf8 (sym c.in_ok-id.ensures) (IsUtf8-from_ascii (id_text c.args.id) (hyphenated_ascii lower (to_be_bytes w128 c.args.id) (inl refl)))
