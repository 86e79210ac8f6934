use Rattle.std.proofs.Common.{rules}
use Rattle.bl_turnstile.specs.Entries.{Entries}
use Rattle.bl_turnstile.proofs.Ends.{opens}
use Rattle.bl_turnstile.proofs.turnstile.Turnstile.new.Goals as goal

pub new-requires : goal.new-requires
new-requires g c =
    let stands : g.row.T.Denot → Entries → Type 0 = λ x. g.T.Told.stands x 1 in
    opens stands c.args.value g.T.Told.first c.push.new.self.items c.requires (search rules)
