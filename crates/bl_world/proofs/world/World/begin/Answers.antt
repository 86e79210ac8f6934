use Rattle.bl_world.proofs.world.World.begin.Goals as goal

pub invariant_of-self : goal.invariant_of-self
invariant_of-self c = record { graph = c.begin_changes.ensures.valid c.self.invariant.graph; values = c.begin_changes.ensures.values c.self.invariant.values; files = c.self.invariant.files; commits = c.self.invariant.commits }
