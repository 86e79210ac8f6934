use Rattle.bl_graph.specs.Owners.{bare}
use Rattle.bl_graph.proofs.Places.{place_new, same_new}
use Rattle.bl_graph.proofs.owner.place_of.Goals as goal

pub returns-clause-place : goal.returns-clause-place
returns-clause-place g c =
    place_new c.args.owners.now c.insert_full.new.self.entries c.in_ok-copy.field-0 c.args.id.now (record { own = c.args.own; values = c.new.result }) (bare c.args.own) c.in_ok-copy.ensures c.in_default.ensures.missing c.in_ok-insert_full.ensures.entries c.in_ok-insert_full.ensures.updates.0 c.in_ok-insert_full.field-0.0 c.in_ok-insert_full.ensures.index

pub returns-clause-same : goal.returns-clause-same
returns-clause-same g c =
    same_new c.args.owners.now c.insert_full.new.self.entries c.in_ok-copy.field-0 c.args.id.now (record { own = c.args.own; values = c.new.result }) (bare c.args.own) c.in_ok-copy.ensures c.in_default.ensures.missing c.in_ok-insert_full.ensures.entries c.in_ok-insert_full.ensures.updates.0 (λ i. record { own = c.args.own; values = c.new.ensures i })
