use Rattle.std.proofs.Common.{◌≡◌, ◌∙◌, ℕ, true, subst, sym}
use Rattle.bl_bench.specs.Committing.{Keeps}
use Rattle.bl_bench.proofs.KeptEntries.{kept, sound}
use Rattle.bl_bench.proofs.loaded.Loaded.of.Goals as goal

pub returns-clause-keeps : goal.returns-clause-keeps
returns-clause-keeps c =
    let engine = c.args.engine.now in
    let at = c.is_ready.ensures.at c.if-not-is_ready.false (sound engine.journal.disk) in
    let ready : engine.ready ≡ true = sym c.is_ready.ensures.ready ∙ c.if-not-is_ready.false in
    subst (λ (n : ℕ). Keeps engine.journal.disk n) (sym (c.seq-entries.ensures.counted ready)) (kept engine at.0 at.1)
