use Rattle.std.proofs.Common.{◌≡◌, ◌∙◌, ℕ, ap, subst, sym}
use Rattle.bl_outside.specs.MemoryDisks.{DiskRecord}
use Rattle.bl_engine.specs.Engines.{View}
use Rattle.bl_bench.specs.Committing.{Keeps, entries_of}
use Rattle.bl_bench.proofs.KeptEntries.{none_before}
use Rattle.bl_bench.proofs.committing.filled.Goals as goal

pub returns-clause-keeps : goal.returns-clause-keeps
returns-clause-keeps c =
    let count : ℕ = entries_of c.args.rows in
    let counted : c.in_ok-loaded.loaded.entries ≡ count = c.in_ok-loaded.ensures.entries ∙ none_before c.in_ok-engine.engine.world.entries count c.load.new.engine.world.entries (c.in_ok-engine.ensures.empty c.in_ok-disks.ensures) c.in_ok-load.ensures.entries in
    let same = c.into_disks-disks.ensures.journal ∙ ap (λ (engine : View DiskRecord). engine.journal.disk) c.in_ok-loaded.ensures.same in
    subst (λ (disk : DiskRecord). Keeps disk count) (sym same) (subst (λ (n : ℕ). Keeps c.load.new.engine.journal.disk n) counted c.in_ok-loaded.ensures.keeps)
