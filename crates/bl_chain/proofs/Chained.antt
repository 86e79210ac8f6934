-- A load over unchanged files, entry by entry.
use Rattle.std.specs.Prelude.{◌≡◌, ℕ, List, [], ◌∷◌}
use Rattle.std.proofs.Common.{sym, subst, inl, inr}
use Rattle.bl_entry.specs.declared.entry.Entry.{Entry}
use Rattle.bl_entry.specs.declared.entry.Entry.TheVariants.{Submit, Cancel, Start, Batch, FeedEnd as End}
use Rattle.bl_world.proofs.SureWorlds.{have_jobs}
use Rattle.bl_world.specs.Worlds.{IsWorldOf, Step, World}
use Rattle.bl_chain.specs.Chains.{Chain, IsOther, IsOwn, IsUnchanged, UnchangedStands}
use Rattle.bl_chain.specs.Tables.{AreTables, Table}
use Rattle.bl_chain.proofs.Holdings.{Holds, SureStep, holds_stands}
use Rattle.bl_chain.proofs.OtherEntries.{other_entry}
use Rattle.bl_chain.proofs.OwnEntries.{own_batch, own_cancel, own_end}
use Rattle.bl_chain.proofs.StartedLoads.{begins, continues}

-- what is unchanged leads to its world
pub world_of : (tables : List Table) (entries : List Entry) (world : World) (job : ℕ) (chain : Chain) → IsUnchanged tables entries world job chain → IsWorldOf entries world
world_of tables [] world job chain un = absurd un
world_of tables (entry ∷ older) world job chain un = (
  un.0,
  elim un.2 [
    | inl first ↦ first.0
    | inr rest ↦ (elim rest [
      | inl next ↦ world_of tables older un.0 next.0 next.1 next.2
      | inr goes ↦ world_of tables older un.0 job goes.0 goes.1
    ])
  ],
  un.1,
)

-- the step is sure
pub sure : (older : List Entry) (before : World) (entry : Entry) (world : World) → IsWorldOf older before → Step before entry world → SureStep before entry world
sure older before entry world of step = record { are = have_jobs older before of; later = have_jobs (entry ∷ older) world (before, of, step); follows = step.follows; next = step.next }

module _ (tables : List Table) (sound : AreTables tables) where
  own_entry : (before world : World) (job : ℕ) (earlier : Chain) → Holds tables before job earlier → (entry : Entry) (chain : Chain) → SureStep before entry world → IsOwn tables before job earlier entry chain → Holds tables world job chain
  own_entry before world job earlier h (Batch moment number place from rows digest duplicates logs changes) chain step is =
      subst (λ s. Holds tables world job s) (sym is.2) (own_batch tables sound before world job earlier h moment number place from rows digest duplicates logs changes step is.0 is.1)
  own_entry before world job earlier h (End moment number place how) chain step is = subst (λ s. Holds tables world job s) (sym is.2) (own_end tables sound before world job earlier h moment number place how step is.0 is.1)
  own_entry before world job earlier h (Cancel moment number) chain step is = subst (λ s. Holds tables world job s) (sym is.1) (own_cancel tables sound before world job earlier h moment number step is.0)
  own_entry before world job earlier h (Start moment number planned) chain step is = absurd is
  own_entry before world job earlier h (Submit moment number id request) chain step is = absurd is

  other_chain : (before : World) (job : ℕ) (earlier : Chain) (entry : Entry) (chain : Chain) → IsOther before job earlier entry chain → chain ≡ earlier
  other_chain before job earlier (Batch moment number place from rows digest duplicates logs changes) chain is = is.2
  other_chain before job earlier (End moment number place how) chain is = is.1
  other_chain before job earlier (Cancel moment number) chain is = is.1
  other_chain before job earlier (Start moment number planned) chain is = is
  other_chain before job earlier (Submit moment number id request) chain is = is

  pub unchanged_holds : (entries : List Entry) (world : World) (job : ℕ) (chain : Chain) → IsUnchanged tables entries world job chain → Holds tables world job chain
  unchanged_holds [] world job chain is = absurd is
  unchanged_holds (entry ∷ older) world job chain is =
      elim is.2 [
        | inl first ↦ begins tables sound is.0 world entry job chain (sure older is.0 entry world first.0 is.1) first.1
        | inr rest ↦ (elim rest [
          | inl next ↦ continues tables sound is.0 world entry job next.0 next.1 chain (unchanged_holds older is.0 next.0 next.1 next.2) (sure older is.0 entry world (world_of tables older is.0 next.0 next.1 next.2) is.1) next.3
          | inr goes ↦ (elim goes.2 [
            | inl own ↦ own_entry is.0 world job goes.0 (unchanged_holds older is.0 job goes.0 goes.1) entry chain (sure older is.0 entry world (world_of tables older is.0 job goes.0 goes.1) is.1) own
            | inr other ↦ subst (λ s. Holds tables world job s) (sym (other_chain is.0 job goes.0 entry chain other)) (other_entry tables is.0 world job goes.0 (unchanged_holds older is.0 job goes.0 goes.1) entry chain (sure older is.0 entry world (world_of tables older is.0 job goes.0 goes.1) is.1) other)
          ])
        ])
      ]

pub unchanged : UnchangedStands
unchanged tables sound entries world job chain is = holds_stands tables world job chain (unchanged_holds tables sound entries world job chain is)
