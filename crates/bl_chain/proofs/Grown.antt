-- States that grow.
use Rattle.std.specs.Prelude.{◌≡◌, List, [], ◌∷◌, ◌++◌}
use Rattle.std.proofs.Common.{sym, ap, subst, ◌∙◌, inl, inr}
use Rattle.bl_entry.specs.declared.entry.Entry.{Entry}
use Rattle.bl_world.specs.States.{AreNew, Fails, Grows, GrowsOn, IsNew, Settles, State, at_rest, unsure}
use Rattle.bl_world.specs.Worlds.{World}
use Rattle.bl_chain.specs.Folders.{AreTablesOf}
use Rattle.bl_chain.specs.GrownStores.{StoresGrow}
use Rattle.bl_chain.specs.MadeEntries.{IsMade}

settled : (from : State) (a b : List Entry) → from ≡ at_rest a → Settles from b → b ≡ a
settled from a b is settles = subst (λ s. Settles s b) is settles

-- a call more
pub grows_on : GrowsOn
grows_on makes from between to grown appends = elim grown.4 [
  | inl rest ↦
      (let same : appends.0 ≡ grown.1 ++ grown.0 = settled between (grown.1 ++ grown.0) appends.0 rest appends.2 in
      (grown.0, appends.1 ∷ grown.1, grown.2, (grown.3, subst (λ l. IsNew makes l appends.1) same appends.3), inl (appends.4 ∙ ap (λ l. at_rest (appends.1 ∷ l)) same)))
  | inr pending ↦ (elim (subst (λ s. Settles s appends.0) pending.2 appends.2) [
    | inl lost ↦ (grown.0, appends.1 ∷ grown.1, grown.2, (grown.3, subst (λ l. IsNew makes l appends.1) lost appends.3), inl (appends.4 ∙ ap (λ l. at_rest (appends.1 ∷ l)) lost))
    | inr kept ↦ (grown.0, appends.1 ∷ (pending.0 ∷ grown.1), grown.2, ((grown.3, pending.1), subst (λ l. IsNew makes l appends.1) kept appends.3), inl (appends.4 ∙ ap (λ l. at_rest (appends.1 ∷ l)) kept))
  ])
]

-- a call that isn't done
pub grows_fails : (makes : World → Entry → Type 0) (from between to : State) → Grows makes from between → Fails makes between to → Grows makes from to
grows_fails makes from between to grown (inl same) = subst (λ s. Grows makes from s) (sym same) grown
grows_fails makes from between to grown (inr more) = elim more.2 [
  | inl rest ↦ by rest
  | inr pending ↦ (pend pending)
] where
  -- the entries that were settled are new ones behind the older list
  settles : (new : List Entry) × AreNew makes grown.0 new × (more.0 ≡ new ++ grown.0)
  settles = elim grown.4 [
    | inl rest ↦ (grown.1, grown.3, settled between (grown.1 ++ grown.0) more.0 rest more.1)
    | inr pending ↦ (elim (subst (λ s. Settles s more.0) pending.2 more.1) [
      | inl lost ↦ (grown.1, grown.3, lost)
      | inr kept ↦ (pending.0 ∷ grown.1, (grown.3, pending.1), kept)
    ])
  ]

  by : to ≡ at_rest more.0 → Grows makes from to
  by rest = (grown.0, settles.0, grown.2, settles.1, inl (rest ∙ ap at_rest settles.2))

  pend : ((entry : Entry) × IsNew makes more.0 entry × (to ≡ unsure more.0 entry)) → Grows makes from to
  pend p = (grown.0, settles.0, grown.2, settles.1, inr (p.0, subst (λ l. IsNew makes l p.0) settles.2 p.1, p.2 ∙ ap (λ l. unsure l p.0) settles.2))

-- an earlier list
pub new_part : (makes : World → Entry → Type 0) (old later part : List Entry) → AreNew makes old (later ++ part) → AreNew makes old part
new_part makes old [] part are = are
new_part makes old (entry ∷ later) part are = new_part makes old later part are.0

pub stores_grow : StoresGrow
stores_grow files = record {
  appends = grows_on (IsMade (AreTablesOf files));
  fails = grows_fails (IsMade (AreTablesOf files));
  earlier = new_part (IsMade (AreTablesOf files));
}
