-- Any number of calls, and one more.
use Rattle.std.proofs.Common.{◌≡◌, ◌⊎◌, inl, inr, ⊎_elim, ℕ, List, [], ◌∷◌, ◌++◌, None, Some, refl, sym, ◌∙◌, ap, subst}
use Rattle.std.specs.declared.option.Option.{Option}
use Rattle.bl_outside.specs.declared.disk.Disk.{Ghosts}
use Rattle.bl_outside.proofs.Moments.{started, then_runs}
use Rattle.bl_entry.specs.declared.entry.Entry.{Entry}
use Rattle.bl_world.specs.Worlds.{World}
use Rattle.bl_world.specs.States.{Appends, AreNew, Fails, IsNew, Rests, Settles, State, Stood, at_rest, unsure}
use Rattle.bl_engine.specs.Images.{IsImageOf}
use Rattle.bl_engine.specs.Engines.{Stays, View}
use Rattle.bl_engine.specs.Calls.{Answers, Breaks, Commits, Drains, Reaches, Settled}
use Rattle.bl_engine.proofs.Settling.{stays_now}

-- ---- states

module _ (makes : World → Entry → Type 0) (from : State) where
  -- what the first state has grown to, where nothing is pending
  pub record Grown (entries : List Entry) : Type 0 where
    pub old : List Entry
    pub new : List Entry
    pub settles : Settles from old
    pub are : AreNew makes old new
    pub same : entries ≡ new ++ old

  grown : (between : State) (entries : List Entry) → Reaches makes from between → Settles between entries → Grown entries
  grown between entries (inl still) settles = record { old = entries; new = []; settles = subst (λ (t : State). Settles t entries) still settles; are = tt; same = refl }
  grown between entries (inr g) settles = by g.4 where
    by : (between ≡ at_rest (g.1 ++ g.0)) ⊎ ((entry : Entry) × IsNew makes (g.1 ++ g.0) entry × (between ≡ unsure (g.1 ++ g.0) entry)) → Grown entries
    by (inl rest) = record { old = g.0; new = g.1; settles = g.2; are = g.3; same = subst (λ (t : State). Settles t entries) rest settles }
    by (inr p) = ⊎_elim (λ same. record { old = g.0; new = g.1; settles = g.2; are = g.3; same = same }) (λ same. record { old = g.0; new = p.0 ∷ g.1; settles = g.2; are = (g.3, p.1); same = same })
        (subst (λ (t : State). Settles t entries) p.2 settles)

  reaches_rest : (entries : List Entry) (to : State) → Grown entries → to ≡ at_rest entries → Reaches makes from to
  reaches_rest entries to r is = inr (r.old, r.new, r.settles, r.are, inl (is ∙ ap at_rest r.same))

  reaches_unsure : (entries : List Entry) (entry : Entry) (to : State) → Grown entries → IsNew makes entries entry → to ≡ unsure entries entry → Reaches makes from to
  reaches_unsure entries entry to r made is = inr (r.old, r.new, r.settles, r.are, inr (entry, subst (λ l. IsNew makes l entry) r.same made, is ∙ ap (λ l. unsure l entry) r.same))

  reaches_new : (entries : List Entry) (entry : Entry) (to : State) → Grown entries → IsNew makes entries entry → to ≡ at_rest (entry ∷ entries) → Reaches makes from to
  reaches_new entries entry to r made is = inr (r.old, entry ∷ r.new, r.settles, (r.are, subst (λ l. IsNew makes l entry) r.same made), inl (is ∙ ap (λ l. at_rest (entry ∷ l)) r.same))

  pub reaches_appends : (between to : State) → Reaches makes from between → Appends makes between to → Reaches makes from to
  reaches_appends between to g a = reaches_new a.0 a.1 to (grown between a.0 g a.2) a.3 a.4

  pub reaches_rests : (Is : World → Type 0) (between to : State) → Reaches makes from between → Rests Is between to → Reaches makes from to
  reaches_rests Is between to g r = reaches_rest r.0 to (grown between r.0 g r.2) r.5

  pub reaches_fails : (between to : State) → Reaches makes from between → Fails makes between to → Reaches makes from to
  reaches_fails between to g (inl same) = subst (λ t. Reaches makes from t) (sym same) g
  reaches_fails between to g (inr f) = ⊎_elim (λ rest. reaches_rest f.0 to (grown between f.0 g f.1) rest) (λ p. reaches_unsure f.0 p.0 to (grown between f.0 g f.1) p.1 p.2) f.2

-- ---- what one call makes, another relation may allow

module _ (one makes : World → Entry → Type 0) (fits : (world : World) (entry : Entry) → one world entry → makes world entry) where
  new_fits : (entries : List Entry) (entry : Entry) → IsNew one entries entry → IsNew makes entries entry
  new_fits entries entry is = record { before = is.before; of = is.of; made = fits is.before entry is.made; world = is.world; step = is.step }

  appends_fits : (from to : State) → Appends one from to → Appends makes from to
  appends_fits from to a = (a.0, a.1, a.2, new_fits a.0 a.1 a.3, a.4)

  fails_fits : (from to : State) → Fails one from to → Fails makes from to
  fails_fits from to (inl same) = inl same
  fails_fits from to (inr f) = inr (f.0, f.1, ⊎_elim (λ rest. inl rest) (λ p. inr (p.0, new_fits f.0 p.0 p.1, p.2)) f.2)

-- ---- calls

module _ {D : Type 0} (of : Ghosts D) (makes : World → Entry → Type 0) where
  -- no call yet
  pub drains_none : ((disk : D) (c : List ℕ) → of.left_since disk (of.moment disk) c → of.may_leave disk c) → (engine : View D) (s : State) → Stays of engine s → Drains of makes engine engine s
  drains_none only engine s stays = record {
    to = s;
    reaches = inl refl;
    stays = stays;
    since = started of.moment of.left_since engine.journal.disk (λ c. (between : State) × Reaches makes s between × IsImageOf between c)
        (λ c left. (s, inl refl, stays_now of engine s stays c (only engine.journal.disk c left)));
    left = refl;
    right = refl;
  }

  module _ (old mid new : View D) (from : State) (d : Drains of makes old mid from) (left : new.left ≡ mid.left) (right : new.right ≡ mid.right) where
    drains_on : (to : State) → Reaches makes from to → Answers of mid new d.to to → Drains of makes old new from
    drains_on to reaches a = record {
      to = to;
      reaches = reaches;
      stays = a.stays;
      since = then_runs of.moment of.left_since old.journal.disk mid.journal.disk new.journal.disk (λ c. (between : State) × Reaches makes from between × IsImageOf between c) (λ c. IsImageOf d.to c ⊎ IsImageOf to c) d.since a.since
          (λ c. ⊎_elim (λ i. (d.to, d.reaches, i)) (λ i. (to, reaches, i)));
      left = left ∙ d.left;
      right = right ∙ d.right;
    }

    -- one more is done, or fails
    module _ (one : World → Entry → Type 0) (fits : (world : World) (entry : Entry) → one world entry → makes world entry) where
      pub drains_commits : Commits of one mid new d.to → Drains of makes old new from
      drains_commits c = drains_on c.0 (reaches_appends makes from d.to c.0 d.reaches (appends_fits one makes fits d.to c.0 c.1)) c.2

      pub drains_breaks : Breaks of one mid new d.to → Drains of makes old new from
      drains_breaks b = drains_on b.0 (reaches_fails makes from d.to b.0 d.reaches (fails_fits one makes fits d.to b.0 b.1)) b.2

    -- or appends nothing
    pub drains_settled : (Is : World → Type 0) → Settled of Is mid new d.to → Drains of makes old new from
    drains_settled Is t = drains_on t.0 (reaches_rests makes from Is d.to t.0 d.reaches t.1) t.2

    -- or could not open the engine
    pub drains_still : Answers of mid new d.to d.to → Drains of makes old new from
    drains_still a = drains_on d.to d.reaches a
