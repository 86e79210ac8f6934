-- The kept job of an id.
use Rattle.std.specs.Prelude.{◌≡◌, ◌==◌, ℕ, Bool, true, false, cond, List, [], ◌∷◌, None, Some, Result, Ok, Err, refl}
use Rattle.std.specs.List.{Contains}
use Rattle.std.proofs.Common.{ap, subst, ◌∙◌, inl, inr, eqb-true, eq-eqb}
use Rattle.std.proofs.lemmas.Option.{same_Some}
use Rattle.bl_outside.specs.declared.disk.Disk.{Ghosts}
use Rattle.bl_files.proofs.Members.{first_member, later_member, member_cases, no_member}
use Rattle.bl_queue.specs.declared.job.Job.{Job}
use Rattle.bl_queue.specs.Jobs.{job_with_id}
use Rattle.bl_cli.specs.Tags.{HasTag}
use Rattle.bl_engine.specs.Calls.{Looks}
use Rattle.bl_engine.specs.Engines.{View}
use Rattle.bl_engine.specs.declared.refusals.ViewRefusal.{ViewRefusal}
use Rattle.bl_cli.specs.Loads.{FindsLoad}

module _ (id : ℕ) where
  found_there : (jobs : List Job) (it : Job) → job_with_id id jobs ≡ Some it → Contains jobs it × (it.id ≡ id)
  found_there [] it found = absurd (cc (found))
  found_there (job ∷ jobs) it found = by (job.id == id) refl found (found_there jobs it) where
    by : (b : Bool) → (job.id == id) ≡ b → cond b (Some job) (job_with_id id jobs) ≡ Some it → (job_with_id id jobs ≡ Some it → Contains jobs it × (it.id ≡ id)) → Contains (job ∷ jobs) it × (it.id ≡ id)
    by true is found rest =
        let same : job ≡ it = same_Some job it found in
        (subst (λ (j : Job). Contains (job ∷ jobs) j) same (first_member job jobs), subst (λ (j : Job). j.id ≡ id) same (eqb-true job.id id is))
    by false is found rest = let later = rest found in (later_member job jobs it later.0, later.1)

  not_missing : (jobs : List Job) (it : Job) → Contains jobs it → it.id ≡ id → ¬ (job_with_id id jobs ≡ None)
  not_missing [] it there is none = no_member it there
  not_missing (job ∷ jobs) it there is none = by (job.id == id) refl none (λ later. not_missing jobs it later is) where
    by : (b : Bool) → (job.id == id) ≡ b → cond b (Some job) (job_with_id id jobs) ≡ None → (Contains jobs it → ¬ (job_with_id id jobs ≡ None)) → ⊥
    by true same found rest = cc (found)
    by false same found rest =
        elim (member_cases job jobs it there) [
          | inl here ↦ cc (same, eq-eqb job.id id (ap (λ (j : Job). j.id) here ∙ is))
          | inr later ↦ rest later found
        ]

abbrev pub view_err : ViewRefusal → Result Job ViewRefusal
view_err why = Err why

module _ {D : Type 0} (of : Ghosts D) (id : ℕ) (old new : View D) where
  pub never_unknown : HasTag old.world.kept.jobs id → new ≡ old → ¬ (job_with_id id new.world.kept.jobs ≡ None)
  never_unknown it same none = not_missing id old.world.kept.jobs it.0 it.1 it.2 (subst (λ (v : View D). job_with_id id v.world.kept.jobs ≡ None) same none)

  pub finds_ok : (it : Job) → old.ready ≡ true → job_with_id id new.world.kept.jobs ≡ Some it → Looks of old new None → FindsLoad of id old new (Ok it)
  finds_ok it ready found looks = record {
    found = found_there id old.world.kept.jobs it (subst (λ (v : View D). job_with_id id v.world.kept.jobs ≡ Some it) (looks.same ready) found);
    same = looks.same ready;
    handles = looks.handles;
    fault = tt;
  }
