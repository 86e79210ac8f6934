-- A load that is taken on is kept.
use Rattle.std.specs.Prelude.{◌≡◌, ℕ, ◌+◌, nat_lt, Bool, true, false, not, cond, List, [], ◌∷◌, ◌++◌, length, map, remove, refl}
use Rattle.std.specs.List.{AllZip, Contains, position_or_len}
use Rattle.std.proofs.Common.{sym, ap, subst, ◌∙◌, inl, inr, suc, arith}
use Rattle.std.proofs.lemmas.Bool.{true≢false}
use Rattle.std.proofs.lemmas.List.Elements.{Contains-push}
use Rattle.std.proofs.lemmas.List.Recursion.{is_position_or_len}
use Rattle.bl_files.specs.declared.load_request.LoadRequest.{LoadRequest}
use Rattle.bl_files.proofs.Members.{first_member, later_member, member_cases, no_member}
use Rattle.bl_queue.specs.declared.job.Job.{Job}
use Rattle.bl_queue.specs.declared.job_status.JobStatus.TheVariants.{NotStarted}
use Rattle.bl_queue.specs.Changes.{IsSubmitted, new_job, trimmed}
use Rattle.bl_queue.specs.Doomed.{IsDoomed, IsFate, IsSettled, LeadsToFailure, called_up, with_front}
use Rattle.bl_queue.specs.Jobs.{Kept, is_unended, waits}
use Rattle.bl_queue.specs.Limits.{most_kept}
use Rattle.bl_queue.specs.Statuses.{has_ended}
use Rattle.bl_world.specs.LoadIds.{load_number}
use Rattle.bl_load.specs.SameJobs.{Tag, tag_of}
use Rattle.bl_cli.specs.Tags.{HasTaken}

-- a tag is that of a job
pub tag_member : (jobs : List Job) (tag : Tag) → Contains (map tag_of jobs) tag → (it : Job) × Contains jobs it × (tag_of it ≡ tag)
tag_member [] tag there = no_member tag there
tag_member (job ∷ jobs) tag there =
    elim (member_cases (tag_of job) (map tag_of jobs) tag there) [
      | inl same ↦ (job, first_member job jobs, same)
      | inr later ↦ (let r = tag_member jobs tag later in (r.0, later_member job jobs r.0 r.1, r.2))
    ]

member_tag : (jobs : List Job) (it : Job) → Contains jobs it → Contains (map tag_of jobs) (tag_of it)
member_tag [] it there = no_member it there
member_tag (job ∷ jobs) it there =
    elim (member_cases job jobs it there) [
      | inl same ↦ subst (λ (j : Job). Contains (tag_of job ∷ map tag_of jobs) (tag_of j)) same (first_member (tag_of job) (map tag_of jobs))
      | inr later ↦ later_member (tag_of job) (map tag_of jobs) (tag_of it) (member_tag jobs it later)
    ]

-- an unended job with the tag
abbrev HasUnended : Tag → List Job → Type 0
HasUnended tag jobs = (it : Job) × Contains jobs it × (is_unended it ≡ true) × (tag_of it ≡ tag)

more : (tag : Tag) (job : Job) (jobs : List Job) → HasUnended tag jobs → HasUnended tag (job ∷ jobs)
more tag job jobs has = (has.0, later_member job jobs has.0 has.1, has.2, has.3)

-- ---- it meets no other fate

zip_keeps : (moment : ℕ) (all xs ys : List Job) (it : Job) → ¬ IsDoomed all it → Contains xs it → AllZip (IsFate moment all) xs ys → Contains ys it
zip_keeps moment all [] ys it safe there zip = no_member it there
zip_keeps moment all (x ∷ xs) [] it safe there zip = absurd zip
zip_keeps moment all (x ∷ xs) (y ∷ ys) it safe there zip =
    elim (member_cases x xs it there) [
      | inl same ↦ subst (λ (j : Job). Contains (y ∷ ys) j) (by (subst (λ (j : Job). IsFate moment all j y) same zip.0)) (first_member y ys)
      | inr later ↦ later_member y ys it (zip_keeps moment all xs ys it safe later zip.1)
    ] where
      by : IsFate moment all it y → y ≡ it
      by (inl fate) = absurd (safe fate.0)
      by (inr fate) = fate.1

-- ---- it is called up, or stays

called_tag : (job : Job) → is_unended job ≡ true → (is_unended (called_up job) ≡ true) × (tag_of (called_up job) ≡ tag_of job)
called_tag job unended = by (waits job) where
  by : (b : Bool) → (is_unended (cond b (record job { status = NotStarted }) job) ≡ true) × (tag_of (cond b (record job { status = NotStarted }) job) ≡ tag_of job)
  by true = (refl, refl)
  by false = (unended, refl)

front_keeps : (tag : Tag) (jobs : List Job) → HasUnended tag jobs → HasUnended tag (with_front jobs)
front_keeps tag [] has = no_member has.0 has.1
front_keeps tag (job ∷ jobs) has = by (is_unended job) refl (λ later. front_keeps tag jobs later) where
  by : (b : Bool) → is_unended job ≡ b → (HasUnended tag jobs → HasUnended tag (with_front jobs)) → HasUnended tag (cond b (called_up job ∷ jobs) (job ∷ with_front jobs))
  by true is rest =
      elim (member_cases job jobs has.0 has.1) [
        | inl same ↦ (let called = called_tag job is in (called_up job, first_member (called_up job) jobs, called.0, called.1 ∙ ap tag_of same ∙ has.3))
        | inr later ↦ more tag (called_up job) jobs (has.0, later, has.2, has.3)
      ]
  by false is rest =
      elim (member_cases job jobs has.0 has.1) [
        | inl same ↦ absurd (true≢false (sym has.2 ∙ sym (ap is_unended same) ∙ is))
        | inr later ↦ more tag job (with_front jobs) (rest (has.0, later, has.2, has.3))
      ]

-- ---- it isn't the one that goes

abbrev first_ended : List Job → ℕ
first_ended [] = 0
first_ended (job ∷ jobs) = cond (has_ended job.status) 0 (suc (first_ended jobs))

first_is : (jobs : List Job) → first_ended jobs ≡ position_or_len (λ job. has_ended job.status) jobs
first_is = is_position_or_len first_ended (λ (job : Job). has_ended job.status) refl (λ job jobs. ap (λ n. cond (has_ended job.status) 0 n) (one_more (first_ended jobs))) where
  one_more : (n : ℕ) → suc n ≡ 1 + n
  one_more n = omega arith

removed_keeps : (tag : Tag) (jobs : List Job) → HasUnended tag jobs → HasUnended tag (remove jobs (first_ended jobs))
removed_keeps tag [] has = no_member has.0 has.1
removed_keeps tag (job ∷ jobs) has = by (has_ended job.status) refl (λ later. removed_keeps tag jobs later) where
  by : (b : Bool) → has_ended job.status ≡ b → (HasUnended tag jobs → HasUnended tag (remove jobs (first_ended jobs))) → HasUnended tag (remove (job ∷ jobs) (cond b 0 (suc (first_ended jobs))))
  by true is rest =
      elim (member_cases job jobs has.0 has.1) [
        | inl same ↦ absurd (true≢false (sym has.2 ∙ sym (ap is_unended same) ∙ ap not is))
        | inr later ↦ (has.0, later, has.2, has.3)
      ]
  by false is rest =
      elim (member_cases job jobs has.0 has.1) [
        | inl same ↦ (has.0, subst (λ (j : Job). Contains (job ∷ remove jobs (first_ended jobs)) j) same (first_member job (remove jobs (first_ended jobs))), has.2, has.3)
        | inr later ↦ more tag job (remove jobs (first_ended jobs)) (rest (has.0, later, has.2, has.3))
      ]

trimmed_keeps : (tag : Tag) (jobs : List Job) → HasUnended tag jobs → HasUnended tag (trimmed jobs)
trimmed_keeps tag jobs has = by (nat_lt most_kept (length jobs)) where
  by : (b : Bool) → HasUnended tag (cond b (remove jobs (position_or_len (λ job. has_ended job.status) jobs)) jobs)
  by true = subst (λ n. HasUnended tag (remove jobs n)) (first_is jobs) (removed_keeps tag jobs has)
  by false = has

-- ---- a load that depends on no other

module _ (moment number id : ℕ) (request : LoadRequest) (free : request.dependencies ≡ []) where
  abbrev fresh : Job
  fresh = new_job moment number id request

  no_walk : (jobs : List Job) (walk : List Job) → ¬ LeadsToFailure jobs fresh walk
  no_walk jobs [] failed = true≢false (sym failed)
  no_walk jobs (next ∷ walk) leads = no_member next.id (subst (λ (ids : List ℕ). Contains ids next.id) free leads.1.1)

  safe : (jobs : List Job) → ¬ IsDoomed jobs fresh
  safe jobs doomed = no_walk jobs doomed.1 doomed.2

  settled_keeps : (jobs after : List Job) → IsSettled moment (jobs ++ fresh ∷ []) after → HasUnended (tag_of fresh) after
  settled_keeps jobs after settled =
      let all : List Job = jobs ++ fresh ∷ [] in
      let there : Contains settled.0 fresh = zip_keeps moment all all settled.0 fresh (safe all) (Contains-push jobs fresh) settled.1 in
      subst (λ l. HasUnended (tag_of fresh) l) (sym settled.2) (front_keeps (tag_of fresh) settled.0 (fresh, there, refl, refl))

pub submitted_taken : (salt moment id : ℕ) (request : LoadRequest) (old new : Kept) → request.dependencies ≡ [] → id ≡ load_number salt (old.last + 1) → IsSubmitted moment id request old new
    → HasTaken salt request old new id
submitted_taken salt moment id request old new free id_is submitted =
    let cut = submitted.1 in
    let tag : Tag = record { number = old.last + 1; id = id; request = request } in
    let kept : HasUnended tag submitted.0 =
    subst (λ l. HasUnended tag l) (sym cut.2) (trimmed_keeps tag cut.0 (settled_keeps moment (old.last + 1) id request free old.jobs cut.0 cut.1)) in
    let there : Contains (map tag_of submitted.0) tag = subst (λ t. Contains (map tag_of submitted.0) t) kept.3 (member_tag submitted.0 kept.0 kept.1) in
    record { id_is = id_is; there = subst (λ (k : Kept). Contains (map tag_of k.jobs) tag) (sym submitted.2) there }
