-- A job is blocked in the pass exactly where it is doomed.
use Rattle.std.specs.Prelude.{◌≡◌, ◌+◌, ◌<◌, ◌≤◌, ℕ, ◌==◌, Bool, true, false, not, ◌&&◌, cond, List, [], ◌∷◌, length, take, refl, All, Any, Contains}
use Rattle.std.proofs.Common.{sym, ap, subst, ◌∙◌, arith, inl, inr, get_or, set, suc, zero, get_or-take, get_or-set_same, get_or-set_other, length-set}
use Rattle.std.specs.List.{AllZip, list_any}
use Rattle.std.proofs.lemmas.Bool.{and_parts, and_from, eqb-true, eq-eqb, cases_order, true≢false, cases_eq}
use Rattle.std.proofs.lemmas.List.{get_or_default, length-take}
use Rattle.std.proofs.lemmas.List.Elements.{All-contains}
use Rattle.std.proofs.lemmas.List.Folds.{Any-from_list_any, list_any_at}
use Rattle.bl_queue.specs.declared.job.Job.{Job}
use Rattle.bl_queue.specs.declared.job_status.JobStatus.{JobStatus}
use Rattle.bl_queue.specs.declared.job_status.JobStatus.TheVariants.{NotStarted, InQueue, InProgress, Completed, CancelledByUser, Failed, DependencyNotSatisfied}
use Rattle.bl_queue.specs.Statuses.{has_ended, has_failed}
use Rattle.bl_queue.specs.Jobs.{IsDependency, is_unended, number_in}
use Rattle.bl_queue.specs.Doomed.{IsDoomed, IsFate, LeadsToFailure, unsatisfied}
use Rattle.bl_queue.specs.Pass.{AreOrdered, after_pass, failed_id, is_blocked}

pub not_failed : (s : JobStatus) → not (has_ended s) ≡ true → has_failed s ≡ true → ⊥
not_failed NotStarted h k = true≢false (sym k)
not_failed InQueue h k = true≢false (sym k)
not_failed InProgress h k = true≢false (sym k)
not_failed Completed h k = true≢false (sym k)
not_failed CancelledByUser h k = true≢false (sym h)
not_failed Failed h k = true≢false (sym h)
not_failed DependencyNotSatisfied h k = true≢false (sym h)

-- the jobs of the pass: those before place i have met their fates
pub record IsPassed (moment : ℕ) (before now : List Job) (i : ℕ) : Type 0 where
  pub same : length now ≡ length before
  pub done : (k : ℕ) (d : Job) → k < i → IsFate moment before (get_or before k d) (get_or now k d)
  pub rest : (k : ℕ) (d : Job) → i ≤ k → get_or now k d ≡ get_or before k d

pub passed_none : (moment : ℕ) (before : List Job) → IsPassed moment before before 0
passed_none moment before = record { same = refl; done = λ k d below. absurd (omega arith); rest = λ k d above. refl }

module _ (moment : ℕ) (before : List Job) (ordered : AreOrdered before) where
  -- a job that failed among those that are done leads there
  pub leads : (job old other : Job) → is_unended job ≡ true → IsDependency before job old → has_failed other.status ≡ true → IsFate moment before old other → (walk : List Job) × LeadsToFailure before job walk
  leads job old other unended dependency failed (inl fate) = (old ∷ fate.0.1, (unended, dependency, fate.0.2))
  leads job old other unended dependency failed (inr fate) = (old ∷ [], (unended, dependency, ap (λ (j : Job). has_failed j.status) (sym fate.1) ∙ failed))

  same_id : (old other : Job) → IsFate moment before old other → other.id ≡ old.id
  same_id old other (inl fate) = ap (λ (j : Job). j.id) fate.1
  same_id old other (inr fate) = ap (λ (j : Job). j.id) fate.1

  pub blocked_is_doomed : (now : List Job) (i : ℕ) (job : Job) → IsPassed moment before now i → i < length before → is_blocked (take i now) job ≡ true → IsDoomed before job
  blocked_is_doomed now i job passed within blocked =
      let parts = and_parts (is_unended job) (list_any (λ id. failed_id (take i now) id) job.request.dependencies) blocked in
      let named : Any (λ id. failed_id (take i now) id ≡ true) job.request.dependencies = Any-from_list_any (λ id. failed_id (take i now) id) job.request.dependencies parts.1 in
      let there : Any (λ (other : Job). (other.id == named.1 && has_failed other.status) ≡ true) (take i now) = Any-from_list_any (λ (other : Job). other.id == named.1 && has_failed other.status) (take i now) named.4 in
      let other : Job = there.1 in
      let j : ℕ = there.0 in
      let below : j < i = omega (arith, length-take i now, there.2) in
      let inside : j < length before = omega arith in
      let is_other : get_or now j other ≡ other = sym (get_or-take i now j other below) ∙ there.3 in
      let both = and_parts (other.id == named.1) (has_failed other.status) there.4 in
      let old : Job = get_or before j other in
      let fate : IsFate moment before old other = subst (λ x. IsFate moment before old x) is_other (passed.done j other below) in
      let id_is : named.1 ≡ old.id = sym (eqb-true other.id named.1 both.0) ∙ same_id old other fate in
      let dependency : IsDependency before job old = ((j, inside, get_or_default before j old other inside), subst (λ x. Contains job.request.dependencies x) id_is (named.0, named.2, named.3)) in
      let walk = leads job old other parts.0 dependency both.1 fate in
      (parts.0, walk.0, walk.1)

  -- what is doomed or has failed has failed once it is done
  failed_then : (next other : Job) (walk : List Job) → LeadsToFailure before next walk → IsFate moment before next other → has_failed other.status ≡ true
  failed_then next other walk walks (inl fate) = ap (λ (j : Job). has_failed j.status) fate.1
  failed_then next other [] walks (inr fate) = ap (λ (j : Job). has_failed j.status) fate.1 ∙ walks
  failed_then next other (x ∷ walk) walks (inr fate) = absurd (fate.0 (walks.0, x ∷ walk, walks))

  -- a dependency stands before the job
  stands_before : (i j : ℕ) (job next : Job) → i < length before → j < length before → get_or before i job ≡ job → get_or before j next ≡ next → next.number < job.number → j < i
  stands_before i j job next within inside is_job is_next less =
      elim (cases_order i j) [
        | inl same ↦ absurd (let e : job ≡ next = sym is_job ∙ get_or_default before i job next within ∙ ap (λ k. get_or before k next) same ∙ is_next in let n : job.number ≡ next.number = ap (λ (x : Job). x.number) e in omega arith)
        | inr (inl above) ↦ absurd (let up : (get_or before i job).number < (get_or before j job).number = ordered.rising i j job above inside in let one : (get_or before i job).number ≡ job.number = ap (λ (x : Job). x.number) is_job in let two : (get_or before j job).number ≡ next.number = ap (λ (x : Job). x.number) (get_or_default before j job next inside ∙ is_next) in omega arith)
        | inr (inr below) ↦ below
      ]

  pub dependency_stands : (i : ℕ) (job next : Job) → i < length before → get_or before i job ≡ job → is_unended job ≡ true → (dependency : IsDependency before job next) → dependency.0.0 < i
  dependency_stands i job next within is_job unended dependency =
      let kept : Contains before next = dependency.0 in
      let number : number_in next.id ≡ next.number = All-contains (λ (x : Job). number_in x.id ≡ x.number) before next ordered.ids kept in
      let earlier : All (λ id. number_in id < job.number) job.request.dependencies = All-contains (λ (x : Job). is_unended x ≡ true → All (λ id. number_in id < x.number) x.request.dependencies) before job ordered.earlier (i, within, is_job) unended in
      let less : number_in next.id < job.number = All-contains (λ id. number_in id < job.number) job.request.dependencies next.id earlier dependency.1 in
      stands_before i kept.0 job next within kept.1 is_job kept.2 (omega arith)

  named_failed : (now : List Job) (i j : ℕ) (job next other : Job) → i ≤ length now → j < i → get_or now j other ≡ other → is_unended job ≡ true → Contains job.request.dependencies next.id → other.id ≡ next.id → has_failed other.status ≡ true → is_blocked (take i now) job ≡ true
  named_failed now i j job next other within below is_other unended named id_is failed =
      let inside : j < length (take i now) = omega (arith, length-take i now) in
      let at : get_or (take i now) j other ≡ other = get_or-take i now j other below ∙ is_other in
      let here : failed_id (take i now) next.id ≡ true = list_any_at (λ (x : Job). x.id == next.id && has_failed x.status) (take i now) j other inside (ap (λ (x : Job). x.id == next.id && has_failed x.status) at ∙ and_from (other.id == next.id) (has_failed other.status) (eq-eqb other.id next.id id_is) failed) in
      and_from (is_unended job) (list_any (λ id. failed_id (take i now) id) job.request.dependencies) unended
      (list_any_at (λ id. failed_id (take i now) id) job.request.dependencies named.0 next.id named.1 (ap (λ id. failed_id (take i now) id) named.2 ∙ here))

  pub doomed_is_blocked : (now : List Job) (i : ℕ) (job : Job) → IsPassed moment before now i → i < length before → get_or before i job ≡ job → IsDoomed before job → is_blocked (take i now) job ≡ true
  doomed_is_blocked now i job passed within is_job doomed = walked doomed.1 doomed.2 where
    walked : (walk : List Job) → LeadsToFailure before job walk → is_blocked (take i now) job ≡ true
    walked [] failed = absurd (not_failed job.status doomed.0 failed)
    walked (next ∷ walk) walks =
        let kept : Contains before next = walks.1.0 in
        let at : get_or before kept.0 next ≡ next = kept.2 in
        let below : kept.0 < i = dependency_stands i job next within is_job doomed.0 walks.1 in
        let other : Job = get_or now kept.0 next in
        let same : length now ≡ length before = passed.same in
        let fate : IsFate moment before next other = subst (λ x. IsFate moment before x other) at (passed.done kept.0 next below) in
        let is_other : get_or now kept.0 other ≡ other = get_or_default now kept.0 other next (omega arith) in
        named_failed now i kept.0 job next other (omega arith) below is_other doomed.0 walks.1.1 (same_id next other fate) (failed_then next other walk walks.2 fate)

  fate_by : (now : List Job) (i : ℕ) (job : Job) (b : Bool) → is_blocked (take i now) job ≡ b → IsPassed moment before now i → i < length before → get_or before i job ≡ job → IsFate moment before job (cond b (unsatisfied moment job) job)
  fate_by now i job true is passed within is_job = inl (blocked_is_doomed now i job passed within is, refl)
  fate_by now i job false is passed within is_job = inr ((λ doomed. true≢false (sym (doomed_is_blocked now i job passed within is_job doomed) ∙ is)), refl)

  fate : (now : List Job) (i : ℕ) (d : Job) → IsPassed moment before now i → i < length before → IsFate moment before (get_or before i d) (after_pass moment (take i now) (get_or before i d))
  fate now i d passed within =
      let job : Job = get_or before i d in
      fate_by now i job (is_blocked (take i now) job) refl passed within (get_or_default before i job d within)

  pub passed_more : (now new : List Job) (i : ℕ) → IsPassed moment before now i → i < length before → ((d : Job) → new ≡ set now i (after_pass moment (take i now) (get_or now i d))) → IsPassed moment before new (i + 1)
  passed_more now new i passed within step = record {
    same = more_same;
    done = λ k d below. elim (cases_eq k i) [
      | inl same ↦ subst (λ m. IsFate moment before (get_or before m d) (get_or new m d)) (sym same) (here d)
      | inr other ↦ subst (λ x. IsFate moment before (get_or before k d) x) (sym (away k d other)) (passed.done k d (omega arith))
    ];
    rest = λ k d above. let other : k ≡ i → ⊥ = λ (e : k ≡ i). omega arith in away k d other ∙ passed.rest k d (omega arith);
  } where
    away : (k : ℕ) (d : Job) → (k ≡ i → ⊥) → get_or new k d ≡ get_or now k d
    away k d other = ap (λ l. get_or l k d) (step d) ∙ get_or-set_other now i k _ d other

    here : (d : Job) → IsFate moment before (get_or before i d) (get_or new i d)
    here d =
        let same : length now ≡ length before = passed.same in
        let at : get_or now i d ≡ get_or before i d = passed.rest i d (omega arith) in
        let is : get_or new i d ≡ after_pass moment (take i now) (get_or before i d) = ap (λ l. get_or l i d) (step d) ∙ get_or-set_same now i _ d (omega arith) ∙ ap (after_pass moment (take i now)) at in
        subst (λ x. IsFate moment before (get_or before i d) x) (sym is) (fate now i d passed within)

    more_same : length new ≡ length before
    more_same = sized before refl where
      sized : (all : List Job) → before ≡ all → length new ≡ length before
      sized [] is = absurd (let e : length before ≡ 0 = ap length is in omega arith)
      sized (d ∷ all) is = ap length (step d) ∙ length-set now i _ ∙ passed.same

pub zip_same : (R : Job → Job → Type 0) (xs ys : List Job) → AllZip R xs ys → length xs ≡ length ys
zip_same R [] [] zip = refl
zip_same R [] (y ∷ ys) zip = absurd zip
zip_same R (x ∷ xs) [] zip = absurd zip
zip_same R (x ∷ xs) (y ∷ ys) zip = ap suc (zip_same R xs ys zip.1)

pub zip_at : (R : Job → Job → Type 0) (xs ys : List Job) → AllZip R xs ys → (k : ℕ) (d : Job) → k < length xs → R (get_or xs k d) (get_or ys k d)
zip_at R [] [] zip k d below = absurd (omega arith)
zip_at R [] (y ∷ ys) zip k d below = absurd zip
zip_at R (x ∷ xs) [] zip k d below = absurd zip
zip_at R (x ∷ xs) (y ∷ ys) zip zero d below = zip.0
zip_at R (x ∷ xs) (y ∷ ys) zip (suc k) d below = zip_at R xs ys zip.1 k d (omega arith)

pub all_zip : (R : Job → Job → Type 0) (xs ys : List Job) → length xs ≡ length ys → ((k : ℕ) (d : Job) → k < length xs → R (get_or xs k d) (get_or ys k d)) → AllZip R xs ys
all_zip R [] [] same each = tt
all_zip R [] (y ∷ ys) same each = absurd (omega arith)
all_zip R (x ∷ xs) [] same each = absurd (omega arith)
all_zip R (x ∷ xs) (y ∷ ys) same each = (each 0 x (omega arith), all_zip R xs ys (omega arith) (λ k d below. each (suc k) d (omega arith)))
