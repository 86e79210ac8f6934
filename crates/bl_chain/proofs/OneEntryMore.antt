-- One entry more of a load over unchanged files.
use Rattle.std.specs.Prelude.{◌≡◌, ℕ, ◌+◌, ◌<◌, nat_eq, nat_lt, Bool, true, false, cond, List, [], ◌∷◌, ◌++◌, find, reverse, option_and_then, refl, Contains, Some, None}
use Rattle.std.specs.declared.option.Option.{Option}
use Rattle.std.specs.Cmp.Lexicographic.{pointwise}
use Rattle.std.proofs.Common.{sym, ap, subst, ◌∙◌, inl, inr}
use Rattle.std.proofs.lemmas.Bool.{cases_eq, and_parts, ltb-true}
use Rattle.std.proofs.lemmas.Slice.Eq.{bytes_eq-Decides}
use Rattle.bl_files.specs.declared.feed.Feed.{Feed}
use Rattle.bl_files.specs.declared.feed_end.FeedEnd.{FeedEnd}
use Rattle.bl_files.specs.declared.found.Found.{Found}
use Rattle.bl_files.specs.declared.feed_end.FeedEnd.TheVariants as end
use Rattle.bl_files.specs.declared.load_request.LoadRequest.{LoadRequest}
use Rattle.bl_files.specs.declared.mode.Mode.{Mode}
use Rattle.bl_files.specs.declared.mode.Mode.TheVariants.{New, Resume, Auto}
use Rattle.bl_files.specs.declared.plan_result.PlanResult.TheVariants as plan
use Rattle.bl_queue.specs.declared.job.Job.{Job}
use Rattle.bl_queue.specs.Jobs.{front_job, job_of}
use Rattle.bl_queue.specs.Previous.{may_go_before, previous_job}
use Rattle.bl_queue.specs.Runs.{by_mode, feeds_of, goes_on_from}
use Rattle.bl_queue.proofs.ChangedJobs.{front_found, front_in, some_is}
use Rattle.bl_entry.specs.declared.entry.Entry.{Entry}
use Rattle.bl_entry.specs.declared.entry.Entry.TheVariants.{Submit, Cancel, Start, Batch, FeedEnd as End}
use Rattle.bl_world.proofs.OneWorld.{one_world}
use Rattle.bl_world.proofs.SureWorlds.{have_jobs}
use Rattle.bl_world.specs.States.{AreNew, IsNew}
use Rattle.bl_world.specs.Worlds.{FitsStart, IsWorldOf, Step, World}
use Rattle.bl_chain.specs.Chains.{Begins, Chain, Continues, HaveSameOptions, IsOther, IsOwn, begun_chain}
use Rattle.bl_chain.specs.Folders.{Folder, IsFolder}
use Rattle.bl_chain.specs.MadeEntries.{IsMade}
use Rattle.bl_chain.specs.Resumption.{IsNextChain, IsQuiet, KeepsUnchanged, MayResume, Resumes, Unchanged, UnchangedBegins, UnchangedContinues}
use Rattle.bl_chain.specs.Tables.{Table}
use Rattle.bl_chain.specs.Turns.{IsEndMade, IsEndOf, IsPlanOf}
use Rattle.bl_chain.proofs.Chained.{unchanged, unchanged_holds, world_of}
use Rattle.bl_chain.proofs.Holdings.{Holds, JobHolds}
use Rattle.bl_chain.proofs.StartedLoads.{older_in}

abbrev source_of : LoadRequest → List ℕ
source_of r = r.source

-- the load that one goes on from has the same source
find_passes : (p : Job → Bool) (xs : List Job) (x : Job) → find p xs ≡ Some x → p x ≡ true
find_passes p [] x h = absurd (cc)
find_passes p (y ∷ xs) x h = by (p y) refl h (find_passes p xs x) where
  by : (b : Bool) → p y ≡ b → cond b (Some y) (find p xs) ≡ Some x → (find p xs ≡ Some x → p x ≡ true) → p x ≡ true
  by true is h rest = ap p (sym (some_is y x h)) ∙ is
  by false is h rest = rest h

goes_before : (jobs : List Job) (number : ℕ) (it older : Job) → job_of number jobs ≡ Some it → goes_on_from jobs number ≡ Some older → may_go_before it older ≡ true
goes_before jobs number it older one h =
    find_passes (may_go_before it) (reverse jobs) older (mode_in it.request.mode (previous_job jobs it) (ap (λ o. option_and_then (λ (job : Job). by_mode job.request.mode (previous_job jobs job)) o) (sym one) ∙ h)) where
      mode_in : (mode : Mode) (previous : Option Job) → by_mode mode previous ≡ Some older → previous ≡ Some older
      mode_in New previous h = absurd (cc)
      mode_in Resume previous h = h
      mode_in Auto previous h = h

same_source : (jobs : List Job) (number : ℕ) (it older : Job) → job_of number jobs ≡ Some it → goes_on_from jobs number ≡ Some older → older.request.source ≡ it.request.source
same_source jobs number it older one h =
    (bytes_eq-Decides older.request.source it.request.source).0
    (and_parts (pointwise nat_eq older.request.source it.request.source) _ (and_parts (nat_lt older.number it.number) _ (goes_before jobs number it older one h)).1).0

-- it is an older one
pub older_before : (jobs : List Job) (number : ℕ) (it older : Job) → job_of number jobs ≡ Some it → goes_on_from jobs number ≡ Some older → older.number < it.number
older_before jobs number it older one h = ltb-true older.number it.number (and_parts (nat_lt older.number it.number) _ (goes_before jobs number it older one h)).0

module _ (folder : Folder) (is_folder : IsFolder folder) where
  module _ (entries : List Entry) (before world : World) (job : ℕ) (chain : Chain) (un : Unchanged folder entries before job chain) where
    holds : Holds un.tables before job chain
    holds = unchanged_holds un.tables (is_folder.sound chain.request.source un.tables un.told) entries before job chain un.is

    -- the files at hand are told of the load's own source
    own_files : (it : Job) → Contains before.kept.jobs it → it.number ≡ job → folder it.request.source un.tables
    own_files it there same = subst (λ s. folder s un.tables) (sym (ap (λ r. (source_of r)) (holds.each it there same).request)) un.told

    -- an entry of another load, or one that is no commit
    with_other : (entry : Entry) → Step before entry world → IsOther before job chain entry chain → Unchanged folder (entry ∷ entries) world job chain
    with_other entry step is = record { tables = un.tables; told = un.told; is = (before, step, inr (inr (chain, un.is, inr is))) }

    with_own : (entry : Entry) (next : Chain) → Step before entry world → next.request ≡ chain.request → IsOwn un.tables before job chain entry next → Unchanged folder (entry ∷ entries) world job next
    with_own entry next step same is = record { tables = un.tables; told = subst (λ r. folder ((source_of r)) un.tables) (sym same) un.told; is = (before, step, inr (inr (chain, un.is, inl is))) }

    end_made : (tables : List Table) (it : Job) (of : Feed) (how : FeedEnd) → IsEndMade tables it before.graph of how → IsEndOf tables of how
    end_made tables it of end.Completed h = h
    end_made tables it of end.Modified h = h
    end_made tables it of end.ReadError h = tt
    end_made tables it of (end.Stopped log) h = tt

    goes_on : (entry : Entry) → Step before entry world → IsMade folder before entry → IsQuiet job entry → (next : Chain) → IsNextChain job chain entry next → Unchanged folder (entry ∷ entries) world job next
    goes_on (Submit moment number id request) step made quiet next is = subst (λ s. Unchanged folder (Submit moment number id request ∷ entries) world job s) (sym is) (with_other (Submit moment number id request) step refl)
    goes_on (Start moment number planned) step made quiet next is = subst (λ s. Unchanged folder (Start moment number planned ∷ entries) world job s) (sym is) (with_other (Start moment number planned) step refl)
    goes_on (Cancel moment number) step made quiet next is =
        subst (λ s. Unchanged folder (Cancel moment number ∷ entries) world job s) (sym is) (elim (cases_eq number job) [
          | inl own ↦ with_own (Cancel moment number) chain step refl (own, refl)
          | inr other ↦ with_other (Cancel moment number) step (other, refl)
        ])
    goes_on (End moment number place how) step made quiet next is =
        subst (λ s. Unchanged folder (End moment number place how ∷ entries) world job s) (sym is) (elim (cases_eq number job) [
          | inl own ↦ with_own (End moment number place how) chain step refl (
            own,
            (λ it of next.
                let told : folder it.request.source un.tables = own_files it (front_in before.kept.jobs it next.0).0 (next.1 ∙ own) in
                end_made un.tables it of how (made it of next un.tables told)),
            refl,
          )
          | inr other ↦ with_other (End moment number place how) step (other, refl)
        ])
    goes_on (Batch moment number place from rows digest duplicates logs changes) step made quiet next (inl is) =
        subst (λ s. Unchanged folder (Batch moment number place from rows digest duplicates logs changes ∷ entries) world job s) (sym is.1)
        (with_own (Batch moment number place from rows digest duplicates logs changes) (record chain { rows = chain.rows + rows }) step refl (
          is.0,
          (λ it of next.
              made it of next un.tables (own_files it (front_in before.kept.jobs it next.0).0 (next.1 ∙ is.0))),
          refl,
        ))
    goes_on (Batch moment number place from rows digest duplicates logs changes) step made quiet next (inr is) =
        subst (λ s. Unchanged folder (Batch moment number place from rows digest duplicates logs changes ∷ entries) world job s) (sym is.1) (with_other (Batch moment number place from rows digest duplicates logs changes) step (is.0, quiet is.0, refl))

  pub continued : (entries : List Entry) (before world : World) (job number moment : ℕ) (found : List Found) (chain : Chain) (it older : Job) (un : Unchanged folder entries before job chain) → Step before (Start moment number (plan.Feeds found)) world
      → IsMade folder before (Start moment number (plan.Feeds found)) → front_job before.kept.jobs ≡ Some it → goes_on_from before.kept.jobs number ≡ Some older → older.number ≡ job → HaveSameOptions chain.request it.request
      → folder it.request.source un.tables × Continues un.tables before (Start moment number (plan.Feeds found)) number job chain (record chain { request = it.request })
  continued entries before world job number moment found chain it older un step made front from same options =
      let m = made it front in
      let fits : FitsStart before.kept number (plan.Feeds found) = step.follows.fits in
      let it_number : it.number ≡ number = ap (λ (x : Job). x.number) (some_is it fits.it (sym front ∙ fits.front)) ∙ fits.number_is in
      let one : job_of number before.kept.jobs ≡ Some it = ap (λ n. job_of n before.kept.jobs) (sym it_number) ∙ front_found before.kept.jobs it (have_jobs entries before (world_of un.tables entries before job chain un.is)).rising front in
      let h : Holds un.tables before job chain = unchanged_holds un.tables (is_folder.sound chain.request.source un.tables un.told) entries before job chain un.is in
      let held : JobHolds un.tables chain older = h.each older (older_in before.kept.jobs number older from) same in
      let source_is : it.request.source ≡ chain.request.source = sym (same_source before.kept.jobs number it older one from) ∙ ap (λ r. (source_of r)) held.request in
      let files : m.0 ≡ un.tables = is_folder.one chain.request.source m.0 un.tables (subst (λ s. folder s m.0) source_is m.1) un.told in (
        subst (λ s. folder s un.tables) (sym source_is) un.told,
        record {
          moment = moment;
          found = found;
          is = refl;
          it = it;
          front = front;
          older = older;
          from = from;
          number = same;
          same = options;
          planned = subst (λ s. IsPlanOf s older.feeds found) files (subst (λ o. IsPlanOf m.0 (feeds_of o) found) from m.2);
          chain_is = refl;
        },
      )

  continues_on : UnchangedContinues folder
  continues_on entries before world job number moment found chain it older un step made front from same options =
      let is = continued entries before world job number moment found chain it older un step made front from same options in
      record { tables = un.tables; told = is.0; is = (before, step, inr (inl (job, chain, un.is, is.1))) }

  pub begun_over : (before : World) (number moment : ℕ) (found : List Found) (it : Job) → IsMade folder before (Start moment number (plan.Feeds found)) → front_job before.kept.jobs ≡ Some it → goes_on_from before.kept.jobs number ≡ None
      → (tables : List Table) × folder it.request.source tables × Begins tables before (Start moment number (plan.Feeds found)) number (begun_chain before it)
  begun_over before number moment found it made front from =
      let m = made it front in (
        m.0,
        m.1,
        record {
          moment = moment;
          found = found;
          is = refl;
          it = it;
          front = front;
          none = from;
          planned = subst (λ o. IsPlanOf m.0 (feeds_of o) found) from m.2;
          chain_is = refl;
        },
      )

  begins_on : UnchangedBegins folder
  begins_on entries before world number moment found it is_world step made front from =
      let is = begun_over before number moment found it made front from in
      record { tables = is.0; told = is.1; is = (before, step, inl (is_world, is.2)) }

  pub one_more : KeepsUnchanged folder
  one_more = record {
    goes_on = λ entries before world job chain next entry un step made quiet is. goes_on entries before world job chain un entry step made quiet next is;
    continues = continues_on;
    begins = begins_on;
  }

-- ---- lists of entries

module _ (folder : Folder) (is_folder : IsFolder folder) (old : List Entry) where
  -- the entry was made in this very world
  pub made_in : (new : List Entry) (entry : Entry) (before : World) → IsNew (IsMade folder) (new ++ old) entry → IsWorldOf (new ++ old) before → IsMade folder before entry
  made_in new entry before is of = subst (λ w. IsMade folder w entry) (one_world (new ++ old) is.before before is.of of) is.made

  pub resumed : (new : List Entry) (world : World) (job : ℕ) (chain : Chain) → AreNew (IsMade folder) old new → MayResume folder old new world job chain → Unchanged folder (new ++ old) world job chain
  resumed [] world job chain are may = may
  resumed (entry ∷ new) world job chain are may =
      elim may.2 [
        | inl first ↦
            (let made : IsMade folder may.0 entry = made_in new entry may.0 are.1 first.0 in
            subst (λ s. Unchanged folder (entry ∷ (new ++ old)) world job s) (sym first.7) (subst (λ e. Unchanged folder (e ∷ (new ++ old)) world job (begun_chain may.0 first.3)) (sym first.4)
            (begins_on folder is_folder (new ++ old) may.0 world job first.1 first.2 first.3 first.0 (subst (λ e. Step may.0 e world) first.4 may.1) (subst (λ e. IsMade folder may.0 e) first.4 made) first.5 first.6)))
        | inr rest ↦ (elim rest [
          | inl next ↦
              (let before : Unchanged folder (new ++ old) may.0 next.0 next.1 = resumed new may.0 next.0 next.1 are.0 next.2 in
              let made : IsMade folder may.0 entry = made_in new entry may.0 are.1 (world_of before.tables (new ++ old) may.0 next.0 next.1 before.is) in
              let is = next.3 in
              subst (λ s. Unchanged folder (entry ∷ (new ++ old)) world job s) (sym is.9) (subst (λ e. Unchanged folder (e ∷ (new ++ old)) world job (record next.1 { request = is.2.request })) (sym is.4)
              (continues_on folder is_folder (new ++ old) may.0 world next.0 job is.0 is.1 next.1 is.2 is.3 before (subst (λ e. Step may.0 e world) is.4 may.1) (subst (λ e. IsMade folder may.0 e) is.4 made) is.5 is.6 is.7 is.8)))
          | inr goes ↦
              (let before : Unchanged folder (new ++ old) may.0 job goes.0 = resumed new may.0 job goes.0 are.0 goes.1 in
              goes_on folder is_folder (new ++ old) may.0 world job goes.0 before entry may.1 (made_in new entry may.0 are.1 (world_of before.tables (new ++ old) may.0 job goes.0 before.is)) goes.2 chain goes.3)
        ])
      ]

pub resumes : (folder : Folder) → IsFolder folder → Resumes folder
resumes folder is old new world job chain are may =
    let un : Unchanged folder (new ++ old) world job chain = resumed folder is old new world job chain are may in
    (un, unchanged un.tables (is.sound chain.request.source un.tables un.told) (new ++ old) world job chain un.is)
