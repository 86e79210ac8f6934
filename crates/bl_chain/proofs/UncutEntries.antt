-- One entry more of a load that isn't cut.
use Rattle.std.specs.Prelude.{◌≡◌, ℕ, ◌+◌, List, [], ◌∷◌, ◌++◌, refl, Contains}
use Rattle.std.proofs.Common.{sym, ap, subst, ◌∙◌, inl, inr}
use Rattle.std.proofs.lemmas.Bool.{cases_eq}
use Rattle.bl_files.specs.declared.feed.Feed.{Feed}
use Rattle.bl_files.specs.declared.feed_end.FeedEnd.{FeedEnd}
use Rattle.bl_files.specs.declared.feed_end.FeedEnd.TheVariants as end
use Rattle.bl_files.specs.declared.plan_result.PlanResult.TheVariants as plan
use Rattle.bl_files.specs.declared.load_request.LoadRequest.{LoadRequest}
use Rattle.bl_queue.specs.declared.job.Job.{Job}
use Rattle.bl_queue.proofs.ChangedJobs.{front_in}
use Rattle.bl_entry.specs.declared.entry.Entry.{Entry}
use Rattle.bl_entry.specs.declared.entry.Entry.TheVariants.{Submit, Cancel, Start, Batch, FeedEnd as End}
use Rattle.bl_world.specs.States.{AreNew}
use Rattle.bl_world.specs.Worlds.{IsWorldOf, Step, World}
use Rattle.bl_chain.specs.Chains.{Chain, IsOther, begun_chain}
use Rattle.bl_chain.specs.Folders.{AreTablesOf, Folder, IsFolder}
use Rattle.bl_chain.specs.MadeEntries.{IsMade}
use Rattle.bl_chain.specs.Resumption.{IsNextChain, IsQuiet, Unchanged}
use Rattle.bl_chain.specs.Tables.{Table}
use Rattle.bl_chain.specs.Turns.{IsEndMade}
use Rattle.bl_chain.specs.UncutLoads.{IsNoCut, MayEndWhole, Uncut, UncutGoesOn, UncutLoadsResume}
use Rattle.bl_chain.specs.WholeEnds.{IsEndUncut, IsOwnUncut}
use Rattle.bl_chain.proofs.ClosedLoads.{uncut}
use Rattle.bl_chain.proofs.OneEntryMore.{begun_over, continued, made_in, resumed}
use Rattle.bl_chain.proofs.Chained.{unchanged_holds, world_of}
use Rattle.bl_chain.proofs.Holdings.{Holds}
use Rattle.bl_chain.proofs.OneFolder.{folders}
use Rattle.bl_chain.proofs.WholeEnds.{uncut_unchanged}

module _ (folder : Folder) (is_folder : IsFolder folder) (entries : List Entry) (before world : World) (job : ℕ) (chain : Chain) (un : Uncut folder entries before job chain) where
  holds : Holds un.tables before job chain
  holds = unchanged_holds un.tables (is_folder.sound chain.request.source un.tables un.told) entries before job chain (uncut_unchanged un.tables entries before job chain un.is)

  own_files : (it : Job) → Contains before.kept.jobs it → it.number ≡ job → folder it.request.source un.tables
  own_files it there same = subst (λ s. folder s un.tables) (sym (ap (λ (r : LoadRequest). r.source) (holds.each it there same).request)) un.told

  with_other : (entry : Entry) → Step before entry world → IsOther before job chain entry chain → Uncut folder (entry ∷ entries) world job chain
  with_other entry step is = record { tables = un.tables; told = un.told; is = (before, step, inr (inr (chain, un.is, inr is))) }

  with_own : (entry : Entry) (next : Chain) → Step before entry world → next.request ≡ chain.request → IsOwnUncut un.tables before job chain entry next → Uncut folder (entry ∷ entries) world job next
  with_own entry next step same is = record { tables = un.tables; told = subst (λ (r : LoadRequest). folder r.source un.tables) (sym same) un.told; is = (before, step, inr (inr (chain, un.is, inl is))) }

  end_made : (tables : List Table) (it : Job) (of : Feed) (moment number place : ℕ) (how : FeedEnd) → IsNoCut job (End moment number place how) → number ≡ job → IsEndMade tables it before.graph of how → IsEndUncut tables it before.graph of how
  end_made tables it of moment number place end.Completed spares own h = h
  end_made tables it of moment number place end.Modified spares own h = h
  end_made tables it of moment number place end.ReadError spares own h = absurd (spares own)
  end_made tables it of moment number place (end.Stopped log) spares own h = h

  uncut_on : (entry : Entry) (next : Chain) → Step before entry world → IsMade folder before entry → IsQuiet job entry → IsNoCut job entry → IsNextChain job chain entry next → Uncut folder (entry ∷ entries) world job next
  uncut_on (Submit moment number id request) next step made quiet spares is = subst (λ s. Uncut folder (Submit moment number id request ∷ entries) world job s) (sym is) (with_other (Submit moment number id request) step refl)
  uncut_on (Start moment number planned) next step made quiet spares is = subst (λ s. Uncut folder (Start moment number planned ∷ entries) world job s) (sym is) (with_other (Start moment number planned) step refl)
  uncut_on (Cancel moment number) next step made quiet spares is = subst (λ s. Uncut folder (Cancel moment number ∷ entries) world job s) (sym is) (with_other (Cancel moment number) step (spares, refl))
  uncut_on (End moment number place how) next step made quiet spares is =
      subst (λ s. Uncut folder (End moment number place how ∷ entries) world job s) (sym is) (elim (cases_eq number job) [
        | inl own ↦ with_own (End moment number place how) chain step refl (
          own,
          (λ it of next.
              let told : folder it.request.source un.tables = own_files it (front_in before.kept.jobs it next.0).0 (next.1 ∙ own) in
              end_made un.tables it of moment number place how spares own (made it of next un.tables told)),
          refl,
        )
        | inr other ↦ with_other (End moment number place how) step (other, refl)
      ])
  uncut_on (Batch moment number place from rows digest duplicates logs changes) next step made quiet spares (inl is) =
      subst (λ s. Uncut folder (Batch moment number place from rows digest duplicates logs changes ∷ entries) world job s) (sym is.1)
      (with_own (Batch moment number place from rows digest duplicates logs changes) (record chain { rows = chain.rows + rows }) step refl (
        is.0,
        (λ it of next.
            made it of next un.tables (own_files it (front_in before.kept.jobs it next.0).0 (next.1 ∙ is.0))),
        refl,
      ))
  uncut_on (Batch moment number place from rows digest duplicates logs changes) next step made quiet spares (inr is) =
      subst (λ s. Uncut folder (Batch moment number place from rows digest duplicates logs changes ∷ entries) world job s) (sym is.1) (with_other (Batch moment number place from rows digest duplicates logs changes) step (is.0, quiet is.0, refl))

pub uncut_goes_on : UncutGoesOn
uncut_goes_on files entries before world job chain next entry un step made quiet spares is = uncut_on (AreTablesOf files) (folders files) entries before world job chain un entry next step made quiet spares is

-- ---- lists of entries

module _ (folder : Folder) (is_folder : IsFolder folder) (old : List Entry) where
  uncut_resumed : (new : List Entry) (world : World) (job : ℕ) (chain : Chain) → AreNew (IsMade folder) old new → MayEndWhole folder old new world job chain → Uncut folder (new ++ old) world job chain
  uncut_resumed [] world job chain are may = may
  uncut_resumed (entry ∷ new) world job chain are may =
      elim may.2 [
        | inl first ↦
            (let made : IsMade folder may.0 entry = made_in folder is_folder old new entry may.0 are.1 first.0 in
            let is = begun_over folder is_folder may.0 job first.1 first.2 first.3 (subst (λ e. IsMade folder may.0 e) first.4 made) first.5 first.6 in
            subst (λ s. Uncut folder (entry ∷ (new ++ old)) world job s) (sym first.7) (subst (λ e. Uncut folder (e ∷ (new ++ old)) world job (begun_chain may.0 first.3)) (sym first.4)
            (record { tables = is.0; told = is.1; is = (may.0, subst (λ e. Step may.0 e world) first.4 may.1, inl (first.0, is.2)) })))
        | inr rest ↦ (elim rest [
          | inl next ↦
              (let before : Unchanged folder (new ++ old) may.0 next.0 next.1 = resumed folder is_folder old new may.0 next.0 next.1 are.0 next.2 in
              let made : IsMade folder may.0 entry = made_in folder is_folder old new entry may.0 are.1 (world_of before.tables (new ++ old) may.0 next.0 next.1 before.is) in
              let start = next.3 in
              let step : Step may.0 (Start start.0 job (plan.Feeds start.1)) world = subst (λ e. Step may.0 e world) start.4 may.1 in
              let is = continued folder is_folder (new ++ old) may.0 world next.0 job start.0 start.1 next.1 start.2 start.3 before step (subst (λ e. IsMade folder may.0 e) start.4 made) start.5 start.6 start.7 start.8 in
              subst (λ s. Uncut folder (entry ∷ (new ++ old)) world job s) (sym start.9) (subst (λ e. Uncut folder (e ∷ (new ++ old)) world job (record next.1 { request = start.2.request })) (sym start.4)
              (record { tables = before.tables; told = is.0; is = (may.0, step, inr (inl (next.0, next.1, before.is, is.1))) })))
          | inr goes ↦
              (let before : Uncut folder (new ++ old) may.0 job goes.0 = uncut_resumed new may.0 job goes.0 are.0 goes.1 in
              let of : IsWorldOf (new ++ old) may.0 = world_of before.tables (new ++ old) may.0 job goes.0 (uncut_unchanged before.tables (new ++ old) may.0 job goes.0 before.is) in
              uncut_on folder is_folder (new ++ old) may.0 world job goes.0 before entry chain may.1 (made_in folder is_folder old new entry may.0 are.1 of) goes.2 goes.3 goes.4)
        ])
      ]

pub uncut_loads_resume : UncutLoadsResume
uncut_loads_resume files old new world job chain are may =
    let all : Uncut (AreTablesOf files) (new ++ old) world job chain = uncut_resumed (AreTablesOf files) (folders files) old new world job chain are may in
    (all, (λ it there same ends user. uncut all.tables ((folders files).sound chain.request.source all.tables all.told) (new ++ old) world job chain all.is it there same ends user))
