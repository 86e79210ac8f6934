-- Turns, a submission, turns again, and the job that came of it.
use Rattle.std.specs.Prelude.{◌≡◌, ℕ, ◌+◌, Bool, true, false, not, cond, List, [], ◌∷◌, map, Contains, None, Some, Result, Ok, Err, IsErrOf, refl}
use Rattle.std.specs.declared.option.Option.{Option}
use Rattle.std.proofs.Common.{sym, ap, subst, ◌∙◌, inl, inr}
use Rattle.std.proofs.lemmas.Bool.{true≢false}
use Rattle.bl_outside.specs.Folders.{Files}
use Rattle.bl_outside.specs.declared.disk.Disk.{Ghosts}
use Rattle.bl_files.specs.declared.load_request.LoadRequest.{LoadRequest}
use Rattle.bl_files.proofs.Members.{member_cases, no_member}
use Rattle.bl_queue.specs.declared.job.Job.{Job}
use Rattle.bl_queue.specs.Statuses.{has_ended}
use Rattle.bl_queue.specs.Jobs.{AreJobs, Kept, front_job, is_unended, number_in}
use Rattle.bl_entry.specs.declared.entry.Entry.{Entry}
use Rattle.bl_world.specs.LoadIds.{load_number}
use Rattle.bl_world.specs.Makings.{SubmitEntry}
use Rattle.bl_world.specs.States.{State, at_rest}
use Rattle.bl_world.specs.Worlds.{World}
use Rattle.bl_load.specs.SameJobs.{HasSameJobs, Tag, tag_of}
use Rattle.bl_cli.specs.Tags.{HasTag, HasTaken}
use Rattle.bl_world.specs.Works.{work_of}
use Rattle.bl_world.specs.declared.work.Work.TheVariants.{Idle}
use Rattle.bl_cli.proofs.KeptTags.{tag_member}
use Rattle.bl_world.proofs.EndedJobs.{one_job}
use Rattle.bl_world.proofs.NextWorks.{idle_front}
use Rattle.bl_chain.specs.Folders.{AreTablesOf}
use Rattle.bl_chain.specs.MadeEntries.{IsMade}
use Rattle.bl_engine.specs.Calls.{Handles, Reaches}
use Rattle.bl_engine.specs.Engines.{IsAt, View}
use Rattle.bl_load.specs.Turns.{DrainsFull, DrainsOver, MayTurn}
use Rattle.bl_cli.specs.declared.load_fault.LoadFault.{LoadFault}
use Rattle.bl_cli.specs.declared.load_fault.LoadFault.TheVariants as fault
use Rattle.bl_cli.specs.LoadFaults.{fault_trouble}
use Rattle.bl_cli.specs.Loads.{DrainsAll, FindsLoad, IsLoadOf, LacksRoom, Makes, MayAppend, Submits}
use Rattle.bl_cli.proofs.GrownTwice.{at_entries, drains_on, handles_after, no_room_wider, reaches_then}
use Rattle.bl_cli.proofs.MadeLoads.{look_no_room, look_of_turns, of_files, told_files, turns_no_numbers, turns_of_store}

-- ---- the job that is kept

-- a job with the tag of the load that was taken on, after turns
pub tag_there : (salt id : ℕ) (request : LoadRequest) (before old new : Kept) → HasTaken salt request before old id → HasSameJobs old new → HasTag new.jobs id
tag_there salt id request before old new taken same =
    let tag : Tag = record { number = before.last + 1; id = id; request = request } in
    let there : Contains (map tag_of new.jobs) tag = subst (λ l. Contains l tag) (sym same.tags) taken.there in
    let it = tag_member new.jobs tag there in
    (it.0, it.1, ap (λ (t : Tag). t.id) it.2)

-- a job of this id is the one
pub tagged : (salt id : ℕ) (request : LoadRequest) (before old new : Kept) → AreJobs new → HasTaken salt request before old id → HasSameJobs old new
    → (it : Job) → Contains new.jobs it → it.id ≡ id → tag_of it ≡ record { number = before.last + 1; id = id; request = request }
tagged salt id request before old new are taken same it there is =
    let tag : Tag = record { number = before.last + 1; id = id; request = request } in
    let other = tag_member new.jobs tag (subst (λ l. Contains l tag) (sym same.tags) taken.there) in
    let ids : it.id ≡ other.0.id = is ∙ sym (ap (λ (t : Tag). t.id) other.2) in
    let numbers : it.number ≡ other.0.number = sym (number_of_id it there) ∙ ap number_in ids ∙ number_of_id other.0 other.1 in
    ap tag_of (one_job new are it other.0 there other.1 numbers) ∙ other.2 where
      number_of_id : (job : Job) → Contains new.jobs job → number_in job.id ≡ job.number
      number_of_id job has = subst (λ (j : Job). number_in j.id ≡ j.number) has.2 ((are.numbered has.0 job has.1).id)

ended_by : (b : Bool) → not b ≡ false → b ≡ true
ended_by true is = refl
ended_by false is = absurd (true≢false is)

none_unended : (jobs : List Job) → front_job jobs ≡ None → (it : Job) → Contains jobs it → has_ended it.status ≡ true
none_unended [] none it there = no_member it there
none_unended (job ∷ jobs) none it there = by (is_unended job) refl none (λ later_none later. none_unended jobs later_none it later) where
  by : (b : Bool) → is_unended job ≡ b → cond b (Some job) (front_job jobs) ≡ None → (front_job jobs ≡ None → Contains jobs it → has_ended it.status ≡ true) → has_ended it.status ≡ true
  by true is none rest = absurd (cc (none))
  by false is none rest =
      elim (member_cases job jobs it there) [
        | inl same ↦ ended_by (has_ended it.status) (sym (ap is_unended same) ∙ is)
        | inr later ↦ rest none later
      ]

ended_of : (kept : Kept) → AreJobs kept → work_of kept.jobs ≡ Idle → (it : Job) → Contains kept.jobs it → has_ended it.status ≡ true
ended_of kept are idle it there = none_unended kept.jobs (idle_front kept are idle) it there

-- ---- the whole

abbrev err_of : LoadFault → Result ℕ LoadFault
err_of why = Err why

abbrev err_in : (T : Type 0) → LoadFault → Result T LoadFault
err_in T why = Err why

module _ {D : Type 0} (of : Ghosts D) (files : Option Files) (salt : ℕ) (request : LoadRequest) where
  room_err : {T : Type 0} (why : LoadFault) → IsErrOf {T = Job} {E = LoadFault} (Err why) fault.JournalFull → IsErrOf {T = T} {E = LoadFault} (Err why) fault.JournalFull
  room_err {T} why is = let same : why ≡ fault.JournalFull = cc (is) in ap (λ w. err_in T w) same

  -- the entry of a turn, and that of the load
  turn_appends : (told : Files) (world : World) (entry : Entry) → MayTurn told world entry → MayAppend told salt request world entry
  turn_appends told world entry may = inl may

  submit_appends : (told : Files) (now : ℕ) (world : World) (entry : Entry) → SubmitEntry salt request now world entry → MayAppend told salt request world entry
  submit_appends told now world entry made = inr (now, made)

  -- turns that find the journal full, behind calls
  lacks_by : (told : Files) (from middle : State) (new : View D) → Reaches (IsMade (AreTablesOf told)) from middle → DrainsFull of told middle new → LacksRoom of told salt request from new.journal
  lacks_by told from middle new reaches full = (
    full.0,
    reaches_then (IsMade (AreTablesOf told)) from middle full.0 reaches full.1,
    no_room_wider of (MayTurn told) (MayAppend told salt request) (turn_appends told) full.0 new.journal full.2,
  )

  -- the first turns weren't all made
  pub makes_undrained : (old new : View D) (why : LoadFault) → DrainsAll of files old new (Err why) → Makes of files salt request old new (Err why)
  makes_undrained old new why drains = record {
    ended = tt;
    drains = drains.over;
    handles = drains.handles;
    used_up = turns_no_numbers {T = Job} why drains.fault;
    full = λ is.
        of_files files (λ told. (entries : List Entry) → IsAt of old entries → LacksRoom of told salt request (at_rest entries) new.journal)
        (λ told same entries at.
        lacks_by told (at_rest entries) (at_rest entries) new (inl refl)
        (told_files files told (λ told. (entries : List Entry) → IsAt of old entries → DrainsFull of told (at_rest entries) new) same (drains.full (room_err why is)) entries at));
    fault = turns_of_store why drains.fault;
  }

  module _ (old mid : View D) (first : DrainsAll of files old mid (Ok tt)) where
    ready_mid : mid.ready ≡ true
    ready_mid = first.idle.0.0

    drains_first : (told : Files) → files ≡ Some told → (entries : List Entry) → IsAt of old entries → DrainsOver of told old mid (at_rest entries)
    drains_first told is = told_files files told (λ told. (entries : List Entry) → IsAt of old entries → DrainsOver of told old mid (at_rest entries)) is first.over

    drains_two : (later : View D) (result : Result ℕ LoadFault) → Submits of salt request mid later result → (told : Files) → files ≡ Some told → (entries : List Entry) → IsAt of old entries
        → DrainsOver of told old later (at_rest entries)
    drains_two later result submits told is entries at =
        drains_on (IsMade (AreTablesOf told)) of old mid later entries (drains_first told is entries at) ready_mid (λ them at_them. submits.over told them at_them)

    -- the load wasn't taken on
    pub makes_unsubmitted : (new : View D) (why : LoadFault) → Submits of salt request mid new (Err why) → Makes of files salt request old new (Err why)
    makes_unsubmitted new why submits = record {
      ended = tt;
      drains = of_files files (λ told. (entries : List Entry) → IsAt of old entries → DrainsOver of told old new (at_rest entries)) (drains_two new (Err why) submits);
      handles = handles_after of old mid new (fault_trouble why) ready_mid first.handles submits.handles;
      used_up = λ is. sym first.idle.1.last ∙ submits.used_up (err_again why is);
      full = λ is.
          of_files files (λ told. (entries : List Entry) → IsAt of old entries → LacksRoom of told salt request (at_rest entries) new.journal)
          (λ told same entries at.
          let drained = drains_first told same entries at in
          let stands : IsAt of mid drained.to.kept × (drained.to ≡ at_rest drained.to.kept) = at_entries (IsMade (AreTablesOf told)) of mid drained.to ready_mid drained.stays in
          let room = submits.full (room_err why is) drained.to.kept stands.0 in (
            at_rest drained.to.kept,
            subst (λ s. Reaches (IsMade (AreTablesOf told)) (at_rest entries) s) stands.1 drained.reaches,
            no_room_wider of (SubmitEntry salt request room.0) (MayAppend told salt request) (submit_appends told room.0) (at_rest drained.to.kept) new.journal room.1,
          ));
      fault = submits.fault;
    } where
      err_again : (why : LoadFault) → IsErrOf {T = Job} {E = LoadFault} (Err why) fault.NumbersUsedUp → IsErrOf {T = ℕ} {E = LoadFault} (Err why) fault.NumbersUsedUp
      err_again why is = let same : why ≡ fault.NumbersUsedUp = cc (is) in ap err_of same

    module _ (later : View D) (id : ℕ) (submits : Submits of salt request mid later (Ok id)) where
      ready_later : later.ready ≡ true
      ready_later = submits.taken.0

      drains_three : (last : View D) (result : Result (Unit {0}) LoadFault) → DrainsAll of files later last result → (told : Files) → files ≡ Some told → (entries : List Entry)
          → IsAt of old entries → DrainsOver of told old last (at_rest entries)
      drains_three last result second told is entries at =
          drains_on (IsMade (AreTablesOf told)) of old later last entries (drains_two later (Ok id) submits told is entries at) ready_later
          (told_files files told (λ told. (entries : List Entry) → IsAt of later entries → DrainsOver of told later last (at_rest entries)) is second.over)

      handles_later : Handles of old later None
      handles_later = handles_after of old mid later None ready_mid first.handles submits.handles

      -- the turns of the load weren't all made
      pub makes_unended : (new : View D) (why : LoadFault) → DrainsAll of files later new (Err why) → Makes of files salt request old new (Err why)
      makes_unended new why second = record {
        ended = tt;
        drains = of_files files (λ told. (entries : List Entry) → IsAt of old entries → DrainsOver of told old new (at_rest entries)) (drains_three new (Err why) second);
        handles = handles_after of old later new (fault_trouble why) ready_later handles_later second.handles;
        used_up = turns_no_numbers {T = Job} why second.fault;
        full = λ is.
            of_files files (λ told. (entries : List Entry) → IsAt of old entries → LacksRoom of told salt request (at_rest entries) new.journal)
            (λ told same entries at.
            let drained = drains_two later (Ok id) submits told same entries at in
            let stands : IsAt of later drained.to.kept × (drained.to ≡ at_rest drained.to.kept) = at_entries (IsMade (AreTablesOf told)) of later drained.to ready_later drained.stays in
            lacks_by told (at_rest entries) (at_rest drained.to.kept) new (subst (λ s. Reaches (IsMade (AreTablesOf told)) (at_rest entries) s) stands.1 drained.reaches)
            (told_files files told (λ told. (them : List Entry) → IsAt of later them → DrainsFull of told (at_rest them) new) same (second.full (room_err why is)) drained.to.kept stands.0));
        fault = turns_of_store why second.fault;
      }

      module _ (last : View D) (second : DrainsAll of files later last (Ok tt)) where
        pub ready_last : last.ready ≡ true
        ready_last = second.idle.0.0

        pub tag_last : HasTag last.world.kept.jobs id
        tag_last = tag_there salt id request mid.world.kept later.world.kept last.world.kept submits.taken.1 second.idle.1

        handles_last : Handles of old last None
        handles_last = handles_after of old later last None ready_later handles_later second.handles

        is_load : AreJobs last.world.kept → (it : Job) → Contains last.world.kept.jobs it → it.id ≡ id → IsLoadOf salt request old.world last.world it
        is_load are it there is =
            let tag : tag_of it ≡ record { number = mid.world.kept.last + 1; id = id; request = request } =
            tagged salt id request mid.world.kept later.world.kept last.world.kept are submits.taken.1 second.idle.1 it there is in
            let number : it.number ≡ mid.world.kept.last + 1 = ap (λ (t : Tag). t.number) tag in
            record {
              kept = there;
              number = number ∙ ap (λ n. n + 1) first.idle.1.last;
              id = is ∙ submits.taken.1.id_is ∙ ap (load_number salt) (sym number);
              request = ap (λ (t : Tag). t.request) tag;
              ended = ended_of last.world.kept are second.idle.0.1 it there;
              idle = second.idle.0.1;
            }

        -- the job was found, or not
        pub makes_found : (new : View D) (result : Result Job LoadFault) → AreJobs last.world.kept → FindsLoad of id last new result → Makes of files salt request old new result
        makes_found new (Ok it) are finds = record {
          ended = subst (λ (v : View D). (v.ready ≡ true) × IsLoadOf salt request old.world v.world it) (sym finds.same) (ready_last, is_load are it finds.found.0 finds.found.1);
          drains = of_files files (λ told. (entries : List Entry) → IsAt of old entries → DrainsOver of told old new (at_rest entries))
              (λ told is. subst (λ (v : View D). (entries : List Entry) → IsAt of old entries → DrainsOver of told old v (at_rest entries)) (sym finds.same) (drains_three last (Ok tt) second told is));
          handles = handles_after of old last new None ready_last handles_last finds.handles;
          used_up = λ is. absurd (cc (is));
          full = λ is. absurd (cc (is));
          fault = tt;
        }
        makes_found new (Err why) are finds = record {
          ended = tt;
          drains = of_files files (λ told. (entries : List Entry) → IsAt of old entries → DrainsOver of told old new (at_rest entries))
              (λ told is. subst (λ (v : View D). (entries : List Entry) → IsAt of old entries → DrainsOver of told old v (at_rest entries)) (sym finds.same) (drains_three last (Ok tt) second told is));
          handles = handles_after of old last new (fault_trouble why) ready_last handles_last finds.handles;
          used_up = turns_no_numbers {T = Job} why (look_of_turns why finds.fault);
          full = look_no_room {T = Job} why finds.fault;
          fault = turns_of_store why (look_of_turns why finds.fault);
        }
