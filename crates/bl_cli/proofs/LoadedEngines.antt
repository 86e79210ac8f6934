-- A load over an engine, and its output.
use Rattle.std.specs.Prelude.{◌≡◌, ◌≤◌, ℕ, List, None, Result, Ok, Err, IsErrOf, refl}
use Rattle.std.specs.declared.option.Option.{Option}
use Rattle.std.proofs.Common.{subst, inl, inr, arith}
use Rattle.bl_outside.specs.Counts.{HasDeviceCause, Rose}
use Rattle.bl_outside.specs.Folders.{Files}
use Rattle.bl_outside.specs.declared.disk.Disk.{Ghosts}
use Rattle.bl_outside.specs.declared.refusals.Outside.{Outside}
use Rattle.bl_outside.specs.declared.refusals.Outside.TheVariants as outside
use Rattle.bl_queue.specs.declared.job.Job.{Job}
use Rattle.bl_queue.specs.declared.job_status.JobStatus.{JobStatus}
use Rattle.bl_engine.specs.Calls.{Handles}
use Rattle.bl_engine.specs.Engines.{View}
use Rattle.bl_cli.specs.declared.asked.Asked.{Asked}
use Rattle.bl_cli.specs.declared.load_fault.LoadFault.{LoadFault}
use Rattle.bl_cli.specs.declared.load_fault.LoadFault.TheVariants as fault
use Rattle.bl_cli.specs.declared.status.Status.{Status}
use Rattle.bl_cli.specs.declared.status.Status.TheVariants as status
use Rattle.bl_cli.specs.LoadFaults.{IsOfStore, fault_trouble, print_fault_from, status_of, status_trouble}
use Rattle.bl_cli.specs.Loads.{Makes}
use Rattle.bl_cli.specs.Outputs.{load_output}
use Rattle.bl_cli.specs.Printing.{Adds, AddsFront, Written}
use Rattle.bl_cli.specs.Ends.{IsDone, IsOfLoad, IsQuiet, IsStatusOf, MayHaveBegun}
use Rattle.bl_cli.specs.LoadRuns.{LoadsOver}

-- ---- the statuses of faults

undone : (why : LoadFault) → ¬ IsDone (status_of why)
undone fault.WriteFault done = done
undone fault.StoreFault done = done
undone (fault.BadStore place) done = done
undone fault.NoMemory done = done
undone fault.JournalFull done = done
undone fault.NumbersUsedUp done = done

of_load : (why : LoadFault) → IsOfLoad (status_of why)
of_load fault.WriteFault = tt
of_load fault.StoreFault = tt
of_load (fault.BadStore place) = tt
of_load fault.NoMemory = tt
of_load fault.JournalFull = tt
of_load fault.NumbersUsedUp = tt

no_write : (why : LoadFault) → IsOfStore why → ¬ (status_of why ≡ status.WriteFault)
no_write fault.WriteFault of is = of
no_write fault.StoreFault of is = cc
no_write (fault.BadStore place) of is = cc
no_write fault.NoMemory of is = cc
no_write fault.JournalFull of is = cc
no_write fault.NumbersUsedUp of is = cc

abbrev err_of : LoadFault → Result Job LoadFault
err_of why = Err why

used_up : (why : LoadFault) → status_of why ≡ status.NumbersUsedUp → IsErrOf {T = Job} {E = LoadFault} (Err why) fault.NumbersUsedUp
used_up fault.WriteFault is = absurd (cc (is))
used_up fault.StoreFault is = absurd (cc (is))
used_up (fault.BadStore place) is = absurd (cc (is))
used_up fault.NoMemory is = absurd (cc (is))
used_up fault.JournalFull is = absurd (cc (is))
used_up fault.NumbersUsedUp is = refl

no_room : (why : LoadFault) → status_of why ≡ status.JournalFull → IsErrOf {T = Job} {E = LoadFault} (Err why) fault.JournalFull
no_room fault.WriteFault is = absurd (cc (is))
no_room fault.StoreFault is = absurd (cc (is))
no_room (fault.BadStore place) is = absurd (cc (is))
no_room fault.NoMemory is = absurd (cc (is))
no_room fault.JournalFull is = refl
no_room fault.NumbersUsedUp is = absurd (cc (is))

same_trouble : (why : LoadFault) → fault_trouble why ≡ status_trouble (status_of why)
same_trouble fault.WriteFault = refl
same_trouble fault.StoreFault = refl
same_trouble (fault.BadStore place) = refl
same_trouble fault.NoMemory = refl
same_trouble fault.JournalFull = refl
same_trouble fault.NumbersUsedUp = refl

-- ---- the statuses of jobs that have ended

not_begun : (ended : JobStatus) (it : Status) → IsStatusOf ended it → ¬ MayHaveBegun it
not_begun ended status.Ok is begun = begun
not_begun ended status.JobNotCompleted is begun = begun
not_begun ended status.Usage is begun = is
not_begun ended status.ReadFault is begun = is
not_begun ended status.WriteFault is begun = is
not_begun ended status.StoreFault is begun = is
not_begun ended (status.BadStore place) is begun = is
not_begun ended status.NoMemory is begun = is
not_begun ended status.InputTooLong is begun = is
not_begun ended status.TornInput is begun = is
not_begun ended status.JournalFull is begun = is
not_begun ended status.NumbersUsedUp is begun = is
not_begun ended status.UnknownLoad is begun = is
not_begun ended status.NoRecords is begun = is

not_quiet : (ended : JobStatus) (it : Status) → IsStatusOf ended it → ¬ IsQuiet it
not_quiet ended status.Ok is quiet = quiet
not_quiet ended status.JobNotCompleted is quiet = quiet
not_quiet ended status.Usage is quiet = is
not_quiet ended status.ReadFault is quiet = is
not_quiet ended status.WriteFault is quiet = is
not_quiet ended status.StoreFault is quiet = is
not_quiet ended (status.BadStore place) is quiet = is
not_quiet ended status.NoMemory is quiet = is
not_quiet ended status.InputTooLong is quiet = is
not_quiet ended status.TornInput is quiet = is
not_quiet ended status.JournalFull is quiet = is
not_quiet ended status.NumbersUsedUp is quiet = is
not_quiet ended status.UnknownLoad is quiet = is
not_quiet ended status.NoRecords is quiet = is

no_trouble : (ended : JobStatus) (it : Status) → IsStatusOf ended it → None ≡ status_trouble it
no_trouble ended status.Ok is = refl
no_trouble ended status.JobNotCompleted is = refl
no_trouble ended status.Usage is = absurd is
no_trouble ended status.ReadFault is = absurd is
no_trouble ended status.WriteFault is = absurd is
no_trouble ended status.StoreFault is = absurd is
no_trouble ended (status.BadStore place) is = absurd is
no_trouble ended status.NoMemory is = absurd is
no_trouble ended status.InputTooLong is = absurd is
no_trouble ended status.TornInput is = absurd is
no_trouble ended status.JournalFull is = absurd is
no_trouble ended status.NumbersUsedUp is = absurd is
no_trouble ended status.UnknownLoad is = absurd is
no_trouble ended status.NoRecords is = absurd is

ended_load : (ended : JobStatus) (it : Status) → IsStatusOf ended it → IsOfLoad it
ended_load ended status.Ok is = tt
ended_load ended status.JobNotCompleted is = tt
ended_load ended status.Usage is = absurd is
ended_load ended status.ReadFault is = absurd is
ended_load ended status.WriteFault is = absurd is
ended_load ended status.StoreFault is = absurd is
ended_load ended (status.BadStore place) is = absurd is
ended_load ended status.NoMemory is = absurd is
ended_load ended status.InputTooLong is = absurd is
ended_load ended status.TornInput is = absurd is
ended_load ended status.JournalFull is = absurd is
ended_load ended status.NumbersUsedUp is = absurd is
ended_load ended status.UnknownLoad is = absurd is
ended_load ended status.NoRecords is = absurd is

-- ---- the statuses of output that isn't written

unprinted_begun : (why : Outside) → ¬ IsQuiet (status_of (print_fault_from why))
unprinted_begun outside.Failed quiet = quiet
unprinted_begun outside.NoMemory quiet = quiet

unprinted_used : (why : Outside) → ¬ (status_of (print_fault_from why) ≡ status.NumbersUsedUp)
unprinted_used outside.Failed is = cc
unprinted_used outside.NoMemory is = cc

unprinted_room : (why : Outside) → ¬ (status_of (print_fault_from why) ≡ status.JournalFull)
unprinted_room outside.Failed is = cc
unprinted_room outside.NoMemory is = cc

unprinted_cause : (was now : ℕ) (why : Outside) → HasDeviceCause {T = Unit {0}} was now (Err why) → status_of (print_fault_from why) ≡ status.WriteFault → Rose was now
unprinted_cause was now outside.Failed cause is = cause.failed refl
unprinted_cause was now outside.NoMemory cause is = absurd (cc (is))

-- want of memory is no trouble of which more is known
handles_unprinted : {D : Type 0} (of : Ghosts D) (old new : View D) (why : Outside) → Handles of old new None → Handles of old new (status_trouble (status_of (print_fault_from why)))
handles_unprinted of old new outside.Failed handles = handles
handles_unprinted of old new outside.NoMemory handles = record {
  left = handles.left;
  right = handles.right;
  sound = handles.sound;
  later = handles.later;
  store = λ is. absurd (cc (is));
  bad = λ place is. absurd (cc (is));
}

module _ {D : Type 0} (of : Ghosts D) (files : Option Files) (salt : ℕ) (load : Asked) (old new : View D) (before : Option (List ℕ)) (was : ℕ) where
  -- the load wasn't made
  pub over_unmade : (why : LoadFault) → Makes of files salt load.request old new (Err why) → LoadsOver of files salt load old new before before was was (status_of why)
  over_unmade why makes = record {
    done = λ done. absurd (undone why done);
    begun = λ _. inl refl;
    quiet = λ _. refl;
    ends = of_load why;
    write_fault = λ is. absurd (no_write why makes.fault is);
    used_up = λ is. makes.used_up (used_up why is);
    full = λ is. makes.full (no_room why is);
    drains = makes.drains;
    handles = subst (λ t. Handles of old new t) (same_trouble why) makes.handles;
    later = omega arith;
  }

  module _ (it : Job) (makes : Makes of files salt load.request old new (Ok it)) (after : Option (List ℕ)) (now : ℕ) where
    -- it was made and printed
    pub over_printed : (ends : Status) → IsStatusOf it.status ends → Written before after (Adds (load_output load.changes it new.world.commits)) → was ≤ now
        → LoadsOver of files salt load old new before after was now ends
    over_printed ends is prints later = record {
      done = λ done. (it, is, record { ready = makes.ended.0; job = makes.ended.1; prints = prints });
      begun = λ begun. absurd (not_begun it.status ends is begun);
      quiet = λ quiet. absurd (not_quiet it.status ends is quiet);
      ends = ended_load it.status ends is;
      write_fault = λ same. absurd (subst (λ s. IsStatusOf it.status s) same is);
      used_up = λ same. absurd (subst (λ s. IsStatusOf it.status s) same is);
      full = λ same. absurd (subst (λ s. IsStatusOf it.status s) same is);
      drains = makes.drains;
      handles = subst (λ t. Handles of old new t) (no_trouble it.status ends is) makes.handles;
      later = later;
    }

    -- it was made, and not printed whole
    pub over_unprinted : (why : Outside) → Written before after (AddsFront (load_output load.changes it new.world.commits)) → HasDeviceCause {T = Unit {0}} was now (Err why)
        → LoadsOver of files salt load old new before after was now (status_of (print_fault_from why))
    over_unprinted why prints cause = record {
      done = λ done. absurd (undone (print_fault_from why) done);
      begun = λ _. inr (it, record { ready = makes.ended.0; job = makes.ended.1; prints = prints });
      quiet = λ quiet. absurd (unprinted_begun why quiet);
      ends = of_load (print_fault_from why);
      write_fault = unprinted_cause was now why cause;
      used_up = λ is. absurd (unprinted_used why is);
      full = λ is. absurd (unprinted_room why is);
      drains = makes.drains;
      handles = handles_unprinted of old new why makes.handles;
      later = cause.later;
    }
