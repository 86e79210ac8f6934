-- What words come to.
use Rattle.std.specs.Prelude.{◌≡◌, ℕ, List, refl}
use Rattle.std.specs.declared.option.Option.{Option}
use Rattle.std.proofs.Common.{inl, inr, ⊎_elim, sym, subst}
use Rattle.bl_outside.specs.Counts.{Rose}
use Rattle.bl_outside.specs.Folders.{Files}
use Rattle.bl_outside.specs.declared.disk.Disk.{Ghosts}
use Rattle.bl_outside.specs.declared.disks.Disks.{Disks}
use Rattle.bl_outside.proofs.Moments.{started}
use Rattle.bl_journal.specs.Frames.{AsBefore}
use Rattle.bl_queue.specs.declared.job.Job.{Job}
use Rattle.bl_engine.specs.Images.{IsLeft}
use Rattle.bl_cli.specs.declared.help.TheConstants.{HELP}
use Rattle.bl_cli.specs.declared.asked.Asked.{Asked}
use Rattle.bl_cli.specs.declared.command.Command.{Command}
use Rattle.bl_cli.specs.declared.command.Command.TheVariants as command
use Rattle.bl_cli.specs.declared.command.Look.{Look}
use Rattle.bl_cli.specs.declared.status.Status.{Status}
use Rattle.bl_cli.specs.declared.status.Status.TheVariants as status
use Rattle.bl_cli.specs.Commands.{AskForNothing, AsksFor}
use Rattle.bl_cli.specs.Ends.{IsDone, IsNothing, IsOfLoad, IsOfScript, IsOfShow}
use Rattle.bl_cli.specs.LoadRuns.{HasNoPlace, LoadRuns, PrintsJob}
use Rattle.bl_cli.specs.Printing.{Adds, AddsFront, Written}
use Rattle.bl_cli.specs.Runs.{Answers, FindsNoRoom, IsEndOf, Keeps, OfWords}
use Rattle.bl_cli.specs.ScriptRuns.{Input, ScriptRuns, Scripts}
use Rattle.bl_cli.specs.Shows.{PrintsShown, PrintsText, ShowRuns}
use Rattle.bl_cli.specs.Stores.{IsUntouched, RunsOver}
use Rattle.bl_cli.proofs.Apart.{help_alone, help_no_script, load_alone, load_no_script, same_turns, script_alone, show_alone, show_no_script}
use Rattle.bl_cli.proofs.MadeLoads.{of_files, told_files}

-- ---- statuses that only some commands have

load_nothing : (it : Status) → IsOfLoad it → ¬ IsNothing it
load_nothing status.Ok of nothing = nothing
load_nothing status.JobNotCompleted of nothing = nothing
load_nothing status.Usage of nothing = nothing
load_nothing status.ReadFault of nothing = nothing
load_nothing status.WriteFault of nothing = nothing
load_nothing status.StoreFault of nothing = nothing
load_nothing (status.BadStore place) of nothing = nothing
load_nothing status.NoMemory of nothing = nothing
load_nothing status.InputTooLong of nothing = nothing
load_nothing status.TornInput of nothing = nothing
load_nothing status.JournalFull of nothing = nothing
load_nothing status.NumbersUsedUp of nothing = nothing
load_nothing status.UnknownLoad of nothing = of
load_nothing status.NoRecords of nothing = of

show_done : (it : Status) → IsOfShow it → IsDone it → it ≡ status.Ok
show_done status.Ok of done = refl
show_done status.JobNotCompleted of done = absurd of
show_done status.Usage of done = absurd done
show_done status.ReadFault of done = absurd done
show_done status.WriteFault of done = absurd done
show_done status.StoreFault of done = absurd done
show_done (status.BadStore place) of done = absurd done
show_done status.NoMemory of done = absurd done
show_done status.InputTooLong of done = absurd done
show_done status.TornInput of done = absurd done
show_done status.JournalFull of done = absurd done
show_done status.NumbersUsedUp of done = absurd done
show_done status.UnknownLoad of done = absurd done
show_done status.NoRecords of done = absurd done

script_done : (it : Status) → IsOfScript it → IsDone it → it ≡ status.Ok
script_done status.Ok of done = refl
script_done status.JobNotCompleted of done = absurd of
script_done status.Usage of done = absurd done
script_done status.ReadFault of done = absurd done
script_done status.WriteFault of done = absurd done
script_done status.StoreFault of done = absurd done
script_done (status.BadStore place) of done = absurd done
script_done status.NoMemory of done = absurd done
script_done status.InputTooLong of done = absurd done
script_done status.TornInput of done = absurd done
script_done status.JournalFull of done = absurd done
script_done status.NumbersUsedUp of done = absurd done
script_done status.UnknownLoad of done = absurd done
script_done status.NoRecords of done = absurd done

script_nothing : (it : Status) → IsOfScript it → ¬ IsNothing it
script_nothing status.Ok of nothing = nothing
script_nothing status.JobNotCompleted of nothing = nothing
script_nothing status.Usage of nothing = nothing
script_nothing status.ReadFault of nothing = nothing
script_nothing status.WriteFault of nothing = nothing
script_nothing status.StoreFault of nothing = nothing
script_nothing (status.BadStore place) of nothing = nothing
script_nothing status.NoMemory of nothing = nothing
script_nothing status.InputTooLong of nothing = nothing
script_nothing status.TornInput of nothing = nothing
script_nothing status.JournalFull of nothing = nothing
script_nothing status.NumbersUsedUp of nothing = nothing
script_nothing status.UnknownLoad of nothing = of
script_nothing status.NoRecords of nothing = of

-- ---- commands

module _ {D : Type 0} (of : Ghosts D) (files : Option Files) (salt : ℕ) (words : List (List ℕ)) (input : Input) where
  -- they ask for a load
  pub answers_load : (load : Asked) (old new : Disks D) (before after : Option (List ℕ)) (was now : ℕ) (it : Status) → AsksFor words (command.Load load)
      → LoadRuns of files salt load old new before after was now it → Answers of files salt words input old new before after was now it
  answers_load load old new before after was now it asks runs = record {
    done = λ done. (command.Load load, asks, runs.done done);
    begun = λ begun. ⊎_elim (λ nothing. inl nothing) (λ (made : (job : Job) × PrintsJob AddsFront of salt load old new before after job). inr (command.Load load, asks, made)) (runs.begun begun);
    quiet = λ quiet. inl (runs.quiet quiet);
    script = λ turns other. absurd (load_no_script words load turns asks other);
    nothing = λ nothing. absurd (load_nothing it runs.ends nothing);
    fits = λ asked other. load_alone of words load asks asked other old new it runs.ends;
    usage = λ is. absurd (subst IsOfLoad is runs.ends);
    unasked = λ nothing. absurd (nothing (command.Load load) asks);
    read_fault = λ is. absurd (subst IsOfLoad is runs.ends);
    write_fault = runs.write_fault;
    store_fault = runs.store_fault;
    bad_store = λ place is. inl (runs.bad_store place is);
    used_up = runs.used_up;
    full = λ is is_left.
        of_files files (λ told. OfWords words (λ asked. FindsNoRoom of told salt asked old new))
        (λ told same. (command.Load load, asks, told_files files told (λ told. HasNoPlace of told salt load.request old new) same (runs.full is is_left)));
    runs = runs.runs;
    left = runs.left;
    slots = runs.slots;
  }

  -- they ask for a script
  pub answers_script : (turns : ℕ) (old new : Disks D) (before after : Option (List ℕ)) (was now : ℕ) (it : Status) → AsksFor words (command.Script turns)
      → ScriptRuns of files salt turns input old new before after was now it → Answers of files salt words input old new before after was now it
  answers_script turns old new before after was now it asks runs = record {
    done = λ done. (command.Script turns, asks, script_done it runs.ends done);
    begun = λ begun. inr (command.Script turns, asks, tt);
    quiet = λ quiet. inr (command.Script turns, asks, tt);
    script = λ other others. subst (λ n. Scripts of files salt n input old new before after it) (same_turns words turns other asks others) runs.script;
    nothing = λ nothing. absurd (script_nothing it runs.ends nothing);
    fits = λ asked other. script_alone of words turns asks asked other old new it runs.ends;
    usage = λ is. absurd (subst IsOfScript is runs.ends);
    unasked = λ nothing. absurd (nothing (command.Script turns) asks);
    read_fault = runs.read_fault;
    write_fault = runs.write_fault;
    store_fault = runs.store_fault;
    bad_store = λ place is. ⊎_elim (λ judged. inl judged) (λ unleft. inr ((command.Script turns, asks, tt), unleft)) (runs.bad_store place is);
    used_up = λ is. absurd (subst IsOfScript is runs.ends);
    full = λ is is_left. of_files files (λ told. OfWords words (λ asked. FindsNoRoom of told salt asked old new)) (λ told same. (command.Script turns, asks, tt));
    runs = runs.runs;
    left = runs.left;
    slots = runs.slots;
  }

  -- they ask to show something
  pub answers_show : (what : Look) (old new : Disks D) (before after : Option (List ℕ)) (was now : ℕ) (it : Status) → AsksFor words (command.Show what)
      → ShowRuns of what old new before after was now it → Answers of files salt words input old new before after was now it
  answers_show what old new before after was now it asks runs = record {
    done = λ done. (command.Show what, asks, (show_done it runs.ends done, runs.done done));
    begun = λ begun. ⊎_elim (λ nothing. inl nothing) (λ (made : PrintsShown AddsFront of what old new before after). inr (command.Show what, asks, made)) (runs.begun begun);
    quiet = λ quiet. inl (runs.quiet quiet);
    script = λ turns other. absurd (show_no_script words what turns asks other);
    nothing = λ nothing. (command.Show what, asks, runs.nothing nothing);
    fits = λ asked other. show_alone of words what asks asked other old new it runs.ends runs.untouched;
    usage = λ is. absurd (subst IsOfShow is runs.ends);
    unasked = λ nothing. absurd (nothing (command.Show what) asks);
    read_fault = λ is. absurd (subst IsOfShow is runs.ends);
    write_fault = runs.write_fault;
    store_fault = runs.store_fault;
    bad_store = λ place is. inl (runs.bad_store place is);
    used_up = λ is. absurd (subst IsOfShow is runs.ends);
    full = λ is left. absurd (subst IsOfShow is runs.ends);
    runs = λ left. of_files files (λ told. RunsOver of told old new) (λ told is. inl (runs.untouched left.sound));
    left = λ left. of_files files (λ told. IsLeft of new) (λ told is. runs.left left);
    slots = runs.slots;
  }

  -- no store was opened
  module _ (only : (disk : D) (c : List ℕ) → of.left_since disk (of.moment disk) c → of.may_leave disk c) (disks : Disks D) (before : Option (List ℕ)) (was : ℕ) where
    untouched : IsUntouched of disks disks
    untouched = started of.moment of.left_since disks.journal (AsBefore (of.may_leave disks.journal)) (λ c left. (c, only disks.journal c left, refl))

    -- they ask for help, and it was written
    helped : (after : Option (List ℕ)) (now : ℕ) → AsksFor words command.Help → Written before after (Adds HELP.now) → Answers of files salt words input disks disks before after was now status.Ok
    helped after now asks written = record {
      done = λ done. (command.Help, asks, (refl, written));
      begun = λ begun. absurd begun;
      quiet = λ quiet. absurd quiet;
      script = λ turns other. absurd (help_no_script words turns asks other);
      nothing = λ nothing. absurd nothing;
      fits = λ asked other. help_alone of words asks asked other disks status.Ok tt;
      usage = λ is. absurd (cc (is));
      unasked = λ nothing. absurd (nothing command.Help asks);
      read_fault = λ is. absurd (cc (is));
      write_fault = λ is. absurd (cc (is));
      store_fault = λ is. absurd (cc (is));
      bad_store = λ place is. absurd (cc (is));
      used_up = λ is. absurd (cc (is));
      full = λ is left. absurd (cc (is));
      runs = λ left. of_files files (λ told. RunsOver of told disks disks) (λ told is. inl untouched);
      left = λ left. of_files files (λ told. IsLeft of disks) (λ told is. left);
      slots = (refl, refl);
    }

    -- the sink failed in it
    unhelped : (after : Option (List ℕ)) (now : ℕ) → AsksFor words command.Help → Rose was now → Written before after (AddsFront HELP.now) → Answers of files salt words input disks disks before after was now status.WriteFault
    unhelped after now asks rose written = record {
      done = λ done. absurd done;
      begun = λ begun. inr (command.Help, asks, written);
      quiet = λ quiet. absurd quiet;
      script = λ turns other. absurd (help_no_script words turns asks other);
      nothing = λ nothing. absurd nothing;
      fits = λ asked other. help_alone of words asks asked other disks status.WriteFault tt;
      usage = λ is. absurd (cc (is));
      unasked = λ nothing. absurd (nothing command.Help asks);
      read_fault = λ is. absurd (cc (is));
      write_fault = λ _. rose;
      store_fault = λ is. absurd (cc (is));
      bad_store = λ place is. absurd (cc (is));
      used_up = λ is. absurd (cc (is));
      full = λ is left. absurd (cc (is));
      runs = λ left. of_files files (λ told. RunsOver of told disks disks) (λ told is. inl untouched);
      left = λ left. of_files files (λ told. IsLeft of disks) (λ told is. left);
      slots = (refl, refl);
    }

    pub answers_help : (after : Option (List ℕ)) (now : ℕ) (it : Status) → AsksFor words command.Help → PrintsText before after was now HELP.now it → Answers of files salt words input disks disks before after was now it
    answers_help after now it asks prints =
        ⊎_elim
        (λ (is : (it ≡ status.Ok) × Written before after (Adds HELP.now)). subst (λ s. Answers of files salt words input disks disks before after was now s) (sym is.0) (helped after now asks is.1))
        (λ (is : (it ≡ status.WriteFault) × Rose was now × Written before after (AddsFront HELP.now)).
        subst (λ s. Answers of files salt words input disks disks before after was now s) (sym is.0) (unhelped after now asks is.1 is.2))
        prints.printed

    pub answers_usage : AskForNothing words → Answers of files salt words input disks disks before before was was status.Usage
    answers_usage nothing = record {
      done = λ done. absurd done;
      begun = λ begun. absurd begun;
      quiet = λ _. inl refl;
      script = λ turns asks. absurd (nothing (command.Script turns) asks);
      nothing = λ none. absurd none;
      fits = λ asked asks. absurd (nothing asked asks);
      usage = λ _. nothing;
      unasked = λ _. (inl refl, refl);
      read_fault = λ is. absurd (cc (is));
      write_fault = λ is. absurd (cc (is));
      store_fault = λ is. absurd (cc (is));
      bad_store = λ place is. absurd (cc (is));
      used_up = λ is. absurd (cc (is));
      full = λ is left. absurd (cc (is));
      runs = λ left. of_files files (λ told. RunsOver of told disks disks) (λ told is. inl untouched);
      left = λ left. of_files files (λ told. IsLeft of disks) (λ told is. left);
      slots = (refl, refl);
    }

    out_of_memory : (asked : Command) → IsEndOf asked status.NoMemory × Keeps of asked disks disks
    out_of_memory (command.Load load) = (tt, tt)
    out_of_memory (command.Script turns) = (tt, tt)
    out_of_memory (command.Show what) = (tt, λ sound. untouched)
    out_of_memory command.Help = (tt, refl)

    pub answers_memory : Answers of files salt words input disks disks before before was was status.NoMemory
    answers_memory = record {
      done = λ done. absurd done;
      begun = λ begun. inl refl;
      quiet = λ quiet. absurd quiet;
      script = λ turns asks. inr (inr (record { memory = refl; same = refl; quiet = refl }));
      nothing = λ nothing. absurd nothing;
      fits = λ asked asks. out_of_memory asked;
      usage = λ is. absurd (cc (is));
      unasked = λ _. (inr refl, refl);
      read_fault = λ is. absurd (cc (is));
      write_fault = λ is. absurd (cc (is));
      store_fault = λ is. absurd (cc (is));
      bad_store = λ place is. absurd (cc (is));
      used_up = λ is. absurd (cc (is));
      full = λ is left. absurd (cc (is));
      runs = λ left. of_files files (λ told. RunsOver of told disks disks) (λ told is. inl untouched);
      left = λ left. of_files files (λ told. IsLeft of disks) (λ told is. left);
      slots = (refl, refl);
    }
