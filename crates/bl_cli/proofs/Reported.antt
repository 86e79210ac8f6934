-- What a run comes to, whatever became of the line on the error output.
use Rattle.std.specs.Prelude.{◌≡◌, ◌⊎◌, ℕ, List, Some, Err, refl}
use Rattle.std.specs.declared.option.Option.{Option}
use Rattle.std.proofs.Common.{inl, inr, ⊎_elim, subst, sym, ◌∙◌}
use Rattle.bl_outside.specs.Counts.{Rose}
use Rattle.bl_outside.specs.Folders.{Files}
use Rattle.bl_outside.specs.declared.disk.Disk.{Ghosts}
use Rattle.bl_outside.specs.declared.disks.Disks.{Disks}
use Rattle.bl_outside.proofs.Told.{content_told}
use Rattle.bl_engine.specs.Images.{IsLeft}
use Rattle.bl_engine.specs.Openings.{IsTold, Judges, NeverBad}
use Rattle.bl_cli.specs.declared.command.Command.{Command}
use Rattle.bl_cli.specs.declared.command.Command.TheVariants as command
use Rattle.bl_cli.specs.declared.status.Status.{Status}
use Rattle.bl_cli.specs.declared.status.Status.TheVariants as status
use Rattle.bl_cli.specs.Printing.{Adds, AddsFront, Written}
use Rattle.bl_cli.specs.Ends.{HasLine, IsCalm, IsCalmEnd, IsDone, IsNothing, IsQuiet, IsUnasked, MayHaveBegun}
use Rattle.bl_cli.specs.LoadRuns.{IsUsedUp}
use Rattle.bl_cli.specs.Runs.{Answers, FindsNoRoom, FindsNothing, HasReported, HasScripted, IsBegun, IsCarriedOut, IsEndOf, IsScript, Keeps, OfWords, Reports}
use Rattle.bl_cli.specs.ScriptRuns.{Input}
use Rattle.bl_cli.specs.Statuses.{line_of}
use Rattle.bl_cli.specs.Stores.{OfFiles}
use Rattle.bl_cli.specs.Commands.{AskForNothing, AsksFor}

-- a status with a line printed nothing, or may have begun to
quiet_or_begun : (it : Status) → HasLine it → IsQuiet it ⊎ MayHaveBegun it
quiet_or_begun status.Ok has = absurd has
quiet_or_begun status.JobNotCompleted has = absurd has
quiet_or_begun status.Usage has = inl tt
quiet_or_begun status.ReadFault has = inr tt
quiet_or_begun status.WriteFault has = inr tt
quiet_or_begun status.StoreFault has = inl tt
quiet_or_begun (status.BadStore place) has = inl tt
quiet_or_begun status.NoMemory has = inr tt
quiet_or_begun status.InputTooLong has = inr tt
quiet_or_begun status.TornInput has = inr tt
quiet_or_begun status.JournalFull has = inl tt
quiet_or_begun status.NumbersUsedUp has = inl tt
quiet_or_begun status.UnknownLoad has = inl tt
quiet_or_begun status.NoRecords has = inl tt

-- the line of the result, or a front of another one
pub has_reported : (err err' : Option (List ℕ)) (before now : ℕ) (it result : Status) → Reports err err' before now it result → HasReported err err' before now result
has_reported err err' before now it result (inl same) = inl (subst (λ s. Written err err' (Adds (line_of s))) (sym same.0) same.1)
has_reported err err' before now it result (inr failed) = inr (failed.0, failed.1, (it, failed.3))

module _ {D : Type 0} (of : Ghosts D) (files : Option Files) (salt : ℕ) (words : List (List ℕ)) (input : Input) (old new : Disks D) (before after : Option (List ℕ)) (was now : ℕ) (it result : Status) (err err' : Option (List ℕ)) (count count' : ℕ)
    (answers : Answers of files salt words input old new before after was now it) (reports : Reports err err' count count' it result) where
  -- a word of statuses that a write fault hasn't
  by_status : (P : Status → Type 0) (Q : Type 0) → (P status.WriteFault → Q) → (P it → Q) → P result → Q
  by_status P Q faulted same holds =
      ⊎_elim (λ (is : (result ≡ it) × Written err err' (Adds (line_of it))). same (subst P is.0 holds))
      (λ (is : (result ≡ status.WriteFault) × Rose count count' × HasLine it × Written err err' (AddsFront (line_of it))). faulted (subst P is.0 holds)) reports

  script_begun : (asked : Command) → IsScript asked → IsBegun of salt asked old new before after
  script_begun (command.Load load) is = absurd is
  script_begun (command.Script turns) is = tt
  script_begun (command.Show what) is = absurd is
  script_begun command.Help is = absurd is

  pub run_done : IsDone result → OfWords words (λ asked. IsCarriedOut of salt asked old new before after result)
  run_done done =
      ⊎_elim
      (λ (is : (result ≡ it) × Written err err' (Adds (line_of it))). subst (λ s. OfWords words (λ asked. IsCarriedOut of salt asked old new before after s)) (sym is.0) (answers.done (subst IsDone is.0 done)))
      (λ (is : (result ≡ status.WriteFault) × Rose count count' × HasLine it × Written err err' (AddsFront (line_of it))). absurd (subst IsDone is.0 done)) reports

  -- of a script no more is said there
  quiet_begun : (after ≡ before) ⊎ OfWords words IsScript → (after ≡ before) ⊎ OfWords words (λ asked. IsBegun of salt asked old new before after)
  quiet_begun (inl same) = inl same
  quiet_begun (inr asks) = inr (asks.0, asks.1, script_begun asks.0 asks.2)

  pub run_begun : MayHaveBegun result → (after ≡ before) ⊎ OfWords words (λ asked. IsBegun of salt asked old new before after)
  run_begun begun =
      ⊎_elim
      (λ (is : (result ≡ it) × Written err err' (Adds (line_of it))). answers.begun (subst MayHaveBegun is.0 begun))
      (λ (is : (result ≡ status.WriteFault) × Rose count count' × HasLine it × Written err err' (AddsFront (line_of it))). ⊎_elim (λ quiet. quiet_begun (answers.quiet quiet)) answers.begun (quiet_or_begun it is.2)) reports

  pub run_quiet : IsQuiet result → (after ≡ before) ⊎ OfWords words IsScript
  run_quiet quiet = by_status IsQuiet ((after ≡ before) ⊎ OfWords words IsScript) (λ none. absurd none) answers.quiet quiet

  pub run_script : (turns : ℕ) → AsksFor words (command.Script turns) → HasScripted of files salt turns input old new before after count count' result
  run_script turns asks = (
    it,
    answers.script turns asks,
    ⊎_elim (λ (is : (result ≡ it) × Written err err' (Adds (line_of it))). inl is.0)
        (λ (is : (result ≡ status.WriteFault) × Rose count count' × HasLine it × Written err err' (AddsFront (line_of it))). inr (is.0, is.1)) reports,
  )

  pub run_nothing : IsNothing result → OfWords words (λ asked. FindsNothing of asked old result)
  run_nothing nothing =
      ⊎_elim
      (λ (is : (result ≡ it) × Written err err' (Adds (line_of it))). subst (λ s. OfWords words (λ asked. FindsNothing of asked old s)) (sym is.0) (answers.nothing (subst IsNothing is.0 nothing)))
      (λ (is : (result ≡ status.WriteFault) × Rose count count' × HasLine it × Written err err' (AddsFront (line_of it))). absurd (subst IsNothing is.0 nothing)) reports

  -- each command may end in a write fault
  faulted : (asked : Command) → IsEndOf asked status.WriteFault
  faulted (command.Load load) = tt
  faulted (command.Script turns) = tt
  faulted (command.Show what) = tt
  faulted command.Help = tt

  pub run_fits : (asked : Command) → AsksFor words asked → IsEndOf asked result × Keeps of asked old new
  run_fits asked asks =
      ⊎_elim
      (λ (is : (result ≡ it) × Written err err' (Adds (line_of it))). (subst (λ s. IsEndOf asked s) (sym is.0) (answers.fits asked asks).0, (answers.fits asked asks).1))
      (λ (is : (result ≡ status.WriteFault) × Rose count count' × HasLine it × Written err err' (AddsFront (line_of it))). (subst (λ s. IsEndOf asked s) (sym is.0) (faulted asked), (answers.fits asked asks).1)) reports

  pub run_unopened : AskForNothing words → new ≡ old
  run_unopened nothing = (answers.unasked nothing).1

  pub run_usage : result ≡ status.Usage → AskForNothing words
  run_usage is = by_status (λ s. s ≡ status.Usage) (AskForNothing words) (λ none. absurd (cc (none))) answers.usage is

  pub run_read : result ≡ status.ReadFault → Rose input.was input.now
  run_read is = by_status (λ s. s ≡ status.ReadFault) (Rose input.was input.now) (λ none. absurd (cc (none))) answers.read_fault is

  pub run_write : result ≡ status.WriteFault → Rose was now ⊎ Rose count count'
  run_write fault =
      ⊎_elim (λ (is : (result ≡ it) × Written err err' (Adds (line_of it))). inl (answers.write_fault (sym is.0 ∙ fault)))
      (λ (is : (result ≡ status.WriteFault) × Rose count count' × HasLine it × Written err err' (AddsFront (line_of it))). inr is.1) reports

  pub run_store : result ≡ status.StoreFault → Rose (of.faults old.journal) (of.faults new.journal)
  run_store is = by_status (λ s. s ≡ status.StoreFault) (Rose (of.faults old.journal) (of.faults new.journal)) (λ none. absurd (cc (none))) answers.store_fault is

  abbrev FoundBad : ℕ → Type 0
  FoundBad place = (IsTold of old.journal → Judges (of.seen old.journal) (Err place)) ⊎ (OfWords words IsScript × (¬ (IsLeft of old)))

  pub run_bad : (place : ℕ) → result ≡ status.BadStore place → FoundBad place
  run_bad place is = by_status (λ s. s ≡ status.BadStore place) (FoundBad place) (λ none. absurd (cc (none))) (answers.bad_store place) is

  pub run_full : result ≡ status.JournalFull → IsLeft of old → OfFiles files (λ told. OfWords words (λ asked. FindsNoRoom of told salt asked old new))
  run_full is =
      by_status (λ s. s ≡ status.JournalFull) (IsLeft of old → OfFiles files (λ told. OfWords words (λ asked. FindsNoRoom of told salt asked old new))) (λ none. absurd (cc (none))) answers.full is

  pub run_used : result ≡ status.NumbersUsedUp → IsUsedUp of old
  run_used is = by_status (λ s. s ≡ status.NumbersUsedUp) (IsUsedUp of old) (λ none. absurd (cc (none))) answers.used_up is

  -- a store that this program left is never bad
  never : NeverBad → ((c : List ℕ) → of.honest old.journal → of.seen old.journal ≡ Some c → of.may_leave old.journal c) → IsLeft of old → (place : ℕ) → ¬ (it ≡ status.BadStore place)
  never law image left place is = ⊎_elim
      (λ (judged : IsTold of old.journal → Judges (of.seen old.journal) (Err place)).
      let told = content_told (of.seen old.journal) left.sound.told in
      let has = left.each told.0 (image told.0 left.sound.honest told.1) in
      law told.0 has.0 place has.1 (subst (λ seen. Judges seen (Err place)) told.1 (judged (inl left.sound))))
      (λ (found : OfWords words IsScript × (¬ (IsLeft of old))). found.1 left) (answers.bad_store place is)

  calm_end : NeverBad → ((c : List ℕ) → of.honest old.journal → of.seen old.journal ≡ Some c → of.may_leave old.journal c) → IsLeft of old
      → IsCalm (of.faults old.journal) (of.faults new.journal) input.was input.now was now count count' → (s : Status) → it ≡ s → IsCalmEnd s ⊎ AskForNothing words
  calm_end law image left calm status.Ok is = inl tt
  calm_end law image left calm status.JobNotCompleted is = inl tt
  calm_end law image left calm status.Usage is = inr (answers.usage is)
  calm_end law image left calm status.ReadFault is = absurd (calm.input_calm (answers.read_fault is))
  calm_end law image left calm status.WriteFault is = absurd (calm.out_calm (answers.write_fault is))
  calm_end law image left calm status.StoreFault is = absurd (calm.disk_calm (answers.store_fault is))
  calm_end law image left calm (status.BadStore place) is = absurd (never law image left place is)
  calm_end law image left calm status.NoMemory is = inl tt
  calm_end law image left calm status.InputTooLong is = inl tt
  calm_end law image left calm status.TornInput is = inl tt
  calm_end law image left calm status.JournalFull is = inl tt
  calm_end law image left calm status.NumbersUsedUp is = inl tt
  calm_end law image left calm status.UnknownLoad is = inl tt
  calm_end law image left calm status.NoRecords is = inl tt

  pub run_complete : NeverBad → ((c : List ℕ) → of.honest old.journal → of.seen old.journal ≡ Some c → of.may_leave old.journal c) → IsLeft of old
      → IsCalm (of.faults old.journal) (of.faults new.journal) input.was input.now was now count count' → IsCalmEnd result ⊎ AskForNothing words
  run_complete law image left calm =
      ⊎_elim (λ (is : (result ≡ it) × Written err err' (Adds (line_of it))). subst (λ s. IsCalmEnd s ⊎ AskForNothing words) (sym is.0) (calm_end law image left calm it refl))
      (λ (is : (result ≡ status.WriteFault) × Rose count count' × HasLine it × Written err err' (AddsFront (line_of it))). absurd (calm.err_calm is.1)) reports

  pub run_unasked : AskForNothing words → IsCalm (of.faults old.journal) (of.faults new.journal) input.was input.now was now count count' → IsUnasked result
  run_unasked nothing calm =
      ⊎_elim (λ (is : (result ≡ it) × Written err err' (Adds (line_of it))). subst IsUnasked (sym is.0) (answers.unasked nothing).0)
      (λ (is : (result ≡ status.WriteFault) × Rose count count' × HasLine it × Written err err' (AddsFront (line_of it))). absurd (calm.err_calm is.1)) reports
