-- Words ask for one kind of command.
use Rattle.std.specs.Prelude.{◌≡◌, ℕ, codes, List, [], ◌∷◌, Some, refl}
use Rattle.std.specs.declared.option.Option.{Option}
use Rattle.std.proofs.Common.{arith, inl, inr, sym, ap, ◌∙◌}
use Rattle.bl_feed.specs.Parameters.{number_in}
use Rattle.bl_outside.specs.Sound.{IsSound}
use Rattle.bl_outside.specs.declared.disk.Disk.{Ghosts}
use Rattle.bl_outside.specs.declared.disks.Disks.{Disks}
use Rattle.bl_cli.specs.declared.asked.Asked.{Asked}
use Rattle.bl_cli.specs.declared.command.Command.{Command}
use Rattle.bl_cli.specs.declared.command.Command.TheVariants as command
use Rattle.bl_cli.specs.declared.command.Look.{Look}
use Rattle.bl_cli.specs.declared.command.Look.TheVariants as look
use Rattle.bl_cli.specs.declared.status.Status.{Status}
use Rattle.bl_cli.specs.Commands.{AsksFor}
use Rattle.bl_cli.specs.Ends.{IsOfHelp, IsOfLoad, IsOfScript, IsOfShow}
use Rattle.bl_cli.specs.Runs.{IsEndOf, Keeps}
use Rattle.bl_cli.specs.Stores.{IsUntouched}

-- the first word, or none
abbrev some_number : ℕ → Option ℕ
some_number n = Some n

head : List (List ℕ) → List ℕ
head [] = []
head (word ∷ words) = word

-- the second letter, or 0
second : List ℕ → ℕ
second [] = 0
second (letter ∷ []) = 0
second (letter ∷ (next ∷ letters)) = next

not_status : ¬ (codes "status" ≡ codes "script")
unfolding second
not_status is = let at : 116 ≡ 99 = ap second is in omega (arith, at)

not_stream : ¬ (codes "stream" ≡ codes "script")
unfolding second
not_stream is = let at : 116 ≡ 99 = ap second is in omega (arith, at)

first_word : Command → List ℕ
first_word (command.Load load) = codes "load"
first_word (command.Script turns) = codes "script"
first_word (command.Show look.Loads) = codes "status"
first_word (command.Show (look.Load id)) = codes "status"
first_word (command.Show (look.Page ask)) = codes "stream"
first_word command.Help = codes "help"

first_is : (words : List (List ℕ)) (asked : Command) → AsksFor words asked → head words ≡ first_word asked
unfolding head first_word
first_is words (command.Load load) asks = ap head asks.words_are
first_is words (command.Script turns) (inl asks) = ap head asks.0
first_is words (command.Script turns) (inr asks) = ap head asks.1
first_is words (command.Show look.Loads) asks = ap head asks
first_is words (command.Show (look.Load id)) asks = ap head asks.1
first_is words (command.Show (look.Page ask)) asks = ap head asks.words_are
first_is words command.Help asks = ap head asks

same_first : (words : List (List ℕ)) (one other : Command) → AsksFor words one → AsksFor words other → first_word one ≡ first_word other
same_first words one other a b = sym (first_is words one a) ∙ first_is words other b

module _ {D : Type 0} (of : Ghosts D) (words : List (List ℕ)) where
  pub load_alone : (load : Asked) → AsksFor words (command.Load load) → (asked : Command) → AsksFor words asked → (old new : Disks D) (it : Status) → IsOfLoad it → IsEndOf asked it × Keeps of asked old new
  unfolding first_word
  load_alone load is (command.Load other) asks old new it ends = (ends, tt)
  load_alone load is (command.Script turns) asks old new it ends = absurd (cc (same_first words (command.Load load) (command.Script turns) is asks))
  load_alone load is (command.Show look.Loads) asks old new it ends = absurd (cc (same_first words (command.Load load) (command.Show look.Loads) is asks))
  load_alone load is (command.Show (look.Load id)) asks old new it ends = absurd (cc (same_first words (command.Load load) (command.Show (look.Load id)) is asks))
  load_alone load is (command.Show (look.Page ask)) asks old new it ends = absurd (cc (same_first words (command.Load load) (command.Show (look.Page ask)) is asks))
  load_alone load is command.Help asks old new it ends = absurd (cc (same_first words (command.Load load) command.Help is asks))

  not_load : (what : Look) (load : Asked) → AsksFor words (command.Show what) → ¬ AsksFor words (command.Load load)
  unfolding first_word
  not_load look.Loads load is asks = cc (same_first words (command.Show look.Loads) (command.Load load) is asks)
  not_load (look.Load id) load is asks = cc (same_first words (command.Show (look.Load id)) (command.Load load) is asks)
  not_load (look.Page ask) load is asks = cc (same_first words (command.Show (look.Page ask)) (command.Load load) is asks)

  not_script : (what : Look) (turns : ℕ) → AsksFor words (command.Show what) → ¬ AsksFor words (command.Script turns)
  unfolding first_word
  not_script look.Loads turns is asks = not_status (same_first words (command.Show look.Loads) (command.Script turns) is asks)
  not_script (look.Load id) turns is asks = not_status (same_first words (command.Show (look.Load id)) (command.Script turns) is asks)
  not_script (look.Page ask) turns is asks = not_stream (same_first words (command.Show (look.Page ask)) (command.Script turns) is asks)

  not_help : (what : Look) → AsksFor words (command.Show what) → ¬ AsksFor words command.Help
  unfolding first_word
  not_help look.Loads is asks = cc (same_first words (command.Show look.Loads) command.Help is asks)
  not_help (look.Load id) is asks = cc (same_first words (command.Show (look.Load id)) command.Help is asks)
  not_help (look.Page ask) is asks = cc (same_first words (command.Show (look.Page ask)) command.Help is asks)

  pub show_alone : (what : Look) → AsksFor words (command.Show what) → (asked : Command) → AsksFor words asked → (old new : Disks D) (it : Status) → IsOfShow it → (IsSound of old.journal → IsUntouched of old new)
      → IsEndOf asked it × Keeps of asked old new
  show_alone what is (command.Load load) asks old new it ends kept = absurd (not_load what load is asks)
  show_alone what is (command.Script turns) asks old new it ends kept = absurd (not_script what turns is asks)
  show_alone what is (command.Show other) asks old new it ends kept = (ends, kept)
  show_alone what is command.Help asks old new it ends kept = absurd (not_help what is asks)

  pub help_alone : AsksFor words command.Help → (asked : Command) → AsksFor words asked → (disks : Disks D) (it : Status) → IsOfHelp it → IsEndOf asked it × Keeps of asked disks disks
  unfolding first_word
  help_alone is (command.Load load) asks disks it ends = absurd (cc (same_first words command.Help (command.Load load) is asks))
  help_alone is (command.Script turns) asks disks it ends = absurd (cc (same_first words command.Help (command.Script turns) is asks))
  help_alone is (command.Show what) asks disks it ends = absurd (not_help what asks is)
  help_alone is command.Help asks disks it ends = (ends, refl)

  pub script_alone : (turns : ℕ) → AsksFor words (command.Script turns) → (asked : Command) → AsksFor words asked → (old new : Disks D) (it : Status) → IsOfScript it → IsEndOf asked it × Keeps of asked old new
  unfolding first_word
  script_alone turns is (command.Load load) asks old new it ends = absurd (cc (same_first words (command.Script turns) (command.Load load) is asks))
  script_alone turns is (command.Script other) asks old new it ends = (ends, tt)
  script_alone turns is (command.Show what) asks old new it ends = absurd (not_script what turns asks is)
  script_alone turns is command.Help asks old new it ends = absurd (cc (same_first words (command.Script turns) command.Help is asks))

-- no other command is a script
pub load_no_script : (words : List (List ℕ)) (load : Asked) (turns : ℕ) → AsksFor words (command.Load load) → ¬ AsksFor words (command.Script turns)
unfolding first_word
load_no_script words load turns is asks = cc (same_first words (command.Load load) (command.Script turns) is asks)

pub show_no_script : (words : List (List ℕ)) (what : Look) (turns : ℕ) → AsksFor words (command.Show what) → ¬ AsksFor words (command.Script turns)
unfolding first_word
show_no_script words look.Loads turns is asks = not_status (same_first words (command.Show look.Loads) (command.Script turns) is asks)
show_no_script words (look.Load id) turns is asks = not_status (same_first words (command.Show (look.Load id)) (command.Script turns) is asks)
show_no_script words (look.Page ask) turns is asks = not_stream (same_first words (command.Show (look.Page ask)) (command.Script turns) is asks)

pub help_no_script : (words : List (List ℕ)) (turns : ℕ) → AsksFor words command.Help → ¬ AsksFor words (command.Script turns)
unfolding first_word
help_no_script words turns is asks = cc (same_first words command.Help (command.Script turns) is asks)

-- the turns of a script
number_is : (one other : ℕ) (words : List (List ℕ)) (text : List ℕ) → words ≡ codes "script" ∷ [] → words ≡ codes "script" ∷ (codes "--turns" ∷ (text ∷ [])) → one ≡ other
number_is one other words text is asks = absurd (cc (is, asks))

pub same_turns : (words : List (List ℕ)) (one other : ℕ) → AsksFor words (command.Script one) → AsksFor words (command.Script other) → one ≡ other
same_turns words one other (inl a) (inl b) = a.1 ∙ sym b.1
same_turns words one other (inl a) (inr b) = number_is one other words b.0 a.0 b.1
same_turns words one other (inr a) (inl b) = number_is one other words a.0 b.0 a.1
same_turns words one other (inr a) (inr b) =
    let texts : a.0 ≡ b.0 = cc (a.1, b.1) in
    let same : some_number one ≡ some_number other = sym a.2 ∙ ap (λ text. number_in 0 1000 text) texts ∙ b.2 in
    cc (same)
