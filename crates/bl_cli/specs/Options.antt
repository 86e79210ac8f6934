-- Options, read one after another.
use Rattle.std.specs.Prelude.{◌≡◌, ℕ, Bool, true, false, is_some, if◌then◌else◌, not, option_map, unwrap_or, List, [], ◌∷◌, codes, Some, None}
use Rattle.std.specs.declared.option.Option.{Option}
use Rattle.std.specs.Option.{option_and_then}
use Rattle.std.specs.List.{flat_map}
use Rattle.std.specs.Cmp.Lexicographic.{pointwise}
use Rattle.std.specs.Prelude.{nat_eq}
use Rattle.bl_files.specs.declared.mode.Mode.{Mode}
use Rattle.bl_files.specs.declared.mode.Mode.TheVariants.{New, Resume, Auto}
use Rattle.bl_cli.specs.declared.load_option.LoadOption.{LoadOption}
use Rattle.bl_cli.specs.declared.load_option.LoadOption.TheVariants as option
use Rattle.bl_cli.specs.declared.options.Options.{Options}
use Rattle.bl_cli.specs.declared.asked.Asked.{Asked}
use Rattle.bl_cli.specs.Words.{option_words}

-- ---- one option

abbrev pub is_word : List ℕ → List ℕ → Bool
is_word word text = pointwise nat_eq word text

abbrev pub mode_named : List ℕ → Option Mode
mode_named word =
    if is_word word (codes "NEW") then Some New else if is_word word (codes "RESUME") then Some Resume else if is_word word (codes "AUTO") then Some Auto else None

-- the option that is one word
abbrev pub option_named : List ℕ → Option LoadOption
option_named word =
    if is_word word (codes "--keep-going") then Some option.KeepGoing
    else if is_word word (codes "--update-single") then Some option.UpdateSingle else if is_word word (codes "--changes") then Some option.Changes else None

-- an option, and the words behind it
abbrev pub Begun : Type 0
Begun = Option (LoadOption × List (List ℕ))

abbrev pub mode_begun : List (List ℕ) → Begun
mode_begun [] = None
mode_begun (word ∷ words) = option_map (λ mode. (option.Mode mode, words)) (mode_named word)

abbrev pub by_name : Option LoadOption → List ℕ → List (List ℕ) → Begun
by_name (Some it) word words = Some (it, words)
by_name None word words = if is_word word (codes "--mode") then mode_begun words else None

-- the option with which words begin
abbrev pub begun : List (List ℕ) → Begun
begun [] = None
begun (word ∷ words) = by_name (option_named word) word words

-- ---- all of them

abbrev pub nothing_given : Options
nothing_given = record { mode = None; keep_going = false; update_single = false; changes = false }

abbrev pub is_given : Options → LoadOption → Bool
is_given given (option.Mode mode) = is_some given.mode
is_given given option.KeepGoing = given.keep_going
is_given given option.UpdateSingle = given.update_single
is_given given option.Changes = given.changes

abbrev pub with_option : Options → LoadOption → Options
with_option given (option.Mode mode) = record given { mode = Some mode }
with_option given option.KeepGoing = record given { keep_going = true }
with_option given option.UpdateSingle = record given { update_single = true }
with_option given option.Changes = record given { changes = true }

-- one more, where no such one was given
abbrev pub take_option : Options → LoadOption → Option Options
take_option given it = if is_given given it then None else Some (with_option given it)

abbrev pub take_options : Options → List LoadOption → Option Options
take_options given [] = Some given
take_options given (it ∷ options) = option_and_then (λ more. take_options more options) (take_option given it)

-- What reading words comes to: what their options say, or none where they are no options that could
-- be given.
abbrev pub Reads : List (List ℕ) → Options → Option Options → Type 0
Reads words given (Some got) = (options : List LoadOption) × (words ≡ flat_map option_words options) × (take_options given options ≡ Some got)
Reads words given None = (options : List LoadOption) → words ≡ flat_map option_words options → take_options given options ≡ None

-- the load that is asked for, by what the options say
abbrev pub asked_by : List ℕ → Options → Asked
asked_by source given =
    record {
      request = record {
        source = source;
        format = 0;
        mode = unwrap_or given.mode Auto;
        fail_on_error = not given.keep_going;
        update_single = given.update_single;
        parallelism = 2;
        queue = false;
        dependencies = [];
      };
      changes = given.changes;
    }
