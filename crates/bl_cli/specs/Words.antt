-- The words of `load`.
use Rattle.std.specs.Prelude.{◌≡◌, ◌≢◌, ℕ, Bool, true, false, not, codes, unwrap_or, List, [], ◌∷◌, Some, None}
use Rattle.std.specs.declared.option.Option.{Option}
use Rattle.std.specs.List.{AllPairs, flat_map, list_any}
use Rattle.bl_files.specs.Sources.{kept_source}
use Rattle.bl_files.specs.declared.load_request.LoadRequest.{LoadRequest}
use Rattle.bl_files.specs.declared.mode.Mode.{Mode}
use Rattle.bl_files.specs.declared.mode.Mode.TheVariants.{New, Resume, Auto}
use Rattle.bl_cli.specs.declared.load_option.LoadOption.{LoadOption}
use Rattle.bl_cli.specs.declared.load_option.LoadOption.TheVariants as option
use Rattle.bl_cli.specs.declared.asked.Asked.{Asked}

-- ---- options

abbrev pub mode_word : Mode → List ℕ
mode_word New = codes "NEW"
mode_word Resume = codes "RESUME"
mode_word Auto = codes "AUTO"

-- the words of an option
abbrev pub option_words : LoadOption → List (List ℕ)
option_words (option.Mode mode) = codes "--mode" ∷ (mode_word mode ∷ [])
option_words option.KeepGoing = codes "--keep-going" ∷ []
option_words option.UpdateSingle = codes "--update-single" ∷ []
option_words option.Changes = codes "--changes" ∷ []

-- the options are these four
abbrev pub kind_of : LoadOption → ℕ
kind_of (option.Mode mode) = 1
kind_of option.KeepGoing = 2
kind_of option.UpdateSingle = 3
kind_of option.Changes = 4

-- none is given twice
abbrev pub AreEachOnce : List LoadOption → Type 0
AreEachOnce options = AllPairs (λ a b. kind_of a ≢ kind_of b) options

-- ---- what they say

abbrev pub is_keep_going : LoadOption → Bool
is_keep_going (option.Mode mode) = false
is_keep_going option.KeepGoing = true
is_keep_going option.UpdateSingle = false
is_keep_going option.Changes = false

abbrev pub is_update_single : LoadOption → Bool
is_update_single (option.Mode mode) = false
is_update_single option.KeepGoing = false
is_update_single option.UpdateSingle = true
is_update_single option.Changes = false

abbrev pub is_changes : LoadOption → Bool
is_changes (option.Mode mode) = false
is_changes option.KeepGoing = false
is_changes option.UpdateSingle = false
is_changes option.Changes = true

-- the mode that is given, where one is
abbrev pub mode_in : List LoadOption → Option Mode
mode_in [] = None
mode_in (option.Mode mode ∷ options) = Some mode
mode_in (option.KeepGoing ∷ options) = mode_in options
mode_in (option.UpdateSingle ∷ options) = mode_in options
mode_in (option.Changes ∷ options) = mode_in options

-- The load of a source that these options ask for: in csv, with high parallelism, at once, and
-- behind no other.
abbrev pub request_by : List ℕ → List LoadOption → LoadRequest
request_by source options =
    record {
      source = source;
      format = 0;
      mode = unwrap_or (mode_in options) Auto;
      fail_on_error = not (list_any is_keep_going options);
      update_single = list_any is_update_single options;
      parallelism = 2;
      queue = false;
      dependencies = [];
    }

-- it waits behind no other, and doesn't depend on any
abbrev pub IsPlain : LoadRequest → Type 0
IsPlain request = (request.queue ≡ false) × (request.dependencies ≡ [])

-- ---- the words

-- `load`, a source, and options in any order, each at most once
pub record AsksForLoad (words : List (List ℕ)) (load : Asked) : Type 0 where
  pub source : List ℕ
  pub options : List LoadOption
  pub words_are : words ≡ codes "load" ∷ (source ∷ flat_map option_words options)
  pub once : AreEachOnce options
  pub kept : List ℕ
  pub kept_is : kept_source source ≡ Some kept
  pub load_is : load ≡ record { request = request_by kept options; changes = list_any is_changes options }

-- They ask for no load.
abbrev pub AskForNoLoad : List (List ℕ) → Type 0
AskForNoLoad words = (load : Asked) → ¬ AsksForLoad words load
