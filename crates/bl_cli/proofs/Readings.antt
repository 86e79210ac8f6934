-- Options, read one after another, are those of the words.
use Rattle.std.specs.Prelude.{◌≡◌, ◌<◌, ◌==◌, ℕ, Bool, true, false, cond, codes, length, map, List, [], ◌∷◌, ◌++◌, Some, None, refl}
use Rattle.std.specs.declared.option.Option.{Option}
use Rattle.std.specs.Option.{option_and_then, option_map}
use Rattle.std.specs.List.{flat_map}
use Rattle.std.proofs.Common.{sym, ap, ◌∙◌, arith}
use Rattle.std.proofs.lemmas.List.{length-map}
use Rattle.std.proofs.lemmas.Option.{same_Some}
use Rattle.std.proofs.lemmas.Slice.Eq.{bytes_eq-Decides}
use Rattle.bl_files.specs.declared.mode.Mode.{Mode}
use Rattle.bl_files.specs.declared.mode.Mode.TheVariants.{New, Resume, Auto}
use Rattle.bl_cli.specs.declared.load_option.LoadOption.{LoadOption}
use Rattle.bl_cli.specs.declared.load_option.LoadOption.TheVariants.{Mode as mode_option, KeepGoing, UpdateSingle, Changes}
use Rattle.bl_cli.specs.declared.options.Options.{Options}
use Rattle.bl_cli.specs.Words.{option_words, mode_word}
use Rattle.bl_cli.specs.Options.{Begun, Reads, begun, by_name, is_word, mode_begun, mode_named, option_named, take_option, take_options}

-- ---- one option

-- the words of an option are read as this option
pub words_are_begun : (it : LoadOption) (rest : List (List ℕ)) → begun (option_words it ++ rest) ≡ Some (it, rest)
words_are_begun (mode_option New) rest = refl
words_are_begun (mode_option Resume) rest = refl
words_are_begun (mode_option Auto) rest = refl
words_are_begun KeepGoing rest = refl
words_are_begun UpdateSingle rest = refl
words_are_begun Changes rest = refl

pub same_word : (word text : List ℕ) → is_word word text ≡ true → word ≡ text
same_word word text is = (bytes_eq-Decides word text).0 is

mode_by : (word : List ℕ) (mode : Mode) (a b c : Bool) → is_word word (codes "NEW") ≡ a → is_word word (codes "RESUME") ≡ b → is_word word (codes "AUTO") ≡ c →
    cond a (Some New) (cond b (Some Resume) (cond c (Some Auto) None)) ≡ Some mode → word ≡ mode_word mode
mode_by word mode true b c is_a is_b is_c named = same_word word (codes "NEW") is_a ∙ ap mode_word (same_Some _ _ named)
mode_by word mode false true c is_a is_b is_c named = same_word word (codes "RESUME") is_b ∙ ap mode_word (same_Some _ _ named)
mode_by word mode false false true is_a is_b is_c named = same_word word (codes "AUTO") is_c ∙ ap mode_word (same_Some _ _ named)
mode_by word mode false false false is_a is_b is_c named = absurd (cc (named))

mode_is : (word : List ℕ) (mode : Mode) → mode_named word ≡ Some mode → word ≡ mode_word mode
mode_is word mode named = mode_by word mode _ _ _ refl refl refl named

option_by : (word : List ℕ) (it : LoadOption) (a b c : Bool) → is_word word (codes "--keep-going") ≡ a → is_word word (codes "--update-single") ≡ b → is_word word (codes "--changes") ≡ c →
    cond a (Some KeepGoing) (cond b (Some UpdateSingle) (cond c (Some Changes) None)) ≡ Some it → word ∷ [] ≡ option_words it
option_by word it true b c is_a is_b is_c named = ap (λ w. w ∷ []) (same_word word (codes "--keep-going") is_a) ∙ ap option_words (same_Some _ _ named)
option_by word it false true c is_a is_b is_c named = ap (λ w. w ∷ []) (same_word word (codes "--update-single") is_b) ∙ ap option_words (same_Some _ _ named)
option_by word it false false true is_a is_b is_c named = ap (λ w. w ∷ []) (same_word word (codes "--changes") is_c) ∙ ap option_words (same_Some _ _ named)
option_by word it false false false is_a is_b is_c named = absurd (cc (named))

option_is : (word : List ℕ) (it : LoadOption) → option_named word ≡ Some it → word ∷ [] ≡ option_words it
option_is word it named = option_by word it _ _ _ refl refl refl named

-- this option, and these words behind it
abbrev begins : LoadOption → List (List ℕ) → Begun
begins it rest = Some (it, rest)

first_same : (a b : LoadOption) (words rest : List (List ℕ)) → begins a words ≡ begins b rest → a ≡ b
first_same a b words rest same = ap (λ (p : LoadOption × List (List ℕ)). p.0) (same_Some (a, words) (b, rest) same)

second_same : (a b : LoadOption) (words rest : List (List ℕ)) → begins a words ≡ begins b rest → words ≡ rest
second_same a b words rest same = ap (λ (p : LoadOption × List (List ℕ)). p.1) (same_Some (a, words) (b, rest) same)

abbrev mode_found : List (List ℕ) → Option Mode → Begun
mode_found words named = option_map (λ mode. (mode_option mode, words)) named

mode_words : (words rest : List (List ℕ)) (it : LoadOption) → mode_begun words ≡ Some (it, rest) → codes "--mode" ∷ words ≡ option_words it ++ rest
mode_words [] rest it found = absurd (cc (found))
mode_words (word ∷ words) rest it found = by_mode (mode_named word) refl found where
  by_mode : (named : Option Mode) → mode_named word ≡ named → mode_found words named ≡ begins it rest → codes "--mode" ∷ (word ∷ words) ≡ option_words it ++ rest
  by_mode None is found = absurd (cc (found))
  by_mode (Some mode) is found =
      ap (λ w. codes "--mode" ∷ (w ∷ words)) (mode_is word mode is)
      ∙ ap (λ o. option_words o ++ words) (first_same (mode_option mode) it words rest found)
      ∙ ap (λ them. option_words it ++ them) (second_same (mode_option mode) it words rest found)

name_words : (word : List ℕ) (words rest : List (List ℕ)) (it : LoadOption) (named : Option LoadOption) → option_named word ≡ named → by_name named word words ≡ Some (it, rest) → word ∷ words ≡ option_words it ++ rest
name_words word words rest it (Some other) is found =
    ap (λ w. w ++ words) (option_is word other is)
    ∙ ap (λ o. option_words o ++ words) (first_same other it words rest found)
    ∙ ap (λ them. option_words it ++ them) (second_same other it words rest found)
name_words word words rest it None is found = by_word (is_word word (codes "--mode")) refl found where
  by_word : (test : Bool) → is_word word (codes "--mode") ≡ test → cond test (mode_begun words) None ≡ Some (it, rest) → word ∷ words ≡ option_words it ++ rest
  by_word true same found = ap (λ w. w ∷ words) (same_word word (codes "--mode") same) ∙ mode_words words rest it found
  by_word false same found = absurd (cc (found))

-- what is read as an option are its words
pub begun_are_words : (words rest : List (List ℕ)) (it : LoadOption) → begun words ≡ Some (it, rest) → words ≡ option_words it ++ rest
begun_are_words [] rest it found = absurd (cc (found))
begun_are_words (word ∷ words) rest it found = name_words word words rest it (option_named word) refl found

-- ---- all of them

pub reads_nothing : (given : Options) → Reads [] given (Some given)
reads_nothing given = ([], refl, refl)

-- words that begin with no option
pub reads_no_option : (word : List ℕ) (words : List (List ℕ)) (given : Options) → begun (word ∷ words) ≡ None → Reads (word ∷ words) given None
reads_no_option word words given found [] is = absurd (cc (is))
reads_no_option word words given found (it ∷ options) is = absurd (cc (ap begun is ∙ words_are_begun it (flat_map option_words options), found))

-- words that begin with an option of which such a one was given
pub reads_repeated : (words rest : List (List ℕ)) (it : LoadOption) (given : Options) → begun words ≡ Some (it, rest) → take_option given it ≡ None → Reads words given None
reads_repeated words rest it given found taken [] is = absurd (cc (ap begun (sym is), found))
reads_repeated words rest it given found taken (other ∷ options) is =
    let same : begins other (flat_map option_words options) ≡ begins it rest = sym (words_are_begun other (flat_map option_words options)) ∙ sym (ap begun is) ∙ found in
    ap (option_and_then (λ more. take_options more options)) (ap (take_option given) (first_same other it _ _ same) ∙ taken)

-- words that begin with an option, and go on so
pub reads_more : (words rest : List (List ℕ)) (it : LoadOption) (given more : Options) (result : Option Options) → begun words ≡ Some (it, rest) → take_option given it ≡ Some more →
    Reads rest more result → Reads words given result
reads_more words rest it given more (Some got) found taken reads = (
  it ∷ reads.0,
  begun_are_words words rest it found ∙ ap (λ them. option_words it ++ them) reads.1,
  ap (option_and_then (λ more. take_options more reads.0)) taken ∙ reads.2,
)
reads_more words rest it given more None found taken reads = none_more where
  none_more : (options : List LoadOption) → words ≡ flat_map option_words options → take_options given options ≡ None
  none_more [] is = absurd (cc (ap begun (sym is), found))
  none_more (other ∷ options) is =
      let same : begins other (flat_map option_words options) ≡ begins it rest = sym (words_are_begun other (flat_map option_words options)) ∙ sym (ap begun is) ∙ found in
      ap (option_and_then (λ more. take_options more options)) (ap (take_option given) (first_same other it _ _ same) ∙ taken)
      ∙ reads options (sym (second_same other it _ _ same))

-- the same of the words of texts, in the order of the code
module _ {A : Type 0} (f : A → List ℕ) where
  pub reads_none_at : (items : List A) (given : Options) → (length items == 0) ≡ false → begun (map f items) ≡ None → Reads (map f items) given None
  reads_none_at [] given some found = absurd (cc (some))
  reads_none_at (item ∷ items) given some found = reads_no_option (f item) (map f items) given found

  pub rest_shorter : (items rest : List A) (it : LoadOption) → begun (map f items) ≡ Some (it, map f rest) → length rest < length items
  rest_shorter items rest it found =
      omega (arith, ap length (begun_are_words (map f items) (map f rest) it found), some_words it (map f rest), length-map items f, length-map rest f) where
        some_words : (it : LoadOption) (rest : List (List ℕ)) → length rest < length (option_words it ++ rest)
        some_words (mode_option New) rest = omega arith
        some_words (mode_option Resume) rest = omega arith
        some_words (mode_option Auto) rest = omega arith
        some_words KeepGoing rest = omega arith
        some_words UpdateSingle rest = omega arith
        some_words Changes rest = omega arith

  pub two_words : (words rest options : List A) (command source : A) → words ≡ command ∷ rest → rest ≡ source ∷ options → map f words ≡ f command ∷ (f source ∷ map f options)
  two_words words rest options command source first second = ap (map f) first ∙ ap (λ them. f command ∷ map f them) second
