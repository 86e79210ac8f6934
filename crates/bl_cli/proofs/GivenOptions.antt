-- What options say together, and that each is given at most once.
use Rattle.std.specs.Prelude.{◌≡◌, ◌≢◌, ℕ, suc, nat_eq, Bool, true, false, not, ◌||◌, cond, is_some, codes, unwrap_or, List, [], ◌∷◌, Some, None, refl}
use Rattle.std.specs.declared.option.Option.{Option}
use Rattle.std.specs.Option.{option_and_then, option_or}
use Rattle.std.specs.List.{All, list_any}
use Rattle.std.proofs.Common.{sym, ap, subst, ◌∙◌, arith, eqb-true, eq-eqb}
use Rattle.std.proofs.lemmas.Option.{same_Some}
use Rattle.std.proofs.lemmas.Bool.{or_parts, or_from}
use Rattle.std.proofs.lemmas.List.Elements.{All-nil, All-cons, All-head, All-tail}
use Rattle.std.proofs.lemmas.List.Kept.{AllPairs-cons}
use Rattle.std.proofs.lemmas.Slice.Eq.{bytes_eq-Decides}
use Rattle.bl_files.specs.Sources.{kept_source}
use Rattle.bl_files.specs.declared.mode.Mode.{Mode}
use Rattle.bl_files.specs.declared.mode.Mode.TheVariants.{Auto}
use Rattle.bl_cli.specs.declared.load_option.LoadOption.{LoadOption}
use Rattle.bl_cli.specs.declared.load_option.LoadOption.TheVariants.{Mode as mode_option, KeepGoing, UpdateSingle, Changes}
use Rattle.bl_cli.specs.declared.options.Options.{Options}
use Rattle.bl_cli.specs.Words.{AreEachOnce, AskForNoLoad, AsksForLoad, is_changes, is_keep_going, is_update_single, kind_of, mode_in, request_by}
use Rattle.bl_cli.specs.Options.{Reads, asked_by, is_given, is_word, nothing_given, take_options, with_option}

abbrev Differ : LoadOption → LoadOption → Type 0
Differ a b = kind_of a ≢ kind_of b

pairs_head : (it : LoadOption) (options : List LoadOption) → AreEachOnce (it ∷ options) → All (Differ it) options
pairs_head it options pairs k d below = pairs 0 (suc k) d (omega arith) (omega arith)

pairs_tail : (it : LoadOption) (options : List LoadOption) → AreEachOnce (it ∷ options) → AreEachOnce options
pairs_tail it options pairs i j d less below = pairs (suc i) (suc j) d (omega arith) (omega arith)

pairs_none : AreEachOnce []
pairs_none i j d less below = absurd (omega arith)

-- such a one is given once it or such a one was
given_more : (given : Options) (it other : LoadOption) → is_given (with_option given it) other ≡ (nat_eq (kind_of it) (kind_of other) || is_given given other)
given_more given (mode_option a) (mode_option b) = refl
given_more given (mode_option a) KeepGoing = refl
given_more given (mode_option a) UpdateSingle = refl
given_more given (mode_option a) Changes = refl
given_more given KeepGoing (mode_option b) = refl
given_more given KeepGoing KeepGoing = refl
given_more given KeepGoing UpdateSingle = refl
given_more given KeepGoing Changes = refl
given_more given UpdateSingle (mode_option b) = refl
given_more given UpdateSingle KeepGoing = refl
given_more given UpdateSingle UpdateSingle = refl
given_more given UpdateSingle Changes = refl
given_more given Changes (mode_option b) = refl
given_more given Changes KeepGoing = refl
given_more given Changes UpdateSingle = refl
given_more given Changes Changes = refl

-- none such was given
abbrev IsFresh : Options → LoadOption → Type 0
IsFresh given it = is_given given it ≡ false

differ_of : (a b : ℕ) → nat_eq a b ≡ false → a ≢ b
differ_of a b is same = absurd (cc (is, eq-eqb a b same))

unequal_by : (a b : ℕ) (test : Bool) → nat_eq a b ≡ test → a ≢ b → test ≡ false
unequal_by a b true is apart = absurd (apart (eqb-true a b is))
unequal_by a b false is apart = refl

unequal_of : (a b : ℕ) → a ≢ b → nat_eq a b ≡ false
unequal_of a b apart = unequal_by a b (nat_eq a b) refl apart

fresh_parts : (given : Options) (it other : LoadOption) → IsFresh (with_option given it) other → Differ it other × IsFresh given other
fresh_parts given it other fresh =
    let parts : (nat_eq (kind_of it) (kind_of other) ≡ false) × (is_given given other ≡ false) = or_parts _ _ (sym (given_more given it other) ∙ fresh) in
    (differ_of (kind_of it) (kind_of other) parts.0, parts.1)

fresh_from : (given : Options) (it other : LoadOption) → Differ it other → IsFresh given other → IsFresh (with_option given it) other
fresh_from given it other apart fresh = given_more given it other ∙ or_from _ _ (unequal_of (kind_of it) (kind_of other) apart) fresh

-- what options say, with what was said before
record Says (given : Options) (options : List LoadOption) (got : Options) : Type 0 where
  pub mode : got.mode ≡ option_or given.mode (mode_in options)
  pub keep_going : got.keep_going ≡ (given.keep_going || list_any is_keep_going options)
  pub update_single : got.update_single ≡ (given.update_single || list_any is_update_single options)
  pub changes : got.changes ≡ (given.changes || list_any is_changes options)

or_nothing : (a : Option Mode) → a ≡ option_or a None
or_nothing None = refl
or_nothing (Some mode) = refl

or_no : (a : Bool) → a ≡ (a || false)
or_no true = refl
or_no false = refl

none_of : (a : Option Mode) (m : Option Mode) → is_some a ≡ false → m ≡ option_or a m
none_of None m is = refl
none_of (Some mode) m is = absurd (cc (is))

not_yet : (a b : Bool) → a ≡ false → b ≡ (a || b)
not_yet true b is = absurd (cc (is))
not_yet false b is = refl

says_more : (given : Options) (it : LoadOption) (options : List LoadOption) (got : Options) → IsFresh given it → Says (with_option given it) options got → Says given (it ∷ options) got
says_more given (mode_option mode) options got fresh says = record {
  mode = says.mode ∙ none_of given.mode (Some mode) fresh;
  keep_going = says.keep_going;
  update_single = says.update_single;
  changes = says.changes;
}
says_more given KeepGoing options got fresh says = record {
  mode = says.mode;
  keep_going = says.keep_going ∙ not_yet given.keep_going true fresh;
  update_single = says.update_single;
  changes = says.changes;
}
says_more given UpdateSingle options got fresh says = record {
  mode = says.mode;
  keep_going = says.keep_going;
  update_single = says.update_single ∙ not_yet given.update_single true fresh;
  changes = says.changes;
}
says_more given Changes options got fresh says = record {
  mode = says.mode;
  keep_going = says.keep_going;
  update_single = says.update_single;
  changes = says.changes ∙ not_yet given.changes true fresh;
}

record Takes (given : Options) (options : List LoadOption) (got : Options) : Type 0 where
  pub fresh : All (IsFresh given) options
  pub once : AreEachOnce options
  pub says : Says given options got

takes_more : (given : Options) (it : LoadOption) (options : List LoadOption) (got : Options) → IsFresh given it → Takes (with_option given it) options got → Takes given (it ∷ options) got
takes_more given it options got fresh takes = record {
  fresh = All-cons (IsFresh given) it options fresh (λ k d below. (fresh_parts given it _ (takes.fresh k d below)).1);
  once = AllPairs-cons Differ it options (λ k d below. (fresh_parts given it _ (takes.fresh k d below)).0) takes.once;
  says = says_more given it options got fresh takes.says;
}

-- options that were taken were each given once
takes_of : (given : Options) (options : List LoadOption) (got : Options) → take_options given options ≡ Some got → Takes given options got
takes_of given [] got taken =
    let same : given ≡ got = same_Some _ _ taken in
    record {
      fresh = All-nil (IsFresh given);
      once = pairs_none;
      says = subst (λ (o : Options). Says given [] o) same
          (record { mode = or_nothing given.mode; keep_going = or_no given.keep_going; update_single = or_no given.update_single; changes = or_no given.changes });
    }
takes_of given (it ∷ options) got taken = by_test (is_given given it) refl taken (λ t. takes_of (with_option given it) options got t) where
  by_test : (test : Bool) → is_given given it ≡ test → option_and_then (λ more. take_options more options) (cond test None (Some (with_option given it))) ≡ Some got
      → (take_options (with_option given it) options ≡ Some got → Takes (with_option given it) options got)
      → Takes given (it ∷ options) got
  by_test true is taken later = absurd (cc (taken))
  by_test false is taken later = takes_more given it options got is (later taken)

-- options that could not be taken were not each given once
refused_of : (given : Options) (options : List LoadOption) → take_options given options ≡ None → All (IsFresh given) options → ¬ AreEachOnce options
refused_of given [] taken fresh once = absurd (cc (taken))
refused_of given (it ∷ options) taken fresh once =
    by_test (is_given given it) refl taken (λ t. refused_of (with_option given it) options t still (pairs_tail it options once)) where
      still : All (IsFresh (with_option given it)) options
      still k d below = fresh_from given it _ (pairs_head it options once k d below) (All-tail (IsFresh given) it options fresh k d below)

      by_test : (test : Bool) → is_given given it ≡ test → option_and_then (λ more. take_options more options) (cond test None (Some (with_option given it))) ≡ None
          → (take_options (with_option given it) options ≡ None → ⊥)
          → ⊥
      by_test true is taken later = absurd (cc (is, All-head (IsFresh given) it options fresh))
      by_test false is taken later = later taken

all_fresh : (options : List LoadOption) → All (IsFresh nothing_given) options
all_fresh [] = All-nil (IsFresh nothing_given)
all_fresh (it ∷ options) = All-cons (IsFresh nothing_given) it options (fresh it) (all_fresh options) where
  fresh : (it : LoadOption) → IsFresh nothing_given it
  fresh (mode_option mode) = refl
  fresh KeepGoing = refl
  fresh UpdateSingle = refl
  fresh Changes = refl

-- what is asked for, by what the options say
asked_is : (kept : List ℕ) (options : List LoadOption) (got : Options) → Says nothing_given options got →
    asked_by kept got ≡ record { request = request_by kept options; changes = list_any is_changes options }
asked_is kept options got says =
    λ i. record {
      request = record {
        source = kept;
        format = 0;
        mode = unwrap_or (says.mode i) Auto;
        fail_on_error = not (says.keep_going i);
        update_single = says.update_single i;
        parallelism = 2;
        queue = false;
        dependencies = [];
      };
      changes = says.changes i;
    }

-- ---- all words

-- these words ask for this load
pub asks : (source kept : List ℕ) (words : List (List ℕ)) (got : Options) (command : List ℕ) → is_word command (codes "load") ≡ true → Reads words nothing_given (Some got) → Some kept ≡ kept_source source →
    AsksForLoad (command ∷ (source ∷ words)) (asked_by kept got)
asks source kept words got command is reads kept_is =
    let takes : Takes nothing_given reads.0 got = takes_of nothing_given reads.0 got reads.2 in
    record {
      source = source;
      options = reads.0;
      words_are = ap (λ w. w ∷ (source ∷ words)) ((bytes_eq-Decides command (codes "load")).0 is) ∙ ap (λ w. codes "load" ∷ (source ∷ w)) reads.1;
      once = takes.once;
      kept = kept;
      kept_is = sym kept_is;
      load_is = asked_is kept reads.0 got takes.says;
    }

head_same : (a b : List ℕ) (x y : List (List ℕ)) → a ∷ x ≡ b ∷ y → a ≡ b
head_same a b x y same = cc

tail_same : (a b : List ℕ) (x y : List (List ℕ)) → a ∷ x ≡ b ∷ y → x ≡ y
tail_same a b x y same = cc

-- the first word is another
pub no_load : (command source : List ℕ) (words : List (List ℕ)) → is_word command (codes "load") ≡ false → AskForNoLoad (command ∷ (source ∷ words))
no_load command source words is load asks =
    cc (is, (bytes_eq-Decides command (codes "load")).1 (head_same command (codes "load") _ _ asks.words_are))

-- there are no such options
pub no_options : (command source : List ℕ) (words : List (List ℕ)) → Reads words nothing_given None → AskForNoLoad (command ∷ (source ∷ words))
no_options command source words reads load asks =
    refused_of nothing_given asks.options
    (reads asks.options (tail_same source asks.source words _ (tail_same command (codes "load") _ _ asks.words_are)))
    (all_fresh asks.options) asks.once

-- the second word is no source
pub no_source : (command source : List ℕ) (words : List (List ℕ)) → kept_source source ≡ None → AskForNoLoad (command ∷ (source ∷ words))
no_source command source words none load asks =
    let same : source ≡ asks.source = head_same source asks.source words _ (tail_same command (codes "load") _ _ asks.words_are) in
    cc (none, ap kept_source same, asks.kept_is)

pub one_word : (command : List ℕ) → AskForNoLoad (command ∷ [])
one_word command load asks = absurd (cc (tail_same command (codes "load") _ _ asks.words_are))

pub no_word : AskForNoLoad []
no_word load asks = absurd (cc (asks.words_are))
