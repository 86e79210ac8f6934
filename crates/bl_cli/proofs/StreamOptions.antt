-- Options with a value each, read from front to back, are those that are given.
use Rattle.std.specs.Prelude.{◌≡◌, ◌≢◌, ℕ, suc, nat_eq, Bool, true, false, not, ◌&&◌, cond, is_some, codes, List, [], ◌∷◌, Some, None, Result, Ok, Err, refl}
use Rattle.std.specs.declared.option.Option.{Option}
use Rattle.std.specs.List.{All, flat_map}
use Rattle.std.proofs.Common.{sym, ap, subst, ◌∙◌, arith, eqb-true, eq-eqb}
use Rattle.std.proofs.lemmas.Bool.{true≢false}
use Rattle.std.proofs.lemmas.Option.{same_Some}
use Rattle.std.proofs.lemmas.List.Elements.{All-nil, All-cons, All-head, All-tail}
use Rattle.std.proofs.lemmas.List.Kept.{AllPairs-cons}
use Rattle.bl_stream.specs.declared.page_ask.PageAsk.{PageAsk}
use Rattle.bl_feed.specs.Parameters.{page_asked}
use Rattle.bl_feed.specs.declared.stream_parameter.StreamParameter.{StreamParameter}
use Rattle.bl_feed.specs.declared.stream_parameter.StreamParameter.TheVariants.{Limit, IteratorType, CommitNum, OpNum}
use Rattle.bl_cli.specs.Commands.{AreGivenOnce, AsksForPage, given_words, option_name, place, value_of}
use Rattle.bl_cli.specs.Options.{is_word}
use Rattle.bl_cli.specs.Reading.{are_options, is_new, is_new_one, page_in, page_or_none, parameter_named, value_in}
use Rattle.bl_cli.proofs.Readings.{same_word}

abbrev Pairs : Type 0
Pairs = List (StreamParameter × List ℕ)

abbrev Differ : StreamParameter × List ℕ → StreamParameter × List ℕ → Type 0
Differ a b = place a.0 ≢ place b.0

-- ---- names

-- names are equal where their options are
same_names : (a b : StreamParameter) → is_word (option_name a) (option_name b) ≡ nat_eq (place a) (place b)
same_names Limit Limit = refl
same_names Limit IteratorType = refl
same_names Limit CommitNum = refl
same_names Limit OpNum = refl
same_names IteratorType Limit = refl
same_names IteratorType IteratorType = refl
same_names IteratorType CommitNum = refl
same_names IteratorType OpNum = refl
same_names CommitNum Limit = refl
same_names CommitNum IteratorType = refl
same_names CommitNum CommitNum = refl
same_names CommitNum OpNum = refl
same_names OpNum Limit = refl
same_names OpNum IteratorType = refl
same_names OpNum CommitNum = refl
same_names OpNum OpNum = refl

name_is_named : (it : StreamParameter) → parameter_named (option_name it) ≡ Some it
name_is_named Limit = refl
name_is_named IteratorType = refl
name_is_named CommitNum = refl
name_is_named OpNum = refl

abbrev some_of : StreamParameter → Option StreamParameter
some_of it = Some it

named_by : (word : List ℕ) (it : StreamParameter) (a b c d : Bool) → is_word word (codes "--limit") ≡ a → is_word word (codes "--type") ≡ b → is_word word (codes "--commit") ≡ c → is_word word (codes "--op") ≡ d
    → cond a (some_of Limit) (cond b (some_of IteratorType) (cond c (some_of CommitNum) (cond d (some_of OpNum) None))) ≡ Some it → word ≡ option_name it
named_by word it true b c d is1 is2 is3 is4 found = same_word word (codes "--limit") is1 ∙ ap option_name (same_Some Limit it found)
named_by word it false true c d is1 is2 is3 is4 found = same_word word (codes "--type") is2 ∙ ap option_name (same_Some IteratorType it found)
named_by word it false false true d is1 is2 is3 is4 found = same_word word (codes "--commit") is3 ∙ ap option_name (same_Some CommitNum it found)
named_by word it false false false true is1 is2 is3 is4 found = same_word word (codes "--op") is4 ∙ ap option_name (same_Some OpNum it found)
named_by word it false false false false is1 is2 is3 is4 found = absurd (cc (found))

named_is : (word : List ℕ) (it : StreamParameter) → parameter_named word ≡ Some it → word ≡ option_name it
named_is word it found = named_by word it _ _ _ _ refl refl refl refl found

-- ---- values

-- the value that is read is the one that is given
value_is : (it : StreamParameter) (given : Pairs) → value_in it (flat_map given_words given) ≡ value_of it given
value_is it [] = refl
value_is it (pair ∷ given) =
    ap (λ test. cond test (Some pair.1) (value_in it (flat_map given_words given))) (same_names pair.0 it)
    ∙ ap (λ rest. cond (nat_eq (place pair.0) (place it)) (Some pair.1) rest) (value_is it given)

unequal_by : (a b : ℕ) (test : Bool) → nat_eq a b ≡ test → a ≢ b → test ≡ false
unequal_by a b true is apart = absurd (apart (eqb-true a b is))
unequal_by a b false is apart = refl

-- no value is given of an option that differs from all
no_value : (it : StreamParameter) (value : List ℕ) (given : Pairs) → All (Differ (it, value)) given → value_of it given ≡ None
no_value it value [] apart = refl
no_value it value (pair ∷ given) apart =
    ap (λ test. cond test (Some pair.1) (value_of it given))
    (unequal_by (place pair.0) (place it) (nat_eq (place pair.0) (place it)) refl (λ same. All-head (Differ (it, value)) pair given apart (sym same)))
    ∙ no_value it value given (All-tail (Differ (it, value)) pair given apart)

all_apart : (it : StreamParameter) (value : List ℕ) (given : Pairs) → is_some (value_of it given) ≡ false → All (Differ (it, value)) given
all_apart it value [] none = All-nil (Differ (it, value))
all_apart it value (pair ∷ given) none = by (nat_eq (place pair.0) (place it)) refl none (all_apart it value given) where
  by : (test : Bool) → nat_eq (place pair.0) (place it) ≡ test → is_some (cond test (Some pair.1) (value_of it given)) ≡ false → (is_some (value_of it given) ≡ false → All (Differ (it, value)) given)
      → All (Differ (it, value)) (pair ∷ given)
  by true is none rest = absurd (true≢false none)
  by false is none rest = All-cons (Differ (it, value)) pair given (λ same. true≢false (sym (eq-eqb (place pair.0) (place it) (sym same)) ∙ is)) (rest none)

-- ---- options

tail_once : (pair : StreamParameter × List ℕ) (given : Pairs) → AreGivenOnce (pair ∷ given) → AreGivenOnce given
tail_once pair given once i j d less below = once (suc i) (suc j) d (omega arith) (omega arith)

head_once : (pair : StreamParameter × List ℕ) (given : Pairs) → AreGivenOnce (pair ∷ given) → All (Differ pair) given
head_once pair given once k d below = once 0 (suc k) d (omega arith) (omega arith)

none_once : AreGivenOnce []
none_once i j d less below = absurd (omega arith)

and_both : (a b : Bool) → a ≡ true → b ≡ true → (a && b) ≡ true
and_both true true x y = refl
and_both true false x y = absurd (true≢false (sym y))
and_both false b x y = absurd (true≢false (sym x))

and_parts : (a b : Bool) → (a && b) ≡ true → (a ≡ true) × (b ≡ true)
and_parts true true is = (refl, refl)
and_parts true false is = absurd (true≢false (sym is))
and_parts false b is = absurd (true≢false (sym is))

-- options that are given once are read as such
given_are_options : (given : Pairs) → AreGivenOnce given → are_options (flat_map given_words given) ≡ true
given_are_options [] once = refl
given_are_options (pair ∷ given) once =
    and_both (is_new (option_name pair.0) (flat_map given_words given)) (are_options (flat_map given_words given))
    (ap (λ named. is_new_one named (flat_map given_words given)) (name_is_named pair.0)
    ∙ ap (λ found. not (is_some found)) (value_is pair.0 given ∙ no_value pair.0 pair.1 given (head_once pair given once)))
    (given_are_options given (tail_once pair given once))

record AreGiven (words : List (List ℕ)) : Type 0 where
  pub given : Pairs
  pub words_are : words ≡ flat_map given_words given
  pub once : AreGivenOnce given

not_true : (b : Bool) → not b ≡ true → b ≡ false
not_true true is = absurd (true≢false (sym is))
not_true false is = refl

-- what is read as options is given, each once
options_are_given : (words : List (List ℕ)) → are_options words ≡ true → AreGiven words
options_are_given [] are = record { given = []; words_are = refl; once = none_once }
options_are_given (name ∷ []) are = absurd (true≢false (sym are))
options_are_given (name ∷ (value ∷ rest)) are = by (parameter_named name) refl parts.0 (options_are_given rest parts.1) where
  parts : (is_new name rest ≡ true) × (are_options rest ≡ true)
  parts = and_parts (is_new name rest) (are_options rest) are

  by : (named : Option StreamParameter) → parameter_named name ≡ named → is_new_one named rest ≡ true → AreGiven rest → AreGiven (name ∷ (value ∷ rest))
  by None is new more = absurd (true≢false (sym new))
  by (Some it) is new more = record {
    given = (it, value) ∷ more.given;
    words_are = ap (λ n. n ∷ (value ∷ rest)) (named_is name it is) ∙ ap (λ r. option_name it ∷ (value ∷ r)) more.words_are;
    once =
        AllPairs-cons Differ (it, value) more.given
        (all_apart it value more.given (ap is_some (sym (value_is it more.given)) ∙ ap (λ r. is_some (value_in it r)) (sym more.words_are) ∙ not_true (is_some (value_in it rest)) new))
        more.once;
  }

-- ---- the page

ask_given : (given : Pairs)
    → page_asked (value_in Limit (flat_map given_words given)) (value_in IteratorType (flat_map given_words given)) (value_in CommitNum (flat_map given_words given)) (value_in OpNum (flat_map given_words given))
    ≡ page_asked (value_of Limit given) (value_of IteratorType given) (value_of CommitNum given) (value_of OpNum given)
ask_given given =
    ap (λ v. page_asked v (value_in IteratorType (flat_map given_words given)) (value_in CommitNum (flat_map given_words given)) (value_in OpNum (flat_map given_words given))) (value_is Limit given)
    ∙ ap (λ v. page_asked (value_of Limit given) v (value_in CommitNum (flat_map given_words given)) (value_in OpNum (flat_map given_words given))) (value_is IteratorType given)
    ∙ ap (λ v. page_asked (value_of Limit given) (value_of IteratorType given) v (value_in OpNum (flat_map given_words given))) (value_is CommitNum given)
    ∙ ap (λ v. page_asked (value_of Limit given) (value_of IteratorType given) (value_of CommitNum given) v) (value_is OpNum given)

-- the page that is asked for is read
pub page_is_read : (rest : List (List ℕ)) (ask : PageAsk) → AsksForPage (codes "stream" ∷ rest) ask → page_in rest ≡ Some ask
page_is_read rest ask asks =
    let rest_is : rest ≡ flat_map given_words asks.given = cc (asks.words_are) in
    ap page_in rest_is
    ∙ ap (λ test. cond test (page_or_none (page_asked (value_in Limit (flat_map given_words asks.given)) (value_in IteratorType (flat_map given_words asks.given)) (value_in CommitNum (flat_map given_words asks.given)) (value_in OpNum (flat_map given_words asks.given)))) None)
    (given_are_options asks.given asks.once)
    ∙ ap page_or_none (ask_given asks.given ∙ asks.ask_is)

-- what is read is asked for
pub page_is_asked : (rest : List (List ℕ)) (ask : PageAsk) → page_in rest ≡ Some ask → AsksForPage (codes "stream" ∷ rest) ask
page_is_asked rest ask read = by (are_options rest) refl read where
  asked : Pairs → Type 0
  asked given = page_asked (value_of Limit given) (value_of IteratorType given) (value_of CommitNum given) (value_of OpNum given) ≡ Ok ask

  ok_of : (made : Result PageAsk StreamParameter) → page_or_none made ≡ Some ask → made ≡ Ok ask
  ok_of (Ok other) is = ap Ok (same_Some other ask is)
  ok_of (Err refused) is = absurd (cc (is))

  by : (test : Bool) → are_options rest ≡ test → cond test (page_or_none (page_asked (value_in Limit rest) (value_in IteratorType rest) (value_in CommitNum rest) (value_in OpNum rest))) None ≡ Some ask → AsksForPage (codes "stream" ∷ rest) ask
  by false is read = absurd (cc (read))
  by true is read =
      let given = options_are_given rest is in
      record {
        given = given.given;
        words_are = ap (λ r. codes "stream" ∷ r) given.words_are;
        once = given.once;
        ask_is =
            sym (ask_given given.given)
            ∙ subst (λ r. page_asked (value_in Limit r) (value_in IteratorType r) (value_in CommitNum r) (value_in OpNum r) ≡ Ok ask) given.words_are (ok_of _ read);
      }
