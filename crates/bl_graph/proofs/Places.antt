-- The places of ids.
use Rattle.std.specs.Prelude.{◌≡◌, ℕ, nat_eq, Bool, true, false, cond, List, [], ◌∷◌, ◌++◌, length, slice_get, position, Some, None, IfSome, is_some, refl}
use Rattle.std.specs.declared.option.Option.{Option}
use Rattle.std.specs.Option.{unwrap_or, option_map}
use Rattle.std.proofs.Common.{sym, ap, subst, ◌∙◌, get_or, zero, suc}
use Rattle.std.proofs.lemmas.Bool.{false≢true}
use Rattle.std.proofs.lemmas.Option.{slice_get-get_or, get_or_from_slice_get}
use Rattle.std.proofs.lemmas.List.Quantifiers.{position-Some}
use Rattle.std.specs.List.{position_or_len}
use Rattle.std.specs.Map.{keys_of, values_of}
use Rattle.std.specs.Cmp.Lexicographic.{pointwise, nat_list_eq_equiv}
use Rattle.indexmap.specs.IndexMap.{IndexMap, IsUnique, with_value_at, insert_entry}
use Rattle.indexmap.proofs.CallerLemmas.{updates-with_value_at, keys-with_value_at, insert_entry-new}
use Rattle.indexmap.proofs.MapLemmas.{absent_from_lookup, or_len-absent}
use Rattle.bl_graph.specs.Numbered.{IsFront}
use Rattle.bl_graph.specs.Owners.{AreSame, IsPlace, IsSet, found, owner_at}
use Rattle.bl_graph.proofs.Named.{equal_texts}

same_self : (id : List ℕ) → pointwise nat_eq id id ≡ true
same_self id = nat_list_eq_equiv.refl id

module _ {X : Type 0} where
  pub key_at : (es : List (List ℕ × X)) (i : ℕ) → slice_get (keys_of es) i ≡ option_map (λ e. e.0) (slice_get es i)
  key_at [] i = refl
  key_at (e ∷ es) zero = refl
  key_at (e ∷ es) (suc i) = key_at es i

  value_at : (es : List (List ℕ × X)) (i : ℕ) → slice_get (values_of es) i ≡ option_map (λ e. e.1) (slice_get es i)
  value_at [] i = refl
  value_at (e ∷ es) zero = refl
  value_at (e ∷ es) (suc i) = value_at es i

  abbrev some_of : Option X → X → X
  some_of (Some x) d = x
  some_of None d = d

  same_some : (x y : X) → Some x ≡ Some y → x ≡ y
  same_some x y h = ap (λ o. some_of o x) h

  none_is : (x : X) → None ≡ Some x → ⊥
  none_is x h = false≢true (ap is_some h)

  -- the place that a look-up found
  place_by : (es : List (List ℕ × X)) (id : List ℕ) (i : ℕ) (o : Option (List ℕ × X)) → slice_get es i ≡ o → position (pointwise nat_eq id) (keys_of es) ≡ Some i → slice_get (values_of es) i ≡ found es id → IsPlace es id i
  place_by es id i None is at value =
      let p = position-Some (pointwise nat_eq id) (keys_of es) i [] at in
      absurd (false≢true (ap is_some (sym (key_at es i ∙ ap (option_map (λ e. e.0)) is)) ∙ ap is_some (slice_get-get_or (keys_of es) i [] p.0)))
  place_by es id i (Some e) is at value =
      let p = position-Some (pointwise nat_eq id) (keys_of es) i [] at in
      let key : get_or (keys_of es) i [] ≡ e.0 = get_or_from_slice_get (keys_of es) i e.0 [] (key_at es i ∙ ap (option_map (λ e. e.0)) is) in
      let same : id ≡ e.0 = equal_texts id (get_or (keys_of es) i []) p.1 ∙ key in
      record { owner = e.1; at = is ∙ (λ j. Some (sym same j, e.1)); is = sym value ∙ value_at es i ∙ ap (option_map (λ e. e.1)) is }

  pub place_is : (es : List (List ℕ × X)) (id : List ℕ) (i : ℕ) → position (pointwise nat_eq id) (keys_of es) ≡ Some i → slice_get (values_of es) i ≡ found es id → IsPlace es id i
  place_is es id i at value = place_by es id i (slice_get es i) refl at value

  -- the same, of a result
  pub place_found : (es : List (List ℕ × X)) (id : List ℕ) (r : Option ℕ) → r ≡ position (pointwise nat_eq id) (keys_of es) → IfSome r (λ i. slice_get (values_of es) i ≡ found es id) → IfSome r (IsPlace es id)
  place_found es id None at value = tt
  place_found es id (Some i) at value = place_is es id i (sym at) value

  -- the place that was guessed
  pub place_guessed : (es : List (List ℕ × X)) (id text : List ℕ) (i : ℕ) (owner : X) → Some (text, owner) ≡ slice_get es i → found es text ≡ Some owner → pointwise nat_eq text id ≡ true → IsPlace es id i
  place_guessed es id text i owner at is same =
      let e : text ≡ id = equal_texts text id same in
      record { owner = owner; at = sym at ∙ (λ j. Some (e j, owner)); is = ap (found es) (sym e) ∙ is }

  last_at : (es : List (List ℕ × X)) (e : List ℕ × X) → slice_get (es ++ e ∷ []) (length es) ≡ Some e
  last_at [] e = refl
  last_at (x ∷ es) e = last_at es e

  keys_behind : (es : List (List ℕ × X)) (e : List ℕ × X) → keys_of (es ++ e ∷ []) ≡ keys_of es ++ e.0 ∷ []
  keys_behind [] e = refl
  keys_behind (x ∷ es) e = ap (λ l. x.0 ∷ l) (keys_behind es e)

  module _ {S : Type 0} (m : IndexMap (List ℕ) X S) (new : List (List ℕ × X)) (key id : List ℕ) (owner none : X) (same : key ≡ id) (missing : found m.entries id ≡ None) (entries : new ≡ insert_entry (pointwise nat_eq) m.entries key owner) (updates : (q : List ℕ) → found new q ≡ cond (pointwise nat_eq key q) (Some owner) (found m.entries q)) where
    behind : new ≡ m.entries ++ (id, owner) ∷ []
    behind = entries ∙ ap (λ k. insert_entry (pointwise nat_eq) m.entries k owner) same ∙ insert_entry-new (pointwise nat_eq) m id owner missing

    -- an id that is new has the next place
    pub place_new : (i : ℕ) → i ≡ position_or_len (pointwise nat_eq key) (keys_of m.entries) → IsPlace new id i
    place_new i is = record {
      owner = owner;
      at = ap (slice_get new) (is ∙ ap (λ k. position_or_len (pointwise nat_eq k) (keys_of m.entries)) same ∙ or_len-absent (pointwise nat_eq id) m.entries (absent_from_lookup (pointwise nat_eq id) m.entries missing))
          ∙ ap (λ l. slice_get l (length m.entries)) behind ∙ last_at m.entries (id, owner);
      is = updates id ∙ ap (λ k. cond (pointwise nat_eq k id) (Some owner) (found m.entries id)) same ∙ ap (λ b. cond b (Some owner) (found m.entries id)) (same_self id);
    }

    at_by : (q : List ℕ) (b : Bool) → pointwise nat_eq id q ≡ b → owner ≡ none → unwrap_or (cond b (Some owner) (found m.entries q)) none ≡ unwrap_or (found m.entries q) none
    at_by q true is e = e ∙ ap (λ o. unwrap_or o none) (sym missing ∙ ap (found m.entries) (equal_texts id q is))
    at_by q false is e = refl

    -- nothing is said of it
    pub same_new : owner ≡ none → AreSame none m.entries new
    same_new e = record {
      at = λ q. ap (λ o. unwrap_or o none) (updates q ∙ ap (λ k. cond (pointwise nat_eq k q) (Some owner) (found m.entries q)) same) ∙ at_by q (pointwise nat_eq id q) refl e;
      front = (id ∷ [], ap keys_of behind ∙ keys_behind m.entries (id, owner));
    }

append_none : {Y : Type 0} (xs : List Y) → xs ≡ xs ++ []
append_none [] = refl
append_none (x ∷ xs) = ap (λ l. x ∷ l) (append_none xs)

pub same_front : {Y : Type 0} (xs : List Y) → IsFront xs xs
same_front xs = ([], append_none xs)

-- nothing changed
pub same_all : {X : Type 0} (none : X) (es : List (List ℕ × X)) → AreSame none es es
same_all none es = record { at = λ q. refl; front = ([], append_none (keys_of es)) }

module _ {X S : Type 0} (m : IndexMap (List ℕ) X S) (i : ℕ) (w : X) (unique : IsUnique (pointwise nat_eq) m) where
  set_by : (f : X → X) (v : X) (o : Option (List ℕ × X)) → slice_get m.entries i ≡ o → Some v ≡ slice_get (values_of m.entries) i → w ≡ f v → IfSome o (λ e. IsSet m.entries (with_value_at m i w).entries e.0 (f e.1))
  set_by f v None is value written = tt
  set_by f v (Some e) is value written =
      let old : v ≡ e.1 = same_some v e.1 (value ∙ value_at m.entries i ∙ ap (option_map (λ e. e.1)) is) in
      let to : w ≡ f e.1 = written ∙ ap f old in
      let updates = updates-with_value_at m i w nat_list_eq_equiv unique e.0 e.1 is in
      record { at = λ q. updates.0 q ∙ ap (λ x. cond (pointwise nat_eq e.0 q) (Some x) (found m.entries q)) to; keys = keys-with_value_at m i w }

  -- what was written at a place
  pub set_at : (f : X → X) (v : X) → Some v ≡ slice_get (values_of m.entries) i → w ≡ f v → IfSome (slice_get m.entries i) (λ e. IsSet m.entries (with_value_at m i w).entries e.0 (f e.1))
  set_at f v value written = set_by f v (slice_get m.entries i) refl value written

missing_by : {X : Type 0} (es : List (List ℕ × X)) (i : ℕ) (P : List ℕ × X → Type 0) (o : Option (List ℕ × X)) → slice_get es i ≡ o → None ≡ slice_get (values_of es) i → IfSome o P
missing_by es i P None is none = tt
missing_by es i P (Some e) is none = absurd (false≢true (ap is_some (none ∙ value_at es i ∙ ap (option_map (λ e. e.1)) is)))

-- there is nothing at a place past the last
pub set_missing : {X : Type 0} (es : List (List ℕ × X)) (i : ℕ) (P : List ℕ × X → Type 0) → None ≡ slice_get (values_of es) i → IfSome (slice_get es i) P
set_missing es i P none = missing_by es i P (slice_get es i) refl none

module _ {X : Type 0} (none : X) (old new : List (List ℕ × X)) (id : List ℕ) (place : ℕ) (found_place : IsPlace old id place) where
  owner_is : owner_at none old id ≡ found_place.owner
  owner_is = ap (λ o. unwrap_or o none) found_place.is

  set_by_place : (f : X → X) → IfSome (slice_get old place) (λ e. IsSet old new e.0 (f e.1)) → IsSet old new id (f found_place.owner)
  set_by_place f h = subst (λ o. IfSome o (λ e. IsSet old new e.0 (f e.1))) found_place.at h

  unwrapped : (b : Bool) (x : X) (o : Option X) → unwrap_or (cond b (Some x) o) none ≡ cond b x (unwrap_or o none)
  unwrapped true x o = refl
  unwrapped false x o = refl

  -- what stands at each id after one was written
  pub owner_set : (f : X → X) → IfSome (slice_get old place) (λ e. IsSet old new e.0 (f e.1)) → (q : List ℕ) → owner_at none new q ≡ cond (pointwise nat_eq id q) (f (owner_at none old id)) (owner_at none old q)
  owner_set f h = λ q.
      ap (λ o. unwrap_or o none) ((set_by_place f h).at q)
      ∙ unwrapped (pointwise nat_eq id q) (f found_place.owner) (found old q)
      ∙ ap (λ x. cond (pointwise nat_eq id q) (f x) (owner_at none old q)) (sym owner_is)

  pub keys_set : (f : X → X) → IfSome (slice_get old place) (λ e. IsSet old new e.0 (f e.1)) → keys_of new ≡ keys_of old
  keys_set f h = (set_by_place f h).keys

  unchanged_by : (q : List ℕ) (b : Bool) → pointwise nat_eq id q ≡ b → cond b (owner_at none old id) (owner_at none old q) ≡ owner_at none old q
  unchanged_by q true is = ap (owner_at none old) (equal_texts id q is)
  unchanged_by q false is = refl

  -- what was there is written again
  pub unchanged_set : IfSome (slice_get old place) (λ e. IsSet old new e.0 e.1) → AreSame none old new
  unchanged_set h = record {
    at = λ q. owner_set (λ x. x) h q ∙ unchanged_by q (pointwise nat_eq id q) refl;
    front = ([], keys_set (λ x. x) h ∙ append_none (keys_of old));
  }
