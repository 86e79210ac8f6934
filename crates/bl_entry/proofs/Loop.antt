-- Reading items one after the other, as a loop does.
use Rattle.std.proofs.Common.{◌≡◌, ℕ, suc, ◌-◌, ◌+◌, ◌≤◌, ◌<◌, List, [], ◌∷◌, ◌++◌, Option, Some, None, refl, sym, ap, ◌∙◌, append_assoc, arith}
use Rattle.std.proofs.lemmas.List.{append-nil}
use Rattle.bl_entry.specs.declared.refusal.EntryRefusal.{EntryRefusal}
use Rattle.bl_entry.specs.declared.refusal.EntryRefusal.TheVariants.{NotAnEntry, NoMemory}
use Rattle.bl_entry.specs.Reading.{◌>>=◌, items_at}

module _ {A : Type 0} (at : List ℕ → Option (A × List ℕ)) where
  -- what was read before, and what is still read
  abbrev pub with_front : List A → Option (List A × List ℕ) → Option (List A × List ℕ)
  with_front front read = read >>= λ x. Some (front ++ x.0, x.1)

  regroup : (front : List A) (item : A) (read : Option (List A × List ℕ)) → with_front front (read >>= λ x. Some (item ∷ x.0, x.1)) ≡ with_front (front ++ item ∷ []) read
  regroup front item (Some x) = ap (λ (items : List A). Some (items, x.1)) (sym (append_assoc front (item ∷ []) x.0))
  regroup front item None = refl

  one_item : (count i : ℕ) (bytes : List ℕ) → i < count → items_at at (count - i) bytes ≡ (at bytes >>= λ x. items_at at (count - (i + 1)) x.1 >>= λ xs. Some (x.0 ∷ xs.0, xs.1))
  one_item count i bytes lt = let k : count - i ≡ suc (count - (i + 1)) = omega arith in ap (λ n. items_at at n bytes) k

  pub goes_on : (front : List A) (count i : ℕ) (bytes : List ℕ) (item : A) (after : List ℕ) (total : Option (List A × List ℕ)) → i < count → at bytes ≡ Some (item, after)
      → with_front front (items_at at (count - i) bytes) ≡ total → with_front (front ++ item ∷ []) (items_at at (count - (i + 1)) after) ≡ total
  goes_on front count i bytes item after total lt h so_far =
      sym (ap (with_front front) (one_item count i bytes lt ∙ ap (λ (r : Option (A × List ℕ)). r >>= λ x. items_at at (count - (i + 1)) x.1 >>= λ xs. Some (x.0 ∷ xs.0, xs.1)) h) ∙ regroup front item (items_at at (count - (i + 1)) after)) ∙ so_far

  pub ends : (front : List A) (count i : ℕ) (bytes : List ℕ) (total : Option (List A × List ℕ)) → i < count → at bytes ≡ None
      → with_front front (items_at at (count - i) bytes) ≡ total → total ≡ None
  ends front count i bytes total lt h so_far =
      sym so_far ∙ ap (with_front front) (one_item count i bytes lt ∙ ap (λ (r : Option (A × List ℕ)). r >>= λ x. items_at at (count - (i + 1)) x.1 >>= λ xs. Some (x.0 ∷ xs.0, xs.1)) h)

  pub is_done : (front : List A) (count i : ℕ) (bytes : List ℕ) (total : Option (List A × List ℕ)) → count ≤ i → with_front front (items_at at (count - i) bytes) ≡ total → total ≡ Some (front, bytes)
  is_done front count i bytes total le so_far =
      let k : count - i ≡ 0 = omega arith in
      sym so_far ∙ ap (λ n. with_front front (items_at at n bytes)) k ∙ ap (λ (items : List A). Some (items, bytes)) (append-nil front)

  -- why there is nothing to read
  abbrev pub Fails : {Y : Type 0} → EntryRefusal → Option Y → Type 0
  Fails NotAnEntry read = read ≡ None
  Fails NoMemory read = Unit {0}

  pub stops : (e : EntryRefusal) (front : List A) (count i : ℕ) (bytes : List ℕ) (total : Option (List A × List ℕ)) → i < count → Fails e (at bytes)
      → with_front front (items_at at (count - i) bytes) ≡ total → Fails e total
  stops NotAnEntry front count i bytes total lt h so_far = ends front count i bytes total lt h so_far
  stops NoMemory front count i bytes total lt h so_far = tt
