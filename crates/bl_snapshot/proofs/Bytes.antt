-- Slots in lists of bytes.
use Rattle.std.proofs.Common.{◌≡◌, ◌≢◌, inl, inr, ⊎_elim, ℕ, ◌+◌, ◌-◌, ◌<◌, ◌≤◌, ◌^◌, Bool, true, false, List, [], ◌∷◌, ◌++◌, length, take, drop, get_or, Some, None, Ok, Err, refl, sym, ◌∙◌, ap, arith}
use Rattle.std.specs.Prelude.{if◌then◌else◌, ◌==◌, ◌&&◌, nat_le, Result}
use Rattle.std.specs.declared.option.Option.{Option}
use Rattle.std.proofs.lemmas.Option.{none-some}
use Rattle.std.proofs.lemmas.Bool.{lt-leb, le-leb, ne_eqb, eqb-true, cases_eq}
use Rattle.std.proofs.lemmas.List.{append-nil, take-take, take_at, drop_all, drop_more, drop-drop, take-append-drop, length-append}
use Rattle.std.proofs.lemmas.Nat.{from_be_bytes-to_be_bytes_4, from_be_bytes-to_be_bytes_8}
use Rattle.bl_outside.specs.Disks.{overwritten, Torn}
use Rattle.bl_snapshot.specs.SlotFiles.{head, new_file, first_difference, open_length, in_slot, snapshot_of, snapshot_at, slot_in, behind_gate, ClosedOr}
use Rattle.bl_snapshot.specs.declared.snapshot.Snapshot.{Snapshot}

Found : Type 0
Found = Result (Option Snapshot) ℕ

cond_none : (b : Bool) (o : Option ℕ) (place : ℕ) → (if b then o else Some place) ≡ None → (b ≡ true) × (o ≡ None)
cond_none true o place is = (refl, is)
cond_none false o place is = absurd (none-some place (sym is))

first_same : (place : ℕ) (hs bytes : List ℕ) → first_difference place hs bytes ≡ None → take (length hs) bytes ≡ hs
first_same place [] bytes is = refl
first_same place (h ∷ hs) [] is = absurd (none-some place (sym is))
first_same place (h ∷ hs) (b ∷ bytes) is =
    let t = cond_none (h == b) (first_difference (place + 1) hs bytes) place is in
    let same : h ≡ b = eqb-true h b t.0 in
    let rest : take (length hs) bytes ≡ hs = first_same (place + 1) hs bytes t.1 in
    cc

-- a file of at most 16 bytes is closed
pub short_closed : (c : List ℕ) → length c ≤ 16 → slot_in c ≡ Ok None
short_closed c short = ap (λ b. if b then Ok None else in_slot (open_length (take 20 c)) c) (le-leb (length c) 16 short)

long_is : (c : List ℕ) → 16 < length c → slot_in c ≡ in_slot (open_length (take 20 c)) c
long_is c long = ap (λ b. if b then Ok None else in_slot (open_length (take 20 c)) c) (lt-leb (length c) 16 long)

either : (b : Bool) (x : Result (Option Snapshot) ℕ) → x ≡ Ok None → (if b then Ok None else x) ≡ Ok None
either true x is = refl
either false x is = is

-- with the head and a closed gate a file is closed, whatever is behind it
pub closed_is : (gate : ℕ) (rest : List ℕ) → gate ≢ 1 → slot_in (head ++ gate ∷ rest) ≡ Ok None
closed_is gate rest shut =
    either (nat_le (length (head ++ gate ∷ rest)) 16) (in_slot (open_length (take 20 (head ++ gate ∷ rest))) (head ++ gate ∷ rest))
    (ap (λ b. in_slot (if b then Ok (Some (Rattle.bl_snapshot.specs.SlotFiles.number_4 (take 4 rest))) else Ok None) (head ++ gate ∷ rest)) (ne_eqb gate 1 shut))

-- a file of more than 16 bytes that is a slot has the head
at_place : (o : Option ℕ) (front image : List ℕ) (found : Option Snapshot) → in_slot (Rattle.bl_snapshot.specs.SlotFiles.length_at_gate o front) image ≡ Ok found → o ≡ None
at_place None front image found is = refl
at_place (Some place) front image found is = absurd (err_ok is)
  where
    err_ok : Err place ≡ Ok found → ⊥
    err_ok is = cc

split_at : (c : List ℕ) → 15 < length c → take 15 c ≡ head → c ≡ head ++ get_or c 15 0 ∷ drop 16 c
split_at c long first = sym (take-append-drop 15 c) ∙ ap (λ l. l ++ drop 15 c) first ∙ ap (λ l. head ++ l) (drop_more c 15 0 long)

pub headed : (c : List ℕ) (found : Option Snapshot) → 16 < length c → slot_in c ≡ Ok found → c ≡ head ++ get_or c 15 0 ∷ drop 16 c
headed c found long is =
    let none = at_place (first_difference 0 head (take 20 c)) (take 20 c) c found (sym (long_is c long) ∙ is) in
    split_at c (omega arith) (sym (take-take 15 20 c (omega arith)) ∙ first_same 0 head (take 20 c) none)

-- ---- torn writes

-- behind a closed gate anything may be torn
pub torn_behind : (gate : ℕ) (rest : List ℕ) (n : ℕ) (c : List ℕ) → gate ≢ 1 → Torn 16 n (head ++ gate ∷ rest) c → slot_in c ≡ Ok None
torn_behind gate rest n c shut torn =
    ap slot_in (sym (take-append-drop 16 c) ∙ ap (λ l. l ++ drop 16 c) torn.before) ∙ closed_is gate (drop 16 c) shut

torn_gate_is : (gate : ℕ) (rest c : List ℕ) → Torn 15 1 (head ++ gate ∷ rest) c → c ≡ head ++ get_or c 15 0 ∷ rest
torn_gate_is gate rest c torn = split_at c (omega (arith, torn.no_shorter)) torn.before ∙ ap (λ l. head ++ get_or c 15 0 ∷ l) torn.after

-- before what stands whole the gate may be anything
pub torn_gate : (gate : ℕ) (rest c : List ℕ) (found : Option Snapshot) → slot_in (head ++ 1 ∷ rest) ≡ Ok found → Torn 15 1 (head ++ gate ∷ rest) c → ClosedOr found c
torn_gate gate rest c found is torn =
    let same = torn_gate_is gate rest c torn in
    ⊎_elim
    (λ opened. inr (ap slot_in (same ∙ ap (λ g. head ++ g ∷ rest) opened) ∙ is))
    (λ shut. inl (ap slot_in same ∙ closed_is (get_or c 15 0) rest shut))
    (cases_eq (get_or c 15 0) 1)

pub torn_new : (content c : List ℕ) → length content ≤ 16 → Torn 0 16 content c → slot_in c ≡ Ok None
torn_new content c short torn = short_closed c (omega (arith, torn.no_longer))

-- ---- whole writes

pub over_new : (content : List ℕ) → length content ≤ 16 → overwritten content 0 new_file ≡ new_file
over_new content short = ap (λ l. new_file ++ l) (drop_all 16 content short) ∙ append-nil new_file

pub over_gate : (gate x : ℕ) (rest : List ℕ) → overwritten (head ++ gate ∷ rest) 15 (x ∷ []) ≡ head ++ x ∷ rest
over_gate gate x rest = refl

pub over_behind : (gate : ℕ) (rest bytes : List ℕ) → overwritten (head ++ gate ∷ rest) 16 bytes ≡ head ++ gate ∷ (bytes ++ drop (length bytes) rest)
over_behind gate rest bytes = ap (λ l. head ++ gate ∷ (bytes ++ l)) (sym (drop-drop (length bytes) 16 (head ++ gate ∷ rest)))

-- ---- a snapshot as it was written

module _ (s : Snapshot) (short : length s.body + 16 < 2 ^ 32) (entries : s.entries < 2 ^ 64) (place : s.place < 2 ^ 64) (tail : List ℕ) where
  abbrev image : List ℕ
  image = head ++ 1 ∷ (behind_gate s ++ tail)

  abbrev n : ℕ
  n = 16 + length s.body

  size : length image ≡ 36 + (length s.body + length tail)
  size = omega (arith, length-append s.body tail)

  number_is : Rattle.bl_snapshot.specs.SlotFiles.number_4 (take 4 (behind_gate s ++ tail)) ≡ n
  number_is = from_be_bytes-to_be_bytes_4 n (omega arith)

  body_is : take (n - 16) (s.body ++ tail) ≡ s.body
  body_is = take_at s.body tail (n - 16) (omega arith)

  at : snapshot_at n image ≡ s
  at i = record { entries = from_be_bytes-to_be_bytes_8 s.entries entries i; place = from_be_bytes-to_be_bytes_8 s.place place i; body = body_is i }

  room : (nat_le 16 n && nat_le (20 + n) (length image)) ≡ true
  room = ap (λ b. b && nat_le (20 + n) (length image)) (le-leb 16 n (omega arith)) ∙ le-leb (20 + n) (length image) (omega (arith, size))

  pub open_is : slot_in image ≡ Ok (Some s)
  open_is =
      long_is image (omega (arith, size))
      ∙ ap (λ k. in_slot (Ok (Some k)) image) number_is
      ∙ ap (λ b. if b then Ok (Some (snapshot_at n image)) else Err 15) room
      ∙ ap (λ t. Ok (Some t)) at
