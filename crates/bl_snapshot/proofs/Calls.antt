-- Closing and filling, call by call.
use Rattle.std.proofs.Common.{◌≡◌, ◌≢◌, inl, inr, ⊎_elim, ℕ, ◌+◌, ◌<◌, ◌≤◌, ◌^◌, List, [], ◌∷◌, ◌++◌, length, drop, get_or, Some, Ok, sym, ◌∙◌, ap, subst, arith}
use Rattle.std.specs.declared.option.Option.{Option}
use Rattle.bl_outside.specs.declared.disk.Disk.{Ghosts}
use Rattle.bl_outside.specs.Disks.{overwritten, Torn, OnlySeen, StepsTold, LeavesOnly, AsBeforeOrTorn}
use Rattle.bl_outside.specs.Sound.{IsSettled, Since}
use Rattle.bl_outside.proofs.Moments.{then_runs, weaker}
use Rattle.bl_outside.proofs.Told.{only_told, told_written}
use Rattle.bl_snapshot.specs.SlotFiles.{head, new_file, slot_in, behind_gate, ClosedOr}
use Rattle.bl_snapshot.specs.TwoSlots.{Holds, IsShut}
use Rattle.bl_snapshot.specs.declared.snapshot.Snapshot.{Snapshot}
use Rattle.bl_snapshot.proofs.Bytes.{headed, closed_is, torn_behind, torn_gate, torn_new, over_new, over_gate, over_behind, open_is}

module _ {D : Type 0} (of : Ghosts D) where
  -- closing
  module _ (old : D) (found : Option Snapshot) (h : Holds of old found) where
    image_is : (c : List ℕ) → of.may_leave old c → c ≡ h.content
    image_is = only_told (of.seen old) h.content (of.may_leave old) h.told h.settled.only

    -- what reads alone leave
    pub quiet : (mid : D) → Since of old mid (of.may_leave old) → Since of old mid (ClosedOr found)
    quiet mid run = weaker of.moment of.left_since old mid (of.may_leave old) (ClosedOr found) run (λ c left. inr (ap slot_in (image_is c left) ∙ h.is))

    module _ (mid new : D) (crash : (c : List ℕ) → of.may_leave mid c → of.may_leave old c) (run : Since of old mid (of.may_leave old)) where
      left_is : (c : List ℕ) → of.may_leave mid c → ClosedOr found c
      left_is c left = inr (ap slot_in (image_is c (crash c left)) ∙ h.is)

      -- while a new file is written
      pub creating : length h.content ≤ 16 → LeavesOnly of.moment of.left_since mid new (AsBeforeOrTorn 0 16 (of.may_leave mid)) → Since of old new (ClosedOr found)
      creating short again = then_runs of.moment of.left_since old mid new (ClosedOr found) (AsBeforeOrTorn 0 16 (of.may_leave mid)) (quiet mid run) again
          (λ c. ⊎_elim (left_is c) (λ torn. inl (torn_new h.content c short (subst (λ d. Torn 0 16 d c) (image_is torn.0 (crash torn.0 torn.1)) torn.2))))

      -- while the gate is closed
      pub closing : 16 < length h.content → get_or h.content 15 0 ≡ 1 → LeavesOnly of.moment of.left_since mid new (AsBeforeOrTorn 15 1 (of.may_leave mid)) → Since of old new (ClosedOr found)
      closing long opened again =
          let is : h.content ≡ head ++ 1 ∷ drop 16 h.content = headed h.content found long h.is ∙ ap (λ g. head ++ g ∷ drop 16 h.content) opened in
          then_runs of.moment of.left_since old mid new (ClosedOr found) (AsBeforeOrTorn 15 1 (of.may_leave mid)) (quiet mid run) again
          (λ c. ⊎_elim (left_is c) (λ torn. torn_gate 1 (drop 16 h.content) c found (ap slot_in (sym is) ∙ h.is)
          (subst (λ d. Torn 15 1 d c) (image_is torn.0 (crash torn.0 torn.1) ∙ is) torn.2)))

    module _ (mid new : D) (same : of.seen mid ≡ of.seen old) (settled : IsSettled of new) where
      -- a new file is a slot with a closed gate
      pub created_shut : length h.content ≤ 16 → StepsTold (λ o n. n ≡ overwritten o 0 new_file) (of.seen mid) (of.seen new) → IsShut of new
      created_shut short steps = record {
        settled = settled;
        gate = 0;
        rest = [];
        told = told_written (of.seen mid) (of.seen new) h.content (λ o. overwritten o 0 new_file) (same ∙ h.told) steps ∙ ap (λ l. Some l) (over_new h.content short);
        shut = λ is. omega arith;
      }

      pub closed_shut : 16 < length h.content → get_or h.content 15 0 ≡ 1 → StepsTold (λ o n. n ≡ overwritten o 15 (0 ∷ [])) (of.seen mid) (of.seen new) → IsShut of new
      closed_shut long opened steps = record {
        settled = settled;
        gate = 0;
        rest = drop 16 h.content;
        told = told_written (of.seen mid) (of.seen new) h.content (λ o. overwritten o 15 (0 ∷ [])) (same ∙ h.told) steps
            ∙ ap (λ l. Some (overwritten l 15 (0 ∷ []))) (headed h.content found long h.is) ∙ ap (λ l. Some l) (over_gate (get_or h.content 15 0) 0 (drop 16 h.content));
        shut = λ is. omega arith;
      }

      -- nothing was to be done
      pub still_shut : of.seen new ≡ of.seen mid → 16 < length h.content → get_or h.content 15 0 ≢ 1 → IsShut of new
      still_shut again long shut = record {
        settled = settled;
        gate = get_or h.content 15 0;
        rest = drop 16 h.content;
        told = again ∙ same ∙ h.told ∙ ap (λ l. Some l) (headed h.content found long h.is);
        shut = shut;
      }

  -- filling
  module _ (old : D) (h : IsShut of old) (s : Snapshot) (short : length s.body + 16 < 2 ^ 32) (entries : s.entries < 2 ^ 64) (place : s.place < 2 ^ 64) (bytes : List ℕ) (is : bytes ≡ behind_gate s) where
    abbrev content : List ℕ
    content = head ++ h.gate ∷ h.rest

    -- what is behind the bytes that are written
    abbrev tail : List ℕ
    tail = drop (length bytes) h.rest

    content_is : (c : List ℕ) → of.may_leave old c → c ≡ content
    content_is = only_told (of.seen old) content (of.may_leave old) h.told h.settled.only

    -- while they are written, the slot is closed
    pub writing : (mid : D) → LeavesOnly of.moment of.left_since old mid (AsBeforeOrTorn 16 (length bytes) (of.may_leave old)) → Since of old mid (ClosedOr (Some s))
    writing mid run = weaker of.moment of.left_since old mid (AsBeforeOrTorn 16 (length bytes) (of.may_leave old)) (ClosedOr (Some s)) run
        (λ c. ⊎_elim
        (λ left. inl (ap slot_in (content_is c left) ∙ closed_is h.gate h.rest h.shut))
        (λ torn. inl (torn_behind h.gate h.rest (length bytes) c h.shut (subst (λ d. Torn 16 (length bytes) d c) (content_is torn.0 torn.1) torn.2))))

    abbrev staged : List ℕ
    staged = head ++ h.gate ∷ (bytes ++ tail)

    opened_is : slot_in (head ++ 1 ∷ (bytes ++ tail)) ≡ Ok (Some s)
    opened_is = ap (λ b. slot_in (head ++ 1 ∷ (b ++ tail))) is ∙ open_is s short entries place tail

    module _ (mid : D) (steps : StepsTold (λ o n. n ≡ overwritten o 16 bytes) (of.seen old) (of.seen mid)) where
      mid_told : of.seen mid ≡ Some staged
      mid_told = told_written (of.seen old) (of.seen mid) content (λ o. overwritten o 16 bytes) h.told steps ∙ ap (λ l. Some l) (over_behind h.gate h.rest bytes)

      -- while the gate is opened, it is closed or holds the whole
      pub opening : (new : D) → LeavesOnly of.moment of.left_since old mid (AsBeforeOrTorn 16 (length bytes) (of.may_leave old)) → OnlySeen (of.seen mid) (of.may_leave mid)
          → LeavesOnly of.moment of.left_since mid new (AsBeforeOrTorn 15 1 (of.may_leave mid)) → Since of old new (ClosedOr (Some s))
      opening new run only again =
          let staged_is : (c : List ℕ) → of.may_leave mid c → c ≡ staged = only_told (of.seen mid) staged (of.may_leave mid) mid_told only in
          then_runs of.moment of.left_since old mid new (ClosedOr (Some s)) (AsBeforeOrTorn 15 1 (of.may_leave mid)) (writing mid run) again
          (λ c. ⊎_elim
          (λ left. inl (ap slot_in (staged_is c left) ∙ closed_is h.gate (bytes ++ tail) h.shut))
          (λ torn. torn_gate h.gate (bytes ++ tail) c (Some s) opened_is (subst (λ d. Torn 15 1 d c) (staged_is torn.0 torn.1) torn.2)))

      -- after the last sync it holds the whole
      pub filled : (new : D) → StepsTold (λ o n. n ≡ overwritten o 15 (1 ∷ [])) (of.seen mid) (of.seen new) → IsSettled of new → Holds of new (Some s)
      filled new again settled = record {
        settled = settled;
        content = head ++ 1 ∷ (bytes ++ tail);
        told = told_written (of.seen mid) (of.seen new) staged (λ o. overwritten o 15 (1 ∷ [])) mid_told again ∙ ap (λ l. Some l) (over_gate h.gate 1 (bytes ++ tail));
        is = opened_is;
      }
