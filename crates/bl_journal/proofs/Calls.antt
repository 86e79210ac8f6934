-- An append, call by call.
use Rattle.std.proofs.Common.{◌≡◌, inl, ⊎_elim, ℕ, ◌+◌, ◌<◌, ◌^◌, List, [], ◌∷◌, ◌++◌, length, Some, sym, ◌∙◌, ap, subst, arith}
use Rattle.bl_outside.specs.declared.disk.Disk.{Ghosts}
use Rattle.bl_outside.specs.Disks.{overwritten, Torn, OnlySeen, StepsTold, LeavesOnly, AsBeforeOrTorn}
use Rattle.bl_outside.specs.MemoryLaws.{torn_overwritten}
use Rattle.bl_outside.proofs.Moments.{then_runs, weaker}
use Rattle.bl_journal.specs.Frames.{HasFrames, WithOrWithout, behind_gate}
use Rattle.bl_journal.specs.Journals.{JournalRecord, IsSettled, Ends, Since}
use Rattle.bl_journal.proofs.Standing.{only_told, told_written, ends_has}
use Rattle.bl_journal.proofs.Appending.{torn_behind, staged, torn_gate, kept_reaches, kept_ends}

module _ {D : Type 0} (of : Ghosts D) (old : JournalRecord D) (bodies : List (List ℕ)) (e : Ends of old bodies) (body : List ℕ) (some : 0 < length body) (small : length body < 2 ^ 32) (bytes : List ℕ) (is : bytes ≡ behind_gate body) where
  abbrev gate : ℕ
  gate = old.place

  abbrev content : List ℕ
  content = e.stands.content

  -- the file when length, body and next gate are written
  abbrev stage : List ℕ
  stage = staged content gate bodies e.stands.reaches e.stands.rest body some small

  -- while they are written, nothing is added
  pub first_call : (mid : D) → LeavesOnly of.moment of.left_since old.disk mid (AsBeforeOrTorn (gate + 1) (length bytes) (of.may_leave old.disk)) → Since of old.disk mid (WithOrWithout bodies body)
  first_call mid run = weaker of.moment of.left_since old.disk mid (AsBeforeOrTorn (gate + 1) (length bytes) (of.may_leave old.disk)) (WithOrWithout bodies body) run
      (λ c. ⊎_elim
      (λ left. inl (ends_has of old bodies e c left))
      (λ torn. inl (torn_behind content gate bodies e.stands.reaches e.stands.rest (length bytes) c
      (subst (λ d. Torn (gate + 1) (length bytes) d c) (only_told (of.seen old.disk) content (of.may_leave old.disk) e.stands.told e.settled.only torn.0 torn.1) torn.2))))

  mid_told : (mid : D) → StepsTold (λ o n. n ≡ overwritten o (gate + 1) bytes) (of.seen old.disk) (of.seen mid) → of.seen mid ≡ Some stage
  mid_told mid steps = told_written (of.seen old.disk) (of.seen mid) content (λ o. overwritten o (gate + 1) bytes) e.stands.told steps ∙ ap (λ b. Some (overwritten content (gate + 1) b)) is

  module _ (mid : D) (steps : StepsTold (λ o n. n ≡ overwritten o (gate + 1) bytes) (of.seen old.disk) (of.seen mid)) where
    -- while the gate is opened, the entry is added or not
    pub second_call : (new : D) → LeavesOnly of.moment of.left_since old.disk mid (AsBeforeOrTorn (gate + 1) (length bytes) (of.may_leave old.disk)) → OnlySeen (of.seen mid) (of.may_leave mid)
        → LeavesOnly of.moment of.left_since mid new (AsBeforeOrTorn gate 1 (of.may_leave mid)) → Since of old.disk new (WithOrWithout bodies body)
    second_call new run only again =
        let is_stage : (c : List ℕ) → of.may_leave mid c → c ≡ stage = only_told (of.seen mid) stage (of.may_leave mid) (mid_told mid steps) only in
        then_runs of.moment of.left_since old.disk mid new (WithOrWithout bodies body) (AsBeforeOrTorn gate 1 (of.may_leave mid)) (first_call mid run) again
        (λ c. ⊎_elim
        (λ left. inl (subst (λ f. HasFrames f bodies) (sym (is_stage c left))
        (torn_behind content gate bodies e.stands.reaches e.stands.rest (length (behind_gate body)) stage (torn_overwritten (gate + 1) (behind_gate body) content (omega (arith, e.stands.reaches.inside))))))
        (λ torn. torn_gate content gate bodies e.stands.reaches e.stands.rest body some small c (subst (λ d. Torn gate 1 d c) (is_stage torn.0 torn.1) torn.2)))

    -- after the last sync it is there
    pub acknowledged : (new : D) → StepsTold (λ o n. n ≡ overwritten o gate (1 ∷ [])) (of.seen mid) (of.seen new) → IsSettled of new → Ends of (record { disk = new; place = gate + 5 + length body }) (bodies ++ body ∷ [])
    acknowledged new again settled = record {
      settled = settled;
      stands = record {
        content = overwritten stage gate (1 ∷ []);
        told = told_written (of.seen mid) (of.seen new) stage (λ o. overwritten o gate (1 ∷ [])) (mid_told mid steps) again;
        reaches = kept_reaches content gate bodies e.stands.reaches e.stands.rest body some small;
        rest = kept_ends content gate bodies e.stands.reaches e.stands.rest body some small;
      };
    }
