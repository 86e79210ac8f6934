-- What a beginning finds at the head of a file, and what it makes of one that isn't finished.
use Rattle.std.proofs.Common.{◌≡◌, inl, inr, ⊎_elim, ℕ, suc, zero, ◌+◌, ◌<◌, ◌≤◌, Bool, true, false, is_some, List, [], ◌∷◌, ◌++◌, length, take, Some, None, refl, sym, ◌∙◌, ap, subst, arith}
use Rattle.std.specs.Prelude.{if◌then◌else◌, ◌==◌}
use Rattle.std.specs.declared.option.Option.{Option}
use Rattle.std.proofs.lemmas.Option.{none-some, same_Some}
use Rattle.std.proofs.lemmas.Bool.{eqb-true, false≢true}
use Rattle.std.proofs.lemmas.List.{append-nil, take-take, take_all, drop_all}
use Rattle.bl_outside.specs.Disks.{overwritten, Torn, StepsTold, LeavesOnly, OfContent, AsBeforeOrTorn}
use Rattle.bl_outside.specs.declared.disk.Disk.{Ghosts}
use Rattle.bl_outside.proofs.Moments.{then_runs, weaker}
use Rattle.bl_journal.specs.Frames.{head, frames, frames_behind_head, first_difference, new_file, AsBefore, IsEmptyJournal}
use Rattle.bl_journal.specs.Journals.{IsSettled, Reaches, Begins, HasHead, HeadFault, IsMade, Since}
use Rattle.bl_outside.specs.declared.journal_fault.JournalFault.TheVariants.{NotAJournal}
use Rattle.bl_journal.proofs.Reaching.{short_frames, long_frames, reach_head, reach_new, reach_empty}
use Rattle.bl_journal.proofs.Standing.{content_told, of_told, sees_told, only_told, told_written}

-- the bytes of a new file, over one of at most 16 bytes
over_new : (content : List ℕ) → length content ≤ 16 → overwritten content 0 new_file ≡ new_file
over_new content le = ap (λ l. new_file ++ l) (drop_all 16 content le) ∙ append-nil new_file

torn_new : (content c : List ℕ) → length content ≤ 16 → Torn 0 16 content c → frames c ≡ frames content
torn_new content c le torn = short_frames c (omega (arith, torn.no_longer, le)) ∙ sym (short_frames content le)

first_take : (place k : ℕ) (hs bytes : List ℕ) → length hs ≤ k → first_difference place hs (take k bytes) ≡ first_difference place hs bytes
first_take place k [] bytes le = refl
first_take place zero (h ∷ hs) bytes le = absurd (omega arith)
first_take place (suc k) (h ∷ hs) [] le = refl
first_take place (suc k) (h ∷ hs) (b ∷ bytes) le = ap (λ o. if h == b then o else Some place) (first_take (place + 1) k hs bytes (omega arith))

cond_none : (b : Bool) (o : Option ℕ) (place : ℕ) → (if b then o else Some place) ≡ None → (b ≡ true) × (o ≡ None)
cond_none true o place is = (refl, is)
cond_none false o place is = absurd (none-some place (sym is))

first_same : (place : ℕ) (hs bytes : List ℕ) → first_difference place hs bytes ≡ None → take (length hs) bytes ≡ hs
first_same place [] bytes is = refl
first_same place (h ∷ hs) [] is = absurd (none-some place (sym is))
first_same place (h ∷ hs) (b ∷ bytes) is =
    let t = cond_none (h == b) (first_difference (place + 1) hs bytes) place is in
    let same : h ≡ b = eqb-true h b t.0 in
    let rest : take (length hs) bytes ≡ hs = first_same (place + 1) hs bytes t.1 in
    cc

-- a difference lies within what was compared
differs_by : (b : Bool) (o : Option ℕ) (place fault bound : ℕ) → (o ≡ Some fault → fault < bound) → place < bound → (if b then o else Some place) ≡ Some fault → fault < bound
differs_by true o place fault bound later here is = later is
differs_by false o place fault bound later here is = subst (λ p. p < bound) (same_Some place fault is) here

differs_within : (place fault : ℕ) (hs bytes : List ℕ) → first_difference place hs bytes ≡ Some fault → fault < place + length hs
differs_within place fault [] bytes is = absurd (none-some fault is)
differs_within place fault (h ∷ hs) [] is = subst (λ p. p < place + suc (length hs)) (same_Some place fault is) (omega arith)
differs_within place fault (h ∷ hs) (b ∷ bytes) is =
    differs_by (h == b) (first_difference (place + 1) hs bytes) place fault (place + suc (length hs))
    (λ later. let within : fault < place + 1 + length hs = differs_within (place + 1) fault hs bytes later in omega arith) (omega arith) is

head_same : (content front : List ℕ) → front ≡ take 16 content → first_difference 0 head front ≡ None → take 15 content ≡ head
head_same content front is none = sym (take-take 15 16 content (omega arith)) ∙ first_same 0 head (take 16 content) (subst (λ f. first_difference 0 head f ≡ None) is none)

head_differs : (content front : List ℕ) (place : ℕ) → 16 < length content → front ≡ take 16 content → first_difference 0 head front ≡ Some place → frames content ≡ ([], Some place)
head_differs content front place long is some =
    long_frames content long ∙ ap (λ o. frames_behind_head o content) (sym (first_take 0 16 head content (omega arith)) ∙ ap (λ f. first_difference 0 head f) (sym is) ∙ some)

begins_at : (before seen : Option (List ℕ)) (content later : List ℕ) → before ≡ Some content → seen ≡ Some later → frames later ≡ frames content → Reaches later 15 [] → Begins before seen
begins_at before seen content later was now same reaches = record {
  ahead = frames later;
  is = sees_told before content (frames later) was (sym same);
  stands = record { content = later; told = now; reaches = reaches; rest = reaches.own };
}

-- the head and a closed gate
pub begins_empty : (before seen : Option (List ℕ)) (size : ℕ) (front : List ℕ) → is_some before ≡ true → seen ≡ before → OfContent before length size → OfContent before (λ content. take 16 content) front → size ≤ 16 → IsEmptyJournal front → Begins before seen
begins_empty before seen size front told same sized read short empty =
    let t = content_told before told in
    let length_is : size ≡ length t.0 = of_told before t.0 length size t.1 sized in
    let whole : front ≡ t.0 = of_told before t.0 (λ content. take 16 content) front t.1 read ∙ take_all 16 t.0 (omega arith) in
    let is : t.0 ≡ head ++ empty.0 ∷ [] = sym whole ∙ empty.1 in
    begins_at before seen t.0 t.0 t.1 (same ∙ t.1) refl (subst (λ c. Reaches c 15 []) (sym is) (reach_empty empty.0 empty.2))

-- a file with the head of a journal
pub begins_old : (before seen : Option (List ℕ)) (size : ℕ) (front : List ℕ) → is_some before ≡ true → seen ≡ before → OfContent before length size → OfContent before (λ content. take 16 content) front → 16 < size → first_difference 0 head front ≡ None → Begins before seen
begins_old before seen size front told same sized read long none =
    let t = content_told before told in
    let length_is : size ≡ length t.0 = of_told before t.0 length size t.1 sized in
    begins_at before seen t.0 t.0 t.1 (same ∙ t.1) refl (reach_head t.0 (omega arith) (head_same t.0 front (of_told before t.0 (λ content. take 16 content) front t.1 read) none))

-- what is written over a file that isn't finished is a new file
pub is_new : (before mid seen : Option (List ℕ)) (size : ℕ) → is_some before ≡ true → mid ≡ before → OfContent before length size → size ≤ 16 → StepsTold (λ o n. n ≡ overwritten o 0 new_file) mid seen → seen ≡ Some new_file
is_new before mid seen size told same sized short steps =
    let t = content_told before told in
    let length_is : size ≡ length t.0 = of_told before t.0 length size t.1 sized in
    told_written mid seen t.0 (λ o. overwritten o 0 new_file) (same ∙ t.1) steps ∙ ap (λ l. Some l) (over_new t.0 (omega arith))

-- a new file, written over one that wasn't finished
pub begins_new : (before mid seen : Option (List ℕ)) (size : ℕ) → is_some before ≡ true → mid ≡ before → OfContent before length size → size ≤ 16 → StepsTold (λ o n. n ≡ overwritten o 0 new_file) mid seen → Begins before seen
begins_new before mid seen size told same sized short steps =
    let t = content_told before told in
    let length_is : size ≡ length t.0 = of_told before t.0 length size t.1 sized in
    begins_at before seen t.0 new_file t.1
    (is_new before mid seen size told same sized short steps)
    (sym (short_frames t.0 (omega arith))) reach_new

pub told_of : (seen : Option (List ℕ)) → IsMade seen → is_some seen ≡ true
told_of None made = absurd made
told_of (Some content) made = refl

-- a long file is made
pub is_long : (before : Option (List ℕ)) (size : ℕ) → is_some before ≡ true → OfContent before length size → 16 < size → IsMade before
is_long None size told sized long = absurd (false≢true told)
is_long (Some content) size told sized long = inl (omega arith)

-- so is the head with a closed gate
pub is_empty : (before : Option (List ℕ)) (size : ℕ) (front : List ℕ) → is_some before ≡ true → OfContent before length size → OfContent before (λ content. take 16 content) front → size ≤ 16 → IsEmptyJournal front → IsMade before
is_empty None size front told sized read short empty = absurd (false≢true told)
is_empty (Some content) size front told sized read short empty = inr (subst IsEmptyJournal (read ∙ take_all 16 content (omega arith)) empty)

pub head_short : (before : Option (List ℕ)) (size : ℕ) → OfContent before length size → size ≤ 16 → HasHead before
head_short None size sized short = tt
head_short (Some content) size sized short = inl (omega arith)

-- a file that isn't finished isn't made
pub not_made : (before : Option (List ℕ)) (size : ℕ) (front : List ℕ) → OfContent before length size → OfContent before (λ content. take 16 content) front → size ≤ 16 → (IsEmptyJournal front → ⊥) → IsMade before → ⊥
not_made None size front sized read short not made = made
not_made (Some content) size front sized read short not made =
    ⊎_elim (λ long. omega arith) (λ empty. not (subst IsEmptyJournal (sym (read ∙ take_all 16 content (omega arith))) empty)) made

pub fault_is : (before : Option (List ℕ)) (size place : ℕ) (front : List ℕ) → OfContent before length size → OfContent before (λ content. take 16 content) front → 16 < size → first_difference 0 head front ≡ Some place → HeadFault before (NotAJournal place)
fault_is None size place front sized read long some = (differs_within 0 place head front some, tt)
fault_is (Some content) size place front sized read long some = (differs_within 0 place head front some, head_differs content front place (omega arith) read some)

pub head_is : (before : Option (List ℕ)) (size : ℕ) (front : List ℕ) → OfContent before (λ content. take 16 content) front → first_difference 0 head front ≡ None → HasHead before
head_is None size front read none = tt
head_is (Some content) size front read none = inr (head_same content front read none)

module _ {D : Type 0} (of : Ghosts D) where
  -- what was left before stands for itself
  pub as_before : (old new : D) → Since of old new (of.may_leave old) → Since of old new (AsBefore (of.may_leave old))
  as_before old new run = weaker of.moment of.left_since old new (of.may_leave old) (AsBefore (of.may_leave old)) run (λ c left. (c, left, refl))

  -- a file that isn't finished has no frames, and has none while it is written anew
  pub created : (old mid new : D) (size : ℕ) → is_some (of.seen mid) ≡ true → OfContent (of.seen mid) length size → size ≤ 16 → IsSettled of mid → ((c : List ℕ) → of.may_leave mid c → of.may_leave old c)
      → Since of old mid (of.may_leave old) → LeavesOnly of.moment of.left_since mid new (AsBeforeOrTorn 0 16 (of.may_leave mid)) → Since of old new (AsBefore (of.may_leave old))
  created old mid new size told sized short settled crash so_far run =
      let t = content_told (of.seen mid) told in
      let length_is : size ≡ length t.0 = of_told (of.seen mid) t.0 length size t.1 sized in
      let is : (c : List ℕ) → of.may_leave mid c → c ≡ t.0 = only_told (of.seen mid) t.0 (of.may_leave mid) t.1 settled.only in
      then_runs of.moment of.left_since old mid new (AsBefore (of.may_leave old)) (AsBeforeOrTorn 0 16 (of.may_leave mid)) (as_before old mid so_far) run
      (λ c. ⊎_elim
      (λ left. (c, crash c left, refl))
      (λ torn. (torn.0, crash torn.0 torn.1, torn_new t.0 c (omega arith) (subst (λ d. Torn 0 16 d c) (is torn.0 torn.1) torn.2) ∙ ap frames (sym (is torn.0 torn.1)))))
