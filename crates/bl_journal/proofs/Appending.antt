-- The bytes of an append, and what a torn write of them leaves.
use Rattle.std.proofs.Common.{◌≡◌, inl, inr, ⊎_elim, ℕ, suc, ◌+◌, ◌-◌, ◌<◌, ◌≤◌, ◌^◌, true, List, [], ◌∷◌, ◌++◌, length, take, drop, get_or, None, refl, sym, ◌∙◌, ap, subst, arith}
use Rattle.std.specs.Int.{w32, to_be_bytes}
use Rattle.std.proofs.lemmas.Bool.{cases_eq}
use Rattle.std.proofs.lemmas.List.{append_assoc, take_at, drop_at, drop_more, drop-drop, take-take, length-append, length-take-le, length-drop}
use Rattle.bl_outside.specs.Disks.{overwritten, Torn}
use Rattle.bl_journal.specs.Frames.{number, prefixed, is_frame, body_of, frames_from, frames_at, frames, HasFrames, WithOrWithout, behind_gate}
use Rattle.bl_journal.specs.Journals.{Reaches}
use Rattle.bl_journal.proofs.Bytes.{closed, one_frame, frame_is, number_four}
use Rattle.bl_journal.proofs.Reaching.{prefix_none, reach_along, reach_more, shut}

over_take : (old : List ℕ) (at : ℕ) (bytes : List ℕ) → at ≤ length old → take at (overwritten old at bytes) ≡ take at old
over_take old at bytes le =
    ap (λ l. take at l) (append_assoc (take at old) bytes (drop (at + length bytes) old)) ∙ take_at (take at old) (bytes ++ drop (at + length bytes) old) at (length-take-le at old le)

over_drop : (old : List ℕ) (at : ℕ) (bytes : List ℕ) → at ≤ length old → drop at (overwritten old at bytes) ≡ bytes ++ drop (at + length bytes) old
over_drop old at bytes le =
    ap (λ l. drop at l) (append_assoc (take at old) bytes (drop (at + length bytes) old)) ∙ drop_at (take at old) (bytes ++ drop (at + length bytes) old) at (length-take-le at old le)

take_less : (n m : ℕ) (xs ys : List ℕ) → n ≤ m → take m xs ≡ take m ys → take n xs ≡ take n ys
take_less n m xs ys le same = sym (take-take n m xs le) ∙ ap (λ l. take n l) same ∙ take-take n m ys le

module _ (c : List ℕ) (place : ℕ) (done : List (List ℕ)) (r : Reaches c place done) (ends : ([], None) ≡ frames_at place c) where
  -- behind the closed gate anything may be torn
  pub torn_behind : (n : ℕ) (other : List ℕ) → Torn (place + 1) n c other → HasFrames other done
  torn_behind n other torn = shut c other place done r ends torn.before torn.no_shorter

  module _ (body : List ℕ) (some : 0 < length body) (small : length body < 2 ^ 32) where
    -- the file when length, body and next gate are written
    abbrev pub staged : List ℕ
    staged = overwritten c (place + 1) (behind_gate body)

    abbrev rest : List ℕ
    rest = drop (place + 1 + length (behind_gate body)) c

    -- what stands behind the gate then
    abbrev behind : List ℕ
    behind = to_be_bytes w32 (length body) ++ (body ++ 0 ∷ rest)

    tail_is : behind_gate body ++ rest ≡ behind
    tail_is = append_assoc (to_be_bytes w32 (length body) ++ body) (0 ∷ []) rest ∙ append_assoc (to_be_bytes w32 (length body)) body (0 ∷ rest)

    fronts : take place staged ≡ take place c
    fronts = take_less place (place + 1) staged c (omega arith) (over_take c (place + 1) (behind_gate body) (omega (arith, r.inside)))

    backs : drop (place + 1) staged ≡ behind
    backs = over_drop c (place + 1) (behind_gate body) (omega (arith, r.inside)) ∙ tail_is

    size : length staged - (place + 1) ≡ 4 + (length body + suc (length rest))
    size = omega (arith, length-drop (place + 1) staged, ap length backs, length-append body (0 ∷ rest))

    is_number : number behind ≡ length body
    is_number = number_four (length body) (body ++ 0 ∷ rest) small

    is_whole : is_frame behind (length body) ≡ true
    is_whole = frame_is behind (length body) some (omega (arith, length-append body (0 ∷ rest)))

    is_body : body_of behind (length body) ≡ body
    is_body = take_at body (0 ∷ rest) (length body) refl

    is_end : drop (4 + length body) behind ≡ 0 ∷ rest
    is_end = sym (drop-drop (length body) 4 behind) ∙ drop_at body (0 ∷ rest) (length body) refl

    -- over what was written whole, the gate may be anything
    pub torn_gate : (other : List ℕ) → Torn place 1 staged other → WithOrWithout done body other
    torn_gate other torn =
        let inside : place < length other = omega (arith, size, torn.no_shorter) in
        let here : drop place other ≡ get_or other place 0 ∷ behind = drop_more other place 0 inside ∙ ap (λ l. get_or other place 0 ∷ l) (torn.after ∙ backs) in
        let is : frames other ≡ prefixed done (frames_from place 0 (get_or other place 0 ∷ behind)) =
        r.front other (torn.before ∙ fronts) inside (omega (arith, r.begins, some, size, torn.no_shorter)) ∙ ap (λ l. prefixed done (frames_from place 0 l)) here in
        ⊎_elim
        (λ opened. inr (is
        ∙ ap (λ g. prefixed done (frames_from place 0 (g ∷ behind))) opened
        ∙ ap (λ f. prefixed done f) (one_frame place (length body) behind is_number is_whole)
        ∙ ap (λ b. prefixed done (prefixed (b ∷ []) (frames_from (place + 5 + length body) 0 (drop (4 + length body) behind)))) is_body
        ∙ ap (λ l. prefixed done (prefixed (body ∷ []) (frames_from (place + 5 + length body) 0 l))) is_end
        ∙ ap (λ f. prefixed done (prefixed (body ∷ []) f)) (closed (place + 5 + length body) 0 rest (λ e. omega arith))))
        (λ shut. inl (is
        ∙ ap (λ f. prefixed done f) (closed place (get_or other place 0) behind shut)
        ∙ prefix_none done))
        (cases_eq (get_or other place 0) 1)

    -- the file when the gate is open
    abbrev pub kept : List ℕ
    kept = overwritten staged place (1 ∷ [])

    kept_drop : drop place kept ≡ 1 ∷ behind
    kept_drop = over_drop staged place (1 ∷ []) (omega (arith, size)) ∙ ap (λ l. 1 ∷ l) backs

    kept_size : length kept - place ≡ suc (4 + (length body + suc (length rest)))
    kept_size = omega (arith, length-drop place kept, ap length kept_drop, length-append body (0 ∷ rest))

    pub kept_reaches : Reaches kept (place + 5 + length body) (done ++ body ∷ [])
    kept_reaches =
        let first = reach_along c kept place done r (over_take staged place (1 ∷ []) (omega (arith, size)) ∙ fronts) (omega (arith, kept_size)) (omega (arith, r.begins, some, kept_size)) in
        subst (λ b. Reaches kept (place + 5 + length body) (done ++ b ∷ [])) is_body (reach_more kept behind place (length body) done first kept_drop is_number is_whole)

    pub kept_ends : ([], None) ≡ frames_at (place + 5 + length body) kept
    kept_ends =
        let split : place + 5 + length body ≡ place + 1 + (4 + length body) = omega arith in
        let back : drop (place + 5 + length body) kept ≡ 0 ∷ rest =
        ap (λ k. drop k kept) split ∙ sym (drop-drop (4 + length body) (place + 1) kept) ∙ ap (λ l. drop (4 + length body) l) (sym (drop-drop 1 place kept) ∙ ap (λ l. drop 1 l) kept_drop) ∙ is_end in
        sym (ap (λ l. frames_from (place + 5 + length body) 0 l) back ∙ closed (place + 5 + length body) 0 rest (λ e. omega arith))
