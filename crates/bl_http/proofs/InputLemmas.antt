-- What one call answers is the answer to what is ahead.
use Rattle.std.proofs.Common.{◌≡◌, ◌∙◌, ◌+◌, ◌-◌, ◌<◌, ◌≤◌, ℕ, Bool, true, false, nat_le, Option, Some, List, [], ◌∷◌, ◌++◌, length, take, refl, sym, ap, subst, inl, inr, ◌⊎◌, append_assoc, length-append, arith}
use Rattle.std.proofs.lemmas.Bool.{le-leb, lt-leb}
use Rattle.std.proofs.lemmas.List.{append-nil, length-drop, take_all}
use Rattle.httparse.specs.Grammar.{IsRequestHead, RequestHead, print_request}
use Rattle.bl_http.specs.Answers.{IsAnswer, IsTorn}
use Rattle.bl_http.specs.Buffers.{BufferRecord, Gave, IsAtEnd, IsAtLimit, IsWithin, Moves, empty_buffer, input_limit}
use Rattle.bl_http.specs.Heads.{behind}
use Rattle.bl_http.specs.Inputs.{Ahead, Asks, EndsBy, GoesOn, IsInput, ahead, input}
use Rattle.bl_http.specs.Readings.{IsCutShort, ReadsOne}
use Rattle.bl_http.specs.declared.asked.Asked.{Asked}
use Rattle.bl_http.specs.declared.asked.Asked.TheVariants.{End, Got, Refused, TooLong, Torn}
use Rattle.bl_http.specs.declared.asked.Ending.{Ending}
use Rattle.bl_http.specs.declared.asked.Ending.TheVariants as ending
use Rattle.bl_http.specs.declared.request.Request.{Request}
use Rattle.bl_http.proofs.AnswerLemmas.{answer_more, head-fits, take_both}

-- bytes that can't be taken as a request are answered so
pub cut_answer : (now : Option (List ℕ)) (held : BufferRecord) (asked : Asked) → IsCutShort held asked → IsAtEnd now held ⊎ IsAtLimit held → IsTorn held.bytes
    → IsAnswer (IsAtEnd now held) (IsAtLimit held) held.bytes asked held.bytes
cut_answer now held (Got request) cut ends torn = absurd cut
cut_answer now held (Refused refusal) cut ends torn = absurd cut
cut_answer now held End cut (inl ended) torn = (ended, cut.0, refl)
cut_answer now held End cut (inr full) torn = absurd (cut.1 full)
cut_answer now held Torn cut (inl ended) torn = (ended, cut.0, torn, refl)
cut_answer now held Torn cut (inr full) torn = absurd (cut.1 full)
cut_answer now held TooLong cut ends torn = (cut, torn, refl)

-- the source told that it gave these bytes
told : (left now more : List ℕ) → Gave (Some left) (Some now) more → left ≡ more ++ now
told left now more (rest, is, whole) = cc

-- what is ahead is held, or still to be taken
ahead-bytes : (left now : List ℕ) (old held : BufferRecord) → Moves (Some left) (Some now) old held → held.taken ≤ input_limit
    → (ahead old left).bytes ≡ held.bytes ++ take (input_limit - held.taken) now
ahead-bytes left now old held moves within =
    let more = moves.more in
    let room = input_limit - old.taken in
    let all : left ≡ more ++ now = told left now more moves.gave in
    let rest : room - length more ≡ input_limit - held.taken = omega (arith, moves.taken, within) in
    let taken : take room more ≡ more = take_all room more (omega (arith, moves.taken, within)) in
    ap (λ t. old.bytes ++ take room t) all
    ∙ ap (λ t. old.bytes ++ t) (take_both room more now)
    ∙ ap (λ t. old.bytes ++ (t ++ take (room - length more) now)) taken
    ∙ ap (λ k. old.bytes ++ (more ++ take k now)) rest
    ∙ sym (append_assoc old.bytes more (take (input_limit - held.taken) now))
    ∙ ap (λ t. t ++ take (input_limit - held.taken) now) (sym moves.bytes)

ahead-cut : (left now : List ℕ) (old held : BufferRecord) → Moves (Some left) (Some now) old held → old.taken + length left ≡ held.taken + length now
ahead-cut left now old held moves =
    omega (arith, moves.taken, ap length (told left now moves.more moves.gave), length-append moves.more now)

-- the answer to what is held is that to what is ahead
pub reads_asks : (left now : List ℕ) (old new : BufferRecord) (asked : Asked) → ReadsOne (Some left) (Some now) old new asked → new.taken ≤ input_limit
    → Asks (ahead old left) asked (ahead new now)
reads_asks left now old new asked reads within =
    let held = reads.held in
    let most : held.taken ≤ input_limit = omega (arith, reads.taken, within) in
    let more = take (input_limit - held.taken) now in
    let cut = nat_le input_limit (held.taken + length now) in
    let same_cut : cut ≡ (ahead old left).cut = ap (λ n. nat_le input_limit n) (sym (ahead-cut left now old held reads.moves)) in
    let rest : new.bytes ++ more ≡ (ahead new now).bytes = ap (λ k. new.bytes ++ take (input_limit - k) now) (sym reads.taken) in
    let answer =
    answer_more (IsAtEnd (Some now) held) (IsAtLimit held) (cut ≡ false) (cut ≡ true) held.bytes more asked new.bytes
    (λ ended. take_all (input_limit - held.taken) now (omega (arith, ap length ended.1)) ∙ ended.1)
    (λ full. none_taken now held full)
    (λ ended. lt-leb input_limit (held.taken + length now) (omega (arith, ended.0, ap length ended.1)))
    (λ full. le-leb input_limit (held.taken + length now) (omega (arith, full)))
    reads.answer in
    record {
      answer = moved (ahead old left) (ahead new now) asked cut same_cut (held.bytes ++ more) (new.bytes ++ more) (sym (ahead-bytes left now old held reads.moves most)) rest answer;
      cut = ap (λ k. nat_le input_limit (k + length now)) reads.taken ∙ same_cut;
    }
  where
    none_taken : (now : List ℕ) (held : BufferRecord) → held.taken ≡ input_limit → take (input_limit - held.taken) now ≡ []
    none_taken now held full =
        let none : input_limit - held.taken ≡ 0 = omega (arith, full) in
        ap (λ k. take k now) none

    moved : (a b : Ahead) (asked : Asked) (cut : Bool) → cut ≡ a.cut → (xs ys : List ℕ) → xs ≡ a.bytes → ys ≡ b.bytes
        → IsAnswer (cut ≡ false) (cut ≡ true) xs asked ys → IsAnswer (a.cut ≡ false) (a.cut ≡ true) a.bytes asked b.bytes
    moved a b asked cut same xs ys first second is =
        subst (λ (t : Bool). IsAnswer (t ≡ false) (t ≡ true) a.bytes asked b.bytes) same
        (subst (λ (t : List ℕ). IsAnswer (cut ≡ false) (cut ≡ true) a.bytes asked t) second
        (subst (λ (t : List ℕ). IsAnswer (cut ≡ false) (cut ≡ true) t asked ys) first is))

-- Requests were read of an input, and those that are ahead are the others.
pub record Reading (start now : Option (List ℕ)) (buffer : BufferRecord) (requests : List Request) : Type 0 where
  pub goes : (bytes : List ℕ) → start ≡ Some bytes
      → (left : List ℕ) × (now ≡ Some left)
      × ((others : List Request) (end : Ending) → IsInput (ahead buffer left) others end → IsInput (input bytes) (requests ++ others) end)

input_ahead : (bytes : List ℕ) → ahead empty_buffer bytes ≡ input bytes
input_ahead bytes =
    let none : 0 + length bytes ≡ length bytes = omega arith in
    ap (λ (n : ℕ). record { bytes = take input_limit bytes; cut = nat_le input_limit n }) none

pub empty_within : IsWithin empty_buffer
empty_within = record { held = omega arith; limit = omega arith }

-- at the start all requests are ahead
pub reading_starts : (start : Option (List ℕ)) → Reading start start empty_buffer []
reading_starts start = record {
  goes = λ bytes is. (bytes, is, λ others end x. subst (λ (a : Ahead). IsInput a others end) (input_ahead bytes) x);
}

-- where a source that told gave something, it still tells
still_told : (left : List ℕ) (now : Option (List ℕ)) (more : List ℕ) → Gave (Some left) now more → (rest : List ℕ) × (now ≡ Some rest)
still_told left now more (rest, is, whole) = (rest, is)

-- what was read of a source that tells is asked by what is ahead
asks_of : (a b : Option (List ℕ)) (old new : BufferRecord) (asked : Asked) (left : List ℕ) → ReadsOne a b old new asked → new.taken ≤ input_limit → a ≡ Some left
    → (rest : List ℕ) × (b ≡ Some rest) × Asks (ahead old left) asked (ahead new rest)
asks_of a b old new asked left reads within is =
    let from : ReadsOne (Some left) b old new asked = subst (λ (t : Option (List ℕ)). ReadsOne t b old new asked) is reads in
    let after = still_told left b from.moves.more from.moves.gave in (
      after.0,
      after.1,
      reads_asks left after.0 old new asked (subst (λ (t : Option (List ℕ)). ReadsOne (Some left) t old new asked) after.1 from) within,
    )

-- one more request that doesn't close
pub reading_goes_on : (start a b : Option (List ℕ)) (old new : BufferRecord) (requests : List Request) (request : Request)
    → Reading start a old requests → ReadsOne a b old new (Got request) → new.taken ≤ input_limit → request.close ≡ false → Reading start b new (requests ++ request ∷ [])
reading_goes_on start a b old new requests request reading reads within open_still = record {
  goes = λ bytes is.
      let (left, at, before) = reading.goes bytes is in
      let (rest, ends, asks) = asks_of a b old new (Got request) left reads within at in (
        rest,
        ends,
        λ others end x.
            subst (λ (t : List Request). IsInput (input bytes) t end) (sym (append_assoc requests (request ∷ []) others))
            (before (request ∷ others) end
            (ahead new rest, asks, subst (λ (t : Bool). GoesOn t others end (IsInput (ahead new rest) others end)) (sym open_still) x)),
      );
}

-- one that closes
pub reading_closes : (start a b : Option (List ℕ)) (old new : BufferRecord) (requests : List Request) (request : Request)
    → Reading start a old requests → ReadsOne a b old new (Got request) → new.taken ≤ input_limit → request.close ≡ true
    → (bytes : List ℕ) → start ≡ Some bytes → IsInput (input bytes) (requests ++ request ∷ []) ending.Closed
reading_closes start a b old new requests request reading reads within closed bytes is =
    let (left, at, before) = reading.goes bytes is in
    let (rest, ends, asks) = asks_of a b old new (Got request) left reads within at in
    before (request ∷ []) ending.Closed
    (ahead new rest, asks, subst (λ (t : Bool). GoesOn t [] ending.Closed (IsInput (ahead new rest) [] ending.Closed)) (sym closed) (refl, refl))

-- none
pub reading_ends : (start a b : Option (List ℕ)) (old new : BufferRecord) (requests : List Request) (asked : Asked) (end : Ending)
    → Reading start a old requests → ReadsOne a b old new asked → new.taken ≤ input_limit → EndsBy end asked
    → (bytes : List ℕ) → start ≡ Some bytes → IsInput (input bytes) requests end
reading_ends start a b old new requests asked end reading reads within ends bytes is =
    let (left, at, before) = reading.goes bytes is in
    let (rest, told_rest, asks) = asks_of a b old new asked left reads within at in
    subst (λ (t : List Request). IsInput (input bytes) t end) (append-nil requests) (before [] end (asked, ahead new rest, asks, ends))

some_bytes : (head : RequestHead) → IsRequestHead head → 0 < length (print_request head)
unfolding print_request
some_bytes head valid =
    simp length-append (omega (arith, valid.method.0))

-- a request uses bytes up
pub request_uses : (a b : Option (List ℕ)) (old new : BufferRecord) (request : Request) → ReadsOne a b old new (Got request)
    → length new.bytes + old.taken < new.taken + length old.bytes
request_uses a b old new request reads =
    let is = reads.answer in
    let held = reads.held.bytes in
    omega (
      arith,
      reads.taken,
      reads.moves.taken,
      ap length reads.moves.bytes,
      length-append old.bytes reads.moves.more,
      ap length is.rest_is,
      length-drop is.size (behind is.head held),
      length-drop (length (print_request is.head)) held,
      some_bytes is.head is.has.reads.0,
      head-fits held is.head is.has,
    )
