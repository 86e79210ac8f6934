-- What was answered to some bytes is the answer to more of them.
use Rattle.std.proofs.Common.{◌≡◌, ◌∙◌, ◌-◌, ◌≤◌, ℕ, zero, suc, List, [], ◌∷◌, ◌++◌, length, take, drop, inl, inr, refl, sym, ap, subst, append_assoc, length-append, arith}
use Rattle.std.proofs.lemmas.List.{append-nil, drop-append-le, take-append-le}
use Rattle.httparse.specs.Grammar.{HasNoRequest, NeverHasRequest, ReadsRequest, RequestHead, print_request}
use Rattle.httparse.specs.Spans.{RequestExceeds, RequestOverflows}
use Rattle.httparse.proofs.GrammarLemmas.{ReadsRequest-append}
use Rattle.bl_http.specs.Answers.{IsAnswer, IsRefused, IsRequest, IsTorn, RefusesFields}
use Rattle.bl_http.specs.Heads.{HasHead, IsHopeless, IsOpen, IsTooLarge, behind, field_limit, front_of, head_limit}
use Rattle.bl_http.specs.Requests.{request_of}
use Rattle.bl_http.specs.declared.asked.Asked.{Asked}
use Rattle.bl_http.specs.declared.asked.Asked.TheVariants.{End, Got, Refused, TooLong, Torn}
use Rattle.bl_http.specs.declared.refusal.HeadRefusal.{HeadRefusal}
use Rattle.bl_http.specs.declared.refusal.HeadRefusal.TheVariants.{BadHead, BadLength, BodyTooLarge, HeadTooLarge, TransferEncoding}
use Rattle.bl_http.specs.declared.request.Request.{Request}

-- the front of two lists is that of the first and of the second
pub take_both : (n : ℕ) (xs ys : List ℕ) → take n (xs ++ ys) ≡ take n xs ++ take (n - length xs) ys
take_both zero [] ys = refl
take_both (suc n) [] ys =
    let same : suc n ≡ suc n - 0 = omega arith in
    ap (λ k. take k ys) same
take_both zero (x ∷ xs) ys =
    let none : 0 - suc (length xs) ≡ 0 = omega arith in
    ap (λ k. take k ys) (sym none)
take_both (suc n) (x ∷ xs) ys =
    let less : n - length xs ≡ suc n - suc (length xs) = omega arith in
    ap (λ t. x ∷ t) (take_both n xs ys ∙ ap (λ k. take n xs ++ take k ys) less)

never_more : (a b : List ℕ) → NeverHasRequest a → NeverHasRequest (a ++ b)
never_more a b never = λ more. subst (λ (t : List ℕ). HasNoRequest t) (sym (append_assoc a b more)) (never (b ++ more))

overflows_more : (a b : List ℕ) → RequestOverflows field_limit a → RequestOverflows field_limit (a ++ b)
overflows_more a b over = λ more head rest reads.
    over (b ++ more) head rest (subst (λ (t : List ℕ). ReadsRequest t head rest) (append_assoc a b more) reads)

exceeds_more : (a b : List ℕ) → RequestExceeds field_limit a → RequestExceeds field_limit (a ++ b)
exceeds_more a b (front, rest, is, head, reads, many) =
    (front, rest ++ b, ap (λ t. t ++ b) is ∙ append_assoc front rest b, head, reads, many)

hopeless_more : (bytes more : List ℕ) → IsHopeless bytes → IsHopeless (bytes ++ more)
hopeless_more bytes more never =
    subst (λ (t : List ℕ). NeverHasRequest t) (sym (take_both head_limit bytes more))
    (never_more (front_of bytes) (take (head_limit - length bytes) more) never)

too_large_more : (bytes more : List ℕ) → IsTooLarge bytes → IsTooLarge (bytes ++ more)
too_large_more bytes more (inl many) =
    let rest = take (head_limit - length bytes) more in
    let same = sym (take_both head_limit bytes more) in
    inl record {
      exceeds = subst (λ (t : List ℕ). RequestExceeds field_limit t) same (exceeds_more (front_of bytes) rest many.exceeds);
      overflows = subst (λ (t : List ℕ). RequestOverflows field_limit t) same (overflows_more (front_of bytes) rest many.overflows);
    }
too_large_more bytes more (inr (long, open_still)) =
    inr (
      omega (arith, long, length-append bytes more),
      subst (λ (t : List ℕ). IsOpen t) (sym (take-append-le head_limit bytes more long)) open_still,
    )

-- a head lies in the bytes that begin with it
pub head-fits : (bytes : List ℕ) (head : RequestHead) → HasHead bytes head → length (print_request head) ≤ length bytes
head-fits bytes head has = omega (arith, ap length has.reads.1, length-append (print_request head) (behind head bytes))

pub behind-append : (bytes more : List ℕ) (head : RequestHead) → HasHead bytes head → behind head (bytes ++ more) ≡ behind head bytes ++ more
behind-append bytes more head has = drop-append-le (length (print_request head)) bytes more (head-fits bytes head has)

pub head_more : (bytes more : List ℕ) (head : RequestHead) → HasHead bytes head → HasHead (bytes ++ more) head
head_more bytes more head has = record {
  reads =
      subst (λ (t : List ℕ). ReadsRequest (bytes ++ more) head t) (sym (behind-append bytes more head has))
      (ReadsRequest-append bytes head (behind head bytes) more has.reads);
  small = has.small;
  few = has.few;
}

fields_more : (bytes more : List ℕ) (refusal : HeadRefusal) → RefusesFields bytes refusal → RefusesFields (bytes ++ more) refusal
fields_more bytes more refusal (head, has, is) = (head, head_more bytes more head has, is)

-- what is refused stays refused
pub refused_more : (bytes more : List ℕ) (refusal : HeadRefusal) → IsRefused bytes refusal → IsRefused (bytes ++ more) refusal
refused_more bytes more BadHead is = hopeless_more bytes more is
refused_more bytes more HeadTooLarge is = too_large_more bytes more is
refused_more bytes more BadLength is = fields_more bytes more BadLength is
refused_more bytes more BodyTooLarge is = fields_more bytes more BodyTooLarge is
refused_more bytes more TransferEncoding is = fields_more bytes more TransferEncoding is

-- a request stays the same one
pub request_more : (bytes more : List ℕ) (request : Request) (rest : List ℕ) → IsRequest bytes request rest → IsRequest (bytes ++ more) request (rest ++ more)
request_more bytes more request rest is =
    let all = behind is.head bytes in
    let same : behind is.head (bytes ++ more) ≡ all ++ more = behind-append bytes more is.head is.has in
    record {
      head = is.head;
      size = is.size;
      has = head_more bytes more is.head is.has;
      asks = is.asks;
      whole = omega (arith, is.whole, ap length same, length-append all more);
      is = is.is ∙ ap (λ t. request_of is.head t) (sym (ap (λ t. take is.size t) same ∙ take-append-le is.size all more is.whole));
      rest_is = ap (λ t. t ++ more) is.rest_is ∙ sym (ap (λ t. drop is.size t) same ∙ drop-append-le is.size all more is.whole);
    }

torn_none : (bytes more : List ℕ) → more ≡ [] → IsTorn bytes → IsTorn (bytes ++ more)
torn_none bytes more none torn =
    subst (λ (t : List ℕ). IsTorn (bytes ++ t)) (sym none) (subst (λ (t : List ℕ). IsTorn t) (sym (append-nil bytes)) torn)

-- An answer stays the answer, where nothing follows what the input ended with or was cut at.
pub answer_more : (ended full ended' full' : Type 0) (bytes more : List ℕ) (asked : Asked) (rest : List ℕ)
    → (ended → more ≡ []) → (full → more ≡ []) → (ended → ended') → (full → full')
    → IsAnswer ended full bytes asked rest → IsAnswer ended' full' (bytes ++ more) asked (rest ++ more)
answer_more ended full ended' full' bytes more (Got request) rest last cut still whole is = request_more bytes more request rest is
answer_more ended full ended' full' bytes more (Refused refusal) rest last cut still whole is =
    (refused_more bytes more refusal is.0, ap (λ t. t ++ more) is.1)
answer_more ended full ended' full' bytes more End rest last cut still whole is =
    (still is.0, ap (λ t. t ++ more) is.1 ∙ last is.0, ap (λ t. t ++ more) is.2)
answer_more ended full ended' full' bytes more Torn rest last cut still whole is =
    (still is.0, omega (arith, is.1, length-append bytes more), torn_none bytes more (last is.0) is.2, ap (λ t. t ++ more) is.3)
answer_more ended full ended' full' bytes more TooLong rest last cut still whole is =
    (whole is.0, torn_none bytes more (cut is.0) is.1, ap (λ t. t ++ more) is.2)
