-- The parts of a head, in more bytes and in what the parser answers.
use Rattle.std.proofs.Common.{◌≡◌, ◌∙◌, ◌-◌, ◌<◌, ◌≤◌, ℕ, List, ◌++◌, length, take, drop, Ok, inl, inr, sym, ap, subst, length-append, arith}
use Rattle.std.proofs.lemmas.List.{drop-append-le, length-drop, length-map, length-take, length-take-le, take-append-drop, take-append-le, take_all}
use Rattle.http_header.specs.Token as token
use Rattle.httparse.specs.Grammar as grammar
use Rattle.httparse.specs.Grammar.{HasNoRequest, MayBecomeRequest, NeverHasRequest, ReadsRequest, RequestHead, print_request}
use Rattle.httparse.specs.Outcome.{OnPartial}
use Rattle.httparse.specs.declared.Error.{Error}
use Rattle.httparse.specs.declared.Status.{Status}
use Rattle.httparse.specs.declared.Status.TheVariants.{Partial}
use Rattle.httparse.specs.Spans.{IsRequestAt, IsWithin, RequestExceeds, RequestOverflows, header_bytes, name_and_value, span_bytes}
use Rattle.httparse.specs.declared.spans.HeaderSpan.{HeaderSpan}
use Rattle.httparse.specs.declared.spans.RequestSpans.{RequestSpans}
use Rattle.httparse.specs.declared.spans.Span.{Span}
use Rattle.bl_http.specs.Answers.{IsRefused}
use Rattle.bl_http.specs.Heads.{HasHead, IsHopeless, IsOpen, IsTooLarge, field_limit, front_of, head_limit}
use Rattle.bl_http.specs.Parts.{Finds, IsParts, IsPartsOf}
use Rattle.bl_http.specs.declared.head.Found.{Found}
use Rattle.bl_http.specs.declared.head.Found.TheVariants.{Head, Refused, Unfinished}
use Rattle.bl_http.specs.declared.head.HeadParts.{HeadParts}
use Rattle.bl_http.proofs.AnswerLemmas.{head-fits, head_more, refused_more}

-- a place in the bytes is one in more of them
span-append : (bytes more : List ℕ) (size : ℕ) (span : Span) → size ≤ length bytes → IsWithin size span → span_bytes (bytes ++ more) span ≡ span_bytes bytes span
span-append bytes more size span fits within =
    ap (λ t. take (span.end - span.start) t) (drop-append-le span.start bytes more (omega (arith, within.0, within.1)))
    ∙ take-append-le (span.end - span.start) (drop span.start bytes) more (omega (arith, within.0, within.1, length-drop span.start bytes))

pub parts_of_more : (bytes more : List ℕ) (parts : HeadParts) (head : RequestHead) → IsPartsOf bytes parts head → IsPartsOf (bytes ++ more) parts head
parts_of_more bytes more parts head is =
    let fits : parts.size ≤ length bytes = omega (arith, is.size, head-fits bytes head is.has) in
    record {
      has = head_more bytes more head is.has;
      size = is.size;
      method_within = is.method_within;
      method = span-append bytes more parts.size parts.method fits is.method_within ∙ is.method;
      target_within = is.target_within;
      target = span-append bytes more parts.size parts.target fits is.target_within ∙ is.target;
      body = is.body;
      close = is.close;
    }

pub parts_more : (bytes more : List ℕ) (parts : HeadParts) → IsParts bytes parts → IsParts (bytes ++ more) parts
parts_more bytes more parts (head, is) = (head, parts_of_more bytes more parts head is)

-- what is found in the front of the bytes is found in the bytes
pub finds_whole : (bytes : List ℕ) (found : Found) → Finds (front_of bytes) found → Finds bytes found
finds_whole bytes (Head parts) is =
    subst (λ (t : List ℕ). IsParts t parts) (take-append-drop head_limit bytes) (parts_more (front_of bytes) (drop head_limit bytes) parts is)
finds_whole bytes (Refused refusal) is =
    subst (λ (t : List ℕ). IsRefused t refusal) (take-append-drop head_limit bytes) (refused_more (front_of bytes) (drop head_limit bytes) refusal is)
finds_whole bytes Unfinished (short, is) =
    let small : length bytes < head_limit = omega (arith, short, length-take head_limit bytes) in
    (small, subst (λ (t : List ℕ). IsOpen t) (take_all head_limit bytes (omega (arith, small))) is)

-- a head that the parser found, with so many fields
pub head_at : (front : List ℕ) (headers : List HeaderSpan) (spans : RequestSpans) (head : RequestHead)
    → length front ≤ head_limit → spans.headers ≤ length headers → length headers ≤ 64 → IsRequestAt front headers spans head → HasHead front head
head_at front headers spans head small counted few at = record {
  reads = subst (λ (n : ℕ). ReadsRequest front head (drop n front)) at.len at.reads;
  small = omega (arith, small, ap length at.reads.1, length-append (print_request head) (drop spans.len front));
  few = omega (arith, few, counted, length-map (take spans.headers headers) (header_bytes front), length-map head.fields name_and_value, ap length at.fields, length-take-le spans.headers headers counted);
}

-- what the parser says of the bytes in which a head has to end

front-is : (front : List ℕ) → length front ≤ head_limit → front_of front ≡ front
front-is front small = take_all head_limit front small

pub open_large : (front : List ℕ) → length front ≤ head_limit → head_limit ≤ length front → HasNoRequest front → MayBecomeRequest front → IsTooLarge front
open_large front small large none some =
    inr (large, subst (λ (t : List ℕ). IsOpen t) (sym (front-is front small)) record { none = none; some = some })

pub many_large : (front : List ℕ) → length front ≤ head_limit → RequestExceeds field_limit front → RequestOverflows field_limit front → IsTooLarge front
many_large front small exceeds overflows =
    let same = sym (front-is front small) in
    inl record {
      exceeds = subst (λ (t : List ℕ). RequestExceeds field_limit t) same exceeds;
      overflows = subst (λ (t : List ℕ). RequestOverflows field_limit t) same overflows;
    }

pub hopeless_front : (front : List ℕ) → length front ≤ head_limit → NeverHasRequest front → IsHopeless front
hopeless_front front small never = subst (λ (t : List ℕ). NeverHasRequest t) (sym (front-is front small)) never

-- what a partial answer says
pub on_partial : {A : Type 0} (status : Status A) (P : Type 0) → status ≡ Partial → OnPartial {A = A} {E = Error} (Ok status) P → P
on_partial status P is holds = subst (λ (t : Status _). OnPartial {E = Error} (Ok t) P) is holds

-- a method of a head is one of `http`: both crates have the same tokens
pub same_token : (bytes : List ℕ) → grammar.IsToken bytes → token.IsToken bytes
unfolding grammar.is_token_byte token.is_token_byte
same_token bytes is = is
