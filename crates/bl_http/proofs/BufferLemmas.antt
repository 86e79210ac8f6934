-- Bytes that go from a source to a buffer, call after call.
use Rattle.std.proofs.Common.{◌≡◌, ◌∙◌, ◌+◌, ◌-◌, ◌≤◌, ℕ, Option, None, Some, Result, Ok, Err, IfOk, List, [], ◌++◌, length, take, drop, refl, sym, ap, subst, append_assoc, length-append, arith}
use Rattle.std.proofs.lemmas.List.{append-nil, drop_all, length-take-le, take-append-drop, take-append-le, take-take, take_all}
use Rattle.bl_outside.specs.Streams.{Takes}
use Rattle.bl_outside.specs.declared.refusals.Failed.{Failed}
use Rattle.bl_http.specs.Buffers.{BufferRecord, Gave, Grows, HasEnded, Moves}
use Rattle.bl_http.proofs.AnswerLemmas.{take_both}

pub gave_none : (left : Option (List ℕ)) → Gave left left []
gave_none None = refl
gave_none (Some left) = (left, refl, refl)

pub gave_more : (a b c : Option (List ℕ)) (xs ys : List ℕ) → Gave a b xs → Gave b c ys → Gave a c (xs ++ ys)
gave_more None b c xs ys one two = subst (λ (t : Option (List ℕ)). Gave t c ys) one two
gave_more (Some left) b c xs ys (rest, is, whole) two = later (subst (λ (t : Option (List ℕ)). Gave t c ys) is two)
  where
    later : Gave (Some rest) c ys → Gave (Some left) c (xs ++ ys)
    later (last, ends, splits) = (last, ends, whole ∙ ap (λ t. xs ++ t) splits ∙ sym (append_assoc xs ys last))

-- nothing has moved
pub moves_none : (left : Option (List ℕ)) (buffer : BufferRecord) → Moves left left buffer buffer
moves_none left buffer = record { more = []; gave = gave_none left; bytes = sym (append-nil buffer.bytes); taken = omega arith }

-- one call after another
pub moves_more : (a b c : Option (List ℕ)) (old held new : BufferRecord) → Moves a b old held → Moves b c held new → Moves a c old new
moves_more a b c old held new one two = record {
  more = one.more ++ two.more;
  gave = gave_more a b c one.more two.more one.gave two.gave;
  bytes = two.bytes ∙ ap (λ t. t ++ two.more) one.bytes ∙ append_assoc old.bytes one.more two.more;
  taken = omega (arith, length-append one.more two.more, one.taken, two.taken);
}

-- what a source gave is what it has no more
pub grows_by : (left now : Option (List ℕ)) (result : Result ℕ Failed) (room part old new : List ℕ) (to : ℕ)
    → length part ≡ length room → IfOk result (λ n. n ≤ length room) → Takes left now result part
    → ((n : ℕ) → n ≤ length part → take (to + n) new ≡ take to old ++ take n part) → IfOk result (Grows left now old new to)
grows_by None now (Ok n) room part old new to size bound takes held =
    let within : n ≤ length part = omega (arith, size, bound) in
    record {
      more = take n part;
      gave = takes;
      held = held n within;
      size = length-take-le n part within;
      ended = λ _. subst (λ (t : Option (List ℕ)). HasEnded t) (sym takes) tt;
    }
grows_by (Some left) now (Ok n) room part old new to size bound (same, few, is, none) held =
    let within : n ≤ length part = omega (arith, size, bound) in
    record {
      more = take n part;
      gave = (drop n left, is, sym (take-append-drop n left) ∙ ap (λ t. t ++ drop n left) (sym same));
      held = held n within;
      size = length-take-le n part within;
      ended = λ zero_came. subst (λ (t : Option (List ℕ)). HasEnded t) (sym is) (drop_all n left (omega (arith, ap length (none.0 zero_came))));
    }
grows_by None now (Err e) room part old new to size bound takes held = tt
grows_by (Some left) now (Err e) room part old new to size bound takes held = tt

-- a part of a room that was written anew
pub written : (room items tail part post : List ℕ) (to n len : ℕ) → room ≡ items → to ≤ length room → to + n ≤ len → n ≤ length part
    → take (to + n) (take len (take to room ++ (part ++ post) ++ tail)) ≡ take to items ++ take n part
written room items tail part post to n len same fits inside within =
    let front = take to room in
    let size : length front ≡ to = length-take-le to room fits in
    let n_left : to + n - length front ≡ n = omega (arith, size) in
    take-take (to + n) len (front ++ (part ++ post) ++ tail) inside
    ∙ ap (λ t. take (to + n) t) (append_assoc front (part ++ post) tail)
    ∙ take_both (to + n) front ((part ++ post) ++ tail)
    ∙ ap (λ t. t ++ take (to + n - length front) ((part ++ post) ++ tail)) (take_all (to + n) front (omega (arith, size)))
    ∙ ap (λ k. front ++ take k ((part ++ post) ++ tail)) n_left
    ∙ ap (λ t. front ++ take n t) (append_assoc part post tail)
    ∙ ap (λ t. front ++ t) (take-append-le n part (post ++ tail) within)
    ∙ ap (λ t. take to t ++ take n part) same
