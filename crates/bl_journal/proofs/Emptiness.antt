-- When bytes are the head and a closed gate.
use Rattle.std.proofs.Common.{◌≡◌, ◌↔◌, ℕ, ◌+◌, ◌-◌, ◌<◌, true, false, not, List, [], ◌∷◌, ◌++◌, length, take, get_or, IsTrue, sym, ◌∙◌, ap, subst, arith}
use Rattle.std.specs.Prelude.{nat_eq}
use Rattle.std.proofs.lemmas.Bool.{ne_eqb}
use Rattle.std.proofs.lemmas.List.{take_more, take_all}
use Rattle.bl_journal.specs.Frames.{head, IsEmptyJournal}

-- the last byte
abbrev last : List ℕ → ℕ
last bytes = get_or bytes (length bytes - 1) 0

split_last : (bytes : List ℕ) → 0 < length bytes → take (length bytes - 1) bytes ≡ head → bytes ≡ head ++ last bytes ∷ []
split_last bytes some front =
    let n = length bytes - 1 in
    sym (take_all (n + 1) bytes (omega arith)) ∙ take_more bytes n 0 (omega arith) ∙ ap (λ l. l ++ last bytes ∷ []) front

pub empty_is : (bytes : List ℕ) → 0 < length bytes → take (length bytes - 1) bytes ≡ head → (IsTrue (not (nat_eq (last bytes) 1)) ↔ IsEmptyJournal bytes)
empty_is bytes some front = (
  λ shut. (last bytes, split_last bytes some front, λ open_gate. shut_open shut open_gate),
  λ empty. subst (λ l. IsTrue (not (nat_eq (last l) 1))) (sym empty.1) (ap not (ne_eqb empty.0 1 empty.2)),
)
  where
    shut_open : IsTrue (not (nat_eq (last bytes) 1)) → last bytes ≡ 1 → ⊥
    shut_open shut is = let e : not (nat_eq 1 1) ≡ true = ap (λ g. not (nat_eq g 1)) (sym is) ∙ shut in let f : false ≡ true = e in cc
