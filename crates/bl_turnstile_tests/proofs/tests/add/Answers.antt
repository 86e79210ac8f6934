use Rattle.std.proofs.Common.{◌∷◌, ◌++◌, [], ℕ, List, map, ap, sym, ◌∙◌, refl}
use Rattle.std.proofs.lemmas.List.{map-append}
use Rattle.bl_turnstile_tests.proofs.tests.add.Goals as goal

pub leave-requires-clause-stands : goal.leave-requires-clause-stands
leave-requires-clause-stands g c =
    let coded : List ℕ → List (List ℕ) = λ l. map (λ number. number ∷ []) l in
    let more : List ℕ = c.push.ensures.0 in (
      coded c.push.new.self.numbers.items,
      refl,
      (
        coded more,
        ap coded c.push.ensures.1 ∙ map-append (λ number. number ∷ []) c.value.result.now.numbers.items more
            ∙ ap (λ l. l ++ coded more) (ap (λ log. coded log.numbers.items) c.value.ensures.value ∙ sym c.enter-inside.ensures.stands),
      ),
    )
