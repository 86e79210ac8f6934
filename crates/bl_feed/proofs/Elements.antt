-- Elements of lists, and loops that keep some of them.
use Rattle.std.proofs.Common.{◌≡◌, ◌∙◌, ℕ, ◌+◌, ◌<◌, Bool, true, false, cond, List, [], ◌∷◌, ◌++◌, Some, length, get_or, map, take, ap, subst, sym}
use Rattle.std.specs.Prelude.{slice_get, unwrap_or}
use Rattle.std.specs.List.{All, filter}
use Rattle.std.proofs.lemmas.List.{append-nil, map_push}
use Rattle.std.proofs.lemmas.List.Elements.{All-get_or, filter_more}
use Rattle.std.proofs.lemmas.Option.{slice_get_within, unwrap_or-slice_get}

pub at_place : {X : Type 0} (P : X → Type 0) (xs : List X) (i : ℕ) (x : X) → Some x ≡ slice_get xs i → All P xs → P x
at_place P xs i x is all =
    subst P (sym (unwrap_or-slice_get xs i x) ∙ ap (λ o. unwrap_or o x) (sym is)) (All-get_or P xs i x (slice_get_within xs i x (sym is)) all)

-- one more that passes
pub kept_more : {X Y : Type 0} (f : X → Y) (p : X → Bool) (xs : List X) (i : ℕ) (d x : X) → i < length xs → get_or xs i d ≡ x → p x ≡ true → map f (filter p (take (i + 1) xs)) ≡ map f (filter p (take i xs)) ++ f x ∷ []
kept_more f p xs i d x within is passes =
    ap (map f) (filter_more p xs i d within ∙ ap (λ y. filter p (take i xs) ++ cond (p y) (y ∷ []) []) is ∙ ap (λ t. filter p (take i xs) ++ cond t (x ∷ []) []) passes)
    ∙ map_push f (filter p (take i xs)) x

-- one more that doesn't
pub passed_more : {X Y : Type 0} (f : X → Y) (p : X → Bool) (xs : List X) (i : ℕ) (d x : X) → i < length xs → get_or xs i d ≡ x → p x ≡ false → map f (filter p (take (i + 1) xs)) ≡ map f (filter p (take i xs))
passed_more f p xs i d x within is fails =
    ap (map f) (filter_more p xs i d within ∙ ap (λ y. filter p (take i xs) ++ cond (p y) (y ∷ []) []) is ∙ ap (λ t. filter p (take i xs) ++ cond t (x ∷ []) []) fails ∙ append-nil (filter p (take i xs)))

-- a list of values, with one more
pub pushed : {A Y : Type 0} (g : A → Y) (values : List A) (value : A) (front : List Y) (y : Y) → map g values ≡ front → g value ≡ y → map g (values ++ value ∷ []) ≡ front ++ y ∷ []
pushed g values value front y all one = map_push g values value ∙ ap (λ l. l ++ g value ∷ []) all ∙ ap (λ z. front ++ z ∷ []) one
