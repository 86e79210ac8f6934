-- One more id of a list of texts.
use Rattle.std.proofs.Common.{◌≡◌, ◌∙◌, ℕ, ◌+◌, ◌<◌, List, [], ◌∷◌, ◌++◌, Option, Some, None, length, get_or, drop, ap, sym, refl, append_assoc}
use Rattle.std.specs.Prelude.{option_map, unwrap_or}
use Rattle.std.specs.Int.{w128, from_be_bytes}
use Rattle.std.proofs.lemmas.List.{drop_more}
use Rattle.serde_json.specs.Find.{as_str}
use Rattle.serde_json.specs.View.{items_view, view}
use Rattle.serde_json.specs.declared.value.Value.{Value}
use Rattle.bl_feed.specs.LoadBodies.{id_in, ids_in, with_id}

one_more_id : (ids text : List ℕ) (others : Option (List ℕ)) → option_map (λ more. (ids ++ id_in text ∷ []) ++ more) others ≡ option_map (λ more. ids ++ more) (with_id (Some text) others)
one_more_id ids text None = refl
one_more_id ids text (Some more) = ap Some (append_assoc ids (id_in text ∷ []) more)

ids_at : (texts : List Value) (i : ℕ) (value : Value) → i < length texts → value ≡ get_or texts i value → ids_in (items_view (drop i texts)) ≡ with_id (as_str (view value)) (ids_in (items_view (drop (i + 1) texts)))
ids_at texts i value within is =
    ap (λ (l : List Value). ids_in (items_view l)) (drop_more texts i value within) ∙ ap (λ (v : Value). with_id (as_str (view v)) (ids_in (items_view (drop (i + 1) texts)))) (sym is)

pub ids_more : (texts : List Value) (i : ℕ) (value : Value) (text ids new : List ℕ) → i < length texts → value ≡ get_or texts i value → Some text ≡ as_str (view value) → new ≡ ids ++ id_in text ∷ [] →
    option_map (λ more. new ++ more) (ids_in (items_view (drop (i + 1) texts))) ≡ option_map (λ more. ids ++ more) (ids_in (items_view (drop i texts)))
ids_more texts i value text ids new within is is_text is_new =
    let rest = ids_in (items_view (drop (i + 1) texts)) in
    ap (λ l. option_map (λ more. l ++ more) rest) is_new ∙ one_more_id ids text rest ∙ ap (λ o. option_map (λ more. ids ++ more) (with_id o rest)) is_text
    ∙ ap (option_map (λ more. ids ++ more)) (sym (ids_at texts i value within is))
