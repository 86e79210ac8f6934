-- Names that rise differ.
use Rattle.std.specs.Prelude.{◌≡◌, ◌+◌, ◌<◌, ℕ, List, [], ◌∷◌, length}
use Rattle.std.specs.List.{IsDistinct}
use Rattle.std.proofs.Common.{ap, subst, ◌∙◌, arith, get_or}
use Rattle.std.specs.Ordering.{nat_cmp}
use Rattle.std.specs.Cmp.Lexicographic.{slice_cmp}
use Rattle.std.proofs.lemmas.Cmp.{nat_list_cmp_total}
use Rattle.std.proofs.lemmas.List.{get_or-map, length-map}
use Rattle.std.proofs.lemmas.Map.Keys.{sorted_from_all_adjacent}
use Rattle.bl_outside.proofs.Names.{distinct_texts}
use Rattle.bl_files.specs.declared.found.Found.{Found}
use Rattle.bl_files.specs.Carried.{DifferentNames, found_names}
use Rattle.bl_files.specs.Plans.{NamesRise}

name_at : (found : List Found) (k : ℕ) (d : Found) → k < length found → get_or (found_names found) k d.name ≡ (get_or found k d).name
name_at found k d within = get_or-map (λ (f : Found). f.name) found k d d.name within

pub rising_names : (found : List Found) → NamesRise found → DifferentNames (found_names found)
unfolding IsDistinct
rising_names [] up = tt
rising_names (file ∷ found) up =
    distinct_texts (found_names (file ∷ found)) (sorted_from_all_adjacent nat_list_cmp_total (found_names (file ∷ found)) file.name (λ k within.
    let all : k + 1 < length (file ∷ found) = subst (λ n. k + 1 < n) (length-map (file ∷ found) (λ (f : Found). f.name)) within in
    ap (λ n. slice_cmp nat_cmp n (get_or (found_names (file ∷ found)) (k + 1) file.name)) (name_at (file ∷ found) k file (omega arith))
    ∙ ap (λ n. slice_cmp nat_cmp (get_or (file ∷ found) k file).name n) (name_at (file ∷ found) (k + 1) file all)
    ∙ up k file all))
