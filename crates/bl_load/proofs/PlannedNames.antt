-- The names of a plan.
use Rattle.std.specs.Prelude.{◌≡◌, ◌≢◌, ◌⊎◌, ◌↔◌, ◌<◌, ℕ, nat_eq, Bool, true, false, List, [], ◌∷◌, ◌++◌, length, refl, Some, None, IsSome}
use Rattle.std.specs.List.{All, AllZip, Contains, IsDistinct}
use Rattle.std.specs.List.Sorted.{IsPermutation, IsSorted}
use Rattle.std.specs.Ordering.{nat_cmp}
use Rattle.std.specs.Cmp.Lexicographic.{pointwise, slice_cmp}
use Rattle.std.specs.FinMap.{get}
use Rattle.std.proofs.Common.{sym, ap, subst, ◌∙◌, arith, inl, inr}
use Rattle.std.proofs.lemmas.Cmp.{nat_list_eq_equiv}
use Rattle.std.proofs.lemmas.List.Elements.{All-cons, All-head, All-nil, Contains-get_or}
use Rattle.std.proofs.lemmas.List.Sorted.{All-permutation, Contains-permutation, IsPermutation-sym, length_permutation}
use Rattle.std.proofs.lemmas.Map.Keys.{IsDistinct-IsPermutation}
use Rattle.bl_outside.specs.Folders.{Files, HasInside, IsNameIn}
use Rattle.bl_outside.specs.Texts.{IsShortText}
use Rattle.bl_load.specs.Finding.{AreAllThere, AreListed, AreNamesAt, AreRising}
use Rattle.bl_files.specs.Sources.{path_of}
use Rattle.bl_files.specs.declared.feed.Feed.{Feed}
use Rattle.bl_files.specs.declared.plan_result.PlanResult.{PlanResult}
use Rattle.bl_files.specs.declared.plan_result.PlanResult.TheVariants as plan
use Rattle.bl_chain.proofs.OneFolder.{some_same}
use Rattle.bl_load.specs.Planning.{IsPlanAt}
use Rattle.bl_load.specs.Prepares.{IsPlanFor}
use Rattle.bl_load.specs.SourceFiles.{file_path}
use Rattle.bl_load.proofs.FoundNames.{rising_names}
use Rattle.bl_load.proofs.SourceBytes.{none_utf8}

only : (ys : List (List ℕ)) → length ys ≡ 1 → All (λ (n : List ℕ). n ≡ []) ys → ys ≡ [] ∷ []
only [] one all = absurd (omega arith)
only (y ∷ []) one all = ap (λ n. n ∷ []) (All-head (λ (n : List ℕ). n ≡ []) y [] all)
only (y ∷ (z ∷ ys)) one all = absurd (omega arith)

-- names in another order
pub names_sorted : (files : Files) (path : List ℕ) (xs ys : List (List ℕ)) → IsPermutation xs ys → AreNamesAt files path xs → AreNamesAt files path ys
names_sorted files path xs ys same (inl one) =
    let P : List ℕ → Type 0 = λ n. n ≡ [] in
    inl (one.0, only ys (length_permutation xs ys same ∙ ap (λ l. length l) one.1) (All-permutation P xs ys same (subst (λ l. All P l) (sym one.1) (All-cons P [] [] refl (All-nil P)))))
names_sorted files path xs ys same (inr folder) =
    inr (
      folder.0,
      folder.1,
      λ name. (
        λ h. (folder.2 name).0 (Contains-permutation ys xs name (IsPermutation-sym xs ys same) h),
        λ h. Contains-permutation xs ys name same ((folder.2 name).1 h),
      ),
    )

there_at : (files : Files) (path name : List ℕ) → IsNameIn files path name → IsSome (get files (file_path path name))
there_at files path [] is = absurd (is.named refl)
there_at files path (byte ∷ name) is = is.present

pub all_there : (files : Files) (path : List ℕ) (names : List (List ℕ)) → AreNamesAt files path names → AreAllThere files path names
all_there files path names (inl one) =
    let P : List ℕ → Type 0 = λ name. IsSome (get files (file_path path name)) in
    subst (λ l. All P l) (sym one.1) (All-cons P [] [] one.0 (All-nil P))
all_there files path names (inr folder) = λ k d within. there_at files path _ ((folder.2 _).0 (Contains-get_or names k d within))

pub rising_sorted : (xs ys : List (List ℕ)) → IsPermutation xs ys → IsSorted (slice_cmp nat_cmp) ys → AreListed xs → AreRising ys
rising_sorted xs ys same up listed = rising_names ys up (IsDistinct-IsPermutation (pointwise nat_eq) nat_list_eq_equiv.symm xs ys same listed.differ)

pub one_listed : AreListed ([] ∷ [])
unfolding IsDistinct
one_listed = record { texts = All-cons IsShortText [] [] (record { utf8 = none_utf8; short = omega arith }) (All-nil IsShortText); differ = (tt, tt) }

-- the plan of a source
pub plan_for : (files : Files) (source path : List ℕ) (no_previous : Bool) (previous : List Feed) (planned : PlanResult) → path_of source ≡ Some path → no_previous ≡ false → IsPlanAt files path previous planned → IsPlanFor files source no_previous previous planned
plan_for files source path no_previous previous plan.NoPrevious is none at = absurd at
plan_for files source path no_previous previous plan.SourceNotFound is none at = (none, λ p of. subst (λ q. (get files q ≡ None) × ¬ HasInside files q) (some_same path p (sym is ∙ of)) at)
plan_for files source path no_previous previous (plan.TooManyFiles number) is none at = (none, path, is, at)
plan_for files source path no_previous previous (plan.Feeds found) is none at = (none, path, is, at)
plan_for files source path no_previous previous plan.ListFault is none at = tt
