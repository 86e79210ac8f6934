-- What is carried on beside the names that are kept.
use Rattle.std.proofs.Common.{◌≡◌, ◌+◌, ◌++◌, ℕ, not, map, filter, count_by, length, length-append, List, ap, sym, ◌∙◌}
use Rattle.std.specs.Ordering.{nat_cmp}
use Rattle.std.specs.Cmp.Lexicographic.{slice_cmp}
use Rattle.std.specs.BTreeSet.{BTreeSet, contains}
use Rattle.std.proofs.lemmas.List.{length-map}
use Rattle.std.proofs.lemmas.List.Elements.{filter_agree}
use Rattle.std.proofs.lemmas.List.Sums.{length-filter}
use Rattle.bl_outside.specs.declared.text.Text.{Text}
use Rattle.bl_files.specs.declared.feed.Feed.{Feed}
use Rattle.bl_files.specs.declared.found.Found.{Found}
use Rattle.bl_files.specs.Carried.{is_kept, kept, new_feed}
use Rattle.bl_files.specs.Collected.{collected, has_kept, kept_feeds, new_files}

module _ (previous : List Feed) (found : List Found) (names : BTreeSet Text) (are : (name : List ℕ) → contains (slice_cmp nat_cmp) names name ≡ has_kept previous name) where
  pub same_new : filter (λ (file : Found). not (contains (slice_cmp nat_cmp) names file.name)) found ≡ new_files previous found
  same_new = filter_agree (λ (file : Found). not (contains (slice_cmp nat_cmp) names file.name)) (λ (file : Found). not (has_kept previous file.name)) (λ file. ap not (are file.name)) found

  pub same_feeds : (feeds : List Feed) → feeds ≡ kept_feeds previous ++ map new_feed (filter (λ (file : Found). not (contains (slice_cmp nat_cmp) names file.name)) found) → feeds ≡ collected previous found
  same_feeds feeds h = h ∙ ap (λ files. kept_feeds previous ++ map new_feed files) same_new

  pub number : (n : ℕ) → n ≡ count_by is_kept previous + count_by (λ (file : Found). not (contains (slice_cmp nat_cmp) names file.name)) found → length (collected previous found) ≡ n
  number n is =
      length-append (kept_feeds previous) (map new_feed (new_files previous found))
      ∙ ap (λ n. n + length (map new_feed (new_files previous found))) (length-map (filter is_kept previous) kept ∙ length-filter is_kept previous)
      ∙ ap (λ n. count_by is_kept previous + n) (length-map (new_files previous found) new_feed ∙ ap length (sym same_new) ∙ length-filter (λ (file : Found). not (contains (slice_cmp nat_cmp) names file.name)) found)
      ∙ sym is
