use Rattle.std.proofs.Common.{◌≡◌, ◌+◌, ◌<◌, ℕ, Bool, true, false, ◌||◌, ◌&&◌, cond, List, nat_eq, get_or, take, length, ap, sym, refl, ◌∙◌}
use Rattle.std.specs.Ordering.{nat_cmp, is_eq}
use Rattle.std.specs.Cmp.Lexicographic.{pointwise, slice_cmp}
use Rattle.std.specs.BTreeSet.{BTreeSet, contains}
use Rattle.bl_outside.specs.declared.text.Text.{Text}
use Rattle.std.proofs.lemmas.List.Folds.{list_any_more}
use Rattle.std.proofs.lemmas.Map.Text.{is_eq-slice_cmp}
use Rattle.bl_files.specs.declared.feed.Feed.{Feed}
use Rattle.bl_files.specs.Carried.{is_kept}
use Rattle.bl_files.specs.Collected.{has_kept}
use Rattle.bl_files.proofs.carrying.kept_names.Goals as goal
use Rattle.bl_files.proofs.carrying.kept_names.Goals.{then-is_kept+in_ok-copy+in_ok-insert, else-is_kept}

one_more : (feeds : List Feed) (i : ℕ) (feed : Feed) (name : List ℕ) → i < length feeds → feed ≡ get_or feeds i feed → has_kept (take (i + 1) feeds) name ≡ (has_kept (take i feeds) name || (is_kept feed && pointwise nat_eq feed.name name))
one_more feeds i feed name within is =
    list_any_more (λ (f : Feed). is_kept f && pointwise nat_eq f.name name) feeds i feed within
    ∙ ap (λ (f : Feed). has_kept (take i feeds) name || (is_kept f && pointwise nat_eq f.name name)) (sym is)

or_else : (b c : Bool) → cond b true c ≡ (c || (true && b))
or_else true true = refl
or_else true false = refl
or_else false true = refl
or_else false false = refl

or_none : (b c : Bool) → c ≡ (c || (false && b))
or_none b true = refl
or_none b false = refl

kept_more : (feeds : List Feed) (i : ℕ) (feed : Feed) (name key : List ℕ) (now old : Bool) → i < length feeds → feed ≡ get_or feeds i feed → is_kept feed ≡ true → key ≡ feed.name →
    now ≡ cond (is_eq (slice_cmp nat_cmp key name)) true old → old ≡ has_kept (take i feeds) name → now ≡ has_kept (take (i + 1) feeds) name
kept_more feeds i feed name key now old within is is_so copied step so_far =
    step ∙ ap (λ b. cond b true old) (is_eq-slice_cmp key name) ∙ ap (λ k. cond (pointwise nat_eq k name) true old) copied ∙ ap (cond (pointwise nat_eq feed.name name) true) so_far
    ∙ or_else (pointwise nat_eq feed.name name) (has_kept (take i feeds) name) ∙ ap (λ k. has_kept (take i feeds) name || (k && pointwise nat_eq feed.name name)) (sym is_so) ∙ sym (one_more feeds i feed name within is)

left_more : (feeds : List Feed) (i : ℕ) (feed : Feed) (name : List ℕ) (now : Bool) → i < length feeds → feed ≡ get_or feeds i feed → is_kept feed ≡ false → now ≡ has_kept (take i feeds) name → now ≡ has_kept (take (i + 1) feeds) name
left_more feeds i feed name now within is not_so so_far =
    so_far ∙ or_none (pointwise nat_eq feed.name name) (has_kept (take i feeds) name) ∙ ap (λ k. has_kept (take i feeds) name || (k && pointwise nat_eq feed.name name)) (sym not_so) ∙ sym (one_more feeds i feed name within is)

pub loop-feed-preserved : goal.loop-feed-preserved
loop-feed-preserved c = λ name.
    elim c.if-is_kept.branch [
      | then-is_kept+in_ok-copy+in_ok-insert w ↦ ap (λ (s : BTreeSet Text). contains (slice_cmp nat_cmp) s name) w.names-is
          ∙ kept_more c.as_slice-feed-items.result.now c.loop-feed.feed-index c.feed-item.result name _ _ _ c.loop-feed-test.true c.feed-item.is (sym c.is_kept.ensures ∙ w.if-is_kept.true) w.in_ok-copy.ensures (w.in_ok-insert.ensures.updates.0 name) (c.loop-feed.invariant name)
      | else-is_kept w ↦ ap (λ (s : BTreeSet Text). contains (slice_cmp nat_cmp) s name) w.names-is
          ∙ left_more c.as_slice-feed-items.result.now c.loop-feed.feed-index c.feed-item.result name _ c.loop-feed-test.true c.feed-item.is (sym c.is_kept.ensures ∙ w.if-is_kept.false) (c.loop-feed.invariant name)
    ]
