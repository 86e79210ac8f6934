use Rattle.std.proofs.Common.{◌≡◌, ◌+◌, ◌<◌, ℕ, List, [], ◌∷◌, ◌++◌, get_or, length, take, length-take, append_assoc, arith, ap, sym, ◌∙◌}
use Rattle.std.proofs.lemmas.List.{append-nil, take_more}
use Rattle.bl_files.specs.declared.feed.Feed.{Feed}
use Rattle.bl_files.specs.ErrorFeed.{errors_from, feed_errors}
use Rattle.bl_files.proofs.error_feed.all_errors.Goals as goal

errors_append : (place : ℕ) (xs ys : List Feed) → errors_from place (xs ++ ys) ≡ errors_from place xs ++ errors_from (place + length xs) ys
errors_append place [] ys = ap (λ n. errors_from n ys) (let e : place ≡ place + length {A = Feed} [] = omega arith in e)
errors_append place (x ∷ xs) ys =
    ap (λ l. feed_errors place x ++ l) (errors_append (place + 1) xs ys)
    ∙ sym (append_assoc (feed_errors place x) (errors_from (place + 1) xs) (errors_from (place + 1 + length xs) ys))
    ∙ ap (λ n. (feed_errors place x ++ errors_from (place + 1) xs) ++ errors_from n ys) (let e : place + 1 + length xs ≡ place + length (x ∷ xs) = omega arith in e)

errors_more : (xs : List Feed) (i : ℕ) (x : Feed) → i < length xs → x ≡ get_or xs i x → errors_from 1 (take (i + 1) xs) ≡ errors_from 1 (take i xs) ++ feed_errors (i + 1) x
errors_more xs i x within is =
    ap (errors_from 1) (take_more xs i x within) ∙ ap (λ y. errors_from 1 (take i xs ++ y ∷ [])) (sym is)
    ∙ errors_append 1 (take i xs) (x ∷ [])
    ∙ ap (λ l. errors_from 1 (take i xs) ++ l) (append-nil (feed_errors (1 + length (take i xs)) x) ∙ ap (λ n. feed_errors n x) (let e : 1 + length (take i xs) ≡ i + 1 = omega (arith, length-take i xs) in e))

pub loop-place-preserved : goal.loop-place-preserved
loop-place-preserved c =
    c.in_ok-push_errors.ensures ∙ ap (λ l. l ++ feed_errors (c.loop-place.place + 1) c.feed-item.result) c.loop-place.invariant
    ∙ sym (errors_more c.as_slice-feed-items.result.now c.loop-place.place c.feed-item.result c.loop-place-test.true c.feed-item.is)
