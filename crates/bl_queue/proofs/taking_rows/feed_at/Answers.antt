use Rattle.std.specs.Prelude.{ℕ, Result, Ok, Err, IfSome, OnErr}
use Rattle.std.specs.declared.option.Option.{Option}
use Rattle.std.proofs.Common.{◌+◌, ◌<◌, length, ap, refl, sym, subst, ◌∙◌, set}
use Rattle.std.proofs.lemmas.List.{set-get_or}
use Rattle.bl_files.specs.declared.feed.Feed.{Feed}
use Rattle.bl_files.specs.ErrorFeed.{row_logs}
use Rattle.bl_queue.specs.Rows.{fed_feed, last_logs}
use Rattle.bl_queue.specs.Taking.{HaveLogs}
use Rattle.bl_queue.proofs.OldestLogs.{more_logs}
use Rattle.bl_queue.proofs.Placed.{feed_at as placed, some_within}
use Rattle.bl_queue.proofs.taking_rows.feed_at.Goals as goal

on_err : {T E : Type 0} (r : Result T E) (P : Type 0) → P → OnErr r P
on_err (Ok x) P p = tt
on_err (Err e) P p = p

pub returns-in_err-feed_one-clause-err : goal.returns-in_err-feed_one-clause-err
returns-in_err-feed_one-clause-err c =
    on_err c.from_residual.result _ (ap (λ (x : Feed). set c.args.feeds.now c.args.place x) c.in_err-feed_one.ensures.err ∙ set-get_or c.args.feeds.now c.args.place c.index-feeds-place.result)

pub keep_last_of-requires : goal.keep_last_of-requires
keep_last_of-requires c =
    let within : c.args.place < length c.args.feeds.now = some_within c.args.place c.args.feeds.now _ c.requires.may in
    let fed = fed_feed c.args.taken.rows c.args.taken.digest c.args.taken.duplicates c.args.logs.now in
    ap (λ l. length (row_logs l)) (ap (λ (x : Feed). set c.args.feeds.now c.args.place x) c.in_ok-feed_one.ensures.ok ∙ sym (placed fed c.args.feeds.now c.args.place c.index-feeds-place.result within))
    ∙ more_logs fed c.args.logs.now (λ feed. refl) c.args.place c.args.feeds.now within
    ∙ ap (λ n. n + length c.args.logs.now) (let have : HaveLogs c.args.feeds.now c.in-Some.number = subst (λ (o : Option ℕ). IfSome o (HaveLogs c.args.feeds.now)) c.in-Some.is c.requires.known in have.are)

pub returns-in-Some-clause-ok : goal.returns-in-Some-clause-ok
returns-in-Some-clause-ok c =
    let within : c.args.place < length c.args.feeds.now = some_within c.args.place c.args.feeds.now _ c.requires.may in
    c.keep_last_of.ensures.last
    ∙ ap last_logs (ap (λ (x : Feed). set c.args.feeds.now c.args.place x) c.in_ok-feed_one.ensures.ok
    ∙ sym (placed (fed_feed c.args.taken.rows c.args.taken.digest c.args.taken.duplicates c.args.logs.now) c.args.feeds.now c.args.place c.index-feeds-place.result within))

pub returns-in-None-clause-ok : goal.returns-in-None-clause-ok
returns-in-None-clause-ok c =
    let within : c.args.place < length c.args.feeds.now = some_within c.args.place c.args.feeds.now _ c.requires.may in
    c.keep_last_logs.ensures.last
    ∙ ap last_logs (ap (λ (x : Feed). set c.args.feeds.now c.args.place x) c.in_ok-feed_one.ensures.ok
    ∙ sym (placed (fed_feed c.args.taken.rows c.args.taken.digest c.args.taken.duplicates c.args.logs.now) c.args.feeds.now c.args.place c.index-feeds-place.result within))
