use Rattle.std.proofs.Common.{◌∙◌, List, Vec, Global, ap, map, sym, subst, take}
use Rattle.std.specs.List.{All, filter}
use Rattle.std.specs.Str.{IsUtf8}
use Rattle.std.proofs.lemmas.List.{take_all}
use Rattle.std.proofs.lemmas.List.Elements.{All-get_or}
use Rattle.serde_json.specs.Data.{Data, array}
use Rattle.serde_json.specs.View.{items_of, view}
use Rattle.serde_json.specs.declared.value.Value.{Value}
use Rattle.serde_json.proofs.Views.{view-Array}
use Rattle.bl_files.specs.declared.feed.Feed.{Feed}
use Rattle.bl_feed.specs.StatusBodies.{feed_data, is_stopped}
use Rattle.bl_feed.proofs.Elements.{kept_more, passed_more, pushed}
use Rattle.bl_feed.proofs.status_body.stopped_json.Goals as goal
use Rattle.bl_feed.proofs.status_body.stopped_json.Goals.{then-is_stopped+in_ok-feed_json+in_ok-push, else-is_stopped}

pub feed_json-requires-clause-name : goal.feed_json-requires-clause-name
feed_json-requires-clause-name c =
    subst (λ (feed : Feed). IsUtf8 feed.name) (sym c.feed-item.is)
    (All-get_or (λ (feed : Feed). IsUtf8 feed.name) c.as_slice-feed-items.result.now c.loop-feed.feed-index c.feed-item.result c.loop-feed-test.true
    (subst (λ (feeds : List Feed). All (λ (feed : Feed). IsUtf8 feed.name) feeds) (sym c.as_slice-feed-items.ensures) c.requires.names))

pub loop-feed-preserved : goal.loop-feed-preserved
loop-feed-preserved c =
    let feeds = c.as_slice-feed-items.result.now in
    let feed = c.feed-item.result in
    elim c.if-is_stopped.branch [
      | then-is_stopped+in_ok-feed_json+in_ok-push w ↦
          ap (λ (stopped : Vec Value Global). map view stopped.items) w.stopped-is ∙ ap (map view) w.in_ok-push.ensures.items
          ∙ pushed view c.loop-feed.stopped.items w.in_ok-feed_json.field-0 (map (feed_data c.args.job.now) (filter is_stopped (take c.loop-feed.feed-index feeds)))
          (feed_data c.args.job.now feed) c.loop-feed.invariant w.in_ok-feed_json.ensures
          ∙ sym (kept_more (feed_data c.args.job.now) is_stopped feeds c.loop-feed.feed-index feed feed c.loop-feed-test.true (sym c.feed-item.is) (sym c.is_stopped.ensures ∙ w.if-is_stopped.true))
      | else-is_stopped w ↦
          ap (λ (stopped : Vec Value Global). map view stopped.items) w.stopped-is ∙ c.loop-feed.invariant
          ∙ sym (passed_more (feed_data c.args.job.now) is_stopped feeds c.loop-feed.feed-index feed feed c.loop-feed-test.true (sym c.feed-item.is) (sym c.is_stopped.ensures ∙ w.if-is_stopped.false))
    ]

pub returns : goal.returns
returns c =
    view-Array c.loop-feed.stopped ∙ ap (λ (values : List Data). array (items_of values)) c.loop-feed.invariant
    ∙ ap (λ (feeds : List Feed). array (items_of (map (feed_data c.args.job.now) (filter is_stopped feeds))))
    (take_all c.loop-feed.feed-index c.as_slice-feed-items.result.now c.loop-feed-test.false ∙ c.as_slice-feed-items.ensures)
