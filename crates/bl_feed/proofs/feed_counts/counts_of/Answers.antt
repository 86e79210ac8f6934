use Rattle.std.proofs.Common.{◌≡◌, ◌∙◌, ℕ, zero, suc, ◌≤◌, true, false, Vec, Global, ap, get_or, map, refl, subst, sym, take, arith}
use Rattle.std.specs.Prelude.{nat_lt}
use Rattle.std.specs.List.{filter}
use Rattle.std.proofs.lemmas.Bool.{lt-ltb}
use Rattle.serde_json.specs.Data.{object, member, no_members}
use Rattle.serde_json.specs.View.{view}
use Rattle.serde_json.specs.declared.value.Value.{Value}
use Rattle.bl_files.specs.declared.feed_status.FeedStatus.{FeedStatus}
use Rattle.bl_files.specs.declared.feed_status.FeedStatus.TheVariants.{NotStarted}
use Rattle.bl_feed.specs.Words.{feed_status_text}
use Rattle.bl_feed.specs.StatusBodies.{a_number, count_data, count_of}
use Rattle.bl_feed.proofs.Elements.{kept_more, passed_more, pushed}
use Rattle.bl_feed.proofs.feed_counts.counts_of.Goals as goal
use Rattle.bl_feed.proofs.feed_counts.counts_of.Goals.{then-count-gt0+in_ok-count_json+in_ok-push, else-count-gt0}

none : (n m : ℕ) → n ≡ m → n ≤ 0 → nat_lt 0 m ≡ false
none zero m is few = ap (nat_lt 0) (sym is)
none (suc n) m is few = absurd (omega arith)

pub loop-status-preserved : goal.loop-status-preserved
loop-status-preserved c =
    let feeds = c.args.feeds.now in
    let status : FeedStatus = get_or c.args.statuses.now c.loop-status.status-index NotStarted in
    elim c.if-count-gt0.branch [
      | then-count-gt0+in_ok-count_json+in_ok-push w ↦
          ap (λ (counts : Vec Value Global). map view counts.items) w.counts-is ∙ ap (map view) w.in_ok-push.ensures.items
          ∙ pushed view c.loop-status.counts.items w.in_ok-count_json.field-0 (map (count_data feeds) (filter (λ status. nat_lt 0 (count_of status feeds)) (take c.loop-status.status-index c.args.statuses.now)))
          (count_data feeds status) c.loop-status.invariant
          (w.in_ok-count_json.ensures ∙ ap (λ (n : ℕ). object (member (feed_status_text status) (a_number n) no_members)) c.count_of-count.ensures)
          ∙ sym (kept_more (count_data feeds) (λ status. nat_lt 0 (count_of status feeds)) c.args.statuses.now c.loop-status.status-index NotStarted status c.loop-status-test.true refl
          (subst (λ (n : ℕ). nat_lt 0 n ≡ true) c.count_of-count.ensures (lt-ltb 0 c.count_of-count.result w.if-count-gt0.true)))
      | else-count-gt0 w ↦
          ap (λ (counts : Vec Value Global). map view counts.items) w.counts-is ∙ c.loop-status.invariant
          ∙ sym (passed_more (count_data feeds) (λ status. nat_lt 0 (count_of status feeds)) c.args.statuses.now c.loop-status.status-index NotStarted status c.loop-status-test.true refl
          (none c.count_of-count.result (count_of status feeds) c.count_of-count.ensures w.if-count-gt0.false))
    ]
