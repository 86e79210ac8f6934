use Rattle.std.proofs.Common.{◌≡◌, true, All, Contains, sym, ◌∙◌, subst, arith}
use Rattle.std.proofs.lemmas.Bool.{true≢false}
use Rattle.std.proofs.lemmas.List.{take_all}
use Rattle.std.proofs.lemmas.List.Elements.{All-contains, All-more}
use Rattle.bl_files.specs.declared.feed.Feed.{Feed}
use Rattle.bl_files.specs.Carried.{is_kept}
use Rattle.bl_load.proofs.Contents.{texts_apart}
use Rattle.bl_load.proofs.finding.kept_as.Goals as goal
use Rattle.bl_load.proofs.finding.kept_as.Goals.{else-is_kept-via-then-is_kept+else-eq, else-is_kept-via-else-is_kept}

pub loop-feed-preserved : goal.loop-feed-preserved
loop-feed-preserved c =
    let items = c.as_slice-feed-items.result.now in
    let P : Feed → Type 0 = λ feed. ¬ ((is_kept feed ≡ true) × (feed.name ≡ c.args.name.now)) in
    let not : P c.feed-item.result =
    elim c.else-is_kept.branch [
      | else-is_kept-via-then-is_kept+else-eq w ↦ λ h. texts_apart c.feed-item.result.name c.args.name.now (sym w.eq.ensures ∙ w.if-eq.false) h.1
      | else-is_kept-via-else-is_kept w ↦ λ h. true≢false (sym h.0 ∙ sym c.is_kept.ensures ∙ w.if-is_kept.false)
    ] in
    All-more P items c.loop-feed.feed-index c.feed-item.result (omega arith) c.loop-feed.invariant (subst P c.feed-item.is not)

pub returns-clause-none : goal.returns-clause-none
returns-clause-none c = λ h.
    let items = c.as_slice-feed-items.result.now in
    let P : Feed → Type 0 = λ feed. ¬ ((is_kept feed ≡ true) × (feed.name ≡ c.args.name.now)) in
    All-contains P items h.0 (subst (λ l. All P l) (take_all c.loop-feed.feed-index items (omega arith)) c.loop-feed.invariant) (subst (λ l. Contains l h.0) (sym c.as_slice-feed-items.ensures) h.1) (h.2, h.3)
