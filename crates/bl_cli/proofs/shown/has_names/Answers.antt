use Rattle.std.proofs.Common.{◌≡◌, ◌∙◌, List, ap, arith, subst, sym, take}
use Rattle.std.specs.Prelude.{All}
use Rattle.std.specs.Str.{IsUtf8, is_utf8}
use Rattle.std.proofs.lemmas.List.{take_all}
use Rattle.std.proofs.lemmas.List.Elements.{All-more}
use Rattle.std.proofs.lemmas.Str.{IsUtf8-from_is_utf8}
use Rattle.bl_files.specs.declared.feed.Feed.{Feed}
use Rattle.bl_cli.proofs.shown.has_names.Goals as goal

abbrev HasName : Feed → Type 0
HasName feed = IsUtf8 feed.name

pub loop-feed-preserved : goal.loop-feed-preserved
loop-feed-preserved c =
    let items : List Feed = c.as_slice-feed-items.result.now in
    let named : HasName c.feed-item.result = IsUtf8-from_is_utf8 c.feed-item.result.name (ap is_utf8 (sym c.as_slice.ensures) ∙ sym c.is_utf8.ensures ∙ c.if-not-is_utf8.false) in
    All-more HasName items c.loop-feed.feed-index c.feed-item.result (omega arith) c.loop-feed.invariant (subst HasName c.feed-item.is named)

pub returns : goal.returns
returns c holds =
    let items : List Feed = c.as_slice-feed-items.result.now in
    let whole : take c.loop-feed.feed-index items ≡ items = take_all c.loop-feed.feed-index items (omega arith) in
    subst (λ (feeds : List Feed). All HasName feeds) (whole ∙ c.as_slice-feed-items.ensures) c.loop-feed.invariant
