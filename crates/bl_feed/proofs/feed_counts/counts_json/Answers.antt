use Rattle.std.proofs.Common.{◌∙◌, List, ap}
use Rattle.serde_json.specs.Data.{Data, array}
use Rattle.serde_json.specs.View.{items_of}
use Rattle.serde_json.proofs.Views.{view-Array}
use Rattle.bl_feed.specs.StatusBodies.{counts_data}
use Rattle.bl_feed.proofs.feed_counts.counts_json.Goals as goal

pub returns : goal.returns
returns c = view-Array c.in_ok-counts.counts ∙ ap (λ (l : List Data). array (items_of l)) c.in_ok-counts.ensures ∙ ap counts_data c.as_slice.ensures
