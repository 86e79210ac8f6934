use Rattle.std.proofs.Common.{◌≡◌, ℕ, ◌<◌, ◌^◌, ◌++◌, drop}
use Rattle.std.specs.Prelude.{All, option_map}
use Rattle.serde_json.specs.View.{items_view}
use Rattle.bl_feed.specs.LoadBodies.{ids_in}
use Rattle.bl_feed.proofs.load_members.ids_in.Given as goal

-- the ids so far, and those of the texts that are left
abbrev pub invariant-loop-value : goal.invariant-loop-value
invariant-loop-value l = record {
  ids : option_map (λ more. l.ids ++ more) (ids_in (items_view (drop l.value-index l.texts))) ≡ ids_in (items_view l.texts);
  range : All (λ (id : ℕ). id < 2 ^ 128) l.ids;
}
