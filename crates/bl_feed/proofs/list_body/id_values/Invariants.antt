use Rattle.std.proofs.Common.{◌≡◌, map, take}
use Rattle.serde_json.specs.Data.{string}
use Rattle.serde_json.specs.View.{view}
use Rattle.bl_feed.specs.Bodies.{id_text}
use Rattle.bl_feed.proofs.list_body.id_values.Given as goal

-- those of the ids so far
abbrev pub invariant-loop-id : goal.invariant-loop-id
invariant-loop-id l = map view l.values.items ≡ map (λ id. string (id_text id)) (take l.id-index l.ids)
