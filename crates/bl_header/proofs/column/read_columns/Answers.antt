use Rattle.std.proofs.Common.{◌≡◌, ℕ, ◌+◌, ◌<◌, List, [], ◌∷◌, ◌++◌, length, map, take, slice_index_or, Some, None}
use Rattle.std.proofs.lemmas.List.{map-append, map_more}
use borrow.Author.Count.{below_more}
use Rattle.bl_value.specs.declared.column.ColumnUse.{ColumnUse}
use Rattle.bl_value.specs.declared.column.Side.{Side}
use Rattle.bl_header.specs.FirstFaults.{fault_at, use_in}
use Rattle.bl_header.proofs.column.read_columns.Goals as goal

-- one use more
uses_more : (side : Side) (before after : List ColumnUse) (it : ColumnUse) (fields : List (List ℕ)) (place : ℕ) → place < length fields → map Some before ≡ map (use_in side) (take place fields) → use_in side (slice_index_or fields place []) ≡ Some it → after ≡ before ++ it ∷ [] → map Some after ≡ map (use_in side) (take (place + 1) fields)
uses_more side before after it fields place within e is pushed =
    rw (pushed, map_more (use_in side) fields place [] within, map-append, is, e)

pub loop-place-preserved : goal.loop-place-preserved
loop-place-preserved c = record {
  uses = uses_more c.args.side c.loop-place.uses c.push.new.self c.in_ok-found.found c.args.fields.now c.loop-place.place c.loop-place-test.true c.loop-place.invariant.uses c.in_ok-found.ensures.ok c.in_ok-push.ensures.ok;
  clean = below_more (λ k. fault_at c.args.side c.args.fields.now k ≡ None) c.loop-place.place c.loop-place.invariant.clean c.in_ok-found.ensures.sound;
}
