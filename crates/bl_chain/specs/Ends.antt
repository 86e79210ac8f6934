-- How a whole load ends.
use Rattle.std.specs.Prelude.{◌≡◌, ℕ, zero, suc, ◌+◌, true, false, List, [], ◌∷◌, ◌++◌, map, take, length, Some, None, ◌⊎◌}
use Rattle.std.specs.declared.option.Option.{Option}
use Rattle.bl_files.specs.declared.feed.Feed.{Feed}
use Rattle.bl_files.specs.declared.feed_kind.FeedKind.{FeedKind}
use Rattle.bl_files.specs.declared.feed_kind.FeedKind.TheVariants as kind
use Rattle.bl_files.specs.declared.feed_status.FeedStatus.{FeedStatus}
use Rattle.bl_files.specs.declared.feed_status.FeedStatus.TheVariants.{Completed, Failed, CancelledDueToErrors}
use Rattle.bl_files.specs.declared.load_request.LoadRequest.{LoadRequest}
use Rattle.bl_files.specs.declared.log.Log.{Log}
use Rattle.bl_files.specs.Carried.{first_log}
use Rattle.bl_graph.specs.Graph.{Graph}
use Rattle.bl_chain.specs.Tables.{Table, any_unread}
use Rattle.bl_chain.specs.Loads.{Line, lines, load_to}
use Rattle.bl_chain.specs.Stops.{Stop, stop_in}

-- the status and the end log of a file
abbrev pub Ended : Type 0
Ended = FeedStatus × Option Log

abbrev pub end_of : Feed → Ended
end_of feed = (feed.status, feed.end_log)

-- a file that isn't read has failed, and any other is completed
abbrev pub whole_end_of : FeedKind → Ended
whole_end_of kind.Vertex = (Completed, None)
whole_end_of kind.Edge = (Completed, None)
whole_end_of (kind.Refused code column) = (Failed, first_log (kind.Refused code column))

-- or is cut off where another stopped the load
abbrev pub cut_end_of : FeedKind → Ended
cut_end_of kind.Vertex = (CancelledDueToErrors, None)
cut_end_of kind.Edge = (CancelledDueToErrors, None)
cut_end_of (kind.Refused code column) = (Failed, first_log (kind.Refused code column))

abbrev pub whole_end : Table → Ended
whole_end table = whole_end_of table.found.kind

abbrev pub cut_end : Table → Ended
cut_end table = cut_end_of table.found.kind

-- the file at this place has stopped the load
abbrev pub stop_ends : Log → ℕ → List Table → List Ended
stop_ends log place [] = []
stop_ends log zero (table ∷ tables) = (Failed, Some log) ∷ map cut_end tables
stop_ends log (suc place) (table ∷ tables) = whole_end table ∷ stop_ends log place tables

-- The load has taken all lines. Or it stops at errors, and has taken none beside a file that isn't read, or all before
-- the first refused one.
abbrev pub AreEnds : LoadRequest → Graph → List Table → ℕ → List Ended → Type 0
AreEnds request graph tables rows ends =
    ((request.fail_on_error ≡ true → any_unread tables ≡ false) × (rows ≡ length (lines tables)) × (ends ≡ map whole_end tables))
    ⊎ (((request.fail_on_error ≡ true) × (any_unread tables ≡ true) × (rows ≡ 0) × (ends ≡ map cut_end tables))
    ⊎ ((request.fail_on_error ≡ true)
    × (any_unread tables ≡ false)
    × (line : Line)
    × (take (rows + 1) (lines tables) ≡ take rows (lines tables) ++ line ∷ [])
    × (stop : Stop)
    × (stop_in request (load_to request graph tables rows) (line ∷ []) ≡ Some stop)
    × (ends ≡ stop_ends stop.log stop.place tables)))
