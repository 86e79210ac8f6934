-- The logs of a job: those of its records that are kept, and all that a user is shown.
use Rattle.std.specs.Prelude.{ℕ, ◌+◌, ◌-◌, List, [], ◌∷◌, ◌++◌, map, drop, length, option_to_list, Some, None}
use Rattle.std.specs.declared.option.Option.{Option}
use Rattle.std.specs.List.{flat_map}
use Rattle.bl_files.specs.declared.log.Log.{Log}
use Rattle.bl_files.specs.declared.feed.Feed.{Feed}
use Rattle.bl_files.specs.declared.error_feed.ErrorEntry.{ErrorEntry}

-- the logs of the records of all feeds, in order
abbrev pub row_logs : List Feed → List Log
row_logs feeds = flat_map (λ feed. feed.logs) feeds

-- the most logs of records that a job keeps
abbrev pub most_logs : ℕ
most_logs = 10000

-- of the logs of the records a job keeps the last
abbrev pub kept_row_logs : List Feed → List Log
kept_row_logs feeds = drop (length (row_logs feeds) - most_logs) (row_logs feeds)

-- the logs of a feed, and then its end log
abbrev pub feed_errors : ℕ → Feed → List ErrorEntry
feed_errors place feed = map (λ log. record { feed = Some place; log = log })
    (feed.logs ++ option_to_list feed.end_log)

-- those of the feeds from a place on, of which the first is that of the first of them
abbrev pub errors_from : ℕ → List Feed → List ErrorEntry
errors_from place [] = []
errors_from place (feed ∷ feeds) = feed_errors place feed ++ errors_from (place + 1) feeds

-- feed by feed, counted from 1, and last the job's own end log
abbrev pub error_feed : List Feed → Option Log → List ErrorEntry
error_feed feeds end_log = errors_from 1 feeds
    ++ map (λ log. record { feed = None; log = log }) (option_to_list end_log)
