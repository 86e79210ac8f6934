-- Bodies have no floats.
use Rattle.std.proofs.Common.{◌≡◌, ℕ, Bool, true, false, List, [], ◌∷◌, Option, Some, None, map, refl}
use Rattle.std.specs.List.{filter}
use Rattle.std.specs.Prelude.{nat_lt}
use Rattle.serde_json.specs.Data.{Data, string}
use Rattle.serde_json.specs.View.{items_of}
use Rattle.serde_json.specs.Written.{has_float, items_have_float}
use Rattle.bl_files.specs.declared.feed.Feed.{Feed}
use Rattle.bl_queue.specs.declared.job.Job.{Job}
use Rattle.bl_feed.specs.Bodies.{id_text, ids_data, success_data}
use Rattle.bl_feed.specs.StatusBodies.{count_data, count_of, entries_of, entry_data, feed_data, is_stopped, payload_data, statuses}

pub no_floats : {A : Type 0} (f : A → Data) → ((x : A) → has_float (f x) ≡ false) → (xs : List A) → items_have_float (items_of (map f xs)) ≡ false
no_floats f none [] = refl
no_floats f none (x ∷ xs) = rw (none x) (no_floats f none xs)

pub list_no_float : (ids : List ℕ) → has_float (success_data (ids_data ids)) ≡ false
list_no_float ids = rw (no_floats (λ (id : ℕ). string (id_text id)) (λ id. refl) ids) refl

counts_no_float : (feeds : List Feed) → items_have_float (items_of (map (count_data feeds) (filter (λ status. nat_lt 0 (count_of status feeds)) statuses))) ≡ false
counts_no_float feeds = no_floats (count_data feeds) (λ status. refl) (filter (λ status. nat_lt 0 (count_of status feeds)) statuses)

stopped_no_float : (job : Job) → items_have_float (items_of (map (feed_data job) (filter is_stopped job.feeds))) ≡ false
stopped_no_float job = no_floats (feed_data job) (λ feed. refl) (filter is_stopped job.feeds)

entries_no_float : (job : Job) (asked : ℕ × ℕ) → items_have_float (items_of (map (entry_data job) (entries_of job asked))) ≡ false
entries_no_float job asked = no_floats (entry_data job) (λ entry. refl) (entries_of job asked)

pub status_no_float : (job : Job) (details : Bool) (errors : Option (ℕ × ℕ)) → has_float (success_data (payload_data job details errors)) ≡ false
status_no_float job true (Some asked) = rw (entries_no_float job asked, stopped_no_float job, counts_no_float job.feeds) refl
status_no_float job false (Some asked) = rw (entries_no_float job asked, counts_no_float job.feeds) refl
status_no_float job true None = rw (stopped_no_float job, counts_no_float job.feeds) refl
status_no_float job false None = rw (counts_no_float job.feeds) refl
