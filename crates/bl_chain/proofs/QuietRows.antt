-- Lines of which none is refused.
use Rattle.std.specs.Prelude.{◌≡◌, ℕ, ◌+◌, Bool, true, false, ◌||◌, List, [], ◌∷◌, ◌++◌, None, refl, nat_lt}
use Rattle.std.specs.declared.option.Option.{Option}
use Rattle.std.specs.List.{AllZip, list_any}
use Rattle.std.proofs.Common.{sym, ap, subst, ◌∙◌}
use Rattle.std.proofs.lemmas.Bool.{true≢false}
use Rattle.bl_value.specs.declared.row.DigestRow.{DigestRow}
use Rattle.bl_files.specs.declared.feed.Feed.{Feed}
use Rattle.bl_files.specs.declared.feed_kind.FeedKind.{FeedKind}
use Rattle.bl_files.specs.declared.feed_kind.FeedKind.TheVariants as kind
use Rattle.bl_files.specs.declared.load_request.LoadRequest.{LoadRequest}
use Rattle.bl_files.specs.Carried.{EndsRefused, first_status, is_kept}
use Rattle.bl_graph.specs.Graph.{Graph}
use Rattle.bl_graph.specs.Admission.{admit}
use Rattle.bl_graph.specs.declared.verdict.Verdict.{Verdict}
use Rattle.bl_graph.specs.declared.verdict.Verdict.TheVariants.{Changes, Duplicate, Refused}
use Rattle.bl_job.specs.Batches.{Taken, batch, nothing_yet, so_far, with_verdict as taken_with}
use Rattle.bl_job.specs.Joined.{one_then_other}
use Rattle.bl_job.proofs.TwoBatches.{two_batches}
use Rattle.bl_files.specs.Statuses.{is_completed, is_failed}
use Rattle.bl_chain.specs.Loads.{Line, Loaded, numbered, with_line, with_lines, with_verdict}
use Rattle.bl_chain.specs.Stops.{Stop, stop_by, stop_in}
use Rattle.bl_chain.specs.Tables.{Table, any_unread, is_unread}
use Rattle.bl_chain.proofs.Batches.{goes_so_far, none_behind, one_line}

-- the lines, and then more
pub stop_append : (request : LoadRequest) (loaded : Loaded) (first second : List Line) → stop_in request loaded first ≡ None → stop_in request loaded (first ++ second) ≡ stop_in request (with_lines request loaded first) second
stop_append request loaded [] second none = refl
stop_append request loaded (line ∷ first) second none = by (admit loaded.graph request.update_single line.row.row) none (stop_append request (with_line request loaded line) first second) where
  by : (v : Verdict) → stop_by line v (stop_in request (with_line request loaded line) first) ≡ None
      → (stop_in request (with_line request loaded line) first ≡ None → stop_in request (with_line request loaded line) (first ++ second) ≡ stop_in request (with_lines request loaded (line ∷ first)) second)
      → stop_by line v (stop_in request (with_line request loaded line) (first ++ second)) ≡ stop_in request (with_lines request loaded (line ∷ first)) second
  by (Changes changes) none rest = rest none
  by Duplicate none rest = rest none
  by (Refused code column) none rest = absurd (cc)

-- the options alone count
pub same_stop : (a b : LoadRequest) → a.update_single ≡ b.update_single → (loaded : Loaded) (all : List Line) → stop_in a loaded all ≡ stop_in b loaded all
same_stop a b same loaded [] = refl
same_stop a b same loaded (line ∷ all) =
    (λ i. stop_by line (admit loaded.graph (same i) line.row.row) (stop_in a (with_verdict loaded line (admit loaded.graph (same i) line.row.row)) all))
    ∙ ap (λ o. stop_by line (admit loaded.graph b.update_single line.row.row) o) (same_stop a b same (with_line b loaded line) all)

one_quiet : (request : LoadRequest) (graph : Graph) (line : Line) (later : Option Stop) → request.fail_on_error ≡ true → (v : Verdict) → (taken_with request.fail_on_error (so_far graph nothing_yet) v).result.stop ≡ None → stop_by line v later ≡ later
one_quiet request graph line later fail (Changes changes) goes = refl
one_quiet request graph line later fail Duplicate goes = refl
one_quiet request graph line later fail (Refused code column) goes = absurd (let e = ap (λ b. (taken_with b (so_far graph nothing_yet) (Refused code column)).result.stop) (sym fail) ∙ goes in cc)

-- a batch that isn't stopped has no refused row
pub batch_quiet : (request : LoadRequest) → request.fail_on_error ≡ true → (loaded : Loaded) (place before : ℕ) (row : DigestRow) (rows : List DigestRow) → (batch request loaded.graph (row ∷ rows)).result.stop ≡ None → stop_in request loaded (numbered place before (row ∷ rows)) ≡ None
batch_quiet request fail loaded place before row [] goes = one_quiet request loaded.graph (record { place = place; number = before + 1; row = row }) None fail (admit loaded.graph request.update_single row.row) goes
batch_quiet request fail loaded place before row (next ∷ rows) goes =
    let first : Taken = batch request loaded.graph (row ∷ []) in
    let line : Line = record { place = place; number = before + 1; row = row } in
    let went : first.result.stop ≡ None = goes_so_far request first next rows goes in
    let whole : batch request loaded.graph (row ∷ (next ∷ rows)) ≡ one_then_other request first (next ∷ rows) = two_batches request loaded.graph (row ∷ []) (next ∷ rows) went in
    let going : (batch request first.graph (next ∷ rows)).result.stop ≡ None = none_behind first.result.rows (batch request first.graph (next ∷ rows)).result.stop (sym (ap (λ (t : Taken). t.result.stop) whole) ∙ goes) in
    let now : Loaded = with_line request loaded line in
    let same : first.graph ≡ now.graph = ap (λ (l : Loaded). l.graph) (sym (one_line request.fail_on_error loaded place before row (admit loaded.graph request.update_single row.row) went)) in
    one_quiet request loaded.graph line (stop_in request now (numbered place (before + 1) (next ∷ rows))) fail (admit loaded.graph request.update_single row.row) went
    ∙ batch_quiet request fail now place (before + 1) next rows (subst (λ g. (batch request g (next ∷ rows)).result.stop ≡ None) same going)

-- ---- a file that isn't read has failed

or_parts : (a b : Bool) → (a || b) ≡ false → (a ≡ false) × (b ≡ false)
or_parts true b h = absurd (true≢false h)
or_parts false b h = (refl, h)

false_by : (a b : Bool) → (a ≡ true → b ≡ true) → b ≡ false → a ≡ false
false_by true b step h = absurd (true≢false (sym (step refl) ∙ h))
false_by false b step h = refl

abbrev pub HaveFailed : List Table → List Feed → Type 0
HaveFailed tables feeds = AllZip (λ table feed. is_unread table.found.kind ≡ true → is_failed feed.status ≡ true) tables feeds

pub none_failed : (tables : List Table) (feeds : List Feed) → HaveFailed tables feeds → list_any (λ (f : Feed). is_failed f.status) feeds ≡ false → any_unread tables ≡ false
none_failed [] [] zip h = refl
none_failed [] (f ∷ feeds) zip h = absurd zip
none_failed (s ∷ tables) [] zip h = absurd zip
none_failed (s ∷ tables) (f ∷ feeds) zip h =
    let both = or_parts (is_failed f.status) (list_any (λ (x : Feed). is_failed x.status) feeds) h in
    ap (λ b. b || any_unread tables) (false_by (is_unread s.found.kind) (is_failed f.status) zip.0 both.0) ∙ none_failed tables feeds zip.1 both.1

pub new_failed : (k : FeedKind) → is_unread k ≡ true → is_failed (first_status k) ≡ true
new_failed kind.Vertex h = absurd (true≢false (sym h))
new_failed kind.Edge h = absurd (true≢false (sym h))
new_failed (kind.Refused code column) h = refl

-- a file that wasn't read isn't kept
pub unread_unkept : (k : FeedKind) (feed : Feed) → is_unread k ≡ true → EndsRefused k feed → is_kept feed ≡ false
unread_unkept kind.Vertex feed h ends = absurd (true≢false (sym h))
unread_unkept kind.Edge feed h ends = absurd (true≢false (sym h))
unread_unkept (kind.Refused code column) feed h ends = λ i. is_completed (ends.0 i) || nat_lt 0 (ends.1 i)
