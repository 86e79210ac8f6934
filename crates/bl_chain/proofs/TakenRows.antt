-- The next rows of a load are taken.
use Rattle.std.specs.Prelude.{◌≡◌, ℕ, zero, suc, ◌+◌, ◌-◌, ◌≤◌, min, false, List, [], ◌∷◌, ◌++◌, length, map, take, drop, refl, None}
use Rattle.std.proofs.Common.{sym, ap, ◌∙◌, arith, length-append, length-take, length-drop}
use Rattle.std.proofs.lemmas.Bool.{true≢false}
use Rattle.bl_outside.specs.declared.digest.Digest.{Digest}
use Rattle.bl_value.specs.declared.row.DigestRow.{DigestRow}
use Rattle.bl_files.specs.declared.feed.Feed.{Feed}
use Rattle.bl_files.specs.declared.load_request.LoadRequest.{LoadRequest}
use Rattle.bl_graph.specs.Graph.{Graph}
use Rattle.bl_job.specs.Batches.{Taken, batch}
use Rattle.bl_job.specs.Joined.{behind}
use Rattle.bl_queue.specs.Runs.{with_feed}
use Rattle.bl_queue.specs.Rows.{fed_feed, last_logs}
use Rattle.bl_files.specs.Statuses.{is_open}
use Rattle.bl_world.specs.Makings.{digest_behind}
use Rattle.bl_chain.specs.Frontiers.{IsNextAt, IsWhole}
use Rattle.bl_chain.specs.Loads.{Loaded, begun_with, lines, load_to, numbered, with_batch, with_lines}
use Rattle.bl_chain.specs.Tables.{Table}
use Rattle.bl_chain.proofs.Batches.{batch_part, two_parts}
use Rattle.bl_chain.proofs.FedFiles.{fed_dropped, zip_last, zip_with}
use Rattle.bl_chain.proofs.FedLoads.{AreFed, AreRun, IsFed}
use Rattle.bl_chain.proofs.KeptLogs.{bare_step, takens_kept}
use Rattle.bl_chain.proofs.Positions.{more_lines, more_shares}

pub numbered_length : (place before : ℕ) (rows : List DigestRow) → length (numbered place before rows) ≡ length rows
numbered_length place before [] = refl
numbered_length place before (row ∷ rows) = ap suc (numbered_length place (before + 1) rows)

-- ---- digests

pub digest_append : (digest : Digest) (rows more : List DigestRow) → digest_behind digest (rows ++ more) ≡ digest_behind (digest_behind digest rows) more
digest_append digest [] more = refl
digest_append digest (row ∷ rows) more = digest_append row.digest rows more

pub take_add : (t n : ℕ) (rows : List DigestRow) → take (t + n) rows ≡ take t rows ++ take n (drop t rows)
take_add zero n rows = ap (λ m. take m rows) (let e : 0 + n ≡ n = omega arith in e)
take_add (suc t) n [] = ap (λ m. take {A = DigestRow} m []) (let e : suc t + n ≡ suc (t + n) = omega arith in e) ∙ sym (take_none n) where
  take_none : (n : ℕ) → take {A = DigestRow} n [] ≡ []
  take_none zero = refl
  take_none (suc n) = refl
take_add (suc t) n (row ∷ rows) = ap (λ m. take m (row ∷ rows)) (let e : suc t + n ≡ suc (t + n) = omega arith in e) ∙ ap (λ l. row ∷ l) (take_add t n rows)

module _ (request : LoadRequest) (graph : Graph) (tables : List Table) (k place : ℕ) (feeds : List Feed) (table : Table) (feed : Feed) (row : DigestRow) (more : List DigestRow)
    (fed : AreFed tables (load_to request graph tables k) k feeds) (at : IsNextAt tables feeds place table feed) (own : IsFed table feed)
    (rows_are : take (length (row ∷ more)) (drop feed.taken table.rows) ≡ row ∷ more)
    (unstopped : (batch request (load_to request graph tables k).graph (row ∷ more)).result.stop ≡ None) where
  abbrev n : ℕ
  n = length (row ∷ more)

  abbrev so_far : Loaded
  so_far = load_to request graph tables k

  abbrev made : Taken
  made = batch request so_far.graph (row ∷ more)

  some : 1 ≤ n
  some = omega arith

  room : feed.taken + n ≤ length table.rows
  room =
      let all : length (take n (drop feed.taken table.rows)) ≡ n = ap length rows_are in
      let one : length (take n (drop feed.taken table.rows)) ≡ min n (length (drop feed.taken table.rows)) = length-take n (drop feed.taken table.rows) in
      let two : length (drop feed.taken table.rows) ≡ length table.rows - feed.taken = length-drop feed.taken table.rows in
      let least : 1 ≤ n = some in
      omega arith

  pub next_lines : take (k + n) (lines tables) ≡ take k (lines tables) ++ numbered place feed.taken (row ∷ more)
  next_lines =
      more_lines 0 k n place tables feeds table feed fed.shared at some room
      ∙ (λ i. take k (lines tables) ++ numbered ((let e : 0 + place ≡ place = omega arith in e) i) feed.taken (rows_are i))

  pub loads_on : load_to request graph tables (k + n) ≡ with_batch place feed.taken row more so_far made
  loads_on =
      ap (λ l. with_lines request (begun_with graph tables) l) next_lines
      ∙ two_parts request (begun_with graph tables) (take k (lines tables)) (numbered place feed.taken (row ∷ more))
      ∙ batch_part request so_far place feed.taken row more unstopped

  abbrev add : Feed → Feed
  add x = fed_feed n (digest_behind row.digest more) made.result.duplicates (map (behind feed.taken) made.result.logs) x

  added : IsFed table (add feed)
  added =
      let least : 1 ≤ n = some in
      record {
        name = own.name;
        kind = own.kind;
        enough = room;
        digest = sym (ap (λ l. digest_behind table.found.digest l) (take_add feed.taken n table.rows ∙ ap (λ l. take feed.taken table.rows ++ l) rows_are) ∙ digest_append table.found.digest (take feed.taken table.rows) (row ∷ more));
        fresh = λ none. absurd (omega arith);
        whole = λ done. absurd (true≢false (sym done));
      }

  fits : k + n ≤ length (lines tables)
  fits =
      let whole : length (take (k + n) (lines tables)) ≡ min (k + n) (length (lines tables)) = length-take (k + n) (lines tables) in
      let front : length (take k (lines tables)) ≡ min k (length (lines tables)) = length-take k (lines tables) in
      let both : length (take k (lines tables) ++ numbered place feed.taken (row ∷ more)) ≡ length (take k (lines tables)) + length (numbered place feed.taken (row ∷ more)) = length-append (take k (lines tables)) (numbered place feed.taken (row ∷ more)) in
      let same : length (take (k + n) (lines tables)) ≡ length (take k (lines tables) ++ numbered place feed.taken (row ∷ more)) = ap length next_lines in
      let rows : length (numbered place feed.taken (row ∷ more)) ≡ n = numbered_length place feed.taken (row ∷ more) in
      let within : k ≤ length (lines tables) = fed.within in
      omega arith

  pub fed_on : AreFed tables (with_batch place feed.taken row more so_far made) (k + n) (last_logs (with_feed place add feeds))
  fed_on = record {
    within = fits;
    counted = bare_step n (digest_behind row.digest more) made.result.duplicates (map (behind feed.taken) made.result.logs) place feeds so_far.feeds fed.counted;
    shared = takens_kept (with_feed place add feeds) ∙ more_shares k n place add tables feeds table feed fed.shared at some room (λ x. refl);
    each = zip_last IsFed fed_dropped tables (with_feed place add feeds) (zip_with IsFed add place table feed tables feeds at added fed.each);
  }

  pub run_on : AreRun tables feeds → AreRun tables (last_logs (with_feed place add feeds))
  run_on run =
      zip_last (λ s f. is_open f.status ≡ false → IsWhole s f) (λ s f m h. h) tables (with_feed place add feeds)
      (zip_with (λ s f. is_open f.status ≡ false → IsWhole s f) add place table feed tables feeds at (λ shut. absurd (true≢false shut)) run)
