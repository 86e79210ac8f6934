-- A turn's entry is made over the files.
use Rattle.std.specs.Prelude.{◌≡◌, ℕ, zero, suc, ◌+◌, ◌-◌, Bool, true, false, cond, List, [], ◌∷◌, ◌++◌, length, map, take, drop, refl, Some, None, is_some, if◌then◌else◌, ◌⊎◌}
use Rattle.std.specs.declared.option.Option.{Option}
use Rattle.std.proofs.Common.{sym, ap, subst, ◌∙◌, append_assoc, arith, inl, inr}
use Rattle.std.proofs.lemmas.Bool.{true≢false}
use Rattle.bl_value.specs.declared.log_code.LogCode.{LogCode}
use Rattle.bl_value.specs.declared.row.DigestRow.{DigestRow}
use Rattle.bl_files.specs.declared.feed.Feed.{Feed}
use Rattle.bl_files.specs.declared.feed_end.FeedEnd.{FeedEnd}
use Rattle.bl_files.specs.declared.feed_end.FeedEnd.TheVariants as end
use Rattle.bl_files.specs.declared.load_request.LoadRequest.{LoadRequest}
use Rattle.bl_files.specs.declared.log.Log.{Log}
use Rattle.bl_files.specs.declared.plan_result.PlanResult.{PlanResult}
use Rattle.bl_files.specs.declared.plan_result.PlanResult.TheVariants as plan
use Rattle.bl_graph.specs.Graph.{Graph}
use Rattle.bl_graph.specs.Admission.{admit}
use Rattle.bl_graph.specs.declared.verdict.Verdict.{Verdict}
use Rattle.bl_graph.specs.declared.verdict.Verdict.TheVariants.{Changes, Duplicate, Refused}
use Rattle.bl_job.specs.declared.batch_result.BatchResult.{BatchResult}
use Rattle.bl_job.specs.Batches.{Taken, batch, nothing_yet, row_log, so_far, take_rows, with_row, with_verdict}
use Rattle.bl_job.specs.Joined.{behind}
use Rattle.bl_job.proofs.Sound.{counts_batch}
use Rattle.bl_queue.specs.declared.job.Job.{Job}
use Rattle.bl_queue.specs.Runs.{feeds_of, goes_on_from}
use Rattle.bl_queue.proofs.ChangedJobs.{some_is}
use Rattle.bl_entry.specs.declared.entry.Entry.{Entry}
use Rattle.bl_world.specs.Makings.{IsRecordedAs, IsRowsEntry, digest_behind, next_moment}
use Rattle.bl_world.specs.Worlds.{AreNext, IsFirstOpen, World, lacks_previous}
use Rattle.bl_chain.specs.declared.batch_size.BatchSize.{BatchSize}
use Rattle.bl_chain.specs.Tables.{Table}
use Rattle.bl_chain.specs.BatchSizes.{is_full, no_rows, with_row as with_size}
use Rattle.bl_chain.specs.Turns.{IsBatchOf, IsEndMade, IsEndOf}
use Rattle.bl_chain.specs.Folders.{Folder, IsFolder}
use Rattle.bl_chain.specs.NextEntries.{IsDecidedEnd, IsEndTurn, IsFoundPlan, IsNextRows, IsRowsTurn, IsTurn, batch_from}
use Rattle.bl_chain.specs.MadeEntries.{IsMade, IsPlanMade}

-- ---- the rows before the one that stops

-- what is told of two takings but for where they stop
pub record IsAlike (a b : Taken) : Type 0 where
  pub graph : a.graph ≡ b.graph
  pub rows : a.result.rows ≡ b.result.rows
  pub duplicates : a.result.duplicates ≡ b.result.duplicates
  pub logs : a.result.logs ≡ b.result.logs
  pub changes : a.result.changes ≡ b.result.changes

alike : (a : Taken) → IsAlike a a
alike a = record { graph = refl; rows = refl; duplicates = refl; logs = refl; changes = refl }

-- where a row stops the batch nothing else changes
stopped_alike : (fail : Bool) (taken : Taken) (verdict : Verdict) (log : Log) → taken.result.stop ≡ None → (with_verdict fail taken verdict).result.stop ≡ Some log → IsAlike taken (with_verdict fail taken verdict)
stopped_alike fail taken (Changes changes) log none h = absurd (let e = sym none ∙ h in cc)
stopped_alike fail taken Duplicate log none h = absurd (let e = sym none ∙ h in cc)
stopped_alike true taken (Refused code column) log none h = record { graph = refl; rows = refl; duplicates = refl; logs = refl; changes = refl }
stopped_alike false taken (Refused code column) log none h = absurd (let e = sym none ∙ h in cc)

-- the front of the rows that is taken
pub record TakesFront (request : LoadRequest) (taken : Taken) (rows : List DigestRow) : Type 0 where
  pub front : List DigestRow
  pub rest : List DigestRow
  pub are : rows ≡ front ++ rest
  pub goes : (take_rows request taken front).result.stop ≡ None
  pub same : IsAlike (take_rows request taken front) (take_rows request taken rows)

first_taken : (request : LoadRequest) (taken : Taken) (row : DigestRow) (rows : List DigestRow) → taken.result.stop ≡ None → take_rows request taken (row ∷ rows) ≡ take_rows request (with_row request taken row.row) rows
first_taken request taken row rows none = ap (λ stop. if is_some stop then taken else take_rows request (with_row request taken row.row) rows) none

none_behind_stop : (request : LoadRequest) (taken : Taken) (rows : List DigestRow) (log : Log) → taken.result.stop ≡ Some log → take_rows request taken rows ≡ taken
none_behind_stop request taken [] log h = refl
none_behind_stop request taken (row ∷ rows) log h = ap (λ stop. if is_some stop then taken else take_rows request (with_row request taken row.row) rows) h

takes_front : (request : LoadRequest) (rows : List DigestRow) (taken : Taken) → taken.result.stop ≡ None → TakesFront request taken rows
takes_front request [] taken none = record { front = []; rest = []; are = refl; goes = none; same = alike taken }
takes_front request (row ∷ rows) taken none = by (with_row request taken row.row).result.stop refl (λ h. takes_front request rows (with_row request taken row.row) h) where
  by : (o : Option Log) → (with_row request taken row.row).result.stop ≡ o → ((with_row request taken row.row).result.stop ≡ None → TakesFront request (with_row request taken row.row) rows) → TakesFront request taken (row ∷ rows)
  by None is more =
      let rest : TakesFront request (with_row request taken row.row) rows = more is in
      record {
        front = row ∷ rest.front;
        rest = rest.rest;
        are = ap (λ l. row ∷ l) rest.are;
        goes = ap (λ (t : Taken). t.result.stop) (first_taken request taken row rest.front none) ∙ rest.goes;
        same = subst (λ t. IsAlike t (take_rows request taken (row ∷ rows))) (sym (first_taken request taken row rest.front none)) (subst (λ t. IsAlike (take_rows request (with_row request taken row.row) rest.front) t) (sym (first_taken request taken row rows none)) rest.same);
      }
  by (Some log) is more = record {
    front = [];
    rest = row ∷ rows;
    are = refl;
    goes = none;
    same = subst (λ t. IsAlike taken t) (sym (first_taken request taken row rows none ∙ none_behind_stop request (with_row request taken row.row) rows log is)) (stopped_alike request.fail_on_error taken (admit taken.graph request.update_single row.row) log none is);
  }

-- ---- the rows of a batch are a front of those that are left

pub batch_front : (size : BatchSize) (all : List DigestRow) (sizes : List ℕ) → (rest : List DigestRow) × (all ≡ batch_from size all sizes ++ rest)
batch_front size [] sizes = ([], refl)
batch_front size (row ∷ more) [] = (row ∷ more, refl)
batch_front size (row ∷ more) (bytes ∷ sizes) = by (is_full (with_size size row.row bytes)) (batch_front (with_size size row.row bytes) more sizes) where
  by : (b : Bool) → ((rest : List DigestRow) × (more ≡ batch_from (with_size size row.row bytes) more sizes ++ rest))
      → (rest : List DigestRow) × (row ∷ more ≡ (row ∷ cond b [] (batch_from (with_size size row.row bytes) more sizes)) ++ rest)
  by true tail = (more, refl)
  by false tail = (tail.0, ap (λ l. row ∷ l) tail.1)

take_front : (xs ys : List DigestRow) → take (length xs) (xs ++ ys) ≡ xs
take_front [] ys = refl
take_front (x ∷ xs) ys = ap (λ l. x ∷ l) (take_front xs ys)

abbrev is_refused : Verdict → Bool
is_refused (Changes changes) = false
is_refused Duplicate = false
is_refused (Refused code column) = true

-- where the first row isn't refused it is taken
front_first : (request : LoadRequest) (graph : Graph) (row : DigestRow) (more : List DigestRow) → (request.fail_on_error ≡ true → is_refused (admit graph request.update_single row.row) ≡ false) → (with_row request (so_far graph nothing_yet) row.row).result.stop ≡ None
front_first request graph row more first = by request.fail_on_error refl (admit graph request.update_single row.row) refl where
  by : (fail : Bool) → request.fail_on_error ≡ fail → (v : Verdict) → admit graph request.update_single row.row ≡ v → (with_verdict fail (so_far graph nothing_yet) v).result.stop ≡ None
  by fail fails (Changes changes) is = refl
  by fail fails Duplicate is = refl
  by true fails (Refused code column) is = absurd (true≢false (sym (ap is_refused is) ∙ first fails))
  by false fails (Refused code column) is = refl

-- the front that is taken has the first row
pub record FirstFront (request : LoadRequest) (graph : Graph) (row : DigestRow) (more : List DigestRow) : Type 0 where
  pub front : List DigestRow
  pub rest : List DigestRow
  pub are : row ∷ more ≡ (row ∷ front) ++ rest
  pub goes : (batch request graph (row ∷ front)).result.stop ≡ None
  pub same : IsAlike (batch request graph (row ∷ front)) (batch request graph (row ∷ more))

first_front : (request : LoadRequest) (graph : Graph) (row : DigestRow) (more : List DigestRow) → (request.fail_on_error ≡ true → is_refused (admit graph request.update_single row.row) ≡ false) → FirstFront request graph row more
first_front request graph row more first =
    let rest : TakesFront request (with_row request (so_far graph nothing_yet) row.row) more = takes_front request more (with_row request (so_far graph nothing_yet) row.row) (front_first request graph row more first) in
    record { front = rest.front; rest = rest.rest; are = ap (λ l. row ∷ l) rest.are; goes = rest.goes; same = rest.same }

-- ---- the first row is taken, or it stops the load

abbrev stopped_at : Graph → LogCode → ℕ → Taken
stopped_at graph code column = record { graph = graph; result = record nothing_yet { stop = Some (row_log 1 code column) } }

abbrev StopsFirst : LoadRequest → Graph → DigestRow → List DigestRow → Type 0
StopsFirst request graph row more = (code : LogCode) × (column : ℕ) × (admit graph request.update_single row.row ≡ Refused code column) × (batch request graph (row ∷ more) ≡ stopped_at graph code column)

first_row : (request : LoadRequest) (graph : Graph) (row : DigestRow) (more : List DigestRow) → FirstFront request graph row more ⊎ StopsFirst request graph row more
first_row request graph row more = by request.fail_on_error refl (admit graph request.update_single row.row) refl where
  by : (fail : Bool) → request.fail_on_error ≡ fail → (v : Verdict) → admit graph request.update_single row.row ≡ v → FirstFront request graph row more ⊎ StopsFirst request graph row more
  by fail fails (Changes changes) is = inl (first_front request graph row more (λ h. ap is_refused is))
  by fail fails Duplicate is = inl (first_front request graph row more (λ h. ap is_refused is))
  by true fails (Refused code column) is =
      let stops : with_row request (so_far graph nothing_yet) row.row ≡ stopped_at graph code column = λ i. with_verdict (fails i) (so_far graph nothing_yet) (is i) in
      inr (
        code,
        column,
        is,
        first_taken request (so_far graph nothing_yet) row more refl
            ∙ none_behind_stop request (with_row request (so_far graph nothing_yet) row.row) more (row_log 1 code column) (ap (λ (t : Taken). t.result.stop) stops)
            ∙ stops,
      )
  by false fails (Refused code column) is = inl (first_front request graph row more (λ h. absurd (true≢false (sym h ∙ fails))))

-- ---- what comes next is one thing

one_open : (feeds : List Feed) (place : ℕ) (a b : Feed) → IsFirstOpen feeds place a → IsFirstOpen feeds place b → a ≡ b
one_open [] place a b one two = absurd one
one_open (f ∷ feeds) zero a b one two = sym one.1 ∙ two.1
one_open (f ∷ feeds) (suc place) a b one two = one_open feeds place a b one.1 two.1

pub one_next : (jobs : List Job) (number place : ℕ) (it other : Job) (of also : Feed) → AreNext jobs number place it of → AreNext jobs number place other also → (it ≡ other) × (of ≡ also)
one_next jobs number place it other of also one two =
    let same : it ≡ other = some_is it other (sym one.0 ∙ two.0) in
    (same, one_open other.feeds (place - 1) of also (subst (λ x. IsFirstOpen x.feeds (place - 1) of) same one.3) two.3)

-- what holds of the job and the file that come next
of_next : (jobs : List Job) (number place : ℕ) (it : Job) (of : Feed) (P : Job → Feed → Type 0) → AreNext jobs number place it of → P it of → (other : Job) (also : Feed) → AreNext jobs number place other also → P other also
of_next jobs number place it of P next h other also too =
    let same = one_next jobs number place it other of also next too in
    subst (λ x. P x also) same.0 (subst (λ f. P it f) same.1 h)

-- ---- rows that are taken

module _ (tables : List Table) (request : LoadRequest) (graph : Graph) (of : Feed) (row : DigestRow) (more : List DigestRow) (next : IsNextRows tables of (row ∷ more)) where
  abbrev made : Taken
  made = batch request graph (row ∷ more)

  left : (rest : List DigestRow) × (drop of.taken next.0.rows ≡ (row ∷ more) ++ rest)
  left =
      let tail = batch_front no_rows (drop of.taken next.0.rows) (drop of.taken next.0.sizes) in
      (tail.0, tail.1 ∙ ap (λ l. l ++ tail.0) (sym next.2))

  count : (f : FirstFront request graph row more) → made.result.rows ≡ length (row ∷ f.front)
  count f = sym f.same.rows ∙ (counts_batch request graph (row ∷ f.front)).whole f.goes

  taken_batch : FirstFront request graph row more
      → IsBatchOf tables request graph of of.taken made.result.rows (digest_behind of.digest (take made.result.rows (row ∷ more))) made.result.duplicates (map (behind of.taken) made.result.logs) made.result.changes
  taken_batch f =
      let all : drop of.taken next.0.rows ≡ (row ∷ f.front) ++ (f.rest ++ left.0) = left.1 ∙ ap (λ l. l ++ left.0) f.are ∙ append_assoc (row ∷ f.front) f.rest left.0 in
      record {
        table = next.0;
        goes_on = next.1;
        row = row;
        more = f.front;
        rows_are = (λ i. take (count f i) (all i)) ∙ take_front (row ∷ f.front) (f.rest ++ left.0);
        rows_is = count f;
        unstopped = f.goes;
        digest_is = ap (λ l. digest_behind of.digest l) ((λ i. take (count f i) (f.are i)) ∙ take_front (row ∷ f.front) f.rest);
        duplicates_is = sym f.same.duplicates;
        logs_are = ap (λ l. map (behind of.taken) l) (sym f.same.logs);
        changes_are = sym f.same.changes;
      }

  stopped_end : (it : Job) → it.request ≡ request → StopsFirst request graph row more → (log : Log) → made.result.stop ≡ Some log → IsEndMade tables it graph of (end.Stopped (behind of.taken log))
  stopped_end it same stops log is =
      let one : row_log 1 stops.0 stops.1 ≡ log = some_log (row_log 1 stops.0 stops.1) log (sym (ap (λ (t : Taken). t.result.stop) stops.3) ∙ is) in (
        next.0,
        next.1,
        row,
        more ++ left.0,
        left.1,
        (λ i. admit graph (same i).update_single row.row) ∙ stops.2 ∙ ap (λ (l : Log). Refused l.code l.column) one,
        ap (λ (l : Log). of.taken + l.number) (sym one),
      )
    where
      some_log : (a b : Log) → Some a ≡ Some b → a ≡ b
      some_log a b h = cc

-- what holds of the told files of a source
of_told : (folder : Folder) → IsFolder folder → (source : List ℕ) (tables : List Table) (P : List Table → Type 0) → folder source tables → P tables → (others : List Table) → folder source others → P others
of_told folder is_folder source tables P told h others also = subst P (is_folder.one source tables others told also) h

-- a batch of those that are taken of these rows, made over these files
abbrev AreOver : Graph → Feed → List DigestRow → BatchResult → Job → Feed → List Table → Type 0
AreOver graph of rows result it also tables =
    IsBatchOf tables it.request graph also of.taken result.rows (digest_behind of.digest (take result.rows rows)) result.duplicates (map (behind of.taken) result.logs) result.changes

rows_made : (folder : Folder) → IsFolder folder → (before : World) (moment number place : ℕ) (it : Job) (of : Feed) (tables : List Table) → AreNext before.kept.jobs number place it of → folder it.request.source tables
    → (rows : List DigestRow) → IsNextRows tables of rows → (entry : Entry) → IsRowsEntry moment number place of rows (batch it.request before.graph rows).result entry → IsMade folder before entry
rows_made folder is_folder before moment number place it of tables next told [] is entry rows_is = absurd (is.3 refl)
rows_made folder is_folder before moment number place it of tables next told (row ∷ more) is entry rows_is = by (first_row it.request before.graph row more) rows_is where
  by : FirstFront it.request before.graph row more ⊎ StopsFirst it.request before.graph row more → IsRowsEntry moment number place of (row ∷ more) (batch it.request before.graph (row ∷ more)).result entry → IsMade folder before entry
  by (inl f) (inl is_batch) =
      subst (λ e. IsMade folder before e) (sym is_batch.1)
      (of_next before.kept.jobs number place it of (λ x y. (files : List Table) → folder x.request.source files → AreOver before.graph of (row ∷ more) (batch it.request before.graph (row ∷ more)).result x y files) next
      (of_told folder is_folder it.request.source tables (AreOver before.graph of (row ∷ more) (batch it.request before.graph (row ∷ more)).result it of) told (taken_batch tables it.request before.graph of row more is f)))
  by (inl f) (inr is_end) = absurd (let some = count tables it.request before.graph of row more is f in let none = is_end.0 in omega arith)
  by (inr stops) (inl is_batch) = absurd (is_batch.0 (ap (λ (t : Taken). t.result.rows) stops.3))
  by (inr stops) (inr is_end) =
      subst (λ e. IsMade folder before e) (sym is_end.3)
      (of_next before.kept.jobs number place it of (λ x y. (files : List Table) → folder x.request.source files → IsEndMade files x before.graph y (end.Stopped (behind of.taken is_end.1))) next
      (of_told folder is_folder it.request.source tables (λ files. IsEndMade files it before.graph of (end.Stopped (behind of.taken is_end.1))) told
      (stopped_end tables it.request before.graph of row more is it refl stops is_end.1 is_end.2)))

-- ---- a turn

plan_made : (folder : Folder) (before : World) (it : Job) (planned : PlanResult)
    → IsFoundPlan folder it.request.source (lacks_previous before.kept.jobs it) (feeds_of (goes_on_from before.kept.jobs it.number)) planned → IsPlanMade folder before it.number it planned
plan_made folder before it (plan.Feeds found) h = (h.1, h.2, h.4)
plan_made folder before it plan.NoPrevious h = tt
plan_made folder before it plan.SourceNotFound h = tt
plan_made folder before it plan.ListFault h = tt
plan_made folder before it (plan.TooManyFiles n) h = tt

recorded_made : (folder : Folder) (before : World) (it : Job) (planned recorded : PlanResult) → IsPlanMade folder before it.number it planned → IsRecordedAs before.kept.jobs it.number planned recorded → IsPlanMade folder before it.number it recorded
recorded_made folder before it planned recorded h (inl same) = subst (λ p. IsPlanMade folder before it.number it p) (sym same.1) h
recorded_made folder before it planned recorded h (inr many) = subst (λ p. IsPlanMade folder before it.number it p) (sym many.2) tt

end_made : (folder : Folder) → IsFolder folder → (it : Job) (graph : Graph) (of : Feed) (how : FeedEnd) → IsDecidedEnd folder it.request.source of how → (tables : List Table) → folder it.request.source tables → IsEndMade tables it graph of how
end_made folder is_folder it graph of end.Completed h tables told = of_told folder is_folder it.request.source h.0 (λ files. IsEndOf files of end.Completed) h.1 h.2 tables told
end_made folder is_folder it graph of end.Modified h tables told = h tables told
end_made folder is_folder it graph of end.ReadError h tables told = absurd h
end_made folder is_folder it graph of (end.Stopped log) h tables told = absurd h

pub turn_made : (folder : Folder) → IsFolder folder → (before : World) (now : ℕ) (entry : Entry) → IsTurn folder before now entry → IsMade folder before entry
turn_made folder is_folder before now entry (inl is) =
    let recorded : PlanResult = is.5.0 in
    subst (λ e. IsMade folder before e) (sym is.5.2) (λ other front.
    subst (λ x. IsPlanMade folder before is.0.number x recorded) (some_is is.0 other (sym is.1 ∙ front)) (recorded_made folder before is.0 is.3 recorded (plan_made folder before is.0 is.3 is.4) is.5.1))
turn_made folder is_folder before now entry (inr is) = by is.5 where
  by : IsEndTurn folder is.2.request.source is.0 is.1 is.3 before now entry ⊎ IsRowsTurn folder is.2.request.source is.0 is.1 is.3 before now entry → IsMade folder before entry
  by (inl ends) =
      subst (λ e. IsMade folder before e) (sym ends.2)
      (of_next before.kept.jobs is.0 is.1 is.2 is.3 (λ x y. (tables : List Table) → folder x.request.source tables → IsEndMade tables x before.graph y ends.0) is.4 (end_made folder is_folder is.2 before.graph is.3 ends.0 ends.1))
  by (inr goes) =
      let entry_of = goes.4 in
      let moved : folder entry_of.0.request.source goes.0 × IsNextRows goes.0 entry_of.1 goes.2 =
      of_next before.kept.jobs is.0 is.1 is.2 is.3 (λ x y. folder x.request.source goes.0 × IsNextRows goes.0 y goes.2) is.4 (goes.1, goes.3) entry_of.0 entry_of.1 entry_of.2 in
      rows_made folder is_folder before (next_moment now before) is.0 is.1 entry_of.0 entry_of.1 goes.0 entry_of.2 moved.0 goes.2 moved.1 entry entry_of.3
