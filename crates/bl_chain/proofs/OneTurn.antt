-- A turn has one entry at most.
use Rattle.std.specs.Prelude.{◌≡◌, ℕ, zero, suc, ◌+◌, ◌-◌, ◌<◌, Bool, true, List, [], ◌∷◌, length, drop, refl, Contains, Some, None, ◌⊎◌}
use Rattle.std.specs.declared.option.Option.{Option}
use Rattle.std.specs.List.{IsDistinct}
use Rattle.std.specs.List.Sorted.{IsStrictlySortedBy}
use Rattle.std.specs.Ordering.{nat_cmp}
use Rattle.std.specs.Cmp.Lexicographic.{slice_cmp}
use Rattle.std.proofs.Common.{sym, ap, subst, ◌∙◌, arith, inl, inr, get_or, length-drop}
use Rattle.std.proofs.lemmas.Bool.{true≢false}
use Rattle.std.proofs.lemmas.Cmp.{nat_list_cmp_total}
use Rattle.std.proofs.lemmas.List.{get_or-map, length-map}
use Rattle.std.proofs.lemmas.List.Elements.{All-contains}
use Rattle.std.proofs.lemmas.Map.Keys.{sorted_from_all_adjacent}
use Rattle.bl_value.specs.declared.row.DigestRow.{DigestRow}
use Rattle.bl_files.specs.declared.feed.Feed.{Feed}
use Rattle.bl_files.specs.declared.feed_end.FeedEnd.{FeedEnd}
use Rattle.bl_files.specs.declared.feed_end.FeedEnd.TheVariants as end
use Rattle.bl_files.specs.declared.found.Found.{Found}
use Rattle.bl_files.specs.declared.log.Log.{Log}
use Rattle.bl_files.specs.declared.plan_result.PlanResult.{PlanResult}
use Rattle.bl_files.specs.declared.plan_result.PlanResult.TheVariants as plan
use Rattle.bl_files.specs.Carried.{AreFeeds, DifferentNames, feed_names, found_names}
use Rattle.bl_files.specs.Plans.{NamesRise}
use Rattle.bl_files.proofs.Members.{first_member, later_member, member_cases, no_member}
use Rattle.bl_job.specs.declared.batch_result.BatchResult.{BatchResult}
use Rattle.bl_job.specs.Batches.{batch}
use Rattle.bl_queue.specs.declared.job.Job.{Job}
use Rattle.bl_queue.specs.Jobs.{AreJobs, Kept}
use Rattle.bl_queue.specs.Runs.{feeds_of, goes_on_from}
use Rattle.bl_queue.specs.Statuses.{is_to_start}
use Rattle.bl_queue.proofs.ChangedJobs.{front_in, some_is}
use Rattle.bl_entry.specs.declared.entry.Entry.{Entry}
use Rattle.bl_entry.specs.declared.entry.Entry.TheVariants.{Start, FeedEnd as End}
use Rattle.bl_world.specs.Makings.{IsRecordedAs, IsRowsEntry, RowsEntry, next_moment}
use Rattle.bl_world.specs.Worlds.{AreNext, IsFirstOpen, World, lacks_previous}
use Rattle.bl_world.proofs.OneWorld.{one_carried}
use Rattle.bl_world.proofs.SureWorlds.{have_jobs}
use Rattle.bl_chain.specs.Tables.{AreTables, Table}
use Rattle.bl_chain.specs.BatchSizes.{no_rows}
use Rattle.bl_chain.specs.Turns.{GoesOn, IsFoundAs, IsPlanOf}
use Rattle.bl_chain.specs.Folders.{AreTablesOf, Folder, IsFolder}
use Rattle.bl_chain.specs.NextEntries.{IsDecidedEnd, IsEndTurn, IsFileTurn, IsFoundPlan, IsNextRows, IsPlanTurn, IsRowsTurn, IsTurn, OneTurn, batch_from, next_batch}
use Rattle.bl_chain.proofs.CarriedFiles.{one_feed}
use Rattle.bl_chain.proofs.OneFolder.{folders}
use Rattle.bl_chain.proofs.OneOrder.{one_order}
use Rattle.bl_chain.proofs.StartedLoads.{older_in}
use Rattle.bl_chain.proofs.TurnEntries.{one_next}

-- ---- plans

found_of : Feed → Found
found_of feed = record { name = feed.name; kind = feed.kind; digest = feed.digest }

module _ (tables : List Table) (sound : AreTables tables) (previous : List Feed) (apart : DifferentNames (feed_names previous)) where
  one_as : (table : Table) (a b : Found) → IsFoundAs previous table a → IsFoundAs previous table b → a ≡ b
  unfolding found_of
  one_as table a b (inl x) (inl y) = x.4 ∙ ap found_of (one_feed previous apart x.0 y.0 x.1 y.1 (x.3 ∙ sym y.3)) ∙ sym y.4
  one_as table a b (inl x) (inr y) = absurd (y.0 (x.0, x.1, x.2, x.3))
  one_as table a b (inr x) (inl y) = absurd (x.0 (y.0, y.1, y.2, y.3))
  one_as table a b (inr x) (inr y) = x.1 ∙ sym y.1

  as_name : (table : Table) (file : Found) → IsFoundAs previous table file → file.name ≡ table.found.name
  as_name table file (inl old) = ap (λ (f : Found). f.name) old.4 ∙ old.3
  as_name table file (inr new) = ap (λ (f : Found). f.name) new.1

  -- two plans say the same of a name
  one_name : (found other : List Found) → IsPlanOf tables previous found → IsPlanOf tables previous other → (a b : Found) → Contains found a → Contains other b → a.name ≡ b.name → a ≡ b
  one_name found other one two a b here there same =
      let x = one.each a here in
      let y = two.each b there in
      let table : x.0 ≡ y.0 = sound.apart x.0 y.0 x.1 y.1 (sym (as_name x.0 a x.2) ∙ same ∙ as_name y.0 b y.2) in
      one_as y.0 a b (subst (λ t. IsFoundAs previous t a) table x.2) y.2

  named : (found : List Found) (name : List ℕ) → Contains (found_names found) name → (file : Found) × Contains found file × (file.name ≡ name)
  named [] name h = no_member name h
  named (file ∷ found) name h =
      elim (member_cases file.name (found_names found) name h) [
        | inl same ↦ (file, first_member file found, same)
        | inr later ↦ (let rest = named found name later in (rest.0, later_member file found rest.0 rest.1, rest.2))
      ]

  has_name : (found : List Found) (file : Found) → Contains found file → Contains (found_names found) file.name
  has_name [] file h = no_member file h
  has_name (f ∷ found) file h =
      elim (member_cases f found file h) [
        | inl same ↦ subst (λ (x : Found). Contains (found_names (f ∷ found)) x.name) same (first_member f.name (found_names found))
        | inr later ↦ later_member f.name (found_names found) file.name (has_name found file later)
      ]

  names_in : (found other : List Found) → IsPlanOf tables previous found → IsPlanOf tables previous other → (name : List ℕ) → Contains (found_names found) name → Contains (found_names other) name
  names_in found other one two name h =
      let file = named found name h in
      let table = one.each file.0 file.1 in
      let also = two.all table.0 table.1 in
      subst (λ n. Contains (found_names other) n) (as_name table.0 also.0 also.2 ∙ sym (as_name table.0 file.0 table.2) ∙ file.2) (has_name other also.0 also.1)

  rising : (found : List Found) → NamesRise found → IsStrictlySortedBy (slice_cmp nat_cmp) (found_names found)
  unfolding IsStrictlySortedBy
  rising [] up = tt
  rising (file ∷ found) up =
      sorted_from_all_adjacent nat_list_cmp_total (found_names (file ∷ found)) file.name (λ k within.
      let all : k + 1 < length (file ∷ found) = subst (λ n. k + 1 < n) (length-map (file ∷ found) (λ (f : Found). f.name)) within in
      ap (λ n. slice_cmp nat_cmp n (get_or (found_names (file ∷ found)) (k + 1) file.name)) (get_or-map (λ (f : Found). f.name) (file ∷ found) k file file.name (omega arith))
      ∙ ap (λ n. slice_cmp nat_cmp (get_or (file ∷ found) k file).name n) (get_or-map (λ (f : Found). f.name) (file ∷ found) (k + 1) file file.name all)
      ∙ up k file all)

  same_files : (found other : List Found) → ((a b : Found) → Contains found a → Contains other b → a.name ≡ b.name → a ≡ b) → found_names found ≡ found_names other → found ≡ other
  same_files [] [] one names = refl
  same_files [] (b ∷ other) one names = absurd (cc)
  same_files (a ∷ found) [] one names = absurd (cc)
  same_files (a ∷ found) (b ∷ other) one names =
      let first : a.name ≡ b.name = cc in
      let rest : found_names found ≡ found_names other = cc in
      λ i. one a b (first_member a found) (first_member b other) first i ∷ same_files found other (λ x y h k. one x y (later_member a found x h) (later_member b other y k)) rest i

  one_found : (found other : List Found) → IsPlanOf tables previous found → IsPlanOf tables previous other → NamesRise found → NamesRise other → found ≡ other
  one_found found other one two up up2 =
      same_files found other (one_name found other one two)
      (one_order (slice_cmp nat_cmp) nat_list_cmp_total (found_names found) (found_names other) (rising found up) (rising other up2) (names_in found other one two) (names_in other found two one))

module _ (folder : Folder) (is_folder : IsFolder folder) (source : List ℕ) (no_previous : Bool) (previous : List Feed) (apart : DifferentNames (feed_names previous)) where
  one_plan : (a b : PlanResult) → IsFoundPlan folder source no_previous previous a → IsFoundPlan folder source no_previous previous b → a ≡ b
  one_plan plan.NoPrevious plan.NoPrevious x y = refl
  one_plan plan.NoPrevious plan.SourceNotFound x y = absurd (true≢false (sym x ∙ y.0))
  one_plan plan.NoPrevious (plan.TooManyFiles n) x y = absurd (true≢false (sym x ∙ y.0))
  one_plan plan.NoPrevious (plan.Feeds found) x y = absurd (true≢false (sym x ∙ y.0))
  one_plan plan.NoPrevious plan.ListFault x y = absurd y
  one_plan plan.SourceNotFound plan.NoPrevious x y = absurd (true≢false (sym y ∙ x.0))
  one_plan plan.SourceNotFound plan.SourceNotFound x y = refl
  one_plan plan.SourceNotFound (plan.TooManyFiles n) x y = absurd (x.1 y.1 y.2)
  one_plan plan.SourceNotFound (plan.Feeds found) x y = absurd (x.1 y.1 y.2)
  one_plan plan.SourceNotFound plan.ListFault x y = absurd y
  one_plan (plan.TooManyFiles n) plan.NoPrevious x y = absurd (true≢false (sym y ∙ x.0))
  one_plan (plan.TooManyFiles n) plan.SourceNotFound x y = absurd (y.1 x.1 x.2)
  one_plan (plan.TooManyFiles n) (plan.TooManyFiles m) x y = ap plan.TooManyFiles (x.4 ∙ ap (λ (l : List Table). length l) (is_folder.one source x.1 y.1 x.2 y.2) ∙ sym y.4)
  one_plan (plan.TooManyFiles n) (plan.Feeds found) x y =
      let same : length x.1 ≡ length y.1 = ap (λ (l : List Table). length l) (is_folder.one source x.1 y.1 x.2 y.2) in
      absurd (omega (arith, same, x.3, y.3))
  one_plan (plan.TooManyFiles n) plan.ListFault x y = absurd y
  one_plan (plan.Feeds found) plan.NoPrevious x y = absurd (true≢false (sym y ∙ x.0))
  one_plan (plan.Feeds found) plan.SourceNotFound x y = absurd (y.1 x.1 x.2)
  one_plan (plan.Feeds found) (plan.TooManyFiles n) x y =
      let same : length x.1 ≡ length y.1 = ap (λ (l : List Table). length l) (is_folder.one source x.1 y.1 x.2 y.2) in
      absurd (omega (arith, same, x.3, y.3))
  one_plan (plan.Feeds found) (plan.Feeds other) x y =
      let same : x.1 ≡ y.1 = is_folder.one source x.1 y.1 x.2 y.2 in
      ap plan.Feeds (one_found y.1 (is_folder.sound source y.1 y.2) previous apart found other (subst (λ t. IsPlanOf t previous found) same x.4) y.4 x.5 y.5)
  one_plan (plan.Feeds found) plan.ListFault x y = absurd y
  one_plan plan.ListFault b x y = absurd x

one_record : (jobs : List Job) (number : ℕ) (planned a b : PlanResult) → IsRecordedAs jobs number planned a → IsRecordedAs jobs number planned b → a ≡ b
one_record jobs number planned a b (inl x) (inl y) = x.1 ∙ sym y.1
one_record jobs number (plan.Feeds found) a b (inl x) (inr y) =
    let same : length x.0.0 ≡ length y.1.0.0 = ap (λ (l : List Feed). length l) (one_carried (feeds_of (goes_on_from jobs number)) found x.0.0 y.1.0.0 x.0.1 y.1.0.1) in
    absurd (omega (arith, same, x.0.2, y.1.0.2, y.1.1))
one_record jobs number plan.NoPrevious a b (inl x) (inr y) = absurd y.1
one_record jobs number plan.SourceNotFound a b (inl x) (inr y) = absurd y.1
one_record jobs number plan.ListFault a b (inl x) (inr y) = absurd y.1
one_record jobs number (plan.TooManyFiles n) a b (inl x) (inr y) = absurd y.1
one_record jobs number (plan.Feeds found) a b (inr x) (inl y) =
    let same : length y.0.0 ≡ length x.1.0.0 = ap (λ (l : List Feed). length l) (one_carried (feeds_of (goes_on_from jobs number)) found y.0.0 x.1.0.0 y.0.1 x.1.0.1) in
    absurd (omega (arith, same, y.0.2, x.1.0.2, x.1.1))
one_record jobs number plan.NoPrevious a b (inr x) (inl y) = absurd x.1
one_record jobs number plan.SourceNotFound a b (inr x) (inl y) = absurd x.1
one_record jobs number plan.ListFault a b (inr x) (inl y) = absurd x.1
one_record jobs number (plan.TooManyFiles n) a b (inr x) (inl y) = absurd x.1
one_record jobs number (plan.Feeds found) a b (inr x) (inr y) =
    let same : length x.1.0.0 ≡ length y.1.0.0 = ap (λ (l : List Feed). length l) (one_carried (feeds_of (goes_on_from jobs number)) found x.1.0.0 y.1.0.0 x.1.0.1 y.1.0.1) in
    x.2 ∙ ap plan.TooManyFiles (sym x.1.0.2 ∙ same ∙ y.1.0.2) ∙ sym y.2
one_record jobs number plan.NoPrevious a b (inr x) (inr y) = absurd x.1
one_record jobs number plan.SourceNotFound a b (inr x) (inr y) = absurd x.1
one_record jobs number plan.ListFault a b (inr x) (inr y) = absurd x.1
one_record jobs number (plan.TooManyFiles n) a b (inr x) (inr y) = absurd x.1

-- ---- a file

one_place : (feeds : List Feed) (p q : ℕ) (a b : Feed) → IsFirstOpen feeds p a → IsFirstOpen feeds q b → p ≡ q
one_place [] p q a b x y = absurd x
one_place (f ∷ feeds) zero zero a b x y = refl
one_place (f ∷ feeds) zero (suc q) a b x y = absurd (true≢false (sym x.0 ∙ y.0))
one_place (f ∷ feeds) (suc p) zero a b x y = absurd (true≢false (sym y.0 ∙ x.0))
one_place (f ∷ feeds) (suc p) (suc q) a b x y = ap suc (one_place feeds p q a b x.1 y.1)

module _ (folder : Folder) (is_folder : IsFolder folder) (source : List ℕ) (of : Feed) where
  one_table : (tables : List Table) → folder source tables → (a b : Table) → GoesOn tables of a → GoesOn tables of b → a ≡ b
  one_table tables told a b x y = (is_folder.sound source tables told).apart a b x.there y.there (x.name ∙ sym y.name)

  one_end : (a b : FeedEnd) → IsDecidedEnd folder source of a → IsDecidedEnd folder source of b → a ≡ b
  one_end end.Completed end.Completed is also = refl
  one_end end.Completed end.Modified is also = absurd (also is.0 is.1 is.2.0 is.2.1)
  one_end end.Completed end.ReadError is also = absurd also
  one_end end.Completed (end.Stopped log) is also = absurd also
  one_end end.Modified end.Completed is also = absurd (is also.0 also.1 also.2.0 also.2.1)
  one_end end.Modified end.Modified is also = refl
  one_end end.Modified end.ReadError is also = absurd also
  one_end end.Modified (end.Stopped log) is also = absurd also
  one_end end.ReadError b is also = absurd is
  one_end (end.Stopped log) b is also = absurd is

  -- a file whose records are all taken has no next ones
  none_left : (rows : List DigestRow) (sizes : List ℕ) → length rows ≡ 0 → batch_from no_rows rows sizes ≡ []
  none_left [] sizes h = refl
  none_left (row ∷ rows) sizes h = absurd (omega (arith, h))

  not_ended : {P : Type 0} (how : FeedEnd) (tables : List Table) (rows : List DigestRow) → IsDecidedEnd folder source of how → folder source tables → IsNextRows tables of rows → P
  not_ended end.Completed tables rows is told next =
      let goes : GoesOn tables of is.2.0 = subst (λ t. GoesOn t of is.2.0) (is_folder.one source is.0 tables is.1 told) is.2.1 in
      let same : is.2.0 ≡ next.0 = one_table tables told is.2.0 next.0 goes next.1 in
      let whole : of.taken ≡ length next.0.rows = is.2.2 ∙ ap (λ (t : Table). length t.rows) same in
      let left : length (drop of.taken next.0.rows) ≡ length next.0.rows - of.taken = length-drop of.taken next.0.rows in
      absurd (next.3 (next.2 ∙ none_left (drop of.taken next.0.rows) (drop of.taken next.0.sizes) (omega arith)))
  not_ended end.Modified tables rows is told next = absurd (is tables told next.0 next.1)
  not_ended end.ReadError tables rows is told next = absurd is
  not_ended (end.Stopped log) tables rows is told next = absurd is

  one_rows : (one two : List Table) (a b : List DigestRow) → folder source one → folder source two → IsNextRows one of a → IsNextRows two of b → a ≡ b
  one_rows one two a b told also x y =
      let goes : GoesOn two of x.0 = subst (λ t. GoesOn t of x.0) (is_folder.one source one two told also) x.1 in
      x.2 ∙ ap (λ (t : Table). next_batch t of.taken) (one_table two also x.0 y.0 goes y.1) ∙ sym y.2

some_log : (a b : Log) → Some a ≡ Some b → a ≡ b
some_log a b h = cc

one_rows_entry : (moment number place : ℕ) (of : Feed) (rows : List DigestRow) (made : BatchResult) (a b : Entry) → IsRowsEntry moment number place of rows made a → IsRowsEntry moment number place of rows made b → a ≡ b
one_rows_entry moment number place of rows made a b (inl x) (inl y) = x.1 ∙ sym y.1
one_rows_entry moment number place of rows made a b (inl x) (inr y) = absurd (x.0 y.0)
one_rows_entry moment number place of rows made a b (inr x) (inl y) = absurd (y.0 x.0)
one_rows_entry moment number place of rows made a b (inr x) (inr y) =
    let same : x.1 ≡ y.1 = some_log x.1 y.1 (sym x.2 ∙ y.2) in
    x.3 ∙ ap (λ (log : Log). End moment number place (end.Stopped (record log { number = of.taken + log.number }))) same ∙ sym y.3

-- ---- turns

apart_in : (kept : Kept) → AreJobs kept → (number : ℕ) → DifferentNames (feed_names (feeds_of (goes_on_from kept.jobs number)))
unfolding IsDistinct
apart_in kept are number = by (goes_on_from kept.jobs number) refl where
  by : (o : Option Job) → goes_on_from kept.jobs number ≡ o → DifferentNames (feed_names (feeds_of o))
  by None is = tt
  by (Some older) is = (All-contains (λ (x : Job). AreFeeds x.feeds) kept.jobs older are.feeds (older_in kept.jobs number older is)).names

module _ (folder : Folder) (is_folder : IsFolder folder) (before : World) (are : AreJobs before.kept) (now : ℕ) where
  abbrev Planned : Job → Entry → Type 0
  Planned it entry =
      (planned : PlanResult)
      × IsFoundPlan folder it.request.source (lacks_previous before.kept.jobs it) (feeds_of (goes_on_from before.kept.jobs it.number)) planned
      × (recorded : PlanResult)
      × IsRecordedAs before.kept.jobs it.number planned recorded
      × (entry ≡ Start (next_moment now before) it.number recorded)

  one_planned : (it : Job) (a b : Entry) → Planned it a → Planned it b → a ≡ b
  one_planned it a b x y =
      let same : x.0 ≡ y.0 = one_plan folder is_folder it.request.source (lacks_previous before.kept.jobs it) (feeds_of (goes_on_from before.kept.jobs it.number)) (apart_in before.kept are it.number) x.0 y.0 x.1 y.1 in
      let recorded : x.2 ≡ y.2 = one_record before.kept.jobs it.number y.0 x.2 y.2 (subst (λ p. IsRecordedAs before.kept.jobs it.number p x.2) same x.3) y.3 in
      x.4 ∙ ap (λ p. Start (next_moment now before) it.number p) recorded ∙ sym y.4

  abbrev Going : List ℕ → ℕ → ℕ → Feed → Entry → Type 0
  Going source number place of entry = IsEndTurn folder source number place of before now entry ⊎ IsRowsTurn folder source number place of before now entry

  abbrev Rows : ℕ → ℕ → Job → Feed → List DigestRow → Entry → Type 0
  Rows number place it of rows entry = IsRowsEntry (next_moment now before) number place of rows (batch it.request before.graph rows).result entry

  one_taken : (number place : ℕ) (rows : List DigestRow) (a b : Entry) → RowsEntry number place rows now before a → RowsEntry number place rows now before b → a ≡ b
  one_taken number place rows a b x y =
      let same = one_next before.kept.jobs number place x.0 y.0 x.1 y.1 x.2 y.2 in
      one_rows_entry (next_moment now before) number place y.1 rows (batch y.0.request before.graph rows).result a b
      (subst (λ it. Rows number place it y.1 rows a) same.0 (subst (λ of. Rows number place x.0 of rows a) same.1 x.3)) y.3

  one_going : (source : List ℕ) (number place : ℕ) (of : Feed) (a b : Entry) → Going source number place of a → Going source number place of b → a ≡ b
  one_going source number place of a b (inl x) (inl y) = x.2 ∙ ap (λ how. End (next_moment now before) number place how) (one_end folder is_folder source of x.0 y.0 x.1 y.1) ∙ sym y.2
  one_going source number place of a b (inl x) (inr y) = not_ended folder is_folder source of x.0 y.0 y.2 x.1 y.1 y.3
  one_going source number place of a b (inr x) (inl y) = not_ended folder is_folder source of y.0 x.0 x.2 y.1 x.1 x.3
  one_going source number place of a b (inr x) (inr y) =
      one_taken number place y.2 a b (subst (λ rows. RowsEntry number place rows now before a) (one_rows folder is_folder source of x.0 y.0 x.2 y.2 x.1 y.1 x.3 y.3) x.4) y.4

  one_file : (a b : Entry) → IsFileTurn folder before now a → IsFileTurn folder before now b → a ≡ b
  one_file a b x y =
      let it : x.2 ≡ y.2 = some_is x.2 y.2 (sym x.4.0 ∙ y.4.0) in
      let number : x.0 ≡ y.0 = sym x.4.1 ∙ ap (λ (j : Job). j.number) it ∙ y.4.1 in
      let places : x.1 - 1 ≡ y.1 - 1 = one_place y.2.feeds (x.1 - 1) (y.1 - 1) x.3 y.3 (subst (λ (j : Job). IsFirstOpen j.feeds (x.1 - 1) x.3) it x.4.3) y.4.3 in
      let place : x.1 ≡ y.1 = omega (arith, places, x.4.2, y.4.2) in
      let next : AreNext before.kept.jobs y.0 y.1 x.2 x.3 = subst (λ p. AreNext before.kept.jobs y.0 p x.2 x.3) place (subst (λ n. AreNext before.kept.jobs n x.1 x.2 x.3) number x.4) in
      let of : x.3 ≡ y.3 = (one_next before.kept.jobs y.0 y.1 x.2 y.2 x.3 y.3 next y.4).1 in
      one_going y.2.request.source y.0 y.1 y.3 a b
      (subst (λ (j : Job). Going j.request.source y.0 y.1 y.3 a) it (subst (λ f. Going x.2.request.source y.0 y.1 f a) of (subst (λ p. Going x.2.request.source y.0 p x.3 a) place (subst (λ n. Going x.2.request.source n x.1 x.3 a) number x.5)))) y.5

  -- a job that isn't started has no files
  apart_turns : {P : Type 0} (a b : Entry) → IsPlanTurn folder before now a → IsFileTurn folder before now b → P
  apart_turns a b x y =
      let it : x.0 ≡ y.2 = some_is x.0 y.2 (sym x.1 ∙ y.4.0) in
      let none : y.2.feeds ≡ [] = All-contains (λ (j : Job). is_to_start j.status ≡ true → j.feeds ≡ []) before.kept.jobs y.2 are.fresh (front_in before.kept.jobs y.2 y.4.0).0 (ap (λ (j : Job). is_to_start j.status) (sym it) ∙ x.2) in
      absurd (subst (λ feeds. IsFirstOpen feeds (y.1 - 1) y.3) none y.4.3)

  one_entry : (a b : Entry) → IsTurn folder before now a → IsTurn folder before now b → a ≡ b
  one_entry a b (inl x) (inl y) =
      one_planned y.0 a b (subst (λ it. Planned it a) (some_is x.0 y.0 (sym x.1 ∙ y.1)) (x.3, x.4, x.5.0, x.5.1, x.5.2)) (y.3, y.4, y.5.0, y.5.1, y.5.2)
  one_entry a b (inl x) (inr y) = apart_turns a b x y
  one_entry a b (inr x) (inl y) = apart_turns b a y x
  one_entry a b (inr x) (inr y) = one_file a b x y

pub one_turn : OneTurn
one_turn files entries before now a b is x y = one_entry (AreTablesOf files) (folders files) before (have_jobs entries before is) now a b x y
