-- The files of a load beside their tables.
use Rattle.std.specs.Prelude.{◌≡◌, ℕ, zero, suc, true, false, ◌||◌, List, [], ◌∷◌, map, drop, refl, Contains}
use Rattle.std.specs.List.{AllZip, list_any, list_all}
use Rattle.std.proofs.Common.{sym, ap, subst, ◌∙◌}
use Rattle.std.proofs.lemmas.Bool.{true≢false, cond_both, or_right}
use Rattle.bl_files.specs.declared.feed.Feed.{Feed}
use Rattle.bl_files.specs.declared.feed_end.FeedEnd.{FeedEnd}
use Rattle.bl_files.specs.declared.feed_status.FeedStatus.{FeedStatus}
use Rattle.bl_files.specs.declared.log.Log.{Log}
use Rattle.bl_files.specs.Carried.{new_feed}
use Rattle.bl_files.proofs.Members.{first_member, later_member}
use Rattle.bl_queue.specs.declared.job.Job.{Job}
use Rattle.bl_queue.specs.declared.job_status.JobStatus.TheVariants.{Completed, Failed}
use Rattle.bl_queue.specs.Statuses.{is_in_progress, is_to_start}
use Rattle.bl_queue.specs.Jobs.{has_open}
use Rattle.bl_queue.specs.Runs.{closed, end_status, ended_feed, open_ended, whole_status, with_feed, with_open_ended}
use Rattle.bl_queue.specs.Rows.{last_logs}
use Rattle.bl_files.specs.Statuses.{is_completed, is_open}
use Rattle.bl_world.specs.Worlds.{IsFirstOpen}
use Rattle.bl_chain.specs.Frontiers.{IsNextAt, IsWhole, takens}
use Rattle.bl_chain.specs.Loads.{Loaded, bare}
use Rattle.bl_chain.specs.Tables.{Table}
use Rattle.bl_chain.proofs.FedLoads.{AreFed, AreRun, IsFed}

-- ---- pair by pair

pub zip_map : (R S : Table → Feed → Type 0) (g : Feed → Feed) → ((s : Table) (f : Feed) → R s f → S s (g f)) → (tables : List Table) (feeds : List Feed) → AllZip R tables feeds → AllZip S tables (map g feeds)
zip_map R S g step [] [] zip = tt
zip_map R S g step [] (f ∷ feeds) zip = absurd zip
zip_map R S g step (s ∷ tables) [] zip = absurd zip
zip_map R S g step (s ∷ tables) (f ∷ feeds) zip = (step s f zip.0, zip_map R S g step tables feeds zip.1)

pub zip_with : (R : Table → Feed → Type 0) (g : Feed → Feed) (place : ℕ) (table : Table) (feed : Feed) (tables : List Table) (feeds : List Feed) → IsNextAt tables feeds place table feed → R table (g feed) → AllZip R tables feeds → AllZip R tables (with_feed place g feeds)
zip_with R g place table feed [] [] at new zip = absurd at
zip_with R g place table feed [] (f ∷ feeds) at new zip = absurd at
zip_with R g place table feed (s ∷ tables) [] at new zip = absurd at
zip_with R g zero table feed (s ∷ tables) (f ∷ feeds) at new zip = (subst (λ x. R x (g f)) (sym at.0) (subst (λ y. R table (g y)) (sym at.1) new), zip.1)
zip_with R g (suc place) table feed (s ∷ tables) (f ∷ feeds) at new zip = (zip.0, zip_with R g place table feed tables feeds at.1 new zip.1)

pub zip_last : (R : Table → Feed → Type 0) → ((s : Table) (f : Feed) (n : ℕ) → R s f → R s (record f { logs = drop n f.logs })) → (tables : List Table) (feeds : List Feed) → AllZip R tables feeds → AllZip R tables (last_logs feeds)
zip_last R step [] [] zip = tt
zip_last R step [] (f ∷ feeds) zip = absurd zip
zip_last R step (s ∷ tables) [] zip = absurd zip
zip_last R step (s ∷ tables) (f ∷ feeds) zip = (step s f _ zip.0, zip_last R step tables feeds zip.1)

-- the first unended file of a job that runs is the one to go on with
pub next_at : (tables : List Table) (feeds : List Feed) (place : ℕ) (feed : Feed) → AllZip IsFed tables feeds → AreRun tables feeds → IsFirstOpen feeds place feed → (table : Table) × Contains tables table × IsNextAt tables feeds place table feed × IsFed table feed
next_at [] [] place feed zip run first = absurd first
next_at [] (f ∷ feeds) place feed zip run first = absurd zip
next_at (s ∷ tables) [] place feed zip run first = absurd zip
next_at (s ∷ tables) (f ∷ feeds) zero feed zip run first = (s, first_member s tables, (refl, first.1), subst (λ x. IsFed s x) first.1 zip.0)
next_at (s ∷ tables) (f ∷ feeds) (suc place) feed zip run first =
    let rest = next_at tables feeds place feed zip.1 run.1 first.1 in
    (rest.0, later_member s tables rest.0 rest.1, (run.0 first.0, rest.2), rest.3)

pub first_open_any : (feeds : List Feed) (place : ℕ) (feed : Feed) → IsFirstOpen feeds place feed → list_any (λ (f : Feed). is_open f.status) feeds ≡ true
first_open_any [] place feed first = absurd first
first_open_any (f ∷ feeds) zero feed first = ap (λ b. b || list_any (λ (x : Feed). is_open x.status) feeds) first.0
first_open_any (f ∷ feeds) (suc place) feed first = or_right (is_open f.status) (list_any (λ (x : Feed). is_open x.status) feeds) (first_open_any feeds place feed first.1)

-- ---- the same files, ended otherwise

pub re_fed : (tables : List Table) (loaded : Loaded) (k : ℕ) (old new : List Feed) → AreFed tables loaded k old → map bare new ≡ map bare old → takens new ≡ takens old → AllZip IsFed tables new → AreFed tables loaded k new
re_fed tables loaded k old new are same taken each = record { within = are.within; counted = same ∙ are.counted; shared = taken ∙ are.shared; each = each }

module _ (status : FeedStatus) (shut : is_open status ≡ false) (cut : is_completed status ≡ false) where
  bare_one : (feed : Feed) → bare (open_ended status feed) ≡ bare feed
  bare_one feed = cond_both (is_open feed.status) (record feed { status = status }) feed (λ x. bare x ≡ bare feed) (λ h. refl) (λ h. refl)

  taken_one : (feed : Feed) → (open_ended status feed).taken ≡ feed.taken
  taken_one feed = cond_both (is_open feed.status) (record feed { status = status }) feed (λ x. x.taken ≡ feed.taken) (λ h. refl) (λ h. refl)

  pub bare_open : (feeds : List Feed) → map bare (with_open_ended status feeds) ≡ map bare feeds
  bare_open [] = refl
  bare_open (feed ∷ feeds) = λ i. bare_one feed i ∷ bare_open feeds i

  pub takens_open : (feeds : List Feed) → takens (with_open_ended status feeds) ≡ takens feeds
  takens_open [] = refl
  takens_open (feed ∷ feeds) = λ i. taken_one feed i ∷ takens_open feeds i

  fed_one : (table : Table) (feed : Feed) → IsFed table feed → IsFed table (open_ended status feed)
  fed_one table feed fed =
      cond_both (is_open feed.status) (record feed { status = status }) feed (λ x. IsFed table x)
      (λ h. record { name = fed.name; kind = fed.kind; enough = fed.enough; digest = fed.digest; fresh = fed.fresh; whole = λ done. absurd (true≢false (sym done ∙ cut)) })
      (λ h. fed)

  pub fed_open : (tables : List Table) (feeds : List Feed) → AllZip IsFed tables feeds → AllZip IsFed tables (with_open_ended status feeds)
  fed_open tables feeds zip = zip_map IsFed IsFed (open_ended status) fed_one tables feeds zip

  shut_one : (feed : Feed) → is_open (open_ended status feed).status ≡ false
  shut_one feed = cond_both (is_open feed.status) (record feed { status = status }) feed (λ x. is_open x.status ≡ false) (λ h. shut) (λ h. h)

  pub none_open : (feeds : List Feed) → list_any (λ (f : Feed). is_open f.status) (with_open_ended status feeds) ≡ false
  none_open [] = refl
  none_open (feed ∷ feeds) = ap (λ b. b || list_any (λ (f : Feed). is_open f.status) (with_open_ended status feeds)) (shut_one feed) ∙ none_open feeds

-- ---- one file ends

pub bare_ended : (how : FeedEnd) (place : ℕ) (feeds : List Feed) → map bare (with_feed place (ended_feed how) feeds) ≡ map bare feeds
bare_ended how zero [] = refl
bare_ended how (suc place) [] = refl
bare_ended how zero (feed ∷ feeds) = refl
bare_ended how (suc place) (feed ∷ feeds) = ap (λ l. bare feed ∷ l) (bare_ended how place feeds)

pub takens_ended : (how : FeedEnd) (place : ℕ) (feeds : List Feed) → takens (with_feed place (ended_feed how) feeds) ≡ takens feeds
takens_ended how zero [] = refl
takens_ended how (suc place) [] = refl
takens_ended how zero (feed ∷ feeds) = refl
takens_ended how (suc place) (feed ∷ feeds) = ap (λ l. feed.taken ∷ l) (takens_ended how place feeds)

pub fed_ended : (how : FeedEnd) (table : Table) (feed : Feed) → IsFed table feed → (is_completed (end_status how) ≡ true → IsWhole table feed) → IsFed table (ended_feed how feed)
fed_ended how table feed fed whole = record { name = fed.name; kind = fed.kind; enough = fed.enough; digest = fed.digest; fresh = fed.fresh; whole = whole }

-- ---- logs are dropped

drop_none : (n : ℕ) → drop {A = Log} n [] ≡ []
drop_none zero = refl
drop_none (suc n) = refl

dropped : (n : ℕ) (logs : List Log) → logs ≡ [] → drop n logs ≡ logs
dropped n logs none = ap (λ l. drop n l) none ∙ drop_none n ∙ sym none

pub fed_dropped : (table : Table) (feed : Feed) (n : ℕ) → IsFed table feed → IsFed table (record feed { logs = drop n feed.logs })
fed_dropped table feed n fed = record {
  name = fed.name;
  kind = fed.kind;
  enough = fed.enough;
  digest = fed.digest;
  fresh = λ none. let first : bare feed ≡ bare (new_feed table.found) = fed.fresh none in (λ i. record (bare feed) { logs = dropped n feed.logs (ap (λ (x : Feed). x.logs) first) i }) ∙ first;
  whole = fed.whole;
}

-- ---- a job closes where its files have ended

pub closed_all : (P : Job → Type 0) (job : Job) → (has_open job ≡ true → P job) → (has_open job ≡ false → P (record job { status = whole_status job.feeds })) → P (closed job)
closed_all P job goes ends = cond_both (has_open job) job (record job { status = whole_status job.feeds }) P goes ends

pub whole_rests : (feeds : List Feed) → is_in_progress (whole_status feeds) ≡ false
whole_rests feeds = cond_both (list_all (λ (feed : Feed). is_completed feed.status) feeds) Completed Failed (λ s. is_in_progress s ≡ false) (λ h. refl) (λ h. refl)

pub whole_started : (feeds : List Feed) → is_to_start (whole_status feeds) ≡ false
whole_started feeds = cond_both (list_all (λ (feed : Feed). is_completed feed.status) feeds) Completed Failed (λ s. is_to_start s ≡ false) (λ h. refl) (λ h. refl)
