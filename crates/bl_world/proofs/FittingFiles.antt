-- The job and the file that are next, and what is asked of them.
use Rattle.std.specs.Prelude.{◌≡◌, ◌↔◌, ℕ, ◌+◌, ◌-◌, ◌<◌, ◌≤◌, Bool, List, length, IsTrue, Some, None}
use Rattle.std.proofs.Common.{sym, ap, subst, ◌∙◌, arith}
use Rattle.std.proofs.lemmas.List.Elements.{All-contains}
use Rattle.bl_files.specs.declared.feed.Feed.{Feed}
use Rattle.bl_files.specs.declared.feed_end.FeedEnd.{FeedEnd}
use Rattle.bl_files.specs.declared.log.Log.{Log}
use Rattle.bl_files.specs.Carried.{most_files}
use Rattle.bl_queue.specs.declared.job.Job.{Job}
use Rattle.bl_queue.specs.Jobs.{Kept, front_job}
use Rattle.bl_queue.proofs.ChangedJobs.{front_in, some_is}
use Rattle.bl_world.specs.Following.{FitsFile, FitsRows}
use Rattle.bl_world.specs.Works.{Placed, first_open}
use Rattle.bl_world.specs.Worlds.{AreNext, FitsEnd, HaveFewFiles, IsFirstOpen, MayStop}
use Rattle.bl_world.proofs.OpenFiles.{IsFound, first_found, open_found, same_front, same_next}

-- where no file is open none is next
pub no_next : (jobs : List Job) (number feed : ℕ) (front : Job) → front_job jobs ≡ Some front → first_open 1 front.feeds ≡ None → (it : Job) (of : Feed) → AreNext jobs number feed it of → ⊥
no_next jobs number feed front is none it of next =
    let same : it ≡ front = some_is it front (sym next.0 ∙ is) in
    let found : first_open 1 front.feeds ≡ Some (record { place = 1 + (feed - 1); feed = of }) = ap (λ (j : Job). first_open 1 j.feeds) (sym same) ∙ first_found 1 it.feeds (feed - 1) of next.3 in
    let e = sym none ∙ found in absurd (cc)

-- the file that is found is next where it and its job are the ones named
pub is_next : (jobs : List Job) (number feed place : ℕ) (it : Job) (of : Feed) → front_job jobs ≡ Some it → first_open 1 it.feeds ≡ Some (record { place = place + 1; feed = of }) → it.number ≡ number → 0 < feed → place ≡ feed - 1 → AreNext jobs number feed it of
is_next jobs number feed place it of is opens same some at =
    let found : IsFound 1 it.feeds (record { place = place + 1; feed = of }) = open_found 1 it.feeds (record { place = place + 1; feed = of }) opens in
    let here : found.place ≡ feed - 1 = omega (arith, found.place_is, at) in
    (is, same, omega arith, subst (λ p. IsFirstOpen it.feeds p of) here found.first)

one_placed : (x y : Placed) → Some x ≡ Some y → x ≡ y
one_placed x y h = cc

same_place : (x y : Placed) → Some x ≡ Some y → x.place ≡ y.place
same_place x y h = ap (λ (z : Placed). z.place) (one_placed x y h)

-- and no other is
pub only_next : (jobs : List Job) (number feed place : ℕ) (front : Job) (first : Feed) → front_job jobs ≡ Some front → first_open 1 front.feeds ≡ Some (record { place = place + 1; feed = first })
    → ((front.number ≡ number) × (0 < feed) × (place ≡ feed - 1) → ⊥) → (it : Job) (of : Feed) → AreNext jobs number feed it of → ⊥
only_next jobs number feed place front first is opens other it of next =
    let same : it ≡ front = some_is it front (sym next.0 ∙ is) in
    let found : first_open 1 front.feeds ≡ Some (record { place = 1 + (feed - 1); feed = of }) = ap (λ (j : Job). first_open 1 j.feeds) (sym same) ∙ first_found 1 it.feeds (feed - 1) of next.3 in
    let places : place + 1 ≡ 1 + (feed - 1) = same_place (record { place = place + 1; feed = first }) (record { place = 1 + (feed - 1); feed = of }) (sym opens ∙ found) in
    other (ap (λ (j : Job). j.number) (sym same) ∙ next.1, omega (arith, next.2), omega (arith, places, next.2))

-- ---- what is asked of them

pub end_iff : (kept : Kept) (number feed : ℕ) (it : Job) (of : Feed) (how : FeedEnd) (b : Bool) → AreNext kept.jobs number feed it of → (IsTrue b ↔ MayStop it of how) → IsTrue b ↔ FitsEnd kept number feed how
end_iff kept number feed it of how b next iff = (
  λ h. record { it = it; of = of; next = next; stops = iff.0 h },
  λ fits. iff.1 (subst (λ (j : Job). MayStop j of how) (same_front kept.jobs number feed fits.it it fits.of of fits.next next)
      (subst (λ (f : Feed). MayStop fits.it f how) (same_next kept.jobs number feed fits.it it fits.of of fits.next next) fits.stops)),
)

pub rows_iff : (kept : Kept) (number feed from rows duplicates : ℕ) (logs : List Log) (it : Job) (of : Feed) (b : Bool) → AreNext kept.jobs number feed it of → (IsTrue b ↔ FitsFile from rows duplicates logs it of) → IsTrue b ↔ FitsRows kept number feed from rows duplicates logs
rows_iff kept number feed from rows duplicates logs it of b next iff = (
  λ h. record { it = it; of = of; next = next; file = iff.0 h },
  λ fits. iff.1 (subst (λ (j : Job). FitsFile from rows duplicates logs j of) (same_front kept.jobs number feed fits.it it fits.of of fits.next next)
      (subst (λ (f : Feed). FitsFile from rows duplicates logs fits.it f) (same_next kept.jobs number feed fits.it it fits.of of fits.next next) fits.file)),
)

pub none_rows : (kept : Kept) (number feed from rows duplicates : ℕ) (logs : List Log) → ((it : Job) (of : Feed) → AreNext kept.jobs number feed it of → ⊥) → FitsRows kept number feed from rows duplicates logs → ⊥
none_rows kept number feed from rows duplicates logs none fits = none fits.it fits.of fits.next

-- the job at the front has few files
pub front_few : (jobs : List Job) (it : Job) → HaveFewFiles jobs → front_job jobs ≡ Some it → length it.feeds ≤ most_files
front_few jobs it few is = All-contains (λ job. length job.feeds ≤ most_files) jobs it few (front_in jobs it is).0
