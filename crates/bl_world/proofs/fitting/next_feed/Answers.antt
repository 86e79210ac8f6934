use Rattle.std.specs.Option.{option_copied}
use Rattle.std.proofs.Common.{◌≡◌, ◌+◌, ◌-◌, ◌<◌, ap, arith, sym, ◌∙◌, None, Some}
use Rattle.bl_queue.specs.Jobs.{front_job}
use Rattle.bl_world.specs.Works.{first_open}
use Rattle.bl_world.proofs.FittingFiles.{is_next, no_next, only_next}
use Rattle.bl_world.proofs.fitting.next_feed.Goals as goal
use Rattle.bl_world.proofs.fitting.next_feed.Goals.{else-it-job-via-then-it-job+then-feed-gt0+else-place-feed, else-it-job-via-then-it-job+else-feed-gt0, else-it-job-via-else-it-job}

pub returns-in_err-place-clause-none : goal.returns-in_err-place-clause-none
returns-in_err-place-clause-none c = λ h it of next.
    let front : front_job c.args.jobs.now.jobs ≡ Some c.in_ok-it.it.now = sym c.front_job.ensures ∙ ap option_copied c.in_ok-it.was in
    let none : first_open 1 c.in_ok-it.it.now.feeds ≡ None = ap (first_open 1) (sym c.as_slice.ensures) ∙ sym c.in_err-place.ensures.«open» in
    no_next c.args.jobs.now.jobs c.args.job c.args.feed c.in_ok-it.it.now front none it of next

pub returns-then-place-feed-clause-is : goal.returns-then-place-feed-clause-is
returns-then-place-feed-clause-is c =
    let front : front_job c.args.jobs.now.jobs ≡ Some c.in_ok-it.it.now = sym c.front_job.ensures ∙ ap option_copied c.in_ok-it.was in
    let found : first_open 1 c.in_ok-it.it.now.feeds ≡ Some (record { place = c.in_ok-place.place + 1; feed = c.in_ok-place.of.now }) = ap (first_open 1) (sym c.as_slice.ensures) ∙ sym c.in_ok-place.ensures.«open» in
    is_next c.args.jobs.now.jobs c.args.job c.args.feed c.in_ok-place.place c.in_ok-it.it.now c.in_ok-place.of.now front found c.if-it-job.true c.if-feed-gt0.true c.if-place-feed.true

pub returns-else-it-job-clause-none : goal.returns-else-it-job-clause-none
returns-else-it-job-clause-none c = λ h it of next.
    let front : front_job c.args.jobs.now.jobs ≡ Some c.in_ok-it.it.now = sym c.front_job.ensures ∙ ap option_copied c.in_ok-it.was in
    let found : first_open 1 c.in_ok-it.it.now.feeds ≡ Some (record { place = c.in_ok-place.place + 1; feed = c.in_ok-place.of.now }) = ap (first_open 1) (sym c.as_slice.ensures) ∙ sym c.in_ok-place.ensures.«open» in
    let other : (c.in_ok-it.it.now.number ≡ c.args.job) × (0 < c.args.feed) × (c.in_ok-place.place ≡ c.args.feed - 1) → ⊥ = λ are.
    elim c.else-it-job.branch [
      | else-it-job-via-then-it-job+then-feed-gt0+else-place-feed w ↦ w.if-place-feed.false are.2
      | else-it-job-via-then-it-job+else-feed-gt0 w ↦ (let some : 0 < c.args.feed = are.1 in omega (arith, w.if-feed-gt0.false))
      | else-it-job-via-else-it-job w ↦ w.if-it-job.false are.0
    ] in
    only_next c.args.jobs.now.jobs c.args.job c.args.feed c.in_ok-place.place c.in_ok-it.it.now c.in_ok-place.of.now front found other it of next
