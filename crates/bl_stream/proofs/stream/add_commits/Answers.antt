use Rattle.std.proofs.Common.{◌≡◌, ◌∙◌, ◌+◌, ◌≤◌, false, Option, List, length, refl, sym, ap, subst, arith}
use Rattle.bl_change.specs.declared.event.Event.{Event}
use Rattle.bl_stream.specs.Events.{commit_events}
use Rattle.bl_stream.specs.Slices.{Filled, is_full, with_events}
use Rattle.bl_stream.specs.Readers.{Gives, IsTold}
use Rattle.bl_stream.specs.declared.commit.Commit.{Commit}
use Rattle.bl_stream.proofs.FilledPages.{full_stays, limit_stays}
use Rattle.bl_stream.proofs.PageFacts.{adds_more, adds_nothing, adds_within, goes_full, goes_more, goes_none, some_of, told_lower}
use Rattle.bl_stream.proofs.EventLists.{length-events_of}
use Rattle.bl_stream.proofs.stream.add_commits.Goals as goal

pub loop-read-init : goal.loop-read-init
loop-read-init g c =
    record {
      low = omega arith;
      high = c.requires.within;
      goes = goes_none (g.R.CommitReader.commits c.args.reader.now) c.args.number c.args.newest c.args.page.now;
      adds = adds_nothing c.args.number c.args.page.now;
      some = λ less. absurd (omega (arith, less));
      limit = refl;
      commits = refl;
      later = omega arith;
    }

pub returns-then-is_full-clause-told : goal.returns-then-is_full-clause-told
returns-then-is_full-clause-told g c =
    let now = c.loop-read in
    goes_full (g.R.CommitReader.commits c.args.reader.now) c.args.number now.read c.args.newest c.args.page.now now.page
    (λ events. full_stays now.page events (sym c.is_full.ensures.full ∙ c.if-is_full.true)) now.invariant.goes

pub returns-then-is_full-clause-adds : goal.returns-then-is_full-clause-adds
returns-then-is_full-clause-adds g c =
    let now = c.loop-read in
    adds_within c.args.number now.read c.args.newest c.args.page.now now.page now.invariant.high now.invariant.adds

pub returns-then-is_full-clause-some : goal.returns-then-is_full-clause-some
returns-then-is_full-clause-some g c = λ less. c.is_full.ensures.some c.if-is_full.true

pub commit-requires : goal.commit-requires
commit-requires g c =
    let now = c.loop-read in
    subst (λ (told : Option (List Commit)). IsTold told (now.read + 1)) (sym now.invariant.commits)
    (told_lower (g.R.CommitReader.commits c.args.reader.now) (now.read + 1) c.args.newest (omega arith) (omega (arith, c.loop-read-test.true)) c.requires.told)

pub loop-read-preserved : goal.loop-read-preserved
loop-read-preserved g c =
    let now = c.loop-read in
    let told : Option (List Commit) = g.R.CommitReader.commits c.args.reader.now in
    let commit : Commit = c.in_ok-commit.commit in
    let added : List Event = commit_events (now.read + 1) commit in
    let gives : Gives told (now.read + 1) commit =
    subst (λ (them : Option (List Commit)). Gives them (now.read + 1) commit) now.invariant.commits c.in_ok-commit.ensures.gives in
    let filled : c.add_commit.new.self ≡ with_events now.page added = c.in_ok-add_commit.ensures.filled in
    let count : 1 ≤ length added = omega (arith, c.in_ok-commit.ensures.valid.some, length-events_of (now.read + 1) 1 commit.moment commit.changes) in
    let room : is_full now.page ≡ false = sym c.is_full.ensures.full ∙ c.if-is_full.false in
    let some : 1 ≤ length (with_events now.page added).events = some_of now.page added room count in
    record {
      low = omega arith;
      high = omega (arith, c.loop-read-test.true);
      goes = goes_more told c.args.number now.read c.args.newest c.args.page.now now.page c.add_commit.new.self commit c.loop-read-test.true gives now.invariant.goes filled;
      adds =
          adds_more c.args.number now.read c.args.page.now now.page c.add_commit.new.self commit now.invariant.low (omega (arith, c.ranges.newest.fits, c.loop-read-test.true))
          c.in_ok-add_commit.ensures.fits.1 c.in_ok-commit.ensures.valid now.invariant.adds filled;
      some = λ less. subst (λ (p : Filled). 1 ≤ length p.events) (sym filled) some;
      limit = ap (λ (p : Filled). p.limit) filled ∙ limit_stays now.page added ∙ now.invariant.limit;
      commits = c.in_ok-commit.ensures.commits ∙ now.invariant.commits;
      later = omega (arith, now.invariant.later, c.in_ok-commit.ensures.later);
    }
