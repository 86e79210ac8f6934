use Rattle.std.proofs.Common.{◌≡◌, ◌∙◌, ℕ, Option, List, length, sym, ap, subst, arith, drop}
use Rattle.bl_stream.specs.Events.{commit_events}
use Rattle.bl_stream.specs.Slices.{Filled, nothing, with_events}
use Rattle.bl_stream.specs.Readers.{IsTold}
use Rattle.bl_stream.specs.Filling.{HasTaken, skipped}
use Rattle.bl_stream.specs.declared.commit.Commit.{Commit}
use Rattle.bl_stream.proofs.FilledPages.{limit_stays}
use Rattle.bl_stream.proofs.WantedEvents.{Starts, starts}
use Rattle.bl_stream.proofs.PageFacts.{made_filled, told_each, told_lower}
use Rattle.bl_stream.proofs.stream.filled.Goals as goal

pub commit-requires : goal.commit-requires
commit-requires g c =
    let is : Starts c.args.bounds c.args.ask.now.iterator c.args.start.number c.args.start.before = starts c.args.bounds c.args.ask.now.iterator c.args.start c.requires.bounds.1 c.requires.start in
    let told : Option (List Commit) = g.R.CommitReader.commits c.args.reader.now in
    told_lower told c.args.start.number c.args.bounds.1 (omega (arith, is.low, c.requires.bounds.0)) is.high
    (told_each told c.args.bounds (omega (arith, c.requires.bounds.0, c.requires.bounds.1)) c.requires.each)

pub add_commits-requires-clause-told : goal.add_commits-requires-clause-told
add_commits-requires-clause-told g c =
    let told : Option (List Commit) = g.R.CommitReader.commits c.args.reader.now in
    subst (λ (them : Option (List Commit)). IsTold them c.args.bounds.1) (sym c.in_ok-commit.ensures.commits)
    (told_each told c.args.bounds (omega (arith, c.requires.bounds.0, c.requires.bounds.1)) c.requires.each)

pub add_commits-requires-clause-within : goal.add_commits-requires-clause-within
add_commits-requires-clause-within g c =
    (starts c.args.bounds c.args.ask.now.iterator c.args.start c.requires.bounds.1 c.requires.start).high

pub returns-clause-filled : goal.returns-clause-filled
returns-clause-filled g c =
    let is : Starts c.args.bounds c.args.ask.now.iterator c.args.start.number c.args.start.before = starts c.args.bounds c.args.ask.now.iterator c.args.start c.requires.bounds.1 c.requires.start in
    let told : Option (List Commit) = g.R.CommitReader.commits c.args.reader.now in
    let commit : Commit = c.in_ok-commit.commit in
    let first : Filled = c.add_commit.new.self in
    let all : Filled = c.add_commits.new.page in
    let skip : c.count-before.result ≡ skipped c.args.start.before (length commit.changes) = c.count-before.ensures ∙ ap (skipped c.args.start.before) c.len.ensures in
    let left : ℕ → Filled → Filled = λ n page. with_events page (drop n (commit_events c.args.start.number commit)) in
    let begun : first ≡ left (skipped c.args.start.before (length commit.changes)) (nothing c.args.ask.now.limit) =
    c.in_ok-add_commit.ensures.filled ∙ ap (λ (n : ℕ). left n c.new-page.result) skip
    ∙ ap (left (skipped c.args.start.before (length commit.changes))) c.new-page.ensures in
    let taken : HasTaken told c.args.start.number c.args.bounds.1 first all =
    subst (λ (them : Option (List Commit)). HasTaken them c.args.start.number c.args.bounds.1 first all) c.in_ok-commit.ensures.commits c.in_ok-add_commits.ensures.told in
    made_filled told c.args.bounds c.args.ask.now c.args.start.number c.args.start.before commit first all
    (record {
      starts = is;
      some = omega (arith, is.low, c.requires.bounds.0);
      fits = c.in_ok-add_commit.ensures.fits.0;
      room = c.requires.limit;
      sound = c.in_ok-commit.ensures.valid;
      count = c.in_ok-add_commit.ensures.fits.1;
      begun = begun;
      adds = c.in_ok-add_commits.ensures.adds;
      full = c.in_ok-add_commits.ensures.some;
    })
    c.in_ok-commit.ensures.gives taken
    (c.in_ok-add_commits.ensures.limit ∙ ap (λ (p : Filled). p.limit) begun
    ∙ limit_stays (nothing c.args.ask.now.limit) (drop (skipped c.args.start.before (length commit.changes)) (commit_events c.args.start.number commit)))
