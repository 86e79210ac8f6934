use Rattle.std.proofs.Common.{◌≡◌, ◌∙◌, [], ◌∷◌, Err, sym, ap, subst, arith}
use Rattle.bl_outside.proofs.Moments.{at_end, started, then_runs}
use Rattle.bl_world.specs.Worlds.{World, empty_world}
use Rattle.bl_engine.specs.Openings.{AreJudged, ReplayIs, Replays}
use Rattle.bl_engine.specs.declared.refusals.Trouble.{Trouble}
use Rattle.bl_engine.proofs.Replayed.{breaks, ends, goes_on, refuses, starts}
use Rattle.bl_engine.proofs.replaying.replay.Goals as goal

pub frames-init : goal.frames-init
frames-init g c = record {
  replays = λ all stands. subst (λ (w : World). Replays all (g.D.Disk.seen c.args.journal.now.disk) c.args.journal.now.place w) (sym c.empty-world.ensures)
      (starts all (g.D.Disk.seen c.args.journal.now.disk) c.args.journal.now.place c.requires.place stands);
  leads = ([], c.empty-world.ensures);
  steps = omega (arith, ap (λ (w : World). w.entries) c.empty-world.ensures);
  at_gate = λ h. h;
  settled = λ h. h;
  since = λ sound. started g.D.Disk.moment g.D.Disk.left_since c.args.journal.now.disk (g.D.Disk.may_leave c.args.journal.now.disk) (g.met.D.Disk.only_now c.args.journal.now.disk);
  sound = ((λ s. s), λ s. s);
  later = omega arith;
  count = omega (arith, ap (λ (w : World). w.entries) c.empty-world.ensures, c.requires.place);
  bound = omega (arith, c.requires.place);
}

pub returns-in-Err-clause-replayed : goal.returns-in-Err-clause-replayed
returns-in-Err-clause-replayed g c all stands =
    let r = c.frames.invariant.replays all stands in
    subst (λ (e : Trouble). ReplayIs all (g.D.Disk.seen c.next.new.self.disk) c.next.new.self.place (Err e)) (sym c.trouble_of.ensures)
    (breaks all (g.D.Disk.seen c.frames.journal.disk) (g.D.Disk.seen c.next.new.self.disk) c.frames.journal.place c.next.new.self.place c.frames.world r c.in-Err.fault (c.in-Err.ensures.stands _ _ r.stands))

pub returns-in-Ok-None-clause-replayed : goal.returns-in-Ok-None-clause-replayed
returns-in-Ok-None-clause-replayed g c all stands =
    let r = c.frames.invariant.replays all stands in
    let found = rw c.in-Ok-None.field-0-is at (c.in-Ok-None.ensures.stands _ _ r.stands) in
    ends all (g.D.Disk.seen c.frames.journal.disk) (g.D.Disk.seen c.next.new.self.disk) c.frames.journal.place c.next.new.self.place c.frames.world r found

pub returns-in-Err-Unfit-clause-replayed : goal.returns-in-Err-Unfit-clause-replayed
returns-in-Err-Unfit-clause-replayed g c all stands =
    let r = c.frames.invariant.replays all stands in
    let found = rw c.in-Ok-Some.field-0-is at (c.in-Ok-Some.ensures.stands _ _ r.stands) in
    subst (λ p. AreJudged 15 empty_world all.0 all.1 (Err p)) (sym c.place-place.ensures)
    (refuses all (g.D.Disk.seen c.frames.journal.disk) (g.D.Disk.seen c.next.new.self.disk) c.frames.journal.place c.next.new.self.place c.frames.world r c.in-Ok-Some.body found
    (c.in-Err-Unfit.ensures.unfit (ap (λ e. Err e) c.in-Err-Unfit.field-0-is)))

pub frames-preserved-in-Ok : goal.frames-preserved-in-Ok
frames-preserved-in-Ok g c =
    let moved = rw c.in-Ok-Some.field-0-is at c.in-Ok-Some.ensures.moves in
    let leads = c.in-Ok.ensures.leads in
    record {
      replays = λ all stands.
          let r = c.frames.invariant.replays all stands in
          let found = rw c.in-Ok-Some.field-0-is at (c.in-Ok-Some.ensures.stands _ _ r.stands) in
          goes_on all (g.D.Disk.seen c.frames.journal.disk) (g.D.Disk.seen c.next.new.self.disk) c.frames.journal.place c.next.new.self.place c.frames.world r c.follow_body.new.world c.in-Ok-Some.body found moved.0 leads;
      leads = let l = c.frames.invariant.leads in (leads.0 ∷ l.0, (c.frames.world, l.1, leads.3));
      steps = omega (arith, c.follow_body.ensures.steps, leads.3.next.entries, c.frames.invariant.steps);
      at_gate = λ h. c.next.ensures.at_gate (c.frames.invariant.at_gate h);
      settled = λ h. c.next.ensures.settled (c.frames.invariant.settled h);
      since = λ sound.
          let old = c.args.journal.now.disk in
          let mid = c.frames.journal.disk in
          let left = g.D.Disk.may_leave old in
          let so_far = c.frames.invariant.since sound in
          then_runs g.D.Disk.moment g.D.Disk.left_since old mid c.next.new.self.disk left (g.D.Disk.may_leave mid) so_far (c.next.ensures.any_moment (c.frames.invariant.sound.0 sound).honest)
          (at_end g.D.Disk.moment g.D.Disk.left_since old mid left g.met.D.Disk.counts_now so_far);
      sound = ((λ s. c.next.ensures.sound.0 (c.frames.invariant.sound.0 s)), λ s. c.frames.invariant.sound.1 (c.next.ensures.sound.1 s));
      later = omega arith;
      count = omega (arith, moved.0, moved.1, leads.3.next.entries, c.frames.invariant.count);
      bound = moved.2;
    }

pub frames-preserved : goal.frames-preserved
frames-preserved g c =
    let moved = rw c.in-Ok-Some.field-0-is at c.in-Ok-Some.ensures.moves in
    let leads = c.in-Ok.ensures.leads in
    record {
      replays = λ all stands.
          let r = c.frames.invariant.replays all stands in
          let found = rw c.in-Ok-Some.field-0-is at (c.in-Ok-Some.ensures.stands _ _ r.stands) in
          goes_on all (g.D.Disk.seen c.frames.journal.disk) (g.D.Disk.seen c.next.new.self.disk) c.frames.journal.place c.next.new.self.place c.frames.world r c.follow_body.new.world c.in-Ok-Some.body found moved.0 leads;
      leads = let l = c.frames.invariant.leads in (leads.0 ∷ l.0, (c.frames.world, l.1, leads.3));
      steps = omega (arith, c.follow_body.ensures.steps, leads.3.next.entries, c.frames.invariant.steps);
      at_gate = λ h. c.next.ensures.at_gate (c.frames.invariant.at_gate h);
      settled = λ h. c.next.ensures.settled (c.frames.invariant.settled h);
      since = λ sound.
          let old = c.args.journal.now.disk in
          let mid = c.frames.journal.disk in
          let left = g.D.Disk.may_leave old in
          let so_far = c.frames.invariant.since sound in
          then_runs g.D.Disk.moment g.D.Disk.left_since old mid c.next.new.self.disk left (g.D.Disk.may_leave mid) so_far (c.next.ensures.any_moment (c.frames.invariant.sound.0 sound).honest)
          (at_end g.D.Disk.moment g.D.Disk.left_since old mid left g.met.D.Disk.counts_now so_far);
      sound = ((λ s. c.next.ensures.sound.0 (c.frames.invariant.sound.0 s)), λ s. c.frames.invariant.sound.1 (c.next.ensures.sound.1 s));
      later = omega arith;
      count = omega (arith, moved.0, moved.1, leads.3.next.entries, c.frames.invariant.count);
      bound = moved.2;
    }

pub returns-in-Err-clause-any_moment : goal.returns-in-Err-clause-any_moment
returns-in-Err-clause-any_moment g c sound =
    let old = c.args.journal.now.disk in
    let mid = c.frames.journal.disk in
    let left = g.D.Disk.may_leave old in
    let so_far = c.frames.invariant.since sound in
    then_runs g.D.Disk.moment g.D.Disk.left_since old mid c.next.new.self.disk left (g.D.Disk.may_leave mid) so_far (c.next.ensures.any_moment (c.frames.invariant.sound.0 sound).honest)
    (at_end g.D.Disk.moment g.D.Disk.left_since old mid left g.met.D.Disk.counts_now so_far)

pub returns-in-Ok-None-clause-any_moment : goal.returns-in-Ok-None-clause-any_moment
returns-in-Ok-None-clause-any_moment g c sound =
    let old = c.args.journal.now.disk in
    let mid = c.frames.journal.disk in
    let left = g.D.Disk.may_leave old in
    let so_far = c.frames.invariant.since sound in
    then_runs g.D.Disk.moment g.D.Disk.left_since old mid c.next.new.self.disk left (g.D.Disk.may_leave mid) so_far (c.next.ensures.any_moment (c.frames.invariant.sound.0 sound).honest)
    (at_end g.D.Disk.moment g.D.Disk.left_since old mid left g.met.D.Disk.counts_now so_far)

pub returns-in-Err-Unfit-clause-any_moment : goal.returns-in-Err-Unfit-clause-any_moment
returns-in-Err-Unfit-clause-any_moment g c sound =
    let old = c.args.journal.now.disk in
    let mid = c.frames.journal.disk in
    let left = g.D.Disk.may_leave old in
    let so_far = c.frames.invariant.since sound in
    then_runs g.D.Disk.moment g.D.Disk.left_since old mid c.next.new.self.disk left (g.D.Disk.may_leave mid) so_far (c.next.ensures.any_moment (c.frames.invariant.sound.0 sound).honest)
    (at_end g.D.Disk.moment g.D.Disk.left_since old mid left g.met.D.Disk.counts_now so_far)

pub returns-in-Err-NoMemory-clause-any_moment : goal.returns-in-Err-NoMemory-clause-any_moment
returns-in-Err-NoMemory-clause-any_moment g c sound =
    let old = c.args.journal.now.disk in
    let mid = c.frames.journal.disk in
    let left = g.D.Disk.may_leave old in
    let so_far = c.frames.invariant.since sound in
    then_runs g.D.Disk.moment g.D.Disk.left_since old mid c.next.new.self.disk left (g.D.Disk.may_leave mid) so_far (c.next.ensures.any_moment (c.frames.invariant.sound.0 sound).honest)
    (at_end g.D.Disk.moment g.D.Disk.left_since old mid left g.met.D.Disk.counts_now so_far)
