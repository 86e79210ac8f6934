use Rattle.std.proofs.Common.{◌≡◌, ◌∙◌, None, ap, inl, inr, refl, subst, sym, arith}
use Rattle.std.proofs.lemmas.Result.{err_from_is_err_and}
use Rattle.bl_chain.specs.Folders.{AreTablesOf}
use Rattle.bl_chain.specs.MadeEntries.{IsMade}
use Rattle.bl_engine.specs.Calls.{Handles}
use Rattle.bl_engine.proofs.Drained.{drains_none}
use Rattle.bl_load.specs.TurnFaults.{told_trouble, trouble_of}
use Rattle.bl_load.specs.declared.turn_fault.TurnFault.TheVariants.{JournalFull}
use Rattle.bl_load.proofs.Drains.{handles_none, handles_on, keeps_on, not_turned, ready_after, same_fault}
use Rattle.bl_load.proofs.ResumedLoads.{drains_then, resumes_to}
use Rattle.bl_load.proofs.SameJobs.{same_none}
use Rattle.bl_load.proofs.turning.drain.Goals as goal

pub loop-init : goal.loop-init
loop-init g c = record {
  made = λ files told fresh state stays. drains_none g.D.Disk (IsMade (AreTablesOf files)) g.met.D.Disk.only_now c.args.engine.now state stays;
  anyhow = λ state stays. drains_none g.D.Disk (λ world entry. Unit {0}) g.met.D.Disk.only_now c.args.engine.now state stays;
  fresh = λ files told fresh. fresh;
  files = refl;
  later = omega arith;
  handles = handles_none g.D.Disk c.args.engine.now;
  keeps = λ was. same_none c.args.engine.now.world.kept;
  begun = inl refl;
}

pub loop-preserved : goal.loop-preserved
loop-preserved g c =
    let was = c.loop.invariant in
    record {
      made = λ files told fresh state stays.
          let d = was.made files told fresh state stays in
          drains_then (IsMade (AreTablesOf files)) g.D.Disk c.args.engine.now c.loop.engine c.turn.new.engine state d (c.turn.ensures.made files (was.files ∙ told) (was.fresh files told fresh) d.to d.stays);
      anyhow = λ state stays.
          let d = was.anyhow state stays in
          drains_then (λ world entry. Unit {0}) g.D.Disk c.args.engine.now c.loop.engine c.turn.new.engine state d (c.turn.ensures.anyhow d.to d.stays);
      fresh = λ files told fresh. c.turn.ensures.fresh files (was.files ∙ told) (was.fresh files told fresh);
      files = c.turn.ensures.files ∙ was.files;
      later = omega (arith, was.later, c.turn.ensures.later);
      handles = handles_on g.D.Disk c.args.engine.now c.loop.engine c.turn.new.engine None was.begun was.handles c.in_ok-turn.ensures.handles;
      keeps = keeps_on c.args.engine.now c.loop.engine c.turn.new.engine was.begun was.keeps c.in_ok-turn.ensures.keeps;
      begun = inr (ready_after c.loop.engine c.turn.new.engine c.in_ok-turn.field-0 c.in_ok-turn.ensures.counts);
    }

-- ---- a turn isn't made

pub returns-in_err-turn-clause-made : goal.returns-in_err-turn-clause-made
returns-in_err-turn-clause-made g c = λ files told fresh state stays.
    let was = c.loop.invariant in
    let d = was.made files told fresh state stays in
    drains_then (IsMade (AreTablesOf files)) g.D.Disk c.args.engine.now c.loop.engine c.turn.new.engine state d (c.turn.ensures.made files (was.files ∙ told) (was.fresh files told fresh) d.to d.stays)

pub returns-in_err-turn-clause-anyhow : goal.returns-in_err-turn-clause-anyhow
returns-in_err-turn-clause-anyhow g c = λ state stays.
    let d = c.loop.invariant.anyhow state stays in
    drains_then (λ world entry. Unit {0}) g.D.Disk c.args.engine.now c.loop.engine c.turn.new.engine state d (c.turn.ensures.anyhow d.to d.stays)

pub returns-in_err-turn-clause-resumes : goal.returns-in_err-turn-clause-resumes
returns-in_err-turn-clause-resumes g c = λ files told fresh state stays.
    resumes_to g.D.Disk files c.args.engine.now c.turn.new.engine state (returns-in_err-turn-clause-made g c files told fresh state stays)

pub returns-in_err-turn-clause-full : goal.returns-in_err-turn-clause-full
returns-in_err-turn-clause-full g c = λ files told fresh state stays is.
    let p = err_from_is_err_and c.from_residual.result c.from_residual.ensures.1 in
    let was = c.loop.invariant in
    let d = was.made files told fresh state stays in
    (d.to, d.reaches, c.in_err-turn.ensures.full files (was.files ∙ told) (was.fresh files told fresh) d.to d.stays (ap not_turned (sym p.2 ∙ same_fault p.0 JournalFull (sym p.1 ∙ is))))

pub returns-in_err-turn-clause-handles : goal.returns-in_err-turn-clause-handles
returns-in_err-turn-clause-handles g c =
    let p = err_from_is_err_and c.from_residual.result c.from_residual.ensures.1 in
    let was = c.loop.invariant in
    subst (λ r. Handles g.D.Disk c.args.engine.now c.turn.new.engine (trouble_of r)) (sym p.1)
    (subst (λ e. Handles g.D.Disk c.args.engine.now c.turn.new.engine (told_trouble e)) (sym p.2) (handles_on g.D.Disk c.args.engine.now c.loop.engine c.turn.new.engine (told_trouble c.in_err-turn.field-0.0) was.begun was.handles c.in_err-turn.ensures.handles))

-- ---- nothing is to be done

pub returns-clause-made : goal.returns-clause-made
returns-clause-made g c = λ files told fresh state stays.
    let was = c.loop.invariant in
    let d = was.made files told fresh state stays in
    drains_then (IsMade (AreTablesOf files)) g.D.Disk c.args.engine.now c.loop.engine c.turn.new.engine state d (c.turn.ensures.made files (was.files ∙ told) (was.fresh files told fresh) d.to d.stays)

pub returns-clause-anyhow : goal.returns-clause-anyhow
returns-clause-anyhow g c = λ state stays.
    let d = c.loop.invariant.anyhow state stays in
    drains_then (λ world entry. Unit {0}) g.D.Disk c.args.engine.now c.loop.engine c.turn.new.engine state d (c.turn.ensures.anyhow d.to d.stays)

pub returns-clause-resumes : goal.returns-clause-resumes
returns-clause-resumes g c = λ files told fresh state stays.
    resumes_to g.D.Disk files c.args.engine.now c.turn.new.engine state (returns-clause-made g c files told fresh state stays)
