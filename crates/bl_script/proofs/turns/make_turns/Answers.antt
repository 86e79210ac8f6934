use Rattle.std.proofs.Common.{◌∙◌, refl, sym, subst, arith}
use Rattle.std.specs.declared.option.Option.{Option}
use Rattle.bl_load.specs.declared.turn_fault.TurnFault.{TurnFault}
use Rattle.bl_script.specs.Turns.{MadeTurn, MakesTurns}
use Rattle.bl_script.proofs.MadeTurns.{all_gone, last_gone, none_gone, one_gone, turn_of}
use Rattle.bl_script.proofs.turns.make_turns.Goals as goal

pub loop-init : goal.loop-init
loop-init g c = record {
  gone = none_gone g.D.Disk (g.F.Folder.files c.args.folder.now) c.args.engine.now (g.F.Folder.faults c.args.folder.now);
  fresh = c.requires.fresh;
  files = refl;
  later = omega arith;
}

pub returns-then-ends_round-clause-turns : goal.returns-then-ends_round-clause-turns
returns-then-ends_round-clause-turns g c =
    let was = c.loop.invariant in
    let turn : MadeTurn g.row.D.Denot = record {
      result = c.turn-made.result;
      engine = c.turn-made.new.engine;
      faults = g.F.Folder.faults c.turn-made.new.folder;
      now = g.K.Clock.last c.turn-made.new.clock;
    } in
    let is = turn_of g.D.Disk (g.F.Folder.files c.args.folder.now) c.loop.engine (g.F.Folder.faults c.loop.folder) turn
    (λ told are unrisen state stays. c.turn-made.ensures.turned told (was.files ∙ are) (was.fresh told (was.files ∙ are)) unrisen state stays)
    (λ told are state stays. c.turn-made.ensures.made told (was.files ∙ are) (was.fresh told (was.files ∙ are)) state stays)
    (λ told are state stays refused. c.turn-made.ensures.full told (was.files ∙ are) (was.fresh told (was.files ∙ are)) state stays refused)
    c.turn-made.ensures.anyhow c.turn-made.ensures.counts c.turn-made.ensures.handles c.turn-made.ensures.later in
    subst (λ (refused : Option TurnFault). MakesTurns g.D.Disk c.args.most (g.F.Folder.files c.args.folder.now) c.args.engine.now (g.F.Folder.faults c.args.folder.now) c.turn-made.new.engine (g.F.Folder.faults c.turn-made.new.folder) refused)
    (sym c.err.ensures.value)
    (last_gone g.D.Disk (g.F.Folder.files c.args.folder.now) c.args.engine.now (g.F.Folder.faults c.args.folder.now) c.loop.engine (g.F.Folder.faults c.loop.folder) c.args.most c.loop.counter turn was.gone is c.loop-test.true (sym c.ends_round.ensures ∙ c.if-ends_round.true))

pub loop-preserved : goal.loop-preserved
loop-preserved g c =
    let was = c.loop.invariant in
    let turn : MadeTurn g.row.D.Denot = record {
      result = c.turn-made.result;
      engine = c.turn-made.new.engine;
      faults = g.F.Folder.faults c.turn-made.new.folder;
      now = g.K.Clock.last c.turn-made.new.clock;
    } in
    let is = turn_of g.D.Disk (g.F.Folder.files c.args.folder.now) c.loop.engine (g.F.Folder.faults c.loop.folder) turn
    (λ told are unrisen state stays. c.turn-made.ensures.turned told (was.files ∙ are) (was.fresh told (was.files ∙ are)) unrisen state stays)
    (λ told are state stays. c.turn-made.ensures.made told (was.files ∙ are) (was.fresh told (was.files ∙ are)) state stays)
    (λ told are state stays refused. c.turn-made.ensures.full told (was.files ∙ are) (was.fresh told (was.files ∙ are)) state stays refused)
    c.turn-made.ensures.anyhow c.turn-made.ensures.counts c.turn-made.ensures.handles c.turn-made.ensures.later in
    record {
      gone = one_gone g.D.Disk (g.F.Folder.files c.args.folder.now) c.args.engine.now (g.F.Folder.faults c.args.folder.now) c.loop.engine (g.F.Folder.faults c.loop.folder) c.loop.counter turn was.gone is (sym c.ends_round.ensures ∙ c.if-ends_round.false);
      fresh = λ files told. c.turn-made.ensures.fresh files (sym c.turn-made.ensures.files ∙ told) (was.fresh files (sym c.turn-made.ensures.files ∙ told));
      files = c.turn-made.ensures.files ∙ was.files;
      later = omega (arith, was.later, c.turn-made.ensures.later);
    }

pub returns-clause-turns : goal.returns-clause-turns
returns-clause-turns g c =
    all_gone g.D.Disk (g.F.Folder.files c.args.folder.now) c.args.engine.now (g.F.Folder.faults c.args.folder.now) c.loop.engine (g.F.Folder.faults c.loop.folder) c.args.most c.loop.counter c.loop.invariant.gone (omega (arith, c.loop-test.false, c.loop.auto.counter-end))
