use Rattle.std.proofs.Common.{subst, sym}
use Rattle.bl_cli.specs.Ends.{IsOfScript}
use Rattle.bl_cli.specs.ScriptRuns.{LeavesEngine, input_of}
use Rattle.bl_cli.proofs.ScriptedStores.{ends_script, leaves_engine}
use Rattle.bl_cli.proofs.scripts.script_over.Goals as goal

pub returns-clause-scripts : goal.returns-clause-scripts
returns-clause-scripts g c = record { result = c.run_script-came.result.0; plays = c.run_script-came.ensures.runs.plays; status_is = c.script_status.ensures }

pub returns-clause-leaves : goal.returns-clause-leaves
returns-clause-leaves g c =
    let input = input_of (g.S.Source.left c.args.input.now) (g.S.Source.faults c.args.input.now) (g.S.Source.faults c.run_script-came.new.input) (g.F.Folder.faults c.args.folder.now) in
    subst (λ s. LeavesEngine g.D.Disk (g.F.Folder.files c.args.folder.now) input c.args.engine c.run_script-came.result.1 (g.O.Sink.faults c.args.out.now) (g.O.Sink.faults c.run_script-came.new.out) s) (sym c.script_status.ensures)
    (leaves_engine g.D.Disk (g.F.Folder.files c.args.folder.now) input c.args.engine c.run_script-came.result.1 (g.O.Sink.faults c.args.out.now) (g.O.Sink.faults c.run_script-came.new.out) c.run_script-came.result.0
    c.run_script-came.ensures.runs.drains c.run_script-came.ensures.runs.keeps c.run_script-came.ensures.read_fault c.run_script-came.ensures.write_fault c.run_script-came.ensures.runs.store_fault c.run_script-came.ensures.runs.never_bad)

pub returns-clause-ends : goal.returns-clause-ends
returns-clause-ends g c = subst IsOfScript (sym c.script_status.ensures) (ends_script c.run_script-came.result.0)
