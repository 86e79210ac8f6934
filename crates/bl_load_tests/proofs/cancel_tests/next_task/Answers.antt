use Rattle.std.proofs.Common.{subst, sym}
use Rattle.bl_load.specs.Tasks.{IsTask}
use Rattle.bl_load.proofs.PreparedTurns.{tasks_are_tasks}
use Rattle.bl_load_tests.proofs.cancel_tests.next_task.Goals as goal

pub returns : goal.returns
returns g c =
    let leads = c.is_ready.ensures.leads c.if-prove.false in
    subst IsTask (sym c.in_ok-task.ensures.task) (tasks_are_tasks leads.0 c.task.new.self.world leads.1)
