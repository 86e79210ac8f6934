use Rattle.std.proofs.Common.{◌≡◌, subst, sym}
use Rattle.std.proofs.lemmas.Result.{IfOk-weaker}
use Rattle.bl_graph.specs.Admission.{admit}
use Rattle.bl_graph.specs.Admitted.{DoesFit, IsProperRow, SaysNothingNew}
use Rattle.bl_graph.specs.WithRow.{IsTaken}
use Rattle.bl_graph.proofs.Admitted.{admitted_fits}
use Rattle.bl_graph.proofs.Duplicates.{duplicate_has}
use Rattle.bl_graph.proofs.Taken.{admitted_taken}
use Rattle.bl_graph.proofs.graph.Graph.admit.Goals as goal

pub returns-clause-fit : goal.returns-clause-fit
returns-clause-fit c =
    IfOk-weaker c.admit_row.result (λ verdict. verdict ≡ admit c.args.self.now c.args.update_single c.args.row.now) (λ verdict. IsProperRow c.args.row.now → DoesFit c.args.self.now verdict)
    (λ verdict is proper. subst (DoesFit c.args.self.now) (sym is) (admitted_fits c.args.self.now c.args.update_single c.args.row.now proper)) c.admit_row.ensures

pub returns-clause-taken : goal.returns-clause-taken
returns-clause-taken c =
    IfOk-weaker c.admit_row.result (λ verdict. verdict ≡ admit c.args.self.now c.args.update_single c.args.row.now) (λ verdict. IsProperRow c.args.row.now → IsTaken c.args.self.now c.args.row.now verdict)
    (λ verdict is proper. subst (IsTaken c.args.self.now c.args.row.now) (sym is) (admitted_taken c.args.self.now c.args.update_single c.args.row.now proper)) c.admit_row.ensures

pub returns-clause-duplicate : goal.returns-clause-duplicate
returns-clause-duplicate c =
    IfOk-weaker c.admit_row.result (λ verdict. verdict ≡ admit c.args.self.now c.args.update_single c.args.row.now) (SaysNothingNew c.args.self.now c.args.row.now)
    (λ verdict is. subst (SaysNothingNew c.args.self.now c.args.row.now) (sym is) (duplicate_has c.args.self.now c.args.update_single c.args.row.now)) c.admit_row.ensures
