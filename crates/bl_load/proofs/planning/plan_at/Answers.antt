use Rattle.std.proofs.Common.{sym, subst}
use Rattle.bl_load.specs.Finding.{AreListed}
use Rattle.bl_load.proofs.PlannedNames.{one_listed}
use Rattle.bl_load.proofs.planning.plan_at.Goals as goal

pub plan_names-requires-clause-names : goal.plan_names-requires-clause-names
plan_names-requires-clause-names g c = subst AreListed (sym c.in_ok-no_name-in-Ok-OneFile.ensures) one_listed
