use Rattle.bl_world_tests.proofs.TestRows.{one_valid}
use Rattle.bl_world_tests.proofs.tests.one_row.Goals as goal

pub returns-clause-valid : goal.returns-clause-valid
returns-clause-valid c = one_valid c.new-rows.result c.push.new.self _ c.new-rows.ensures c.in_ok-push.ensures.ok tt
