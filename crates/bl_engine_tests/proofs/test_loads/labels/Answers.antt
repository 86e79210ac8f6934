use Rattle.bl_engine_tests.proofs.TestRows.{one_label}
use Rattle.bl_engine_tests.proofs.test_loads.labels.Goals as goal

pub returns : goal.returns
returns c = one_label c.new-labels.result c.push.new.self c.in_ok-label.label c.new-labels.ensures c.in-Ok.ensures.ok c.in_ok-label.ensures
