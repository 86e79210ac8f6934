use Rattle.bl_engine_tests.proofs.TestRows.{no_properties}
use Rattle.bl_engine_tests.proofs.test_loads.no_properties.Goals as goal

pub returns-clause-valid : goal.returns-clause-valid
returns-clause-valid c = no_properties c.new.result c.new.ensures
