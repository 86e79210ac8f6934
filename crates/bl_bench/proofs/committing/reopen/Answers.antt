use Rattle.std.proofs.Common.{◌∙◌, ap}
use Rattle.bl_bench.specs.Committing.{entries_of}
use Rattle.bl_bench.proofs.KeptEntries.{is_load}
use Rattle.bl_bench.proofs.committing.reopen.Goals as goal

pub returns : goal.returns
returns c =
    is_load c.args.rows c.in_ok-rows.rows c.in_ok-engine.engine.world.entries c.of.result c.in_ok-rows.ensures.0
    (c.in_ok-engine.ensures.kept (entries_of c.in_ok-rows.rows) c.in_ok-stored.ensures.keeps ∙ ap entries_of c.in_ok-rows.ensures.0)
    c.of.ensures.rows c.of.ensures.entries
