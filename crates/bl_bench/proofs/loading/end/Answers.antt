use Rattle.std.proofs.Common.{refl}
use Rattle.bl_bench.proofs.KeptEntries.{adds}
use Rattle.bl_bench.proofs.loading.end.Goals as goal

pub returns : goal.returns
returns c = adds c.in-Ok.ensures.attempts refl c.requires
