use Rattle.std.proofs.Common.{sym, ap, ◌∙◌, ◌==◌, not}
use Rattle.std.specs.FinMap as map
use Rattle.std.specs.Ordering.{nat_cmp}
use Rattle.std.specs.Option.{unwrap_or}
use Rattle.bl_outside.specs.OrderedSet as set
use Rattle.bl_graph.specs.Owners.{no_vertex}
use Rattle.bl_graph.proofs.tables.Tables.vertex.Goals as goal

pub returns-in-None-clause-known : goal.returns-in-None-clause-known
returns-in-None-clause-known c =
    sym (ap (λ n. not (n == 0)) (map.len-empty nat_cmp (Unit {0}))) ∙ ap (λ o. not (set.len (unwrap_or o no_vertex).own == 0)) c.in-None.ensures.value
