-- Tables that say the same, with more places and numbers.
use Rattle.bl_graph.specs.declared.tables.Tables.{Tables}
use Rattle.bl_graph.specs.Numbered.{IsFront}
use Rattle.bl_graph.specs.Owners.{AreSame, no_vertex, no_edge}

pub record IsGrown (old new : Tables) : Type 0 where
  pub names : IsFront old.names new.names
  pub vertices : AreSame no_vertex old.vertices.entries new.vertices.entries
  pub edges : AreSame no_edge old.edges.entries new.edges.entries
