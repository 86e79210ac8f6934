-- What is found of an edge.
use Rattle.std.specs.declared.option.Option.{Option}
use Rattle.std.specs.Option.{option_map}
use Rattle.bl_graph.specs.declared.found.FoundEdge.{FoundEdge}
use Rattle.bl_graph.specs.declared.found.FoundEnds.{FoundEnds}
use Rattle.bl_graph.specs.Graph.{Ends}

abbrev pub ends_in : FoundEnds → Ends
ends_in ends = record { label = ends.label.now; from = ends.from.now; to = ends.to.now }

abbrev pub ends_found : FoundEdge → Option Ends
ends_found edge = option_map ends_in edge.ends
