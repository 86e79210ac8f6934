-- Tables that grew, and the graphs that they are.
use Rattle.std.specs.Prelude.{◌≡◌, ℕ, List, [], ◌++◌, OnOk, OnErr}
use Rattle.std.specs.declared.result.Result.{Result}
use Rattle.std.specs.declared.result.Result.TheVariants.{Ok, Err}
use Rattle.std.proofs.Common.{ap, ◌∙◌, append_assoc}
use Rattle.std.specs.Map.{keys_of}
use Rattle.bl_graph.specs.declared.tables.Tables.{Tables}
use Rattle.bl_graph.specs.Graph.{Graph}
use Rattle.bl_graph.specs.Grown.{IsGrown}
use Rattle.bl_graph.specs.Numbered.{IsFront}
use Rattle.bl_graph.specs.Owners.{AreSame, IsSound, graph_of}
use Rattle.bl_graph.proofs.Kept.{graph_grown, sound_grown}
use Rattle.bl_graph.proofs.Named.{below_empty}

-- what holds of both results
pub either_way : {A E P Q G : Type 0} (r : Result A E) → (P → G) → (Q → G) → OnOk r P → OnErr r Q → G
either_way (Ok x) f g p q = f p
either_way (Err e) f g p q = g q

pub always_err : {A E P : Type 0} (r : Result A E) → P → OnErr r P
always_err (Ok x) p = tt
always_err (Err e) p = p

pub front_then : {X : Type 0} (xs ys zs : List X) → IsFront xs ys → IsFront ys zs → IsFront xs zs
front_then xs ys zs p q = (p.0 ++ q.0, q.1 ∙ ap (λ l. l ++ q.0) p.1 ∙ append_assoc xs p.0 q.0)

pub same_then : {X : Type 0} (none : X) (a b c : List (List ℕ × X)) → AreSame none a b → AreSame none b c → AreSame none a c
same_then none a b c p q = record { at = λ id. q.at id ∙ p.at id; front = front_then (keys_of a) (keys_of b) (keys_of c) p.front q.front }

abbrev pub graph_in : Tables → Graph
graph_in t = graph_of t.names t.vertices.entries t.edges.entries

abbrev pub AreSound : Tables → Type 0
AreSound t = IsSound t.names t.vertices.entries t.edges.entries

module _ (a b : Tables) (grown : IsGrown a b) (sound : AreSound a) where
  pub grown_view : graph_in b ≡ graph_in a
  grown_view = graph_grown a.names b.names a.vertices.entries b.vertices.entries a.edges.entries b.edges.entries grown.names grown.vertices grown.edges sound

  pub grown_sound : AreSound b
  grown_sound = sound_grown a.names b.names a.vertices.entries b.vertices.entries a.edges.entries b.edges.entries grown.names grown.vertices grown.edges sound

-- tables without anything
pub sound_nothing : IsSound [] [] []
sound_nothing = record { labels = λ id. below_empty 0; vertex_values = λ id. below_empty 0; ends = λ id. tt; edge_values = λ id. below_empty 0 }
