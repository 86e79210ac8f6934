-- What stands at a key after other values were put there, and what stands elsewhere.
use Rattle.std.specs.Prelude.{◌≡◌, ◌==◌, ℕ, Bool, true, false, cond, if◌then◌else◌, List, Some, None, refl}
use Rattle.std.specs.Option.{unwrap_or}
use Rattle.std.proofs.Common.{sym, ap, ◌∙◌}
use Rattle.std.specs.Ordering.{nat_cmp, eq_by_cmp}
use Rattle.std.specs.Cmp.Lexicographic.{slice_cmp, nat_list_cmp_total}
use Rattle.std.specs.FinMap as map
use Rattle.bl_outside.specs.OrderedSet as set
use borrow.Author.Tests.{eqb-true}
use Rattle.bl_value.specs.declared.column.Side.{Side}
use Rattle.bl_value.specs.declared.column.Side.TheVariants.{Vertex, Edge}
use Rattle.bl_graph.specs.Graph.{Graph, Values, ByText, Properties, at_key, keys_in, values_at, has_owner}
use Rattle.bl_graph.specs.Replay.{with_values, with_keys, with_values_in, with_values_at}
use Rattle.bl_graph.proofs.Maps.{itself}

module _ {X : Type 0} (m : ByText X) (k : List ℕ) (x d : X) where
  stored : (none : Bool) → (none ≡ true → x ≡ d) → unwrap_or (map.get (if none then map.remove m k else map.insert m k x) k) d ≡ x
  stored true is = ap (λ o. unwrap_or o d) (map.get-remove nat_list_cmp_total m k k ∙ ap (λ b. cond b None (map.get m k)) (itself nat_list_cmp_total k)) ∙ sym (is refl)
  stored false is = ap (λ o. unwrap_or o d) (map.get-insert nat_list_cmp_total m k x k ∙ ap (λ b. cond b (Some x) (map.get m k)) (itself nat_list_cmp_total k))

  elsewhere : (none : Bool) (q : List ℕ) → eq_by_cmp (slice_cmp nat_cmp) q k ≡ false → unwrap_or (map.get (if none then map.remove m k else map.insert m k x) q) d ≡ unwrap_or (map.get m q) d
  elsewhere true q h = ap (λ o. unwrap_or o d) (map.get-remove nat_list_cmp_total m k q ∙ ap (λ b. cond b None (map.get m q)) h)
  elsewhere false q h = ap (λ o. unwrap_or o d) (map.get-insert nat_list_cmp_total m k x q ∙ ap (λ b. cond b (Some x) (map.get m q)) h)

keys_back : (all : Properties) (id : List ℕ) (keys : ByText Values) → keys_in (with_keys all id keys) id ≡ keys
keys_back all id keys = stored all id keys map.empty (map.len keys == 0) (λ h. map.empty_of_len keys (eqb-true (map.len keys) 0 h))

values_back : (keys : ByText Values) (key : List ℕ) (values : Values) → at_key (with_values keys key values) key ≡ values
values_back keys key values = stored keys key values set.empty (set.len values == 0) (λ h. map.empty_of_len values (eqb-true (set.len values) 0 h))

pub read_back : (all : Properties) (id key : List ℕ) (values : Values) → at_key (keys_in (with_values_in all id key values) id) key ≡ values
read_back all id key values = ap (λ m. at_key m key) (keys_back all id (with_values (keys_in all id) key values)) ∙ values_back (keys_in all id) key values

pub read_apart : (all : Properties) (id key : List ℕ) (values : Values) (other : List ℕ) → eq_by_cmp (slice_cmp nat_cmp) other key ≡ false → at_key (keys_in (with_values_in all id key values) id) other ≡ at_key (keys_in all id) other
read_apart all id key values other h =
    ap (λ m. at_key m other) (keys_back all id (with_values (keys_in all id) key values)) ∙ elsewhere (keys_in all id) key values set.empty (set.len values == 0) other h

-- the values of another owner are as they were
pub other_owner : (all : Properties) (id key : List ℕ) (values : Values) (other at : List ℕ) → eq_by_cmp (slice_cmp nat_cmp) other id ≡ false → at_key (keys_in (with_values_in all id key values) other) at ≡ at_key (keys_in all other) at
other_owner all id key values other at h =
    ap (λ m. at_key m at) (elsewhere all id (with_values (keys_in all id) key values) map.empty (map.len (with_values (keys_in all id) key values) == 0) other h)

-- what was put at a key is there
pub values_there : (graph : Graph) (side : Side) (id key : List ℕ) (values : Values) → values_at (with_values_at graph side id key values) side id key ≡ values
values_there graph Vertex id key values = read_back graph.vertex_values id key values
values_there graph Edge id key values = read_back graph.edge_values id key values

-- at another key all is as it was
pub values_elsewhere : (graph : Graph) (side : Side) (id key : List ℕ) (values : Values) (other : List ℕ) → eq_by_cmp (slice_cmp nat_cmp) other key ≡ false → values_at (with_values_at graph side id key values) side id other ≡ values_at graph side id other
values_elsewhere graph Vertex id key values = read_apart graph.vertex_values id key values
values_elsewhere graph Edge id key values = read_apart graph.edge_values id key values

pub owner_stays : (graph : Graph) (side : Side) (id key : List ℕ) (values : Values) → has_owner (with_values_at graph side id key values) side id ≡ has_owner graph side id
owner_stays graph Vertex id key values = refl
owner_stays graph Edge id key values = refl
