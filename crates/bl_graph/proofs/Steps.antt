-- The changes of a graph, by the numbers of its texts.
use Rattle.std.specs.Prelude.{◌≡◌, ℕ, ◌<◌, nat_eq, Bool, true, false, cond, if◌then◌else◌, List, [], length, slice_get, position, Some, None, IfSome, refl}
use Rattle.std.specs.declared.option.Option.{Option}
use Rattle.std.specs.Option.{unwrap_or, option_map}
use Rattle.std.proofs.Common.{sym, ap, subst, ◌∙◌, get_or}
use Rattle.std.proofs.lemmas.List.Quantifiers.{position-Some}
use Rattle.std.proofs.lemmas.Option.{slice_get-get_or, slice_get_within}
use Rattle.std.specs.declared.cmp.Ordering.{Ordering}
use Rattle.std.specs.Cmp.{IsTotalOrder}
use Rattle.std.specs.Map.{keys_of}
use Rattle.std.specs.Cmp.Lexicographic.{pointwise, nat_list_cmp_total}
use Rattle.std.specs.FinMap as map
use Rattle.bl_outside.specs.OrderedSet as set
use Rattle.bl_value.specs.declared.value.Value.{Value}
use Rattle.bl_value.specs.declared.column.Side.TheVariants.{Vertex as vertex, Edge as edge}
use Rattle.bl_value.specs.declared.change.Change.TheVariants.{AddLabel, AddEdge, AddValue, RemoveValue}
use Rattle.bl_graph.specs.declared.owner.Owner.{Owner}
use Rattle.bl_graph.specs.declared.owner.Ends.{Ends as EndNumbers}
use Rattle.bl_graph.specs.Graph.{Values, at_key, keys_in}
use Rattle.bl_graph.specs.Replay.{after_one, with_values_in}
use Rattle.bl_graph.specs.Numbered.{ByNumber, written, filled, named, at_number, IsBelow}
use Rattle.bl_graph.specs.Owners.{AreWithin, IsPlace, IsSet, IsSound, Vertex, Edge, bare, no_vertex, no_edge, found, owner_at, kept, labels_said, values_said, ends_said, ends_at, ends_of, graph_of, with_label, with_ends, with_value, without_value}
use Rattle.bl_graph.proofs.Maps.{set_with}
use Rattle.bl_graph.proofs.Named.{named_written, named_at, named_missing, none_named, below_written, equal_texts}
use Rattle.bl_graph.proofs.Kept.{get_kept, kept_written, kept_same, refilled, no_labels, no_values, keys_said, values_written, removed_none, keys_length}
use Rattle.bl_graph.proofs.Places.{owner_set, keys_set, key_at}
use Rattle.bl_graph.proofs.ValueOrder.{value_cmp_total}

-- the text of a number
pub text_at : (names : List (List ℕ)) (text : List ℕ) (n : ℕ) → position (pointwise nat_eq text) names ≡ Some n → slice_get names n ≡ Some text
text_at names text n at =
    let p = position-Some (pointwise nat_eq text) names n [] at in
    slice_get-get_or names n [] p.0 ∙ ap Some (sym (equal_texts text (get_or names n []) p.1))

pub number_within : (names : List (List ℕ)) (text : List ℕ) (n : ℕ) → position (pointwise nat_eq text) names ≡ Some n → n < length names
number_within names text n at = (position-Some (pointwise nat_eq text) names n [] at).0

pub id_at : {X : Type 0} (es : List (List ℕ × X)) (id : List ℕ) (place : ℕ) → IsPlace es id place → slice_get (keys_of es) place ≡ Some id
id_at es id place there = key_at es place ∙ ap (option_map (λ e. e.0)) there.at

pub place_within : {X : Type 0} (es : List (List ℕ × X)) (id : List ℕ) (place : ℕ) → IsPlace es id place → place < length es
place_within es id place there = slice_get_within es place (id, there.owner) there.at

same_but : {Y Z : Type 0} (f : Y → Z) (none : Y) (es : List (List ℕ × Y)) (id q : List ℕ) (r : Y) (b : Bool) → pointwise nat_eq id q ≡ b → f r ≡ f (owner_at none es id) → f (cond b r (owner_at none es q)) ≡ f (owner_at none es q)
same_but f none es id q r true is h = h ∙ ap (λ t. f (owner_at none es t)) (equal_texts id q is)
same_but f none es id q r false is h = refl

holds_but : {Y : Type 0} (P : Y → Type 0) (r y : Y) (b : Bool) → P r → P y → P (cond b r y)
holds_but P r y true p q = p
holds_but P r y false p q = q

filled_with : {K : Type 0} {R : K → K → Ordering} → IsTotalOrder R → (s : set.OrderedSet R) (k : K) → filled (set.insert s k) ≡ Some (set.insert s k)
filled_with o s k = ap (λ b. if b then None else Some (set.insert s k)) (set_with o s k)

module _ (names : List (List ℕ)) (vs : List (List ℕ × Vertex)) (es : List (List ℕ × Edge)) (sound : IsSound names vs es) where
  -- ---- at a vertex
  module _ (vs2 : List (List ℕ × Vertex)) (id : List ℕ) (place : ℕ) (there : IsPlace vs id place) (f : Vertex → Vertex) (set_there : IfSome (slice_get vs place) (λ e. IsSet vs vs2 e.0 (f e.1))) where
    vertex_at : (q : List ℕ) → owner_at no_vertex vs2 q ≡ cond (pointwise nat_eq id q) (f (owner_at no_vertex vs id)) (owner_at no_vertex vs q)
    vertex_at = owner_set no_vertex vs vs2 id place there f set_there

    ids_same : keys_of vs2 ≡ keys_of vs
    ids_same = keys_set no_vertex vs vs2 id place there f set_there

    length_same : length vs2 ≡ length vs
    length_same = sym (keys_length vs2) ∙ ap length ids_same ∙ keys_length vs

    same_own : (f (owner_at no_vertex vs id)).own ≡ (owner_at no_vertex vs id).own → kept (labels_said names) vs2 ≡ kept (labels_said names) vs
    same_own h = kept_same (labels_said names) (labels_said names) no_vertex no_vertex (no_labels names) (no_labels names) vs vs2
        (λ q. ap (labels_said names) (vertex_at q) ∙ same_but (labels_said names) no_vertex vs id q (f (owner_at no_vertex vs id)) (pointwise nat_eq id q) refl (ap (λ own. filled (named names own)) h))

    same_values : (f (owner_at no_vertex vs id)).values ≡ (owner_at no_vertex vs id).values → kept (values_said names) vs2 ≡ kept (values_said names) vs
    same_values h = kept_same (values_said names) (values_said names) no_vertex no_vertex (no_values {X = ByNumber (Unit {0})} names set.empty) (no_values {X = ByNumber (Unit {0})} names set.empty) vs vs2
        (λ q. ap (values_said names) (vertex_at q) ∙ same_but (values_said names) no_vertex vs id q (f (owner_at no_vertex vs id)) (pointwise nat_eq id q) refl (ap (λ values. filled (named names values)) h))

    same_edges : kept (ends_said names (keys_of vs2)) es ≡ kept (ends_said names (keys_of vs)) es
    same_edges = ap (λ ids. kept (ends_said names ids) es) ids_same

    sound_vertex : IsBelow (length names) (f (owner_at no_vertex vs id)).own → IsBelow (length names) (f (owner_at no_vertex vs id)).values → IsSound names vs2 es
    sound_vertex own values = record {
      labels = λ q. subst (λ o. IsBelow (length names) o.own) (sym (vertex_at q)) (holds_but (λ o. IsBelow (length names) o.own) (f (owner_at no_vertex vs id)) (owner_at no_vertex vs q) (pointwise nat_eq id q) own (sound.labels q));
      vertex_values = λ q. subst (λ o. IsBelow (length names) o.values) (sym (vertex_at q)) (holds_but (λ o. IsBelow (length names) o.values) (f (owner_at no_vertex vs id)) (owner_at no_vertex vs q) (pointwise nat_eq id q) values (sound.vertex_values q));
      ends = λ q. subst (λ n. AreWithin (length names) n (owner_at no_edge es q).own) (sym length_same) (sound.ends q);
      edge_values = sound.edge_values;
    }

  -- ---- at an edge
  module _ (es2 : List (List ℕ × Edge)) (id : List ℕ) (place : ℕ) (there : IsPlace es id place) (f : Edge → Edge) (set_there : IfSome (slice_get es place) (λ e. IsSet es es2 e.0 (f e.1))) where
    edge_at : (q : List ℕ) → owner_at no_edge es2 q ≡ cond (pointwise nat_eq id q) (f (owner_at no_edge es id)) (owner_at no_edge es q)
    edge_at = owner_set no_edge es es2 id place there f set_there

    same_ends : (f (owner_at no_edge es id)).own ≡ (owner_at no_edge es id).own → kept (ends_said names (keys_of vs)) es2 ≡ kept (ends_said names (keys_of vs)) es
    same_ends h = kept_same (ends_said names (keys_of vs)) (ends_said names (keys_of vs)) no_edge no_edge refl refl es es2
        (λ q. ap (ends_said names (keys_of vs)) (edge_at q) ∙ same_but (ends_said names (keys_of vs)) no_edge es id q (f (owner_at no_edge es id)) (pointwise nat_eq id q) refl (ap (ends_of names (keys_of vs)) h))

    same_edge_values : (f (owner_at no_edge es id)).values ≡ (owner_at no_edge es id).values → kept (values_said names) es2 ≡ kept (values_said names) es
    same_edge_values h = kept_same (values_said names) (values_said names) no_edge no_edge (no_values {X = Option EndNumbers} names None) (no_values {X = Option EndNumbers} names None) es es2
        (λ q. ap (values_said names) (edge_at q) ∙ same_but (values_said names) no_edge es id q (f (owner_at no_edge es id)) (pointwise nat_eq id q) refl (ap (λ values. filled (named names values)) h))

    sound_edge : AreWithin (length names) (length vs) (f (owner_at no_edge es id)).own → IsBelow (length names) (f (owner_at no_edge es id)).values → IsSound names vs es2
    sound_edge own values = record {
      labels = sound.labels;
      vertex_values = sound.vertex_values;
      ends = λ q. subst (λ o. AreWithin (length names) (length vs) o.own) (sym (edge_at q)) (holds_but (λ o. AreWithin (length names) (length vs) o.own) (f (owner_at no_edge es id)) (owner_at no_edge es q) (pointwise nat_eq id q) own (sound.ends q));
      edge_values = λ q. subst (λ o. IsBelow (length names) o.values) (sym (edge_at q)) (holds_but (λ o. IsBelow (length names) o.values) (f (owner_at no_edge es id)) (owner_at no_edge es q) (pointwise nat_eq id q) values (sound.edge_values q));
    }

  -- ---- what is written at a key
  module _ {X : Type 0} (own : X) (owners : List (List ℕ × Owner X)) (id key : List ℕ) (n : ℕ) (value : Value) (at : position (pointwise nat_eq key) names ≡ Some n) where
    abbrev old_values : ByNumber Values
    old_values = (owner_at (bare own) owners id).values

    at_is : at_number old_values n ≡ at_key (keys_in (kept (values_said names) owners) id) key
    at_is = ap (λ (o : Option Values). unwrap_or o set.empty) (sym (named_at names old_values key n None at)) ∙ ap (λ m. at_key m key) (sym (keys_said names own owners owners id))

    given_is : named names (map.insert old_values n (set.insert (at_number old_values n) value)) ≡ written (named names old_values) key (filled (set.insert (at_key (keys_in (kept (values_said names) owners) id) key) value))
    given_is =
        named_written names old_values key n (Some (set.insert (at_number old_values n) value)) at
        ∙ ap (written (named names old_values) key) (ap (λ s. Some (set.insert s value)) at_is ∙ sym (filled_with value_cmp_total (at_key (keys_in (kept (values_said names) owners) id) key) value))

    taken_is : named names (written old_values n (filled (set.remove (at_number old_values n) value))) ≡ written (named names old_values) key (filled (set.remove (at_key (keys_in (kept (values_said names) owners) id) key) value))
    taken_is =
        named_written names old_values key n (filled (set.remove (at_number old_values n) value)) at
        ∙ ap (λ s. written (named names old_values) key (filled (set.remove s value))) at_is

  -- ---- the changes
  module _ (vs2 : List (List ℕ × Vertex)) (id : List ℕ) (place : ℕ) (there : IsPlace vs id place) where
    label_set : (label : List ℕ) (n : ℕ) → position (pointwise nat_eq label) names ≡ Some n → IfSome (slice_get vs place) (λ e. IsSet vs vs2 e.0 (with_label e.1 n)) → kept (labels_said names) vs2 ≡ map.insert (kept (labels_said names) vs) id (set.insert (unwrap_or (map.get (kept (labels_said names) vs) id) set.empty) label)
    label_set label n at h =
        let old = (owner_at no_vertex vs id).own in
        kept_written (labels_said names) no_vertex (no_labels names) vs vs2 id (with_label (owner_at no_vertex vs id) n) (vertex_at vs2 id place there (λ o. with_label o n) h)
        ∙ ap (λ m. written (kept (labels_said names) vs) id (filled m)) (named_written names old label n (Some tt) at)
        ∙ ap (written (kept (labels_said names) vs) id) (filled_with nat_list_cmp_total (named names old) label)
        ∙ ap (λ s. map.insert (kept (labels_said names) vs) id (set.insert s label)) (sym (refilled (named names old)) ∙ ap (λ o. unwrap_or o set.empty) (sym (get_kept (labels_said names) no_vertex (no_labels names) vs id)))

    pub label_added : (label : List ℕ) (n : ℕ) → position (pointwise nat_eq label) names ≡ Some n → IfSome (slice_get vs place) (λ e. IsSet vs vs2 e.0 (with_label e.1 n)) → graph_of names vs2 es ≡ after_one (graph_of names vs es) (AddLabel id label)
    label_added label n at h =
        let f : Vertex → Vertex = λ o. with_label o n in
        λ i. record { labels = label_set label n at h i; edges = same_edges vs2 id place there f h i; vertex_values = same_values vs2 id place there f h refl i; edge_values = kept (values_said names) es }

    pub label_sound : (label : List ℕ) (n : ℕ) → position (pointwise nat_eq label) names ≡ Some n → IfSome (slice_get vs place) (λ e. IsSet vs vs2 e.0 (with_label e.1 n)) → IsSound names vs2 es
    label_sound label n at h =
        sound_vertex vs2 id place there (λ o. with_label o n) h (below_written (length names) (owner_at no_vertex vs id).own n (Some tt) (number_within names label n at) (sound.labels id)) (sound.vertex_values id)

    pub value_added : (key : List ℕ) (n : ℕ) (value : Value) → position (pointwise nat_eq key) names ≡ Some n → IfSome (slice_get vs place) (λ e. IsSet vs vs2 e.0 (with_value e.1 n value)) → graph_of names vs2 es ≡ after_one (graph_of names vs es) (AddValue vertex id key value)
    value_added key n value at h =
        let f : Vertex → Vertex = λ o. with_value o n value in
        let values = values_written names set.empty vs vs2 id key (set.insert (at_key (keys_in (kept (values_said names) vs) id) key) value) (f (owner_at no_vertex vs id)) (vertex_at vs2 id place there f h) (given_is set.empty vs id key n value at) in
        λ i. record { labels = same_own vs2 id place there f h refl i; edges = same_edges vs2 id place there f h i; vertex_values = values i; edge_values = kept (values_said names) es }

    pub value_sound : (key : List ℕ) (n : ℕ) (value : Value) → position (pointwise nat_eq key) names ≡ Some n → IfSome (slice_get vs place) (λ e. IsSet vs vs2 e.0 (with_value e.1 n value)) → IsSound names vs2 es
    value_sound key n value at h =
        sound_vertex vs2 id place there (λ o. with_value o n value) h (sound.labels id) (below_written (length names) (owner_at no_vertex vs id).values n (Some (set.insert (at_number (owner_at no_vertex vs id).values n) value)) (number_within names key n at) (sound.vertex_values id))

    pub value_taken : (key : List ℕ) (n : ℕ) (value : Value) → position (pointwise nat_eq key) names ≡ Some n → IfSome (slice_get vs place) (λ e. IsSet vs vs2 e.0 (without_value e.1 n value)) → graph_of names vs2 es ≡ after_one (graph_of names vs es) (RemoveValue vertex id key value)
    value_taken key n value at h =
        let f : Vertex → Vertex = λ o. without_value o n value in
        let values = values_written names set.empty vs vs2 id key (set.remove (at_key (keys_in (kept (values_said names) vs) id) key) value) (f (owner_at no_vertex vs id)) (vertex_at vs2 id place there f h) (taken_is set.empty vs id key n value at) in
        λ i. record { labels = same_own vs2 id place there f h refl i; edges = same_edges vs2 id place there f h i; vertex_values = values i; edge_values = kept (values_said names) es }

    pub value_taken_sound : (key : List ℕ) (n : ℕ) (value : Value) → position (pointwise nat_eq key) names ≡ Some n → IfSome (slice_get vs place) (λ e. IsSet vs vs2 e.0 (without_value e.1 n value)) → IsSound names vs2 es
    value_taken_sound key n value at h =
        sound_vertex vs2 id place there (λ o. without_value o n value) h (sound.labels id) (below_written (length names) (owner_at no_vertex vs id).values n (filled (set.remove (at_number (owner_at no_vertex vs id).values n) value)) (number_within names key n at) (sound.vertex_values id))

  module _ (es2 : List (List ℕ × Edge)) (id : List ℕ) (place : ℕ) (there : IsPlace es id place) where
    pub edge_value_added : (key : List ℕ) (n : ℕ) (value : Value) → position (pointwise nat_eq key) names ≡ Some n → IfSome (slice_get es place) (λ e. IsSet es es2 e.0 (with_value e.1 n value)) → graph_of names vs es2 ≡ after_one (graph_of names vs es) (AddValue edge id key value)
    edge_value_added key n value at h =
        let f : Edge → Edge = λ o. with_value o n value in
        let values = values_written names None es es2 id key (set.insert (at_key (keys_in (kept (values_said names) es) id) key) value) (f (owner_at no_edge es id)) (edge_at es2 id place there f h) (given_is None es id key n value at) in
        λ i. record { labels = kept (labels_said names) vs; edges = same_ends es2 id place there f h refl i; vertex_values = kept (values_said names) vs; edge_values = values i }

    pub edge_value_sound : (key : List ℕ) (n : ℕ) (value : Value) → position (pointwise nat_eq key) names ≡ Some n → IfSome (slice_get es place) (λ e. IsSet es es2 e.0 (with_value e.1 n value)) → IsSound names vs es2
    edge_value_sound key n value at h =
        sound_edge es2 id place there (λ o. with_value o n value) h (sound.ends id) (below_written (length names) (owner_at no_edge es id).values n (Some (set.insert (at_number (owner_at no_edge es id).values n) value)) (number_within names key n at) (sound.edge_values id))

    pub edge_value_taken : (key : List ℕ) (n : ℕ) (value : Value) → position (pointwise nat_eq key) names ≡ Some n → IfSome (slice_get es place) (λ e. IsSet es es2 e.0 (without_value e.1 n value)) → graph_of names vs es2 ≡ after_one (graph_of names vs es) (RemoveValue edge id key value)
    edge_value_taken key n value at h =
        let f : Edge → Edge = λ o. without_value o n value in
        let values = values_written names None es es2 id key (set.remove (at_key (keys_in (kept (values_said names) es) id) key) value) (f (owner_at no_edge es id)) (edge_at es2 id place there f h) (taken_is None es id key n value at) in
        λ i. record { labels = kept (labels_said names) vs; edges = same_ends es2 id place there f h refl i; vertex_values = kept (values_said names) vs; edge_values = values i }

    pub edge_value_taken_sound : (key : List ℕ) (n : ℕ) (value : Value) → position (pointwise nat_eq key) names ≡ Some n → IfSome (slice_get es place) (λ e. IsSet es es2 e.0 (without_value e.1 n value)) → IsSound names vs es2
    edge_value_taken_sound key n value at h =
        sound_edge es2 id place there (λ o. without_value o n value) h (sound.ends id) (below_written (length names) (owner_at no_edge es id).values n (filled (set.remove (at_number (owner_at no_edge es id).values n) value)) (number_within names key n at) (sound.edge_values id))

    module _ (label from to : List ℕ) (ends : EndNumbers) (at_label : slice_get names ends.label ≡ Some label) (at_from : slice_get (keys_of vs) ends.from ≡ Some from) (at_to : slice_get (keys_of vs) ends.to ≡ Some to) (h : IfSome (slice_get es place) (λ e. IsSet es es2 e.0 (with_ends e.1 ends))) where
      said : ends_of names (keys_of vs) (Some ends) ≡ Some (record { label = label; from = from; to = to })
      said = λ i. ends_at (at_label i) (at_from i) (at_to i)

      pub edge_added : graph_of names vs es2 ≡ after_one (graph_of names vs es) (AddEdge id label from to)
      edge_added =
          let f : Edge → Edge = λ o. with_ends o ends in
          let edges = kept_written (ends_said names (keys_of vs)) no_edge refl es es2 id (f (owner_at no_edge es id)) (edge_at es2 id place there f h) ∙ ap (written (kept (ends_said names (keys_of vs)) es) id) said in
          λ i. record { labels = kept (labels_said names) vs; edges = edges i; vertex_values = kept (values_said names) vs; edge_values = same_edge_values es2 id place there f h refl i }

      pub edge_sound : IsSound names vs es2
      edge_sound =
          sound_edge es2 id place there (λ o. with_ends o ends) h (slice_get_within names ends.label label at_label, subst (λ n. ends.from < n) (keys_length vs) (slice_get_within (keys_of vs) ends.from from at_from), subst (λ n. ends.to < n) (keys_length vs) (slice_get_within (keys_of vs) ends.to to at_to)) (sound.edge_values id)

-- ---- removed in vain

module _ {X : Type 0} (names : List (List ℕ)) (own : X) (owners : List (List ℕ × Owner X)) (id key : List ℕ) (value : Value) where
  -- where the owner has no value at the key
  in_vain : map.get (named names (owner_at (bare own) owners id).values) key ≡ None → kept (values_said names) owners ≡ with_values_in (kept (values_said names) owners) id key (set.remove (at_key (keys_in (kept (values_said names) owners) id) key) value)
  in_vain none =
      values_written names own owners owners id key (set.remove (at_key (keys_in (kept (values_said names) owners) id) key) value) (owner_at (bare own) owners id) (λ q. sym (by q (pointwise nat_eq id q) refl))
      (removed_none (named names (owner_at (bare own) owners id).values) key value none ∙ ap (λ m. written (named names (owner_at (bare own) owners id).values) key (filled (set.remove (at_key m key) value))) (sym (keys_said names own owners owners id)))
    where
      by : (q : List ℕ) (b : Bool) → pointwise nat_eq id q ≡ b → cond b (owner_at (bare own) owners id) (owner_at (bare own) owners q) ≡ owner_at (bare own) owners q
      by q true is = ap (owner_at (bare own) owners) (equal_texts id q is)
      by q false is = refl

  pub no_key : position (pointwise nat_eq key) names ≡ None → kept (values_said names) owners ≡ with_values_in (kept (values_said names) owners) id key (set.remove (at_key (keys_in (kept (values_said names) owners) id) key) value)
  no_key none = in_vain (named_missing names (owner_at (bare own) owners id).values key none)

  pub no_owner : found owners id ≡ None → kept (values_said names) owners ≡ with_values_in (kept (values_said names) owners) id key (set.remove (at_key (keys_in (kept (values_said names) owners) id) key) value)
  no_owner none = in_vain (ap (λ o. map.get (named names (unwrap_or o (bare own)).values) key) none ∙ none_named names key)
