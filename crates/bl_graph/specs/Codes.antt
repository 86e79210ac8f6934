-- How the logic stores the values of models: plumbing that no clause cites, which a reader can
-- skip.
use Rattle.std.specs.Prelude.{◌≡◌, ◌⊎◌, ℤ, ℕ, List, Bool as Truth, refl}
use Rattle.std.proofs.Common.{inl, inr}
use Rattle.std.specs.Coded.{Coded, code_by, coded×, coded⊎, coded_bool, coded_ℤ, coded_ℕ, coded_list}
use Rattle.std.specs.FinMap as map
use Rattle.bl_outside.specs.OrderedSet as set
use Rattle.bl_value.specs.declared.value.Value.{Value}
use Rattle.bl_value.specs.declared.value.Value.TheVariants.{Bool, Byte, Short, Int, Long, Str, Date}
use Rattle.bl_graph.specs.Graph.{Texts, Values, ByText, Properties, Ends, Graph}
use Rattle.bl_graph.specs.Numbered.{ByNumber}
use base.Stored.{coded_unit}

abbrev Numbers : Type 0
Numbers = ℤ ⊎ (ℤ ⊎ (ℤ ⊎ (ℤ ⊎ ℤ)))

abbrev cases : Value → Truth ⊎ (List ℕ ⊎ Numbers)
cases (Bool b) = inl b
cases (Str t) = inr (inl t)
cases (Byte n) = inr (inr (inl n))
cases (Short n) = inr (inr (inr (inl n)))
cases (Int n) = inr (inr (inr (inr (inl n))))
cases (Long n) = inr (inr (inr (inr (inr (inl n)))))
cases (Date n) = inr (inr (inr (inr (inr (inr n)))))

abbrev from_cases : Truth ⊎ (List ℕ ⊎ Numbers) → Value
from_cases (inl b) = Bool b
from_cases (inr (inl t)) = Str t
from_cases (inr (inr (inl n))) = Byte n
from_cases (inr (inr (inr (inl n)))) = Short n
from_cases (inr (inr (inr (inr (inl n))))) = Int n
from_cases (inr (inr (inr (inr (inr (inl n)))))) = Long n
from_cases (inr (inr (inr (inr (inr (inr n)))))) = Date n

pub from_cases-cases : (v : Value) → from_cases (cases v) ≡ v
from_cases-cases (Bool b) = refl
from_cases-cases (Byte n) = refl
from_cases-cases (Short n) = refl
from_cases-cases (Int n) = refl
from_cases-cases (Long n) = refl
from_cases-cases (Str t) = refl
from_cases-cases (Date n) = refl

abbrev pub text_code : Coded (List ℕ)
text_code = coded_list coded_ℕ

abbrev pub value_code : Coded Value
value_code =
    code_by (Truth ⊎ (List ℕ ⊎ Numbers))
    (coded⊎ coded_bool (coded⊎ text_code
    (coded⊎ coded_ℤ (coded⊎ coded_ℤ (coded⊎ coded_ℤ (coded⊎ coded_ℤ coded_ℤ)))))) cases
    from_cases from_cases-cases

abbrev pub texts_code : Coded Texts
texts_code = set.code text_code

abbrev pub values_code : Coded Values
values_code = set.code value_code

abbrev pub numbers_code : Coded (ByNumber (Unit {0}))
numbers_code = map.code coded_ℕ coded_unit

abbrev pub numbered_code : Coded (ByNumber Values)
numbered_code = map.code coded_ℕ values_code

abbrev pub keys_code : Coded (ByText Values)
keys_code = map.code text_code values_code

abbrev pub properties_code : Coded Properties
properties_code = map.code text_code keys_code

abbrev pub labels_code : Coded (ByText Texts)
labels_code = map.code text_code texts_code

abbrev pub ends_code : Coded Ends
ends_code =
    code_by (List ℕ × (List ℕ × List ℕ)) (coded× text_code (coded× text_code text_code))
    (λ e. (e.label, (e.from, e.to))) (λ p. record { label = p.0; from = p.1.0; to = p.1.1 })
    (λ _. refl)

abbrev pub edges_code : Coded (ByText Ends)
edges_code = map.code text_code ends_code

abbrev pub graph_code : Coded Graph
graph_code =
    code_by ((ByText Texts × ByText Ends) × (Properties × Properties))
    (coded× (coded× labels_code edges_code) (coded× properties_code properties_code))
    (λ g. ((g.labels, g.edges), (g.vertex_values, g.edge_values)))
    (λ p. record { labels = p.0.0; edges = p.0.1; vertex_values = p.1.0; edge_values = p.1.1 })
    (λ _. refl)
