-- Fronts of changes.
use Rattle.std.specs.Prelude.{◌≡◌, ℕ, zero, suc, ◌+◌, List, [], ◌∷◌, ◌++◌, take, length, OnErr, refl}
use Rattle.std.specs.declared.result.Result.{Result}
use Rattle.std.specs.declared.result.Result.TheVariants.{Ok, Err}
use Rattle.std.proofs.Common.{sym, ap, ◌∙◌, append_assoc}
use Rattle.std.proofs.Math.Seq.{take-append-add}
use Rattle.bl_value.specs.declared.change.Change.{Change}
use Rattle.bl_graph.specs.Graph.{Graph}
use Rattle.bl_graph.specs.Replay.{IsAfterFront, after}
use Rattle.bl_graph.proofs.Replayed.{after-append}

pub on_err : {T E : Type 0} (result : Result T E) (P : Type 0) → P → OnErr result P
on_err (Ok x) P p = tt
on_err (Err e) P p = p

-- a front of a list is one of a longer list
longer : (k : ℕ) (changes more : List Change) → take (length (take k changes)) (changes ++ more) ≡ take k changes
longer zero changes more = refl
longer (suc k) [] more = refl
longer (suc k) (change ∷ changes) more = ap (λ front. change ∷ front) (longer k changes more)

-- A front of the changes in the midst is one of all, where those before are applied.
pub front_of_all : (start graph next : Graph) (before changes more all : List Change) → after start before ≡ graph → all ≡ (before ++ changes) ++ more → IsAfterFront graph changes next → IsAfterFront start all next
front_of_all start graph next before changes more all stands is front = record {
  count = length before + length (take front.count changes);
  is =
      front.is ∙ ap (λ g. after g (take front.count changes)) (sym stands) ∙ sym (after-append start before (take front.count changes))
      ∙ sym
      (ap (λ them. after start (take (length before + length (take front.count changes)) them)) (is ∙ append_assoc before changes more)
      ∙ ap (after start) (take-append-add before (changes ++ more) (length (take front.count changes)) ∙ ap (λ front. before ++ front) (longer front.count changes more)));
}
