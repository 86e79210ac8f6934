use Rattle.std.proofs.Common.{◌≡◌, ◌≢◌, ◌++◌, ◌∷◌, [], sym, ap, subst, ◌∙◌, append_assoc, nat_eq}
use Rattle.std.specs.List.{All, IsDistinct}
use Rattle.std.specs.Cmp.Lexicographic.{pointwise}
use Rattle.std.specs.Map.Iter.{deref}
use Rattle.std.proofs.lemmas.Map.Iter.{rest_more, rest_all}
use Rattle.std.proofs.lemmas.List.{append-nil}
use Rattle.std.proofs.lemmas.List.Elements.{All-push}
use Rattle.bl_outside.specs.Texts.{IsShortText}
use Rattle.bl_outside.proofs.Names.{distinct_texts}
use Rattle.bl_system.proofs.real_folder.proper.Goals as goal

pub loop-name-preserved : goal.loop-name-preserved
loop-name-preserved c =
    let more : c.loop-name.name-iterator ≡ c.in-Some.name.now ∷ c.next.new.self = rest_more deref _ _ _ c.in-Some.name c.in-Some.is c.next.ensures.steps in
    let list : c.push.new.self ≡ c.loop-name.list ++ c.in-Some.name.now ∷ [] = c.in_ok-push.ensures.ok ∙ ap (λ n. c.loop-name.list ++ n ∷ []) c.in_ok-name_of.ensures.same in
    record {
      names =
          ap (λ n. n ++ c.next.new.self) list
          ∙ append_assoc c.loop-name.list (c.in-Some.name.now ∷ []) c.next.new.self
          ∙ ap (λ ns. c.loop-name.list ++ ns) (sym more)
          ∙ c.loop-name.invariant.names;
      texts = subst (All IsShortText) (sym list) (All-push IsShortText c.loop-name.list c.in-Some.name.now c.loop-name.invariant.texts c.in_ok-name_of.ensures.text);
      named = subst (All (λ name. name ≢ [])) (sym list) (All-push (λ name. name ≢ []) c.loop-name.list c.in-Some.name.now c.loop-name.invariant.named c.in_ok-name_of.ensures.named);
    }

pub returns : goal.returns
returns c =
    let none : c.loop-name.name-iterator ≡ [] = rest_all deref _ _ _ c.in-None.is c.next.ensures.steps in
    let all : c.loop-name.list ≡ c.args.names.now.keys = sym (append-nil c.loop-name.list) ∙ ap (λ ns. c.loop-name.list ++ ns) (sym none) ∙ c.loop-name.invariant.names in
    record {
      texts = c.loop-name.invariant.texts;
      named = c.loop-name.invariant.named;
      differ = subst (IsDistinct (pointwise nat_eq)) (sym all) (distinct_texts c.args.names.now.keys c.iter-name-items.ensures.ordered);
    }
