use Rattle.std.proofs.Common.{◌≡◌, ◌∙◌, ap, refl, take, drop}
use Rattle.bl_world.specs.Makings.{digest_behind}
use Rattle.bl_load.proofs.OpenLists.{handed_as}
use Rattle.bl_load.proofs.open_file.OpenFile.hand_out.Goals as goal

pub returns : goal.returns
returns c = λ header records is.
    let old = c.args.self.now in
    let count = c.args.count in
    let all : c.into_vec-front.result.items ≡ old.rows = c.into_vec-front.ensures ∙ c.replace.ensures.value in
    let front : c.split_off.new.self.items ≡ take count old.rows = c.in_ok-split_off.ensures.items ∙ ap (λ l. take count l) all in
    handed_as header records old count c.from_vec-2.result c.from_vec.result c.drop_front.new.self _ c.last_digest-self.result is c.requires.count
    (c.from_vec.ensures ∙ c.in_ok-split_off.ensures.tail ∙ ap (λ l. drop count l) all) c.drop_front.ensures refl
    (c.last_digest-self.ensures ∙ ap (λ l. digest_behind old.digest l) (c.as_slice.ensures.value ∙ front)) (c.from_vec-2.ensures ∙ front)
