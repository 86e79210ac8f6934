use Rattle.std.proofs.Common.{◌∙◌, ℕ, List, take, ap, subst}
use Rattle.std.proofs.lemmas.List.{take_min}
use Rattle.bl_http.specs.Parts.{Finds}
use Rattle.bl_http.proofs.PartLemmas.{finds_whole}
use Rattle.bl_http.proofs.head.find_head.Goals as goal

pub returns : goal.returns
returns c =
    let bytes = c.args.bytes.now in
    finds_whole bytes c.find_in.result
    (subst (λ (t : List ℕ). Finds t c.find_in.result) (ap (λ k. take k bytes) c.min.ensures ∙ take_min 16384 bytes) c.find_in.ensures)
