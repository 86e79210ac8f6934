use Rattle.std.proofs.Common.{◌∙◌, ℕ, List, sym, subst}
use Rattle.http_header.specs.Token.{IsToken}
use Rattle.bl_http.proofs.PartLemmas.{same_token}
use Rattle.bl_http.proofs.request.request_at.Goals as goal

pub method_of-requires : goal.method_of-requires
method_of-requires c =
    let (head, at) = c.requires.parts in
    subst (λ (t : List ℕ). IsToken t) (sym (c.of.ensures ∙ at.method)) (same_token head.method at.has.reads.0.method)
