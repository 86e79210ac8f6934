use Rattle.std.proofs.Common.{sym, ◌∙◌, subst}
use Rattle.bl_header.specs.Headers.{IsMeaning, IsRefusal}
use Rattle.std.proofs.lemmas.Result.{IfOk-weaker}
use Rattle.bl_load.specs.Resuming.{IsContent, IsRefusedBy}
use Rattle.bl_load.proofs.Contents.{empty_content, read_content, refused_content}
use Rattle.bl_load.proofs.content.content_of.Goals as goal

pub returns-then-is_empty-clause-content : goal.returns-then-is_empty-clause-content
returns-then-is_empty-clause-content c = λ all taken left stands. empty_content all (sym (c.is_empty.ensures all taken left stands) ∙ c.if-is_empty.true)

pub read_header-requires : goal.read_header-requires
read_header-requires c = let r = c.requires in (c.header.ensures.short r.0 r.1 r.2 r.3).few

pub returns-in-Ok-clause-content : goal.returns-in-Ok-clause-content
returns-in-Ok-clause-content c = λ all taken left stands.
    read_content all c.in-Ok.columns (sym (c.is_empty.ensures all taken left stands) ∙ c.if-is_empty.false)
    (subst (λ h. IsMeaning h c.in-Ok.columns) (c.header.ensures.first all taken left stands) c.in-Ok.ensures.value)

pub returns-in-Err-clause-content : goal.returns-in-Err-clause-content
returns-in-Err-clause-content c = λ all taken left stands.
    IfOk-weaker c.refused.result (IsRefusedBy c.in-Err.refusal) (IsContent all)
    (λ content by. refused_content all c.in-Err.refusal content (sym (c.is_empty.ensures all taken left stands) ∙ c.if-is_empty.false) (subst (λ h. IsRefusal h c.in-Err.refusal) (c.header.ensures.first all taken left stands) c.in-Err.ensures.value) by)
    c.refused.ensures
