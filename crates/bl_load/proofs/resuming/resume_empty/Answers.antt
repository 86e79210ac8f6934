use Rattle.std.proofs.Common.{◌≡◌, ◌∙◌, [], sym, refl, arith}
use Rattle.std.proofs.lemmas.Bool.{true≢false}
use Rattle.bl_load.proofs.Resumed.{empty_other, empty_still}
use Rattle.bl_load.proofs.resuming.resume_empty.Goals as goal

pub returns-then-not-is_same-clause-resumes : goal.returns-then-not-is_same-clause-resumes
returns-then-not-is_same-clause-resumes c = λ stands.
    empty_other c.args.feed.now c.digest.result (c.digest.ensures [] 0 [] stands) (λ all. true≢false (sym (c.is_same.ensures.1 all.2) ∙ c.if-not-is_same.true))

pub returns-clause-resumes : goal.returns-clause-resumes
returns-clause-resumes c = λ stands.
    let none : c.args.feed.now.taken ≡ 0 = omega arith in
    (refl, empty_still c.args.feed.now c.digest.result (c.is_kind.ensures.0 c.if-not-is_kind.false) none (c.digest.ensures [] 0 [] stands) (c.is_same.ensures.0 c.if-not-is_same.false), none)
