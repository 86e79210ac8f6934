use Rattle.std.proofs.Common.{◌∷◌, ◌∙◌, sym, subst, refl, drop}
use Rattle.std.proofs.lemmas.Bool.{true≢false}
use Rattle.bl_load.specs.Resuming.{Skips}
use Rattle.bl_load.proofs.Resumed.{digest_other, few_other, kind_other, opened, read_other}
use Rattle.bl_load.proofs.resuming.resume_read.Goals as goal

pub returns-then-not-is_kind-clause-resumes : goal.returns-then-not-is_kind-clause-resumes
returns-then-not-is_kind-clause-resumes c = λ header records stands means.
    read_other header records c.args.columns c.args.feed.now means (kind_other header records c.args.columns c.args.feed.now (λ same. true≢false (sym (c.is_kind.ensures.1 same) ∙ c.if-not-is_kind.true)))

pub returns-then-not-branch-clause-resumes : goal.returns-then-not-branch-clause-resumes
returns-then-not-branch-clause-resumes c = λ header records stands means.
    read_other header records c.args.columns c.args.feed.now means
    (few_other header records c.args.columns c.args.feed.now (subst (λ b. Skips (header ∷ records) records c.args.feed.now.taken c.skip.new.reader b) c.if-not-branch.true (c.in_ok-skip.ensures (header ∷ records) records stands)))

pub returns-then-not-is_same-clause-resumes : goal.returns-then-not-is_same-clause-resumes
returns-then-not-is_same-clause-resumes c = λ header records stands means.
    let skips = subst (λ b. Skips (header ∷ records) records c.args.feed.now.taken c.skip.new.reader b) c.if-not-branch.false (c.in_ok-skip.ensures (header ∷ records) records stands) in
    read_other header records c.args.columns c.args.feed.now means
    (digest_other header records c.args.columns c.args.feed.now c.digest.result (c.digest.ensures (header ∷ records) c.args.feed.now.taken (drop c.args.feed.now.taken records) skips.1)
    (λ same. true≢false (sym (c.is_same.ensures.1 same) ∙ c.if-not-is_same.true)))

pub returns-clause-resumes : goal.returns-clause-resumes
returns-clause-resumes c = λ header records stands means.
    let feed = c.args.feed.now in
    let skips = subst (λ b. Skips (header ∷ records) records feed.taken c.skip.new.reader b) c.if-not-branch.false (c.in_ok-skip.ensures (header ∷ records) records stands) in
    opened header records _ feed c.digest.result skips.1 means c.requires skips.0 (c.is_kind.ensures.0 c.if-not-is_kind.false) (c.digest.ensures (header ∷ records) feed.taken (drop feed.taken records) skips.1)
    (c.is_same.ensures.0 c.if-not-is_same.false) refl refl c.new.ensures c.new-2.ensures
