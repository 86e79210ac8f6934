use Rattle.std.proofs.Common.{◌≡◌, ◌-◌, arith, ap, suc, take, ◌∙◌}
use Rattle.bl_world.specs.Makings.{digest_behind}
use Rattle.bl_world.proofs.ToldRows.{digest_at}
use Rattle.bl_world.proofs.taking_rows.digest_behind.Goals as goal

pub returns : goal.returns
returns c = λ before.
    let count : c.args.count ≡ suc (c.args.count - 1) = omega (arith, c.requires.some) in
    ap (λ n. digest_behind before (take n c.args.rows.now)) count ∙ digest_at c.args.rows.now (c.args.count - 1) before c.index-rows-count.result (omega (arith, c.requires.some, c.requires.within))
