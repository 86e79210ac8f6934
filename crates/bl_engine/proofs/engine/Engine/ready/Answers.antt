use Rattle.std.proofs.Common.{◌≡◌, true, false, None, Some, refl, sym, subst}
use Rattle.bl_engine.specs.Calls.{Looks}
use Rattle.bl_engine.specs.Engines.{View}
use Rattle.bl_engine.proofs.Looking.{looks_opened, looks_ready, looks_shut}
use Rattle.bl_engine.proofs.engine.Engine.ready.Goals as goal

pub returns-then-self-clause-looks : goal.returns-then-self-clause-looks
returns-then-self-clause-looks g c =
    looks_ready g.D.Disk g.met.D.Disk.counts_now g.met.D.Disk.only_now c.args.self.now (subst (λ (v : View g.row.D.Denot). v.ready ≡ true) c.self.view_is c.if-self.true)

pub returns-in-Err-clause-looks : goal.returns-in-Err-clause-looks
returns-in-Err-clause-looks g c =
    let old : View g.row.D.Denot = record { journal = c.self.inside.journal; left = c.self.inside.left; right = c.self.inside.right; world = c.self.inside.world; seq = c.self.inside.seq; ready = c.self.inside.ready } in
    let new : View g.row.D.Denot = record old { journal = c.reopen_uncounted.new.journal } in
    subst (λ (v : View g.row.D.Denot). Looks g.D.Disk v new (Some c.in-Err.trouble)) c.self.view_is
    (looks_shut g.D.Disk g.met.D.Disk.counts_now g.met.D.Disk.only_now old new c.if-self.false refl refl c.in-Err.trouble c.if-self.false refl c.in-Err.ensures)

pub returns-in-Ok-clause-looks : goal.returns-in-Ok-clause-looks
returns-in-Ok-clause-looks g c =
    let old : View g.row.D.Denot = record { journal = c.self.inside.journal; left = c.self.inside.left; right = c.self.inside.right; world = c.self.inside.world; seq = c.self.inside.seq; ready = c.self.inside.ready } in
    let new : View g.row.D.Denot = record old { journal = c.reopen_uncounted.new.journal; world = c.in-Ok.world; seq = c.entries-self-inside.result; ready = true } in
    subst (λ (v : View g.row.D.Denot). Looks g.D.Disk v new None) c.self.view_is
    (looks_opened g.D.Disk g.met.D.Disk.counts_now g.met.D.Disk.only_now old new c.if-self.false refl refl c.no_encoding_begins_another.ensures refl c.entries-self-inside.ensures c.in-Ok.ensures)
