use Rattle.std.proofs.Common.{◌≡◌, true, false, refl, sym, subst}
use Rattle.bl_journal.specs.Journals.{JournalRecord}
use Rattle.bl_world.specs.Worlds.{IsBegun, World}
use Rattle.bl_engine.specs.declared.refusals.Trouble.TheVariants.{NoMemory}
use Rattle.bl_engine.specs.Appending.{IsJust, refused_outcome}
use Rattle.bl_engine.specs.Attempts.{Attempts}
use Rattle.bl_engine.specs.Engines.{View}
use Rattle.bl_engine.specs.Outcomes.{Done, Stopped}
use Rattle.bl_engine.proofs.Appended.{attempts_done, attempts_failed, sure_done}
use Rattle.bl_engine.proofs.Composed.{attempts_starved}
use Rattle.bl_engine.proofs.Looking.{looks_ready}
use Rattle.bl_engine.proofs.engine.Engine.append.Goals as goal

pub append_entry-requires-clause-begun : goal.append_entry-requires-clause-begun
append_entry-requires-clause-begun g c = (c.self.inside.world, subst (λ (v : View g.row.D.Denot). IsBegun v.world c.args.entry v.world) (sym c.self.view_is) c.requires.begun)

pub invariant_of-self : goal.invariant_of-self
invariant_of-self g c ready =
    let old : View g.row.D.Denot = record { journal = c.self.inside.journal; left = c.self.inside.left; right = c.self.inside.right; world = c.self.inside.world; seq = c.self.inside.seq; ready = c.self.inside.ready } in
    let new : View g.row.D.Denot = record old { journal = c.append_entry.new.journal; world = c.append_entry.new.world; seq = c.entries-self-inside.result } in
    let begins = subst (λ (v : View g.row.D.Denot). IsBegun v.world c.args.entry v.world) (sym c.self.view_is) c.requires.begun in
    sure_done g.D.Disk g.met.D.Disk.counts_now g.met.D.Disk.only_now (IsJust old.world c.args.entry) old new ready refl refl c.args.entry old.world (refl, refl) c.requires.valid begins
    (c.self.invariant ready) ready c.entries-self-inside.ensures c.in-Ok.ensures

pub returns-in-Ok : goal.returns-in-Ok
returns-in-Ok g c =
    let old : View g.row.D.Denot = record { journal = c.self.inside.journal; left = c.self.inside.left; right = c.self.inside.right; world = c.self.inside.world; seq = c.self.inside.seq; ready = c.self.inside.ready } in
    let new : View g.row.D.Denot = record old { journal = c.append_entry.new.journal; world = c.append_entry.new.world; seq = c.entries-self-inside.result } in
    let ready : old.ready ≡ true = subst (λ (v : View g.row.D.Denot). v.ready ≡ true) (sym c.self.view_is) c.requires.ready in
    let begins = subst (λ (v : View g.row.D.Denot). IsBegun v.world c.args.entry v.world) (sym c.self.view_is) c.requires.begun in
    subst (λ (v : View g.row.D.Denot). Attempts g.D.Disk (IsJust v.world c.args.entry) v new Done) c.self.view_is
    (attempts_done g.D.Disk g.met.D.Disk.counts_now g.met.D.Disk.only_now (IsJust old.world c.args.entry) old new ready refl refl c.args.entry old.world (refl, refl) c.requires.valid begins
    ready c.entries-self-inside.ensures c.in-Ok.ensures)

pub returns-in-Err-Untried : goal.returns-in-Err-Untried
returns-in-Err-Untried g c =
    let old : View g.row.D.Denot = record { journal = c.self.inside.journal; left = c.self.inside.left; right = c.self.inside.right; world = c.self.inside.world; seq = c.self.inside.seq; ready = c.self.inside.ready } in
    let ready : old.ready ≡ true = subst (λ (v : View g.row.D.Denot). v.ready ≡ true) (sym c.self.view_is) c.requires.ready in
    let adds = rw c.in-Err-Untried.field-0-is at c.in-Err-Untried.ensures in
    let same = adds.untried refl in
    let still = attempts_starved g.D.Disk (IsJust old.world c.args.entry) old old (looks_ready g.D.Disk g.met.D.Disk.counts_now g.met.D.Disk.only_now old ready) ready in
    subst (λ (v : View g.row.D.Denot). Attempts g.D.Disk (IsJust v.world c.args.entry) v (record old { journal = c.append_entry.new.journal; world = c.append_entry.new.world }) (Stopped NoMemory)) c.self.view_is
    (subst (λ (j : JournalRecord g.row.D.Denot). Attempts g.D.Disk (IsJust old.world c.args.entry) old (record old { journal = j; world = c.append_entry.new.world }) (Stopped NoMemory)) (sym same.0)
    (subst (λ (w : World). Attempts g.D.Disk (IsJust old.world c.args.entry) old (record old { world = w }) (Stopped NoMemory)) (sym same.1) still))

pub returns-in-Err-Refused : goal.returns-in-Err-Refused
returns-in-Err-Refused g c =
    let old : View g.row.D.Denot = record { journal = c.self.inside.journal; left = c.self.inside.left; right = c.self.inside.right; world = c.self.inside.world; seq = c.self.inside.seq; ready = c.self.inside.ready } in
    let new : View g.row.D.Denot = record old { journal = c.append_entry.new.journal; world = c.append_entry.new.world; ready = false } in
    let ready : old.ready ≡ true = subst (λ (v : View g.row.D.Denot). v.ready ≡ true) (sym c.self.view_is) c.requires.ready in
    let begins = subst (λ (v : View g.row.D.Denot). IsBegun v.world c.args.entry v.world) (sym c.self.view_is) c.requires.begun in
    let adds = rw c.in-Err-Refused.field-0-is at c.in-Err-Refused.ensures in
    subst (λ (v : View g.row.D.Denot). Attempts g.D.Disk (IsJust v.world c.args.entry) v new (refused_outcome c.in-Err-Refused.refusal)) c.self.view_is
    (attempts_failed g.D.Disk g.met.D.Disk.counts_now g.met.D.Disk.only_now (IsJust old.world c.args.entry) old new ready refl refl c.args.entry old.world (refl, refl) c.requires.valid begins
    c.in-Err-Refused.refusal refl refl adds)
