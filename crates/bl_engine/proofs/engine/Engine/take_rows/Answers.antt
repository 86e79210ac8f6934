use Rattle.std.proofs.Common.{◌≡◌, inl, true, false, refl, sym, subst, Ok, Err}
use Rattle.std.specs.Prelude.{Result}
use Rattle.bl_journal.specs.declared.refusal.AppendRefusal.{AppendRefusal}
use Rattle.bl_journal.specs.declared.refusal.AppendRefusal.TheVariants.{NoMemory, Full as full}
use Rattle.bl_journal.specs.Journals.{JournalRecord}
use Rattle.bl_world.specs.Makings.{HasLongEntry, RowsEntry}
use Rattle.bl_world.specs.Worlds.{IsBegun, World}
use Rattle.bl_engine.specs.declared.refusals.Trouble.TheVariants.{NoMemory as starved}
use Rattle.bl_engine.specs.declared.turned.Turned.{Turned}
use Rattle.bl_engine.specs.Appending.{append_outcome, refused_outcome}
use Rattle.bl_engine.specs.Attempts.{Attempts}
use Rattle.bl_engine.specs.Engines.{View}
use Rattle.bl_engine.specs.Findings.{Tells}
use Rattle.bl_engine.specs.Outcomes.{Done, Full, Stopped}
use Rattle.bl_engine.proofs.Appended.{attempts_done, attempts_failed, attempts_long, attempts_stopped, sure_done}
use Rattle.bl_engine.proofs.engine.Engine.take_rows.Goals as goal

abbrev told : Turned → Result Turned AppendRefusal
told turned = Ok turned

abbrev failed : AppendRefusal → Result Turned AppendRefusal
failed refusal = Err refusal

pub returns-in-Err-NoMemory : goal.returns-in-Err-NoMemory
returns-in-Err-NoMemory g c =
    let old : View g.row.D.Denot = record { journal = c.self.inside.journal; left = c.self.inside.left; right = c.self.inside.right; world = c.self.inside.world; seq = c.self.inside.seq; ready = c.self.inside.ready } in
    let new : View g.row.D.Denot = record old { world = c.rows_entry.new.self; ready = false } in
    let ready : old.ready ≡ true = subst (λ (v : View g.row.D.Denot). v.ready ≡ true) (sym c.self.view_is) c.requires.ready in
    subst (λ (v : View g.row.D.Denot). Attempts g.D.Disk (Tells (RowsEntry c.args.job c.args.feed c.args.rows.now c.args.now) (failed NoMemory)) v new (Stopped starved)) c.self.view_is
    (attempts_stopped g.D.Disk g.met.D.Disk.counts_now g.met.D.Disk.only_now (Tells (RowsEntry c.args.job c.args.feed c.args.rows.now c.args.now) (failed NoMemory)) old new ready refl refl refl refl refl)

pub returns-in-Err-TooManyChanges : goal.returns-in-Err-TooManyChanges
returns-in-Err-TooManyChanges g c =
    let old : View g.row.D.Denot = record { journal = c.self.inside.journal; left = c.self.inside.left; right = c.self.inside.right; world = c.self.inside.world; seq = c.self.inside.seq; ready = c.self.inside.ready } in
    let new : View g.row.D.Denot = record old { world = c.rows_entry.new.self; ready = false } in
    let ready : old.ready ≡ true = subst (λ (v : View g.row.D.Denot). v.ready ≡ true) (sym c.self.view_is) c.requires.ready in
    let long : HasLongEntry c.args.job c.args.feed c.args.rows.now c.args.now old.world = c.in-Err-TooManyChanges.ensures.many (cc c.in-Err-TooManyChanges.field-0-is) in
    subst (λ (v : View g.row.D.Denot). Attempts g.D.Disk (Tells (RowsEntry c.args.job c.args.feed c.args.rows.now c.args.now) (failed full)) v new Full) c.self.view_is
    (attempts_long g.D.Disk g.met.D.Disk.counts_now g.met.D.Disk.only_now (Tells (RowsEntry c.args.job c.args.feed c.args.rows.now c.args.now) (failed full)) old new ready refl refl refl refl refl long.0 long.1 long.2 (inl long.3))

pub returns-in-Err-Untried : goal.returns-in-Err-Untried
returns-in-Err-Untried g c =
    let old : View g.row.D.Denot = record { journal = c.self.inside.journal; left = c.self.inside.left; right = c.self.inside.right; world = c.self.inside.world; seq = c.self.inside.seq; ready = c.self.inside.ready } in
    let new : View g.row.D.Denot = record old { journal = c.append_entry.new.journal; world = c.append_entry.new.world; ready = false } in
    let ready : old.ready ≡ true = subst (λ (v : View g.row.D.Denot). v.ready ≡ true) (sym c.self.view_is) c.requires.ready in
    let adds = rw c.in-Err-Untried.field-0-is at c.in-Err-Untried.ensures in
    subst (λ (v : View g.row.D.Denot). Attempts g.D.Disk (Tells (RowsEntry c.args.job c.args.feed c.args.rows.now c.args.now) (failed NoMemory)) v new (Stopped starved)) c.self.view_is
    (attempts_stopped g.D.Disk g.met.D.Disk.counts_now g.met.D.Disk.only_now (Tells (RowsEntry c.args.job c.args.feed c.args.rows.now c.args.now) (failed NoMemory)) old new ready refl refl (adds.untried refl).0 refl refl)

pub returns-in-Err-Refused : goal.returns-in-Err-Refused
returns-in-Err-Refused g c =
    let old : View g.row.D.Denot = record { journal = c.self.inside.journal; left = c.self.inside.left; right = c.self.inside.right; world = c.self.inside.world; seq = c.self.inside.seq; ready = c.self.inside.ready } in
    let new : View g.row.D.Denot = record old { journal = c.append_entry.new.journal; world = c.append_entry.new.world; ready = false } in
    let ready : old.ready ≡ true = subst (λ (v : View g.row.D.Denot). v.ready ≡ true) (sym c.self.view_is) c.requires.ready in
    let adds = rw c.in-Err-Refused.field-0-is at c.in-Err-Refused.ensures in
    subst (λ (r : AppendRefusal). Attempts g.D.Disk (Tells (RowsEntry c.args.job c.args.feed c.args.rows.now c.args.now) (failed r)) c.args.self.now new (refused_outcome r)) (sym c.in-Err-Refused.refusal-is)
    (subst (λ (v : View g.row.D.Denot). Attempts g.D.Disk (Tells (RowsEntry c.args.job c.args.feed c.args.rows.now c.args.now) (failed c.in-Err-Refused.refusal)) v new (refused_outcome c.in-Err-Refused.refusal)) c.self.view_is
    (attempts_failed g.D.Disk g.met.D.Disk.counts_now g.met.D.Disk.only_now (Tells (RowsEntry c.args.job c.args.feed c.args.rows.now c.args.now) (failed c.in-Err-Refused.refusal)) old new ready refl refl c.in-Ok.entry c.rows_entry.new.self c.in-Ok.ensures.entry c.in-Ok.ensures.valid c.in-Ok.ensures.begun
    c.in-Err-Refused.refusal refl refl adds))

pub invariant_of-self-in-Ok-append_entry : goal.invariant_of-self-in-Ok-append_entry
invariant_of-self-in-Ok-append_entry g c is =
    let old : View g.row.D.Denot = record { journal = c.self.inside.journal; left = c.self.inside.left; right = c.self.inside.right; world = c.self.inside.world; seq = c.self.inside.seq; ready = c.self.inside.ready } in
    let new : View g.row.D.Denot = record old { journal = c.append_entry.new.journal; world = c.append_entry.new.world; seq = c.entries-self-inside.result; ready = true } in
    let ready : old.ready ≡ true = subst (λ (v : View g.row.D.Denot). v.ready ≡ true) (sym c.self.view_is) c.requires.ready in
    sure_done g.D.Disk g.met.D.Disk.counts_now g.met.D.Disk.only_now (Tells (RowsEntry c.args.job c.args.feed c.args.rows.now c.args.now) (told c.turned_by-told.result)) old new ready refl refl c.in-Ok.entry c.rows_entry.new.self (c.in-Ok.ensures.entry, c.turned_by-told.ensures) c.in-Ok.ensures.valid c.in-Ok.ensures.begun
    (c.self.invariant ready) refl c.entries-self-inside.ensures c.in-Ok-append_entry.ensures

pub returns-in-Ok-append_entry : goal.returns-in-Ok-append_entry
returns-in-Ok-append_entry g c =
    let old : View g.row.D.Denot = record { journal = c.self.inside.journal; left = c.self.inside.left; right = c.self.inside.right; world = c.self.inside.world; seq = c.self.inside.seq; ready = c.self.inside.ready } in
    let new : View g.row.D.Denot = record old { journal = c.append_entry.new.journal; world = c.append_entry.new.world; seq = c.entries-self-inside.result; ready = true } in
    let ready : old.ready ≡ true = subst (λ (v : View g.row.D.Denot). v.ready ≡ true) (sym c.self.view_is) c.requires.ready in
    subst (λ (v : View g.row.D.Denot). Attempts g.D.Disk (Tells (RowsEntry c.args.job c.args.feed c.args.rows.now c.args.now) (told c.turned_by-told.result)) v new Done) c.self.view_is
    (attempts_done g.D.Disk g.met.D.Disk.counts_now g.met.D.Disk.only_now (Tells (RowsEntry c.args.job c.args.feed c.args.rows.now c.args.now) (told c.turned_by-told.result)) old new ready refl refl c.in-Ok.entry c.rows_entry.new.self (c.in-Ok.ensures.entry, c.turned_by-told.ensures) c.in-Ok.ensures.valid c.in-Ok.ensures.begun
    refl c.entries-self-inside.ensures c.in-Ok-append_entry.ensures)
