use Rattle.std.proofs.Common.{◌++◌, ◌∷◌, [], refl, sym, ◌∙◌, subst}
use Rattle.bl_journal.specs.Frames.{WithOrWithout}
use Rattle.bl_journal.specs.Journals.{JournalRecord, IsSound, Ends, Since}
use Rattle.bl_journal.proofs.Calls.{first_call, second_call, acknowledged}
use Rattle.bl_journal.proofs.journal.Journal.append.Goals as goal

pub returns-in_err-write_through-clause-any_moment : goal.returns-in_err-write_through-clause-any_moment
returns-in_err-write_through-clause-any_moment g c bodies e =
    let old : JournalRecord g.row.D.Denot = record { disk = c.self.inside.disk; place = c.self.inside.place } in
    let ends : Ends g.D.Disk old bodies = subst (λ (j : JournalRecord g.row.D.Denot). Ends g.D.Disk j bodies) (sym c.self.view_is) e in
    let room = c.if-not-has_room.ensures.0 refl in
    subst (λ (j : JournalRecord g.row.D.Denot). Since g.D.Disk j.disk c.write_through.new.disk (WithOrWithout bodies c.args.body.now)) c.self.view_is
    (first_call g.D.Disk old bodies ends c.args.body.now c.requires.body room.0 c.as_slice-bytes.result.now (c.as_slice-bytes.ensures.value ∙ c.in_ok-bytes.ensures room.0) c.write_through.new.disk (c.write_through.ensures.any_moment ends.settled.honest))

pub returns-in_err-write_through-2-clause-any_moment : goal.returns-in_err-write_through-2-clause-any_moment
returns-in_err-write_through-2-clause-any_moment g c bodies e =
    let old : JournalRecord g.row.D.Denot = record { disk = c.self.inside.disk; place = c.self.inside.place } in
    let ends : Ends g.D.Disk old bodies = subst (λ (j : JournalRecord g.row.D.Denot). Ends g.D.Disk j bodies) (sym c.self.view_is) e in
    let room = c.if-not-has_room.ensures.0 refl in
    let honest = ends.settled.honest in
    subst (λ (j : JournalRecord g.row.D.Denot). Since g.D.Disk j.disk c.write_through-2.new.disk (WithOrWithout bodies c.args.body.now)) c.self.view_is
    (second_call g.D.Disk old bodies ends c.args.body.now c.requires.body room.0 c.as_slice-bytes.result.now (c.as_slice-bytes.ensures.value ∙ c.in_ok-bytes.ensures room.0) c.write_through.new.disk (c.in_ok-write_through.ensures.written honest) c.write_through-2.new.disk
    (c.write_through.ensures.any_moment honest) (c.in_ok-write_through.ensures.durable honest) (c.write_through-2.ensures.any_moment (c.write_through.ensures.honest.1 honest)))

pub returns-clause-any_moment : goal.returns-clause-any_moment
returns-clause-any_moment g c bodies e =
    let old : JournalRecord g.row.D.Denot = record { disk = c.self.inside.disk; place = c.self.inside.place } in
    let ends : Ends g.D.Disk old bodies = subst (λ (j : JournalRecord g.row.D.Denot). Ends g.D.Disk j bodies) (sym c.self.view_is) e in
    let room = c.if-not-has_room.ensures.0 refl in
    let honest = ends.settled.honest in
    subst (λ (j : JournalRecord g.row.D.Denot). Since g.D.Disk j.disk c.write_through-2.new.disk (WithOrWithout bodies c.args.body.now)) c.self.view_is
    (second_call g.D.Disk old bodies ends c.args.body.now c.requires.body room.0 c.as_slice-bytes.result.now (c.as_slice-bytes.ensures.value ∙ c.in_ok-bytes.ensures room.0) c.write_through.new.disk (c.in_ok-write_through.ensures.written honest) c.write_through-2.new.disk
    (c.write_through.ensures.any_moment honest) (c.in_ok-write_through.ensures.durable honest) (c.write_through-2.ensures.any_moment (c.write_through.ensures.honest.1 honest)))

pub returns-clause-acknowledged : goal.returns-clause-acknowledged
returns-clause-acknowledged g c bodies e =
    let old : JournalRecord g.row.D.Denot = record { disk = c.self.inside.disk; place = c.self.inside.place } in
    let ends : Ends g.D.Disk old bodies = subst (λ (j : JournalRecord g.row.D.Denot). Ends g.D.Disk j bodies) (sym c.self.view_is) e in
    let room = c.if-not-has_room.ensures.0 refl in
    let later = c.write_through.ensures.honest.1 ends.settled.honest in
    acknowledged g.D.Disk old bodies ends c.args.body.now c.requires.body room.0 c.as_slice-bytes.result.now (c.as_slice-bytes.ensures.value ∙ c.in_ok-bytes.ensures room.0) c.write_through.new.disk (c.in_ok-write_through.ensures.written ends.settled.honest) c.write_through-2.new.disk
    (c.in_ok-write_through-2.ensures.written later) (record { honest = c.write_through-2.ensures.honest.1 later; only = c.in_ok-write_through-2.ensures.durable later })

pub returns-clause-at_end : goal.returns-clause-at_end
returns-clause-at_end g c sound =
    let honest = c.write_through.ensures.honest.0 (c.write_through-2.ensures.honest.0 sound.honest) in
    let before : IsSound g.D.Disk c.self.inside.disk = record { honest = honest; told = sym c.write_through.ensures.told ∙ sym c.write_through-2.ensures.told ∙ sound.told } in
    let t = c.requires.at_end (subst (λ (j : JournalRecord g.row.D.Denot). IsSound g.D.Disk j.disk) c.self.view_is before) in
    (t.0 ++ c.args.body.now ∷ [], returns-clause-acknowledged g c t.0 t.1)
