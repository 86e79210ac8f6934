use Rattle.std.proofs.Common.{⊎_elim, is_some, length, sym, ap, subst, ◌∙◌, arith, rules}
use Rattle.std.proofs.lemmas.Bool.{false≢true}
use Rattle.bl_outside.specs.Disks.{OfContent}
use Rattle.bl_journal.specs.Frames.{first_difference, head, IsEmptyJournal}
use Rattle.bl_journal.proofs.Beginning.{as_before, created, begins_empty, begins_new, begins_old, is_empty, is_long, is_new, told_of, not_made, fault_is, head_is, head_short}
use Rattle.bl_journal.proofs.Standing.{sound_after, sound_written}
use Rattle.bl_journal.proofs.journal.open_file.Goals as goal

-- the head is that of a journal
pub returns : goal.returns
returns g c =
    let e = c.settled_front.ensures in
    let before = g.D.Disk.seen c.args.disk.now in
    let same = ap (λ f. first_difference 0 head f) (sym c.as_slice-2.ensures) ∙ sym c.in-None.ensures in
    record {
      begins = λ start. begins_old before (g.D.Disk.seen c.settled_front.new.disk) c.in_ok-size.size c.in_ok-size.front (⊎_elim (λ sound. sound.told) (told_of before) start) e.seen c.in_ok-size.ensures.size c.in_ok-size.ensures.front (omega arith) same;
      settled = c.in_ok-size.ensures.settled;
      head = head_is before c.in_ok-size.size c.in_ok-size.front c.in_ok-size.ensures.front same;
      created = λ sound other. absurd (other (is_long before c.in_ok-size.size sound.told c.in_ok-size.ensures.size (omega arith)));
      untouched = λ made. e.seen;
      refused = tt;
      store = λ is. cc;
      any_moment = λ sound. as_before g.D.Disk c.args.disk.now c.settled_front.new.disk (e.any_moment sound.honest);
      sound = sound_after g.D.Disk c.args.disk.now c.settled_front.new.disk e.seen e.honest;
      later = e.cause.later;
    }

-- the head isn't that of a journal
pub returns-in-Some : goal.returns-in-Some
returns-in-Some g c =
    let e = c.settled_front.ensures in
    record {
      begins = tt;
      settled = tt;
      head = tt;
      created = tt;
      untouched = λ made. e.seen;
      refused = fault_is (g.D.Disk.seen c.args.disk.now) c.in_ok-size.size c.in-Some.place c.in_ok-size.front c.in_ok-size.ensures.size c.in_ok-size.ensures.front (omega arith)
          (ap (λ f. first_difference 0 head f) (sym c.as_slice-2.ensures) ∙ sym c.in-Some.ensures);
      store = λ is. cc;
      any_moment = λ sound. as_before g.D.Disk c.args.disk.now c.settled_front.new.disk (e.any_moment sound.honest);
      sound = sound_after g.D.Disk c.args.disk.now c.settled_front.new.disk e.seen e.honest;
      later = e.cause.later;
    }

-- the file is the head and a closed gate
pub returns-then-is_empty_journal : goal.returns-then-is_empty_journal
returns-then-is_empty_journal g c =
    let e = c.settled_front.ensures in
    let before = g.D.Disk.seen c.args.disk.now in
    let empty : IsEmptyJournal c.in_ok-size.front = subst IsEmptyJournal c.as_slice.ensures (c.is_empty_journal.ensures.0 c.if-is_empty_journal.true) in
    record {
      begins = λ start. begins_empty before (g.D.Disk.seen c.settled_front.new.disk) c.in_ok-size.size c.in_ok-size.front (⊎_elim (λ sound. sound.told) (told_of before) start) e.seen c.in_ok-size.ensures.size c.in_ok-size.ensures.front (omega arith) empty;
      settled = c.in_ok-size.ensures.settled;
      head = head_short before c.in_ok-size.size c.in_ok-size.ensures.size (omega arith);
      created = λ sound other. absurd (other (is_empty before c.in_ok-size.size c.in_ok-size.front sound.told c.in_ok-size.ensures.size c.in_ok-size.ensures.front (omega arith) empty));
      untouched = λ made. e.seen;
      refused = tt;
      store = λ is. cc;
      any_moment = λ sound. as_before g.D.Disk c.args.disk.now c.settled_front.new.disk (e.any_moment sound.honest);
      sound = sound_after g.D.Disk c.args.disk.now c.settled_front.new.disk e.seen e.honest;
      later = e.cause.later;
    }

-- the file wasn't finished, and is written anew
pub returns-then-size-le16 : goal.returns-then-size-le16
returns-then-size-le16 g c =
    let e = c.settled_front.ensures in
    let before = g.D.Disk.seen c.args.disk.now in
    let not = λ (empty : IsEmptyJournal c.in_ok-size.front). false≢true (sym c.if-is_empty_journal.false ∙ c.is_empty_journal.ensures.1 (subst IsEmptyJournal (sym c.as_slice.ensures) empty)) in
    record {
      begins = λ start. ⊎_elim
          (λ sound. begins_new before (g.D.Disk.seen c.settled_front.new.disk) (g.D.Disk.seen c.write_through.new.disk) c.in_ok-size.size sound.told e.seen c.in_ok-size.ensures.size (omega arith) (c.in_ok-write_through.ensures.written (e.honest.1 sound.honest)))
          (λ made. absurd (not_made before c.in_ok-size.size c.in_ok-size.front c.in_ok-size.ensures.size c.in_ok-size.ensures.front (omega arith) not made)) start;
      settled = λ honest. record { honest = c.write_through.ensures.honest.1 (e.honest.1 honest); only = c.in_ok-write_through.ensures.durable (e.honest.1 honest) };
      head = head_short before c.in_ok-size.size c.in_ok-size.ensures.size (omega arith);
      created = λ sound other. is_new before (g.D.Disk.seen c.settled_front.new.disk) (g.D.Disk.seen c.write_through.new.disk) c.in_ok-size.size sound.told e.seen c.in_ok-size.ensures.size (omega arith) (c.in_ok-write_through.ensures.written (e.honest.1 sound.honest));
      untouched = λ made. absurd (not_made before c.in_ok-size.size c.in_ok-size.front c.in_ok-size.ensures.size c.in_ok-size.ensures.front (omega arith) not made);
      refused = tt;
      store = λ is. cc;
      any_moment = λ sound. created g.D.Disk c.args.disk.now c.settled_front.new.disk c.write_through.new.disk c.in_ok-size.size (ap is_some e.seen ∙ sound.told)
          (subst (λ seen. OfContent seen length c.in_ok-size.size) (sym e.seen) c.in_ok-size.ensures.size) (omega arith) (c.in_ok-size.ensures.settled sound.honest)
          (e.crash sound.honest) (e.any_moment sound.honest) (c.write_through.ensures.any_moment (e.honest.1 sound.honest));
      sound = sound_written g.D.Disk c.args.disk.now c.settled_front.new.disk c.write_through.new.disk e.seen e.honest c.write_through.ensures.told c.write_through.ensures.honest;
      later = omega (arith, e.cause.later, c.write_through.ensures.cause.later);
    }

-- the write was refused
pub returns-in_err-write_through : goal.returns-in_err-write_through
returns-in_err-write_through g c =
    let e = c.settled_front.ensures in
    let before = g.D.Disk.seen c.args.disk.now in
    let not = λ (empty : IsEmptyJournal c.in_ok-size.front). false≢true (sym c.if-is_empty_journal.false ∙ c.is_empty_journal.ensures.1 (subst IsEmptyJournal (sym c.as_slice.ensures) empty)) in
    record {
      begins = search rules;
      settled = search rules;
      head = search rules;
      created = search rules;
      untouched = λ made. absurd (not_made before c.in_ok-size.size c.in_ok-size.front c.in_ok-size.ensures.size c.in_ok-size.ensures.front (omega arith) not made);
      refused = search rules;
      store = search rules;
      any_moment = λ sound. created g.D.Disk c.args.disk.now c.settled_front.new.disk c.write_through.new.disk c.in_ok-size.size (ap is_some e.seen ∙ sound.told)
          (subst (λ seen. OfContent seen length c.in_ok-size.size) (sym e.seen) c.in_ok-size.ensures.size) (omega arith) (c.in_ok-size.ensures.settled sound.honest)
          (e.crash sound.honest) (e.any_moment sound.honest) (c.write_through.ensures.any_moment (e.honest.1 sound.honest));
      sound = sound_written g.D.Disk c.args.disk.now c.settled_front.new.disk c.write_through.new.disk e.seen e.honest c.write_through.ensures.told c.write_through.ensures.honest;
      later = omega (arith, e.cause.later, c.write_through.ensures.cause.later);
    }
