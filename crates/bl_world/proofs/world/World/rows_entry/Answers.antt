use Rattle.std.proofs.Common.{◌≡◌, ◌≤◌, ◌^◌, length, ap, subst, sym, ◌∙◌, arith}
use Rattle.std.proofs.lemmas.Result.{IfOk-weaker}
use Rattle.bl_files.specs.declared.feed.Feed.{Feed}
use Rattle.bl_queue.specs.declared.job.Job.{Job}
use Rattle.bl_entry.specs.declared.entry.Entry.{Entry}
use Rattle.bl_entry.specs.Encoding.{entry_bytes}
use Rattle.bl_job.specs.Batches.{batch}
use Rattle.bl_world.specs.Makings.{HasLongEntry, IsRowsEntry, RowsEntry, next_moment}
use Rattle.bl_value.specs.declared.row.DigestRow.{DigestRow}
use Rattle.std.specs.Prelude.{List}
use Rattle.bl_world.specs.declared.work.Work.TheVariants.{Continue}
use Rattle.bl_world.specs.Following.{AreCountsOf, HasMany}
use Rattle.bl_world.specs.Works.{work_of}
use Rattle.bl_world.specs.Worlds.{AreNext, Follows, IsBegun, World}
use Rattle.bl_world.proofs.MadeRows.{long_rows, made_are, made_valid, rows_begin, rows_entry_is}
use Rattle.bl_world.proofs.NextWorks.{GoesOn, continue_is}
use Rattle.bl_world.proofs.world.World.rows_entry.Goals as goal

pub take_rows-requires-clause-next : goal.take_rows-requires-clause-next
take_rows-requires-clause-next c =
    let work : work_of c.self.inside.jobs.jobs ≡ Continue c.args.job c.args.feed c.args.from = subst (λ (w : World). work_of w.kept.jobs ≡ Continue c.args.job c.args.feed c.args.from) (sym c.self.view_is) c.requires.next in
    let goes : GoesOn c.self.inside.jobs.jobs c.args.job c.args.feed c.args.from = continue_is c.self.inside.jobs.jobs c.args.job c.args.feed c.args.from work in
    (goes.it, goes.of, goes.next)

pub invariant_of-self : goal.invariant_of-self
invariant_of-self c = record { graph = c.take_rows.ensures.valid c.self.invariant.graph; values = c.take_rows.ensures.values c.self.invariant.values; files = c.self.invariant.files; commits = c.self.invariant.commits }

pub entry_of-requires-clause-counts : goal.entry_of-requires-clause-counts
entry_of-requires-clause-counts c =
    subst (λ (l : List DigestRow). AreCountsOf l c.in_ok-made.made) (sym c.as_slice.ensures) (made_are c.self.inside.jobs.jobs c.self.inside.graph c.take_rows.new.graph c.args.job c.args.feed c.args.rows.now c.in_ok-made.made c.in_ok-made.ensures.made)

pub entry_of-requires-clause-changes : goal.entry_of-requires-clause-changes
entry_of-requires-clause-changes c =
    made_valid c.self.inside.jobs.jobs c.self.inside.graph c.take_rows.new.graph c.args.job c.args.feed c.args.rows.now c.in_ok-made.made c.in_ok-made.ensures.made c.requires.valid c.self.invariant.values

pub invariant_of-self-2 : goal.invariant_of-self-2
invariant_of-self-2 c = record { graph = c.take_rows.ensures.valid c.self.invariant.graph; values = c.take_rows.ensures.values c.self.invariant.values; files = c.self.invariant.files; commits = c.self.invariant.commits }

-- the world with the fields as they are
pub returns-clause-begun : goal.returns-clause-begun
returns-clause-begun c =
    let world : World = record { entries = c.self.inside.entries; moment = c.self.inside.moment; kept = c.self.inside.jobs; graph = c.self.inside.graph; commits = c.self.inside.commits } in
    let work : work_of world.kept.jobs ≡ Continue c.args.job c.args.feed c.args.from = subst (λ (w : World). work_of w.kept.jobs ≡ Continue c.args.job c.args.feed c.args.from) (sym c.self.view_is) c.requires.next in
    let goes : GoesOn world.kept.jobs c.args.job c.args.feed c.args.from = continue_is world.kept.jobs c.args.job c.args.feed c.args.from work in
    let later : world.moment ≤ c.next_moment-moment.result = omega (arith, c.next_moment-moment.ensures, ap (λ (w : World). w.moment) c.self.view_is) in
    IfOk-weaker c.entry_of.result (λ entry. (of : Feed) → of.taken ≡ c.args.from → IsRowsEntry c.next_moment-moment.result c.args.job c.args.feed of c.as_slice.result.now c.in_ok-made.made entry)
    (λ entry. IsBegun c.args.self.now entry (record world { graph = c.take_rows.new.graph }))
    (λ entry h. subst (λ (w : World). IsBegun w entry (record world { graph = c.take_rows.new.graph })) c.self.view_is
    (rows_begin world c.next_moment-moment.result c.args.job c.args.feed c.args.from c.args.rows.now c.in_ok-made.made c.take_rows.new.graph goes.it goes.of goes.next goes.from_is c.in_ok-made.ensures.made c.requires.some c.requires.few c.requires.room c.requires.valid
    (λ k d below. c.valid_rows_are_proper.ensures _ (c.requires.valid k d below)) later entry
    (subst (λ (l : List DigestRow). IsRowsEntry c.next_moment-moment.result c.args.job c.args.feed goes.of l c.in_ok-made.made entry) c.as_slice.ensures (h goes.of (sym goes.from_is))))) c.entry_of.ensures.entry

pub returns-clause-entry : goal.returns-clause-entry
returns-clause-entry c =
    let world : World = record { entries = c.self.inside.entries; moment = c.self.inside.moment; kept = c.self.inside.jobs; graph = c.self.inside.graph; commits = c.self.inside.commits } in
    let work : work_of world.kept.jobs ≡ Continue c.args.job c.args.feed c.args.from = subst (λ (w : World). work_of w.kept.jobs ≡ Continue c.args.job c.args.feed c.args.from) (sym c.self.view_is) c.requires.next in
    let goes : GoesOn world.kept.jobs c.args.job c.args.feed c.args.from = continue_is world.kept.jobs c.args.job c.args.feed c.args.from work in
    let later : world.moment ≤ c.next_moment-moment.result = omega (arith, c.next_moment-moment.ensures, ap (λ (w : World). w.moment) c.self.view_is) in
    let at : c.next_moment-moment.result ≡ next_moment c.args.now world = c.next_moment-moment.ensures ∙ ap (next_moment c.args.now) (sym c.self.view_is) in
    IfOk-weaker c.entry_of.result (λ entry. (of : Feed) → of.taken ≡ c.args.from → IsRowsEntry c.next_moment-moment.result c.args.job c.args.feed of c.as_slice.result.now c.in_ok-made.made entry)
    (RowsEntry c.args.job c.args.feed c.args.rows.now c.args.now c.args.self.now)
    (λ entry h. subst (λ (w : World). RowsEntry c.args.job c.args.feed c.args.rows.now c.args.now w entry) c.self.view_is (
      goes.it,
      goes.of,
      goes.next,
      subst (λ m. IsRowsEntry m c.args.job c.args.feed goes.of c.args.rows.now (batch goes.it.request world.graph c.args.rows.now).result entry) at
          (rows_entry_is world c.next_moment-moment.result c.args.job c.args.feed c.args.from c.args.rows.now c.in_ok-made.made c.take_rows.new.graph goes.it goes.of goes.next goes.from_is c.in_ok-made.ensures.made c.requires.some c.requires.few c.requires.room c.requires.valid
          (λ k d below. c.valid_rows_are_proper.ensures _ (c.requires.valid k d below)) later entry
          (subst (λ (l : List DigestRow). IsRowsEntry c.next_moment-moment.result c.args.job c.args.feed goes.of l c.in_ok-made.made entry) c.as_slice.ensures (h goes.of (sym goes.from_is)))),
    )) c.entry_of.ensures.entry

pub returns-clause-many : goal.returns-clause-many
returns-clause-many c many =
    let world : World = record { entries = c.self.inside.entries; moment = c.self.inside.moment; kept = c.self.inside.jobs; graph = c.self.inside.graph; commits = c.self.inside.commits } in
    let work : work_of world.kept.jobs ≡ Continue c.args.job c.args.feed c.args.from = subst (λ (w : World). work_of w.kept.jobs ≡ Continue c.args.job c.args.feed c.args.from) (sym c.self.view_is) c.requires.next in
    let goes : GoesOn world.kept.jobs c.args.job c.args.feed c.args.from = continue_is world.kept.jobs c.args.job c.args.feed c.args.from work in
    let later : world.moment ≤ c.next_moment-moment.result = omega (arith, c.next_moment-moment.ensures, ap (λ (w : World). w.moment) c.self.view_is) in
    let at : c.next_moment-moment.result ≡ next_moment c.args.now world = c.next_moment-moment.ensures ∙ ap (next_moment c.args.now) (sym c.self.view_is) in
    let has : HasMany c.in_ok-made.made = c.entry_of.ensures.many many in
    subst (λ (w : World). HasLongEntry c.args.job c.args.feed c.args.rows.now c.args.now w) c.self.view_is
    (subst (λ m. (entry : Entry) × ((it : Job) × (of : Feed) × AreNext world.kept.jobs c.args.job c.args.feed it of × IsRowsEntry m c.args.job c.args.feed of c.args.rows.now (batch it.request world.graph c.args.rows.now).result entry) × Follows world entry × (2 ^ 32 ≤ length (entry_bytes entry))) at
    (long_rows world c.next_moment-moment.result c.args.job c.args.feed c.args.from c.args.rows.now c.in_ok-made.made c.take_rows.new.graph goes.it goes.of goes.next goes.from_is c.in_ok-made.ensures.made c.requires.some c.requires.few c.requires.room c.requires.valid
    (λ k d below. c.valid_rows_are_proper.ensures _ (c.requires.valid k d below)) later has))
