use Rattle.std.proofs.Common.{◌≡◌, ◌≤◌, ◌+◌, ◌<◌, ◌^◌, ◌∙◌, All, sym, ap, subst, arith, length, take}
use Rattle.std.proofs.lemmas.List.{length-take-le}
use Rattle.std.proofs.lemmas.List.Elements.{All-take}
use Rattle.std.proofs.lemmas.Result.{IfOk-weaker}
use Rattle.bl_value.specs.ValidRows.{IsRow}
use Rattle.bl_value.specs.declared.row.DigestRow.{DigestRow}
use Rattle.bl_job.specs.Batched.{AreValidRows}
use Rattle.bl_chain.specs.BatchSizes.{no_rows}
use Rattle.bl_chain.specs.NextEntries.{batch_from}
use Rattle.bl_load.specs.Gathering.{most_field_bytes}
use Rattle.bl_load.specs.Batching.{HandsOut, TakesNext}
use Rattle.bl_load.proofs.OpenLists.{few_taken, takes_next}
use Rattle.bl_load.proofs.open_file.OpenFile.next_rows.Goals as goal

pub batch_rows-count-requires-clause-lengths : goal.batch_rows-count-requires-clause-lengths
batch_rows-count-requires-clause-lengths g c =
    let r = c.requires in
    let refill = c.in_ok-refill.ensures r.0 r.1 r.2 in
    ap (λ l. length l) c.as_slice-2.ensures ∙ refill.is.lengths ∙ sym (ap (λ l. length l) c.as_slice.ensures)

pub batch_rows-count-requires-clause-valid : goal.batch_rows-count-requires-clause-valid
batch_rows-count-requires-clause-valid g c = let r = c.requires in subst AreValidRows (sym c.as_slice.ensures) (c.in_ok-refill.ensures r.0 r.1 r.2).is.valid

pub batch_rows-count-requires-clause-bounded : goal.batch_rows-count-requires-clause-bounded
batch_rows-count-requires-clause-bounded g c = let r = c.requires in subst (λ l. All (λ size. size ≤ most_field_bytes) l) (sym c.as_slice-2.ensures) (c.in_ok-refill.ensures r.0 r.1 r.2).is.bounded

pub returns-clause-rows : goal.returns-clause-rows
returns-clause-rows g c = λ header records is.
    let refill = c.in_ok-refill.ensures header records is in
    let filled = c.refill.new.self in
    let count = c.batch_rows-count.result in
    let cut : batch_from no_rows filled.rows filled.sizes ≡ take count filled.rows =
    sym (λ i. batch_from no_rows (c.as_slice.ensures i) (c.as_slice-2.ensures i)) ∙ c.batch_rows-count.ensures.batch ∙ ap (λ l. take count l) c.as_slice.ensures in
    IfOk-weaker c.hand_out.result (HandsOut header records filled count c.hand_out.new.self) (TakesNext header records c.args.self.now c.hand_out.new.self)
    (λ out hands. takes_next header records c.args.self.now filled c.hand_out.new.self count out refill cut hands)
    (c.hand_out.ensures header records refill.is)

pub returns-clause-valid : goal.returns-clause-valid
returns-clause-valid g c =
    let r = c.requires in
    let refill = c.in_ok-refill.ensures r.0 r.1 r.2 in
    let filled = c.refill.new.self in
    let count = c.batch_rows-count.result in
    IfOk-weaker c.hand_out.result (HandsOut r.0 r.1 filled count c.hand_out.new.self) AreValidRows
    (λ out hands. subst AreValidRows (sym hands.rows_are) (All-take (λ (row : DigestRow). IsRow row.row) count filled.rows refill.is.valid))
    (c.hand_out.ensures r.0 r.1 refill.is)

pub returns-clause-few : goal.returns-clause-few
returns-clause-few g c =
    let r = c.requires in
    let refill = c.in_ok-refill.ensures r.0 r.1 r.2 in
    let filled = c.refill.new.self in
    let count = c.batch_rows-count.result in
    let within : count ≤ length filled.rows = subst (λ l. count ≤ length l) c.as_slice.ensures c.batch_rows-count.ensures.within in
    IfOk-weaker c.hand_out.result (HandsOut r.0 r.1 filled count c.hand_out.new.self) (λ out. length out ≤ 1000)
    (λ out hands. let e : length out ≡ count = ap (λ l. length l) hands.rows_are ∙ length-take-le count filled.rows within in omega (arith, c.batch_rows-count.ensures.few))
    (c.hand_out.ensures r.0 r.1 refill.is)

pub returns-clause-from : goal.returns-clause-from
returns-clause-from g c =
    let r = c.requires in
    let refill = c.in_ok-refill.ensures r.0 r.1 r.2 in
    let filled = c.refill.new.self in
    let count = c.batch_rows-count.result in
    let within : count ≤ length filled.rows = subst (λ l. count ≤ length l) c.as_slice.ensures c.batch_rows-count.ensures.within in
    IfOk-weaker c.hand_out.result (HandsOut r.0 r.1 filled count c.hand_out.new.self) (λ out. c.args.self.now.taken + length out < 2 ^ 40)
    (λ out hands. few_taken r.0 r.1 c.args.self.now filled count out refill within hands.rows_are)
    (c.hand_out.ensures r.0 r.1 refill.is)
