use Rattle.std.proofs.Common.{◌≤◌, ◌+◌, ◌∷◌, ◌∙◌, sym, ap, subst, sum, length}
use Rattle.std.proofs.lemmas.List.{length-map}
use Rattle.bl_rows.specs.FirstFaults.{record_row}
use Rattle.bl_load.proofs.RowLists.{length-digests}
use Rattle.bl_load.specs.Gathering.{GathersEnough}
use Rattle.bl_load.proofs.OpenLists.{refilled_as}
use Rattle.bl_load.proofs.open_file.OpenFile.refill.Goals as goal

pub returns : goal.returns
returns g c = λ header records is.
    let old = c.args.self.now in
    refilled_as header records old c.gather.new.reader c.in_ok-got.got c.in_ok-rows.rows c.in_ok-digest_rows.field-0 c.append.new.self c.append-2.new.self c.bytes_of.result is
    (subst (λ l. c.bytes_of.result ≤ sum l) c.as_slice.ensures c.bytes_of.ensures)
    (subst (λ n. GathersEnough (header ∷ records) (old.taken + length old.rows) is.left n c.bytes_of.result c.gather.new.reader c.in_ok-got.got) c.len-rows.ensures (c.in_ok-got.ensures (header ∷ records) (old.taken + length old.rows) is.left is.stands))
    c.in_ok-rows.ensures.rows c.in_ok-rows.ensures.valid c.in_ok-digest_rows.ensures c.in_ok-append.ensures.ok c.in_ok-append-2.ensures.ok

pub digest_rows-requires : goal.digest_rows-requires
digest_rows-requires g c =
    let old = c.args.self.now in
    let r = c.requires in
    let n = old.taken + length old.rows in
    let got = (c.in_ok-got.ensures (r.0 ∷ r.1) n r.2.left r.2.stands).0 in
    ap (λ l. length l) got.digests_are ∙ length-digests (r.0 ∷ r.1) n c.in_ok-got.got.records ∙ sym (ap (λ l. length l) c.in_ok-rows.ensures.rows ∙ length-map c.in_ok-got.got.records (record_row old.columns))
