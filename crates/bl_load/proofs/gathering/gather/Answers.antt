use Rattle.std.proofs.Common.{◌≡◌, ◌+◌, ◌∷◌, [], ap, ◌∙◌, subst, arith, inl, inr, length, sum}
use Rattle.std.proofs.lemmas.List.{length-append}
use Rattle.std.proofs.lemmas.List.Sums.{sum_by-append}
use Rattle.bl_rows.specs.RowReaders.{GivesRow}
use Rattle.bl_load.proofs.Gathered.{gathered_end, gathered_more, short_bytes, short_row}
use Rattle.bl_load.proofs.gathering.gather.Goals as goal

pub returns-then-bytes-ge-MOST_BYTES : goal.returns-then-bytes-ge-MOST_BYTES
returns-then-bytes-ge-MOST_BYTES c = λ all before left stands. (c.loop-row.invariant.gathers all before left stands, omega arith, inr (inr (omega arith)))

pub returns-in_default : goal.returns-in_default
returns-in_default c = λ all before left stands.
    let inv = c.loop-row.invariant.gathers all before left stands in
    let n = before + length c.loop-row.got.records in
    let ended = gathered_end all before left c.loop-row.reader c.next.new.self c.loop-row.got inv (subst (λ o. GivesRow all n inv.rest c.next.new.self o) c.in_default.is (c.in_ok-fields.ensures all n inv.rest inv.stands)) in
    (ended.0, omega arith, inl ended.1)

pub add-requires : goal.add-requires
add-requires c =
    let r = c.requires.reading in
    let inv = c.loop-row.invariant.gathers r.0 r.1 r.2 r.3 in
    let n = r.1 + length c.loop-row.got.records in
    short_bytes c.in-Some.fields (short_row r.0 inv.rest n c.next.new.self c.in-Some.fields (subst (λ o. GivesRow r.0 n inv.rest c.next.new.self o) c.in-Some.is (c.in_ok-fields.ensures r.0 n inv.rest inv.stands)))

pub loop-row-preserved : goal.loop-row-preserved
loop-row-preserved c =
    let old = c.loop-row.got in
    let added = c.in_ok-size.ensures in
    let count : length c.add.new.got.records ≡ length old.records + 1 = ap (λ l. length l) added.1 ∙ length-append old.records (c.in-Some.fields ∷ []) in
    let one : sum (c.in_ok-size.size ∷ []) ≡ c.in_ok-size.size = omega arith in
    let bytes : sum c.add.new.got.sizes ≡ sum old.sizes + c.in_ok-size.size = ap (λ l. sum l) added.3 ∙ sum_by-append (λ n. n) old.sizes (c.in_ok-size.size ∷ []) ∙ ap (λ k. sum old.sizes + k) one in
    record {
      count = omega arith;
      bytes = omega (arith, c.saturating_add-bytes.ensures);
      gathers = λ all before left stands.
          let inv = c.loop-row.invariant.gathers all before left stands in
          let n = before + length old.records in
          gathered_more all before left c.loop-row.reader c.next.new.self old c.add.new.got c.in-Some.fields c.digest.result c.in_ok-size.size inv
          (subst (λ o. GivesRow all n inv.rest c.next.new.self o) c.in-Some.is (c.in_ok-fields.ensures all n inv.rest inv.stands))
          (λ rest there. c.digest.ensures all (n + 1) rest there) added.0 added.1 added.2 added.3;
    }

pub returns : goal.returns
returns c = λ all before left stands. (c.loop-row.invariant.gathers all before left stands, omega arith, inr (inl (omega arith)))
