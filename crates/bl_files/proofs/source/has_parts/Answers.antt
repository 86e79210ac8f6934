use Rattle.std.proofs.Common.{◌≡◌, ◌∙◌, sym, subst, arith, ◌+◌, drop}
use Rattle.std.specs.List.{list_all}
use Rattle.bl_files.specs.Sources.{is_part, parts, parts_from}
use Rattle.bl_files.proofs.Parts.{between, part_ends, part_goes_on}
use Rattle.bl_files.proofs.source.has_parts.Goals as goal
use Rattle.bl_files.proofs.source.has_parts.Goals.{then-byte-eq47+else-not-is_part, else-byte-eq47}

pub loop-i-preserved : goal.loop-i-preserved
loop-i-preserved c =
    elim c.if-byte-eq47.branch [
      | then-byte-eq47+else-not-is_part w ↦ record {
        before = omega (arith, w.start-is);
        same =
            subst (λ start. list_all is_part (parts_from (between c.args.text.now start (c.loop-i.i + 1)) (drop (c.loop-i.i + 1) c.args.text.now)) ≡ list_all is_part (parts c.args.text.now)) (sym w.start-is)
            (part_ends c.args.text.now c.loop-i.start c.loop-i.i _ c.loop-i-test.true w.if-byte-eq47.true (sym w.is_part.ensures ∙ w.if-not-is_part.false) c.loop-i.invariant.same);
      }
      | else-byte-eq47 w ↦ record {
        before = omega (arith, w.start-is, c.loop-i.invariant.before);
        same =
            subst (λ start. list_all is_part (parts_from (between c.args.text.now start (c.loop-i.i + 1)) (drop (c.loop-i.i + 1) c.args.text.now)) ≡ list_all is_part (parts c.args.text.now)) (sym w.start-is)
            (part_goes_on c.args.text.now c.loop-i.start c.loop-i.i _ c.loop-i.invariant.before c.loop-i-test.true w.if-byte-eq47.false c.loop-i.invariant.same);
      }
    ]
