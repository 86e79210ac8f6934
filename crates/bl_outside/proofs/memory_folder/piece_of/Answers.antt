use Rattle.std.proofs.Common.{◌≡◌, Some, List, ℕ, sym, ◌∙◌}
use Rattle.std.proofs.lemmas.Result.{IfOk-weaker}
use Rattle.std.specs.Ordering.{nat_cmp}
use Rattle.std.specs.Cmp.Lexicographic.{slice_cmp}
use Rattle.std.specs.FinMap as map
use Rattle.bl_outside.specs.Folders.{Files, ReadsFile}
use Rattle.bl_outside.specs.MemoryFolders.{IsPart}
use Rattle.bl_outside.specs.declared.listing.Piece.{Piece}
use Rattle.bl_outside.specs.declared.listing.Piece.TheVariants.{Missing, Ended, Bytes}
use Rattle.bl_outside.proofs.Finite.{get_text}
use Rattle.bl_outside.proofs.memory_folder.piece_of.Goals as goal

reads_part : (files : Files) (path bytes : List ℕ) (at : ℕ) → map.get files path ≡ Some bytes → (piece : Piece) → IsPart bytes at piece → ReadsFile (Some files) path at piece
reads_part files path bytes at e Missing h = absurd h
reads_part files path bytes at e Ended h = (bytes, e, h)
reads_part files path bytes at e (Bytes piece) h = (bytes, e, h.0, h.1)

pub returns-in-Some-clause-bytes : goal.returns-in-Some-clause-bytes
returns-in-Some-clause-bytes c =
    IfOk-weaker c.part_of.result (IsPart c.in-Some.bytes.now c.args.at) _ (reads_part (map.from_entries {R = slice_cmp nat_cmp} c.args.files.now.entries) c.args.path.now c.in-Some.bytes.now c.args.at
    (get_text c.args.files.now.entries c.args.path.now ∙ sym c.in-Some.ensures.value)) c.part_of.ensures.part

pub returns-in-None-clause-bytes : goal.returns-in-None-clause-bytes
returns-in-None-clause-bytes c = get_text c.args.files.now.entries c.args.path.now ∙ sym c.in-None.ensures.value
