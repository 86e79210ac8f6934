-- What is known of a reader of rows.
use Rattle.std.specs.Prelude.{ℕ, Bool, List}
use Rattle.std.specs.declared.option.Option.{Option}
use Rattle.bl_rows.specs.Contents.{Fields}

-- The header, whether the file has no record at all, how many records behind the header were taken,
-- the digest of what was taken, and the records that are left: nothing once memory ran out.
pub record Reading : Type 0 where
  pub header : Fields
  pub is_empty : Bool
  pub taken : ℕ
  pub digest : List ℕ
  pub left : Option (List Fields)
