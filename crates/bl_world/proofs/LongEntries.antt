-- An entry of many changes has many bytes.
use Rattle.std.specs.Prelude.{ℕ, ◌+◌, ◌≤◌, List, [], ◌∷◌, ◌++◌, length}
use Rattle.std.specs.List.{flat_map}
use Rattle.std.proofs.Common.{arith}
use Rattle.std.proofs.lemmas.List.{length-append}
use Rattle.bl_outside.specs.declared.digest.Digest.{Digest}
use Rattle.bl_value.specs.declared.change.Change.{Change}
use Rattle.bl_value.specs.declared.change.Change.TheVariants.{AddLabel, AddEdge, AddValue, RemoveValue}
use Rattle.bl_files.specs.declared.log.Log.{Log}
use Rattle.bl_entry.specs.declared.entry.Entry.TheVariants.{Batch}
use Rattle.bl_entry.specs.Encoding.{change_bytes, digest_bytes, entry_bytes, list_bytes, log_bytes, side_bytes, text_bytes, u32_bytes, u64_bytes, value_bytes}

some_bytes : (change : Change) → 1 ≤ length (change_bytes change)
some_bytes (AddLabel id label) = omega arith
some_bytes (AddEdge id label from to) = omega arith
some_bytes (AddValue side id key value) = omega arith
some_bytes (RemoveValue side id key value) = omega arith

all_bytes : (changes : List Change) → length changes ≤ length (flat_map change_bytes changes)
all_bytes [] = omega arith
all_bytes (change ∷ changes) = omega (arith, length-append (change_bytes change) (flat_map change_bytes changes), some_bytes change, all_bytes changes)

longer : (xs ys : List ℕ) → length ys ≤ length (xs ++ ys)
longer xs ys = omega (arith, length-append xs ys)

-- A change has a byte or more.
pub long_batch : (moment job feed from rows : ℕ) (digest : Digest) (duplicates : ℕ) (logs : List Log) (changes : List Change) → length changes ≤ length (entry_bytes (Batch moment job feed from rows digest duplicates logs changes))
long_batch moment job feed from rows digest duplicates logs changes =
    let l0 : List ℕ = list_bytes change_bytes changes in
    let l1 : List ℕ = list_bytes log_bytes logs ++ l0 in
    let l2 : List ℕ = u32_bytes duplicates ++ l1 in
    let l3 : List ℕ = digest_bytes digest ++ l2 in
    let l4 : List ℕ = u32_bytes rows ++ l3 in
    let l5 : List ℕ = u64_bytes from ++ l4 in
    let l6 : List ℕ = u32_bytes feed ++ l5 in
    let l7 : List ℕ = u32_bytes job ++ l6 in
    let l8 : List ℕ = u64_bytes moment ++ l7 in
    omega (
      arith,
      all_bytes changes,
      longer (u32_bytes (length changes)) (flat_map change_bytes changes),
      longer (list_bytes log_bytes logs) l0,
      longer (u32_bytes duplicates) l1,
      longer (digest_bytes digest) l2,
      longer (u32_bytes rows) l3,
      longer (u64_bytes from) l4,
      longer (u32_bytes feed) l5,
      longer (u32_bytes job) l6,
      longer (u64_bytes moment) l7,
    )
