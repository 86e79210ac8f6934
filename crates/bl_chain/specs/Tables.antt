-- The files of a load, each as its rows.
use Rattle.std.specs.Prelude.{◌≡◌, ℕ, Bool, true, false, List, [], map, length, Contains}
use Rattle.std.specs.List.{All, list_any}
use Rattle.std.specs.List.Sorted.{IsStrictlySortedBy}
use Rattle.bl_value.specs.declared.row.DigestRow.{DigestRow}
use Rattle.bl_files.specs.declared.feed_kind.FeedKind.{FeedKind}
use Rattle.bl_files.specs.declared.feed_kind.FeedKind.TheVariants as kind
use Rattle.bl_files.specs.declared.found.Found.{Found}
use Rattle.bl_files.specs.Carried.{feed_cmp, new_feed}

-- A file of a load: what is found of it, and its rows, each with the digest behind it.
pub record Table : Type 0 where
  pub found : Found
  pub rows : List DigestRow
  -- the bytes of each row's fields
  pub sizes : List ℕ

-- a file that isn't read
abbrev pub is_unread : FeedKind → Bool
is_unread kind.Vertex = false
is_unread kind.Edge = false
is_unread (kind.Refused code column) = true

abbrev pub any_unread : List Table → Bool
any_unread tables = list_any (λ table. is_unread table.found.kind) tables

-- it has no rows
abbrev pub HasNoneUnread : FeedKind → List DigestRow → Type 0
HasNoneUnread kind.Vertex rows = Unit {0}
HasNoneUnread kind.Edge rows = Unit {0}
HasNoneUnread (kind.Refused code column) rows = rows ≡ []

-- What the files of a load always are.
pub record AreTables (tables : List Table) : Type 0 where
  -- each name is that of one file
  pub apart : (a b : Table) → Contains tables a → Contains tables b → a.found.name ≡ b.found.name → a ≡ b
  -- those that aren't read, then vertex files, then edge files, each by the bytes of the names
  pub ordered : IsStrictlySortedBy feed_cmp (map (λ table. new_feed table.found) tables)
  pub unread : All (λ table. HasNoneUnread table.found.kind table.rows) tables
  pub sized : All (λ table. length table.sizes ≡ length table.rows) tables
