-- What reading and writing entries gives.
use Rattle.std.specs.Prelude.{◌≡◌, ℕ, List, [], ◌++◌, Result, Ok, Err}
use Rattle.bl_entry.specs.declared.entry.Entry.{Entry}
use Rattle.bl_entry.specs.declared.refusal.EntryRefusal.{EntryRefusal}
use Rattle.bl_entry.specs.declared.refusal.EntryRefusal.TheVariants.{NotAnEntry, NoMemory}
use Rattle.bl_entry.specs.Encoding.{entry_bytes}
use Rattle.bl_entry.specs.Valid.{IsEntry}

-- the valid entry that has these bytes, or none has
abbrev pub Decodes : List ℕ → Result Entry EntryRefusal → Type 0
Decodes bytes (Ok entry) = IsEntry entry × (bytes ≡ entry_bytes entry)
Decodes bytes (Err NotAnEntry) = (entry : Entry) → IsEntry entry → ¬ (bytes ≡ entry_bytes entry)
Decodes bytes (Err NoMemory) = Unit {0}

-- no encoding is the front of another, and each is of one entry
abbrev pub NoneBegins : Type 0
NoneBegins = (a b : Entry) (rest : List ℕ) → IsEntry a → IsEntry b →
    entry_bytes a ++ rest ≡ entry_bytes b → (a ≡ b) × (rest ≡ [])
