-- The list that a value may be said to stand for, where it isn't known whether anything is told.
use Rattle.std.proofs.Common.{◌≡◌, length, drop, sym, refl}
use mathlib.Core.Logic.{dite}
use mathlib.Core.List.{List-discrete}
use native.Mathlib.Decide.{ℕ_discrete}
use Rattle.bl_turnstile.specs.Entries.{Entries, IsPrefix, longer}
use Rattle.bl_turnstile.proofs.Counts.{longer_is, prefix_self}

-- what is there now, if it begins with what was seen, and else what was seen. Whether lists of bytes begin one another can be decided
pub chosen : (told good : Type 0) (seen now : Entries) → (told → good × IsPrefix seen now) → (entries : Entries) × (told → good × (entries ≡ now)) × IsPrefix seen entries
chosen told good seen now h = dite (List-discrete (List-discrete ℕ_discrete) now (longer seen now))
    (λ e. (now, (λ t. ((h t).0, refl)), (drop (length seen) now, e)))
    (λ ne. (seen, (λ t. absurd (ne (sym (longer_is seen now (h t).1)))), prefix_self seen))
