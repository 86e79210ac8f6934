-- What a reading of told content gives is as long as was asked for.
use Rattle.std.proofs.Common.{◌≡◌, ℕ, ◌+◌, ◌<◌, ◌≤◌, List, length, take, drop, Some, None, Ok, Err, subst, ap, ◌∙◌, arith}
use Rattle.std.specs.declared.option.Option.{Option}
use Rattle.std.proofs.lemmas.List.{length-take-le, length-drop}
use Rattle.bl_outside.specs.Disks.{OfContent}
use Rattle.bl_outside.specs.declared.journal_fault.JournalFault.TheVariants.{NotAJournal}
use Rattle.bl_outside.proofs.Told.{of_told}
use Rattle.bl_snapshot.specs.TwoSlots.{LengthIs, NumbersAre, GateIs}
use Rattle.bl_snapshot.specs.declared.slot_file.Gate.{Gate}

pub read_length : (content : List ℕ) (at n : ℕ) → at + n ≤ length content → length (take n (drop at content)) ≡ n
read_length content at n within = length-take-le n (drop at content) (omega (arith, length-drop at content))

pub never_short : (seen : Option (List ℕ)) (n : ℕ) (numbers : List ℕ) → LengthIs seen (Ok (Some n)) → OfContent seen (λ content. take 16 (drop 20 content)) numbers → length numbers < 8 → NumbersAre seen (Err (NotAJournal 15))
never_short None n numbers is read short = tt
never_short (Some content) n numbers is read short = absurd (omega (arith, short, ap (λ (l : List ℕ). length l) read, read_length content 20 16 (omega (arith, is.1, is.2))))

pub never_other : (seen : Option (List ℕ)) (content bytes : List ℕ) (n : ℕ) → OfContent seen (λ content. take n (drop 36 content)) bytes → seen ≡ Some content → 36 + n ≤ length content → length bytes ≡ n
never_other seen content bytes n read told within =
    let is : bytes ≡ take n (drop 36 content) = of_told seen content (λ content. take n (drop 36 content)) bytes told read in
    ap (λ (l : List ℕ). length l) is ∙ read_length content 36 n within

-- what the gate of a told file is
pub gate_told : (seen : Option (List ℕ)) (content : List ℕ) (gate : Gate) → seen ≡ Some content → GateIs seen gate → GateIs (Some content) gate
gate_told seen content gate told is = subst (λ o. GateIs o gate) told is
