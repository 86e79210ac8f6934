-- What is ahead in the input, from call to call.
use Rattle.std.proofs.Common.{◌≡◌, ◌+◌, ◌≤◌, ℕ, List, [], ◌++◌, length, take, nat_le, None, Some, option_map, refl, sym, ◌∙◌, ap, subst, arith, append_assoc}
use Rattle.std.specs.declared.option.Option.{Option}
use Rattle.std.proofs.lemmas.List.{append-nil}
use Rattle.bl_http.specs.Buffers.{BufferRecord, Gave, empty_buffer, input_limit}
use Rattle.bl_http.specs.Inputs.{Ahead, ahead}
use Rattle.bl_http.specs.Readings.{ReadsOne}
use Rattle.bl_http.specs.declared.asked.Asked.{Asked}
use Rattle.bl_http.proofs.InputLemmas.{reads_asks}
use Rattle.bl_session.specs.Steps.{Writes}
use Rattle.bl_script.specs.Rounds.{AsksNext, ahead_in}
use Rattle.bl_script.specs.Scripts.{ahead_of}

-- a source that tells what it has left still tells it
still_told : (left : List ℕ) (now : Option (List ℕ)) (more : List ℕ) → Gave (Some left) now more → (rest : List ℕ) × (now ≡ Some rest)
still_told left now more (rest, is, whole) = (rest, is)

-- what one call reads is what stands next
pub asks_next : (left now : Option (List ℕ)) (old new : BufferRecord) (asked : Asked) → ReadsOne left now old new asked → new.taken ≤ input_limit → AsksNext (ahead_in old left) asked (ahead_in new now)
asks_next None now old new asked reads within = ap (λ o. option_map (ahead new) o) reads.moves.gave
asks_next (Some left) now old new asked reads within =
    let after = still_told left now reads.moves.more reads.moves.gave in (
      ahead new after.0,
      ap (λ o. option_map (ahead new) o) after.1,
      reads_asks left after.0 old new asked (subst (λ (o : Option (List ℕ)). ReadsOne (Some left) o old new asked) after.1 reads) within,
    )

-- a new buffer has the whole input ahead
pub ahead_first : (left : Option (List ℕ)) → ahead_in empty_buffer left ≡ ahead_of left
ahead_first None = refl
ahead_first (Some bytes) =
    let none : 0 + length bytes ≡ length bytes = omega arith in
    ap (λ (n : ℕ). Some (let it : Ahead = record { bytes = take input_limit bytes; cut = nat_le input_limit n } in it)) none

pub ahead_is : (buffer : BufferRecord) → buffer ≡ empty_buffer → (left : Option (List ℕ)) → ahead_in buffer left ≡ ahead_of left
ahead_is buffer empty left = ap (λ (it : BufferRecord). ahead_in it left) empty ∙ ahead_first left

-- ---- what was written

pub writes_none : (written : Option (List ℕ)) → Writes [] written written
writes_none None = refl
writes_none (Some written) = ap (λ t. Some t) (sym (append-nil written))

pub writes_more : (old mid new : Option (List ℕ)) (first second : List ℕ) → Writes first old mid → Writes second mid new → Writes (first ++ second) old new
writes_more None mid new first second one two = subst (λ (o : Option (List ℕ)). Writes second o new) one two
writes_more (Some written) mid new first second one two =
    let next : Writes second (Some (written ++ first)) new = subst (λ (o : Option (List ℕ)). Writes second o new) one two in
    next ∙ ap (λ t. Some t) (append_assoc written first second)
