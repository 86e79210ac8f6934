-- Counting the frames of a journal as they are read.
use Rattle.std.proofs.Common.{◌≡◌, ℕ, ◌*◌, List, [], ◌∷◌, ◌++◌, length, sum_by, Option, None, Some, IfSome, sym, ◌∙◌, ap, subst, arith}
use Rattle.std.proofs.lemmas.List.{append_assoc, append-nil, length-replicate}
use Rattle.std.proofs.lemmas.List.Folds.{sum_by-replicate}
use Rattle.bl_journal.specs.Frames.{Found, frames, prefixed}
use Rattle.bl_journal.specs.Journals.{Begins, SeesFrames, Stands}
use Rattle.bl_bench.specs.Counting.{Counted, alike, body}
use Rattle.bl_bench.specs.declared.counts.Counts.{Counts}

-- where nothing lies ahead, all bodies were counted
pub all_counted : (bodies done : List (List ℕ)) (ahead : Found) (counts : Counts) → ◌≡◌ {A = Found} (bodies, None) (prefixed done ahead) → ahead ≡ ([], None) → counts.items ≡ length done → counts.bytes ≡ sum_by length done → Counted bodies counts
all_counted bodies done ahead counts all end frames bytes =
    let same : bodies ≡ done = ap (λ (f : Found). f.0) all ∙ ap (λ (f : Found). done ++ f.0) end ∙ append-nil done in
    record {
      items = frames ∙ ap length (sym same);
      bytes = bytes ∙ ap (λ them. sum_by length them) (sym same);
    }

-- one body more, that lay ahead
pub prefixed_more : (bodies done : List (List ℕ)) (next : List ℕ) (ahead more : Found) → ◌≡◌ {A = Found} (bodies, None) (prefixed done ahead) → ahead ≡ prefixed (next ∷ []) more → ◌≡◌ {A = Found} (bodies, None) (prefixed (done ++ next ∷ []) more)
prefixed_more bodies done next ahead more all is = all ∙ ap (λ found. prefixed done found) is ∙ ap (λ them. (them, more.1)) (sym (append_assoc done (next ∷ []) more.0))

-- a journal that was opened again has all its frames ahead
pub ahead_again : (before seen : Option (List ℕ)) (place first : ℕ) (bodies : List (List ℕ)) → Stands before place bodies ([], None) → Begins before seen → first ≡ 15 → Stands seen first [] (bodies, None)
ahead_again before seen place first bodies stood begins is =
    let own : frames stood.content ≡ (bodies, None) =
    stood.reaches.own ∙ ap (λ found. prefixed bodies found) (sym stood.rest) ∙ ap (λ them. (them, None)) (append-nil bodies) in
    let all : frames stood.content ≡ begins.ahead = subst (λ told. SeesFrames told begins.ahead) stood.told begins.is in
    subst (λ at. Stands seen at [] (bodies, None)) (sym is) (subst (λ found. Stands seen 15 [] found) (sym all ∙ own) begins.stands)

-- what is counted of frames that are all alike
pub frames_alike : (n : ℕ) (counts : Option Counts) → IfSome counts (Counted (alike n)) → IfSome counts (λ them. them.items ≡ n)
frames_alike n None counted = tt
frames_alike n (Some them) counted = counted.items ∙ length-replicate n body

pub bytes_alike : (n : ℕ) (counts : Option Counts) → IfSome counts (Counted (alike n)) → IfSome counts (λ them. them.bytes ≡ 100 * n)
bytes_alike n None counted = tt
bytes_alike n (Some them) counted = omega (arith, counted.bytes, sum_by-replicate length n body)
