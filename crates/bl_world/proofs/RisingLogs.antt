-- Numbers of logs that rise, and one log more.
use Rattle.std.specs.Prelude.{ℕ, ◌+◌, ◌-◌, ◌<◌, ◌≤◌, List, length}
use Rattle.std.proofs.Common.{arith, ap, below_more, get_or}
use Rattle.std.proofs.lemmas.List.{get_or_default}
use Rattle.bl_files.specs.declared.log.Log.{Log}

pub rise_more : (logs : List Log) (i : ℕ) (e : Log) → 1 ≤ i → i < length logs → (get_or logs (i - 1) e).number < (get_or logs i e).number
    → ((j k : ℕ) (d : Log) → j < k → k < i → (get_or logs j d).number < (get_or logs k d).number) → (j k : ℕ) (d : Log) → j < k → k < i + 1 → (get_or logs j d).number < (get_or logs k d).number
rise_more logs i e some within step before j k d less below =
    below_more (λ k. (j : ℕ) → j < k → (get_or logs j d).number < (get_or logs k d).number) i (λ k h j less. before j k d less h) here k below j less where
      last : (get_or logs (i - 1) d).number < (get_or logs i d).number
      last = omega (arith, step, ap (λ (l : Log). l.number) (get_or_default logs (i - 1) d e (omega arith)), ap (λ (l : Log). l.number) (get_or_default logs i d e within))

      here : (j : ℕ) → j < i → (get_or logs j d).number < (get_or logs i d).number
      here j less = below_more (λ j. (get_or logs j d).number < (get_or logs i d).number) (i - 1) (λ j h. omega (arith, last, before j (i - 1) d h (omega arith))) last j (omega arith)
