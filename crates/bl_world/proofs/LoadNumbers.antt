-- A load id ends in the load's number.
use Rattle.std.specs.Prelude.{◌≡◌, ℕ, ◌+◌, ◌*◌, ◌/◌, ◌%◌, ◌^◌, ◌<◌, slice_index}
use Rattle.std.proofs.Common.{ap, ◌∙◌, arith}
use Rattle.std.proofs.lemmas.Nat.{from_be_bytes-to_be_bytes_8, mod-mul-add}
use Rattle.bl_queue.specs.Jobs.{number_in}
use Rattle.bl_world.specs.LoadIds.{load_id, load_number}

-- the low six of eight bytes are all of a number below 2^48
low_bytes : (b7 b6 b5 b4 b3 b2 b1 b0 n : ℕ) → b7 * 256 ^ 7 + b6 * 256 ^ 6 + b5 * 256 ^ 5 + b4 * 256 ^ 4 + b3 * 256 ^ 3 + b2 * 256 ^ 2 + b1 * 256 ^ 1 + b0 ≡ n → n < 2 ^ 48 → b5 * 256 ^ 5 + b4 * 256 ^ 4 + b3 * 256 ^ 3 + b2 * 256 ^ 2 + b1 * 256 ^ 1 + b0 ≡ n
low_bytes b7 b6 b5 b4 b3 b2 b1 b0 n h less = omega arith

split_bytes : (t0 t1 t2 t3 t4 t5 t6 t7 t8 t9 b5 b4 b3 b2 b1 b0 n : ℕ) → b5 * 256 ^ 5 + b4 * 256 ^ 4 + b3 * 256 ^ 3 + b2 * 256 ^ 2 + b1 * 256 ^ 1 + b0 ≡ n
    → t0 * 256 ^ 15 + t1 * 256 ^ 14 + t2 * 256 ^ 13 + t3 * 256 ^ 12 + t4 * 256 ^ 11 + t5 * 256 ^ 10 + t6 * 256 ^ 9 + t7 * 256 ^ 8 + t8 * 256 ^ 7 + t9 * 256 ^ 6 + b5 * 256 ^ 5 + b4 * 256 ^ 4 + b3 * 256 ^ 3 + b2 * 256 ^ 2 + b1 * 256 ^ 1 + b0 ≡ (t0 * 256 ^ 9 + t1 * 256 ^ 8 + t2 * 256 ^ 7 + t3 * 256 ^ 6 + t4 * 256 ^ 5 + t5 * 256 ^ 4 + t6 * 256 ^ 3 + t7 * 256 ^ 2 + t8 * 256 ^ 1 + t9) * 2 ^ 48 + n
split_bytes t0 t1 t2 t3 t4 t5 t6 t7 t8 t9 b5 b4 b3 b2 b1 b0 n h = omega arith

last_bytes : (t0 t1 t2 t3 t4 t5 t6 t7 t8 t9 b5 b4 b3 b2 b1 b0 n : ℕ) → b5 * 256 ^ 5 + b4 * 256 ^ 4 + b3 * 256 ^ 3 + b2 * 256 ^ 2 + b1 * 256 ^ 1 + b0 ≡ n → n < 2 ^ 48
    → (t0 * 256 ^ 15 + t1 * 256 ^ 14 + t2 * 256 ^ 13 + t3 * 256 ^ 12 + t4 * 256 ^ 11 + t5 * 256 ^ 10 + t6 * 256 ^ 9 + t7 * 256 ^ 8 + t8 * 256 ^ 7 + t9 * 256 ^ 6 + b5 * 256 ^ 5 + b4 * 256 ^ 4 + b3 * 256 ^ 3 + b2 * 256 ^ 2 + b1 * 256 ^ 1 + b0) % 2 ^ 48 ≡ n
last_bytes t0 t1 t2 t3 t4 t5 t6 t7 t8 t9 b5 b4 b3 b2 b1 b0 n h less =
    ap (λ x. x % 2 ^ 48) (split_bytes t0 t1 t2 t3 t4 t5 t6 t7 t8 t9 b5 b4 b3 b2 b1 b0 n h) ∙ mod-mul-add (t0 * 256 ^ 9 + t1 * 256 ^ 8 + t2 * 256 ^ 7 + t3 * 256 ^ 6 + t4 * 256 ^ 5 + t5 * 256 ^ 4 + t6 * 256 ^ 3 + t7 * 256 ^ 2 + t8 * 256 ^ 1 + t9) (2 ^ 48) n less

pub number_of_id : (salt n : ℕ) → n < 2 ^ 48 → number_in (load_number salt n) ≡ n
number_of_id salt n less =
    let whole : n < 2 ^ 64 = omega arith in
    last_bytes (slice_index (load_id salt n) 0) (slice_index (load_id salt n) 1) (slice_index (load_id salt n) 2) (slice_index (load_id salt n) 3) (slice_index (load_id salt n) 4) (slice_index (load_id salt n) 5) (slice_index (load_id salt n) 6) (slice_index (load_id salt n) 7) (slice_index (load_id salt n) 8) (slice_index (load_id salt n) 9)
    (n / 256 ^ 5 % 256) (n / 256 ^ 4 % 256) (n / 256 ^ 3 % 256) (n / 256 ^ 2 % 256) (n / 256 ^ 1 % 256) (n % 256) n
    (low_bytes (n / 256 ^ 7 % 256) (n / 256 ^ 6 % 256) (n / 256 ^ 5 % 256) (n / 256 ^ 4 % 256) (n / 256 ^ 3 % 256) (n / 256 ^ 2 % 256) (n / 256 ^ 1 % 256) (n % 256) n (from_be_bytes-to_be_bytes_8 n whole) less) less
