-- Lists of entries, and the numbers of entries.
use Rattle.std.specs.Prelude.{◌≡◌, ℕ, suc, zero, ◌+◌, ◌-◌, ◌<◌, ◌≤◌, ◌==◌, ◌++◌, Bool, true, false, List, [], ◌∷◌, length, drop}

-- entries, each as its bytes. They are counted from 1
abbrev pub Entries : Type 0
Entries = List (List ℕ)

abbrev pub IsPrefix : Entries → Entries → Type 0
IsPrefix xs ys = (rest : Entries) × (ys ≡ xs ++ rest)

abbrev pub one : Bool → ℕ
one true = 1
one false = 0

-- how often a number stands in a list
abbrev pub times : ℕ → List ℕ → ℕ
times x [] = 0
times x (y ∷ ys) = one (y == x) + times x ys

-- so many numbers, from this one on
abbrev pub numbered : ℕ → ℕ → List ℕ
numbered n zero = []
numbered n (suc k) = n ∷ numbered (suc n) k

-- the numbers of the entries that were added behind a front
abbrev pub added : Entries → Entries → List ℕ
added before after = numbered (suc (length before)) (length after - length before)

-- the numbers differ, and each names an entry
abbrev pub AreOwn : List ℕ → Entries → Type 0
AreOwn mine seen = (x : ℕ) → (times x mine ≤ 1) × (0 < times x mine → (0 < x) × (x ≤ length seen))

-- of two fronts of one list the longer one
abbrev pub longer : Entries → Entries → Entries
longer xs ys = xs ++ drop (length xs) ys
