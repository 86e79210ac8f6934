-- Where the next rows of a file stand among the lines.
use Rattle.std.specs.Prelude.{◌≡◌, ℕ, zero, suc, ◌+◌, ◌-◌, ◌≤◌, min, List, [], ◌∷◌, ◌++◌, take, drop, length, refl}
use Rattle.std.proofs.Common.{sym, ap, ◌∙◌, append_assoc, arith}
use Rattle.std.proofs.lemmas.List.{take-append-le}
use Rattle.bl_value.specs.declared.row.DigestRow.{DigestRow}
use Rattle.bl_files.specs.declared.feed.Feed.{Feed}
use Rattle.bl_queue.specs.Runs.{with_feed}
use Rattle.bl_chain.specs.Frontiers.{IsNextAt, shares, takens}
use Rattle.bl_chain.specs.Loads.{Line, lines_from, numbered}
use Rattle.bl_chain.specs.Tables.{Table}

-- ---- lists

take_past : {X : Type 0} (xs ys : List X) (n : ℕ) → take (length xs + n) (xs ++ ys) ≡ xs ++ take n ys
take_past [] ys n = ap (λ m. take m ys) (let e : 0 + n ≡ n = omega arith in e)
take_past (x ∷ xs) ys n = ap (λ m. take m (x ∷ (xs ++ ys))) (let e : length (x ∷ xs) + n ≡ suc (length xs + n) = omega arith in e) ∙ ap (λ l. x ∷ l) (take_past xs ys n)

numbered_length : (place before : ℕ) (rows : List DigestRow) → length (numbered place before rows) ≡ length rows
numbered_length place before [] = refl
numbered_length place before (row ∷ rows) = ap suc (numbered_length place (before + 1) rows)

-- the first so many lines of a file, and then more of them
take_more_lines : (place before t n : ℕ) (rows : List DigestRow) → t ≤ length rows →
    take (t + n) (numbered place before rows) ≡ take t (numbered place before rows) ++ numbered place (before + t) (take n (drop t rows))
take_more_lines place before zero n rows h = ap (λ m. take m (numbered place before rows)) (let e : 0 + n ≡ n = omega arith in e) ∙ take_lines place before n rows ∙ ap (λ m. numbered place m (take n rows)) (let e : before ≡ before + 0 = omega arith in e)
  where
    take_lines : (place before n : ℕ) (rows : List DigestRow) → take n (numbered place before rows) ≡ numbered place before (take n rows)
    take_lines place before zero rows = refl
    take_lines place before (suc n) [] = refl
    take_lines place before (suc n) (row ∷ rows) = ap (λ l. (record { place = place; number = before + 1; row = row }) ∷ l) (take_lines place (before + 1) n rows)
take_more_lines place before (suc t) n [] h = absurd (omega arith)
take_more_lines place before (suc t) n (row ∷ rows) h =
    ap (λ m. take m (numbered place before (row ∷ rows))) (let e : suc t + n ≡ suc (t + n) = omega arith in e)
    ∙ ap (λ l. (record { place = place; number = before + 1; row = row }) ∷ l)
    (take_more_lines place (before + 1) t n rows (omega arith) ∙ ap (λ m. take t (numbered place (before + 1) rows) ++ numbered place m (take n (drop t rows))) (let e : before + 1 + t ≡ before + suc t = omega arith in e))

-- ---- the next rows of the first file that isn't whole

heads : (a b : ℕ) (xs ys : List ℕ) → a ∷ xs ≡ b ∷ ys → a ≡ b
heads a b xs ys h = cc

tails : (a b : ℕ) (xs ys : List ℕ) → a ∷ xs ≡ b ∷ ys → xs ≡ ys
tails a b xs ys h = cc

pub more_lines : (base k n place : ℕ) (tables : List Table) (feeds : List Feed) (table : Table) (feed : Feed)
    → takens feeds ≡ shares tables k → IsNextAt tables feeds place table feed → 1 ≤ n → feed.taken + n ≤ length table.rows
    → take (k + n) (lines_from base tables) ≡ take k (lines_from base tables) ++ numbered (base + place) feed.taken (take n (drop feed.taken table.rows))
more_lines base k n place [] [] table feed shared at some room = absurd at
more_lines base k n place [] (f ∷ feeds) table feed shared at some room = absurd at
more_lines base k n place (s ∷ tables) [] table feed shared at some room = absurd at
more_lines base k n zero (s ∷ tables) (f ∷ feeds) table feed shared at some room =
    let taken : f.taken ≡ min k (length s.rows) = heads f.taken (min k (length s.rows)) (takens feeds) (shares tables (k - length s.rows)) shared in
    let same : feed.taken ≡ f.taken = ap (λ (x : Feed). x.taken) (sym at.1) in
    let rows : length table.rows ≡ length s.rows = ap (λ (x : Table). length x.rows) (sym at.0) in
    let is : feed.taken ≡ k = omega arith in
    let within : k + n ≤ length s.rows = omega arith in
    let here : List Line = numbered base 0 s.rows in
    let there : List Line = lines_from (base + 1) tables in
    let fits : length here ≡ length s.rows = numbered_length base 0 s.rows in
    take-append-le (k + n) here there (omega arith) ∙ take_more_lines base 0 k n s.rows (omega arith)
    ∙ (λ i. sym (take-append-le k here there (omega arith)) i ++ numbered ((let e : base ≡ base + 0 = omega arith in e) i) ((let e : 0 + k ≡ feed.taken = omega arith in e) i) (take n (drop (sym is i) (at.0 i).rows)))
more_lines base k n (suc place) (s ∷ tables) (f ∷ feeds) table feed shared at some room =
    let taken : f.taken ≡ min k (length s.rows) = heads f.taken (min k (length s.rows)) (takens feeds) (shares tables (k - length s.rows)) shared in
    let whole : f.taken ≡ length s.rows = at.0 in
    let past : k ≡ length s.rows + (k - length s.rows) = omega arith in
    let here : List Line = numbered base 0 s.rows in
    let there : List Line = lines_from (base + 1) tables in
    let fits : length here ≡ length s.rows = numbered_length base 0 s.rows in
    let rest : ℕ = k - length s.rows in
    ap (λ m. take m (here ++ there)) (let e : k + n ≡ length here + (rest + n) = omega arith in e) ∙ take_past here there (rest + n)
    ∙ ap (λ l. here ++ l) (more_lines (base + 1) rest n place tables feeds table feed (tails f.taken (min k (length s.rows)) (takens feeds) (shares tables rest) shared) at.1 some room)
    ∙ sym (append_assoc here (take rest there) (numbered (base + 1 + place) feed.taken (take n (drop feed.taken table.rows))))
    ∙ (λ i. sym (ap (λ m. take m (here ++ there)) (let e : k ≡ length here + rest = omega arith in e) ∙ take_past here there rest) i ++ numbered ((let e : base + 1 + place ≡ base + suc place = omega arith in e) i) feed.taken (take n (drop feed.taken table.rows)))

-- so many more records of it are taken
pub more_shares : (k n place : ℕ) (f : Feed → Feed) (tables : List Table) (feeds : List Feed) (table : Table) (feed : Feed)
    → takens feeds ≡ shares tables k → IsNextAt tables feeds place table feed → 1 ≤ n → feed.taken + n ≤ length table.rows → ((x : Feed) → (f x).taken ≡ x.taken + n)
    → takens (with_feed place f feeds) ≡ shares tables (k + n)
more_shares k n place f [] [] table feed shared at some room adds = absurd at
more_shares k n place f [] (x ∷ feeds) table feed shared at some room adds = absurd at
more_shares k n place f (s ∷ tables) [] table feed shared at some room adds = absurd at
more_shares k n zero f (s ∷ tables) (x ∷ feeds) table feed shared at some room adds =
    let taken : x.taken ≡ min k (length s.rows) = heads x.taken (min k (length s.rows)) (takens feeds) (shares tables (k - length s.rows)) shared in
    let same : feed.taken ≡ x.taken = ap (λ (y : Feed). y.taken) (sym at.1) in
    let rows : length table.rows ≡ length s.rows = ap (λ (y : Table). length y.rows) (sym at.0) in
    let more : (f x).taken ≡ x.taken + n = adds x in
    let first : (f x).taken ≡ min (k + n) (length s.rows) = omega arith in
    let none : k - length s.rows ≡ k + n - length s.rows = omega arith in
    λ i. first i ∷ (tails x.taken (min k (length s.rows)) (takens feeds) (shares tables (k - length s.rows)) shared ∙ ap (λ m. shares tables m) none) i
more_shares k n (suc place) f (s ∷ tables) (x ∷ feeds) table feed shared at some room adds =
    let taken : x.taken ≡ min k (length s.rows) = heads x.taken (min k (length s.rows)) (takens feeds) (shares tables (k - length s.rows)) shared in
    let whole : x.taken ≡ length s.rows = at.0 in
    let first : x.taken ≡ min (k + n) (length s.rows) = omega arith in
    let less : k - length s.rows + n ≡ k + n - length s.rows = omega arith in
    λ i. first i ∷ (more_shares (k - length s.rows) n place f tables feeds table feed (tails x.taken (min k (length s.rows)) (takens feeds) (shares tables (k - length s.rows)) shared) at.1 some room adds ∙ ap (λ m. shares tables m) less) i

-- ---- the logs that stay
