-- A source without a slash at its end is one as it is kept.
use Rattle.std.specs.Prelude.{◌≡◌, ℕ, ◌+◌, ◌-◌, ◌<◌, ◌≤◌, ◌==◌, nat_le, nat_eq, Bool, true, false, not, cond, ◌&&◌, ◌||◌, codes, List, [], ◌∷◌, ◌++◌, length, take, drop, refl, Some, None}
use Rattle.std.specs.declared.option.Option.{Option}
use Rattle.std.proofs.Common.{sym, ap, ◌∙◌, arith, lit<, suc, zero}
use Rattle.std.specs.List.{after_first, before_first, ends_with, list_all, position_or_len, starts_with}
use Rattle.std.specs.Str.{IsAscii, IsUtf8, is_utf8}
use Rattle.std.specs.Cmp.Lexicographic.{pointwise}
use Rattle.std.proofs.lemmas.Bool.{and_from, and_parts, cond_both, eqb-true, leb-true, le-leb, ne_eqb, true≢false}
use Rattle.std.proofs.lemmas.List.{append_assoc, drop_all, drop_at, length-append, length-take, take_all, take_at}
use Rattle.std.proofs.lemmas.Str.{IsUtf8-append, IsUtf8-from_ascii, IsUtf8-from_is_utf8, is_utf8-from_IsUtf8}
use Rattle.std.proofs.lemmas.Str.Ascii.{IsAscii-nil}
use Rattle.bl_outside.specs.Texts.{IsShortText}
use Rattle.bl_files.specs.Sources.{if_text, is_bucket, is_bucket_byte, is_kept_key, is_kept_path, is_kept_source, is_key, is_part, is_slash, joined, kept_key, parts, parts_from, path_behind, path_of}

-- ---- the last byte

abbrev ends_so : List ℕ → Bool
ends_so text = ends_with nat_eq text (47 ∷ [])

ends_tail : (x y : ℕ) (rest : List ℕ) → ends_so (x ∷ y ∷ rest) ≡ ends_so (y ∷ rest)
ends_tail x y rest = ap (λ n. pointwise nat_eq (47 ∷ []) (drop n (x ∷ y ∷ rest))) (let e : length (x ∷ y ∷ rest) - 1 ≡ suc (length (y ∷ rest) - 1) = omega arith in e)

ends_append : (xs : List ℕ) (y : ℕ) (rest : List ℕ) → ends_so (xs ++ y ∷ rest) ≡ ends_so (y ∷ rest)
ends_append [] y rest = refl
ends_append (x ∷ []) y rest = ends_tail x y rest
ends_append (x ∷ z ∷ xs) y rest = ends_tail x z (xs ++ y ∷ rest) ∙ ends_append (z ∷ xs) y rest

-- a byte that passes a test which a slash doesn't pass is no slash
other_end : (p : ℕ → Bool) → p 47 ≡ false → (x : ℕ) (b : Bool) → nat_eq 47 x ≡ b → p x ≡ true → (b && true) ≡ false
other_end p slash x false is h = refl
other_end p slash x true is h = absurd (true≢false (sym h ∙ ap p (sym (eqb-true 47 x is)) ∙ slash))

-- ---- a bucket has no slash

no_slash : (byte : ℕ) (b : Bool) → is_slash byte ≡ b → is_bucket_byte byte ≡ true → b ≡ false
no_slash byte false is h = refl
no_slash byte true is h = absurd (true≢false (sym h ∙ ap is_bucket_byte (eqb-true byte 47 is)))

bucket_end : (bucket : List ℕ) → list_all is_bucket_byte bucket ≡ true → ends_so bucket ≡ false
bucket_end [] all = refl
bucket_end (x ∷ []) all = other_end is_bucket_byte refl x (nat_eq 47 x) refl (and_parts (is_bucket_byte x) true all).0
bucket_end (x ∷ y ∷ bucket) all = ends_tail x y bucket ∙ bucket_end (y ∷ bucket) (and_parts (is_bucket_byte x) (list_all is_bucket_byte (y ∷ bucket)) all).1

first_slash : (bucket rest : List ℕ) → list_all is_bucket_byte bucket ≡ true → position_or_len is_slash (bucket ++ rest) ≡ length bucket + position_or_len is_slash rest
first_slash [] rest all = omega arith
first_slash (byte ∷ bucket) rest all =
    let both = and_parts (is_bucket_byte byte) (list_all is_bucket_byte bucket) all in
    ap (λ b. cond (not b) (1 + position_or_len is_slash (bucket ++ rest)) 0) (no_slash byte (is_slash byte) refl both.0)
    ∙ ap (λ n. 1 + n) (first_slash bucket rest both.1) ∙ (let e : 1 + (length bucket + position_or_len is_slash rest) ≡ length (byte ∷ bucket) + position_or_len is_slash rest = omega arith in e)

before_slash : (bucket key : List ℕ) → list_all is_bucket_byte bucket ≡ true → before_first is_slash (bucket ++ 47 ∷ key) ≡ bucket
before_slash bucket key all =
    take_at bucket (47 ∷ key) (position_or_len is_slash (bucket ++ 47 ∷ key)) (let e : length bucket ≡ position_or_len is_slash (bucket ++ 47 ∷ key) = omega (arith, first_slash bucket (47 ∷ key) all) in e)

behind_slash : (bucket key : List ℕ) → list_all is_bucket_byte bucket ≡ true → after_first is_slash (bucket ++ 47 ∷ key) ≡ key
behind_slash bucket key all =
    let n = position_or_len is_slash (bucket ++ 47 ∷ key) + 1 in
    ap (λ l. drop n l) (sym (append_assoc bucket (47 ∷ []) key))
    ∙ drop_at (bucket ++ 47 ∷ []) key n (let e : length (bucket ++ 47 ∷ []) ≡ n = omega (arith, length-append bucket (47 ∷ []), first_slash bucket (47 ∷ key) all) in e)

before_none : (bucket : List ℕ) → list_all is_bucket_byte bucket ≡ true → position_or_len is_slash bucket ≡ length bucket
before_none [] all = refl
before_none (byte ∷ bucket) all =
    let both = and_parts (is_bucket_byte byte) (list_all is_bucket_byte bucket) all in
    ap (λ b. cond (not b) (1 + position_or_len is_slash bucket) 0) (no_slash byte (is_slash byte) refl both.0)
    ∙ ap (λ n. 1 + n) (before_none bucket both.1) ∙ (let e : 1 + length bucket ≡ length (byte ∷ bucket) = omega arith in e)

-- ---- a key that is made of parts doesn't end with a slash

parts_end : (xs begun : List ℕ) (x : ℕ) → list_all is_part (parts_from begun (x ∷ xs)) ≡ true → ends_so (x ∷ xs) ≡ false
parts_end [] begun x all = by (is_slash x) refl all where
  by : (b : Bool) → is_slash x ≡ b → list_all is_part (cond b (begun ∷ parts_from [] []) (parts_from (begun ++ x ∷ []) [])) ≡ true → ends_so (x ∷ []) ≡ false
  by true is h = absurd (true≢false (sym (and_parts (is_part begun) false h).1))
  by false is h = other_end (λ y. not (is_slash y)) refl x (nat_eq 47 x) refl (ap not is)
parts_end (y ∷ xs) begun x all = ends_tail x y xs ∙ by (is_slash x) (λ new. parts_end xs new y) all where
  by : (b : Bool) → ((new : List ℕ) → list_all is_part (parts_from new (y ∷ xs)) ≡ true → ends_so (y ∷ xs) ≡ false) → list_all is_part (cond b (begun ∷ parts_from [] (y ∷ xs)) (parts_from (begun ++ x ∷ []) (y ∷ xs))) ≡ true → ends_so (y ∷ xs) ≡ false
  by true rest h = rest [] (and_parts (is_part begun) (list_all is_part (parts_from [] (y ∷ xs))) h).1
  by false rest h = rest (begun ++ x ∷ []) h

parts_of_key : (x : ℕ) (key : List ℕ) → (length (x ∷ key) == 0 || list_all is_part (parts (x ∷ key))) ≡ true → list_all is_part (parts (x ∷ key)) ≡ true
parts_of_key x key h = sym (ap (λ b. b || list_all is_part (parts (x ∷ key))) (ne_eqb (length (x ∷ key)) 0 (λ (e : length (x ∷ key) ≡ 0). omega arith))) ∙ h

-- ---- the path

kept_path : (bucket key : List ℕ) → is_bucket bucket ≡ true → is_kept_key key ≡ true → is_kept_path (joined bucket key) ≡ true
kept_path bucket [] is_one is_other =
    let all = (and_parts (nat_le (length bucket) 63) _ is_one).1 in
    let bytes = (and_parts _ (list_all is_bucket_byte bucket) all).1 in
    let none = before_none bucket bytes in
    and_from (is_bucket (before_first is_slash bucket)) _
    (ap is_bucket (ap (λ n. take n bucket) none ∙ take_all (length bucket) bucket (omega arith)) ∙ is_one)
    (and_from (is_kept_key (after_first is_slash bucket)) _
    (ap is_kept_key (ap (λ n. drop (n + 1) bucket) none ∙ drop_all (length bucket + 1) bucket (omega arith)))
    (ap not (bucket_end bucket bytes)))
kept_path bucket (x ∷ key) is_one is_other =
    let all = (and_parts (nat_le (length bucket) 63) _ is_one).1 in
    let bytes = (and_parts _ (list_all is_bucket_byte bucket) all).1 in
    let path : List ℕ = bucket ++ 47 ∷ (x ∷ key) in
    and_from (is_bucket (before_first is_slash path)) _
    (ap is_bucket (before_slash bucket (x ∷ key) bytes) ∙ is_one)
    (and_from (is_kept_key (after_first is_slash path)) _
    (ap is_kept_key (behind_slash bucket (x ∷ key) bytes) ∙ is_other)
    (ap not (ends_append bucket 47 (x ∷ key) ∙ ends_tail 47 x key ∙ parts_end key [] x (parts_of_key x key (and_parts (nat_le (length (x ∷ key)) 1024) _ is_other).1))))

-- ---- the source

ascii_cons : (byte : ℕ) (text : List ℕ) → byte < 128 → IsAscii text → IsAscii (byte ∷ text)
ascii_cons byte text small rest zero = small
ascii_cons byte text small rest (suc i) = rest i

scheme_is_text : IsUtf8 (codes "s3://")
scheme_is_text = IsUtf8-from_ascii (codes "s3://") (ascii_cons 115 (51 ∷ 58 ∷ 47 ∷ 47 ∷ []) (lit< tt) (ascii_cons 51 (58 ∷ 47 ∷ 47 ∷ []) (lit< tt) (ascii_cons 58 (47 ∷ 47 ∷ []) (lit< tt) (ascii_cons 47 (47 ∷ []) (lit< tt) (ascii_cons 47 [] (lit< tt) IsAscii-nil)))))

some_of : {X : Type 0} (b : Bool) (x : Option X) (y : X) → cond b x None ≡ Some y → (b ≡ true) × (x ≡ Some y)
some_of true x y h = (refl, h)
some_of false x y h = absurd (cc)

kept_shorter : (key : List ℕ) → length (kept_key key) ≤ length key
kept_shorter key = cond_both (ends_with nat_eq key (47 ∷ [])) (take (length key - 1) key) key (λ l. length l ≤ length key) (λ h. omega (arith, length-take (length key - 1) key)) (λ h. omega arith)

-- a path is that of a bucket and a kept key
pub record IsPath (path : List ℕ) : Type 0 where
  pub bucket : List ℕ
  pub key : List ℕ
  pub is : joined bucket key ≡ path
  pub one : is_bucket bucket ≡ true
  pub other : is_kept_key key ≡ true
  pub utf8 : is_utf8 path ≡ true

path_is : (source path : List ℕ) → path_of source ≡ Some path → IsPath path
path_is source path h =
    let behind = (some_of (starts_with nat_eq source (codes "s3://")) (path_behind (drop 5 source)) path h).1 in
    let bucket : List ℕ = before_first is_slash (drop 5 source) in
    let key : List ℕ = after_first is_slash (drop 5 source) in
    let both = some_of (is_bucket bucket && is_key key) (if_text (joined bucket (kept_key key))) path behind in
    let parts_of = and_parts (is_bucket bucket) (is_key key) both.0 in
    let text = some_of (is_utf8 (joined bucket (kept_key key))) (Some (joined bucket (kept_key key))) path both.1 in
    let same : joined bucket (kept_key key) ≡ path = (let f : Some (joined bucket (kept_key key)) ≡ Some path = text.1 in cc) in
    let keys = and_parts (nat_le (length key) 1024) (length (kept_key key) == 0 || list_all is_part (parts (kept_key key))) parts_of.1 in
    record {
      bucket = bucket;
      key = kept_key key;
      is = same;
      one = parts_of.0;
      other = and_from (nat_le (length (kept_key key)) 1024) _ (le-leb (length (kept_key key)) 1024 (omega (arith, kept_shorter key, leb-true (length key) 1024 keys.0))) keys.1;
      utf8 = ap is_utf8 (sym same) ∙ text.0;
    }

pub kept_is_kept : (source path : List ℕ) → path_of source ≡ Some path → is_kept_source (codes "s3://" ++ path) ≡ true
kept_is_kept source path h =
    let is : IsPath path = path_is source path h in
    and_from (is_utf8 (codes "s3://" ++ path)) _
    (is_utf8-from_IsUtf8 (codes "s3://" ++ path) (IsUtf8-append (codes "s3://") path scheme_is_text (IsUtf8-from_is_utf8 path is.utf8)))
    (ap is_kept_path (sym is.is) ∙ kept_path is.bucket is.key is.one is.other)

joined_length : (bucket key : List ℕ) → length (joined bucket key) ≤ length bucket + 1 + length key
joined_length bucket [] = omega arith
joined_length bucket (x ∷ key) = omega (arith, length-append bucket (47 ∷ (x ∷ key)))

pub kept_is_short : (source path : List ℕ) → path_of source ≡ Some path → IsShortText (codes "s3://" ++ path)
kept_is_short source path h =
    let is : IsPath path = path_is source path h in
    let bucket_fits : length is.bucket ≤ 63 = leb-true (length is.bucket) 63 (and_parts (nat_le (length is.bucket) 63) _ is.one).0 in
    let key_fits : length is.key ≤ 1024 = leb-true (length is.key) 1024 (and_parts (nat_le (length is.key) 1024) _ is.other).0 in
    record {
      utf8 = IsUtf8-append (codes "s3://") path scheme_is_text (IsUtf8-from_is_utf8 path is.utf8);
      short = omega (arith, joined_length is.bucket is.key, ap length is.is);
    }
