-- What `matchit` finds in the table of routes.
use Rattle.std.proofs.Common.{◌≡◌, ◌∙◌, ◌+◌, ◌-◌, ◌<◌, ◌&&◌, ◌||◌, ◌==◌, ℕ, zero, suc, Bool, true, false, not, cond, List, [], ◌∷◌, ◌++◌, Option, Some, None, codes, length, take, drop, refl, ap, sym, subst, arith, ltb, sub-one, inl, inr, ◌⊎◌}
use Rattle.std.specs.Prelude.{nat_eq, nat_lt, option_map}
use Rattle.std.specs.List.{All, list_all, list_any, starts_with}
use Rattle.std.specs.Cmp.Lexicographic.{pointwise}
use Rattle.std.proofs.lemmas.Bool.{eqb-true, true≢false}
use Rattle.std.proofs.lemmas.Bool.Decides.{nat_tests}
use Rattle.std.proofs.lemmas.List.{drop-drop}
use Rattle.std.proofs.lemmas.List.Elements.{All-cons, All-drop, All-head, All-nil, All-tail}
use Rattle.matchit.specs.Rows.{RowsOf}
use Rattle.matchit.specs.Router.{RouteOf}
use Rattle.matchit.specs.Seek.{first, has_slash, longest_suffix, or_else, own, param_step, seek, segment, step, with_suffix}
use Rattle.bl_feed.specs.LoadBodies.{is}
use Rattle.bl_session.specs.Routes.{AreBytes, id_part, is_load, is_part, text_route}
use Rattle.bl_session.specs.declared.route.Route.{Route}
use Rattle.bl_session.specs.declared.route.Route.TheVariants.{Load, Loads, Stream}

-- the path begins with the word
abbrev pub begins : List ℕ → List ℕ → Bool
begins [] path = true
begins (y ∷ w) [] = false
begins (y ∷ w) (x ∷ path) = (y == x) && begins w path

-- each row with the word in front
abbrev pub behind : {K : Type 0} → List ℕ → RowsOf K → RowsOf K
behind w [] = []
behind w ((t, k) ∷ rest) = (w ++ t, k) ∷ behind w rest

both : (a b : Bool) → (a && b) ≡ true → (a ≡ true) × (b ≡ true)
both true true is = (refl, refl)
both true false is = (refl, is)
both false b is = (is, grind arith)

eq_sym : (x y : ℕ) → nat_eq x y ≡ (y == x)
eq_sym x y = by (y == x) refl where
  by : (b : Bool) → (y == x) ≡ b → nat_eq x y ≡ b
  by true is = let same : y ≡ x = eqb-true y x is in grind (arith, same)
  by false isnt = grind (arith, isnt)

unsame : (x y : ℕ) → (x == y) ≡ false → (y == x) ≡ false
unsame x y other = grind arith

byte_is : (y : ℕ) → y < 256 → (y == 256) ≡ false
byte_is y small = grind arith

byte_isnt : (y : ℕ) → y < 256 → (y == 257) ≡ false
byte_isnt y small = grind arith

slashes : (path : List ℕ) → has_slash path ≡ list_any (λ byte. byte == 47) path
slashes [] = refl
slashes (x ∷ path) = by (x == 47) (slashes path) where
  by : (b : Bool) → has_slash path ≡ list_any (λ byte. byte == 47) path → cond b true (has_slash path) ≡ (b || list_any (λ byte. byte == 47) path)
  by true rests = refl
  by false rests = rests

module _ {K : Type 0} where
  or_none : (found : Option K) → or_else found None ≡ found
  or_none None = refl
  or_none (Some k) = refl

  none_param : (path : List ℕ) → (param_step {K = K} [] path).1 ≡ []
  unfolding param_step
  none_param path = by (has_slash path) where
    by : (b : Bool) → (cond {A = ℕ × RowsOf K} b (0, []) (length path, [])).1 ≡ []
    by true = refl
    by false = refl

  -- no rows have no path
  pub none : (skip : ℕ) (path : List ℕ) → seek {K = K} skip [] path ≡ None
  unfolding seek
  none zero [] = refl
  none (suc skip) [] = refl
  none (suc skip) (x ∷ path) = none skip path
  none zero (x ∷ path) =
      ap (λ o. or_else o (or_else (seek ((param_step {K = K} [] (x ∷ path)).0 - 1) (param_step {K = K} [] (x ∷ path)).1 path) None)) (none 0 path)
      ∙ ap (λ (rows : RowsOf K). or_else (seek ((param_step {K = K} [] (x ∷ path)).0 - 1) rows path) None) (none_param (x ∷ path))
      ∙ ap (λ o. or_else o None) (none ((param_step {K = K} [] (x ∷ path)).0 - 1) path)

  -- rows of which none begins with a parameter go on byte by byte
  pub byte_by_byte : (rows : RowsOf K) (x : ℕ) (path : List ℕ) → step 256 rows ≡ [] → step 257 rows ≡ [] → seek 0 rows (x ∷ path) ≡ seek 0 (step x rows) path
  unfolding seek
  byte_by_byte rows x path param catch =
      ap (λ (r : RowsOf K). or_else (seek 0 (step x rows) path) (or_else (seek ((param_step r (x ∷ path)).0 - 1) (param_step r (x ∷ path)).1 path) (own (step 257 rows)))) param
      ∙ ap (λ (r : RowsOf K). or_else (seek 0 (step x rows) path) (or_else (seek ((param_step {K = K} [] (x ∷ path)).0 - 1) (param_step {K = K} [] (x ∷ path)).1 path) (own r))) catch
      ∙ ap (λ (r : RowsOf K). or_else (seek 0 (step x rows) path) (or_else (seek ((param_step {K = K} [] (x ∷ path)).0 - 1) r path) None)) (none_param (x ∷ path))
      ∙ ap (λ o. or_else (seek 0 (step x rows) path) (or_else o None)) (none ((param_step {K = K} [] (x ∷ path)).0 - 1) path)
      ∙ or_none (seek 0 (step x rows) path)

  step_same : (x y : ℕ) (w : List ℕ) (rows : RowsOf K) → (y == x) ≡ true → step x (behind (y ∷ w) rows) ≡ behind w rows
  step_same x y w [] is = refl
  step_same x y w ((t, k) ∷ rest) is =
      ap (λ b. cond b ((w ++ t, k) ∷ step x (behind (y ∷ w) rest)) (step x (behind (y ∷ w) rest))) is
      ∙ ap (λ (r : RowsOf K). (w ++ t, k) ∷ r) (step_same x y w rest is)

  step_other : (x y : ℕ) (w : List ℕ) (rows : RowsOf K) → (y == x) ≡ false → step x (behind (y ∷ w) rows) ≡ []
  step_other x y w [] isnt = refl
  step_other x y w ((t, k) ∷ rest) isnt =
      ap (λ b. cond b ((w ++ t, k) ∷ step x (behind (y ∷ w) rest)) (step x (behind (y ∷ w) rest))) isnt
      ∙ step_other x y w rest isnt

  step_both : (x : ℕ) (one other : RowsOf K) → step x (one ++ other) ≡ step x one ++ step x other
  step_both x [] other = refl
  step_both x (([], k) ∷ rest) other = step_both x rest other
  step_both x ((y ∷ t, k) ∷ rest) other = by (y == x) (step_both x rest other) where
    by : (b : Bool) → step x (rest ++ other) ≡ step x rest ++ step x other → cond b ((t, k) ∷ step x (rest ++ other)) (step x (rest ++ other)) ≡ cond b ((t, k) ∷ step x rest) (step x rest) ++ step x other
    by true rests = ap (λ (r : RowsOf K). (t, k) ∷ r) rests
    by false rests = rests

  own_none : (y : ℕ) (w : List ℕ) (rows : RowsOf K) → own (behind (y ∷ w) rows) ≡ None
  own_none y w [] = refl
  own_none y w ((t, k) ∷ rest) = own_none y w rest

  own_both : (y z : ℕ) (w v : List ℕ) (one other : RowsOf K) → own (behind (y ∷ w) one ++ behind (z ∷ v) other) ≡ None
  own_both y z w v [] other = own_none z v other
  own_both y z w v ((t, k) ∷ rest) other = own_both y z w v rest other

  behind_none : (rows : RowsOf K) → behind [] rows ≡ rows
  behind_none [] = refl
  behind_none ((t, k) ∷ rest) = ap (λ (r : RowsOf K). (t, k) ∷ r) (behind_none rest)

  none_more : (rows : RowsOf K) → rows ++ [] ≡ rows
  none_more [] = refl
  none_more (row ∷ rest) = ap (λ (r : RowsOf K). row ∷ r) (none_more rest)

  -- what rows find that have a word in front
  pub past : (w : List ℕ) → All (λ (y : ℕ). y < 256) w → (rows : RowsOf K) (path : List ℕ) →
      seek 0 (behind w rows) path ≡ cond (begins w path) (seek 0 rows (drop (length w) path)) None
  unfolding seek
  past [] text rows path = ap (λ (r : RowsOf K). seek 0 r path) (behind_none rows)
  past (y ∷ w) text rows [] = own_none y w rows
  past (y ∷ w) text rows (x ∷ path) =
      let small : y < 256 = All-head (λ (b : ℕ). b < 256) y w text in
      byte_by_byte (behind (y ∷ w) rows) x path (step_other 256 y w rows (byte_is y small)) (step_other 257 y w rows (byte_isnt y small))
      ∙ by (y == x) refl (past w (All-tail (λ (b : ℕ). b < 256) y w text) rows path) where
        by : (b : Bool) → (y == x) ≡ b → seek 0 (behind w rows) path ≡ cond (begins w path) (seek 0 rows (drop (length w) path)) None
            → seek 0 (step x (behind (y ∷ w) rows)) path ≡ cond ((y == x) && begins w path) (seek 0 rows (drop (length w) path)) None
        by true is rests =
            ap (λ (r : RowsOf K). seek 0 r path) (step_same x y w rows is) ∙ rests
            ∙ ap (λ b. cond (b && begins w path) (seek 0 rows (drop (length w) path)) None) (sym is)
        by false isnt rests =
            ap (λ (r : RowsOf K). seek 0 r path) (step_other x y w rows isnt) ∙ none 0 path
            ∙ ap (λ b. cond (b && begins w path) (seek 0 rows (drop (length w) path)) None) (sym isnt)

  -- what two groups of rows find that begin with different bytes
  pub fork : (y z : ℕ) (w v : List ℕ) → (y == z) ≡ false → All (λ (b : ℕ). b < 256) (y ∷ w) → All (λ (b : ℕ). b < 256) (z ∷ v) → (one other : RowsOf K) (path : List ℕ) →
      seek 0 (behind (y ∷ w) one ++ behind (z ∷ v) other) path
      ≡ cond (begins (y ∷ w) path) (seek 0 one (drop (suc (length w)) path)) (cond (begins (z ∷ v) path) (seek 0 other (drop (suc (length v)) path)) None)
  unfolding seek
  fork y z w v differ text1 text2 one other [] = own_both y z w v one other
  fork y z w v differ text1 text2 one other (x ∷ path) =
      let small1 : y < 256 = All-head (λ (b : ℕ). b < 256) y w text1 in
      let small2 : z < 256 = All-head (λ (b : ℕ). b < 256) z v text2 in
      let both : RowsOf K = behind (y ∷ w) one ++ behind (z ∷ v) other in
      let no_param : step 256 both ≡ [] =
      step_both 256 (behind (y ∷ w) one) (behind (z ∷ v) other) ∙ ap (λ (r : RowsOf K). r ++ step 256 (behind (z ∷ v) other)) (step_other 256 y w one (byte_is y small1)) ∙ step_other 256 z v other (byte_is z small2) in
      let no_catch : step 257 both ≡ [] =
      step_both 257 (behind (y ∷ w) one) (behind (z ∷ v) other) ∙ ap (λ (r : RowsOf K). r ++ step 257 (behind (z ∷ v) other)) (step_other 257 y w one (byte_isnt y small1)) ∙ step_other 257 z v other (byte_isnt z small2) in
      byte_by_byte both x path no_param no_catch ∙ ap (λ (r : RowsOf K). seek 0 r path) (step_both x (behind (y ∷ w) one) (behind (z ∷ v) other)) ∙ by (y == x) refl (z == x) refl where
        Goal : Bool → Bool → Type 0
        Goal a b = seek 0 (step x (behind (y ∷ w) one) ++ step x (behind (z ∷ v) other)) path
            ≡ cond (a && begins w path) (seek 0 one (drop (length w) path)) (cond (b && begins v path) (seek 0 other (drop (length v) path)) None)

        cut : (c : Bool) (f : Option K) → cond c f None ≡ cond c f (cond (false && begins v path) (seek 0 other (drop (length v) path)) None)
        cut true f = refl
        cut false f = refl

        by : (a : Bool) → (y == x) ≡ a → (b : Bool) → (z == x) ≡ b → Goal (y == x) (z == x)
        by true one_is true other_is =
            let same : y ≡ z = eqb-true y x one_is ∙ sym (eqb-true z x other_is) in
            absurd (grind (arith, same, differ))
        by true one_is false other_isnt =
            subst (λ a. Goal a (z == x)) (sym one_is) (subst (λ b. Goal true b) (sym other_isnt) (
            ap (λ (r : RowsOf K). seek 0 (r ++ step x (behind (z ∷ v) other)) path) (step_same x y w one one_is)
            ∙ ap (λ (r : RowsOf K). seek 0 (behind w one ++ r) path) (step_other x z v other other_isnt)
            ∙ ap (λ (r : RowsOf K). seek 0 r path) (none_more (behind w one))
            ∙ past w (All-tail (λ (b : ℕ). b < 256) y w text1) one path
            ∙ cut (begins w path) (seek 0 one (drop (length w) path))))
        by false one_isnt true other_is =
            subst (λ a. Goal a (z == x)) (sym one_isnt) (subst (λ b. Goal false b) (sym other_is) (
            ap (λ (r : RowsOf K). seek 0 (r ++ step x (behind (z ∷ v) other)) path) (step_other x y w one one_isnt)
            ∙ ap (λ (r : RowsOf K). seek 0 r path) (step_same x z v other other_is)
            ∙ past v (All-tail (λ (b : ℕ). b < 256) z v text2) other path))
        by false one_isnt false other_isnt =
            subst (λ a. Goal a (z == x)) (sym one_isnt) (subst (λ b. Goal false b) (sym other_isnt) (
            ap (λ (r : RowsOf K). seek 0 (r ++ step x (behind (z ∷ v) other)) path) (step_other x y w one one_isnt)
            ∙ ap (λ (r : RowsOf K). seek 0 r path) (step_other x z v other other_isnt)
            ∙ none 0 path))

  -- a row that is a word to its end
  pub ended : (k : K) (path : List ℕ) → seek 0 (([], k) ∷ []) path ≡ cond (pointwise nat_eq path []) (Some k) None
  unfolding seek
  ended k [] = refl
  ended k (x ∷ path) = byte_by_byte (([], k) ∷ []) x path refl refl ∙ none 0 path

  skipped : (rows : RowsOf K) (path : List ℕ) → seek (length path) rows path ≡ own rows
  unfolding seek
  skipped rows [] = refl
  skipped rows (x ∷ path) = skipped rows path

  neither : (b : Bool) (k : K) → cond (b && false) (Some k) None ≡ None
  neither true k = refl
  neither false k = refl

  -- a parameter to the end of the path
  pub last_part : (k : K) (path : List ℕ) → All (λ (b : ℕ). b < 256) path → seek 0 ((256 ∷ [], k) ∷ []) path ≡ cond (is_part path) (Some k) None
  unfolding seek param_step
  last_part k [] bytes = refl
  last_part k (x ∷ path) bytes =
      ap (λ b. or_else (seek 0 (cond b (([], k) ∷ []) []) path) (or_else (seek ((param_step (([], k) ∷ []) (x ∷ path)).0 - 1) (param_step (([], k) ∷ []) (x ∷ path)).1 path) None)) (unsame x 256 (byte_is x (All-head (λ (b : ℕ). b < 256) x path bytes)))
      ∙ ap (λ o. or_else o (or_else (seek ((param_step (([], k) ∷ []) (x ∷ path)).0 - 1) (param_step (([], k) ∷ []) (x ∷ path)).1 path) None)) (none 0 path)
      ∙ or_none (seek ((param_step (([], k) ∷ []) (x ∷ path)).0 - 1) (param_step (([], k) ∷ []) (x ∷ path)).1 path)
      ∙ by (has_slash (x ∷ path)) refl where
        by : (b : Bool) → has_slash (x ∷ path) ≡ b → seek ((cond {A = ℕ × RowsOf K} (has_slash (x ∷ path)) (0, []) (length (x ∷ path), ([], k) ∷ [])).0 - 1) (cond {A = ℕ × RowsOf K} (has_slash (x ∷ path)) (0, []) (length (x ∷ path), ([], k) ∷ [])).1 path ≡ cond (is_part (x ∷ path)) (Some k) None
        by true is =
            let any : list_any (λ byte. byte == 47) (x ∷ path) ≡ true = sym (slashes (x ∷ path)) ∙ is in
            ap (λ b. seek ((cond {A = ℕ × RowsOf K} b (0, []) (length (x ∷ path), ([], k) ∷ [])).0 - 1) (cond {A = ℕ × RowsOf K} b (0, []) (length (x ∷ path), ([], k) ∷ [])).1 path) is
            ∙ none (0 - 1) path
            ∙ sym (ap (λ b. cond (nat_lt 0 (length (x ∷ path)) && not b) (Some k) None) any ∙ neither (nat_lt 0 (length (x ∷ path))) k)
        by false isnt =
            let any : list_any (λ byte. byte == 47) (x ∷ path) ≡ false = sym (slashes (x ∷ path)) ∙ isnt in
            let some : nat_lt 0 (length (x ∷ path)) ≡ true = grind arith in
            let less : suc (length path) - 1 ≡ length path = omega arith in
            ap (λ b. seek ((cond {A = ℕ × RowsOf K} b (0, []) (length (x ∷ path), ([], k) ∷ [])).0 - 1) (cond {A = ℕ × RowsOf K} b (0, []) (length (x ∷ path), ([], k) ∷ [])).1 path) isnt
            ∙ ap (λ n. seek n (([], k) ∷ []) path) less
            ∙ skipped (([], k) ∷ []) path
            ∙ sym (ap (λ b. cond (nat_lt 0 (length (x ∷ path)) && not b) (Some k) None) any ∙ ap (λ b. cond (b && true) (Some k) None) some)

  -- an id behind a slash, or the end of the path
  pub id_or_end : (b a : K) (path : List ℕ) → All (λ (y : ℕ). y < 256) path →
      seek 0 ((47 ∷ 256 ∷ [], b) ∷ ([], a) ∷ []) path ≡ cond (pointwise nat_eq path []) (Some a) (cond (begins (47 ∷ []) path && is_part (drop 1 path)) (Some b) None)
  unfolding seek
  id_or_end b a [] bytes = refl
  id_or_end b a (x ∷ path) bytes = byte_by_byte ((47 ∷ 256 ∷ [], b) ∷ ([], a) ∷ []) x path refl refl ∙ by (47 == x) where
    by : (t : Bool) → seek 0 (cond t ((256 ∷ [], b) ∷ []) []) path ≡ cond ((t && true) && is_part path) (Some b) None
    by true = last_part b path (All-tail (λ (y : ℕ). y < 256) x path bytes)
    by false = none 0 path

-- ---- words

bytes_of : (w : List ℕ) → list_all (λ byte. nat_lt byte 256) w ≡ true → All (λ (b : ℕ). b < 256) w
bytes_of [] all = All-nil (λ (b : ℕ). b < 256)
bytes_of (y ∷ w) all =
    let is = both (nat_lt y 256) (list_all (λ byte. nat_lt byte 256) w) all in
    let small : y < 256 = grind (arith, is.0) in
    All-cons (λ (b : ℕ). b < 256) y w small (bytes_of w is.1)

bytes_behind : (n : ℕ) (path : List ℕ) → AreBytes path → AreBytes (drop n path)
bytes_behind n path bytes = All-drop (λ (b : ℕ). b < 256) n path bytes

and_assoc : (a b c : Bool) → ((a && b) && c) ≡ (a && (b && c))
and_assoc true b c = refl
and_assoc false b c = refl

is_past : (w v path : List ℕ) → is path (w ++ v) ≡ (begins w path && is (drop (length w) path) v)
is_past [] v path = refl
is_past (y ∷ w) v [] = refl
is_past (y ∷ w) v (x ∷ path) =
    let same : nat_eq x y ≡ (y == x) = eq_sym x y in
    ap (λ b. b && is path (w ++ v)) same ∙ ap (λ b. (y == x) && b) (is_past w v path) ∙ sym (and_assoc (y == x) (begins w path) (is (drop (length w) path) v))

begins_past : (w v path : List ℕ) → begins (w ++ v) path ≡ (begins w path && begins v (drop (length w) path))
begins_past [] v path = refl
begins_past (y ∷ w) v [] = refl
begins_past (y ∷ w) v (x ∷ path) = ap (λ b. (y == x) && b) (begins_past w v path) ∙ sym (and_assoc (y == x) (begins w path) (begins v (drop (length w) path)))

starts_is : (w path : List ℕ) → starts_with nat_eq path w ≡ begins w path
starts_is [] path = refl
starts_is (y ∷ w) [] = refl
starts_is (y ∷ w) (x ∷ path) = ap (λ b. nat_eq y x && b) (starts_is w path)

-- ---- the table

apart : (path : List ℕ) → (begins (codes "loader") path && begins (codes "p") path) ≡ false
apart [] = refl
apart (x ∷ path) = grind (arith, nat_tests)

forked : (path : List ℕ) → (begins (codes "g/stream") path && begins (codes "ropertygraph/stream") path) ≡ false
forked [] = refl
forked (x ∷ path) = grind (arith, nat_tests)

assembled : {K : Type 0} (value : K → Route) (b a d c : K) → value b ≡ Load → value a ≡ Loads → value d ≡ Stream → value c ≡ Stream → (s0 sl sp e sb g ge h he : Bool) → (sl && sp) ≡ false → (g && h) ≡ false →
    option_map value (cond s0 (cond sl (cond e (Some a) (cond sb (Some b) None)) (cond sp (cond g (cond ge (Some d) None) (cond h (cond he (Some c) None) None)) None)) None)
    ≡ cond (s0 && (sl && e)) (Some Loads) (cond (s0 && (sp && (h && he))) (Some Stream) (cond (s0 && (sp && (g && ge))) (Some Stream) (cond (s0 && (sl && sb)) (Some Load) None)))
assembled value b a d c vb va vd vc false sl sp e sb g ge h he apart forked = refl
assembled value b a d c vb va vd vc true true true e sb g ge h he apart forked = absurd (true≢false apart)
assembled value b a d c vb va vd vc true true false true sb g ge h he apart forked = ap Some va
assembled value b a d c vb va vd vc true true false false true g ge h he apart forked = ap Some vb
assembled value b a d c vb va vd vc true true false false false g ge h he apart forked = refl
assembled value b a d c vb va vd vc true false false e sb g ge h he apart forked = refl
assembled value b a d c vb va vd vc true false true e sb true ge true he apart forked = absurd (true≢false forked)
assembled value b a d c vb va vd vc true false true e sb true true false he apart forked = ap Some vd
assembled value b a d c vb va vd vc true false true e sb true false false he apart forked = refl
assembled value b a d c vb va vd vc true false true e sb false ge true true apart forked = ap Some vc
assembled value b a d c vb va vd vc true false true e sb false ge true false apart forked = refl
assembled value b a d c vb va vd vc true false true e sb false ge false he apart forked = refl

abbrev with_route : List ℕ → List ℕ → List (ℕ × ℕ) → Route → RouteOf Route
with_route pattern text names route = record { pattern = pattern; text = text; names = names; value = route }

abbrev pub one_load : RouteOf Route
one_load = with_route (codes "/loader/" ++ 256 ∷ []) (codes "/loader/{loadId}") ((9, 15) ∷ []) Load

abbrev pub plain : List ℕ → Route → RouteOf Route
plain path route = with_route path path [] route

abbrev pub table : RowsOf (RouteOf Route)
table =
    (codes "/loader/" ++ 256 ∷ [], one_load) ∷ ((codes "/loader", plain (codes "/loader") Loads) ∷ ((codes "/pg/stream", plain (codes "/pg/stream") Stream) ∷ ((codes "/propertygraph/stream", plain (codes "/propertygraph/stream") Stream) ∷ [])))

-- the route of each path is found
pub found : (path : List ℕ) → AreBytes path → option_map (λ (route : RouteOf Route). route.value) (first table path) ≡ text_route path
found path bytes =
    let b : RouteOf Route = one_load in
    let a : RouteOf Route = plain (codes "/loader") Loads in
    let d : RouteOf Route = plain (codes "/pg/stream") Stream in
    let c : RouteOf Route = plain (codes "/propertygraph/stream") Stream in
    let p : List ℕ = drop 1 path in
    let r : List ℕ = drop 6 p in
    let q : List ℕ = drop 1 p in
    let ids : RowsOf (RouteOf Route) = (47 ∷ 256 ∷ [], b) ∷ ([], a) ∷ [] in
    let ends : RowsOf (RouteOf Route) = behind (codes "g/stream") (([], d) ∷ []) ++ behind (codes "ropertygraph/stream") (([], c) ∷ []) in
    let all : RowsOf (RouteOf Route) = behind (codes "loader") ids ++ behind (codes "p") ends in
    let one : seek 0 (behind (47 ∷ []) all) path ≡ cond (begins (47 ∷ []) path) (seek 0 all p) None = past (47 ∷ []) (bytes_of (47 ∷ []) refl) all path in
    let two : seek 0 all p ≡ cond (begins (codes "loader") p) (seek 0 ids r) (cond (begins (codes "p") p) (seek 0 ends q) None) =
    fork 108 112 (codes "oader") [] refl (bytes_of (codes "loader") refl) (bytes_of (codes "p") refl) ids ends p in
    let three : seek 0 ids r ≡ cond (pointwise nat_eq r []) (Some a) (cond (begins (47 ∷ []) r && is_part (drop 1 r)) (Some b) None) =
    id_or_end b a r (bytes_behind 6 p (bytes_behind 1 path bytes)) in
    let four : seek 0 ends q ≡ cond (begins (codes "g/stream") q) (seek 0 (([], d) ∷ []) (drop 8 q)) (cond (begins (codes "ropertygraph/stream") q) (seek 0 (([], c) ∷ []) (drop 19 q)) None) =
    fork 103 114 (codes "/stream") (codes "opertygraph/stream") refl (bytes_of (codes "g/stream") refl) (bytes_of (codes "ropertygraph/stream") refl) (([], d) ∷ []) (([], c) ∷ []) q in
    let whole : first table path ≡ cond (begins (47 ∷ []) path) (cond (begins (codes "loader") p) (cond (pointwise nat_eq r []) (Some a) (cond (begins (47 ∷ []) r && is_part (drop 1 r)) (Some b) None))
    (cond (begins (codes "p") p) (cond (begins (codes "g/stream") q) (cond (pointwise nat_eq (drop 8 q) []) (Some d) None) (cond (begins (codes "ropertygraph/stream") q) (cond (pointwise nat_eq (drop 19 q) []) (Some c) None) None)) None)) None =
    one ∙ ap (λ o. cond (begins (47 ∷ []) path) o None) (two
    ∙ ap (λ o. cond (begins (codes "loader") p) o (cond (begins (codes "p") p) (seek 0 ends q) None)) three
    ∙ ap (λ o. cond (begins (codes "loader") p) (cond (pointwise nat_eq r []) (Some a) (cond (begins (47 ∷ []) r && is_part (drop 1 r)) (Some b) None)) (cond (begins (codes "p") p) o None)) (four
    ∙ ap (λ o. cond (begins (codes "g/stream") q) o (cond (begins (codes "ropertygraph/stream") q) (seek 0 (([], c) ∷ []) (drop 19 q)) None)) (ended d (drop 8 q))
    ∙ ap (λ o. cond (begins (codes "g/stream") q) (cond (pointwise nat_eq (drop 8 q) []) (Some d) None) (cond (begins (codes "ropertygraph/stream") q) o None)) (ended c (drop 19 q)))) in
    let list_is : is path (codes "/loader") ≡ (begins (47 ∷ []) path && (begins (codes "loader") p && is r [])) = is_past (47 ∷ []) (codes "loader") path ∙ ap (λ t. begins (47 ∷ []) path && t) (is_past (codes "loader") [] p) in
    let graph_is : is path (codes "/propertygraph/stream") ≡ (begins (47 ∷ []) path && (begins (codes "p") p && (begins (codes "ropertygraph/stream") q && is (drop 19 q) []))) =
    is_past (47 ∷ []) (codes "propertygraph/stream") path ∙ ap (λ t. begins (47 ∷ []) path && t) (is_past (codes "p") (codes "ropertygraph/stream") p ∙ ap (λ t. begins (codes "p") p && t) (is_past (codes "ropertygraph/stream") [] q)) in
    let pg_is : is path (codes "/pg/stream") ≡ (begins (47 ∷ []) path && (begins (codes "p") p && (begins (codes "g/stream") q && is (drop 8 q) []))) =
    is_past (47 ∷ []) (codes "pg/stream") path ∙ ap (λ t. begins (47 ∷ []) path && t) (is_past (codes "p") (codes "g/stream") p ∙ ap (λ t. begins (codes "p") p && t) (is_past (codes "g/stream") [] q)) in
    let eight : drop 1 r ≡ id_part path = ap (drop 1) (drop-drop 6 1 path) ∙ drop-drop 1 7 path in
    let load_is : is_load path ≡ (begins (47 ∷ []) path && (begins (codes "loader") p && (begins (47 ∷ []) r && is_part (drop 1 r)))) =
    ap (λ t. t && is_part (id_part path)) (starts_is (codes "/loader/") path ∙ begins_past (47 ∷ []) (codes "loader/") path ∙ ap (λ t. begins (47 ∷ []) path && t) (begins_past (codes "loader") (47 ∷ []) p))
    ∙ ap (λ i. (begins (47 ∷ []) path && (begins (codes "loader") p && begins (47 ∷ []) r)) && is_part i) (sym eight)
    ∙ and_assoc (begins (47 ∷ []) path) (begins (codes "loader") p && begins (47 ∷ []) r) (is_part (drop 1 r))
    ∙ ap (λ t. begins (47 ∷ []) path && t) (and_assoc (begins (codes "loader") p) (begins (47 ∷ []) r) (is_part (drop 1 r))) in
    ap (option_map (λ (route : RouteOf Route). route.value)) whole
    ∙ assembled (λ (route : RouteOf Route). route.value) b a d c refl refl refl refl (begins (47 ∷ []) path) (begins (codes "loader") p) (begins (codes "p") p) (is r []) (begins (47 ∷ []) r && is_part (drop 1 r)) (begins (codes "g/stream") q) (is (drop 8 q) []) (begins (codes "ropertygraph/stream") q) (is (drop 19 q) []) (apart p) (forked q)
    ∙ sym (
    ap (λ t. cond t (Some Loads) (cond (is path (codes "/propertygraph/stream")) (Some Stream) (cond (is path (codes "/pg/stream")) (Some Stream) (cond (is_load path) (Some Load) None)))) list_is
    ∙ ap (λ t. cond (begins (47 ∷ []) path && (begins (codes "loader") p && is r [])) (Some Loads) (cond t (Some Stream) (cond (is path (codes "/pg/stream")) (Some Stream) (cond (is_load path) (Some Load) None)))) graph_is
    ∙ ap (λ t. cond (begins (47 ∷ []) path && (begins (codes "loader") p && is r [])) (Some Loads) (cond (begins (47 ∷ []) path && (begins (codes "p") p && (begins (codes "ropertygraph/stream") q && is (drop 19 q) []))) (Some Stream) (cond t (Some Stream) (cond (is_load path) (Some Load) None)))) pg_is
    ∙ ap (λ t. cond (begins (47 ∷ []) path && (begins (codes "loader") p && is r [])) (Some Loads) (cond (begins (47 ∷ []) path && (begins (codes "p") p && (begins (codes "ropertygraph/stream") q && is (drop 19 q) []))) (Some Stream) (cond (begins (47 ∷ []) path && (begins (codes "p") p && (begins (codes "g/stream") q && is (drop 8 q) []))) (Some Stream) (cond t (Some Load) None)))) load_is)
