-- The files of a load that goes on from another are those files.
use Rattle.std.specs.Prelude.{◌≡◌, ℕ, zero, suc, ◌-◌, ◌≤◌, min, nat_eq, nat_lt, Bool, true, false, ◌||◌, cond, List, [], ◌∷◌, length, map, drop, refl, Contains, ◌⊎◌}
use Rattle.std.specs.List.{AllZip, AllByRecursion, IsDistinct}
use Rattle.std.specs.List.Sorted.{IsStrictlySortedBy}
use Rattle.std.specs.declared.cmp.Ordering.TheVariants.{Less}
use Rattle.std.specs.Cmp.Lexicographic.{pointwise}
use Rattle.std.proofs.Common.{sym, ap, subst, ◌∙◌, arith, inl, inr}
use Rattle.std.proofs.lemmas.Bool.{true≢false, cond_both, ltb-false}
use Rattle.std.proofs.lemmas.List.{get_or-map, length-map}
use Rattle.std.proofs.lemmas.List.Elements.{All-contains}
use Rattle.std.proofs.lemmas.Slice.Eq.{bytes_eq-Decides}
use Rattle.bl_files.specs.declared.feed.Feed.{Feed}
use Rattle.bl_files.specs.declared.feed_kind.FeedKind.{FeedKind}
use Rattle.bl_files.specs.declared.feed_kind.FeedKind.TheVariants as kind
use Rattle.bl_files.specs.declared.feed_status.FeedStatus.{FeedStatus}
use Rattle.bl_files.specs.declared.feed_status.FeedStatus.TheVariants.{NotStarted, Completed}
use Rattle.bl_files.specs.declared.found.Found.{Found}
use Rattle.bl_files.specs.declared.log.Log.{Log}
use Rattle.bl_files.specs.ErrorFeed.{row_logs}
use Rattle.bl_files.specs.Carried.{AreCarried, DifferentNames, HasKept, IsCarriedFeed, feed_cmp, feed_names, first_status, is_kept, kept, kept_status, new_feed}
use Rattle.bl_files.proofs.Members.{first_member, later_member, member_cases, no_member}
use Rattle.bl_files.proofs.FeedOrder.{same_members}
use Rattle.bl_queue.specs.Rows.{last_logs}
use Rattle.bl_files.specs.Statuses.{is_completed, is_open}
use Rattle.bl_chain.specs.Frontiers.{IsWhole, shares, takens}
use Rattle.bl_chain.specs.Loads.{bare, first_feeds}
use Rattle.bl_chain.specs.Tables.{AreTables, HasNoneUnread, Table}
use Rattle.bl_chain.specs.Turns.{IsFoundAs, IsPlanOf}
use Rattle.bl_chain.proofs.FedLoads.{AreRun, IsFed}

-- ---- the files as they were found

abbrev pub plain : List Table → List Feed
plain tables = map (λ table. new_feed table.found) tables

pub plain_has : (tables : List Table) (table : Table) → Contains tables table → Contains (plain tables) (new_feed table.found)
plain_has tables table h = (h.0, (let e : length (plain tables) ≡ length tables = length-map tables (λ (s : Table). new_feed s.found) in omega (arith, h.1)), get_or-map (λ (s : Table). new_feed s.found) tables h.0 table (new_feed table.found) h.1 ∙ ap (λ (s : Table). new_feed s.found) h.2)

pub plain_is : (tables : List Table) (feed : Feed) → Contains (plain tables) feed → (table : Table) × Contains tables table × (feed ≡ new_feed table.found)
plain_is [] feed h = no_member feed h
plain_is (s ∷ tables) feed h =
    elim (member_cases (new_feed s.found) (plain tables) feed h) [
      | inl same ↦ (s, first_member s tables, sym same)
      | inr later ↦ (let rest = plain_is tables feed later in (rest.0, later_member s tables rest.0 rest.1, rest.2))
    ]

none_kept : (name : List ℕ) → ¬ HasKept [] name
none_kept name h = no_member h.0 h.1

pub first_carried : (tables : List Table) → AreTables tables → (found : List Found) (feeds : List Feed) → IsPlanOf tables [] found → AreCarried [] found feeds → feeds ≡ plain tables
first_carried tables sound found feeds planned carried = same_members feeds (plain tables) carried.ordered sound.ordered there back where
  there : (feed : Feed) → Contains feeds feed → Contains (plain tables) feed
  there feed h = by ((carried.each feed).0 h) where
    by : IsCarriedFeed [] found feed → Contains (plain tables) feed
    by (inl old) = no_member old.0 old.1
    by (inr file) = of (planned.each file.0 file.1) where
      of : ((table : Table) × Contains tables table × IsFoundAs [] table file.0) → Contains (plain tables) feed
      of is = elim is.2 [
        | inl old ↦ no_member old.0 old.1
        | inr same ↦ subst (λ x. Contains (plain tables) x) (sym (file.3 ∙ ap new_feed same.1)) (plain_has tables is.0 is.1)
      ]

  back : (feed : Feed) → Contains (plain tables) feed → Contains feeds feed
  back feed h = by (plain_is tables feed h) where
    by : ((table : Table) × Contains tables table × (feed ≡ new_feed table.found)) → Contains feeds feed
    by is = of (planned.all is.0 is.1) where
      of : ((file : Found) × Contains found file × IsFoundAs [] is.0 file) → Contains feeds feed
      of file = elim file.2 [
        | inl old ↦ no_member old.0 old.1
        | inr same ↦ (carried.each feed).1 (inr (file.0, file.1, none_kept file.0.name, is.2 ∙ ap new_feed (sym same.1)))
      ]

drop_none : (n : ℕ) → drop {A = Log} n [] ≡ []
drop_none zero = refl
drop_none (suc n) = refl

pub plain_counted : (tables : List Table) → map bare (plain tables) ≡ last_logs (first_feeds tables)
plain_counted [] = refl
plain_counted (s ∷ tables) = λ i. (record (bare (new_feed s.found)) { logs = sym (drop_none (0 - (10000 - length (row_logs (first_feeds tables))))) i }) ∷ plain_counted tables i

pub plain_shared : (tables : List Table) → takens (plain tables) ≡ shares tables 0
plain_shared [] = refl
plain_shared (s ∷ tables) =
    λ i. (let e : 0 ≡ min 0 (length s.rows) = omega arith in e) i ∷ (plain_shared tables ∙ ap (λ m. shares tables m) (let e : 0 ≡ 0 - length s.rows = omega arith in e)) i

first_rests : (k : FeedKind) → is_completed (first_status k) ≡ false
first_rests kind.Vertex = refl
first_rests kind.Edge = refl
first_rests (kind.Refused code column) = refl

pub new_fed : (table : Table) → IsFed table (new_feed table.found)
new_fed table = record { name = refl; kind = refl; enough = omega arith; digest = refl; fresh = λ h. refl; whole = λ done. absurd (true≢false (sym done ∙ first_rests table.found.kind)) }

pub plain_fed : (tables : List Table) → AllZip IsFed tables (plain tables)
plain_fed [] = tt
plain_fed (s ∷ tables) = (new_fed s, plain_fed tables)

-- a file that isn't read has no rows
pub new_run : (table : Table) → HasNoneUnread table.found.kind table.rows → is_open (new_feed table.found).status ≡ false → IsWhole table (new_feed table.found)
new_run table unread shut = by table.found.kind unread shut where
  by : (k : FeedKind) → HasNoneUnread k table.rows → is_open (first_status k) ≡ false → 0 ≡ length table.rows
  by kind.Vertex unread shut = absurd (true≢false shut)
  by kind.Edge unread shut = absurd (true≢false shut)
  by (kind.Refused code column) unread shut = sym (ap length unread)

pub plain_run : (tables all : List Table) → AreTables all → ((s : Table) → Contains tables s → Contains all s) → AreRun tables (plain tables)
plain_run [] all sound in' = tt
plain_run (s ∷ tables) all sound in' = (
  λ shut. new_run s (All-contains (λ (table : Table). HasNoneUnread table.found.kind table.rows) all s sound.unread (in' s (first_member s tables))) shut,
  plain_run tables all sound (λ x h. in' x (later_member s tables x h)),
)

-- ---- the files of the load before, carried on

abbrev pub carry_one : Table → Feed → Feed
carry_one table feed = cond (is_kept feed) (kept feed) (new_feed table.found)

abbrev pub carry_all : List Table → List Feed → List Feed
carry_all [] feeds = []
carry_all (s ∷ tables) [] = []
carry_all (s ∷ tables) (f ∷ feeds) = carry_one s f ∷ carry_all tables feeds

-- the table and the feed stand at one place
abbrev pub Beside : List Table → List Feed → Table → Feed → Type 0
Beside [] feeds table feed = ⊥
Beside (s ∷ tables) [] table feed = ⊥
Beside (s ∷ tables) (f ∷ feeds) table feed = ((s ≡ table) × (f ≡ feed)) ⊎ Beside tables feeds table feed

beside_table : (tables : List Table) (feeds : List Feed) (table : Table) (feed : Feed) → Beside tables feeds table feed → Contains tables table
beside_table [] feeds table feed h = absurd h
beside_table (s ∷ tables) [] table feed h = absurd h
beside_table (s ∷ tables) (f ∷ feeds) table feed (inl h) = subst (λ x. Contains (s ∷ tables) x) h.0 (first_member s tables)
beside_table (s ∷ tables) (f ∷ feeds) table feed (inr h) = later_member s tables table (beside_table tables feeds table feed h)

beside_feed : (tables : List Table) (feeds : List Feed) (table : Table) (feed : Feed) → Beside tables feeds table feed → Contains feeds feed
beside_feed [] feeds table feed h = absurd h
beside_feed (s ∷ tables) [] table feed h = absurd h
beside_feed (s ∷ tables) (f ∷ feeds) table feed (inl h) = subst (λ x. Contains (f ∷ feeds) x) h.1 (first_member f feeds)
beside_feed (s ∷ tables) (f ∷ feeds) table feed (inr h) = later_member f feeds feed (beside_feed tables feeds table feed h)

beside_fed : (tables : List Table) (feeds : List Feed) (table : Table) (feed : Feed) → AllZip IsFed tables feeds → Beside tables feeds table feed → IsFed table feed
beside_fed [] feeds table feed zip h = absurd h
beside_fed (s ∷ tables) [] table feed zip h = absurd h
beside_fed (s ∷ tables) (f ∷ feeds) table feed zip (inl h) = subst (λ x. IsFed x feed) h.0 (subst (λ y. IsFed s y) h.1 zip.0)
beside_fed (s ∷ tables) (f ∷ feeds) table feed zip (inr h) = beside_fed tables feeds table feed zip.1 h

beside_carried : (tables : List Table) (feeds : List Feed) (table : Table) (feed : Feed) → Beside tables feeds table feed → Contains (carry_all tables feeds) (carry_one table feed)
beside_carried [] feeds table feed h = absurd h
beside_carried (s ∷ tables) [] table feed h = absurd h
beside_carried (s ∷ tables) (f ∷ feeds) table feed (inl h) = subst (λ x. Contains (carry_one s f ∷ carry_all tables feeds) x) (λ i. carry_one (h.0 i) (h.1 i)) (first_member (carry_one s f) (carry_all tables feeds))
beside_carried (s ∷ tables) (f ∷ feeds) table feed (inr h) = later_member (carry_one s f) (carry_all tables feeds) (carry_one table feed) (beside_carried tables feeds table feed h)

of_feed : (tables : List Table) (feeds : List Feed) → AllZip IsFed tables feeds → (feed : Feed) → Contains feeds feed → (table : Table) × Beside tables feeds table feed
of_feed [] [] zip feed h = no_member feed h
of_feed [] (f ∷ feeds) zip feed h = absurd zip
of_feed (s ∷ tables) [] zip feed h = absurd zip
of_feed (s ∷ tables) (f ∷ feeds) zip feed h =
    elim (member_cases f feeds feed h) [
      | inl same ↦ (s, inl (refl, same))
      | inr later ↦ (let rest = of_feed tables feeds zip.1 feed later in (rest.0, inr rest.1))
    ]

of_table : (tables : List Table) (feeds : List Feed) → AllZip IsFed tables feeds → (table : Table) → Contains tables table → (feed : Feed) × Beside tables feeds table feed
of_table [] [] zip table h = no_member table h
of_table [] (f ∷ feeds) zip table h = absurd zip
of_table (s ∷ tables) [] zip table h = absurd zip
of_table (s ∷ tables) (f ∷ feeds) zip table h =
    elim (member_cases s tables table h) [
      | inl same ↦ (f, inl (same, refl))
      | inr later ↦ (let rest = of_table tables feeds zip.1 table later in (rest.0, inr rest.1))
    ]

of_carried : (tables : List Table) (feeds : List Feed) (x : Feed) → Contains (carry_all tables feeds) x → (table : Table) × (feed : Feed) × Beside tables feeds table feed × (x ≡ carry_one table feed)
of_carried [] feeds x h = no_member x h
of_carried (s ∷ tables) [] x h = no_member x h
of_carried (s ∷ tables) (f ∷ feeds) x h =
    elim (member_cases (carry_one s f) (carry_all tables feeds) x h) [
      | inl same ↦ (s, f, inl (refl, refl), sym same)
      | inr later ↦ (let rest = of_carried tables feeds x later in (rest.0, rest.1, inr rest.2, rest.3))
    ]

-- a name is that of one feed
names_apart : (name : List ℕ) (feeds : List Feed) → AllByRecursion (λ other. pointwise nat_eq name other ≡ false) (feed_names feeds) → (feed : Feed) → Contains feeds feed → name ≡ feed.name → ⊥
names_apart name [] all feed h same = no_member feed h
names_apart name (f ∷ feeds) all feed h same =
    elim (member_cases f feeds feed h) [
      | inl is ↦ true≢false (sym ((bytes_eq-Decides name f.name).1 (same ∙ ap (λ (x : Feed). x.name) (sym is))) ∙ all.0)
      | inr later ↦ names_apart name feeds all.1 feed later same
    ]

pub one_feed : (feeds : List Feed) → DifferentNames (feed_names feeds) → (a b : Feed) → Contains feeds a → Contains feeds b → a.name ≡ b.name → a ≡ b
unfolding IsDistinct
one_feed [] apart a b one two same = no_member a one
one_feed (f ∷ feeds) apart a b one two same =
    elim (member_cases f feeds a one) [
      | inl here ↦ (elim (member_cases f feeds b two) [
        | inl also ↦ sym here ∙ also
        | inr later ↦ absurd (names_apart f.name feeds apart.0 b later (ap (λ (x : Feed). x.name) here ∙ same))
      ])
      | inr there ↦ (elim (member_cases f feeds b two) [
        | inl also ↦ absurd (names_apart f.name feeds apart.0 a there (ap (λ (x : Feed). x.name) also ∙ sym same))
        | inr later ↦ one_feed feeds apart.1 a b there later same
      ])
    ]

pub carried_at : (table : Table) (feed : Feed) (b : Bool) → is_kept feed ≡ b → carry_one table feed ≡ cond b (kept feed) (new_feed table.found)
carried_at table feed b is = ap (λ t. cond t (kept feed) (new_feed table.found)) is

not_kept : {P : Type 0} (b : Bool) → b ≡ true → b ≡ false → P
not_kept b one other = absurd (true≢false (sym one ∙ other))

module _ (tables : List Table) (sound : AreTables tables) (previous : List Feed) (zip : AllZip IsFed tables previous) (apart : DifferentNames (feed_names previous)) (found : List Found) (planned : IsPlanOf tables previous found) where
  is_carried : (x : Feed) → Contains (carry_all tables previous) x → IsCarriedFeed previous found x
  is_carried x h = by (of_carried tables previous x h) where
    by : ((table : Table) × (feed : Feed) × Beside tables previous table feed × (x ≡ carry_one table feed)) → IsCarriedFeed previous found x
    by of = on (is_kept of.1) refl where
      fed : IsFed of.0 of.1
      fed = beside_fed tables previous of.0 of.1 zip of.2

      on : (b : Bool) → is_kept of.1 ≡ b → IsCarriedFeed previous found x
      on true is = inl (of.1, beside_feed tables previous of.0 of.1 of.2, is, of.3 ∙ carried_at of.0 of.1 true is)
      on false is = file (planned.all of.0 (beside_table tables previous of.0 of.1 of.2)) where
        file : ((file : Found) × Contains found file × IsFoundAs previous of.0 file) → IsCarriedFeed previous found x
        file f = elim f.2 [
          | inl old ↦ (let same : old.0 ≡ of.1 = one_feed previous apart old.0 of.1 old.1 (beside_feed tables previous of.0 of.1 of.2) (old.3 ∙ sym fed.name) in not_kept (is_kept of.1) (ap is_kept (sym same) ∙ old.2) is)
          | inr same ↦ inr (f.0, f.1, (λ has. same.0 (has.0, has.1, has.2, has.3 ∙ ap (λ (g : Found). g.name) same.1)), of.3 ∙ carried_at of.0 of.1 false is ∙ ap new_feed (sym same.1))
        ]

  carried_is : (x : Feed) → IsCarriedFeed previous found x → Contains (carry_all tables previous) x
  carried_is x (inl old) = by (of_feed tables previous zip old.0 old.1) where
    by : ((table : Table) × Beside tables previous table old.0) → Contains (carry_all tables previous) x
    by of = subst (λ y. Contains (carry_all tables previous) y) (carried_at of.0 old.0 true old.2 ∙ sym old.3) (beside_carried tables previous of.0 old.0 of.1)
  carried_is x (inr file) = by (planned.each file.0 file.1) where
    by : ((table : Table) × Contains tables table × IsFoundAs previous table file.0) → Contains (carry_all tables previous) x
    by is = elim is.2 [
      | inl old ↦ absurd (file.2 (old.0, old.1, old.2, ap (λ (g : Found). g.name) (sym old.4)))
      | inr same ↦ on same (of_table tables previous zip is.0 is.1)
    ] where
      on : (¬ HasKept previous is.0.found.name) × (file.0 ≡ is.0.found) → ((feed : Feed) × Beside tables previous is.0 feed) → Contains (carry_all tables previous) x
      on same of = at (is_kept of.0) refl where
        at : (b : Bool) → is_kept of.0 ≡ b → Contains (carry_all tables previous) x
        at true kept_is = absurd (same.0 (of.0, beside_feed tables previous is.0 of.0 of.1, kept_is, (beside_fed tables previous is.0 of.0 zip of.1).name))
        at false kept_is = subst (λ y. Contains (carry_all tables previous) y) (carried_at is.0 of.0 false kept_is ∙ ap new_feed (sym same.1) ∙ sym file.3) (beside_carried tables previous is.0 of.0 of.1)

-- the order is that of the files
one_name : (table : Table) (feed : Feed) → IsFed table feed → ((carry_one table feed).name ≡ table.found.name) × ((carry_one table feed).kind ≡ table.found.kind)
one_name table feed fed = cond_both (is_kept feed) (kept feed) (new_feed table.found) (λ x. (x.name ≡ table.found.name) × (x.kind ≡ table.found.kind)) (λ h. (fed.name, fed.kind)) (λ h. (refl, refl))

cmp_same : (a b c d : Feed) → a.name ≡ b.name → a.kind ≡ b.kind → c.name ≡ d.name → c.kind ≡ d.kind → feed_cmp a c ≡ feed_cmp b d
cmp_same a b c d an ak cn ck = λ i. feed_cmp (record a { name = an i; kind = ak i }) (record c { name = cn i; kind = ck i })

order_all : (a : Feed) (table : Table) (tables : List Table) (feeds : List Feed) → AllZip IsFed tables feeds → a.name ≡ table.found.name → a.kind ≡ table.found.kind
    → AllByRecursion (λ y. feed_cmp (new_feed table.found) y ≡ Less) (plain tables) → AllByRecursion (λ y. feed_cmp a y ≡ Less) (carry_all tables feeds)
order_all a table [] [] zip name kind_is all = tt
order_all a table [] (f ∷ feeds) zip name kind_is all = absurd zip
order_all a table (s ∷ tables) [] zip name kind_is all = absurd zip
order_all a table (s ∷ tables) (f ∷ feeds) zip name kind_is all =
    let is = one_name s f zip.0 in
    (cmp_same a (new_feed table.found) (carry_one s f) (new_feed s.found) name kind_is is.0 is.1 ∙ all.0, order_all a table tables feeds zip.1 name kind_is all.1)

pub carry_ordered : (tables : List Table) (feeds : List Feed) → AllZip IsFed tables feeds → IsStrictlySortedBy feed_cmp (plain tables) → IsStrictlySortedBy feed_cmp (carry_all tables feeds)
unfolding IsStrictlySortedBy
carry_ordered [] [] zip up = tt
carry_ordered [] (f ∷ feeds) zip up = absurd zip
carry_ordered (s ∷ tables) [] zip up = absurd zip
carry_ordered (s ∷ tables) (f ∷ feeds) zip up =
    let is = one_name s f zip.0 in
    (order_all (carry_one s f) s tables feeds zip.1 is.0 is.1 up.0, carry_ordered tables feeds zip.1 up.1)

pub all_carried : (tables : List Table) → AreTables tables → (previous : List Feed) → AllZip IsFed tables previous → DifferentNames (feed_names previous) → (found : List Found) → IsPlanOf tables previous found → (feeds : List Feed) → AreCarried previous found feeds → feeds ≡ carry_all tables previous
all_carried tables sound previous zip apart found planned feeds carried =
    same_members feeds (carry_all tables previous) carried.ordered (carry_ordered tables previous zip sound.ordered)
    (λ x h. carried_is tables sound previous zip apart found planned x ((carried.each x).0 h))
    (λ x h. (carried.each x).1 (is_carried tables sound previous zip apart found planned x h))

-- ---- nothing is lost

or_false : (a b : Bool) → (a || b) ≡ false → b ≡ false
or_false true b h = absurd (true≢false h)
or_false false b h = h

unkept_none : (feed : Feed) → is_kept feed ≡ false → feed.taken ≡ 0
unkept_none feed h = let none : feed.taken ≤ 0 = ltb-false 0 feed.taken (or_false (is_completed feed.status) (nat_lt 0 feed.taken) h) in omega arith

carry_bare_one : (table : Table) (feed : Feed) → IsFed table feed → bare (carry_one table feed) ≡ bare feed
carry_bare_one table feed fed = cond_both (is_kept feed) (kept feed) (new_feed table.found) (λ x. bare x ≡ bare feed) (λ h. refl) (λ h. sym (fed.fresh (unkept_none feed h)))

pub carry_bare : (tables : List Table) (feeds : List Feed) → AllZip IsFed tables feeds → map bare (carry_all tables feeds) ≡ map bare feeds
carry_bare [] [] zip = refl
carry_bare [] (f ∷ feeds) zip = absurd zip
carry_bare (s ∷ tables) [] zip = absurd zip
carry_bare (s ∷ tables) (f ∷ feeds) zip = λ i. carry_bare_one s f zip.0 i ∷ carry_bare tables feeds zip.1 i

carry_taken_one : (table : Table) (feed : Feed) → (carry_one table feed).taken ≡ feed.taken
carry_taken_one table feed = cond_both (is_kept feed) (kept feed) (new_feed table.found) (λ x. x.taken ≡ feed.taken) (λ h. refl) (λ h. sym (unkept_none feed h))

pub carry_takens : (tables : List Table) (feeds : List Feed) → AllZip IsFed tables feeds → takens (carry_all tables feeds) ≡ takens feeds
carry_takens [] [] zip = refl
carry_takens [] (f ∷ feeds) zip = absurd zip
carry_takens (s ∷ tables) [] zip = absurd zip
carry_takens (s ∷ tables) (f ∷ feeds) zip = λ i. carry_taken_one s f i ∷ carry_takens tables feeds zip.1 i

kept_whole : (s : FeedStatus) → is_completed (kept_status s) ≡ true → is_completed s ≡ true
kept_whole s h = cond_both (is_completed s) Completed NotStarted (λ t. kept_status s ≡ t → is_completed s ≡ true) (λ is e. is) (λ is e. absurd (true≢false (sym h ∙ ap is_completed e))) refl

kept_shut : (s : FeedStatus) → is_open (kept_status s) ≡ false → is_completed s ≡ true
kept_shut s h = cond_both (is_completed s) Completed NotStarted (λ t. kept_status s ≡ t → is_completed s ≡ true) (λ is e. is) (λ is e. absurd (true≢false (ap is_open (sym e) ∙ h))) refl

carry_fed_one : (table : Table) (feed : Feed) → IsFed table feed → IsFed table (carry_one table feed)
carry_fed_one table feed fed =
    cond_both (is_kept feed) (kept feed) (new_feed table.found) (λ x. IsFed table x)
    (λ h. record { name = fed.name; kind = fed.kind; enough = fed.enough; digest = fed.digest; fresh = fed.fresh; whole = λ done. fed.whole (kept_whole feed.status done) })
    (λ h. new_fed table)

pub carry_fed : (tables : List Table) (feeds : List Feed) → AllZip IsFed tables feeds → AllZip IsFed tables (carry_all tables feeds)
carry_fed [] [] zip = tt
carry_fed [] (f ∷ feeds) zip = absurd zip
carry_fed (s ∷ tables) [] zip = absurd zip
carry_fed (s ∷ tables) (f ∷ feeds) zip = (carry_fed_one s f zip.0, carry_fed tables feeds zip.1)

pub carry_run : (tables all : List Table) (feeds : List Feed) → AreTables all → ((s : Table) → Contains tables s → Contains all s) → AllZip IsFed tables feeds → AreRun tables (carry_all tables feeds)
carry_run [] all [] sound in' zip = tt
carry_run [] all (f ∷ feeds) sound in' zip = absurd zip
carry_run (s ∷ tables) all [] sound in' zip = absurd zip
carry_run (s ∷ tables) all (f ∷ feeds) sound in' zip = (
  cond_both (is_kept f) (kept f) (new_feed s.found) (λ x. is_open x.status ≡ false → IsWhole s x)
      (λ h shut. zip.0.whole (kept_shut f.status shut))
      (λ h shut. new_run s (All-contains (λ (table : Table). HasNoneUnread table.found.kind table.rows) all s sound.unread (in' s (first_member s tables))) shut),
  carry_run tables all feeds sound (λ x h. in' x (later_member s tables x h)) zip.1,
)
