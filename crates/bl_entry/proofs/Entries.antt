-- Entries are read as they are written.
use Rattle.std.proofs.Common.{◌≡◌, ℕ, zero, suc, ◌^◌, ◌<◌, Bool, true, cond, ltb, eqb, List, [], ◌∷◌, ◌++◌, length, Option, Some, None, Result, Ok, Err, refl, sym, ap, subst, ◌∙◌, arith}
use Rattle.std.specs.Int.{w32, w64}
use Rattle.std.proofs.lemmas.Bool.{ltb-true, lt-ltb, eqb-true}
use Rattle.std.proofs.lemmas.List.{append-nil, nil_from_length}
use Rattle.bl_outside.specs.declared.digest.Digest.{Digest}
use Rattle.bl_value.specs.declared.log_code.LogCode.{LogCode}
use Rattle.bl_value.specs.declared.change.Change.{Change}
use Rattle.bl_outside.specs.Texts.{IsShortText}
use Rattle.bl_value.specs.Valid.{IsChange}
use Rattle.bl_files.specs.Sources.{is_kept_source}
use Rattle.bl_files.specs.declared.log.Log.{Log}
use Rattle.bl_files.specs.declared.feed_kind.FeedKind.{FeedKind}
use Rattle.bl_files.specs.declared.feed_kind.FeedKind.TheVariants as kind
use Rattle.bl_files.specs.declared.found.Found.{Found}
use Rattle.bl_files.specs.declared.plan_result.PlanResult.{PlanResult}
use Rattle.bl_files.specs.declared.plan_result.PlanResult.TheVariants as plan
use Rattle.bl_files.specs.declared.feed_end.FeedEnd.{FeedEnd}
use Rattle.bl_files.specs.declared.feed_end.FeedEnd.TheVariants as ends
use Rattle.bl_files.specs.declared.mode.Mode.{Mode}
use Rattle.bl_files.specs.declared.mode.Mode.TheVariants.{New, Resume, Auto}
use Rattle.bl_files.specs.declared.load_request.LoadRequest.{LoadRequest}
use Rattle.bl_entry.specs.declared.entry.Entry.{Entry}
use Rattle.bl_entry.specs.declared.entry.Entry.TheVariants.{Submit, Cancel, Start, Batch, FeedEnd as End}
use Rattle.bl_entry.specs.declared.refusal.EntryRefusal.{EntryRefusal}
use Rattle.bl_entry.specs.declared.refusal.EntryRefusal.TheVariants.{NotAnEntry, NoMemory}
use Rattle.bl_entry.specs.Encoding.{u8_bytes, u32_bytes, u64_bytes, u128_bytes, text_bytes, digest_bytes, list_bytes, code_bytes, log_bytes, change_bytes, kind_bytes, found_bytes, plan_bytes, end_bytes, mode_bytes, request_bytes, entry_bytes}
use Rattle.bl_entry.specs.Valid.{IsDigest, IsLog, IsKind, IsFound, IsList, IsPlan, IsEnd, IsRequest, IsEntry}
use Rattle.bl_entry.specs.Reading.{◌>>=◌, Gives, both_at, number_at, long_at, list_at, digest_at, code_at, log_at, change_at, kind_at, found_at, plan_at, end_at, mode_at, below_at, source_at, request_at, submit_at, cancel_at, start_at, batch_at, feed_end_at, entry_at, whole_at}
use Rattle.bl_entry.specs.Decoded.{Decodes, NoneBegins}
use Rattle.bl_entry.proofs.Parses.{IsBytes, IsBytes-rest, bind_some, guard_is, Takes, Parses, both_parses, made_parses, tagged_takes, tagged_again, alone_takes, tested_parses, valid_parses, number_parses, list_parses, one_form}
use Rattle.bl_entry.proofs.Numbers.{wide32, wide64, long_parses}
use Rattle.bl_entry.proofs.Parts.{truth_parses, digest_parses, text_parses, code_parses, log_parses, change_parses}

abbrev Anything : {A : Type 0} → A → Type 0
Anything x = Unit {0}

abbrev u32_parses : Parses u32_bytes (λ n. n < 2 ^ 32) (number_at w32)
u32_parses = number_parses w32 wide32

abbrev u64_parses : Parses u64_bytes (λ n. n < 2 ^ 64) (number_at w64)
u64_parses = number_parses w64 wide64

-- ---- files, plans, ends

refused : Parses (λ (x : LogCode × ℕ). code_bytes x.0 ++ u32_bytes x.1) (λ x. Unit {0} × (x.1 < 2 ^ 32)) (both_at code_at (number_at w32))
refused = both_parses code_parses u32_parses

kind_parses : Parses kind_bytes IsKind kind_at
unfolding kind_at
kind_parses = record { takes = takes; again = again }
  where
    takes : (bytes : List ℕ) (x : FeedKind) (rest : List ℕ) → IsBytes bytes → kind_at bytes ≡ Some (x, rest) → Takes bytes (kind_bytes x) rest × IsKind x
    takes [] x rest fits e = absurd cc
    takes (zero ∷ bytes) x rest fits e = alone_takes kind_bytes IsKind 0 kind.Vertex refl tt bytes x rest fits e
    takes (suc zero ∷ bytes) x rest fits e = alone_takes kind_bytes IsKind 1 kind.Edge refl tt bytes x rest fits e
    takes (suc (suc zero) ∷ bytes) x rest fits e = tagged_takes (λ x. kind.Refused x.0 x.1) kind_bytes IsKind 2 refused (λ y. refl) (λ y h. h.1) bytes x rest fits e
    takes (suc (suc (suc b)) ∷ bytes) x rest fits e = absurd cc

    again : (x : FeedKind) (rest : List ℕ) → IsKind x → kind_at (kind_bytes x ++ rest) ≡ Some (x, rest)
    again kind.Vertex rest valid = refl
    again kind.Edge rest valid = refl
    again (kind.Refused code column) rest valid = tagged_again (λ x. kind.Refused x.0 x.1) kind_bytes IsKind 2 refused (code, column) rest (tt, valid)

pub found_parses : Parses found_bytes IsFound found_at
unfolding found_at
found_parses =
    made_parses (λ (x : List ℕ × (FeedKind × Digest)). record { name = x.0; kind = x.1.0; digest = x.1.1 }) (λ (f : Found). (f.name, (f.kind, f.digest))) IsFound (λ f valid. (valid, refl)) (λ y valid. (valid, refl))
    (both_parses text_parses (both_parses kind_parses digest_parses))

plan_parses : Parses plan_bytes IsPlan plan_at
unfolding plan_at
plan_parses = record { takes = takes; again = again }
  where
    takes : (bytes : List ℕ) (x : PlanResult) (rest : List ℕ) → IsBytes bytes → plan_at bytes ≡ Some (x, rest) → Takes bytes (plan_bytes x) rest × IsPlan x
    takes [] x rest fits e = absurd cc
    takes (zero ∷ bytes) x rest fits e = tagged_takes plan.Feeds plan_bytes IsPlan 0 (list_parses found_parses wide32) (λ y. refl) (λ y h. h) bytes x rest fits e
    takes (suc zero ∷ bytes) x rest fits e = alone_takes plan_bytes IsPlan 1 plan.NoPrevious refl tt bytes x rest fits e
    takes (suc (suc zero) ∷ bytes) x rest fits e = alone_takes plan_bytes IsPlan 2 plan.SourceNotFound refl tt bytes x rest fits e
    takes (suc (suc (suc zero)) ∷ bytes) x rest fits e = alone_takes plan_bytes IsPlan 3 plan.ListFault refl tt bytes x rest fits e
    takes (suc (suc (suc (suc zero))) ∷ bytes) x rest fits e = tagged_takes plan.TooManyFiles plan_bytes IsPlan 4 u64_parses (λ y. refl) (λ y h. h) bytes x rest fits e
    takes (suc (suc (suc (suc (suc b)))) ∷ bytes) x rest fits e = absurd cc

    again : (x : PlanResult) (rest : List ℕ) → IsPlan x → plan_at (plan_bytes x ++ rest) ≡ Some (x, rest)
    again (plan.Feeds found) rest valid = tagged_again plan.Feeds plan_bytes IsPlan 0 (list_parses found_parses wide32) found rest valid
    again plan.NoPrevious rest valid = refl
    again plan.SourceNotFound rest valid = refl
    again plan.ListFault rest valid = refl
    again (plan.TooManyFiles number) rest valid = tagged_again plan.TooManyFiles plan_bytes IsPlan 4 u64_parses number rest valid

end_parses : Parses end_bytes IsEnd end_at
unfolding end_at
end_parses = record { takes = takes; again = again }
  where
    takes : (bytes : List ℕ) (x : FeedEnd) (rest : List ℕ) → IsBytes bytes → end_at bytes ≡ Some (x, rest) → Takes bytes (end_bytes x) rest × IsEnd x
    takes [] x rest fits e = absurd cc
    takes (zero ∷ bytes) x rest fits e = alone_takes end_bytes IsEnd 0 ends.Completed refl tt bytes x rest fits e
    takes (suc zero ∷ bytes) x rest fits e = tagged_takes ends.Stopped end_bytes IsEnd 1 log_parses (λ y. refl) (λ y h. h) bytes x rest fits e
    takes (suc (suc zero) ∷ bytes) x rest fits e = alone_takes end_bytes IsEnd 2 ends.ReadError refl tt bytes x rest fits e
    takes (suc (suc (suc zero)) ∷ bytes) x rest fits e = alone_takes end_bytes IsEnd 3 ends.Modified refl tt bytes x rest fits e
    takes (suc (suc (suc (suc b))) ∷ bytes) x rest fits e = absurd cc

    again : (x : FeedEnd) (rest : List ℕ) → IsEnd x → end_at (end_bytes x ++ rest) ≡ Some (x, rest)
    again ends.Completed rest valid = refl
    again (ends.Stopped log) rest valid = tagged_again ends.Stopped end_bytes IsEnd 1 log_parses log rest valid
    again ends.ReadError rest valid = refl
    again ends.Modified rest valid = refl

-- ---- requests

mode_parses : Parses mode_bytes Anything mode_at
unfolding mode_at
mode_parses = record { takes = takes; again = again }
  where
    takes : (bytes : List ℕ) (x : Mode) (rest : List ℕ) → IsBytes bytes → mode_at bytes ≡ Some (x, rest) → Takes bytes (mode_bytes x) rest × Unit {0}
    takes [] x rest fits e = absurd cc
    takes (zero ∷ bytes) x rest fits e = alone_takes mode_bytes Anything 0 New refl tt bytes x rest fits e
    takes (suc zero ∷ bytes) x rest fits e = alone_takes mode_bytes Anything 1 Resume refl tt bytes x rest fits e
    takes (suc (suc zero) ∷ bytes) x rest fits e = alone_takes mode_bytes Anything 2 Auto refl tt bytes x rest fits e
    takes (suc (suc (suc b)) ∷ bytes) x rest fits e = absurd cc

    again : (x : Mode) (rest : List ℕ) → Unit {0} → mode_at (mode_bytes x ++ rest) ≡ Some (x, rest)
    again New rest valid = refl
    again Resume rest valid = refl
    again Auto rest valid = refl

below_parses : (limit : ℕ) → Parses u8_bytes (λ n. n < limit) (below_at limit)
unfolding below_at
below_parses limit = record { takes = takes; again = λ n rest lt. ap (λ b. cond b (Some (n, rest)) None) (lt-ltb _ _ lt) }
  where
    takes : (bytes : List ℕ) (n : ℕ) (rest : List ℕ) → IsBytes bytes → below_at limit bytes ≡ Some (n, rest) → Takes bytes (u8_bytes n) rest × (n < limit)
    takes [] n rest fits e = absurd cc
    takes (byte ∷ bytes) n rest fits e =
        let g = guard_is (ltb byte limit) (byte, bytes) (n, rest) e in
        subst (λ (y : ℕ × List ℕ). Takes (byte ∷ bytes) (u8_bytes y.0) y.1 × (y.0 < limit)) g.1 (record { parts = refl; rest_fits = IsBytes-rest byte bytes fits }, ltb-true _ _ g.0)

format_parses : Parses u8_bytes (λ n. n ≡ 0) (below_at 1)
format_parses = valid_parses (λ n. n ≡ 0) (λ n h. omega arith) (λ n h. omega arith) (below_parses 1)

source_parses : Parses text_bytes (λ s. IsShortText s × (is_kept_source s ≡ true)) source_at
unfolding source_at
source_parses = tested_parses is_kept_source text_parses

request_parses : Parses request_bytes IsRequest request_at
unfolding request_at
request_parses =
    made_parses (λ (x : List ℕ × (ℕ × (Mode × (Bool × (Bool × (ℕ × (Bool × List ℕ))))))). record {
      source = x.0;
      format = x.1.0;
      mode = x.1.1.0;
      fail_on_error = x.1.1.1.0;
      update_single = x.1.1.1.1.0;
      parallelism = x.1.1.1.1.1.0;
      queue = x.1.1.1.1.1.1.0;
      dependencies = x.1.1.1.1.1.1.1;
    })
    (λ (r : LoadRequest). (r.source, (r.format, (r.mode, (r.fail_on_error, (r.update_single, (r.parallelism, (r.queue, r.dependencies)))))))) IsRequest
    (λ r valid. ((valid.0, (valid.1.0, (tt, (tt, (tt, (valid.1.1.0, (tt, valid.1.1.1))))))), refl))
    (λ y valid. ((valid.0, (valid.1.0, (valid.1.1.1.1.1.0, valid.1.1.1.1.1.1.1))), refl))
    (both_parses source_parses (both_parses format_parses (both_parses mode_parses (both_parses truth_parses (both_parses truth_parses (both_parses (below_parses 4) (both_parses truth_parses (list_parses long_parses wide32))))))))

-- ---- entries

submit : Parses (λ (x : ℕ × (ℕ × (ℕ × LoadRequest))). u64_bytes x.0 ++ (u32_bytes x.1.0 ++ (u128_bytes x.1.1.0 ++ request_bytes x.1.1.1))) (λ x. (x.0 < 2 ^ 64) × ((x.1.0 < 2 ^ 32) × ((x.1.1.0 < 2 ^ 128) × IsRequest x.1.1.1))) (both_at (number_at w64) (both_at (number_at w32) (both_at long_at request_at)))
submit = both_parses u64_parses (both_parses u32_parses (both_parses long_parses request_parses))

cancel : Parses (λ (x : ℕ × ℕ). u64_bytes x.0 ++ u32_bytes x.1) (λ x. (x.0 < 2 ^ 64) × (x.1 < 2 ^ 32)) (both_at (number_at w64) (number_at w32))
cancel = both_parses u64_parses u32_parses

start : Parses (λ (x : ℕ × (ℕ × PlanResult)). u64_bytes x.0 ++ (u32_bytes x.1.0 ++ plan_bytes x.1.1)) (λ x. (x.0 < 2 ^ 64) × ((x.1.0 < 2 ^ 32) × IsPlan x.1.1)) (both_at (number_at w64) (both_at (number_at w32) plan_at))
start = both_parses u64_parses (both_parses u32_parses plan_parses)

abbrev BatchParts : Type 0
BatchParts = ℕ × (ℕ × (ℕ × (ℕ × (ℕ × (Digest × (ℕ × (List Log × List Change)))))))

abbrev made_batch : BatchParts → Entry
made_batch x = Batch x.0 x.1.0 x.1.1.0 x.1.1.1.0 x.1.1.1.1.0 x.1.1.1.1.1.0 x.1.1.1.1.1.1.0 x.1.1.1.1.1.1.1.0 x.1.1.1.1.1.1.1.1

batch : Parses (λ (x : BatchParts). u64_bytes x.0 ++ (u32_bytes x.1.0 ++ (u32_bytes x.1.1.0 ++ (u64_bytes x.1.1.1.0 ++ (u32_bytes x.1.1.1.1.0 ++ (digest_bytes x.1.1.1.1.1.0 ++ (u32_bytes x.1.1.1.1.1.1.0 ++ (list_bytes log_bytes x.1.1.1.1.1.1.1.0 ++ list_bytes change_bytes x.1.1.1.1.1.1.1.1))))))))
    (λ x. (x.0 < 2 ^ 64) × ((x.1.0 < 2 ^ 32) × ((x.1.1.0 < 2 ^ 32) × ((x.1.1.1.0 < 2 ^ 64) × ((x.1.1.1.1.0 < 2 ^ 32) × (IsDigest x.1.1.1.1.1.0 × ((x.1.1.1.1.1.1.0 < 2 ^ 32) × (IsList IsLog x.1.1.1.1.1.1.1.0 × IsList IsChange x.1.1.1.1.1.1.1.1))))))))
    (both_at (number_at w64) (both_at (number_at w32) (both_at (number_at w32) (both_at (number_at w64) (both_at (number_at w32) (both_at digest_at (both_at (number_at w32) (both_at (list_at log_at) (list_at change_at)))))))))
batch = both_parses u64_parses (both_parses u32_parses (both_parses u32_parses (both_parses u64_parses (both_parses u32_parses (both_parses digest_parses (both_parses u32_parses (both_parses (list_parses log_parses wide32) (list_parses change_parses wide32))))))))

feed_end : Parses (λ (x : ℕ × (ℕ × (ℕ × FeedEnd))). u64_bytes x.0 ++ (u32_bytes x.1.0 ++ (u32_bytes x.1.1.0 ++ end_bytes x.1.1.1))) (λ x. (x.0 < 2 ^ 64) × ((x.1.0 < 2 ^ 32) × ((x.1.1.0 < 2 ^ 32) × IsEnd x.1.1.1))) (both_at (number_at w64) (both_at (number_at w32) (both_at (number_at w32) end_at)))
feed_end = both_parses u64_parses (both_parses u32_parses (both_parses u32_parses end_parses))

pub entry_parses : Parses entry_bytes IsEntry entry_at
unfolding entry_at submit_at cancel_at start_at batch_at feed_end_at
entry_parses = record { takes = takes; again = again }
  where
    takes : (bytes : List ℕ) (x : Entry) (rest : List ℕ) → IsBytes bytes → entry_at bytes ≡ Some (x, rest) → Takes bytes (entry_bytes x) rest × IsEntry x
    takes [] x rest fits e = absurd cc
    takes (zero ∷ bytes) x rest fits e = absurd cc
    takes (suc zero ∷ bytes) x rest fits e = tagged_takes (λ x. Submit x.0 x.1.0 x.1.1.0 x.1.1.1) entry_bytes IsEntry 1 submit (λ y. refl) (λ y h. h) bytes x rest fits e
    takes (suc (suc zero) ∷ bytes) x rest fits e = tagged_takes (λ x. Cancel x.0 x.1) entry_bytes IsEntry 2 cancel (λ y. refl) (λ y h. h) bytes x rest fits e
    takes (suc (suc (suc zero)) ∷ bytes) x rest fits e = tagged_takes (λ x. Start x.0 x.1.0 x.1.1) entry_bytes IsEntry 3 start (λ y. refl) (λ y h. h) bytes x rest fits e
    takes (suc (suc (suc (suc zero))) ∷ bytes) x rest fits e = tagged_takes made_batch entry_bytes IsEntry 4 batch (λ y. refl) (λ y h. h) bytes x rest fits e
    takes (suc (suc (suc (suc (suc zero)))) ∷ bytes) x rest fits e = tagged_takes (λ x. End x.0 x.1.0 x.1.1.0 x.1.1.1) entry_bytes IsEntry 5 feed_end (λ y. refl) (λ y h. h) bytes x rest fits e
    takes (suc (suc (suc (suc (suc (suc b))))) ∷ bytes) x rest fits e = absurd cc

    again : (x : Entry) (rest : List ℕ) → IsEntry x → entry_at (entry_bytes x ++ rest) ≡ Some (x, rest)
    again (Submit moment job id request) rest valid = tagged_again (λ x. Submit x.0 x.1.0 x.1.1.0 x.1.1.1) entry_bytes IsEntry 1 submit (moment, (job, (id, request))) rest valid
    again (Cancel moment job) rest valid = tagged_again (λ x. Cancel x.0 x.1) entry_bytes IsEntry 2 cancel (moment, job) rest valid
    again (Start moment job planned) rest valid = tagged_again (λ x. Start x.0 x.1.0 x.1.1) entry_bytes IsEntry 3 start (moment, (job, planned)) rest valid
    again (Batch moment job feed from rows digest duplicates logs changes) rest valid = tagged_again made_batch entry_bytes IsEntry 4 batch (moment, (job, (feed, (from, (rows, (digest, (duplicates, (logs, changes)))))))) rest valid
    again (End moment job feed how) rest valid = tagged_again (λ x. End x.0 x.1.0 x.1.1.0 x.1.1.1) entry_bytes IsEntry 5 feed_end (moment, (job, (feed, how))) rest valid

-- ---- all of the bytes

whole_is : (bytes : List ℕ) (entry : Entry) → IsBytes bytes → whole_at bytes ≡ Some entry → IsEntry entry × (bytes ≡ entry_bytes entry)
unfolding whole_at
whole_is bytes entry fits e =
    let s = bind_some (entry_at bytes) (λ x. cond (eqb (length x.1) 0) (Some x.0) None) entry e in
    let g = guard_is (eqb (length s.0.1) 0) s.0.0 entry s.2 in
    let t = entry_parses.takes bytes s.0.0 s.0.1 fits s.1 in
    let nothing : s.0.1 ≡ [] = nil_from_length s.0.1 (eqb-true _ _ g.0) in
    subst (λ (y : Entry). IsEntry y × (bytes ≡ entry_bytes y)) g.1 (t.1, t.0.parts ∙ ap (λ (r : List ℕ). entry_bytes s.0.0 ++ r) nothing ∙ append-nil (entry_bytes s.0.0))

whole_again : (entry : Entry) → IsEntry entry → whole_at (entry_bytes entry) ≡ Some entry
unfolding whole_at
whole_again entry valid =
    ap (λ (r : Option (Entry × List ℕ)). r >>= λ x. cond (eqb (length x.1) 0) (Some x.0) None) (ap entry_at (sym (append-nil (entry_bytes entry))) ∙ entry_parses.again entry [] valid)

none_some : {A : Type 0} (x : A) → None ≡ Some x → ⊥
none_some x e = cc

pub decoded : (bytes : List ℕ) (r : Result Entry EntryRefusal) → IsBytes bytes → Gives (λ entry. entry) r (whole_at bytes) → Decodes bytes r
decoded bytes (Ok entry) fits given = whole_is bytes entry fits given
decoded bytes (Err NotAnEntry) fits given = λ entry valid e. none_some entry (sym given ∙ ap whole_at e ∙ whole_again entry valid)
decoded bytes (Err NoMemory) fits given = tt

pub none_begins : NoneBegins
none_begins a b rest va vb e =
    let one = one_form entry_parses a b rest [] va vb (e ∙ sym (append-nil (entry_bytes b))) in
    one
