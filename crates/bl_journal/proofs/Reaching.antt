-- Files whose frames up to a place are known.
use Rattle.std.proofs.Common.{◌≡◌, ◌≢◌, ⊎_elim, ℕ, suc, ◌+◌, ◌-◌, ◌<◌, ◌≤◌, Bool, true, false, List, [], ◌∷◌, ◌++◌, length, take, drop, get_or, Some, None, refl, sym, ◌∙◌, ap, subst, arith}
use Rattle.std.specs.Prelude.{if◌then◌else◌, ◌==◌}
use Rattle.std.proofs.lemmas.Bool.{lt-leb, le-leb, eq-eqb, eqb-true, cases_lt}
use Rattle.std.proofs.lemmas.List.{append-nil, append_assoc, drop_more, drop-drop, take-take, drop-take, take_more, length-drop, length-take-le, take-append-drop}
use Rattle.bl_journal.specs.Frames.{head, number, Found, prefixed, is_frame, body_of, frames_from, frames_at, first_difference, frames_behind_head, frames, HasFrames, new_file}
use Rattle.bl_journal.specs.Journals.{Reaches}
use Rattle.bl_journal.proofs.Bytes.{closed, gate_closed, one_frame, frame_is, frame_bound, number_front}

prefix_more : (done xs : List (List ℕ)) (f : Found) → prefixed done (prefixed xs f) ≡ prefixed (done ++ xs) f
prefix_more done xs f = ap (λ (l : List (List ℕ)). (l, f.1)) (sym (append_assoc done xs f.0))

pub prefix_none : (done : List (List ℕ)) → prefixed done ([], None) ≡ (done, None)
prefix_none done = ap (λ (l : List (List ℕ)). (l, None)) (append-nil done)

same_first : (place : ℕ) (hs rest : List ℕ) → first_difference place hs (hs ++ rest) ≡ None
same_first place [] rest = refl
same_first place (h ∷ hs) rest = ap (λ b. if b then first_difference (place + 1) hs (hs ++ rest) else Some place) (eq-eqb h h refl) ∙ same_first (place + 1) hs rest

-- a file of no more than 16 bytes has no frames
pub short_frames : (c : List ℕ) → length c ≤ 16 → frames c ≡ ([], None)
short_frames c short = ap (λ b. if b then ([], None) else frames_behind_head (first_difference 0 head c) c) (le-leb (length c) 16 short)

pub long_frames : (c : List ℕ) → 16 < length c → frames c ≡ frames_behind_head (first_difference 0 head c) c
long_frames c long = ap (λ b. if b then ([], None) else frames_behind_head (first_difference 0 head c) c) (lt-leb (length c) 16 long)

pub headed_frames : (c : List ℕ) → 16 < length c → take 15 c ≡ head → frames c ≡ frames_at 15 c
headed_frames c long first =
    long_frames c long ∙ ap (λ o. frames_behind_head o c) (subst (λ l. first_difference 0 head l ≡ None) (ap (λ l. l ++ drop 15 c) (sym first) ∙ take-append-drop 15 c) (same_first 0 head (drop 15 c)))

pub reach_head : (c : List ℕ) → 16 < length c → take 15 c ≡ head → Reaches c 15 []
reach_head c long first = record {
  begins = omega arith;
  inside = omega arith;
  own = headed_frames c long first;
  front = λ other same inside longer. headed_frames other longer (same ∙ first);
}

-- the head and a closed gate
pub reach_empty : (gate : ℕ) → gate ≢ 1 → Reaches (head ++ gate ∷ []) 15 []
reach_empty gate shut = record {
  begins = omega arith;
  inside = omega arith;
  own = sym (closed 15 gate [] shut);
  front = λ other same inside longer. headed_frames other longer same;
}

pub reach_new : Reaches new_file 15 []
reach_new = reach_empty 0 (λ is. omega arith)

-- another file with the same front
pub reach_along : (c other : List ℕ) (place : ℕ) (done : List (List ℕ)) → Reaches c place done → take place other ≡ take place c → place < length other → 16 < length other → Reaches other place done
reach_along c other place done r same inside long = record {
  begins = r.begins;
  inside = inside;
  own = r.front other same inside long;
  front = λ further alike within longer. r.front further (alike ∙ same) within longer;
}

pub at_next : (c rest : List ℕ) (place n : ℕ) → drop place c ≡ 1 ∷ rest → drop (4 + n) rest ≡ drop (place + 5 + n) c
at_next c rest place n here =
    let back : rest ≡ drop (place + 1) c = ap (λ l. drop 1 l) (sym here) ∙ drop-drop 1 place c in
    ap (λ l. drop (4 + n) l) back ∙ drop-drop (4 + n) (place + 1) c ∙ ap (λ k. drop k c) (let e : place + 1 + (4 + n) ≡ place + 5 + n = omega arith in e)

over_frame : (c rest : List ℕ) (place n : ℕ) (done : List (List ℕ)) → frames c ≡ prefixed done (frames_at place c) → drop place c ≡ 1 ∷ rest → number rest ≡ n → is_frame rest n ≡ true
    → frames c ≡ prefixed (done ++ body_of rest n ∷ []) (frames_at (place + 5 + n) c)
over_frame c rest place n done so_far here is whole =
    so_far
    ∙ ap (λ l. prefixed done (frames_from place 0 l)) here
    ∙ ap (λ f. prefixed done f) (one_frame place n rest is whole)
    ∙ ap (λ l. prefixed done (prefixed (body_of rest n ∷ []) (frames_from (place + 5 + n) 0 l))) (at_next c rest place n here)
    ∙ prefix_more done (body_of rest n ∷ []) (frames_at (place + 5 + n) c)

pub rest_length : (c rest : List ℕ) (place gate : ℕ) → drop place c ≡ gate ∷ rest → length c - place ≡ suc (length rest)
rest_length c rest place gate here = sym (length-drop place c) ∙ ap length here

-- another file with the same bytes to the end of a frame has this frame
same_frame : (c other rest : List ℕ) (place n : ℕ) → place + 5 + n < length other → drop place c ≡ 1 ∷ rest → number rest ≡ n → is_frame rest n ≡ true → take (place + 5 + n) other ≡ take (place + 5 + n) c
    → (drop place other ≡ 1 ∷ drop (place + 1) other) × (number (drop (place + 1) other) ≡ n) × (is_frame (drop (place + 1) other) n ≡ true) × (body_of (drop (place + 1) other) n ≡ body_of rest n)
same_frame c other rest place n within here is whole same =
    let bound = frame_bound rest n whole in
    let rest' = drop (place + 1) other in
    let split : place + 5 + n ≡ place + suc (4 + n) = omega arith in
    let alike : take (suc (4 + n)) (drop place other) ≡ take (suc (4 + n)) (drop place c) =
    sym (drop-take place (suc (4 + n)) other) ∙ ap (λ k. drop place (take k other)) (sym split) ∙ ap (λ l. drop place l) same ∙ ap (λ k. drop place (take k c)) split ∙ drop-take place (suc (4 + n)) c in
    let more : drop place other ≡ get_or other place 0 ∷ rest' = drop_more other place 0 (omega (arith, within)) in
    let both : get_or other place 0 ∷ take (4 + n) rest' ≡ 1 ∷ take (4 + n) rest = ap (λ l. take (suc (4 + n)) l) (sym more) ∙ alike ∙ ap (λ l. take (suc (4 + n)) l) here in
    let gate : get_or other place 0 ≡ 1 = cc in
    let tail : take (4 + n) rest' ≡ take (4 + n) rest = cc in
    let here' : drop place other ≡ 1 ∷ rest' = more ∙ ap (λ g. g ∷ rest') gate in
    let size' = rest_length other rest' place 1 here' in
    let fours : take 4 rest' ≡ take 4 rest = sym (take-take 4 (4 + n) rest' (omega arith)) ∙ ap (λ l. take 4 l) tail ∙ take-take 4 (4 + n) rest (omega arith) in
    let body : body_of rest' n ≡ body_of rest n = sym (drop-take 4 n rest') ∙ ap (λ l. drop 4 l) tail ∙ drop-take 4 n rest in
    (here', number_front rest' rest fours ∙ is, frame_is rest' n bound.0 (omega (arith, size', within)), body)

-- over one frame more
pub reach_more : (c rest : List ℕ) (place n : ℕ) (done : List (List ℕ)) → Reaches c place done → drop place c ≡ 1 ∷ rest → number rest ≡ n → is_frame rest n ≡ true → Reaches c (place + 5 + n) (done ++ body_of rest n ∷ [])
reach_more c rest place n done r here is whole =
    let bound = frame_bound rest n whole in
    let size = rest_length c rest place 1 here in
    record {
      begins = omega (arith, r.begins);
      inside = omega (arith, size, bound.1);
      own = over_frame c rest place n done r.own here is whole;
      front = λ other same within long.
          let t = same_frame c other rest place n within here is whole same in
          let fronts : take place other ≡ take place c = sym (take-take place (place + 5 + n) other (omega arith)) ∙ ap (λ l. take place l) same ∙ take-take place (place + 5 + n) c (omega arith) in
          over_frame other (drop (place + 1) other) place n done (r.front other fronts (omega (arith, within)) long) t.0 t.1 t.2
          ∙ ap (λ b. prefixed (done ++ b ∷ []) (frames_at (place + 5 + n) other)) t.3;
    }

-- a list of one frame at least, and what it begins with
Begun : List ℕ → List ℕ → Type 0
Begun bytes body = (rest : List ℕ) × (bytes ≡ 1 ∷ rest) × (is_frame rest (number rest) ≡ true) × (body ≡ body_of rest (number rest))

-- where a body is met the gate is open, and its frame is whole
begun_by : (place gate : ℕ) (rest body : List ℕ) (more : Found) (is_open whole : Bool) → gate == 1 ≡ is_open → is_frame rest (number rest) ≡ whole
    → (if is_open then (if whole then prefixed (body_of rest (number rest) ∷ []) (frames_from (place + 1) (4 + number rest) rest) else ([], Some place)) else ([], None)) ≡ prefixed (body ∷ []) more
    → (gate ≡ 1) × (is_frame rest (number rest) ≡ true) × (body ≡ body_of rest (number rest))
begun_by place gate rest body more true true opened is_whole is = (eqb-true gate 1 opened, is_whole, let e : body_of rest (number rest) ∷ (frames_from (place + 1) (4 + number rest) rest).0 ≡ body ∷ more.0 = ap (λ (f : Found). f.0) is in cc)
begun_by place gate rest body more true false opened is_whole is = let e : [] ≡ body ∷ more.0 = ap (λ (f : Found). f.0) is in cc
begun_by place gate rest body more false whole opened is_whole is = let e : [] ≡ body ∷ more.0 = ap (λ (f : Found). f.0) is in cc

-- over the body that is met next
pub reach_next : (c body : List ℕ) (place : ℕ) (done : List (List ℕ)) (more : Found) → Reaches c place done → frames_at place c ≡ prefixed (body ∷ []) more → Reaches c (place + 5 + length body) (done ++ body ∷ [])
reach_next c body place done more r is =
    let gate = get_or c place 0 in
    let rest = drop (place + 1) c in
    let here : drop place c ≡ gate ∷ rest = drop_more c place 0 r.inside in
    let t = begun_by place gate rest body more (gate == 1) (is_frame rest (number rest)) refl refl (ap (λ l. frames_from place 0 l) (sym here) ∙ is) in
    let bound = frame_bound rest (number rest) t.1 in
    let size : length body ≡ number rest = ap length t.2 ∙ length-take-le (number rest) (drop 4 rest) (omega (arith, length-drop 4 rest, bound.1)) in
    let over = reach_more c rest place (number rest) done r (here ∙ ap (λ g. g ∷ rest) t.0) refl t.1 in
    subst (λ n. Reaches c (place + 5 + n) (done ++ body ∷ [])) (sym size) (subst (λ b. Reaches c (place + 5 + number rest) (done ++ b ∷ [])) (sym t.2) over)

last_same : (xs : List ℕ) (x y : ℕ) → xs ++ x ∷ [] ≡ xs ++ y ∷ [] → x ≡ y
last_same [] x y is = cc
last_same (z ∷ xs) x y is = last_same xs x y (let e : xs ++ x ∷ [] ≡ xs ++ y ∷ [] = cc in e)

-- whatever stands behind a closed gate, the frames are these
pub shut : (c other : List ℕ) (place : ℕ) (done : List (List ℕ)) → Reaches c place done → ([], None) ≡ frames_at place c → take (place + 1) other ≡ take (place + 1) c → length c ≤ length other → HasFrames other done
shut c other place done r ends same longer =
    let here : drop place c ≡ get_or c place 0 ∷ drop (place + 1) c = drop_more c place 0 r.inside in
    let there : drop place other ≡ get_or other place 0 ∷ drop (place + 1) other = drop_more other place 0 (omega (arith, longer, r.inside)) in
    let fronts : take place other ≡ take place c = sym (take-take place (place + 1) other (omega arith)) ∙ ap (λ l. take place l) same ∙ take-take place (place + 1) c (omega arith) in
    let pushed : take place other ++ get_or other place 0 ∷ [] ≡ take place other ++ get_or c place 0 ∷ [] =
    sym (take_more other place 0 (omega (arith, longer, r.inside))) ∙ same ∙ take_more c place 0 r.inside ∙ ap (λ l. l ++ get_or c place 0 ∷ []) (sym fronts) in
    let gates : get_or other place 0 ≡ get_or c place 0 = last_same (take place other) (get_or other place 0) (get_or c place 0) pushed in
    let closed_here : get_or c place 0 ≢ 1 = gate_closed place (get_or c place 0) (drop (place + 1) c) (ap (λ l. frames_from place 0 l) (sym here) ∙ sym ends) in
    ⊎_elim
    (λ long.
    r.front other fronts (omega (arith, longer, r.inside)) long
    ∙ ap (λ l. prefixed done (frames_from place 0 l)) there
    ∙ ap (λ f. prefixed done f) (closed place (get_or other place 0) (drop (place + 1) other) (λ is. closed_here (sym gates ∙ is)))
    ∙ prefix_none done)
    (λ short.
    let none : done ≡ [] = ap (λ (f : Found). f.0) (sym (prefix_none done) ∙ ap (λ f. prefixed done f) ends ∙ sym r.own ∙ short_frames c (omega (arith, longer, short))) in
    short_frames other short ∙ ap (λ (l : List (List ℕ)). (l, None)) (sym none))
    (cases_lt 16 (length other))
