-- Text that is printed piece by piece is printed as a whole.
use Rattle.std.specs.Prelude.{◌≡◌, ◌≤◌, ◌<◌, ℕ, zero, suc, ◌+◌, nat_eq, Bool, true, false, cond, List, [], ◌∷◌, ◌++◌, take, drop, length, None, Some, Result, Ok, Err, OnErr, OnOk, IsErr, refl}
use Rattle.std.specs.declared.option.Option.{Option}
use Rattle.std.specs.List.{flat_map}
use Rattle.std.proofs.Common.{sym, ap, ◌∙◌, append_assoc, arith, get_or, length-drop}
use Rattle.std.proofs.lemmas.List.{at_drop_more}
use Rattle.std.proofs.lemmas.Option.{same_Some}
use Rattle.bl_outside.specs.Streams.{Puts}
use Rattle.bl_outside.specs.declared.refusals.Failed.{Failed}
use Rattle.bl_value.specs.declared.change.Change.{Change}
use Rattle.bl_world.specs.declared.job_commit.JobCommit.{JobCommit}
use Rattle.bl_cli.specs.Outputs.{commit_lines, event_line, events_from, is_end, job_commits, own_lines}
use Rattle.bl_cli.specs.declared.status.Status.{Status}
use Rattle.bl_cli.specs.declared.status.Status.TheVariants as status
use Rattle.bl_cli.specs.Statuses.{line_of, place_behind, plain_line}
use Rattle.bl_cli.proofs.Lines.{last_is}
use Rattle.bl_cli.specs.Printing.{Adds, AddsFront, Leaves, Prints, PrintsFront, Written}

-- whatever the answer is
pub on_err : {T E : Type 0} (result : Result T E) (P : Type 0) → P → OnErr result P
on_err (Ok value) P holds = tt
on_err (Err why) P holds = holds

-- ---- lists

pub append_nothing : (xs : List ℕ) → xs ++ [] ≡ xs
append_nothing [] = refl
append_nothing (x ∷ xs) = ap (λ them. x ∷ them) (append_nothing xs)

-- a front of a text is one of a longer text
front_of : (n : ℕ) (text rest : List ℕ) → (k : ℕ) × (take n text ≡ take k (text ++ rest))
front_of zero text rest = (zero, refl)
front_of (suc n) [] rest = (zero, refl)
front_of (suc n) (x ∷ text) rest = let front : (k : ℕ) × (take n text ≡ take k (text ++ rest)) = front_of n text rest in (suc front.0, ap (λ them. x ∷ them) front.1)

-- a text and a front of another are a front of both
front_behind : (before : List ℕ) (n : ℕ) (text rest : List ℕ) → (k : ℕ) × (before ++ take n text ≡ take k ((before ++ text) ++ rest))
front_behind [] n text rest = front_of n text rest
front_behind (x ∷ before) n text rest =
    let front : (k : ℕ) × (before ++ take n text ≡ take k ((before ++ text) ++ rest)) = front_behind before n text rest in
    (suc front.0, ap (λ them. x ∷ them) front.1)

-- ---- what was printed so far

-- nothing yet
pub leaves_all : (text : List ℕ) (old : Option (List ℕ)) (waited : List ℕ) → Leaves text text old waited old waited
leaves_all text None waited = tt
leaves_all text (Some old) waited = ([], sym (append_nothing old), refl)

-- a piece more
pub leaves_less : (piece rest text : List ℕ) (old : Option (List ℕ)) (waited : List ℕ) (mid : Option (List ℕ)) (waits : List ℕ) (new : Option (List ℕ)) (later : List ℕ)
    → Leaves (piece ++ rest) text old waited mid waits
    → Prints piece mid waits new later
    → Leaves rest text old waited new later
leaves_less piece rest text None waited mid waits new later so prints = tt
leaves_less piece rest text (Some old) waited None waits new later so prints = absurd so
leaves_less piece rest text (Some old) waited (Some mid) waits None later so prints = absurd prints
leaves_less piece rest text (Some old) waited (Some mid) waits (Some new) later so prints = (
  so.0 ++ prints.0,
  prints.1 ∙ ap (λ them. them ++ prints.0) so.1 ∙ append_assoc old so.0 prints.0,
  ap (λ them. them ++ rest) (append_assoc so.0 prints.0 later ∙ ap (λ them. so.0 ++ them) prints.2 ∙ sym (append_assoc so.0 waits piece))
      ∙ append_assoc (so.0 ++ waits) piece rest
      ∙ so.2,
)

-- nothing is left
pub prints_all : (text : List ℕ) (old : Option (List ℕ)) (waited : List ℕ) (new : Option (List ℕ)) (waits : List ℕ) → Leaves [] text old waited new waits → Prints text old waited new waits
prints_all text None waited new waits so = tt
prints_all text (Some old) waited None waits so = absurd so
prints_all text (Some old) waited (Some new) waits so = (so.0, so.1, sym (append_nothing (so.0 ++ waits)) ∙ so.2)

-- the next piece was printed in part
pub front_left : (piece rest text : List ℕ) (old : Option (List ℕ)) (waited : List ℕ) (mid : Option (List ℕ)) (waits : List ℕ) (new : Option (List ℕ))
    → Leaves (piece ++ rest) text old waited mid waits
    → PrintsFront piece mid waits new
    → PrintsFront text old waited new
front_left piece rest text None waited mid waits new so front = tt
front_left piece rest text (Some old) waited None waits new so front = absurd so
front_left piece rest text (Some old) waited (Some mid) waits None so front = absurd front
front_left piece rest text (Some old) waited (Some mid) waits (Some new) so front =
    let whole : (so.0 ++ (waits ++ piece)) ++ rest ≡ waited ++ text =
    ap (λ them. them ++ rest) (sym (append_assoc so.0 waits piece)) ∙ append_assoc (so.0 ++ waits) piece rest ∙ so.2 in
    let part : (k : ℕ) × (so.0 ++ take front.0 (waits ++ piece) ≡ take k ((so.0 ++ (waits ++ piece)) ++ rest)) = front_behind so.0 front.0 (waits ++ piece) rest in (
      part.0,
      front.1 ∙ ap (λ them. them ++ take front.0 (waits ++ piece)) so.1
          ∙ append_assoc old so.0 (take front.0 (waits ++ piece))
          ∙ ap (λ them. old ++ them) (part.1 ∙ ap (take part.0) whole),
    )

-- nothing of the next piece was printed
pub front_so_far : (rest text : List ℕ) (old : Option (List ℕ)) (waited : List ℕ) (mid : Option (List ℕ)) (waits : List ℕ) → Leaves rest text old waited mid waits → PrintsFront text old waited mid
front_so_far rest text None waited mid waits so = tt
front_so_far rest text (Some old) waited None waits so = absurd so
front_so_far rest text (Some old) waited (Some mid) waits so =
    let part : (k : ℕ) × (so.0 ++ take 0 waits ≡ take k ((so.0 ++ waits) ++ rest)) = front_behind so.0 0 waits rest in
    (part.0, so.1 ∙ ap (λ them. old ++ them) (sym (append_nothing so.0) ∙ part.1 ∙ ap (take part.0) so.2))

-- ---- a single piece

pub prints_nothing : (old : Option (List ℕ)) (waited : List ℕ) → Prints [] old waited old waited
prints_nothing None waited = tt
prints_nothing (Some old) waited = ([], sym (append_nothing old), sym (append_nothing waited))

-- it waits
pub prints_waiting : (text : List ℕ) (old : Option (List ℕ)) (waited : List ℕ) → Prints text old waited old (waited ++ text)
prints_waiting text None waited = tt
prints_waiting text (Some old) waited = ([], sym (append_nothing old), refl)

-- nothing of it was written
pub front_nothing : (text : List ℕ) (old : Option (List ℕ)) (waited : List ℕ) → PrintsFront text old waited old
front_nothing text None waited = tt
front_nothing text (Some old) waited = (0, sym (append_nothing old))

-- what waits with it is written
pub prints_flushed : (text : List ℕ) (old : Option (List ℕ)) (waited both : List ℕ) (new : Option (List ℕ)) (waits : List ℕ) → both ≡ waited ++ text → Prints [] old both new waits → Prints text old waited new waits
prints_flushed text None waited both new waits is prints = tt
prints_flushed text (Some old) waited both None waits is prints = absurd prints
prints_flushed text (Some old) waited both (Some new) waits is prints = (prints.0, prints.1, prints.2 ∙ append_nothing both ∙ is)

pub front_flushed : (text : List ℕ) (old : Option (List ℕ)) (waited both : List ℕ) (new : Option (List ℕ)) → both ≡ waited ++ text → PrintsFront [] old both new → PrintsFront text old waited new
front_flushed text None waited both new is front = tt
front_flushed text (Some old) waited both None is front = absurd front
front_flushed text (Some old) waited both (Some new) is front = (front.0, front.1 ∙ ap (λ them. old ++ take front.0 them) (append_nothing both ∙ is))

-- ---- all of it

-- the end is written, and nothing waits
pub adds_all : (text : List ℕ) (old : Option (List ℕ)) (waited : List ℕ) (mid : Option (List ℕ)) (waits : List ℕ) (new : Option (List ℕ)) (later : List ℕ)
    → Prints text old waited mid waits
    → Prints [] mid waits new later
    → later ≡ []
    → Written old new (Adds (waited ++ text))
adds_all text None waited mid waits new later prints flushed none = tt
adds_all text (Some old) waited None waits new later prints flushed none = absurd prints
adds_all text (Some old) waited (Some mid) waits None later prints flushed none = absurd flushed
adds_all text (Some old) waited (Some mid) waits (Some new) later prints flushed none =
    let last : flushed.0 ≡ waits = sym (append_nothing flushed.0) ∙ ap (λ them. flushed.0 ++ them) (sym none) ∙ flushed.2 ∙ append_nothing waits in
    flushed.1 ∙ ap (λ them. them ++ flushed.0) prints.1 ∙ append_assoc old prints.0 flushed.0
    ∙ ap (λ them. old ++ them) (ap (λ them. prints.0 ++ them) last ∙ prints.2)

-- text that waits behind what was printed, and the end, are all
pub adds_both : (text last : List ℕ) (old mid : Option (List ℕ)) (waits : List ℕ) (new : Option (List ℕ))
    → Prints text old [] mid waits
    → Written mid new (Adds (waits ++ last))
    → Written old new (Adds (text ++ last))
adds_both text last None mid waits new prints adds = tt
adds_both text last (Some old) None waits new prints adds = absurd prints
adds_both text last (Some old) (Some mid) waits None prints adds = absurd adds
adds_both text last (Some old) (Some mid) waits (Some new) prints adds =
    adds ∙ ap (λ them. them ++ (waits ++ last)) prints.1 ∙ append_assoc old prints.0 (waits ++ last)
    ∙ ap (λ them. old ++ them) (sym (append_assoc prints.0 waits last) ∙ ap (λ them. them ++ last) prints.2)

pub front_both : (text last : List ℕ) (old mid : Option (List ℕ)) (waits : List ℕ) (new : Option (List ℕ))
    → Prints text old [] mid waits
    → PrintsFront last mid waits new
    → Written old new (AddsFront (text ++ last))
front_both text last None mid waits new prints front = tt
front_both text last (Some old) None waits new prints front = absurd prints
front_both text last (Some old) (Some mid) waits None prints front = absurd front
front_both text last (Some old) (Some mid) waits (Some new) prints front =
    let whole : (prints.0 ++ (waits ++ last)) ++ [] ≡ text ++ last =
    append_nothing (prints.0 ++ (waits ++ last)) ∙ sym (append_assoc prints.0 waits last) ∙ ap (λ them. them ++ last) prints.2 in
    let part : (k : ℕ) × (prints.0 ++ take front.0 (waits ++ last) ≡ take k ((prints.0 ++ (waits ++ last)) ++ [])) = front_behind prints.0 front.0 (waits ++ last) [] in (
      part.0,
      front.1 ∙ ap (λ them. them ++ take front.0 (waits ++ last)) prints.1
          ∙ append_assoc old prints.0 (take front.0 (waits ++ last))
          ∙ ap (λ them. old ++ them) (part.1 ∙ ap (take part.0) whole),
    )

pub front_first : (text last : List ℕ) (old new : Option (List ℕ)) → PrintsFront text old [] new → Written old new (AddsFront (text ++ last))
front_first text last None new front = tt
front_first text last (Some old) None front = absurd front
front_first text last (Some old) (Some new) front =
    let part : (k : ℕ) × (take front.0 text ≡ take k (text ++ last)) = front_of front.0 text last in
    (part.0, front.1 ∙ ap (λ them. old ++ them) part.1)

-- ---- the commits of a job

-- the lines of the next commit, where it is one of the job
commits_by : (job number : ℕ) (commit : JobCommit) (commits : List JobCommit) (test : Bool)
    → flat_map commit_lines (cond test ((number, commit) ∷ job_commits job (number + 1) commits) (job_commits job (number + 1) commits))
    ≡ cond test (commit_lines (number, commit)) [] ++ flat_map commit_lines (job_commits job (number + 1) commits)
commits_by job number commit commits true = refl
commits_by job number commit commits false = refl

-- one commit more
pub commits_more : (job i : ℕ) (commits : List JobCommit) (commit : JobCommit) → i < length commits → commit ≡ get_or commits i commit
    → flat_map commit_lines (job_commits job (i + 1) (drop i commits)) ≡ own_lines job (i + 1, commit) ++ flat_map commit_lines (job_commits job (i + 1 + 1) (drop (i + 1) commits))
commits_more job i commits commit below is =
    at_drop_more (λ them. flat_map commit_lines (job_commits job (i + 1) them)) commits i commit below
    ∙ ap (λ it. flat_map commit_lines (job_commits job (i + 1) (it ∷ drop (i + 1) commits))) (sym is)
    ∙ commits_by job (i + 1) commit (drop (i + 1) commits) (nat_eq commit.job job)

-- ---- the changes of a commit

-- the last one is the one whose number is the count
end_is : (k : ℕ) (changes : List Change) → k ≤ length changes → nat_eq k (length changes) ≡ is_end (drop k changes)
end_is k changes within = last_is k (length changes) (drop k changes) (omega (arith, length-drop k changes))

-- one change more
pub changes_more : (number moment i : ℕ) (changes : List Change) (change : Change) (last : Bool) (line : List ℕ) → i < length changes → change ≡ get_or changes i change → last ≡ nat_eq (i + 1) (length changes)
    → line ≡ event_line (record { commit = number; op = i + 1; moment = moment; last = last; change = change })
    → flat_map event_line (events_from number (i + 1) moment (drop i changes)) ≡ line ++ flat_map event_line (events_from number (i + 1 + 1) moment (drop (i + 1) changes))
changes_more number moment i changes change last line below is is_last is_line =
    at_drop_more (λ them. flat_map event_line (events_from number (i + 1) moment them)) changes i change below
    ∙ ap (λ it. flat_map event_line (events_from number (i + 1) moment (it ∷ drop (i + 1) changes))) (sym is)
    ∙ ap (λ l. event_line (record { commit = number; op = i + 1; moment = moment; last = l; change = change }) ++ flat_map event_line (events_from number (i + 1 + 1) moment (drop (i + 1) changes)))
    (sym (end_is (i + 1) changes (omega (arith, below))) ∙ sym is_last)
    ∙ ap (λ them. them ++ flat_map event_line (events_from number (i + 1 + 1) moment (drop (i + 1) changes))) (sym is_line)

-- ---- pieces of a line

-- a piece was written, and another behind it, or a front of it
pub puts_then : (old mid new : Option (List ℕ)) (a b : List ℕ) (done : Unit {0}) (result : Result (Unit {0}) Failed) → Puts old mid a (Ok done) → Puts mid new b result → Puts old new (a ++ b) result
puts_then None None new a b done result first second = second
puts_then None (Some mid) new a b done result first second = absurd (cc (first))
puts_then (Some old) None new a b done result first second = absurd (cc (first))
puts_then (Some old) (Some mid) new a b done (Ok all) first second =
    let same : mid ≡ old ++ a = same_Some _ _ first in
    second ∙ ap (λ (them : List ℕ). Some (them ++ b)) same ∙ ap Some (append_assoc old a b)
puts_then (Some old) (Some mid) new a b done (Err failed) first second =
    let same : mid ≡ old ++ a = same_Some _ _ first in
    let part : (k : ℕ) × (a ++ take second.0 b ≡ take k ((a ++ b) ++ [])) = front_behind a second.0 b [] in (
      part.0,
      second.1 ∙ ap (λ (them : List ℕ). Some (them ++ take second.0 b)) same ∙ ap Some (append_assoc old a (take second.0 b))
          ∙ ap (λ (them : List ℕ). Some (old ++ them)) (part.1 ∙ ap (take part.0) (append_nothing (a ++ b))),
    )

-- a front of the first piece was written
pub puts_front : (old new : Option (List ℕ)) (a b : List ℕ) (failed other : Failed) → Puts old new a (Err failed) → Puts old new (a ++ b) (Err other)
puts_front None new a b failed other puts = puts
puts_front (Some old) new a b failed other puts =
    let part : (k : ℕ) × (take puts.0 a ≡ take k (a ++ b)) = front_of puts.0 a b in
    (part.0, puts.1 ∙ ap (λ (them : List ℕ). Some (old ++ them)) part.1)

pub puts_front_at : (old new : Option (List ℕ)) (a b : List ℕ) (failed : Failed) (result : Result (Unit {0}) Failed) → IsErr result → Puts old new a (Err failed) → Puts old new (a ++ b) result
puts_front_at old new a b failed (Ok done) is puts = absurd (cc (is))
puts_front_at old new a b failed (Err other) is puts = puts_front old new a b failed other puts

-- the line of a status goes on behind what each begins with
pub line_parts : (it : Status) → (rest : List ℕ) × (plain_line it ++ rest ≡ line_of it)
line_parts status.Ok = ([], refl)
line_parts status.JobNotCompleted = ([], refl)
line_parts status.Usage = ([], append_nothing (line_of status.Usage))
line_parts status.ReadFault = ([], append_nothing (line_of status.ReadFault))
line_parts status.WriteFault = ([], append_nothing (line_of status.WriteFault))
line_parts status.StoreFault = ([], append_nothing (line_of status.StoreFault))
line_parts (status.BadStore place) = (place_behind place, refl)
line_parts status.NoMemory = ([], append_nothing (line_of status.NoMemory))
line_parts status.InputTooLong = ([], append_nothing (line_of status.InputTooLong))
line_parts status.TornInput = ([], append_nothing (line_of status.TornInput))
line_parts status.JournalFull = ([], append_nothing (line_of status.JournalFull))
line_parts status.NumbersUsedUp = ([], append_nothing (line_of status.NumbersUsedUp))
line_parts status.UnknownLoad = ([], append_nothing (line_of status.UnknownLoad))
line_parts status.NoRecords = ([], append_nothing (line_of status.NoRecords))

-- ---- by the answer

pub on_err_map : {T E : Type 0} (result : Result T E) (P Q : Type 0) → (P → Q) → OnErr result P → OnErr result Q
on_err_map (Ok value) P Q then holds = tt
on_err_map (Err why) P Q then holds = then holds

pub on_ok_map : {T E : Type 0} (result : Result T E) (P Q : Type 0) → (P → Q) → OnOk result P → OnOk result Q
on_ok_map (Ok value) P Q then holds = then holds
on_ok_map (Err why) P Q then holds = tt

-- what waits behind a text that was printed is written in part
pub front_after : (text : List ℕ) (old : Option (List ℕ)) (waited : List ℕ) (mid : Option (List ℕ)) (waits : List ℕ) (new : Option (List ℕ)) → Prints text old waited mid waits → PrintsFront [] mid waits new → PrintsFront text old waited new
front_after text old waited mid waits new prints front = front_left [] [] text old waited mid waits new (leaves_none text old waited mid waits prints) front where
  leaves_none : (text : List ℕ) (old : Option (List ℕ)) (waited : List ℕ) (mid : Option (List ℕ)) (waits : List ℕ) → Prints text old waited mid waits → Leaves [] text old waited mid waits
  leaves_none text None waited mid waits prints = tt
  leaves_none text (Some old) waited None waits prints = absurd prints
  leaves_none text (Some old) waited (Some mid) waits prints = (prints.0, prints.1, append_nothing (prints.0 ++ waits) ∙ prints.2)
