-- The entries of a store in memory.
use Rattle.std.proofs.Common.{◌≡◌, ℕ, ◌+◌, true, List, [], ◌++◌, length, map, reverse, Option, None, Some, Result, Ok, Err, inl, refl, sym, ◌∙◌, ap, subst, arith}
use Rattle.std.proofs.lemmas.List.{append-nil, length-map, length-reverse}
use Rattle.bl_outside.specs.Disks.{OnlySeen}
use Rattle.bl_outside.specs.MemoryDisks.{DiskRecord, record_leaves, record_seen}
use Rattle.bl_outside.specs.Sound.{IsSound}
use Rattle.bl_outside.specs.contracts.memory_disk.MemoryDiskDisk.TheImpl as memory
use Rattle.bl_journal.specs.Frames.{Found, HasFrames, frames, prefixed}
use Rattle.bl_journal.specs.Journals.{Ends, JournalRecord}
use Rattle.bl_entry.specs.declared.entry.Entry.{Entry}
use Rattle.bl_entry.specs.Encoding.{entry_bytes}
use Rattle.bl_world.specs.Worlds.{World}
use Rattle.bl_engine.specs.Attempts.{Attempts, LeavesReady}
use Rattle.bl_engine.specs.Engines.{IsAt, View}
use Rattle.bl_engine.specs.Images.{HasEntries, bodies_of}
use Rattle.bl_engine.specs.Openings.{IsJudged, Opens}
use Rattle.bl_engine.proofs.Counting.{world_counts}
use Rattle.bl_engine.specs.Outcomes.{Outcome, Done}
use Rattle.std.specs.Prelude.{IfSome}
use Rattle.bl_bench.specs.Committing.{Grows, IsLoadOf, Keeps, entries_of}
use Rattle.bl_bench.specs.declared.loaded.Loaded.{Loaded}

-- a call that is done makes one entry more
pub adds : {makes : World → Entry → Type 0} {old new : View DiskRecord} {outcome : Outcome} → Attempts memory.ghosts makes old new outcome → outcome ≡ Done → old.ready ≡ true → Grows 1 old new
adds {makes} {old} {new} {outcome} attempts is ready =
    let done = attempts.done is in
    record {
      ready = attempts.ready (subst LeavesReady (sym is) tt);
      entries = omega (arith, done.1.next.entries, ap (λ (w : World). w.entries) (done.0.meets.ready ready));
    }

-- each image of a journal at its end has just its frames
ends_has : (journal : JournalRecord DiskRecord) (bodies : List (List ℕ)) → Ends memory.ghosts journal bodies → (image : List ℕ) → record_leaves journal.disk image → HasFrames image bodies
ends_has journal bodies ends image left =
    let only = subst (λ (o : Option (List ℕ)). OnlySeen o (record_leaves journal.disk)) ends.stands.told ends.settled.only in
    ap frames (only image left) ∙ ends.stands.reaches.own ∙ ap (λ (m : Found). prefixed bodies m) (sym ends.stands.rest) ∙ ap (λ (l : List (List ℕ)). (l, None)) (append-nil bodies)

pub kept : (engine : View DiskRecord) (entries : List Entry) → IsAt memory.ghosts engine entries → Keeps engine.journal.disk engine.world.entries
kept engine entries at = (
  entries,
  sym (world_counts entries engine.world at.world),
  λ image left. record { valid = at.valid; frames = ends_has engine.journal (bodies_of entries) at.ends image left; world = engine.world; leads = at.world },
)

bodies_in : (entries : List Entry) → length (bodies_of entries) ≡ length entries
bodies_in entries = length-map (reverse entries) entry_bytes ∙ length-reverse entries

pub sound : (disk : DiskRecord) → IsSound memory.ghosts disk
sound disk = record { honest = tt; told = refl }

-- a store that is opened again has the entries that its disk keeps
pub opened_again : (disk : DiskRecord) (count : ℕ) (journal : JournalRecord DiskRecord) (world : World) → Keeps disk count → Opens memory.ghosts disk journal (Ok world) → world.entries ≡ count
opened_again disk count journal world keeps opens =
    let opened = opens.opened (sound disk) in
    let same : bodies_of opened.entries ≡ bodies_of keeps.0 = ap (λ (f : Found). f.0) (sym opened.has.frames ∙ (keeps.2 opened.image opened.left).frames) in
    world_counts opened.entries world opened.leads ∙ sym (bodies_in opened.entries) ∙ ap length same ∙ bodies_in keeps.0 ∙ keeps.1

entries_found : Result World ℕ → ℕ
entries_found (Ok world) = world.entries
entries_found (Err place) = 0

-- an empty disk has no entry
pub opened_empty : (disk : DiskRecord) (journal : JournalRecord DiskRecord) (world : World) → record_seen disk ≡ [] → Opens memory.ghosts disk journal (Ok world) → world.entries ≡ 0
unfolding entries_found
opened_empty disk journal world empty opens =
    let judged : IsJudged [] (Ok world) = subst (λ (c : List ℕ). IsJudged c (Ok world)) empty (opens.judged (inl (sound disk))) in
    ap entries_found judged

-- what was found is a load of so many rows
pub is_load : (count rows entries : ℕ) (found : Option Loaded) → rows ≡ count → entries ≡ entries_of count → IfSome found (λ loaded. loaded.rows ≡ rows) → IfSome found (λ loaded. loaded.entries ≡ entries) → IfSome found (IsLoadOf count)
is_load count rows entries None same counted has keeps = tt
is_load count rows entries (Some loaded) same counted has keeps = record { rows = has ∙ same; entries = keeps ∙ counted }

-- where there were none before, as many are there as were added
pub none_before : (before more after : ℕ) → before ≡ 0 → after ≡ before + more → after ≡ more
none_before before more after none grown = omega (arith, none, grown)
