-- The steps of a replay.
use Rattle.std.proofs.Common.{◌≡◌, ℕ, ◌+◌, List, [], ◌∷◌, ◌++◌, length, map, reverse, Some, None, Ok, Err, inl, inr, refl, sym, ◌∙◌, ap, subst}
use Rattle.std.specs.Prelude.{Result}
use Rattle.std.specs.declared.option.Option.{Option}
use Rattle.std.specs.List.{All}
use Rattle.std.proofs.lemmas.List.{append-nil, append_assoc, map-append}
use mathlib.Core.List.{reverse-cons}
use Rattle.std.proofs.lemmas.List.Elements.{All-cons, All-nil}
use Rattle.bl_outside.specs.declared.journal_fault.JournalFault.{JournalFault}
use Rattle.bl_outside.specs.declared.journal_fault.JournalFault.TheVariants.{StoreFault, NotAJournal, NoMemory}
use Rattle.bl_journal.specs.Frames.{Found, prefixed}
use Rattle.bl_journal.specs.Journals.{NextIs, Stands}
use Rattle.bl_entry.specs.declared.entry.Entry.{Entry}
use Rattle.bl_entry.specs.Encoding.{entry_bytes}
use Rattle.bl_entry.specs.Valid.{IsEntry}
use Rattle.bl_world.specs.Worlds.{World, empty_world}
use Rattle.bl_engine.specs.Images.{bodies_of}
use Rattle.bl_engine.specs.Openings.{AreJudged, IsUnfit, Leads, ReplayIs, Replays}
use Rattle.bl_engine.specs.Troubles.{trouble_from}

pub bodies_more : (entry : Entry) (entries : List Entry) → bodies_of (entry ∷ entries) ≡ bodies_of entries ++ entry_bytes entry ∷ []
bodies_more entry entries = ap (λ l. map entry_bytes l) (reverse-cons entry entries) ∙ map-append entry_bytes (reverse entries) (entry ∷ [])

pub starts : (all : Found) (seen : Option (List ℕ)) (place : ℕ) → place ≡ 15 → Stands seen 15 [] all → Replays all seen place empty_world
starts all seen place here stands = record {
  entries = [];
  more = all;
  valid = All-nil IsEntry;
  stands = subst (λ p. Stands seen p [] all) (sym here) stands;
  whole = refl;
  leads = refl;
  judges = λ found h. subst (λ p. AreJudged p empty_world all.0 all.1 found) here h;
}

module _ (all : Found) (old new : Option (List ℕ)) (place to : ℕ) (world : World) (r : Replays all old place world) where
  pub goes_on : (next : World) (body : List ℕ) → NextIs new to (bodies_of r.entries) r.more (Ok (Some body)) → to ≡ place + 5 + length body → Leads world body next → Replays all new to next
  goes_on next body found moved leads =
      let same : bodies_of (leads.0 ∷ r.entries) ≡ bodies_of r.entries ++ body ∷ [] = bodies_more leads.0 r.entries ∙ ap (λ b. bodies_of r.entries ++ b ∷ []) (sym leads.2) in
      record {
        entries = leads.0 ∷ r.entries;
        more = found.0;
        valid = All-cons IsEntry leads.0 r.entries leads.1 r.valid;
        stands = subst (λ l. Stands new to l found.0) (sym same) found.2;
        whole = r.whole ∙ ap (λ m. prefixed (bodies_of r.entries) m) found.1 ∙ ap (λ l. (l, found.0.1)) (sym (append_assoc (bodies_of r.entries) (body ∷ []) found.0.0)) ∙ ap (λ l. prefixed l found.0) (sym same);
        leads = (world, r.leads, leads.3);
        judges = λ result h. r.judges result (subst (λ (m : Found). AreJudged place world m.0 m.1 result) (sym found.1) (inl (next, leads, subst (λ p. AreJudged p next found.0.0 found.0.1 result) moved h)));
      }

  pub ends : NextIs new to (bodies_of r.entries) r.more (Ok None) → ReplayIs all new to (Ok world)
  ends found = (
    r.entries,
    r.valid,
    subst (λ m. Stands new to (bodies_of r.entries) m) found.0 found.1,
    r.leads,
    r.whole ∙ ap (λ m. prefixed (bodies_of r.entries) m) found.0 ∙ ap (λ (l : List (List ℕ)). (l, None)) (append-nil (bodies_of r.entries)),
    r.judges (Ok world) (subst (λ (m : Found). AreJudged place world m.0 m.1 (Ok world)) (sym found.0) refl),
  )

  pub breaks : (fault : JournalFault) → NextIs new to (bodies_of r.entries) r.more (Err fault) → ReplayIs all new to (Err (trouble_from fault))
  breaks StoreFault found = tt
  breaks (NotAJournal at) found = r.judges (Err at) (subst (λ (m : Found). AreJudged place world m.0 m.1 (Err at)) (sym found.0) refl)
  breaks NoMemory found = tt

  pub refuses : (body : List ℕ) → NextIs new to (bodies_of r.entries) r.more (Ok (Some body)) → IsUnfit world body → AreJudged 15 empty_world all.0 all.1 (Err place)
  refuses body found unfit = r.judges (Err place) (subst (λ (m : Found). AreJudged place world m.0 m.1 (Err place)) (sym found.1) (inr (unfit, refl)))
