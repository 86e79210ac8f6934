-- The text of a page, piece by piece.
use Rattle.std.proofs.Common.{◌≡◌, ◌∙◌, ℕ, ◌+◌, ◌-◌, ◌<◌, Bool, true, false, List, ◌∷◌, ◌++◌, Option, Some, codes, decimal, length, get_or, map, drop, ap, sym, append_assoc}
use Rattle.std.specs.Prelude.{slice_get}
use Rattle.std.proofs.lemmas.List.{drop_more}
use Rattle.std.proofs.lemmas.Option.{slice_get-get_or}
use Rattle.json.specs.Print.{escape_byte}
use Rattle.serde_json.specs.Data.{number, unsigned, string, array, object, Items, no_members, member}
use Rattle.serde_json.specs.View.{items_of}
use Rattle.serde_json.specs.Written.{comma_if, compact_text, items_text}
use Rattle.bl_change.specs.EventText.{event_data, event_text, place_data}
use Rattle.bl_change.specs.declared.event.Event.{Event}
use Rattle.bl_feed.specs.Bodies.{moment_of, page_text, place_of, records_data}
use Rattle.bl_feed.specs.PagePieces.{page_end, page_front}

regroup : (a commit b op c d moment e records f count g : List ℕ) →
    a ++ ((commit ++ (b ++ (op ++ c))) ++ (d ++ (moment ++ (e ++ (records ++ (f ++ (count ++ g))))))) ≡ ((a ++ commit ++ b ++ op ++ (c ++ d) ++ moment ++ e) ++ records) ++ (f ++ count ++ g)
regroup a commit b op c d moment e records f count g = simp append_assoc

regroup_front : (a commit b op c moment d : List ℕ) → a ++ (commit ++ (b ++ (op ++ (c ++ (moment ++ d))))) ≡ a ++ commit ++ b ++ op ++ c ++ moment ++ d
regroup_front a commit b op c moment d = simp append_assoc

pub front_pieces : (commit op moment : ℕ) →
    codes "{\"format\":\"PG_JSON\",\"lastEventId\":{\"commitNum\":" ++ (decimal commit ++ (codes ",\"opNum\":" ++ (decimal op ++ (codes "},\"lastTrxTimestamp\":" ++ (decimal moment ++ codes ",\"records\":[")))))
    ≡ page_front commit op moment
front_pieces commit op moment =
    regroup_front (codes "{\"format\":\"PG_JSON\",\"lastEventId\":{\"commitNum\":") (decimal commit) (codes ",\"opNum\":") (decimal op) (codes "},\"lastTrxTimestamp\":") (decimal moment) (codes ",\"records\":[")

page_pieces : (commit op moment count : ℕ) (records : Items) →
    compact_text
    (object (member (codes "format") (string (codes "PG_JSON")) (member (codes "lastEventId") (place_data commit op)
    (member (codes "lastTrxTimestamp") (number (unsigned moment)) (member (codes "records") (array records) (member (codes "totalRecords") (number (unsigned count)) no_members))))))
    ≡ (page_front commit op moment ++ items_text false records) ++ page_end count
unfolding escape_byte
page_pieces commit op moment count records =
    regroup (codes "{\"format\":\"PG_JSON\",\"lastEventId\":{\"commitNum\":") (decimal commit) (codes ",\"opNum\":") (decimal op) (codes "}") (codes ",\"lastTrxTimestamp\":") (decimal moment) (codes ",\"records\":[") (items_text false records) (codes ",\"totalRecords\":") (decimal count) (codes "}")

-- one more item
item_more : (text comma printed rest : List ℕ) → ((text ++ comma) ++ printed) ++ rest ≡ text ++ (comma ++ (printed ++ rest))
item_more text comma printed rest = append_assoc (text ++ comma) printed rest ∙ append_assoc text comma (printed ++ rest)

pub records_more : (events : List Event) (i : ℕ) (event : Event) (later : Bool) (text spaced printed new : List ℕ) → i < length events → event ≡ get_or events i event → spaced ≡ text ++ comma_if later → printed ≡ event_text event → new ≡ spaced ++ printed →
    new ++ items_text true (items_of (map event_data (drop (i + 1) events))) ≡ text ++ items_text later (items_of (map event_data (drop i events)))
records_more events i event later text spaced printed new within is is_spaced is_printed is_new =
    let rest = items_text true (items_of (map event_data (drop (i + 1) events))) in
    ap (λ l. l ++ rest) (is_new ∙ ap (λ l. l ++ printed) is_spaced ∙ ap (λ l. (text ++ comma_if later) ++ l) is_printed)
    ∙ item_more text (comma_if later) (event_text event) rest
    ∙ ap (λ (l : List Event). text ++ items_text later (items_of (map event_data l))) (sym (drop_more events i event within ∙ ap (λ (e : Event). e ∷ drop (i + 1) events) (sym is)))

-- the whole page
pub page_made : (events : List Event) (last : Event) (front records all : List ℕ) → length events - 1 < length events → last ≡ get_or events (length events - 1) last →
    front ≡ page_front last.commit last.op last.moment → records ≡ front ++ items_text false (items_of (map event_data events)) → all ≡ records ++ page_end (length events) → all ≡ page_text events
page_made events last front records all some is is_front is_records is_all =
    let listed = items_text false (items_of (map event_data events)) in
    let found : Some last ≡ slice_get events (length events - 1) = ap Some is ∙ sym (slice_get-get_or events (length events - 1) last some) in
    is_all ∙ ap (λ l. l ++ page_end (length events)) (is_records ∙ ap (λ l. l ++ listed) is_front)
    ∙ sym (page_pieces last.commit last.op last.moment (length events) (items_of (map event_data events)))
    ∙ ap (λ (o : Option Event). compact_text
    (object (member (codes "format") (string (codes "PG_JSON")) (member (codes "lastEventId") (place_of o) (member (codes "lastTrxTimestamp") (number (unsigned (moment_of o)))
    (member (codes "records") (records_data events) (member (codes "totalRecords") (number (unsigned (length events))) no_members))))))) found
