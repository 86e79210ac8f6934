-- What one call reads, put together of its steps.
use Rattle.std.proofs.Common.{Result, Ok, Err, IfOk, OnErr, ◌≡◌, ◌∙◌, ◌⊎◌, ◌+◌, ◌<◌, ◌≤◌, ℕ, Option, List, length, take, drop, inl, inr, refl, sym, ap, subst, arith}
use Rattle.std.proofs.lemmas.List.{drop-drop, length-drop}
use Rattle.httparse.specs.Grammar.{RequestHead, print_request}
use Rattle.bl_http.specs.Answers.{IsRefused}
use Rattle.bl_http.specs.Buffers.{BufferRecord, IsAtEnd, IsAtLimit, Moves}
use Rattle.bl_http.specs.Heads.{IsUnfinished, behind}
use Rattle.bl_http.specs.Parts.{IsParts, IsPartsOf}
use Rattle.bl_http.specs.Readings.{IsCutShort, ReadsOne}
use Rattle.bl_http.specs.Requests.{request_of}
use Rattle.bl_http.specs.declared.asked.Asked.{Asked}
use Rattle.bl_http.specs.declared.asked.Asked.TheVariants.{Got, Refused}
use Rattle.bl_http.specs.declared.head.HeadParts.{HeadParts}
use Rattle.bl_http.specs.declared.refusal.HeadRefusal.{HeadRefusal}
use Rattle.bl_http.specs.declared.refusal.HttpFault.{HttpFault}
use Rattle.bl_http.specs.declared.request.Request.{Request}
use Rattle.bl_http.proofs.AnswerLemmas.{head-fits}
use Rattle.bl_http.proofs.BufferLemmas.{moves_more}
use Rattle.bl_http.proofs.InputLemmas.{cut_answer}
use Rattle.bl_http.proofs.PartLemmas.{parts_more}

-- the parts of a head stay so while bytes come
pub parts_moved : (a b : Option (List ℕ)) (old new : BufferRecord) (parts : HeadParts) → IsParts old.bytes parts → Moves a b old new → IsParts new.bytes parts
parts_moved a b old new parts is moves =
    subst (λ (t : List ℕ). IsParts t parts) (sym moves.bytes) (parts_more old.bytes moves.more parts is)

-- the body isn't there, and no more is to come
pub read_short : (a b : Option (List ℕ)) (old new : BufferRecord) (parts : HeadParts) (asked : Asked) → IsParts old.bytes parts → Moves a b old new
    → length new.bytes < parts.size + parts.body → IsAtEnd b new ⊎ IsAtLimit new → IsCutShort new asked → ReadsOne a b old new asked
read_short a b old new parts asked is moves short ends cut =
    let (head, at) = parts_moved a b old new parts is moves in
    record {
      held = new;
      moves = moves;
      answer =
          cut_answer b new asked cut ends
          (inr record {
            head = head;
            size = parts.body;
            has = at.has;
            asks = at.body;
            short = omega (arith, short, at.size, head-fits new.bytes head at.has, length-drop (length (print_request head)) new.bytes);
          });
      taken = refl;
    }

-- the request is there
pub read_whole : (a b : Option (List ℕ)) (old held new : BufferRecord) (parts : HeadParts) (request : Request) → IsParts held.bytes parts → Moves a b old held
    → parts.size + parts.body ≤ length held.bytes
    → ((head : RequestHead) → IsPartsOf held.bytes parts head → request ≡ request_of head (take parts.body (drop parts.size held.bytes)))
    → new.bytes ≡ drop (parts.size + parts.body) held.bytes → new.taken ≡ held.taken → ReadsOne a b old new (Got request)
read_whole a b old held new parts request (head, at) moves whole made rest taken =
    let same : drop parts.size held.bytes ≡ behind head held.bytes = ap (λ n. drop n held.bytes) at.size in
    record {
      held = held;
      moves = moves;
      answer = record {
        head = head;
        size = parts.body;
        has = at.has;
        asks = at.body;
        whole = omega (arith, whole, at.size, length-drop (length (print_request head)) held.bytes);
        is = made head at ∙ ap (λ t. request_of head (take parts.body t)) same;
        rest_is = rest ∙ sym (drop-drop parts.body parts.size held.bytes) ∙ ap (λ t. drop parts.body t) same;
      };
      taken = taken;
    }

-- a head is refused
pub read_refused : (a b : Option (List ℕ)) (old new : BufferRecord) (refusal : HeadRefusal) → Moves a b old new → IsRefused new.bytes refusal → ReadsOne a b old new (Refused refusal)
read_refused a b old new refusal moves is = record { held = new; moves = moves; answer = (is, refl); taken = refl }

-- there is no head, and no more is to come
pub read_none : (a b : Option (List ℕ)) (old new : BufferRecord) (asked : Asked) → Moves a b old new → IsUnfinished new.bytes
    → IsAtEnd b new ⊎ IsAtLimit new → IsCutShort new asked → ReadsOne a b old new asked
read_none a b old new asked moves is ends cut = record { held = new; moves = moves; answer = cut_answer b new asked cut ends (inl is); taken = refl }

-- bytes that came before are held too
pub read_after : (a b c : Option (List ℕ)) (old held new : BufferRecord) (asked : Asked) → Moves a b old held → ReadsOne b c held new asked → ReadsOne a c old new asked
read_after a b c old held new asked moves reads = record {
  held = reads.held;
  moves = moves_more a b c old held reads.held moves reads.moves;
  answer = reads.answer;
  taken = reads.taken;
}

-- the same of an answer that may be a fault
pub reads_after : (a b c : Option (List ℕ)) (old held new : BufferRecord) (result : Result Asked HttpFault) → Moves a b old held
    → IfOk result (ReadsOne b c held new) → IfOk result (ReadsOne a c old new)
reads_after a b c old held new (Ok asked) moves reads = read_after a b c old held new asked moves reads
reads_after a b c old held new (Err fault) moves reads = tt

pub stays_after : (a b c : Option (List ℕ)) (old held new : BufferRecord) (result : Result Asked HttpFault) → Moves a b old held
    → OnErr result (Moves b c held new) → OnErr result (Moves a c old new)
stays_after a b c old held new (Ok asked) moves stays = tt
stays_after a b c old held new (Err fault) moves stays = moves_more a b c old held new moves stays
