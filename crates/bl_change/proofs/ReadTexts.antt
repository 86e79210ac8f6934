-- What reading a text gives, from what is found in its value.
use Rattle.std.proofs.Common.{◌≡◌, ◌∙◌, ℕ, List, Some, sym, ap, subst}
use Rattle.std.specs.Prelude.{Result, Ok, Err}
use Rattle.std.specs.Result.{IsErrAnd}
use Rattle.std.specs.Str.{IsUtf8}
use Rattle.std.proofs.lemmas.Result.{err_from_is_err_and}
use Rattle.serde_json.specs.Data.{Data}
use Rattle.serde_json.specs.Read.{read}
use Rattle.bl_change.specs.EventText.{event_data, event_text}
use Rattle.bl_change.specs.EventTexts.{IsEvent, Reads}
use Rattle.bl_change.specs.Found.{Finds}
use Rattle.bl_change.specs.declared.event.Event.{Event}
use Rattle.bl_change.specs.declared.refusal.EventRefusal.{EventRefusal}
use Rattle.bl_change.specs.declared.refusal.EventRefusal.TheVariants.{NotJson, NotAnEvent, NoMemory}
use Rattle.bl_change.proofs.EventsPrinted.{event_read}
use Rattle.bl_change.proofs.Finding.{one_data}

-- the value of an event's text is the event's
value_of_text : (text : List ℕ) (value : Data) (event : Event) → read text ≡ Some value → IsEvent event → text ≡ event_text event → value ≡ event_data event
value_of_text text value event is valid same = one_data (read text) value (event_data event) is (ap read same ∙ (event_read event valid).1)

refused : (text : List ℕ) (value : Data) (refusal : EventRefusal) → IsUtf8 text → read text ≡ Some value →
    Finds (λ event. IsEvent event × (value ≡ event_data event)) (Err refusal) → Reads text (Err refusal)
refused text value NotJson utf8 is not = absurd not
refused text value NotAnEvent utf8 is not = (record { utf8 = utf8; value = (value, is) }, λ event valid same. not event (valid, value_of_text text value event is valid same))
refused text value NoMemory utf8 is not = tt

-- where no event is found in the value, none has the text
pub none_found : (text : List ℕ) (value : Data) (result : Result Event EventRefusal) (refusal : EventRefusal) → IsErrAnd result (λ given. given ≡ refusal) → IsUtf8 text → read text ≡ Some value →
    Finds (λ event. IsEvent event × (value ≡ event_data event)) (Err refusal) → Reads text result
none_found text value result refusal given utf8 is not =
    let exit = err_from_is_err_and result given in
    subst (Reads text) (sym exit.1) (subst (λ other. Reads text (Err other)) (sym exit.2) (refused text value refusal utf8 is not))

-- where the one that is found has another text, none has this one
pub other_found : (text : List ℕ) (value : Data) (event : Event) → IsUtf8 text → read text ≡ Some value → Finds (λ event. IsEvent event × (value ≡ event_data event)) (Ok event) →
    (text ≡ event_text event → ⊥) → Reads text (Err NotAnEvent)
other_found text value event utf8 is finds differ = (
  record { utf8 = utf8; value = (value, is) },
  λ other valid same.
      let found = finds other (valid, value_of_text text value other is valid same) in
      differ (same ∙ ap event_text (sym found)),
)
