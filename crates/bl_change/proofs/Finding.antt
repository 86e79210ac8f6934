-- Searches that are made of other searches.
use Rattle.std.proofs.Common.{◌≡◌, ℕ, codes, List, Option, Some, refl, sym, subst}
use Rattle.std.specs.Prelude.{Result, Ok, Err}
use Rattle.std.specs.Result.{IsErrAnd}
use Rattle.std.proofs.lemmas.Result.{err_from_is_err_and}
use Rattle.serde_json.specs.Data.{Data, string}
use Rattle.serde_json.specs.Find.{get}
use Rattle.bl_value.specs.declared.change.Change.{Change}
use Rattle.bl_value.specs.declared.change.Change.TheVariants.{AddLabel, AddEdge, AddValue, RemoveValue}
use Rattle.bl_change.specs.EventText.{change_data}
use Rattle.bl_change.specs.Found.{Finds, record_type}
use Rattle.bl_change.specs.declared.refusal.EventRefusal.{EventRefusal}
use Rattle.bl_change.specs.declared.refusal.EventRefusal.TheVariants.{NotJson, NotAnEvent, NoMemory}

-- where a whole has a part that was not found, there is no such whole
none_without : {Part Whole : Type 0} (IsPart : Part → Type 0) (IsWhole : Whole → Type 0) → ((whole : Whole) → IsWhole whole → (part : Part) × IsPart part) → (refusal : EventRefusal) →
    Finds IsPart (Err refusal) → Finds IsWhole (Err refusal)
none_without IsPart IsWhole part_of NotJson not = not
none_without IsPart IsWhole part_of NotAnEvent not = λ whole is. let part = part_of whole is in not part.0 part.1
none_without IsPart IsWhole part_of NoMemory not = tt

-- the same of a refusal that is handed on
pub handed_on : {Part Whole : Type 0} (IsPart : Part → Type 0) (IsWhole : Whole → Type 0) (result : Result Whole EventRefusal) (refusal : EventRefusal) →
    IsErrAnd result (λ given. given ≡ refusal) → ((whole : Whole) → IsWhole whole → (part : Part) × IsPart part) →
    Finds IsPart (Err refusal) → Finds IsWhole result
handed_on IsPart IsWhole result refusal given part_of not =
    let is = err_from_is_err_and result given in
    subst (λ answer. Finds IsWhole answer) (sym is.1) (subst (λ other. Finds IsWhole (Err other)) (sym is.2) (none_without IsPart IsWhole part_of refusal not))

-- a search for more than there is to be found is one for that
pub narrowed : {Thing : Type 0} (Is Found : Thing → Type 0) → ((thing : Thing) → Is thing → Found thing) → (result : Result Thing EventRefusal) → Finds Found result → Finds Is result
narrowed Is Found is_found (Ok thing) finds = λ other is. finds other (is_found other is)
narrowed Is Found is_found (Err NotJson) finds = finds
narrowed Is Found is_found (Err NotAnEvent) finds = λ other is. finds other (is_found other is)
narrowed Is Found is_found (Err NoMemory) finds = tt

-- one place has one value, and one text
pub one_data : (found : Option Data) (a b : Data) → found ≡ Some a → found ≡ Some b → a ≡ b
one_data found a b first second = cc

pub one_text : (found : Option Data) (a b : List ℕ) → found ≡ Some (string a) → found ≡ Some (string b) → a ≡ b
one_text found a b first second = cc

-- where a record has its type
pub type_there : (change : Change) → get (codes "type") (change_data change) ≡ Some (string (record_type change))
type_there (AddLabel id label) = refl
type_there (AddEdge id label from to) = refl
type_there (AddValue side id key value) = refl
type_there (RemoveValue side id key value) = refl
