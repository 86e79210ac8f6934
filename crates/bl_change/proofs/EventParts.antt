-- Where an event's record has its parts.
use Rattle.std.proofs.Common.{◌≡◌, ℕ, codes, Bool, true, false, List, Option, Some, None, refl, ap}
use Rattle.std.specs.Prelude.{is_some, option_map}
use Rattle.serde_json.specs.Data.{Data, string}
use Rattle.serde_json.specs.Find.{get}
use Rattle.bl_value.specs.declared.change.Change.{Change}
use Rattle.bl_change.specs.EventText.{change_data, event_data, op_name, place_data, record_data}
use Rattle.bl_change.specs.declared.event.Event.{Event}

op_in : (moment : ℕ) (change place : Data) (last : Bool) (op : List ℕ) → get (codes "op") (record_data moment change place last op) ≡ Some (string op)
op_in moment change place true op = refl
op_in moment change place false op = refl

pub op_there : (event : Event) → get (codes "op") (event_data event) ≡ Some (string (op_name event.change))
op_there event = op_in event.moment (change_data event.change) (place_data event.commit event.op) event.last (op_name event.change)

last_in : (moment : ℕ) (change place : Data) (last : Bool) (op : List ℕ) → is_some (get (codes "isLastOp") (record_data moment change place last op)) ≡ last
last_in moment change place true op = refl
last_in moment change place false op = refl

pub last_there : (event : Event) → is_some (get (codes "isLastOp") (event_data event)) ≡ event.last
last_there event = last_in event.moment (change_data event.change) (place_data event.commit event.op) event.last (op_name event.change)

-- what is made of something is there where that is
pub there_is : {A B : Type 0} (f : A → B) (found : Option A) (made : Option B) → option_map f found ≡ made → is_some found ≡ is_some made
there_is f None made is = ap is_some is
there_is f (Some a) made is = ap is_some is

-- an event is its parts
pub event_is : (event : Event) (commit op moment : ℕ) (last : Bool) (change : Change) → commit ≡ event.commit → op ≡ event.op → moment ≡ event.moment → last ≡ event.last → change ≡ event.change →
    record { commit = commit; op = op; moment = moment; last = last; change = change } ≡ event
event_is event commit op moment last change commit_is op_is moment_is last_is change_is = rw (commit_is, op_is, moment_is, last_is, change_is) refl
