-- The body of a request for a load (Neptune User Guide, "Loader command").
use Rattle.std.specs.Prelude.{◌≡◌, ℕ, ◌<◌, ◌^◌, nat_eq, nat_lt, Bool, true, false, IsSome, if◌then◌else◌, codes, map, option_and_then, unwrap_or, None, Some, List, [], ◌∷◌, length, Result, Ok, Err}
use Rattle.std.specs.declared.option.Option.{Option}
use Rattle.std.specs.Char.{to_ascii_lowercase}
use Rattle.std.specs.Cmp.Lexicographic.{pointwise}
use Rattle.std.specs.Str.{IsUtf8}
use Rattle.serde_json.specs.Data.{Data, Items, no_items, item}
use Rattle.serde_json.specs.Find.{as_array, as_bool, as_object, as_str, get}
use Rattle.serde_json.specs.Read.{read}
use Rattle.bl_feed.specs.Bodies.{id_of}
use Rattle.bl_files.specs.Sources.{kept_source}
use Rattle.bl_files.specs.declared.load_request.LoadRequest.{LoadRequest}
use Rattle.bl_files.specs.declared.mode.Mode.{Mode}
use Rattle.bl_files.specs.declared.mode.Mode.TheVariants.{New, Resume, Auto}
use Rattle.bl_feed.specs.declared.body_refusal.BodyRefusal.{BodyRefusal}
use Rattle.bl_feed.specs.declared.body_refusal.BodyRefusal.TheVariants.{NotAnObject, Member, NoMemory}

abbrev pub is : List ℕ → List ℕ → Bool
is text word = pointwise nat_eq text word

-- a truth value as a text, in any letter case
abbrev pub truth_in : List ℕ → Option Bool
truth_in text =
    if is (map to_ascii_lowercase text) (codes "true") then Some true else if is (map to_ascii_lowercase text) (codes "false") then Some false else None

abbrev pub first_of : {A : Type 0} → Option A → Option A → Option A
first_of (Some a) other = Some a
first_of None other = other

abbrev pub truth_of : Data → Option Bool
truth_of value = first_of (as_bool value) (option_and_then truth_in (as_str value))

abbrev pub mode_in : List ℕ → Option Mode
mode_in text = if is text (codes "NEW") then Some New else if is text (codes "RESUME") then Some Resume else if is text (codes "AUTO") then Some Auto else None

abbrev pub parallelism_in : List ℕ → Option ℕ
parallelism_in text =
    if is text (codes "LOW") then Some 0 else if is text (codes "MEDIUM") then Some 1 else if is text (codes "HIGH") then Some 2 else if is text (codes "OVERSUBSCRIBE") then Some 3 else None

abbrev pub format_in : List ℕ → Option ℕ
format_in text = if is text (codes "csv") then Some 0 else None

-- A text that is no identifier of RFC 9562 is kept as the id 0, which no load has.
abbrev pub id_in : List ℕ → ℕ
id_in text = unwrap_or (id_of text) 0

abbrev pub with_id : Option (List ℕ) → Option (List ℕ) → Option (List ℕ)
with_id (Some text) (Some ids) = Some (id_in text ∷ ids)
with_id (Some text) None = None
with_id None ids = None

-- the ids of texts, where all items are texts
abbrev pub ids_in : Items → Option (List ℕ)
ids_in no_items = Some []
ids_in (item value more) = with_id (as_str value) (ids_in more)

abbrev pub few : List ℕ → Option (List ℕ)
few ids = if nat_lt (length ids) (2 ^ 32) then Some ids else None

abbrev pub dependencies_of : Data → Option (List ℕ)
dependencies_of value = option_and_then few (option_and_then ids_in (as_array value))

-- a text of this form
abbrev pub text_of : {A : Type 0} → (List ℕ → Option A) → Data → Option A
text_of form value = option_and_then form (as_str value)

-- a member of this form, or the default where it is absent
abbrev pub given_or : {A : Type 0} → A → (Data → Option A) → Option Data → Option A
given_or default form None = Some default
given_or default form (Some value) = form value

-- What has this name is refused, or goes on to the others.
abbrev pub needs : {A B E : Type 0} → E → Option A → (A → Result B E) → Result B E
needs name None others = Err name
needs name (Some value) others = others value

-- the request, or the number of the first member that is refused
abbrev pub request_in : Data → Result LoadRequest ℕ
request_in body =
    needs 1 (option_and_then (text_of kept_source) (get (codes "source") body)) (λ source.
    needs 2 (option_and_then (text_of format_in) (get (codes "format") body)) (λ format.
    needs 3 (given_or Auto (text_of mode_in) (get (codes "mode") body)) (λ mode.
    needs 4 (given_or true truth_of (get (codes "failOnError") body)) (λ fail_on_error.
    needs 5 (given_or 2 (text_of parallelism_in) (get (codes "parallelism") body)) (λ parallelism.
    needs 6 (given_or false truth_of (get (codes "updateSingleCardinalityProperties") body)) (λ update_single.
    needs 7 (given_or false truth_of (get (codes "queueRequest") body)) (λ queue.
    needs 8 (given_or [] dependencies_of (get (codes "dependencies") body)) (λ dependencies.
    Ok (record {
      source = source;
      format = format;
      mode = mode;
      fail_on_error = fail_on_error;
      update_single = update_single;
      parallelism = parallelism;
      queue = queue;
      dependencies = dependencies;
    })))))))))

-- A text is this JSON object (RFC 8259), of at most 127 levels.
pub record IsBody (text : List ℕ) (body : Data) : Type 0 where
  pub utf8 : IsUtf8 text
  pub value : read text ≡ Some body
  pub object : IsSome (as_object body)

-- what is read of a body, or why it is refused
abbrev pub Reads : List ℕ → Result LoadRequest BodyRefusal → Type 0
Reads text (Ok request) = (body : Data) × IsBody text body × (request_in body ≡ Ok request)
Reads text (Err NotAnObject) = (body : Data) → IsBody text body → ⊥
Reads text (Err (Member number)) = (body : Data) × IsBody text body × (request_in body ≡ Err number)
Reads text (Err NoMemory) = Unit {0}

-- For private clauses.
abbrev pub ReadsOf : Data → Result LoadRequest BodyRefusal → Type 0
ReadsOf body (Ok request) = request_in body ≡ Ok request
ReadsOf body (Err NotAnObject) = ⊥
ReadsOf body (Err (Member number)) = request_in body ≡ Err number
ReadsOf body (Err NoMemory) = Unit {0}

abbrev pub IsNoBody : List ℕ → BodyRefusal → Type 0
IsNoBody text NotAnObject = (body : Data) → IsBody text body → ⊥
IsNoBody text (Member number) = ⊥
IsNoBody text NoMemory = Unit {0}
