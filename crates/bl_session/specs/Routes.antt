-- The paths that requests have, and their methods (Neptune User Guide, "Loader command", "Neptune Streams API").
use Rattle.std.specs.Prelude.{◌<◌, ℕ, All, ◌&&◌, ◌==◌, nat_eq, nat_lt, not, Bool, true, false, if◌then◌else◌, None, Some, List, codes, drop, length}
use Rattle.std.specs.declared.option.Option.{Option}
use Rattle.std.specs.List.{list_any, starts_with}
use Rattle.std.specs.Str.{is_utf8}
use Rattle.bl_feed.specs.LoadBodies.{is}
use Rattle.bl_session.specs.declared.route.Route.{Route}
use Rattle.bl_session.specs.declared.route.Route.TheVariants.{Loads, Load, Stream}
use Rattle.bl_session.specs.declared.route.Verb.{Verb}
use Rattle.bl_session.specs.declared.route.Verb.TheVariants.{Get, Post, Delete}

-- one part of a path: it isn't empty and has no slash
abbrev pub is_part : List ℕ → Bool
is_part text = nat_lt 0 (length text) && not (list_any (λ byte. byte == 47) text)

-- what stands behind `/loader/`
abbrev pub id_part : List ℕ → List ℕ
id_part path = drop 8 path

-- the path of one load: `/loader/` and one part
abbrev pub is_load : List ℕ → Bool
is_load path = starts_with nat_eq path (codes "/loader/") && is_part (id_part path)

-- The route of a path, which is UTF-8.
abbrev pub text_route : List ℕ → Option Route
text_route path =
    if is path (codes "/loader") then Some Loads
    else if is path (codes "/propertygraph/stream") then Some Stream
    else if is path (codes "/pg/stream") then Some Stream
    else if is_load path then Some Load else None

-- A path that isn't UTF-8 has no route.
abbrev pub route_of : List ℕ → Option Route
route_of path = if is_utf8 path then text_route path else None

-- the method of a request, where a route may have it
abbrev pub verb_of : List ℕ → Option Verb
verb_of method =
    if is method (codes "GET") then Some Get
    else if is method (codes "POST") then Some Post
    else if is method (codes "DELETE") then Some Delete else None

-- the methods of a route
abbrev pub methods_of : Route → List ℕ
methods_of Loads = codes "GET, POST, DELETE"
methods_of Load = codes "GET, DELETE"
methods_of Stream = codes "GET"

-- For private clauses: a path of bytes.
abbrev pub AreBytes : List ℕ → Type 0
AreBytes path = All (λ byte. byte < 256) path
