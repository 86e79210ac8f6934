-- What a request asks for.
use Rattle.std.specs.Prelude.{◌≡◌, ◌≤◌, IfSome, ℕ, Bool, true, false, if◌then◌else◌, codes, None, Some, List, Result, Ok, Err}
use Rattle.std.specs.declared.option.Option.{Option}
use Rattle.bl_files.specs.declared.load_request.LoadRequest.{LoadRequest}
use Rattle.bl_entry.specs.Valid.{IsRequest}
use Rattle.bl_stream.specs.declared.page_ask.PageAsk.{PageAsk}
use Rattle.bl_http.specs.declared.request.Request.{Request}
use Rattle.bl_feed.specs.declared.body_refusal.BodyRefusal.{BodyRefusal}
use Rattle.bl_feed.specs.declared.body_refusal.BodyRefusal.TheVariants as body
use Rattle.bl_feed.specs.declared.stream_parameter.StreamParameter.{StreamParameter}
use Rattle.bl_feed.specs.LoadBodies.{Reads, id_in, needs}
use Rattle.bl_feed.specs.Parameters.{number_or, page_asked}
use Rattle.bl_session.specs.declared.ask.Ask.{Ask}
use Rattle.bl_session.specs.declared.ask.Ask.TheVariants.{Submit, Cancel, List as Listing, Show, Page}
use Rattle.bl_session.specs.declared.parameter.Parameter.TheVariants as parameter
use Rattle.bl_session.specs.declared.problem.Problem.{Problem}
use Rattle.bl_session.specs.declared.problem.Problem.TheVariants.{NoRoute, MethodNotAllowed, NotAnObject, BadMember, BadParameter}
use Rattle.bl_session.specs.declared.route.Route.{Route}
use Rattle.bl_session.specs.declared.route.Route.TheVariants.{Loads, Load, Stream}
use Rattle.bl_session.specs.declared.route.Verb.{Verb}
use Rattle.bl_session.specs.declared.route.Verb.TheVariants.{Get, Post, Delete}
use Rattle.bl_session.specs.Parameters.{truth_or, value_of}
use Rattle.bl_session.specs.Routes.{id_part, route_of, verb_of}

-- ---- what is asked for lies in its ranges

abbrev pub IsPageOfLogs : ℕ × ℕ → Type 0
IsPageOfLogs asked = (1 ≤ asked.0) × (1 ≤ asked.1)

abbrev pub IsAsk : Ask → Type 0
IsAsk (Submit load) = IsRequest load
IsAsk (Cancel id) = Unit {0}
IsAsk (Listing limit queued) = Unit {0}
IsAsk (Show id details errors) = IfSome errors IsPageOfLogs
IsAsk (Page ask) = (1 ≤ ask.limit) × (ask.limit ≤ 100000)

-- ---- what the parts of a request ask for

-- the page of logs that is asked for, where one is
abbrev pub errors_if : Bool → ℕ → ℕ → Option (ℕ × ℕ)
errors_if errors page count = if errors then Some (page, count) else None

abbrev pub errors_asked : List (List ℕ × List ℕ) → Result (Option (ℕ × ℕ)) Problem
errors_asked query =
    needs (BadParameter parameter.Errors) (truth_or false (value_of (codes "errors") query)) (λ errors.
    needs (BadParameter parameter.Page) (number_or 1 1 1000000 (value_of (codes "page") query)) (λ page.
    needs (BadParameter parameter.ErrorsPerPage) (number_or 10 1 10000 (value_of (codes "errorsPerPage") query)) (λ count.
    Ok (errors_if errors page count))))

abbrev pub show_with : ℕ → Bool → Result (Option (ℕ × ℕ)) Problem → Result Ask Problem
show_with id details (Ok errors) = Ok (Show id details errors)
show_with id details (Err problem) = Err problem

-- GET of one load
abbrev pub show_asked : List ℕ → List (List ℕ × List ℕ) → Result Ask Problem
show_asked id query =
    needs (BadParameter parameter.Details) (truth_or false (value_of (codes "details") query)) (λ details.
    show_with (id_in id) details (errors_asked query))

-- GET of the list of loads
abbrev pub list_asked : List (List ℕ × List ℕ) → Result Ask Problem
list_asked query =
    needs (BadParameter parameter.Limit) (number_or 100 1 100 (value_of (codes "limit") query)) (λ limit.
    needs (BadParameter parameter.IncludeQueuedLoads) (truth_or true (value_of (codes "includeQueuedLoads") query)) (λ queued.
    Ok (Listing limit queued)))

-- GET of loads is that of one load where an id is given.
abbrev pub loads_asked : Option (List ℕ) → List (List ℕ × List ℕ) → Result Ask Problem
loads_asked None query = list_asked query
loads_asked (Some id) query = show_asked id query

-- DELETE of loads, which needs an id
abbrev pub cancel_asked : Option (List ℕ) → Result Ask Problem
cancel_asked id = needs (BadParameter parameter.LoadId) id (λ id. Ok (Cancel (id_in id)))

abbrev pub page_or_problem : Result PageAsk StreamParameter → Result Ask Problem
page_or_problem (Ok ask) = Ok (Page ask)
page_or_problem (Err refused) = Err (BadParameter (parameter.Stream refused))

-- GET of the stream
abbrev pub stream_asked : List (List ℕ × List ℕ) → Result Ask Problem
stream_asked query =
    page_or_problem (page_asked (value_of (codes "limit") query) (value_of (codes "iteratorType") query) (value_of (codes "commitNum") query) (value_of (codes "opNum") query))

-- what a load body that is read so asks for
abbrev pub TellsLoad : Result LoadRequest BodyRefusal → Result Ask Problem → Type 0
TellsLoad (Ok load) asked = asked ≡ Ok (Submit load)
TellsLoad (Err body.NotAnObject) asked = asked ≡ Err NotAnObject
TellsLoad (Err (body.Member number)) asked = asked ≡ Err (BadMember number)
TellsLoad (Err body.NoMemory) asked = ⊥

-- POST of a load
abbrev pub AsksLoad : List ℕ → Result Ask Problem → Type 0
AsksLoad text asked = (read : Result LoadRequest BodyRefusal) × Reads text read × TellsLoad read asked

-- The method, where it is one that some route has, asks this of a route. The route hasn't the others.
abbrev pub AsksOf : Route → Option Verb → Request → Result Ask Problem → Type 0
AsksOf Loads (Some Get) request asked = asked ≡ loads_asked (value_of (codes "loadId") request.query) request.query
AsksOf Loads (Some Post) request asked = AsksLoad request.body asked
AsksOf Loads (Some Delete) request asked = asked ≡ cancel_asked (value_of (codes "loadId") request.query)
AsksOf Load (Some Get) request asked = asked ≡ show_asked (id_part request.path) request.query
AsksOf Load (Some Delete) request asked = asked ≡ Ok (Cancel (id_in (id_part request.path)))
AsksOf Stream (Some Get) request asked = asked ≡ stream_asked request.query
AsksOf route verb request asked = asked ≡ Err (MethodNotAllowed route)

abbrev pub AsksAt : Option Route → Request → Result Ask Problem → Type 0
AsksAt None request asked = asked ≡ Err NoRoute
AsksAt (Some route) request asked = AsksOf route (verb_of request.method) request asked

-- what a request asks for, or the first reason why it is refused
abbrev pub Asks : Request → Result Ask Problem → Type 0
Asks request asked = AsksAt (route_of request.path) request asked
