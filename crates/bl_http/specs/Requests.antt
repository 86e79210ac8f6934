-- What a head and a body ask.
use Rattle.std.specs.Prelude.{ℕ, List}
use Rattle.httparse.specs.Grammar.{RequestHead}
use Rattle.bl_http.specs.Fields.{closes, fields_of}
use Rattle.bl_http.specs.Targets.{parameters, path_of, query_of}
use Rattle.bl_http.specs.declared.request.Request.{Request}

-- the request that a head and a body make
abbrev pub request_of : RequestHead → List ℕ → Request
request_of head body = record {
  method = head.method;
  path = path_of head.target;
  query = parameters (query_of head.target);
  body = body;
  close = closes head.minor (fields_of head);
}
