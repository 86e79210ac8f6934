use Rattle.std.proofs.Common.{ap, Err}
use Rattle.httparse.specs.Grammar.{HasNoRequest, MayBecomeRequest}
use Rattle.bl_http.proofs.PartLemmas.{hopeless_front, many_large, on_partial, open_large}
use Rattle.bl_http.proofs.head.find_in.Goals as goal

pub returns-in-Ok-Partial-2 : goal.returns-in-Ok-Partial-2
returns-in-Ok-Partial-2 c =
    let front = c.args.front.now in
    let is = c.in-Ok-Partial.field-0-is in
    open_large front c.requires c.if-front-lt-HEAD_LIMIT.false
    (on_partial _ (HasNoRequest front) is c.in-Ok-Partial.ensures.partial)
    (on_partial _ (MayBecomeRequest front) is c.in-Ok-Partial.ensures.unfinished)

pub returns-in-TooManyHeaders : goal.returns-in-TooManyHeaders
returns-in-TooManyHeaders c =
    many_large c.args.front.now c.requires (c.in-Err.ensures.too_many (ap Err c.in-TooManyHeaders.is)) c.in-Err.ensures.no_room

pub returns-in_default : goal.returns-in_default
returns-in_default c = hopeless_front c.args.front.now c.requires (c.in-Err.ensures.invalid c.in_default.not-TooManyHeaders)
