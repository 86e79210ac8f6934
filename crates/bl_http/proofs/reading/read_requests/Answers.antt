use Rattle.std.proofs.Common.{List, sym, subst, arith}
use Rattle.bl_http.specs.Buffers.{BufferRecord, IsWithin, empty_buffer}
use Rattle.bl_http.specs.Inputs.{IsInput, input}
use Rattle.bl_http.specs.Readings.{ReadsOne}
use Rattle.bl_http.specs.declared.asked.Ending.TheVariants as ending
use Rattle.bl_http.specs.declared.asked.Asked.{Asked}
use Rattle.bl_http.specs.declared.request.Request.{Request}
use Rattle.bl_http.proofs.InputLemmas.{Reading, empty_within, reading_starts, reading_goes_on, reading_closes, reading_ends, request_uses}
use Rattle.bl_http.proofs.reading.read_requests.Goals as goal

pub loop-requests-init : goal.loop-requests-init
loop-requests-init g c =
    let start = g.S.Source.left c.args.source.now in
    record {
      reading =
          subst (λ (b : BufferRecord). Reading start start b c.new-requests.result) (sym c.new-buffer.ensures)
          (subst (λ (r : List Request). Reading start start empty_buffer r) (sym c.new-requests.ensures) (reading_starts start));
      within = subst (λ (b : BufferRecord). IsWithin b) (sym c.new-buffer.ensures) empty_within;
      later = omega arith;
    }

pub loop-requests-preserved : goal.loop-requests-preserved
loop-requests-preserved g c =
    let start = g.S.Source.left c.args.source.now in
    let before = g.S.Source.left c.loop-requests.source in
    let now = g.S.Source.left c.read_request.new.source in
    let got =
    subst (λ (a : Asked). ReadsOne before now c.loop-requests.buffer c.read_request.new.buffer a) c.in-Ok.ensures c.in_ok-asked.ensures.reads in
    record {
      reading =
          subst (λ (r : List Request). Reading start now c.read_request.new.buffer r) (sym c.in_ok-push.ensures.ok)
          (reading_goes_on start before now c.loop-requests.buffer c.read_request.new.buffer c.loop-requests.requests c.in-Ok.request
          c.loop-requests.invariant.reading got c.read_request.ensures.within.limit c.if-close.false);
      within = c.read_request.ensures.within;
      later = omega (arith, c.loop-requests.invariant.later, c.read_request.ensures.later);
    }

pub loop-requests-smaller : goal.loop-requests-smaller
loop-requests-smaller g c =
    let before = g.S.Source.left c.loop-requests.source in
    let now = g.S.Source.left c.read_request.new.source in
    let got =
    subst (λ (a : Asked). ReadsOne before now c.loop-requests.buffer c.read_request.new.buffer a) c.in-Ok.ensures c.in_ok-asked.ensures.reads in
    omega (
      arith,
      request_uses before now c.loop-requests.buffer c.read_request.new.buffer c.in-Ok.request got,
      c.read_request.ensures.within.held,
      c.read_request.ensures.within.limit,
      c.loop-requests.invariant.within.held,
      c.loop-requests.invariant.within.limit,
    )

pub returns-in-Err-clause-requests : goal.returns-in-Err-clause-requests
returns-in-Err-clause-requests g c =
    reading_ends (g.S.Source.left c.args.source.now) (g.S.Source.left c.loop-requests.source) (g.S.Source.left c.read_request.new.source)
    c.loop-requests.buffer c.read_request.new.buffer c.loop-requests.requests c.in_ok-asked.asked c.in-Err.ending
    c.loop-requests.invariant.reading c.in_ok-asked.ensures.reads c.read_request.ensures.within.limit c.in-Err.ensures

pub returns-then-close-clause-requests : goal.returns-then-close-clause-requests
returns-then-close-clause-requests g c =
    let start = g.S.Source.left c.args.source.now in
    let before = g.S.Source.left c.loop-requests.source in
    let now = g.S.Source.left c.read_request.new.source in
    let got =
    subst (λ (a : Asked). ReadsOne before now c.loop-requests.buffer c.read_request.new.buffer a) c.in-Ok.ensures c.in_ok-asked.ensures.reads in
    λ bytes is.
    subst (λ (r : List Request). IsInput (input bytes) r ending.Closed) (sym c.in_ok-push.ensures.ok)
    (reading_closes start before now c.loop-requests.buffer c.read_request.new.buffer c.loop-requests.requests c.in-Ok.request
    c.loop-requests.invariant.reading got c.read_request.ensures.within.limit c.if-close.true bytes is)
