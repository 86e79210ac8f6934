use Rattle.std.proofs.Common.{◌≡◌, ◌∙◌, ℕ, List, Ok, take, drop, ap, subst}
use Rattle.httparse.specs.Grammar.{RequestHead}
use Rattle.bl_http.specs.Buffers.{BufferRecord}
use Rattle.bl_http.specs.Parts.{IsPartsOf}
use Rattle.bl_http.specs.Requests.{request_of}
use Rattle.bl_http.proofs.ReadingLemmas.{parts_moved, read_whole}
use Rattle.bl_http.proofs.reading.read_body.Goals as goal

pub returns-clause-reads : goal.returns-clause-reads
returns-clause-reads g c =
    let held = c.fill_to.new.buffer in
    let parts = c.args.parts in
    let request = c.in_ok-request.request in
    let made =
    subst (λ (t : List ℕ). (head : RequestHead) → IsPartsOf t parts head → request ≡ request_of head (take parts.body (drop parts.size t)))
    c.as_slice.ensures.bytes c.in_ok-request.ensures in
    read_whole _ _ c.args.buffer.now held c.consume.new.self parts request
    (parts_moved _ _ c.args.buffer.now held parts c.requires c.fill_to.ensures.moves)
    c.fill_to.ensures.moves
    (c.fill_to.ensures.enough (c.in_ok-fill_to.was ∙ ap Ok c.if-not-branch.false))
    made
    (ap (λ (b : BufferRecord). b.bytes) c.consume.ensures.used)
    (ap (λ (b : BufferRecord). b.taken) c.consume.ensures.used)
