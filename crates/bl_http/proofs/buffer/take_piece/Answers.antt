use Rattle.std.proofs.Common.{◌≡◌, ◌+◌, ◌-◌, ◌≤◌, length, take, drop, length-drop, arith}
use Rattle.std.proofs.lemmas.List.{length-take}
use Rattle.bl_http.proofs.BufferLemmas.{grows_by, written}
use Rattle.bl_http.proofs.buffer.take_piece.Goals as goal

pub returns-clause-grows : goal.returns-clause-grows
returns-clause-grows g c =
    let room = c.deref_mut.result.now in
    let fits : c.args.to + c.args.most ≤ length room = omega (arith, c.deref_mut.ensures.len, c.requires.inside) in
    let size : length (take (c.args.to + c.args.most - c.args.to) (drop c.args.to room)) ≡ c.args.most =
    omega (arith, fits, length-take (c.args.to + c.args.most - c.args.to) (drop c.args.to room), length-drop c.args.to room) in
    let kept : length c.take.new.room ≡ length (take (c.args.to + c.args.most - c.args.to) (drop c.args.to room)) = c.take.auto.room in
    grows_by _ _ c.take.result (take (c.args.to + c.args.most - c.args.to) (drop c.args.to room)) c.take.new.room c.args.room.now.items _ c.args.to kept c.take.ensures.bound c.take.ensures.bytes
    (λ n within. written room c.args.room.now.items _ c.take.new.room _ c.args.to n c.args.room.now.len c.deref_mut.ensures.value (omega (arith, fits)) (omega (arith, within, kept, size, c.requires.inside)) within)
