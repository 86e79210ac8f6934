use Rattle.std.proofs.Common.{◌++◌, [], ◌∷◌, None, Some, Ok, length, subst, arith}
use Rattle.std.proofs.lemmas.List.{length-append}
use Rattle.std.proofs.lemmas.List.Sums.{sum_by_push}
use Rattle.bl_outside.specs.contracts.memory_disk.MemoryDiskDisk.TheImpl as memory
use Rattle.bl_journal.specs.Journals.{NextIs}
use Rattle.bl_bench.proofs.Counting.{all_counted, prefixed_more}
use Rattle.bl_bench.proofs.journal.read_frames.Goals as goal

pub returns-in_default-found : goal.returns-in_default-found
returns-in_default-found c = λ bodies stands.
    let kept = c.loop-frames.invariant.1 bodies stands in
    let end : NextIs (memory.ghosts.seen c.next.new.self.disk) c.next.new.self.place kept.0 kept.1 (Ok None) =
    subst (λ found. NextIs (memory.ghosts.seen c.next.new.self.disk) c.next.new.self.place kept.0 kept.1 (Ok found)) c.in_default-found.is
    (c.in-Ok.ensures.stands kept.0 kept.1 kept.2) in
    all_counted bodies kept.0 kept.1 (record { items = c.loop-frames.frames; bytes = c.loop-frames.bytes }) kept.3 end.0 kept.4 kept.5

pub loop-frames-preserved : goal.loop-frames-preserved
loop-frames-preserved c = (
  c.in-Ok.ensures.at_gate c.loop-frames.invariant.0,
  λ bodies stands.
      let kept = c.loop-frames.invariant.1 bodies stands in
      let next : NextIs (memory.ghosts.seen c.next.new.self.disk) c.next.new.self.place kept.0 kept.1 (Ok (Some c.in-Some.body)) =
      subst (λ found. NextIs (memory.ghosts.seen c.next.new.self.disk) c.next.new.self.place kept.0 kept.1 (Ok found)) c.in-Some.is
      (c.in-Ok.ensures.stands kept.0 kept.1 kept.2) in (
        kept.0 ++ c.in-Some.body ∷ [],
        next.0,
        next.2,
        prefixed_more bodies kept.0 c.in-Some.body kept.1 next.0 kept.3 next.1,
        omega (arith, kept.4, length-append kept.0 (c.in-Some.body ∷ [])),
        omega (arith, kept.5, c.in_ok-bytes.ensures.1, c.len.ensures, sum_by_push length kept.0 c.in-Some.body),
      ),
)
