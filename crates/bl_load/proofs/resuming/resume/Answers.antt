use Rattle.std.proofs.lemmas.Result.{IfOk-weaker}
use Rattle.bl_outside.specs.Counts.{Rose}
use Rattle.bl_rows.specs.Contents.{contents}
use Rattle.bl_load.specs.Resuming.{IsFault, ResumesContent}
use Rattle.bl_load.proofs.Resumed.{not_fault}
use Rattle.bl_load.proofs.resuming.resume.Goals as goal

pub returns-in-Ok-clause-fault : goal.returns-in-Ok-clause-fault
returns-in-Ok-clause-fault g c =
    let all = contents c.in-Ok.file.bytes in
    IfOk-weaker c.resume_bytes.result (ResumesContent all c.args.feed.now) (λ resumed. IsFault resumed → Rose (g.F.Folder.faults c.args.folder.now) (g.F.Folder.faults c.read_source.new.folder))
    (λ resumed is. not_fault all c.args.feed.now resumed is) c.resume_bytes.ensures.resumes
