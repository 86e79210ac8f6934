use Rattle.std.proofs.Common.{subst}
use Rattle.bl_rows.specs.Contents.{contents, rows_of}
use Rattle.bl_load.specs.Resuming.{IsContent}
use Rattle.bl_load.proofs.Resumed.{empty_resumed, read_resumed, refused_other, some_resumed}
use Rattle.bl_load.proofs.resuming.resume_bytes.Goals as goal

pub returns-in-Empty-clause-resumes : goal.returns-in-Empty-clause-resumes
returns-in-Empty-clause-resumes c =
    let all = contents c.args.file.bytes in
    empty_resumed all c.args.feed.now c.in_ok-reader.reader c.resume_empty.result
    (subst (λ x. IsContent all x) c.in-Empty.is (c.in_ok-content_of.ensures.content all 0 (rows_of all) c.in_ok-reader.ensures)) c.in_ok-reader.ensures c.resume_empty.ensures.resumes

pub returns-in-Refused-clause-resumes : goal.returns-in-Refused-clause-resumes
returns-in-Refused-clause-resumes c =
    let all = contents c.args.file.bytes in
    refused_other all _ c.args.feed.now c.requires.read (subst (λ x. IsContent all x) c.in-Refused.is (c.in_ok-content_of.ensures.content all 0 (rows_of all) c.in_ok-reader.ensures))

pub returns-in-Read-clause-resumes : goal.returns-in-Read-clause-resumes
returns-in-Read-clause-resumes c =
    let all = contents c.args.file.bytes in
    read_resumed all c.args.feed.now c.in_ok-reader.reader c.in-Read.columns c.resume_read.result
    (subst (λ x. IsContent all x) c.in-Read.is (c.in_ok-content_of.ensures.content all 0 (rows_of all) c.in_ok-reader.ensures)) c.in_ok-reader.ensures c.resume_read.ensures.resumes

pub returns-in-Read-clause-some : goal.returns-in-Read-clause-some
returns-in-Read-clause-some c =
    let all = contents c.args.file.bytes in
    some_resumed all c.args.feed.now c.resume_read.result (returns-in-Read-clause-resumes c)
