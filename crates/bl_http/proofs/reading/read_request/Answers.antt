use Rattle.bl_http.proofs.ReadingLemmas.{reads_after, stays_after}
use Rattle.bl_http.proofs.reading.read_request.Goals as goal

pub returns-in-Head-clause-reads : goal.returns-in-Head-clause-reads
returns-in-Head-clause-reads g c = reads_after _ _ _ _ _ _ c.read_body.result c.read_head.ensures.moves c.read_body.ensures.reads

pub returns-in-Head-clause-stays : goal.returns-in-Head-clause-stays
returns-in-Head-clause-stays g c = stays_after _ _ _ _ _ _ c.read_body.result c.read_head.ensures.moves c.read_body.ensures.stays
