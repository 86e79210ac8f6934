use Rattle.bl_journal.specs.Journals.{IsAtGate}
use Rattle.bl_journal_tests.proofs.tests.append_at_end.Given as goal

abbrev pub invariant-loop : goal.invariant-loop
invariant-loop g l = IsAtGate g.D.Disk l.journal
