use Rattle.std.proofs.Common.{◌≡◌, ◌-◌, ◌≤◌, ◌<◌, length}
use Rattle.bl_stream.specs.Filling.{Adds}
use Rattle.bl_stream.proofs.PageFacts.{Goes}
use Rattle.bl_stream.proofs.stream.add_commits.Given as goal

-- all commits up to the one that was read last are on the page
abbrev pub invariant-loop-read : goal.invariant-loop-read
invariant-loop-read g l = record {
  low : l.fn.number ≤ l.read;
  high : l.read ≤ l.newest;
  goes : Goes (g.R.CommitReader.commits l.fn.reader) l.fn.number l.read l.newest l.fn.page l.page;
  adds : Adds l.fn.number l.read l.fn.page l.page;
  some : l.fn.number < l.read → 1 ≤ length l.page.events;
  limit : l.page.limit ≡ l.fn.page.limit;
  commits : g.R.CommitReader.commits l.reader ≡ g.R.CommitReader.commits l.fn.reader;
  later : g.R.CommitReader.faults l.fn.reader ≤ g.R.CommitReader.faults l.reader;
}

abbrev pub decreases-loop-read : goal.decreases-loop-read
decreases-loop-read g l = l.newest - l.read
