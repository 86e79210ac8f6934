use Rattle.std.proofs.Common.{sym, subst}
use Rattle.bl_files.specs.Carried.{AreFeeds}
use Rattle.bl_load_tests.proofs.TestFeeds.{none_are_feeds}
use Rattle.bl_load_tests.proofs.tests.no_feeds.Goals as goal

pub returns : goal.returns
returns c = subst AreFeeds (sym c.new.ensures) none_are_feeds
