use Rattle.std.proofs.Common.{◌≡◌, List, length, ◌∙◌}
use Rattle.bl_files.specs.declared.feed.Feed.{Feed}
use Rattle.bl_files.specs.Carried.{AreCarried}
use Rattle.bl_files.specs.Collected.{collected}
use Rattle.bl_files.proofs.CarriedFeeds.{carried_there}
use Rattle.bl_files.proofs.CarriedNumbers.{number}
use Rattle.bl_files.proofs.carrying.carried_number.Goals as goal

pub returns : goal.returns
returns c =
    let there : (feeds : List Feed) × AreCarried c.args.previous.now c.args.found.now feeds × (length feeds ≡ length (collected c.args.previous.now c.args.found.now)) = carried_there c.args.previous.now c.args.found.now c.requires.previous c.requires.found in
    (there.0, there.1, there.2 ∙ number c.args.previous.now c.args.found.now c.in_ok-names.names c.in_ok-names.ensures _ c.number_with.ensures)
