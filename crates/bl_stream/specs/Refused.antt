-- The refusal of a page by which a reader's own one is passed on.
use Rattle.bl_stream.specs.declared.commit_fault.CommitFault.{CommitFault}
use Rattle.bl_stream.specs.declared.commit_fault.CommitFault.TheVariants as fault
use Rattle.bl_stream.specs.declared.page.PageRefusal.{PageRefusal}
use Rattle.bl_stream.specs.declared.page.PageRefusal.TheVariants.{StoreFault, BadStore, NoMemory}

abbrev pub refused_by : CommitFault → PageRefusal
refused_by fault.StoreFault = StoreFault
refused_by (fault.BadStore place) = BadStore place
refused_by fault.NoMemory = NoMemory
