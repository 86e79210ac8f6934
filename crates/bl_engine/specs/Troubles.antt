-- How the journal's faults are told.
use Rattle.bl_outside.specs.declared.journal_fault.JournalFault.{JournalFault}
use Rattle.bl_outside.specs.declared.journal_fault.JournalFault.TheVariants.{StoreFault as device_fault, NotAJournal, NoMemory as no_memory}
use Rattle.bl_engine.specs.declared.refusals.Trouble.{Trouble}
use Rattle.bl_engine.specs.declared.refusals.Trouble.TheVariants.{StoreFault, BadStore, NoMemory}

abbrev pub trouble_from : JournalFault → Trouble
trouble_from device_fault = StoreFault
trouble_from (NotAJournal place) = BadStore place
trouble_from no_memory = NoMemory
