use Rattle.std.proofs.Common.{◌∙◌, Err, sym, subst}
use Rattle.bl_stream.specs.Slices.{Bounds}
use Rattle.bl_stream.specs.Pages.{IsAtEnd, Pages}
use Rattle.bl_stream.specs.declared.page.PageRefusal.TheVariants.{NoRecords}
use Rattle.bl_stream.proofs.WantedEvents.{no_start}
use Rattle.bl_stream.proofs.PageFacts.{behind_end, behind_nothing, none_nothing}
use Rattle.bl_stream.proofs.stream.Stream.page.Goals as goal

pub returns-in_default-clause-slice : goal.returns-in_default-clause-slice
returns-in_default-clause-slice g c =
    subst (λ (stream : Bounds). Pages (g.R.CommitReader.commits c.args.reader.now) stream c.args.ask.now (Err NoRecords)) (sym c.in_default.is ∙ c.self.view_is)
    (none_nothing (g.R.CommitReader.commits c.args.reader.now) c.args.ask.now)

pub returns-in_default-start_of-clause-slice : goal.returns-in_default-start_of-clause-slice
returns-in_default-start_of-clause-slice g c =
    subst (λ (stream : Bounds). Pages (g.R.CommitReader.commits c.args.reader.now) stream c.args.ask.now (Err NoRecords)) (sym c.in-Some.is ∙ c.self.view_is)
    (behind_nothing (g.R.CommitReader.commits c.args.reader.now) c.in-Some.bounds c.args.ask.now
    (no_start c.in-Some.bounds c.args.ask.now.iterator (sym c.in_default-start_of.ensures)))

pub returns-in_default-start_of-clause-cause : goal.returns-in_default-start_of-clause-cause
returns-in_default-start_of-clause-cause g c =
    subst (λ (stream : Bounds). IsAtEnd stream c.args.ask.now.iterator) (sym c.in-Some.is ∙ c.self.view_is)
    (behind_end c.in-Some.bounds c.args.ask.now.iterator (no_start c.in-Some.bounds c.args.ask.now.iterator (sym c.in_default-start_of.ensures)))
