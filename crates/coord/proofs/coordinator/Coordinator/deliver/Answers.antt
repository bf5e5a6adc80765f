use Rattle.coord.proofs.Heard.{heard_done, heard_made}
use Rattle.coord.proofs.Mades.{no_death}
use Rattle.coord.proofs.coordinator.Coordinator.deliver.Goals as goal
use Rattle.log_model.specs.AfterRequests.{made_of_report}
use Rattle.log_model.specs.declared.made.Made.{Made}
use Rattle.log_model.specs.declared.made.Report.TheVariants as reports
use Rattle.log_model.specs.declared.made.Report.{Report}
use Rattle.std.proofs.Common.{Option, ap, subst, sym, ◌∙◌}
use Rattle.tab_ids.specs.declared.ProcId.{ProcId}
use Rattle.tab_stands.specs.Delivering.{IsDelivery}

pub take_made-requires : goal.take_made-requires
take_made-requires g c =
    (heard_made g.d c.args.proc c.args.report.now c.requires.0 c.requires.1.0 c.requires.1.1.0 c.args.self.now c.hear.new.self c.requires.1.1.1.0 c.in_ok-hear.ensures.heard c.in_ok-hear.ensures.same c.in-Some.made (ap made_of_report c.in-Done.is ∙ c.in-Some.is), c.requires.1.1.1.1)

pub take_done-requires : goal.take_done-requires
take_done-requires g c =
    (heard_done g.d c.args.proc c.args.report.now c.requires.0 c.requires.1.0 c.requires.1.1.0 c.args.self.now c.hear.new.self c.requires.1.1.1.0 c.in_ok-hear.ensures.heard c.in_ok-hear.ensures.same c.in-Done.job c.in-Done.field-1 (c.in-Done.is ∙ ap (λ (made : Option Made). reports.Done c.in-Done.job c.in-Done.field-1 made) c.in-None.is), c.requires.1.1.1.1)

pub take_made-requires-in-Made : goal.take_made-requires-in-Made
take_made-requires-in-Made g c =
    (heard_made g.d c.args.proc c.args.report.now c.requires.0 c.requires.1.0 c.requires.1.1.0 c.args.self.now c.hear.new.self c.requires.1.1.1.0 c.in_ok-hear.ensures.heard c.in_ok-hear.ensures.same c.in-Made.made (ap made_of_report c.in-Made.is), c.requires.1.1.1.1)

pub unreachable-requires : goal.unreachable-requires
unreachable-requires g c =
    no_death g.d c.args.self.now c.in-Died.field-0
    (subst (λ (r : Report). IsDelivery g.d.event g.d.proc r) c.in-Died.is (subst (λ (p : ProcId). IsDelivery g.d.event p c.args.report.now) (sym c.requires.1.0) c.requires.0))
    c.requires.1.1.1.0.in_
