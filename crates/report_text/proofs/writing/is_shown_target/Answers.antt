use Rattle.std.proofs.Common.{Bool, ap, sym, true, ◌&&◌, ◌∙◌, ◌≡◌}
use Rattle.log_model.specs.Logs.{history_of}
use Rattle.log_model.specs.Places.{is_shown}
use Rattle.report_text.specs.Reports.{is_target}
use Rattle.report_text.proofs.ShownNavs.{target_row}
use Rattle.report_text.proofs.writing.is_shown_target.Goals as goal

pub returns-then-is_target : goal.returns-then-is_target
returns-then-is_target c =
    let targets : is_target (history_of c.args.world.now.log) c.args.row.now ≡ true = sym c.is_target.ensures ∙ c.if-is_target.true in
    c.is_shown.ensures.shown c.requires.open (target_row (history_of c.args.world.now.log) c.args.row.now targets)
    ∙ sym (ap (λ (b : Bool). b && is_shown (history_of c.args.world.now.log).rows (history_of c.args.world.now.log).current c.args.row.now.nav) targets)
