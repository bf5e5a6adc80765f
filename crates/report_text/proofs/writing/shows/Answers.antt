use Rattle.std.proofs.Common.{Option, ap, sym, ◌∙◌, arith}
use Rattle.std.proofs.lemmas.Bool.Decides.{nat_tests}
use Rattle.log_model.specs.Equal.{holds}
use Rattle.log_model.specs.Formed.{running_documents}
use Rattle.log_model.specs.Logs.{history_of, seen_of}
use Rattle.log_model.specs.Views.{View}
use Rattle.report_text.specs.Reports.{is_at}
use Rattle.report_text.proofs.ShownNavs.{none_at, one_at, target_row}
use Rattle.report_text.proofs.writing.shows.Goals as goal

pub returns-then-not-is_sole : goal.returns-then-not-is_sole
returns-then-not-is_sole c =
    sym (none_at c.args.row.now c.args.at.length c.args.at.index (running_documents (seen_of c.args.world.now.log) c.args.row.now.nav) (sym (c.is_sole.ensures.sole c.requires.open) ∙ c.if-not-is_sole.true))

pub returns : goal.returns
returns c =
    let one = sym (c.is_sole.ensures.sole c.requires.open) ∙ c.if-not-is_sole.false in
    c.is_shown.ensures
    ∙ (ap (λ (o : Option View). holds (is_at c.args.row.now c.args.at.length c.args.at.index) o) (c.view.ensures.view c.requires.open)
    ∙ one_at (seen_of c.args.world.now.log) c.args.row.now c.args.at.length c.args.at.index (target_row (history_of c.args.world.now.log) c.args.row.now c.requires.target) (grind (arith, nat_tests, one)))
