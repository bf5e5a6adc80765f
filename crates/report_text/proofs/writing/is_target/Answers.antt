use Rattle.std.proofs.Common.{Option, ap, sym, ◌∙◌}
use Rattle.std.specs.Prelude.{option_map}
use Rattle.log_model.specs.Logs.{history_of}
use Rattle.log_model.specs.declared.row.Row.{Row}
use Rattle.report_text.proofs.ShownNavs.{no_target_test, target_test}
use Rattle.report_text.proofs.StoreReads.{same_target}
use Rattle.report_text.proofs.writing.is_target.Goals as goal

pub returns-in-Some : goal.returns-in-Some
returns-in-Some c =
    let same = same_target c.store-store.result.now (history_of c.args.world.now.log) (c.store-store.ensures.history c.requires.open) c.args.row.now.nav c.current.result.0 c.current.ensures in
    c.eq.ensures ∙ target_test _ c.in-Some.entry c.args.row.now.entry (sym (ap (λ (o : Option Row). option_map (λ (r : Row). r.entry) o) same) ∙ sym c.target.ensures ∙ c.in-Some.is)

pub returns-in-None : goal.returns-in-None
returns-in-None c =
    let same = same_target c.store-store.result.now (history_of c.args.world.now.log) (c.store-store.ensures.history c.requires.open) c.args.row.now.nav c.current.result.0 c.current.ensures in
    no_target_test _ c.args.row.now.entry (sym (ap (λ (o : Option Row). option_map (λ (r : Row). r.entry) o) same) ∙ sym c.target.ensures ∙ c.in-None.is)
