use Rattle.std.proofs.Common.{sym, ap, ◌∙◌, Option}
use Rattle.std.specs.Option.{option_copied, option_map}
use Rattle.log_model.specs.declared.row.Row.{Row}
use Rattle.entry_store.proofs.Reading.{target_by_list}
use Rattle.entry_store.proofs.readers.target_in.Goals as goal

pub returns-in-Some : goal.returns-in-Some
returns-in-Some c =
    ap (λ (best : Option Row). option_map (λ (row : Row). row.entry) best) (ap option_copied (sym c.in-Some.is) ∙ target_by_list c.args.nests.now c.args.nav c.args.s.0 c.loop-nest.nest-index (option_copied c.loop-nest.best) c.loop-nest-test.false c.loop-nest.invariant)

pub returns-in-None : goal.returns-in-None
returns-in-None c =
    ap (λ (best : Option Row). option_map (λ (row : Row). row.entry) best) (ap option_copied (sym c.in-None.is) ∙ target_by_list c.args.nests.now c.args.nav c.args.s.0 c.loop-nest.nest-index (option_copied c.loop-nest.best) c.loop-nest-test.false c.loop-nest.invariant)
