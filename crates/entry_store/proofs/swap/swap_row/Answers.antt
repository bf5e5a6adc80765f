use Rattle.std.proofs.Common.{◌≡◌, ap, sym, subst, get_or, set}
use Rattle.std.specs.Vec.{with_item}
use Rattle.log_model.specs.declared.row.Row.{Row}
use Rattle.entry_store.specs.declared.nest.Nest.{Nest}
use Rattle.entry_store.proofs.Placing.{swapped}
use Rattle.entry_store.proofs.swap.swap_row.Goals as goal

pub returns : goal.returns
returns c =
    let new : Nest = record { rows = with_item c.index_mut-nest.result.now.rows c.args.at c.replace.new.dest } in
    swapped c.args.nests.now.items c.args.place c.args.at c.index_mut-nest.result.now new c.args.row c.replace.result c.requires.in_lists c.index_mut-nest.ensures.value c.requires.in_list
    (subst (λ (r : Row). r ≡ get_or c.index_mut-nest.result.now.rows.items c.args.at r) (sym c.replace.ensures.value) c.index_mut.ensures.value)
    (ap (λ (r : Row). set c.index_mut-nest.result.now.rows.items c.args.at r) c.replace.ensures.after)
