use Rattle.std.proofs.Common.{ap, ◌∙◌, map, ℕ, List}
use Rattle.tab_ids.specs.declared.NavId.{NavId}
use Rattle.step_index.specs.Tracks.{rows_of}
use Rattle.entry_store.proofs.InOrder.{children_are}
use Rattle.step_index.proofs.listing.children_in.Goals as goal

pub returns : goal.returns
returns c =
    c.in_ok-navs.ensures
    ∙ ap (λ (numbers : List ℕ). map (λ number. let nav : NavId = record { 0 = number } in nav) numbers) (c.in_ok-numbers.ensures ∙ children_are c.args.state (rows_of c.args.tracks.now))
