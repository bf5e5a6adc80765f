use Rattle.std.proofs.Common.{◌<◌, ℕ, subst, sym}
use Rattle.entry_store.specs.Kept.{history_in}
use Rattle.entry_store.proofs.StepBounds.{used_fits}
use Rattle.entry_store.proofs.counting.length_index_in.Goals as goal

pub as_count-requires : goal.as_count-requires
as_count-requires c =
    subst (λ (n : ℕ). n < 4294967296) (sym c.len.ensures.len) (used_fits (history_in c.args.lists.now) c.args.lists.now.used.keys c.requires.kept)
