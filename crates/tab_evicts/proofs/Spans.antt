-- What one row after the other leaves of the places, and of the documents of loads.
use Rattle.log_model.specs.Seen.{Seen}
use Rattle.std.proofs.Common.{refl, ◌∙◌}
use Rattle.tab_evicts.specs.Evicting.{StaysPlaced}
use Rattle.row_facts.proofs.WalkRows.Leaves.{leaves_none, leaves_then}

pub stays_none : (s : Seen) → StaysPlaced s s
stays_none s = record { places = refl; leaves = leaves_none s; loading = λ are. are }

pub stays_then : (s t u : Seen) → StaysPlaced s t → StaysPlaced t u → StaysPlaced s u
stays_then s t u one two =
    record {
      places = two.places ∙ one.places;
      leaves = λ nav. leaves_then s t u nav (one.leaves nav) (two.leaves nav);
      loading = λ are. two.loading (one.loading are);
    }
