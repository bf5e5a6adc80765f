-- What orders leave as it is that freeze documents on which nobody is awake.
use Rattle.log_model.specs.After.{after}
use Rattle.log_model.specs.AfterDocuments.{addressed}
use Rattle.log_model.specs.AfterPlaces.{sleepers_with}
use Rattle.log_model.specs.Equal.{has_doc}
use Rattle.log_model.specs.Seen.{Document, Seen}
use Rattle.log_model.specs.declared.job.Job.{Job}
use Rattle.log_model.specs.declared.job.Why.{Why}
use Rattle.seen_laws.proofs.Keyed.{find_on_other}
use Rattle.seen_laws.specs.InEvent.{InEvent, row_of}
use Rattle.std.proofs.Common.{Bool, List, Some, [], false, refl, sym, true, ℕ, ◌==◌, ◌||◌, ◌∙◌, ◌∷◌, ◌≡◌}
use Rattle.std.specs.Prelude.{slice_get}
use Rattle.tab_doors.proofs.Keeping.{states_on}
use Rattle.tab_doors.specs.Orders.{order_to}
use Rattle.tab_ids.specs.declared.DocId.{DocId}
use Rattle.tab_passes.proofs.Frozen.{has_at, only_it}
use Rattle.tab_passes.specs.Leaving.{IsStill}
use Rattle.row_facts.proofs.WalkRows.Leaves.{freeze_none_leaves, leaves_none, leaves_then, none_places}
use Rattle.log_model.specs.declared.job.Task.TheVariants as tasks
use Rattle.log_model.specs.declared.row_kind.RowKind.TheVariants as rows

pub still_none : (docs : List DocId) (s : Seen) → IsStill docs s s
still_none docs s = record { places = refl; leaves = leaves_none s; kept = refl; states = refl; documents = λ doc apart. refl }

pub still_then : (docs : List DocId) (s t u : Seen) → IsStill docs s t → IsStill docs t u → IsStill docs s u
still_then docs s t u one two =
    record {
      places = two.places ∙ one.places;
      leaves = λ nav. leaves_then s t u nav (one.leaves nav) (two.leaves nav);
      kept = two.kept ∙ one.kept;
      states = two.states ∙ one.states;
      documents = λ doc apart. two.documents doc apart ∙ one.documents doc apart;
    }

or_false : (a b : Bool) → (a || b) ≡ false → a ≡ false
or_false true b is = absurd cc
or_false false b is = refl

-- one of them is frozen
pub still_frozen : (e : InEvent) (s : Seen) (doc : DocId) (why : Why) → sleepers_with s doc ≡ [] → IsStill (doc ∷ []) s (after s (row_of e (rows.Sent (order_to s doc why tasks.Freeze))))
still_frozen e s doc why none =
    record {
      places = none_places s e.event e.actor freeze none tasks.Freeze refl tt;
      leaves = λ nav. freeze_none_leaves s e.event e.actor freeze none nav refl;
      kept = refl;
      states = states_on doc (addressed tasks.Freeze) s.documents s.kept (λ d. refl) (λ d. refl);
      documents = λ x apart. find_on_other (λ (y : Document). y.nr.0) (addressed tasks.Freeze) doc.0 x.0 s.documents (λ y. refl) (or_false (doc.0 == x.0) false apart);
    }
  where
    freeze : Job
    freeze = order_to s doc why tasks.Freeze

-- among these
pub still_among : (docs : List DocId) (i : ℕ) (doc : DocId) (s t : Seen) → slice_get docs i ≡ Some doc → IsStill (doc ∷ []) s t → IsStill docs s t
still_among docs i doc s t at still =
    record { places = still.places; leaves = still.leaves; kept = still.kept; states = still.states; documents = λ x apart. still.documents x (by_test x (has_doc (doc ∷ []) x) refl apart) }
  where
    by_test : (x : DocId) (b : Bool) → has_doc (doc ∷ []) x ≡ b → has_doc docs x ≡ false → has_doc (doc ∷ []) x ≡ false
    by_test x false is apart = is
    by_test x true is apart = let never : true ≡ false = sym (has_at docs i doc x at (only_it doc x is)) ∙ apart in absurd cc
