-- A load that is at hand is dropped: the coordinator's tables stand for the log still, as they have nothing of it.
use Rattle.load_doors.specs.Tied.{AreTied}
use Rattle.log_model.specs.Places.{is_ongoing_load}
use Rattle.log_model.specs.Seen.{Asked, Seen, request_of}
use Rattle.log_model.specs.declared.outcome.Cause.{Cause}
use Rattle.log_model.specs.declared.outcome.Ending.TheVariants as endings
use Rattle.log_model.specs.declared.row_kind.Actor.{Actor}
use Rattle.log_model.specs.declared.row_kind.RowKind.TheVariants as rows
use Rattle.seen_facts.proofs.Coord.Unread.{next}
use Rattle.seen_facts.proofs.LoadTies.Ends.{dropped_ended, other_ends}
use Rattle.seen_facts.proofs.Request.Readers.{on_read}
use Rattle.seen_facts.specs.Each.Runs.{is_this}
use Rattle.std.proofs.Common.{Some, false, refl, ℕ, ◌≡◌}
use Rattle.tab_doors.proofs.EndLaws.{left_holds}
use Rattle.tab_doors.proofs.Requests.{ended_moved, moved_same, runs_ended_apart}
use Rattle.tab_doors.proofs.Works.{goal_read, goal_same}
use Rattle.tab_doors.specs.Look.{look_of as sights_of, moved_by}
use Rattle.tab_doors.specs.declared.tables.Tables.{Tables}
use Rattle.tab_ids.specs.declared.ReqId.{ReqId}

-- so it is of any request that isn't the traversal that runs, and no ongoing load
pub tied_left : (s : Seen) (t : Tables) (event : ℕ) (actor : Actor) (req : ReqId) (cause : Cause) → is_this t.running req ≡ false → ((q : Asked) → request_of s req ≡ Some q → is_ongoing_load q ≡ false) → AreTied s t → AreTied (next s event actor (rows.Dropped req cause)) t
tied_left s t event actor req cause other idle tied =
    record {
      holds = left_holds (sights_of s t.running) (sights_of n t.running) t refl refl refl moved refl refl refl tied.holds;
      runs = runs_ended_apart s.requests t.running req (endings.Dropped cause) other tied.runs;
      goal = goal_same s.requests n.requests t.running t.goal (on_read goal_read s.requests req (λ (q : Asked). record q { ending = Some (endings.Dropped cause) }) (λ q. refl)) tied.goal;
      few = tied.few;
      initial = tied.initial;
      loads = other_ends s n req (dropped_ended s event actor req cause) t.loads tied.loads idle;
      kept = tied.kept;
    }
  where
    n : Seen
    n = next s event actor (rows.Dropped req cause)

    moved : moved_by n.requests t.running ≡ moved_by s.requests t.running
    moved = moved_same s.requests n.requests t.running (ended_moved s event actor req (endings.Dropped cause))
