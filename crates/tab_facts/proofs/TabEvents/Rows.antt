-- What the rows of a process leave that finish an order, or of which a document makes something.
use Rattle.seen_facts.proofs.Coord.Unread.{next}
use Rattle.seen_facts.specs.Coord.Leading.{once_finished}
use Rattle.log_model.specs.AfterDocuments.{documents_finished, slot_finished}
use Rattle.log_model.specs.Seen.{Document, Seen, desk_of}
use Rattle.log_model.specs.Views.{View, after_made}
use Rattle.log_model.specs.declared.job.Job.{Job}
use Rattle.log_model.specs.declared.job.Order.{Order}
use Rattle.log_model.specs.declared.made.Made.{Made}
use Rattle.log_model.specs.declared.outcome.Outcome.{Outcome}
use Rattle.log_model.specs.declared.row_kind.Actor.{Actor}
use Rattle.seen_facts.proofs.Request.Readers.{on_read}
use Rattle.log_model.specs.After.{desk_finished, desks_made, follows_finished}
use Rattle.std.proofs.Common.{List, Option, Some, ap, cond, refl, ℕ, ◌==◌, ◌∙◌, ◌≡◌}
use Rattle.std.specs.Prelude.{map, option_map}
use Rattle.tab_facts.proofs.TabEvents.Ordered.{finished_order, made_order, orders_on}
use Rattle.tab_facts.proofs.TabEvents.Left.{IsLeft, KeepsRead, keeps_both, keeps_if, map_twice}
use Rattle.tab_facts.proofs.TabEvents.Requests.{finished_lean, lean, same_left}
use Rattle.tab_ids.specs.declared.ProcId.{ProcId}
use Rattle.tab_ids.specs.declared.ReqId.{ReqId}
use Rattle.log_model.specs.declared.outcome.Outcome.TheVariants as outcomes
use Rattle.log_model.specs.declared.row_kind.RowKind.TheVariants as rows

-- what an order that is finished does to the documents
record IsChanged (documents then : List Document) : Type 0 where
  g : Document → Document
  keeps : KeepsRead g
  are : then ≡ map g documents

module _ (documents : List Document) (job : Job) where
  abbrev seen_by : Document → Document
  seen_by d = cond (d.nr.0 == job.doc.0) (once_finished d job) d

  seen_keeps : KeepsRead seen_by
  seen_keeps =
      keeps_if (λ d. d.nr.0 == job.doc.0) (λ d. once_finished d job) (record { nr = λ d. refl; state = λ d. refl; told = λ d. refl; ready = λ d. refl; frozen = λ d. refl; discarded = λ d. refl; known = λ d. refl })

  abbrev slotted : Option ℕ → Document → Document
  slotted slot d = cond (d.nr.0 == job.doc.0) (record d { slot = slot }) d

  slot_keeps : (slot : Option ℕ) → KeepsRead (slotted slot)
  slot_keeps slot =
      keeps_if (λ d. d.nr.0 == job.doc.0) (λ d. record d { slot = slot }) (record { nr = λ d. refl; state = λ d. refl; told = λ d. refl; ready = λ d. refl; frozen = λ d. refl; discarded = λ d. refl; known = λ d. refl })

  changed : (outcome : Outcome) → IsChanged documents (slot_finished (documents_finished documents (Some job)) (Some job) outcome)
  changed (outcomes.Populated slot) =
      record { g = λ d. slotted slot (seen_by d); keeps = keeps_both seen_by (slotted slot) seen_keeps (slot_keeps slot); are = map_twice seen_by (slotted slot) documents }
  changed outcomes.Activated = record { g = seen_by; keeps = seen_keeps; are = refl }
  changed outcomes.Updated = record { g = seen_by; keeps = seen_keeps; are = refl }
  changed outcomes.Frozen = record { g = seen_by; keeps = seen_keeps; are = refl }
  changed outcomes.Discarded = record { g = seen_by; keeps = seen_keeps; are = refl }
  changed (outcomes.Asked verdict) = record { g = seen_by; keeps = seen_keeps; are = refl }
  changed outcomes.Fragmented = record { g = seen_by; keeps = seen_keeps; are = refl }

-- an order is finished
pub finished_left : (run : Option ReqId) (s : Seen) (event : ℕ) (actor : Actor) (proc : ProcId) (order : Order) (outcome : Outcome) → (desk_of s proc).in_hand ≡ Some order → IsLeft run s (next s event actor (rows.Finished proc order.job.nr outcome))
finished_left run s event actor proc order outcome in_hand =
    let its : IsChanged s.documents (slot_finished (documents_finished s.documents (Some order.job)) (Some order.job) outcome) = changed s.documents order.job outcome in
    record {
      g = its.g;
      keeps = its.keeps;
      documents = ap (λ (job : Option Job). slot_finished (documents_finished s.documents job) job outcome) (ap (λ (o : Option Order). option_map (λ (x : Order). x.job) o) in_hand) ∙ its.are;
      asked = same_left run s.requests (next s event actor (rows.Finished proc order.job.nr outcome)).requests (finished_lean s (desk_of s proc).in_hand outcome s.requests);
      history = refl;
      places = refl;
      kept = refl;
      joined = refl;
      parked = refl;
      orders = orders_on proc (desk_finished outcome) s.desks (finished_order outcome);
    }

-- a document makes something
pub made_left : (run : Option ReqId) (s : Seen) (event : ℕ) (actor : Actor) (proc : ProcId) (made : Made) → IsLeft run s (next s event actor (rows.Made proc made))
made_left run s event actor proc made =
    record {
      g = _;
      keeps = keeps_if (λ d. d.nr.0 == made.doc.0) (λ d. record d { view = option_map (λ (v : View). after_made v made.what) d.view }) (record { nr = λ d. refl; state = λ d. refl; told = λ d. refl; ready = λ d. refl; frozen = λ d. refl; discarded = λ d. refl; known = λ d. refl });
      documents = refl;
      asked = same_left run s.requests (next s event actor (rows.Made proc made)).requests (on_read lean s.requests made.req (λ q. record q { made = Some made }) (λ q. refl));
      history = refl;
      places = refl;
      kept = refl;
      joined = refl;
      parked = refl;
      orders = orders_on proc (desks_made (follows_finished s (record { event = event; actor = actor; row = rows.Made proc made })) made) s.desks (made_order (follows_finished s (record { event = event; actor = actor; row = rows.Made proc made })) made);
    }
