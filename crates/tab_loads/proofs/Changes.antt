-- A request that hasn't begun is refused or dropped, or a document is sent to a fragment for it: nothing but that request is changed.
use Rattle.seen_facts.proofs.Coord.Held.{on_else, without_same}
use Rattle.seen_facts.proofs.Coord.Unread.{next}
use Rattle.tab_facts.specs.Frame.Lasting.{wish}
use Rattle.tab_passes.proofs.SetOuts.{KeepBegun, begun_as_it_was, course_of, sent_begun}
use Rattle.log_model.specs.After.{ended}
use Rattle.log_model.specs.AfterDocuments.{addressed, on_document}
use Rattle.log_model.specs.Equal.{has_req}
use Rattle.log_model.specs.Places.{aim_of, is_gone}
use Rattle.log_model.specs.Seen.{Asked, Document, Seen, request_of}
use Rattle.log_model.specs.declared.job.Job.{Job}
use Rattle.log_model.specs.declared.outcome.Cause.{Cause}
use Rattle.log_model.specs.declared.outcome.Denial.{Denial}
use Rattle.log_model.specs.declared.outcome.Ending.{Ending}
use Rattle.log_model.specs.declared.request.Mode.{Mode}
use Rattle.log_model.specs.declared.row_kind.Actor.{Actor}
use Rattle.log_model.specs.declared.job.Why.{Why}
use Rattle.seen_facts.specs.Mover.Movers.{IsMovedBy}
use Rattle.row_facts.proofs.Owed.Aims.{ended_aim}
use Rattle.row_facts.proofs.Owed.Rows.{IsIdle, sent_stays}
use Rattle.row_facts.specs.Owed.Owed.{IsReckoned}
use Rattle.seen_facts.specs.Asked.Asking.{HavePassed}
use Rattle.seen_facts.proofs.Request.Readers.{SameReads, on_read}
use Rattle.std.proofs.Common.{Bool, List, Some, [], ap, cond, false, refl, true, ℕ, ◌==◌, ◌∙◌, ◌∷◌, ◌≡◌}
use Rattle.tab_ids.specs.declared.DocId.{DocId}
use Rattle.tab_ids.specs.declared.NavId.{NavId}
use Rattle.tab_ids.specs.declared.ReqId.{ReqId}
use Rattle.row_facts.proofs.WalkRows.Moved.{dropped_moved, refused_moved, sent_moved}
use Rattle.log_model.specs.declared.job.Task.TheVariants as tasks
use Rattle.log_model.specs.declared.outcome.Ending.TheVariants as endings
use Rattle.log_model.specs.declared.row_kind.RowKind.TheVariants as rows

-- the history, the navigables and the documents are as they were; so is each other request, and of the one what it asks, what was made of it, whether it has begun and whom it has moved, and whoever has set out has so still; and whom a request has moved it has moved still
pub record ChangesOne (s n : Seen) (req : ReqId) : Type 0 where
  pub places : n.places ≡ s.places
  pub documents : n.documents ≡ s.documents
  pub history : n.history ≡ s.history
  pub kept : n.kept ≡ s.kept
  pub joined : n.joined ≡ s.joined
  pub parked : n.parked ≡ s.parked
  pub aim : aim_of n ≡ aim_of s
  pub other : (r : ReqId) → (r.0 == req.0) ≡ false → request_of n r ≡ request_of s r
  pub wishes : SameReads wish s.requests n.requests
  pub whats : SameReads (λ (x : Asked). x.what) s.requests n.requests
  pub begun : KeepBegun s.requests n.requests
  pub starts : SameReads (λ (x : Asked). x.is_started) s.requests n.requests
  pub moves : SameReads (λ (x : Asked). x.moved) s.requests n.requests
  pub moved : (why : Why) (nav : NavId) → IsMovedBy s why nav → IsMovedBy n why nav

module _ (s : Seen) (event : ℕ) (actor : Actor) (req : ReqId) (idle : IsIdle s req) (unjoined : has_req s.joined req ≡ false) (unparked : has_req s.parked req ≡ false) where
  abbrev end_it : Ending → Asked → Asked
  end_it ending q = record q { ending = Some ending }

  ended_reads : (ending : Ending) {B : Type 0} (read : Asked → B) → ((q : Asked) → read (record q { ending = Some ending }) ≡ read q) → SameReads read s.requests (ended s.requests req ending)
  ended_reads ending {B} read blind = on_read read s.requests req (λ (q : Asked). record q { ending = Some ending }) blind

  pub refused_changes : (reason : Denial) → ChangesOne s (next s event actor (rows.Refused req reason)) req
  refused_changes reason =
      record {
        places = refl;
        documents = refl;
        history = refl;
        kept = refl;
        joined = without_same s.joined req unjoined;
        parked = without_same s.parked req unparked;
        aim = ended_aim (is_gone s) s.history s.requests req (endings.Refused reason) idle;
        other = λ r apart. on_else s.requests req (λ (q : Asked). record q { ending = Some (endings.Refused reason) }) r apart;
        wishes = ended_reads (endings.Refused reason) wish (λ q. refl);
        whats = ended_reads (endings.Refused reason) (λ (q : Asked). q.what) (λ q. refl);
        begun = begun_as_it_was s.requests (ended s.requests req (endings.Refused reason)) (ended_reads (endings.Refused reason) course_of (λ q. refl));
        starts = ended_reads (endings.Refused reason) (λ (q : Asked). q.is_started) (λ q. refl);
        moves = ended_reads (endings.Refused reason) (λ (q : Asked). q.moved) (λ q. refl);
        moved = λ why nav by. refused_moved s event actor why nav by req reason;
      }

  pub dropped_changes : (cause : Cause) → ChangesOne s (next s event actor (rows.Dropped req cause)) req
  dropped_changes cause =
      record {
        places = refl;
        documents = refl;
        history = refl;
        kept = refl;
        joined = without_same s.joined req unjoined;
        parked = without_same s.parked req unparked;
        aim = ended_aim (is_gone s) s.history s.requests req (endings.Dropped cause) idle;
        other = λ r apart. on_else s.requests req (λ (q : Asked). record q { ending = Some (endings.Dropped cause) }) r apart;
        wishes = ended_reads (endings.Dropped cause) wish (λ q. refl);
        whats = ended_reads (endings.Dropped cause) (λ (q : Asked). q.what) (λ q. refl);
        begun = begun_as_it_was s.requests (ended s.requests req (endings.Dropped cause)) (ended_reads (endings.Dropped cause) course_of (λ q. refl));
        starts = ended_reads (endings.Dropped cause) (λ (q : Asked). q.is_started) (λ q. refl);
        moves = ended_reads (endings.Dropped cause) (λ (q : Asked). q.moved) (λ q. refl);
        moved = λ why nav by. dropped_moved s event actor why nav by req cause;
      }

-- ---- a document is sent to a fragment

-- which is told nothing by it
untold : (at : DocId) (req : ReqId) (mode : Mode) (address : List ℕ) (documents : List Document) → on_document at (addressed (tasks.DoFragment req mode address)) documents ≡ documents
untold at req mode address [] = refl
untold at req mode address (d ∷ documents) =
    ap (λ (x : Document). x ∷ on_document at (addressed (tasks.DoFragment req mode address)) documents) (by_test (d.nr.0 == at.0))
    ∙ ap (λ (l : List Document). d ∷ l) (untold at req mode address documents)
  where
    by_test : (b : Bool) → (let x : Document = cond b (addressed (tasks.DoFragment req mode address) d) d in x) ≡ d
    by_test true = refl
    by_test false = refl

module _ (s : Seen) (event : ℕ) (actor : Actor) (passed : HavePassed s) (reckoned : IsReckoned s) (nr : Job) (req : ReqId) (mode : Mode) (address : List ℕ) where
  -- the order, whatever its number, process and document
  abbrev job : Job
  job = record nr { task = tasks.DoFragment req mode address }

  abbrev t : Seen
  t = next s event actor (rows.Sent job)

  abbrev send_it : Asked → Asked
  send_it q = record q { fragment = Some job.doc }

  pub sent_changes : ChangesOne s t req
  sent_changes =
      record {
        places = refl;
        documents = untold job.doc req mode address s.documents;
        history = refl;
        kept = refl;
        joined = refl;
        parked = refl;
        aim = (sent_stays s event actor job passed reckoned refl).aim;
        other = λ r apart. on_else s.requests req send_it r apart;
        wishes = on_read wish s.requests req send_it (λ q. refl);
        whats = on_read (λ (q : Asked). q.what) s.requests req send_it (λ q. refl);
        begun = sent_begun s job job.task s.requests;
        starts = on_read (λ (q : Asked). q.is_started) s.requests req send_it (λ q. refl);
        moves = on_read (λ (q : Asked). q.moved) s.requests req send_it (λ q. refl);
        moved = λ why nav by. sent_moved s event actor why nav by job tt;
      }
