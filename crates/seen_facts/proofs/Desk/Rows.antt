-- What each process has stays of its own documents over the rows of users and processes, requests that begin and end, reports, and changes.
use Rattle.std.proofs.Common.{◌≡◌, ℕ, Bool, true, false, cond, ◌==◌, List, [], ◌∷◌, ◌++◌, drop, map, Option, Some, None, refl, sym, ap, ◌∙◌, subst}
use Rattle.std.specs.Prelude.{slice_get}
use Rattle.std.specs.Option.{option_map_or}
use Rattle.tab_ids.specs.declared.DocId.{DocId}
use Rattle.tab_ids.specs.declared.EntryId.{EntryId}
use Rattle.tab_ids.specs.declared.NavId.{NavId}
use Rattle.tab_ids.specs.declared.ProcId.{ProcId}
use Rattle.tab_ids.specs.declared.ReqId.{ReqId}
use Rattle.tab_ids.specs.declared.StateId.{StateId}
use Rattle.tab_ids.specs.declared.Step.{Step}
use Rattle.log_model.specs.declared.action.Action.{Action}
use Rattle.log_model.specs.declared.change.Change.{Change}
use Rattle.log_model.specs.declared.job.Job.{Job}
use Rattle.log_model.specs.declared.job.Order.{Order}
use Rattle.log_model.specs.declared.made.Made.{Made}
use Rattle.log_model.specs.declared.made.Report.{Report}
use Rattle.log_model.specs.declared.made.Report.TheVariants as reports
use Rattle.log_model.specs.declared.made.What.TheVariants as whats
use Rattle.log_model.specs.declared.outcome.Cause.{Cause}
use Rattle.log_model.specs.declared.outcome.Denial.{Denial}
use Rattle.log_model.specs.declared.outcome.Outcome.{Outcome}
use Rattle.log_model.specs.declared.request.Poke.{Poke}
use Rattle.log_model.specs.declared.request.Request.{Request}
use Rattle.log_model.specs.declared.request.Request.TheVariants as requests
use Rattle.log_model.specs.declared.row_kind.Actor.{Actor}
use Rattle.log_model.specs.declared.row_kind.Actor.TheVariants as actors
use Rattle.log_model.specs.declared.row_kind.RowKind.{RowKind}
use Rattle.log_model.specs.declared.row_kind.RowKind.TheVariants as rows
use Rattle.log_model.specs.After.{after, on_desk, desk_delivered, desk_dropped, desk_finished, desk_made, desk_taken, desks_made, follows_finished, reports_joined}
use Rattle.log_model.specs.AfterDocuments.{task_in_hand}
use Rattle.log_model.specs.Seen.{Seen, Document, Desk, desk_in, desk_of, document_of, empty_desk, nothing}
use Rattle.seen_facts.specs.Transit.Orders.{IsOutcomeOf}
use Rattle.seen_facts.specs.Desk.Own.{AreDesksIn, IsDeskIn, IsFragmentTask, IsMadeIn}
use Rattle.seen_facts.proofs.Desk.Again.{same_documents, same_places, made_again}
use Rattle.seen_facts.proofs.Desk.Lists.{delivered_in, desks_on, desks_same, dropped_in, edited_in, finished_in, joined_in, made_in, poked_in, taken_in, unpoked_in}
use Rattle.seen_facts.proofs.Desk.Stays.{NoDeath, applied_at, changed_stay, delivered_at, delivered_stay, finished_stay, made_stay}

-- all desks are changed
desk_mapped : (f : Desk → Desk) (desks : List Desk) (proc : ProcId) → ((desk : Desk) → (f desk).proc ≡ desk.proc) → f (empty_desk proc) ≡ empty_desk proc → desk_in (map f desks) proc ≡ f (desk_in desks proc)
desk_mapped f [] proc keeps empty = sym empty
desk_mapped f (desk ∷ desks) proc keeps empty =
    ap (λ (p : ProcId). let d : Desk = cond (p.0 == proc.0) (f desk) (desk_in (map f desks) proc) in d) (keeps desk)
    ∙ by_test (desk.proc.0 == proc.0) (desk_mapped f desks proc keeps empty)
  where
    by_test : (b : Bool) → desk_in (map f desks) proc ≡ f (desk_in desks proc) → (let d : Desk = cond b (f desk) (desk_in (map f desks) proc) in d) ≡ f (let d : Desk = cond b desk (desk_in desks proc) in d)
    by_test true more = refl
    by_test false more = more

module _ (s : Seen) (event : ℕ) (actor : Actor) (are : AreDesksIn s) where
  abbrev then_ : RowKind → Seen
  then_ kind = after s (record { event = event; actor = actor; row = kind })

  -- ---- the user's events

  -- a request that pokes no document
  pub unpoked : (req : ReqId) (what : Request) → AreDesksIn (then_ (rows.Accepted req None what))
  unpoked req what = desks_same s (then_ (rows.Accepted req None what)) refl (same_documents s.documents) (same_places s.places) are

  -- a poke of a document that is there
  pub poked_desks : (req : ReqId) (nav : NavId) (action : Action) (doc : DocId) (d : Document) → document_of s doc ≡ Some d → AreDesksIn (then_ (rows.Accepted req (Some doc) (requests.Poke nav action)))
  poked_desks req nav action doc d found =
      desks_on s t d.proc more desks (λ desk. refl) (same_documents s.documents) (same_places s.places) (λ is. poked_in s.documents s.places d.proc poke (desk_of s d.proc) (record { d = d; found = found; home = refl }) is) are
    where
      t : Seen
      t = then_ (rows.Accepted req (Some doc) (requests.Poke nav action))

      poke : Poke
      poke = record { req = req; doc = doc; action = action }

      more : Desk → Desk
      more desk = record desk { input = desk.input ++ poke ∷ [] }

      desks : t.desks ≡ on_desk d.proc more s.desks
      desks = ap (λ (o : Option Document). option_map_or (λ (x : Document). on_desk x.proc more s.desks) o s.desks) found

  pub started_desks : (req : ReqId) (goal : Option Step) → AreDesksIn (then_ (rows.Started req goal))
  started_desks req goal = desks_same s (then_ (rows.Started req goal)) refl (same_documents s.documents) (same_places s.places) are

  pub prompted_desks : (req : ReqId) (doc : DocId) → AreDesksIn (then_ (rows.Prompted req doc))
  prompted_desks req doc = desks_same s (then_ (rows.Prompted req doc)) refl (same_documents s.documents) (same_places s.places) are

  pub answered_desks : (req : ReqId) (stay : Bool) → AreDesksIn (then_ (rows.Answered req stay))
  answered_desks req stay = desks_same s (then_ (rows.Answered req stay)) refl (same_documents s.documents) (same_places s.places) are

  pub evicted_desks : (state : StateId) → AreDesksIn (then_ (rows.Evicted state))
  evicted_desks state = desks_same s (then_ (rows.Evicted state)) refl (same_documents s.documents) (same_places s.places) are

  -- ---- requests that end

  pub dropped_desks : (req : ReqId) (cause : Cause) → AreDesksIn (then_ (rows.Dropped req cause))
  dropped_desks req cause proc =
      subst (λ (d : Desk). IsDeskIn s.documents s.places proc d) (sym (desk_mapped (desk_dropped req) s.desks proc (λ desk. refl) refl)) (dropped_in s.documents s.places proc req (desk_of s proc) (are proc))

  pub applied_desks : (req : ReqId) (change : Change) → AreDesksIn (then_ (rows.Applied req change))
  applied_desks req change =
      desks_same s (then_ (rows.Applied req change)) refl (changed_stay change s.documents) (applied_at s req change) are

  -- ---- the processes' events

  pub taken_desks : (proc : ProcId) (job : Job) (dirty : Bool) → (desk_of s proc).in_hand ≡ None → AreDesksIn (then_ (rows.Taken proc job.nr true dirty))
  taken_desks proc job dirty free =
      desks_on s (then_ (rows.Taken proc job.nr true dirty)) proc (desk_taken true dirty) refl (λ desk. refl) (same_documents s.documents) (same_places s.places) (λ is. taken_in s.documents s.places proc dirty (desk_of s proc) free is) are

  pub finished_desks : (proc : ProcId) (order : Order) (outcome : Outcome) → (desk_of s proc).in_hand ≡ Some order → IsOutcomeOf order.job.task outcome → AreDesksIn (then_ (rows.Finished proc order.job.nr outcome))
  finished_desks proc order outcome hand answers =
      desks_on s (then_ (rows.Finished proc order.job.nr outcome)) proc (desk_finished outcome) refl (λ desk. refl) (finished_stay s.documents (task_in_hand s proc) outcome) (same_places s.places) (λ is. finished_in (then_ (rows.Finished proc order.job.nr outcome)).documents s.places proc order outcome (desk_of s proc) hand answers is) are

  -- a document makes something of the first poke of its process
  pub made_desks : (proc : ProcId) (made : Made) → IsMadeIn s.documents proc made → follows_finished s (record { event = event; actor = actor; row = rows.Made proc made }) ≡ false → AreDesksIn (then_ (rows.Made proc made))
  made_desks proc made own alone =
      desks_on s t proc (desk_made made) desks (λ desk. refl) (made_stay made s.documents) (same_places s.places) (λ is. made_in t.documents s.places proc made (desk_of s proc) (made_again s.documents t.documents s.places s.places (made_stay made s.documents) (same_places s.places) proc made own) is) are
    where
      t : Seen
      t = then_ (rows.Made proc made)

      desks : t.desks ≡ on_desk proc (desk_made made) s.desks
      desks = ap (λ (b : Bool). on_desk proc (desks_made b made) s.desks) alone

  -- it edits itself
  pub edited_desks : (proc : ProcId) (made : Made) → made.what ≡ whats.Edit → follows_finished s (record { event = event; actor = actor; row = rows.Made proc made }) ≡ false → AreDesksIn (then_ (rows.Made proc made))
  edited_desks proc made edits alone =
      desks_on s t proc (desk_made made) desks (λ desk. refl) (made_stay made s.documents) (same_places s.places) (λ is. edited_in t.documents s.places proc made (desk_of s proc) edits is) are
    where
      t : Seen
      t = then_ (rows.Made proc made)

      desks : t.desks ≡ on_desk proc (desk_made made) s.desks
      desks = ap (λ (b : Bool). on_desk proc (desks_made b made) s.desks) alone

  -- or makes something of the fragment order that it finished just now
  pub fragment_desks : (proc : ProcId) (made : Made) (job : Job) (outcome : Outcome) (waiting : List Report) → IsMadeIn s.documents proc made → follows_finished s (record { event = event; actor = actor; row = rows.Made proc made }) ≡ true → (desk_of s proc).reports ≡ waiting ++ reports.Done job outcome None ∷ [] → IsFragmentTask job.task → made.doc.0 ≡ job.doc.0 → AreDesksIn (then_ (rows.Made proc made))
  fragment_desks proc made job outcome waiting own follows last fragment same =
      desks_on s t proc (λ (desk : Desk). record desk { reports = reports_joined made desk.reports }) desks (λ desk. refl) (made_stay made s.documents) (same_places s.places) (λ is. joined_in t.documents s.places proc made job outcome waiting (desk_of s proc) last fragment same (made_again s.documents t.documents s.places s.places (made_stay made s.documents) (same_places s.places) proc made own) is) are
    where
      t : Seen
      t = then_ (rows.Made proc made)

      desks : t.desks ≡ on_desk proc (λ (desk : Desk). record desk { reports = reports_joined made desk.reports }) s.desks
      desks = ap (λ (b : Bool). on_desk proc (desks_made b made) s.desks) follows

  -- ---- a report is delivered

  pub delivered_desks : (proc : ProcId) → NoDeath (slice_get (desk_of s proc).reports 0) → AreDesksIn (then_ (rows.Delivered proc))
  delivered_desks proc fine =
      desks_on s (then_ (rows.Delivered proc)) proc desk_delivered refl (λ desk. refl) (delivered_stay s.documents (slice_get (desk_of s proc).reports 0) fine) (delivered_at s (slice_get (desk_of s proc).reports 0) fine) (λ is. delivered_in (then_ (rows.Delivered proc)).documents (then_ (rows.Delivered proc)).places proc (desk_of s proc) is) are

-- ---- a request is refused

-- by the coordinator, or as the user asks
pub denied_desks : (s : Seen) (event : ℕ) (actor : Actor) (req : ReqId) (reason : Denial) → ((proc : ProcId) → actor ≡ actors.Proc proc → ⊥) → AreDesksIn s → AreDesksIn (after s (record { event = event; actor = actor; row = rows.Refused req reason }))
denied_desks s event actors.Start req reason no_process are = desks_same s (after s (record { event = event; actor = actors.Start; row = rows.Refused req reason })) refl (same_documents s.documents) (same_places s.places) are
denied_desks s event actors.Ui req reason no_process are = desks_same s (after s (record { event = event; actor = actors.Ui; row = rows.Refused req reason })) refl (same_documents s.documents) (same_places s.places) are
denied_desks s event actors.Coord req reason no_process are = desks_same s (after s (record { event = event; actor = actors.Coord; row = rows.Refused req reason })) refl (same_documents s.documents) (same_places s.places) are
denied_desks s event (actors.Proc proc) req reason no_process are = absurd (no_process proc refl)

-- by its process
pub unmade_desks : (s : Seen) (event : ℕ) (proc : ProcId) (req : ReqId) (reason : Denial) → AreDesksIn s → AreDesksIn (after s (record { event = event; actor = actors.Proc proc; row = rows.Refused req reason }))
unmade_desks s event proc req reason are =
    desks_on s (after s (record { event = event; actor = actors.Proc proc; row = rows.Refused req reason })) proc (λ (desk : Desk). record desk { input = drop 1 desk.input }) refl (λ desk. refl) (same_documents s.documents) (same_places s.places) (λ is. unpoked_in s.documents s.places proc (desk_of s proc) is) are

-- as the tab opens no process has anything
pub opened_desks : (event : ℕ) (actor : Actor) (entry : EntryId) (state : StateId) (doc : DocId) (proc : ProcId) (slot : Option ℕ) (address : List ℕ) → AreDesksIn (after nothing (record { event = event; actor = actor; row = rows.Opened entry state doc proc slot address }))
opened_desks event actor entry state doc proc slot address other = by_proc (proc.0 == other.0)
  where
    opened : Seen
    opened = after nothing (record { event = event; actor = actor; row = rows.Opened entry state doc proc slot address })

    by_proc : (b : Bool) → IsDeskIn opened.documents opened.places other (let d : Desk = cond b (empty_desk proc) (empty_desk other) in d)
    by_proc true = record { orders = tt; told = tt; pokes = tt }
    by_proc false = record { orders = tt; told = tt; pokes = tt }
