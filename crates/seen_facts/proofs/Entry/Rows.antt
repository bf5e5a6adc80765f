-- What is known of entries, over each row that makes nothing, ends nothing and delivers nothing: the tab's opening, requests that begin, questions to the user, orders that are taken up or finished.
use Rattle.std.proofs.Common.{◌≡◌, ℕ, Bool, true, List, [], ◌∷◌, ◌++◌, Option, Some, None, refl, sym, ap, ◌∙◌, subst}
use Rattle.std.specs.Option.{option_map_or}
use Rattle.tab_ids.specs.declared.DocId.{DocId}
use Rattle.tab_ids.specs.declared.JobId.{JobId}
use Rattle.tab_ids.specs.declared.ProcId.{ProcId}
use Rattle.tab_ids.specs.declared.ReqId.{ReqId}
use Rattle.tab_ids.specs.declared.StateId.{StateId}
use Rattle.tab_ids.specs.declared.Step.{Step}
use Rattle.log_model.specs.declared.action.Action.{Action}
use Rattle.log_model.specs.declared.made.Made.{Made}
use Rattle.log_model.specs.declared.request.Request.{Request}
use Rattle.log_model.specs.declared.request.Request.TheVariants as requests
use Rattle.log_model.specs.declared.row_kind.Actor.{Actor}
use Rattle.log_model.specs.declared.row_kind.RowKind.{RowKind}
use Rattle.log_model.specs.declared.row_kind.RowKind.TheVariants as rows
use Rattle.log_model.specs.After.{after, desk_taken, new_request, on_desk, poked}
use Rattle.log_model.specs.AfterRequests.{on_request, request_begun}
use Rattle.log_model.specs.Seen.{Seen, Desk, Document, Place, document_of}
use Rattle.seen_facts.specs.Entry.Entries.{AreEntries}
use Rattle.seen_facts.proofs.Entry.Parts.{GivenBefore, KeepsAsked, SameTold, asked_more, asked_on, asked_then, given_same, goes_entries, home_same, itself_keeps, lists_same, map_itself, same_asked, same_shown, same_told, told_on, view_stays, waits_same}

-- ---- a row that leaves documents, places and the history

-- what such a row leaves
pub record IsQuiet (s t : Seen) : Type 0 where
  pub documents : t.documents ≡ s.documents
  pub places : t.places ≡ s.places
  pub rows_ : t.history.rows ≡ s.history.rows
  pub numbers : t.entries ≡ s.entries
  pub parked : t.parked ≡ s.parked
  pub asked : KeepsAsked s.requests t.requests
  pub told : SameTold s t

pub quiet_entries : (hand : List Made) (s t : Seen) → IsQuiet s t → AreEntries hand s → AreEntries hand t
quiet_entries hand s t quiet are =
    goes_entries hand hand s t
    (record {
      g = λ d. d;
      keeps = itself_keeps;
      applied = λ d. refl;
      documents = quiet.documents ∙ map_itself s.documents;
      views = λ doc d found. view_stays d;
      lists = lists_same hand s t (record { parked = quiet.parked; asked = quiet.asked; told = quiet.told });
      waits = waits_same hand s t (record { parked = quiet.parked; asked = quiet.asked; told = quiet.told }) are;
      home = home_same hand s t quiet.told are;
      shown = same_shown s t quiet.places;
      stays = record { history = quiet.rows_; numbers = quiet.numbers; given = subst (λ (l : List Place). GivenBefore s.places l) (sym quiet.places) (given_same s.places); asked = quiet.asked };
    })
    are

-- ---- the desk of a poked document

poked_told : (s t : Seen) (req : ReqId) (doc : DocId) (action : Action) → t.desks ≡ poked s req doc action → SameTold s t
poked_told s t req doc action are = by_document (document_of s doc) refl
  where
    more : Desk → Desk
    more desk = record desk { input = desk.input ++ record { req = req; doc = doc; action = action } ∷ [] }

    by_document : (o : Option Document) → document_of s doc ≡ o → SameTold s t
    by_document None e = same_told s t (are ∙ ap (λ (o : Option Document). option_map_or (λ (d : Document). on_desk d.proc (λ desk. record desk { input = desk.input ++ record { req = req; doc = doc; action = action } ∷ [] }) s.desks) o s.desks) e)
    by_document (Some d) e =
        told_on s t d.proc (λ desk. record desk { input = desk.input ++ record { req = req; doc = doc; action = action } ∷ [] })
        (are ∙ ap (λ (o : Option Document). option_map_or (λ (d : Document). on_desk d.proc (λ desk. record desk { input = desk.input ++ record { req = req; doc = doc; action = action } ∷ [] }) s.desks) o s.desks) e) (λ desk. refl) refl

-- ---- the rows

module _ (hand : List Made) (s : Seen) (event : ℕ) (actor : Actor) (are : AreEntries hand s) where
  abbrev then_ : RowKind → Seen
  then_ kind = after s (record { event = event; actor = actor; row = kind })

  -- it leaves the processes, too
  requests_alone : (t : Seen) → t.documents ≡ s.documents → t.places ≡ s.places → t.history.rows ≡ s.history.rows → t.entries ≡ s.entries → t.parked ≡ s.parked → SameTold s t → KeepsAsked s.requests t.requests → AreEntries hand t
  requests_alone t documents places rows_ numbers parked told asked =
      quiet_entries hand s t (record { documents = documents; places = places; rows_ = rows_; numbers = numbers; parked = parked; asked = asked; told = told }) are

  pub accepted_entries : (req : ReqId) (doc : Option DocId) (what : Request) → AreEntries hand (then_ (rows.Accepted req doc what))
  accepted_entries req doc what =
      requests_alone (then_ (rows.Accepted req doc what)) refl refl refl refl refl (by_poke doc what refl refl) (asked_more s.requests (new_request req doc what) refl refl)
    where
      by_poke : (o : Option DocId) (w : Request) → doc ≡ o → what ≡ w → SameTold s (after s (record { event = event; actor = actor; row = rows.Accepted req doc what }))
      by_poke (Some d) (requests.Poke nav action) e f = poked_told s (after s (record { event = event; actor = actor; row = rows.Accepted req doc what })) req d action (rw (e, f) refl)
      by_poke (Some d) (requests.Load nav mode address) e f = same_told s (after s (record { event = event; actor = actor; row = rows.Accepted req doc what })) (rw (e, f) refl)
      by_poke (Some d) (requests.Go delta) e f = same_told s (after s (record { event = event; actor = actor; row = rows.Accepted req doc what })) (rw (e, f) refl)
      by_poke (Some d) (requests.Reload nav) e f = same_told s (after s (record { event = event; actor = actor; row = rows.Accepted req doc what })) (rw (e, f) refl)
      by_poke None w e f = same_told s (after s (record { event = event; actor = actor; row = rows.Accepted req doc what })) (rw e refl)

  pub started_entries : (req : ReqId) (goal : Option Step) → AreEntries hand (then_ (rows.Started req goal))
  started_entries req goal =
      requests_alone (then_ (rows.Started req goal)) refl refl refl refl refl (λ proc. refl)
      (asked_then s.requests (on_request req (λ q. record q { is_started = true; goal = goal }) s.requests) (then_ (rows.Started req goal)).requests (asked_on s.requests req (λ q. record q { is_started = true; goal = goal }) (λ q. refl) (λ q. refl)) (asked_on (on_request req (λ q. record q { is_started = true; goal = goal }) s.requests) req (request_begun s) (λ q. refl) (λ q. refl)))

  pub prompted_entries : (req : ReqId) (doc : DocId) → AreEntries hand (then_ (rows.Prompted req doc))
  prompted_entries req doc =
      requests_alone (then_ (rows.Prompted req doc)) refl refl refl refl refl (λ proc. refl) (asked_on s.requests req (λ q. record q { prompted = Some doc }) (λ q. refl) (λ q. refl))

  pub answered_entries : (req : ReqId) (stay : Bool) → AreEntries hand (then_ (rows.Answered req stay))
  answered_entries req stay =
      requests_alone (then_ (rows.Answered req stay)) refl refl refl refl refl (λ proc. refl) (asked_on s.requests req (λ q. record q { answered = Some stay }) (λ q. refl) (λ q. refl))

  pub evicted_entries : (state : StateId) → AreEntries hand (then_ (rows.Evicted state))
  evicted_entries state = requests_alone (then_ (rows.Evicted state)) refl refl refl refl refl (λ proc. refl) (same_asked s.requests)

  pub taken_entries : (proc : ProcId) (job : JobId) (live dirty : Bool) → AreEntries hand (then_ (rows.Taken proc job live dirty))
  taken_entries proc job live dirty =
      requests_alone (then_ (rows.Taken proc job live dirty)) refl refl refl refl refl (told_on s (then_ (rows.Taken proc job live dirty)) proc (desk_taken live dirty) refl (λ desk. refl) refl) (same_asked s.requests)
