-- Rows that change a process in its input alone, and no document and no place: what doesn't look at the input stays.
use Rattle.std.proofs.Common.{◌≡◌, ℕ, Bool, true, false, cond, ◌==◌, List, [], ◌∷◌, ◌++◌, drop, Option, Some, None, refl, sym, ap, ◌∙◌, subst}
use Rattle.std.specs.Prelude.{map}
use Rattle.tab_ids.specs.declared.DocId.{DocId}
use Rattle.tab_ids.specs.declared.EntryId.{EntryId}
use Rattle.tab_ids.specs.declared.Epoch.{Epoch}
use Rattle.tab_ids.specs.declared.ProcId.{ProcId}
use Rattle.tab_ids.specs.declared.ReqId.{ReqId}
use Rattle.tab_ids.specs.declared.StateId.{StateId}
use Rattle.tab_ids.specs.declared.Step.{Step}
use Rattle.log_model.specs.declared.outcome.Cause.{Cause}
use Rattle.log_model.specs.declared.outcome.Denial.{Denial}
use Rattle.log_model.specs.declared.outcome.Ending.TheVariants as endings
use Rattle.log_model.specs.declared.request.Poke.{Poke}
use Rattle.log_model.specs.declared.request.Request.{Request}
use Rattle.log_model.specs.declared.request.Request.TheVariants as requests
use Rattle.log_model.specs.declared.row_kind.Actor.{Actor}
use Rattle.log_model.specs.declared.row_kind.Actor.TheVariants as actors
use Rattle.log_model.specs.declared.row_kind.RowKind.{RowKind}
use Rattle.log_model.specs.declared.row_kind.RowKind.TheVariants as rows
use Rattle.log_model.specs.Equal.{has_req}
use Rattle.log_model.specs.Seen.{Seen, Document, Desk, Place, document_of, desk_of, desk_in, empty_desk, place_in}
use Rattle.log_model.specs.After.{after, on_desk, desk_dropped, ended}
use Rattle.log_model.specs.AfterRequests.{on_request, request_begun}
use Rattle.seen_laws.proofs.Desks.{desk_on_same, desk_on_other}
use Rattle.seen_facts.specs.Coord.Leading.{held_back, EachAwake, EachLeads}
use Rattle.seen_facts.specs.Coord.Epochs.{EachIsWithin}
use Rattle.seen_facts.specs.Coord.Reaching.{Reaches, EachReaches}
use Rattle.seen_facts.proofs.Coord.Leadings.{proc_same, LeadsIn, leads_again}
use Rattle.seen_facts.proofs.Coord.Kept.{unread_stays, same_places}
use Rattle.seen_facts.proofs.Coord.Held.{held_more, held_on, without_same}
use Rattle.seen_facts.proofs.Coord.Within.{within_more}
use Rattle.seen_facts.proofs.Coord.Withins.{WithinIn, within_again, unmoved}
use Rattle.seen_facts.proofs.Coord.WithinLeft.{each_unread, within_blind}

-- ---- the desks

-- each process is as it was, but for its input
abbrev pub DesksLeft : Seen → Seen → Type 0
DesksLeft s next =
    (proc : ProcId) → (input : List Poke) × (desk_of next proc ≡ record (desk_of s proc) { input = input })

-- all desks are changed, none but in its input
pub desk_mapped : (f : Desk → Desk) (desks : List Desk) (proc : ProcId) → ((desk : Desk) → (f desk).proc ≡ desk.proc) → f (empty_desk proc) ≡ empty_desk proc → desk_in (map f desks) proc ≡ f (desk_in desks proc)
desk_mapped f [] proc keeps empty = sym empty
desk_mapped f (desk ∷ desks) proc keeps empty =
    ap (λ (p : ProcId). let d : Desk = cond (p.0 == proc.0) (f desk) (desk_in (map f desks) proc) in d) (keeps desk)
    ∙ by_test (desk.proc.0 == proc.0) (desk_mapped f desks proc keeps empty)
  where
    by_test : (b : Bool) → desk_in (map f desks) proc ≡ f (desk_in desks proc) → (let d : Desk = cond b (f desk) (desk_in (map f desks) proc) in d) ≡ f (let d : Desk = cond b desk (desk_in desks proc) in d)
    by_test true more = refl
    by_test false more = more

-- one desk is changed in its input
one_left : (s next : Seen) (p : ProcId) (input : Desk → List Poke) → next.desks ≡ on_desk p (λ (desk : Desk). record desk { input = input desk }) s.desks → DesksLeft s next
one_left s next p input desks proc = by_process (p.0 == proc.0) refl
  where
    f : Desk → Desk
    f desk = record desk { input = input desk }

    by_process : (b : Bool) → (p.0 == proc.0) ≡ b → (now : List Poke) × (desk_of next proc ≡ record (desk_of s proc) { input = now })
    by_process true e =
        let same : p ≡ proc = proc_same p proc e in
        let own : desk_of next p ≡ f (desk_of s p) = ap (λ (l : List Desk). desk_in l p) desks ∙ desk_on_same f s.desks p (λ desk. refl) in
        subst (λ (x : ProcId). (now : List Poke) × (desk_of next x ≡ record (desk_of s x) { input = now })) same (input (desk_of s p), own)
    by_process false e =
        ((desk_of s proc).input, ap (λ (l : List Desk). desk_in l proc) desks ∙ desk_on_other f s.desks p proc (λ desk. refl) e)

same_left : (s next : Seen) → next.desks ≡ s.desks → DesksLeft s next
same_left s next same proc =
    ((desk_of s proc).input, ap (λ (l : List Desk). desk_in l proc) same)

-- ---- the rows

abbrev pub next : Seen → ℕ → Actor → RowKind → Seen
next s event actor row = after s (record { event = event; actor = actor; row = row })

pub dropped_left : (s : Seen) (event : ℕ) (actor : Actor) (req : ReqId) (cause : Cause) → DesksLeft s (next s event actor (rows.Dropped req cause))
dropped_left s event actor req cause proc =
    ((desk_dropped req (desk_of s proc)).input, desk_mapped (desk_dropped req) s.desks proc (λ desk. refl) refl)

pub refused_left : (s : Seen) (event : ℕ) (actor : Actor) (req : ReqId) (reason : Denial) → DesksLeft s (next s event actor (rows.Refused req reason))
refused_left s event actors.Start req reason = same_left s (next s event actors.Start (rows.Refused req reason)) refl
refused_left s event actors.Ui req reason = same_left s (next s event actors.Ui (rows.Refused req reason)) refl
refused_left s event actors.Coord req reason = same_left s (next s event actors.Coord (rows.Refused req reason)) refl
refused_left s event (actors.Proc proc) req reason =
    one_left s (next s event (actors.Proc proc) (rows.Refused req reason)) proc (λ desk. drop 1 desk.input) refl

pub started_left : (s : Seen) (event : ℕ) (actor : Actor) (req : ReqId) (goal : Option Step) → DesksLeft s (next s event actor (rows.Started req goal))
started_left s event actor req goal = same_left s (next s event actor (rows.Started req goal)) refl

pub prompted_left : (s : Seen) (event : ℕ) (actor : Actor) (req : ReqId) (doc : DocId) → DesksLeft s (next s event actor (rows.Prompted req doc))
prompted_left s event actor req doc = same_left s (next s event actor (rows.Prompted req doc)) refl

pub answered_left : (s : Seen) (event : ℕ) (actor : Actor) (req : ReqId) (stay : Bool) → DesksLeft s (next s event actor (rows.Answered req stay))
answered_left s event actor req stay = same_left s (next s event actor (rows.Answered req stay)) refl

pub evicted_left : (s : Seen) (event : ℕ) (actor : Actor) (state : StateId) → DesksLeft s (next s event actor (rows.Evicted state))
evicted_left s event actor state = same_left s (next s event actor (rows.Evicted state)) refl

-- a poke joins the input of its document's process
module _ (s : Seen) (event : ℕ) (actor : Actor) (req : ReqId) (doc : Option DocId) (what : Request) where
  abbrev pub after_acceptance : Seen
  after_acceptance = next s event actor (rows.Accepted req doc what)

  by_request : (doc_ : Option DocId) (what_ : Request) → doc ≡ doc_ → what ≡ what_ → DesksLeft s after_acceptance
  by_request (Some x) (requests.Poke nav action) is_doc is_what = by_found (document_of s x) refl
    where
      by_found : (o : Option Document) → document_of s x ≡ o → DesksLeft s after_acceptance
      by_found None e = same_left s after_acceptance (rw (is_doc, is_what) (rw e refl))
      by_found (Some home) e =
          one_left s after_acceptance home.proc (λ desk. desk.input ++ record { req = req; doc = x; action = action } ∷ []) (rw (is_doc, is_what) (rw e refl))
  by_request (Some x) (requests.Load nav mode address) is_doc is_what =
      same_left s after_acceptance (rw (is_doc, is_what) refl)
  by_request (Some x) (requests.Go delta) is_doc is_what =
      same_left s after_acceptance (rw (is_doc, is_what) refl)
  by_request (Some x) (requests.Reload nav) is_doc is_what =
      same_left s after_acceptance (rw (is_doc, is_what) refl)
  by_request None what_ is_doc is_what = same_left s after_acceptance (rw is_doc refl)

  pub accepted_left : DesksLeft s after_acceptance
  accepted_left = by_request doc what refl refl

-- ---- facts

-- a fact of the document of an awake navigable, and one of any document, that doesn't look at the input
abbrev pub IsBlind : (Desk → Document → Option EntryId → Epoch → Type 0) → Type 0
IsBlind F =
    (desk : Desk) (input : List Poke) (d : Document) (given : Option EntryId) (epoch : Epoch) → F desk d given epoch → F (record desk { input = input }) d given epoch

pub left_stays : (F : Desk → Document → Option EntryId → Epoch → Type 0) (s t : Seen) → IsBlind F → DesksLeft s t → t.documents ≡ s.documents → t.places ≡ s.places → EachAwake F s → EachAwake F t
left_stays F s t blind left documents places each =
    unread_stays F s t
    (record {
      documents = documents;
      places = same_places s t places;
      stays_on = λ d given epoch is. subst (λ (desk : Desk). F desk d given epoch) (sym (left d.proc).1) (blind (desk_of s d.proc) (left d.proc).0 d given epoch is);
    })
    each

pub leads_blind : (s : Seen) → IsBlind (LeadsIn s)
leads_blind s desk input d given epoch is =
    record {
      face = is.face;
      is_given = is.is_given;
      is_row = is.is_row;
      view = is.view;
      pending = is.pending;
      leads = is.leads;
      runs = is.runs;
      in_epoch = is.in_epoch;
      pair = is.pair;
    }

pub reaches_blind : IsBlind (λ desk d given epoch. Reaches desk d epoch)
reaches_blind desk input d given epoch is = record { reached = is.reached; last = is.last }

-- what is on its way, with the history's rows and what is held back as they were
pub left_leads : (s t : Seen) → DesksLeft s t → t.documents ≡ s.documents → t.places ≡ s.places → t.history.rows ≡ s.history.rows → held_back t.requests t.parked ≡ held_back s.requests s.parked → EachLeads s → EachLeads t
left_leads s t left documents places rows_ held each =
    leads_again s t rows_ held (left_stays (LeadsIn s) s t (leads_blind s) left documents places each)

pub left_reaches : (s t : Seen) → DesksLeft s t → t.documents ≡ s.documents → t.places ≡ s.places → EachReaches s → EachReaches t
left_reaches s t left documents places each =
    left_stays (λ desk d given epoch. Reaches desk d epoch) s t reaches_blind left documents places each

pub left_within : (s t : Seen) → DesksLeft s t → t.documents ≡ s.documents → t.places ≡ s.places → held_back t.requests t.parked ≡ held_back s.requests s.parked → EachIsWithin s → EachIsWithin t
left_within s t left documents places held each =
    within_again s t held
    (each_unread (WithinIn s) s t documents (λ nav place placed. unmoved s nav place (ap (λ (l : List Place). place_in l nav) (sym places) ∙ placed)) (λ desk d m n more is. within_more (held_back s.requests s.parked) desk d m n more is) (λ d bound is. subst (λ (desk : Desk). WithinIn s desk d bound) (sym (left d.proc).1) (within_blind (held_back s.requests s.parked) (desk_of s d.proc) (left d.proc).0 d bound is)) each)

-- ---- what is held back, over these rows

pub dropped_held : (s : Seen) (event : ℕ) (actor : Actor) (req : ReqId) (cause : Cause) → has_req s.parked req ≡ false → held_back (next s event actor (rows.Dropped req cause)).requests (next s event actor (rows.Dropped req cause)).parked ≡ held_back s.requests s.parked
dropped_held s event actor req cause none =
    ap (λ (parked : List ReqId). held_back (ended s.requests req (endings.Dropped cause)) parked) (without_same s.parked req none)
    ∙ held_on s.requests s.parked req (λ q. record q { ending = Some (endings.Dropped cause) }) (λ q. refl)

pub refused_held : (s : Seen) (event : ℕ) (actor : Actor) (req : ReqId) (reason : Denial) → has_req s.parked req ≡ false → held_back (next s event actor (rows.Refused req reason)).requests (next s event actor (rows.Refused req reason)).parked ≡ held_back s.requests s.parked
refused_held s event actor req reason none =
    ap (λ (parked : List ReqId). held_back (ended s.requests req (endings.Refused reason)) parked) (without_same s.parked req none)
    ∙ held_on s.requests s.parked req (λ q. record q { ending = Some (endings.Refused reason) }) (λ q. refl)

pub started_held : (s : Seen) (event : ℕ) (actor : Actor) (req : ReqId) (goal : Option Step) → held_back (next s event actor (rows.Started req goal)).requests s.parked ≡ held_back s.requests s.parked
started_held s event actor req goal =
    held_on (on_request req (λ q. record q { is_started = true; goal = goal }) s.requests) s.parked req (request_begun s) (λ q. refl)
    ∙ held_on s.requests s.parked req (λ q. record q { is_started = true; goal = goal }) (λ q. refl)

pub accepted_held : (s : Seen) (event : ℕ) (actor : Actor) (req : ReqId) (doc : Option DocId) (what : Request) → held_back (next s event actor (rows.Accepted req doc what)).requests s.parked ≡ held_back s.requests s.parked
accepted_held s event actor req doc what = held_more s.requests s.parked req doc what

pub prompted_held : (s : Seen) (event : ℕ) (actor : Actor) (req : ReqId) (doc : DocId) → held_back (next s event actor (rows.Prompted req doc)).requests s.parked ≡ held_back s.requests s.parked
prompted_held s event actor req doc =
    held_on s.requests s.parked req (λ q. record q { prompted = Some doc }) (λ q. refl)

pub answered_held : (s : Seen) (event : ℕ) (actor : Actor) (req : ReqId) (stay : Bool) → held_back (next s event actor (rows.Answered req stay)).requests s.parked ≡ held_back s.requests s.parked
answered_held s event actor req stay =
    held_on s.requests s.parked req (λ q. record q { answered = Some stay }) (λ q. refl)
