-- What is on its way stays so over a row: an order that is finished, taken up or told, and rows that change nothing that is read.
use Rattle.std.proofs.Common.{◌≡◌, ℕ, Bool, true, false, ◌==◌, List, length, Option, Some, None, refl, sym, ap, ◌∙◌, subst}
use Rattle.std.specs.Prelude.{slice_get, option_map}
use Rattle.tab_ids.specs.declared.DocId.{DocId}
use Rattle.tab_ids.specs.declared.EntryId.{EntryId}
use Rattle.tab_ids.specs.declared.Epoch.{Epoch}
use Rattle.tab_ids.specs.declared.NavId.{NavId}
use Rattle.tab_ids.specs.declared.ProcId.{ProcId}
use Rattle.log_model.specs.declared.job.Job.{Job}
use Rattle.log_model.specs.declared.job.Order.{Order}
use Rattle.log_model.specs.declared.job.Task.{Task}
use Rattle.log_model.specs.declared.job.Task.TheVariants as tasks
use Rattle.log_model.specs.declared.outcome.Outcome.{Outcome}
use Rattle.log_model.specs.declared.outcome.Outcome.TheVariants as outcomes
use Rattle.log_model.specs.declared.row_kind.Actor.{Actor}
use Rattle.log_model.specs.declared.row_kind.Actor.TheVariants as actors
use Rattle.log_model.specs.declared.row_kind.RowKind.TheVariants as rows
use Rattle.log_model.specs.Seen.{Seen, Document, Desk, Asked, Place, document_of, desk_of, desk_in, place_in, place_of}
use Rattle.log_model.specs.After.{after, on_desk, on_document, desk_finished, desk_taken}
use Rattle.log_model.specs.AfterDocuments.{addressed, slot_finished, documents_finished, documents_sent}
use Rattle.log_model.specs.AfterPlaces.{places_sent}
use Rattle.log_model.specs.AfterRequests.{requests_finished, requests_sent}
use Rattle.log_model.proofs.Refl.{nat_eq_refl}
use Rattle.seen_laws.proofs.Keyed.{find_has}
use Rattle.seen_laws.proofs.Desks.{desk_on_same, desk_on_other}
use Rattle.seen_facts.specs.Coord.Leading.{is_live_order, once_finished, held_back, EachAwake, EachLeads}
use Rattle.seen_facts.proofs.Coord.Leadings.{proc_same, WasAwake, EachWasAwake, as_placed, IsOneChange, one_stays, LeadsIn, at_home, leads_again}
use Rattle.seen_facts.proofs.Coord.OneDocument.{leads_alike, finished_own, finished_other, taken_alike, mailed, mailed_other, updated_leads}

-- ---- an order is finished

-- the order in hand of a process is to a document of that process, in the incarnation that lives
pub record IsInHand (s : Seen) (proc : ProcId) (order : Order) : Type 0 where
  pub hand : (desk_of s proc).in_hand ≡ Some order
  pub lives : order.job.incarnation ≡ length (desk_of s proc).killed
  pub home : (d : Document) → document_of s order.job.doc ≡ Some d → d.proc ≡ proc

-- the document made nothing, wasn't made, and answered no question
abbrev pub IsPlainOutcome : Outcome → Type 0
IsPlainOutcome outcomes.Activated = Unit {0}
IsPlainOutcome outcomes.Updated = Unit {0}
IsPlainOutcome outcomes.Frozen = Unit {0}
IsPlainOutcome outcomes.Discarded = Unit {0}
IsPlainOutcome _ = ⊥

no_slot : (documents : List Document) (job : Job) (outcome : Outcome) → IsPlainOutcome outcome → slot_finished documents (Some job) outcome ≡ documents
no_slot documents job outcomes.Activated is = refl
no_slot documents job outcomes.Updated is = refl
no_slot documents job outcomes.Frozen is = refl
no_slot documents job outcomes.Discarded is = refl
no_slot documents job _ is = elim is [ ]

no_answer : (s : Seen) (order : Order) (outcome : Outcome) (asked : List Asked) → IsPlainOutcome outcome → requests_finished s (Some order) outcome asked ≡ asked
no_answer s order outcomes.Activated asked is = refl
no_answer s order outcomes.Updated asked is = refl
no_answer s order outcomes.Frozen asked is = refl
no_answer s order outcomes.Discarded asked is = refl
no_answer s order _ asked is = elim is [ ]

-- the order is a live one of its document
pub is_mine : (doc : DocId) (incarnation : ℕ) (job : Job) → job.doc.0 ≡ doc.0 → job.incarnation ≡ incarnation → is_live_order doc incarnation job ≡ true
is_mine doc incarnation job doc_is lives =
    rw (doc_is, lives) (rw (nat_eq_refl doc.0) (nat_eq_refl incarnation))

module _ (s : Seen) (event : ℕ) (proc : ProcId) (order : Order) (outcome : Outcome) (in_ : IsInHand s proc order) (plain : IsPlainOutcome outcome) where
  abbrev pub after_finish : Seen
  after_finish =
      after s (record { event = event; actor = actors.Proc proc; row = rows.Finished proc order.job.nr outcome })

  pub finished_documents : after_finish.documents ≡ on_document order.job.doc (λ d. once_finished d order.job) s.documents
  finished_documents =
      ap (λ (job : Option Job). slot_finished (documents_finished s.documents job) job outcome) (ap (λ (o : Option Order). option_map (λ (x : Order). x.job) o) in_.hand)
      ∙ no_slot (documents_finished s.documents (Some order.job)) order.job outcome plain

  pub finished_requests : after_finish.requests ≡ s.requests
  finished_requests =
      ap (λ (o : Option Order). requests_finished s o outcome s.requests) in_.hand ∙ no_answer s order outcome s.requests plain

  finished_change : EachLeads s → IsOneChange (LeadsIn s) s after_finish proc (desk_finished outcome) order.job.doc (λ d. once_finished d order.job)
  finished_change each =
      record {
        desks = refl;
        documents = finished_documents;
        keeps_proc = λ desk. refl;
        keeps_number = λ d. refl;
        stays = λ d. refl;
        home = in_.home;
        own = λ nav place d placed wakes there. leads_alike s.history.rows (held_back s.requests s.parked) (desk_of s proc) (desk_finished outcome (desk_of s proc)) d (once_finished d order.job) place.given place.epoch (finished_own (held_back s.requests s.parked) (desk_of s proc) order outcome d place.epoch in_.hand (is_mine d.nr (length (desk_of s proc).killed) order.job (sym (find_has (λ (x : Document). x.nr.0) order.job.doc.0 s.documents d there)) in_.lives)) (at_home s proc d place.given place.epoch (in_.home d there) (each nav place order.job.doc d placed wakes there));
        others = λ nav place at placed wakes apart. as_placed s nav place placed;
        other = λ d given epoch apart leads. leads_alike s.history.rows (held_back s.requests s.parked) (desk_of s proc) (desk_finished outcome (desk_of s proc)) d d given epoch (finished_other (held_back s.requests s.parked) (desk_of s proc) order outcome d epoch in_.hand apart) leads;
      }

  pub finished_leads : EachLeads s → EachLeads after_finish
  finished_leads each =
      leads_again s after_finish refl (ap (λ (asked : List Asked). held_back asked s.parked) finished_requests)
      (one_stays (LeadsIn s) s after_finish proc (desk_finished outcome) order.job.doc (λ d. once_finished d order.job) (finished_change each) each)

-- ---- an Update is sent

-- the order goes to the process of its document, in the incarnation that lives
pub record IsSentHome (s : Seen) (job : Job) : Type 0 where
  pub lives : job.incarnation ≡ length (desk_of s job.proc).killed
  pub home : (d : Document) → document_of s job.doc ≡ Some d → d.proc ≡ job.proc

module _ (s : Seen) (event : ℕ) (actor : Actor) (job : Job) (long at : ℕ) (task : job.task ≡ tasks.Update long at) (sent : IsSentHome s job) where
  abbrev after_update : Seen
  after_update = after s (record { event = event; actor = actor; row = rows.Sent job })

  pub was_placed : (nav : NavId) (place : Place) → place_of after_update nav ≡ Some place → place_of s nav ≡ Some place
  was_placed nav place placed =
      ap (λ (places : List Place). place_in places nav) (sym (ap (λ (t : Task). places_sent s job t) task)) ∙ placed

  update_change : EachLeads s → IsOneChange (LeadsIn s) s after_update job.proc (mailed job) job.doc (addressed job.task)
  update_change each =
      record {
        desks = refl;
        documents = ap (λ (t : Task). documents_sent s job t) task ∙ ap (λ (t : Task). on_document job.doc (addressed t) s.documents) (sym task);
        keeps_proc = λ desk. refl;
        keeps_number = λ d. refl;
        stays = λ d. refl;
        home = sent.home;
        own = λ nav place d placed wakes there. updated_leads s.history.rows (held_back s.requests s.parked) (desk_of s job.proc) d job long at place.given place.epoch task (is_mine d.nr (length (desk_of s job.proc).killed) job (sym (find_has (λ (x : Document). x.nr.0) job.doc.0 s.documents d there)) sent.lives) (at_home s job.proc d place.given place.epoch (sent.home d there) (each nav place job.doc d (was_placed nav place placed) wakes there));
        others = λ nav place at_ placed wakes apart. as_placed s nav place (was_placed nav place placed);
        other = λ d given epoch apart leads. leads_alike s.history.rows (held_back s.requests s.parked) (desk_of s job.proc) (mailed job (desk_of s job.proc)) d d given epoch (mailed_other (held_back s.requests s.parked) (desk_of s job.proc) job d epoch apart) leads;
      }

  pub update_leads : EachLeads s → EachLeads after_update
  update_leads each =
      leads_again s after_update refl (ap (λ (asked : List Asked). held_back asked s.parked) (ap (λ (t : Task). requests_sent s job t s.requests) task))
      (one_stays (LeadsIn s) s after_update job.proc (mailed job) job.doc (addressed job.task) (update_change each) each)

-- ---- nothing that is read changes

-- a fact of a document that holds with one desk holds with another, whatever was given and under whatever epoch
abbrev pub StaysOn : (Desk → Document → Option EntryId → Epoch → Type 0) → Document → Desk → Desk → Type 0
StaysOn F d desk next_desk = (given : Option EntryId) (epoch : Epoch) → F desk d given epoch → F next_desk d given epoch

-- no document is changed, and the fact stays with each one's desk
pub record IsNoChange (F : Desk → Document → Option EntryId → Epoch → Type 0) (s next : Seen) : Type 0 where
  pub documents : next.documents ≡ s.documents
  pub places : EachWasAwake s next
  pub stays_on : (d : Document) → StaysOn F d (desk_of s d.proc) (desk_of next d.proc)

pub unread_stays : (F : Desk → Document → Option EntryId → Epoch → Type 0) (s next : Seen) → IsNoChange F s next → EachAwake F s → EachAwake F next
unread_stays F s next is each nav place doc d placed wakes found =
    let was : WasAwake s nav place = is.places nav place placed in
    let there : document_of s doc ≡ Some d = ap (λ (documents : List Document). document_of (record s { documents = documents }) doc) (sym is.documents) ∙ found in
    let before : F (desk_of s d.proc) d was.before.given was.before.epoch = each nav was.before doc d was.there (was.status ∙ wakes) there in
    let held : F (desk_of s d.proc) d place.given place.epoch = subst (λ (given : Option EntryId). F (desk_of s d.proc) d given place.epoch) was.given (subst (λ (epoch : Epoch). F (desk_of s d.proc) d was.before.given epoch) was.epoch before) in
    is.stays_on d place.given place.epoch held

-- the places are as they were
pub same_places : (s next : Seen) → next.places ≡ s.places → EachWasAwake s next
same_places s next same nav place placed =
    record {
      before = place;
      there = ap (λ (places : List Place). place_in places nav) (sym same) ∙ placed;
      status = refl;
      given = refl;
      epoch = refl;
    }

-- one desk changes, and the fact stays with it for each document
pub desk_stays_on : (F : Desk → Document → Option EntryId → Epoch → Type 0) (s next : Seen) (proc : ProcId) (f : Desk → Desk) → next.desks ≡ on_desk proc f s.desks → ((desk : Desk) → (f desk).proc ≡ desk.proc) → ((d : Document) → StaysOn F d (desk_of s proc) (f (desk_of s proc))) → (d : Document) → StaysOn F d (desk_of s d.proc) (desk_of next d.proc)
desk_stays_on F s next proc f desks keeps on d given epoch was = by_process (proc.0 == d.proc.0) refl
  where
    by_process : (b : Bool) → (proc.0 == d.proc.0) ≡ b → F (desk_of next d.proc) d given epoch
    by_process true e =
        let same : proc ≡ d.proc = proc_same proc d.proc e in
        let own : desk_of next proc ≡ f (desk_of s proc) = ap (λ (l : List Desk). desk_in l proc) desks ∙ desk_on_same f s.desks proc keeps in
        subst (λ (p : ProcId). F (desk_of next p) d given epoch) same (subst (λ (k : Desk). F k d given epoch) (sym own) (on d given epoch (subst (λ (p : ProcId). F (desk_of s p) d given epoch) (sym same) was)))
    by_process false e =
        let other : desk_of next d.proc ≡ desk_of s d.proc = ap (λ (l : List Desk). desk_in l d.proc) desks ∙ desk_on_other f s.desks proc d.proc keeps e in
        subst (λ (k : Desk). F k d given epoch) (sym other) was

-- a live order is taken up
module _ (s : Seen) (event : ℕ) (proc : ProcId) (job : Job) (dirty : Bool) (free : (desk_of s proc).in_hand ≡ None) (first : slice_get (desk_of s proc).mail 0 ≡ Some job) where
  abbrev after_taking : Seen
  after_taking =
      after s (record { event = event; actor = actors.Proc proc; row = rows.Taken proc job.nr true dirty })

  pub taken_leads : EachLeads s → EachLeads after_taking
  taken_leads each =
      leads_again s after_taking refl refl
      (unread_stays (LeadsIn s) s after_taking
      (record {
        documents = refl;
        places = same_places s after_taking refl;
        stays_on = desk_stays_on (LeadsIn s) s after_taking proc (desk_taken true dirty) refl (λ desk. refl) (λ d given epoch leads. leads_alike s.history.rows (held_back s.requests s.parked) (desk_of s proc) (desk_taken true dirty (desk_of s proc)) d d given epoch (taken_alike (held_back s.requests s.parked) (desk_of s proc) job dirty d epoch free first) leads);
      })
      each)
