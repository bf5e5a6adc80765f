-- The slots stay those of the log over each row but those that open a log, finish an order, or deliver a report.
use Rattle.log_model.specs.After.{after, desk_killed, desk_taken, desks_accepted, desks_made, desks_refused, follows_finished, on_desk}
use Rattle.log_model.specs.AfterDocuments.{addressed, applied_to, documents_after, documents_sent, new_document, told_after_change, with_applied}
use Rattle.log_model.specs.Seen.{Desk, Document, Seen, desk_of, document_of}
use Rattle.log_model.specs.Views.{View, after_made}
use Rattle.log_model.specs.declared.action.Action.{Action}
use Rattle.log_model.specs.declared.change.Change.TheVariants as changes
use Rattle.log_model.specs.declared.change.Change.{Change}
use Rattle.log_model.specs.declared.job.Job.{Job}
use Rattle.log_model.specs.declared.job.Task.TheVariants as tasks
use Rattle.log_model.specs.declared.job.Task.{Task}
use Rattle.log_model.specs.declared.made.Made.{Made}
use Rattle.log_model.specs.declared.made.Report.TheVariants as reports
use Rattle.log_model.specs.declared.request.Poke.{Poke}
use Rattle.log_model.specs.declared.request.Request.TheVariants as requests
use Rattle.log_model.specs.declared.request.Request.{Request}
use Rattle.log_model.specs.declared.row_kind.Actor.TheVariants as actors
use Rattle.log_model.specs.declared.row_kind.Actor.{Actor}
use Rattle.log_model.specs.declared.row_kind.RowKind.TheVariants as rows
use Rattle.log_model.specs.declared.row_kind.RowKind.{RowKind}
use Rattle.seen_facts.proofs.Each.Eaches.{each_more}
use Rattle.seen_facts.specs.Each.Items.{Each}
use Rattle.slot_facts.proofs.Changes.{KeepsSlot, SlotsStay, all_tell, keeps_if, known_then, slots_mapped, slots_more, slots_on, slots_same}
use Rattle.slot_facts.proofs.Told.{AllTell, told_dropped, told_joined, told_made, told_on}
use Rattle.slot_facts.specs.Slots.{AreSlots, TellsSlot}
use Rattle.std.proofs.Common.{Bool, List, None, Option, Some, [], drop, false, refl, true, ℕ, ◌++◌, ◌&&◌, ◌==◌, ◌∷◌, ◌≡◌}
use Rattle.std.specs.Option.{option_map_or}
use Rattle.std.specs.Prelude.{is_none, option_map}
use Rattle.tab_ids.specs.declared.DocId.{DocId}
use Rattle.tab_ids.specs.declared.EntryId.{EntryId}
use Rattle.tab_ids.specs.declared.ReqId.{ReqId}

-- ---- documents

itself : KeepsSlot (λ (d : Document). d)
itself = record { nr = λ d. refl; slot = λ d. refl; ready = λ d. refl }

keeps_then : (f g : Document → Document) → KeepsSlot f → KeepsSlot g → KeepsSlot (λ d. g (f d))
keeps_then f g one two =
    record {
      nr = λ d. (let a : (g (f d)).nr ≡ (f d).nr = two.nr (f d) in rw a (one.nr d));
      slot = λ d. (let a : (g (f d)).slot ≡ (f d).slot = two.slot (f d) in rw a (one.slot d));
      ready = λ d. (let a : (g (f d)).is_ready ≡ (f d).is_ready = two.ready (f d) in rw a (one.ready d));
    }

told_keeps : (change : Change) → KeepsSlot (λ d. told_after_change d change)
told_keeps (changes.Push nav entry state address memo) = keeps_if (λ d. d.nr.0 == entry.maker) (λ d. record d { told = None }) (record { nr = λ d. refl; slot = λ d. refl; ready = λ d. refl })
told_keeps (changes.Replace nav over entry state address memo) = itself
told_keeps (changes.AddFrame owner nav entry state) = itself
told_keeps (changes.RemoveFrame nav) = itself
told_keeps (changes.Traverse goal) = itself
told_keeps (changes.Reload nav) = itself
told_keeps changes.Edit = itself

with_keeps : (entry : EntryId) → KeepsSlot (with_applied entry)
with_keeps entry = keeps_if (λ d. d.nr.0 == entry.maker) (λ d. record d { last_applied = entry.nr }) (record { nr = λ d. refl; slot = λ d. refl; ready = λ d. refl })

applied_keeps : (change : Change) → KeepsSlot (applied_to change)
applied_keeps (changes.Push nav entry state address memo) = with_keeps entry
applied_keeps (changes.Replace nav over entry state address memo) = with_keeps entry
applied_keeps (changes.Reload nav) = keeps_if (λ d. d.nav.0 == nav.0) (λ d. record d { is_fresh = false }) (record { nr = λ d. refl; slot = λ d. refl; ready = λ d. refl })
applied_keeps (changes.AddFrame owner nav entry state) = itself
applied_keeps (changes.RemoveFrame nav) = itself
applied_keeps (changes.Traverse goal) = itself
applied_keeps changes.Edit = itself

addressed_keeps : (task : Task) → KeepsSlot (addressed task)
addressed_keeps task = record { nr = λ d. refl; slot = λ d. refl; ready = λ d. refl }

sent_stay : (s : Seen) (job : Job) (task : Task) → SlotsStay s.documents (documents_sent s job task)
sent_stay s job (tasks.Populate nav state address initial) = slots_more s.documents (new_document s job nav state) refl
sent_stay s job tasks.Discard = slots_on job.doc (λ d. record d { is_discarded = true }) s.documents (record { nr = λ d. refl; slot = λ d. refl; ready = λ d. refl })
sent_stay s job (tasks.Activate entry epoch length index memo address) = slots_on job.doc (addressed (tasks.Activate entry epoch length index memo address)) s.documents (addressed_keeps (tasks.Activate entry epoch length index memo address))
sent_stay s job (tasks.Update length index) = slots_on job.doc (addressed (tasks.Update length index)) s.documents (addressed_keeps (tasks.Update length index))
sent_stay s job tasks.Freeze = slots_on job.doc (addressed tasks.Freeze) s.documents (addressed_keeps tasks.Freeze)
sent_stay s job (tasks.Ask slot cause) = slots_on job.doc (addressed (tasks.Ask slot cause)) s.documents (addressed_keeps (tasks.Ask slot cause))
sent_stay s job (tasks.DoFragment req mode address) = slots_on job.doc (addressed (tasks.DoFragment req mode address)) s.documents (addressed_keeps (tasks.DoFragment req mode address))

-- ---- the rows

-- the row neither opens a log nor finishes an order nor delivers a report
abbrev pub IsPlain : RowKind → Type 0
IsPlain (rows.Opened entry state doc proc slot address) = ⊥
IsPlain (rows.Finished proc job outcome) = ⊥
IsPlain (rows.Delivered proc) = ⊥
IsPlain _ = Unit {0}

module _ (s : Seen) (event : ℕ) (actor : Actor) where
  abbrev after_row : RowKind → Seen
  after_row kind = after s (record { event = event; actor = actor; row = kind })

  documents_stay : (kind : RowKind) → IsPlain kind → SlotsStay s.documents (documents_after s kind)
  documents_stay (rows.Opened entry state doc proc slot address) never = absurd never
  documents_stay (rows.Finished proc job outcome) never = absurd never
  documents_stay (rows.Delivered proc) never = absurd never
  documents_stay (rows.Applied req change) plain =
      slots_mapped (λ d. applied_to change (told_after_change d change)) s.documents (keeps_then (λ d. told_after_change d change) (applied_to change) (told_keeps change) (applied_keeps change))
  documents_stay (rows.Sent job) plain = sent_stay s job job.task
  documents_stay (rows.Made proc made) plain =
      slots_on made.doc (λ d. record d { view = option_map (λ (view : View). after_made view made.what) d.view }) s.documents (record { nr = λ d. refl; slot = λ d. refl; ready = λ d. refl })
  documents_stay (rows.Killed proc death) plain =
      slots_mapped _ s.documents (keeps_if (λ (d : Document). d.proc.0 == proc.0 && is_none d.dead_by) (λ d. record d { dead_by = Some death; view = None }) (record { nr = λ d. refl; slot = λ d. refl; ready = λ d. refl }))
  documents_stay (rows.Accepted req doc what) plain = slots_same s.documents
  documents_stay (rows.Refused req reason) plain = slots_same s.documents
  documents_stay (rows.Started req goal) plain = slots_same s.documents
  documents_stay (rows.Dropped req cause) plain = slots_same s.documents
  documents_stay (rows.Prompted req doc) plain = slots_same s.documents
  documents_stay (rows.Answered req stay) plain = slots_same s.documents
  documents_stay (rows.Taken proc job live dirty) plain = slots_same s.documents
  documents_stay (rows.Evicted state) plain = slots_same s.documents

  -- ---- the lists of processes

  abbrev joining : ReqId → DocId → Action → Desk → Desk
  joining req doc action desk = record desk { input = desk.input ++ (let poke : Poke = record { req = req; doc = doc; action = action } in poke) ∷ [] }

  accepted_tell : (documents : List Document) (req : ReqId) (doc : Option DocId) (what : Request) → AllTell documents s.desks → AllTell documents (desks_accepted s req doc what)
  accepted_tell documents req None what told = told
  accepted_tell documents req (Some doc) (requests.Load nav mode address) told = told
  accepted_tell documents req (Some doc) (requests.Reload nav) told = told
  accepted_tell documents req (Some doc) (requests.Go delta) told = told
  accepted_tell documents req (Some doc) (requests.Poke nav action) told = by_document (document_of s doc)
    where
      by_document : (o : Option Document) → AllTell documents (option_map_or (λ (d : Document). on_desk d.proc (joining req doc action) s.desks) o s.desks)
      by_document None = told
      by_document (Some d) = told_on documents (joining req doc action) s.desks d.proc (λ desk. refl) (told d.proc) told

  refused_tell : (documents : List Document) (by : Actor) → AllTell documents s.desks → AllTell documents (desks_refused s.desks by)
  refused_tell documents (actors.Proc proc) told = told_on documents (λ desk. record desk { input = drop 1 desk.input }) s.desks proc (λ desk. refl) (told proc) told
  refused_tell documents actors.Start told = told
  refused_tell documents actors.Ui told = told
  refused_tell documents actors.Coord told = told

  made_tell : (documents : List Document) (made : Made) (joins : Bool) (desk : Desk) → Each (TellsSlot documents) desk.reports → Each (TellsSlot documents) (desks_made joins made desk).reports
  made_tell documents made true desk told = told_joined documents made desk.reports told
  made_tell documents made false desk told = told_made documents desk.reports made made.what told

  made_proc : (made : Made) (joins : Bool) (desk : Desk) → (desks_made joins made desk).proc ≡ desk.proc
  made_proc made true desk = refl
  made_proc made false desk = refl

  desks_tell : (documents : List Document) (kind : RowKind) → IsPlain kind → AllTell documents s.desks → AllTell documents (after_row kind).desks
  desks_tell documents (rows.Opened entry state doc proc slot address) never told = absurd never
  desks_tell documents (rows.Finished proc job outcome) never told = absurd never
  desks_tell documents (rows.Delivered proc) never told = absurd never
  desks_tell documents (rows.Accepted req doc what) plain told = accepted_tell documents req doc what told
  desks_tell documents (rows.Refused req reason) plain told = refused_tell documents actor told
  desks_tell documents (rows.Sent job) plain told = told_on documents (λ desk. record desk { mail = desk.mail ++ job ∷ [] }) s.desks job.proc (λ desk. refl) (told job.proc) told
  desks_tell documents (rows.Taken proc job live dirty) plain told = told_on documents (desk_taken live dirty) s.desks proc (λ desk. refl) (told proc) told
  desks_tell documents (rows.Made proc made) plain told =
      let joins : Bool = follows_finished s (record { event = event; actor = actor; row = rows.Made proc made }) in
      told_on documents (desks_made joins made) s.desks proc (made_proc made joins) (made_tell documents made joins (desk_of s proc) (told proc)) told
  desks_tell documents (rows.Dropped req cause) plain told = told_dropped documents req s.desks told
  desks_tell documents (rows.Killed proc death) plain told =
      told_on documents (desk_killed death) s.desks proc (λ desk. refl) (each_more (TellsSlot documents) (desk_of s proc).reports (reports.Died death) (told proc) tt) told
  desks_tell documents (rows.Started req goal) plain told = told
  desks_tell documents (rows.Applied req change) plain told = told
  desks_tell documents (rows.Prompted req doc) plain told = told
  desks_tell documents (rows.Answered req stay) plain told = told
  desks_tell documents (rows.Evicted state) plain told = told

  -- the slots stay
  pub plain_slots : (kind : RowKind) → IsPlain kind → (slots : List (DocId × ℕ)) → AreSlots s slots → AreSlots (after_row kind) slots
  plain_slots kind plain slots are =
      let stay : SlotsStay s.documents (after_row kind).documents = documents_stay kind plain in
      record {
        known = known_then s.documents (after_row kind).documents slots stay are.known;
        told = desks_tell (after_row kind).documents kind plain (λ proc. all_tell s.documents (after_row kind).documents stay (desk_of s proc).reports (are.told proc));
      }
