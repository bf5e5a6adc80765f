-- Each document's process has a desk, from row to row.
use Rattle.std.proofs.Common.{◌≡◌, ℕ, Bool, true, false, cond, ◌&&◌, ◌||◌, ◌==◌, List, [], ◌∷◌, ◌++◌, map, Option, Some, None, refl, sym, ap, ◌∙◌}
use Rattle.std.specs.Prelude.{drop, find, is_none, slice_get}
use Rattle.std.specs.List.{list_all}
use Rattle.std.specs.Option.{option_map_or}
use Rattle.std.proofs.lemmas.Bool.{and_parts}
use Rattle.std.proofs.lemmas.List.Folds.{list_all-append}
use Rattle.tab_ids.specs.declared.DocId.{DocId}
use Rattle.tab_ids.specs.declared.ProcId.{ProcId}
use Rattle.tab_ids.specs.declared.ReqId.{ReqId}
use Rattle.log_model.specs.declared.action.Action.{Action}
use Rattle.log_model.specs.declared.change.Change.{Change}
use Rattle.log_model.specs.declared.change.Change.TheVariants as changes
use Rattle.log_model.specs.declared.job.Job.{Job}
use Rattle.log_model.specs.declared.job.Task.{Task}
use Rattle.log_model.specs.declared.job.Task.TheVariants as tasks
use Rattle.log_model.specs.declared.made.Made.{Made}
use Rattle.log_model.specs.declared.made.Report.{Report}
use Rattle.log_model.specs.declared.made.Report.TheVariants as reports
use Rattle.log_model.specs.declared.outcome.Outcome.{Outcome}
use Rattle.log_model.specs.declared.outcome.Outcome.TheVariants as outcomes
use Rattle.log_model.specs.declared.request.Request.{Request}
use Rattle.log_model.specs.declared.request.Request.TheVariants as requests
use Rattle.log_model.specs.declared.row_kind.Actor.{Actor}
use Rattle.log_model.specs.declared.row_kind.Actor.TheVariants as actors
use Rattle.log_model.specs.declared.row_kind.RowKind.{RowKind}
use Rattle.log_model.specs.declared.row_kind.RowKind.TheVariants as rows
use Rattle.log_model.specs.Seen.{Desk, Document, Seen, document_of, desk_of}
use Rattle.log_model.specs.After.{after, desk_delivered, desk_dropped, desk_finished, desk_killed, desk_taken, desks_accepted, desks_after, desks_made, desks_refused, follows_finished, on_desk, poked}
use Rattle.log_model.specs.AfterDocuments.{addressed, applied_to, documents_after, documents_delivered, documents_finished, documents_sent, new_document, on_document, slot_finished, task_in_hand, told_after_change}
use Rattle.log_model.specs.AfterPlaces.{is_dead_by}
use Rattle.log_model.proofs.Refl.{nat_eq_refl}
use Rattle.unasked.specs.Premises.{all_sited, has_desk}
use Rattle.unasked.proofs.Whole.{row_of}

-- ---- desks

-- a change of a desk that keeps its process
abbrev pub KeepsProc : (Desk → Desk) → Type 0
KeepsProc f = (desk : Desk) → (f desk).proc ≡ desk.proc

-- a process keeps its desk as one is changed
pub desk_kept : (f : Desk → Desk) → KeepsProc f → (proc : ProcId) (desks : List Desk) (p : ProcId) → has_desk desks p ≡ true → has_desk (on_desk proc f desks) p ≡ true
desk_kept f keeps proc [] p there = cc
desk_kept f keeps proc (desk ∷ desks) p there =
    by_test (desk.proc.0 == proc.0) (desk.proc.0 == p.0) refl there (desk_kept f keeps proc desks p)
  where
    by_test : (b c : Bool) → (desk.proc.0 == p.0) ≡ c → (c || has_desk desks p) ≡ true → (has_desk desks p ≡ true → has_desk (on_desk proc f desks) p ≡ true) → has_desk (cond b (f desk ∷ desks) (desk ∷ on_desk proc f desks)) p ≡ true
    by_test true c e there more =
        ap (λ (x : ProcId). (x.0 == p.0) || has_desk desks p) (keeps desk) ∙ ap (λ x. x || has_desk desks p) e ∙ there
    by_test false true e there more = ap (λ x. x || has_desk (on_desk proc f desks) p) e
    by_test false false e there more = ap (λ x. x || has_desk (on_desk proc f desks) p) e ∙ more there

-- the process whose desk is changed has one
pub desk_put : (f : Desk → Desk) → KeepsProc f → (proc : ProcId) (desks : List Desk) → has_desk (on_desk proc f desks) proc ≡ true
desk_put f keeps proc [] =
    ap (λ (x : ProcId). (x.0 == proc.0) || false) (keeps _) ∙ ap (λ b. b || false) (nat_eq_refl proc.0)
desk_put f keeps proc (desk ∷ desks) = by_test (desk.proc.0 == proc.0) refl (desk_put f keeps proc desks)
  where
    by_test : (b : Bool) → (desk.proc.0 == proc.0) ≡ b → has_desk (on_desk proc f desks) proc ≡ true → has_desk (cond b (f desk ∷ desks) (desk ∷ on_desk proc f desks)) proc ≡ true
    by_test true e more =
        ap (λ (x : ProcId). (x.0 == proc.0) || has_desk desks proc) (keeps desk) ∙ ap (λ x. x || has_desk desks proc) e
    by_test false e more = ap (λ x. x || has_desk (on_desk proc f desks) proc) e ∙ more

-- a change of each desk
pub desks_kept : (f : Desk → Desk) → KeepsProc f → (desks : List Desk) (p : ProcId) → has_desk desks p ≡ true → has_desk (map f desks) p ≡ true
desks_kept f keeps [] p there = cc
desks_kept f keeps (desk ∷ desks) p there =
    ap (λ (x : ProcId). (x.0 == p.0) || has_desk (map f desks) p) (keeps desk)
    ∙ by_test (desk.proc.0 == p.0) there (desks_kept f keeps desks p)
  where
    by_test : (b : Bool) → (b || has_desk desks p) ≡ true → (has_desk desks p ≡ true → has_desk (map f desks) p ≡ true) → (b || has_desk (map f desks) p) ≡ true
    by_test true there more = refl
    by_test false there more = more there

-- a row that opens the tab
abbrev pub is_opening : RowKind → Bool
is_opening (rows.Opened entry state doc proc slot address) = true
is_opening _ = false

module _ (s : Seen) (event : ℕ) (actor : Actor) (p : ProcId) (there : has_desk s.desks p ≡ true) where
  -- a poke that waits
  pub poked_kept : (req : ReqId) (doc : DocId) (action : Action) → has_desk (poked s req doc action) p ≡ true
  poked_kept req doc action = by_found (document_of s doc)
    where
      by_found : (o : Option Document) → has_desk (option_map_or (λ (d : Document). on_desk d.proc (λ desk. record desk { input = desk.input ++ record { req = req; doc = doc; action = action } ∷ [] }) s.desks) o s.desks) p ≡ true
      by_found None = there
      by_found (Some d) = desk_kept (λ desk. record desk { input = desk.input ++ record { req = req; doc = doc; action = action } ∷ [] }) (λ desk. refl) d.proc s.desks p there

  -- a request that is accepted
  pub accepted_kept : (req : ReqId) (doc : Option DocId) (what : Request) → has_desk (desks_accepted s req doc what) p ≡ true
  accepted_kept req None what = there
  accepted_kept req (Some doc) (requests.Poke nav action) = poked_kept req doc action
  accepted_kept req (Some doc) (requests.Load nav mode address) = there
  accepted_kept req (Some doc) (requests.Go delta) = there
  accepted_kept req (Some doc) (requests.Reload nav) = there

  -- a poke that is refused
  pub refused_kept : (a : Actor) → has_desk (desks_refused s.desks a) p ≡ true
  refused_kept (actors.Proc proc) = desk_kept (λ desk. record desk { input = drop 1 desk.input }) (λ desk. refl) proc s.desks p there
  refused_kept actors.Start = there
  refused_kept actors.Ui = there
  refused_kept actors.Coord = there

  -- what is made of a poke, or of an order
  pub made_keeps : (joins : Bool) (made : Made) → KeepsProc (desks_made joins made)
  made_keeps true made desk = refl
  made_keeps false made desk = refl

  -- each row but that which opens the tab
  pub desks_stay : (kind : RowKind) → is_opening kind ≡ false → has_desk (desks_after s (row_of event actor kind)) p ≡ true
  desks_stay (rows.Opened entry state doc proc slot address) is = absurd cc
  desks_stay (rows.Accepted req doc what) is = accepted_kept req doc what
  desks_stay (rows.Started req goal) is = there
  desks_stay (rows.Applied req change) is = there
  desks_stay (rows.Refused req reason) is = refused_kept actor
  desks_stay (rows.Dropped req cause) is = desks_kept (desk_dropped req) (λ desk. refl) s.desks p there
  desks_stay (rows.Prompted req doc) is = there
  desks_stay (rows.Answered req stay) is = there
  desks_stay (rows.Sent job) is = desk_kept (λ desk. record desk { mail = desk.mail ++ job ∷ [] }) (λ desk. refl) job.proc s.desks p there
  desks_stay (rows.Taken proc nr live dirty) is = desk_kept (desk_taken live dirty) (λ desk. refl) proc s.desks p there
  desks_stay (rows.Finished proc nr outcome) is = desk_kept (desk_finished outcome) (λ desk. refl) proc s.desks p there
  desks_stay (rows.Made proc made) is =
      let joins = follows_finished s (row_of event actor (rows.Made proc made)) in
      desk_kept (desks_made joins made) (made_keeps joins made) proc s.desks p there
  desks_stay (rows.Delivered proc) is = desk_kept desk_delivered (λ desk. refl) proc s.desks p there
  desks_stay (rows.Killed proc death) is = desk_kept (desk_killed death) (λ desk. refl) proc s.desks p there
  desks_stay (rows.Evicted state) is = there

-- ---- documents

-- a change of a document that keeps its process
abbrev pub KeepsHome : (Document → Document) → Type 0
KeepsHome f = (d : Document) → (f d).proc ≡ d.proc

-- a test of each document's process
abbrev pub at_home : (ProcId → Bool) → List Document → Bool
at_home test documents = list_all (λ (d : Document). test d.proc) documents

-- it says the same after a change of each document
pub home_map : (test : ProcId → Bool) (f : Document → Document) → KeepsHome f → (documents : List Document) → at_home test (map f documents) ≡ at_home test documents
home_map test f keeps [] = refl
home_map test f keeps (d ∷ documents) = λ i. test (keeps d i) && home_map test f keeps documents i

-- a change of some documents alone
pub home_if : (test : Document → Bool) (f : Document → Document) → KeepsHome f → KeepsHome (λ d. cond (test d) (f d) d)
home_if test f keeps d = elim (test d) as (λ b. (let x : Document = cond b (f d) d in x).proc ≡ d.proc) [ true ↦ keeps d | false ↦ refl ]

-- or of one
pub home_on : (test : ProcId → Bool) (doc : DocId) (f : Document → Document) → KeepsHome f → (documents : List Document) → at_home test (on_document doc f documents) ≡ at_home test documents
home_on test doc f keeps documents =
    home_map test (λ d. cond (d.nr.0 == doc.0) (f d) d) (home_if (λ d. d.nr.0 == doc.0) f keeps) documents

-- a test that says the same, or more
pub home_more : (test more : ProcId → Bool) → ((p : ProcId) → test p ≡ true → more p ≡ true) → (documents : List Document) → at_home test documents ≡ true → at_home more documents ≡ true
home_more test more grows [] all = refl
home_more test more grows (d ∷ documents) all =
    let parts = and_parts (test d.proc) (at_home test documents) all in
    λ i. (grows d.proc parts.0 ∙ refl) i && home_more test more grows documents parts.1 i

-- a change of the history
pub change_keeps : (change : Change) → KeepsHome (λ d. applied_to change (told_after_change d change))
change_keeps (changes.Push nav entry state address memo) d =
    home_if (λ (x : Document). x.nr.0 == entry.maker) (λ x. record x { last_applied = entry.nr }) (λ x. refl) (told_after_change d (changes.Push nav entry state address memo))
    ∙ home_if (λ (x : Document). x.nr.0 == entry.maker) (λ x. record x { told = None }) (λ x. refl) d
change_keeps (changes.Replace nav over entry state address memo) d =
    home_if (λ (x : Document). x.nr.0 == entry.maker) (λ x. record x { last_applied = entry.nr }) (λ x. refl) d
change_keeps (changes.Reload nav) d =
    home_if (λ (x : Document). x.nav.0 == nav.0) (λ x. record x { is_fresh = false }) (λ x. refl) d
change_keeps (changes.AddFrame owner nav entry state) d = refl
change_keeps (changes.RemoveFrame nav) d = refl
change_keeps (changes.Traverse goal) d = refl
change_keeps changes.Edit d = refl

module _ (test : ProcId → Bool) where
  -- an order that is finished
  pub home_finished : (documents : List Document) (hand : Option Job) → at_home test (documents_finished documents hand) ≡ at_home test documents
  home_finished documents None = refl
  home_finished documents (Some job) = home_on test job.doc _ (λ d. refl) documents

  -- the handler of a document that was made
  pub home_slot : (documents : List Document) (hand : Option Job) (outcome : Outcome) → at_home test (slot_finished documents hand outcome) ≡ at_home test documents
  home_slot documents None outcome = refl
  home_slot documents (Some job) (outcomes.Populated slot) = home_on test job.doc (λ d. record d { slot = slot }) (λ d. refl) documents
  home_slot documents (Some job) outcomes.Activated = refl
  home_slot documents (Some job) outcomes.Updated = refl
  home_slot documents (Some job) outcomes.Frozen = refl
  home_slot documents (Some job) outcomes.Discarded = refl
  home_slot documents (Some job) (outcomes.Asked verdict) = refl
  home_slot documents (Some job) outcomes.Fragmented = refl

  -- a report that is delivered
  pub home_delivered : (documents : List Document) (report : Option Report) → at_home test (documents_delivered documents report) ≡ at_home test documents
  home_delivered documents None = refl
  home_delivered documents (Some (reports.Made made)) = refl
  home_delivered documents (Some (reports.Died death)) =
      home_map test _ (home_if (is_dead_by death) (λ d. record d { is_known_dead = true }) (λ d. refl)) documents
  home_delivered documents (Some (reports.Done job (outcomes.Populated slot) made)) =
      home_on test job.doc (λ d. record d { is_ready = true; is_fresh = true }) (λ d. refl) documents
  home_delivered documents (Some (reports.Done job outcomes.Activated made)) = refl
  home_delivered documents (Some (reports.Done job outcomes.Updated made)) = refl
  home_delivered documents (Some (reports.Done job outcomes.Frozen made)) = refl
  home_delivered documents (Some (reports.Done job outcomes.Discarded made)) = refl
  home_delivered documents (Some (reports.Done job (outcomes.Asked verdict) made)) = refl
  home_delivered documents (Some (reports.Done job outcomes.Fragmented made)) = refl

  -- an order that is sent, where its process passes
  pub home_sent : (s : Seen) (job : Job) (task : Task) → test job.proc ≡ true → at_home test s.documents ≡ true → at_home test (documents_sent s job task) ≡ true
  home_sent s job (tasks.Populate nav state address initial) own all =
      list_all-append (λ (d : Document). test d.proc) s.documents (new_document s job nav state ∷ [])
      ∙ (λ i. all i && (own i && true))
  home_sent s job tasks.Discard own all = home_on test job.doc (λ d. record d { is_discarded = true }) (λ d. refl) s.documents ∙ all
  home_sent s job (tasks.Activate entry epoch length index memo address) own all =
      home_on test job.doc (addressed (tasks.Activate entry epoch length index memo address)) (λ d. refl) s.documents ∙ all
  home_sent s job (tasks.Update length index) own all =
      home_on test job.doc (addressed (tasks.Update length index)) (λ d. refl) s.documents ∙ all
  home_sent s job tasks.Freeze own all = home_on test job.doc (addressed tasks.Freeze) (λ d. refl) s.documents ∙ all
  home_sent s job (tasks.Ask slot cause) own all =
      home_on test job.doc (addressed (tasks.Ask slot cause)) (λ d. refl) s.documents ∙ all
  home_sent s job (tasks.DoFragment req mode address) own all =
      home_on test job.doc (addressed (tasks.DoFragment req mode address)) (λ d. refl) s.documents ∙ all

-- ---- the rows

module _ (s : Seen) (event : ℕ) (actor : Actor) where
  -- where a row leaves the documents' processes
  pub same_sited : (kind : RowKind) → is_opening kind ≡ false → ((test : ProcId → Bool) → at_home test (documents_after s kind) ≡ at_home test s.documents) → all_sited s ≡ true → all_sited (after s (row_of event actor kind)) ≡ true
  same_sited kind is same all =
      same (has_desk (desks_after s (row_of event actor kind)))
      ∙ home_more (has_desk s.desks) (has_desk (desks_after s (row_of event actor kind))) (λ p there. desks_stay s event actor p there kind is) s.documents all

  -- each document's process has a desk, whatever row comes
  pub sited_stays : (kind : RowKind) → all_sited s ≡ true → all_sited (after s (row_of event actor kind)) ≡ true
  sited_stays (rows.Opened entry state doc proc slot address) all = ap (λ b. (b || false) && true) (nat_eq_refl proc.0)
  sited_stays (rows.Sent job) all =
      let new = desks_after s (row_of event actor (rows.Sent job)) in
      home_sent (has_desk new) s job job.task (desk_put (λ desk. record desk { mail = desk.mail ++ job ∷ [] }) (λ desk. refl) job.proc s.desks) (home_more (has_desk s.desks) (has_desk new) (λ p there. desks_stay s event actor p there (rows.Sent job) refl) s.documents all)
  sited_stays (rows.Accepted req doc what) all = same_sited (rows.Accepted req doc what) refl (λ test. refl) all
  sited_stays (rows.Started req goal) all = same_sited (rows.Started req goal) refl (λ test. refl) all
  sited_stays (rows.Applied req change) all =
      same_sited (rows.Applied req change) refl (λ test. home_map test _ (change_keeps change) s.documents) all
  sited_stays (rows.Refused req reason) all = same_sited (rows.Refused req reason) refl (λ test. refl) all
  sited_stays (rows.Dropped req cause) all = same_sited (rows.Dropped req cause) refl (λ test. refl) all
  sited_stays (rows.Prompted req doc) all = same_sited (rows.Prompted req doc) refl (λ test. refl) all
  sited_stays (rows.Answered req stay) all = same_sited (rows.Answered req stay) refl (λ test. refl) all
  sited_stays (rows.Taken proc nr live dirty) all = same_sited (rows.Taken proc nr live dirty) refl (λ test. refl) all
  sited_stays (rows.Finished proc nr outcome) all =
      same_sited (rows.Finished proc nr outcome) refl (λ test. home_slot test (documents_finished s.documents (task_in_hand s proc)) (task_in_hand s proc) outcome ∙ home_finished test s.documents (task_in_hand s proc)) all
  sited_stays (rows.Made proc made) all =
      same_sited (rows.Made proc made) refl (λ test. home_on test made.doc _ (λ d. refl) s.documents) all
  sited_stays (rows.Delivered proc) all =
      same_sited (rows.Delivered proc) refl (λ test. home_delivered test s.documents (slice_get (desk_of s proc).reports 0)) all
  sited_stays (rows.Killed proc death) all =
      same_sited (rows.Killed proc death) refl (λ test. home_map test _ (home_if (λ d. d.proc.0 == proc.0 && is_none d.dead_by) (λ d. record d { dead_by = Some death; view = None }) (λ d. refl)) s.documents) all
  sited_stays (rows.Evicted state) all = same_sited (rows.Evicted state) refl (λ test. refl) all

-- a document that is found has a process with a desk
pub found_sited : (s : Seen) (doc : DocId) (d : Document) → document_of s doc ≡ Some d → all_sited s ≡ true → has_desk s.desks d.proc ≡ true
found_sited s doc d found all = within s.documents found all
  where
    within : (documents : List Document) → find (λ (x : Document). x.nr.0 == doc.0) documents ≡ Some d → at_home (has_desk s.desks) documents ≡ true → has_desk s.desks d.proc ≡ true
    within [] f all_ = absurd cc
    within (x ∷ documents) f all_ =
        let parts = and_parts (has_desk s.desks x.proc) (at_home (has_desk s.desks) documents) all_ in
        by_test (x.nr.0 == doc.0) f parts.0 (λ g. within documents g parts.1)
      where
        by_test : (b : Bool) → (let o : Option Document = cond b (Some x) (find (λ (y : Document). y.nr.0 == doc.0) documents) in o) ≡ Some d → has_desk s.desks x.proc ≡ true → (find (λ (y : Document). y.nr.0 == doc.0) documents ≡ Some d → has_desk s.desks d.proc ≡ true) → has_desk s.desks d.proc ≡ true
        by_test true g there more = let it : x ≡ d = cc in sym (ap (λ (y : Document). has_desk s.desks y.proc) it) ∙ there
        by_test false g there more = more g
