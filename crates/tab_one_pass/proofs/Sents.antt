-- No order makes a document stray, and what is read of the requests is as before.
use Rattle.std.proofs.lemmas.List.Folds.{find-append}
use Rattle.std.specs.Option.{option_or}
use Rattle.log_model.specs.Equal.{holds}
use Rattle.seen_laws.specs.Unasked.{is_question}
use Rattle.tab_facts.proofs.Calm.Sents.{usable_was}
use Rattle.tab_facts.specs.Calm.Calm.{HasUsable}
use Rattle.seen_facts.proofs.Load.Rows.{look_blind}
use Rattle.seen_facts.specs.Load.Loading.{look, look_of}
use Rattle.seen_facts.specs.Home.Homes.{document_in}
use Rattle.log_model.specs.After.{after}
use Rattle.log_model.specs.AfterDocuments.{addressed, documents_sent, new_document, on_document}
use Rattle.log_model.specs.Seen.{Document, Seen, document_of}
use Rattle.log_model.specs.declared.job.Job.{Job}
use Rattle.log_model.specs.declared.job.Task.{Task}
use Rattle.log_model.specs.declared.row_kind.RowKind.{RowKind}
use Rattle.seen_facts.proofs.Request.Readers.{sent_reads}
use Rattle.row_facts.proofs.RestRows.Again.{doc_same}
use Rattle.seen_laws.proofs.Keyed.{find_on_other, find_on_same}
use Rattle.seen_laws.specs.InEvent.{InEvent, now_of, row_of}
use Rattle.std.proofs.Common.{Bool, List, None, Option, Some, [], ap, cond, false, inl, inr, refl, sym, true, ◌++◌, ◌==◌, ◌∙◌, ◌∷◌, ◌≡◌, ◌⊎◌}
use Rattle.std.specs.Prelude.{option_map, find}
use Rattle.tab_ids.specs.declared.DocId.{DocId}
use Rattle.row_facts.proofs.Left.Rows.{were_shown}
use Rattle.row_facts.specs.Left.Left.{WereShown}
use Rattle.tab_ids.specs.declared.NavId.{NavId}
use Rattle.tab_ids.specs.declared.ReqId.{ReqId}
use Rattle.tab_ids.specs.declared.StateId.{StateId}
use Rattle.tab_serves.specs.Serving.{HasOnly}
use Rattle.tab_serves.proofs.Orders.{IsOrderOf, over_orders}
use Rattle.tab_sweeps.proofs.Loads.{unloaded_same}
use Rattle.tab_sweeps.specs.Sweeping.{IsStray}
use Rattle.log_model.specs.declared.job.Task.TheVariants as tasks
use Rattle.log_model.specs.declared.row_kind.RowKind.TheVariants as rows

-- any order
abbrev pub IsAnyTask : Task → Type 0
IsAnyTask task = is_question task ≡ false

-- ---- the documents

-- a made document was there, of the same state, and isn't discarded any more than it was
record WasMade (documents : List Document) (doc : DocId) (d : Document) : Type 0 where
  old : Document
  found : document_in documents doc ≡ Some old
  nav : old.nav ≡ d.nav
  state : old.state ≡ d.state
  ready : old.is_ready ≡ true
  undiscarded : d.is_discarded ≡ false → old.is_discarded ≡ false

found_more : (documents : List Document) (new : Document) (doc : DocId) (d : Document) → document_in (documents ++ new ∷ []) doc ≡ Some d → (document_in documents doc ≡ Some d) ⊎ (new ≡ d)
found_more [] new doc d is = by_test (new.nr.0 == doc.0) is
  where
    by_test : (b : Bool) → cond b (Some new) None ≡ Some d → (document_in [] doc ≡ Some d) ⊎ (new ≡ d)
    by_test true e = inr (let same : new ≡ d = cc in same)
    by_test false e = absurd cc
found_more (x ∷ documents) new doc d is = by_test (x.nr.0 == doc.0) is (found_more documents new doc d)
  where
    by_test : (b : Bool) → cond b (Some x) (document_in (documents ++ new ∷ []) doc) ≡ Some d → (document_in (documents ++ new ∷ []) doc ≡ Some d → (document_in documents doc ≡ Some d) ⊎ (new ≡ d)) → (cond b (Some x) (document_in documents doc) ≡ Some d) ⊎ (new ≡ d)
    by_test true e more = inl e
    by_test false e more = more e

-- a change of a document that leaves its number, its state and whether it is made, and undoes no discard
record KeepsMade (f : Document → Document) : Type 0 where
  nr : (d : Document) → (f d).nr.0 ≡ d.nr.0
  nav : (d : Document) → (f d).nav ≡ d.nav
  state : (d : Document) → (f d).state ≡ d.state
  ready : (d : Document) → (f d).is_ready ≡ d.is_ready
  gone : (d : Document) → (f d).is_discarded ≡ false → d.is_discarded ≡ false

on_was : (at : DocId) (f : Document → Document) → KeepsMade f → (documents : List Document) (doc : DocId) (d : Document) → document_in (on_document at f documents) doc ≡ Some d → d.is_ready ≡ true → WasMade documents doc d
on_was at f keeps documents doc d is ready = by_test (at.0 == doc.0) refl
  where
    here : (o : Option Document) → document_in documents at ≡ o → option_map f o ≡ Some d → WasMade documents at d
    here None e never = absurd cc
    here (Some old) e some =
        let same : f old ≡ d = cc in
        record {
          old = old;
          found = e;
          nav = sym (keeps.nav old) ∙ ap (λ (x : Document). x.nav) same;
          state = sym (keeps.state old) ∙ ap (λ (x : Document). x.state) same;
          ready = sym (keeps.ready old) ∙ ap (λ (x : Document). x.is_ready) same ∙ ready;
          undiscarded = λ un. keeps.gone old (ap (λ (x : Document). x.is_discarded) same ∙ un);
        }

    by_test : (b : Bool) → (at.0 == doc.0) ≡ b → WasMade documents doc d
    by_test false e =
        record {
          old = d;
          found = sym (find_on_other (λ (x : Document). x.nr.0) f at.0 doc.0 documents keeps.nr e) ∙ is;
          nav = refl;
          state = refl;
          ready = ready;
          undiscarded = λ un. un;
        }
    by_test true e =
        let same : at ≡ doc = doc_same at doc e in
        let found : option_map f (document_in documents at) ≡ Some d = sym (find_on_same (λ (x : Document). x.nr.0) f at.0 documents keeps.nr) ∙ ap (λ (n : DocId). document_in (on_document at f documents) n) same ∙ is in
        let was : WasMade documents at d = here (document_in documents at) refl found in
        record { old = was.old; found = ap (λ (n : DocId). document_in documents n) (sym same) ∙ was.found; nav = was.nav; state = was.state; ready = was.ready; undiscarded = was.undiscarded }

addressed_keeps : (task : Task) → KeepsMade (addressed task)
addressed_keeps task = record { nr = λ d. refl; nav = λ d. refl; state = λ d. refl; ready = λ d. refl; gone = λ d un. un }

docs_was : (s : Seen) (job : Job) (task : Task) (doc : DocId) (d : Document) → document_in (documents_sent s job task) doc ≡ Some d → d.is_ready ≡ true → WasMade s.documents doc d
docs_was s job (tasks.Populate nav state address initial) doc d is ready =
    by_place (found_more s.documents (new_document s job nav state) doc d is)
  where
    by_place : (document_in s.documents doc ≡ Some d) ⊎ (new_document s job nav state ≡ d) → WasMade s.documents doc d
    by_place (inl found) = record { old = d; found = found; nav = refl; state = refl; ready = ready; undiscarded = λ un. un }
    by_place (inr same) = let never : false ≡ true = ap (λ (x : Document). x.is_ready) same ∙ ready in absurd cc
docs_was s job tasks.Discard doc d is ready =
    on_was job.doc (λ x. record x { is_discarded = true }) (record { nr = λ x. refl; nav = λ x. refl; state = λ x. refl; ready = λ x. refl; gone = λ x un. absurd cc }) s.documents doc d is ready
docs_was s job tasks.Freeze doc d is ready = on_was job.doc (addressed tasks.Freeze) (addressed_keeps tasks.Freeze) s.documents doc d is ready
docs_was s job (tasks.Activate entry epoch length index memo address) doc d is ready =
    on_was job.doc (addressed (tasks.Activate entry epoch length index memo address)) (addressed_keeps (tasks.Activate entry epoch length index memo address)) s.documents doc d is ready
docs_was s job (tasks.Update length index) doc d is ready =
    on_was job.doc (addressed (tasks.Update length index)) (addressed_keeps (tasks.Update length index)) s.documents doc d is ready
docs_was s job (tasks.Ask slot cause) doc d is ready =
    on_was job.doc (addressed (tasks.Ask slot cause)) (addressed_keeps (tasks.Ask slot cause)) s.documents doc d is ready
docs_was s job (tasks.DoFragment req mode address) doc d is ready =
    on_was job.doc (addressed (tasks.DoFragment req mode address)) (addressed_keeps (tasks.DoFragment req mode address)) s.documents doc d is ready

-- ---- one order

sent_looks : (s : Seen) (e : InEvent) (job : Job) (req : ReqId) → look_of (after s (row_of e (rows.Sent job))) req ≡ look_of s req
sent_looks s e job req = sent_reads look look_blind s job job.task s.requests req

-- a document was stray, of this navigable
pub record WasStray (s : Seen) (doc : DocId) (state : StateId) (nav : NavId) : Type 0 where
  pub stray : IsStray s doc state
  pub nav_is : stray.document.nav ≡ nav

-- a stray document was so before
sent_was : (s : Seen) (e : InEvent) (job : Job) (doc : DocId) (state : StateId) (its : IsStray (after s (row_of e (rows.Sent job))) doc state) → WasStray s doc state its.document.nav
sent_was s e job doc state its =
    record {
      stray = record {
        document = was.old;
        found = was.found;
        its_state = was.state ∙ its.its_state;
        ready = was.ready;
        undiscarded = was.undiscarded its.undiscarded;
        bare = its.bare;
        unloaded = unloaded_same s (after s (row_of e (rows.Sent job))) (λ r. sent_looks s e job r) state its.unloaded;
      };
      nav_is = was.nav;
    }
  where
    was : WasMade s.documents doc its.document
    was = docs_was s job job.task doc its.document its.found its.ready

-- ---- any number of them

module _ (e : InEvent) (was out : List RowKind) (only : HasOnly (IsOrderOf IsAnyTask) was out) where
  pub strays_over : (doc : DocId) (state : StateId) (its : IsStray (now_of e out) doc state) → WasStray (now_of e was) doc state its.document.nav
  strays_over =
      over_orders IsAnyTask (λ task is. is) (λ (x : Seen). (doc : DocId) (state : StateId) (its : IsStray x doc state) → WasStray (now_of e was) doc state its.document.nav) (λ x event job is fewer doc state its. one x event job fewer doc state its) e was out only (λ doc state its. record { stray = its; nav_is = refl })
    where
      one : (x : Seen) (event : InEvent) (job : Job) → ((doc : DocId) (state : StateId) (its : IsStray x doc state) → WasStray (now_of e was) doc state its.document.nav) → (doc : DocId) (state : StateId) (its : IsStray (after x (row_of event (rows.Sent job))) doc state) → WasStray (now_of e was) doc state its.document.nav
      one x event job fewer doc state its =
          let before = sent_was x event job doc state its in
          let first = fewer doc state before.stray in
          record { stray = first.stray; nav_is = first.nav_is ∙ before.nav_is }

  pub looks_same : (req : ReqId) → look_of (now_of e out) req ≡ look_of (now_of e was) req
  looks_same req =
      over_orders IsAnyTask (λ task is. is) (λ (x : Seen). look_of x req ≡ look_of (now_of e was) req) (λ x event job is same. sent_looks x event job req ∙ same) e was out only refl

  pub joined_same : (now_of e out).joined ≡ (now_of e was).joined
  joined_same = over_orders IsAnyTask (λ task is. is) (λ (x : Seen). x.joined ≡ (now_of e was).joined) (λ x event job is same. same) e was out only refl

  pub were_same : WereShown (now_of e was) → WereShown (now_of e out)
  were_same = over_orders IsAnyTask (λ task is. is) WereShown (λ x event job is were. were_shown x event.event event.actor were (rows.Sent job) tt) e was out only

-- a document that is usable then was so
pub usable_before : (e : InEvent) (was out : List RowKind) → HasOnly (IsOrderOf IsAnyTask) was out → (state : StateId) → HasUsable (now_of e out) state → HasUsable (now_of e was) state
usable_before e was out only state =
    over_orders IsAnyTask (λ task is. is) (λ (x : Seen). HasUsable x state → HasUsable (now_of e was) state) (λ x event job any before some. before (usable_was x event.event event.actor job state some)) e was out only (λ some. some)

-- ---- discarded documents

abbrev discarded_in : List Document → DocId → Bool
discarded_in docs doc = holds (λ (d : Document). d.is_discarded) (find (λ (d : Document). d.nr.0 == doc.0) docs)

on_discarded : (docs : List Document) (at : DocId) (f : Document → Document) → ((d : Document) → (f d).nr.0 ≡ d.nr.0) → ((d : Document) → d.is_discarded ≡ true → (f d).is_discarded ≡ true) → (doc : DocId) → discarded_in docs doc ≡ true → discarded_in (on_document at f docs) doc ≡ true
on_discarded docs at f nr keeps doc is = by_test (at.0 == doc.0) refl
  where
    by_old : (o : Option Document) → holds (λ (d : Document). d.is_discarded) o ≡ true → holds (λ (d : Document). d.is_discarded) (option_map f o) ≡ true
    by_old (Some d) h = keeps d h
    by_old None h = absurd cc

    by_test : (b : Bool) → (at.0 == doc.0) ≡ b → discarded_in (on_document at f docs) doc ≡ true
    by_test true same =
        let one : at ≡ doc = doc_same at doc same in
        ap (λ (x : DocId). discarded_in (on_document at f docs) x) (sym one)
        ∙ ap (λ (o : Option Document). holds (λ (d : Document). d.is_discarded) o) (find_on_same (λ (d : Document). d.nr.0) f at.0 docs nr)
        ∙ by_old (find (λ (d : Document). d.nr.0 == at.0) docs) (ap (λ (x : DocId). discarded_in docs x) one ∙ is)
    by_test false apart =
        ap (λ (o : Option Document). holds (λ (d : Document). d.is_discarded) o) (find_on_other (λ (d : Document). d.nr.0) f at.0 doc.0 docs nr apart) ∙ is

discarded_sent : (s : Seen) (job : Job) (task : Task) (doc : DocId) → discarded_in s.documents doc ≡ true → discarded_in (documents_sent s job task) doc ≡ true
discarded_sent s job (tasks.Populate nav state address initial) doc is =
    ap (λ (o : Option Document). holds (λ (d : Document). d.is_discarded) o) (find-append (λ (d : Document). d.nr.0 == doc.0) s.documents (new_document s job nav state ∷ []))
    ∙ by_old (find (λ (d : Document). d.nr.0 == doc.0) s.documents) is
  where
    by_old : (o : Option Document) → holds (λ (d : Document). d.is_discarded) o ≡ true → holds (λ (d : Document). d.is_discarded) (option_or o (find (λ (d : Document). d.nr.0 == doc.0) (new_document s job nav state ∷ []))) ≡ true
    by_old (Some d) h = h
    by_old None h = absurd cc
discarded_sent s job tasks.Discard doc is = on_discarded s.documents job.doc (λ (d : Document). record d { is_discarded = true }) (λ d. refl) (λ d h. refl) doc is
discarded_sent s job (tasks.Activate entry epoch length index memo address) doc is =
    on_discarded s.documents job.doc (addressed (tasks.Activate entry epoch length index memo address)) (λ d. refl) (λ d h. h) doc is
discarded_sent s job (tasks.Update length index) doc is = on_discarded s.documents job.doc (addressed (tasks.Update length index)) (λ d. refl) (λ d h. h) doc is
discarded_sent s job tasks.Freeze doc is = on_discarded s.documents job.doc (addressed tasks.Freeze) (λ d. refl) (λ d h. h) doc is
discarded_sent s job (tasks.Ask slot cause) doc is = on_discarded s.documents job.doc (addressed (tasks.Ask slot cause)) (λ d. refl) (λ d h. h) doc is
discarded_sent s job (tasks.DoFragment req mode address) doc is = on_discarded s.documents job.doc (addressed (tasks.DoFragment req mode address)) (λ d. refl) (λ d h. h) doc is

-- what was discarded is so still
pub discarded_over : (e : InEvent) (was out : List RowKind) → HasOnly (IsOrderOf IsAnyTask) was out → (doc : DocId) → holds (λ (d : Document). d.is_discarded) (document_of (now_of e was) doc) ≡ true → holds (λ (d : Document). d.is_discarded) (document_of (now_of e out) doc) ≡ true
discarded_over e was out only doc =
    over_orders IsAnyTask (λ task is. is) (λ (x : Seen). holds (λ (d : Document). d.is_discarded) (document_of x doc) ≡ true) (λ x event job is so. discarded_sent x job job.task doc so) e was out only
