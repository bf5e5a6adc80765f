-- A document is to be made: what is true between two rows of the documents of all awake navigables stays, where no row named the document before.
use Rattle.std.proofs.Common.{◌≡◌, ℕ, Bool, true, false, cond, ◌==◌, List, [], ◌∷◌, ◌++◌, length, Option, Some, None, refl, sym, ap, ◌∙◌, subst}
use Rattle.std.specs.Prelude.{find, filter_map}
use Rattle.tab_ids.specs.declared.DocId.{DocId}
use Rattle.tab_ids.specs.declared.EntryId.{EntryId}
use Rattle.tab_ids.specs.declared.Epoch.{Epoch}
use Rattle.tab_ids.specs.declared.NavId.{NavId}
use Rattle.tab_ids.specs.declared.StateId.{StateId}
use Rattle.log_model.specs.declared.job.Job.{Job}
use Rattle.log_model.specs.declared.job.Task.{Task}
use Rattle.log_model.specs.declared.job.Task.TheVariants as tasks
use Rattle.log_model.specs.declared.row_kind.Actor.{Actor}
use Rattle.log_model.specs.declared.row_kind.RowKind.TheVariants as rows
use Rattle.log_model.specs.Seen.{Seen, Document, Desk, Asked, Place, awake, document_of, desk_of, place_of, place_in}
use Rattle.log_model.specs.After.{after, on_document}
use Rattle.log_model.specs.AfterDocuments.{addressed, new_document, documents_sent}
use Rattle.log_model.specs.AfterPlaces.{places_sent}
use Rattle.log_model.specs.AfterRequests.{made_of_report, requests_sent}
use Rattle.seen_facts.specs.Coord.Leading.{orders_for, held_back, EachAwake, EachIsOfItsNavigable}
use Rattle.seen_facts.specs.Coord.Reaching.{Reaches}
use Rattle.seen_facts.specs.Coord.Epochs.{AllWithin, MadeWithin, ShowsWithin, IsWithin, EachDocument}
use Rattle.seen_facts.specs.Coord.Flowing.{Flows}
use Rattle.seen_facts.proofs.Coord.Leadings.{doc_same, as_placed, one_stays, LeadsIn, leads_again}
use Rattle.seen_facts.proofs.Coord.OneDocument.{mailed, mailed_other, leads_alike}
use Rattle.seen_facts.proofs.Coord.Kept.{is_mine}
use Rattle.seen_facts.proofs.Coord.Reached.{mailed_elsewhere}
use Rattle.seen_facts.proofs.Coord.DeliveredMade.{same_documents}
use Rattle.seen_facts.proofs.Coord.EachDocuments.{IsOneOfEach, each_stays}
use Rattle.seen_facts.proofs.Coord.Within.{within_more, sent_within, sent_apart}
use Rattle.seen_facts.proofs.Coord.Withins.{WithinIn, within_again, unmoved}

some_same : {A : Type 0} {a b : A} → (let o : Option A = Some a in o) ≡ Some b → a ≡ b
some_same e = cc

-- ---- one joins a list

-- what is found then is the one that joined, or was found before
find_joined : {A : Type 0} (test : A → Bool) (xs : List A) (y x : A) → find test (xs ++ y ∷ []) ≡ Some x → test y ≡ false → find test xs ≡ Some x
find_joined {A} test [] y x found not_it =
    let no_ : None ≡ Some x = sym (let e : (let o : Option A = cond (test y) (Some y) None in o) ≡ None = rw not_it refl in e) ∙ found in absurd cc
find_joined {A} test (first ∷ xs) y x found not_it = by_test (test first) (λ e. find_joined test xs y x e not_it) found
  where
    by_test : (b : Bool) → (find test (xs ++ y ∷ []) ≡ Some x → find test xs ≡ Some x) → (let o : Option A = cond b (Some first) (find test (xs ++ y ∷ [])) in o) ≡ Some x → (let o : Option A = cond b (Some first) (find test xs) in o) ≡ Some x
    by_test true more e = e
    by_test false more e = more e

-- none of those before passes
find_newest : {A : Type 0} (test : A → Bool) (xs : List A) (y x : A) → find test xs ≡ None → find test (xs ++ y ∷ []) ≡ Some x → y ≡ x
find_newest {A} test [] y x none found = by_test (test y) found
  where
    by_test : (b : Bool) → (let o : Option A = cond b (Some y) None in o) ≡ Some x → y ≡ x
    by_test true e = cc
    by_test false e = cc
find_newest {A} test (first ∷ xs) y x none found = by_test (test first) (λ n e. find_newest test xs y x n e) none found
  where
    by_test : (b : Bool) → (find test xs ≡ None → find test (xs ++ y ∷ []) ≡ Some x → y ≡ x) → (let o : Option A = cond b (Some first) (find test xs) in o) ≡ None → (let o : Option A = cond b (Some first) (find test (xs ++ y ∷ [])) in o) ≡ Some x → y ≡ x
    by_test true more n e = absurd cc
    by_test false more n e = more n e

-- ---- the row

-- no row named the document: it isn't there, no navigable is awake on it, and neither an order nor anything made is of it
pub record IsUnnamed (s : Seen) (job : Job) : Type 0 where
  pub absent : document_of s job.doc ≡ None
  pub unused : (nav : NavId) (place : Place) → place_of s nav ≡ Some place → place.status ≡ awake job.doc → ⊥
  pub orders : orders_for (desk_of s job.proc) job.doc ≡ []
  pub held_back : (bound : ℕ) → MadeWithin bound job.doc (held_back s.requests s.parked)
  pub reports : (bound : ℕ) → MadeWithin bound job.doc (filter_map made_of_report (desk_of s job.proc).reports)

module _ (s : Seen) (event : ℕ) (actor : Actor) (job : Job) (nav : NavId) (state : StateId) (address : List ℕ) (initial : Bool) (task : job.task ≡ tasks.Populate nav state address initial) (lives : job.incarnation ≡ length (desk_of s job.proc).killed) (is : IsUnnamed s job) where
  abbrev pub after_order : Seen
  after_order = after s (record { event = event; actor = actor; row = rows.Sent job })

  abbrev new : Document
  new = new_document s job nav state

  -- the document is there, and nothing else is changed
  abbrev joined : Seen
  joined = record s { documents = s.documents ++ new ∷ [] }

  is_new : (d : Document) → document_of joined job.doc ≡ Some d → new ≡ d
  is_new d found = find_newest (λ (x : Document). x.nr.0 == job.doc.0) s.documents new d is.absent found

  was_there : (doc : DocId) (d : Document) → document_of joined doc ≡ Some d → (job.doc.0 == doc.0) ≡ false → document_of s doc ≡ Some d
  was_there doc d found apart = find_joined (λ (x : Document). x.nr.0 == doc.0) s.documents new d found apart

  awake_joined : (F : Desk → Document → Option EntryId → Epoch → Type 0) → EachAwake F s → EachAwake F joined
  awake_joined F each of place doc d placed wakes found = by_document (job.doc.0 == doc.0) refl
    where
      by_document : (b : Bool) → (job.doc.0 == doc.0) ≡ b → F (desk_of s d.proc) d place.given place.epoch
      by_document true e = absurd (is.unused of place placed (wakes ∙ ap (λ (x : DocId). awake x) (sym (doc_same job.doc doc e))))
      by_document false e = each of place doc d placed wakes (was_there doc d found e)

  places_are : after_order.places ≡ s.places
  places_are = ap (λ (t : Task). places_sent s job t) task

  documents_are : after_order.documents ≡ on_document job.doc (λ d. d) joined.documents
  documents_are = ap (λ (t : Task). documents_sent s job t) task ∙ sym (same_documents job.doc joined.documents)

  was_placed : (of : NavId) (place : Place) → place_of after_order of ≡ Some place → place_of s of ≡ Some place
  was_placed of place placed = ap (λ (l : List Place). place_in l of) (sym places_are) ∙ placed

  home : (d : Document) → document_of joined job.doc ≡ Some d → d.proc ≡ job.proc
  home d found = ap (λ (x : Document). x.proc) (sym (is_new d found))

  order_stays : (F : Desk → Document → Option EntryId → Epoch → Type 0) → ((x : Document) (given : Option EntryId) (epoch : Epoch) → (job.doc.0 == x.nr.0) ≡ false → F (desk_of s job.proc) x given epoch → F (mailed job (desk_of s job.proc)) x given epoch) → EachAwake F s → EachAwake F after_order
  order_stays F other each =
      one_stays F joined after_order job.proc (mailed job) job.doc (λ d. d)
      (record {
        desks = refl;
        documents = documents_are;
        keeps_proc = λ desk. refl;
        keeps_number = λ d. refl;
        stays = λ d. refl;
        home = home;
        own = λ of place d placed wakes there. absurd (is.unused of place (was_placed of place placed) wakes);
        others = λ of place at placed wakes apart. as_placed joined of place (was_placed of place placed);
        other = other;
      })
      (awake_joined F each)

  -- the document has no view, and nothing is of it but this order, which doesn't show it
  new_within : (bound : ℕ) → IsWithin (held_back s.requests s.parked) (desk_of s job.proc) new bound
  new_within bound =
      record {
        view = λ view has. absurd cc;
        orders = subst (AllWithin bound) (sym is.orders) tt;
        held_back = is.held_back bound;
        reports = is.reports bound;
      }

  within_joined : EachDocument (WithinIn s) s → EachDocument (WithinIn s) joined
  within_joined each doc d place found placed = by_document (job.doc.0 == doc.0) refl
    where
      by_document : (b : Bool) → (job.doc.0 == doc.0) ≡ b → WithinIn s (desk_of s d.proc) d place.epoch.0
      by_document true e =
          let same : new ≡ d = is_new d (ap (λ (x : DocId). document_of joined x) (doc_same job.doc doc e) ∙ found) in
          subst (λ (x : Document). WithinIn s (desk_of s x.proc) x place.epoch.0) same (new_within place.epoch.0)
      by_document false e = each doc d place (was_there doc d found e) placed

  within_change : IsOneOfEach (WithinIn s) joined after_order job.proc (mailed job) job.doc (λ d. d)
  within_change =
      record {
        desks = refl;
        documents = documents_are;
        keeps_proc = λ desk. refl;
        keeps_number = λ d. refl;
        stays = λ d. refl;
        stays_in = λ d. refl;
        had = λ of place placed. unmoved joined of place (was_placed of place placed);
        grows = λ desk d m n more was. within_more (held_back s.requests s.parked) desk d m n more was;
        home = home;
        own = λ d place there placed was. sent_populate d place.epoch.0 there was;
        other = λ d bound apart was. sent_apart (held_back s.requests s.parked) (desk_of s job.proc) d job bound apart was;
      }
    where
      sent_populate : (d : Document) (bound : ℕ) → document_of joined job.doc ≡ Some d → WithinIn s (desk_of s job.proc) d bound → WithinIn s (mailed job (desk_of s job.proc)) d bound
      sent_populate d bound there was =
          let sent : WithinIn s (mailed job (desk_of s job.proc)) (addressed job.task d) bound = sent_within (held_back s.requests s.parked) (desk_of s job.proc) d job bound (subst (ShowsWithin bound) (sym task) tt) (is_mine d.nr (length (desk_of s job.proc).killed) job (ap (λ (x : Document). x.nr.0) (is_new d there)) lives) was in
          record { view = sent.view; orders = sent.orders; held_back = sent.held_back; reports = sent.reports }

  order_whose : EachIsOfItsNavigable s → EachIsOfItsNavigable after_order
  order_whose whose of place doc d placed wakes found = by_document (job.doc.0 == doc.0) refl
    where
      there : document_of joined doc ≡ Some d
      there =
          ap (λ (documents : List Document). find (λ (x : Document). x.nr.0 == doc.0) documents) (sym (ap (λ (t : Task). documents_sent s job t) task)) ∙ found

      by_document : (b : Bool) → (job.doc.0 == doc.0) ≡ b → d.nav.0 ≡ of.0
      by_document true e =
          absurd (is.unused of place (was_placed of place placed) (wakes ∙ ap (λ (x : DocId). awake x) (sym (doc_same job.doc doc e))))
      by_document false e = whose of place doc d (was_placed of place placed) wakes (was_there doc d there e)

  order_held : held_back after_order.requests after_order.parked ≡ held_back s.requests s.parked
  order_held = ap (λ (asked : List Asked). held_back asked s.parked) (ap (λ (t : Task). requests_sent s job t s.requests) task)

  pub order_flows : Flows s → Flows after_order
  order_flows flows =
      record {
        leads = leads_again s after_order refl order_held (order_stays (LeadsIn s) (λ x given epoch apart leads. leads_alike s.history.rows (held_back s.requests s.parked) (desk_of s job.proc) (mailed job (desk_of s job.proc)) x x given epoch (mailed_other (held_back s.requests s.parked) (desk_of s job.proc) job x epoch apart) leads) flows.leads);
        whose = order_whose flows.whose;
        reaches = order_stays (λ desk x given epoch. Reaches desk x epoch) (λ x given epoch apart reaches. mailed_elsewhere (desk_of s job.proc) x job epoch apart reaches) flows.reaches;
        within = within_again s after_order order_held (each_stays (WithinIn s) joined after_order job.proc (mailed job) job.doc (λ d. d) within_change (within_joined flows.within));
      }
