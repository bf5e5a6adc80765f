-- A document is to be made, which no row named before: what is true between two rows of the documents of all awake navigables stays.
use Rattle.seen_facts.proofs.Coord.EachDocuments.{IsOneOfEach, each_stays}
use Rattle.seen_facts.proofs.Coord.Kept.{is_mine}
use Rattle.seen_facts.proofs.Coord.Leadings.{as_placed, doc_same, one_stays}
use Rattle.seen_facts.proofs.Coord.OneDocument.{mailed, mailed_other}
use Rattle.seen_facts.proofs.Coord.Reached.{mailed_elsewhere}
use Rattle.seen_facts.proofs.Coord.Unread.{next}
use Rattle.seen_facts.proofs.Coord.Within.{sent_apart, sent_within, within_more}
use Rattle.seen_facts.proofs.Coord.Withins.{unmoved}
use Rattle.seen_facts.specs.Coord.Epochs.{AllWithin, EachDocument, MadeWithin, ShowsWithin}
use Rattle.seen_facts.specs.Coord.Leading.{EachAwake, EachIsOfItsNavigable, orders_for}
use Rattle.seen_facts.specs.Coord.Reaching.{Reaches}
use Rattle.tab_facts.specs.FrameTab.Desks.{waiting}
use Rattle.tab_facts.proofs.FrameWhole.FlowsAlike.{IfIn, WithinHand, if_again, if_alike, within_if}
use Rattle.tab_facts.proofs.FrameWhole.FlowsShown.{sent_waits}
use Rattle.tab_facts.specs.FrameWhole.Untold.{FlowsIf}
use Rattle.seen_facts.specs.Home.Homes.{document_in}
use Rattle.log_model.specs.After.{on_document}
use Rattle.log_model.specs.AfterDocuments.{addressed, documents_sent, new_document}
use Rattle.log_model.specs.AfterPlaces.{places_sent}
use Rattle.log_model.specs.AfterRequests.{made_of_report}
use Rattle.log_model.specs.Seen.{Desk, Document, Place, Seen, awake, desk_of, document_of, place_in, place_of}
use Rattle.log_model.specs.declared.job.Job.{Job}
use Rattle.log_model.specs.declared.job.Task.{Task}
use Rattle.log_model.specs.declared.made.Made.{Made}
use Rattle.log_model.specs.declared.row_kind.Actor.{Actor}
use Rattle.std.proofs.Common.{Bool, List, None, Option, Some, [], ap, cond, false, inl, inr, length, refl, subst, sym, true, ℕ, ◌++◌, ◌==◌, ◌∙◌, ◌∷◌, ◌≡◌, ◌⊎◌}
use Rattle.std.specs.Prelude.{filter_map}
use Rattle.tab_ids.specs.declared.DocId.{DocId}
use Rattle.tab_ids.specs.declared.EntryId.{EntryId}
use Rattle.tab_ids.specs.declared.Epoch.{Epoch}
use Rattle.tab_ids.specs.declared.NavId.{NavId}
use Rattle.tab_ids.specs.declared.StateId.{StateId}
use Rattle.seen_facts.proofs.Coord.DeliveredMade.{same_documents}  -- keep
use Rattle.log_model.specs.declared.job.Task.TheVariants as tasks
use Rattle.log_model.specs.declared.row_kind.RowKind.TheVariants as rows

-- one that joins a list is found, or was before
pub found_or : (documents : List Document) (new d : Document) (doc : DocId) → document_in (documents ++ new ∷ []) doc ≡ Some d → (document_in documents doc ≡ Some d) ⊎ ((new.nr.0 == doc.0) ≡ true) × (new ≡ d)
found_or [] new d doc e = inr (only (new.nr.0 == doc.0) refl e)
  where
    only : (b : Bool) → (new.nr.0 == doc.0) ≡ b → (let o : Option Document = cond b (Some new) None in o) ≡ Some d → ((new.nr.0 == doc.0) ≡ true) × (new ≡ d)
    only true h is = (h, (let same : new ≡ d = cc in same))
    only false h is = absurd cc
found_or (x ∷ documents) new d doc e = by_own (x.nr.0 == doc.0) (found_or documents new d doc) e
  where
    by_own : (b : Bool) → (document_in (documents ++ new ∷ []) doc ≡ Some d → (document_in documents doc ≡ Some d) ⊎ ((new.nr.0 == doc.0) ≡ true) × (new ≡ d)) → cond b (Some x) (document_in (documents ++ new ∷ []) doc) ≡ Some d → (cond b (Some x) (document_in documents doc) ≡ Some d) ⊎ ((new.nr.0 == doc.0) ≡ true) × (new ≡ d)
    by_own true rest h = inl h
    by_own false rest h = rest h

-- no row named the document
pub record IsNewTo (s : Seen) (hand : List Made) (job : Job) : Type 0 where
  pub absent : document_of s job.doc ≡ None
  pub unused : (nav : NavId) (place : Place) → place_of s nav ≡ Some place → place.status ≡ awake job.doc → ⊥
  pub orders : orders_for (desk_of s job.proc) job.doc ≡ []
  pub waits : (bound : ℕ) → MadeWithin bound job.doc (waiting s hand)
  pub reports : (bound : ℕ) → MadeWithin bound job.doc (filter_map made_of_report (desk_of s job.proc).reports)

module _ (s : Seen) (event : ℕ) (actor : Actor) (hand : List Made) (job : Job) (nav : NavId) (state : StateId) (address : List ℕ) (initial : Bool) (task : job.task ≡ tasks.Populate nav state address initial) (lives : job.incarnation ≡ length (desk_of s job.proc).killed) (is : IsNewTo s hand job) where
  abbrev pub making : Seen
  making = next s event actor (rows.Sent job)

  abbrev new : Document
  new = new_document s job nav state

  -- the document is there, and nothing else is changed
  abbrev joined : Seen
  joined = record s { documents = s.documents ++ new ∷ [] }

  either : (doc : DocId) (d : Document) → document_of joined doc ≡ Some d → (document_of s doc ≡ Some d) ⊎ ((new.nr.0 == doc.0) ≡ true) × (new ≡ d)
  either doc d found = found_or s.documents new d doc found

  unshown : (of : NavId) (place : Place) (doc : DocId) → place_of s of ≡ Some place → place.status ≡ awake doc → (new.nr.0 == doc.0) ≡ true → ⊥
  unshown of place doc placed wakes e = is.unused of place placed (wakes ∙ ap (λ (x : DocId). awake x) (sym (doc_same job.doc doc e)))

  was_there : (of : NavId) (place : Place) (doc : DocId) (d : Document) → place_of s of ≡ Some place → place.status ≡ awake doc → document_of joined doc ≡ Some d → document_of s doc ≡ Some d
  was_there of place doc d placed wakes found = by_case (either doc d found)
    where
      by_case : (document_of s doc ≡ Some d) ⊎ ((new.nr.0 == doc.0) ≡ true) × (new ≡ d) → document_of s doc ≡ Some d
      by_case (inl old) = old
      by_case (inr own) = absurd (unshown of place doc placed wakes own.0)

  places_are : making.places ≡ s.places
  places_are = ap (λ (t : Task). places_sent s job t) task

  joins : making.documents ≡ s.documents ++ new ∷ []
  joins = ap (λ (t : Task). documents_sent s job t) task

  documents_are : making.documents ≡ on_document job.doc (λ d. d) joined.documents
  documents_are = joins ∙ sym (same_documents job.doc joined.documents)

  was_placed : (of : NavId) (place : Place) → place_of making of ≡ Some place → place_of s of ≡ Some place
  was_placed of place placed = ap (λ (l : List Place). place_in l of) (sym places_are) ∙ placed

  is_new : (d : Document) → document_of joined job.doc ≡ Some d → new ≡ d
  is_new d found = by_case (either job.doc d found)
    where
      by_case : (document_of s job.doc ≡ Some d) ⊎ ((new.nr.0 == job.doc.0) ≡ true) × (new ≡ d) → new ≡ d
      by_case (inl old) = (let never : None ≡ Some d = sym is.absent ∙ old in absurd cc)
      by_case (inr own) = own.1

  home : (d : Document) → document_of joined job.doc ≡ Some d → d.proc ≡ job.proc
  home d found = ap (λ (x : Document). x.proc) (sym (is_new d found))

  -- a fact of the awake ones' documents that other orders leave
  order_stays : (F : Desk → Document → Option EntryId → Epoch → Type 0) → ((x : Document) (given : Option EntryId) (epoch : Epoch) → (job.doc.0 == x.nr.0) ≡ false → F (desk_of s job.proc) x given epoch → F (mailed job (desk_of s job.proc)) x given epoch) → EachAwake F s → EachAwake F making
  order_stays F other each =
      one_stays F joined making job.proc (mailed job) job.doc (λ d. d)
      (record {
        desks = refl;
        documents = documents_are;
        keeps_proc = λ desk. refl;
        keeps_number = λ d. refl;
        stays = λ d. refl;
        home = home;
        own = λ of place d placed wakes there. absurd (is.unused of place (was_placed of place placed) wakes);
        others = λ of place at placed wakes apart. as_placed joined of place (was_placed of place placed);
        other = other;
      })
      (λ of place doc d placed wakes found. each of place doc d placed wakes (was_there of place doc d placed wakes found))

  -- the document has no view, and nothing is of it but this order, which doesn't show it
  new_within : (bound : ℕ) → WithinHand hand s (desk_of s job.proc) new bound
  new_within bound =
      record {
        view = λ view has. absurd cc;
        orders = subst (AllWithin bound) (sym is.orders) tt;
        held_back = is.waits bound;
        reports = is.reports bound;
      }

  within_joined : EachDocument (WithinHand hand s) s → EachDocument (WithinHand hand s) joined
  within_joined each doc d place found placed = by_case (either doc d found)
    where
      by_case : (document_of s doc ≡ Some d) ⊎ ((new.nr.0 == doc.0) ≡ true) × (new ≡ d) → WithinHand hand s (desk_of s d.proc) d place.epoch.0
      by_case (inl old) = each doc d place old placed
      by_case (inr own) = subst (λ (x : Document). WithinHand hand s (desk_of s x.proc) x place.epoch.0) own.1 (new_within place.epoch.0)

  sent_own : (d : Document) (bound : ℕ) → document_of joined job.doc ≡ Some d → WithinHand hand s (desk_of s job.proc) d bound → WithinHand hand s (mailed job (desk_of s job.proc)) d bound
  sent_own d bound there was =
      let sent : WithinHand hand s (mailed job (desk_of s job.proc)) (addressed job.task d) bound = sent_within (waiting s hand) (desk_of s job.proc) d job bound (subst (ShowsWithin bound) (sym task) tt) (is_mine d.nr (length (desk_of s job.proc).killed) job (ap (λ (x : Document). x.nr.0) (is_new d there)) lives) was in
      record { view = sent.view; orders = sent.orders; held_back = sent.held_back; reports = sent.reports }

  within_change : IsOneOfEach (WithinHand hand s) joined making job.proc (mailed job) job.doc (λ d. d)
  within_change =
      record {
        desks = refl;
        documents = documents_are;
        keeps_proc = λ desk. refl;
        keeps_number = λ d. refl;
        stays = λ d. refl;
        stays_in = λ d. refl;
        had = λ of place placed. unmoved joined of place (was_placed of place placed);
        grows = λ desk d m n more was. within_more (waiting s hand) desk d m n more was;
        home = home;
        own = λ d place there placed was. sent_own d place.epoch.0 there was;
        other = λ d bound apart was. sent_apart (waiting s hand) (desk_of s job.proc) d job bound apart was;
      }

  whose_then : EachIsOfItsNavigable s → EachIsOfItsNavigable making
  whose_then whose of place doc d placed wakes found =
      whose of place doc d (was_placed of place placed) wakes (was_there of place doc d (was_placed of place placed) wakes (ap (λ (documents : List Document). document_in documents doc) (sym joins) ∙ found))

  waits : waiting making hand ≡ waiting s hand
  waits = sent_waits s event actor hand job

  pub make_if : FlowsIf hand s → FlowsIf hand making
  make_if flows =
      record {
        leads = if_again s making hand hand refl waits (order_stays (IfIn hand s) (λ x given epoch apart leads has. if_alike s.history.rows (waiting s hand) (desk_of s job.proc) (mailed job (desk_of s job.proc)) x x given epoch (mailed_other (waiting s hand) (desk_of s job.proc) job x epoch apart) (leads has)) flows.leads);
        whose = whose_then flows.whose;
        reaches = order_stays (λ desk x given epoch. Reaches desk x epoch) (λ x given epoch apart reaches. mailed_elsewhere (desk_of s job.proc) x job epoch apart reaches) flows.reaches;
        within = within_if s making hand hand waits (each_stays (WithinHand hand s) joined making job.proc (mailed job) job.doc (λ d. d) within_change (within_joined flows.within));
      }
