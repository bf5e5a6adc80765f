-- All of it stays as an order is sent that makes a document, with a new number, where each document of its state is of its navigable.
use Rattle.std.proofs.Common.{◌≡◌, ◌⊎◌, inl, inr, ℕ, Bool, true, false, ◌==◌, List, [], ◌∷◌, ◌++◌, length, Some, None, refl, sym, ap, ◌∙◌, subst, eqb-true}
use Rattle.std.specs.Prelude.{filter, fold, is_some}
use Rattle.tab_ids.specs.declared.DocId.{DocId}
use Rattle.tab_ids.specs.declared.NavId.{NavId}
use Rattle.tab_ids.specs.declared.StateId.{StateId}
use Rattle.log_model.specs.declared.job.Job.{Job}
use Rattle.log_model.specs.declared.job.Task.{Task}
use Rattle.log_model.specs.declared.job.Task.TheVariants as tasks
use Rattle.log_model.specs.declared.row_kind.Actor.{Actor}
use Rattle.log_model.specs.AfterDocuments.{documents_sent, new_document, view_finished}
use Rattle.log_model.specs.AfterPlaces.{places_sent}
use Rattle.log_model.specs.Seen.{Desk, Document, Place, Seen, desk_of, document_of}
use Rattle.seen_facts.specs.Coord.Leading.{is_live_order, once_finished, orders_for, orders_of_desk, pending_view}
use Rattle.seen_facts.proofs.Coord.Kept.{is_mine}
use Rattle.seen_facts.proofs.Coord.OneDocument.{mailed}
use Rattle.seen_facts.proofs.Coord.Reached.{mailed_own}
use Rattle.seen_facts.specs.Desk.Own.{AreDesksIn, IsOrderIn}
use Rattle.seen_facts.specs.Each.Items.{Each}
use Rattle.tab_facts.specs.FrameWhole.Beside.{EachIsViewed}
use Rattle.tab_facts.proofs.FrameWhole.FlowsMaking.{found_or}
use Rattle.tab_facts.proofs.FrameWhole.Viewed.{IsNoDiscard}
use Rattle.seen_facts.specs.Home.Homes.{document_in}
use Rattle.seen_facts.proofs.Home.Again.{all_more}
use Rattle.seen_laws.proofs.Desks.{desk_on_same}
use Rattle.seen_facts.proofs.Doc.Leaves.{KeepPlaces}
use Rattle.tab_facts.specs.Shown.Shown.{AreShown, StatesAreOfOne}
use Rattle.tab_facts.proofs.Shown.Places.{AllWereAlike, same_alike}
use Rattle.tab_facts.proofs.Shown.Leaves.{KeepDocuments, ever_again, placed_again, there_again}
use Rattle.tab_facts.proofs.Shown.Orders.{sent_loads}
use Rattle.tab_facts.proofs.Shown.Sent.{after_sent, old_viewed}

-- no order is to a document of the number, where there is none
none_for : (s : Seen) (job : Job) (incarnation : ℕ) → document_of s job.doc ≡ None → (jobs : List Job) → Each (IsOrderIn s.documents s.places job.proc) jobs → filter (is_live_order job.doc incarnation) jobs ≡ []
none_for s job incarnation new [] all = refl
none_for s job incarnation new (other ∷ jobs) all =
    rw (apart (other.doc.0 == job.doc.0) refl) (none_for s job incarnation new jobs all.1)
  where
    apart : (b : Bool) → (other.doc.0 == job.doc.0) ≡ b → (other.doc.0 == job.doc.0) ≡ false
    apart false e = e
    apart true e =
        let same : other.doc ≡ job.doc = ap (λ (n : ℕ). let x : DocId = record { 0 = n } in x) (eqb-true other.doc.0 job.doc.0 e) in
        let never : None ≡ Some all.0.lives.d = sym new ∙ (ap (λ (x : DocId). document_of s x) (sym same) ∙ all.0.lives.found) in absurd cc

module _ (s : Seen) (event : ℕ) (actor : Actor) (are : AreShown s) (desks : AreDesksIn s) (job : Job) (nav : NavId) (state : StateId) (address : List ℕ) (initial : Bool) (task : job.task ≡ tasks.Populate nav state address initial) (new : document_of s job.doc ≡ None) (lives : job.incarnation ≡ length (desk_of s job.proc).killed) (its : (doc : DocId) (d : Document) → document_of s doc ≡ Some d → d.state ≡ state → d.nav ≡ nav) where
  abbrev pub making : Seen
  making = after_sent s event actor job

  abbrev made : Document
  made = new_document s job nav state

  documents_are : making.documents ≡ s.documents ++ made ∷ []
  documents_are = ap (λ (t : Task). documents_sent s job t) task

  places_are : making.places ≡ s.places
  places_are = ap (λ (t : Task). places_sent s job t) task

  -- a document is one of before, or the new one
  either : (doc : DocId) (d : Document) → document_of making doc ≡ Some d → (document_of s doc ≡ Some d) ⊎ (made ≡ d)
  either doc d found =
      by_case (found_or s.documents made d doc (ap (λ (l : List Document). document_in l doc) (sym documents_are) ∙ found))
    where
      by_case : (document_in s.documents doc ≡ Some d) ⊎ ((made.nr.0 == doc.0) ≡ true) × (made ≡ d) → (document_of s doc ≡ Some d) ⊎ (made ≡ d)
      by_case (inl old) = inl old
      by_case (inr own) = inr own.1

  documents_stay : KeepDocuments s making
  documents_stay doc has =
      let k = all_more s.documents made doc has.document has.found in
      record { document = k.new; found = ap (λ (l : List Document). document_in l doc) documents_are ∙ k.found }

  of_one : StatesAreOfOne making
  of_one doc other d e found there same = by_case (either doc d found) (either other e there)
    where
      by_case : (document_of s doc ≡ Some d) ⊎ (made ≡ d) → (document_of s other ≡ Some e) ⊎ (made ≡ e) → d.nav ≡ e.nav
      by_case (inl one) (inl two) = are.of_one doc other d e one two same
      by_case (inl one) (inr two) =
          its doc d one (same ∙ ap (λ (x : Document). x.state) (sym two)) ∙ ap (λ (x : Document). x.nav) two
      by_case (inr one) (inl two) =
          ap (λ (x : Document). x.nav) (sym one) ∙ sym (its other e two (sym same ∙ ap (λ (x : Document). x.state) (sym one)))
      by_case (inr one) (inr two) = ap (λ (x : Document). x.nav) (sym one) ∙ ap (λ (x : Document). x.nav) two

  -- its one order makes its view
  orders : orders_for (desk_of making job.proc) job.doc ≡ job ∷ []
  orders =
      ap (λ (desk : Desk). orders_for desk job.doc) (desk_on_same (mailed job) s.desks job.proc (λ desk. refl))
      ∙ mailed_own job (desk_of s job.proc) job.doc (is_mine job.doc (length (desk_of s job.proc).killed) job refl lives)
      ∙ ap (λ (l : List Job). l ++ job ∷ []) (none_for s job (length (desk_of s job.proc).killed) new (orders_of_desk (desk_of s job.proc)) (desks job.proc).orders)

  made_viewed : is_some (pending_view made (desk_of making job.proc)) ≡ true
  made_viewed =
      ap (λ (l : List Job). is_some (fold once_finished made l).view) orders ∙ ap (λ (t : Task). is_some (view_finished made t)) task

  viewed : EachIsViewed making
  viewed doc d found open_ = by_case (either doc d found)
    where
      by_case : (document_of s doc ≡ Some d) ⊎ (made ≡ d) → is_some (pending_view d (desk_of making d.proc)) ≡ true
      by_case (inl old) = old_viewed s event actor are.viewed job (subst IsNoDiscard (sym task) tt) doc d old open_
      by_case (inr same) = subst (λ (x : Document). is_some (pending_view x (desk_of making x.proc)) ≡ true) same made_viewed

  alike : AllWereAlike s.places making.places
  alike = subst (λ (l : List Place). AllWereAlike s.places l) (sym places_are) (same_alike s.places)

  pub making_shown : AreShown making
  making_shown =
      record {
        there = there_again s making documents_stay alike are.there;
        ever = ever_again s making alike are.ever;
        of_one = of_one;
        placed = placed_again s making (subst (λ (l : List Place). KeepPlaces s.places l) (sym places_are) (λ n has. has)) (sent_loads s event actor job) are.placed;
        viewed = viewed;
      }
