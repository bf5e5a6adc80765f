-- A document is frozen, or discarded; and a tab is opened.
use Rattle.std.proofs.Common.{◌≡◌, ℕ, true, List, [], ◌∷◌, Option, Some, refl, sym, ap, ◌∙◌, subst, inl, inr, ◌⊎◌, ◌==◌}
use Rattle.tab_ids.specs.declared.DocId.{DocId}
use Rattle.tab_ids.specs.declared.EntryId.{EntryId}
use Rattle.tab_ids.specs.declared.NavId.{NavId}
use Rattle.tab_ids.specs.declared.ProcId.{ProcId}
use Rattle.tab_ids.specs.declared.StateId.{StateId}
use Rattle.log_model.specs.declared.job.Job.{Job}
use Rattle.log_model.specs.declared.job.Task.TheVariants as tasks
use Rattle.log_model.specs.declared.row.Row.{Row}
use Rattle.log_model.specs.declared.row_kind.Actor.{Actor}
use Rattle.log_model.specs.declared.row_kind.RowKind.TheVariants as rows
use Rattle.log_model.specs.After.{after}
use Rattle.log_model.specs.AfterDocuments.{addressed, opening_document}
use Rattle.log_model.specs.AfterPlaces.{opening_place}
use Rattle.log_model.specs.Opening.{opening_history}
use Rattle.log_model.specs.Seen.{nothing, Seen, Document, Place, awake, place_of}
use Rattle.log_model.specs.Soundness.{IsSound}
use Rattle.log_model.proofs.Refl.{nat_eq_refl}
use Rattle.seen_facts.specs.Hang.Hanging.{Hangs}
use Rattle.seen_facts.specs.Hang.Members.{Has}
use Rattle.seen_facts.proofs.Hang.Members.{find_has}
use Rattle.seen_facts.specs.Home.Homes.{document_in, AreHomed, IsHomed}
use Rattle.seen_facts.proofs.Home.Away.{away_homed}

module _ (s : Seen) (event : ℕ) (actor : Actor) (job : Job) (sound : IsSound s.history) (hangs : Hangs s) (homes : AreHomed s) where
  abbrev then_ : Seen
  then_ = after s (record { event = event; actor = actor; row = rows.Sent job })

  pub discarded_homed : job.task ≡ tasks.Discard → AreHomed then_
  discarded_homed task =
      away_homed s then_ job (λ d. record d { is_discarded = true }) sound hangs homes (rw task refl) refl (rw task refl) (λ d. refl)

  pub frozen_homed : job.task ≡ tasks.Freeze → AreHomed then_
  frozen_homed task =
      away_homed s then_ job (addressed tasks.Freeze) sound hangs homes (rw task refl) refl (rw task refl) (λ d. refl)

module _ (event : ℕ) (actor : Actor) (entry : EntryId) (state : StateId) (doc : DocId) (proc : ProcId) (slot : Option ℕ) (address : List ℕ) where
  abbrev pub opened_ : Seen
  opened_ = after nothing (record { event = event; actor = actor; row = rows.Opened entry state doc proc slot address })

  abbrev first_document : Document
  first_document = opening_document entry state doc proc slot address

  abbrev first_place : Place
  first_place = opening_place entry doc

  only_place : (nav : NavId) (place : Place) → place_of opened_ nav ≡ Some place → first_place ≡ place
  only_place nav place found = by_case (find_has (λ (p : Place). p.nav.0 == nav.0) (first_place ∷ []) place found).0
    where
      by_case : (first_place ≡ place) ⊎ ⊥ → first_place ≡ place
      by_case (inl same) = same
      by_case (inr never) = absurd never

  only_document : (other : DocId) (d : Document) → document_in opened_.documents other ≡ Some d → first_document ≡ d
  only_document other d found = by_case (find_has (λ (x : Document). x.nr.0 == other.0) (first_document ∷ []) d found).0
    where
      by_case : (first_document ≡ d) ⊎ ⊥ → first_document ≡ d
      by_case (inl same) = same
      by_case (inr never) = absurd never

  its_document : document_in opened_.documents doc ≡ Some first_document
  its_document = rw (nat_eq_refl doc.0) refl

  pub opened_homed : AreHomed opened_
  opened_homed =
      record {
        homed = λ nav place other there wakes.
            let one = only_place nav place there in
            let docs : awake doc ≡ awake other = ap (λ (p : Place). p.status) one ∙ wakes in
            let same : doc ≡ other = cc in
            subst (λ (x : DocId). IsHomed opened_.documents place x) same (subst (λ (p : Place). IsHomed opened_.documents p doc) one (record { home = record { document = first_document; found = its_document; nav_is = refl; ready = refl; undiscarded = refl; unknown = refl }; last = refl }));
        state = λ nav place other there wakes row d has navs given found.
            let d_is = only_document other d found in
            let row_is : row.state ≡ state = (only_row row has) in
            row_is ∙ ap (λ (x : Document). x.state) d_is;
        hung = λ nav place other there wakes parent others is.
            absurd (let no_ : [] ≡ parent ∷ others = ap (λ (p : Place). p.above) (only_place nav place there) ∙ is in cc);
      }
    where
      only_row : (row : Row) → Has (opening_history entry state address).rows row → row.state ≡ state
      only_row row (inl same) = ap (λ (r : Row). r.state) (sym same)
      only_row row (inr never) = absurd never
