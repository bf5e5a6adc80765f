-- The document of a load is sent for: the table has the load's phase.
use Rattle.std.proofs.Common.{◌≡◌, ℕ, Bool, true, false, cond, ◌==◌, List, [], ◌∷◌, ◌++◌, Option, Some, None, refl, sym, ap, ◌∙◌, subst, eqb-true}
use Rattle.std.specs.Prelude.{option_map}
use Rattle.tab_ids.specs.declared.NavId.{NavId}
use Rattle.tab_ids.specs.declared.ReqId.{ReqId}
use Rattle.tab_ids.specs.declared.StateId.{StateId}
use Rattle.log_model.specs.declared.job.Job.{Job}
use Rattle.log_model.specs.declared.job.Task.{Task}
use Rattle.log_model.specs.declared.job.Task.TheVariants as tasks
use Rattle.log_model.specs.declared.row_kind.Actor.{Actor}
use Rattle.log_model.specs.declared.row_kind.RowKind.TheVariants as rows
use Rattle.log_model.specs.After.{after}
use Rattle.log_model.specs.AfterDocuments.{documents_sent, new_document}
use Rattle.log_model.specs.Once.{loads}
use Rattle.log_model.specs.Places.{is_ongoing_load}
use Rattle.log_model.specs.Seen.{Seen, Asked, Document, request_of}
use Rattle.log_model.proofs.Refl.{nat_eq_refl}
use Rattle.seen_facts.proofs.Request.Readers.{SameReads, sent_reads}
use Rattle.load_table.specs.declared.load.Load.{Load}
use Rattle.load_table.specs.declared.phase.Phase.{Phase}
use Rattle.load_table.specs.declared.phase.Phase.TheVariants as phases
use Rattle.load_table.specs.Loads.{KeepsOthers, in_phase, is_nav, is_of, moved_on, ongoing_load}
use Rattle.seen_facts.specs.LoadTies.Tying.{HasLoad, IsLoadTied, TiesLoads, made_for, phase_with}
use Rattle.seen_facts.proofs.LoadTies.Leaves.{has_again, tied_again, tied_in, traced, traced_blind}
use Rattle.seen_facts.proofs.LoadTies.Phases.{made_apart, made_sent}

-- ---- the table

-- a navigable's load is in another phase
pub moved_own : (nav : NavId) (phase : Phase) (table : List Load) → ongoing_load nav (moved_on (is_of nav) phase table) ≡ option_map (in_phase phase) (ongoing_load nav table)
moved_own nav phase [] = refl
moved_own nav phase (first ∷ table) = by_test (is_of nav first) refl (moved_own nav phase table)
  where
    by_test : (b : Bool) → is_of nav first ≡ b → ongoing_load nav (moved_on (is_of nav) phase table) ≡ option_map (in_phase phase) (ongoing_load nav table) → ongoing_load nav (cond b (in_phase phase first ∷ table) (first ∷ moved_on (is_of nav) phase table)) ≡ option_map (in_phase phase) (cond b (Some first) (ongoing_load nav table))
    by_test true e more = rw e refl
    by_test false e more = rw e more

-- ---- an order that makes the document

module _ (s : Seen) (event : ℕ) (actor : Actor) (table : List Load) (ties : TiesLoads s table) (job : Job) (nav : NavId) (state : StateId) (address : List ℕ) (initial : Bool) (task : job.task ≡ tasks.Populate nav state address initial) where
  abbrev t : Seen
  t = after s (record { event = event; actor = actor; row = rows.Sent job })

  same_requests : SameReads traced s.requests t.requests
  same_requests = sent_reads traced traced_blind s job job.task s.requests

  documents_are : t.documents ≡ s.documents ++ new_document s job nav state ∷ []
  documents_are = ap (λ (k : Task). documents_sent s job k) task

  -- another state has come as far
  other_phase : (other : StateId) → (state.0 == other.0) ≡ false → phase_with (made_for t.documents other) ≡ phase_with (made_for s.documents other)
  other_phase other apart =
      ap (λ (l : List Document). phase_with (made_for l other)) documents_are
      ∙ ap (λ (o : Option Document). phase_with o) (made_apart s.documents (new_document s job nav state) other (rw apart refl))

  -- of a document state that no load has
  pub other_made : ((n : NavId) (load : Load) → ongoing_load n table ≡ Some load → (state.0 == load.state.0) ≡ false) → TiesLoads t table
  other_made apart =
      record {
        there = λ n load at. tied_again s t load (same_requests load.req) (other_phase load.state (apart n load at)) (ties.there n load at);
        all = λ req q n at on loads_it. has_again s t table ties req q n at on loads_it (same_requests req);
      }

  -- of a load's, which is being made from then on
  module _ (load : Load) (at : ongoing_load nav table ≡ Some load) (its : load.state ≡ state) (unmade : made_for s.documents state ≡ None) (next : List Load) (own : ongoing_load nav next ≡ Some (in_phase (phases.Populating job.doc) load)) (others : KeepsOthers nav table next) (apart : (n : NavId) (l : Load) → ongoing_load n table ≡ Some l → is_nav n nav ≡ false → (state.0 == l.state.0) ≡ false) where
    made_now : phase_with (made_for t.documents load.state) ≡ phases.Populating job.doc
    made_now =
        ap (λ (x : StateId). phase_with (made_for t.documents x)) its
        ∙ ap (λ (l : List Document). phase_with (made_for l state)) documents_are
        ∙ ap (λ (o : Option Document). phase_with o) (made_sent s.documents (new_document s job nav state) state unmade (rw (nat_eq_refl state.0) refl))

    own_tied : IsLoadTied t (in_phase (phases.Populating job.doc) load)
    own_tied = tied_in s t load (phases.Populating job.doc) (same_requests load.req) (sym made_now) (ties.there nav load at)

    pub own_made : TiesLoads t next
    own_made = record { there = there; all = all }
      where
        there : (n : NavId) (l : Load) → ongoing_load n next ≡ Some l → IsLoadTied t l
        there n l at_next = by_nav (is_nav n nav) refl
          where
            by_nav : (b : Bool) → is_nav n nav ≡ b → IsLoadTied t l
            by_nav false e =
                let was : ongoing_load n table ≡ Some l = sym (others n e) ∙ at_next in
                tied_again s t l (same_requests l.req) (other_phase l.state (apart n l was e)) (ties.there n l was)
            by_nav true e =
                let number : n.0 ≡ nav.0 = eqb-true n.0 nav.0 e in
                let same : n ≡ nav = ap (λ (k : ℕ). let x : NavId = record { 0 = k } in x) number in
                let both : Some (in_phase (phases.Populating job.doc) load) ≡ Some l = sym own ∙ ap (λ (x : NavId). ongoing_load x next) (sym same) ∙ at_next in
                let one : in_phase (phases.Populating job.doc) load ≡ l = cc in
                subst (λ (x : Load). IsLoadTied t x) one own_tied

        all : (req : ReqId) (q : Asked) (n : NavId) → request_of t req ≡ Some q → is_ongoing_load q ≡ true → loads n q.what ≡ true → HasLoad next n req
        all req q n at_t on loads_it = by_nav (has_again s t table ties req q n at_t on loads_it (same_requests req)) (is_nav n nav) refl
          where
            by_nav : HasLoad table n req → (b : Bool) → is_nav n nav ≡ b → HasLoad next n req
            by_nav has false e = record { load = has.load; at = others n e ∙ has.at; req_is = has.req_is }
            by_nav has true e =
                let number : n.0 ≡ nav.0 = eqb-true n.0 nav.0 e in
                let same : n ≡ nav = ap (λ (k : ℕ). let x : NavId = record { 0 = k } in x) number in
                let both : Some has.load ≡ Some load = sym has.at ∙ ap (λ (x : NavId). ongoing_load x table) same ∙ at in
                let one : has.load ≡ load = cc in
                record { load = in_phase (phases.Populating job.doc) load; at = ap (λ (x : NavId). ongoing_load x next) same ∙ own; req_is = ap (λ (l : Load). l.req) (sym one) ∙ has.req_is }
