-- The report that a document is made is delivered: the load that waits for it is ready.
use Rattle.std.proofs.Common.{◌≡◌, ℕ, Bool, true, false, cond, ◌==◌, List, [], ◌∷◌, map, Option, Some, None, refl, sym, ap, ◌∙◌, subst}
use Rattle.std.specs.Prelude.{find, option_map, slice_get}
use Rattle.tab_ids.specs.declared.DocId.{DocId}
use Rattle.tab_ids.specs.declared.NavId.{NavId}
use Rattle.tab_ids.specs.declared.ProcId.{ProcId}
use Rattle.tab_ids.specs.declared.ReqId.{ReqId}
use Rattle.log_model.specs.declared.job.Job.{Job}
use Rattle.log_model.specs.declared.made.Made.{Made}
use Rattle.log_model.specs.declared.made.Report.{Report}
use Rattle.log_model.specs.declared.made.Report.TheVariants as reports
use Rattle.log_model.specs.declared.outcome.Outcome.TheVariants as outcomes
use Rattle.log_model.specs.declared.row_kind.Actor.{Actor}
use Rattle.log_model.specs.declared.row_kind.RowKind.TheVariants as rows
use Rattle.log_model.specs.After.{after}
use Rattle.log_model.specs.AfterDocuments.{documents_delivered}
use Rattle.log_model.specs.Once.{loads}
use Rattle.log_model.specs.Places.{is_ongoing_load}
use Rattle.log_model.specs.Seen.{Seen, Asked, Document, desk_of, request_of}
use Rattle.log_model.proofs.Refl.{nat_eq_refl}
use Rattle.seen_facts.proofs.Request.Readers.{SameReads, delivered_reads}
use Rattle.load_table.specs.declared.load.Load.{Load}
use Rattle.load_table.specs.declared.phase.Phase.{Phase}
use Rattle.load_table.specs.declared.phase.Phase.TheVariants as phases
use Rattle.load_table.specs.Loads.{in_phase, is_of, is_populating, makes, moved_on, ongoing_load}
use Rattle.seen_facts.specs.LoadTies.Tying.{HasLoad, IsLoadTied, TiesLoads, made_for, phase_with}
use Rattle.seen_facts.proofs.LoadTies.Begins.{found_nav}
use Rattle.seen_facts.proofs.LoadTies.Leaves.{has_again, tied_in, traced, traced_blind}
use Rattle.seen_facts.proofs.LoadTies.Phases.{phase_ready, readied}

-- ---- the table

-- what the table has of a navigable then
populated_of : (doc : DocId) (nav : NavId) (table : List Load) → ((a : Load) → ongoing_load nav table ≡ Some a → is_populating doc a ≡ true → find (is_populating doc) table ≡ Some a) → ongoing_load nav (moved_on (is_populating doc) (phases.Ready doc) table) ≡ option_map (λ (load : Load). cond (is_populating doc load) (in_phase (phases.Ready doc) load) load) (ongoing_load nav table)
populated_of doc nav [] one = refl
populated_of doc nav (first ∷ table) one = by_test (is_populating doc first) refl (is_of nav first) refl one (populated_of doc nav table)
  where
    -- behind the one that waits, a load of the navigable doesn't wait
    behind : is_of nav first ≡ false → (o : Option Load) → ((a : Load) → o ≡ Some a → is_of nav a ≡ true) → ((a : Load) → o ≡ Some a → is_populating doc a ≡ true → Some first ≡ Some a) → o ≡ option_map (λ (load : Load). cond (is_populating doc load) (in_phase (phases.Ready doc) load) load) o
    behind apart None has only = refl
    behind apart (Some a) has only = by_wait (is_populating doc a) refl
      where
        by_wait : (b : Bool) → is_populating doc a ≡ b → Some a ≡ Some (cond b (in_phase (phases.Ready doc) a) a)
        by_wait true e =
            let both : Some first ≡ Some a = only a refl e in
            let same : first ≡ a = cc in
            let here : is_of nav first ≡ true = ap (λ (l : Load). is_of nav l) same ∙ has a refl in
            let no_ : true ≡ false = sym here ∙ apart in
            absurd cc
        by_wait false e = refl

    found_of : (l : List Load) (a : Load) → ongoing_load nav l ≡ Some a → is_of nav a ≡ true
    found_of l a e = ap (λ (n : NavId). nav.0 == n.0) (found_nav nav l a e) ∙ nat_eq_refl nav.0

    Rest : Type 0
    Rest = ((a : Load) → ongoing_load nav table ≡ Some a → is_populating doc a ≡ true → find (is_populating doc) table ≡ Some a) → ongoing_load nav (moved_on (is_populating doc) (phases.Ready doc) table) ≡ option_map (λ (load : Load). cond (is_populating doc load) (in_phase (phases.Ready doc) load) load) (ongoing_load nav table)

    by_test : (b : Bool) → is_populating doc first ≡ b → (c : Bool) → is_of nav first ≡ c → ((a : Load) → cond c (Some first) (ongoing_load nav table) ≡ Some a → is_populating doc a ≡ true → cond b (Some first) (find (is_populating doc) table) ≡ Some a) → Rest → ongoing_load nav (cond b (in_phase (phases.Ready doc) first ∷ table) (first ∷ moved_on (is_populating doc) (phases.Ready doc) table)) ≡ option_map (λ (load : Load). cond (is_populating doc load) (in_phase (phases.Ready doc) load) load) (cond c (Some first) (ongoing_load nav table))
    by_test true e true f one rest = rw (f, e) refl
    by_test true e false f one rest = rw f (behind f (ongoing_load nav table) (λ a at. found_of table a at) one)
    by_test false e true f one rest = rw (f, e) refl
    by_test false e false f one rest = rw f (rest one)

-- what is found of the loads that wait is of its own navigable
first_waits : (doc : DocId) (table : List Load) (b : Load) → find (is_populating doc) table ≡ Some b → is_populating doc b ≡ true
first_waits doc [] b e = absurd cc
first_waits doc (first ∷ table) b e = by_test (is_populating doc first) refl e (first_waits doc table b)
  where
    by_test : (c : Bool) → is_populating doc first ≡ c → cond c (Some first) (find (is_populating doc) table) ≡ Some b → (find (is_populating doc) table ≡ Some b → is_populating doc b ≡ true) → is_populating doc b ≡ true
    by_test true is f more = let same : first ≡ b = cc in subst (λ (l : Load). is_populating doc l ≡ true) same is
    by_test false is f more = more f

-- ---- the row

module _ (s : Seen) (event : ℕ) (actor : Actor) (table : List Load) (ties : TiesLoads s table) (proc : ProcId) (job : Job) (slot : Option ℕ) (made : Option Made) (report : slice_get (desk_of s proc).reports 0 ≡ Some (reports.Done job (outcomes.Populated slot) made)) (waits : (nav : NavId) (a : Load) → ongoing_load nav table ≡ Some a → is_populating job.doc a ≡ true → find (is_populating job.doc) table ≡ Some a) where
  abbrev t : Seen
  t = after s (record { event = event; actor = actor; row = rows.Delivered proc })

  abbrev next : List Load
  next = moved_on (is_populating job.doc) (phases.Ready job.doc) table

  same_requests : SameReads traced s.requests t.requests
  same_requests = delivered_reads traced traced_blind (slice_get (desk_of s proc).reports 0) s.requests

  documents_are : t.documents ≡ map (readied job.doc) s.documents
  documents_are = ap (λ (o : Option Report). documents_delivered s.documents o) report

  -- a load then, of one that was there
  then_tied : (l : Load) → IsLoadTied s l → IsLoadTied t (cond (is_populating job.doc l) (in_phase (phases.Ready job.doc) l) l)
  then_tied l tied = by_wait (is_populating job.doc l) refl
    where
      come : (let p : Phase = cond (makes job.doc l.phase) (phases.Ready job.doc) l.phase in p) ≡ phase_with (made_for t.documents l.state)
      come =
          ap (λ (p : Phase). cond (makes job.doc p) (phases.Ready job.doc) p) tied.phase
          ∙ phase_ready job.doc l.state s.documents
          ∙ ap (λ (d : List Document). phase_with (made_for d l.state)) (sym documents_are)

      by_wait : (b : Bool) → is_populating job.doc l ≡ b → IsLoadTied t (cond b (in_phase (phases.Ready job.doc) l) l)
      by_wait true e =
          tied_in s t l (phases.Ready job.doc) (same_requests l.req) (sym (ap (λ (b : Bool). let p : Phase = cond b (phases.Ready job.doc) l.phase in p) e) ∙ come) tied
      by_wait false e =
          tied_in s t l l.phase (same_requests l.req) (sym (ap (λ (b : Bool). let p : Phase = cond b (phases.Ready job.doc) l.phase in p) e) ∙ come) tied

  pub made_tied : TiesLoads t next
  made_tied = record { there = there; all = all }
    where
      at_next : (n : NavId) → ongoing_load n next ≡ option_map (λ (load : Load). cond (is_populating job.doc load) (in_phase (phases.Ready job.doc) load) load) (ongoing_load n table)
      at_next n = populated_of job.doc n table (waits n)

      there : (n : NavId) (l : Load) → ongoing_load n next ≡ Some l → IsLoadTied t l
      there n l at = by_old (ongoing_load n table) refl
        where
          by_old : (o : Option Load) → ongoing_load n table ≡ o → IsLoadTied t l
          by_old None e =
              let no_ : None ≡ Some l = sym (at_next n ∙ ap (λ (o : Option Load). option_map (λ (load : Load). cond (is_populating job.doc load) (in_phase (phases.Ready job.doc) load) load) o) e) ∙ at in
              absurd cc
          by_old (Some a) e =
              let both : Some (cond (is_populating job.doc a) (in_phase (phases.Ready job.doc) a) a) ≡ Some l = sym (at_next n ∙ ap (λ (o : Option Load). option_map (λ (load : Load). cond (is_populating job.doc load) (in_phase (phases.Ready job.doc) load) load) o) e) ∙ at in
              let one : cond (is_populating job.doc a) (in_phase (phases.Ready job.doc) a) a ≡ l = cc in
              subst (λ (x : Load). IsLoadTied t x) one (then_tied a (ties.there n a e))

      all : (req : ReqId) (q : Asked) (n : NavId) → request_of t req ≡ Some q → is_ongoing_load q ≡ true → loads n q.what ≡ true → HasLoad next n req
      all req q n at on loads_it =
          let has = has_again s t table ties req q n at on loads_it (same_requests req) in
          record {
            load = cond (is_populating job.doc has.load) (in_phase (phases.Ready job.doc) has.load) has.load;
            at = at_next n ∙ ap (λ (o : Option Load). option_map (λ (load : Load). cond (is_populating job.doc load) (in_phase (phases.Ready job.doc) load) load) o) has.at;
            req_is = same_req (is_populating job.doc has.load) has.load ∙ has.req_is;
          }
        where
          same_req : (b : Bool) (l : Load) → (let x : Load = cond b (in_phase (phases.Ready job.doc) l) l in x).req ≡ l.req
          same_req true l = refl
          same_req false l = refl
