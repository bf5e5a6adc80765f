-- A request ends: a load leaves the table, and with another request the table stays.
use Rattle.std.proofs.Common.{◌≡◌, ℕ, Bool, true, false, cond, not, ◌&&◌, ◌==◌, List, [], ◌∷◌, Option, Some, None, refl, sym, ap, ◌∙◌, subst, eqb-true}
use Rattle.std.specs.Prelude.{option_map}
use Rattle.tab_ids.specs.declared.NavId.{NavId}
use Rattle.tab_ids.specs.declared.ReqId.{ReqId}
use Rattle.tab_ids.specs.declared.StateId.{StateId}
use Rattle.log_model.specs.declared.change.Change.{Change}
use Rattle.log_model.specs.declared.outcome.Cause.{Cause}
use Rattle.log_model.specs.declared.outcome.Denial.{Denial}
use Rattle.log_model.specs.declared.outcome.Ending.{Ending}
use Rattle.log_model.specs.declared.outcome.Ending.TheVariants as endings
use Rattle.log_model.specs.declared.request.Request.TheVariants as requests
use Rattle.log_model.specs.declared.row_kind.Actor.{Actor}
use Rattle.log_model.specs.declared.row_kind.RowKind.{RowKind}
use Rattle.log_model.specs.declared.row_kind.RowKind.TheVariants as rows
use Rattle.log_model.specs.After.{after, ended}
use Rattle.log_model.specs.AfterDocuments.{applied_to, told_after_change}
use Rattle.log_model.specs.AfterRequests.{entries_taken, on_request}
use Rattle.log_model.specs.Once.{loads}
use Rattle.log_model.specs.Places.{is_load, is_ongoing_load}
use Rattle.log_model.specs.Seen.{Seen, Asked, Document, request_in, request_of}
use Rattle.log_model.proofs.Refl.{nat_eq_refl}
use Rattle.seen_facts.proofs.Coord.Held.{on_else}
use Rattle.seen_facts.proofs.Request.LookUps.{on_itself}
use Rattle.load_table.specs.declared.load.Load.{Load}
use Rattle.load_table.specs.Loads.{KeepsOthers, cancelled, is_nav, is_of, ongoing_load}
use Rattle.seen_facts.specs.LoadTies.Tying.{HasLoad, IsLoadTied, TiesLoads, made_for, phase_with}
use Rattle.seen_facts.proofs.LoadTies.Begins.{found_nav}
use Rattle.seen_facts.proofs.LoadTies.Leaves.{has_again, tied_again, traced, traced_of}
use Rattle.seen_facts.proofs.LoadTies.Phases.{changed_phase, phase_map}

-- ---- the table

-- a navigable's load is taken out
pub cancelled_none : (nav : NavId) (table : List Load) → ongoing_load nav (cancelled nav table) ≡ None
cancelled_none nav [] = refl
cancelled_none nav (first ∷ table) = by_test (is_of nav first) refl (cancelled_none nav table)
  where
    by_test : (b : Bool) → is_of nav first ≡ b → ongoing_load nav (cancelled nav table) ≡ None → ongoing_load nav (cond (not b) (first ∷ cancelled nav table) (cancelled nav table)) ≡ None
    by_test true e more = more
    by_test false e more = rw e more

-- ---- a request has ended

-- the other requests are read as they were, this one has ended, and the document states have come as far
pub record HasEnded (s t : Seen) (req : ReqId) : Type 0 where
  pub others : (other : ReqId) → (other.0 == req.0) ≡ false → traced_of t other ≡ traced_of s other
  pub own : (q : Asked) → request_of t req ≡ Some q → is_ongoing_load q ≡ false
  pub phases : (state : StateId) → phase_with (made_for t.documents state) ≡ phase_with (made_for s.documents state)

module _ (s t : Seen) (req : ReqId) (ended_ : HasEnded s t req) (table : List Load) (ties : TiesLoads s table) where
  -- an ongoing load is of another request
  other_req : (r : ReqId) (q : Asked) → request_of t r ≡ Some q → is_ongoing_load q ≡ true → (r.0 == req.0) ≡ false
  other_req r q at on = by_test (r.0 == req.0) refl
    where
      by_test : (b : Bool) → (r.0 == req.0) ≡ b → (r.0 == req.0) ≡ false
      by_test false e = e
      by_test true e =
          let number : r.0 ≡ req.0 = eqb-true r.0 req.0 e in
          let same : r ≡ req = ap (λ (n : ℕ). let x : ReqId = record { 0 = n } in x) number in
          let no_ : false ≡ true = sym (ended_.own q (ap (request_of t) (sym same) ∙ at)) ∙ on in
          absurd cc

  -- it was none of the table: no load, or none that was ongoing
  pub other_ends : ((q : Asked) → request_of s req ≡ Some q → is_ongoing_load q ≡ false) → TiesLoads t table
  other_ends no_load =
      record {
        there = λ nav load at. (let tied = ties.there nav load at in tied_again s t load (ended_.others load.req (apart load tied)) (ended_.phases load.state) tied);
        all = λ r q nav at on loads_it. has_again s t table ties r q nav at on loads_it (ended_.others r (other_req r q at on));
      }
    where
      apart : (load : Load) → IsLoadTied s load → (load.req.0 == req.0) ≡ false
      apart load tied = by_test (load.req.0 == req.0) refl
        where
          by_test : (b : Bool) → (load.req.0 == req.0) ≡ b → (load.req.0 == req.0) ≡ false
          by_test false e = e
          by_test true e =
              let number : load.req.0 ≡ req.0 = eqb-true load.req.0 req.0 e in
              let same : load.req ≡ req = ap (λ (n : ℕ). let x : ReqId = record { 0 = n } in x) number in
              let no_ : false ≡ true = sym (no_load tied.q (ap (request_of s) (sym same) ∙ tied.found)) ∙ tied.ongoing in
              absurd cc

  -- it was the navigable's load, which leaves the table
  module _ (nav : NavId) (load : Load) (at : ongoing_load nav table ≡ Some load) (its : load.req ≡ req) (next : List Load) (none : ongoing_load nav next ≡ None) (others : KeepsOthers nav table next) where
    pub load_ends : TiesLoads t next
    load_ends = record { there = there; all = all }
      where
        -- a load of another navigable is of another request
        apart : (n : NavId) (l : Load) → ongoing_load n table ≡ Some l → is_nav n nav ≡ false → (l.req.0 == req.0) ≡ false
        apart n l there_ e = by_test (l.req.0 == req.0) refl
          where
            by_test : (b : Bool) → (l.req.0 == req.0) ≡ b → (l.req.0 == req.0) ≡ false
            by_test false f = f
            by_test true f =
                let number : l.req.0 ≡ req.0 = eqb-true l.req.0 req.0 f in
                let same : l.req ≡ load.req = ap (λ (k : ℕ). let x : ReqId = record { 0 = k } in x) number ∙ sym its in
                let one = ties.there n l there_ in
                let two = ties.there nav load at in
                let both : Some one.q ≡ Some two.q = sym one.found ∙ ap (request_of s) same ∙ two.found in
                let asked : one.q ≡ two.q = cc in
                let whats : requests.Load l.nav one.mode l.address ≡ requests.Load load.nav two.mode load.address = sym one.what ∙ ap (λ (q : Asked). q.what) asked ∙ two.what in
                let navs : l.nav ≡ load.nav = cc in
                let n_is : n ≡ nav = sym (found_nav n table l there_) ∙ navs ∙ found_nav nav table load at in
                let no_ : true ≡ false = sym (nat_eq_refl nav.0) ∙ ap (λ (x : NavId). x.0 == nav.0) (sym n_is) ∙ e in
                absurd cc

        there : (n : NavId) (l : Load) → ongoing_load n next ≡ Some l → IsLoadTied t l
        there n l at_next = by_nav (is_nav n nav) refl
          where
            by_nav : (b : Bool) → is_nav n nav ≡ b → IsLoadTied t l
            by_nav false e =
                let was : ongoing_load n table ≡ Some l = sym (others n e) ∙ at_next in
                let tied = ties.there n l was in
                tied_again s t l (ended_.others l.req (apart n l was e)) (ended_.phases l.state) tied
            by_nav true e =
                let number : n.0 ≡ nav.0 = eqb-true n.0 nav.0 e in
                let same : n ≡ nav = ap (λ (k : ℕ). let x : NavId = record { 0 = k } in x) number in
                let no_ : None ≡ Some l = sym none ∙ ap (λ (x : NavId). ongoing_load x next) (sym same) ∙ at_next in
                absurd cc

        all : (r : ReqId) (q : Asked) (n : NavId) → request_of t r ≡ Some q → is_ongoing_load q ≡ true → loads n q.what ≡ true → HasLoad next n r
        all r q n at_t on loads_it = by_nav (has_again s t table ties r q n at_t on loads_it (ended_.others r (other_req r q at_t on))) (is_nav n nav) refl
          where
            by_nav : HasLoad table n r → (b : Bool) → is_nav n nav ≡ b → HasLoad next n r
            by_nav has false e = record { load = has.load; at = others n e ∙ has.at; req_is = has.req_is }
            by_nav has true e =
                let number : n.0 ≡ nav.0 = eqb-true n.0 nav.0 e in
                let same : n ≡ nav = ap (λ (k : ℕ). let x : NavId = record { 0 = k } in x) number in
                let both : Some has.load ≡ Some load = sym has.at ∙ ap (λ (x : NavId). ongoing_load x table) same ∙ at in
                let one : has.load ≡ load = cc in
                let req_is : r ≡ req = sym has.req_is ∙ ap (λ (l : Load). l.req) one ∙ its in
                let no_ : true ≡ false = sym (nat_eq_refl req.0) ∙ ap (λ (x : ReqId). x.0 == req.0) (sym req_is) ∙ other_req r q at_t on in
                absurd cc

-- ---- the rows

over_now : (a b : Bool) → ((a && false) && b) ≡ false
over_now true b = refl
over_now false b = refl

-- the request that a row ends
ended_own : (asked : List Asked) (req : ReqId) (ending : Ending) (q : Asked) → request_in (ended asked req ending) req ≡ Some q → is_ongoing_load q ≡ false
ended_own asked req ending q at = by_found (request_in asked req) refl
  where
    over : Asked → Asked
    over p = record p { ending = Some ending }

    by_found : (o : Option Asked) → request_in asked req ≡ o → is_ongoing_load q ≡ false
    by_found None e = let no_ : None ≡ Some q = sym (on_itself asked req over ∙ ap (λ (o : Option Asked). option_map over o) e) ∙ at in absurd cc
    by_found (Some p) e =
        let both : Some (over p) ≡ Some q = sym (on_itself asked req over ∙ ap (λ (o : Option Asked). option_map over o) e) ∙ at in
        let same : over p ≡ q = cc in
        subst (λ (x : Asked). is_ongoing_load x ≡ false) same (over_now p.is_started (is_load p.what))

ended_other : (asked : List Asked) (req : ReqId) (ending : Ending) (other : ReqId) → (other.0 == req.0) ≡ false → request_in (ended asked req ending) other ≡ request_in asked other
ended_other asked req ending other apart = on_else asked req (λ q. record q { ending = Some ending }) other apart

module _ (s : Seen) (event : ℕ) (actor : Actor) (req : ReqId) where
  abbrev then_ : RowKind → Seen
  then_ kind = after s (record { event = event; actor = actor; row = kind })

  pub dropped_ended : (cause : Cause) → HasEnded s (then_ (rows.Dropped req cause)) req
  dropped_ended cause =
      record {
        others = λ other apart. ap (λ (o : Option Asked). option_map traced o) (ended_other s.requests req (endings.Dropped cause) other apart);
        own = λ q at. ended_own s.requests req (endings.Dropped cause) q at;
        phases = λ state. refl;
      }

  pub refused_ended : (reason : Denial) → HasEnded s (then_ (rows.Refused req reason)) req
  refused_ended reason =
      record {
        others = λ other apart. ap (λ (o : Option Asked). option_map traced o) (ended_other s.requests req (endings.Refused reason) other apart);
        own = λ q at. ended_own s.requests req (endings.Refused reason) q at;
        phases = λ state. refl;
      }

  pub applied_ended : (change : Change) → HasEnded s (then_ (rows.Applied req change)) req
  applied_ended change =
      record {
        others = λ other apart. ap (λ (o : Option Asked). option_map traced o) (on_else said req taken other apart ∙ on_else over req says other apart ∙ ended_other s.requests req endings.Applied other apart);
        own = own;
        phases = λ state. phase_map (λ (d : Document). applied_to change (told_after_change d change)) state s.documents (changed_phase change);
      }
    where
      says : Asked → Asked
      says q = record q { change = Some change }

      taken : Asked → Asked
      taken q = record q { took = entries_taken s.history change }

      over : List Asked
      over = ended s.requests req endings.Applied

      said : List Asked
      said = on_request req says over

      own : (q : Asked) → request_of (then_ (rows.Applied req change)) req ≡ Some q → is_ongoing_load q ≡ false
      own q at = by_found (request_in over req) refl
        where
          itself : request_in (then_ (rows.Applied req change)).requests req ≡ option_map taken (option_map says (request_in over req))
          itself = on_itself said req taken ∙ ap (λ (o : Option Asked). option_map taken o) (on_itself over req says)

          by_found : (o : Option Asked) → request_in over req ≡ o → is_ongoing_load q ≡ false
          by_found None e = let no_ : None ≡ Some q = sym (itself ∙ ap (λ (o : Option Asked). option_map taken (option_map says o)) e) ∙ at in absurd cc
          by_found (Some p) e =
              let both : Some (taken (says p)) ≡ Some q = sym (itself ∙ ap (λ (o : Option Asked). option_map taken (option_map says o)) e) ∙ at in
              let same : taken (says p) ≡ q = cc in
              subst (λ (x : Asked). is_ongoing_load x ≡ false) same (ended_own s.requests req endings.Applied p e)
