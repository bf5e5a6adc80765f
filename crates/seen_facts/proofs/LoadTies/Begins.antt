-- A load begins, and the table has it: it is its navigable's, and asks nothing yet of its document.
use Rattle.std.proofs.Common.{◌≡◌, ℕ, ◌+◌, Bool, true, false, cond, ◌&&◌, ◌==◌, List, [], ◌∷◌, Option, Some, None, refl, sym, ap, ◌∙◌, subst, eqb-true}
use Rattle.std.specs.Prelude.{find, option_map}
use Rattle.tab_ids.specs.declared.NavId.{NavId}
use Rattle.tab_ids.specs.declared.ReqId.{ReqId}
use Rattle.tab_ids.specs.declared.StateId.{StateId}
use Rattle.log_model.specs.declared.request.Mode.{Mode}
use Rattle.log_model.specs.declared.request.Request.{Request}
use Rattle.log_model.specs.declared.request.Request.TheVariants as requests
use Rattle.log_model.specs.declared.row_kind.Actor.{Actor}
use Rattle.log_model.specs.declared.row_kind.RowKind.TheVariants as rows
use Rattle.log_model.specs.After.{after}
use Rattle.log_model.specs.AfterRequests.{load_replaces, on_request, request_begun}
use Rattle.log_model.specs.Once.{loads}
use Rattle.log_model.specs.Places.{is_ongoing_load}
use Rattle.log_model.specs.Seen.{Seen, Asked, Document, request_of}
use Rattle.log_model.proofs.Refl.{nat_eq_refl}
use Rattle.seen_facts.proofs.Coord.Held.{on_else}
use Rattle.seen_facts.proofs.Request.LookUps.{on_itself}
use Rattle.load_table.specs.declared.load.Load.{Load}
use Rattle.load_table.specs.declared.phase.Phase.TheVariants as phases
use Rattle.load_table.specs.Loads.{KeepsOthers, begun, is_nav, is_of, ongoing_load}
use Rattle.seen_facts.specs.LoadTies.Tying.{HasLoad, IsLoadTied, TiesLoads, is_for_state, made_for, phase_with}
use Rattle.seen_facts.proofs.LoadTies.Leaves.{has_again, tied_again, traced}

-- ---- the table

-- the load that has begun is its navigable's
pub begun_own : (load : Load) (table : List Load) → ongoing_load load.nav (begun load table) ≡ Some load
begun_own load [] = rw (nat_eq_refl load.nav.0) refl
begun_own load (first ∷ table) = by_test (is_of load.nav first) refl (begun_own load table)
  where
    by_test : (b : Bool) → is_of load.nav first ≡ b → ongoing_load load.nav (begun load table) ≡ Some load → ongoing_load load.nav (cond b (load ∷ table) (first ∷ begun load table)) ≡ Some load
    by_test true e more = rw (nat_eq_refl load.nav.0) refl
    by_test false e more = rw e more

-- what a table finds is of the navigable
pub found_nav : (nav : NavId) (table : List Load) (load : Load) → ongoing_load nav table ≡ Some load → load.nav ≡ nav
found_nav nav [] load at = absurd cc
found_nav nav (first ∷ table) load at = by_test (is_of nav first) refl at (found_nav nav table load)
  where
    by_test : (b : Bool) → is_of nav first ≡ b → cond b (Some first) (ongoing_load nav table) ≡ Some load → (ongoing_load nav table ≡ Some load → load.nav ≡ nav) → load.nav ≡ nav
    by_test true e f more =
        let same : first ≡ load = cc in
        let number : nav.0 ≡ first.nav.0 = eqb-true nav.0 first.nav.0 e in
        ap (λ (l : Load). l.nav) (sym same) ∙ ap (λ (n : ℕ). let x : NavId = record { 0 = n } in x) (sym number)
    by_test false e f more = more f

-- two loads that a table finds for a navigable are one
pub one_found : (nav : NavId) (table : List Load) (a b : Load) → ongoing_load nav table ≡ Some a → ongoing_load nav table ≡ Some b → a ≡ b
one_found nav table a b at_a at_b = let both : Some a ≡ Some b = sym at_a ∙ at_b in cc

-- a document state that no document has
pub none_made : (documents : List Document) (state : StateId) → ((d : Document) → is_for_state state d ≡ true → find (is_for_state state) documents ≡ Some d → ⊥) → made_for documents state ≡ None
none_made documents state none = by_found (made_for documents state) refl
  where
    passes : (l : List Document) (d : Document) → find (is_for_state state) l ≡ Some d → is_for_state state d ≡ true
    passes [] d e = absurd cc
    passes (x ∷ l) d e = by_test (is_for_state state x) refl e (passes l d)
      where
        by_test : (b : Bool) → is_for_state state x ≡ b → cond b (Some x) (find (is_for_state state) l) ≡ Some d → (find (is_for_state state) l ≡ Some d → is_for_state state d ≡ true) → is_for_state state d ≡ true
        by_test true is f more = let same : x ≡ d = cc in subst (λ (y : Document). is_for_state state y ≡ true) same is
        by_test false is f more = more f

    by_found : (o : Option Document) → made_for documents state ≡ o → made_for documents state ≡ None
    by_found None e = e
    by_found (Some d) e = absurd (none d (passes documents d e) e)

-- ---- the row

module _ (s : Seen) (event : ℕ) (actor : Actor) (table next : List Load) (ties : TiesLoads s table) (load : Load) (q : Asked) (mode : Mode) (found : request_of s load.req ≡ Some q) (what : q.what ≡ requests.Load load.nav mode load.address) (unstarted : q.is_started ≡ false) (open_ : q.ending ≡ None) (state : load.state.0 ≡ s.states + 1) (replace : load.replace ≡ load_replaces s q.what) (asking : load.phase ≡ phases.Asking) (unmade : made_for s.documents load.state ≡ None) (alone : (req : ReqId) (other : Asked) → request_of s req ≡ Some other → is_ongoing_load other ≡ true → loads load.nav other.what ≡ true → ⊥) (own : ongoing_load load.nav next ≡ Some load) (others : KeepsOthers load.nav table next) where
  abbrev t : Seen
  t = after s (record { event = event; actor = actor; row = rows.Started load.req None })

  abbrev begin : Asked → Asked
  begin p = record p { is_started = true; goal = None }

  own_request : request_of t load.req ≡ Some (request_begun s (begin q))
  own_request =
      on_itself (on_request load.req begin s.requests) load.req (request_begun s)
      ∙ ap (λ (o : Option Asked). option_map (request_begun s) o) (on_itself s.requests load.req begin ∙ ap (λ (o : Option Asked). option_map begin o) found)

  other_request : (req : ReqId) → (req.0 == load.req.0) ≡ false → request_of t req ≡ request_of s req
  other_request req apart = on_else (on_request load.req begin s.requests) load.req (request_begun s) req apart ∙ on_else s.requests load.req begin req apart

  own_tied : IsLoadTied t load
  own_tied =
      record {
        q = request_begun s (begin q);
        found = own_request;
        ongoing = rw (open_, what) refl;
        mode = mode;
        what = what;
        state = (let next_ : (let o : Option StateId = Some (record { 0 = s.states + 1 }) in o) ≡ Some load.state = ap (λ (n : ℕ). let o : Option StateId = Some (record { 0 = n }) in o) (sym state) in rw what next_);
        replace = replace;
        phase = asking ∙ sym (ap (λ (o : Option Document). phase_with o) unmade);
      }

  -- the request of a load of the table isn't this one, which hadn't begun
  apart_of : (l : Load) → IsLoadTied s l → (l.req.0 == load.req.0) ≡ false
  apart_of l tied = by_test (l.req.0 == load.req.0) refl
    where
      never : (a b : Bool) → ((false && a) && b) ≡ true → ⊥
      never a b e = cc

      by_test : (b : Bool) → (l.req.0 == load.req.0) ≡ b → (l.req.0 == load.req.0) ≡ false
      by_test false e = e
      by_test true e =
          let number : l.req.0 ≡ load.req.0 = eqb-true l.req.0 load.req.0 e in
          let same : l.req ≡ load.req = ap (λ (n : ℕ). let x : ReqId = record { 0 = n } in x) number in
          let both : Some tied.q ≡ Some q = sym tied.found ∙ ap (request_of s) same ∙ found in
          let one : tied.q ≡ q = cc in
          absurd (alone l.req tied.q tied.found tied.ongoing (absurd (not_begun tied.q one tied.ongoing)))
        where
          not_begun : (p : Asked) → p ≡ q → is_ongoing_load p ≡ true → ⊥
          not_begun p same on =
              let begun_ : p.is_started ≡ false = ap (λ (x : Asked). x.is_started) same ∙ unstarted in
              let no_ : false ≡ true = sym (rw begun_ refl) ∙ on in
              cc

  pub begins_tied : TiesLoads t next
  begins_tied = record { there = there; all = all }
    where
      there : (nav : NavId) (l : Load) → ongoing_load nav next ≡ Some l → IsLoadTied t l
      there nav l at = by_nav (is_nav nav load.nav) refl
        where
          by_nav : (b : Bool) → is_nav nav load.nav ≡ b → IsLoadTied t l
          by_nav true e =
              let number : nav.0 ≡ load.nav.0 = eqb-true nav.0 load.nav.0 e in
              let same : nav ≡ load.nav = ap (λ (n : ℕ). let x : NavId = record { 0 = n } in x) number in
              let both : Some load ≡ Some l = sym own ∙ ap (λ (n : NavId). ongoing_load n next) (sym same) ∙ at in
              let one : load ≡ l = cc in
              subst (λ (x : Load). IsLoadTied t x) one own_tied
          by_nav false e =
              let tied = ties.there nav l (sym (others nav e) ∙ at) in
              tied_again s t l (ap (λ (o : Option Asked). option_map traced o) (other_request l.req (apart_of l tied))) refl tied

      all : (req : ReqId) (p : Asked) (nav : NavId) → request_of t req ≡ Some p → is_ongoing_load p ≡ true → loads nav p.what ≡ true → HasLoad next nav req
      all req p nav at on loads_it = by_req (req.0 == load.req.0) refl
        where
          its_nav : p ≡ request_begun s (begin q) → load.nav ≡ nav
          its_nav same =
              let number : (load.nav.0 == nav.0) ≡ true = ap (λ (w : Request). loads nav w) (sym what ∙ ap (λ (x : Asked). x.what) (sym same)) ∙ loads_it in
              ap (λ (n : ℕ). let x : NavId = record { 0 = n } in x) (eqb-true load.nav.0 nav.0 number)

          by_nav : HasLoad table nav req → (b : Bool) → is_nav nav load.nav ≡ b → HasLoad next nav req
          by_nav has false e = record { load = has.load; at = others nav e ∙ has.at; req_is = has.req_is }
          by_nav has true e =
              let number : nav.0 ≡ load.nav.0 = eqb-true nav.0 load.nav.0 e in
              let same : nav ≡ load.nav = ap (λ (n : ℕ). let x : NavId = record { 0 = n } in x) number in
              let tied = ties.there nav has.load has.at in
              let its : has.load.nav ≡ nav = found_nav nav table has.load has.at in
              absurd (alone has.load.req tied.q tied.found tied.ongoing (ap (λ (w : Request). loads load.nav w) tied.what ∙ ap (λ (n : NavId). n.0 == load.nav.0) (its ∙ same) ∙ nat_eq_refl load.nav.0))

          by_req : (b : Bool) → (req.0 == load.req.0) ≡ b → HasLoad next nav req
          by_req true e =
              let number : req.0 ≡ load.req.0 = eqb-true req.0 load.req.0 e in
              let same : req ≡ load.req = ap (λ (n : ℕ). let x : ReqId = record { 0 = n } in x) number in
              let both : Some p ≡ Some (request_begun s (begin q)) = sym at ∙ ap (request_of t) same ∙ own_request in
              let one : p ≡ request_begun s (begin q) = cc in
              record { load = load; at = ap (λ (n : NavId). ongoing_load n next) (sym (its_nav one)) ∙ own; req_is = sym same }
          by_req false e =
              by_nav (has_again s t table ties req p nav at on loads_it (ap (λ (o : Option Asked). option_map traced o) (other_request req e))) (is_nav nav load.nav) refl
