-- A load that passes its check is taken out of the table of loads in their checks: the others stay.
use Rattle.checking_facts.specs.Checks.{SameBut}
use Rattle.load_table.proofs.Others.{others_cancelled}
use Rattle.load_table.specs.Loads.{cancelled, is_nav, ongoing_load}
use Rattle.load_table.specs.declared.load.Load.{Load}
use Rattle.log_model.proofs.Refl.{nat_eq_refl}
use Rattle.log_model.specs.Once.{loads}
use Rattle.log_model.specs.Places.{is_ongoing_load}
use Rattle.log_model.specs.Seen.{Asked, Seen, request_of}
use Rattle.log_model.specs.declared.request.Request.TheVariants as requests
use Rattle.seen_facts.proofs.LoadTies.Begins.{found_nav}
use Rattle.seen_facts.proofs.LoadTies.Ends.{cancelled_none}
use Rattle.seen_facts.specs.LoadTies.Tying.{HasLoad}
use Rattle.seen_laws.specs.InEvent.{InEvent}
use Rattle.std.proofs.Common.{Bool, List, None, Some, ap, eqb-true, false, refl, sym, true, ℕ, ◌==◌, ◌∙◌, ◌≡◌}
use Rattle.tab_doors.specs.AskingLoads.{IsAskingTied, TiesAsking}
use Rattle.tab_ids.specs.declared.NavId.{NavId}
use Rattle.tab_ids.specs.declared.ReqId.{ReqId}
use Rattle.tab_passed.specs.Passing.{LeavesAsking, PassesCheck}

same_req : (a b : ReqId) → (a.0 == b.0) ≡ true → a ≡ b
same_req a b e = let n : a.0 ≡ b.0 = eqb-true a.0 b.0 e in ap (λ (i : ℕ). let x : ReqId = record { 0 = i } in x) n

module _ (was now : ReqId → Bool) (req : ReqId) (off : now req ≡ false) (same : SameBut req was now) (table : List Load) (nav : NavId) (has : HasLoad table nav req) (s : Seen) (ties : TiesAsking was s table) where
  -- a load of another navigable is of another request
  apart : (n : NavId) (l : Load) → ongoing_load n table ≡ Some l → is_nav n nav ≡ false → (l.req.0 == req.0) ≡ false
  apart n l there_ e_ = by_test (l.req.0 == req.0) refl
    where
      by_test : (b : Bool) → (l.req.0 == req.0) ≡ b → b ≡ false
      by_test false f = refl
      by_test true f =
          let its : l.req ≡ has.load.req = same_req l.req req f ∙ sym has.req_is in
          let one = ties.there n l there_ in
          let two = ties.there nav has.load has.at in
          let both : Some one.q ≡ Some two.q = sym one.found ∙ ap (request_of s) its ∙ two.found in
          let asked : one.q ≡ two.q = cc in
          let whats : requests.Load l.nav one.mode l.address ≡ requests.Load has.load.nav two.mode has.load.address = sym one.what ∙ ap (λ (x : Asked). x.what) asked ∙ two.what in
          let navs : l.nav ≡ has.load.nav = cc in
          let n_is : n ≡ nav = sym (found_nav n table l there_) ∙ navs ∙ found_nav nav table has.load has.at in
          let no_ : true ≡ false = sym (nat_eq_refl nav.0) ∙ ap (λ (x : NavId). x.0 == nav.0) (sym n_is) ∙ e_ in
          absurd cc

  there : (n : NavId) (l : Load) → ongoing_load n (cancelled nav table) ≡ Some l → IsAskingTied now s l
  there n l at_next = by_nav (is_nav n nav) refl
    where
      by_nav : (b : Bool) → is_nav n nav ≡ b → IsAskingTied now s l
      by_nav false e_ =
          let at : ongoing_load n table ≡ Some l = sym (others_cancelled nav table n e_) ∙ at_next in
          let tied = ties.there n l at in
          record { q = tied.q; found = tied.found; on = same l.req (apart n l at e_) ∙ tied.on; ongoing = tied.ongoing; mode = tied.mode; what = tied.what; state = tied.state; replace = tied.replace; phase = tied.phase }
      by_nav true e_ =
          let number : n.0 ≡ nav.0 = eqb-true n.0 nav.0 e_ in
          let same : n ≡ nav = ap (λ (k : ℕ). let x : NavId = record { 0 = k } in x) number in
          let no_ : None ≡ Some l = sym (cancelled_none nav table) ∙ ap (λ (x : NavId). ongoing_load x (cancelled nav table)) (sym same) ∙ at_next in
          absurd cc

  all : (r : ReqId) (x : Asked) (n : NavId) → request_of s r ≡ Some x → now r ≡ true → is_ongoing_load x ≡ true → loads n x.what ≡ true → HasLoad (cancelled nav table) n r
  all r x n found on going of_nav = by_nav was_there (is_nav n nav) refl
    where
      other : (r.0 == req.0) ≡ false
      other = by_test (r.0 == req.0) refl
        where
          by_test : (b : Bool) → (r.0 == req.0) ≡ b → b ≡ false
          by_test false f = refl
          by_test true f =
              let no_ : false ≡ true = sym off ∙ ap now (sym (same_req r req f)) ∙ on in
              absurd cc

      was_there : HasLoad table n r
      was_there = ties.all r x n found (sym (same r other) ∙ on) going of_nav

      by_nav : HasLoad table n r → (b : Bool) → is_nav n nav ≡ b → HasLoad (cancelled nav table) n r
      by_nav its false e_ = record { load = its.load; at = others_cancelled nav table n e_ ∙ its.at; req_is = its.req_is }
      by_nav its true e_ =
          let number : n.0 ≡ nav.0 = eqb-true n.0 nav.0 e_ in
          let same : n ≡ nav = ap (λ (k : ℕ). let x : NavId = record { 0 = k } in x) number in
          let both : Some its.load ≡ Some has.load = sym its.at ∙ ap (λ (x : NavId). ongoing_load x table) same ∙ has.at in
          let one : its.load ≡ has.load = cc in
          let req_is : r ≡ req = sym its.req_is ∙ ap (λ (l : Load). l.req) one ∙ has.req_is in
          let no_ : true ≡ false = sym (nat_eq_refl req.0) ∙ ap (λ (x : ReqId). x.0 == req.0) (sym req_is) ∙ other in
          absurd cc

-- who is in its check no more leaves the table
pub asking_leaves : (was now : ReqId → Bool) (req : ReqId) → now req ≡ false → SameBut req was now → (table : List Load) (nav : NavId) → HasLoad table nav req → (s : Seen) → TiesAsking was s table → TiesAsking now s (cancelled nav table)
asking_leaves was now req off same table nav has s ties =
    record { there = there was now req off same table nav has s ties; all = all was now req off same table nav has s ties }

-- so as the event began it was in the table, and leaves it
pub load_leaves : (was : ReqId → Bool) (e : InEvent) (req : ReqId) (q : Asked) → PassesCheck was e req q → (table : List Load) → TiesAsking was e.start table → is_ongoing_load q ≡ true → (nav : NavId) → loads nav q.what ≡ true → LeavesAsking was e.checking req q.what table (cancelled nav table)
load_leaves was e req q pass table began going nav of_nav s whats ties =
    asking_leaves was e.checking req pass.off pass.same table nav has s ties
  where
    has : HasLoad table nav req
    has = began.all req q nav pass.at pass.on going of_nav
