-- Where nothing is in transit, no desk has anything, no navigable waits, and no request is at a desk.
use Rattle.std.proofs.Common.{◌≡◌, ◌⊎◌, inl, inr, ℕ, ◌+◌, Bool, true, false, cond, ◌&&◌, ◌==◌, List, [], ◌∷◌, length, Option, Some, None, refl, sym, ap, ◌∙◌, subst, arith}
use Rattle.std.specs.Prelude.{find, is_none, is_some}
use Rattle.std.specs.List.{list_all}
use Rattle.std.proofs.lemmas.Bool.{and_parts}
use Rattle.std.proofs.lemmas.Bool.Decides.{nat_tests}
use Rattle.tab_ids.specs.declared.DocId.{DocId}
use Rattle.tab_ids.specs.declared.NavId.{NavId}
use Rattle.tab_ids.specs.declared.ProcId.{ProcId}
use Rattle.tab_ids.specs.declared.ReqId.{ReqId}
use Rattle.log_model.specs.declared.job.Job.{Job}
use Rattle.log_model.specs.Logs.{is_idle, is_still}
use Rattle.log_model.specs.Orders.{is_being_made}
use Rattle.log_model.specs.Seen.{Seen, Document, Desk, Place, Status, awake, lost, asleep, desk_in, document_of, desk_of, place_of}
use Rattle.seen_facts.specs.Coord.Leading.{orders_of_desk}
use Rattle.seen_facts.proofs.Coord.Settlings.{IsIdleDesk}
use Rattle.seen_facts.proofs.Coord.Singles.{AreApart}
use Rattle.seen_facts.specs.Request.Whereabouts.{times_at}
use Rattle.seen_laws.proofs.Sums.{over}
use Rattle.log_model.proofs.Refl.{nat_eq_refl}
use Rattle.seen_facts.specs.Hang.Members.{Has}
use Rattle.seen_facts.specs.Home.Homes.{IsHomed}
use Rattle.seen_facts.specs.Walk.Serving.{Waits}
use Rattle.seen_facts.specs.Transit.Orders.{IsOutstanding}
use Rattle.seen_facts.specs.Transit.Waiting.{Comes, IsOnItsMaking}
use Rattle.seen_facts.specs.Rest.Between.{IsOrdered, IsComposedWithLoads}

pub empty_of : {A : Type 0} (l : List A) → (length l == 0) ≡ true → l ≡ []
empty_of [] e = refl
empty_of (x ∷ l) e =
    let no_ : (length (x ∷ l) == 0) ≡ false = grind (arith, nat_tests) in
    let never : true ≡ false = sym e ∙ no_ in absurd cc

none_of : {A : Type 0} (o : Option A) → is_none o ≡ true → o ≡ None
none_of None e = refl
none_of (Some a) e = cc

-- a desk at which nothing waits
pub record IsEmpty (desk : Desk) : Type 0 where
  pub idle : IsIdleDesk desk
  pub input : desk.input ≡ []

empty_desk : (desk : Desk) → is_idle desk ≡ true → IsEmpty desk
empty_desk desk idle =
    let three = and_parts (length desk.input == 0 && length desk.mail == 0 && is_none desk.in_hand) (length desk.reports == 0) idle in
    let two = and_parts (length desk.input == 0 && length desk.mail == 0) (is_none desk.in_hand) three.0 in
    let one = and_parts (length desk.input == 0) (length desk.mail == 0) two.0 in
    record {
      idle = record { mail = empty_of desk.mail one.1; hand = none_of desk.in_hand two.1; reports = empty_of desk.reports three.1 };
      input = empty_of desk.input one.0;
    }

idle_each : (desks : List Desk) → list_all is_idle desks ≡ true → (proc : ProcId) → IsIdleDesk (desk_in desks proc)
idle_each [] still proc = record { mail = refl; hand = refl; reports = refl }
idle_each (desk ∷ desks) still proc =
    let parts = and_parts (is_idle desk) (list_all is_idle desks) still in
    by_test (desk.proc.0 == proc.0) (empty_desk desk parts.0).idle (idle_each desks parts.1 proc)
  where
    by_test : (b : Bool) → IsIdleDesk desk → IsIdleDesk (desk_in desks proc) → (let d : Desk = cond b desk (desk_in desks proc) in IsIdleDesk d)
    by_test true here others = here
    by_test false here others = others

-- each of them is idle
idle_there : (desks : List Desk) (desk : Desk) → list_all is_idle desks ≡ true → Has desks desk → is_idle desk ≡ true
idle_there [] desk still there = absurd there
idle_there (d ∷ desks) desk still (inl same) =
    subst (λ (x : Desk). is_idle x ≡ true) same (and_parts (is_idle d) (list_all is_idle desks) still).0
idle_there (d ∷ desks) desk still (inr more) =
    idle_there desks desk (and_parts (is_idle d) (list_all is_idle desks) still).1 more

-- and no request is at any
pub none_over : (req : ReqId) (desks : List Desk) → list_all is_idle desks ≡ true → over (times_at req) desks ≡ 0
none_over req [] still = refl
none_over req (desk ∷ desks) still =
    let parts = and_parts (is_idle desk) (list_all is_idle desks) still in
    let here : IsEmpty desk = empty_desk desk parts.0 in
    let others : over (times_at req) desks ≡ 0 = none_over req desks parts.1 in
    let nothing : 0 + over (times_at req) desks ≡ 0 = omega (arith, others) in
    rw here.input (rw here.idle.reports nothing)

-- no order is there
no_orders : (desk : Desk) → IsIdleDesk desk → orders_of_desk desk ≡ []
no_orders desk idle = rw (idle.hand, idle.mail) refl

-- nothing is outstanding there
pub none_outstanding : (P : Job → Type 0) (desk : Desk) → IsIdleDesk desk → IsOutstanding P desk → ⊥
none_outstanding P desk idle (inl h) =
    (let there : Has [] h.it = subst (λ (l : List Job). Has l h.it) (no_orders desk idle) h.there in there)
none_outstanding P desk idle (inr h) = (let there : Has [] h.it = subst (λ l. Has l h.it) idle.reports h.there in there)

-- a document with a number of its own is found by it
pub found_itself : (documents : List Document) (d : Document) → AreApart (λ (x : Document). x.nr.0) documents → Has documents d → find (λ (x : Document). x.nr.0 == d.nr.0) documents ≡ Some d
found_itself [] d apart there = absurd there
found_itself (x ∷ documents) d apart (inl same) = rw (subst (λ (y : Document). (y.nr.0 == d.nr.0) ≡ true) (sym same) (nat_eq_refl d.nr.0)) (ap (λ (y : Document). Some y) same)
found_itself (x ∷ documents) d apart (inr more) = by_test (x.nr.0 == d.nr.0) refl (found_itself documents d apart.1 more)
  where
    by_test : (b : Bool) → (x.nr.0 == d.nr.0) ≡ b → find (λ (y : Document). y.nr.0 == d.nr.0) documents ≡ Some d → cond b (Some x) (find (λ (y : Document). y.nr.0 == d.nr.0) documents) ≡ Some d
    by_test false e rest = rest
    by_test true e rest =
        let number : x.nr.0 ≡ d.nr.0 = grind (arith, nat_tests, e) in
        let none : find (λ (y : Document). y.nr.0 == d.nr.0) documents ≡ None = subst (λ (n : ℕ). find (λ (y : Document). y.nr.0 == n) documents ≡ None) number apart.0 in
        let no_ : None ≡ Some d = sym none ∙ rest in cc

module _ (s : Seen) (is : IsComposedWithLoads s) (still : is_still s ≡ true) where
  pub idle_desks : (proc : ProcId) → IsIdleDesk (desk_of s proc)
  idle_desks proc = idle_each s.desks still proc

  -- no order is on its way
  pub none_ordered : IsOrdered s → ⊥
  none_ordered o =
      let idle : IsIdleDesk o.desk = (empty_desk o.desk (idle_there s.desks o.desk still o.there)).idle in
      let none : Has [] o.job = subst (λ (l : List Job). Has l o.job) (no_orders o.desk idle) o.ordered in none

  -- each awake navigable has arrived
  pub none_comes : (nav : NavId) (place : Place) (doc : DocId) → place_of s nav ≡ Some place → place.status ≡ awake doc → place.is_delivered ≡ false → ⊥
  none_comes nav place doc there wakes late =
      let h : IsHomed s.documents place doc = is.homes.homed nav place doc there wakes in
      let c : Comes (desk_of s h.home.document.proc) h.home.document place = is.ways.comes nav place doc h.home.document there wakes h.home.found late in
      by_way h.home.document h.home.found c.waits
    where
      by_way : {P : Job → Type 0} (d : Document) → document_of s doc ≡ Some d → IsOutstanding P (desk_of s d.proc) ⊎ (is_some d.dead_by ≡ true) → ⊥
      by_way {P} d found (inl out) = none_outstanding P (desk_of s d.proc) (idle_desks d.proc) out
      by_way d found (inr dead) = let no_ : false ≡ true = ap (λ o. is_some o) (sym (is.plain.alive doc d found)) ∙ dead in cc

  -- and each document is made
  pub none_making : (doc : DocId) (d : Document) → document_of s doc ≡ Some d → is_being_made d ≡ true → ⊥
  none_making doc d found making = by_way (is.ways.made doc d found making)
    where
      by_way : IsOnItsMaking (desk_of s d.proc) d → ⊥
      by_way (inl out) = none_outstanding _ (desk_of s d.proc) (idle_desks d.proc) out
      by_way (inr dead) = let no_ : false ≡ true = ap (λ o. is_some o) (sym (is.plain.alive doc d found)) ∙ dead in cc

  -- so nobody waits
  pub none_waits : (step : ℕ) (nav : NavId) (place : Place) → place_of s nav ≡ Some place → Waits s.history.rows s.documents step place → ⊥
  none_waits step nav place there (inl coming) = by_status place.status refl
    where
      by_status : (st : Status) → place.status ≡ st → ⊥
      by_status (awake doc) e = none_comes nav place doc there e coming.late
      by_status lost e = let no_ : false ≡ true = (let h = coming.wakes in rw e at h) in cc
      by_status asleep e = let no_ : false ≡ true = (let h = coming.wakes in rw e at h) in cc
  none_waits step nav place there (inr made) =
      none_making made.making.document.nr made.making.document (found_itself s.documents made.making.document is.kept.numbered made.making.there) made.making.made
