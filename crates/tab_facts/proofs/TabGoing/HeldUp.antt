-- What is held back stays so for a traversal that has moved its navigable: over orders, and over the rows that begin or end requests.
use Rattle.seen_facts.proofs.Coord.Held.{on_else}
use Rattle.seen_facts.proofs.Coord.Unread.{next}
use Rattle.seen_facts.proofs.Each.Courses.{was_asked}
pub use Rattle.tab_facts.proofs.Frame.Applied.{applied_wishes}
use Rattle.tab_facts.proofs.Frame.Orders.{wish_blind}
use Rattle.tab_facts.specs.Frame.Lasting.{Wish, wish}
use Rattle.log_model.specs.After.{ended}
use Rattle.log_model.specs.AfterPlaces.{sleepers_below, sleepers_with}
use Rattle.log_model.specs.AfterRequests.{entries_taken, on_request, on_served, request_begun, request_served, requests_sent, with_activated, with_moved, without_req}
use Rattle.log_model.specs.Equal.{has_req}
use Rattle.log_model.specs.History.{has_nav}
use Rattle.log_model.specs.Points.{nav_of_request}
use Rattle.log_model.specs.Seen.{Asked, Document, Seen, document_of, place_of, request_in}
use Rattle.log_model.specs.declared.change.Change.{Change}
use Rattle.log_model.specs.declared.job.Job.{Job}
use Rattle.log_model.specs.declared.job.Task.{Task}
use Rattle.log_model.specs.declared.job.Why.{Why}
use Rattle.log_model.specs.declared.outcome.Cause.{Cause}
use Rattle.log_model.specs.declared.outcome.Denial.{Denial}
use Rattle.log_model.specs.declared.row_kind.Actor.{Actor}
use Rattle.seen_facts.proofs.Request.LookUps.{on_itself}
use Rattle.seen_facts.proofs.Request.Readers.{SameReads, on_read, reads_then, sent_reads}
use Rattle.std.proofs.Common.{Bool, List, None, Option, Some, [], ap, arith, cond, false, not, refl, subst, sym, true, ℕ, ◌++◌, ◌==◌, ◌||◌, ◌∙◌, ◌∷◌, ◌≡◌}
use Rattle.std.proofs.lemmas.Bool.Decides.{nat_tests}
use Rattle.std.specs.Option.{option_map_or}
use Rattle.std.specs.Prelude.{option_map}
use Rattle.tab_facts.proofs.TabGoing.Counts.{some_same}
use Rattle.tab_facts.specs.TabGoing.Going.{AreHeldUp}
use Rattle.tab_ids.specs.declared.NavId.{NavId}
use Rattle.tab_ids.specs.declared.ReqId.{ReqId}
use Rattle.tab_ids.specs.declared.Step.{Step}
use Rattle.log_model.specs.declared.job.Task.TheVariants as tasks
use Rattle.log_model.specs.declared.job.Why.TheVariants as whys
use Rattle.log_model.specs.declared.outcome.Ending.TheVariants as endings
use Rattle.log_model.specs.declared.row_kind.RowKind.TheVariants as rows

-- ---- a request loses none whom it has moved

has_later : (navs others : List NavId) (nav : NavId) → has_nav others nav ≡ true → has_nav (navs ++ others) nav ≡ true
has_later [] others nav has = has
has_later (n ∷ navs) others nav has = by_first (n.0 == nav.0) (has_later navs others nav has)
  where
    by_first : (b : Bool) → has_nav (navs ++ others) nav ≡ true → (b || has_nav (navs ++ others) nav) ≡ true
    by_first true more = refl
    by_first false more = more

-- a change of a request by which it loses none whom it has moved
abbrev pub Grows : (Asked → Asked) → Type 0
Grows f = (q : Asked) (nav : NavId) → has_nav q.moved nav ≡ true → has_nav (f q).moved nav ≡ true

moved_grows : (s : Seen) (job : Job) (task : Task) → Grows (request_served s job task)
moved_grows s job (tasks.Activate entry epoch length index memo address) q nav has = by_document (document_of s job.doc)
  where
    shown : (d : Document) → has_nav (with_activated d.nav (with_moved (option_map_or (sleepers_below s job.doc) (place_of s d.nav) []) q)).moved nav ≡ true
    shown d = has_later (d.nav ∷ []) (option_map_or (sleepers_below s job.doc) (place_of s d.nav) [] ++ q.moved) nav (has_later (option_map_or (sleepers_below s job.doc) (place_of s d.nav) []) q.moved nav has)

    by_document : (o : Option Document) → has_nav (option_map_or (λ (d : Document). with_activated d.nav (with_moved (option_map_or (sleepers_below s job.doc) (place_of s d.nav) []) q)) o q).moved nav ≡ true
    by_document None = has
    by_document (Some d) = shown d
moved_grows s job tasks.Freeze q nav has = has_later (sleepers_with s job.doc) q.moved nav has
moved_grows s job tasks.Discard q nav has = has_later (sleepers_with s job.doc) q.moved nav has
moved_grows s job (tasks.Ask slot cause) q nav has = has
moved_grows s job (tasks.Populate n state address initial) q nav has = has
moved_grows s job (tasks.Update length index) q nav has = has
moved_grows s job (tasks.DoFragment req mode address) q nav has = has

-- the request was there, and has lost none whom it had moved
pub record HadMoved (asked : List Asked) (req : ReqId) (r : Asked) : Type 0 where
  pub q : Asked
  pub there : request_in asked req ≡ Some q
  pub less : (nav : NavId) → has_nav q.moved nav ≡ true → has_nav r.moved nav ≡ true

-- so it is of each
abbrev pub GrowsIn : List Asked → List Asked → Type 0
GrowsIn asked next_ = (req : ReqId) (r : Asked) → request_in next_ req ≡ Some r → HadMoved asked req r

grows_then : (a b c : List Asked) → GrowsIn a b → GrowsIn b c → GrowsIn a c
grows_then a b c first then_ req r at =
    let late = then_ req r at in
    let early = first req late.q late.there in
    record { q = early.q; there = early.there; less = λ nav has. late.less nav (early.less nav has) }

grows_itself : (asked : List Asked) → GrowsIn asked asked
grows_itself asked req r at = record { q = r; there = at; less = λ nav has. has }

on_grows : (asked : List Asked) (req : ReqId) (f : Asked → Asked) → Grows f → GrowsIn asked (on_request req f asked)
on_grows asked req f grows run r at = by_test (run.0 == req.0) refl
  where
    own : (o : Option Asked) → request_in asked run ≡ o → option_map f o ≡ Some r → HadMoved asked run r
    own None e is = absurd cc
    own (Some q) e is = record { q = q; there = e; less = λ nav has. subst (λ (x : Asked). has_nav x.moved nav ≡ true) (some_same is) (grows q nav has) }

    by_test : (b : Bool) → (run.0 == req.0) ≡ b → HadMoved asked run r
    by_test true is =
        let same : run ≡ req = ap (λ (n : ℕ). let x : ReqId = record { 0 = n } in x) (grind (arith, nat_tests, is)) in
        own (request_in asked run) refl (subst (λ (x : ReqId). option_map f (request_in asked x) ≡ Some r) (sym same) (sym (on_itself asked req f) ∙ subst (λ (x : ReqId). request_in (on_request req f asked) x ≡ Some r) same at))
    by_test false is = record { q = r; there = sym (on_else asked req f run is) ∙ at; less = λ nav has. has }

served_grows : (asked : List Asked) (why : Why) (f : Asked → Asked) → Grows f → GrowsIn asked (on_served why f asked)
served_grows asked (whys.Req req) f grows = on_grows asked req f grows
served_grows asked (whys.Death death) f grows = grows_itself asked
served_grows asked whys.Evict f grows = grows_itself asked
served_grows asked whys.Start f grows = grows_itself asked

sent_grows : (s : Seen) (job : Job) (task : Task) → GrowsIn s.requests (requests_sent s job task s.requests)
sent_grows s job (tasks.DoFragment req mode address) = on_grows s.requests req (λ q. record q { fragment = Some job.doc }) (λ q n moved. moved)
sent_grows s job (tasks.Populate n state address initial) = grows_itself s.requests
sent_grows s job (tasks.Update length index) = grows_itself s.requests
sent_grows s job (tasks.Activate entry epoch length index memo address) = served_grows s.requests job.why (request_served s job (tasks.Activate entry epoch length index memo address)) (moved_grows s job (tasks.Activate entry epoch length index memo address))
sent_grows s job tasks.Freeze = served_grows s.requests job.why (request_served s job tasks.Freeze) (moved_grows s job tasks.Freeze)
sent_grows s job tasks.Discard = served_grows s.requests job.why (request_served s job tasks.Discard) (moved_grows s job tasks.Discard)
sent_grows s job (tasks.Ask slot cause) = served_grows s.requests job.why (request_served s job (tasks.Ask slot cause)) (moved_grows s job (tasks.Ask slot cause))

-- ---- the rows

has_without : (reqs : List ReqId) (gone req : ReqId) → has_req (without_req gone reqs) req ≡ true → has_req reqs req ≡ true
has_without [] gone req has = has
has_without (r ∷ reqs) gone req has = by_test (r.0 == gone.0) has (has_without reqs gone req)
  where
    or_more : (b : Bool) → (b || has_req (without_req gone reqs) req) ≡ true → (has_req (without_req gone reqs) req ≡ true → has_req reqs req ≡ true) → (b || has_req reqs req) ≡ true
    or_more true h more = refl
    or_more false h more = more h

    by_test : (b : Bool) → has_req (let l : List ReqId = cond (not b) (r ∷ without_req gone reqs) (without_req gone reqs) in l) req ≡ true → (has_req (without_req gone reqs) req ≡ true → has_req reqs req ≡ true) → (r.0 == req.0 || has_req reqs req) ≡ true
    by_test true h more = or_more (r.0 == req.0) (or_late (r.0 == req.0) h) more
      where
        or_late : (b : Bool) → has_req (without_req gone reqs) req ≡ true → (b || has_req (without_req gone reqs) req) ≡ true
        or_late true late = refl
        or_late false late = late
    by_test false h more = or_more (r.0 == req.0) h more

-- fewer are held back, requests ask the same, and lose none whom they have moved
held_on : (run : Option ReqId) (s t : Seen) → ((req : ReqId) → has_req t.parked req ≡ true → has_req s.parked req ≡ true) → SameReads wish s.requests t.requests → GrowsIn s.requests t.requests → AreHeldUp run s → AreHeldUp run t
held_on None s t fewer same grows held = tt
held_on (Some run) s t fewer same grows held = λ req q r nav has there asks at.
    (let was = was_asked wish s.requests t.requests same req q there in
    let had = grows run r at in
    had.less nav (held req was.0 had.q nav (fewer req has) was.1 (ap (λ (w : Wish). nav_of_request w.what) was.2 ∙ asks) had.there))

module _ (run : Option ReqId) (s : Seen) (event : ℕ) (actor : Actor) (held : AreHeldUp run s) where
  pub sent_held : (job : Job) → AreHeldUp run (next s event actor (rows.Sent job))
  sent_held job =
      held_on run s (next s event actor (rows.Sent job)) (λ req has. has) (sent_reads wish wish_blind s job job.task s.requests) (sent_grows s job job.task) held

  pub applied_held : (req : ReqId) (change : Change) → AreHeldUp run (next s event actor (rows.Applied req change))
  applied_held req change =
      held_on run s (next s event actor (rows.Applied req change)) (has_without s.parked req) (applied_wishes s event actor req change)
      (grows_then s.requests (on_request req (λ q. record q { change = Some change }) (ended s.requests req endings.Applied)) _
      (grows_then s.requests (ended s.requests req endings.Applied) _ (on_grows s.requests req (λ q. record q { ending = Some endings.Applied }) (λ q n moved. moved)) (on_grows (ended s.requests req endings.Applied) req (λ q. record q { change = Some change }) (λ q n moved. moved)))
      (on_grows (on_request req (λ q. record q { change = Some change }) (ended s.requests req endings.Applied)) req (λ q. record q { took = entries_taken s.history change }) (λ q n moved. moved))) held

  pub refused_held : (req : ReqId) (reason : Denial) → AreHeldUp run (next s event actor (rows.Refused req reason))
  refused_held req reason =
      held_on run s (next s event actor (rows.Refused req reason)) (has_without s.parked req) (on_read wish s.requests req (λ q. record q { ending = Some (endings.Refused reason) }) (λ q. refl)) (on_grows s.requests req (λ q. record q { ending = Some (endings.Refused reason) }) (λ q n moved. moved)) held

  pub dropped_held : (req : ReqId) (cause : Cause) → AreHeldUp run (next s event actor (rows.Dropped req cause))
  dropped_held req cause =
      held_on run s (next s event actor (rows.Dropped req cause)) (has_without s.parked req) (on_read wish s.requests req (λ q. record q { ending = Some (endings.Dropped cause) }) (λ q. refl)) (on_grows s.requests req (λ q. record q { ending = Some (endings.Dropped cause) }) (λ q n moved. moved)) held

  pub begun_held : (req : ReqId) (goal : Option Step) → AreHeldUp run (next s event actor (rows.Started req goal))
  begun_held req goal =
      held_on run s (next s event actor (rows.Started req goal)) (λ r has. has)
      (reads_then wish s.requests (on_request req (λ q. record q { is_started = true; goal = goal }) s.requests) _ (on_read wish s.requests req (λ q. record q { is_started = true; goal = goal }) (λ q. refl)) (on_read wish (on_request req (λ q. record q { is_started = true; goal = goal }) s.requests) req (request_begun s) (λ q. refl)))
      (grows_then s.requests (on_request req (λ q. record q { is_started = true; goal = goal }) s.requests) _ (on_grows s.requests req (λ q. record q { is_started = true; goal = goal }) (λ q n moved. moved)) (on_grows (on_request req (λ q. record q { is_started = true; goal = goal }) s.requests) req (request_begun s) (λ q n moved. moved))) held

-- nothing is held back
pub none_held_up : (run : Option ReqId) (s : Seen) → s.parked ≡ [] → AreHeldUp run s
none_held_up None s none = tt
none_held_up (Some run) s none = λ req q r nav has there asks at.
    (let never : false ≡ true = sym (ap (λ (l : List ReqId). has_req l req) none) ∙ has in absurd cc)
