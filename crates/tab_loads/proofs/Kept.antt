-- What is as it was before the load began, once its document is being made.
use Rattle.seen_facts.proofs.Coord.Held.{on_else}
use Rattle.seen_facts.proofs.Coord.Unread.{next}
use Rattle.tab_facts.specs.Frame.Lasting.{wish}
use Rattle.row_facts.specs.FrameRows.Lawful.{held_at_first}
use Rattle.seen_facts.proofs.Hang.Forms.{nav_is as nav_same}
use Rattle.seen_facts.specs.Home.Homes.{document_in}
use Rattle.seen_facts.specs.LoadEnds.Standing.{is_reached}
use Rattle.seen_facts.specs.Load.Loading.{Look, look, look_of}
use Rattle.log_model.specs.AfterDocuments.{new_document}
use Rattle.log_model.specs.AfterRequests.{on_request, request_begun}
use Rattle.log_model.specs.Equal.{has_req}
use Rattle.log_model.specs.Once.{loads}
use Rattle.log_model.specs.Places.{aim_of}
use Rattle.log_model.specs.Seen.{Asked, Document, Place, Seen, document_of, place_in, place_of, request_in, request_of}
use Rattle.log_model.specs.declared.job.Job.{Job}
use Rattle.log_model.specs.declared.job.Why.{Why}
use Rattle.log_model.specs.declared.row_kind.RowKind.{RowKind}
use Rattle.seen_facts.specs.Mover.Movers.{IsMovedBy}
use Rattle.seen_facts.proofs.Request.Readers.{SameReads, on_read, reads_then}
use Rattle.seen_laws.specs.InEvent.{now_of}
use Rattle.std.proofs.Common.{Bool, List, None, Option, Some, [], ap, arith, cond, false, inl, inr, refl, subst, sym, true, ℕ, ◌++◌, ◌+◌, ◌==◌, ◌∙◌, ◌∷◌, ◌≡◌, ◌⊎◌}
use Rattle.std.proofs.lemmas.Bool.Decides.{nat_tests}
use Rattle.std.specs.Prelude.{find, option_map}
use Rattle.tab_doors.specs.Orders.{next_order}
use Rattle.tab_doors.specs.Working.{IsAtWork, KeepsStore}
use Rattle.tab_doors.specs.declared.tables.Tables.{Tables}
use Rattle.tab_drops.specs.Dropping.{AreUnheld}
use Rattle.tab_facts.specs.TabGoing.Going.{IsGoing}
use Rattle.tab_ids.specs.declared.DocId.{DocId}
use Rattle.tab_ids.specs.declared.NavId.{NavId}
use Rattle.tab_ids.specs.declared.ProcId.{ProcId}
use Rattle.tab_ids.specs.declared.ReqId.{ReqId}
use Rattle.tab_ids.specs.declared.StateId.{StateId}
use Rattle.tab_loads.proofs.Comes.{pass}
use Rattle.tab_loads.proofs.Firsts.{open_here, q}
use Rattle.tab_loads.proofs.Leaving.{IsFresh, LeavesMost}
use Rattle.tab_loads.proofs.Orders.{order_of}
use Rattle.tab_loads.specs.Asking.{BeginsAnew, InLoad, IsAsked}
use Rattle.tab_loads.specs.Giving.{HasMadeWay}
use Rattle.tab_loads.specs.Telling.{away_in}
use Rattle.tab_moves.specs.Making.{home_in}
use Rattle.tab_passes.specs.Causes.{MayCause, MayServe}
use Rattle.tab_stands.proofs.PassedOn.{reached_same}
use Rattle.tab_stands.specs.PassedOn.{IsLoadOf as LoadOf}
use Rattle.tab_turns.proofs.Turned.{KeepBegun, begun_with, causes_on}
use Rattle.seen_facts.proofs.Walk.Turns.{make_aim}
use Rattle.row_facts.proofs.WalkRows.Moved.{sent_moved, started_moved}
use Rattle.log_model.specs.declared.job.Task.TheVariants as tasks
use Rattle.log_model.specs.declared.job.Why.TheVariants as whys
use Rattle.log_model.specs.declared.row_kind.RowKind.TheVariants as rows
use Rattle.tab_loads.proofs.Begun as begun
use Rattle.tab_loads.proofs.Makes as makes
use Rattle.tab_loads.proofs.Sent as sent
use Rattle.tab_loads.proofs.Starts as starts

-- what is found first is found, whatever comes later
first_found : (test : Document → Bool) (xs ys : List Document) (d : Document) → find test xs ≡ Some d → find test (xs ++ ys) ≡ Some d
first_found test [] ys d found = absurd cc
first_found test (x ∷ xs) ys d found = by_test (test x) found (first_found test xs ys d)
  where
    by_test : (b : Bool) → (let o : Option Document = cond b (Some x) (find test xs) in o) ≡ Some d → (find test xs ≡ Some d → find test (xs ++ ys) ≡ Some d) → (let o : Option Document = cond b (Some x) (find test (xs ++ ys)) in o) ≡ Some d
    by_test true is more = is
    by_test false is more = more is

-- what is found is so among the first, or comes last
last_found : (test : Document → Bool) (xs : List Document) (y d : Document) → find test (xs ++ y ∷ []) ≡ Some d → (find test xs ≡ Some d) ⊎ (y ≡ d)
last_found test [] y d found = by_test (test y) found
  where
    by_test : (b : Bool) → (let o : Option Document = cond b (Some y) None in o) ≡ Some d → ((let o : Option Document = None in o) ≡ Some d) ⊎ (y ≡ d)
    by_test true is = inr (let one : y ≡ d = cc in one)
    by_test false is = absurd cc
last_found test (x ∷ xs) y d found = by_test (test x) found (last_found test xs y d)
  where
    by_test : (b : Bool) → (let o : Option Document = cond b (Some x) (find test (xs ++ y ∷ [])) in o) ≡ Some d → (find test (xs ++ y ∷ []) ≡ Some d → (find test xs ≡ Some d) ⊎ (y ≡ d)) → ((let o : Option Document = cond b (Some x) (find test xs) in o) ≡ Some d) ⊎ (y ≡ d)
    by_test true is more = inl is
    by_test false is more = more is

-- requests of one number are one
req_same : (a b : ReqId) → (a.0 == b.0) ≡ true → a ≡ b
req_same a b is =
    let number : a.0 ≡ b.0 = grind (arith, nat_tests, is) in
    ap (λ (k : ℕ). let r : ReqId = record { 0 = k } in r) number

module _ (l : InLoad) (t : Tables) (asked : IsAsked l t) (placed_ : away_in t l.nav ≡ None) (anew_ : BeginsAnew l t) (noted : List (StateId × ReqId)) (v : Tables) (out : List RowKind) (way : HasMadeWay l.event l.req l.nav t v out l.noted noted) (w : Tables) (now : List RowKind) (work : IsAtWork l.event now w) (now_is : now ≡ out ++ rows.Started l.req None ∷ []) (keeps : KeepsStore v w) (proc : ProcId) (home : home_in l.event.header w l.nav l.address ≡ Some proc) (y : Tables) (last : List RowKind) (work_y : IsAtWork l.event last y) (last_is : last ≡ now ++ rows.Sent (order_of l w now proc) ∷ []) (keeps_y : KeepsStore w y) where
  abbrev s : Seen
  s = now_of l.event []

  abbrev n : Seen
  n = now_of l.event out

  abbrev own : Asked
  own = q l.event l.req l.nav l.mode l.address asked.asks

  abbrev unheld : AreUnheld l.event s
  unheld = starts.unheld l t asked placed_ anew_ noted v out way

  abbrev then_ : Seen
  then_ = next n l.event.event l.event.actor (rows.Started l.req None)

  abbrev is_then : now_of l.event now ≡ then_
  is_then = begun.is_then l t asked placed_ anew_ noted v out way w now work now_is keeps

  abbrev reached : is_reached n l.nav ≡ true
  reached = begun.reached l t asked placed_ anew_ noted v out way w now work now_is keeps

  abbrev m : Seen
  m = now_of l.event now

  abbrev places_same : m.places ≡ n.places
  places_same = begun.places_same l t asked placed_ anew_ noted v out way w now work now_is keeps

  abbrev history_same : m.history ≡ n.history
  history_same = begun.history_same l t asked placed_ anew_ noted v out way w now work now_is keeps

  abbrev aim_same : aim_of m ≡ aim_of n
  aim_same = begun.aim_same l t asked placed_ anew_ noted v out way w now work now_is keeps

  abbrev own_then : Asked
  own_then = request_begun n (record own { is_started = true; goal = None })

  abbrev found_then : request_of m l.req ≡ Some own_then
  found_then = makes.found_then l t asked placed_ anew_ noted v out way w now work now_is keeps

  abbrev its_state : StateId
  its_state = record { 0 = w.states }

  abbrev documents_same : m.documents ≡ n.documents
  documents_same = makes.documents_same l t asked placed_ anew_ noted v out way w now work now_is keeps

  abbrev causes : MayCause m (whys.Req l.req)
  causes = makes.causes l t asked placed_ anew_ noted v out way w now work now_is keeps

  abbrev order : Job
  order = next_order m.jobs proc (record { 0 = w.documents + 1 }) (whys.Req l.req) (tasks.Populate l.nav (record { 0 = w.states }) l.address false)

  abbrev fin : Seen
  fin = next m l.event.event l.event.actor (rows.Sent order)

  abbrev going_fin : IsGoing w.running l.loads [] fin
  going_fin = sent.going_fin l t asked placed_ anew_ noted v out way w now work now_is keeps proc home y last work_y last_is keeps_y

  -- ---- what is as it was

  pub requests_are : fin.requests ≡ then_.requests
  requests_are = ap (λ (x : Seen). x.requests) is_then

  abbrev begin : Asked → Asked
  begin x = record x { is_started = true; goal = None }

  pub reads_on : {B : Type 0} (read : Asked → B) → ((x : Asked) → read (record x { is_started = true; goal = None }) ≡ read x) → ((x : Asked) → read (request_begun n x) ≡ read x) → SameReads read n.requests fin.requests
  reads_on {B} read one two =
      subst (λ (x : List Asked). SameReads read n.requests x) (sym requests_are)
      (reads_then read n.requests (on_request l.req begin n.requests) then_.requests (on_read read n.requests l.req begin one) (on_read read (on_request l.req begin n.requests) l.req (request_begun n) two))

  pub wishes_on : SameReads wish n.requests fin.requests
  wishes_on = reads_on wish (λ x. refl) (λ x. refl)

  pub other_same : (r : ReqId) → (r.0 == l.req.0) ≡ false → request_of fin r ≡ request_of n r
  other_same r apart_ =
      ap (λ (x : List Asked). request_in x r) requests_are ∙ on_else (on_request l.req begin n.requests) l.req (request_begun n) r apart_ ∙ on_else n.requests l.req begin r apart_

  pub aim_fin : aim_of fin ≡ aim_of n
  aim_fin = make_aim m l.event.event l.event.actor order l.nav its_state l.address false refl ∙ aim_same

  abbrev new : Document
  new = new_document m order l.nav its_state

  pub found_more : (doc : DocId) (d : Document) → document_of n doc ≡ Some d → document_of fin doc ≡ Some d
  found_more doc d found =
      first_found (λ (x : Document). x.nr.0 == doc.0) m.documents (new ∷ []) d (ap (λ (x : List Document). document_in x doc) documents_same ∙ found)

  pub found_back : (doc : DocId) (d : Document) → document_of fin doc ≡ Some d → (document_of n doc ≡ Some d) ⊎ (new ≡ d)
  found_back doc d found = by_case (last_found (λ (x : Document). x.nr.0 == doc.0) m.documents new d found)
    where
      by_case : (document_of m doc ≡ Some d) ⊎ (new ≡ d) → (document_of n doc ≡ Some d) ⊎ (new ≡ d)
      by_case (inl old) = inl (ap (λ (x : List Document). document_in x doc) (sym documents_same) ∙ old)
      by_case (inr is) = inr is

  pub place_on : (nav : NavId) → place_of fin nav ≡ place_of n nav
  place_on nav = ap (λ (x : List Place). place_in x nav) places_same

  pub own_serves : MayServe fin l.req
  own_serves = causes_on m fin w.running going_fin.tab.asked (λ r. refl) (λ this each. each) (whys.Req l.req) causes l.req refl

  pub causes_fin : (why : Why) → MayCause n why → MayCause fin why
  causes_fin =
      causes_on n fin w.running going_fin.tab.asked wishes_on (subst (λ (x : List Asked). KeepBegun n.requests x) (sym requests_are) (begun_with n l.req None))

  pub moved_fin : (why : Why) (nav : NavId) → IsMovedBy n why nav → IsMovedBy fin why nav
  moved_fin why nav by =
      sent_moved m l.event.event l.event.actor why nav (subst (λ (x : Seen). IsMovedBy x why nav) (sym is_then) (started_moved n l.event.event l.event.actor why nav by l.req None)) order tt

  pub most : LeavesMost n fin
  most =
      record {
        places = places_same;
        history = history_same;
        kept = ap (λ (x : Seen). x.kept) is_then;
        aim = aim_fin;
        found = found_more;
        moves = reads_on (λ (x : Asked). x.moved) (λ x. refl) (λ x. refl);
        moved = moved_fin;
        causes = causes_fin;
      }

  -- ---- its loads

  pub look_other : (r : ReqId) → (r.0 == l.req.0) ≡ false → look_of fin r ≡ look_of n r
  look_other r apart_ = ap (λ (o : Option Asked). option_map look o) (other_same r apart_)

  -- the load itself, or one that there was
  pub old_or_own : (r : ReqId) (nav : NavId) → LoadOf fin r nav → LoadOf n r nav ⊎ ((r ≡ l.req) × (l.nav ≡ nav))
  old_or_own r nav its_ = by_own (r.0 == l.req.0) refl
    where
      by_own : (b : Bool) → (r.0 == l.req.0) ≡ b → LoadOf n r nav ⊎ ((r ≡ l.req) × (l.nav ≡ nav))
      by_own false apart_ = inl (record { look = its_.look; at = sym (look_other r apart_) ∙ its_.at; ongoing = its_.ongoing; loads_it = its_.loads_it })
      by_own true is =
          let same : r ≡ l.req = req_same r l.req is in
          let two : Some (look own_then) ≡ Some its_.look = sym (ap (λ (o : Option Asked). option_map look o) found_then) ∙ ap (λ (x : ReqId). look_of fin x) (sym same) ∙ its_.at in
          let one : look own_then ≡ its_.look = cc in
          let number : (l.nav.0 == nav.0) ≡ true = ap (λ (x : Look). loads nav x.what) one ∙ its_.loads_it in
          inr (same, nav_same l.nav nav number)

  pub unheld_own : has_req (held_at_first l.event) l.req ≡ false
  unheld_own = (open_here l.event l.req l.nav l.mode l.address asked.asks t.running (pass l t asked).going.tab).unheld

  pub fresh_or_old : (r : ReqId) (nav : NavId) → LoadOf fin r nav → LoadOf n r nav ⊎ IsFresh l.event fin r nav
  fresh_or_old r nav its_ = by_case (old_or_own r nav its_)
    where
      by_case : LoadOf n r nav ⊎ ((r ≡ l.req) × (l.nav ≡ nav)) → LoadOf n r nav ⊎ IsFresh l.event fin r nav
      by_case (inl old) = inl old
      by_case (inr is) =
          inr (record {
            reached = ap (λ (x : NavId). is_reached fin x) (sym is.1) ∙ reached_same n fin places_same history_same aim_fin l.nav reached;
            unheld = ap (λ (x : ReqId). has_req (held_at_first l.event) x) is.0 ∙ unheld_own;
          })
