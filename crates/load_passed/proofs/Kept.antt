-- What is as it was before the load passed its check, once its document is being made.
use Rattle.load_passed.proofs.Begun as begun
use Rattle.load_passed.proofs.Makes as makes
use Rattle.load_passed.proofs.Sent as sent
use Rattle.load_passed.proofs.Sent.{order_of}
use Rattle.load_passed.specs.Passing.{InLoadPass, IsToMake}
use Rattle.log_model.specs.AfterDocuments.{new_document}
use Rattle.log_model.specs.Equal.{has_req}
use Rattle.log_model.specs.Once.{loads}
use Rattle.log_model.specs.Places.{aim_of}
use Rattle.log_model.specs.Seen.{Asked, Document, Place, Seen, document_of, place_in, place_of, request_in, request_of}
use Rattle.log_model.specs.declared.job.Job.{Job}
use Rattle.log_model.specs.declared.job.Task.TheVariants as tasks
use Rattle.log_model.specs.declared.job.Why.TheVariants as whys
use Rattle.log_model.specs.declared.job.Why.{Why}
use Rattle.log_model.specs.declared.request.Request.{Request}
use Rattle.log_model.specs.declared.row_kind.RowKind.TheVariants as rows
use Rattle.log_model.specs.declared.row_kind.RowKind.{RowKind}
use Rattle.row_facts.proofs.WalkRows.Moved.{sent_moved}
use Rattle.row_facts.specs.FrameRows.Lawful.{held_at_first}
use Rattle.seen_facts.proofs.Coord.Unread.{next}
use Rattle.seen_facts.proofs.Hang.Forms.{nav_is as nav_same}
use Rattle.seen_facts.proofs.Load.Rows.{req_same}
use Rattle.seen_facts.proofs.Request.Readers.{SameReads, on_read}
use Rattle.seen_facts.proofs.Walk.Turns.{make_aim}
use Rattle.seen_facts.specs.Home.Homes.{document_in}
use Rattle.seen_facts.specs.Load.Loading.{Look, look, look_of}
use Rattle.seen_facts.specs.LoadEnds.Standing.{is_reached}
use Rattle.seen_facts.specs.Mover.Movers.{IsMovedBy}
use Rattle.seen_laws.specs.InEvent.{now_of}
use Rattle.std.proofs.Common.{Bool, List, None, Option, Some, [], ap, cond, false, inl, inr, refl, subst, sym, true, ◌++◌, ◌+◌, ◌==◌, ◌∙◌, ◌∷◌, ◌≡◌, ◌⊎◌}
use Rattle.std.specs.Prelude.{find, option_map}
use Rattle.tab_doors.specs.Orders.{next_order}
use Rattle.tab_doors.specs.Working.{IsAtWork, KeepsStore}
use Rattle.tab_doors.specs.declared.tables.Tables.{Tables}
use Rattle.tab_facts.specs.Frame.Lasting.{wish}
use Rattle.tab_facts.specs.TabGoing.Going.{IsGoing}
use Rattle.tab_ids.specs.declared.DocId.{DocId}
use Rattle.tab_ids.specs.declared.NavId.{NavId}
use Rattle.tab_ids.specs.declared.ProcId.{ProcId}
use Rattle.tab_ids.specs.declared.ReqId.{ReqId}
use Rattle.tab_loads.proofs.Leaving.{IsFresh, LeavesMost}
use Rattle.tab_moves.specs.Making.{home_in}
use Rattle.tab_passes.specs.Causes.{MayCause, MayServe}
use Rattle.tab_stands.proofs.PassedOn.{causes_on, reached_same}
use Rattle.tab_stands.specs.PassedOn.{IsLoadOf as LoadOf}
use Rattle.tab_turns.proofs.Turned.{KeepBegun}
use Rattle.unasked.proofs.Passings.{begun_as}
use Rattle.unasked_tab.proofs.Begun.{with_begun}

-- what is found first is found, whatever comes later
first_found : (test : Document → Bool) (xs ys : List Document) (d : Document) → find test xs ≡ Some d → find test (xs ++ ys) ≡ Some d
first_found test [] ys d found = absurd cc
first_found test (x ∷ xs) ys d found = by_test (test x) found (first_found test xs ys d)
  where
    by_test : (b : Bool) → (let o : Option Document = cond b (Some x) (find test xs) in o) ≡ Some d → (find test xs ≡ Some d → find test (xs ++ ys) ≡ Some d) → (let o : Option Document = cond b (Some x) (find test (xs ++ ys)) in o) ≡ Some d
    by_test true is more = is
    by_test false is more = more is

-- what is found is so among the first, or comes last
last_found : (test : Document → Bool) (xs : List Document) (y d : Document) → find test (xs ++ y ∷ []) ≡ Some d → (find test xs ≡ Some d) ⊎ (y ≡ d)
last_found test [] y d found = by_test (test y) found
  where
    by_test : (b : Bool) → (let o : Option Document = cond b (Some y) None in o) ≡ Some d → ((let o : Option Document = None in o) ≡ Some d) ⊎ (y ≡ d)
    by_test true is = inr (let one : y ≡ d = cc in one)
    by_test false is = absurd cc
last_found test (x ∷ xs) y d found = by_test (test x) found (last_found test xs y d)
  where
    by_test : (b : Bool) → (let o : Option Document = cond b (Some x) (find test (xs ++ y ∷ [])) in o) ≡ Some d → (find test (xs ++ y ∷ []) ≡ Some d → (find test xs ≡ Some d) ⊎ (y ≡ d)) → ((let o : Option Document = cond b (Some x) (find test xs) in o) ≡ Some d) ⊎ (y ≡ d)
    by_test true is more = inl is
    by_test false is more = more is

module _ (l : InLoadPass) (u : Tables) (it : IsToMake l u) (proc : ProcId) (home : home_in l.event.header u l.nav l.address ≡ Some proc) (y : Tables) (last : List RowKind) (work_y : IsAtWork l.event last y) (last_is : last ≡ rows.Sent (order_of l u proc) ∷ []) (keeps_y : KeepsStore u y) where
  abbrev s : Seen
  s = l.before

  abbrev m : Seen
  m = now_of l.event []

  abbrev then_ : Seen
  then_ = with_begun l.before l.req it.q

  abbrev order : Job
  order =
      next_order (now_of l.event []).jobs proc (record { 0 = u.documents + 1 }) (whys.Req l.req) (tasks.Populate l.nav l.state l.address false)

  abbrev pub fin : Seen
  fin = next (now_of l.event []) l.event.event l.event.actor (rows.Sent order)

  going_fin : IsGoing u.running l.loads [] fin
  going_fin = sent.going_fin l u it proc home y last work_y last_is keeps_y

  abbrev own_then : Asked
  own_then = begun_as it.q it.p

  -- ---- what is as it was

  requests_are : fin.requests ≡ then_.requests
  requests_are = ap (λ (x : Seen). x.requests) it.now

  pub reads_on : {B : Type 0} (read : Asked → B) → ((x : Asked) → read (begun_as it.q x) ≡ read x) → SameReads read l.before.requests (next (now_of l.event []) l.event.event l.event.actor (rows.Sent (order_of l u proc))).requests
  reads_on {B} read one =
      subst (λ (x : List Asked). SameReads read s.requests x) (sym requests_are) (on_read read s.requests l.req (begun_as it.q) one)

  pub found_fin : request_of (next (now_of l.event []) l.event.event l.event.actor (rows.Sent (order_of l u proc))) l.req ≡ Some (begun_as it.q it.p)
  found_fin = makes.found_then l u it

  pub other_same : (r : ReqId) → (r.0 == l.req.0) ≡ false → request_of (next (now_of l.event []) l.event.event l.event.actor (rows.Sent (order_of l u proc))) r ≡ request_of l.before r
  other_same r apart =
      ap (λ (x : List Asked). request_in x r) requests_are ∙ begun.other l it.loads l.before it.t it.p it.unbegun it.q it.starts it.state_is it.replaces r apart

  pub places_same : (next (now_of l.event []) l.event.event l.event.actor (rows.Sent (order_of l u proc))).places ≡ l.before.places
  places_same = ap (λ (x : Seen). x.places) it.now

  pub aim_fin : aim_of (next (now_of l.event []) l.event.event l.event.actor (rows.Sent (order_of l u proc))) ≡ aim_of l.before
  aim_fin =
      make_aim m l.event.event l.event.actor order l.nav l.state l.address false refl
      ∙ ap (λ (x : Seen). aim_of x) it.now
      ∙ begun.aim_then l it.loads l.before it.t it.p it.unbegun it.q it.starts it.state_is it.replaces

  abbrev pub new : Document
  new = new_document (now_of l.event []) order l.nav l.state

  pub found_more : (doc : DocId) (d : Document) → document_of l.before doc ≡ Some d → document_of (next (now_of l.event []) l.event.event l.event.actor (rows.Sent (order_of l u proc))) doc ≡ Some d
  found_more doc d found =
      first_found (λ (x : Document). x.nr.0 == doc.0) m.documents (new ∷ []) d (ap (λ (x : List Document). document_in x doc) (makes.documents_same l u it) ∙ found)

  pub found_back : (doc : DocId) (d : Document) → document_of (next (now_of l.event []) l.event.event l.event.actor (rows.Sent (order_of l u proc))) doc ≡ Some d → (document_of l.before doc ≡ Some d) ⊎ (new_document (now_of l.event []) (order_of l u proc) l.nav l.state ≡ d)
  found_back doc d found = by_case (last_found (λ (x : Document). x.nr.0 == doc.0) m.documents new d found)
    where
      by_case : (document_of m doc ≡ Some d) ⊎ (new ≡ d) → (document_of s doc ≡ Some d) ⊎ (new ≡ d)
      by_case (inl old) = inl (ap (λ (x : List Document). document_in x doc) (sym (makes.documents_same l u it)) ∙ old)
      by_case (inr is) = inr is

  pub place_on : (nav : NavId) → place_of (next (now_of l.event []) l.event.event l.event.actor (rows.Sent (order_of l u proc))) nav ≡ place_of l.before nav
  place_on nav = ap (λ (x : List Place). place_in x nav) places_same

  pub own_serves : MayServe (next (now_of l.event []) l.event.event l.event.actor (rows.Sent (order_of l u proc))) l.req
  own_serves = causes_on m fin u.running going_fin.tab.asked (λ r. refl) (λ this each. each) (whys.Req l.req) (makes.causes l u it) l.req refl

  pub causes_fin : (why : Why) → MayCause l.before why → MayCause (next (now_of l.event []) l.event.event l.event.actor (rows.Sent (order_of l u proc))) why
  causes_fin =
      causes_on s fin u.running going_fin.tab.asked (reads_on wish (λ x. refl)) (subst (λ (x : List Asked). KeepBegun s.requests x) (sym requests_are) (begun.keep_begun l it.loads l.before it.t it.p it.unbegun it.q it.starts it.state_is it.replaces))

  pub most : LeavesMost l.before (next (now_of l.event []) l.event.event l.event.actor (rows.Sent (order_of l u proc)))
  most =
      record {
        places = places_same;
        history = ap (λ (x : Seen). x.history) it.now;
        kept = ap (λ (x : Seen). x.kept) it.now;
        aim = aim_fin;
        found = found_more;
        moves = reads_on (λ (x : Asked). x.moved) (λ x. refl);
        moved = moved_fin;
        causes = causes_fin;
      }
    where
      moved_fin : (why : Why) (nav : NavId) → IsMovedBy s why nav → IsMovedBy fin why nav
      moved_fin why nav by =
          sent_moved m l.event.event l.event.actor why nav (makes.at_now l u it (λ (x : Seen). IsMovedBy x why nav) (begun.moved_then l it.loads l.before it.t it.p it.unbegun it.q it.starts it.state_is it.replaces why nav by)) order tt

  -- ---- its loads

  look_other : (r : ReqId) → (r.0 == l.req.0) ≡ false → look_of fin r ≡ look_of s r
  look_other r apart = ap (λ (o : Option Asked). option_map look o) (other_same r apart)

  -- the load itself, or one that there was
  pub old_or_own : (r : ReqId) (nav : NavId) → LoadOf (next (now_of l.event []) l.event.event l.event.actor (rows.Sent (order_of l u proc))) r nav → LoadOf l.before r nav ⊎ ((r ≡ l.req) × (l.nav ≡ nav))
  old_or_own r nav its_ = by_own (r.0 == l.req.0) refl
    where
      by_own : (b : Bool) → (r.0 == l.req.0) ≡ b → LoadOf s r nav ⊎ ((r ≡ l.req) × (l.nav ≡ nav))
      by_own false apart = inl (record { look = its_.look; at = sym (look_other r apart) ∙ its_.at; ongoing = its_.ongoing; loads_it = its_.loads_it })
      by_own true is =
          let same : r ≡ l.req = req_same r l.req is in
          let two : Some (look own_then) ≡ Some its_.look = sym (ap (λ (o : Option Asked). option_map look o) found_fin) ∙ ap (λ (x : ReqId). look_of fin x) (sym same) ∙ its_.at in
          let one : look own_then ≡ its_.look = cc in
          let number : (l.nav.0 == nav.0) ≡ true = ap (λ (w : Request). loads nav w) (sym it.unbegun.what ∙ ap (λ (x : Look). x.what) one) ∙ its_.loads_it in
          inr (same, nav_same l.nav nav number)

  pub fresh_or_old : (r : ReqId) (nav : NavId) → LoadOf (next (now_of l.event []) l.event.event l.event.actor (rows.Sent (order_of l u proc))) r nav → LoadOf l.before r nav ⊎ IsFresh l.event (next (now_of l.event []) l.event.event l.event.actor (rows.Sent (order_of l u proc))) r nav
  fresh_or_old r nav its_ = by_case (old_or_own r nav its_)
    where
      by_case : LoadOf s r nav ⊎ ((r ≡ l.req) × (l.nav ≡ nav)) → LoadOf s r nav ⊎ IsFresh l.event fin r nav
      by_case (inl old) = inl old
      by_case (inr is) =
          inr (record {
            reached = ap (λ (x : NavId). is_reached fin x) (sym is.1) ∙ reached_same s fin places_same (ap (λ (x : Seen). x.history) it.now) aim_fin l.nav it.unbegun.reached;
            unheld = ap (λ (x : ReqId). has_req (held_at_first l.event) x) is.0 ∙ it.unheld;
          })
