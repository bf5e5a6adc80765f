-- Ongoing loads live on once the document of one that has begun is being made, and no other document is stray.
use Rattle.tab_facts.specs.Calm.Loads.{LoadsHaveDocuments}
use Rattle.seen_facts.proofs.Coord.Unread.{next}
use Rattle.log_model.proofs.Refl.{nat_eq_refl}
use Rattle.log_model.specs.AfterDocuments.{new_document}
use Rattle.log_model.specs.AfterRequests.{request_begun}
use Rattle.log_model.specs.History.{History, has_nav, has_state}
use Rattle.log_model.specs.Orders.{ongoing_load as load_of_state}
use Rattle.log_model.specs.Places.{is_ongoing_load, way_to}
use Rattle.log_model.specs.Seen.{Asked, Document, Place, Seen, document_of, place_of, request_of}
use Rattle.log_model.specs.declared.job.Job.{Job}
use Rattle.log_model.specs.declared.job.Why.{Why}
use Rattle.log_model.specs.declared.row_kind.RowKind.{RowKind}
use Rattle.seen_facts.specs.Mover.Movers.{IsMovedBy}
use Rattle.seen_facts.specs.Rest.Between.{HasLoadDocument}
use Rattle.seen_laws.specs.InEvent.{now_of}
use Rattle.std.proofs.Common.{Bool, List, None, Option, Some, [], ap, arith, cond, false, inl, inr, refl, subst, sym, true, ℕ, ◌++◌, ◌+◌, ◌==◌, ◌||◌, ◌∙◌, ◌∷◌, ◌≡◌, ◌⊎◌}
use Rattle.std.proofs.lemmas.Bool.Decides.{nat_tests}
use Rattle.std.specs.Prelude.{find, option_map}
use Rattle.tab_doors.specs.Orders.{next_order}
use Rattle.tab_doors.specs.Working.{IsAtWork, KeepsStore}
use Rattle.tab_doors.specs.declared.tables.Tables.{Tables}
use Rattle.tab_drops.specs.Dropping.{AreUnheld}
use Rattle.tab_ids.specs.declared.DocId.{DocId}
use Rattle.tab_ids.specs.declared.NavId.{NavId}
use Rattle.tab_ids.specs.declared.ProcId.{ProcId}
use Rattle.tab_ids.specs.declared.ReqId.{ReqId}
use Rattle.tab_ids.specs.declared.StateId.{StateId}
use Rattle.tab_loads.proofs.Comes.{pass, place}
use Rattle.tab_loads.proofs.Firsts.{q}
use Rattle.tab_loads.proofs.Gives.{IsMadeWay, ServesOrBegins}
use Rattle.tab_loads.proofs.Orders.{order_of}
use Rattle.tab_loads.specs.Asking.{BeginsAnew, InLoad, IsAsked}
use Rattle.tab_loads.specs.Giving.{HasMadeWay}
use Rattle.tab_loads.specs.Loading.{pass_of}
use Rattle.tab_loads.specs.Telling.{away_in}
use Rattle.tab_moves.specs.Making.{home_in}
use Rattle.tab_one_pass.proofs.Lives.{placed_awake}
use Rattle.tab_one_pass.specs.PassedOn.{IsBlamedBy}
use Rattle.tab_passes.specs.Causes.{MayCause, MayServe, HasSetOut}
use Rattle.tab_passes.specs.Passing.{IsPassing}
use Rattle.tab_stands.proofs.PassedOn.{IsReachedAt, MayLeaveNav, begun_leaves, loaded_never, may_leave_same, of_load, serve_on, way_same}
use Rattle.tab_stands.specs.PassedOn.{AreBlamed, IsBlamed, IsLoadOf as LoadOf, LoadsLive}
use Rattle.row_facts.specs.WalkRows.Since.{WasAwake}
use Rattle.log_model.specs.declared.job.Task.TheVariants as tasks
use Rattle.log_model.specs.declared.job.Why.TheVariants as whys
use Rattle.log_model.specs.declared.row_kind.RowKind.TheVariants as rows
use Rattle.tab_loads.proofs.Begun as begun
use Rattle.tab_loads.proofs.Kept as kept
use Rattle.tab_loads.proofs.Makes as makes
use Rattle.tab_loads.proofs.Starts as starts

-- the last is found where none before it is
last_there : (test : Document → Bool) (xs : List Document) (y : Document) → find test xs ≡ None → test y ≡ true → find test (xs ++ y ∷ []) ≡ Some y
last_there test [] y none is = rw is refl
last_there test (x ∷ xs) y none is = by_test (test x) none (λ more. last_there test xs y more is)
  where
    by_test : (b : Bool) → (let o : Option Document = cond b (Some x) (find test xs) in o) ≡ None → (find test xs ≡ None → find test (xs ++ y ∷ []) ≡ Some y) → (let o : Option Document = cond b (Some x) (find test (xs ++ y ∷ [])) in o) ≡ Some y
    by_test true never more = absurd cc
    by_test false none_ more = more none_

own_first : (k : ℕ) (b : Bool) → ((k == k) || b) ≡ true
own_first k b = let same : (k == k) ≡ true = nat_eq_refl k in rw same refl

-- requests of one number are one
req_same : (a b : ReqId) → (a.0 == b.0) ≡ true → a ≡ b
req_same a b is =
    let number : a.0 ≡ b.0 = grind (arith, nat_tests, is) in
    ap (λ (k : ℕ). let r : ReqId = record { 0 = k } in r) number

module _ (l : InLoad) (t : Tables) (asked : IsAsked l t) (placed_ : away_in t l.nav ≡ None) (anew_ : BeginsAnew l t) (noted : List (StateId × ReqId)) (v : Tables) (out : List RowKind) (way : HasMadeWay l.event l.req l.nav t v out l.noted noted) (w : Tables) (now : List RowKind) (work : IsAtWork l.event now w) (now_is : now ≡ out ++ rows.Started l.req None ∷ []) (keeps : KeepsStore v w) (proc : ProcId) (home : home_in l.event.header w l.nav l.address ≡ Some proc) (y : Tables) (last : List RowKind) (work_y : IsAtWork l.event last y) (last_is : last ≡ now ++ rows.Sent (order_of l w now proc) ∷ []) (keeps_y : KeepsStore w y) where
  abbrev s : Seen
  s = now_of l.event []

  abbrev n : Seen
  n = now_of l.event out

  abbrev own : Asked
  own = q l.event l.req l.nav l.mode l.address asked.asks

  abbrev unheld : AreUnheld l.event s
  unheld = starts.unheld l t asked placed_ anew_ noted v out way

  abbrev made : IsMadeWay l.event l.req l.nav l.mode l.address asked.asks t (pass l t asked) unheld l.noted asked.begun.taking asked.begun.theirs n out noted
  made = starts.made l t asked placed_ anew_ noted v out way

  abbrev own_place : Place
  own_place = place l t asked

  abbrev there : place_of n l.nav ≡ Some own_place
  there = starts.there l t asked placed_ anew_ noted v out way

  abbrev state : StateId
  state = record { 0 = n.states + 1 }

  abbrev passing_now : IsPassing (pass_of l.event l.loads) now w
  passing_now = begun.passing_now l t asked placed_ anew_ noted v out way w now work now_is keeps

  abbrev m : Seen
  m = now_of l.event now

  abbrev history_same : m.history ≡ n.history
  history_same = begun.history_same l t asked placed_ anew_ noted v out way w now work now_is keeps

  abbrev its : IsReachedAt m l.nav
  its = begun.its l t asked placed_ anew_ noted v out way w now work now_is keeps

  abbrev own_then : Asked
  own_then = request_begun n (record own { is_started = true; goal = None })

  abbrev found_then : request_of m l.req ≡ Some own_then
  found_then = makes.found_then l t asked placed_ anew_ noted v out way w now work now_is keeps

  abbrev its_state : StateId
  its_state = record { 0 = w.states }

  abbrev state_is : own_then.state ≡ Some its_state
  state_is = makes.state_is l t asked placed_ anew_ noted v out way w now work now_is keeps

  abbrev new_doc : DocId
  new_doc = record { 0 = w.documents + 1 }

  abbrev absent : document_of m new_doc ≡ None
  absent = makes.absent l t asked placed_ anew_ noted v out way w now work now_is keeps

  abbrev order : Job
  order = next_order m.jobs proc (record { 0 = w.documents + 1 }) (whys.Req l.req) (tasks.Populate l.nav (record { 0 = w.states }) l.address false)

  abbrev fin : Seen
  fin = next m l.event.event l.event.actor (rows.Sent order)

  abbrev other_same : (r : ReqId) → (r.0 == l.req.0) ≡ false → request_of fin r ≡ request_of n r
  other_same = kept.other_same l t asked placed_ anew_ noted v out way w now work now_is keeps proc home y last work_y last_is keeps_y

  abbrev new : Document
  new = new_document m order l.nav its_state

  abbrev found_more : (doc : DocId) (d : Document) → document_of n doc ≡ Some d → document_of fin doc ≡ Some d
  found_more = kept.found_more l t asked placed_ anew_ noted v out way w now work now_is keeps proc home y last work_y last_is keeps_y

  abbrev found_back : (doc : DocId) (d : Document) → document_of fin doc ≡ Some d → (document_of n doc ≡ Some d) ⊎ (new ≡ d)
  found_back = kept.found_back l t asked placed_ anew_ noted v out way w now work now_is keeps proc home y last work_y last_is keeps_y

  abbrev place_on : (nav : NavId) → place_of fin nav ≡ place_of n nav
  place_on = kept.place_on l t asked placed_ anew_ noted v out way w now work now_is keeps proc home y last work_y last_is keeps_y

  abbrev causes_fin : (why : Why) → MayCause n why → MayCause fin why
  causes_fin = kept.causes_fin l t asked placed_ anew_ noted v out way w now work now_is keeps proc home y last work_y last_is keeps_y

  abbrev own_serves : MayServe fin l.req
  own_serves = kept.own_serves l t asked placed_ anew_ noted v out way w now work now_is keeps proc home y last work_y last_is keeps_y

  abbrev moved_fin : (why : Why) (nav : NavId) → IsMovedBy n why nav → IsMovedBy fin why nav
  moved_fin = kept.moved_fin l t asked placed_ anew_ noted v out way w now work now_is keeps proc home y last work_y last_is keeps_y

  abbrev old_or_own : (r : ReqId) (nav : NavId) → LoadOf fin r nav → LoadOf n r nav ⊎ ((r ≡ l.req) × (l.nav ≡ nav))
  old_or_own = kept.old_or_own l t asked placed_ anew_ noted v out way w now work now_is keeps proc home y last work_y last_is keeps_y

  -- ---- stray documents

  -- the load itself hadn't begun
  pub apart_own : (r : ReqId) (x : Asked) → request_of n r ≡ Some x → is_ongoing_load x ≡ true → (r.0 == l.req.0) ≡ false
  apart_own r x at on = by_own (r.0 == l.req.0) refl
    where
      by_own : (b : Bool) → (r.0 == l.req.0) ≡ b → b ≡ false
      by_own false is = refl
      by_own true is =
          let two : Some own ≡ Some x = sym made.found ∙ ap (λ (k : ReqId). request_of n k) (sym (req_same r l.req is)) ∙ at in
          let one : own ≡ x = cc in
          let never : false ≡ true = ap (λ (k : Asked). is_ongoing_load k) one ∙ on in
          absurd cc

  -- a state that is no load's then was none's
  pub unloaded_back : (d : Document) (state_ : StateId) → d.state ≡ state_ → load_of_state fin state_ ≡ None → load_of_state n state_ ≡ None
  unloaded_back d state_ its_ none = by_load (load_of_state n state_) refl
    where
      loaded : (x : Asked) → load_of_state n state_ ≡ Some x → ⊥
      loaded x is =
          let of = of_load n d x (ap (λ (k : StateId). load_of_state n k) its_ ∙ is) in
          loaded_never fin state_ none of.req of.q d.state (other_same of.req (apart_own of.req of.q of.found of.ongoing) ∙ of.found) of.ongoing of.own (ap (λ (k : StateId). k.0) its_)

      by_load : (o : Option Asked) → load_of_state n state_ ≡ o → load_of_state n state_ ≡ None
      by_load None is = is
      by_load (Some x) is = absurd (loaded x is)

  pub blamed_fin : AreBlamed fin noted
  blamed_fin doc state_ stray = by_case (found_back doc stray.document stray.found)
    where
      serves_fin : (r : ReqId) → ServesOrBegins l.req n r → MayServe fin r
      serves_fin r (inl may) = serve_on n fin r causes_fin may
      serves_fin r (inr same) = subst (λ (x : ReqId). MayServe fin x) (sym same) own_serves

      leaves_fin : (r : ReqId) (nav : NavId) → MayServe fin r → MayLeaveNav n r nav → MayLeaveNav fin r nav
      leaves_fin r nav may may_ = by_own (r.0 == l.req.0) refl
        where
          ways : way_to fin nav ≡ way_to n nav
          ways = way_same n fin nav (ap (option_map (λ (x : Place). x.above)) (place_on nav))

          own_late : HasSetOut own → ⊥
          own_late out = let none : false ≡ true = out.loads refl in cc

          by_own : (b : Bool) → (r.0 == l.req.0) ≡ b → MayLeaveNav fin r nav
          by_own false apart = may_leave_same n fin r nav may (other_same r apart) ways may_
          by_own true is =
              let named : r ≡ l.req = req_same r l.req is in
              subst (λ (x : ReqId). MayLeaveNav fin x nav) (sym named)
              (begun_leaves n fin l.req nav own own_then made.found own_late found_then refl ways (subst (λ (x : ReqId). MayLeaveNav n x nav) named may_))

      by_old : IsBlamedBy (ServesOrBegins l.req n) n noted doc state_ → IsBlamed fin noted doc state_
      by_old was =
          record {
            req = was.req;
            noted = was.noted;
            may = serves_fin was.req was.may;
            moves = λ nav place_ other under placed__ wakes there_ is. moved_fin (whys.Req was.req) other (was.moves nav place_ other under (sym (place_on nav) ∙ placed__) wakes (sym (place_on other) ∙ there_) is);
            leaves = λ nav place_ placed__ wakes. leaves_fin was.req nav (serves_fin was.req was.may) (was.leaves nav place_ (sym (place_on nav) ∙ placed__) wakes);
          }

      by_case : (document_of n doc ≡ Some stray.document) ⊎ (new ≡ stray.document) → IsBlamed fin noted doc state_
      by_case (inl old) =
          by_old (made.blamed doc state_ (record {
            document = stray.document;
            found = old;
            its_state = stray.its_state;
            ready = stray.ready;
            undiscarded = stray.undiscarded;
            bare = ap (λ (h : History). has_state state_ h.rows) (sym history_same) ∙ stray.bare;
            unloaded = unloaded_back stray.document state_ stray.its_state stray.unloaded;
          }))
      by_case (inr is) =
          let never : false ≡ true = ap (λ (d : Document). d.is_ready) is ∙ stray.ready in
          absurd cc

  -- ---- ongoing loads live on

  pub loading_fin : LoadsHaveDocuments fin
  loading_fin r x at on = by_own (r.0 == l.req.0) refl
    where
      old : HasLoadDocument n x → HasLoadDocument fin x
      old has =
          record { state = has.state; own = has.own; doc = has.doc; d = has.d; found = found_more has.doc has.d has.found; of_state = has.of_state; there = has.there }

      newest : HasLoadDocument fin own_then
      newest =
          record {
            state = its_state;
            own = state_is;
            doc = new_doc;
            d = new;
            found = last_there (λ (d : Document). d.nr.0 == new_doc.0) m.documents new absent (nat_eq_refl new_doc.0);
            of_state = refl;
            there = inr refl;
          }

      by_own : (b : Bool) → (r.0 == l.req.0) ≡ b → HasLoadDocument fin x
      by_own false apart_ = old (made.taken.live.loading r x (sym (other_same r apart_) ∙ at) on)
      by_own true is =
          let two : Some own_then ≡ Some x = sym found_then ∙ ap (λ (k : ReqId). request_of fin k) (sym (req_same r l.req is)) ∙ at in
          let one : own_then ≡ x = cc in
          subst (λ (k : Asked). HasLoadDocument fin k) one newest

  pub live_fin : LoadsLive fin
  live_fin = record { awake = awake_fin; loading = loading_fin }
    where
      awake_fin : (r : ReqId) (nav : NavId) → LoadOf fin r nav → (doc : DocId) × WasAwake fin nav doc
      awake_fin r nav its_ = by_case (old_or_own r nav its_)
        where
          by_case : LoadOf n r nav ⊎ ((r ≡ l.req) × (l.nav ≡ nav)) → (doc : DocId) × WasAwake fin nav doc
          by_case (inl old) =
              let was = made.taken.live.awake r nav old in
              (was.0, record { place = was.1.place; placed = place_on nav ∙ was.1.placed; wakes = was.1.wakes })
          by_case (inr is) =
              let wakes = placed_awake w.running l.loads [] m passing_now.going.tab l.nav its.place its.placed (its.each l.nav (own_first l.nav.0 (has_nav its.place.above l.nav))) in
              (wakes.0, record { place = its.place; placed = ap (λ (k : NavId). place_of fin k) (sym is.1) ∙ its.placed; wakes = wakes.1 })
