-- Ongoing loads live on once the document of one that has passed its check is being made, and no other document is stray.
use Rattle.load_passed.proofs.Kept as kept
use Rattle.load_passed.proofs.Makes as makes
use Rattle.load_passed.proofs.Sent.{order_of}
use Rattle.load_passed.specs.Passing.{InLoadPass, IsToMake}
use Rattle.log_model.proofs.Refl.{nat_eq_refl}
use Rattle.log_model.specs.AfterDocuments.{new_document}
use Rattle.log_model.specs.History.{has_nav, has_state}
use Rattle.log_model.specs.Orders.{ongoing_load as load_of_state}
use Rattle.log_model.specs.Places.{is_load, is_ongoing_load, way_to}
use Rattle.log_model.specs.Seen.{Asked, Document, Place, Seen, document_of, place_of, request_of}
use Rattle.log_model.specs.declared.job.Job.{Job}
use Rattle.log_model.specs.declared.job.Task.TheVariants as tasks
use Rattle.log_model.specs.declared.job.Why.TheVariants as whys
use Rattle.log_model.specs.declared.row_kind.RowKind.TheVariants as rows
use Rattle.log_model.specs.declared.row_kind.RowKind.{RowKind}
use Rattle.row_facts.specs.WalkRows.Since.{WasAwake}
use Rattle.seen_facts.proofs.Coord.Unread.{next}
use Rattle.seen_facts.proofs.Load.Rows.{req_same}
use Rattle.seen_facts.specs.Rest.Between.{HasLoadDocument}
use Rattle.seen_laws.specs.InEvent.{now_of}
use Rattle.std.proofs.Common.{Bool, List, None, Option, Some, [], ap, cond, false, inl, inr, refl, subst, sym, true, ℕ, ◌++◌, ◌+◌, ◌==◌, ◌||◌, ◌∙◌, ◌∷◌, ◌≡◌, ◌⊎◌}
use Rattle.std.specs.Prelude.{find, is_some, option_map}
use Rattle.tab_doors.specs.Orders.{next_order}
use Rattle.tab_doors.specs.Working.{IsAtWork, KeepsStore}
use Rattle.tab_doors.specs.declared.tables.Tables.{Tables}
use Rattle.tab_facts.specs.Calm.Loads.{LoadsHaveDocuments}
use Rattle.tab_ids.specs.declared.DocId.{DocId}
use Rattle.tab_ids.specs.declared.NavId.{NavId}
use Rattle.tab_ids.specs.declared.ProcId.{ProcId}
use Rattle.tab_ids.specs.declared.ReqId.{ReqId}
use Rattle.tab_ids.specs.declared.StateId.{StateId}
use Rattle.tab_moves.specs.Making.{home_in}
use Rattle.tab_one_pass.proofs.Lives.{placed_awake}
use Rattle.tab_passes.specs.Causes.{HasSetOut, MayServe}
use Rattle.tab_stands.proofs.PassedOn.{IsReachedAt, MayLeaveNav, begun_leaves, loaded_never, may_leave_same, of_load, serve_on, way_same}
use Rattle.tab_stands.specs.PassedOn.{AreBlamed, IsBlamed, IsLoadOf as LoadOf, LoadsLive}
use Rattle.unasked.proofs.Passings.{begun_as}

-- the last is found where none before it is
last_there : (test : Document → Bool) (xs : List Document) (y : Document) → find test xs ≡ None → test y ≡ true → find test (xs ++ y ∷ []) ≡ Some y
last_there test [] y none is = rw is refl
last_there test (x ∷ xs) y none is = by_test (test x) none (λ more. last_there test xs y more is)
  where
    by_test : (b : Bool) → (let o : Option Document = cond b (Some x) (find test xs) in o) ≡ None → (find test xs ≡ None → find test (xs ++ y ∷ []) ≡ Some y) → (let o : Option Document = cond b (Some x) (find test (xs ++ y ∷ [])) in o) ≡ Some y
    by_test true never more = absurd cc
    by_test false none_ more = more none_

own_first : (k : ℕ) (b : Bool) → ((k == k) || b) ≡ true
own_first k b = let same : (k == k) ≡ true = nat_eq_refl k in rw same refl

module _ (l : InLoadPass) (u : Tables) (it : IsToMake l u) (proc : ProcId) (home : home_in l.event.header u l.nav l.address ≡ Some proc) (y : Tables) (last : List RowKind) (work_y : IsAtWork l.event last y) (last_is : last ≡ rows.Sent (order_of l u proc) ∷ []) (keeps_y : KeepsStore u y) where
  abbrev s : Seen
  s = l.before

  abbrev m : Seen
  m = now_of l.event []

  abbrev order : Job
  order =
      next_order (now_of l.event []).jobs proc (record { 0 = u.documents + 1 }) (whys.Req l.req) (tasks.Populate l.nav l.state l.address false)

  abbrev fin : Seen
  fin = next (now_of l.event []) l.event.event l.event.actor (rows.Sent order)

  abbrev new : Document
  new = new_document (now_of l.event []) order l.nav l.state

  abbrev own_then : Asked
  own_then = begun_as it.q it.p

  other_same : (r : ReqId) → (r.0 == l.req.0) ≡ false → request_of fin r ≡ request_of s r
  other_same = kept.other_same l u it proc home y last work_y last_is keeps_y

  place_on : (nav : NavId) → place_of fin nav ≡ place_of s nav
  place_on = kept.place_on l u it proc home y last work_y last_is keeps_y

  own_serves : MayServe fin l.req
  own_serves = kept.own_serves l u it proc home y last work_y last_is keeps_y

  -- ---- stray documents

  -- the load itself hadn't begun
  apart_own : (r : ReqId) (x : Asked) → request_of s r ≡ Some x → is_ongoing_load x ≡ true → (r.0 == l.req.0) ≡ false
  apart_own r x at on = by_own (r.0 == l.req.0) refl
    where
      by_own : (b : Bool) → (r.0 == l.req.0) ≡ b → b ≡ false
      by_own false is = refl
      by_own true is =
          let two : Some it.p ≡ Some x = sym it.unbegun.there ∙ ap (λ (k : ReqId). request_of s k) (sym (req_same r l.req is)) ∙ at in
          let one : it.p ≡ x = cc in
          let off : is_ongoing_load it.p ≡ false = (let un = it.unbegun.unstarted in rw un refl) in
          let never : false ≡ true = sym off ∙ ap (λ (k : Asked). is_ongoing_load k) one ∙ on in
          absurd cc

  -- a state that is no load's then was none's
  pub unloaded_back : (d : Document) (state_ : StateId) → d.state ≡ state_ → load_of_state (next (now_of l.event []) l.event.event l.event.actor (rows.Sent (order_of l u proc))) state_ ≡ None → load_of_state l.before state_ ≡ None
  unloaded_back d state_ its_ none = by_load (load_of_state s state_) refl
    where
      loaded : (x : Asked) → load_of_state s state_ ≡ Some x → ⊥
      loaded x is =
          let of = of_load s d x (ap (λ (k : StateId). load_of_state s k) its_ ∙ is) in
          loaded_never fin state_ none of.req of.q d.state (other_same of.req (apart_own of.req of.q of.found of.ongoing) ∙ of.found) of.ongoing of.own (ap (λ (k : StateId). k.0) its_)

      by_load : (o : Option Asked) → load_of_state s state_ ≡ o → load_of_state s state_ ≡ None
      by_load None is = is
      by_load (Some x) is = absurd (loaded x is)

  pub blamed_fin : AreBlamed l.before l.noted → AreBlamed (next (now_of l.event []) l.event.event l.event.actor (rows.Sent (order_of l u proc))) l.noted
  blamed_fin blamed doc state_ stray = by_case (kept.found_back l u it proc home y last work_y last_is keeps_y doc stray.document stray.found)
    where
      serves_fin : (r : ReqId) → MayServe s r → MayServe fin r
      serves_fin r may = serve_on s fin r (kept.causes_fin l u it proc home y last work_y last_is keeps_y) may

      leaves_fin : (r : ReqId) (nav : NavId) → MayServe fin r → MayLeaveNav s r nav → MayLeaveNav fin r nav
      leaves_fin r nav may may_ = by_own (r.0 == l.req.0) refl
        where
          ways : way_to fin nav ≡ way_to s nav
          ways = way_same s fin nav (ap (option_map (λ (x : Place). x.above)) (place_on nav))

          own_late : HasSetOut it.p → ⊥
          own_late out =
              let set_out : (it.p.is_started || is_some it.p.fragment) ≡ true = out.loads (ap is_load it.unbegun.what) in
              let off : (it.p.is_started || is_some it.p.fragment) ≡ false = (let un = it.unbegun.unstarted in let unsent = it.unbegun.unsent in rw un (rw unsent refl)) in
              let never : true ≡ false = sym set_out ∙ off in
              cc

          by_own : (b : Bool) → (r.0 == l.req.0) ≡ b → MayLeaveNav fin r nav
          by_own false apart = may_leave_same s fin r nav may (other_same r apart) ways may_
          by_own true is =
              let named : r ≡ l.req = req_same r l.req is in
              subst (λ (x : ReqId). MayLeaveNav fin x nav) (sym named)
              (begun_leaves s fin l.req nav it.p own_then it.unbegun.there own_late (kept.found_fin l u it proc home y last work_y last_is keeps_y) refl ways (subst (λ (x : ReqId). MayLeaveNav s x nav) named may_))

      by_old : IsBlamed s l.noted doc state_ → IsBlamed fin l.noted doc state_
      by_old was =
          record {
            req = was.req;
            noted = was.noted;
            may = serves_fin was.req was.may;
            moves = λ nav place_ other under placed__ wakes there_ is. (kept.most l u it proc home y last work_y last_is keeps_y).moved (whys.Req was.req) other (was.moves nav place_ other under (sym (place_on nav) ∙ placed__) wakes (sym (place_on other) ∙ there_) is);
            leaves = λ nav place_ placed__ wakes. leaves_fin was.req nav (serves_fin was.req was.may) (was.leaves nav place_ (sym (place_on nav) ∙ placed__) wakes);
          }

      by_case : (document_of s doc ≡ Some stray.document) ⊎ (new ≡ stray.document) → IsBlamed fin l.noted doc state_
      by_case (inl old) =
          by_old (blamed doc state_ (record {
            document = stray.document;
            found = old;
            its_state = stray.its_state;
            ready = stray.ready;
            undiscarded = stray.undiscarded;
            bare = ap (λ (x : Seen). has_state state_ x.history.rows) (sym it.now) ∙ stray.bare;
            unloaded = unloaded_back stray.document state_ stray.its_state stray.unloaded;
          }))
      by_case (inr is) =
          let never : false ≡ true = ap (λ (d : Document). d.is_ready) is ∙ stray.ready in
          absurd cc

  -- ---- ongoing loads live on

  loading_fin : LoadsHaveDocuments fin
  loading_fin r x at on = by_own (r.0 == l.req.0) refl
    where
      old : HasLoadDocument s x → HasLoadDocument fin x
      old has =
          record { state = has.state; own = has.own; doc = has.doc; d = has.d; found = kept.found_more l u it proc home y last work_y last_is keeps_y has.doc has.d has.found; of_state = has.of_state; there = has.there }

      newest : HasLoadDocument fin own_then
      newest =
          record {
            state = l.state;
            own = it.state_is;
            doc = record { 0 = u.documents + 1 };
            d = new;
            found = last_there (λ (d : Document). d.nr.0 == (u.documents + 1)) m.documents new (makes.absent l u it) (nat_eq_refl (u.documents + 1));
            of_state = refl;
            there = inr refl;
          }

      by_own : (b : Bool) → (r.0 == l.req.0) ≡ b → HasLoadDocument fin x
      by_own false apart_ = old (it.beside.live.loading r x (sym (other_same r apart_) ∙ at) on)
      by_own true is =
          let two : Some own_then ≡ Some x = sym (kept.found_fin l u it proc home y last work_y last_is keeps_y) ∙ ap (λ (k : ReqId). request_of fin k) (sym (req_same r l.req is)) ∙ at in
          let one : own_then ≡ x = cc in
          subst (λ (k : Asked). HasLoadDocument fin k) one newest

  pub live_fin : LoadsLive (next (now_of l.event []) l.event.event l.event.actor (rows.Sent (order_of l u proc)))
  live_fin = record { awake = awake_fin; loading = loading_fin }
    where
      its : IsReachedAt m l.nav
      its = makes.its l u it

      awake_fin : (r : ReqId) (nav : NavId) → LoadOf fin r nav → (doc : DocId) × WasAwake fin nav doc
      awake_fin r nav its_ = by_case (kept.old_or_own l u it proc home y last work_y last_is keeps_y r nav its_)
        where
          by_case : LoadOf s r nav ⊎ ((r ≡ l.req) × (l.nav ≡ nav)) → (doc : DocId) × WasAwake fin nav doc
          by_case (inl old) =
              let was = it.beside.live.awake r nav old in
              (was.0, record { place = was.1.place; placed = place_on nav ∙ was.1.placed; wakes = was.1.wakes })
          by_case (inr is) =
              let wakes = placed_awake u.running l.loads [] m (makes.passing_now l u it).going.tab l.nav its.place its.placed (its.each l.nav (own_first l.nav.0 (has_nav its.place.above l.nav))) in
              (wakes.0, record { place = its.place; placed = ap (λ (k : NavId). place_of fin k) (sym is.1) ∙ its.placed; wakes = wakes.1 })
