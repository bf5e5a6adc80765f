-- Where a navigable leaves what it shows for a reason, each document on which it, or one below it, is awake is left duly for that, as what is known of the log without questions tells.
use Rattle.leave_facts.proofs.Carried.{AreLeftDuly}
use Rattle.leave_facts.proofs.Duly.{below_duly, going_duly}
use Rattle.leave_facts.proofs.Lefts.{IsGoingIn, going_in}
use Rattle.leave_facts.proofs.Moved.{moved_leaves}
use Rattle.leave_facts.specs.Leaving.{IsBelow, IsFromAbove, IsGoing, IsLeaver, IsLeftDuly, IsLeftDulyFor, leaves_nav, stays_at}
use Rattle.leave_facts.specs.Moved.{IsMoved}
use Rattle.log_model.specs.History.{has_nav, has_row, used_step_at}
use Rattle.log_model.specs.Places.{is_below, is_load, is_ongoing_load, is_traversal, is_under_way, way_of, way_to}
use Rattle.log_model.specs.Seen.{Asked, Document, Place, Seen, awake, document_of, place_of, request_of}
use Rattle.log_model.specs.Soundness.{IsSound}
use Rattle.log_model.specs.declared.action.Action.{Action}
use Rattle.log_model.specs.declared.request.Request.TheVariants as requests
use Rattle.log_model.specs.declared.request.Request.{Request}
use Rattle.log_model.specs.declared.job.Why.TheVariants as whys
use Rattle.log_model.specs.declared.job.Why.{Why}
use Rattle.seen_facts.proofs.Hang.Forms.{nav_is}
use Rattle.seen_facts.proofs.Walk.Placed.{found_nav}
use Rattle.seen_facts.specs.Hang.Hanging.{Hangs}
use Rattle.seen_facts.specs.Load.Loading.{Look, look}
use Rattle.seen_facts.specs.Home.Homes.{EachWake, HangsOnAwake}
use Rattle.seen_laws.specs.Unasked.{unasked, unasked_request, unbegun, without_asks}
use Rattle.std.proofs.Common.{Bool, List, None, Option, Some, [], ap, cond, false, inl, inr, refl, subst, sym, true, ◌&&◌, ◌==◌, ◌||◌, ◌∙◌, ◌∷◌, ◌≡◌, ◌⊎◌}
use Rattle.std.proofs.lemmas.Bool.{and_parts}
use Rattle.std.specs.Option.{option_map_or}
use Rattle.std.specs.Prelude.{is_none, option_map}
use Rattle.tab_facts.proofs.ShownWays.Keeps.{way_more}
use Rattle.tab_ids.specs.declared.DocId.{DocId}
use Rattle.tab_ids.specs.declared.NavId.{NavId}
use Rattle.tab_ids.specs.declared.ReqId.{ReqId}
use Rattle.tab_ids.specs.declared.Step.{Step}
use Rattle.unasked.proofs.Readings.{found_from, place_read}
use Rattle.unasked_dues.proofs.Base.{document_from}

-- a load or reload that has begun there has begun in the log
record IsBelowIn (s : Seen) (req : ReqId) (at : NavId) : Type 0 where
  asked : Asked
  below : IsBelow s req asked at

either : (a b : Bool) → b ≡ true → (a || b) ≡ true
either true b is = refl
either false b is = is

-- ---- ways

-- who is on the way to one on the way is on the way
pub way_up : (s : Seen) → IsSound s.history → Hangs s → (nav : NavId) (place : Place) → place_of s nav ≡ Some place → (moved top : NavId) → has_nav (way_of place) moved ≡ true → has_nav (way_to s moved) top ≡ true → has_nav (way_of place) top ≡ true
way_up s sound hangs nav place at moved top below up = by_place (place_of s moved) refl up
  where
    here : place.nav ≡ nav
    here = found_nav s.places nav place at

    on_way : has_nav (nav ∷ place.above) moved ≡ true
    on_way = ap (λ (n : NavId). has_nav (n ∷ place.above) moved) (sym here) ∙ below

    itself : (moved.0 == top.0) ≡ true → has_nav (way_of place) top ≡ true
    itself same = ap (λ (n : NavId). has_nav (way_of place) n) (sym (nav_is moved top same)) ∙ below

    none : (b : Bool) → (moved.0 == top.0) ≡ b → (b || false) ≡ true → has_nav (way_of place) top ≡ true
    none true same h = itself same
    none false apart h = absurd cc

    some : (own : Place) → place_of s moved ≡ Some own → (b : Bool) → (moved.0 == top.0) ≡ b → (b || has_nav own.above top) ≡ true → has_nav (way_of place) top ≡ true
    some own there true same h = itself same
    some own there false apart h = either (place.nav.0 == top.0) (has_nav place.above top) (way_more s sound hangs nav place at moved own on_way there top h)

    by_place : (o : Option Place) → place_of s moved ≡ o → has_nav (option_map_or way_of o (moved ∷ [])) top ≡ true → has_nav (way_of place) top ≡ true
    by_place None there h = none (moved.0 == top.0) refl h
    by_place (Some own) there h =
        some own there (moved.0 == top.0) refl (ap (λ (n : NavId). (n.0 == top.0) || has_nav own.above top) (sym (found_nav s.places moved own there)) ∙ h)

-- ---- leavers

-- who is below one that leaves what it shows does so, too
pub leaver_below : (s : Seen) → IsSound s.history → Hangs s → (reason : Why) (moved : NavId) → IsLeaver s reason moved → (nav : NavId) (place : Place) → place_of s nav ≡ Some place → is_below moved place ≡ true → IsLeaver s reason nav
leaver_below s sound hangs reason moved its nav place at below =
    record { req = its.req; q = its.q; why = its.why; found = its.found; leaves = by_kind its.leaves }
  where
    by_kind : ((is_traversal its.q.what && is_under_way its.q) ≡ true) ⊎ IsFromAbove s its.q moved → ((is_traversal its.q.what && is_under_way its.q) ≡ true) ⊎ IsFromAbove s its.q nav
    by_kind (inl is) = inl is
    by_kind (inr is) =
        inr (record {
          started = is.started;
          ended = is.ended;
          at = is.at;
          leaves = is.leaves;
          above = ap (λ (o : Option Place). has_nav (option_map_or way_of o (nav ∷ [])) is.at) at ∙ way_up s sound hangs nav place at moved is.at (either (place.nav.0 == moved.0) (has_nav place.above moved) below) is.above;
        })

-- it does so still where requests look as they did, and the way to it is the same
pub leaver_same : (s t : Seen) (reason : Why) (nav : NavId) → ((req : ReqId) → option_map look (request_of t req) ≡ option_map look (request_of s req)) → way_to t nav ≡ way_to s nav → IsLeaver s reason nav → IsLeaver t reason nav
leaver_same s t reason nav looks ways its =
    record { req = its.req; q = now.0; why = its.why; found = now.1; leaves = by_kind its.leaves }
  where
    now : (q : Asked) × (request_of t its.req ≡ Some q) × (look q ≡ look its.q)
    now = by_found (request_of t its.req) refl (looks its.req ∙ ap (λ (o : Option Asked). option_map look o) its.found)
      where
        by_found : (o : Option Asked) → request_of t its.req ≡ o → option_map look o ≡ Some (look its.q) → (q : Asked) × (request_of t its.req ≡ Some q) × (look q ≡ look its.q)
        by_found (Some q) at is = (q, at, let same : look q ≡ look its.q = cc in same)
        by_found None at is = absurd cc

    by_kind : ((is_traversal its.q.what && is_under_way its.q) ≡ true) ⊎ IsFromAbove s its.q nav → ((is_traversal now.0.what && is_under_way now.0) ≡ true) ⊎ IsFromAbove t now.0 nav
    by_kind (inl is) = inl (ap (λ (l : Look). is_traversal l.what && (l.is_started && is_none l.ending)) now.2 ∙ is)
    by_kind (inr is) =
        inr (record {
          started = ap (λ (l : Look). l.is_started) now.2 ∙ is.started;
          ended = ap (λ (l : Look). is_none l.ending) now.2 ∙ is.ended;
          at = is.at;
          leaves = ap (λ (l : Look). leaves_nav l.what) now.2 ∙ is.leaves;
          above = ap (λ (l : List NavId). has_nav l is.at) ways ∙ is.above;
        })

-- or where each request but ongoing loads is as it was
pub leaver_beside : (s t : Seen) (reason : Why) (nav : NavId) → ((req : ReqId) (q : Asked) → request_of s req ≡ Some q → is_ongoing_load q ≡ false → request_of t req ≡ Some q) → way_to t nav ≡ way_to s nav → IsLeaver s reason nav → IsLeaver t reason nav
leaver_beside s t reason nav others ways its =
    record { req = its.req; q = its.q; why = its.why; found = others its.req its.q its.found (off its.leaves); leaves = by_kind its.leaves }
  where
    no_load : (what : Request) → is_traversal what ≡ true → is_load what ≡ false
    no_load (requests.Go delta) is = refl
    no_load (requests.Load on mode address) is = absurd cc
    no_load (requests.Reload on) is = refl
    no_load (requests.Poke on action) is = by_action action
      where
        by_action : (a : Action) → is_load (requests.Poke on a) ≡ false
        by_action a = refl

    off : ((is_traversal its.q.what && is_under_way its.q) ≡ true) ⊎ IsFromAbove s its.q nav → is_ongoing_load its.q ≡ false
    off (inl is) =
        by_load (is_under_way its.q) (is_load its.q.what) (no_load its.q.what (and_parts (is_traversal its.q.what) (is_under_way its.q) is).0)
      where
        by_load : (a b : Bool) → b ≡ false → (a && b) ≡ false
        by_load true b is_ = is_
        by_load false b is_ = refl
    off (inr is) = by_end its.q.is_started (is_none its.q.ending) is.ended
      where
        by_end : (a b : Bool) → b ≡ false → ((a && b) && is_load its.q.what) ≡ false
        by_end true false is_ = refl
        by_end false b is_ = refl
        by_end true true is_ = absurd cc

    by_kind : ((is_traversal its.q.what && is_under_way its.q) ≡ true) ⊎ IsFromAbove s its.q nav → ((is_traversal its.q.what && is_under_way its.q) ≡ true) ⊎ IsFromAbove t its.q nav
    by_kind (inl is) = inl is
    by_kind (inr is) = inr (record { started = is.started; ended = is.ended; at = is.at; leaves = is.leaves; above = ap (λ (l : List NavId). has_nav l is.at) ways ∙ is.above })

-- ---- in the log

module _ (checking : ReqId → Bool) (s : Seen) where
  begun_off : (p : Asked) → (unasked_request checking p).is_started ≡ true → unasked_request checking p ≡ without_asks p
  begun_off p = by_check (checking p.nr)
    where
      by_check : (b : Bool) → (let q : Asked = cond b (unbegun p) (without_asks p) in q).is_started ≡ true → (let q : Asked = cond b (unbegun p) (without_asks p) in q) ≡ without_asks p
      by_check true e = absurd cc
      by_check false e = refl

  -- a load or reload that has begun there has begun in the log
  below_in : (req : ReqId) (bare : Asked) (at : NavId) → request_of (unasked checking s) req ≡ Some bare → bare.is_started ≡ true → leaves_nav bare.what ≡ Some at → IsBelowIn s req at
  below_in req bare at found started leaves =
      record {
        asked = from.0;
        below = record { found = from.1; started = ap (λ (q : Asked). q.is_started) (sym same) ∙ started; leaves = ap (λ (q : Asked). leaves_nav q.what) (sym same) ∙ leaves };
      }
    where
      from : (p : Asked) × (request_of s req ≡ Some p) × (bare ≡ unasked_request checking p)
      from = found_from checking s req bare found

      same : bare ≡ without_asks from.0
      same = from.2 ∙ begun_off from.0 (ap (λ (q : Asked). q.is_started) (sym from.2) ∙ started)

-- a traversal that is under way has a goal, and moves the navigable there
pub record IsMovedThere (s : Seen) (moved : NavId) (q : Asked) : Type 0 where
  pub goal : Step
  pub goal_is : q.goal ≡ Some goal
  pub moves : IsMoved s (used_step_at s.history.rows goal.0) moved

module _ (checking : ReqId → Bool) (s : Seen) (duly : AreLeftDuly s) (sound : IsSound s.history) (hangs : Hangs (unasked checking s)) (hung : EachWake (HangsOnAwake (unasked checking s)) (unasked checking s)) (moved : NavId) (reason : Why) (its : IsLeaver (unasked checking s) reason moved) (moves : (req : ReqId) (q : Asked) → request_of (unasked checking s) req ≡ Some q → (is_traversal q.what && is_under_way q) ≡ true → IsMovedThere (unasked checking s) moved q) where
  abbrev bare : Seen
  bare = unasked checking s

  module _ (nav : NavId) (place : Place) (doc : DocId) (d : Document) (at : place_of bare nav ≡ Some place) (wakes : place.status ≡ awake doc) (found : document_of bare doc ≡ Some d) (home : d.nav ≡ nav) (below : has_nav (way_of place) moved ≡ true) (placed : has_row nav s.history.rows ≡ true) where
    its_document : (e : Document) × (document_of s doc ≡ Some e) × (d ≡ (let x : Document = record e { slot = None } in x))
    its_document = document_from checking s doc d found

    its_nav : its_document.0.nav ≡ nav
    its_nav = ap (λ (x : Document). x.nav) (sym its_document.2) ∙ home

    going : ((is_traversal its.q.what && is_under_way its.q) ≡ true) → (there : IsMovedThere bare moved its.q) → IsGoing bare its.req its.q there.goal
    going is there =
        let parts = and_parts (is_traversal its.q.what) (is_under_way its.q) is in
        record { found = its.found; going = parts.1; traverses = parts.0; goal_is = there.goal_is }

    by_kind : ((is_traversal its.q.what && is_under_way its.q) ≡ true) ⊎ IsFromAbove bare its.q moved → IsLeftDuly s doc its.req
    by_kind (inl is) =
        let there : IsMovedThere bare moved its.q = moves its.req its.q its.found is in
        let run : IsGoingIn s its.req there.goal = going_in checking s its.req its.q there.goal (going is there) in
        let leaves : stays_at s.history.rows (used_step_at s.history.rows there.goal.0) d ≡ false = moved_leaves bare sound hangs hung (used_step_at s.history.rows there.goal.0) moved there.moves nav place doc d at wakes found home below in
        going_duly s duly.asked doc its_document.0 its_document.1 (ap (λ (n : NavId). has_row n s.history.rows) its_nav ∙ placed) its.req run.asked there.goal run.going
        (ap (λ (x : Document). stays_at s.history.rows (used_step_at s.history.rows there.goal.0) x) (sym its_document.2) ∙ leaves)
    by_kind (inr is) =
        let begun : IsBelowIn s its.req is.at = below_in checking s its.req its.q is.at its.found is.started is.leaves in
        below_duly s duly.below doc its_document.0 its_document.1 its.req begun.asked is.at begun.below place
        (ap (λ (n : NavId). place_of s n) its_nav ∙ sym (place_read checking s nav) ∙ at) (way_up bare sound hangs nav place at moved is.at below is.above)

    pub left_duly : IsLeftDulyFor s doc reason
    left_duly req why =
        let reqs : its.req ≡ req = (let same : whys.Req its.req ≡ whys.Req req = sym its.why ∙ why in cc) in
        subst (λ (r : ReqId). IsLeftDuly s doc r) reqs (by_kind its.leaves)
