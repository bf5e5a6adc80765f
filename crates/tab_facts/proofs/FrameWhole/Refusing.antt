-- All that holds between two rows holds after each refusal and drop of the coordinator: of a traversal that leads nowhere, of a frame that can't be added or removed, and of what was made that isn't present, or whose document's navigable has no row.
use Rattle.seen_facts.proofs.Coord.Unread.{next}
use Rattle.tab_facts.proofs.FrameTab.Skips.{without_made}
use Rattle.tab_facts.specs.FrameTab.Whole.{IsFrameTab}
use Rattle.tab_facts.proofs.FrameWhole.Ending.{IsCarried, IsItsHand, absent_passed, bare_passed, denied_none, dropped_tab, joined_ends, made_ends, refused_tab, reqs_of}
use Rattle.tab_facts.specs.FrameWhole.Tab.{IsTab}
use Rattle.log_model.specs.Causes.{by_mover, denial_at_delivery, has_moved_away, is_outdated}
use Rattle.log_model.specs.Equal.{has_req, holds}
use Rattle.log_model.specs.History.{has_row}
use Rattle.log_model.specs.Places.{is_present, is_traversal}
use Rattle.log_model.specs.Points.{nav_of_request}
use Rattle.log_model.specs.Queue.{begins_in_turn, is_first_joined, is_queue_free}
use Rattle.log_model.specs.Seen.{Asked, Document, Seen, document_of, request_of}
use Rattle.log_model.specs.declared.made.Made.{Made}
use Rattle.log_model.specs.declared.outcome.Cause.{Cause}
use Rattle.log_model.specs.declared.outcome.Denial.{Denial}
use Rattle.log_model.specs.declared.row_kind.Actor.{Actor}
use Rattle.seen_facts.specs.Each.Runs.{is_this}
use Rattle.std.proofs.Common.{Bool, List, Option, Some, [], ap, cond, false, inl, not, refl, sym, true, ℕ, ◌&&◌, ◌==◌, ◌||◌, ◌∙◌, ◌∷◌, ◌≡◌}
use Rattle.std.specs.Prelude.{slice_get}
use Rattle.tab_ids.specs.declared.ProcId.{ProcId}
use Rattle.tab_ids.specs.declared.ReqId.{ReqId}
use Rattle.log_model.specs.declared.outcome.Cause.TheVariants as drops
use Rattle.log_model.specs.declared.row_kind.Actor.TheVariants as actors
use Rattle.log_model.specs.declared.row_kind.RowKind.TheVariants as rows

-- ---- what is read of the causes

-- a traversal whose turn it is, is in the queue
pub turn_joined : (s : Seen) (req : ReqId) → begins_in_turn s req ≡ true → has_req s.joined req ≡ true
turn_joined s req turn = by_list s.joined (second (is_queue_free s) (is_first_joined s req) turn)
  where
    second : (a b : Bool) → (a && b) ≡ true → b ≡ true
    second true b e = e
    second false b e = absurd cc

    by_list : (l : List ReqId) → holds (λ (first : ReqId). first.0 == req.0) (slice_get l 0) ≡ true → has_req l req ≡ true
    by_list [] e = absurd cc
    by_list (first ∷ rest) e = rw e refl

-- what was made of a request that another one moved away isn't present
pub moved_absent : (home : ProcId) (run : Option ReqId) (hand : List Made) (s : Seen) (req : ReqId) (q mover : Asked) (made : Made) → IsFrameTab home run hand s → request_of s req ≡ Some q → q.made ≡ Some made → by_mover s q mover ≡ true → is_present s made ≡ false
moved_absent home run hand s req q mover made tab there makes moved =
    by_test (is_traversal q.what) (is_present s made) (first (is_outdated s q) (holds (has_moved_away s q mover) (nav_of_request q.what)) moved)
  where
    first : (a b : Bool) → (a && b) ≡ true → a ≡ true
    first true b e = refl
    first false b e = absurd cc

    outdated_is : is_outdated s q ≡ (not (is_traversal q.what) && (not (is_present s made) || false))
    outdated_is =
        ap (λ (o : Option Made). not (is_traversal q.what) && (holds (λ (m : Made). not (is_present s m)) o || q.is_not_found)) makes
        ∙ ap (λ (b : Bool). not (is_traversal q.what) && (not (is_present s made) || b)) ((tab.asked.each req q there).found)

    by_test : (a b : Bool) → is_outdated s q ≡ true → is_present s made ≡ false
    by_test a b e = either (is_traversal q.what) (is_present s made) (sym outdated_is ∙ e)
      where
        either : (x y : Bool) → (not x && (not y || false)) ≡ true → y ≡ false
        either true y h = absurd cc
        either false true h = absurd cc
        either false false h = refl

-- what is at hand stays where nothing of it is of the request
pub none_without : (req : ReqId) (mades : List Made) → has_req (reqs_of mades) req ≡ false → without_made req mades ≡ mades
none_without req [] none = refl
none_without req (made ∷ mades) none = by_test (made.req.0 == req.0) none (none_without req mades)
  where
    by_test : (b : Bool) → (b || has_req (reqs_of mades) req) ≡ false → (has_req (reqs_of mades) req ≡ false → without_made req mades ≡ mades) → cond (not b) (made ∷ without_made req mades) (without_made req mades) ≡ made ∷ mades
    by_test true e more = absurd cc
    by_test false e more = ap (λ (l : List Made). made ∷ l) (more e)

-- ---- the rows

module _ (home : ProcId) (run : Option ReqId) (hand : List Made) (s : Seen) (event : ℕ) (tab : IsTab home run hand s) (req : ReqId) (other : is_this run req ≡ false) where
  -- a traversal whose turn it is leads nowhere: whatever is at hand stays
  pub nowhere_tab : (reason : Denial) → begins_in_turn s req ≡ true → IsTab home run (without_made req hand) (next s event actors.Coord (rows.Refused req reason))
  nowhere_tab reason turn =
      refused_tab home run hand s event tab req (joined_ends home run hand s req tab other (turn_joined s req turn)) (inl (turn_joined s req turn)) reason

  -- of what was made, held back or at hand
  module _ (q : Asked) (made : Made) (there : request_of s req ≡ Some q) (makes : q.made ≡ Some made) (carried : IsCarried hand s req) (its : IsItsHand hand req made) where
    -- it can't be done
    pub denied_tab : (reason : Denial) → denial_at_delivery s made ≡ Some reason → IsTab home run (without_made req hand) (next s event actors.Coord (rows.Refused req reason))
    denied_tab reason is =
        refused_tab home run hand s event tab req (made_ends run hand s req q made other there makes its (λ nav place doc placed wakes has under. denied_none s made reason is)) carried reason

    -- it isn't present
    pub absent_tab : (actor : Actor) (cause : Cause) → is_present s made ≡ false → IsTab home run (without_made req hand) (next s event actor (rows.Dropped req cause))
    absent_tab actor cause absent =
        dropped_tab home run hand s event tab req (made_ends run hand s req q made other there makes its (absent_passed s made tab.homes absent)) carried actor cause

    -- another request moved its navigable away
    pub moved_tab : (actor : Actor) (by : ReqId) (mover : Asked) → by_mover s q mover ≡ true → IsTab home run (without_made req hand) (next s event actor (rows.Dropped req (drops.By by)))
    moved_tab actor by mover moved =
        absent_tab actor (drops.By by) (moved_absent home run hand s req q mover made tab.framed there makes moved)

    -- its document's navigable has no row, though it may still be awake
    pub destroyed_tab : (actor : Actor) (by : ReqId) (d : Document) → document_of s made.doc ≡ Some d → has_row d.nav s.history.rows ≡ false → IsTab home run (without_made req hand) (next s event actor (rows.Dropped req (drops.Destroyed by)))
    destroyed_tab actor by d found bare =
        dropped_tab home run hand s event tab req (made_ends run hand s req q made other there makes its (bare_passed s made d tab.homes found bare)) carried actor (drops.Destroyed by)
