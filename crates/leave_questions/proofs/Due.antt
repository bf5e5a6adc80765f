-- Whom a request asks as it begins, as the tables tell, is whom it is due to ask in the log.
use Rattle.leave_questions.proofs.Docs.{IsThere, asks_left, read_twice, wakes_on, wakes_there}
use Rattle.leave_questions.proofs.Lives.{lives}
use Rattle.leave_questions.proofs.Rows.{leaving_same}
use Rattle.leave_questions.proofs.Walks.{own_first, read_at}
use Rattle.leave_questions.specs.Questions.{HasSlots, docs_at, leave_questions, load_questions, question_to, reload_questions, traverse_questions}
use Rattle.log_model.specs.Orders.{due_questions, is_leaving, leave_cause, question_for}
use Rattle.log_model.specs.Places.{awake_document, is_load, is_reload, way_of}
use Rattle.log_model.specs.History.{has_nav}
use Rattle.log_model.specs.Seen.{Document, Place, Seen, document_of, place_in, place_of}
use Rattle.log_model.specs.Soundness.{IsSound}
use Rattle.log_model.specs.Walk.{walk_of}
use Rattle.log_model.specs.declared.handler.LeaveCause.TheVariants as leavings
use Rattle.log_model.specs.declared.handler.LeaveCause.{LeaveCause}
use Rattle.log_model.specs.declared.request.Mode.{Mode}
use Rattle.log_model.specs.declared.request.Request.TheVariants as requests
use Rattle.log_model.specs.declared.request.Request.{Request}
use Rattle.nav_tree.specs.Tree.{node_of}
use Rattle.nav_tree.specs.declared.nav.Nav.{Nav}
use Rattle.nav_tree.specs.declared.node.Node.{Node}
use Rattle.nav_tree.specs.declared.status.NavStatus.TheVariants as kept
use Rattle.nav_tree.specs.declared.status.NavStatus.{NavStatus}
use Rattle.plan_laws.proofs.LeaveLaws.{leaving_is}
use Rattle.plan_laws.specs.Held.{left_by}
use Rattle.seen_facts.specs.Hang.Hanging.{Hangs}
use Rattle.seen_facts.specs.Hang.Members.{Has}
use Rattle.seen_facts.specs.Home.Homes.{EachWake, IsHomed}
use Rattle.seen_laws.specs.Unasked.{unasked}
use Rattle.std.proofs.Common.{Bool, List, None, Option, Some, ap, false, filter_map, refl, sym, true, ℕ, ◌++◌, ◌∙◌, ◌≡◌}
use Rattle.std.specs.Option.{option_to_list}
use Rattle.std.specs.Prelude.{if◌then◌else◌, option_and_then, option_map, pos}
use Rattle.step_index.specs.Held.{history_held}
use Rattle.tab_doors.proofs.Histories.{held_target}
use Rattle.tab_doors.specs.Look.{look_of}
use Rattle.tab_doors.specs.Ties.{AreTied, Holds, status_of}
use Rattle.tab_doors.specs.declared.tables.Tables.{Tables}
use Rattle.tab_ids.specs.declared.DocId.{DocId}
use Rattle.tab_ids.specs.declared.NavId.{NavId}
use Rattle.tab_ids.specs.declared.ReqId.{ReqId}
use Rattle.tab_ids.specs.declared.Step.{Step}
use Rattle.tab_passes.proofs.Sleepers.{at_own}
use Rattle.tab_passes.proofs.Stand.{stands}
use Rattle.tab_passes.proofs.Unders.{below_is, walked_there}
use Rattle.tab_passes.specs.Sleepers.{doc_on, docs_below}
use Rattle.tab_passes.specs.Telling.{awake_on}

-- ---- whom a load or a reload leaves

module _ (s : Seen) (run : Option ReqId) (t : Tables) (holds_ : Holds (look_of s run) t) (sound : IsSound s.history) (hangs : Hangs s) (nav : NavId) where
  doc_is : doc_on t.tree nav ≡ option_and_then awake_document (place_in s.places nav)
  doc_is = by_tie (node_of nav t.tree) (place_in s.places nav) (holds_.navs.navs nav)
    where
      by_status : (status : NavStatus) (place : Place) → status_of status ≡ place.status → awake_on status ≡ awake_document place
      by_status (kept.Awake doc) place is = rw (sym is) refl
      by_status kept.Lost place is = rw (sym is) refl
      by_status kept.Asleep place is = rw (sym is) refl

      by_tie : (n : Option Node) (p : Option Place) → AreTied (look_of s run).documents (look_of s run).moved nav n p → option_and_then (λ (fields : Nav). awake_on fields.status) (option_map (λ (node : Node). node.nav) n) ≡ option_and_then awake_document p
      by_tie (Some node) (Some place) tied = by_status node.nav.status place tied.1.status
      by_tie None None tied = refl
      by_tie (Some node) None tied = elim tied [ ]
      by_tie None (Some place) tied = elim tied [ ]

  -- the documents at the navigable and below it are those that the log has there
  pub docs_are : docs_at t.tree nav ≡ filter_map (read_at awake_document nav) (walk_of s.places)
  docs_are =
      ap (λ (o : Option DocId). option_to_list o ++ docs_below t.tree nav) doc_is
      ∙ ap (λ (docs : List DocId). option_to_list (option_and_then awake_document (place_in s.places nav)) ++ docs) (below_is s run t holds_ sound hangs nav)
      ∙ own_first s sound hangs awake_document nav

-- ---- whom a traversal leaves

-- some traversal
abbrev going : Request
going = requests.Go (pos 0)

-- a request that is neither a load nor a reload leaves whom a traversal leaves, and asks with that cause
record IsGoing (s : Seen) (what : Request) (goal : Step) : Type 0 where
  leaves : (place : Place) (d : Document) → is_leaving s going (Some goal) place d ≡ is_leaving s what (Some goal) place d
  cause : leavings.Traverse ≡ leave_cause what

is_going : (s : Seen) (what : Request) (goal : Step) → is_load what ≡ false → is_reload what ≡ false → IsGoing s what goal
is_going s (requests.Go delta) goal load reload = record { leaves = λ place d. refl; cause = refl }
is_going s (requests.Poke nav action) goal load reload = record { leaves = λ place d. refl; cause = refl }
is_going s (requests.Load nav mode address) goal load reload = absurd cc
is_going s (requests.Reload nav) goal load reload = absurd cc

-- ---- the law

-- the tables are those of the log without questions; what is asked for of it is a part of what holds of a tab in which nobody is asked
module _ (s : Seen) (checking : ReqId → Bool) (run : Option ReqId) (t : Tables) (slots : List (DocId × ℕ)) (holds_ : Holds (look_of (unasked checking s) run) t) (sound : IsSound s.history) (hangs : Hangs (unasked checking s)) (homed : EachWake (IsHomed (unasked checking s).documents) (unasked checking s)) (has : HasSlots s slots) where
  placed : (place : Place) → Has (walk_of s.places) place → place_of s place.nav ≡ Some place
  placed place there = at_own (unasked checking s) run t holds_ sound hangs place (walked_there (unasked checking s) run t holds_ sound hangs place there)

  there_for : (place : Place) → Has (walk_of s.places) place → (doc : DocId) → awake_document place ≡ Some doc → IsThere s doc
  there_for place there doc is = wakes_there s checking homed place.nav place doc (placed place there) (wakes_on place doc is)

  -- where these documents are left, it asks whom it is due to ask
  asks : (what : Request) (goal : Option Step) (left : Place → Option DocId) → ((place : Place) → awake_document place ≡ None → left place ≡ None) → ((place : Place) (doc : DocId) (its : IsThere s doc) → awake_document place ≡ Some doc → left place ≡ (if is_leaving s what goal place its.document then Some doc else None)) → filter_map (question_to slots (leave_cause what)) (filter_map left (walk_of s.places)) ≡ due_questions s what goal
  asks what goal left off on =
      read_twice (question_to slots (leave_cause what)) left (question_for s what goal) (walk_of s.places)
      (λ place there. asks_left s slots has what goal place (left place) (there_for place there) (off place) (on place))

  -- a load or a reload of a navigable leaves who is at it or below it
  asks_at : (nav : NavId) (what : Request) → ((place : Place) (d : Document) → is_leaving s what None place d ≡ has_nav (way_of place) nav) → leave_questions slots (leave_cause what) t.tree nav ≡ due_questions s what None
  asks_at nav what leaves =
      ap (filter_map (question_to slots (leave_cause what))) (docs_are (unasked checking s) run t holds_ sound hangs nav)
      ∙ asks what None (read_at awake_document nav) off on
    where
      where_at : Place → Option DocId → Option DocId
      where_at place doc = if has_nav (way_of place) nav then doc else None

      nobody : (b : Bool) → (let o : Option DocId = (if b then None else None) in o) ≡ None
      nobody true = refl
      nobody false = refl

      off : (place : Place) → awake_document place ≡ None → read_at awake_document nav place ≡ None
      off place none = ap (where_at place) none ∙ nobody (has_nav (way_of place) nav)

      on : (place : Place) (doc : DocId) (its : IsThere s doc) → awake_document place ≡ Some doc → read_at awake_document nav place ≡ (if is_leaving s what None place its.document then Some doc else None)
      on place doc its is = ap (where_at place) is ∙ ap (λ (b : Bool). if b then Some doc else None) (sym (leaves place its.document))

  -- a load asks whom it is due to ask
  pub load_due : (nav : NavId) (mode : Mode) (address : List ℕ) → load_questions slots t.tree nav ≡ due_questions s (requests.Load nav mode address) None
  load_due nav mode address = asks_at nav (requests.Load nav mode address) (λ place d. refl)

  -- so does a reload
  pub reload_due : (nav : NavId) → reload_questions slots t.tree nav ≡ due_questions s (requests.Reload nav) None
  reload_due nav = asks_at nav (requests.Reload nav) (λ place d. refl)

  -- and a traversal, or a document's own request to go
  pub traverse_due : (what : Request) (goal : Step) → is_load what ≡ false → is_reload what ≡ false → traverse_questions slots s.history.rows goal.0 t.tree ≡ due_questions s what (Some goal)
  traverse_due what goal load reload =
      ap (filter_map (question_to slots leavings.Traverse)) (leaving_is s t.tree (stands (unasked checking s) run t holds_ sound hangs) (lives s checking run t holds_ homed) (pos 0) goal)
      ∙ ap (λ (cause : LeaveCause). filter_map (question_to slots cause) (filter_map (left_by s going (Some goal)) (walk_of s.places))) goes.cause
      ∙ asks what (Some goal) (left_by s going (Some goal)) (λ place none. ap (left_in place) none) on
    where
      goes : IsGoing s what goal
      goes = is_going s what goal load reload

      left_with : Place → Option Document → Option DocId
      left_with place o = option_and_then (λ (d : Document). if is_leaving s going (Some goal) place d then Some d.nr else None) o

      left_in : Place → Option DocId → Option DocId
      left_in place o = left_with place (option_and_then (document_of s) o)

      on : (place : Place) (doc : DocId) (its : IsThere s doc) → awake_document place ≡ Some doc → left_by s going (Some goal) place ≡ (if is_leaving s what (Some goal) place its.document then Some doc else None)
      on place doc its is =
          ap (left_in place) is
          ∙ ap (left_with place) its.found
          ∙ ap (λ (nr : DocId). if is_leaving s going (Some goal) place its.document then Some nr else None) its.nr
          ∙ ap (λ (b : Bool). if b then Some doc else None) (goes.leaves place its.document)

  -- the same by the rows that the store has
  pub traverse_held : (what : Request) (goal : Step) → is_load what ≡ false → is_reload what ≡ false → traverse_questions slots (history_held t.store).rows goal.0 t.tree ≡ due_questions s what (Some goal)
  traverse_held what goal load reload =
      ap (filter_map (question_to slots leavings.Traverse)) (leaving_same (history_held t.store).rows s.history.rows goal.0 t.tree (λ nav. held_target t.store s.history holds_.history nav goal.0))
      ∙ traverse_due what goal load reload
