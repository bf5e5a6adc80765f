-- A traversal leaves the same documents in the tables as in the log.
use Rattle.std.proofs.Common.{◌≡◌, ℕ, suc, Bool, true, false, not, ◌&&◌, List, [], ◌∷◌, map, filter_map, Option, Some, None, refl, sym, ap, ◌∙◌}
use Rattle.std.specs.Prelude.{ℤ, ◌==◌, slice_get, option_and_then, if◌then◌else◌}
use Rattle.std.specs.List.{list_any}
use Rattle.std.proofs.Math.Bool.{and-true}
use Rattle.tab_ids.specs.declared.NavId.{NavId}
use Rattle.tab_ids.specs.declared.DocId.{DocId}
use Rattle.tab_ids.specs.declared.Step.{Step}
use Rattle.log_model.specs.declared.row.Row.{Row}
use Rattle.log_model.specs.declared.request.Request.{Request}
use Rattle.log_model.specs.declared.request.Request.TheVariants as requests
use Rattle.log_model.specs.Equal.{holds}
use Rattle.log_model.specs.History.{target_entry}
use Rattle.log_model.specs.Seen.{Seen, Document, Place, Status, place_in}
use Rattle.log_model.specs.Seen as seen
use Rattle.log_model.specs.Places.{is_shown, targets_state, awake_document}
use Rattle.log_model.specs.Orders.{is_leaving}
use Rattle.log_model.specs.Walk.{is_way_before, way_from_top, walk_with}
use Rattle.log_model.specs.Walk as log
use Rattle.nav_tree.specs.declared.place.Place as live
use Rattle.nav_tree.specs.declared.status.NavStatus.{NavStatus}
use Rattle.nav_tree.specs.declared.status.NavStatus.TheVariants.{Awake, Lost, Asleep}
use Rattle.nav_tree.specs.Tree.{Tree, document_of}
use Rattle.apply_plan.specs.declared.reach.Reach.TheVariants.{Shown}
use Rattle.apply_plan.specs.Reaches.{is_reached}
use Rattle.apply_plan.specs.Leaving.{targets_document, stays_on, leaving_of, leaving_in}
use Rattle.plan_laws.specs.Held.{status_of, IsKept, StandFor, IsLive, AreLive, left_by}
use Rattle.plan_laws.proofs.Placed.{each_found}
use Rattle.plan_laws.proofs.ReachLaws.{GoesOn, reach_is}
use Rattle.plan_laws.proofs.WalkLaws.{walk_is}

-- nothing stops the walk
abbrev nowhere : NavId → Bool
nowhere nav = false

none_nowhere : (navs : List NavId) → list_any nowhere navs ≡ false
none_nowhere [] = refl
none_nowhere (nav ∷ navs) = none_nowhere navs

-- ---- what holds of each place holds of each in the order of the walk

abbrev EachOf : (Place → Type 0) → List Place → Type 0
EachOf P [] = Unit {0}
EachOf P (place ∷ places) = P place × EachOf P places

each_with : (P : Place → Type 0) (p : Place) (l : List Place) → P p → EachOf P l → EachOf P (walk_with p l)
each_with P p [] one all = (one, tt)
each_with P p (first ∷ l) one all = by_test (is_way_before (way_from_top p) (way_from_top first)) (each_with P p l one all.1)
  where
    by_test : (b : Bool) → EachOf P (walk_with p l) → EachOf P (if b then p ∷ first ∷ l else first ∷ walk_with p l)
    by_test true more = (one, all)
    by_test false more = (all.0, more)

each_walk : (P : Place → Type 0) (l : List Place) → EachOf P l → EachOf P (log.walk_of l)
each_walk P [] all = tt
each_walk P (p ∷ l) all = each_with P p (log.walk_of l) all.0 (each_walk P l all.1)

each_of : (P : Place → Type 0) (l : List Place) → ((i : ℕ) (place : Place) → slice_get l i ≡ Some place → P place) → EachOf P l
each_of P [] each = tt
each_of P (p ∷ l) each = (each 0 p refl, each_of P l (λ i q e. each (suc i) q e))

same_mapped : (f : NavId → Option DocId) (g : Place → Option DocId) (l : List Place) → EachOf (λ p. f p.nav ≡ g p) l → filter_map f (map (λ (p : Place). p.nav) l) ≡ filter_map g l
same_mapped f g [] all = refl
same_mapped f g (p ∷ l) all = rw (all.0, same_mapped f g l all.1) refl

-- ---- one place

awake_on : (place : Place) (doc : DocId) → place.status ≡ seen.awake doc → awake_document place ≡ Some doc
awake_on place doc is = rw is refl

not_lost : (place : Place) → place.status ≡ seen.lost → awake_document place ≡ None
not_lost place is = rw is refl

not_asleep : (place : Place) → place.status ≡ seen.asleep → awake_document place ≡ None
not_asleep place is = rw is refl

-- what is left by a place that is awake on a document, and by one that isn't awake
left_awake : (s : Seen) (what : Request) (goal : Option Step) (place : Place) (doc : DocId) (d : Document) → awake_document place ≡ Some doc → seen.document_of s doc ≡ Some d → d.nr ≡ doc → left_by s what goal place ≡ (if is_leaving s what goal place d then Some doc else None)
left_awake s what goal place doc d awake found nr =
    ap (λ o. option_and_then (λ (x : Document). if is_leaving s what goal place x then Some x.nr else None) (option_and_then (seen.document_of s) o)) awake
    ∙ ap (option_and_then (λ (x : Document). if is_leaving s what goal place x then Some x.nr else None)) found
    ∙ ap (λ (n : DocId). if is_leaving s what goal place d then Some n else None) nr

left_none : (s : Seen) (what : Request) (goal : Option Step) (place : Place) → awake_document place ≡ None → left_by s what goal place ≡ None
left_none s what goal place none = ap (λ o. option_and_then (λ (x : Document). if is_leaving s what goal place x then Some x.nr else None) (option_and_then (seen.document_of s) o)) none

module _ (s : Seen) (tree : Tree) (stand : StandFor s.history.rows s.places tree) (lives : AreLive s tree) (delta : ℤ) (goal : Step) where
  goes_on : GoesOn Shown nowhere s.history.rows goal.0 s.places tree
  goes_on nav place found kept = refl

  shown_is : (i : ℕ) (place : Place) → slice_get s.places i ≡ Some place → is_reached Shown s.history.rows goal.0 tree place.nav ≡ is_shown s.history.rows goal.0 place.nav
  shown_is i place there =
      reach_is Shown nowhere s.history.rows goal.0 s.places tree stand goes_on i place there
      ∙ rw (none_nowhere place.above) (and-true (is_shown s.history.rows goal.0 place.nav))

  -- its target has the document's state where it has the document
  targets_is : (place : Place) (doc : DocId) (its : IsLive s tree doc) → targets_document s.history.rows goal.0 tree place.nav doc ≡ targets_state s.history.rows goal.0 place.nav its.document.state
  targets_is place doc its = by_target (target_entry s.history.rows place.nav goal.0)
    where
      by_target : (o : Option Row) → holds (λ (row : Row). holds (λ (p : live.Place). p.doc.0 == doc.0) (document_of row.state tree)) o ≡ holds (λ (row : Row). row.state.0 == its.document.state.0) o
      by_target None = refl
      by_target (Some row) = its.live row.state

  -- the document that it leaves
  leaves_is : (i : ℕ) (place : Place) → slice_get s.places i ≡ Some place → leaving_of s.history.rows goal.0 tree place.nav ≡ left_by s (requests.Go delta) (Some goal) place
  leaves_is i place there = by_status kept.fields.status refl
    where
      here : place_in s.places place.nav ≡ Some place
      here = each_found s.places stand.held.distinct i place there

      kept : IsKept tree place
      kept = stand.kept place.nav place here

      turned : (doc : DocId) (t u : Bool) → (if t && u then None else Some doc) ≡ (if not (u && t) then Some doc else None)
      turned doc true true = refl
      turned doc true false = refl
      turned doc false true = refl
      turned doc false false = refl

      by_status : (status : NavStatus) → kept.fields.status ≡ status → leaving_of s.history.rows goal.0 tree place.nav ≡ left_by s (requests.Go delta) (Some goal) place
      by_status (Awake doc) e =
          let known : place.status ≡ seen.awake doc = sym kept.status ∙ ap status_of e in
          let its : IsLive s tree doc = lives place doc here known in
          let tables : leaving_of s.history.rows goal.0 tree place.nav ≡ (if stays_on s.history.rows goal.0 tree place.nav doc then None else Some doc) = rw kept.there (rw e refl) in
          let stays : stays_on s.history.rows goal.0 tree place.nav doc ≡ (targets_state s.history.rows goal.0 place.nav its.document.state && is_shown s.history.rows goal.0 place.nav) = rw (targets_is place doc its, shown_is i place there) refl in
          let logged : left_by s (requests.Go delta) (Some goal) place ≡ (if not (is_shown s.history.rows goal.0 place.nav && targets_state s.history.rows goal.0 place.nav its.document.state) then Some doc else None) = left_awake s (requests.Go delta) (Some goal) place doc its.document (awake_on place doc known) its.found its.nr in
          tables ∙ ap (λ (b : Bool). if b then None else Some doc) stays ∙ turned doc (targets_state s.history.rows goal.0 place.nav its.document.state) (is_shown s.history.rows goal.0 place.nav) ∙ sym logged
      by_status Lost e =
          let none : leaving_of s.history.rows goal.0 tree place.nav ≡ None = rw kept.there (rw e refl) in
          none ∙ sym (left_none s (requests.Go delta) (Some goal) place (not_lost place (sym kept.status ∙ ap status_of e)))
      by_status Asleep e =
          let none : leaving_of s.history.rows goal.0 tree place.nav ≡ None = rw kept.there (rw e refl) in
          none ∙ sym (left_none s (requests.Go delta) (Some goal) place (not_asleep place (sym kept.status ∙ ap status_of e)))

  -- a traversal leaves the documents that the log has it leave, in the order of the walk
  pub leaving_is : leaving_in s.history.rows goal.0 tree ≡ filter_map (left_by s (requests.Go delta) (Some goal)) (log.walk_of s.places)
  leaving_is =
      ap (filter_map (leaving_of s.history.rows goal.0 tree)) (walk_is s.places tree stand.held)
      ∙ same_mapped (leaving_of s.history.rows goal.0 tree) (left_by s (requests.Go delta) (Some goal)) (log.walk_of s.places) (each_walk (λ p. leaving_of s.history.rows goal.0 tree p.nav ≡ left_by s (requests.Go delta) (Some goal) p) s.places (each_of (λ p. leaving_of s.history.rows goal.0 tree p.nav ≡ left_by s (requests.Go delta) (Some goal) p) s.places leaves_is))
