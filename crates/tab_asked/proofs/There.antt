-- The document of each question that is due as a request begins is there: its navigable is awake on it, and nobody has died.
use Rattle.log_model.specs.Orders.{Question, due_questions, is_leaving, leave_cause, question_for}
use Rattle.log_model.specs.Places.{awake_document}
use Rattle.log_model.specs.Seen.{Document, Place, Seen, Status, asleep, awake, document_of, lost, place_of}
use Rattle.log_model.specs.Soundness.{IsSound}
use Rattle.log_model.specs.Walk.{walk_of}
use Rattle.log_model.specs.declared.request.Request.{Request}
use Rattle.seen_facts.proofs.Coord.Leadings.{doc_same}
use Rattle.seen_facts.proofs.Hang.Hung.{places_distinct}
use Rattle.seen_facts.proofs.Hang.Members.{find_has}
use Rattle.seen_facts.proofs.Rest.Stands.{get_of}
use Rattle.seen_facts.proofs.Walk.Order.{walk_member}
use Rattle.seen_facts.proofs.Walk.Placed.{each_found}
use Rattle.seen_facts.specs.Each.Items.{NoneDied}
use Rattle.seen_facts.specs.Hang.AsPlaces.{AreDistinct}
use Rattle.seen_facts.specs.Hang.Hanging.{Hangs}
use Rattle.seen_facts.specs.Hang.Members.{Has}
use Rattle.seen_facts.specs.Home.Homes.{EachWake, IsAtHome, IsHomed}
use Rattle.seen_laws.specs.Unasked.{unasked}
use Rattle.std.proofs.Common.{Bool, List, None, Option, Some, [], ap, arith, false, filter_map, inl, inr, refl, subst, suc, sym, true, zero, ℕ, ◌==◌, ◌∙◌, ◌∷◌, ◌≡◌}
use Rattle.std.specs.List.{cons_option}
use Rattle.std.specs.Prelude.{All, if◌then◌else◌, option_and_then, option_map}
use Rattle.tab_asks.specs.Asks.{AreThere}
use Rattle.tab_doors.proofs.ReadOff.{there}
use Rattle.tab_doors.specs.Orders.{IsThere}
use Rattle.tab_ids.specs.declared.DocId.{DocId}
use Rattle.tab_ids.specs.declared.Step.{Step}

some_same : {A : Type 0} {a b : A} → (let o : Option A = Some a in o) ≡ Some b → a ≡ b
some_same is = cc

-- the navigable that presents a document is awake on it
wakes_on : (place : Place) (doc : DocId) → awake_document place ≡ Some doc → place.status ≡ awake doc
wakes_on place doc is = by_status place.status is
  where
    by_status : (status : Status) → awake_document (record place { status = status }) ≡ Some doc → status ≡ awake doc
    by_status (awake other) e = let same : other ≡ doc = cc in ap awake same
    by_status lost e = cc
    by_status asleep e = cc

-- what holds of each item of a list
each_item : {A : Type 0} (P : A → Type 0) (xs : List A) → ((x : A) → Has xs x → P x) → All P xs
each_item P [] each k d less = absurd (omega (arith, less))
each_item P (x ∷ xs) each zero d less = each x (inl refl)
each_item P (x ∷ xs) each (suc k) d less = each_item P xs (λ y has. each y (inr has)) k d (omega (arith, less))

-- what is asked of the log without questions is a part of what holds of a tab in which nobody is asked
module _ (s : Seen) (checking : _) (sound : IsSound s.history) (hangs : Hangs (unasked checking s)) (homed : EachWake (IsHomed (unasked checking s).documents) (unasked checking s)) (died : NoneDied (unasked checking s)) (what : Request) (goal : Option Step) where
  abbrev asks : Place → Option Question
  asks place = question_for s what goal place

  distinct : AreDistinct s.places
  distinct = places_distinct (unasked checking s) sound hangs

  abbrev asks_of : Place → Document → Option Question
  asks_of place d =
      if is_leaving s what goal place d then option_map (λ (slot : ℕ). (d.nr, slot, leave_cause what)) d.slot else None

  -- a document on which a navigable is awake is there
  awake_there : (place : Place) → place_of s place.nav ≡ Some place → (doc : DocId) → place.status ≡ awake doc → IsThere s doc
  awake_there place placed doc wakes =
      there checking s doc (record {
        document = home.document;
        found = home.found;
        alive = rw (home.undiscarded, home.unknown) refl;
        known = (died home.document.proc).0;
      })
    where
      home : IsAtHome (unasked checking s).documents place.nav doc
      home = (homed place.nav place doc placed wakes).home

  -- the question of a place is to its document
  asked_there : (place : Place) → place_of s place.nav ≡ Some place → (question : Question) → asks place ≡ Some question → IsThere s question.0
  asked_there place placed question is = by_awake (awake_document place) refl is
    where
      by_document : (doc : DocId) → IsThere s doc → (d : Document) → document_of s doc ≡ Some d → asks_of place d ≡ Some question → IsThere s question.0
      by_document doc is_there d found e = by_leaving (is_leaving s what goal place d) e
        where
          nr : d.nr ≡ doc
          nr = doc_same d.nr doc (find_has (λ (x : Document). x.nr.0 == doc.0) s.documents d found).1

          by_slot : (slot : Option ℕ) → option_map (λ (n : ℕ). let q : Question = (d.nr, n, leave_cause what) in q) slot ≡ Some question → IsThere s question.0
          by_slot None f = absurd cc
          by_slot (Some n) f =
              let its : d.nr ≡ question.0 = ap (λ (q : Question). q.0) (some_same f) in
              subst (λ (x : DocId). IsThere s x) (sym nr ∙ its) is_there

          by_leaving : (b : Bool) → (let o : Option Question = (if b then option_map (λ (n : ℕ). (d.nr, n, leave_cause what)) d.slot else None) in o) ≡ Some question → IsThere s question.0
          by_leaving true f = by_slot d.slot f
          by_leaving false f = absurd cc

      by_found : (doc : DocId) → place.status ≡ awake doc → (o : Option Document) → document_of s doc ≡ o → option_and_then (asks_of place) o ≡ Some question → IsThere s question.0
      by_found doc wakes None found e = absurd cc
      by_found doc wakes (Some d) found e = by_document doc (awake_there place placed doc wakes) d found e

      by_awake : (o : Option DocId) → awake_document place ≡ o → option_and_then (asks_of place) (option_and_then (document_of s) o) ≡ Some question → IsThere s question.0
      by_awake None w e = absurd cc
      by_awake (Some doc) w e = by_found doc (wakes_on place doc w) (document_of s doc) refl e

  placed_walk : (place : Place) → Has (walk_of s.places) place → place_of s place.nav ≡ Some place
  placed_walk place has =
      let at = get_of (walk_of s.places) place has in
      let its = walk_member s.places at.0 place at.1 in
      each_found s.places distinct its.0 place its.1

  each_there : (l : List Place) → ((p : Place) → Has l p → place_of s p.nav ≡ Some p) → (question : Question) → Has (filter_map asks l) question → IsThere s question.0
  each_there [] placed question has = absurd has
  each_there (p ∷ l) placed question has =
      by_asks (asks p) refl has (each_there l (λ q there_. placed q (inr there_)) question)
    where
      by_asks : (o : Option Question) → asks p ≡ o → Has (cons_option o (filter_map asks l)) question → (Has (filter_map asks l) question → IsThere s question.0) → IsThere s question.0
      by_asks None e h more = more h
      by_asks (Some a) e (inl same) more = asked_there p (placed p (inl refl)) question (e ∙ ap (λ (x : Question). let o : Option Question = Some x in o) same)
      by_asks (Some a) e (inr h) more = more h

  pub due_there : AreThere s (due_questions s what goal)
  due_there =
      each_item (λ (question : Question). IsThere s question.0) (due_questions s what goal) (each_there (walk_of s.places) placed_walk)
