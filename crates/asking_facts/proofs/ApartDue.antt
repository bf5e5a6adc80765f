-- Of the questions that are due as a request begins no two go to one document: each navigable is awake on a document of its own.
use Rattle.std.proofs.Common.{◌≡◌, ℕ, Bool, true, false, ◌==◌, List, [], ◌∷◌, Option, Some, None, filter_map, inl, inr, refl, sym, ap, ◌∙◌, subst, arith}
use Rattle.std.specs.Prelude.{cond, if◌then◌else◌, option_and_then, option_map}
use Rattle.std.specs.List.{cons_option, list_any}
use Rattle.std.proofs.lemmas.Bool.Decides.{nat_tests}
use Rattle.tab_ids.specs.declared.DocId.{DocId}
use Rattle.tab_ids.specs.declared.NavId.{NavId}
use Rattle.tab_ids.specs.declared.ReqId.{ReqId}
use Rattle.tab_ids.specs.declared.Step.{Step}
use Rattle.log_model.specs.declared.request.Request.{Request}
use Rattle.log_model.specs.Orders.{Question, due_questions, is_leaving, leave_cause, question_for}
use Rattle.log_model.specs.Places.{awake_document}
use Rattle.log_model.specs.Seen.{Asked, Document, Place, Seen, Status, asleep, awake, document_of, lost, place_in, place_of}
use Rattle.log_model.specs.Soundness.{IsSound}
use Rattle.log_model.specs.Walk.{walk_of}
use Rattle.seen_laws.specs.Unasked.{unasked, unhandled}
use Rattle.seen_facts.proofs.Coord.Leadings.{doc_same}
use Rattle.seen_facts.proofs.Hang.Hung.{places_distinct}
use Rattle.seen_facts.proofs.Hang.Members.{find_has}
use Rattle.seen_facts.proofs.Rest.Stands.{get_of}
use Rattle.seen_facts.proofs.Walk.Order.{walk_member, walk_once}
use Rattle.seen_facts.proofs.Walk.Placed.{each_found}
use Rattle.seen_facts.specs.Hang.AsPlaces.{AreDistinct}
use Rattle.seen_facts.specs.Hang.Hanging.{Hangs}
use Rattle.seen_facts.specs.Hang.Members.{Has}
use Rattle.seen_facts.specs.Home.Homes.{EachWake, IsAtHome, IsHomed}
use Rattle.unasked.proofs.Readings.{document_read}
use Rattle.asking_facts.specs.Asking.{BeginsToAsk}
use Rattle.asking_facts.specs.Waiting.{AreApartDocs}

some_same : {A : Type 0} {a b : A} → (let o : Option A = Some a in o) ≡ Some b → a ≡ b
some_same is = cc

-- the navigable that presents a document is awake on it
wakes_on : (place : Place) (doc : DocId) → awake_document place ≡ Some doc → place.status ≡ awake doc
wakes_on place doc is = by_status place.status is
  where
    by_status : (status : Status) → awake_document (record place { status = status }) ≡ Some doc → status ≡ awake doc
    by_status (awake other) e = let same : other ≡ doc = cc in ap awake same
    by_status lost e = cc
    by_status asleep e = cc

-- a question goes to a document of this navigable
record IsAskedOf (s : Seen) (nav : NavId) (question : Question) : Type 0 where
  document : Document
  found : document_of s question.0 ≡ Some document
  nav_is : document.nav ≡ nav

-- two of different navigables go to different documents
asked_apart : (s : Seen) (nav other : NavId) (a b : Question) → (other.0 == nav.0) ≡ false → IsAskedOf s nav a → IsAskedOf s other b → (a.0.0 == b.0.0) ≡ false
asked_apart s nav other a b apart one another = by_test (a.0.0 == b.0.0) refl
  where
    by_test : (t : Bool) → (a.0.0 == b.0.0) ≡ t → t ≡ false
    by_test false e = refl
    by_test true e =
        let n : a.0.0 ≡ b.0.0 = grind (arith, nat_tests, e) in
        let it : a.0 ≡ b.0 = ap (λ (i : ℕ). let d : DocId = record { 0 = i } in d) n in
        let same : one.document ≡ another.document = some_same (sym one.found ∙ ap (document_of s) it ∙ another.found) in
        let navs : nav ≡ other = sym one.nav_is ∙ ap (λ (d : Document). d.nav) same ∙ another.nav_is in
        let nrs : nav.0 ≡ other.0 = ap (λ (n : NavId). n.0) navs in
        let never : true ≡ false = grind (arith, nat_tests, nrs, apart) in
        never

-- what is asked of the log without questions is a part of what holds of a tab in which nobody is asked
module _ (s : Seen) (checking : ReqId → Bool) (sound : IsSound s.history) (hangs : Hangs (unasked checking s)) (homed : EachWake (IsHomed (unasked checking s).documents) (unasked checking s)) (what : Request) (goal : Option Step) where
  abbrev asks : Place → Option Question
  asks place = question_for s what goal place

  distinct : AreDistinct s.places
  distinct = places_distinct (unasked checking s) sound hangs

  abbrev asks_of : Place → Document → Option Question
  asks_of place d =
      if is_leaving s what goal place d then option_map (λ (slot : ℕ). (d.nr, slot, leave_cause what)) d.slot else None

  -- the question of a place is to its navigable's document
  asked_of : (place : Place) → place_of s place.nav ≡ Some place → (question : Question) → asks place ≡ Some question → IsAskedOf s place.nav question
  asked_of place placed question is = by_awake (awake_document place) refl is
    where
      by_document : (doc : DocId) (d : Document) → document_of s doc ≡ Some d → d.nav ≡ place.nav → asks_of place d ≡ Some question → IsAskedOf s place.nav question
      by_document doc d found nav_is e = by_leaving (is_leaving s what goal place d) e
        where
          nr : d.nr ≡ doc
          nr = doc_same d.nr doc (find_has (λ (x : Document). x.nr.0 == doc.0) s.documents d found).1

          by_slot : (slot : Option ℕ) → option_map (λ (n : ℕ). let q : Question = (d.nr, n, leave_cause what) in q) slot ≡ Some question → IsAskedOf s place.nav question
          by_slot None f = absurd cc
          by_slot (Some n) f =
              let its : d.nr ≡ question.0 = ap (λ (q : Question). q.0) (some_same f) in
              record { document = d; found = ap (document_of s) (sym its ∙ nr) ∙ found; nav_is = nav_is }

          by_leaving : (b : Bool) → (let o : Option Question = (if b then option_map (λ (n : ℕ). (d.nr, n, leave_cause what)) d.slot else None) in o) ≡ Some question → IsAskedOf s place.nav question
          by_leaving true f = by_slot d.slot f
          by_leaving false f = absurd cc

      by_found : (doc : DocId) → place.status ≡ awake doc → (o : Option Document) → document_of s doc ≡ o → option_and_then (asks_of place) o ≡ Some question → IsAskedOf s place.nav question
      by_found doc wakes None found e = absurd cc
      by_found doc wakes (Some d) found e = by_document doc d found nav_is e
        where
          home : IsAtHome (unasked checking s).documents place.nav doc
          home = (homed place.nav place doc placed wakes).home

          nav_is : d.nav ≡ place.nav
          nav_is =
              let same : unhandled d ≡ home.document = some_same (ap (λ (o : Option Document). option_map unhandled o) (sym found) ∙ sym (document_read checking s doc) ∙ home.found) in
              ap (λ (x : Document). x.nav) same ∙ home.nav_is

      by_awake : (o : Option DocId) → awake_document place ≡ o → option_and_then (asks_of place) (option_and_then (document_of s) o) ≡ Some question → IsAskedOf s place.nav question
      by_awake None w e = absurd cc
      by_awake (Some doc) w e = by_found doc (wakes_on place doc w) (document_of s doc) refl e

  placed_walk : (place : Place) → Has (walk_of s.places) place → place_of s place.nav ≡ Some place
  placed_walk place there =
      let at = get_of (walk_of s.places) place there in
      let its = walk_member s.places at.0 place at.1 in
      each_found s.places distinct its.0 place its.1

  -- no other place asks that document
  none_asks : (nav : NavId) (question : Question) → IsAskedOf s nav question → (l : List Place) → place_in l nav ≡ None → ((p : Place) → Has l p → place_of s p.nav ≡ Some p) → list_any (λ (other : Question). question.0.0 == other.0.0) (filter_map asks l) ≡ false
  none_asks nav question its [] none placed = refl
  none_asks nav question its (p ∷ l) none placed =
      by_number (p.nav.0 == nav.0) refl none (none_asks nav question its l)
    where
      rest : List Question
      rest = filter_map asks l

      by_asks : (p.nav.0 == nav.0) ≡ false → (o : Option Question) → asks p ≡ o → list_any (λ (other : Question). question.0.0 == other.0.0) rest ≡ false → list_any (λ (other : Question). question.0.0 == other.0.0) (cons_option o rest) ≡ false
      by_asks apart None e more = more
      by_asks apart (Some b) e more =
          rw (asked_apart s nav p.nav question b apart its (asked_of p (placed p (inl refl)) b e)) more

      by_number : (t : Bool) → (p.nav.0 == nav.0) ≡ t → cond t (Some p) (place_in l nav) ≡ None → (place_in l nav ≡ None → ((q : Place) → Has l q → place_of s q.nav ≡ Some q) → list_any (λ (other : Question). question.0.0 == other.0.0) rest ≡ false) → list_any (λ (other : Question). question.0.0 == other.0.0) (cons_option (asks p) rest) ≡ false
      by_number true e f more = absurd (let no : (let o : Option Place = Some p in o) ≡ None = f in cc)
      by_number false e f more = by_asks e (asks p) refl (more f (λ q there. placed q (inr there)))

  each_apart : (l : List Place) → AreDistinct l → ((p : Place) → Has l p → place_of s p.nav ≡ Some p) → AreApartDocs (filter_map asks l)
  each_apart [] once placed = tt
  each_apart (p ∷ l) once placed =
      by_asks (asks p) refl (each_apart l once.1 (λ q there. placed q (inr there)))
    where
      by_asks : (o : Option Question) → asks p ≡ o → AreApartDocs (filter_map asks l) → AreApartDocs (cons_option o (filter_map asks l))
      by_asks None e more = more
      by_asks (Some a) e more =
          (none_asks p.nav a (asked_of p (placed p (inl refl)) a e) l once.0 (λ q there. placed q (inr there)), more)

  -- of the questions that are due each goes to another document
  pub due_apart : AreApartDocs (due_questions s what goal)
  due_apart = each_apart (walk_of s.places) (walk_once s.places distinct) placed_walk

  -- so are those of a request that begins
  pub begins_apart : (req : ReqId) (questions : List Question) (q : Asked) → q.what ≡ what → BeginsToAsk s req goal questions q → AreApartDocs questions
  begins_apart req questions q is begins =
      subst AreApartDocs (ap (λ (w : Request). due_questions s w goal) (sym is) ∙ begins.due) due_apart
