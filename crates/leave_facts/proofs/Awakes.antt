-- A calm tab, in which who is awake is at home, gives what a request asks for as it begins: all stay at the current step, and the due questions ask whom it leaves.
use Rattle.std.proofs.Common.{◌≡◌, ◌⊎◌, inl, inr, ℕ, suc, Bool, true, false, not, cond, ◌||◌, ◌==◌, List, [], ◌∷◌, map, Option, Some, None, refl, sym, ap, ◌∙◌, subst, arith}
use Rattle.std.specs.Prelude.{filter_map, is_some, slice_get}
use Rattle.std.proofs.lemmas.Bool.{and_from}
use Rattle.std.proofs.lemmas.Bool.Decides.{nat_tests}
use Rattle.tab_ids.specs.declared.DocId.{DocId}
use Rattle.tab_ids.specs.declared.EntryId.{EntryId}
use Rattle.tab_ids.specs.declared.NavId.{NavId}
use Rattle.tab_ids.specs.declared.StateId.{StateId}
use Rattle.tab_ids.specs.declared.Step.{Step}
use Rattle.log_model.specs.declared.job.Job.{Job}
use Rattle.log_model.specs.declared.request.Request.{Request}
use Rattle.log_model.specs.declared.request.Request.TheVariants as requests
use Rattle.log_model.specs.declared.row.Row.{Row}
use Rattle.log_model.proofs.Refl.{nat_eq_refl}
use Rattle.log_model.specs.AfterRequests.{awake_documents}
use Rattle.log_model.specs.Equal.{has_doc, holds}
use Rattle.history_laws.proofs.Joining.{entry_same}
use Rattle.log_model.specs.History.{has_nav, has_row, same_entry, target_entry, used_step_at}
use Rattle.log_model.specs.Orders.{Question, due_questions, is_leaving, leave_cause, question_for}
use Rattle.log_model.specs.Places.{awake_document, is_shown, is_traversal, targets_state, way_of}
use Rattle.log_model.specs.Seen.{Document, Place, Seen, Status, asleep, awake, document_of, lost, place_of}
use Rattle.log_model.specs.Soundness.{IsSound}
use Rattle.log_model.specs.Walk.{is_way_before, walk_of, walk_with, way_from_top}
use Rattle.seen_facts.proofs.Hang.Hung.{places_distinct}
use Rattle.seen_facts.proofs.Hang.Members.{find_has, into_map}
use Rattle.seen_facts.proofs.Hang.Targets.{IsTarget, target_has}
use Rattle.seen_facts.proofs.Walk.Placed.{each_found}
use Rattle.seen_facts.specs.Hang.Hanging.{Hangs}
use Rattle.seen_facts.specs.Hang.Members.{Has}
use Rattle.seen_facts.specs.Home.Homes.{AreHomed, IsAtHome}
use Rattle.tab_facts.specs.Calm.Calm.{IsCalmYet, IsHere}
use Rattle.leave_facts.specs.Leaving.{stays_at, leaves_nav}
use Rattle.leave_facts.proofs.Begins.{AwakeStay, BelowAmong, LeaversAmong, is_among}
use Rattle.leave_facts.proofs.Stays.{stays_in}
use Rattle.leave_facts.proofs.Targets.{stays_used}

doc_is : (one other : DocId) → (one.0 == other.0) ≡ true → one ≡ other
doc_is one other e =
    let number : one.0 ≡ other.0 = grind (arith, nat_tests, e) in
    ap (λ (n : ℕ). let doc : DocId = record { 0 = n } in doc) number

-- ---- who is awake on a document

-- one of these places is awake on the document
record IsWakeIn (places : List Place) (doc : DocId) : Type 0 where
  place : Place
  i : ℕ
  at : slice_get places i ≡ Some place
  wakes : place.status ≡ awake doc

status_of : (place : Place) (doc : DocId) → awake_document place ≡ Some doc → place.status ≡ awake doc
status_of place doc is = by_status place.status refl is
  where
    by_status : (status : Status) → place.status ≡ status → awake_document (record place { status = status }) ≡ Some doc → place.status ≡ awake doc
    by_status (awake d) at e = at ∙ (let same : d ≡ doc = cc in ap (λ (x : DocId). awake x) same)
    by_status lost at e = absurd cc
    by_status asleep at e = absurd cc

wake_in : (places : List Place) (doc : DocId) → has_doc (filter_map awake_document places) doc ≡ true → IsWakeIn places doc
wake_in [] doc never = absurd cc
wake_in (p ∷ places) doc has = by_document (awake_document p) refl (wake_in places doc)
  where
    later : IsWakeIn places doc → IsWakeIn (p ∷ places) doc
    later its = record { place = its.place; i = suc its.i; at = its.at; wakes = its.wakes }

    by_own : (d : DocId) → awake_document p ≡ Some d → (b : Bool) → (d.0 == doc.0) ≡ b → (b || has_doc (filter_map awake_document places) doc) ≡ true → (has_doc (filter_map awake_document places) doc ≡ true → IsWakeIn places doc) → IsWakeIn (p ∷ places) doc
    by_own d e true same h more =
        record { place = p; i = 0; at = refl; wakes = status_of p doc (e ∙ ap (λ (x : DocId). Some x) (doc_is d doc same)) }
    by_own d e false apart h more = later (more h)

    by_document : (o : Option DocId) → awake_document p ≡ o → (has_doc (filter_map awake_document places) doc ≡ true → IsWakeIn places doc) → IsWakeIn (p ∷ places) doc
    by_document None e more =
        let same : filter_map awake_document (p ∷ places) ≡ filter_map awake_document places = rw e refl in
        later (more (ap (λ (l : List DocId). has_doc l doc) (sym same) ∙ has))
    by_document (Some d) e more =
        let same : filter_map awake_document (p ∷ places) ≡ d ∷ filter_map awake_document places = rw e refl in
        by_own d e (d.0 == doc.0) refl (ap (λ (l : List DocId). has_doc l doc) (sym same) ∙ has) more

-- the place that is awake on it, in which it is at home
record IsWake (s : Seen) (doc : DocId) (d : Document) : Type 0 where
  place : Place
  there : Has s.places place
  found : place_of s place.nav ≡ Some place
  wakes : place.status ≡ awake doc
  nav_is : d.nav ≡ place.nav

module _ (s : Seen) (sound : IsSound s.history) (hangs : Hangs s) (homes : AreHomed s) where
  wake_of : (doc : DocId) (d : Document) → has_doc (awake_documents s) doc ≡ true → document_of s doc ≡ Some d → IsWake s doc d
  wake_of doc d has found =
      record {
        place = it.place;
        there = (find_has (λ (p : Place). p.nav.0 == it.place.nav.0) s.places it.place at).0;
        found = at;
        wakes = it.wakes;
        nav_is = ap (λ (x : Document). x.nav) (sym same) ∙ home.nav_is;
      }
    where
      it : IsWakeIn s.places doc
      it = wake_in s.places doc has

      at : place_of s it.place.nav ≡ Some it.place
      at = each_found s.places (places_distinct s sound hangs) it.i it.place it.at

      home : IsAtHome s.documents it.place.nav doc
      home = (homes.homed it.place.nav it.place doc at it.wakes).home

      same : home.document ≡ d
      same = let two : Some home.document ≡ Some d = sym home.found ∙ found in cc

  -- ---- they stay

  -- where the tab is calm, each document on which a navigable with an entry is awake stays at the current step
  pub calm_stay : IsCalmYet s → AwakeStay s
  calm_stay calm = record { each = each }
    where
      each : (doc : DocId) (d : Document) → has_doc (awake_documents s) doc ≡ true → document_of s doc ≡ Some d → has_row d.nav s.history.rows ≡ true → stays_at s.history.rows s.history.current d ≡ true
      each doc d has found placed = by_here (calm.here it.place.nav it.place doc it.found it.wakes)
        where
          it : IsWake s doc d
          it = wake_of doc d has found

          given_is : (entry : EntryId) (given : Option EntryId) → holds (same_entry entry) given ≡ true → given ≡ Some entry
          given_is entry None e = absurd cc
          given_is entry (Some other) e = ap (λ (x : EntryId). Some x) (sym (entry_same entry other e))

          by_target : (o : Option Row) → target_entry s.history.rows it.place.nav s.history.current ≡ o → holds (λ (row : Row). holds (same_entry row.entry) it.place.given) o ≡ true → holds (λ (row : Row). row.state.0 == d.state.0) o ≡ true
          by_target None e is = absurd cc
          by_target (Some row) e is =
              let its : IsTarget s.history.rows it.place.nav s.history.current row = target_has s.history.rows it.place.nav s.history.current row e in
              ap (λ (x : StateId). x.0 == d.state.0) (homes.state it.place.nav it.place doc it.found it.wakes row d its.there its.nav_is (given_is row.entry it.place.given is) found)
              ∙ nat_eq_refl d.state.0

          by_here : (has_row it.place.nav s.history.rows ≡ false) ⊎ IsHere s it.place → stays_at s.history.rows s.history.current d ≡ true
          by_here (inl none) =
              let never : true ≡ false = sym placed ∙ ap (λ (n : NavId). has_row n s.history.rows) it.nav_is ∙ none in
              absurd cc
          by_here (inr here) =
              ap (λ (n : NavId). stays_in s.history.rows s.history.current n d.state) it.nav_is
              ∙ and_from (is_shown s.history.rows s.history.current it.place.nav) (targets_state s.history.rows s.history.current it.place.nav d.state) here.shown (by_target (target_entry s.history.rows it.place.nav s.history.current) refl here.target)

-- ---- they are asked

-- the document of each question that is due is asked
pub record AsksDue (s : Seen) (what : Request) (goal : Option Step) (jobs : List Job) : Type 0 where
  pub each : (question : Question) → Has (due_questions s what goal) question → is_among jobs question.0 ≡ true

-- so it is where the orders are to the documents of those
pub asks_due : (s : Seen) (what : Request) (goal : Option Step) (jobs : List Job) → map (λ (job : Job). job.doc) jobs ≡ map (λ (question : Question). question.0) (due_questions s what goal) → AsksDue s what goal jobs
asks_due s what goal jobs same =
    record { each = λ question due. among jobs question.0 (subst (λ (l : List DocId). Has l question.0) (sym same) (into_map (λ (x : Question). x.0) (due_questions s what goal) question due)) }
  where
    among : (l : List Job) (doc : DocId) → Has (map (λ (job : Job). job.doc) l) doc → is_among l doc ≡ true
    among [] doc never = absurd never
    among (job ∷ l) doc (inl its) = ap (λ (b : Bool). b || is_among l doc) (ap (λ (x : DocId). x.0 == doc.0) its ∙ nat_eq_refl doc.0)
    among (job ∷ l) doc (inr more) = either (job.doc.0 == doc.0) (is_among l doc) (among l doc more)
      where
        either : (a b : Bool) → b ≡ true → (a || b) ≡ true
        either true b is = refl
        either false b is = is

with_has : (p : Place) (places : List Place) (x : Place) → (p ≡ x) ⊎ Has places x → Has (walk_with p places) x
with_has p [] x (inl same) = inl same
with_has p [] x (inr never) = absurd never
with_has p (first ∷ places) x has = by_test (is_way_before (way_from_top p) (way_from_top first)) has (with_has p places x)
  where
    by_test : (b : Bool) → (p ≡ x) ⊎ Has (first ∷ places) x → ((p ≡ x) ⊎ Has places x → Has (walk_with p places) x) → Has (cond b (p ∷ first ∷ places) (first ∷ walk_with p places)) x
    by_test true h more = h
    by_test false (inl same) more = inr (more (inl same))
    by_test false (inr (inl same)) more = inl same
    by_test false (inr (inr rest)) more = inr (more (inr rest))

-- the walk goes through all places
walk_has : (places : List Place) (x : Place) → Has places x → Has (walk_of places) x
walk_has [] x never = absurd never
walk_has (p ∷ places) x (inl same) = with_has p (walk_of places) x (inl same)
walk_has (p ∷ places) x (inr more) = with_has p (walk_of places) x (inr (walk_has places x more))

given_has : {A : Type 0} {B : Type 0} (f : A → Option B) (xs : List A) (x : A) (y : B) → Has xs x → f x ≡ Some y → Has (filter_map f xs) y
given_has f [] x y never e = absurd never
given_has {A} {B} f (first ∷ xs) x y (inl same) e =
    let here : f first ≡ Some y = ap f same ∙ e in
    let list : filter_map f (first ∷ xs) ≡ y ∷ filter_map f xs = rw here refl in
    subst (λ (l : List B). Has l y) (sym list) (inl refl)
given_has {A} {B} f (first ∷ xs) x y (inr more) e = by_first (f first) refl (given_has f xs x y more e)
  where
    by_first : (o : Option B) → f first ≡ o → Has (filter_map f xs) y → Has (filter_map f (first ∷ xs)) y
    by_first None at rest =
        let list : filter_map f (first ∷ xs) ≡ filter_map f xs = rw at refl in
        subst (λ (l : List B). Has l y) (sym list) rest
    by_first (Some z) at rest =
        let list : filter_map f (first ∷ xs) ≡ z ∷ filter_map f xs = rw at refl in
        subst (λ (l : List B). Has l y) (sym list) (inr rest)

module _ (s : Seen) (sound : IsSound s.history) (hangs : Hangs s) (homes : AreHomed s) where
  -- the document of an awake navigable that is left, and has a handler, is asked
  left_among : (what : Request) (goal : Option Step) (jobs : List Job) → AsksDue s what goal jobs → (doc : DocId) (d : Document) → document_of s doc ≡ Some d → (it : IsWake s doc d) → is_some d.slot ≡ true → is_leaving s what goal it.place d ≡ true → is_among jobs doc ≡ true
  left_among what goal jobs asks doc d found it handles leaves = by_slot d.slot refl handles
    where
      number : d.nr ≡ doc
      number = doc_is d.nr doc (find_has (λ (x : Document). x.nr.0 == doc.0) s.documents d found).1

      shows : awake_document it.place ≡ Some doc
      shows = ap (λ (status : Status). awake_document (record it.place { status = status })) it.wakes

      by_slot : (o : Option ℕ) → d.slot ≡ o → is_some o ≡ true → is_among jobs doc ≡ true
      by_slot None e never = absurd cc
      by_slot (Some slot) e is =
          let question : question_for s what goal it.place ≡ Some (d.nr, slot, leave_cause what) = rw shows (rw found (rw leaves (rw e refl))) in
          ap (λ (x : DocId). is_among jobs x) (sym number)
          ∙ asks.each (d.nr, slot, leave_cause what) (given_has (question_for s what goal) (walk_of s.places) it.place (d.nr, slot, leave_cause what) (walk_has s.places it.place it.there) question)

  -- by a traversal
  pub leavers_due : (what : Request) (goal : Step) (jobs : List Job) → is_traversal what ≡ true → AsksDue s what (Some goal) jobs → LeaversAmong s goal jobs
  leavers_due what goal jobs traverses asks =
      record { each = λ doc d has found placed handles leaves. (let it = wake_of s sound hangs homes doc d has found in left_among what (Some goal) jobs asks doc d found it handles (leaving what traverses it.place d (sym (stays_used s.history.rows goal.0 it.place.nav d.state) ∙ ap (λ (n : NavId). stays_in s.history.rows (used_step_at s.history.rows goal.0) n d.state) (sym it.nav_is) ∙ leaves))) }
    where
      leaving : (w : Request) → is_traversal w ≡ true → (place : Place) (d : Document) → stays_in s.history.rows goal.0 place.nav d.state ≡ false → is_leaving s w (Some goal) place d ≡ true
      leaving (requests.Go delta) goes place d leaves = ap not leaves
      leaving (requests.Poke nav action) goes place d leaves = ap not leaves
      leaving (requests.Load nav mode address) never place d leaves = absurd cc
      leaving (requests.Reload nav) never place d leaves = absurd cc

  -- by a load or a reload
  pub below_due : (what : Request) (nav : NavId) (goal : Option Step) (jobs : List Job) → leaves_nav what ≡ Some nav → AsksDue s what goal jobs → BelowAmong s nav jobs
  below_due what nav goal jobs leaves asks =
      record {
        each = λ doc d has found handles place at below. (let it = wake_of s sound hangs homes doc d has found in left_among what goal jobs asks doc d found it handles (leaving what leaves it.place d (ap (λ (p : Place). has_nav (way_of p) nav) (here d it.place place it.nav_is it.found at) ∙ below)));
      }
    where
      here : (d : Document) (p place : Place) → d.nav ≡ p.nav → place_of s p.nav ≡ Some p → place_of s d.nav ≡ Some place → p ≡ place
      here d p place same there at =
          let two : Some p ≡ Some place = sym there ∙ ap (λ (n : NavId). place_of s n) (sym same) ∙ at in cc

      leaving : (w : Request) → leaves_nav w ≡ Some nav → (place : Place) (d : Document) → has_nav (way_of place) nav ≡ true → is_leaving s w goal place d ≡ true
      leaving (requests.Load n mode address) its place d below =
          (let same : n ≡ nav = cc in ap (λ (x : NavId). has_nav (way_of place) x) same ∙ below)
      leaving (requests.Reload n) its place d below =
          (let same : n ≡ nav = cc in ap (λ (x : NavId). has_nav (way_of place) x) same ∙ below)
      leaving (requests.Go delta) never place d below = absurd cc
      leaving (requests.Poke n action) never place d below = absurd cc

-- ---- those who are awake are made

-- each document on which a navigable is awake is made
pub awake_ready : (s : Seen) → IsSound s.history → Hangs s → AreHomed s → (doc : DocId) → has_doc (awake_documents s) doc ≡ true → holds (λ (d : Document). d.is_ready) (document_of s doc) ≡ true
awake_ready s sound hangs homes doc has =
    let it : IsWakeIn s.places doc = wake_in s.places doc has in
    let at : place_of s it.place.nav ≡ Some it.place = each_found s.places (places_distinct s sound hangs) it.i it.place it.at in
    let home : IsAtHome s.documents it.place.nav doc = (homes.homed it.place.nav it.place doc at it.wakes).home in
    ap (λ (o : Option Document). holds (λ (d : Document). d.is_ready) o) home.found ∙ home.ready
