-- What leaves places, history, the queue and the kept documents as they are, and of documents and requests what is read between two events, leaves a tab as one is between two events.
use Rattle.seen_facts.proofs.Asked.Running.{running_is}
use Rattle.seen_facts.specs.Asked.Asking.{HavePassed, IsAskedPlainly, IsTabRequest}
use Rattle.tab_facts.specs.Calm.Loads.{LoadsHaveDocuments}
use Rattle.seen_facts.specs.Coord.Flowing.{Flows}
use Rattle.seen_facts.proofs.Each.Runs.{at_place}
use Rattle.seen_facts.specs.Each.Runs.{EachAsked}
use Rattle.seen_facts.proofs.Hang.Members.{into_map}
use Rattle.seen_facts.specs.Hang.Members.{Has}
use Rattle.seen_facts.specs.LoadEnds.Standing.{LoadsStand, is_reached}
use Rattle.log_model.specs.ActsAtOnce.{ends_stepped, ends_told, has_no_step_waiting, has_reason_to_run, is_ready_load, is_told}
use Rattle.log_model.specs.Equal.{holds, implies, same_pair}
use Rattle.log_model.specs.History.{History, has_nav, has_row, has_state, used_step_at}
use Rattle.log_model.specs.Orders.{is_being_made, is_usable}
use Rattle.log_model.specs.Places.{aim_of, all_stand, all_stand_in, awake_document, due_pair, has_passed_with, is_awake, is_gone, is_lost_in, is_moved_in, is_ongoing_load, is_shown, is_standing, way_of, is_reload, is_traversal, is_under_way, pair_in, passed_in, passed_traversal, running_in, told_pair}
use Rattle.log_model.specs.Points.{nav_of_request}
use Rattle.log_model.specs.Queue.{is_queue_free, is_step_under_way}
use Rattle.log_model.specs.Seen.{Asked, Document, Place, Seen, document_of, place_in, place_of, request_in}
use Rattle.log_model.specs.declared.request.Request.{Request}
use Rattle.seen_facts.proofs.Rest.Again.{WasOf, was_of}
use Rattle.seen_facts.proofs.Rest.Stands.{all_requests}
use Rattle.seen_facts.specs.Rest.Between.{HasLoadDocument, IsOfLoad}
use Rattle.row_facts.specs.RestRows.Moving.{AllRest}
use Rattle.seen_laws.proofs.Keyed.{find_map}
use Rattle.seen_laws.proofs.Sendings.{both}
use Rattle.std.proofs.Common.{Bool, List, None, Option, Some, [], ap, cond, false, inl, inr, length, not, refl, subst, suc, sym, true, zero, ℕ, ◌&&◌, ◌+◌, ◌-◌, ◌==◌, ◌||◌, ◌∙◌, ◌∷◌, ◌≡◌, ◌≤◌, ◌⊎◌}
use Rattle.std.proofs.lemmas.Bool.{and_parts}
use Rattle.std.specs.List.{list_all, list_any}
use Rattle.std.specs.Option.{option_map_or}
use Rattle.std.specs.Prelude.{find, is_none, is_some, map, option_and_then, option_map, slice_get}
use Rattle.tab_facts.proofs.TabEvents.Requests.{AreLeft, IsSo, lean, left_then}
use Rattle.tab_facts.specs.TabEvents.Between.{AreSwept, IsBetweenChecks, orders_go}
use Rattle.tab_ids.specs.declared.DocId.{DocId}
use Rattle.tab_ids.specs.declared.NavId.{NavId}
use Rattle.tab_ids.specs.declared.ReqId.{ReqId}
use Rattle.tab_ids.specs.declared.StateId.{StateId}
use Rattle.tab_facts.specs.TabWhole.Tab.{IsTab}
use Rattle.seen_facts.specs.Walk.Serving.{AreServed, IsMaking, IsServed}
use Rattle.log_model.specs.declared.request.Request.TheVariants as requests

-- ---- lists

all_alike : {A : Type 0} (f g : A → Bool) (xs : List A) → ((x : A) → f x ≡ g x) → list_all f xs ≡ list_all g xs
all_alike f g [] same = refl
all_alike f g (x ∷ xs) same = rw (same x) (ap (λ (b : Bool). g x && b) (all_alike f g xs same))

-- whether one of the changed items passes
any_map : {A : Type 0} (g : A → A) (test : A → Bool) (xs : List A) → ((x : A) → test (g x) ≡ test x) → list_any test (map g xs) ≡ list_any test xs
any_map g test [] same = refl
any_map g test (x ∷ xs) same = rw (same x) (ap (λ (b : Bool). test x || b) (any_map g test xs same))

-- the first that passes one of two tests that say the same of each
found_alike : {A : Type 0} (f g : A → Bool) (xs : List A) → ((i : ℕ) (x : A) → slice_get xs i ≡ Some x → f x ≡ g x) → find f xs ≡ find g xs
found_alike f g [] same = refl
found_alike {A} f g (x ∷ xs) same =
    ap (λ (b : Bool). let o : Option A = cond b (Some x) (find f xs) in o) (same 0 x refl)
    ∙ ap (λ (o : Option A). cond (g x) (Some x) o) (found_alike f g xs (λ i y there. same (suc i) y there))

-- none passes where none is found
none_found : {A : Type 0} (test : A → Bool) (xs : List A) → list_all (λ (x : A). not (test x)) xs ≡ is_none (find test xs)
none_found test [] = refl
none_found {A} test (x ∷ xs) = by_test (test x) (none_found test xs)
  where
    by_test : (b : Bool) → list_all (λ (y : A). not (test y)) xs ≡ is_none (find test xs) → (not b && list_all (λ (y : A). not (test y)) xs) ≡ is_none (let o : Option A = cond b (Some x) (find test xs) in o)
    by_test true rest = refl
    by_test false rest = rest

-- where all pass, each does
of_all : {A : Type 0} (test : A → Bool) (xs : List A) (i : ℕ) (x : A) → list_all test xs ≡ true → slice_get xs i ≡ Some x → test x ≡ true
of_all test [] i x all at = absurd cc
of_all test (y ∷ xs) zero x all at = (let same : y ≡ x = cc in ap test (sym same) ∙ (and_parts (test y) (list_all test xs) all).0)
of_all test (y ∷ xs) (suc i) x all at = of_all test xs i x (and_parts (test y) (list_all test xs) all).1 at

of_requests : (asked : List Asked) (test : Asked → Bool) (req : ReqId) (q : Asked) → list_all test asked ≡ true → request_in asked req ≡ Some q → test q ≡ true
of_requests asked test req q all at = by_number (req.0 == 0) at
  where
    by_number : (b : Bool) → cond b None (slice_get asked (req.0 - 1)) ≡ Some q → test q ≡ true
    by_number true e = absurd cc
    by_number false e = of_all test asked (req.0 - 1) q all e

and_true : (b : Bool) → (b && true) ≡ b
and_true true = refl
and_true false = refl

or_false : (b : Bool) → (b || false) ≡ b
or_false true = refl
or_false false = refl

-- ---- the requests of a tab

no_reload : (what : Request) → IsTabRequest what → is_reload what ≡ false
no_reload (requests.Go delta) is = refl
no_reload (requests.Poke nav action) is = refl
no_reload (requests.Load nav mode address) is = refl
no_reload (requests.Reload nav) never = absurd never

-- each traversal that runs has passed its check
pub passed_runs : (s : Seen) → HavePassed s → passed_in (is_gone s) s.requests ≡ running_in s.requests
passed_runs s passed =
    found_alike (λ (q : Asked). is_under_way q && is_traversal q.what && has_passed_with (is_gone s) q) (λ (q : Asked). is_under_way q && is_traversal q.what) s.requests
    (λ i q at. let passes : has_passed_with (is_gone s) q ≡ true = passed (record { 0 = i + 1 }) q (at_place s.requests i ∙ at) in rw passes (and_true (is_under_way q && is_traversal q.what)))

-- and no other step is under way
pub steps_run : (asked : List Asked) → EachAsked IsAskedPlainly asked → list_all (λ (q : Asked). not (is_step_under_way q)) asked ≡ is_none (running_in asked)
steps_run asked plain =
    none_found is_step_under_way asked
    ∙ ap (λ (o : Option Asked). is_none o) (found_alike is_step_under_way (λ (q : Asked). is_under_way q && is_traversal q.what) asked
    (λ i q at. ap (λ (b : Bool). is_under_way q && (is_traversal q.what || b)) (no_reload q.what (plain (record { 0 = i + 1 }) q (at_place asked i ∙ at)).what) ∙ ap (λ (b : Bool). is_under_way q && b) (or_false (is_traversal q.what))))

-- what a test that reads of requests what stays says of two that may be there
holds_lean : (test : Asked → Bool) → ((q : Asked) → test (lean q) ≡ test q) → (o p : Option Asked) → option_map lean o ≡ option_map lean p → holds test o ≡ holds test p
holds_lean test blind o p same = sym (at o) ∙ ap (λ (x : Option Asked). holds test x) same ∙ at p
  where
    at : (x : Option Asked) → holds test (option_map lean x) ≡ holds test x
    at None = refl
    at (Some q) = blind q

some_lean : (o p : Option Asked) → option_map lean o ≡ option_map lean p → is_some o ≡ is_some p
some_lean o p same = sym (at o) ∙ ap (λ (x : Option Asked). is_some x) same ∙ at p
  where
    at : (x : Option Asked) → is_some (option_map lean x) ≡ is_some x
    at None = refl
    at (Some q) = refl

none_lean : (o p : Option Asked) → option_map lean o ≡ option_map lean p → is_none o ≡ is_none p
none_lean o p same = sym (at o) ∙ ap (λ (x : Option Asked). is_none x) same ∙ at p
  where
    at : (x : Option Asked) → is_none (option_map lean x) ≡ is_none x
    at None = refl
    at (Some q) = refl

-- the aim, by the traversal that has passed
abbrev aim_by : History → Option Asked → ℕ
aim_by h o =
    option_map_or (λ (q : Asked). option_map_or (λ goal. used_step_at h.rows goal.0) q.goal h.current) o h.current

aim_lean : (h : History) (o p : Option Asked) → option_map lean o ≡ option_map lean p → aim_by h o ≡ aim_by h p
aim_lean h o p same = sym (at o) ∙ ap (λ (x : Option Asked). aim_by h x) same ∙ at p
  where
    at : (x : Option Asked) → aim_by h (option_map lean x) ≡ aim_by h x
    at None = refl
    at (Some q) = refl

-- whether a navigable is reached, by the history, the places and the aim
abbrev is_reached_in : History → List Place → ℕ → NavId → Bool
is_reached_in h places aim nav =
    list_all (λ (n : NavId). is_shown h.rows aim n && holds (is_standing h.rows aim) (place_in places n)) (option_map_or way_of (place_in places nav) (nav ∷ []))
    && holds (λ (place : Place). not (list_any (is_lost_in places) place.above)) (place_in places nav)

-- ---- what is left

-- a change of a document that keeps what is read of it between two events
pub record KeepsRead (g : Document → Document) : Type 0 where
  pub nr : (d : Document) → (g d).nr ≡ d.nr
  pub state : (d : Document) → (g d).state ≡ d.state
  pub told : (d : Document) → (g d).told ≡ d.told
  pub ready : (d : Document) → (g d).is_ready ≡ d.is_ready
  pub frozen : (d : Document) → (g d).is_frozen ≡ d.is_frozen
  pub discarded : (d : Document) → (g d).is_discarded ≡ d.is_discarded
  pub known : (d : Document) → (g d).is_known_dead ≡ d.is_known_dead

-- none
pub keeps_all : KeepsRead (λ (d : Document). d)
keeps_all =
    record { nr = λ d. refl; state = λ d. refl; told = λ d. refl; ready = λ d. refl; frozen = λ d. refl; discarded = λ d. refl; known = λ d. refl }

-- of some documents
pub keeps_if : (test : Document → Bool) (f : Document → Document) → KeepsRead f → KeepsRead (λ (d : Document). cond (test d) (f d) d)
keeps_if test f keeps =
    record {
      nr = λ d. elim (test d) as (λ b. (let x : Document = cond b (f d) d in x).nr ≡ d.nr) [ true ↦ keeps.nr d | false ↦ refl ];
      state = λ d. elim (test d) as (λ b. (let x : Document = cond b (f d) d in x).state ≡ d.state) [ true ↦ keeps.state d | false ↦ refl ];
      told = λ d. elim (test d) as (λ b. (let x : Document = cond b (f d) d in x).told ≡ d.told) [ true ↦ keeps.told d | false ↦ refl ];
      ready = λ d. elim (test d) as (λ b. (let x : Document = cond b (f d) d in x).is_ready ≡ d.is_ready) [ true ↦ keeps.ready d | false ↦ refl ];
      frozen = λ d. elim (test d) as (λ b. (let x : Document = cond b (f d) d in x).is_frozen ≡ d.is_frozen) [ true ↦ keeps.frozen d | false ↦ refl ];
      discarded = λ d. elim (test d) as (λ b. (let x : Document = cond b (f d) d in x).is_discarded ≡ d.is_discarded) [ true ↦ keeps.discarded d | false ↦ refl ];
      known = λ d. elim (test d) as (λ b. (let x : Document = cond b (f d) d in x).is_known_dead ≡ d.is_known_dead) [ true ↦ keeps.known d | false ↦ refl ];
    }

-- two
pub keeps_both : (f g : Document → Document) → KeepsRead f → KeepsRead g → KeepsRead (λ (d : Document). g (f d))
keeps_both f g one two =
    record {
      nr = λ d. two.nr (f d) ∙ one.nr d;
      state = λ d. two.state (f d) ∙ one.state d;
      told = λ d. two.told (f d) ∙ one.told d;
      ready = λ d. two.ready (f d) ∙ one.ready d;
      frozen = λ d. two.frozen (f d) ∙ one.frozen d;
      discarded = λ d. two.discarded (f d) ∙ one.discarded d;
      known = λ d. two.known (f d) ∙ one.known d;
    }

pub map_twice : (f g : Document → Document) (xs : List Document) → map g (map f xs) ≡ map (λ (d : Document). g (f d)) xs
map_twice f g [] = refl
map_twice f g (x ∷ xs) = ap (λ (l : List Document). g (f x) ∷ l) (map_twice f g xs)

-- what a row leaves, or the rows of an event
pub record IsLeft (run : Option ReqId) (s t : Seen) : Type 0 where
  pub g : Document → Document
  pub keeps : KeepsRead g
  pub documents : t.documents ≡ map g s.documents
  pub asked : AreLeft run s.requests t.requests
  pub history : t.history ≡ s.history
  pub places : t.places ≡ s.places
  pub kept : t.kept ≡ s.kept
  pub joined : t.joined ≡ s.joined
  pub parked : t.parked ≡ s.parked
  pub orders : orders_go s ≡ true → orders_go t ≡ true

-- two rows, each of which leaves it
pub left_twice : (run : Option ReqId) (a b c : Seen) → IsLeft run a b → IsLeft run b c → IsLeft run a c
left_twice run a b c one two =
    record {
      g = λ (d : Document). two.g (one.g d);
      keeps = keeps_both one.g two.g one.keeps two.keeps;
      documents = two.documents ∙ ap (λ (l : List Document). map two.g l) one.documents ∙ map_twice one.g two.g a.documents;
      asked = left_then run a.requests b.requests c.requests one.asked two.asked;
      history = two.history ∙ one.history;
      places = two.places ∙ one.places;
      kept = two.kept ∙ one.kept;
      joined = two.joined ∙ one.joined;
      parked = two.parked ∙ one.parked;
      orders = λ go. two.orders (one.orders go);
    }

-- the same but for whether orders go on
pub record IsLeftBut (run : Option ReqId) (s t : Seen) : Type 0 where
  pub g : Document → Document
  pub keeps : KeepsRead g
  pub documents : t.documents ≡ map g s.documents
  pub asked : AreLeft run s.requests t.requests
  pub history : t.history ≡ s.history
  pub places : t.places ≡ s.places
  pub kept : t.kept ≡ s.kept
  pub joined : t.joined ≡ s.joined
  pub parked : t.parked ≡ s.parked

pub but_of : (run : Option ReqId) (s t : Seen) → IsLeft run s t → IsLeftBut run s t
but_of run s t left =
    record { g = left.g; keeps = left.keeps; documents = left.documents; asked = left.asked; history = left.history; places = left.places; kept = left.kept; joined = left.joined; parked = left.parked }

module _ (keep : ℕ) (run : Option ReqId) {loads other : List ReqId} {waits : Bool} (s t : Seen) (is : IsBetweenChecks keep run loads waits s) (tab : IsTab run other [] t) (left : IsLeftBut run s t) where
  -- ---- documents

  look : (doc : DocId) → document_of t doc ≡ option_map left.g (document_of s doc)
  look doc =
      ap (λ (l : List Document). find (λ (x : Document). x.nr.0 == doc.0) l) left.documents
      ∙ find_map (λ (x : Document). x.nr.0) left.g doc.0 s.documents (λ x. ap (λ (n : DocId). n.0) (left.keeps.nr x))

  before : (doc : DocId) (d : Document) → document_of t doc ≡ Some d → WasOf s left.g doc d
  before doc d found = was_of s t left.g left.keeps.nr left.documents doc d found

  usable : (d : Document) (state : StateId) → is_usable (left.g d) state ≡ is_usable d state
  usable d state = rw (left.keeps.state d, left.keeps.ready d, left.keeps.discarded d, left.keeps.known d) refl

  being_made : (d : Document) → is_being_made (left.g d) ≡ is_being_made d
  being_made d = rw (left.keeps.ready d, left.keeps.known d) refl

  -- ---- the running traversal, and the aim

  running_same : option_map lean (running_in t.requests) ≡ option_map lean (running_in s.requests)
  running_same =
      ap (λ (o : Option Asked). option_map lean o) (running_is run t.requests tab.asked.only)
      ∙ left.asked.runs
      ∙ sym (ap (λ (o : Option Asked). option_map lean o) (running_is run s.requests is.tab.asked.only))

  passed_same : option_map lean (passed_traversal t) ≡ option_map lean (passed_traversal s)
  passed_same =
      ap (λ (o : Option Asked). option_map lean o) (passed_runs t tab.asked.passed)
      ∙ running_same
      ∙ sym (ap (λ (o : Option Asked). option_map lean o) (passed_runs s is.tab.asked.passed))

  aim_same : aim_of t ≡ aim_of s
  aim_same =
      aim_lean t.history (passed_traversal t) (passed_traversal s) passed_same
      ∙ ap (λ (h : History). aim_by h (passed_traversal s)) left.history

  stand_same : (n : ℕ) → all_stand t n ≡ all_stand s n
  stand_same n =
      ap (λ (h : History). all_stand_in h.rows t.places n) left.history
      ∙ ap (λ (l : List Place). all_stand_in s.history.rows l n) left.places

  was_placed : (nav : NavId) (place : Place) → place_of t nav ≡ Some place → place_of s nav ≡ Some place
  was_placed nav place found = ap (λ (l : List Place). place_in l nav) (sym left.places) ∙ found

  -- ---- served and told

  served : AreServed t
  served = record { each = λ nav. record { serve = λ place found. now_ nav place found } }
    where
      making : (state : StateId) → IsMaking s.documents state → IsMaking t.documents state
      making state m =
          record {
            document = left.g m.document;
            there = subst (λ (l : List Document). Has l (left.g m.document)) (sym left.documents) (into_map left.g s.documents m.document m.there);
            state_is = left.keeps.state m.document ∙ m.state_is;
            made = being_made m.document ∙ m.made;
          }

      old : (nav : NavId) (place : Place) → place_of t nav ≡ Some place → IsServed s.history.rows s.places t.documents (aim_of s) place
      old nav place found shown reached needs target at =
          making target.state ((is.served.each nav).serve place (was_placed nav place found) shown reached needs target at)

      now_ : (nav : NavId) (place : Place) → place_of t nav ≡ Some place → IsServed t.history.rows t.places t.documents (aim_of t) place
      now_ nav place found =
          subst (λ (h : History). IsServed h.rows t.places t.documents (aim_of t) place) (sym left.history)
          (subst (λ (l : List Place). IsServed s.history.rows l t.documents (aim_of t) place) (sym left.places)
          (subst (λ (n : ℕ). IsServed s.history.rows s.places t.documents n place) (sym aim_same) (old nav place found)))

  is_told_same : (place : Place) → is_told t place ≡ is_told s place
  is_told_same place =
      ap (λ (pair : ℕ × ℕ). implies (is_awake place) (holds (same_pair pair) (told_pair t place))) due
      ∙ ap (λ (o : Option (ℕ × ℕ)). implies (is_awake place) (holds (same_pair (due_pair s place.nav)) o)) (by_document (awake_document place))
    where
      moved : is_moved_in t.requests place.nav ≡ is_moved_in s.requests place.nav
      moved =
          holds_lean (λ (q : Asked). has_nav q.moved place.nav) (λ q. refl) (running_in t.requests) (running_in s.requests) running_same

      due : due_pair t place.nav ≡ due_pair s place.nav
      due =
          ap (λ (b : Bool). pair_in t.history.rows (cond b (aim_of t) t.history.current)) moved
          ∙ ap (λ (n : ℕ). pair_in t.history.rows (cond (is_moved_in s.requests place.nav) n t.history.current)) aim_same
          ∙ ap (λ (h : History). pair_in h.rows (cond (is_moved_in s.requests place.nav) (aim_of s) h.current)) left.history

      by_told : (o : Option Document) → option_and_then (λ (d : Document). d.told) (option_map left.g o) ≡ option_and_then (λ (d : Document). d.told) o
      by_told None = refl
      by_told (Some d) = left.keeps.told d

      by_document : (o : Option DocId) → option_and_then (λ (doc : DocId). option_and_then (λ (d : Document). d.told) (document_of t doc)) o ≡ option_and_then (λ (doc : DocId). option_and_then (λ (d : Document). d.told) (document_of s doc)) o
      by_document None = refl
      by_document (Some doc) =
          ap (λ (o : Option Document). option_and_then (λ (d : Document). d.told) o) (look doc) ∙ by_told (document_of s doc)

  tells : ends_told t ≡ true
  unfolding ends_told
  tells =
      ap (λ (l : List Place). list_all (is_told t) l) left.places ∙ all_alike (is_told t) (is_told s) s.places is_told_same ∙ is.told

  -- ---- no step is put off

  reason_same : has_reason_to_run t ≡ has_reason_to_run s
  reason_same =
      ap (λ (b : Bool). implies b (not (all_stand t (aim_of t)))) (some_lean (passed_traversal t) (passed_traversal s) passed_same)
      ∙ ap (λ (n : ℕ). implies (is_some (passed_traversal s)) (not (all_stand t n))) aim_same
      ∙ ap (λ (b : Bool). implies (is_some (passed_traversal s)) (not b)) (stand_same (aim_of s))

  free_same : is_queue_free t ≡ is_queue_free s
  free_same =
      ap (λ (b : Bool). b && all_stand t t.history.current) (steps_run t.requests tab.asked.each ∙ none_lean (running_in t.requests) (running_in s.requests) running_same ∙ sym (steps_run s.requests is.tab.asked.each))
      ∙ ap (λ (b : Bool). list_all (λ (q : Asked). not (is_step_under_way q)) s.requests && b) (stand_same t.history.current ∙ ap (λ (h : History). all_stand s h.current) left.history)

  ready_same : (q : Asked) → is_ready_load t q ≡ is_ready_load s q
  ready_same q = ap (λ (b : Bool). is_ongoing_load q && b) (by_state q.state)
    where
      by_state : (o : Option StateId) → holds (λ (state : StateId). list_any (λ (d : Document). is_usable d state) t.documents) o ≡ holds (λ (state : StateId). list_any (λ (d : Document). is_usable d state) s.documents) o
      by_state None = refl
      by_state (Some state) =
          ap (λ (l : List Document). list_any (λ (d : Document). is_usable d state) l) left.documents
          ∙ any_map left.g (λ (d : Document). is_usable d state) s.documents (λ d. usable d state)

  -- no load is ready that wasn't
  none_ready : list_all (λ (q : Asked). not (is_ready_load s q)) s.requests ≡ true → list_all (λ (q : Asked). not (is_ready_load t q)) t.requests ≡ true
  none_ready none =
      all_requests t.requests (λ (q : Asked). not (is_ready_load t q)) (λ req q at. by_going req q at (is_ongoing_load q) refl)
    where
      by_going : (req : ReqId) (q : Asked) → request_in t.requests req ≡ Some q → (b : Bool) → is_ongoing_load q ≡ b → not (is_ready_load t q) ≡ true
      by_going req q at false e = rw e refl
      by_going req q at true e =
          let w : IsSo s.requests req q = left.asked.was req q at e in
          ap (λ (b : Bool). not b) (ready_same q ∙ sym (ap (λ (x : Asked). is_ready_load s x) w.same))
          ∙ of_requests s.requests (λ (x : Asked). not (is_ready_load s x)) req w.other none w.there

  stepped : waits ≡ false → ends_stepped t ≡ true
  unfolding ends_stepped
  stepped unheld =
      let parts = and_parts (has_reason_to_run s) (implies (is_queue_free s) (has_no_step_waiting s)) (is.stepped unheld) in
      both (reason_same ∙ parts.0) (by_free (is_queue_free s) free_same (is_queue_free t) refl parts.1)
    where
      by_free : (b : Bool) → is_queue_free t ≡ b → (c : Bool) → is_queue_free t ≡ c → implies b (has_no_step_waiting s) ≡ true → implies c (has_no_step_waiting t) ≡ true
      by_free b e false f waiting = refl
      by_free false e true f waiting = (let no_ : false ≡ true = sym e ∙ f in absurd cc)
      by_free true e true f waiting =
          let parts = and_parts (length s.joined == 0) (list_all (λ (q : Asked). not (is_ready_load s q)) s.requests) waiting in
          both (ap (λ (l : List ReqId). length l == 0) left.joined ∙ parts.0) (none_ready parts.1)

  -- ---- ongoing loads

  pub swept_still : AreSwept s → AreSwept t
  swept_still swept doc d found ready there = by_case (swept doc w.before w.there (sym (left.keeps.ready w.before) ∙ ap (λ (x : Document). x.is_ready) w.is ∙ ready) (sym (left.keeps.discarded w.before) ∙ ap (λ (x : Document). x.is_discarded) w.is ∙ there))
    where
      w : WasOf s left.g doc d
      w = before doc d found

      state : w.before.state ≡ d.state
      state = sym (left.keeps.state w.before) ∙ ap (λ (x : Document). x.state) w.is

      by_case : (has_state w.before.state s.history.rows ≡ true) ⊎ IsOfLoad s w.before → (has_state d.state t.history.rows ≡ true) ⊎ IsOfLoad t d
      by_case (inl has) =
          inl (ap (λ (h : History). has_state d.state h.rows) left.history ∙ ap (λ (n : StateId). has_state n s.history.rows) (sym state) ∙ has)
      by_case (inr of) =
          let so : IsSo t.requests of.req of.q = left.asked.stays of.req of.q of.found of.ongoing in
          inr (record {
            req = of.req;
            q = so.other;
            found = so.there;
            ongoing = ap is_ongoing_load so.same ∙ of.ongoing;
            own = ap (λ (x : Asked). x.state) so.same ∙ of.own ∙ ap (λ (n : StateId). Some n) state;
          })

  -- whether a navigable is reached is read of history, places and aim
  reached_same : (nav : NavId) → is_reached t nav ≡ is_reached s nav
  reached_same nav =
      ap (λ (h : History). is_reached_in h t.places (aim_of t) nav) left.history
      ∙ ap (λ (l : List Place). is_reached_in s.history l (aim_of t) nav) left.places
      ∙ ap (λ (n : ℕ). is_reached_in s.history s.places n nav) aim_same

  stands : LoadsStand t
  stands =
      all_requests t.requests (λ (q : Asked). not (is_ongoing_load q) || holds (is_reached t) (nav_of_request q.what)) (λ req q at. by_going req q at (is_ongoing_load q) refl)
    where
      by_nav : (o : Option NavId) → holds (is_reached t) o ≡ holds (is_reached s) o
      by_nav None = refl
      by_nav (Some nav) = reached_same nav

      by_going : (req : ReqId) (q : Asked) → request_in t.requests req ≡ Some q → (b : Bool) → is_ongoing_load q ≡ b → (not (is_ongoing_load q) || holds (is_reached t) (nav_of_request q.what)) ≡ true
      by_going req q at false e = rw e refl
      by_going req q at true e =
          let w : IsSo s.requests req q = left.asked.was req q at e in
          ap (λ (b : Bool). not (is_ongoing_load q) || b) (by_nav (nav_of_request q.what))
          ∙ sym (ap (λ (x : Asked). not (is_ongoing_load x) || holds (is_reached s) (nav_of_request x.what)) w.same)
          ∙ of_requests s.requests (λ (x : Asked). not (is_ongoing_load x) || holds (is_reached s) (nav_of_request x.what)) req w.other is.stands w.there

  loading : LoadsHaveDocuments t
  loading req q at on =
      let w : IsSo s.requests req q = left.asked.was req q at on in
      let has : HasLoadDocument s w.other = is.loading req w.other w.there (ap is_ongoing_load w.same ∙ on) in
      record {
        state = has.state;
        own = sym (ap (λ (x : Asked). x.state) w.same) ∙ has.own;
        doc = has.doc;
        d = left.g has.d;
        found = look has.doc ∙ ap (λ (o : Option Document). option_map left.g o) has.found;
        of_state = left.keeps.state has.d ∙ has.of_state;
        there = by_case has.d has.state has.there;
      }
    where
      by_case : (d : Document) (state : StateId) → (is_usable d state ≡ true) ⊎ (is_being_made d ≡ true) → (is_usable (left.g d) state ≡ true) ⊎ (is_being_made (left.g d) ≡ true)
      by_case d state (inl can) = inl (usable d state ∙ can)
      by_case d state (inr made) = inr (being_made d ∙ made)

  pub between_but : Flows t → AllRest t → AreSwept t ⊎ (orders_go t ≡ true) → IsBetweenChecks keep run other waits t
  between_but flows rests swept =
      record {
        tab = tab;
        flows = flows;
        served = served;
        told = tells;
        stepped = stepped;
        held = λ none. left.parked ∙ is.held none;
        rows_ = λ nav place doc found wakes. ap (λ (h : History). has_row place.nav h.rows) left.history ∙ is.rows_ nav place doc (was_placed nav place found) wakes;
        rests = rests;
        swept = swept;
        stands = stands;
        loading = loading;
        few = subst (λ (l : List DocId). length l ≤ keep) (sym left.kept) is.few;
      }

-- so where orders go on as they went
pub between_left : (keep : ℕ) (run : Option ReqId) {loads other : List ReqId} {waits : Bool} (s t : Seen) (is : IsBetweenChecks keep run loads waits s) (tab : IsTab run other [] t) (left : IsLeft run s t) → Flows t → AllRest t → IsBetweenChecks keep run other waits t
between_left keep run s t is tab left flows rests = between_but keep run s t is tab (but_of run s t left) flows rests (by_either is.swept)
  where
    by_either : AreSwept s ⊎ (orders_go s ≡ true) → AreSwept t ⊎ (orders_go t ≡ true)
    by_either (inl all) = inl (swept_still keep run s t is tab (but_of run s t left) all)
    by_either (inr go) = inr (left.orders go)
