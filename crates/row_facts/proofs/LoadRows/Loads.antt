-- A load is applied, wherever in its event it is: a push of a new entry, or a replace of the given one.
use Rattle.row_facts.specs.LoadRows.Loaded.{AreDocumentsNumbered, IsLoadToApply}
use Rattle.log_model.proofs.Refl.{same_change_refl}
use Rattle.log_model.specs.ActsAtOnce.{has_document, is_applied_in_time}
use Rattle.log_model.specs.Events.{Point}
use Rattle.log_model.specs.Once.{change_of_load, due_change, is_in_order, is_later_entry, next_entry_of}
use Rattle.log_model.specs.Orders.{is_usable}
use Rattle.log_model.specs.Queue.{is_jump, is_load_step, is_traversed_duly}
use Rattle.log_model.specs.Seen.{Asked, Document, Place, Seen, document_of, place_of}
use Rattle.log_model.specs.declared.change.Change.{Change}
use Rattle.log_model.specs.declared.request.Mode.{Mode}
use Rattle.log_model.specs.declared.row_kind.Actor.{Actor}
use Rattle.log_model.specs.declared.row_kind.LogRow.{LogRow}
use Rattle.seen_laws.proofs.Applyings.{applied_row}
use Rattle.seen_laws.proofs.Sendings.{both, led_follows}
use Rattle.seen_laws.specs.Blocks.{Here, MayLog, Passes, point_at}
use Rattle.seen_laws.specs.InEvent.{Anything}
use Rattle.seen_laws.specs.Sending.{is_led}
use Rattle.std.proofs.Common.{Bool, List, None, Option, Some, [], arith, cond, false, not, refl, subst, true, ℕ, ◌==◌, ◌||◌, ◌∷◌, ◌≡◌}
use Rattle.std.proofs.lemmas.Bool.{and_parts, or_right}
use Rattle.std.proofs.lemmas.Bool.Decides.{nat_tests}
use Rattle.std.specs.List.{list_all, list_any}
use Rattle.std.specs.Prelude.{find, nat_lt, option_and_then, option_map}
use Rattle.tab_ids.specs.declared.DocId.{DocId}
use Rattle.tab_ids.specs.declared.EntryId.{EntryId}
use Rattle.tab_ids.specs.declared.NavId.{NavId}
use Rattle.tab_ids.specs.declared.ReqId.{ReqId}
use Rattle.tab_ids.specs.declared.StateId.{StateId}
use Rattle.log_model.specs.declared.change.Change.TheVariants as changes

-- the change of a load is a push or a replace, of the navigable and the coordinator's next entry
abbrev pub IsOfLoad : Seen → NavId → List ℕ → Change → Type 0
IsOfLoad s nav address (changes.Push n entry state a memo) = (n ≡ nav) × (entry ≡ next_entry_of s) × (a ≡ address)
IsOfLoad s nav address (changes.Replace n over entry state a memo) = (n ≡ nav) × (entry ≡ next_entry_of s) × (a ≡ address)
IsOfLoad s nav address _ = ⊥

some_same : {A : Type 0} {a b : A} → (let o : Option A = Some a in o) ≡ Some b → a ≡ b
some_same is = cc

pub change_is : (s : Seen) (q : Asked) (nav : NavId) (address : List ℕ) (change : Change) → change_of_load s q nav address ≡ Some change → IsOfLoad s nav address change
change_is s q nav address change due = by_tests q.replaces q.state (option_and_then (λ (place : Place). place.given) (place_of s nav)) due
  where
    by_tests : (b : Bool) (state : Option StateId) (given : Option EntryId) → cond b (option_and_then (λ state. option_map (λ over. changes.Replace nav over (next_entry_of s) state address None) given) state) (option_map (λ state. changes.Push nav (next_entry_of s) state address None) state) ≡ Some change → IsOfLoad s nav address change
    by_tests true None given is = cc
    by_tests true (Some state) None is = cc
    by_tests true (Some state) (Some over) is = subst (IsOfLoad s nav address) (some_same is) (refl, refl, refl)
    by_tests false None given is = cc
    by_tests false (Some state) given is = subst (IsOfLoad s nav address) (some_same is) (refl, refl, refl)

-- what is found passes the other test, too
found_any : {A : Type 0} (test other : A → Bool) (xs : List A) (x : A) → find test xs ≡ Some x → other x ≡ true → list_any other xs ≡ true
found_any test other [] x at is = cc
found_any {A} test other (y ∷ xs) x at is = by_test (test y) (λ a. found_any test other xs x a is) at
  where
    by_test : (b : Bool) → (find test xs ≡ Some x → list_any other xs ≡ true) → cond b (Some y) (find test xs) ≡ Some x → (other y || list_any other xs) ≡ true
    by_test true more a = rw (some_same a) (rw is refl)
    by_test false more a = or_right (other y) _ (more a)

-- it ends no traversal
no_traverse : (p : Point) (s : Seen) (nav : NavId) (address : List ℕ) (change : Change) → IsOfLoad s nav address change → is_traversed_duly p change ≡ true
no_traverse p s nav address (changes.Push n entry state a memo) is = refl
no_traverse p s nav address (changes.Replace n over entry state a memo) is = refl
no_traverse p s nav address _ is = elim is [ ]

-- an entry of the coordinator's own comes after no document's
later_than : (documents : List Document) (entry : EntryId) → entry.maker ≡ 0 → list_all (λ (d : Document). nat_lt 0 d.nr.0) documents ≡ true → list_all (λ (d : Document). not (d.nr.0 == entry.maker) || nat_lt d.last_applied entry.nr) documents ≡ true
later_than [] entry own numbered = refl
later_than (d ∷ documents) entry own numbered =
    let parts = and_parts (nat_lt 0 d.nr.0) (list_all (λ (d : Document). nat_lt 0 d.nr.0) documents) numbered in
    let apart : (d.nr.0 == entry.maker) ≡ false = grind (arith, nat_tests, own, parts.0) in
    both (rw apart refl) (later_than documents entry own parts.1)

pub load_in_order : (s : Seen) (q : Asked) (nav : NavId) (address : List ℕ) (change : Change) → AreDocumentsNumbered s → change_of_load s q nav address ≡ Some change → is_in_order s change ≡ true
load_in_order s q nav address change numbered due = by_change change (change_is s q nav address change due)
  where
    own : (entry : EntryId) → entry ≡ next_entry_of s → is_later_entry s entry ≡ true
    own entry is = later_than s.documents entry (rw is refl) numbered

    by_change : (c : Change) → IsOfLoad s nav address c → is_in_order s c ≡ true
    by_change (changes.Push n entry state a memo) is = own entry is.1
    by_change (changes.Replace n over entry state a memo) is = own entry is.1
    by_change _ is = elim is [ ]

-- a document that is there is the load's, where it was made for its state
pub load_ready : (s : Seen) (q : Asked) (state : StateId) (doc : DocId) (d : Document) → q.state ≡ Some state → document_of s doc ≡ Some d → is_usable d state ≡ true → has_document s q ≡ true
load_ready s q state doc d its found usable = rw its (any_found s.documents found)
  where
    any_found : (documents : List Document) → find (λ (x : Document). x.nr.0 == doc.0) documents ≡ Some d → list_any (λ (x : Document). is_usable x state) documents ≡ true
    any_found documents at = found_any (λ (x : Document). x.nr.0 == doc.0) (λ (x : Document). is_usable x state) documents d at usable

pub load_may : (h : Here) (event : ℕ) (actor : Actor) (req : ReqId) (nav : NavId) (mode : Mode) (address : List ℕ) (q : Asked) (change : Change) → is_led h.done ≡ true → IsLoadToApply h.now req nav mode address q change → MayLog h (applied_row event actor req change ∷ []) Anything
load_may h event actor req nav mode address q change led is later rest = (passes, tt)
  where
    p : Point
    p = point_at h later

    row : LogRow
    row = applied_row event actor req change

    its : due_change h.now q ≡ Some change
    its = rw is.started (rw is.what is.due)

    traversed : is_traversed_duly p change ≡ true
    traversed = no_traverse p h.now nav address change (change_is h.now q nav address change is.due)

    jump : is_jump h.now q ≡ true
    jump = rw is.unmade refl

    step : is_load_step h.now q ≡ true
    step = rw (is.started, is.what) (rw (is.free, is.shown) refl)

    in_time : is_applied_in_time p row q ≡ true
    in_time = rw (is.started, is.what) (rw (is.ready, is.unmade) refl)

    passes : Passes h.header p row
    passes =
        record {
          formed = both (led_follows h.done p row refl led refl) (rw is.at refl);
          once = rw is.at (rw is.open_ (both (both is.fit (rw its (same_change_refl change))) is.in_order));
          caused = refl;
          queued = both (both (rw is.unparked refl) traversed) (rw is.at (both jump step));
          ordered = refl;
          checked = is.passed;
          in_time = rw is.at in_time;
          suits = refl;
        }
