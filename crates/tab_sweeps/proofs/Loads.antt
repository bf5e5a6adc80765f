-- Which document states are those of ongoing loads, as the log tells and as the table of loads does.
use Rattle.seen_facts.proofs.Hang.Members.{find_has, has_found}
use Rattle.seen_facts.specs.Load.Loading.{AreLoading, IsLoading, Look, is_ongoing, look, look_of}
use Rattle.load_table.specs.Loads.{ongoing_load as load_in}
use Rattle.load_table.specs.declared.load.Load.{Load}
use Rattle.seen_facts.specs.LoadTies.Tying.{HasLoad, IsLoadTied, TiesLoads}
use Rattle.log_model.proofs.Refl.{nat_eq_refl}
use Rattle.log_model.specs.Equal.{has_doc, holds}
use Rattle.log_model.specs.Once.{loads}
use Rattle.log_model.specs.Orders.{ongoing_load}
use Rattle.log_model.specs.Places.{is_ongoing_load}
use Rattle.log_model.specs.Seen.{Asked, Document, Place, Seen, awake, document_of, place_of, request_in, request_of}
use Rattle.log_model.specs.declared.request.Request.{Request}
use Rattle.seen_facts.proofs.Rest.Stands.{all_requests, get_of, request_has}
use Rattle.seen_facts.specs.Rest.Between.{IsOfLoad}
use Rattle.tab_facts.specs.Shown.Shown.{AwakeWereShown}
use Rattle.std.proofs.Common.{Bool, List, None, Option, Some, [], ap, arith, cond, false, not, refl, sym, true, ℕ, ◌&&◌, ◌+◌, ◌-◌, ◌==◌, ◌∙◌, ◌∷◌, ◌≡◌}
use Rattle.std.proofs.lemmas.Bool.Decides.{nat_tests}
use Rattle.std.proofs.lemmas.Bool.{and_parts}
use Rattle.std.specs.List.{list_all}
use Rattle.std.specs.Prelude.{find, option_map, slice_get}
use Rattle.tab_ids.specs.declared.DocId.{DocId}
use Rattle.tab_ids.specs.declared.NavId.{NavId}
use Rattle.tab_ids.specs.declared.ReqId.{ReqId}
use Rattle.tab_ids.specs.declared.StateId.{StateId}
use Rattle.tab_sweeps.specs.Sweeping.{loads_state}

-- the request is an ongoing load of the document state
abbrev pub is_load_of : StateId → Asked → Bool
is_load_of state q = is_ongoing_load q && holds (λ (own : StateId). own.0 == state.0) q.state

none_found : (test : Asked → Bool) (l : List Asked) → list_all (λ (q : Asked). not (test q)) l ≡ true → find test l ≡ None
none_found test [] none = refl
none_found test (q ∷ l) none = by_test (test q) none (none_found test l)
  where
    by_test : (b : Bool) → (let c : Bool = not b && list_all (λ (x : Asked). not (test x)) l in c) ≡ true → (list_all (λ (x : Asked). not (test x)) l ≡ true → find test l ≡ None) → (let o : Option Asked = cond b (Some q) (find test l) in o) ≡ None
    by_test true h more = absurd cc
    by_test false h more = more h

both : (a b : Bool) → a ≡ true → b ≡ true → (a && b) ≡ true
both true b e f = f
both false b e f = absurd cc

-- where no ongoing load has the state, none is found
pub unloaded_by : (s : Seen) (state : StateId) → ((req : ReqId) (q : Asked) (own : StateId) → request_in s.requests req ≡ Some q → is_ongoing_load q ≡ true → q.state ≡ Some own → own.0 ≡ state.0 → ⊥) → ongoing_load s state ≡ None
unloaded_by s state never =
    none_found (is_load_of state) s.requests (all_requests s.requests (λ (q : Asked). not (is_load_of state q)) (λ req q at. each req q at (is_ongoing_load q) refl))
  where
    by_own : (req : ReqId) (q : Asked) (own : StateId) → request_in s.requests req ≡ Some q → is_ongoing_load q ≡ true → q.state ≡ Some own → (b : Bool) → (own.0 == state.0) ≡ b → not b ≡ true
    by_own req q own at on is false e = refl
    by_own req q own at on is true e = absurd (never req q own at on is (let same : own.0 ≡ state.0 = grind (arith, nat_tests, e) in same))

    by_state : (req : ReqId) (q : Asked) → request_in s.requests req ≡ Some q → is_ongoing_load q ≡ true → (o : Option StateId) → q.state ≡ o → not (holds (λ (own : StateId). own.0 == state.0) o) ≡ true
    by_state req q at on None is = refl
    by_state req q at on (Some own) is = by_own req q own at on is (own.0 == state.0) refl

    each : (req : ReqId) (q : Asked) → request_in s.requests req ≡ Some q → (b : Bool) → is_ongoing_load q ≡ b → not (b && holds (λ (own : StateId). own.0 == state.0) q.state) ≡ true
    each req q at false on = refl
    each req q at true on = by_state req q at on q.state refl

-- where none is found, none has it
pub loaded_never : (s : Seen) (state : StateId) → ongoing_load s state ≡ None → (req : ReqId) (q : Asked) (own : StateId) → request_in s.requests req ≡ Some q → is_ongoing_load q ≡ true → q.state ≡ Some own → own.0 ≡ state.0 → ⊥
loaded_never s state none req q own at on is same =
    let number : (own.0 == state.0) ≡ true = grind (arith, nat_tests, same) in
    let passes : is_load_of state q ≡ true = both (is_ongoing_load q) (holds (λ (x : StateId). x.0 == state.0) q.state) on (ap (λ (o : Option StateId). holds (λ (x : StateId). x.0 == state.0) o) is ∙ number) in
    let found = has_found (is_load_of state) s.requests q (request_has s.requests req q at) passes in
    let never : None ≡ Some found.0 = sym none ∙ found.1 in
    cc

-- it hangs on the requests' looks alone
pub unloaded_same : (s t : Seen) → ((req : ReqId) → look_of t req ≡ look_of s req) → (state : StateId) → ongoing_load t state ≡ None → ongoing_load s state ≡ None
unloaded_same s t looks state none =
    unloaded_by s state (λ req q own at on is same. by_then req q own at on is same (request_in t.requests req) refl)
  where
    by_then : (req : ReqId) (q : Asked) (own : StateId) → request_in s.requests req ≡ Some q → is_ongoing_load q ≡ true → q.state ≡ Some own → own.0 ≡ state.0 → (o : Option Asked) → request_in t.requests req ≡ o → ⊥
    by_then req q own at on is same None then_ =
        let two : None ≡ Some (look q) = sym (ap (λ (o : Option Asked). option_map look o) then_) ∙ looks req ∙ ap (λ (o : Option Asked). option_map look o) at in cc
    by_then req q own at on is same (Some r) then_ =
        let two : Some (look r) ≡ Some (look q) = sym (ap (λ (o : Option Asked). option_map look o) then_) ∙ looks req ∙ ap (λ (o : Option Asked). option_map look o) at in
        let one : look r ≡ look q = cc in
        loaded_never t state none req r own then_ (ap is_ongoing one ∙ on) (ap (λ (l : Look). l.state) one ∙ is) same

-- ---- the table

-- the table's loads have other states
pub table_unloaded : (s : Seen) (table : List Load) → TiesLoads s table → (state : StateId) → ongoing_load s state ≡ None → (nav : NavId) (load : Load) → load_in nav table ≡ Some load → (state.0 == load.state.0) ≡ false
table_unloaded s table ties state none nav load at = by_test (state.0 == load.state.0) refl
  where
    tied : IsLoadTied s load
    tied = ties.there nav load at

    by_test : (b : Bool) → (state.0 == load.state.0) ≡ b → (state.0 == load.state.0) ≡ false
    by_test false e = e
    by_test true e =
        absurd (loaded_never s state none load.req tied.q load.state tied.found tied.ongoing tied.state (let same : load.state.0 ≡ state.0 = grind (arith, nat_tests, e) in same))

-- so has the one of the document's navigable
pub state_unloaded : (s : Seen) (table : List Load) → TiesLoads s table → (state : StateId) → ongoing_load s state ≡ None → (nav : NavId) → loads_state table nav state ≡ false
state_unloaded s table ties state none nav = by_load (load_in nav table) refl
  where
    by_load : (o : Option Load) → load_in nav table ≡ o → holds (λ (load : Load). load.state.0 == state.0) o ≡ false
    by_load None at = refl
    by_load (Some load) at =
        let apart : (state.0 == load.state.0) ≡ false = table_unloaded s table ties state none nav load at in grind (arith, nat_tests, apart)

-- a load of the table has its request's state
table_tells : (s : Seen) (table : List Load) (nav : NavId) (load : Load) (q : Asked) (own state : StateId) → load_in nav table ≡ Some load → IsLoadTied s load → request_of s load.req ≡ Some q → q.state ≡ Some own → own.0 ≡ state.0 → loads_state table nav state ≡ true
table_tells s table nav load q own state at tied found is same =
    let two : Some tied.q ≡ Some q = sym tied.found ∙ found in
    let its : tied.q ≡ q = cc in
    let states : Some load.state ≡ Some own = sym tied.state ∙ ap (λ (x : Asked). x.state) its ∙ is in
    let state_is : load.state ≡ own = cc in
    let number : load.state.0 ≡ state.0 = ap (λ (x : StateId). x.0) state_is ∙ same in
    let passes : (load.state.0 == state.0) ≡ true = grind (arith, nat_tests, number) in
    ap (λ (o : Option Load). holds (λ (l : Load). l.state.0 == state.0) o) at ∙ passes

-- where the load of the document's navigable has another state, no ongoing load has the document's
pub log_unloaded : (s : Seen) (table : List Load) → TiesLoads s table → AreLoading s → (doc : DocId) (d : Document) → document_of s doc ≡ Some d → loads_state table d.nav d.state ≡ false → ongoing_load s d.state ≡ None
log_unloaded s table ties are doc d found none = unloaded_by s d.state never
  where
    by_load : (req : ReqId) (q : Asked) (own : StateId) → request_in s.requests req ≡ Some q → q.state ≡ Some own → own.0 ≡ d.state.0 → HasLoad table d.nav req → ⊥
    by_load req q own at is same has =
        let tells : loads_state table d.nav d.state ≡ true = table_tells s table d.nav has.load q own d.state has.at (ties.there d.nav has.load has.at) (ap (λ (r : ReqId). request_of s r) has.req_is ∙ at) is same in
        let no_ : true ≡ false = sym tells ∙ none in
        cc

    by_loading : (req : ReqId) (q : Asked) (own : StateId) → request_in s.requests req ≡ Some q → is_ongoing_load q ≡ true → q.state ≡ Some own → own.0 ≡ d.state.0 → IsLoading s (look q) → ⊥
    by_loading req q own at on is same loading =
        let states : Some own ≡ Some loading.state = sym is ∙ loading.state_is in
        let one : own ≡ loading.state = cc in
        let number : d.state.0 ≡ loading.state.0 = sym same ∙ ap (λ (x : StateId). x.0) one in
        let nav_is : d.nav ≡ loading.nav = loading.whose doc d found number in
        let loads_it : loads loading.nav q.what ≡ true = ap (λ (w : Request). loads loading.nav w) loading.what ∙ nat_eq_refl loading.nav.0 in
        by_load req q own at is same (ties.all req q d.nav at on (ap (λ (n : NavId). loads n q.what) nav_is ∙ loads_it))

    never : (req : ReqId) (q : Asked) (own : StateId) → request_in s.requests req ≡ Some q → is_ongoing_load q ≡ true → q.state ≡ Some own → own.0 ≡ d.state.0 → ⊥
    never req q own at on is same =
        by_loading req q own at on is same (are.each req (look q) (ap (λ (o : Option Asked). option_map look o) at) on)

-- ---- documents

-- a document that a navigable is awake on is of no load
pub awake_unloaded : (s : Seen) → AreLoading s → AwakeWereShown s → (nav : NavId) (place : Place) (doc : DocId) (d : Document) → place_of s nav ≡ Some place → place.status ≡ awake doc → document_of s doc ≡ Some d → ongoing_load s d.state ≡ None
awake_unloaded s are were nav place doc d placed wakes found = unloaded_by s d.state never
  where
    never : (req : ReqId) (q : Asked) (own : StateId) → request_in s.requests req ≡ Some q → is_ongoing_load q ≡ true → q.state ≡ Some own → own.0 ≡ d.state.0 → ⊥
    never req q own at on is same =
        let its_look : look_of s req ≡ Some (look q) = ap (λ (o : Option Asked). option_map look o) at in
        let loading : IsLoading s (look q) = are.each req (look q) its_look on in
        let states : Some own ≡ Some loading.state = sym is ∙ loading.state_is in
        let one : own ≡ loading.state = cc in
        let number : d.state.0 ≡ loading.state.0 = sym same ∙ ap (λ (x : StateId). x.0) one in
        let unshown : has_doc place.ever_awake doc ≡ false = loading.unshown doc d found number nav place placed in
        let no_ : true ≡ false = sym (were nav place doc placed wakes) ∙ unshown in
        cc

-- the load whose state a document has is ongoing
pub of_load : (s : Seen) (d : Document) (q : Asked) → ongoing_load s d.state ≡ Some q → IsOfLoad s d
of_load s d q is =
    let its = find_has (is_load_of d.state) s.requests q is in
    let at = get_of s.requests q its.0 in
    let parts = and_parts (is_ongoing_load q) (holds (λ (own : StateId). own.0 == d.state.0) q.state) its.1 in
    record {
      req = record { 0 = at.0 + 1 };
      q = q;
      found = numbered s.requests at.0 q at.1;
      ongoing = parts.0;
      own = own_state q.state parts.1;
    }
  where
    numbered : (asked : List Asked) (i : ℕ) (x : Asked) → slice_get asked i ≡ Some x → request_in asked (record { 0 = i + 1 }) ≡ Some x
    numbered asked i x there =
        let some : ((i + 1) == 0) ≡ false = grind (arith, nat_tests) in
        let back : (i + 1) - 1 ≡ i = omega arith in
        rw some (ap (λ (n : ℕ). slice_get asked n) back ∙ there)

    own_state : (o : Option StateId) → holds (λ (own : StateId). own.0 == d.state.0) o ≡ true → o ≡ Some d.state
    own_state None has = absurd cc
    own_state (Some own) has = ap (λ (n : ℕ). let x : StateId = record { 0 = n } in Some x) (let same : own.0 ≡ d.state.0 = grind (arith, nat_tests, has) in same)
