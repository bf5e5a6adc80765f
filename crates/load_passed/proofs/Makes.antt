-- The document of a load that has passed its check is to be made: it has a document state of which no document is there or being made, and its way stands.
use Rattle.load_passed.proofs.Begun as begun
use Rattle.load_passed.specs.Passing.{InLoadPass, IsToMake, passed_load}
use Rattle.load_table.specs.Loads.{is_nav, ongoing_load}
use Rattle.load_table.specs.declared.load.Load.{Load}
use Rattle.log_model.proofs.Refl.{nat_eq_refl}
use Rattle.log_model.specs.Equal.{holds}
use Rattle.log_model.specs.History.{has_nav}
use Rattle.log_model.specs.Orders.{needs_document, ongoing_load as load_of_state}
use Rattle.log_model.specs.Places.{aim_of, has_passed, is_given_target, is_ongoing_load, is_placed, is_shown, is_standing, has_arrived}
use Rattle.log_model.specs.Seen.{Asked, Document, Place, Seen, desk_of, document_of, place_of, request_of}
use Rattle.log_model.specs.declared.header.Header.{Header}
use Rattle.log_model.specs.declared.job.Job.{Job}
use Rattle.log_model.specs.declared.job.Task.TheVariants as tasks
use Rattle.log_model.specs.declared.job.Why.TheVariants as whys
use Rattle.nav_tree.specs.Tree.{is_state}
use Rattle.row_facts.proofs.LoadRows.LoadMakes.{needs_first, ongoing_there}
use Rattle.row_facts.specs.LoadRows.LoadMaking.{IsAloneWith, IsMakeOfLoadDue}
use Rattle.row_facts.specs.RestRows.Moving.{AllRest}
use Rattle.seen_facts.proofs.Hang.Parts.{state_is as state_same}
use Rattle.seen_facts.proofs.LoadTies.Begins.{begun_own}
use Rattle.seen_facts.proofs.Rest.Still.{found_itself}
use Rattle.seen_facts.specs.Hang.Members.{Has}
use Rattle.seen_facts.specs.Load.Loading.{look}
use Rattle.seen_facts.specs.LoadEnds.Standing.{is_reached}
use Rattle.seen_facts.specs.LoadTies.Tying.{IsLoadTied, made_for}
use Rattle.seen_facts.specs.Walk.Serving.{is_in_place, is_stopping}
use Rattle.seen_laws.proofs.Keyed.{find_has as seen_number}
use Rattle.seen_laws.specs.InEvent.{now_of}
use Rattle.std.proofs.Common.{Bool, List, None, Option, Some, [], ap, arith, false, inl, inr, length, map, not, refl, subst, sym, true, ℕ, ◌&&◌, ◌+◌, ◌==◌, ◌||◌, ◌∙◌, ◌∷◌, ◌≡◌, ◌≤◌}
use Rattle.std.proofs.lemmas.Bool.Decides.{nat_tests}
use Rattle.std.proofs.lemmas.Bool.{and_parts}
use Rattle.std.proofs.lemmas.List.{length-map}
use Rattle.std.specs.List.{list_all, list_any}
use Rattle.std.specs.Map.{lookup}
use Rattle.std.specs.Prelude.{is_some, option_map}
use Rattle.tab_doors.proofs.Sights.{IsSeen, seen_of, sight_found}
use Rattle.tab_doors.specs.Keeping.{IsUnmadeLoad}
use Rattle.tab_doors.specs.Look.{Sight, is_made_for, sight, sight_in}
use Rattle.tab_doors.specs.Orders.{next_order}
use Rattle.tab_doors.specs.Ties.{IsListed, IsOneSuch}
use Rattle.tab_doors.specs.declared.tables.Tables.{Tables}
use Rattle.tab_facts.specs.TabGoing.Going.{IsGoing}
use Rattle.tab_ids.specs.declared.DocId.{DocId}
use Rattle.tab_ids.specs.declared.NavId.{NavId}
use Rattle.tab_ids.specs.declared.ProcId.{ProcId}
use Rattle.tab_ids.specs.declared.ReqId.{ReqId}
use Rattle.tab_ids.specs.declared.StateId.{StateId}
use Rattle.tab_moves.proofs.Procs.{home_is, home_some}
use Rattle.tab_moves.specs.Making.{home_in}
use Rattle.tab_one_pass.proofs.Lives.{placed_awake}
use Rattle.tab_passes.proofs.Goings.{goes_on, is_passed_for}
use Rattle.tab_passes.proofs.SetOuts.{started_out}
use Rattle.tab_passes.specs.Causes.{HasSetOut, MayCause, MayServe}
use Rattle.tab_passes.specs.Passing.{IsPassing}
use Rattle.tab_stands.proofs.PassedOn.{IsReachedAt, reached_at}
use Rattle.unasked.proofs.Passings.{begun_as}
use Rattle.unasked_tab.proofs.Begun.{with_begun}

all_of : {A : Type 0} (f : A → Bool) (xs : List A) → ((x : A) → Has xs x → f x ≡ true) → list_all f xs ≡ true
all_of f [] each = refl
all_of f (x ∷ xs) each = rw (each x (inl refl)) (all_of f xs (λ y there. each y (inr there)))

-- two numbers aren't the same and apart
never_apart : {A : Type 0} (a b : ℕ) → a ≡ b → (a == b) ≡ false → A
never_apart a b number apart_ = absurd (grind (arith, nat_tests, number, apart_))

either : (a : Bool) {b : Bool} → b ≡ true → (a || b) ≡ true
either true is = refl
either false is = is

neither : (a : Bool) → (a && false) ≡ false
neither true = refl
neither false = refl

-- a test that none of these passes
none_of : (f : NavId → Bool) (navs : List NavId) → ((nav : NavId) → has_nav navs nav ≡ true → f nav ≡ false) → list_any f navs ≡ false
none_of f [] each = refl
none_of f (nav ∷ navs) each =
    rw (each nav (ap (λ (b : Bool). b || has_nav navs nav) (nat_eq_refl nav.0))) (none_of f navs (λ x has. each x (either (nav.0 == x.0) has)))

module _ (l : InLoadPass) (u : Tables) (it : IsToMake l u) where
  abbrev s : Seen
  s = l.before

  -- the log without questions, with the load begun
  abbrev pub m : Seen
  m = now_of l.event []

  abbrev then_ : Seen
  then_ = with_begun l.before l.req it.q

  abbrev own_then : Asked
  own_then = begun_as it.q it.p

  -- so it is there
  pub at_now : (P : Seen → Type 0) → P (with_begun l.before l.req it.q) → P (now_of l.event [])
  at_now P is = subst P (sym it.now) is

  pub run_same : u.running ≡ it.t.running
  run_same = ap (λ (x : Tables). x.running) it.tables

  pub passing_now : IsPassing (record { event = l.event; loads = l.loads; hand = [] }) [] u
  passing_now =
      record {
        work = it.work;
        going = at_now (λ (x : Seen). IsGoing u.running l.loads [] x) (subst (λ (r : Option ReqId). IsGoing r l.loads [] then_) (sym run_same) (begun.going_then l it.loads l.before it.t it.p it.unbegun it.q it.starts it.state_is it.replaces));
        owed = it.owed;
        loose = it.loose;
        rests = at_now (λ (x : Seen). AllRest x) it.beside.rests;
        few = at_now (λ (x : Seen). length x.kept ≤ u.kept.keep) (subst (λ (k : ℕ). length s.kept ≤ k) (sym (ap (λ (x : Tables). x.kept.keep) it.tables)) it.beside.few);
        duly = it.duly;
      }

  pub found_then : request_of (now_of l.event []) l.req ≡ Some (begun_as it.q it.p)
  found_then =
      ap (λ (x : Seen). request_of x l.req) it.now ∙ begun.there l it.loads l.before it.t it.p it.unbegun it.q it.starts it.state_is it.replaces

  pub documents_same : (now_of l.event []).documents ≡ l.before.documents
  documents_same = ap (λ (x : Seen). x.documents) it.now

  -- ---- its way stands

  pub its : IsReachedAt (now_of l.event []) l.nav
  its =
      reached_at m l.nav (at_now (λ (x : Seen). is_reached x l.nav ≡ true) (begun.reached_then l it.loads l.before it.t it.p it.unbegun it.q it.starts it.state_is it.replaces))

  -- nobody above stops the walk
  pub unstopped : list_any (is_stopping m.history.rows (aim_of m) m.places) its.place.above ≡ false
  unstopped = none_of (is_stopping m.history.rows (aim_of m) m.places) its.place.above goes_on_
    where
      goes_on_ : (x : NavId) → has_nav its.place.above x ≡ true → is_stopping m.history.rows (aim_of m) m.places x ≡ false
      goes_on_ x has = by_place (place_of m x) refl
        where
          stands_ : is_placed m (aim_of m) x ≡ true
          stands_ = its.each x (either (l.nav.0 == x.0) has)

          by_place : (o : Option Place) → place_of m x ≡ o → is_stopping m.history.rows (aim_of m) m.places x ≡ false
          by_place None at =
              let off : is_placed m (aim_of m) x ≡ false = ap (λ (o : Option Place). is_shown m.history.rows (aim_of m) x && holds (is_standing m.history.rows (aim_of m)) o) at ∙ neither (is_shown m.history.rows (aim_of m) x) in
              let never : true ≡ false = sym stands_ ∙ off in absurd cc
          by_place (Some place) at =
              let wakes = placed_awake u.running l.loads [] m passing_now.going.tab x place at stands_ in
              let stand : is_standing m.history.rows (aim_of m) place ≡ true = sym (ap (λ (o : Option Place). holds (is_standing m.history.rows (aim_of m)) o) at) ∙ (and_parts (is_shown m.history.rows (aim_of m) x) (holds (is_standing m.history.rows (aim_of m)) (place_of m x)) stands_).1 in
              let target_ : is_given_target m.history.rows (aim_of m) place ≡ true = (and_parts (is_given_target m.history.rows (aim_of m) place) (not place.is_unmet) (and_parts (is_given_target m.history.rows (aim_of m) place && not place.is_unmet) (has_arrived place) stand).0).0 in
              ap (λ (o : Option Place). not (holds (is_in_place m.history.rows (aim_of m)) o)) at ∙ rw wakes.1 (rw target_ refl)

  pub home_there : (header : Header) (address : List ℕ) → is_some (home_in header u l.nav address) ≡ true
  home_there header address =
      home_some (record { event = l.event; loads = l.loads; hand = [] }) [] u passing_now l.nav its.place its.placed unstopped header address

  -- ---- no document has its document state

  pub none_has : (doc : DocId) (d : Document) → document_of (now_of l.event []) doc ≡ Some d → (d.state.0 == l.state.0) ≡ false
  none_has doc d found =
      begun.none_has l it.loads l.before it.t it.p it.unbegun it.q it.starts it.state_is it.replaces doc d (ap (λ (x : Seen). document_of x doc) (sym it.now) ∙ found)

  -- each document is found by its number
  pub by_number : (d : Document) → Has (now_of l.event []).documents d → document_of (now_of l.event []) d.nr ≡ Some d
  by_number d there_ = found_itself m.documents d passing_now.going.tab.whose.numbered there_

  pub unmade_now : made_for (now_of l.event []).documents l.state ≡ None
  unmade_now =
      at_now (λ (x : Seen). made_for x.documents l.state ≡ None) (begun.unmade l it.loads l.before it.t it.p it.unbegun it.q it.starts it.state_is it.replaces)

  needs_one : needs_document m l.nav l.state ≡ true
  needs_one =
      needs_first m l.nav l.state (all_of (λ (d : Document). not (d.state.0 == l.state.0)) m.documents (λ d there_. ap not (none_has d.nr d (by_number d there_))))

  pub unmaking : lookup (is_state l.state) u.making.entries ≡ None
  unmaking = by_doc (lookup (is_state l.state) u.making.entries) refl
    where
      by_doc : (o : Option DocId) → lookup (is_state l.state) u.making.entries ≡ o → lookup (is_state l.state) u.making.entries ≡ None
      by_doc None is = is
      by_doc (Some doc) is =
          let one : IsOneSuch (is_made_for l.state) (map sight m.documents) doc = subst (λ (o : Option DocId). IsListed (is_made_for l.state) (map sight m.documents) o) is (it.work.holds.documents.made l.state) in
          let seen : IsSeen m doc one.document = seen_of m doc one.document one.found in
          let passes : is_made_for l.state (sight seen.document) ≡ true = ap (λ (x : Sight). is_made_for l.state x) seen.is ∙ one.passes in
          let first : (seen.document.state.0 == l.state.0) ≡ true = (and_parts (seen.document.state.0 == l.state.0) (not seen.document.is_ready) (and_parts (seen.document.state.0 == l.state.0 && not seen.document.is_ready) (not seen.document.is_known_dead) passes).0).0 in
          let never : false ≡ true = sym (none_has doc seen.document seen.found) ∙ first in
          absurd cc

  -- ---- the next document

  pub next_number : u.documents ≡ length (now_of l.event []).documents
  next_number = it.work.holds.numbered ∙ length-map m.documents sight

  abbrev pub new_doc : DocId
  new_doc = record { 0 = u.documents + 1 }

  pub none_there : (d : Document) → document_of (now_of l.event []) (record { 0 = u.documents + 1 }) ≡ Some d → ⊥
  none_there d is =
      let few : d.nr.0 ≤ length m.documents = (passing_now.going.tab.entries.counted new_doc d is).number in
      let number : d.nr.0 ≡ u.documents + 1 = seen_number (λ (x : Document). x.nr.0) new_doc.0 m.documents d is in
      let count = next_number in
      omega (arith, few, number, count)

  pub absent : document_of (now_of l.event []) (record { 0 = u.documents + 1 }) ≡ None
  absent = by_found (document_of m new_doc) refl
    where
      by_found : (o : Option Document) → document_of m new_doc ≡ o → document_of m new_doc ≡ None
      by_found None is = is
      by_found (Some d) is = absurd (none_there d is)

  pub unknown : sight_in (map sight (now_of l.event []).documents) (record { 0 = u.documents + 1 }) ≡ None
  unknown = sight_found m.documents new_doc ∙ ap (option_map sight) absent

  -- ---- it is the one load of that state

  apart_number : (other : ReqId) (x : Asked) → request_of m other ≡ Some x → is_ongoing_load x ≡ true → x.state ≡ Some l.state → other.0 ≡ l.req.0
  apart_number other x at on is =
      passing_now.going.tab.loading.apart other l.req (look x) (look own_then) l.state (ap (λ (o : Option Asked). option_map look o) at) (ap (λ (o : Option Asked). option_map look o) found_then) on (begun.ongoing_own l it.loads l.before it.t it.p it.unbegun it.q it.starts it.state_is it.replaces) is it.state_is

  alone_state : IsAloneWith m l.req l.state
  alone_state other x apart_ at = by_tests (is_ongoing_load x) (x.state) refl refl
    where
      same : (k : StateId) → (k.0 == l.state.0) ≡ true → k ≡ l.state
      same k is = state_same k l.state is

      by_tests : (a : Bool) (o : Option StateId) → is_ongoing_load x ≡ a → x.state ≡ o → (a && holds (λ (k : StateId). k.0 == l.state.0) o) ≡ false
      by_tests false o on is = refl
      by_tests true None on is = refl
      by_tests true (Some k) on is = by_state (k.0 == l.state.0) refl
        where
          by_state : (b : Bool) → (k.0 == l.state.0) ≡ b → b ≡ false
          by_state false one = refl
          by_state true one =
              let number : other.0 ≡ l.req.0 = apart_number other x at on (is ∙ ap (λ (y : StateId). let r : Option StateId = Some y in r) (same k one)) in
              never_apart other.0 l.req.0 number apart_

  loads_state : load_of_state m l.state ≡ Some own_then
  loads_state =
      ongoing_there m l.req own_then l.state found_then (begun.ongoing_own l it.loads l.before it.t it.p it.unbegun it.q it.starts it.state_is it.replaces) it.state_is alone_state

  -- and the table's
  pub unmade_load : IsUnmadeLoad (now_of l.event []) u.loads l.nav l.state
  unmade_load =
      record {
        load = passed_load l;
        at = ap (λ (x : Tables). ongoing_load l.nav x.loads) it.tables ∙ begun_own (passed_load l) it.t.loads;
        state_is = refl;
        unmade = unmade_now;
        alone = alone_load;
      }
    where
      alone_load : (other : NavId) (x : Load) → ongoing_load other u.loads ≡ Some x → is_nav other l.nav ≡ false → (l.state.0 == x.state.0) ≡ false
      alone_load other x at apart_ = by_state (l.state.0 == x.state.0) refl
        where
          tied : IsLoadTied m x
          tied = it.work.loads.there other x at

          by_state : (b : Bool) → (l.state.0 == x.state.0) ≡ b → b ≡ false
          by_state false is = refl
          by_state true is =
              let same : x.req.0 ≡ l.req.0 = apart_number x.req tied.q tied.found tied.ongoing (tied.state ∙ ap (λ (k : StateId). let o : Option StateId = Some k in o) (sym (state_same l.state x.state is))) in
              absurd (begun.table_apart l it.loads l.before it.t it.p it.unbegun it.q it.starts it.state_is it.replaces other x (ap (λ (y : Tables). ongoing_load other y.loads) (sym it.tables) ∙ at) apart_ same)

  -- ---- orders may be for it

  all_passed : has_passed m own_then ≡ true
  all_passed = passing_now.going.tab.asked.passed l.req own_then found_then

  pub may_serve : MayServe (now_of l.event []) l.req
  may_serve =
      record {
        goes = goes_on m u.running passing_now.going.tab.asked l.req own_then found_then;
        begun = λ x at.
            let two : Some own_then ≡ Some x = sym found_then ∙ at in
            let one : own_then ≡ x = cc in
            subst (λ (y : Asked). HasSetOut y) one (started_out own_then it.starts);
      }

  pub causes : MayCause (now_of l.event []) (whys.Req l.req)
  causes r is = let one : l.req ≡ r = cc in subst (λ (x : ReqId). MayServe m x) one may_serve

  -- ---- the order

  module _ (proc : ProcId) (home : home_in l.event.header u l.nav l.address ≡ Some proc) where
    abbrev pub order : Job
    order =
        next_order (now_of l.event []).jobs proc (record { 0 = u.documents + 1 }) (whys.Req l.req) (tasks.Populate l.nav l.state l.address false)

    pub due_make : IsMakeOfLoadDue l.event.header (now_of l.event []) (next_order (now_of l.event []).jobs proc (record { 0 = u.documents + 1 }) (whys.Req l.req) (tasks.Populate l.nav l.state l.address false)) l.nav l.state l.address
    due_make =
        record {
          task = refl;
          next = ap (λ (k : ℕ). k + 1) next_number;
          q = own_then;
          loads = loads_state;
          mode = l.mode;
          what = it.unbegun.what;
          checked = all_passed;
          needs = needs_one;
          home = home_is (record { event = l.event; loads = l.loads; hand = [] }) [] u passing_now l.nav its.place its.placed unstopped l.event.header l.address proc home;
          passed = is_passed_for m u.running passing_now.going.tab.asked order.task order.why causes;
        }

    pub known : (desk_of (now_of l.event []) proc).known ≡ 0
    known = (passing_now.going.tab.asked.died proc).0
