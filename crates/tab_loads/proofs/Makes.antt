-- The document of a load that has begun is to be made: the load is there, with the next document state, of which no document is there or being made.
use Rattle.seen_facts.specs.Asked.Asking.{IsAskedPlainly}
use Rattle.seen_facts.proofs.Coord.Unread.{next}
use Rattle.seen_facts.proofs.Hang.Members.{find_has}
use Rattle.seen_facts.proofs.Hang.Parts.{state_is as state_same}
use Rattle.seen_facts.specs.Hang.Members.{Has}
use Rattle.seen_facts.specs.Home.Homes.{document_in}
use Rattle.load_doors.specs.Loading.{begun_load}
use Rattle.seen_facts.specs.Load.Loading.{look}
use Rattle.row_facts.proofs.LoadRows.Begins.{begun_there}
use Rattle.row_facts.proofs.LoadRows.LoadMakes.{needs_first, ongoing_there}
use Rattle.row_facts.specs.LoadRows.LoadMaking.{IsAloneWith}
use Rattle.load_table.specs.Loads.{ongoing_load}
use Rattle.load_table.specs.declared.load.Load.{Load}
use Rattle.seen_facts.proofs.LoadTies.Begins.{found_nav, none_made}
use Rattle.seen_facts.specs.LoadTies.Tying.{IsLoadTied, is_for_state, made_for}
use Rattle.log_model.proofs.Refl.{nat_eq_refl}
use Rattle.log_model.specs.AfterRequests.{request_begun}
use Rattle.log_model.specs.Equal.{holds}
use Rattle.log_model.specs.Orders.{needs_document, ongoing_load as load_of_state}
use Rattle.log_model.specs.Places.{is_ongoing_load, has_passed}
use Rattle.log_model.specs.Seen.{Asked, Document, Place, Seen, document_of, place_of, request_of}
use Rattle.log_model.specs.declared.row_kind.RowKind.{RowKind}
use Rattle.nav_tree.specs.Tree.{is_nav, is_state}
use Rattle.seen_facts.proofs.Rest.Still.{found_itself}
use Rattle.seen_laws.proofs.Keyed.{find_has as seen_number}
use Rattle.seen_laws.specs.InEvent.{now_of}
use Rattle.std.proofs.Common.{Bool, List, None, Option, Some, [], ap, arith, false, inl, inr, length, map, not, refl, subst, sym, true, ℕ, ◌&&◌, ◌++◌, ◌+◌, ◌==◌, ◌||◌, ◌∙◌, ◌∷◌, ◌≡◌, ◌≤◌}
use Rattle.std.proofs.lemmas.Bool.Decides.{nat_tests}
use Rattle.std.proofs.lemmas.Bool.{and_parts}
use Rattle.std.proofs.lemmas.List.{length-map}
use Rattle.std.specs.List.{list_all}
use Rattle.std.specs.Map.{lookup}
use Rattle.std.specs.Prelude.{option_map}
use Rattle.tab_doors.proofs.Sights.{IsSeen, seen_of, sight_found}
use Rattle.tab_doors.specs.Keeping.{IsUnmadeLoad}
use Rattle.tab_doors.specs.Look.{Sight, is_made_for, sight, sight_in}
use Rattle.tab_doors.specs.Ties.{IsListed, IsOneSuch}
use Rattle.tab_doors.specs.Working.{IsAtWork, KeepsStore}
use Rattle.tab_doors.specs.declared.tables.Tables.{Tables}
use Rattle.tab_drops.specs.Dropping.{AreUnheld}
use Rattle.tab_ids.specs.declared.DocId.{DocId}
use Rattle.tab_ids.specs.declared.NavId.{NavId}
use Rattle.tab_ids.specs.declared.ReqId.{ReqId}
use Rattle.tab_ids.specs.declared.StateId.{StateId}
use Rattle.tab_loads.proofs.Comes.{pass, place}
use Rattle.tab_loads.proofs.Firsts.{q}
use Rattle.tab_loads.proofs.Gives.{IsMadeWay}
use Rattle.tab_loads.specs.Asking.{BeginsAnew, InLoad, IsAsked}
use Rattle.tab_loads.specs.Giving.{HasMadeWay}
use Rattle.tab_loads.specs.Loading.{pass_of}
use Rattle.tab_loads.specs.Telling.{away_in}
use Rattle.tab_passes.proofs.Goings.{goes_on}
use Rattle.tab_passes.proofs.SetOuts.{started_out}
use Rattle.tab_passes.specs.Causes.{HasSetOut, MayCause, MayServe}
use Rattle.tab_passes.specs.Passing.{IsPassing}
use Rattle.log_model.specs.declared.job.Why.TheVariants as whys
use Rattle.log_model.specs.declared.request.Request.TheVariants as requests
use Rattle.log_model.specs.declared.row_kind.RowKind.TheVariants as rows
use Rattle.tab_loads.proofs.Begun as begun
use Rattle.tab_loads.proofs.Starts as starts

all_of : {A : Type 0} (f : A → Bool) (xs : List A) → ((x : A) → Has xs x → f x ≡ true) → list_all f xs ≡ true
all_of f [] each = refl
all_of f (x ∷ xs) each = rw (each x (inl refl)) (all_of f xs (λ y there. each y (inr there)))

-- two numbers aren't the same and apart
never_apart : {A : Type 0} (a b : ℕ) → a ≡ b → (a == b) ≡ false → A
never_apart a b number apart_ = absurd (grind (arith, nat_tests, number, apart_))

module _ (l : InLoad) (t : Tables) (asked : IsAsked l t) (placed_ : away_in t l.nav ≡ None) (anew_ : BeginsAnew l t) (noted : List (StateId × ReqId)) (v : Tables) (out : List RowKind) (way : HasMadeWay l.event l.req l.nav t v out l.noted noted) (w : Tables) (now : List RowKind) (work : IsAtWork l.event now w) (now_is : now ≡ out ++ rows.Started l.req None ∷ []) (keeps : KeepsStore v w) where
  abbrev s : Seen
  s = now_of l.event []

  abbrev n : Seen
  n = now_of l.event out

  abbrev own : Asked
  own = q l.event l.req l.nav l.mode l.address asked.asks

  abbrev unheld : AreUnheld l.event s
  unheld = starts.unheld l t asked placed_ anew_ noted v out way

  abbrev made : IsMadeWay l.event l.req l.nav l.mode l.address asked.asks t (pass l t asked) unheld l.noted asked.begun.taking asked.begun.theirs n out noted
  made = starts.made l t asked placed_ anew_ noted v out way

  abbrev own_place : Place
  own_place = place l t asked

  abbrev there : place_of n l.nav ≡ Some own_place
  there = starts.there l t asked placed_ anew_ noted v out way

  abbrev state : StateId
  state = record { 0 = n.states + 1 }

  abbrev no_document : (doc : DocId) (d : Document) → document_of n doc ≡ Some d → (d.state.0 == (n.states + 1)) ≡ false
  no_document = starts.no_document l t asked placed_ anew_ noted v out way

  abbrev unmade : made_for n.documents state ≡ None
  unmade = starts.unmade l t asked placed_ anew_ noted v out way

  abbrev then_ : Seen
  then_ = next n l.event.event l.event.actor (rows.Started l.req None)

  abbrev is_then : now_of l.event now ≡ then_
  is_then = begun.is_then l t asked placed_ anew_ noted v out way w now work now_is keeps

  abbrev passing_now : IsPassing (pass_of l.event l.loads) now w
  passing_now = begun.passing_now l t asked placed_ anew_ noted v out way w now work now_is keeps

  abbrev m : Seen
  m = now_of l.event now

  -- ---- it has begun, with the next document state

  abbrev pub own_then : Asked
  own_then = request_begun n (record own { is_started = true; goal = None })

  pub found_then : request_of m l.req ≡ Some own_then
  found_then = ap (λ (x : Seen). request_of x l.req) is_then ∙ begun_there n l.event.event l.event.actor l.req own made.found

  abbrev pub its_state : StateId
  its_state = record { 0 = w.states }

  pub then_states : then_.states ≡ n.states + 1
  then_states = rw made.found refl

  pub state_number : w.states ≡ n.states + 1
  state_number = work.holds.states ∙ ap (λ (x : Seen). x.states) is_then ∙ then_states

  pub state_is : own_then.state ≡ Some its_state
  state_is = ap (λ (k : ℕ). let x : StateId = record { 0 = k } in let o : Option StateId = Some x in o) (sym state_number)

  pub documents_same : m.documents ≡ n.documents
  documents_same = ap (λ (x : Seen). x.documents) is_then

  -- no document has it
  pub none_has : (doc : DocId) (d : Document) → document_of m doc ≡ Some d → (d.state.0 == w.states) ≡ false
  none_has doc d found =
      ap (λ (k : ℕ). d.state.0 == k) state_number ∙ no_document doc d (ap (λ (x : List Document). document_in x doc) (sym documents_same) ∙ found)

  -- each document is found by its number
  pub by_number : (d : Document) → Has m.documents d → document_of m d.nr ≡ Some d
  by_number d there_ = found_itself m.documents d passing_now.going.tab.whose.numbered there_

  pub unmade_now : made_for m.documents its_state ≡ None
  unmade_now = none_made m.documents its_state never
    where
      never : (d : Document) → is_for_state its_state d ≡ true → made_for m.documents its_state ≡ Some d → ⊥
      never d is found =
          let there_ = (find_has (is_for_state its_state) m.documents d found).0 in
          let no : false ≡ true = sym (none_has d.nr d (by_number d there_)) ∙ (and_parts (d.state.0 == w.states) (not (d.is_discarded || d.is_known_dead)) is).0 in
          absurd cc

  pub needs_one : needs_document m l.nav its_state ≡ true
  needs_one =
      needs_first m l.nav its_state (all_of (λ (d : Document). not (d.state.0 == w.states)) m.documents (λ d there_. ap not (none_has d.nr d (by_number d there_))))

  pub unmaking : lookup (is_state its_state) w.making.entries ≡ None
  unmaking = by_doc (lookup (is_state its_state) w.making.entries) refl
    where
      by_doc : (o : Option DocId) → lookup (is_state its_state) w.making.entries ≡ o → lookup (is_state its_state) w.making.entries ≡ None
      by_doc None is = is
      by_doc (Some doc) is =
          let one : IsOneSuch (is_made_for its_state) (map sight m.documents) doc = subst (λ (o : Option DocId). IsListed (is_made_for its_state) (map sight m.documents) o) is (work.holds.documents.made its_state) in
          let seen : IsSeen m doc one.document = seen_of m doc one.document one.found in
          let passes : is_made_for its_state (sight seen.document) ≡ true = ap (λ (x : Sight). is_made_for its_state x) seen.is ∙ one.passes in
          let first : (seen.document.state.0 == w.states) ≡ true = (and_parts (seen.document.state.0 == w.states) (not seen.document.is_ready) (and_parts (seen.document.state.0 == w.states && not seen.document.is_ready) (not seen.document.is_known_dead) passes).0).0 in
          let never : false ≡ true = sym (none_has doc seen.document seen.found) ∙ first in
          absurd cc

  -- ---- the next document

  pub next_number : w.documents ≡ length m.documents
  next_number = work.holds.numbered ∙ length-map m.documents sight

  abbrev pub new_doc : DocId
  new_doc = record { 0 = w.documents + 1 }

  pub none_there_ : (d : Document) → document_of m new_doc ≡ Some d → ⊥
  none_there_ d is =
      let few : d.nr.0 ≤ length m.documents = (passing_now.going.tab.entries.counted new_doc d is).number in
      let number : d.nr.0 ≡ w.documents + 1 = seen_number (λ (x : Document). x.nr.0) new_doc.0 m.documents d is in
      let count = next_number in
      omega (arith, few, number, count)

  pub absent : document_of m new_doc ≡ None
  absent = by_found (document_of m new_doc) refl
    where
      by_found : (o : Option Document) → document_of m new_doc ≡ o → document_of m new_doc ≡ None
      by_found None is = is
      by_found (Some d) is = absurd (none_there_ d is)

  pub unknown : sight_in (map sight m.documents) new_doc ≡ None
  unknown = sight_found m.documents new_doc ∙ ap (option_map sight) absent

  -- ---- it is the one load of that state

  pub ongoing_own : is_ongoing_load own_then ≡ true
  ongoing_own = refl

  pub apart_number : (other : ReqId) (x : Asked) → request_of m other ≡ Some x → is_ongoing_load x ≡ true → x.state ≡ Some its_state → other.0 ≡ l.req.0
  apart_number other x at on is =
      passing_now.going.tab.loading.apart other l.req (look x) (look own_then) its_state (ap (λ (o : Option Asked). option_map look o) at) (ap (λ (o : Option Asked). option_map look o) found_then) on refl is state_is

  pub alone_state : IsAloneWith m l.req its_state
  alone_state other x apart_ at = by_tests (is_ongoing_load x) (x.state) refl refl
    where
      same : (k : StateId) → (k.0 == w.states) ≡ true → k ≡ its_state
      same k is = state_same k its_state is

      by_tests : (a : Bool) (o : Option StateId) → is_ongoing_load x ≡ a → x.state ≡ o → (a && holds (λ (k : StateId). k.0 == w.states) o) ≡ false
      by_tests false o on is = refl
      by_tests true None on is = refl
      by_tests true (Some k) on is = by_state (k.0 == w.states) refl
        where
          by_state : (b : Bool) → (k.0 == w.states) ≡ b → b ≡ false
          by_state false one = refl
          by_state true one =
              let number : other.0 ≡ l.req.0 = apart_number other x at on (is ∙ ap (λ (y : StateId). let r : Option StateId = Some y in r) (same k one)) in
              never_apart other.0 l.req.0 number apart_

  pub loads_state : load_of_state m its_state ≡ Some own_then
  loads_state = ongoing_there m l.req own_then its_state found_then refl state_is alone_state

  -- and the table's
  pub unmade_load : (replace : Bool) (address : List ℕ) → ongoing_load l.nav w.loads ≡ Some (begun_load l.req l.nav replace address (v.states + 1)) → IsUnmadeLoad m w.loads l.nav its_state
  unmade_load replace address began =
      record {
        load = begun_load l.req l.nav replace address (v.states + 1);
        at = began;
        state_is = ap (λ (k : ℕ). let x : StateId = record { 0 = k } in x) (ap (λ (k : ℕ). k + 1) way.work.holds.states ∙ sym state_number);
        unmade = unmade_now;
        alone = alone_load;
      }
    where
      alone_load : (other : NavId) (x : Load) → ongoing_load other w.loads ≡ Some x → is_nav other l.nav ≡ false → (w.states == x.state.0) ≡ false
      alone_load other x at apart_ = by_state (w.states == x.state.0) refl
        where
          tied : IsLoadTied m x
          tied = work.loads.there other x at

          by_state : (b : Bool) → (w.states == x.state.0) ≡ b → b ≡ false
          by_state false is = refl
          by_state true is =
              let same : x.req.0 ≡ l.req.0 = apart_number x.req tied.q tied.found tied.ongoing (tied.state ∙ ap (λ (k : StateId). let o : Option StateId = Some k in o) (sym (state_same its_state x.state is))) in
              let two : Some own_then ≡ Some tied.q = sym found_then ∙ ap (λ (k : ℕ). request_of m (record { 0 = k })) (sym same) ∙ tied.found in
              let one : own_then ≡ tied.q = cc in
              let whats : requests.Load l.nav l.mode l.address ≡ requests.Load x.nav tied.mode x.address = ap (λ (k : Asked). k.what) one ∙ tied.what in
              let navs : l.nav ≡ x.nav = cc in
              let never : false ≡ true = sym apart_ ∙ ap (λ (k : NavId). k.0 == l.nav.0) (sym (found_nav other w.loads x at) ∙ sym navs) ∙ nat_eq_refl l.nav.0 in
              absurd cc

  pub all_passed : has_passed m own_then ≡ true
  all_passed = passing_now.going.tab.asked.passed l.req own_then found_then

  pub plain : IsAskedPlainly l.req own_then
  plain = passing_now.going.tab.asked.each l.req own_then found_then

  -- an order for it may be sent
  pub may_serve : MayServe m l.req
  may_serve =
      record {
        goes = goes_on m w.running passing_now.going.tab.asked l.req own_then found_then;
        begun = λ x at.
            let two : Some own_then ≡ Some x = sym found_then ∙ at in
            let one : own_then ≡ x = cc in
            subst (λ (y : Asked). HasSetOut y) one (started_out own_then refl);
      }

  pub causes : MayCause m (whys.Req l.req)
  causes r is = let one : l.req ≡ r = cc in subst (λ (x : ReqId). MayServe m x) one may_serve
