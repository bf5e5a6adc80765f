-- A document is waited for by one load: that of its document state.
use Rattle.std.proofs.Common.{◌≡◌, ℕ, Bool, true, false, cond, not, ◌||◌, ◌==◌, List, [], ◌∷◌, map, Option, Some, None, refl, sym, ap, ◌∙◌, subst, inl, inr, eqb-true}
use Rattle.std.specs.Prelude.{find, option_map}
use Rattle.std.specs.List.{AllByRecursion}
use Rattle.std.proofs.lemmas.Bool.{and_parts}
use Rattle.std.proofs.lemmas.Map.Keys.{IsDistinct-head, IsDistinct-tail}
use Rattle.tab_ids.specs.declared.DocId.{DocId}
use Rattle.tab_ids.specs.declared.NavId.{NavId}
use Rattle.tab_ids.specs.declared.ReqId.{ReqId}
use Rattle.tab_ids.specs.declared.StateId.{StateId}
use Rattle.log_model.specs.declared.request.Request.TheVariants as requests
use Rattle.log_model.specs.Seen.{Seen, Asked, Document, request_of}
use Rattle.log_model.proofs.Refl.{nat_eq_refl}
use Rattle.seen_facts.specs.Hang.Members.{Has}
use Rattle.seen_facts.proofs.Hang.Members.{find_has, has_found}
use Rattle.seen_facts.proofs.Coord.Singles.{AreApart}
use Rattle.load_table.specs.declared.load.Load.{Load}
use Rattle.load_table.specs.declared.phase.Phase.{Phase}
use Rattle.load_table.specs.declared.phase.Phase.TheVariants as phases
use Rattle.load_table.specs.Loads.{HasOneEach, is_nav, is_of, is_populating, makes, ongoing_load}
use Rattle.seen_facts.specs.Load.Loading.{AreLoading, look}
use Rattle.seen_facts.specs.LoadTies.Tying.{TiesLoads, is_for_state, made_for, phase_with}

-- ---- the table

turned : (a b : NavId) → is_nav a b ≡ false → is_nav b a ≡ false
turned a b e = by_test (is_nav b a) refl
  where
    by_test : (c : Bool) → is_nav b a ≡ c → is_nav b a ≡ false
    by_test false at = at
    by_test true at =
        let same : b.0 ≡ a.0 = eqb-true b.0 a.0 at in
        let no_ : true ≡ false = sym (nat_eq_refl a.0) ∙ ap (λ (n : ℕ). a.0 == n) (sym same) ∙ e in
        absurd cc

all_apart : (nav : NavId) (table : List Load) (load : Load) → AllByRecursion (λ (y : NavId). is_nav nav y ≡ false) (map (λ (l : Load). l.nav) table) → Has table load → is_nav nav load.nav ≡ false
all_apart nav [] load all has = absurd has
all_apart nav (first ∷ table) load all (inl same) = subst (λ (l : Load). is_nav nav l.nav ≡ false) same all.0
all_apart nav (first ∷ table) load all (inr later) = all_apart nav table load all.1 later

-- each load of a table is found by its navigable
pub found_itself : (table : List Load) (load : Load) → HasOneEach table → Has table load → ongoing_load load.nav table ≡ Some load
found_itself [] load one has = absurd has
found_itself (first ∷ table) load one (inl same) =
    subst (λ (l : Load). ongoing_load l.nav (first ∷ table) ≡ Some l) same (rw (nat_eq_refl first.nav.0) refl)
found_itself (first ∷ table) load one (inr later) =
    let apart : is_nav first.nav load.nav ≡ false = all_apart first.nav table load (IsDistinct-head is_nav first.nav (map (λ (l : Load). l.nav) table) one) later in
    rw (turned first.nav load.nav apart) (found_itself table load (IsDistinct-tail is_nav first.nav (map (λ (l : Load). l.nav) table) one) later)

-- ---- the document

-- the document of a load that waits
record IsDocOf (documents : List Document) (doc : DocId) (state : StateId) : Type 0 where
  d : Document
  has : Has documents d
  number : d.nr.0 ≡ doc.0
  state_is : d.state.0 ≡ state.0

doc_of : (documents : List Document) (doc : DocId) (state : StateId) → makes doc (phase_with (made_for documents state)) ≡ true → IsDocOf documents doc state
doc_of documents doc state waits = by_made (made_for documents state) refl waits
  where
    by_ready : (d : Document) → made_for documents state ≡ Some d → (b : Bool) → makes doc (let p : Phase = cond b (phases.Ready d.nr) (phases.Populating d.nr) in p) ≡ true → IsDocOf documents doc state
    by_ready d e true w = absurd cc
    by_ready d e false w =
        let f = find_has (is_for_state state) documents d e in
        record { d = d; has = f.0; number = eqb-true d.nr.0 doc.0 w; state_is = eqb-true d.state.0 state.0 (and_parts (d.state.0 == state.0) (not (d.is_discarded || d.is_known_dead)) f.1).0 }

    by_made : (o : Option Document) → made_for documents state ≡ o → makes doc (phase_with o) ≡ true → IsDocOf documents doc state
    by_made None e w = absurd cc
    by_made (Some d) e w = by_ready d e d.is_ready w

-- a document that is there isn't of a number that none has
not_found : (l : List Document) (n : ℕ) (x : Document) → find (λ (d : Document). d.nr.0 == n) l ≡ None → Has l x → (x.nr.0 == n) ≡ false
not_found [] n x none has = absurd has
not_found (y ∷ l) n x none has = by_test (y.nr.0 == n) refl none has (not_found l n x)
  where
    by_test : (c : Bool) → (y.nr.0 == n) ≡ c → (let o : Option Document = cond c (Some y) (find (λ (d : Document). d.nr.0 == n) l) in o) ≡ None → Has (y ∷ l) x → (find (λ (d : Document). d.nr.0 == n) l ≡ None → Has l x → (x.nr.0 == n) ≡ false) → (x.nr.0 == n) ≡ false
    by_test true e f has more = absurd cc
    by_test false e f (inl is) more = subst (λ (z : Document). (z.nr.0 == n) ≡ false) is e
    by_test false e f (inr later) more = more f later

-- it is found by its number, where no two have one
found_by : (l : List Document) (x : Document) → AreApart (λ (d : Document). d.nr.0) l → Has l x → find (λ (d : Document). d.nr.0 == x.nr.0) l ≡ Some x
found_by [] x apart has = absurd has
found_by (y ∷ l) x apart (inl is) = subst (λ (z : Document). find (λ (d : Document). d.nr.0 == z.nr.0) (y ∷ l) ≡ Some z) is (rw (nat_eq_refl y.nr.0) refl)
found_by (y ∷ l) x apart (inr later) = by_test (y.nr.0 == x.nr.0) refl (found_by l x apart.1 later)
  where
    by_test : (c : Bool) → (y.nr.0 == x.nr.0) ≡ c → find (λ (d : Document). d.nr.0 == x.nr.0) l ≡ Some x → (let o : Option Document = cond c (Some y) (find (λ (d : Document). d.nr.0 == x.nr.0) l) in o) ≡ Some x
    by_test false e more = more
    by_test true e more =
        let number : y.nr.0 ≡ x.nr.0 = eqb-true y.nr.0 x.nr.0 e in
        let no_ : true ≡ false = sym (nat_eq_refl y.nr.0) ∙ ap (λ (n : ℕ). n == y.nr.0) number ∙ not_found l y.nr.0 x apart.0 later in
        absurd cc

-- so documents of one number are one
one_doc : (documents : List Document) (a b : Document) → AreApart (λ (d : Document). d.nr.0) documents → Has documents a → Has documents b → a.nr.0 ≡ b.nr.0 → a ≡ b
one_doc documents a b apart in_a in_b same =
    let both : Some a ≡ Some b = sym (found_by documents a apart in_a) ∙ ap (λ (n : ℕ). find (λ (d : Document). d.nr.0 == n) documents) same ∙ found_by documents b apart in_b in
    cc

-- ---- the whole

-- a load of the table that waits for the document is the first that does
pub waits_once : (s : Seen) (table : List Load) → AreLoading s → TiesLoads s table → HasOneEach table → AreApart (λ (d : Document). d.nr.0) s.documents → (doc : DocId) (nav : NavId) (a : Load) → ongoing_load nav table ≡ Some a → is_populating doc a ≡ true → find (is_populating doc) table ≡ Some a
waits_once s table loading ties one apart doc nav a at waits =
    let in_a = (find_has (is_of nav) table a at).0 in
    let first = has_found (is_populating doc) table a in_a waits in
    first.1 ∙ ap (λ (l : Load). Some l) (same first.0 (find_has (is_populating doc) table first.0 first.1).0 (find_has (is_populating doc) table first.0 first.1).1)
  where
    same : (b : Load) → Has table b → is_populating doc b ≡ true → b ≡ a
    same b in_b waits_b =
        let at_b = found_itself table b one in_b in
        let one_ = ties.there nav a at in
        let two = ties.there b.nav b at_b in
        let doc_a = doc_of s.documents doc a.state (ap (makes doc) (sym one_.phase) ∙ waits) in
        let doc_b = doc_of s.documents doc b.state (ap (makes doc) (sym two.phase) ∙ waits_b) in
        let docs : doc_a.d ≡ doc_b.d = one_doc s.documents doc_a.d doc_b.d apart doc_a.has doc_b.has (doc_a.number ∙ sym doc_b.number) in
        let number : a.state.0 ≡ b.state.0 = sym doc_a.state_is ∙ ap (λ (d : Document). d.state.0) docs ∙ doc_b.state_is in
        let states : a.state ≡ b.state = ap (λ (n : ℕ). let x : StateId = record { 0 = n } in x) number in
        let reqs : a.req.0 ≡ b.req.0 = loading.apart a.req b.req (look one_.q) (look two.q) b.state (ap (λ (o : Option Asked). option_map look o) one_.found) (ap (λ (o : Option Asked). option_map look o) two.found) one_.ongoing two.ongoing (one_.state ∙ ap (λ (x : StateId). Some x) states) two.state in
        let req : a.req ≡ b.req = ap (λ (n : ℕ). let x : ReqId = record { 0 = n } in x) reqs in
        let both : Some one_.q ≡ Some two.q = sym one_.found ∙ ap (request_of s) req ∙ two.found in
        let asked : one_.q ≡ two.q = cc in
        let whats : requests.Load a.nav one_.mode a.address ≡ requests.Load b.nav two.mode b.address = sym one_.what ∙ ap (λ (q : Asked). q.what) asked ∙ two.what in
        let navs : a.nav ≡ b.nav = cc in
        let here : ongoing_load b.nav table ≡ Some a = ap (λ (n : NavId). ongoing_load n table) (sym navs) ∙ found_itself table a one (find_has (is_of nav) table a at).0 in
        let loads : Some b ≡ Some a = sym at_b ∙ here in
        cc
