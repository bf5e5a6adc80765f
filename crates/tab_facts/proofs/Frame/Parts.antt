-- How each part of what lasts is handed on, where documents, requests and navigables are changed one by one.
use Rattle.tab_facts.proofs.Frame.Naming.{LeavesNames, names_on}
use Rattle.tab_facts.specs.Frame.Lasting.{AreSingle, AreSole, IsKeptUnmade, IsLasting, IsMadeShown, IsOfState, IsRunShown, NameTheirStates, PokesItsNav, Wish, wish}
use Rattle.tab_facts.specs.FrameTab.Alive.{AreThere, HasPlace}
use Rattle.seen_facts.specs.Home.Homes.{document_in}
use Rattle.log_model.specs.History.{has_row}
use Rattle.log_model.specs.Seen.{Asked, Desk, Document, Place, Seen, desk_of, document_of, place_in, place_of, request_in}
use Rattle.seen_facts.specs.Each.Runs.{EachAsked}
use Rattle.seen_facts.proofs.Request.Readers.{SameReads}
use Rattle.seen_laws.proofs.Keyed.{find_map}
use Rattle.std.proofs.Common.{Bool, List, None, Option, Some, [], ap, cond, false, inl, inr, map, refl, subst, sym, true, ◌++◌, ◌==◌, ◌∙◌, ◌∷◌, ◌≡◌, ◌⊎◌}
use Rattle.std.specs.Prelude.{find, option_map}
use Rattle.tab_ids.specs.declared.DocId.{DocId}
use Rattle.tab_ids.specs.declared.NavId.{NavId}
use Rattle.tab_ids.specs.declared.ProcId.{ProcId}
use Rattle.tab_ids.specs.declared.ReqId.{ReqId}
use Rattle.tab_ids.specs.declared.StateId.{StateId}

pub some_same : {A : Type 0} {a b : A} → (let o : Option A = Some a in o) ≡ Some b → a ≡ b
some_same e = cc

-- ---- requests

-- a fact of what is read of each request
pub each_read : {B : Type 0} (read : Asked → B) (F : B → Type 0) (asked next : List Asked) → SameReads read asked next → EachAsked (λ (req : ReqId) (q : Asked). F (read q)) asked → EachAsked (λ (req : ReqId) (q : Asked). F (read q)) next
each_read {B} read F asked next same each req q there =
    by_old (request_in asked req) refl (sym (same req) ∙ ap (λ (o : Option Asked). option_map read o) there)
  where
    by_old : (o : Option Asked) → request_in asked req ≡ o → option_map read o ≡ Some (read q) → F (read q)
    by_old None e h = absurd cc
    by_old (Some old) e h = subst F (some_same h) (each req old e)

-- ---- documents

-- a document that is found once all are changed was before
pub record WasIn (documents : List Document) (g : Document → Document) (doc : DocId) (x : Document) : Type 0 where
  pub old : Document
  pub there : document_in documents doc ≡ Some old
  pub new : g old ≡ x

pub in_map : (documents : List Document) (g : Document → Document) (doc : DocId) → ((x : Document) → (g x).nr ≡ x.nr) → document_in (map g documents) doc ≡ option_map g (document_in documents doc)
in_map documents g doc nr = find_map (λ (y : Document). y.nr.0) g doc.0 documents (λ y. ap (λ (n : DocId). n.0) (nr y))

pub was_in : (documents : List Document) (g : Document → Document) (doc : DocId) (x : Document) → ((y : Document) → (g y).nr ≡ y.nr) → document_in (map g documents) doc ≡ Some x → WasIn documents g doc x
was_in documents g doc x nr found = by_old (document_in documents doc) refl (sym (in_map documents g doc nr) ∙ found)
  where
    by_old : (o : Option Document) → document_in documents doc ≡ o → option_map g o ≡ Some x → WasIn documents g doc x
    by_old None e h = absurd cc
    by_old (Some old) e h = record { old = old; there = e; new = some_same h }

-- a poke is of its document's navigable still
pub pokes_map : (documents : List Document) (g : Document → Document) (w : Wish) → ((x : Document) → (g x).nr ≡ x.nr) → ((x : Document) → (g x).nav ≡ x.nav) → PokesItsNav documents w → PokesItsNav (map g documents) w
pokes_map documents g w nr nav pokes doc is =
    let its = pokes doc is in
    record {
      d = g its.d;
      found = in_map documents g doc nr ∙ ap (λ (o : Option Document). option_map g o) its.found;
      nav_is = its.nav_is ∙ ap (λ (n : NavId). Some n) (sym (nav its.d));
    }

-- what is found in the front part of a list
pub find_front : {A : Type 0} (test : A → Bool) (xs ys : List A) (x : A) → find test xs ≡ Some x → find test (xs ++ ys) ≡ Some x
find_front test [] ys x is = absurd cc
find_front {A} test (y ∷ xs) ys x is = by_test (test y) is (find_front test xs ys x)
  where
    by_test : (b : Bool) → (let o : Option A = cond b (Some y) (find test xs) in o) ≡ Some x → (find test xs ≡ Some x → find test (xs ++ ys) ≡ Some x) → (let o : Option A = cond b (Some y) (find test (xs ++ ys)) in o) ≡ Some x
    by_test true e more = e
    by_test false e more = more e

pub pokes_more : (documents more : List Document) (w : Wish) → PokesItsNav documents w → PokesItsNav (documents ++ more) w
pokes_more documents more w pokes doc is =
    let its = pokes doc is in
    record { d = its.d; found = find_front (λ (x : Document). x.nr.0 == doc.0) documents more its.d its.found; nav_is = its.nav_is }

-- orders name their documents' states still
pub names_map : (documents : List Document) (g : Document → Document) (desk : Desk) → ((x : Document) → (g x).nr ≡ x.nr) → ((x : Document) → (g x).state ≡ x.state) → NameTheirStates documents desk → NameTheirStates (map g documents) desk
names_map documents g desk nr state =
    names_on documents (map g documents) stay desk
  where
    stay : (doc : DocId) (st : StateId) → IsOfState documents doc st → IsOfState (map g documents) doc st
    stay doc st its =
        record {
          d = g its.d;
          found = in_map documents g doc nr ∙ ap (λ (o : Option Document). option_map g o) its.found;
          state_is = state its.d ∙ its.state_is;
        }

pub names_more : (documents more : List Document) (desk : Desk) → NameTheirStates documents desk → NameTheirStates (documents ++ more) desk
names_more documents more desk =
    names_on documents (documents ++ more) (λ doc st its. record { d = its.d; found = find_front (λ (x : Document). x.nr.0 == doc.0) documents more its.d its.found; state_is = its.state_is }) desk

-- a document state has one document still, where none is undone that was discarded
pub sole_map : (documents : List Document) (g : Document → Document) → ((x : Document) → (g x).nr ≡ x.nr) → ((x : Document) → (g x).state ≡ x.state) → ((x : Document) → (g x).is_discarded ≡ false → x.is_discarded ≡ false) → AreSole documents → AreSole (map g documents)
sole_map documents g nr state kept sole doc other d o at_d at_o same there_d there_o =
    let w : WasIn documents g doc d = was_in documents g doc d nr at_d in
    let v : WasIn documents g other o = was_in documents g other o nr at_o in
    let states : v.old.state ≡ w.old.state = sym (state v.old) ∙ ap (λ (y : Document). y.state) v.new ∙ same ∙ sym (ap (λ (y : Document). y.state) w.new) ∙ state w.old in
    let one : v.old.nr ≡ w.old.nr = sole doc other w.old v.old w.there v.there states (kept w.old (ap (λ (y : Document). y.is_discarded) w.new ∙ there_d)) (kept v.old (ap (λ (y : Document). y.is_discarded) v.new ∙ there_o)) in
    sym (ap (λ (y : Document). y.nr) v.new) ∙ nr v.old ∙ one ∙ sym (nr w.old) ∙ ap (λ (y : Document). y.nr) w.new

-- a navigable has one document still
pub single_map : (documents : List Document) (g : Document → Document) → ((x : Document) → (g x).nr ≡ x.nr) → ((x : Document) → (g x).nav ≡ x.nav) → AreSingle documents → AreSingle (map g documents)
single_map documents g nr nav single doc other d o at_d at_o same =
    let w : WasIn documents g doc d = was_in documents g doc d nr at_d in
    let v : WasIn documents g other o = was_in documents g other o nr at_o in
    let navs : v.old.nav ≡ w.old.nav = sym (nav v.old) ∙ ap (λ (y : Document). y.nav) v.new ∙ same ∙ sym (ap (λ (y : Document). y.nav) w.new) ∙ nav w.old in
    let one : v.old.nr ≡ w.old.nr = single doc other w.old v.old w.there v.there navs in
    sym (ap (λ (y : Document). y.nr) v.new) ∙ nr v.old ∙ one ∙ sym (nr w.old) ∙ ap (λ (y : Document). y.nr) w.new

-- ---- who took a navigable's last entries

pub record WasTakenIn (places : List Place) (nav : NavId) (req : ReqId) : Type 0 where
  pub before : Place
  pub there : place_in places nav ≡ Some before
  pub taken : before.taken_by ≡ Some req

abbrev pub TakersWere : List Place → List Place → Type 0
TakersWere places next =
    (nav : NavId) (place : Place) (req : ReqId) → place_in next nav ≡ Some place → place.taken_by ≡ Some req → WasTakenIn places nav req

pub takers_same : (places next : List Place) → next ≡ places → TakersWere places next
takers_same places next same nav place req found taken =
    record { before = place; there = ap (λ (l : List Place). place_in l nav) (sym same) ∙ found; taken = taken }

pub takers_then : (a b c : List Place) → TakersWere a b → TakersWere b c → TakersWere a c
takers_then a b c first then_ nav place req found taken =
    let mid = then_ nav place req found taken in first nav mid.before req mid.there mid.taken

pub takers_map : (places : List Place) (f : Place → Place) → ((p : Place) → (f p).nav ≡ p.nav) → ((p : Place) → (f p).taken_by ≡ p.taken_by) → TakersWere places (map f places)
takers_map places f nav taker n place req found taken =
    by_old (place_in places n) refl (sym (find_map (λ (p : Place). p.nav.0) f n.0 places (λ p. ap (λ (m : NavId). m.0) (nav p))) ∙ found)
  where
    by_old : (o : Option Place) → place_in places n ≡ o → option_map f o ≡ Some place → WasTakenIn places n req
    by_old None e h = absurd cc
    by_old (Some old) e h =
        record { before = old; there = e; taken = sym (taker old) ∙ ap (λ (p : Place). p.taken_by) (some_same h) ∙ taken }

-- ---- all of it

-- a row that changes documents one by one, and takes no navigable's last entries unnoted
pub record LeavesLasting (s t : Seen) (g : Document → Document) : Type 0 where
  pub documents : t.documents ≡ map g s.documents
  pub nr : (x : Document) → (g x).nr ≡ x.nr
  pub nav : (x : Document) → (g x).nav ≡ x.nav
  pub state : (x : Document) → (g x).state ≡ x.state
  pub undone : (x : Document) → (g x).is_discarded ≡ false → x.is_discarded ≡ false
  pub unmade : (doc : DocId) (x : Document) → document_of s doc ≡ Some x → IsKeptUnmade x → IsKeptUnmade (g x)
  pub names : LeavesNames s t
  pub runs : (doc : DocId) (x : Document) → document_of s doc ≡ Some x → IsRunShown x → IsRunShown (g x)
  pub gone : (doc : DocId) (x : Document) → document_of s doc ≡ Some x → (g x).is_discarded ≡ true → (x.is_discarded ≡ true) ⊎ (has_row x.nav s.history.rows ≡ false)
  pub wishes : SameReads wish s.requests t.requests
  pub bare : (nav : NavId) → HasPlace s.places nav → has_row nav s.history.rows ≡ false → has_row nav t.history.rows ≡ false
  pub takers : (nav : NavId) (place : Place) (req : ReqId) → place_of t nav ≡ Some place → place.taken_by ≡ Some req → WasTakenIn s.places nav req ⊎ (has_row nav t.history.rows ≡ false)

module _ (home : ProcId) (s t : Seen) (g : Document → Document) (there : AreThere home s) (leaves : LeavesLasting s t g) where
  was : (doc : DocId) (x : Document) → document_of t doc ≡ Some x → WasIn s.documents g doc x
  was doc x found =
      was_in s.documents g doc x leaves.nr (ap (λ (l : List Document). document_in l doc) (sym leaves.documents) ∙ found)

  pub lasting_on : IsLasting s → IsLasting t
  lasting_on is =
      record {
        shown = λ doc x found.
            (let w = was doc x found in
            subst IsRunShown w.new (leaves.runs doc w.old w.there (is.shown doc w.old w.there)));
        made = each_read wish IsMadeShown s.requests t.requests leaves.wishes is.made;
        poked = subst (λ (l : List Document). EachAsked (λ (req : ReqId) (q : Asked). PokesItsNav l (wish q)) t.requests) (sym leaves.documents)
            (each_read wish (PokesItsNav (map g s.documents)) s.requests t.requests leaves.wishes (λ req q at. pokes_map s.documents g (wish q) leaves.nr leaves.nav (is.poked req q at)));
        taken = λ nav place req found taken. by_taker nav req (leaves.takers nav place req found taken);
        gone = λ doc x found discarded.
            (let w = was doc x found in
            let nav_is : w.old.nav ≡ x.nav = sym (leaves.nav w.old) ∙ ap (λ (y : Document). y.nav) w.new in
            subst (λ (n : NavId). has_row n t.history.rows ≡ false) nav_is
            (leaves.bare w.old.nav (there doc w.old w.there).placed (by_gone doc w.old w.there (leaves.gone doc w.old w.there (ap (λ (y : Document). y.is_discarded) w.new ∙ discarded)))));
        populates = λ proc. subst (λ (l : List Document). NameTheirStates l (desk_of t proc)) (sym leaves.documents) (names_map s.documents g (desk_of t proc) leaves.nr leaves.state (leaves.names s.documents proc (is.populates proc)));
        unmade = λ doc x found.
            (let w = was doc x found in
            subst IsKeptUnmade w.new (leaves.unmade doc w.old w.there (is.unmade doc w.old w.there)));
        sole = subst AreSole (sym leaves.documents) (sole_map s.documents g leaves.nr leaves.state leaves.undone is.sole);
        single = subst AreSingle (sym leaves.documents) (single_map s.documents g leaves.nr leaves.nav is.single);
      }
    where
      by_gone : (doc : DocId) (x : Document) → document_of s doc ≡ Some x → (x.is_discarded ≡ true) ⊎ (has_row x.nav s.history.rows ≡ false) → has_row x.nav s.history.rows ≡ false
      by_gone doc x at (inl early) = is.gone doc x at early
      by_gone doc x at (inr bare_) = bare_

      by_taker : (nav : NavId) (req : ReqId) → WasTakenIn s.places nav req ⊎ (has_row nav t.history.rows ≡ false) → has_row nav t.history.rows ≡ false
      by_taker nav req (inl w) =
          leaves.bare nav (record { place = w.before; found = w.there }) (is.taken nav w.before req w.there w.taken)
      by_taker nav req (inr bare_) = bare_
