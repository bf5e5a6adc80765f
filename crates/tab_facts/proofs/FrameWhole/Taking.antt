-- What each change that takes up what a document made leaves of places and documents.
use Rattle.seen_facts.proofs.Coord.Applied.{WereThere}
use Rattle.seen_facts.proofs.Coord.EachDocuments.{HadEpoch}
use Rattle.seen_facts.specs.Coord.Leading.{Face}
use Rattle.tab_facts.proofs.FrameTab.Changing.{IsGiving}
use Rattle.tab_facts.proofs.FrameTab.Desking.{AllStayPlaced, StaysPlaced}
use Rattle.tab_facts.proofs.FrameTab.Pushings.{gives}
use Rattle.tab_facts.specs.FrameTab.Alive.{AreThere, HasPlace}
use Rattle.tab_facts.proofs.FrameWhole.FlowsTaken.{ShowsFace}
use Rattle.seen_facts.proofs.Hang.Members.{Passing, any_has, has_any, slice_has}
use Rattle.seen_facts.proofs.Hang.Parts.{state_is}
use Rattle.seen_facts.specs.Hang.Members.{Has}
use Rattle.log_model.proofs.Refl.{nat_eq_refl}
use Rattle.log_model.specs.AfterPlaces.{given_entry}
use Rattle.log_model.specs.History.{has_state}
use Rattle.log_model.specs.Seen.{Document, Place, Seen, document_of, place_of}
use Rattle.log_model.specs.declared.made.What.{What}
use Rattle.log_model.specs.declared.row.Row.{Row}
use Rattle.seen_facts.specs.Each.Mades.{entry_after}
use Rattle.seen_facts.proofs.Rest.Again.{NoNewStates}
use Rattle.seen_facts.proofs.Rest.Stands.{get_of}
use Rattle.std.proofs.Common.{Bool, List, Option, Some, ap, cond, false, refl, subst, sym, true, ◌==◌, ◌||◌, ◌∙◌, ◌≡◌, ◌≤◌}
use Rattle.tab_ids.specs.declared.DocId.{DocId}
use Rattle.tab_ids.specs.declared.EntryId.{EntryId}
use Rattle.tab_ids.specs.declared.NavId.{NavId}
use Rattle.tab_ids.specs.declared.ProcId.{ProcId}
use Rattle.tab_ids.specs.declared.StateId.{StateId}

-- ---- places

-- an epoch that a navigable has come to it keeps
pub had_by : (home : ProcId) (s t : Seen) → AreThere home s → AllStayPlaced s.places t.places → (doc : DocId) (d : Document) (place : Place) → document_of s doc ≡ Some d → place_of t d.nav ≡ Some place → HadEpoch s d.nav place
had_by home s t are stay doc d place found placed =
    let has : HasPlace s.places d.nav = (are doc d found).placed in
    let on : StaysPlaced t.places d.nav has.place = stay d.nav has.place has.found in
    let same : on.new ≡ place = some_same (sym on.found ∙ placed) in
    record { before = has.place; there = has.found; rises = subst (λ (p : Place). has.place.epoch.0 ≤ p.epoch.0) same on.epoch }
  where
    some_same : {A : Type 0} {a b : A} → (let o : Option A = Some a in o) ≡ Some b → a ≡ b
    some_same e = cc

-- nobody is given anything
pub none_giving : (nav : NavId) (what : What) → ((old : EntryId) → entry_after old what ≡ old) → IsGiving nav what (λ x. x)
none_giving nav what is =
    record { nav_is = λ x. refl; status = λ x. refl; epoch = λ x. refl; why = λ x. refl; last = λ x. refl; pending = λ x. refl; unmet = λ x. refl; added = λ x. refl; taken = λ x. refl; own = λ x old e given. given ∙ ap (λ (n : EntryId). Some n) (sym (is old)); other = λ x e. refl }

by_given : {B : Type 0} (nav : NavId) (entry : EntryId) (read : Place → B) → ((x : Place) → read (given_entry entry x) ≡ read x) → (x : Place) → read (gives nav entry x) ≡ read x
by_given nav entry read same x = elim (x.nav.0 == nav.0) as (λ b. read (let y : Place = cond b (given_entry entry x) x in y) ≡ read x) [ true ↦ same x | false ↦ refl ]

-- the navigable is given the entry
pub entry_giving : (nav : NavId) (entry : EntryId) (what : What) → ((old : EntryId) → entry_after old what ≡ entry) → IsGiving nav what (gives nav entry)
entry_giving nav entry what is =
    record {
      nav_is = by_given nav entry (λ x. x.nav) (λ x. refl);
      status = by_given nav entry (λ x. x.status) (λ x. refl);
      epoch = by_given nav entry (λ x. x.epoch) (λ x. refl);
      why = by_given nav entry (λ x. x.why) (λ x. refl);
      last = by_given nav entry (λ x. x.last) (λ x. refl);
      pending = by_given nav entry (λ x. x.is_pending) (λ x. refl);
      unmet = by_given nav entry (λ x. x.is_unmet) (λ x. refl);
      added = by_given nav entry (λ x. x.added_by) (λ x. refl);
      taken = by_given nav entry (λ x. x.taken_by) (λ x. refl);
      own = λ x old e given. ap (λ (b : Bool). (let y : Place = cond b (given_entry entry x) x in y).given) e ∙ ap (λ (n : EntryId). Some n) (sym (is old));
      other = λ x e. ap (λ (b : Bool). (let y : Place = cond b (given_entry entry x) x in y).given) e;
    }

-- ---- rows

-- where each row was there, the rows that show an entry were, and no document state is new
pub were_there : (old new : List Row) (given : Option EntryId) → ((row : Row) → Has new row → Has old row) → WereThere old new given
were_there old new given were i row at same = get_of old row (were row (slice_has new i row at))

pub shows_still : (old new : List Row) (face : Face) → ((row : Row) → Has new row → Has old row) → ShowsFace old face → ShowsFace new face
shows_still old new face were shows i row at same =
    let was = get_of old row (were row (slice_has new i row at)) in
    shows was.0 row was.1 same

pub no_new_states : (s t : Seen) → ((row : Row) → Has t.history.rows row → (doc : DocId) (d : Document) → document_of s doc ≡ Some d → row.state ≡ d.state → has_state d.state s.history.rows ≡ true) → NoNewStates s t
no_new_states s t were doc d found has =
    let a : Passing (λ (row : Row). row.state.0 == d.state.0) t.history.rows = any_has (λ (row : Row). row.state.0 == d.state.0) t.history.rows has in
    either d.is_discarded (were a.it a.there doc d found (state_is a.it.state d.state a.passes))
  where
    either : (b : Bool) {c : Bool} → c ≡ true → (b || c) ≡ true
    either true e = refl
    either false e = e

-- a row of the document state
pub has_state_of : (rows : List Row) (row : Row) (state : StateId) → Has rows row → row.state ≡ state → has_state state rows ≡ true
has_state_of rows row state has is =
    has_any (λ (r : Row). r.state.0 == state.0) rows row has (ap (λ (x : StateId). x.0 == state.0) is ∙ nat_eq_refl state.0)
