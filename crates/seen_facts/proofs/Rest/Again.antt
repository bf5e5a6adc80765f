-- Rows that leave documents resting: who is unshown was so, and its orders lead to the same.
use Rattle.std.proofs.Common.{◌≡◌, ℕ, Bool, true, false, cond, ◌||◌, ◌==◌, List, map, Option, Some, None, refl, sym, ap, ◌∙◌, subst}
use Rattle.std.specs.Prelude.{find, option_map}
use Rattle.std.proofs.lemmas.Bool.{eqb-true}
use Rattle.tab_ids.specs.declared.DocId.{DocId}
use Rattle.tab_ids.specs.declared.NavId.{NavId}
use Rattle.tab_ids.specs.declared.ProcId.{ProcId}
use Rattle.tab_ids.specs.declared.StateId.{StateId}
use Rattle.log_model.specs.declared.row.Row.{Row}
use Rattle.log_model.specs.After.{on_desk}
use Rattle.log_model.specs.History.{has_state}
use Rattle.log_model.specs.Seen.{Seen, Document, Desk, Place, awake, desk_in, document_of, desk_of, place_in, place_of}
use Rattle.seen_facts.specs.Coord.Leading.{orders_for}
use Rattle.seen_facts.proofs.Coord.Leadings.{proc_same}
use Rattle.seen_facts.proofs.Coord.Unread.{DesksLeft}
use Rattle.seen_laws.proofs.Desks.{desk_on_same, desk_on_other}
use Rattle.seen_laws.proofs.Keyed.{find_map}
use Rattle.seen_facts.proofs.Hang.Members.{find_has}
use Rattle.seen_facts.specs.Rest.Resting.{runs_in, will_run, is_resting, IsUnshown, is_swept, EachRests}
use Rattle.seen_facts.proofs.Rest.Running.{run_alike}

-- a document then was there, and will run if it was to
pub record RanSo (s t : Seen) (doc : DocId) (d : Document) : Type 0 where
  pub before : Document
  pub there : document_of s doc ≡ Some before
  pub runs : will_run (desk_of t d.proc) d ≡ will_run (desk_of s before.proc) before
  pub swept : is_swept t d ≡ true → is_swept s before ≡ true

-- who was shown is shown
abbrev pub StayShown : Seen → Seen → Type 0
StayShown s t =
    (nav : NavId) (place : Place) (doc : DocId) → place_of s nav ≡ Some place → place.status ≡ awake doc → (new : Place) × (place_of t nav ≡ Some new) × (new.status ≡ awake doc)

pub unshown_before : (s t : Seen) → StayShown s t → (doc : DocId) → IsUnshown t doc → IsUnshown s doc
unshown_before s t stay doc unshown nav place there wakes = let n = stay nav place doc there wakes in unshown nav n.0 n.1 n.2

pub rests_again : (s t : Seen) → ((doc : DocId) (d : Document) → document_of t doc ≡ Some d → RanSo s t doc d) → StayShown s t → EachRests s → EachRests t
rests_again s t ran stay each doc d found unshown swept =
    let r = ran doc d found in
    ap is_resting r.runs ∙ each doc r.before r.there (unshown_before s t stay doc unshown) (r.swept swept)

-- ---- places

pub same_shown : (s t : Seen) → t.places ≡ s.places → StayShown s t
same_shown s t same nav place doc there wakes = (place, ap (λ (l : List Place). place_in l nav) same ∙ there, wakes)

pub mapped_shown : (s t : Seen) (g : Place → Place) → ((p : Place) → (g p).nav ≡ p.nav) → ((p : Place) → (g p).status ≡ p.status) → t.places ≡ map g s.places → StayShown s t
mapped_shown s t g nav_same status_same places nav place doc there wakes =
    (g place, ap (λ (l : List Place). place_in l nav) places ∙ find_map (λ (p : Place). p.nav.0) g nav.0 s.places (λ p. ap (λ (n : NavId). n.0) (nav_same p)) ∙ ap (λ (o : Option Place). option_map g o) there, status_same place ∙ wakes)

-- ---- documents: each is changed, but for its number and process

pub record WasOf (s : Seen) (g : Document → Document) (doc : DocId) (d : Document) : Type 0 where
  pub before : Document
  pub there : document_of s doc ≡ Some before
  pub is : g before ≡ d

pub was_of : (s t : Seen) (g : Document → Document) → ((d : Document) → (g d).nr ≡ d.nr) → t.documents ≡ map g s.documents → (doc : DocId) (d : Document) → document_of t doc ≡ Some d → WasOf s g doc d
was_of s t g number documents doc d found = by_old (document_of s doc) refl
  where
    now : document_of t doc ≡ option_map g (document_of s doc)
    now = ap (λ (l : List Document). find (λ (x : Document). x.nr.0 == doc.0) l) documents ∙ find_map (λ (x : Document). x.nr.0) g doc.0 s.documents (λ x. ap (λ (n : DocId). n.0) (number x))

    by_old : (o : Option Document) → document_of s doc ≡ o → WasOf s g doc d
    by_old None e = let no_ : None ≡ Some d = sym (now ∙ ap (λ (o : Option Document). option_map g o) e) ∙ found in cc
    by_old (Some old) e =
        let both : Some (g old) ≡ Some d = sym (now ∙ ap (λ (o : Option Document). option_map g o) e) ∙ found in
        record { before = old; there = e; is = cc }

-- a change that leaves number, process, state, whether it was discarded, and whether its view runs
pub record KeepsRunning (g : Document → Document) : Type 0 where
  pub nr : (d : Document) → (g d).nr ≡ d.nr
  pub proc : (d : Document) → (g d).proc ≡ d.proc
  pub state : (d : Document) → (g d).state ≡ d.state
  pub discarded : (d : Document) → (g d).is_discarded ≡ d.is_discarded
  pub runs : (d : Document) → runs_in (g d).view ≡ runs_in d.view

pub keeps_at : (doc : DocId) (f : Document → Document) → KeepsRunning f → KeepsRunning (λ (d : Document). cond (d.nr.0 == doc.0) (f d) d)
keeps_at doc f keeps =
    record {
      nr = λ d. elim (d.nr.0 == doc.0) as (λ b. (let x : Document = cond b (f d) d in x).nr ≡ d.nr) [ true ↦ keeps.nr d | false ↦ refl ];
      proc = λ d. elim (d.nr.0 == doc.0) as (λ b. (let x : Document = cond b (f d) d in x).proc ≡ d.proc) [ true ↦ keeps.proc d | false ↦ refl ];
      state = λ d. elim (d.nr.0 == doc.0) as (λ b. (let x : Document = cond b (f d) d in x).state ≡ d.state) [ true ↦ keeps.state d | false ↦ refl ];
      discarded = λ d. elim (d.nr.0 == doc.0) as (λ b. (let x : Document = cond b (f d) d in x).is_discarded ≡ d.is_discarded) [ true ↦ keeps.discarded d | false ↦ refl ];
      runs = λ d. elim (d.nr.0 == doc.0) as (λ b. runs_in (let x : Document = cond b (f d) d in x).view ≡ runs_in d.view) [ true ↦ keeps.runs d | false ↦ refl ];
    }

-- the document states that have entries had them
abbrev pub NoNewStates : Seen → Seen → Type 0
NoNewStates s t = (doc : DocId) (d : Document) → document_of s doc ≡ Some d → has_state d.state t.history.rows ≡ true → is_swept s d ≡ true

pub old_states : (s t : Seen) → t.history.rows ≡ s.history.rows → NoNewStates s t
old_states s t rows doc d found has = or_last d.is_discarded (ap (λ (l : List Row). has_state d.state l) (sym rows) ∙ has)
  where
    or_last : (a : Bool) {b : Bool} → b ≡ true → (a || b) ≡ true
    or_last true e = refl
    or_last false e = e

pub swept_before : (s t : Seen) (doc : DocId) (before d : Document) → NoNewStates s t → document_of s doc ≡ Some before → d.state ≡ before.state → d.is_discarded ≡ before.is_discarded → is_swept t d ≡ true → is_swept s before ≡ true
swept_before s t doc before d none there state discarded swept = by_discarded before.is_discarded refl
  where
    by_discarded : (b : Bool) → before.is_discarded ≡ b → (before.is_discarded || has_state before.state s.history.rows) ≡ true
    by_discarded true e = ap (λ (b : Bool). b || has_state before.state s.history.rows) e
    by_discarded false e =
        none doc before there (ap (λ (x : StateId). has_state x t.history.rows) (sym state) ∙ sym (ap (λ (b : Bool). b || has_state d.state t.history.rows) (discarded ∙ e)) ∙ swept)

-- where the orders that come to each document stay
pub rests_left : (s t : Seen) (g : Document → Document) → KeepsRunning g → t.documents ≡ map g s.documents → ((proc : ProcId) (doc : DocId) → orders_for (desk_of t proc) doc ≡ orders_for (desk_of s proc) doc) → NoNewStates s t → StayShown s t → EachRests s → EachRests t
rests_left s t g keeps documents orders none stay each =
    rests_again s t ran stay each
  where
    ran_by : (doc : DocId) (before : Document) → document_of s doc ≡ Some before → RanSo s t doc (g before)
    ran_by doc before there =
        record {
          before = before;
          there = there;
          runs = ap (λ (p : ProcId). will_run (desk_of t p) (g before)) (keeps.proc before) ∙ run_alike (desk_of s before.proc) (desk_of t before.proc) before (g before) (ap (λ (n : DocId). orders_for (desk_of t before.proc) n) (keeps.nr before) ∙ orders before.proc before.nr) (keeps.runs before);
          swept = swept_before s t doc before (g before) none there (keeps.state before) (keeps.discarded before);
        }

    ran : (doc : DocId) (d : Document) → document_of t doc ≡ Some d → RanSo s t doc d
    ran doc d found =
        let w = was_of s t g keeps.nr documents doc d found in
        subst (λ (x : Document). RanSo s t doc x) w.is (ran_by doc w.before w.there)

-- ---- desks

pub orders_left : (s t : Seen) → DesksLeft s t → (proc : ProcId) (doc : DocId) → orders_for (desk_of t proc) doc ≡ orders_for (desk_of s proc) doc
orders_left s t left proc doc = let l = left proc in ap (λ (d : Desk). orders_for d doc) l.1

pub orders_on : (s t : Seen) (at : ProcId) (f : Desk → Desk) → t.desks ≡ on_desk at f s.desks → ((desk : Desk) → (f desk).proc ≡ desk.proc) → ((doc : DocId) → orders_for (f (desk_of s at)) doc ≡ orders_for (desk_of s at) doc) → (proc : ProcId) (doc : DocId) → orders_for (desk_of t proc) doc ≡ orders_for (desk_of s proc) doc
orders_on s t at f desks keeps own proc doc = by_process (at.0 == proc.0) refl
  where
    by_process : (b : Bool) → (at.0 == proc.0) ≡ b → orders_for (desk_of t proc) doc ≡ orders_for (desk_of s proc) doc
    by_process true e =
        let same : at ≡ proc = proc_same at proc e in
        let now : desk_of t at ≡ f (desk_of s at) = ap (λ (l : List Desk). desk_in l at) desks ∙ desk_on_same f s.desks at keeps in
        subst (λ (p : ProcId). orders_for (desk_of t p) doc ≡ orders_for (desk_of s p) doc) same (ap (λ (d : Desk). orders_for d doc) now ∙ own doc)
    by_process false e =
        ap (λ (d : Desk). orders_for d doc) (ap (λ (l : List Desk). desk_in l proc) desks ∙ desk_on_other f s.desks at proc keeps e)

-- a document is found by its own number
pub its_number : (s : Seen) (doc : DocId) (d : Document) → document_of s doc ≡ Some d → d.nr ≡ doc
its_number s doc d found =
    let number : d.nr.0 ≡ doc.0 = eqb-true d.nr.0 doc.0 (find_has (λ (x : Document). x.nr.0 == doc.0) s.documents d found).1 in
    ap (λ (n : ℕ). let x : DocId = record { 0 = n } in x) number
