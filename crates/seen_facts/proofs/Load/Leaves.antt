-- Rows over which the ongoing loads stay what they are.
use Rattle.std.proofs.Common.{◌≡◌, ℕ, ◌≤◌, Bool, true, false, Some, refl, sym, ap, ◌∙◌, subst, inl, inr, ◌⊎◌, ◌==◌, eqb-true, arith}
use Rattle.tab_ids.specs.declared.DocId.{DocId}
use Rattle.tab_ids.specs.declared.NavId.{NavId}
use Rattle.tab_ids.specs.declared.ReqId.{ReqId}
use Rattle.tab_ids.specs.declared.StateId.{StateId}
use Rattle.log_model.specs.declared.request.Request.{Request}
use Rattle.log_model.specs.declared.row.Row.{Row}
use Rattle.log_model.specs.Equal.{has_doc}
use Rattle.log_model.specs.Once.{loads}
use Rattle.log_model.specs.Seen.{Seen, Document, Place, place_of}
use Rattle.seen_facts.specs.Hang.Members.{Has}
use Rattle.seen_facts.specs.Home.Homes.{document_in}
use Rattle.seen_facts.specs.Load.Loading.{Look, look_of, is_ongoing, IsLoading, AreLoading}

-- no ongoing load has the document state
abbrev pub IsFree : Seen → StateId → Type 0
IsFree t state = (req : ReqId) (l : Look) → look_of t req ≡ Some l → is_ongoing l ≡ true → l.state ≡ Some state → ⊥

-- an entry of the document state was there
pub record WasHeld (s : Seen) (state : StateId) : Type 0 where
  pub row : Row
  pub has : Has s.history.rows row
  pub same : row.state.0 ≡ state.0

-- a document of the number, navigable and document state was there
pub record WasDoc (s : Seen) (doc : DocId) (d : Document) : Type 0 where
  pub before : Document
  pub found : document_in s.documents doc ≡ Some before
  pub nav : before.nav ≡ d.nav
  pub state : before.state ≡ d.state

-- a new one: an ongoing load of its document state is of its navigable, and it was never shown
pub record IsNewDoc (t : Seen) (doc : DocId) (d : Document) : Type 0 where
  pub numbered : d.state.0 ≤ t.states
  pub whose : (req : ReqId) (l : Look) → look_of t req ≡ Some l → is_ongoing l ≡ true → l.state ≡ Some d.state → loads d.nav l.what ≡ true
  pub unshown : (nav : NavId) (place : Place) → place_of t nav ≡ Some place → has_doc place.ever_awake doc ≡ false

-- the navigable was awake on the document before
pub record WasAwakeOn (s : Seen) (nav : NavId) (doc : DocId) : Type 0 where
  pub place : Place
  pub found : place_of s nav ≡ Some place
  pub was : has_doc place.ever_awake doc ≡ true

-- what the row leaves: the ongoing loads were so, and entries, documents and whom navigables were awake on are of before, or no ongoing load's
pub record Leaves (s t : Seen) : Type 0 where
  pub looks : (req : ReqId) (l : Look) → look_of t req ≡ Some l → is_ongoing l ≡ true → look_of s req ≡ Some l
  pub states : s.states ≤ t.states
  pub rows_ : (row : Row) → Has t.history.rows row → WasHeld s row.state ⊎ (IsFree t row.state × (row.state.0 ≤ t.states))
  pub documents : (doc : DocId) (d : Document) → document_in t.documents doc ≡ Some d → WasDoc s doc d ⊎ IsNewDoc t doc d
  pub awakes : (nav : NavId) (place : Place) (doc : DocId) (d : Document) → place_of t nav ≡ Some place → has_doc place.ever_awake doc ≡ true → document_in t.documents doc ≡ Some d → WasAwakeOn s nav doc ⊎ IsFree t d.state

state_same : (a b : StateId) → a.0 ≡ b.0 → a ≡ b
state_same a b e = ap (λ (n : ℕ). let x : StateId = record { 0 = n } in x) e

nav_same : (a b : NavId) → a.0 ≡ b.0 → a ≡ b
nav_same a b e = ap (λ (n : ℕ). let x : NavId = record { 0 = n } in x) e

least : (a b c : ℕ) → a ≤ b → b ≤ c → a ≤ c
least a b c one two = omega (arith, one, two)

module _ (s t : Seen) (leaves : Leaves s t) (are : AreLoading s) where
  module _ (req : ReqId) (l : Look) (at : look_of t req ≡ Some l) (ongoing : is_ongoing l ≡ true) where
    abbrev old : IsLoading s l
    old = are.each req l (leaves.looks req l at ongoing) ongoing

    unheld : (row : Row) → Has t.history.rows row → row.state.0 ≡ old.state.0 → ⊥
    unheld row has same = by_row (leaves.rows_ row has)
      where
        by_row : WasHeld s row.state ⊎ (IsFree t row.state × (row.state.0 ≤ t.states)) → ⊥
        by_row (inl was) = old.unheld was.row was.has (was.same ∙ same)
        by_row (inr free) = free.0 req l at ongoing (old.state_is ∙ ap (λ (x : StateId). Some x) (sym (state_same row.state old.state same)))

    whose : (doc : DocId) (d : Document) → document_in t.documents doc ≡ Some d → d.state.0 ≡ old.state.0 → d.nav ≡ old.nav
    whose doc d found same = by_doc (leaves.documents doc d found)
      where
        by_doc : WasDoc s doc d ⊎ IsNewDoc t doc d → d.nav ≡ old.nav
        by_doc (inl was) = sym was.nav ∙ old.whose doc was.before was.found (ap (λ (x : StateId). x.0) was.state ∙ same)
        by_doc (inr new) =
            let loads_it : loads d.nav l.what ≡ true = new.whose req l at ongoing (old.state_is ∙ ap (λ (x : StateId). Some x) (sym (state_same d.state old.state same))) in
            let number : (old.nav.0 == d.nav.0) ≡ true = sym (ap (λ (w : Request). loads d.nav w) old.what) ∙ loads_it in
            sym (nav_same old.nav d.nav (eqb-true old.nav.0 d.nav.0 number))

    unshown : (doc : DocId) (d : Document) → document_in t.documents doc ≡ Some d → d.state.0 ≡ old.state.0 → (nav : NavId) (place : Place) → place_of t nav ≡ Some place → has_doc place.ever_awake doc ≡ false
    unshown doc d found same nav place there = by_test (has_doc place.ever_awake doc) refl
      where
        free_not : IsFree t d.state → ⊥
        free_not free = free req l at ongoing (old.state_is ∙ ap (λ (x : StateId). Some x) (sym (state_same d.state old.state same)))

        by_doc : has_doc place.ever_awake doc ≡ true → WasDoc s doc d ⊎ IsNewDoc t doc d → WasAwakeOn s nav doc → ⊥
        by_doc on (inl was) before =
            let never = old.unshown doc was.before was.found (ap (λ (x : StateId). x.0) was.state ∙ same) nav before.place before.found in
            (let no_ : true ≡ false = sym before.was ∙ never in cc)
        by_doc on (inr new) before = (let no_ : true ≡ false = sym on ∙ new.unshown nav place there in cc)

        by_awake : has_doc place.ever_awake doc ≡ true → WasAwakeOn s nav doc ⊎ IsFree t d.state → ⊥
        by_awake on (inl before) = by_doc on (leaves.documents doc d found) before
        by_awake on (inr free) = free_not free

        by_test : (b : Bool) → has_doc place.ever_awake doc ≡ b → has_doc place.ever_awake doc ≡ false
        by_test false e = e
        by_test true e = absurd (by_awake e (leaves.awakes nav place doc d there e found))

    stays : IsLoading t l
    stays =
        record {
          nav = old.nav;
          mode = old.mode;
          address = old.address;
          what = old.what;
          state = old.state;
          state_is = old.state_is;
          numbered = least old.state.0 s.states t.states old.numbered leaves.states;
          unmade = old.unmade;
          unheld = unheld;
          whose = whose;
          unshown = unshown;
        }

  pub left_loading : AreLoading t
  left_loading =
      record {
        each = stays;
        one = λ a b l m nav at_a at_b on_a on_b loads_a loads_b. are.one a b l m nav (leaves.looks a l at_a on_a) (leaves.looks b m at_b on_b) on_a on_b loads_a loads_b;
        apart = λ a b l m state at_a at_b on_a on_b state_a state_b. are.apart a b l m state (leaves.looks a l at_a on_a) (leaves.looks b m at_b on_b) on_a on_b state_a state_b;
        rows_ = λ row has. by_row row (leaves.rows_ row has);
        documents = λ doc d found. by_doc doc d (leaves.documents doc d found);
      }
    where
      by_row : (row : Row) → WasHeld s row.state ⊎ (IsFree t row.state × (row.state.0 ≤ t.states)) → row.state.0 ≤ t.states
      by_row row (inl was) = least row.state.0 s.states t.states (subst (λ (n : ℕ). n ≤ s.states) was.same (are.rows_ was.row was.has)) leaves.states
      by_row row (inr free) = free.1

      by_doc : (doc : DocId) (d : Document) → WasDoc s doc d ⊎ IsNewDoc t doc d → d.state.0 ≤ t.states
      by_doc doc d (inl was) = least d.state.0 s.states t.states (subst (λ (x : StateId). x.0 ≤ s.states) was.state (are.documents doc was.before was.found)) leaves.states
      by_doc doc d (inr new) = new.numbered
