-- A load passes its unload check, with a document state that was numbered for it and is nothing's yet.
use Rattle.std.proofs.Common.{◌≡◌, ℕ, true, ◌==◌, List, ◌∷◌, Option, Some, None, sym, ap, ◌∙◌, subst, eqb-true}
use Rattle.tab_ids.specs.declared.NavId.{NavId}
use Rattle.tab_ids.specs.declared.ReqId.{ReqId}
use Rattle.tab_ids.specs.declared.StateId.{StateId}
use Rattle.log_model.specs.declared.made.Made.{Made}
use Rattle.log_model.specs.declared.request.Mode.{Mode}
use Rattle.log_model.specs.declared.request.Request.{Request}
use Rattle.log_model.specs.Once.{loads}
use Rattle.log_model.specs.Places.{is_load}
use Rattle.log_model.specs.Seen.{Asked, Seen}
use Rattle.seen_facts.specs.Load.Loading.{AreLoading, IsLoading, Look, is_ongoing, look, look_of}
use Rattle.tab_facts.specs.TabWhole.Tab.{IsTab}
use Rattle.tab_facts.proofs.TabWhole.Beginning.{IsToLoad}
use Rattle.unasked.proofs.Passings.{begun_as}
use Rattle.unasked_tab.specs.Passing.{IsFreshState}
use Rattle.unasked_tab.proofs.Begun.{as_loading, by_look, some_same, with_begun}
use Rattle.unasked_tab.proofs.LoadPassed.{load_tab}

module _ (s : Seen) (are : AreLoading s) (req : ReqId) (q : Asked) (nav : NavId) (mode : Mode) (address : List ℕ) (is : IsToLoad s req q nav mode address) (unmade : q.made ≡ None) (b : Asked) (state : StateId) (owns : b.state ≡ Some state) (fresh : IsFreshState s state) where
  -- its own document state
  own_state : (l : Look) (x : StateId) → look (begun_as b q) ≡ l → l.state ≡ Some x → state ≡ x
  own_state l x same has = some_same (sym owns ∙ ap (λ (m : Look). m.state) same ∙ has)

  -- and its own navigable
  own_nav : (n : NavId) (l : Look) → look (begun_as b q) ≡ l → loads n l.what ≡ true → n ≡ nav
  own_nav n l same loads_it =
      let number : (nav.0 == n.0) ≡ true = ap (λ (w : Request). loads n w) (sym is.what ∙ ap (λ (m : Look). m.what) same) ∙ loads_it in
      ap (λ (k : ℕ). let x : NavId = record { 0 = k } in x) (sym (eqb-true nav.0 n.0 number))

  -- what is read of it
  own_loading : (l : Look) → look (begun_as b q) ≡ l → IsLoading (with_begun s req b) l
  own_loading l same =
      subst (λ (x : Look). IsLoading (with_begun s req b) x) same (record {
        nav = nav;
        mode = mode;
        address = address;
        what = is.what;
        state = state;
        state_is = owns;
        numbered = fresh.numbered;
        unmade = unmade;
        unheld = fresh.unheld;
        whose = λ doc d at of_it. absurd (fresh.undocumented doc d at of_it);
        unshown = λ doc d at of_it. absurd (fresh.undocumented doc d at of_it);
      })

  -- the ongoing loads, with it
  pub fresh_loading : AreLoading (with_begun s req b)
  fresh_loading =
      record {
        each = λ r l at on. by_look s req b q is.there r l at (IsLoading (with_begun s req b) l) (λ number same. own_loading l same) (λ was. as_loading s req b l (are.each r l was on));
        one = one;
        apart = apart;
        rows_ = are.rows_;
        documents = are.documents;
      }
    where
      one : (x y : ReqId) (l m : Look) (n : NavId) → look_of (with_begun s req b) x ≡ Some l → look_of (with_begun s req b) y ≡ Some m → is_ongoing l ≡ true → is_ongoing m ≡ true → loads n l.what ≡ true → loads n m.what ≡ true → x.0 ≡ y.0
      one x y l m n at_x at_y on_x on_y loads_x loads_y =
          by_look s req b q is.there x l at_x (x.0 ≡ y.0)
          (λ number own. by_look s req b q is.there y m at_y (x.0 ≡ y.0) (λ its_number its_own. number ∙ sym its_number) (λ was. absurd (is.alone y m was on_y (subst (λ (k : NavId). loads k m.what ≡ true) (own_nav n l own loads_x) loads_y))))
          (λ was. by_look s req b q is.there y m at_y (x.0 ≡ y.0) (λ number own. absurd (is.alone x l was on_x (subst (λ (k : NavId). loads k l.what ≡ true) (own_nav n m own loads_y) loads_x))) (λ there. are.one x y l m n was there on_x on_y loads_x loads_y))

      apart : (x y : ReqId) (l m : Look) (its_state : StateId) → look_of (with_begun s req b) x ≡ Some l → look_of (with_begun s req b) y ≡ Some m → is_ongoing l ≡ true → is_ongoing m ≡ true → l.state ≡ Some its_state → m.state ≡ Some its_state → x.0 ≡ y.0
      apart x y l m its_state at_x at_y on_x on_y state_x state_y =
          by_look s req b q is.there x l at_x (x.0 ≡ y.0)
          (λ number own. by_look s req b q is.there y m at_y (x.0 ≡ y.0) (λ its_number its_own. number ∙ sym its_number) (λ was. absurd (fresh.free y m was on_y (state_y ∙ ap (λ (k : StateId). Some k) (sym (own_state l its_state own state_x))))))
          (λ was. by_look s req b q is.there y m at_y (x.0 ≡ y.0) (λ number own. absurd (fresh.free x l was on_x (state_x ∙ ap (λ (k : StateId). Some k) (sym (own_state m its_state own state_y))))) (λ there. are.apart x y l m its_state was there on_x on_y state_x state_y))

module _ (run : Option ReqId) (req : ReqId) (rest : List ReqId) (hand : List Made) (s : Seen) (tab : IsTab run (req ∷ rest) hand s) (q : Asked) (nav : NavId) (mode : Mode) (address : List ℕ) (is : IsToLoad s req q nav mode address) (b : Asked) (starts : b.is_started ≡ true) (state : StateId) (owns : b.state ≡ Some state) (fresh : IsFreshState s state) where
  -- nothing was made of it
  unmade : q.made ≡ None
  unmade = tab.fragments.unsent req q is.there (ap is_load is.what) is.unsent

  -- what holds of the tab holds with that load on its way
  pub load_passed_tab : IsTab run rest hand (with_begun s req b)
  load_passed_tab =
      load_tab run req rest hand s tab q nav mode address (record {
        there = is.there;
        what = is.what;
        open_ = is.open_;
        placed = is.placed;
        unsent = is.unsent;
      }) b starts (fresh_loading s tab.loading req q nav mode address is unmade b state owns fresh)
