-- The document states of a tab of frames stay as they are where each row of a changed history is of a navigable and document state that had a row.
use Rattle.std.proofs.Common.{◌≡◌, ◌⊎◌, inl, inr, ℕ, ◌≤◌, Bool, true, false, cond, not, ◌&&◌, ◌==◌, List, [], ◌∷◌, ◌++◌, map, Option, refl, sym, ap, ◌∙◌, subst, arith}
use Rattle.std.specs.Prelude.{filter, nat_le}
use Rattle.std.specs.List.{list_any}
use Rattle.std.specs.Option.{option_map_or}
use Rattle.std.proofs.lemmas.Bool.Decides.{nat_tests}
use Rattle.tab_ids.specs.declared.EntryId.{EntryId}
use Rattle.tab_ids.specs.declared.NavId.{NavId}
use Rattle.tab_ids.specs.declared.StateId.{StateId}
use Rattle.log_model.specs.declared.row.Row.{Row}
use Rattle.log_model.specs.History.{History, same_entry, is_of, has_row, has_state, is_anchored, tidied, cleared, replaced_row}
use Rattle.log_model.specs.Seen.{Seen, Document}
use Rattle.log_model.specs.Soundness.{IsSound, IsRooted}
use Rattle.seen_facts.specs.Hang.Forms.{Form}
use Rattle.seen_facts.specs.Hang.Hanging.{BeginsBy, HangIn}
use Rattle.seen_facts.specs.Hang.Members.{Has}
use Rattle.seen_facts.proofs.Hang.Forms.{nav_is}
use Rattle.seen_facts.proofs.Hang.Members.{IsOf, Passing, has_filter, into_filter, has_map, into_map, has_more, into_more, any_has, has_any, has_tidied, into_tidied}
use Rattle.seen_facts.proofs.Hang.Parts.{owner_is}
use Rattle.seen_facts.proofs.Rest.Again.{WasOf, was_of}
use Rattle.tab_facts.specs.FrameTab.Numbers.{EachBegins, IsOfGivenState, IsOfItsRows, AreListed, AreStated}

-- a row was there, of the navigable and in the document state
pub record WasRow (rows : List Row) (row : Row) : Type 0 where
  pub old : Row
  pub there : Has rows old
  pub nav : row.nav ≡ old.nav
  pub state : row.state ≡ old.state

-- a navigable with a row had one, where each row was there
pub rows_were : (rows new : List Row) → ((row : Row) → Has new row → WasRow rows row) → (nav : NavId) → has_row nav new ≡ true → has_row nav rows ≡ true
rows_were rows new were nav has =
    let a : Passing (is_of nav) new = any_has (is_of nav) new has in
    let w : WasRow rows a.it = were a.it a.there in
    has_any (is_of nav) rows w.old w.there (ap (λ (n : NavId). n.0 == nav.0) (sym w.nav) ∙ a.passes)

pub itself_was : (rows : List Row) (row : Row) → Has rows row → WasRow rows row
itself_was rows row there = record { old = row; there = there; nav = refl; state = refl }

pub stated_rows : (s t : Seen) (g : Document → Document) → ((d : Document) → (g d).nr ≡ d.nr) → ((d : Document) → (g d).nav ≡ d.nav) → ((d : Document) → (g d).state ≡ d.state) → t.documents ≡ map g s.documents → ((row : Row) → Has t.history.rows row → WasRow s.history.rows row) → EachBegins t.history.rows → t.states ≡ s.states → t.initial_states ≡ s.initial_states → AreListed t.history t.places → AreStated s → AreStated t
stated_rows s t g nr nav state documents were begins states initial listed are =
    record {
      one = λ a b here there same.
          let x : WasRow s.history.rows a = were a here in
          let y : WasRow s.history.rows b = were b there in
          x.state ∙ are.one x.old y.old x.there y.there (sym x.nav ∙ same ∙ y.nav) ∙ sym y.state;
      begins = begins;
      given = λ row there.
          let x : WasRow s.history.rows row = were row there in
          let is : IsOfGivenState s.states s.initial_states x.old = are.given x.old x.there in
          record {
            real = subst (λ (n : StateId). 1 ≤ n.0) (sym x.state) is.real;
            given = subst (λ (n : ℕ). row.state.0 ≤ n) (sym states) (subst (λ (n : StateId). n.0 ≤ s.states) (sym x.state) is.given);
            blank = λ child. subst (λ (l : List StateId). list_any (λ (i : StateId). i.0 == row.state.0) l ≡ true) (sym initial) (subst (λ (n : StateId). list_any (λ (i : StateId). i.0 == n.0) s.initial_states ≡ true) (sym x.state) (is.blank (λ e. child (x.nav ∙ e))));
          };
      documents = λ doc d found.
          let w : WasOf s g doc d = was_of s t g nr documents doc d found in
          subst (λ (x : Document). IsOfItsRows t.history.rows t.states x) w.is (its w.before (are.documents doc w.before w.there));
      listed = listed;
    }
  where
    its : (d : Document) → IsOfItsRows s.history.rows s.states d → IsOfItsRows t.history.rows t.states (g d)
    its d is =
        record {
          rows_ = λ row there same.
              let x : WasRow s.history.rows row = were row there in
              x.state ∙ is.rows_ x.old x.there (sym x.nav ∙ same ∙ nav d) ∙ sym (state d);
          given = subst (λ (n : ℕ). (g d).state.0 ≤ n) (sym states) (subst (λ (x : StateId). x.0 ≤ s.states) (sym (state d)) is.given);
        }

-- ---- each navigable goes on beginning at the first step

pub anchored_alike : (rows : List Row) (a b : Row) → a.owner ≡ b.owner → is_anchored rows a ≡ is_anchored rows b
anchored_alike rows a b same = ap (λ (o : Option StateId). option_map_or (λ (owner : StateId). has_state owner rows) o true) same

-- the rows that pass a test, tidied
pub part_begins : (whole : List Row) (forms : List Form) (rooted : IsRooted whole) (hang : HangIn whole forms) (p : Row → Bool) → ((row first : Row) → p row ≡ true → first.nav ≡ row.nav → first.step.0 ≤ 0 → p first ≡ true) → EachBegins whole → EachBegins (tidied (filter p whole))
part_begins whole forms rooted hang p on begins row has =
    let t : Has (filter p whole) row × (is_anchored (tidied (filter p whole)) row ≡ true) = has_tidied (filter p whole) row has in
    let f : Has whole row × (p row ≡ true) = has_filter p whole row t.0 in
    let b : BeginsBy whole row.nav 0 = begins row f.0 in
    let kept : Has (filter p whole) b.row = into_filter p whole b.row b.there (on row b.row f.1 b.nav_is b.by) in
    record {
      row = b.row;
      there = into_tidied (filter p whole) b.row kept (anchored_alike (tidied (filter p whole)) b.row row (owner_is whole forms rooted hang b.row row b.there f.0 b.nav_is) ∙ t.1);
      nav_is = b.nav_is;
      by = b.by;
    }

pub cleared_begins : (history : History) (forms : List Form) → IsSound history → HangIn history.rows forms → EachBegins history.rows → EachBegins (cleared history)
cleared_begins history forms sound hang begins =
    part_begins history.rows forms sound.rooted hang (λ (row : Row). nat_le row.step.0 history.current)
    (λ row first low same by. (let yes : nat_le first.step.0 history.current ≡ true = grind (arith, nat_tests, by) in yes)) begins

pub removed_begins : (history : History) (forms : List Form) (nav : NavId) → IsSound history → HangIn history.rows forms → EachBegins history.rows → EachBegins (tidied (filter (λ (row : Row). not (is_of nav row)) history.rows))
removed_begins history forms nav sound hang begins =
    part_begins history.rows forms sound.rooted hang (λ (row : Row). not (is_of nav row))
    (λ row first other same by. ap (λ (n : NavId). not (n.0 == nav.0)) same ∙ other) begins

-- one row more, of a navigable that has one
pub more_begins : (rows : List Row) (new : Row) → has_row new.nav rows ≡ true → EachBegins rows → EachBegins (rows ++ new ∷ [])
more_begins rows new has begins row there = by_case (has_more rows new row there)
  where
    on : (r : Row) → Has rows r → BeginsBy (rows ++ new ∷ []) r.nav 0
    on r in_ = let b : BeginsBy rows r.nav 0 = begins r in_ in record { row = b.row; there = into_more rows new b.row b.there; nav_is = b.nav_is; by = b.by }

    by_case : Has rows row ⊎ (new ≡ row) → BeginsBy (rows ++ new ∷ []) row.nav 0
    by_case (inl old) = on row old
    by_case (inr same) =
        let a : Passing (is_of new.nav) rows = any_has (is_of new.nav) rows has in
        let navs : a.it.nav ≡ row.nav = nav_is a.it.nav new.nav a.passes ∙ ap (λ (r : Row). r.nav) same in
        subst (λ (n : NavId). BeginsBy (rows ++ new ∷ []) n 0) navs (on a.it a.there)

-- rows that keep navigable, step and owner, tidied
pub mapped_begins : (whole : List Row) (forms : List Form) (rooted : IsRooted whole) (hang : HangIn whole forms) (f : Row → Row) → ((row : Row) → (f row).nav ≡ row.nav) → ((row : Row) → (f row).step ≡ row.step) → ((row : Row) → (f row).owner ≡ row.owner) → EachBegins whole → EachBegins (tidied (map f whole))
mapped_begins whole forms rooted hang f nav step owner begins row has =
    let t : Has (map f whole) row × (is_anchored (tidied (map f whole)) row ≡ true) = has_tidied (map f whole) row has in
    let w : IsOf f whole row = has_map f whole row t.0 in
    let b : BeginsBy whole w.it.nav 0 = begins w.it w.there in
    let own : (f b.row).owner ≡ row.owner = owner b.row ∙ owner_is whole forms rooted hang b.row w.it b.there w.there b.nav_is ∙ sym (owner w.it) ∙ ap (λ (r : Row). r.owner) w.is in
    record {
      row = f b.row;
      there = into_tidied (map f whole) (f b.row) (into_map f whole b.row b.there) (anchored_alike (tidied (map f whole)) (f b.row) row own ∙ t.1);
      nav_is = nav b.row ∙ b.nav_is ∙ sym (nav w.it) ∙ ap (λ (r : Row). r.nav) w.is;
      by = subst (λ (n : ℕ). n ≤ 0) (sym (ap (λ x. x.0) (step b.row))) b.by;
    }

-- ---- a replaced row

module _ (over : EntryId) (put : Row) where
  abbrev pub puts : Row → Row
  puts row = replaced_row over put row

  module _ (row : Row) where
    by_tests : {B : Type 0} (read : Row → B) → (is_of put.nav row ≡ true → read (record put { owner = row.owner; step = row.step }) ≡ read row) → read (puts row) ≡ read row
    by_tests read same = by_both (same_entry row.entry over) (is_of put.nav row) refl
      where
        by_both : (a b : Bool) → is_of put.nav row ≡ b → read (let x : Row = cond (a && b) (record put { owner = row.owner; step = row.step }) row in x) ≡ read row
        by_both true true e = same e
        by_both true false e = refl
        by_both false b e = refl

    pub puts_nav : (puts row).nav ≡ row.nav
    puts_nav = by_tests (λ r. r.nav) (λ e. sym (nav_is row.nav put.nav e))

    pub puts_step : (puts row).step ≡ row.step
    puts_step = by_tests (λ r. r.step) (λ e. refl)

    pub puts_owner : (puts row).owner ≡ row.owner
    puts_owner = by_tests (λ r. r.owner) (λ e. refl)

    -- in the document state of the navigable's rows
    pub puts_state : (row.nav ≡ put.nav → row.state ≡ put.state) → (puts row).state ≡ row.state
    puts_state same = by_tests (λ r. r.state) (λ e. sym (same (nav_is row.nav put.nav e)))

-- ---- the rows of a changed history

pub was_cleared : (history : History) (row : Row) → Has (cleared history) row → Has history.rows row
was_cleared history row old = (has_filter (λ (r : Row). nat_le r.step.0 history.current) history.rows row (has_tidied (filter (λ (r : Row). nat_le r.step.0 history.current) history.rows) row old).0).0

pub pushed_were : (history : History) (new : Row) → ((row : Row) → Has history.rows row → row.nav ≡ new.nav → row.state ≡ new.state) → has_row new.nav (cleared history) ≡ true → (row : Row) → Has (cleared history ++ new ∷ []) row → WasRow history.rows row
pushed_were history new same has row there = by_case (has_more (cleared history) new row there)
  where
    by_case : Has (cleared history) row ⊎ (new ≡ row) → WasRow history.rows row
    by_case (inl old) = itself_was history.rows row (was_cleared history row old)
    by_case (inr is) =
        let a : Passing (is_of new.nav) (cleared history) = any_has (is_of new.nav) (cleared history) has in
        let navs : a.it.nav ≡ new.nav = nav_is a.it.nav new.nav a.passes in
        record {
          old = a.it;
          there = was_cleared history a.it a.there;
          nav = ap (λ (r : Row). r.nav) (sym is) ∙ sym navs;
          state = ap (λ (r : Row). r.state) (sym is) ∙ sym (same a.it (was_cleared history a.it a.there) navs);
        }

pub replaced_were : (rows : List Row) (over : EntryId) (put : Row) → ((row : Row) → Has rows row → row.nav ≡ put.nav → row.state ≡ put.state) → (row : Row) → Has (tidied (map (replaced_row over put) rows)) row → WasRow rows row
replaced_were rows over put same row there =
    let w : IsOf (replaced_row over put) rows row = has_map (replaced_row over put) rows row (has_tidied (map (replaced_row over put) rows) row there).0 in
    record {
      old = w.it;
      there = w.there;
      nav = ap (λ (r : Row). r.nav) (sym w.is) ∙ puts_nav over put w.it;
      state = ap (λ (r : Row). r.state) (sym w.is) ∙ puts_state over put w.it (same w.it w.there);
    }

pub removed_were : (rows : List Row) (nav : NavId) (row : Row) → Has (tidied (filter (λ (r : Row). not (is_of nav r)) rows)) row → WasRow rows row
removed_were rows nav row there =
    itself_was rows row (has_filter (λ (r : Row). not (is_of nav r)) rows row (has_tidied (filter (λ (r : Row). not (is_of nav r)) rows) row there).0).0
