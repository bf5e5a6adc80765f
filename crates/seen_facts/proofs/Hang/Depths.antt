-- Those above a navigable with entries have entries, and aren't more than there are entries.
use Rattle.std.proofs.Common.{◌≡◌, ◌⊎◌, inl, inr, ◌≤◌, ◌<◌, Bool, true, false, not, ◌||◌, cond, List, [], ◌∷◌, length, refl, sym, ap, ◌∙◌, subst, arith, Option, Some, None, ◌==◌}
use Rattle.std.specs.Prelude.{filter}
use Rattle.std.specs.List.{list_any}
use Rattle.tab_ids.specs.declared.NavId.{NavId}
use Rattle.tab_ids.specs.declared.StateId.{StateId}
use Rattle.log_model.specs.declared.row.Row.{Row}
use Rattle.log_model.specs.History.{History, is_of, has_row}
use Rattle.log_model.specs.Soundness.{IsSound}
use Rattle.log_model.proofs.Refl.{nat_eq_refl}
use Rattle.history_laws.proofs.Tidying.{free}
use Rattle.seen_facts.specs.Hang.Members.{Has}
use Rattle.seen_facts.specs.Hang.Forms.{Form, form_in, AreLinked, AreWoven}
use Rattle.seen_facts.specs.Hang.Hanging.{HangIn}
use Rattle.seen_facts.proofs.Hang.Forms.{nav_is, form_found}
use Rattle.seen_facts.proofs.Hang.Members.{is_in, any_has, has_any, into_filter}
use Rattle.seen_facts.proofs.Hang.Parts.{nav_number, state_is}
use Rattle.seen_facts.proofs.Hang.Changes.{anchor}

-- ---- lists

abbrev pub AreDifferent : List NavId → Type 0
AreDifferent [] = Unit {0}
AreDifferent (nav ∷ navs) = (Has navs nav → ⊥) × AreDifferent navs

fewer : {A : Type 0} (p : A → Bool) (xs : List A) → length (filter p xs) ≤ length xs
fewer p [] = omega arith
fewer p (x ∷ xs) = by_test (p x) (fewer p xs)
  where
    by_test : (b : Bool) → length (filter p xs) ≤ length xs → length (cond b (x ∷ filter p xs) (filter p xs)) ≤ length (x ∷ xs)
    by_test true rest = omega (arith, rest)
    by_test false rest = omega (arith, rest)

one_fewer : {A : Type 0} (p : A → Bool) (xs : List A) → list_any (λ x. not (p x)) xs ≡ true → length (filter p xs) < length xs
one_fewer p [] any = cc
one_fewer p (x ∷ xs) any = by_test (p x) any (fewer p xs) (one_fewer p xs)
  where
    by_test : (b : Bool) → (not b || list_any (λ y. not (p y)) xs) ≡ true → length (filter p xs) ≤ length xs → (list_any (λ y. not (p y)) xs ≡ true → length (filter p xs) < length xs) → length (cond b (x ∷ filter p xs) (filter p xs)) < length (x ∷ xs)
    by_test true any rest more = let l : length (filter p xs) < length xs = more any in omega (arith, l)
    by_test false any rest more = omega (arith, rest)

-- different navigables with entries aren't more than there are entries
pub several : (navs : List NavId) (rows : List Row) → AreDifferent navs → ((nav : NavId) → Has navs nav → has_row nav rows ≡ true) → length navs ≤ length rows
several [] rows apart each = omega arith
several (nav ∷ navs) rows apart each =
    let less : length (filter others rows) < length rows = one_fewer others rows any in
    let rest : length navs ≤ length (filter others rows) = several navs (filter others rows) apart.1 left in
    omega (arith, less, rest)
  where
    others : Row → Bool
    others row = not (is_of nav row)

    twice : (b : Bool) → b ≡ true → not (not b) ≡ true
    twice true e = refl
    twice false e = e

    any : list_any (λ row. not (others row)) rows ≡ true
    any = let a = any_has (is_of nav) rows (each nav (inl refl)) in has_any (λ row. not (others row)) rows a.it a.there (twice (is_of nav a.it) a.passes)

    left : (other : NavId) → Has navs other → has_row other (filter others rows) ≡ true
    left other there =
        let a = any_has (is_of other) rows (each other (inr there)) in
        has_any (is_of other) (filter others rows) a.it (into_filter others rows a.it a.there (stays a.it (nav_is a.it.nav other a.passes) (is_of nav a.it) refl)) a.passes
      where
        stays : (row : Row) → row.nav ≡ other → (b : Bool) → is_of nav row ≡ b → not (is_of nav row) ≡ true
        stays row same false e = ap not e
        stays row same true e =
            let one : nav ≡ other = sym (nav_is row.nav nav e) ∙ same in
            absurd (apart.0 (subst (λ (n : NavId). Has navs n) (sym one) there))

-- ---- ways

-- a navigable on a way is below fewer than the way has
pub way_shorter : (forms : List Form) (above : List NavId) (nav : NavId) (form : Form) → AreLinked forms above → Has above nav → form_in forms nav ≡ Some form → length form.above < length above
way_shorter forms [] nav form linked h found = absurd h
way_shorter forms (first ∷ above) nav form linked (inl same) found =
    let both : Some linked.0.form ≡ Some form = sym linked.0.found ∙ ap (λ (n : NavId). form_in forms n) same ∙ found in
    let one : linked.0.form ≡ form = cc in
    let long : length form.above ≡ length above = ap (λ (f : Form). length f.above) (sym one) ∙ ap (λ (l : List NavId). length l) linked.0.above_is in
    omega (arith, long)
way_shorter forms (first ∷ above) nav form linked (inr more) found =
    let rest : length form.above < length above = way_shorter forms above nav form linked.1 more found in omega (arith, rest)

pub ways_differ : (forms : List Form) (above : List NavId) → AreLinked forms above → AreDifferent above
ways_differ forms [] linked = tt
ways_differ forms (nav ∷ above) linked = (
  λ there.
      let less : length linked.0.form.above < length above = way_shorter forms above nav linked.0.form linked.1 there linked.0.found in
      let long : length linked.0.form.above ≡ length above = ap (λ (l : List NavId). length l) linked.0.above_is in
      absurd (omega (arith, less, long)),
  ways_differ forms above linked.1,
)

module _ (history : History) (forms : List Form) (sound : IsSound history) (woven : AreWoven history.added forms) (hang : HangIn history.rows forms) where
  -- a navigable that isn't the top hangs on an owner, whose entries are its parent's
  pub record IsBelow (row : Row) (parent : NavId) : Type 0 where
    pub owner : StateId
    pub owner_is : row.owner ≡ Some owner
    pub holder : Row
    pub there : Has history.rows holder
    pub its_state : holder.state ≡ owner
    pub nav_is_its : holder.nav ≡ parent

  pub below : (row : Row) (form : Form) (parent : NavId) (above : List NavId) → Has history.rows row → form_in forms row.nav ≡ Some form → form.above ≡ parent ∷ above → IsBelow row parent
  below row form parent above there found is = by_owner row.owner refl
    where
      by_owner : (o : Option StateId) → row.owner ≡ o → IsBelow row parent
      by_owner None e =
          let at_top : row.nav.0 ≡ 0 = sound.rooted.child_owner row.nav (free history.rows sound.rooted row e (is_in history.rows row there)) in
          let same : form.nav.0 ≡ row.nav.0 = nav_number form.nav row.nav (form_found forms row.nav form found) in
          absurd ((woven.each row.nav form found).child parent above is (same ∙ at_top))
      by_owner (Some owner) e =
          let a = anchor history forms sound hang row owner there e in
          let states : a.it.state ≡ owner = state_is a.it.state owner a.passes in
          record {
            owner = owner;
            owner_is = e;
            holder = a.it;
            there = a.there;
            its_state = states;
            nav_is_its = hang.holders row a.it form parent above there a.there found is (e ∙ ap (λ (x : StateId). Some x) (sym states));
          }

  all_above : (above : List NavId) (row : Row) (form : Form) → Has history.rows row → form_in forms row.nav ≡ Some form → form.above ≡ above → AreLinked forms above → (nav : NavId) → Has above nav → has_row nav history.rows ≡ true
  all_above [] row form there found is linked nav h = absurd h
  all_above (parent ∷ above) row form there found is linked nav h =
      let b : IsBelow row parent = below row form parent above there found is in
      let own : has_row parent history.rows ≡ true = has_any (is_of parent) history.rows b.holder b.there (subst (λ (n : NavId). (b.holder.nav.0 == n.0) ≡ true) b.nav_is_its (nat_eq_refl b.holder.nav.0)) in
      let more : Has above nav → has_row nav history.rows ≡ true = λ there_. all_above above b.holder linked.0.form b.there (ap (λ (n : NavId). form_in forms n) b.nav_is_its ∙ linked.0.found) linked.0.above_is linked.1 nav there_ in
      by_case own more h
    where
      by_case : has_row parent history.rows ≡ true → (Has above nav → has_row nav history.rows ≡ true) → (parent ≡ nav) ⊎ Has above nav → has_row nav history.rows ≡ true
      by_case own rest (inl same) = subst (λ (n : NavId). has_row n history.rows ≡ true) same own
      by_case own rest (inr more) = rest more

  pub depth : (row : Row) (form : Form) → Has history.rows row → form_in forms row.nav ≡ Some form → length form.above ≤ length history.rows
  depth row form there found =
      several form.above history.rows (ways_differ forms form.above (woven.linked row.nav form found)) (all_above form.above row form there found refl (woven.linked row.nav form found))
