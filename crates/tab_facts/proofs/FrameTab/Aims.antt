-- Over a push the targets of other navigables stay, and the pushed entry is the target of its own.
use Rattle.std.proofs.Common.{◌≡◌, inl, inr, ℕ, zero, suc, ◌+◌, ◌<◌, Bool, true, false, cond, ◌&&◌, ◌||◌, ◌==◌, List, [], ◌∷◌, ◌++◌, length, fold, Option, Some, None, refl, sym, ap, ◌∙◌, subst, arith, append-nil}
use Rattle.std.specs.Prelude.{filter, nat_le, nat_lt}
use Rattle.std.proofs.lemmas.Bool.Decides.{nat_tests}
use Rattle.std.proofs.lemmas.List.Elements.{filter-append}
use Rattle.tab_ids.specs.declared.EntryId.{EntryId}
use Rattle.tab_ids.specs.declared.NavId.{NavId}
use Rattle.log_model.specs.declared.change.Change.TheVariants as changes
use Rattle.log_model.specs.declared.row.Row.{Row}
use Rattle.log_model.specs.Equal.{holds}
use Rattle.log_model.specs.History.{History, same_entry, is_of, has_row, is_anchored, tidied_once, tidied_times, tidied, cleared, owner_of, later_row, target_entry, applied}
use Rattle.log_model.specs.Places.{is_given_target}
use Rattle.log_model.specs.Seen.{Seen, Document, Place}
use Rattle.log_model.specs.Soundness.{IsSound}
use Rattle.log_model.proofs.Refl.{nat_eq_refl}
use Rattle.seen_facts.specs.Hang.Forms.{Form}
use Rattle.seen_facts.specs.Hang.Hanging.{HangIn}
use Rattle.seen_facts.specs.Hang.Members.{Has}
use Rattle.seen_facts.proofs.Hang.Forms.{nav_is}
use Rattle.seen_facts.proofs.Hang.Members.{Passing, has_filter, any_has, has_tidied, into_tidied}
use Rattle.seen_facts.proofs.Hang.Parts.{owner_is}
use Rattle.std.specs.List.{list_any}
use Rattle.log_model.specs.AfterPlaces.{given_entry}
use Rattle.tab_facts.proofs.FrameTab.Stating.{anchored_alike}
use Rattle.tab_facts.proofs.FrameTab.Pushings.{gives, KeepsTargets}

-- ---- lists

-- those that pass a test are all left by another one
pub filter_in : {A : Type 0} (p q : A → Bool) (xs : List A) → ((x : A) → Has xs x → p x ≡ true → q x ≡ true) → filter p (filter q xs) ≡ filter p xs
filter_in p q [] on = refl
filter_in {A} p q (x ∷ xs) on = by_tests (p x) (q x) refl refl (filter_in p q xs (λ y there yes. on y (inr there) yes))
  where
    by_tests : (a b : Bool) → p x ≡ a → q x ≡ b → filter p (filter q xs) ≡ filter p xs → filter p (filter q (x ∷ xs)) ≡ filter p (x ∷ xs)
    by_tests true true e f rest = rw f (rw e (ap (λ (l : List A). x ∷ l) rest))
    by_tests true false e f rest = (let never : true ≡ false = sym (on x (inl refl) e) ∙ f in absurd cc)
    by_tests false true e f rest = rw f (rw e rest)
    by_tests false false e f rest = rw f (rw e rest)

-- one test after another is both
filter_both : {A : Type 0} (p q : A → Bool) (xs : List A) → filter (λ x. p x && q x) xs ≡ filter q (filter p xs)
filter_both p q [] = refl
filter_both {A} p q (x ∷ xs) = by_tests (p x) (q x) refl refl (filter_both p q xs)
  where
    by_tests : (a b : Bool) → p x ≡ a → q x ≡ b → filter (λ y. p y && q y) xs ≡ filter q (filter p xs) → filter (λ y. p y && q y) (x ∷ xs) ≡ filter q (filter p (x ∷ xs))
    by_tests true true e f rest = rw e (rw f (ap (λ (l : List A). x ∷ l) rest))
    by_tests true false e f rest = rw e (rw f rest)
    by_tests false b e f rest = rw e rest

-- ---- tidying leaves a navigable its rows, or none

has_times : (n : ℕ) (rows : List Row) (row : Row) → Has (tidied_times n rows) row → Has rows row
has_times zero rows row there = there
has_times (suc n) rows row there = (has_filter (is_anchored rows) rows row (has_times n (tidied_once rows) row there)).0

pub times_of : (nav : NavId) (n : ℕ) (rows : List Row) → ((row : Row) → Has rows row → is_of nav row ≡ true → Has (tidied_times n rows) row) → filter (is_of nav) (tidied_times n rows) ≡ filter (is_of nav) rows
times_of nav zero rows on = refl
times_of nav (suc n) rows on =
    times_of nav n (tidied_once rows) (λ row there its. on row (has_filter (is_anchored rows) rows row there).0 its)
    ∙ filter_in (is_of nav) (is_anchored rows) rows (λ row there its. (has_filter (is_anchored rows) rows row (has_times n (tidied_once rows) row (on row there its))).1)

-- of the rows that pass a test, those of a navigable that is left are left
pub part_of : (whole : List Row) (forms : List Form) (history : History) (same : history.rows ≡ whole) (sound : IsSound history) (hang : HangIn history.rows forms) (p : Row → Bool) (nav : NavId) → has_row nav (tidied (filter p history.rows)) ≡ true → filter (is_of nav) (tidied (filter p history.rows)) ≡ filter (is_of nav) (filter p history.rows)
part_of whole forms history same sound hang p nav has = times_of nav (length (filter p history.rows)) (filter p history.rows) stays
  where
    stays : (row : Row) → Has (filter p history.rows) row → is_of nav row ≡ true → Has (tidied (filter p history.rows)) row
    stays row there its =
        let a : Passing (is_of nav) (tidied (filter p history.rows)) = any_has (is_of nav) (tidied (filter p history.rows)) has in
        let t : Has (filter p history.rows) a.it × (is_anchored (tidied (filter p history.rows)) a.it ≡ true) = has_tidied (filter p history.rows) a.it a.there in
        let navs : row.nav ≡ a.it.nav = nav_is row.nav nav its ∙ sym (nav_is a.it.nav nav a.passes) in
        let owners : row.owner ≡ a.it.owner = owner_is history.rows forms sound.rooted hang row a.it (has_filter p history.rows row there).0 (has_filter p history.rows a.it t.0).0 navs in
        into_tidied (filter p history.rows) row there (anchored_alike (tidied (filter p history.rows)) row a.it owners ∙ t.1)

-- the target among a navigable's rows
abbrev pub latest : List Row → ℕ → Option Row
latest own step = fold later_row None (filter (λ (row : Row). nat_le row.step.0 step) own)

pub target_own : (rows : List Row) (nav : NavId) (step : ℕ) → target_entry rows nav step ≡ latest (filter (is_of nav) rows) step
target_own rows nav step = ap (λ (l : List Row). fold later_row None l) (filter_both (is_of nav) (λ (row : Row). nat_le row.step.0 step) rows)

-- ---- a push

-- the last of rows with lower steps
latest_last : (best : Option Row) (rows : List Row) (new : Row) → ((row : Row) → best ≡ Some row → row.step.0 < new.step.0) → ((row : Row) → Has rows row → row.step.0 < new.step.0) → fold later_row best (rows ++ new ∷ []) ≡ Some new
latest_last None [] new low all = refl
latest_last (Some best) [] new low all =
    (let less : nat_lt best.step.0 new.step.0 ≡ true = (let l : best.step.0 < new.step.0 = low best refl in grind (arith, nat_tests, l)) in rw less refl)
latest_last None (row ∷ rows) new low all = latest_last (Some row) rows new (λ r e. subst (λ (x : Row). x.step.0 < new.step.0) (let same : row ≡ r = cc in same) (all row (inl refl))) (λ r there. all r (inr there))
latest_last (Some best) (row ∷ rows) new low all = by_test (nat_lt best.step.0 row.step.0) (latest_last (Some best) rows new low (λ r there. all r (inr there))) (latest_last (Some row) rows new (λ r e. subst (λ (x : Row). x.step.0 < new.step.0) (let same : row ≡ r = cc in same) (all row (inl refl))) (λ r there. all r (inr there)))
  where
    by_test : (b : Bool) → fold later_row (Some best) (rows ++ new ∷ []) ≡ Some new → fold later_row (Some row) (rows ++ new ∷ []) ≡ Some new → fold later_row (cond b (Some row) (Some best)) (rows ++ new ∷ []) ≡ Some new
    by_test true old now = now
    by_test false old now = old

module _ (history : History) (forms : List Form) (sound : IsSound history) (hang : HangIn history.rows forms) (new : Row) (next_ : new.step.0 ≡ history.current + 1) where
  abbrev low : Row → Bool
  low row = nat_le row.step.0 history.current

  abbrev by_next : Row → Bool
  by_next row = nat_le row.step.0 (history.current + 1)

  pub others_pushed : (nav : NavId) → (new.nav.0 == nav.0) ≡ false → has_row nav (cleared history) ≡ true → target_entry (cleared history ++ new ∷ []) nav (history.current + 1) ≡ target_entry history.rows nav history.current
  others_pushed nav apart has =
      target_own (cleared history ++ new ∷ []) nav (history.current + 1)
      ∙ ap (λ (l : List Row). latest l (history.current + 1))
      (filter-append (is_of nav) (cleared history) (new ∷ [])
      ∙ (let none : filter (is_of nav) (cleared history) ++ filter (is_of nav) (new ∷ []) ≡ filter (is_of nav) (cleared history) ++ [] = rw apart refl in none)
      ∙ append-nil (filter (is_of nav) (cleared history))
      ∙ part_of history.rows forms history refl sound hang (λ (row : Row). nat_le row.step.0 history.current) nav has)
      ∙ ap (λ (l : List Row). fold later_row None l) lists
      ∙ sym (target_own history.rows nav history.current)
    where
      lists : filter (λ (row : Row). nat_le row.step.0 (history.current + 1)) (filter (is_of nav) (filter (λ (row : Row). nat_le row.step.0 history.current) history.rows)) ≡ filter (λ (row : Row). nat_le row.step.0 history.current) (filter (is_of nav) history.rows)
      lists = by_list history.rows
        where
          by_list : (l : List Row) → filter (λ (row : Row). nat_le row.step.0 (history.current + 1)) (filter (is_of nav) (filter (λ (row : Row). nat_le row.step.0 history.current) l)) ≡ filter (λ (row : Row). nat_le row.step.0 history.current) (filter (is_of nav) l)
          by_list [] = refl
          by_list (row ∷ l) = by_tests (nat_le row.step.0 history.current) (is_of nav row) refl refl (by_list l)
            where
              by_tests : (a b : Bool) → nat_le row.step.0 history.current ≡ a → is_of nav row ≡ b → filter (λ (r : Row). nat_le r.step.0 (history.current + 1)) (filter (is_of nav) (filter (λ (r : Row). nat_le r.step.0 history.current) l)) ≡ filter (λ (r : Row). nat_le r.step.0 history.current) (filter (is_of nav) l) → filter (λ (r : Row). nat_le r.step.0 (history.current + 1)) (filter (is_of nav) (filter (λ (r : Row). nat_le r.step.0 history.current) (row ∷ l))) ≡ filter (λ (r : Row). nat_le r.step.0 history.current) (filter (is_of nav) (row ∷ l))
              by_tests true true e f rest = (let more : nat_le row.step.0 (history.current + 1) ≡ true = grind (arith, nat_tests, e) in rw e (rw f (rw more (rw e (ap (λ (k : List Row). row ∷ k) rest)))))
              by_tests true false e f rest = rw e (rw f rest)
              by_tests false true e f rest = rw e (rw f (rw e rest))
              by_tests false false e f rest = rw e (rw f rest)

  pub own_pushed : target_entry (cleared history ++ new ∷ []) new.nav (history.current + 1) ≡ Some new
  own_pushed =
      target_own (cleared history ++ new ∷ []) new.nav (history.current + 1)
      ∙ ap (λ (l : List Row). latest l (history.current + 1)) (filter-append (is_of new.nav) (cleared history) (new ∷ []) ∙ (let one : filter (is_of new.nav) (cleared history) ++ filter (is_of new.nav) (new ∷ []) ≡ filter (is_of new.nav) (cleared history) ++ new ∷ [] = rw (nat_eq_refl new.nav.0) refl in one))
      ∙ ap (λ (l : List Row). fold later_row None l) (filter-append (λ (row : Row). nat_le row.step.0 (history.current + 1)) (filter (is_of new.nav) (cleared history)) (new ∷ []) ∙ (let one : filter (λ (row : Row). nat_le row.step.0 (history.current + 1)) (filter (is_of new.nav) (cleared history)) ++ filter (λ (row : Row). nat_le row.step.0 (history.current + 1)) (new ∷ []) ≡ filter (λ (row : Row). nat_le row.step.0 (history.current + 1)) (filter (is_of new.nav) (cleared history)) ++ new ∷ [] = (let yes : nat_le new.step.0 (history.current + 1) ≡ true = grind (arith, nat_tests, next_) in rw yes refl) in one))
      ∙ latest_last None (filter (λ (row : Row). nat_le row.step.0 (history.current + 1)) (filter (is_of new.nav) (cleared history))) new (λ row never. absurd cc) less
    where
      less : (row : Row) → Has (filter (λ (r : Row). nat_le r.step.0 (history.current + 1)) (filter (is_of new.nav) (cleared history))) row → row.step.0 < new.step.0
      less row there =
          let a = (has_filter (is_of new.nav) (cleared history) row (has_filter (λ (r : Row). nat_le r.step.0 (history.current + 1)) (filter (is_of new.nav) (cleared history)) row there).0).0 in
          let b : Has history.rows row × (nat_le row.step.0 history.current ≡ true) = has_filter (λ (r : Row). nat_le r.step.0 history.current) history.rows row (has_tidied (filter (λ (r : Row). nat_le r.step.0 history.current) history.rows) row a).0 in
          (let is : nat_le row.step.0 history.current ≡ true = b.1 in grind (arith, nat_tests, is, next_))

-- ---- so a push keeps targets

any_less : {A : Type 0} (test : A → Bool) (l : List A) (x : A) → test x ≡ false → list_any test (l ++ x ∷ []) ≡ list_any test l
any_less test [] x e = rw e refl
any_less test (y ∷ l) x e = ap (λ (b : Bool). test y || b) (any_less test l x e)

module _ (s : Seen) (forms : List Form) (sound : IsSound s.history) (hang : HangIn s.history.rows forms) (d : Document) (entry : EntryId) (memo : Option (List ℕ)) (address : List ℕ) (place : Place) (own_nav : place.nav ≡ d.nav) where
  abbrev pushing_ : History
  pushing_ = applied s.history (changes.Push d.nav entry d.state address memo)

  abbrev put : Row
  put = record { owner = owner_of d.nav (cleared s.history); nav = d.nav; entry = entry; step = record { 0 = s.history.current + 1 }; state = d.state; address = address; memo = memo }

  pub push_keeps : KeepsTargets s pushing_ d.nav (gives d.nav entry) place
  push_keeps =
      record {
        others = λ other apart has.
            let turned : (d.nav.0 == other.0) ≡ false = grind (arith, nat_tests, apart) in
            others_pushed s.history forms sound hang put refl other turned (sym (any_less (is_of other) (cleared s.history) put turned) ∙ has);
        own = λ was has.
            let here : (place.nav.0 == d.nav.0) ≡ true = subst (λ (n : NavId). (n.0 == d.nav.0) ≡ true) (sym own_nav) (nat_eq_refl d.nav.0) in
            let now : gives d.nav entry place ≡ given_entry entry place = ap (λ (b : Bool). cond b (given_entry entry place) place) here in
            let target : target_entry pushing_.rows place.nav pushing_.current ≡ Some put = ap (λ (n : NavId). target_entry pushing_.rows n pushing_.current) own_nav ∙ own_pushed s.history forms sound hang put refl in
            ap (λ (p : Place). is_given_target pushing_.rows pushing_.current p) now
            ∙ ap (λ (o : Option Row). holds (λ (row : Row). same_entry row.entry entry) o) target
            ∙ (let same : same_entry entry entry ≡ true = rw (nat_eq_refl entry.maker, nat_eq_refl entry.nr) refl in same);
      }
