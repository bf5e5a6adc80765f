-- Over a replace the targets of other navigables stay, and where the replaced entry was the target of its own, the new one is.
use Rattle.std.proofs.Common.{◌≡◌, inl, inr, ℕ, Bool, true, false, cond, ◌&&◌, ◌==◌, List, [], ◌∷◌, length, fold, map, Option, Some, None, refl, sym, ap, ◌∙◌, subst}
use Rattle.std.specs.Prelude.{filter, nat_le, nat_lt, option_map}
use Rattle.tab_ids.specs.declared.EntryId.{EntryId}
use Rattle.tab_ids.specs.declared.NavId.{NavId}
use Rattle.log_model.specs.declared.change.Change.TheVariants as changes
use Rattle.log_model.specs.declared.row.Row.{Row}
use Rattle.log_model.specs.Equal.{holds}
use Rattle.log_model.specs.AfterPlaces.{given_entry}
use Rattle.log_model.specs.History.{History, same_entry, is_of, has_row, is_anchored, tidied, replaced_row, later_row, target_entry, applied}
use Rattle.log_model.specs.Places.{is_given_target}
use Rattle.log_model.specs.Seen.{Seen, Document, Place}
use Rattle.log_model.specs.Soundness.{IsSound}
use Rattle.log_model.proofs.Refl.{nat_eq_refl}
use Rattle.seen_facts.specs.Hang.Forms.{Form}
use Rattle.seen_facts.specs.Hang.Hanging.{HangIn}
use Rattle.seen_facts.specs.Hang.Members.{Has}
use Rattle.seen_facts.proofs.Hang.Forms.{nav_is}
use Rattle.seen_facts.proofs.Hang.Members.{IsOf, Passing, has_map, any_has, has_tidied, into_tidied}
use Rattle.seen_facts.proofs.Hang.Parts.{owner_is}
use Rattle.seen_facts.proofs.Hang.Targets.{target_has}
use Rattle.tab_facts.proofs.FrameTab.Stating.{anchored_alike, puts_nav, puts_step, puts_owner}
use Rattle.tab_facts.proofs.FrameTab.Aims.{times_of, latest, target_own}
use Rattle.tab_facts.proofs.FrameTab.Pushings.{gives, KeepsTargets}

module _ (f : Row → Row) where
  -- a test that the change leaves
  filter_map_ : (p : Row → Bool) → ((x : Row) → p (f x) ≡ p x) → (xs : List Row) → filter p (map f xs) ≡ map f (filter p xs)
  filter_map_ p same [] = refl
  filter_map_ p same (x ∷ xs) = by_test (p x) (same x) (filter_map_ p same xs)
    where
      by_test : (b : Bool) → p (f x) ≡ b → filter p (map f xs) ≡ map f (filter p xs) → filter p (map f (x ∷ xs)) ≡ map f (let l : List Row = cond b (x ∷ filter p xs) (filter p xs) in l)
      by_test true e rest = rw e (ap (λ (l : List Row). f x ∷ l) rest)
      by_test false e rest = rw e rest

  -- rows that pass are left alone
  same_map : (xs : List Row) → ((x : Row) → Has xs x → f x ≡ x) → map f xs ≡ xs
  same_map [] on = refl
  same_map (x ∷ xs) on = ap (λ (y : Row). y ∷ map f xs) (on x (inl refl)) ∙ ap (λ (l : List Row). x ∷ l) (same_map xs (λ y there. on y (inr there)))

  -- the latest of changed rows is the changed latest
  fold_map : ((x : Row) → (f x).step ≡ x.step) → (best : Option Row) (xs : List Row) → fold later_row (option_map f best) (map f xs) ≡ option_map f (fold later_row best xs)
  fold_map step best [] = refl
  fold_map step None (x ∷ xs) = fold_map step (Some x) xs
  fold_map step (Some b) (x ∷ xs) =
      ap (λ (t : Bool). fold later_row (let o : Option Row = cond t (Some (f x)) (Some (f b)) in o) (map f xs)) (let same : nat_lt (f b).step.0 (f x).step.0 ≡ nat_lt b.step.0 x.step.0 = rw (step b, step x) refl in same)
      ∙ by_test (nat_lt b.step.0 x.step.0) (fold_map step (Some x) xs) (fold_map step (Some b) xs)
    where
      by_test : (t : Bool) → fold later_row (Some (f x)) (map f xs) ≡ option_map f (fold later_row (Some x) xs) → fold later_row (Some (f b)) (map f xs) ≡ option_map f (fold later_row (Some b) xs) → fold later_row (let o : Option Row = cond t (Some (f x)) (Some (f b)) in o) (map f xs) ≡ option_map f (fold later_row (let o : Option Row = cond t (Some x) (Some b) in o) xs)
      by_test true new old = new
      by_test false new old = old

module _ (s : Seen) (forms : List Form) (sound : IsSound s.history) (hang : HangIn s.history.rows forms) (d : Document) (over entry : EntryId) (memo : Option (List ℕ)) (address : List ℕ) where
  abbrev replaced_ : History
  replaced_ = applied s.history (changes.Replace d.nav over entry d.state address memo)

  abbrev put : Row
  put = record { owner = None; nav = d.nav; entry = entry; step = record { 0 = 0 }; state = d.state; address = address; memo = memo }

  abbrev f : Row → Row
  f row = replaced_row over put row

  nav_test : (nav : NavId) (x : Row) → is_of nav (replaced_row over put x) ≡ is_of nav x
  nav_test nav x = ap (λ (n : NavId). n.0 == nav.0) (puts_nav over put x)

  -- the rows of a navigable that is left
  rows_of : (nav : NavId) → has_row nav replaced_.rows ≡ true → filter (is_of nav) replaced_.rows ≡ map (replaced_row over put) (filter (is_of nav) s.history.rows)
  rows_of nav has =
      times_of nav (length (map (replaced_row over put) s.history.rows)) (map (replaced_row over put) s.history.rows) stays_
      ∙ filter_map_ (replaced_row over put) (is_of nav) (nav_test nav) s.history.rows
    where
      stays_ : (row : Row) → Has (map (replaced_row over put) s.history.rows) row → is_of nav row ≡ true → Has (tidied (map (replaced_row over put) s.history.rows)) row
      stays_ row there its =
          let a : Passing (is_of nav) replaced_.rows = any_has (is_of nav) replaced_.rows has in
          let t : Has (map (replaced_row over put) s.history.rows) a.it × (is_anchored (tidied (map (replaced_row over put) s.history.rows)) a.it ≡ true) = has_tidied (map (replaced_row over put) s.history.rows) a.it a.there in
          let x : IsOf (replaced_row over put) s.history.rows row = has_map (replaced_row over put) s.history.rows row there in
          let y : IsOf (replaced_row over put) s.history.rows a.it = has_map (replaced_row over put) s.history.rows a.it t.0 in
          let navs : x.it.nav ≡ y.it.nav = sym (puts_nav over put x.it) ∙ ap (λ (r : Row). r.nav) x.is ∙ nav_is row.nav nav its ∙ sym (nav_is a.it.nav nav a.passes) ∙ sym (ap (λ (r : Row). r.nav) y.is) ∙ puts_nav over put y.it in
          let owners : row.owner ≡ a.it.owner = sym (ap (λ (r : Row). r.owner) x.is) ∙ puts_owner over put x.it ∙ owner_is s.history.rows forms sound.rooted hang x.it y.it x.there y.there navs ∙ sym (puts_owner over put y.it) ∙ ap (λ (r : Row). r.owner) y.is in
          into_tidied (map (replaced_row over put) s.history.rows) row there (anchored_alike (tidied (map (replaced_row over put) s.history.rows)) row a.it owners ∙ t.1)

  -- so its target is what becomes of its target
  target_of : (nav : NavId) → has_row nav replaced_.rows ≡ true → target_entry replaced_.rows nav replaced_.current ≡ option_map (replaced_row over put) (target_entry s.history.rows nav s.history.current)
  target_of nav has =
      target_own replaced_.rows nav replaced_.current
      ∙ ap (λ (l : List Row). latest l s.history.current) (rows_of nav has)
      ∙ ap (λ (l : List Row). fold later_row None l) (filter_map_ (replaced_row over put) (λ (row : Row). nat_le row.step.0 s.history.current) (λ x. ap (λ n. nat_le n.0 s.history.current) (puts_step over put x)) (filter (is_of nav) s.history.rows))
      ∙ fold_map (replaced_row over put) (puts_step over put) None (filter (λ (row : Row). nat_le row.step.0 s.history.current) (filter (is_of nav) s.history.rows))
      ∙ sym (ap (λ (o : Option Row). option_map (replaced_row over put) o) (target_own s.history.rows nav s.history.current))

  pub replace_keeps : (place : Place) → place.nav ≡ d.nav → place.given ≡ Some over → KeepsTargets s replaced_ d.nav (gives d.nav entry) place
  replace_keeps place own_nav given =
      record {
        others = λ other apart has. target_of other has ∙ left_alone other apart (target_entry s.history.rows other s.history.current) (λ row e. (target_has s.history.rows other s.history.current row e).nav_is);
        own = λ was has. own_target (target_entry s.history.rows place.nav s.history.current) refl was has;
      }
    where
      left_alone : (other : NavId) → (other.0 == d.nav.0) ≡ false → (o : Option Row) → ((row : Row) → o ≡ Some row → row.nav ≡ other) → option_map (replaced_row over put) o ≡ o
      left_alone other apart None its = refl
      left_alone other apart (Some row) its =
          let no_ : is_of d.nav row ≡ false = ap (λ (n : NavId). n.0 == d.nav.0) (its row refl) ∙ apart in
          ap (λ (r : Row). Some r) (by_entry (same_entry row.entry over) (is_of d.nav row) no_)
        where
          by_entry : (a b : Bool) → b ≡ false → (let x : Row = cond (a && b) (record put { owner = row.owner; step = row.step }) row in x) ≡ row
          by_entry true true e = absurd cc
          by_entry true false e = refl
          by_entry false b e = refl

      here : (place.nav.0 == d.nav.0) ≡ true
      here = subst (λ (n : NavId). (n.0 == d.nav.0) ≡ true) (sym own_nav) (nat_eq_refl d.nav.0)

      own_target : (o : Option Row) → target_entry s.history.rows place.nav s.history.current ≡ o → is_given_target s.history.rows s.history.current place ≡ true → has_row d.nav replaced_.rows ≡ true → is_given_target replaced_.rows replaced_.current (gives d.nav entry place) ≡ true
      own_target None e was has = (let never : false ≡ true = sym (ap (λ (o : Option Row). holds (λ (row : Row). holds (same_entry row.entry) place.given) o) e) ∙ was in absurd cc)
      own_target (Some row) e was has =
          let now : gives d.nav entry place ≡ given_entry entry place = ap (λ (b : Bool). cond b (given_entry entry place) place) here in
          let its : same_entry row.entry over ≡ true = sym (ap (λ (o : Option EntryId). holds (same_entry row.entry) o) given) ∙ sym (ap (λ (o : Option Row). holds (λ (r : Row). holds (same_entry r.entry) place.given) o) e) ∙ was in
          let navs : is_of d.nav row ≡ true = ap (λ (n : NavId). n.0 == d.nav.0) (target_has s.history.rows place.nav s.history.current row e).nav_is ∙ here in
          let put_ : replaced_row over put row ≡ record put { owner = row.owner; step = row.step } = rw (its, navs) refl in
          let target : target_entry replaced_.rows place.nav replaced_.current ≡ Some (record put { owner = row.owner; step = row.step }) = target_of place.nav (ap (λ (n : NavId). has_row n replaced_.rows) own_nav ∙ has) ∙ ap (λ (o : Option Row). option_map (replaced_row over put) o) e ∙ ap (λ (r : Row). Some r) put_ in
          ap (λ (p : Place). is_given_target replaced_.rows replaced_.current p) now
          ∙ ap (λ (o : Option Row). holds (λ (r : Row). same_entry r.entry entry) o) target
          ∙ (let same : same_entry entry entry ≡ true = rw (nat_eq_refl entry.maker, nat_eq_refl entry.nr) refl in same)
