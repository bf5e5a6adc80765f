-- The last order that showed each navigable a document, and that document, as places change or one more comes.
use Rattle.tab_doors.proofs.Keyed.{put_apart, put_itself}
use Rattle.tab_doors.specs.Ties.{AreRead}
use Rattle.indexmap.specs.IndexMap.{insert_entry}
use Rattle.log_model.specs.Seen.{Place, place_in}
use Rattle.nav_tree.specs.Tree.{is_nav}
use Rattle.seen_laws.proofs.Keyed.{find_has as seen_number, find_map}
use Rattle.std.proofs.Common.{Bool, List, None, Option, Some, [], ap, arith, cond, false, map, refl, subst, sym, true, ℕ, ◌++◌, ◌==◌, ◌∙◌, ◌∷◌, ◌≡◌}
use Rattle.std.proofs.lemmas.Bool.Decides.{nat_tests}
use Rattle.std.specs.Map.{lookup}
use Rattle.std.specs.Prelude.{is_some, option_and_then, option_map}
use Rattle.tab_ids.specs.declared.DocId.{DocId}
use Rattle.tab_ids.specs.declared.JobId.{JobId}
use Rattle.tab_ids.specs.declared.NavId.{NavId}

-- the order that showed a place its document last
abbrev pub order_last : Place → Option JobId
order_last p = p.last_job

-- that document
abbrev pub doc_last : Place → Option DocId
doc_last p = p.last

-- what is read of a place, if it is there
abbrev pub last_of : {B : Type 0} → (Place → Option B) → Option Place → Option B
last_of read o = option_and_then read o

module _ {B : Type 0} (read : Place → Option B) (places : List Place) (was : List (NavId × B)) (shown : AreRead read places was) (new : List Place) (now : List (NavId × B)) where
  -- neither changes
  pub shown_same : now ≡ was → new ≡ places → AreRead read new now
  shown_same same are = subst (λ (l : List (NavId × B)). AreRead read new l) (sym same) (subst (λ (l : List Place). AreRead read l was) (sym are) shown)

  -- places change but in that order
  pub shown_map : (f : Place → Place) → now ≡ was → new ≡ map f places → ((p : Place) → (f p).nav ≡ p.nav) → ((p : Place) → read (f p) ≡ read p) → AreRead read new now
  shown_map f same are navs lasts other =
      ap (λ (l : List (NavId × B)). lookup (is_nav other) l) same
      ∙ shown other
      ∙ sym (ap (λ (l : List Place). last_of read (place_in l other)) are ∙ ap (last_of read) (find_map (λ (p : Place). p.nav.0) f other.0 places (λ p. ap (λ (n : NavId). n.0) (navs p))) ∙ mapped (place_in places other))
    where
      mapped : (o : Option Place) → last_of read (option_map f o) ≡ last_of read o
      mapped None = refl
      mapped (Some p) = lasts p

  -- a place more, which was shown none
  pub shown_more : (p : Place) → now ≡ was → new ≡ places ++ p ∷ [] → read p ≡ None → AreRead read new now
  shown_more p same are none other =
      ap (λ (l : List (NavId × B)). lookup (is_nav other) l) same ∙ shown other ∙ sym (ap (λ (l : List Place). last_of read (place_in l other)) are ∙ found places)
    where
      found : (l : List Place) → last_of read (place_in (l ++ p ∷ []) other) ≡ last_of read (place_in l other)
      found [] = by_test (p.nav.0 == other.0)
        where
          by_test : (b : Bool) → last_of read (let o : Option Place = cond b (Some p) None in o) ≡ None
          by_test true = none
          by_test false = refl
      found (x ∷ l) = by_test (x.nav.0 == other.0) (found l)
        where
          by_test : (b : Bool) → last_of read (place_in (l ++ p ∷ []) other) ≡ last_of read (place_in l other) → last_of read (cond b (Some x) (place_in (l ++ p ∷ []) other)) ≡ last_of read (cond b (Some x) (place_in l other))
          by_test true more = refl
          by_test false more = more

  -- one is shown a document by this order
  pub shown_put : (f : Place → Place) (nav : NavId) (x : B) → now ≡ insert_entry is_nav was nav x → new ≡ map (λ (p : Place). cond (p.nav.0 == nav.0) (f p) p) places → ((p : Place) → (f p).nav ≡ p.nav) → ((p : Place) → read (f p) ≡ Some x) → is_some (place_in places nav) ≡ true → AreRead read new now
  shown_put f nav x noted are navs lasts there other =
      ap (λ (l : List (NavId × B)). lookup (is_nav other) l) noted
      ∙ by_test (nav.0 == other.0) refl
      ∙ sym (ap (λ (l : List Place). last_of read (place_in l other)) are ∙ ap (last_of read) (find_map (λ (p : Place). p.nav.0) g other.0 places (λ p. ap (λ (n : NavId). n.0) (g_nav p))))
    where
      g : Place → Place
      g p = cond (p.nav.0 == nav.0) (f p) p

      g_nav : (p : Place) → (g p).nav ≡ p.nav
      g_nav p = elim (p.nav.0 == nav.0) as (λ b. (let x : Place = cond b (f p) p in x).nav ≡ p.nav) [ true ↦ navs p | false ↦ refl ]

      own : (o : Option Place) → place_in places nav ≡ o → is_some o ≡ true → last_of read (option_map g o) ≡ Some x
      own None at some = absurd cc
      own (Some p) at some =
          let number : p.nav.0 ≡ nav.0 = seen_number (λ (x : Place). x.nav.0) nav.0 places p at in
          let is : (p.nav.0 == nav.0) ≡ true = grind (arith, nat_tests, number) in
          ap (λ (b : Bool). read (cond b (f p) p)) is ∙ lasts p

      else_ : (nav.0 == other.0) ≡ false → (o : Option Place) → place_in places other ≡ o → last_of read (option_map g o) ≡ last_of read o
      else_ apart None at = refl
      else_ apart (Some p) at =
          let number : p.nav.0 ≡ other.0 = seen_number (λ (x : Place). x.nav.0) other.0 places p at in
          let is : (p.nav.0 == nav.0) ≡ false = grind (arith, nat_tests, number, apart) in
          ap (λ (b : Bool). read (cond b (f p) p)) is

      by_test : (b : Bool) → (nav.0 == other.0) ≡ b → lookup (is_nav other) (insert_entry is_nav was nav x) ≡ last_of read (option_map g (place_in places other))
      by_test true is =
          let it : nav ≡ other = ap (λ (n : ℕ). let x : NavId = record { 0 = n } in x) (grind (arith, nat_tests, is)) in
          subst (λ (m : NavId). lookup (is_nav m) (insert_entry is_nav was nav x) ≡ last_of read (option_map g (place_in places m))) it (put_itself (λ (x : NavId). x.0) was nav x ∙ sym (own (place_in places nav) refl there))
      by_test false apart = put_apart (λ (x : NavId). x.0) was nav other x apart ∙ shown other ∙ sym (else_ apart (place_in places other) refl)
