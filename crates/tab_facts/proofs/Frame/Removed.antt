-- When a document may remove a frame, and that each navigable with an entry has one at the first step, before and after.
use Rattle.tab_facts.specs.Frame.Taking.{IsToTakeUp}
use Rattle.tab_facts.proofs.Frame.Dues.{its_change}
use Rattle.seen_facts.proofs.Hang.Forms.{IsPlaceOf, nav_is, place_there}
use Rattle.seen_facts.proofs.Hang.Members.{Passing, any_has, find_has, has_any, has_found}
use Rattle.seen_facts.proofs.Hang.Parts.{owner_is}
use Rattle.seen_facts.proofs.Hang.Targets.{target_has, target_there}
use Rattle.seen_facts.specs.Hang.Forms.{forms_of}
use Rattle.seen_facts.specs.Hang.Hanging.{BeginsBy, Hangs}
use Rattle.tab_facts.specs.FrameTab.Numbers.{EachBegins}
use Rattle.log_model.proofs.Refl.{nat_eq_refl}
use Rattle.log_model.specs.Equal.{holds}
use Rattle.log_model.specs.History.{fits, has_nav, has_row, is_of, owner_of, target_entry}
use Rattle.log_model.specs.Once.{change_of_made, due_change}
use Rattle.log_model.specs.Seen.{Place, Seen, place_in}
use Rattle.log_model.specs.Soundness.{IsSound, hangs_on, is_owned_by}
use Rattle.log_model.specs.declared.change.Change.{Change}
use Rattle.log_model.specs.declared.made.Made.{Made}
use Rattle.log_model.specs.declared.made.What.{What}
use Rattle.log_model.specs.declared.row.Row.{Row}
use Rattle.std.proofs.Common.{Bool, List, None, Option, Some, [], ap, arith, cond, false, map, not, refl, sym, true, ◌&&◌, ◌==◌, ◌||◌, ◌∙◌, ◌∷◌, ◌≡◌}
use Rattle.std.proofs.lemmas.Bool.{and_parts}
use Rattle.std.proofs.lemmas.Bool.Decides.{nat_tests}
use Rattle.std.specs.Option.{option_map_or}
use Rattle.std.specs.Prelude.{find, is_some, option_and_then}
use Rattle.tab_ids.specs.declared.NavId.{NavId}
use Rattle.tab_ids.specs.declared.ProcId.{ProcId}
use Rattle.tab_ids.specs.declared.ReqId.{ReqId}
use Rattle.tab_ids.specs.declared.StateId.{StateId}
use Rattle.log_model.specs.declared.change.Change.TheVariants as changes
use Rattle.log_model.specs.declared.made.What.TheVariants as whats
use Rattle.log_model.specs.declared.row_kind.Actor.TheVariants as actors

-- ---- the owner of a navigable's rows

owner_some : (o : Option StateId) (state : StateId) → option_map_or (λ (x : StateId). x.0 == state.0) o false ≡ true → holds (λ (owner : StateId). owner.0 == state.0) o ≡ true
owner_some None state e = absurd cc
owner_some (Some x) state e = e

owned_some : (o : Option StateId) (state : StateId) → holds (λ (owner : StateId). owner.0 == state.0) o ≡ true → option_map_or (λ (x : StateId). x.0 == state.0) o false ≡ true
owned_some None state e = absurd cc
owned_some (Some x) state e = e

-- a row that hangs on the state tells that the owner is it, and the other way round
pub hung_owner : (s : Seen) → IsSound s.history → Hangs s → (nav : NavId) (state : StateId) → hangs_on nav state s.history.rows ≡ true → holds (λ (owner : StateId). owner.0 == state.0) (owner_of nav s.history.rows) ≡ true
hung_owner s sound hangs nav state hung =
    let a : Passing (λ (r : Row). is_of nav r && is_owned_by state r) s.history.rows = any_has (λ (r : Row). is_of nav r && is_owned_by state r) s.history.rows hung in
    let both = and_parts (is_of nav a.it) (is_owned_by state a.it) a.passes in
    let f = has_found (is_of nav) s.history.rows a.it a.there both.0 in
    let x = find_has (is_of nav) s.history.rows f.0 f.1 in
    let same : f.0.owner ≡ a.it.owner = owner_is s.history.rows (forms_of s.places) sound.rooted hangs.rows f.0 a.it x.0 a.there (nav_is f.0.nav nav x.1 ∙ sym (nav_is a.it.nav nav both.0)) in
    ap (λ (o : Option Row). holds (λ (owner : StateId). owner.0 == state.0) (option_and_then (λ (row : Row). row.owner) o)) f.1
    ∙ ap (λ (o : Option StateId). holds (λ (owner : StateId). owner.0 == state.0) o) same
    ∙ owner_some a.it.owner state both.1

both_true : (a b : Bool) → a ≡ true → b ≡ true → (a && b) ≡ true
both_true true true one two = refl
both_true false b one two = absurd cc
both_true true false one two = absurd cc

pub unhung_owner : (rows_ : List Row) (nav : NavId) (state : StateId) → hangs_on nav state rows_ ≡ false → holds (λ (owner : StateId). owner.0 == state.0) (owner_of nav rows_) ≡ false
unhung_owner rows_ nav state none = by_found (find (is_of nav) rows_) refl
  where
    by_test : (row : Row) → find (is_of nav) rows_ ≡ Some row → (b : Bool) → holds (λ (owner : StateId). owner.0 == state.0) row.owner ≡ b → b ≡ false
    by_test row e false is = refl
    by_test row e true is =
        let x = find_has (is_of nav) rows_ row e in
        let hung : hangs_on nav state rows_ ≡ true = has_any (λ (r : Row). is_of nav r && is_owned_by state r) rows_ row x.0 (both_true (is_of nav row) (is_owned_by state row) x.1 (owned_some row.owner state is)) in
        let never : true ≡ false = sym hung ∙ none in absurd cc

    by_found : (o : Option Row) → find (is_of nav) rows_ ≡ o → holds (λ (owner : StateId). owner.0 == state.0) (option_and_then (λ (row : Row). row.owner) (find (is_of nav) rows_)) ≡ false
    by_found None e = ap (λ (o : Option Row). holds (λ (owner : StateId). owner.0 == state.0) (option_and_then (λ (row : Row). row.owner) o)) e
    by_found (Some row) e =
        ap (λ (o : Option Row). holds (λ (owner : StateId). owner.0 == state.0) (option_and_then (λ (x : Row). x.owner) o)) e
        ∙ by_test row e (holds (λ (owner : StateId). owner.0 == state.0) row.owner) refl

-- ---- the removal of a frame

module _ (home : ProcId) (run : Option ReqId) (hand : List Made) (s : Seen) (made : Made) (it : IsToTakeUp home run hand s made) (nav : NavId) (what : made.what ≡ whats.RemoveFrame nav) (hung : hangs_on nav it.d.state s.history.rows ≡ true) where
  pub remove_made : change_of_made s it.d made.what ≡ Some (changes.RemoveFrame nav)
  remove_made =
      ap (λ (w : What). change_of_made s it.d w) what
      ∙ ap (λ (b : Bool). let o : Option Change = cond b (Some (changes.RemoveFrame nav)) None in o) (hung_owner s it.tab.sound it.tab.hangs nav it.d.state hung)

  pub remove_due : due_change s it.q ≡ Some (changes.RemoveFrame nav)
  remove_due = its_change home run hand s 0 actors.Coord made it (changes.RemoveFrame nav) remove_made

  pub remove_fits : fits s.history (changes.RemoveFrame nav) ≡ true
  remove_fits =
      let a : Passing (λ (r : Row). is_of nav r && is_owned_by it.d.state r) s.history.rows = any_has (λ (r : Row). is_of nav r && is_owned_by it.d.state r) s.history.rows hung in
      let both = and_parts (is_of nav a.it) (is_owned_by it.d.state a.it) a.passes in
      by_top (nav.0 == 0) refl (has_any (is_of nav) s.history.rows a.it a.there both.0)
    where
      by_top : (b : Bool) → (nav.0 == 0) ≡ b → has_row nav s.history.rows ≡ true → (not b && has_row nav s.history.rows) ≡ true
      by_top false e has = has
      by_top true e has = absurd (it.tab.sound.rooted.top_owner nav it.d.state hung (let n : nav.0 ≡ 0 = grind (arith, nat_tests, e) in n))

-- ---- entries at the first step

pub begun_is : (rows_ : List Row) → EachBegins rows_ → (nav : NavId) → has_row nav rows_ ≡ is_some (target_entry rows_ nav 0)
begun_is rows_ begins nav = by_row (has_row nav rows_) refl
  where
    by_target : (o : Option Row) → target_entry rows_ nav 0 ≡ o → has_row nav rows_ ≡ false → false ≡ is_some o
    by_target None e none = refl
    by_target (Some row) e none =
        let t = target_has rows_ nav 0 row e in
        let has : has_row nav rows_ ≡ true = has_any (is_of nav) rows_ row t.there (ap (λ (n : NavId). n.0 == nav.0) t.nav_is ∙ nat_eq_refl nav.0) in
        let never : true ≡ false = sym has ∙ none in absurd cc

    by_row : (b : Bool) → has_row nav rows_ ≡ b → b ≡ is_some (target_entry rows_ nav 0)
    by_row true e =
        let a : Passing (is_of nav) rows_ = any_has (is_of nav) rows_ e in
        let first : BeginsBy rows_ a.it.nav 0 = begins a.it a.there in
        sym (target_there rows_ nav 0 first.row first.there (first.nav_is ∙ nav_is a.it.nav nav a.passes) first.by)
    by_row false e = by_target (target_entry rows_ nav 0) refl e

-- who has an entry has a place
pub row_placed : (s : Seen) → Hangs s → (nav : NavId) → has_row nav s.history.rows ≡ true → has_nav (map (λ (p : Place). p.nav) s.places) nav ≡ true
row_placed s hangs nav has =
    let a : Passing (is_of nav) s.history.rows = any_has (is_of nav) s.history.rows has in
    let placed = hangs.rows.placed a.it a.there in
    let at : IsPlaceOf s.places a.it.nav placed.form = place_there s.places a.it.nav placed.form placed.found in
    named s.places nav at.place (ap (λ (n : NavId). place_in s.places n) (sym (nav_is a.it.nav nav a.passes)) ∙ at.found)
  where
    named : (l : List Place) (n : NavId) (place : Place) → place_in l n ≡ Some place → has_nav (map (λ (p : Place). p.nav) l) n ≡ true
    named [] n place at = absurd cc
    named (p ∷ l) n place at = by_nav (p.nav.0 == n.0) at (named l n place)
      where
        by_nav : (b : Bool) → (let o : Option Place = cond b (Some p) (place_in l n) in o) ≡ Some place → (place_in l n ≡ Some place → has_nav (map (λ (q : Place). q.nav) l) n ≡ true) → (b || has_nav (map (λ (q : Place). q.nav) l) n) ≡ true
        by_nav true is more = refl
        by_nav false is more = more is
