-- The load that waits for a document is the first that does, and its navigable's; so it may be looked up by the one or by the other.
use Rattle.load_table.specs.Loads.{HasOneEach, is_of, is_populating, moved_on, ongoing_load}
use Rattle.load_table.specs.declared.load.Load.{Load}
use Rattle.load_table.specs.declared.phase.Phase.{Phase}
use Rattle.load_table.specs.declared.phase.Phase.TheVariants as phases
use Rattle.log_model.proofs.Refl.{nat_eq_refl}
use Rattle.seen_facts.proofs.Hang.Members.{find_has}
use Rattle.seen_facts.proofs.LoadTies.Waits.{found_itself}
use Rattle.std.proofs.Common.{Bool, List, None, Option, Some, [], ap, false, is_some, refl, sym, true, ◌==◌, ◌∙◌, ◌∷◌, ◌≡◌}
use Rattle.std.specs.Prelude.{find}
use Rattle.tab_doors.specs.Noting.{WaitsAt, WaitsAtItsNav, waiting_in}
use Rattle.tab_doors.specs.Ties.{nav_in}
use Rattle.tab_doors.specs.declared.tables.Tables.{Tables}
use Rattle.tab_ids.specs.declared.DocId.{DocId}
use Rattle.tab_ids.specs.declared.NavId.{NavId}
use Rattle.tab_ids.specs.declared.ReqId.{ReqId}

-- where no load passes, none moves on
none_moves : (test : Load → Bool) (phase : Phase) (loads : List Load) → find test loads ≡ None → loads ≡ moved_on test phase loads
none_moves test phase [] none = refl
none_moves test phase (first ∷ loads) none = by_test (test first) refl (none_moves test phase loads)
  where
    by_test : (b : Bool) → test first ≡ b → (find test loads ≡ None → loads ≡ moved_on test phase loads) → first ∷ loads ≡ moved_on test phase (first ∷ loads)
    by_test true is behind = let never : Some first ≡ None = sym (rw is refl) ∙ none in absurd cc
    by_test false is behind = rw is (ap (λ (l : List Load). first ∷ l) (behind (sym (rw is refl) ∙ none)))

-- the first that is the navigable's is the first that waits for the document, where the one is the other
same_moves : (nav : NavId) (doc : DocId) (phase : Phase) (loads : List Load) → ((load : Load) → find (is_populating doc) loads ≡ Some load → is_of nav load ≡ true) → ((load : Load) → ongoing_load nav loads ≡ Some load → is_populating doc load ≡ true) → moved_on (is_of nav) phase loads ≡ moved_on (is_populating doc) phase loads
same_moves nav doc phase [] own waits = refl
same_moves nav doc phase (first ∷ loads) own waits = by_tests (is_of nav first) refl (is_populating doc first) refl (same_moves nav doc phase loads)
  where
    by_tests : (a : Bool) → is_of nav first ≡ a → (b : Bool) → is_populating doc first ≡ b → (((load : Load) → find (is_populating doc) loads ≡ Some load → is_of nav load ≡ true) → ((load : Load) → ongoing_load nav loads ≡ Some load → is_populating doc load ≡ true) → moved_on (is_of nav) phase loads ≡ moved_on (is_populating doc) phase loads) → moved_on (is_of nav) phase (first ∷ loads) ≡ moved_on (is_populating doc) phase (first ∷ loads)
    by_tests true mine true makes behind = rw (mine, makes) refl
    by_tests true mine false other behind = let never : true ≡ false = sym (waits first (rw mine refl)) ∙ other in absurd cc
    by_tests false other true makes behind = let never : true ≡ false = sym (own first (rw makes refl)) ∙ other in absurd cc
    by_tests false other false none behind =
        rw (other, none) (ap (λ (l : List Load). first ∷ l) (behind (λ load found. own load (rw none found)) (λ load at. waits load (rw other at))))

-- the navigable's load doesn't wait for it: so none does
none_waits : (nav : NavId) (doc : DocId) (loads : List Load) → HasOneEach loads → WaitsAt nav loads doc → waiting_in loads nav doc ≡ None → find (is_populating doc) loads ≡ None
none_waits nav doc loads one_each own none = by_found (find (is_populating doc) loads) refl
  where
    by_found : (o : Option Load) → find (is_populating doc) loads ≡ o → o ≡ None
    by_found None at = refl
    by_found (Some load) at =
        let its = find_has (is_populating doc) loads load at in
        let here : ongoing_load nav loads ≡ Some load = ap (λ (x : NavId). ongoing_load x loads) (own load at) ∙ found_itself loads load one_each its.0 in
        let some : waiting_in loads nav doc ≡ Some load.req = rw here (rw (its.1) refl) in
        let never : None ≡ Some load.req = sym none ∙ some in absurd cc

-- it does: so it is the one
some_waits : (nav : NavId) (doc : DocId) (loads : List Load) → is_some (waiting_in loads nav doc) ≡ true → (load : Load) → ongoing_load nav loads ≡ Some load → is_populating doc load ≡ true
some_waits nav doc loads some load at = by_test (is_populating doc load) refl
  where
    by_test : (b : Bool) → is_populating doc load ≡ b → b ≡ true
    by_test true is = refl
    by_test false is =
        let none : waiting_in loads nav doc ≡ None = rw at (rw is refl) in
        let never : true ≡ false = sym some ∙ ap (λ (o : Option ReqId). is_some o) none in absurd cc

module _ (nav : NavId) (doc : DocId) (loads : List Load) (own : WaitsAt nav loads doc) where
  pub readied : is_some (waiting_in loads nav doc) ≡ true → moved_on (is_of nav) (phases.Ready doc) loads ≡ moved_on (is_populating doc) (phases.Ready doc) loads
  readied some =
      same_moves nav doc (phases.Ready doc) loads
      (λ load found. ap (λ (x : NavId). x.0 == load.nav.0) (own load found) ∙ nat_eq_refl load.nav.0)
      (some_waits nav doc loads some)

  pub unreadied : HasOneEach loads → is_some (waiting_in loads nav doc) ≡ false → loads ≡ moved_on (is_populating doc) (phases.Ready doc) loads
  unreadied one_each none = none_moves (is_populating doc) (phases.Ready doc) loads (none_waits nav doc loads one_each own (by_req (waiting_in loads nav doc) refl none))
    where
      by_req : (o : Option ReqId) → waiting_in loads nav doc ≡ o → is_some o ≡ false → waiting_in loads nav doc ≡ None
      by_req None at is = at
      by_req (Some req) at never = absurd cc

module _ (t : Tables) (doc : DocId) (own : WaitsAtItsNav t doc) where
  pub own_waits : (nav : NavId) → nav_in t.whose.entries doc ≡ Some nav → WaitsAt nav t.loads doc
  own_waits nav at load found = let same : Some nav ≡ Some load.nav = sym at ∙ own load found in cc

  -- where the document is of no navigable, none waits
  pub none_own : nav_in t.whose.entries doc ≡ None → t.loads ≡ moved_on (is_populating doc) (phases.Ready doc) t.loads
  none_own none = none_moves (is_populating doc) (phases.Ready doc) t.loads (by_found (find (is_populating doc) t.loads) refl)
    where
      by_found : (o : Option Load) → find (is_populating doc) t.loads ≡ o → o ≡ None
      by_found None at = refl
      by_found (Some load) at = let never : None ≡ Some load.nav = sym none ∙ own load at in absurd cc
