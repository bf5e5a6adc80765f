-- What a navigable leaves in the tables, it leaves in the log.
use Rattle.seen_facts.proofs.Hang.Forms.{nav_is}
use Rattle.seen_facts.proofs.Hang.Hung.{places_distinct}
use Rattle.seen_facts.specs.Hang.Members.{Has}
use Rattle.seen_facts.specs.Kept.Keeping.{IsMadeFor, is_last}
use Rattle.log_model.proofs.Refl.{nat_eq_refl}
use Rattle.log_model.specs.AfterPlaces.{kept_leaving, sleepers_below, without_doc, woken_below}
use Rattle.log_model.specs.Equal.{holds}
use Rattle.log_model.specs.Places.{is_asleep, is_below, is_gone}
use Rattle.log_model.specs.Seen.{Document, Place, Seen, Status, asleep, awake, document_of, lost, place_of}
use Rattle.log_model.specs.declared.row_kind.RowKind.{RowKind}
use Rattle.nav_tree.specs.Tree.{is_nav, state_of}
use Rattle.seen_facts.proofs.Rest.Stands.{get_of}
use Rattle.row_facts.proofs.RestRows.Again.{doc_same}
use Rattle.seen_laws.specs.InEvent.{now_of}
use Rattle.std.proofs.Common.{Bool, List, None, Option, Some, [], ap, cond, false, inl, inr, map, not, refl, subst, sym, true, ℕ, ◌&&◌, ◌==◌, ◌||◌, ◌∙◌, ◌∷◌, ◌≡◌}
use Rattle.std.specs.Map.{lookup}
use Rattle.std.specs.Prelude.{filter, if◌then◌else◌, option_and_then, option_map}
use Rattle.tab_doors.proofs.Sights.{IsSeen, seen_of, sight_of}
use Rattle.tab_doors.specs.Look.{Sight, is_live_for, sight}
use Rattle.tab_doors.specs.Ties.{AreListed}
use Rattle.tab_doors.specs.declared.tables.Tables.{Tables}
pub use Rattle.tab_passes.proofs.Lives.{has_state_in, live_parts, there_for}
use Rattle.tab_ids.specs.declared.DocId.{DocId}
use Rattle.tab_ids.specs.declared.NavId.{NavId}
use Rattle.tab_ids.specs.declared.StateId.{StateId}
use Rattle.tab_moves.specs.Leaving.{IsLeftFor, left_in}
use Rattle.tab_passes.specs.Passing.{InPass, IsPassing}
pub use Rattle.tab_passes.proofs.PassedOn.{below_sleeps}
use Rattle.seen_facts.proofs.Walk.Placed.{each_found, found_nav}

-- ---- what the navigable was shown last

-- a document, and its state
abbrev with_state : DocId → StateId → DocId × StateId
with_state doc state = (doc, state)

module _ (p : InPass) (out : List RowKind) (t : Tables) (pass : IsPassing p out t) (nav : NavId) (place : Place) (placed : place_of (now_of p.event out) nav ≡ Some place) (doc : DocId) where
  abbrev s : Seen
  s = now_of p.event out

  abbrev listed : AreListed (map sight s.documents) t.tree t.making.entries
  listed = pass.work.holds.documents

  last_is : lookup (is_nav nav) t.last.entries ≡ place.last
  last_is = pass.work.holds.last nav ∙ ap (λ (o : Option Place). option_and_then (λ (q : Place). q.last) o) placed

  -- where it leaves one
  pub left_some : (left : DocId) (state : StateId) → left_in t nav doc ≡ Some (left, state) → IsLeftFor s nav doc left state
  left_some left state is = by_last (lookup (is_nav nav) t.last.entries) last_is is
    where
      by_state : (last : DocId) → place.last ≡ Some last → (last.0 == doc.0) ≡ false → (o : Option StateId) → state_of last t.tree ≡ o → option_map (with_state last) o ≡ Some (left, state) → IsLeftFor s nav doc left state
      by_state last at apart None found h = absurd cc
      by_state last at apart (Some x) found h =
          let pair : (last, x) ≡ (left, state) = some_pair h in
          let docs : last ≡ left = ap (λ (y : DocId × StateId). y.0) pair in
          let states : x ≡ state = ap (λ (y : DocId × StateId). y.1) pair in
          let there = there_for (map sight s.documents) t listed last x found in
          let seen : IsSeen s last there.document = seen_of s last there.document there.found in
          let parts = live_parts x seen.document (ap (λ (y : Sight). is_live_for x y) seen.is ∙ there.lives) in
          record {
            place = place;
            placed = placed;
            last = at ∙ ap (λ (y : DocId). Some y) docs;
            apart = ap (λ (y : DocId). y.0 == doc.0) (sym docs) ∙ apart;
            document = seen.document;
            found = ap (λ (y : DocId). document_of s y) (sym docs) ∙ seen.found;
            state_is = parts.0 ∙ states;
            ready = parts.1;
            undiscarded = parts.2;
            unknown = parts.3;
          }
        where
          some_pair : {A : Type 0} {a b : A} → (let o : Option A = Some a in o) ≡ Some b → a ≡ b
          some_pair e = cc

      by_test : (last : DocId) → place.last ≡ Some last → (b : Bool) → (last.0 == doc.0) ≡ b → (let o : Option (DocId × StateId) = cond b None (option_map (with_state last) (state_of last t.tree)) in o) ≡ Some (left, state) → IsLeftFor s nav doc left state
      by_test last at true same h = absurd cc
      by_test last at false apart h = by_state last at apart (state_of last t.tree) refl h

      by_last : (o : Option DocId) → o ≡ place.last → option_and_then (λ (last : DocId). if last.0 == doc.0 then None else option_map (with_state last) (state_of last t.tree)) o ≡ Some (left, state) → IsLeftFor s nav doc left state
      by_last None at h = absurd cc
      by_last (Some last) at h = by_test last (sym at) (last.0 == doc.0) refl h

  -- where it leaves none: it was shown this one last, or none, or one that is gone
  pub record LeavesNothing : Type 0 where
    pub kept : kept_leaving s doc place.last ≡ without_doc doc s.kept
    pub own : (other : DocId) → place.status ≡ awake other → other ≡ doc
    pub nobody : sleepers_below s doc place ≡ []

  asleep_nobody : place.status ≡ asleep → woken_below s place.nav ≡ []
  asleep_nobody sleeps = ap (λ (l : List Place). map (λ (q : Place). q.nav) l) (filter_none (λ (q : Place). is_below place.nav q && not (is_asleep q)) s.places each)
    where
      filter_none : {A : Type 0} (test : A → Bool) (l : List A) → ((x : A) → Has l x → test x ≡ false) → filter test l ≡ []
      filter_none test [] none = refl
      filter_none test (x ∷ l) none = rw (none x (inl refl)) (filter_none test l (λ y there. none y (inr there)))

      own : place.nav ≡ nav
      own = found_nav s.places nav place placed

      each : (q : Place) → Has s.places q → (is_below place.nav q && not (is_asleep q)) ≡ false
      each q there = by_test (is_below place.nav q) refl
        where
          found : place_of s q.nav ≡ Some q
          found = let at = get_of s.places q there in each_found s.places (places_distinct s pass.going.tab.sound pass.going.tab.hangs) at.0 q at.1

          by_test : (b : Bool) → is_below place.nav q ≡ b → (b && not (is_asleep q)) ≡ false
          by_test false apart = refl
          by_test true below =
              rw (below_sleeps t.running p.loads p.hand s pass.going.tab nav place placed sleeps q.nav q found (ap (λ (n : NavId). is_below n q) (sym own) ∙ below)) refl

  pub left_none : left_in t nav doc ≡ None → LeavesNothing
  left_none is = by_last (lookup (is_nav nav) t.last.entries) last_is is
    where
      -- one that is awake was shown its document last
      awake_last : (other : DocId) → place.status ≡ awake other → place.last ≡ Some other
      awake_last other wakes = (pass.going.tab.homes.homed nav place other placed wakes).last

      sleeps : ((other : DocId) → place.status ≡ awake other → ⊥) → place.status ≡ asleep
      sleeps never = by_status place.status refl
        where
          by_status : (st : Status) → place.status ≡ st → place.status ≡ asleep
          by_status asleep at = at
          by_status (awake other) at = absurd (never other at)
          by_status lost at = absurd ((pass.going.tab.standing nav place placed).unlost at)

      none_last : place.last ≡ None → LeavesNothing
      none_last none =
          record {
            kept = rw none refl;
            own = λ other wakes. absurd (never other wakes);
            nobody = rw none (asleep_nobody (sleeps never));
          }
        where
          never : (other : DocId) → place.status ≡ awake other → ⊥
          never other wakes = let no_ : None ≡ Some other = sym none ∙ awake_last other wakes in cc

      same_last : (last : DocId) → place.last ≡ Some last → last ≡ doc → LeavesNothing
      same_last last at same =
          record {
            kept = rw at (rw same (rw (nat_eq_refl doc.0) (sym (all_stay s.kept others))));
            own = λ other wakes. (let both : Some other ≡ Some last = sym (awake_last other wakes) ∙ at in let one : other ≡ last = cc in one ∙ same);
            nobody = rw at (rw same (rw (nat_eq_refl doc.0) refl));
          }
        where
          made : IsMadeFor s.documents nav last
          made = pass.going.tab.kept.lasts nav place last placed at

          -- what was shown last isn't kept
          others : (x : DocId) → Has s.kept x → (x.0 == doc.0) ≡ false
          others x there = by_number (x.0 == doc.0) refl
            where
              by_number : (b : Bool) → (x.0 == doc.0) ≡ b → (x.0 == doc.0) ≡ false
              by_number false apart = apart
              by_number true number =
                  let one : x ≡ last = doc_same x doc number ∙ sym same in
                  let its = pass.going.tab.kept.each x there in
                  let both : Some its.d ≡ Some made.d = sym its.found ∙ ap (λ (y : DocId). document_of s y) one ∙ made.found in
                  let docs : its.d ≡ made.d = cc in
                  let navs : its.d.nav ≡ nav = ap (λ (d : Document). d.nav) docs ∙ nav_is made.d.nav nav (ap (λ (n : ℕ). n == nav.0) made.nav_is ∙ nat_eq_refl nav.0) in
                  let places : Some its.place ≡ Some place = sym its.placed ∙ ap (λ (n : NavId). place_of s n) navs ∙ placed in
                  let here : its.place ≡ place = cc in
                  let never : true ≡ false = sym (ap (λ (o : Option DocId). holds (λ (y : DocId). y.0 == x.0) o) at ∙ ap (λ (y : DocId). y.0 == x.0) (sym one) ∙ nat_eq_refl x.0) ∙ ap (λ (q : Place). is_last x q) (sym here) ∙ its.left in
                  absurd cc

          all_stay : (docs : List DocId) → ((x : DocId) → Has docs x → (x.0 == doc.0) ≡ false) → without_doc doc docs ≡ docs
          all_stay [] each = refl
          all_stay (x ∷ docs) each = rw (each x (inl refl)) (ap (λ (l : List DocId). x ∷ l) (all_stay docs (λ y there. each y (inr there))))

      gone_last : (last : DocId) → place.last ≡ Some last → (last.0 == doc.0) ≡ false → state_of last t.tree ≡ None → LeavesNothing
      gone_last last at apart none =
          record {
            kept = rw at (rw apart (rw gone refl));
            own = λ other wakes. absurd (never other wakes);
            nobody = rw at (rw apart (asleep_nobody (sleeps never)));
          }
        where
          made : IsMadeFor s.documents nav last
          made = pass.going.tab.kept.lasts nav place last placed at

          -- it isn't there any more
          gone_is : (a b : Bool) → made.d.is_discarded ≡ a → made.d.is_known_dead ≡ b → (a || b) ≡ true
          gone_is true b disc dead = refl
          gone_is false true disc dead = refl
          gone_is false false disc dead =
              absurd (has_state_in (map sight s.documents) t listed last (sight made.d) (sight_of s last made.d made.found) made.d.state (rw (nat_eq_refl made.d.state.0) (rw made.ready (rw disc (rw dead refl)))) none)

          gone : is_gone s last ≡ true
          gone = rw made.found (gone_is made.d.is_discarded made.d.is_known_dead refl refl)

          never : (other : DocId) → place.status ≡ awake other → ⊥
          never other wakes =
              let home = (pass.going.tab.homes.homed nav place other placed wakes).home in
              let both : Some other ≡ Some last = sym (awake_last other wakes) ∙ at in
              let one : other ≡ last = cc in
              let docs : Some home.document ≡ Some made.d = sym home.found ∙ ap (λ (x : DocId). document_of s x) one ∙ made.found in
              let same : home.document ≡ made.d = cc in
              let alive : (made.d.is_discarded || made.d.is_known_dead) ≡ false = subst (λ (x : Document). (x.is_discarded || x.is_known_dead) ≡ false) same (rw (home.undiscarded, home.unknown) refl) in
              let never_ : true ≡ false = sym (gone_is made.d.is_discarded made.d.is_known_dead refl refl) ∙ alive in
              cc

      by_state : (last : DocId) → place.last ≡ Some last → (last.0 == doc.0) ≡ false → (o : Option StateId) → state_of last t.tree ≡ o → option_map (with_state last) o ≡ None → LeavesNothing
      by_state last at apart None found h = gone_last last at apart found
      by_state last at apart (Some x) found h = absurd cc

      by_test : (last : DocId) → place.last ≡ Some last → (b : Bool) → (last.0 == doc.0) ≡ b → (let o : Option (DocId × StateId) = cond b None (option_map (with_state last) (state_of last t.tree)) in o) ≡ None → LeavesNothing
      by_test last at true same h = same_last last at (doc_same last doc same)
      by_test last at false apart h = by_state last at apart (state_of last t.tree) refl h

      by_last : (o : Option DocId) → o ≡ place.last → option_and_then (λ (last : DocId). if last.0 == doc.0 then None else option_map (with_state last) (state_of last t.tree)) o ≡ None → LeavesNothing
      by_last None at h = none_last (sym at)
      by_last (Some last) at h = by_test last (sym at) (last.0 == doc.0) refl h
