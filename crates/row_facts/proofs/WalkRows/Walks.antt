-- Who is visited in need as a walk goes on: each that isn't below the served one was so before; so the later ones are moved still.
use Rattle.seen_facts.proofs.Hang.Forms.{nav_is}
use Rattle.seen_facts.proofs.Hang.Hung.{place_chain}
use Rattle.seen_facts.specs.Hang.AsPlaces.{IsChain}
use Rattle.seen_facts.specs.Hang.Hanging.{Hangs}
use Rattle.log_model.proofs.Refl.{nat_eq_refl}
use Rattle.log_model.specs.Equal.{holds}
use Rattle.log_model.specs.History.{History, has_nav}
use Rattle.log_model.specs.Places.{aim_of, is_awake, is_below, is_given_target, is_shown}
use Rattle.log_model.specs.Seen.{Place, Seen, asleep, place_in, place_of}
use Rattle.log_model.specs.Soundness.{IsSound}
use Rattle.log_model.specs.declared.job.Why.{Why}
use Rattle.log_model.specs.declared.row.Row.{Row}
use Rattle.seen_facts.proofs.Mover.Below.{moves_below}
use Rattle.seen_facts.specs.Mover.Movers.{IsMovedBy}
use Rattle.std.proofs.Common.{Bool, List, Option, Some, [], ap, arith, false, not, refl, subst, sym, true, ℕ, ◌+◌, ◌==◌, ◌||◌, ◌∙◌, ◌∷◌, ◌≡◌, ◌≤◌}
use Rattle.std.proofs.lemmas.Bool.{and_left, or_left, or_parts, or_right}
use Rattle.std.specs.List.{list_any}
use Rattle.std.specs.Prelude.{option_map, slice_get}
use Rattle.tab_ids.specs.declared.NavId.{NavId}
use Rattle.seen_facts.specs.Walk.Serving.{is_in_place, is_needing, is_stopping}
use Rattle.seen_facts.specs.Walk.Walking.{IsApart, IsWalk, LeavesOthers}
use Rattle.row_facts.specs.WalkRows.Later.{IsLater, MovesLater}
use Rattle.row_facts.specs.WalkRows.Since.{IsVisitedInNeed, MovesVisited}

-- ---- who stops the walk

-- those above stay, so they stop it as before
pub stopping_same : (s t : Seen) (step : ℕ) (above : List NavId) → t.history ≡ s.history → ((nav : NavId) → has_nav above nav ≡ true → place_of t nav ≡ place_of s nav) → list_any (is_stopping t.history.rows step t.places) above ≡ list_any (is_stopping s.history.rows step s.places) above
stopping_same s t step [] history same = refl
stopping_same s t step (nav ∷ above) history same =
    ap (λ (b : Bool). b || list_any (is_stopping t.history.rows step t.places) above) here
    ∙ ap (λ (b : Bool). is_stopping s.history.rows step s.places nav || b) (stopping_same s t step above history (λ other has. same other (or_right (nav.0 == other.0) (has_nav above other) has)))
  where
    own : has_nav (nav ∷ above) nav ≡ true
    own = ap (λ (b : Bool). b || has_nav above nav) (nat_eq_refl nav.0)

    here : is_stopping t.history.rows step t.places nav ≡ is_stopping s.history.rows step s.places nav
    here =
        ap (λ (h : History). not (holds (is_in_place h.rows step) (place_of t nav))) history
        ∙ ap (λ (o : Option Place). not (holds (is_in_place s.history.rows step) o)) (same nav own)

-- who is above one that is apart is apart
pub above_apart : (s : Seen) (nav : NavId) (above : List NavId) → IsChain s.places above → has_nav above nav ≡ false → (other : NavId) → has_nav above other ≡ true → IsApart s nav other
above_apart s nav [] chain none other has = absurd cc
above_apart s nav (first ∷ above) chain none other has =
    by_first (first.0 == other.0) refl (above_apart s nav above chain.1 parts.1 other) has
  where
    parts : ((first.0 == nav.0) ≡ false) × (has_nav above nav ≡ false)
    parts = or_parts (first.0 == nav.0) (has_nav above nav) none

    beside : (place : Place) → place_of s first ≡ Some place → is_below nav place ≡ false
    beside place at =
        let both : Some chain.0.place ≡ Some place = sym chain.0.found ∙ at in
        let same : chain.0.place ≡ place = cc in
        ap (λ (p : Place). has_nav p.above nav) (sym same) ∙ ap (λ (l : List NavId). has_nav l nav) chain.0.above_is ∙ parts.1

    by_first : (b : Bool) → (first.0 == other.0) ≡ b → (has_nav above other ≡ true → IsApart s nav other) → (b || has_nav above other) ≡ true → IsApart s nav other
    by_first true is more has =
        subst (λ (m : NavId). IsApart s nav m) (nav_is first other is) (record { differs = parts.0; beside = beside })
    by_first false is more has = more has

-- where one of several stops the walk, some do
one_stops : (rows : List Row) (step : ℕ) (places : List Place) (nav : NavId) (above : List NavId) → has_nav above nav ≡ true → is_stopping rows step places nav ≡ true → list_any (is_stopping rows step places) above ≡ true
one_stops rows step places nav [] has stops = absurd cc
one_stops rows step places nav (first ∷ above) has stops =
    by_first (first.0 == nav.0) refl (λ more. one_stops rows step places nav above more stops) has
  where
    by_first : (b : Bool) → (first.0 == nav.0) ≡ b → (has_nav above nav ≡ true → list_any (is_stopping rows step places) above ≡ true) → (b || has_nav above nav) ≡ true → list_any (is_stopping rows step places) (first ∷ above) ≡ true
    by_first true is more has =
        or_left (is_stopping rows step places first) (list_any (is_stopping rows step places) above) (ap (is_stopping rows step places) (nav_is first nav is) ∙ stops)
    by_first false is more has =
        or_right (is_stopping rows step places first) (list_any (is_stopping rows step places) above) (more has)

-- nobody is visited below one that isn't awake on its target
pub none_below : (s : Seen) (nav : NavId) (place : Place) → place_of s nav ≡ Some place → is_in_place s.history.rows (aim_of s) place ≡ false → (other : Place) → is_below nav other ≡ true → IsVisitedInNeed s other → ⊥
none_below s nav place at out other below visited =
    let stops : is_stopping s.history.rows (aim_of s) s.places nav ≡ true = ap (λ (o : Option Place). not (holds (is_in_place s.history.rows (aim_of s)) o)) at ∙ rw out refl in
    let never : false ≡ true = sym visited.reached ∙ one_stops s.history.rows (aim_of s) s.places nav other.above below stops in
    cc

-- as one isn't that is asleep
pub asleep_out : (rows : List Row) (step : ℕ) (place : Place) → place.status ≡ asleep → is_in_place rows step place ≡ false
asleep_out rows step place sleeps =
    and_left (is_awake place) (is_given_target rows step place) (rw sleeps refl)

-- ---- rows that serve one navigable

-- the place was so before, and was visited in need
pub record WasVisited (s : Seen) (nav : NavId) (place : Place) : Type 0 where
  pub placed : place_of s nav ≡ Some place
  pub visited : IsVisitedInNeed s place

-- so it is of each that is apart from the served one
pub visited_still : (s t : Seen) (nav : NavId) → IsSound s.history → Hangs s → LeavesOthers s t nav → (other : NavId) (place : Place) → IsApart s nav other → place_of t other ≡ Some place → IsVisitedInNeed t place → WasVisited s other place
visited_still s t nav sound hangs leaves other place apart at visited =
    record {
      placed = was;
      visited = record {
        shown = sym (ap (λ (h : History). is_shown h.rows (aim_of t) place.nav) leaves.history ∙ ap (λ (step : ℕ). is_shown s.history.rows step place.nav) leaves.aim) ∙ visited.shown;
        reached = sym (ap (λ (step : ℕ). list_any (is_stopping t.history.rows step t.places) place.above) leaves.aim ∙ stopping_same s t (aim_of s) place.above leaves.history above) ∙ visited.reached;
        needs = sym (ap (λ (h : History). is_needing h.rows (aim_of t) place) leaves.history ∙ ap (λ (step : ℕ). is_needing s.history.rows step place) leaves.aim) ∙ visited.needs;
      };
    }
  where
    was : place_of s other ≡ Some place
    was = sym (leaves.others other apart) ∙ at

    above : (up : NavId) → has_nav place.above up ≡ true → place_of t up ≡ place_of s up
    above up has =
        leaves.others up (above_apart s nav place.above (place_chain s sound hangs other place was) (apart.beside place was) up has)

-- where all places stay, and the history with its aim
pub visited_same : (s t : Seen) → t.places ≡ s.places → t.history ≡ s.history → aim_of t ≡ aim_of s → (place : Place) → IsVisitedInNeed t place → IsVisitedInNeed s place
visited_same s t places history aim place visited =
    record {
      shown = sym (ap (λ (h : History). is_shown h.rows (aim_of t) place.nav) history ∙ ap (λ (step : ℕ). is_shown s.history.rows step place.nav) aim) ∙ visited.shown;
      reached = sym (ap (λ (l : List Place). list_any (is_stopping t.history.rows (aim_of t) l) place.above) places ∙ ap (λ (h : History). list_any (is_stopping h.rows (aim_of t) s.places) place.above) history ∙ ap (λ (step : ℕ). list_any (is_stopping s.history.rows step s.places) place.above) aim) ∙ visited.reached;
      needs = sym (ap (λ (h : History). is_needing h.rows (aim_of t) place) history ∙ ap (λ (step : ℕ). is_needing s.history.rows step place) aim) ∙ visited.needs;
    }

-- who moved a navigable moved those below it
pub below_moved : (s : Seen) (why : Why) (nav : NavId) → IsSound s.history → Hangs s → IsMovedBy s why nav → (other : NavId) (place : Place) → place_of s other ≡ Some place → is_below nav place ≡ true → IsMovedBy s why other
below_moved s why nav sound hangs by other place at below =
    record {
      req = by.req;
      q = by.q;
      why = by.why;
      there = by.there;
      moves = moves_below s sound hangs by.q nav other place at below by.moves;
    }

-- ---- the walk

-- before it begins, over rows that leave all places, and the history with its aim
pub visits_same : (s t : Seen) (why : Why) → t.places ≡ s.places → t.history ≡ s.history → aim_of t ≡ aim_of s → ((nav : NavId) → IsMovedBy s why nav → IsMovedBy t why nav) → MovesVisited s why → MovesVisited t why
visits_same s t why places history aim still moves nav place at visited shown =
    still nav (moves nav place (ap (λ (l : List Place). place_in l nav) (sym places) ∙ at) (visited_same s t places history aim place visited) shown)

-- as it begins
pub later_first : (s : Seen) (why : Why) (walk : List NavId) → MovesVisited s why → MovesLater s why walk 0
later_first s why walk moves nav place later at visited shown = moves nav place at visited shown

-- where nothing is put out for the next one
pub later_more : (s : Seen) (why : Why) (walk : List NavId) (n : ℕ) → MovesLater s why walk n → MovesLater s why walk (n + 1)
later_more s why walk n moves nav place later at visited shown =
    moves nav place (λ k low there. later k (omega (arith, low)) there) at visited shown

-- rows that leave all places, and the history with its aim, as those that drop a load
pub later_same : (s t : Seen) (why : Why) (walk : List NavId) (n : ℕ) → t.places ≡ s.places → t.history ≡ s.history → aim_of t ≡ aim_of s → ((nav : NavId) → IsMovedBy s why nav → IsMovedBy t why nav) → MovesLater s why walk n → MovesLater t why walk n
later_same s t why walk n places history aim still moves nav place later at visited shown =
    still nav (moves nav place later (ap (λ (l : List Place). place_in l nav) (sym places) ∙ at) (visited_same s t places history aim place visited) shown)

-- the next one is moved, where it is visited in need and was shown a document before
pub later_here : (s : Seen) (why : Why) (walk : List NavId) (n : ℕ) (nav : NavId) (place : Place) → IsWalk s walk → slice_get walk n ≡ Some nav → MovesLater s why walk n → place_of s nav ≡ Some place → IsVisitedInNeed s place → 1 ≤ place.epoch.0 → IsMovedBy s why nav
later_here s why walk n nav place is here moves at visited shown =
    moves nav place later at visited shown
  where
    later : IsLater walk n nav
    later k low there =
        let never : true ≡ false = sym (nat_eq_refl nav.0) ∙ (is.apart k n nav nav low there here).differs in cc

-- rows that serve it, after which those are moved still which were, and so are those below it that are visited in need then
pub later_kept : (s t : Seen) (why : Why) (walk : List NavId) (n : ℕ) (nav : NavId) → IsSound s.history → Hangs s → slice_get walk n ≡ Some nav → LeavesOthers s t nav → ((other : NavId) → IsMovedBy s why other → IsMovedBy t why other) → ((other : NavId) (place : Place) → place_of t other ≡ Some place → is_below nav place ≡ true → IsVisitedInNeed t place → 1 ≤ place.epoch.0 → IsMovedBy t why other) → MovesLater s why walk n → MovesLater t why walk (n + 1)
later_kept s t why walk n nav sound hangs here leaves still below moves other place later at visited shown =
    by_test (is_below nav place) refl
  where
    differs : (b : Bool) → (other.0 == nav.0) ≡ b → (other.0 == nav.0) ≡ false
    differs false is = is
    differs true is =
        absurd (later n (omega arith) (here ∙ ap (λ (m : NavId). Some m) (sym (nav_is other nav is))))

    by_test : (b : Bool) → is_below nav place ≡ b → IsMovedBy t why other
    by_test true is = below other place at is visited shown
    by_test false is =
        let was = visited_still s t nav sound hangs leaves other place apart at visited in
        still other (moves other place (λ k low there. later k (omega (arith, low)) there) was.placed was.visited shown)
      where
        above_of : Option Place → Option (List NavId)
        above_of o = option_map (λ (p : Place). p.above) o

        apart : IsApart s nav other
        apart =
            record {
              differs = differs (other.0 == nav.0) refl;
              beside = λ p there.
                  let both : Some place.above ≡ Some p.above = sym (ap above_of at) ∙ leaves.ways other ∙ ap above_of there in
                  let same : place.above ≡ p.above = cc in
                  ap (λ (l : List NavId). has_nav l nav) (sym same) ∙ is;
            }
