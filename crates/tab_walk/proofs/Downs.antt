-- Where none may be kept: once the document that is left was discarded, the navigable is aimed at its target, and those below are to be discarded.
use Rattle.seen_facts.proofs.Hang.Hung.{not_above_itself, place_chain}
use Rattle.seen_facts.specs.Hang.AsPlaces.{AreDistinct}
use Rattle.seen_facts.specs.Hang.Members.{Has}
use Rattle.seen_facts.specs.Home.Homes.{AreHomed, IsAtHome}
use Rattle.log_model.proofs.Refl.{nat_eq_refl}
use Rattle.log_model.specs.AfterPlaces.{sleepers_with}
use Rattle.log_model.specs.History.{History, has_nav}
use Rattle.log_model.specs.Places.{aim_of, awake_document, hangs_on, is_below, is_shown}
use Rattle.log_model.specs.Seen.{Document, Place, Seen, asleep, awake, place_of}
use Rattle.log_model.specs.Walk.{walk_of}
use Rattle.log_model.specs.declared.job.Why.{Why}
use Rattle.log_model.specs.declared.row_kind.RowKind.{RowKind}
use Rattle.seen_laws.specs.InEvent.{now_of}
use Rattle.std.proofs.Common.{Bool, List, None, Option, Some, [], ap, cond, false, filter_map, inl, inr, refl, subst, sym, true, ℕ, ◌==◌, ◌∙◌, ◌∷◌, ◌≡◌}
use Rattle.std.specs.List.{list_any}
use Rattle.std.specs.Prelude.{if◌then◌else◌, option_map}
use Rattle.tab_doors.specs.Orders.{order_to}
use Rattle.tab_doors.specs.declared.tables.Tables.{Tables}
use Rattle.tab_ids.specs.declared.DocId.{DocId}
use Rattle.tab_ids.specs.declared.NavId.{NavId}
use Rattle.tab_ids.specs.declared.StateId.{StateId}
use Rattle.tab_moves.proofs.Shown.{AreEach, IsShown, apart_left, at_own, below_is, each_below, home, shows_below, walked_there}
use Rattle.tab_moves.specs.PassedOn.{IsLeaving}
use Rattle.tab_moves.proofs.Frees.{docs_below}
use Rattle.tab_walk.proofs.Thens.{asleep_then, awake_hangs, cut_then, its_off, leaves_then_, moving, other_then, to}
use Rattle.tab_walk.specs.Cutting.{AreCutBelow, IsCutBelow, MayCut, cut_of}
use Rattle.tab_walk.specs.Moving.{InMove, IsBound, is_up_in}
use Rattle.seen_facts.proofs.Walk.Placed.{found_nav}
use Rattle.seen_facts.proofs.Walk.Sleepers.{slept}
use Rattle.seen_facts.specs.Walk.Serving.{is_stopping}
use Rattle.row_facts.proofs.WalkRows.Sleeping.{no_shower, nobody_awake, place_sleeps}
use Rattle.row_facts.proofs.WalkRows.Walks.{above_apart, stopping_same}
use Rattle.row_facts.specs.WalkRows.Since.{IsVisitedInNeed}
use Rattle.log_model.specs.declared.job.Task.TheVariants as tasks

-- what a place that falls asleep keeps
record KeepsIt (p q : Place) : Type 0 where
  nav : q.nav ≡ p.nav
  above : q.above ≡ p.above
  owners : q.owners ≡ p.owners
  last : q.last ≡ p.last
  epoch : q.epoch ≡ p.epoch

slept_keeps : (navs : List NavId) (why : Why) (p : Place) → KeepsIt p (slept navs why p)
slept_keeps navs why p = by_test (has_nav navs p.nav)
  where
    by_test : (b : Bool) → KeepsIt p (let q : Place = cond b (record p { status = asleep; why = why }) p in q)
    by_test true = record { nav = refl; above = refl; owners = refl; last = refl; epoch = refl }
    by_test false = record { nav = refl; above = refl; owners = refl; last = refl; epoch = refl }

filter_map_none : {A B : Type 0} (f : A → Option B) (l : List A) → ((x : A) → Has l x → f x ≡ None) → filter_map f l ≡ []
filter_map_none f [] none = refl
filter_map_none f (x ∷ l) none = rw (none x (inl refl)) (filter_map_none f l (λ y there. none y (inr there)))

module _ (m : InMove) (out : List RowKind) (t : Tables) (leaving : IsLeaving m.pass (Some (cut_of m)) [] out t) (why : Why) (may : MayCut m t.running (now_of m.pass.event out) m.nav m.left m.state why) where
  abbrev s : Seen
  s = now_of m.pass.event out

  abbrev bound : IsBound m t.running s
  bound = may.bound

  abbrev then_ : Seen
  then_ = cut_then m out t leaving why may

  own : bound.place.nav ≡ m.nav
  own = found_nav s.places m.nav bound.place bound.placed

  -- each navigable's place then
  pub place_then : (nav : NavId) (place : Place) → place_of s nav ≡ Some place → place_of then_ nav ≡ Some (slept (sleepers_with s m.left) why place)
  place_then nav place placed =
      place_sleeps s m.pass.event.event m.pass.event.actor (order_to s m.left why tasks.Discard) tasks.Discard refl tt nav
      ∙ ap (λ (o : Option Place). option_map (slept (sleepers_with s m.left) why) o) placed

  abbrev its_place : Place
  its_place = slept (sleepers_with s m.left) why bound.place

  keeps : KeepsIt bound.place (slept (sleepers_with s m.left) why bound.place)
  keeps = slept_keeps (sleepers_with s m.left) why bound.place

  sleeps : (slept (sleepers_with s m.left) why bound.place).status ≡ asleep
  sleeps = asleep_then m out t leaving why may m.nav its_place (inl (nat_eq_refl m.nav.0)) (place_then m.nav bound.place bound.placed)

  above_same : (nav : NavId) → has_nav bound.place.above nav ≡ true → place_of then_ nav ≡ place_of s nav
  above_same nav has =
      (leaves_then_ m out t leaving why may).others nav (above_apart s m.nav bound.place.above (place_chain s leaving.going.tab.sound leaving.going.tab.hangs m.nav bound.place bound.placed) (ap (λ (n : NavId). has_nav bound.place.above n) (sym own) ∙ not_above_itself s leaving.going.tab.sound leaving.going.tab.hangs m.nav bound.place bound.placed) nav has)

  history_same : then_.history ≡ s.history
  history_same = (leaves_then_ m out t leaving why may).history

  aim_same : aim_of then_ ≡ aim_of s
  aim_same = (leaves_then_ m out t leaving why may).aim

  pub visited_then : IsVisitedInNeed then_ (slept (sleepers_with s m.left) why bound.place)
  visited_then =
      record {
        shown = ap (λ (n : NavId). is_shown then_.history.rows (aim_of then_) n) keeps.nav ∙ ap (λ (h : History). is_shown h.rows (aim_of then_) bound.place.nav) history_same ∙ ap (λ (step : ℕ). is_shown s.history.rows step bound.place.nav) aim_same ∙ bound.visited.shown;
        reached = ap (λ (l : List NavId). list_any (is_stopping then_.history.rows (aim_of then_) then_.places) l) keeps.above ∙ ap (λ (step : ℕ). list_any (is_stopping then_.history.rows step then_.places) bound.place.above) aim_same ∙ stopping_same s then_ (aim_of s) bound.place.above history_same above_same ∙ bound.visited.reached;
        needs = rw sleeps refl;
      }

  -- ---- those below

  module _ (up : is_up_in t.tree m.nav ≡ true) (homes : AreHomed then_) (distinct_then : AreDistinct then_.places) where
    cut_one : (x : DocId) → IsShown (moving m out t leaving why may) m.nav m.left why out t leaving (to m out t leaving why may up) x → IsCutBelow then_ m.state x
    cut_one x its =
        record {
          it = record {
            document = at.document;
            found = other_then m out t leaving why may x apart ∙ at.found;
            ready = at.ready;
            undiscarded = at.undiscarded;
            unknown = at.unknown;
            place = slept (sleepers_with s m.left) why its.place;
            placed = ap (λ (n : NavId). place_of then_ n) at.nav_is ∙ place_then its.place.nav its.place its.placed;
            below = ap (λ (l : List StateId). list_any (λ (owner : StateId). owner.0 == m.state.0) l) (slept_keeps (sleepers_with s m.left) why its.place).owners ∙ hangs;
          };
          nobody = nobody_awake then_ x (no_shower then_ x distinct_then never);
        }
      where
        at : IsAtHome s.documents its.place.nav x
        at = home (moving m out t leaving why may) m.nav m.left why out t leaving (to m out t leaving why may up) x its

        apart : (m.left.0 == x.0) ≡ false
        apart = apart_left (moving m out t leaving why may) m.nav m.left why out t leaving (to m out t leaving why may up) x its

        wakes_ : bound.place.status ≡ awake m.left
        wakes_ =
            let both : Some (to m out t leaving why may up).place ≡ Some bound.place = sym (to m out t leaving why may up).placed ∙ bound.placed in
            let same : (to m out t leaving why may up).place ≡ bound.place = cc in
            ap (λ (p : Place). p.status) (sym same) ∙ (to m out t leaving why may up).wakes

        hangs : hangs_on m.state its.place ≡ true
        hangs =
            awake_hangs m out t leaving why may wakes_ its.place.above its.place.nav its.place x its.placed its.wakes refl (place_chain s leaving.going.tab.sound leaving.going.tab.hangs its.place.nav its.place its.placed) its.below

        never : (n : NavId) (p : Place) → place_of then_ n ≡ Some p → p.status ≡ awake x → ⊥
        never n p placed wakes =
            let no_ : awake x ≡ asleep = sym wakes ∙ asleep_then m out t leaving why may its.place.nav p (inr below) here in
            cc
          where
            then_home : IsAtHome then_.documents p.nav x
            then_home = (homes.homed n p x placed wakes).home

            named : n ≡ its.place.nav
            named =
                let both : Some then_home.document ≡ Some at.document = sym then_home.found ∙ other_then m out t leaving why may x apart ∙ at.found in
                let same : then_home.document ≡ at.document = cc in
                sym (found_nav then_.places n p placed) ∙ sym then_home.nav_is ∙ ap (λ (d : Document). d.nav) same ∙ at.nav_is

            here : place_of then_ its.place.nav ≡ Some p
            here = ap (place_of then_) (sym named) ∙ placed

            below : is_below m.nav p ≡ true
            below =
                let both : Some p ≡ Some (slept (sleepers_with s m.left) why its.place) = sym here ∙ place_then its.place.nav its.place its.placed in
                let same : p ≡ slept (sleepers_with s m.left) why its.place = cc in
                ap (λ (q : Place). is_below m.nav q) same ∙ ap (λ (l : List NavId). has_nav l m.nav) (slept_keeps (sleepers_with s m.left) why its.place).above ∙ its.below

    -- in the words of the list
    cut_list : (l : List DocId) → AreEach (IsCutBelow then_ m.state) l → AreCutBelow then_ m.state l
    cut_list [] are = tt
    cut_list (x ∷ l) are = (are.0, are.1, cut_list l are.2)

    pub each_up : AreCutBelow then_ m.state (docs_below t.tree m.nav)
    each_up =
        cut_list (docs_below t.tree m.nav) (each_below (moving m out t leaving why may) m.nav m.left why out t leaving (to m out t leaving why may up) (IsCutBelow then_ m.state) cut_one)

  -- where the navigable is asleep, nothing is shown below it
  pub none_below : is_up_in t.tree m.nav ≡ false → docs_below t.tree m.nav ≡ []
  none_below down =
      below_is s t.running t leaving.work.holds leaving.going.tab.sound leaving.going.tab.hangs m.nav
      ∙ filter_map_none (shows_below m.nav) (walk_of s.places) (λ p there. each p (walked_there s t.running t leaving.work.holds leaving.going.tab.sound leaving.going.tab.hangs p there))
    where
      each : (p : Place) → Has s.places p → shows_below m.nav p ≡ None
      each p there = by_test (is_below m.nav p) refl
        where
          sleeps_ : is_below m.nav p ≡ true → p.status ≡ asleep
          sleeps_ below =
              (its_off m out t leaving why may down).sleeps p.nav p (inr below) (at_own s t.running t leaving.work.holds leaving.going.tab.sound leaving.going.tab.hangs p there)

          by_test : (b : Bool) → is_below m.nav p ≡ b → (let o : Option DocId = if b then awake_document p else None in o) ≡ None
          by_test false e = refl
          by_test true e = rw (sleeps_ e) refl

  pub each_then : AreHomed then_ → AreDistinct then_.places → AreCutBelow then_ m.state (docs_below t.tree m.nav)
  each_then homes distinct_then = by_up (is_up_in t.tree m.nav) refl
    where
      by_up : (b : Bool) → is_up_in t.tree m.nav ≡ b → AreCutBelow then_ m.state (docs_below t.tree m.nav)
      by_up true up = each_up up homes distinct_then
      by_up false down = subst (λ (l : List DocId). AreCutBelow then_ m.state l) (sym (none_below down)) tt
