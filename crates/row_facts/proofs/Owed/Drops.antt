-- Loads that another request drops, and one that begins: which ends pay what their rows owe.
use Rattle.row_facts.proofs.LoadRows.Begins.{begun_there}
use Rattle.row_facts.proofs.LoadRows.Drops.{adder_paid, moved_paid, replaced_paid, still_moved_paid}
use Rattle.row_facts.specs.LoadRows.Dropping.{IsLoadBy, IsMovedBy, IsReplacedBy, IsStillMovedBy, IsUnderAdder}
use Rattle.log_model.specs.After.{after}
use Rattle.log_model.specs.AfterRequests.{request_begun}
use Rattle.log_model.specs.Causes.{by_event, by_mover, changed_one_of, nav_of_change}
use Rattle.log_model.specs.Equal.{holds}
use Rattle.log_model.specs.History.{History, has_nav}
use Rattle.log_model.specs.Once.{has_no_earlier_load}
use Rattle.log_model.specs.Places.{aim_of, is_placed, is_shown, is_traversal, stands, way_of, way_to}
use Rattle.log_model.specs.Points.{had_ended, had_started}
use Rattle.log_model.specs.Seen.{Asked, Place, Seen, place_of, request_of}
use Rattle.log_model.specs.declared.request.Mode.{Mode}
use Rattle.log_model.specs.declared.row_kind.LogRow.{LogRow}
use Rattle.log_model.specs.declared.row_kind.RowKind.{RowKind}
use Rattle.row_facts.proofs.Owed.Ends.{lasts_trans, stays_trans}
use Rattle.row_facts.proofs.Owed.Rows.{IsIdle, dropped_lasts, dropped_stays, load_idle, reckoned_now}
use Rattle.row_facts.specs.Owed.Owed.{IsStill, IsThereStill, Lasts, Stays}
use Rattle.seen_laws.proofs.Keyed.{find_has}
use Rattle.seen_laws.specs.Blocks.{Here, point_at}
use Rattle.seen_laws.specs.InEvent.{InEvent, seen_here, now_of, row_of}
use Rattle.seen_laws.specs.Owing.{owes_row}
use Rattle.std.proofs.Common.{Bool, List, None, Option, Some, [], ap, false, inl, inr, not, refl, subst, sym, true, ℕ, ◌<◌, ◌⊎◌, ◌||◌, ◌∙◌, ◌∷◌, ◌≡◌}
use Rattle.std.proofs.lemmas.Bool.{and_cases, and_left, and_right, not-true, or_left, or_right}
use Rattle.std.specs.List.{list_any}
use Rattle.std.specs.Option.{option_map_or}
use Rattle.std.specs.Prelude.{option_and_then}
use Rattle.tab_ids.specs.declared.NavId.{NavId}
use Rattle.tab_ids.specs.declared.ReqId.{ReqId}
use Rattle.log_model.specs.declared.outcome.Cause.TheVariants as drops
use Rattle.log_model.specs.declared.request.Request.TheVariants as requests
use Rattle.log_model.specs.declared.row_kind.RowKind.TheVariants as rows

-- ---- the way up from a navigable

-- where one passes a test, one passes a weaker one
any_on : (f g : NavId → Bool) (navs : List NavId) → ((nav : NavId) → f nav ≡ true → g nav ≡ true) → list_any f navs ≡ true → list_any g navs ≡ true
any_on f g [] more is = cc
any_on f g (nav ∷ navs) more is = by_test (f nav) refl (any_on f g navs more) is
  where
    by_test : (b : Bool) → f nav ≡ b → (list_any f navs ≡ true → list_any g navs ≡ true) → (b || list_any f navs) ≡ true → (g nav || list_any g navs) ≡ true
    by_test true first rest is = or_left (g nav) (list_any g navs) (more nav first)
    by_test false first rest is = or_right (g nav) (list_any g navs) (rest is)

-- the test of one alone
first_only : (b : Bool) → (b || false) ≡ true → b ≡ true
first_only true is = refl
first_only false is = is

-- where one on the way up passes a test, one on it passes a weaker one at the end
pub way_still : (s end : Seen) → Lasts s end → (f g : NavId → Bool) (nav : NavId) → ((n : NavId) → f n ≡ true → g n ≡ true) → list_any f (way_to s nav) ≡ true → list_any g (way_to end nav) ≡ true
way_still s end lasts f g nav more = by_place (place_of s nav) refl
  where
    nav_same : (a b : NavId) → a.0 ≡ b.0 → a ≡ b
    nav_same a b is = ap (λ (n : ℕ). let x : NavId = record { 0 = n } in x) is

    -- one that had no place is the first on its way, whether or not it has one now
    by_end : (o : Option Place) → place_of end nav ≡ o → g nav ≡ true → list_any g (option_map_or way_of o (nav ∷ [])) ≡ true
    by_end None at is = or_left (g nav) false is
    by_end (Some place) at is =
        let own : place.nav ≡ nav = nav_same place.nav nav (find_has (λ (p : Place). p.nav.0) nav.0 end.places place at) in
        or_left (g place.nav) (list_any g place.above) (ap g own ∙ is)

    by_place : (o : Option Place) → place_of s nav ≡ o → list_any f (option_map_or way_of o (nav ∷ [])) ≡ true → list_any g (way_to end nav) ≡ true
    by_place None at is = by_end (place_of end nav) refl (more nav (first_only (f nav) is))
    by_place (Some place) at is =
        let it = lasts.places nav place at in
        let way : way_of it.then_ ≡ way_of place = ap (λ (n : NavId). n ∷ it.then_.above) it.nav_is ∙ ap (λ (l : List NavId). place.nav ∷ l) it.above in
        let then_ : way_to end nav ≡ way_of place = ap (λ (o : Option Place). option_map_or way_of o (nav ∷ [])) it.at ∙ way in
        ap (list_any g) then_ ∙ any_on f g (way_of place) more is

-- a navigable on the way up is on it still
pub on_way_still : (s end : Seen) → Lasts s end → (nav above : NavId) → has_nav (way_to s nav) above ≡ true → has_nav (way_to end nav) above ≡ true
on_way_still s end lasts nav above on = way_still s end lasts _ _ nav (λ n is. is) on

-- and a change of one on the way is of one on it still
changed_still : (s end : Seen) → Lasts s end → (nav : NavId) (q r : Asked) → r.change ≡ q.change → changed_one_of q (way_to s nav) ≡ true → changed_one_of r (way_to end nav) ≡ true
changed_still s end lasts nav q r same is =
    ap (λ c. holds (has_nav (way_to end nav)) (option_and_then nav_of_change c)) same ∙ by_nav (option_and_then nav_of_change q.change) is
  where
    by_nav : (o : Option NavId) → holds (has_nav (way_to s nav)) o ≡ true → holds (has_nav (way_to end nav)) o ≡ true
    by_nav None is = cc
    by_nav (Some n) is = on_way_still s end lasts nav n is

-- ---- causes that last

module _ (h : Here) (s end : Seen) (nav : NavId) (r : Asked) (by : ReqId) (at : request_of s by ≡ Some r) where
  -- one that isn't shown, or doesn't stand, is so at the end
  unplaced_still : Stays s end → (step : ℕ) (n : NavId) → is_placed s step n ≡ false → is_placed end step n ≡ false
  unplaced_still stays step n is = by_part (and_cases (is_shown s.history.rows step n) (stands s step n) is)
    where
      by_part : (is_shown s.history.rows step n ≡ false) ⊎ (stands s step n ≡ false) → is_placed end step n ≡ false
      by_part (inl unshown) =
          and_left (is_shown end.history.rows step n) (stands end step n) (ap (λ (h : History). is_shown h.rows step n) stays.history ∙ unshown)
      by_part (inr off) = and_right (is_shown end.history.rows step n) (stands end step n) (stays.off step n off)

  -- a passed traversal leads elsewhere still
  moved_still : (stays : Stays s end) → IsMovedBy h s nav r → IsMovedBy h end nav (stays.lasts.asked by r at).r
  moved_still stays is =
      let it : IsStill end by r = stays.lasts.asked by r at in
      record {
        traverses = ap is_traversal it.what ∙ is.traverses;
        began = it.began is.began;
        passed = stays.passed by r it.r at it.at is.passed;
        unended = ap (had_ended (point_at h [])) it.nr ∙ is.unended;
        displaced = way_still s end stays.lasts (λ n. not (is_placed s (aim_of s) n)) (λ n. not (is_placed end (aim_of end) n)) nav displaced is.displaced;
      }
    where
      displaced : (n : NavId) → not (is_placed s (aim_of s) n) ≡ true → not (is_placed end (aim_of end) n) ≡ true
      displaced n away =
          let off : is_placed end (aim_of end) n ≡ false = ap (λ (step : ℕ). is_placed end step n) stays.aim ∙ unplaced_still stays (aim_of s) n (not-true (is_placed s (aim_of s) n) away) in
          rw off refl

  -- the last step has moved it still, and not all have stood
  still_moved_still : (stays : Stays s end) → IsStillMovedBy s nav r → IsStillMovedBy end nav (stays.lasts.asked by r at).r
  still_moved_still stays is =
      let it : IsStill end by r = stays.lasts.asked by r at in
      record {
        last = stays.last ∙ is.last ∙ ap (λ (nr : ReqId). Some nr) (sym it.nr);
        unsettled = stays.unsettled is.unsettled;
        changed = changed_still s end stays.lasts nav r it.r (stays.changes by r it.r at it.at) is.changed;
        off = way_still s end stays.lasts (λ n. not (stands s s.history.current n)) (λ n. not (stands end end.history.current n)) nav off is.off;
      }
    where
      off : (n : NavId) → not (stands s s.history.current n) ≡ true → not (stands end end.history.current n) ≡ true
      off n away =
          let is_off : stands end end.history.current n ≡ false = ap (λ (h : History). stands end h.current n) stays.history ∙ stays.off s.history.current n (not-true (stands s s.history.current n) away) in
          rw is_off refl

  -- none was ever shown a document still in the navigable that the other request added
  adder_still : (lasts : Lasts s end) (q : Asked) → IsUnderAdder h s nav q r → IsUnderAdder h end nav q (lasts.asked by r at).r
  adder_still lasts q is =
      let there : IsThereStill end is.above is.place = lasts.places is.above is.place is.placed in
      record {
        accepted = is.accepted;
        above = is.above;
        on_way = on_way_still s end lasts nav is.above is.on_way;
        place = there.then_;
        placed = there.at;
        unshown = there.shown ∙ is.unshown;
        added = there.added ∙ is.added ∙ ap (λ (nr : ReqId). Some nr) (sym (lasts.asked by r at).nr);
      }

-- ---- a load that another request drops

-- the row of one request that another one drops
abbrev pub dropped_by : InEvent → ReqId → ReqId → LogRow
dropped_by e req by = row_of e (rows.Dropped req (drops.By by))

-- one whose cause is read at the drop, since the other one moved its navigable away, owes nothing
pub mover_owes : (e : InEvent) (out : List RowKind) (req by : ReqId) (q mover : Asked) → request_of (now_of e out) req ≡ Some q → request_of (now_of e out) by ≡ Some mover → by_mover (now_of e out) q mover ≡ true → (end : Seen) → owes_row (seen_here e out) (dropped_by e req by) end ≡ true
unfolding now_of
mover_owes e out req by q mover at other moved end =
    rw at (or_right (by_event (point_at (seen_here e out) []) end q by) (holds (by_mover (seen_here e out).now q) (request_of (seen_here e out).now by)) (rw other moved))

module _ (e : InEvent) (out : List RowKind) (req by : ReqId) (nav : NavId) (q r : Asked) (is : IsLoadBy (seen_here e out) (now_of e out) req by nav q r) where
  -- a load is no running traversal
  idle : IsIdle (now_of e out) req
  unfolding now_of
  idle = load_idle (now_of e out) req nav is.mode is.address q is.at is.what

  -- the other one is there at the end
  at_end : (end : Seen) (x : Asked) → request_of end by ≡ Some x → IsLoadBy (seen_here e out) end req by nav q x
  at_end end x there = record { at = is.at; mode = is.mode; address = is.address; what = is.what; other = there }

  -- the drop undoes nothing of what stays
  stays_then : (end : Seen) → Stays (after (now_of e out) (dropped_by e req by)) end → Stays (now_of e out) end
  stays_then end stays =
      stays_trans (now_of e out) (after (now_of e out) (dropped_by e req by)) end (dropped_stays (now_of e out) e.event e.actor req (reckoned_now e out) idle (drops.By by)) stays

  -- nor of what lasts
  lasts_then : (end : Seen) → Lasts (after (now_of e out) (dropped_by e req by)) end → Lasts (now_of e out) end
  lasts_then end lasts =
      lasts_trans (now_of e out) (after (now_of e out) (dropped_by e req by)) end (dropped_lasts (now_of e out) e.event e.actor req (drops.By by)) lasts

  -- a passed traversal leads elsewhere
  pub moved_owes : IsMovedBy (seen_here e out) (now_of e out) nav r → (end : Seen) → Stays (after (now_of e out) (dropped_by e req by)) end → owes_row (seen_here e out) (dropped_by e req by) end ≡ true
  moved_owes by_ end stays =
      let all : Stays (now_of e out) end = stays_then end stays in
      let it : IsStill end by r = all.lasts.asked by r is.other in
      moved_paid (seen_here e out) end e.event e.actor req by nav q it.r (at_end end it.r it.at) (moved_still (seen_here e out) (now_of e out) end nav r by is.other all by_)

  -- the last step has moved it, and not all have stood since
  pub still_moved_owes : IsStillMovedBy (now_of e out) nav r → (end : Seen) → Stays (after (now_of e out) (dropped_by e req by)) end → owes_row (seen_here e out) (dropped_by e req by) end ≡ true
  still_moved_owes by_ end stays =
      let all : Stays (now_of e out) end = stays_then end stays in
      let it : IsStill end by r = all.lasts.asked by r is.other in
      still_moved_paid (seen_here e out) end e.event e.actor req by nav q it.r (at_end end it.r it.at) (still_moved_still (seen_here e out) (now_of e out) end nav r by is.other all by_)

  -- the other request added the navigable, or one above, and none was ever shown a document there
  pub adder_owes : IsUnderAdder (seen_here e out) (now_of e out) nav q r → (end : Seen) → Lasts (after (now_of e out) (dropped_by e req by)) end → owes_row (seen_here e out) (dropped_by e req by) end ≡ true
  adder_owes by_ end lasts =
      let all : Lasts (now_of e out) end = lasts_then end lasts in
      let it : IsStill end by r = all.asked by r is.other in
      adder_paid (seen_here e out) end e.event e.actor req by nav q it.r (at_end end it.r it.at) (adder_still (seen_here e out) (now_of e out) end nav r by is.other all q by_)

  -- a later load of its navigable begins as the next row
  pub replaced_owes : IsReplacedBy (seen_here e out) nav q (record r { is_started = true }) → (end : Seen) → Lasts (after (after (now_of e out) (dropped_by e req by)) (row_of e (rows.Started by None))) end → owes_row (seen_here e out) (dropped_by e req by) end ≡ true
  replaced_owes by_ end lasts =
      replaced_paid (seen_here e out) end e.event e.actor req by nav q then_.r (at_end end then_.r then_.at) (record {
        mode = by_.mode;
        address = by_.address;
        what = then_.what ∙ was.what ∙ by_.what;
        later = subst (λ (nr : ReqId). q.nr.0 < nr.0) (sym (then_.nr ∙ was.nr)) by_.later;
        began = then_.began refl;
        begins_here = ap (had_started (point_at (seen_here e out) [])) (then_.nr ∙ was.nr) ∙ by_.begins_here;
      })
    where
      -- it is there after the drop
      was : IsStill (after (now_of e out) (dropped_by e req by)) by r
      was = (dropped_lasts (now_of e out) e.event e.actor req (drops.By by)).asked by r is.other

      begun : Asked
      begun = request_begun (after (now_of e out) (dropped_by e req by)) (record was.r { is_started = true; goal = None })

      -- and has begun at the end
      then_ : IsStill end by begun
      then_ = lasts.asked by begun (begun_there (after (now_of e out) (dropped_by e req by)) e.event e.actor by was.r was.at)

-- ---- a load that begins

-- it owes that no earlier one of its navigable is ongoing
pub sole_owes : (e : InEvent) (out : List RowKind) (req : ReqId) (nav : NavId) (mode : Mode) (address : List ℕ) (q : Asked) → request_of (now_of e out) req ≡ Some q → q.what ≡ requests.Load nav mode address → q.nr ≡ req → has_no_earlier_load (after (now_of e out) (row_of e (rows.Started req None))) req nav ≡ true → (end : Seen) → Lasts (after (now_of e out) (row_of e (rows.Started req None))) end → owes_row (seen_here e out) (row_of e (rows.Started req None)) end ≡ true
unfolding now_of
sole_owes e out req nav mode address q at what number sole end lasts =
    rw at (rw what (rw number (lasts.sole req nav sole)))
