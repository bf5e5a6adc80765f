-- Loads end in time: by what is so of each ongoing load as an event ends, and of the navigables that its rows move.
use Rattle.std.proofs.Common.{◌≡◌, ℕ, ◌<◌, Bool, true, false, not, ◌&&◌, ◌||◌, ◌==◌, List, [], ◌∷◌, ◌++◌, Option, Some, None, fold, refl, sym, ap, ◌∙◌}
use Rattle.std.specs.Prelude.{is_some, nat_lt}
use Rattle.std.specs.List.{list_all}
use Rattle.std.specs.Option.{option_map_or}
use Rattle.std.proofs.lemmas.Bool.{and_left, and_parts, and_right, not_from_true}
use Rattle.tab_ids.specs.declared.NavId.{NavId}
use Rattle.tab_ids.specs.declared.ReqId.{ReqId}
use Rattle.log_model.specs.After.{after}
use Rattle.log_model.specs.Equal.{holds, implies}
use Rattle.log_model.specs.Events.{have_number}
use Rattle.log_model.specs.History.{has_nav, has_row, is_of, same_entry, target_entry}
use Rattle.log_model.specs.Logs.{seen_of}
use Rattle.log_model.specs.LoadsEndInTime.{LoadsEndInTime, ends_at_change, ends_at_order, ends_at_row, has_no_earlier_load_at, has_no_earlier_load_below, has_no_load_at, is_begun_load, is_for_traversal, is_on_untouched_way, loads_end, may_be_loaded}
use Rattle.log_model.specs.Places.{aim_of, has_arrived, has_target, is_below, is_below_known_lost, is_given_target, is_placed, is_shown, is_standing, passed_traversal, stands, way_of, way_to}
use Rattle.log_model.specs.Seen.{Document, Place, Seen, document_of, place_of}
use Rattle.log_model.specs.declared.change.Change.{Change}
use Rattle.log_model.specs.declared.job.Job.{Job}
use Rattle.log_model.specs.declared.job.Task.{Task}
use Rattle.log_model.specs.declared.row.Row.{Row}
use Rattle.log_model.specs.declared.row_kind.Actor.{Actor}
use Rattle.log_model.specs.declared.row_kind.LogRow.{LogRow}
use Rattle.log_model.specs.declared.row_kind.RowKind.{RowKind}
use Rattle.log_model.specs.declared.change.Change.TheVariants as changes
use Rattle.log_model.specs.declared.job.Task.TheVariants as tasks
use Rattle.log_model.specs.declared.row_kind.RowKind.TheVariants as rows
use Rattle.log_model.proofs.EventLaws.{at_each_event_more}
use Rattle.log_model.proofs.Refl.{nat_eq_refl}
use Rattle.seen_facts.proofs.Hang.Members.{has_any}
use Rattle.seen_facts.proofs.Hang.Targets.{target_has}
use Rattle.seen_facts.proofs.Walk.Placed.{found_nav}
use Rattle.seen_laws.proofs.Sendings.{both}
use Rattle.seen_facts.specs.LoadEnds.Standing.{AreUnsettled, LoadsStand, is_change_unsettled, is_off, is_order_unsettled, is_reached, is_row_unsettled}
use Rattle.seen_facts.proofs.LoadEnds.Each.{all_weaker, at_nav, each_weaker}

-- ---- a navigable that stands

-- what holds of a missing item holds of none, and so there is one
holds_some : {A : Type 0} (test : A → Bool) (o : Option A) → holds test o ≡ true → (x : A) × (o ≡ Some x) × (test x ≡ true)
holds_some test None is = cc
holds_some test (Some x) is = (x, refl, is)

-- what is so whatever the premise
under : (b : Bool) {c : Bool} → c ≡ true → implies b c ≡ true
under true is = is
under false is = refl

-- a navigable that stands was given its target
given_target : (e : Seen) (step : ℕ) (nav : NavId) → stands e step nav ≡ true → holds (has_target e step) (place_of e nav) ≡ true
given_target e step nav is =
    let found = holds_some (is_standing e.history.rows step) (place_of e nav) is in
    let standing = and_parts (is_given_target e.history.rows step found.0 && not found.0.is_unmet) (has_arrived found.0) found.2 in
    let given = and_parts (is_given_target e.history.rows step found.0) (not found.0.is_unmet) standing.0 in
    rw found.1 given.0

-- so it has an entry
pub standing_row : (e : Seen) (step : ℕ) (nav : NavId) → stands e step nav ≡ true → has_row nav e.history.rows ≡ true
standing_row e step nav is =
    let found = holds_some (has_target e step) (place_of e nav) (given_target e step nav is) in
    let target = holds_some (λ (row : Row). holds (same_entry row.entry) found.0.given) (target_entry e.history.rows found.0.nav step) found.2 in
    let has = target_has e.history.rows found.0.nav step target.0 target.1 in
    let own = found_nav e.places nav found.0 found.1 in
    has_any (is_of nav) e.history.rows target.0 has.there (ap (λ (n : NavId). n.0 == nav.0) (has.nav_is ∙ own) ∙ nat_eq_refl nav.0)

-- a navigable is on its own way
pub on_own_way : (e : Seen) (nav : NavId) (place : Place) → place_of e nav ≡ Some place → has_nav (way_to e nav) nav ≡ true
on_own_way e nav place at =
    let own : (place.nav.0 == nav.0) ≡ true = ap (λ (n : NavId). n.0 == nav.0) (found_nav e.places nav place at) ∙ nat_eq_refl nav.0 in
    rw at (rw own refl)

-- what is reached may be loaded
pub reached_may : (e : Seen) (nav : NavId) → is_reached e nav ≡ true → may_be_loaded e nav ≡ true
reached_may e nav is = both (both (both (standing_row e (aim_of e) nav own.1) own.0) parts.1) untouched
  where
    parts : (list_all (is_placed e (aim_of e)) (way_to e nav) ≡ true) × (holds (λ place. not (is_below_known_lost e place)) (place_of e nav) ≡ true)
    parts = and_parts (list_all (is_placed e (aim_of e)) (way_to e nav)) (holds (λ place. not (is_below_known_lost e place)) (place_of e nav)) is

    placed : is_placed e (aim_of e) nav ≡ true
    placed =
        let found = holds_some (λ place. not (is_below_known_lost e place)) (place_of e nav) parts.1 in
        at_nav (is_placed e (aim_of e)) (way_to e nav) nav parts.0 (on_own_way e nav found.0 found.1)

    own : (is_shown e.history.rows (aim_of e) nav ≡ true) × (stands e (aim_of e) nav ≡ true)
    own = and_parts (is_shown e.history.rows (aim_of e) nav) (stands e (aim_of e) nav) placed

    unmoved : (n : NavId) → is_placed e (aim_of e) n ≡ true → (is_shown e.history.rows (aim_of e) n && holds (has_target e (aim_of e)) (place_of e n)) ≡ true
    unmoved n p =
        let each = and_parts (is_shown e.history.rows (aim_of e) n) (stands e (aim_of e) n) p in
        both each.0 (given_target e (aim_of e) n each.1)

    untouched : is_on_untouched_way e nav ≡ true
    untouched = under (is_some (passed_traversal e)) (all_weaker (is_placed e (aim_of e)) _ unmoved (way_to e nav) parts.0)

-- ---- a navigable that doesn't stand

-- none of two, since not the second
not_both : (a b : Bool) → not b ≡ true → not (a && b) ≡ true
not_both true b is = is
not_both false b is = refl

-- not the second, since none of two
not_second : (a b : Bool) → not (a || b) ≡ true → not b ≡ true
not_second true b is = cc
not_second false b is = is

-- one that is on no way is above none
not_below : (e : Seen) (nav loaded : NavId) → not (has_nav (way_to e loaded) nav) ≡ true → not (holds (is_below nav) (place_of e loaded)) ≡ true
not_below e nav loaded = by_place (place_of e loaded)
  where
    by_place : (o : Option Place) → not (has_nav (option_map_or way_of o (loaded ∷ [])) nav) ≡ true → not (holds (is_below nav) o) ≡ true
    by_place None off = refl
    by_place (Some place) off = not_second (place.nav.0 == nav.0) (has_nav place.above nav) off

module _ (e : Seen) (stand : LoadsStand e) where
  -- no ongoing load is of a navigable that doesn't stand, or of one below it
  pub none_at : (nav : NavId) → is_off e nav ≡ true → has_no_load_at e nav ≡ true
  none_at nav off =
      each_weaker e (λ q loaded. is_reached e loaded) (λ q loaded. not (has_nav (way_to e loaded) nav)) (λ q. off_way) stand
    where
      off_way : (loaded : NavId) → is_reached e loaded ≡ true → not (has_nav (way_to e loaded) nav) ≡ true
      off_way loaded is = by_test (has_nav (way_to e loaded) nav) refl
        where
          by_test : (b : Bool) → has_nav (way_to e loaded) nav ≡ b → not b ≡ true
          by_test false on = refl
          by_test true on =
              let all = and_parts (list_all (is_placed e (aim_of e)) (way_to e loaded)) (holds (λ place. not (is_below_known_lost e place)) (place_of e loaded)) is in
              let placed = at_nav (is_placed e (aim_of e)) (way_to e loaded) nav all.0 on in
              let stood : stands e (aim_of e) nav ≡ true = (and_parts (is_shown e.history.rows (aim_of e) nav) (stands e (aim_of e) nav) placed).1 in
              (let never : not (stands e (aim_of e) nav) ≡ false = rw stood refl in sym never ∙ off)

  -- so none that was accepted before a request
  none_earlier_at : (req : ReqId) (nav : NavId) → is_off e nav ≡ true → has_no_earlier_load_at e req nav ≡ true
  none_earlier_at req nav off =
      each_weaker
      e
      (λ q loaded. not (has_nav (way_to e loaded) nav))
      (λ q loaded. not (nat_lt q.nr.0 req.0 && has_nav (way_to e loaded) nav))
      (λ q loaded. not_both (nat_lt q.nr.0 req.0) (has_nav (way_to e loaded) nav))
      (none_at nav off)

  none_earlier_below : (req : ReqId) (nav : NavId) → is_off e nav ≡ true → has_no_earlier_load_below e req nav ≡ true
  none_earlier_below req nav off =
      each_weaker
      e
      (λ q loaded. not (has_nav (way_to e loaded) nav))
      (λ q loaded. not (nat_lt q.nr.0 req.0 && holds (is_below nav) (place_of e loaded)))
      (λ q loaded is. not_both (nat_lt q.nr.0 req.0) (holds (is_below nav) (place_of e loaded)) (not_below e nav loaded is))
      (none_at nav off)

  -- ---- the rows of the event

  weaker : (b : Bool) {c d : Bool} → (c ≡ true → d ≡ true) → implies b c ≡ true → implies b d ≡ true
  weaker true so is = so is
  weaker false so is = refl

  at_document : (o : Option Document) → holds (λ (d : Document). is_off e d.nav) o ≡ true → holds (λ (d : Document). has_no_load_at e d.nav) o ≡ true
  at_document None off = off
  at_document (Some d) off = none_at d.nav off

  order_ends : (job : Job) (task : Task) → is_order_unsettled e job task ≡ true → ends_at_order e job task ≡ true
  order_ends job (tasks.Activate entry epoch length index memo address) is =
      weaker (is_for_traversal e job.why) (at_document (document_of e job.doc)) is
  order_ends job (tasks.Populate nav state address initial) is = refl
  order_ends job (tasks.Update length index) is = refl
  order_ends job tasks.Freeze is = refl
  order_ends job tasks.Discard is = refl
  order_ends job (tasks.Ask slot cause) is = refl
  order_ends job (tasks.DoFragment req mode address) is = refl

  change_ends : (req : ReqId) (change : Change) → is_change_unsettled e req change ≡ true → ends_at_change e req change ≡ true
  change_ends req (changes.Reload nav) is = none_earlier_at req nav is
  change_ends req (changes.Push nav entry state address memo) is = weaker (is_begun_load e req) (none_earlier_below req nav) is
  change_ends req (changes.Replace nav over entry state address memo) is = weaker (is_begun_load e req) (none_earlier_below req nav) is
  change_ends req (changes.AddFrame owner nav entry state) is = refl
  change_ends req (changes.RemoveFrame nav) is = refl
  change_ends req (changes.Traverse goal) is = refl
  change_ends req changes.Edit is = refl

  kind_ends : (event : ℕ) (actor : Actor) (kind : RowKind) → is_row_unsettled e (record { event = event; actor = actor; row = kind }) ≡ true → ends_at_row e (record { event = event; actor = actor; row = kind }) ≡ true
  kind_ends event actor (rows.Sent job) is = order_ends job job.task is
  kind_ends event actor (rows.Applied req change) is = change_ends req change is
  kind_ends event actor (rows.Opened entry state doc proc slot address) is = refl
  kind_ends event actor (rows.Accepted req doc what) is = refl
  kind_ends event actor (rows.Started req goal) is = refl
  kind_ends event actor (rows.Refused req reason) is = refl
  kind_ends event actor (rows.Dropped req cause) is = refl
  kind_ends event actor (rows.Prompted req doc) is = refl
  kind_ends event actor (rows.Answered req stay) is = refl
  kind_ends event actor (rows.Taken proc job live dirty) is = refl
  kind_ends event actor (rows.Finished proc job outcome) is = refl
  kind_ends event actor (rows.Made proc made) is = refl
  kind_ends event actor (rows.Delivered proc) is = refl
  kind_ends event actor (rows.Killed proc death) is = refl
  kind_ends event actor (rows.Evicted state) is = refl

  -- what a row is to end has ended, where its navigable doesn't stand
  pub row_ends : (row : LogRow) → is_row_unsettled e row ≡ true → ends_at_row e row ≡ true
  row_ends row = kind_ends row.event row.actor row.row

-- ---- the event, and the log

-- in an event whose rows leave unsettled what they move, loads end in time
pub loads_end_by : (s : Seen) (event : List LogRow) → LoadsStand (fold after s event) → AreUnsettled (fold after s event) event → loads_end s event ≡ true
unfolding loads_end
loads_end_by s event stand unsettled =
    let e : Seen = fold after s event in
    both
    (all_weaker (is_row_unsettled e) (ends_at_row e) (row_ends e stand) event unsettled)
    (each_weaker e (λ q nav. is_reached e nav) (λ q nav. may_be_loaded e nav) (λ q nav. reached_may e nav) stand)

-- with such an event after a log in which they did, they still do
pub loads_end_more : (log : List LogRow) (first : LogRow) (rows_ : List LogRow) → 0 < (seen_of log).events → have_number (seen_of log).events (first ∷ rows_) ≡ true → LoadsEndInTime log → LoadsStand (fold after (seen_of log) (first ∷ rows_)) → AreUnsettled (fold after (seen_of log) (first ∷ rows_)) (first ∷ rows_) → LoadsEndInTime (log ++ first ∷ rows_)
loads_end_more log first rows_ some number before stand unsettled =
    at_each_event_more loads_end log first rows_ some number before (loads_end_by (seen_of log) (first ∷ rows_) stand unsettled)

-- ---- why a navigable doesn't stand

module _ (e : Seen) (nav : NavId) (place : Place) (at : place_of e nav ≡ Some place) where
  off_by : is_standing e.history.rows (aim_of e) place ≡ false → is_off e nav ≡ true
  off_by is = rw at (rw is refl)

  -- its document was shown, and the report of that isn't delivered
  pub unarrived_off : has_arrived place ≡ false → is_off e nav ≡ true
  unarrived_off is = off_by (and_right (is_given_target e.history.rows (aim_of e) place && not place.is_unmet) (has_arrived place) is)

  -- a reload of it is due
  pub unmet_off : place.is_unmet ≡ true → is_off e nav ≡ true
  unmet_off is =
      off_by (and_left (is_given_target e.history.rows (aim_of e) place && not place.is_unmet) (has_arrived place) (and_right (is_given_target e.history.rows (aim_of e) place) (not place.is_unmet) (not_from_true place.is_unmet is)))

  -- it was given another entry than its target
  pub moved_off : is_given_target e.history.rows (aim_of e) place ≡ false → is_off e nav ≡ true
  moved_off is =
      off_by (and_left (is_given_target e.history.rows (aim_of e) place && not place.is_unmet) (has_arrived place) (and_left (is_given_target e.history.rows (aim_of e) place) (not place.is_unmet) is))
