-- What is read of the tables is so in each log that the coordinator stands for.
use Rattle.apply_plan.specs.Reaches.{is_reached}
use Rattle.apply_plan.specs.declared.reach.Reach.TheVariants.{Shown}
use Rattle.coord.specs.Standing.{StandsFor}
use Rattle.coord.specs.declared.coordinator.Coordinator.{Coordinator}
use Rattle.log_model.specs.History.{has_row}
use Rattle.log_model.specs.Places.{is_shown}
use Rattle.log_model.specs.Seen.{Seen}
use Rattle.std.proofs.Common.{Bool, [], ap, arith, false, length, not, refl, true, ℕ, ◌+◌, ◌<◌, ◌∙◌, ◌≡◌}
use Rattle.step_index.specs.Held.{history_held}
use Rattle.tab_doors.specs.Dues.{has_none}
use Rattle.log_model.specs.declared.request.Mode.TheVariants as modes
use Rattle.tab_ids.specs.declared.NavId.{NavId}
use Rattle.tab_loads.proofs.Denies.{none_is, row_place}
use Rattle.tab_loads.proofs.Reached.{shown_is}
use Rattle.tab_stands.specs.Standing.{HasRoomFor}

not_not : (b : Bool) → not (not b) ≡ b
not_not true = refl
not_not false = refl

module _ (s : Seen) (c : Coordinator) (its : StandsFor s c) (nav : NavId) where
  pub row_is : HasRoomFor s → not (has_none (history_held c.tables.store).rows nav) ≡ has_row nav s.history.rows
  row_is room =
      ap not (none_is s c.tables.running c.tables its.but.stands.tied.holds its.but.stands.between.tab.sound its.but.stands.between.tab.hangs its.but.stands.between.tab.standing its.but.stands.lasts.steps (let few : length s.requests + 3 < 4294967296 = room in omega (arith, few)) nav modes.Auto [])
      ∙ not_not (has_row nav s.history.rows)

  pub shown_here : has_row nav s.history.rows ≡ true → (step : ℕ) → step ≡ (history_held c.tables.store).current → is_reached Shown (history_held c.tables.store).rows step c.tables.tree nav ≡ is_shown s.history.rows s.history.current nav
  shown_here has step is =
      let at = row_place s its.but.stands.between.tab.hangs nav has in
      shown_is s c.tables.running c.tables its.but.stands.tied.holds its.but.stands.between.tab.sound its.but.stands.between.tab.hangs nav at.0 at.1 step
      ∙ ap (λ (k : ℕ). is_shown s.history.rows k nav) (is ∙ its.but.stands.tied.holds.history.current)
