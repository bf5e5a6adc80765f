-- What becomes of a place as a document is frozen or discarded.
use Rattle.log_model.specs.After.{after}
use Rattle.log_model.specs.AfterPlaces.{sleepers_with}
use Rattle.log_model.specs.Seen.{Place, Seen, place_of}
use Rattle.log_model.specs.declared.job.Job.{Job}
use Rattle.log_model.specs.declared.job.Task.{Task}
use Rattle.seen_facts.proofs.Mover.Orders.{PutsToSleep}
use Rattle.seen_laws.specs.InEvent.{InEvent, row_of}
use Rattle.std.proofs.Common.{None, Option, Some, ap, refl, sym, ◌∙◌, ◌≡◌}
use Rattle.std.specs.Prelude.{option_map}
use Rattle.tab_ids.specs.declared.NavId.{NavId}
use Rattle.seen_facts.proofs.Walk.Sleepers.{slept, slept_same}
use Rattle.row_facts.proofs.WalkRows.Sleeping.{place_sleeps}
use Rattle.log_model.specs.declared.row_kind.RowKind.TheVariants as rows

-- the place of before, of which this came
pub record WasSlept (s : Seen) (job : Job) (other : NavId) (place : Place) : Type 0 where
  pub old : Place
  pub found : place_of s other ≡ Some old
  pub is : slept (sleepers_with s job.doc) job.why old ≡ place
  pub above : place.above ≡ old.above

module _ (e : InEvent) (s : Seen) (job : Job) (task : Task) (its : job.task ≡ task) (puts : PutsToSleep task) where
  abbrev pub left : Seen
  left = after s (row_of e (rows.Sent job))

  pub was_slept : (other : NavId) (place : Place) → place_of left other ≡ Some place → WasSlept s job other place
  was_slept other place at = by_old (place_of s other) refl
    where
      then_place : place_of left other ≡ option_map (slept (sleepers_with s job.doc) job.why) (place_of s other)
      then_place = place_sleeps s e.event e.actor job task its puts other

      by_old : (o : Option Place) → place_of s other ≡ o → WasSlept s job other place
      by_old None there =
          let never : None ≡ Some place = sym (then_place ∙ ap (option_map (slept (sleepers_with s job.doc) job.why)) there) ∙ at in
          absurd cc
      by_old (Some old) there =
          let both : Some (slept (sleepers_with s job.doc) job.why old) ≡ Some place = sym (then_place ∙ ap (option_map (slept (sleepers_with s job.doc) job.why)) there) ∙ at in
          let same : slept (sleepers_with s job.doc) job.why old ≡ place = cc in
          record { old = old; found = there; is = same; above = ap (λ (p : Place). p.above) (sym same) ∙ (slept_same (sleepers_with s job.doc) job.why old).1 }
