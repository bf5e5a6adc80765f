-- An order was done that neither made nor showed a document: where no request is noted for a document that is left to be discarded, the event is over.
use Rattle.log_model.specs.Seen.{Seen}
use Rattle.log_model.specs.declared.made.Report.TheVariants as reports
use Rattle.coord.proofs.Asides.{IsPlain, delivered_plain, start_asks, start_lasts}
use Rattle.coord.proofs.Idle.{stands_then}
use Rattle.coord.proofs.Dones.{done_found, done_seen, done_stands, done_telling}
use Rattle.coord.specs.Delivering.{InDone, IsDone}
use Rattle.coord.specs.Standing.{HasActed}
use Rattle.coord.specs.declared.coordinator.Coordinator.{Coordinator}
use Rattle.log_model.specs.declared.job.Job.{Job}
use Rattle.std.proofs.Common.{List, None, [], arith, eqb-true, length, refl, true, ◌==◌, ◌∷◌, ◌≡◌, subst, sym}
use Rattle.tab_acts.proofs.Told.{told_acts}
use Rattle.tab_stands.specs.Delivering.{IsQuietTask}
use Rattle.tab_stands.specs.Standing as tab

module _ (d : InDone) (c : Coordinator) (job : Job) (done : IsDone d c job) (quiet : IsQuietTask job.task) (clear : c.blame.entries ≡ []) where
  its : tab.HasActed tab.none_in_check d.event [] c.tables c.queue c.blame.entries
  its =
      told_acts d.event d.proc job d.outcome (done_seen d c job done) c.tables c.queue c.blame.entries (done_stands d c job done) (start_lasts d.event c done.open_) (start_asks d.event c done.open_) done.open_.room done.open_.uncut quiet clear

  at : IsPlain d.event []
  at = delivered_plain d.event c done.open_ d.proc (reports.Done job d.outcome None) done.delivery

  pub quiet_acts : HasActed d.event [] c
  quiet_acts =
      record {
        stands = stands_then d.event c done.open_ [] (subst (λ (x : Seen). tab.StandsFor tab.none_in_check x c.tables c.queue c.blame.entries) (sym at.same) its.stands) its.lasts at (done_found d c job done) (done_telling d c job done) done.slots;
        header = done.open_.header;
        passes = its.passes;
        off = λ req change never. absurd never;
      }

-- an empty list has nothing
pub none_of : {A : Type 0} (xs : List A) → (length xs == 0) ≡ true → xs ≡ []
none_of [] empty = refl
none_of (x ∷ xs) never = (let none : length (x ∷ xs) ≡ 0 = eqb-true (length (x ∷ xs)) 0 never in absurd (omega (arith, none)))
