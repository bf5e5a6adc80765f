-- What lasts of the log itself lasts over the rows of a question, over a prompt, and as the user stays and the request is dropped for that.
use Rattle.tab_doors.proofs.AskingLoads.{row_asking}
use Rattle.tab_doors.specs.AskingLoads.{TiesAsking}
use Rattle.load_table.specs.declared.load.Load.{Load}
use Rattle.asking_facts.specs.Known.{AskingKnown}
use Rattle.log_model.specs.After.{after}
use Rattle.log_model.specs.Seen.{Seen, desk_of}
use Rattle.log_model.specs.declared.handler.Verdict.{Verdict}
use Rattle.log_model.specs.declared.job.Order.{Order}
use Rattle.log_model.specs.declared.outcome.Cause.{Cause}
use Rattle.log_model.specs.declared.outcome.Outcome.TheVariants as outcomes
use Rattle.log_model.specs.declared.row_kind.Actor.{Actor}
use Rattle.log_model.specs.declared.row_kind.LogRow.{LogRow}
use Rattle.log_model.specs.declared.row_kind.RowKind.{RowKind}
use Rattle.log_model.specs.declared.row_kind.RowKind.TheVariants as rows
use Rattle.std.proofs.Common.{Bool, Some, [], false, refl, sym, true, ℕ, ◌∙◌, ◌≡◌, List}
use Rattle.tab_ids.specs.declared.DocId.{DocId}
use Rattle.tab_ids.specs.declared.JobId.{JobId}
use Rattle.tab_ids.specs.declared.ProcId.{ProcId}
use Rattle.tab_ids.specs.declared.ReqId.{ReqId}
use Rattle.tab_stands.proofs.EpochRows.{coord_under, finished_under, taken_under}
use Rattle.tab_stands.proofs.PassedOn.{finished_duly, row_checks, row_duly}
use Rattle.tab_stands.specs.Standing.{LastsInLog}

module _ (checking : ReqId → Bool) (s : Seen) (event : ℕ) (actor : Actor) {table : List Load} (lasts : LastsInLog checking table s) where
  abbrev its_row : RowKind → LogRow
  its_row kind = record { event = event; actor = actor; row = kind }

  abbrev then : RowKind → Seen
  then kind = after s (its_row kind)

  pub taken_lasts : (proc : ProcId) (job : JobId) (live dirty : Bool) → AskingKnown (then (rows.Taken proc job live dirty)) → LastsInLog checking table (then (rows.Taken proc job live dirty))
  taken_lasts proc job live dirty known =
      record {
        checks = row_checks checking s (its_row (rows.Taken proc job live dirty)) tt tt lasts.checks;
        asking = row_asking checking s event actor table lasts.asking (rows.Taken proc job live dirty) tt;
        shows = taken_under s event actor proc job live dirty lasts.shows;
        duly = row_duly s event actor lasts.duly (rows.Taken proc job live dirty) tt;
        known = known;
      }

  pub finished_lasts : (proc : ProcId) (order : Order) (verdict : Verdict) → (desk_of s proc).in_hand ≡ Some order → AskingKnown (then (rows.Finished proc order.job.nr (outcomes.Asked verdict))) → LastsInLog checking table (then (rows.Finished proc order.job.nr (outcomes.Asked verdict)))
  finished_lasts proc order verdict hand known =
      record {
        checks = row_checks checking s (its_row (rows.Finished proc order.job.nr (outcomes.Asked verdict))) tt tt lasts.checks;
        asking = row_asking checking s event actor table lasts.asking (rows.Finished proc order.job.nr (outcomes.Asked verdict)) tt;
        shows = finished_under s event actor proc order.job.nr (outcomes.Asked verdict) lasts.shows;
        duly = finished_duly s event actor lasts.duly proc order (outcomes.Asked verdict) hand (λ slot is. absurd cc);
        known = known;
      }

  pub prompted_lasts : (req : ReqId) (doc : DocId) → checking req ≡ true → AskingKnown (then (rows.Prompted req doc)) → LastsInLog checking table (then (rows.Prompted req doc))
  prompted_lasts req doc on known =
      record {
        checks = row_checks checking s (its_row (rows.Prompted req doc)) on tt lasts.checks;
        asking = row_asking checking s event actor table lasts.asking (rows.Prompted req doc) tt;
        shows = record { orders = lasts.shows.orders; unshown = lasts.shows.unshown; top_ = lasts.shows.top_ };
        duly = row_duly s event actor lasts.duly (rows.Prompted req doc) tt;
        known = known;
      }

  pub answered_lasts : (req : ReqId) (stay : Bool) → checking req ≡ true → AskingKnown (then (rows.Answered req stay)) → LastsInLog checking table (then (rows.Answered req stay))
  answered_lasts req stay on known =
      record {
        checks = row_checks checking s (its_row (rows.Answered req stay)) (λ off. (let never : true ≡ false = sym on ∙ off in absurd cc)) tt lasts.checks;
        asking = row_asking checking s event actor table lasts.asking (rows.Answered req stay) tt;
        shows = record { orders = lasts.shows.orders; unshown = lasts.shows.unshown; top_ = lasts.shows.top_ };
        duly = row_duly s event actor lasts.duly (rows.Answered req stay) tt;
        known = known;
      }

  pub dropped_lasts : (req : ReqId) (cause : Cause) → {next : List Load} → TiesAsking checking (then (rows.Dropped req cause)) next → AskingKnown (then (rows.Dropped req cause)) → LastsInLog checking next (then (rows.Dropped req cause))
  dropped_lasts req cause asking known =
      record {
        checks = row_checks checking s (its_row (rows.Dropped req cause)) tt tt lasts.checks;
        asking = asking;
        shows = coord_under s event actor (rows.Dropped req cause) tt (record { start = s; now = s; done = []; later = [] }) refl refl lasts.shows;
        duly = row_duly s event actor lasts.duly (rows.Dropped req cause) tt;
        known = known;
      }
