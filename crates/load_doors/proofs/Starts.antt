-- What is read of an event's beginning in the log as it would be had nobody been asked.
use Rattle.load_doors.specs.Logged.{seen_start}
use Rattle.log_model.specs.AfterRequests.{changes_history, is_held_back, made_of_report}
use Rattle.log_model.specs.Queue.{is_taken_up_at_once}
use Rattle.log_model.specs.declared.made.Made.{Made}
use Rattle.log_model.specs.declared.made.Report.{Report}
use Rattle.seen_laws.specs.InEvent.{InEvent}
use Rattle.seen_laws.specs.Unasked.{no_answer, unasked_request}
use Rattle.std.proofs.Common.{Some, ap, length, not, sym, ℕ, ◌&&◌, ◌+◌, ◌∙◌, ◌≡◌}
use Rattle.std.proofs.lemmas.List.{length-map}
use Rattle.unasked.proofs.Deliveries.{held_back_same, held_up_same, in_place_same, made_same, untold_is}
use Rattle.unasked.specs.Premises.{IsUnheld}

module _ (e : InEvent) where
  -- as many requests were accepted
  pub requests_start : length (seen_start e).requests ≡ length e.start.requests
  requests_start = length-map e.start.requests (unasked_request e.checking)

  -- so the next request has the same number
  pub next_start : (n : ℕ) → n ≡ length e.start.requests + 1 → n ≡ length (seen_start e).requests + 1
  next_start n is = is ∙ ap (λ (k : ℕ). k + 1) (sym requests_start)

  -- what is held back
  pub held_start : IsUnheld e.checking e.start → (made : Made) → is_held_back (seen_start e) made ≡ is_held_back e.start made
  held_start unheld made = sym (held_back_same e.checking e.start unheld made)

  -- and what is to be taken up at once
  pub up_start : IsUnheld e.checking e.start → (made : Made) → is_taken_up_at_once (seen_start e) made ≡ is_taken_up_at_once e.start made
  up_start unheld made =
      λ i. changes_history made.what && in_place_same e.checking e.start made i && not (held_up_same e.checking e.start unheld made i)

-- a report tells of the same as it would had nobody been asked
pub made_real : (real report : Report) → no_answer real ≡ Some report → made_of_report real ≡ made_of_report report
made_real real report quiet = made_same real ∙ ap (λ (r : Report). made_of_report r) (sym (untold_is real report quiet))
