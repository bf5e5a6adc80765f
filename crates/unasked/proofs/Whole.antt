-- What a log has come to, from its parts; and whether all have stood, computed again.
use Rattle.std.proofs.Common.{◌≡◌, ℕ, ◌+◌, Bool, true, false, cond, List, [], map, Option, None, refl, sym, ap, ◌∙◌}
use Rattle.std.specs.Prelude.{option_and_then}
use Rattle.tab_ids.specs.declared.DocId.{DocId}
use Rattle.tab_ids.specs.declared.ReqId.{ReqId}
use Rattle.log_model.specs.declared.job.Job.{Job}
use Rattle.log_model.specs.declared.row_kind.Actor.{Actor}
use Rattle.log_model.specs.declared.row_kind.LogRow.{LogRow}
use Rattle.log_model.specs.declared.row_kind.RowKind.{RowKind}
use Rattle.log_model.specs.History.{History}
use Rattle.log_model.specs.Seen.{Place, Seen}
use Rattle.log_model.specs.Places.{all_stand, all_stand_in}
use Rattle.log_model.specs.After.{after, changed, desks_after, documents_after, finished_by, has_stood_after, has_stood_now, last_step_after, states_after}
use Rattle.log_model.specs.AfterPlaces.{kept_after, places_after}
use Rattle.log_model.specs.AfterRequests.{joined_after, parked_after}
use Rattle.seen_laws.specs.Unasked.{no_question, quiet_desk, unasked, unasked_request, unhandled}

-- a row of an event
abbrev pub row_of : ℕ → Actor → RowKind → LogRow
row_of event actor kind = record { event = event; actor = actor; row = kind }

-- all but documents, desks and requests
abbrev pub bare : Seen → Seen
bare s = record s { documents = []; desks = []; requests = [] }

-- two that are the same in their parts
pub whole : (s t : Seen) → bare s ≡ bare t → s.documents ≡ t.documents → s.desks ≡ t.desks → s.requests ≡ t.requests → s ≡ t
whole s t rest documents desks requests =
    λ i. record (rest i) { documents = documents i; desks = desks i; requests = requests i }

-- they have stood, or they stand now in these places
abbrev pub stood_with : History → Bool → List Place → Bool
stood_with history stood places = cond stood true (all_stand_in history.rows places history.current)

-- the places, what is kept, joined and held back, how many states there are, the order just finished and the last step change
abbrev pub moved : Seen → Bool → List Place → List DocId → List ReqId → List ReqId → ℕ → Option Job → Option ReqId → Seen
moved s stood places kept joined parked states finished step =
    record s {
      places = places;
      kept = kept;
      joined = joined;
      parked = parked;
      states = states;
      just_finished = finished;
      last_step = step;
      has_stood = stood_with s.history stood places;
    }

-- what a row leaves, whether they have stood being computed again
pub after_parts : (s : Seen) (row : LogRow) → (let new = changed s row in after s row ≡ moved new (has_stood_after s row.row) new.places new.kept new.joined new.parked new.states new.just_finished new.last_step)
after_parts s row = by_stood (has_stood_after s row.row) refl
  where
    by_stood : (b : Bool) → has_stood_after s row.row ≡ b → (let new = changed s row in record new { has_stood = has_stood_now b new } ≡ record new { has_stood = stood_with new.history b new.places })
    by_stood true e = refl
    by_stood false e = refl

-- all but what a row may read of requests, desks and documents
abbrev pub fixed : Seen → Seen
fixed s =
    record (bare s) {
      places = [];
      kept = [];
      joined = [];
      parked = [];
      states = 0;
      just_finished = None;
      last_step = None;
      has_stood = true;
    }

-- a row makes of the log without questions what another makes of the log, part by part
pub record IsSeen (checking : ReqId → Bool) (s : Seen) (row same : LogRow) : Type 0 where
  pub fixed : fixed (changed s row) ≡ fixed (changed (unasked checking s) same)
  pub documents : map unhandled (documents_after s row.row) ≡ documents_after (unasked checking s) same.row
  pub desks : map quiet_desk (desks_after s row) ≡ desks_after (unasked checking s) same
  pub requests : map (unasked_request checking) (changed s row).requests ≡ (changed (unasked checking s) same).requests
  pub places : places_after s row.row ≡ places_after (unasked checking s) same.row
  pub kept : kept_after s row.row ≡ kept_after (unasked checking s) same.row
  pub joined : joined_after s row.row ≡ joined_after (unasked checking s) same.row
  pub parked : parked_after s row.row ≡ parked_after (unasked checking s) same.row
  pub states : states_after s row.row ≡ states_after (unasked checking s) same.row
  pub finished : option_and_then no_question (finished_by s row.row) ≡ finished_by (unasked checking s) same.row
  pub step : last_step_after s row.row ≡ last_step_after (unasked checking s) same.row
  pub stood : has_stood_after s row.row ≡ has_stood_after (unasked checking s) same.row

-- and so for the whole
pub seen : (checking : ReqId → Bool) (s : Seen) (row same : LogRow) → IsSeen checking s row same → unasked checking (after s row) ≡ after (unasked checking s) same
seen checking s row same is =
    ap (unasked checking) (after_parts s row)
    ∙ (λ i. record (is.fixed i) {
      documents = is.documents i;
      desks = is.desks i;
      requests = is.requests i;
      places = is.places i;
      kept = is.kept i;
      joined = is.joined i;
      parked = is.parked i;
      states = is.states i;
      just_finished = is.finished i;
      last_step = is.step i;
      has_stood = stood_with (is.fixed i).history (is.stood i) (is.places i);
    })
    ∙ sym (after_parts (unasked checking s) same)

-- where they have stood or stand now, it is noted
pub stood_noted : (s : Seen) (row : LogRow) → has_stood_now (after s row).has_stood (after s row) ≡ (after s row).has_stood
stood_noted s row = by_stood (has_stood_after s row.row)
  where
    by_now : (c : Bool) → (let new = changed s row in all_stand new new.history.current) ≡ c → (let new = changed s row in has_stood_now c (record new { has_stood = c })) ≡ c
    by_now true e = refl
    by_now false e = e

    by_stood : (b : Bool) → (let new = changed s row in let then = record new { has_stood = has_stood_now b new } in has_stood_now then.has_stood then) ≡ (let new = changed s row in has_stood_now b new)
    by_stood true = refl
    by_stood false = by_now (let new = changed s row in all_stand new new.history.current) refl

-- ---- rows that aren't seen

-- the log without questions as an event goes on, with so many orders and states
abbrev pub silent : Seen → ℕ → ℕ → ℕ → Seen
silent s event jobs states = record s { events = event + 1; jobs = jobs; states = states; just_finished = None }

-- all but what a row that isn't seen changes
abbrev pub still : Seen → Seen
still s = record (bare s) { events = 0; jobs = 0; states = 0; just_finished = None; has_stood = true }

-- a row changes nothing of the log without questions, part by part
pub record IsUnseen (checking : ReqId → Bool) (s : Seen) (row : LogRow) : Type 0 where
  pub still : still (changed s row) ≡ still s
  pub documents : map unhandled (documents_after s row.row) ≡ map unhandled s.documents
  pub desks : map quiet_desk (desks_after s row) ≡ map quiet_desk s.desks
  pub requests : map (unasked_request checking) (changed s row).requests ≡ map (unasked_request checking) s.requests
  pub finished : option_and_then no_question (finished_by s row.row) ≡ None
  pub stood : has_stood_after s row.row ≡ s.has_stood
  pub noted : has_stood_now s.has_stood s ≡ s.has_stood

-- and so for the whole
pub unseen : (checking : ReqId → Bool) (s : Seen) (row : LogRow) → IsUnseen checking s row → unasked checking (after s row) ≡ silent (unasked checking s) row.event (changed s row).jobs (changed s row).states
unseen checking s row is =
    ap (unasked checking) (after_parts s row)
    ∙ (λ i. record (is.still i) {
      events = row.event + 1;
      documents = is.documents i;
      desks = is.desks i;
      requests = is.requests i;
      jobs = (changed s row).jobs;
      states = (changed s row).states;
      just_finished = is.finished i;
      has_stood = (ap (λ b. stood_with (changed s row).history b (changed s row).places) is.stood ∙ ap (λ (t : Seen). stood_with t.history s.has_stood t.places) is.still ∙ as_noted s.has_stood is.noted) i;
    })
  where
    as_noted : (b : Bool) → has_stood_now b s ≡ b → stood_with s.history b s.places ≡ b
    as_noted true e = refl
    as_noted false e = e
