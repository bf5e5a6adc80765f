-- A request passes its check by an event's own row: what the row leaves of the log without questions, and where it stands but for that the request hasn't begun. Of a traversal, what stood as the event began, with it in its check, is what a pass may follow from.
use Rattle.load_table.specs.declared.load.Load.{Load}
use Rattle.leave_facts.proofs.Bares.{homes_log}
use Rattle.load_doors.proofs.Starts.{requests_start}
use Rattle.log_model.specs.After.{has_stood_now}
use Rattle.log_model.specs.Seen.{Asked, Seen, request_of}
use Rattle.move_queue.specs.Queue.{Queue}
use Rattle.move_queue.specs.declared.queue_step.QueueStep.{QueueStep}
use Rattle.seen_facts.proofs.Hang.Hung.{places_distinct}
use Rattle.seen_facts.proofs.Mover.Places.{same_ways}
use Rattle.seen_laws.specs.InEvent.{InEvent, log_of, now_of}
use Rattle.seen_laws.specs.Unasked.{unasked, unasked_request, unbegun, without_asks}
use Rattle.std.proofs.Common.{Bool, List, None, Option, Some, [], ap, cond, false, inl, refl, sym, true, ℤ, ◌∙◌, ◌≡◌}
use Rattle.std.specs.Prelude.{option_map}
use Rattle.tab_answers.proofs.Quiet.{quiet_stands}
use Rattle.tab_answers.proofs.Stood.{quieted}
use Rattle.tab_doors.specs.declared.tables.Tables.{Tables}
use Rattle.tab_ids.specs.declared.ReqId.{ReqId}
use Rattle.tab_ids.specs.declared.StateId.{StateId}
use Rattle.tab_ids.specs.declared.Step.{Step}
use Rattle.tab_passed.proofs.Ready.{IsBefore, past_check}
use Rattle.tab_passed.specs.Passing.{HasPassedBy, IsInFront, IsPastCheck, IsToPass, PassesCheck, passed_tables}
use Rattle.tab_settles.specs.PassedOn.{AreUnheld}
use Rattle.tab_stands.specs.Standing.{HasRoomFor, InCheck, StandsFor}
use Rattle.unasked.proofs.Passings.{passed_unasked}
use Rattle.unasked.proofs.Readings.{request_read}
use Rattle.unasked_tab.proofs.Begun.{with_begun}
use Rattle.unasked_dues.specs.Checking.{NoStepChecks}
use Rattle.unload_check.specs.Checks.{OpenCheck}
use Rattle.log_model.specs.Equal.{has_req}
use Rattle.row_facts.specs.FrameRows.Lawful.{held_at_first}
use Rattle.tab_doors.proofs.Uncut.{uncut_held}

-- whether all have stood isn't read of requests
stood_same : (s : Seen) (req : ReqId) (q : Asked) (stood : Bool) → has_stood_now stood (with_begun s req q) ≡ has_stood_now stood s
stood_same s req q true = refl
stood_same s req q false = refl

module _ (was : ReqId → Bool) (e : InEvent) where
  -- the log without questions as the event began
  abbrev before : Seen
  before = unasked was e.start

  -- and as the own row leaves it, but for that the request hasn't begun
  abbrev pub quiet : Seen
  quiet = quieted before e.event (has_stood_now before.has_stood before)

  -- the row leaves it with the request begun
  pub now_begun : (req : ReqId) (q : Asked) → PassesCheck was e req q → (checks : List (ReqId × OpenCheck)) → {asking : List Load} → HasPassedBy e checks asking → now_of e [] ≡ with_begun quiet req q
  now_begun req q pass checks own =
      own.unseen
      ∙ ap (λ (x : Seen). quieted x e.event (has_stood_now x.has_stood x)) (passed_unasked was e.checking e.start req q pass.at own.numbered pass.off pass.same)
      ∙ ap (λ (b : Bool). quieted (with_begun before req q) e.event b) (stood_same before req q before.has_stood)

  -- the request there
  pub unbegun_there : (req : ReqId) (q : Asked) → PassesCheck was e req q → q.nr ≡ req → request_of quiet req ≡ Some (unbegun q)
  unbegun_there req q pass numbered =
      request_read was e.start req
      ∙ ap (λ (o : Option Asked). option_map (unasked_request was) o) pass.at
      ∙ ap (λ (b : Bool). let o : Option Asked = Some (cond b (unbegun q) (without_asks q)) in o) (ap was numbered ∙ pass.on)

  module _ (t : Tables) (queue : Queue) (blame : List (StateId × ReqId)) {check : InCheck} (stands : StandsFor check (unasked was e.start) t queue blame) where
    -- the coordinator stands for it
    pub quiet_then : StandsFor check quiet t queue blame
    quiet_then =
        quiet_stands before e.event (has_stood_now before.has_stood before) t queue blame stands (λ off away. ap (λ (b : Bool). has_stood_now b before) off ∙ away)

    -- nothing is held back
    held_none : check.holds ≡ true → (req : ReqId) (q : Asked) → PassesCheck was e req q → (checks : List (ReqId × OpenCheck)) → {asking : List Load} → HasPassedBy e checks asking → (r : ReqId) → has_req (held_at_first e) r ≡ false
    held_none holds req q pass checks own r =
        ap (λ (l : List ReqId). has_req l r) (sym (uncut_held e own.uncut) ∙ ap (λ (x : Seen). x.parked) (now_begun req q pass checks own) ∙ quiet_then.between.held (stands.alone holds))

    -- where no ongoing load was held back, it is as after a pass
    pub at_start : AreUnheld e quiet → IsBefore e quiet
    at_start unheld =
        record {
          many = requests_start (record e { checking = was });
          passed = record {
            walked = record {
              since = record {
                distinct = places_distinct before stands.between.tab.sound stands.between.tab.hangs;
                homed = (homes_log was e.start stands.between.tab.homes).homed;
                ways = same_ways e.start.places;
              };
              unwoken = λ all nav place doc out found wakes. record { place = place; placed = found; wakes = wakes };
              still = λ all nav place doc found wakes. inl (record { place = place; placed = found; wakes = wakes });
              were = quiet_then.lasts.were;
              parents = quiet_then.lasts.parents;
              loads = quiet_then.between.stands;
            };
            held = unheld;
            takers = quiet_then.lasts.takers;
            rows_ = quiet_then.between.rows_;
          };
          unwoken = λ nav place doc out found wakes. record { place = place; placed = found; wakes = wakes };
          still = λ nav place doc found wakes. inl (record { place = place; placed = found; wakes = wakes });
        }

    pub start_past : check.holds ≡ true → HasRoomFor e.start → t.kept.keep ≡ e.header.keep → (req : ReqId) (q : Asked) (goal : Step) → IsToPass was e req q goal → q.is_started ≡ true → q.ending ≡ None → (delta : ℤ) (rest : List QueueStep) → IsInFront queue req delta rest → (checks : List (ReqId × OpenCheck)) → HasPassedBy e checks t.asking → NoStepChecks e.checking (log_of e []) → IsPastCheck e check.loads (passed_tables t req goal checks) (record queue { waiting = rest }) blame req
    start_past holds room header req q goal pass starts open_ delta rest front checks own free =
        past_check e t queue blame quiet quiet_then (at_start (λ r nav its. held_none holds req q pass.passes checks own r)) holds room header req (unbegun q) q goal (unbegun_there req q pass.passes (own.numbered req q pass.passes.at)) pass.goes open_ refl starts pass.to delta rest front checks own free (now_begun req q pass.passes checks own)
