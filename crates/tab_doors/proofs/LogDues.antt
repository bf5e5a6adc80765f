-- What the doors ask of the log as it would be had nobody been asked is so of the log: what a document made is applied or refused, a request is dropped, and a traversal that leads nowhere is refused, or ends.
use Rattle.std.proofs.Common.{◌≡◌, Bool, true, false, List, [], length, inl, inr, Some, None, refl, sym, ap, ◌∙◌, subst}
use Rattle.std.specs.Prelude.{◌⊎◌, nat_lt}
use Rattle.tab_ids.specs.declared.ReqId.{ReqId}
use Rattle.tab_ids.specs.declared.Step.{Step}
use Rattle.log_model.specs.Causes.{by_mover, denial_at_acceptance, denial_at_delivery, is_destroyed_by}
use Rattle.log_model.specs.Equal.{has_req}
use Rattle.log_model.specs.Once.{delta_of, due_change, step_at_delta}
use Rattle.log_model.specs.Places.{aim_of, all_stand, has_passed, is_traversal, is_under_way}
use Rattle.log_model.specs.Queue.{begins_in_turn, is_step_under_way, is_taken_up_at_once}
use Rattle.log_model.specs.Seen.{Asked, Seen, request_of}
use Rattle.log_model.specs.declared.change.Change.{Change}
use Rattle.log_model.specs.declared.change.Change.TheVariants as changes
use Rattle.log_model.specs.declared.made.Made.{Made}
use Rattle.log_model.specs.declared.outcome.Denial.{Denial}
use Rattle.log_model.specs.declared.row_kind.RowKind.{RowKind}
use Rattle.row_facts.specs.FrameRows.Lawful.{held_at_first}
use Rattle.row_facts.specs.FrameRows.Taking.{IsDueNow, IsPoked}
use Rattle.seen_laws.specs.InEvent.{InEvent, log_of, now_of}
use Rattle.tab_doors.specs.Dues.{IsDenyDue, IsDenyDueIn, IsDestroyDue, IsDestroyDueIn, IsDropDue, IsDropDueIn, IsEndDue, IsEndDueIn, IsMadeFor, IsNowhere, IsNowhereIn, IsTakeDue, IsTakeDueIn}
use Rattle.seen_laws.specs.Unasked.{unasked, without_asks}
pub use Rattle.unasked.proofs.Readings.{checked_off, checked_on, found_from}
use Rattle.unasked_dues.proofs.Base.{aim_stand_same, runs_in, turn_same}
use Rattle.log_model.specs.declared.request.Request.{Request}
use Rattle.unasked_dues.proofs.Dues.{at_once_same, denial_same, destroyed_same, due_now, fragment_made, moved_away, part_of, poked, poked_off}
use Rattle.checking_facts.specs.States.{AreBegun}
use Rattle.unasked_dues.specs.Checking.{AllOthersPass, AreChecking, AreNumbered, IsAimed, IsMoving, NoStepChecks}

-- a step that isn't begun has no change
begun_for : (s : Seen) (q : Asked) (change : Change) → is_traversal q.what ≡ true → due_change s q ≡ Some change → q.is_started ≡ true
begun_for s q change traverses due = by_start q.is_started refl
  where
    by_start : (b : Bool) → q.is_started ≡ b → b ≡ true
    by_start true e = refl
    by_start false e = let none : due_change s q ≡ None = rw e (rw traverses refl) in cc

module _ (e : InEvent) (out : List RowKind) (same : now_of e out ≡ unasked e.checking (log_of e out)) where
  abbrev checking : ReqId → Bool
  checking = e.checking

  abbrev now : Seen
  now = log_of e out

  -- a request that is found isn't another one
  off_from : AreNumbered now → (req : ReqId) (bare : Asked) → request_of (now_of e out) req ≡ Some bare → checking req ≡ false → (q : Asked) × (request_of now req ≡ Some q) × (bare ≡ without_asks q)
  off_from numbered req bare found off =
      let from = found_from checking now req bare (subst (λ (x : Seen). request_of x req ≡ Some bare) same found) in
      (from.0, from.1, from.2 ∙ checked_off checking from.0 (ap checking (numbered req from.0 from.1) ∙ off))

  -- ---- what a document made

  by_for : IsMoving checking now → AllOthersPass checking now → (req : ReqId) (q bare : Asked) (made : Made) → request_of now req ≡ Some q → checking req ≡ false → bare ≡ without_asks q → IsMadeFor (unasked checking now) req bare made → IsMadeFor now req q made
  by_for moving others req q bare made at off is (inl by) =
      inl (poked checking now req q bare made at (is ∙ sym (checked_off checking q (ap checking (moving.aimed.numbered req q at) ∙ off))) by)
  by_for moving others req q bare made at off is (inr by) =
      inr (fragment_made checking now moving q bare made is (others req q at off) by)

  -- it is applied, where it isn't in its check
  pub take_due : IsMoving checking now → AllOthersPass checking now → (req : ReqId) (change : Change) → checking req ≡ false → IsTakeDue e out req change → IsTakeDueIn now e out req change
  take_due moving others req change off due =
      let from = off_from moving.aimed.numbered req due.asked due.due.at off in
      record {
        asked = from.0;
        made = due.made;
        due = due_now checking now moving.aimed req from.0 due.asked change from.1 from.2 (subst (λ (x : Seen). IsDueNow x req due.asked change) same due.due);
        by = by_for moving others req from.0 due.asked due.made from.1 off from.2 (subst (λ (x : Seen). IsMadeFor x req due.asked due.made) same due.by);
        unstarted = ap (λ (x : Asked). x.is_started) (sym from.2) ∙ due.unstarted;
        changes = due.changes;
        at_once = sym (at_once_same checking now moving due.made) ∙ subst (λ (x : Seen). is_taken_up_at_once x due.made ≡ true) same due.at_once;
        free = due.free;
        taken = due.taken;
        held = due.held;
      }

  -- it is refused
  pub deny_due : AreNumbered now → AreChecking checking now → (req : ReqId) (reason : Denial) → IsDenyDue e out req reason → IsDenyDueIn now e out req reason
  deny_due numbered checks req reason due =
      let from = found_from checking now req due.asked (subst (λ (x : Seen). request_of x req ≡ Some due.asked) same due.poked.at) in
      let poke = poked checking now req from.0 due.asked due.made from.1 from.2 (subst (λ (x : Seen). IsPoked x req due.asked due.made) same due.poked) in
      let off = poked_off checking now checks req from.0 due.made poke in
      let is : due.asked ≡ without_asks from.0 = from.2 ∙ checked_off checking from.0 (ap checking (numbered req from.0 from.1) ∙ off) in
      record {
        by_coord = due.by_coord;
        asked = from.0;
        made = due.made;
        poked = poke;
        unstarted = ap (λ (x : Asked). x.is_started) (sym is) ∙ due.unstarted;
        takes = due.takes;
        before = ap (λ (x : Asked). nat_lt (length e.start.requests) x.nr.0) (sym is) ∙ due.before;
        is = sym (denial_same checking now due.made) ∙ subst (λ (x : Seen). denial_at_delivery x due.made ≡ Some reason) same due.is;
        free = due.free;
        held = due.held;
      }

  -- it is dropped, since its navigable lost its entries
  pub destroy_due : (req by : ReqId) → IsDestroyDue e out req by → IsDestroyDueIn now e out req by
  destroy_due req by due =
      let from = found_from checking now req due.asked (subst (λ (x : Seen). request_of x req ≡ Some due.asked) same due.at) in
      record {
        asked = from.0;
        at = from.1;
        open_ = sym (part_of checking (λ (x : Asked). x.ending) (λ x. refl) (λ x. refl) from.0 due.asked from.2) ∙ due.open_;
        is = sym (destroyed_same checking now from.0 by) ∙ ap (λ (x : Asked). is_destroyed_by (unasked checking now) x by) (sym from.2) ∙ subst (λ (x : Seen). is_destroyed_by x due.asked by ≡ true) same due.is;
        free = due.free;
        held = due.held;
      }

  -- or was moved on
  pub drop_due : AreNumbered now → AllOthersPass checking now → (req by : ReqId) → IsDropDue e out req by → IsDropDueIn now e out req by
  drop_due numbered others req by due =
      let from = found_from checking now req due.asked (subst (λ (x : Seen). request_of x req ≡ Some due.asked) same due.at) in
      let mover = found_from checking now by due.mover (subst (λ (x : Seen). request_of x by ≡ Some due.mover) same due.found) in
      let passed : checking mover.0.nr ≡ false → has_passed now mover.0 ≡ true = λ off. others by mover.0 mover.1 (ap checking (sym (numbered by mover.0 mover.1)) ∙ off) in
      record {
        asked = from.0;
        at = from.1;
        open_ = sym (part_of checking (λ (x : Asked). x.ending) (λ x. refl) (λ x. refl) from.0 due.asked from.2) ∙ due.open_;
        mover = mover.0;
        found = mover.1;
        moved = moved_away checking now from.0 mover.0 passed ((λ i. by_mover (unasked checking now) (sym from.2 i) (sym mover.2 i)) ∙ subst (λ (x : Seen). by_mover x due.asked due.mover ≡ true) same due.moved);
        free = due.free;
        held = due.held;
      }

  -- ---- traversals

  -- one that leads nowhere is refused, as no step is in its check
  pub nowhere : AreNumbered now → NoStepChecks checking now → (req : ReqId) → IsNowhere e out req → IsNowhereIn now e out req
  nowhere numbered none req due =
      let from = found_from checking now req due.asked (subst (λ (x : Seen). request_of x req ≡ Some due.asked) same due.at) in
      let what_is : due.asked.what ≡ from.0.what = part_of checking (λ (x : Asked). x.what) (λ x. refl) (λ x. refl) from.0 due.asked from.2 in
      let nr_is : due.asked.nr ≡ from.0.nr = part_of checking (λ (x : Asked). x.nr) (λ x. refl) (λ x. refl) from.0 due.asked from.2 in
      record {
        asked = from.0;
        delta = due.delta;
        at = from.1;
        asks = ap delta_of (sym what_is) ∙ due.asks;
        open_ = sym (part_of checking (λ (x : Asked). x.ending) (λ x. refl) (λ x. refl) from.0 due.asked from.2) ∙ due.open_;
        early = by_side from.0.what from.0.nr what_is nr_is due.early;
        nowhere = subst (λ (x : Seen). step_at_delta x due.delta ≡ None) same due.nowhere;
        turn = sym (turn_same checking now numbered none req) ∙ subst (λ (x : Seen). begins_in_turn x req ≡ true) same due.turn;
        unparked = subst (λ (x : Seen). has_req x.parked req ≡ false) same due.unparked;
        held = due.held;
      }
    where
      by_side : (what : Request) (nr : ReqId) → due.asked.what ≡ what → due.asked.nr ≡ nr → denial_at_acceptance e.start due.asked.what ≡ None ⊎ (nat_lt (length e.start.requests) due.asked.nr.0 ≡ false) → denial_at_acceptance e.start what ≡ None ⊎ (nat_lt (length e.start.requests) nr.0 ≡ false)
      by_side what nr w n (inl none_) = inl (ap (λ x. denial_at_acceptance e.start x) (sym w) ∙ none_)
      by_side what nr w n (inr old) = inr (ap (λ (x : ReqId). nat_lt (length e.start.requests) x.0) (sym n) ∙ old)

  -- the one that runs ends, which isn't in its check
  pub end_due : IsAimed checking now → (req : ReqId) (goal : Step) → IsEndDue e out req goal → IsEndDueIn now e out req goal
  end_due aimed req goal due =
      let began : due.asked.is_started ≡ true = begun_for (now_of e out) due.asked (changes.Traverse goal) due.traverses due.due.due in
      let run : is_under_way due.asked ≡ true = rw (began, due.due.open_) refl in
      let from = runs_in checking now aimed req due.asked (subst (λ (x : Seen). request_of x req ≡ Some due.asked) same due.due.at) run in
      let is : due.asked ≡ without_asks from.asked = from.is in
      record {
        asked = from.asked;
        due = due_now checking now aimed req from.asked due.asked (changes.Traverse goal) from.at is (subst (λ (x : Seen). IsDueNow x req due.asked (changes.Traverse goal)) same due.due);
        traverses = ap (λ (x : Asked). is_traversal x.what) (sym is) ∙ due.traverses;
        makes = λ made at. due.makes made (ap (λ (x : Asked). x.made) is ∙ at);
        passed = from.passed;
        stand = sym (aim_stand_same checking now aimed) ∙ subst (λ (x : Seen). all_stand x (aim_of x) ≡ true) same due.stand;
        unparked = subst (λ (x : Seen). has_req x.parked req ≡ false) same due.unparked;
        first = subst (λ (x : Seen). (x.parked ≡ held_at_first e) ⊎ ((x.parked ≡ []) × (has_req (held_at_first e) req ≡ false))) same due.first;
      }

  -- so it isn't in its check
  pub end_off : IsAimed checking now → (req : ReqId) (goal : Step) → IsEndDue e out req goal → checking req ≡ false
  end_off aimed req goal due =
      let began : due.asked.is_started ≡ true = begun_for (now_of e out) due.asked (changes.Traverse goal) due.traverses due.due.due in
      let run : is_under_way due.asked ≡ true = rw (began, due.due.open_) refl in
      (runs_in checking now aimed req due.asked (subst (λ (x : Seen). request_of x req ≡ Some due.asked) same due.due.at) run).off

  -- nor is one that is still to begin, as no step is
  pub turn_off : AreBegun checking now → NoStepChecks checking now → (req : ReqId) (bare : Asked) → request_of (now_of e out) req ≡ Some bare → bare.ending ≡ None → is_traversal bare.what ≡ true → checking req ≡ false
  turn_off begun none req bare found open_ traverses = by_check (checking req) refl
    where
      by_check : (b : Bool) → checking req ≡ b → b ≡ false
      by_check false off = refl
      by_check true on =
          let from = found_from checking now req bare (subst (λ (x : Seen). request_of x req ≡ Some bare) same found) in
          let what_is : bare.what ≡ from.0.what = part_of checking (λ (x : Asked). x.what) (λ x. refl) (λ x. refl) from.0 bare from.2 in
          let ending_is : from.0.ending ≡ None = sym (part_of checking (λ (x : Asked). x.ending) (λ x. refl) (λ x. refl) from.0 bare from.2) ∙ open_ in
          let goes : is_traversal from.0.what ≡ true = ap is_traversal (sym what_is) ∙ traverses in
          let step_ : is_step_under_way from.0 ≡ true = rw (begun req from.0 from.1 on, ending_is, goes) refl in
          let never : false ≡ true = sym (none req from.0 from.1 on) ∙ step_ in
          absurd cc
