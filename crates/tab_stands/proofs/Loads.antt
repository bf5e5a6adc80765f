-- A load is accepted: it is at hand, and all goes on; and where a reason stands against it, too, the tables stand for what the log has come to.
use Rattle.load_doors.proofs.Starts.{requests_start}
use Rattle.load_doors.specs.Tied.{AreTied}
use Rattle.log_model.specs.Causes.{denial_at_acceptance}
use Rattle.log_model.specs.Places.{aim_of}
use Rattle.log_model.specs.Seen.{Asked, Seen, request_in, request_of}
use Rattle.log_model.specs.declared.request.Mode.{Mode}
use Rattle.log_model.specs.declared.request.Request.{Request}
use Rattle.log_model.specs.declared.row_kind.Actor.{Actor}
use Rattle.log_model.specs.declared.row_kind.RowKind.{RowKind}
use Rattle.move_queue.specs.Queue.{Queue}
use Rattle.seen_facts.specs.Request.Knowns.{AreKnown}
use Rattle.seen_laws.specs.InEvent.{InEvent, now_of}
use Rattle.seen_laws.specs.Sending.{leads}
use Rattle.std.proofs.Common.{List, None, Some, [], ap, arith, false, inl, inr, length, refl, subst, sym, ℕ, ◌+◌, ◌∙◌, ◌∷◌, ◌≡◌, ◌≤◌, ◌⊎◌}
use Rattle.std.proofs.lemmas.Bool.Decides.{nat_tests}
use Rattle.std.specs.Prelude.{nat_lt}
use Rattle.tab_settles.specs.PassedOn.{HasQueue, InPass, IsTab}
use Rattle.tab_doors.specs.Working.{IsWorker}
use Rattle.tab_doors.specs.declared.tables.Tables.{Tables}
use Rattle.tab_ids.specs.declared.NavId.{NavId}
use Rattle.tab_ids.specs.declared.ReqId.{ReqId}
use Rattle.tab_ids.specs.declared.StateId.{StateId}
use Rattle.tab_settles.specs.Settling.{IsWaiting}
use Rattle.tab_stands.proofs.Accepting.{comes_now, goes_on, new, now, number_low, old_or_new, rests_now, tied_now}
use Rattle.tab_stands.proofs.Begun.{begun}
use Rattle.tab_stands.proofs.Coming.{aim_same}
use Rattle.tab_stands.proofs.Waiting.{queued_still, queueing_now}
use Rattle.tab_stands.specs.Standing.{HasBegun, HasLogged, HasRoomFor, InCheck, IsOwnRead, StandsFor, seen_start}
use Rattle.tab_settles.proofs.PassedOn.{load_accepted, load_accepted_tab, waiting_first}
use Rattle.log_model.specs.declared.request.Request.TheVariants as requests
use Rattle.log_model.specs.declared.row_kind.Actor.TheVariants as actors
use Rattle.log_model.specs.declared.row_kind.RowKind.TheVariants as rows

module _ (e : InEvent) (t : Tables) (queue : Queue) (blame : List (StateId × ReqId)) {check : InCheck} (stands : StandsFor check (seen_start e) t queue blame) (aside : IsOwnRead e) (room : HasRoomFor (seen_start e)) (header : t.kept.keep ≡ e.header.keep) (req : ReqId) (nav : NavId) (mode : Mode) (address : List ℕ) (by_user : e.actor ≡ actors.Ui) (own : e.own ≡ rows.Accepted req None (requests.Load nav mode address)) (nr : req.0 ≡ length (seen_start e).requests + 1) where
  abbrev load : Request
  load = requests.Load nav mode address

  abbrev n : Seen
  n = load_accepted t.running (seen_start e) e.event actors.Ui stands.between.tab stands.between.flows req nr nav mode address

  tab : IsTab t.running (req ∷ check.loads) [] n
  tab =
      load_accepted_tab t.running (seen_start e) e.event actors.Ui stands.between.tab stands.between.flows req nr nav mode address

  pub load_tied : AreTied (now_of e []) t
  load_tied = tied_now e req None load by_user own nr aside t queue blame stands (req ∷ check.loads) tab

  -- ---- where no reason stands against it

  module _ (admitted : denial_at_acceptance e.start (requests.Load nav mode address) ≡ None) (logged : HasLogged e t.checks t.asking) where
    -- what joined isn't refused as it is accepted
    early : (r : ReqId) (q : Asked) → request_in n.requests r ≡ Some q → denial_at_acceptance e.start q.what ≡ None ⊎ (nat_lt (length e.start.requests) r.0 ≡ false)
    early r q at = by_old (old_or_new e req None load by_user own nr aside r q at)
      where
        by_old : (request_in (seen_start e).requests r ≡ Some q) ⊎ ((r ≡ req) × (q ≡ new e req None load by_user own nr aside)) → denial_at_acceptance e.start q.what ≡ None ⊎ (nat_lt (length e.start.requests) r.0 ≡ false)
        by_old (inl old) =
            let low : r.0 ≤ length (seen_start e).requests = number_low (seen_start e).requests r q old in
            let many : length (seen_start e).requests ≡ length e.start.requests = requests_start e in
            inr (grind (arith, nat_tests, low, many))
        by_old (inr it) = inl (ap (λ (x : Asked). denial_at_acceptance e.start x.what) it.1 ∙ admitted)

    waits : IsWaiting e []
    waits =
        waiting_first e logged.logged.uncut (subst (λ (x : Seen). AreKnown x) (sym (now e req None load by_user own nr aside)) tab.known) (λ r q has at. early r q (ap (λ (x : Seen). request_of x r) (sym (now e req None load by_user own nr aside)) ∙ at))

    queued : HasQueue (now_of e []) t.running queue.waiting
    queued =
        subst (λ (x : Seen). HasQueue x t.running queue.waiting) (sym (now e req None load by_user own nr aside)) (queued_still e req None load by_user own nr aside t queue blame stands refl)

    abbrev p : InPass
    p = record { event = e; loads = req ∷ check.loads; hand = [] }

    aim : aim_of (now_of e []) ≡ aim_of (seen_start e)
    aim =
        aim_same (seen_start e) t.running t.kept.keep t.goal blame (now_of e []) stands.between stands.lasts stands.tied.goal (req ∷ check.loads) [] (subst (λ (x : Seen). IsTab t.running (req ∷ check.loads) [] x) (sym (now e req None load by_user own nr aside)) tab) load_tied.goal (comes_now e req None load by_user own nr aside t queue blame stands)

    pub load_begun : HasBegun (record { event = e; loads = req ∷ check.loads; hand = [] }) t queue blame
    load_begun =
        begun p t queue blame stands.between stands.lasts stands.tied.goal header logged (ap (λ (k : RowKind). leads k) own) (subst (λ (a : Actor). IsWorker a) (sym by_user) tt) load_tied
        (goes_on e req None load by_user own nr aside t queue blame stands room (λ x never. absurd cc) (req ∷ check.loads) tab)
        (rests_now e req None load by_user own nr aside t queue blame stands)
        (comes_now e req None load by_user own nr aside t queue blame stands)
        (queueing_now e req None load by_user own nr aside t queue blame stands logged.logged.uncut (req ∷ check.loads) queue aim waits queued refl)
