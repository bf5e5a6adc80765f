-- A traversal is accepted: it waits behind the others, and all goes on.
use Rattle.load_doors.proofs.Starts.{requests_start}
use Rattle.seen_facts.proofs.Hang.Members.{has_more, into_more}
use Rattle.seen_facts.specs.Hang.Members.{Has}
use Rattle.log_model.specs.Causes.{denial_at_acceptance}
use Rattle.log_model.specs.Once.{delta_of}
use Rattle.log_model.specs.Places.{aim_of}
use Rattle.log_model.specs.Seen.{Asked, Seen, request_in, request_of}
use Rattle.log_model.specs.declared.request.Request.{Request}
use Rattle.log_model.specs.declared.row_kind.Actor.{Actor}
use Rattle.log_model.specs.declared.row_kind.RowKind.{RowKind}
use Rattle.move_queue.specs.Queue.{Queue}
use Rattle.move_queue.specs.declared.queue_step.QueueStep.{QueueStep}
use Rattle.move_queue.specs.declared.queue_step.QueueStep.TheVariants.{Traverse}
use Rattle.seen_facts.specs.Request.Knowns.{AreKnown}
use Rattle.seen_laws.specs.InEvent.{InEvent, now_of}
use Rattle.seen_laws.specs.Sending.{leads}
use Rattle.std.proofs.Common.{List, None, Option, Some, [], ap, arith, false, filter, inl, inr, length, refl, subst, sym, ℤ, ◌++◌, ◌+◌, ◌∙◌, ◌∷◌, ◌≡◌, ◌≤◌, ◌⊎◌}
use Rattle.std.proofs.lemmas.Bool.Decides.{nat_tests}
use Rattle.std.proofs.lemmas.List.Elements.{filter-append}
use Rattle.std.specs.Prelude.{nat_lt, option_and_then}
use Rattle.tab_settles.specs.PassedOn.{AreStepsOf, AwaitTurns, HasQueue, HaveJoined, InPass, IsOfTab, IsTab, delta_in, is_traverse}
use Rattle.tab_doors.specs.Working.{IsWorker}
use Rattle.tab_doors.specs.declared.tables.Tables.{Tables}
use Rattle.tab_ids.specs.declared.ReqId.{ReqId}
use Rattle.tab_ids.specs.declared.StateId.{StateId}
use Rattle.tab_settles.specs.Settling.{IsWaiting}
use Rattle.tab_stands.proofs.Accepting.{comes_now, goes_on, new, now, number_low, old_or_new, rests_now, stays, there_now, tied_now}
use Rattle.tab_stands.proofs.Begun.{begun}
use Rattle.tab_stands.proofs.Coming.{aim_same}
use Rattle.tab_stands.proofs.Waiting.{await_still, queueing_now, steps_stay}
use Rattle.tab_stands.specs.Standing.{HasBegun, HasLogged, HasRoomFor, InCheck, IsOwnRead, StandsFor, seen_start}
use Rattle.tab_settles.proofs.PassedOn.{waiting_first, went, went_tab}
use Rattle.log_model.specs.declared.request.Request.TheVariants as requests
use Rattle.log_model.specs.declared.row_kind.Actor.TheVariants as actors
use Rattle.log_model.specs.declared.row_kind.RowKind.TheVariants as rows

-- one more step waits, of one more that joined
pub steps_more : (asked : List Asked) (joined : List ReqId) (steps : List QueueStep) (req : ReqId) (delta : ℤ) → delta_in asked req ≡ Some delta → AreStepsOf asked joined steps → AreStepsOf asked (joined ++ req ∷ []) (steps ++ Traverse req delta ∷ [])
steps_more asked [] [] req delta its are = ((refl, its), tt)
steps_more asked [] (step ∷ steps) req delta its are = absurd are
steps_more asked (r ∷ joined) [] req delta its are = absurd are
steps_more asked (r ∷ joined) (step ∷ steps) req delta its are = (are.0, steps_more asked joined steps req delta its are.1)

-- the traversals among one step more
pub traverses_more : (waiting : List QueueStep) (req : ReqId) (delta : ℤ) → filter is_traverse (waiting ++ Traverse req delta ∷ []) ≡ filter is_traverse waiting ++ Traverse req delta ∷ []
traverses_more waiting req delta = filter-append is_traverse waiting (Traverse req delta ∷ [])

-- where a traversal joins, a step waits for each ready load still, and none is a reload's
pub await_more : (s : Seen) (waiting : List QueueStep) (step : QueueStep) → AwaitTurns s waiting → AwaitTurns s (waiting ++ step ∷ [])
await_more s waiting step await req q nav at ready its = into_more waiting step _ (await req q nav at ready its)

pub tab_more : (waiting : List QueueStep) (last : QueueStep) → IsOfTab last → ((step : QueueStep) → Has waiting step → IsOfTab step) → (step : QueueStep) → Has (waiting ++ last ∷ []) step → IsOfTab step
tab_more waiting last own each step has = by_place (has_more waiting last step has)
  where
    by_place : Has waiting step ⊎ (last ≡ step) → IsOfTab step
    by_place (inl there) = each step there
    by_place (inr same) = subst (λ (x : QueueStep). IsOfTab x) same own

module _ (e : InEvent) (t : Tables) (queue : Queue) (blame : List (StateId × ReqId)) {check : InCheck} (stands : StandsFor check (seen_start e) t queue blame) (logged : HasLogged e t.checks t.asking) (room : HasRoomFor (seen_start e)) (header : t.kept.keep ≡ e.header.keep) (req : ReqId) (delta : ℤ) (by_user : e.actor ≡ actors.Ui) (own : e.own ≡ rows.Accepted req None (requests.Go delta)) (nr : req.0 ≡ length (seen_start e).requests + 1) where
  abbrev go : Request
  go = requests.Go delta

  abbrev n : Seen
  n = went t.running (seen_start e) e.event actors.Ui stands.between.tab stands.between.flows req nr delta

  tab : IsTab t.running check.loads [] n
  tab = went_tab t.running (seen_start e) e.event actors.Ui stands.between.tab stands.between.flows req nr delta

  aside : IsOwnRead e
  aside = logged.logged.read

  -- what joined isn't refused as it is accepted
  early : (r : ReqId) (q : Asked) → request_in n.requests r ≡ Some q → denial_at_acceptance e.start q.what ≡ None ⊎ (nat_lt (length e.start.requests) r.0 ≡ false)
  early r q at = by_old (old_or_new e req None go by_user own nr aside r q at)
    where
      by_old : (request_in (seen_start e).requests r ≡ Some q) ⊎ ((r ≡ req) × (q ≡ new e req None go by_user own nr aside)) → denial_at_acceptance e.start q.what ≡ None ⊎ (nat_lt (length e.start.requests) r.0 ≡ false)
      by_old (inl old) =
          let low : r.0 ≤ length (seen_start e).requests = number_low (seen_start e).requests r q old in
          let many : length (seen_start e).requests ≡ length e.start.requests = requests_start e in
          inr (grind (arith, nat_tests, low, many))
      by_old (inr it) = inl (ap (λ (x : Asked). denial_at_acceptance e.start x.what) it.1)

  waits : IsWaiting e []
  waits =
      waiting_first e logged.logged.uncut (subst (λ (x : Seen). AreKnown x) (sym (now e req None go by_user own nr aside)) tab.known) (λ r q has at. early r q (ap (λ (x : Seen). request_of x r) (sym (now e req None go by_user own nr aside)) ∙ at))

  -- ---- it joins

  delta_now : delta_in n.requests req ≡ Some delta
  delta_now =
      ap (λ (o : Option Asked). option_and_then (λ (q : Asked). delta_of q.what) o) (there_now e req None go by_user own nr aside)

  behind : (joined : List ReqId) (steps : List QueueStep) → AreStepsOf (seen_start e).requests joined steps → AreStepsOf n.requests (joined ++ req ∷ []) (steps ++ Traverse req delta ∷ [])
  behind joined steps are =
      steps_more n.requests joined steps req delta delta_now (steps_stay (seen_start e).requests n.requests (stays e req None go by_user own nr aside) joined steps are)

  joined : (run : Option ReqId) (steps : List QueueStep) → HaveJoined (seen_start e) run steps → HaveJoined n run (steps ++ Traverse req delta ∷ [])
  joined None steps have = behind (seen_start e).joined steps have
  joined (Some run) steps have =
      record { rest = have.rest ++ req ∷ []; joined = ap (λ (l : List ReqId). l ++ req ∷ []) have.joined; steps_ = behind have.rest steps have.steps_ }

  queued : (waiting : List QueueStep) → waiting ≡ queue.waiting ++ Traverse req delta ∷ [] → HasQueue (now_of e []) t.running waiting
  queued waiting is =
      subst (λ (x : Seen). HasQueue x t.running waiting) (sym (now e req None go by_user own nr aside))
      (subst (λ (l : List QueueStep). HasQueue n t.running l) (sym is) (record {
        traversals = subst (λ (l : List QueueStep). HaveJoined n t.running l) (sym (traverses_more queue.waiting req delta)) (joined t.running (filter is_traverse queue.waiting) stands.queue.traversals);
        ready = await_more n queue.waiting (Traverse req delta) (await_still e req None go by_user own nr aside t queue blame stands);
        steps = tab_more queue.waiting (Traverse req delta) tt stands.queue.steps;
      }))

  -- ---- all goes on

  abbrev p : InPass
  p = record { event = e; loads = check.loads; hand = [] }

  aim : aim_of (now_of e []) ≡ aim_of (seen_start e)
  aim =
      aim_same (seen_start e) t.running t.kept.keep t.goal blame (now_of e []) stands.between stands.lasts stands.tied.goal check.loads [] (subst (λ (x : Seen). IsTab t.running check.loads [] x) (sym (now e req None go by_user own nr aside)) tab) (tied_now e req None go by_user own nr aside t queue blame stands check.loads tab).goal (comes_now e req None go by_user own nr aside t queue blame stands)

  pub go_begun : (left : Queue) → left ≡ record queue { waiting = queue.waiting ++ Traverse req delta ∷ [] } → HasBegun (record { event = e; loads = check.loads; hand = [] }) t left blame
  go_begun left pushed =
      begun p t left blame stands.between stands.lasts stands.tied.goal header logged (ap (λ (k : RowKind). leads k) own) (subst (λ (a : Actor). IsWorker a) (sym by_user) tt) (tied_now e req None go by_user own nr aside t queue blame stands check.loads tab)
      (goes_on e req None go by_user own nr aside t queue blame stands room (λ x never. absurd cc) check.loads tab)
      (rests_now e req None go by_user own nr aside t queue blame stands)
      (comes_now e req None go by_user own nr aside t queue blame stands)
      (queueing_now e req None go by_user own nr aside t queue blame stands logged.logged.uncut check.loads left aim waits (queued left.waiting (ap (λ (q : Queue). q.waiting) pushed)) (ap (λ (q : Queue). q.parked) pushed))
