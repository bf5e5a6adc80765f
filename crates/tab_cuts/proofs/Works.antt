-- An event is cut, and its coordinator goes on working, where its tables stand for what the log has come to by the checks that it goes on with.
use Rattle.asking_facts.specs.Standing.{StandsAsked}
use Rattle.log_model.specs.Seen.{Seen}
use Rattle.seen_laws.proofs.Cuts.{log_cut}
use Rattle.seen_laws.proofs.InEvents.{none_goes}
use Rattle.seen_laws.specs.InEvent.{InEvent, cut, log_of, now_of, running, wanting}
use Rattle.seen_laws.specs.Sending.{leads}
use Rattle.checking_facts.specs.Prompts.{Told}
use Rattle.log_model.specs.declared.row_kind.LogRow.{LogRow}
use Rattle.std.proofs.Common.{Bool, List, Option, [], false, refl, subst, sym, true, ◌≡◌}
use Rattle.tab_cuts.specs.Cut.{TiesCut}
use Rattle.tab_doors.specs.AskingLoads.{TiesAsking}
use Rattle.tab_doors.specs.Keeping.{Move}
use Rattle.tab_doors.specs.Working.{IsAtWorkIn, IsCalmIn, IsToCome, IsWorker}
use Rattle.tab_doors.specs.declared.tables.Tables.{Tables}
use Rattle.tab_ids.specs.declared.DocId.{DocId}
use Rattle.tab_ids.specs.declared.ReqId.{ReqId}
use Rattle.log_model.specs.declared.row_kind.RowKind.{RowKind}
use Rattle.unasked_dues.proofs.Cut.{debts_wanting, sole_cut, sole_wanting}
use Rattle.unasked_dues.proofs.Read.{read_own}
use Rattle.unasked_dues.specs.Checking.{AreNumbered, NonePasses, unasked}
use Rattle.unasked_dues.specs.Reading.{AreDebts, BeginSole}

-- what the tables know of the event was shown before it is cut
pub ties_now : (move : Option Move) (e : InEvent) (out : List RowKind) (checking : ReqId → Bool) (due : Seen → Bool) (u : Tables) → TiesCut move (unasked checking (log_of e out)) u → TiesCut move (now_of (cut e out checking due) []) u
unfolding now_of
ties_now move e out checking due u ties =
    subst (λ (s : Seen). TiesCut move (unasked checking s) u) (sym (log_cut e out checking due)) ties

-- and whatever is wanted of what comes after, and whichever run of discarded documents lasts there
ties_wanting : (move : Option Move) (e : InEvent) (wants : List LogRow → Bool) (ran : List DocId) (u : Tables) → TiesCut move (now_of e []) u → TiesCut move (now_of (running (wanting e wants) ran) []) u
unfolding now_of
ties_wanting move e wants ran u ties = ties

-- the same tables tie, whatever they have of the checks
pub ties_beside : {sweeps : Bool} (move : Option Move) (e : InEvent) (out : List RowKind) (t : Tables) → IsAtWorkIn sweeps move e out t → TiesCut move (now_of e out) t
ties_beside move e out t work =
    record {
      holds = work.holds;
      runs = work.runs;
      goal = work.goal;
      few = work.few;
      initial = work.initial;
      loads = work.loads;
      kept = work.kept;
    }

-- where no traversal in its check has passed but nobody
pub calm_beside : (Rest : List LogRow → Type 0) (e : InEvent) (out : List RowKind) (told : Told) → StandsAsked Rest (λ (req : ReqId). false) e out told → NonePasses e.checking (log_of e out)
calm_beside Rest e out told stands req q at on traverses checks = stands.none req q at on traverses checks refl

-- the event is cut behind rows that needn't be seen by the checks so far
module _ (move : Option Move) (e : InEvent) (out : List RowKind) (checking : ReqId → Bool) (due : Seen → Bool) (u : Tables) (but : ReqId → Bool) where
  abbrev then_ : InEvent
  then_ = cut e out checking due

  -- and this is wanted of what comes after, and this run lasts
  module _ (wants : List LogRow → Bool) (ran : List DocId) where
    abbrev pub then_wanting : InEvent
    then_wanting = running (wanting then_ wants) ran

    pub work_wanting : leads e.own ≡ true → IsWorker e.actor → AreNumbered e.start → BeginSole e out (log_of e out) → AreDebts then_ → StandsAsked (IsToCome move then_wanting []) but then_wanting [] (record { checks = u.checks; run = ran }) → TiesCut move (unasked checking (log_of e out)) u → TiesAsking checking (log_of e out) u.asking → {sweeps : Bool} → IsCalmIn sweeps checking (log_of then_wanting []) → IsAtWorkIn sweeps move then_wanting [] u
    work_wanting own worker numbered sole debts stands ties asking calm =
        record {
          own = own;
          worker = worker;
          goes = none_goes then_wanting [];
          numbered = numbered;
          read = read_own then_wanting (record { numbered = stands.checks.numbered; others = stands.checks.others });
          sole = sole_wanting then_ wants ran [] (log_of then_ []) (subst (λ (end : Seen). BeginSole then_ [] end) (sym (log_cut e out checking due)) (sole_cut e out checking due (log_of e out) sole));
          debts = debts_wanting then_ wants ran debts;
          checks = stands.checks;
          calm = calm;
          unheld = λ free. free;
          off = λ row has. absurd has;
          holds = tied.holds;
          runs = tied.runs;
          goal = tied.goal;
          few = tied.few;
          initial = tied.initial;
          loads = tied.loads;
          asking = subst (λ (s : Seen). TiesAsking checking s u.asking) (sym (log_cut e out checking due)) asking;
          kept = tied.kept;
          asked = stands.asked;
          lawful = stands.pass;
        }
      where
        tied : TiesCut move (now_of then_wanting []) u
        tied = ties_wanting move then_ wants ran u (ties_now move e out checking due u ties)

  -- where no more is than was
  pub work_behind : leads e.own ≡ true → IsWorker e.actor → AreNumbered e.start → BeginSole e out (log_of e out) → AreDebts then_ → StandsAsked (IsToCome move then_ []) but then_ [] (record { checks = u.checks; run = [] }) → TiesCut move (unasked checking (log_of e out)) u → TiesAsking checking (log_of e out) u.asking → {sweeps : Bool} → IsCalmIn sweeps checking (log_of then_ []) → IsAtWorkIn sweeps move then_ [] u
  work_behind own worker numbered sole debts stands ties asking calm =
      work_wanting then_.wants [] own worker numbered sole debts stands ties asking calm

  -- or behind those that its coordinator has put out so far
  pub work_cut : {sweeps : Bool} {was : Option Move} (t : Tables) → IsAtWorkIn sweeps was e out t → AreDebts then_ → StandsAsked (IsToCome move then_ []) but then_ [] (record { checks = u.checks; run = [] }) → TiesCut move (unasked checking (log_of e out)) u → TiesAsking checking (log_of e out) u.asking → {then_sweeps : Bool} → IsCalmIn then_sweeps checking (log_of then_ []) → IsAtWorkIn then_sweeps move then_ [] u
  work_cut t work = work_behind work.own work.worker work.numbered work.sole
