-- An event of the coordinator ends with a traversal that begins and asks: the coordinator stands for what the log would have come to had nobody been asked, with the traversal in its check, which holds the queue.
use Rattle.tab_doors.specs.AskingLoads.{TiesAsking}
use Rattle.tab_doors.proofs.Wanted.{come_end, wanted_end}
use Rattle.asking_facts.proofs.ApartDue.{due_apart}
use Rattle.asking_facts.proofs.Closing.{pass_asked}
use Rattle.asking_facts.proofs.Known.{known_begun}
use Rattle.asking_facts.specs.Asking.{AreSome, begun_asking}
use Rattle.asking_facts.specs.Known.{AskingKnown}
use Rattle.asking_facts.specs.Noting.{IsAllTied, NoneNoted}
use Rattle.check_facts.specs.Having.{HasChecks}
use Rattle.checking_facts.specs.Checks.{AreInCheck}
use Rattle.checking_facts.specs.Prompts.{told_by}
use Rattle.load_doors.specs.Tied.{AreTied}
use Rattle.log_model.specs.Orders.{Question, due_questions}
use Rattle.log_model.specs.Seen.{Asked, Seen}
use Rattle.log_model.specs.Soundness.{IsSound}
use Rattle.log_model.specs.declared.job.Job.{Job}
use Rattle.log_model.specs.declared.job.Why.{Why}
use Rattle.log_model.specs.declared.row_kind.LogRow.{LogRow}
use Rattle.log_model.specs.declared.row_kind.RowKind.{RowKind}
use Rattle.move_queue.specs.Queue.{Queue}
use Rattle.row_facts.proofs.Owed.Ends.{owed_paid}
use Rattle.seen_facts.specs.Hang.Hanging.{Hangs}
use Rattle.seen_facts.specs.Hang.Members.{Has}
use Rattle.seen_facts.specs.Home.Homes.{AreHomed}
use Rattle.seen_laws.proofs.Cuts.{later_cut, log_cut, rows_cut}
use Rattle.seen_laws.proofs.InEvents.{now_is}
use Rattle.seen_laws.specs.Blocks.{EachPass}
use Rattle.seen_laws.specs.InEvent.{EndAsWanted, InEvent, IsPaid, IsTakenIn, later_of, log_of, now_of, rows_of, start_of}
use Rattle.seen_laws.specs.Unasked.{unasked}
use Rattle.std.proofs.Common.{Bool, List, None, Option, Some, [], ap, append-nil, inl, inr, subst, sym, true, ◌++◌, ◌∙◌, ◌∷◌, ◌≡◌}
use Rattle.std.specs.Prelude.{is_some, slice_get}
use Rattle.tab_asked.proofs.Checks.{has_then, none_noted, open_then}
use Rattle.tab_asked.proofs.Left.{asked_duly}
use Rattle.tab_asked.proofs.Silent.{silent_stands}
use Rattle.tab_asked.proofs.Taken.{taken_more}
use Rattle.tab_asked.proofs.Turn.{may_ask, not_yet}
use Rattle.tab_asked.proofs.Unbegun.{unbegun}
use Rattle.tab_asked.proofs.Whom.{first_joined}
use Rattle.tab_asked.proofs.Works.{entered_on, entered_same, goes_on}
use Rattle.tab_asked.specs.Asked.{GoesOnAsking, MayAsk, entered_by, log_asked, then_asked}
use Rattle.tab_asks.specs.Asks.{HasBegunAsking, HasBegunCheck}
use Rattle.tab_cuts.proofs.Owed.{now_cut}
use Rattle.tab_cuts.specs.Cut.{TiesCut}
use Rattle.tab_doors.specs.Working.{IsToCome}
use Rattle.tab_doors.specs.declared.tables.Tables.{Tables}
use Rattle.tab_facts.specs.Calm.Calm.{IsCalm}
use Rattle.tab_facts.specs.Order.Orders.{IsOfCoord}
use Rattle.tab_facts.specs.TabWhole.Tab.{IsTab}
use Rattle.tab_ids.specs.declared.ReqId.{ReqId}
use Rattle.tab_ids.specs.declared.StateId.{StateId}
use Rattle.tab_ids.specs.declared.Step.{Step}
use Rattle.tab_settles.specs.PassedOn.{InPass}
use Rattle.tab_settles.specs.Settling.{AsksFirst, HasSettled, IsCalmAfter, MakesServe, OrdersAreSound}
use Rattle.tab_stands.proofs.Ended.{acted, paid_log}
use Rattle.tab_stands.proofs.EpochRows.{event_under}
use Rattle.tab_stands.specs.Checked.{ChecksStand, told_all}
use Rattle.tab_stands.specs.Offs.{AreShownUnder}
use Rattle.tab_stands.specs.Standing.{HasActed, InCheck, LastsInLog, StandsFor}
use Rattle.tab_turns.specs.Beginning.{IsFirst}
use Rattle.unasked.proofs.Whole.{silent}
use Rattle.unasked_dues.specs.Checking.{NoStepChecks, NonePasses}
use Rattle.unload_check.specs.Checks.{OpenCheck, after_all_deaths}

-- somebody is asked where there is a first question
some_first : (questions : List Question) → is_some (slice_get questions 0) ≡ true → AreSome questions
some_first [] is = absurd cc
some_first (question ∷ questions) is = tt

-- ---- its rows are a coordinator's

questions_coord : (jobs : List Job) (req : ReqId) (goal : Option Step) (row : RowKind) → Has (begun_asking req goal jobs) row → IsOfCoord row
questions_coord jobs req goal row (inl is) = subst IsOfCoord is tt
questions_coord [] req goal row (inr never) = absurd never
questions_coord (job ∷ jobs) req goal row (inr (inl is)) = subst IsOfCoord is tt
questions_coord (job ∷ jobs) req goal row (inr (inr more)) = questions_coord jobs req goal row (inr more)

both_coord : (out more : List RowKind) → ((row : RowKind) → Has out row → IsOfCoord row) → ((row : RowKind) → Has more row → IsOfCoord row) → (row : RowKind) → Has (out ++ more) row → IsOfCoord row
both_coord [] more first second row has = second row has
both_coord (kind ∷ out) more first second row (inl is) = first row (inl is)
both_coord (kind ∷ out) more first second row (inr has) =
    both_coord out more (λ r h. first r (inr h)) second row has

-- ---- the tables that tie to a log where no move has begun

cut_tied : (s : Seen) (u : Tables) → TiesCut None s u → AreTied s u
cut_tied s u ties =
    record {
      holds = ties.holds;
      runs = ties.runs;
      goal = ties.goal;
      few = ties.few;
      initial = ties.initial;
      loads = ties.loads;
      kept = ties.kept;
    }

module _ (p : InPass) (out : List RowKind) (t : Tables) (queue : Queue) (blame : List (StateId × ReqId)) (cause : Why) (at : HasSettled p out t queue blame cause) (makes : MakesServe (now_of p.event out)) (sound : OrdersAreSound (now_of p.event out)) (of_coord : (row : RowKind) → Has out row → IsOfCoord row) (shows : AreShownUnder (log_of p.event [])) (known : AskingKnown (log_of p.event [])) (settled : IsAllTied (log_of p.event out) (told_all p.event.ran t.checks out)) (taken : IsTakenIn p.event (later_of p.event out)) (free : NoStepChecks p.event.checking (log_of p.event [])) (over : AsksFirst p.event out t.running queue.waiting) (wanted : EndAsWanted p.event out) where
  abbrev e : InEvent
  e = p.event

  abbrev s : Seen
  s = now_of e out

  abbrev log : Seen
  log = log_of e out

  abbrev req : ReqId
  req = over.req

  abbrev goal : Step
  goal = over.first.goal

  abbrev q : Asked
  q = over.first.q

  abbrev questions : List Question
  questions = due_questions log q.what (Some goal)

  -- what is in its check then: the loads that are at hand still, and the traversal
  abbrev check : InCheck
  check = record { loads = p.loads; holds = true }

  -- as the tab has come to rest, without it
  before : HasActed check e out (record t { checks = told_all e.ran t.checks out }) queue blame
  before =
      acted p out t queue blame cause true (λ held. over.idle) at makes sound of_coord (λ pass. shows) (λ pass. known) settled wanted (λ never. absurd cc) taken

  tab : IsTab t.running p.loads p.hand s
  tab = at.passing.going.tab

  -- what holds of the log without questions, as it is had of the log
  at_bare : (P : Seen → Type 0) → P s → P (unasked e.checking log)
  at_bare P is = subst P (now_is e out) is

  sound_log : IsSound log.history
  sound_log = at_bare (λ (x : Seen). IsSound x.history) tab.sound

  hangs_bare : Hangs (unasked e.checking log)
  hangs_bare = at_bare Hangs tab.hangs

  homes_bare : AreHomed (unasked e.checking log)
  homes_bare = at_bare AreHomed tab.homes

  -- ---- the traversal

  first : IsFirst s req over.first.delta
  first = first_joined p out t queue blame cause at over

  may : MayAsk e out req goal q
  may =
      may_ask p out t at.passing over.idle free before.lasts.known.early req over.first.delta first over.stand goal over.first.there q over.first.at
      (unbegun e req q (not_yet p out t at.passing over.idle free before.lasts.known.early req over.first.delta first over.stand goal over.first.there q over.first.at) out before.passes over.first.at)

  some : AreSome questions
  some = some_first questions over.first.asks

  -- ---- it has begun, and asked; with these rows, too, all behind a cut is as those before it want it

  module _ (new : List RowKind) (u : Tables) (asking : HasBegunAsking log req (Some goal) questions out new) (begun : HasBegunCheck e.ran out req questions t u) (wanted_then : EndAsWanted p.event new) where
    abbrev jobs : List Job
    jobs = asking.jobs

    abbrev rows_then : List RowKind
    rows_then = out ++ begun_asking req (Some goal) jobs

    abbrev behind : Seen
    behind = log_asked e out req goal jobs

    abbrev entered : ReqId → Bool
    entered = entered_by e.checking req

    abbrev then_ : InEvent
    then_ = then_asked e out req goal jobs

    goes : GoesOnAsking e out req goal jobs u
    goes =
        goes_on e out t at.passing.work req goal q may some jobs asking.are before.lasts.known.askable u begun settled before.lasts.known.wanted

    -- what holds where the event is cut holds of the log
    at_log : (P : Seen → Type 0) → P (log_of then_ []) → P behind
    at_log P is = subst P (log_cut e rows_then entered then_.due) is

    -- ---- the table of checks

    has : HasChecks behind u.checks
    has =
        subst (λ (c : List (ReqId × OpenCheck)). HasChecks behind c) (sym begun.checks)
        (has_then e out (told_by e.ran t.checks out) at.passing.work.asked settled req (Some goal) questions jobs q may.asks asking.are some may.off may.enters.checked entered (entered_same e.checking req) (entered_on e.checking req))

    checks_stand : ChecksStand entered behind u.checks
    checks_stand =
        record {
          has = has;
          open_ = open_then e out (told_by e.ran t.checks out) at.passing.work.asked settled req (Some goal) questions jobs q may.asks asking.are some may.off may.enters.checked entered (entered_same e.checking req) (entered_on e.checking req);
          within = goes.work.asked.within;
          calm = at_log (λ (x : Seen). NonePasses entered x) goes.work.calm;
        }

    -- ---- each row passes

    passes : EachPass (start_of e) (rows_of e rows_then) []
    passes =
        subst (λ (l : List LogRow). EachPass (start_of e) l []) (rows_cut e rows_then entered then_.due [] ∙ ap (λ (l : List RowKind). rows_of e l) (append-nil rows_then))
        (pass_asked (IsToCome None then_ []) then_ [] (record { checks = u.checks; run = [] }) goes.work.asked goes.work.lawful (come_end then_ [] ended) paid taken_then (λ has_. parked) noted)
      where
        ended : EndAsWanted then_ []
        ended =
            wanted_end e rows_then (subst (λ (l : List RowKind). EndAsWanted e l) asking.rows wanted_then)

        paid : IsPaid then_ []
        paid = paid_log then_ [] goes.work (owed_paid then_ [] (goes.owed at.passing.owed))

        taken_then : IsTakenIn then_ (later_of then_ [])
        taken_then =
            subst (λ (l : List LogRow). IsTakenIn e l) (sym (later_cut e rows_then entered then_.due [] ∙ ap (λ (l : List RowKind). later_of e l) (append-nil rows_then))) (taken_more e out (begun_asking req (Some goal) jobs) taken)

        parked : (now_of then_ []).parked ≡ []
        parked =
            ap (λ (x : Seen). x.parked) (now_cut e rows_then entered then_.due ∙ goes.same) ∙ at.queueing.held over.idle

        noted : NoneNoted (log_of then_ []) (after_all_deaths [] u.checks)
        noted =
            subst (λ (x : Seen). NoneNoted x (after_all_deaths [] u.checks)) (sym (log_cut e rows_then entered then_.due))
            (subst (λ (c : List (ReqId × OpenCheck)). NoneNoted behind (after_all_deaths [] c)) (sym begun.checks)
            (none_noted e out (told_by e.ran t.checks out) at.passing.work.asked settled req (Some goal) questions jobs q may.asks asking.are some may.off may.enters.checked entered (entered_same e.checking req) (entered_on e.checking req)))

    -- ---- what lasts of the log itself

    calm : IsCalm s
    calm = subst (λ (r : Option ReqId). IsCalmAfter r s) over.idle at.calm

    lasts : LastsInLog entered u.asking behind
    lasts =
        record {
          checks = at_log (λ (x : Seen). AreInCheck entered x) goes.work.checks;
          asking = at_log (λ (x : Seen). TiesAsking entered x u.asking) goes.work.asking;
          shows = event_under e rows_then [] passes.1 (both_coord out (begun_asking req (Some goal) jobs) of_coord (questions_coord jobs req (Some goal))) shows;
          duly = asked_duly e out e.checking before.lasts.duly sound_log hangs_bare homes_bare (at_bare IsCalm calm) req goal q over.first.at may.goes jobs asking.are;
          known = known_begun e out req (Some goal) questions jobs q may.asks asking.are (due_apart log e.checking sound_log hangs_bare homes_bare.homed q.what (Some goal)) before.lasts.known;
        }

    -- ---- the coordinator

    abbrev e_then : InEvent
    e_then = record e { checking = entered }

    stands : StandsFor check (now_of e_then rows_then) u queue blame
    stands =
        subst (λ (x : Seen). StandsFor check x u queue blame) (sym (now_is e_then rows_then ∙ goes.same))
        (silent_stands s e.event behind.jobs goes.more (record t { checks = told_all e.ran t.checks out }) queue blame before.stands u begun.only tied)
      where
        tied : AreTied (silent s e.event behind.jobs s.states) u
        tied = subst (λ (x : Seen). AreTied x u) goes.same (cut_tied (unasked entered behind) u goes.ties)

    pub asked_acts : HasActed check e_then new u queue blame
    asked_acts =
        subst (λ (l : List RowKind). HasActed check e_then l u queue blame) (sym asking.rows)
        (record { stands = stands; lasts = lasts; asks = checks_stand; passes = passes })
