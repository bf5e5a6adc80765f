-- An event of the coordinator ends as the tab has come to rest: the coordinator stands for what the log has come to, and each row passes.
use Rattle.tab_doors.proofs.Wanted.{come_end}
use Rattle.asking_facts.proofs.Closing.{pass_tied}
use Rattle.asking_facts.specs.Known.{AskingKnown}
use Rattle.asking_facts.specs.Noting.{IsAllTied}
use Rattle.tab_doors.proofs.Works.{aimed_log}
use Rattle.tab_doors.proofs.PassedOn.{paid_read}
use Rattle.seen_laws.proofs.InEvents.{now_is}
use Rattle.log_model.specs.declared.row_kind.RowKind.TheVariants as rows
use Rattle.log_model.specs.declared.row_kind.Actor.{Actor}
use Rattle.row_facts.specs.Owed.Owed.{owes_seen}
use Rattle.seen_laws.specs.Sending.{leads}
use Rattle.seen_laws.specs.Owing.{owes, owes_row}
use Rattle.tab_facts.proofs.FrameWhole.FlowsAlike.{EachIsTold, flows_told}
use Rattle.seen_facts.proofs.Hang.Members.{find_has}
use Rattle.seen_facts.specs.Hang.Members.{Has}
use Rattle.load_doors.specs.Tied.{AreTied}
use Rattle.log_model.specs.ActsAtOnce.{ends_told, is_told}
use Rattle.log_model.specs.Equal.{holds, same_pair}
use Rattle.log_model.specs.Places.{due_pair}
use Rattle.log_model.specs.Seen.{Document, Place, Seen, document_of}
use Rattle.log_model.specs.declared.job.Why.{Why}
use Rattle.log_model.specs.declared.made.Made.{Made}
use Rattle.log_model.specs.declared.row_kind.RowKind.{RowKind}
use Rattle.move_queue.specs.Queue.{Queue}
use Rattle.tab_facts.specs.Order.Orders.{IsOfCoord}
use Rattle.row_facts.proofs.Owed.Ends.{owed_paid}
use Rattle.seen_facts.proofs.Rest.Seated.{all_has}
use Rattle.seen_laws.specs.Blocks.{EachPass, Here}
use Rattle.seen_laws.specs.InEvent.{EndAsWanted, InEvent, IsPaid, IsTakenIn, later_of, log_of, now_of, own_of, rows_of, start_of}
use Rattle.std.proofs.Common.{Bool, List, None, Option, Some, [], false, refl, subst, sym, true, ℕ, ◌==◌, ◌≡◌}
use Rattle.std.specs.List.{list_all}
use Rattle.std.specs.Prelude.{is_some, option_and_then}
use Rattle.tab_doors.specs.PassedOn.{told_by}
use Rattle.tab_doors.specs.Working.{IsToCome, IsAtWork}
use Rattle.tab_doors.specs.declared.tables.Tables.{Tables}
use Rattle.tab_facts.specs.TabEvents.Between.{IsBetweenChecks}
use Rattle.tab_ids.specs.declared.DocId.{DocId}
use Rattle.tab_ids.specs.declared.ReqId.{ReqId}
use Rattle.tab_ids.specs.declared.StateId.{StateId}
use Rattle.unload_check.specs.Checks.{OpenCheck}
use Rattle.tab_settles.specs.PassedOn.{InPass, IsTab}
use Rattle.tab_settles.proofs.PassedOn.{stepped}
use Rattle.tab_settles.proofs.Ended.{IsNoneDue}
use Rattle.tab_settles.specs.Settling.{HasSettled, MakesServe, NoneRunsWhileHeld, OrdersAreSound}
use Rattle.tab_stands.proofs.Checked.{checks_end, known_end}
use Rattle.tab_stands.proofs.EpochRows.{event_under}
use Rattle.tab_stands.proofs.LateEvents.{off_of}
use Rattle.tab_stands.specs.Checked.{ChecksStand, told_all}
use Rattle.tab_stands.specs.Offs.{AreShownOnce, AreShownUnder}
use Rattle.tab_stands.specs.Standing.{HasActed, InCheck, Lasts, LastsInLog, StandsFor}

-- where all were told what is due, each was told something
each_told : (s : Seen) → ends_told s ≡ true → EachIsTold s
unfolding ends_told
each_told s told nav place doc d found wakes its =
    some_pair (due_pair s place.nav) d.told
    (subst (λ (o : Option Document). holds (same_pair (due_pair s place.nav)) (option_and_then (λ (y : Document). y.told) o) ≡ true) its woken)
  where
    all : list_all (is_told s) s.places ≡ true
    all = told

    woken : holds (same_pair (due_pair s place.nav)) (option_and_then (λ (x : DocId). option_and_then (λ (y : Document). y.told) (document_of s x)) (Some doc)) ≡ true
    woken = (let h = all_has (is_told s) s.places all place (find_has (λ (p : Place). p.nav.0 == nav.0) s.places place found).0 in rw wakes at h)

    some_pair : (due : ℕ × ℕ) (o : Option (ℕ × ℕ)) → holds (same_pair due) o ≡ true → is_some o ≡ true
    some_pair due None never = absurd cc
    some_pair due (Some pair) is = refl

-- the own row owes nothing
own_owes : (h : Here) (event : ℕ) (actor : Actor) (kind : RowKind) (end : Seen) → leads kind ≡ true → owes_row h (record { event = event; actor = actor; row = kind }) end ≡ true
own_owes h event actor (rows.Accepted req doc what) end led = refl
own_owes h event actor (rows.Answered req stay) end led = refl
own_owes h event actor (rows.Evicted state) end led = refl
own_owes h event actor (rows.Delivered proc) end led = refl
own_owes h event actor _ end led = absurd (let never : false ≡ true = led in cc)

-- what is paid in the log without questions is paid in the log
pub paid_log : (e : InEvent) (out : List RowKind) {t : Tables} → IsAtWork e out t → owes_seen e out (now_of e out) ≡ true → IsPaid e out
paid_log e out work paid = rw (own_owes (start_of e) e.event e.actor e.own (log_of e out) work.own) rest
  where
    rest : owes (own_of e) (later_of e out) (log_of e out) ≡ true
    rest =
        paid_read e out (log_of e out) (aimed_log e out _ work) work.checks.others work.numbered work.read work.sole work.debts
        (subst (λ (s : Seen). owes_seen e out s ≡ true) (now_is e out) paid)

-- what a coordinator at work has of its tables, whatever their checks
told_tied : (p : InPass) (out : List RowKind) (t : Tables) (checks : List (ReqId × OpenCheck)) → IsAtWork p.event out t → AreTied (now_of p.event out) (record t { checks = checks })
told_tied p out t checks work =
    record {
      holds = record {
        navs = work.holds.navs;
        documents = work.holds.documents;
        whose = work.holds.whose;
        shown = work.holds.shown;
        last = work.holds.last;
        history = work.holds.history;
        numbered = work.holds.numbered;
        states = work.holds.states;
        entries = work.holds.entries;
        sent = work.holds.sent;
      };
      runs = work.runs;
      goal = work.goal;
      few = work.few;
      initial = work.initial;
      loads = work.loads;
      kept = work.kept;
    }

-- so they stand for the log whatever their checks
pub as_stands : (check : InCheck) (s : Seen) (t : Tables) (checks : List (ReqId × OpenCheck)) (queue : Queue) (blame : List (StateId × ReqId)) → StandsFor check s (record t { checks = checks }) queue blame → StandsFor check s t queue blame
as_stands check s t checks queue blame stands =
    record {
      between = stands.between;
      alone = stands.alone;
      lasts = stands.lasts;
      tied = record {
        holds = record {
          navs = stands.tied.holds.navs;
          documents = stands.tied.holds.documents;
          whose = stands.tied.holds.whose;
          shown = stands.tied.holds.shown;
          last = stands.tied.holds.last;
          history = stands.tied.holds.history;
          numbered = stands.tied.holds.numbered;
          states = stands.tied.holds.states;
          entries = stands.tied.holds.entries;
          sent = stands.tied.holds.sent;
        };
        runs = stands.tied.runs;
        goal = stands.tied.goal;
        few = stands.tied.few;
        initial = stands.tied.initial;
        loads = stands.tied.loads;
        kept = stands.tied.kept;
      };
      strays = stands.strays;
      queue = stands.queue;
      parked = stands.parked;
    }

module _ (p : InPass) (out : List RowKind) (t : Tables) (queue : Queue) (blame : List (StateId × ReqId)) (cause : Why) (waits : Bool) (alone : NoneRunsWhileHeld waits t.running) (at : HasSettled p out t queue blame cause) (makes : MakesServe (now_of p.event out)) (sound : OrdersAreSound (now_of p.event out)) (of_coord : (row : RowKind) → Has out row → IsOfCoord row) (shows : EachPass (start_of p.event) (rows_of p.event out) [] → AreShownUnder (log_of p.event [])) (known : EachPass (start_of p.event) (rows_of p.event out) [] → AskingKnown (log_of p.event [])) (settled : IsAllTied (log_of p.event out) (told_all p.event.ran t.checks out)) (wanted : EndAsWanted p.event out) where
  abbrev s : Seen
  s = now_of p.event out

  -- what is in its check then: the loads that are at hand still, and one traversal or none, as before
  abbrev check : InCheck
  check = record { loads = p.loads; holds = waits }

  tab : IsTab t.running p.loads [] s
  tab =
      subst (λ (hand : List Made). IsTab t.running p.loads hand s) at.empty at.passing.going.tab

  -- what holds between two events
  between : (waits ≡ false → IsNoneDue s t.running queue.waiting) → IsBetweenChecks t.kept.keep t.running p.loads waits s
  between due =
      record {
        tab = tab;
        flows = flows_told s tab.flows (each_told s at.told) at.passed.rows_;
        served = at.served;
        told = at.told;
        stepped = λ free. stepped s t.running tab.asked queue.waiting at.queueing.queued (due free);
        held = at.queueing.held;
        rows_ = at.passed.rows_;
        rests = at.passing.rests;
        swept = at.swept;
        stands = at.passed.walked.loads;
        loading = at.live.loading;
        few = at.passing.few;
      }

  -- what the rows owe is paid in the log, too
  paid : IsPaid p.event out
  paid = paid_log p.event out at.passing.work (owed_paid p.event out at.passing.owed)

  -- each row passes, as each check that is settled has its prompt up, and the rows are as those before the cut want them
  passes : IsTakenIn p.event (later_of p.event out) → EachPass (start_of p.event) (rows_of p.event out) []
  passes taken =
      pass_tied (IsToCome None p.event out) p.event out (told_by p.event.ran t.checks out) at.passing.work.asked at.passing.work.lawful (come_end p.event out wanted) paid taken at.queueing.over settled

  -- what lasts of the log itself
  lasts_log : IsTakenIn p.event (later_of p.event out) → LastsInLog p.event.checking t.asking (log_of p.event out)
  lasts_log taken =
      let pass = passes taken in
      record {
        checks = at.passing.work.checks;
        asking = at.passing.work.asking;
        shows = event_under p.event out [] pass.1 of_coord (shows pass);
        duly = at.passing.duly;
        known = known_end p.event out [] at.passing.work.goes of_coord pass (known pass);
      }

  -- navigables are the same in both
  once : IsTakenIn p.event (later_of p.event out) → AreShownOnce s.places
  once taken =
      let shown = (lasts_log taken).shows in
      subst (λ (x : Seen). AreShownOnce x.places) (sym (now_is p.event out)) (record { unshown = shown.unshown; top_ = shown.top_ })

  lasts : AreShownOnce s.places → Lasts t.running s
  lasts shown =
      record {
        lasting = at.passing.going.lasting;
        counted = at.passing.going.counted;
        steps = at.passing.going.steps;
        held = at.passing.going.held;
        were = at.passed.walked.were;
        parents = at.passed.walked.parents;
        takers = at.passed.takers;
        calm = at.calm;
        moved = at.moved;
        made = at.theirs;
        makes = makes;
        sound = sound;
        off = off_of s shown at.passing.going.tab.standing t.running at.calm at.late;
      }

  -- the table that was told of all that was discarded stands for the log
  asks : IsTakenIn p.event (later_of p.event out) → ChecksStand p.event.checking (log_of p.event out) (told_all p.event.ran t.checks out)
  asks taken =
      checks_end p.event out t.checks at.passing.work.asked settled at.passing.work.calm

  pub acted : (waits ≡ false → IsNoneDue s t.running queue.waiting) → IsTakenIn p.event (later_of p.event out) → HasActed check p.event out (record t { checks = told_all p.event.ran t.checks out }) queue blame
  acted due taken =
      record {
        stands = record {
          between = between due;
          alone = alone;
          lasts = lasts (once taken);
          tied = told_tied p out t (told_all p.event.ran t.checks out) at.passing.work;
          strays = at.strays;
          queue = at.queueing.queued;
          parked = at.queueing.parked;
        };
        lasts = lasts_log taken;
        asks = asks taken;
        passes = passes taken;
      }
