-- The event is cut behind prompts: its coordinator goes on working, by a table that was told of what the rows discarded.
use Rattle.tab_doors.specs.AskingLoads.{TiesAsking}
use Rattle.tab_doors.proofs.AskingLoads.{row_asking}
use Rattle.asking_facts.specs.Standing.{StandsAsked}
use Rattle.check_facts.specs.Prompting.{todo_of}
use Rattle.log_model.specs.After.{after}
use Rattle.log_model.specs.Seen.{Seen}
use Rattle.log_model.specs.declared.job.Job.{Job}
use Rattle.log_model.specs.declared.row_kind.LogRow.{LogRow}
use Rattle.log_model.specs.declared.row_kind.RowKind.TheVariants as rows
use Rattle.log_model.specs.declared.row_kind.RowKind.{RowKind}
use Rattle.row_facts.specs.Owed.Owed.{IsLoose, IsOwed, Lasts, Stays, owes_seen}
use Rattle.seen_laws.proofs.InEvents.{log_fold, log_more}
use Rattle.seen_laws.specs.InEvent.{InEvent, cut, cut_wanting, log_of, now_of, row_of, running}
use Rattle.seen_laws.specs.Unasked.{no_question}
use Rattle.std.proofs.Common.{Bool, List, None, Option, Some, [], ap, append-nil, append_assoc, map, refl, subst, sym, ℕ, ◌++◌, ◌+◌, ◌∙◌, ◌∷◌, ◌≡◌}
use Rattle.std.proofs.lemmas.List.{map-append}
use Rattle.std.specs.Prelude.{fold, option_and_then}
use Rattle.tab_cuts.proofs.Debts.{EachOwesSole, debts_entered}
use Rattle.tab_cuts.proofs.Owed.{loose_cut, loose_wanting, now_cut, owed_cut, owed_wanting}
use Rattle.tab_cuts.proofs.Silent.{noted_log}
use Rattle.tab_cuts.proofs.Works.{ties_beside, work_wanting}
use Rattle.tab_cuts.specs.Cut.{TiesCut}
use Rattle.tab_doors.proofs.Works.{soles_more}
use Rattle.tab_doors.specs.Keeping.{Move}
use Rattle.tab_doors.specs.Working.{IsAtWorkIn, IsCalmIn, IsToCome}
use Rattle.tab_doors.specs.declared.tables.Tables.{Tables}
use Rattle.tab_ids.specs.declared.DocId.{DocId}
use Rattle.tab_ids.specs.declared.ReqId.{ReqId}
use Rattle.tab_prompts.proofs.Prompted.{prompts_none, prompts_some}
use Rattle.tab_prompts.specs.Asking.{ArePrompts}
use Rattle.tab_prompts.specs.Prompts.{prompts_for}
use Rattle.unasked.proofs.Questions.{prompted_unseen}
use Rattle.unasked.proofs.Whole.{silent}
use Rattle.unasked_dues.specs.Checking.{unasked}
use Rattle.unasked_dues.specs.Reading.{AreDebts, BeginSole}
use Rattle.unload_check.specs.Checks.{OpenCheck}

-- ---- the rows

-- they ask the user, and nothing else
pub prompts_are : (table : List (ReqId × OpenCheck)) (reqs : List ReqId) → ArePrompts (prompts_for table reqs)
prompts_are table [] = tt
prompts_are table (req ∷ reqs) = by_todo (todo_of table req) refl (prompts_are table reqs)
  where
    by_todo : (o : Option DocId) → todo_of table req ≡ o → ArePrompts (prompts_for table reqs) → ArePrompts (prompts_for table (req ∷ reqs))
    by_todo None none rest = subst ArePrompts (sym (prompts_none table req reqs none)) rest
    by_todo (Some doc) some rest = subst ArePrompts (sym (prompts_some table req reqs doc some)) rest

owe_sole : (more : List RowKind) → ArePrompts more → EachOwesSole more
owe_sole [] are = tt
owe_sole (rows.Prompted req doc ∷ more) are = (tt, owe_sole more are)
owe_sole (_ ∷ more) never = absurd never

-- ---- the log without questions stays as it was

-- how many events there were
events_on : (e : InEvent) (s : Seen) (kinds : List RowKind) → s.events ≡ e.event + 1 → (fold after s (map (row_of e) kinds)).events ≡ e.event + 1
events_on e s [] is = is
events_on e s (kind ∷ kinds) is = events_on e (after s (row_of e kind)) kinds refl

silent_same : (s : Seen) (event : ℕ) → s.events ≡ event + 1 → s.just_finished ≡ None → silent s event s.jobs s.states ≡ s
silent_same s event events finished =
    λ i. record s { events = sym events i; jobs = s.jobs; states = s.states; just_finished = sym finished i }

-- it is the event's number, in the event
events_log : (e : InEvent) (out : List RowKind) → (log_of e out).events ≡ e.event + 1
events_log e out =
    ap (λ (s : Seen). s.events) (log_fold e out ∙ ap (λ (l : List LogRow). fold after (after e.start (row_of e e.own)) l) (sym (map-append (row_of e) e.before out)))
    ∙ events_on e (after e.start (row_of e e.own)) (e.before ++ out) refl

-- one row after another
abbrev FinishedNone : InEvent → List RowKind → Type 0
FinishedNone e out = (log_of e out).just_finished ≡ None

unasked_same : (e : InEvent) (out : List RowKind) → FinishedNone e out → silent (unasked e.checking (log_of e out)) e.event (log_of e out).jobs (log_of e out).states ≡ unasked e.checking (log_of e out)
unasked_same e out finished =
    silent_same (unasked e.checking (log_of e out)) e.event (events_log e out) (ap (λ (o : Option Job). option_and_then no_question o) finished)

one_same : (e : InEvent) (out : List RowKind) (req : ReqId) (doc : DocId) → FinishedNone e out → unasked e.checking (log_of e (out ++ rows.Prompted req doc ∷ [])) ≡ unasked e.checking (log_of e out)
one_same e out req doc finished =
    ap (unasked e.checking) (log_more e out (rows.Prompted req doc))
    ∙ prompted_unseen e.checking (log_of e out) e.event e.actor (noted_log e out) req doc
    ∙ unasked_same e out finished

pub prompts_same : (e : InEvent) (more out : List RowKind) → ArePrompts more → FinishedNone e out → unasked e.checking (log_of e (out ++ more)) ≡ unasked e.checking (log_of e out)
prompts_same e [] out are finished = ap (λ (l : List RowKind). unasked e.checking (log_of e l)) (append-nil out)
prompts_same e (rows.Prompted req doc ∷ more) out are finished =
    ap (λ (l : List RowKind). unasked e.checking (log_of e l)) (sym (append_assoc out (rows.Prompted req doc ∷ []) more))
    ∙ prompts_same e more (out ++ rows.Prompted req doc ∷ []) are (ap (λ (s : Seen). s.just_finished) (log_more e out (rows.Prompted req doc)))
    ∙ one_same e out req doc finished
prompts_same e (_ ∷ more) out never finished = absurd never

-- whatever each of them keeps
pub prompts_keep : (P : Seen → Type 0) (e : InEvent) → ((s : Seen) (req : ReqId) (doc : DocId) → P s → P (after s (row_of e (rows.Prompted req doc)))) → (more out : List RowKind) → ArePrompts more → P (log_of e out) → P (log_of e (out ++ more))
prompts_keep P e keeps [] out are is = subst (λ (l : List RowKind). P (log_of e l)) (sym (append-nil out)) is
prompts_keep P e keeps (rows.Prompted req doc ∷ more) out are is =
    subst (λ (l : List RowKind). P (log_of e l)) (append_assoc out (rows.Prompted req doc ∷ []) more)
    (prompts_keep P e keeps more (out ++ rows.Prompted req doc ∷ []) are (subst P (sym (log_more e out (rows.Prompted req doc))) (keeps (log_of e out) req doc is)))
prompts_keep P e keeps (_ ∷ more) out never is = absurd never

-- each load that began is the only one of its navigable
soles_on : (e : InEvent) (more out : List RowKind) → ArePrompts more → BeginSole e out (log_of e out) → BeginSole e (out ++ more) (log_of e (out ++ more))
soles_on e [] out are sole =
    subst (λ (l : List RowKind). BeginSole e l (log_of e l)) (sym (append-nil out)) sole
soles_on e (rows.Prompted req doc ∷ more) out are sole =
    subst (λ (l : List RowKind). BeginSole e l (log_of e l)) (append_assoc out (rows.Prompted req doc ∷ []) more)
    (soles_on e more (out ++ rows.Prompted req doc ∷ []) are (soles_more e out (rows.Prompted req doc) tt sole))
soles_on e (_ ∷ more) out never sole = absurd never

-- the loads in their checks are those of before
asking_over : (e : InEvent) (more out : List RowKind) → ArePrompts more → (t : Tables) → TiesAsking e.checking (log_of e out) t.asking → TiesAsking e.checking (log_of e (out ++ more)) t.asking
asking_over e [] out are t ties =
    subst (λ (l : List RowKind). TiesAsking e.checking (log_of e l) t.asking) (sym (append-nil out)) ties
asking_over e (rows.Prompted req doc ∷ more) out are t ties =
    subst (λ (l : List RowKind). TiesAsking e.checking (log_of e l) t.asking) (append_assoc out (rows.Prompted req doc ∷ []) more)
    (asking_over e more (out ++ rows.Prompted req doc ∷ []) are t (subst (λ (s : Seen). TiesAsking e.checking s t.asking) (sym (log_more e out (rows.Prompted req doc))) (row_asking e.checking (log_of e out) e.event e.actor t.asking ties (rows.Prompted req doc) tt)))
asking_over e (_ ∷ more) out never t ties = absurd never

-- ---- the event is cut behind them

module _ (e : InEvent) (out more : List RowKind) (are : ArePrompts more) (finished : FinishedNone e out) (test : List LogRow → Bool) (ran : List DocId) where
  abbrev cut_prompted : InEvent
  cut_prompted = cut e (out ++ more) e.checking (owes_seen e out)

  -- this is wanted of what comes after, and this run lasts
  abbrev pub then_prompted : InEvent
  then_prompted = running (cut_wanting e (out ++ more) e.checking (owes_seen e out) test) ran

  -- the log without questions is as it was
  pub same_prompted : now_of then_prompted [] ≡ now_of e out
  unfolding now_of
  same_prompted = now_cut e (out ++ more) e.checking (owes_seen e out) ∙ prompts_same e more out are finished

  before_same : unasked e.checking (log_of e (out ++ more)) ≡ now_of e out
  unfolding now_of
  before_same = prompts_same e more out are finished

  pub owed_prompted : IsOwed e out → IsOwed then_prompted []
  owed_prompted owed =
      owed_wanting cut_prompted then_prompted.wants ran
      (owed_cut e (out ++ more) e.checking (owes_seen e out) (λ end stays. owed end (subst (λ (s : Seen). Stays s end) before_same stays)))

  pub loose_prompted : IsLoose e out → IsLoose then_prompted []
  loose_prompted loose =
      loose_wanting cut_prompted then_prompted.wants ran
      (loose_cut e (out ++ more) e.checking (owes_seen e out) (λ end lasts. loose end (subst (λ (s : Seen). Lasts s end) before_same lasts)))

  module _ {sweeps : Bool} (move : Option Move) (t : Tables) (work : IsAtWorkIn sweeps move e out t) where
    debts_prompted : AreDebts cut_prompted
    debts_prompted =
        debts_entered e out more e.checking (λ r on. on) work.numbered work.read work.debts (owe_sole more are)

    ties_prompted : (u : Tables) → u ≡ record t { checks = u.checks } → TiesCut move (unasked e.checking (log_of e (out ++ more))) u
    ties_prompted u is =
        let ties = ties_beside move e out t work in
        subst (λ (s : Seen). TiesCut move s u) (sym before_same)
        (subst (λ (x : Tables). TiesCut move (now_of e out) x) (sym is) (record {
          holds = record {
            navs = ties.holds.navs;
            documents = ties.holds.documents;
            whose = ties.holds.whose;
            shown = ties.holds.shown;
            last = ties.holds.last;
            history = ties.holds.history;
            numbered = ties.holds.numbered;
            states = ties.holds.states;
            entries = ties.holds.entries;
            sent = ties.holds.sent;
          };
          runs = ties.runs;
          goal = ties.goal;
          few = ties.few;
          initial = ties.initial;
          loads = ties.loads;
          kept = ties.kept;
        }))

    pub work_prompted : (but : ReqId → Bool) (u : Tables) → u ≡ record t { checks = u.checks } → StandsAsked (IsToCome move then_prompted []) but then_prompted [] (record { checks = u.checks; run = ran }) → {then_sweeps : Bool} → IsCalmIn then_sweeps e.checking (log_of then_prompted []) → IsAtWorkIn then_sweeps move then_prompted [] u
    work_prompted but u is stands calm =
        work_wanting move e (out ++ more) e.checking (owes_seen e out) u but then_prompted.wants ran work.own work.worker work.numbered (soles_on e more out are work.sole) debts_prompted stands (ties_prompted u is) (subst (λ (x : Tables). TiesAsking e.checking (log_of e (out ++ more)) x.asking) (sym is) (asking_over e more out are t work.asking)) calm
