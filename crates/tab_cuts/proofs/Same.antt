-- The event is cut where nobody enters or leaves its check: as its table of checks is told, and as the user was asked.
use Rattle.asking_facts.specs.Standing.{StandsAsked}
use Rattle.log_model.specs.Seen.{Seen}
use Rattle.log_model.specs.declared.row_kind.RowKind.TheVariants as rows
use Rattle.log_model.specs.declared.row_kind.RowKind.{RowKind}
use Rattle.row_facts.specs.Owed.Owed.{IsLoose, IsOwed, Lasts, Stays, owes_seen}
use Rattle.seen_laws.proofs.InEvents.{log_more}
use Rattle.seen_laws.specs.InEvent.{InEvent, cut, log_of, now_of}
use Rattle.std.proofs.Common.{Bool, List, Option, [], arith, length, subst, sym, true, ◌+◌, ◌++◌, ◌∷◌, ◌≡◌}
use Rattle.tab_cuts.proofs.Counted.{lasts_before, stays_before, ties_counted}
use Rattle.tab_cuts.proofs.Debts.{debts_entered}
use Rattle.tab_cuts.proofs.Owed.{loose_cut, owed_cut}
use Rattle.tab_cuts.proofs.Silent.{noted_log}
use Rattle.tab_cuts.proofs.Works.{ties_beside, work_behind, work_cut}
use Rattle.tab_cuts.specs.Cut.{TiesCut}
use Rattle.tab_doors.proofs.AskingLoads.{row_asking}
use Rattle.tab_doors.proofs.Works.{soles_more}
use Rattle.tab_doors.specs.AskingLoads.{TiesAsking}
use Rattle.tab_doors.specs.Keeping.{Move}
use Rattle.tab_doors.specs.Working.{IsAtWorkIn, IsCalmIn, IsToCome}
use Rattle.tab_doors.specs.declared.tables.Tables.{Tables}
use Rattle.tab_ids.specs.declared.DocId.{DocId}
use Rattle.tab_ids.specs.declared.ReqId.{ReqId}
use Rattle.unasked.proofs.Questions.{prompted_unseen}
use Rattle.unasked.proofs.Whole.{silent}
use Rattle.unasked_dues.proofs.Cut.{debts_same}
use Rattle.unasked_dues.specs.Checking.{unasked}
use Rattle.unasked_dues.specs.Reading.{AreDebts}

module _ {sweeps : Bool} (move : Option Move) (e : InEvent) (out : List RowKind) (t : Tables) (work : IsAtWorkIn sweeps move e out t) where
  -- ---- the table of checks is another

  abbrev pub then_told : InEvent
  then_told = cut e out e.checking (owes_seen e out)

  ties_told : (u : Tables) → u ≡ record t { checks = u.checks } → TiesCut move (unasked e.checking (log_of e out)) u
  unfolding now_of
  ties_told u is =
      let ties = ties_beside move e out t work in
      subst (λ (x : Tables). TiesCut move (unasked e.checking (log_of e out)) x) (sym is) (record {
        holds = record {
          navs = ties.holds.navs;
          documents = ties.holds.documents;
          whose = ties.holds.whose;
          shown = ties.holds.shown;
          last = ties.holds.last;
          history = ties.holds.history;
          numbered = ties.holds.numbered;
          states = ties.holds.states;
          entries = ties.holds.entries;
          sent = ties.holds.sent;
        };
        runs = ties.runs;
        goal = ties.goal;
        few = ties.few;
        initial = ties.initial;
        loads = ties.loads;
        kept = ties.kept;
      })

  pub work_told : (but : ReqId → Bool) (u : Tables) → u ≡ record t { checks = u.checks } → StandsAsked (IsToCome move then_told []) but then_told [] (record { checks = u.checks; run = [] }) → {then_sweeps : Bool} → IsCalmIn then_sweeps e.checking (log_of then_told []) → IsAtWorkIn then_sweeps move then_told [] u
  work_told but u is stands calm =
      work_cut move e out e.checking (owes_seen e out) u but t work (debts_same e out work.numbered work.read work.debts) stands (ties_told u is) (subst (λ (x : Tables). TiesAsking e.checking (log_of e out) x.asking) (sym is) work.asking) calm

  -- ---- the user was asked

  module _ (req : ReqId) (doc : DocId) where
    abbrev kind : RowKind
    kind = rows.Prompted req doc

    abbrev behind : Seen
    behind = log_of e (out ++ kind ∷ [])

    abbrev pub then_prompted : InEvent
    then_prompted = cut e (out ++ kind ∷ []) e.checking (owes_seen e out)

    pub debts_prompted : AreDebts then_prompted
    debts_prompted =
        debts_entered e out (kind ∷ []) e.checking (λ r on. on) work.numbered work.read work.debts (tt, tt)

    -- that isn't seen
    pub prompted_silent : unasked e.checking behind ≡ silent (now_of e out) e.event behind.jobs behind.states
    unfolding now_of
    prompted_silent =
        subst (λ (s : Seen). unasked e.checking s ≡ silent (unasked e.checking (log_of e out)) e.event s.jobs s.states) (sym (log_more e out kind)) (prompted_unseen e.checking (log_of e out) e.event e.actor (noted_log e out) req doc)

    pub owed_prompted : IsOwed e out → IsOwed then_prompted []
    owed_prompted owed =
        owed_cut e (out ++ kind ∷ []) e.checking (owes_seen e out) (λ end stays. owed end (stays_before (now_of e out) e.event behind.jobs behind.states end (subst (λ (s : Seen). Stays s end) prompted_silent stays)))

    pub loose_prompted : IsLoose e out → IsLoose then_prompted []
    loose_prompted loose =
        loose_cut e (out ++ kind ∷ []) e.checking (owes_seen e out) (λ end lasts. loose end (lasts_before (now_of e out) e.event behind.jobs behind.states end (subst (λ (s : Seen). Lasts s end) prompted_silent lasts)))

    ties_prompted : (u : Tables) → u ≡ record t { checks = u.checks } → TiesCut move (unasked e.checking behind) u
    unfolding now_of
    ties_prompted u is =
        subst (λ (s : Seen). TiesCut move s u) (sym prompted_silent)
        (subst (λ (s : Seen). TiesCut move (silent (unasked e.checking (log_of e out)) e.event s.jobs s.states) u) (sym (log_more e out kind)) (ties_counted (unasked e.checking (log_of e out)) e.event (log_of e out).jobs (log_of e out).states move t u as_counted sent states (omega (arith)) (ties_beside move e out t work)))
      where
        as_counted : u ≡ record t { sent = u.sent; states = u.states; asking = u.asking; checks = u.checks }
        as_counted = λ i. record (is i) { sent = u.sent; states = u.states; asking = u.asking; checks = u.checks }

        sent : length u.sent.items ≡ (log_of e out).jobs + 1
        sent = subst (λ (x : Tables). length x.sent.items ≡ (log_of e out).jobs + 1) (sym is) work.holds.sent

        states : u.states ≡ (log_of e out).states
        states = subst (λ (x : Tables). x.states ≡ (log_of e out).states) (sym is) work.holds.states

    -- the loads in their checks are those of before
    asking_prompted : TiesAsking e.checking behind t.asking
    asking_prompted =
        subst (λ (s : Seen). TiesAsking e.checking s t.asking) (sym (log_more e out kind)) (row_asking e.checking (log_of e out) e.event e.actor t.asking work.asking kind tt)

    pub work_prompted : (but : ReqId → Bool) (u : Tables) → u ≡ record t { checks = u.checks } → e.checking req ≡ true → StandsAsked (IsToCome move then_prompted []) but then_prompted [] (record { checks = u.checks; run = [] }) → {then_sweeps : Bool} → IsCalmIn then_sweeps e.checking (log_of then_prompted []) → IsAtWorkIn then_sweeps move then_prompted [] u
    work_prompted but u is on stands calm =
        work_behind move e (out ++ kind ∷ []) e.checking (owes_seen e out) u but work.own work.worker work.numbered (soles_more e out kind tt work.sole) debts_prompted stands (ties_prompted u is) (subst (λ (x : Tables). TiesAsking e.checking behind x.asking) (sym is) asking_prompted) calm
