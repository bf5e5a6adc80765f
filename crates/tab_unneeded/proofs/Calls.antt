-- What the call asks of its parts, and what it says, in the words of its contract.
use Rattle.load_table.specs.Loads.{HasOneEach}
use Rattle.log_model.specs.declared.job.Why.{Why}
use Rattle.log_model.specs.declared.row_kind.RowKind.{RowKind}
use Rattle.row_facts.specs.Owed.Owed.{IsLoose}
use Rattle.seen_facts.proofs.Kept.States.{AreOfOwnStates}
use Rattle.seen_laws.specs.InEvent.{now_of}
use Rattle.std.proofs.Common.{Bool, List, None, [], ap, false, subst, sym, true, ◌++◌, ◌∙◌, ◌∷◌, ◌≡◌}
use Rattle.std.specs.Option.{IsSome}
use Rattle.tab_doors.proofs.Whose.{proc_known}
use Rattle.tab_doors.specs.Noting.{PlacesOne, WaitsAtItsNav}
use Rattle.tab_doors.specs.Orders.{order_to}
use Rattle.tab_doors.specs.Ties.{proc_in}
use Rattle.tab_doors.specs.Working.{KeepsRun, KeepsStore, MayDiscardIn, MaySend}
use Rattle.tab_doors.specs.declared.tables.Tables.{Tables}
use Rattle.tab_ids.specs.declared.DocId.{DocId}
use Rattle.tab_ids.specs.declared.StateId.{StateId}
use Rattle.tab_facts.specs.Calm.Calm.{IsCalmYet}
use Rattle.tab_passes.proofs.Freezings.{below_none}
use Rattle.tab_passes.proofs.Leavings.{leaving_none}
use Rattle.tab_passes.proofs.Sweeps.{swept_on}
use Rattle.tab_passes.specs.Leaving.{IsGoneAt, IsLeavingIn, MayLeave, left_then}
use Rattle.tab_passes.specs.Passing.{IsPassingIn}
use Rattle.tab_stands.proofs.Awaited.{awaited_own}
use Rattle.tab_stands.proofs.Unmade.{d, its_found}
use Rattle.tab_stands.specs.PassedOn.{InPass, IsPassing, IsStray, MayCause, IsReadyIn}
use Rattle.tab_stands.specs.Standing.{HasLogged, HasRoomFor, InCheck, StandsFor, seen_start}
use Rattle.tab_sweeps.proofs.Theres.{stray_gone, stray_own}
use Rattle.tab_sweeps.proofs.Unneededs.{unneeded_leaves, unneeded_sends}
use Rattle.tab_sweeps.specs.Unneeded.{IsUnneeded}
use Rattle.tab_unneeded.proofs.Needs.{made_nobody, made_unneeded}
use Rattle.tab_unneeded.proofs.Notes.{noted_passing}
use Rattle.tab_unneeded.proofs.Readies.{calm_idle, discarded_loose, discarded_ready, kept_run}
use Rattle.tab_unneeded.specs.Made.{InMade, IsMadeUnneeded}
use Rattle.log_model.specs.declared.job.Task.TheVariants as tasks
use Rattle.log_model.specs.declared.job.Why.TheVariants as whys
use Rattle.log_model.specs.declared.row_kind.RowKind.TheVariants as rows

-- documents are swept from here on, or none are
passing_for : (b : Bool) (p : InPass) (out : List RowKind) (t : Tables) → IsPassing p out t → IsPassingIn b p out t
passing_for true p out t pass = swept_on p out t pass
passing_for false p out t pass = pass

module _ (m : InMade) (doc : DocId) (state : StateId) (why : Why) (its : IsMadeUnneeded m doc state why) (t : Tables) {check : InCheck} (stands : StandsFor check (seen_start m.event) t m.queue m.noted) (room : HasRoomFor (seen_start m.event)) (header : t.kept.keep ≡ m.event.header.keep) (logged : HasLogged m.event t.checks t.asking) where
  -- the tables have its process
  pub proc_as : IsSome (proc_in t.whose.entries doc)
  proc_as =
      subst (λ (x : DocId). IsSome (proc_in t.whose.entries x)) its.doc_is
      (proc_known (seen_start m.event) t.whose.entries stands.tied.holds.whose m.job.doc (d m.event m.proc m.job m.outcome its.tells t m.queue m.noted stands its.aside its.nav state its.address its.initial its.task) (its_found m.event m.proc m.job m.outcome its.tells t m.queue m.noted stands its.aside its.nav state its.address its.initial its.task))

  -- the load that waits for it, if one does, is of its navigable
  pub waits_as : HasOneEach t.loads → WaitsAtItsNav t doc
  waits_as one_each =
      subst (λ (x : DocId). WaitsAtItsNav t x) its.doc_is
      (awaited_own m.event m.proc m.job m.outcome its.tells t m.queue m.noted stands its.aside its.nav state its.address its.initial its.task one_each)

  own_stray : IsStray (now_of m.event []) m.job.doc state
  own_stray = subst (λ (x : DocId). IsStray (now_of m.event []) x state) (sym its.doc_is) its.stray

  module _ (one_each : HasOneEach t.loads) (u : Tables) (one : PlacesOne state doc t u) (kept : KeepsRun t u) where
    passing : IsPassing (record { event = m.event; loads = check.loads; hand = [] }) [] u
    passing =
        noted_passing m.event m.proc m.job m.outcome its.tells t m.queue m.noted stands its.aside its.nav state its.address its.initial its.task one_each u (subst (λ (x : DocId). PlacesOne state x t u) (sym its.doc_is) one) kept logged room

    pub may_as : (old : List RowKind) → MayCause (now_of m.event old) why
    may_as old req is = absurd (its.unasked req is)

    module _ (old : List RowKind) (first : old ≡ []) where
      pub passing_as : IsPassing (record { event = m.event; loads = check.loads; hand = [] }) old u
      passing_as =
          subst (λ (l : List RowKind). IsPassing (record { event = m.event; loads = check.loads; hand = [] }) l u) (sym first) passing

      pub unneeded_as : IsUnneeded m.event (now_of m.event old) doc state
      unneeded_as =
          subst (λ (l : List RowKind). IsUnneeded m.event (now_of m.event l) doc state) (sym first)
          (subst (λ (x : DocId). IsUnneeded m.event (now_of m.event []) x state) its.doc_is (made_unneeded m.event m.proc m.job m.outcome its.tells t m.queue m.noted stands its.aside its.nav state its.address its.initial its.task own_stray))

      -- what the door asks
      pub leaving_as : IsLeavingIn check.holds (record { event = m.event; loads = check.loads; hand = [] }) None [] old u
      leaving_as = leaving_none (record { event = m.event; loads = check.loads; hand = [] }) old u (passing_for check.holds (record { event = m.event; loads = check.loads; hand = [] }) old u passing_as)

      pub leaves_as : MayLeave (now_of m.event old) doc why
      leaves_as = unneeded_leaves (record { event = m.event; loads = check.loads; hand = [] }) old u passing_as doc state unneeded_as why (may_as old)

      pub sends_as : MaySend None m.event old (order_to (now_of m.event old) doc why tasks.Discard)
      sends_as = unneeded_sends (record { event = m.event; loads = check.loads; hand = [] }) old u passing_as doc state unneeded_as why (may_as old)

      pub gone_as : IsGoneAt (now_of m.event old) u.tree u.loads doc state
      gone_as = stray_gone (record { event = m.event; loads = check.loads; hand = [] }) old u leaving_as doc state unneeded_as.stray

      pub own_as : AreOfOwnStates (now_of m.event old).documents (now_of m.event old).kept doc state
      own_as = stray_own (record { event = m.event; loads = check.loads; hand = [] }) old u leaving_as doc state unneeded_as.stray

      -- nobody is awake on it, so no other one is left with it
      none_left : left_then (now_of m.event old) doc [] ≡ []
      none_left =
          ap (λ (l : List RowKind). left_then (now_of m.event l) doc []) first
          ∙ ap (λ (x : DocId). left_then (now_of m.event []) x []) (sym its.doc_is)
          ∙ ap (λ (l : List DocId). l ++ []) (below_none (now_of m.event []) m.job.doc (made_nobody m.event m.proc m.job m.outcome its.tells t m.queue m.noted stands its.aside its.nav state its.address its.initial its.task))

      module _ (out : List RowKind) (put : out ≡ old ++ rows.Sent (order_to (now_of m.event old) doc why tasks.Discard) ∷ []) where
        pub out_as : out ≡ rows.Sent (order_to (now_of m.event []) doc why tasks.Discard) ∷ []
        out_as =
            put
            ∙ ap (λ (l : List RowKind). l ++ rows.Sent (order_to (now_of m.event l) doc why tasks.Discard) ∷ []) first

        module _ (v : Tables) (keeps : KeepsStore u v) (then_ : IsLeavingIn check.holds (record { event = m.event; loads = check.loads; hand = [] }) None (left_then (now_of m.event old) doc []) out v) where
          own_out : out ≡ rows.Sent (order_to (now_of m.event []) m.job.doc why tasks.Discard) ∷ []
          own_out =
              out_as
              ∙ ap (λ (x : DocId). let l : List RowKind = rows.Sent (order_to (now_of m.event []) x why tasks.Discard) ∷ [] in l) (sym its.doc_is)

          left : IsLeavingIn check.holds (record { event = m.event; loads = check.loads; hand = [] }) None [] out v
          left = subst (λ (l : List DocId). IsLeavingIn check.holds (record { event = m.event; loads = check.loads; hand = [] }) None l out v) none_left then_

          pub ready_as : MayDiscardIn check.holds m.event → IsReadyIn check.holds (record { event = m.event; loads = check.loads; hand = [] }) out v m.queue m.noted whys.Start
          ready_as free =
              discarded_ready m.event m.proc m.job m.outcome its.tells t m.queue m.noted stands its.aside its.nav state its.address its.initial its.task why its.unasked own_stray u kept passing out v own_out keeps left header logged.logged.uncut logged.logged.undue free

          pub loose_as : IsLoose m.event out
          loose_as =
              discarded_loose m.event m.proc m.job m.outcome its.tells t m.queue m.noted stands its.aside its.nav state its.address its.initial its.task why its.unasked own_stray u kept passing out v own_out keeps left header logged.logged.uncut logged.logged.undue

          pub calm_as : t.running ≡ None → IsCalmYet (now_of m.event out)
          calm_as =
              calm_idle m.event m.proc m.job m.outcome its.tells t m.queue m.noted stands its.aside its.nav state its.address its.initial its.task why its.unasked own_stray u kept passing out v own_out keeps left header logged.logged.uncut logged.logged.undue

          pub kept_as : KeepsRun t v
          kept_as =
              kept_run m.event m.proc m.job m.outcome its.tells t m.queue m.noted stands its.aside its.nav state its.address its.initial its.task why its.unasked own_stray u kept passing out v own_out keeps left header logged.logged.uncut logged.logged.undue
