-- A traversal that runs may end where all stand at the aim, and all goes on then.
use Rattle.std.proofs.lemmas.Bool.Decides.{nat_tests}
use Rattle.tab_passes.proofs.PassedOn.{AreLeftDuly, alone_log, applied_wishes, bare_alone_duly, duly_then, ended_tab, goes_of, joined_unheld, traversed_going, traversed_lasting}
use Rattle.seen_laws.proofs.InEvents.{last_goes, now_at, now_is}
use Rattle.apply_plan.specs.Standing.{are_settled}
use Rattle.seen_facts.proofs.Coord.Held.{without_same}
use Rattle.seen_facts.proofs.Coord.Unread.{next}
use Rattle.seen_facts.specs.Each.Runs.{is_run, OnlyRuns, is_this}
use Rattle.tab_passes.specs.PassedOn.{has_ended as has_ended_, wish}
use Rattle.row_facts.specs.FrameRows.Lawful.{held_at_first}
use Rattle.tab_passes.proofs.SetOuts.{course_of}
use Rattle.tab_facts.proofs.FrameTab.Plainly.{applied_reads}
use Rattle.tab_facts.proofs.FrameWhole.Aiming.{used_used}
use Rattle.log_model.proofs.Refl.{nat_eq_refl}
use Rattle.log_model.specs.AfterPlaces.{with_taker}
use Rattle.log_model.specs.AfterRequests.{changes_history, entries_taken}
use Rattle.log_model.specs.Equal.{has_req}
use Rattle.log_model.specs.History.{History, applied, fits, greatest_step, has_row, used_step_at}
use Rattle.log_model.specs.Once.{change_of_begun, due_change}
use Rattle.log_model.specs.Places.{aim_of, all_stand, is_traversal, is_under_way}
use Rattle.log_model.specs.Seen.{Asked, Place, Seen, request_of}
use Rattle.log_model.specs.declared.change.Change.{Change}
use Rattle.log_model.specs.declared.made.Made.{Made}
use Rattle.log_model.specs.declared.made.What.{What}
use Rattle.log_model.specs.declared.request.Request.{Request}
use Rattle.log_model.specs.declared.row.Row.{Row}
use Rattle.log_model.specs.declared.row_kind.RowKind.{RowKind}
use Rattle.row_facts.proofs.Owed.Ends.{loose_more, loose_owed}
use Rattle.row_facts.proofs.Owed.Rows.{applied_lasts}
use Rattle.row_facts.specs.Owed.Owed.{IsLoose}
use Rattle.seen_facts.specs.Request.Knowns.{is_go}
use Rattle.row_facts.proofs.RestRows.Rows.{applied_rests}
use Rattle.row_facts.specs.RestRows.Moving.{AllRest}
use Rattle.seen_laws.specs.InEvent.{InEvent, now_of, log_of}
use Rattle.std.proofs.Common.{Bool, List, None, Option, Some, [], ap, arith, false, fold, inl, inr, length, map, not, refl, subst, sym, true, ℕ, ◌&&◌, ◌++◌, ◌∙◌, ◌∷◌, ◌≡◌, ◌≤◌, ◌⊎◌, ◌==◌}
use Rattle.std.proofs.lemmas.Bool.{cases_Bool, le-leb}
use Rattle.std.proofs.lemmas.List.{map-id}
use Rattle.std.specs.Prelude.{filter, is_none, max, nat_le}
use Rattle.step_index.specs.Held.{history_held}
use Rattle.tab_doors.specs.Dues.{IsEndDue, MayChange}
use Rattle.tab_doors.specs.Working.{IsAtWork}
use Rattle.tab_doors.specs.declared.tables.Tables.{Tables}
pub use Rattle.tab_passes.proofs.PassedOn.{count_few}
use Rattle.tab_passes.specs.Leaving.{IsGoing}
use Rattle.tab_ids.specs.declared.DocId.{DocId}
use Rattle.tab_ids.specs.declared.ReqId.{ReqId}
use Rattle.tab_ids.specs.declared.Step.{Step}
use Rattle.tab_passes.proofs.Aims.{aim_is, held_aim}
use Rattle.tab_passes.proofs.Goings.{runs_there}
use Rattle.tab_passes.specs.Passing.{InPass, IsPassing, aim_in}
use Rattle.tab_turns.proofs.Standings.{stand_is}
use Rattle.tab_turns.proofs.Turned.{IsTurned, alone_turned, begun_as_it_was, still_joined, turning_turned}
use Rattle.tab_turns.specs.Ending.{HasEnded, is_through}
use Rattle.tab_turns.specs.Turning.{IsTurning, LeavesAlone}
use Rattle.tab_passes.proofs.Passings.{IsTab}
use Rattle.log_model.specs.declared.change.Change.TheVariants as changes
use Rattle.log_model.specs.declared.made.What.TheVariants as whats
use Rattle.log_model.specs.declared.request.Request.TheVariants as requests
use Rattle.log_model.specs.declared.row_kind.RowKind.TheVariants as rows

-- ---- used steps

more_best : (low high : ℕ) (steps : List ℕ) → low ≤ high → fold max low steps ≤ fold max high steps
more_best low high [] less = less
more_best low high (first ∷ steps) less = more_best (max low first) (max high first) steps (omega (arith, less))

low_used : (best step : ℕ) (steps : List ℕ) → fold max best (filter (λ used. nat_le used step) steps) ≤ fold max best steps
low_used best step [] = omega arith
low_used best step (first ∷ steps) =
    elim (cases_Bool (nat_le first step)) [
      | inl in_ ↦ rw in_ (low_used (max best first) step steps)
      | inr out ↦ rw out (let less = low_used best step steps in let more = more_best best (max best first) steps (omega arith) in omega (arith, less, more))
    ]

-- a used step is at most the greatest
used_low : (rows_ : List Row) (step : ℕ) → used_step_at rows_ step ≤ greatest_step rows_
used_low rows_ step = low_used 0 step (map (λ (row : Row). row.step.0) rows_)

-- ---- nobody loses entries

none_taken : (old new : History) (req : ReqId) (places : List Place) → new.rows ≡ old.rows → with_taker old new req places ≡ places
none_taken old new req [] same = refl
none_taken old new req (p ∷ places) same =
    rw same (rw (never (has_row p.nav old.rows)) (ap (λ (l : List Place). p ∷ l) (none_taken old new req places same)))
  where
    never : (b : Bool) → (b && not b) ≡ false
    never true = refl
    never false = refl

-- ---- the traversal that runs

pub record IsUnderWay (s : Seen) (req : ReqId) : Type 0 where
  pub q : Asked
  pub at : request_of s req ≡ Some q
  pub begun : q.is_started ≡ true
  pub open_ : q.ending ≡ None
  pub goes : is_traversal q.what ≡ true

pub runs_now : (loads : List ReqId) (hand : List Made) (s : Seen) (req : ReqId) → IsTab (Some req) loads hand s → IsUnderWay s req
runs_now loads hand s req tab =
    record {
      q = there.0;
      at = there.1;
      begun = first there.0.is_started (is_none there.0.ending) under;
      open_ = unended there.0.ending (second there.0.is_started (is_none there.0.ending) under);
      goes = second (is_under_way there.0) (is_traversal there.0.what) runs;
    }
  where
    there : (q : Asked) × (request_of s req ≡ Some q)
    there = runs_there s (Some req) tab.asked req refl

    runs : is_run there.0 ≡ true
    runs = tab.asked.only req there.0 there.1 ∙ nat_eq_refl req.0

    first : (a b : Bool) → (a && b) ≡ true → a ≡ true
    first true b e = refl
    first false b e = absurd cc

    second : (a b : Bool) → (a && b) ≡ true → b ≡ true
    second true b e = e
    second false b e = absurd cc

    under : is_under_way there.0 ≡ true
    under = first (is_under_way there.0) (is_traversal there.0.what) runs

    unended : {A : Type 0} (o : Option A) → is_none o ≡ true → o ≡ None
    unended None e = refl
    unended (Some x) e = absurd cc

go_changes_none : (what : What) → is_go what ≡ true → changes_history what ≡ false
go_changes_none (whats.Go delta) e = refl
go_changes_none (whats.Push entry memo address) e = absurd cc
go_changes_none (whats.Replace over entry memo address) e = absurd cc
go_changes_none (whats.AddFrame nav) e = absurd cc
go_changes_none (whats.RemoveFrame nav) e = absurd cc
go_changes_none whats.Edit e = absurd cc

module _ (p : InPass) (out : List RowKind) (t : Tables) (passing : IsPassing p out t) (turning : IsTurning p.event out) (req : ReqId) (ran : t.running ≡ Some req) (goal : Step) (goal_is : goal.0 ≡ aim_in (history_held t.store) t.running t.goal) where
  abbrev e : InEvent
  e = p.event

  abbrev s : Seen
  s = now_of e out

  going : IsGoing (Some req) p.loads p.hand s
  going = subst (λ (r : Option ReqId). IsGoing r p.loads p.hand s) ran passing.going

  tab : IsTab (Some req) p.loads p.hand s
  tab = going.tab

  its : IsUnderWay s req
  its = runs_now p.loads p.hand s req tab

  pub aim_here : goal.0 ≡ aim_of s
  aim_here =
      goal_is ∙ held_aim t.store s.history t.running t.goal passing.work.holds.history ∙ sym (aim_is s t.running passing.going.tab.asked t.goal passing.work.goal)

  queued : has_req s.joined req ≡ true
  queued = tab.queued req refl

  only : has_req s.parked req ≡ false
  only = (joined_unheld (Some req) p.loads p.hand s tab req queued).parked

  -- the aim is the step of its goal
  aim_used : aim_of s ≡ used_step_at s.history.rows t.goal.0
  aim_used =
      aim_is s t.running passing.going.tab.asked t.goal passing.work.goal ∙ ap (λ (r : Option ReqId). aim_in s.history r t.goal) ran

  low : goal.0 ≤ greatest_step s.history.rows
  low = let less = used_low s.history.rows t.goal.0 in let here = aim_here in let used = aim_used in omega (arith, less, here, used)

  pub step_is : used_step_at s.history.rows goal.0 ≡ aim_of s
  step_is =
      ap (λ (n : ℕ). used_step_at s.history.rows n) (aim_here ∙ aim_used) ∙ used_used s.history.rows t.goal.0 ∙ sym aim_used

  pub goal_aim : goal ≡ record { 0 = aim_of s }
  goal_aim = ap (λ (n : ℕ). let g : Step = record { 0 = n } in g) aim_here

  fit : fits s.history (changes.Traverse goal) ≡ true
  fit = le-leb goal.0 (greatest_step s.history.rows) low

  due_is : due_change s its.q ≡ Some (changes.Traverse goal)
  due_is = rw (its.begun) (by_what its.q.what its.goes ∙ ap (λ (g : Step). let o : Option Change = Some (changes.Traverse g) in o) (sym goal_aim))
    where
      by_what : (what : Request) → is_traversal what ≡ true → change_of_begun s its.q what ≡ Some (changes.Traverse (record { 0 = aim_of s }))
      by_what (requests.Go delta) is = refl
      by_what (requests.Poke nav action) is = refl
      by_what (requests.Reload nav) is = absurd cc
      by_what (requests.Load nav mode address) is = absurd cc

  pub end_may : MayChange s (changes.Traverse goal)
  end_may = record { fits = fit; numbers = low; room = (let few = count_few has_ended_ s.requests in let at = going.steps.current in let room = going.room in omega (arith, few, at, room)) }

  -- whether they stand tells whether it is through
  pub through_is : (b : Bool) → b ≡ are_settled (history_held t.store).rows goal.0 t.tree → b ≡ is_through s t.running
  through_is b is =
      is ∙ stand_is p out t passing goal.0 ∙ ap (λ (k : ℕ). all_stand s k) aim_here ∙ sym (ap (λ (r : Option ReqId). is_through s r) ran)

  module _ (standing : are_settled (history_held t.store).rows goal.0 t.tree ≡ true) where
    stand : all_stand s (aim_of s) ≡ true
    stand = ap (λ (n : ℕ). all_stand s n) (sym aim_here) ∙ sym (stand_is p out t passing goal.0) ∙ standing

    not_held : has_req (held_at_first e) req ≡ false
    not_held = by_test (has_req (held_at_first e) req) refl
      where
        by_test : (b : Bool) → has_req (held_at_first e) req ≡ b → b ≡ false
        by_test false is = refl
        by_test true is =
            let never : true ≡ false = sym its.goes ∙ turning.waits.apart req its.q is its.at in absurd cc

    pub end_due : IsEndDue e out req goal
    end_due =
        record {
          asked = its.q;
          due = record { at = its.at; open_ = its.open_; due = due_is; fit = fit; in_order = refl };
          traverses = its.goes;
          makes = λ made is. go_changes_none made.what (goes_of (wish its.q) (going.lasting.moves.goes req its.q its.at) made is its.goes);
          passed = tab.asked.passed req its.q its.at;
          stand = stand;
          unparked = only;
          first = by_either turning.waits.parked;
        }
      where
        by_either : (s.parked ≡ held_at_first e) ⊎ (s.parked ≡ []) → (s.parked ≡ held_at_first e) ⊎ ((s.parked ≡ []) × (has_req (held_at_first e) req ≡ false))
        by_either (inl same) = inl same
        by_either (inr none) = inr (none, not_held)

    -- ---- it has ended

    module _ (more : List RowKind) (u : Tables) (out_is : more ≡ out ++ rows.Applied req (changes.Traverse goal) ∷ []) (work : IsAtWork e more u) (none_runs : u.running ≡ None) (keep : u.kept.keep ≡ t.kept.keep) where
      abbrev n : Seen
      n = next s e.event e.actor (rows.Applied req (changes.Traverse goal))

      now : now_of e more ≡ n
      now = now_at e out (rows.Applied req (changes.Traverse goal)) more out_is work.goes

      tab_then : IsTab None p.loads p.hand n
      tab_then = ended_tab p.loads p.hand s e.event e.actor req tab its.q goal its.at fit

      going_then : IsGoing None p.loads p.hand n
      going_then =
          traversed_going (Some req) p.loads p.hand s e.event e.actor going req its.q its.at its.open_ goal p.loads p.hand tab_then (traversed_lasting s e.event e.actor going.lasting req goal)

      turned : IsTurned s n
      turned =
          record {
            documents = map-id s.documents;
            places = none_taken s.history (applied s.history (changes.Traverse goal)) req s.places refl;
            rows_ = refl;
            desks = refl;
            kept = refl;
            parked = without_same s.parked req only;
            wishes = applied_wishes s e.event e.actor req (changes.Traverse goal);
            begun = begun_as_it_was s.requests n.requests (applied_reads course_of s.requests req (changes.Traverse goal) (entries_taken s.history (changes.Traverse goal)) (λ q. refl) (λ q. refl) (λ q. refl));
          }

      loose_then : IsLoose e more
      loose_then =
          subst (λ (l : List RowKind). IsLoose e l) (sym out_is)
          (loose_more e out (rows.Applied req (changes.Traverse goal)) (last_goes e out (rows.Applied req (changes.Traverse goal)) _ out_is work.goes).read (passing.loose stand) (applied_lasts s e.event e.actor req (changes.Traverse goal)) (λ end on. refl))

      -- whom requests leave was asked still, as no other traversal is under way
      ended_duly : AreLeftDuly (log_of e more)
      ended_duly =
          duly_then e out (rows.Applied req (changes.Traverse goal)) more out_is
          (bare_alone_duly e.checking (log_of e out) e.event e.actor passing.duly req (changes.Traverse goal) tt (subst (λ (x : Seen). fits x.history (changes.Traverse goal) ≡ true) (now_is e out) fit)
          (alone_log e.checking (log_of e out) (passing.work.unheld turning.free) passing.work.checks.numbered req (Some req) (subst (λ (x : Seen). OnlyRuns (Some req) x) (now_is e out) tab.asked.only) (λ r is. same r is)))
        where
          same : (r : ReqId) → is_this (Some req) r ≡ true → (r.0 == req.0) ≡ true
          same r is = grind (arith, nat_tests, is)

      pub end_passing : IsPassing p more u
      end_passing =
          record {
            work = work;
            going = subst (λ (x : Seen). IsGoing u.running p.loads p.hand x) (sym now) (subst (λ (r : Option ReqId). IsGoing r p.loads p.hand n) (sym none_runs) going_then);
            owed = loose_owed e more loose_then;
            loose = λ all. loose_then;
            rests = subst (λ (x : Seen). AllRest x) (sym now) (applied_rests s e.event e.actor [] passing.rests req (changes.Traverse goal));
            duly = ended_duly;
            few = subst (λ (k : ℕ). length (now_of e more).kept ≤ k) (sym keep) (subst (λ (l : List DocId). length l ≤ t.kept.keep) (sym (ap (λ (x : Seen). x.kept) now)) passing.few);
          }

      pub end_turning : IsTurning e more
      end_turning = turning_turned e out more n now turned (λ r has. still_joined req r s.joined has) turning

      pub has_ended : HasEnded e out more t u
      has_ended =
          record {
            req = req;
            ran = ran;
            out = out_is ∙ ap (λ (g : Step). out ++ rows.Applied req (changes.Traverse g) ∷ []) goal_aim;
            goes = work.goes;
            none_runs = none_runs;
            keep = keep;
            current = ap (λ (x : Seen). x.history.current) now ∙ step_is;
            aim = ap aim_of now ∙ aim_is n None tab_then.asked goal (λ r q never found. absurd (let no_ : None ≡ Some r = never in cc)) ∙ step_is;
            alone = subst (λ (x : Seen). LeavesAlone s x) (sym now) (alone_turned s n turned None tab_then.asked);
            joined = ap (λ (x : Seen). x.joined) now;
          }
