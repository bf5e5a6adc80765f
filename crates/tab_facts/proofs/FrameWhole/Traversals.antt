-- All that holds between two rows holds after the traversal that runs ends, where all stand at its goal.
use Rattle.seen_facts.proofs.Coord.Held.{held_alike, without_same}
use Rattle.seen_facts.proofs.Coord.Traversed as past  -- keep
use Rattle.seen_facts.proofs.Coord.Unread.{next}
use Rattle.seen_facts.proofs.Coord.Whose.{had_status, whose_same}
use Rattle.seen_facts.proofs.Coord.Within.{within_more}
use Rattle.seen_facts.proofs.Coord.WithinLeft.{each_unread}
use Rattle.seen_facts.proofs.Coord.WithinRows.{as_far}
use Rattle.seen_facts.specs.Coord.Leading.{held_back}
use Rattle.tab_facts.proofs.FrameTab.Traversing.{applied_made, traversed_framed}
use Rattle.tab_facts.specs.FrameTab.Desks.{waiting}
use Rattle.tab_facts.proofs.FrameWhole.Aiming.{aim_running, given_there, used_used}
use Rattle.tab_facts.proofs.FrameWhole.Ending.{carried_off, no_load, reqs_of, some_times}
use Rattle.tab_facts.proofs.FrameWhole.FlowsAlike.{IfIn, WithinHand, if_again, within_if}
use Rattle.tab_facts.specs.FrameWhole.Tab.{IsTab}
use Rattle.tab_facts.specs.FrameWhole.Untold.{FlowsIf}
use Rattle.seen_facts.proofs.Rest.Kept.{applied_kept}  -- keep
use Rattle.seen_facts.proofs.Hang.Rows.{applied_hangs}
use Rattle.seen_facts.proofs.Home.Changed.{traversed_homed}
use Rattle.log_model.specs.Equal.{has_req}
use Rattle.log_model.specs.History.{History, fits, used_step_at}
use Rattle.log_model.specs.Once.{change_of_begun, due_change}
use Rattle.log_model.specs.Places.{aim_of, all_stand, is_given_target, is_traversal}
use Rattle.log_model.specs.Seen.{Asked, Seen, request_in, request_of}
use Rattle.log_model.specs.Soundness.{IsSound}
use Rattle.log_model.specs.declared.change.Change.{Change}
use Rattle.log_model.specs.declared.made.Made.{Made}
use Rattle.log_model.specs.declared.request.Request.{Request}
use Rattle.log_model.specs.declared.row_kind.Actor.{Actor}
use Rattle.seen_facts.proofs.Request.Endings.{applied_once, due_small}
use Rattle.seen_facts.proofs.Request.KnownEnded.{applied_known}
use Rattle.seen_facts.proofs.Request.Times.{times_none}
use Rattle.seen_facts.specs.Request.Whereabouts.{AreOnce, times, times_at}
use Rattle.seen_facts.proofs.Rest.Again.{old_states}
use Rattle.seen_facts.proofs.Rest.Taken.{applied_rests}
use Rattle.seen_laws.proofs.Sums.{over}
use Rattle.std.proofs.Common.{Bool, List, None, Option, Some, ap, arith, false, inl, refl, subst, sym, true, ℕ, ◌++◌, ◌+◌, ◌<◌, ◌∙◌, ◌≡◌}
use Rattle.std.specs.Prelude.{is_some}
use Rattle.tab_ids.specs.declared.NavId.{NavId}
use Rattle.tab_ids.specs.declared.ProcId.{ProcId}
use Rattle.tab_ids.specs.declared.ReqId.{ReqId}
use Rattle.tab_ids.specs.declared.Step.{Step}
use Rattle.seen_facts.proofs.Transit.Applied.{applied_ways}
use Rattle.log_model.specs.declared.change.Change.TheVariants as changes
use Rattle.log_model.specs.declared.request.Request.TheVariants as requests
use Rattle.log_model.specs.declared.row_kind.RowKind.TheVariants as rows
use Rattle.log_model.specs.Places.{is_under_way}
use Rattle.seen_facts.specs.Each.Runs.{is_run}
use Rattle.std.proofs.Common.{◌&&◌, ◌==◌}
use Rattle.std.proofs.lemmas.Bool.Decides.{nat_tests}
use Rattle.std.specs.Prelude.{is_none}

-- ---- what leads on

-- what waits is as it was where a request is applied that isn't held back
pub applied_waits : (s : Seen) (event : ℕ) (actor : Actor) (hand : List Made) (req : ReqId) (change : Change) → has_req s.parked req ≡ false → waiting (next s event actor (rows.Applied req change)) hand ≡ waiting s hand
applied_waits s event actor hand req change unparked =
    ap (λ (l : List ReqId). held_back (next s event actor (rows.Applied req change)).requests l ++ hand) (without_same s.parked req unparked)
    ∙ ap (λ (l : List Made). l ++ hand) (held_alike s.requests (next s event actor (rows.Applied req change)).requests s.parked (applied_made s event actor req change))

module _ (s : Seen) (event : ℕ) (actor : Actor) (hand : List Made) (req : ReqId) (goal : Step) (unparked : has_req s.parked req ≡ false) where
  abbrev pub traversed : Seen
  traversed = next s event actor (rows.Applied req (changes.Traverse goal))

  waits : waiting traversed hand ≡ waiting s hand
  waits = applied_waits s event actor hand req (changes.Traverse goal) unparked

  pub traversed_if : FlowsIf hand s → FlowsIf hand traversed
  traversed_if is =
      record {
        leads = if_again s traversed hand hand refl waits (past.traversed_stays s event actor req goal (IfIn hand s) is.leads);
        whose = whose_same s traversed (past.documents_as s event actor req goal) (had_status s traversed (past.stood s event actor req goal)) is.whose;
        reaches = past.traversed_reach s event actor req goal is.reaches;
        within =
            within_if s traversed hand hand waits
            (each_unread (WithinHand hand s) s traversed (past.documents_as s event actor req goal) (λ nav place placed. as_far s nav place (past.stood s event actor req goal nav place placed)) (λ desk d m n more was. within_more (waiting s hand) desk d m n more was) (λ d bound was. was) is.within);
      }

-- ---- the row

-- a history at another step is as sound
pub sound_at : (history : History) (current : ℕ) (added : List NavId) → IsSound history → IsSound (record { rows = history.rows; current = current; added = added })
sound_at history current added sound =
    record {
      entries = sound.entries;
      steps = sound.steps;
      rooted = sound.rooted;
      top_row = sound.top_row;
      anchored = sound.anchored;
    }

-- who is in the queue is neither held back nor at hand
pub queued_only : (home : ProcId) (run : Option ReqId) (hand : List Made) (s : Seen) (req : ReqId) → IsTab home run hand s → has_req s.joined req ≡ true → (has_req s.parked req ≡ false) × (has_req (reqs_of hand) req ≡ false)
queued_only home run hand s req tab joined = (times_none req s.parked parked, times_none req (reqs_of hand) held)
  where
    low : over (times_at req) s.desks + (times req s.joined + (times req s.parked + times req (reqs_of hand))) < 2
    low =
        subst (λ (n : ℕ). n < 2) (sym (tab.once req (no_load home run hand s req tab.framed))) (due_small (request_in s.requests req))

    parked : times req s.parked ≡ 0
    parked = omega (arith, low, some_times req s.joined joined)

    held : times req (reqs_of hand) ≡ 0
    held = omega (arith, low, some_times req s.joined joined)

-- the change is the one that the request asks for: to the aim
aimed_by : (s : Seen) (q : Asked) (goal : Step) → is_traversal q.what ≡ true → due_change s q ≡ Some (changes.Traverse goal) → goal.0 ≡ aim_of s
aimed_by s q goal goes due = by_begun q.is_started refl
  where
    same_goal : (a b : Step) → (let o : Option Change = Some (changes.Traverse a) in o) ≡ Some (changes.Traverse b) → a ≡ b
    same_goal a b e = cc

    by_what : (what : Request) → is_traversal what ≡ true → change_of_begun s q what ≡ Some (changes.Traverse (record { 0 = aim_of s }))
    by_what (requests.Go delta) e = refl
    by_what (requests.Poke nav action) e = refl
    by_what (requests.Reload nav) e = absurd cc
    by_what (requests.Load nav mode address) e = absurd cc

    by_begun : (b : Bool) → q.is_started ≡ b → goal.0 ≡ aim_of s
    by_begun true e =
        let due_is : due_change s q ≡ change_of_begun s q q.what = rw e refl in
        ap (λ (g : Step). g.0) (same_goal goal (record { 0 = aim_of s }) (sym due ∙ due_is ∙ by_what q.what goes))
    by_begun false e =
        let none : due_change s q ≡ None = rw e (rw goes refl) in
        let never : None ≡ Some (changes.Traverse goal) = sym none ∙ due in absurd cc

module _ (home : ProcId) (hand : List Made) (s : Seen) (event : ℕ) (actor : Actor) (req : ReqId) (tab : IsTab home (Some req) hand s) (q : Asked) (goal : Step) (there : request_of s req ≡ Some q) (due : due_change s q ≡ Some (changes.Traverse goal)) (fit : fits s.history (changes.Traverse goal) ≡ true) (queued : has_req s.joined req ≡ true) (stand : all_stand s (aim_of s) ≡ true) where
  abbrev pub gone : Seen
  gone = next s event actor (rows.Applied req (changes.Traverse goal))

  only : (has_req s.parked req ≡ false) × (has_req (reqs_of hand) req ≡ false)
  only = queued_only home (Some req) hand s req tab queued

  -- it runs
  runs : is_run q ≡ true
  runs = tab.framed.asked.only req q there ∙ (let itself : (req.0 == req.0) ≡ true = grind (arith, nat_tests) in itself)

  begun : q.is_started ≡ true
  begun = first (q.is_started) (is_none q.ending) (first (is_under_way q) (is_traversal q.what) runs)
    where
      first : (a b : Bool) → (a && b) ≡ true → a ≡ true
      first true b e = refl
      first false b e = absurd cc

  goes : is_traversal q.what ≡ true
  goes = second (is_under_way q) (is_traversal q.what) runs
    where
      second : (a b : Bool) → (a && b) ≡ true → b ≡ true
      second true b e = e
      second false b e = absurd cc

  -- the step is the aim
  step_is : used_step_at s.history.rows goal.0 ≡ aim_of s
  step_is = by_goal q.goal refl (((tab.framed.asked.each req q there).goal) begun)
    where
      by_goal : (o : Option Step) → q.goal ≡ o → is_some o ≡ true → used_step_at s.history.rows goal.0 ≡ aim_of s
      by_goal None e some = absurd cc
      by_goal (Some end) e some =
          let aim : aim_of s ≡ used_step_at s.history.rows end.0 = aim_running s req q end tab.framed.asked there e in
          ap (λ (n : ℕ). used_step_at s.history.rows n) (aimed_by s q goal goes due ∙ aim) ∙ used_used s.history.rows end.0 ∙ sym aim

  pub ended_tab : IsTab home None hand gone
  ended_tab =
      record {
        framed = traversed_framed home hand s event actor req tab.framed goal only.0 (λ nav place doc placed wakes has. subst (λ (n : ℕ). is_given_target s.history.rows n place ≡ true) (sym step_is) (given_there home (Some req) hand s tab (aim_of s) stand nav place placed has));
        sound = sound_at s.history (used_step_at s.history.rows goal.0) s.history.added tab.sound;
        hangs = applied_hangs s event actor req tab.sound tab.hangs (changes.Traverse goal) fit tt;
        homes = traversed_homed s event actor req tab.homes goal;
        kept = applied_kept s event actor tab.kept req (changes.Traverse goal) tt;
        ways = applied_ways s event actor req (changes.Traverse goal) tab.ways;
        rests = applied_rests s event actor tab.rests req (changes.Traverse goal) (old_states s gone refl);
        flows = traversed_if s event actor hand req goal only.0 tab.flows;
        once = subst (λ (l : List ReqId). AreOnce gone l) (without_same (reqs_of hand) req only.1) (applied_once s (reqs_of hand) event req actor (changes.Traverse goal) (λ loads. carried_off home (Some req) hand s req tab (inl queued)) tab.once);
        known = applied_known s event req (carried_off home (Some req) hand s req tab (inl queued)) tab.known actor (changes.Traverse goal);
      }
