-- The event is cut where the load has begun and asked: what is known of checks and prompts is so anew, and its navigable stands.
use Rattle.asking_facts.proofs.ApartDue.{due_apart}
use Rattle.asking_facts.proofs.Begun as block
use Rattle.asking_facts.proofs.Known.{known_begun}
use Rattle.asking_facts.proofs.NotesOver.{begun_notes}
use Rattle.asking_facts.proofs.Sent.{when_asked}
use Rattle.asking_facts.specs.Asking.{AreQuestions, begun_asking, checks_begun, new_asking}
use Rattle.asking_facts.specs.Known.{AskingKnown}
use Rattle.asking_facts.specs.Prompting.{NotesWanted}
use Rattle.checking_facts.proofs.Grown.{req_same}
use Rattle.load_asked.proofs.Begins as may
use Rattle.load_asked.proofs.Works as works
use Rattle.load_asked.specs.Beginning.{IsToBegin, due_of, then_begun, what_of}
use Rattle.log_model.specs.After.{after}
use Rattle.log_model.specs.Equal.{holds}
use Rattle.log_model.specs.Places.{aim_of, is_below_known_lost, is_placed, way_to}
use Rattle.log_model.specs.Seen.{Asked, Place, Seen, place_of, request_of}
use Rattle.log_model.specs.Soundness.{IsSound}
use Rattle.log_model.specs.declared.job.Job.{Job}
use Rattle.log_model.specs.declared.row_kind.RowKind.TheVariants as rows
use Rattle.log_model.specs.declared.row_kind.RowKind.{RowKind}
use Rattle.seen_facts.specs.Hang.Hanging.{Hangs}
use Rattle.seen_facts.specs.Home.Homes.{AreHomed}
use Rattle.seen_facts.specs.LoadEnds.Standing.{is_reached}
use Rattle.seen_laws.proofs.Cuts.{log_cut}
use Rattle.seen_laws.specs.InEvent.{InEvent, log_of, now_of, row_of}
use Rattle.std.proofs.Common.{Bool, List, None, Option, Some, [], ap, false, inr, map, not, refl, subst, sym, true, ◌&&◌, ◌==◌, ◌∙◌, ◌∷◌, ◌≡◌, ◌⊎◌}
use Rattle.std.specs.List.{list_all}
use Rattle.std.specs.Option.{option_map_or}
use Rattle.std.specs.Prelude.{option_map}
use Rattle.tab_asks.specs.Asks.{HasBegunCheck}
use Rattle.tab_doors.specs.declared.tables.Tables.{Tables}
use Rattle.tab_facts.proofs.Calm.Awakes.{lost_none}
use Rattle.tab_facts.specs.TabWhole.Tab.{IsTab}
use Rattle.tab_ids.specs.declared.ReqId.{ReqId}
use Rattle.tab_loads.specs.Asking.{InLoad}
use Rattle.tab_prompts.proofs.Tables.{GoesAt, goes_told}
use Rattle.tab_prompts.proofs.Waits.{waited_before}
use Rattle.tab_prompts.specs.Asking.{BeginsAsked, WasOpen, are_unheard, told_all}
use Rattle.tab_prompts.specs.Prompts.{is_open, is_waiting}
use Rattle.unload_check.proofs.Stays.{others_begun}
use Rattle.unload_check.specs.Checks.{OpenCheck, check_of, outcome_of}

some_same : {A : Type 0} {a b : A} → (let o : Option A = Some a in o) ≡ Some b → a ≡ b
some_same is = cc

-- no answer to a question just sent was heard
new_unheard : (jobs : List Job) → are_unheard (map new_asking jobs) ≡ true
new_unheard [] = refl
new_unheard (job ∷ jobs) = new_unheard jobs

-- no order was just finished
sent_finished : (e : InEvent) (s : Seen) (jobs : List Job) → s.just_finished ≡ None → (when_asked e s jobs).just_finished ≡ None
sent_finished e s [] none = none
sent_finished e s (job ∷ jobs) none = sent_finished e (after s (row_of e (rows.Sent job))) jobs refl

module _ (l : InLoad) (t : Tables) (due : IsToBegin l t) (jobs : List Job) (are : AreQuestions (log_of l.event []) l.req (due_of l) jobs) (mid : Tables) (is : HasBegunCheck l.event.ran [] l.req (due_of l) t mid) where
  abbrev e : InEvent
  e = l.event

  abbrev s : Seen
  s = now_of e []

  abbrev log : Seen
  log = log_of e []

  abbrev rows_ : List RowKind
  rows_ = begun_asking l.req None jobs

  abbrev then_ : InEvent
  then_ = then_begun l jobs

  abbrev own : Asked
  own = may.own l t due

  abbrev asked_log : Seen
  asked_log = block.then_ e log l.req None (due_of l) jobs own (may.begins_to_ask l t due) are

  there : log_of then_ [] ≡ asked_log
  there = log_cut e rows_ then_.checking then_.due ∙ block.block_log e [] l.req None jobs

  at_then : (P : Seen → Type 0) → P asked_log → P (log_of then_ [])
  at_then P holds_ = subst P (sym there) holds_

  tab : IsTab t.running (l.req ∷ l.loads) [] s
  tab = due.ready.passing.going.tab

  pub known_then : AskingKnown (log_of (then_begun l jobs) [])
  known_then =
      subst AskingKnown (sym (log_cut e rows_ then_.checking then_.due))
      (known_begun e [] l.req None (due_of l) jobs own (may.begins_to_ask l t due) are (due_apart log e.checking (may.at_bare l t due (λ (x : Seen). IsSound x.history) tab.sound) (may.at_bare l t due Hangs tab.hangs) (may.at_bare l t due AreHomed tab.homes).homed (what_of l) None) due.known)

  -- ---- the table of checks

  abbrev told : List (ReqId × OpenCheck)
  told = told_all e.ran t.checks []

  abbrev table : List (ReqId × OpenCheck)
  table = checks_begun (record { checks = t.checks; run = e.ran }) l.req (due_of l)

  waiting_other : (r : ReqId) → (r.0 == l.req.0) ≡ false → is_waiting table r ≡ true → is_waiting t.checks r ≡ true
  waiting_other r apart waits =
      waited_before e.ran t.checks r [] (sym (ap (λ (o : Option OpenCheck). option_map_or is_open (option_map outcome_of o) false) (others_begun l.req _ told r apart)) ∙ waits)

  opens : (r : ReqId) (q : Asked) → request_of asked_log r ≡ Some q → is_waiting table r ≡ true → WasOpen e.start r ⊎ (are_unheard q.asks ≡ true)
  opens r q at waits = by_number (r.0 == l.req.0) refl
    where
      by_number : (b : Bool) → (r.0 == l.req.0) ≡ b → WasOpen e.start r ⊎ (are_unheard q.asks ≡ true)
      by_number true same =
          let it : r ≡ l.req = req_same r l.req same in
          let one : block.asked_one e log l.req None (due_of l) jobs own (may.begins_to_ask l t due) are ≡ q = some_same (sym (block.then_own e log l.req None (due_of l) jobs own (may.begins_to_ask l t due) are) ∙ ap (λ (x : ReqId). request_of asked_log x) (sym it) ∙ at) in
          inr (ap (λ (x : Asked). are_unheard x.asks) (sym one) ∙ new_unheard jobs)
      by_number false apart =
          due.begins.opens r q (sym (block.then_other e log l.req None (due_of l) jobs own (may.begins_to_ask l t due) are r apart) ∙ at) (waiting_other r apart waits)

  nobody : (r : ReqId) → request_of asked_log r ≡ None → check_of r table ≡ None
  nobody r none = by_number (r.0 == l.req.0) refl
    where
      by_number : (b : Bool) → (r.0 == l.req.0) ≡ b → check_of r table ≡ None
      by_number true same =
          let never : (let o : Option Asked = None in o) ≡ Some _ = sym none ∙ ap (λ (x : ReqId). request_of asked_log x) (req_same r l.req same) ∙ block.then_own e log l.req None (due_of l) jobs own (may.begins_to_ask l t due) are in
          absurd cc
      by_number false apart =
          others_begun l.req _ told r apart
          ∙ subst (λ (o : Option OpenCheck). GoesAt o (check_of r told)) (due.begins.there r (sym (block.then_other e log l.req None (due_of l) jobs own (may.begins_to_ask l t due) are r apart) ∙ none)) (goes_told e.ran t.checks r [])

  at_table : (P : List (ReqId × OpenCheck) → Type 0) → P table → P mid.checks
  at_table P holds_ = subst P (sym is.checks) holds_

  pub begins_then : BeginsAsked (then_begun l jobs) mid.checks
  begins_then =
      record {
        asked = (works.work_then l t due jobs are mid is).asked;
        calm = (works.work_then l t due jobs are mid is).calm;
        notes = at_table (λ c. NotesWanted (log_of then_ []) c) (at_then (λ x. NotesWanted x table) (begun_notes e e.checking e.start log (record { checks = t.checks; run = e.ran }) due.begins.asked l.req None (due_of l) jobs own (may.begins_to_ask l t due) are (may.some l t due) due.asks.outside due.begins.notes));
        unanswered = known_then.unanswered;
        opens = at_table (λ c. (r : ReqId) (q : Asked) → request_of (log_of then_ []) r ≡ Some q → is_waiting c r ≡ true → WasOpen e.start r ⊎ (are_unheard q.asks ≡ true)) (at_then (λ x. (r : ReqId) (q : Asked) → request_of x r ≡ Some q → is_waiting table r ≡ true → WasOpen e.start r ⊎ (are_unheard q.asks ≡ true)) opens);
        there = at_table (λ c. (r : ReqId) → request_of (log_of then_ []) r ≡ None → check_of r c ≡ None) (at_then (λ x. (r : ReqId) → request_of x r ≡ None → check_of r table ≡ None) nobody);
        finished = at_then (λ x. x.just_finished ≡ None) (sent_finished e (after log (row_of e (rows.Started l.req None))) jobs refl);
      }

  -- ---- its navigable stands

  abbrev place : Place
  place = due.came.anew.place

  unlost : holds (λ (p : Place). not (is_below_known_lost s p)) (place_of s l.nav) ≡ true
  unlost =
      ap (λ (o : Option Place). holds (λ (p : Place). not (is_below_known_lost s p)) o) due.came.anew.there
      ∙ ap not (lost_none s tab.standing place.above)

  reached_now : is_reached s l.nav ≡ true
  reached_now = let both_ : (list_all (is_placed s (aim_of s)) (way_to s l.nav) && holds (λ (p : Place). not (is_below_known_lost s p)) (place_of s l.nav)) ≡ true = rw (due.came.anew.placed, unlost) refl in both_

  pub reached_then : is_reached (now_of (then_begun l jobs) []) l.nav ≡ true
  reached_then = ap (λ (x : Seen). is_reached x l.nav) (works.seen l t due jobs are mid is) ∙ reached_now
