-- The report of a fragment order is delivered, and what its document made is applied.
use Rattle.row_facts.proofs.LeaveRows.Lists.{or_right}
use Rattle.row_facts.specs.LeaveRows.Fragments.{IsFragmentMade}
use Rattle.row_facts.specs.FrameRows.Taking.{IsDueNow, IsFree, IsTakenNow}
use Rattle.row_facts.specs.FrameRows.Discarding.{SettlesNone}
use Rattle.log_model.proofs.Refl.{nat_eq_refl, same_change_refl}
use Rattle.log_model.specs.ActsAtOnce.{is_applied_in_time}
use Rattle.log_model.specs.AfterRequests.{changes_history, made_of_report}
use Rattle.log_model.specs.Checks.{is_checked}
use Rattle.log_model.specs.Equal.{has_req, holds}
use Rattle.log_model.specs.Events.{Point}
use Rattle.log_model.specs.History.{owner_of}
use Rattle.log_model.specs.Once.{change_of_made, change_of_report, due_change}
use Rattle.log_model.specs.Points.{is_taken_up_in, taken_report}
use Rattle.log_model.specs.Queue.{is_delivered_duly, is_jump, is_load_step, is_taken_up_at_once, is_traverse, is_traversed_duly}
use Rattle.log_model.specs.Seen.{Asked, Document, Seen, desk_of, document_of}
use Rattle.log_model.specs.declared.change.Change.{Change}
use Rattle.log_model.specs.declared.header.Header.{Header}
use Rattle.log_model.specs.declared.job.Job.{Job}
use Rattle.log_model.specs.declared.made.Made.{Made}
use Rattle.log_model.specs.declared.made.What.{What}
use Rattle.log_model.specs.declared.row_kind.Actor.{Actor}
use Rattle.log_model.specs.declared.row_kind.LogRow.{LogRow}
use Rattle.seen_laws.proofs.Applyings.{applied_row}
use Rattle.seen_laws.proofs.Deliveries.{delivered_may, delivered_row}
use Rattle.seen_laws.proofs.Sendings.{both, led_follows}
use Rattle.seen_laws.proofs.Startings.{implied}
use Rattle.seen_laws.specs.Blocks.{Here, MayLog, Passes, point_at}
use Rattle.seen_laws.specs.InEvent.{Anything}
use Rattle.seen_laws.specs.Sending.{is_led}
use Rattle.std.proofs.Common.{Bool, List, None, Option, Some, [], cond, false, refl, sym, true, ℕ, ◌==◌, ◌∙◌, ◌∷◌, ◌≡◌}
use Rattle.std.specs.List.{list_any}
use Rattle.std.specs.Prelude.{option_and_then, slice_get}
use Rattle.tab_ids.specs.declared.ProcId.{ProcId}
use Rattle.tab_ids.specs.declared.ReqId.{ReqId}
use Rattle.tab_ids.specs.declared.StateId.{StateId}
use Rattle.tab_ids.specs.declared.Step.{Step}
use Rattle.log_model.specs.declared.change.Change.TheVariants as changes
use Rattle.log_model.specs.declared.made.Report.TheVariants as reports
use Rattle.log_model.specs.declared.made.What.TheVariants as whats
use Rattle.log_model.specs.declared.outcome.Outcome.TheVariants as outcomes
use Rattle.log_model.specs.declared.row_kind.RowKind.TheVariants as rows

-- ---- the report is delivered

-- an event that begins
abbrev pub anew : Header → Seen → Here
anew header s = record { header = header; start = s; now = s; done = [] }

module _ (header : Header) (s : Seen) (event : ℕ) (proc : ProcId) (job : Job) (made : Made) (first : slice_get (desk_of s proc).reports 0 ≡ Some (reports.Done job outcomes.Fragmented (Some made))) (settles : SettlesNone s (delivered_row event proc)) where
  -- a later row of the event takes it up
  pub fragment_delivered_may : MayLog (anew header s) (delivered_row event proc ∷ []) (λ later. list_any (is_taken_up_in made.req) later ≡ true)
  fragment_delivered_may later taken =
      delivered_may (anew header s) event proc (reports.Done job outcomes.Fragmented (Some made)) refl first settles later duly
    where
      duly : is_delivered_duly (point_at (anew header s) later) (delivered_row event proc) ≡ true
      duly = rw first (rw taken (implied (is_taken_up_at_once s made) refl))

  -- where it isn't to be taken up at once, nothing is asked
  pub fragment_held_may : is_taken_up_at_once s made ≡ false → MayLog (anew header s) (delivered_row event proc ∷ []) Anything
  fragment_held_may held later rest =
      delivered_may (anew header s) event proc (reports.Done job outcomes.Fragmented (Some made)) refl first settles later duly
    where
      duly : is_delivered_duly (point_at (anew header s) later) (delivered_row event proc) ≡ true
      duly = rw first (rw held refl)

-- ---- what the document made is applied

-- of what is made comes no traversal
no_traversal : (s : Seen) (d : Document) (what : What) (goal : Step) → change_of_made s d what ≡ Some (changes.Traverse goal) → ⊥
no_traversal s d (whats.Push entry memo address) goal is = cc
no_traversal s d (whats.Replace over entry memo address) goal is = cc
no_traversal s d (whats.AddFrame nav) goal is = cc
no_traversal s d (whats.RemoveFrame nav) goal is = by_test (holds (λ (owner : StateId). owner.0 == d.state.0) (owner_of nav s.history.rows)) is
  where
    by_test : (b : Bool) → (let o : Option Change = cond b (Some (changes.RemoveFrame nav)) None in o) ≡ Some (changes.Traverse goal) → ⊥
    by_test true is = cc
    by_test false is = cc
no_traversal s d (whats.Go delta) goal is = cc
no_traversal s d whats.Edit goal is = cc

reports_none : (s : Seen) (q : Asked) (goal : Step) → change_of_report s q ≡ Some (changes.Traverse goal) → ⊥
reports_none s q goal is = by_made q.made is
  where
    by_document : (made : Made) (o : Option Document) → (let c : Option Change = option_and_then (λ d. change_of_made s d made.what) o in c) ≡ Some (changes.Traverse goal) → ⊥
    by_document made None is = cc
    by_document made (Some d) is = no_traversal s d made.what goal is

    by_made : (o : Option Made) → (let c : Option Change = option_and_then (λ (made : Made). option_and_then (λ d. change_of_made s d made.what) (document_of s made.doc)) o in c) ≡ Some (changes.Traverse goal) → ⊥
    by_made None is = cc
    by_made (Some made) is = by_document made (document_of s made.doc) is

-- so it needn't be one that ends
untraversed : (p : Point) (s : Seen) (q : Asked) (change : Change) → change_of_report s q ≡ Some change → is_traversed_duly p change ≡ true
untraversed p s q (changes.Traverse goal) is = elim (reports_none s q goal is) [ ]
untraversed p s q (changes.Push nav entry state address memo) is = refl
untraversed p s q (changes.Replace nav over entry state address memo) is = refl
untraversed p s q (changes.AddFrame owner nav entry state) is = refl
untraversed p s q (changes.RemoveFrame nav) is = refl
untraversed p s q (changes.Reload nav) is = refl
untraversed p s q changes.Edit is = refl

-- the event takes the report
pub taken_now : (h : Here) (row own : LogRow) (done : List LogRow) (proc : ProcId) (job : Job) (made : Made) → h.done ≡ own ∷ done → own.row ≡ rows.Delivered proc → slice_get (desk_of h.start proc).reports 0 ≡ Some (reports.Done job outcomes.Fragmented (Some made)) → IsTakenNow h row made
taken_now h row own done proc job made begins takes tells later =
    rw begins (rw takes (rw tells (rw (nat_eq_refl made.req.0) refl)))

-- or it was held back as the event began, and a traversal was applied since
pub unparked_now : (h : Here) (row : LogRow) (made : Made) → has_req h.start.parked made.req ≡ true → list_any is_traverse h.done ≡ true → IsTakenNow h row made
unparked_now h row made parked traversed later =
    or_right (holds (λ (taken : Made). taken.req.0 == made.req.0) (option_and_then made_of_report (taken_report (point_at h later) row))) (both parked traversed)

-- what isn't held back may end
pub free_now : (h : Here) (req : ReqId) → has_req h.now.parked req ≡ false → IsFree h req
free_now h req unparked = rw unparked refl

pub fragment_applied_may : (h : Here) (event : ℕ) (actor : Actor) (req : ReqId) (q : Asked) (made : Made) (change : Change) → is_led h.done ≡ true → IsDueNow h.now req q change → IsFragmentMade h.now q made → IsFree h req → IsTakenNow h (applied_row event actor req change) made → MayLog h (applied_row event actor req change ∷ []) Anything
fragment_applied_may h event actor req q made change led due is free taken later rest = (passes, tt)
  where
    p : Point
    p = point_at h later

    row : LogRow
    row = applied_row event actor req change

    reported : change_of_report h.now q ≡ Some change
    reported =
        let own : due_change h.now q ≡ change_of_report h.now q = rw is.unstarted (rw is.what refl) in sym own ∙ due.due

    traversed : is_traversed_duly p change ≡ true
    traversed = untraversed p h.now q change reported

    jump : is_jump h.now q ≡ true
    jump = rw is.makes (rw is.at_once (implied (changes_history made.what) refl))

    step : is_load_step h.now q ≡ true
    step = rw is.unstarted refl

    in_time : is_applied_in_time p row q ≡ true
    in_time = rw is.unstarted (rw is.makes (rw is.changes (rw (taken later) refl)))

    passes : Passes h.header p row
    passes =
        record {
          formed = both (led_follows h.done p row refl led refl) (rw due.at refl);
          once = rw due.at (rw due.open_ (both (both due.fit (rw due.due (same_change_refl change))) due.in_order));
          caused = refl;
          queued = both (both free traversed) (rw due.at (both jump step));
          ordered = refl;
          checked = rw due.at (implied (is_checked q) is.passed);
          in_time = rw due.at in_time;
          suits = refl;
        }
