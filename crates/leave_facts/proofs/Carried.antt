-- What goes from row to row: whom requests leave was asked for them, whom they found awake is made, and those that haven't begun found nobody.
use Rattle.std.proofs.Common.{◌≡◌, ℕ, ◌+◌, true, false, List, [], ◌∷◌, length, map, Option, Some, None, ap}
use Rattle.std.specs.Prelude.{fold}
use Rattle.tab_ids.specs.declared.EntryId.{EntryId}
use Rattle.tab_ids.specs.declared.DocId.{DocId}
use Rattle.tab_ids.specs.declared.NavId.{NavId}
use Rattle.tab_ids.specs.declared.ProcId.{ProcId}
use Rattle.tab_ids.specs.declared.ReqId.{ReqId}
use Rattle.tab_ids.specs.declared.StateId.{StateId}
use Rattle.tab_ids.specs.declared.Step.{Step}
use Rattle.log_model.specs.declared.change.Change.{Change}
use Rattle.log_model.specs.declared.job.Job.{Job}
use Rattle.log_model.specs.declared.job.Task.{Task}
use Rattle.log_model.specs.declared.job.Task.TheVariants as tasks
use Rattle.log_model.specs.declared.outcome.Outcome.{Outcome}
use Rattle.log_model.specs.declared.outcome.Outcome.TheVariants as outcomes
use Rattle.log_model.specs.declared.request.Mode.{Mode}
use Rattle.log_model.specs.declared.request.Request.{Request}
use Rattle.log_model.specs.declared.request.Request.TheVariants as requests
use Rattle.log_model.specs.declared.row_kind.Actor.{Actor}
use Rattle.log_model.specs.declared.row_kind.RowKind.{RowKind}
use Rattle.log_model.specs.declared.row_kind.RowKind.TheVariants as rows
use Rattle.log_model.specs.After.{after}
use Rattle.log_model.specs.AfterDocuments.{task_in_hand}
use Rattle.log_model.specs.History.{fits}
use Rattle.log_model.specs.Places.{is_traversal}
use Rattle.log_model.specs.Seen.{Asked, Seen, document_of, request_of}
use Rattle.log_model.specs.Soundness.{IsSound}
use Rattle.seen_facts.proofs.Hang.Frames.{IsNoFrame}
use Rattle.seen_facts.specs.Hang.Hanging.{Hangs}
use Rattle.seen_facts.specs.Home.Homes.{AreHomed}
use Rattle.tab_facts.specs.Calm.Calm.{IsCalmYet}
use Rattle.leave_facts.specs.Leaving.{AreAsked, BelowAsked, leaves_nav}
use Rattle.leave_facts.proofs.Applied.{FitsWell, GoesAlone, alone_asked, below_then, changed}
use Rattle.leave_facts.proofs.Awakes.{AsksDue, awake_ready, calm_stay, below_due, leavers_due}
use Rattle.leave_facts.proofs.Begins.{AreQuestions, begun_below, load_begins, reload_begins, sent_row, traversal_begins}
use Rattle.leave_facts.proofs.Changes.{KeepsTo, applied_asked, applied_below}
use Rattle.leave_facts.proofs.Documents.{FillsUnawake, MakesUnawake}
use Rattle.leave_facts.proofs.Readies.{AwakeMade, IsMadeKeeping, is_made, made_begun, made_row, unawake_new, unmade}
use Rattle.leave_facts.proofs.Rows.{IsKeeping, asked_row, below_row}
use Rattle.leave_facts.proofs.Unbegun.{AreNotedLate, IsNext, asked_opened, below_opened, late_opened, late_row, made_opened, opened}

-- all of that
pub record AreLeftDuly (s : Seen) : Type 0 where
  pub asked : AreAsked s
  pub below : BelowAsked s
  pub made : AwakeMade s
  pub late : AreNotedLate s

-- as the tab opens
pub opened_duly : (event : ℕ) (actor : Actor) (entry : EntryId) (state : StateId) (doc : DocId) (proc : ProcId) (slot : Option ℕ) (address : List ℕ) → AreLeftDuly (opened event actor entry state doc proc slot address)
opened_duly event actor entry state doc proc slot address =
    record {
      asked = asked_opened event actor entry state doc proc slot address;
      below = below_opened event actor entry state doc proc slot address;
      made = made_opened event actor entry state doc proc slot address;
      late = late_opened event actor entry state doc proc slot address;
    }

-- ---- rows that begin no request and change no history

-- a document that is to be made isn't there yet
abbrev pub MakesNew : Seen → Job → Task → Type 0
MakesNew s job (tasks.Populate nav state address initial) = document_of s job.doc ≡ None
MakesNew s job _ = Unit {0}

-- one that is made wasn't made before
abbrev pub FillsUnmade : Seen → Option Job → Outcome → Type 0
FillsUnmade s (Some job) (outcomes.Populated slot) = is_made s.documents job.doc ≡ false
FillsUnmade s _ _ = Unit {0}

-- the row is such a one, and makes and fills documents so
abbrev pub IsQuiet : Seen → RowKind → Type 0
IsQuiet s (rows.Opened entry state doc proc slot address) = ⊥
IsQuiet s (rows.Started req goal) = ⊥
IsQuiet s (rows.Applied req change) = ⊥
IsQuiet s (rows.Accepted req doc what) = req.0 ≡ length s.requests + 1
IsQuiet s (rows.Sent job) = MakesNew s job job.task
IsQuiet s (rows.Finished proc job outcome) = FillsUnmade s (task_in_hand s proc) outcome
IsQuiet s _ = Unit {0}

module _ (s : Seen) (event : ℕ) (actor : Actor) (duly : AreLeftDuly s) where
  abbrev then : RowKind → Seen
  then kind = after s (record { event = event; actor = actor; row = kind })

  pub makes : (job : Job) (task : Task) → MakesNew s job task → MakesUnawake s job task
  makes job (tasks.Populate nav state address initial) new = unawake_new s duly.made job.doc new
  makes job (tasks.Activate entry epoch length index memo address) new = tt
  makes job (tasks.Update length index) new = tt
  makes job tasks.Freeze new = tt
  makes job tasks.Discard new = tt
  makes job (tasks.Ask slot cause) new = tt
  makes job (tasks.DoFragment req mode address) new = tt

  fills : (hand : Option Job) (outcome : Outcome) → FillsUnmade s hand outcome → FillsUnawake s hand outcome
  fills None outcome un = tt
  fills (Some job) (outcomes.Populated slot) un = unmade s duly.made job.doc un
  fills (Some job) outcomes.Activated un = tt
  fills (Some job) outcomes.Updated un = tt
  fills (Some job) outcomes.Frozen un = tt
  fills (Some job) outcomes.Discarded un = tt
  fills (Some job) (outcomes.Asked verdict) un = tt
  fills (Some job) outcomes.Fragmented un = tt

  with_ : (kind : RowKind) → IsKeeping s kind → IsMadeKeeping s kind → IsNext s kind → AreLeftDuly (then kind)
  with_ kind keeps makes_ next =
      record {
        asked = asked_row s event actor kind keeps duly.asked;
        below = below_row s event actor kind keeps duly.below;
        made = made_row s event actor kind makes_ duly.made;
        late = late_row s event actor kind next duly.late;
      }

  -- over each such row
  pub row_duly : (kind : RowKind) → IsQuiet s kind → AreLeftDuly (then kind)
  row_duly (rows.Opened entry state doc proc slot address) never = absurd never
  row_duly (rows.Started req goal) never = absurd never
  row_duly (rows.Applied req change) never = absurd never
  row_duly (rows.Accepted req doc what) next = with_ (rows.Accepted req doc what) next next next
  row_duly (rows.Refused req reason) is = with_ (rows.Refused req reason) tt tt tt
  row_duly (rows.Dropped req cause) is = with_ (rows.Dropped req cause) tt tt tt
  row_duly (rows.Prompted req doc) is = with_ (rows.Prompted req doc) tt tt tt
  row_duly (rows.Answered req stay) is = with_ (rows.Answered req stay) tt tt tt
  row_duly (rows.Sent job) new = with_ (rows.Sent job) (makes job job.task new) tt tt
  row_duly (rows.Taken proc job live dirty) is = with_ (rows.Taken proc job live dirty) tt tt tt
  row_duly (rows.Finished proc job outcome) un =
      with_ (rows.Finished proc job outcome) (fills (task_in_hand s proc) outcome un) tt tt
  row_duly (rows.Made proc made) is = with_ (rows.Made proc made) tt tt tt
  row_duly (rows.Delivered proc) is = with_ (rows.Delivered proc) tt tt tt
  row_duly (rows.Killed proc death) is = with_ (rows.Killed proc death) tt tt tt
  row_duly (rows.Evicted state) is = with_ (rows.Evicted state) tt tt tt

  -- ---- changes

  -- over one of a document, or of a traversal
  pub change_duly : (req : ReqId) (change : Change) → FitsWell s change → KeepsTo s req change → AreLeftDuly (changed s event actor req change)
  change_duly req change well keeps =
      record {
        asked = applied_asked s event actor req change well keeps duly.asked;
        below = applied_below s event actor req change well keeps duly.below;
        made = made_row s event actor (rows.Applied req change) tt duly.made;
        late = late_row s event actor (rows.Applied req change) tt duly.late;
      }

  -- over any that adds no frame, where no other traversal is under way
  pub alone_duly : (req : ReqId) (change : Change) → IsNoFrame change → fits s.history change ≡ true → GoesAlone s req → AreLeftDuly (changed s event actor req change)
  alone_duly req change no_frame fit alone =
      record {
        asked = alone_asked s event actor req change no_frame fit alone duly.asked;
        below = below_then s event actor req change no_frame duly.below;
        made = made_row s event actor (rows.Applied req change) tt duly.made;
        late = late_row s event actor (rows.Applied req change) tt duly.late;
      }

-- ---- a request begins

sent_made : (event : ℕ) (actor : Actor) (b : Seen) (jobs : List Job) → AwakeMade b → AwakeMade (fold after b (map (sent_row event actor) jobs))
sent_made event actor b [] made = made
sent_made event actor b (job ∷ jobs) made =
    sent_made event actor (after b (sent_row event actor job)) jobs (made_row b event actor (rows.Sent job) tt made)

sent_late : (event : ℕ) (actor : Actor) (b : Seen) (jobs : List Job) → AreNotedLate b → AreNotedLate (fold after b (map (sent_row event actor) jobs))
sent_late event actor b [] late = late
sent_late event actor b (job ∷ jobs) late =
    sent_late event actor (after b (sent_row event actor job)) jobs (late_row b event actor (rows.Sent job) tt late)

module _ (s : Seen) (event : ℕ) (actor : Actor) (duly : AreLeftDuly s) (sound : IsSound s.history) (hangs : Hangs s) (homes : AreHomed s) (req : ReqId) (q : Asked) (found : request_of s req ≡ Some q) (jobs : List Job) (are : AreQuestions req jobs) where
  -- as it began, and asked
  abbrev pub begun : Option Step → Seen
  begun goal =
      fold after (after s (record { event = event; actor = actor; row = rows.Started req goal })) (map (sent_row event actor) jobs)

  begun_with : (goal : Option Step) → AreAsked (begun goal) → BelowAsked (begun goal) → AreLeftDuly (begun goal)
  begun_with goal asked below =
      record {
        asked = asked;
        below = below;
        made = sent_made event actor (after s (record { event = event; actor = actor; row = rows.Started req goal })) jobs (made_begun s event actor req goal (awake_ready s sound hangs homes) duly.made);
        late = sent_late event actor (after s (record { event = event; actor = actor; row = rows.Started req goal })) jobs (late_row s event actor (rows.Started req goal) tt duly.late);
      }

  -- a traversal, in a calm tab, with the due questions
  pub traversal_duly : (goal : Step) → is_traversal q.what ≡ true → IsCalmYet s → AsksDue s q.what (Some goal) jobs → AreLeftDuly (begun (Some goal))
  traversal_duly goal traverses calm asks =
      begun_with (Some goal) (traversal_begins s event actor req q goal found traverses jobs are (calm_stay s sound hangs homes calm) (leavers_due s sound hangs homes q.what goal jobs traverses asks) duly.asked) (begun_below s event actor req q (Some goal) found jobs are duly.asked duly.below (λ nav leaves. none q.what traverses leaves))
    where
      none : {A : Type 0} {nav : NavId} (what : Request) → is_traversal what ≡ true → leaves_nav what ≡ Some nav → A
      none (requests.Load nav mode address) never leaves = absurd cc
      none (requests.Reload nav) never leaves = absurd cc
      none (requests.Go delta) goes never = absurd cc
      none (requests.Poke nav action) goes never = absurd cc

  -- a load, with the due questions
  pub load_duly : (nav : NavId) (mode : Mode) (address : List ℕ) → q.what ≡ requests.Load nav mode address → AsksDue s q.what None jobs → AreLeftDuly (begun None)
  load_duly nav mode address loads asks =
      begun_with None (load_begins s event actor req q nav mode address found loads jobs are (below_due s sound hangs homes q.what nav None jobs (ap leaves_nav loads) asks) duly.asked) (begun_below s event actor req q None found jobs are duly.asked duly.below (λ n leaves. below_due s sound hangs homes q.what n None jobs leaves asks))

  -- a reload, with the due questions
  pub reload_duly : (nav : NavId) → q.what ≡ requests.Reload nav → AsksDue s q.what None jobs → AreLeftDuly (begun None)
  reload_duly nav reloads asks =
      begun_with None (reload_begins s event actor req q nav found reloads jobs are duly.asked) (begun_below s event actor req q None found jobs are duly.asked duly.below (λ n leaves. below_due s sound hangs homes q.what n None jobs leaves asks))
