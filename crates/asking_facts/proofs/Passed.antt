-- A row that passes its tests keeps what is known of questions, prompts and answers.
use Rattle.std.proofs.Common.{◌≡◌, ◌+◌, Bool, true, false, ◌&&◌, ◌==◌, Option, Some, None, refl, sym, ap, ◌∙◌, subst, arith}
use Rattle.std.specs.Prelude.{is_none, is_some, not}
use Rattle.std.proofs.lemmas.Bool.{and_parts}
use Rattle.std.proofs.lemmas.Bool.Decides.{nat_tests}
use Rattle.tab_ids.specs.declared.JobId.{JobId}
use Rattle.tab_ids.specs.declared.ProcId.{ProcId}
use Rattle.tab_ids.specs.declared.ReqId.{ReqId}
use Rattle.log_model.specs.declared.header.Header.{Header}
use Rattle.log_model.specs.declared.job.Job.{Job}
use Rattle.log_model.specs.declared.job.Order.{Order}
use Rattle.log_model.specs.declared.job.Task.{Task}
use Rattle.log_model.specs.declared.job.Task.TheVariants as tasks
use Rattle.log_model.specs.declared.job.Why.{Why}
use Rattle.log_model.specs.declared.job.Why.TheVariants as whys
use Rattle.log_model.specs.declared.outcome.Outcome.{Outcome}
use Rattle.log_model.specs.declared.row_kind.LogRow.{LogRow}
use Rattle.log_model.specs.declared.row_kind.RowKind.{RowKind}
use Rattle.log_model.specs.declared.row_kind.RowKind.TheVariants as rows
use Rattle.log_model.specs.After.{after}
use Rattle.log_model.specs.Equal.{holds}
use Rattle.log_model.specs.Events.{Point}
use Rattle.log_model.specs.Formed.{awaits_answer, is_finished_duly, is_followed_duly, is_in_its_place, is_said_rightly}
use Rattle.log_model.specs.Orders.{has_cause, is_addressed, is_asked_duly, is_ordered_row, is_sent_duly}
use Rattle.log_model.specs.Outcomes.{is_outcome_of}
use Rattle.log_model.specs.Points.{had_started}
use Rattle.log_model.specs.Seen.{Asked, Seen, desk_of, nothing, request_of}
use Rattle.seen_laws.specs.Blocks.{Passes}
use Rattle.asking_facts.proofs.Askable.{nothing_askable, row_askable}
use Rattle.asking_facts.proofs.Early.{early_row}
use Rattle.asking_facts.proofs.Unanswered.{unanswered_row}
use Rattle.asking_facts.proofs.WaitingEach.{waiting_row}
use Rattle.asking_facts.proofs.Wanted.{waits_new, wanted_row}
use Rattle.asking_facts.specs.Asking.{AsksBegun, IsForBegun}
use Rattle.asking_facts.specs.Known.{AskingKnown, KeepsKnown}
use Rattle.asking_facts.specs.Prompting.{AnswersPrompt, PromptsWanted}
use Rattle.asking_facts.specs.Waiting.{EndsSo, GoesWaiting, QuestionsWait}

-- ---- over a row

pub known_on : (s : Seen) (row : LogRow) → AsksBegun s row.row → GoesWaiting s row.row → AnswersPrompt s row.row → PromptsWanted s row.row → AskingKnown s → AskingKnown (after s row)
known_on s row begun goes answers wanted known =
    record {
      early = early_row s row begun known.early;
      waits = waiting_row s row goes known.waits;
      unanswered = unanswered_row s row answers known.unanswered;
      wanted = wanted_row s row wanted known.wanted;
      askable = row_askable s row known.askable;
    }

-- ---- one that passes

four : (a b c d : Bool) → (a && b && c && d) ≡ true → (a ≡ true) × (d ≡ true)
four true true true true is = (refl, refl)
four true true true false is = absurd cc
four true true false d is = absurd cc
four true false c d is = absurd cc
four false b c d is = absurd cc

module _ (header : Header) (p : Point) (row : LogRow) (passes : Passes header p row) where
  -- it names what is there, and an order has its number and its cause
  said : (kind : RowKind) → row.row ≡ kind → is_said_rightly p (record row { row = kind }) ≡ true
  said kind e =
      subst (λ (k : RowKind). is_said_rightly p (record row { row = k }) ≡ true) e (and_parts (is_in_its_place p row) (is_said_rightly p row) passes.formed).1

  ordered : (job : Job) → row.row ≡ rows.Sent job → is_sent_duly p (record row { row = rows.Sent job }) job ≡ true
  ordered job e = subst (λ (k : RowKind). is_ordered_row p (record row { row = k }) ≡ true) e passes.ordered

  next_number : (job : Job) → row.row ≡ rows.Sent job → job.nr.0 ≡ p.now.jobs + 1
  next_number job e =
      let is = (four (job.nr.0 == (p.now.jobs + 1)) (is_addressed p.now job job.task) (job.incarnation == (desk_of p.now job.proc).known) (has_cause p (record row { row = rows.Sent job }) job job.task) (ordered job e)).0 in
      grind (arith, nat_tests, is)

  -- a question is for a request that has begun
  pub passes_begun : AsksBegun p.now row.row
  passes_begun = by_kind row.row refl
    where
      begun : (job : Job) → is_asked_duly p job ≡ true → (req : ReqId) (q : Asked) → job.why ≡ whys.Req req → request_of p.now req ≡ Some q → q.is_started ≡ true
      begun job is req q why at = by_why job.why why is
        where
          by_why : (w : Why) → w ≡ whys.Req req → is_asked_duly p (record job { why = w }) ≡ true → q.is_started ≡ true
          by_why (whys.Req r) e holds_ =
              let it : r ≡ req = cc in
              let its : holds (λ (x : Asked). x.is_started && not (had_started p r)) (Some q) ≡ true = ap (λ (o : Option Asked). holds (λ (x : Asked). x.is_started && not (had_started p r)) o) (sym (ap (λ (n : ReqId). request_of p.now n) it ∙ at)) ∙ holds_ in
              (and_parts q.is_started (not (had_started p r)) its).0
          by_why (whys.Death death) e holds_ = absurd cc
          by_why whys.Evict e holds_ = absurd cc
          by_why whys.Start e holds_ = absurd cc

      by_task : (job : Job) → row.row ≡ rows.Sent job → (task : Task) → job.task ≡ task → IsForBegun p.now job task
      by_task job e (tasks.Ask slot cause) f = begun job caused
        where
          caused : is_asked_duly p job ≡ true
          caused =
              subst (λ (t : Task). has_cause p (record row { row = rows.Sent job }) job t ≡ true) f (four (job.nr.0 == (p.now.jobs + 1)) (is_addressed p.now job job.task) (job.incarnation == (desk_of p.now job.proc).known) (has_cause p (record row { row = rows.Sent job }) job job.task) (ordered job e)).1
      by_task job e (tasks.Populate nav state address initial) f = tt
      by_task job e (tasks.Activate entry epoch long at memo address) f = tt
      by_task job e (tasks.Update long at) f = tt
      by_task job e tasks.Freeze f = tt
      by_task job e tasks.Discard f = tt
      by_task job e (tasks.DoFragment req mode address) f = tt

      by_kind : (kind : RowKind) → row.row ≡ kind → AsksBegun p.now kind
      by_kind (rows.Sent job) e = by_task job e job.task refl
      by_kind (rows.Opened entry state doc proc slot address) e = tt
      by_kind (rows.Accepted req doc what) e = tt
      by_kind (rows.Started req goal) e = tt
      by_kind (rows.Applied req change) e = tt
      by_kind (rows.Refused req reason) e = tt
      by_kind (rows.Dropped req cause) e = tt
      by_kind (rows.Prompted req doc) e = tt
      by_kind (rows.Answered req stay) e = tt
      by_kind (rows.Taken proc job live dirty) e = tt
      by_kind (rows.Finished proc job outcome) e = tt
      by_kind (rows.Made proc made) e = tt
      by_kind (rows.Delivered proc) e = tt
      by_kind (rows.Killed proc death) e = tt
      by_kind (rows.Evicted state) e = tt

  -- an order ends with an outcome of its task
  ends : (proc : ProcId) (job : JobId) (outcome : Outcome) → row.row ≡ rows.Finished proc job outcome → EndsSo (desk_of p.now proc).in_hand outcome
  ends proc job outcome e = by_hand (desk_of p.now proc).in_hand refl
    where
      middle : (a b c : Bool) → (a && b && c) ≡ true → b ≡ true
      middle true true c is = refl
      middle true false c is = cc
      middle false b c is = cc

      duly : is_finished_duly p (desk_of p.now proc) job outcome ≡ true
      duly = said (rows.Finished proc job outcome) e

      by_hand : (hand : Option Order) → (desk_of p.now proc).in_hand ≡ hand → EndsSo hand outcome
      by_hand None f = tt
      by_hand (Some order) f = middle (order.job.nr.0 == job.0) (is_outcome_of order.job.task outcome) (is_followed_duly p.now order.job order.job.task p.later) (ap (λ (o : Option Order). is_finished_duly p (record (desk_of p.now proc) { in_hand = o }) job outcome) (sym f) ∙ duly)

  pub passes_waiting : KeepsKnown p.now row.row → GoesWaiting p.now row.row
  passes_waiting keeps = by_kind row.row refl keeps
    where
      by_kind : (kind : RowKind) → row.row ≡ kind → KeepsKnown p.now kind → GoesWaiting p.now kind
      by_kind (rows.Sent job) e first = (next_number job e, first)
      by_kind (rows.Finished proc job outcome) e free = ends proc job outcome e
      by_kind (rows.Opened entry state doc proc slot address) e free = tt
      by_kind (rows.Accepted req doc what) e free = tt
      by_kind (rows.Started req goal) e free = tt
      by_kind (rows.Applied req change) e free = tt
      by_kind (rows.Refused req reason) e free = tt
      by_kind (rows.Dropped req cause) e free = tt
      by_kind (rows.Prompted req doc) e free = tt
      by_kind (rows.Answered req stay) e free = tt
      by_kind (rows.Taken proc job live dirty) e free = tt
      by_kind (rows.Made proc made) e free = tt
      by_kind (rows.Delivered proc) e free = tt
      by_kind (rows.Killed proc death) e free = tt
      by_kind (rows.Evicted state) e free = tt

  -- the user answers only a prompt
  pub passes_answers : AnswersPrompt p.now row.row
  passes_answers = by_kind row.row refl
    where
      first : (a b c : Bool) → (a && b && c) ≡ true → a ≡ true
      first true b c is = refl
      first false b c is = cc

      by_kind : (kind : RowKind) → row.row ≡ kind → AnswersPrompt p.now kind
      by_kind (rows.Answered req stay) e =
          λ q at. first (is_some q.prompted) (is_none q.answered) (is_none q.ending) (ap (λ (o : Option Asked). holds awaits_answer o) (sym at) ∙ said (rows.Answered req stay) e)
      by_kind (rows.Opened entry state doc proc slot address) e = tt
      by_kind (rows.Accepted req doc what) e = tt
      by_kind (rows.Started req goal) e = tt
      by_kind (rows.Applied req change) e = tt
      by_kind (rows.Refused req reason) e = tt
      by_kind (rows.Dropped req cause) e = tt
      by_kind (rows.Prompted req doc) e = tt
      by_kind (rows.Sent job) e = tt
      by_kind (rows.Taken proc job live dirty) e = tt
      by_kind (rows.Finished proc job outcome) e = tt
      by_kind (rows.Made proc made) e = tt
      by_kind (rows.Delivered proc) e = tt
      by_kind (rows.Killed proc death) e = tt
      by_kind (rows.Evicted state) e = tt

  -- and no answer replaces another
  pub passes_wanted : QuestionsWait p.now → KeepsKnown p.now row.row → PromptsWanted p.now row.row
  passes_wanted waits keeps = by_kind row.row refl keeps
    where
      by_kind : (kind : RowKind) → row.row ≡ kind → KeepsKnown p.now kind → PromptsWanted p.now kind
      by_kind (rows.Prompted req doc) e wants = wants
      by_kind (rows.Finished proc job outcome) e free =
          waits_new p.now waits (desk_of p.now proc).in_hand (waits.desks proc).hand outcome (ends proc job outcome e)
      by_kind (rows.Sent job) e free = tt
      by_kind (rows.Opened entry state doc proc slot address) e free = tt
      by_kind (rows.Accepted req doc what) e free = tt
      by_kind (rows.Started req goal) e free = tt
      by_kind (rows.Applied req change) e free = tt
      by_kind (rows.Refused req reason) e free = tt
      by_kind (rows.Dropped req cause) e free = tt
      by_kind (rows.Answered req stay) e free = tt
      by_kind (rows.Taken proc job live dirty) e free = tt
      by_kind (rows.Made proc made) e free = tt
      by_kind (rows.Delivered proc) e free = tt
      by_kind (rows.Killed proc death) e free = tt
      by_kind (rows.Evicted state) e free = tt

  -- so all of it stays
  pub known_passed : KeepsKnown p.now row.row → AskingKnown p.now → AskingKnown (after p.now row)
  known_passed keeps known =
      known_on p.now row passes_begun (passes_waiting keeps) passes_answers (passes_wanted known.waits keeps) known

-- ---- of the empty log

pub known_nothing : AskingKnown nothing
known_nothing =
    record {
      early = λ req q at. absurd (none req q at);
      waits = record {
        desks = λ proc. record { mail = tt; hand = tt; reports = tt };
        apart = record { once = λ n. omega arith; numbered = λ n past. refl };
        sent = λ req q at. absurd (none req q at);
      };
      unanswered = λ req q at. absurd (none req q at);
      wanted = λ req q at. absurd (none req q at);
      askable = nothing_askable;
    }
  where
    none : (req : ReqId) (q : Asked) → request_of nothing req ≡ Some q → ⊥
    none req q at = by_number (req.0 == 0) refl at
      where
        by_number : (b : Bool) → (req.0 == 0) ≡ b → request_of nothing req ≡ Some q → ⊥
        by_number true e at_ = (let no : (let o : Option Asked = None in o) ≡ Some q = sym (rw e refl) ∙ at_ in cc)
        by_number false e at_ = (let no : (let o : Option Asked = None in o) ≡ Some q = sym (rw e refl) ∙ at_ in cc)
