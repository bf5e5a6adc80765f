-- Over a row beside the checks what is carried of them goes on to hold; and the rows so far go on to pass, if the prompts that are due come.
use Rattle.std.proofs.Common.{◌≡◌, ◌⊎◌, inl, inr, ℕ, Bool, true, false, ◌&&◌, ◌||◌, ◌++◌, List, [], ◌∷◌, Option, Some, None, refl, sym, ap, ◌∙◌, subst}
use Rattle.std.specs.Prelude.{cond, fold, is_none, not, option_and_then, option_map}
use Rattle.std.specs.List.{list_all, list_any}
use Rattle.std.proofs.lemmas.Bool.{and_parts}
use Rattle.tab_ids.specs.declared.DocId.{DocId}
use Rattle.tab_ids.specs.declared.ReqId.{ReqId}
use Rattle.log_model.specs.declared.job.Job.{Job}
use Rattle.log_model.specs.declared.job.Task.{Task}
use Rattle.log_model.specs.declared.job.Task.TheVariants as tasks
use Rattle.log_model.specs.declared.row_kind.Actor.{Actor}
use Rattle.log_model.specs.declared.row_kind.LogRow.{LogRow}
use Rattle.log_model.specs.declared.row_kind.RowKind.{RowKind}
use Rattle.log_model.specs.declared.row_kind.RowKind.TheVariants as rows
use Rattle.log_model.specs.After.{after}
use Rattle.log_model.specs.Checks.{due_prompt, is_checked, is_of_run, lower_doc, prompting, prompts_duly}
use Rattle.log_model.specs.Equal.{holds}
use Rattle.log_model.specs.Outcomes.{is_drop}
use Rattle.log_model.specs.Places.{all_asked, has_passed, is_gone, is_settled_asking, is_under_way, may_leave}
use Rattle.log_model.specs.Seen.{Asked, Asking, Document, Seen, document_of, request_of}
use Rattle.unload_check.specs.Checks.{OpenCheck, after_all_deaths, after_deaths, check_of, is_doc, outcome_of}
use Rattle.row_facts.specs.FrameRows.Lawful.{KeepsHeld}
use Rattle.seen_laws.proofs.InEvents.{IsQuiet, log_more, pass_more}
use Rattle.seen_laws.specs.Blocks.{EachPass, point_at}
use Rattle.seen_laws.specs.InEvent.{InEvent, here_of, log_of, row_of}
use Rattle.seen_laws.specs.Owing.{Pays}
use Rattle.seen_facts.proofs.Coord.Held.{fun_ext}
use Rattle.seen_facts.proofs.Each.Courses.{was_asked}
use Rattle.seen_facts.proofs.Request.Readers.{SameReads, reads_then}
use Rattle.check_facts.proofs.Agreeing.{agree_none, agree_other}
use Rattle.check_facts.proofs.Asks.{discarding}
use Rattle.check_facts.proofs.Carried.{cut, discard_goes, nothing_plain, numbers_plain, prompted_plain, settles_due, unnoted_plain}
use Rattle.check_facts.proofs.Checkings.{all_go}
use Rattle.check_facts.proofs.Events.{start_is}
use Rattle.check_facts.proofs.Gones.{row_gone}
use Rattle.check_facts.proofs.Keeping.{sent_reads}
use Rattle.check_facts.proofs.Notings.{held_unnoted}
use Rattle.check_facts.proofs.Promptings.{come_before, duly, keeps_settled, none_front, stay_settled}
use Rattle.row_facts.proofs.FrameRows.LawfulLaws.{AsksOf, rest_more}
use Rattle.check_facts.proofs.Rows.{Plain, plain_of, row_of_kind, sent_drops, sent_keeps, settled_more}
use Rattle.check_facts.proofs.Runs.{come_aside, come_more, never_due}
use Rattle.check_facts.proofs.Tables.{check_dead, todo_none}
use Rattle.check_facts.proofs.Ties.{all_same, tied_same}
use Rattle.check_facts.specs.Checking.{AreSaid, AreTiedAt, Checked, GoWith, checked_of, is_checking, is_said}
use Rattle.check_facts.specs.Having.{AreHeld, IsHeld, OpenChecked}
use Rattle.check_facts.specs.Prompting.{DropsNone, HaveNumbers, IsAside, IsDiscarding, KeepsQuestions, NothingElseDue, OpenUnnoted, PromptedSettled, PromptsCome, none_ran, prompt_of, todo_of}
use Rattle.check_facts.specs.Rows.{IsNoQuestion, IsOfCoord}
use Rattle.unasked_dues.specs.Checking.{AllOthersPass}
use Rattle.checking_facts.proofs.Besides.{beside_aside, beside_drops, beside_gone, beside_plain, beside_reads, then_}
use Rattle.checking_facts.proofs.Tellings.{runs_now, told_agrees, told_checked, told_due, told_held, told_notes, told_numbers, told_said}
use Rattle.checking_facts.specs.Prompts.{AreAskedDuly, GoesBeside, HasGoneOn, PassIf, PromptsFor, PromptsOf, SendsBeside, Told, discarded_by, tell_for, tell_row}

some_same : {A : Type 0} {a b : A} → (let o : Option A = Some a in o) ≡ Some b → a ≡ b
some_same e = cc

-- a row beside the checks is one of the coordinator's
pub of_coord : (checking : ReqId → Bool) (s : Seen) (kind : RowKind) → GoesBeside checking s kind → IsOfCoord kind
of_coord checking s (rows.Started by goal) beside = tt
of_coord checking s (rows.Applied by change) beside = tt
of_coord checking s (rows.Refused by reason) beside = tt
of_coord checking s (rows.Dropped by cause) beside = tt
of_coord checking s (rows.Sent job) beside = tt
of_coord checking s (rows.Opened entry state doc proc slot address) beside = absurd beside
of_coord checking s (rows.Accepted by doc what) beside = absurd beside
of_coord checking s (rows.Prompted by doc) beside = absurd beside
of_coord checking s (rows.Answered by stay) beside = absurd beside
of_coord checking s (rows.Taken proc job live dirty) beside = absurd beside
of_coord checking s (rows.Finished proc job outcome) beside = absurd beside
of_coord checking s (rows.Made proc made) beside = absurd beside
of_coord checking s (rows.Delivered proc) beside = absurd beside
of_coord checking s (rows.Killed proc death) beside = absurd beside
of_coord checking s (rows.Evicted state) beside = absurd beside

-- what discards is an order that does
pub is_discard : (kind : RowKind) (doc : DocId) → discarded_by kind ≡ Some doc → (job : Job) × (kind ≡ rows.Sent job) × (job.task ≡ tasks.Discard) × (job.doc ≡ doc)
is_discard (rows.Sent job) doc is = by_task job.task refl
  where
    by_task : (task : Task) → job.task ≡ task → (j : Job) × ((let k : RowKind = rows.Sent job in k) ≡ rows.Sent j) × (j.task ≡ tasks.Discard) × (j.doc ≡ doc)
    by_task tasks.Discard e = (job, refl, e, some_same (sym (rw e refl) ∙ is))
    by_task (tasks.Populate nav state address initial) e = let never : discarded_by (rows.Sent job) ≡ None = rw e refl in absurd cc
    by_task (tasks.Activate entry epoch length index memo address) e = let never : discarded_by (rows.Sent job) ≡ None = rw e refl in absurd cc
    by_task (tasks.Update length index) e = let never : discarded_by (rows.Sent job) ≡ None = rw e refl in absurd cc
    by_task tasks.Freeze e = let never : discarded_by (rows.Sent job) ≡ None = rw e refl in absurd cc
    by_task (tasks.Ask slot cause) e = let never : discarded_by (rows.Sent job) ≡ None = rw e refl in absurd cc
    by_task (tasks.DoFragment req mode address) e = let never : discarded_by (rows.Sent job) ≡ None = rw e refl in absurd cc
is_discard (rows.Opened entry state d proc slot address) doc is = cc
is_discard (rows.Accepted by d what) doc is = cc
is_discard (rows.Started by goal) doc is = cc
is_discard (rows.Applied by change) doc is = cc
is_discard (rows.Refused by reason) doc is = cc
is_discard (rows.Dropped by cause) doc is = cc
is_discard (rows.Prompted by d) doc is = cc
is_discard (rows.Answered by stay) doc is = cc
is_discard (rows.Taken proc job live dirty) doc is = cc
is_discard (rows.Finished proc job outcome) doc is = cc
is_discard (rows.Made proc made) doc is = cc
is_discard (rows.Delivered proc) doc is = cc
is_discard (rows.Killed proc death) doc is = cc
is_discard (rows.Evicted state) doc is = cc

-- where nothing changes
pub same_drops : (s : Seen) → DropsNone s s
same_drops s req q r at found = ap (λ (x : Asked). holds is_drop x.ending) (some_same (sym found ∙ at))

-- the prompt that is due goes by the questions, and by whether the request was dropped
due_as : (s : Seen) (p q : Asked) → plain_of p ≡ plain_of q → holds is_drop q.ending ≡ holds is_drop p.ending → due_prompt s q ≡ due_prompt s p
due_as s p q same drop =
    ap (λ (b : Bool). cond b None (fold lower_doc None (prompting s q))) drop
    ∙ ap (λ (x : Plain). cond (holds is_drop p.ending) None (fold lower_doc None (prompting s (record q { asks = x.asks })))) (sym same)

-- a run with one document more
any_more : (x : DocId) (docs : List DocId) (doc : DocId) (gone : Bool) → (is_doc x doc || (list_any (is_doc x) docs || gone)) ≡ (list_any (is_doc x) (docs ++ doc ∷ []) || gone)
any_more x [] doc gone = by_one (is_doc x doc)
  where
    by_one : (b : Bool) → (b || gone) ≡ ((b || false) || gone)
    by_one true = refl
    by_one false = refl
any_more x (first ∷ docs) doc gone = by_first (is_doc x first) (is_doc x doc) (any_more x docs doc gone)
  where
    by_first : (b c : Bool) → (c || (list_any (is_doc x) docs || gone)) ≡ (list_any (is_doc x) (docs ++ doc ∷ []) || gone) → (c || ((b || list_any (is_doc x) docs) || gone)) ≡ ((b || list_any (is_doc x) (docs ++ doc ∷ [])) || gone)
    by_first true true rest = refl
    by_first true false rest = refl
    by_first false c rest = rest

goes_more : (was mid last : DocId → Bool) (docs : List DocId) (doc : DocId) → ((x : DocId) → last x ≡ (is_doc x doc || mid x)) → (asks : List Asking) → GoWith was mid docs asks → GoWith was last (docs ++ doc ∷ []) asks
goes_more was mid last docs doc one [] goes = tt
goes_more was mid last docs doc one (asking ∷ asks) goes =
    (one asking.doc ∙ ap (λ (b : Bool). is_doc asking.doc doc || b) goes.0 ∙ any_more asking.doc docs doc (was asking.doc), goes_more was mid last docs doc one asks goes.1)

-- ---- what is carried

module _ (checking : ReqId → Bool) (start s : Seen) (event : ℕ) (actor : Actor) (told : Told) (asked : AreAskedDuly checking start s told) (kind : RowKind) (beside : GoesBeside checking s kind) where
  abbrev t : Seen
  t = then_ checking s event actor kind

  gone_more : (doc : DocId) → is_gone s doc ≡ true → is_gone t doc ≡ true
  gone_more = row_gone s event actor kind (of_coord checking s kind beside)

  plain : SameReads plain_of s.requests t.requests
  plain = beside_plain checking s event actor kind beside

  prompted_then : PromptedSettled t
  prompted_then = prompted_plain s t plain gone_more asked.prompted

  -- ---- a row that discards nothing

  module _ (none : discarded_by kind ≡ None) where
    abbrev checks_then : List (ReqId × OpenCheck)
    checks_then = after_all_deaths told.run told.checks

    within_then : (req : ReqId) → checking req ≡ false → check_of req checks_then ≡ None
    within_then req off =
        check_dead req told.run told.checks
        ∙ ap (λ (o : Option OpenCheck). option_map (after_deaths told.run) o) (asked.within req off)

    -- nothing is noted for one that isn't in its check
    pub unnoted : (req : ReqId) → checking req ≡ false → todo_of checks_then req ≡ None
    unnoted req off = todo_none req checks_then (within_then req off)

    -- it stands beside the prompts to come
    pub aside : IsAside start (todo_of checks_then) s (row_of_kind s event actor kind)
    aside = beside_aside checking s event actor start (todo_of checks_then) (told_due start s told asked.run) (told_numbers start s told asked.run) unnoted kind beside none

    gone_same : is_gone t ≡ is_gone s
    gone_same = fun_ext (beside_gone checking s event actor kind beside none)

    module _ (passes : AllOthersPass checking t) where
      -- who has passed is in no check
      passed_unchecked : (r : Asked) → has_passed t r ≡ true → is_checking t r ≡ false
      passed_unchecked r has = rw has (no_more (is_checked r) (is_under_way r))
        where
          no_more : (a b : Bool) → (a && b && false) ≡ false
          no_more true true = refl
          no_more true false = refl
          no_more false b = refl

      held_then : AreHeld t checks_then
      held_then req r found = by_check (checking req) refl
        where
          by_check : (b : Bool) → checking req ≡ b → IsHeld t checks_then req r
          by_check false off =
              inl (subst (λ (o : Option OpenCheck). AreTiedAt t (Some r) o) (sym (within_then req off)) (passed_unchecked r (passes req r found off)))
          by_check true on =
              let q = was_asked plain_of s.requests t.requests plain req r found in
              let its = beside_reads checking s event actor kind beside req q.0 q.1 on in
              let one : its.0 ≡ r = some_same (sym its.1 ∙ found) in
              let same : checked_of r ≡ checked_of q.0 = subst (λ (x : Asked). checked_of x ≡ checked_of q.0) one its.2 in
              by_held q.0 same (told_held start s told asked.run req q.0 q.1)
            where
              by_held : (q : Asked) → checked_of r ≡ checked_of q → IsHeld s checks_then req q → IsHeld t checks_then req r
              by_held q same (inl tied) = inl (tied_same s t q r gone_same same (check_of req checks_then) tied)
              by_held q same (inr settled) = inr (all_same s t q r gone_same same ∙ settled.0, settled.1)

      checked_then : OpenChecked t
      checked_then req r found open_ unchecked = by_check (checking req) refl
        where
          by_check : (b : Bool) → checking req ≡ b → holds is_drop r.ending ≡ true
          by_check false off =
              let parts = and_parts (all_asked t r) (may_leave r) (passes req r found off) in
              let both : true ≡ false = sym parts.0 ∙ open_ in
              absurd cc
          by_check true on =
              let q = was_asked plain_of s.requests t.requests plain req r found in
              let its = beside_reads checking s event actor kind beside req q.0 q.1 on in
              let one : its.0 ≡ r = some_same (sym its.1 ∙ found) in
              let same : checked_of r ≡ checked_of q.0 = subst (λ (x : Asked). checked_of x ≡ checked_of q.0) one its.2 in
              beside_drops checking s event actor kind beside req q.0 r q.1 found (told_checked start s told asked.run req q.0 q.1 (sym (all_same s t q.0 r gone_same same) ∙ open_) (tied_same t s r q.0 (sym gone_same) (sym same) None unchecked))

      said_then : AreSaid t
      said_then req r found =
          let q = was_asked plain_of s.requests t.requests plain req r found in
          sym (ap (λ (x : Plain). list_all is_said x.asks) q.2) ∙ told_said start s told asked.run req q.0 q.1

      numbers_then : HaveNumbers t
      numbers_then = numbers_plain s t plain (told_numbers start s told asked.run)

      due_then : NothingElseDue start (todo_of checks_then) t
      due_then =
          nothing_plain s t plain start (todo_of checks_then) (beside_drops checking s event actor kind beside) (beside_gone checking s event actor kind beside none) (told_due start s told asked.run)

      pub other_duly : AreAskedDuly checking start t (record { checks = checks_then; run = [] })
      other_duly =
          record {
            within = within_then;
            stays = stay_settled start s t aside.keeps asked.stays;
            prompted = prompted_then;
            run = record {
              was = t;
              all = checks_then;
              same = λ req. inl refl;
              held = held_then;
              said = said_then;
              numbered = numbers_then;
              prompted = prompted_then;
              checked = checked_then;
              nothing = due_then;
              asks = λ r. refl;
              reads = λ r. refl;
              drops = same_drops t;
              gone = λ doc is. is;
              goes = λ req q found. all_go (is_gone t) (is_gone t) [] (λ doc. refl) q.asks;
            };
          }

  -- ---- an order that discards a document

  module _ (job : Job) (is : kind ≡ rows.Sent job) (task : job.task ≡ tasks.Discard) (d : Document) (there : document_of s job.doc ≡ Some d) where
    order_is : t ≡ cut s event actor job task d there
    order_is = ap (λ (k : RowKind). then_ checking s event actor k) is

    -- who is gone more
    goes_one : (doc : DocId) → is_gone t doc ≡ (is_doc doc job.doc || is_gone s doc)
    goes_one doc = ap (λ (x : Seen). is_gone x doc) order_is ∙ discard_goes s event actor job task d there doc

    none_asks : IsNoQuestion job.task
    none_asks = subst IsNoQuestion (sym task) tt

    drops_on : DropsNone s t
    drops_on = subst (λ (x : Seen). DropsNone s x) (sym order_is) (sent_drops s event actor job none_asks)

    pub discard_keeps : KeepsQuestions s t
    discard_keeps = subst (λ (x : Seen). KeepsQuestions s x) (sym order_is) (sent_keeps s event actor job none_asks)

    reads_on : SameReads checked_of s.requests t.requests
    reads_on = subst (λ (x : Seen). SameReads checked_of s.requests x.requests) (sym order_is) (sent_reads s job none_asks)

    -- who has passed while the run lasts has still
    still_same : (req : ReqId) → (check_of req told.checks ≡ check_of req asked.run.all) ⊎ HasGoneOn s told.checks req → (check_of req told.checks ≡ check_of req asked.run.all) ⊎ HasGoneOn t told.checks req
    still_same req (inl same) = inl same
    still_same req (inr gone) =
        inr (record {
          none = gone.none;
          passed = λ q found.
              let p = was_asked plain_of s.requests t.requests plain req q found in
              let o = was_asked checked_of s.requests t.requests reads_on req q found in
              let one : o.0 ≡ p.0 = some_same (sym o.1 ∙ p.1) in
              let was = and_parts (all_asked s p.0) (may_leave p.0) (gone.passed p.0 p.1) in
              let all : all_asked t q ≡ true = sym (ap (λ (x : Plain). list_all (is_settled_asking (is_gone t)) x.asks) p.2) ∙ settled_more s t p.0.asks gone_more was.0 in
              let leaves : may_leave q ≡ true = sym (ap (λ (x : Checked). is_none x.prompted || holds not x.answered) o.2) ∙ ap may_leave one ∙ was.1 in
              rw (all, leaves) refl;
          undue = λ q found.
              let p = was_asked plain_of s.requests t.requests plain req q found in
              due_as t p.0 q p.2 (drops_on req p.0 q p.1 found) ∙ never_due s t p.0 gone_more (gone.undue p.0 p.1);
        })

    pub discard_duly : AreAskedDuly checking start t (record told { run = told.run ++ job.doc ∷ [] })
    discard_duly =
        record {
          within = asked.within;
          stays = stay_settled start s t (keeps_settled s t discard_keeps) asked.stays;
          prompted = prompted_then;
          run = record {
            was = asked.run.was;
            all = asked.run.all;
            same = λ req. still_same req (asked.run.same req);
            held = asked.run.held;
            said = asked.run.said;
            numbered = asked.run.numbered;
            prompted = asked.run.prompted;
            checked = asked.run.checked;
            nothing = asked.run.nothing;
            asks = reads_then plain_of asked.run.was.requests s.requests t.requests asked.run.asks plain;
            reads = reads_then checked_of asked.run.was.requests s.requests t.requests asked.run.reads reads_on;
            drops = λ req q r at found. let p = was_asked plain_of s.requests t.requests plain req r found in drops_on req p.0 r p.1 found ∙ asked.run.drops req q p.0 at p.1;
            gone = λ doc was. gone_more doc (asked.run.gone doc was);
            goes = λ req q found. goes_more (is_gone asked.run.was) (is_gone s) (is_gone t) told.run job.doc goes_one q.asks (asked.run.goes req q found);
          };
        }

-- ---- the rows so far pass

module _ (e : InEvent) (out : List RowKind) (told : Told) (asked : AreAskedDuly e.checking e.start (log_of e out) told) (kind : RowKind) (beside : GoesBeside e.checking (log_of e out) kind) (quiet : IsQuiet e kind) (held : KeepsHeld e out kind) (Before Rest : List LogRow → Type 0) (ahead : (later : List LogRow) → Rest later → Before (row_of e kind ∷ later)) where
  abbrev row : LogRow
  row = row_of e kind

  abbrev now : Seen
  now = log_of e out

  abbrev next_ : Seen
  next_ = after now row

  -- what the row passes by
  abbrev pub PassesBy : Type 0
  PassesBy = (later : List LogRow) → AsksOf e out kind later × Pays (here_of e out) (row ∷ []) later → Rest later → PromptsFor e out kind later → EachPass (here_of e out) (row ∷ []) later

  -- what comes later, seen from before the row
  step : (todo : ReqId → Option DocId) → ((later : List LogRow) → PromptsCome e.start todo next_ later → (PromptsCome e.start (todo_of told.checks) now (row ∷ later)) × PromptsFor e out kind later) → PassIf Before e (todo_of told.checks) out → PassesBy → PassIf Rest e todo (out ++ kind ∷ [])
  unfolding PassIf
  step todo back pass may later rest =
      let parts = rest_more e out kind quiet held later rest.0.rest in
      let come : PromptsCome e.start todo next_ later = subst (λ (s : Seen). PromptsCome e.start todo s later) (log_more e out kind) rest.0.prompts in
      let before = back later come in
      pass_more e out (kind ∷ []) later (pass (row ∷ later) (record { rest = parts.0; prompts = before.0; agrees = agree_none (todo_of told.checks) now (row ∷ later) }, ahead later rest.1)) (may later parts.1 rest.1 before.1)

  -- where the row discards nothing, the table is told of the run that it ends
  other_passes : discarded_by kind ≡ None → PassIf Before e (todo_of told.checks) out → PassesBy → PassIf Rest e (todo_of (after_all_deaths told.run told.checks)) (out ++ kind ∷ [])
  other_passes none pass may =
      step (todo_of new_) (λ later come. (noted later (come_aside e.start (todo_of new_) now row later beside_ come), subst (λ (o : Option DocId). PromptsOf o e out kind later) (sym none) tt)) pass may
    where
      new_ : List (ReqId × OpenCheck)
      new_ = after_all_deaths told.run told.checks

      beside_ : IsAside e.start (todo_of new_) now row
      beside_ = aside e.checking e.start now e.event e.actor told asked kind beside none

      noted : (later : List LogRow) → PromptsCome e.start (todo_of new_) now (row ∷ later) → PromptsCome e.start (todo_of told.checks) now (row ∷ later)
      noted later come =
          come_more e.start (todo_of told.checks) none_ran (todo_of new_) (runs_now e.start now told asked.run) now (row ∷ later) (told_numbers e.start now told asked.run) (told_notes e.start now told asked.run) (agree_other (todo_of new_) (runs_now e.start now told asked.run) now (row ∷ later) (none_front is_of_run row later beside_.ends) (told_agrees e.start now told asked.run)) come

  -- where it discards a document, the run goes on
  discard_passes : (job : Job) → kind ≡ rows.Sent job → job.task ≡ tasks.Discard → (d : Document) → document_of now job.doc ≡ Some d → PassIf Before e (todo_of told.checks) out → PassesBy → PassIf Rest e (todo_of told.checks) (out ++ kind ∷ [])
  discard_passes job is task d there pass may =
      step (todo_of told.checks) (λ later come. (come_before e.start (todo_of told.checks) now row later discards keeps drops come, subst (λ (o : Option DocId). PromptsOf o e out kind later) (sym own) (prompts later come))) pass may
    where
      own : discarded_by kind ≡ Some job.doc
      own = ap discarded_by is ∙ (rw task refl)

      discards : IsDiscarding row
      discards = subst (λ (k : RowKind). IsDiscarding (row_of e k)) (sym is) (discarding e.event e.actor job task)

      keeps : KeepsQuestions now next_
      keeps = discard_keeps e.checking e.start now e.event e.actor told asked kind beside job is task d there

      drops : DropsNone now next_
      drops = subst (λ (k : RowKind). DropsNone now (after now (row_of e k))) (sym is) (sent_drops now e.event e.actor job (subst IsNoQuestion (sym task) tt))

      unnoted_now : OpenUnnoted (todo_of told.checks) now
      unnoted_now =
          λ q found open_. by_same q found open_ (asked.run.same q.nr)
        where
          whole : OpenUnnoted (todo_of asked.run.all) now
          whole =
              unnoted_plain asked.run.was now asked.run.asks (todo_of asked.run.all) asked.run.numbered (told_numbers e.start now told asked.run) asked.run.gone (held_unnoted asked.run.was asked.run.all asked.run.held asked.run.said)

          by_same : (q : Asked) → request_of now q.nr ≡ Some q → all_asked now q ≡ false → (check_of q.nr told.checks ≡ check_of q.nr asked.run.all) ⊎ HasGoneOn now told.checks q.nr → todo_of told.checks q.nr ≡ None
          by_same q found open_ (inl same) =
              ap (λ (o : Option OpenCheck). option_and_then prompt_of (option_map outcome_of o)) same ∙ whole q found open_
          by_same q found open_ (inr gone) = todo_none q.nr told.checks gone.none

      at : (start : Seen) → start ≡ e.start → (later : List LogRow) → prompts_duly (record { start = e.start; now = (here_of e out).now; done = (here_of e out).done; later = later }) row ≡ true → prompts_duly (record { start = start; now = (here_of e out).now; done = (here_of e out).done; later = later }) row ≡ true
      at start same later passes_ = subst (λ (s : Seen). prompts_duly (record { start = s; now = (here_of e out).now; done = (here_of e out).done; later = later }) row ≡ true) (sym same) passes_

      prompts : (later : List LogRow) → PromptsCome e.start (todo_of told.checks) next_ later → prompts_duly (point_at (here_of e out) later) row ≡ true
      prompts later come =
          at (here_of e out).start (start_is e out) later (duly e.start (todo_of told.checks) none_ran now row later keeps drops come (agree_none (todo_of told.checks) next_ later) (here_of e out).done (told_numbers e.start now told asked.run) (settles_due e.start (todo_of told.checks) none_ran now row asked.stays asked.prompted unnoted_now))

  -- whichever it is, they go on to pass, and what is carried to hold
  pub more_pass : PassIf Before e (todo_of told.checks) out → PassesBy → PassIf Rest e (todo_of (tell_row told kind).checks) (out ++ kind ∷ [])
  more_pass pass may = by_document (discarded_by kind) refl
    where
      Next : Option DocId → Type 0
      Next o = PassIf Rest e (todo_of (tell_for told o).checks) (out ++ kind ∷ [])

      by_document : (o : Option DocId) → discarded_by kind ≡ o → PassIf Rest e (todo_of (tell_row told kind).checks) (out ++ kind ∷ [])
      by_document None none = subst Next (sym none) (other_passes none pass may)
      by_document (Some doc) own =
          let its = is_discard kind doc own in
          let at : SendsBeside e.checking now its.0 its.0.task = subst (λ (k : RowKind). GoesBeside e.checking now k) its.1 beside in
          let there : SendsBeside e.checking now its.0 tasks.Discard = subst (λ (k : Task). SendsBeside e.checking now its.0 k) its.2 at in
          subst Next (sym own) (discard_passes its.0 its.1 its.2 there.0 there.1 pass may)

  pub more_duly : AllOthersPass e.checking next_ → AreAskedDuly e.checking e.start next_ (tell_row told kind)
  more_duly passes = by_document (discarded_by kind) refl
    where
      Next : Option DocId → Type 0
      Next o = AreAskedDuly e.checking e.start next_ (tell_for told o)

      by_document : (o : Option DocId) → discarded_by kind ≡ o → AreAskedDuly e.checking e.start next_ (tell_row told kind)
      by_document None none = subst Next (sym none) (other_duly e.checking e.start now e.event e.actor told asked kind beside none passes)
      by_document (Some doc) own =
          let its = is_discard kind doc own in
          let at : SendsBeside e.checking now its.0 its.0.task = subst (λ (k : RowKind). GoesBeside e.checking now k) its.1 beside in
          let there : SendsBeside e.checking now its.0 tasks.Discard = subst (λ (k : Task). SendsBeside e.checking now its.0 k) its.2 at in
          let same : doc ≡ its.0.doc = sym its.3 in
          subst Next (sym own) (subst (λ (x : DocId). AreAskedDuly e.checking e.start next_ (record told { run = told.run ++ x ∷ [] })) its.3 (discard_duly e.checking e.start now e.event e.actor told asked kind beside its.0 its.1 its.2 there.0 there.1))
