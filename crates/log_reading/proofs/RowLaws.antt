-- A row's line is made of words, and is read as the row.
use Rattle.std.proofs.Common.{◌≡◌, ℕ, Bool, true, false, List, [], ◌∷◌, ◌++◌, drop, get_or, Option, Some, None, refl, arith, append_assoc}
use Rattle.std.specs.Prelude.{codes, decimal}
use Rattle.tab_ids.specs.declared.Step.{Step}
use Rattle.tab_ids.specs.declared.StateId.{StateId}
use Rattle.tab_ids.specs.declared.ReqId.{ReqId}
use Rattle.tab_ids.specs.declared.ProcId.{ProcId}
use Rattle.tab_ids.specs.declared.Death.{Death}
use Rattle.tab_ids.specs.declared.DocId.{DocId}
use Rattle.tab_ids.specs.declared.JobId.{JobId}
use Rattle.tab_ids.specs.declared.EntryId.{EntryId}
use Rattle.log_model.specs.declared.change.Change.{Change}
use Rattle.log_model.specs.declared.job.Job.{Job}
use Rattle.log_model.specs.declared.made.Made.{Made}
use Rattle.log_model.specs.declared.outcome.Cause.{Cause}
use Rattle.log_model.specs.declared.outcome.Denial.{Denial}
use Rattle.log_model.specs.declared.outcome.Outcome.{Outcome}
use Rattle.log_model.specs.declared.request.Request.{Request}
use Rattle.log_model.specs.declared.row_kind.LogRow.{LogRow}
use Rattle.log_model.specs.declared.row_kind.RowKind.{RowKind}
use Rattle.log_model.specs.declared.row_kind.RowKind.TheVariants as rows
use Rattle.log_text.specs.Spellings.{entry_name, state_name, doc_name, proc_name, req_name, job_name, death_name, slot_name, poked_name, actor_name, why_name, denial_name, answer_name, dirty_name}
use Rattle.log_text.specs.Lines.{request_words, change_words, task_words, outcome_words, made_words, cause_words, goal_words, taken_words, row_words, spaced, line_end, line_of_row}
use Rattle.log_reading.specs.Readable.{IsKind, IsReadable}
use Rattle.log_reading.specs.Words.{part_of}
use Rattle.log_reading.specs.Fields.{goal_of}
use Rattle.log_reading.specs.Rows.{opened_row, started_row, refused_row, prompted_row, answered_row, taken_of, taken_row, delivered_row, killed_row, evicted_row, accepted_row, applied_row, dropped_row, finished_row, sent_row, made_row, short_kind_of, kind_of, row_of}
use Rattle.log_reading.proofs.WordLaws.{AreWords, joined, Lacks, Lacks-append, word_lacks, first_joined, after_joined, part_joined}
use Rattle.log_reading.proofs.FieldLaws.{plain_back, plain_word, large_word, epoch_back, step_back, state_back, state_word, proc_back, proc_word, req_back, req_word, death_back, death_word, doc_back, doc_word, job_back, job_word, entry_back, entry_word, address_back, address_word, slot_back, slot_word, poked_back, poked_word, actor_back, actor_word, why_back, why_word, denial_back, denial_word, answer_back, answer_word, dirty_back, dirty_word}
use Rattle.log_reading.proofs.TableLaws.{change_are_words, change_back, task_are_words, task_back, outcome_are_words, outcome_back, thing_are_words, thing_back, cause_are_words, cause_back, request_are_words, request_back}

-- ---- words

pub kind_are_words : (row : RowKind) → IsKind row → AreWords (row_words row)
kind_are_words (rows.Opened entry state doc proc slot address) is =
    (record { some = refl; bytes = refl }, (record { some = refl; bytes = refl }, (entry_word entry is.0, (state_word state is.1, (doc_word doc is.2, (proc_word proc is.3, (slot_word slot is.4, (address_word address is.5, tt))))))))
kind_are_words (rows.Accepted req doc what) is = (record { some = refl; bytes = refl }, (req_word req is.0, (poked_word doc is.1, request_are_words what is.2)))
kind_are_words (rows.Started req (Some goal)) is = (record { some = refl; bytes = refl }, (req_word req is.0, (plain_word goal.0 is.1, tt)))
kind_are_words (rows.Started req None) is = (record { some = refl; bytes = refl }, (req_word req is.0, tt))
kind_are_words (rows.Applied req change) is = (record { some = refl; bytes = refl }, (req_word req is.0, change_are_words change is.1))
kind_are_words (rows.Refused req reason) is = (record { some = refl; bytes = refl }, (req_word req is, (denial_word reason, tt)))
kind_are_words (rows.Dropped req cause) is = (record { some = refl; bytes = refl }, (req_word req is.0, cause_are_words cause is.1))
kind_are_words (rows.Prompted req doc) is = (record { some = refl; bytes = refl }, (req_word req is.0, (doc_word doc is.1, tt)))
kind_are_words (rows.Answered req stay) is = (record { some = refl; bytes = refl }, (req_word req is, (answer_word stay, tt)))
kind_are_words (rows.Sent job) is =
    (record { some = refl; bytes = refl }, (job_word job.nr is.nr, (proc_word job.proc is.proc, (plain_word job.incarnation is.incarnation, (doc_word job.doc is.doc, (why_word job.why is.why, task_are_words job.task is.task))))))
kind_are_words (rows.Taken proc job true dirty) is = (record { some = refl; bytes = refl }, (proc_word proc is.0, (job_word job is.1, (record { some = refl; bytes = refl }, (dirty_word dirty, tt)))))
kind_are_words (rows.Taken proc job false dirty) is = (record { some = refl; bytes = refl }, (proc_word proc is.0, (job_word job is.1, (record { some = refl; bytes = refl }, tt))))
kind_are_words (rows.Finished proc job outcome) is = (record { some = refl; bytes = refl }, (proc_word proc is.0, (job_word job is.1, outcome_are_words outcome is.2)))
kind_are_words (rows.Made proc made) is =
    (record { some = refl; bytes = refl }, (proc_word proc is.0, (req_word made.req is.1.req, (doc_word made.doc is.1.doc, (large_word made.epoch.0 is.1.epoch, thing_are_words made.what is.1.what)))))
kind_are_words (rows.Delivered proc) is = (record { some = refl; bytes = refl }, (proc_word proc is, tt))
kind_are_words (rows.Killed proc death) is = (record { some = refl; bytes = refl }, (proc_word proc is.0, (death_word death is.1, tt)))
kind_are_words (rows.Evicted state) is = (record { some = refl; bytes = refl }, (state_word state is, tt))

-- ---- rows of few words

opened_back : (entry : EntryId) (state : StateId) (doc : DocId) (proc : ProcId) (slot : Option ℕ) (address : List ℕ) → IsKind (rows.Opened entry state doc proc slot address) → opened_row (part_of (joined (codes "n0" ∷ entry_name entry ∷ state_name state ∷ doc_name doc ∷ proc_name proc ∷ slot_name slot ∷ address ∷ []))) ≡ Some (rows.Opened entry state doc proc slot address)
unfolding opened_row
opened_back entry state doc proc slot address is = rw (part_joined (codes "n0" ∷ entry_name entry ∷ state_name state ∷ doc_name doc ∷ proc_name proc ∷ slot_name slot ∷ address ∷ []) (kind_are_words (rows.Opened entry state doc proc slot address) is).1, entry_back entry is.0, state_back state is.1, doc_back doc is.2, proc_back proc is.3, slot_back slot is.4, address_back address is.5) refl

refused_back : (req : ReqId) (reason : Denial) → IsKind (rows.Refused req reason) → refused_row (part_of (joined (req_name req ∷ denial_name reason ∷ []))) ≡ Some (rows.Refused req reason)
unfolding refused_row
refused_back req reason is = rw (part_joined (req_name req ∷ denial_name reason ∷ []) (kind_are_words (rows.Refused req reason) is).1, req_back req is, denial_back reason) refl

prompted_back : (req : ReqId) (doc : DocId) → IsKind (rows.Prompted req doc) → prompted_row (part_of (joined (req_name req ∷ doc_name doc ∷ []))) ≡ Some (rows.Prompted req doc)
unfolding prompted_row
prompted_back req doc is = rw (part_joined (req_name req ∷ doc_name doc ∷ []) (kind_are_words (rows.Prompted req doc) is).1, req_back req is.0, doc_back doc is.1) refl

answered_back : (req : ReqId) (stay : Bool) → IsKind (rows.Answered req stay) → answered_row (part_of (joined (req_name req ∷ answer_name stay ∷ []))) ≡ Some (rows.Answered req stay)
unfolding answered_row
answered_back req stay is = rw (part_joined (req_name req ∷ answer_name stay ∷ []) (kind_are_words (rows.Answered req stay) is).1, req_back req is, answer_back stay) refl

delivered_back : (proc : ProcId) → IsKind (rows.Delivered proc) → delivered_row (part_of (joined (proc_name proc ∷ []))) ≡ Some (rows.Delivered proc)
unfolding delivered_row
delivered_back proc is = rw (part_joined (proc_name proc ∷ []) (kind_are_words (rows.Delivered proc) is).1, proc_back proc is) refl

killed_back : (proc : ProcId) (death : Death) → IsKind (rows.Killed proc death) → killed_row (part_of (joined (proc_name proc ∷ death_name death ∷ []))) ≡ Some (rows.Killed proc death)
unfolding killed_row
killed_back proc death is = rw (part_joined (proc_name proc ∷ death_name death ∷ []) (kind_are_words (rows.Killed proc death) is).1, proc_back proc is.0, death_back death is.1) refl

evicted_back : (state : StateId) → IsKind (rows.Evicted state) → evicted_row (part_of (joined (state_name state ∷ []))) ≡ Some (rows.Evicted state)
unfolding evicted_row
evicted_back state is = rw (part_joined (state_name state ∷ []) (kind_are_words (rows.Evicted state) is).1, state_back state is) refl

started_back : (req : ReqId) (goal : Option Step) → IsKind (rows.Started req goal) → started_row (part_of (joined (req_name req ∷ goal_words goal))) ≡ Some (rows.Started req goal)
unfolding started_row goal_of
started_back req (Some goal) is =
    rw (part_joined (req_name req ∷ decimal goal.0 ∷ []) (kind_are_words (rows.Started req (Some goal)) is).1, req_back req is.0, (plain_word goal.0 is.1).some, step_back goal is.1) refl
started_back req None is = rw (part_joined (req_name req ∷ []) (kind_are_words (rows.Started req None) is).1, req_back req is.0) refl

taken_back : (proc : ProcId) (job : JobId) (live dirty : Bool) → IsKind (rows.Taken proc job live dirty) → taken_row (part_of (joined (proc_name proc ∷ job_name job ∷ taken_words live dirty))) ≡ Some (rows.Taken proc job live dirty)
unfolding taken_row taken_of
taken_back proc job true dirty is =
    rw (part_joined (proc_name proc ∷ job_name job ∷ codes "live" ∷ dirty_name dirty ∷ []) (kind_are_words (rows.Taken proc job true dirty) is).1, proc_back proc is.0, job_back job is.1, dirty_back dirty) refl
taken_back proc job false true is = cc
taken_back proc job false false is =
    rw (part_joined (proc_name proc ∷ job_name job ∷ codes "void" ∷ []) (kind_are_words (rows.Taken proc job false false) is).1, proc_back proc is.0, job_back job is.1) refl

-- ---- rows that tell of more

accepted_back : (req : ReqId) (doc : Option DocId) (what : Request) → IsKind (rows.Accepted req doc what) → accepted_row (joined (req_name req ∷ poked_name doc ∷ request_words what)) ≡ Some (rows.Accepted req doc what)
unfolding accepted_row
accepted_back req doc what is =
    rw (after_joined (req_name req ∷ poked_name doc ∷ request_words what) (kind_are_words (rows.Accepted req doc what) is).1, first_joined (req_name req ∷ poked_name doc ∷ request_words what) (kind_are_words (rows.Accepted req doc what) is).1, after_joined (poked_name doc ∷ request_words what) (kind_are_words (rows.Accepted req doc what) is).1.1, first_joined (poked_name doc ∷ request_words what) (kind_are_words (rows.Accepted req doc what) is).1.1, part_joined (request_words what) (kind_are_words (rows.Accepted req doc what) is).1.1.1, req_back req is.0, poked_back doc is.1, request_back what is.2) refl

applied_back : (req : ReqId) (change : Change) → IsKind (rows.Applied req change) → applied_row (joined (req_name req ∷ change_words change)) ≡ Some (rows.Applied req change)
unfolding applied_row
applied_back req change is =
    rw (after_joined (req_name req ∷ change_words change) (kind_are_words (rows.Applied req change) is).1, first_joined (req_name req ∷ change_words change) (kind_are_words (rows.Applied req change) is).1, part_joined (change_words change) (kind_are_words (rows.Applied req change) is).1.1, req_back req is.0, change_back change is.1) refl

dropped_back : (req : ReqId) (cause : Cause) → IsKind (rows.Dropped req cause) → dropped_row (joined (req_name req ∷ cause_words cause)) ≡ Some (rows.Dropped req cause)
unfolding dropped_row
dropped_back req cause is =
    rw (after_joined (req_name req ∷ cause_words cause) (kind_are_words (rows.Dropped req cause) is).1, first_joined (req_name req ∷ cause_words cause) (kind_are_words (rows.Dropped req cause) is).1, part_joined (cause_words cause) (kind_are_words (rows.Dropped req cause) is).1.1, req_back req is.0, cause_back cause is.1) refl

finished_back : (proc : ProcId) (job : JobId) (outcome : Outcome) → IsKind (rows.Finished proc job outcome) → finished_row (joined (proc_name proc ∷ job_name job ∷ outcome_words outcome)) ≡ Some (rows.Finished proc job outcome)
unfolding finished_row
finished_back proc job outcome is =
    rw (after_joined (proc_name proc ∷ job_name job ∷ outcome_words outcome) (kind_are_words (rows.Finished proc job outcome) is).1, first_joined (proc_name proc ∷ job_name job ∷ outcome_words outcome) (kind_are_words (rows.Finished proc job outcome) is).1, after_joined (job_name job ∷ outcome_words outcome) (kind_are_words (rows.Finished proc job outcome) is).1.1, first_joined (job_name job ∷ outcome_words outcome) (kind_are_words (rows.Finished proc job outcome) is).1.1, part_joined (outcome_words outcome) (kind_are_words (rows.Finished proc job outcome) is).1.1.1, proc_back proc is.0, job_back job is.1, outcome_back outcome is.2) refl

sent_back : (job : Job) → IsKind (rows.Sent job) → sent_row (joined (job_name job.nr ∷ proc_name job.proc ∷ decimal job.incarnation ∷ doc_name job.doc ∷ why_name job.why ∷ task_words job.task)) ≡ Some (rows.Sent job)
unfolding sent_row
sent_back job is =
    rw (after_joined (job_name job.nr ∷ proc_name job.proc ∷ decimal job.incarnation ∷ doc_name job.doc ∷ why_name job.why ∷ task_words job.task) (kind_are_words (rows.Sent job) is).1, first_joined (job_name job.nr ∷ proc_name job.proc ∷ decimal job.incarnation ∷ doc_name job.doc ∷ why_name job.why ∷ task_words job.task) (kind_are_words (rows.Sent job) is).1, after_joined (proc_name job.proc ∷ decimal job.incarnation ∷ doc_name job.doc ∷ why_name job.why ∷ task_words job.task) (kind_are_words (rows.Sent job) is).1.1, first_joined (proc_name job.proc ∷ decimal job.incarnation ∷ doc_name job.doc ∷ why_name job.why ∷ task_words job.task) (kind_are_words (rows.Sent job) is).1.1, after_joined (decimal job.incarnation ∷ doc_name job.doc ∷ why_name job.why ∷ task_words job.task) (kind_are_words (rows.Sent job) is).1.1.1, first_joined (decimal job.incarnation ∷ doc_name job.doc ∷ why_name job.why ∷ task_words job.task) (kind_are_words (rows.Sent job) is).1.1.1, after_joined (doc_name job.doc ∷ why_name job.why ∷ task_words job.task) (kind_are_words (rows.Sent job) is).1.1.1.1, first_joined (doc_name job.doc ∷ why_name job.why ∷ task_words job.task) (kind_are_words (rows.Sent job) is).1.1.1.1, after_joined (why_name job.why ∷ task_words job.task) (kind_are_words (rows.Sent job) is).1.1.1.1.1, first_joined (why_name job.why ∷ task_words job.task) (kind_are_words (rows.Sent job) is).1.1.1.1.1, part_joined (task_words job.task) (kind_are_words (rows.Sent job) is).1.1.1.1.1.1, job_back job.nr is.nr, proc_back job.proc is.proc, plain_back job.incarnation is.incarnation, doc_back job.doc is.doc, why_back job.why is.why, task_back job.task is.task) refl

made_back : (proc : ProcId) (made : Made) → IsKind (rows.Made proc made) → made_row (joined (proc_name proc ∷ req_name made.req ∷ doc_name made.doc ∷ decimal made.epoch.0 ∷ made_words made.what)) ≡ Some (rows.Made proc made)
unfolding made_row
made_back proc made is =
    rw (after_joined (proc_name proc ∷ req_name made.req ∷ doc_name made.doc ∷ decimal made.epoch.0 ∷ made_words made.what) (kind_are_words (rows.Made proc made) is).1, first_joined (proc_name proc ∷ req_name made.req ∷ doc_name made.doc ∷ decimal made.epoch.0 ∷ made_words made.what) (kind_are_words (rows.Made proc made) is).1, after_joined (req_name made.req ∷ doc_name made.doc ∷ decimal made.epoch.0 ∷ made_words made.what) (kind_are_words (rows.Made proc made) is).1.1, first_joined (req_name made.req ∷ doc_name made.doc ∷ decimal made.epoch.0 ∷ made_words made.what) (kind_are_words (rows.Made proc made) is).1.1, after_joined (doc_name made.doc ∷ decimal made.epoch.0 ∷ made_words made.what) (kind_are_words (rows.Made proc made) is).1.1.1, first_joined (doc_name made.doc ∷ decimal made.epoch.0 ∷ made_words made.what) (kind_are_words (rows.Made proc made) is).1.1.1, after_joined (decimal made.epoch.0 ∷ made_words made.what) (kind_are_words (rows.Made proc made) is).1.1.1.1, first_joined (decimal made.epoch.0 ∷ made_words made.what) (kind_are_words (rows.Made proc made) is).1.1.1.1, part_joined (made_words made.what) (kind_are_words (rows.Made proc made) is).1.1.1.1.1, proc_back proc is.0, req_back made.req is.1.req, doc_back made.doc is.1.doc, epoch_back made.epoch is.1.epoch, thing_back made.what is.1.what) refl

-- ---- any row

-- what follows the kind of a row is read as the row
pub kind_back : (row : RowKind) → IsKind row → kind_of (get_or (row_words row) 0 []) (joined (drop 1 (row_words row))) ≡ Some row
unfolding kind_of short_kind_of
kind_back (rows.Opened entry state doc proc slot address) is = opened_back entry state doc proc slot address is
kind_back (rows.Refused req reason) is = refused_back req reason is
kind_back (rows.Prompted req doc) is = prompted_back req doc is
kind_back (rows.Answered req stay) is = answered_back req stay is
kind_back (rows.Delivered proc) is = delivered_back proc is
kind_back (rows.Killed proc death) is = killed_back proc death is
kind_back (rows.Evicted state) is = evicted_back state is
kind_back (rows.Started req goal) is = started_back req goal is
kind_back (rows.Taken proc job live dirty) is = taken_back proc job live dirty is
kind_back (rows.Accepted req doc what) is = accepted_back req doc what is
kind_back (rows.Applied req change) is = applied_back req change is
kind_back (rows.Dropped req cause) is = dropped_back req cause is
kind_back (rows.Finished proc job outcome) is = finished_back proc job outcome is
kind_back (rows.Sent job) is = sent_back job is
kind_back (rows.Made proc made) is = made_back proc made is

-- ---- lines

-- the words of a row's line
abbrev pub words_of : LogRow → List (List ℕ)
words_of row = decimal row.event ∷ actor_name row.actor ∷ row_words row.row

-- the line without its end
abbrev pub text_of : LogRow → List ℕ
text_of row = joined (words_of row)

pub row_are_words : (row : LogRow) → IsReadable row → AreWords (words_of row)
row_are_words row is = (plain_word row.event is.event, (actor_word row.actor is.actor, kind_are_words row.row is.kind))

pub row_back : (row : LogRow) → IsReadable row → row_of (text_of row) ≡ Some row
unfolding row_of
row_back row is =
    let are = row_are_words row is in
    rw (
      after_joined (words_of row) are,
      after_joined (actor_name row.actor ∷ row_words row.row) are.1,
      after_joined (row_words row.row) are.1.1,
      first_joined (words_of row) are,
      first_joined (actor_name row.actor ∷ row_words row.row) are.1,
      first_joined (row_words row.row) are.1.1,
      plain_back row.event is.event,
      actor_back row.actor is.actor,
      kind_back row.row is.kind,
    )
    refl

spaced_lacks : (ws : List (List ℕ)) → AreWords ws → Lacks 10 (spaced ws)
spaced_lacks [] are = tt
spaced_lacks (w ∷ ws) are = (refl, Lacks-append 10 w (spaced ws) (word_lacks 10 w (omega arith) are.0.bytes) (spaced_lacks ws are.1))

-- a line has a line feed at its end alone
pub row_lacks : (row : LogRow) → IsReadable row → Lacks 10 (text_of row)
row_lacks row is =
    let are = row_are_words row is in
    Lacks-append 10 (decimal row.event) (spaced (actor_name row.actor ∷ row_words row.row)) (word_lacks 10 (decimal row.event) (omega arith) are.0.bytes) (spaced_lacks (actor_name row.actor ∷ row_words row.row) are.1)

pub line_is : (row : LogRow) (more : List ℕ) → line_of_row row ++ more ≡ text_of row ++ 10 ∷ more
line_is row more = append_assoc (text_of row) line_end more
