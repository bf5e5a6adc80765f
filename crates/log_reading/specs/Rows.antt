-- What a line without its end may spell: the row that is read of it, which is taken where its line is the same.
-- This project's own.
use Rattle.std.specs.Prelude.{ℕ, Bool, true, false, List, codes, bytes_eq, Option, Some, None, if◌then◌else◌}
use Rattle.log_model.specs.declared.row_kind.LogRow.{LogRow}
use Rattle.log_model.specs.declared.row_kind.RowKind.{RowKind}
use Rattle.log_model.specs.declared.row_kind.RowKind.TheVariants as rows
use Rattle.log_reading.specs.Chain.{◌>>=◌}
use Rattle.log_reading.specs.Words.{Part, part_of, first_word, after_word}
use Rattle.log_reading.specs.Fields.{plain_of, epoch_of, state_of, req_of, death_of, proc_of, doc_of, job_of, entry_of, written_of, slot_of, poked_of, goal_of, actor_of, why_of, denial_of, either_of}
use Rattle.log_reading.specs.Tables.{request_of, change_of, task_of, outcome_of, thing_of, cause_of}

-- ---- rows whose words are few

unfoldable pub opened_row : Part → Option RowKind
opened_row part = do
  entry ← entry_of part.a
  state ← state_of part.b
  doc ← doc_of part.c
  proc ← proc_of part.d
  slot ← slot_of part.e
  address ← written_of part.f
  Some (rows.Opened entry state doc proc slot address)

unfoldable pub started_row : Part → Option RowKind
started_row part = do
  req ← req_of part.name
  goal ← goal_of part.a
  Some (rows.Started req goal)

unfoldable pub refused_row : Part → Option RowKind
refused_row part = do
  req ← req_of part.name
  reason ← denial_of part.a
  Some (rows.Refused req reason)

unfoldable pub prompted_row : Part → Option RowKind
prompted_row part = do
  req ← req_of part.name
  doc ← doc_of part.a
  Some (rows.Prompted req doc)

unfoldable pub answered_row : Part → Option RowKind
answered_row part = do
  req ← req_of part.name
  stay ← either_of (codes "stay") (codes "leave") part.a
  Some (rows.Answered req stay)

-- whether the order was taken up by a live process, and whether its document was dirty; one taken up in vain isn't
unfoldable pub taken_of : Part → Option (Bool × Bool)
taken_of part =
    if bytes_eq part.b (codes "void") then Some (false, false)
    else (either_of (codes "dirty") (codes "clean") part.c >>= λ dirty. Some (true, dirty))

unfoldable pub taken_row : Part → Option RowKind
taken_row part = do
  proc ← proc_of part.name
  job ← job_of part.a
  taken ← taken_of part
  Some (rows.Taken proc job taken.0 taken.1)

unfoldable pub delivered_row : Part → Option RowKind
delivered_row part = proc_of part.name >>= λ proc. Some (rows.Delivered proc)

unfoldable pub killed_row : Part → Option RowKind
killed_row part = do
  proc ← proc_of part.name
  death ← death_of part.a
  Some (rows.Killed proc death)

unfoldable pub evicted_row : Part → Option RowKind
evicted_row part = state_of part.name >>= λ state. Some (rows.Evicted state)

-- ---- rows that tell of more

unfoldable pub accepted_row : List ℕ → Option RowKind
accepted_row text =
    let rest = after_word text in
    do
      req ← req_of (first_word text)
      doc ← poked_of (first_word rest)
      what ← request_of (part_of (after_word rest))
      Some (rows.Accepted req doc what)

unfoldable pub applied_row : List ℕ → Option RowKind
applied_row text = do
  req ← req_of (first_word text)
  change ← change_of (part_of (after_word text))
  Some (rows.Applied req change)

unfoldable pub dropped_row : List ℕ → Option RowKind
dropped_row text = do
  req ← req_of (first_word text)
  cause ← cause_of (part_of (after_word text))
  Some (rows.Dropped req cause)

unfoldable pub finished_row : List ℕ → Option RowKind
finished_row text =
    let rest = after_word text in
    do
      proc ← proc_of (first_word text)
      job ← job_of (first_word rest)
      outcome ← outcome_of (part_of (after_word rest))
      Some (rows.Finished proc job outcome)

unfoldable pub sent_row : List ℕ → Option RowKind
sent_row text =
    let t1 = after_word text in
    let t2 = after_word t1 in
    let t3 = after_word t2 in
    let t4 = after_word t3 in
    do
      nr ← job_of (first_word text)
      proc ← proc_of (first_word t1)
      incarnation ← plain_of (first_word t2)
      doc ← doc_of (first_word t3)
      why ← why_of (first_word t4)
      task ← task_of (part_of (after_word t4))
      Some (rows.Sent (record { nr = nr; proc = proc; incarnation = incarnation; doc = doc; why = why; task = task }))

unfoldable pub made_row : List ℕ → Option RowKind
made_row text =
    let t1 = after_word text in
    let t2 = after_word t1 in
    let t3 = after_word t2 in
    do
      proc ← proc_of (first_word text)
      req ← req_of (first_word t1)
      doc ← doc_of (first_word t2)
      epoch ← epoch_of (first_word t3)
      what ← thing_of (part_of (after_word t3))
      Some (rows.Made proc (record { req = req; doc = doc; epoch = epoch; what = what }))

-- ---- the table

-- the row of a kind that what follows the kind tells of, where it is one of few words
unfoldable pub short_kind_of : List ℕ → Part → Option RowKind
short_kind_of kind part =
    if bytes_eq kind (codes "opened") then opened_row part
    else (if bytes_eq kind (codes "started") then started_row part
    else (if bytes_eq kind (codes "refused") then refused_row part
    else (if bytes_eq kind (codes "prompted") then prompted_row part
    else (if bytes_eq kind (codes "answered") then answered_row part
    else (if bytes_eq kind (codes "taken") then taken_row part
    else (if bytes_eq kind (codes "delivered") then delivered_row part
    else (if bytes_eq kind (codes "killed") then killed_row part
    else (if bytes_eq kind (codes "evicted") then evicted_row part
    else None))))))))

-- the same of any kind
unfoldable pub kind_of : List ℕ → List ℕ → Option RowKind
kind_of kind text =
    if bytes_eq kind (codes "accepted") then accepted_row text
    else (if bytes_eq kind (codes "applied") then applied_row text
    else (if bytes_eq kind (codes "dropped") then dropped_row text
    else (if bytes_eq kind (codes "finished") then finished_row text
    else (if bytes_eq kind (codes "sent") then sent_row text
    else (if bytes_eq kind (codes "made") then made_row text
    else short_kind_of kind (part_of text))))))

-- the event's number, who acts, and what happened
unfoldable pub row_of : List ℕ → Option LogRow
row_of line =
    let t1 = after_word line in
    let t2 = after_word t1 in
    do
      event ← plain_of (first_word line)
      actor ← actor_of (first_word t1)
      row ← kind_of (first_word t2) (after_word t2)
      Some (record { event = event; actor = actor; row = row })
