-- A coordinator at work that puts out a request that begins and the orders of its questions, by its tables: they are the questions that it is to ask.
use Rattle.asking_facts.specs.Asking.{AreQuestions, AreQuestionsFrom, questions_sent}
use Rattle.log_model.specs.Orders.{Question}
use Rattle.log_model.specs.Seen.{Document, Seen, document_of}
use Rattle.log_model.specs.declared.row_kind.RowKind.{RowKind}
use Rattle.log_model.specs.declared.row_kind.RowKind.TheVariants as rows
use Rattle.seen_laws.proofs.InEvents.{now_is}
use Rattle.seen_laws.specs.InEvent.{InEvent, log_of, now_of}
use Rattle.seen_laws.specs.Unasked.{unhandled}
use Rattle.std.proofs.Common.{List, Option, Some, ap, append_assoc, subst, ℕ, length, [], ◌++◌, ◌+◌, ◌∙◌, ◌∷◌, ◌≡◌}
use Rattle.std.specs.Option.{option_map_or}
use Rattle.std.specs.Prelude.{option_map}
use Rattle.tab_asks.proofs.Orders.{are_from}
use Rattle.tab_asks.specs.Asks.{AreThere, HasBegunAsking, HaveProcs, proc_noted, question_orders}
use Rattle.tab_doors.proofs.Whose.{proc_found, proc_known, proc_noted as noted_at}
use Rattle.tab_doors.specs.Working.{IsAtWork}
use Rattle.tab_doors.specs.declared.tables.Tables.{Tables}
use Rattle.tab_ids.specs.declared.DocId.{DocId}
use Rattle.tab_ids.specs.declared.ProcId.{ProcId}
use Rattle.tab_ids.specs.declared.ReqId.{ReqId}
use Rattle.tab_ids.specs.declared.Step.{Step}
use Rattle.unasked.proofs.Readings.{document_read}

module _ (e : InEvent) (out : List RowKind) (t : Tables) (work : IsAtWork e out t) where
  -- a document of the log is there in the log without questions
  seen_bare : (doc : DocId) (d : Document) → document_of (log_of e out) doc ≡ Some d → document_of (now_of e out) doc ≡ Some (unhandled d)
  seen_bare doc d found =
      ap (λ (s : Seen). document_of s doc) (now_is e out)
      ∙ document_read e.checking (log_of e out) doc
      ∙ ap (λ (o : Option Document). option_map unhandled o) found

  -- the table has its process
  pub procs_known : (questions : List Question) → AreThere (log_of e out) questions → HaveProcs t.whose.entries questions
  procs_known questions there k d less =
      let is = there k d less in
      proc_known (now_of e out) t.whose.entries work.holds.whose _ (unhandled is.document) (seen_bare _ is.document is.found)

  proc_is : (doc : DocId) (d : Document) → document_of (log_of e out) doc ≡ Some d → proc_noted t.whose.entries doc ≡ d.proc
  proc_is doc d found =
      let bare = seen_bare doc d found in
      ap (λ (o : Option ProcId). option_map_or (λ (p : ProcId). p) o (record { 0 = 0 })) (noted_at (now_of e out) t.whose.entries work.holds.whose doc (unhandled d) bare)
      ∙ proc_found (now_of e out) doc (unhandled d) bare

  -- the next number is that of the log
  next_is : length t.sent.items ≡ (log_of e out).jobs + 1
  next_is = work.holds.sent ∙ ap (λ (s : Seen). s.jobs + 1) (now_is e out)

  pub are_questions : (req : ReqId) (questions : List Question) → AreThere (log_of e out) questions → AreQuestions (log_of e out) req questions (question_orders t.whose.entries req (length t.sent.items) questions)
  are_questions req questions there =
      subst (λ (n : ℕ). AreQuestionsFrom (log_of e out) req n questions (question_orders t.whose.entries req (length t.sent.items) questions)) next_is
      (are_from (log_of e out) t.whose.entries proc_is req (length t.sent.items) questions there)

  -- so the request has begun and asked
  pub has_begun : (req : ReqId) (goal : Option Step) (questions : List Question) (started now : List RowKind) → AreThere (log_of e out) questions → started ≡ out ++ rows.Started req goal ∷ [] → now ≡ started ++ questions_sent (question_orders t.whose.entries req (length t.sent.items) questions) → HasBegunAsking (log_of e out) req goal questions out now
  has_begun req goal questions started now there begins asks =
      record {
        jobs = question_orders t.whose.entries req (length t.sent.items) questions;
        are = are_questions req questions there;
        rows =
            asks
            ∙ ap (λ (l : List RowKind). l ++ questions_sent (question_orders t.whose.entries req (length t.sent.items) questions)) begins
            ∙ append_assoc out (rows.Started req goal ∷ []) (questions_sent (question_orders t.whose.entries req (length t.sent.items) questions));
      }
