-- The orders of questions one after the other: with one question more, and that they ask what they are to.
use Rattle.asking_facts.specs.Asking.{AreQuestionsFrom, IsQuestion, questions_sent}
use Rattle.log_model.specs.Orders.{Question}
use Rattle.log_model.specs.Seen.{Document, Seen, desk_of, document_of}
use Rattle.log_model.specs.declared.job.Job.{Job}
use Rattle.log_model.specs.declared.row_kind.RowKind.{RowKind}
use Rattle.log_model.specs.declared.row_kind.RowKind.TheVariants as rows
use Rattle.std.proofs.Common.{List, Some, [], ap, add-one, append_assoc, arith, get_or, length, refl, sym, take, ℕ, suc, ◌++◌, ◌+◌, ◌<◌, ◌∙◌, ◌∷◌, ◌≡◌}
use Rattle.std.proofs.Math.Seq.{length-take-le, take-suc}
use Rattle.tab_asks.specs.Asks.{AreThere, HasCounted, proc_noted, question_order, question_orders}
use Rattle.tab_doors.specs.Orders.{IsThere}
use Rattle.tab_doors.specs.declared.birth.Birth.{Birth}
use Rattle.tab_doors.specs.declared.tables.Tables.{Tables}
use Rattle.tab_ids.specs.declared.DocId.{DocId}
use Rattle.tab_ids.specs.declared.ProcId.{ProcId}
use Rattle.tab_ids.specs.declared.ReqId.{ReqId}

module _ (whose : List (DocId × Birth)) (req : ReqId) where
  -- the order of one question more comes last, with the next number
  pub orders_more : (number : ℕ) (questions : List Question) (question : Question) → question_orders whose req number (questions ++ question ∷ []) ≡ question_orders whose req number questions ++ question_order whose req (number + length questions) question ∷ []
  orders_more number [] question =
      let same : number ≡ number + 0 = omega (arith) in
      ap (λ (n : ℕ). question_order whose req n question ∷ []) same
  orders_more number (first ∷ rest) question =
      let same : (number + 1) + length rest ≡ number + suc (length rest) = omega (arith) in
      ap (λ (jobs : List Job). question_order whose req number first ∷ jobs)
      (orders_more (number + 1) rest question
      ∙ ap (λ (n : ℕ). question_orders whose req (number + 1) rest ++ question_order whose req n question ∷ []) same)

  -- and so does its row
  pub sent_more : (number : ℕ) (questions : List Question) (question : Question) → questions_sent (question_orders whose req number (questions ++ question ∷ [])) ≡ questions_sent (question_orders whose req number questions) ++ rows.Sent (question_order whose req (number + length questions) question) ∷ []
  sent_more number questions question =
      ap questions_sent (orders_more number questions question)
      ∙ sent_last (question_orders whose req number questions) (question_order whose req (number + length questions) question)
    where
      sent_last : (jobs : List Job) (job : Job) → questions_sent (jobs ++ job ∷ []) ≡ questions_sent jobs ++ rows.Sent job ∷ []
      sent_last [] job = refl
      sent_last (first ∷ rest) job = ap (λ (l : List RowKind). rows.Sent first ∷ l) (sent_last rest job)

-- where the table has the process of each document of the log, they ask these questions
module _ (s : Seen) (whose : List (DocId × Birth)) (procs : (doc : DocId) (d : Document) → document_of s doc ≡ Some d → proc_noted whose doc ≡ d.proc) (req : ReqId) where
  pub is_question : (number : ℕ) (question : Question) → IsThere s question.0 → IsQuestion s req number question (question_order whose req number question)
  is_question number question there =
      let at : proc_noted whose question.0 ≡ there.document.proc = procs question.0 there.document there.found in
      record {
        nr = refl;
        doc = refl;
        task = refl;
        why = refl;
        incarnation = sym (ap (λ (p : ProcId). (desk_of s p).known) at ∙ there.known);
        document = there.document;
        to = record { found = there.found; proc = sym at; alive = there.alive };
      }

  pub are_from : (number : ℕ) (questions : List Question) → AreThere s questions → AreQuestionsFrom s req number questions (question_orders whose req number questions)
  are_from number [] there = tt
  are_from number (question ∷ questions) there = (
    is_question number question (there 0 question (omega (arith))),
    are_from (number + 1) questions (λ k d less. there (suc k) d (omega (arith, less))),
  )

-- ---- one turn of the loop

-- one order more was counted
pub counted_more : (orders : ℕ) (t u v : Tables) → HasCounted orders t u → HasCounted 1 u v → HasCounted (orders + 1) t v
counted_more orders t u v before more =
    let was : length u.sent.items ≡ length t.sent.items + orders = before.counted in
    let now : length v.sent.items ≡ length u.sent.items + 1 = more.counted in
    record {
      counted = omega (arith, was, now);
      only = more.only ∙ ap (λ (x : Tables). let y : Tables = record x { sent = v.sent } in y) before.only;
    }

-- and its row was put out
pub out_more : (t u : Tables) (req : ReqId) (first was now : List RowKind) (questions : List Question) (i : ℕ) (question : Question) → i < length questions → question ≡ get_or questions i question → HasCounted i t u → was ≡ first ++ questions_sent (question_orders t.whose.entries req (length t.sent.items) (take i questions)) → now ≡ was ++ rows.Sent (question_order u.whose.entries req (length u.sent.items) question) ∷ [] → now ≡ first ++ questions_sent (question_orders t.whose.entries req (length t.sent.items) (take (i + 1) questions))
out_more t u req first was now questions i question within item before rows_ more =
    more
    ∙ ap (λ (l : List RowKind). l ++ rows.Sent (question_order u.whose.entries req (length u.sent.items) question) ∷ []) rows_
    ∙ append_assoc first (questions_sent (question_orders whose req number done)) (rows.Sent (question_order u.whose.entries req (length u.sent.items) question) ∷ [])
    ∙ ap (λ (l : List RowKind). first ++ l)
    (ap (λ (b : List (DocId × Birth)). questions_sent (question_orders whose req number done) ++ rows.Sent (question_order b req (length u.sent.items) question) ∷ []) whose_same
    ∙ ap (λ (n : ℕ). questions_sent (question_orders whose req number done) ++ rows.Sent (question_order whose req n question) ∷ []) count_is
    ∙ sym (sent_more whose req number done question)
    ∙ ap (λ (l : List Question). questions_sent (question_orders whose req number l)) taken)
  where
    whose : List (DocId × Birth)
    whose = t.whose.entries

    number : ℕ
    number = length t.sent.items

    done : List Question
    done = take i questions

    whose_same : u.whose.entries ≡ whose
    whose_same = ap (λ (x : Tables). x.whose.entries) before.only

    count_is : length u.sent.items ≡ number + length done
    count_is =
        let so_far : length u.sent.items ≡ number + i = before.counted in
        let short : length (take i questions) ≡ i = length-take-le i questions (omega (arith, within)) in
        omega (arith, so_far, short)

    taken : done ++ question ∷ [] ≡ take (i + 1) questions
    taken =
        ap (λ (x : Question). done ++ x ∷ []) item
        ∙ sym (rw add-one (take-suc questions i question within))
