-- What is read of a log in that as it would be had nobody been asked: of requests, orders and documents.
use Rattle.log_model.specs.Seen.{Asked, Desk, Document, Seen, desk_of, document_of, request_in, request_of}
use Rattle.log_model.specs.declared.job.Job.{Job}
use Rattle.log_model.specs.declared.job.Order.{Order}
use Rattle.log_model.specs.declared.request.Poke.{Poke}
use Rattle.seen_facts.specs.Request.Cores.{Core, core, core_of}
use Rattle.seen_laws.specs.Unasked.{is_question, no_question_in_hand, unasked, unasked_request, unbegun, unhandled, without_asks}
use Rattle.std.proofs.Common.{Bool, None, Option, Some, ap, cond, false, refl, true, ◌∙◌, ◌≡◌}
use Rattle.std.specs.Prelude.{option_and_then, option_map, slice_get}
use Rattle.tab_ids.specs.declared.DocId.{DocId}
use Rattle.tab_ids.specs.declared.ProcId.{ProcId}
use Rattle.tab_ids.specs.declared.ReqId.{ReqId}
use Rattle.unasked.proofs.Readings.{checked_off, desk_read, document_read, request_in_read}
use Rattle.unasked.proofs.Rows.{mail_first}
use Rattle.unasked.proofs.Works.{hand_same}

module _ (checking : ReqId → Bool) (s : Seen) where
  -- what a request is, what was made of it, and how it ended
  pub core_same : (q : Asked) → core (unasked_request checking q) ≡ core q
  core_same q =
      elim (checking q.nr) as (λ b. core (let r : Asked = cond b (unbegun q) (without_asks q) in r) ≡ core q) [
        | true ↦ refl
        | false ↦ refl
      ]

  pub core_read : (req : ReqId) → core_of (request_in (unasked checking s).requests req) ≡ core_of (request_in s.requests req)
  core_read req = ap (λ (o : Option Asked). core_of o) (request_in_read checking s req) ∙ by_found (request_in s.requests req)
    where
      by_found : (o : Option Asked) → core_of (option_map (unasked_request checking) o) ≡ core_of o
      by_found None = refl
      by_found (Some q) = ap (λ (c : Core). let o : Option Core = Some c in o) (core_same q)

  -- one that isn't in its check is found, but for what it asked
  pub found_off : (req : ReqId) (q : Asked) → request_of s req ≡ Some q → checking q.nr ≡ false → request_of (unasked checking s) req ≡ Some (without_asks q)
  found_off req q at off =
      request_in_read checking s req
      ∙ ap (λ (o : Option Asked). option_map (unasked_request checking) o) at
      ∙ ap (λ (x : Asked). let o : Option Asked = Some x in o) (checked_off checking q off)

  -- the pokes of a process, the order in its hand that asks nobody, and the first that waits
  pub input_read : (proc : ProcId) (poke : Poke) → slice_get (desk_of s proc).input 0 ≡ Some poke → slice_get (desk_of (unasked checking s) proc).input 0 ≡ Some poke
  input_read proc poke first = ap (λ (desk : Desk). slice_get desk.input 0) (desk_read checking s proc) ∙ first

  pub hand_read : (proc : ProcId) (order : Order) → (desk_of s proc).in_hand ≡ Some order → is_question order.job.task ≡ false → (desk_of (unasked checking s) proc).in_hand ≡ Some order
  hand_read proc order hand plain =
      ap (λ (desk : Desk). desk.in_hand) (desk_read checking s proc)
      ∙ ap (λ (o : Option Order). option_and_then no_question_in_hand o) hand
      ∙ hand_same order plain

  pub free_read : (proc : ProcId) → (desk_of s proc).in_hand ≡ None → (desk_of (unasked checking s) proc).in_hand ≡ None
  free_read proc free =
      ap (λ (desk : Desk). desk.in_hand) (desk_read checking s proc)
      ∙ ap (λ (o : Option Order). option_and_then no_question_in_hand o) free

  pub mail_read : (proc : ProcId) (job : Job) → slice_get (desk_of s proc).mail 0 ≡ Some job → is_question job.task ≡ false → slice_get (desk_of (unasked checking s) proc).mail 0 ≡ Some job
  mail_read proc job first plain =
      ap (λ (desk : Desk). slice_get desk.mail 0) (desk_read checking s proc) ∙ mail_first (desk_of s proc).mail job first plain

  -- a document, but for its handler
  pub found_read : (doc : DocId) (d : Document) → document_of s doc ≡ Some d → document_of (unasked checking s) doc ≡ Some (unhandled d)
  found_read doc d found = document_read checking s doc ∙ ap (λ (o : Option Document). option_map unhandled o) found
