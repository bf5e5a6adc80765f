-- The user was asked for the sake of documents that want it: of questions, prompts and answers it is known what is to be known.
use Rattle.asking_facts.proofs.Known.{known_prompted}
use Rattle.asking_facts.proofs.Waiting.{asks_of}
use Rattle.asking_facts.specs.Known.{AskingKnown}
use Rattle.asking_facts.specs.Prompting.{NotesWanted, has_wanted}
use Rattle.check_facts.specs.Prompting.{todo_of}
use Rattle.log_model.specs.After.{after}
use Rattle.log_model.specs.Seen.{Asking, Seen}
use Rattle.log_model.specs.declared.row_kind.RowKind.TheVariants as rows
use Rattle.log_model.specs.declared.row_kind.RowKind.{RowKind}
use Rattle.seen_facts.proofs.Each.Courses.{was_asked}
use Rattle.seen_facts.proofs.Request.Readers.{on_read}
use Rattle.seen_laws.proofs.InEvents.{log_more}
use Rattle.seen_laws.specs.InEvent.{InEvent, log_of, row_of}
use Rattle.std.proofs.Common.{List, None, Option, Some, [], ap, append-nil, append_assoc, refl, subst, sym, ◌++◌, ◌∙◌, ◌∷◌, ◌≡◌}
use Rattle.tab_ids.specs.declared.DocId.{DocId}
use Rattle.tab_ids.specs.declared.ReqId.{ReqId}
use Rattle.tab_prompts.proofs.Prompted.{prompts_none, prompts_some}
use Rattle.tab_prompts.specs.Prompts.{prompts_for}
use Rattle.unload_check.specs.Checks.{OpenCheck}

module _ (e : InEvent) (table : List (ReqId × OpenCheck)) where
  -- a prompt changes no question
  notes_on : (s : Seen) (req : ReqId) (doc : DocId) → NotesWanted s table → NotesWanted (after s (row_of e (rows.Prompted req doc))) table
  notes_on s req doc notes r q at d noted =
      let p = was_asked asks_of s.requests (after s (row_of e (rows.Prompted req doc))).requests (on_read asks_of s.requests req (λ x. record x { prompted = Some doc }) (λ x. refl)) r q at in
      ap (λ (l : List Asking). has_wanted d l) (sym p.2) ∙ notes r p.0 p.1 d noted

  pub known_prompts : (reqs : List ReqId) (out : List RowKind) → NotesWanted (log_of e out) table → AskingKnown (log_of e out) → AskingKnown (log_of e (out ++ prompts_for table reqs))
  known_prompts [] out notes known = subst (λ (l : List RowKind). AskingKnown (log_of e l)) (sym (append-nil out)) known
  known_prompts (req ∷ reqs) out notes known =
      by_todo (todo_of table req) refl (λ l n k. known_prompts reqs l n k)
    where
      by_todo : (o : Option DocId) → todo_of table req ≡ o → ((l : List RowKind) → NotesWanted (log_of e l) table → AskingKnown (log_of e l) → AskingKnown (log_of e (l ++ prompts_for table reqs))) → AskingKnown (log_of e (out ++ prompts_for table (req ∷ reqs)))
      by_todo None none rest =
          subst (λ (l : List RowKind). AskingKnown (log_of e (out ++ l))) (sym (prompts_none table req reqs none)) (rest out notes known)
      by_todo (Some doc) some rest =
          subst (λ (l : List RowKind). AskingKnown (log_of e (out ++ l))) (sym (prompts_some table req reqs doc some))
          (subst (λ (l : List RowKind). AskingKnown (log_of e l)) (append_assoc out (rows.Prompted req doc ∷ []) (prompts_for table reqs))
          (rest (out ++ rows.Prompted req doc ∷ [])
          (subst (λ (s : Seen). NotesWanted s table) (sym (log_more e out (rows.Prompted req doc))) (notes_on (log_of e out) req doc notes))
          (known_prompted e out req doc (λ q at. notes req q at doc some) known)))
