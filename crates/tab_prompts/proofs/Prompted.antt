-- The user is asked about requests one after the other, as the table notes it: the rows pass, and those that were asked about haven't passed.
use Rattle.asking_facts.proofs.Noting.{agreed_prompt}
use Rattle.asking_facts.proofs.Prompted.{prompt_pass}
use Rattle.asking_facts.proofs.Standing.{LeavesOut, prompted_stands}
use Rattle.asking_facts.specs.Noting.{Agreed}
use Rattle.asking_facts.specs.Prompting.{NotesWanted}
use Rattle.asking_facts.specs.Standing.{StandsAsked}
use Rattle.check_facts.proofs.Asks.{prompted_other}
use Rattle.check_facts.specs.Prompting.{todo_of}
use Rattle.checking_facts.proofs.Tellings.{told_numbers}
use Rattle.checking_facts.specs.Checks.{AreInCheck, NonePassesBut}
use Rattle.checking_facts.specs.Prompts.{AreAskedDuly, Told}
use Rattle.log_model.specs.After.{after}
use Rattle.log_model.specs.Seen.{Seen}
use Rattle.log_model.specs.declared.row_kind.LogRow.{LogRow}
use Rattle.log_model.specs.declared.row_kind.RowKind.TheVariants as rows
use Rattle.log_model.specs.declared.row_kind.RowKind.{RowKind}
use Rattle.seen_laws.proofs.Cuts.{log_cut}
use Rattle.seen_laws.proofs.InEvents.{log_more}
use Rattle.seen_laws.specs.InEvent.{InEvent, cut, log_of, row_of}
use Rattle.seen_laws.specs.Sending.{leads}
use Rattle.std.proofs.Common.{Bool, List, None, Option, Some, [], ap, append-nil, append_assoc, false, inl, inr, not, refl, subst, sym, true, ◌&&◌, ◌++◌, ◌==◌, ◌∙◌, ◌∷◌, ◌≡◌}
use Rattle.tab_ids.specs.declared.DocId.{DocId}
use Rattle.tab_ids.specs.declared.ReqId.{ReqId}
use Rattle.tab_prompts.specs.Asking.{AreApart, EachIsDue, IsPromptDue, left_of, without}
use Rattle.tab_prompts.specs.Prompts.{prompts_for}
use Rattle.unload_check.specs.Checks.{OpenCheck}

-- ---- the rows

pub prompts_none : (table : List (ReqId × OpenCheck)) (req : ReqId) (reqs : List ReqId) → todo_of table req ≡ None → prompts_for table (req ∷ reqs) ≡ prompts_for table reqs
prompts_none table req reqs none = rw none refl

pub prompts_some : (table : List (ReqId × OpenCheck)) (req : ReqId) (reqs : List ReqId) (doc : DocId) → todo_of table req ≡ Some doc → prompts_for table (req ∷ reqs) ≡ rows.Prompted req doc ∷ prompts_for table reqs
prompts_some table req reqs doc some = rw some refl

-- the request is left out no more
pub leaves_without : (req : ReqId) (doc : DocId) (but : ReqId → Bool) → LeavesOut req but (without (Some doc) req but)
leaves_without req doc but r apart off = by_both (but r) refl
  where
    by_both : (b : Bool) → but r ≡ b → b ≡ false
    by_both false e = refl
    by_both true e =
        let both : (true && not false) ≡ false = sym (ap (λ (b : Bool). b && not false) e) ∙ sym (ap (λ (b : Bool). but r && not b) apart) ∙ off in
        absurd cc

-- ---- another request's prompt stays due

due_on : (e : InEvent) (s : Seen) (table : List (ReqId × OpenCheck)) (req other : ReqId) (doc its : DocId) → (other.0 == req.0) ≡ false → IsPromptDue e.checking e.start s table other its → IsPromptDue e.checking e.start (after s (row_of e (rows.Prompted req doc))) table other its
due_on e s table req other doc its apart is =
    record {
      q = is.q;
      at = prompted_other e.start s e.event e.actor req doc other apart ∙ is.at;
      ready = is.ready;
      due = record {
        was = is.due.was;
        found_then = is.due.found_then;
        open_then = is.due.open_then;
        q = is.due.q;
        found = prompted_other e.start s e.event e.actor req doc other apart ∙ is.due.found;
        settled = is.due.settled;
        unprompted = is.due.unprompted;
      };
      noted = is.noted;
      on = is.on;
    }

-- ---- one after the other, where what comes later is to have something by the rows so far

module _ (e : InEvent) (table : List (ReqId × OpenCheck)) (ran : ReqId → Bool) (Rest : List RowKind → List LogRow → Type 0) (led : leads e.own ≡ true) (ahead : (out : List RowKind) (req : ReqId) (doc : DocId) (later : List LogRow) → Rest (out ++ rows.Prompted req doc ∷ []) later → Rest out (row_of e (rows.Prompted req doc) ∷ later)) where
  abbrev pub Stands : (ReqId → Bool) → List RowKind → Type 0
  Stands but out =
      StandsAsked (Agreed (todo_of table) ran e out (Rest out)) but e out (record { checks = table; run = [] })

  abbrev IsDue : List RowKind → ReqId → DocId → Type 0
  IsDue out req doc = IsPromptDue e.checking e.start (log_of e out) table req doc

  -- one more
  stands_one : (but : ReqId → Bool) (out : List RowKind) (req : ReqId) (doc : DocId) → IsDue out req doc → Stands but out → Stands (without (Some doc) req but) (out ++ rows.Prompted req doc ∷ [])
  stands_one but out req doc due stands =
      let cut_ = prompted_stands Before but (without (Some doc) req but) e out table stands req (leaves_without req doc but) doc due.q due.at due.ready due.due due.noted due.on led Next nothing ahead_ in
      record {
        pass = prompt_pass e (todo_of table) out req doc Before Next ahead_ led due.due (told_numbers e.start (log_of e out) then_ stands.asked.run) due.noted stands.pass;
        asked = back (λ s. AreAskedDuly e.checking e.start s then_) cut_.asked;
        checks = back (λ s. AreInCheck e.checking s) cut_.checks;
        none = back (λ s. NonePassesBut e.checking (without (Some doc) req but) s) cut_.none;
        notes = back (λ s. NotesWanted s table) cut_.notes;
      }
    where
      then_ : Told
      then_ = record { checks = table; run = [] }

      more : List RowKind
      more = out ++ rows.Prompted req doc ∷ []

      Before : List LogRow → Type 0
      Before = Agreed (todo_of table) ran e out (Rest out)

      Next : List LogRow → Type 0
      Next = Agreed (todo_of table) ran e more (Rest more)

      ahead_ : (later : List LogRow) → Next later → Before (row_of e (rows.Prompted req doc) ∷ later)
      ahead_ = agreed_prompt (todo_of table) ran e out (Rest out) (Rest more) req doc (ahead out req doc)

      nothing : Seen → Bool
      nothing s = true

      back : (P : Seen → Type 0) → P (log_of (cut e (out ++ rows.Prompted req doc ∷ []) e.checking nothing) []) → P (log_of e (out ++ rows.Prompted req doc ∷ []))
      back P is = subst P (log_cut e (out ++ rows.Prompted req doc ∷ []) e.checking nothing) is

  -- all of them
  pub stands_prompted : (but : ReqId → Bool) (out : List RowKind) (reqs : List ReqId) → AreApart reqs → EachIsDue e.checking e.start (log_of e out) table reqs → Stands but out → Stands (left_of table reqs but) (out ++ prompts_for table reqs)
  stands_prompted but out [] apart due stands = subst (λ (l : List RowKind). Stands but l) (sym (append-nil out)) stands
  stands_prompted but out (req ∷ reqs) apart due stands =
      by_todo (todo_of table req) refl (stands_prompted but out reqs apart.1 (λ other doc has. due other doc (inr has))) (λ doc. stands_prompted (without (Some doc) req but) (out ++ rows.Prompted req doc ∷ []) reqs apart.1)
    where
      by_todo : (o : Option DocId) → todo_of table req ≡ o → (Stands but out → Stands (left_of table reqs but) (out ++ prompts_for table reqs)) → ((doc : DocId) → EachIsDue e.checking e.start (log_of e (out ++ rows.Prompted req doc ∷ [])) table reqs → Stands (without (Some doc) req but) (out ++ rows.Prompted req doc ∷ []) → Stands (left_of table reqs (without (Some doc) req but)) ((out ++ rows.Prompted req doc ∷ []) ++ prompts_for table reqs)) → Stands (left_of table reqs (without (todo_of table req) req but)) (out ++ prompts_for table (req ∷ reqs))
      by_todo None none as_was more =
          subst (λ (o : Option DocId). Stands (left_of table reqs (without o req but)) (out ++ prompts_for table (req ∷ reqs))) (sym none)
          (subst (λ (l : List RowKind). Stands (left_of table reqs but) (out ++ l)) (sym (prompts_none table req reqs none)) (as_was stands))
      by_todo (Some doc) some as_was more =
          subst (λ (o : Option DocId). Stands (left_of table reqs (without o req but)) (out ++ prompts_for table (req ∷ reqs))) (sym some)
          (subst (λ (l : List RowKind). Stands (left_of table reqs (without (Some doc) req but)) (out ++ l)) (sym (prompts_some table req reqs doc some))
          (subst (λ (l : List RowKind). Stands (left_of table reqs (without (Some doc) req but)) l) (append_assoc out (rows.Prompted req doc ∷ []) (prompts_for table reqs))
          (more doc due_then (stands_one but out req doc (due req doc (inl refl) some) stands))))
        where
          due_then : EachIsDue e.checking e.start (log_of e (out ++ rows.Prompted req doc ∷ [])) table reqs
          due_then other its has notes =
              subst (λ (s : Seen). IsPromptDue e.checking e.start s table other its) (sym (log_more e out (rows.Prompted req doc))) (due_on e (log_of e out) table req other doc its (apart.0 other has) (due other its (inr has) notes))
