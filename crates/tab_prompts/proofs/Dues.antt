-- Of a request that waited as the event began or was cut, is under way still, and for which the told table notes a prompt, the user is to be asked.
use Rattle.asking_facts.proofs.Started.{rows_on}
use Rattle.check_facts.proofs.Rows.{Plain}
use Rattle.check_facts.specs.Checking.{AreTiedAt}
use Rattle.check_facts.specs.Having.{IsHeld}
use Rattle.check_facts.specs.Prompting.{has_settled, is_asked, todo_of}
use Rattle.log_model.specs.Places.{all_asked, is_gone, is_settled_asking, is_under_way}
use Rattle.log_model.specs.Seen.{Asked, Asking, Seen, request_of}
use Rattle.log_model.specs.declared.row_kind.RowKind.{RowKind}
use Rattle.seen_facts.specs.Hang.Members.{Has}
use Rattle.seen_laws.specs.Blocks.{Here, on_row, on_rows}
use Rattle.seen_laws.specs.InEvent.{InEvent, first_of, log_of, row_of}
use Rattle.std.proofs.Common.{Bool, List, None, Option, Some, [], ap, false, inl, inr, map, refl, subst, sym, true, ◌∙◌, ◌∷◌, ◌≡◌, ◌⊎◌}
use Rattle.std.proofs.lemmas.Bool.{and_parts}
use Rattle.std.specs.List.{list_all}
use Rattle.std.specs.Prelude.{is_some}
use Rattle.tab_doors.specs.Keeping.{Move}
use Rattle.tab_doors.specs.Working.{IsAtWorkIn}
use Rattle.tab_doors.specs.declared.tables.Tables.{Tables}
use Rattle.tab_ids.specs.declared.DocId.{DocId}
use Rattle.tab_ids.specs.declared.ReqId.{ReqId}
use Rattle.tab_prompts.proofs.Since.{Course, course_of}
use Rattle.tab_prompts.proofs.Tables.{wants_in}
use Rattle.tab_prompts.proofs.Told.{IsNoted, WasOpenThen, first_open, held_now, heard_wanted, noted, said_now, tied_settled, told, was}
use Rattle.tab_prompts.proofs.Waits.{waiting_open}
use Rattle.tab_prompts.specs.Asking.{AreUnderWay, BeginsAsked, EachIsDue, IsPromptDue, IsUnderWay, WasOpen, are_unheard}
use Rattle.tab_prompts.specs.Prompts.{is_waiting}
use Rattle.unload_check.specs.Checks.{OpenCheck, is_settled}

some_same : {A : Type 0} {a b : A} → (let o : Option A = Some a in o) ≡ Some b → a ≡ b
some_same is = cc

never : {A : Type 0} → true ≡ false → A
never is = absurd cc

-- ---- a request stays

pub there_rows : (e : InEvent) (h : Here) (out : List RowKind) (req : ReqId) (p : Asked) → request_of h.now req ≡ Some p → (q : Asked) × (request_of (on_rows h (map (row_of e) out)).now req ≡ Some q)
there_rows e h [] req p at = (p, at)
there_rows e h (kind ∷ out) req p at =
    let next = rows_on h.now (row_of e kind ∷ []) req p at in
    there_rows e (on_row h (row_of e kind)) out req next.q next.at

-- ---- the prompt is due

module _ {sweeps : Bool} (move : Option Move) (e : InEvent) (out : List RowKind) (t : Tables) (work : IsAtWorkIn sweeps move e out t) (begins : BeginsAsked e t.checks) where
  abbrev now : Seen
  now = log_of e out

  abbrev first : Seen
  first = log_of e []

  abbrev then_told : List (ReqId × OpenCheck)
  then_told = told move e out t work begins

  module _ (req : ReqId) (doc : DocId) (waits : is_waiting t.checks req ≡ true) (goes : IsUnderWay now req) (notes : todo_of then_told req ≡ Some doc) where
    abbrev Noted : Type 0
    Noted = IsNoted move e out t work begins req doc

    its : Noted
    its = noted move e out t work begins req doc notes

    un : is_settled its.c ≡ false
    un = waiting_open t.checks req its.c its.has waits

    -- it is there
    there : (p : Asked) × (request_of first req ≡ Some p)
    there = by_found (request_of first req) refl
      where
        by_found : (o : Option Asked) → request_of first req ≡ o → (p : Asked) × (request_of first req ≡ Some p)
        by_found (Some p) at = (p, at)
        by_found None at =
            let both : (let o : Option OpenCheck = None in o) ≡ Some its.c = sym (begins.there req at) ∙ its.has in
            absurd cc

    still : (q : Asked) × (request_of now req ≡ Some q)
    still = there_rows e (first_of e) out req there.0 there.1

    abbrev q : Asked
    q = still.0

    p_was : (p : Asked) × (request_of first req ≡ Some p) × (course_of p ≡ course_of q) × (is_under_way q ≡ true → is_under_way p ≡ true)
    p_was = was move e out t work begins req q still.1 its.on

    abbrev p : Asked
    p = p_was.0

    same : course_of p ≡ course_of q
    same = p_was.2

    -- a question was open, as the run began that lasted then
    abbrev base : Seen
    base = begins.asked.run.was

    was_then : WasOpenThen e.start first (record { checks = t.checks; run = e.ran }) begins.asked.run p its.c
    was_then = first_open move e out t work begins req p its.c p_was.1 its.has un

    -- so it was as the event began, since an answer was heard
    was_open : WasOpen e.start req
    was_open = by_opens (begins.opens req p p_was.1 waits)
      where
        heard : are_unheard p.asks ≡ false
        heard =
            sym (ap (λ (x : Plain). are_unheard x.asks) was_then.same)
            ∙ (heard_wanted (is_gone base) doc was_then.q.asks (subst (λ (y : OpenCheck). wants_in doc y.asked ≡ true) was_then.is its.wants)).1

        by_opens : WasOpen e.start req ⊎ (are_unheard p.asks ≡ true) → WasOpen e.start req
        by_opens (inl is) = is
        by_opens (inr unheard) = never (sym unheard ∙ heard)

    -- now none is
    all_now : all_asked now q ≡ true
    all_now = by_held (held_now move e out t work begins req q still.1)
      where
        by_held : IsHeld now then_told req q → all_asked now q ≡ true
        by_held (inr both) = both.0
        by_held (inl tied_) =
            tied_settled now q its.x (subst (λ (o : Option OpenCheck). AreTiedAt now (Some q) o) its.has_now tied_) (said_now move e out t work begins) req still.1 its.settled

    has_asks : is_asked p.asks ≡ true
    has_asks =
        sym (ap (λ (x : Plain). is_asked x.asks) was_then.same) ∙ by_asks was_then.q.asks refl
      where
        by_asks : (asks : List Asking) → was_then.q.asks ≡ asks → is_asked was_then.q.asks ≡ true
        by_asks (asking ∷ asks) is = ap is_asked is
        by_asks [] is =
            never (sym (ap (λ (l : List Asking). list_all (is_settled_asking (is_gone base)) l) is) ∙ was_then.open_)

    has_all : has_settled now q ≡ true
    has_all = rw (sym (ap (λ (x : Course). is_asked x.asks) same) ∙ has_asks, all_now) refl

    -- it had no prompt
    unprompted_then : is_some p.prompted ≡ false
    unprompted_then =
        sym (ap (λ (x : Plain). is_some x.prompted) was_then.same) ∙ by_prompt (is_some was_then.q.prompted) refl
      where
        by_prompt : (b : Bool) → is_some was_then.q.prompted ≡ b → is_some was_then.q.prompted ≡ false
        by_prompt false is = is
        by_prompt true is =
            let parts = and_parts (is_asked was_then.q.asks) (all_asked base was_then.q) (begins.asked.run.prompted was_then.nr was_then.q was_then.at is) in
            never (sym parts.1 ∙ was_then.open_)

    unprompted : is_some q.prompted ≡ false
    unprompted = sym (ap (λ (x : Course). is_some x.prompted) same) ∙ unprompted_then

    pub prompt_due : IsPromptDue e.checking e.start now then_told req doc
    prompt_due =
        record {
          q = q;
          at = still.1;
          ready = record {
            checked = (work.checks.checks req q still.1 its.on).checked;
            under = goes q still.1;
            unanswered = sym (ap (λ (x : Course). x.answered) same) ∙ begins.unanswered req p p_was.1 unprompted_then;
          };
          due = record {
            was = was_open.was;
            found_then = was_open.found;
            open_then = was_open.open_;
            q = q;
            found = still.1;
            settled = has_all;
            unprompted = unprompted;
          };
          noted = notes;
          on = its.on;
        }

  -- so it is for each of those that waited, and are under way
  pub each_due : (reqs : List ReqId) → ((req : ReqId) → Has reqs req → is_waiting t.checks req ≡ true) → AreUnderWay now reqs → EachIsDue e.checking e.start now then_told reqs
  each_due reqs waits go req doc has notes = prompt_due req doc (waits req has) (go req has) notes
