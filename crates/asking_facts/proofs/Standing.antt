-- An event is cut behind rows of its checks: what stays of that its rows so far pass, and of what is carried of checks and prompts.
use Rattle.std.proofs.Common.{◌≡◌, ◌+◌, Bool, true, false, ◌&&◌, ◌||◌, not, ◌==◌, List, [], ◌∷◌, ◌++◌, map, Option, None, Some, refl, sym, ap, ◌∙◌, subst}
use Rattle.std.specs.List.{list_any}
use Rattle.std.specs.Prelude.{option_and_then, option_map}
use Rattle.tab_ids.specs.declared.DocId.{DocId}
use Rattle.tab_ids.specs.declared.ReqId.{ReqId}
use Rattle.tab_ids.specs.declared.Step.{Step}
use Rattle.log_model.specs.declared.job.Job.{Job}
use Rattle.log_model.specs.declared.outcome.Cause.{Cause}
use Rattle.log_model.specs.declared.outcome.Ending.TheVariants as endings
use Rattle.log_model.specs.declared.row_kind.LogRow.{LogRow}
use Rattle.log_model.specs.declared.row_kind.RowKind.{RowKind}
use Rattle.log_model.specs.declared.row_kind.RowKind.TheVariants as rows
use Rattle.log_model.specs.After.{after}
use Rattle.log_model.specs.Checks.{due_prompt}
use Rattle.log_model.specs.Orders.{Question}
use Rattle.log_model.specs.Places.{has_passed, is_traversal}
use Rattle.log_model.specs.Seen.{Asked, Seen, request_of}
use Rattle.unload_check.proofs.Stays.{others_ended}
use Rattle.unload_check.specs.Checks.{OpenCheck, after_all_deaths, ended, outcome_of}
use Rattle.seen_laws.proofs.Cuts.{log_cut}
use Rattle.seen_laws.proofs.InEvents.{IsQuiet, log_more}
use Rattle.seen_laws.specs.InEvent.{InEvent, begins, cut, here_of, log_of, row_of, running, wanting}
use Rattle.seen_laws.specs.Blocks.{EachPass}
use Rattle.seen_laws.specs.Owing.{Pays}
use Rattle.seen_laws.specs.Sending.{leads}
use Rattle.row_facts.proofs.FrameRows.LawfulLaws.{AsksOf}
use Rattle.row_facts.specs.FrameRows.Lawful.{KeepsHeld}
use Rattle.seen_facts.proofs.Coord.Held.{fun_ext}
use Rattle.seen_facts.proofs.Request.Readers.{on_read}
use Rattle.check_facts.proofs.Tables.{check_ended, todo_none}
use Rattle.check_facts.specs.Prompting.{Agrees, IsAskDue, prompt_of, todo_of}
use Rattle.unasked_dues.specs.Checking.{NonePasses}
use Rattle.checking_facts.proofs.Entering.{passed_checks}
use Rattle.checking_facts.proofs.Gone.{gone_duly}
use Rattle.checking_facts.proofs.Grown.{req_same}
use Rattle.checking_facts.proofs.Nobody.{pass_cut, pass_wanting}
use Rattle.checking_facts.proofs.Rows.{row_checks}
use Rattle.checking_facts.proofs.Settles.{silent_waits}
use Rattle.checking_facts.proofs.Steps.{PassesBy, more_duly, more_pass}
use Rattle.checking_facts.proofs.Tellings.{runs_now, told_numbers}
use Rattle.checking_facts.proofs.Waits.{none_waits}
use Rattle.checking_facts.specs.Checks.{AreInCheck, GoesDuly, MayEnter, NoOtherUnderWay, NonePassesBut, SameBut, just}
use Rattle.checking_facts.specs.Prompts.{AreAskedDuly, GoesBeside, PassIf, Told, tell_row}
use Rattle.checking_facts.specs.States.{IsNextState, LeavesStates}
use Rattle.asking_facts.proofs.Beginning.{begun_asked, begun_in_check, begun_none_passes, begun_pass}
use Rattle.asking_facts.proofs.Begun.{block_log}
use Rattle.asking_facts.proofs.Ended.{IsUnnoted, ended_duly, ended_pass, withdrawn_duly, withdrawn_pass}
use Rattle.asking_facts.proofs.Notes.{asks_notes, ended_notes, told_notes_wanted}
use Rattle.asking_facts.proofs.NotesOver.{begun_notes, beside_notes}
use Rattle.asking_facts.proofs.Noting.{pass_less, told_pass}
use Rattle.asking_facts.proofs.Ones.{told_duly, told_none}
use Rattle.asking_facts.proofs.Prompted.{prompt_checks, prompt_duly, prompt_none, prompt_pass}
use Rattle.asking_facts.proofs.Waiting.{asks_of}
use Rattle.asking_facts.specs.Asking.{AreQuestions, AreSome, BeginsToAsk, MayBeginTo, begun_asking, checks_begun}
use Rattle.asking_facts.specs.Noting.{Agreed, IsToPrompt}
use Rattle.asking_facts.specs.Prompting.{NotesWanted, has_wanted}
use Rattle.asking_facts.specs.Standing.{StandsAsked}

-- ---- the cut

module _ (e : InEvent) (out : List RowKind) (checking : ReqId → Bool) (due : Seen → Bool) where
  abbrev pub then_ : InEvent
  then_ = cut e out checking due

  -- what is known of the log stays
  pub kept_cut : (P : Seen → Type 0) → P (log_of e out) → P (log_of then_ [])
  kept_cut P is = subst P (sym (log_cut e out checking due)) is

  -- what comes later agrees with what is noted as it did
  pub agreed_cut : (todo : ReqId → Option DocId) (ran : ReqId → Bool) (Rest : List LogRow → Type 0) (later : List LogRow) → Agreed todo ran then_ [] Rest later → Agreed todo ran e out Rest later
  agreed_cut todo ran Rest later rest =
      (subst (λ (s : Seen). Agrees todo ran s later) (log_cut e out checking due) rest.0, rest.1)

  -- the rows pass, and what holds of the log by the other `checking` does
  pub stands_cut : (Rest : List LogRow → Type 0) (but : ReqId → Bool) (told : Told) → PassIf Rest e (todo_of told.checks) out → AreAskedDuly checking e.start (log_of e out) told → AreInCheck checking (log_of e out) → NonePassesBut checking but (log_of e out) → NotesWanted (log_of e out) told.checks → StandsAsked Rest but then_ [] told
  stands_cut Rest but told pass asked checks none notes =
      record {
        pass = pass_cut Rest e (todo_of told.checks) out checking due pass;
        asked = kept_cut (λ s. AreAskedDuly checking e.start s told) asked;
        checks = kept_cut (λ s. AreInCheck checking s) checks;
        none = kept_cut (λ s. NonePassesBut checking but s) none;
        notes = kept_cut (λ s. NotesWanted s told.checks) notes;
      }

-- by the same `checking`
pub stands_same : (Rest : List LogRow → Type 0) (but : ReqId → Bool) (e : InEvent) (out : List RowKind) (told : Told) (due : Seen → Bool) → StandsAsked Rest but e out told → StandsAsked Rest but (cut e out e.checking due) [] told
stands_same Rest but e out told due stands =
    stands_cut e out e.checking due Rest but told stands.pass stands.asked stands.checks stands.none stands.notes

-- whatever is wanted of the rows behind the cut, and whichever run lasts there
pub stands_wanting : (Rest : List LogRow → Type 0) (but : ReqId → Bool) (e : InEvent) (out : List RowKind) (told : Told) (wants : List LogRow → Bool) (ran : List DocId) → StandsAsked Rest but e out told → StandsAsked Rest but (running (wanting e wants) ran) out told
stands_wanting Rest but e out told wants ran stands =
    record {
      pass = pass_wanting Rest e (todo_of told.checks) out wants ran stands.pass;
      asked = stands.asked;
      checks = stands.checks;
      none = stands.none;
      notes = stands.notes;
    }

-- what is asked of later rows may be more
pub stands_less : (Before Rest : List LogRow → Type 0) (but : ReqId → Bool) (e : InEvent) (out : List RowKind) (told : Told) → ((later : List LogRow) → Rest later → Before later) → StandsAsked Before but e out told → StandsAsked Rest but e out told
stands_less Before Rest but e out told ahead stands =
    record {
      pass = pass_less Before Rest e (todo_of told.checks) out ahead stands.pass;
      asked = stands.asked;
      checks = stands.checks;
      none = stands.none;
      notes = stands.notes;
    }

-- ---- the table is told of the run

-- what comes later agrees with what it notes then
pub told_stands : (Rest : List LogRow → Type 0) (but : ReqId → Bool) (e : InEvent) (out : List RowKind) (told : Told) (stands : StandsAsked Rest but e out told) → StandsAsked (Agreed (todo_of (after_all_deaths told.run told.checks)) (runs_now e.start (log_of e out) told stands.asked.run) e out Rest) but e out (record { checks = after_all_deaths told.run told.checks; run = [] })
told_stands Rest but e out told stands =
    record {
      pass = told_pass Rest e out told stands.asked.run stands.pass;
      asked = told_duly e.checking e.start (log_of e out) told stands.asked;
      checks = stands.checks;
      none = stands.none;
      notes = told_notes_wanted e.start (log_of e out) told stands.asked.run stands.notes;
    }

-- ---- of those that are left out one is settled

never : {A : Type 0} → true ≡ false → A
never is = absurd cc

some_same : {A : Type 0} {a b : A} → (let o : Option A = Some a in o) ≡ Some b → a ≡ b
some_same is = cc

-- without the one, they are those left out before
abbrev pub LeavesOut : ReqId → (ReqId → Bool) → (ReqId → Bool) → Type 0
LeavesOut req but left = (r : ReqId) → (r.0 == req.0) ≡ false → left r ≡ false → but r ≡ false

-- as it passes
left_passed : (checking passed but left : ReqId → Bool) (s : Seen) (req : ReqId) → SameBut req checking passed → passed req ≡ false → LeavesOut req but left → NonePassesBut checking but s → NonePassesBut passed left s
left_passed checking passed but left s req same out leaves none r q at runs goes on off =
    by_number (r.0 == req.0) refl
  where
    by_number : (b : Bool) → (r.0 == req.0) ≡ b → has_passed s q ≡ false
    by_number false apart = none r q at runs goes (sym (same r apart) ∙ on) (leaves r apart off)
    by_number true is = never (sym on ∙ ap passed (req_same r req is) ∙ out)

-- the others in their checks, and it
abbrev but_for : ReqId → (ReqId → Bool) → (ReqId → Bool) → ReqId → Bool
but_for req checking but r = checking r && (not (but r) || r.0 == req.0)

but_one : (checking but : ReqId → Bool) (s : Seen) (req : ReqId) → NonePassesBut checking but s → NonePassesBut (but_for req checking but) (just req) s
but_one checking but s req none r q at runs goes on apart =
    let parts = by_parts (checking r) (but r) (r.0 == req.0) on apart in
    none r q at runs goes parts.0 parts.1
  where
    by_parts : (a b c : Bool) → (a && (not b || c)) ≡ true → c ≡ false → (a ≡ true) × (b ≡ false)
    by_parts true false c is e = (refl, refl)
    by_parts true true false is e = absurd cc
    by_parts true true true is e = absurd cc
    by_parts false b c is e = absurd cc

but_back : (checking but left : ReqId → Bool) (s : Seen) (req : ReqId) → LeavesOut req but left → NonePasses (but_for req checking but) s → NonePassesBut checking left s
but_back checking but left s req leaves none r q at runs goes on off =
    none r q at runs goes (by_number (r.0 == req.0) refl)
  where
    by_number : (b : Bool) → (r.0 == req.0) ≡ b → but_for req checking but r ≡ true
    by_number false apart = rw (on, leaves r apart off) refl
    by_number true is = rw (on, is) (or_true (not (but r)))
      where
        or_true : (b : Bool) → (b || true) ≡ true
        or_true true = refl
        or_true false = refl

-- it passes: its check ends, and it is in its check no more
module _ (Rest : List LogRow → Type 0) (but left : ReqId → Bool) (e : InEvent) (out : List RowKind) (table : List (ReqId × OpenCheck)) (stands : StandsAsked Rest but e out (record { checks = table; run = [] })) (req : ReqId) (leaves : LeavesOut req but left) where
  pub passed_stands : (passed : ReqId → Bool) (due : Seen → Bool) → SameBut req e.checking passed → passed req ≡ false → ((q : Asked) → request_of (log_of e out) req ≡ Some q → has_passed (log_of e out) q ≡ true) → IsUnnoted (log_of e out) table req → StandsAsked Rest left (cut e out passed due) [] (record { checks = ended req table; run = [] })
  passed_stands passed due same out_ has unnoted =
      stands_cut e out passed due Rest left (record { checks = ended req table; run = [] }) pass asked (passed_checks e.checking passed (log_of e out) req same out_ has stands.checks) (left_passed e.checking passed but left (log_of e out) req same out_ leaves stands.none) (ended_notes (log_of e out) table req stands.notes)
    where
      told : Told
      told = record { checks = table; run = [] }

      unnoted_then : IsUnnoted (log_of e out) (after_all_deaths [] table) req
      unnoted_then q at un = ap (λ (l : List (ReqId × OpenCheck)). todo_of l req) (told_none table) ∙ unnoted q at un

      asked : AreAskedDuly passed e.start (log_of e out) (record { checks = ended req table; run = [] })
      asked =
          subst (λ (l : List (ReqId × OpenCheck)). AreAskedDuly passed e.start (log_of e out) (record { checks = ended req l; run = [] })) (told_none table) (ended_duly e.checking e.start (log_of e out) told stands.asked req unnoted_then passed same has)

      pass : PassIf Rest e (todo_of (ended req table)) out
      pass =
          subst (λ (l : List (ReqId × OpenCheck)). PassIf Rest e (todo_of (ended req l)) out) (told_none table) (ended_pass Rest e out told stands.asked req unnoted_then (subst (λ (l : List (ReqId × OpenCheck)). PassIf Rest e (todo_of l) out) (sym (told_none table)) stands.pass))

  -- the user is asked: the table stays, and it hasn't passed
  module _ (doc : DocId) (q : Asked) (at : request_of (log_of e out) req ≡ Some q) (ready : IsToPrompt q) (due_ : IsAskDue e.start (log_of e out) req) (noted : todo_of table req ≡ Some doc) (on : e.checking req ≡ true) (led : leads e.own ≡ true) where
    -- the document wanted it
    pub noted_wants : has_wanted doc q.asks ≡ true
    noted_wants = stands.notes req q at doc noted

    pub prompted_stands : (Next : List LogRow → Type 0) (due : Seen → Bool) → ((later : List LogRow) → Next later → Rest (row_of e (rows.Prompted req doc) ∷ later)) → StandsAsked Next left (cut e (out ++ rows.Prompted req doc ∷ []) e.checking due) [] (record { checks = table; run = [] })
    prompted_stands Next due ahead =
        stands_cut e (out ++ rows.Prompted req doc ∷ []) e.checking due Next left told (prompt_pass e (todo_of table) out req doc Rest Next ahead led due_ (told_numbers e.start now told stands.asked.run) noted stands.pass) (after_ (λ s. AreAskedDuly e.checking e.start s told) asked) (after_ (λ s. AreInCheck e.checking s) (prompt_checks e e.checking now req doc on stands.checks)) (after_ (λ s. NonePassesBut e.checking left s) none) (after_ (λ s. NotesWanted s table) (asks_notes now then_log table (on_read asks_of now.requests req (λ x. record x { prompted = Some doc }) (λ x. refl)) stands.notes))
      where
        told : Told
        told = record { checks = table; run = [] }

        now : Seen
        now = log_of e out

        then_log : Seen
        then_log = after now (row_of e (rows.Prompted req doc))

        after_ : (P : Seen → Type 0) → P then_log → P (log_of e (out ++ rows.Prompted req doc ∷ []))
        after_ P is = subst P (sym (log_more e out (rows.Prompted req doc))) is

        asked : AreAskedDuly e.checking e.start then_log told
        asked =
            subst (λ (l : List (ReqId × OpenCheck)). AreAskedDuly e.checking e.start then_log (record { checks = l; run = [] })) (told_none table) (prompt_duly e e.checking e.start now told stands.asked req doc (ap (λ (l : List (ReqId × OpenCheck)). todo_of l req) (told_none table) ∙ noted) due_ q at ready)

        none : NonePassesBut e.checking left then_log
        none =
            but_back e.checking but left then_log req leaves (prompt_none e (but_for req e.checking but) now req doc q at ready.unanswered (but_one e.checking but now req stands.none))

-- it passes while a run lasts of which the table wasn't told, and no prompt is due: its check ends, and it is in its check no more
module _ (Rest : List LogRow → Type 0) (but left : ReqId → Bool) (e : InEvent) (out : List RowKind) (told : Told) (stands : StandsAsked Rest but e out told) (req : ReqId) (leaves : LeavesOut req but left) where
  pub gone_stands : (passed : ReqId → Bool) (due : Seen → Bool) → SameBut req e.checking passed → passed req ≡ false → ((q : Asked) → request_of (log_of e out) req ≡ Some q → has_passed (log_of e out) q ≡ true) → ((q : Asked) → request_of (log_of e out) req ≡ Some q → due_prompt (log_of e out) q ≡ None) → todo_of told.checks req ≡ None → StandsAsked Rest left (cut e out passed due) [] (record told { checks = ended req told.checks })
  gone_stands passed due same out_ has undue unnoted =
      stands_cut e out passed due Rest left (record told { checks = ended req told.checks }) (subst (λ (todo : ReqId → Option DocId). PassIf Rest e todo out) (fun_ext notes_same) stands.pass) (gone_duly e.checking passed e.start (log_of e out) told stands.asked req same has undue) (passed_checks e.checking passed (log_of e out) req same out_ has stands.checks) (left_passed e.checking passed but left (log_of e out) req same out_ leaves stands.none) (ended_notes (log_of e out) told.checks req stands.notes)
    where
      -- nothing was noted for it
      notes_same : (r : ReqId) → todo_of told.checks r ≡ todo_of (ended req told.checks) r
      notes_same r = by_number (r.0 == req.0) refl
        where
          by_number : (b : Bool) → (r.0 == req.0) ≡ b → todo_of told.checks r ≡ todo_of (ended req told.checks) r
          by_number true is =
              let it : r ≡ req = req_same r req is in
              ap (todo_of told.checks) it ∙ unnoted ∙ sym (ap (todo_of (ended req told.checks)) it ∙ todo_none req (ended req told.checks) (check_ended req told.checks))
          by_number false apart =
              ap (λ (o : Option OpenCheck). option_and_then prompt_of (option_map outcome_of o)) (sym (others_ended req told.checks r apart))

-- ---- a request begins and asks: it is in its check

module _ (e : InEvent) (out : List RowKind) (told : Told) (Before : List LogRow → Type 0) (nobody : ReqId → Bool) (stands : StandsAsked Before nobody e out told) (none : NonePasses e.checking (log_of e out)) (req : ReqId) (goal : Option Step) (questions : List Question) (jobs : List Job) (q : Asked) (begins_ : BeginsToAsk (log_of e out) req goal questions q) (are : AreQuestions (log_of e out) req questions jobs) (some : AreSome questions) (may : MayEnter q) (led : leads e.own ≡ true) (unbegun : list_any (begins req) (e.before ++ out) ≡ false) (off : e.checking req ≡ false) where
  pub begun_stands : (Rest : List LogRow → Type 0) (entered : ReqId → Bool) (due : Seen → Bool) → SameBut req e.checking entered → entered req ≡ true → ((later : List LogRow) → Rest later → Before (map (row_of e) (begun_asking req goal jobs) ++ later)) → MayBeginTo (here_of e out) (row_of e (rows.Started req goal)) req goal q → IsNextState (log_of e out) (record { 0 = (log_of e out).states + 1 }) → (is_traversal q.what ≡ true → NoOtherUnderWay (log_of e out) req) → StandsAsked Rest nobody (cut e (out ++ begun_asking req goal jobs) entered due) [] (record { checks = checks_begun told req questions; run = [] })
  begun_stands Rest entered due same on ahead begin next alone =
      stands_cut e (out ++ begun_asking req goal jobs) entered due Rest nobody (record { checks = checks_begun told req questions; run = [] }) (begun_pass e out told stands.asked req goal questions jobs q begins_ are Before Rest ahead led unbegun begin some off stands.pass) (begun_asked e out told stands.asked req goal questions jobs q begins_ are entered same off on some may.checked) (begun_in_check e out told stands.asked req goal questions jobs q begins_ are entered same off on may next alone stands.checks) (none_waits entered (log_of e (out ++ begun_asking req goal jobs)) (begun_none_passes e out told stands.asked req goal questions jobs q begins_ are entered same off on some none) nobody) (subst (λ (s : Seen). NotesWanted s (checks_begun told req questions)) (sym (block_log e out req goal jobs)) (begun_notes e e.checking e.start (log_of e out) told stands.asked req goal questions jobs q begins_ are some off stands.notes))

-- ---- a request in its check is dropped: its check ends in the table, and it stays in it

module _ (e : InEvent) (out : List RowKind) (told : Told) (Before Rest : List LogRow → Type 0) (but : ReqId → Bool) (stands : StandsAsked Before but e out told) (req : ReqId) (cause : Cause) where
  abbrev kind : RowKind
  kind = rows.Dropped req cause

  pub withdrawn_stands : ((later : List LogRow) → Rest later → Before (row_of e kind ∷ later)) → IsUnnoted (log_of e out) (after_all_deaths told.run told.checks) req → KeepsHeld e out kind → ((later : List LogRow) → AsksOf e out kind later × Pays (here_of e out) (row_of e kind ∷ []) later → Rest later → EachPass (here_of e out) (row_of e kind ∷ []) later) → StandsAsked Rest but e (out ++ kind ∷ []) (record { checks = ended req (after_all_deaths told.run told.checks); run = [] })
  withdrawn_stands ahead unnoted keeps may =
      record {
        pass = withdrawn_pass e out told stands.asked req cause Before Rest ahead unnoted keeps may stands.pass;
        asked = then_log (λ s. AreAskedDuly e.checking e.start s (record { checks = ended req (after_all_deaths told.run told.checks); run = [] })) (withdrawn_duly e.checking e.start now told stands.asked req unnoted e cause);
        checks = then_log (λ s. AreInCheck e.checking s) (row_checks e.checking now (row_of e kind) tt tt stands.checks);
        none = then_log (λ s. NonePassesBut e.checking but s) (silent_waits e.checking but now (row_of e kind) tt tt tt stands.none);
        notes = then_log (λ s. NotesWanted s (ended req new_)) (asks_notes now (after now (row_of e kind)) (ended req new_) (on_read asks_of now.requests req (λ q. record q { ending = Some (endings.Dropped cause) }) (λ q. refl)) (ended_notes now new_ req (told_notes_wanted e.start now told stands.asked.run stands.notes)));
      }
    where
      now : Seen
      now = log_of e out

      new_ : List (ReqId × OpenCheck)
      new_ = after_all_deaths told.run told.checks

      then_log : (P : Seen → Type 0) → P (after now (row_of e kind)) → P (log_of e (out ++ kind ∷ []))
      then_log P is = subst P (sym (log_more e out kind)) is

-- ---- a row beside the checks

-- where the row keeps that the traversals in their checks haven't passed, but for some
module _ (e : InEvent) (out : List RowKind) (told : Told) (Before Rest : List LogRow → Type 0) (but left : ReqId → Bool) (stands : StandsAsked Before but e out told) (kind : RowKind) (beside : GoesBeside e.checking (log_of e out) kind) (quiet : IsQuiet e kind) (held : KeepsHeld e out kind) (ahead : (later : List LogRow) → Rest later → Before (row_of e kind ∷ later)) where
  abbrev next_log : Seen
  next_log = after (log_of e out) (row_of e kind)

  pub beside_stands : PassesBy e out told stands.asked kind beside quiet held Before Rest ahead → GoesDuly e.checking (log_of e out) kind → LeavesStates e.checking (log_of e out) kind → NonePassesBut e.checking left next_log → StandsAsked Rest left e (out ++ kind ∷ []) (tell_row told kind)
  beside_stands may goes states none =
      record {
        pass = more_pass e out told stands.asked kind beside quiet held Before Rest ahead stands.pass may;
        asked = then_log (λ s. AreAskedDuly e.checking e.start s (tell_row told kind)) (more_duly e out told stands.asked kind beside quiet held Before Rest ahead checks.others);
        checks = then_log (λ s. AreInCheck e.checking s) checks;
        none = then_log (λ s. NonePassesBut e.checking left s) none;
        notes = then_log (λ s. NotesWanted s (tell_row told kind).checks) (beside_notes e.checking e.start (log_of e out) told stands.asked.run e.event e.actor kind beside stands.notes);
      }
    where
      checks : AreInCheck e.checking next_log
      checks = row_checks e.checking (log_of e out) (row_of e kind) goes states stands.checks

      then_log : (P : Seen → Type 0) → P next_log → P (log_of e (out ++ kind ∷ []))
      then_log P is = subst P (sym (log_more e out kind)) is
