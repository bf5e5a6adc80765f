-- A request begins and asks, behind the rows so far: they pass with it, and what is carried of the checks stays.
use Rattle.std.proofs.Common.{◌≡◌, ℕ, ◌+◌, Bool, true, false, List, [], ◌∷◌, ◌++◌, map, Option, Some, refl, sym, ap, ◌∙◌, subst}
use Rattle.std.specs.List.{list_any}
use Rattle.tab_ids.specs.declared.DocId.{DocId}
use Rattle.tab_ids.specs.declared.ReqId.{ReqId}
use Rattle.tab_ids.specs.declared.Step.{Step}
use Rattle.log_model.specs.declared.job.Job.{Job}
use Rattle.log_model.specs.declared.job.Task.{Task}
use Rattle.log_model.specs.declared.job.Why.TheVariants as whys
use Rattle.log_model.specs.declared.row_kind.LogRow.{LogRow}
use Rattle.log_model.specs.declared.row_kind.RowKind.{RowKind}
use Rattle.log_model.specs.declared.row_kind.RowKind.TheVariants as rows
use Rattle.log_model.specs.AfterRequests.{with_asking}
use Rattle.log_model.specs.Checks.{is_checked}
use Rattle.log_model.specs.Equal.{holds}
use Rattle.log_model.specs.Orders.{Question}
use Rattle.log_model.specs.Places.{is_traversal}
use Rattle.log_model.specs.Seen.{Asked, Seen, request_of}
use Rattle.seen_laws.proofs.InEvents.{led_here, log_fold}
use Rattle.seen_laws.proofs.Owings.{pays_append}
use Rattle.seen_laws.specs.Blocks.{EachPass, Here, on_row, on_rows}
use Rattle.seen_laws.specs.InEvent.{InEvent, begins, first_of, here_of, log_of, own_of, row_of, rows_of}
use Rattle.seen_laws.specs.Owing.{Pays}
use Rattle.seen_laws.specs.Sending.{leads}
use Rattle.row_facts.specs.FrameRows.Lawful.{IsRestOf}
use Rattle.check_facts.proofs.Events.{start_is}
use Rattle.check_facts.specs.Prompting.{AreAside, todo_of}
use Rattle.unasked_dues.specs.Checking.{NonePasses}
use Rattle.checking_facts.proofs.Tellings.{told_due}
use Rattle.checking_facts.specs.Checks.{AreInCheck, MayEnter, NoOtherUnderWay, SameBut}
use Rattle.checking_facts.specs.Prompts.{AreAskedDuly, PassIf, Told}
use Rattle.checking_facts.specs.States.{IsNextState}
use Rattle.unload_check.specs.Checks.{after_all_deaths}
use Rattle.asking_facts.proofs.Begun.{block_aside, block_log, begun_homes, begun_own, once_begun, then_}
use Rattle.asking_facts.proofs.Blocks.{block_paid, block_rest, no_more, pass_rows}
use Rattle.asking_facts.proofs.Early.{early_row}
use Rattle.asking_facts.proofs.Entered.{begun_checks, begun_none}
use Rattle.asking_facts.proofs.Passing.{BeganHere, begin_passes, led_more, questions_pass}
use Rattle.asking_facts.proofs.Sent.{asked_own, once_asked, when_asked}
use Rattle.asking_facts.proofs.Started.{hadnt_begun}
use Rattle.asking_facts.proofs.Tables.{all_todo, begun_duly}
use Rattle.asking_facts.specs.Asking.{AreQuestions, AreQuestionsFrom, AreSome, BeginsToAsk, IsForBegun, MayBeginTo, NoneAskedEarly, begun_asking, checks_begun, questions_sent}

header_rows : (h : Here) (rows : List LogRow) → (on_rows h rows).header ≡ h.header
header_rows h [] = refl
header_rows h (row ∷ rows) = header_rows (on_row h row) rows

-- questions for a request that has begun
pub questions_early : (e : InEvent) (base : Seen) (req : ReqId) (s : Seen) (number : ℕ) (questions : List Question) (jobs : List Job) (x : Asked) → AreQuestionsFrom base req number questions jobs → request_of s req ≡ Some x → x.is_started ≡ true → NoneAskedEarly s → NoneAskedEarly (when_asked e s jobs)
questions_early e base req s number [] [] x are at begun early = early
questions_early e base req s number (question ∷ questions) (job ∷ jobs) x are at begun early =
    questions_early e base req (once_asked s e.event e.actor job question.1 question.2 are.0.task) (number + 1) questions jobs (with_asking job x) are.1 (asked_own s e.event e.actor job question.1 question.2 are.0.task req are.0.why x at) begun (early_row s (row_of e (rows.Sent job)) (subst (λ (t : Task). IsForBegun s job t) (sym are.0.task) its) early)
  where
    its : (r : ReqId) (y : Asked) → job.why ≡ whys.Req r → request_of s r ≡ Some y → y.is_started ≡ true
    its r y why found =
        let both : whys.Req req ≡ whys.Req r = sym are.0.why ∙ why in
        let it : req ≡ r = cc in
        let one : x ≡ y = (let same : Some x ≡ Some y = sym at ∙ ap (λ (n : ReqId). request_of s n) it ∙ found in cc) in
        ap (λ (z : Asked). z.is_started) (sym one) ∙ begun
questions_early e base req s number [] (job ∷ jobs) x are at begun early = absurd are
questions_early e base req s number (question ∷ questions) [] x are at begun early = absurd are

module _ (e : InEvent) (out : List RowKind) (told : Told) (asked : AreAskedDuly e.checking e.start (log_of e out) told) (req : ReqId) (goal : Option Step) (questions : List Question) (jobs : List Job) (q : Asked) (begins_ : BeginsToAsk (log_of e out) req goal questions q) (are : AreQuestions (log_of e out) req questions jobs) where
  abbrev now : Seen
  now = log_of e out

  abbrev h : Here
  h = here_of e out

  abbrev block : List RowKind
  block = begun_asking req goal jobs

  -- it hadn't begun as the event began
  before : holds (λ (x : Asked). x.is_started) (request_of h.start req) ≡ false
  before =
      subst (λ (s : Seen). holds (λ (x : Asked). x.is_started) (request_of s req) ≡ false) (sym (start_is e out)) (hadnt_begun e.start (rows_of e out) req q (subst (λ (s : Seen). request_of s req ≡ Some q) (log_fold e out) begins_.at) begins_.unstarted)

  header_is : h.header ≡ e.header
  header_is = header_rows (first_of e) (map (row_of e) out) ∙ header_rows (own_of e) (map (row_of e) e.before)

  -- the rows so far pass with it
  pub begun_pass : (Before Rest : List LogRow → Type 0) → ((later : List LogRow) → Rest later → Before (map (row_of e) block ++ later)) → leads e.own ≡ true → list_any (begins req) (e.before ++ out) ≡ false → MayBeginTo h (row_of e (rows.Started req goal)) req goal q → AreSome questions → e.checking req ≡ false → PassIf Before e (todo_of told.checks) out → PassIf Rest e (todo_of (checks_begun told req questions)) (out ++ block)
  begun_pass Before Rest ahead led unbegun may some off pass =
      subst (λ (todo : ReqId → Option DocId). PassIf Rest e todo (out ++ block)) (sym (all_todo e e.checking e.start now told asked req goal questions jobs q begins_ are some off)) (pass_rows e out told asked.run (rows.Started req goal) (questions_sent jobs) Before Rest ahead aside each pass)
    where
      aside : AreAside e.start (todo_of (after_all_deaths told.run told.checks)) now (map (row_of e) block)
      aside =
          block_aside e now req goal questions jobs q begins_ are e.start (todo_of (after_all_deaths told.run told.checks)) (told_due e.start now told asked.run)

      each : (later : List LogRow) → IsRestOf e (out ++ block) later → Rest later → IsRestOf e out (map (row_of e) block ++ later) × EachPass h (map (row_of e) block) later
      each later rest ahead_ =
          let none = no_more e out now req goal unbegun (now.jobs + 1) questions jobs are later rest in
          let owed : Pays h (row_of e (rows.Started req goal) ∷ []) (map (row_of e) (questions_sent jobs) ++ later) = (pays_append h (row_of e (rows.Started req goal) ∷ []) (map (row_of e) (questions_sent jobs)) later (block_paid e out now req goal unbegun (now.jobs + 1) questions jobs are later rest)).0 in (
            block_rest e out now req goal unbegun (now.jobs + 1) questions jobs are later rest,
            (
              begin_passes e h req goal q questions jobs (now.jobs + 1) now later (led_here e out led) begins_ are none (may (map (row_of e) (questions_sent jobs) ++ later) owed),
              questions_pass e now req (on_row h (row_of e (rows.Started req goal))) (now.jobs + 1) questions jobs later header_is are (begun_homes e now req goal questions jobs q begins_ are) refl (led_more h.done (row_of e (rows.Started req goal)) (led_here e out led)) began,
            ),
          )
        where
          began : BeganHere (on_row h (row_of e (rows.Started req goal))) req
          began = record { q = _; at = begun_own e now req goal questions jobs q begins_ are; begun = refl; before = before }

  module _ (entered : ReqId → Bool) (same : SameBut req e.checking entered) (off : e.checking req ≡ false) (on : entered req ≡ true) where
    as_log : (P : Seen → Type 0) → P (then_ e now req goal questions jobs q begins_ are) → P (log_of e (out ++ block))
    as_log P is = subst P (sym (block_log e out req goal jobs)) is

    -- what is carried of prompts
    pub begun_asked : AreSome questions → is_checked q ≡ true → AreAskedDuly entered e.start (log_of e (out ++ block)) (record { checks = checks_begun told req questions; run = [] })
    begun_asked some checked =
        as_log (λ s. AreAskedDuly entered e.start s (record { checks = checks_begun told req questions; run = [] })) (begun_duly e e.checking e.start now told asked req goal questions jobs q begins_ are some off entered same on checked)

    -- who is in a check
    pub begun_in_check : MayEnter q → IsNextState now (record { 0 = now.states + 1 }) → (is_traversal q.what ≡ true → NoOtherUnderWay now req) → AreInCheck e.checking now → AreInCheck entered (log_of e (out ++ block))
    begun_in_check may next alone checks =
        as_log (λ s. AreInCheck entered s) (begun_checks e e.checking entered now req goal questions jobs q begins_ are same off on may next alone checks)

    -- and that none passes
    pub begun_none_passes : AreSome questions → NonePasses e.checking now → NonePasses entered (log_of e (out ++ block))
    begun_none_passes some none =
        as_log (λ s. NonePasses entered s) (begun_none e e.checking entered now req goal questions jobs q begins_ are same off on some none)

    -- and that who hasn't begun asked nobody
    pub begun_early : NoneAskedEarly now → NoneAskedEarly (log_of e (out ++ block))
    begun_early early =
        as_log NoneAskedEarly (questions_early e now req (once_begun e now req goal questions jobs q begins_ are) (now.jobs + 1) questions jobs _ are (begun_own e now req goal questions jobs q begins_ are) refl (early_row now (row_of e (rows.Started req goal)) tt early))
