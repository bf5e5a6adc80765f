-- The event is cut behind the prompts: the tab is at rest there as it was, and what is known of checks is so anew.
use Rattle.asking_facts.specs.Known.{AskingKnown}
use Rattle.check_facts.specs.Prompting.{prompt_of, todo_of}
use Rattle.checking_facts.specs.Prompts.{told_all, told_by}
use Rattle.load_prompts.proofs.Goes.{apart_prompts, goes_passed, goes_undue}
use Rattle.load_prompts.specs.Prompting.{AreToAskAbout, HasAskedAbout, MayGoOn, prompted_cut, prompts_due}
use Rattle.log_model.specs.After.{after}
use Rattle.log_model.specs.Checks.{due_prompt}
use Rattle.log_model.specs.Places.{has_passed, is_traversal}
use Rattle.log_model.specs.Seen.{Asked, Seen, request_of}
use Rattle.log_model.specs.declared.job.Why.{Why}
use Rattle.log_model.specs.declared.request.Request.{Request}
use Rattle.log_model.specs.declared.row_kind.LogRow.{LogRow}
use Rattle.log_model.specs.declared.row_kind.RowKind.TheVariants as rows
use Rattle.log_model.specs.declared.row_kind.RowKind.{RowKind}
use Rattle.move_queue.specs.Queue.{Queue}
use Rattle.row_facts.specs.Owed.Owed.{owes_seen}
use Rattle.seen_facts.proofs.Each.Courses.{was_asked}
use Rattle.seen_facts.proofs.Request.Readers.{SameReads, on_read, reads_then}
use Rattle.seen_facts.specs.Hang.Members.{Has}
use Rattle.seen_laws.proofs.Cuts.{log_cut}
use Rattle.seen_facts.specs.LoadEnds.Standing.{LoadsStand}
use Rattle.seen_laws.specs.InEvent.{EndAsWanted, InEvent, log_of, now_of, row_of}
use Rattle.std.proofs.Common.{Bool, List, None, Option, Some, [], ap, false, filter, inl, inr, refl, subst, sym, true, ◌++◌, ◌∙◌, ◌∷◌, ◌≡◌, ◌⊎◌}
use Rattle.std.specs.Prelude.{if◌then◌else◌, option_and_then}
use Rattle.tab_doors.specs.declared.tables.Tables.{Tables}
use Rattle.tab_facts.specs.FrameWhole.Tab.{AreAwakeWithRows}
use Rattle.tab_facts.specs.TabEvents.Between.{AreSwept, orders_go}
use Rattle.tab_ids.specs.declared.ReqId.{ReqId}
use Rattle.tab_ids.specs.declared.StateId.{StateId}
use Rattle.tab_prompts.proofs.Again.{begins_again}
use Rattle.tab_prompts.proofs.Known.{known_prompts}
use Rattle.tab_prompts.proofs.Ready.{over, ready_prompted}
use Rattle.tab_prompts.proofs.Rested.{settled_prompted}
use Rattle.tab_prompts.proofs.Settled.{IsNotedFor, cut_calm, cut_stands, ends_then, has_waiting, left, waiting_has}
use Rattle.tab_prompts.proofs.Since.{finished_since}
use Rattle.tab_prompts.proofs.Told.{told_asked}
use Rattle.tab_prompts.proofs.Works.{loose_prompted, prompts_are, prompts_keep, same_prompted}
use Rattle.tab_prompts.specs.Asking.{AreAllWaiting, AreApart, BeginsAsked}
use Rattle.tab_prompts.specs.Prompts.{is_settled_in, is_waiting, prompts_for, waiting_among}
use Rattle.tab_prompts.specs.Sparing.{new_notes, spares}
use Rattle.tab_settles.specs.Held.{HasCleared}
use Rattle.tab_settles.specs.PassedOn.{AreLeftStrays, InPass, IsPassing}
use Rattle.tab_settles.specs.Settling.{HasSettled}
use Rattle.tab_stands.specs.GoingOn.{GoesOn}
use Rattle.unload_check.specs.Checks.{OpenCheck, outcome_at}
use Rattle.unload_check.specs.declared.check.Check.TheVariants as checks
use Rattle.unload_check.specs.declared.check.Check.{Check}

never : {A : Type 0} → true ≡ false → A
never is = absurd cc

-- ---- of requests that are apart some are

among : (test : ReqId → Bool) (reqs : List ReqId) (r : ReqId) → Has (filter test reqs) r → Has reqs r
among test [] r has = absurd has
among test (x ∷ reqs) r has = by_first (test x) has (among test reqs r)
  where
    by_first : (b : Bool) → Has (if b then x ∷ filter test reqs else filter test reqs) r → (Has (filter test reqs) r → Has reqs r) → Has (x ∷ reqs) r
    by_first true (inl same) rest = inl same
    by_first true (inr there) rest = inr (rest there)
    by_first false there rest = inr (rest there)

filtered_apart : (test : ReqId → Bool) (reqs : List ReqId) → AreApart reqs → AreApart (filter test reqs)
filtered_apart test [] apart = tt
filtered_apart test (req ∷ reqs) apart = by_test (test req) (filtered_apart test reqs apart.1)
  where
    by_test : (b : Bool) → AreApart (filter test reqs) → AreApart (if b then req ∷ filter test reqs else filter test reqs)
    by_test true rest = ((λ other has. apart.0 other (among test reqs other has)), rest)
    by_test false rest = rest

-- ---- behind the prompts

-- what each request asks
abbrev what_of : Asked → Request
what_of q = q.what

module _ (p : InPass) (out : List RowKind) (t : Tables) (passing : IsPassing p out t) (begins : BeginsAsked p.event t.checks) (reqs : List ReqId) (about : AreToAskAbout p.event out t.checks reqs) where
  abbrev e : InEvent
  e = p.event

  abbrev waited : List ReqId
  waited = waiting_among t.checks reqs

  abbrev told : List (ReqId × OpenCheck)
  told = told_all e.ran t.checks out

  abbrev prompts : List RowKind
  prompts = prompts_due e out t.checks reqs

  abbrev then_ : InEvent
  then_ = prompted_cut e out t.checks reqs

  apart : AreApart (waiting_among t.checks reqs)
  apart = filtered_apart (is_waiting t.checks) reqs about.apart

  waits : (req : ReqId) → Has (waiting_among t.checks reqs) req → is_waiting t.checks req ≡ true
  waits req has = waiting_has (is_waiting t.checks) reqs req has

  finished : (log_of e out).just_finished ≡ None
  finished = finished_since e out passing.work.goes passing.work.off begins.finished

  there : log_of then_ [] ≡ log_of e (out ++ prompts)
  there = log_cut e (out ++ prompts) e.checking (owes_seen e out)

  -- ---- no traversal is settled by it

  -- a request of behind the prompts asks what it asked before them
  before : (r : ReqId) (q : Asked) → request_of (log_of then_ []) r ≡ Some q → (o : Asked) × (request_of (log_of e out) r ≡ Some o) × (o.what ≡ q.what)
  before r q found =
      let same : SameReads what_of (log_of e out).requests (log_of e (out ++ prompts)).requests =
      prompts_keep (λ s. SameReads what_of (log_of e out).requests s.requests) e (λ s r2 doc reads. reads_then what_of (log_of e out).requests s.requests (after s (row_of e (rows.Prompted r2 doc))).requests reads (on_read what_of s.requests r2 (λ x. record x { prompted = Some doc }) (λ x. refl))) prompts out (prompts_are told waited) (λ r3. refl) in
      was_asked what_of (log_of e out).requests (log_of e (out ++ prompts)).requests same r q (ap (λ (s : Seen). request_of s r) (sym there) ∙ found)

  all : AreAllWaiting (log_of then_ []) t.checks waited
  all r q found goes runs waits_ =
      let was = before r q found in
      has_waiting (is_waiting t.checks) reqs r (about.all r was.0 was.1 (ap is_traversal was.2 ∙ goes) waits_) waits_

  noted : (r : ReqId) (q : Asked) → request_of (log_of then_ []) r ≡ Some q → is_traversal q.what ≡ true → Has waited r → is_settled_in told r ≡ true → IsNotedFor told r
  noted r q found goes has settled =
      let was = before r q found in
      never (sym settled ∙ about.waits r was.0 was.1 (ap is_traversal was.2 ∙ goes) (waits r has))

  -- ---- the event goes on

  begins_then : BeginsAsked (prompted_cut p.event out t.checks reqs) (told_all p.event.ran t.checks out)
  begins_then = begins_again None e out t passing.work begins waited apart waits about.under all noted

  settled_then : (queue : Queue) (blame : List (StateId × ReqId)) (cause : Why) → HasSettled p out t queue blame cause → HasSettled (record p { event = prompted_cut p.event out t.checks reqs }) [] (record t { checks = told_all p.event.ran t.checks out }) queue blame cause
  settled_then queue blame cause at =
      settled_prompted p out t queue blame cause at told prompts (prompts_are told waited) finished (spares (new_notes (told_by e.ran t.checks out).checks told)) (left None e out t passing.work begins waited apart waits about.under) (cut_stands None e out t passing.work begins waited apart waits about.under) (cut_calm None e out t passing.work begins waited apart waits about.under all noted)

  -- so it is up to the walk of a pass
  cleared_then : (queue : Queue) (blame : List (StateId × ReqId)) (cause : Why) → HasCleared false p out t queue blame cause → HasCleared false (record p { event = prompted_cut p.event out t.checks reqs }) [] (record t { checks = told_all p.event.ran t.checks out }) queue blame cause
  cleared_then queue blame cause at =
      record {
        ready = ready_prompted p out t queue blame cause at.ready told prompts (prompts_are told waited) finished spared [] (left None e out t passing.work begins waited apart waits about.under) (cut_stands None e out t passing.work begins waited apart waits about.under) (cut_calm None e out t passing.work begins waited apart waits about.under all noted);
        stand = on LoadsStand at.stand;
        rows_ = on AreAwakeWithRows at.rows_;
        strays = on (λ (x : Seen). AreLeftStrays x blame) at.strays;
        swept = on (λ (x : Seen). AreSwept x ⊎ (orders_go x ≡ true)) at.swept;
      }
    where
      spared : List LogRow → Bool
      spared = spares (new_notes (told_by e.ran t.checks out).checks told)

      on : (P : Seen → Type 0) → P (now_of e out) → P (now_of then_ [])
      on P is = over p out t queue at.ready.passing at.ready.queueing told prompts (prompts_are told waited) finished spared [] P is

  -- one that waited, and whose check goes on, has passed it
  goers_then : (req : ReqId) (q : Asked) → Has reqs req → is_waiting t.checks req ≡ true → request_of (log_of (prompted_cut p.event out t.checks reqs) []) req ≡ Some q → outcome_at req told ≡ Some checks.Go → MayGoOn (log_of (prompted_cut p.event out t.checks reqs) []) told req q
  goers_then req q has is_waits found goes =
      subst (λ (x : Seen). MayGoOn x told req q) (sym there) (record {
        passed = prompts_keep (λ s. has_passed s q ≡ true) e (λ s r doc is. is) prompts out (prompts_are told waited) (goes_passed e out t passing.work begins req is_waits q at goes);
        undue = prompts_keep (λ s. due_prompt s q ≡ None) e (λ s r doc is. is) prompts out (prompts_are told waited) (goes_undue e out t passing.work begins req is_waits q at goes);
        unnoted = unnoted;
      })
    where
      unnoted : todo_of told req ≡ None
      unnoted = ap (λ (o : Option Check). option_and_then prompt_of o) goes

      at : request_of (log_of e out) req ≡ Some q
      at = sym (apart_prompts e told req unnoted waited out) ∙ ap (λ (x : Seen). request_of x req) (sym there) ∙ found

  known_then : AskingKnown (log_of p.event out) → AskingKnown (log_of (prompted_cut p.event out t.checks reqs) [])
  known_then known =
      subst AskingKnown (sym there) (known_prompts e told waited out (told_asked None e out t passing.work begins).notes known)

  goes_then : GoesOn p.event (out ++ prompts_due p.event out t.checks reqs) (prompted_cut p.event out t.checks reqs)
  goes_then = record { header = refl; start = refl; event = refl; actor = refl; own = refl; before = refl }

  -- ---- for the call

  pub has_asked : (new : List RowKind) (u : Tables) → u ≡ record t { checks = told_all p.event.ran t.checks out } → new ≡ out ++ prompts_for u.checks (waiting_among t.checks reqs) → HasAskedAbout p reqs out new t u
  has_asked new u tables is =
      record {
        is = rows_are;
        tables = tables;
        goes = goes_then;
        settled = λ queue blame cause at. subst (λ (x : Tables). HasSettled (record p { event = then_ }) [] x queue blame cause) (sym tables) (settled_then queue blame cause at);
        cleared = λ queue blame cause at. subst (λ (x : Tables). HasCleared false (record p { event = then_ }) [] x queue blame cause) (sym tables) (cleared_then queue blame cause at);
        goers = λ req q has is_waits found goes. subst (λ (x : Tables). MayGoOn (log_of then_ []) x.checks req q) (sym tables) (goers_then req q has is_waits found (ap (λ (x : Tables). outcome_at req x.checks) (sym tables) ∙ goes));
        begins = subst (λ (x : Tables). BeginsAsked then_ x.checks) (sym tables) begins_then;
        known = known_then;
        seen = same_prompted e out prompts (prompts_are told waited) finished (spares (new_notes (told_by e.ran t.checks out).checks told)) [];
        loose = loose_prompted e out prompts (prompts_are told waited) finished (spares (new_notes (told_by e.ran t.checks out).checks told)) [];
        wanted = λ more spare was. ends_then None e out t passing.work begins waited apart waits about.under more spare (subst (λ (l : List RowKind). EndAsWanted e (l ++ more)) rows_are was);
      }
    where
      rows_are : new ≡ out ++ prompts_due e out t.checks reqs
      rows_are = is ∙ ap (λ (x : Tables). out ++ prompts_for x.checks waited) tables
