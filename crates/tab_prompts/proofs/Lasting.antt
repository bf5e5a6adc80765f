-- The event is cut where it stands, and the table is told of each run of discarded documents that a row has ended, but not of the one that lasts: a pass may follow that sweeps, and what is known of checks and prompts is known there.
use Rattle.asking_facts.proofs.Standing.{stands_less, stands_same, stands_wanting}
use Rattle.asking_facts.proofs.Waiting.{asks_of}
use Rattle.asking_facts.specs.Prompting.{NoneAnsweredEarly, NotesWanted}
use Rattle.asking_facts.specs.Standing.{StandsAsked}
use Rattle.check_facts.proofs.Notings.{todo_stays}
use Rattle.checking_facts.specs.Checks.{NonePassesBut, just}
use Rattle.checking_facts.specs.Prompts.{Told, told_all, told_by}
use Rattle.log_model.specs.Places.{is_traversal}
use Rattle.log_model.specs.Seen.{Asked, Asking, Seen, request_of}
use Rattle.log_model.specs.declared.job.Why.{Why}
use Rattle.log_model.specs.declared.row_kind.LogRow.{LogRow}
use Rattle.log_model.specs.declared.row_kind.RowKind.{RowKind}
use Rattle.move_queue.specs.Queue.{Queue}
use Rattle.row_facts.specs.Owed.Owed.{owes_seen}
use Rattle.seen_facts.proofs.Each.Courses.{was_asked}
use Rattle.seen_facts.proofs.Request.Times.{itself}
use Rattle.seen_laws.proofs.Cuts.{log_cut}
use Rattle.seen_laws.specs.InEvent.{InEvent, cut, first_of, log_of, now_of}
use Rattle.std.proofs.Common.{Bool, List, None, Option, Some, [], ap, append-nil, false, inl, inr, refl, subst, sym, true, ◌&&◌, ◌++◌, ◌==◌, ◌∙◌, ◌≡◌, ◌⊎◌}
use Rattle.std.specs.Prelude.{is_some}
use Rattle.tab_doors.specs.Working.{IsToCome}
use Rattle.tab_doors.specs.declared.tables.Tables.{Tables}
use Rattle.tab_ids.specs.declared.DocId.{DocId}
use Rattle.tab_ids.specs.declared.ReqId.{ReqId}
use Rattle.tab_ids.specs.declared.StateId.{StateId}
use Rattle.tab_prompts.proofs.Again.{Since, since_row}
use Rattle.tab_prompts.proofs.Dues.{there_rows}
use Rattle.tab_prompts.proofs.Ready.{pass_then, ready_prompted}
use Rattle.tab_prompts.proofs.Since.{finished_since, rows_keep}
use Rattle.tab_prompts.proofs.Tables.{GoesAt, goes_ended}
use Rattle.tab_prompts.proofs.Told.{none_told, notes_told}
use Rattle.tab_prompts.proofs.Waits.{waited_ended}
use Rattle.tab_prompts.proofs.Works.{loose_prompted, same_prompted}
use Rattle.tab_prompts.specs.Asking.{BeginsAsked, BeginsMost, WasOpen, are_unheard}
use Rattle.tab_prompts.specs.Prompts.{is_settled_in, is_settled_since, is_waiting}
use Rattle.tab_settles.specs.PassedOn.{InPass}
use Rattle.tab_settles.specs.Settling.{IsReadyIn}
use Rattle.row_facts.specs.Owed.Owed.{IsLoose}
use Rattle.unload_check.proofs.Stays.{settled_deaths}
use Rattle.unload_check.specs.Checks.{OpenCheck, check_of}

never : {A : Type 0} → true ≡ false → A
never is = absurd cc

module _ {sweeps : Bool} (p : InPass) (out : List RowKind) (t : Tables) (queue : Queue) (blame : List (StateId × ReqId)) (cause : Why) (ready : IsReadyIn sweeps p out t queue blame cause) (begins : BeginsAsked p.event t.checks) where
  abbrev e : InEvent
  e = p.event

  abbrev first : Seen
  first = log_of e []

  abbrev now : Seen
  now = log_of e out

  -- the table, told of each run that a row has ended, and the run that lasts
  abbrev told : Told
  told = told_by e.ran t.checks out

  abbrev whole : List (ReqId × OpenCheck)
  whole = told_all e.ran t.checks out

  pub finished : now.just_finished ≡ None
  finished = finished_since e out ready.passing.work.goes ready.passing.work.off begins.finished

  -- nothing is wanted more
  abbrev free : List LogRow → Bool
  free later = true

  -- the pass that goes on there, and its tables
  abbrev pub lasting_pass : InPass
  lasting_pass = pass_then p out t queue ready.passing ready.queueing told.checks [] tt finished free told.run

  abbrev pub lasting_tables : Tables
  lasting_tables = record t { checks = told.checks }

  -- the log without questions is as it was
  pub lasting_same : now_of lasting_pass.event [] ≡ now_of e out
  lasting_same = same_prompted e out [] tt finished free told.run

  pub lasting_loose : IsLoose e out → IsLoose lasting_pass.event []
  lasting_loose = loose_prompted e out [] tt finished free told.run

  -- the log itself is, too
  there : log_of lasting_pass.event [] ≡ now
  there =
      log_cut e (out ++ []) e.checking (owes_seen e out) ∙ ap (log_of e) (append-nil out)

  at_cut : (P : Seen → Type 0) → P now → P (log_of lasting_pass.event [])
  at_cut P is = subst P (sym there) is

  -- ---- as of where the event began or was cut

  since : Since first now
  since =
      rows_keep (Since first) e (since_row first e) [] out (first_of e) ready.passing.work.goes ready.passing.work.off (record { asks = λ r. refl; gone = λ doc is. is; unanswered = begins.unanswered })

  opens : (req : ReqId) (q : Asked) → request_of now req ≡ Some q → is_waiting told.checks req ≡ true → WasOpen e.start req ⊎ (are_unheard q.asks ≡ true)
  opens req q at waits =
      by_opens (begins.opens req was.0 was.1 (waited_ended e.ran t.checks req out waits))
    where
      was : (p : Asked) × (request_of first req ≡ Some p) × (asks_of p ≡ asks_of q)
      was = was_asked asks_of first.requests now.requests since.asks req q at

      by_opens : WasOpen e.start req ⊎ (are_unheard (was.0).asks ≡ true) → WasOpen e.start req ⊎ (are_unheard q.asks ≡ true)
      by_opens (inl is) = inl is
      by_opens (inr unheard) = inr (subst (λ (l : List Asking). are_unheard l ≡ true) was.2 unheard)

  nobody : (req : ReqId) → request_of now req ≡ None → check_of req told.checks ≡ None
  nobody req none =
      subst (λ (o : Option OpenCheck). GoesAt o (check_of req told.checks)) (begins.there req (by_found (request_of first req) refl)) (goes_ended e.ran t.checks req out)
    where
      by_found : (o : Option Asked) → request_of first req ≡ o → request_of first req ≡ None
      by_found None at = at
      by_found (Some q) at =
          let on = there_rows e (first_of e) out req q at in
          let both : (let o : Option Asked = None in o) ≡ Some on.0 = sym none ∙ on.1 in
          absurd cc

  -- ---- of all traversals that waited this one alone may have passed

  module _ (req : ReqId) (alone : (r : ReqId) (q : Asked) → request_of now r ≡ Some q → is_traversal q.what ≡ true → is_waiting t.checks r ≡ true → r ≡ req) where
    none_but : NonePassesBut e.checking (just req) now
    none_but r q at runs goes on apart = none_told None e out t ready.passing.work begins r q at runs goes on out_
      where
        waits_not : is_waiting t.checks r ≡ false
        waits_not = by_test (is_waiting t.checks r) refl
          where
            by_test : (b : Bool) → is_waiting t.checks r ≡ b → b ≡ false
            by_test false is = refl
            by_test true is =
                let one : r ≡ req = alone r q at goes is in
                never (sym (ap (λ (x : ReqId). x.0 == req.0) one ∙ itself req) ∙ apart)

        out_ : is_settled_since t.checks whole r ≡ false
        out_ = ap (λ (b : Bool). b && is_settled_in whole r) waits_not

    -- what the table notes is noted once it is told of the run
    notes_now : NotesWanted now told.checks
    notes_now r q at doc noted =
        notes_told None e out t ready.passing.work begins r q at doc (todo_stays r told.checks whole (settled_deaths told.run told.checks) (ap (λ (o : Option DocId). is_some o) noted) ∙ noted)

    stands_now : StandsAsked (IsToCome None e out) (just req) e out told
    stands_now =
        record {
          pass = ready.passing.work.lawful;
          asked = ready.passing.work.asked;
          checks = ready.passing.work.checks;
          none = none_but;
          notes = notes_now;
        }

    pub lasting_stands : StandsAsked (IsToCome None lasting_pass.event []) (just req) lasting_pass.event [] told
    lasting_stands =
        stands_wanting (IsToCome None lasting_pass.event []) (just req) (cut e (out ++ []) e.checking (owes_seen e out)) [] told lasting_pass.event.wants told.run
        (stands_same (IsToCome None lasting_pass.event []) (just req) e (out ++ []) told (owes_seen e out)
        (stands_less (IsToCome None e (out ++ [])) (IsToCome None lasting_pass.event []) (just req) e (out ++ []) told (λ later is. (is.0, is.1)) (subst (λ (l : List RowKind). StandsAsked (IsToCome None e l) (just req) e l told) (sym (append-nil out)) stands_now)))

    pub lasting_ready : IsReadyIn true lasting_pass [] lasting_tables queue blame cause
    lasting_ready =
        ready_prompted p out t queue blame cause ready told.checks [] tt finished free told.run (just req) lasting_stands tt

    -- so the event goes on as one that began, whoever has passed
    pub lasting_most : BeginsMost lasting_pass.event told.checks
    lasting_most =
        record {
          asked = lasting_stands.asked;
          notes = lasting_stands.notes;
          unanswered = at_cut NoneAnsweredEarly since.unanswered;
          opens = at_cut (λ s. (r : ReqId) (q : Asked) → request_of s r ≡ Some q → is_waiting told.checks r ≡ true → WasOpen e.start r ⊎ (are_unheard q.asks ≡ true)) opens;
          there = at_cut (λ s. (r : ReqId) → request_of s r ≡ None → check_of r told.checks ≡ None) nobody;
          finished = at_cut (λ s. s.just_finished ≡ None) finished;
        }
