-- The user leaves, as an event's own row: what the row leaves as the request passes its check.
use Rattle.load_table.specs.declared.load.Load.{Load}
use Rattle.asking_facts.proofs.Answered.{answered_pass, found_one, leave_comes, left_checks, left_duly, left_none, left_passes}
use Rattle.asking_facts.proofs.Passed.{known_on}
use Rattle.asking_facts.specs.Known.{AskingKnown}
use Rattle.asking_facts.proofs.Ended.{between_duly}
use Rattle.check_facts.specs.Checking.{is_checking}
use Rattle.checking_facts.specs.Prompts.{AreAskedDuly, noted_by}
use Rattle.log_model.specs.After.{after}
use Rattle.log_model.specs.Checks.{is_checked}
use Rattle.log_model.specs.Formed.{awaits_answer}
use Rattle.log_model.specs.Places.{has_passed, is_under_way}
use Rattle.log_model.specs.Queue.{is_step_under_way}
use Rattle.log_model.specs.Seen.{Asked, Seen, request_of}
use Rattle.log_model.specs.declared.row_kind.Actor.TheVariants as actors
use Rattle.log_model.specs.declared.row_kind.RowKind.TheVariants as rows
use Rattle.seen_facts.proofs.Coord.Held.{on_else}
use Rattle.seen_facts.proofs.Request.Readers.{SameReads, on_read}
use Rattle.seen_laws.proofs.InEvents.{now_is}
use Rattle.seen_laws.specs.InEvent.{InEvent, OwesNothing, log_of, row_of}
use Rattle.std.proofs.Common.{Bool, List, None, Some, [], ap, false, not, refl, subst, sym, true, ◌&&◌, ◌==◌, ◌∙◌, ◌≡◌}
use Rattle.std.proofs.lemmas.Bool.{and_parts}
use Rattle.std.specs.Prelude.{is_none, is_some}
use Rattle.tab_answers.proofs.Events.{plain, plain_is}
use Rattle.tab_answers.proofs.Lasts.{answered_lasts}
use Rattle.tab_answers.proofs.Stays.{prompted}
use Rattle.tab_answers.proofs.Stood.{answered_quiet}
use Rattle.tab_doors.specs.Working.{IsToCome}
use Rattle.tab_ids.specs.declared.DocId.{DocId}
use Rattle.tab_ids.specs.declared.ReqId.{ReqId}
use Rattle.tab_passed.specs.Passing.{HasPassedBy, LeavesAsking, PassesCheck}
use Rattle.tab_stands.specs.Checked.{ChecksStand}
use Rattle.tab_stands.specs.Standing.{LastsInLog}
use Rattle.unload_check.specs.Checks.{OpenCheck, ended}

module _ (was : ReqId → Bool) (e : InEvent) (es : List (ReqId × OpenCheck)) (asks : ChecksStand was e.start es) {table next : List Load} (lasts : LastsInLog was table e.start) (uncut : e.before ≡ []) (undue : OwesNothing e) (req : ReqId) (q : Asked) (pass : PassesCheck was e req q) (leaves : LeavesAsking was e.checking req q.what table next) (by_user : e.actor ≡ actors.Ui) (own : e.own ≡ rows.Answered req false) (awaits : awaits_answer q ≡ true) where
  -- the event
  abbrev x : InEvent
  x = plain e actors.Ui (rows.Answered req false)

  -- the log once the user has left
  abbrev t : Seen
  t = after e.start (row_of x (rows.Answered req false))

  checked : is_checked q ≡ true
  checked = (lasts.checks.checks req q pass.at pass.on).checked

  up : is_some q.prompted ≡ true
  up = (and_parts (is_some q.prompted) (is_none q.answered) (and_parts (is_some q.prompted && is_none q.answered) (is_none q.ending) awaits).0).0

  in_check : is_checking e.start q ≡ true
  in_check = (prompted e.header e.start e.event was req es asks lasts.known q pass.at checked awaits).in_check

  -- it is under way
  pub under : is_under_way q ≡ true
  under = (and_parts (is_checked q) (is_under_way q) (and_parts (is_checked q && is_under_way q) (not (has_passed e.start q)) in_check).0).1

  numbered : q.nr ≡ req
  numbered = asks.has.numbered req q pass.at

  began : AreAskedDuly was e.start e.start (record { checks = es; run = [] })
  began = between_duly was e.start es asks.has asks.open_ asks.within

  -- ---- what lasts

  said_known : AskingKnown t
  said_known = known_on e.start (row_of x (rows.Answered req false)) tt tt (λ y at. subst (λ (z : Asked). is_some z.prompted ≡ true) (let both : Some q ≡ Some y = sym pass.at ∙ at in let same : q ≡ y = cc in same) up) tt lasts.known

  as_it_was : LastsInLog was table t
  as_it_was = answered_lasts was e.start e.event actors.Ui lasts req false pass.on said_known

  has : (y : Asked) → request_of t req ≡ Some y → has_passed t y ≡ true
  has y at =
      let both : Some (record q { answered = Some false }) ≡ Some y = sym (found_one was e.start e.event req false es began q pass.at up numbered) ∙ at in
      let same : record q { answered = Some false } ≡ y = cc in
      subst (λ (z : Asked). has_passed t z ≡ true) same (left_passes was e.start e.event req false es began q pass.at up numbered refl)

  -- it asks for what it asked for
  whats : (y : Asked) → request_of t req ≡ Some y → y.what ≡ q.what
  whats y at =
      let both : Some (record q { answered = Some false }) ≡ Some y = sym (found_one was e.start e.event req false es began q pass.at up numbered) ∙ at in
      let same : record q { answered = Some false } ≡ y = cc in
      ap (λ (z : Asked). z.what) (sym same)

  left_lasts : LastsInLog e.checking next t
  left_lasts =
      record {
        checks = left_checks was e.start e.event req pass.on q pass.at e.checking pass.same pass.off has lasts.checks;
        asking = leaves t whats as_it_was.asking;
        shows = as_it_was.shows;
        duly = as_it_was.duly;
        known = as_it_was.known;
      }

  -- ---- all of it

  plainly : HasPassedBy x (ended req es) next
  plainly =
      record {
        uncut = refl;
        undue = record { due = undue.due; ran = undue.ran };
        numbered = lasts.checks.numbered;
        led = refl;
        worker = tt;
        unseen = now_is x [] ∙ answered_quiet e.checking e.start e.event actors.Ui req false;
        lasts = left_lasts;
        calm = left_none was e.start e.event req pass.on q pass.at e.checking pass.same pass.off asks.calm;
        asked = subst (λ (docs : List DocId). AreAskedDuly e.checking e.start (log_of x []) (record { checks = ended req es; run = docs })) (sym undue.ran) (left_duly was e.start e.event req false es began q pass.at up numbered e.checking pass.same refl);
        lawful = answered_pass (IsToCome None x []) x req false q (noted_by e.ran (ended req es) []) refl refl refl pass.at awaits (λ later rest. leave_comes x req later);
        takes = λ later. refl;
      }

  -- the same steps are under way
  pub left_steps : SameReads is_step_under_way e.start.requests (log_of e []).requests
  left_steps =
      subst (λ (y : InEvent). SameReads is_step_under_way e.start.requests (log_of y []).requests) (plain_is e actors.Ui (rows.Answered req false) by_user own uncut) (on_read is_step_under_way e.start.requests req (λ (y : Asked). record y { answered = Some false }) (λ y. refl))

  -- each other request is as it was
  pub left_others : (r : ReqId) → (r.0 == req.0) ≡ false → request_of (log_of e []) r ≡ request_of e.start r
  left_others r apart =
      subst (λ (y : InEvent). request_of (log_of y []) r ≡ request_of e.start r) (plain_is e actors.Ui (rows.Answered req false) by_user own uncut) (on_else e.start.requests req (λ (y : Asked). record y { answered = Some false }) r apart)

  pub left_passed : HasPassedBy e (ended req es) next
  left_passed =
      subst (λ (y : InEvent). HasPassedBy y (ended req es) next) (plain_is e actors.Ui (rows.Answered req false) by_user own uncut) plainly
