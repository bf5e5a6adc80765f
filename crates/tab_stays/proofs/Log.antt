-- The user stays, and the traversal is dropped: what is known of the log and of its checks then, where the event is cut.
use Rattle.seen_facts.proofs.LoadTies.Ends.{dropped_ended}
use Rattle.tab_doors.proofs.Keeping.{traversal_no_load}
use Rattle.tab_doors.proofs.AskingLoads.{asking_ended}
use Rattle.tab_doors.specs.AskingLoads.{TiesAsking}
use Rattle.tab_doors.specs.PassedOn.{Load}
use Rattle.asking_facts.proofs.Notes.{between_notes}
use Rattle.asking_facts.proofs.Passed.{known_on}
use Rattle.asking_facts.proofs.Standing.{stands_cut}
use Rattle.asking_facts.proofs.Stayed.{stayed_pass}
use Rattle.asking_facts.proofs.Wanted.{was_wanted}
use Rattle.asking_facts.specs.Known.{AskingKnown}
use Rattle.asking_facts.specs.Prompting.{NotesWanted}
use Rattle.asking_facts.specs.Standing.{StandsAsked}
use Rattle.check_facts.specs.Checking.{AreTiedAt}
use Rattle.check_facts.specs.Prompting.{todo_of}
use Rattle.checking_facts.specs.Prompts.{PassIf}
use Rattle.log_model.specs.After.{after}
use Rattle.log_model.specs.Checks.{is_checked}
use Rattle.log_model.specs.Equal.{has_req}
use Rattle.log_model.specs.Places.{all_asked, is_load, is_reload, is_ongoing_load, is_under_way}
use Rattle.log_model.specs.Seen.{Asked, Asking, Seen, request_of}
use Rattle.log_model.specs.declared.outcome.Cause.TheVariants as drops
use Rattle.log_model.specs.declared.outcome.Ending.TheVariants as endings
use Rattle.log_model.specs.declared.row_kind.Actor.TheVariants as actors
use Rattle.log_model.specs.declared.row_kind.LogRow.{LogRow}
use Rattle.log_model.specs.declared.row_kind.RowKind.TheVariants as rows
use Rattle.log_model.specs.declared.row_kind.RowKind.{RowKind}
use Rattle.seen_facts.proofs.Each.Courses.{was_asked}
use Rattle.seen_facts.proofs.Request.Readers.{SameReads, on_read, reads_then}
use Rattle.asking_facts.proofs.Waiting.{asks_of}
use Rattle.seen_laws.proofs.Cuts.{log_cut}
use Rattle.seen_laws.specs.InEvent.{InEvent, log_of, row_of}
use Rattle.std.proofs.Common.{Bool, List, None, Option, Some, [], ap, false, inl, refl, subst, sym, true, ◌++◌, ◌||◌, ◌∙◌, ◌∷◌, ◌≡◌, ◌⊎◌}
use Rattle.std.proofs.lemmas.Bool.{and_parts}
use Rattle.std.specs.Prelude.{is_none, is_some, ◌&&◌}
use Rattle.tab_answers.proofs.Events.{plain}
use Rattle.tab_answers.proofs.Lasts.{answered_lasts, dropped_lasts}
use Rattle.tab_answers.proofs.Stays as stays
use Rattle.tab_doors.specs.Working.{IsToCome}
use Rattle.tab_ids.specs.declared.ReqId.{ReqId}
use Rattle.tab_ids.specs.declared.Step.{Step}
use Rattle.tab_prompts.proofs.Waits.{waits_open}
use Rattle.tab_prompts.specs.Asking.{BeginsAsked, WasOpen, are_unheard}
use Rattle.tab_stands.specs.Checked.{ChecksStand}
use Rattle.tab_stands.specs.Standing.{LastsInLog}
use Rattle.tab_stays.specs.Staying.{IsToStay, cut_stayed, stayed}
use Rattle.unasked_dues.specs.Reading.{AreDebts, BeginSole}
use Rattle.unload_check.specs.Checks.{OpenCheck, check_of, ended}

-- nobody is left out
abbrev pub nobody : ReqId → Bool
nobody req = false

-- ---- the row begins nothing, and owes nothing

begins_none : (req r : ReqId) (goal : Option Step) (before later : List RowKind) → before ++ rows.Started r goal ∷ later ≡ stayed req → ⊥
begins_none req r goal [] later is = cc
begins_none req r goal (kind ∷ []) later is = cc
begins_none req r goal (kind ∷ other ∷ before) later is = cc

none_before : (r : ReqId) (goal : Option Step) (before later : List RowKind) → before ++ rows.Started r goal ∷ later ≡ [] → ⊥
none_before r goal [] later is = cc
none_before r goal (kind ∷ before) later is = cc

module _ (e : InEvent) (es : List (ReqId × OpenCheck)) (asks : ChecksStand e.checking e.start es) {table : List Load} (lasts : LastsInLog e.checking table e.start) (req : ReqId) (q : Asked) (stay : IsToStay e req q) (unparked : has_req e.start.parked req ≡ false) where
  -- the event, with its actor and its own row
  abbrev pub x : InEvent
  x = plain e actors.Ui (rows.Answered req true)

  pub checked : is_checked q ≡ true
  checked = rw stay.goes (either (is_load q.what) (is_reload q.what))
    where
      either : (a b : Bool) → (a || true || b) ≡ true
      either true b = refl
      either false b = refl

  up : is_some q.prompted ≡ true
  up = (and_parts (is_some q.prompted) (is_none q.answered) (and_parts (is_some q.prompted && is_none q.answered) (is_none q.ending) stay.awaits).0).0

  -- the log then
  abbrev pub dropped : Seen
  dropped = stays.dropped e.header e.start e.event e.checking req es asks lasts.known q stay.at checked stay.awaits

  abbrev pub then_ : InEvent
  then_ = cut_stayed x req

  pub log_there : log_of (cut_stayed x req) [] ≡ dropped
  log_there = log_cut x (stayed req) x.checking (λ end. true)

  at_cut : (P : Seen → Type 0) → P dropped → P (log_of (cut_stayed x req) [])
  at_cut P is = subst P (sym log_there) is

  -- ---- what lasts

  said_known : AskingKnown (log_of x [])
  said_known = known_on e.start (row_of x (rows.Answered req true)) tt tt (λ y at. subst (λ (z : Asked). is_some z.prompted ≡ true) (let both : Some q ≡ Some y = sym stay.at ∙ at in let same : q ≡ y = cc in same) up) tt lasts.known

  answered_then : LastsInLog e.checking table (log_of x [])
  answered_then = answered_lasts e.checking e.start e.event actors.Ui lasts req true stay.on said_known

  -- it is no load
  asking_then : TiesAsking e.checking dropped table
  asking_then =
      asking_ended e.checking (log_of x []) table answered_then.asking req dropped (dropped_ended (log_of x []) e.event actors.Ui req drops.Stay) (λ y at. no_load y at)
    where
      neither : (b : Bool) → (b && false) ≡ false
      neither true = refl
      neither false = refl

      no_load : (y : Asked) → request_of (log_of x []) req ≡ Some y → is_ongoing_load y ≡ false
      no_load y at =
          let was = was_asked (λ (z : Asked). z.what) e.start.requests (log_of x []).requests (on_read (λ (z : Asked). z.what) e.start.requests req (λ z. record z { answered = Some true }) (λ z. refl)) req y at in
          let both : Some q ≡ Some was.0 = sym stay.at ∙ was.1 in
          let same : q ≡ was.0 = cc in
          let none : is_load y.what ≡ false = ap is_load (sym was.2) ∙ ap (λ (z : Asked). is_load z.what) (sym same) ∙ traversal_no_load q.what stay.goes in
          rw none (neither (is_under_way y))

  pub stays_lasts : LastsInLog e.checking table dropped
  stays_lasts =
      dropped_lasts e.checking (log_of x []) e.event actors.Ui answered_then req drops.Stay asking_then (stays.stays_known e.header e.start e.event e.checking req es asks lasts.known q stay.at checked stay.awaits unparked)

  pub lasts_there : LastsInLog e.checking table (log_of (cut_stayed x req) [])
  lasts_there = at_cut (LastsInLog e.checking table) stays_lasts

  pub stays_stand : ChecksStand e.checking dropped (ended req es)
  stays_stand = stays.stays_asks e.header e.start e.event e.checking req es asks lasts.known q stay.at checked stay.awaits unparked

  -- ---- the table of checks

  notes : NotesWanted dropped (ended req es)
  notes = between_notes dropped (ended req es) stays_stand.has stays_lasts.known.wanted

  pass : (Rest : List LogRow → Type 0) → PassIf Rest x (todo_of (ended req es)) (stayed req)
  pass Rest =
      subst (λ (l : List (ReqId × OpenCheck)). PassIf Rest x (todo_of l) (stayed req)) (stays.table_is e.header e.start e.event e.checking req es asks lasts.known q stay.at checked stay.awaits)
      (stayed_pass x refl req q refl refl stay.at (stays.numbered e.header e.start e.event e.checking req es asks lasts.known q stay.at checked stay.awaits) stay.awaits (stays.open_ e.header e.start e.event e.checking req es asks lasts.known q stay.at checked stay.awaits) (was_wanted e.start lasts.known.wanted req q stay.at stay.awaits) unparked Rest (record { checks = stays.answered_table e.header e.start e.event e.checking req es asks lasts.known q stay.at checked stay.awaits; run = [] }) (stays.said_duly e.header e.start e.event e.checking req es asks lasts.known q stay.at checked stay.awaits) (stays.one_found e.header e.start e.event e.checking req es asks lasts.known q stay.at checked stay.awaits) (stays.unnoted e.header e.start e.event e.checking req es asks lasts.known q stay.at checked stay.awaits))

  pub stands_there : StandsAsked (IsToCome None (cut_stayed x req) []) nobody (cut_stayed x req) [] (record { checks = ended req es; run = [] })
  stands_there =
      stands_cut x (stayed req) x.checking (λ end. true) (IsToCome None then_ []) nobody (record { checks = ended req es; run = [] }) (pass (IsToCome None then_ [])) (stays.duly e.header e.start e.event e.checking req es asks lasts.known q stay.at checked stay.awaits) stays_lasts.checks (λ r y found runs goes on off. stays.stays_calm e.header e.start e.event e.checking req es asks lasts.known q stay.at checked stay.awaits unparked r y found runs goes on) notes

  -- ---- the event goes on as one that begins

  -- a request with an open question had one
  opens : (r : ReqId) (y : Asked) → request_of dropped r ≡ Some y → all_asked dropped y ≡ false → WasOpen e.start r ⊎ (are_unheard y.asks ≡ true)
  opens r y found open_ =
      let was = was_asked asks_of e.start.requests dropped.requests same r y found in
      inl (record { was = was.0; found = was.1; open_ = ap (λ (l : List Asking). all_asked e.start (record y { asks = l })) was.2 ∙ open_ })
    where
      said : Seen
      said = after e.start (row_of x (rows.Answered req true))

      same : SameReads asks_of e.start.requests dropped.requests
      same =
          reads_then asks_of e.start.requests said.requests dropped.requests (on_read asks_of e.start.requests req (λ z. record z { answered = Some true }) (λ z. refl)) (on_read asks_of said.requests req (λ z. record z { ending = Some (endings.Dropped drops.Stay) }) (λ z. refl))

  pub begins_there : BeginsAsked (cut_stayed x req) (ended req es)
  begins_there =
      record {
        asked = stands_there.asked;
        calm = λ r y found runs goes on. stands_there.none r y found runs goes on refl;
        notes = stands_there.notes;
        unanswered = lasts_there.known.unanswered;
        opens = λ r y found waits. at_cut (λ s. (r : ReqId) (y : Asked) → request_of s r ≡ Some y → all_asked s y ≡ false → WasOpen e.start r ⊎ (are_unheard y.asks ≡ true)) opens r y found (waits_open _ _ _ (ended req es) stands_there.asked r y found waits);
        there = at_cut (λ s. (r : ReqId) → request_of s r ≡ None → check_of r (ended req es) ≡ None) (λ r none. subst (λ (o : Option Asked). AreTiedAt dropped o (check_of r (ended req es))) none (stays_stand.has.tied.each r));
        finished = at_cut (λ s. s.just_finished ≡ None) refl;
      }

  -- ---- what the row owes

  pub sole_there : BeginSole x (stayed req) (log_of x (stayed req))
  sole_there =
      record {
        old = record { each = λ before later r goal is. absurd (none_before r goal before later is) };
        new = record { each = λ before later r goal is. absurd (begins_none req r goal before later is) };
      }

  pub debts_there : AreDebts (cut_stayed x req)
  debts_there = record { paid = λ end aimed others sole is. refl }
