-- The event is cut behind the first part of the pass and the prompt: it goes on from there, with the second part, as one that begins.
use Rattle.asking_facts.specs.Known.{AskingKnown}
use Rattle.checking_facts.specs.Prompts.{told_by}
use Rattle.log_model.specs.After.{after}
use Rattle.log_model.specs.Places.{is_traversal, is_under_way}
use Rattle.log_model.specs.Queue.{is_step_under_way}
use Rattle.log_model.specs.Seen.{Asked, Seen, request_of}
use Rattle.log_model.specs.declared.job.Why.{Why}
use Rattle.log_model.specs.declared.request.Request.{Request}
use Rattle.log_model.specs.declared.row_kind.RowKind.TheVariants as rows
use Rattle.log_model.specs.declared.row_kind.RowKind.{RowKind}
use Rattle.move_queue.specs.Queue.{Queue}
use Rattle.row_facts.specs.Owed.Owed.{owes_seen}
use Rattle.seen_facts.proofs.Each.Courses.{was_asked}
use Rattle.seen_facts.proofs.Request.Readers.{SameReads, on_read, reads_then}
use Rattle.seen_facts.specs.Hang.Members.{Has}
use Rattle.seen_facts.specs.LoadEnds.Standing.{LoadsStand}
use Rattle.seen_laws.proofs.Cuts.{log_cut}
use Rattle.seen_laws.specs.InEvent.{EndAsWanted, InEvent, first_of, log_of, now_of, row_of}
use Rattle.std.proofs.Common.{Bool, List, None, Some, [], ap, false, refl, subst, sym, true, ◌++◌, ◌∙◌, ◌∷◌, ◌≡◌, ◌⊎◌}
use Rattle.tab_doors.specs.declared.tables.Tables.{Tables}
use Rattle.tab_facts.specs.Calm.Calm.{IsCalm}
use Rattle.tab_facts.specs.FrameWhole.Tab.{AreAwakeWithRows}
use Rattle.tab_facts.specs.TabEvents.Between.{AreSwept, orders_go}
use Rattle.tab_held.proofs.Holds.{are_under_way, under_way}
use Rattle.tab_prompts.proofs.Known.{known_prompts}
use Rattle.tab_held.proofs.Over.{noted_or_over, one_apart, one_has, one_is, one_waits}
use Rattle.tab_held.specs.Holding.{HasRestedAt, HoldsQueue, WaitsAlone, goes_on, held_cut, held_prompts}
use Rattle.tab_ids.specs.declared.ReqId.{ReqId}
use Rattle.tab_ids.specs.declared.StateId.{StateId}
use Rattle.tab_prompts.proofs.Again.{begins_again}
use Rattle.tab_prompts.proofs.Resumed.{its_finished, ready_again}
use Rattle.tab_prompts.proofs.Settled.{IsNotedFor}
use Rattle.tab_prompts.proofs.Dues.{there_rows}
use Rattle.tab_prompts.proofs.Since.{so_since}
use Rattle.tab_prompts.proofs.Told.{told_asked}
use Rattle.tab_prompts.proofs.Waited.{wanted_then}
use Rattle.tab_prompts.proofs.Works.{prompts_are, prompts_keep, same_prompted}
use Rattle.tab_prompts.specs.Asking.{AreAllWaiting, AreUnderWay, BeginsAsked, told_all}
use Rattle.tab_prompts.specs.Prompts.{is_settled_in, is_waiting, prompts_for, waiting_among}
use Rattle.tab_prompts.specs.Sparing.{new_notes, spares}
use Rattle.tab_settles.specs.Held.{DiscardsUnheld, EndsRun, IsClearedIn, NoneStray}
use Rattle.tab_settles.specs.PassedOn.{AreLeftStrays, InPass}
use Rattle.tab_settles.specs.Settling.{HasPut, HasSettled, LeavesOff, MayDiscardIn}
use Rattle.tab_stands.specs.GoingOn.{GoesOn}
use Rattle.unload_check.specs.Checks.{OpenCheck, check_of}

-- what each request asks
abbrev what_of : Asked → Request
what_of q = q.what

module _ (p : InPass) (mid : List RowKind) (t : Tables) (queue : Queue) (blame : List (StateId × ReqId)) (cause : Why) (at : IsClearedIn true p mid t queue blame cause) (begins : BeginsAsked p.event t.checks) (req : ReqId) (alone : WaitsAlone p.event t.checks req) (holds : HoldsQueue p.event queue req) where
  abbrev e : InEvent
  e = p.event

  abbrev waited : List ReqId
  waited = waiting_among t.checks (req ∷ [])

  abbrev told : List (ReqId × OpenCheck)
  told = told_all e.ran t.checks mid

  abbrev prompts : List RowKind
  prompts = held_prompts p.event t.checks mid req

  abbrev pub then_ : InEvent
  then_ = held_cut p.event mid t.checks req

  abbrev pub then_pass : InPass
  then_pass = record p { event = held_cut p.event mid t.checks req }

  abbrev pub then_tables : Tables
  then_tables = record t { checks = told_all e.ran t.checks mid }

  -- it is under way still
  way : AreUnderWay (log_of p.event mid) (waiting_among t.checks (req ∷ []))
  way = are_under_way p mid t queue blame cause at req holds t.checks

  finished : (log_of e mid).just_finished ≡ None
  finished = its_finished p mid t queue blame cause at.ready begins waited (one_apart t.checks req) (one_waits t.checks req) way

  -- the log without questions is as it was
  pub seen_then : now_of (held_cut p.event mid t.checks req) [] ≡ now_of p.event mid
  seen_then =
      same_prompted e mid prompts (prompts_are told waited) finished (spares (new_notes (told_by e.ran t.checks mid).checks told)) []

  over : (P : Seen → Type 0) → P (now_of e mid) → P (now_of then_ [])
  over P is = subst P (sym seen_then) is

  -- ---- who waits

  -- a request in its check asks what it asked as the event began
  asked_then : (r : ReqId) (q : Asked) → request_of (log_of e (mid ++ prompts)) r ≡ Some q → e.checking r ≡ true → (q0 : Asked) × (request_of (log_of e []) r ≡ Some q0) × (q0.what ≡ q.what)
  asked_then r q found on =
      let same : SameReads what_of (log_of e mid).requests (log_of e (mid ++ prompts)).requests =
      prompts_keep (λ s. SameReads what_of (log_of e mid).requests s.requests) e (λ s r2 doc reads. reads_then what_of (log_of e mid).requests s.requests (after s (row_of e (rows.Prompted r2 doc))).requests reads (on_read what_of s.requests r2 (λ x. record x { prompted = Some doc }) (λ x. refl))) prompts mid (prompts_are told waited) (λ r3. refl) in
      let one = was_asked what_of (log_of e mid).requests (log_of e (mid ++ prompts)).requests same r q found in
      let first = so_since e mid at.ready.passing.work.goes at.ready.passing.work.off r one.0 one.1 on in
      (first.0, first.1, ap (λ c. c.what) first.2 ∙ one.2)

  -- a prompt leaves it under way
  way_then : (q : Asked) → request_of (log_of e (mid ++ prompts)) req ≡ Some q → is_under_way q ≡ true
  way_then q found =
      let same : SameReads is_under_way (log_of e mid).requests (log_of e (mid ++ prompts)).requests =
      prompts_keep (λ s. SameReads is_under_way (log_of e mid).requests s.requests) e (λ s r2 doc reads. reads_then is_under_way (log_of e mid).requests s.requests (after s (row_of e (rows.Prompted r2 doc))).requests reads (on_read is_under_way s.requests r2 (λ x. record x { prompted = Some doc }) (λ x. refl))) prompts mid (prompts_are told waited) (λ r3. refl) in
      let one = was_asked is_under_way (log_of e mid).requests (log_of e (mid ++ prompts)).requests same req q found in
      sym one.2 ∙ under_way p mid t queue blame cause at req holds one.0 one.1

  -- who has a check is in it
  in_check : (r : ReqId) → is_waiting t.checks r ≡ true → e.checking r ≡ true
  in_check r waits = by_test (e.checking r) refl
    where
      by_test : (b : Bool) → e.checking r ≡ b → e.checking r ≡ true
      by_test true on = on
      by_test false off =
          let none : check_of r t.checks ≡ None = begins.asked.within r off in
          let open_ : is_waiting t.checks r ≡ false = rw none refl in
          let never : true ≡ false = sym waits ∙ open_ in
          absurd cc

  all : AreAllWaiting (log_of then_ []) t.checks waited
  all r q found goes runs waits =
      let was = asked_then r q (ap (λ (s : Seen). request_of s r) (sym (log_cut e (mid ++ prompts) e.checking (owes_seen e mid))) ∙ found) (in_check r waits) in
      let one : r ≡ req = alone r was.0 was.1 (ap is_traversal was.2 ∙ goes) waits in
      subst (λ (x : ReqId). Has waited x) (sym one) (one_has t.checks req (ap (is_waiting t.checks) (sym one) ∙ waits))

  -- ---- where its check isn't over

  module _ (open_ : goes_on (told_all e.ran t.checks mid) req ≡ false) where
    noted : (r : ReqId) (q : Asked) → request_of (log_of then_ []) r ≡ Some q → is_traversal q.what ≡ true → Has waited r → is_settled_in told r ≡ true → IsNotedFor told r
    noted r q found goes has settled =
        let one : req ≡ r = one_is t.checks req r has in
        noted_or_over told r settled (ap (λ (x : ReqId). goes_on told x) (sym one) ∙ open_)

    pub begins_then : BeginsAsked (held_cut p.event mid t.checks req) (told_all e.ran t.checks mid)
    begins_then =
        begins_again None e mid t at.ready.passing.work begins waited (one_apart t.checks req) (one_waits t.checks req) way all noted

    pub cleared_then : IsClearedIn false then_pass [] then_tables queue blame cause
    cleared_then =
        record {
          idle = at.idle;
          ready = ready_again p mid t queue blame cause at.ready begins waited (one_apart t.checks req) (one_waits t.checks req) way all noted;
          stand = over LoadsStand at.stand;
          rows_ = over AreAwakeWithRows at.rows_;
          strays = over (λ (s : Seen). AreLeftStrays s blame) at.strays;
          swept = over (λ (s : Seen). AreSwept s ⊎ (orders_go s ≡ true)) at.swept;
          calm = over IsCalm at.calm;
        }

  -- ---- the event goes on

  goes : GoesOn p.event (mid ++ prompts) then_
  goes = record { header = refl; start = refl; event = refl; actor = refl; own = refl; before = refl }

  known : AskingKnown (log_of p.event mid) → AskingKnown (log_of then_ [])
  known is =
      subst AskingKnown (sym (log_cut e (mid ++ prompts) e.checking (owes_seen e mid)))
      (known_prompts e told waited mid (told_asked None e mid t at.ready.passing.work begins).notes is)

  module _ (ends : EndsRun mid ⊎ NoneStray (now_of p.event mid)) (open_ : goes_on (told_all e.ran t.checks mid) req ≡ false) where
    -- it is in its check still, and under way
    held_then : MayDiscardIn false then_ → ⊥
    held_then free =
        let q = there_rows e (first_of e) (mid ++ prompts) req holds.q holds.at in
        let none : is_step_under_way q.0 ≡ false = free req q.0 (ap (λ (s : Seen). request_of s req) (log_cut e (mid ++ prompts) e.checking (owes_seen e mid)) ∙ q.1) holds.on in
        let was = asked_then req q.0 q.1 holds.on in
        let both : Some was.0 ≡ Some holds.q = sym was.1 ∙ holds.at in
        let one : was.0 ≡ holds.q = cc in
        let goes : is_traversal q.0.what ≡ true = ap is_traversal (sym was.2 ∙ ap (λ (x : Asked). x.what) one) ∙ holds.goes in
        let on : is_step_under_way q.0 ≡ true = rw (way_then q.0 q.1) (rw goes refl) in
        let never : true ≡ false = sym on ∙ none in
        absurd cc

    wanted : (more : List RowKind) → DiscardsUnheld then_ [] more → EndAsWanted e ((mid ++ prompts) ++ more) → EndAsWanted then_ more
    wanted more quiet =
        wanted_then p mid t queue blame cause at.ready begins waited (one_apart t.checks req) (one_waits t.checks req) way ends more (λ none. quiet held_then)

    -- and behind it the second part of the pass follows
    pub rested_at : (more out : List RowKind) (u : Tables) → u.checks ≡ told_all e.ran t.checks mid → out ≡ (mid ++ held_prompts p.event t.checks mid req) ++ more → u.running ≡ None → HasSettled then_pass more u queue blame cause → DiscardsUnheld then_ [] more → HasPut then_ [] more → LeavesOff then_ [] more → HasRestedAt (record { held = record { pass = p; queue = queue }; at = held_cut p.event mid t.checks req }) mid (held_prompts p.event t.checks mid req) out u blame cause
    rested_at more out u same is idle settled quiet put off =
        record {
          are = prompts_are told waited;
          goes = goes;
          same = refl;
          ran = refl;
          seen = seen_then;
          begins = subst (λ (l : List (ReqId × OpenCheck)). BeginsAsked then_ l) (sym same) (begins_then open_);
          known = known;
          more = more;
          is = is;
          settled = settled;
          idle = idle;
          put = put;
          off = off;
          wanted = λ was. wanted more quiet (subst (λ (l : List RowKind). EndAsWanted e l) is was);
        }

  -- ---- for the call

  module _ (x : InEvent) (is : x ≡ held_cut p.event mid t.checks req) (checks : List (ReqId × OpenCheck)) (told_is : checks ≡ told_all e.ran t.checks mid) (open_ : goes_on checks req ≡ false) where
    -- what the second part asks
    pub rest_asks : (more : List RowKind) → more ≡ [] → IsClearedIn false (record p { event = x }) more (record t { checks = checks }) queue blame cause
    rest_asks more none =
        subst (λ (l : List RowKind). IsClearedIn false (record p { event = x }) l (record t { checks = checks }) queue blame cause) (sym none)
        (subst (λ (y : InEvent). IsClearedIn false (record p { event = y }) [] (record t { checks = checks }) queue blame cause) (sym is)
        (subst (λ (l : List (ReqId × OpenCheck)). IsClearedIn false then_pass [] (record t { checks = l }) queue blame cause) (sym told_is) (cleared_then (ap (λ (l : List (ReqId × OpenCheck)). goes_on l req) (sym told_is) ∙ open_))))

    pub header_asks : p.event.header ≡ x.header
    header_asks = ap (λ (y : InEvent). y.header) (sym is)

    -- and what is so behind it
    pub rest_says : EndsRun mid ⊎ NoneStray (now_of p.event mid) → (first more out : List RowKind) (u : Tables) → first ≡ [] → u.checks ≡ checks → out ≡ (mid ++ prompts_for checks (waiting_among t.checks (req ∷ []))) ++ more → u.running ≡ None → HasSettled (record p { event = x }) more u queue blame cause → DiscardsUnheld x first more → HasPut x first more → LeavesOff x first more → HasRestedAt (record { held = record { pass = p; queue = queue }; at = x }) mid (held_prompts p.event t.checks mid req) out u blame cause
    rest_says ends first more out u none same rows_are idle settled quiet put off =
        subst (λ (y : InEvent). HasRestedAt (record { held = record { pass = p; queue = queue }; at = y }) mid (held_prompts p.event t.checks mid req) out u blame cause) (sym is)
        (rested_at ends (ap (λ (l : List (ReqId × OpenCheck)). goes_on l req) (sym told_is) ∙ open_) more out u (same ∙ told_is) (rows_are ∙ ap (λ (l : List (ReqId × OpenCheck)). (mid ++ prompts_for l (waiting_among t.checks (req ∷ []))) ++ more) told_is) idle (subst (λ (y : InEvent). HasSettled (record p { event = y }) more u queue blame cause) is settled) (subst (λ (y : InEvent). DiscardsUnheld y [] more) is (subst (λ (l : List RowKind). DiscardsUnheld x l more) none quiet)) (subst (λ (y : InEvent). HasPut y [] more) is (subst (λ (l : List RowKind). HasPut x l more) none put)) (subst (λ (y : InEvent). LeavesOff y [] more) is (subst (λ (l : List RowKind). LeavesOff x l more) none off)))
