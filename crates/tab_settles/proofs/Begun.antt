-- The next step of the queue had its turn, or none was due.
use Rattle.tab_releases.specs.Releasing.{InPass, IsPassing, IsTurning, LoadsMadeOwn, Tables}
use Rattle.seen_facts.specs.Asked.Asking.{ArePlain}
use Rattle.tab_facts.proofs.Calm.Awakes.{calm_stood}
use Rattle.tab_facts.proofs.Calm.Calms.{calm_but}
use Rattle.tab_facts.specs.Calm.Calm.{IsCalmYet}
use Rattle.seen_facts.specs.Coord.Leading.{held_back}
use Rattle.log_model.specs.History.{has_row}
use Rattle.log_model.specs.Places.{aim_of, all_stand}
use Rattle.tab_releases.specs.PassedOn.{Asks, HasGrown, HasRested, HasStood, IsCalmFor, CameTo, HasQueue, IsAtRest, IsPassedOver, KeepsMade, LeavesInNeed, MayFollow, Refused, Rests, Turn, WaitsToAsk, Went, aim_in}
use Rattle.tab_ids.specs.declared.NavId.{NavId}
use Rattle.log_model.specs.Seen.{Seen}
use Rattle.log_model.specs.declared.job.Why.{Why}
use Rattle.log_model.specs.declared.row_kind.RowKind.{RowKind}
use Rattle.move_queue.specs.Queue.{Queue}
use Rattle.move_queue.specs.declared.queue_step.QueueStep.{QueueStep}
use Rattle.seen_laws.specs.InEvent.{now_of, EachGoes}
use Rattle.std.proofs.Common.{List, None, Option, Some, [], ap, false, inl, inr, refl, subst, sym, true, ℕ, ◌∙◌, ◌≡◌}
use Rattle.tab_ids.specs.declared.ReqId.{ReqId}
use Rattle.tab_ids.specs.declared.StateId.{StateId}
use Rattle.tab_releases.proofs.PassedOn.{aim_is, rest_blamed, rest_loads, rest_open}
use Rattle.tab_settles.proofs.Awakes.{stood_told, turns_told}
use Rattle.tab_settles.proofs.Lates.{told_known}
use Rattle.tab_settles.proofs.LoadsOff.{need_off}
use Rattle.tab_settles.proofs.MovedRows.{shown_idle}
use Rattle.tab_settles.proofs.MovedTurns.{shown_began}
use Rattle.tab_settles.proofs.Stood.{stood_live, theirs_over}
use Rattle.tab_settles.specs.Offs.{LateKnown}
use Rattle.tab_settles.specs.Settling.{AsksFirst, HasSettled, HasTurned, IsCalmAfter, IsCalmBefore, IsQueueing, IsReady, MayDiscardIn, MovedAreShown}
use Rattle.log_model.specs.declared.job.Why.TheVariants as whys

module _ (p : InPass) (out : List RowKind) (t : Tables) (queue : Queue) (blame : List (StateId × ReqId)) (cause : Why) (at : HasSettled p out t queue blame cause) (idle : t.running ≡ None) where
  abbrev s : Seen
  s = now_of p.event out

  none_s : s.parked ≡ []
  none_s = at.queueing.held idle

  pub begin_asks : MayDiscardIn false p.event → IsPassing p out t × (IsTurning p.event out × ((s.parked ≡ []) × (IsAtRest p.event t.running blame s × HasQueue s None queue.waiting)))
  begin_asks free =
      (at.passing, (record { waits = at.queueing.waits; free = free }, (none_s, (record { idle = idle; passed = at.passed; strays = at.strays; loading = at.live.loading }, subst (λ (r : Option ReqId). HasQueue s r queue.waiting) idle at.queueing.queued))))

  -- ---- whom the turn of a step moves

  turned_by : (new : List RowKind) → EachGoes p.event [] new → LeavesInNeed p.event out new → all_stand s s.history.current ≡ true → HasTurned p.event out new
  turned_by new goes need stand =
      record { moved = need_off p.event out new goes need; stood = ap (λ (k : ℕ). all_stand s k) aim_now ∙ stand }
    where
      aim_now : aim_of s ≡ s.history.current
      aim_now =
          aim_is s t.running at.passing.going.tab.asked t.goal at.passing.work.goal ∙ ap (λ (r : Option ReqId). aim_in s.history r t.goal) idle

  pub went_turned : (new : List RowKind) → EachGoes p.event [] new → LeavesInNeed p.event out new → (turn : Turn) → HasStood s turn → (req : ReqId) → turn ≡ Went req → HasTurned p.event out new
  went_turned new goes need turn stood req is = turned_by new goes need (subst (λ (x : Turn). HasStood s x) is stood)

  pub refused_turned : (new : List RowKind) → EachGoes p.event [] new → LeavesInNeed p.event out new → (turn : Turn) → HasStood s turn → turn ≡ Refused → HasTurned p.event out new
  refused_turned new goes need turn stood is = turned_by new goes need (subst (λ (x : Turn). HasStood s x) is stood)

  pub rested_still : (new : List RowKind) (u : Tables) (noted : List (StateId × ReqId)) (waiting : List QueueStep) (turn : Turn) → turn ≡ Rests → CameTo p.event t u blame noted out new waiting turn → new ≡ out
  rested_still new u noted waiting turn is came =
      let rested : HasRested p.event t u blame noted out new waiting = subst (λ (x : Turn). CameTo p.event t u blame noted out new waiting x) is came in
      rested.out

  module _ (new : List RowKind) (u : Tables) (noted : List (StateId × ReqId)) (left : Queue) (passing : IsPassing p new u) (turning : IsTurning p.event new) (none : (now_of p.event new).parked ≡ []) (queued : HasQueue (now_of p.event new) u.running left.waiting) (parked : left.parked ≡ queue.parked) (keep : u.kept.keep ≡ t.kept.keep) (made : KeepsMade s (now_of p.event new)) where
    abbrev n : Seen
    n = now_of p.event new

    queueing_n : IsQueueing p new u left
    queueing_n =
        record {
          waits = turning.waits;
          queued = queued;
          parked = parked ∙ at.queueing.parked ∙ ap (λ (l : List ReqId). held_back s.requests l) none_s ∙ ap (λ (l : List ReqId). held_back n.requests l) (sym none);
          held = λ runs. none;
          over = λ has. none;
          releasing = λ some all. absurd (some none);
        }

    theirs_n : LoadsMadeOwn n
    theirs_n =
        theirs_over s n made.wishes made.documents at.theirs

    -- how calm the tab is then
    calm_for : (r : Option ReqId) (req : ReqId) → IsCalmFor r req n → IsCalmBefore r (whys.Req req) n
    calm_for None req around =
        inr (
          around.0,
          (
            around.1.0,
            record {
              req = req;
              for_ = refl;
              last = record {
                mover = around.1.1.mover;
                found = around.1.1.found;
                change = around.1.1.change;
                changed = around.1.1.changed;
                its = around.1.1.its;
                last = around.1.1.last;
                unstood = around.1.1.unstood;
              };
            },
          ),
        )
    calm_for (Some run) req calm = calm

    -- of each that is awake it is told that it is shown, since all stood
    late_n : HasGrown out new → all_stand s s.history.current ≡ true → LateKnown u.running n
    late_n grown stand =
        told_known u.running n (turns_told p.event out new passing.work.goes (record { more = grown.more; is = grown.is; each = grown.each }) (stood_told s at.passing.going.tab.standing (subst (λ (r : Option ReqId). IsCalmAfter r s) idle at.calm) stand))

    rested_yet : IsAtRest p.event u.running noted n → IsPassedOver s n → IsCalmYet n
    rested_yet rest over =
        calm_but n (calm_stood n passing.going.tab.sound passing.going.tab.hangs passing.going.tab.homes passing.going.tab.standing rest.passed.rows_ over.stand) (λ (nav : NavId). has_row nav n.history.rows ≡ false)

    -- it has begun, or was applied
    pub went_ready : HasGrown out new → (turn : Turn) → HasStood s turn → (req : ReqId) → turn ≡ Went req → CameTo p.event t u blame noted out new left.waiting turn → (why : Why) → why ≡ whys.Req req → IsReady p new u left noted why
    went_ready grown turn stood req is came why same =
        (let may : MayFollow p.event u.running noted req n = (subst (λ (x : Turn). CameTo p.event t u blame noted out new left.waiting x) is came).1 in subst (λ (w : Why). IsReady p new u left noted w) (sym same) (record {
          passing = passing;
          empty = at.empty;
          header = keep ∙ at.header;
          open_ = may.open_;
          loads = may.loads;
          frees = λ nav place placed need since. turning.free;
          blamed = may.blamed;
          calm = calm_for u.running req may.calm;
          late = late_n grown (subst (λ (x : Turn). HasStood s x) is stood);
          moved = shown_began p.event out new passing.work.goes grown u.running (subst (λ (r : Option ReqId). ArePlain r s) idle at.passing.going.tab.asked) at.passing.going.lasting.moves passing.going.tab.asked;
          live = may.live;
          theirs = theirs_n;
          queueing = queueing_n;
        }))

    -- it was refused
    pub refused_ready : HasGrown out new → (turn : Turn) → HasStood s turn → turn ≡ Refused → CameTo p.event t u blame noted out new left.waiting turn → IsReady p new u left noted cause
    refused_ready grown turn stood is came =
        (let both : IsAtRest p.event u.running noted n × IsPassedOver s n = subst (λ (x : Turn). CameTo p.event t u blame noted out new left.waiting x) is came in let rest = both.0 in let over = both.1 in record {
          passing = passing;
          empty = at.empty;
          header = keep ∙ at.header;
          open_ = rest_open p new u passing rest.idle rest.passed over.stand cause (over.causes cause at.may);
          loads = rest_loads p new u passing rest.idle rest.passed over.stand;
          frees = λ nav place placed need since. turning.free;
          blamed = rest_blamed p new u passing rest.passed noted rest.strays;
          calm = subst (λ (r : Option ReqId). IsCalmBefore r cause n) (sym rest.idle) (inl (rested_yet rest over));
          late = late_n grown (subst (λ (x : Turn). HasStood s x) is stood);
          moved = subst (λ (r : Option ReqId). MovedAreShown r n) (sym rest.idle) (shown_idle n);
          live = stood_live p new u passing rest.idle rest.passed over.stand rest.loading;
          theirs = theirs_n;
          queueing = queueing_n;
        })

    -- nothing was done
    same_settled : new ≡ out → u ≡ t → noted ≡ blame → HasSettled p new u left noted cause
    same_settled out_same tables_same noted_same =
        subst (λ (l : List (StateId × ReqId)). HasSettled p new u left l cause) (sym noted_same) (moved new (sym out_same) u (sym tables_same) queueing_n)
      where
        moved : (l : List RowKind) → out ≡ l → (x : Tables) → t ≡ x → IsQueueing p l x left → HasSettled p l x left blame cause
        moved l same x alike =
            subst (λ (k : List RowKind). IsQueueing p k x left → HasSettled p k x left blame cause) same
            (subst (λ (z : Tables). IsQueueing p out z left → HasSettled p out z left blame cause) alike
            (λ going. record {
              passing = at.passing;
              empty = at.empty;
              header = at.header;
              may = at.may;
              passed = at.passed;
              strays = at.strays;
              served = at.served;
              told = at.told;
              swept = at.swept;
              calm = at.calm;
              late = at.late;
              moved = at.moved;
              live = at.live;
              theirs = at.theirs;
              queueing = going;
            }))

    -- none was due
    pub rested_settled : (turn : Turn) → turn ≡ Rests → CameTo p.event t u blame noted out new left.waiting turn → HasSettled p new u left noted cause
    rested_settled turn is came =
        let rested : HasRested p.event t u blame noted out new left.waiting = subst (λ (x : Turn). CameTo p.event t u blame noted out new left.waiting x) is came in
        same_settled rested.out rested.tables rested.noted

    -- the traversal whose turn it was waits to ask
    waits_to_ask : (turn : Turn) (req : ReqId) → turn ≡ Asks req → CameTo p.event t u blame noted out new left.waiting turn → WaitsToAsk p.event t u blame noted out new left.waiting req
    waits_to_ask turn req is came = subst (λ (x : Turn). CameTo p.event t u blame noted out new left.waiting x) is came

    pub asks_settled : (turn : Turn) (req : ReqId) → turn ≡ Asks req → CameTo p.event t u blame noted out new left.waiting turn → HasSettled p new u left noted cause
    asks_settled turn req is came =
        let waits = waits_to_ask turn req is came in
        same_settled waits.out waits.tables waits.noted

    pub asks_first : (turn : Turn) (req : ReqId) → turn ≡ Asks req → CameTo p.event t u blame noted out new left.waiting turn → HasStood s turn → AsksFirst p.event new u.running left.waiting
    asks_first turn req is came stood =
        let waits = waits_to_ask turn req is came in
        subst (λ (l : List RowKind). AsksFirst p.event l u.running left.waiting) (sym waits.out) (record {
          idle = ap (λ (x : Tables). x.running) waits.tables ∙ idle;
          stand = subst (λ (x : Turn). HasStood s x) is stood;
          req = req;
          first = waits.first;
        })

  pub asks_still : (new : List RowKind) (u : Tables) (noted : List (StateId × ReqId)) (waiting : List QueueStep) (turn : Turn) (req : ReqId) → turn ≡ Asks req → CameTo p.event t u blame noted out new waiting turn → new ≡ out
  asks_still new u noted waiting turn req is came =
      let waits : WaitsToAsk p.event t u blame noted out new waiting req = subst (λ (x : Turn). CameTo p.event t u blame noted out new waiting x) is came in
      waits.out
