-- The document that is kept longest was discarded for the eviction, with those below it: a pass may follow.
use Rattle.load_doors.specs.Logged.{IsLogged}
use Rattle.seen_facts.specs.Asked.Asking.{ArePlain}
use Rattle.seen_facts.specs.Coord.Leading.{held_back}
use Rattle.log_model.specs.Equal.{has_req, holds}
use Rattle.log_model.specs.History.{History}
use Rattle.log_model.specs.ActsAtOnce.{is_ready_load}
use Rattle.log_model.specs.Orders.{is_usable}
use Rattle.log_model.specs.Places.{aim_of, all_stand, all_stand_in, is_ongoing_load}
use Rattle.log_model.specs.Seen.{Asked, Document, Place, Seen, request_in}
use Rattle.log_model.specs.declared.row_kind.RowKind.{RowKind}
use Rattle.move_queue.specs.Queue.{Queue}
use Rattle.row_facts.proofs.Owed.Ends.{loose_first}
use Rattle.row_facts.specs.Owed.Owed.{IsLoose}
use Rattle.seen_laws.proofs.Sendings.{both}
use Rattle.seen_laws.specs.InEvent.{InEvent, log_of, now_of}
use Rattle.std.proofs.Common.{Bool, List, None, Option, Some, [], ap, arith, false, inl, length, refl, subst, sym, true, ℕ, ◌∙◌, ◌≡◌, ◌≤◌}
use Rattle.std.proofs.lemmas.Bool.{and_parts}
use Rattle.std.specs.List.{list_any}
use Rattle.std.specs.Prelude.{option_map}
use Rattle.tab_doors.specs.Working.{KeepsStore, MayDiscardIn}
use Rattle.tab_doors.specs.declared.tables.Tables.{Tables}
use Rattle.tab_evicts.specs.Evicting.{HasOnlyDiscarded, IsLetting, StaysPlaced}
use Rattle.tab_ids.specs.declared.ReqId.{ReqId}
use Rattle.tab_ids.specs.declared.StateId.{StateId}
use Rattle.tab_facts.specs.Calm.Calm.{CalmUnless, IsCalmYet}
use Rattle.tab_passes.proofs.Leavings.{passing_again}
use Rattle.tab_passes.specs.Passing.{IsPassingIn}
use Rattle.tab_stands.proofs.PassedOn.{IsUnapplied, late_put, queue_over, waiting_on}
use Rattle.tab_stands.proofs.Ready.{calm_before, frees_open}
use Rattle.tab_stands.specs.PassedOn.{HasQueue, InPass, IsQueueing, IsTaking, LateKnown, LeavesQueue, MovedAreShown, NoneRunsWhileHeld, IsReadyIn}
use Rattle.tab_stands.specs.Standing.{HasRoomFor, InCheck, LastsInLog, StandsFor, seen_start}
use Rattle.user_evicts.proofs.Lefts.{LeavesGone, gone_over, loose_over, untraversed}
use Rattle.user_evicts.proofs.Owns.{few_own, late_own, moved_own, none_held, off_own, parked_own, queued_own, taking_own, theirs_own, waiting_own}
use Rattle.user_evicts.proofs.Takings.{aim_still, gone_moved, gone_taking, gone_theirs, history_same, wishes_same}
use Rattle.user_evicts.specs.Evicting.{IsEvictAsk}
use Rattle.log_model.specs.declared.job.Why.TheVariants as whys

module _ (e : InEvent) (state : StateId) (asks : IsEvictAsk e state) (t : Tables) (queue : Queue) (blame : List (StateId × ReqId)) {check : InCheck} (stands : StandsFor check (seen_start e) t queue blame) (logged : IsLogged e t.checks) (logs : LastsInLog e.checking t.asking (log_of e [])) (room : HasRoomFor (seen_start e)) (free : MayDiscardIn check.holds e) (header : t.kept.keep ≡ e.header.keep) (out : List RowKind) (u : Tables) (keeps : KeepsStore t u) (letting : IsLetting (record { pass = record { event = e; loads = check.loads; hand = [] }; moved = None; sweeps = check.holds }) state whys.Evict out u) (only : HasOnlyDiscarded whys.Evict [] out) (stays : StaysPlaced (now_of e []) (now_of e out)) where
  abbrev s : Seen
  s = now_of e []

  abbrev n : Seen
  n = now_of e out

  abbrev p : InPass
  p = record { event = e; loads = check.loads; hand = [] }

  left : LeavesGone s n
  left = gone_over e [] out only

  plain_u : ArePlain u.running n
  plain_u = letting.leaving.going.tab.asked

  plain : ArePlain t.running n
  plain = subst (λ (r : Option ReqId). ArePlain r n) keeps.running plain_u

  was : IsTaking e t.running blame s
  was = taking_own e state asks t queue blame stands logged logs

  taking : IsTaking e t.running blame n
  taking = gone_taking e t.running blame s n was plain stays left letting.were

  taking_u : IsTaking e u.running blame n
  taking_u = subst (λ (r : Option ReqId). IsTaking e r blame n) (sym keeps.running) taking

  -- and nothing is owed that a later row doesn't pay
  pub evicted_loose : IsLoose e out
  evicted_loose = loose_over e [] out only (loose_first e logged.undue)

  few : length n.kept ≤ u.kept.keep
  few =
      (let less : length n.kept ≤ length s.kept = left.few in let low : length s.kept ≤ t.kept.keep = few_own e state asks t queue blame stands logged logs in let same : u.kept.keep ≡ t.kept.keep = keeps.keep in omega (arith, less, low, same))

  passing : IsPassingIn check.holds p out u
  passing = passing_again p out u letting.leaving (λ all. evicted_loose) few

  -- ---- what waits, and what is held back

  history : n.history ≡ s.history
  history = history_same e t.running blame s n was plain stays left letting.were

  aim : aim_of n ≡ aim_of s
  aim = aim_still e t.running blame s n was plain stays left letting.were

  leaves : LeavesQueue s n
  leaves =
      record {
        joined = left.joined;
        whats = λ req. ap (λ (l : List Asked). option_map (λ (q : Asked). q.what) (request_in l req)) left.requests;
        ready = λ req nav it. record { q = it.q; at = ap (λ (l : List Asked). request_in l req) (sym left.requests) ∙ it.at; ready = usable it.q it.ready; its = it.its };
      }
    where
      usable : (q : Asked) → is_ready_load n q ≡ true → is_ready_load s q ≡ true
      usable q is = by_state q.state refl (and_parts (is_ongoing_load q) (holds (λ (own : StateId). list_any (λ (d : Document). is_usable d own) n.documents) q.state) is)
        where
          by_state : (o : Option StateId) → q.state ≡ o → (is_ongoing_load q ≡ true) × (holds (λ (own : StateId). list_any (λ (d : Document). is_usable d own) n.documents) q.state ≡ true) → is_ready_load s q ≡ true
          by_state None none parts =
              let never : false ≡ true = ap (λ (o : Option StateId). holds (λ (own : StateId). list_any (λ (d : Document). is_usable d own) n.documents) o) (sym none) ∙ parts.1 in absurd cc
          by_state (Some own) is_own parts =
              both parts.0
              (ap (λ (o : Option StateId). holds (λ (x : StateId). list_any (λ (d : Document). is_usable d x) s.documents) o) is_own
              ∙ left.usable own (ap (λ (o : Option StateId). holds (λ (x : StateId). list_any (λ (d : Document). is_usable d x) n.documents) o) (sym is_own) ∙ parts.1))

  -- where all stand, they did before
  stood : all_stand n (aim_of n) ≡ all_stand s (aim_of s)
  stood =
      ap (λ (k : ℕ). all_stand n k) aim
      ∙ ap (λ (h : History). all_stand_in h.rows n.places (aim_of s)) history
      ∙ ap (λ (l : List Place). all_stand_in s.history.rows l (aim_of s)) stays.places

  queueing : IsQueueing p out u queue
  queueing =
      record {
        waits = waiting_on e [] out (inl left.parked) (λ req. wishes_same e t.running blame s n was plain stays left letting.were req) (λ req has. ap (λ (l : List ReqId). has_req l req) (sym left.joined) ∙ has) (waiting_own e state asks t queue blame stands logged logs);
        queued = subst (λ (r : Option ReqId). HasQueue n r queue.waiting) (sym keeps.running) (queue_over s n leaves t.running queue.waiting (queued_own e state asks t queue blame stands logged logs));
        parked = parked_own e state asks t queue blame stands logged logs ∙ ap (λ (l : List Asked). held_back l s.parked) (sym left.requests) ∙ ap (λ (l : List ReqId). held_back n.requests l) (sym left.parked);
        held = λ idle. left.parked ∙ none_held e state asks t queue blame stands logged logs (sym keeps.running ∙ idle);
        over = λ has. absurd (let never : false ≡ true = sym (untraversed e out logged.uncut only) ∙ has in cc);
        releasing = λ some all. absurd (off_own e state asks t queue blame stands logged logs (λ none. some (left.parked ∙ none)) (sym stood ∙ all));
      }

  -- where no traversal runs the tab is calm
  pub calm_idle : t.running ≡ None → IsCalmYet n
  calm_idle is = subst (λ (r : Option ReqId). CalmUnless IsCalmYet r n) is taking.calm

  -- ---- all of it

  pub evicted_ready : IsReadyIn check.holds (record { event = e; loads = check.loads; hand = [] }) out u queue blame whys.Evict
  evicted_ready =
      record {
        passing = passing;
        empty = refl;
        header = keeps.keep ∙ header;
        open_ = taking_u.open_ whys.Evict (λ req never. absurd cc);
        loads = taking_u.loads;
        frees = frees_open e check.holds u.running n (subst (λ (r : Option ReqId). NoneRunsWhileHeld check.holds r) (sym keeps.running) stands.alone) (λ open_. subst (λ (b : Bool). MayDiscardIn b e) open_ free) taking_u.open_;
        blamed = taking_u.blamed;
        calm = calm_before u.running whys.Evict n taking_u.calm taking_u.unmoved taking_u.rooted;
        live = taking_u.live;
        late = subst (λ (r : Option ReqId). LateKnown r n) (sym keeps.running) (late_put e t.running [] out passing.work.goes (record { more = only.more; is = only.is; each = λ row has. (let it = only.each row has in subst IsUnapplied (sym it.is) tt) }) stays.places history (late_own e state asks t queue blame stands logged logs));
        moved = subst (λ (r : Option ReqId). MovedAreShown r n) (sym keeps.running) (gone_moved s n stays left t.running (moved_own e state asks t queue blame stands logged logs));
        theirs = gone_theirs s n left (theirs_own e state asks t queue blame stands logged logs);
        queueing = queueing;
      }
