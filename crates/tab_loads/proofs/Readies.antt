-- A pass may follow once the load was refused or dropped, or a document was sent to a fragment for it, by the first row that was put out.
use Rattle.std.specs.List.{list_any}
use Rattle.seen_facts.proofs.Coord.Held.{held_alike}
use Rattle.seen_facts.proofs.Coord.Unread.{next}
use Rattle.seen_facts.specs.Coord.Leading.{held_back}
use Rattle.tab_facts.specs.Frame.Lasting.{wish}
use Rattle.row_facts.specs.FrameRows.Lawful.{has_traversed}
use Rattle.log_model.specs.Equal.{has_req}
use Rattle.log_model.specs.History.{History}
use Rattle.log_model.specs.Places.{aim_of, all_stand, all_stand_in}
use Rattle.log_model.specs.Queue.{is_traverse}
use Rattle.log_model.specs.Seen.{Place, Seen}
use Rattle.log_model.specs.declared.request.Mode.{Mode}
use Rattle.log_model.specs.declared.row_kind.RowKind.{RowKind}
use Rattle.move_queue.specs.Queue.{Queue}
use Rattle.seen_facts.proofs.Request.Readers.{SameReads}
use Rattle.seen_laws.proofs.InEvents.{now_more}
use Rattle.seen_laws.specs.InEvent.{InEvent, now_of, row_of, GoesThere}
use Rattle.std.proofs.Common.{Bool, List, Option, [], ap, false, inl, inr, refl, subst, sym, true, ℕ, ◌||◌, ◌∙◌, ◌∷◌, ◌≡◌, ◌⊎◌, map, ◌++◌}
use Rattle.tab_doors.specs.declared.tables.Tables.{Tables}
use Rattle.tab_facts.specs.TabGoing.Going.{IsGoing}
use Rattle.tab_ids.specs.declared.NavId.{NavId}
use Rattle.tab_ids.specs.declared.ReqId.{ReqId}
use Rattle.tab_ids.specs.declared.StateId.{StateId}
use Rattle.tab_loads.proofs.Changes.{ChangesOne}
use Rattle.tab_loads.proofs.Cuts.{first_pass}
use Rattle.tab_loads.proofs.Firsts.{found, q}
use Rattle.tab_loads.proofs.Ones.{one_leaves, one_taking}
use Rattle.tab_loads.specs.Loading.{IsLoadAsk, MayWalk, pass_of}
use Rattle.tab_passes.specs.Passing.{InPass, IsPassing}
use Rattle.tab_stands.proofs.Dones.{MayRelease}
use Rattle.tab_stands.proofs.PassedOn.{IsUnapplied, IsUnmoving, late_put, mades_same, queue_over, shown_put, theirs_over, waiting_on}
use Rattle.tab_stands.proofs.Ready.{calm_before, frees_open}
use Rattle.tab_stands.specs.PassedOn.{HasQueue, IsReady, IsTaking, LateKnown, LeavesQueue, LoadsMadeOwn, MovedAreShown, NoneRunsWhileHeld}
use Rattle.tab_stands.specs.Standing.{IsQueueing}
use Rattle.tab_facts.specs.TabWhole.Tab.{IsTab}
use Rattle.log_model.specs.declared.job.Why.TheVariants as whys
use Rattle.log_model.specs.declared.row_kind.Actor.TheVariants as actors

-- what is held back isn't released in an event of the user
pub held_stays : (e : InEvent) → e.actor ≡ actors.Ui → MayRelease e [] → ⊥
held_stays e by may = let never : actors.Ui ≡ actors.Coord = sym by ∙ may.by_coord in cc

-- the queue waits on, where nobody joins or leaves it, what is held back stays, and no traversal is applied
module _ (e : InEvent) (by : e.actor ≡ actors.Ui) (p one : InPass) (same_p : p.event ≡ e) (same_one : one.event ≡ e) (t : Tables) (queue : Queue) (queueing : IsQueueing one [] t queue) (out : List RowKind) (u : Tables) (run : u.running ≡ t.running) (left : LeavesQueue (now_of e []) (now_of e out)) (parked : (now_of e out).parked ≡ (now_of e []).parked) (wishes : SameReads wish (now_of e []).requests (now_of e out).requests) (unapplied : has_traversed e out ≡ false) (places : (now_of e out).places ≡ (now_of e []).places) (history : (now_of e out).history ≡ (now_of e []).history) (aim : aim_of (now_of e out) ≡ aim_of (now_of e [])) where
  abbrev before : Seen
  before = now_of e []

  abbrev then_ : Seen
  then_ = now_of e out

  first : IsQueueing (record one { event = e }) [] t queue
  first = subst (λ (x : InEvent). IsQueueing (record one { event = x }) [] t queue) same_one queueing

  -- where all stand, they did before
  stood : all_stand then_ (aim_of then_) ≡ all_stand before (aim_of before)
  stood =
      ap (λ (k : ℕ). all_stand then_ k) aim
      ∙ ap (λ (h : History). all_stand_in h.rows then_.places (aim_of before)) history
      ∙ ap (λ (l : List Place). all_stand_in before.history.rows l (aim_of before)) places

  queueing_here : IsQueueing (record p { event = e }) out u queue
  queueing_here =
      record {
        waits = waiting_on e [] out (inl parked) wishes (λ req joined. ap (λ (l : List ReqId). has_req l req) (sym left.joined) ∙ joined) first.waits;
        queued = subst (λ (r : Option ReqId). HasQueue then_ r queue.waiting) (sym run) (queue_over before then_ left t.running queue.waiting first.queued);
        parked = first.parked ∙ sym (held_alike before.requests then_.requests before.parked (mades_same before then_ wishes)) ∙ ap (λ (l : List ReqId). held_back then_.requests l) (sym parked);
        held = λ none. parked ∙ first.held (sym run ∙ none);
        over = λ has. absurd (let never : false ≡ true = sym unapplied ∙ has in cc);
        releasing = λ some all. absurd (held_stays e by (first.releasing (λ none. some (parked ∙ none)) (sym stood ∙ all)));
      }

  pub queueing_then : IsQueueing p out u queue
  queueing_then = subst (λ (x : InEvent). IsQueueing (record p { event = x }) out u queue) (sym same_p) queueing_here

-- ---- one row

module _ (e : InEvent) (req : ReqId) (nav : NavId) (mode : Mode) (address : List ℕ) (asks : IsLoadAsk e req nav mode address) (t : Tables) (queue : Queue) (blame : List (StateId × ReqId)) {behind : List ReqId} (going : IsGoing t.running (req ∷ behind) [] (now_of e [])) (taking : IsTaking e t.running blame (now_of e [])) (moved : MovedAreShown t.running (now_of e [])) (late : LateKnown t.running (now_of e [])) (theirs : LoadsMadeOwn (now_of e [])) (header : t.kept.keep ≡ e.header.keep) (queueing : IsQueueing (first_pass e req behind) [] t queue) (walks : MayWalk e t.running) where
  abbrev s : Seen
  s = now_of e []

  module _ (row : RowKind) (goes : GoesThere e [] row) (unmoving : IsUnmoving row) (steady : IsUnapplied row) (change : ChangesOne s (next s e.event e.actor row) req) (tab : IsTab t.running behind [] (next s e.event e.actor row)) (unapplied : is_traverse (row_of e row) ≡ false) (new : List RowKind) (u : Tables) (out_is : new ≡ row ∷ []) (run : u.running ≡ t.running) (keep : u.kept.keep ≡ t.kept.keep) (passing : IsPassing (pass_of e behind) new u) where
    abbrev n : Seen
    n = next s e.event e.actor row

    now_is : now_of e new ≡ n
    now_is = ap (λ (l : List RowKind). now_of e l) out_is ∙ now_more e [] row goes.read

    taken : IsTaking e t.running blame n
    taken =
        one_taking e t.running blame s n taking going.tab.asked tab.asked going.tab.homes req (q e req nav mode address asks) (found e req nav mode address asks) refl change

    left : LeavesQueue s n
    left =
        one_leaves e t.running blame s n taking going.tab.asked tab.asked going.tab.homes req (q e req nav mode address asks) (found e req nav mode address asks) refl change

    or_none : (b : Bool) → b ≡ false → (b || false) ≡ false
    or_none true is = is
    or_none false is = refl

    none_applied : has_traversed e new ≡ false
    none_applied =
        ap (λ (l : List RowKind). has_traversed e l) out_is
        ∙ ap (λ (l : List RowKind). list_any is_traverse (map (row_of e) l ++ row_of e row ∷ [])) asks.uncut
        ∙ or_none (is_traverse (row_of e row)) unapplied

    open_now : IsTaking e u.running blame (now_of e new)
    open_now =
        subst (λ (x : Seen). IsTaking e u.running blame x) (sym now_is) (subst (λ (r : Option ReqId). IsTaking e r blame n) (sym run) taken)

    places_same : (now_of e new).places ≡ s.places
    places_same = ap (λ (x : Seen). x.places) now_is ∙ change.places

    moved_now : MovedAreShown u.running (now_of e new)
    moved_now =
        subst (λ (r : Option ReqId). MovedAreShown r (now_of e new)) (sym run) (shown_put e t.running [] new passing.work.goes (record { more = row ∷ []; is = out_is; each = each }) places_same moved)
      where
        each : (kind : RowKind) → (row ≡ kind) ⊎ ⊥ → IsUnmoving kind
        each kind (inl same) = subst IsUnmoving same unmoving
        each kind (inr never) = absurd never

    late_now : LateKnown u.running (now_of e new)
    late_now =
        subst (λ (r : Option ReqId). LateKnown r (now_of e new)) (sym run) (late_put e t.running [] new passing.work.goes (record { more = row ∷ []; is = out_is; each = each }) places_same (ap (λ (x : Seen). x.history) now_is ∙ change.history) late)
      where
        each : (kind : RowKind) → (row ≡ kind) ⊎ ⊥ → IsUnapplied kind
        each kind (inl same) = subst IsUnapplied same steady
        each kind (inr never) = absurd never

    pub row_ready : IsReady (pass_of e behind) new u queue blame whys.Start
    row_ready =
        record {
          passing = passing;
          empty = refl;
          header = keep ∙ header;
          open_ = open_now.open_ whys.Start (λ r never. absurd cc);
          loads = open_now.loads;
          frees = frees_open e walks.holds u.running (now_of e new) (subst (λ (r : Option ReqId). NoneRunsWhileHeld walks.holds r) (sym run) walks.alone) walks.free open_now.open_;
          blamed = open_now.blamed;
          calm = calm_before u.running whys.Start (now_of e new) open_now.calm open_now.unmoved open_now.rooted;
          late = late_now;
          moved = moved_now;
          live = open_now.live;
          theirs = subst (λ (x : Seen). LoadsMadeOwn x) (sym now_is) (theirs_over s n change.wishes change.documents theirs);
          queueing = queueing_then e asks.by_user (pass_of e behind) (first_pass e req behind) refl refl t queue queueing new u run (subst (λ (x : Seen). LeavesQueue s x) (sym now_is) left) (ap (λ (x : Seen). x.parked) now_is ∙ change.parked) (subst (λ (x : Seen). SameReads wish s.requests x.requests) (sym now_is) change.wishes) none_applied places_same (ap (λ (x : Seen). x.history) now_is ∙ change.history) (ap (λ (x : Seen). aim_of x) now_is ∙ change.aim);
        }
