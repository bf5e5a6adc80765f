-- A stray document may be discarded, for the request that is noted for its state.
use Rattle.row_facts.proofs.LeaveRows.LeftMays.{gone_left_may}
use Rattle.row_facts.specs.LeaveRows.Leaving.{IsDiscardOf}
use Rattle.row_facts.specs.LeaveRows.MayLeave.{MayBeLeft}
use Rattle.row_facts.specs.FrameRows.Discarding.{IsDiscardDue}
use Rattle.seen_facts.proofs.Hang.Hung.{places_distinct}
use Rattle.seen_facts.specs.Hang.AsPlaces.{AreDistinct}
use Rattle.log_model.specs.Checks.{may_go_on}
use Rattle.log_model.specs.History.{has_state}
use Rattle.log_model.specs.Orders.{ongoing_load}
use Rattle.log_model.specs.Seen.{Asked, Document, Seen, desk_of, request_of}
use Rattle.log_model.specs.declared.job.Job.{Job}
use Rattle.log_model.specs.declared.row_kind.RowKind.{RowKind}
use Rattle.nav_tree.specs.Tree.{is_state, state_of}
use Rattle.seen_laws.proofs.InEvents.{led_here, now_is}
use Rattle.seen_laws.specs.InEvent.{InEvent, here_of, now_of}
use Rattle.std.proofs.Common.{Bool, List, None, Option, Some, ap, false, inr, refl, subst, sym, true, ◌∙◌, ◌≡◌}
use Rattle.std.specs.Map.{lookup}
use Rattle.std.specs.Prelude.{is_some}
use Rattle.tab_doors.proofs.Whose.{proc_found}
use Rattle.tab_doors.proofs.Leavable.{IsLeftAs, discards_log, gone_log, numbered_log}
use Rattle.tab_doors.proofs.Works.{numbered}
use Rattle.tab_doors.specs.Keeping.{Move}
use Rattle.tab_doors.specs.Orders.{order_to, proc_at}
use Rattle.tab_doors.specs.Working.{IsAtWorkIn, MaySend}
use Rattle.tab_doors.specs.declared.tables.Tables.{Tables}
use Rattle.tab_ids.specs.declared.DocId.{DocId}
use Rattle.tab_ids.specs.declared.ReqId.{ReqId}
use Rattle.tab_ids.specs.declared.StateId.{StateId}
use Rattle.tab_passes.proofs.Goings.{none_to_begin}
use Rattle.tab_passes.proofs.LeftFor.{off_for}
use Rattle.tab_passes.specs.Causes.{MayCause, MayServe}
use Rattle.tab_passes.specs.Leaving.{MayLeave}
use Rattle.tab_passes.specs.Passing.{InPass}
use Rattle.tab_sweeps.proofs.Founds.{here_for}
use Rattle.tab_sweeps.proofs.Theres.{stray_unknown}
use Rattle.tab_sweeps.proofs.Unders.{moves_sleepers}
use Rattle.tab_sweeps.specs.Sweeping.{IsBlamed, IsStray, MovesUnder}
use Rattle.tab_sweeps.specs.Turns.{IsAnyStray, IsSweeping}
use Rattle.log_model.specs.declared.job.Task.TheVariants as tasks
use Rattle.log_model.specs.declared.job.Why.TheVariants as whys

-- an order may be sent to a document of no entry and no load
stray_ahead : {sweeps : Bool} {move : Option Move} (e : InEvent) (out : List RowKind) (t : Tables) (doc : DocId) (d : Document) (by : ReqId) (r : Asked) → IsAtWorkIn sweeps move e out t → MayBeLeft (here_of e out) (order_to (now_of e out) doc (whys.Req by) tasks.Discard) → IsDiscardDue (now_of e out) (order_to (now_of e out) doc (whys.Req by) tasks.Discard) d by r → (desk_of (now_of e out) (proc_at (now_of e out) doc)).known ≡ 0 → MaySend None e out (order_to (now_of e out) doc (whys.Req by) tasks.Discard)
stray_ahead e out t doc d by r work left due known later ahead =
    gone_left_may (here_of e out) e.event e.actor order its.d (led_here e out work.own) (numbered_log e out (now_is e out) order (numbered (now_of e out) (proc_at (now_of e out) doc) doc (whys.Req by) tasks.Discard known)) (gone_log e out t work order d its gone unloaded) later (ahead.1, tt)
  where
    order : Job
    order = order_to (now_of e out) doc (whys.Req by) tasks.Discard

    discards : IsDiscardOf (now_of e out) order d
    discards = record { task = refl; to = due.to; unhandled = due.unhandled; for_one = rw due.there refl }

    its : IsLeftAs e out order d
    its =
        discards_log e out (now_is e out) order d left discards

    gone : has_state d.state (now_of e out).history.rows ≡ false
    gone = due.gone

    unloaded : ongoing_load (now_of e out) d.state ≡ None
    unloaded = due.unloaded

-- a request for which an order may be sent is there
pub record IsAsked (s : Seen) (req : ReqId) : Type 0 where
  pub q : Asked
  pub at : request_of s req ≡ Some q

pub is_asked : (s : Seen) (req : ReqId) → MayServe s req → IsAsked s req
is_asked s req may = by_found (request_of s req) refl
  where
    by_found : (o : Option Asked) → request_of s req ≡ o → IsAsked s req
    by_found (Some q) at = record { q = q; at = at }
    by_found None at = let never : may_go_on s req ≡ false = rw at refl in let no_ : true ≡ false = sym may.goes ∙ never in absurd cc

module _ (p : InPass) (blame : List (StateId × ReqId)) {docs : List DocId} (out : List RowKind) (t : Tables) (so : IsSweeping p blame docs out t) (doc : DocId) where
  abbrev s : Seen
  s = now_of p.event out

  -- the state for which it is there is its own
  pub its_stray : (state : StateId) → IsAnyStray s doc → state_of doc t.tree ≡ Some state → IsStray s doc state
  its_stray state any is =
      let its = here_for p None out t so.leaving doc state is in
      let two : Some its.document ≡ Some any.stray.document = sym its.found ∙ any.stray.found in
      let one : its.document ≡ any.stray.document = cc in
      let same : any.state ≡ state = sym any.stray.its_state ∙ ap (λ (d : Document). d.state) (sym one) ∙ its.its_state in
      subst (λ (x : StateId). IsStray s doc x) same any.stray

  module _ (state : StateId) (stray : IsStray s doc state) (req : ReqId) (noted : lookup (is_state state) blame ≡ Some req) where
    pub its_blame : IsBlamed s blame doc state
    its_blame = so.blamed doc state stray

    named : its_blame.req ≡ req
    named = let two : Some its_blame.req ≡ Some req = sym its_blame.noted ∙ noted in cc

    pub may_serve : MayServe s req
    may_serve = subst (λ (r : ReqId). MayServe s r) named its_blame.may

    pub may_cause : MayCause s (whys.Req req)
    may_cause other same = let one : req ≡ other = cc in subst (λ (r : ReqId). MayServe s r) one may_serve

    abbrev discard : Job
    discard = order_to s doc (whys.Req req) tasks.Discard

    distinct : AreDistinct s.places
    distinct = places_distinct s so.leaving.going.tab.sound so.leaving.going.tab.hangs

    pub sweep_leaves : MayLeave s doc (whys.Req req)
    sweep_leaves =
        record {
          document = stray.document;
          found = stray.found;
          ready = stray.ready;
          moves = moves_sleepers s doc (whys.Req req) distinct (subst (λ (r : ReqId). MovesUnder s doc (whys.Req r)) named its_blame.moves);
          begun = inr (none_to_begin s (whys.Req req) may_cause);
          may = may_cause;
        }

    pub sweep_sends : MaySend None p.event out (order_to s doc (whys.Req req) tasks.Discard)
    sweep_sends =
        let asked = is_asked s req may_serve in
        stray_ahead p.event out t doc stray.document req asked.q so.leaving.work
        (off_for p.event out so.leaving.duly discard stray.document stray.found (ap (λ (o : Option Asked). is_some o) asked.at) (so.lefts doc state req stray noted))
        (record {
          task = refl;
          to = record { found = stray.found; proc = sym (proc_found s doc stray.document stray.found); alive = rw (stray.undiscarded, stray_unknown p out t so.leaving doc state stray) refl };
          gone = ap (λ (x : StateId). has_state x s.history.rows) stray.its_state ∙ stray.bare;
          unloaded = ap (λ (x : StateId). ongoing_load s x) stray.its_state ∙ stray.unloaded;
          unhandled = (so.leaving.going.tab.docs.each doc stray.document stray.found).live.slot;
          why = refl;
          there = asked.at;
        })
        (so.leaving.going.tab.asked.died (proc_at s doc)).0
