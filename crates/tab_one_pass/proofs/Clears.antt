-- Stray documents are discarded, and then loads of navigables without an entry dropped.
use Rattle.apply_plan.specs.Order.{made_in}
use Rattle.tab_facts.specs.Calm.Calm.{KeepsCalm}
use Rattle.tab_facts.specs.FrameWhole.Tab.{AreAwakeWithRows}
use Rattle.seen_facts.specs.LoadEnds.Standing.{LoadsStand}
use Rattle.seen_facts.specs.Home.Homes.{document_in}
use Rattle.log_model.specs.History.{History, has_row, has_state}
use Rattle.log_model.specs.Orders.{ongoing_load}
use Rattle.log_model.specs.Seen.{Seen, Asked, Document, document_of}
use Rattle.log_model.specs.declared.job.Why.{Why}
use Rattle.log_model.specs.declared.row_kind.RowKind.{RowKind}
use Rattle.seen_laws.specs.InEvent.{now_of}
use Rattle.std.proofs.Common.{true, false, List, None, Option, Some, ap, refl, subst, sym, ◌∙◌, ◌≡◌, ℕ, ◌≤◌, ◌⊎◌, Bool}
use Rattle.std.specs.Prelude.{is_some}
use Rattle.tab_doors.specs.Working.{KeepsStore}
use Rattle.tab_doors.specs.declared.tables.Tables.{Tables}
use Rattle.tab_drops.proofs.ForCallers.{tab_placed}
use Rattle.tab_drops.specs.Dropping.{ArePlaced, AreUnheld, EndsLoads, HasOnlyDestroyed, IsBare, LeavesAll, StandOrBare}
use Rattle.tab_ids.specs.declared.ReqId.{ReqId}
use Rattle.tab_ids.specs.declared.StateId.{StateId}
use Rattle.tab_one_pass.proofs.Calms.{swept_calm, swept_up}
use Rattle.tab_one_pass.proofs.Dropped.{destroyed_left}
use Rattle.tab_one_pass.proofs.Opens.{need_was, open_left, open_swept, place_same, swept_orders}
use Rattle.tab_one_pass.proofs.Orphans.{stray_sent}
use Rattle.tab_one_pass.proofs.Passes.{left_drops, left_then, loaded_before, swept_left}
use Rattle.tab_one_pass.proofs.Quiets.{ended_or}
use Rattle.tab_one_pass.proofs.Stands.{rows_swept, stand_swept}
use Rattle.tab_one_pass.specs.Noting.{AreNoted}
use Rattle.tab_one_pass.specs.Passing.{AreLeftStrays, HasClearedOut, EndsRun, IsOpen, LeavesPass, SendsForStrays, WereLoaded}
use Rattle.tab_serves.specs.PassedOn.{IsTab}
use Rattle.tab_serves.specs.Serving.{FreesVisited, HasOnly, InPass, IsOfWalk, KeepsUp}
use Rattle.tab_passes.specs.Passing.{IsPassingIn}
use Rattle.tab_serves.proofs.Orders.{IsOrderOf}
use Rattle.tab_sweeps.proofs.ForCallers.{need_before}
use Rattle.tab_sweeps.specs.Sweeping.{HasOnlySwept, IsSweptTurn, NoneStray}

-- ---- what is stray goes

module _ {sweeps : Bool} (p : InPass) (out : List RowKind) (t : Tables) (pass : IsPassingIn sweeps p out t) (cause : Why) (so : IsOpen p.event t.running cause (now_of p.event out)) where
  abbrev s : Seen
  s = now_of p.event out

  module _ (stand : StandOrBare s) (blame : List (StateId × ReqId)) (m : Tables) (mid : List RowKind) (swept_pass : IsPassingIn true p mid m) (swept : NoneStray (now_of p.event mid)) (only : HasOnlySwept (now_of p.event out) blame out mid) (turn : IsSweptTurn (now_of p.event out) (now_of p.event mid)) (kept : KeepsStore t m) where
    abbrev y : Seen
    y = now_of p.event mid

    orders : HasOnly (IsOrderOf IsOfWalk) out mid
    orders = swept_orders s blame out mid only

    tab_then : IsTab t.running p.loads p.hand y
    tab_then = subst (λ (r : Option ReqId). IsTab r p.loads p.hand y) kept.running swept_pass.going.tab

    mid_calm : KeepsCalm s y
    mid_calm = swept_calm t.running p.loads p.hand s y pass.going.tab turn

    mid_up : KeepsUp s y
    mid_up = swept_up t.running p.loads p.hand s y pass.going.tab turn

    mid_open : IsOpen p.event t.running cause y
    mid_open = open_swept p t.running cause out mid pass.going.tab tab_then turn swept orders so

    mid_stand : StandOrBare y
    mid_stand = stand_swept t.running p.loads p.hand s y pass.going.tab tab_then turn swept stand

    mid_rows : AreAwakeWithRows y
    mid_rows = rows_swept t.running p.loads p.hand s y pass.going.tab tab_then turn swept

    pub destroy_asks : IsPassingIn true p mid m × (AreUnheld p.event y × ArePlaced y)
    destroy_asks = (swept_pass, (mid_open.held, tab_placed t.running p.loads p.hand y tab_then))

    module _ (u : Tables) (new : List RowKind) (ends : EndsLoads (IsBare (now_of p.event mid)) (now_of p.event mid) (now_of p.event new)) (left : LeavesAll (now_of p.event mid) (now_of p.event new)) (keeps : KeepsStore m u) where
      abbrev x : Seen
      x = now_of p.event new

      last_open : IsOpen p.event t.running cause x
      last_open = open_left p t.running cause y x left mid_open

      pub cleared_open : IsOpen p.event u.running cause x
      cleared_open =
          subst (λ (r : Option ReqId). IsOpen p.event r cause x) (sym (keeps.running ∙ kept.running)) last_open

      -- who is visited in need, and was shown a document before, was so before
      pub cleared_frees : FreesVisited p.event s → FreesVisited p.event x
      cleared_frees frees nav place at need epoch =
          let was = need_before t.running p.loads p.hand s y pass.going.tab tab_then turn swept nav place (sym (place_same y x left.places left.history left.aim nav) ∙ at) (need_was y x left.places left.history left.aim place need) in
          frees nav was.old was.there was.need (subst (λ (n : ℕ). 1 ≤ n) was.epoch epoch)

      pub cleared_loads : (StandOrBare y → LoadsStand x) → LoadsStand x
      cleared_loads loads = loads mid_stand

      pub cleared_strays : (emptied noted : List (StateId × ReqId)) → AreNoted m None (made_in m.tree) emptied noted → AreLeftStrays x noted
      cleared_strays emptied noted are =
          destroyed_left p mid m swept_pass new emptied noted left are swept ends last_open.takers

      pub cleared_loaded : WereLoaded s x
      cleared_loaded doc state stray = by_load (ongoing_load y state) refl
        where
          before : document_of y doc ≡ Some stray.document
          before = ap (λ (l : List Document). document_in l doc) (sym left.documents) ∙ stray.found

          bare : has_state state y.history.rows ≡ false
          bare = ap (λ (h : History). has_state state h.rows) (sym left.history) ∙ stray.bare

          by_load : (o : Option Asked) → ongoing_load y state ≡ o → is_some (ongoing_load s state) ≡ true
          by_load None is =
              absurd (swept doc state (record { document = stray.document; found = before; its_state = stray.its_state; ready = stray.ready; undiscarded = stray.undiscarded; bare = bare; unloaded = is }))
          by_load (Some q) is =
              loaded_before s y (swept_left p.event out mid orders turn mid_calm mid_up) state (ap (λ (o : Option Asked). is_some o) is)

      pub cleared_rows : AreAwakeWithRows x
      cleared_rows nav place doc at wakes =
          ap (λ (h : History). has_row place.nav h.rows) left.history ∙ mid_rows nav place doc (sym (place_same y x left.places left.history left.aim nav) ∙ at) wakes

      pub cleared_left : LeavesPass s x
      cleared_left = left_then s y x (swept_left p.event out mid orders turn mid_calm mid_up) (left_drops y x left)

      pub cleared_only : HasOnlyDestroyed y mid new → HasClearedOut p.event blame out new
      cleared_only destroys = record { swept = mid; sweeps = only; destroys = destroys }

      -- the last row dropped a load, or no document is stray any more
      pub cleared_ends : HasOnlyDestroyed y mid new → EndsRun new ⊎ NoneStray x
      cleared_ends destroys = ended_or p.event mid new destroys swept

      pub cleared_sent : HasOnlyDestroyed y mid new → SendsForStrays s x out new
      cleared_sent destroys awake_ =
          stray_sent t.running p.loads p.hand p.event out pass.going.tab awake_ blame mid new only swept destroys ends left.documents left.history
