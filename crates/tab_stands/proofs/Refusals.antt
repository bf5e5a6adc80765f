-- A poke that reaches no document is accepted and refused: the event ends with that, and the coordinator stands for the log still.
use Rattle.log_model.specs.After.{new_request}
use Rattle.log_model.specs.Causes.{denial_of_poke}
use Rattle.log_model.specs.declared.action.Action.{Action}
use Rattle.log_model.specs.declared.outcome.Denial.{Denial}
use Rattle.log_model.specs.declared.request.Request.{Request}
use Rattle.log_model.specs.declared.row_kind.Actor.{Actor}
use Rattle.log_model.specs.declared.row_kind.LogRow.{LogRow}
use Rattle.move_queue.specs.Queue.{Queue}
use Rattle.seen_laws.proofs.Strays.{denial_passes, stray_passes}
use Rattle.seen_laws.specs.Blocks.{EachPass}
use Rattle.seen_laws.specs.InEvent.{InEvent, row_of, start_of}
use Rattle.std.proofs.Common.{List, None, Some, [], ap, false, length, refl, subst, sym, ℕ, ◌+◌, ◌∷◌, ◌≡◌}
use Rattle.tab_doors.specs.declared.tables.Tables.{Tables}
use Rattle.tab_ids.specs.declared.NavId.{NavId}
use Rattle.tab_ids.specs.declared.ReqId.{ReqId}
use Rattle.tab_ids.specs.declared.StateId.{StateId}
use Rattle.tab_stands.proofs.Accepting.{accepted_row}
use Rattle.tab_stands.proofs.More.{new_there}
use Rattle.tab_stands.specs.Offs.{AreShownOnce}
use Rattle.log_model.specs.After.{after}
use Rattle.log_model.specs.Equal.{has_req}
use Rattle.seen_laws.specs.InEvent.{now_of}
use Rattle.tab_stands.proofs.Denied.{denied_stands}
use Rattle.tab_stands.specs.Standing.{HasRoomFor, InCheck, IsOwnRead, StandsFor, seen_start}
use Rattle.tab_settles.proofs.PassedOn.{strayed_flows, strayed_tab}
use Rattle.log_model.specs.declared.request.Request.TheVariants as requests
use Rattle.log_model.specs.declared.row_kind.Actor.TheVariants as actors
use Rattle.log_model.specs.declared.row_kind.RowKind.TheVariants as rows

-- the row that refuses it is the user's
refusal_row : (e : InEvent) (req : ReqId) (reason : Denial) → e.actor ≡ actors.Ui → row_of e (rows.Refused req reason) ≡ record { event = e.event; actor = actors.Ui; row = rows.Refused req reason }
refusal_row e req reason by_user =
    ap (λ (a : Actor). let row : LogRow = record { event = e.event; actor = a; row = rows.Refused req reason } in row) by_user

module _ (e : InEvent) (req : ReqId) (by_user : e.actor ≡ actors.Ui) (reason : Denial) (nav : NavId) (action : Action) (own : e.own ≡ rows.Accepted req None (requests.Poke nav action)) where
  abbrev poke : Request
  poke = requests.Poke nav action

  -- the coordinator stands for the log still
  pub poke_refused_stands : (t : Tables) (queue : Queue) (blame : List (StateId × ReqId)) → {check : InCheck} → StandsFor check (seen_start e) t queue blame → IsOwnRead e → HasRoomFor (seen_start e) → req.0 ≡ length (seen_start e).requests + 1 → AreShownOnce (now_of e (rows.Refused req reason ∷ [])).places → denial_of_poke (seen_start e) nav ≡ Some reason → StandsFor check (now_of e (rows.Refused req reason ∷ [])) t queue blame
  poke_refused_stands t queue blame {check} stands aside room nr shown denied =
      denied_stands e t queue blame stands aside room req poke by_user own nr reason refl (strayed_tab t.running (seen_start e) e.event actors.Ui stands.between.tab stands.between.flows req nr nav action) (strayed_flows t.running (seen_start e) e.event actors.Ui stands.between.tab stands.between.flows req nr nav action) shown

  -- ---- its rows pass

  module _ (nr : req.0 ≡ length e.start.requests + 1) (event : e.event ≡ e.start.events) (denied : denial_of_poke e.start nav ≡ Some reason) (unparked : has_req e.start.parked req ≡ false) where
    abbrev second : LogRow
    second = record { event = e.event; actor = actors.Ui; row = rows.Refused req reason }

    -- the two rows, of an event of this number
    abbrev OfNumber : ℕ → Type 0
    OfNumber i =
        EachPass (start_of e) ((let r : LogRow = record { event = i; actor = actors.Ui; row = rows.Accepted req None (requests.Poke nav action) } in r) ∷ (let r : LogRow = record { event = i; actor = actors.Ui; row = rows.Refused req reason } in r) ∷ []) []

    by_number : OfNumber e.start.events
    by_number = (
      stray_passes e.header e.start req nav action reason nr denied,
      (
        denial_passes e.header e.start req nav action reason (new_request req None poke) nr denied (new_there e.start (after e.start (record { event = e.event; actor = actors.Ui; row = rows.Accepted req None poke })) (new_request req None poke) req nr) refl refl refl unparked,
        tt,
      ),
    )

    pub poke_refused_pass : EachPass (start_of e) (row_of e e.own ∷ row_of e (rows.Refused req reason) ∷ []) []
    poke_refused_pass =
        subst (λ (r : LogRow). EachPass (start_of e) (row_of e e.own ∷ r ∷ []) []) (sym (refusal_row e req reason by_user))
        (subst (λ (r : LogRow). EachPass (start_of e) (r ∷ second ∷ []) []) (sym (accepted_row e req None poke by_user own)) (subst (λ (i : ℕ). OfNumber i) (sym event) by_number))
