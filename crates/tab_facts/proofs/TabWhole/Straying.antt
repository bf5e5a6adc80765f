-- All that holds of a tab between two events holds after a poke that reaches no document is accepted, and refused in the same event.
use Rattle.seen_facts.proofs.Coord.Flowings.{left_flows}
use Rattle.seen_facts.proofs.Coord.Unread.{next, refused_held, refused_left}
use Rattle.seen_facts.specs.Coord.Flowing.{Flows}
use Rattle.seen_facts.specs.Each.Runs.{is_this}
use Rattle.log_model.specs.After.{new_request}
use Rattle.log_model.specs.Equal.{has_req}
use Rattle.log_model.specs.Seen.{Asked, Seen, request_in}
use Rattle.log_model.specs.declared.action.Action.{Action}
use Rattle.log_model.specs.declared.outcome.Denial.{Denial}
use Rattle.log_model.specs.declared.row_kind.Actor.{Actor}
use Rattle.seen_facts.proofs.Request.LookUps.{none_before, one_more}
use Rattle.seen_facts.proofs.Request.Times.{times_none}
use Rattle.seen_facts.specs.Request.Whereabouts.{times_found}
use Rattle.std.proofs.Common.{List, None, Option, [], arith, false, length, refl, sym, ℕ, ◌+◌, ◌∙◌, ◌∷◌, ◌≡◌}
use Rattle.tab_ids.specs.declared.NavId.{NavId}
use Rattle.tab_ids.specs.declared.ReqId.{ReqId}
use Rattle.tab_facts.proofs.TabWhole.Accepting.{strayed, strayed_flows, strayed_tab}
use Rattle.tab_facts.proofs.TabWhole.Ending.{IsNoProcess}
use Rattle.tab_facts.proofs.TabWhole.Refusing.{first_refused_tab}
use Rattle.tab_facts.specs.TabWhole.Tab.{IsTab, at_hand, open_among}
use Rattle.log_model.specs.declared.request.Request.TheVariants as requests
use Rattle.log_model.specs.declared.row_kind.RowKind.TheVariants as rows

module _ (run : Option ReqId) {loads : List ReqId} (s : Seen) (event : ℕ) (actor : Actor) (tab : IsTab run loads [] s) (flows : Flows s) (req : ReqId) (nr : req.0 ≡ length s.requests + 1) (nav : NavId) (action : Action) (reason : Denial) where
  abbrev strays : Seen
  strays = strayed run s event actor tab flows req nr nav action

  abbrev pub turned_away : Seen
  turned_away = next (next s event actor (rows.Accepted req None (requests.Poke nav action))) event actor (rows.Refused req reason)

  -- it was nowhere before, so it isn't held back
  unparked : has_req s.parked req ≡ false
  unparked =
      let none : request_in s.requests req ≡ None = none_before s.requests (new_request req None (requests.Poke nav action)) req nr in
      let nowhere : times_found req s.desks s.joined s.parked (at_hand (open_among s.requests loads) []) ≡ 0 = tab.once req (rw none refl) ∙ rw none refl in
      times_none req s.parked (omega (arith, nowhere))

  pub stray_flows : Flows turned_away
  stray_flows =
      left_flows strays turned_away (refused_left strays event actor req reason) refl refl refl (refused_held strays event actor req reason unparked)
      (strayed_flows run s event actor tab flows req nr nav action)

  pub stray_tab : IsNoProcess actor → IsTab run loads [] turned_away
  stray_tab by =
      let with_it : IsTab run (req ∷ loads) [] strays = strayed_tab run s event actor tab flows req nr nav action in
      let new : Asked = new_request req None (requests.Poke nav action) in
      let other : is_this run req ≡ false = sym (with_it.asked.only req new (one_more s.requests new req nr)) in
      first_refused_tab run req loads [] strays event with_it other actor reason by
