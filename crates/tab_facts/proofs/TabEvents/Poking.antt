-- What holds between two events holds after a poke is accepted that reaches a document, and after one that reaches none is accepted and refused.
use Rattle.seen_facts.proofs.Coord.Held.{on_else, without_same}
use Rattle.seen_facts.specs.Each.Runs.{is_this}
use Rattle.log_model.specs.After.{new_request}
use Rattle.log_model.specs.Equal.{has_req}
use Rattle.log_model.specs.Places.{is_ongoing_load}
use Rattle.log_model.specs.Seen.{Asked, Document, Seen, document_of, request_in}
use Rattle.log_model.specs.declared.action.Action.{Action}
use Rattle.log_model.specs.declared.outcome.Denial.{Denial}
use Rattle.log_model.specs.declared.row_kind.Actor.{Actor}
use Rattle.seen_facts.proofs.Request.LookUps.{none_before, on_itself, one_more, others_before}
use Rattle.seen_facts.proofs.Request.Times.{times_none}
use Rattle.seen_facts.specs.Request.Whereabouts.{times_found}
use Rattle.row_facts.proofs.RestRows.Rows.{accepted_rests, refused_rests}
use Rattle.row_facts.specs.RestRows.Moving.{AllRest}
use Rattle.std.specs.List.{list_any}
use Rattle.tab_facts.proofs.TabEvents.Ordered.{poked_orders, unrefused}
use Rattle.std.proofs.Common.{Bool, List, None, Option, Some, [], ap, arith, false, length, refl, sym, ℕ, ◌+◌, ◌==◌, ◌∙◌, ◌∷◌, ◌≡◌}
use Rattle.std.proofs.lemmas.Bool.Decides.{nat_tests}
use Rattle.std.proofs.lemmas.List.{map-id}
use Rattle.std.specs.Prelude.{option_map}
use Rattle.tab_facts.proofs.TabEvents.Left.{between_left, keeps_all}
use Rattle.tab_facts.proofs.TabEvents.Requests.{AreLeft, others_left}
use Rattle.tab_facts.specs.TabEvents.Between.{IsBetweenChecks, has_order}
use Rattle.tab_ids.specs.declared.DocId.{DocId}
use Rattle.tab_ids.specs.declared.NavId.{NavId}
use Rattle.tab_ids.specs.declared.ReqId.{ReqId}
use Rattle.tab_facts.proofs.TabWhole.Accepting.{poked, poked_flows, poked_tab, strayed, strayed_tab}
use Rattle.tab_facts.proofs.TabWhole.Ending.{IsNoProcess}
use Rattle.tab_facts.proofs.TabWhole.Straying.{stray_flows, stray_tab, turned_away}
use Rattle.tab_facts.specs.TabWhole.Tab.{IsTab, at_hand, open_among}
use Rattle.log_model.specs.declared.outcome.Ending.TheVariants as endings
use Rattle.log_model.specs.declared.request.Request.TheVariants as requests

some_same : {A : Type 0} {a b : A} → (let o : Option A = Some a in o) ≡ Some b → a ≡ b
some_same e = cc

module _ (keep : ℕ) (run : Option ReqId) {loads : List ReqId} {holds : Bool} (s : Seen) (event : ℕ) (actor : Actor) (is : IsBetweenChecks keep run loads holds s) (req : ReqId) (nr : req.0 ≡ length s.requests + 1) (nav : NavId) (action : Action) where
  -- it had no request of the number
  none_yet : (q : Asked) → request_in s.requests req ≡ Some q → is_ongoing_load q ≡ false
  none_yet q at =
      let none : request_in s.requests req ≡ None = none_before s.requests (new_request req None (requests.Poke nav action)) req nr in
      let never : None ≡ Some q = sym none ∙ at in absurd cc

  -- ---- of a document that is there

  module _ (doc : DocId) (d : Document) (found : document_of s doc ≡ Some d) where
    abbrev then : Seen
    then = poked run s event actor is.tab is.flows req nr nav action doc d found

    abbrev new : Asked
    new = new_request req (Some doc) (requests.Poke nav action)

    tab : IsTab run loads [] then
    tab = poked_tab run s event actor is.tab is.flows req nr nav action doc d found

    asked : AreLeft run s.requests then.requests
    asked =
        others_left run s.requests then.requests req
        (sym (tab.asked.only req new (one_more s.requests new req nr)))
        (λ r apart. others_before s.requests new req nr r (let other : (req.0 == r.0) ≡ false = grind (arith, nat_tests, apart) in other))
        (λ q at. sym (ap is_ongoing_load (some_same (sym (one_more s.requests new req nr) ∙ at))))
        none_yet

    pub poked_between : IsBetweenChecks keep run loads holds then
    poked_between =
        between_left keep run s then is tab
        (record { g = λ x. x; keeps = keeps_all; documents = sym (map-id s.documents); asked = asked; history = refl; places = refl; kept = refl; joined = refl; parked = refl; orders = λ go. poked_orders s req doc d found action go })
        (poked_flows run s event actor is.tab is.flows req nr nav action doc d found)
        (accepted_rests s event actor [] is.rests req (Some doc) (requests.Poke nav action))

  -- ---- of none

  module _ (reason : Denial) (by : IsNoProcess actor) where
    abbrev first : Seen
    first = strayed run s event actor is.tab is.flows req nr nav action

    abbrev away : Seen
    away = turned_away run s event actor is.tab is.flows req nr nav action reason

    abbrev lost_ : Asked
    lost_ = new_request req None (requests.Poke nav action)

    first_tab : IsTab run (req ∷ loads) [] first
    first_tab = strayed_tab run s event actor is.tab is.flows req nr nav action

    other : is_this run req ≡ false
    other = sym (first_tab.asked.only req lost_ (one_more s.requests lost_ req nr))

    -- it was nowhere before
    nowhere : times_found req s.desks s.joined s.parked (at_hand (open_among s.requests loads) []) ≡ 0
    nowhere =
        let none : request_in s.requests req ≡ None = none_before s.requests lost_ req nr in
        is.tab.once req (rw none refl) ∙ rw none refl

    unparked : has_req s.parked req ≡ false
    unparked = times_none req s.parked (let none = nowhere in omega (arith, none))

    unjoined : has_req s.joined req ≡ false
    unjoined = times_none req s.joined (let none = nowhere in omega (arith, none))

    abbrev refuse : Asked → Asked
    refuse q = record q { ending = Some (endings.Refused reason) }

    refused_is : request_in away.requests req ≡ Some (refuse lost_)
    refused_is =
        on_itself first.requests req refuse ∙ ap (λ (o : Option Asked). option_map refuse o) (one_more s.requests lost_ req nr)

    asked_away : AreLeft run s.requests away.requests
    asked_away =
        others_left run s.requests away.requests req other
        (λ r apart. on_else first.requests req refuse r apart ∙ others_before s.requests lost_ req nr r (let turned : (req.0 == r.0) ≡ false = grind (arith, nat_tests, apart) in turned))
        (λ q at. sym (ap is_ongoing_load (some_same (sym refused_is ∙ at))))
        none_yet

    rests_first : AllRest first
    rests_first = accepted_rests s event actor [] is.rests req None (requests.Poke nav action)

    pub stray_between : IsBetweenChecks keep run loads holds away
    stray_between =
        between_left keep run s away is (stray_tab run s event actor is.tab is.flows req nr nav action reason by)
        (record { g = λ x. x; keeps = keeps_all; documents = sym (map-id s.documents); asked = asked_away; history = refl; places = refl; kept = refl; joined = without_same s.joined req unjoined; parked = without_same s.parked req unparked; orders = λ go. ap (list_any has_order) (unrefused s.desks actor by) ∙ go })
        (stray_flows run s event actor is.tab is.flows req nr nav action reason)
        (refused_rests first event actor [] rests_first req reason)
