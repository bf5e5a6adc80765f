-- A tab that was just opened, at any address and without a handler, is as one is between two events, however many documents may be kept.
use Rattle.log_model.specs.AfterPlaces.{opening_place}
use Rattle.log_model.specs.History.{has_row}
use Rattle.log_model.specs.Seen.{Asked, Place, Seen, place_of, request_in}
use Rattle.log_model.specs.declared.row_kind.Actor.{Actor}
use Rattle.seen_facts.proofs.Rest.Opened.{opened_composed}
use Rattle.seen_facts.specs.Rest.Between.{IsComposed}
use Rattle.row_facts.proofs.RestRows.Rows.{opened_rests}
use Rattle.std.proofs.Common.{Bool, List, None, Option, Some, arith, cond, false, inl, refl, subst, true, ℕ, ◌==◌, ◌≡◌}
use Rattle.tab_facts.specs.TabEvents.Between.{IsBetween}
use Rattle.tab_ids.specs.declared.DocId.{DocId}
use Rattle.tab_ids.specs.declared.EntryId.{EntryId}
use Rattle.tab_ids.specs.declared.NavId.{NavId}
use Rattle.tab_ids.specs.declared.ProcId.{ProcId}
use Rattle.tab_ids.specs.declared.ReqId.{ReqId}
use Rattle.tab_ids.specs.declared.StateId.{StateId}
use Rattle.tab_facts.proofs.TabWhole.Opened.{AreFirst, opened_flows, opened_seen, opened_tab}

module _ (keep : ℕ) (event : ℕ) (actor : Actor) (entry : EntryId) (state : StateId) (doc : DocId) (proc : ProcId) (address : List ℕ) (first : AreFirst entry state doc) where
  abbrev tab : Seen
  tab = opened_seen event actor entry state doc proc address first

  composed : IsComposed tab
  composed = opened_composed event actor entry state doc proc None address

  abbrev place : Place
  place = opening_place entry doc

  only_place : (n : NavId) (p : Place) → place_of tab n ≡ Some p → place ≡ p
  only_place n p = by_test (0 == n.0)
    where
      by_test : (b : Bool) → (let o : Option Place = cond b (Some place) None in o) ≡ Some p → place ≡ p
      by_test true e = cc
      by_test false e = absurd cc

  -- nothing was asked
  no_request : (req : ReqId) (q : Asked) → request_in tab.requests req ≡ Some q → ⊥
  no_request req q = by_number (req.0 == 0)
    where
      by_number : (b : Bool) → (let o : Option Asked = cond b None None in o) ≡ Some q → ⊥
      by_number true e = cc
      by_number false e = cc

  pub opened_between : IsBetween keep None tab
  opened_between =
      record {
        tab = opened_tab event actor entry state doc proc address first;
        flows = opened_flows event actor entry state doc proc address first;
        served = composed.served;
        told = composed.told;
        stepped = λ none. composed.stepped;
        held = λ none. refl;
        rows_ = λ n p other found wakes. subst (λ (x : Place). has_row x.nav tab.history.rows ≡ true) (only_place n p found) refl;
        rests = opened_rests event actor entry state doc proc None address;
        swept = inl (λ other d found ready there. inl (composed.plain.swept other d found ready there));
        stands = refl;
        loading = λ req q there ongoing. absurd (no_request req q there);
        few = omega arith;
      }
