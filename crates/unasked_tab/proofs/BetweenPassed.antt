-- A traversal passes its unload check: what of all that holds between two events stays by itself, and what is left to show.
use Rattle.std.proofs.Common.{◌≡◌, ◌⊎◌, ℕ, Bool, true, false, ◌==◌, ◌&&◌, List, [], Some, None, refl, sym, ap, ◌∙◌, inl, inr, subst}
use Rattle.std.specs.Prelude.{is_some}
use Rattle.tab_ids.specs.declared.ReqId.{ReqId}
use Rattle.log_model.specs.ActsAtOnce.{ends_stepped, ends_told}
use Rattle.log_model.specs.History.{has_state}
use Rattle.log_model.specs.Places.{is_load, is_ongoing_load, is_under_way}
use Rattle.log_model.specs.Seen.{Asked, Document, Seen, desk_of, request_in, request_of}
use Rattle.seen_facts.specs.Coord.Flowing.{Flows}
use Rattle.seen_facts.specs.Coord.Leading.{held_back}
use Rattle.seen_facts.specs.LoadEnds.Standing.{LoadsStand}
use Rattle.seen_facts.specs.Rest.Between.{HasLoadDocument, IsOfLoad}
use Rattle.seen_facts.specs.Walk.Serving.{AreServed}
use Rattle.seen_facts.proofs.Coord.Flowings.{left_flows}
use Rattle.seen_facts.proofs.Coord.Held.{held_alike, made_of, on_else}
use Rattle.seen_facts.proofs.Load.Rows.{req_same}
use Rattle.tab_facts.specs.Calm.Loads.{LoadsHaveDocuments}
use Rattle.tab_facts.specs.TabEvents.Between.{AreSwept, IsBetweenChecks, orders_go}
use Rattle.tab_facts.specs.TabWhole.Tab.{IsTab}
use Rattle.tab_facts.proofs.TabWhole.Beginning.{IsToGo, no_load}
use Rattle.unasked.specs.Premises.{IsNumbered}
use Rattle.seen_laws.specs.Unasked.{unasked}
use Rattle.unasked.proofs.Passings.{begun_as, passed_unasked}
use Rattle.unasked_tab.proofs.Alike.{read_alike}
use Rattle.unasked_tab.proofs.Begun.{begun, begun_alike, begun_now, some_same, with_begun}
use Rattle.unasked_tab.proofs.Passed.{passed_tab}

module _ (s : Seen) (req : ReqId) (b : Asked) where
  abbrev come : Seen
  come = with_begun s req b

  -- what is on its way leads on, whichever request begins
  pub begun_flows : Flows s → Flows (with_begun s req b)
  begun_flows are =
      left_flows s come (λ proc. ((desk_of s proc).input, refl)) refl refl refl held are
    where
      held : held_back come.requests s.parked ≡ held_back s.requests s.parked
      held =
          held_alike s.requests (begun s req b) s.parked (read_alike made_of (λ q. refl) s.requests (begun s req b) (begun_alike s req b))

  -- ---- one that wasn't an ongoing load

  module _ (q : Asked) (found : request_of s req ≡ Some q) (idle : is_ongoing_load q ≡ false) where
    -- the ongoing loads go on
    goes_on : (r : ReqId) (p : Asked) → request_in s.requests r ≡ Some p → is_ongoing_load p ≡ true → request_in come.requests r ≡ Some p
    goes_on r p at on = by_number (r.0 == req.0) refl
      where
        by_number : (c : Bool) → (r.0 == req.0) ≡ c → request_in come.requests r ≡ Some p
        by_number false e = on_else s.requests req (begun_as b) r e ∙ at
        by_number true e =
            let one : r ≡ req = req_same r req e in
            let same : q ≡ p = some_same (sym found ∙ ap (λ (x : ReqId). request_in s.requests x) (sym one) ∙ at) in
            let never : false ≡ true = sym idle ∙ ap is_ongoing_load same ∙ on in absurd cc

    -- so what isn't of an entry or a load is gone as before
    pub begun_swept : AreSwept s ⊎ (orders_go s ≡ true) → AreSwept (with_begun s req b) ⊎ (orders_go (with_begun s req b) ≡ true)
    begun_swept (inr go) = inr go
    begun_swept (inl are) =
        inl (λ doc d at ready there. by_either d (are doc d at ready there))
      where
        by_either : (d : Document) → (has_state d.state s.history.rows ≡ true) ⊎ IsOfLoad s d → (has_state d.state s.history.rows ≡ true) ⊎ IsOfLoad come d
        by_either d (inl has) = inl has
        by_either d (inr of) =
            inr (record { req = of.req; q = of.q; found = goes_on of.req of.q of.found of.ongoing; ongoing = of.ongoing; own = of.own })

  -- ---- a traversal

  module _ (q : Asked) (is : IsToGo s req q) where
    never_load : (u : Bool) (p : Asked) → p.what ≡ q.what → (u && is_load p.what) ≡ false
    never_load true p same = ap is_load same ∙ no_load q.what is.goes
    never_load false p same = refl

    idle : is_ongoing_load q ≡ false
    idle = never_load (is_under_way q) q refl

    documents : LoadsHaveDocuments s → LoadsHaveDocuments come
    documents are r p at on = by_number (r.0 == req.0) refl
      where
        same : HasLoadDocument s p → HasLoadDocument come p
        same has =
            record {
              state = has.state;
              own = has.own;
              doc = has.doc;
              d = has.d;
              found = has.found;
              of_state = has.of_state;
              there = has.there;
            }

        by_number : (c : Bool) → (r.0 == req.0) ≡ c → HasLoadDocument come p
        by_number false e = same (are r p (sym (on_else s.requests req (begun_as b) r e) ∙ at) on)
        by_number true e =
            let one : r ≡ req = req_same r req e in
            let its : begun_as b q ≡ p = some_same (sym (begun_now s req b q is.there) ∙ ap (λ (x : ReqId). request_in come.requests x) (sym one) ∙ at) in
            let never : false ≡ true = sym (never_load (is_under_way (begun_as b q)) (begun_as b q) refl) ∙ ap is_ongoing_load its ∙ on in absurd cc

    -- its aim is new: that all are served, told and stand there, and that no step is put off, is left to show
    pub passed_between : (keep : ℕ) (loads : List ReqId) (waits : Bool) → IsBetweenChecks keep None loads waits s → IsTab (Some req) loads [] (with_begun s req b) → AreServed (with_begun s req b) → ends_told (with_begun s req b) ≡ true → ends_stepped (with_begun s req b) ≡ true → LoadsStand (with_begun s req b) → IsBetweenChecks keep (Some req) loads false (with_begun s req b)
    passed_between keep loads waits before tab served told stepped stands =
        record {
          tab = tab;
          flows = begun_flows before.flows;
          served = served;
          told = told;
          stepped = λ none. stepped;
          held = λ never. absurd cc;
          rows_ = before.rows_;
          rests = before.rests;
          swept = begun_swept q is.there idle before.swept;
          stands = stands;
          loading = documents before.loading;
          few = before.few;
        }

-- ---- in the log without questions

module _ (checking passed : ReqId → Bool) (s : Seen) (req : ReqId) (q : Asked) (found : request_of s req ≡ Some q) (numbered : (r : ReqId) → IsNumbered s r) (off : passed req ≡ false) (others : (r : ReqId) → (r.0 == req.0) ≡ false → passed r ≡ checking r) (starts : q.is_started ≡ true) where
  -- a traversal, where none runs
  pub passed_unasked_between : (keep : ℕ) (loads : List ReqId) (waits : Bool) (p : Asked) → IsBetweenChecks keep None loads waits (unasked checking s) → IsToGo (unasked checking s) req p → is_some q.goal ≡ true → AreServed (unasked passed s) → ends_told (unasked passed s) ≡ true → ends_stepped (unasked passed s) ≡ true → LoadsStand (unasked passed s) → IsBetweenChecks keep (Some req) loads false (unasked passed s)
  passed_unasked_between keep loads waits p before is goes =
      subst (λ (t : Seen). AreServed t → ends_told t ≡ true → ends_stepped t ≡ true → LoadsStand t → IsBetweenChecks keep (Some req) loads false t) (sym (passed_unasked checking passed s req q found numbered off others))
      (passed_between (unasked checking s) req q p is keep loads waits before (passed_tab loads [] (unasked checking s) before.tab req p is q starts goes))

  -- what is on its way leads on, whichever request passes
  pub passed_unasked_flows : Flows (unasked checking s) → Flows (unasked passed s)
  passed_unasked_flows are =
      subst Flows (sym (passed_unasked checking passed s req q found numbered off others)) (begun_flows (unasked checking s) req q are)
