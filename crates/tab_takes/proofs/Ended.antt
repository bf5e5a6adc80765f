-- A row that ends one request, which hasn't begun: ongoing loads, ready ones among them, are as they were.
use Rattle.seen_facts.specs.Load.Loading.{Look, is_ongoing, look, look_of}
use Rattle.log_model.specs.ActsAtOnce.{has_document}
use Rattle.log_model.specs.Equal.{holds}
use Rattle.log_model.specs.Orders.{is_usable, ongoing_load}
use Rattle.log_model.specs.Places.{is_load, is_ongoing_load}
use Rattle.log_model.specs.Seen.{Asked, Document, Seen, request_in, request_of}
use Rattle.row_facts.proofs.Owed.Requests.{req_same}
use Rattle.seen_facts.proofs.Request.Readers.{SameReads}
use Rattle.seen_facts.specs.Rest.Between.{IsOfLoad}
use Rattle.std.proofs.Common.{Bool, None, Option, Some, ap, false, refl, sym, true, ◌&&◌, ◌==◌, ◌∙◌, ◌≡◌}
use Rattle.std.proofs.lemmas.Bool.{and_parts}
use Rattle.std.specs.List.{list_any}
use Rattle.std.specs.Prelude.{is_none, option_map}
use Rattle.tab_rests.specs.PassedOn.{IsLoadOf, IsReadyLoadOf}
use Rattle.tab_ids.specs.declared.NavId.{NavId}
use Rattle.tab_ids.specs.declared.ReqId.{ReqId}
use Rattle.tab_ids.specs.declared.StateId.{StateId}
use Rattle.tab_rests.proofs.PassedOn.{loaded_never, of_load}

module _ (s n : Seen) (req : ReqId) (q : Asked) (at : request_of s req ≡ Some q) (unstarted : q.is_started ≡ false) (other : (r : ReqId) → (r.0 == req.0) ≡ false → request_of n r ≡ request_of s r) (starts : SameReads (λ (x : Asked). x.is_started) s.requests n.requests) where
  -- it is no ongoing load, before and then
  idle : (l : Look) → l.is_started ≡ false → is_ongoing l ≡ true → ⊥
  idle l none on =
      let under_way : (l.is_started && is_none l.ending) ≡ true = (and_parts (l.is_started && is_none l.ending) (is_load l.what) on).0 in
      let never : false ≡ true = sym none ∙ (and_parts l.is_started (is_none l.ending) under_way).0 in
      cc

  own_was : (l : Look) → look_of s req ≡ Some l → l.is_started ≡ false
  own_was l is =
      let two : Some (look q) ≡ Some l = sym (ap (option_map look) at) ∙ is in
      let one : look q ≡ l = cc in
      ap (λ (x : Look). x.is_started) (sym one) ∙ unstarted

  own_then : (l : Look) → look_of n req ≡ Some l → l.is_started ≡ false
  own_then l is = by_found (request_in n.requests req) refl
    where
      by_found : (o : Option Asked) → request_in n.requests req ≡ o → l.is_started ≡ false
      by_found None none = let never : None ≡ Some l = sym (ap (option_map look) none) ∙ is in absurd cc
      by_found (Some x) found =
          let two : Some x.is_started ≡ Some q.is_started = sym (ap (option_map (λ (y : Asked). y.is_started)) found) ∙ starts req ∙ ap (option_map (λ (y : Asked). y.is_started)) at in
          let same : x.is_started ≡ q.is_started = cc in
          let looks : Some (look x) ≡ Some l = sym (ap (option_map look) found) ∙ is in
          let one : look x ≡ l = cc in
          ap (λ (y : Look). y.is_started) (sym one) ∙ same ∙ unstarted

  pub look_back : (r : ReqId) (l : Look) → look_of n r ≡ Some l → is_ongoing l ≡ true → look_of s r ≡ Some l
  look_back r l is on = by_own (r.0 == req.0) refl
    where
      by_own : (b : Bool) → (r.0 == req.0) ≡ b → look_of s r ≡ Some l
      by_own true same = absurd (idle l (own_then l (ap (λ (x : ReqId). look_of n x) (sym (req_same r req same)) ∙ is)) on)
      by_own false apart = ap (option_map look) (sym (other r apart)) ∙ is

  pub look_on : (r : ReqId) (l : Look) → look_of s r ≡ Some l → is_ongoing l ≡ true → look_of n r ≡ Some l
  look_on r l is on = by_own (r.0 == req.0) refl
    where
      by_own : (b : Bool) → (r.0 == req.0) ≡ b → look_of n r ≡ Some l
      by_own true same = absurd (idle l (own_was l (ap (λ (x : ReqId). look_of s x) (sym (req_same r req same)) ∙ is)) on)
      by_own false apart = ap (option_map look) (other r apart) ∙ is

  pub load_back : (r : ReqId) (nav : NavId) → IsLoadOf n r nav → IsLoadOf s r nav
  load_back r nav its = record { look = its.look; at = look_back r its.look its.at its.ongoing; ongoing = its.ongoing; loads_it = its.loads_it }

  -- the state of a document is no ongoing load's, where it isn't then
  pub unloaded_back : (d : Document) (state : StateId) → d.state ≡ state → ongoing_load n state ≡ None → ongoing_load s state ≡ None
  unloaded_back d state its none = by_load (ongoing_load s state) refl
    where
      by_look : (of : IsOfLoad s d) → (o : Option Asked) → request_in n.requests of.req ≡ o → option_map look o ≡ Some (look of.q) → ⊥
      by_look of None missing same = let never : None ≡ Some (look of.q) = same in cc
      by_look of (Some r) there same =
          let one : look r ≡ look of.q = cc in
          loaded_never n state none of.req r d.state there (ap is_ongoing one ∙ of.ongoing) (ap (λ (l : Look). l.state) one ∙ of.own) (ap (λ (x : StateId). x.0) its)

      loaded : (x : Asked) → ongoing_load s state ≡ Some x → ⊥
      loaded x is =
          let of : IsOfLoad s d = of_load s d x (ap (λ (y : StateId). ongoing_load s y) its ∙ is) in
          by_look of (request_in n.requests of.req) refl (look_on of.req (look of.q) (ap (option_map look) of.found) of.ongoing)

      by_load : (o : Option Asked) → ongoing_load s state ≡ o → ongoing_load s state ≡ None
      by_load None is = is
      by_load (Some x) is = absurd (loaded x is)

  -- ---- those that are ready

  module _ (usable : (state : StateId) → list_any (λ (d : Document). is_usable d state) n.documents ≡ list_any (λ (d : Document). is_usable d state) s.documents) where
    document_same : (x : Asked) → has_document n x ≡ has_document s x
    document_same x = by_state x.state
      where
        by_state : (o : Option StateId) → holds (λ (state : StateId). list_any (λ (d : Document). is_usable d state) n.documents) o ≡ holds (λ (state : StateId). list_any (λ (d : Document). is_usable d state) s.documents) o
        by_state None = refl
        by_state (Some state) = usable state

    pub ready_back : (r : ReqId) (nav : NavId) → IsReadyLoadOf n r nav → IsReadyLoadOf s r nav
    ready_back r nav its = by_own (r.0 == req.0) refl
      where
        parts : (is_ongoing_load its.q ≡ true) × (has_document n its.q ≡ true)
        parts = and_parts (is_ongoing_load its.q) (has_document n its.q) its.ready

        by_own : (b : Bool) → (r.0 == req.0) ≡ b → IsReadyLoadOf s r nav
        by_own true same =
            absurd (idle (look its.q) (own_then (look its.q) (ap (λ (x : ReqId). look_of n x) (sym (req_same r req same)) ∙ ap (option_map look) its.at)) parts.0)
        by_own false apart =
            record {
              q = its.q;
              at = sym (other r apart) ∙ its.at;
              ready = (let document : has_document s its.q ≡ true = sym (document_same its.q) ∙ parts.1 in rw (parts.0, document) refl);
              its = its.its;
            }
