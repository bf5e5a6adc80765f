-- Where a traversal runs, who is awake and was moved by it was shown a document by it: so it is still as an event begins, once its own row was logged.
use Rattle.seen_facts.specs.Asked.Asking.{ArePlain, IsThere}
use Rattle.log_model.specs.Seen.{Asked, Place, Seen, awake, place_in, place_of, request_of}
use Rattle.seen_facts.proofs.Mover.Places.{WasThere, was_there}
use Rattle.std.proofs.Common.{List, None, Option, Some, ap, refl, sym, ◌∙◌, ◌≡◌}
use Rattle.tab_ids.specs.declared.DocId.{DocId}
use Rattle.tab_ids.specs.declared.NavId.{NavId}
use Rattle.tab_ids.specs.declared.ReqId.{ReqId}
use Rattle.tab_ids.specs.declared.StateId.{StateId}
use Rattle.tab_settles.proofs.MovedRows.{shown_back, shown_idle}
use Rattle.tab_settles.specs.Settling.{MovedAreShown}
use Rattle.tab_stands.proofs.Coming.{IsComing}
use Rattle.row_facts.specs.WalkRows.Since.{WasAwake}

module _ (blame : List (StateId × ReqId)) (s n : Seen) (comes : IsComing blame s n) where
  -- who is awake was so
  awake_back : (nav : NavId) (place : Place) (doc : DocId) → place_of n nav ≡ Some place → place.status ≡ awake doc → WasAwake s nav doc
  awake_back nav place doc there wakes =
      let w : WasThere comes.g s.places nav place = was_there comes.g s.places comes.arrives.nav nav place (ap (λ (l : List Place). place_in l nav) (sym comes.places) ∙ there) in
      record { place = w.before; placed = w.found; wakes = sym (ap (λ x. x.status) (comes.arrives.sight w.before)) ∙ ap (λ (p : Place). p.status) w.is ∙ wakes }

  pub moved_coming : (run : Option ReqId) → ArePlain run s → MovedAreShown run s → MovedAreShown run n
  moved_coming None plain shown = shown_idle n
  moved_coming (Some run) plain shown =
      shown_back (Some run) s n awake_back (λ req x is at. as_it_was req x is at) shown
    where
      as_it_was : (req : ReqId) (x : Asked) → (let o : Option ReqId = Some run in o) ≡ Some req → request_of n req ≡ Some x → (q : Asked) × (request_of s req ≡ Some q) × (x.moved ≡ q.moved) × (x.activated ≡ q.activated)
      as_it_was req x is at =
          let it : IsThere s run = plain.runs run refl in
          let one : run ≡ req = cc in
          let found : request_of s req ≡ Some it.q = ap (λ (r : ReqId). request_of s r) (sym one) ∙ it.found in
          let still = comes.asked req it.q found in
          let both : Some still.now ≡ Some x = sym still.at ∙ at in
          let same : still.now ≡ x = cc in
          (it.q, found, ap (λ (y : Asked). y.moved) (sym same) ∙ ap (λ (y : Asked). y.moved) still.same, ap (λ (y : Asked). y.activated) (sym same) ∙ ap (λ (y : Asked). y.activated) still.same)
