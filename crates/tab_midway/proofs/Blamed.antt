-- A traversal begins in a log as another one began: a request is noted for each stray document as before, and whoever is awake on it is moved by that one, and may be left for it.
use Rattle.checking_facts.proofs.Grown.{req_same}
use Rattle.log_model.specs.Seen.{Asked, Seen, request_of}
use Rattle.log_model.specs.declared.job.Why.TheVariants as whys
use Rattle.seen_facts.proofs.Coord.Held.{on_else}
use Rattle.seen_facts.specs.Asked.Asking.{ArePlain}
use Rattle.seen_facts.specs.Mover.Movers.{IsMovedBy}
use Rattle.std.proofs.Common.{Bool, List, Option, Some, ap, false, inl, inr, refl, subst, sym, true, ◌==◌, ◌∙◌, ◌≡◌, ◌⊎◌}
use Rattle.tab_facts.proofs.TabWhole.Beginning.{IsToGo}
use Rattle.tab_ids.specs.declared.DocId.{DocId}
use Rattle.tab_ids.specs.declared.NavId.{NavId}
use Rattle.tab_ids.specs.declared.ReqId.{ReqId}
use Rattle.tab_ids.specs.declared.StateId.{StateId}
use Rattle.tab_passed.proofs.Begun as begun
use Rattle.tab_passes.specs.Causes.{MayServe}
use Rattle.tab_sweeps.proofs.Loads.{loaded_never, unloaded_by}
use Rattle.tab_sweeps.specs.Sweeping.{AreBlamed, IsBlamed, IsOverNav, IsStray, MayLeaveNav, NeverBegins}
use Rattle.unasked.proofs.Passings.{begun_as}
use Rattle.unasked_tab.proofs.Begun.{with_begun}

module _ (s : Seen) (req : ReqId) (p : Asked) (is : IsToGo s req p) (unstarted : p.is_started ≡ false) (b : Asked) (starts : b.is_started ≡ true) (run : Option ReqId) (plain : ArePlain run (with_begun s req b)) where
  abbrev n : Seen
  n = with_begun s req b

  -- the state of no document is that of an ongoing load, where it isn't then
  stray_was : (doc : DocId) (state : StateId) → IsStray n doc state → IsStray s doc state
  stray_was doc state stray =
      record {
        document = stray.document;
        found = stray.found;
        its_state = stray.its_state;
        ready = stray.ready;
        undiscarded = stray.undiscarded;
        bare = stray.bare;
        unloaded = unloaded_by s state (λ r q own at on its same. loaded_never n state stray.unloaded r q own (begun.ongoing_now s req p is b starts r q at on) on its same);
      }

  -- no order was for the traversal before it began, so another request is noted
  other : (r : ReqId) → MayServe s r → (r.0 == req.0) ≡ false
  other r may = by_number (r.0 == req.0) refl
    where
      by_number : (c : Bool) → (r.0 == req.0) ≡ c → c ≡ false
      by_number false apart = refl
      by_number true same =
          let found : request_of s r ≡ Some p = ap (request_of s) (req_same r req same) ∙ is.there in
          let never : false ≡ true = sym unstarted ∙ (may.begun p found).traverses is.goes in
          absurd cc

  same_other : (r : ReqId) → MayServe s r → request_of n r ≡ request_of s r
  same_other r may = on_else s.requests req (begun_as b) r (other r may)

  -- which moves whom it moved
  moved_still : (r : ReqId) → MayServe s r → (nav : NavId) → IsMovedBy s (whys.Req r) nav → IsMovedBy n (whys.Req r) nav
  moved_still r may nav moved =
      let one : r ≡ moved.req = (let both : whys.Req r ≡ whys.Req moved.req = moved.why in cc) in
      record {
        req = moved.req;
        q = moved.q;
        why = moved.why;
        there = ap (request_of n) (sym one) ∙ same_other r may ∙ ap (request_of s) one ∙ moved.there;
        moves = moved.moves;
      }

  -- and leaves whom it might leave
  leaves_still : (r : ReqId) → MayServe s r → (nav : NavId) → MayLeaveNav s r nav → MayLeaveNav n r nav
  leaves_still r may nav leaves =
      record { q = leaves.q; found = same_other r may ∙ leaves.found; how = by_how leaves.how }
    where
      by_how : NeverBegins leaves.q ⊎ IsOverNav s leaves.q nav → NeverBegins leaves.q ⊎ IsOverNav n leaves.q nav
      by_how (inl never) = inl never
      by_how (inr over) = inr (record { at = over.at; leaves = over.leaves; above = over.above })

  blamed_still : (blame : List (StateId × ReqId)) (doc : DocId) (state : StateId) → IsBlamed s blame doc state → IsBlamed n blame doc state
  blamed_still blame doc state its =
      record {
        req = its.req;
        noted = its.noted;
        may = begun.causes s req p is b starts run plain (whys.Req its.req) (λ r same. (let one : its.req ≡ r = cc in may_of r one)) its.req refl;
        moves = λ nav place there under placed wakes at is_. moved_still its.req its.may there (its.moves nav place there under placed wakes at is_);
        leaves = λ nav place placed wakes. leaves_still its.req its.may nav (its.leaves nav place placed wakes);
      }
    where
      may_of : (r : ReqId) → its.req ≡ r → MayServe s r
      may_of r one = subst (MayServe s) one its.may

  pub blamed_then : (blame : List (StateId × ReqId)) → AreBlamed s blame → AreBlamed (with_begun s req b) blame
  blamed_then blame each doc state stray = blamed_still blame doc state (each doc state (stray_was doc state stray))
