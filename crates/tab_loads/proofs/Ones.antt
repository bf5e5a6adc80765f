-- A row that changes one request alone, which hasn't begun: what documents made may be taken after it as before, and the queue waits on.
use Rattle.std.specs.Prelude.{option_map}
use Rattle.seen_facts.specs.Asked.Asking.{ArePlain}
use Rattle.seen_facts.specs.Home.Homes.{AreHomed, document_in}
use Rattle.log_model.specs.History.{History, has_state}
use Rattle.log_model.specs.Orders.{is_usable}
use Rattle.log_model.specs.Seen.{Asked, Document, Place, Seen, place_in, place_of, request_of}
use Rattle.log_model.specs.declared.job.Why.{Why}
use Rattle.seen_laws.specs.InEvent.{InEvent}
use Rattle.std.proofs.Common.{List, Option, Some, ap, false, inl, sym, ◌∙◌, ◌≡◌}
use Rattle.std.specs.List.{list_any}
use Rattle.tab_ids.specs.declared.NavId.{NavId}
use Rattle.tab_ids.specs.declared.ReqId.{ReqId}
use Rattle.tab_ids.specs.declared.StateId.{StateId}
use Rattle.tab_loads.proofs.Changes.{ChangesOne}
use Rattle.tab_loads.proofs.Leaving.{LeavesMost, taken_but, taking_by}
use Rattle.tab_stands.proofs.PassedOn.{causes_on, live_then, load_back, look_back, may_leave_reads, ready_back, serve_on, unloaded_back, way_same}
use Rattle.tab_stands.specs.PassedOn.{AreBlamed, IsBlamed, IsTaking, LeavesQueue, LoadsLive, MayCause}
use Rattle.log_model.specs.declared.job.Why.TheVariants as whys

module _ (e : InEvent) (run : Option ReqId) (blame : List (StateId × ReqId)) (s n : Seen) (at : IsTaking e run blame s) (plain_s : ArePlain run s) (plain : ArePlain run n) (homes : AreHomed s) (req : ReqId) (q : Asked) (found : request_of s req ≡ Some q) (unstarted : q.is_started ≡ false) (it : ChangesOne s n req) where
  causes_then : (why : Why) → MayCause s why → MayCause n why
  causes_then = causes_on s n run plain it.wishes it.begun

  most : LeavesMost s n
  most =
      record {
        places = it.places;
        history = it.history;
        kept = it.kept;
        aim = it.aim;
        found = λ doc d there. ap (λ (l : List Document). document_in l doc) it.documents ∙ there;
        moves = it.moves;
        moved = it.moved;
        causes = causes_then;
      }

  place_same : (nav : NavId) → place_of n nav ≡ place_of s nav
  place_same nav = ap (λ (l : List Place). place_in l nav) it.places

  -- the same documents are stray
  blamed : AreBlamed n blame
  blamed doc state stray =
      by_old (at.blamed doc state (record {
        document = stray.document;
        found = ap (λ (l : List Document). document_in l doc) (sym it.documents) ∙ stray.found;
        its_state = stray.its_state;
        ready = stray.ready;
        undiscarded = stray.undiscarded;
        bare = ap (λ (h : History). has_state state h.rows) (sym it.history) ∙ stray.bare;
        unloaded = unloaded_back s n req q found unstarted it.other it.starts stray.document state stray.its_state stray.unloaded;
      }))
    where
      by_old : IsBlamed s blame doc state → IsBlamed n blame doc state
      by_old was =
          record {
            req = was.req;
            noted = was.noted;
            may = serve_on s n was.req causes_then was.may;
            moves = λ nav place other under placed wakes there is. it.moved (whys.Req was.req) other (was.moves nav place other under (sym (place_same nav) ∙ placed) wakes (sym (place_same other) ∙ there) is);
            leaves = λ nav place placed wakes. may_leave_reads s n was.req nav (serve_on s n was.req causes_then was.may) (it.whats was.req) (it.starts was.req) (way_same s n nav (ap (option_map (λ (x : Place). x.above)) (place_same nav))) (was.leaves nav place (sym (place_same nav) ∙ placed) wakes);
          }

  live : LoadsLive n
  live =
      live_then s n (look_back s n req q found unstarted it.other it.starts)
      (λ nav doc was. record { place = was.place; placed = place_same nav ∙ was.placed; wakes = was.wakes })
      (λ state is one. record { doc = one.doc; d = one.d; found = ap (λ (l : List Document). document_in l one.doc) it.documents ∙ one.found; of_state = one.of_state; there = one.there }) at.live

  pub one_taking : IsTaking e run blame n
  one_taking =
      taking_by e run s n (taken_but e run blame s at) plain_s plain homes most (λ r nav its. inl (load_back s n req q found unstarted it.other it.starts r nav its)) blame blamed live

  pub one_leaves : LeavesQueue s n
  one_leaves =
      record {
        joined = it.joined;
        whats = it.whats;
        ready = ready_back s n req q found unstarted it.other it.starts (λ state. ap (λ (l : List Document). list_any (λ (d : Document). is_usable d state) l) it.documents);
      }
