-- What callers can give: that no ongoing load was held back as the event began, that the navigable of each has a place, and that it stands, has no entry or is in need where all stand.
use Rattle.seen_facts.specs.LoadEnds.Standing.{LoadsStand, is_reached}
use Rattle.seen_facts.proofs.Coord.Unread.{next}
use Rattle.log_model.specs.After.{changed, has_stood_after, has_stood_now, is_new_step}
use Rattle.log_model.specs.AfterRequests.{entries_taken, on_request}
use Rattle.log_model.specs.Causes.{nav_of_change}
use Rattle.log_model.specs.declared.change.Change.{Change}
use Rattle.log_model.specs.declared.request.Request.{Request}
use Rattle.log_model.specs.declared.row_kind.Actor.{Actor}
use Rattle.seen_facts.proofs.Request.LookUps.{on_itself}
use Rattle.row_facts.proofs.WalkRows.Needs.{need_not_all_stand}
use Rattle.row_facts.specs.WalkRows.Since.{IsVisitedInNeed}
use Rattle.log_model.specs.Equal.{has_req, holds}
use Rattle.log_model.specs.Places.{aim_of, all_stand, is_load, is_ongoing_load, is_reload}
use Rattle.log_model.specs.Points.{nav_of_request}
use Rattle.log_model.specs.Seen.{Asked, Place, Seen, place_of, request_of}
use Rattle.seen_facts.specs.Hang.Members.{Has}
use Rattle.seen_facts.proofs.Rest.Stands.{request_has}
use Rattle.seen_laws.specs.InEvent.{now_of}
use Rattle.std.proofs.Common.{Bool, List, Option, Some, [], ap, false, inl, inr, not, refl, sym, true, ◌||◌, ◌∙◌, ◌∷◌, ◌≡◌, ◌⊎◌, ℕ}
use Rattle.std.proofs.lemmas.Bool.{and_parts, or_right}
use Rattle.std.specs.List.{list_all}
use Rattle.std.specs.Prelude.{option_map}
use Rattle.tab_doors.proofs.Uncut.{uncut_held}
use Rattle.tab_doors.specs.declared.tables.Tables.{Tables}
use Rattle.tab_drops.proofs.Drops.{unheld}
use Rattle.tab_drops.proofs.Loads.{IsAskedFor, IsNavLoad, asked_for, nav_load}
use Rattle.tab_drops.specs.Dropping.{ArePlaced, AreUnheld, IsBare, IsLoadApplied, IsLoadOf, IsUnsettled, StandOrBare, StandOrMove}
use Rattle.tab_ids.specs.declared.NavId.{NavId}
use Rattle.tab_ids.specs.declared.ReqId.{ReqId}
use Rattle.tab_moves.specs.PassedOn.{IsPassingIn, IsTab}
use Rattle.tab_moves.specs.Moving.{InPass}
use Rattle.seen_facts.specs.Doc.Docs.{HasPlace}
use Rattle.log_model.specs.declared.made.Made.{Made}
use Rattle.log_model.specs.declared.outcome.Ending.TheVariants as endings
use Rattle.log_model.specs.declared.row_kind.RowKind.TheVariants as rows
pub use Rattle.tab_drops.proofs.Spans.{unheld_on}

-- as the event begins
pub unheld_first : {sweeps : Bool} (p : InPass) (t : Tables) → p.event.before ≡ [] → IsPassingIn sweeps p [] t → AreUnheld p.event (now_of p.event [])
unheld_first p t uncut pass req nav load =
    ap (λ (l : List ReqId). has_req l req) (sym (uncut_held p.event uncut)) ∙ (unheld p [] t pass req nav load).parked

-- one of several that pass a test
all_has : {A : Type 0} (test : A → Bool) (xs : List A) (x : A) → list_all test xs ≡ true → Has xs x → test x ≡ true
all_has test [] x all there = absurd there
all_has test (y ∷ xs) x all (inl same) = ap test (sym same) ∙ (and_parts (test y) (list_all test xs) all).0
all_has test (y ∷ xs) x all (inr more) = all_has test xs x (and_parts (test y) (list_all test xs) all).1 more

-- where all ongoing loads stand, the navigable of each does, with all above it
pub stand_reached : (s : Seen) → LoadsStand s → (req : ReqId) (nav : NavId) → IsLoadOf s req nav → is_reached s nav ≡ true
stand_reached s stand req nav load = sym value ∙ one
  where
    its : IsAskedFor s req nav
    its = asked_for s req nav load

    one : (not (is_ongoing_load its.q) || holds (λ (n : NavId). is_reached s n) (nav_of_request its.q.what)) ≡ true
    one =
        all_has (λ (q : Asked). not (is_ongoing_load q) || holds (λ (n : NavId). is_reached s n) (nav_of_request q.what)) s.requests its.q stand (request_has s.requests req its.q its.at)

    value : (not (is_ongoing_load its.q) || holds (λ (n : NavId). is_reached s n) (nav_of_request its.q.what)) ≡ is_reached s nav
    value =
        ap (λ (b : Bool). not b || holds (λ (n : NavId). is_reached s n) (nav_of_request its.q.what)) its.ongoing
        ∙ ap (λ (w : Request). holds (λ (n : NavId). is_reached s n) (nav_of_request w)) its.what

-- so each stands, or has no entry, or is in need
pub stand_bare : (s : Seen) → LoadsStand s → StandOrBare s
stand_bare s stand req nav load = inl (stand_reached s stand req nav load)

pub bare_move : (s : Seen) → StandOrBare s → StandOrMove s
bare_move s stand req nav load = by_case (stand req nav load)
  where
    by_case : (is_reached s nav ≡ true) ⊎ IsBare s nav → (is_reached s nav ≡ true) ⊎ (IsUnsettled s nav ⊎ IsBare s nav)
    by_case (inl reached) = inl reached
    by_case (inr bare) = inr (inr bare)

-- the navigable of each ongoing load has a place
pub tab_placed : (run : Option ReqId) (loads : List ReqId) (hand : List Made) (s : Seen) → IsTab run loads hand s → ArePlaced s
tab_placed run loads hand s tab req nav load =
    let its : IsNavLoad nav load.look.what = nav_load nav load.look.what load.loads_it in
    let place : HasPlace s.places nav = tab.shown.placed req load.look nav its.mode its.address load.at load.ongoing its.is in
    (place.place, place.found)

-- ---- right after a load was applied

-- not all have stood since, where they hadn't and don't now
stood_now : (b : Bool) (t : Seen) → b ≡ false → all_stand t t.history.current ≡ false → has_stood_now b t ≡ false
stood_now true t never is = absurd cc
stood_now false t never is = is

module _ (s : Seen) (event : ℕ) (actor : Actor) (req : ReqId) (nav : NavId) (change : Change) (q : Asked) (at : request_of s req ≡ Some q) (load : is_load q.what ≡ true) (began : q.is_started ≡ true) (of_it : nav_of_change change ≡ Some nav) where
  abbrev then_ : Seen
  then_ = next s event actor (rows.Applied req change)

  abbrev end_it : Asked → Asked
  end_it x = record x { ending = Some endings.Applied }

  abbrev change_it : Asked → Asked
  change_it x = record x { change = Some change }

  abbrev take_it : Asked → Asked
  take_it x = record x { took = entries_taken s.history change }

  found : request_of then_ req ≡ Some (take_it (change_it (end_it q)))
  found =
      on_itself (on_request req change_it (on_request req end_it s.requests)) req take_it
      ∙ ap (λ (o : Option Asked). option_map take_it o) (on_itself (on_request req end_it s.requests) req change_it ∙ ap (λ (o : Option Asked). option_map change_it o) (on_itself s.requests req end_it ∙ ap (λ (o : Option Asked). option_map end_it o) at))

  new_step : is_new_step s req ≡ true
  new_step = rw at (rw (load, began) (or_right (is_reload q.what) true refl))

  -- its navigable is in need, and no traversal runs
  pub load_applied : (place : Place) → place_of then_ nav ≡ Some place → IsVisitedInNeed then_ place → aim_of then_ ≡ then_.history.current → IsLoadApplied then_ nav req
  load_applied place placed need aim =
      record {
        mover = take_it (change_it (end_it q));
        found = found;
        change = change;
        changed = refl;
        its = of_it;
        last = rw new_step refl;
        unstood = unstood;
        place = place;
        placed = placed;
        need = need;
      }
    where
      off : all_stand then_ then_.history.current ≡ false
      off = ap (all_stand then_) (sym aim) ∙ need_not_all_stand then_ nav place placed need

      unstood : then_.has_stood ≡ false
      unstood = stood_now (has_stood_after s (rows.Applied req change)) (changed s (record { event = event; actor = actor; row = rows.Applied req change })) (rw new_step refl) off
