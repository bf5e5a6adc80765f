-- Whom an order moves has a place; so what is known of whom requests have moved is kept as it is sent.
use Rattle.seen_facts.proofs.Each.Runs.{each_asked_on}
use Rattle.seen_facts.specs.Each.Runs.{EachAsked}
use Rattle.tab_facts.proofs.Frame.Moves.{ServesNoneToBegin}
use Rattle.tab_facts.proofs.Frame.Parts.{each_read}
use Rattle.tab_facts.proofs.Frame.Placed.{KeepPlaces}
use Rattle.tab_facts.specs.Frame.Lasting.{wish}
use Rattle.tab_facts.specs.Frame.Moving.{AreMoves, Course, IsMadeToGo, IsMovedThere, IsUnmovedYet, course}
use Rattle.tab_facts.specs.FrameTab.Alive.{HasPlace}
use Rattle.seen_facts.proofs.Hang.Forms.{nav_is}
use Rattle.seen_facts.proofs.Hang.Members.{any_has, find_has, has_filter, has_found, has_map}
use Rattle.seen_facts.specs.Hang.Members.{Has}
use Rattle.log_model.proofs.Refl.{nat_eq_refl}
use Rattle.log_model.specs.AfterPlaces.{navs_where, sleepers_below, sleepers_with, woken_below}
use Rattle.log_model.specs.AfterRequests.{on_served}
use Rattle.log_model.specs.Equal.{holds}
use Rattle.log_model.specs.History.{has_nav}
use Rattle.log_model.specs.Places.{is_asleep, is_awake_on, is_below, shower_of}
use Rattle.log_model.specs.Seen.{Asked, Place, Seen, request_in, request_of}
use Rattle.log_model.specs.declared.job.Why.{Why}
use Rattle.seen_facts.proofs.Request.Readers.{SameReads}
use Rattle.std.proofs.Common.{Bool, List, None, Option, Some, [], ap, cond, false, filter, inl, inr, not, refl, subst, sym, true, ◌&&◌, ◌++◌, ◌==◌, ◌||◌, ◌∙◌, ◌∷◌, ◌≡◌, ◌⊎◌}
use Rattle.std.specs.Option.{option_map_or}
use Rattle.tab_ids.specs.declared.DocId.{DocId}
use Rattle.tab_ids.specs.declared.NavId.{NavId}
use Rattle.tab_ids.specs.declared.ReqId.{ReqId}
use Rattle.log_model.specs.declared.job.Why.TheVariants as whys

-- ---- navigables that have places

abbrev pub AllPlaced : List Place → List NavId → Type 0
AllPlaced places navs = (nav : NavId) → has_nav navs nav ≡ true → HasPlace places nav

pub none_placed : (places : List Place) → AllPlaced places []
none_placed places nav has = absurd cc

-- one of the first or of the others
either_nav : (navs others : List NavId) (nav : NavId) → has_nav (navs ++ others) nav ≡ true → (has_nav navs nav ≡ true) ⊎ (has_nav others nav ≡ true)
either_nav [] others nav has = inr has
either_nav (n ∷ navs) others nav has = by_test (n.0 == nav.0) has (either_nav navs others nav)
  where
    by_test : (b : Bool) → (b || has_nav (navs ++ others) nav) ≡ true → (has_nav (navs ++ others) nav ≡ true → (has_nav navs nav ≡ true) ⊎ (has_nav others nav ≡ true)) → ((b || has_nav navs nav) ≡ true) ⊎ (has_nav others nav ≡ true)
    by_test true e more = inl refl
    by_test false e more = more e

pub one_placed : (places : List Place) (first : NavId) (navs : List NavId) → HasPlace places first → AllPlaced places navs → AllPlaced places (first ∷ navs)
one_placed places first navs own others nav has = by_test (first.0 == nav.0) refl has
  where
    by_test : (b : Bool) → (first.0 == nav.0) ≡ b → (b || has_nav navs nav) ≡ true → HasPlace places nav
    by_test true e h = subst (HasPlace places) (nav_is first nav e) own
    by_test false e h = others nav h

place_there : (places : List Place) (place : Place) → Has places place → HasPlace places place.nav
place_there places place has =
    let f = has_found (λ (p : Place). p.nav.0 == place.nav.0) places place has (nat_eq_refl place.nav.0) in
    record { place = f.0; found = f.1 }

where_placed : (test : Place → Bool) (places : List Place) → AllPlaced places (navs_where test places)
where_placed test places nav has =
    let a = any_has (λ (n : NavId). n.0 == nav.0) (navs_where test places) has in
    let x = has_map (λ (p : Place). p.nav) (filter test places) a.it a.there in
    subst (HasPlace places) (x.is ∙ nav_is a.it nav a.passes) (place_there places x.it (has_filter test places x.it x.there).0)

module _ (s : Seen) where
  below_placed : (up : NavId) → AllPlaced s.places (woken_below s up)
  below_placed up = where_placed (λ (place : Place). is_below up place && not (is_asleep place)) s.places

  -- who falls asleep as a document is shown
  pub shown_placed : (doc : DocId) (o : Option Place) → AllPlaced s.places (option_map_or (sleepers_below s doc) o [])
  shown_placed doc None = none_placed s.places
  shown_placed doc (Some place) = by_test (holds (λ (last : DocId). last.0 == doc.0) place.last)
    where
      by_test : (b : Bool) → AllPlaced s.places (let l : List NavId = cond b [] (woken_below s place.nav) in l)
      by_test true = none_placed s.places
      by_test false = below_placed place.nav

  -- and as it is frozen or discarded
  pub slept_placed : (doc : DocId) → AllPlaced s.places (sleepers_with s doc)
  slept_placed doc = by_shower (shower_of s doc) refl
    where
      by_shower : (o : Option Place) → shower_of s doc ≡ o → AllPlaced s.places (option_map_or (λ (place : Place). place.nav ∷ woken_below s place.nav) o [])
      by_shower None e = none_placed s.places
      by_shower (Some place) e =
          one_placed s.places place.nav (woken_below s place.nav) (place_there s.places place (find_has (is_awake_on doc) s.places place e).0) (below_placed place.nav)

-- ---- the request of an order

-- the course of a request that has moved these, too
abbrev pub moved_more : List NavId → Asked → Course
moved_more navs q = record { what = q.what; is_started = q.is_started; moved = navs ++ q.moved }

each_served : (F : Asked → Type 0) (why : Why) (f : Asked → Asked) (asked : List Asked) → ((req : ReqId) (q : Asked) → why ≡ whys.Req req → request_in asked req ≡ Some q → F q → F (f q)) → EachAsked (λ (req : ReqId) (q : Asked). F q) asked → EachAsked (λ (req : ReqId) (q : Asked). F q) (on_served why f asked)
each_served F (whys.Req req) f asked own each =
    each_asked_on (λ (r : ReqId) (q : Asked). F q) (λ (r : ReqId) (q : Asked). F q) asked req f (λ r q apart is. is) (λ q at is. own req q refl at is) each
each_served F (whys.Death death) f asked own each = each
each_served F whys.Evict f asked own each = each
each_served F whys.Start f asked own each = each

-- the order moves nobody, or is for no traversal that is still to begin
abbrev pub MayMove : Seen → Why → List NavId → Type 0
MayMove s why navs = (navs ≡ []) ⊎ ServesNoneToBegin s why

module _ (s : Seen) (why : Why) (navs : List NavId) (may : MayMove s why navs) where
  unmoved_then : (req : ReqId) (q : Asked) → why ≡ whys.Req req → request_of s req ≡ Some q → IsUnmovedYet (course q) → IsUnmovedYet (moved_more navs q)
  unmoved_then req q is_for at unmoved goes unstarted = by_case may
    where
      by_case : MayMove s why navs → navs ++ q.moved ≡ []
      by_case (inl none) = ap (λ (l : List NavId). l ++ q.moved) none ∙ unmoved goes unstarted
      by_case (inr begun) =
          (let never : true ≡ false = sym (begun req q is_for at goes) ∙ unstarted in absurd cc)

  there_then : (places : List Place) → KeepPlaces s.places places → AllPlaced s.places navs → (q : Asked) → IsMovedThere places (course q) → IsMovedThere places (moved_more navs q)
  there_then places keep placed q was nav has = by_case (either_nav navs q.moved nav has)
    where
      by_case : (has_nav navs nav ≡ true) ⊎ (has_nav q.moved nav ≡ true) → HasPlace places nav
      by_case (inl new) = keep nav (placed nav new)
      by_case (inr old) = was nav old

  -- an order adds these to whom its request has moved
  pub served_moves : (t : Seen) (f : Asked → Asked) → ((q : Asked) → course (f q) ≡ moved_more navs q) → AllPlaced s.places navs → t.requests ≡ on_served why f s.requests → SameReads wish s.requests t.requests → KeepPlaces s.places t.places → AreMoves s → AreMoves t
  served_moves t f adds placed requests wishes keep are =
      record {
        unmoved = subst (EachAsked (λ (req : ReqId) (q : Asked). IsUnmovedYet (course q))) (sym requests)
            (each_served (λ (q : Asked). IsUnmovedYet (course q)) why f s.requests (λ req q is_for at is. subst IsUnmovedYet (sym (adds q)) (unmoved_then req q is_for at is)) are.unmoved);
        there = subst (EachAsked (λ (req : ReqId) (q : Asked). IsMovedThere t.places (course q))) (sym requests)
            (each_served (λ (q : Asked). IsMovedThere t.places (course q)) why f s.requests (λ req q is_for at is. subst (IsMovedThere t.places) (sym (adds q)) (there_then t.places keep placed q is)) (λ req q at nav has. keep nav (are.there req q at nav has)));
        goes = each_read wish IsMadeToGo s.requests t.requests wishes are.goes;
      }
