-- What goes on from row to row: requests that are there stay, and navigables keep their places.
use Rattle.std.proofs.Common.{◌≡◌, ◌+◌, Bool, true, List, [], ◌∷◌, ◌++◌, length, map, Option, Some, refl, sym, ap, ◌∙◌}
use Rattle.tab_ids.specs.declared.NavId.{NavId}
use Rattle.tab_ids.specs.declared.ReqId.{ReqId}
use Rattle.log_model.specs.declared.request.Request.{Request}
use Rattle.log_model.specs.Seen.{Seen, Asked, Place, request_in}
use Rattle.log_model.specs.Places.{is_traversal}
use Rattle.seen_facts.specs.Hang.Forms.{Form, form_of, forms_of, form_in}
use Rattle.seen_facts.proofs.Hang.Forms.{form_there, place_there}
use Rattle.seen_facts.proofs.Request.Readers.{SameReads}
use Rattle.seen_facts.specs.Each.Moving.{IsMover}
use Rattle.seen_facts.proofs.Each.Courses.{is_asked}
use Rattle.seen_facts.proofs.Each.Earlier.{still_there}
use Rattle.tab_facts.specs.FrameTab.Alive.{HasPlace}
use Rattle.tab_facts.specs.FrameTab.Steady.{IsAskedBy}

-- ---- requests

-- the request is there, asks the same, and has begun if it had
pub record StaysAsked (asked : List Asked) (req : ReqId) (q : Asked) : Type 0 where
  pub new : Asked
  pub there : request_in asked req ≡ Some new
  pub what : new.what ≡ q.what
  pub begun : q.is_started ≡ true → new.is_started ≡ true

abbrev pub AllStayAsked : List Asked → List Asked → Type 0
AllStayAsked asked next = (req : ReqId) (q : Asked) → request_in asked req ≡ Some q → StaysAsked next req q

-- what a request asks, and whether it has begun
pub record Begun : Type 0 where
  pub what : Request
  pub is_started : Bool

abbrev pub begun_of : Asked → Begun
begun_of q = record { what = q.what; is_started = q.is_started }

pub all_same : (asked next : List Asked) → next ≡ asked → AllStayAsked asked next
all_same asked next same req q at =
    record { new = q; there = ap (λ (l : List Asked). request_in l req) same ∙ at; what = refl; begun = λ begun. begun }

pub all_read : (asked next : List Asked) → SameReads begun_of asked next → AllStayAsked asked next
all_read asked next same req q at =
    let now : (p : Asked) × (request_in next req ≡ Some p) × (begun_of p ≡ begun_of q) = is_asked begun_of asked next same req q at in
    record {
      new = now.0;
      there = now.1;
      what = ap (λ (b : Begun). b.what) now.2;
      begun = λ begun. ap (λ (b : Begun). b.is_started) now.2 ∙ begun;
    }

pub all_more : (asked : List Asked) (new : Asked) (req : ReqId) → req.0 ≡ length asked + 1 → AllStayAsked asked (asked ++ new ∷ [])
all_more asked new req nr old q at =
    record { new = q; there = still_there asked new q req old nr at; what = refl; begun = λ begun. begun }

-- who asked is there, and a mover goes on being one
pub asked_by_stays : (asked next : List Asked) (by : Option ReqId) → AllStayAsked asked next → IsAskedBy asked by → IsAskedBy next by
asked_by_stays asked next by stay is =
    let now : StaysAsked next is.req is.q = stay is.req is.q is.there in
    record { req = is.req; is = is.is; q = now.new; there = now.there }

pub mover_stays : (s t : Seen) (before place : Place) → AllStayAsked s.requests t.requests → place.why ≡ before.why → IsMover s before → IsMover t place
mover_stays s t before place stay why m =
    let now : StaysAsked t.requests m.req m.q = stay m.req m.q m.there in
    record {
      req = m.req;
      q = now.new;
      why = why ∙ m.why;
      there = now.there;
      traverses = ap is_traversal now.what ∙ m.traverses;
      begun = now.begun m.begun;
    }

-- ---- places

-- each navigable that has a place keeps it, where all hang as before
pub place_stays : (places next : List Place) (nav : NavId) → forms_of next ≡ forms_of places → HasPlace places nav → HasPlace next nav
place_stays places next nav same has =
    let now = place_there next nav (form_of has.place) (ap (λ (l : List Form). form_in l nav) same ∙ form_there places nav has.place has.found) in
    record { place = now.place; found = now.found }

navs_of_forms : (l : List Place) → map (λ (f : Form). f.nav) (map form_of l) ≡ map (λ (p : Place). p.nav) l
navs_of_forms [] = refl
navs_of_forms (p ∷ l) = ap (λ (navs : List NavId). p.nav ∷ navs) (navs_of_forms l)

-- the navigables that have one are the same
pub navs_stay : (places next : List Place) → forms_of next ≡ forms_of places → map (λ (p : Place). p.nav) next ≡ map (λ (p : Place). p.nav) places
navs_stay places next same = sym (navs_of_forms next) ∙ ap (λ (l : List Form). map (λ (f : Form). f.nav) l) same ∙ navs_of_forms places
