-- An order to a document that is made goes to the process in which the document lives, in the incarnation that lives.
-- This project's own.
use Rattle.seen_facts.proofs.Coord.Kept.{IsSentHome}
use Rattle.seen_facts.proofs.Desk.Orders as desk_orders
use Rattle.seen_facts.specs.Doc.Docs.{HasPlace}
use Rattle.seen_facts.specs.Home.Homes.{IsAtHome}
use Rattle.log_model.specs.Seen.{Document, Place, Seen, awake, desk_of, document_of, place_of}
use Rattle.log_model.specs.declared.job.Job.{Job}
use Rattle.log_model.specs.declared.made.Made.{Made}
use Rattle.seen_laws.proofs.Keyed.{find_has}
use Rattle.std.proofs.Common.{List, Option, Some, ap, length, sym, true, ℕ, ◌∙◌, ◌≡◌}
use Rattle.tab_ids.specs.declared.Death.{Death}
use Rattle.tab_ids.specs.declared.NavId.{NavId}
use Rattle.tab_ids.specs.declared.ReqId.{ReqId}
use Rattle.tab_facts.specs.TabWhole.Tab.{IsTab}

pub some_same : {A : Type 0} {a b : A} → (let o : Option A = Some a in o) ≡ Some b → a ≡ b
some_same e = cc

-- the order is to a document that is there and made, where it lives, in the first incarnation
pub record IsToMade (s : Seen) (job : Job) (d : Document) : Type 0 where
  pub found : document_of s job.doc ≡ Some d
  pub ready : d.is_ready ≡ true
  pub home : d.proc ≡ job.proc
  pub first : job.incarnation ≡ 0

-- the number of a place that is found
pub nav_of_place : (s : Seen) (nav : NavId) (place : Place) → place_of s nav ≡ Some place → place.nav ≡ nav
nav_of_place s nav place placed =
    ap (λ (n : ℕ). let x : NavId = record { 0 = n } in x) (find_has (λ (x : Place). x.nav.0) nav.0 s.places place placed)

module _ (run : Option ReqId) (loads : List ReqId) (hand : List Made) (s : Seen) (tab : IsTab run loads hand s) (job : Job) where
  -- the first incarnation is the one that lives
  pub lives_first : job.incarnation ≡ 0 → job.incarnation ≡ length (desk_of s job.proc).killed
  lives_first first = first ∙ sym (ap (λ (l : List Death). length l) (tab.asked.died job.proc).1)

  pub sent_home : (d : Document) → IsToMade s job d → IsSentHome s job
  sent_home d to =
      record {
        lives = lives_first to.first;
        home = λ x found. ap (λ (y : Document). y.proc) (some_same (sym found ∙ to.found)) ∙ to.home;
      }

  pub ordered_home : (d : Document) → IsToMade s job d → desk_orders.IsSentHome s job
  ordered_home d to =
      let its : HasPlace s.places d.nav = (tab.docs.each job.doc d to.found).placed in
      record {
        d = d;
        found = to.found;
        home = to.home;
        ready = to.ready;
        place = its.place;
        placed = its.found;
        incarnation = to.first;
      }

  -- the document of an awake navigable is made
  pub to_awake : (nav : NavId) (place : Place) (d : Document) → place_of s nav ≡ Some place → place.status ≡ awake job.doc → document_of s job.doc ≡ Some d → d.proc ≡ job.proc → job.incarnation ≡ 0 → IsToMade s job d
  to_awake nav place d placed wakes found home first =
      let at : IsAtHome s.documents place.nav job.doc = (tab.homes.homed nav place job.doc placed wakes).home in
      record {
        found = found;
        ready = ap (λ (x : Document). x.is_ready) (some_same (sym found ∙ at.found)) ∙ at.ready;
        home = home;
        first = first;
      }
