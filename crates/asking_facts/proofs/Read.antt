-- That a request may begin is read off what the log would have come to had nobody been asked.
use Rattle.std.proofs.Common.{◌≡◌, ℕ, Bool, true, false, List, [], Option, Some, None, refl, sym, ap, ◌∙◌, subst}
use Rattle.std.specs.List.{list_all}
use Rattle.tab_ids.specs.declared.NavId.{NavId}
use Rattle.tab_ids.specs.declared.ReqId.{ReqId}
use Rattle.tab_ids.specs.declared.Step.{Step}
use Rattle.log_model.specs.declared.request.Mode.{Mode}
use Rattle.log_model.specs.Once.{delta_of}
use Rattle.log_model.specs.Orders.{Question, due_questions}
use Rattle.log_model.specs.Places.{aim_of, is_placed, way_to}
use Rattle.log_model.specs.Points.{is_accepted_here}
use Rattle.log_model.specs.Seen.{Asked, Seen, place_of, request_of}
use Rattle.seen_laws.specs.Blocks.{Here, point_at}
use Rattle.seen_laws.specs.Unasked.{unasked, unasked_request, without_asks}
use Rattle.row_facts.specs.LoadRows.Beginning.{is_to_fragment}
use Rattle.unasked.proofs.Readings.{checked_off, found_from}
use Rattle.unasked_dues.proofs.Base.{aim_same, turn_same}
use Rattle.unasked_dues.proofs.Dues.{part_of}
use Rattle.unasked_dues.specs.Checking.{AreNumbered, IsAimed, NoStepChecks}
use Rattle.asking_facts.specs.Asking.{BeginsToAsk, IsLoadOf, IsTurnOf, NoneAskedEarly}

-- the request as the log has it
pub record IsReadOf (checking : ReqId → Bool) (s : Seen) (req : ReqId) (goal : Option Step) (questions : List Question) (bare : Asked) : Type 0 where
  pub q : Asked
  pub begins : BeginsToAsk s req goal questions q
  pub same : bare ≡ unasked_request checking q

module _ (checking : ReqId → Bool) (s : Seen) where
  -- one that hasn't begun, isn't in its check and asks these
  pub begins_read : AreNumbered s → NoneAskedEarly s → (req : ReqId) (goal : Option Step) (questions : List Question) (bare : Asked) → request_of (unasked checking s) req ≡ Some bare → checking req ≡ false → bare.is_started ≡ false → bare.ending ≡ None → ((q : Asked) → request_of s req ≡ Some q → due_questions s q.what goal ≡ questions) → IsReadOf checking s req goal questions bare
  begins_read numbered early req goal questions bare there off unstarted open_ due =
      let from = found_from checking s req bare there in
      let is : bare ≡ without_asks from.0 = from.2 ∙ checked_off checking from.0 (ap checking (numbered req from.0 from.1) ∙ off) in
      let unstarted_ : from.0.is_started ≡ false = ap (λ (x : Asked). x.is_started) (sym is) ∙ unstarted in
      record {
        q = from.0;
        begins = record {
          at = from.1;
          unstarted = unstarted_;
          open_ = ap (λ (x : Asked). x.ending) (sym is) ∙ open_;
          unasked = early req from.0 from.1 unstarted_;
          due = due from.0 from.1;
        };
        same = from.2;
      }

  -- a traversal begins in its turn, where no step is in its check
  pub turn_read : AreNumbered s → NoStepChecks checking s → (req : ReqId) (goal : Step) (q bare : Asked) → bare ≡ unasked_request checking q → IsTurnOf (unasked checking s) req goal bare → IsTurnOf s req goal q
  turn_read numbered none req goal q bare is its =
      record {
        delta = its.delta;
        asks = ap delta_of (sym (part_of checking (λ (x : Asked). x.what) (λ x. refl) (λ x. refl) q bare is)) ∙ its.asks;
        there = its.there;
        turn = sym (turn_same checking s numbered none req) ∙ its.turn;
      }

-- a load
pub load_read : (checking : ReqId → Bool) (h u : Here) → u.now ≡ unasked checking h.now → IsAimed checking h.now → (req : ReqId) (nav : NavId) (mode : Mode) (address : List ℕ) (q bare : Asked) → bare ≡ unasked_request checking q → is_accepted_here (point_at h []) req ≡ true → IsLoadOf u req nav mode address bare → IsLoadOf h req nav mode address q
load_read checking h u now_is aimed req nav mode address q bare is accepted its =
    record {
      number = sym (part_of checking (λ (x : Asked). x.nr) (λ x. refl) (λ x. refl) q bare is) ∙ its.number;
      what = sym (part_of checking (λ (x : Asked). x.what) (λ x. refl) (λ x. refl) q bare is) ∙ its.what;
      accepted = accepted;
      placed = ap (λ step. list_all (is_placed h.now step) (way_to h.now nav)) (sym (aim_same checking h.now aimed)) ∙ subst (λ (x : Seen). list_all (is_placed x (aim_of x)) (way_to x nav) ≡ true) now_is its.placed;
      place = its.place;
      there = subst (λ (x : Seen). place_of x nav ≡ Some its.place) now_is its.there;
      anew = subst (λ (x : Seen). is_to_fragment x address its.place ≡ false) now_is its.anew;
    }
