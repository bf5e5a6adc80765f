-- One request begins, as another one began, and nothing else changes: what stays of requests, loads and navigables that were moved.
use Rattle.std.proofs.Common.{◌≡◌, Bool, true, false, ◌==◌, List, Option, Some, refl, sym, ap, ◌∙◌}
use Rattle.std.specs.Prelude.{option_map}
use Rattle.tab_ids.specs.declared.ReqId.{ReqId}
use Rattle.log_model.specs.Places.{has_passed}
use Rattle.log_model.specs.Seen.{Asked, Seen, request_in, request_of}
use Rattle.log_model.specs.AfterRequests.{on_request}
use Rattle.seen_facts.specs.Asked.Asking.{HavePassed}
use Rattle.seen_facts.specs.Load.Loading.{AreLoading, IsLoading, Look, look, look_of}
use Rattle.seen_facts.specs.Mover.Movers.{AreMovers}
use Rattle.seen_facts.proofs.Coord.Held.{on_else}
use Rattle.seen_facts.proofs.Each.Runs.{each_asked_on}
use Rattle.seen_facts.proofs.Load.Rows.{KeepLooks, req_same}
use Rattle.seen_facts.proofs.Mover.Asked.{Follows, on_follows}
use Rattle.seen_facts.proofs.Mover.Places.{same_places}
use Rattle.seen_facts.proofs.Mover.Rows.{quietly_follow}
use Rattle.seen_facts.proofs.Request.LookUps.{on_itself}
use Rattle.seen_facts.proofs.Request.Readers.{on_read}
use Rattle.tab_facts.specs.Shown.Shown.{LoadsArePlaced}
use Rattle.unasked.proofs.Passings.{begun_as}
use Rattle.unasked_tab.proofs.Alike.{AreAlike, but_begun}

-- what two options have is the same, if they are
pub some_same : {A : Type 0} {a b : A} → (let o : Option A = Some a in o) ≡ Some b → a ≡ b
some_same e = cc

module _ (s : Seen) (req : ReqId) (b : Asked) where
  -- the requests, as this one begins as that one did
  abbrev pub begun : List Asked
  begun = on_request req (begun_as b) s.requests

  -- the log with them
  abbrev pub with_begun : Seen
  with_begun = record s { requests = begun }

  -- they are the same but for how they began
  pub begun_alike : AreAlike s.requests begun
  begun_alike = on_read but_begun s.requests req (begun_as b) (λ q. refl)

  -- each has passed its check, if it had
  pub begun_passed : HavePassed s → HavePassed with_begun
  begun_passed each =
      each_asked_on (λ r q. has_passed s q ≡ true) (λ r q. has_passed s q ≡ true) s.requests req (begun_as b) (λ r q apart is. is) (λ q at is. is) each

  -- it is what became of the request
  begun_follows : b.is_started ≡ true → (q : Asked) → Follows q (begun_as b q)
  begun_follows starts q =
      record {
        on = record { what = refl; begun = λ e. starts; change = λ c e. e; took = λ test e. e };
        ends = λ r is. record { nr = is.nr; unchanged = is.unchanged; untaken = is.untaken };
      }

  -- who moved each navigable still did
  pub begun_movers : b.is_started ≡ true → AreMovers s → AreMovers with_begun
  begun_movers starts are =
      quietly_follow s with_begun are (on_follows s.requests req (begun_as b) (begun_follows starts)) (begun_passed are.passed) (same_places s.places)

  -- an ongoing load is as it was
  pub as_loading : (l : Look) → IsLoading s l → IsLoading with_begun l
  as_loading l is =
      record {
        nav = is.nav;
        mode = is.mode;
        address = is.address;
        what = is.what;
        state = is.state;
        state_is = is.state_is;
        numbered = is.numbered;
        unmade = is.unmade;
        unheld = is.unheld;
        whose = is.whose;
        unshown = is.unshown;
      }

  -- where it is no load that begins, the ongoing loads stay
  pub kept_loading : KeepLooks s.requests begun → AreLoading s → AreLoading with_begun
  kept_loading looks are =
      record {
        each = λ r l at on. as_loading l (are.each r l (looks r l at on) on);
        one = λ x y l m nav at_x at_y on_x on_y loads_x loads_y. are.one x y l m nav (looks x l at_x on_x) (looks y m at_y on_y) on_x on_y loads_x loads_y;
        apart = λ x y l m state at_x at_y on_x on_y state_x state_y. are.apart x y l m state (looks x l at_x on_x) (looks y m at_y on_y) on_x on_y state_x state_y;
        rows_ = are.rows_;
        documents = are.documents;
      }

  -- and so do their places
  pub kept_placed : KeepLooks s.requests begun → LoadsArePlaced s → LoadsArePlaced with_begun
  kept_placed looks are r l nav mode address at on what = are r l nav mode address (looks r l at on) on what

  -- ---- what is read of loads

  module _ (q : Asked) (found : request_of s req ≡ Some q) where
    -- the request is found as it began
    pub begun_now : request_in begun req ≡ Some (begun_as b q)
    begun_now = on_itself s.requests req (begun_as b) ∙ ap (λ (o : Option Asked). option_map (begun_as b) o) found

    -- so it is read
    own_look : look_of with_begun req ≡ Some (look (begun_as b q))
    own_look = ap (λ (o : Option Asked). option_map look o) begun_now

    -- and another one as before
    other_look : (r : ReqId) → (r.0 == req.0) ≡ false → look_of with_begun r ≡ look_of s r
    other_look r apart =
        ap (λ (o : Option Asked). option_map look o) (on_else s.requests req (begun_as b) r apart)

    -- what is read of a request then is that, or was read before
    pub by_look : (r : ReqId) (l : Look) → look_of with_begun r ≡ Some l → (B : Type 0) → (r.0 ≡ req.0 → look (begun_as b q) ≡ l → B) → (look_of s r ≡ Some l → B) → B
    by_look r l at B own was = by_number (r.0 == req.0) refl
      where
        by_number : (c : Bool) → (r.0 == req.0) ≡ c → B
        by_number true e =
            let same : r ≡ req = req_same r req e in
            own (ap (λ (x : ReqId). x.0) same) (some_same (sym own_look ∙ ap (look_of with_begun) (sym same) ∙ at))
        by_number false e = was (sym (other_look r e) ∙ at)
