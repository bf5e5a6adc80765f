-- What is read of a request here, and that all stays where it is read as before and there are as many orders of it, but for one request.
use Rattle.std.proofs.Common.{◌≡◌, Bool, true, false, ◌&&◌, ◌==◌, List, Option, Some, None, refl, sym, ap, ◌∙◌, subst}
use Rattle.std.specs.Prelude.{is_none, is_some, option_map}
use Rattle.tab_ids.specs.declared.DocId.{DocId}
use Rattle.tab_ids.specs.declared.ReqId.{ReqId}
use Rattle.log_model.specs.declared.made.Made.{Made}
use Rattle.log_model.specs.declared.outcome.Ending.{Ending}
use Rattle.log_model.specs.declared.request.Request.{Request}
use Rattle.log_model.specs.Places.{is_load}
use Rattle.log_model.specs.Seen.{Seen, Asked, request_in}
use Rattle.seen_laws.proofs.Sums.{over}
use Rattle.seen_facts.proofs.Request.Readers.{SameReads}
use Rattle.seen_facts.specs.LoadWhereabouts.Whereabouts.{waits_to_fragment}
use Rattle.seen_facts.proofs.LoadWhereabouts.Counts.{count, req_same}
use Rattle.seen_facts.proofs.LoadWhereabouts.Trips.{Trip, trip_of, SameTrips}
use Rattle.tab_facts.specs.FragmentOrders.Waiting.{fragments_at, fragments_due, AreFragments}
use Rattle.tab_facts.proofs.FragmentOrders.Counts.{SameOrders}

-- what it asks, how it ended, what was made of it, and the document that was sent to a fragment for it
pub record Fate : Type 0 where
  pub what : Request
  pub ending : Option Ending
  pub made : Option Made
  pub fragment : Option DocId

abbrev pub fate : Asked → Fate
fate q = record { what = q.what; ending = q.ending; made = q.made; fragment = q.fragment }

abbrev pub fate_in : List Asked → ReqId → Option Fate
fate_in asked req = option_map fate (request_in asked req)

abbrev pub fate_waits : Fate → Bool
fate_waits x = (is_none x.ending && is_none x.made) && is_some x.fragment

-- one of which something was made doesn't wait
pub made_rests : (a b : Bool) → ((a && false) && b) ≡ false
made_rests true b = refl
made_rests false b = refl

abbrev fate_of_trip : Trip → Fate
fate_of_trip x = record { what = x.what; ending = x.ending; made = x.made; fragment = x.fragment }

-- what orders and answers leave
pub trip_fates : (asked next_ : List Asked) → SameTrips asked next_ → SameReads fate asked next_
trip_fates asked next_ same r =
    by_trip (request_in next_ r) ∙ ap (λ (o : Option Trip). option_map fate_of_trip o) (same r) ∙ sym (by_trip (request_in asked r))
  where
    by_trip : (o : Option Asked) → option_map fate o ≡ option_map fate_of_trip (trip_of o)
    by_trip None = refl
    by_trip (Some q) = refl

-- ---- one request

-- what is true of one
pub record IsRight (s : Seen) (req : ReqId) : Type 0 where
  pub once : over (fragments_at req) s.desks ≡ fragments_due (request_in s.requests req)
  pub unsent : (q : Asked) → request_in s.requests req ≡ Some q → is_load q.what ≡ true → q.fragment ≡ None → q.made ≡ None
  pub loads : (q : Asked) → request_in s.requests req ≡ Some q → waits_to_fragment q ≡ true → is_load q.what ≡ true

pub right_of : (s : Seen) → AreFragments s → (req : ReqId) → IsRight s req
right_of s are req = record { once = are.once req; unsent = are.unsent req; loads = are.loads req }

pub all_right : (s : Seen) → ((req : ReqId) → IsRight s req) → AreFragments s
all_right s each =
    record { once = λ req. (each req).once; unsent = λ req. (each req).unsent; loads = λ req. (each req).loads }

-- what shows it of a request that is read so
pub record IsRightSo (s : Seen) (req : ReqId) (x : Fate) : Type 0 where
  pub read : fate_in s.requests req ≡ Some x
  pub once : over (fragments_at req) s.desks ≡ count (fate_waits x)
  pub unsent : is_load x.what ≡ true → x.fragment ≡ None → x.made ≡ None
  pub loads : fate_waits x ≡ true → is_load x.what ≡ true

pub right_so : (s : Seen) (req : ReqId) (x : Fate) → IsRightSo s req x → IsRight s req
right_so s req x is = by_found (request_in s.requests req) refl
  where
    by_found : (o : Option Asked) → request_in s.requests req ≡ o → IsRight s req
    by_found None e =
        let none : None ≡ Some x = ap (λ (o : Option Asked). option_map fate o) (sym e) ∙ is.read in absurd cc
    by_found (Some p) e =
        record {
          once = is.once ∙ sym (ap (λ (y : Fate). count (fate_waits y)) same) ∙ sym (ap fragments_due e);
          unsent = λ q found load none. ap (λ (y : Asked). y.made) (sym (it q found)) ∙ ap (λ (y : Fate). y.made) same ∙ is.unsent (sym (ap (λ (y : Fate). is_load y.what) same) ∙ ap (λ (y : Asked). is_load y.what) (it q found) ∙ load) (sym (ap (λ (y : Fate). y.fragment) same) ∙ ap (λ (y : Asked). y.fragment) (it q found) ∙ none);
          loads = λ q found waits. ap (λ (y : Asked). is_load y.what) (sym (it q found)) ∙ ap (λ (y : Fate). is_load y.what) same ∙ is.loads (sym (ap fate_waits same) ∙ ap waits_to_fragment (it q found) ∙ waits);
        }
      where
        both : Some (fate p) ≡ Some x
        both = ap (λ (o : Option Asked). option_map fate o) (sym e) ∙ is.read

        same : fate p ≡ x
        same = cc

        it : (q : Asked) → request_in s.requests req ≡ Some q → p ≡ q
        it q found = let one : Some p ≡ Some q = sym e ∙ found in cc

-- one that isn't there has no order
pub right_none : (s : Seen) (req : ReqId) → fate_in s.requests req ≡ None → over (fragments_at req) s.desks ≡ 0 → IsRight s req
right_none s req none zero = by_found (request_in s.requests req) refl
  where
    by_found : (o : Option Asked) → request_in s.requests req ≡ o → IsRight s req
    by_found (Some p) e =
        let some : Some (fate p) ≡ None = ap (λ (o : Option Asked). option_map fate o) (sym e) ∙ none in absurd cc
    by_found None e =
        record {
          once = zero ∙ sym (ap fragments_due e);
          unsent = λ q found load none_. (let no_ : None ≡ Some q = sym e ∙ found in absurd cc);
          loads = λ q found waits. (let no_ : None ≡ Some q = sym e ∙ found in absurd cc);
        }

-- one that is read as before, with as many orders
pub right_alike : (s t : Seen) (r : ReqId) → fate_in t.requests r ≡ fate_in s.requests r → over (fragments_at r) t.desks ≡ over (fragments_at r) s.desks → IsRight s r → IsRight t r
right_alike s t r same orders is = by_found (request_in s.requests r) refl
  where
    by_found : (o : Option Asked) → request_in s.requests r ≡ o → IsRight t r
    by_found None e =
        right_none t r (same ∙ ap (λ (o : Option Asked). option_map fate o) e) (orders ∙ is.once ∙ ap fragments_due e)
    by_found (Some q) e =
        right_so t r (fate q) (record {
          read = same ∙ ap (λ (o : Option Asked). option_map fate o) e;
          once = orders ∙ is.once ∙ ap fragments_due e;
          unsent = is.unsent q e;
          loads = is.loads q e;
        })

-- ---- all requests

pub same_fragments : (s t : Seen) → SameReads fate s.requests t.requests → SameOrders s t → AreFragments s → AreFragments t
same_fragments s t same orders are =
    all_right t (λ r. right_alike s t r (same r) (orders r) (right_of s are r))

-- what a row shows that changes one request: the others are read as before, with as many orders, and the one is right
pub record IsButOne (s t : Seen) (req : ReqId) : Type 0 where
  pub others : (r : ReqId) → (r.0 == req.0) ≡ false → fate_in t.requests r ≡ fate_in s.requests r
  pub elsewhere : (r : ReqId) → (r.0 == req.0) ≡ false → over (fragments_at r) t.desks ≡ over (fragments_at r) s.desks
  pub one : IsRight t req

pub but_one : (s t : Seen) (req : ReqId) → IsButOne s t req → AreFragments s → AreFragments t
but_one s t req is are = all_right t (λ r. by_number r (r.0 == req.0) refl)
  where
    by_number : (r : ReqId) (b : Bool) → (r.0 == req.0) ≡ b → IsRight t r
    by_number r true e = subst (IsRight t) (sym (req_same r req e)) is.one
    by_number r false e = right_alike s t r (is.others r e) (is.elsewhere r e) (right_of s are r)
