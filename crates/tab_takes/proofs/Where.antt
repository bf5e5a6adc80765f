-- Where the request of what a document made is that is to be taken: held back or at hand, and nowhere else.
use Rattle.tab_facts.proofs.TabWhole.Where.{found_unloaded}
use Rattle.seen_facts.proofs.Coord.Held.{without_same}
use Rattle.seen_facts.proofs.Entry.Skips.{without_made}
use Rattle.tab_facts.specs.Frame.Taking.{IsWaitingHere}
use Rattle.tab_facts.proofs.FrameWhole.Ending.{IsItsHand, reqs_of, some_times}
use Rattle.seen_facts.specs.Hang.Members.{Has}
use Rattle.log_model.proofs.Refl.{nat_eq_refl}
use Rattle.log_model.specs.AfterRequests.{without_req}
use Rattle.log_model.specs.Equal.{has_req}
use Rattle.log_model.specs.Places.{is_ongoing_load}
use Rattle.log_model.specs.Seen.{Seen}
use Rattle.log_model.specs.declared.made.Made.{Made}
use Rattle.log_model.specs.declared.row_kind.RowKind.{RowKind}
use Rattle.seen_facts.proofs.Request.Times.{times_none}
use Rattle.seen_facts.specs.Request.Whereabouts.{times}
use Rattle.std.proofs.Common.{Bool, List, [], ap, arith, false, inl, inr, refl, subst, sym, true, ◌+◌, ◌++◌, ◌<◌, ◌==◌, ◌||◌, ◌∙◌, ◌∷◌, ◌≡◌, ◌⊎◌}
use Rattle.tab_doors.specs.declared.tables.Tables.{Tables}
use Rattle.tab_ids.specs.declared.ReqId.{ReqId}
use Rattle.tab_ids.specs.declared.StateId.{StateId}
use Rattle.tab_rests.specs.PassedOn.{InPass, IsTab}
use Rattle.tab_takes.proofs.Verdicts.{apart, s, tab}
use Rattle.tab_takes.specs.Taking.{IsToTake}
use Rattle.tab_rests.proofs.PassedOn.{IsCarried, IsMadeAtHand, at_most_once, none_at}

module _ (p : InPass) (out : List RowKind) (t : Tables) (blame : List (StateId × ReqId)) (made : Made) (at : IsToTake p out t blame made) where
  abbrev now_ : Seen
  now_ = s p out t blame made at

  abbrev whole : IsTab t.running p.loads p.hand now_
  whole = tab p out t blame made at

  -- a request at hand
  hand_has : p.hand ≡ made ∷ [] → has_req (reqs_of p.hand) made.req ≡ true
  hand_has is = ap (λ (l : List Made). has_req (reqs_of l) made.req) is ∙ rw (nat_eq_refl made.req.0) refl

  parked_has : (rest : List ReqId) → now_.parked ≡ made.req ∷ rest → has_req now_.parked made.req ≡ true
  parked_has rest is = ap (λ (l : List ReqId). has_req l made.req) is ∙ rw (nat_eq_refl made.req.0) refl

  has_later : (xs ys : List ReqId) (req : ReqId) → has_req ys req ≡ true → has_req (xs ++ ys) req ≡ true
  has_later [] ys req has = has
  has_later (x ∷ xs) ys req has = by_test (x.0 == req.0) (has_later xs ys req has)
    where
      by_test : (b : Bool) → has_req (xs ++ ys) req ≡ true → (b || has_req (xs ++ ys) req) ≡ true
      by_test true h = refl
      by_test false h = h

  pub carried : IsCarried p.loads p.hand now_ made.req
  carried = by_case at.taking.here
    where
      by_case : IsWaitingHere p.hand now_ made.req made → IsCarried p.loads p.hand now_ made.req
      by_case (inl here) = inr (inr (inl (has_later p.loads (reqs_of p.hand) made.req (hand_has here.0))))
      by_case (inr here) = inr (inl (parked_has here.0 here.1))

  abbrev Some_ : Type 0
  Some_ = 0 < times made.req now_.parked + times made.req (reqs_of p.hand)

  -- it is there once
  there : Some_
  there = by_case at.taking.here
    where
      by_case : IsWaitingHere p.hand now_ made.req made → Some_
      by_case (inl here) = let n : 0 < times made.req (reqs_of p.hand) = some_times made.req (reqs_of p.hand) (hand_has here.0) in omega (arith, n)
      by_case (inr here) = let n : 0 < times made.req now_.parked = some_times made.req now_.parked (parked_has here.0 here.1) in omega (arith, n)

  pub unjoined : has_req now_.joined made.req ≡ false
  unjoined =
      let all = at_most_once t.running p.loads p.hand now_ whole made.req in
      times_none made.req now_.joined (omega (arith, all, there))

  unloaded : has_req p.loads made.req ≡ false
  unloaded =
      times_none made.req p.loads (found_unloaded t.running p.loads p.hand now_ whole made.req (omega (arith, there)))

  pub joined_same : without_req made.req now_.joined ≡ now_.joined
  joined_same = without_same now_.joined made.req unjoined

  -- what else is at hand stays
  pub loads_same : (x : Seen) → IsTab t.running (without_req made.req p.loads) (without_made made.req p.hand) x → IsTab t.running p.loads (without_made made.req p.hand) x
  loads_same x = subst (λ (l : List ReqId). IsTab t.running l (without_made made.req p.hand) x) (without_same p.loads made.req unloaded)

  pub its_hand : IsItsHand p.hand made.req made
  its_hand other has same = by_case at.taking.here
    where
      by_only : (made ≡ other) ⊎ Has {A = Made} [] other → other ≡ made
      by_only (inl one) = sym one
      by_only (inr none) = absurd none

      by_case : IsWaitingHere p.hand now_ made.req made → other ≡ made
      by_case (inl here) = by_only (subst (λ (l : List Made). Has l other) here.0 has)
      by_case (inr here) =
          let all = at_most_once t.running p.loads p.hand now_ whole made.req in
          let n : 0 < times made.req now_.parked = some_times made.req now_.parked (parked_has here.0 here.1) in
          absurd (none_at made.req p.hand other (times_none made.req (reqs_of p.hand) (omega (arith, all, n))) has same)

  pub made_at_hand : IsMadeAtHand t.running p.loads p.hand now_ made.req made
  made_at_hand =
      record {
        other = apart p out t blame made at;
        q = at.taking.q;
        there = at.taking.there;
        makes = at.taking.makes;
        carried = carried;
        its = its_hand;
      }

  -- its request hasn't begun, so it is no ongoing load
  pub no_load : is_ongoing_load at.taking.q ≡ false
  no_load = rw at.taking.unstarted refl
