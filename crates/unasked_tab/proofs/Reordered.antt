-- The requests at hand may stand in any order, and those that have ended may be taken out.
use Rattle.std.proofs.Common.{◌≡◌, Bool, true, false, List, ◌∷◌, ◌++◌, Option, map, refl, sym, ◌∙◌, arith}
use Rattle.tab_ids.specs.declared.ReqId.{ReqId}
use Rattle.log_model.specs.declared.made.Made.{Made}
use Rattle.log_model.specs.Equal.{holds}
use Rattle.log_model.specs.Seen.{Seen, request_in}
use Rattle.seen_facts.specs.Request.Whereabouts.{times}
use Rattle.seen_facts.proofs.LoadWhereabouts.Counts.{loads_again}
use Rattle.seen_facts.proofs.Request.Onces.{SameTimes, once_again}
use Rattle.seen_facts.proofs.Request.Times.{times_append}
use Rattle.tab_facts.specs.TabWhole.Tab.{IsTab, at_hand, has_ended, open_among}
use Rattle.tab_facts.proofs.TabWhole.OpenAmong.{times_ended, times_open}

-- each is as often in the one list as in the other
abbrev pub AreAsOften : List ReqId → List ReqId → Type 0
AreAsOften loads other = (r : ReqId) → times r other ≡ times r loads

-- one amid others is as if it stood in front
pub amid_often : (front : List ReqId) (req : ReqId) (behind : List ReqId) → AreAsOften (front ++ req ∷ behind) (req ∷ front ++ behind)
amid_often front req behind r =
    omega (arith, times_append r front behind, times_append r front (req ∷ behind))

module _ (run : Option ReqId) (loads other : List ReqId) (hand : List Made) (s : Seen) where
  -- where those that haven't ended are as often in either list, what holds of the tab with the one holds with the other
  module _ (same : AreAsOften (open_among s.requests loads) (open_among s.requests other)) where
    -- with what documents made, too
    found : SameTimes s (at_hand (open_among s.requests loads) hand) s (at_hand (open_among s.requests other) hand)
    found r =
        omega (arith, same r, times_append r (open_among s.requests loads) (map (λ (made : Made). made.req) hand), times_append r (open_among s.requests other) (map (λ (made : Made). made.req) hand))

    pub other_tab : IsTab run loads hand s → IsTab run other hand s
    other_tab tab =
        record {
          sound = tab.sound;
          hangs = tab.hangs;
          docs = tab.docs;
          whose = tab.whose;
          shown = tab.shown;
          homes = tab.homes;
          kept = tab.kept;
          standing = tab.standing;
          movers = tab.movers;
          asked = tab.asked;
          queued = tab.queued;
          loading = tab.loading;
          fragments = tab.fragments;
          once = once_again s s (at_hand (open_among s.requests loads) hand) (at_hand (open_among s.requests other) hand) (λ r. refl) found tab.once;
          trips = loads_again s s (at_hand (open_among s.requests loads) hand) (at_hand (open_among s.requests other) hand) (λ r. refl) found tab.trips;
          known = tab.known;
          desks = tab.desks;
          ways = tab.ways;
          entries = tab.entries;
          flows = tab.flows;
          past = tab.past;
        }

  -- so it does in either order
  pub reordered_tab : AreAsOften loads other → IsTab run loads hand s → IsTab run other hand s
  reordered_tab same = other_tab still
    where
      still : AreAsOften (open_among s.requests loads) (open_among s.requests other)
      still r = by_end (holds has_ended (request_in s.requests r)) refl
        where
          by_end : (b : Bool) → holds has_ended (request_in s.requests r) ≡ b → times r (open_among s.requests other) ≡ times r (open_among s.requests loads)
          by_end true e = times_ended s.requests r other e ∙ sym (times_ended s.requests r loads e)
          by_end false e = times_open s.requests r other e ∙ same r ∙ sym (times_open s.requests r loads e)

-- those that have ended count no more, so they may be taken out
pub open_often : (s : Seen) (loads : List ReqId) → AreAsOften (open_among s.requests loads) (open_among s.requests (open_among s.requests loads))
open_often s loads r = by_end (holds has_ended (request_in s.requests r)) refl
  where
    by_end : (b : Bool) → holds has_ended (request_in s.requests r) ≡ b → times r (open_among s.requests (open_among s.requests loads)) ≡ times r (open_among s.requests loads)
    by_end true e =
        times_ended s.requests r (open_among s.requests loads) e ∙ sym (times_ended s.requests r loads e)
    by_end false e = times_open s.requests r (open_among s.requests loads) e

pub open_tab : (run : Option ReqId) (loads : List ReqId) (hand : List Made) (s : Seen) → IsTab run loads hand s → IsTab run (open_among s.requests loads) hand s
open_tab run loads hand s = other_tab run loads (open_among s.requests loads) hand s (open_often s loads)

-- a request at hand is brought to the front
pub front_tab : (run : Option ReqId) (front : List ReqId) (req : ReqId) (behind : List ReqId) (hand : List Made) (s : Seen) → IsTab run (front ++ req ∷ behind) hand s → IsTab run (req ∷ front ++ behind) hand s
front_tab run front req behind hand s tab =
    reordered_tab run (front ++ req ∷ behind) (req ∷ front ++ behind) hand s (amid_often front req behind) tab
