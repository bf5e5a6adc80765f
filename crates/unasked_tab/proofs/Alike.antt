-- All that holds of a tab between two rows holds where its requests are the same but for how they began, once what is read of that holds.
use Rattle.std.proofs.Common.{◌≡◌, ℕ, Bool, false, List, [], ◌++◌, Option, Some, None, refl, sym, ap, ◌∙◌, subst}
use Rattle.std.specs.Prelude.{option_map}
use Rattle.tab_ids.specs.declared.ReqId.{ReqId}
use Rattle.log_model.specs.declared.job.Job.{Job}
use Rattle.log_model.specs.declared.made.Made.{Made}
use Rattle.log_model.specs.Equal.{holds}
use Rattle.log_model.specs.Seen.{Asked, Seen, desk_of, request_in}
use Rattle.seen_facts.specs.Asked.Asking.{ArePlain}
use Rattle.seen_facts.specs.Coord.Leading.{held_back}
use Rattle.seen_facts.specs.Load.Loading.{AreLoading}
use Rattle.seen_facts.specs.LoadWhereabouts.Whereabouts.{AreLoadsOnce}
use Rattle.seen_facts.specs.Mover.Movers.{AreMovers}
use Rattle.seen_facts.specs.Request.Cores.{core}
use Rattle.seen_facts.specs.Request.Whereabouts.{AreOnce}
use Rattle.seen_facts.proofs.Coord.Held.{held_alike, made_of}
use Rattle.seen_facts.proofs.Coord.Unread.{DesksLeft}
use Rattle.seen_facts.proofs.Each.Courses.{is_asked}
use Rattle.seen_facts.proofs.Entry.Parts.{KeepsAsked, took_of}
use Rattle.seen_facts.proofs.Entry.Rows.{quiet_entries}
use Rattle.seen_facts.proofs.Place.Asked.{StayAsked}
use Rattle.seen_facts.proofs.Place.Rows.{all_left, quietly_standing}
use Rattle.seen_facts.proofs.Request.KnownRows.{known_again}
use Rattle.seen_facts.proofs.Request.Onces.{once_again}
use Rattle.seen_facts.proofs.Request.Readers.{SameReads}
use Rattle.tab_facts.specs.FrameWhole.Beside.{IsQueued}
use Rattle.tab_facts.specs.Shown.Shown.{LoadsArePlaced}
use Rattle.tab_facts.specs.TabWhole.Tab.{IsTab, at_hand, has_ended, open_among}
use Rattle.tab_facts.proofs.TabWhole.OpenAmong.{SameEnds, once_on, trips_on}
use Rattle.tab_facts.proofs.FragmentOrders.Fates.{fate, same_fragments}
use Rattle.tab_facts.proofs.FrameTab.Skips.{IsPassed, Skips, skips_same}
use Rattle.tab_facts.proofs.FrameWhole.FlowsEnds.{ends_if}
use Rattle.tab_facts.proofs.Past.Places.{same_last}
use Rattle.tab_facts.proofs.Past.Rows.{still_past}

-- ---- requests

-- a request, but for how it began
abbrev pub but_begun : Asked → Asked
but_begun q = record q { is_started = false; goal = None; state = None; replaces = false; awake_then = [] }

-- these are the same, but for how they began
abbrev pub AreAlike : List Asked → List Asked → Type 0
AreAlike asked next = SameReads but_begun asked next

-- a reader that doesn't look at how a request began
pub read_alike : {B : Type 0} (read : Option Asked → B) → ((q : Asked) → read (Some (but_begun q)) ≡ read (Some q)) → (asked next : List Asked) → AreAlike asked next → (r : ReqId) → read (request_in next r) ≡ read (request_in asked r)
read_alike read blind asked next same r = by_both (request_in next r) (request_in asked r) (same r)
  where
    by_both : (a b : Option Asked) → option_map but_begun a ≡ option_map but_begun b → read a ≡ read b
    by_both None None e = refl
    by_both (Some q) (Some p) e = sym (blind q) ∙ ap read e ∙ blind p
    by_both None (Some p) e = cc
    by_both (Some q) None e = cc

-- ---- what a log has come to

module _ (s : Seen) (next : List Asked) (events jobs states : ℕ) (finished : Option Job) (stood : Bool) where
  -- with these requests, and other numbers
  abbrev pub with_asked : Seen
  with_asked =
      record s {
        events = events;
        requests = next;
        jobs = jobs;
        states = states;
        just_finished = finished;
        has_stood = stood;
      }

  -- what is read of how requests began
  pub record HaveBegun (run : Option ReqId) (loads : List ReqId) (hand : List Made) : Type 0 where
    pub asked : ArePlain run with_asked
    pub queued : IsQueued run with_asked
    pub loading : AreLoading with_asked
    pub placed : LoadsArePlaced with_asked
    pub movers : AreMovers with_asked
    pub once : AreOnce s (at_hand (open_among s.requests loads) hand)
    pub trips : AreLoadsOnce with_asked (at_hand (open_among s.requests loads) hand)

  module _ (same : AreAlike s.requests next) (was : Option ReqId) (before : List ReqId) (hand : List Made) (tab : IsTab was before hand s) where
    -- the desks are as they were
    left : DesksLeft s with_asked
    left proc = ((desk_of s proc).input, refl)

    -- and so is what is held back
    held : held_back next s.parked ≡ held_back s.requests s.parked
    held = held_alike s.requests next s.parked (read_alike made_of (λ q. refl) s.requests next same)

    -- whoever was asked still is
    stay : StayAsked s.requests next
    stay req q at = let now = is_asked but_begun s.requests next same req q at in (now.0, now.1)

    -- each has ended just where it had
    ends : SameEnds s.requests next
    ends = read_alike (λ o. holds has_ended o) (λ q. refl) s.requests next same

    -- what was made of each, and taken for it, stays
    keeps : KeepsAsked s.requests next
    keeps =
        record {
          made = read_alike made_of (λ q. refl) s.requests next same;
          took = read_alike took_of (λ q. refl) s.requests next same;
        }

    -- what holds of the tab holds with these requests
    pub alike_tab : (run : Option ReqId) (loads : List ReqId) → HaveBegun run loads hand → IsTab run loads hand with_asked
    alike_tab run loads begun =
        record {
          sound = tab.sound;
          hangs = record { woven = tab.hangs.woven; rows = tab.hangs.rows };
          docs = record {
            each = λ doc d at. (let is = tab.docs.each doc d at in record { live = is.live; placed = is.placed; once = is.once });
            thawed = tab.docs.thawed;
            sole = tab.docs.sole;
          };
          whose = record { numbered = tab.whose.numbered; whose = tab.whose.whose };
          shown = record {
            there = λ nav place doc at has. (let is = tab.shown.there nav place doc at has in record { document = is.document; found = is.found });
            ever = tab.shown.ever;
            of_one = tab.shown.of_one;
            placed = begun.placed;
            viewed = tab.shown.viewed;
          };
          homes = record {
            homed = tab.homes.homed;
            state = tab.homes.state;
            hung = λ nav place doc at wakes parent others above. (let is = tab.homes.hung nav place doc at wakes parent others above in record {
              above = is.above;
              there = is.there;
              doc = is.doc;
              wakes = is.wakes;
              document = is.document;
              found = is.found;
              owner = is.owner;
            });
          };
          kept = record { each = tab.kept.each; apart = tab.kept.apart; lasts = tab.kept.lasts };
          standing = quietly_standing s with_asked tab.standing stay (λ d. refl) refl (all_left s);
          movers = begun.movers;
          asked = begun.asked;
          queued = begun.queued;
          loading = begun.loading;
          fragments = same_fragments s with_asked (read_alike (λ o. option_map fate o) (λ q. refl) s.requests next same) (λ r. refl) tab.fragments;
          once = once_on s with_asked loads hand ends (once_again s with_asked (at_hand (open_among s.requests loads) hand) (at_hand (open_among s.requests loads) hand) (read_alike (λ o. option_map core o) (λ q. refl) s.requests next same) (λ r. refl) begun.once);
          trips = trips_on s with_asked loads hand ends begun.trips;
          known = known_again s with_asked (record {
            cores = read_alike (λ o. option_map core o) (λ q. refl) s.requests next same;
            desks = λ desks. desks;
            joined = refl;
            parked = refl;
          }) tab.known;
          desks = tab.desks;
          ways = record { comes = tab.ways.comes; made = tab.ways.made };
          entries = quiet_entries hand s with_asked (record {
            documents = refl;
            places = refl;
            rows_ = refl;
            numbers = refl;
            parked = refl;
            asked = keeps;
            told = λ proc. refl;
          }) tab.entries;
          flows = ends_if s with_asked hand hand left refl refl refl (subst (λ (l : List Made). Skips (IsPassed s) (held_back s.requests s.parked ++ hand) (l ++ hand)) (sym held) (skips_same (IsPassed s) (held_back s.requests s.parked ++ hand))) tab.flows;
          past = still_past hand hand s with_asked tab.docs left refl (same_last s.places) (ap (λ (l : List Made). l ++ hand) held) tab.past;
        }
