-- All that holds of a tab between two rows holds after a change is applied, where what is told of the change itself holds.
use Rattle.tab_facts.proofs.Past.Rows.{applied_past}
use Rattle.seen_facts.specs.Asked.Asking.{ArePlain}
use Rattle.seen_facts.proofs.Coord.Unread.{next}
use Rattle.seen_facts.proofs.Desk.Rows.{applied_desks}
use Rattle.seen_facts.proofs.Doc.Rows.{applied_docs}
use Rattle.seen_facts.proofs.Entry.Skips.{without_made}
use Rattle.seen_facts.specs.Entry.Entries.{AreEntries}
use Rattle.tab_facts.proofs.FragmentOrders.Rows.{applied_fragments}
use Rattle.tab_facts.specs.FrameWhole.Beside.{IsQueued}
use Rattle.tab_facts.specs.FrameWhole.Untold.{FlowsIf}
use Rattle.seen_facts.proofs.Hang.Rows.{applied_hangs}
use Rattle.seen_facts.specs.Hang.Changing.{BringsState}
use Rattle.seen_facts.specs.Home.Homes.{AreHomed}
use Rattle.seen_facts.proofs.Kept.Changes as keeping
use Rattle.seen_facts.proofs.Load.Changes.{BringsFree, applied_loading}
use Rattle.seen_facts.proofs.LoadWhereabouts.Ended.{applied_loads}
use Rattle.log_model.specs.AfterRequests.{without_req}
use Rattle.log_model.specs.History.{applied, fits}
use Rattle.log_model.specs.Seen.{Asked, Seen, request_of}
use Rattle.log_model.specs.Soundness.{IsSound}
use Rattle.log_model.specs.declared.change.Change.{Change}
use Rattle.log_model.specs.declared.made.Made.{Made}
use Rattle.log_model.specs.declared.row_kind.Actor.{Actor}
use Rattle.log_model.specs.declared.row_kind.RowKind.TheVariants as rows
use Rattle.seen_facts.proofs.Mover.Changes.{applied_movers}
use Rattle.seen_facts.specs.Place.Standing.{AreStanding}
use Rattle.seen_facts.proofs.Request.Endings.{applied_once}
use Rattle.seen_facts.proofs.Request.KnownEnded.{applied_known}
use Rattle.seen_facts.specs.Request.Whereabouts.{times_at}
use Rattle.seen_facts.proofs.Rest.Kept.{applied_kept}
use Rattle.seen_facts.specs.Rest.Owning.{BringsOwned}
use Rattle.seen_laws.proofs.Sums.{over}
use Rattle.tab_facts.proofs.Shown.Rows.{applied_shown}
use Rattle.std.proofs.Common.{List, None, Option, Some, true, ℕ, ◌≡◌}
use Rattle.tab_ids.specs.declared.ReqId.{ReqId}
use Rattle.tab_facts.proofs.TabWhole.OpenAmong.{applied_else, once_left, trips_left}
use Rattle.tab_facts.proofs.TabWhole.Where.{IsCarried, carried_off, carried_waits_not}
use Rattle.tab_facts.specs.TabWhole.Tab.{IsTab, at_hand, open_among}
use Rattle.seen_facts.proofs.Transit.Applied.{applied_ways}

module _ (run next_run : Option ReqId) (loads : List ReqId) (hand : List Made) (s : Seen) (event : ℕ) (actor : Actor) (req : ReqId) (change : Change) where
  abbrev pub changed : Seen
  changed = next s event actor (rows.Applied req change)

  -- what is told of the change: its request has no outcome, and is at a place that is no desk; it fits, and its document state is as it should be; and what it leaves of places, requests, entries and of what leads on
  pub record ChangesWell : Type 0 where
    pub unended : (q : Asked) → request_of s req ≡ Some q → q.ending ≡ None
    pub carried : IsCarried loads hand s req
    pub fit : fits s.history change ≡ true
    pub sound : IsSound (applied s.history change)
    pub brings : BringsState s.history change
    pub owned : BringsOwned s change
    pub free : BringsFree s req change
    pub homes : AreHomed changed
    pub standing : AreStanding changed
    pub asked : ArePlain next_run changed
    pub queued : IsQueued next_run changed
    pub entries : AreEntries (without_made req hand) changed
    pub flows : FlowsIf (without_made req hand) changed

  module _ (tab : IsTab run loads hand s) (well : ChangesWell) where
    -- it is at no desk
    off : over (times_at req) s.desks ≡ 0
    off = carried_off run loads hand s tab req well.carried

    pub changed_tab : IsTab next_run (without_req req loads) (without_made req hand) changed
    changed_tab =
        record {
          sound = well.sound;
          hangs = applied_hangs s event actor req tab.sound tab.hangs change well.fit well.brings;
          docs = applied_docs s event actor tab.docs req change;
          whose = applied_kept s event actor tab.whose req change well.owned;
          shown = applied_shown s event actor tab.shown req change;
          homes = well.homes;
          kept = keeping.applied_kept s event actor req change tab.kept;
          standing = well.standing;
          movers = applied_movers s event actor req change tab.movers well.unended;
          asked = well.asked;
          queued = well.queued;
          loading = applied_loading s event actor tab.loading req change well.free;
          fragments = applied_fragments s event actor tab.fragments req change (carried_waits_not run loads hand s tab req well.carried);
          once = once_left s changed loads hand req (applied_else s event actor req change) (applied_once s (at_hand (open_among s.requests loads) hand) event req actor change (λ other. off) tab.once);
          trips = trips_left s changed loads hand req (applied_else s event actor req change) (applied_loads s (at_hand (open_among s.requests loads) hand) event req (λ load. off) tab.trips actor change);
          known = applied_known s event req off tab.known actor change;
          desks = applied_desks s event actor tab.desks req change;
          ways = applied_ways s event actor req change tab.ways;
          entries = well.entries;
          flows = well.flows;
          past = applied_past hand s event actor tab.docs req change tab.past;
        }
