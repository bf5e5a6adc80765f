-- All that holds of a tab between two rows holds after a request is refused or dropped by the coordinator or the user's event, wherever it was: in the queue, held back, at hand, or an ongoing load.
use Rattle.tab_facts.proofs.Past.Rows.{dropped_past, refused_past}
use Rattle.seen_facts.proofs.Asked.Rows.{dropped_plain, refused_plain}
use Rattle.seen_facts.proofs.Coord.Unread.{dropped_left, next, refused_left}
use Rattle.seen_facts.proofs.Desk.Rows.{denied_desks, dropped_desks}
use Rattle.seen_facts.specs.Desk.Own.{AreDesksIn}
use Rattle.seen_facts.proofs.Doc.Rows.{dropped_docs, refused_docs}
use Rattle.seen_facts.proofs.Entry.Ends.{IsToEnd, dropped_entries, refused_entries}
use Rattle.seen_facts.proofs.Entry.Skips.{without_made}
use Rattle.tab_facts.proofs.FragmentOrders.Ends.{WaitsNot}
use Rattle.tab_facts.proofs.FragmentOrders.Rows.{dropped_fragments, refused_fragments}
use Rattle.tab_facts.proofs.FrameWhole.FlowsEnds.{dropped_if, refused_if}
use Rattle.tab_facts.proofs.FrameWhole.Queued.{queued_after}
use Rattle.seen_facts.proofs.Hang.Rows.{left_hangs}
use Rattle.seen_facts.proofs.Home.Rows as homing
use Rattle.seen_facts.proofs.Kept.Rows as keeping
use Rattle.seen_facts.proofs.Load.Rows.{dropped_loading, refused_loading}
use Rattle.seen_facts.proofs.LoadWhereabouts.Ended.{denied_loads, dropped_loads, refused_loads}
use Rattle.seen_facts.specs.LoadWhereabouts.Whereabouts.{AreLoadsOnce}
use Rattle.log_model.specs.AfterRequests.{without_req}
use Rattle.log_model.specs.Seen.{Seen}
use Rattle.log_model.specs.declared.made.Made.{Made}
use Rattle.log_model.specs.declared.outcome.Cause.{Cause}
use Rattle.log_model.specs.declared.outcome.Denial.{Denial}
use Rattle.log_model.specs.declared.row_kind.Actor.{Actor}
use Rattle.seen_facts.proofs.Mover.Rows.{dropped_movers, refused_movers}
use Rattle.seen_facts.specs.Each.Runs.{is_this}
use Rattle.seen_facts.proofs.Place.Rows.{dropped_standing, refused_standing}
use Rattle.seen_facts.proofs.Request.Endings.{denied_once, dropped_once, refused_once}
use Rattle.seen_facts.proofs.Request.KnownEnded.{denied_known, dropped_known, refused_known}
use Rattle.seen_facts.specs.Request.Knowns.{AreKnown}
use Rattle.seen_facts.specs.Request.Whereabouts.{AreOnce, times_at}
use Rattle.seen_facts.proofs.Rest.Kept.{left_kept}
use Rattle.seen_laws.proofs.Sums.{over}
use Rattle.tab_facts.proofs.Shown.Rows.{dropped_shown, refused_shown}
use Rattle.std.proofs.Common.{List, Option, false, refl, ℕ, ◌≡◌}
use Rattle.tab_ids.specs.declared.ReqId.{ReqId}
use Rattle.tab_facts.proofs.TabWhole.OpenAmong.{ended_else, once_left, trips_left}
use Rattle.tab_facts.proofs.TabWhole.Where.{IsCarried, carried_off, carried_waits_not}
use Rattle.tab_facts.specs.TabWhole.Tab.{IsTab, at_hand, open_among}
use Rattle.seen_facts.proofs.Transit.Rows.{left_ways}
use Rattle.log_model.specs.declared.outcome.Ending.TheVariants as endings
use Rattle.log_model.specs.declared.row_kind.Actor.TheVariants as actors
use Rattle.log_model.specs.declared.row_kind.RowKind.TheVariants as rows

-- the request may end: it isn't the running traversal; it is in the queue, held back, at hand, or an ongoing load; and what was made of it, and is held back or at hand, is no entry of a document that is shown
pub record MayEnd (run : Option ReqId) (loads : List ReqId) (hand : List Made) (s : Seen) (req : ReqId) : Type 0 where
  pub other : is_this run req ≡ false
  pub carried : IsCarried loads hand s req
  pub passed : IsToEnd hand s req

-- the row is the coordinator's, or the user's
abbrev pub IsNoProcess : Actor → Type 0
IsNoProcess actors.Coord = Unit {0}
IsNoProcess actors.Ui = Unit {0}
IsNoProcess _ = ⊥

module _ (run : Option ReqId) (loads : List ReqId) (hand : List Made) (s : Seen) (event : ℕ) (tab : IsTab run loads hand s) (req : ReqId) (end : MayEnd run loads hand s req) where
  -- it is at no desk
  off : over (times_at req) s.desks ≡ 0
  off = carried_off run loads hand s tab req end.carried

  -- and doesn't wait for what is made of a fragment order
  waits_not : WaitsNot s.requests req
  waits_not = carried_waits_not run loads hand s tab req end.carried

  pub dropped_tab : (actor : Actor) (cause : Cause) → IsTab run (without_req req loads) (without_made req hand) (next s event actor (rows.Dropped req cause))
  dropped_tab actor cause =
      record {
        sound = tab.sound;
        hangs = left_hangs s event actor tab.hangs (rows.Dropped req cause) tt;
        docs = dropped_docs s event actor tab.docs req cause;
        whose = left_kept s event actor tab.whose (rows.Dropped req cause) tt;
        shown = dropped_shown s event actor tab.shown req cause;
        homes = homing.left_rows s event actor tab.homes (rows.Dropped req cause) tt;
        kept = keeping.left_rows s event actor tab.kept (rows.Dropped req cause) tt;
        standing = dropped_standing s event actor tab.standing req cause;
        movers = dropped_movers s event actor tab.movers req cause;
        asked = dropped_plain run s event actor tab.asked req cause end.other;
        queued = queued_after run s event actor tab.queued (rows.Dropped req cause) end.other;
        loading = dropped_loading s event actor tab.loading req cause;
        fragments = dropped_fragments s event actor tab.fragments req cause waits_not;
        once = once_left s (next s event actor (rows.Dropped req cause)) loads hand req (ended_else s.requests req (endings.Dropped cause)) (dropped_once s (at_hand (open_among s.requests loads) hand) event req actor cause (λ other. off) tab.once);
        trips = trips_left s (next s event actor (rows.Dropped req cause)) loads hand req (ended_else s.requests req (endings.Dropped cause)) (dropped_loads s (at_hand (open_among s.requests loads) hand) event req (λ load. off) tab.trips actor cause);
        known = dropped_known s event req off tab.known actor cause;
        desks = dropped_desks s event actor tab.desks req cause;
        ways = left_ways s event actor tab.ways (rows.Dropped req cause) (dropped_left s event actor req cause) refl refl;
        entries = dropped_entries hand s event tab.entries req end.passed actor cause;
        flows = dropped_if s event run hand req (record { other = end.other; held = end.passed.held; at_hand = end.passed.at_hand }) actor cause tab.flows;
        past = dropped_past hand s event actor tab.docs req cause tab.past;
      }

  -- what is of one actor or the other
  record Refuses (actor : Actor) (reason : Denial) : Type 0 where
    once : AreOnce (next s event actor (rows.Refused req reason)) (without_req req (at_hand (open_among s.requests loads) hand))
    trips : AreLoadsOnce (next s event actor (rows.Refused req reason)) (without_req req (at_hand (open_among s.requests loads) hand))
    known : AreKnown (next s event actor (rows.Refused req reason))
    desks : AreDesksIn (next s event actor (rows.Refused req reason))

  refuses : (actor : Actor) (reason : Denial) → IsNoProcess actor → Refuses actor reason
  refuses actors.Coord reason is =
      record {
        once = refused_once s (at_hand (open_among s.requests loads) hand) event req reason (λ other. off) tab.once;
        trips = refused_loads s (at_hand (open_among s.requests loads) hand) event req (λ load. off) tab.trips reason;
        known = refused_known s event req off tab.known reason;
        desks = denied_desks s event actors.Coord req reason (λ proc e. absurd cc) tab.desks;
      }
  refuses actors.Ui reason is =
      record {
        once = denied_once s (at_hand (open_among s.requests loads) hand) event req reason (λ other. off) tab.once;
        trips = denied_loads s (at_hand (open_among s.requests loads) hand) event req (λ load. off) tab.trips reason;
        known = denied_known s event req off tab.known reason;
        desks = denied_desks s event actors.Ui req reason (λ proc e. absurd cc) tab.desks;
      }
  refuses actors.Start reason never = absurd never
  refuses (actors.Proc proc) reason never = absurd never

  pub refused_tab : (actor : Actor) (reason : Denial) → IsNoProcess actor → IsTab run (without_req req loads) (without_made req hand) (next s event actor (rows.Refused req reason))
  refused_tab actor reason is =
      record {
        sound = tab.sound;
        hangs = left_hangs s event actor tab.hangs (rows.Refused req reason) tt;
        docs = refused_docs s event actor tab.docs req reason;
        whose = left_kept s event actor tab.whose (rows.Refused req reason) tt;
        shown = refused_shown s event actor tab.shown req reason;
        homes = homing.left_rows s event actor tab.homes (rows.Refused req reason) tt;
        kept = keeping.left_rows s event actor tab.kept (rows.Refused req reason) tt;
        standing = refused_standing s event actor tab.standing req reason;
        movers = refused_movers s event actor tab.movers req reason;
        asked = refused_plain run s event actor tab.asked req reason end.other;
        queued = queued_after run s event actor tab.queued (rows.Refused req reason) end.other;
        loading = refused_loading s event actor tab.loading req reason;
        fragments = refused_fragments s event actor tab.fragments req reason waits_not;
        once = once_left s (next s event actor (rows.Refused req reason)) loads hand req (ended_else s.requests req (endings.Refused reason)) (refuses actor reason is).once;
        trips = trips_left s (next s event actor (rows.Refused req reason)) loads hand req (ended_else s.requests req (endings.Refused reason)) (refuses actor reason is).trips;
        known = (refuses actor reason is).known;
        desks = (refuses actor reason is).desks;
        ways = left_ways s event actor tab.ways (rows.Refused req reason) (refused_left s event actor req reason) refl refl;
        entries = refused_entries hand s event tab.entries req end.passed actor reason;
        flows = refused_if s event run hand req (record { other = end.other; held = end.passed.held; at_hand = end.passed.at_hand }) actor reason tab.flows;
        past = refused_past hand s event actor tab.docs req reason tab.past;
      }
