-- All that holds between two rows holds after a document is sent to a fragment, for a load at hand: that load is on its way then.
-- This project's own.
use Rattle.log_model.specs.Equal.{holds}
use Rattle.tab_facts.proofs.Past.Orders.{told_past}
use Rattle.seen_facts.proofs.Asked.Orders.{fragment_plain}
use Rattle.seen_facts.proofs.Coord.Unread.{next}
use Rattle.seen_facts.proofs.Desk.Orders.{told_desks}
use Rattle.seen_facts.proofs.Desk.Orders as desk_orders
use Rattle.seen_facts.proofs.Doc.Orders.{told_docs}
use Rattle.seen_facts.proofs.Doc.Orders as doc_orders
use Rattle.seen_facts.proofs.Entry.Orders.{TellsAlone, sent_entries}
use Rattle.tab_facts.proofs.FragmentOrders.Works.{sent_fragments}
use Rattle.tab_facts.proofs.FrameWhole.Queued.{queued_after}
use Rattle.seen_facts.proofs.Hang.Rows.{left_hangs}
use Rattle.seen_facts.proofs.Home.Rows.{told_homed}
use Rattle.seen_facts.proofs.Kept.Orders.{told_kept}
use Rattle.seen_facts.proofs.Kept.Orders as kept_orders
use Rattle.seen_facts.proofs.Load.Docs as load_docs
use Rattle.seen_facts.proofs.Load.Orders.{told_loading}
use Rattle.seen_facts.proofs.LoadWhereabouts.Begun.{IsAtHand, sent_fragment}
use Rattle.seen_facts.proofs.LoadWhereabouts.Begun as begun
use Rattle.seen_facts.proofs.LoadWhereabouts.Others.{sent_fragment_once}
use Rattle.seen_facts.specs.LoadWhereabouts.Whereabouts.{waits_to_fragment, AreLoadsOnce}
use Rattle.log_model.specs.Places.{is_load}
use Rattle.log_model.specs.Seen.{Asked, Document, Seen, request_of, request_in}
use Rattle.log_model.specs.declared.job.Job.{Job}
use Rattle.log_model.specs.declared.job.Task.{Task}
use Rattle.log_model.specs.declared.made.Made.{Made}
use Rattle.log_model.specs.declared.request.Mode.{Mode}
use Rattle.log_model.specs.declared.row_kind.Actor.{Actor}
use Rattle.seen_facts.proofs.Mover.Orders.{told_movers}
use Rattle.seen_facts.proofs.Place.Orders.{told_standing}
use Rattle.seen_facts.proofs.Request.KnownRows.{sent_known}
use Rattle.seen_facts.proofs.Rest.Kept.{IsNoMaking, left_kept}
use Rattle.std.proofs.Common.{Bool, List, None, Option, Some, arith, cond, false, refl, subst, sym, true, ℕ, ◌&&◌, ◌+◌, ◌∷◌, ◌≡◌, ap, ◌∙◌}
use Rattle.std.specs.Prelude.{is_none}
use Rattle.tab_ids.specs.declared.ReqId.{ReqId}
use Rattle.tab_facts.proofs.TabWhole.FragmentFlows.{fragment_if}
use Rattle.tab_facts.proofs.TabWhole.Sending.{IsToMade, ordered_home, sent_home}
use Rattle.tab_facts.proofs.TabWhole.OpenAmong.{first_once, first_trips, once_on, sent_ends, trips_on, unended_open}
use Rattle.tab_facts.specs.TabWhole.Tab.{IsTab, at_hand, has_ended, open_among}
use Rattle.seen_facts.proofs.Transit.Rows.{told_ways}
use Rattle.log_model.specs.declared.job.Task.TheVariants as tasks
use Rattle.log_model.specs.declared.row_kind.RowKind.TheVariants as rows
use Rattle.tab_facts.proofs.Shown.Orders.{told_shown}

-- the request is a load that hasn't ended, for which no document was sent to a fragment yet
pub record IsLoadUnsent (s : Seen) (req : ReqId) (q : Asked) : Type 0 where
  pub found : request_of s req ≡ Some q
  pub load : is_load q.what ≡ true
  pub open_ : q.ending ≡ None
  pub unsent : q.fragment ≡ None

module _ (run : Option ReqId) (loads : List ReqId) (hand : List Made) (s : Seen) (event : ℕ) (actor : Actor) (req : ReqId) (tab : IsTab run (req ∷ loads) hand s) (q : Asked) (of : IsLoadUnsent s req q) (job : Job) (mode : Mode) (address : List ℕ) (d : Document) (task : job.task ≡ tasks.DoFragment req mode address) (to : IsToMade s job d) where
  abbrev pub ordered : Seen
  ordered = next s event actor (rows.Sent job)

  its_open : holds has_ended (request_in s.requests req) ≡ false
  its_open = ap (λ (o : Option Asked). holds has_ended o) of.found ∙ unended_open q of.open_

  its_trips : AreLoadsOnce s (req ∷ at_hand (open_among s.requests loads) hand)
  its_trips = first_trips s req loads hand its_open tab.trips

  -- a load at hand hasn't begun
  unstarted : q.is_started ≡ false
  unstarted =
      let at : IsAtHand q = (begun.at_hand s (at_hand (open_among s.requests loads) hand) req q of.found of.load its_trips).0 in
      by_test q.is_started (is_none q.ending) (is_load q.what) (waits_to_fragment q) at.unended of.load at.still
    where
      by_test : (a b c w : Bool) → b ≡ true → c ≡ true → (let n : ℕ = cond ((a && b) && c) 1 0 in n) + (let n : ℕ = cond w 1 0 in n) ≡ 0 → a ≡ false
      by_test false b c w open_ load none = refl
      by_test true true true w open_ load none = absurd (let never : 1 + (let n : ℕ = cond w 1 0 in n) ≡ 0 = none in omega (arith, never))
      by_test true true false w open_ load none = absurd cc
      by_test true false c w open_ load none = absurd cc

  pub send_fragment_tab : IsTab run loads hand ordered
  send_fragment_tab =
      record {
        sound = tab.sound;
        hangs = left_hangs s event actor tab.hangs (rows.Sent job) tt;
        docs = told_docs s event actor tab.docs job (subst (λ (t : Task). doc_orders.OnlyTells s event actor tab.docs job t) (sym task) tt);
        whose = left_kept s event actor tab.whose (rows.Sent job) (subst (λ (t : Task). IsNoMaking t) (sym task) tt);
        shown = told_shown s event actor tab.shown job (subst (λ (t : Task). load_docs.MakesNone t) (sym task) tt) (subst (λ (t : Task). load_docs.ShowsNone t) (sym task) tt);
        homes = told_homed s event actor tab.homes job (tasks.DoFragment req mode address) task tt;
        kept = told_kept s event actor tab.kept job (subst (λ (t : Task). kept_orders.ShowsNone t) (sym task) tt);
        standing = told_standing s event actor tab.standing job (tasks.DoFragment req mode address) task tt;
        movers = told_movers s event actor tab.movers job (tasks.DoFragment req mode address) task tt;
        asked = fragment_plain run s event actor tab.asked job req mode address q task of.found of.load unstarted;
        queued = queued_after run s event actor tab.queued (rows.Sent job) tt;
        loading = told_loading s event actor tab.loading job (subst (λ (t : Task). load_docs.MakesNone t) (sym task) tt) (subst (λ (t : Task). load_docs.ShowsNone t) (sym task) tt);
        fragments = sent_fragments s event actor job req mode address q task of.found of.load of.open_ of.unsent tab.fragments;
        once = once_on s ordered loads hand (sent_ends s event actor job) (sent_fragment_once s (at_hand (open_among s.requests loads) hand) event actor job req (rw of.found of.load) (first_once s req loads hand its_open tab.once));
        trips = trips_on s ordered loads hand (sent_ends s event actor job) (sent_fragment s event actor job req mode address task (at_hand (open_among s.requests loads) hand) q of.found of.load (tab.fragments.unsent req q of.found of.load of.unsent) its_trips);
        known = sent_known s event actor job tab.known;
        desks = told_desks s event actor tab.desks job (subst (λ (t : Task). desk_orders.IsTold t) (sym task) tt) (ordered_home run (req ∷ loads) hand s tab job d to);
        ways = told_ways s event actor tab.ways job (tasks.DoFragment req mode address) task tt;
        entries = sent_entries hand s event actor tab.entries job (subst (λ (t : Task). TellsAlone t) (sym task) tt);
        flows = fragment_if s event actor hand job req mode address task (sent_home run (req ∷ loads) hand s tab job d to) tab.flows;
        past = told_past hand s event actor tab.docs job (sent_home run (req ∷ loads) hand s tab job d to) (subst (λ (t : Task). load_docs.MakesNone t) (sym task) tt) (subst (λ (t : Task). load_docs.ShowsNone t) (sym task) tt) tab.past;
      }
