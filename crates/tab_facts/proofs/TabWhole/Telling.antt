-- All that holds between two rows holds after a document is told length and index.
-- This project's own.
use Rattle.tab_facts.proofs.Past.Orders.{told_past}
use Rattle.seen_facts.proofs.Asked.Orders.{told_plain}
use Rattle.seen_facts.proofs.Coord.Unread.{next}
use Rattle.seen_facts.proofs.Desk.Orders.{told_desks}
use Rattle.seen_facts.proofs.Desk.Orders as desk_orders
use Rattle.seen_facts.proofs.Doc.Orders.{told_docs}
use Rattle.seen_facts.proofs.Doc.Orders as doc_orders
use Rattle.seen_facts.proofs.Entry.Orders.{TellsAlone, sent_entries}
use Rattle.tab_facts.proofs.FragmentOrders.Rows.{sent_other_fragments}
use Rattle.tab_facts.proofs.FrameWhole.FlowsTold.{update_if}
use Rattle.tab_facts.proofs.FrameWhole.Queued.{queued_after}
use Rattle.seen_facts.proofs.Hang.Rows.{left_hangs}
use Rattle.seen_facts.proofs.Home.Rows.{told_homed}
use Rattle.seen_facts.proofs.Kept.Orders.{told_kept}
use Rattle.seen_facts.proofs.Kept.Orders as kept_orders
use Rattle.seen_facts.proofs.Load.Docs as load_docs
use Rattle.seen_facts.proofs.Load.Orders.{told_loading}
use Rattle.seen_facts.proofs.LoadWhereabouts.Rows.{sent_loads}
use Rattle.seen_facts.proofs.LoadWhereabouts.Trips.{IsNoFragment}
use Rattle.log_model.specs.Seen.{Document, Seen}
use Rattle.log_model.specs.declared.job.Job.{Job}
use Rattle.log_model.specs.declared.job.Task.{Task}
use Rattle.log_model.specs.declared.made.Made.{Made}
use Rattle.log_model.specs.declared.row_kind.Actor.{Actor}
use Rattle.seen_facts.proofs.Mover.Orders.{told_movers}
use Rattle.seen_facts.proofs.Place.Orders.{told_standing}
use Rattle.seen_facts.proofs.Request.KnownRows.{sent_known}
use Rattle.seen_facts.proofs.Request.Onces.{sent_once}
use Rattle.seen_facts.proofs.Rest.Kept.{IsNoMaking, left_kept}
use Rattle.std.proofs.Common.{List, Option, subst, sym, ℕ, ◌≡◌}
use Rattle.tab_ids.specs.declared.ReqId.{ReqId}
use Rattle.tab_facts.proofs.TabWhole.Sending.{IsToMade, ordered_home, sent_home}
use Rattle.tab_facts.proofs.TabWhole.OpenAmong.{once_on, sent_ends, trips_on}
use Rattle.tab_facts.specs.TabWhole.Tab.{IsTab, at_hand, open_among}
use Rattle.seen_facts.proofs.Transit.Rows.{told_ways}
use Rattle.log_model.specs.declared.job.Task.TheVariants as tasks
use Rattle.log_model.specs.declared.row_kind.RowKind.TheVariants as rows
use Rattle.tab_facts.proofs.Shown.Orders.{told_shown}

-- an order that tells a document that is made its length and index
pub tell_tab : (run : Option ReqId) (loads : List ReqId) (hand : List Made) (s : Seen) (event : ℕ) (actor : Actor) → (tab : IsTab run loads hand s) → (job : Job) (long at : ℕ) (d : Document) → job.task ≡ tasks.Update long at → IsToMade s job d → IsTab run loads hand (next s event actor (rows.Sent job))
tell_tab run loads hand s event actor tab job long at d task to =
    record {
      sound = tab.sound;
      hangs = left_hangs s event actor tab.hangs (rows.Sent job) tt;
      docs = told_docs s event actor tab.docs job (subst (λ (t : Task). doc_orders.OnlyTells s event actor tab.docs job t) (sym task) tt);
      whose = left_kept s event actor tab.whose (rows.Sent job) (subst (λ (t : Task). IsNoMaking t) (sym task) tt);
      shown = told_shown s event actor tab.shown job (subst (λ (t : Task). load_docs.MakesNone t) (sym task) tt) (subst (λ (t : Task). load_docs.ShowsNone t) (sym task) tt);
      homes = told_homed s event actor tab.homes job (tasks.Update long at) task tt;
      kept = told_kept s event actor tab.kept job (subst (λ (t : Task). kept_orders.ShowsNone t) (sym task) tt);
      standing = told_standing s event actor tab.standing job (tasks.Update long at) task tt;
      movers = told_movers s event actor tab.movers job (tasks.Update long at) task tt;
      asked = told_plain run s event actor tab.asked job (tasks.Update long at) task tt;
      queued = queued_after run s event actor tab.queued (rows.Sent job) tt;
      loading = told_loading s event actor tab.loading job (subst (λ (t : Task). load_docs.MakesNone t) (sym task) tt) (subst (λ (t : Task). load_docs.ShowsNone t) (sym task) tt);
      fragments = sent_other_fragments s event actor tab.fragments job (subst (λ (t : Task). IsNoFragment t) (sym task) tt);
      once = once_on s (next s event actor (rows.Sent job)) loads hand (sent_ends s event actor job) (sent_once s (at_hand (open_among s.requests loads) hand) event actor job tab.once);
      trips = trips_on s (next s event actor (rows.Sent job)) loads hand (sent_ends s event actor job) (sent_loads s (at_hand (open_among s.requests loads) hand) event actor tab.trips job (subst (λ (t : Task). IsNoFragment t) (sym task) tt));
      known = sent_known s event actor job tab.known;
      desks = told_desks s event actor tab.desks job (subst (λ (t : Task). desk_orders.IsTold t) (sym task) tt) (ordered_home run loads hand s tab job d to);
      ways = told_ways s event actor tab.ways job (tasks.Update long at) task tt;
      entries = sent_entries hand s event actor tab.entries job (subst (λ (t : Task). TellsAlone t) (sym task) tt);
      flows = update_if s event actor hand job long at task (sent_home run loads hand s tab job d to) tab.flows;
      past = told_past hand s event actor tab.docs job (sent_home run loads hand s tab job d to) (subst (λ (t : Task). load_docs.MakesNone t) (sym task) tt) (subst (λ (t : Task). load_docs.ShowsNone t) (sym task) tt) tab.past;
    }
