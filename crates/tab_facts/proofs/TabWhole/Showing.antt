-- All that holds between two rows holds after a navigable is shown a document, wherever it was before: it may be awake on another one, which then is left, and those below it may fall asleep.
-- This project's own.
use Rattle.tab_facts.proofs.Past.Orders.{activated_past}
use Rattle.seen_facts.proofs.Asked.Orders.{shown_plain}
use Rattle.seen_facts.proofs.Coord.Unread.{next}
use Rattle.seen_facts.specs.Coord.Leading.{coming, pending_view}
use Rattle.seen_facts.proofs.Desk.Orders.{shown_desks}
use Rattle.seen_facts.proofs.Desk.Orders as desk_orders
use Rattle.seen_facts.proofs.Doc.Orders.{shown_docs}
use Rattle.seen_facts.proofs.Entry.Shows.{IsToShow, shown_entries}
use Rattle.seen_facts.specs.Entry.Entries.{waiting}
use Rattle.tab_facts.proofs.FragmentOrders.Rows.{sent_other_fragments}
use Rattle.tab_facts.proofs.FrameWhole.Queued.{queued_after}
use Rattle.seen_facts.proofs.Hang.Members.{slice_has}
use Rattle.seen_facts.proofs.Hang.Parts.{state_is}
use Rattle.seen_facts.proofs.Hang.Rows.{left_hangs}
use Rattle.seen_facts.specs.Hang.Members.{Has}
use Rattle.seen_facts.proofs.Home.Shown.{one_row, shown_homed}
use Rattle.seen_facts.specs.Home.Homes.{IsOnAwake}
use Rattle.seen_facts.proofs.Kept.Orders.{shown_kept}
use Rattle.seen_facts.proofs.Load.Changes.{row_free}
use Rattle.seen_facts.proofs.Load.Leaves.{IsFree}
use Rattle.seen_facts.proofs.Load.Orders.{shown_loading}
use Rattle.seen_facts.proofs.LoadWhereabouts.Rows.{sent_loads}
use Rattle.seen_facts.proofs.LoadWhereabouts.Trips.{IsNoFragment}
use Rattle.log_model.specs.Orders.{is_usable}
use Rattle.log_model.specs.Seen.{Document, Place, Seen, Status, asleep, awake, desk_of, document_of, lost, place_of}
use Rattle.log_model.specs.Views.{View}
use Rattle.log_model.specs.declared.job.Job.{Job}
use Rattle.log_model.specs.declared.job.Task.{Task}
use Rattle.log_model.specs.declared.made.Made.{Made}
use Rattle.log_model.specs.declared.row.Row.{Row}
use Rattle.log_model.specs.declared.row_kind.Actor.{Actor}
use Rattle.seen_facts.proofs.Mover.Orders.{MovesShown, shown_movers}
use Rattle.seen_facts.specs.Mover.Movers.{IsMovedBy}
use Rattle.seen_facts.proofs.Place.Orders.{IsToStand, shown_standing}
use Rattle.seen_facts.proofs.Request.KnownRows.{sent_known}
use Rattle.seen_facts.proofs.Request.Onces.{sent_once}
use Rattle.seen_facts.proofs.Rest.Kept.{IsNoMaking, left_kept}
use Rattle.seen_laws.proofs.Keyed.{find_has}
use Rattle.std.proofs.Common.{Bool, List, None, Option, Some, [], ap, arith, false, inl, not, refl, subst, sym, true, ℕ, ◌&&◌, ◌<◌, ◌==◌, ◌∙◌, ◌∷◌, ◌≡◌, ◌≤◌}
use Rattle.std.specs.Prelude.{is_some, nat_lt, slice_get}
use Rattle.tab_ids.specs.declared.DocId.{DocId}
use Rattle.tab_ids.specs.declared.Epoch.{Epoch}
use Rattle.tab_ids.specs.declared.NavId.{NavId}
use Rattle.tab_ids.specs.declared.ProcId.{ProcId}
use Rattle.tab_ids.specs.declared.ReqId.{ReqId}
use Rattle.tab_ids.specs.declared.StateId.{StateId}
use Rattle.tab_facts.proofs.TabWhole.Above.{moves_own}
use Rattle.tab_facts.proofs.TabWhole.Sending.{IsToMade, sent_home}
use Rattle.tab_facts.proofs.TabWhole.ShowFlows.{none_coming, show_if}
use Rattle.tab_facts.proofs.TabWhole.OpenAmong.{once_on, sent_ends, trips_on}
use Rattle.tab_facts.specs.TabWhole.Tab.{IsTab, at_hand, open_among}
use Rattle.seen_facts.proofs.Transit.Rows.{shown_ways}
use Rattle.log_model.specs.declared.job.Task.TheVariants as tasks
use Rattle.log_model.specs.declared.row_kind.RowKind.TheVariants as rows
use Rattle.tab_facts.proofs.Shown.Orders.{shown_shown}

-- a document may be shown at an entry under an epoch
pub record IsShowOf (s : Seen) (job : Job) (d : Document) (place : Place) (target : Row) (epoch : Epoch) : Type 0 where
  -- the order goes to the document, where it lives
  pub found : document_of s job.doc ≡ Some d
  pub home : d.proc ≡ job.proc
  pub first : job.incarnation ≡ 0
  -- its navigable has a place, and the epoch is new to it
  pub placed : place_of s d.nav ≡ Some place
  pub later : place.epoch.0 < epoch.0
  -- the entry is in the history, and the document is a usable one of its state
  pub there : Has s.history.rows target
  pub usable : is_usable d target.state ≡ true
  -- the order's reason moved the navigable, unless this is its first document
  pub moved : nat_lt 1 epoch.0 ≡ true → IsMovedBy s job.why d.nav
  -- where it sleeps, the navigable above is awake on a document of the state on which it hangs
  pub up : place.status ≡ asleep → (parent : NavId) (others : List NavId) → place.above ≡ parent ∷ others → IsOnAwake s place parent

module _ (run : Option ReqId) (loads : List ReqId) (hand : List Made) (s : Seen) (event : ℕ) (actor : Actor) (tab : IsTab run loads hand s) (job : Job) (d : Document) (place : Place) (target : Row) (epoch : Epoch) (long at : ℕ) (task : job.task ≡ tasks.Activate target.entry epoch long at target.memo target.address) (show : IsShowOf s job d place target epoch) where
  abbrev pub shown : Seen
  shown = next s event actor (rows.Sent job)

  -- ---- the document

  usable_parts : (d.state ≡ target.state) × (d.is_ready ≡ true) × (d.is_discarded ≡ false) × (d.is_known_dead ≡ false)
  usable_parts = by_parts (d.state.0 == target.state.0) d.is_ready d.is_discarded d.is_known_dead refl show.usable
    where
      by_parts : (a b c e : Bool) → (d.state.0 == target.state.0) ≡ a → (a && b && not c && not e) ≡ true → (d.state ≡ target.state) × (b ≡ true) × (c ≡ false) × (e ≡ false)
      by_parts true true false false is h = (state_is d.state target.state is, refl, refl, refl)
      by_parts true true false true is h = absurd cc
      by_parts true true true e is h = absurd cc
      by_parts true false c e is h = absurd cc
      by_parts false b c e is h = absurd cc

  to : IsToMade s job d
  to = record { found = show.found; ready = usable_parts.1; home = show.home; first = show.first }

  -- its orders lead to a view
  some_view : (view : View) × (pending_view d (desk_of s job.proc) ≡ Some view)
  some_view =
      by_view (pending_view d (desk_of s job.proc)) refl
      (ap (λ (p : ProcId). is_some (pending_view d (desk_of s p))) (sym show.home) ∙ tab.shown.viewed job.doc d show.found usable_parts.2)
    where
      by_view : (o : Option View) → pending_view d (desk_of s job.proc) ≡ o → is_some o ≡ true → (view : View) × (pending_view d (desk_of s job.proc) ≡ Some view)
      by_view None e some = absurd cc
      by_view (Some view) e some = (view, e)

  -- no ongoing load has its document state, which an entry has
  free : IsFree s d.state
  free = subst (λ (x : StateId). IsFree s x) (sym usable_parts.0) (row_free s target tab.loading show.there)

  -- nothing is coming of it under the new epoch
  fresh : coming (waiting s hand) (desk_of s d.proc) job.doc epoch ≡ []
  fresh =
      subst (λ (p : ProcId). coming (waiting s hand) (desk_of s p) job.doc epoch ≡ []) (sym show.home)
      (subst (λ (n : DocId). coming (waiting s hand) (desk_of s job.proc) n epoch ≡ []) number
      (none_coming s event actor hand job d target.entry epoch long at target.memo target.address task (sent_home run loads hand s tab job d to) show.found place show.placed show.later tab.flows))
    where
      number : d.nr ≡ job.doc
      number =
          ap (λ (n : ℕ). let x : DocId = record { 0 = n } in x) (find_has (λ (x : Document). x.nr.0) job.doc.0 s.documents d show.found)

  -- ---- the entry

  -- it has one row
  one : (row : Row) → Has s.history.rows row → row.entry ≡ target.entry → row ≡ target
  one row has same = one_row s.history.rows target row (tab.sound.entries target.entry) show.there has same

  fields : (i : ℕ) (row : Row) → slice_get s.history.rows i ≡ Some row → row.entry ≡ target.entry → (row.address ≡ target.address) × (row.memo ≡ target.memo)
  fields i row at_ same =
      let is : row ≡ target = one row (slice_has s.history.rows i row at_) same in
      (ap (λ (r : Row). r.address) is, ap (λ (r : Row). r.memo) is)

  -- ---- the navigable

  -- where it is awake, the one above is so already
  on_awake : (parent : NavId) (others : List NavId) → place.above ≡ parent ∷ others → IsOnAwake s place parent
  on_awake = by_status place.status refl
    where
      by_status : (st : Status) → place.status ≡ st → (parent : NavId) (others : List NavId) → place.above ≡ parent ∷ others → IsOnAwake s place parent
      by_status (awake doc) e = tab.homes.hung d.nav place doc show.placed e
      by_status asleep e = show.up e
      by_status lost e = absurd ((tab.standing d.nav place show.placed).unlost e)

  moves : MovesShown s job d.nav epoch
  moves = moves_own run loads hand s tab job d.nav place epoch show.placed show.later show.moved

  -- ---- what each fact asks

  real : 1 ≤ epoch.0
  real = omega (arith, show.later)

  no_earlier : place.epoch.0 ≤ epoch.0
  no_earlier = omega (arith, show.later)

  to_stand : IsToStand s job d target.entry epoch
  to_stand =
      record {
        found = show.found;
        later = real;
        of_state = λ row has navs same. ap (λ (r : Row). r.state) (one row has same) ∙ sym usable_parts.0;
      }

  to_show : IsToShow hand s job d target.entry epoch
  to_show =
      record { found = show.found; known = inl (record { row = target; there = show.there; is = refl }); fresh = fresh }

  abbrev ordered : desk_orders.IsSentHome s job
  ordered =
      record {
        d = d;
        found = show.found;
        home = show.home;
        ready = usable_parts.1;
        place = place;
        placed = show.placed;
        incarnation = show.first;
      }

  pub show_tab : IsTab run loads hand shown
  show_tab =
      record {
        sound = tab.sound;
        hangs = left_hangs s event actor tab.hangs (rows.Sent job) tt;
        docs = shown_docs s event actor tab.docs job d show.found target.entry epoch long at target.memo target.address task;
        whose = left_kept s event actor tab.whose (rows.Sent job) (subst (λ (t : Task). IsNoMaking t) (sym task) tt);
        shown = shown_shown s event actor tab.shown job d show.found target.entry epoch long at target.memo target.address task;
        homes = shown_homed s event actor job d target.entry epoch long at target.memo target.address task show.found tab.sound tab.hangs tab.homes place show.placed usable_parts.1 usable_parts.2 usable_parts.3 target show.there refl (sym usable_parts.0) on_awake;
        kept = shown_kept s event actor tab.kept job d target.entry epoch long at target.memo target.address task show.found usable_parts.1 place show.placed;
        standing = shown_standing s event actor tab.standing job d target.entry epoch long at target.memo target.address task to_stand;
        movers = shown_movers s event actor tab.movers job d target.entry epoch long at target.memo target.address task show.found moves;
        asked = shown_plain run s event actor tab.asked job target.entry epoch long at target.memo target.address task;
        queued = queued_after run s event actor tab.queued (rows.Sent job) tt;
        loading = shown_loading s event actor tab.loading job d target.entry epoch long at target.memo target.address task show.found free;
        fragments = sent_other_fragments s event actor tab.fragments job (subst (λ (t : Task). IsNoFragment t) (sym task) tt);
        once = once_on s (next s event actor (rows.Sent job)) loads hand (sent_ends s event actor job) (sent_once s (at_hand (open_among s.requests loads) hand) event actor job tab.once);
        trips = trips_on s (next s event actor (rows.Sent job)) loads hand (sent_ends s event actor job) (sent_loads s (at_hand (open_among s.requests loads) hand) event actor tab.trips job (subst (λ (t : Task). IsNoFragment t) (sym task) tt));
        known = sent_known s event actor job tab.known;
        desks = shown_desks s event actor tab.desks job ordered target.entry epoch long at target.memo target.address task real no_earlier;
        ways = shown_ways s event actor tab.ways job d target.entry epoch long at target.memo target.address task show.found show.home;
        entries = shown_entries hand s event actor tab.entries job d target.entry epoch long at target.memo target.address task to_show;
        flows = show_if s event actor hand job d target.entry epoch long at target.memo target.address task (sent_home run loads hand s tab job d to) show.found place show.placed show.later tab.flows some_view.0 some_view.1 fields;
        past = activated_past hand s event actor tab.docs job (sent_home run loads hand s tab job d to) d target.entry epoch long at target.memo target.address task show.found (λ before there. (let both : Some place ≡ Some before = sym show.placed ∙ there in let one : place ≡ before = cc in subst (λ (p : Place). p.epoch.0 < epoch.0) one show.later)) tab.flows.within tab.past;
      }
