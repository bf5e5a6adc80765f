-- A tab that was just opened, at any address and without a handler, is as one is between two rows, and between two events.
use Rattle.tab_facts.proofs.Past.Rows.{opened_past}
use Rattle.seen_facts.proofs.Asked.Rows.{opened_plain}
use Rattle.seen_facts.proofs.Coord.Unread.{next}
use Rattle.seen_facts.specs.Coord.Flowing.{Flows}
use Rattle.seen_facts.proofs.Desk.Rows.{opened_desks}
use Rattle.seen_facts.proofs.Doc.Making.{opened_docs}
use Rattle.seen_facts.proofs.Entry.Opened.{opened_entries}
use Rattle.tab_facts.proofs.FragmentOrders.Rows.{opened_fragments}
use Rattle.tab_facts.proofs.FrameWhole.FlowsAlike.{flows_if}
use Rattle.tab_facts.proofs.FrameWhole.Queued.{queued_none}
use Rattle.seen_facts.proofs.Kept.Rows.{opened_kept}
use Rattle.seen_facts.proofs.Load.Begun.{opened_loading}
use Rattle.seen_facts.proofs.LoadWhereabouts.Rows.{opened_loads}
use Rattle.log_model.specs.Seen.{Desk, Seen, desk_of, empty_desk, nothing}
use Rattle.log_model.specs.declared.row_kind.Actor.{Actor}
use Rattle.seen_facts.proofs.Mover.Rows.{opened_movers}
use Rattle.seen_facts.proofs.Place.Rows.{opened_standing}
use Rattle.seen_facts.specs.Request.Knowns.{AreKnownAt}
use Rattle.seen_facts.proofs.Rest.Opened.{opened_composed}
use Rattle.seen_facts.specs.Rest.Between.{IsComposed}
use Rattle.tab_facts.proofs.Shown.Opened.{opened_shown}
use Rattle.std.proofs.Common.{Bool, List, None, [], arith, cond, false, true, ℕ, ◌==◌, ◌≡◌, ◌≤◌}
use Rattle.tab_ids.specs.declared.DocId.{DocId}
use Rattle.tab_ids.specs.declared.EntryId.{EntryId}
use Rattle.tab_ids.specs.declared.ProcId.{ProcId}
use Rattle.tab_ids.specs.declared.StateId.{StateId}
use Rattle.tab_facts.specs.TabWhole.Tab.{IsTab}
use Rattle.log_model.specs.declared.row_kind.RowKind.TheVariants as rows

-- the first entry is numbered by the coordinator, and entry, document state and document have the first number
pub record AreFirst (entry : EntryId) (state : StateId) (doc : DocId) : Type 0 where
  pub maker : entry.maker ≡ 0
  pub entry_nr : entry.nr ≡ 1
  pub state_nr : state.0 ≡ 1
  pub doc_nr : doc.0 ≡ 1

module _ (event : ℕ) (actor : Actor) (entry : EntryId) (state : StateId) (doc : DocId) (proc : ProcId) (address : List ℕ) (first : AreFirst entry state doc) where
  abbrev pub opened_seen : Seen
  opened_seen = next nothing event actor (rows.Opened entry state doc proc None address)

  composed : IsComposed opened_seen
  composed = opened_composed event actor entry state doc proc None address

  -- its process has nothing
  bare : (p : ProcId) → AreKnownAt [] (desk_of opened_seen p)
  bare p = by_test (proc.0 == p.0)
    where
      by_test : (b : Bool) → AreKnownAt [] (let d : Desk = cond b (empty_desk proc) (empty_desk p) in d)
      by_test true = record { pokes = tt; mades = tt }
      by_test false = record { pokes = tt; mades = tt }

  entry_low : entry.nr ≤ 1
  entry_low = (let n : entry.nr ≡ 1 = first.entry_nr in omega (arith, n))

  state_low : state.0 ≤ 1
  state_low = (let n : state.0 ≡ 1 = first.state_nr in omega (arith, n))

  pub opened_flows : Flows opened_seen
  opened_flows = composed.flows

  pub opened_tab : IsTab None [] [] opened_seen
  opened_tab =
      record {
        sound = composed.sound;
        hangs = composed.hangs;
        docs = opened_docs event actor entry state doc proc address;
        whose = composed.kept;
        shown = opened_shown event actor entry state doc proc None address;
        homes = composed.homes;
        kept = opened_kept event actor entry state doc proc None address;
        standing = opened_standing event actor entry state doc proc None address;
        movers = opened_movers event actor entry state doc proc None address;
        asked = opened_plain event actor entry state doc proc None address;
        queued = queued_none opened_seen;
        loading = opened_loading event actor entry state doc proc None address state_low;
        fragments = opened_fragments event actor entry state doc proc None address;
        once = composed.once;
        trips = opened_loads event actor entry state doc proc None address;
        known = record { desks = bare; joined = tt; parked = tt };
        desks = opened_desks event actor entry state doc proc None address;
        ways = composed.ways;
        entries = opened_entries event actor entry state doc proc None address first.maker entry_low first.doc_nr;
        flows = flows_if opened_seen composed.flows;
        past = opened_past event actor entry state doc proc None address;
      }
