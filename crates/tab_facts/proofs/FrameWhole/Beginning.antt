-- All that holds between two rows holds after a traversal begins, where none runs.
use Rattle.seen_facts.proofs.Coord.Unread.{next, started_left}
use Rattle.tab_facts.proofs.FrameTab.Lefts.{started_framed}
use Rattle.tab_facts.proofs.FrameWhole.FlowsEnds.{started_if}
use Rattle.tab_facts.specs.FrameWhole.Tab.{IsTab}
use Rattle.seen_facts.proofs.Hang.Rows.{left_hangs}
use Rattle.seen_facts.proofs.Home.Rows.{left_rows}
use Rattle.log_model.specs.Once.{delta_of}
use Rattle.log_model.specs.Places.{is_traversal}
use Rattle.log_model.specs.Seen.{Asked, Seen, request_of}
use Rattle.log_model.specs.declared.made.Made.{Made}
use Rattle.log_model.specs.declared.request.Request.{Request}
use Rattle.log_model.specs.declared.row_kind.Actor.{Actor}
use Rattle.seen_facts.proofs.Request.KnownRows.{started_known}
use Rattle.seen_facts.proofs.Request.Onces.{started_once}
use Rattle.seen_facts.proofs.Rest.Kept.{left_kept}
use Rattle.seen_facts.proofs.Rest.Rows.{left_rests}
use Rattle.std.proofs.Common.{List, None, Some, map, refl, true, ℕ, ℤ, ◌≡◌}
use Rattle.tab_ids.specs.declared.ProcId.{ProcId}
use Rattle.tab_ids.specs.declared.ReqId.{ReqId}
use Rattle.tab_ids.specs.declared.Step.{Step}
use Rattle.seen_facts.proofs.Transit.Rows.{left_ways}
use Rattle.log_model.specs.declared.action.Action.TheVariants as actions
use Rattle.log_model.specs.declared.request.Request.TheVariants as requests
use Rattle.log_model.specs.declared.row_kind.RowKind.TheVariants as rows

-- who asks for a traversal
pub goes_by : (what : Request) (delta : ℤ) → delta_of what ≡ Some delta → is_traversal what ≡ true
goes_by (requests.Go delta_) delta is = refl
goes_by (requests.Poke nav (actions.Go delta_)) delta is = refl
goes_by (requests.Poke nav (actions.Push memo reference)) delta is = absurd cc
goes_by (requests.Poke nav (actions.Replace memo reference)) delta is = absurd cc
goes_by (requests.Poke nav (actions.Fragment text)) delta is = absurd cc
goes_by (requests.Poke nav (actions.AddFrame frame)) delta is = absurd cc
goes_by (requests.Poke nav (actions.RemoveFrame frame)) delta is = absurd cc
goes_by (requests.Poke nav actions.Edit) delta is = absurd cc
goes_by (requests.Load nav mode address) delta is = absurd cc
goes_by (requests.Reload nav) delta is = absurd cc

module _ (home : ProcId) (hand : List Made) (s : Seen) (event : ℕ) (actor : Actor) (tab : IsTab home None hand s) (req : ReqId) (q : Asked) (goal : Step) (delta : ℤ) (there : request_of s req ≡ Some q) (asks : delta_of q.what ≡ Some delta) (open_ : q.ending ≡ None) where
  abbrev begun : Seen
  begun = next s event actor (rows.Started req (Some goal))

  pub begun_tab : IsTab home (Some req) hand begun
  begun_tab =
      record {
        framed = started_framed home hand s event actor tab.framed req q goal there (goes_by q.what delta asks) open_;
        sound = tab.sound;
        hangs = left_hangs s event actor tab.hangs (rows.Started req (Some goal)) tt;
        homes = left_rows s event actor tab.homes (rows.Started req (Some goal)) tt;
        kept = left_kept s event actor tab.kept (rows.Started req (Some goal)) tt;
        ways = left_ways s event actor tab.ways (rows.Started req (Some goal)) (started_left s event actor req (Some goal)) refl refl;
        rests = left_rests s event actor tab.rests (rows.Started req (Some goal)) (started_left s event actor req (Some goal)) refl refl refl;
        flows = started_if s event actor hand req (Some goal) tab.flows;
        once = started_once s (map (λ (made : Made). made.req) hand) event actor req (Some goal) tab.once;
        known = started_known s event actor req (Some goal) tab.known;
      }
