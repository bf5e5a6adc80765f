-- What the doors ask of who falls asleep, where documents are left.
use Rattle.log_model.specs.AfterPlaces.{sleepers_with}
use Rattle.log_model.specs.History.{has_nav}
use Rattle.nav_tree.specs.Tree.{discarded}
use Rattle.seen_laws.specs.InEvent.{now_of}
use Rattle.std.proofs.Common.{Bool, List, Option, ap, subst, sym, ◌∙◌, ◌≡◌}
use Rattle.tab_doors.specs.Keeping.{Move}
use Rattle.tab_doors.specs.Orders.{IsToGo}
use Rattle.tab_doors.specs.Sleeping.{AreThere}
use Rattle.tab_doors.specs.declared.tables.Tables.{Tables}
use Rattle.log_model.specs.declared.row_kind.RowKind.{RowKind}
use Rattle.tab_ids.specs.declared.DocId.{DocId}
use Rattle.tab_ids.specs.declared.NavId.{NavId}
use Rattle.tab_ids.specs.declared.StateId.{StateId}
use Rattle.tab_passes.proofs.Sleepers.{sleepers_same, sleepers_there}
use Rattle.tab_passes.specs.Leaving.{IsGoneAt, IsLeavingIn}
use Rattle.tab_passes.specs.Passing.{InPass}
use Rattle.tab_passes.specs.Sleepers.{sleepers_in}

module _ {sweeps : Bool} (p : InPass) (move : Option Move) (docs : List DocId) (out : List RowKind) (t : Tables) (leaving : IsLeavingIn sweeps p move docs out t) (doc : DocId) (navs : List NavId) (is : navs ≡ sleepers_in t.tree doc) where
  pub sleepers_are : (other : NavId) → has_nav (sleepers_with (now_of p.event out) doc) other ≡ has_nav navs other
  sleepers_are other =
      ap (λ (l : List NavId). has_nav l other) (sleepers_same (now_of p.event out) t.running t leaving.work.holds leaving.going.tab.sound leaving.going.tab.hangs doc ∙ sym is)

  -- they are in the tables, also once the document of a state is discarded
  pub sleepers_left : (state : StateId) → AreThere (discarded state t.tree) navs
  sleepers_left state =
      subst (λ (l : List NavId). AreThere (discarded state t.tree) l) (sym is) (sleepers_there (now_of p.event out) t.running t leaving.work.holds leaving.going.tab.sound leaving.going.tab.hangs state doc)

  pub sleepers_listed : AreThere t.tree navs
  sleepers_listed = sleepers_left (record { 0 = 0 })

  pub to_go : (state : StateId) → IsGoneAt (now_of p.event out) t.tree t.loads doc state → IsToGo (now_of p.event out) t.tree t.loads navs doc state
  to_go state gone =
      record {
        document = gone.document;
        found = gone.found;
        are = sleepers_are;
        its_state = gone.its_state;
        ready = gone.ready;
        its = gone.its;
        unloaded = gone.unloaded;
      }
