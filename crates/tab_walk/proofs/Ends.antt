-- Where none may be kept: the document that is left is discarded, then those below it, and then the navigable may be shown its target.
use Rattle.tab_doors.proofs.PassedOn.{sent_now}
use Rattle.tab_facts.proofs.Calm.Loads.{IsLoads, loads_sent}
use Rattle.tab_facts.specs.Calm.Loads.{LoadsHaveDocuments}
use Rattle.tab_evicts.proofs.Quiets.{no_loads, one_document}
use Rattle.tab_ids.specs.declared.StateId.{StateId}
use Rattle.tab_moves.specs.Moving.{AreLeftUnder}
use Rattle.tab_passes.specs.Leaving.{OffAreLeft}
use Rattle.tab_walk.proofs.OffTurns.{IsMoveRow, off_turn}
use Rattle.tab_walk.proofs.Cutoffs.{cut_gone}
use Rattle.seen_facts.proofs.Hang.Hung.{places_distinct}
use Rattle.seen_facts.specs.Hang.AsPlaces.{AreDistinct}
use Rattle.seen_facts.specs.Home.Homes.{AreHomed}
use Rattle.log_model.specs.AfterPlaces.{sleepers_with, without_doc}
use Rattle.log_model.specs.Checks.{may_go_on}
use Rattle.log_model.specs.Equal.{has_doc, holds}
use Rattle.log_model.specs.History.{History, has_nav, target_entry}
use Rattle.seen_facts.specs.Mover.Movers.{IsMovedBy}
use Rattle.log_model.specs.Places.{aim_of, is_gone}
use Rattle.log_model.specs.Seen.{Asked, Document, Place, Seen, asleep, document_of, request_of}
use Rattle.log_model.specs.declared.job.Why.{Why}
use Rattle.log_model.specs.declared.row_kind.RowKind.{RowKind}
use Rattle.seen_laws.proofs.Keyed.{find_on_same}
use Rattle.seen_laws.specs.InEvent.{now_of}
use Rattle.std.proofs.Common.{Bool, List, Option, Some, [], ap, cond, false, inr, refl, subst, sym, true, ℕ, ◌++◌, ◌==◌, ◌||◌, ◌∙◌, ◌∷◌, ◌≡◌, ◌≤◌, inl}
use Rattle.std.specs.Prelude.{option_map}
use Rattle.tab_doors.specs.Orders.{order_to}
use Rattle.tab_doors.specs.Working.{KeepsStore}
use Rattle.tab_doors.specs.declared.tables.Tables.{Tables}
use Rattle.tab_evicts.specs.Evicting.{IsGoneFor}
use Rattle.tab_ids.specs.declared.DocId.{DocId}
use Rattle.tab_ids.specs.declared.ReqId.{ReqId}
use Rattle.tab_moves.proofs.Shown.{AreEach, all_left, apart_new, each_below}
use Rattle.tab_moves.specs.Moving.{AllAsleep, MayCause}
use Rattle.tab_moves.proofs.PassedOn.{below_none}
pub use Rattle.tab_moves.proofs.Frees.{goes_on, only_one}
use Rattle.tab_moves.specs.Making.{show_why}
use Rattle.tab_moves.specs.PassedOn.{HasOnly, IsLeaving, left_then, without_all}
use Rattle.tab_moves.proofs.Frees.{docs_below}
use Rattle.tab_walk.proofs.Cutoffs.{cut_cause}
use Rattle.tab_walk.proofs.Downs.{each_then, none_below, place_then, visited_then}
use Rattle.tab_walk.proofs.Overs.{IsQuietRow, causes_over, loads_over, moved_over, parked_over}
use Rattle.tab_walk.proofs.Thens.{asleep_then, cut_then, leaves_then_, moving, none_down, other_then, to}
use Rattle.tab_walk.specs.Cutting.{AreCutBelow, IsCutting, MayCut, cut_of}
use Rattle.tab_walk.specs.Moving.{InMove, IsAimed, IsBound, IsPart, is_up_in}
use Rattle.seen_facts.proofs.Walk.Sleepers.{slept}
use Rattle.seen_facts.specs.Walk.Walking.{LeavesOthers}
use Rattle.log_model.specs.declared.job.Task.TheVariants as tasks
use Rattle.log_model.specs.declared.row_kind.RowKind.TheVariants as rows

none_of : (doc : DocId) (l : List DocId) → AreEach (λ (x : DocId). (x.0 == doc.0) ≡ false) l → has_doc l doc ≡ false
none_of doc [] are = refl
none_of doc (x ∷ l) are = rw (are.0) (none_of doc l are.2)

module _ (m : InMove) (out : List RowKind) (t : Tables) (leaving : IsLeaving m.pass (Some (cut_of m)) [] out t) (why : Why) (may : MayCut m t.running (now_of m.pass.event out) m.nav m.left m.state why) (new_out : List RowKind) (u : Tables) (is : new_out ≡ out ++ rows.Sent (order_to (now_of m.pass.event out) m.left why tasks.Discard) ∷ []) (keeps : KeepsStore t u) (leaving_ : IsLeaving m.pass (Some (cut_of m)) (left_then (now_of m.pass.event out) m.left []) new_out u) where
  abbrev s : Seen
  s = now_of m.pass.event out

  abbrev now : Seen
  now = now_of m.pass.event new_out

  abbrev bound : IsBound m t.running s
  bound = may.bound

  abbrev then_ : Seen
  then_ = cut_then m out t leaving why may

  now_is : then_ ≡ now
  now_is = sym (ap (λ (l : List RowKind). now_of m.pass.event l) is ∙ sent_now m.pass.event out (order_to s m.left why tasks.Discard) refl)

  quiet : HasOnly IsQuietRow out new_out
  quiet =
      only_one IsQuietRow out new_out (rows.Sent (order_to s m.left why tasks.Discard)) is (record { job = order_to s m.left why tasks.Discard; is = refl; puts = tt })

  each : (req : ReqId) (q : Asked) → request_of now req ≡ Some q → may_go_on now req ≡ true
  each = goes_on now u.running leaving_.going.tab.asked

  -- ---- it is aimed

  pub aimed_then : IsAimed m u.running now
  aimed_then =
      subst (λ (r : Option ReqId). IsAimed m r now) (sym keeps.running)
      (subst (λ (x : Seen). IsAimed m t.running x) now_is (record {
        place = slept (sleepers_with s m.left) why bound.place;
        placed = place_then m out t leaving why may m.nav bound.place bound.placed;
        visited = visited_then m out t leaving why may;
        target = bound.target;
        at = ap (λ (h : History). target_entry h.rows m.nav (aim_of then_)) (leaves_then_ m out t leaving why may).history ∙ ap (λ (step : ℕ). target_entry s.history.rows m.nav step) (leaves_then_ m out t leaving why may).aim ∙ bound.at;
        entry_is = bound.entry_is;
        last = last_then;
        apart = bound.apart;
        new = bound.new;
        new_found = other_then m out t leaving why may m.doc bound.apart ∙ bound.new_found;
        new_nav = bound.new_nav;
        usable = bound.usable;
        may = subst (λ (x : Seen). MayCause x m.cause) (sym now_is) (causes_over m.pass.event out new_out quiet each m.cause bound.may);
        moved = λ low. subst (λ (x : Seen). IsMovedBy x (show_why t.running m.cause) m.nav) (sym now_is) (moved_over m.pass.event out new_out quiet (show_why t.running m.cause) m.nav (bound.moved (subst (λ (n : ℕ). 1 ≤ n) epoch_then low)));
      }))
    where
      last_then : (slept (sleepers_with s m.left) why bound.place).last ≡ Some m.left
      last_then = by_test (has_nav (sleepers_with s m.left) bound.place.nav) ∙ bound.last
        where
          by_test : (b : Bool) → (let q : Place = cond b (record bound.place { status = asleep; why = why }) bound.place in q.last) ≡ bound.place.last
          by_test true = refl
          by_test false = refl

      epoch_then : (slept (sleepers_with s m.left) why bound.place).epoch.0 ≡ bound.place.epoch.0
      epoch_then = by_test (has_nav (sleepers_with s m.left) bound.place.nav)
        where
          by_test : (b : Bool) → (let q : Place = cond b (record bound.place { status = asleep; why = why }) bound.place in q.epoch.0) ≡ bound.place.epoch.0
          by_test true = refl
          by_test false = refl

  -- ---- those below are to be discarded

  found_then : document_of then_ m.left ≡ Some (record bound.old { is_discarded = true })
  found_then =
      find_on_same (λ (y : Document). y.nr.0) (λ (y : Document). record y { is_discarded = true }) m.left.0 s.documents (λ y. refl)
      ∙ ap (λ (o : Option Document). option_map (λ (y : Document). record y { is_discarded = true }) o) bound.old_found

  new_apart : has_doc (docs_below t.tree m.nav) m.doc ≡ false
  new_apart = by_up (is_up_in t.tree m.nav) refl
    where
      by_up : (b : Bool) → is_up_in t.tree m.nav ≡ b → has_doc (docs_below t.tree m.nav) m.doc ≡ false
      by_up true up =
          none_of m.doc (docs_below t.tree m.nav) (each_below (moving m out t leaving why may) m.nav m.left why out t leaving (to m out t leaving why may up) (λ (x : DocId). (x.0 == m.doc.0) ≡ false) (λ x its. apart_new (moving m out t leaving why may) m.nav m.left why out t leaving (to m out t leaving why may up) x its))
      by_up false down = ap (λ (l : List DocId). has_doc l m.doc) (none_below m out t leaving why may down)

  pub cutting_then : AreLeftUnder m.pass.event out m.nav why → OffAreLeft m.pass.event out why → (new : Document) → document_of s m.doc ≡ Some new → IsCutting (record { pass = m.pass; move = cut_of m; left = m.left; new = new }) m.state why (left_then s m.left []) (docs_below t.tree m.nav) new_out u
  cutting_then lefts off new there =
      record {
        leaving = leaving_;
        noted = refl;
        may = causes_over m.pass.event out new_out quiet each why (cut_cause m out t leaving why may);
        loads = loads_over m.pass.event out new_out quiet m.state may.loads;
        gone_for = subst (λ (x : Seen). IsGoneFor x m.state) now_is (record { doc = m.left; document = record bound.old { is_discarded = true }; found = found_then; discarded = refl; its_state = bound.old_state });
        gone_left = subst (λ (x : Seen). is_gone x m.left ≡ true) now_is (ap (λ (o : Option Document). holds (λ (d : Document). d.is_discarded || d.is_known_dead) o) found_then);
        each = subst (λ (x : Seen). AreCutBelow x m.state (docs_below t.tree m.nav)) now_is (each_then m out t leaving why may (subst (λ (x : Seen). AreHomed x) (sym now_is) leaving_.going.tab.homes) (subst (λ (x : Seen). AreDistinct x.places) (sym now_is) (places_distinct now leaving_.going.tab.sound leaving_.going.tab.hangs)));
        new_found = subst (λ (x : Seen). document_of x m.doc ≡ Some new) now_is (other_then m out t leaving why may m.doc bound.apart ∙ there);
        apart = new_apart;
        kept = subst (λ (x : Seen). x.kept ≡ []) now_is (ap (without_doc m.left) may.kept);
        off =
            off_turn m.pass.event out new_out why m.nav quiet_moves (subst (λ (x : Seen). LeavesOthers s x m.nav) now_is (leaves_then_ m out t leaving why may)) (places_distinct s leaving.going.tab.sound leaving.going.tab.hangs) (places_distinct now leaving_.going.tab.sound leaving_.going.tab.hangs) leaving_.going.tab.homes.homed
            (λ other place doc under at up. inl (lefts other place doc under at up)) off;
        free = may.free;
      }
    where
      quiet_moves : HasOnly IsMoveRow out new_out
      quiet_moves =
          only_one IsMoveRow out new_out (rows.Sent (order_to s m.left why tasks.Discard)) is (record { job = order_to s m.left why tasks.Discard; is = refl; moves = tt })

  -- ---- and none of what falls to be left is then

  pub all_gone : (x : DocId) → has_doc (without_all (docs_below t.tree m.nav) (left_then s m.left [])) x ≡ true → ⊥
  all_gone x has = by_up (is_up_in t.tree m.nav) refl
    where
      by_up : (b : Bool) → is_up_in t.tree m.nav ≡ b → ⊥
      by_up true up =
          all_left (moving m out t leaving why may) m.nav m.left why out t leaving (to m out t leaving why may up) (docs_below t.tree m.nav) refl x has
      by_up false down =
          let never : has_doc (without_all (docs_below t.tree m.nav) (left_then s m.left [])) x ≡ false =
          ap (λ (l : List DocId). has_doc (without_all l (left_then s m.left [])) x) (none_below m out t leaving why may down)
          ∙ ap (λ (l : List DocId). has_doc (l ++ []) x) (below_none s m.left (none_down m out t leaving why may down)) in
          let no_ : false ≡ true = sym never ∙ has in
          cc

  pub sleeps_then : AllAsleep now m.nav
  sleeps_then = subst (λ (x : Seen). AllAsleep x m.nav) now_is (asleep_then m out t leaving why may)

  pub part_cut : IsPart s now m.nav
  part_cut =
      record {
        others = subst (λ (x : Seen). LeavesOthers s x m.nav) now_is (leaves_then_ m out t leaving why may);
        parked = parked_over m.pass.event out new_out quiet;
        causes = causes_over m.pass.event out new_out quiet each;
        loading = subst (λ (x : Seen). LoadsHaveDocuments s → LoadsHaveDocuments x) now_is (loads_sent s m.pass.event.event m.pass.event.actor (order_to s m.left why tasks.Discard) (inr none_its));
      }
    where
      none_its : (d : Document) → document_of s m.left ≡ Some d → IsLoads s d.state → ⊥
      none_its d found loads_it =
          let states : d.state ≡ m.state = ap (λ (x : Document). x.state) (one_document s m.left d bound.old found bound.old_found) ∙ bound.old_state in
          no_loads s t.loads leaving.work.loads m.state (cut_gone m out t leaving why may).unloaded (subst (λ (x : StateId). IsLoads s x) states loads_it)
