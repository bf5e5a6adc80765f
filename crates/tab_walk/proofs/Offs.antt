-- A navigable sets off: it leaves the document that it is awake on, or is asleep already.
use Rattle.seen_facts.proofs.Hang.Forms.{nav_is}
use Rattle.seen_facts.specs.Home.Homes.{IsHomed}
use Rattle.log_model.proofs.Refl.{nat_eq_refl}
use Rattle.log_model.specs.Equal.{holds}
use Rattle.log_model.specs.Places.{is_asleep, is_awake_on}
use Rattle.log_model.specs.Seen.{Asked, Place, Seen, Status, asleep, awake, lost, place_of}
use Rattle.log_model.specs.declared.job.Why.{Why}
use Rattle.log_model.specs.declared.row_kind.RowKind.{RowKind}
use Rattle.nav_tree.specs.declared.nav.Nav.{Nav}
use Rattle.nav_tree.specs.declared.node.Node.{Node}
use Rattle.nav_tree.specs.declared.status.NavStatus.{NavStatus}
use Rattle.nav_tree.specs.declared.status.NavStatus.TheVariants as kept
use Rattle.seen_laws.specs.InEvent.{now_of}
use Rattle.std.proofs.Common.{List, Option, Some, [], ap, false, inl, inr, refl, subst, sym, true, ◌==◌, ◌∙◌, ◌≡◌}
use Rattle.std.specs.Prelude.{is_some, option_map}
use Rattle.tab_doors.proofs.Holding.{HasNode, its_node}
use Rattle.tab_doors.specs.Look.{look_of}
use Rattle.tab_doors.specs.Ties.{status_of}
use Rattle.tab_doors.specs.declared.tables.Tables.{Tables}
use Rattle.tab_ids.specs.declared.DocId.{DocId}
use Rattle.tab_ids.specs.declared.NavId.{NavId}
use Rattle.log_model.specs.Checks.{may_go_on}
use Rattle.log_model.specs.Seen.{request_of}
use Rattle.tab_doors.specs.Working.{KeepsStore}
use Rattle.tab_ids.specs.declared.ReqId.{ReqId}
use Rattle.tab_ids.specs.declared.StateId.{StateId}
use Rattle.tab_moves.specs.Moving.{AllAsleep, HasLeft, IsToLeave, MayCause}
use Rattle.tab_moves.proofs.Frees.{HasOnlyFrozen, goes_on}
use Rattle.tab_moves.specs.PassedOn.{HasOnly, IsLeaving}
use Rattle.tab_walk.proofs.Binds.{set_off_left}
use Rattle.tab_walk.proofs.Overs.{IsQuietRow, causes_over, frozen_loads, frozen_quiet, parked_over}
use Rattle.tab_walk.specs.Moving.{IsPart}
use Rattle.row_facts.proofs.WalkRows.Leaves.{leaves_none, leaves_then}
use Rattle.tab_moves.proofs.Makings.{show_causes}
use Rattle.tab_moves.specs.Making.{awake_on}
use Rattle.tab_walk.specs.Moving.{HasSetOff, InMove, IsBound, MaySetOff, is_up_in, move_of}
use Rattle.tab_moves.proofs.Lasts.{below_sleeps}
use Rattle.row_facts.specs.WalkRows.Since.{WasAwake}

module _ (m : InMove) {noted : Option StateId} (out : List RowKind) (t : Tables) (leaving : IsLeaving m.pass (Some (record { doc = m.doc; left = noted })) [] out t) (left : DocId) (why : Why) (may : MaySetOff m t.running (now_of m.pass.event out) m.nav left why) where
  abbrev s : Seen
  s = now_of m.pass.event out

  abbrev bound : IsBound m t.running s
  bound = may.bound

  own : HasNode (look_of s t.running) t.tree m.nav bound.place
  own = its_node (look_of s t.running) t.tree m.nav bound.place leaving.work.holds.navs bound.placed

  up_is : is_up_in t.tree m.nav ≡ is_some (awake_on own.node.nav.status)
  up_is = ap (λ (o : Option Node). holds (λ (n : Nav). is_some (awake_on n.status)) (option_map (λ (n : Node). n.nav) o)) own.there

  -- it is awake on the document that it was shown last
  wakes : is_up_in t.tree m.nav ≡ true → bound.place.status ≡ awake left
  wakes up = by_status own.node.nav.status refl (sym up_is ∙ up)
    where
      by_status : (st : NavStatus) → own.node.nav.status ≡ st → is_some (awake_on st) ≡ true → bound.place.status ≡ awake left
      by_status (kept.Awake doc) at is =
          let awakes : bound.place.status ≡ awake doc = sym own.tied.status ∙ ap status_of at in
          let homed : IsHomed s.documents bound.place doc = leaving.going.tab.homes.homed m.nav bound.place doc bound.placed awakes in
          let both : Some doc ≡ Some left = sym homed.last ∙ bound.last ∙ ap (λ (d : DocId). Some d) may.its_left in
          let same : doc ≡ left = cc in
          awakes ∙ ap (λ (d : DocId). awake d) same
      by_status kept.Lost at is = absurd cc
      by_status kept.Asleep at is = absurd cc

  sleeps : is_up_in t.tree m.nav ≡ false → bound.place.status ≡ asleep
  sleeps down = by_status own.node.nav.status refl (sym up_is ∙ down)
    where
      by_status : (st : NavStatus) → own.node.nav.status ≡ st → is_some (awake_on st) ≡ false → bound.place.status ≡ asleep
      by_status (kept.Awake doc) at is = absurd cc
      by_status kept.Lost at is =
          absurd ((leaving.going.tab.standing m.nav bound.place bound.placed).unlost (sym own.tied.status ∙ ap status_of at))
      by_status kept.Asleep at is = sym own.tied.status ∙ ap status_of at

  -- ---- it is awake

  pub to_leave : is_up_in t.tree m.nav ≡ true → IsToLeave (record { pass = m.pass; move = record { doc = m.doc; left = noted }; cause = m.cause }) t.running s m.nav left why
  to_leave up =
      record {
        place = bound.place;
        placed = bound.placed;
        wakes = wakes up;
        for_run = may.for_run;
        may = subst (λ (w : Why). MayCause s w) (sym may.for_run) (show_causes s t.running leaving.going.tab.asked m.cause bound.may);
        new = record { document = bound.new; found = bound.new_found; nav_is = bound.new_nav; other = other };
        apart = apart;
        movable = may.movable;
      }
    where
      apart : (left.0 == m.doc.0) ≡ false
      apart = ap (λ (d : DocId). d.0 == m.doc.0) (sym may.its_left) ∙ bound.apart

      was : WasAwake m.pass.event.start m.nav left
      was = may.movable.awake_since m.nav bound.place left (inl (nat_eq_refl m.nav.0)) bound.placed (wakes up)

      other : holds (is_awake_on m.doc) (place_of m.pass.event.start m.nav) ≡ false
      other = ap (λ (o : Option Place). holds (is_awake_on m.doc) o) was.placed ∙ by_status was.place.status refl
        where
          by_status : (st : Status) → was.place.status ≡ st → is_awake_on m.doc was.place ≡ false
          by_status (awake d) at =
              let both : awake d ≡ awake left = sym at ∙ was.wakes in
              let same : d ≡ left = cc in
              rw at (ap (λ (x : DocId). x.0 == m.doc.0) same ∙ apart)
          by_status asleep at = rw at refl
          by_status lost at = rw at refl

  -- ---- it is asleep already

  pub asleep_off : is_up_in t.tree m.nav ≡ false → HasSetOff m t.running s
  asleep_off down = record { bound = bound; sleeps = all; were = may.were; loads = may.loads }
    where
      is_it : (p : Place) → is_asleep p ≡ true → p.status ≡ asleep
      is_it p test = by_status p.status refl test
        where
          by_status : (st : Status) → p.status ≡ st → is_asleep p ≡ true → p.status ≡ asleep
          by_status asleep at is = at
          by_status (awake d) at is = let never : is_asleep p ≡ false = rw at refl in absurd cc
          by_status lost at is = let never : is_asleep p ≡ false = rw at refl in absurd cc

      all : AllAsleep s m.nav
      all other place (inl same) placed =
          let navs : other ≡ m.nav = nav_is other m.nav same in
          let both : Some bound.place ≡ Some place = sym bound.placed ∙ ap (λ (n : NavId). place_of s n) (sym navs) ∙ placed in
          let here : bound.place ≡ place = cc in
          ap (λ (p : Place). p.status) (sym here) ∙ sleeps down
      all other place (inr below) placed =
          is_it place (below_sleeps t.running m.pass.loads m.pass.hand s leaving.going.tab m.nav bound.place bound.placed (sleeps down) other place placed below)

-- ---- once it has left

module _ (m : InMove) (out : List RowKind) (t : Tables) (leaving : IsLeaving m.pass (Some (move_of m)) [] out t) (nav : NavId) (left : DocId) (why : Why) (may : MaySetOff m t.running (now_of m.pass.event out) nav left why) where
  -- under its own name
  pub may_own : MaySetOff m t.running (now_of m.pass.event out) m.nav left why
  may_own = subst (λ (n : NavId). MaySetOff m t.running (now_of m.pass.event out) n left why) (sym may.its) may

  pub left_off : (new : List RowKind) (u : Tables) (docs : List DocId) → KeepsStore t u → IsLeaving m.pass (Some (move_of m)) [] new u → HasOnlyFrozen why docs out new → HasLeft docs why (now_of m.pass.event out) (now_of m.pass.event new) nav → HasSetOff m u.running (now_of m.pass.event new) × IsPart (now_of m.pass.event out) (now_of m.pass.event new) nav
  left_off new u docs keeps leaving_ only left_ = (
    subst (λ (r : Option ReqId). HasSetOff m r (now_of m.pass.event new)) (sym keeps.running) (set_off_left m t.running out new may.bound docs why only (subst (λ (n : NavId). HasLeft docs why (now_of m.pass.event out) (now_of m.pass.event new) n) (sym may.its) left_) each leaving.going.tab.sound leaving.going.tab.hangs may.were may.loads),
    record { others = left_.leaves; parked = parked_over m.pass.event out new quiet; causes = causes_over m.pass.event out new quiet each; loading = frozen_loads m.pass.event why docs out new only },
  )
    where
      quiet : HasOnly IsQuietRow out new
      quiet = frozen_quiet why docs out new only

      each : (req : ReqId) (q : Asked) → request_of (now_of m.pass.event new) req ≡ Some q → may_go_on (now_of m.pass.event new) req ≡ true
      each = goes_on (now_of m.pass.event new) u.running leaving_.going.tab.asked

pub part_none : (s : Seen) (nav : NavId) → IsPart s s nav
part_none s nav = record { others = leaves_none s nav; parked = refl; causes = λ why may. may; loading = λ are. are }

pub part_then : (s t u : Seen) (nav : NavId) → IsPart s t nav → IsPart t u nav → IsPart s u nav
part_then s t u nav one two =
    record { others = leaves_then s t u nav one.others two.others; parked = two.parked ∙ one.parked; causes = λ why may. two.causes why (one.causes why may); loading = λ are. two.loading (one.loading are) }
