-- Where none may be kept: what there is once the document that is left was discarded.
use Rattle.seen_facts.proofs.Hang.Forms.{nav_is}
use Rattle.seen_facts.specs.Hang.AsPlaces.{IsChain}
use Rattle.seen_facts.specs.Home.Homes.{IsOnAwake}
use Rattle.row_facts.specs.Left.Left.{IsOwnedAs}
use Rattle.log_model.proofs.Refl.{nat_eq_refl}
use Rattle.log_model.specs.After.{after}
use Rattle.log_model.specs.AfterPlaces.{sleepers_with}
use Rattle.log_model.specs.History.{has_nav}
use Rattle.log_model.specs.Places.{hangs_on, is_below}
use Rattle.log_model.specs.Seen.{Document, Place, Seen, awake, document_of, place_in, place_of}
use Rattle.log_model.specs.declared.job.Job.{Job}
use Rattle.log_model.specs.declared.job.Why.{Why}
use Rattle.log_model.specs.declared.row_kind.RowKind.{RowKind}
use Rattle.seen_facts.specs.Asked.Asking.{HavePassed}
use Rattle.seen_laws.proofs.Keyed.{find_on_other}
use Rattle.seen_laws.specs.InEvent.{InEvent, now_of, row_of}
use Rattle.std.proofs.Common.{Bool, List, Some, [], ap, false, inl, inr, refl, sym, true, ◌==◌, ◌||◌, ◌∙◌, ◌∷◌, ◌≡◌}
use Rattle.std.specs.List.{list_any}
use Rattle.std.specs.Prelude.{slice_get}
use Rattle.tab_doors.specs.Orders.{order_to}
use Rattle.tab_doors.specs.declared.tables.Tables.{Tables}
use Rattle.tab_ids.specs.declared.DocId.{DocId}
use Rattle.tab_ids.specs.declared.NavId.{NavId}
use Rattle.tab_ids.specs.declared.StateId.{StateId}
use Rattle.tab_moves.proofs.Leaves.{distinct, showed, under}
use Rattle.tab_moves.proofs.Sleeps.{WasSlept, was_slept}
use Rattle.tab_moves.specs.Moving.{AllAsleep, InMoving, IsToLeave}
pub use Rattle.tab_moves.specs.Moving.{IsAtOrBelow}
use Rattle.tab_moves.specs.PassedOn.{IsLeaving}
use Rattle.tab_walk.proofs.Cutoffs.{cut_nobody, off}
use Rattle.tab_walk.proofs.Offs.{asleep_off, to_leave}
use Rattle.tab_walk.specs.Cutting.{MayCut, cut_of}
use Rattle.tab_walk.specs.Moving.{HasSetOff, InMove, IsBound, is_up_in}
use Rattle.seen_facts.specs.Walk.Walking.{LeavesOthers}
use Rattle.row_facts.proofs.WalkRows.Leaves.{discard_leaves, discard_none_leaves, none_places}
use Rattle.row_facts.proofs.WalkRows.Sinces.{ShowsThen}
use Rattle.row_facts.proofs.WalkRows.Sleeping.{IsUnder, slept_under}
use Rattle.log_model.specs.declared.job.Task.TheVariants as tasks
use Rattle.log_model.specs.declared.row_kind.RowKind.TheVariants as rows

module _ (m : InMove) (out : List RowKind) (t : Tables) (leaving : IsLeaving m.pass (Some (cut_of m)) [] out t) (why : Why) (may : MayCut m t.running (now_of m.pass.event out) m.nav m.left m.state why) where
  abbrev e : InEvent
  e = m.pass.event

  abbrev s : Seen
  s = now_of e out

  abbrev bound : IsBound m t.running s
  bound = may.bound

  abbrev discard : Job
  discard = order_to s m.left why tasks.Discard

  abbrev pub cut_then : Seen
  cut_then = after s (row_of e (rows.Sent discard))

  all_passed : HavePassed s
  all_passed = leaving.going.tab.asked.passed

  abbrev pub moving : InMoving
  moving = record { pass = m.pass; move = cut_of m; cause = m.cause }

  -- ---- who hangs below it

  -- each that is awake below the navigable hangs on its document state, where that is awake on it
  pub awake_hangs : bound.place.status ≡ awake m.left → (above : List NavId) (nav : NavId) (place : Place) (x : DocId) → place_of s nav ≡ Some place → place.status ≡ awake x → place.above ≡ above → IsChain s.places above → has_nav above m.nav ≡ true → hangs_on m.state place ≡ true
  awake_hangs wakes_ [] nav place x placed wakes is chain has = absurd cc
  awake_hangs wakes_ (parent ∷ others) nav place x placed wakes is chain has =
      ap (λ (l : List StateId). list_any (λ (owner : StateId). owner.0 == m.state.0) l) so.owners
      ∙ by_first (parent.0 == m.nav.0) refl has (λ rest. awake_hangs wakes_ others parent up.above up.doc up.there up.wakes (ap (λ (q : Place). q.above) (sym same) ∙ above_is) chain.1 rest)
    where
      so : IsOwnedAs s.places place parent
      so = may.were.owned.child nav place parent others placed is

      up : IsOnAwake s place parent
      up = leaving.going.tab.homes.hung nav place x placed wakes parent others is

      same : so.up ≡ up.above
      same = let both : Some so.up ≡ Some up.above = sym so.there ∙ up.there in cc

      above_is : so.up.above ≡ others
      above_is =
          let both : Some so.up ≡ Some chain.0.place = sym so.there ∙ chain.0.found in
          let one : so.up ≡ chain.0.place = cc in
          ap (λ (p : Place). p.above) one ∙ chain.0.above_is

      owner_is : so.owner ≡ up.document.state
      owner_is = let both : Some so.owner ≡ Some up.document.state = ap (λ (l : List StateId). slice_get l 0) (sym so.owners) ∙ up.owner in cc

      own_state : (parent.0 == m.nav.0) ≡ true → up.document.state ≡ m.state
      own_state is_ =
          let named : parent ≡ m.nav = nav_is parent m.nav is_ in
          let both : Some up.above ≡ Some bound.place = sym up.there ∙ ap (λ (n : NavId). place_of s n) named ∙ bound.placed in
          let here : up.above ≡ bound.place = cc in
          let docs : awake up.doc ≡ awake m.left = sym up.wakes ∙ ap (λ (p : Place). p.status) here ∙ wakes_ in
          let doc_is : up.doc ≡ m.left = cc in
          let twice : Some up.document ≡ Some bound.old = sym up.found ∙ ap (λ (d : DocId). document_of s d) doc_is ∙ bound.old_found in
          let one : up.document ≡ bound.old = cc in
          ap (λ (d : Document). d.state) one ∙ bound.old_state

      first_true : (a b : Bool) → a ≡ true → (a || b) ≡ true
      first_true true b h = refl
      first_true false b h = absurd cc

      second_true : (a b : Bool) → b ≡ true → (a || b) ≡ true
      second_true true b h = refl
      second_true false b h = h

      by_first : (b : Bool) → (parent.0 == m.nav.0) ≡ b → (b || has_nav others m.nav) ≡ true → (has_nav others m.nav ≡ true → hangs_on m.state up.above ≡ true) → ((so.owner.0 == m.state.0) || hangs_on m.state so.up) ≡ true
      by_first true is_ h more =
          first_true (so.owner.0 == m.state.0) (hangs_on m.state so.up) (ap (λ (o : StateId). o.0 == m.state.0) (owner_is ∙ own_state is_) ∙ nat_eq_refl m.state.0)
      by_first false is_ h more =
          second_true (so.owner.0 == m.state.0) (hangs_on m.state so.up) (ap (λ (q : Place). hangs_on m.state q) same ∙ more h)

  -- ---- all are asleep then

  pub other_then : (x : DocId) → (m.left.0 == x.0) ≡ false → document_of cut_then x ≡ document_of s x
  other_then x apart = find_on_other (λ (y : Document). y.nr.0) (λ (y : Document). record y { is_discarded = true }) m.left.0 x.0 s.documents (λ y. refl) apart

  module _ (up : is_up_in t.tree m.nav ≡ true) where
    pub to : IsToLeave moving t.running s m.nav m.left why
    to = to_leave m out t leaving m.left why (off m out t leaving why may) up

    asleep_up : AllAsleep cut_then m.nav
    asleep_up other place at_or placed =
        slept_under s e.event e.actor discard tasks.Discard refl tt (distinct moving m.nav m.left why out t leaving to) m.nav its.place its.showed its.nav_is other place (by_case at_or) placed
      where
        its : ShowsThen s m.nav m.left
        its = showed moving m.nav m.left why out t leaving to

        was : WasSlept s discard other place
        was = was_slept e s discard tasks.Discard refl tt other place placed

        by_case : IsAtOrBelow m.nav other place → IsUnder s m.nav other
        by_case (inl same) = inl same
        by_case (inr below) = inr (λ p there.
            let both : Some was.old ≡ Some p = sym was.found ∙ there in
            let one : was.old ≡ p = cc in
            ap (λ (q : Place). is_below m.nav q) (sym one) ∙ ap (λ (l : List NavId). has_nav l m.nav) (sym was.above) ∙ below)

    leaves_up : LeavesOthers s cut_then m.nav
    leaves_up = discard_leaves s e.event e.actor discard m.nav refl all_passed (under moving m.nav m.left why out t leaving to)

  module _ (down : is_up_in t.tree m.nav ≡ false) where
    pub its_off : HasSetOff m t.running s
    its_off = asleep_off m out t leaving m.left why (off m out t leaving why may) down

    pub none_down : sleepers_with s m.left ≡ []
    none_down = cut_nobody m out t leaving why may (its_off.sleeps m.nav bound.place (inl (nat_eq_refl m.nav.0)) bound.placed)

    places_down : cut_then.places ≡ s.places
    places_down = none_places s e.event e.actor discard none_down tasks.Discard refl tt

    asleep_down : AllAsleep cut_then m.nav
    asleep_down other place at_or placed = its_off.sleeps other place at_or (ap (λ (l : List Place). place_in l other) (sym places_down) ∙ placed)

    leaves_down : LeavesOthers s cut_then m.nav
    leaves_down = discard_none_leaves s e.event e.actor discard none_down m.nav refl all_passed

  pub asleep_then : AllAsleep cut_then m.nav
  asleep_then = by_up (is_up_in t.tree m.nav) refl
    where
      by_up : (b : Bool) → is_up_in t.tree m.nav ≡ b → AllAsleep cut_then m.nav
      by_up true up = asleep_up up
      by_up false down = asleep_down down

  pub leaves_then_ : LeavesOthers s cut_then m.nav
  leaves_then_ = by_up (is_up_in t.tree m.nav) refl
    where
      by_up : (b : Bool) → is_up_in t.tree m.nav ≡ b → LeavesOthers s cut_then m.nav
      by_up true up = leaves_up up
      by_up false down = leaves_down down
