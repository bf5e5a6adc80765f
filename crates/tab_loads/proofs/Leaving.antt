-- Rows that leave the history, the navigables and the documents that are there: what documents made may be taken after them as before, so that a pass may follow.
use Rattle.seen_facts.specs.Asked.Asking.{ArePlain}
use Rattle.tab_facts.specs.Calm.Calm.{AreRooted, CalmUnless, IsCalmYet, IsHere, IsRooted, UnmovedAreHere, NeedIsNew}
use Rattle.row_facts.specs.FrameRows.Lawful.{held_at_first}
use Rattle.tab_facts.proofs.FrameTab.Running.{moved_same as moved_in}
use Rattle.seen_facts.specs.Hang.Members.{Has}
use Rattle.seen_facts.specs.Home.Homes.{AreHomed, IsAtHome}
use Rattle.row_facts.specs.Left.Left.{LastWereShown, OwnersFollow, WasEverShown, WereShown}
use Rattle.seen_facts.specs.LoadEnds.Standing.{is_reached}
use Rattle.log_model.specs.Equal.{has_req, holds}
use Rattle.log_model.specs.History.{History, has_row, has_state}
use Rattle.log_model.specs.Places.{aim_of, is_awake, is_given_target, is_moved, is_shown}
use Rattle.log_model.specs.Seen.{Asked, Document, Place, Seen, document_of, place_in, place_of}
use Rattle.log_model.specs.declared.job.Why.{Why}
use Rattle.log_model.specs.declared.row.Row.{Row}
use Rattle.seen_facts.proofs.Mover.Stays.{KeepWays}
use Rattle.seen_facts.specs.Mover.Movers.{IsMovedBy}
use Rattle.seen_facts.proofs.Request.Readers.{SameReads}
use Rattle.seen_laws.specs.InEvent.{InEvent}
use Rattle.std.proofs.Common.{Bool, List, None, Option, Some, ap, arith, false, inl, inr, refl, subst, sym, true, ◌∙◌, ◌≡◌, ◌≤◌, ◌⊎◌}
use Rattle.std.specs.Prelude.{option_map}
use Rattle.tab_ids.specs.declared.DocId.{DocId}
use Rattle.tab_ids.specs.declared.NavId.{NavId}
use Rattle.tab_ids.specs.declared.ReqId.{ReqId}
use Rattle.tab_ids.specs.declared.StateId.{StateId}
use Rattle.tab_stands.proofs.PassedOn.{IsBare, IsUnsettled, StandOrBare, new_of, reached_same, run_leavers, show_causes, still_on, takers_on, visited_same}
use Rattle.tab_stands.specs.PassedOn.{AreBlamed, IsLoadOf, IsOpen, IsTaking, LoadsLive, MayCause, MayServe, MayStand, ParentsShown, StandOrMove, TakersServe, show_why}
use Rattle.row_facts.proofs.WalkRows.Moved.{run_moves}
use Rattle.row_facts.specs.WalkRows.Since.{MovesVisited}
use Rattle.log_model.specs.declared.job.Why.TheVariants as whys

-- what is read of the history of a place
abbrev here_shown : History → Place → Bool
here_shown h place = is_shown h.rows h.current place.nav

abbrev here_target : History → Place → Bool
here_target h place = is_given_target h.rows h.current place

-- what is read of it for one that is rooted
abbrev rooted_in : History → Place → Document → Type 0
rooted_in h place d =
    ((row : Row) × (Has h.rows row) × (row.nav ≡ place.nav) × (place.given ≡ Some row.entry)) ⊎ ((row : Row) × (Has h.rows row) × (row.state ≡ d.state) × (row.step.0 ≤ h.current))

-- the history, the navigables and the kept documents are as they were, each document that was there is so still; each request asks what it asked, and has moved whom it had; each traversal that had begun has
pub record LeavesMost (s n : Seen) : Type 0 where
  pub places : n.places ≡ s.places
  pub history : n.history ≡ s.history
  pub kept : n.kept ≡ s.kept
  pub aim : aim_of n ≡ aim_of s
  pub found : (doc : DocId) (d : Document) → document_of s doc ≡ Some d → document_of n doc ≡ Some d
  pub moves : SameReads (λ (x : Asked). x.moved) s.requests n.requests
  pub moved : (why : Why) (nav : NavId) → IsMovedBy s why nav → IsMovedBy n why nav
  pub causes : (why : Why) → MayCause s why → MayCause n why

-- the navigable of a load that is new stands, with all above it, and the load wasn't held back as the event began
pub record IsFresh (e : InEvent) (n : Seen) (req : ReqId) (nav : NavId) : Type 0 where
  pub reached : is_reached n nav ≡ true
  pub unheld : has_req (held_at_first e) req ≡ false

-- what documents made may be taken, but for what is noted for stray documents
pub record IsTakenBut (e : InEvent) (run : Option ReqId) (s : Seen) : Type 0 where
  pub open_ : (cause : Why) → MayCause s cause → IsOpen e run cause s
  pub loads : MayStand run s
  pub calm : CalmUnless IsCalmYet run s
  pub unmoved : UnmovedAreHere s
  pub rooted : AreRooted s
  pub live : LoadsLive s

pub taken_but : (e : InEvent) (run : Option ReqId) (blame : List (StateId × ReqId)) (s : Seen) → IsTaking e run blame s → IsTakenBut e run s
taken_but e run blame s at =
    record { open_ = at.open_; loads = at.loads; calm = at.calm; unmoved = at.unmoved; rooted = at.rooted; live = at.live }

module _ (e : InEvent) (run : Option ReqId) (s n : Seen) (at : IsTakenBut e run s) (plain_s : ArePlain run s) (plain : ArePlain run n) (homes : AreHomed s) (it : LeavesMost s n) (loads : (r : ReqId) (nav : NavId) → IsLoadOf n r nav → IsLoadOf s r nav ⊎ IsFresh e n r nav) where
  place_same : (nav : NavId) → place_of n nav ≡ place_of s nav
  place_same nav = ap (λ (l : List Place). place_in l nav) it.places

  base : IsOpen e run whys.Start s
  base = at.open_ whys.Start (λ r never. absurd cc)

  were : WereShown n
  were =
      record {
        lasts = subst (λ (l : List Place). LastWereShown l) (sym it.places) base.were.lasts;
        kept = λ doc there. subst (λ (l : List Place). WasEverShown l doc) (sym it.places) (base.were.kept doc (subst (λ (l : List DocId). Has l doc) it.kept there));
        owned = subst (λ (l : List Place). OwnersFollow l) (sym it.places) base.were.owned;
      }

  parents : ParentsShown n
  parents nav above place up placed has there =
      base.parents nav above place up (sym (place_same nav) ∙ placed) has (sym (place_same above) ∙ there)

  takers : TakersServe n
  takers = takers_on s n it.causes (λ nav. ap (λ (o : Option Place). option_map (λ (x : Place). x.taken_by) o) (place_same nav)) base.takers

  -- what was discarded is so still
  gone_on : (doc : DocId) → holds (λ (d : Document). d.is_discarded) (document_of s doc) ≡ true → holds (λ (d : Document). d.is_discarded) (document_of n doc) ≡ true
  gone_on doc is = by_old (document_of s doc) refl is
    where
      by_old : (o : Option Document) → document_of s doc ≡ o → holds (λ (d : Document). d.is_discarded) o ≡ true → holds (λ (d : Document). d.is_discarded) (document_of n doc) ≡ true
      by_old (Some d) at h = ap (λ (o : Option Document). holds (λ (x : Document). x.is_discarded) o) (it.found doc d at) ∙ h
      by_old None at h = absurd cc

  needs_new : run ≡ None → NeedIsNew n
  needs_new is nav place there need =
      let idle : IsOpen e None whys.Start s = subst (λ (r : Option ReqId). IsOpen e r whys.Start s) is base in
      new_of e s idle nav place (sym (place_same nav) ∙ there) (visited_same n s (sym it.places) (sym it.history) (sym it.aim) place need)

  moves_then : (o : Option ReqId) → run ≡ o → (cause : Why) → MovesVisited n (show_why o cause)
  moves_then None is cause nav place there need epoch =
      let zero_ : place.epoch.0 ≡ 0 = needs_new is nav place there need in
      absurd (omega (arith, zero_, epoch))
  moves_then (Some req) is cause nav place there need epoch =
      let own = plain.runs req is in
      let may : MayServe n req = subst (λ (r : Option ReqId). MayCause n (show_why r whys.Start)) is (show_causes n run plain whys.Start (λ r never. absurd cc)) req refl in
      run_moves n req own.q nav own.found own.traverses ((may.begun own.q own.found).traverses own.traverses) (plain.passed req own.q own.found)

  opens : (cause : Why) → MayCause n cause → IsOpen e run cause n
  opens cause may =
      record {
        may = may;
        since = record { distinct = base.since.distinct; homed = base.since.homed; ways = subst (λ (l : List Place). KeepWays e.start.places l) (sym it.places) base.since.ways };
        unwoken = λ nav place doc outside there wakes. base.unwoken nav place doc outside (sym (place_same nav) ∙ there) wakes;
        still = still_on e.start s n (λ nav doc was. record { place = was.place; placed = place_same nav ∙ was.placed; wakes = was.wakes }) gone_on base.still;
        moves = moves_then run refl cause;
        leavers = run_leavers n run plain needs_new cause;
        were = were;
        parents = parents;
        held = λ r nav its. by_case r nav (loads r nav its);
        takers = takers;
      }
    where
      by_case : (r : ReqId) (nav : NavId) → IsLoadOf s r nav ⊎ IsFresh e n r nav → has_req (held_at_first e) r ≡ false
      by_case r nav (inl old) = base.held r nav old
      by_case r nav (inr new) = new.unheld

  -- ---- loads

  bare_on : (nav : NavId) → IsBare s nav → IsBare n nav
  bare_on nav is = ap (λ (h : History). has_row nav h.rows) it.history ∙ is

  unsettled_on : (nav : NavId) → IsUnsettled s nav → IsUnsettled n nav
  unsettled_on nav away =
      record {
        place = away.place;
        placed = place_same nav ∙ away.placed;
        mover = away.mover;
        on_way = away.on_way;
        own = away.own;
        there = place_same away.mover ∙ away.there;
        need = visited_same s n it.places it.history it.aim away.own away.need;
      }

  stand_bare : StandOrBare s → (r : ReqId) (nav : NavId) → IsLoadOf n r nav → (is_reached n nav ≡ true) ⊎ IsBare n nav
  stand_bare so r nav its = by_new (loads r nav its)
    where
      by_case : (is_reached s nav ≡ true) ⊎ IsBare s nav → (is_reached n nav ≡ true) ⊎ IsBare n nav
      by_case (inl is) = inl (reached_same s n it.places it.history it.aim nav is)
      by_case (inr is) = inr (bare_on nav is)

      by_new : IsLoadOf s r nav ⊎ IsFresh e n r nav → (is_reached n nav ≡ true) ⊎ IsBare n nav
      by_new (inl old) = by_case (so r nav old)
      by_new (inr new) = inl new.reached

  stand_move : StandOrMove s → (r : ReqId) (nav : NavId) → IsLoadOf n r nav → (is_reached n nav ≡ true) ⊎ (IsUnsettled n nav ⊎ IsBare n nav)
  stand_move so r nav its = by_new (loads r nav its)
    where
      by_case : (is_reached s nav ≡ true) ⊎ (IsUnsettled s nav ⊎ IsBare s nav) → (is_reached n nav ≡ true) ⊎ (IsUnsettled n nav ⊎ IsBare n nav)
      by_case (inl is) = inl (reached_same s n it.places it.history it.aim nav is)
      by_case (inr (inl is)) = inr (inl (unsettled_on nav is))
      by_case (inr (inr is)) = inr (inr (bare_on nav is))

      by_new : IsLoadOf s r nav ⊎ IsFresh e n r nav → (is_reached n nav ≡ true) ⊎ (IsUnsettled n nav ⊎ IsBare n nav)
      by_new (inl old) = by_case (so r nav old)
      by_new (inr new) = inl new.reached

  stand : (r : Option ReqId) → MayStand r s → MayStand r n
  stand None so = stand_bare so
  stand (Some one) so = stand_move so

  -- ---- where navigables are

  here_on : (place : Place) → IsHere s place → IsHere n place
  here_on place here =
      record { shown = ap (λ (h : History). here_shown h place) it.history ∙ here.shown; target = ap (λ (h : History). here_target h place) it.history ∙ here.target }

  calm_on : IsCalmYet s → IsCalmYet n
  calm_on so =
      record {
        here = λ nav place doc there wakes. by_here nav place (so.here nav place doc (sym (place_same nav) ∙ there) wakes);
        wakes = λ nav place there shown epoch. by_wakes nav place (so.wakes nav place (sym (place_same nav) ∙ there) (ap (λ (h : History). here_shown h place) (sym it.history) ∙ shown) epoch);
      }
    where
      by_here : (nav : NavId) (place : Place) → (has_row nav s.history.rows ≡ false) ⊎ IsHere s place → (has_row nav n.history.rows ≡ false) ⊎ IsHere n place
      by_here nav place (inl is) = inl (bare_on nav is)
      by_here nav place (inr is) = inr (here_on place is)

      by_wakes : (nav : NavId) (place : Place) → (has_row nav s.history.rows ≡ false) ⊎ (is_awake place ≡ true) → (has_row nav n.history.rows ≡ false) ⊎ (is_awake place ≡ true)
      by_wakes nav place (inl is) = inl (bare_on nav is)
      by_wakes nav place (inr is) = inr is

  calm_unless : (r : Option ReqId) → CalmUnless IsCalmYet r s → CalmUnless IsCalmYet r n
  calm_unless None so = calm_on so
  calm_unless (Some one) so = tt

  rooted : AreRooted n
  rooted nav place doc d there wakes known has =
      by_case (at.rooted nav place doc d (sym (place_same nav) ∙ there) wakes known_s (ap (λ (h : History). has_state d.state h.rows) (sym it.history) ∙ has))
    where
      home : IsAtHome s.documents place.nav doc
      home = (homes.homed nav place doc (sym (place_same nav) ∙ there) wakes).home

      known_s : document_of s doc ≡ Some d
      known_s =
          let two : Some home.document ≡ Some d = sym (it.found doc home.document home.found) ∙ known in
          let one : home.document ≡ d = cc in
          home.found ∙ ap (λ (x : Document). Some x) one

      by_case : IsRooted s place d → IsRooted n place d
      by_case is = subst (λ (h : History). rooted_in h place d) (sym it.history) is

  moved_same : (nav : NavId) → is_moved n nav ≡ is_moved s nav
  moved_same nav = moved_in run s.requests n.requests nav plain_s.only plain.only it.moves

  unmoved : UnmovedAreHere n
  unmoved nav place doc there wakes has still =
      here_on place (at.unmoved nav place doc (sym (place_same nav) ∙ there) wakes (ap (λ (h : History). has_row nav h.rows) (sym it.history) ∙ has) (sym (moved_same nav) ∙ still))

  -- ---- all of it

  pub taking_by : (noted : List (StateId × ReqId)) → AreBlamed n noted → LoadsLive n → IsTaking e run noted n
  taking_by noted blamed live =
      record {
        open_ = opens;
        loads = stand run at.loads;
        blamed = blamed;
        calm = calm_unless run at.calm;
        unmoved = unmoved;
        rooted = rooted;
        live = live;
      }

  pub but_by : LoadsLive n → IsTakenBut e run n
  but_by live =
      record {
        open_ = opens;
        loads = stand run at.loads;
        calm = calm_unless run at.calm;
        unmoved = unmoved;
        rooted = rooted;
        live = live;
      }
