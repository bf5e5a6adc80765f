-- A turn of the walk: what it asks of the move, and what goes on after it.
use Rattle.apply_plan.specs.Needs.{need_of}
use Rattle.apply_plan.specs.declared.need.Need.{Need}
use Rattle.tab_facts.proofs.Calm.Sames.{keeps_none}
use Rattle.tab_facts.proofs.Calm.Turns.{IsCalmTurn, turn_keeps}
use Rattle.tab_facts.specs.Calm.Loads.{LoadsHaveDocuments}
use Rattle.seen_facts.proofs.Hang.Forms.{nav_is}
use Rattle.seen_facts.proofs.Rest.Stands.{get_of}
use Rattle.tab_facts.specs.FrameWhole.Tab.{AreAwakeWithRows}
use Rattle.seen_facts.proofs.Hang.Members.{find_has, has_any}
use Rattle.seen_facts.proofs.Hang.Targets.{target_has}
use Rattle.log_model.proofs.Refl.{nat_eq_refl}
use Rattle.log_model.specs.History.{History, has_nav, has_row, is_of}
use Rattle.log_model.specs.Places.{all_stand, aim_of, is_below, is_shown}
use Rattle.log_model.specs.Seen.{Place, Seen, place_of}
use Rattle.log_model.specs.declared.header.Header.{Header}
use Rattle.log_model.specs.declared.job.Why.{Why}
use Rattle.log_model.specs.declared.row_kind.RowKind.{RowKind}
use Rattle.seen_facts.specs.Mover.Movers.{IsMovedBy}
use Rattle.nav_tree.specs.Tree.{document_of}
use Rattle.seen_facts.specs.Asked.Asking.{HavePassed}
use Rattle.plan_laws.proofs.NeedLaws.{needs_is}
use Rattle.seen_laws.specs.InEvent.{InEvent, now_of}
use Rattle.std.proofs.Common.{Bool, List, None, Option, Some, [], ap, arith, false, inl, inr, not, refl, subst, suc, sym, take, true, zero, ℕ, ◌&&◌, ◌+◌, ◌++◌, ◌<◌, ◌==◌, ◌||◌, ◌∙◌, ◌∷◌, ◌≡◌, ◌≤◌, ◌⊎◌}
use Rattle.std.specs.List.{list_any}
use Rattle.std.specs.Prelude.{if◌then◌else◌, is_some, option_map, slice_get}
use Rattle.tab_doors.specs.Working.{KeepsStore, MayDiscardIn}
use Rattle.tab_doors.specs.declared.tables.Tables.{Tables}
use Rattle.tab_ids.specs.declared.EntryId.{EntryId}
use Rattle.tab_ids.specs.declared.NavId.{NavId}
use Rattle.tab_ids.specs.declared.ReqId.{ReqId}
use Rattle.tab_walk.proofs.PassedOn.{need_here, stand_for}
use Rattle.tab_walk.proofs.Finds.{IsNeeding, needs_it}
use Rattle.tab_walk.specs.PassedOn.{HasMade, IsPassing, need_in}
use Rattle.tab_walk.proofs.Thens.{IsAtOrBelow}
use Rattle.tab_walk.proofs.Froms.{IsTurn}
use Rattle.tab_walk.specs.Cutting.{show_why}
use Rattle.tab_walk.proofs.Ends.{only_one}
use Rattle.tab_walk.specs.Moving.{HasBeenMoved, HasOnly, MayMoveTo}
use Rattle.row_facts.specs.WalkRows.Later.{IsLater}
use Rattle.tab_passes.proofs.PassedOn.{leaver_below}
use Rattle.tab_passes.specs.Leaving.{IsLeaver, OffAreLeft}
use Rattle.tab_serves.proofs.Leavers.{later_have, leaver_still}
use Rattle.tab_serves.proofs.Below.{kept_loads, left_loads}
use Rattle.tab_serves.proofs.Calms.{made_calm, made_loads, made_place, moved_calm, moved_first, moved_loads}
use Rattle.tab_serves.proofs.Ups.{turn_up, up_places}
use Rattle.tab_serves.proofs.Orders.{IsOrderOf, looks_over, moved_over, parents_over, stood_over, walk_orders, ways_over, were_over}
use Rattle.tab_serves.proofs.Reached.{loads_stand_still, reached_still}
use Rattle.tab_serves.specs.Serving.{DiscardsNone, DiscardsUnheld, HasOnlyServed, HasWalked, InWalk, IsOfWalk, IsWalking, LeavesLater, LeavesLog}
use Rattle.seen_facts.proofs.Walk.Leaving.{one_more, walk_stays}
use Rattle.seen_facts.proofs.Walk.Placed.{found_nav}
use Rattle.seen_facts.specs.Walk.Serving.{IsServedAt, is_needing, is_stopping}
use Rattle.seen_facts.specs.Walk.Walking.{IsApart}
use Rattle.row_facts.proofs.WalkRows.Leaves.{leaves_none}
use Rattle.row_facts.proofs.WalkRows.Needs.{need_not_all_stand}
use Rattle.row_facts.proofs.WalkRows.Sinces.{since_more}
use Rattle.row_facts.proofs.WalkRows.Walks.{below_moved, later_here, later_kept, later_more}
use Rattle.row_facts.specs.WalkRows.Later.{MovesLater}
use Rattle.row_facts.specs.WalkRows.Since.{AwakeSince, IsVisitedInNeed, WasAwake}
use Rattle.apply_plan.specs.declared.need.Need.TheVariants as needs
use Rattle.log_model.specs.declared.row_kind.RowKind.TheVariants as rows

-- ---- the first ones of a list

-- what is among them is one of them
pub taken : (n : ℕ) (navs : List NavId) (x : NavId) → has_nav (take n navs) x ≡ true → (k : ℕ) × (k < n) × (slice_get navs k ≡ Some x)
taken zero navs x has = absurd cc
taken (suc n) [] x has = absurd cc
taken (suc n) (nav ∷ navs) x has = by_test (nav.0 == x.0) refl has (taken n navs x)
  where
    by_test : (b : Bool) → (nav.0 == x.0) ≡ b → (b || has_nav (take n navs) x) ≡ true → (has_nav (take n navs) x ≡ true → (k : ℕ) × (k < n) × (slice_get navs k ≡ Some x)) → (k : ℕ) × (k < suc n) × (slice_get (nav ∷ navs) k ≡ Some x)
    by_test true same h rest = (0, omega arith, ap (λ (m : NavId). Some m) (nav_is nav x same))
    by_test false apart h rest =
        let more = rest h in let low = more.1 in (suc more.0, omega (arith, low), more.2)

-- the next one is among one more
own_taken : (n : ℕ) (navs : List NavId) (nav : NavId) → slice_get navs n ≡ Some nav → has_nav (take (suc n) navs) nav ≡ true
own_taken n [] nav here = absurd cc
own_taken zero (first ∷ navs) nav here =
    let same : first ≡ nav = cc in
    ap (λ (m : NavId). m.0 == nav.0 || has_nav (take zero navs) nav) same ∙ ap (λ (b : Bool). b || has_nav (take zero navs) nav) (nat_eq_refl nav.0)
own_taken (suc n) (first ∷ navs) nav here = by_test (first.0 == nav.0) (own_taken n navs nav here)
  where
    by_test : (b : Bool) → has_nav (take (suc n) navs) nav ≡ true → (b || has_nav (take (suc n) navs) nav) ≡ true
    by_test true h = refl
    by_test false h = h

-- and each that was before
more_taken : (n : ℕ) (navs : List NavId) (x : NavId) → has_nav (take n navs) x ≡ true → has_nav (take (suc n) navs) x ≡ true
more_taken zero navs x has = absurd cc
more_taken (suc n) [] x has = absurd cc
more_taken (suc n) (first ∷ navs) x has = by_test (first.0 == x.0) has (more_taken n navs x)
  where
    by_test : (b : Bool) → (b || has_nav (take n navs) x) ≡ true → (has_nav (take n navs) x ≡ true → has_nav (take (suc n) navs) x ≡ true) → (b || has_nav (take (suc n) navs) x) ≡ true
    by_test true h rest = refl
    by_test false h rest = rest h

plus_one : (n : ℕ) → n + 1 ≡ suc n
plus_one n = omega arith

module _ (w : InWalk) (n : ℕ) (out : List RowKind) (t : Tables) (walking : IsWalking w n out t) (nav : NavId) (here : slice_get w.navs n ≡ Some nav) where
  abbrev e : InEvent
  e = w.pass.event

  abbrev s : Seen
  s = now_of e out

  abbrev passing : IsPassing w.pass out t
  passing = walking.passing

  -- ---- it needs nothing

  idle_served : need_in t nav ≡ None → IsServedAt s nav
  idle_served none = record { serve = λ p placed shown reached needs_ row at. absurd (never p placed shown reached needs_) }
    where
      never : (p : Place) → place_of s nav ≡ Some p → is_shown s.history.rows (aim_of s) p.nav ≡ true → list_any (is_stopping s.history.rows (aim_of s) s.places) p.above ≡ false → is_needing s.history.rows (aim_of s) p ≡ true → ⊥
      never p placed shown reached needs_ =
          let index = get_of s.places p (find_has (λ (x : Place). x.nav.0 == nav.0) s.places p placed).0 in
          let law = needs_is s.history.rows (aim_of s) s.places t.tree (stand_for w.pass out t passing) index.0 p index.1 in
          let navs : p.nav ≡ nav = found_nav s.places nav p placed in
          let nothing : is_some (need_of s.history.rows (aim_of s) t.tree p.nav) ≡ false = ap (λ (m : NavId). is_some (need_of s.history.rows (aim_of s) t.tree m)) navs ∙ ap (λ (o : Option Need). is_some o) (sym (need_here w.pass out t passing nav) ∙ none) in
          let both_ : (is_needing s.history.rows (aim_of s) p && (is_shown s.history.rows (aim_of s) p.nav && not (list_any (is_stopping s.history.rows (aim_of s) s.places) p.above))) ≡ true = rw needs_ (rw shown (rw reached refl)) in
          let no_ : true ≡ false = sym both_ ∙ sym law ∙ nothing in
          absurd cc

  pub idle_walking : need_in t nav ≡ None → IsWalking w (n + 1) out t
  idle_walking none =
      record {
        passing = passing;
        walked = walking.walked;
        may = walking.may;
        unwoken = subst (λ (m : ℕ). AwakeSince e.start (take m w.navs) s) (sym (plus_one n)) (since_more e.start s (take n w.navs) walking.unwoken (take (suc n) w.navs) (more_taken n w.navs));
        moves = later_more s (show_why t.running w.cause) w.navs n walking.moves;
        leavers = λ other place later placed visited shown. walking.leavers other place (λ k low there. later k (omega (arith, low)) there) placed visited shown;
        frees = λ other place later placed visited shown. walking.frees other place (λ k low there. later k (omega (arith, low)) there) placed visited shown;
        rows_ = walking.rows_;
        off = walking.off;
        header = walking.header;
        order = walking.order;
        served = one_more s s passing.going.tab.sound passing.going.tab.hangs w.navs n nav here walking.order (leaves_none s nav) (idle_served none) walking.served;
      }

  pub idle_left : LeavesLog s s
  idle_left =
      record { history = refl; aim = refl; parked = refl; looks = refl; causes = λ why may. may; rows_ = λ are. are; calms = keeps_none s; up = up_places s s refl; loading = λ are. are }

  -- ---- it needs something

  -- what it needs is of itself
  pub move_own : (other : NavId) (entry : EntryId) → need_in t nav ≡ Some (needs.Move other entry) → need_in t nav ≡ Some (needs.Move nav entry)
  move_own other entry is =
      let its = needs_it w.pass out t passing nav (needs.Move other entry) is in
      let own : other ≡ nav = by_there (is_some (document_of its.needing.target.state t.tree)) its.needing.target.entry its.is in
      is ∙ ap (λ (m : NavId). Some (needs.Move m entry)) own
    where
      by_there : (b : Bool) (target : EntryId) → needs.Move other entry ≡ (if b then needs.Move nav target else needs.Populate nav target) → other ≡ nav
      by_there true target same = cc
      by_there false target same = absurd cc

  pub make_own : (other : NavId) (entry : EntryId) → need_in t nav ≡ Some (needs.Populate other entry) → need_in t nav ≡ Some (needs.Populate nav entry)
  make_own other entry is =
      let its = needs_it w.pass out t passing nav (needs.Populate other entry) is in
      let own : other ≡ nav = by_there (is_some (document_of its.needing.target.state t.tree)) its.needing.target.entry its.is in
      is ∙ ap (λ (m : NavId). Some (needs.Populate m entry)) own
    where
      by_there : (b : Bool) (target : EntryId) → needs.Populate other entry ≡ (if b then needs.Move nav target else needs.Populate nav target) → other ≡ nav
      by_there true target same = absurd cc
      by_there false target same = cc

  module _ (need : Need) (is : need_in t nav ≡ Some need) where
    needing : IsNeeding w.pass out t passing nav
    needing = (needs_it w.pass out t passing nav need is).needing

    visited : IsVisitedInNeed s needing.place
    visited =
        record {
          shown = ap (λ (m : NavId). is_shown s.history.rows (aim_of s) m) needing.nav_is ∙ needing.shown;
          reached = needing.reached;
          needs = needing.needs;
        }

    moved_here : 1 ≤ needing.place.epoch.0 → IsMovedBy s (show_why t.running w.cause) nav
    moved_here =
        later_here s (show_why t.running w.cause) w.navs n nav needing.place walking.order here walking.moves needing.placed visited

    own_later : IsLater w.navs n nav
    own_later k low there =
        let never : true ≡ false = sym (nat_eq_refl nav.0) ∙ (walking.order.apart k n nav nav low there here).differs in cc

    -- it leaves what it shows
    leaves_here : 1 ≤ needing.place.epoch.0 → IsLeaver s (show_why t.running w.cause) nav
    leaves_here = walking.leavers nav needing.place own_later needing.placed visited

    -- and then no step is in its check
    frees_here : 1 ≤ needing.place.epoch.0 → MayDiscardIn false e
    frees_here = walking.frees nav needing.place own_later needing.placed visited

    -- so a move discards nothing where one is
    pub move_quiet : (new : List RowKind) → HasBeenMoved e nav out new → DiscardsUnheld e out new
    move_quiet new moved held = by_epoch needing.place.epoch.0 refl
      where
        by_epoch : (n : ℕ) → needing.place.epoch.0 ≡ n → HasOnly DiscardsNone out new
        by_epoch zero is_ =
            let none : needing.place.last ≡ None = (needing.standing.told.0 is_).last in
            only_one DiscardsNone out new (rows.Sent moved.job) (moved.is ∙ ap (λ (l : List RowKind). l ++ rows.Sent moved.job ∷ []) (moved.first needing.place needing.placed none)) (rw moved.task refl)
        by_epoch (suc n) is_ = absurd (held (frees_here (omega (arith, is_))))

    -- none at or below it was served before
    not_before : (other : NavId) (place : Place) → IsAtOrBelow nav other place → place_of s other ≡ Some place → has_nav (take n w.navs) other ≡ false
    not_before other place at_or placed = by_test (has_nav (take n w.navs) other) refl
      where
        never : IsApart s nav other → IsAtOrBelow nav other place → ⊥
        never apart (inl same) = let no_ : true ≡ false = sym same ∙ apart.differs in cc
        never apart (inr below) = let no_ : true ≡ false = sym below ∙ apart.beside place placed in cc

        by_test : (b : Bool) → has_nav (take n w.navs) other ≡ b → has_nav (take n w.navs) other ≡ false
        by_test false is_ = is_
        by_test true is_ =
            let found = taken n w.navs other is_ in
            absurd (never (walking.order.apart found.0 n other nav found.1 found.2 here) at_or)

    -- it may be moved
    pub may_move : (cause : Why) → w.cause ≡ cause → MayMoveTo w.pass t.running t.kept.keep s nav cause
    may_move cause same =
        subst (λ (c : Why). MayMoveTo w.pass t.running t.kept.keep s nav c) same (record {
          may = walking.may;
          movable = record {
            since = walking.walked.since;
            awake_since = λ other place doc at_or placed wakes. walking.unwoken other place doc (not_before other place at_or placed) placed wakes;
            moved = λ place placed shown. moved_here (let both : Some place ≡ Some needing.place = sym placed ∙ needing.placed in let one : place ≡ needing.place = cc in subst (λ (p : Place). 1 ≤ p.epoch.0) one shown);
          };
          leaves = λ place placed shown. leaves_here (let both : Some place ≡ Some needing.place = sym placed ∙ needing.placed in let one : place ≡ needing.place = cc in subst (λ (p : Place). 1 ≤ p.epoch.0) one shown);
          free = λ place placed shown. frees_here (let both : Some place ≡ Some needing.place = sym placed ∙ needing.placed in let one : place ≡ needing.place = cc in subst (λ (p : Place). 1 ≤ p.epoch.0) one shown);
          rows_ = walking.rows_;
          were = walking.walked.were;
          loads = kept_loads t.running w.pass.loads w.pass.hand s passing.going.tab walking.walked.were.owned walking.walked.loads;
          left_loads = λ place left d placed last found undiscarded. left_loads t.running w.pass.loads w.pass.hand s passing.going.tab walking.walked.were.owned walking.walked.loads nav needing.place needing.placed visited left d (let both : Some place ≡ Some needing.place = sym placed ∙ needing.placed in let one : place ≡ needing.place = cc in ap (λ (p : Place). p.last) (sym one) ∙ last) found undiscarded;
          header = walking.header;
        })

    -- ---- after it

    module _ (u : Tables) (new : List RowKind) (then_ : IsPassing w.pass new u) (turn : IsTurn s (now_of e new) nav) (wakes : AwakeSince s (nav ∷ []) (now_of e new)) (only : HasOnlyServed t.running w.cause out new) (kept : KeepsStore t u) where
      abbrev x : Seen
      x = now_of e new

      abbrev why : Why
      why = show_why t.running w.cause

      orders : HasOnly (IsOrderOf IsOfWalk) out new
      orders = walk_orders t.running w.cause out new only

      all_passed : HavePassed s
      all_passed = passing.going.tab.asked.passed

      unwoken_then : AwakeSince e.start (take (suc n) w.navs) x
      unwoken_then other place doc out_ placed on =
          walking.unwoken other was.place doc before was.placed was.wakes
        where
          apart : (b : Bool) → (nav.0 == other.0) ≡ b → (nav.0 == other.0) ≡ false
          apart false is_ = is_
          apart true is_ =
              let same : nav ≡ other = nav_is nav other is_ in
              let among : has_nav (take (suc n) w.navs) other ≡ true = subst (λ (m : NavId). has_nav (take (suc n) w.navs) m ≡ true) same (own_taken n w.navs nav here) in
              let never : true ≡ false = sym among ∙ out_ in absurd cc

          was : WasAwake s other doc
          was = wakes other place doc (rw (apart (nav.0 == other.0) refl) refl) placed on

          before : has_nav (take n w.navs) other ≡ false
          before = by_test (has_nav (take n w.navs) other) refl
            where
              by_test : (b : Bool) → has_nav (take n w.navs) other ≡ b → has_nav (take n w.navs) other ≡ false
              by_test false is_ = is_
              by_test true is_ =
                  let never : true ≡ false = sym (more_taken n w.navs other is_) ∙ out_ in absurd cc

      -- one below it hung below it before
      shown_above : (other : NavId) (place : Place) → place_of x other ≡ Some place → is_below nav place ≡ true → is_some needing.place.last ≡ true
      shown_above other place placed below = by_old (place_of s other) refl (turn.others.ways other)
        where
          by_old : (o : Option Place) → place_of s other ≡ o → option_map (λ (p : Place). p.above) (place_of x other) ≡ option_map (λ (p : Place). p.above) o → is_some needing.place.last ≡ true
          by_old None at ways =
              let never : Some place.above ≡ None = sym (ap (λ (o : Option Place). option_map (λ (p : Place). p.above) o) placed) ∙ ways in absurd cc
          by_old (Some old) at ways =
              let both : Some place.above ≡ Some old.above = sym (ap (λ (o : Option Place). option_map (λ (p : Place). p.above) o) placed) ∙ ways in
              let same : place.above ≡ old.above = cc in
              walking.walked.parents other nav old needing.place at (ap (λ (l : List NavId). has_nav l nav) (sym same) ∙ below) needing.placed

      -- so it was shown a document before
      raised : is_some needing.place.last ≡ true → 1 ≤ needing.place.epoch.0
      raised last = by_epoch needing.place.epoch.0 refl
        where
          by_epoch : (k : ℕ) → needing.place.epoch.0 ≡ k → 1 ≤ needing.place.epoch.0
          by_epoch zero is_ =
              let none : needing.place.last ≡ None = (needing.standing.told.0 is_).last in
              let never : true ≡ false = sym last ∙ ap is_some none in absurd cc
          by_epoch (suc k) is_ = omega (arith, is_)

      moved_below : (other : NavId) (place : Place) → place_of x other ≡ Some place → is_below nav place ≡ true → IsVisitedInNeed x place → 1 ≤ place.epoch.0 → IsMovedBy x why other
      moved_below other place placed below visited_ shown =
          below_moved x why nav then_.going.tab.sound then_.going.tab.hangs (moved_over e out new orders why nav (moved_here (raised (shown_above other place placed below)))) other place placed below

      -- so do those leave what they show that are below it
      leaver_then : (other : NavId) → IsLeaver s why other → IsLeaver x why other
      leaver_then other its = leaver_still s x why (looks_over e out new orders) other (turn.others.ways other) its

      leaves_below : (other : NavId) (place : Place) → place_of x other ≡ Some place → is_below nav place ≡ true → IsVisitedInNeed x place → 1 ≤ place.epoch.0 → IsLeaver x why other
      leaves_below other place placed below visited_ shown =
          leaver_below x then_.going.tab.sound then_.going.tab.hangs why nav (leaver_then nav (leaves_here (raised (shown_above other place placed below)))) other place placed below

      -- who is awake has an entry: it was awake on the same document before, or has its target
      own_row : has_row nav x.history.rows ≡ true
      own_row =
          let its = target_has s.history.rows nav (aim_of s) needing.target needing.at in
          ap (λ (h : History). has_row nav h.rows) turn.others.history
          ∙ has_any (is_of nav) s.history.rows needing.target its.there (ap (λ (m : NavId). m.0 == nav.0) its.nav_is ∙ nat_eq_refl nav.0)

      rows_then : AreAwakeWithRows s → AreAwakeWithRows x
      rows_then are other place doc placed on = by_nav (nav.0 == other.0) refl
        where
          own : place.nav ≡ other
          own = found_nav x.places other place placed

          by_nav : (b : Bool) → (nav.0 == other.0) ≡ b → has_row place.nav x.history.rows ≡ true
          by_nav true same =
              subst (λ (m : NavId). has_row m x.history.rows ≡ true) (nav_is nav other same ∙ sym own) own_row
          by_nav false apart =
              let was : WasAwake s other doc = wakes other place doc (rw apart refl) placed on in
              ap (λ (h : History). has_row place.nav h.rows) turn.others.history
              ∙ ap (λ (m : NavId). has_row m s.history.rows) (own ∙ sym (found_nav s.places other was.place was.placed))
              ∙ are other was.place doc was.placed was.wakes

      -- where something was put out, not all stand
      never_all : all_stand x (aim_of x) ≡ true → ⊥
      never_all all = let never : true ≡ false = sym (stood_over e out new orders all_passed all) ∙ need_not_all_stand s nav needing.place needing.placed visited in cc

      walked_then : HasWalked e x
      walked_then =
          record {
            since = record {
              distinct = walking.walked.since.distinct;
              homed = walking.walked.since.homed;
              ways = ways_over e out new orders e.start.places walking.walked.since.ways;
            };
            unwoken = λ all. absurd (never_all all);
            still = λ all. absurd (never_all all);
            were = were_over e out new orders walking.walked.were;
            parents = parents_over e out new orders walking.walked.parents;
            loads = loads_stand_still s x (looks_over e out new orders) (reached_still s x nav needing.place passing.going.tab.sound passing.going.tab.hangs turn.others needing.placed visited) walking.walked.loads;
          }

      pub turn_walking : OffAreLeft e new why → IsWalking w (n + 1) new u
      turn_walking off =
          record {
            passing = then_;
            walked = walked_then;
            may = turn.causes w.cause walking.may;
            unwoken = subst (λ (m : ℕ). AwakeSince e.start (take m w.navs) x) (sym (plus_one n)) unwoken_then;
            moves = subst (λ (r : Option ReqId). MovesLater x (show_why r w.cause) w.navs (n + 1)) (sym kept.running) (later_kept s x why w.navs n nav passing.going.tab.sound passing.going.tab.hangs here turn.others (moved_over e out new orders why) moved_below walking.moves);
            leavers = subst (λ (r : Option ReqId). LeavesLater x (show_why r w.cause) w.navs (n + 1)) (sym kept.running) (later_have (λ (m : NavId). IsLeaver s why m) (λ (m : NavId). IsLeaver x why m) s x w.navs n nav passing.going.tab.sound passing.going.tab.hangs here turn.others leaver_then leaves_below walking.leavers);
            frees = later_have (λ (m : NavId). MayDiscardIn false e) (λ (m : NavId). MayDiscardIn false e) s x w.navs n nav passing.going.tab.sound passing.going.tab.hangs here turn.others (λ other free. free) (λ other place placed below visited_ shown. frees_here (raised (shown_above other place placed below))) walking.frees;
            rows_ = rows_then walking.rows_;
            off = subst (λ (r : Option ReqId). OffAreLeft e new (show_why r w.cause)) (sym kept.running) off;
            header = kept.keep ∙ walking.header;
            order = walk_stays s x w.navs nav turn.others walking.order;
            served = one_more s x passing.going.tab.sound passing.going.tab.hangs w.navs n nav here walking.order turn.others turn.own walking.served;
          }

      -- it had been shown a document, where one is below it
      raised_below : (other : NavId) (q : Place) → place_of s other ≡ Some q → is_below nav q ≡ true → 1 ≤ needing.place.epoch.0
      raised_below other q there below =
          raised (walking.walked.parents other nav q needing.place there below needing.placed)

      left_by : IsCalmTurn s x nav needing.place → ((q : Place) → place_of x nav ≡ Some q → (q ≡ needing.place) ⊎ (needing.place.last ≡ None → q.epoch.0 ≡ 1)) → (LoadsHaveDocuments s → LoadsHaveDocuments x) → LeavesLog s x
      left_by calm first loading =
          record {
            history = turn.others.history;
            aim = turn.others.aim;
            parked = turn.parked;
            looks = looks_over e out new orders;
            causes = turn.causes;
            rows_ = rows_then;
            calms = turn_keeps s x passing.going.tab.sound passing.going.tab.hangs passing.going.tab.homes passing.going.tab.standing nav needing.place needing.placed visited turn.others raised_below calm;
            up = turn_up s x passing.going.tab.sound passing.going.tab.hangs passing.going.tab.standing nav needing.place needing.placed visited turn.others calm.own raised_below first;
            loading = loading;
          }

      -- what it leaves, where it was moved
      pub moved_left : HasBeenMoved e nav out new → LeavesLog s x
      moved_left moved =
          left_by (moved_calm e nav out new moved turn.others needing.place needing.placed (λ none. (needing.standing.told.0 none).last)) (λ q there. inr (moved_first e nav out new moved turn.others needing.place needing.placed (λ none. (needing.standing.told.0 none).last) q there)) (moved_loads e nav out new moved)

      -- and where its document is made
      pub made_left : (header : Header) (entry : EntryId) (cause : Why) → HasMade header t nav entry cause out new → LeavesLog s x
      made_left header entry cause made =
          left_by (made_calm header t nav entry cause e out new made needing.place needing.placed) (λ q there. inl (let both : Some q ≡ Some needing.place = sym there ∙ made_place header t nav entry cause e out new made ∙ needing.placed in cc)) (made_loads header t nav entry cause e out new made)
