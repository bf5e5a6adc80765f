-- What a document made is applied by a change that can take entries: what goes on of those that are left one, and for which request the documents are discarded whose states lost theirs.
use Rattle.tab_facts.specs.Calm.Calm.{CalmUnless, IsCalmYet, IsHere, UnmovedAreHere}
use Rattle.seen_facts.proofs.Entry.Skips.{without_made}
use Rattle.seen_facts.specs.LoadEnds.Standing.{is_reached}
use Rattle.log_model.specs.History.{has_nav, has_row, has_state, target_entry}
use Rattle.log_model.specs.Places.{aim_of, is_awake, is_below, is_given_target, is_shown, way_of, way_to}
use Rattle.log_model.specs.Seen.{Document, Place, Seen, awake, document_of, place_of}
use Rattle.log_model.specs.declared.change.Change.{Change}
use Rattle.log_model.specs.declared.made.Made.{Made}
use Rattle.log_model.specs.declared.row.Row.{Row}
use Rattle.log_model.specs.declared.row_kind.RowKind.{RowKind}
use Rattle.seen_facts.specs.Mover.Movers.{IsMovedBy}
use Rattle.nav_tree.specs.Tree.{state_of}
use Rattle.std.proofs.Common.{Bool, List, None, Option, Some, ap, false, inl, inr, refl, subst, sym, true, ℕ, ◌==◌, ◌∙◌, ◌∷◌, ◌≡◌, ◌≤◌, ◌⊎◌}
use Rattle.std.specs.Prelude.{is_some, option_map}
use Rattle.step_index.specs.Held.{history_held}
use Rattle.tab_doors.specs.declared.tables.Tables.{Tables}
use Rattle.tab_rests.proofs.PassedOn.{EntriesAreNoted, IsBare, IsBlamed, IsStray, IsUnsettled, MayServe, ParentsShown, StandOrBare, TakersServe, entered_in, held, in_table, leaving_none, listed_here, serve_on, tab_placed, way_same}
use Rattle.tab_rests.specs.PassedOn.{AreBlamed, InPass, IsLoadOf, IsOpen, IsTab, MayStand, StandOrMove}
use Rattle.tab_ids.specs.declared.DocId.{DocId}
use Rattle.tab_ids.specs.declared.NavId.{NavId}
use Rattle.tab_ids.specs.declared.ReqId.{ReqId}
use Rattle.tab_ids.specs.declared.StateId.{StateId}
use Rattle.tab_takes.proofs.Applied.{causes, leave_on, loads_back, moved_on, moved_same, n as after_change, own_leaves, serves, stray_unloaded}
use Rattle.tab_takes.proofs.Stays.{but_given, reached_same, shown_same, visited_on, way_rows}
use Rattle.tab_takes.proofs.Verdicts.{s as before_change, tab}
use Rattle.tab_takes.proofs.Ways.{IsTargetOf}
use Rattle.tab_takes.specs.Taking.{IsToTake}
use Rattle.seen_facts.proofs.Walk.Placed.{found_nav}
use Rattle.log_model.specs.declared.job.Why.TheVariants as whys

-- who has an entry then is left its target, of these steps, or was given one of the same document state
pub record KeepsAt (s n : Seen) (become : Place → Place) (before after : ℕ) : Type 0 where
  pub on : (x : NavId) (row : Row) → has_row x n.history.rows ≡ true → target_entry s.history.rows x before ≡ Some row → IsTargetOf n.history.rows x after row.state
  pub back : (x : NavId) (row : Row) → target_entry n.history.rows x after ≡ Some row → IsTargetOf s.history.rows x before row.state
  pub given : (x : NavId) (place : Place) → place_of s x ≡ Some place → has_row x n.history.rows ≡ true → is_given_target n.history.rows after (become place) ≡ is_given_target s.history.rows before place

-- the document was there, of the same document state
pub record WasDocument (s : Seen) (doc : DocId) (d : Document) : Type 0 where
  pub old : Document
  pub there : document_of s doc ≡ Some old
  pub state : old.state ≡ d.state
  pub ready : old.is_ready ≡ d.is_ready
  pub discarded : old.is_discarded ≡ d.is_discarded

module _ (p : InPass) (out : List RowKind) (t : Tables) (blame : List (StateId × ReqId)) (made : Made) (at : IsToTake p out t blame made) (change : Change) where
  abbrev s : Seen
  s = before_change p out t blame made at

  abbrev n : Seen
  n = after_change p out t blame made at change

  abbrev left : List Made
  left = without_made made.req p.hand

  abbrev whole : IsTab t.running p.loads p.hand s
  whole = tab p out t blame made at

  base : IsOpen p.event t.running whys.Start s
  base = at.open_.open_ whys.Start (λ r never. absurd cc)

  module _ (tab_n : IsTab t.running p.loads left n) (become : Place → Place) (place_n : (m : NavId) → place_of n m ≡ option_map become (place_of s m)) (alike : (x : Place) → but_given (become x) ≡ but_given x) where
    -- the place before
    pub record Was (m : NavId) (place : Place) : Type 0 where
      pub old : Place
      pub there : place_of s m ≡ Some old
      pub is : become old ≡ place
      pub same : but_given old ≡ but_given place

    pub was : (m : NavId) (place : Place) → place_of n m ≡ Some place → Was m place
    was m place found = by_old (place_of s m) refl
      where
        by_old : (o : Option Place) → place_of s m ≡ o → Was m place
        by_old None none =
            let never : None ≡ Some place = sym (place_n m ∙ ap (option_map become) none) ∙ found in absurd cc
        by_old (Some old) there =
            let two : Some (become old) ≡ Some place = sym (place_n m ∙ ap (option_map become) there) ∙ found in
            let one : become old ≡ place = cc in
            record { old = old; there = there; is = one; same = sym (alike old) ∙ ap but_given one }

    way_was : (m : NavId) (place : Place) → place_of n m ≡ Some place → way_to n m ≡ way_to s m
    way_was m place found =
        let w = was m place found in
        way_same s n m (ap (option_map (λ (x : Place). x.above)) found ∙ ap (λ (x : Place). let o : Option (List NavId) = Some x.above in o) (sym w.same) ∙ sym (ap (option_map (λ (x : Place). x.above)) w.there))

    pub now_at : (m : NavId) (old : Place) → place_of s m ≡ Some old → place_of n m ≡ Some (become old)
    now_at m old there = place_n m ∙ ap (option_map become) there

    pub parents_n : ParentsShown n
    parents_n m above place up placed has there =
        let w = was m place placed in
        let w_up = was above up there in
        ap (λ (x : Place). is_some x.last) (sym w_up.same)
        ∙ base.parents m above w.old w_up.old w.there (ap (λ (x : Place). has_nav x.above above) w.same ∙ has) w_up.there

    pub takers_n : ((x : Place) → ((become x).taken_by ≡ x.taken_by) ⊎ ((become x).taken_by ≡ Some made.req)) → TakersServe n
    takers_n taken m place r found is = by_case (taken w.old)
      where
        w : Was m place
        w = was m place found

        taken_is : (become w.old).taken_by ≡ Some r
        taken_is = ap (λ (x : Place). x.taken_by) w.is ∙ is

        by_case : ((become w.old).taken_by ≡ w.old.taken_by) ⊎ ((become w.old).taken_by ≡ Some made.req) → MayServe n r
        by_case (inl same) =
            serve_on s n r (causes p out t blame made at change tab_n) (base.takers m w.old r w.there (sym same ∙ taken_is))
        by_case (inr own) =
            let two : Some made.req ≡ Some r = sym own ∙ taken_is in
            let one : made.req ≡ r = cc in
            subst (λ (x : ReqId). MayServe n x) one (serves p out t blame made at change tab_n)

    -- ---- loads

    module _ (before after : ℕ) (aim_n : aim_of n ≡ after) (aim_s : aim_of s ≡ before) (keeps : KeepsAt s n become before after) where
      reach : (m : NavId) (place : Place) → place_of s m ≡ Some place → has_row m n.history.rows ≡ true → is_reached n m ≡ is_reached s m
      reach =
          reached_same s n whole.sound whole.hangs tab_n.sound tab_n.hangs become place_n alike before after keeps.on keeps.back keeps.given aim_n aim_s

      placed : (r : ReqId) (m : NavId) → IsLoadOf n r m → (y : Place) × (place_of s m ≡ Some y)
      placed r m load =
          tab_placed t.running p.loads p.hand s whole r m (loads_back p out t blame made at change r m load)

      stand_bare : StandOrBare s → ((m : NavId) → has_row m n.history.rows ≡ true → has_row m s.history.rows ≡ true) → (r : ReqId) (m : NavId) → IsLoadOf n r m → (is_reached n m ≡ true) ⊎ IsBare n m
      stand_bare so row_was r m load = by_row (has_row m n.history.rows) refl
        where
          x : (y : Place) × (place_of s m ≡ Some y)
          x = placed r m load

          by_case : has_row m n.history.rows ≡ true → (is_reached s m ≡ true) ⊎ IsBare s m → (is_reached n m ≡ true) ⊎ IsBare n m
          by_case has (inl is) = inl (reach m x.0 x.1 has ∙ is)
          by_case has (inr is) = let never : true ≡ false = sym (row_was m has) ∙ is in absurd cc

          by_row : (b : Bool) → has_row m n.history.rows ≡ b → (is_reached n m ≡ true) ⊎ IsBare n m
          by_row false is = inr is
          by_row true is = by_case is (so r m (loads_back p out t blame made at change r m load))

      stand_move : StandOrMove s → ((m : NavId) → has_row m n.history.rows ≡ true → has_row m s.history.rows ≡ true) → (r : ReqId) (m : NavId) → IsLoadOf n r m → (is_reached n m ≡ true) ⊎ (IsUnsettled n m ⊎ IsBare n m)
      stand_move so row_was r m load = by_row (has_row m n.history.rows) refl
        where
          x : (y : Place) × (place_of s m ≡ Some y)
          x = placed r m load

          unsettled_on : has_row m n.history.rows ≡ true → IsUnsettled s m → IsUnsettled n m
          unsettled_on has away =
              record {
                place = become away.place;
                placed = now_at m away.place away.placed;
                mover = away.mover;
                on_way = ap (λ (y : Place). has_nav (way_of y) away.mover) (alike away.place) ∙ away.on_way;
                own = become away.own;
                there = now_at away.mover away.own away.there;
                need = visited_on s n whole.sound whole.hangs tab_n.sound tab_n.hangs become place_n alike before after keeps.on keeps.back keeps.given aim_n aim_s away.mover away.own away.there (way_rows s n whole.sound whole.hangs tab_n.sound tab_n.hangs become place_n alike before after keeps.on keeps.back keeps.given m away.place away.placed has away.mover (ap (λ (y : NavId). has_nav (y ∷ away.place.above) away.mover) (sym (found_nav s.places m away.place away.placed)) ∙ away.on_way)) away.need;
              }

          by_case : has_row m n.history.rows ≡ true → (is_reached s m ≡ true) ⊎ (IsUnsettled s m ⊎ IsBare s m) → (is_reached n m ≡ true) ⊎ (IsUnsettled n m ⊎ IsBare n m)
          by_case has (inl is) = inl (reach m x.0 x.1 has ∙ is)
          by_case has (inr (inl is)) = inr (inl (unsettled_on has is))
          by_case has (inr (inr is)) = let never : true ≡ false = sym (row_was m has) ∙ is in absurd cc

          by_row : (b : Bool) → has_row m n.history.rows ≡ b → (is_reached n m ≡ true) ⊎ (IsUnsettled n m ⊎ IsBare n m)
          by_row false is = inr (inr is)
          by_row true is = by_case is (so r m (loads_back p out t blame made at change r m load))

      pub stand : (run : Option ReqId) → ((m : NavId) → has_row m n.history.rows ≡ true → has_row m s.history.rows ≡ true) → MayStand run s → MayStand run n
      stand None row_was so = stand_bare so row_was
      stand (Some run) row_was so = stand_move so row_was

    -- ---- where navigables are

    module _ (row_was : (m : NavId) → has_row m n.history.rows ≡ true → has_row m s.history.rows ≡ true) (keeps : KeepsAt s n become s.history.current n.history.current) where
      shown_as : (m : NavId) (place : Place) → place_of s m ≡ Some place → has_row m n.history.rows ≡ true → is_shown n.history.rows n.history.current m ≡ is_shown s.history.rows s.history.current m
      shown_as =
          shown_same s n whole.sound whole.hangs tab_n.sound tab_n.hangs become place_n alike s.history.current n.history.current keeps.on keeps.back keeps.given

      here_on : (m : NavId) (place : Place) (w : Was m place) → has_row m n.history.rows ≡ true → IsHere s w.old → IsHere n place
      here_on m place w has is =
          record {
            shown = ap (λ (x : NavId). is_shown n.history.rows n.history.current x) (ap (λ (x : Place). x.nav) (sym w.same) ∙ own_nav) ∙ shown_as m w.old w.there has ∙ ap (λ (x : NavId). is_shown s.history.rows s.history.current x) (sym own_nav) ∙ is.shown;
            target = ap (λ (x : Place). is_given_target n.history.rows n.history.current x) (sym w.is) ∙ keeps.given m w.old w.there has ∙ is.target;
          }
        where
          own_nav : w.old.nav ≡ m
          own_nav = found_nav s.places m w.old w.there

      pub calm_on : (run : Option ReqId) → CalmUnless IsCalmYet run s → CalmUnless IsCalmYet run n
      calm_on (Some run) so = tt
      calm_on None so =
          record {
            here = λ m place doc found wakes_. by_here m place doc (was m place found) wakes_ (has_row m n.history.rows) refl;
            wakes = λ m place found shown epoch. by_wakes m place (was m place found) shown epoch (has_row m n.history.rows) refl;
          }
        where
          here_then : (m : NavId) (place : Place) (w : Was m place) → has_row m n.history.rows ≡ true → (has_row m s.history.rows ≡ false) ⊎ IsHere s w.old → (has_row m n.history.rows ≡ false) ⊎ IsHere n place
          here_then m place w has (inl is) = let never : true ≡ false = sym (row_was m has) ∙ is in absurd cc
          here_then m place w has (inr is) = inr (here_on m place w has is)

          by_here : (m : NavId) (place : Place) (doc : DocId) (w : Was m place) → place.status ≡ awake doc → (b : Bool) → has_row m n.history.rows ≡ b → (has_row m n.history.rows ≡ false) ⊎ IsHere n place
          by_here m place doc w wakes_ false is = inl is
          by_here m place doc w wakes_ true is =
              here_then m place w is (so.here m w.old doc w.there (ap (λ (x : Place). x.status) w.same ∙ wakes_))

          wakes_then : (m : NavId) (place : Place) (w : Was m place) → has_row m n.history.rows ≡ true → (has_row m s.history.rows ≡ false) ⊎ (is_awake w.old ≡ true) → (has_row m n.history.rows ≡ false) ⊎ (is_awake place ≡ true)
          wakes_then m place w has (inl is) = let never : true ≡ false = sym (row_was m has) ∙ is in absurd cc
          wakes_then m place w has (inr is) = inr (ap (λ (x : Place). is_awake x) (sym w.same) ∙ is)

          by_wakes : (m : NavId) (place : Place) (w : Was m place) → is_shown n.history.rows n.history.current place.nav ≡ true → 1 ≤ place.epoch.0 → (b : Bool) → has_row m n.history.rows ≡ b → (has_row m n.history.rows ≡ false) ⊎ (is_awake place ≡ true)
          by_wakes m place w shown epoch false is = inl is
          by_wakes m place w shown epoch true is =
              let own_nav : w.old.nav ≡ m = found_nav s.places m w.old w.there in
              wakes_then m place w is (so.wakes m w.old w.there (ap (λ (x : NavId). is_shown s.history.rows s.history.current x) own_nav ∙ sym (shown_as m w.old w.there is) ∙ ap (λ (x : NavId). is_shown n.history.rows n.history.current x) (sym own_nav ∙ ap (λ (x : Place). x.nav) w.same) ∙ shown) (subst (λ (x : Place). 1 ≤ x.epoch.0) (sym w.same) epoch))

      pub unmoved_n : UnmovedAreHere n
      unmoved_n m place doc found wakes_ has still =
          let w = was m place found in
          here_on m place w has (at.open_.unmoved m w.old doc w.there (ap (λ (x : Place). x.status) w.same ∙ wakes_) (row_was m has) (sym (moved_same p out t blame made at change tab_n m) ∙ still))

    -- ---- stray documents

    module _ (was_document : (doc : DocId) (d : Document) → document_of n doc ≡ Some d → WasDocument s doc d) (noted : List (StateId × ReqId)) (are : EntriesAreNoted t made.req blame noted) (moves : (m : NavId) (place : Place) (doc : DocId) (d : Document) → place_of s m ≡ Some place → place.status ≡ awake doc → document_of s doc ≡ Some d → has_state d.state s.history.rows ≡ true → has_state d.state n.history.rows ≡ false → (other : NavId) (under : Place) → place_of n other ≡ Some under → ((other.0 == m.0) ≡ true) ⊎ (is_below m under ≡ true) → IsMovedBy n (whys.Req made.req) other) where
      module _ (doc : DocId) (state : StateId) (stray : IsStray n doc state) where
        d : WasDocument s doc stray.document
        d = was_document doc stray.document stray.found

        of_state : d.old.state ≡ state
        of_state = d.state ∙ stray.its_state

        -- its state lost its entries
        lost_blamed : has_state state s.history.rows ≡ true → IsBlamed n noted doc state
        lost_blamed had =
            record {
              req = made.req;
              noted = are.own doc state (in_table p None out t (leaving_none p out t at.passing) doc state listed) entered;
              may = serves p out t blame made at change tab_n;
              moves = λ m place other under placed_ wakes_ there is. (let w = was m place placed_ in
                  moves m w.old doc d.old w.there (ap (λ (x : Place). x.status) w.same ∙ wakes_) d.there (ap (λ (x : StateId). has_state x s.history.rows) of_state ∙ had) (ap (λ (x : StateId). has_state x n.history.rows) of_state ∙ stray.bare) other under there is);
              leaves = λ m place placed_ wakes_. own_leaves p out t blame made at change tab_n m;
            }
          where
            listed : state_of doc t.tree ≡ Some state
            listed =
                listed_here p None out t (leaving_none p out t at.passing) doc state (record { document = d.old; found = d.there; its_state = of_state; ready = d.ready ∙ stray.ready; undiscarded = d.discarded ∙ stray.undiscarded })

            entered : entered_in t doc ≡ Some state
            entered =
                let kept : has_state state (history_held t.store).rows ≡ true = held p None out t (leaving_none p out t at.passing) state ∙ had in
                rw listed (rw kept refl)

        -- it was stray before
        left_blamed : has_state state s.history.rows ≡ false → IsBlamed n noted doc state
        left_blamed bare =
            by_old (at.open_.blamed doc state (record {
              document = d.old;
              found = d.there;
              its_state = of_state;
              ready = d.ready ∙ stray.ready;
              undiscarded = d.discarded ∙ stray.undiscarded;
              bare = bare;
              unloaded = stray_unloaded p out t blame made at change stray.document state stray.its_state stray.unloaded;
            }))
          where
            below : (m other : NavId) (under : Place) (w : Was other under) → ((other.0 == m.0) ≡ true) ⊎ (is_below m under ≡ true) → ((other.0 == m.0) ≡ true) ⊎ (is_below m w.old ≡ true)
            below m other under w (inl same) = inl same
            below m other under w (inr is) = inr (ap (λ (x : Place). has_nav x.above m) w.same ∙ is)

            by_old : IsBlamed s blame doc state → IsBlamed n noted doc state
            by_old before =
                record {
                  req = before.req;
                  noted = are.others state (held p None out t (leaving_none p out t at.passing) state ∙ bare) ∙ before.noted;
                  may = serve_on s n before.req (causes p out t blame made at change tab_n) before.may;
                  moves = λ m place other under placed_ wakes_ there is. (let one = was m place placed_ in let two = was other under there in
                      moved_on p out t blame made at change (whys.Req before.req) other (before.moves m one.old other two.old one.there (ap (λ (x : Place). x.status) one.same ∙ wakes_) two.there (below m other under two is)));
                  leaves = λ m place placed_ wakes_. (let w = was m place placed_ in
                      leave_on p out t blame made at change tab_n before.req m before.may (way_was m place placed_) (before.leaves m w.old w.there (ap (λ (x : Place). x.status) w.same ∙ wakes_)));
                }

      pub blamed_n : AreBlamed n noted
      blamed_n doc state stray = by_entry (has_state state s.history.rows) refl
        where
          by_entry : (b : Bool) → has_state state s.history.rows ≡ b → IsBlamed n noted doc state
          by_entry true had = lost_blamed doc state stray had
          by_entry false bare = left_blamed doc state stray bare
