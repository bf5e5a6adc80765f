-- A row that ends the request of what a document made, and leaves the history: a pass may follow then as before.
use Rattle.log_model.specs.Equal.{holds}
use Rattle.tab_facts.specs.Calm.Calm.{AreRooted, CalmUnless, IsCalmYet, IsHere, IsRooted, UnmovedAreHere}
use Rattle.seen_facts.proofs.Coord.Held.{on_else}
use Rattle.seen_facts.proofs.Entry.Skips.{without_made}
use Rattle.tab_facts.specs.Frame.Lasting.{wish}
use Rattle.tab_rests.proofs.PassedOn.{course_of}
use Rattle.seen_facts.specs.Hang.Members.{Has}
use Rattle.seen_facts.specs.Home.Homes.{document_in}
use Rattle.row_facts.specs.Left.Left.{LastWereShown, OwnersFollow, WasEverShown, WereShown}
use Rattle.seen_facts.specs.LoadEnds.Standing.{is_reached}
use Rattle.log_model.specs.After.{ended}
use Rattle.log_model.specs.AfterRequests.{without_req}
use Rattle.log_model.specs.History.{History, has_row, has_state}
use Rattle.log_model.specs.Orders.{is_usable}
use Rattle.tab_facts.proofs.FrameTab.Running.{moved_same as moved_in}
use Rattle.log_model.specs.Places.{aim_of, aim_with, is_awake, is_given_target, is_gone, is_moved, is_shown, is_under_way}
use Rattle.log_model.specs.declared.row.Row.{Row}
use Rattle.log_model.specs.Seen.{Asked, Document, Place, Seen, place_in, place_of, request_of}
use Rattle.log_model.specs.declared.job.Why.{Why}
use Rattle.log_model.specs.declared.made.Made.{Made}
use Rattle.log_model.specs.declared.outcome.Ending.{Ending}
use Rattle.log_model.specs.declared.row_kind.RowKind.{RowKind}
use Rattle.seen_facts.proofs.Mover.Places.{same_ways}
use Rattle.seen_facts.proofs.Mover.Stays.{KeepWays}
use Rattle.seen_facts.specs.Mover.Movers.{IsMovedBy}
use Rattle.row_facts.proofs.Owed.Aims.{ended_aim}
use Rattle.row_facts.proofs.Owed.Rows.{IsIdle}
use Rattle.seen_facts.specs.Each.Runs.{is_run}
use Rattle.seen_facts.proofs.Request.Readers.{SameReads, on_read}
use Rattle.std.proofs.Common.{Bool, List, None, Option, Some, [], ap, false, inl, inr, refl, subst, sym, true, ◌&&◌, ◌==◌, ◌∙◌, ◌≡◌, ◌≤◌, ◌⊎◌}
use Rattle.std.specs.List.{list_any}
use Rattle.std.specs.Prelude.{option_map}
use Rattle.tab_rests.proofs.PassedOn.{IsBare, IsBlamed, IsUnsettled, MayServe, ParentsShown, StandOrBare, TakersServe, begun_as_it_was, causes_on, goes_on, live_then, may_leave_reads, reached_same, serve_on, takers_on, visited_same, way_same}
use Rattle.tab_rests.specs.PassedOn.{AreBlamed, InPass, IsLoadOf, IsOpen, IsTab, LeavesQueue, LoadsLive, MayCause, MayStand, StandOrMove}
use Rattle.tab_doors.specs.declared.tables.Tables.{Tables}
use Rattle.tab_ids.specs.declared.DocId.{DocId}
use Rattle.tab_ids.specs.declared.NavId.{NavId}
use Rattle.tab_ids.specs.declared.ReqId.{ReqId}
use Rattle.tab_ids.specs.declared.StateId.{StateId}
use Rattle.tab_takes.proofs.Ended.{load_back, look_back, ready_back, unloaded_back}
use Rattle.tab_takes.proofs.Opens.{new_of, open_then}
use Rattle.tab_rests.proofs.PassedOn.{HasSetOut}
use Rattle.tab_takes.proofs.Sorts.{set_out}
use Rattle.tab_takes.proofs.Verdicts.{s, tab}
use Rattle.tab_takes.proofs.Where.{joined_same}
use Rattle.tab_takes.specs.Taking.{IsTaking, IsToTake}
use Rattle.row_facts.proofs.WalkRows.Sinces.{places_since, since_itself}
use Rattle.log_model.specs.declared.job.Why.TheVariants as whys

-- what is read of the history of a place
abbrev here_shown : History → Place → Bool
here_shown h place = is_shown h.rows h.current place.nav

abbrev here_target : History → Place → Bool
here_target h place = is_given_target h.rows h.current place

abbrev rooted_in : History → Place → Document → Type 0
rooted_in h place d =
    ((row : Row) × (Has h.rows row) × (row.nav ≡ place.nav) × (place.given ≡ Some row.entry)) ⊎ ((row : Row) × (Has h.rows row) × (row.state ≡ d.state) × (row.step.0 ≤ h.current))

module _ (p : InPass) (out : List RowKind) (t : Tables) (blame : List (StateId × ReqId)) (made : Made) (at : IsToTake p out t blame made) where
  abbrev now_ : Seen
  now_ = s p out t blame made at

  abbrev whole : IsTab t.running p.loads p.hand now_
  whole = tab p out t blame made at

  abbrev rest : List Made
  rest = without_made made.req p.hand

  abbrev q : Asked
  q = at.taking.q

  abbrev own_at : request_of now_ made.req ≡ Some q
  own_at = at.taking.there

  -- it isn't the traversal that runs
  pub idle : IsIdle now_ made.req
  idle x there =
      let two : Some q ≡ Some x = sym own_at ∙ there in
      let one : q ≡ x = cc in
      subst (λ (y : Asked). is_run y ≡ false) one (rw at.taking.rests (never (is_under_way q)))
    where
      never : (b : Bool) → (b && false) ≡ false
      never true = refl
      never false = refl

  -- it may be what an order is for
  serves : MayServe now_ made.req
  serves =
      record {
        goes = goes_on now_ t.running whole.asked made.req q own_at;
        begun = λ x there.
            let two : Some q ≡ Some x = sym own_at ∙ there in
            let one : q ≡ x = cc in
            subst (λ (y : Asked). HasSetOut y) one (set_out p out t blame made at);
      }

  module _ (n : Seen) (tab_n : IsTab t.running p.loads rest n) (wishes : SameReads wish now_.requests n.requests) (begun : SameReads course_of now_.requests n.requests) where
    pub causes_then : (why : Why) → MayCause now_ why → MayCause n why
    causes_then = causes_on now_ n t.running tab_n.asked wishes (begun_as_it_was now_.requests n.requests begun)

    pub cause_then : MayCause n (whys.Req made.req)
    cause_then = causes_then (whys.Req made.req) (λ r same. let one : made.req ≡ r = cc in subst (λ (x : ReqId). MayServe now_ x) one serves)

  -- ---- the history, the navigables and the documents are as they were

  module _ (n : Seen) (ending : Ending) (places : n.places ≡ now_.places) (documents : n.documents ≡ now_.documents) (history : n.history ≡ now_.history) (kept : n.kept ≡ now_.kept) (requests : n.requests ≡ ended now_.requests made.req ending) (joined : n.joined ≡ without_req made.req now_.joined) (gone : is_gone n ≡ is_gone now_) (moved : (why : Why) (nav : NavId) → IsMovedBy now_ why nav → IsMovedBy n why nav) (tab_n : IsTab t.running p.loads rest n) where
    abbrev end_it : Asked → Asked
    end_it x = record x { ending = Some ending }

    reads : {B : Type 0} (read : Asked → B) → ((x : Asked) → read (record x { ending = Some ending }) ≡ read x) → SameReads read now_.requests n.requests
    reads {B} read blind =
        subst (λ (l : List Asked). SameReads read now_.requests l) (sym requests) (on_read read now_.requests made.req (λ (x : Asked). record x { ending = Some ending }) blind)

    wishes : SameReads wish now_.requests n.requests
    wishes = reads wish (λ x. refl)

    begun : SameReads course_of now_.requests n.requests
    begun = reads course_of (λ x. refl)

    whats : SameReads (λ (x : Asked). x.what) now_.requests n.requests
    whats = reads (λ (x : Asked). x.what) (λ x. refl)

    starts : SameReads (λ (x : Asked). x.is_started) now_.requests n.requests
    starts = reads (λ (x : Asked). x.is_started) (λ x. refl)

    other : (r : ReqId) → (r.0 == made.req.0) ≡ false → request_of n r ≡ request_of now_ r
    other r apart =
        ap (λ (l : List Asked). (let x : Seen = record n { requests = l } in request_of x r)) requests ∙ on_else now_.requests made.req (λ (x : Asked). record x { ending = Some ending }) r apart

    causes : (why : Why) → MayCause now_ why → MayCause n why
    causes = causes_then n tab_n wishes begun

    aim : aim_of n ≡ aim_of now_
    aim =
        ap (λ (g : DocId → Bool). aim_with g n.requests n.history) gone
        ∙ ap (λ (l : List Asked). aim_with (is_gone now_) l n.history) requests
        ∙ ap (λ (h : History). aim_with (is_gone now_) (ended now_.requests made.req ending) h) history
        ∙ ended_aim (is_gone now_) now_.history now_.requests made.req ending idle

    place_same : (nav : NavId) → place_of n nav ≡ place_of now_ nav
    place_same nav = ap (λ (l : List Place). place_in l nav) places

    loads : (r : ReqId) (nav : NavId) → IsLoadOf n r nav → IsLoadOf now_ r nav
    loads = load_back now_ n made.req q own_at at.taking.unstarted other starts

    base : IsOpen p.event t.running whys.Start now_
    base = at.open_.open_ whys.Start (λ r never. absurd cc)

    were : WereShown n
    were =
        record {
          lasts = subst (λ (l : List Place). LastWereShown l) (sym places) base.were.lasts;
          kept = λ doc there. subst (λ (l : List Place). WasEverShown l doc) (sym places) (base.were.kept doc (subst (λ (l : List DocId). Has l doc) kept there));
          owned = subst (λ (l : List Place). OwnersFollow l) (sym places) base.were.owned;
        }

    parents : ParentsShown n
    parents nav above place up placed has there =
        base.parents nav above place up (sym (place_same nav) ∙ placed) has (sym (place_same above) ∙ there)

    takers : TakersServe n
    takers = takers_on now_ n causes (λ nav. ap (λ (o : Option Place). option_map (λ (x : Place). x.taken_by) o) (place_same nav)) base.takers

    pub opens : (cause : Why) → MayCause n cause → IsOpen p.event t.running cause n
    opens =
        open_then p.event t.running now_ n base tab_n.asked (subst (λ (l : List Place). KeepWays now_.places l) (sym places) (same_ways now_.places)) (places_since now_ now_ [] (since_itself now_) n places) were parents loads takers
        (λ nav doc was. record { place = was.place; placed = place_same nav ∙ was.placed; wakes = was.wakes })
        (λ doc is. ap (λ (l : List Document). holds (λ (d : Document). d.is_discarded) (document_in l doc)) documents ∙ is)
        (λ idle_ nav place found need. new_of p.event now_ (subst (λ (r : Option ReqId). IsOpen p.event r whys.Start now_) idle_ base) nav place (sym (place_same nav) ∙ found) (visited_same n now_ (sym places) (sym history) (sym aim) place need))

    -- ---- loads

    bare_on : (nav : NavId) → IsBare now_ nav → IsBare n nav
    bare_on nav is = ap (λ (h : History). has_row nav h.rows) history ∙ is

    unsettled_on : (nav : NavId) → IsUnsettled now_ nav → IsUnsettled n nav
    unsettled_on nav away =
        record {
          place = away.place;
          placed = place_same nav ∙ away.placed;
          mover = away.mover;
          on_way = away.on_way;
          own = away.own;
          there = place_same away.mover ∙ away.there;
          need = visited_same now_ n places history aim away.own away.need;
        }

    stand_bare : StandOrBare now_ → (r : ReqId) (nav : NavId) → IsLoadOf n r nav → (is_reached n nav ≡ true) ⊎ IsBare n nav
    stand_bare so r nav its = by_case (so r nav (loads r nav its))
      where
        by_case : (is_reached now_ nav ≡ true) ⊎ IsBare now_ nav → (is_reached n nav ≡ true) ⊎ IsBare n nav
        by_case (inl is) = inl (reached_same now_ n places history aim nav is)
        by_case (inr is) = inr (bare_on nav is)

    stand_move : StandOrMove now_ → (r : ReqId) (nav : NavId) → IsLoadOf n r nav → (is_reached n nav ≡ true) ⊎ (IsUnsettled n nav ⊎ IsBare n nav)
    stand_move so r nav its = by_case (so r nav (loads r nav its))
      where
        by_case : (is_reached now_ nav ≡ true) ⊎ (IsUnsettled now_ nav ⊎ IsBare now_ nav) → (is_reached n nav ≡ true) ⊎ (IsUnsettled n nav ⊎ IsBare n nav)
        by_case (inl is) = inl (reached_same now_ n places history aim nav is)
        by_case (inr (inl is)) = inr (inl (unsettled_on nav is))
        by_case (inr (inr is)) = inr (inr (bare_on nav is))

    stand : (run : Option ReqId) → MayStand run now_ → MayStand run n
    stand None so = stand_bare so
    stand (Some run) so = stand_move so

    -- ---- stray documents

    blamed : AreBlamed n blame
    blamed doc state stray =
        by_old (at.open_.blamed doc state (record {
          document = stray.document;
          found = ap (λ (l : List Document). document_in l doc) (sym documents) ∙ stray.found;
          its_state = stray.its_state;
          ready = stray.ready;
          undiscarded = stray.undiscarded;
          bare = ap (λ (h : History). has_state state h.rows) (sym history) ∙ stray.bare;
          unloaded = unloaded_back now_ n made.req q own_at at.taking.unstarted other starts stray.document state stray.its_state stray.unloaded;
        }))
      where
        by_old : IsBlamed now_ blame doc state → IsBlamed n blame doc state
        by_old was =
            record {
              req = was.req;
              noted = was.noted;
              may = serve_on now_ n was.req causes was.may;
              moves = λ nav place other_ under placed wakes there is. moved (whys.Req was.req) other_ (was.moves nav place other_ under (sym (place_same nav) ∙ placed) wakes (sym (place_same other_) ∙ there) is);
              leaves = λ nav place placed wakes. may_leave_reads now_ n was.req nav (serve_on now_ n was.req causes was.may) (whats was.req) (starts was.req) (way_same now_ n nav (ap (option_map (λ (x : Place). x.above)) (place_same nav))) (was.leaves nav place (sym (place_same nav) ∙ placed) wakes);
            }

    -- ---- where navigables are

    here_on : (place : Place) → IsHere now_ place → IsHere n place
    here_on place here = record { shown = ap (λ (h : History). here_shown h place) history ∙ here.shown; target = ap (λ (h : History). here_target h place) history ∙ here.target }

    calm_on : IsCalmYet now_ → IsCalmYet n
    calm_on so =
        record {
          here = λ nav place doc found wakes. by_here nav place (so.here nav place doc (sym (place_same nav) ∙ found) wakes);
          wakes = λ nav place found shown epoch. by_wakes nav place (so.wakes nav place (sym (place_same nav) ∙ found) (ap (λ (h : History). here_shown h place) (sym history) ∙ shown) epoch);
        }
      where
        by_here : (nav : NavId) (place : Place) → (has_row nav now_.history.rows ≡ false) ⊎ IsHere now_ place → (has_row nav n.history.rows ≡ false) ⊎ IsHere n place
        by_here nav place (inl is) = inl (bare_on nav is)
        by_here nav place (inr is) = inr (here_on place is)

        by_wakes : (nav : NavId) (place : Place) → (has_row nav now_.history.rows ≡ false) ⊎ (is_awake place ≡ true) → (has_row nav n.history.rows ≡ false) ⊎ (is_awake place ≡ true)
        by_wakes nav place (inl is) = inl (bare_on nav is)
        by_wakes nav place (inr is) = inr is

    calm_unless : (run : Option ReqId) → CalmUnless IsCalmYet run now_ → CalmUnless IsCalmYet run n
    calm_unless None so = calm_on so
    calm_unless (Some run) so = tt

    rooted : AreRooted n
    rooted nav place doc d found wakes there has =
        by_case (at.open_.rooted nav place doc d (sym (place_same nav) ∙ found) wakes (ap (λ (l : List Document). document_in l doc) (sym documents) ∙ there) (ap (λ (h : History). has_state d.state h.rows) (sym history) ∙ has))
      where
        by_case : IsRooted now_ place d → IsRooted n place d
        by_case is = subst (λ (h : History). rooted_in h place d) (sym history) is

    moved_same : (nav : NavId) → is_moved n nav ≡ is_moved now_ nav
    moved_same nav =
        moved_in t.running now_.requests n.requests nav whole.asked.only tab_n.asked.only (reads (λ (x : Asked). x.moved) (λ x. refl))

    unmoved : UnmovedAreHere n
    unmoved nav place doc found wakes has still =
        here_on place (at.open_.unmoved nav place doc (sym (place_same nav) ∙ found) wakes (ap (λ (h : History). has_row nav h.rows) (sym history) ∙ has) (sym (moved_same nav) ∙ still))

    live : LoadsLive n
    live =
        live_then now_ n (look_back now_ n made.req q own_at at.taking.unstarted other starts)
        (λ nav doc was. record { place = was.place; placed = place_same nav ∙ was.placed; wakes = was.wakes })
        (λ state is one. record { doc = one.doc; d = one.d; found = ap (λ (l : List Document). document_in l one.doc) documents ∙ one.found; of_state = one.of_state; there = one.there }) at.open_.live

    -- ---- all of it

    pub taking_then : IsTaking p.event t.running blame n
    taking_then =
        record {
          open_ = opens;
          loads = stand t.running at.open_.loads;
          blamed = blamed;
          calm = calm_unless t.running at.open_.calm;
          unmoved = unmoved;
          rooted = rooted;
          live = live;
        }

    pub queue_then : LeavesQueue now_ n
    queue_then =
        record {
          joined = joined ∙ joined_same p out t blame made at;
          whats = whats;
          ready = ready_back now_ n made.req q own_at at.taking.unstarted other starts (λ state. ap (λ (l : List Document). list_any (λ (d : Document). is_usable d state) l) documents);
        }
