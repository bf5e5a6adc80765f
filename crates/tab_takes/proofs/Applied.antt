-- What a document made is applied, by any change: what a pass asks of the requests and the event goes on, and what is left to be shown of the change itself.
use Rattle.log_model.specs.Equal.{holds}
use Rattle.seen_laws.proofs.InEvents as events
use Rattle.seen_laws.specs.Unasked.{unasked}
use Rattle.leave_facts.proofs.Events.{duly_then}
use Rattle.leave_facts.proofs.Changes.{KeepsTo}
use Rattle.leave_facts.proofs.Carried.{AreLeftDuly}
use Rattle.leave_facts.proofs.Bares.{BareKeeps, bare_change_duly}
use Rattle.leave_facts.proofs.Applied.{FitsWell}
use Rattle.seen_laws.proofs.InEvents.{last_goes, now_at}
use Rattle.tab_facts.proofs.Calm.Calms.{calm_need}
use Rattle.tab_facts.specs.Calm.Calm.{AreRooted, CalmUnless, IsCalmYet, NeedIsNew, UnmovedAreHere}
use Rattle.tab_facts.proofs.Calm.Loads.{HasOne}
use Rattle.seen_facts.proofs.Coord.Held.{on_else}
use Rattle.seen_facts.proofs.Coord.Unread.{next}
use Rattle.seen_facts.proofs.Doc.Lives.{IsAsBefore, change_as, change_keeps, takes_in}
use Rattle.seen_facts.proofs.Entry.Parts.{document_then}
use Rattle.seen_facts.proofs.Entry.Skips.{without_made}
use Rattle.tab_facts.specs.Frame.Lasting.{wish}
use Rattle.tab_rests.proofs.PassedOn.{course_of}
use Rattle.seen_facts.proofs.Each.Courses.{was_asked}
use Rattle.tab_facts.proofs.FrameTab.Running.{moved_same as moved_in}
use Rattle.row_facts.proofs.Left.Rows.{were_shown}
use Rattle.log_model.specs.Places.{aim_of, is_moved, way_to}
use Rattle.seen_facts.specs.Mover.Movers.{IsMovedBy}
use Rattle.tab_doors.specs.Working.{HasGoal}
use Rattle.tab_rests.proofs.PassedOn.{KeepsAwake, MayLeaveNav, MayServe, ParentsShown, TakersServe, aim_is, live_then, may_leave_reads, serve_on, unbegun_leaves}
use Rattle.tab_rests.specs.PassedOn.{AreBlamed, InPass, IsGoing, IsLoadOf, IsOpen, IsPassing, IsTab, LeavesQueue, LoadsLive, MayCause, MayStand, aim_in}
use Rattle.row_facts.proofs.WalkRows.Moved.{applied_moved, open_none}
use Rattle.log_model.proofs.Refl.{nat_eq_refl}
use Rattle.log_model.specs.After.{ended}
use Rattle.log_model.specs.AfterRequests.{entries_taken, on_request}
use Rattle.log_model.specs.Orders.{is_being_made, is_usable, ongoing_load}
use Rattle.log_model.specs.Queue.{is_traverse}
use Rattle.log_model.specs.Seen.{Asked, Document, Seen, request_of, document_of}
use Rattle.log_model.specs.declared.change.Change.TheVariants as changes
use Rattle.log_model.specs.declared.change.Change.{Change}
use Rattle.log_model.specs.declared.job.Why.{Why}
use Rattle.log_model.specs.declared.made.Made.{Made}
use Rattle.log_model.specs.declared.row_kind.Actor.{Actor}
use Rattle.log_model.specs.declared.row_kind.RowKind.{RowKind}
use Rattle.seen_facts.proofs.Mover.Changes.{applied_places}
use Rattle.row_facts.proofs.Owed.Ends.{loose_more, loose_owed}
use Rattle.row_facts.proofs.Owed.Rows.{applied_lasts}
use Rattle.row_facts.specs.Owed.Owed.{IsLoose}
use Rattle.seen_facts.proofs.Request.LookUps.{on_itself}
use Rattle.seen_facts.proofs.Request.Readers.{SameReads, on_read, reads_then}
use Rattle.row_facts.proofs.RestRows.Rows.{applied_rests}
use Rattle.row_facts.proofs.RestRows.Shown.{applied_awake}
use Rattle.row_facts.specs.RestRows.Moving.{AllRest}
use Rattle.seen_laws.specs.InEvent.{InEvent, now_of, row_of, log_of}
use Rattle.std.proofs.Common.{Bool, List, None, Option, Some, [], ap, false, inl, inr, length, not, refl, subst, sym, true, ℕ, ◌&&◌, ◌++◌, ◌==◌, ◌∙◌, ◌∷◌, ◌≡◌, ◌≤◌, ◌⊎◌}
use Rattle.std.specs.List.{list_any}
use Rattle.std.specs.Prelude.{option_map}
use Rattle.tab_doors.specs.Working.{IsAtWork, KeepsRun}
use Rattle.tab_doors.specs.declared.tables.Tables.{Tables}
use Rattle.tab_ids.specs.declared.DocId.{DocId}
use Rattle.tab_ids.specs.declared.NavId.{NavId}
use Rattle.tab_ids.specs.declared.ReqId.{ReqId}
use Rattle.tab_ids.specs.declared.StateId.{StateId}
use Rattle.tab_takes.proofs.Ended.{load_back, look_back, ready_back, unloaded_back}
use Rattle.tab_takes.proofs.Leaving.{cause_then, causes_then}
use Rattle.tab_takes.proofs.Opens.{open_then}
use Rattle.tab_takes.proofs.Verdicts.{s, tab}
use Rattle.tab_takes.proofs.Where.{joined_same}
use Rattle.tab_takes.specs.Taking.{HasTaken, IsTaking, IsToTake, is_reloading}
use Rattle.row_facts.proofs.WalkRows.Sinces.{applied_since, since_itself}
use Rattle.log_model.specs.declared.job.Why.TheVariants as whys
use Rattle.log_model.specs.declared.outcome.Ending.TheVariants as endings
use Rattle.log_model.specs.declared.row_kind.RowKind.TheVariants as rows

-- ---- what is read of the requests

pub applied_reads : {B : Type 0} (read : Asked → B) → (s : Seen) (event : ℕ) (actor : Actor) (req : ReqId) (change : Change) → ((q : Asked) → read (record q { ending = Some endings.Applied }) ≡ read q) → ((q : Asked) → read (record q { change = Some change }) ≡ read q) → ((q : Asked) → read (record q { took = entries_taken s.history change }) ≡ read q) → SameReads read s.requests (next s event actor (rows.Applied req change)).requests
applied_reads {B} read s event actor req change one two three =
    reads_then read s.requests (ended s.requests req endings.Applied) _ (on_read read s.requests req _ one)
    (reads_then read (ended s.requests req endings.Applied) (on_request req (λ q. record q { change = Some change }) (ended s.requests req endings.Applied)) _ (on_read read (ended s.requests req endings.Applied) req _ two)
    (on_read read (on_request req (λ q. record q { change = Some change }) (ended s.requests req endings.Applied)) req (λ q. record q { took = entries_taken s.history change }) three))

module _ (p : InPass) (out : List RowKind) (t : Tables) (blame : List (StateId × ReqId)) (made : Made) (at : IsToTake p out t blame made) (change : Change) where
  abbrev e : InEvent
  e = p.event

  abbrev now_ : Seen
  now_ = s p out t blame made at

  abbrev whole : IsTab t.running p.loads p.hand now_
  whole = tab p out t blame made at

  abbrev rest : List Made
  rest = without_made made.req p.hand

  abbrev q : Asked
  q = at.taking.q

  abbrev pub n : Seen
  n = next now_ e.event e.actor (rows.Applied made.req change)

  pub whats : SameReads (λ (x : Asked). x.what) now_.requests n.requests
  whats = applied_reads (λ (x : Asked). x.what) now_ e.event e.actor made.req change (λ x. refl) (λ x. refl) (λ x. refl)

  pub starts : SameReads (λ (x : Asked). x.is_started) now_.requests n.requests
  starts = applied_reads (λ (x : Asked). x.is_started) now_ e.event e.actor made.req change (λ x. refl) (λ x. refl) (λ x. refl)

  pub moves_same : SameReads (λ (x : Asked). x.moved) now_.requests n.requests
  moves_same = applied_reads (λ (x : Asked). x.moved) now_ e.event e.actor made.req change (λ x. refl) (λ x. refl) (λ x. refl)

  wishes : SameReads wish now_.requests n.requests
  wishes = applied_reads wish now_ e.event e.actor made.req change (λ x. refl) (λ x. refl) (λ x. refl)

  begun : SameReads course_of now_.requests n.requests
  begun = applied_reads course_of now_ e.event e.actor made.req change (λ x. refl) (λ x. refl) (λ x. refl)

  abbrev over : List Asked
  over = on_request made.req (λ (x : Asked). record x { ending = Some endings.Applied }) now_.requests

  abbrev changed : List Asked
  changed = on_request made.req (λ (x : Asked). record x { change = Some change }) over

  pub other : (r : ReqId) → (r.0 == made.req.0) ≡ false → request_of n r ≡ request_of now_ r
  other r apart =
      on_else changed made.req (λ (x : Asked). record x { took = entries_taken now_.history change }) r apart
      ∙ on_else over made.req (λ (x : Asked). record x { change = Some change }) r apart
      ∙ on_else now_.requests made.req (λ (x : Asked). record x { ending = Some endings.Applied }) r apart

  -- the request, as it is then
  abbrev pub then_q : Asked
  then_q = record q { ending = Some endings.Applied; change = Some change; took = entries_taken now_.history change }

  pub own_then : request_of n made.req ≡ Some then_q
  own_then =
      on_itself changed made.req (λ (x : Asked). record x { took = entries_taken now_.history change })
      ∙ ap (option_map (λ (x : Asked). record x { took = entries_taken now_.history change })) (on_itself over made.req (λ (x : Asked). record x { change = Some change }) ∙ ap (option_map (λ (x : Asked). record x { change = Some change })) (on_itself now_.requests made.req (λ (x : Asked). record x { ending = Some endings.Applied }) ∙ ap (option_map (λ (x : Asked). record x { ending = Some endings.Applied })) at.taking.there))

  pub loads_back : (r : ReqId) (nav : NavId) → IsLoadOf n r nav → IsLoadOf now_ r nav
  loads_back = load_back now_ n made.req q at.taking.there at.taking.unstarted other starts

  pub stray_unloaded : (d : Document) (state : StateId) → d.state ≡ state → ongoing_load n state ≡ None → ongoing_load now_ state ≡ None
  stray_unloaded = unloaded_back now_ n made.req q at.taking.there at.taking.unstarted other starts

  -- ---- ongoing loads

  -- a document of a load's state stays one
  one_on : (state : StateId) → HasOne now_ state → HasOne n state
  one_on state one =
      record {
        doc = one.doc;
        d = takes_in change one.d;
        found = document_then now_.documents (takes_in change) (λ d. (change_as change d).nr) one.doc ∙ ap (option_map (takes_in change)) one.found;
        of_state = state_same ∙ one.of_state;
        there = by_case one.there;
      }
    where
      before : IsAsBefore one.d (takes_in change one.d)
      before = change_as change one.d

      state_same : (takes_in change one.d).state ≡ one.d.state
      state_same = (change_keeps change).state one.d

      usable_same : is_usable (takes_in change one.d) state ≡ is_usable one.d state
      usable_same =
          ap (λ (x : StateId). x.0 == state.0 && (takes_in change one.d).is_ready && not (takes_in change one.d).is_discarded && not (takes_in change one.d).is_known_dead) state_same
          ∙ ap (λ (b : Bool). one.d.state.0 == state.0 && b && not (takes_in change one.d).is_discarded && not (takes_in change one.d).is_known_dead) before.ready
          ∙ ap (λ (b : Bool). one.d.state.0 == state.0 && one.d.is_ready && not b && not (takes_in change one.d).is_known_dead) before.discarded
          ∙ ap (λ (b : Bool). one.d.state.0 == state.0 && one.d.is_ready && not one.d.is_discarded && not b) before.unknown

      making_same : is_being_made (takes_in change one.d) ≡ is_being_made one.d
      making_same =
          ap (λ (b : Bool). not b && not (takes_in change one.d).is_known_dead) before.ready
          ∙ ap (λ (b : Bool). not one.d.is_ready && not b) before.unknown

      by_case : (is_usable one.d state ≡ true) ⊎ (is_being_made one.d ≡ true) → (is_usable (takes_in change one.d) state ≡ true) ⊎ (is_being_made (takes_in change one.d) ≡ true)
      by_case (inl is) = inl (usable_same ∙ is)
      by_case (inr is) = inr (making_same ∙ is)

  awake_on : KeepsAwake now_ n
  awake_on nav doc was =
      let a = applied_awake now_ made.req change nav was.place doc was.placed was.wakes in
      record { place = a.new; placed = a.there; wakes = a.wakes }

  -- what was discarded is so still
  gone_on : (doc : DocId) → holds (λ (d : Document). d.is_discarded) (document_of now_ doc) ≡ true → holds (λ (d : Document). d.is_discarded) (document_of n doc) ≡ true
  gone_on doc is =
      ap (λ (o : Option Document). holds (λ (d : Document). d.is_discarded) o) (document_then now_.documents (takes_in change) (λ d. (change_as change d).nr) doc)
      ∙ by_old (document_of now_ doc) is
    where
      by_old : (o : Option Document) → holds (λ (d : Document). d.is_discarded) o ≡ true → holds (λ (d : Document). d.is_discarded) (option_map (takes_in change) o) ≡ true
      by_old (Some d) h = (change_as change d).discarded ∙ h
      by_old None h = absurd cc

  live_n : LoadsLive n
  live_n =
      live_then now_ n (look_back now_ n made.req q at.taking.there at.taking.unstarted other starts) awake_on (λ state is one. one_on state one) at.open_.live

  -- ---- the aim

  goal_then : HasGoal n.requests t.running t.goal
  goal_then r x runs found =
      let was = was_asked (λ (y : Asked). y.goal) now_.requests n.requests (applied_reads (λ (y : Asked). y.goal) now_ e.event e.actor made.req change (λ y. refl) (λ y. refl) (λ y. refl)) r x found in
      sym was.2 ∙ at.passing.work.goal r was.0 runs was.1

  pub aim_then : IsTab t.running p.loads rest n → aim_of n ≡ aim_in n.history t.running t.goal
  aim_then tab_n = aim_is n t.running tab_n.asked t.goal goal_then

  pub aim_was : aim_of now_ ≡ aim_in now_.history t.running t.goal
  aim_was = aim_is now_ t.running whole.asked t.goal at.passing.work.goal

  -- ---- whom requests moved

  pub moved_on : (why : Why) (nav : NavId) → IsMovedBy now_ why nav → IsMovedBy n why nav
  moved_on why nav by =
      applied_moved now_ e.event e.actor why nav by made.req change (open_none now_ made.req why whole.movers.ends (λ x found. let two : Some q ≡ Some x = sym at.taking.there ∙ found in let one : q ≡ x = cc in subst (λ (y : Asked). y.ending ≡ None) one at.taking.open_))

  pub moved_same : IsTab t.running p.loads rest n → (nav : NavId) → is_moved n nav ≡ is_moved now_ nav
  moved_same tab_n nav = moved_in t.running now_.requests n.requests nav whole.asked.only tab_n.asked.only moves_same

  -- ---- what orders may be for

  module _ (tab_n : IsTab t.running p.loads rest n) where
    pub causes : (why : Why) → MayCause now_ why → MayCause n why
    causes = causes_then p out t blame made at n tab_n wishes begun

    pub its_cause : MayCause n (whys.Req made.req)
    its_cause = cause_then p out t blame made at n tab_n wishes begun

    pub serves : MayServe n made.req
    serves = its_cause made.req refl

    -- ---- whom they may leave

    -- each may leave whom it might
    pub leave_on : (r : ReqId) (nav : NavId) → MayServe now_ r → way_to n nav ≡ way_to now_ nav → MayLeaveNav now_ r nav → MayLeaveNav n r nav
    leave_on r nav may = may_leave_reads now_ n r nav (serve_on now_ n r causes may) (whats r) (starts r)

    -- and this one, which never begins, any
    pub own_leaves : (nav : NavId) → MayLeaveNav n made.req nav
    own_leaves nav = unbegun_leaves n made.req then_q nav own_then at.taking.unstarted serves

  -- ---- what is to be shown of the change itself

  pub record IsAfter (noted : List (StateId × ReqId)) : Type 0 where
    pub tab_n : IsTab t.running p.loads rest n
    pub going : IsGoing t.running p.loads rest n
    pub parents : ParentsShown n
    pub takers : TakersServe n
    pub loads : MayStand t.running n
    pub blamed : AreBlamed n noted
    pub calm : CalmUnless IsCalmYet t.running n
    pub unmoved : UnmovedAreHere n
    pub rooted : AreRooted n
    pub usable : (state : StateId) → list_any (λ (d : Document). is_usable d state) n.documents ≡ list_any (λ (d : Document). is_usable d state) now_.documents
    pub well : FitsWell now_ change
    pub keeps : KeepsTo now_ made.req change

  module _ (noted : List (StateId × ReqId)) (after : IsAfter noted) where
    base : IsOpen e t.running whys.Start now_
    base = at.open_.open_ whys.Start (λ r never. absurd cc)

    -- where none runs, who is in need then was never shown a document
    new_n : t.running ≡ None → NeedIsNew n
    new_n idle =
        calm_need n after.tab_n.standing (aim_then after.tab_n ∙ ap (λ (o : Option ReqId). aim_in n.history o t.goal) idle) after.tab_n.sound after.tab_n.hangs (subst (λ (o : Option ReqId). CalmUnless IsCalmYet o n) idle after.calm)

    taking_n : IsTaking e t.running noted n
    taking_n =
        record {
          open_ = open_then e t.running now_ n base after.tab_n.asked (applied_places now_ made.req change).ways (applied_since now_ now_ [] (since_itself now_) e.event e.actor made.req change) (were_shown now_ e.event e.actor base.were (rows.Applied made.req change) tt) after.parents loads_back after.takers awake_on gone_on new_n;
          loads = after.loads;
          blamed = after.blamed;
          calm = after.calm;
          unmoved = after.unmoved;
          rooted = after.rooted;
          live = live_n;
        }

    queue_n : LeavesQueue now_ n
    queue_n =
        record {
          joined = joined_same p out t blame made at;
          whats = whats;
          ready = ready_back now_ n made.req q at.taking.there at.taking.unstarted other starts after.usable;
        }

    module _ (new : List RowKind) (u : Tables) (out_is : new ≡ out ++ rows.Applied made.req change ∷ []) (keeps : KeepsRun t u) (work : IsAtWork e new u) (no_turn : is_traverse (row_of e (rows.Applied made.req change)) ≡ false) (no_reload : is_reloading (rows.Applied made.req change) ≡ false) where
      now_is : now_of e new ≡ n
      now_is = now_at e out (rows.Applied made.req change) new out_is work.goes

      loose_n : IsLoose e new
      loose_n =
          subst (λ (l : List RowKind). IsLoose e l) (sym out_is)
          (loose_more e out (rows.Applied made.req change) (last_goes e out (rows.Applied made.req change) _ out_is work.goes).read at.loose (applied_lasts now_ e.event e.actor made.req change) (λ end on. refl))

      -- whom requests leave was asked
      duly_n : AreLeftDuly (log_of e new)
      duly_n =
          duly_then e out (rows.Applied made.req change) new out_is
          (bare_change_duly e.checking (log_of e out) e.event e.actor at.passing.duly made.req change (bare (λ (x : Seen). FitsWell x change) after.well) (keeps_bare change no_turn (bare (λ (x : Seen). KeepsTo x made.req change) after.keeps)))
        where
          bare : (P : Seen → Type 0) → P now_ → P (unasked e.checking (log_of e out))
          bare P is = subst P (events.now_is e out) is

          keeps_bare : (c : Change) → is_traverse (row_of e (rows.Applied made.req c)) ≡ false → KeepsTo (unasked e.checking (log_of e out)) made.req c → BareKeeps e.checking (log_of e out) made.req c
          keeps_bare (changes.Traverse goal) never is = absurd cc
          keeps_bare (changes.Push nav entry state address memo) turns is = is
          keeps_bare (changes.Replace nav over entry state address memo) turns is = is
          keeps_bare (changes.AddFrame owner nav entry state) turns is = is
          keeps_bare (changes.RemoveFrame nav) turns is = tt
          keeps_bare (changes.Reload nav) turns is = tt
          keeps_bare changes.Edit turns is = tt

      passing_n : IsPassing (record p { hand = rest }) new u
      passing_n =
          record {
            work = work;
            going = subst (λ (x : Seen). IsGoing u.running p.loads rest x) (sym now_is) (subst (λ (r : Option ReqId). IsGoing r p.loads rest n) (sym keeps.running) after.going);
            owed = loose_owed e new loose_n;
            loose = λ all. loose_n;
            rests = subst (λ (x : Seen). AllRest x) (sym now_is) (applied_rests now_ e.event e.actor [] at.passing.rests made.req change);
            duly = duly_n;
            few = subst (λ (k : ℕ). length (now_of e new).kept ≤ k) (sym keeps.keep) (subst (λ (l : List DocId). length l ≤ t.kept.keep) (sym (ap (λ (x : Seen). x.kept) now_is)) at.passing.few);
          }

      pub has_applied : HasTaken p t made out new u noted
      has_applied =
          record {
            passing = passing_n;
            open_ = subst (λ (x : Seen). IsTaking e u.running noted x) (sym now_is) (subst (λ (r : Option ReqId). IsTaking e r noted n) (sym keeps.running) taking_n);
            loose = loose_n;
            cause = subst (λ (x : Seen). MayCause x (whys.Req made.req)) (sym now_is) (its_cause after.tab_n);
            ended = record { kind = rows.Applied made.req change; out = out_is; ends = refl; no_turn = no_turn; no_reload = no_reload; up = λ up. nat_eq_refl made.req.0 };
            queue = subst (λ (x : Seen). LeavesQueue now_ x) (sym now_is) queue_n;
            kept = keeps;
          }
