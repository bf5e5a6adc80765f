-- What a document made was taken up, refused or dropped as its report was delivered: the tab may be brought to rest.
use Rattle.row_facts.specs.WalkRows.Since.{WasAwake}
use Rattle.load_doors.proofs.Starts.{made_real, up_start}
use Rattle.log_model.specs.Queue.{is_traverse}
use Rattle.seen_laws.proofs.InEvents.{now_at}
use Rattle.seen_facts.specs.Asked.Asking.{IsTabRequest}
use Rattle.tab_facts.specs.Calm.Calm.{IsCalm, IsHere}
use Rattle.seen_facts.proofs.Coord.Held.{held_alike, without_same}
use Rattle.seen_facts.proofs.Coord.Unread.{next}
use Rattle.seen_facts.specs.Coord.Leading.{held_back}
use Rattle.seen_facts.proofs.Each.Courses.{was_asked}
use Rattle.seen_facts.proofs.Entry.Skips.{without_made}
use Rattle.tab_facts.specs.Frame.Lasting.{Wish, wish}
use Rattle.row_facts.specs.FrameRows.Lawful.{has_traversed}
use Rattle.log_model.specs.AfterRequests.{changes_history, is_held_back}
use Rattle.log_model.specs.Equal.{has_req, implies}
use Rattle.log_model.specs.History.{History}
use Rattle.log_model.specs.Places.{all_stand, is_load, is_reload, is_shown}
use Rattle.log_model.specs.Points.{is_taken_up_in, nav_of_request}
use Rattle.log_model.specs.Queue.{is_delivered_duly, is_taken_up_at_once}
use Rattle.log_model.specs.Seen.{Asked, Document, Place, Seen, awake, document_of, place_in, place_of, request_in}
use Rattle.log_model.specs.declared.made.Made.{Made}
use Rattle.log_model.specs.declared.made.Report.{Report}
use Rattle.log_model.specs.declared.request.Request.{Request}
use Rattle.log_model.specs.declared.row_kind.LogRow.{LogRow}
use Rattle.log_model.specs.declared.row_kind.RowKind.{RowKind}
use Rattle.move_queue.specs.Queue.{Queue}
use Rattle.seen_facts.proofs.Request.Readers.{SameReads}
use Rattle.seen_facts.proofs.Request.Times.{itself}
use Rattle.seen_laws.specs.Blocks.{point_at}
use Rattle.seen_laws.specs.InEvent.{InEvent, IsTakenIn, now_of, row_of, start_of}
use Rattle.std.proofs.Common.{Bool, List, None, Option, Some, [], ap, false, inl, inr, map, refl, subst, sym, true, ◌++◌, ◌||◌, ◌∙◌, ◌∷◌, ◌≡◌, ◌≤◌, ◌⊎◌}
use Rattle.std.proofs.lemmas.Bool.{or_left}
use Rattle.std.specs.List.{list_any}
use Rattle.std.specs.Prelude.{option_map}
use Rattle.tab_settles.proofs.PassedOn.{queue_over, waiting_on}
use Rattle.tab_settles.specs.PassedOn.{HasQueue, HasTaken, IsByItsOwn, IsPassing, LoadsMadeOwn, is_new_entry}
use Rattle.tab_doors.specs.declared.tables.Tables.{Tables}
use Rattle.tab_ids.specs.declared.DocId.{DocId}
use Rattle.tab_ids.specs.declared.Epoch.{Epoch}
use Rattle.tab_ids.specs.declared.NavId.{NavId}
use Rattle.tab_ids.specs.declared.ProcId.{ProcId}
use Rattle.tab_ids.specs.declared.ReqId.{ReqId}
use Rattle.tab_ids.specs.declared.StateId.{StateId}
use Rattle.tab_settles.proofs.Awakes.{WasBefore, turn_before}
use Rattle.tab_settles.proofs.Lates.{KeepsStep, late_epoch, off_still, step_then}
use Rattle.tab_settles.proofs.Ended.{IsEnding, ends_turn, is_ending, mades_same}
use Rattle.tab_settles.proofs.MovedTurns.{IsUnmoving, only_reach, reach, shown_over, turn_unmoving}
use Rattle.tab_settles.specs.Offs.{IsLate, LateKnown}
use Rattle.tab_settles.specs.Settling.{IsCalmAfter, IsQueueing, IsReady, MayRelease, MovedAreShown, MayDiscardIn}
use Rattle.tab_stands.proofs.Coming.{IsComing}
use Rattle.tab_stands.proofs.Epochs.{old_by}
use Rattle.tab_stands.proofs.Hands.{hand_release}
use Rattle.tab_stands.proofs.LateEnds.{IsNoStep, step_ended}
use Rattle.tab_stands.proofs.LateEvents.{late_not_all, late_off, step_coming}
use Rattle.tab_stands.proofs.Mades.{IsMadeFor, heard, heard_comes, heard_documents, heard_now, heard_places, heard_requests, its_asked, its_plain}
use Rattle.tab_stands.proofs.Ready.{calm_before, frees_open}
use Rattle.tab_stands.proofs.Reports.{told_row}
use Rattle.tab_stands.proofs.Taking.{begun, there_now, unparked_now, unstarted}
use Rattle.tab_stands.specs.Delivering.{IsSeenDelivery, IsToldOf}
use Rattle.tab_stands.specs.Offs.{AreOffKnown, IsOffSince}
use Rattle.tab_stands.specs.Standing.{HasBegun, HasLogged, HasRoomFor, InCheck, IsOwnRead, IsTakenUp, StandsFor, seen_start}
use Rattle.seen_facts.proofs.Walk.Placed.{found_nav}
use Rattle.log_model.specs.declared.request.Request.TheVariants as requests
use Rattle.log_model.specs.declared.job.Why.TheVariants as whys

-- what was made of each load is by a document of its navigable still, once one request more has ended
pub theirs_ended : (s n : Seen) (req : ReqId) → IsEnding s n req → LoadsMadeOwn s → LoadsMadeOwn n
theirs_ended s n req its theirs r q made at load makes =
    (by_home (document_of n made.doc) refl (its.homes made.doc ∙ ap (λ (o : Option Document). option_map (λ (d : Document). d.nav) o) had.found), both.1)
  where
    asked : (x : Asked) × (request_in s.requests r ≡ Some x) × (wish x ≡ wish q)
    asked = was_asked wish s.requests n.requests its.wishes r q at

    both : IsByItsOwn s asked.0 made × (is_new_entry made.what ≡ true)
    both = theirs r asked.0 made asked.1 (ap (λ (w : Wish). is_load w.what) asked.2 ∙ load) (ap (λ (w : Wish). w.made) asked.2 ∙ makes)

    had : IsByItsOwn s asked.0 made
    had = both.0

    by_home : (o : Option Document) → document_of n made.doc ≡ o → option_map (λ (d : Document). d.nav) o ≡ Some had.d.nav → IsByItsOwn n q made
    by_home None there same = absurd cc
    by_home (Some d) there same =
        record { d = d; found = there; nav_is = ap (λ (w : Wish). nav_of_request w.what) (sym asked.2) ∙ had.nav_is ∙ sym same }

module _ (e : InEvent) (proc : ProcId) (report : Report) (made : Made) (del : IsSeenDelivery e proc report) (tells : IsToldOf report made) (t : Tables) (queue : Queue) (blame : List (StateId × ReqId)) {check : InCheck} (stands : StandsFor check (seen_start e) t queue blame) (aside : IsOwnRead e) (changes : changes_history made.what ≡ true) (free : is_held_back (seen_start e) made ≡ false) (logged : HasLogged e t.checks t.asking) (room : HasRoomFor (seen_start e)) (header : t.kept.keep ≡ e.header.keep) (out : List RowKind) (u : Tables) (noted : List (StateId × ReqId)) (taken : HasTaken (record { event = e; loads = check.loads; hand = made ∷ [] }) t made [] out u noted) where
  abbrev s : Seen
  s = seen_start e

  abbrev f : Seen
  f = now_of e []

  abbrev n : Seen
  n = now_of e out

  first : HasBegun (record { event = e; loads = check.loads; hand = made ∷ [] }) t queue blame
  first = begun e proc report made del tells t queue blame stands aside changes free logged room header

  its : IsEnding f n made.req
  its =
      subst (λ (x : Seen). IsEnding f x made.req) (sym (now_at e [] taken.ended.kind out taken.ended.out taken.passing.work.goes)) (is_ending f e taken.ended.kind made.req taken.ended.ends)

  apart : has_req f.parked made.req ≡ false
  apart = unparked_now e proc report made del tells t queue blame stands aside changes free logged room header

  parked_out : n.parked ≡ f.parked
  parked_out = its.parked ∙ without_same f.parked made.req apart

  joined_out : n.joined ≡ f.joined
  joined_out = taken.queue.joined

  release : MayRelease e []
  release = hand_release e proc report made del tells t queue blame stands aside free logged.logged.uncut

  queueing : IsQueueing (record { event = e; loads = check.loads; hand = [] }) out u queue
  queueing =
      record {
        waits = waiting_on e [] out (inl parked_out) its.wishes (λ req has. ap (λ (l : List ReqId). has_req l req) (sym joined_out) ∙ has) first.queueing.waits;
        queued = subst (λ (r : Option ReqId). HasQueue n r queue.waiting) (sym taken.kept.running) (queue_over f n taken.queue t.running queue.waiting first.queueing.queued);
        parked = first.queueing.parked ∙ sym (held_alike f.requests n.requests f.parked (mades_same f n its.wishes)) ∙ ap (λ (l : List ReqId). held_back n.requests l) (sym parked_out);
        held = λ idle. parked_out ∙ first.queueing.held (sym taken.kept.running ∙ idle);
        over = λ ended. absurd (never ended);
        releasing = λ some all. record {
          by_coord = release.by_coord;
          takes = release.takes;
          many = its.long ∙ release.many;
          old = λ req has. release.old req (ap (λ (l : List ReqId). has_req l req) (sym parked_out) ∙ has);
        };
      }
    where
      never : has_traversed e out ≡ true → ⊥
      never ended =
          let none : has_traversed e out ≡ false = ap (λ (l : List RowKind). has_traversed e l) taken.ended.out ∙ ap (λ (l : List RowKind). list_any is_traverse (map (row_of e) l ++ row_of e taken.ended.kind ∷ [])) logged.logged.uncut ∙ ap (λ (b : Bool). b || false) taken.ended.no_turn in
          let never_ : true ≡ false = sym ended ∙ none in cc

  passing : IsPassing (record { event = e; loads = check.loads; hand = [] }) out u
  passing = subst (λ (l : List Made). IsPassing (record { event = e; loads = check.loads; hand = l }) out u) none_left taken.passing
    where
      none_left : without_made made.req (made ∷ []) ≡ []
      none_left = rw (itself made.req) refl

  -- ---- whom the traversal that runs has moved

  reach_s : SameReads reach s.requests n.requests
  reach_s =
      subst (λ (l : List Asked). SameReads reach l n.requests) (ap (λ (x : Seen). x.requests) (heard_now e proc report made del tells t queue blame stands aside) ∙ heard_requests e proc report made del tells t queue blame stands aside)
      (only_reach e [] out taken.passing.work.goes (record { more = taken.ended.kind ∷ []; is = taken.ended.out; each = each }))
    where
      each : (kind : RowKind) → (taken.ended.kind ≡ kind) ⊎ ⊥ → IsUnmoving kind
      each kind (inl same) = subst IsUnmoving same (turn_unmoving taken.ended.kind (ends_turn e taken.ended.kind made.req taken.ended.ends))
      each kind (inr never) = absurd never

  moved : MovedAreShown u.running n
  moved =
      subst (λ (r : Option ReqId). MovedAreShown r n) (sym taken.kept.running)
      (shown_over t.running s n reach_s (λ nav place doc placed wakes. (let w : WasAwake e.start nav doc = (taken.open_.open_ (whys.Req made.req) taken.cause).unwoken nav place doc refl placed wakes in record { place = w.place; placed = w.placed; wakes = w.wakes })) stands.lasts.moved)

  -- ---- who is late

  abbrev asked : IsMadeFor s made
  asked = its_asked e proc report made del tells t queue blame stands aside

  now_is : n ≡ next f e.event e.actor taken.ended.kind
  now_is = now_at e [] taken.ended.kind out taken.ended.out taken.passing.work.goes

  places_f : f.places ≡ s.places
  places_f =
      ap (λ (x : Seen). x.places) (heard_now e proc report made del tells t queue blame stands aside) ∙ heard_places e proc report made del tells t queue blame stands aside

  no_step : IsNoStep f made.req
  no_step =
      record {
        q = asked.q;
        there = there_now e proc report made del tells t queue blame stands aside changes free logged room header;
        unstarted = unstarted e proc report made del tells t queue blame stands aside changes free logged room header;
        no_reload = by_what asked.q.what (its_plain e proc report made del tells t queue blame stands aside).what;
        unchanged = (stands.between.tab.movers.ends made.req asked.q asked.there).unchanged asked.open_;
      }
    where
      by_what : (what : Request) → IsTabRequest what → is_reload what ≡ false
      by_what (requests.Go delta) is = refl
      by_what (requests.Poke nav action) is = refl
      by_what (requests.Load nav mode address) is = refl
      by_what (requests.Reload nav) never = absurd never

  late_one : IsCalm s → AreOffKnown None s → (nav : NavId) (place : Place) (doc : DocId) → IsLate n nav place doc → is_shown n.history.rows n.history.current nav ≡ true → IsOffSince n nav place
  late_one calm off nav place doc now shown =
      off_still s n nav w.old place (step_then s f n first_step (subst (λ (x : Seen). KeepsStep f x) (sym now_is) last_step)) at_s now.placed w.same.above w.same.why
      (off.since refl nav w.old at_s shown_s (late_off s nav w.old doc late_s) late_s.old)
    where
      w : WasBefore f.places nav place
      w =
          turn_before f e.event e.actor taken.ended.kind (ends_turn e taken.ended.kind made.req taken.ended.ends) nav place doc now.wakes (ap (λ (x : Seen). place_of x nav) (sym now_is) ∙ now.placed)

      at_s : place_of s nav ≡ Some w.old
      at_s = ap (λ (l : List Place). place_in l nav) (sym places_f) ∙ w.at

      wakes : w.old.status ≡ awake doc
      wakes = sym w.same.status ∙ now.wakes

      late_s : IsLate s nav w.old doc
      late_s =
          record {
            placed = at_s;
            wakes = wakes;
            untold = sym w.same.told ∙ now.untold;
            old = old_by w.old (subst (λ (x : Epoch). 2 ≤ x.0) w.same.epoch (late_epoch n nav place doc now));
          }

      shown_s : is_shown s.history.rows s.history.current nav ≡ true
      shown_s = by_here (calm.here nav w.old doc at_s wakes)
        where
          by_here : ⊥ ⊎ IsHere s w.old → is_shown s.history.rows s.history.current nav ≡ true
          by_here (inl never) = absurd never
          by_here (inr here) =
              ap (λ (x : NavId). is_shown s.history.rows s.history.current x) (sym (found_nav s.places nav w.old at_s)) ∙ here.shown

      comes : IsComing blame s f
      comes = heard_comes e proc report made del tells t queue blame stands aside

      first_step : KeepsStep s f
      first_step =
          step_coming blame s f comes (late_not_all f first.passing.going.tab.standing nav w.old doc (record { placed = w.at; wakes = wakes; untold = late_s.untold; old = late_s.old }) (ap (λ (h : History). is_shown h.rows h.current nav) comes.history ∙ shown_s))

      last_step : KeepsStep f (next f e.event e.actor taken.ended.kind)
      last_step =
          step_ended e f taken.ended.kind made.req taken.ended.ends no_step (subst (λ (x : Seen). all_stand x x.history.current ≡ false) now_is (late_not_all n passing.going.tab.standing nav place doc now shown))

  late : LateKnown u.running n
  late =
      subst (λ (r : Option ReqId). LateKnown r n) (sym taken.kept.running) (by_run t.running stands.lasts.calm stands.lasts.off)
    where
      by_run : (r : Option ReqId) → IsCalmAfter r s → AreOffKnown r s → LateKnown r n
      by_run (Some run) calm off = tt
      by_run None calm off = late_one calm off

  pub taken_ready : (check.holds ≡ false → MayDiscardIn false e) → IsReady (record { event = e; loads = check.loads; hand = [] }) out u queue noted (whys.Req made.req)
  taken_ready bare =
      record {
        passing = passing;
        empty = refl;
        header = taken.kept.keep ∙ header;
        open_ = taken.open_.open_ (whys.Req made.req) taken.cause;
        loads = taken.open_.loads;
        frees = frees_open e check.holds u.running n (λ held. taken.kept.running ∙ stands.alone held) bare taken.open_.open_;
        blamed = taken.open_.blamed;
        calm = calm_before u.running (whys.Req made.req) n taken.open_.calm taken.open_.unmoved taken.open_.rooted;
        late = late;
        moved = moved;
        live = taken.open_.live;
        theirs = theirs_ended f n made.req its first.theirs;
        queueing = queueing;
      }

  -- ---- what is delivered is taken up by that row, where it is to be taken up at once

  abbrev h : Seen
  h = heard e proc report made del tells t queue blame stands aside

  same_up : is_taken_up_at_once f made ≡ is_taken_up_at_once s made
  same_up =
      ap (λ (x : Seen). is_taken_up_at_once x made) (heard_now e proc report made del tells t queue blame stands aside)
      ∙ ap (λ (l : List Document). is_taken_up_at_once (record h { documents = l }) made) (heard_documents e proc report made del tells t queue blame stands aside)
      ∙ ap (λ (l : List Place). is_taken_up_at_once (record h { documents = s.documents; places = l }) made) (heard_places e proc report made del tells t queue blame stands aside)
      ∙ ap (λ (l : List Asked). is_taken_up_at_once (record h { documents = s.documents; places = s.places; requests = l }) made) (heard_requests e proc report made del tells t queue blame stands aside)

  pub taken_up : IsTakenUp e out
  taken_up later =
      subst (λ (l : List RowKind). IsTakenIn e ((map (row_of e) l ++ map (row_of e) out) ++ later)) (sym logged.logged.uncut) (subst (λ (l : List RowKind). IsTakenIn e (map (row_of e) l ++ later)) (sym taken.ended.out) (subst (λ (r : LogRow). is_delivered_duly (point_at (start_of e) (row_of e taken.ended.kind ∷ later)) r ≡ true) (sym (told_row e proc del.by_coord del.own t queue blame stands aside report del.first)) (rw (del.real_first) (rw (made_real del.real report del.quiet ∙ tells) (by_up (is_taken_up_at_once e.start made) refl)))))
    where
      by_up : (b : Bool) → is_taken_up_at_once e.start made ≡ b → implies b (is_taken_up_in made.req (row_of e taken.ended.kind) || list_any (is_taken_up_in made.req) later) ≡ true
      by_up false is = refl
      by_up true is = or_left _ _ (taken.ended.up (same_up ∙ up_start e del.unheld made ∙ is))
