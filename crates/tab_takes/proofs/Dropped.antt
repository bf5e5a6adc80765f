-- What a document made is dropped: by the request that took its navigable's last entries, or by the one that moved the navigable.
use Rattle.leave_facts.proofs.Events.{dropped_duly}
use Rattle.tab_doors.proofs.PassedOn.{dropped_goes, dropped_now}
use Rattle.seen_facts.proofs.Coord.Unread.{next}
use Rattle.seen_facts.specs.Coord.Epochs.{IsWithin, MadeWithin}
use Rattle.seen_facts.specs.Coord.Leading.{held_back}
use Rattle.seen_facts.proofs.Entry.Skips.{without_made}
use Rattle.seen_facts.specs.Entry.Entries.{waiting}
use Rattle.tab_facts.specs.Frame.Lasting.{wish}
use Rattle.tab_facts.specs.Frame.Taking.{IsWaitingHere}
use Rattle.seen_facts.specs.Hang.Members.{Has}
use Rattle.tab_facts.proofs.Last.Rows.{dropped_lasting}
use Rattle.log_model.proofs.Refl.{nat_eq_refl}
use Rattle.log_model.specs.AfterRequests.{changes_history, is_held_up, is_in_place, without_req}
use Rattle.log_model.specs.Causes.{by_event, by_mover, is_outdated}
use Rattle.log_model.specs.Equal.{holds, same_why}
use Rattle.log_model.specs.History.{has_row}
use Rattle.log_model.specs.Places.{is_awake, is_ongoing_load, is_present}
use Rattle.log_model.specs.Points.{nav_of_request}
use Rattle.log_model.specs.Queue.{is_taken_up_at_once}
use Rattle.log_model.specs.Seen.{Asked, Document, Place, Seen, Status, asleep, awake, desk_of, document_of, lost, place_of, request_of}
use Rattle.log_model.specs.declared.job.Why.{Why}
use Rattle.log_model.specs.declared.made.Made.{Made}
use Rattle.log_model.specs.declared.outcome.Cause.{Cause}
use Rattle.log_model.specs.declared.row_kind.RowKind.{RowKind}
use Rattle.tab_rests.proofs.PassedOn.{course_of}
use Rattle.seen_facts.specs.Mover.Movers.{IsMovedBy, moves_away, was_moved}
use Rattle.seen_facts.proofs.Request.Readers.{on_read}
use Rattle.tab_rests.specs.PassedOn.{InPass, IsGoing, IsPassing, IsTab, LeavesQueue, MayCause}
use Rattle.row_facts.proofs.Owed.Ends.{loose_more, loose_owed}
use Rattle.row_facts.proofs.Owed.Rows.{dropped_lasts}
use Rattle.row_facts.specs.Owed.Owed.{IsLoose}
use Rattle.row_facts.proofs.RestRows.Rows.{dropped_rests}
use Rattle.row_facts.specs.RestRows.Moving.{AllRest}
use Rattle.seen_laws.proofs.Keyed.{find_has as seen_number}
use Rattle.seen_laws.specs.Blocks.{point_at}
use Rattle.seen_laws.specs.InEvent.{InEvent, seen_here, now_of, row_of}
use Rattle.seen_laws.specs.Owing.{owes_row}
use Rattle.std.proofs.Common.{Bool, List, None, Option, Some, [], ap, arith, false, inl, inr, length, not, refl, subst, sym, true, ℕ, ◌&&◌, ◌++◌, ◌==◌, ◌∙◌, ◌∷◌, ◌≡◌, ◌≤◌}
use Rattle.std.proofs.lemmas.Bool.{and_parts, or_right}
use Rattle.std.proofs.lemmas.Bool.Decides.{nat_tests}
use Rattle.std.specs.Prelude.{nat_lt}
use Rattle.tab_doors.specs.Dues.{IsDestroyDue, IsDropDue}
use Rattle.tab_doors.specs.Keeping.{IsNoLoad}
use Rattle.tab_doors.specs.Working.{IsAtWork, KeepsRun}
use Rattle.tab_doors.specs.declared.tables.Tables.{Tables}
use Rattle.tab_rests.proofs.PassedOn.{absent_tab, bare_tab, dropped_going}
use Rattle.tab_ids.specs.declared.Death.{Death}
use Rattle.tab_ids.specs.declared.DocId.{DocId}
use Rattle.tab_ids.specs.declared.ReqId.{ReqId}
use Rattle.tab_ids.specs.declared.StateId.{StateId}
use Rattle.tab_takes.proofs.Leaving.{cause_then, queue_then, taking_then}
use Rattle.tab_takes.proofs.Verdicts.{IsOfIt, current, its, s, tab}
use Rattle.tab_takes.proofs.Where.{loads_same, made_at_hand, no_load}
use Rattle.tab_takes.specs.Taking.{HasTaken, IsTaking, IsToTake}
use Rattle.row_facts.proofs.WalkRows.Moved.{dropped_moved}
use Rattle.log_model.specs.declared.job.Why.TheVariants as whys
use Rattle.log_model.specs.declared.outcome.Cause.TheVariants as drops
use Rattle.log_model.specs.declared.outcome.Ending.TheVariants as endings
use Rattle.log_model.specs.declared.row_kind.RowKind.TheVariants as rows

some_same : {A : Type 0} {a b : A} → (let o : Option A = Some a in o) ≡ Some b → a ≡ b
some_same e = cc

-- ---- what is in a list

within_has : (bound : ℕ) (doc : DocId) (xs : List Made) (m : Made) → MadeWithin bound doc xs → Has xs m → m.doc.0 ≡ doc.0 → m.epoch.0 ≤ bound
within_has bound doc [] m all has is = absurd has
within_has bound doc (x ∷ xs) m all (inl same) is = subst (λ (y : Made). y.epoch.0 ≤ bound) same (all.0 (ap (λ (y : Made). y.doc.0) same ∙ is))
within_has bound doc (x ∷ xs) m all (inr more) is = within_has bound doc xs m all.1 more is

has_back : {A : Type 0} (xs ys : List A) (y : A) → Has ys y → Has (xs ++ ys) y
has_back [] ys y has = has
has_back (x ∷ xs) ys y has = inr (has_back xs ys y has)

has_front : {A : Type 0} (xs ys : List A) (y : A) → Has xs y → Has (xs ++ ys) y
has_front [] ys y has = absurd has
has_front (x ∷ xs) ys y (inl same) = inl same
has_front (x ∷ xs) ys y (inr more) = inr (has_front xs ys y more)

above_one : (a b : ℕ) → (a == b) ≡ false → b ≤ a → 1 ≤ b → nat_lt 1 a ≡ true
above_one a b apart low one = grind (arith, nat_tests, apart, low, one)

above_none : (a b : ℕ) → b ≤ a → 1 ≤ b → nat_lt 0 a ≡ true
above_none a b low one = grind (arith, nat_tests, low, one)

-- what the drop of one that was moved owes is paid as it is dropped
moved_pays : (e : InEvent) (out : List RowKind) (req by : ReqId) (q mover : Asked) → request_of (now_of e out) req ≡ Some q → request_of (now_of e out) by ≡ Some mover → by_mover (now_of e out) q mover ≡ true → (end : Seen) → owes_row (seen_here e out) (row_of e (rows.Dropped req (drops.By by))) end ≡ true
unfolding now_of
moved_pays e out req by q mover there found moved end =
    rw there (or_right (by_event (point_at (seen_here e out) []) end q by) (holds (by_mover (seen_here e out).now q) (request_of (seen_here e out).now by)) (rw found moved))

module _ (p : InPass) (out : List RowKind) (t : Tables) (blame : List (StateId × ReqId)) (made : Made) (at : IsToTake p out t blame made) where
  abbrev e : InEvent
  e = p.event

  abbrev now_ : Seen
  now_ = s p out t blame made at

  abbrev whole : IsTab t.running p.loads p.hand now_
  whole = tab p out t blame made at

  abbrev rest : List Made
  rest = without_made made.req p.hand

  abbrev own : IsOfIt p out t blame made at
  own = its p out t blame made at

  pub is_no_load : IsNoLoad now_ made.req
  is_no_load q there =
      let two : Some at.taking.q ≡ Some q = sym at.taking.there ∙ there in
      let one : at.taking.q ≡ q = cc in
      ap is_ongoing_load (sym one) ∙ no_load p out t blame made at

  -- ---- the row

  module _ (cause : Cause) (pays : (end : Seen) → owes_row (seen_here e out) (row_of e (rows.Dropped made.req cause)) end ≡ true) (then_ : IsTab t.running (without_req made.req p.loads) rest (next now_ e.event e.actor (rows.Dropped made.req cause))) (off : is_taken_up_at_once now_ made ≡ true → ⊥) (new : List RowKind) (u : Tables) (out_is : new ≡ out ++ rows.Dropped made.req cause ∷ []) (same : u ≡ t) (work : IsAtWork e new u) where
    abbrev n : Seen
    n = next now_ e.event e.actor (rows.Dropped made.req cause)

    now_is : now_of e new ≡ n
    now_is = ap (λ (l : List RowKind). now_of e l) out_is ∙ dropped_now e out made.req cause

    tab_n : IsTab t.running p.loads rest n
    tab_n = loads_same p out t blame made at n then_

    going_n : IsGoing t.running p.loads rest n
    going_n =
        dropped_going t.running p.loads p.hand now_ e.event e.actor at.passing.going made.req at.taking.q at.taking.there at.taking.open_ cause p.loads rest tab_n (dropped_lasting now_ e.event e.actor at.passing.going.lasting made.req cause)

    loose_n : IsLoose e new
    loose_n =
        subst (λ (l : List RowKind). IsLoose e l) (sym out_is)
        (loose_more e out (rows.Dropped made.req cause) (dropped_goes e out made.req cause).read at.loose (dropped_lasts now_ e.event e.actor made.req cause) (λ end on. pays end))

    passing_n : IsPassing (record p { hand = rest }) new u
    passing_n =
        record {
          work = work;
          going = subst (λ (x : Seen). IsGoing u.running p.loads rest x) (sym now_is) (subst (λ (x : Tables). IsGoing x.running p.loads rest n) (sym same) going_n);
          owed = loose_owed e new loose_n;
          loose = λ all. loose_n;
          rests = subst (λ (x : Seen). AllRest x) (sym now_is) (dropped_rests now_ e.event e.actor [] at.passing.rests made.req cause);
          duly = dropped_duly e out made.req cause new out_is at.passing.duly;
          few = subst (λ (x : Tables). length (now_of e new).kept ≤ x.kept.keep) (sym same) (subst (λ (l : List DocId). length l ≤ t.kept.keep) (sym (ap (λ (x : Seen). x.kept) now_is)) at.passing.few);
        }

    pub has_dropped : HasTaken p t made out new u blame
    has_dropped =
        record {
          passing = passing_n;
          open_ = subst (λ (x : Seen). IsTaking e u.running blame x) (sym now_is) (subst (λ (x : Tables). IsTaking e x.running blame n) (sym same) (taking_then p out t blame made at n (endings.Dropped cause) refl refl refl refl refl refl refl (λ why nav by. dropped_moved now_ e.event e.actor why nav by made.req cause) tab_n));
          loose = loose_n;
          cause = subst (λ (x : Seen). MayCause x (whys.Req made.req)) (sym now_is) (cause_then p out t blame made at n tab_n (on_read wish now_.requests made.req (λ (x : Asked). record x { ending = Some (endings.Dropped cause) }) (λ x. refl)) (on_read course_of now_.requests made.req (λ (x : Asked). record x { ending = Some (endings.Dropped cause) }) (λ x. refl)));
          ended = record { kind = rows.Dropped made.req cause; out = out_is; ends = refl; no_turn = refl; no_reload = refl; up = λ due. absurd (off due) };
          queue = subst (λ (x : Seen). LeavesQueue now_ x) (sym now_is) (queue_then p out t blame made at n (endings.Dropped cause) refl refl refl refl refl refl refl (λ why nav by. dropped_moved now_ e.event e.actor why nav by made.req cause) tab_n);
          kept = subst (λ (x : Tables). KeepsRun t x) (sym same) (record { running = refl; goal = refl; keep = refl; checks = refl });
        }

  in_place : is_taken_up_at_once now_ made ≡ true → is_in_place now_ made ≡ true
  in_place up =
      (and_parts (changes_history made.what) (is_in_place now_ made) (and_parts (changes_history made.what && is_in_place now_ made) (not (is_held_up now_ made)) up).0).1

  -- its navigable is the request's
  its_nav : nav_of_request at.taking.q.what ≡ Some own.d.nav
  its_nav =
      let same : at.taking.own.d ≡ own.d = some_same (sym at.taking.own.found ∙ own.found) in
      at.taking.own.nav_is ∙ ap (λ (x : Document). Some x.nav) same

  -- ---- its navigable lost its entries

  module _ (by : ReqId) (taken : own.place.taken_by ≡ Some by) where
    bare : has_row own.d.nav now_.history.rows ≡ false
    bare = at.passing.going.lasting.taken own.d.nav own.place by own.placed taken

    -- so what it made isn't to be taken up
    unplaced : is_taken_up_at_once now_ made ≡ true → ⊥
    unplaced up =
        let place_ = and_parts (is_present now_ made) (holds (λ (d : Document). has_row d.nav now_.history.rows) (document_of now_ made.doc)) (in_place up) in
        let never : false ≡ true = sym bare ∙ (sym (ap (λ (o : Option Document). holds (λ (d : Document). has_row d.nav now_.history.rows) o) own.found) ∙ place_.1) in
        cc

    pub destroy_due : IsDestroyDue e out made.req by
    destroy_due =
        record {
          asked = at.taking.q;
          at = at.taking.there;
          open_ = at.taking.open_;
          is = rw at.taking.rests (rw its_nav (rw bare (rw own.placed (rw taken (nat_eq_refl by.0)))));
          free = at.taking.free;
          held = at.taking.held (rows.Dropped made.req (drops.Destroyed by)) refl;
        }

    pub destroy_done : (new : List RowKind) (u : Tables) → new ≡ out ++ rows.Dropped made.req (drops.Destroyed by) ∷ [] → u ≡ t → IsAtWork e new u → HasTaken p t made out new u blame
    destroy_done =
        has_dropped (drops.Destroyed by) (λ end. refl) (bare_tab t.running p.loads p.hand now_ e.event whole made.req made (made_at_hand p out t blame made at) e.actor (drops.Destroyed by) own.d own.found bare) unplaced

  -- ---- its navigable was shown a document since, or sleeps

  module _ (none : own.place.taken_by ≡ None) (away : current p out t blame made at ≡ false) (why : Why) (reason : own.place.why ≡ why) where
    -- it waits
    it_waits : Has (waiting now_ p.hand) made
    it_waits = by_case at.taking.here
      where
        front_of : (others : List ReqId) → now_.parked ≡ made.req ∷ others → Has (held_back now_.requests now_.parked) made
        front_of others is =
            subst (λ (l : List ReqId). Has (held_back now_.requests l) made) (sym is) (rw at.taking.there (rw at.taking.makes (inl refl)))

        by_case : IsWaitingHere p.hand now_ made.req made → Has (waiting now_ p.hand) made
        by_case (inl here) =
            has_back (held_back now_.requests now_.parked) p.hand made (subst (λ (l : List Made). Has l made) (sym here.0) (inl refl))
        by_case (inr here) = has_front (held_back now_.requests now_.parked) p.hand made (front_of here.0 here.1)

    within : made.epoch.0 ≤ own.place.epoch.0
    within =
        let w : IsWithin (waiting now_ p.hand) (desk_of now_ own.d.proc) own.d own.place.epoch.0 = whole.flows.within made.doc own.d own.place own.found own.placed in
        within_has own.place.epoch.0 own.d.nr (waiting now_ p.hand) made w.held_back it_waits (sym (seen_number (λ (x : Document). x.nr.0) made.doc.0 now_.documents own.d own.found))

    real : 1 ≤ made.epoch.0
    real = at.passing.going.lasting.made made.req at.taking.q at.taking.there made at.taking.makes

    moved_away : was_moved own.place ≡ true
    moved_away = by_status own.place.status refl
      where
        by_status : (st : Status) → own.place.status ≡ st → was_moved own.place ≡ true
        by_status lost is = absurd ((whole.standing own.d.nav own.place own.placed).unlost is)
        by_status asleep is = rw is (above_none own.place.epoch.0 made.epoch.0 within real)
        by_status (awake doc) is =
            let wakes : is_awake own.place ≡ true = rw is refl in
            let apart_ : (own.place.epoch.0 == made.epoch.0) ≡ false = sym (ap (λ (b : Bool). b && own.place.epoch.0 == made.epoch.0) wakes) ∙ away in
            rw is (above_one own.place.epoch.0 made.epoch.0 apart_ within real)

    by_ : IsMovedBy now_ own.place.why own.place.nav
    by_ = whole.movers.away own.d.nav own.place own.placed moved_away

    -- what it made isn't present any more
    absent : is_present now_ made ≡ false
    absent =
        ap (λ (o : Option Document). holds (λ (x : Document). holds (λ (q : Place). is_awake q && q.epoch.0 == made.epoch.0) (place_of now_ x.nav)) o) own.found
        ∙ ap (λ (o : Option Place). holds (λ (q : Place). is_awake q && q.epoch.0 == made.epoch.0) o) own.placed
        ∙ away

    off : is_taken_up_at_once now_ made ≡ true → ⊥
    off up =
        let place_ = and_parts (is_present now_ made) (holds (λ (d : Document). has_row d.nav now_.history.rows) (document_of now_ made.doc)) (in_place up) in
        let never : false ≡ true = sym absent ∙ place_.0 in
        cc

    -- a request is the reason
    why_is : why ≡ whys.Req by_.req
    why_is = sym reason ∙ by_.why

    pub no_death : (death : Death) → why ≡ whys.Death death → ⊥
    no_death death is_ = (let never : whys.Death death ≡ whys.Req by_.req = sym is_ ∙ why_is in cc)

    pub no_evict : why ≡ whys.Evict → ⊥
    no_evict is_ = (let never : whys.Evict ≡ whys.Req by_.req = sym is_ ∙ why_is in cc)

    pub no_start : why ≡ whys.Start → ⊥
    no_start is_ = (let never : whys.Start ≡ whys.Req by_.req = sym is_ ∙ why_is in cc)

    moved_on : by_mover now_ at.taking.q by_.q ≡ true
    moved_on =
        rw outdated (rw its_nav (rw reason_there moves))
      where
        outdated : is_outdated now_ at.taking.q ≡ true
        outdated = rw at.taking.rests (rw at.taking.makes (rw absent refl))

        reason_ : same_why own.place.why (whys.Req by_.q.nr) ≡ true
        reason_ = rw by_.why (rw (whole.asked.each by_.req by_.q by_.there).nr (nat_eq_refl by_.req.0))

        reason_there : holds (λ (place : Place). same_why place.why (whys.Req by_.q.nr)) (place_of now_ own.d.nav) ≡ true
        reason_there = ap (λ (o : Option Place). holds (λ (place : Place). same_why place.why (whys.Req by_.q.nr)) o) own.placed ∙ reason_

        moves : moves_away now_ by_.q own.d.nav ≡ true
        moves = ap (λ n_. moves_away now_ by_.q n_) (sym own.nav_is) ∙ by_.moves

    by_is : (by : ReqId) → why ≡ whys.Req by → by_.req ≡ by
    by_is by is_ = (let both : whys.Req by_.req ≡ whys.Req by = sym why_is ∙ is_ in cc)

    found_ : (by : ReqId) → why ≡ whys.Req by → request_of now_ by ≡ Some by_.q
    found_ by is_ = ap (λ (r : ReqId). request_of now_ r) (sym (by_is by is_)) ∙ by_.there

    pub drop_due : (by : ReqId) → why ≡ whys.Req by → IsDropDue e out made.req by
    drop_due by is_ =
        record {
          asked = at.taking.q;
          at = at.taking.there;
          open_ = at.taking.open_;
          mover = by_.q;
          found = found_ by is_;
          moved = moved_on;
          free = at.taking.free;
          held = at.taking.held (rows.Dropped made.req (drops.By by)) refl;
        }

    pub drop_done : (by : ReqId) → why ≡ whys.Req by → (new : List RowKind) (u : Tables) → new ≡ out ++ rows.Dropped made.req (drops.By by) ∷ [] → u ≡ t → IsAtWork e new u → HasTaken p t made out new u blame
    drop_done by is_ =
        has_dropped (drops.By by) (moved_pays e out made.req by at.taking.q by_.q at.taking.there (found_ by is_) moved_on) (absent_tab t.running p.loads p.hand now_ e.event whole made.req made (made_at_hand p out t blame made at) e.actor (drops.By by) absent) off
