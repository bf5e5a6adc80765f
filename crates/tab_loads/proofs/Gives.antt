-- The navigable's ongoing load gives way to the one that is to begin: what its drop asks, and that all goes on before the other one begins.
use Rattle.load_doors.proofs.Starts.{requests_start}
use Rattle.load_doors.specs.Logged.{seen_start}
use Rattle.tab_passes.proofs.PassedOn.{AreLeftDuly, dropped_duly}
use Rattle.tab_doors.proofs.PassedOn.{dropped_now}
use Rattle.seen_facts.proofs.Coord.Unread.{next}
use Rattle.seen_facts.proofs.Each.Courses.{was_asked}
use Rattle.seen_facts.specs.Each.Runs.{is_this}
use Rattle.tab_facts.specs.Frame.Lasting.{Wish, wish}
use Rattle.load_doors.specs.Loading.{IsOpenHere}
use Rattle.seen_facts.specs.Load.Loading.{look_of}
use Rattle.row_facts.proofs.LoadRows.Drops.{new_unstarted}
use Rattle.row_facts.specs.LoadRows.Dropping.{IsLoadBy, IsReplacedBy}
use Rattle.load_table.specs.Loads.{ongoing_load}
use Rattle.load_table.specs.declared.load.Load.{Load}
use Rattle.seen_facts.specs.LoadTies.Tying.{HasLoad}
use Rattle.log_model.specs.After.{after}
use Rattle.log_model.specs.Places.{aim_of, is_load, is_ongoing_load}
use Rattle.log_model.specs.Points.{nav_of_request}
use Rattle.log_model.specs.Seen.{Asked, Document, Seen, document_of, request_in, request_of}
use Rattle.log_model.specs.declared.outcome.Cause.{Cause}
use Rattle.log_model.specs.declared.request.Mode.{Mode}
use Rattle.log_model.specs.declared.row_kind.RowKind.{RowKind}
use Rattle.row_facts.proofs.Owed.Drops.{replaced_owes}
use Rattle.row_facts.proofs.Owed.Ends.{owes_more}
use Rattle.row_facts.specs.Owed.Owed.{Lasts, owes_seen}
use Rattle.seen_facts.proofs.Request.Readers.{SameReads, on_read}
use Rattle.row_facts.proofs.RestRows.Rows.{dropped_rests}
use Rattle.row_facts.specs.RestRows.Moving.{AllRest}
use Rattle.seen_laws.specs.Blocks.{point_at}
use Rattle.seen_laws.specs.InEvent.{InEvent, now_of, row_of, seen_here, log_of}
use Rattle.std.proofs.Common.{Bool, List, None, Option, Some, [], ap, arith, cond, false, inl, inr, length, refl, subst, sym, true, ℕ, ◌++◌, ◌+◌, ◌-◌, ◌<◌, ◌==◌, ◌∙◌, ◌∷◌, ◌≡◌, ◌≤◌, ◌⊎◌}
use Rattle.std.proofs.lemmas.Bool.Decides.{nat_tests}
use Rattle.std.proofs.lemmas.Option.{slice_get_past}
use Rattle.std.specs.Prelude.{option_map, slice_get}
use Rattle.tab_doors.specs.Working.{IsAtWork}
use Rattle.tab_doors.specs.declared.tables.Tables.{Tables}
use Rattle.tab_drops.proofs.Drops.{apart, ended_then, going_then, leaves_then_dropped, open_here, other_request}
use Rattle.tab_drops.proofs.Loads.{IsAskedFor, asked_for, load_back, load_held, sole_load}
use Rattle.tab_drops.proofs.Turns.{load_found, tied_load}
use Rattle.tab_drops.specs.Dropping.{AreUnheld, LeavesAll}
use Rattle.tab_facts.specs.TabGoing.Going.{IsGoing}
use Rattle.tab_ids.specs.declared.DocId.{DocId}
use Rattle.tab_ids.specs.declared.NavId.{NavId}
use Rattle.tab_ids.specs.declared.ReqId.{ReqId}
use Rattle.tab_ids.specs.declared.StateId.{StateId}
use Rattle.tab_loads.proofs.Cuts.{first_pass}
use Rattle.tab_loads.proofs.Firsts.{accepted_seen, first_is, found, q}
use Rattle.tab_loads.proofs.Leaving.{IsTakenBut, LeavesMost, but_by, taken_but}
use Rattle.tab_loads.specs.Giving.{HasDropped, HasMadeWay, HasNone}
use Rattle.tab_loads.specs.Loading.{IsLoadAsk}
use Rattle.tab_one_pass.proofs.Dropped.{noted_blamed}
use Rattle.tab_one_pass.specs.PassedOn.{AreBlamedBy}
use Rattle.tab_passes.specs.Causes.{MayServe}
use Rattle.tab_passes.specs.Passing.{InPass, IsPassing}
use Rattle.tab_stands.proofs.PassedOn.{live_then, queue_leaves}
use Rattle.tab_stands.specs.PassedOn.{AreBlamed, IsByItsOwn, IsLoadOf, IsTaking, LeavesQueue, LoadsLive, LoadsMadeOwn}
use Rattle.log_model.specs.declared.outcome.Cause.TheVariants as drops
use Rattle.log_model.specs.declared.outcome.Ending.TheVariants as endings
use Rattle.log_model.specs.declared.row_kind.RowKind.TheVariants as rows

-- where each document that was there is so still, what was made of each load is by a document of its navigable still
pub theirs_more : (s n : Seen) → SameReads wish s.requests n.requests → ((doc : DocId) (d : Document) → document_of s doc ≡ Some d → document_of n doc ≡ Some d) → LoadsMadeOwn s → LoadsMadeOwn n
theirs_more s n wishes there theirs req x made at load makes =
    let asked = was_asked wish s.requests n.requests wishes req x at in
    let both = theirs req asked.0 made asked.1 (ap (λ (w : Wish). is_load w.what) asked.2 ∙ load) (ap (λ (w : Wish). w.made) asked.2 ∙ makes) in
    let had : IsByItsOwn s asked.0 made = both.0 in
    (record { d = had.d; found = there made.doc had.d had.found; nav_is = ap (λ (w : Wish). nav_of_request w.what) (sym asked.2) ∙ had.nav_is }, both.1)

-- a request that is there has a number that was given
low_number : (asked : List Asked) (req : ReqId) (x : Asked) → request_in asked req ≡ Some x → req.0 ≤ length asked
low_number asked req x at = by_zero (req.0 == 0) refl at
  where
    by_zero : (b : Bool) → (req.0 == 0) ≡ b → (let o : Option Asked = cond b None (slice_get asked (req.0 - 1)) in o) ≡ Some x → req.0 ≤ length asked
    by_zero true is h = absurd cc
    by_zero false is h = by_length (req.0 == (length asked + 1)) refl
      where
        past : length asked ≤ (req.0 - 1) → ⊥
        past long =
            let never : None ≡ Some x = sym (slice_get_past asked (req.0 - 1) long) ∙ h in cc

        by_length : (b : Bool) → (req.0 == (length asked + 1)) ≡ b → req.0 ≤ length asked
        by_length b e = grind (arith, nat_tests, past, is)

-- orders may be sent for the request, or it is the load that is to begin
abbrev pub ServesOrBegins : ReqId → Seen → ReqId → Type 0
ServesOrBegins req s r = MayServe s r ⊎ (r ≡ req)

module _ (e : InEvent) (req : ReqId) (nav : NavId) (mode : Mode) (address : List ℕ) (asks : IsLoadAsk e req nav mode address) (t : Tables) {behind : List ReqId} (pass : IsPassing (first_pass e req behind) [] t) (held : AreUnheld e (now_of e [])) where
  abbrev s : Seen
  s = now_of e []

  abbrev p : InPass
  p = first_pass e req behind

  -- what the drop asks
  pub drop_asks : (old : ReqId) → option_map (λ (load : Load). load.req) (ongoing_load nav t.loads) ≡ Some old → IsAtWork e [] t × (IsOpenHere e [] old × ((is_this t.running old ≡ false) × HasLoad t.loads nav old))
  drop_asks old is =
      let load : IsLoadOf s old nav = load_found s t.loads nav old pass.work.loads is in
      (pass.work, (open_here p [] t pass old nav load held, (apart p [] t pass old nav load, load_held s t.loads old nav pass.work.loads load)))

  -- ---- all goes on before the other one begins

  module _ (blame : List (StateId × ReqId)) (taking : IsTaking e t.running blame s) (theirs : LoadsMadeOwn s) where
    -- before the load begins: the history, the navigables and the documents are as they were; it is there, its navigable has no ongoing load, and what the rows so far owe is paid once it has begun
    pub record IsMadeWay (n : Seen) (out : List RowKind) (noted : List (StateId × ReqId)) : Type 0 where
      pub going : IsGoing t.running (req ∷ behind) [] n
      pub taken : IsTakenBut e t.running n
      pub blamed : AreBlamedBy (ServesOrBegins req n) n noted
      pub own : LoadsMadeOwn n
      pub rests : AllRest n
      pub places : n.places ≡ s.places
      pub history : n.history ≡ s.history
      pub documents : n.documents ≡ s.documents
      pub kept : n.kept ≡ s.kept
      pub aim : aim_of n ≡ aim_of s
      pub parked : n.parked ≡ s.parked
      pub states : n.states ≡ s.states
      pub wishes : SameReads wish s.requests n.requests
      pub left : LeavesQueue s n
      pub found : request_of n req ≡ Some (q e req nav mode address asks)
      pub alone : (r : ReqId) → IsLoadOf n r nav → ⊥
      pub paid : (end : Seen) → Lasts (after n (row_of e (rows.Started req None))) end → owes_seen e out end ≡ true
      pub duly : AreLeftDuly (log_of e out)

    -- the own row owes nothing
    own_paid : (end : Seen) → owes_seen e [] end ≡ true
    own_paid end = rw (asks.undue.due end) refl

    none_way : (u : Tables) (noted : List (StateId × ReqId)) → HasNone nav t u [] blame noted → IsMadeWay s [] noted
    none_way u noted it =
        record {
          going = pass.going;
          taken = taken_but e t.running blame s taking;
          blamed = subst (λ (l : List (StateId × ReqId)). AreBlamedBy (ServesOrBegins req s) s l) (sym it.noted_is) (λ doc state stray. let was = taking.blamed doc state stray in record { req = was.req; noted = was.noted; may = inl was.may; moves = was.moves; leaves = was.leaves });
          own = theirs;
          rests = pass.rests;
          places = refl;
          history = refl;
          documents = refl;
          kept = refl;
          aim = refl;
          parked = refl;
          states = refl;
          wishes = λ r. refl;
          left = record { joined = refl; whats = λ r. refl; ready = λ r x its. its };
          found = found e req nav mode address asks;
          alone = λ r its. (let has = load_held s t.loads r nav pass.work.loads its in let never : None ≡ Some has.load = sym it.none_ ∙ has.at in cc);
          paid = λ end lasts. own_paid end;
          duly = pass.duly;
        }

    module _ (old : Load) (at : ongoing_load nav t.loads ≡ Some old) where
      load : IsLoadOf s old.req nav
      load = tied_load s t.loads nav old pass.work.loads at

      its : IsAskedFor s old.req nav
      its = asked_for s old.req nav load

      abbrev cause : Cause
      cause = drops.By req

      abbrev n : Seen
      n = next s e.event e.actor (rows.Dropped old.req (drops.By req))

      left_all : LeavesAll s n
      left_all = leaves_then_dropped p [] t pass old.req nav load cause

      abbrev end_it : Asked → Asked
      end_it x = record x { ending = Some (endings.Dropped (drops.By req)) }

      -- it is another one, which was accepted before
      other : (req.0 == old.req.0) ≡ false
      other = by_test (req.0 == old.req.0) refl
        where
          by_test : (b : Bool) → (req.0 == old.req.0) ≡ b → b ≡ false
          by_test false is = refl
          by_test true is =
              let number : req.0 ≡ old.req.0 = grind (arith, nat_tests, is) in
              let same : req ≡ old.req = ap (λ (k : ℕ). let r : ReqId = record { 0 = k } in r) number in
              let two : Some (q e req nav mode address asks) ≡ Some its.q = sym (found e req nav mode address asks) ∙ ap (λ (r : ReqId). request_of s r) same ∙ its.at in
              let one : q e req nav mode address asks ≡ its.q = cc in
              let never : false ≡ true = ap (λ (x : Asked). is_ongoing_load x) one ∙ its.ongoing in
              absurd cc

      long : length s.requests ≡ length e.start.requests + 1
      long =
          ap (λ (x : Seen). length x.requests) (first_is e req nav mode address asks)
          ∙ more (seen_start e).requests (q e req nav mode address asks)
          ∙ ap (λ (k : ℕ). k + 1) (requests_start e)
        where
          more : (l : List Asked) (x : Asked) → length (l ++ x ∷ []) ≡ length l + 1
          more [] x = omega arith
          more (y ∷ l) x = let rest : length (l ++ x ∷ []) ≡ length l + 1 = more l x in omega (arith, rest)

      earlier : old.req.0 < req.0
      earlier =
          let low : old.req.0 ≤ length s.requests = low_number s.requests old.req its.q its.at in
          let many = long in
          let number = asks.next in
          let apart_ = other in
          grind (arith, nat_tests, low, many, number, apart_)

      most : LeavesMost s n
      most =
          record {
            places = left_all.places;
            history = left_all.history;
            kept = left_all.kept;
            aim = left_all.aim;
            found = λ doc d there. there;
            moves = on_read (λ (x : Asked). x.moved) s.requests old.req end_it (λ x. refl);
            moved = left_all.movers;
            causes = left_all.orders;
          }

      live : LoadsLive n
      live =
          live_then s n left_all.loads
          (λ x doc was. record { place = was.place; placed = was.placed; wakes = was.wakes })
          (λ state is one. record { doc = one.doc; d = one.d; found = one.found; of_state = one.of_state; there = one.there }) taking.live

      load_by : IsLoadBy (seen_here e []) (now_of e []) old.req req nav its.q (q e req nav mode address asks)
      unfolding now_of
      load_by = record { at = its.at; mode = its.mode; address = its.address; what = its.what; other = found e req nav mode address asks }

      paid : (end : Seen) → Lasts (after n (row_of e (rows.Started req None))) end → owes_seen e (rows.Dropped old.req (drops.By req) ∷ []) end ≡ true
      paid end lasts =
          owes_more e [] (rows.Dropped old.req (drops.By req)) end (own_paid end) (replaced_owes e [] old.req req nav its.q (q e req nav mode address asks) load_by replaced end lasts)
        where
          number_is : its.q.nr ≡ old.req
          number_is = (pass.going.tab.asked.each old.req its.q its.at).nr

          replaced : IsReplacedBy (seen_here e []) nav its.q (record (q e req nav mode address asks) { is_started = true })
          replaced =
              record {
                mode = mode;
                address = address;
                what = refl;
                later = subst (λ (r : ReqId). r.0 < req.0) (sym number_is) earlier;
                began = refl;
                begins_here = new_unstarted (point_at (seen_here e []) []) req (accepted_seen e req nav mode address asks);
              }

      dropped_way : (noted : List (StateId × ReqId)) → AreBlamedBy (ServesOrBegins req n) n noted → IsMadeWay n (rows.Dropped old.req (drops.By req) ∷ []) noted
      dropped_way noted blamed =
          record {
            going = going_then p [] t pass old.req nav load cause;
            taken = but_by e t.running s n (taken_but e t.running blame s taking) pass.going.tab.asked (going_then p [] t pass old.req nav load cause).tab.asked pass.going.tab.homes most (λ r x its_. inl (load_back s n r x left_all its_)) live;
            blamed = blamed;
            own = theirs_more s n left_all.wishes (λ doc d there. there) theirs;
            rests = dropped_rests s e.event e.actor [] pass.rests old.req cause;
            places = left_all.places;
            history = left_all.history;
            documents = left_all.documents;
            kept = left_all.kept;
            aim = left_all.aim;
            parked = left_all.parked;
            states = refl;
            wishes = left_all.wishes;
            left = queue_leaves s n (λ state some. some) left_all.loads left_all.joined (on_read (λ (x : Asked). x.what) s.requests old.req end_it (λ x. refl));
            found = other_request p [] t pass old.req nav load cause req other ∙ found e req nav mode address asks;
            alone = λ r its_. gone r its_;
            paid = paid;
            duly = dropped_duly e [] old.req cause (rows.Dropped old.req (drops.By req) ∷ []) refl pass.duly;
          }
        where
          gone : (r : ReqId) → IsLoadOf n r nav → ⊥
          gone r its_ =
              let was : IsLoadOf s r nav = load_back s n r nav left_all its_ in
              let same : r ≡ old.req = sole_load s r old.req nav pass.going.tab.loading was load in
              ended_then p [] t pass old.req nav load cause its_.look (ap (λ (x : ReqId). look_of n x) (sym same) ∙ its_.at) its_.ongoing

    -- ---- in either case

    pub made_way : (u : Tables) (out : List RowKind) (noted : List (StateId × ReqId)) → AreBlamed s blame → HasMadeWay e req nav t u out blame noted → IsMadeWay (now_of e out) out noted
    made_way u out noted blamed way = by_case way.which
      where
        by_case : HasNone nav t u out blame noted ⊎ HasDropped req nav t u out blame noted → IsMadeWay (now_of e out) out noted
        by_case (inl it) =
            subst (λ (l : List RowKind). IsMadeWay (now_of e l) l noted) (sym it.out_is) (none_way u noted (record { none_ = it.none_; out_is = refl; tables = it.tables; noted_is = it.noted_is }))
        by_case (inr it) =
            subst (λ (l : List RowKind). IsMadeWay (now_of e l) l noted) (sym it.out_is)
            (subst (λ (x : Seen). IsMadeWay x (rows.Dropped it.old.req (drops.By req) ∷ []) noted) (sym now_is)
            (dropped_way it.old it.at noted (subst (λ (x : Seen). AreBlamedBy (ServesOrBegins req x) x noted) now_is
            (noted_blamed p [] t pass (rows.Dropped it.old.req (drops.By req) ∷ []) blame noted (subst (λ (x : Seen). LeavesAll s x) (sym now_is) (left_all it.old it.at)) (ServesOrBegins req (now_of e (rows.Dropped it.old.req (drops.By req) ∷ []))) (λ r so. inl so) req (inr refl) it.noted_is blamed))))
          where
            now_is : now_of e (rows.Dropped it.old.req (drops.By req) ∷ []) ≡ next s e.event e.actor (rows.Dropped it.old.req (drops.By req))
            now_is = dropped_now e [] it.old.req (drops.By req)
