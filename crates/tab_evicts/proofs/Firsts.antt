-- The document that is kept longest may be discarded, where too many would be kept with the one that is left.
use Rattle.seen_laws.proofs.InEvents as events
use Rattle.seen_facts.proofs.Hang.Hung.{place_chain, places_distinct}
use Rattle.seen_facts.proofs.Hang.Members.{has_filter}
use Rattle.seen_facts.proofs.Hang.Parts.{state_is}
use Rattle.seen_facts.specs.Hang.Members.{Has}
use Rattle.seen_facts.proofs.Kept.States.{AreOfOwnStates, sole_states, states_left, states_many, states_oldest}
use Rattle.seen_facts.specs.Kept.Keeping.{IsKeptDoc, is_last, kept_states, state_in}
use Rattle.row_facts.specs.LeaveRows.Evicting.{IsKeptLast}
use Rattle.row_facts.specs.Left.Left.{WasEverShown, WereShown}
use Rattle.seen_facts.specs.Load.Loading.{IsLoading, look, look_of}
use Rattle.load_table.specs.Loads.{ongoing_load}
use Rattle.load_table.specs.declared.load.Load.{Load}
use Rattle.seen_facts.specs.LoadTies.Tying.{IsLoadTied}
use Rattle.log_model.proofs.Refl.{nat_eq_refl}
use Rattle.log_model.specs.AfterPlaces.{without_doc}
use Rattle.log_model.specs.Equal.{has_doc, holds}
use Rattle.log_model.specs.Formed.{last_of}
use Rattle.log_model.specs.Places.{hangs_on, is_gone}
use Rattle.log_model.specs.Seen.{Asked, Document, Place, Seen, awake, desk_of, document_of, place_in, place_of}
use Rattle.log_model.specs.Suits.{kept_with}
use Rattle.log_model.specs.declared.job.Job.{Job}
use Rattle.log_model.specs.declared.job.Why.{Why}
use Rattle.log_model.specs.declared.row_kind.RowKind.{RowKind}
use Rattle.row_facts.specs.LeaveRows.Leaving.{IsDiscardOf}
use Rattle.nav_tree.specs.Tree.{document_of as document_at}
use Rattle.nav_tree.specs.declared.place.Place as live_place
use Rattle.page_cache.specs.Kept.{left_first, oldest_of, without}
use Rattle.seen_laws.proofs.InEvents.{led_here}
use Rattle.seen_laws.proofs.Keyed.{find_has as seen_number, find_on_same}
use Rattle.seen_laws.specs.InEvent.{InEvent, here_of, now_of, log_of}
use Rattle.std.proofs.Common.{Bool, List, None, Option, Some, [], ap, arith, cond, drop, false, filter_map, inl, inr, length, map, not, refl, subst, suc, sym, true, zero, ℕ, ◌++◌, ◌-◌, ◌==◌, ◌||◌, ◌∙◌, ◌∷◌, ◌≡◌, ◌≤◌}
use Rattle.std.proofs.lemmas.Bool.Decides.{nat_tests}
use Rattle.std.specs.Prelude.{IsSome, nat_lt, option_and_then, option_map, slice_get}
use Rattle.tab_doors.proofs.Sights.{sight_of}
use Rattle.log_model.specs.declared.header.Header.{Header}
use Rattle.tab_doors.proofs.Leavable.{IsInLog, IsLeftAs, discards_log, in_log, kept_last_log, kept_log, numbered_log, placed_log}
use Rattle.tab_doors.proofs.Works.{header_here, numbered}
use Rattle.tab_doors.specs.Keeping.{LetsGo, Move, with_left}
use Rattle.tab_doors.specs.Look.{is_live_for, sight}
use Rattle.tab_doors.specs.Orders.{order_to, proc_at}
use Rattle.tab_doors.specs.Working.{IsAtWorkFor, KeepsStore, MaySend}
use Rattle.tab_doors.specs.declared.tables.Tables.{Tables}
use Rattle.tab_evicts.proofs.Cuts.{over_fits, over_leaves}
use Rattle.tab_evicts.proofs.Hangings.{none_awake, none_hangs, not_awake}
use Rattle.row_facts.specs.LeaveRows.MayLeave.{MayBeLeft}
use Rattle.tab_evicts.proofs.Offs.{off_gone, quiet_left}
use Rattle.tab_evicts.proofs.Quiets.{IsQuiet, gone_leaving, gone_looks, gone_may, gone_now, gone_other, gone_places, gone_seen, gone_states, gone_stays, gone_were, one_document, quiet_discards}
use Rattle.tab_evicts.specs.Evicting.{HasRoomBeside, IsBeside, InEvicting, IsEvicting, IsGoneFor, IsToEvict, NoLoadBelow, NoneBelow, OffAreLeft, StaysPlaced}
use Rattle.tab_ids.specs.declared.DocId.{DocId}
use Rattle.tab_ids.specs.declared.NavId.{NavId}
use Rattle.tab_ids.specs.declared.StateId.{StateId}
use Rattle.tab_passes.proofs.Aheads.{overflow_sends}
use Rattle.tab_passes.proofs.Lives.{listed_at}
use Rattle.tab_passes.proofs.Unders.{into_docs}
use Rattle.tab_passes.specs.Leaving.{IsLeaving, left_then}
use Rattle.tab_passes.specs.Passing.{InPass}
use Rattle.row_facts.proofs.WalkRows.Sleeping.{no_shower, nobody_awake}
use Rattle.log_model.specs.declared.job.Task.TheVariants as tasks
use Rattle.log_model.specs.declared.row_kind.RowKind.TheVariants as rows

-- ---- lists

-- where one is beyond a bound, it is the last
record IsLastAt (keep : ℕ) (l : List StateId) (x : StateId) : Type 0 where
  long : length l ≡ suc keep
  at : slice_get l keep ≡ Some x

last_at : (keep : ℕ) (l : List StateId) (x : StateId) → drop keep l ≡ x ∷ [] → IsLastAt keep l x
last_at zero l x is = record { long = ap (λ (m : List StateId). length m) is; at = ap (λ (m : List StateId). slice_get m 0) is }
last_at (suc keep) [] x is = absurd cc
last_at (suc keep) (y ∷ l) x is = let rest = last_at keep l x is in record { long = ap (λ (n : ℕ). suc n) rest.long; at = rest.at }

oldest_is : (keep : ℕ) (l : List StateId) (x : StateId) → drop keep l ≡ x ∷ [] → oldest_of l ≡ Some x
oldest_is keep l x is =
    let last = last_at keep l x is in
    let long : length l ≡ suc keep = last.long in
    let one : length l - 1 ≡ keep = omega (arith, long) in
    ap (λ (n : ℕ). slice_get l n) one ∙ last.at

last_has : (docs : List DocId) (doc : DocId) → last_of docs ≡ Some doc → Has docs doc
last_has [] doc is = absurd cc
last_has (x ∷ []) doc is = inl (let same : x ≡ doc = cc in same)
last_has (x ∷ y ∷ docs) doc is = inr (last_has (y ∷ docs) doc is)

-- such an order may be sent
over_ahead : (e : InEvent) (out : List RowKind) (move : Move) (t : Tables) (doc : DocId) (why : Why) (d new : Document) (place : Place) (left : DocId) → IsAtWorkFor (Some move) e out t → MayBeLeft (here_of e out) (order_to (now_of e out) doc why tasks.Discard) → document_of (now_of e out) move.doc ≡ Some new → IsKeptLast (now_of e out) (order_to (now_of e out) doc why tasks.Discard) d (Some left) → (desk_of (now_of e out) (proc_at (now_of e out) doc)).known ≡ 0 → nat_lt e.header.keep (length (kept_with (now_of e out) (Some left))) ≡ true → place_of (now_of e out) new.nav ≡ Some place → place.last ≡ Some left → (left.0 == move.doc.0) ≡ false → MaySend (Some move) e out (order_to (now_of e out) doc why tasks.Discard)
over_ahead e out move t doc why d new place left work may_be found due known many placed last apart =
    overflow_sends (here_of e out) e.event e.actor order move (led_here e out work.own) (numbered_log e out (events.now_is e out) order (numbered (now_of e out) (proc_at (now_of e out) doc) doc why tasks.Discard known)) shown.d shown.found its.d place left (kept_last_log e out (events.now_is e out) order d its (Some left) due)
    (subst (λ (h : Header). nat_lt h.keep (length (kept_with (log_of e out) (Some left))) ≡ true) (sym (header_here e out)) (subst (λ (docs : List DocId). nat_lt e.header.keep (length docs) ≡ true) (kept_log e out (events.now_is e out) (Some left)) many))
    (placed_log e out (events.now_is e out) shown.d.nav place (ap (λ (x : Document). place_of (now_of e out) x.nav) (sym shown.is) ∙ placed))
    last
    apart
  where
    order : Job
    order = order_to (now_of e out) doc why tasks.Discard

    its : IsLeftAs e out order d
    its =
        discards_log e out (events.now_is e out) order d may_be due.discards

    -- the document that is shown, as the log has it
    shown : IsInLog e out move.doc new
    shown = in_log e out (events.now_is e out) move.doc new found

-- ---- the document that is kept longest

pub record IsFirst (s : Seen) (left : DocId) (gone : StateId) : Type 0 where
  pub doc : DocId
  pub last : last_of (left ∷ without_doc left s.kept) ≡ Some doc
  pub kept : Has s.kept doc
  pub its : IsKeptDoc s.documents s.places doc
  pub state : its.d.state ≡ gone

module _ (m : InEvicting) (gone : StateId) (why : Why) (out : List RowKind) (t : Tables) (leaving : IsLeaving m.pass (Some m.move) [] out t) (to : IsToEvict m gone why (now_of m.pass.event out) t.kept.keep) (off : OffAreLeft m.pass.event out why) where
  abbrev p : InPass
  p = m.pass

  abbrev move : Move
  move = m.move

  abbrev state : StateId
  state = m.state

  abbrev s : Seen
  s = now_of p.event out

  -- with the one that is left
  abbrev docs : List DocId
  docs = m.left ∷ without_doc m.left s.kept

  own : AreOfOwnStates s.documents s.kept m.left state
  own =
      subst (λ (x : StateId). AreOfOwnStates s.documents s.kept m.left x) to.its_state
      (sole_states s m.left to.old leaving.going.tab.kept (record {
        found = to.found;
        only = λ other o there same undiscarded.
            ap (λ (n : DocId). n.0) (leaving.going.tab.docs.sole other m.left o to.old there to.found (ap (λ (n : ℕ). let x : StateId = record { 0 = n } in x) same) undiscarded to.undiscarded);
      }))

  states_are : filter_map (state_in s.documents) docs ≡ left_first state (kept_states s)
  states_are = states_left s.documents s.kept m.left state own

  there : (doc : DocId) → Has docs doc → (x : StateId) × (state_in s.documents doc ≡ Some x)
  there doc (inl same) = (state, ap (λ (d : DocId). state_in s.documents d) (sym same) ∙ own.own)
  there doc (inr more) = own.there doc (has_filter (λ (d : DocId). not (d.0 == m.left.0)) s.kept doc more).0

  pub first : IsFirst s m.left gone
  first = by_last (last_of docs) refl oldest
    where
      oldest : option_and_then (state_in s.documents) (last_of docs) ≡ Some gone
      oldest = sym (states_oldest s.documents docs there) ∙ ap oldest_of states_are ∙ oldest_is t.kept.keep (left_first state (kept_states s)) gone to.over

      by_member : (doc : DocId) → last_of docs ≡ Some doc → state_in s.documents doc ≡ Some gone → Has docs doc → IsFirst s m.left gone
      by_member doc last is (inl same) =
          let both : Some state ≡ Some gone = sym own.own ∙ ap (λ (d : DocId). state_in s.documents d) same ∙ is in
          let one : gone ≡ state = cc in
          let no_ : true ≡ false = sym (ap (λ (x : StateId). x.0 == state.0) one ∙ nat_eq_refl state.0) ∙ to.kept in
          absurd cc
      by_member doc last is (inr more) =
          let has = (has_filter (λ (d : DocId). not (d.0 == m.left.0)) s.kept doc more).0 in
          let its = leaving.going.tab.kept.each doc has in
          let both : Some its.d.state ≡ Some gone = sym (ap (λ (o : Option Document). option_map (λ (d : Document). d.state) o) its.found) ∙ is in
          record { doc = doc; last = last; kept = has; its = its; state = cc }

      by_last : (o : Option DocId) → last_of docs ≡ o → option_and_then (state_in s.documents) o ≡ Some gone → IsFirst s m.left gone
      by_last None at is = absurd cc
      by_last (Some doc) at is = by_member doc at is (last_has docs doc at)

  its_nr : first.its.d.nr ≡ first.doc
  its_nr = ap (λ (n : ℕ). let x : DocId = record { 0 = n } in x) (seen_number (λ (x : Document). x.nr.0) first.doc.0 s.documents first.its.d first.its.found)

  -- ---- it is quiet

  unloaded : (nav : NavId) (load : Load) → ongoing_load nav t.loads ≡ Some load → (gone.0 == load.state.0) ≡ false
  unloaded nav load at = by_test (gone.0 == load.state.0) refl
    where
      tied : IsLoadTied s load
      tied = leaving.work.loads.there nav load at

      its_look : look_of s load.req ≡ Some (look tied.q)
      its_look = ap (λ (o : Option Asked). option_map look o) tied.found

      loading : IsLoading s (look tied.q)
      loading = leaving.going.tab.loading.each load.req (look tied.q) its_look tied.ongoing

      ever : WasEverShown s.places first.doc
      ever = to.were.kept first.doc first.kept

      by_test : (c : Bool) → (gone.0 == load.state.0) ≡ c → (gone.0 == load.state.0) ≡ false
      by_test false is = is
      by_test true is =
          let states : Some load.state ≡ Some loading.state = sym tied.state ∙ loading.state_is in
          let one : load.state ≡ loading.state = cc in
          let number : first.its.d.state.0 ≡ loading.state.0 = ap (λ (x : StateId). x.0) (first.state ∙ state_is gone load.state is ∙ one) in
          let never : has_doc ever.place.ever_awake first.doc ≡ false = loading.unshown first.doc first.its.d first.its.found number ever.nav ever.place ever.placed in
          let no_ : true ≡ false = sym ever.ever ∙ never in
          absurd cc

  lives : is_live_for gone (sight first.its.d) ≡ true
  lives = rw (ap (λ (x : StateId). x.0 == gone.0) first.state ∙ nat_eq_refl gone.0) (rw first.its.ready (rw first.its.undiscarded (rw first.its.unknown refl)))

  pub first_quiet : IsQuiet s t first.doc gone
  first_quiet =
      record {
        document = first.its.d;
        found = first.its.found;
        its_state = first.state;
        ready = first.its.ready;
        undiscarded = first.its.undiscarded;
        unknown = first.its.unknown;
        listed = listed_at (map sight s.documents) t leaving.work.holds.documents first.doc (sight first.its.d) (sight_of s first.doc first.its.d first.its.found) gone lives;
        nobody = nobody_awake s first.doc (no_shower s first.doc (places_distinct s leaving.going.tab.sound leaving.going.tab.hangs) (λ nav place placed wakes. not_awake t.running p.loads p.hand s leaving.going.tab to.were.owned first.doc first.its.d first.its.found first.kept nav place first.doc first.its.d placed wakes first.its.found refl));
        unloaded = unloaded;
      }

  -- ---- it is discarded

  pub first_there : (doc : DocId) → option_map (λ (q : live_place.Place). q.doc) (document_at gone t.tree) ≡ Some doc → doc ≡ first.doc
  first_there doc at = let both : Some doc ≡ Some first.doc = sym at ∙ first_quiet.listed in cc

  -- it isn't the one that is left, nor the new one
  apart_left : (first.doc.0 == m.left.0) ≡ false
  apart_left = by_test (first.doc.0 == m.left.0) refl
    where
      by_test : (c : Bool) → (first.doc.0 == m.left.0) ≡ c → (first.doc.0 == m.left.0) ≡ false
      by_test false e = e
      by_test true e =
          let number : first.doc.0 ≡ m.left.0 = grind (arith, nat_tests, e) in
          let one : first.doc ≡ m.left = ap (λ (n : ℕ). let x : DocId = record { 0 = n } in x) number in
          let same : first.its.d ≡ to.old = one_document s m.left first.its.d to.old (ap (λ (x : DocId). document_of s x) (sym one) ∙ first.its.found) to.found in
          let states : gone ≡ state = sym first.state ∙ ap (λ (d : Document). d.state) same ∙ to.its_state in
          let no_ : true ≡ false = sym (ap (λ (x : StateId). x.0 == state.0) states ∙ nat_eq_refl state.0) ∙ to.kept in
          absurd cc

  apart_new : (first.doc.0 == move.doc.0) ≡ false
  apart_new = by_test (first.doc.0 == move.doc.0) refl
    where
      by_test : (c : Bool) → (first.doc.0 == move.doc.0) ≡ c → (first.doc.0 == move.doc.0) ≡ false
      by_test false e = e
      by_test true e =
          let number : first.doc.0 ≡ move.doc.0 = grind (arith, nat_tests, e) in
          let one : first.doc ≡ move.doc = ap (λ (n : ℕ). let x : DocId = record { 0 = n } in x) number in
          let same : first.its.d ≡ m.new = one_document s move.doc first.its.d m.new (ap (λ (x : DocId). document_of s x) (sym one) ∙ first.its.found) to.new_found in
          let states : gone ≡ m.new.state = sym first.state ∙ ap (λ (d : Document). d.state) same in
          let no_ : true ≡ false = sym (ap (λ (x : StateId). x.0 == m.new.state.0) states ∙ nat_eq_refl m.new.state.0) ∙ to.another in
          absurd cc

  kept_are : kept_with s (Some m.left) ≡ docs
  kept_are = ap (λ (b : Bool). let l : List DocId = cond b s.kept docs in l) alive
    where
      alive : is_gone s m.left ≡ false
      alive = ap (λ (o : Option Document). holds (λ (d : Document). d.is_discarded || d.is_known_dead) o) to.found ∙ either to.old.is_discarded to.old.is_known_dead to.undiscarded to.unknown
        where
          either : (a b : Bool) → a ≡ false → b ≡ false → (a || b) ≡ false
          either false false e f = refl
          either true b e f = absurd cc
          either false true e f = absurd cc

  kept_many : nat_lt p.event.header.keep (length (kept_with s (Some m.left))) ≡ true
  kept_many =
      let long : length docs ≡ suc t.kept.keep =
      sym (states_many s.documents docs there) ∙ ap (λ (l : List StateId). length l) states_are ∙ (last_at t.kept.keep (left_first state (kept_states s)) gone to.over).long in
      ap (λ (l : List DocId). nat_lt p.event.header.keep (length l)) kept_are
      ∙ ap (λ (n : ℕ). nat_lt p.event.header.keep n) (long ∙ ap (λ (n : ℕ). suc n) to.header)
      ∙ less_next p.event.header.keep
    where
      less_next : (n : ℕ) → nat_lt n (suc n) ≡ true
      less_next n = grind (arith, nat_tests)

  due : IsKeptLast s (order_to s first.doc why tasks.Discard) first_quiet.document (Some m.left)
  due =
      subst (λ (d : Document). IsKeptLast s (order_to s first.doc why tasks.Discard) d (Some m.left)) same (record {
        discards = subst (λ (d : Document). IsDiscardOf s (order_to s first.doc why tasks.Discard) d) (sym same) (quiet_discards p (Some move) out t leaving why to.may first.doc gone first_quiet);
        kept = ap (λ (d : DocId). has_doc s.kept d) its_nr ∙ into_docs s.kept first.doc first.kept;
        followed = ap (λ (d : DocId). holds (λ (place : Place). holds (λ (last : DocId). last.0 == d.0) place.last) (place_of s first.its.d.nav)) its_nr ∙ ap (λ (o : Option Place). holds (is_last first.doc) o) first.its.placed ∙ first.its.left;
        last = ap last_of kept_are ∙ first.last ∙ ap (λ (d : DocId). Some d) (sym its_nr);
      })
    where
      same : first.its.d ≡ first_quiet.document
      same = one_document s first.doc first.its.d first_quiet.document first.its.found first_quiet.found

  pub first_sends : MaySend (Some move) p.event out (order_to s first.doc why tasks.Discard)
  first_sends =
      over_ahead p.event out move t first.doc why first_quiet.document m.new to.place m.left leaving.work (quiet_left p (Some move) out t leaving why to.may first.doc gone first_quiet off) to.new_found due
      (leaving.going.tab.asked.died (proc_at s first.doc)).0
      kept_many
      (ap (λ (n : NavId). place_of s n) to.new_nav ∙ to.placed)
      to.last
      to.apart

  pub first_lets : LetsGo (Some move) t.kept.keep (kept_states s) gone
  first_lets =
      subst (λ (o : Option StateId). without gone (with_left o t.kept.keep (kept_states s)) ≡ with_left o t.kept.keep (without gone (kept_states s))) (sym to.noted)
      (over_leaves t.kept.keep state gone (kept_states s) to.over to.kept)

  -- ---- what it leaves

  pub first_done : (new : List RowKind) (u : Tables) → new ≡ out ++ rows.Sent (order_to s first.doc why tasks.Discard) ∷ [] → KeepsStore t u → IsLeaving p (Some move) (left_then s first.doc []) new u → IsEvicting m gone why new u
  first_done new u made keeps leaving_ =
      record {
        leaving = leaving_now;
        may = gone_may p (Some move) out t leaving why to.may first.doc gone first_quiet new u made leaving_now;
        were = subst (λ (x : Seen). WereShown x) now_is (gone_were p (Some move) out t leaving why to.may first.doc gone first_quiet to.were);
        loads = subst (λ (x : Seen). NoLoadBelow x gone) now_is loads_then;
        gone_for = subst (λ (x : Seen). IsGoneFor x gone) now_is gone_then;
        none = subst (λ (x : Seen). NoneBelow x gone) now_is none_then;
        moving = λ x at. (let same : m ≡ x = cc in subst (λ (y : InEvicting). HasRoomBeside y gone (now_of p.event new) u.kept.keep) same (record { noted = to.noted; beside = subst (λ (x : Seen). IsBeside x gone m) now_is beside_then; room = room_then }));
        off = off_gone p (Some move) out t leaving why to.may first.doc gone first_quiet off new u made;
        free = to.free;
      }
    where
      leaving_now : IsLeaving p (Some move) [] new u
      leaving_now = gone_leaving p (Some move) out t leaving why to.may first.doc gone first_quiet new u made leaving_

      then_ : Seen
      then_ = gone_seen p (Some move) out t leaving why to.may first.doc gone first_quiet

      now_is : then_ ≡ now_of p.event new
      now_is = gone_now p (Some move) out t leaving why to.may first.doc gone first_quiet new u made

      places : then_.places ≡ s.places
      places = gone_places p (Some move) out t leaving why to.may first.doc gone first_quiet

      placed_was : (nav : NavId) (place : Place) → place_of then_ nav ≡ Some place → place_of s nav ≡ Some place
      placed_was nav place at = ap (λ (l : List Place). place_in l nav) (sym places) ∙ at

      other : (x : DocId) → (first.doc.0 == x.0) ≡ false → document_of then_ x ≡ document_of s x
      other x apart = gone_other p (Some move) out t leaving why to.may first.doc gone first_quiet x apart

      loads_then : NoLoadBelow then_ gone
      loads_then req l nav place at ongoing its_own placed =
          to.loads req l nav place (sym (gone_looks p (Some move) out t leaving why to.may first.doc gone first_quiet req) ∙ at) ongoing its_own (placed_was nav place placed)

      gone_then : IsGoneFor then_ gone
      gone_then =
          record {
            doc = first.doc;
            document = record first.its.d { is_discarded = true };
            found =
                find_on_same (λ (y : Document). y.nr.0) (λ (y : Document). record y { is_discarded = true }) first.doc.0 s.documents (λ y. refl)
                ∙ ap (λ (o : Option Document). option_map (λ (y : Document). record y { is_discarded = true }) o) first.its.found;
            discarded = refl;
            its_state = first.state;
          }

      hung_none : (nav : NavId) (place : Place) (x : DocId) → place_of s nav ≡ Some place → place.status ≡ awake x → hangs_on gone place ≡ false
      hung_none nav place x placed wakes =
          ap (λ (st : StateId). hangs_on st place) (sym first.state) ∙ none_awake t.running p.loads p.hand s leaving.going.tab to.were.owned first.doc first.its.d first.its.found first.kept nav place x placed wakes

      none_then : NoneBelow then_ gone
      none_then nav place x placed wakes = hung_none nav place x (placed_was nav place placed) wakes

      outside : hangs_on gone to.place ≡ false
      outside =
          ap (λ (st : StateId). hangs_on st to.place) (sym first.state)
          ∙ none_hangs t.running p.loads p.hand s leaving.going.tab to.were.owned first.doc first.its.d first.its.found first.kept to.place.above to.nav to.place to.placed refl (place_chain s leaving.going.tab.sound leaving.going.tab.hangs to.nav to.place to.placed) to.on

      beside_then : IsBeside then_ gone m
      beside_then =
          record {
            nav = to.nav;
            place = to.place;
            placed = ap (λ (l : List Place). place_in l to.nav) places ∙ to.placed;
            outside = outside;
            old = to.old;
            found = other m.left apart_left ∙ to.found;
            its_nav = to.its_nav;
            its_state = to.its_state;
            undiscarded = to.undiscarded;
            new_found = other move.doc apart_new ∙ to.new_found;
            new_nav = to.new_nav;
          }

      room_then : length (left_first state (kept_states (now_of p.event new))) ≤ u.kept.keep
      room_then =
          subst (λ (n : ℕ). length (left_first state (kept_states (now_of p.event new))) ≤ n) (sym keeps.keep)
          (subst (λ (x : Seen). length (left_first state (kept_states x)) ≤ t.kept.keep) now_is
          (subst (λ (l : List StateId). length (left_first state l) ≤ t.kept.keep) (sym (gone_states p (Some move) out t leaving why to.may first.doc gone first_quiet)) (over_fits t.kept.keep state gone (kept_states s) to.over to.kept)))

  pub first_stays : (new : List RowKind) (u : Tables) → new ≡ out ++ rows.Sent (order_to s first.doc why tasks.Discard) ∷ [] → StaysPlaced s (now_of p.event new)
  first_stays new u made =
      subst (λ (x : Seen). StaysPlaced s x) (gone_now p (Some move) out t leaving why to.may first.doc gone first_quiet new u made) (gone_stays p (Some move) out t leaving why to.may first.doc gone first_quiet)

  -- there is one
  pub first_is_there : IsSome (document_at gone t.tree)
  first_is_there = by_place (document_at gone t.tree) first_quiet.listed
    where
      by_place : (o : Option live_place.Place) → option_map (λ (q : live_place.Place). q.doc) o ≡ Some first.doc → IsSome o
      by_place None at = absurd cc
      by_place (Some q) at = refl

  -- ---- under the name of a call

  module _ (doc : DocId) (at : option_map (λ (q : live_place.Place). q.doc) (document_at gone t.tree) ≡ Some doc) where
    is_first : first.doc ≡ doc
    is_first = sym (first_there doc at)

    pub quiet_as : IsQuiet s t doc gone
    quiet_as = subst (λ (x : DocId). IsQuiet s t x gone) is_first first_quiet

    pub sends_as : MaySend (Some move) p.event out (order_to s doc why tasks.Discard)
    sends_as = subst (λ (x : DocId). MaySend (Some move) p.event out (order_to s x why tasks.Discard)) is_first first_sends

    pub done_as : (new : List RowKind) (u : Tables) → new ≡ out ++ rows.Sent (order_to s doc why tasks.Discard) ∷ [] → KeepsStore t u → IsLeaving p (Some move) (left_then s doc []) new u → IsEvicting m gone why new u
    done_as =
        subst (λ (x : DocId). (new : List RowKind) (u : Tables) → new ≡ out ++ rows.Sent (order_to s x why tasks.Discard) ∷ [] → KeepsStore t u → IsLeaving p (Some move) (left_then s x []) new u → IsEvicting m gone why new u) is_first first_done

    pub stays_as : (new : List RowKind) (u : Tables) → new ≡ out ++ rows.Sent (order_to s doc why tasks.Discard) ∷ [] → StaysPlaced s (now_of p.event new)
    stays_as =
        subst (λ (x : DocId). (new : List RowKind) (u : Tables) → new ≡ out ++ rows.Sent (order_to s x why tasks.Discard) ∷ [] → StaysPlaced s (now_of p.event new)) is_first first_stays
