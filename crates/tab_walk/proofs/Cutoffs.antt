-- Where none may be kept, the document that is left may be discarded.
use Rattle.seen_facts.specs.Home.Homes.{IsHomed}
use Rattle.seen_facts.proofs.Hang.Hung.{places_distinct}
use Rattle.seen_facts.proofs.Hang.Members.{has_map}
use Rattle.seen_facts.proofs.Hang.Parts.{state_is}
use Rattle.seen_facts.specs.Hang.Members.{Has}
use Rattle.seen_facts.proofs.Kept.States.{AreOfOwnStates, sole_states}
use Rattle.seen_facts.specs.Kept.Keeping.{IsMadeFor, state_in}
use Rattle.row_facts.proofs.LeaveRows.Leaves.{none_kept}
use Rattle.row_facts.specs.LeaveRows.Leaving.{IsDiscardOf, IsLeaveDue, IsTooMany}
use Rattle.seen_facts.specs.Load.Loading.{IsLoading, look, look_of}
use Rattle.load_table.specs.Loads.{ongoing_load}
use Rattle.load_table.specs.declared.load.Load.{Load}
use Rattle.seen_facts.specs.LoadTies.Tying.{IsLoadTied}
use Rattle.log_model.proofs.Refl.{nat_eq_refl}
use Rattle.log_model.specs.AfterPlaces.{sleepers_with}
use Rattle.log_model.specs.Equal.{has_doc}
use Rattle.log_model.specs.History.{has_nav}
use Rattle.log_model.specs.Seen.{Asked, Document, Place, Seen, asleep, awake, desk_of, document_of, place_of, Status, lost}
use Rattle.log_model.specs.declared.header.Header.{Header}
use Rattle.log_model.specs.declared.job.Job.{Job}
use Rattle.log_model.specs.declared.job.Why.{Why}
use Rattle.log_model.specs.declared.row_kind.RowKind.{RowKind}
use Rattle.nav_tree.specs.Tree.{document_of as document_at}
use Rattle.nav_tree.specs.declared.place.Place as live_place
use Rattle.seen_facts.proofs.Rest.Still.{found_itself}
use Rattle.seen_laws.proofs.InEvents.{led_here, now_is}
use Rattle.seen_laws.proofs.Keyed.{find_has as seen_number}
use Rattle.seen_laws.specs.InEvent.{InEvent, here_of, now_of, log_of}
use Rattle.std.proofs.Common.{Bool, List, Option, Some, [], ap, arith, false, filter_map, inl, map, not, refl, subst, sym, true, ℕ, ◌&&◌, ◌||◌, ◌==◌, ◌∙◌, ◌≡◌, inr}
use Rattle.std.proofs.lemmas.Bool.Decides.{nat_tests}
use Rattle.std.specs.Prelude.{find, option_map}
use Rattle.tab_doors.proofs.Sights.{sight_of}
use Rattle.tab_doors.proofs.Whose.{proc_found}
use Rattle.tab_doors.proofs.Leavable.{IsInLog, IsLeftAs, discards_log, in_log, last_log, many_log, numbered_log}
use Rattle.tab_doors.proofs.Works.{header_here, numbered}
use Rattle.tab_doors.specs.Keeping.{Move}
use Rattle.tab_doors.specs.Look.{Sight, is_live_for, sight}
use Rattle.tab_doors.specs.Orders.{order_to, proc_at}
use Rattle.tab_doors.specs.Working.{IsAtWorkFor, MaySend}
use Rattle.tab_doors.specs.declared.tables.Tables.{Tables}
use Rattle.row_facts.specs.LeaveRows.MayLeave.{MayBeLeft}
use Rattle.tab_evicts.proofs.Offs.{off_none}
use Rattle.tab_moves.specs.Moving.{AreLeftUnder}
use Rattle.tab_passes.proofs.LeftFor.{off_for}
use Rattle.tab_passes.specs.Leaving.{IsLeftDulyFor, OffAreLeft, WasOffOrLeft}
use Rattle.tab_evicts.proofs.Quiets.{for_one, one_document}
use Rattle.tab_ids.specs.declared.DocId.{DocId}
use Rattle.tab_ids.specs.declared.NavId.{NavId}
use Rattle.tab_ids.specs.declared.StateId.{StateId}
use Rattle.tab_moves.proofs.Leaves.{MayLeave, may_leave}
use Rattle.tab_moves.proofs.PassedOn.{left_sends, listed_at}
pub use Rattle.tab_moves.proofs.Makings.{show_causes}
use Rattle.tab_moves.specs.Moving.{MayCause}
use Rattle.tab_moves.specs.PassedOn.{IsGoneAt, IsLeaving}
use Rattle.tab_walk.proofs.Offs.{asleep_off, to_leave}
use Rattle.tab_walk.specs.Cutting.{MayCut, cut_of}
use Rattle.tab_walk.specs.Moving.{HasSetOff, InMove, IsBound, MaySetOff, is_up_in}
use Rattle.seen_facts.proofs.Walk.Placed.{found_nav}
use Rattle.row_facts.proofs.WalkRows.Sleeping.{no_shower, nobody_awake}
use Rattle.log_model.specs.declared.job.Task.TheVariants as tasks

neither : (a b : Bool) → a ≡ false → b ≡ false → (a || b) ≡ false
neither false false e f = refl
neither true b e f = absurd cc
neither false true e f = absurd cc

-- such an order may be sent
cut_ahead : (e : InEvent) (out : List RowKind) (move : Move) (t : Tables) (doc : DocId) (why : Why) (d new : Document) → IsAtWorkFor (Some move) e out t → MayBeLeft (here_of e out) (order_to (now_of e out) doc why tasks.Discard) → document_of (now_of e out) move.doc ≡ Some new → IsLeaveDue (now_of e out) (order_to (now_of e out) doc why tasks.Discard) d → (desk_of (now_of e out) (proc_at (now_of e out) doc)).known ≡ 0 → e.header.keep ≡ 0 → (now_of e out).kept ≡ [] → new.nav ≡ d.nav → (move.doc.0 == d.nr.0) ≡ false → MaySend (Some move) e out (order_to (now_of e out) doc why tasks.Discard)
cut_ahead e out move t doc why d new work left found due known none kept same apart =
    left_sends (here_of e out) e.event e.actor order move (led_here e out work.own) (numbered_log e out (now_is e out) order (numbered (now_of e out) (proc_at (now_of e out) doc) doc why tasks.Discard known)) shown.d shown.found its.d (last_log e out (now_is e out) order d its due)
    (subst (λ (h : Header). IsTooMany h (log_of e out) its.d) (sym (header_here e out)) (many_log e out (now_is e out) order d its e.header (none_kept e.header (now_of e out) d none kept)))
    (ap (λ (x : Document). x.nav) (sym shown.is) ∙ same ∙ ap (λ (x : Document). x.nav) its.is)
    (ap (λ (x : Document). move.doc.0 == x.nr.0) (sym its.is) ∙ apart)
  where
    order : Job
    order = order_to (now_of e out) doc why tasks.Discard

    its : IsLeftAs e out order d
    its =
        discards_log e out (now_is e out) order d left due.discards

    -- the document that is shown, as the log has it
    shown : IsInLog e out move.doc new
    shown = in_log e out (now_is e out) move.doc new found

module _ (m : InMove) (out : List RowKind) (t : Tables) (leaving : IsLeaving m.pass (Some (cut_of m)) [] out t) (why : Why) (may : MayCut m t.running (now_of m.pass.event out) m.nav m.left m.state why) where
  abbrev s : Seen
  s = now_of m.pass.event out

  abbrev bound : IsBound m t.running s
  bound = may.bound

  pub off : MaySetOff m t.running s m.nav m.left why
  off =
      record {
        its = refl;
        its_left = refl;
        for_run = may.for_run;
        bound = may.bound;
        movable = may.movable;
        were = may.were;
        loads = λ gone has. absurd (subst (λ (l : List DocId). Has (filter_map (state_in s.documents) l) gone) may.kept has);
      }

  made : IsMadeFor s.documents m.nav m.left
  made = leaving.going.tab.kept.lasts m.nav bound.place m.left bound.placed bound.last

  ready : bound.old.is_ready ≡ true
  ready = ap (λ (d : Document). d.is_ready) (one_document s m.left bound.old made.d bound.old_found made.found) ∙ made.ready

  pub cut_cause : MayCause s why
  cut_cause = subst (λ (w : Why). MayCause s w) (sym may.for_run) (show_causes s t.running leaving.going.tab.asked m.cause bound.may)

  -- where the navigable is asleep, nobody is awake on it
  pub cut_nobody : bound.place.status ≡ asleep → sleepers_with s m.left ≡ []
  cut_nobody sleeps = nobody_awake s m.left (no_shower s m.left (places_distinct s leaving.going.tab.sound leaving.going.tab.hangs) never)
    where
      never : (nav : NavId) (place : Place) → place_of s nav ≡ Some place → place.status ≡ awake m.left → ⊥
      never nav place placed wakes =
          let home = (leaving.going.tab.homes.homed nav place m.left placed wakes).home in
          let same : bound.old ≡ home.document = one_document s m.left bound.old home.document bound.old_found home.found in
          let navs : m.nav ≡ nav = sym bound.old_nav ∙ ap (λ (d : Document). d.nav) same ∙ home.nav_is ∙ found_nav s.places nav place placed in
          let both : Some bound.place ≡ Some place = sym bound.placed ∙ ap (λ (n : NavId). place_of s n) navs ∙ placed in
          let here : bound.place ≡ place = cc in
          let no_ : asleep ≡ awake m.left = sym sleeps ∙ ap (λ (p : Place). p.status) here ∙ wakes in
          cc

  pub cut_leaves : MayLeave s m.left why
  cut_leaves = by_up (is_up_in t.tree m.nav) refl
    where
      by_up : (b : Bool) → is_up_in t.tree m.nav ≡ b → MayLeave s m.left why
      by_up true up =
          may_leave (record { pass = m.pass; move = cut_of m; cause = m.cause }) m.nav m.left why out t leaving (to_leave m out t leaving m.left why off up)
      by_up false down =
          let gone : HasSetOff m t.running s = asleep_off m out t leaving m.left why off down in
          let nobody : sleepers_with s m.left ≡ [] = cut_nobody (gone.sleeps m.nav bound.place (inl (nat_eq_refl m.nav.0)) bound.placed) in
          record {
            document = bound.old;
            found = bound.old_found;
            ready = ready;
            moves = λ other has. absurd (let never : false ≡ true = sym (ap (λ (navs : List NavId). has_nav navs other) nobody) ∙ has in cc);
            begun = inl nobody;
            may = cut_cause;
          }

  old_nr : bound.old.nr ≡ m.left
  old_nr = ap (λ (n : ℕ). let x : DocId = record { 0 = n } in x) (seen_number (λ (x : Document). x.nr.0) m.left.0 s.documents bound.old bound.old_found)

  discards : IsDiscardOf s (order_to s m.left why tasks.Discard) bound.old
  discards =
      record {
        task = refl;
        to = record { found = bound.old_found; proc = sym (proc_found s m.left bound.old bound.old_found); alive = neither bound.old.is_discarded bound.old.is_known_dead bound.undiscarded bound.unknown };
        unhandled = (leaving.going.tab.docs.each m.left bound.old bound.old_found).live.slot;
        for_one = for_one s why cut_cause;
      }

  -- it may be left: the navigable, which is awake on it, leaves it, or nobody is awake on it
  cut_may_be : AreLeftUnder m.pass.event out m.nav why → OffAreLeft m.pass.event out why → MayBeLeft (here_of m.pass.event out) (order_to s m.left why tasks.Discard)
  cut_may_be lefts off_ = off_for m.pass.event out leaving.duly (order_to s m.left why tasks.Discard) bound.old bound.old_found (for_one s why cut_cause) (by_status bound.place.status refl)
    where
      by_status : (st : Status) → bound.place.status ≡ st → WasOffOrLeft m.pass.event out why m.left
      by_status (awake x) is =
          let homed : IsHomed s.documents bound.place x = leaving.going.tab.homes.homed m.nav bound.place x bound.placed is in
          let last : Some x ≡ Some m.left = sym homed.last ∙ bound.last in
          let same : x ≡ m.left = cc in
          inr (subst (λ (d : DocId). IsLeftDulyFor (log_of m.pass.event out) d why) same (lefts m.nav bound.place x (inl (nat_eq_refl m.nav.0)) bound.placed is))
      by_status asleep is = off_ m.left bound.old bound.old_found ready bound.undiscarded (off_none s m.left (cut_nobody is))
      by_status lost is = absurd ((leaving.going.tab.standing m.nav bound.place bound.placed).unlost is)

  pub cut_sends : AreLeftUnder m.pass.event out m.nav why → OffAreLeft m.pass.event out why → MaySend (Some (cut_of m)) m.pass.event out (order_to s m.left why tasks.Discard)
  cut_sends lefts off_ =
      cut_ahead m.pass.event out (cut_of m) t m.left why bound.old bound.new leaving.work (cut_may_be lefts off_) bound.new_found
      (record { discards = discards; place = bound.place; placed = ap (λ (n : NavId). place_of s n) bound.old_nav ∙ bound.placed; last = bound.last ∙ ap (λ (d : DocId). Some d) (sym old_nr) })
      (leaving.going.tab.asked.died (proc_at s m.left)).0
      may.none
      may.kept
      (bound.new_nav ∙ sym bound.old_nav)
      apart
    where
      apart : (m.doc.0 == bound.old.nr.0) ≡ false
      apart =
          let number : bound.old.nr.0 ≡ m.left.0 = ap (λ (d : DocId). d.0) old_nr in
          let differs = bound.apart in
          grind (arith, nat_tests, number, differs)

  unloaded : (nav : NavId) (load : Load) → ongoing_load nav t.loads ≡ Some load → (m.state.0 == load.state.0) ≡ false
  unloaded nav load at = by_test (m.state.0 == load.state.0) refl
    where
      tied : IsLoadTied s load
      tied = leaving.work.loads.there nav load at

      its_look : look_of s load.req ≡ Some (look tied.q)
      its_look = ap (λ (o : Option Asked). option_map look o) tied.found

      loading : IsLoading s (look tied.q)
      loading = leaving.going.tab.loading.each load.req (look tied.q) its_look tied.ongoing

      ever : has_doc bound.place.ever_awake m.left ≡ true
      ever = may.were.lasts m.nav bound.place m.left bound.placed bound.last

      by_test : (c : Bool) → (m.state.0 == load.state.0) ≡ c → (m.state.0 == load.state.0) ≡ false
      by_test false is = is
      by_test true is =
          let states : Some load.state ≡ Some loading.state = sym tied.state ∙ loading.state_is in
          let one : load.state ≡ loading.state = cc in
          let number : bound.old.state.0 ≡ loading.state.0 = ap (λ (x : StateId). x.0) (bound.old_state ∙ state_is m.state load.state is ∙ one) in
          let never : has_doc bound.place.ever_awake m.left ≡ false = loading.unshown m.left bound.old bound.old_found number m.nav bound.place bound.placed in
          let no_ : true ≡ false = sym ever ∙ never in
          absurd cc

  pub cut_gone : IsGoneAt s t.tree t.loads m.left m.state
  cut_gone =
      record { document = bound.old; found = bound.old_found; its_state = own; ready = ready; its = listed; unloaded = unloaded }
    where
      own : (x : Sight) → Has (map sight s.documents) x → (x.nr.0 == m.left.0) ≡ true → x.state ≡ m.state
      own x there same =
          let of_ = has_map sight s.documents x there in
          let first : of_.it.nr.0 ≡ x.nr.0 = ap (λ (y : Sight). y.nr.0) of_.is in
          let second : x.nr.0 ≡ m.left.0 = grind (arith, nat_tests, same) in
          let at : document_of s m.left ≡ Some of_.it = subst (λ (n : ℕ). find (λ (y : Document). y.nr.0 == n) s.documents ≡ Some of_.it) (first ∙ second) (found_itself s.documents of_.it leaving.going.tab.whose.numbered of_.there) in
          let one : of_.it ≡ bound.old = one_document s m.left of_.it bound.old at bound.old_found in
          ap (λ (y : Sight). y.state) (sym of_.is) ∙ ap (λ (y : Document). y.state) one ∙ bound.old_state

      all_four : (a b c d : Bool) → a ≡ true → b ≡ true → c ≡ false → d ≡ false → (a && b && not c && not d) ≡ true
      all_four true true false false e f g h = refl
      all_four false b c d e f g h = absurd cc
      all_four true false c d e f g h = absurd cc
      all_four true true true d e f g h = absurd cc
      all_four true true false true e f g h = absurd cc

      lives : is_live_for m.state (sight bound.old) ≡ true
      lives =
          all_four (bound.old.state.0 == m.state.0) bound.old.is_ready bound.old.is_discarded bound.old.is_known_dead (ap (λ (x : StateId). x.0 == m.state.0) bound.old_state ∙ nat_eq_refl m.state.0) ready bound.undiscarded bound.unknown

      listed : option_map (λ (q : live_place.Place). q.doc) (document_at m.state t.tree) ≡ Some m.left
      listed = listed_at (map sight s.documents) t leaving.work.holds.documents m.left (sight bound.old) (sight_of s m.left bound.old bound.old_found) m.state lives

  pub cut_own : AreOfOwnStates s.documents s.kept m.left m.state
  cut_own =
      subst (λ (x : StateId). AreOfOwnStates s.documents s.kept m.left x) bound.old_state
      (sole_states s m.left bound.old leaving.going.tab.kept (record {
        found = bound.old_found;
        only = λ other o there same undiscarded.
            ap (λ (n : DocId). n.0) (leaving.going.tab.docs.sole other m.left o bound.old there bound.old_found (ap (λ (n : ℕ). let x : StateId = record { 0 = n } in x) same) undiscarded bound.undiscarded);
      }))
