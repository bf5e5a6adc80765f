-- A document that nothing needs as it is made may be discarded; nobody is awake on it.
use Rattle.seen_laws.proofs.InEvents as events
use Rattle.seen_facts.proofs.Hang.Hung.{places_distinct}
use Rattle.seen_facts.proofs.Hang.Members.{find_has, has_any}
use Rattle.seen_facts.proofs.Hang.Targets.{IsTarget, target_has}
use Rattle.seen_facts.specs.Hang.AsPlaces.{AreDistinct}
use Rattle.seen_facts.specs.Home.Homes.{IsHomed}
use Rattle.row_facts.proofs.LeaveRows.LeftMays.{unneeded_left_may}
use Rattle.row_facts.specs.LeaveRows.Evicting.{IsUnneededDue, is_a_target, is_last}
use Rattle.row_facts.specs.LeaveRows.Leaving.{is_for_one}
use Rattle.log_model.proofs.Refl.{nat_eq_refl}
use Rattle.log_model.specs.AfterPlaces.{sleepers_with, woken_below}
use Rattle.log_model.specs.Equal.{has_doc, holds}
use Rattle.log_model.specs.History.{has_nav, has_state, target_entry}
use Rattle.log_model.specs.Orders.{ongoing_load}
use Rattle.log_model.specs.Places.{aim_of, is_shown, shower_of, targets_state}
use Rattle.log_model.specs.Seen.{Asked, Document, Place, Seen, desk_of, document_of, place_of}
use Rattle.log_model.specs.declared.job.Job.{Job}
use Rattle.log_model.specs.declared.job.Why.{Why}
use Rattle.log_model.specs.declared.row.Row.{Row}
use Rattle.log_model.specs.declared.row_kind.RowKind.{RowKind}
use Rattle.seen_facts.proofs.Mover.Orders.{MovesEach}
use Rattle.seen_laws.proofs.InEvents.{led_here}
use Rattle.seen_laws.specs.InEvent.{here_of, later_of, now_of, row_of}
use Rattle.std.proofs.Common.{Bool, List, None, Option, Some, [], ap, arith, false, inl, inr, refl, subst, sym, true, ℕ, ◌&&◌, ◌==◌, ◌||◌, ◌∙◌, ◌∷◌, ◌≡◌}
use Rattle.std.proofs.lemmas.Bool.Decides.{nat_tests}
use Rattle.std.specs.List.{list_any}
use Rattle.std.specs.Option.{option_map_or}
use Rattle.std.specs.Prelude.{is_some, slice_get}
use Rattle.tab_doors.proofs.Whose.{proc_found}
use Rattle.tab_doors.proofs.Leavable.{IsLeftAs, discards_log, numbered_log, seen_at, unneeded_log}
use Rattle.tab_doors.proofs.Works.{done_here, numbered, start_here}
use Rattle.tab_doors.specs.Orders.{order_to, proc_at}
use Rattle.tab_doors.specs.Working.{MaySend}
use Rattle.tab_doors.specs.declared.tables.Tables.{Tables}
use Rattle.tab_ids.specs.declared.DocId.{DocId}
use Rattle.tab_ids.specs.declared.NavId.{NavId}
use Rattle.tab_ids.specs.declared.StateId.{StateId}
use Rattle.tab_passes.proofs.Goings.{none_to_begin}
use Rattle.tab_passes.proofs.LeftFor.{off_for}
use Rattle.tab_passes.proofs.Leavings.{leaving_none}
use Rattle.tab_passes.specs.Causes.{MayCause}
use Rattle.tab_passes.specs.Leaving.{IsLeaving, MayLeave}
use Rattle.tab_passes.specs.Passing.{InPass, IsPassing}
use Rattle.tab_sweeps.proofs.Sends.{IsAsked, is_asked}
use Rattle.tab_sweeps.proofs.Theres.{stray_unknown}
use Rattle.tab_sweeps.specs.Sweeping.{IsStray}
use Rattle.tab_sweeps.specs.Unneeded.{IsUnneeded}
use Rattle.row_facts.proofs.WalkRows.Sleeping.{IsShower, shower_is}
use Rattle.log_model.specs.declared.job.Task.TheVariants as tasks
use Rattle.log_model.specs.declared.made.Report.TheVariants as reports
use Rattle.log_model.specs.declared.outcome.Outcome.TheVariants as outcomes
use Rattle.log_model.specs.declared.job.Why.TheVariants as whys

-- ---- a state without an entry

-- no navigable's target has it
untargeted : (rows_ : List Row) (step : ℕ) (nav : NavId) (state : StateId) → has_state state rows_ ≡ false → targets_state rows_ step nav state ≡ false
untargeted rows_ step nav state bare = by_target (target_entry rows_ nav step) refl
  where
    by_row : (row : Row) → target_entry rows_ nav step ≡ Some row → (b : Bool) → (row.state.0 == state.0) ≡ b → (row.state.0 == state.0) ≡ false
    by_row row at false e = e
    by_row row at true e =
        let its : IsTarget rows_ nav step row = target_has rows_ nav step row at in
        let there : has_state state rows_ ≡ true = has_any (λ (r : Row). r.state.0 == state.0) rows_ row its.there e in
        let no_ : true ≡ false = sym there ∙ bare in
        absurd cc

    by_target : (o : Option Row) → target_entry rows_ nav step ≡ o → holds (λ (row : Row). row.state.0 == state.0) o ≡ false
    by_target None at = refl
    by_target (Some row) at = by_row row at (row.state.0 == state.0) refl

none_targets : (s : Seen) (state : StateId) (places : List Place) → has_state state s.history.rows ≡ false → list_any (is_a_target s state) places ≡ false
none_targets s state [] bare = refl
none_targets s state (place ∷ places) bare =
    rw (neither (is_shown s.history.rows (aim_of s) place.nav) (targets_state s.history.rows (aim_of s) place.nav state) (untargeted s.history.rows (aim_of s) place.nav state bare)) (none_targets s state places bare)
  where
    neither : (a b : Bool) → b ≡ false → (a && b) ≡ false
    neither true b e = e
    neither false b e = refl

number_found : (s : Seen) (doc : DocId) (d : Document) → document_of s doc ≡ Some d → d.nr.0 ≡ doc.0
number_found s doc d found =
    let its = find_has (λ (y : Document). y.nr.0 == doc.0) s.documents d found in
    let passes : (d.nr.0 == doc.0) ≡ true = its.1 in
    grind (arith, nat_tests, passes)

-- ---- the request that an order is for is there

for_one : (s : Seen) (why : Why) → MayCause s why → is_for_one s why ≡ true
for_one s (whys.Req req) may =
    let asked : IsAsked s req = is_asked s req (may req refl) in
    ap (λ (o : Option Asked). is_some o) asked.at
for_one s (whys.Death death) may = refl
for_one s whys.Evict may = refl
for_one s whys.Start may = refl

module _ (p : InPass) (out : List RowKind) (t : Tables) (passing : IsPassing p out t) (doc : DocId) (state : StateId) (its : IsUnneeded p.event (now_of p.event out) doc state) (why : Why) (may : MayCause (now_of p.event out) why) where
  abbrev s : Seen
  s = now_of p.event out

  abbrev discard : Job
  discard = order_to s doc why tasks.Discard

  leaving : IsLeaving p None [] out t
  leaving = leaving_none p out t passing

  abbrev stray : IsStray s doc state
  stray = its.stray

  distinct : AreDistinct s.places
  distinct = places_distinct s leaving.going.tab.sound leaving.going.tab.hangs

  -- ---- nobody is awake on it

  never_awake : (shower : Place) → shower_of s doc ≡ Some shower → ⊥
  never_awake shower found =
      let it : IsShower s doc shower = shower_is s doc shower distinct found in
      let homed : IsHomed s.documents shower doc = leaving.going.tab.homes.homed shower.nav shower doc it.placed it.wakes in
      let two : Some homed.home.document ≡ Some stray.document = sym homed.home.found ∙ stray.found in
      let one : homed.home.document ≡ stray.document = cc in
      let nav_is : stray.document.nav ≡ shower.nav = ap (λ (d : Document). d.nav) (sym one) ∙ homed.home.nav_is in
      let last : is_last s stray.document ≡ (doc.0 == stray.document.nr.0) =
      ap (λ (n : NavId). holds (λ (place : Place). holds (λ (d : DocId). d.0 == stray.document.nr.0) place.last) (place_of s n)) nav_is
      ∙ ap (λ (o : Option Place). holds (λ (place : Place). holds (λ (d : DocId). d.0 == stray.document.nr.0) place.last) o) it.placed
      ∙ ap (λ (o : Option DocId). holds (λ (d : DocId). d.0 == stray.document.nr.0) o) homed.last
      in
      let no_ : true ≡ false = sym (last ∙ its_number) ∙ its.unshown in
      cc
    where
      its_number : (doc.0 == stray.document.nr.0) ≡ true
      its_number = let same : stray.document.nr.0 ≡ doc.0 = number_found s doc stray.document stray.found in ap (λ (n : ℕ). doc.0 == n) same ∙ nat_eq_refl doc.0

  nobody : sleepers_with s doc ≡ []
  nobody = by_shower (shower_of s doc) refl
    where
      by_shower : (o : Option Place) → shower_of s doc ≡ o → option_map_or (λ (place : Place). place.nav ∷ woken_below s place.nav) o [] ≡ []
      by_shower None found = refl
      by_shower (Some shower) found = absurd (never_awake shower found)

  -- ---- the order

  moves : MovesEach s why (sleepers_with s doc)
  moves other has = let never : true ≡ false = sym has ∙ ap (λ (navs : List NavId). has_nav navs other) nobody in absurd cc

  pub unneeded_leaves : MayLeave s doc why
  unneeded_leaves =
      record { document = stray.document; found = stray.found; ready = stray.ready; moves = moves; begun = inr (none_to_begin s why may); may = may }

  alive : (stray.document.is_discarded || stray.document.is_known_dead) ≡ false
  alive = ap (λ (b : Bool). b || stray.document.is_known_dead) stray.undiscarded ∙ stray_unknown p out t leaving doc state stray

  due : IsUnneededDue (seen_at p.event out (events.now_is p.event out)) (order_to s doc why tasks.Discard) stray.document
  due =
      record {
        discards = record {
          task = refl;
          to = record { found = stray.found; proc = sym (proc_found s doc stray.document stray.found); alive = alive };
          unhandled = (leaving.going.tab.docs.each doc stray.document stray.found).live.slot;
          for_one = for_one s why may;
        };
        own = row_of p.event p.event.own;
        rest = later_of p.event out;
        begins = done_here p.event out;
        proc = its.taken.proc;
        takes = its.taken.takes;
        populate = its.taken.populate;
        slot = its.taken.slot;
        made = its.taken.made;
        tells = subst (λ (x : Seen). slice_get (desk_of x its.taken.proc).reports 0 ≡ Some (reports.Done its.taken.populate (outcomes.Populated its.taken.slot) its.taken.made)) (sym (start_here p.event out)) its.taken.tells;
        of = its.taken.of ∙ ap (λ (n : ℕ). let x : DocId = record { 0 = n } in x) (sym (number_found s doc stray.document stray.found));
        unloaded = ap (λ (x : StateId). ongoing_load s x) stray.its_state ∙ stray.unloaded;
        untargeted = ap (λ (x : StateId). list_any (is_a_target s x) s.places) stray.its_state ∙ none_targets s state s.places stray.bare;
        unshown = its.unshown;
        unkept = ap (λ (n : ℕ). has_doc s.kept (record { 0 = n })) (number_found s doc stray.document stray.found) ∙ its.unkept;
      }

  -- the document as the log has it: it may be left
  left_as : IsLeftAs p.event out (order_to s doc why tasks.Discard) stray.document
  left_as =
      discards_log p.event out (events.now_is p.event out) (order_to s doc why tasks.Discard) stray.document (off_for p.event out leaving.duly (order_to s doc why tasks.Discard) stray.document stray.found due.discards.for_one (inl its.unwoken)) due.discards

  pub unneeded_sends : MaySend None p.event out discard
  unneeded_sends later ahead =
      unneeded_left_may (here_of p.event out) p.event.event p.event.actor (order_to s doc why tasks.Discard) left_as.d (led_here p.event out leaving.work.own) (numbered_log p.event out (events.now_is p.event out) (order_to s doc why tasks.Discard) (numbered s (proc_at s doc) doc why tasks.Discard (leaving.going.tab.asked.died (proc_at s doc)).0)) (unneeded_log p.event out t leaving.work (order_to s doc why tasks.Discard) stray.document left_as due) later (ahead.1, tt)
