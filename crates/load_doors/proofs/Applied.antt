-- A load is applied, and the coordinator goes on working.
use Rattle.checking_facts.specs.States.{AddsUnspent}
use Rattle.unasked.proofs.Nows.{applied_goes}
use Rattle.seen_laws.specs.Unasked.{without_asks}
use Rattle.unasked_dues.proofs.Loads.{load_to_apply}
use Rattle.unasked.proofs.Readings.{under_way_read}
use Rattle.checking_facts.proofs.Brings.{brings_load}
use Rattle.log_model.specs.Places.{is_ongoing_load}
use Rattle.row_facts.specs.LoadRows.Loaded.{IsLoadToApply}
use Rattle.apply_plan.specs.Order.{made_in}
use Rattle.seen_facts.specs.Each.Runs.{is_this}
use Rattle.row_facts.proofs.FrameRows.LawfulLaws.{ends_other}
use Rattle.load_doors.specs.Applying.{IsApplyDue}
use Rattle.row_facts.proofs.LoadRows.Loads.{load_may}
use Rattle.load_table.specs.Loads.{KeepsOthers, cancelled, ongoing_load}
use Rattle.load_table.specs.declared.load.Load.{Load}
use Rattle.seen_facts.proofs.LoadTies.Ends.{applied_ended, cancelled_none, load_ends}
use Rattle.log_model.specs.After.{after}
use Rattle.log_model.specs.AfterDocuments.{applied_to, told_after_change}
use Rattle.log_model.specs.AfterPlaces.{places_given, with_taker}
use Rattle.log_model.specs.History.{applied}
use Rattle.log_model.specs.Order.{SameHistory}
use Rattle.log_model.specs.Seen.{Asked, Document, Place, Seen, request_of}
use Rattle.log_model.specs.declared.change.Change.{Change}
use Rattle.log_model.specs.declared.row_kind.RowKind.{RowKind}
use Rattle.navigate_core.specs.Navigations.{change_for}
use Rattle.seen_laws.proofs.InEvents.{led_here, now_is}
use Rattle.seen_laws.specs.Blocks.{MayLog}
use Rattle.seen_laws.specs.InEvent.{Anything, InEvent, here_of, log_of, now_of, row_of}
use Rattle.std.proofs.Common.{Bool, List, None, Option, Some, [], ap, arith, cond, false, inl, length, map, refl, subst, sym, true, ℕ, ◌++◌, ◌+◌, ◌==◌, ◌∙◌, ◌∷◌, ◌≡◌, ◌≤◌}
use Rattle.std.proofs.lemmas.List.{length-map}
use Rattle.std.specs.Prelude.{if◌then◌else◌}
use Rattle.step_index.specs.Held.{history_held}
use Rattle.step_index.specs.declared.step_index.StepIndex.{StepIndex}
use Rattle.tab_doors.proofs.Ahead.{IsStep, step_plain}
use Rattle.tab_doors.proofs.Works.{open_undropped}
use Rattle.tab_doors.proofs.ChangeWorks.{applied_reads, kept_applied, lost_by}
use Rattle.tab_doors.proofs.Changing.{Changes, pushed_documents, replaced_documents, untold_sight}
use Rattle.tab_doors.proofs.EndLaws.{history_holds}
use Rattle.tab_doors.proofs.Requests.{applied_moved, moved_same, runs_applied_apart}
use Rattle.tab_doors.proofs.Sights.{sights_on, sights_same}
use Rattle.tab_doors.proofs.Takers.{lost_seen, taken_holds}
use Rattle.tab_doors.proofs.Works.{aimed_log, at_seen, goal_on, goal_read, next_work, work_more}
use Rattle.tab_doors.specs.Dues.{SeesRows, lost_of}
use Rattle.tab_doors.specs.Ending.{destroy_all}
use Rattle.tab_doors.specs.Look.{Look, Sight, look_of, sight, sight_in}
use Rattle.tab_doors.specs.Ties.{AreInitial, Holds}
use Rattle.tab_doors.specs.Working.{IsAtWork}
use Rattle.unasked_dues.specs.Checking.{NoStepChecks}
use Rattle.tab_doors.specs.declared.tables.Tables.{Tables}
use Rattle.tab_ids.specs.declared.DocId.{DocId}
use Rattle.tab_ids.specs.declared.EntryId.{EntryId}
use Rattle.tab_ids.specs.declared.NavId.{NavId}
use Rattle.tab_ids.specs.declared.ReqId.{ReqId}
use Rattle.tab_ids.specs.declared.StateId.{StateId}
use Rattle.log_model.specs.declared.change.Change.TheVariants as changes
use Rattle.log_model.specs.declared.row_kind.RowKind.TheVariants as rows

-- a document that isn't there is changed in no document
sights_none : (doc : DocId) (g : Sight → Sight) (documents : List Sight) → sight_in documents doc ≡ None → sights_on doc g documents ≡ documents
sights_none doc g [] none = refl
sights_none doc g (d ∷ documents) none = by_test (d.nr.0 == doc.0) refl none (sights_none doc g documents)
  where
    by_test : (b : Bool) → (d.nr.0 == doc.0) ≡ b → (let o : Option Sight = cond b (Some d) (sight_in documents doc) in o) ≡ None → (sight_in documents doc ≡ None → sights_on doc g documents ≡ documents) → sights_on doc g (d ∷ documents) ≡ d ∷ documents
    by_test true is there more = cc
    by_test false is there more = rw is (ap (λ (l : List Sight). d ∷ l) (more there))

-- of the log itself
apply_log : (e : InEvent) (out : List RowKind) (req : ReqId) (nav : NavId) (change : Change) {t : Tables} → IsAtWork e out t → NoStepChecks e.checking (log_of e []) → (due : IsApplyDue e out req nav change) → (q : Asked) × (due.asked ≡ without_asks q) × IsLoadToApply (log_of e out) req nav due.mode due.address q change
apply_log e out req nav change {t} work free due =
    load_to_apply e.checking (log_of e out) (aimed_log e out t work) (work.unheld free) req nav due.mode due.address due.asked change (at_seen e out t work (λ (s : Seen). IsLoadToApply s req nav due.mode due.address due.asked change) due.due)

-- the row passes whatever comes later
apply_may : (e : InEvent) (out : List RowKind) (req : ReqId) (nav : NavId) (change : Change) {t : Tables} → IsAtWork e out t → NoStepChecks e.checking (log_of e []) → IsApplyDue e out req nav change → MayLog (here_of e out) (row_of e (rows.Applied req change) ∷ []) Anything
apply_may e out req nav change work free due = by_log (apply_log e out req nav change work free due)
  where
    by_log : (q : Asked) × (due.asked ≡ without_asks q) × IsLoadToApply (log_of e out) req nav due.mode due.address q change → MayLog (here_of e out) (row_of e (rows.Applied req change) ∷ []) Anything
    by_log from =
        load_may (here_of e out) e.event e.actor req nav due.mode due.address from.0 change (led_here e out work.own) from.2

module _ (e : InEvent) (out : List RowKind) (t : Tables) (nav : NavId) (load : Load) (over : EntryId) (nr : ℕ) (work : IsAtWork e out t) (free : NoStepChecks e.checking (log_of e [])) where
  abbrev entry : EntryId
  entry = record { maker = 0; nr = nr }

  -- a replace or a push
  abbrev change_by : Bool → Change
  change_by replace = if replace then changes.Replace load.nav over entry load.state load.address None else changes.Push load.nav entry load.state load.address None

  abbrev then_by : Bool → Seen
  then_by replace = after (now_of e out) (row_of e (rows.Applied load.req (change_by replace)))

  -- ---- what the row makes of what the tables tell

  states_same : (b : Bool) → (then_by b).states ≡ (now_of e out).states
  states_same true = refl
  states_same false = refl

  entries_more : (b : Bool) → (then_by b).entries ≡ (now_of e out).entries + 1
  entries_more true = refl
  entries_more false = refl

  initial_same : (b : Bool) → (then_by b).initial_states ≡ (now_of e out).initial_states
  initial_same true = refl
  initial_same false = refl

  sights_are : sight_in (map sight (now_of e out).documents) (record { 0 = 0 }) ≡ None → (b : Bool) → map sight (then_by b).documents ≡ map sight (now_of e out).documents
  sights_are none true =
      sights_same (λ (d : Document). applied_to (change_by true) (told_after_change d (change_by true))) (replaced_documents load.nav over entry load.state load.address None) (now_of e out).documents
  sights_are none false =
      pushed_documents load.nav entry load.state load.address None (now_of e out).documents ∙ sights_none (record { 0 = 0 }) untold_sight (map sight (now_of e out).documents) none

  -- nothing was made of the load, so its navigable is given nothing yet
  places_are : (q : Asked) → request_of (now_of e out) load.req ≡ Some q → q.made ≡ None → (b : Bool) → (then_by b).places ≡ with_taker (now_of e out).history (applied (now_of e out).history (change_by b)) load.req (now_of e out).places
  places_are q there unmade = by_change
    where
      given : places_given (now_of e out) load.req load.nav entry ≡ (now_of e out).places
      given = rw there (rw unmade refl)

      by_change : (b : Bool) → (then_by b).places ≡ with_taker (now_of e out).history (applied (now_of e out).history (change_by b)) load.req (now_of e out).places
      by_change true = ap (λ (l : List Place). with_taker (now_of e out).history (applied (now_of e out).history (change_by true)) load.req l) given
      by_change false = ap (λ (l : List Place). with_taker (now_of e out).history (applied (now_of e out).history (change_by false)) load.req l) given

  -- ---- the tables then

  module _ (b : Bool) (due : IsApplyDue e out load.req nav (change_by b)) (sees : SeesRows (now_of e out) (change_by b)) (no_maker : sight_in (map sight (now_of e out).documents) (record { 0 = 0 }) ≡ None) (apart : is_this t.running load.req ≡ false) (store : StepIndex) (history : SameHistory (history_held store) (applied (now_of e out).history (change_by b))) where
    -- those that lose their last entries
    abbrev lost : List NavId
    lost = lost_of (now_of e out).history.rows (applied (now_of e out).history (change_by b)).rows (made_in t.tree)

    -- the places, before those are noted
    abbrev bare_look : Look
    bare_look = record (look_of (then_by b) t.running) { places = (now_of e out).places }

    abbrev with_entry : Tables
    with_entry = record t { store = store; entries = t.entries + 1 }

    abbrev with_lost : Tables
    with_lost = record with_entry { tree = destroy_all lost load.req t.tree }

    entry_changes : Changes t with_entry
    entry_changes = record { making = refl; whose = refl; shown = refl; last = refl; documents = refl; sent = refl; loads = refl; kept = refl; checks = refl; asking = refl }

    lost_changes : Changes with_entry with_lost
    lost_changes = record { making = refl; whose = refl; shown = refl; last = refl; documents = refl; sent = refl; loads = refl; kept = refl; checks = refl; asking = refl }

    bare_holds : Holds bare_look with_entry
    bare_holds =
        history_holds (look_of (now_of e out) t.running) bare_look t with_entry (sights_are no_maker b) refl (moved_same (now_of e out).requests (then_by b).requests t.running (applied_moved (now_of e out) e.event e.actor load.req (change_by b))) refl (work.holds.states ∙ sym (states_same b)) (ap (λ (n : ℕ). n + 1) work.holds.entries ∙ sym (entries_more b)) refl entry_changes history work.holds

    lost_holds : Holds (look_of (then_by b) t.running) with_lost
    lost_holds =
        subst (λ (l : List Place). Holds (record (look_of (then_by b) t.running) { places = l }) with_lost) (sym (places_are due.asked due.due.at due.due.unmade b)) (taken_holds bare_look with_entry with_lost (now_of e out).history (applied (now_of e out).history (change_by b)) load.req lost bare_holds (lost_seen (now_of e out) (change_by b) t.running t work.holds sees) refl lost_changes refl refl refl)

    apply_step : IsStep None None e out (rows.Applied load.req (change_by b))
    apply_step =
        step_plain e out (rows.Applied load.req (change_by b)) (λ r. refl) (ends_other e out (rows.Applied load.req (change_by b)) load.req (refl, λ s. refl) due.unheld due.unparked) may
      where
        may : MayLog (here_of e out) (row_of e (rows.Applied load.req (change_by b)) ∷ []) Anything
        may = apply_may e out load.req nav (change_by b) work free due

    -- the load is ongoing, and isn't in its check
    from : (q : Asked) × (due.asked ≡ without_asks q) × IsLoadToApply (log_of e out) load.req nav due.mode due.address q (change_by b)
    from = apply_log e out load.req nav (change_by b) work free due

    going : is_ongoing_load from.0 ≡ true
    going = rw (from.2.started, from.2.open_, from.2.what) refl

    off : e.checking load.req ≡ false
    off =
        under_way_read e.checking (log_of e out) load.req due.asked (work.checks.numbered load.req) (subst (λ (s : Seen). request_of s load.req ≡ Some due.asked) (now_is e out) due.due.at) (rw (due.due.started, due.due.open_) refl)

    -- it adds no frame
    adds_none : (c : Bool) → AddsUnspent (log_of e out) load.req (change_by c)
    adds_none true = tt
    adds_none false = tt

    pub applied_work : ongoing_load nav t.loads ≡ Some load → (next : List Load) → next ≡ cancelled nav t.loads → KeepsOthers nav t.loads next → IsAtWork e (out ++ rows.Applied load.req (change_by b) ∷ []) (record with_lost { loads = next })
    applied_work at next loads others =
        work_more e out (rows.Applied load.req (change_by b)) None t (record with_lost { loads = next }) work (applied_goes e out load.req (change_by b) (work.checks.numbered load.req) off) tt off (brings_load e.checking (log_of e out) work.checks.states load.req from.0 nav due.address (change_by b) from.2.at off going from.2.due, adds_none b)
        (record {
          navs = lost_holds.navs;
          documents = lost_holds.documents;
          whose = lost_holds.whose;
          shown = lost_holds.shown;
          last = lost_holds.last;
          history = lost_holds.history;
          numbered = lost_holds.numbered;
          states = lost_holds.states;
          entries = lost_holds.entries;
          sent = lost_holds.sent;
        })
        (runs_applied_apart (now_of e out) e.event e.actor t.running load.req (change_by b) apart work.runs)
        (goal_on (now_of e out).requests (then_by b).requests t t (applied_reads goal_read (now_of e out) e.event e.actor load.req (change_by b) (λ q x. refl) (λ q x. refl) (λ q x. refl)) refl refl work.goal)
        (few_kept (now_of e out).documents _ (now_of e out).jobs (length-map (now_of e out).documents _) work.few)
        (subst (λ (l : List StateId). AreInitial l t.initial.entries) (sym (initial_same b)) work.initial)
        (load_ends (now_of e out) (then_by b) load.req (applied_ended (now_of e out) e.event e.actor load.req (change_by b)) t.loads work.loads nav load at refl next (ap (λ (l : List Load). ongoing_load nav l) loads ∙ cancelled_none nav t.loads) others)
        (kept_applied e out t t load.req (change_by b) work refl)
        (off, open_undropped (log_of e out) load.req from.0 from.2.at from.2.open_)
        apply_step
        refl
        refl
        (inl refl)
      where
        few_kept : (documents next_ : List Document) (jobs : ℕ) → length next_ ≡ length documents → length documents ≤ jobs + 1 → length next_ ≤ jobs + 1
        few_kept documents next_ jobs same few = omega (arith, same, few)

-- so it is of the tables after the change's door
pub applied_done : (e : InEvent) (out : List RowKind) (t mid : Tables) (nav : NavId) (load : Load) (over : EntryId) (change : Change) (gone : List NavId) (next : List Load) → IsAtWork e out t → NoStepChecks e.checking (log_of e []) → ongoing_load nav t.loads ≡ Some load → change ≡ change_for load over (record { maker = 0; nr = t.entries + 1 }) → IsApplyDue e out load.req nav change → SeesRows (now_of e out) change → sight_in (map sight (now_of e out).documents) (record { 0 = 0 }) ≡ None → is_this t.running load.req ≡ false → mid ≡ record t { store = mid.store } → SameHistory (history_held mid.store) (applied (now_of e out).history change) → gone ≡ lost_of (history_held t.store).rows (history_held mid.store).rows (made_in t.tree) → next ≡ cancelled nav mid.loads → KeepsOthers nav mid.loads next → IsAtWork e (out ++ rows.Applied load.req change ∷ []) (record mid { tree = destroy_all gone load.req mid.tree; entries = mid.entries + 1; loads = next })
applied_done e out t mid nav load over change gone next work free at change_is due sees no_maker apart rest history is loads others =
    subst (λ (x : Tables). IsAtWork e (out ++ rows.Applied load.req change ∷ []) (record mid { tree = destroy_all gone load.req x.tree; entries = x.entries + 1; loads = next })) (sym rest)
    (subst (λ (x : Tables). IsAtWork e (out ++ rows.Applied load.req change ∷ []) (record x { tree = destroy_all gone load.req t.tree; entries = t.entries + 1; loads = next })) (sym rest)
    (subst (λ (l : List NavId). IsAtWork e (out ++ rows.Applied load.req change ∷ []) (record t { store = mid.store; tree = destroy_all l load.req t.tree; entries = t.entries + 1; loads = next })) (sym (lost_by e out t mid change gone work history is))
    (subst (λ (c : Change). IsApplyDue e out load.req nav c → SeesRows (now_of e out) c → SameHistory (history_held mid.store) (applied (now_of e out).history c) → IsAtWork e (out ++ rows.Applied load.req c ∷ []) (record t { store = mid.store; tree = destroy_all (lost_of (now_of e out).history.rows (applied (now_of e out).history c).rows (made_in t.tree)) load.req t.tree; entries = t.entries + 1; loads = next })) (sym change_is)
    (λ d v h. applied_work e out t nav load over (t.entries + 1) work free load.replace d v no_maker apart mid.store h at next (loads ∙ ap (λ (x : Tables). cancelled nav x.loads) rest) (subst (λ (x : Tables). KeepsOthers nav x.loads next) rest others))
    due sees history)))

-- so it is of what the call reads: the load in the table is that load, and the change is that of it
pub applied_here : (e : InEvent) (out new : List RowKind) (t mid : Tables) (nav : NavId) (load own : Load) (over : EntryId) (change made : Change) (gone : List NavId) (next : List Load) → IsAtWork e out t → NoStepChecks e.checking (log_of e []) → ongoing_load nav t.loads ≡ Some load → change ≡ change_for load over (record { maker = 0; nr = t.entries + 1 }) → IsApplyDue e out load.req nav change → SeesRows (now_of e out) change → sight_in (map sight (now_of e out).documents) (record { 0 = 0 }) ≡ None → is_this t.running load.req ≡ false → ongoing_load nav t.loads ≡ Some own → made ≡ change_for own over (record { maker = 0; nr = t.entries + 1 }) → new ≡ out ++ rows.Applied own.req made ∷ [] → mid ≡ record t { store = mid.store } → SameHistory (history_held mid.store) (applied (now_of e out).history made) → gone ≡ lost_of (history_held t.store).rows (history_held mid.store).rows (made_in t.tree) → next ≡ cancelled nav mid.loads → KeepsOthers nav mid.loads next → IsAtWork e new (record mid { tree = destroy_all gone own.req mid.tree; entries = mid.entries + 1; loads = next })
applied_here e out new t mid nav load own over change made gone next work free at change_is due sees no_maker apart own_at made_is new_is rest history is loads others =
    let both : Some load ≡ Some own = sym at ∙ own_at in
    let same : load ≡ own = cc in
    let same_change : change ≡ made = change_is ∙ ap (λ (l : Load). change_for l over (record { maker = 0; nr = t.entries + 1 })) same ∙ sym made_is in
    next_work e new (out ++ rows.Applied own.req made ∷ []) (record mid { tree = destroy_all gone own.req mid.tree; entries = mid.entries + 1; loads = next }) new_is
    (applied_done e out t mid nav own over made gone next work free own_at made_is (subst (λ (l : Load). IsApplyDue e out l.req nav made) same (subst (λ (c : Change). IsApplyDue e out load.req nav c) same_change due)) (subst (λ (c : Change). SeesRows (now_of e out) c) same_change sees) no_maker (subst (λ (l : Load). is_this t.running l.req ≡ false) same apart) rest history is loads others)
