-- A document may be made for a navigable's target that has none and for which none is being made, and all goes on then.
use Rattle.tab_passes.proofs.LeftFor.{made_off}
use Rattle.tab_passes.specs.Leaving.{KeepsOff}
use Rattle.tab_passes.proofs.PassedOn.{IsMakeOf, lives_first, make_tab, making_lasting, sent_duly}
use Rattle.tab_doors.proofs.PassedOn.{sent_goes, sent_now}
use Rattle.apply_plan.specs.declared.need.Need.TheVariants as needs
use Rattle.seen_facts.proofs.Coord.Kept.{IsSentHome}
use Rattle.seen_facts.proofs.Coord.Unread.{next}
use Rattle.seen_facts.proofs.Each.Runs.{at_place}
use Rattle.row_facts.specs.FrameRows.Making.{IsMakeDue}
use Rattle.seen_facts.proofs.Hang.Members.{find_has, has_any, into_map}
use Rattle.seen_facts.proofs.Hang.Parts.{state_is}
use Rattle.seen_facts.proofs.Hang.Targets.{IsTarget, target_has}
use Rattle.seen_facts.specs.Hang.Members.{Has}
use Rattle.seen_facts.specs.Load.Loading.{AreLoading, look}
use Rattle.log_model.proofs.Refl.{nat_eq_refl}
use Rattle.log_model.specs.Checks.{may_go_on}
use Rattle.log_model.specs.History.{row_of, target_entry}
use Rattle.log_model.specs.Orders.{needs_document, ongoing_load}
use Rattle.log_model.specs.Equal.{holds}
use Rattle.log_model.specs.Places.{aim_of, all_stand, is_ongoing_load, is_shown}
use Rattle.log_model.specs.Seen.{Asked, Document, Seen, desk_of, document_of, request_of}
use Rattle.log_model.specs.declared.header.Header.{Header}
use Rattle.log_model.specs.declared.job.Job.{Job}
use Rattle.log_model.specs.declared.job.Why.{Why}
use Rattle.log_model.specs.declared.row.Row.{Row}
use Rattle.log_model.specs.declared.row_kind.RowKind.{RowKind}
use Rattle.nav_tree.specs.Tree.{document_of as document_in_tree, is_state}
use Rattle.nav_tree.specs.declared.place.Place as live_place
use Rattle.row_facts.proofs.Owed.Ends.{owed_more}
use Rattle.row_facts.proofs.Owed.Rows.{reckoned_now, sent_stays}
use Rattle.row_facts.specs.Owed.Owed.{IsOwed}
use Rattle.seen_facts.proofs.Rest.Stands.{get_of}
use Rattle.row_facts.proofs.RestRows.Orders.{making_rests}
use Rattle.row_facts.specs.RestRows.Moving.{AllRest}
use Rattle.seen_laws.proofs.Keyed.{find_has as seen_number}
use Rattle.seen_laws.specs.InEvent.{now_of}
use Rattle.std.proofs.Common.{Bool, List, None, Option, Some, [], ap, arith, cond, false, inl, inr, length, map, not, refl, subst, sym, true, ℕ, ◌&&◌, ◌++◌, ◌+◌, ◌==◌, ◌||◌, ◌∙◌, ◌∷◌, ◌≡◌, ◌≤◌}
use Rattle.std.proofs.lemmas.Bool.Decides.{nat_tests}
use Rattle.std.proofs.lemmas.List.{length-map}
use Rattle.std.specs.List.{list_all, list_any}
use Rattle.std.specs.Map.{lookup}
use Rattle.std.specs.Prelude.{filter, if◌then◌else◌, is_some, option_map}
use Rattle.step_index.specs.Held.{history_held}
use Rattle.tab_doors.proofs.Sights.{IsSeen, seen_of, sight_found}
use Rattle.tab_doors.specs.Look.{Sight, is_live_for, is_made_for, sight, sight_in}
use Rattle.tab_doors.specs.Orders.{next_order}
use Rattle.tab_doors.specs.Ties.{IsListed, IsOneSuch}
use Rattle.tab_doors.specs.Working.{IsAtWork, KeepsStore}
use Rattle.tab_doors.specs.declared.tables.Tables.{Tables}
use Rattle.tab_passes.proofs.Leavings.{sent_going}
pub use Rattle.tab_passes.specs.Leaving.{IsGoing}
use Rattle.tab_ids.specs.declared.DocId.{DocId}
use Rattle.tab_ids.specs.declared.EntryId.{EntryId}
use Rattle.tab_ids.specs.declared.NavId.{NavId}
use Rattle.tab_ids.specs.declared.ProcId.{ProcId}
use Rattle.tab_ids.specs.declared.ReqId.{ReqId}
use Rattle.tab_ids.specs.declared.StateId.{StateId}
use Rattle.tab_moves.proofs.Procs.{home_is, home_some}
use Rattle.tab_moves.proofs.Needing.{IsNeeding, NeedsIt, needs_it}
use Rattle.tab_moves.specs.Making.{HasMade, home_in, is_new_by, make_why}
use Rattle.tab_moves.specs.Showing.{IsTurn, need_in}
use Rattle.tab_passes.proofs.Goings.{goes_on, is_passed_for}
pub use Rattle.tab_passes.proofs.Goings.{show_causes}
use Rattle.tab_doors.specs.Orders.{IsForOther}
use Rattle.tab_passes.proofs.Others.{cause_off}
use Rattle.tab_passes.proofs.Serveds.{served_causes}
use Rattle.tab_passes.specs.Causes.{MayCause}
use Rattle.tab_passes.specs.Passing.{InPass, IsPassing}
use Rattle.seen_facts.proofs.Walk.Placed.{found_nav}
use Rattle.seen_facts.proofs.Walk.Turns.{make_leaves, make_serves}
use Rattle.seen_facts.specs.Walk.Serving.{IsMaking}
use Rattle.row_facts.proofs.WalkRows.Leaves.{leaves_none}
use Rattle.row_facts.proofs.WalkRows.Needs.{need_not_all_stand}
use Rattle.row_facts.specs.WalkRows.Since.{IsVisitedInNeed}
use Rattle.log_model.specs.declared.job.Task.TheVariants as tasks
use Rattle.log_model.specs.declared.row_kind.RowKind.TheVariants as rows

all_filter : {A : Type 0} (test fine : A → Bool) (l : List A) → ((x : A) → Has l x → test x ≡ true → fine x ≡ true) → list_all fine (filter test l) ≡ true
all_filter test fine [] each = refl
all_filter test fine (x ∷ l) each = by_test (test x) refl (all_filter test fine l (λ y there. each y (inr there)))
  where
    by_test : (b : Bool) → test x ≡ b → list_all fine (filter test l) ≡ true → list_all fine (cond b (x ∷ filter test l) (filter test l)) ≡ true
    by_test true is more = rw (each x (inl refl) is) more
    by_test false is more = more

-- none of the list passes
none_has : {A : Type 0} (test : A → Bool) (l : List A) (x : A) → list_any test l ≡ false → Has l x → test x ≡ false
none_has test l x none there = by_test (test x) refl
  where
    by_test : (b : Bool) → test x ≡ b → test x ≡ false
    by_test true is = (let never : true ≡ false = sym (has_any test l x there is) ∙ none in absurd cc)
    by_test false is = is

-- settings that are the same give the same process
pub home_at : (one other : Header) (t : Tables) (nav : NavId) (address : List ℕ) (proc : ProcId) → one ≡ other → home_in one t nav address ≡ Some proc → home_in other t nav address ≡ Some proc
home_at one other t nav address proc same is = ap (λ (h : Header). home_in h t nav address) (sym same) ∙ is

-- an entry's document state is no ongoing load's
no_load : (s : Seen) (row : Row) → AreLoading s → Has s.history.rows row → ongoing_load s row.state ≡ None
no_load s row loading has = by_found (ongoing_load s row.state) refl
  where
    test : Asked → Bool
    test q = is_ongoing_load q && holds (λ (own : StateId). own.0 == row.state.0) q.state

    parts : (a b : Bool) → (a && b) ≡ true → (a ≡ true) × (b ≡ true)
    parts true true e = (refl, refl)
    parts true false e = cc
    parts false b e = cc

    never : (q : Asked) → Has s.requests q → test q ≡ true → ⊥
    never q there passes =
        let at = get_of s.requests q there in
        let two = parts (is_ongoing_load q) (holds (λ (own : StateId). own.0 == row.state.0) q.state) passes in
        let is = loading.each (record { 0 = at.0 + 1 }) (look q) (ap (λ (o : Option Asked). option_map look o) (at_place s.requests at.0 ∙ at.1)) two.0 in
        let own : (is.state.0 == row.state.0) ≡ true = sym (ap (λ (o : Option StateId). holds (λ (x : StateId). x.0 == row.state.0) o) is.state_is) ∙ two.1 in
        is.unheld row has (grind (arith, nat_tests, own))

    by_found : (o : Option Asked) → ongoing_load s row.state ≡ o → ongoing_load s row.state ≡ None
    by_found None is = is
    by_found (Some q) is = let its = find_has test s.requests q is in absurd (never q its.0 its.1)

module _ (p : InPass) (out : List RowKind) (t : Tables) (pass : IsPassing p out t) (nav : NavId) (entry : EntryId) where
  abbrev s : Seen
  s = now_of p.event out

  -- a document is to be made for its target
  pub record IsMakingDue : Type 0 where
    pub needing : IsNeeding p out t pass nav
    pub entry_is : needing.target.entry ≡ entry
    pub bare : document_in_tree needing.target.state t.tree ≡ None

  pub making_due : need_in t nav ≡ Some (needs.Populate nav entry) → IsMakingDue
  making_due is = by_place (document_in_tree its.needing.target.state t.tree) refl its.is
    where
      its : NeedsIt p out t pass nav (needs.Populate nav entry)
      its = needs_it p out t pass nav (needs.Populate nav entry) is

      by_place : (o : Option live_place.Place) → document_in_tree its.needing.target.state t.tree ≡ o → needs.Populate nav entry ≡ (if is_some o then needs.Move nav its.needing.target.entry else needs.Populate nav its.needing.target.entry) → IsMakingDue
      by_place None bare h = record { needing = its.needing; entry_is = (let r : entry ≡ its.needing.target.entry = cc in sym r); bare = bare }
      by_place (Some q) bare h = absurd cc

  module _ (due : IsMakingDue) where
    abbrev target : Row
    target = due.needing.target

    its_target : IsTarget s.history.rows nav (aim_of s) target
    its_target = target_has s.history.rows nav (aim_of s) target due.needing.at

    -- the entry's row is its target
    pub row_found : row_of entry (history_held t.store).rows ≡ Some target
    row_found = ap (λ (x : EntryId). row_of x (history_held t.store).rows) (sym due.entry_is) ∙ due.needing.row_is

    pub row_there : is_some (row_of entry (history_held t.store).rows) ≡ true
    row_there = ap (λ (o : Option Row). is_some o) row_found

    row_same : (row : Row) → row_of entry (history_held t.store).rows ≡ Some row → row ≡ target
    row_same row there = let both : Some row ≡ Some target = sym there ∙ row_found in cc

    pub home_there : (row : Row) → row_of entry (history_held t.store).rows ≡ Some row → (address : List ℕ) → address ≡ row.address → is_some (home_in p.event.header t nav address) ≡ true
    home_there row there address is = home_some p out t pass nav due.needing.place due.needing.placed due.needing.reached p.event.header address

    -- ---- one is being made

    visited : IsVisitedInNeed s due.needing.place
    visited = record { shown = ap (λ (n : NavId). is_shown s.history.rows (aim_of s) n) due.needing.nav_is ∙ due.needing.shown; reached = due.needing.reached; needs = due.needing.needs }

    making : (doc : DocId) → lookup (is_state target.state) t.making.entries ≡ Some doc → IsMaking s.documents target.state
    making doc is =
        record {
          document = seen.document;
          there = (find_has (λ (d : Document). d.nr.0 == doc.0) s.documents seen.document seen.found).0;
          state_is = parts.0;
          made = parts.1;
        }
      where
        one : IsOneSuch (is_made_for target.state) (map sight s.documents) doc
        one = subst (λ (o : Option DocId). IsListed (is_made_for target.state) (map sight s.documents) o) is (pass.work.holds.documents.made target.state)

        seen : IsSeen s doc one.document
        seen = seen_of s doc one.document one.found

        by_parts : (a b c : Bool) → (seen.document.state.0 == target.state.0) ≡ a → (a && not b && not c) ≡ true → (seen.document.state ≡ target.state) × ((not b && not c) ≡ true)
        by_parts true false false at h = (state_is seen.document.state target.state at, refl)
        by_parts true true c at h = absurd cc
        by_parts true false true at h = absurd cc
        by_parts false b c at h = absurd cc

        parts : (seen.document.state ≡ target.state) × ((not seen.document.is_ready && not seen.document.is_known_dead) ≡ true)
        parts =
            by_parts (seen.document.state.0 == target.state.0) seen.document.is_ready seen.document.is_known_dead refl (ap (λ (x : Sight). is_made_for target.state x) seen.is ∙ one.passes)

    pub still_turn : (row : Row) → row_of entry (history_held t.store).rows ≡ Some row → (doc : DocId) → lookup (is_state row.state) t.making.entries ≡ Some doc → IsTurn s s nav
    still_turn row there doc is =
        record {
          own = record {
            serve = λ q placed shown reached needs_ r at.
                let navs : q.nav ≡ nav = found_nav s.places nav q placed in
                let both : Some r ≡ Some target = sym at ∙ ap (λ (n : NavId). target_entry s.history.rows n (aim_of s)) navs ∙ due.needing.at in
                let one : r ≡ target = cc in
                subst (λ (x : StateId). IsMaking s.documents x) (ap (λ (z : Row). z.state) (sym one)) (making doc (subst (λ (z : Row). lookup (is_state z.state) t.making.entries ≡ Some doc) (row_same row there) is));
          };
          others = leaves_none s nav;
          parked = refl;
          causes = λ why may. may;
        }

    -- ---- one is made

    module _ (unmade : lookup (is_state target.state) t.making.entries ≡ None) where
      none_live : list_any (is_live_for target.state) (map sight s.documents) ≡ false
      none_live = subst (λ (o : Option live_place.Place). IsListed (is_live_for target.state) (map sight s.documents) (option_map (λ (q : live_place.Place). q.doc) o)) due.bare (pass.work.holds.documents.live target.state)

      none_made : list_any (is_made_for target.state) (map sight s.documents) ≡ false
      none_made = subst (λ (o : Option DocId). IsListed (is_made_for target.state) (map sight s.documents) o) unmade (pass.work.holds.documents.made target.state)

      not_live : (d : Document) → Has s.documents d → is_live_for target.state (sight d) ≡ false
      not_live d there = none_has (is_live_for target.state) (map sight s.documents) (sight d) none_live (into_map sight s.documents d there)

      not_made : (d : Document) → Has s.documents d → is_made_for target.state (sight d) ≡ false
      not_made d there = none_has (is_made_for target.state) (map sight s.documents) (sight d) none_made (into_map sight s.documents d there)

      needs_one : needs_document s nav target.state ≡ true
      needs_one = all_filter (λ (d : Document). d.state.0 == target.state.0) _ s.documents (λ d there is. by_tests (d.state.0 == target.state.0) d.is_ready d.is_discarded d.is_known_dead _ is (not_made d there) (not_live d there))
        where
          by_tests : (m r gone dead again : Bool) → m ≡ true → (m && not r && not dead) ≡ false → (m && r && not gone && not dead) ≡ false → (not (not r && not dead) && (gone || dead || again)) ≡ true
          by_tests true true true dead again is a b = refl
          by_tests true true false true again is a b = refl
          by_tests true true false false again is a b = absurd cc
          by_tests true false true true again is a b = refl
          by_tests true false false true again is a b = refl
          by_tests true false true false again is a b = absurd cc
          by_tests true false false false again is a b = absurd cc
          by_tests false r gone dead again is a b = absurd cc

      -- each document of the state is discarded
      each_gone : (doc : DocId) (d : Document) → document_of s doc ≡ Some d → d.state ≡ target.state → d.is_discarded ≡ true
      each_gone doc d found is =
          let there : Has s.documents d = (find_has (λ (x : Document). x.nr.0 == doc.0) s.documents d found).0 in
          let same : (d.state.0 == target.state.0) ≡ true = ap (λ (x : StateId). x.0 == target.state.0) is ∙ nat_eq_refl target.state.0 in
          by_tests (d.state.0 == target.state.0) d.is_ready d.is_discarded d.is_known_dead same (pass.going.tab.docs.each doc d found).live.unknown (not_made d there) (not_live d there)
        where
          by_tests : (m r gone dead : Bool) → m ≡ true → dead ≡ false → (m && not r && not dead) ≡ false → (m && r && not gone && not dead) ≡ false → gone ≡ true
          by_tests m r true dead is lives a b = refl
          by_tests true true false false is lives a b = absurd cc
          by_tests true false false false is lives a b = absurd cc
          by_tests m r false true is lives a b = absurd cc
          by_tests false r false false is lives a b = absurd cc

      next_number : t.documents ≡ length s.documents
      next_number = pass.work.holds.numbered ∙ length-map s.documents sight

      abbrev new_doc : DocId
      new_doc = record { 0 = t.documents + 1 }

      none_there : (d : Document) → document_of s new_doc ≡ Some d → ⊥
      none_there d is =
          let low : d.nr.0 ≤ length s.documents = (pass.going.tab.entries.counted new_doc d is).number in
          let number : d.nr.0 ≡ t.documents + 1 = seen_number (λ (x : Document). x.nr.0) new_doc.0 s.documents d is in
          let count = next_number in
          omega (arith, low, number, count)

      absent : document_of s new_doc ≡ None
      absent = by_found (document_of s new_doc) refl
        where
          by_found : (o : Option Document) → document_of s new_doc ≡ o → document_of s new_doc ≡ None
          by_found None is = is
          by_found (Some d) is = absurd (none_there d is)

      unknown : sight_in (map sight s.documents) new_doc ≡ None
      unknown = sight_found s.documents new_doc ∙ ap (option_map sight) absent

      -- an entry's document state is no ongoing load's
      unloaded : ongoing_load s target.state ≡ None
      unloaded = no_load s target pass.going.tab.loading its_target.there

      module _ (cause : Why) (may : MayCause s cause) (new : Bool) (initial : Bool) (initial_is : initial ≡ is_some (lookup (is_state target.state) t.initial.entries)) (proc : ProcId) (home : home_in p.event.header t nav target.address ≡ Some proc) where
        abbrev why : Why
        why = make_why new t.running cause

        abbrev job : Job
        job = next_order s.jobs proc new_doc why (tasks.Populate nav target.state target.address initial)

        abbrev then_out : List RowKind
        then_out = out ++ rows.Sent job ∷ []

        abbrev then_ : Seen
        then_ = next s p.event.event p.event.actor (rows.Sent job)

        causes : (b : Bool) → MayCause s (make_why b t.running cause)
        causes true = may
        causes false = show_causes s t.running pass.going.tab.asked cause may

        due_ : IsMakeDue p.event.header s job nav target.state target.address initial
        due_ =
            record {
              task = refl;
              next = ap (λ (n : ℕ). n + 1) next_number;
              target = target;
              at = due.needing.at;
              state_is = refl;
              address_is = refl;
              shown = due.needing.shown;
              initial_is = sym (initial_is ∙ pass.work.initial target.state);
              needs = needs_one;
              home = home_is p out t pass nav due.needing.place due.needing.placed due.needing.reached p.event.header target.address proc home;
              passed = is_passed_for s t.running pass.going.tab.asked job.task job.why (causes new);
            }

        make_of : IsMakeOf s job target.state
        make_of = record { next_ = ap (λ (n : ℕ). n + 1) next_number; first = refl; alone = each_gone }

        going_then : IsGoing t.running p.loads p.hand then_
        going_then =
            sent_going t.running p.loads p.hand s p.event.event p.event.actor pass.going job p.loads p.hand
            (make_tab t.running p.loads p.hand s p.event.event p.event.actor pass.going.tab job nav target target.address initial its_target.there its_target.nav_is refl make_of)
            (making_lasting s p.event.event p.event.actor pass.going.lasting job nav target.state target.address initial refl absent) tt

        owed_then : IsOwed p.event then_out
        owed_then =
            owed_more p.event out (rows.Sent job) (sent_goes p.event out job refl).read pass.owed (sent_stays s p.event.event p.event.actor job pass.going.tab.asked.passed (reckoned_now p.event out) refl) (λ end stays. refl)

        now_is : then_ ≡ now_of p.event then_out
        now_is = sym (sent_now p.event out job refl)

        -- not all stood, and nobody has moved
        late : all_stand then_ (aim_of then_) ≡ false
        late =
            ap (λ (step : ℕ). all_stand s step) (make_leaves s p.event.event p.event.actor job nav target.state target.address initial refl).aim
            ∙ need_not_all_stand s nav due.needing.place due.needing.placed visited

        module _ (u : Tables) (keeps : KeepsStore t u) (work : IsAtWork p.event then_out u) where
          going_now : IsGoing u.running p.loads p.hand (now_of p.event then_out)
          going_now = subst (λ (x : Seen). IsGoing u.running p.loads p.hand x) now_is (subst (λ (r : Option ReqId). IsGoing r p.loads p.hand then_) (sym keeps.running) going_then)

          passing_then : IsPassing p then_out u
          passing_then =
              record {
                work = work;
                going = going_now;
                owed = owed_then;
                loose = λ all. let never : false ≡ true = sym (subst (λ (x : Seen). all_stand x (aim_of x) ≡ false) now_is late) ∙ all in absurd cc;
                rests = subst (λ (x : Seen). AllRest x) now_is (making_rests s p.event.event p.event.actor [] pass.rests job sent nav target.state target.address initial refl none_there);
                duly = sent_duly p.event out job then_out refl absent pass.duly;
                few = subst (λ (n : ℕ). length (now_of p.event then_out).kept ≤ n) (sym keeps.keep) (subst (λ (x : Seen). length x.kept ≤ t.kept.keep) now_is pass.few);
              }
            where
              sent : IsSentHome s job
              sent = record { home = λ d found. absurd (none_there d found); lives = lives_first t.running p.loads p.hand s pass.going.tab job refl }

          off_then : KeepsOff p.event out then_out
          off_then = made_off p.event out pass.duly job nav target.state target.address initial refl absent then_out refl

          turn_then : IsTurn s (now_of p.event then_out) nav
          turn_then =
              subst (λ (x : Seen). IsTurn s x nav) now_is (record {
                own = make_serves s p.event.event p.event.actor job nav target.state target.address initial refl target due.needing.at refl;
                others = make_leaves s p.event.event p.event.actor job nav target.state target.address initial refl;
                parked = refl;
                causes = λ x may_. served_causes s p.event job x (subst (λ (y : Seen). (req : ReqId) (q : Asked) → request_of y req ≡ Some q → may_go_on y req ≡ true) (sym now_is) (goes_on (now_of p.event then_out) u.running going_now.tab.asked)) may_;
              })

  -- ---- in the words of the call

  -- one may be made, and then is
  pub record IsReadyToMake (state : StateId) (address : List ℕ) (initial : Bool) (proc : ProcId) (x : Why) : Type 0 where
    pub due : IsMakeDue p.event.header s (next_order s.jobs proc (record { 0 = t.documents + 1 }) x (tasks.Populate nav state address initial)) nav state address initial
    pub known : (desk_of s proc).known ≡ 0
    pub unknown : sight_in (map sight s.documents) (record { 0 = t.documents + 1 }) ≡ None
    pub unloaded : ongoing_load s state ≡ None
    pub other : IsForOther p.event.checking x
    pub done : (u : Tables) (new : List RowKind) → KeepsStore t u → new ≡ out ++ rows.Sent (next_order s.jobs proc (record { 0 = t.documents + 1 }) x (tasks.Populate nav state address initial)) ∷ [] → IsAtWork p.event new u → IsPassing p new u × IsTurn s (now_of p.event new) nav × KeepsOff p.event out new

  pub ready_to_make : (due : IsMakingDue) (cause : Why) → MayCause s cause → (row : Row) → row_of entry (history_held t.store).rows ≡ Some row → lookup (is_state row.state) t.making.entries ≡ None → (address : List ℕ) → address ≡ row.address → (new : Bool) (x : Why) → x ≡ make_why new t.running cause → (initial : Bool) → initial ≡ is_some (lookup (is_state row.state) t.initial.entries) → (proc : ProcId) → home_in p.event.header t nav address ≡ Some proc → IsReadyToMake row.state address initial proc x
  ready_to_make due cause may row there unmade address address_is new x why_is initial initial_is proc home =
      subst (λ (z : Why). IsReadyToMake row.state address initial proc z) (sym why_is)
      (subst (λ (z : List ℕ). IsReadyToMake row.state z initial proc (make_why new t.running cause)) (sym (address_is ∙ ap (λ (r : Row). r.address) same))
      (subst (λ (z : StateId). IsReadyToMake z due.needing.target.address initial proc (make_why new t.running cause)) (sym (ap (λ (r : Row). r.state) same)) (record {
        due = due_ due unmade_ cause may new initial initial_ proc home_;
        known = (pass.going.tab.asked.died proc).0;
        unknown = unknown due unmade_;
        unloaded = unloaded due unmade_;
        other = cause_off p.event out t pass.work pass.going.tab.asked.each (make_why new t.running cause) (causes due unmade_ cause may new initial initial_ proc home_ new);
        done = λ u new_out keeps is work. subst (λ (l : List RowKind). IsPassing p l u × IsTurn s (now_of p.event l) nav × KeepsOff p.event out l) (sym is)
            (let work_ : IsAtWork p.event (then_out due unmade_ cause may new initial initial_ proc home_) u = subst (λ (l : List RowKind). IsAtWork p.event l u) is work in
            (passing_then due unmade_ cause may new initial initial_ proc home_ u keeps work_, turn_then due unmade_ cause may new initial initial_ proc home_ u keeps work_, off_then due unmade_ cause may new initial initial_ proc home_ u keeps work_));
      })))
    where
      same : row ≡ due.needing.target
      same = row_same due row there

      unmade_ : lookup (is_state due.needing.target.state) t.making.entries ≡ None
      unmade_ = subst (λ (r : Row). lookup (is_state r.state) t.making.entries ≡ None) same unmade

      initial_ : initial ≡ is_some (lookup (is_state due.needing.target.state) t.initial.entries)
      initial_ = subst (λ (r : Row). initial ≡ is_some (lookup (is_state r.state) t.initial.entries)) same initial_is

      home_ : home_in p.event.header t nav due.needing.target.address ≡ Some proc
      home_ = subst (λ (l : List ℕ). home_in p.event.header t nav l ≡ Some proc) (address_is ∙ ap (λ (r : Row). r.address) same) home

-- the one order that was put out
pub made_by : (header : Header) (t : Tables) (nav : NavId) (entry : EntryId) (cause : Why) (was out : List RowKind) (row : Row) → row_of entry (history_held t.store).rows ≡ Some row → (jobs : ℕ) (proc : ProcId) (doc : DocId) (why : Why) (address : List ℕ) (initial : Bool) → address ≡ row.address → why ≡ make_why (is_new_by t.tree nav cause) t.running cause → initial ≡ is_some (lookup (is_state row.state) t.initial.entries) → home_in header t nav address ≡ Some proc → out ≡ was ++ rows.Sent (next_order jobs proc doc why (tasks.Populate nav row.state address initial)) ∷ [] → HasMade header t nav entry cause was out
made_by header t nav entry cause was out row there jobs proc doc why address initial address_is why_is initial_is home is =
    inr (record {
      target = row;
      at = there;
      job = next_order jobs proc doc why (tasks.Populate nav row.state address initial);
      initial = initial;
      task = ap (λ (l : List ℕ). tasks.Populate nav row.state l initial) address_is;
      initial_is = initial_is;
      proc_is = ap (λ (l : List ℕ). home_in header t nav l) (sym address_is) ∙ home;
      why_is = why_is;
      is = is;
    })

-- or none
pub made_none : (header : Header) (t : Tables) (nav : NavId) (entry : EntryId) (cause : Why) (out : List RowKind) (row : Row) (doc : DocId) → row_of entry (history_held t.store).rows ≡ Some row → lookup (is_state row.state) t.making.entries ≡ Some doc → HasMade header t nav entry cause out out
made_none header t nav entry cause out row doc there making =
    inl (ap (λ (o : Option Row). holds (λ (r : Row). is_some (lookup (is_state r.state) t.making.entries)) o) there ∙ ap (λ (o : Option DocId). is_some o) making, refl)
