-- What is taken up, refused or dropped, and when a traversal begins or ends: read off the log as it would be had nobody been asked.
use Rattle.std.proofs.Common.{◌≡◌, Bool, true, false, cond, not, ◌&&◌, ◌||◌, ◌==◌, Option, Some, None, refl, sym, ap, ◌∙◌}
use Rattle.std.specs.Prelude.{option_map, option_and_then}
use Rattle.std.specs.List.{list_any}
use Rattle.std.proofs.lemmas.Bool.{and_parts}
use Rattle.tab_ids.specs.declared.EntryId.{EntryId}
use Rattle.tab_ids.specs.declared.NavId.{NavId}
use Rattle.tab_ids.specs.declared.ReqId.{ReqId}
use Rattle.tab_ids.specs.declared.StateId.{StateId}
use Rattle.log_model.specs.AfterRequests.{changes_history, is_in_place}
use Rattle.log_model.specs.Causes.{any_place, by_mover, changed_one_of, denial_at_delivery, has_moved_away, is_destroyed_by, is_outdated, is_passed_traversal}
use Rattle.log_model.specs.Checks.{is_checked}
use Rattle.log_model.specs.Equal.{holds, implies, same_why}
use Rattle.log_model.specs.History.{has_row, owner_of, same_entry}
use Rattle.log_model.specs.Once.{change_of_begun, change_of_made, change_of_report, due_change, has_to_begin, is_in_order, is_later_entry}
use Rattle.log_model.specs.Places.{has_passed, is_awake, is_load, is_present, is_shown, is_traversal, way_to}
use Rattle.log_model.specs.Points.{nav_of_request}
use Rattle.log_model.specs.Queue.{is_jump, is_load_step, is_taken_up_at_once}
use Rattle.log_model.specs.Seen.{Asked, Document, Place, Seen, document_of, place_of, request_of}
use Rattle.log_model.specs.declared.change.Change.{Change}
use Rattle.log_model.specs.declared.change.Change.TheVariants as changes
use Rattle.log_model.specs.declared.made.Made.{Made}
use Rattle.log_model.specs.declared.made.What.{What}
use Rattle.log_model.specs.declared.made.What.TheVariants as whats
use Rattle.log_model.specs.declared.outcome.Denial.TheVariants as denials
use Rattle.log_model.specs.declared.request.Request.{Request}
use Rattle.log_model.specs.declared.request.Request.TheVariants as requests
use Rattle.log_model.specs.declared.job.Why.TheVariants as whys
use Rattle.row_facts.specs.FrameRows.Taking.{IsDueNow, IsPoked}
use Rattle.row_facts.specs.LeaveRows.Fragments.{IsFragmentMade}
use Rattle.seen_laws.specs.Unasked.{unasked, unasked_request, unbegun, unhandled, without_asks}
use Rattle.unasked.proofs.Readings.{document_read}
use Rattle.unasked_dues.proofs.Base.{aim_same, free_same, held_same}
use Rattle.unasked_dues.proofs.Making.{every_same}
use Rattle.unasked_dues.specs.Checking.{AreChecking, AreNumbered, IsAimed, IsMoving, NoStepChecks}

-- ---- what a request is, in its check or not

module _ (checking : ReqId → Bool) where
  -- a part that doesn't change as a request begins or is asked for
  pub part_same : {B : Type 0} (read : Asked → B) → ((q : Asked) → read (without_asks q) ≡ read q) → ((q : Asked) → read (unbegun q) ≡ read q) → (q : Asked) → read (unasked_request checking q) ≡ read q
  part_same {B = B} read off on q =
      elim (checking q.nr) as (λ b. read (cond b (unbegun q) (without_asks q)) ≡ read q) [
        | true ↦ on q
        | false ↦ off q
      ]

  -- and so of one that is found
  pub part_of : {B : Type 0} (read : Asked → B) → ((q : Asked) → read (without_asks q) ≡ read q) → ((q : Asked) → read (unbegun q) ≡ read q) → (q bare : Asked) → bare ≡ unasked_request checking q → read bare ≡ read q
  part_of read off on q bare is = ap read is ∙ part_same read off on q

-- a test that holds still, where one of its parts does
weaken : (w a b c d : Bool) → (a ≡ true → b ≡ true) → (w && (a || c || d)) ≡ true → (w && (b || c || d)) ≡ true
weaken false a b c d more e = cc
weaken true true b c d more e = rw (more refl) refl
weaken true false true c d more e = refl
weaken true false false c d more e = e

-- ---- changes

module _ (checking : ReqId → Bool) (s : Seen) where
  -- the change of what a document made
  report_same : (q : Asked) → change_of_report (unasked checking s) (without_asks q) ≡ change_of_report s q
  report_same q = by_made q.made
    where
      by_what : (d : Document) (what : What) → change_of_made (unasked checking s) (unhandled d) what ≡ change_of_made s d what
      by_what d (whats.Push entry memo address) = refl
      by_what d (whats.Replace over entry memo address) = refl
      by_what d (whats.AddFrame nav) = refl
      by_what d (whats.RemoveFrame nav) = refl
      by_what d (whats.Go delta) = refl
      by_what d whats.Edit = refl

      by_found : (made : Made) (o : Option Document) → option_and_then (λ d. change_of_made (unasked checking s) d made.what) (option_map unhandled o) ≡ option_and_then (λ d. change_of_made s d made.what) o
      by_found made None = refl
      by_found made (Some d) = by_what d made.what

      by_made : (o : Option Made) → option_and_then (λ (made : Made). option_and_then (λ d. change_of_made (unasked checking s) d made.what) (document_of (unasked checking s) made.doc)) o ≡ option_and_then (λ (made : Made). option_and_then (λ d. change_of_made s d made.what) (document_of s made.doc)) o
      by_made None = refl
      by_made (Some made) =
          ap (λ (o : Option Document). option_and_then (λ d. change_of_made (unasked checking s) d made.what) o) (document_read checking s made.doc)
          ∙ by_found made (document_of s made.doc)

  -- the change of a request that isn't in its check
  pub change_same : IsAimed checking s → (q : Asked) → due_change (unasked checking s) (without_asks q) ≡ due_change s q
  change_same aimed q = by_start q.is_started
    where
      by_what : (what : Request) → change_of_begun (unasked checking s) (without_asks q) what ≡ change_of_begun s q what
      by_what (requests.Load nav mode address) = refl
      by_what (requests.Reload nav) = refl
      by_what (requests.Go delta) = ap (λ n. Some (changes.Traverse (record { 0 = n }))) (aim_same checking s aimed)
      by_what (requests.Poke nav action) = ap (λ n. Some (changes.Traverse (record { 0 = n }))) (aim_same checking s aimed)

      by_start : (b : Bool) → cond b (change_of_begun (unasked checking s) (without_asks q) q.what) (cond (has_to_begin q.what) None (change_of_report (unasked checking s) (without_asks q))) ≡ cond b (change_of_begun s q q.what) (cond (has_to_begin q.what) None (change_of_report s q))
      by_start true = by_what q.what
      by_start false = ap (λ o. cond (has_to_begin q.what) None o) (report_same q)

  later_same : (entry : EntryId) → is_later_entry (unasked checking s) entry ≡ is_later_entry s entry
  later_same entry = every_same unhandled _ s.documents (λ d. refl)

  -- the change is in order
  pub order_same : (change : Change) → is_in_order (unasked checking s) change ≡ is_in_order s change
  order_same (changes.Push nav entry state address memo) = later_same entry
  order_same (changes.Replace nav over entry state address memo) = later_same entry
  order_same (changes.AddFrame owner nav entry state) = refl
  order_same (changes.RemoveFrame nav) = refl
  order_same (changes.Traverse goal) = refl
  order_same (changes.Reload nav) = refl
  order_same changes.Edit = refl

  -- ---- what is taken up

  -- it is due now, where it isn't in its check
  pub due_now : IsAimed checking s → (req : ReqId) (q bare : Asked) (change : Change) → request_of s req ≡ Some q → bare ≡ without_asks q → IsDueNow (unasked checking s) req bare change → IsDueNow s req q change
  due_now aimed req q bare change at is due =
      record {
        at = at;
        open_ = ap (λ (x : Asked). x.ending) (sym is) ∙ due.open_;
        due = sym (change_same aimed q) ∙ ap (λ (x : Asked). due_change (unasked checking s) x) (sym is) ∙ due.due;
        fit = due.fit;
        in_order = sym (order_same change) ∙ due.in_order;
      }

  -- a document made it of a poke
  pub poked : (req : ReqId) (q bare : Asked) (made : Made) → request_of s req ≡ Some q → bare ≡ unasked_request checking q → IsPoked (unasked checking s) req bare made → IsPoked s req q made
  poked req q bare made at is by =
      record {
        at = at;
        open_ = sym (part_of checking (λ (x : Asked). x.ending) (λ x. refl) (λ x. refl) q bare is) ∙ by.open_;
        nav = by.nav;
        action = by.action;
        what = sym (part_of checking (λ (x : Asked). x.what) (λ x. refl) (λ x. refl) q bare is) ∙ by.what;
        no_step = by.no_step;
        makes = sym (part_of checking (λ (x : Asked). x.made) (λ x. refl) (λ x. refl) q bare is) ∙ by.makes;
      }

  -- which isn't in its check
  pub poked_off : AreChecking checking s → (req : ReqId) (q : Asked) (made : Made) → IsPoked s req q made → checking req ≡ false
  poked_off checks req q made by = by_check (checking req) refl
    where
      unchecked : is_checked q ≡ false
      unchecked = rw by.what (rw by.no_step refl)

      by_check : (b : Bool) → checking req ≡ b → b ≡ false
      by_check true on = sym (checks req q by.at on).checked ∙ unchecked
      by_check false off = refl

  -- what was made is present
  pub present_same : (made : Made) → is_present (unasked checking s) made ≡ is_present s made
  present_same made =
      ap (λ (o : Option Document). holds (λ (d : Document). holds (λ place. is_awake place && place.epoch.0 == made.epoch.0) (place_of s d.nav)) o) (document_read checking s made.doc)
      ∙ by_found (document_of s made.doc)
    where
      by_found : (o : Option Document) → holds (λ (d : Document). holds (λ place. is_awake place && place.epoch.0 == made.epoch.0) (place_of s d.nav)) (option_map unhandled o) ≡ holds (λ (d : Document). holds (λ place. is_awake place && place.epoch.0 == made.epoch.0) (place_of s d.nav)) o
      by_found None = refl
      by_found (Some d) = refl

  -- and in a navigable that has a row
  pub placed_same : (made : Made) → is_in_place (unasked checking s) made ≡ is_in_place s made
  placed_same made =
      (λ i. present_same made i && has_same i)
    where
      by_found : (o : Option Document) → holds (λ (d : Document). has_row d.nav s.history.rows) (option_map unhandled o) ≡ holds (λ (d : Document). has_row d.nav s.history.rows) o
      by_found None = refl
      by_found (Some d) = refl

      has_same : holds (λ (d : Document). has_row d.nav s.history.rows) (document_of (unasked checking s) made.doc) ≡ holds (λ (d : Document). has_row d.nav s.history.rows) (document_of s made.doc)
      has_same =
          ap (λ (o : Option Document). holds (λ (d : Document). has_row d.nav s.history.rows) o) (document_read checking s made.doc)
          ∙ by_found (document_of s made.doc)

  -- it is to be taken up at once
  pub at_once_same : IsMoving checking s → (made : Made) → is_taken_up_at_once (unasked checking s) made ≡ is_taken_up_at_once s made
  at_once_same moving made =
      λ i. changes_history made.what && placed_same made i && not (held_same checking s moving made i)

  -- what is applied may jump the queue
  pub jump_same : IsMoving checking s → (q : Asked) → is_jump (unasked checking s) (without_asks q) ≡ is_jump s q
  jump_same moving q = by_made q.made
    where
      by_made : (o : Option Made) → is_jump (unasked checking s) (record (without_asks q) { made = o }) ≡ is_jump s (record q { made = o })
      by_made None = refl
      by_made (Some made) = ap (λ b. implies (changes_history made.what) b) (at_once_same moving made)

  -- a load is applied as a step of the queue
  pub load_step_same : AreNumbered s → NoStepChecks checking s → (q : Asked) → is_load_step (unasked checking s) (without_asks q) ≡ is_load_step s q
  load_step_same numbered none q =
      ap (λ b. implies (q.is_started && is_load q.what) (b && holds (is_shown s.history.rows s.history.current) (nav_of_request q.what))) (free_same checking s numbered none)

  -- a document made it of a load that is a fragment navigation
  pub fragment_made : IsMoving checking s → (q bare : Asked) (made : Made) → bare ≡ without_asks q → has_passed s q ≡ true → IsFragmentMade (unasked checking s) bare made → IsFragmentMade s q made
  fragment_made moving q bare made is passed by =
      record {
        nav = by.nav;
        mode = by.mode;
        address = by.address;
        what = ap (λ (x : Asked). x.what) (sym is) ∙ by.what;
        unstarted = ap (λ (x : Asked). x.is_started) (sym is) ∙ by.unstarted;
        passed = passed;
        makes = ap (λ (x : Asked). x.made) (sym is) ∙ by.makes;
        changes = by.changes;
        at_once = sym (at_once_same moving made) ∙ by.at_once;
      }

  -- ---- why one is refused or dropped

  -- the reason against what was made
  pub denial_same : (made : Made) → denial_at_delivery (unasked checking s) made ≡ denial_at_delivery s made
  denial_same made = by_what made.what
    where
      by_found : (nav : NavId) (o : Option Document) → holds (λ (d : Document). holds (λ (owner : StateId). owner.0 == d.state.0) (owner_of nav s.history.rows)) (option_map unhandled o) ≡ holds (λ (d : Document). holds (λ (owner : StateId). owner.0 == d.state.0) (owner_of nav s.history.rows)) o
      by_found nav None = refl
      by_found nav (Some d) = refl

      by_what : (what : What) → denial_at_delivery (unasked checking s) (record made { what = what }) ≡ denial_at_delivery s (record made { what = what })
      by_what (whats.Push entry memo address) = refl
      by_what (whats.Replace over entry memo address) = refl
      by_what (whats.AddFrame nav) = refl
      by_what (whats.RemoveFrame nav) =
          ap (λ b. cond b None (Some denials.NoNavigable)) (ap (λ (o : Option Document). holds (λ (d : Document). holds (λ (owner : StateId). owner.0 == d.state.0) (owner_of nav s.history.rows)) o) (document_read checking s made.doc) ∙ by_found nav (document_of s made.doc))
      by_what (whats.Go delta) = refl
      by_what whats.Edit = refl

  -- another request took the last rows of its navigable
  pub destroyed_same : (q : Asked) (by : ReqId) → is_destroyed_by (unasked checking s) (unasked_request checking q) by ≡ is_destroyed_by s q by
  destroyed_same q by =
      part_same checking (λ x. is_destroyed_by s x by) (λ x. refl) (λ x. refl) q

  -- what was made is outdated
  pub outdated_same : (q : Asked) → is_outdated (unasked checking s) (unasked_request checking q) ≡ is_outdated s q
  outdated_same q =
      part_same checking (λ x. is_outdated (unasked checking s) x) (λ x. refl) (λ x. refl) q
      ∙ (λ i. not (is_traversal q.what) && (holds (λ made. not (present_same made i)) q.made || q.is_not_found))

  -- a traversal that began and isn't in its check is a passed one, where it is so in the log
  run_kept : (r : Asked) → (checking r.nr ≡ false → has_passed s r ≡ true) → (b : Bool) → checking r.nr ≡ b → is_passed_traversal (unasked checking s) (cond b (unbegun r) (without_asks r)) ≡ true → is_passed_traversal s r ≡ true
  run_kept r passed true e is = absurd (never (is_traversal r.what) is)
    where
      never : (t : Bool) → (t && false && true) ≡ true → ⊥
      never true f = cc
      never false f = cc
  run_kept r passed false e is =
      by_tests (is_traversal r.what) r.is_started (has_passed s r) (passed e) is
    where
      by_tests : (t b c : Bool) → c ≡ true → (t && b && true) ≡ true → (t && b && c) ≡ true
      by_tests true true c f g = f
      by_tests true false c f g = cc
      by_tests false b c f g = cc

  -- its reason, and a change of it
  abbrev is_reason : Asked → NavId → Bool
  is_reason r nav = holds (λ (place : Place). same_why place.why (whys.Req r.nr)) (place_of s nav)

  abbrev has_taken : Asked → NavId → Bool
  has_taken r nav =
      any_place s (way_to s nav) (λ (place : Place). list_any (λ entry. list_any (same_entry entry) place.ever_given) r.took)

  away_on : (p q r : Asked) (nav : NavId) → (checking r.nr ≡ false → has_passed s r ≡ true) → checking r.nr ≡ true → has_moved_away (unasked checking s) p (unbegun r) nav ≡ true → has_moved_away s q r nav ≡ true
  away_on p q r nav passed e f =
      weaken (is_reason r nav) (is_passed_traversal (unasked checking s) (unbegun r)) (is_passed_traversal s r) (changed_one_of r (way_to s nav)) (has_taken r nav) (run_kept r passed true e) f

  away_off : (p q r : Asked) (nav : NavId) → (checking r.nr ≡ false → has_passed s r ≡ true) → checking r.nr ≡ false → has_moved_away (unasked checking s) p (without_asks r) nav ≡ true → has_moved_away s q r nav ≡ true
  away_off p q r nav passed e f =
      weaken (is_reason r nav) (is_passed_traversal (unasked checking s) (without_asks r)) (is_passed_traversal s r) (changed_one_of r (way_to s nav)) (has_taken r nav) (run_kept r passed false e) f

  away_kept : (q r : Asked) (nav : NavId) → (checking r.nr ≡ false → has_passed s r ≡ true) → has_moved_away (unasked checking s) (unasked_request checking q) (unasked_request checking r) nav ≡ true → has_moved_away s q r nav ≡ true
  away_kept q r nav passed is = by_check (checking r.nr) refl is
    where
      by_check : (b : Bool) → checking r.nr ≡ b → has_moved_away (unasked checking s) (unasked_request checking q) (cond b (unbegun r) (without_asks r)) nav ≡ true → has_moved_away s q r nav ≡ true
      by_check true e f = away_on (unasked_request checking q) q r nav passed e f
      by_check false e f = away_off (unasked_request checking q) q r nav passed e f

  -- another one moved it away, which has passed if it isn't in its check
  pub moved_away : (q r : Asked) → (checking r.nr ≡ false → has_passed s r ≡ true) → by_mover (unasked checking s) (unasked_request checking q) (unasked_request checking r) ≡ true → by_mover s q r ≡ true
  moved_away q r passed moved =
      let both = and_parts (is_outdated (unasked checking s) (unasked_request checking q)) (holds (has_moved_away (unasked checking s) (unasked_request checking q) (unasked_request checking r)) (nav_of_request (unasked_request checking q).what)) moved in
      let away : holds (has_moved_away (unasked checking s) (unasked_request checking q) (unasked_request checking r)) (nav_of_request q.what) ≡ true = ap (λ what. holds (has_moved_away (unasked checking s) (unasked_request checking q) (unasked_request checking r)) (nav_of_request what)) (sym (part_same checking (λ x. x.what) (λ x. refl) (λ x. refl) q)) ∙ both.1 in
      rw (sym (outdated_same q) ∙ both.0) (by_nav (nav_of_request q.what) away)
    where
      by_nav : (o : Option NavId) → holds (has_moved_away (unasked checking s) (unasked_request checking q) (unasked_request checking r)) o ≡ true → holds (has_moved_away s q r) o ≡ true
      by_nav None e = cc
      by_nav (Some nav) e = away_kept q r nav passed e
