-- When a load begins, is applied, refused or dropped, or goes to a fragment: read off the log as it would be had nobody been asked.
use Rattle.std.proofs.Common.{◌≡◌, ℕ, ◌<◌, suc, Bool, true, false, cond, not, ◌&&◌, ◌==◌, List, [], ◌∷◌, length, map, Option, Some, None, refl, sym, ap, ◌∙◌, subst}
use Rattle.std.specs.Prelude.{filter, option_and_then}
use Rattle.std.specs.List.{list_all, list_any}
use Rattle.std.proofs.lemmas.List.{length-map}
use Rattle.tab_ids.specs.declared.NavId.{NavId}
use Rattle.tab_ids.specs.declared.ProcId.{ProcId}
use Rattle.tab_ids.specs.declared.ReqId.{ReqId}
use Rattle.tab_ids.specs.declared.StateId.{StateId}
use Rattle.log_model.specs.ActsAtOnce.{has_document}
use Rattle.log_model.specs.Causes.{any_displaced, changed_one_of, denial_at_acceptance}
use Rattle.log_model.specs.Equal.{holds}
use Rattle.log_model.specs.Formed.{running_documents}
use Rattle.log_model.specs.History.{has_row}
use Rattle.log_model.specs.Once.{change_of_load}
use Rattle.log_model.specs.Orders.{due_questions, is_usable}
use Rattle.log_model.specs.Places.{aim_of, given_row, has_passed, is_placed, is_traversal, is_under_way, stands, way_to}
use Rattle.log_model.specs.Points.{had_ended, had_started, is_accepted_here}
use Rattle.log_model.specs.Seen.{Asked, Desk, Document, Seen, desk_of, document_of, place_of, request_of}
use Rattle.log_model.specs.declared.change.Change.{Change}
use Rattle.log_model.specs.declared.job.Job.{Job}
use Rattle.log_model.specs.declared.job.Order.{Order}
use Rattle.log_model.specs.declared.outcome.Denial.TheVariants as denials
use Rattle.log_model.specs.declared.request.Mode.{Mode}
use Rattle.log_model.specs.declared.request.Request.{Request}
use Rattle.log_model.specs.declared.request.Request.TheVariants as requests
use Rattle.log_model.specs.Views.{View}
use Rattle.row_facts.specs.LeaveRows.Fragments.{IsFragmentDue, IsFragmentInHand}
use Rattle.row_facts.specs.LoadRows.Beginning.{IsLoadToBegin, is_to_fragment}
use Rattle.row_facts.specs.LoadRows.Dropping.{IsLoadDestroyed, IsMovedBy, IsReplacedBy, IsStillMovedBy, IsUnderAdder}
use Rattle.row_facts.specs.LoadRows.Loaded.{IsLoadToApply}
use Rattle.seen_facts.specs.LoadTies.Tying.{is_for_state, made_for}
use Rattle.seen_laws.specs.Blocks.{Here, point_at}
use Rattle.seen_laws.specs.Sending.{IsTo}
use Rattle.seen_laws.specs.Unasked.{is_question, no_question_in_hand, unasked, unasked_request, unbegun, unhandled, without_asks}
use Rattle.unasked.proofs.Readings.{checked_off, desk_read, found_from}
use Rattle.unasked_dues.proofs.Base.{aim_same, free_same, runs_in}
use Rattle.unasked_dues.proofs.Dues.{order_same, part_of}
use Rattle.unasked_dues.proofs.Making.{any_same}
use Rattle.unasked_dues.proofs.Shows.{goes_on, to_read}
use Rattle.unasked_dues.specs.Checking.{IsAimed, NoStepChecks}

module _ (checking : ReqId → Bool) (s : Seen) where
  -- ---- requests that are found

  -- the load that is found, by its number
  pub load_from : (req : ReqId) (nav : NavId) (mode : Mode) (address : List ℕ) (bare : Asked) → request_of (unasked checking s) req ≡ Some bare → bare.what ≡ requests.Load nav mode address → (q : Asked) × (request_of s req ≡ Some q) × (bare ≡ unasked_request checking q) × (q.what ≡ requests.Load nav mode address)
  load_from req nav mode address bare found what =
      let from = found_from checking s req bare found in
      (from.0, from.1, from.2, sym (part_of checking (λ (x : Asked). x.what) (λ x. refl) (λ x. refl) from.0 bare from.2) ∙ what)

  -- one that has begun isn't in its check
  pub started_off : (q bare : Asked) → bare ≡ unasked_request checking q → bare.is_started ≡ true → (bare ≡ without_asks q) × (checking q.nr ≡ false)
  started_off q bare is began = by_check (checking q.nr) refl (sym (ap (λ (x : Asked). x.is_started) is) ∙ began)
    where
      by_check : (b : Bool) → checking q.nr ≡ b → (let r : Asked = cond b (unbegun q) (without_asks q) in r).is_started ≡ true → (bare ≡ without_asks q) × (checking q.nr ≡ false)
      by_check true e f = absurd cc
      by_check false e f = (is ∙ checked_off checking q e, e)

  -- ---- a load begins, or is applied

  -- the document of a load is there
  pub has_same : (q : Asked) → has_document (unasked checking s) (without_asks q) ≡ has_document s q
  has_same q = by_state q.state
    where
      by_state : (o : Option StateId) → holds (λ state. list_any (λ (d : Document). is_usable d state) (map unhandled s.documents)) o ≡ holds (λ state. list_any (λ (d : Document). is_usable d state) s.documents) o
      by_state None = refl
      by_state (Some state) = any_same unhandled (λ d. is_usable d state) s.documents (λ d. refl)

  -- a load is to be applied
  pub load_to_apply : IsAimed checking s → NoStepChecks checking s → (req : ReqId) (nav : NavId) (mode : Mode) (address : List ℕ) (bare : Asked) (change : Change) → IsLoadToApply (unasked checking s) req nav mode address bare change → (q : Asked) × (bare ≡ without_asks q) × IsLoadToApply s req nav mode address q change
  load_to_apply aimed none req nav mode address bare change due =
      let run : is_under_way bare ≡ true = rw (due.started, due.open_) refl in
      let from = runs_in checking s aimed req bare due.at run in
      let is : bare ≡ without_asks from.asked = from.is in (
        from.asked,
        is,
        record {
          at = from.at;
          what = ap (λ (x : Asked). x.what) (sym is) ∙ due.what;
          open_ = ap (λ (x : Asked). x.ending) (sym is) ∙ due.open_;
          started = ap (λ (x : Asked). x.is_started) (sym is) ∙ due.started;
          unmade = ap (λ (x : Asked). x.made) (sym is) ∙ due.unmade;
          due = ap (λ (x : Asked). change_of_load s x nav address) (sym is) ∙ due.due;
          fit = due.fit;
          in_order = sym (order_same checking s change) ∙ due.in_order;
          free = sym (free_same checking s aimed.numbered none) ∙ due.free;
          shown = due.shown;
          ready = sym (has_same from.asked) ∙ ap (λ (x : Asked). has_document (unasked checking s) x) (sym is) ∙ due.ready;
          passed = goes_on checking s aimed req bare due.at run;
          unparked = due.unparked;
        },
      )

  -- no document is there or being made for a document state
  pub unmade_same : (state : StateId) → made_for (unasked checking s).documents state ≡ None → made_for s.documents state ≡ None
  unmade_same state = by_each s.documents
    where
      by_test : (d : Document) (ds : List Document) (b : Bool) → (made_for (map unhandled ds) state ≡ None → made_for ds state ≡ None) → (let o : Option Document = cond b (Some (unhandled d)) (made_for (map unhandled ds) state) in o) ≡ None → (let o : Option Document = cond b (Some d) (made_for ds state) in o) ≡ None
      by_test d ds true more e = absurd cc
      by_test d ds false more e = more e

      by_each : (ds : List Document) → made_for (map unhandled ds) state ≡ None → made_for ds state ≡ None
      by_each [] e = refl
      by_each (d ∷ ds) e = by_test d ds (is_for_state state d) (by_each ds) e

  -- ---- a load is dropped

  -- a traversal that has passed moved it away
  pub moved_by : IsAimed checking s → (h u : Here) (nav : NavId) (r bare : Asked) → bare ≡ unasked_request checking r → had_ended (point_at h []) r.nr ≡ false → (checking r.nr ≡ false → has_passed s r ≡ true) → IsMovedBy u (unasked checking s) nav bare → IsMovedBy h s nav r
  moved_by aimed h u nav r bare is unended passed due =
      let off = started_off r bare is due.began in
      record {
        traverses = ap (λ (x : Asked). is_traversal x.what) (sym off.0) ∙ due.traverses;
        began = ap (λ (x : Asked). x.is_started) (sym off.0) ∙ due.began;
        passed = passed off.1;
        unended = unended;
        displaced = ap (λ step. any_displaced s step (way_to s nav)) (sym (aim_same checking s aimed)) ∙ due.displaced;
      }

  -- the last step is its reason still
  pub still_moved_by : (nav : NavId) (r bare : Asked) → bare ≡ unasked_request checking r → IsStillMovedBy (unasked checking s) nav bare → IsStillMovedBy s nav r
  still_moved_by nav r bare is due =
      record {
        last = due.last ∙ ap (λ nr. Some nr) (part_of checking (λ (x : Asked). x.nr) (λ x. refl) (λ x. refl) r bare is);
        unsettled = due.unsettled;
        changed = sym (part_of checking (λ (x : Asked). changed_one_of x (way_to s nav)) (λ x. refl) (λ x. refl) r bare is) ∙ due.changed;
        off = due.off;
      }

  -- a later load of the navigable began
  pub replaced_by : (h u : Here) (nav : NavId) (q r bare_q bare : Asked) → bare_q ≡ unasked_request checking q → bare ≡ unasked_request checking r → had_started (point_at h []) r.nr ≡ false → IsReplacedBy u nav bare_q bare → IsReplacedBy h nav q r
  replaced_by h u nav q r bare_q bare is_q is fresh due =
      let off = started_off r bare is due.began in
      record {
        mode = due.mode;
        address = due.address;
        what = ap (λ (x : Asked). x.what) (sym off.0) ∙ due.what;
        later = subst (λ (n : ℕ). n < r.nr.0) (part_of checking (λ (x : Asked). x.nr.0) (λ x. refl) (λ x. refl) q bare_q is_q) (subst (λ (n : ℕ). bare_q.nr.0 < n) (ap (λ (x : Asked). x.nr.0) off.0) due.later);
        began = ap (λ (x : Asked). x.is_started) (sym off.0) ∙ due.began;
        begins_here = fresh;
      }

  -- its navigable was added, and no document was shown in it
  pub under_adder : (h u : Here) (nav : NavId) (q r bare_q bare : Asked) → bare ≡ unasked_request checking r → is_accepted_here (point_at h []) q.nr ≡ true → IsUnderAdder u (unasked checking s) nav bare_q bare → IsUnderAdder h s nav q r
  under_adder h u nav q r bare_q bare is accepted due =
      record {
        accepted = accepted;
        above = due.above;
        on_way = due.on_way;
        place = due.place;
        placed = due.placed;
        unshown = due.unshown;
        added = due.added ∙ ap (λ nr. Some nr) (part_of checking (λ (x : Asked). x.nr) (λ x. refl) (λ x. refl) r bare is);
      }

  -- its navigable lost its last entries
  pub load_destroyed : (req by : ReqId) (nav : NavId) (q bare : Asked) → request_of s req ≡ Some q → bare ≡ unasked_request checking q → IsLoadDestroyed (unasked checking s) req by nav bare → IsLoadDestroyed s req by nav q
  load_destroyed req by nav q bare at is due =
      record {
        at = at;
        open_ = sym (part_of checking (λ (x : Asked). x.ending) (λ x. refl) (λ x. refl) q bare is) ∙ due.open_;
        mode = due.mode;
        address = due.address;
        what = sym (part_of checking (λ (x : Asked). x.what) (λ x. refl) (λ x. refl) q bare is) ∙ due.what;
        gone = due.gone;
        place = due.place;
        placed = due.placed;
        taken = due.taken;
        unparked = due.unparked;
      }

  -- ---- a load is refused as it is accepted

  running_same : (nav : NavId) → length (running_documents (unasked checking s) nav) ≡ length (running_documents s nav)
  running_same nav = by_each s.documents
    where
      runs : Document → Bool
      runs d = d.nav.0 == nav.0 && holds (λ (view : View). view.running) d.view

      by_test : (d : Document) (ds : List Document) (b : Bool) → length (filter runs (map unhandled ds)) ≡ length (filter runs ds) → length (cond b (unhandled d ∷ filter runs (map unhandled ds)) (filter runs (map unhandled ds))) ≡ length (cond b (d ∷ filter runs ds) (filter runs ds))
      by_test d ds true more = ap (λ n. suc n) more
      by_test d ds false more = more

      by_each : (ds : List Document) → length (filter runs (map unhandled ds)) ≡ length (filter runs ds)
      by_each [] = refl
      by_each (d ∷ ds) = by_test d ds (runs d) (by_each ds)

  -- the reason against a request as it is accepted
  pub acceptance_same : (what : Request) → denial_at_acceptance (unasked checking s) what ≡ denial_at_acceptance s what
  acceptance_same (requests.Load nav mode address) = refl
  acceptance_same (requests.Go delta) = refl
  acceptance_same (requests.Reload nav) = refl
  acceptance_same (requests.Poke nav action) =
      λ i. cond (not (has_row nav s.history.rows)) (Some denials.NoNavigable) (cond (running_same nav i == 0) (Some denials.NoDocument) None)

  -- the next request has the same number
  pub requests_same : length (unasked checking s).requests ≡ length s.requests
  requests_same = length-map s.requests (unasked_request checking)

  -- ---- a fragment navigation

  -- an order that is in hand is so in the log
  pub in_hand : (proc : ProcId) (order : Order) → (desk_of (unasked checking s) proc).in_hand ≡ Some order → (desk_of s proc).in_hand ≡ Some order
  in_hand proc order is =
      by_order (desk_of s proc).in_hand (sym (ap (λ (desk : Desk). desk.in_hand) (desk_read checking s proc)) ∙ is)
    where
      by_test : (o : Order) (b : Bool) → (let h : Option Order = cond b None (Some o) in h) ≡ Some order → Some o ≡ Some order
      by_test o true e = absurd cc
      by_test o false e = e

      by_order : (o : Option Order) → option_and_then no_question_in_hand o ≡ Some order → o ≡ Some order
      by_order None e = absurd cc
      by_order (Some o) e = by_test o (is_question o.job.task) e

  -- a process has the order in hand, and its document runs there
  pub fragment_in_hand : (proc : ProcId) (order : Order) (req : ReqId) (mode : Mode) (address : List ℕ) (d : Document) (view : View) → document_of s order.job.doc ≡ Some d → IsFragmentInHand (unasked checking s) proc order req mode address (unhandled d) view → IsFragmentInHand s proc order req mode address d view
  fragment_in_hand proc order req mode address d view found is =
      record {
        hand = in_hand proc order is.hand;
        task = is.task;
        found = found;
        home = is.home;
        has = is.has;
        of = is.of;
        runs = is.runs;
      }

-- ---- where an event stands

module _ (checking : ReqId → Bool) (h u : Here) (now_is : u.now ≡ unasked checking h.now) where
  -- a load begins, where it isn't in its check and nobody is to be asked
  pub load_to_begin : IsAimed checking h.now → (req : ReqId) (nav : NavId) (mode : Mode) (address : List ℕ) (q bare : Asked) → request_of h.now req ≡ Some q → checking req ≡ false → is_accepted_here (point_at h []) req ≡ true → due_questions h.now (requests.Load nav mode address) None ≡ [] → bare ≡ unasked_request checking q → IsLoadToBegin u req nav mode address bare → IsLoadToBegin h req nav mode address q
  load_to_begin aimed req nav mode address q bare at off accepted unasked_ same due =
      let is : bare ≡ without_asks q = same ∙ checked_off checking q (ap checking (aimed.numbered req q at) ∙ off) in
      record {
        at = at;
        number = ap (λ (x : Asked). x.nr) (sym is) ∙ due.number;
        what = ap (λ (x : Asked). x.what) (sym is) ∙ due.what;
        open_ = ap (λ (x : Asked). x.ending) (sym is) ∙ due.open_;
        unstarted = ap (λ (x : Asked). x.is_started) (sym is) ∙ due.unstarted;
        accepted = accepted;
        placed = ap (λ step. list_all (is_placed h.now step) (way_to h.now nav)) (sym (aim_same checking h.now aimed)) ∙ subst (λ (x : Seen). list_all (is_placed x (aim_of x)) (way_to x nav) ≡ true) now_is due.placed;
        place = due.place;
        there = subst (λ (x : Seen). place_of x nav ≡ Some due.place) now_is due.there;
        anew = subst (λ (x : Seen). is_to_fragment x address due.place ≡ false) now_is due.anew;
        unasked = unasked_;
      }

  -- a document is sent to a fragment
  pub fragment_due : IsAimed checking h.now → (job : Job) (d : Document) (req : ReqId) (nav : NavId) (mode : Mode) (address : List ℕ) (q bare : Asked) → document_of h.now job.doc ≡ Some d → request_of h.now req ≡ Some q → bare ≡ unasked_request checking q → is_accepted_here (point_at h []) req ≡ true → IsFragmentDue u job (unhandled d) req nav mode address bare → IsFragmentDue h job d req nav mode address q
  fragment_due aimed job d req nav mode address q bare found at is accepted due =
      record {
        task = due.task;
        to = to_read checking h.now job d found (subst (λ (x : Seen). IsTo x job (unhandled d)) now_is due.to);
        at = at;
        what = sym (part_of checking (λ (x : Asked). x.what) (λ x. refl) (λ x. refl) q bare is) ∙ due.what;
        accepted = accepted;
        place = due.place;
        placed = subst (λ (x : Seen). place_of x nav ≡ Some due.place) now_is due.placed;
        is_awake = due.is_awake;
        stand = ap (λ step. stands h.now step due.place.nav) (sym (aim_same checking h.now aimed)) ∙ subst (λ (x : Seen). stands x (aim_of x) due.place.nav ≡ true) now_is due.stand;
        row = due.row;
        given = subst (λ (x : Seen). given_row x due.place ≡ Some due.row) now_is due.given;
        is_fragment = due.is_fragment;
      }
