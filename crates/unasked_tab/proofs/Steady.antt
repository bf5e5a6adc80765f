-- What holds between two events while checks go on holds where requests and desks change, the same traversal runs, and the same loads are ongoing, once what is on its way leads on, what isn't shown rests, and what holds between two rows does.
use Rattle.std.proofs.Common.{◌≡◌, ◌⊎◌, ℕ, Bool, true, false, not, cond, ◌&&◌, ◌||◌, ◌==◌, List, [], ◌∷◌, Option, Some, None, subst, refl, sym, ap, ◌∙◌, inl, inr, length}
use Rattle.std.specs.Prelude.{is_none, is_some}
use Rattle.std.specs.List.{list_all}
use Rattle.std.specs.Option.{option_map_or}
use Rattle.std.proofs.lemmas.Bool.{and_from, and_parts}
use Rattle.tab_ids.specs.declared.NavId.{NavId}
use Rattle.tab_ids.specs.declared.ReqId.{ReqId}
use Rattle.log_model.specs.declared.job.Job.{Job}
use Rattle.log_model.specs.ActsAtOnce.{ends_stepped, ends_told, has_no_step_waiting, has_reason_to_run, is_ready_load, is_told}
use Rattle.log_model.specs.Equal.{holds, implies, same_pair}
use Rattle.log_model.specs.History.{has_nav, has_state, used_step_at}
use Rattle.log_model.specs.Places.{aim_of, all_stand, due_pair, is_awake, is_below_known_lost, is_moved_in, is_ongoing_load, is_placed, pair_in, passed_traversal, told_pair, way_to}
use Rattle.log_model.specs.Points.{nav_of_request}
use Rattle.log_model.specs.Queue.{is_queue_free}
use Rattle.log_model.specs.Seen.{Asked, Desk, Document, Place, Seen, place_of, request_in}
use Rattle.seen_facts.specs.Coord.Flowing.{Flows}
use Rattle.seen_facts.specs.Hang.Members.{Has}
use Rattle.seen_facts.specs.LoadEnds.Standing.{LoadsStand, is_reached}
use Rattle.seen_facts.specs.Rest.Between.{HasLoadDocument, IsOfLoad}
use Rattle.seen_facts.specs.Walk.Serving.{AreServed, IsServed}
use Rattle.seen_facts.proofs.Rest.Stands.{all_requests, request_has}
use Rattle.row_facts.specs.RestRows.Moving.{AllRest}
use Rattle.tab_facts.specs.Calm.Loads.{LoadsHaveDocuments}
use Rattle.tab_facts.specs.TabEvents.Between.{AreSwept, IsBetweenChecks, orders_go}
use Rattle.tab_facts.specs.TabWhole.Tab.{IsTab}
use Rattle.tab_facts.proofs.TabEvents.Left.{passed_runs, steps_run}
use Rattle.unasked_tab.specs.Steady.{AreSteady}

-- ---- lists

all_alike : {A : Type 0} (f g : A → Bool) (xs : List A) → ((x : A) → f x ≡ g x) → list_all f xs ≡ list_all g xs
all_alike f g [] same = refl
all_alike f g (x ∷ xs) same = rw (same x) (ap (λ (b : Bool). g x && b) (all_alike f g xs same))

-- where all pass, each that is there does
of_all : {A : Type 0} (test : A → Bool) (xs : List A) (x : A) → list_all test xs ≡ true → Has xs x → test x ≡ true
of_all test [] x all has = absurd has
of_all test (y ∷ xs) x all (inl same) = ap test (sym same) ∙ (and_parts (test y) (list_all test xs) all).0
of_all test (y ∷ xs) x all (inr later) = of_all test xs x (and_parts (test y) (list_all test xs) all).1 later

module _ (s : Seen) (next : List Asked) (desks : List Desk) (joined parked : List ReqId) (events jobs states : ℕ) (finished : Option Job) (stood : Bool) where
  -- with these requests and desks, and this joined and held back
  abbrev pub with_steady : Seen
  with_steady =
      record s {
        events = events;
        requests = next;
        desks = desks;
        joined = joined;
        parked = parked;
        jobs = jobs;
        states = states;
        just_finished = finished;
        has_stood = stood;
      }

  abbrev then : Seen
  then = with_steady

  module _ (keep : ℕ) (run : Option ReqId) (loads other : List ReqId) (waits : Bool) (is : IsBetweenChecks keep run loads waits s) (tab : IsTab run other [] then) (steady : AreSteady s.requests next) (joins : waits ≡ false → is_queue_free s ≡ true → joined ≡ s.joined) (parks : parked ≡ s.parked) (orders : orders_go s ≡ true → orders_go then ≡ true) where
    -- the traversal that has passed, and the aim
    passed_same : passed_traversal then ≡ passed_traversal s
    passed_same = passed_runs then tab.asked.passed ∙ steady.runs ∙ sym (passed_runs s is.tab.asked.passed)

    aim_same : aim_of then ≡ aim_of s
    aim_same =
        ap (λ (o : Option Asked). option_map_or (λ (q : Asked). option_map_or (λ goal. used_step_at s.history.rows goal.0) q.goal s.history.current) o s.history.current) passed_same

    -- ---- served and told

    served : AreServed then
    served = record { each = λ nav. record { serve = λ place found. now_ nav place found } }
      where
        now_ : (nav : NavId) (place : Place) → place_of then nav ≡ Some place → IsServed s.history.rows s.places s.documents (aim_of then) place
        now_ nav place found =
            subst (λ (n : ℕ). IsServed s.history.rows s.places s.documents n place) (sym aim_same) ((is.served.each nav).serve place found)

    is_told_same : (place : Place) → is_told then place ≡ is_told s place
    is_told_same place =
        ap (λ (pair : ℕ × ℕ). implies (is_awake place) (holds (same_pair pair) (told_pair s place))) due
      where
        moved : is_moved_in next place.nav ≡ is_moved_in s.requests place.nav
        moved = ap (λ (o : Option Asked). holds (λ (q : Asked). has_nav q.moved place.nav) o) steady.runs

        due : due_pair then place.nav ≡ due_pair s place.nav
        due =
            ap (λ (b : Bool). pair_in s.history.rows (cond b (aim_of then) s.history.current)) moved
            ∙ ap (λ (n : ℕ). pair_in s.history.rows (cond (is_moved_in s.requests place.nav) n s.history.current)) aim_same

    tells : ends_told then ≡ true
    unfolding ends_told
    tells = all_alike (is_told then) (is_told s) s.places is_told_same ∙ is.told

    -- ---- no step is put off

    reason_same : has_reason_to_run then ≡ has_reason_to_run s
    reason_same =
        ap (λ (o : Option Asked). implies (is_some o) (not (all_stand s (aim_of then)))) passed_same
        ∙ ap (λ (n : ℕ). implies (is_some (passed_traversal s)) (not (all_stand s n))) aim_same

    free_same : is_queue_free then ≡ is_queue_free s
    free_same =
        ap (λ (b : Bool). b && all_stand s s.history.current) (steps_run next tab.asked.each ∙ ap (λ (o : Option Asked). is_none o) steady.runs ∙ sym (steps_run s.requests is.tab.asked.each))

    -- what all requests pass that may fail for ongoing loads alone, they pass then
    each_still : (test : Asked → Bool) → ((q : Asked) → is_ongoing_load q ≡ false → test q ≡ true) → list_all test s.requests ≡ true → list_all test next ≡ true
    each_still test idle all = all_requests next test (λ req q at. by_going req q at (is_ongoing_load q) refl)
      where
        by_going : (req : ReqId) (q : Asked) → request_in next req ≡ Some q → (b : Bool) → is_ongoing_load q ≡ b → test q ≡ true
        by_going req q at false e = idle q e
        by_going req q at true e = of_all test s.requests q all (request_has s.requests req q (steady.was req q at e))

    stepped_on : waits ≡ false → ends_stepped s ≡ true → ends_stepped then ≡ true
    unfolding ends_stepped
    stepped_on none ends =
        let parts = and_parts (has_reason_to_run s) (implies (is_queue_free s) (has_no_step_waiting s)) ends in
        and_from (has_reason_to_run then) (implies (is_queue_free then) (has_no_step_waiting then)) (reason_same ∙ parts.0) (by_free (is_queue_free s) free_same (is_queue_free then) refl parts.1)
      where
        by_free : (b : Bool) → is_queue_free then ≡ b → (c : Bool) → is_queue_free then ≡ c → implies b (has_no_step_waiting s) ≡ true → implies c (has_no_step_waiting then) ≡ true
        by_free b e false f waiting = refl
        by_free false e true f waiting = (let no_ : false ≡ true = sym e ∙ f in absurd cc)
        by_free true e true f waiting =
            let parts = and_parts (length s.joined == 0) (list_all (λ (q : Asked). not (is_ready_load s q)) s.requests) waiting in
            and_from (length joined == 0) (list_all (λ (q : Asked). not (is_ready_load then q)) next) (ap (λ (l : List ReqId). length l == 0) (joins none (sym free_same ∙ e)) ∙ parts.0) (each_still (λ (q : Asked). not (is_ready_load s q)) (λ q off. rw off refl) parts.1)

    -- ---- ongoing loads

    swept_on : AreSwept s ⊎ (orders_go s ≡ true) → AreSwept then ⊎ (orders_go then ≡ true)
    swept_on (inr go) = inr (orders go)
    swept_on (inl are) = inl (λ doc d found ready there. by_either d (are doc d found ready there))
      where
        by_either : (d : Document) → (has_state d.state s.history.rows ≡ true) ⊎ IsOfLoad s d → (has_state d.state s.history.rows ≡ true) ⊎ IsOfLoad then d
        by_either d (inl has) = inl has
        by_either d (inr of) =
            inr (record { req = of.req; q = of.q; found = steady.stays of.req of.q of.found of.ongoing; ongoing = of.ongoing; own = of.own })

    -- whether a navigable is reached is read of history, places and aim
    reached_same : (nav : NavId) → is_reached then nav ≡ is_reached s nav
    reached_same nav =
        ap (λ (n : ℕ). list_all (is_placed s n) (way_to s nav) && holds (λ place. not (is_below_known_lost s place)) (place_of s nav)) aim_same

    stands : LoadsStand then
    stands =
        all_alike (λ (q : Asked). not (is_ongoing_load q) || holds (is_reached then) (nav_of_request q.what)) (λ (q : Asked). not (is_ongoing_load q) || holds (is_reached s) (nav_of_request q.what)) next (λ q. ap (λ (b : Bool). not (is_ongoing_load q) || b) (by_nav (nav_of_request q.what)))
        ∙ each_still (λ (q : Asked). not (is_ongoing_load q) || holds (is_reached s) (nav_of_request q.what)) (λ q off. rw off refl) is.stands
      where
        by_nav : (o : Option NavId) → holds (is_reached then) o ≡ holds (is_reached s) o
        by_nav None = refl
        by_nav (Some nav) = reached_same nav

    loading : LoadsHaveDocuments then
    loading req q at on =
        let has : HasLoadDocument s q = is.loading req q (steady.was req q at on) on in
        record {
          state = has.state;
          own = has.own;
          doc = has.doc;
          d = has.d;
          found = has.found;
          of_state = has.of_state;
          there = has.there;
        }

    -- what holds between two events holds then, with these at hand
    pub steady_between : Flows then → AllRest then → IsBetweenChecks keep run other waits then
    steady_between flows rests =
        record {
          tab = tab;
          flows = flows;
          served = served;
          told = tells;
          stepped = λ none. stepped_on none (is.stepped none);
          held = λ none. parks ∙ is.held none;
          rows_ = is.rows_;
          rests = rests;
          swept = swept_on is.swept;
          stands = stands;
          loading = loading;
          few = is.few;
        }
