-- What a log has come to, read off what it would have come to had nobody been asked: the aim, requests and documents that are found, and who is held up or moved.
use Rattle.std.proofs.Common.{◌≡◌, ℕ, ◌-◌, zero, suc, Bool, true, false, cond, not, ◌&&◌, ◌==◌, List, [], ◌∷◌, map, Option, Some, None, refl, sym, ap, ◌∙◌, arith}
use Rattle.std.specs.List.{list_all}
use Rattle.std.proofs.lemmas.Bool.{and_parts}
use Rattle.std.specs.Prelude.{find, slice_get, option_map}
use Rattle.std.specs.Option.{option_map_or}
use Rattle.std.proofs.lemmas.Bool.Decides.{nat_tests}
use Rattle.tab_ids.specs.declared.DocId.{DocId}
use Rattle.tab_ids.specs.declared.NavId.{NavId}
use Rattle.tab_ids.specs.declared.ReqId.{ReqId}
use Rattle.tab_ids.specs.declared.StateId.{StateId}
use Rattle.log_model.specs.AfterRequests.{is_held_up, is_traversed}
use Rattle.log_model.specs.Equal.{holds}
use Rattle.log_model.specs.History.{has_nav, used_step_at}
use Rattle.log_model.specs.Orders.{ongoing_load}
use Rattle.log_model.specs.Queue.{begins_in_turn, is_first_joined, is_queue_free, is_step_under_way}
use Rattle.log_model.specs.declared.made.Made.{Made}
use Rattle.log_model.specs.Seen.{Asked, Document, Seen, document_of, request_of}
use Rattle.log_model.specs.Places.{aim_of, all_stand, due_pair, has_passed, is_gone, is_moved, is_traversal, is_under_way, pair_in, passed_traversal, running_traversal}
use Rattle.row_facts.specs.LoadRows.LoadMaking.{is_ongoing_of}
use Rattle.seen_laws.specs.Unasked.{unasked, unasked_request, unbegun, unhandled, without_asks}
use Rattle.unasked.proofs.Readings.{checked_off, document_read, found_from, is_run_off, passed_run_read, running_none, running_off, running_read, under_way_read}
use Rattle.unasked_dues.specs.Checking.{AreNumbered, IsAimed, IsChecking, IsMoving, NoStepChecks, NoneChecksFor, RunsIn}

-- ---- the first one that passes a test

-- two tests that say the same of each item find the same
pub find_same : (test other : Asked → Bool) (asked : List Asked) → ((k : ℕ) (q : Asked) → slice_get asked k ≡ Some q → test q ≡ other q) → find test asked ≡ find other asked
find_same test other [] same = refl
find_same test other (q ∷ asked) same =
    by_test (test q) (other q) (same zero q refl) (find_same test other asked (λ k r at. same (suc k) r at))
  where
    by_test : (b c : Bool) → b ≡ c → find test asked ≡ find other asked → (let o : Option Asked = cond b (Some q) (find test asked) in o) ≡ cond c (Some q) (find other asked)
    by_test true true e more = refl
    by_test true false e more = absurd cc
    by_test false true e more = absurd cc
    by_test false false e more = more

-- the number of an item
abbrev pub at_index : ℕ → ReqId
at_index k = record { 0 = suc k }

less_one : (k : ℕ) → suc k - 1 ≡ k
less_one k = omega arith

no_zero : (k : ℕ) → (suc k == 0) ≡ false
no_zero k = grind (arith, nat_tests)

-- each item has a number
pub item_found : (s : Seen) (k : ℕ) → request_of s (at_index k) ≡ slice_get s.requests k
item_found s k = rw (no_zero k) (ap (λ n. slice_get s.requests n) (less_one k))

-- ---- the aim

module _ (checking : ReqId → Bool) (s : Seen) where
  -- a traversal under way has passed where it isn't in its check, and only there
  passed_off : IsAimed checking s → (req : ReqId) (q : Asked) → request_of s req ≡ Some q → (is_under_way q && is_traversal q.what && has_passed s q) ≡ is_run_off checking q
  passed_off aimed req q found =
      by_tests (is_under_way q) (is_traversal q.what) (checking req) refl refl refl (ap checking (aimed.numbered req q found))
    where
      by_tests : (b t c : Bool) → is_under_way q ≡ b → is_traversal q.what ≡ t → checking req ≡ c → checking q.nr ≡ checking req → (b && t && has_passed s q) ≡ (not (checking q.nr) && (b && t))
      by_tests false t true e f g nr = rw (nr, g) refl
      by_tests false t false e f g nr = rw (nr, g) refl
      by_tests true false true e f g nr = rw (nr, g) refl
      by_tests true false false e f g nr = rw (nr, g) refl
      by_tests true true true e f g nr = rw (nr, g) (aimed.none_passes req q found e f g)
      by_tests true true false e f g nr = rw (nr, g) (aimed.others req q found e g)

  -- the traversal that has passed is the same, but for its questions
  pub passed_same : IsAimed checking s → passed_traversal (unasked checking s) ≡ option_map without_asks (passed_traversal s)
  passed_same aimed =
      passed_run_read checking s (is_gone (unasked checking s))
      ∙ ap (λ (o : Option Asked). option_map without_asks o) (sym (find_same (λ q. is_under_way q && is_traversal q.what && has_passed s q) (is_run_off checking) s.requests (λ k q at. passed_off aimed (at_index k) q (item_found s k ∙ at))))

  -- all are to come to the same step
  pub aim_same : IsAimed checking s → aim_of (unasked checking s) ≡ aim_of s
  aim_same aimed =
      ap (λ (o : Option Asked). option_map_or goal_step o s.history.current) (passed_same aimed) ∙ by_run (passed_traversal s)
    where
      goal_step : Asked → ℕ
      goal_step q = option_map_or (λ goal. used_step_at s.history.rows goal.0) q.goal s.history.current

      by_run : (o : Option Asked) → option_map_or goal_step (option_map without_asks o) s.history.current ≡ option_map_or goal_step o s.history.current
      by_run None = refl
      by_run (Some q) = refl

-- ---- lists

-- one that is found is an item and passes the test
pub find_at : (test : Asked → Bool) (asked : List Asked) (q : Asked) → find test asked ≡ Some q → (k : ℕ) × (slice_get asked k ≡ Some q) × (test q ≡ true)
find_at test [] q found = absurd cc
find_at test (r ∷ asked) q found = by_test (test r) refl found (find_at test asked q)
  where
    by_test : (b : Bool) → test r ≡ b → (let o : Option Asked = cond b (Some r) (find test asked) in o) ≡ Some q → (find test asked ≡ Some q → (k : ℕ) × (slice_get asked k ≡ Some q) × (test q ≡ true)) → (k : ℕ) × (slice_get (r ∷ asked) k ≡ Some q) × (test q ≡ true)
    by_test true e f more = let it : r ≡ q = cc in (zero, f, ap test (sym it) ∙ e)
    by_test false e f more = let rest = more f in (suc rest.0, rest.1, rest.2)

-- where each fails the test none is found
pub find_none : (test : Asked → Bool) (asked : List Asked) → ((k : ℕ) (q : Asked) → slice_get asked k ≡ Some q → test q ≡ false) → find test asked ≡ None
find_none test [] none = refl
find_none test (q ∷ asked) none = rw (none zero q refl) (find_none test asked (λ k r at. none (suc k) r at))

-- a map of items that pass just where they did
pub all_same : (u : Asked → Asked) (test other : Asked → Bool) (asked : List Asked) → ((k : ℕ) (q : Asked) → slice_get asked k ≡ Some q → test (u q) ≡ other q) → list_all test (map u asked) ≡ list_all other asked
all_same u test other [] same = refl
all_same u test other (q ∷ asked) same =
    (λ i. same zero q refl i && all_same u test other asked (λ k r at. same (suc k) r at) i)

-- and the first of them
pub first_same : (u : Asked → Asked) (test other : Asked → Bool) (asked : List Asked) → ((k : ℕ) (q : Asked) → slice_get asked k ≡ Some q → test (u q) ≡ other q) → find test (map u asked) ≡ option_map u (find other asked)
first_same u test other [] same = refl
first_same u test other (q ∷ asked) same =
    by_test (test (u q)) (other q) (same zero q refl) (first_same u test other asked (λ k r at. same (suc k) r at))
  where
    by_test : (b c : Bool) → b ≡ c → find test (map u asked) ≡ option_map u (find other asked) → (let o : Option Asked = cond b (Some (u q)) (find test (map u asked)) in o) ≡ option_map u (cond c (Some q) (find other asked))
    by_test true true e more = refl
    by_test true false e more = absurd cc
    by_test false true e more = absurd cc
    by_test false false e more = more

module _ (checking : ReqId → Bool) (s : Seen) where
  -- ---- requests and documents that are found

  -- one that is under way where nobody is asked has passed
  pub runs_in : IsAimed checking s → (req : ReqId) (run : Asked) → request_of (unasked checking s) req ≡ Some run → is_under_way run ≡ true → RunsIn checking s req run
  runs_in aimed req run found is =
      let from = found_from checking s req run found in
      let off : checking req ≡ false = under_way_read checking s req run (aimed.numbered req) found is in
      let same : run ≡ without_asks from.0 = from.2 ∙ checked_off checking from.0 (ap checking (aimed.numbered req from.0 from.1) ∙ off) in
      record { asked = from.0; at = from.1; is = same; off = off; passed = aimed.others req from.0 from.1 (ap is_under_way (sym same) ∙ is) off }

  -- a document that is found is one of the log, with its handler
  pub document_from : (doc : DocId) (d : Document) → document_of (unasked checking s) doc ≡ Some d → (e : Document) × (document_of s doc ≡ Some e) × (d ≡ unhandled e)
  document_from doc d found = by_found (document_of s doc) refl (sym (document_read checking s doc) ∙ found)
    where
      by_found : (o : Option Document) → document_of s doc ≡ o → option_map unhandled o ≡ Some d → (e : Document) × (document_of s doc ≡ Some e) × (d ≡ unhandled e)
      by_found None e f = absurd cc
      by_found (Some c) e f = (c, e, let same : d ≡ unhandled c = cc in same)

  -- ---- the traversal that runs

  -- where a traversal is in its check none runs without it
  none_beside : IsMoving checking s → (k : ℕ) (q : Asked) → slice_get s.requests k ≡ Some q → (is_under_way q && is_traversal q.what) ≡ true → checking q.nr ≡ true → find (is_run_off checking) s.requests ≡ None
  none_beside moving k q at is on =
      find_none (is_run_off checking) s.requests (λ l r there. by_tests l r there (checking r.nr) (is_under_way r) (is_traversal r.what) refl refl refl)
    where
      found : request_of s (at_index k) ≡ Some q
      found = item_found s k ∙ at

      by_tests : (l : ℕ) (r : Asked) → slice_get s.requests l ≡ Some r → (b c t : Bool) → checking r.nr ≡ b → is_under_way r ≡ c → is_traversal r.what ≡ t → (not b && (c && t)) ≡ false
      by_tests l r there true c t e f g = refl
      by_tests l r there false false t e f g = refl
      by_tests l r there false true false e f g = refl
      by_tests l r there false true true e f g =
          let both = and_parts (is_under_way q) (is_traversal q.what) is in
          let one : q.nr ≡ r.nr = moving.alone (at_index k) (at_index l) q r found (item_found s l ∙ there) both.0 f both.1 g (ap checking (sym (moving.aimed.numbered (at_index k) q found)) ∙ on) in
          let never : true ≡ false = sym on ∙ ap checking one ∙ e in
          absurd cc

  -- a test of the traversal that runs, which one in its check doesn't pass
  pub run_tested : IsMoving checking s → (test : Asked → Bool) → ((q : Asked) → test (without_asks q) ≡ test q) → ((req : ReqId) (q : Asked) → IsChecking req q → test q ≡ false) → holds test (running_traversal (unasked checking s)) ≡ holds test (running_traversal s)
  run_tested moving test same never = by_run (running_traversal s) refl
    where
      by_check : (q : Asked) (b : Bool) → running_traversal s ≡ Some q → checking q.nr ≡ b → holds test (running_traversal (unasked checking s)) ≡ test q
      by_check q true is on =
          let at = find_at (λ r. is_under_way r && is_traversal r.what) s.requests q is in
          let found : request_of s (at_index at.0) ≡ Some q = item_found s at.0 ∙ at.1 in
          ap (λ (o : Option Asked). holds test o) (running_read checking s ∙ ap (λ (o : Option Asked). option_map without_asks o) (none_beside moving at.0 q at.1 at.2 on))
          ∙ sym (never (at_index at.0) q (moving.checks (at_index at.0) q found (ap checking (sym (moving.aimed.numbered (at_index at.0) q found)) ∙ on)))
      by_check q false is off = ap (λ (o : Option Asked). holds test o) (running_off checking s q is off) ∙ same q

      by_run : (o : Option Asked) → running_traversal s ≡ o → holds test (running_traversal (unasked checking s)) ≡ holds test o
      by_run None e = ap (λ (o : Option Asked). holds test o) (running_none checking s e)
      by_run (Some q) e = by_check q (checking q.nr) e refl

  -- whom it has shown a document
  pub traversed_same : IsMoving checking s → (nav : NavId) → is_traversed (unasked checking s) nav ≡ is_traversed s nav
  traversed_same moving nav =
      run_tested moving (λ (q : Asked). has_nav q.activated nav) (λ q. refl) (λ req q is. ap (λ navs. has_nav navs nav) is.shows)

  -- whom it has moved
  pub moved_same : IsMoving checking s → (nav : NavId) → is_moved (unasked checking s) nav ≡ is_moved s nav
  moved_same moving nav =
      run_tested moving (λ (q : Asked). has_nav q.moved nav) (λ q. refl) (λ req q is. ap (λ navs. has_nav navs nav) is.unmoved)

  -- the navigable of what was made is held up
  pub held_same : IsMoving checking s → (made : Made) → is_held_up (unasked checking s) made ≡ is_held_up s made
  held_same moving made =
      ap (λ (o : Option Document). holds (λ (d : Document). is_traversed (unasked checking s) d.nav) o) (document_read checking s made.doc)
      ∙ by_found (document_of s made.doc)
    where
      by_found : (o : Option Document) → holds (λ (d : Document). is_traversed (unasked checking s) d.nav) (option_map unhandled o) ≡ holds (λ (d : Document). is_traversed s d.nav) o
      by_found None = refl
      by_found (Some d) = traversed_same moving d.nav

  -- the length and index that are due
  pub due_same : IsMoving checking s → (nav : NavId) → due_pair (unasked checking s) nav ≡ due_pair s nav
  due_same moving nav =
      (λ i. pair_in s.history.rows (cond (moved_same moving nav i) (aim_same checking s moving.aimed i) s.history.current))

  -- all stand at the aim
  pub aim_stand_same : IsAimed checking s → all_stand (unasked checking s) (aim_of (unasked checking s)) ≡ all_stand s (aim_of s)
  aim_stand_same aimed = ap (λ step. all_stand s step) (aim_same checking s aimed)

  -- ---- the queue

  step_same : AreNumbered s → NoStepChecks checking s → (req : ReqId) (q : Asked) → request_of s req ≡ Some q → is_step_under_way (unasked_request checking q) ≡ is_step_under_way q
  step_same numbered none req q found =
      by_check (checking q.nr) (λ on. none req q found (ap checking (sym (numbered req q found)) ∙ on)) refl
    where
      by_check : (b : Bool) → (checking q.nr ≡ true → is_step_under_way q ≡ false) → checking q.nr ≡ b → is_step_under_way (cond b (unbegun q) (without_asks q)) ≡ is_step_under_way q
      by_check true more e = sym (more e)
      by_check false more e = refl

  -- a step of the queue may begin
  pub free_same : AreNumbered s → NoStepChecks checking s → is_queue_free (unasked checking s) ≡ is_queue_free s
  free_same numbered none =
      ap (λ b. b && all_stand s s.history.current) (all_same (unasked_request checking) (λ q. not (is_step_under_way q)) (λ q. not (is_step_under_way q)) s.requests (λ k q at. ap not (step_same numbered none (at_index k) q (item_found s k ∙ at))))

  -- and does so in its turn
  pub turn_same : AreNumbered s → NoStepChecks checking s → (req : ReqId) → begins_in_turn (unasked checking s) req ≡ begins_in_turn s req
  turn_same numbered none req = ap (λ b. b && is_first_joined s req) (free_same numbered none)

  -- ---- ongoing loads

  load_same : AreNumbered s → (state : StateId) → NoneChecksFor checking s state → (req : ReqId) (q : Asked) → request_of s req ≡ Some q → is_ongoing_of state (unasked_request checking q) ≡ is_ongoing_of state q
  load_same numbered state none req q found =
      by_check (checking q.nr) (λ on. none req q found (ap checking (sym (numbered req q found)) ∙ on)) refl
    where
      by_check : (b : Bool) → (checking q.nr ≡ true → is_ongoing_of state q ≡ false) → checking q.nr ≡ b → is_ongoing_of state (cond b (unbegun q) (without_asks q)) ≡ is_ongoing_of state q
      by_check true more e = sym (more e)
      by_check false more e = refl

  -- the ongoing load with a document state is the same, as it would be
  pub ongoing_same : AreNumbered s → (state : StateId) → NoneChecksFor checking s state → ongoing_load (unasked checking s) state ≡ option_map (unasked_request checking) (ongoing_load s state)
  ongoing_same numbered state none =
      first_same (unasked_request checking) (is_ongoing_of state) (is_ongoing_of state) s.requests (λ k q at. load_same numbered state none (at_index k) q (item_found s k ∙ at))
