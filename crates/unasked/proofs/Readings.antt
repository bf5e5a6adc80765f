-- What is read of a log as it would be had nobody been asked.
use Rattle.std.proofs.Common.{◌≡◌, ℕ, ◌+◌, Bool, true, false, cond, not, ◌&&◌, ◌||◌, List, [], ◌∷◌, map, Option, Some, None, refl, sym, ap, ◌∙◌}
use Rattle.std.specs.Prelude.{find, option_map}
use Rattle.std.specs.Option.{option_map_or}
use Rattle.tab_ids.specs.declared.DocId.{DocId}
use Rattle.tab_ids.specs.declared.NavId.{NavId}
use Rattle.tab_ids.specs.declared.ProcId.{ProcId}
use Rattle.tab_ids.specs.declared.ReqId.{ReqId}
use Rattle.tab_ids.specs.declared.Step.{Step}
use Rattle.log_model.specs.AfterRequests.{is_traversed}
use Rattle.log_model.specs.Equal.{holds}
use Rattle.log_model.specs.History.{has_nav, used_step_at}
use Rattle.log_model.specs.Seen.{Asked, Document, Place, Seen, request_in, desk_of, document_of, place_of, request_of}
use Rattle.log_model.specs.Places.{aim_of, all_stand, due_pair, is_moved, pair_in, has_passed, has_passed_with, is_gone, is_standing, is_traversal, is_under_way, passed_in, running_in, running_traversal, stands}
use Rattle.seen_laws.proofs.Keyed.{find_map}
use Rattle.unasked.specs.Premises.{IsAlone, IsNumbered, IsPassedOff, IsUnheld, IsUnmoved}
use Rattle.seen_laws.specs.Unasked.{quiet_desk, unasked, unasked_request, unbegun, unhandled, without_asks}
use Rattle.unasked.proofs.Lists.{desk_map, find_at, find_none, find_same, found_in, request_map}

-- ---- one request

module _ (checking : ReqId → Bool) where
  -- the number stays
  pub same_nr : (q : Asked) → (unasked_request checking q).nr ≡ q.nr
  same_nr q =
      elim (checking q.nr) as (λ b. (let r : Asked = cond b (unbegun q) (without_asks q) in r).nr ≡ q.nr) [
        | true ↦ refl
        | false ↦ refl
      ]

  -- a request that isn't in its check
  pub checked_off : (q : Asked) → checking q.nr ≡ false → unasked_request checking q ≡ without_asks q
  checked_off q off = rw off refl

  -- one that is
  pub checked_on : (q : Asked) → checking q.nr ≡ true → unasked_request checking q ≡ unbegun q
  checked_on q on = rw on refl

  -- each has passed, whoever is gone
  pub passes : (gone : DocId → Bool) (q : Asked) → has_passed_with gone (unasked_request checking q) ≡ true
  passes gone q =
      elim (checking q.nr) as (λ b. has_passed_with gone (cond b (unbegun q) (without_asks q)) ≡ true) [
        | true ↦ refl
        | false ↦ refl
      ]

  -- one that is under way isn't in its check
  pub under_way_off : (q : Asked) → is_under_way (unasked_request checking q) ≡ true → checking q.nr ≡ false
  under_way_off q = by_check (checking q.nr)
    where
      by_check : (b : Bool) → is_under_way (cond b (unbegun q) (without_asks q)) ≡ true → b ≡ false
      by_check true e = cc
      by_check false e = refl

-- ---- the traversal under way

-- a traversal under way that isn't in its check
abbrev pub is_run_off : (ReqId → Bool) → Asked → Bool
is_run_off checking q = not (checking q.nr) && (is_under_way q && is_traversal q.what)

module _ (checking : ReqId → Bool) where
  -- the one that runs is the first that isn't in its check
  pub running_map : (asked : List Asked) → running_in (map (unasked_request checking) asked) ≡ option_map without_asks (find (is_run_off checking) asked)
  running_map [] = refl
  running_map (q ∷ asked) = by_tests (checking q.nr) (is_under_way q && is_traversal q.what) refl (running_map asked)
    where
      by_tests : (b c : Bool) → (is_under_way q && is_traversal q.what) ≡ c → running_in (map (unasked_request checking) asked) ≡ option_map without_asks (find (is_run_off checking) asked) → (let r : Asked = cond b (unbegun q) (without_asks q) in cond (is_under_way r && is_traversal r.what) (Some r) (running_in (map (unasked_request checking) asked))) ≡ option_map without_asks (cond (not b && (is_under_way q && is_traversal q.what)) (Some q) (find (is_run_off checking) asked))
      by_tests true c e more = more
      by_tests false true e more = rw e refl
      by_tests false false e more = rw e more

  -- and has passed
  pub passed_map : (gone : DocId → Bool) (asked : List Asked) → passed_in gone (map (unasked_request checking) asked) ≡ option_map without_asks (find (is_run_off checking) asked)
  passed_map gone [] = refl
  passed_map gone (q ∷ asked) = by_tests (checking q.nr) (is_under_way q) (is_traversal q.what) refl refl (passed_map gone asked)
    where
      by_tests : (b c t : Bool) → is_under_way q ≡ c → is_traversal q.what ≡ t → passed_in gone (map (unasked_request checking) asked) ≡ option_map without_asks (find (is_run_off checking) asked) → (let r : Asked = cond b (unbegun q) (without_asks q) in cond (is_under_way r && is_traversal r.what && has_passed_with gone r) (Some r) (passed_in gone (map (unasked_request checking) asked))) ≡ option_map without_asks (cond (not b && (is_under_way q && is_traversal q.what)) (Some q) (find (is_run_off checking) asked))
      by_tests true c t e f more = more
      by_tests false true true e f more = rw (e, f) refl
      by_tests false true false e f more = rw (e, f) more
      by_tests false false t e f more = rw e more

  -- where none runs, none does
  pub none_off : (asked : List Asked) → running_in asked ≡ None → find (is_run_off checking) asked ≡ None
  none_off [] none = refl
  none_off (q ∷ asked) none =
      by_tests (checking q.nr) (is_under_way q && is_traversal q.what) none (none_off asked)
    where
      by_tests : (b c : Bool) → (let o : Option Asked = cond c (Some q) (running_in asked) in o) ≡ None → (running_in asked ≡ None → find (is_run_off checking) asked ≡ None) → (let o : Option Asked = cond (not b && c) (Some q) (find (is_run_off checking) asked) in o) ≡ None
      by_tests b true e more = absurd cc
      by_tests true false e more = more e
      by_tests false false e more = more e

  -- one that runs, and isn't in its check, is the first of these
  pub first_off : (asked : List Asked) (run : Asked) → running_in asked ≡ Some run → checking run.nr ≡ false → find (is_run_off checking) asked ≡ Some run
  first_off [] run is off = absurd cc
  first_off (q ∷ asked) run is off =
      by_tests (checking q.nr) (is_under_way q && is_traversal q.what) refl is (λ e. first_off asked run e off)
    where
      by_tests : (b c : Bool) → checking q.nr ≡ b → (let o : Option Asked = cond c (Some q) (running_in asked) in o) ≡ Some run → (running_in asked ≡ Some run → find (is_run_off checking) asked ≡ Some run) → (let o : Option Asked = cond (not b && c) (Some q) (find (is_run_off checking) asked) in o) ≡ Some run
      by_tests true true e f more =
          let it : q ≡ run = cc in let never : true ≡ false = sym e ∙ ap (λ (x : Asked). checking x.nr) it ∙ off in absurd cc
      by_tests false true e f more = f
      by_tests true false e f more = more f
      by_tests false false e f more = more f

-- ---- the whole

module _ (checking : ReqId → Bool) (s : Seen) where
  -- a request
  pub request_read : (req : ReqId) → request_of (unasked checking s) req ≡ option_map (unasked_request checking) (request_of s req)
  request_read req = request_map (unasked_request checking) s.requests req

  -- a request among these
  pub request_in_read : (req : ReqId) → request_in (unasked checking s).requests req ≡ option_map (unasked_request checking) (request_in s.requests req)
  request_in_read req = request_map (unasked_request checking) s.requests req

  -- a document
  pub document_read : (doc : DocId) → document_of (unasked checking s) doc ≡ option_map unhandled (document_of s doc)
  document_read doc = find_map (λ (d : Document). d.nr.0) unhandled doc.0 s.documents (λ d. refl)

  -- a desk
  pub desk_read : (proc : ProcId) → desk_of (unasked checking s) proc ≡ quiet_desk (desk_of s proc)
  desk_read proc = desk_map s.desks proc

  -- a place
  pub place_read : (nav : NavId) → place_of (unasked checking s) nav ≡ place_of s nav
  place_read nav = refl

  -- a test of a document that doesn't read its handler
  pub tested_read : (test : Document → Bool) → ((d : Document) → test (unhandled d) ≡ test d) → (doc : DocId) → holds test (document_of (unasked checking s) doc) ≡ holds test (document_of s doc)
  tested_read test same doc = ap (λ o. holds test o) (document_read doc) ∙ by_found (document_of s doc)
    where
      by_found : (o : Option Document) → holds test (option_map unhandled o) ≡ holds test o
      by_found None = refl
      by_found (Some d) = same d

  -- who is gone
  pub gone_read : (doc : DocId) → is_gone (unasked checking s) doc ≡ is_gone s doc
  gone_read doc = tested_read (λ d. d.is_discarded || d.is_known_dead) (λ d. refl) doc

  -- all that stand
  pub all_stand_read : (step : ℕ) → all_stand (unasked checking s) step ≡ all_stand s step
  all_stand_read step = refl

  -- a place that stands
  pub standing_read : (step : ℕ) (place : Place) → is_standing (unasked checking s).history.rows step place ≡ is_standing s.history.rows step place
  standing_read step place = refl

  -- who stands
  pub stands_read : (step : ℕ) (nav : NavId) → stands (unasked checking s) step nav ≡ stands s step nav
  stands_read step nav = refl

  -- a request that is found comes from one
  pub found_from : (req : ReqId) (q : Asked) → request_of (unasked checking s) req ≡ Some q → (p : Asked) × (request_of s req ≡ Some p) × (q ≡ unasked_request checking p)
  found_from req q found = by_found (request_of s req) refl (sym (request_read req) ∙ found)
    where
      by_found : (o : Option Asked) → request_of s req ≡ o → option_map (unasked_request checking) o ≡ Some q → (p : Asked) × (request_of s req ≡ Some p) × (q ≡ unasked_request checking p)
      by_found None e f = absurd cc
      by_found (Some p) e f = (p, e, let same : q ≡ unasked_request checking p = cc in same)

  -- and has its number
  pub numbered_read : (req : ReqId) → IsNumbered s req → IsNumbered (unasked checking s) req
  numbered_read req numbered q found =
      let from = found_from req q found in
      ap (λ (x : Asked). x.nr) from.2 ∙ same_nr checking from.0 ∙ numbered from.0 from.1

  -- each that is found has passed
  pub passed_read : (req : ReqId) (q : Asked) → request_of (unasked checking s) req ≡ Some q → has_passed (unasked checking s) q ≡ true
  passed_read req q found =
      let from = found_from req q found in
      ap (λ (x : Asked). has_passed (unasked checking s) x) from.2 ∙ passes checking (is_gone (unasked checking s)) from.0

  -- one that is under way isn't in its check
  pub under_way_read : (req : ReqId) (q : Asked) → IsNumbered s req → request_of (unasked checking s) req ≡ Some q → is_under_way q ≡ true → checking req ≡ false
  under_way_read req q numbered found is =
      let from = found_from req q found in
      ap checking (sym (numbered from.0 from.1)) ∙ under_way_off checking from.0 (ap is_under_way (sym from.2) ∙ is)

  -- the traversal under way is the first that isn't in its check
  pub running_read : running_traversal (unasked checking s) ≡ option_map without_asks (find (is_run_off checking) s.requests)
  running_read = running_map checking s.requests

  -- and has passed, whoever is gone
  pub passed_run_read : (gone : DocId → Bool) → passed_in gone (unasked checking s).requests ≡ option_map without_asks (find (is_run_off checking) s.requests)
  passed_run_read gone = passed_map checking gone s.requests

  -- where none is under way, none is
  pub running_none : running_traversal s ≡ None → running_traversal (unasked checking s) ≡ None
  running_none none = running_read ∙ ap (λ o. option_map without_asks o) (none_off checking s.requests none)

  -- one that isn't in its check is the same
  pub running_off : (q : Asked) → running_traversal s ≡ Some q → checking q.nr ≡ false → running_traversal (unasked checking s) ≡ Some (without_asks q)
  running_off q is off =
      running_read ∙ ap (λ o. option_map without_asks o) (first_off checking s.requests q is off)

  -- whom it has shown a document
  pub traversed_read : IsUnheld checking s → (nav : NavId) → is_traversed (unasked checking s) nav ≡ is_traversed s nav
  traversed_read unheld nav = by_run (running_traversal s) refl
    where
      by_check : (q : Asked) (b : Bool) → running_traversal s ≡ Some q → checking q.nr ≡ b → is_traversed (unasked checking s) nav ≡ has_nav q.activated nav
      by_check q true is on = let no_ = unheld q is on in rw (no_.1, no_.0) refl
      by_check q false is off = rw (running_off q is off) refl

      by_run : (o : Option Asked) → running_traversal s ≡ o → is_traversed (unasked checking s) nav ≡ holds (λ (q : Asked). has_nav q.activated nav) o
      by_run None e = rw (running_none e) refl
      by_run (Some q) e = by_check q (checking q.nr) e refl

  -- where one traversal is under way at most, and in its check, none is
  pub alone_none : IsAlone s → (q : Asked) → running_traversal s ≡ Some q → checking q.nr ≡ true → running_traversal (unasked checking s) ≡ None
  alone_none alone q is on =
      let at = find_at (λ (x : Asked). is_under_way x && is_traversal x.what) s.requests q is in
      running_read
      ∙ ap (λ o. option_map without_asks o) (find_none (is_run_off checking) s.requests (λ k p here. by_run p (is_under_way p && is_traversal p.what) refl (λ runs. ap checking (alone (record { 0 = k + 1 }) (record { 0 = at.0 + 1 }) p q (found_in s.requests k p here) (found_in s.requests at.0 q at.1) runs at.2) ∙ on)))
    where
      by_run : (p : Asked) (b : Bool) → (is_under_way p && is_traversal p.what) ≡ b → (b ≡ true → checking p.nr ≡ true) → (not (checking p.nr) && b) ≡ false
      by_run p true e so = ap (λ c. not c && true) (so refl)
      by_run p false e so = ends (checking p.nr)
        where
          ends : (c : Bool) → (not c && false) ≡ false
          ends true = refl
          ends false = refl

  -- so nothing is held back for it, where it has shown nobody a document
  pub alone_unheld : IsAlone s → ((q : Asked) → running_traversal s ≡ Some q → checking q.nr ≡ true → q.activated ≡ []) → IsUnheld checking s
  alone_unheld alone none q is on = (none q is on, alone_none alone q is on)

  -- whom it has moved
  pub moved_read : IsUnmoved checking s → (nav : NavId) → is_moved (unasked checking s) nav ≡ is_moved s nav
  moved_read unmoved nav = by_run (running_traversal s) refl
    where
      by_check : (q : Asked) (b : Bool) → running_traversal s ≡ Some q → checking q.nr ≡ b → is_moved (unasked checking s) nav ≡ has_nav q.moved nav
      by_check q true is on = let no_ = unmoved q is on in rw (no_.1, no_.0) refl
      by_check q false is off = rw (running_off q is off) refl

      by_run : (o : Option Asked) → running_traversal s ≡ o → is_moved (unasked checking s) nav ≡ holds (λ (q : Asked). has_nav q.moved nav) o
      by_run None e = rw (running_none e) refl
      by_run (Some q) e = by_check q (checking q.nr) e refl

  -- where the history is brought to
  pub aim_read : IsPassedOff checking s → aim_of (unasked checking s) ≡ aim_of s
  aim_read off =
      ap aim_at (passed_run_read (is_gone (unasked checking s)))
      ∙ by_found (find (is_run_off checking) s.requests)
      ∙ ap aim_at (find_same (is_run_off checking) (λ q. is_under_way q && is_traversal q.what && has_passed_with (is_gone s) q) s.requests (λ k q at. by_tests q (checking q.nr) (is_under_way q) (is_traversal q.what) refl refl (off (record { 0 = k + 1 }) q (found_in s.requests k q at))))
    where
      aim_at : Option Asked → ℕ
      aim_at o =
          option_map_or (λ (q : Asked). option_map_or (λ (goal : Step). used_step_at s.history.rows goal.0) q.goal s.history.current) o s.history.current

      by_found : (o : Option Asked) → aim_at (option_map without_asks o) ≡ aim_at o
      by_found None = refl
      by_found (Some q) = refl

      by_tests : (q : Asked) (b c t : Bool) → is_under_way q ≡ c → is_traversal q.what ≡ t → ((c && t) ≡ true → has_passed s q ≡ not b) → (not b && (c && t)) ≡ (c && t && has_passed s q)
      by_tests q b true true e f is = ends b ∙ sym (is refl)
        where
          ends : (b : Bool) → (not b && true) ≡ not b
          ends true = refl
          ends false = refl
      by_tests q b true false e f is = ends b
        where
          ends : (b : Bool) → (not b && false) ≡ false
          ends true = refl
          ends false = refl
      by_tests q b false t e f is = ends b
        where
          ends : (b : Bool) → (not b && false) ≡ false
          ends true = refl
          ends false = refl

  -- the pair that a navigable is to be told
  pub due_pair_read : IsPassedOff checking s → IsUnmoved checking s → (nav : NavId) → due_pair (unasked checking s) nav ≡ due_pair s nav
  due_pair_read off unmoved nav =
      λ i. pair_in s.history.rows (cond (moved_read unmoved nav i) (aim_read off i) s.history.current)
