-- The log without questions, where one request more is taken as unbegun: it is that by the checks which have this one, too; and brought to a step it is the same without questions.
use Rattle.checking_facts.proofs.Grown.{req_same}
use Rattle.checking_facts.specs.Checks.{SameBut, just}
use Rattle.log_model.specs.Places.{aim_of}
use Rattle.log_model.specs.Seen.{Asked, Seen}
use Rattle.seen_laws.specs.InEvent.{InEvent}
use Rattle.seen_laws.specs.Unasked.{unasked, unasked_request}
use Rattle.std.proofs.Common.{Bool, List, [], ap, false, map, refl, sym, true, ℕ, ◌==◌, ◌||◌, ◌∙◌, ◌∷◌, ◌≡◌}
use Rattle.tab_cuts.proofs.Twice.{unasked_twice}
use Rattle.tab_ids.specs.declared.ReqId.{ReqId}
use Rattle.tab_midway.specs.Owing.{brought_to, due_without, closed}
use Rattle.unasked_dues.proofs.Base.{aim_same}
use Rattle.unasked_dues.specs.Checking.{IsAimed}

-- ---- two kinds of checks, one after the other

module _ (a b c : ReqId → Bool) (both : (r : ReqId) → (a r || b r) ≡ c r) where
  request_both : (q : Asked) → unasked_request a (unasked_request b q) ≡ unasked_request c q
  request_both q = by_tests (a q.nr) (b q.nr) refl refl
    where
      by_tests : (x y : Bool) → a q.nr ≡ x → b q.nr ≡ y → unasked_request a (unasked_request b q) ≡ unasked_request c q
      by_tests true true in_a in_b =
          let in_c : c q.nr ≡ true = sym (both q.nr) ∙ rw in_a refl in rw in_b (rw in_a (rw in_c refl))
      by_tests true false in_a in_b =
          let in_c : c q.nr ≡ true = sym (both q.nr) ∙ rw in_a refl in rw in_b (rw in_a (rw in_c refl))
      by_tests false true in_a in_b =
          let in_c : c q.nr ≡ true = sym (both q.nr) ∙ rw (in_a, in_b) refl in rw in_b (rw in_a (rw in_c refl))
      by_tests false false in_a in_b =
          let off_c : c q.nr ≡ false = sym (both q.nr) ∙ rw (in_a, in_b) refl in rw in_b (rw in_a (rw off_c refl))

  requests_both : (asked : List Asked) → map (unasked_request a) (map (unasked_request b) asked) ≡ map (unasked_request c) asked
  requests_both [] = refl
  requests_both (q ∷ asked) = λ i. request_both q i ∷ requests_both asked i

  -- are both together
  pub unasked_both : (s : Seen) → unasked a (unasked b s) ≡ unasked c s
  unasked_both s =
      λ i. record (unasked c s) {
        documents = ap (λ (x : Seen). x.documents) twice i;
        desks = ap (λ (x : Seen). x.desks) twice i;
        requests = requests_both s.requests i;
        just_finished = ap (λ (x : Seen). x.just_finished) twice i;
      }
    where
      twice : unasked b (unasked b s) ≡ unasked b s
      twice = unasked_twice b b (λ r on. on) s

-- ---- brought to a step

module _ (checking : ReqId → Bool) where
  closed_bare : (q : Asked) → unasked_request checking (closed (unasked_request checking q)) ≡ closed (unasked_request checking q)
  closed_bare q = by_test (checking q.nr) refl
    where
      by_test : (b : Bool) → checking q.nr ≡ b → unasked_request checking (closed (unasked_request checking q)) ≡ closed (unasked_request checking q)
      by_test true is = rw is (rw is refl)
      by_test false is = rw is (rw is refl)

  each_closed : (asked : List Asked) → map (unasked_request checking) (map closed (map (unasked_request checking) asked)) ≡ map closed (map (unasked_request checking) asked)
  each_closed [] = refl
  each_closed (q ∷ asked) = λ i. closed_bare q i ∷ each_closed asked i

  -- nobody is asked there
  pub brought_bare : (step : ℕ) (s : Seen) → unasked checking (brought_to step (unasked checking s)) ≡ brought_to step (unasked checking s)
  brought_bare step s =
      λ i. record (brought_to step (unasked checking s)) {
        documents = ap (λ (x : Seen). x.documents) twice i;
        desks = ap (λ (x : Seen). x.desks) twice i;
        requests = each_closed s.requests i;
        just_finished = ap (λ (x : Seen). x.just_finished) twice i;
      }
    where
      twice : unasked checking (unasked checking s) ≡ unasked checking s
      twice = unasked_twice checking checking (λ r on. on) s

-- ---- what is due

module _ (e : InEvent) (req : ReqId) (passed : ReqId → Bool) (same : SameBut req e.checking passed) (on : e.checking req ≡ true) where
  -- those in their checks were this one, and those that are
  pub with_it : (r : ReqId) → (just req r || passed r) ≡ e.checking r
  with_it r = by_number (r.0 == req.0) refl
    where
      by_number : (b : Bool) → (r.0 == req.0) ≡ b → (r.0 == req.0 || passed r) ≡ e.checking r
      by_number true is = rw is (sym (ap e.checking (req_same r req is) ∙ on))
      by_number false apart = rw apart (same r apart)

  -- so it is read by the checks before, of the log brought to where it is brought
  pub due_is : (end : Seen) → IsAimed passed end → due_without e req (unasked passed end) ≡ e.due (unasked e.checking (brought_to (aim_of end) (unasked e.checking end)))
  unfolding due_without
  due_is end aimed =
      ap (λ (n : ℕ). e.due (brought_to n (unasked (just req) (unasked passed end)))) (aim_same passed end aimed)
      ∙ ap (λ (x : Seen). e.due (brought_to (aim_of end) x)) (unasked_both (just req) passed e.checking with_it end)
      ∙ ap e.due (sym (brought_bare e.checking (aim_of end) end))
