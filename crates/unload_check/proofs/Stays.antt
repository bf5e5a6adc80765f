-- What a call leaves as it was: the checks of other requests, and those that are settled.
use Rattle.std.proofs.Common.{◌≡◌, Bool, true, false, not, List, [], ◌∷◌, Option, Some, Result, Ok, Err, OnOk, refl, ap, arith, cond, if◌then◌else◌}
use Rattle.std.proofs.lemmas.Bool.Decides.{nat_tests}
use Rattle.std.specs.Option.{option_map_or}
use Rattle.std.specs.Prelude.{option_map}
use Rattle.tab_ids.specs.declared.DocId.{DocId}
use Rattle.tab_ids.specs.declared.ReqId.{ReqId}
use Rattle.log_model.specs.declared.handler.Verdict.{Verdict}
use Rattle.unload_check.specs.Checks.{OpenCheck, is_req, is_settled, check_of, begun, changed, ended, after_answer, after_deaths, after_all_deaths, KeepsOthers, KeepsSettled}

-- what is of one request isn't of another
apart : (req other key : ReqId) → is_req other req ≡ false → is_req req key ≡ true → is_req other key ≡ false
apart req other key differs same = grind (arith, nat_tests, differs, same)

pub others_begun : (req : ReqId) (check : OpenCheck) (es : List (ReqId × OpenCheck)) → KeepsOthers req es (begun req check es)
others_begun req check [] other differs = rw differs refl
others_begun req check (e ∷ es) other differs =
    (elim (is_req req e.0) as (λ b. is_req req e.0 ≡ b → check_of other (if b then (e.0, check) ∷ es else e ∷ begun req check es) ≡ check_of other (e ∷ es)) [
      | true ↦ λ same. rw (apart req other e.0 differs same) refl
      | false ↦ λ _. ap (λ rest. cond (is_req other e.0) (Some e.1) rest) (others_begun req check es other differs)
    ]) refl

pub others_changed : (req : ReqId) (f : OpenCheck → OpenCheck) (es : List (ReqId × OpenCheck)) → KeepsOthers req es (changed req f es)
others_changed req f [] other differs = refl
others_changed req f (e ∷ es) other differs =
    (elim (is_req req e.0) as (λ b. is_req req e.0 ≡ b → check_of other (if b then (e.0, f e.1) ∷ es else e ∷ changed req f es) ≡ check_of other (e ∷ es)) [
      | true ↦ λ same. rw (apart req other e.0 differs same) refl
      | false ↦ λ _. ap (λ rest. cond (is_req other e.0) (Some e.1) rest) (others_changed req f es other differs)
    ]) refl

pub others_ended : (req : ReqId) (es : List (ReqId × OpenCheck)) → KeepsOthers req es (ended req es)
others_ended req [] other differs = refl
others_ended req (e ∷ es) other differs =
    (elim (is_req req e.0) as (λ b. is_req req e.0 ≡ b → check_of other (cond (not b) (e ∷ ended req es) (ended req es)) ≡ check_of other (e ∷ es)) [
      | true ↦ λ same. rw (apart req other e.0 differs same) (others_ended req es other differs)
      | false ↦ λ _. ap (λ rest. cond (is_req other e.0) (Some e.1) rest) (others_ended req es other differs)
    ]) refl

-- ---- settled checks

-- a change that leaves settled checks leaves them in the table
settled_changed : (req : ReqId) (f : OpenCheck → OpenCheck) → ((check : OpenCheck) → is_settled check ≡ true → f check ≡ check) → (es : List (ReqId × OpenCheck)) → KeepsSettled es (changed req f es)
settled_changed req f stays [] other settled = refl
settled_changed req f stays (e ∷ es) other settled =
    elim (is_req req e.0) as (λ b. check_of other (if b then (e.0, f e.1) ∷ es else e ∷ changed req f es) ≡ check_of other (e ∷ es)) [
      | true ↦ (elim (is_req other e.0) as (λ b. option_map_or is_settled (cond b (Some e.1) (check_of other es)) false ≡ true → cond b (Some (f e.1)) (check_of other es) ≡ cond b (Some e.1) (check_of other es)) [
        | true ↦ λ is. ap (λ (c : OpenCheck). Some c) (stays e.1 is)
        | false ↦ λ _. refl
      ]) settled
      | false ↦ (elim (is_req other e.0) as (λ b. option_map_or is_settled (cond b (Some e.1) (check_of other es)) false ≡ true → cond b (Some e.1) (check_of other (changed req f es)) ≡ cond b (Some e.1) (check_of other es)) [
        | true ↦ λ _. refl
        | false ↦ λ is. settled_changed req f stays es other is
      ]) settled
    ]

answer_stays : (doc : DocId) (verdict : Verdict) (check : OpenCheck) → is_settled check ≡ true → after_answer doc verdict check ≡ check
answer_stays doc verdict check settled = rw settled refl

pub settled_answer : (req : ReqId) (doc : DocId) (verdict : Verdict) (es : List (ReqId × OpenCheck)) → KeepsSettled es (changed req (after_answer doc verdict) es)
settled_answer req doc verdict es = settled_changed req (after_answer doc verdict) (answer_stays doc verdict) es

deaths_stay : (docs : List DocId) (check : OpenCheck) → is_settled check ≡ true → after_deaths docs check ≡ check
deaths_stay docs check settled = rw settled refl

pub settled_deaths : (docs : List DocId) (es : List (ReqId × OpenCheck)) → KeepsSettled es (after_all_deaths docs es)
settled_deaths docs [] other settled = refl
settled_deaths docs (e ∷ es) other settled =
    (elim (is_req other e.0) as (λ b. option_map_or is_settled (cond b (Some e.1) (check_of other es)) false ≡ true → cond b (Some (after_deaths docs e.1)) (check_of other (after_all_deaths docs es)) ≡ cond b (Some e.1) (check_of other es)) [
      | true ↦ λ is. ap (λ (c : OpenCheck). Some c) (deaths_stay docs e.1 is)
      | false ↦ λ is. settled_deaths docs es other is
    ]) settled

-- ---- the check of one request, after deaths

pub check_dead : (req : ReqId) (docs : List DocId) (es : List (ReqId × OpenCheck)) → check_of req (after_all_deaths docs es) ≡ option_map (after_deaths docs) (check_of req es)
check_dead req docs [] = refl
check_dead req docs (e ∷ es) = by_test (is_req req e.0) (check_dead req docs es)
  where
    by_test : (b : Bool) → check_of req (after_all_deaths docs es) ≡ option_map (after_deaths docs) (check_of req es) → cond b (Some (after_deaths docs e.1)) (check_of req (after_all_deaths docs es)) ≡ option_map (after_deaths docs) (cond b (Some e.1) (check_of req es))
    by_test true more = refl
    by_test false more = more

-- what follows from a fact for an Ok holds for it
pub on_ok : {T E : Type 0} (r : Result T E) (P Q : Type 0) → (P → Q) → OnOk r P → OnOk r Q
on_ok (Ok x) P Q f p = f p
on_ok (Err e) P Q f p = p
