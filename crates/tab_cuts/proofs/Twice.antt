-- What a log would have come to had nobody been asked, taken twice: it is the same, where those in their checks are then among those that were before.
use Rattle.log_model.specs.Seen.{Asked, Desk, Seen}
use Rattle.log_model.specs.declared.job.Job.{Job}
use Rattle.log_model.specs.declared.job.Order.{Order}
use Rattle.log_model.specs.declared.made.Report.{Report}
use Rattle.log_model.specs.declared.made.Report.TheVariants as reports
use Rattle.log_model.specs.declared.outcome.Outcome.{Outcome}
use Rattle.log_model.specs.declared.outcome.Outcome.TheVariants as outcomes
use Rattle.seen_laws.specs.Unasked.{is_question, no_answer, no_question, no_question_in_hand, quiet_desk, unasked, unasked_request, unhandled, without_slot}
use Rattle.std.proofs.Common.{Bool, List, None, Option, Some, [], ap, false, map, not, refl, subst, sym, true, ◌∙◌, ◌∷◌, ◌≡◌}
use Rattle.std.specs.List.{filter_map}
use Rattle.std.specs.Prelude.{filter, option_and_then}
use Rattle.tab_ids.specs.declared.ReqId.{ReqId}

-- ---- lists

filter_twice : {A : Type 0} (test : A → Bool) (xs : List A) → filter test (filter test xs) ≡ filter test xs
filter_twice test [] = refl
filter_twice test (x ∷ xs) = by_test (test x) refl (filter_twice test xs)
  where
    by_test : (b : Bool) → test x ≡ b → filter test (filter test xs) ≡ filter test xs → filter test (filter test (x ∷ xs)) ≡ filter test (x ∷ xs)
    by_test true is rest = rw is (rw is (ap (λ l. x ∷ l) rest))
    by_test false is rest = rw is rest

-- what is left is left again
map_twice : {A : Type 0} (f : A → Option A) → ((x y : A) → f x ≡ Some y → f y ≡ Some y) → (xs : List A) → filter_map f (filter_map f xs) ≡ filter_map f xs
map_twice f same [] = refl
map_twice f same (x ∷ xs) = by_left (f x) refl (map_twice f same xs)
  where
    by_left : (o : Option _) → f x ≡ o → filter_map f (filter_map f xs) ≡ filter_map f xs → filter_map f (filter_map f (x ∷ xs)) ≡ filter_map f (x ∷ xs)
    by_left None is rest = rw is rest
    by_left (Some y) is rest = rw is (rw (same x y is) (ap (λ l. y ∷ l) rest))

-- ---- orders and reports

question_twice : (o : Option Job) → option_and_then no_question (option_and_then no_question o) ≡ option_and_then no_question o
question_twice None = refl
question_twice (Some job) = by_task (is_question job.task) refl
  where
    by_task : (b : Bool) → is_question job.task ≡ b → option_and_then no_question (no_question job) ≡ no_question job
    by_task true is = rw is refl
    by_task false is = rw is (rw is refl)

hand_twice : (o : Option Order) → option_and_then no_question_in_hand (option_and_then no_question_in_hand o) ≡ option_and_then no_question_in_hand o
hand_twice None = refl
hand_twice (Some order) = by_task (is_question order.job.task) refl
  where
    by_task : (b : Bool) → is_question order.job.task ≡ b → option_and_then no_question_in_hand (no_question_in_hand order) ≡ no_question_in_hand order
    by_task true is = rw is refl
    by_task false is = rw is (rw is refl)

slot_twice : (o : Outcome) → without_slot (without_slot o) ≡ without_slot o
slot_twice (outcomes.Populated slot) = refl
slot_twice outcomes.Activated = refl
slot_twice outcomes.Updated = refl
slot_twice outcomes.Frozen = refl
slot_twice outcomes.Discarded = refl
slot_twice (outcomes.Asked verdict) = refl
slot_twice outcomes.Fragmented = refl

answer_twice : (x y : Report) → no_answer x ≡ Some y → no_answer y ≡ Some y
answer_twice (reports.Done job outcome made) y is = by_task (is_question job.task) refl
  where
    by_task : (b : Bool) → is_question job.task ≡ b → no_answer y ≡ Some y
    by_task true asks =
        let none : no_answer (reports.Done job outcome made) ≡ None = rw asks refl in
        let never : (let o : Option Report = None in o) ≡ Some y = sym none ∙ is in
        absurd cc
    by_task false asks =
        let left : no_answer (reports.Done job outcome made) ≡ Some (reports.Done job (without_slot outcome) made) = rw asks refl in
        let both : (let o : Option Report = Some (reports.Done job (without_slot outcome) made) in o) ≡ Some y = sym left ∙ is in
        let it : reports.Done job (without_slot outcome) made ≡ y = cc in
        let again : no_answer (reports.Done job (without_slot outcome) made) ≡ Some (reports.Done job (without_slot outcome) made) = rw asks (ap (λ (o : Outcome). let r : Option Report = Some (reports.Done job o made) in r) (slot_twice outcome)) in
        subst (λ (r : Report). no_answer r ≡ Some r) it again
answer_twice x y is = cc

desk_twice : (desk : Desk) → quiet_desk (quiet_desk desk) ≡ quiet_desk desk
desk_twice desk =
    λ i. record (quiet_desk desk) {
      mail = filter_twice (λ (job : Job). not (is_question job.task)) desk.mail i;
      in_hand = hand_twice desk.in_hand i;
      reports = map_twice no_answer answer_twice desk.reports i;
    }

-- ---- the whole

each_twice : {A : Type 0} (f g : A → A) → ((x : A) → g (f x) ≡ f x) → (xs : List A) → map g (map f xs) ≡ map f xs
each_twice f g same [] = refl
each_twice f g same (x ∷ xs) = λ i. same x i ∷ each_twice f g same xs i

-- those in their checks now were in them before
abbrev pub AreAmong : (ReqId → Bool) → (ReqId → Bool) → Type 0
AreAmong now was = (req : ReqId) → now req ≡ true → was req ≡ true

module _ (checking entered : ReqId → Bool) (among : AreAmong checking entered) where
  request_twice : (q : Asked) → unasked_request checking (unasked_request entered q) ≡ unasked_request entered q
  request_twice q = by_before (entered q.nr) (checking q.nr) refl refl
    where
      by_before : (b c : Bool) → entered q.nr ≡ b → checking q.nr ≡ c → unasked_request checking (unasked_request entered q) ≡ unasked_request entered q
      by_before true true was is = rw was (rw is refl)
      by_before true false was is = rw was (rw is refl)
      by_before false false was is = rw was (rw is refl)
      by_before false true was is = absurd (let never : false ≡ true = sym was ∙ among q.nr is in cc)

  pub unasked_twice : (s : Seen) → unasked checking (unasked entered s) ≡ unasked entered s
  unasked_twice s =
      λ i. record (unasked entered s) {
        documents = each_twice unhandled unhandled (λ d. refl) s.documents i;
        desks = each_twice quiet_desk quiet_desk desk_twice s.desks i;
        requests = each_twice (unasked_request entered) (unasked_request checking) request_twice s.requests i;
        just_finished = question_twice s.just_finished i;
      }
