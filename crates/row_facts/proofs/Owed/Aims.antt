-- What rows leave of the step that the history is brought to.
use Rattle.seen_facts.proofs.Each.Runs.{at_place}
use Rattle.seen_facts.specs.Each.Runs.{is_run}
use Rattle.log_model.specs.After.{ended}
use Rattle.log_model.specs.History.{History, used_step_at}
use Rattle.log_model.specs.Places.{aim_with, has_passed_with, is_gone, is_traversal, is_under_way, passed_in}
use Rattle.log_model.specs.Seen.{Asked, Seen, request_in, request_of}
use Rattle.log_model.specs.declared.outcome.Ending.{Ending}
use Rattle.row_facts.proofs.Owed.Requests.{found_read}
use Rattle.seen_facts.specs.Asked.Asking.{HavePassed}
use Rattle.seen_facts.proofs.Request.Readers.{IsBlind, SameReads}
use Rattle.std.proofs.Common.{Bool, List, None, Option, Some, [], ap, cond, false, refl, sym, true, ℕ, suc, ◌+◌, ◌&&◌, ◌∙◌, ◌∷◌, ◌≡◌}
use Rattle.std.proofs.lemmas.Bool.{and_left}
use Rattle.std.proofs.lemmas.Option.{same_Some}
use Rattle.std.specs.Option.{option_map_or}
use Rattle.std.specs.Prelude.{option_map, slice_get}
use Rattle.tab_ids.specs.declared.DocId.{DocId}
use Rattle.tab_ids.specs.declared.ReqId.{ReqId}
use Rattle.tab_ids.specs.declared.Step.{Step}

-- ---- where the running traversal leads, once it has passed

-- the request is a traversal under way that has passed, where these documents are gone
abbrev pub is_leading : (DocId → Bool) → Asked → Bool
is_leading gone q = is_under_way q && is_traversal q.what && has_passed_with gone q

-- a goal, if there is to be one
abbrev pub goal_if : Bool → Option Step → Option (Option Step)
goal_if true goal = Some goal
goal_if false goal = None

-- its goal then
abbrev pub leads_to : (DocId → Bool) → Asked → Option (Option Step)
leads_to gone q = goal_if (is_leading gone q) q.goal

-- the history, and which documents are gone before and then
module _ (gone then_gone : DocId → Bool) (h : History) where
  -- the step of a goal
  abbrev step_to : Option Step → ℕ
  step_to goal = option_map_or (λ (step : Step). used_step_at h.rows step.0) goal h.current

  -- the step is the same where the requests at each place lead to the same
  aims_at : (asked next_ : List Asked) → ((i : ℕ) → option_map (leads_to then_gone) (slice_get next_ i) ≡ option_map (leads_to gone) (slice_get asked i)) → aim_with then_gone next_ h ≡ aim_with gone asked h
  aims_at [] [] same = refl
  aims_at [] (r ∷ next_) same = let first = same 0 in cc
  aims_at (q ∷ asked) [] same = let first = same 0 in cc
  aims_at (q ∷ asked) (r ∷ next_) same =
      by_tests (is_leading gone q) (is_leading then_gone r) (same_Some _ _ (same 0)) (aims_at asked next_ (λ i. same (suc i)))
    where
      by_tests : (b c : Bool) → goal_if c r.goal ≡ goal_if b q.goal → aim_with then_gone next_ h ≡ aim_with gone asked h → option_map_or (λ (x : Asked). step_to x.goal) (cond c (Some r) (passed_in then_gone next_)) h.current ≡ option_map_or (λ (x : Asked). step_to x.goal) (cond b (Some q) (passed_in gone asked)) h.current
      by_tests true true is rest = ap step_to (same_Some _ _ is)
      by_tests false false is rest = rest
      by_tests true false is rest = cc
      by_tests false true is rest = cc

  -- so it is where the requests of each number do
  pub aims_alike : (asked next_ : List Asked) → ((req : ReqId) → option_map (leads_to then_gone) (request_in next_ req) ≡ option_map (leads_to gone) (request_in asked req)) → aim_with then_gone next_ h ≡ aim_with gone asked h
  aims_alike asked next_ same =
      aims_at asked next_ (λ i. ap (λ (o : Option Asked). option_map (leads_to then_gone) o) (sym (at_place next_ i)) ∙ same (record { 0 = i + 1 }) ∙ ap (λ (o : Option Asked). option_map (leads_to gone) o) (at_place asked i))

-- ---- a request ends

-- where it isn't the running traversal the aim stays
pub ended_aim : (gone : DocId → Bool) (h : History) (asked : List Asked) (req : ReqId) (ending : Ending) → ((q : Asked) → request_in asked req ≡ Some q → is_run q ≡ false) → aim_with gone (ended asked req ending) h ≡ aim_with gone asked h
ended_aim gone h asked req ending idle =
    aims_alike gone gone h asked (ended asked req ending) (found_read (leads_to gone) asked req (λ q. record q { ending = Some ending }) leads_nowhere)
  where
    not_then : (a b c : Bool) → (((a && false) && b) && c) ≡ false
    not_then true b c = refl
    not_then false b c = refl

    leads_nowhere : (q : Asked) → request_in asked req ≡ Some q → leads_to gone (record q { ending = Some ending }) ≡ leads_to gone q
    leads_nowhere q at =
        let before : is_leading gone q ≡ false = and_left (is_run q) (has_passed_with gone q) (idle q at) in
        let then_ : is_leading gone (record q { ending = Some ending }) ≡ false = not_then q.is_started (is_traversal q.what) (has_passed_with gone q) in
        rw (before, then_) refl

-- ---- where all have passed their checks

-- where a traversal under way leads, once it has passed
abbrev pub would_lead : Asked → Option (Option Step)
would_lead q = goal_if (is_under_way q && is_traversal q.what) q.goal

-- no order changes this
pub would_blind : IsBlind would_lead
would_blind =
    record {
      moves = λ q activated moved. refl;
      asks = λ q asks. refl;
      fragments = λ q doc. refl;
      misses = λ q is. refl;
    }

-- it is where the request leads
passed_leads : (s : Seen) → HavePassed s → (req : ReqId) → option_map (leads_to (is_gone s)) (request_of s req) ≡ option_map would_lead (request_of s req)
passed_leads s passed req = by_found (request_of s req) refl
  where
    and_true : (b : Bool) → (b && true) ≡ b
    and_true true = refl
    and_true false = refl

    by_found : (o : Option Asked) → request_of s req ≡ o → option_map (leads_to (is_gone s)) o ≡ option_map would_lead o
    by_found None at = refl
    by_found (Some q) at =
        let passes : has_passed_with (is_gone s) q ≡ true = passed req q at in
        rw passes (ap (λ (b : Bool). let o : Option (Option (Option Step)) = Some (goal_if b q.goal) in o) (and_true (is_under_way q && is_traversal q.what)))

-- so it doesn't matter which documents are gone
pub passed_aim : (s t : Seen) → HavePassed s → HavePassed t → SameReads would_lead s.requests t.requests → (h : History) → aim_with (is_gone t) t.requests h ≡ aim_with (is_gone s) s.requests h
passed_aim s t before then_ same h =
    aims_alike (is_gone s) (is_gone t) h s.requests t.requests (λ req. passed_leads t then_ req ∙ same req ∙ sym (passed_leads s before req))
