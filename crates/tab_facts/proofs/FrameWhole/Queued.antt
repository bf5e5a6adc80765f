-- The traversal that runs is in the queue until it ends.
use Rattle.seen_facts.proofs.Coord.Unread.{next}
use Rattle.tab_facts.proofs.FrameWhole.Refusing.{turn_joined}
use Rattle.tab_facts.specs.FrameWhole.Beside.{IsQueued}
use Rattle.log_model.specs.AfterRequests.{joined_accepted, joined_delivered, made_of_report, without_req}
use Rattle.log_model.specs.Equal.{has_req}
use Rattle.log_model.specs.Queue.{begins_in_turn}
use Rattle.log_model.specs.Seen.{Seen, desk_of}
use Rattle.log_model.specs.declared.made.Made.{Made}
use Rattle.log_model.specs.declared.made.What.{What}
use Rattle.log_model.specs.declared.request.Request.{Request}
use Rattle.log_model.specs.declared.row_kind.Actor.{Actor}
use Rattle.log_model.specs.declared.row_kind.RowKind.{RowKind}
use Rattle.seen_facts.specs.Each.Runs.{is_this}
use Rattle.seen_laws.proofs.Sums.{over}
use Rattle.std.proofs.Common.{Bool, List, None, Option, Some, [], ap, arith, cond, false, not, refl, subst, sym, true, ℕ, ◌++◌, ◌==◌, ◌||◌, ◌∙◌, ◌∷◌, ◌≡◌}
use Rattle.std.proofs.lemmas.Bool.Decides.{nat_tests}
use Rattle.std.specs.Prelude.{option_and_then, slice_get}
use Rattle.tab_ids.specs.declared.ReqId.{ReqId}
use Rattle.tab_ids.specs.declared.Step.{Step}
use Rattle.log_model.specs.declared.made.What.TheVariants as whats
use Rattle.log_model.specs.declared.request.Request.TheVariants as requests
use Rattle.log_model.specs.declared.row_kind.RowKind.TheVariants as rows

has_more_req : (reqs : List ReqId) (new req : ReqId) → has_req reqs req ≡ true → has_req (reqs ++ new ∷ []) req ≡ true
has_more_req [] new req has = absurd cc
has_more_req (r ∷ reqs) new req has = by_test (r.0 == req.0) has (has_more_req reqs new req)
  where
    by_test : (b : Bool) → (b || has_req reqs req) ≡ true → (has_req reqs req ≡ true → has_req (reqs ++ new ∷ []) req ≡ true) → (b || has_req (reqs ++ new ∷ []) req) ≡ true
    by_test true e more = refl
    by_test false e more = more e

has_less_req : (reqs : List ReqId) (gone req : ReqId) → (req.0 == gone.0) ≡ false → has_req reqs req ≡ true → has_req (without_req gone reqs) req ≡ true
has_less_req [] gone req apart has = absurd cc
has_less_req (r ∷ reqs) gone req apart has = by_tests (r.0 == gone.0) (r.0 == req.0) refl refl has (has_less_req reqs gone req apart)
  where
    by_tests : (a b : Bool) → (r.0 == gone.0) ≡ a → (r.0 == req.0) ≡ b → (b || has_req reqs req) ≡ true → (has_req reqs req ≡ true → has_req (without_req gone reqs) req ≡ true) → has_req (cond (not a) (r ∷ without_req gone reqs) (without_req gone reqs)) req ≡ true
    by_tests true true e f h more = (let yes : (req.0 == gone.0) ≡ true = grind (arith, nat_tests, e, f) in let never : true ≡ false = sym yes ∙ apart in absurd cc)
    by_tests true false e f h more = more h
    by_tests false true e f h more = ap (λ (b : Bool). b || has_req (without_req gone reqs) req) f
    by_tests false false e f h more = ap (λ (b : Bool). b || has_req (without_req gone reqs) req) f ∙ more h

-- the row doesn't end the traversal that runs
abbrev pub LeavesRun : Option ReqId → RowKind → Type 0
LeavesRun run (rows.Applied req change) = is_this run req ≡ false
LeavesRun run (rows.Refused req reason) = is_this run req ≡ false
LeavesRun run (rows.Dropped req cause) = is_this run req ≡ false
LeavesRun run _ = Unit {0}

module _ (run : Option ReqId) (s : Seen) (event : ℕ) (actor : Actor) (queued : IsQueued run s) where
  ended_queued : (gone : ReqId) → is_this run gone ≡ false → (req : ReqId) → run ≡ Some req → has_req (without_req gone s.joined) req ≡ true
  ended_queued gone other req is =
      has_less_req s.joined gone req (sym (ap (λ (o : Option ReqId). is_this o gone) is) ∙ other) (queued req is)

  joins : (o : Option Made) (req : ReqId) → has_req s.joined req ≡ true → has_req (joined_delivered s.joined o) req ≡ true
  joins None req has = has
  joins (Some made) req has = by_what made.what refl
    where
      by_what : (what : What) → made.what ≡ what → has_req (joined_delivered s.joined (Some made)) req ≡ true
      by_what (whats.Go delta) e = rw e (has_more_req s.joined made.req req has)
      by_what (whats.Push entry memo address) e = rw e has
      by_what (whats.Replace over entry memo address) e = rw e has
      by_what (whats.AddFrame nav) e = rw e has
      by_what (whats.RemoveFrame nav) e = rw e has
      by_what whats.Edit e = rw e has

  accepted : (new : ReqId) (what : Request) (req : ReqId) → has_req s.joined req ≡ true → has_req (joined_accepted s.joined new what) req ≡ true
  accepted new (requests.Go delta) req has = has_more_req s.joined new req has
  accepted new (requests.Reload nav) req has = has_more_req s.joined new req has
  accepted new (requests.Poke nav action) req has = has
  accepted new (requests.Load nav mode address) req has = has

  pub queued_after : (kind : RowKind) → LeavesRun run kind → IsQueued run (next s event actor kind)
  queued_after (rows.Applied gone change) other req is = ended_queued gone other req is
  queued_after (rows.Refused gone reason) other req is = ended_queued gone other req is
  queued_after (rows.Dropped gone cause) other req is = ended_queued gone other req is
  queued_after (rows.Accepted new doc what) other req is = accepted new what req (queued req is)
  queued_after (rows.Delivered proc) other req is = joins (option_and_then made_of_report (slice_get (desk_of s proc).reports 0)) req (queued req is)
  queued_after (rows.Opened entry state doc proc slot address) other req is = queued req is
  queued_after (rows.Started r goal) other req is = queued req is
  queued_after (rows.Sent job) other req is = queued req is
  queued_after (rows.Prompted r doc) other req is = queued req is
  queued_after (rows.Answered r stay) other req is = queued req is
  queued_after (rows.Evicted state) other req is = queued req is
  queued_after (rows.Killed proc death) other req is = queued req is
  queued_after (rows.Taken proc job live dirty) other req is = queued req is
  queued_after (rows.Finished proc job outcome) other req is = queued req is
  queued_after (rows.Made proc made) other req is = queued req is

-- one that begins in its turn is there
pub queued_begun : (s : Seen) (event : ℕ) (actor : Actor) (req : ReqId) (goal : Option Step) → begins_in_turn s req ≡ true → IsQueued (Some req) (next s event actor (rows.Started req goal))
queued_begun s event actor req goal turn r is =
    let same : req ≡ r = cc in
    subst (λ (x : ReqId). has_req s.joined x ≡ true) same (turn_joined s req turn)

-- where none runs, none is missed
pub queued_none : (s : Seen) → IsQueued None s
queued_none s req is = absurd cc
