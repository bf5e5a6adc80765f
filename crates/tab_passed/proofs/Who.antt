-- Who is in its check once a request has passed: those that were, but for it.
use Rattle.checking_facts.specs.Checks.{SameBut}
use Rattle.load_table.specs.declared.load.Load.{Load}
use Rattle.log_model.proofs.Refl.{nat_eq_refl}
use Rattle.log_model.specs.Places.{is_load, is_traversal}
use Rattle.log_model.specs.Seen.{Asked, request_of}
use Rattle.seen_laws.specs.InEvent.{InEvent}
use Rattle.std.proofs.Common.{Bool, List, Some, ap, false, not, true, ◌&&◌, ◌∙◌, ◌≡◌}
use Rattle.tab_doors.proofs.AskingLoads.{asking_passed}
use Rattle.tab_doors.proofs.Keeping.{no_load_at, traversal_no_load}
use Rattle.tab_ids.specs.declared.ReqId.{ReqId}
use Rattle.tab_ids.specs.declared.Step.{Step}
use Rattle.tab_passed.specs.Passing.{IsToPass, LeavesAsking, PassesCheck, without}

pub without_off : (was : ReqId → Bool) (req : ReqId) → without was req req ≡ false
without_off was req = ap (λ (b : Bool). not b && was req) (nat_eq_refl req.0)

pub without_same : (was : ReqId → Bool) (req : ReqId) → SameBut req was (without was req)
without_same was req r apart = ap (λ (b : Bool). not b && was r) apart

-- so of an event with these in their checks
pub passes_check : (was : ReqId → Bool) (e : InEvent) (req : ReqId) (q : Asked) → e.checking ≡ without was req → request_of e.start req ≡ Some q → was req ≡ true → PassesCheck was e req q
passes_check was e req q is at on =
    record {
      at = at;
      on = on;
      off = ap (λ (c : ReqId → Bool). c req) is ∙ without_off was req;
      same = λ r apart. ap (λ (c : ReqId → Bool). c r) is ∙ without_same was req r apart;
    }

pub to_pass : (was : ReqId → Bool) (e : InEvent) (req : ReqId) (q : Asked) (goal : Step) → e.checking ≡ without was req → request_of e.start req ≡ Some q → is_traversal q.what ≡ true → q.goal ≡ Some goal → was req ≡ true → IsToPass was e req q goal
to_pass was e req q goal is at goes to on =
    record { passes = passes_check was e req q is at on; goes = goes; to = to }

-- a traversal that passes is none of the loads in their checks, so their table stays
pub traversal_leaves : (was : ReqId → Bool) (e : InEvent) (req : ReqId) (q : Asked) → PassesCheck was e req q → is_traversal q.what ≡ true → (table : List Load) → LeavesAsking was e.checking req q.what table table
traversal_leaves was e req q pass goes table s whats ties =
    asking_passed was s table ties req e.checking pass.same pass.off (λ y at. no_load_at s req y at (ap is_load (whats y at) ∙ traversal_no_load q.what goes) y at)
