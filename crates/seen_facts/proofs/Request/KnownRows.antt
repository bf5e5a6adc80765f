-- What is known of each request by where it is, from row to row.
use Rattle.std.proofs.Common.{◌≡◌, ℕ, ◌≤◌, Bool, true, false, ◌==◌, List, [], ◌∷◌, ◌++◌, map, Option, Some, None, refl, sym, ap, ◌∙◌, subst, arith, append-nil}
use Rattle.std.specs.Prelude.{filter_map}
use Rattle.std.proofs.lemmas.List.Elements.{filter_map-append}
use Rattle.tab_ids.specs.declared.JobId.{JobId}
use Rattle.tab_ids.specs.declared.ProcId.{ProcId}
use Rattle.tab_ids.specs.declared.ReqId.{ReqId}
use Rattle.tab_ids.specs.declared.Step.{Step}
use Rattle.log_model.specs.declared.job.Job.{Job}
use Rattle.log_model.specs.declared.job.Order.{Order}
use Rattle.log_model.specs.declared.made.Made.{Made}
use Rattle.log_model.specs.declared.made.Report.TheVariants as reports
use Rattle.log_model.specs.declared.outcome.Outcome.{Outcome}
use Rattle.log_model.specs.declared.row_kind.Actor.{Actor}
use Rattle.log_model.specs.declared.row_kind.RowKind.TheVariants as rows
use Rattle.log_model.specs.Seen.{Seen, Desk, Asked, desk_of, desk_in, request_in}
use Rattle.log_model.specs.After.{on_desk, desk_taken, desk_finished}
use Rattle.log_model.specs.AfterRequests.{on_request, request_begun, made_of_report}
use Rattle.seen_laws.proofs.Sums.{over}
use Rattle.seen_facts.proofs.Coord.Unread.{next}
use Rattle.seen_facts.specs.Request.Whereabouts.{times, times_at, times_found}
use Rattle.seen_facts.specs.Request.Cores.{core_of}
use Rattle.seen_facts.specs.Request.Knowns.{IsPoke, IsMadeOf, IsJoined, IsParked, AllOf, req_of_poke, req_of_made, req_itself, AreKnownAt, AreKnown}
use Rattle.seen_facts.proofs.Request.Cores.{SameCores, same_then, on_core, sent_cores, finished_cores}
use Rattle.seen_facts.proofs.Request.Alls.{all_same, all_else, each_desk, one_of_all}

-- ---- rows that leave what is known

-- the requests are the same but for orders, and what is known of those at the desks stays
pub record LeavesKnown (s t : Seen) : Type 0 where
  pub cores : SameCores s.requests t.requests
  pub desks : ((proc : ProcId) → AreKnownAt s.requests (desk_of s proc)) → (proc : ProcId) → AreKnownAt s.requests (desk_of t proc)
  pub joined : t.joined ≡ s.joined
  pub parked : t.parked ≡ s.parked

pub at_same : (asked next : List Asked) (desk : Desk) → SameCores asked next → AreKnownAt asked desk → AreKnownAt next desk
at_same asked next desk cores known =
    record {
      pokes = all_same IsPoke req_of_poke asked next desk.input cores known.pokes;
      mades = all_same IsMadeOf req_of_made asked next (filter_map made_of_report desk.reports) cores known.mades;
    }

pub known_again : (s t : Seen) → LeavesKnown s t → AreKnown s → AreKnown t
known_again s t leaves known =
    record {
      desks = λ proc. at_same s.requests t.requests (desk_of t proc) leaves.cores (leaves.desks known.desks proc);
      joined = subst (λ (l : List ReqId). AllOf IsJoined req_itself t.requests l) (sym leaves.joined) (all_same IsJoined req_itself s.requests t.requests s.joined leaves.cores known.joined);
      parked = subst (λ (l : List ReqId). AllOf IsParked req_itself t.requests l) (sym leaves.parked) (all_same IsParked req_itself s.requests t.requests s.parked leaves.cores known.parked);
    }

-- one desk is changed, and what is known of its requests stays
one_known : (s t : Seen) (p : ProcId) (g : Desk → Desk) → t.desks ≡ on_desk p g s.desks → ((desk : Desk) → (g desk).proc ≡ desk.proc) → (AreKnownAt s.requests (desk_of s p) → AreKnownAt s.requests (g (desk_of s p))) → ((proc : ProcId) → AreKnownAt s.requests (desk_of s proc)) → (proc : ProcId) → AreKnownAt s.requests (desk_of t proc)
one_known s t p g desks keeps own known proc =
    subst (λ (l : List Desk). AreKnownAt s.requests (desk_in l proc)) (sym desks)
    (each_desk (AreKnownAt s.requests) g s.desks p keeps (own (known p)) (λ other apart. known other) proc)

module _ (s : Seen) (event : ℕ) (actor : Actor) where
  pub started_known : (req : ReqId) (goal : Option Step) → AreKnown s → AreKnown (next s event actor (rows.Started req goal))
  started_known req goal known =
      known_again s (next s event actor (rows.Started req goal)) (record {
        cores = same_then s.requests (on_request req (λ q. record q { is_started = true; goal = goal }) s.requests) _ (on_core s.requests req _ (λ q. refl)) (on_core _ req (request_begun s) (λ q. refl));
        desks = λ desks proc. desks proc;
        joined = refl;
        parked = refl;
      }) known

  pub sent_known : (job : Job) → AreKnown s → AreKnown (next s event actor (rows.Sent job))
  sent_known job known =
      known_again s (next s event actor (rows.Sent job)) (record {
        cores = sent_cores s job job.task s.requests;
        desks = λ desks proc. one_known s (next s event actor (rows.Sent job)) job.proc (λ desk. record desk { mail = desk.mail ++ job ∷ [] }) refl (λ desk. refl) (λ at. record { pokes = at.pokes; mades = at.mades }) desks proc;
        joined = refl;
        parked = refl;
      }) known

  pub taken_known : (proc : ProcId) (job : JobId) (live dirty : Bool) → AreKnown s → AreKnown (next s event actor (rows.Taken proc job live dirty))
  taken_known proc job live dirty known =
      known_again s (next s event actor (rows.Taken proc job live dirty)) (record {
        cores = λ r. refl;
        desks = λ desks other. one_known s (next s event actor (rows.Taken proc job live dirty)) proc (desk_taken live dirty) refl (λ desk. refl) (λ at. record { pokes = at.pokes; mades = at.mades }) desks other;
        joined = refl;
        parked = refl;
      }) known

  finished_at : (asked : List Asked) (desk : Desk) (outcome : Outcome) (in_hand : Option Order) → desk.in_hand ≡ in_hand → AreKnownAt asked desk → AreKnownAt asked (desk_finished outcome desk)
  finished_at asked desk outcome None is at = record { pokes = at.pokes; mades = rw is at.mades }
  finished_at asked desk outcome (Some order) is at =
      record {
        pokes = at.pokes;
        mades = rw is (subst (λ (l : List Made). AllOf IsMadeOf req_of_made asked l) (sym more) at.mades);
      }
    where
      more : filter_map made_of_report (desk.reports ++ reports.Done order.job outcome None ∷ []) ≡ filter_map made_of_report desk.reports
      more =
          filter_map-append made_of_report desk.reports (reports.Done order.job outcome None ∷ []) ∙ append-nil (filter_map made_of_report desk.reports)

  pub finished_known : (proc : ProcId) (job : JobId) (outcome : Outcome) → AreKnown s → AreKnown (next s event actor (rows.Finished proc job outcome))
  finished_known proc job outcome known =
      known_again s (next s event actor (rows.Finished proc job outcome)) (record {
        cores = finished_cores s (desk_of s proc).in_hand outcome s.requests;
        desks = λ desks other. one_known s (next s event actor (rows.Finished proc job outcome)) proc (desk_finished outcome) refl (λ desk. refl) (λ at. finished_at s.requests (desk_of s proc) outcome (desk_of s proc).in_hand refl at) desks other;
        joined = refl;
        parked = refl;
      }) known

-- ---- a request more

pub mapped_itself : (l : List ReqId) → map req_itself l ≡ l
mapped_itself [] = refl
mapped_itself (x ∷ l) = ap (λ (rest : List ReqId). x ∷ rest) (mapped_itself l)

pub mapped_none : (req : ReqId) (xs : List ReqId) → times req xs ≡ 0 → times req (map req_itself xs) ≡ 0
mapped_none req xs none = ap (λ (l : List ReqId). times req l) (mapped_itself xs) ∙ none

-- a request that is nowhere is none of those of which something is known
module _ (s : Seen) (hand : List ReqId) (req : ReqId) (nowhere : times_found req s.desks s.joined s.parked hand ≡ 0) where
  at_no_desk : (proc : ProcId) → times_at req (desk_of s proc) ≡ 0
  at_no_desk proc =
      let one : times_at req (desk_of s proc) ≤ over (times_at req) s.desks = one_of_all (times_at req) s.desks proc refl in
      omega (arith, one, nowhere)

  pub known_else : (next : List Asked) → ((other : ReqId) → (other.0 == req.0) ≡ false → core_of (request_in next other) ≡ core_of (request_in s.requests other)) → AreKnown s → AreKnown (record s { requests = next })
  known_else next others known =
      record {
        desks = λ proc. record {
          pokes = all_else IsPoke req_of_poke s.requests next req (desk_of s proc).input others (omega (arith, at_no_desk proc)) (known.desks proc).pokes;
          mades = all_else IsMadeOf req_of_made s.requests next req (filter_map made_of_report (desk_of s proc).reports) others (omega (arith, at_no_desk proc)) (known.desks proc).mades;
        };
        joined = all_else IsJoined req_itself s.requests next req s.joined others (let none : times req s.joined ≡ 0 = omega (arith, nowhere) in mapped_none req s.joined none) known.joined;
        parked = all_else IsParked req_itself s.requests next req s.parked others (let none : times req s.parked ≡ 0 = omega (arith, nowhere) in mapped_none req s.parked none) known.parked;
      }
