-- What is known of each request by where it is, as one ends.
use Rattle.std.proofs.Common.{◌≡◌, ℕ, ◌≤◌, false, not, ◌==◌, List, drop, map, Some, refl, sym, ap, ◌∙◌, subst, arith}
use Rattle.std.specs.Prelude.{filter_map, slice_get}
use Rattle.tab_ids.specs.declared.ProcId.{ProcId}
use Rattle.tab_ids.specs.declared.ReqId.{ReqId}
use Rattle.log_model.specs.declared.change.Change.{Change}
use Rattle.log_model.specs.declared.outcome.Cause.{Cause}
use Rattle.log_model.specs.declared.outcome.Denial.{Denial}
use Rattle.log_model.specs.declared.request.Poke.{Poke}
use Rattle.log_model.specs.declared.row_kind.Actor.{Actor}
use Rattle.log_model.specs.declared.row_kind.Actor.TheVariants as actors
use Rattle.log_model.specs.declared.row_kind.RowKind.TheVariants as rows
use Rattle.log_model.specs.Seen.{Seen, Desk, desk_of, desk_in, request_in}
use Rattle.log_model.specs.After.{desk_dropped}
use Rattle.log_model.specs.AfterRequests.{made_of_report, without_req}
use Rattle.seen_laws.proofs.Sums.{over}
use Rattle.seen_facts.proofs.Coord.Held.{on_else}
use Rattle.seen_facts.proofs.Coord.Unread.{next, desk_mapped}
use Rattle.seen_facts.specs.Request.Whereabouts.{times_at, AreOnce}
use Rattle.seen_facts.specs.Request.Cores.{core_of}
use Rattle.seen_facts.specs.Request.Knowns.{IsPoke, IsMadeOf, IsJoined, IsParked, AllOf, req_of_poke, req_of_made, req_itself, AreKnownAt, AreKnown}
use Rattle.seen_facts.proofs.Request.Times.{without_it, dropped_it}
use Rattle.seen_facts.proofs.Request.KnownMoved.{rest_at, others_at}
use Rattle.seen_facts.proofs.Request.KnownRows.{mapped_none}
use Rattle.seen_facts.proofs.Request.Alls.{all_else, all_kept, each_desk, one_of_all}

-- the requests at the desks are known, none of them is the one that ends, and the queue and what is held back are without it
ended_known : (s t : Seen) (req : ReqId) → ((r : ReqId) → (r.0 == req.0) ≡ false → core_of (request_in t.requests r) ≡ core_of (request_in s.requests r)) → ((proc : ProcId) → AreKnownAt s.requests (desk_of t proc)) → over (times_at req) t.desks ≡ 0 → t.joined ≡ without_req req s.joined → t.parked ≡ without_req req s.parked → AreKnown s → AreKnown t
ended_known s t req others desks off joined parked known =
    record {
      desks = λ proc. at_else proc;
      joined = subst (λ (l : List ReqId). AllOf IsJoined req_itself t.requests l) (sym joined) (all_else IsJoined req_itself s.requests t.requests req (without_req req s.joined) others (mapped_none req (without_req req s.joined) (without_it req s.joined)) (all_kept IsJoined req_itself s.requests (λ r. not (r.0 == req.0)) s.joined known.joined));
      parked = subst (λ (l : List ReqId). AllOf IsParked req_itself t.requests l) (sym parked) (all_else IsParked req_itself s.requests t.requests req (without_req req s.parked) others (mapped_none req (without_req req s.parked) (without_it req s.parked)) (all_kept IsParked req_itself s.requests (λ r. not (r.0 == req.0)) s.parked known.parked));
    }
  where
    at_else : (proc : ProcId) → AreKnownAt t.requests (desk_of t proc)
    at_else proc =
        let one : times_at req (desk_of t proc) ≤ over (times_at req) t.desks = one_of_all (times_at req) t.desks proc refl in
        record {
          pokes = all_else IsPoke req_of_poke s.requests t.requests req (desk_of t proc).input others (omega (arith, one, off)) (desks proc).pokes;
          mades = all_else IsMadeOf req_of_made s.requests t.requests req (filter_map made_of_report (desk_of t proc).reports) others (omega (arith, one, off)) (desks proc).mades;
        }

module _ (s : Seen) (event : ℕ) (req : ReqId) (off : over (times_at req) s.desks ≡ 0) (known : AreKnown s) where
  pub refused_known : (reason : Denial) → AreKnown (next s event actors.Coord (rows.Refused req reason))
  refused_known reason =
      ended_known s (next s event actors.Coord (rows.Refused req reason)) req (λ r apart. ap core_of (on_else s.requests req _ r apart)) known.desks off refl refl known

  pub denied_known : (reason : Denial) → AreKnown (next s event actors.Ui (rows.Refused req reason))
  denied_known reason =
      ended_known s (next s event actors.Ui (rows.Refused req reason)) req (λ r apart. ap core_of (on_else s.requests req _ r apart)) known.desks off refl refl known

  pub applied_known : (actor : Actor) (change : Change) → AreKnown (next s event actor (rows.Applied req change))
  applied_known actor change =
      ended_known s (next s event actor (rows.Applied req change)) req (λ r apart. ap core_of (on_else _ req _ r apart ∙ (on_else _ req _ r apart ∙ on_else s.requests req _ r apart))) known.desks off refl refl known

  pub dropped_known : (actor : Actor) (cause : Cause) → AreKnown (next s event actor (rows.Dropped req cause))
  dropped_known actor cause =
      ended_known s (next s event actor (rows.Dropped req cause)) req (λ r apart. ap core_of (on_else s.requests req _ r apart)) less (dropped_it req s.desks off) refl refl known
    where
      less : (proc : ProcId) → AreKnownAt s.requests (desk_in (map (desk_dropped req) s.desks) proc)
      less proc =
          subst (λ (desk : Desk). AreKnownAt s.requests desk) (sym (desk_mapped (desk_dropped req) s.desks proc (λ desk. refl) refl))
          (record {
            pokes = all_kept IsPoke req_of_poke s.requests (λ (poke : Poke). not (poke.req.0 == req.0)) (desk_of s proc).input (known.desks proc).pokes;
            mades = (known.desks proc).mades;
          })

-- a process refuses its first poke
module _ (s : Seen) (hand : List ReqId) (event : ℕ) (proc : ProcId) (reason : Denial) (poke : Poke) (first : slice_get (desk_of s proc).input 0 ≡ Some poke) (once : AreOnce s hand) (known : AreKnown s) where
  abbrev pub poke_refused : Seen
  poke_refused = next s event (actors.Proc proc) (rows.Refused poke.req reason)

  others_kept : (r : ReqId) → (r.0 == poke.req.0) ≡ false → core_of (request_in poke_refused.requests r) ≡ core_of (request_in s.requests r)
  others_kept r apart = ap core_of (on_else s.requests poke.req _ r apart)

  pub poke_refused_known : AreKnown poke_refused
  poke_refused_known =
      record {
        desks = each_desk (AreKnownAt poke_refused.requests) (λ desk. record desk { input = drop 1 desk.input }) s.desks proc (λ desk. refl) (rest_at s hand proc poke first once known poke_refused.requests others_kept) (others_at s hand proc poke first once known poke_refused.requests others_kept);
        joined = all_else IsJoined req_itself s.requests poke_refused.requests poke.req (without_req poke.req s.joined) others_kept (mapped_none poke.req (without_req poke.req s.joined) (without_it poke.req s.joined)) (all_kept IsJoined req_itself s.requests (λ r. not (r.0 == poke.req.0)) s.joined known.joined);
        parked = all_else IsParked req_itself s.requests poke_refused.requests poke.req (without_req poke.req s.parked) others_kept (mapped_none poke.req (without_req poke.req s.parked) (without_it poke.req s.parked)) (all_kept IsParked req_itself s.requests (λ r. not (r.0 == poke.req.0)) s.parked known.parked);
      }
