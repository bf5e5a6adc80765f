-- A poke that reaches no document: it is accepted, and refused in the same event.
use Rattle.std.proofs.Common.{◌≡◌, ℕ, ◌+◌, Bool, true, false, not, ◌==◌, [], ◌∷◌, length, Option, Some, None, refl, subst, arith}
use Rattle.std.specs.Prelude.{nat_lt, if◌then◌else◌}
use Rattle.std.proofs.lemmas.Bool.Decides.{nat_tests}
use Rattle.tab_ids.specs.declared.NavId.{NavId}
use Rattle.tab_ids.specs.declared.ReqId.{ReqId}
use Rattle.log_model.specs.declared.header.Header.{Header}
use Rattle.log_model.specs.declared.action.Action.{Action}
use Rattle.log_model.specs.declared.outcome.Denial.{Denial}
use Rattle.log_model.specs.declared.outcome.Denial.TheVariants as denials
use Rattle.log_model.specs.declared.request.Request.TheVariants as requests
use Rattle.log_model.specs.declared.row_kind.Actor.TheVariants as actors
use Rattle.log_model.specs.declared.row_kind.LogRow.{LogRow}
use Rattle.log_model.specs.declared.row_kind.RowKind.TheVariants as rows
use Rattle.log_model.specs.Equal.{has_req}
use Rattle.log_model.specs.Seen.{Seen, Asked, request_of}
use Rattle.log_model.specs.After.{after}
use Rattle.log_model.specs.History.{has_row}
use Rattle.log_model.specs.Places.{is_traversal}
use Rattle.log_model.specs.Events.{Point}
use Rattle.log_model.specs.Formed.{running_documents}
use Rattle.log_model.specs.Queue.{begins_in_turn, is_queued_row}
use Rattle.log_model.specs.Causes.{denial_of_poke}
use Rattle.log_model.proofs.Refl.{nat_eq_refl, same_denial_refl}
use Rattle.seen_laws.specs.Blocks.{Passes}
use Rattle.seen_laws.proofs.Makings.{unturned}

-- equal values that are there
some_same : {A : Type 0} {a b : A} → (let o : Option A = Some a in o) ≡ Some b → a ≡ b
some_same e = cc

-- the poke is accepted without a document
abbrev pub stray_row : Seen → ReqId → NavId → Action → LogRow
stray_row s req nav action = record { event = s.events; actor = actors.Ui; row = rows.Accepted req None (requests.Poke nav action) }

-- and refused
abbrev pub denial_row : Seen → ReqId → Denial → LogRow
denial_row s req reason = record { event = s.events; actor = actors.Ui; row = rows.Refused req reason }

pub stray_passes : (header : Header) (s : Seen) (req : ReqId) (nav : NavId) (action : Action) (reason : Denial) → req.0 ≡ length s.requests + 1 → denial_of_poke s nav ≡ Some reason → Passes header (record { start = s; now = s; done = []; later = denial_row s req reason ∷ [] }) (stray_row s req nav action)
stray_passes header s req nav action reason next denied =
    record {
      formed = rw (nat_eq_refl req.0) refl;
      once = rw next (nat_eq_refl (length s.requests + 1));
      caused = rw denied (rw (nat_eq_refl req.0, same_denial_refl reason) refl);
      queued = refl;
      ordered = refl;
      checked = refl;
      in_time = refl;
      suits = refl;
    }

-- the reasons for which a poke is refused as it is accepted
abbrev IsPokeDenial : Denial → Type 0
IsPokeDenial denials.NoNavigable = Unit {0}
IsPokeDenial denials.NoDocument = Unit {0}
IsPokeDenial _ = ⊥

poke_denial : (s : Seen) (nav : NavId) (reason : Denial) → denial_of_poke s nav ≡ Some reason → IsPokeDenial reason
poke_denial s nav reason denied = by_tests (has_row nav s.history.rows) (length (running_documents s nav) == 0) denied
  where
    by_tests : (row none : Bool) → (if not row then Some denials.NoNavigable else (if none then Some denials.NoDocument else None)) ≡ Some reason → IsPokeDenial reason
    by_tests false none e = subst IsPokeDenial (some_same e) tt
    by_tests true true e = subst IsPokeDenial (some_same e) tt
    by_tests true false e = cc

-- such a refusal is none of a step of the queue
unqueued : (p : Point) (event : ℕ) (req : ReqId) (nav : NavId) (action : Action) (reason : Denial) (q : Asked) → IsPokeDenial reason → request_of p.now req ≡ Some q → q.what ≡ requests.Poke nav action → has_req p.now.parked req ≡ false → is_queued_row p (record { event = event; actor = actors.Ui; row = rows.Refused req reason }) ≡ true
unqueued p event req nav action denials.NoNavigable q is there asks unparked =
    rw (unparked, there) (rw asks (unturned (is_traversal (requests.Poke nav action)) (begins_in_turn p.now req)))
unqueued p event req nav action denials.NoDocument q is there asks unparked =
    rw (unparked, there) (rw asks (unturned (is_traversal (requests.Poke nav action)) (begins_in_turn p.now req)))
unqueued p event req nav action _ q is there asks unparked = elim is [ ]

-- the number of the next request is above those of the requests before
is_new : (n m : ℕ) → m ≡ n + 1 → nat_lt n m ≡ true
is_new n m is = grind (arith, nat_tests, is)

pub denial_passes : (header : Header) (s : Seen) (req : ReqId) (nav : NavId) (action : Action) (reason : Denial) (q : Asked) → req.0 ≡ length s.requests + 1 → denial_of_poke s nav ≡ Some reason → request_of (after s (stray_row s req nav action)) req ≡ Some q → q.nr ≡ req → q.what ≡ requests.Poke nav action → q.ending ≡ None → has_req s.parked req ≡ false → Passes header (record { start = s; now = after s (stray_row s req nav action); done = stray_row s req nav action ∷ []; later = [] }) (denial_row s req reason)
denial_passes header s req nav action reason q next denied there nr asks unended unparked =
    record {
      formed = rw there refl;
      once = rw there (rw unended refl);
      caused = rw there (rw (nr, asks) (rw (is_new (length s.requests) req.0 next, denied) (same_denial_refl reason)));
      queued = unqueued (record { start = s; now = after s (stray_row s req nav action); done = stray_row s req nav action ∷ []; later = [] }) s.events req nav action reason q (poke_denial s nav reason denied) there asks unparked;
      ordered = refl;
      checked = refl;
      in_time = refl;
      suits = refl;
    }
