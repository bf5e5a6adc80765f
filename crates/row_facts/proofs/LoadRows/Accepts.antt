-- A load is accepted, and refused in the same event where a reason holds.
use Rattle.log_model.proofs.Refl.{nat_eq_refl, same_denial_refl}
use Rattle.log_model.specs.After.{after, new_request}
use Rattle.log_model.specs.Causes.{denial_at_acceptance, due_denial}
use Rattle.log_model.specs.Equal.{has_req}
use Rattle.log_model.specs.Points.{is_accepted_here, is_refused_in}
use Rattle.log_model.specs.Queue.{is_refused_step}
use Rattle.log_model.specs.Seen.{Asked, Seen, request_of}
use Rattle.log_model.specs.declared.header.Header.{Header}
use Rattle.log_model.specs.declared.outcome.Denial.{Denial}
use Rattle.log_model.specs.declared.request.Mode.{Mode}
use Rattle.log_model.specs.declared.row_kind.LogRow.{LogRow}
use Rattle.seen_laws.proofs.Sendings.{both, led_follows}
use Rattle.seen_laws.specs.Blocks.{EachPass, Here, MayLog, Passes, on_row, point_at}
use Rattle.seen_laws.specs.InEvent.{Anything}
use Rattle.seen_laws.specs.Sending.{is_led}
use Rattle.std.proofs.Common.{List, None, Some, [], arith, false, length, refl, true, ℕ, ◌+◌, ◌++◌, ◌-◌, ◌==◌, ◌∷◌, ◌≡◌}
use Rattle.std.proofs.lemmas.Bool.Decides.{nat_tests}
use Rattle.std.specs.List.{list_any}
use Rattle.std.specs.Prelude.{slice_get}
use Rattle.tab_ids.specs.declared.NavId.{NavId}
use Rattle.tab_ids.specs.declared.ReqId.{ReqId}
use Rattle.log_model.specs.declared.request.Request.TheVariants as requests
use Rattle.log_model.specs.declared.row_kind.Actor.TheVariants as actors
use Rattle.log_model.specs.declared.row_kind.RowKind.TheVariants as rows

-- the user's load is accepted
abbrev pub load_row : ℕ → ReqId → NavId → Mode → List ℕ → LogRow
load_row event req nav mode address = record { event = event; actor = actors.Ui; row = rows.Accepted req None (requests.Load nav mode address) }

-- and refused
abbrev pub denial_row : ℕ → ReqId → Denial → LogRow
denial_row event req reason = record { event = event; actor = actors.Ui; row = rows.Refused req reason }

-- a load that no reason stands against is accepted
pub load_passes : (header : Header) (s : Seen) (event : ℕ) (req : ReqId) (nav : NavId) (mode : Mode) (address : List ℕ) (later : List LogRow) → req.0 ≡ length s.requests + 1 → denial_at_acceptance s (requests.Load nav mode address) ≡ None → Passes header (record { start = s; now = s; done = []; later = later }) (load_row event req nav mode address)
load_passes header s event req nav mode address later next admitted =
    record {
      formed = refl;
      once = rw next (nat_eq_refl (length s.requests + 1));
      caused = rw admitted refl;
      queued = refl;
      ordered = refl;
      checked = refl;
      in_time = refl;
      suits = refl;
    }

-- one that a reason stands against is accepted where a later row refuses it for that
pub load_denied_passes : (header : Header) (s : Seen) (event : ℕ) (req : ReqId) (nav : NavId) (mode : Mode) (address : List ℕ) (reason : Denial) (later : List LogRow) → req.0 ≡ length s.requests + 1 → denial_at_acceptance s (requests.Load nav mode address) ≡ Some reason → list_any (is_refused_in req reason) later ≡ true → Passes header (record { start = s; now = s; done = []; later = later }) (load_row event req nav mode address)
load_denied_passes header s event req nav mode address reason later next denied refused =
    record {
      formed = refl;
      once = rw next (nat_eq_refl (length s.requests + 1));
      caused = rw denied refused;
      queued = refl;
      ordered = refl;
      checked = refl;
      in_time = refl;
      suits = refl;
    }

-- the row that refuses it is such a row
pub denial_refuses : (event : ℕ) (req : ReqId) (reason : Denial) (later : List LogRow) → list_any (is_refused_in req reason) (denial_row event req reason ∷ later) ≡ true
denial_refuses event req reason later = rw (nat_eq_refl req.0, same_denial_refl reason) refl

-- and it is refused in the event of its acceptance
pub load_denial_passes : (h : Here) (event : ℕ) (req : ReqId) (nav : NavId) (mode : Mode) (address : List ℕ) (reason : Denial) (q : Asked) → is_led h.done ≡ true → is_accepted_here (point_at h []) req ≡ true → request_of h.now req ≡ Some q → q.nr ≡ req → q.what ≡ requests.Load nav mode address → q.ending ≡ None → has_req h.now.parked req ≡ false → denial_at_acceptance h.start (requests.Load nav mode address) ≡ Some reason → MayLog h (denial_row event req reason ∷ []) Anything
load_denial_passes h event req nav mode address reason q led here at nr what open_ unparked denied later rest = (passes, tt)
  where
    row : LogRow
    row = denial_row event req reason

    is_due : due_denial (point_at h later) row q ≡ Some reason
    is_due = rw (nr, what) (rw (here, denied) refl)

    no_step : is_refused_step (point_at h later) q reason ≡ false
    no_step = rw what refl

    passes : Passes h.header (point_at h later) row
    passes =
        record {
          formed = both (led_follows h.done (point_at h later) row refl led refl) (rw at refl);
          once = rw at (rw open_ refl);
          caused = rw at (rw is_due (same_denial_refl reason));
          queued = rw unparked (rw at (rw no_step refl));
          ordered = refl;
          checked = refl;
          in_time = refl;
          suits = refl;
        }

-- ---- after the row of its acceptance

last_there : {A : Type 0} (xs : List A) (x : A) → slice_get (xs ++ x ∷ []) (length xs) ≡ Some x
last_there [] x = refl
last_there (y ∷ xs) x = last_there xs x

-- the load is there as it was asked
pub load_there : (s : Seen) (event : ℕ) (req : ReqId) (nav : NavId) (mode : Mode) (address : List ℕ) → req.0 ≡ length s.requests + 1 → request_of (after s (load_row event req nav mode address)) req ≡ Some (new_request req None (requests.Load nav mode address))
load_there s event req nav mode address next =
    let real : (req.0 == 0) ≡ false = grind (arith, nat_tests, next) in
    let last : (req.0 - 1) ≡ length s.requests = omega (arith, next) in
    rw real (rw last (last_there s.requests (new_request req None (requests.Load nav mode address))))

-- so a load that a reason stands against is accepted and refused
pub denied_load_may : (header : Header) (s : Seen) (event : ℕ) (req : ReqId) (nav : NavId) (mode : Mode) (address : List ℕ) (reason : Denial) → req.0 ≡ length s.requests + 1 → denial_at_acceptance s (requests.Load nav mode address) ≡ Some reason → has_req s.parked req ≡ false → MayLog (record { header = header; start = s; now = s; done = [] }) (load_row event req nav mode address ∷ denial_row event req reason ∷ []) Anything
denied_load_may header s event req nav mode address reason next denied unparked later rest = (first, second)
  where
    q : Asked
    q = new_request req None (requests.Load nav mode address)

    first : Passes header (record { start = s; now = s; done = []; later = denial_row event req reason ∷ later }) (load_row event req nav mode address)
    first =
        load_denied_passes header s event req nav mode address reason (denial_row event req reason ∷ later) next denied (denial_refuses event req reason later)

    here : Here
    here = on_row (record { header = header; start = s; now = s; done = [] }) (load_row event req nav mode address)

    new : is_accepted_here (point_at here []) req ≡ true
    new = grind (arith, nat_tests, next)

    second : EachPass here (denial_row event req reason ∷ []) later
    second =
        load_denial_passes here event req nav mode address reason q refl new (load_there s event req nav mode address next) refl refl refl unparked denied later tt
