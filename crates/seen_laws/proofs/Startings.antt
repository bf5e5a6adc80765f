-- A traversal begins, or is refused as it begins, wherever in its event it does.
use Rattle.std.proofs.Common.{◌≡◌, ℕ, ℤ, Bool, true, false, List, [], ◌∷◌, ◌++◌, Some, None, refl, sym, ap, ◌∙◌}
use Rattle.std.specs.Prelude.{take_while, take, drop}
use Rattle.std.specs.List.{filter_map, prefix_len}
use Rattle.std.proofs.lemmas.List.{take-append-drop}
use Rattle.std.proofs.lemmas.List.Elements.{filter_map-append}
use Rattle.tab_ids.specs.declared.ReqId.{ReqId}
use Rattle.log_model.specs.declared.outcome.Denial.TheVariants as denials
use Rattle.log_model.specs.declared.request.Request.TheVariants as requests
use Rattle.log_model.specs.declared.row_kind.Actor.{Actor}
use Rattle.log_model.specs.declared.row_kind.Actor.TheVariants as actors
use Rattle.log_model.specs.declared.row_kind.LogRow.{LogRow}
use Rattle.log_model.specs.declared.row_kind.RowKind.{RowKind}
use Rattle.log_model.specs.declared.row_kind.RowKind.TheVariants as rows
use Rattle.log_model.specs.Equal.{implies, has_req}
use Rattle.log_model.specs.Seen.{Asked, request_of}
use Rattle.log_model.specs.Events.{Point}
use Rattle.log_model.specs.Once.{step_at_delta}
use Rattle.log_model.specs.Causes.{due_denial}
use Rattle.log_model.specs.Points.{is_accepted_here}
use Rattle.log_model.specs.Queue.{begins_in_turn}
use Rattle.log_model.specs.Orders.{is_question, question_in, due_questions}
use Rattle.log_model.proofs.Refl.{nat_eq_refl}
use Rattle.seen_laws.specs.Blocks.{Passes, Here, point_at, MayLog}
use Rattle.seen_laws.specs.InEvent.{Anything}
use Rattle.seen_laws.specs.Sending.{is_led}
use Rattle.seen_laws.proofs.Sendings.{led_follows, both}

pub implied : (a : Bool) {b : Bool} → b ≡ true → implies a b ≡ true
implied true is = is
implied false is = refl

-- who does the coordinator's work: itself, or the user whose event it is
abbrev pub IsWorker : Actor → Type 0
IsWorker actors.Ui = Unit {0}
IsWorker actors.Coord = Unit {0}
IsWorker _ = ⊥

left_empty : {A : Type 0} (xs ys : List A) → xs ++ ys ≡ [] → xs ≡ []
left_empty [] ys e = refl
left_empty (x ∷ xs) ys e = cc

-- where rows ask nothing, the first of them ask nothing
none_first : (req : ReqId) (later : List LogRow) → filter_map (question_in req) later ≡ [] → filter_map (question_in req) (take_while is_question later) ≡ []
none_first req later none =
    let n : ℕ = prefix_len is_question later in
    left_empty (filter_map (question_in req) (take n later)) (filter_map (question_in req) (drop n later))
    (sym (filter_map-append (question_in req) (take n later) (drop n later)) ∙ ap (λ (l : List LogRow). filter_map (question_in req) l) (take-append-drop n later) ∙ none)

-- a traversal begins, with no question to ask
pub start_may : (h : Here) (event : ℕ) (actor : Actor) (req : ReqId) (goal : ℕ) (delta : ℤ) (q : Asked) → is_led h.done ≡ true → request_of h.now req ≡ Some q → q.what ≡ requests.Go delta → q.is_started ≡ false → q.ending ≡ None → step_at_delta h.now delta ≡ Some goal → begins_in_turn h.now req ≡ true → due_questions h.now (requests.Go delta) (Some (record { 0 = goal })) ≡ [] → MayLog h (record { event = event; actor = actor; row = rows.Started req (Some (record { 0 = goal })) } ∷ []) (λ later. filter_map (question_in req) later ≡ [])
start_may h event actor req goal delta q led at what unstarted open_ there turn none later unasked = (passes, tt)
  where
    row : LogRow
    row = record { event = event; actor = actor; row = rows.Started req (Some (record { 0 = goal })) }

    passes : Passes h.header (point_at h later) row
    passes =
        record {
          formed = both (led_follows h.done (point_at h later) row refl led refl) (rw at refl);
          once = rw at (rw (unstarted, open_, what) (rw there (nat_eq_refl goal)));
          caused = rw at (rw what refl);
          queued = rw at (rw turn (implied _ refl));
          ordered = rw at (rw what (rw (unasked, none_first req later unasked, none) refl));
          checked = refl;
          in_time = refl;
          suits = refl;
        }

-- a traversal that leads nowhere is refused for that
no_step : (p : Point) (event : ℕ) (actor : Actor) (kind : RowKind) (q : Asked) (delta : ℤ) → IsWorker actor → q.what ≡ requests.Go delta → step_at_delta p.now delta ≡ None → due_denial p (record { event = event; actor = actor; row = kind }) q ≡ Some denials.NoStep
no_step p event actors.Ui kind q delta worker what none = by_here (is_accepted_here p q.nr) refl
  where
    by_here : (here : Bool) → is_accepted_here p q.nr ≡ here → due_denial p (record { event = event; actor = actors.Ui; row = kind }) q ≡ Some denials.NoStep
    by_here true e = rw (e, what) (rw none refl)
    by_here false e = rw (e, what) (rw none refl)
no_step p event actors.Coord kind q delta worker what none = by_here (is_accepted_here p q.nr) refl
  where
    by_here : (here : Bool) → is_accepted_here p q.nr ≡ here → due_denial p (record { event = event; actor = actors.Coord; row = kind }) q ≡ Some denials.NoStep
    by_here true e = rw (e, what) (rw none refl)
    by_here false e = rw (e, what) (rw none refl)
no_step p event _ kind q delta worker what none = elim worker [ ]

pub refuse_may : (h : Here) (event : ℕ) (actor : Actor) (req : ReqId) (delta : ℤ) (q : Asked) → IsWorker actor → is_led h.done ≡ true → request_of h.now req ≡ Some q → q.what ≡ requests.Go delta → q.ending ≡ None → step_at_delta h.now delta ≡ None → begins_in_turn h.now req ≡ true → has_req h.now.parked req ≡ false → MayLog h (record { event = event; actor = actor; row = rows.Refused req denials.NoStep } ∷ []) Anything
refuse_may h event actor req delta q worker led at what open_ nowhere turn unparked later rest = (passes, tt)
  where
    row : LogRow
    row = record { event = event; actor = actor; row = rows.Refused req denials.NoStep }

    passes : Passes h.header (point_at h later) row
    passes =
        record {
          formed = both (led_follows h.done (point_at h later) row refl led refl) (rw at refl);
          once = rw at (rw open_ refl);
          caused = rw at (rw (no_step (point_at h later) event actor (rows.Refused req denials.NoStep) q delta worker what nowhere) refl);
          queued = rw unparked (rw at (rw turn (implied _ refl)));
          ordered = refl;
          checked = refl;
          in_time = refl;
          suits = refl;
        }
