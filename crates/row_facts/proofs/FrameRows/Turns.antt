-- A traversal that the user or a document asks for begins, ends, or is refused as it begins, wherever in its event it does.
use Rattle.row_facts.specs.FrameRows.Lawful.{ends_among}
use Rattle.row_facts.specs.FrameRows.Taking.{IsDueNow}
use Rattle.log_model.proofs.Refl.{nat_eq_refl, same_change_refl}
use Rattle.log_model.specs.ActsAtOnce.{has_document, is_applied_in_time, is_taken_here}
use Rattle.log_model.specs.AfterRequests.{changes_history}
use Rattle.log_model.specs.Causes.{denial_at_acceptance, denial_at_start, due_denial, may_begin_here}
use Rattle.log_model.specs.Equal.{has_req, holds, implies, same_list, same_req}
use Rattle.log_model.specs.Events.{Point}
use Rattle.log_model.specs.Checks.{is_checked}
use Rattle.log_model.specs.Once.{delta_of, may_begin_request, step_at_delta}
use Rattle.log_model.specs.Orders.{due_questions, is_question, question_in}
use Rattle.log_model.specs.Places.{aim_of, all_stand, has_passed, is_load, is_shown, is_traversal}
use Rattle.log_model.specs.Points.{is_accepted_here, nav_of_request}
use Rattle.log_model.specs.Queue.{begins_in_turn, is_jump, is_load_step, is_queue_free, is_traversed_duly}
use Rattle.log_model.specs.Seen.{Asked, request_of}
use Rattle.log_model.specs.declared.made.Made.{Made}
use Rattle.log_model.specs.declared.outcome.Denial.{Denial}
use Rattle.log_model.specs.declared.request.Request.{Request}
use Rattle.log_model.specs.declared.row_kind.Actor.{Actor}
use Rattle.log_model.specs.declared.row_kind.LogRow.{LogRow}
use Rattle.log_model.specs.declared.row_kind.RowKind.{RowKind}
use Rattle.seen_laws.proofs.Sendings.{both, led_follows}
use Rattle.seen_laws.proofs.Startings.{IsWorker, implied}
use Rattle.seen_laws.specs.Blocks.{Here, MayLog, Passes, point_at}
use Rattle.seen_laws.specs.InEvent.{Anything}
use Rattle.seen_laws.specs.Sending.{is_led}
use Rattle.std.proofs.Common.{Bool, List, None, Option, Some, [], ap, cond, drop, false, inl, inr, length, refl, subst, sym, take, true, ℕ, ℤ, ◌&&◌, ◌++◌, ◌∙◌, ◌∷◌, ◌≡◌, ◌⊎◌}
use Rattle.std.proofs.lemmas.List.{take-append-drop}
use Rattle.std.proofs.lemmas.List.Elements.{filter_map-append}
use Rattle.std.specs.List.{prefix_len}
use Rattle.std.specs.Prelude.{filter_map, nat_lt, take_while}
use Rattle.tab_ids.specs.declared.NavId.{NavId}
use Rattle.tab_ids.specs.declared.ReqId.{ReqId}
use Rattle.tab_ids.specs.declared.Step.{Step}
use Rattle.log_model.specs.declared.action.Action.TheVariants as actions
use Rattle.log_model.specs.declared.change.Change.TheVariants as changes
use Rattle.log_model.specs.declared.outcome.Denial.TheVariants as denials
use Rattle.log_model.specs.declared.request.Request.TheVariants as requests
use Rattle.log_model.specs.declared.row_kind.Actor.TheVariants as actors
use Rattle.log_model.specs.declared.row_kind.RowKind.TheVariants as rows

left_empty : {A : Type 0} (xs ys : List A) → xs ++ ys ≡ [] → xs ≡ []
left_empty [] ys is = refl
left_empty (x ∷ xs) ys is = cc

-- where rows ask nothing, the first of them ask nothing
none_first : (req : ReqId) (later : List LogRow) → filter_map (question_in req) later ≡ [] → filter_map (question_in req) (take_while is_question later) ≡ []
none_first req later none =
    let n : ℕ = prefix_len is_question later in
    left_empty (filter_map (question_in req) (take n later)) (filter_map (question_in req) (drop n later))
    (sym (filter_map-append (question_in req) (take n later) (drop n later)) ∙ ap (λ (l : List LogRow). filter_map (question_in req) l) (take-append-drop n later) ∙ none)

-- a traversal with a delta is one of the user's, or a poke that asks for it
abbrev pub IsTraversalBy : ℤ → Request → Type 0
IsTraversalBy delta what = (what ≡ requests.Go delta) ⊎ ((nav : NavId) × (what ≡ requests.Poke nav (actions.Go delta)))

pub traversal_by : (what : Request) (delta : ℤ) → delta_of what ≡ Some delta → IsTraversalBy delta what
traversal_by (requests.Go d) delta is = let same : d ≡ delta = cc in inl (ap (λ (x : ℤ). requests.Go x) same)
traversal_by (requests.Poke nav (actions.Go d)) delta is = let same : d ≡ delta = cc in inr (nav, ap (λ (x : ℤ). requests.Poke nav (actions.Go x)) same)
traversal_by (requests.Load nav mode address) delta is = cc
traversal_by (requests.Reload nav) delta is = cc
traversal_by (requests.Poke nav (actions.Push memo reference)) delta is = cc
traversal_by (requests.Poke nav (actions.Replace memo reference)) delta is = cc
traversal_by (requests.Poke nav (actions.Fragment text)) delta is = cc
traversal_by (requests.Poke nav (actions.AddFrame child)) delta is = cc
traversal_by (requests.Poke nav (actions.RemoveFrame child)) delta is = cc
traversal_by (requests.Poke nav actions.Edit) delta is = cc

-- one begins that leaves no document with a handler
pub begin_may : (h : Here) (event : ℕ) (actor : Actor) (req : ReqId) (goal : ℕ) (delta : ℤ) (q : Asked) → is_led h.done ≡ true → request_of h.now req ≡ Some q → delta_of q.what ≡ Some delta → q.is_started ≡ false → q.ending ≡ None → step_at_delta h.now delta ≡ Some goal → begins_in_turn h.now req ≡ true → due_questions h.now q.what (Some (record { 0 = goal })) ≡ [] → MayLog h (record { event = event; actor = actor; row = rows.Started req (Some (record { 0 = goal })) } ∷ []) (λ later. filter_map (question_in req) later ≡ [])
begin_may h event actor req goal delta q led at asks unstarted open_ there turn none later unasked = (passes, tt)
  where
    row : LogRow
    row = record { event = event; actor = actor; row = rows.Started req (Some (record { 0 = goal })) }

    starts : IsTraversalBy delta q.what → holds (may_begin_request (point_at h later) row (Some (record { 0 = goal }))) (Some q) ≡ true
    starts (inl what) = rw (unstarted, open_, what) (rw there (nat_eq_refl goal))
    starts (inr poke) = let what : q.what ≡ requests.Poke poke.0 (actions.Go delta) = poke.1 in rw (unstarted, open_, what) (rw there (nat_eq_refl goal))

    begins : IsTraversalBy delta q.what → may_begin_here h.now q ≡ true
    begins (inl what) = rw what refl
    begins (inr poke) = let what : q.what ≡ requests.Poke poke.0 (actions.Go delta) = poke.1 in rw what refl

    its : IsTraversalBy delta q.what
    its = traversal_by q.what delta asks

    passes : Passes h.header (point_at h later) row
    passes =
        record {
          formed = both (led_follows h.done (point_at h later) row refl led refl) (rw at refl);
          once = rw at (starts its);
          caused = rw at (begins its);
          queued = rw at (rw turn (implied _ refl));
          ordered = rw at (rw (unasked, none_first req later unasked, none) refl);
          checked = refl;
          in_time = refl;
          suits = refl;
        }

-- one that leads nowhere is refused for that
module _ (p : Point) (event : ℕ) (kind : RowKind) (q : Asked) (delta : ℤ) (none : step_at_delta p.now delta ≡ None) where
  start_denied : IsTraversalBy delta q.what → denial_at_start p.now q.what ≡ Some denials.NoStep
  start_denied (inl what) = rw what (rw none refl)
  start_denied (inr poke) = let what : q.what ≡ requests.Poke poke.0 (actions.Go delta) = poke.1 in rw what (rw none refl)

  traverses : IsTraversalBy delta q.what → is_traversal q.what ≡ true
  traverses (inl what) = rw what refl
  traverses (inr poke) = let what : q.what ≡ requests.Poke poke.0 (actions.Go delta) = poke.1 in rw what refl

  if_none : (b : Bool) (o : Option Denial) → o ≡ None → (let r : Option Denial = cond b o None in r) ≡ None
  if_none true o is = is
  if_none false o is = refl

  at_first : denial_at_acceptance p.start q.what ≡ None ⊎ (is_accepted_here p q.nr ≡ false) → (let r : Option Denial = cond (is_accepted_here p q.nr) (denial_at_acceptance p.start q.what) None in r) ≡ None
  at_first (inl is) = if_none (is_accepted_here p q.nr) (denial_at_acceptance p.start q.what) is
  at_first (inr is) = rw is refl

  no_step : (actor : Actor) → IsWorker actor → IsTraversalBy delta q.what → denial_at_acceptance p.start q.what ≡ None ⊎ (is_accepted_here p q.nr ≡ false) → due_denial p (record { event = event; actor = actor; row = kind }) q ≡ Some denials.NoStep
  no_step actors.Ui worker its early = rw (at_first early) (rw (traverses its) (start_denied its))
  no_step actors.Coord worker its early = rw (at_first early) (rw (traverses its) (start_denied its))
  no_step _ worker its early = elim worker [ ]

pub nowhere_may : (h : Here) (event : ℕ) (actor : Actor) (req : ReqId) (delta : ℤ) (q : Asked) → IsWorker actor → is_led h.done ≡ true → request_of h.now req ≡ Some q → delta_of q.what ≡ Some delta → q.ending ≡ None → denial_at_acceptance h.start q.what ≡ None ⊎ (nat_lt (length h.start.requests) q.nr.0 ≡ false) → step_at_delta h.now delta ≡ None → begins_in_turn h.now req ≡ true → has_req h.now.parked req ≡ false → MayLog h (record { event = event; actor = actor; row = rows.Refused req denials.NoStep } ∷ []) Anything
nowhere_may h event actor req delta q worker led at asks open_ early nowhere turn unparked later rest = (passes, tt)
  where
    row : LogRow
    row = record { event = event; actor = actor; row = rows.Refused req denials.NoStep }

    passes : Passes h.header (point_at h later) row
    passes =
        record {
          formed = both (led_follows h.done (point_at h later) row refl led refl) (rw at refl);
          once = rw at (rw open_ refl);
          caused = rw at (rw (no_step (point_at h later) event (rows.Refused req denials.NoStep) q delta nowhere actor worker (traversal_by q.what delta asks) early) refl);
          queued = rw unparked (rw at (rw turn (implied _ refl)));
          ordered = refl;
          checked = refl;
          in_time = refl;
          suits = refl;
        }

-- one that has passed ends where all stand at the aim, and the reports held back are taken up after it
pub end_may : (h : Here) (event : ℕ) (actor : Actor) (req : ReqId) (q : Asked) (goal : Step) → is_led h.done ≡ true → IsDueNow h.now req q (changes.Traverse goal) → is_traversal q.what ≡ true → (is_go_made : (made : Made) → q.made ≡ Some made → changes_history made.what ≡ false) → has_passed h.now q ≡ true → all_stand h.now (aim_of h.now) ≡ true → has_req h.now.parked req ≡ false → MayLog h (record { event = event; actor = actor; row = rows.Applied req (changes.Traverse goal) } ∷ []) (λ later. ends_among h.now.parked later ≡ h.now.parked)
end_may h event actor req q goal led due traverses makes passed stand unparked later held = (passes, tt)
  where
    row : LogRow
    row = record { event = event; actor = actor; row = rows.Applied req (changes.Traverse goal) }

    no_load : (what : Request) → is_traversal what ≡ true → is_load what ≡ false
    no_load (requests.Load nav mode address) is = cc
    no_load (requests.Go delta) is = refl
    no_load (requests.Reload nav) is = refl
    no_load (requests.Poke nav action) is = refl

    loads : is_load q.what ≡ false
    loads = no_load q.what traverses

    duly : is_traversed_duly (point_at h later) (changes.Traverse goal) ≡ true
    duly = both stand (subst (λ (l : List ReqId). same_list same_req l h.now.parked ≡ true) (sym held) (same_reqs h.now.parked))
      where
        same_reqs : (l : List ReqId) → same_list same_req l l ≡ true
        same_reqs [] = refl
        same_reqs (r ∷ l) = both (nat_eq_refl r.0) (same_reqs l)

    jump : is_jump h.now q ≡ true
    jump = by_made q.made refl
      where
        by_made : (o : Option Made) → q.made ≡ o → is_jump h.now q ≡ true
        by_made None is = rw is refl
        by_made (Some made) is = rw is (rw (makes made is) refl)

    never : (b c : Bool) → implies (b && false) c ≡ true
    never true c = refl
    never false c = refl

    step : is_load_step h.now q ≡ true
    step = rw loads (never q.is_started (is_queue_free h.now && holds (is_shown h.now.history.rows h.now.history.current) (nav_of_request q.what)))

    in_time : is_applied_in_time (point_at h later) row q ≡ true
    in_time = rw loads (both (never q.is_started (has_document h.now q)) (by_made q.made refl))
      where
        by_made : (o : Option Made) → q.made ≡ o → implies (holds (λ (made : Made). changes_history made.what) q.made) (holds (is_taken_here (point_at h later) row) q.made) ≡ true
        by_made None is = rw is refl
        by_made (Some made) is = rw is (rw (makes made is) refl)

    passes : Passes h.header (point_at h later) row
    passes =
        record {
          formed = both (led_follows h.done (point_at h later) row refl led refl) (rw due.at refl);
          once = rw due.at (rw due.open_ (both (both due.fit (rw due.due (same_change_refl (changes.Traverse goal)))) due.in_order));
          caused = refl;
          queued = both (both (rw unparked refl) duly) (rw due.at (both jump step));
          ordered = refl;
          checked = rw due.at (implied (is_checked q) passed);
          in_time = rw due.at in_time;
          suits = refl;
        }
