-- The load in the log itself, in which others may be in their unload checks: it is there as it is without questions, its way up is placed there, whom it asks is read there, and no ongoing load of its navigable is in its check.
use Rattle.log_model.specs.Once.{loads}
use Rattle.log_model.specs.Orders.{due_questions}
use Rattle.log_model.specs.AfterRequests.{on_request}
use Rattle.log_model.specs.Places.{aim_of, is_load, is_ongoing_load, is_placed, way_to}
use Rattle.log_model.specs.Seen.{Asked, Seen, request_in, request_of}
use Rattle.log_model.specs.declared.outcome.Cause.{Cause}
use Rattle.log_model.specs.declared.outcome.Ending.TheVariants as endings
use Rattle.log_model.specs.declared.request.Request.{Request}
use Rattle.log_model.specs.declared.row_kind.RowKind.TheVariants as rows
use Rattle.log_model.specs.declared.row_kind.RowKind.{RowKind}
use Rattle.seen_facts.proofs.Coord.Held.{on_else}
use Rattle.seen_facts.proofs.Load.Rows.{req_same}
use Rattle.seen_facts.proofs.Request.LookUps.{on_itself}
use Rattle.seen_laws.proofs.InEvents.{log_more, now_is}
use Rattle.seen_laws.specs.InEvent.{InEvent, log_of, now_of}
use Rattle.seen_laws.specs.Unasked.{unasked, without_asks}
use Rattle.std.proofs.Common.{Bool, List, None, Option, Some, [], ap, false, refl, subst, sym, true, ℕ, ◌&&◌, ◌==◌, ◌∙◌, ◌∷◌, ◌≡◌}
use Rattle.std.specs.List.{list_all}
use Rattle.std.specs.Prelude.{nat_lt, option_map}
use Rattle.tab_doors.proofs.Works.{aimed_log}
use Rattle.tab_doors.specs.Working.{IsAtWork}
use Rattle.tab_doors.specs.declared.tables.Tables.{Tables}
use Rattle.tab_ids.specs.declared.NavId.{NavId}
use Rattle.tab_ids.specs.declared.ReqId.{ReqId}
use Rattle.unasked.proofs.Readings.{checked_off, found_from, same_nr}
use Rattle.unasked_dues.proofs.Base.{aim_same}
use Rattle.unasked_dues.specs.Checking.{NoneChecksBefore}

-- ---- where the coordinator is at work

module _ (e : InEvent) (out : List RowKind) (t : Tables) (work : IsAtWork e out t) where
  -- what is known of the log without questions is known of what is read off the log
  pub read_there : (P : Seen → Type 0) → P (now_of e out) → P (unasked e.checking (log_of e out))
  read_there P is = subst P (now_is e out) is

  -- all are to come to the same step
  pub aim_there : aim_of (log_of e out) ≡ aim_of (unasked e.checking (log_of e out))
  aim_there = sym (aim_same e.checking (log_of e out) (aimed_log e out t work))

  -- the way up to a navigable is placed
  pub way_there : (nav : NavId) → list_all (is_placed (now_of e out) (aim_of (now_of e out))) (way_to (now_of e out) nav) ≡ true → list_all (is_placed (log_of e out) (aim_of (log_of e out))) (way_to (log_of e out) nav) ≡ true
  way_there nav placed =
      ap (λ (k : ℕ). list_all (is_placed (log_of e out) k) (way_to (log_of e out) nav)) aim_there
      ∙ read_there (λ (x : Seen). list_all (is_placed x (aim_of x)) (way_to x nav) ≡ true) placed

-- ---- a request that isn't in its check

-- as the log has it
pub record IsThereAs (checking : ReqId → Bool) (s : Seen) (req : ReqId) (own : Asked) : Type 0 where
  pub q : Asked
  pub at : request_of s req ≡ Some q
  pub is : own ≡ without_asks q

pub there_as : (checking : ReqId → Bool) (s : Seen) (req : ReqId) (own : Asked) → request_of (unasked checking s) req ≡ Some own → own.nr ≡ req → checking req ≡ false → IsThereAs checking s req own
there_as checking s req own found number outside =
    let from = found_from checking s req own found in
    let nr : (from.0).nr ≡ req = sym (same_nr checking (from.0)) ∙ ap (λ (x : Asked). x.nr) (sym (from.2)) ∙ number in
    record { q = from.0; at = from.1; is = from.2 ∙ checked_off checking (from.0) (ap checking nr ∙ outside) }

-- ---- whom a load asks

-- a row by which a request is dropped leaves whom another one asks
pub asks_dropped : (e : InEvent) (req : ReqId) (cause : Cause) (what : Request) → due_questions (log_of e (rows.Dropped req cause ∷ [])) what None ≡ due_questions (log_of e []) what None
asks_dropped e req cause what = ap (λ (x : Seen). due_questions x what None) (log_more e [] (rows.Dropped req cause))

-- a request as it is dropped
abbrev dropped_as : Cause → Asked → Asked
dropped_as cause q = record q { ending = Some (endings.Dropped cause) }

-- nor does an ongoing load of the navigable enter its check
pub apart_dropped : (e : InEvent) (req : ReqId) (nav : NavId) → NoneChecksBefore e.checking (log_of e []) req nav → (old : ReqId) (cause : Cause) → NoneChecksBefore e.checking (log_of e (rows.Dropped old cause ∷ [])) req nav
apart_dropped e req nav none old cause r q at on =
    by_number (r.0 == old.0) refl (ap (λ (x : Seen). request_of x r) (sym (log_more e [] (rows.Dropped old cause))) ∙ at)
  where
    ended : (o : Option Asked) → option_map (dropped_as cause) o ≡ Some q → (is_ongoing_load q && nat_lt q.nr.0 req.0 && loads nav q.what) ≡ false
    ended None is = absurd cc
    ended (Some x) is =
        let same : dropped_as cause x ≡ q = cc in
        ap (λ (y : Asked). is_ongoing_load y && nat_lt y.nr.0 req.0 && loads nav y.what) (sym same) ∙ by_start x.is_started
      where
        by_start : (b : Bool) → ((b && false) && is_load x.what && nat_lt x.nr.0 req.0 && loads nav x.what) ≡ false
        by_start true = refl
        by_start false = refl

    by_number : (b : Bool) → (r.0 == old.0) ≡ b → request_in (on_request old (dropped_as cause) (log_of e []).requests) r ≡ Some q → (is_ongoing_load q && nat_lt q.nr.0 req.0 && loads nav q.what) ≡ false
    by_number false apart there = none r q (sym (on_else (log_of e []).requests old (dropped_as cause) r apart) ∙ there) on
    by_number true same there =
        ended (request_in (log_of e []).requests old) (sym (on_itself (log_of e []).requests old (dropped_as cause)) ∙ ap (λ (x : ReqId). request_in (on_request old (dropped_as cause) (log_of e []).requests) x) (sym (req_same r old same)) ∙ there)
