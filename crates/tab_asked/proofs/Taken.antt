-- What an event delivers is taken up among its rows, also where more come behind them.
use Rattle.log_model.specs.AfterRequests.{made_of_report}
use Rattle.log_model.specs.Equal.{implies}
use Rattle.log_model.specs.Points.{is_taken_up_in, taken_report}
use Rattle.log_model.specs.Queue.{is_delivered_duly, is_taken_up_at_once}
use Rattle.log_model.specs.declared.made.Made.{Made}
use Rattle.log_model.specs.declared.row_kind.LogRow.{LogRow}
use Rattle.log_model.specs.declared.row_kind.RowKind.{RowKind}
use Rattle.seen_laws.proofs.InEvents.{later_more}
use Rattle.seen_laws.specs.Blocks.{Here, point_at}
use Rattle.seen_laws.specs.InEvent.{InEvent, IsTakenIn, later_of, row_of, start_of}
use Rattle.std.proofs.Common.{Bool, List, None, Option, Some, [], false, map, refl, subst, sym, true, ◌++◌, ◌||◌, ◌∙◌, ◌∷◌, ◌≡◌}
use Rattle.std.specs.List.{list_any}
use Rattle.std.specs.Prelude.{option_and_then}

any_more : (test : LogRow → Bool) (rows_ more : List LogRow) → list_any test rows_ ≡ true → list_any test (rows_ ++ more) ≡ true
any_more test [] more is = absurd cc
any_more test (row ∷ rows_) more is = by_first (test row) is (any_more test rows_ more)
  where
    by_first : (b : Bool) → (b || list_any test rows_) ≡ true → (list_any test rows_ ≡ true → list_any test (rows_ ++ more) ≡ true) → (b || list_any test (rows_ ++ more)) ≡ true
    by_first true e rest = refl
    by_first false e rest = rest e

implied_on : (a b c : Bool) → (b ≡ true → c ≡ true) → implies a b ≡ true → implies a c ≡ true
implied_on true b c on is = on is
implied_on false b c on is = refl

delivered_more : (h : Here) (row : LogRow) (later more : List LogRow) → is_delivered_duly (point_at h later) row ≡ true → is_delivered_duly (point_at h (later ++ more)) row ≡ true
delivered_more h row later more taken =
    by_made (option_and_then made_of_report (taken_report (point_at h later) row)) refl
  where
    by_made : (o : Option Made) → option_and_then made_of_report (taken_report (point_at h later) row) ≡ o → is_delivered_duly (point_at h (later ++ more)) row ≡ true
    by_made None is = rw is refl
    by_made (Some made) is =
        let before : is_delivered_duly (point_at h later) row ≡ implies (is_taken_up_at_once h.now made) (list_any (is_taken_up_in made.req) later) = rw is refl in
        rw is (implied_on (is_taken_up_at_once h.now made) (list_any (is_taken_up_in made.req) later) (list_any (is_taken_up_in made.req) (later ++ more)) (any_more (is_taken_up_in made.req) later more) (sym before ∙ taken))

pub taken_more : (e : InEvent) (out more : List RowKind) → IsTakenIn e (later_of e out) → IsTakenIn e (later_of e (out ++ more))
taken_more e out more taken =
    subst (λ (l : List LogRow). IsTakenIn e l) (sym (later_more e out more)) (delivered_more (start_of e) (row_of e e.own) (later_of e out) (map (row_of e) more) taken)
