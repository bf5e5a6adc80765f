-- An event that goes on behind rows that were put out: cut behind them, as often as need be.
-- This project's own.
use Rattle.log_model.specs.declared.row_kind.RowKind.{RowKind}
use Rattle.seen_laws.specs.InEvent.{InEvent}
use Rattle.std.specs.Prelude.{List, ◌++◌, ◌≡◌}

-- the event goes on behind these rows as that one: who is in its check, what is owed, and what is wanted of later rows, are that one's
pub record GoesOn (e : InEvent) (first : List RowKind) (at : InEvent) : Type 0 where
  pub header : at.header ≡ e.header
  pub start : at.start ≡ e.start
  pub event : at.event ≡ e.event
  pub actor : at.actor ≡ e.actor
  pub own : at.own ≡ e.own
  pub before : at.before ≡ e.before ++ first
