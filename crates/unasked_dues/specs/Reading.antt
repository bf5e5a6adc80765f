-- What is asked of an event so that what its rows owe to its end may be read off the log as it would be had nobody been asked.
-- This project's own.
use Rattle.log_model.specs.Seen.{Seen}
use Rattle.log_model.specs.declared.row_kind.RowKind.TheVariants as rows
use Rattle.log_model.specs.declared.row_kind.RowKind.{RowKind}
use Rattle.seen_laws.specs.InEvent.{InEvent, first_of, log_of, own_of, row_of}
use Rattle.seen_laws.specs.Blocks.{Here, on_rows}
use Rattle.seen_laws.specs.Owing.{owes, owes_row}
use Rattle.std.specs.Prelude.{List, Option, map, true, ◌++◌, ◌∷◌, ◌≡◌}
use Rattle.tab_ids.specs.declared.ReqId.{ReqId}
use Rattle.tab_ids.specs.declared.Step.{Step}
use Rattle.unasked_dues.specs.Checking.{AllOthersPass, AreNumbered, IsAimed, unasked}

-- after these rows requests have their numbers, and whoever isn't in its check has passed
pub record IsReadAt (e : InEvent) (out : List RowKind) : Type 0 where
  pub numbered : AreNumbered (log_of e out)
  pub others : AllOthersPass e.checking (log_of e out)

-- so it was after each of the rows so far
pub record WereRead (e : InEvent) (out : List RowKind) : Type 0 where
  pub each : (before later : List RowKind) → before ++ later ≡ out → IsReadAt e before

-- each load that begins among these rows, which come from there on, is the only one of its navigable at the end
pub record AreSole (e : InEvent) (from : Here) (kinds : List RowKind) (end : Seen) : Type 0 where
  pub each : (before later : List RowKind) (req : ReqId) (goal : Option Step) → before ++ rows.Started req goal ∷ later ≡ kinds → owes_row (on_rows from (map (row_of e) before)) (row_of e (rows.Started req goal)) end ≡ true

-- each load that begins in the event is, whether before the cut or after it
pub record BeginSole (e : InEvent) (out : List RowKind) (end : Seen) : Type 0 where
  pub old : AreSole e (own_of e) e.before end
  pub new : AreSole e (first_of e) out end

-- what the rows before the cut owe to the event's end is paid in the log if it is in the log without questions, at each end of which the aim is read off, where whoever isn't in its check has passed, and the loads that began before the cut are the only ones of their navigables
pub record AreDebts (e : InEvent) : Type 0 where
  pub paid : (end : Seen) → IsAimed e.checking end → AllOthersPass e.checking end → AreSole e (own_of e) e.before end → e.due (unasked e.checking end) ≡ true → owes (own_of e) (map (row_of e) e.before) end ≡ true
