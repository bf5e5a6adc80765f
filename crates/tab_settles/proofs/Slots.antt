-- A table of the slots of handlers stays that of the log over the rows that a coordinator puts out.
use Rattle.log_model.specs.Seen.{Seen}
use Rattle.log_model.specs.declared.row_kind.RowKind.TheVariants as rows
use Rattle.log_model.specs.declared.row_kind.RowKind.{RowKind}
use Rattle.seen_facts.specs.Hang.Members.{Has}
use Rattle.seen_laws.proofs.InEvents.{log_more}
use Rattle.seen_laws.specs.InEvent.{InEvent, log_of}
use Rattle.slot_facts.proofs.Rows.{plain_slots}
use Rattle.slot_facts.proofs.Rows as tell
use Rattle.slot_facts.specs.Slots.{AreSlots}
use Rattle.std.proofs.Common.{List, [], append-nil, append_assoc, inl, inr, refl, subst, sym, ℕ, ◌++◌, ◌∷◌}
use Rattle.tab_facts.specs.Order.Orders.{IsOfCoord}
use Rattle.tab_ids.specs.declared.DocId.{DocId}
use Rattle.tab_settles.specs.Settling.{HasPut}

-- a row of a coordinator neither finishes an order nor delivers a report
coord_plain : (kind : RowKind) → IsOfCoord kind → tell.IsPlain kind
coord_plain (rows.Sent job) of_coord = tt
coord_plain (rows.Started req goal) of_coord = tt
coord_plain (rows.Applied req change) of_coord = tt
coord_plain (rows.Refused req reason) of_coord = tt
coord_plain (rows.Dropped req cause) of_coord = tt
coord_plain _ never = absurd never

module _ (e : InEvent) (slots : List (DocId × ℕ)) where
  -- ---- rows that are put out

  -- one more, which neither finishes an order nor delivers a report
  pub row_slots : (out : List RowKind) (kind : RowKind) → tell.IsPlain kind → AreSlots (log_of e out) slots → AreSlots (log_of e (out ++ kind ∷ [])) slots
  row_slots out kind plain are =
      subst (λ (x : Seen). AreSlots x slots) (sym (log_more e out kind)) (plain_slots (log_of e out) e.event e.actor kind plain slots are)

  -- those of a coordinator
  pub rows_slots : (more was : List RowKind) → ((row : RowKind) → Has more row → IsOfCoord row) → AreSlots (log_of e was) slots → AreSlots (log_of e (was ++ more)) slots
  rows_slots [] was of_coord are = subst (λ (l : List RowKind). AreSlots (log_of e l) slots) (sym (append-nil was)) are
  rows_slots (kind ∷ more) was of_coord are =
      subst (λ (l : List RowKind). AreSlots (log_of e l) slots) (append_assoc was (kind ∷ []) more)
      (rows_slots more (was ++ kind ∷ []) (λ row has. of_coord row (inr has)) (row_slots was kind (coord_plain kind (of_coord kind (inl refl))) are))

  -- and those that are put out as the tab is brought to rest
  pub put_slots : (was out : List RowKind) → HasPut e was out → AreSlots (log_of e was) slots → AreSlots (log_of e out) slots
  put_slots was out put are =
      subst (λ (l : List RowKind). AreSlots (log_of e l) slots) (sym put.is) (rows_slots put.more was put.each are)
