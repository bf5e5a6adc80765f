-- The row with which a tab opens, and what is kept then.
-- This project's own.
use Rattle.std.specs.Prelude.{◌≡◌, ℕ, List, [], None}
use Rattle.coord.specs.Standing.{StandsFor}
use Rattle.tab_ids.specs.declared.ProcId.{ProcId}
use Rattle.coord.specs.PassedOn.{opened_at}
use Rattle.log_model.specs.declared.header.Header.{Header}
use Rattle.log_model.specs.declared.row_kind.Actor.TheVariants as actors
use Rattle.log_model.specs.declared.row_kind.LogRow.{LogRow}
use Rattle.log_model.specs.declared.row_kind.RowKind.TheVariants as rows
use Rattle.log_model.specs.Views.{opening_view}
use Rattle.proc_tables.specs.Views.{Becomes}
use Rattle.running_table.specs.Making.{IsTold}
use Rattle.world.specs.declared.state.State.{State}
use Rattle.world.specs.Open.{bare, first_document}

-- its first entry, document state and document, in a process, without a handler
abbrev pub opening_row : List ℕ → ProcId → LogRow
opening_row address proc =
    record {
      event = 0;
      actor = actors.Start;
      row = rows.Opened (record { maker = 0; nr = 1 }) (record { 0 = 1 }) first_document proc None address;
    }

-- a coordinator that stands for that log, with these settings but their pages; the view of the document, that it runs, and no lists
pub record IsJustOpened (header : Header) (proc : ProcId) (t : State) : Type 0 where
  pub events : t.events ≡ 1
  pub stands : StandsFor (opened_at header.first proc) t.coordinator
  pub header_is : t.coordinator.header ≡ bare header
  pub views : Becomes first_document (opening_view first_document (record { maker = 0; nr = 1 }) header.first) [] t.views
  pub runners : IsTold (opened_at header.first proc) t.runners
  pub desks : t.desks ≡ []
  pub endings : t.endings.items ≡ []
