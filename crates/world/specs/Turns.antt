-- What a function of a step leaves where it succeeds, and why it may fail.
-- This project's own.
use Rattle.std.specs.Prelude.{List}
use Rattle.log_model.specs.declared.header.Header.{Header}
use Rattle.log_model.specs.declared.row_kind.LogRow.{LogRow}
use Rattle.world.specs.declared.error.StepError.{StepError}
use Rattle.world.specs.declared.error.StepError.TheVariants as errors
use Rattle.world.specs.declared.event.Event.{Event}
use Rattle.world.specs.declared.event.Reply.{Reply}
use Rattle.world.specs.declared.state.State.{State}
use Rattle.world.specs.Open.{IsOpen}
use Rattle.world.specs.Steps.{HasHappened}

-- the errors after which a world is closed
abbrev pub Shuts : StepError → Type 0
Shuts errors.Closed = ⊥
Shuts errors.LogFull = ⊥
Shuts (errors.UrlOverflow overflowed) = Unit {0}
Shuts errors.OutOfMemory = Unit {0}

-- the event has happened, and the world is open
pub record HasGone (header : Header) (event : Event) (reply : Reply) (old new : List LogRow) (t : State) : Type 0 where
  pub happened : HasHappened event reply old new
  pub stands : IsOpen header new t
