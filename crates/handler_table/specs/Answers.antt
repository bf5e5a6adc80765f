-- What stored unload handlers answer.
-- HTML Standard, "Checking if unloading is canceled"; that a handler answers by its kind is this project's own.
use Rattle.std.specs.Prelude.{◌≡◌, ℕ, Bool, true, false, List, slice_get}
use Rattle.std.specs.Option.{option_map_or}
use Rattle.log_model.specs.Handlers.{prompts}
use Rattle.log_model.specs.declared.handler.HandlerKind.{HandlerKind}
use Rattle.log_model.specs.declared.handler.Leaving.{Leaving}
use Rattle.log_model.specs.declared.handler.Verdict.{Verdict}
use Rattle.log_model.specs.declared.handler.Verdict.TheVariants.{Leave, Prompt}

-- a prompt is wanted, or not
abbrev pub verdict_of : Bool → Verdict
verdict_of true = Prompt
verdict_of false = Leave

-- what a handler of this kind answers
abbrev pub answer_by : HandlerKind → Leaving → Verdict
answer_by kind leaving = verdict_of (prompts kind leaving)

-- each answer that a closure may give is by the kind
abbrev pub AnswersBy : (Leaving → Verdict → Type 0) → HandlerKind → Type 0
AnswersBy may_give kind = (leaving : Leaving) (verdict : Verdict) → may_give leaving verdict → verdict ≡ answer_by kind leaving

-- what the handler of a slot answers: leave where the slot is empty
abbrev pub answer_at : List HandlerKind → ℕ → Leaving → Verdict
answer_at kinds slot leaving = option_map_or (λ kind. answer_by kind leaving) (slice_get kinds slot) Leave
