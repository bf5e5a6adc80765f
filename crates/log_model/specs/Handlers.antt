-- When an unload handler wants a prompt.
-- HTML Standard, "Checking if unloading is canceled"; the kinds are this project's own.
use Rattle.std.specs.Prelude.{Bool, true, false}
use Rattle.log_model.specs.declared.handler.HandlerKind.{HandlerKind}
use Rattle.log_model.specs.declared.handler.HandlerKind.TheVariants as kinds
use Rattle.log_model.specs.declared.handler.LeaveCause.{LeaveCause}
use Rattle.log_model.specs.declared.handler.LeaveCause.TheVariants as causes
use Rattle.log_model.specs.declared.handler.Leaving.{Leaving}

-- a draft keeps its page from a load or a reload, not from a traversal
abbrev pub draft_prompts : Bool → LeaveCause → Bool
draft_prompts dirty causes.Load = dirty
draft_prompts dirty causes.Traverse = false
draft_prompts dirty causes.Reload = dirty

-- whether a handler of this kind wants a prompt
abbrev pub prompts : HandlerKind → Leaving → Bool
prompts kinds.Dirty leaving = leaving.dirty
prompts kinds.Draft leaving = draft_prompts leaving.dirty leaving.cause
prompts kinds.Always leaving = true
