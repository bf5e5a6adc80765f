use Rattle.std.proofs.Common.{◌≡◌, ◌++◌, take}
use Rattle.tab_prompts.specs.Prompts.{prompts_for}
use Rattle.tab_prompts.proofs.prompting.prompt_settled.Given as goal

-- the prompts of those so far were put out
abbrev pub invariant-loop-req : goal.invariant-loop-req
invariant-loop-req l = l.out ≡ l.fn.out ++ prompts_for l.checks (take l.req-index l.waited)
