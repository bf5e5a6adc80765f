use Rattle.std.proofs.Common.{◌≡◌, take}
use Rattle.tab_prompts.specs.Prompts.{waiting_among}
use Rattle.tab_prompts.proofs.waiting.waiting_among.Given as goal

-- those so far
abbrev pub invariant-loop-req : goal.invariant-loop-req
invariant-loop-req l = l.waiting ≡ waiting_among l.checks (take l.req-index l.among)
