use Rattle.tab_prompts.proofs.Lists.{prompts_more}
use Rattle.tab_prompts.proofs.prompting.prompt_settled.Goals as goal

pub loop-req-preserved : goal.loop-req-preserved
loop-req-preserved c =
    prompts_more c.args.checks.now c.args.waited.now c.loop-req.req-index _ c.args.out.now c.loop-req.out c.prompt_one.new.out c.loop-req-test.true c.loop-req.invariant c.in_ok-prompt_one.ensures
