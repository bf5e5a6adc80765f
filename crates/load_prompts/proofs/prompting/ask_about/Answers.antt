use Rattle.load_prompts.proofs.Asked.{has_asked}
use Rattle.load_prompts.proofs.prompting.ask_about.Goals as goal
use Rattle.std.proofs.Common.{List, ap, ◌++◌, ◌∙◌}
use Rattle.checking_facts.specs.Prompts.{told_all}
use Rattle.tab_doors.specs.declared.tables.Tables.{Tables}
use Rattle.tab_ids.specs.declared.DocId.{DocId}
use Rattle.tab_ids.specs.declared.ReqId.{ReqId}
use Rattle.tab_prompts.specs.Prompts.{prompts_for}
use Rattle.unload_check.specs.Checks.{OpenCheck}

pub returns-clause-asked : goal.returns-clause-asked
returns-clause-asked g c =
    has_asked g.p c.args.out.now c.args.tables.now c.requires.1.0 c.requires.1.1.0 c.args.reqs.now c.requires.1.1.1 _ _
    (ap (λ (l : List (ReqId × OpenCheck)). let x : Tables = record c.args.tables.now { checks = l } in x) (c.in_ok-tell_rows.ensures.told ∙ ap (λ (ran : List DocId). told_all ran c.args.tables.now.checks c.args.out.now) c.requires.0))
    (c.in_ok-prompt_settled.ensures ∙ ap (λ (reqs : List ReqId). c.args.out.now ++ prompts_for c.tell_rows.new.checks reqs) (c.as_slice.ensures ∙ c.in_ok-waited.ensures))
