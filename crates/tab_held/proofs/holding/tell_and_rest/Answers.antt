use Rattle.checking_facts.specs.Prompts.{Told, told_all, told_by}
use Rattle.log_model.specs.declared.row_kind.RowKind.{RowKind}
use Rattle.std.proofs.Common.{List, ap, sym, ◌++◌, ◌∙◌}
use Rattle.tab_doors.specs.declared.tables.Tables.{Tables}
use Rattle.tab_held.proofs.Cut.{header_asks, rest_asks, rest_says}
use Rattle.tab_held.proofs.holding.tell_and_rest.Goals as goal
use Rattle.tab_held.specs.Holding.{goes_on}
use Rattle.tab_ids.specs.declared.DocId.{DocId}
use Rattle.tab_ids.specs.declared.ReqId.{ReqId}
use Rattle.tab_prompts.specs.Prompts.{prompts_for}
use Rattle.unload_check.specs.Checks.{OpenCheck, after_all_deaths}

pub rest_held-requires : goal.rest_held-requires
rest_held-requires g c =
    let told = c.died.ensures.deaths
    ∙ ap (λ (x : Told). after_all_deaths x.run x.checks) c.in_ok-tell_ended.ensures
    ∙ ap (λ (ran : List DocId). told_all ran c.args.tables.now.checks c.args.out.now) c.requires.1.0 in
    let open_ = ap (λ (l : List (ReqId × OpenCheck)). goes_on l c.args.req) c.died.ensures.deaths ∙ sym c.in_ok-goes.ensures ∙ c.if-goes.false in (
      c.requires.0 ∙ header_asks g.c.held.pass _ _ _ _ _ c.requires.1.1.1.0.1 c.requires.1.1.1.1.1.0 _ c.requires.1.1.1.1.1.1.0 c.requires.1.1.1.1.1.1.1 g.c.at c.requires.1.1.0 _ told open_,
      (
        c.requires.1.1.1.0.0,
        rest_asks g.c.held.pass _ _ _ _ _ c.requires.1.1.1.0.1 c.requires.1.1.1.1.1.0 _ c.requires.1.1.1.1.1.1.0 c.requires.1.1.1.1.1.1.1 g.c.at c.requires.1.1.0 _ told open_ _ c.new-more.ensures,
      ),
    )

pub returns-clause-rests : goal.returns-clause-rests
returns-clause-rests g c = λ waits blame cleared.
    let told = c.died.ensures.deaths
    ∙ ap (λ (x : Told). after_all_deaths x.run x.checks) c.in_ok-tell_ended.ensures
    ∙ ap (λ (ran : List DocId). told_all ran c.args.tables.now.checks c.args.out.now) c.requires.1.0 in
    let open_ = ap (λ (l : List (ReqId × OpenCheck)). goes_on l c.args.req) c.died.ensures.deaths ∙ sym c.in_ok-goes.ensures ∙ c.if-goes.false in
    let cut = rest_asks g.c.held.pass _ _ _ _ _ cleared c.requires.1.1.1.1.1.0 _ c.requires.1.1.1.1.1.1.0 c.requires.1.1.1.1.1.1.1 g.c.at c.requires.1.1.0 _ told open_ _ c.new-more.ensures in
    rest_says g.c.held.pass _ _ _ _ _ cleared c.requires.1.1.1.1.1.0 _ c.requires.1.1.1.1.1.1.0 c.requires.1.1.1.1.1.1.1 g.c.at c.requires.1.1.0 _ told open_ c.requires.1.1.1.1.0 _ c.rest_held.new.out _ _ c.new-more.ensures c.in_ok-rest_held.ensures.checks (c.in_ok-put_all.ensures ∙ ap (λ (l : List RowKind). l ++ c.rest_held.new.out) (c.in_ok-prompt_settled.ensures ∙ ap (λ (reqs : List ReqId). c.args.out.now ++ prompts_for c.died.new.self reqs) (c.as_slice.ensures ∙ c.in_ok-waited.ensures))) c.in_ok-rest_held.ensures.idle (c.in_ok-rest_held.ensures.settled blame cut) c.in_ok-rest_held.ensures.quiet c.in_ok-rest_held.ensures.put c.in_ok-rest_held.ensures.off

pub returns-then-goes-clause-told : goal.returns-then-goes-clause-told
returns-then-goes-clause-told g c = λ goes.
    let told = c.in_ok-tell_ended.ensures
    ∙ ap (λ (ran : List DocId). told_by ran c.args.tables.now.checks c.args.out.now) c.requires.1.0 in
    record {
      told = ap (λ (d : Told). let x : Tables = record c.args.tables.now { checks = d.checks } in x) told;
      lasts = ap (λ (d : Told). d.run) told;
    }
