use Rattle.load_doors.proofs.Refused.{refused_work}
use Rattle.load_doors.proofs.refusing.refuse_load.Goals as goal
use Rattle.std.proofs.Common.{List, [], ap, subst, sym, ◌++◌, ◌∙◌, ◌∷◌}
use Rattle.log_model.specs.declared.row_kind.RowKind.{RowKind}
use Rattle.log_model.specs.declared.row_kind.RowKind.TheVariants as rows
use Rattle.tab_doors.specs.Working.{IsAtWork}

pub returns-clause-work : goal.returns-clause-work
returns-clause-work g c =
    subst (λ (l : List RowKind). IsAtWork g.e l c.args._tables.now) (sym (c.in_ok-push.ensures.ok ∙ ap (λ (l : List RowKind). l ++ rows.Refused c.args.req c.args.reason ∷ []) c.requires.0)) (refused_work _ _ _ _ c.requires.1.0 c.requires.1.1.0 c.requires.1.1.1.0 c.requires.1.1.1.1)
