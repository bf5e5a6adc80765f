use Rattle.nav_tree.specs.Tree.{docs_of}
use Rattle.std.proofs.Common.{List, ap, arith, length, subst, sym, ◌∙◌, ◌≤◌}
use Rattle.std.specs.Prelude.{IsPermutation}
use Rattle.std.specs.Prelude.{slice_get}
use Rattle.tab_ids.specs.declared.DocId.{DocId}
use Rattle.tab_one_pass.proofs.Notings.{entries_noted, noted_all, noted_next, noted_none}
use Rattle.tab_one_pass.proofs.noting.note_entries.Goals as goal
use Rattle.tab_one_pass.specs.Noting.{entry_noting}

pub loop-i-init : goal.loop-i-init
loop-i-init c = noted_none (entry_noting c.args.tables.now c.args.req) c.all.inside.items.items _

pub loop-i-preserved : goal.loop-i-preserved
loop-i-preserved c =
    noted_next (entry_noting c.args.tables.now c.args.req) c.all.inside.items.items c.loop-i.i _ _ _ _ (ap (λ (l : List DocId). slice_get l c.loop-i.i) c.all.view_is ∙ c.at.ensures) c.loop-i.invariant c.in_ok-note_entry.ensures

pub returns : goal.returns
returns c =
    let long : length c.all.inside.items.items ≤ c.loop-i.i =
    (let same = ap (λ (l : List DocId). length l) c.all.view_is in let ends = c.len-i-end.ensures in let past = c.loop-i-test.false in omega (arith, same, ends, past)) in
    entries_noted c.args.tables.now c.args.req c.all.inside.items.items _ _ (subst (λ (l : List DocId). IsPermutation (docs_of c.args.tables.now.tree) l) (sym c.all.view_is) c.in_ok-all.ensures.placed) (noted_all (entry_noting c.args.tables.now c.args.req) c.all.inside.items.items c.loop-i.i _ _ long c.loop-i.invariant)
