use Rattle.std.proofs.Common.{ap, sym, ◌∙◌}
use Rattle.std.specs.Option.{option_map}
use Rattle.nav_tree.specs.Tree.{is_placed}
use Rattle.nav_tree.proofs.Lists.{find-drop_here, find-drop_past}
use Rattle.nav_tree.proofs.tree.NavTree.state_of.Goals as goal

pub returns-then-eq : goal.returns-then-eq
returns-then-eq c =
    let here = find-drop_here (is_placed c.args.doc) c.args.self.now.places c.loop-i.i c.place_at.result c.place_at.ensures (sym c.eq.ensures ∙ c.if-eq.true) in
    ap (option_map (λ entry. entry.0)) (sym here ∙ c.loop-i.invariant)

pub loop-i-preserved : goal.loop-i-preserved
loop-i-preserved c =
    find-drop_past (is_placed c.args.doc) c.args.self.now.places c.loop-i.i c.place_at.result c.place_at.ensures (sym c.eq.ensures ∙ c.if-eq.false) ∙ c.loop-i.invariant
