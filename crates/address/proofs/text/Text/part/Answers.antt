use Rattle.std.proofs.Common.{◌≡◌, ◌≤◌, ◌+◌, ◌-◌, ℕ, List, length, take, drop, subst, sym}
use Rattle.std.specs.Arc.{arc_slice_items}
use Rattle.address.proofs.Parts.{part_of_part}
use Rattle.address.proofs.text.Text.part.Goals as goal

pub returns : goal.returns
returns c =
    let short = subst (λ (now : List ℕ). c.args.to ≤ length now) (sym c.self.view_is) c.requires.within in
    let part = part_of_part (arc_slice_items c.self.inside.bytes) c.self.inside.from c.self.inside.to c.args.from c.args.to c.self.invariant.0 c.self.invariant.1 c.requires.order short in
    let whole = subst (λ (now : List ℕ). take ((c.self.inside.from + c.args.to) - (c.self.inside.from + c.args.from)) (drop (c.self.inside.from + c.args.from) (arc_slice_items c.self.inside.bytes)) ≡ take (c.args.to - c.args.from) (drop c.args.from now)) c.self.view_is part in
    rw c.in_ok-bytes.ensures.cases whole
