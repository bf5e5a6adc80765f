use Rattle.std.proofs.Common.{◌≡◌, ◌-◌, ◌<◌, ℕ, List, false, ap, sym, arith, length, subst, take, drop}
use Rattle.std.specs.Prelude.{nat_le, nat_lt}
use Rattle.std.specs.List.{list_any}
use Rattle.step_index.specs.Ascending.{IsAscending}
use Rattle.step_index.specs.Parts.{history_in}
use Rattle.step_index.proofs.Searching.{item_at}
use Rattle.step_index.proofs.Looking.{used_ascend, used_none, used_some}
use Rattle.step_index.proofs.readers.used_step_in.Goals as goal

pub count_upto-upto-requires : goal.count_upto-upto-requires
count_upto-upto-requires g c =
    record { sorted = subst (λ (used : List ℕ). IsAscending (λ n. n) used) (sym c.as_slice.ensures.value) (used_ascend (history_in c.args.parts.now) c.args.parts.now.used.items c.requires.index.kept) }

pub returns-then-upto-eq0-clause-used : goal.returns-then-upto-eq0-clause-used
returns-then-upto-eq0-clause-used g c =
    let a = c.count_upto-upto.ensures in
    let upto = c.count_upto-upto.result in
    let used = c.args.parts.now.used.items in
    sym (used_none (history_in c.args.parts.now) used c.requires.index.kept upto c.args.s.0
    (subst (λ (steps : List ℕ). list_any (λ n. nat_lt c.args.s.0 n) (take upto steps) ≡ false) c.as_slice.ensures.value a.upto)
    (subst (λ (steps : List ℕ). list_any (λ n. nat_le n c.args.s.0) (drop upto steps) ≡ false) c.as_slice.ensures.value a.past) c.if-upto-eq0.true)

pub returns-else-upto-eq0-clause-used : goal.returns-else-upto-eq0-clause-used
returns-else-upto-eq0-clause-used g c =
    let a = c.count_upto-upto.ensures in
    let upto = c.count_upto-upto.result in
    let used = c.args.parts.now.used.items in
    let some : 0 < upto = omega (arith, c.if-upto-eq0.false) in
    let within : upto - 1 < length used = omega (arith, a.within, some, ap (length {A = ℕ}) c.as_slice.ensures.value) in
    sym (used_some (history_in c.args.parts.now) used c.requires.index.kept upto c.args.s.0
    (subst (λ (steps : List ℕ). list_any (λ n. nat_lt c.args.s.0 n) (take upto steps) ≡ false) c.as_slice.ensures.value a.upto)
    (subst (λ (steps : List ℕ). list_any (λ n. nat_le n c.args.s.0) (drop upto steps) ≡ false) c.as_slice.ensures.value a.past)
    c.index.result.now some (item_at used (upto - 1) c.index.result.now within c.index.ensures))
