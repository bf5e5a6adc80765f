use Rattle.std.proofs.Common.{◌≡◌, ℕ, List, false, ap, sym, ◌∙◌, arith, length, subst, take, drop}
use Rattle.std.specs.Prelude.{nat_le, nat_lt}
use Rattle.std.specs.List.{list_any}
use Rattle.step_index.specs.Ascending.{IsAscending}
use Rattle.step_index.specs.Parts.{history_in}
use Rattle.step_index.proofs.Looking.{used_ascend, few_used, index_is}
use Rattle.step_index.proofs.readers.length_index_in.Goals as goal

pub uncounted_upto-upto-requires : goal.uncounted_upto-upto-requires
uncounted_upto-upto-requires c =
    record { sorted = subst (λ (used : List ℕ). IsAscending (λ n. n) used) (sym c.as_slice.ensures.value) (used_ascend (history_in c.args.parts.now) c.args.parts.now.used.items c.requires.index.kept) }

pub as_count-requires : goal.as_count-requires
as_count-requires c =
    omega (arith, c.len.ensures, few_used (history_in c.args.parts.now) c.args.parts.now.used.items c.requires.index.kept)

pub as_count-requires-2 : goal.as_count-requires-2
as_count-requires-2 c =
    omega (arith, c.saturating_sub.ensures, c.uncounted_upto-upto.ensures.within, ap (length {A = ℕ}) c.as_slice.ensures.value, few_used (history_in c.args.parts.now) c.args.parts.now.used.items c.requires.index.kept)

pub returns-clause-length : goal.returns-clause-length
returns-clause-length c = omega (arith, c.as_count.ensures, c.len.ensures, ap (length {A = ℕ}) c.requires.index.kept.used)

pub returns-clause-index : goal.returns-clause-index
returns-clause-index c =
    let a = c.uncounted_upto-upto.ensures in
    let upto = c.uncounted_upto-upto.result in
    let used = c.args.parts.now.used.items in
    c.as_count-2.ensures ∙ c.saturating_sub.ensures ∙ sym (index_is (history_in c.args.parts.now) used c.requires.index.kept upto c.args.s.0
    (subst (λ (steps : List ℕ). list_any (λ n. nat_lt c.args.s.0 n) (take upto steps) ≡ false) c.as_slice.ensures.value a.upto)
    (subst (λ (steps : List ℕ). list_any (λ n. nat_le n c.args.s.0) (drop upto steps) ≡ false) c.as_slice.ensures.value a.past)
    (omega (arith, a.within, ap (length {A = ℕ}) c.as_slice.ensures.value)))
