use Rattle.std.proofs.Common.{◌≡◌, ◌∙◌, ◌+◌, ◌++◌, ◌∷◌, [], ℕ, List, not, filter, take, add-one, sym, ap, subst, refl}
use Rattle.std.specs.Prelude.{◌==◌}
use Rattle.std.proofs.Math.Seq.{take-suc}
use Rattle.log_model.specs.declared.row.Row.{Row}
use Rattle.step_index.specs.Ascending.{IsAscending}
use Rattle.step_index.specs.Groups.{is_unused}
use Rattle.step_index.proofs.Cutting.{ascending_filter}
use Rattle.step_index.proofs.Replacing.{filter-all}
use Rattle.step_index.proofs.Removing.{unused_more, unused_same}
use Rattle.step_index.proofs.remove.drop_unused.Goals as goal
use Rattle.step_index.proofs.remove.drop_unused.Goals.{then-not-has_any, else-not-has_any}

pub loop-row-init : goal.loop-row-init
loop-row-init c = sym (filter-all (λ n. not (is_unused c.args.counts.now.entries [] n)) c.args.used.now.items (λ n there. refl))

pub drop_step-requires : goal.drop_step-requires
drop_step-requires c =
    let gone = is_unused c.args.counts.now.entries (take c.loop-row.row-index c.args.rows.now) in
    record { sorted = subst (λ (steps : List ℕ). IsAscending (λ n. n) steps) (sym c.loop-row.invariant) (ascending_filter (λ n. n) (λ n. not (gone n)) c.args.used.now.items c.requires.sorted) }

pub loop-row-preserved : goal.loop-row-preserved
loop-row-preserved c =
    let counts = c.args.counts.now.entries in
    let rows = c.args.rows.now in
    let i = c.loop-row.row-index in
    let row = c.row-item.result in
    let used = c.args.used.now.items in
    let next : take (i + 1) rows ≡ take i rows ++ row ∷ [] = rw add-one (take-suc rows i row c.loop-row-test.true ∙ ap (λ (r : Row). take i rows ++ r ∷ []) (sym c.row-item.is)) in
    let more = ap (λ (r : List Row). filter (λ n. not (is_unused counts r n)) used) (sym next) in
    elim c.if-not-has_any.branch [
      | then-not-has_any w ↦
          ap (λ used_. used_.items) w.used-is ∙ w.drop_step.ensures
          ∙ ap (filter (λ n. not (n == row.step.0))) c.loop-row.invariant
          ∙ unused_more counts (take i rows) row used (sym c.has_any.ensures ∙ w.if-not-has_any.true) ∙ more
      | else-not-has_any w ↦
          ap (λ used_. used_.items) w.used-is ∙ c.loop-row.invariant ∙ unused_same counts (take i rows) row used (sym c.has_any.ensures ∙ w.if-not-has_any.false) ∙ more
    ]
