use Rattle.std.proofs.Common.{sym, subst, List, ℕ}
use Rattle.log_model.specs.History.{History, applied}
use Rattle.log_model.specs.Order.{SameHistory}
use Rattle.log_model.specs.declared.change.Change.TheVariants.{Replace}
use Rattle.entry_store.specs.Kept.{IsKept}
use Rattle.step_index.specs.Parts.{history_in}
use Rattle.step_index.proofs.Replacing.{history_same, swap_same, swap_kept}
use Rattle.step_index.proofs.replace.replace_in.Goals as goal

pub returns-in_ok-put_over-in-Some-clause-index : goal.returns-in_ok-put_over-in-Some-clause-index
returns-in_ok-put_over-in-Some-clause-index c =
    let parts = c.args.parts.now in
    let new = c.put_over.new.parts in
    let spot = c.in-Some.spot in
    let over = c.in_ok-put_over-in-Some.ensures in
    let kept = swap_kept parts c.requires.index c.args.nav c.args.over c.args.entry c.args.state c.args.address.now c.args.memo.now c.requires.may spot.place spot.at spot.owner spot.step.0 c.in-Some.ensures c.in_ok-row-in-Some.row c.in_ok-row-in-Some.ensures c.in_ok-put_over-in-Some.field-0 new.tracks.items over.over in
    record {
      kept = subst (λ (used : List ℕ). IsKept (history_in new) used) (sym over.used) (subst (λ (history : History). IsKept history parts.used.items) (sym (history_same parts new over.current over.added)) kept);
      tracks = over.filed.tracks;
      noted = over.filed.noted;
      started = over.filed.started;
      counted = over.counted;
    }

pub returns-in_ok-put_over-in-Some-clause-ok : goal.returns-in_ok-put_over-in-Some-clause-ok
returns-in_ok-put_over-in-Some-clause-ok c =
    let parts = c.args.parts.now in
    let new = c.put_over.new.parts in
    let spot = c.in-Some.spot in
    let over = c.in_ok-put_over-in-Some.ensures in
    subst (λ (history : History). SameHistory history (applied (history_in parts) (Replace c.args.nav c.args.over c.args.entry c.args.state c.args.address.now c.args.memo.now))) (sym (history_same parts new over.current over.added))
    (swap_same parts c.requires.index c.args.nav c.args.over c.args.entry c.args.state c.args.address.now c.args.memo.now c.requires.may spot.place spot.at spot.owner spot.step.0 c.in-Some.ensures c.in_ok-row-in-Some.row c.in_ok-row-in-Some.ensures c.in_ok-put_over-in-Some.field-0 new.tracks.items over.over)
