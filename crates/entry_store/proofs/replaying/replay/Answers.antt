use Rattle.std.proofs.Common.{◌≡◌, ℕ, suc, ◌<◌, List, fold, take, drop, get_or, length, add-one, subst, sym, ◌∙◌}
use Rattle.log_model.specs.declared.change.Change.{Change}
use Rattle.log_model.specs.History.{History, applied}
use Rattle.log_model.specs.Order.{SameHistory}
use Rattle.entry_store.specs.Replay.{MayReplay}
use Rattle.entry_store.proofs.SameReplay.{may_same, fits_same, applied_same, refused_same, trans_same, next_history, next_may, cut_changes}
use Rattle.entry_store.proofs.replaying.replay.Goals as goal

pub apply-requires-clause-may : goal.apply-requires-clause-may
apply-requires-clause-may g c =
    let i = c.loop-change.change-index in
    let changes = c.args.changes.now in
    let change = c.change-item.result in
    let start = g.S.Store.history c.args.store.now in
    let there = fold applied start (take i changes) in
    let here = g.S.Store.history c.loop-change.store in
    let sound = g.met.S.Store.sound c.loop-change.store in
    let within : i < length changes = subst (λ (cs : List Change). i < length cs) c.as_slice-change-items.ensures c.loop-change-test.true in
    let item : change ≡ get_or changes i change = subst (λ (cs : List Change). change ≡ get_or cs i change) c.as_slice-change-items.ensures c.change-item.is in
    let next = next_may there changes i change within item c.loop-change.invariant.may in
    may_same here there c.loop-change.invariant.same sound change next.0

pub apply-requires-clause-room : goal.apply-requires-clause-room
apply-requires-clause-room g c =
    let i = c.loop-change.change-index in
    let changes = c.args.changes.now in
    let change = c.change-item.result in
    let start = g.S.Store.history c.args.store.now in
    let there = fold applied start (take i changes) in
    let here = g.S.Store.history c.loop-change.store in
    let sound = g.met.S.Store.sound c.loop-change.store in
    let within : i < length changes = subst (λ (cs : List Change). i < length cs) c.as_slice-change-items.ensures c.loop-change-test.true in
    let item : change ≡ get_or changes i change = subst (λ (cs : List Change). change ≡ get_or cs i change) c.as_slice-change-items.ensures c.change-item.is in
    let next = next_may there changes i change within item c.loop-change.invariant.may in
    subst (λ (n : ℕ). n < 4294967294) (sym c.loop-change.invariant.same.current) next.1.0

pub returns-in-Err-clause-refused : goal.returns-in-Err-clause-refused
returns-in-Err-clause-refused g c =
    let i = c.loop-change.change-index in
    let changes = c.args.changes.now in
    let change = c.change-item.result in
    let start = g.S.Store.history c.args.store.now in
    let there = fold applied start (take i changes) in
    let here = g.S.Store.history c.loop-change.store in
    let sound = g.met.S.Store.sound c.loop-change.store in
    let within : i < length changes = subst (λ (cs : List Change). i < length cs) c.as_slice-change-items.ensures c.loop-change-test.true in
    let item : change ≡ get_or changes i change = subst (λ (cs : List Change). change ≡ get_or cs i change) c.as_slice-change-items.ensures c.change-item.is in
    let next = next_may there changes i change within item c.loop-change.invariant.may in
    record {
      done = take i changes;
      change = change;
      rest = drop (suc i) changes;
      are = cut_changes changes i change within item;
      same = subst (λ (history : History). SameHistory history there) (sym c.in-Err.ensures.err) c.loop-change.invariant.same;
      refused = refused_same here there c.loop-change.invariant.same sound change _ c.in-Err.ensures.refused;
    }

pub loop-change-preserved : goal.loop-change-preserved
loop-change-preserved g c =
    let i = c.loop-change.change-index in
    let changes = c.args.changes.now in
    let change = c.change-item.result in
    let start = g.S.Store.history c.args.store.now in
    let there = fold applied start (take i changes) in
    let here = g.S.Store.history c.loop-change.store in
    let sound = g.met.S.Store.sound c.loop-change.store in
    let within : i < length changes = subst (λ (cs : List Change). i < length cs) c.as_slice-change-items.ensures c.loop-change-test.true in
    let item : change ≡ get_or changes i change = subst (λ (cs : List Change). change ≡ get_or cs i change) c.as_slice-change-items.ensures c.change-item.is in
    let next = next_may there changes i change within item c.loop-change.invariant.may in
    let after = next_history start changes i change within item in
    let done = c.in_default.ensures in
    rw add-one (record {
      same = subst (λ (history : History). SameHistory (g.S.Store.history c.apply.new.self) history) (sym after)
          (trans_same (g.S.Store.history c.apply.new.self) (applied here change) (applied there change) done.ok
          (applied_same here there c.loop-change.invariant.same sound (g.met.S.Store.added c.loop-change.store) change done.fits next.0));
      may = subst (λ (history : History). MayReplay history (drop (suc i) changes)) (sym after) (next.1.1 (sym (fits_same here there c.loop-change.invariant.same sound change) ∙ done.fits));
    })
