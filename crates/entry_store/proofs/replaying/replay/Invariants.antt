use Rattle.std.proofs.Common.{take, drop, fold}
use Rattle.log_model.specs.History.{applied}
use Rattle.log_model.specs.Order.{SameHistory}
use Rattle.entry_store.specs.Replay.{MayReplay}
use Rattle.entry_store.proofs.replaying.replay.Given as goal

abbrev pub invariant-loop-change : goal.invariant-loop-change
invariant-loop-change g l =
    let history = g.S.Store.history in
    record {
      same : SameHistory (history l.store) (fold applied (history l.fn.store) (take l.change-index l.changes));
      may : MayReplay (fold applied (history l.fn.store) (take l.change-index l.changes)) (drop l.change-index l.changes);
    }
