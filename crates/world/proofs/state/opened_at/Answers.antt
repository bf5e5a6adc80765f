use Rattle.std.proofs.Common.{refl}
use Rattle.world.proofs.state.opened_at.Goals as goal

pub returns : goal.returns
returns c =
    record {
      events = refl;
      stands = c.in_ok-coordinator.ensures.stands;
      header_is = c.in_ok-coordinator.ensures.header;
      views = c.in_ok-views.ensures;
      runners = c.in_ok-runners.ensures c.args.header.now.first c.args.proc;
      desks = c.new.ensures;
      endings = c.new-2.ensures.items;
    }
