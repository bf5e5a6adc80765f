use Rattle.coord.proofs.Placed.{has_placed, nav_known, proc_known, waits_own}
use Rattle.coord.proofs.coordinator.Coordinator.place.Goals as goal

pub nav_there-nav-requires : goal.nav_there-nav-requires
nav_there-nav-requires g c = nav_known g.d c.args.self.now c.args.job.now c.requires.0 c.args.state c.requires.1

pub note_made-requires : goal.note_made-requires
note_made-requires g c =
    record {
      known = proc_known g.d c.args.self.now c.args.job.now c.requires.0 c.args.state c.requires.1;
      waits = waits_own g.d c.args.self.now c.args.job.now c.requires.0 c.args.state c.requires.1 c.waiting_for-waits.ensures.one_each _ c.nav_there-nav.ensures;
    }

pub returns : goal.returns
returns g c =
    record { placed = has_placed g.d c.args.self.now c.args.job.now c.requires.0 c.args.state c.requires.1 c.waiting_for-waits.ensures.one_each _ c.nav_there-nav.ensures _ c.waiting_for-waits.ensures.req _ c.in_ok-note_made.ensures.placed c.in_ok-note_made.ensures.kept _ c.in_ok-join.ensures }
