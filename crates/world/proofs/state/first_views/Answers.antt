use Rattle.world.proofs.state.first_views.Goals as goal

pub returns : goal.returns
returns c = rw (c.new-views.ensures, c.opening.ensures, c.in_ok-shown.ensures) at c.in_ok-add.ensures.ok
