use Rattle.std.proofs.Common.{refl, arith}
use Rattle.world.proofs.AcceptLaws.{poke_gone}
use Rattle.world.proofs.Facts.{events_small, asked_small, lives_somewhere, next_is}
use Rattle.world.proofs.accepting.accept_here.Goals as goal

pub next_request-req-requires : goal.next_request-req-requires
next_request-req-requires c = asked_small _ _ _ c.requires.«open»

pub home_of-proc-requires : goal.home_of-proc-requires
home_of-proc-requires c = lives_somewhere _ _ _ c.requires.«open» _ _ c.requires.reached.found

pub overflow_add-state : goal.overflow_add-state
overflow_add-state c = grind (arith, events_small _ _ _ c.requires.«open»)

pub returns-clause-gone : goal.returns-clause-gone
returns-clause-gone c =
    poke_gone _ _ _ c.requires.«open» c.requires.short _ _ _ _ _ _ _ c.requires.reached c.home_of-proc.ensures (next_is _ _ _ c.requires.«open» _ c.next_request-req.ensures) refl refl refl refl (rw c.in_ok-kept.ensures at c.in_ok-add-2.ensures.ok) c.in_ok-add.ensures c.in_ok-log_row.ensures.ok
