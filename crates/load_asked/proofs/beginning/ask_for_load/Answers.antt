use Rattle.load_asked.proofs.Calls.{ask_now, given_now, has_asked, room_now}
use Rattle.load_asked.proofs.beginning.ask_for_load.Goals as goal
use Rattle.std.proofs.Common.{◌∙◌}

pub replaces-replace-requires : goal.replaces-replace-requires
replaces-replace-requires g c =
    given_now g.l c.args.tables.now c.requires.1.1.1.1.1.1.0 _ c.requires.0 _ c.requires.1.1.0 _ c.requires.1.1.1.0 _ c.requires.1.1.1.1.0 _ c.requires.1.1.1.1.1.0

pub begin_asking-requires : goal.begin_asking-requires
begin_asking-requires g c =
    ask_now g.l c.args.tables.now c.requires.1.1.1.1.1.1.0 _ c.requires.0 _ c.requires.1.1.0 _ c.requires.1.1.1.0 _ c.requires.1.1.1.1.0 _ c.requires.1.1.1.1.1.0 _ c.requires.1.1.1.1.1.1.1 _ (c.as_slice.ensures.value ∙ c.in_ok-questions.ensures)

pub enter_check-requires : goal.enter_check-requires
enter_check-requires g c =
    record { room = room_now g.l c.args.tables.now c.requires.1.1.1.1.1.1.0 _ c.requires.0 _ c.requires.1.1.0 _ c.requires.1.1.1.0 _ c.requires.1.1.1.1.0 _ c.requires.1.1.1.1.1.0 _ c.requires.1.1.1.1.1.1.1 _ (c.as_slice.ensures.value ∙ c.in_ok-questions.ensures) _ c.requires.1.0 _ c.in_ok-begin_asking.ensures.out _ c.in_ok-begin_asking.ensures.tables }

pub returns-clause-asked : goal.returns-clause-asked
returns-clause-asked g c =
    has_asked g.l c.args.tables.now c.requires.1.1.1.1.1.1.0 _ c.requires.0 _ c.requires.1.1.0 _ c.requires.1.1.1.0 _ c.requires.1.1.1.1.0 _ c.requires.1.1.1.1.1.0 _ c.requires.1.1.1.1.1.1.1 _ (c.as_slice.ensures.value ∙ c.in_ok-questions.ensures) _ c.requires.1.0 _ c.in_ok-begin_asking.ensures.out _ c.in_ok-begin_asking.ensures.tables _ c.replaces-replace.ensures _ c.in_ok-own.ensures _ c.in_ok-enter_check.ensures.tables
