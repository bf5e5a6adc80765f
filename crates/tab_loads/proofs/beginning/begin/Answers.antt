use Rattle.std.proofs.Common.{sym, ◌∙◌}
use Rattle.tab_loads.proofs.Begins.{begin_now, come_now, given_now, home_now, make_now}
use Rattle.tab_loads.proofs.beginning.begin.Goals as goal

pub replaces-replace-requires : goal.replaces-replace-requires
replaces-replace-requires g c =
    given_now _ _ c.requires.1.0 _ c.requires.1.1.1.1.0 _ c.requires.1.1.1.1.1.0 _ c.requires.1.1.1.1.1.1.0 _ c.requires.1.1.1.1.1.1.1.0 _ c.requires.1.1.0 c.requires.1.1.1.1.1.1.1.1.0 (record { fragment = c.requires.1.1.1.1.1.1.1.1.1.0; nobody = c.requires.1.1.1.1.1.1.1.1.1.1 }) _ _ _ c.in_ok-give_way.ensures.way

pub begin_load-requires : goal.begin_load-requires
begin_load-requires g c =
    begin_now _ _ c.requires.1.0 _ c.requires.1.1.1.1.0 _ c.requires.1.1.1.1.1.0 _ c.requires.1.1.1.1.1.1.0 _ (c.requires.1.1.1.1.1.1.1.0 ∙ sym c.in_ok-own.ensures) _ c.requires.1.1.0 c.requires.1.1.1.1.1.1.1.1.0 (record { fragment = c.requires.1.1.1.1.1.1.1.1.1.0; nobody = c.requires.1.1.1.1.1.1.1.1.1.1 }) _ _ _ c.in_ok-give_way.ensures.way _ (sym c.in_ok-own.ensures) _ c.replaces-replace.ensures

pub home_there-proc-requires : goal.home_there-proc-requires
home_there-proc-requires g c =
    home_now _ _ c.requires.1.0 _ c.requires.1.1.1.1.0 _ c.requires.1.1.1.1.1.0 _ c.requires.1.1.1.1.1.1.0 _ c.requires.1.1.1.1.1.1.1.0 _ c.requires.1.1.0 c.requires.1.1.1.1.1.1.1.1.0 (record { fragment = c.requires.1.1.1.1.1.1.1.1.1.0; nobody = c.requires.1.1.1.1.1.1.1.1.1.1 }) _ _ _ c.in_ok-give_way.ensures.way _ _ c.in_ok-begin_load.ensures.work c.in_ok-begin_load.ensures.out c.in_ok-begin_load.ensures.kept c.args.header.now c.args.address.now

pub make_load-requires : goal.make_load-requires
make_load-requires g c =
    make_now _ _ c.requires.1.0 _ c.requires.1.1.1.1.0 _ c.requires.1.1.1.1.1.0 _ c.requires.1.1.1.1.1.1.0 _ (c.requires.1.1.1.1.1.1.1.0 ∙ sym c.in_ok-target.ensures) _ c.requires.1.1.0 c.requires.1.1.1.1.1.1.1.1.0 (record { fragment = c.requires.1.1.1.1.1.1.1.1.1.0; nobody = c.requires.1.1.1.1.1.1.1.1.1.1 }) _ _ _ c.in_ok-give_way.ensures.way _ _ c.in_ok-begin_load.ensures.work c.in_ok-begin_load.ensures.out c.in_ok-begin_load.ensures.kept _ c.requires.0 _ (sym c.in_ok-target.ensures) _ c.home_there-proc.ensures _ _ c.in_ok-begin_load.ensures.began

pub returns : goal.returns
returns g c =
    record { come = come_now _ _ c.requires.1.0 _ c.requires.1.1.1.1.0 _ c.requires.1.1.1.1.1.0 _ c.requires.1.1.1.1.1.1.0 _ (c.requires.1.1.1.1.1.1.1.0 ∙ sym c.in_ok-target.ensures) _ c.requires.1.1.0 c.requires.1.1.1.1.1.1.1.1.0 (record { fragment = c.requires.1.1.1.1.1.1.1.1.1.0; nobody = c.requires.1.1.1.1.1.1.1.1.1.1 }) _ _ _ c.in_ok-give_way.ensures.way _ _ c.in_ok-begin_load.ensures.work c.in_ok-begin_load.ensures.out c.in_ok-begin_load.ensures.kept _ c.requires.0 _ (sym c.in_ok-target.ensures) _ c.home_there-proc.ensures _ _ c.in_ok-make_load.ensures.work c.in_ok-make_load.ensures.out c.in_ok-make_load.ensures.kept }
