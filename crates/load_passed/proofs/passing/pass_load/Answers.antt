use Rattle.load_passed.proofs.Calls.{checks_now, home_now, make_now, past_now}
use Rattle.load_passed.proofs.passing.pass_load.Goals as goal
use Rattle.load_table.proofs.Others.{others_begun}
use Rattle.load_table.specs.Loads.{ongoing_load}
use Rattle.std.proofs.Common.{ap, refl, ◌∙◌}
use Rattle.tab_doors.specs.declared.tables.Tables.{Tables}

pub home_there-proc-requires : goal.home_there-proc-requires
home_there-proc-requires g c =
    home_now g.l _ _ _ _ _ c.requires.1.1.0 _ _ _ c.in_ok-own.ensures c.requires.1.1.1 c.in_ok-begin_passed.ensures.tables c.args.header.now c.args.address.now

pub make_load-requires : goal.make_load-requires
make_load-requires g c =
    make_now g.l _ _ _ _ _ c.requires.1.1.0 _ _ _ c.in_ok-own.ensures c.requires.1.1.1 c.in_ok-begin_passed.ensures.tables _ c.requires.0 _ refl _ c.home_there-proc.ensures _ c.requires.1.0 _ c.in_ok-target.ensures

pub returns : goal.returns
returns g c =
    record {
      past = past_now g.l _ _ _ _ _ c.requires.1.1.0 _ _ _ c.in_ok-own.ensures c.requires.1.1.1 c.in_ok-begin_passed.ensures.tables _ c.requires.0 _ refl _ c.home_there-proc.ensures _ c.requires.1.0 _ c.in_ok-target.ensures _ _ c.in_ok-make_load.ensures.work c.in_ok-make_load.ensures.out c.in_ok-make_load.ensures.kept;
      checks = checks_now g.l _ _ _ _ _ c.requires.1.1.0 _ _ _ c.in_ok-own.ensures c.requires.1.1.1 c.in_ok-begin_passed.ensures.tables _ c.in_ok-make_load.ensures.kept;
      asking = c.in_ok-make_load.ensures.asking ∙ ap (λ (x : Tables). x.asking) c.in_ok-begin_passed.ensures.tables;
      others = λ other apart. c.in_ok-make_load.ensures.others other apart ∙ ap (λ (x : Tables). ongoing_load other x.loads) c.in_ok-begin_passed.ensures.tables ∙ others_begun _ _ other apart;
      goal = c.in_ok-make_load.ensures.kept.goal ∙ ap (λ (x : Tables). x.goal) c.in_ok-begin_passed.ensures.tables;
      running = c.in_ok-make_load.ensures.kept.running ∙ ap (λ (x : Tables). x.running) c.in_ok-begin_passed.ensures.tables;
    }
