use Rattle.std.proofs.Common.{List, refl, subst, sym}
use Rattle.tab_held.proofs.Goes.{goes_after, rests_by}
use Rattle.tab_held.specs.Holding.{WaitsAlone}
use Rattle.tab_held.proofs.holding.rest_while_held.Goals as goal
use Rattle.tab_ids.specs.declared.ReqId.{ReqId}
use Rattle.tab_prompts.specs.Asking.{BeginsAsked}
use Rattle.unload_check.specs.Checks.{OpenCheck}

pub clear_held-requires : goal.clear_held-requires
clear_held-requires g c = (c.requires.1.1.0, (c.requires.1.1.1.0, c.requires.1.1.1.1.0))

pub tell_and_rest-requires : goal.tell_and_rest-requires
tell_and_rest-requires g c =
    let begins = subst (λ (l : List (ReqId × OpenCheck)). BeginsAsked g.h.pass.event l) (sym c.in_ok-clear_held.ensures.checks) c.requires.1.1.1.1.1.0 in
    let alone = subst (λ (l : List (ReqId × OpenCheck)). WaitsAlone g.h.pass.event l c.args.req) (sym c.in_ok-clear_held.ensures.checks) c.requires.1.1.1.1.1.1.0 in
    (c.requires.0, (c.requires.1.0, (refl, ((c.clear_held.new.blame.entries, c.in_ok-clear_held.ensures.cleared), (c.in_ok-clear_held.ensures.ends, (begins, (alone, c.requires.1.1.1.1.1.1.1)))))))

pub returns-clause-rests : goal.returns-clause-rests
returns-clause-rests g c = λ waits.
    record {
      mid = c.clear_held.new.out;
      before = c.clear_held.new.tables;
      at_mid = c.in_ok-clear_held.ensures.cleared;
      cleared = c.in_ok-clear_held.ensures.put;
      cleared_off = c.in_ok-clear_held.ensures.off;
      checks = c.in_ok-clear_held.ensures.checks;
      at = _;
      rested = rests_by _ _ _ _ _ _ _ c.in_ok-clear_held.ensures.checks (c.in_ok-goes.ensures.rests waits _ c.in_ok-clear_held.ensures.cleared);
    }

pub returns-clause-goes : goal.returns-clause-goes
returns-clause-goes g c = λ goes.
    goes_after g.h.pass _ _ _ _ _ _ _ g.h.queue _ _ _ c.in_ok-clear_held.ensures.checks c.in_ok-clear_held.ensures.cleared c.in_ok-clear_held.ensures.put c.in_ok-clear_held.ensures.off c.in_ok-clear_held.ensures.loose (c.in_ok-goes.ensures.stays goes) (c.in_ok-goes.ensures.told goes) (c.in_ok-goes.ensures.over goes)
