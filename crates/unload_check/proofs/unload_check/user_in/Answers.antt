use Rattle.std.proofs.Common.{◌≡◌, Some, None, sym}
use Rattle.std.specs.Map.{lookup}
use Rattle.unload_check.specs.Checks.{is_req, after_user}
use Rattle.unload_check.proofs.Tables.{absent_stays, set_changed}
use Rattle.unload_check.proofs.unload_check.user_in.Goals as goal

pub returns-in-Some-clause-word : goal.returns-in-Some-clause-word
returns-in-Some-clause-word c =
    let at : lookup (is_req c.args.req) c.args.checks.now.entries ≡ Some c.in-Some.check.now = sym c.in-Some.ensures.value in
    let set = c.get_mut.follows.holds c.user.new.self in
    rw (set.0, c.user.ensures.word) (set_changed c.args.req (after_user c.args.stay) c.in-Some.check.now c.args.checks.now.entries at)

pub returns-in-None-clause-word : goal.returns-in-None-clause-word
returns-in-None-clause-word c =
    let at : lookup (is_req c.args.req) c.args.checks.now.entries ≡ None = sym c.in-None.ensures.value in
    rw c.get_mut.follows.holds-at-none (absent_stays c.args.req (after_user c.args.stay) c.args.checks.now.entries at)
