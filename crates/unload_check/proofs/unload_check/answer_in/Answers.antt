use Rattle.std.proofs.Common.{◌≡◌, Some, None, sym}
use Rattle.std.specs.Map.{lookup}
use Rattle.unload_check.specs.Checks.{is_req, after_answer}
use Rattle.unload_check.proofs.Tables.{absent_stays, set_changed}
use Rattle.unload_check.proofs.unload_check.answer_in.Goals as goal

pub returns-in-Some : goal.returns-in-Some
returns-in-Some c =
    let at : lookup (is_req c.args.req) c.args.checks.now.entries ≡ Some c.in-Some.check.now = sym c.in-Some.ensures.value in
    let set = c.get_mut.follows.holds c.answer.new.self in
    rw (set.0, c.answer.ensures) (set_changed c.args.req (after_answer c.args.doc c.args.verdict) c.in-Some.check.now c.args.checks.now.entries at)

pub returns-in-None : goal.returns-in-None
returns-in-None c =
    let at : lookup (is_req c.args.req) c.args.checks.now.entries ≡ None = sym c.in-None.ensures.value in
    rw c.get_mut.follows.holds-at-none (absent_stays c.args.req (after_answer c.args.doc c.args.verdict) c.args.checks.now.entries at)
