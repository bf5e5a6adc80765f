use Rattle.std.proofs.Common.{◌≡◌, ◌∙◌, false, length, sym, ap, subst}
use Rattle.log_model.specs.Logs.{input_of, mail_of, reports_of}
use Rattle.log_model.specs.Seen.{Desk}
use Rattle.world.specs.Kept.{WorldState}
use Rattle.world.proofs.world.World.waiting.Goals as goal

pub returns-clause-input : goal.returns-clause-input
returns-clause-input c =
    subst (λ (w : WorldState). w.closed ≡ false → c.waiting.result.input ≡ length (input_of w.log c.args.proc)) c.self.view_is (λ e. c.waiting.ensures.input ∙ sym (ap (λ (d : Desk). length d.input) ((c.self.invariant.stands e).holds.desks c.args.proc)))

pub returns-clause-mail : goal.returns-clause-mail
returns-clause-mail c =
    subst (λ (w : WorldState). w.closed ≡ false → c.waiting.result.mail ≡ length (mail_of w.log c.args.proc)) c.self.view_is (λ e. c.waiting.ensures.mail ∙ sym (ap (λ (d : Desk). length d.mail) ((c.self.invariant.stands e).holds.desks c.args.proc)))

pub returns-clause-reports : goal.returns-clause-reports
returns-clause-reports c =
    subst (λ (w : WorldState). w.closed ≡ false → c.waiting.result.reports ≡ length (reports_of w.log c.args.proc)) c.self.view_is (λ e. c.waiting.ensures.reports ∙ sym (ap (λ (d : Desk). length d.reports) ((c.self.invariant.stands e).holds.desks c.args.proc)))
