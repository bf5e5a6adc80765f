use Rattle.std.proofs.Common.{◌≡◌, ◌∙◌, false, sym, ap, subst}
use Rattle.std.specs.Option.{option_copied}
use Rattle.log_model.specs.Logs.{in_hand_of}
use Rattle.log_model.specs.Seen.{Desk}
use Rattle.world.specs.Kept.{WorldState}
use Rattle.world.proofs.world.World.in_hand.Goals as goal

pub returns : goal.returns
returns c =
    record { order = subst (λ (w : WorldState). w.closed ≡ false → option_copied c.in_hand.result ≡ in_hand_of w.log c.args.proc) c.self.view_is (λ e. c.in_hand.ensures ∙ sym (ap (λ (d : Desk). d.in_hand) ((c.self.invariant.stands e).holds.desks c.args.proc))) }
