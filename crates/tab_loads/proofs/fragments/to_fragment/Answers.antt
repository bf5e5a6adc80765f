use Rattle.std.proofs.Common.{sym, ◌∙◌}
use Rattle.tab_loads.proofs.Comes.{send_now, sent_now}
use Rattle.tab_loads.proofs.fragments.to_fragment.Goals as goal

pub send_fragment-requires : goal.send_fragment-requires
send_fragment-requires g c =
    send_now _ _ c.requires.0 _ c.requires.1.0 _ c.requires.1.1.0 _ c.requires.1.1.1.0 _ (c.requires.1.1.1.1.0 ∙ sym c.in_ok-address.ensures) c.requires.1.1.1.1.1.0 _ c.requires.1.1.1.1.1.1

pub returns : goal.returns
returns g c =
    record { come = sent_now _ _ c.requires.0 _ c.requires.1.0 _ c.requires.1.1.0 _ c.requires.1.1.1.0 _ (c.requires.1.1.1.1.0 ∙ sym c.in_ok-address.ensures) c.requires.1.1.1.1.1.0 _ c.requires.1.1.1.1.1.1 _ _ c.in_ok-send_fragment.ensures.work c.in_ok-send_fragment.ensures.out c.in_ok-send_fragment.ensures.kept }
