use Rattle.std.proofs.Common.{rules, ◌≡◌, not, ◌==◌, List, [], ap, ◌∙◌}
use Rattle.std.specs.Prelude.{filter}
use Rattle.std.proofs.lemmas.Fn.{filter_same}
use Rattle.log_model.specs.declared.request.Poke.{Poke}
use Rattle.log_model.specs.After.{desk_dropped}
use Rattle.log_model.specs.Seen.{Desk}
use Rattle.proc_tables.proofs.desk.Desk.forget.Goals as goal

pub returns : goal.returns
returns c =
    let left : c.retain.new.self.items ≡ filter (λ (poke : Poke). not (poke.req.0 == c.args.req.0)) c.self.inside.input.items = filter_same _ _ _ (λ x b f' called. search rules) _ _ c.retain.ensures.filtered in
    ap (λ (l : List Poke). let d : Desk = record { proc = c.self.inside.proc; input = l; mail = c.self.inside.mail.items; in_hand = c.self.inside.in_hand; reports = c.self.inside.reports.items; killed = []; known = 0 } in d) left
    ∙ ap (desk_dropped c.args.req) c.self.view_is
