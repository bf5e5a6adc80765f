use Rattle.std.proofs.Common.{ℕ, [], fold, sym, ap, ◌∙◌}
use Rattle.log_text.specs.Lines.{line_of_row}
use Rattle.log_text.specs.Room.{Held, with_byte}
use Rattle.log_text.proofs.ByteLaws.{whole_line}
use Rattle.log_text.proofs.line.Line.set.Goals as goal

pub returns : goal.returns
returns c =
    let room = ap (λ (held : Held). held.room) c.self.view_is in
    let line = whole_line c.args.self.now.room (line_of_row c.args.row.now) c.requires.fits in
    c.put_row.ensures ∙ ap (λ (n : ℕ). fold with_byte (record { room = n; text = [] }) (line_of_row c.args.row.now)) room ∙ sym line
