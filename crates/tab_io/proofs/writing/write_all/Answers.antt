use Rattle.std.proofs.Common.{arith, length-drop}
use Rattle.std.proofs.lemmas.List.{take_rest}
use Rattle.tab_io.proofs.Pieces.{Appends-piece}
use Rattle.tab_io.proofs.writing.write_all.Goals as goal

pub pieces-preserved : goal.pieces-preserved
pieces-preserved g c =
    let piece = c.in-Ok.ensures in
    let bound = rw (take_rest, length-drop) at piece.bound in
    record {
      within = omega arith;
      taken = Appends-piece _ _ _ c.args.bytes.now c.pieces.at c.in-Ok.count c.pieces.invariant.taken piece.bytes;
      later = omega (arith, c.pieces.invariant.later, piece.cause.later);
    }
