-- What the rows before a cut want of those behind it, as rows are put out one after another; and where nothing is wanted.
use Rattle.log_model.specs.declared.row_kind.LogRow.{LogRow}
use Rattle.log_model.specs.declared.row_kind.RowKind.{RowKind}
use Rattle.seen_laws.specs.InEvent.{AreAsWanted, EndAsWanted, InEvent, WantsNothing, row_of}
use Rattle.std.proofs.Common.{List, None, Option, [], ap, append-nil, append_assoc, map, subst, sym, true, ◌++◌, ◌∙◌, ◌∷◌, ◌≡◌}
use Rattle.std.proofs.lemmas.List.{map-append}
use Rattle.tab_doors.specs.Keeping.{Move}
use Rattle.tab_doors.specs.Working.{IsAhead, IsToCome}

-- with these rows more they are the same rows
rows_on : (e : InEvent) (out more : List RowKind) (later : List LogRow) → map (row_of e) (out ++ more) ++ later ≡ map (row_of e) out ++ (map (row_of e) more ++ later)
rows_on e out more later =
    ap (λ (l : List LogRow). l ++ later) (map-append (row_of e) out more) ∙ append_assoc (map (row_of e) out) (map (row_of e) more) later

pub wanted_on : (e : InEvent) (out more : List RowKind) (later : List LogRow) → AreAsWanted e (out ++ more) later → AreAsWanted e out (map (row_of e) more ++ later)
wanted_on e out more later is = subst (λ (l : List LogRow). e.wants l ≡ true) (rows_on e out more later) is

-- at the event's end nothing comes later
pub wanted_end : (e : InEvent) (out : List RowKind) → EndAsWanted e out → AreAsWanted e out []
wanted_end e out is = subst (λ (l : List LogRow). e.wants l ≡ true) (sym (append-nil (map (row_of e) out))) is

-- where nothing is wanted any rows are as they are wanted
pub nothing_wanted : (e : InEvent) (out : List RowKind) → WantsNothing e → EndAsWanted e out
nothing_wanted e out none = none (map (row_of e) out)

-- ---- what is to come

-- so it is of what is to come, where what is ahead is still so before these rows
pub come_on : (from next : Option Move) (e : InEvent) (out more : List RowKind) (later : List LogRow) → (IsAhead next later → IsAhead from (map (row_of e) more ++ later)) → IsToCome next e (out ++ more) later → IsToCome from e out (map (row_of e) more ++ later)
come_on from next e out more later ahead is = (ahead is.0, wanted_on e out more later is.1)

-- at the end nothing is, where no move has begun
pub come_end : (e : InEvent) (out : List RowKind) → EndAsWanted e out → IsToCome None e out []
come_end e out is = (tt, wanted_end e out is)
