-- Blocks of rows that may be logged: one after the other, and what they owe to what comes later.
use Rattle.std.proofs.Common.{◌≡◌, Bool, true, List, [], ◌∷◌, ◌++◌, append_assoc, refl, sym, subst}
use Rattle.std.proofs.lemmas.List.{append-nil}
use Rattle.log_model.specs.declared.header.Header.{Header}
use Rattle.log_model.specs.declared.row_kind.LogRow.{LogRow}
use Rattle.log_model.specs.Events.{Point, each_point}
use Rattle.seen_laws.specs.Blocks.{Passes, Here, point_at, on_row, on_rows, EachPass, MayLog}

-- one block after the other: the first allows what the second is and what comes after that
pub each_pass_append : (h : Here) (rows more later : List LogRow) → EachPass h rows (more ++ later) → EachPass (on_rows h rows) more later → EachPass h (rows ++ more) later
each_pass_append h [] more later first second = second
each_pass_append h (row ∷ rows) more later first second =
    (subst (λ (l : List LogRow). Passes h.header (point_at h l) row) (sym (append_assoc rows more later)) first.0, each_pass_append (on_row h row) rows more later first.1 second)

pub may_log_append : (h : Here) (rows more : List LogRow) (First Rest : List LogRow → Type 0) → MayLog h rows First → MayLog (on_rows h rows) more Rest → ((later : List LogRow) → Rest later → First (more ++ later)) → MayLog h (rows ++ more) Rest
may_log_append h rows more First Rest one two meets later rest =
    each_pass_append h rows more later (one (more ++ later) (meets later rest)) (two later rest)

-- what passes where nothing comes later passes as an event
pub each_point_passes : (test : Point → LogRow → Bool) → ((header : Header) (p : Point) (row : LogRow) → Passes header p row → test p row ≡ true) → (h : Here) (rows : List LogRow) → EachPass h rows [] → each_point test h.start h.now h.done rows ≡ true
each_point_passes test get h [] are = refl
each_point_passes test get h (row ∷ rows) are =
    let one : test (point_at h rows) row ≡ true = get h.header _ row (subst (λ (l : List LogRow). Passes h.header (point_at h l) row) (append-nil rows) are.0) in
    rw (one, each_point_passes test get (on_row h row) rows are.1) refl
