-- Texts that are written one after the other.
use Rattle.std.proofs.Common.{◌≡◌, ℕ, ◌+◌, ◌<◌, List, [], ◌∷◌, ◌++◌, length, take, drop, get_or, Ok, Err, sym, ap, ◌∙◌, subst, arith, length-append, append-nil, take-append-drop}
use Rattle.std.specs.Prelude.{Option, Result}
use Rattle.std.specs.Io.KnownBytes.{Appends}
use Rattle.std.proofs.KnownBytes.{Appends-trans}
use Rattle.std.proofs.Math.Seq.{take-append-add}
use Rattle.std.proofs.lemmas.Grind.{flat_map-append}
use Rattle.std.proofs.lemmas.List.{take-append-le, take_more}
use Rattle.log_model.specs.declared.row_kind.LogRow.{LogRow}
use Rattle.log_text.specs.Lines.{line_of_row, log_text}
use Rattle.tab_io.specs.Streams.{WritesAll}
use Rattle.tab_io.specs.declared.error.WriteFault.{WriteFault}

-- one text was written, and then another, or a part of it
pub writes_more : (a b c : Option (List ℕ)) (xs ys : List ℕ) (r : Result (Unit {0}) WriteFault) → Appends a b xs → WritesAll b c ys r → WritesAll a c (xs ++ ys) r
writes_more a b c xs ys (Ok u) before more = Appends-trans a b c xs ys before more
writes_more a b c xs ys (Err fault) before (count, within, part) =
    (length xs + count, omega (arith, within, length-append xs ys), subst (Appends a c) (sym (take-append-add xs ys count)) (Appends-trans a b c xs (take count ys) before part))

-- a part of a text is a part of it with more behind it
pub part_of_more : (a b : Option (List ℕ)) (xs ys : List ℕ) (fault : WriteFault) → WritesAll a b xs (Err fault) → WritesAll a b (xs ++ ys) (Err fault)
part_of_more a b xs ys fault (count, within, part) =
    (count, omega (arith, within, length-append xs ys), subst (Appends a b) (sym (take-append-le count xs ys (omega (arith, within)))) part)

-- the text of the rows up to one and of that one
text_more : (rows : List LogRow) (i : ℕ) (row : LogRow) → i < length rows → row ≡ get_or rows i row → log_text (take (i + 1) rows) ≡ log_text (take i rows) ++ line_of_row row
text_more rows i row within is =
    ap log_text (take_more rows i row within)
    ∙ flat_map-append line_of_row (take i rows) (get_or rows i row ∷ [])
    ∙ ap (λ (l : List ℕ). log_text (take i rows) ++ l) (append-nil (line_of_row (get_or rows i row)) ∙ ap line_of_row (sym is))

-- one line more
pub line_written : (a b c : Option (List ℕ)) (rows : List LogRow) (i : ℕ) (row : LogRow) → i < length rows → row ≡ get_or rows i row → Appends a b (log_text (take i rows)) → Appends b c (line_of_row row) → Appends a c (log_text (take (i + 1) rows))
line_written a b c rows i row within is before line =
    subst (Appends a c) (sym (text_more rows i row within is)) (Appends-trans a b c (log_text (take i rows)) (line_of_row row) before line)

-- a part of the next line is a part of the whole
pub line_unwritten : (a b c : Option (List ℕ)) (rows : List LogRow) (i : ℕ) (row : LogRow) (fault : WriteFault) → i < length rows → row ≡ get_or rows i row → Appends a b (log_text (take i rows)) → WritesAll b c (line_of_row row) (Err fault) → WritesAll a c (log_text rows) (Err fault)
line_unwritten a b c rows i row fault within is before line =
    let so_far : WritesAll a c (log_text (take (i + 1) rows)) (Err fault) = subst (λ (l : List ℕ). WritesAll a c l (Err fault)) (sym (text_more rows i row within is)) (writes_more a b c (log_text (take i rows)) (line_of_row row) (Err fault) before line) in
    let whole : log_text (take (i + 1) rows) ++ log_text (drop (i + 1) rows) ≡ log_text rows = sym (flat_map-append line_of_row (take (i + 1) rows) (drop (i + 1) rows)) ∙ ap log_text (take-append-drop (i + 1) rows) in
    subst (λ (l : List ℕ). WritesAll a c l (Err fault)) whole (part_of_more a c (log_text (take (i + 1) rows)) (log_text (drop (i + 1) rows)) fault so_far)
