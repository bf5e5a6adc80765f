-- The text of rows is read as these rows alone, and a text that isn't one has a first faulty line.
use Rattle.std.proofs.Common.{◌≡◌, ◌≢◌, ℕ, ◌+◌, ◌≤◌, ◌==◌, true, false, List, [], ◌∷◌, ◌++◌, length, take, drop, Some, None, refl, sym, ap, subst, ◌∙◌, arith, append-nil, append_assoc, length-append}
use Rattle.std.specs.Prelude.{bytes_eq, Result, Ok, Err, IfOk, IfErr}
use Rattle.std.specs.List.{position}
use Rattle.std.proofs.lemmas.List.{length-take-le, take-append-drop}
use Rattle.std.proofs.Math.Seq.{take-append_seam}
use Rattle.std.proofs.lemmas.Slice.Eq.{bytes_eq-Decides}
use Rattle.log_model.specs.declared.row_kind.LogRow.{LogRow}
use Rattle.log_model.proofs.Refl.{bytes_eq_refl}
use Rattle.log_text.specs.Lines.{line_of_row, log_text}
use Rattle.log_reading.specs.Readable.{IsReadable, AreReadable}
use Rattle.log_reading.specs.Words.{before, after}
use Rattle.log_reading.specs.Rows.{row_of}
use Rattle.log_reading.specs.declared.error.LogTextError.{LogTextError}
use Rattle.log_reading.specs.declared.error.LogTextError.TheVariants as errors
use Rattle.log_reading.specs.Outcomes.{lines_from, line_count, BeginsWithNoRow, IsTextOf, IsFault, IsFree, Reads}
use Rattle.log_reading.specs.declared.fault.Fault.{Fault}
use Rattle.log_reading.specs.declared.fault.Fault.TheVariants as faults
use Rattle.log_reading.specs.Gives.{IsNone, IsFaulty}
use Rattle.log_reading.proofs.CutLaws.{cut_at, cut_nowhere}
use Rattle.log_reading.proofs.WordLaws.{Lacks, before_word, after_first_word}
use Rattle.log_reading.proofs.RowLaws.{text_of, row_back, row_lacks, line_is}

-- ---- the first line

some_same : (a b : LogRow) → Some a ≡ Some b → a ≡ b
some_same a b e = cc

-- what a text that begins with a row's line is cut into
pub record BeginsWith (bytes : List ℕ) (row : LogRow) (more : List ℕ) : Type 0 where
  pub whole : bytes ≡ text_of row ++ 10 ∷ more
  pub before : before 10 bytes ≡ text_of row
  pub after : after 10 bytes ≡ more

pub begins : (bytes : List ℕ) (row : LogRow) (more : List ℕ) → IsReadable row → bytes ≡ line_of_row row ++ more → BeginsWith bytes row more
begins bytes row more is e =
    let whole : bytes ≡ text_of row ++ 10 ∷ more = e ∙ line_is row more in
    record {
      whole = whole;
      before = ap (λ (l : List ℕ). before 10 l) whole ∙ before_word 10 (text_of row) more refl (row_lacks row is);
      after = ap (λ (l : List ℕ). after 10 l) whole ∙ after_first_word 10 (text_of row) more refl (row_lacks row is);
    }

-- without a line feed there is no line
pub no_end : (bytes : List ℕ) → position (λ b. b == 10) bytes ≡ None → BeginsWithNoRow bytes
no_end bytes none row more is e =
    let b = begins bytes row more is e in
    let same : bytes ≡ text_of row = sym (cut_nowhere 10 bytes none).before ∙ b.before in
    let longer : length bytes ≡ length (text_of row) + length (10 ∷ more) = ap (λ (l : List ℕ). length l) b.whole ∙ length-append (text_of row) (10 ∷ more) in
    let short : length bytes ≡ length (text_of row) = ap (λ (l : List ℕ). length l) same in
    omega (arith, longer, short)

-- where a row begins the text, its words stand before the line feed
front_is : (bytes : List ℕ) (at : ℕ) → position (λ b. b == 10) bytes ≡ Some at → (row : LogRow) (more : List ℕ) → IsReadable row → bytes ≡ line_of_row row ++ more → take at bytes ≡ text_of row
front_is bytes at found row more is e = sym (cut_at 10 bytes at found).before ∙ (begins bytes row more is e).before

-- a line that could be no row
pub no_row : (bytes : List ℕ) (at : ℕ) → position (λ b. b == 10) bytes ≡ Some at → row_of (take at bytes) ≡ None → BeginsWithNoRow bytes
no_row bytes at found none row more is e =
    let read : row_of (take at bytes) ≡ Some row = ap (λ (l : List ℕ). row_of l) (front_is bytes at found row more is e) ∙ row_back row is in
    let clash : None ≡ Some row = sym none ∙ read in
    cc

take_line : (w more : List ℕ) → take (length w + 1) (w ++ 10 ∷ more) ≡ w ++ 10 ∷ []
take_line w more =
    let long : length w + 1 ≡ length (w ++ 10 ∷ []) = omega (arith, length-append w (10 ∷ [])) in
    ap (λ (n : ℕ). take n (w ++ 10 ∷ more)) long
    ∙ ap (λ (l : List ℕ). take (length (w ++ 10 ∷ [])) l) (sym (append_assoc w (10 ∷ []) more))
    ∙ take-append_seam (w ++ 10 ∷ []) more

line_alone : (row : LogRow) → line_of_row row ≡ text_of row ++ 10 ∷ []
line_alone row = sym (append-nil (line_of_row row)) ∙ line_is row []

-- a line that isn't the one which is printed of the row that it could be
pub other_line : (bytes : List ℕ) (at : ℕ) (read : LogRow) → position (λ b. b == 10) bytes ≡ Some at → row_of (take at bytes) ≡ Some read → bytes_eq (take (at + 1) bytes) (line_of_row read) ≡ false → BeginsWithNoRow bytes
other_line bytes at read found could differs row more is e =
    let front = front_is bytes at found row more is e in
    let back : row_of (take at bytes) ≡ Some row = ap (λ (l : List ℕ). row_of l) front ∙ row_back row is in
    let same : read ≡ row = some_same read row (sym could ∙ back) in
    let inside = (cut_at 10 bytes at found).inside in
    let long : length (take at bytes) ≡ at = length-take-le at bytes (omega (arith, inside)) in
    let at_ : at ≡ length (text_of row) = sym long ∙ ap (λ (l : List ℕ). length l) front in
    let line : take (at + 1) bytes ≡ line_of_row read =
    ap (λ (n : ℕ). take (n + 1) bytes) at_
    ∙ ap (λ (l : List ℕ). take (length (text_of row) + 1) l) (begins bytes row more is e).whole
    ∙ take_line (text_of row) more ∙ sym (line_alone row) ∙ ap (λ (r : LogRow). line_of_row r) (sym same) in
    let yes_ : bytes_eq (take (at + 1) bytes) (line_of_row read) ≡ true = ap (λ (l : List ℕ). bytes_eq l (line_of_row read)) line ∙ bytes_eq_refl (line_of_row read) in
    let clash : true ≡ false = sym yes_ ∙ differs in
    cc

-- a line that is printed of the row that it could be
pub same_line : (bytes : List ℕ) (at : ℕ) (row : LogRow) → bytes_eq (take (at + 1) bytes) (line_of_row row) ≡ true → line_of_row row ++ drop (at + 1) bytes ≡ bytes
same_line bytes at row same =
    ap (λ (l : List ℕ). l ++ drop (at + 1) bytes) (sym ((bytes_eq-Decides (take (at + 1) bytes) (line_of_row row)).0 same)) ∙ take-append-drop (at + 1) bytes

-- why a line couldn't be read, as what it says of the text
pub line_fault : (bytes : List ℕ) (at : ℕ) (fault : Fault) → position (λ b. b == 10) bytes ≡ Some at → IsNone fault (row_of (take at bytes)) → IsFaulty fault bytes
line_fault bytes at faults.NoRow found none = no_row bytes at found none
line_fault bytes at (faults.UrlOverflow mark) found none = tt
line_fault bytes at faults.OutOfMemory found none = tt

-- ---- one text, one log

-- two rows whose lines begin the same text are the same
pub record IsSame (r s : LogRow) (a b : List ℕ) : Type 0 where
  pub row : r ≡ s
  pub rest : a ≡ b

pub same_row : (r s : LogRow) (a b : List ℕ) → IsReadable r → IsReadable s → line_of_row r ++ a ≡ line_of_row s ++ b → IsSame r s a b
same_row r s a b is_r is_s e =
    let one = begins (line_of_row r ++ a) r a is_r refl in
    let other = begins (line_of_row r ++ a) s b is_s e in
    let text : text_of r ≡ text_of s = sym one.before ∙ other.before in
    let read : Some r ≡ Some s = sym (row_back r is_r) ∙ ap (λ (l : List ℕ). row_of l) text ∙ row_back s is_s in
    record { row = some_same r s read; rest = sym one.after ∙ other.after }

-- a line has a byte
line_some : (row : LogRow) (more : List ℕ) → line_of_row row ++ more ≡ [] → ⊥
line_some row more e =
    let longer : length (text_of row ++ 10 ∷ more) ≡ 0 = ap (λ (l : List ℕ). length l) (sym (line_is row more) ∙ e) in
    omega (arith, longer, length-append (text_of row) (10 ∷ more))

-- the same text is that of the same rows
pub same_rows : (rs ss : List LogRow) → AreReadable rs → AreReadable ss → log_text rs ≡ log_text ss → rs ≡ ss
same_rows [] [] are_r are_s e = refl
same_rows [] (s ∷ ss) are_r are_s e = absurd (line_some s (log_text ss) (sym e))
same_rows (r ∷ rs) [] are_r are_s e = absurd (line_some r (log_text rs) e)
same_rows (r ∷ rs) (s ∷ ss) are_r are_s e =
    let same = same_row r s (log_text rs) (log_text ss) are_r.0 are_s.0 e in
    ap (λ (x : LogRow). x ∷ rs) same.row ∙ ap (λ (l : List LogRow). s ∷ l) (same_rows rs ss are_r.1 are_s.1 same.rest)

-- the text of rows has no faulty line
pub no_fault : (rs ss : List LogRow) (rest : List ℕ) → AreReadable rs → AreReadable ss → rest ≢ [] → BeginsWithNoRow rest → log_text rs ++ rest ≡ log_text ss → ⊥
no_fault [] [] rest are_r are_s some faulty e = some e
no_fault [] (s ∷ ss) rest are_r are_s some faulty e = faulty s (log_text ss) are_s.0 e
no_fault (r ∷ rs) [] rest are_r are_s some faulty e =
    line_some r (log_text rs ++ rest) (sym (append_assoc (line_of_row r) (log_text rs) rest) ∙ e)
no_fault (r ∷ rs) (s ∷ ss) rest are_r are_s some faulty e =
    let same = same_row r s (log_text rs ++ rest) (log_text ss) are_r.0 are_s.0 (sym (append_assoc (line_of_row r) (log_text rs) rest) ∙ e) in
    no_fault rs ss rest are_r.1 are_s.1 some faulty same.rest

-- ---- how many lines there are

zero_more : (n : ℕ) → 0 + n ≡ n
zero_more n = omega arith

inside_line : (w rest : List ℕ) → Lacks 10 w → lines_from false (w ++ 10 ∷ rest) ≡ line_count rest
inside_line [] rest lacks = zero_more (line_count rest)
inside_line (b ∷ w) rest lacks = rw lacks.0 (zero_more _ ∙ inside_line w rest lacks.1)

one_line : (w rest : List ℕ) → Lacks 10 w → line_count (w ++ 10 ∷ rest) ≡ 1 + line_count rest
one_line [] rest lacks = refl
one_line (b ∷ w) rest lacks = rw lacks.0 (ap (λ (n : ℕ). 1 + n) (inside_line w rest lacks.1))

pub count_line : (row : LogRow) (rest : List ℕ) → IsReadable row → line_count (line_of_row row ++ rest) ≡ 1 + line_count rest
count_line row rest is = ap (λ (l : List ℕ). line_count l) (line_is row rest) ∙ one_line (text_of row) rest (row_lacks row is)

pub count_rows : (rows : List LogRow) → AreReadable rows → line_count (log_text rows) ≡ length rows
count_rows [] are = refl
count_rows (row ∷ rows) are = omega (arith, count_line row (log_text rows) are.0, count_rows rows are.1)

-- ---- one row more

pub AreReadable-more : (rows : List LogRow) (row : LogRow) → AreReadable rows → IsReadable row → AreReadable (rows ++ row ∷ [])
AreReadable-more [] row are is = (is, tt)
AreReadable-more (first ∷ rows) row are is = (are.0, AreReadable-more rows row are.1 is)

pub text_more : (rows : List LogRow) (row : LogRow) (rest : List ℕ) → log_text (rows ++ row ∷ []) ++ rest ≡ log_text rows ++ (line_of_row row ++ rest)
text_more [] row rest = append_assoc (line_of_row row) [] rest
text_more (first ∷ rows) row rest =
    append_assoc (line_of_row first) (log_text (rows ++ row ∷ [])) rest
    ∙ ap (λ (l : List ℕ). line_of_row first ++ l) (text_more rows row rest)
    ∙ sym (append_assoc (line_of_row first) (log_text rows) (line_of_row row ++ rest))

-- what is kept while lines are read: the rows, whose text with what is left is the whole, and how many lines there are
pub record IsKept (rows : List LogRow) (rest whole : List ℕ) : Type 0 where
  pub readable : AreReadable rows
  pub text : log_text rows ++ rest ≡ whole
  pub few : length rows + line_count rest ≤ 2000000

pub one_more : (rows new : List LogRow) (row : LogRow) (rest more whole : List ℕ) → new ≡ rows ++ row ∷ [] → IsReadable row → line_of_row row ++ more ≡ rest → IsKept rows rest whole → IsKept new more whole
one_more rows new row rest more whole grown is line kept =
    let count : line_count rest ≡ 1 + line_count more = ap (λ (l : List ℕ). line_count l) (sym line) ∙ count_line row more is in
    subst (λ (log : List LogRow). IsKept log more whole) (sym grown)
    (record {
      readable = AreReadable-more rows row kept.readable is;
      text = text_more rows row more ∙ ap (λ (l : List ℕ). log_text rows ++ l) line ∙ kept.text;
      few = omega (arith, kept.few, count, length-append rows (row ∷ []));
    })

-- the first row, and what is left
pub first_kept : (log : List LogRow) (row : LogRow) (more whole : List ℕ) → log ≡ row ∷ [] → IsReadable row → line_of_row row ++ more ≡ whole → line_count whole ≤ 2000000 → IsKept log more whole
first_kept log row more whole grown is line few =
    let count : line_count whole ≡ 1 + line_count more = ap (λ (l : List ℕ). line_count l) (sym line) ∙ count_line row more is in
    subst (λ (l : List LogRow). IsKept l more whole) (sym grown)
    (record {
      readable = (is, tt);
      text = append_assoc (line_of_row row) [] more ∙ line;
      few = omega (arith, few, count);
    })

-- the rows of all lines
pub all_read : (log : List LogRow) (whole : List ℕ) → AreReadable log → log_text log ≡ whole → whole ≢ [] → line_count whole ≤ 2000000 → IsTextOf whole log
all_read [] whole are text some few = absurd (some (sym text))
all_read (row ∷ rows) whole are text some few =
    let count : line_count whole ≡ length (row ∷ rows) = ap (λ (l : List ℕ). line_count l) (sym text) ∙ count_rows (row ∷ rows) are in
    record { text = text; readable = are; some = omega arith; few = omega (arith, few, count) }

-- ---- what was read is read back

read_back_fault : (bytes : List ℕ) (rows : List LogRow) (error : LogTextError) → IsTextOf bytes rows → IsFault error bytes → IsFree error
read_back_fault bytes [] errors.NoRows is fault = absurd (omega (arith, is.some))
read_back_fault bytes (row ∷ rows) errors.NoRows is fault = absurd (line_some row (log_text rows) (is.text ∙ fault))
read_back_fault bytes rows errors.TooManyRows is fault =
    let count : line_count bytes ≡ length rows = ap (λ (l : List ℕ). line_count l) (sym is.text) ∙ count_rows rows is.readable in
    absurd (omega (arith, count, is.few, fault))
read_back_fault bytes rows (errors.BadLine line) is fault =
    let first = fault.2 in
    absurd (no_fault first.rows rows first.rest first.readable is.readable first.some first.faulty (first.cut ∙ sym is.text))
read_back_fault bytes rows (errors.UrlOverflow mark) is fault = tt
read_back_fault bytes rows errors.OutOfMemory is fault = tt

-- where the bytes are the text of some rows, these are read, unless an overflow of `url` or want of memory comes between
pub read_back : (result : Result (List LogRow) LogTextError) (bytes : List ℕ) → Reads result bytes → (rows : List LogRow) → IsTextOf bytes rows → IfOk result (λ log. log ≡ rows) × IfErr result IsFree
read_back (Ok log) bytes reads rows is = (same_rows log rows reads.readable is.readable (reads.text ∙ sym is.text), tt)
read_back (Err error) bytes reads rows is = (tt, read_back_fault bytes rows error is reads)
