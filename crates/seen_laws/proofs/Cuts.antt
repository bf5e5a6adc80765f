-- An event that is cut stands where it stood, and goes on from there.
use Rattle.std.proofs.Common.{◌≡◌, Bool, List, [], ◌++◌, ◌∷◌, map, ap, sym, ◌∙◌}
use Rattle.std.proofs.lemmas.List.{map-append}
use Rattle.log_model.specs.Seen.{Seen}
use Rattle.log_model.specs.declared.row_kind.LogRow.{LogRow}
use Rattle.log_model.specs.declared.row_kind.RowKind.{RowKind}
use Rattle.tab_ids.specs.declared.ReqId.{ReqId}
use Rattle.seen_laws.specs.Blocks.{Here, on_rows}
use Rattle.seen_laws.specs.InEvent.{InEvent, cut, first_of, here_of, later_of, log_of, own_of, row_of, rows_of}
use Rattle.seen_laws.proofs.InEvents.{on_rows_append, later_more}

module _ (e : InEvent) (out : List RowKind) (checking : ReqId → Bool) (due : Seen → Bool) where
  -- the cut is where the rows before it lead
  first_cut : first_of (cut e out checking due) ≡ here_of e out
  first_cut =
      ap (λ (rows : List LogRow). on_rows (own_of e) rows) (map-append (row_of e) e.before out)
      ∙ on_rows_append (own_of e) (map (row_of e) e.before) (map (row_of e) out)

  pub here_cut : (more : List RowKind) → here_of (cut e out checking due) more ≡ here_of e (out ++ more)
  here_cut more =
      ap (λ (h : Here). on_rows h (map (row_of e) more)) first_cut
      ∙ sym (on_rows_append (first_of e) (map (row_of e) out) (map (row_of e) more))
      ∙ ap (λ (rows : List LogRow). on_rows (first_of e) rows) (sym (map-append (row_of e) out more))

  pub log_cut : log_of (cut e out checking due) [] ≡ log_of e out
  log_cut = ap (λ (h : Here). h.now) first_cut

  -- all rows of the event are those before the cut and those after
  pub later_cut : (more : List RowKind) → later_of (cut e out checking due) more ≡ later_of e (out ++ more)
  later_cut more =
      ap (λ (rows : List LogRow). rows ++ map (row_of e) more) (map-append (row_of e) e.before out)
      ∙ sym (later_more e out more)

  pub rows_cut : (more : List RowKind) → rows_of (cut e out checking due) more ≡ rows_of e (out ++ more)
  rows_cut more = ap (λ (rows : List LogRow). row_of e e.own ∷ rows) (later_cut more)
