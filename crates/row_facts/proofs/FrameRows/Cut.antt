-- The rows of an event pass as they did once it is cut, and whatever is wanted of the rows behind the cut.
use Rattle.log_model.specs.Queue.{is_traverse}
use Rattle.log_model.specs.Seen.{Seen}
use Rattle.log_model.specs.declared.row_kind.LogRow.{LogRow}
use Rattle.log_model.specs.declared.row_kind.RowKind.{RowKind}
use Rattle.row_facts.specs.FrameRows.Lawful.{AreLawful, IsRestOf}
use Rattle.seen_laws.proofs.Cuts.{later_cut, log_cut, rows_cut}
use Rattle.seen_laws.specs.Blocks.{EachPass}
use Rattle.seen_laws.specs.InEvent.{InEvent, IsTakenIn, begins, cut, later_of, now_of, rows_of, running, start_of, wanting}
use Rattle.seen_laws.specs.Owing.{Pays}
use Rattle.std.proofs.Common.{Bool, List, [], ap, append-nil, subst, sym, true, ◌++◌, ◌∙◌, ◌≡◌}
use Rattle.std.specs.List.{list_any}
use Rattle.tab_ids.specs.declared.DocId.{DocId}
use Rattle.tab_ids.specs.declared.ReqId.{ReqId}

module _ (e : InEvent) (out : List RowKind) (checking : ReqId → Bool) (due : Seen → Bool) where
  abbrev then_ : InEvent
  then_ = cut e out checking due

  pub same_rows : rows_of then_ [] ≡ rows_of e out
  same_rows = rows_cut e out checking due [] ∙ ap (λ (l : List RowKind). rows_of e l) (append-nil out)

  same_later : later_of then_ [] ≡ later_of e out
  same_later = later_cut e out checking due [] ∙ ap (λ (l : List RowKind). later_of e l) (append-nil out)

  -- no `checking` touches what is held back
  same_parked : (now_of then_ []).parked ≡ (now_of e out).parked
  unfolding now_of
  same_parked = ap (λ (s : Seen). s.parked) (log_cut e out checking due)

  -- what the rows ask of those that come later
  pub rest_cut : (later : List LogRow) → IsRestOf then_ [] later → IsRestOf e out later
  rest_cut later rest =
      record {
        rest = record {
          asks = λ req began. rest.rest.asks req (subst (λ (l : List RowKind). list_any (begins req) l ≡ true) (sym (append-nil (e.before ++ out))) began);
          taken = subst (λ (l : List LogRow). IsTakenIn e (l ++ later)) same_later rest.rest.taken;
          owed = subst (λ (l : List LogRow). Pays (start_of e) l later) same_rows rest.rest.owed;
        };
        held = λ was. rest.held (subst (λ (l : List LogRow). list_any is_traverse l ≡ true) (sym same_later) was) ∙ same_parked;
      }

  -- so those before the cut pass behind it
  pub lawful_cut : AreLawful e out → AreLawful then_ []
  unfolding AreLawful
  lawful_cut lawful later rest =
      subst (λ (l : List LogRow). EachPass (start_of e) l later) (sym same_rows) (lawful later (rest_cut later rest))

-- what is wanted of the rows behind a cut, and which run of discarded documents lasts there, is no part of what rows ask of later ones
pub rest_wanting : (e : InEvent) (wants : List LogRow → Bool) (ran : List DocId) (out : List RowKind) (later : List LogRow) → IsRestOf (running (wanting e wants) ran) out later → IsRestOf e out later
unfolding now_of
rest_wanting e wants ran out later rest =
    record {
      rest = record {
        asks = rest.rest.asks;
        taken = rest.rest.taken;
        owed = rest.rest.owed;
      };
      held = rest.held;
    }
