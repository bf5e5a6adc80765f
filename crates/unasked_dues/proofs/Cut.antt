-- An event is cut: which loads that began are the only ones of their navigables, and what the rows before the cut owe.
use Rattle.log_model.specs.Seen.{Seen}
use Rattle.log_model.specs.declared.row_kind.RowKind.TheVariants as rows
use Rattle.log_model.specs.declared.row_kind.LogRow.{LogRow}
use Rattle.log_model.specs.declared.row_kind.RowKind.{RowKind}
use Rattle.row_facts.specs.Owed.Owed.{IsLoose, IsOwed, Lasts, Stays, owes_seen}
use Rattle.seen_laws.proofs.Cuts.{log_cut}
use Rattle.seen_laws.proofs.InEvents.{on_rows_append}
use Rattle.seen_laws.specs.Blocks.{Here, on_rows}
use Rattle.seen_laws.specs.InEvent.{InEvent, cut, first_of, later_of, now_of, own_of, row_of, running, wanting}
use Rattle.seen_laws.specs.Owing.{owes, owes_row}
use Rattle.seen_laws.specs.Unasked.{unasked}
use Rattle.std.proofs.Common.{Bool, List, Option, [], ap, append_assoc, map, refl, subst, sym, true, ◌++◌, ◌∙◌, ◌∷◌, ◌≡◌}
use Rattle.std.proofs.lemmas.List.{map-append}
use Rattle.tab_ids.specs.declared.DocId.{DocId}
use Rattle.tab_ids.specs.declared.ReqId.{ReqId}
use Rattle.tab_ids.specs.declared.Step.{Step}
use Rattle.unasked_dues.proofs.Paid.{paid_read}
use Rattle.unasked_dues.proofs.Sole.{none_sole}
use Rattle.unasked_dues.specs.Checking.{AllOthersPass, AreNumbered, IsAimed}
use Rattle.unasked_dues.specs.Reading.{AreDebts, AreSole, BeginSole, WereRead}

-- one of two lists put together is of the first, or of the second
data Placed (rows_ more before later : List RowKind) (kind : RowKind) : Type 0 where
  first : (rest : List RowKind) → before ++ kind ∷ rest ≡ rows_ → Placed rows_ more before later kind
  second : (mid : List RowKind) → before ≡ rows_ ++ mid → mid ++ kind ∷ later ≡ more → Placed rows_ more before later kind

placed_behind : (r : RowKind) (rows_ more before later : List RowKind) (kind : RowKind) → Placed rows_ more before later kind → Placed (r ∷ rows_) more (r ∷ before) later kind
placed_behind r rows_ more before later kind (first rest is) = first rest (ap (λ (l : List RowKind). r ∷ l) is)
placed_behind r rows_ more before later kind (second mid is at) = second mid (ap (λ (l : List RowKind). r ∷ l) is) at

placed : (rows_ more before later : List RowKind) (kind : RowKind) → before ++ kind ∷ later ≡ rows_ ++ more → Placed rows_ more before later kind
placed [] more before later kind is = second before refl is
placed (r ∷ rows_) more [] later kind is =
    let same : kind ≡ r = cc in
    first rows_ (ap (λ (k : RowKind). k ∷ rows_) same)
placed (r ∷ rows_) more (b ∷ before) later kind is =
    let same : b ≡ r = cc in
    let rest : before ++ kind ∷ later ≡ rows_ ++ more = cc in
    subst (λ (x : RowKind). Placed (r ∷ rows_) more (x ∷ before) later kind) (sym same) (placed_behind r rows_ more before later kind (placed rows_ more before later kind rest))

-- those that began among the first rows, and among more behind them, began among all of them
pub both_sole : (e : InEvent) (from : Here) (rows_ more : List RowKind) (end : Seen) → AreSole e from rows_ end → AreSole e (on_rows from (map (row_of e) rows_)) more end → AreSole e from (rows_ ++ more) end
both_sole e from rows_ more end old new =
    record { each = λ before later req goal is. by_place before later req goal (placed rows_ more before later (rows.Started req goal) is) }
  where
    by_place : (before later : List RowKind) (req : ReqId) (goal : Option Step) → Placed rows_ more before later (rows.Started req goal) → owes_row (on_rows from (map (row_of e) before)) (row_of e (rows.Started req goal)) end ≡ true
    by_place before later req goal (first rest is) = old.each before rest req goal is
    by_place before later req goal (second mid is at) =
        subst (λ (h : Here). owes_row h (row_of e (rows.Started req goal)) end ≡ true)
        (sym (ap (λ (l : List RowKind). on_rows from (map (row_of e) l)) is ∙ ap (λ (l : List LogRow). on_rows from l) (map-append (row_of e) rows_ mid) ∙ on_rows_append from (map (row_of e) rows_) (map (row_of e) mid)))
        (new.each mid later req goal at)

-- and the other way round
first_sole : (e : InEvent) (from : Here) (rows_ more : List RowKind) (end : Seen) → AreSole e from (rows_ ++ more) end → AreSole e from rows_ end
first_sole e from rows_ more end all =
    record { each = λ before later req goal is. all.each before (later ++ more) req goal (sym (append_assoc before (rows.Started req goal ∷ later) more) ∙ ap (λ (l : List RowKind). l ++ more) is) }

second_sole : (e : InEvent) (from : Here) (rows_ more : List RowKind) (end : Seen) → AreSole e from (rows_ ++ more) end → AreSole e (on_rows from (map (row_of e) rows_)) more end
second_sole e from rows_ more end all =
    record {
      each = λ before later req goal is.
          subst (λ (h : Here). owes_row h (row_of e (rows.Started req goal)) end ≡ true)
          (ap (λ (l : List LogRow). on_rows from l) (map-append (row_of e) rows_ before) ∙ on_rows_append from (map (row_of e) rows_) (map (row_of e) before))
          (all.each (rows_ ++ before) later req goal (append_assoc rows_ before (rows.Started req goal ∷ later) ∙ ap (λ (l : List RowKind). rows_ ++ l) is));
    }

module _ (e : InEvent) (out : List RowKind) (checking : ReqId → Bool) (due : Seen → Bool) where
  abbrev then_ : InEvent
  then_ = cut e out checking due

  -- each load that began is still the only one of its navigable
  pub sole_cut : (end : Seen) → BeginSole e out end → BeginSole then_ [] end
  sole_cut end sole =
      record {
        old = as_then (both_sole e (own_of e) e.before out end sole.old sole.new);
        new = none_sole then_ (first_of then_) end;
      }
    where
      as_then : AreSole e (own_of e) (e.before ++ out) end → AreSole then_ (own_of then_) (e.before ++ out) end
      as_then are = record { each = λ before later req goal is. are.each before later req goal is }

  -- what the rows before the cut owe is paid in the log, if each end pays it that pays what is due, where the aim is read off, whoever isn't in its check has passed, and loads that began are the only ones of their navigables
  pub debts_cut : ((end : Seen) → IsAimed checking end → AllOthersPass checking end → BeginSole e out end → due (unasked checking end) ≡ true → owes (own_of e) (later_of e out) end ≡ true) → AreDebts then_
  debts_cut pays =
      record {
        paid = λ end aimed others sole is.
            subst (λ (l : List LogRow). owes (own_of e) l end ≡ true) (sym (map-append (row_of e) e.before out))
            (pays end aimed others (parts end sole) is);
      }
    where
      as_was : (end : Seen) → AreSole then_ (own_of then_) (e.before ++ out) end → AreSole e (own_of e) (e.before ++ out) end
      as_was end are = record { each = λ before later req goal is. are.each before later req goal is }

      parts : (end : Seen) → AreSole then_ (own_of then_) (e.before ++ out) end → BeginSole e out end
      parts end are =
          record { old = first_sole e (own_of e) e.before out end (as_was end are); new = second_sole e (own_of e) e.before out end (as_was end are) }

-- ---- whatever is wanted of the rows behind the cut, and whichever run of discarded documents lasts there

module _ (e : InEvent) (wants : List LogRow → Bool) (ran : List DocId) where
  abbrev wanting_so : InEvent
  wanting_so = running (wanting e wants) ran

  sole_so : (from : Here) (kinds : List RowKind) (end : Seen) → AreSole e from kinds end → AreSole wanting_so from kinds end
  sole_so from kinds end are = record { each = λ before later req goal is. are.each before later req goal is }

  sole_was : (from : Here) (kinds : List RowKind) (end : Seen) → AreSole wanting_so from kinds end → AreSole e from kinds end
  sole_was from kinds end are = record { each = λ before later req goal is. are.each before later req goal is }

  -- the loads that began are the only ones of their navigables
  pub sole_wanting : (out : List RowKind) (end : Seen) → BeginSole e out end → BeginSole wanting_so out end
  sole_wanting out end sole =
      record { old = sole_so (own_of e) e.before end sole.old; new = sole_so (first_of e) out end sole.new }

  -- and what the rows before it owe is paid
  pub debts_wanting : AreDebts e → AreDebts wanting_so
  debts_wanting debts =
      record { paid = λ end aimed others sole is. debts.paid end aimed others (sole_was (own_of e) e.before end sole) is }

-- ---- where it goes on by the same checks

-- what is due is what the rows so far owe
pub debts_same : (e : InEvent) (out : List RowKind) → AreNumbered e.start → WereRead e out → AreDebts e → AreDebts (cut e out e.checking (owes_seen e out))
debts_same e out numbered read debts =
    debts_cut e out e.checking (owes_seen e out) (λ end aimed others sole is. paid_read e out end aimed others numbered read sole debts is)

module _ (e : InEvent) (out : List RowKind) where
  abbrev same_then : InEvent
  same_then = cut e out e.checking (owes_seen e out)

  same_now : now_of same_then [] ≡ now_of e out
  unfolding now_of
  same_now = ap (unasked e.checking) (log_cut e out e.checking (owes_seen e out))

  -- so the same ends pay it
  pub owed_same : IsOwed e out → IsOwed same_then []
  owed_same owed end stays = rw (owed end (subst (λ (s : Seen). Stays s end) same_now stays)) refl

  pub loose_same : IsLoose e out → IsLoose same_then []
  loose_same loose end lasts = rw (loose end (subst (λ (s : Seen). Lasts s end) same_now lasts)) refl
