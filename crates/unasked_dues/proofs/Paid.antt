-- What the rows of an event owe to its end is paid in the log if it is in the log as it would be had nobody been asked.
use Rattle.log_model.specs.Causes.{by_event, by_mover}
use Rattle.log_model.specs.Equal.{holds}
use Rattle.log_model.specs.Seen.{Asked, Seen, request_of}
use Rattle.log_model.specs.declared.outcome.Cause.TheVariants as drops
use Rattle.log_model.specs.declared.row_kind.LogRow.{LogRow}
use Rattle.log_model.specs.declared.row_kind.RowKind.TheVariants as rows
use Rattle.log_model.specs.declared.row_kind.RowKind.{RowKind}
use Rattle.unasked_dues.specs.Reading.{AreDebts, BeginSole, IsReadAt, WereRead}
use Rattle.seen_laws.proofs.InEvents.{here_more}
use Rattle.seen_laws.specs.Blocks.{Here, on_row, on_rows, point_at}
use Rattle.seen_laws.specs.InEvent.{InEvent, first_of, here_of, later_of, now_of, own_of, row_of, seen_here}
use Rattle.seen_laws.specs.Owing.{owes, owes_row}
use Rattle.seen_laws.specs.Unasked.{unasked, unasked_request}
use Rattle.std.proofs.Common.{Bool, List, None, Option, Some, [], ap, append_assoc, false, map, refl, subst, sym, true, ◌++◌, ◌||◌, ◌∙◌, ◌∷◌, ◌≡◌}
use Rattle.std.proofs.lemmas.Bool.{and_parts}
use Rattle.std.specs.Prelude.{option_map}
use Rattle.row_facts.specs.Owed.Owed.{owes_from, owes_seen}
use Rattle.tab_ids.specs.declared.ReqId.{ReqId}
use Rattle.tab_ids.specs.declared.Step.{Step}
use Rattle.unasked.proofs.Readings.{request_read}
use Rattle.unasked_dues.proofs.Dues.{moved_away}
use Rattle.unasked_dues.proofs.Owed.{by_event_in}
use Rattle.unasked_dues.specs.Checking.{AllOthersPass, AreNumbered, IsAimed}

-- ---- a load that another request drops

-- its cause, where it is read as the event ends or was read as it was dropped
abbrev is_caused : Here → Seen → Asked → ReqId → Bool
is_caused h end q r = by_event (point_at h []) end q r || holds (by_mover h.now q) (request_of h.now r)

either_on : (a b c d : Bool) → (a ≡ true → c ≡ true) → (b ≡ true → d ≡ true) → (a || b) ≡ true → (c || d) ≡ true
either_on true b true d one two is = refl
either_on true b false d one two is = absurd (let never : false ≡ true = one refl in cc)
either_on false b true d one two is = refl
either_on false b false d one two is = two is

module _ (checking : ReqId → Bool) (h u : Here) (end : Seen) (start_is : u.start ≡ unasked checking h.start) (now_is : u.now ≡ unasked checking h.now) (numbered : AreNumbered h.start) (now_numbered : AreNumbered h.now) (others : AllOthersPass checking h.now) (aimed : IsAimed checking end) (end_others : AllOthersPass checking end) where
  mover_in : (q : Asked) (r : ReqId) → holds (by_mover u.now (unasked_request checking q)) (request_of u.now r) ≡ true → holds (by_mover h.now q) (request_of h.now r) ≡ true
  mover_in q r is =
      by_found (request_of h.now r) refl
      (ap (λ (o : Option Asked). holds (by_mover (unasked checking h.now) (unasked_request checking q)) o) (sym (request_read checking h.now r))
      ∙ (λ i. holds (by_mover (sym now_is i) (unasked_request checking q)) (request_of (sym now_is i) r))
      ∙ is)
    where
      by_found : (o : Option Asked) → request_of h.now r ≡ o → holds (by_mover (unasked checking h.now) (unasked_request checking q)) (option_map (unasked_request checking) o) ≡ true → holds (by_mover h.now q) o ≡ true
      by_found None at never = absurd cc
      by_found (Some mover) at moved =
          moved_away checking h.now q mover (λ off. others r mover at (ap checking (sym (now_numbered r mover at)) ∙ off)) moved

  caused_in : (q : Asked) (r : ReqId) → is_caused u (unasked checking end) (unasked_request checking q) r ≡ true → is_caused h end q r ≡ true
  caused_in q r is =
      either_on (by_event (point_at u []) (unasked checking end) (unasked_request checking q) r) (holds (by_mover u.now (unasked_request checking q)) (request_of u.now r)) (by_event (point_at h []) end q r) (holds (by_mover h.now q) (request_of h.now r))
      (by_event_in checking end (point_at h []) (point_at u []) start_is numbered aimed end_others r q) (mover_in q r) is

  dropped_in : (req r : ReqId) → holds (λ (q : Asked). is_caused u (unasked checking end) q r) (request_of u.now req) ≡ true → holds (λ (q : Asked). is_caused h end q r) (request_of h.now req) ≡ true
  dropped_in req r is =
      by_found (request_of h.now req)
      (ap (λ (o : Option Asked). holds (λ (q : Asked). is_caused u (unasked checking end) q r) o) (sym (ap (λ (s : Seen). request_of s req) now_is ∙ request_read checking h.now req)) ∙ is)
    where
      by_found : (o : Option Asked) → holds (λ (q : Asked). is_caused u (unasked checking end) q r) (option_map (unasked_request checking) o) ≡ true → holds (λ (q : Asked). is_caused h end q r) o ≡ true
      by_found None never = absurd cc
      by_found (Some q) caused = caused_in q r caused

-- ---- a row
module _ (e : InEvent) (out : List RowKind) (end : Seen) (aimed : IsAimed e.checking end) (end_others : AllOthersPass e.checking end) (start_numbered : AreNumbered e.start) (read : WereRead e out) (sole : BeginSole e out end) where
  abbrev seen_end : Seen
  seen_end = unasked e.checking end

  -- where the event stands keeps what it began with
  start_here : (before : List RowKind) → (here_of e before).start ≡ e.start
  start_here before = starts (first_of e) (map (row_of e) before) ∙ starts (own_of e) (map (row_of e) e.before)
    where
      starts : (h : Here) (rows_ : List LogRow) → (on_rows h rows_).start ≡ h.start
      starts h [] = refl
      starts h (row ∷ rows_) = starts (on_row h row) rows_

  -- what the row owes
  row_in : (before : List RowKind) → IsReadAt e before → (kind : RowKind) → owes_row (seen_here e before) (row_of e kind) seen_end ≡ true → ((req : ReqId) (goal : Option Step) → kind ≡ rows.Started req goal → owes_row (here_of e before) (row_of e (rows.Started req goal)) end ≡ true) → owes_row (here_of e before) (row_of e kind) end ≡ true
  unfolding now_of
  row_in before at (rows.Dropped req (drops.By r)) paid begun =
      dropped_in e.checking (here_of e before) (seen_here e before) end (ap (unasked e.checking) (sym (start_here before))) refl (subst AreNumbered (sym (start_here before)) start_numbered) at.numbered at.others aimed end_others req r paid
  row_in before at (rows.Dropped req drops.Stay) paid begun = refl
  row_in before at (rows.Dropped req (drops.Destroyed r)) paid begun = refl
  row_in before at (rows.Dropped req (drops.Gone death)) paid begun = refl
  row_in before at (rows.Started req goal) paid begun = begun req goal refl
  row_in before at (rows.Opened entry state doc proc slot address) paid begun = refl
  row_in before at (rows.Accepted req doc what) paid begun = refl
  row_in before at (rows.Applied req change) paid begun = refl
  row_in before at (rows.Refused req reason) paid begun = refl
  row_in before at (rows.Prompted req doc) paid begun = refl
  row_in before at (rows.Answered req stay) paid begun = refl
  row_in before at (rows.Sent job) paid begun = refl
  row_in before at (rows.Taken proc job live dirty) paid begun = refl
  row_in before at (rows.Finished proc job outcome) paid begun = refl
  row_in before at (rows.Made proc made) paid begun = refl
  row_in before at (rows.Delivered proc) paid begun = refl
  row_in before at (rows.Killed proc death) paid begun = refl
  row_in before at (rows.Evicted state) paid begun = refl

  abbrev Owes : Here → List RowKind → Type 0
  Owes h kinds = owes h (map (row_of e) kinds) end ≡ true

  one_more : (before later : List RowKind) (kind : RowKind) → before ++ kind ∷ later ≡ out → owes_from e before (kind ∷ later) seen_end ≡ true → (owes_from e (before ++ kind ∷ []) later seen_end ≡ true → Owes (here_of e (before ++ kind ∷ [])) later) → Owes (here_of e before) (kind ∷ later)
  one_more before later kind whole paid rest =
      let parts = and_parts (owes_row (seen_here e before) (row_of e kind) seen_end) (owes_from e (before ++ kind ∷ []) later seen_end) paid in
      rw (row_in before (read.each before (kind ∷ later) whole) kind parts.0 begun) (on (rest parts.1))
    where
      begun : (req : ReqId) (goal : Option Step) → kind ≡ rows.Started req goal → owes_row (here_of e before) (row_of e (rows.Started req goal)) end ≡ true
      begun req goal same = sole.new.each before later req goal (ap (λ (k : RowKind). before ++ k ∷ later) (sym same) ∙ whole)

      on : Owes (here_of e (before ++ kind ∷ [])) later → Owes (on_row (here_of e before) (row_of e kind)) later
      on is = subst (λ (h : Here). Owes h later) (here_more e before kind) is

  read_rows : (before later : List RowKind) → before ++ later ≡ out → owes_from e before later seen_end ≡ true → Owes (here_of e before) later
  read_rows before [] whole paid = refl
  read_rows before (kind ∷ later) whole paid =
      one_more before later kind whole paid (read_rows (before ++ kind ∷ []) later (append_assoc before (kind ∷ []) later ∙ whole))

  -- what the rows owe is paid in the log, that of those before the cut with it
  pub paid_read : AreDebts e → owes_seen e out seen_end ≡ true → owes (own_of e) (later_of e out) end ≡ true
  paid_read debts paid =
      let parts = and_parts (e.due seen_end) (owes_from e [] out seen_end) paid in
      owes_on (own_of e) (map (row_of e) e.before) (map (row_of e) out) (debts.paid end aimed end_others sole.old parts.0) (read_rows [] out refl parts.1)
    where
      owes_on : (h : Here) (rows_ more : List LogRow) → owes h rows_ end ≡ true → owes (on_rows h rows_) more end ≡ true → owes h (rows_ ++ more) end ≡ true
      owes_on h [] more first second = second
      owes_on h (row ∷ rows_) more first second =
          let each = and_parts (owes_row h row end) (owes (on_row h row) rows_ end) first in
          rw (each.0, owes_on (on_row h row) rows_ more each.1 second) refl
