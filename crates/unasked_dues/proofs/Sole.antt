-- Each load that begins in an event is the only one of its navigable still, as the log has one row more.
use Rattle.log_model.specs.After.{after}
use Rattle.log_model.specs.Equal.{holds}
use Rattle.log_model.specs.Once.{has_no_earlier_load}
use Rattle.log_model.specs.Seen.{Asked, Seen, request_of}
use Rattle.log_model.specs.declared.request.Request.TheVariants as requests
use Rattle.log_model.specs.declared.request.Request.{Request}
use Rattle.log_model.specs.declared.row_kind.RowKind.TheVariants as rows
use Rattle.log_model.specs.declared.row_kind.RowKind.{RowKind}
use Rattle.unasked_dues.proofs.Read.{Parted, parted}
use Rattle.unasked_dues.specs.Reading.{AreDebts, AreSole, BeginSole}
use Rattle.seen_laws.proofs.InEvents.{log_more}
use Rattle.seen_laws.specs.InEvent.{InEvent, first_of, here_of, log_of, own_of, row_of}
use Rattle.seen_laws.specs.Blocks.{Here, on_rows}
use Rattle.seen_laws.specs.Owing.{is_sole_load, owes, owes_row}
use Rattle.std.proofs.Common.{List, None, Option, Some, [], ap, append_assoc, inl, inr, map, refl, subst, sym, true, ◌⊎◌, ◌++◌, ◌∙◌, ◌∷◌, ◌≡◌}
use Rattle.tab_ids.specs.declared.NavId.{NavId}
use Rattle.tab_ids.specs.declared.ReqId.{ReqId}
use Rattle.tab_ids.specs.declared.Step.{Step}

-- what is the only load still is so for whatever it asks
sole_still : (s t : Seen) (req : ReqId) → ((nav : NavId) → has_no_earlier_load s req nav ≡ true → has_no_earlier_load t req nav ≡ true) → (what : Request) → is_sole_load what req s ≡ true → is_sole_load what req t ≡ true
sole_still s t req stays (requests.Load nav mode address) is = stays nav is
sole_still s t req stays (requests.Go delta) is = refl
sole_still s t req stays (requests.Reload nav) is = refl
sole_still s t req stays (requests.Poke nav action) is = refl

owes_still : (s t : Seen) (o : Option Asked) → ((q : Asked) → o ≡ Some q → (nav : NavId) → has_no_earlier_load s q.nr nav ≡ true → has_no_earlier_load t q.nr nav ≡ true) → holds (λ (q : Asked). is_sole_load q.what q.nr s) o ≡ true → holds (λ (q : Asked). is_sole_load q.what q.nr t) o ≡ true
owes_still s t None stays is = is
owes_still s t (Some q) stays is = sole_still s t q.nr (stays q refl) q.what is

-- a request that began among these rows, as it was then
pub record BeganIn (e : InEvent) (from : Here) (kinds : List RowKind) (q : Asked) : Type 0 where
  pub before : List RowKind
  pub later : List RowKind
  pub req : ReqId
  pub goal : Option Step
  pub among : before ++ rows.Started req goal ∷ later ≡ kinds
  pub found : request_of (on_rows from (map (row_of e) before)).now req ≡ Some q

-- a request that began among the rows of the event so far: before the cut, or after it
abbrev pub HasBegun : InEvent → List RowKind → Asked → Type 0
HasBegun e out q = BeganIn e (own_of e) e.before q ⊎ BeganIn e (first_of e) out q

-- those that began among some rows are sole still, where the later end has no earlier loads for them
still_sole : (e : InEvent) (from : Here) (kinds : List RowKind) (s t : Seen) → ((q : Asked) → BeganIn e from kinds q → (nav : NavId) → has_no_earlier_load s q.nr nav ≡ true → has_no_earlier_load t q.nr nav ≡ true) → AreSole e from kinds s → AreSole e from kinds t
still_sole e from kinds s t stays sole =
    record {
      each = λ before later req goal is.
          owes_still s t (request_of (on_rows from (map (row_of e) before)).now req)
          (λ q at. stays q (record { before = before; later = later; req = req; goal = goal; among = is; found = at }))
          (sole.each before later req goal is);
    }

module _ (e : InEvent) (out : List RowKind) (kind : RowKind) (stays : (q : Asked) → HasBegun e out q → (nav : NavId) → has_no_earlier_load (log_of e out) q.nr nav ≡ true → has_no_earlier_load (after (log_of e out) (row_of e kind)) q.nr nav ≡ true) where
  abbrev more : List RowKind
  more = out ++ kind ∷ []

  pub sole_more : BeginSole e out (log_of e out) → ((req : ReqId) (goal : Option Step) → kind ≡ rows.Started req goal → owes_row (here_of e out) (row_of e (rows.Started req goal)) (log_of e more) ≡ true) → BeginSole e more (log_of e more)
  sole_more sole own =
      record {
        old =
            subst (λ (t : Seen). AreSole e (own_of e) e.before t) (sym (log_more e out kind))
            (still_sole e (own_of e) e.before (log_of e out) (after (log_of e out) (row_of e kind)) (λ q began. stays q (inl began)) sole.old);
        new = record { each = λ before later req goal is. by_part before req goal (parted (before ++ rows.Started req goal ∷ []) later out kind (append_assoc before (rows.Started req goal ∷ []) later ∙ is)) };
      }
    where
      last : (before : List RowKind) (req : ReqId) (goal : Option Step) → before ++ rows.Started req goal ∷ [] ≡ more → (before ≡ out) × (kind ≡ rows.Started req goal)
      last before req goal is = ends before out is
        where
          ends : (a b : List RowKind) → a ++ rows.Started req goal ∷ [] ≡ b ++ kind ∷ [] → (a ≡ b) × (kind ≡ rows.Started req goal)
          ends [] [] is = (refl, (let same : rows.Started req goal ≡ kind = cc in sym same))
          ends [] (x ∷ []) is = absurd cc
          ends [] (x ∷ y ∷ b) is = absurd cc
          ends (x ∷ []) [] is = absurd cc
          ends (x ∷ y ∷ a) [] is = absurd cc
          ends (x ∷ a) (y ∷ b) is =
              let first : x ≡ y = cc in
              let rest : a ++ rows.Started req goal ∷ [] ≡ b ++ kind ∷ [] = cc in
              let both = ends a b rest in
              (ap (λ l. x ∷ l) both.0 ∙ ap (λ k. k ∷ b) first, both.1)

      by_part : (before : List RowKind) (req : ReqId) (goal : Option Step) → Parted (before ++ rows.Started req goal ∷ []) out kind → owes_row (here_of e before) (row_of e (rows.Started req goal)) (log_of e more) ≡ true
      by_part before req goal (Parted.whole is) =
          let both = last before req goal is in
          subst (λ (l : List RowKind). owes_row (here_of e l) (row_of e (rows.Started req goal)) (log_of e more) ≡ true) (sym both.0) (own req goal both.1)
      by_part before req goal (Parted.within later is) =
          let among : before ++ rows.Started req goal ∷ later ≡ out = sym (append_assoc before (rows.Started req goal ∷ []) later) ∙ is in
          subst (λ (t : Seen). owes_row (here_of e before) (row_of e (rows.Started req goal)) t ≡ true) (sym (log_more e out kind))
          ((still_sole e (first_of e) out (log_of e out) (after (log_of e out) (row_of e kind)) (λ q began. stays q (inr began)) sole.new).each before later req goal among)

-- no row was put out yet
pub none_sole : (e : InEvent) (from : Here) (end : Seen) → AreSole e from [] end
none_sole e from end = record { each = λ before later req goal is. none before req goal later is }
  where
    none : (before : List RowKind) (req : ReqId) (goal : Option Step) (later : List RowKind) → before ++ rows.Started req goal ∷ later ≡ [] → owes_row (on_rows from (map (row_of e) before)) (row_of e (rows.Started req goal)) end ≡ true
    none [] req goal later is = absurd cc
    none (x ∷ before) req goal later is = absurd cc

-- nor any before a cut
pub sole_own : (e : InEvent) (end : Seen) → e.before ≡ [] → BeginSole e [] end
sole_own e end uncut =
    record {
      old = subst (λ (l : List RowKind). AreSole e (own_of e) l end) (sym uncut) (none_sole e (own_of e) end);
      new = none_sole e (first_of e) end;
    }

-- so nothing is owed
pub debts_own : (e : InEvent) → e.before ≡ [] → AreDebts e
debts_own e uncut = record { paid = λ end aimed others sole due. ap (λ (l : List RowKind). owes (own_of e) (map (row_of e) l) end) uncut }
