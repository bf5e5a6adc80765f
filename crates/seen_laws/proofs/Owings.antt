-- Blocks of rows that owe something to the event's end: one after the other, and at the end.
use Rattle.std.proofs.Common.{◌≡◌, ℕ, Bool, true, false, ◌&&◌, List, [], ◌∷◌, ◌++◌, Some, refl, sym, ap, ◌∙◌, subst}
use Rattle.std.specs.Prelude.{fold, is_some}
use Rattle.std.proofs.lemmas.Bool.{and_parts}
use Rattle.std.proofs.lemmas.List.Sums.{fold-append}
use Rattle.tab_ids.specs.declared.ReqId.{ReqId}
use Rattle.log_model.specs.declared.outcome.Cause.TheVariants as drops
use Rattle.log_model.specs.declared.row_kind.Actor.{Actor}
use Rattle.log_model.specs.declared.row_kind.LogRow.{LogRow}
use Rattle.log_model.specs.declared.row_kind.RowKind.TheVariants as rows
use Rattle.log_model.specs.Equal.{has_req}
use Rattle.log_model.specs.Seen.{Seen, Asked, request_of}
use Rattle.log_model.specs.After.{after}
use Rattle.log_model.specs.Formed.{is_in_its_place}
use Rattle.log_model.specs.Once.{is_open}
use Rattle.seen_laws.specs.Blocks.{Passes, Here, point_at, on_row, on_rows, EachPass}
use Rattle.seen_laws.specs.Sending.{is_led}
use Rattle.seen_laws.specs.Owing.{owes_row, owes, Pays, MayLogOwing}
use Rattle.seen_laws.proofs.BlockLaws.{each_pass_append}
use Rattle.log_model.specs.Causes.{is_caused_row}
use Rattle.seen_laws.proofs.Sendings.{led_follows, both}

and_assoc : (a b c : Bool) → (a && (b && c)) ≡ ((a && b) && c)
and_assoc true b c = refl
and_assoc false b c = refl

pub owes_append : (h : Here) (rows more : List LogRow) (end : Seen) → owes h (rows ++ more) end ≡ (owes h rows end && owes (on_rows h rows) more end)
owes_append h [] more end = refl
owes_append h (row ∷ rows) more end = ap (λ (b : Bool). owes_row h row end && b) (owes_append (on_row h row) rows more end) ∙ and_assoc (owes_row h row end) (owes (on_row h row) rows end) (owes (on_rows (on_row h row) rows) more end)

on_rows_append : (h : Here) (rows more : List LogRow) → on_rows h (rows ++ more) ≡ on_rows (on_rows h rows) more
on_rows_append h [] more = refl
on_rows_append h (row ∷ rows) more = on_rows_append (on_row h row) rows more

now_fold : (h : Here) (rows : List LogRow) → (on_rows h rows).now ≡ fold after h.now rows
now_fold h [] = refl
now_fold h (row ∷ rows) = now_fold (on_row h row) rows

-- the end is the same, seen from either block
end_same : (h : Here) (more later : List LogRow) → fold after h.now (more ++ later) ≡ fold after (on_rows h more).now later
end_same h more later =
    fold-append (λ (s : Seen) (row : LogRow). after s row) h.now more later
    ∙ ap (λ (s : Seen). fold after s later) (sym (now_fold h more))

-- two blocks are paid where both are
pub pays_append : (h : Here) (rows more later : List LogRow) → Pays h (rows ++ more) later → Pays h rows (more ++ later) × Pays (on_rows h rows) more later
pays_append h rows more later pays =
    let end : (on_rows h (rows ++ more)).now ≡ (on_rows (on_rows h rows) more).now = ap (λ (x : Here). x.now) (on_rows_append h rows more) in
    let all : owes h (rows ++ more) (fold after (on_rows (on_rows h rows) more).now later) ≡ true = subst (λ (s : Seen). owes h (rows ++ more) (fold after s later) ≡ true) end pays in
    let parts = and_parts _ _ (sym (owes_append h rows more (fold after (on_rows (on_rows h rows) more).now later)) ∙ all) in
    (subst (λ (s : Seen). owes h rows s ≡ true) (sym (end_same (on_rows h rows) more later)) parts.0, parts.1)

pub owing_append : (h : Here) (rows more : List LogRow) → MayLogOwing h rows → MayLogOwing (on_rows h rows) more → MayLogOwing h (rows ++ more)
owing_append h rows more one two later pays =
    let parts = pays_append h rows more later pays in
    each_pass_append h rows more later (one (more ++ later) parts.0) (two later parts.1)

-- at the event's end what is owed is to be paid by what the log has come to
pub owing_end : (h : Here) (rows : List LogRow) → MayLogOwing h rows → owes h rows (on_rows h rows).now ≡ true → EachPass h rows []
owing_end h rows may paid = may [] paid

-- a request may be dropped by another one: it is open, isn't held back, and the event's end has the cause
pub drop_may : (h : Here) (event : ℕ) (actor : Actor) (req r : ReqId) (q : Asked) → is_led h.done ≡ true → request_of h.now req ≡ Some q → is_open q ≡ true → has_req h.now.parked req ≡ false → MayLogOwing h (record { event = event; actor = actor; row = rows.Dropped req (drops.By r) } ∷ [])
drop_may h event actor req r q led found open_ unparked later pays = (passes, tt)
  where
    passes : Passes h.header (point_at h later) (record { event = event; actor = actor; row = rows.Dropped req (drops.By r) })
    passes =
        let place : is_in_its_place (point_at h later) (record { event = event; actor = actor; row = rows.Dropped req (drops.By r) }) ≡ true = led_follows h.done (point_at h later) (record { event = event; actor = actor; row = rows.Dropped req (drops.By r) }) refl led refl in
        let there : is_some (request_of h.now req) ≡ true = rw found refl in
        record {
          formed = both place there;
          once = rw found open_;
          caused = caused;
          queued = rw unparked refl;
          ordered = refl;
          checked = refl;
          in_time = refl;
          suits = refl;
        }
      where
        caused : is_caused_row (point_at h later) (record { event = event; actor = actor; row = rows.Dropped req (drops.By r) }) ≡ true
        caused = (and_parts (owes_row h (record { event = event; actor = actor; row = rows.Dropped req (drops.By r) }) (fold after (after h.now (record { event = event; actor = actor; row = rows.Dropped req (drops.By r) })) later)) true pays).0
