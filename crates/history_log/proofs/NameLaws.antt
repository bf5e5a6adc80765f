-- Where no row names a process nothing waits in it; and which process is named next.
use Rattle.std.proofs.Common.{◌≡◌, ◌≢◌, ℕ, ◌<◌, ◌≤◌, Bool, true, false, cond, ◌&&◌, ◌||◌, ◌==◌, List, [], ◌∷◌, ◌++◌, length, Option, Some, None, refl, ap, ◌∙◌, arith, append-nil, append_assoc}
use Rattle.std.specs.Prelude.{fold, nat_lt, nat_le, option_map}
use Rattle.std.specs.Option.{option_map_or}
use Rattle.std.proofs.lemmas.Bool.Decides.{nat_tests}
use Rattle.std.proofs.lemmas.List.Folds.{list_any-append}
use Rattle.tab_ids.specs.declared.DocId.{DocId}
use Rattle.tab_ids.specs.declared.ProcId.{ProcId}
use Rattle.tab_ids.specs.declared.ReqId.{ReqId}
use Rattle.log_model.specs.declared.action.Action.{Action}
use Rattle.log_model.specs.declared.job.Job.{Job}
use Rattle.log_model.specs.declared.job.Task.{Task}
use Rattle.log_model.specs.declared.job.Task.TheVariants as tasks
use Rattle.log_model.specs.declared.request.Request.TheVariants as requests
use Rattle.log_model.specs.declared.row_kind.Actor.{Actor}
use Rattle.log_model.specs.declared.row_kind.Actor.TheVariants as actors
use Rattle.log_model.specs.declared.row_kind.LogRow.{LogRow}
use Rattle.log_model.specs.declared.row_kind.RowKind.{RowKind}
use Rattle.log_model.specs.declared.row_kind.RowKind.TheVariants as rows
use Rattle.log_model.specs.Seen.{Seen, Desk, Document, nothing, desk_of, document_of, empty_desk}
use Rattle.log_model.specs.After.{after, follows_finished}
use Rattle.log_model.specs.Logs.{seen_of}
use Rattle.history_log.specs.Names.{named_by, is_number, names, is_named, lower, next_named}
use Rattle.history_log.specs.Owners.{placed_by_task, first_place, owner_after}
use Rattle.history_log.proofs.DeskLaws.{desk_after, desk_of-after, with_poke}
use Rattle.history_log.proofs.OwnerLaws.{own, own_after}

or_first : (b c : Bool) → (b || c) ≡ false → b ≡ false
or_first true c e = cc
or_first false c e = refl

or_second : (b c : Bool) → (b || c) ≡ false → c ≡ false
or_second true c e = absurd cc
or_second false c e = e

-- ---- a process that no row names

placed_unnamed : (p : ℕ) (doc : DocId) (job : Job) (task : Task) → (job.proc.0 == p) ≡ false → is_number p (placed_by_task doc job task) ≡ false
placed_unnamed p doc job (tasks.Populate nav state address initial) other =
    elim (job.doc.0 == doc.0) as (λ b. is_number p (cond b (Some job.proc) None) ≡ false) [
      | true ↦ other
      | false ↦ refl
    ]
placed_unnamed p doc job (tasks.Activate entry epoch length index memo address) other = refl
placed_unnamed p doc job (tasks.Update length index) other = refl
placed_unnamed p doc job tasks.Freeze other = refl
placed_unnamed p doc job tasks.Discard other = refl
placed_unnamed p doc job (tasks.Ask slot cause) other = refl
placed_unnamed p doc job (tasks.DoFragment req mode address) other = refl

first_unnamed : (p : ℕ) (owner place : Option ProcId) → is_number p owner ≡ false → is_number p place ≡ false → is_number p (first_place owner place) ≡ false
first_unnamed p None place owner_ place_ = place_
first_unnamed p (Some q) place owner_ place_ = owner_

owner_unnamed : (p : ℕ) (doc : DocId) (owner : Option ProcId) (actor : Actor) (kind : RowKind) → is_number p (named_by actor kind) ≡ false → is_number p owner ≡ false → is_number p (owner_after doc owner kind) ≡ false
owner_unnamed p doc owner actor (rows.Opened entry state d proc slot address) other not_ =
    elim (d.0 == doc.0) as (λ b. is_number p (cond b (Some proc) None) ≡ false) [
      | true ↦ other
      | false ↦ refl
    ]
owner_unnamed p doc owner actor (rows.Sent job) other not_ = first_unnamed p owner (placed_by_task doc job job.task) not_ (placed_unnamed p doc job job.task other)
owner_unnamed p doc owner actor (rows.Accepted req d what) other not_ = not_
owner_unnamed p doc owner actor (rows.Started req goal) other not_ = not_
owner_unnamed p doc owner actor (rows.Applied req change) other not_ = not_
owner_unnamed p doc owner actor (rows.Refused req reason) other not_ = not_
owner_unnamed p doc owner actor (rows.Dropped req cause) other not_ = not_
owner_unnamed p doc owner actor (rows.Prompted req d) other not_ = not_
owner_unnamed p doc owner actor (rows.Answered req stay) other not_ = not_
owner_unnamed p doc owner actor (rows.Taken proc job live dirty) other not_ = not_
owner_unnamed p doc owner actor (rows.Finished proc job outcome) other not_ = not_
owner_unnamed p doc owner actor (rows.Made proc made) other not_ = not_
owner_unnamed p doc owner actor (rows.Delivered proc) other not_ = not_
owner_unnamed p doc owner actor (rows.Killed proc death) other not_ = not_
owner_unnamed p doc owner actor (rows.Evicted state) other not_ = not_

poke_unnamed : (s : Seen) (p : ProcId) (req : ReqId) (doc : DocId) (action : Action) (found : Option Document) → is_number p.0 (option_map (λ (d : Document). d.proc) found) ≡ false → option_map_or (λ d. with_poke p req doc action d (empty_desk p)) found (empty_desk p) ≡ empty_desk p
poke_unnamed s p req doc action None other = refl
poke_unnamed s p req doc action (Some d) other = rw other refl

desk_unnamed : (s : Seen) (p : ProcId) (joins : Bool) (actor : Actor) (kind : RowKind) → is_number p.0 (named_by actor kind) ≡ false → ((doc : DocId) → is_number p.0 (own s.documents doc) ≡ false) → desk_after s p joins actor kind (empty_desk p) ≡ empty_desk p
desk_unnamed s p joins actor (rows.Opened entry state doc proc slot address) other owners = refl
desk_unnamed s p joins actor (rows.Accepted req None what) other owners = refl
desk_unnamed s p joins actor (rows.Accepted req (Some doc) (requests.Poke nav action)) other owners = poke_unnamed s p req doc action (document_of s doc) (owners doc)
desk_unnamed s p joins actor (rows.Accepted req (Some doc) (requests.Load nav mode address)) other owners = refl
desk_unnamed s p joins actor (rows.Accepted req (Some doc) (requests.Go delta)) other owners = refl
desk_unnamed s p joins actor (rows.Accepted req (Some doc) (requests.Reload nav)) other owners = refl
desk_unnamed s p joins (actors.Proc q) (rows.Refused req reason) other owners = rw other refl
desk_unnamed s p joins actors.Start (rows.Refused req reason) other owners = refl
desk_unnamed s p joins actors.Ui (rows.Refused req reason) other owners = refl
desk_unnamed s p joins actors.Coord (rows.Refused req reason) other owners = refl
desk_unnamed s p joins actor (rows.Sent job) other owners = rw other refl
desk_unnamed s p joins actor (rows.Taken proc job live dirty) other owners = rw other refl
desk_unnamed s p joins actor (rows.Finished proc job outcome) other owners = rw other refl
desk_unnamed s p joins actor (rows.Made proc made) other owners = rw other refl
desk_unnamed s p joins actor (rows.Delivered proc) other owners = rw other refl
desk_unnamed s p joins actor (rows.Killed proc death) other owners = rw other refl
desk_unnamed s p joins actor (rows.Dropped req cause) other owners = refl
desk_unnamed s p joins actor (rows.Started req goal) other owners = refl
desk_unnamed s p joins actor (rows.Applied req change) other owners = refl
desk_unnamed s p joins actor (rows.Prompted req doc) other owners = refl
desk_unnamed s p joins actor (rows.Answered req stay) other owners = refl
desk_unnamed s p joins actor (rows.Evicted state) other owners = refl

unnamed_fold : (p : ProcId) (log : List LogRow) (s : Seen) → is_named p.0 log ≡ false → desk_of s p ≡ empty_desk p → ((doc : DocId) → is_number p.0 (own s.documents doc) ≡ false) → desk_of (fold after s log) p ≡ empty_desk p
unnamed_fold p [] s none empty owners = empty
unnamed_fold p (row ∷ log) s none empty owners =
    let here : names p.0 row ≡ false = or_first (names p.0 row) (is_named p.0 log) none in
    unnamed_fold p log (after s row) (or_second (names p.0 row) (is_named p.0 log) none)
    (desk_of-after s p row.event row.actor row.row ∙ ap (λ (d : Desk). desk_after s p (follows_finished s row) row.actor row.row d) empty ∙ desk_unnamed s p (follows_finished s row) row.actor row.row here owners)
    (λ doc. rw (own_after s row.row doc) (owner_unnamed p.0 doc (own s.documents doc) row.actor row.row here (owners doc)))

pub unnamed_empty : (p : ProcId) (log : List LogRow) → is_named p.0 log ≡ false → desk_of (seen_of log) p ≡ empty_desk p
unfolding seen_of
unnamed_empty p log none = unnamed_fold p log nothing none refl (λ doc. refl)

-- ---- the process that is named next

-- no number from one on is named below this one, or none at all
abbrev pub IsLowest : ℕ → Option ProcId → List LogRow → Type 0
IsLowest from None log = (q : ℕ) → from ≤ q → is_named q log ≡ false
IsLowest from (Some best) log = (from ≤ best.0) × ((q : ℕ) → from ≤ q → q < best.0 → is_named q log ≡ false)

named_more : (q : ℕ) (done : List LogRow) (row : LogRow) → is_named q done ≡ false → names q row ≡ false → is_named q (done ++ row ∷ []) ≡ false
named_more q done row before here = list_any-append (names q) done (row ∷ []) ∙ rw (before, here) refl

lowest_more : (from : ℕ) (done : List LogRow) (row : LogRow) (best named : Option ProcId) → named_by row.actor row.row ≡ named → IsLowest from best done → IsLowest from (lower from best named) (done ++ row ∷ [])
lowest_more from done row None None is low = λ q at. named_more q done row (low q at) (rw is refl)
lowest_more from done row (Some best) None is low = (low.0, λ q at below. named_more q done row (low.1 q at below) (rw is refl))
lowest_more from done row None (Some proc) is low = by_test (nat_le from proc.0) refl
  where
    by_test : (b : Bool) → nat_le from proc.0 ≡ b → IsLowest from (cond b (Some proc) None) (done ++ row ∷ [])
    by_test true at = (grind (arith, nat_tests), λ q from_ below. named_more q done row (low q from_) (rw is (other proc.0 q (omega (arith, below)))))
      where
        other : (n m : ℕ) → n ≢ m → (n == m) ≡ false
        other n m apart = grind (arith, nat_tests)
    by_test false at = λ q from_. named_more q done row (low q from_) (rw is (other proc.0 q (let past : proc.0 < from = grind (arith, nat_tests) in omega (arith, past, from_))))
      where
        other : (n m : ℕ) → n ≢ m → (n == m) ≡ false
        other n m apart = grind (arith, nat_tests)
lowest_more from done row (Some best) (Some proc) is low = by_test (nat_le from proc.0 && nat_lt proc.0 best.0) refl
  where
    other : (n m : ℕ) → n ≢ m → (n == m) ≡ false
    other n m apart = grind (arith, nat_tests)

    apart_ : (q : ℕ) → (nat_le from proc.0 && nat_lt proc.0 best.0) ≡ false → from ≤ q → q < best.0 → (proc.0 == q) ≡ false
    apart_ q out from_ below = grind (arith, nat_tests)

    first : (b c : Bool) → (b && c) ≡ true → b ≡ true
    first true c e = refl
    first false c e = absurd cc

    second : (b c : Bool) → (b && c) ≡ true → c ≡ true
    second true c e = e
    second false c e = absurd cc

    by_test : (b : Bool) → (nat_le from proc.0 && nat_lt proc.0 best.0) ≡ b → IsLowest from (cond b (Some proc) (Some best)) (done ++ row ∷ [])
    by_test true at =
        let one : nat_le from proc.0 ≡ true = first (nat_le from proc.0) (nat_lt proc.0 best.0) at in
        let two : nat_lt proc.0 best.0 ≡ true = second (nat_le from proc.0) (nat_lt proc.0 best.0) at in
        let less : proc.0 < best.0 = grind (arith, nat_tests) in
        (grind (arith, nat_tests), λ q from_ below. named_more q done row (low.1 q from_ (omega (arith, below, less))) (rw is (other proc.0 q (omega (arith, below)))))
    by_test false at = (low.0, λ q from_ below. named_more q done row (low.1 q from_ below) (rw is (apart_ q at from_ below)))

lowest_fold : (from : ℕ) (log done : List LogRow) (best : Option ProcId) → IsLowest from best done → IsLowest from (fold (λ (b : Option ProcId) (row : LogRow). lower from b (named_by row.actor row.row)) best log) (done ++ log)
lowest_fold from [] done best low = rw (append-nil done) low
lowest_fold from (row ∷ log) done best low =
    let more = lowest_fold from log (done ++ row ∷ []) (lower from best (named_by row.actor row.row)) (lowest_more from done row best (named_by row.actor row.row) refl low) in
    rw (append_assoc done (row ∷ []) log) at more

pub next_is : (from : ℕ) (log : List LogRow) → IsLowest from (next_named from log) log
next_is from log = lowest_fold from log [] None (λ q at. refl)
