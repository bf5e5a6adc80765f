-- Nothing is in transit where nothing waits in any process.
use Rattle.std.proofs.Common.{◌≡◌, ℕ, ◌+◌, ◌<◌, ◌≤◌, Bool, true, false, ◌&&◌, ◌||◌, ◌==◌, List, [], ◌∷◌, map, Option, Some, None, refl, ap, sym, subst, ◌∙◌, arith}
use Rattle.std.specs.Prelude.{fold, nat_lt}
use Rattle.std.specs.List.{list_any, list_all}
use Rattle.std.proofs.lemmas.Bool.Decides.{nat_tests}
use Rattle.tab_ids.specs.declared.DocId.{DocId}
use Rattle.tab_ids.specs.declared.ProcId.{ProcId}
use Rattle.tab_ids.specs.declared.ReqId.{ReqId}
use Rattle.log_model.specs.declared.action.Action.{Action}
use Rattle.log_model.specs.declared.made.Made.{Made}
use Rattle.log_model.specs.declared.request.Request.TheVariants as requests
use Rattle.log_model.specs.declared.row_kind.Actor.{Actor}
use Rattle.log_model.specs.declared.row_kind.Actor.TheVariants as actors
use Rattle.log_model.specs.declared.row_kind.LogRow.{LogRow}
use Rattle.log_model.specs.declared.row_kind.RowKind.{RowKind}
use Rattle.log_model.specs.declared.row_kind.RowKind.TheVariants as rows
use Rattle.log_model.specs.Seen.{Seen, Desk, Document, nothing, empty_desk, desk_in, desk_of, document_of}
use Rattle.log_model.specs.After.{after, on_desk, poked, desks_made, desk_taken, desk_finished, desk_delivered, desk_killed, desk_dropped, desks_after, follows_finished}
use Rattle.log_model.specs.Logs.{seen_of, is_idle, is_still}
use Rattle.log_model.proofs.Refl.{nat_eq_refl}
use Rattle.history_log.specs.Names.{is_named, next_named}
use Rattle.history_log.proofs.DeskLaws.{StaysIts, desk_poked, desk_served, desk_sent}
use Rattle.history_log.proofs.NameLaws.{IsLowest, next_is, unnamed_empty}

-- ---- each process has one desk

abbrev pub has_desk : ProcId → List Desk → Bool
has_desk p desks = list_any (λ (desk : Desk). desk.proc.0 == p.0) desks

abbrev pub Apart : List Desk → Type 0
Apart [] = Unit {0}
Apart (desk ∷ desks) = (has_desk desk.proc desks ≡ false) × Apart desks

or_assoc : (a b c : Bool) → (a || (b || c)) ≡ ((a || b) || c)
or_assoc true b c = refl
or_assoc false b c = refl

or_false : (a : Bool) → (a || false) ≡ a
or_false true = refl
or_false false = refl

has_desk-on_desk : (x q : ProcId) (f : Desk → Desk) → StaysIts f → (desks : List Desk) → has_desk x (on_desk q f desks) ≡ (has_desk x desks || (q.0 == x.0))
has_desk-on_desk x q f stays [] = rw (ap (λ (p : ProcId). p.0 == x.0) (stays (empty_desk q))) (or_false (q.0 == x.0))
has_desk-on_desk x q f stays (desk ∷ desks) = by_test (desk.proc.0 == q.0) refl (has_desk-on_desk x q f stays desks)
  where
    by_test : (b : Bool) → (desk.proc.0 == q.0) ≡ b → has_desk x (on_desk q f desks) ≡ (has_desk x desks || (q.0 == x.0)) → has_desk x (on_desk q f (desk ∷ desks)) ≡ (has_desk x (desk ∷ desks) || (q.0 == x.0))
    by_test true here rest =
        let at : desk.proc.0 ≡ q.0 = grind (arith, nat_tests) in
        let same : (q.0 == x.0) ≡ (desk.proc.0 == x.0) = ap (λ (n : ℕ). n == x.0) (sym at) in
        rw (here, ap (λ (p : ProcId). p.0 == x.0) (stays desk), same) (either (desk.proc.0 == x.0) (has_desk x desks))
      where
        either : (a b : Bool) → (a || b) ≡ ((a || b) || a)
        either true b = refl
        either false b = sym (or_false b)
    by_test false other rest = rw (other, rest) (or_assoc (desk.proc.0 == x.0) (has_desk x desks) (q.0 == x.0))

Apart-on_desk : (q : ProcId) (f : Desk → Desk) → StaysIts f → (desks : List Desk) → Apart desks → Apart (on_desk q f desks)
Apart-on_desk q f stays [] apart = (refl, tt)
Apart-on_desk q f stays (desk ∷ desks) apart = by_test (desk.proc.0 == q.0) refl (Apart-on_desk q f stays desks apart.1)
  where
    by_test : (b : Bool) → (desk.proc.0 == q.0) ≡ b → Apart (on_desk q f desks) → Apart (on_desk q f (desk ∷ desks))
    by_test true here rest = rw here (subst (λ (p : ProcId). has_desk p desks ≡ false) (sym (stays desk)) apart.0, apart.1)
    by_test false other rest =
        let back : (q.0 == desk.proc.0) ≡ false = grind (arith, nat_tests) in
        rw other (has_desk-on_desk desk.proc q f stays desks ∙ rw (apart.0, back) refl, rest)

has_desk-dropped : (x : ProcId) (req : ReqId) (desks : List Desk) → has_desk x (map (desk_dropped req) desks) ≡ has_desk x desks
has_desk-dropped x req [] = refl
has_desk-dropped x req (desk ∷ desks) = ap (λ (b : Bool). (desk.proc.0 == x.0) || b) (has_desk-dropped x req desks)

Apart-dropped : (req : ReqId) (desks : List Desk) → Apart desks → Apart (map (desk_dropped req) desks)
Apart-dropped req [] apart = tt
Apart-dropped req (desk ∷ desks) apart = (has_desk-dropped desk.proc req desks ∙ apart.0, Apart-dropped req desks apart.1)

Apart-poked : (s : Seen) (req : ReqId) (doc : DocId) (action : Action) (found : Option Document) → document_of s doc ≡ found → Apart s.desks → Apart (poked s req doc action)
Apart-poked s req doc action None at apart = rw at apart
Apart-poked s req doc action (Some d) at apart = rw at (Apart-on_desk d.proc (desk_poked req doc action) (λ desk. refl) s.desks apart)

made_stays : (joins : Bool) (made : Made) → StaysIts (desks_made joins made)
made_stays true made desk = refl
made_stays false made desk = refl

apart_after : (s : Seen) (event : ℕ) (actor : Actor) (kind : RowKind) → Apart s.desks → Apart (desks_after s (record { event = event; actor = actor; row = kind }))
apart_after s event actor (rows.Opened entry state doc proc slot address) apart = (refl, tt)
apart_after s event actor (rows.Accepted req None what) apart = apart
apart_after s event actor (rows.Accepted req (Some doc) (requests.Poke nav action)) apart = Apart-poked s req doc action (document_of s doc) refl apart
apart_after s event actor (rows.Accepted req (Some doc) (requests.Load nav mode address)) apart = apart
apart_after s event actor (rows.Accepted req (Some doc) (requests.Go delta)) apart = apart
apart_after s event actor (rows.Accepted req (Some doc) (requests.Reload nav)) apart = apart
apart_after s event (actors.Proc q) (rows.Refused req reason) apart = Apart-on_desk q desk_served (λ desk. refl) s.desks apart
apart_after s event actors.Start (rows.Refused req reason) apart = apart
apart_after s event actors.Ui (rows.Refused req reason) apart = apart
apart_after s event actors.Coord (rows.Refused req reason) apart = apart
apart_after s event actor (rows.Sent job) apart = Apart-on_desk job.proc (desk_sent job) (λ desk. refl) s.desks apart
apart_after s event actor (rows.Taken proc job live dirty) apart = Apart-on_desk proc (desk_taken live dirty) (λ desk. refl) s.desks apart
apart_after s event actor (rows.Finished proc job outcome) apart = Apart-on_desk proc (desk_finished outcome) (λ desk. refl) s.desks apart
apart_after s event actor (rows.Made proc made) apart = Apart-on_desk proc (desks_made (follows_finished s (record { event = event; actor = actor; row = rows.Made proc made })) made) (made_stays (follows_finished s (record { event = event; actor = actor; row = rows.Made proc made })) made) s.desks apart
apart_after s event actor (rows.Delivered proc) apart = Apart-on_desk proc desk_delivered (λ desk. refl) s.desks apart
apart_after s event actor (rows.Dropped req cause) apart = Apart-dropped req s.desks apart
apart_after s event actor (rows.Killed proc death) apart = Apart-on_desk proc (desk_killed death) (λ desk. refl) s.desks apart
apart_after s event actor (rows.Started req goal) apart = apart
apart_after s event actor (rows.Applied req change) apart = apart
apart_after s event actor (rows.Prompted req doc) apart = apart
apart_after s event actor (rows.Answered req stay) apart = apart
apart_after s event actor (rows.Evicted state) apart = apart

apart_fold : (log : List LogRow) (s : Seen) → Apart s.desks → Apart (fold after s log).desks
apart_fold [] s apart = apart
apart_fold (row ∷ log) s apart = apart_fold log (after s row) (apart_after s row.event row.actor row.row apart)

apart_log : (log : List LogRow) → Apart (seen_of log).desks
unfolding seen_of
apart_log log = apart_fold log nothing tt

-- ---- all desks, and each process

absent : (x q : ProcId) (desks : List Desk) → x.0 ≡ q.0 → has_desk x desks ≡ false → desk_in desks q ≡ empty_desk q
absent x q [] at none = refl
absent x q (desk ∷ desks) at none =
    let here : (desk.proc.0 == q.0) ≡ false = ap (λ (n : ℕ). desk.proc.0 == n) (sym at) ∙ first (desk.proc.0 == x.0) (has_desk x desks) none in
    rw here (absent x q desks at (second (desk.proc.0 == x.0) (has_desk x desks) none))
  where
    first : (b c : Bool) → (b || c) ≡ false → b ≡ false
    first true c e = cc
    first false c e = refl

    second : (b c : Bool) → (b || c) ≡ false → c ≡ false
    second true c e = absurd cc
    second false c e = e

all_idle : (desks : List Desk) → Apart desks → ((q : ProcId) → is_idle (desk_in desks q) ≡ true) → list_all is_idle desks ≡ true
all_idle [] apart idle = refl
all_idle (desk ∷ desks) apart idle =
    let one : is_idle desk ≡ true = rw (nat_eq_refl desk.proc.0) at (idle desk.proc) in
    rw one (all_idle desks apart.1 (λ q. by_test q (desk.proc.0 == q.0) refl (idle q)))
  where
    by_test : (q : ProcId) (b : Bool) → (desk.proc.0 == q.0) ≡ b → is_idle (desk_in (desk ∷ desks) q) ≡ true → is_idle (desk_in desks q) ≡ true
    by_test q true here is = let at : desk.proc.0 ≡ q.0 = grind (arith, nat_tests) in rw (absent desk.proc q desks at apart.0) refl
    by_test q false other is = rw other at is

one_busy : (desks : List Desk) (q : ProcId) → is_idle (desk_in desks q) ≡ false → list_all is_idle desks ≡ false
one_busy [] q busy = absurd cc
one_busy (desk ∷ desks) q busy = by_test (desk.proc.0 == q.0) refl (λ rest. one_busy desks q rest)
  where
    and_false : (b c : Bool) → c ≡ false → (b && c) ≡ false
    and_false true c e = e
    and_false false c e = refl

    by_test : (b : Bool) → (desk.proc.0 == q.0) ≡ b → (is_idle (desk_in desks q) ≡ false → list_all is_idle desks ≡ false) → (is_idle desk && list_all is_idle desks) ≡ false
    by_test true here rest = let one : is_idle desk ≡ false = rw here at busy in rw one refl
    by_test false other rest = let others : is_idle (desk_in desks q) ≡ false = rw other at busy in and_false (is_idle desk) (list_all is_idle desks) (rest others)

-- ---- the search

-- nothing waits in the processes below a number
abbrev pub AreIdleBelow : List LogRow → ℕ → Type 0
AreIdleBelow log from = (q : ℕ) → q < from → is_idle (desk_of (seen_of log) (record { 0 = q })) ≡ true

pub idle_none : (log : List LogRow) → AreIdleBelow log 0
idle_none log = λ q below. absurd (omega (arith, below))

unnamed_idle : (log : List LogRow) (q : ℕ) → is_named q log ≡ false → is_idle (desk_of (seen_of log) (record { 0 = q })) ≡ true
unnamed_idle log q none = rw (unnamed_empty (record { 0 = q }) log none) refl

pub idle_more : (log : List LogRow) (from : ℕ) (found : ProcId) → next_named from log ≡ Some found → AreIdleBelow log from → is_idle (desk_of (seen_of log) found) ≡ true → AreIdleBelow log (found.0 + 1) × (from ≤ found.0)
idle_more log from found is below idle =
    let low : IsLowest from (Some found) log = subst (λ (o : Option ProcId). IsLowest from o log) is (next_is from log) in
    (λ q less. by_tests low q less (nat_lt q from) (nat_lt q found.0) refl refl, low.0)
  where
    by_tests : IsLowest from (Some found) log → (q : ℕ) → q < found.0 + 1 → (a b : Bool) → nat_lt q from ≡ a → nat_lt q found.0 ≡ b → is_idle (desk_of (seen_of log) (record { 0 = q })) ≡ true
    by_tests low q less true b at there = below q (grind (arith, nat_tests))
    by_tests low q less false true at there = unnamed_idle log q (low.1 q (grind (arith, nat_tests)) (grind (arith, nat_tests)))
    by_tests low q less false false at there = let same : q ≡ found.0 = grind (arith, nat_tests) in rw same idle

pub still_found : (log : List LogRow) (from : ℕ) → next_named from log ≡ None → AreIdleBelow log from → is_still (seen_of log) ≡ true
still_found log from is below =
    let low : IsLowest from None log = subst (λ (o : Option ProcId). IsLowest from o log) is (next_is from log) in
    all_idle (seen_of log).desks (apart_log log) (λ p. by_test low p (nat_lt p.0 from) refl)
  where
    by_test : IsLowest from None log → (p : ProcId) → (b : Bool) → nat_lt p.0 from ≡ b → is_idle (desk_of (seen_of log) p) ≡ true
    by_test low p true at = below p.0 (grind (arith, nat_tests))
    by_test low p false at = unnamed_idle log p.0 (low p.0 (grind (arith, nat_tests)))

pub busy_found : (log : List LogRow) (p : ProcId) → is_idle (desk_of (seen_of log) p) ≡ false → is_still (seen_of log) ≡ false
busy_found log p busy = one_busy (seen_of log).desks p busy

-- where each process is idle, nothing is in transit
pub all_still : (log : List LogRow) → ((proc : ProcId) → is_idle (desk_of (seen_of log) proc) ≡ true) → is_still (seen_of log) ≡ true
all_still log idle = all_idle (seen_of log).desks (apart_log log) idle
