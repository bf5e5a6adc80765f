-- The order in hand of a process, by the rows so far.
use Rattle.std.proofs.Common.{◌≡◌, ℕ, ◌<◌, ◌≤◌, Bool, true, false, cond, ◌&&◌, ◌==◌, List, [], ◌∷◌, ◌++◌, length, drop, Option, Some, None, refl, ap, sym, subst, ◌∙◌, arith, length-drop}
use Rattle.std.specs.Prelude.{fold, is_some, nat_lt, option_map, slice_get}
use Rattle.std.specs.Option.{option_map_or}
use Rattle.std.proofs.lemmas.Bool.Decides.{nat_tests}
use Rattle.std.proofs.lemmas.Grind.{common_steps}
use Rattle.tab_ids.specs.declared.ProcId.{ProcId}
use Rattle.log_model.specs.declared.job.Job.{Job}
use Rattle.log_model.specs.declared.job.Order.{Order}
use Rattle.log_model.specs.declared.made.Made.{Made}
use Rattle.log_model.specs.declared.request.Request.TheVariants as requests
use Rattle.log_model.specs.declared.row_kind.Actor.{Actor}
use Rattle.log_model.specs.declared.row_kind.Actor.TheVariants as actors
use Rattle.log_model.specs.declared.row_kind.LogRow.{LogRow}
use Rattle.log_model.specs.declared.row_kind.RowKind.{RowKind}
use Rattle.log_model.specs.declared.row_kind.RowKind.TheVariants as rows
use Rattle.log_model.specs.Seen.{Seen, Desk, Document, nothing, desk_of, document_of}
use Rattle.log_model.specs.After.{after, follows_finished, desks_made, desk_taken, desk_finished, desk_delivered, desk_killed}
use Rattle.log_model.specs.Logs.{seen_of}
use Rattle.history_log.specs.declared.mail_count.MailCount.{MailCount}
use Rattle.history_log.specs.declared.order_reader.OrderReader.{OrderReader}
use Rattle.history_log.specs.Desks.{holds_after, order_after, no_order}
use Rattle.history_log.specs.Mails.{sent_to}
use Rattle.history_log.proofs.DeskLaws.{mine, desk_after, desk_of-after, with_poke, desk_poked, desk_served, desk_sent}
use Rattle.history_log.proofs.MailLaws.{IsMail, mail-desk_after, next_mail_is}

-- what a reader keeps of the desk
pub record IsOrders (desk : Desk) (o : OrderReader) (before : List Job) : Type 0 where
  pub mail : IsMail desk.mail o.mail before
  pub holds : o.holds ≡ is_some desk.in_hand

hand_stays : (p q : ProcId) (f : Desk → Desk) (desk : Desk) (h : Bool) → (f desk).in_hand ≡ desk.in_hand → h ≡ is_some desk.in_hand → h ≡ is_some (mine p q f desk).in_hand
hand_stays p q f desk h stays is = elim (q.0 == p.0) as (λ b. h ≡ is_some (cond b (f desk) desk).in_hand) [
  | true ↦ rw stays is
  | false ↦ is
]

hand_empties : (p q : ProcId) (f : Desk → Desk) (desk : Desk) (h : Bool) → (f desk).in_hand ≡ None → h ≡ is_some desk.in_hand → cond (q.0 == p.0) false h ≡ is_some (mine p q f desk).in_hand
hand_empties p q f desk h empties is = elim (q.0 == p.0) as (λ b. cond b false h ≡ is_some (cond b (f desk) desk).in_hand) [
  | true ↦ rw empties refl
  | false ↦ is
]

hand_of_poke : (found : Option Document) (desk : Desk) (f : Document → Desk → Desk) (h : Bool) → ((d : Document) → h ≡ is_some (f d desk).in_hand) → h ≡ is_some desk.in_hand → h ≡ is_some (option_map_or (λ d. f d desk) found desk).in_hand
hand_of_poke None desk f h of is = is
hand_of_poke (Some d) desk f h of is = of d

made_hand : (joins : Bool) (made : Made) (desk : Desk) → (desks_made joins made desk).in_hand ≡ desk.in_hand
made_hand true made desk = refl
made_hand false made desk = refl

-- whether an order waits in the mail
waits_is : (mail : List Job) (m : MailCount) (before : List Job) (f : Job → Order) → IsMail mail m before → nat_lt m.gone m.sent ≡ is_some (option_map f (slice_get mail 0))
waits_is mail m before f are = by_rest (drop m.gone before) refl
  where
    by_rest : (rest : List Job) → drop m.gone before ≡ rest → nat_lt m.gone m.sent ≡ is_some (option_map f (slice_get mail 0))
    by_rest [] at =
        let none : length (drop m.gone before) ≡ 0 = ap (λ (l : List Job). length l) at in
        let past : m.sent ≤ m.gone = omega (arith, none, length-drop m.gone before, are.count) in
        let test : nat_lt m.gone m.sent ≡ false = grind (arith, nat_tests) in
        rw (test, are.is, at) refl
    by_rest (job ∷ rest) at =
        let some : length (drop m.gone before) ≡ length (job ∷ rest) = ap (λ (l : List Job). length l) at in
        let within : m.gone < m.sent = omega (arith, some, length-drop m.gone before, are.count) in
        let test : nat_lt m.gone m.sent ≡ true = grind (arith, nat_tests) in
        rw (test, are.is, at) refl

taken_hand : (p q : ProcId) (live dirty : Bool) (desk : Desk) (o : OrderReader) (before : List Job) → IsOrders desk o before → cond (q.0 == p.0) (live && nat_lt o.mail.gone o.mail.sent) o.holds ≡ is_some (mine p q (desk_taken live dirty) desk).in_hand
taken_hand p q live dirty desk o before are =
    elim (q.0 == p.0) as (λ b. cond b (live && nat_lt o.mail.gone o.mail.sent) o.holds ≡ is_some (cond b (desk_taken live dirty desk) desk).in_hand) [
      | true ↦ by_live live
      | false ↦ are.holds
    ]
  where
    by_live : (l : Bool) → (l && nat_lt o.mail.gone o.mail.sent) ≡ is_some (desk_taken l dirty desk).in_hand
    by_live true = waits_is desk.mail o.mail before _ are.mail
    by_live false = refl

holds_more : (s : Seen) (p : ProcId) (joins : Bool) (actor : Actor) (kind : RowKind) (desk : Desk) (o : OrderReader) (before : List Job) → IsOrders desk o before → holds_after p o.holds (nat_lt o.mail.gone o.mail.sent) kind ≡ is_some (desk_after s p joins actor kind desk).in_hand
holds_more s p joins actor (rows.Opened entry state doc proc slot address) desk o before are = refl
holds_more s p joins actor (rows.Accepted req None what) desk o before are = are.holds
holds_more s p joins actor (rows.Accepted req (Some doc) (requests.Poke nav action)) desk o before are =
    hand_of_poke (document_of s doc) desk (with_poke p req doc action) o.holds (λ d. hand_stays p d.proc (desk_poked req doc action) desk o.holds refl are.holds) are.holds
holds_more s p joins actor (rows.Accepted req (Some doc) (requests.Load nav mode address)) desk o before are = are.holds
holds_more s p joins actor (rows.Accepted req (Some doc) (requests.Go delta)) desk o before are = are.holds
holds_more s p joins actor (rows.Accepted req (Some doc) (requests.Reload nav)) desk o before are = are.holds
holds_more s p joins actors.Start (rows.Refused req reason) desk o before are = are.holds
holds_more s p joins actors.Ui (rows.Refused req reason) desk o before are = are.holds
holds_more s p joins actors.Coord (rows.Refused req reason) desk o before are = are.holds
holds_more s p joins (actors.Proc q) (rows.Refused req reason) desk o before are = hand_stays p q desk_served desk o.holds refl are.holds
holds_more s p joins actor (rows.Sent job) desk o before are = hand_stays p job.proc (desk_sent job) desk o.holds refl are.holds
holds_more s p joins actor (rows.Taken proc job live dirty) desk o before are = taken_hand p proc live dirty desk o before are
holds_more s p joins actor (rows.Finished proc job outcome) desk o before are = hand_empties p proc (desk_finished outcome) desk o.holds refl are.holds
holds_more s p joins actor (rows.Made proc made) desk o before are = hand_stays p proc (desks_made joins made) desk o.holds (made_hand joins made desk) are.holds
holds_more s p joins actor (rows.Delivered proc) desk o before are = hand_stays p proc desk_delivered desk o.holds refl are.holds
holds_more s p joins actor (rows.Dropped req cause) desk o before are = are.holds
holds_more s p joins actor (rows.Killed proc death) desk o before are = hand_empties p proc (desk_killed death) desk o.holds refl are.holds
holds_more s p joins actor (rows.Started req goal) desk o before are = are.holds
holds_more s p joins actor (rows.Applied req change) desk o before are = are.holds
holds_more s p joins actor (rows.Prompted req doc) desk o before are = are.holds
holds_more s p joins actor (rows.Answered req stay) desk o before are = are.holds
holds_more s p joins actor (rows.Evicted state) desk o before are = are.holds

-- after one more row
pub orders_more : (s : Seen) (p : ProcId) (row : LogRow) (o : OrderReader) (before : List Job) → IsOrders (desk_of s p) o before → IsOrders (desk_of (after s row) p) (order_after p o row.row) (before ++ sent_to p (row ∷ []))
orders_more s p row o before are =
    let at : desk_of (after s row) p ≡ desk_after s p (follows_finished s row) row.actor row.row (desk_of s p) = desk_of-after s p row.event row.actor row.row in
    subst (λ (d : Desk). IsOrders d (order_after p o row.row) (before ++ sent_to p (row ∷ []))) (sym at) (
    record {
      mail = rw (mail-desk_after s p (follows_finished s row) row.actor row.row (desk_of s p)) (next_mail_is p row.event row.actor row.row (desk_of s p).mail o.mail before are.mail);
      holds = holds_more s p (follows_finished s row) row.actor row.row (desk_of s p) o before are;
    }
    )

abbrev pub ordered_on : ProcId → OrderReader → List LogRow → OrderReader
ordered_on p o log = fold (λ (o : OrderReader) (row : LogRow). order_after p o row.row) o log

orders_fold : (p : ProcId) (log : List LogRow) (s : Seen) (o : OrderReader) (before : List Job) → IsOrders (desk_of s p) o before → (ordered_on p o log).holds ≡ is_some (desk_of (fold after s log) p).in_hand
orders_fold p [] s o before are = are.holds
orders_fold p (row ∷ log) s o before are = orders_fold p log (after s row) (order_after p o row.row) (before ++ sent_to p (row ∷ [])) (orders_more s p row o before are)

pub no_orders : (p : ProcId) → IsOrders (desk_of nothing p) no_order []
no_orders p = record { mail = record { count = refl; within = omega arith; is = refl }; holds = refl }

-- the hand of a whole log
pub hand_read : (p : ProcId) (o : OrderReader) (i : ℕ) (log : List LogRow) → length log ≤ i → ordered_on p o (drop i log) ≡ ordered_on p no_order log → o.holds ≡ is_some (desk_of (seen_of log) p).in_hand
unfolding seen_of
hand_read p o i log past are =
    let done : ordered_on p o (drop i log) ≡ o = ap (λ (l : List LogRow). ordered_on p o l) (let none : drop i log ≡ [] = grind (arith, common_steps) in none) in
    ap (λ (x : OrderReader). x.holds) (sym done ∙ are) ∙ orders_fold p log nothing no_order [] (no_orders p)
