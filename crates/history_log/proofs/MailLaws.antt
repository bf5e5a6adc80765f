-- The mail of a process is what was sent to it, without as many as are gone.
use Rattle.std.proofs.Common.{◌≡◌, ℕ, ◌+◌, ◌<◌, ◌≤◌, Bool, true, false, cond, ◌==◌, List, [], ◌∷◌, ◌++◌, length, drop, Option, Some, None, refl, ap, sym, subst, ◌∙◌, zero, suc, arith, append-nil, append_assoc, length-append}
use Rattle.std.specs.Prelude.{fold, filter_map, min, nat_le}
use Rattle.std.proofs.lemmas.Bool.Decides.{nat_tests}
use Rattle.std.proofs.lemmas.List.{drop-append-le}
use Rattle.std.proofs.lemmas.List.Elements.{filter_map-append}
use Rattle.std.proofs.lemmas.Grind.{common_steps}
use Rattle.tab_ids.specs.declared.ProcId.{ProcId}
use Rattle.log_model.specs.declared.job.Job.{Job}
use Rattle.log_model.specs.declared.request.Request.TheVariants as requests
use Rattle.log_model.specs.declared.row_kind.Actor.{Actor}
use Rattle.log_model.specs.declared.row_kind.Actor.TheVariants as actors
use Rattle.log_model.specs.declared.row_kind.LogRow.{LogRow}
use Rattle.log_model.specs.declared.row_kind.RowKind.{RowKind}
use Rattle.log_model.specs.declared.row_kind.RowKind.TheVariants as rows
use Rattle.log_model.specs.Seen.{Seen, Desk, Document, nothing, desk_of, document_of}
use Rattle.log_model.specs.After.{after, follows_finished, desks_made, desk_taken, desk_finished, desk_delivered, desk_killed}
use Rattle.log_model.specs.Logs.{seen_of, mail_of}
use Rattle.history_log.specs.declared.mail_count.MailCount.{MailCount}
use Rattle.history_log.specs.Mails.{mail_after, no_mail, sent_by, sent_to}
use Rattle.history_log.proofs.DeskLaws.{mine, desk_after, desk_of-after, with_poke, desk_poked, desk_served, desk_sent}
use Rattle.log_model.specs.declared.made.Made.{Made}
use Rattle.std.specs.Option.{option_map_or}

-- the mail after a row
abbrev pub next_mail : ProcId → List Job → RowKind → List Job
next_mail p mail (rows.Opened entry state doc proc slot address) = []
next_mail p mail (rows.Sent job) = cond (job.proc.0 == p.0) (mail ++ job ∷ []) mail
next_mail p mail (rows.Taken proc job live dirty) = cond (proc.0 == p.0) (drop 1 mail) mail
next_mail p mail _ = mail

mail_stays : (p q : ProcId) (f : Desk → Desk) (desk : Desk) → (f desk).mail ≡ desk.mail → (mine p q f desk).mail ≡ desk.mail
mail_stays p q f desk stays = elim (q.0 == p.0) as (λ b. (cond b (f desk) desk).mail ≡ desk.mail) [
  | true ↦ stays
  | false ↦ refl
]

poke_stays : (s : Seen) (p : ProcId) (found : Option Document) (desk : Desk) (f : Document → Desk → Desk) → ((d : Document) → (f d desk).mail ≡ desk.mail) → (option_map_or (λ d. f d desk) found desk).mail ≡ desk.mail
poke_stays s p None desk f stays = refl
poke_stays s p (Some d) desk f stays = stays d

made_stays : (joins : Bool) (made : Made) (desk : Desk) → (desks_made joins made desk).mail ≡ desk.mail
made_stays true made desk = refl
made_stays false made desk = refl

-- the mail of a desk after a row
pub mail-desk_after : (s : Seen) (p : ProcId) (joins : Bool) (actor : Actor) (kind : RowKind) (desk : Desk) → (desk_after s p joins actor kind desk).mail ≡ next_mail p desk.mail kind
mail-desk_after s p joins actor (rows.Opened entry state doc proc slot address) desk = refl
mail-desk_after s p joins actor (rows.Accepted req None what) desk = refl
mail-desk_after s p joins actor (rows.Accepted req (Some doc) (requests.Poke nav action)) desk =
    poke_stays s p (document_of s doc) desk (with_poke p req doc action) (λ d. mail_stays p d.proc (desk_poked req doc action) desk refl)
mail-desk_after s p joins actor (rows.Accepted req (Some doc) (requests.Load nav mode address)) desk = refl
mail-desk_after s p joins actor (rows.Accepted req (Some doc) (requests.Go delta)) desk = refl
mail-desk_after s p joins actor (rows.Accepted req (Some doc) (requests.Reload nav)) desk = refl
mail-desk_after s p joins actors.Start (rows.Refused req reason) desk = refl
mail-desk_after s p joins actors.Ui (rows.Refused req reason) desk = refl
mail-desk_after s p joins actors.Coord (rows.Refused req reason) desk = refl
mail-desk_after s p joins (actors.Proc q) (rows.Refused req reason) desk = mail_stays p q desk_served desk refl
mail-desk_after s p joins actor (rows.Sent job) desk =
    elim (job.proc.0 == p.0) as (λ b. (cond b (desk_sent job desk) desk).mail ≡ cond b (desk.mail ++ job ∷ []) desk.mail) [
      | true ↦ refl
      | false ↦ refl
    ]
mail-desk_after s p joins actor (rows.Taken proc job live dirty) desk =
    elim (proc.0 == p.0) as (λ b. (cond b (desk_taken live dirty desk) desk).mail ≡ cond b (drop 1 desk.mail) desk.mail) [
      | true ↦ refl
      | false ↦ refl
    ]
mail-desk_after s p joins actor (rows.Finished proc job outcome) desk = mail_stays p proc (desk_finished outcome) desk refl
mail-desk_after s p joins actor (rows.Made proc made) desk = mail_stays p proc (desks_made joins made) desk (made_stays joins made desk)
mail-desk_after s p joins actor (rows.Delivered proc) desk = mail_stays p proc desk_delivered desk refl
mail-desk_after s p joins actor (rows.Dropped req cause) desk = refl
mail-desk_after s p joins actor (rows.Killed proc death) desk = mail_stays p proc (desk_killed death) desk refl
mail-desk_after s p joins actor (rows.Started req goal) desk = refl
mail-desk_after s p joins actor (rows.Applied req change) desk = refl
mail-desk_after s p joins actor (rows.Prompted req doc) desk = refl
mail-desk_after s p joins actor (rows.Answered req stay) desk = refl
mail-desk_after s p joins actor (rows.Evicted state) desk = refl

-- the mail is what was sent before, without as many as are gone
pub record IsMail (mail : List Job) (m : MailCount) (before : List Job) : Type 0 where
  pub count : length before ≡ m.sent
  pub within : m.gone ≤ m.sent
  pub is : mail ≡ drop m.gone before

same_mail : (mail : List Job) (m : MailCount) (before : List Job) → IsMail mail m before → IsMail mail m (before ++ [])
same_mail mail m before are = subst (λ (l : List Job). IsMail mail m l) (sym (append-nil before)) are

drop_next : (n m : ℕ) (xs : List Job) → m ≡ n + 1 → drop 1 (drop n xs) ≡ drop m xs
drop_next zero zero xs at = absurd (omega arith)
drop_next zero (suc zero) xs at = refl
drop_next zero (suc (suc m)) xs at = absurd (omega arith)
drop_next (suc n) zero xs at = absurd (omega arith)
drop_next (suc n) (suc m) [] at = refl
drop_next (suc n) (suc m) (x ∷ xs) at = drop_next n m xs (omega arith)

drop_one : (n : ℕ) (xs : List Job) → drop 1 (drop n xs) ≡ drop (n + 1) xs
drop_one n xs = drop_next n (n + 1) xs refl

drop_all : (n : ℕ) (xs : List Job) → length xs ≤ n → drop n xs ≡ []
drop_all n xs past = grind (arith, common_steps)

taken_one : (mail : List Job) (m : MailCount) (before : List Job) → IsMail mail m before → drop 1 mail ≡ drop (min (m.gone + 1) m.sent) before
taken_one mail m before are =
    by_test (nat_le (m.gone + 1) m.sent) refl
  where
    by_test : (b : Bool) → nat_le (m.gone + 1) m.sent ≡ b → drop 1 mail ≡ drop (min (m.gone + 1) m.sent) before
    by_test true some =
        let here : m.gone + 1 ≤ m.sent = grind (arith, nat_tests) in
        let at : min (m.gone + 1) m.sent ≡ m.gone + 1 = omega (arith, here) in
        rw (are.is, at) (drop_one m.gone before)
    by_test false none =
        let past : m.sent < m.gone + 1 = grind (arith, nat_tests) in
        let at : min (m.gone + 1) m.sent ≡ m.sent = omega (arith, past) in
        rw (are.is, at, drop_one m.gone before) (drop_all (m.gone + 1) before (omega (arith, are.count, past)) ∙ sym (drop_all m.sent before (omega (arith, are.count))))

pub next_mail_is : (p : ProcId) (event : ℕ) (actor : Actor) (kind : RowKind) (mail : List Job) (m : MailCount) (before : List Job) → IsMail mail m before → IsMail (next_mail p mail kind) (mail_after p m kind) (before ++ sent_to p (record { event = event; actor = actor; row = kind } ∷ []))
next_mail_is p event actor (rows.Opened entry state doc proc slot address) mail m before are =
    record { count = rw (append-nil before) are.count; within = omega arith; is = rw (append-nil before) (sym (drop_all m.sent before (omega (arith, are.count)))) }
next_mail_is p event actor (rows.Sent job) mail m before are =
    elim (job.proc.0 == p.0) as (λ b. IsMail (cond b (mail ++ job ∷ []) mail) (cond b (record m { sent = m.sent + 1 }) m) (before ++ filter_map (λ (o : Option Job). o) (cond b (Some job) None ∷ []))) [
      | true ↦ record {
        count = omega (arith, length-append before (job ∷ []), are.count);
        within = omega (arith, are.within);
        is = rw (are.is) (sym (drop-append-le m.gone before (job ∷ []) (omega (arith, are.within, are.count))));
      }
      | false ↦ same_mail mail m before are
    ]
next_mail_is p event actor (rows.Taken proc job live dirty) mail m before are =
    same_mail _ _ before (
    elim (proc.0 == p.0) as (λ b. IsMail (cond b (drop 1 mail) mail) (cond b (record m { gone = min (m.gone + 1) m.sent }) m) before) [
      | true ↦ record { count = are.count; within = omega arith; is = taken_one mail m before are }
      | false ↦ are
    ]
    )
next_mail_is p event actor (rows.Accepted req doc what) mail m before are = same_mail mail m before are
next_mail_is p event actor (rows.Refused req reason) mail m before are = same_mail mail m before are
next_mail_is p event actor (rows.Finished proc job outcome) mail m before are = same_mail mail m before are
next_mail_is p event actor (rows.Made proc made) mail m before are = same_mail mail m before are
next_mail_is p event actor (rows.Delivered proc) mail m before are = same_mail mail m before are
next_mail_is p event actor (rows.Dropped req cause) mail m before are = same_mail mail m before are
next_mail_is p event actor (rows.Killed proc death) mail m before are = same_mail mail m before are
next_mail_is p event actor (rows.Started req goal) mail m before are = same_mail mail m before are
next_mail_is p event actor (rows.Applied req change) mail m before are = same_mail mail m before are
next_mail_is p event actor (rows.Prompted req doc) mail m before are = same_mail mail m before are
next_mail_is p event actor (rows.Answered req stay) mail m before are = same_mail mail m before are
next_mail_is p event actor (rows.Evicted state) mail m before are = same_mail mail m before are

abbrev pub counted : ProcId → MailCount → List LogRow → MailCount
counted p m rows = fold (λ (m : MailCount) (row : LogRow). mail_after p m row.row) m rows

mail_fold : (p : ProcId) (rows : List LogRow) (s : Seen) (m : MailCount) (before : List Job) → IsMail (desk_of s p).mail m before → IsMail (desk_of (fold after s rows) p).mail (counted p m rows) (before ++ sent_to p rows)
mail_fold p [] s m before are = same_mail _ m before are
mail_fold p (row ∷ rows) s m before are =
    let step : (desk_of (after s row) p).mail ≡ next_mail p (desk_of s p).mail row.row =
    ap (λ (d : Desk). d.mail) (desk_of-after s p row.event row.actor row.row) ∙ mail-desk_after s p (follows_finished s row) row.actor row.row (desk_of s p) in
    let now : IsMail (desk_of (after s row) p).mail (mail_after p m row.row) (before ++ sent_to p (row ∷ [])) =
    rw step (next_mail_is p row.event row.actor row.row (desk_of s p).mail m before are) in
    let all : IsMail (desk_of (fold after (after s row) rows) p).mail (counted p (mail_after p m row.row) rows) ((before ++ sent_to p (row ∷ [])) ++ sent_to p rows) =
    mail_fold p rows (after s row) (mail_after p m row.row) (before ++ sent_to p (row ∷ [])) now in
    let joined : (before ++ sent_to p (row ∷ [])) ++ sent_to p rows ≡ before ++ sent_to p (row ∷ rows) =
    append_assoc before (sent_to p (row ∷ [])) (sent_to p rows) ∙ ap (λ (l : List Job). before ++ l) (sym (filter_map-append (λ (r : LogRow). sent_by p r.row) (row ∷ []) rows)) in
    subst (λ (l : List Job). IsMail (desk_of (fold after (after s row) rows) p).mail (counted p (mail_after p m row.row) rows) l) joined all

-- the mail of a log
pub mail_is : (p : ProcId) (log : List LogRow) → IsMail (mail_of log p) (counted p no_mail log) (sent_to p log)
unfolding seen_of
mail_is p log = mail_fold p log nothing no_mail [] (record { count = refl; within = omega arith; is = refl })

-- ---- the loops

-- the count of a whole log
pub count_read : (p : ProcId) (m : MailCount) (i : ℕ) (log : List LogRow) → length log ≤ i → counted p m (drop i log) ≡ counted p no_mail log → mail_of log p ≡ drop m.gone (sent_to p log)
count_read p m i log past are =
    let done : counted p m (drop i log) ≡ m = ap (λ (l : List LogRow). counted p m l) (let none : drop i log ≡ [] = grind (arith, common_steps) in none) in
    let at : m ≡ counted p no_mail log = sym done ∙ are in
    (mail_is p log).is ∙ ap (λ (n : MailCount). drop n.gone (sent_to p log)) (sym at)

sent_to-cons : (p : ProcId) (row : LogRow) (rows : List LogRow) → sent_to p (row ∷ rows) ≡ sent_to p (row ∷ []) ++ sent_to p rows
sent_to-cons p row rows = filter_map-append (λ (r : LogRow). sent_by p r.row) (row ∷ []) rows
