-- What a reader keeps of a process is what waits in it.
use Rattle.std.proofs.Common.{◌≡◌, ℕ, ◌+◌, ◌-◌, ◌<◌, ◌≤◌, suc, Bool, true, false, cond, not, ◌&&◌, ◌==◌, List, [], ◌∷◌, ◌++◌, length, get_or, take, drop, Option, Some, None, refl, ap, sym, ◌∙◌, arith, append-nil, length-append, length-drop}
use Rattle.std.specs.Prelude.{is_some, option_map, slice_get, IfSome}
use Rattle.std.specs.Option.{option_map_or}
use Rattle.std.proofs.lemmas.Bool.Decides.{nat_tests}
use Rattle.std.proofs.lemmas.Grind.{common_steps}
use Rattle.std.proofs.lemmas.List.{drop-append-le, take-append-le, take-append-drop}
use Rattle.std.proofs.lemmas.List.Folds.{list_any-append}
use Rattle.std.proofs.lemmas.List.Elements.{filter_map-append}
use Rattle.tab_ids.specs.declared.DocId.{DocId}
use Rattle.tab_ids.specs.declared.ReqId.{ReqId}
use Rattle.tab_ids.specs.declared.ProcId.{ProcId}
use Rattle.log_model.specs.declared.action.Action.{Action}
use Rattle.log_model.specs.declared.job.Order.{Order}
use Rattle.log_model.specs.declared.made.Made.{Made}
use Rattle.log_model.specs.declared.made.What.{What}
use Rattle.log_model.specs.declared.made.What.TheVariants as whats
use Rattle.log_model.specs.declared.made.Report.{Report}
use Rattle.log_model.specs.declared.made.Report.TheVariants as reports
use Rattle.log_model.specs.declared.outcome.Cause.{Cause}
use Rattle.log_model.specs.declared.outcome.Outcome.{Outcome}
use Rattle.log_model.specs.declared.request.Poke.{Poke}
use Rattle.log_model.specs.declared.request.Request.{Request}
use Rattle.log_model.specs.declared.request.Request.TheVariants as requests
use Rattle.log_model.specs.declared.row_kind.Actor.{Actor}
use Rattle.log_model.specs.declared.row_kind.Actor.TheVariants as actors
use Rattle.log_model.specs.declared.row_kind.LogRow.{LogRow}
use Rattle.log_model.specs.declared.row_kind.RowKind.{RowKind}
use Rattle.log_model.specs.declared.row_kind.RowKind.TheVariants as rows
use Rattle.log_model.specs.Seen.{Seen, Desk, Document, desk_of, document_of}
use Rattle.log_model.specs.After.{finished_by, follows_finished, reports_made, reports_joined, desks_made, desk_taken, desk_finished, desk_delivered, desk_killed}
use Rattle.log_model.specs.Logs.{seen_of}
use Rattle.log_model.proofs.Laws.{seen_of_append}
use Rattle.history_log.specs.declared.order_reader.OrderReader.{OrderReader}
use Rattle.history_log.specs.Desks.{is_reported, reports_after, joins_order, finisher, finishes_of, order_after, no_order}
use Rattle.history_log.specs.Lefts.{is_drop, have_drop, opens, is_made_by, serves, its_poke, poke_of, poked_by, left_from}
use Rattle.history_log.specs.Mails.{sent_by, sent_to}
use Rattle.history_log.specs.Owners.{owner_of}
use Rattle.history_log.proofs.Cuts.{take_more, of_item}
use Rattle.history_log.proofs.DeskLaws.{mine, desk_after, desk_of-after, with_poke, desk_poked, desk_served, desk_sent}
use Rattle.history_log.proofs.LeftLaws.{listed, without, left_more, left_dropped, left_none}
use Rattle.history_log.proofs.OrderLaws.{IsOrders, orders_more, no_orders}
use Rattle.history_log.proofs.OwnerLaws.{own, own_is}

-- ---- reports

joined_length : (made : Made) (waiting : List Report) → length (reports_joined made waiting) ≡ length waiting
joined_length made [] = refl
joined_length made (reports.Done job outcome joined ∷ []) = refl
joined_length made (reports.Done job outcome joined ∷ next ∷ waiting) = ap suc (joined_length made (next ∷ waiting))
joined_length made (reports.Made other ∷ waiting) = ap suc (joined_length made waiting)
joined_length made (reports.Died death ∷ waiting) = ap suc (joined_length made waiting)

made_length : (made : Made) (waiting : List Report) (what : What) → length (reports_made waiting made what) ≡ cond (is_reported what) (length waiting + 1) (length waiting)
made_length made waiting whats.Edit = refl
made_length made waiting (whats.Push entry memo address) = length-append waiting (reports.Made made ∷ [])
made_length made waiting (whats.Replace over entry memo address) = length-append waiting (reports.Made made ∷ [])
made_length made waiting (whats.AddFrame nav) = length-append waiting (reports.Made made ∷ [])
made_length made waiting (whats.RemoveFrame nav) = length-append waiting (reports.Made made ∷ [])
made_length made waiting (whats.Go delta) = length-append waiting (reports.Made made ∷ [])

reports_stay : (p q : ProcId) (f : Desk → Desk) (desk : Desk) (n : ℕ) → (f desk).reports ≡ desk.reports → length desk.reports ≡ n → length (mine p q f desk).reports ≡ n
reports_stay p q f desk n stays is = elim (q.0 == p.0) as (λ b. length (cond b (f desk) desk).reports ≡ n) [
  | true ↦ rw stays is
  | false ↦ is
]

reports_of_poke : (found : Option Document) (desk : Desk) (f : Document → Desk → Desk) (n : ℕ) → ((d : Document) → length (f d desk).reports ≡ n) → length desk.reports ≡ n → length (option_map_or (λ d. f d desk) found desk).reports ≡ n
reports_of_poke None desk f n of is = is
reports_of_poke (Some d) desk f n of is = of d

finished_length : (outcome : Outcome) (desk : Desk) → length (desk_finished outcome desk).reports ≡ cond (is_some desk.in_hand) (length desk.reports + 1) (length desk.reports)
finished_length outcome desk = by_hand desk.in_hand
  where
    by_hand : (hand : Option Order) → length (option_map_or (λ (order : Order). desk.reports ++ reports.Done order.job outcome None ∷ []) hand desk.reports) ≡ cond (is_some hand) (length desk.reports + 1) (length desk.reports)
    by_hand None = refl
    by_hand (Some order) = length-append desk.reports (reports.Done order.job outcome None ∷ [])

made_reports : (joins : Bool) (made : Made) (desk : Desk) (n : ℕ) → length desk.reports ≡ n → length (desks_made joins made desk).reports ≡ cond (not joins && is_reported made.what) (n + 1) n
made_reports true made desk n is = joined_length made desk.reports ∙ is
made_reports false made desk n is = made_length made desk.reports made.what ∙ ap (λ (k : ℕ). cond (is_reported made.what) (k + 1) k) is

reports_more : (s : Seen) (p : ProcId) (joins : Bool) (actor : Actor) (kind : RowKind) (desk : Desk) (j holds : Bool) (n : ℕ) → (is_made_by p kind ≡ true → j ≡ joins) → holds ≡ is_some desk.in_hand → length desk.reports ≡ n → length (desk_after s p joins actor kind desk).reports ≡ reports_after p j holds n kind
reports_more s p joins actor (rows.Opened entry state doc proc slot address) desk j holds n its hand is = refl
reports_more s p joins actor (rows.Accepted req None what) desk j holds n its hand is = is
reports_more s p joins actor (rows.Accepted req (Some doc) (requests.Poke nav action)) desk j holds n its hand is =
    reports_of_poke (document_of s doc) desk (with_poke p req doc action) n (λ d. reports_stay p d.proc (desk_poked req doc action) desk n refl is) is
reports_more s p joins actor (rows.Accepted req (Some doc) (requests.Load nav mode address)) desk j holds n its hand is = is
reports_more s p joins actor (rows.Accepted req (Some doc) (requests.Go delta)) desk j holds n its hand is = is
reports_more s p joins actor (rows.Accepted req (Some doc) (requests.Reload nav)) desk j holds n its hand is = is
reports_more s p joins actors.Start (rows.Refused req reason) desk j holds n its hand is = is
reports_more s p joins actors.Ui (rows.Refused req reason) desk j holds n its hand is = is
reports_more s p joins actors.Coord (rows.Refused req reason) desk j holds n its hand is = is
reports_more s p joins (actors.Proc q) (rows.Refused req reason) desk j holds n its hand is = reports_stay p q desk_served desk n refl is
reports_more s p joins actor (rows.Sent job) desk j holds n its hand is = reports_stay p job.proc (desk_sent job) desk n refl is
reports_more s p joins actor (rows.Taken proc job live dirty) desk j holds n its hand is = reports_stay p proc (desk_taken live dirty) desk n refl is
reports_more s p joins actor (rows.Finished proc job outcome) desk j holds n its hand is =
    elim (proc.0 == p.0) as (λ b. length (cond b (desk_finished outcome desk) desk).reports ≡ cond (b && holds) (n + 1) n) [
      | true ↦ finished_length outcome desk ∙ rw (is, ← hand) refl
      | false ↦ is
    ]
reports_more s p joins actor (rows.Made proc made) desk j holds n its hand is = by_test (proc.0 == p.0) refl
  where
    by_test : (b : Bool) → (proc.0 == p.0) ≡ b → length (cond (proc.0 == p.0) (desks_made joins made desk) desk).reports ≡ cond ((proc.0 == p.0) && (not j && is_reported made.what)) (n + 1) n
    by_test true here = rw (here, its here) (made_reports joins made desk n is)
    by_test false other = rw other is
reports_more s p joins actor (rows.Delivered proc) desk j holds n its hand is =
    elim (proc.0 == p.0) as (λ b. length (cond b (desk_delivered desk) desk).reports ≡ cond b (n - 1) n) [
      | true ↦ omega (arith, length-drop 1 desk.reports, is)
      | false ↦ is
    ]
reports_more s p joins actor (rows.Dropped req cause) desk j holds n its hand is = is
reports_more s p joins actor (rows.Killed proc death) desk j holds n its hand is =
    elim (proc.0 == p.0) as (λ b. length (cond b (desk_killed death desk) desk).reports ≡ cond b (n + 1) n) [
      | true ↦ omega (arith, length-append desk.reports (reports.Died death ∷ []), is)
      | false ↦ is
    ]
reports_more s p joins actor (rows.Started req goal) desk j holds n its hand is = is
reports_more s p joins actor (rows.Applied req change) desk j holds n its hand is = is
reports_more s p joins actor (rows.Prompted req doc) desk j holds n its hand is = is
reports_more s p joins actor (rows.Answered req stay) desk j holds n its hand is = is
reports_more s p joins actor (rows.Evicted state) desk j holds n its hand is = is

-- ---- input

abbrev pub left_at : ProcId → List LogRow → ℕ → List Poke
left_at p log head = left_from p (take head log) (drop head log)

-- where the pokes that are left begin after a row
pub record HeadAfter (p : ProcId) (joins : Bool) (row : LogRow) (log : List LogRow) (head next : ℕ) : Type 0 where
  pub opened : opens row.row ≡ true → next ≡ length log
  pub served : opens row.row ≡ false → serves p joins row.actor row.row ≡ true → drop 1 (left_at p log head) ≡ left_at p log next
  pub stays : opens row.row ≡ false → serves p joins row.actor row.row ≡ false → next ≡ head

left_longer : (p : ProcId) (done : List LogRow) (row : LogRow) (head : ℕ) → head ≤ length done → is_drop row.row ≡ false → left_at p (done ++ row ∷ []) head ≡ left_at p done head ++ listed (poked_by p done row.row)
left_longer p done row head within other =
    rw (take-append-le head done (row ∷ []) within, drop-append-le head done (row ∷ []) within)
    (left_more p (take head done) (drop head done) row other ∙ ap (λ (l : List LogRow). left_at p done head ++ listed (poked_by p l row.row)) (take-append-drop head done))

left_shorter : (p : ProcId) (done : List LogRow) (row : LogRow) (head : ℕ) (req : ReqId) (cause : Cause) → head ≤ length done → row.row ≡ rows.Dropped req cause → left_at p (done ++ row ∷ []) head ≡ without req (left_at p done head)
left_shorter p done row head req cause within is =
    rw (take-append-le head done (row ∷ []) within, drop-append-le head done (row ∷ []) within) (left_dropped p (take head done) (drop head done) row req cause is)

-- a row that serves nothing and drops nothing
stays_left : (p : ProcId) (done : List LogRow) (row : LogRow) (j : Bool) (head next : ℕ) (input new : List Poke) → head ≤ length done → input ≡ left_at p done head → HeadAfter p j row (done ++ row ∷ []) head next → is_drop row.row ≡ false → opens row.row ≡ false → serves p j row.actor row.row ≡ false → new ≡ input ++ listed (poked_by p done row.row) → new ≡ left_at p (done ++ row ∷ []) next
stays_left p done row j head next input new within is after_ no_drop closed idle new_is =
    new_is ∙ ap (λ (l : List Poke). l ++ listed (poked_by p done row.row)) is ∙ sym (left_longer p done row head within no_drop) ∙ ap (λ (h : ℕ). left_at p (done ++ row ∷ []) h) (sym (after_.stays closed idle))

-- a row that serves the first poke
serves_left : (p : ProcId) (done : List LogRow) (row : LogRow) (j : Bool) (head next : ℕ) (input new : List Poke) → head ≤ length done → input ≡ left_at p done head → HeadAfter p j row (done ++ row ∷ []) head next → is_drop row.row ≡ false → opens row.row ≡ false → serves p j row.actor row.row ≡ true → listed (poked_by p done row.row) ≡ [] → new ≡ drop 1 input → new ≡ left_at p (done ++ row ∷ []) next
serves_left p done row j head next input new within is after_ no_drop closed serving no_poke new_is =
    let same : left_at p (done ++ row ∷ []) head ≡ input = left_longer p done row head within no_drop ∙ ap (λ (l : List Poke). left_at p done head ++ l) no_poke ∙ append-nil (left_at p done head) ∙ sym is in
    new_is ∙ ap (λ (l : List Poke). drop 1 l) (sym same) ∙ after_.served closed serving

input_stays : (p q : ProcId) (f : Desk → Desk) (desk : Desk) → (f desk).input ≡ desk.input → (mine p q f desk).input ≡ desk.input ++ []
input_stays p q f desk stays = elim (q.0 == p.0) as (λ b. (cond b (f desk) desk).input ≡ desk.input ++ []) [
  | true ↦ stays ∙ sym (append-nil desk.input)
  | false ↦ sym (append-nil desk.input)
]

poke_input : (s : Seen) (p : ProcId) (done : List LogRow) (req : ReqId) (doc : DocId) (action : Action) (desk : Desk) → own s.documents doc ≡ owner_of done doc → (option_map_or (λ d. with_poke p req doc action d desk) (document_of s doc) desk).input ≡ desk.input ++ listed (its_poke p req doc action (owner_of done doc))
poke_input s p done req doc action desk its = rw (← its) (by_found (document_of s doc) refl)
  where
    by_found : (found : Option Document) → document_of s doc ≡ found → (option_map_or (λ d. with_poke p req doc action d desk) (document_of s doc) desk).input ≡ desk.input ++ listed (its_poke p req doc action (own s.documents doc))
    by_found None at = rw at (sym (append-nil desk.input))
    by_found (Some d) at = rw at (
        elim (d.proc.0 == p.0) as (λ b. (cond b (desk_poked req doc action desk) desk).input ≡ desk.input ++ listed (cond b (Some (record { req = req; doc = doc; action = action })) None)) [
          | true ↦ refl
          | false ↦ sym (append-nil desk.input)
        ]
        )

accepted_input : (s : Seen) (p : ProcId) (done : List LogRow) (joins : Bool) (actor : Actor) (req : ReqId) (doc : Option DocId) (what : Request) (desk : Desk) → ((d : DocId) → own s.documents d ≡ owner_of done d) → (desk_after s p joins actor (rows.Accepted req doc what) desk).input ≡ desk.input ++ listed (poke_of p done req doc what)
accepted_input s p done joins actor req None what desk its = sym (append-nil desk.input)
accepted_input s p done joins actor req (Some doc) (requests.Poke nav action) desk its = poke_input s p done req doc action desk (its doc)
accepted_input s p done joins actor req (Some doc) (requests.Load nav mode address) desk its = sym (append-nil desk.input)
accepted_input s p done joins actor req (Some doc) (requests.Go delta) desk its = sym (append-nil desk.input)
accepted_input s p done joins actor req (Some doc) (requests.Reload nav) desk its = sym (append-nil desk.input)

made_input : (joins : Bool) (made : Made) (desk : Desk) → (desks_made joins made desk).input ≡ cond joins desk.input (drop 1 desk.input)
made_input true made desk = refl
made_input false made desk = refl

-- the input after a row
input_more : (s : Seen) (p : ProcId) (done : List LogRow) (event : ℕ) (actor : Actor) (kind : RowKind) (desk : Desk) (joins j : Bool) (head next : ℕ) → ((d : DocId) → own s.documents d ≡ owner_of done d) → (is_made_by p kind ≡ true → j ≡ joins) → head ≤ length done → desk.input ≡ left_at p done head → HeadAfter p j (record { event = event; actor = actor; row = kind }) (done ++ record { event = event; actor = actor; row = kind } ∷ []) head next → (desk_after s p joins actor kind desk).input ≡ left_at p (done ++ record { event = event; actor = actor; row = kind } ∷ []) next
input_more s p done event actor (rows.Opened entry state doc proc slot address) desk joins j head next its same within is after_ =
    let row : LogRow = record { event = event; actor = actor; row = rows.Opened entry state doc proc slot address } in
    sym (left_none p (done ++ row ∷ []) (length (done ++ row ∷ [])) (omega arith)) ∙ ap (λ (h : ℕ). left_at p (done ++ row ∷ []) h) (sym (after_.opened refl))
input_more s p done event actor (rows.Accepted req doc what) desk joins j head next its same within is after_ =
    stays_left p done (record { event = event; actor = actor; row = rows.Accepted req doc what }) j head next desk.input _ within is after_ refl refl refl (accepted_input s p done joins actor req doc what desk its)
input_more s p done event (actors.Proc q) (rows.Refused req reason) desk joins j head next its same within is after_ = by_test (q.0 == p.0) refl
  where
    by_test : (b : Bool) → (q.0 == p.0) ≡ b → (mine p q desk_served desk).input ≡ left_at p (done ++ record { event = event; actor = actors.Proc q; row = rows.Refused req reason } ∷ []) next
    by_test true here = serves_left p done (record { event = event; actor = actors.Proc q; row = rows.Refused req reason }) j head next desk.input _ within is after_ refl refl here refl (rw here refl)
    by_test false here = stays_left p done (record { event = event; actor = actors.Proc q; row = rows.Refused req reason }) j head next desk.input _ within is after_ refl refl here (rw here (sym (append-nil desk.input)))
input_more s p done event actors.Start (rows.Refused req reason) desk joins j head next its same within is after_ =
    stays_left p done (record { event = event; actor = actors.Start; row = rows.Refused req reason }) j head next desk.input _ within is after_ refl refl refl (sym (append-nil desk.input))
input_more s p done event actors.Ui (rows.Refused req reason) desk joins j head next its same within is after_ =
    stays_left p done (record { event = event; actor = actors.Ui; row = rows.Refused req reason }) j head next desk.input _ within is after_ refl refl refl (sym (append-nil desk.input))
input_more s p done event actors.Coord (rows.Refused req reason) desk joins j head next its same within is after_ =
    stays_left p done (record { event = event; actor = actors.Coord; row = rows.Refused req reason }) j head next desk.input _ within is after_ refl refl refl (sym (append-nil desk.input))
input_more s p done event actor (rows.Made proc made) desk joins j head next its same within is after_ = by_tests (proc.0 == p.0) joins refl refl
  where
    by_tests : (b f : Bool) → (proc.0 == p.0) ≡ b → joins ≡ f → (mine p proc (desks_made joins made) desk).input ≡ left_at p (done ++ record { event = event; actor = actor; row = rows.Made proc made } ∷ []) next
    by_tests false f here join =
        stays_left p done (record { event = event; actor = actor; row = rows.Made proc made }) j head next desk.input _ within is after_ refl refl (rw here refl) (rw here (sym (append-nil desk.input)))
    by_tests true true here join =
        let at : j ≡ true = same here ∙ join in
        stays_left p done (record { event = event; actor = actor; row = rows.Made proc made }) j head next desk.input _ within is after_ refl refl (rw (here, at) refl) (rw (here, join) (sym (append-nil desk.input)))
    by_tests true false here join =
        let at : j ≡ false = same here ∙ join in
        serves_left p done (record { event = event; actor = actor; row = rows.Made proc made }) j head next desk.input _ within is after_ refl refl (rw (here, at) refl) refl (rw (here, join) refl)
input_more s p done event actor (rows.Dropped req cause) desk joins j head next its same within is after_ =
    let row : LogRow = record { event = event; actor = actor; row = rows.Dropped req cause } in
    ap (λ (l : List Poke). without req l) is ∙ sym (left_shorter p done row head req cause within refl) ∙ ap (λ (h : ℕ). left_at p (done ++ row ∷ []) h) (sym (after_.stays refl refl))
input_more s p done event actor (rows.Sent job) desk joins j head next its same within is after_ =
    stays_left p done (record { event = event; actor = actor; row = rows.Sent job }) j head next desk.input _ within is after_ refl refl refl (input_stays p job.proc (desk_sent job) desk refl)
input_more s p done event actor (rows.Taken proc job live dirty) desk joins j head next its same within is after_ =
    stays_left p done (record { event = event; actor = actor; row = rows.Taken proc job live dirty }) j head next desk.input _ within is after_ refl refl refl (input_stays p proc (desk_taken live dirty) desk refl)
input_more s p done event actor (rows.Finished proc job outcome) desk joins j head next its same within is after_ =
    stays_left p done (record { event = event; actor = actor; row = rows.Finished proc job outcome }) j head next desk.input _ within is after_ refl refl refl (input_stays p proc (desk_finished outcome) desk refl)
input_more s p done event actor (rows.Delivered proc) desk joins j head next its same within is after_ =
    stays_left p done (record { event = event; actor = actor; row = rows.Delivered proc }) j head next desk.input _ within is after_ refl refl refl (input_stays p proc desk_delivered desk refl)
input_more s p done event actor (rows.Killed proc death) desk joins j head next its same within is after_ =
    stays_left p done (record { event = event; actor = actor; row = rows.Killed proc death }) j head next desk.input _ within is after_ refl refl refl (input_stays p proc (desk_killed death) desk refl)
input_more s p done event actor (rows.Started req goal) desk joins j head next its same within is after_ =
    stays_left p done (record { event = event; actor = actor; row = rows.Started req goal }) j head next desk.input _ within is after_ refl refl refl (sym (append-nil desk.input))
input_more s p done event actor (rows.Applied req change) desk joins j head next its same within is after_ =
    stays_left p done (record { event = event; actor = actor; row = rows.Applied req change }) j head next desk.input _ within is after_ refl refl refl (sym (append-nil desk.input))
input_more s p done event actor (rows.Prompted req doc) desk joins j head next its same within is after_ =
    stays_left p done (record { event = event; actor = actor; row = rows.Prompted req doc }) j head next desk.input _ within is after_ refl refl refl (sym (append-nil desk.input))
input_more s p done event actor (rows.Answered req stay) desk joins j head next its same within is after_ =
    stays_left p done (record { event = event; actor = actor; row = rows.Answered req stay }) j head next desk.input _ within is after_ refl refl refl (sym (append-nil desk.input))
input_more s p done event actor (rows.Evicted state) desk joins j head next its same within is after_ =
    stays_left p done (record { event = event; actor = actor; row = rows.Evicted state }) j head next desk.input _ within is after_ refl refl refl (sym (append-nil desk.input))

-- ---- one row more

pub drops_more : (done : List LogRow) (row : LogRow) (last : ℕ) → last ≤ length done → have_drop (drop last done) ≡ false → is_drop row.row ≡ false → have_drop (drop last (done ++ row ∷ [])) ≡ false
drops_more done row last within none other =
    rw (drop-append-le last done (row ∷ []) within, list_any-append (λ (r : LogRow). is_drop r.row) (drop last done) (row ∷ []), none, other) refl

pub drops_none : (log : List LogRow) (last : ℕ) → length log ≤ last → have_drop (drop last log) ≡ false
drops_none log last past = let none : drop last log ≡ [] = grind (arith, common_steps) in rw none refl

pub last_drop_more : (log : List LogRow) (k : ℕ) (row : LogRow) (last next : ℕ) → k < length log → row ≡ get_or log k row → last ≤ k → have_drop (drop last (take k log)) ≡ false → next ≡ cond (is_drop row.row) (k + 1) last → (have_drop (drop next (take (k + 1) log)) ≡ false) × (next ≤ k + 1)
last_drop_more log k row last next within at few none is = by_kind (is_drop row.row) refl
  where
    by_kind : (b : Bool) → is_drop row.row ≡ b → (have_drop (drop next (take (k + 1) log)) ≡ false) × (next ≤ k + 1)
    by_kind true drop_ =
        let here : next ≡ k + 1 = is ∙ rw drop_ refl in
        let long : length (take (k + 1) log) ≤ next = grind (arith, common_steps) in
        (drops_none (take (k + 1) log) next long, omega (arith, here))
    by_kind false other =
        let here : next ≡ last = is ∙ rw other refl in
        let long : length (take k log) ≡ k = grind (arith, common_steps) in
        (rw (here, take_more log k row within at) (drops_more (take k log) row last (omega (arith, long, few)) none other), omega (arith, here, few))

-- what is kept of a process after the first rows
pub record IsRead (p : ProcId) (log : List LogRow) (k : ℕ) (o : OrderReader) (held : Bool) (n head last : ℕ) : Type 0 where
  pub orders : IsOrders (desk_of (seen_of (take k log)) p) o (sent_to p (take k log))
  pub before : is_some (desk_of (seen_of (take (k - 1) log)) p).in_hand ≡ held
  pub reports : length (desk_of (seen_of (take k log)) p).reports ≡ n
  pub input : (desk_of (seen_of (take k log)) p).input ≡ left_at p (take k log) head
  pub drops : have_drop (drop last (take k log)) ≡ false
  pub within : o.mail.gone ≤ o.mail.sent
  pub few_sent : o.mail.sent ≤ k
  pub few_reports : n ≤ k
  pub head_within : head ≤ k
  pub last_within : last ≤ k

pub read_none : (p : ProcId) (log : List LogRow) → IsRead p log 0 no_order false 0 0 0
unfolding seen_of left_from
read_none p log =
    record {
      orders = no_orders p;
      before = refl;
      reports = refl;
      input = refl;
      drops = refl;
      within = omega arith;
      few_sent = omega arith;
      few_reports = omega arith;
      head_within = omega arith;
      last_within = omega arith;
    }

-- the desk after one more row
pub desk_more : (p : ProcId) (done : List LogRow) (row : LogRow) → desk_of (seen_of (done ++ row ∷ [])) p ≡ desk_after (seen_of done) p (follows_finished (seen_of done) row) row.actor row.row (desk_of (seen_of done) p)
desk_more p done row =
    ap (λ (s : Seen). desk_of s p) (seen_of_append done (row ∷ [])) ∙ desk_of-after (seen_of done) p row.event row.actor row.row

joins_is : (p : ProcId) (s : Seen) (row : LogRow) (j : Bool) → j ≡ joins_order p s row → is_made_by p row.row ≡ true → j ≡ follows_finished s row
joins_is p s row j is made = is ∙ rw made refl

pub read_more : (p : ProcId) (log : List LogRow) (k : ℕ) (row : LogRow) (o : OrderReader) (held j : Bool) (n head last next_head next_last : ℕ) → k < length log → row ≡ get_or log k row → IsRead p log k o held n head last → j ≡ joins_order p (seen_of (take k log)) row → HeadAfter p j row (take (k + 1) log) head next_head → have_drop (drop next_last (take (k + 1) log)) ≡ false → (order_after p o row.row).mail.gone ≤ (order_after p o row.row).mail.sent → (order_after p o row.row).mail.sent ≤ k + 1 → reports_after p j o.holds n row.row ≤ k + 1 → next_head ≤ k + 1 → next_last ≤ k + 1 → IsRead p log (k + 1) (order_after p o row.row) o.holds (reports_after p j o.holds n row.row) next_head next_last
read_more p log k row o held j n head last next_head next_last within at read join after_ drops_ gone_ sent_ reports_ head_ last_ =
    let done : List LogRow = take k log in
    let longer : take (k + 1) log ≡ done ++ row ∷ [] = take_more log k row within at in
    let length_ : length done ≡ k = grind (arith, common_steps) in
    let less : k + 1 - 1 ≡ k = omega arith in
    let same = joins_is p (seen_of done) row j join in
    let desk_is = desk_more p done row in
    record {
      orders = rw longer (ordered p done row o read.orders);
      before = rw less (sym read.orders.holds);
      reports = rw (longer, desk_is) (reports_more (seen_of done) p (follows_finished (seen_of done) row) row.actor row.row (desk_of (seen_of done) p) j o.holds n same read.orders.holds read.reports);
      input = rw (longer, desk_is) (input_more (seen_of done) p done row.event row.actor row.row (desk_of (seen_of done) p) (follows_finished (seen_of done) row) j head next_head (own_is done) same (omega (arith, length_, read.head_within)) read.input (rw longer at after_));
      drops = drops_;
      within = gone_;
      few_sent = sent_;
      few_reports = reports_;
      head_within = head_;
      last_within = last_;
    }
  where
    ordered : (p : ProcId) (done : List LogRow) (row : LogRow) (o : OrderReader) → IsOrders (desk_of (seen_of done) p) o (sent_to p done) → IsOrders (desk_of (seen_of (done ++ row ∷ [])) p) (order_after p o row.row) (sent_to p (done ++ row ∷ []))
    ordered p done row o are =
        rw (seen_of_append done (row ∷ []), filter_map-append (λ (r : LogRow). sent_by p r.row) done (row ∷ [])) (orders_more (seen_of done) p row o (sent_to p done) are)

-- ---- what joins the report of an order

same_event : (n m : ℕ) → ((n + 1) == (m + 1)) ≡ (n == m)
same_event n m = by_test (n == m) refl
  where
    by_test : (b : Bool) → (n == m) ≡ b → ((n + 1) == (m + 1)) ≡ (n == m)
    by_test true e = rw e (grind (arith, nat_tests))
    by_test false e = rw e (grind (arith, nat_tests))

some_map : {A B : Type 0} (f : A → B) (o : Option A) → is_some (option_map f o) ≡ is_some o
some_map f None = refl
some_map f (Some a) = refl

finished_is : (s : Seen) (kind : RowKind) → is_some (finished_by s kind) ≡ finishes_of s (finisher kind)
finished_is s (rows.Finished proc job outcome) = some_map _ (desk_of s proc).in_hand
finished_is s (rows.Opened entry state doc proc slot address) = refl
finished_is s (rows.Accepted req doc what) = refl
finished_is s (rows.Started req goal) = refl
finished_is s (rows.Applied req change) = refl
finished_is s (rows.Refused req reason) = refl
finished_is s (rows.Dropped req cause) = refl
finished_is s (rows.Prompted req doc) = refl
finished_is s (rows.Answered req stay) = refl
finished_is s (rows.Sent job) = refl
finished_is s (rows.Taken proc job live dirty) = refl
finished_is s (rows.Made proc made) = refl
finished_is s (rows.Delivered proc) = refl
finished_is s (rows.Killed proc death) = refl
finished_is s (rows.Evicted state) = refl

follows_is : (done : List LogRow) (prev row : LogRow) → follows_finished (seen_of (done ++ prev ∷ [])) row ≡ ((prev.event == row.event) && finishes_of (seen_of done) (finisher prev.row))
follows_is done prev row =
    ap (λ (s : Seen). follows_finished s row) (seen_of_append done (prev ∷ [])) ∙ rw (same_event prev.event row.event, finished_is (seen_of done) prev.row) refl

follows_none : (row : LogRow) → follows_finished (seen_of []) row ≡ false
unfolding seen_of
follows_none row = let first : (0 == (row.event + 1)) ≡ false = grind (arith, nat_tests) in rw first refl

and_false : (b : Bool) → (b && false) ≡ false
and_false true = refl
and_false false = refl

-- nothing joins at the first row
pub joins_first : (p : ProcId) (log : List LogRow) (k : ℕ) (row : LogRow) → k < length log → row ≡ get_or log k row → k ≡ 0 → IfSome (slice_get log k) (λ (r : LogRow). false ≡ joins_order p (seen_of (take k log)) r)
joins_first p log k row within at first =
    of_item log k (λ (r : LogRow). false ≡ joins_order p (seen_of (take k log)) r) row within at (rw (first, follows_none row) (sym (and_false (is_made_by p row.row))))

-- what isn't made joins nothing
pub joins_unmade : (p : ProcId) (log : List LogRow) (k : ℕ) (row : LogRow) (b : Bool) → k < length log → row ≡ get_or log k row → b ≡ is_made_by p row.row → b ≡ false → IfSome (slice_get log k) (λ (r : LogRow). false ≡ joins_order p (seen_of (take k log)) r)
joins_unmade p log k row b within at made none =
    of_item log k (λ (r : LogRow). false ≡ joins_order p (seen_of (take k log)) r) row within at (
    let here : is_made_by p row.row ≡ false = sym made ∙ none in rw here refl
    )

-- what is made joins by the row before it
pub joins_made : (p : ProcId) (log : List LogRow) (k : ℕ) (row prev : LogRow) (b c : Bool) → k < length log → 0 < k → row ≡ get_or log k row → prev ≡ get_or log (k - 1) prev → b ≡ is_made_by p row.row → b ≡ true → c ≡ ((prev.event == row.event) && finishes_of (seen_of (take (k - 1) log)) (finisher prev.row)) → IfSome (slice_get log k) (λ (r : LogRow). c ≡ joins_order p (seen_of (take k log)) r)
joins_made p log k row prev b c within some at before made is test =
    of_item log k (λ (r : LogRow). c ≡ joins_order p (seen_of (take k log)) r) row within at (
    let here : is_made_by p row.row ≡ true = sym made ∙ is in
    let up : k - 1 + 1 ≡ k = omega (arith, some) in
    let cut : take k log ≡ take (k - 1) log ++ prev ∷ [] = ap (λ (n : ℕ). take n log) (sym up) ∙ take_more log (k - 1) prev (omega (arith, within, some)) before in
    rw (here, cut) (test ∙ sym (follows_is (take (k - 1) log) prev row))
    )
