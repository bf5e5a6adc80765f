-- What the orders tell that wait in the processes, or are in hand: each row leaves them, but for one that sends an order.
use Rattle.std.proofs.Common.{◌≡◌, ℕ, zero, suc, ◌≤◌, Bool, true, false, cond, ◌==◌, List, [], ◌∷◌, ◌++◌, map, Option, Some, None, refl, subst, arith}
use Rattle.std.specs.Prelude.{slice_get, drop, option_map}
use Rattle.tab_ids.specs.declared.DocId.{DocId}
use Rattle.tab_ids.specs.declared.ProcId.{ProcId}
use Rattle.tab_ids.specs.declared.ReqId.{ReqId}
use Rattle.log_model.specs.declared.action.Action.{Action}
use Rattle.log_model.specs.declared.job.Job.{Job}
use Rattle.log_model.specs.declared.job.Order.{Order}
use Rattle.log_model.specs.declared.made.Made.{Made}
use Rattle.log_model.specs.declared.request.Poke.{Poke}
use Rattle.log_model.specs.declared.request.Request.{Request}
use Rattle.log_model.specs.declared.request.Request.TheVariants as requests
use Rattle.log_model.specs.declared.row_kind.Actor.{Actor}
use Rattle.log_model.specs.declared.row_kind.Actor.TheVariants as actors
use Rattle.log_model.specs.declared.row_kind.RowKind.{RowKind}
use Rattle.log_model.specs.declared.row_kind.RowKind.TheVariants as rows
use Rattle.log_model.specs.Seen.{Seen, Desk, Document, document_of, empty_desk, desk_in}
use Rattle.log_model.specs.After.{on_desk, poked, desks_accepted, desks_refused, desk_taken, desk_finished, desks_made, desk_delivered, desk_killed, desks_after, desk_dropped, follows_finished}
use Rattle.log_counts.specs.Counts.{told_index}

-- ---- each item of a list

-- the fact holds of each item
abbrev pub Each : {A : Type 0} → (A → Type 0) → List A → Type 0
Each P [] = Unit {0}
Each P (x ∷ xs) = P x × Each P xs

-- it turns into another fact, of the items or of what they are changed to
each_map : {A : Type 0} (P Q : A → Type 0) (f : A → A) → ((x : A) → P x → Q (f x)) → (xs : List A) → Each P xs → Each Q (map f xs)
each_map P Q f turns [] each = tt
each_map P Q f turns (x ∷ xs) each = (turns x each.0, each_map P Q f turns xs each.1)

each_then : {A : Type 0} (P Q : A → Type 0) → ((x : A) → P x → Q x) → (xs : List A) → Each P xs → Each Q xs
each_then P Q turns [] each = tt
each_then P Q turns (x ∷ xs) each = (turns x each.0, each_then P Q turns xs each.1)

-- it holds with one item more, and with the first one gone
each_more : {A : Type 0} (P : A → Type 0) (xs : List A) (x : A) → Each P xs → P x → Each P (xs ++ x ∷ [])
each_more P [] x each last = (last, tt)
each_more P (first ∷ xs) x each last = (each.0, each_more P xs x each.1 last)

each_less : {A : Type 0} (P : A → Type 0) (xs : List A) → Each P xs → Each P (drop 1 xs)
each_less P [] each = tt
each_less P (x ∷ xs) each = each.1

-- what is found in the list
pub each_there : {A : Type 0} (P : A → Type 0) (xs : List A) (i : ℕ) (x : A) → Each P xs → slice_get xs i ≡ Some x → P x
each_there P [] i x each at = cc
each_there P (first ∷ xs) zero x each at = let same : first ≡ x = cc in subst P same each.0
each_there P (first ∷ xs) (suc i) x each at = each_there P xs i x each.1 at

-- ---- what is told in a desk

-- the order tells no index beyond the number
abbrev pub TellsWithin : ℕ → Job → Type 0
TellsWithin n job = told_index job.task ≤ n

-- nor does the order in hand, where there is one
abbrev pub HandWithin : ℕ → Option Order → Type 0
HandWithin n None = Unit {0}
HandWithin n (Some order) = TellsWithin n order.job

-- no order of the mail, nor the one in hand, tells an index beyond the number
pub record DeskWithin (n : ℕ) (desk : Desk) : Type 0 where
  pub mail : Each (TellsWithin n) desk.mail
  pub hand : HandWithin n desk.in_hand

-- the order that is in hand
pub hand_there : (n : ℕ) (hand : Option Order) (order : Order) → HandWithin n hand → hand ≡ Some order → told_index order.job.task ≤ n
hand_there n None order is at = cc
hand_there n (Some first) order is at = let same : first ≡ order = cc in subst (λ (o : Order). TellsWithin n o.job) same is

-- nothing waits in a desk that no row has named
empty_within : (n : ℕ) (proc : ProcId) → DeskWithin n (empty_desk proc)
empty_within n proc = record { mail = tt; hand = tt }

-- up to a greater number
hand_beyond : (n m : ℕ) (hand : Option Order) → n ≤ m → HandWithin n hand → HandWithin m hand
hand_beyond n m None more is = tt
hand_beyond n m (Some order) more is = omega (arith, more, is)

pub each_beyond : (n m : ℕ) (desks : List Desk) → n ≤ m → Each (DeskWithin n) desks → Each (DeskWithin m) desks
each_beyond n m desks more each =
    each_then (DeskWithin n) (DeskWithin m) (λ desk is. record { mail = each_then (TellsWithin n) (TellsWithin m) (λ job told. omega (arith, more, told)) desk.mail is.mail; hand = hand_beyond n m desk.in_hand more is.hand }) desks each

-- the desk of a process
pub desk_there : (n : ℕ) (desks : List Desk) (proc : ProcId) → Each (DeskWithin n) desks → DeskWithin n (desk_in desks proc)
desk_there n [] proc each = empty_within n proc
desk_there n (desk ∷ desks) proc each = by_test (desk.proc.0 == proc.0) (desk_there n desks proc each.1)
  where
    by_test : (b : Bool) → DeskWithin n (desk_in desks proc) → DeskWithin n (cond b desk (desk_in desks proc))
    by_test true more = each.0
    by_test false more = more

-- one desk is changed
on_each : (n : ℕ) (proc : ProcId) (f : Desk → Desk) → ((desk : Desk) → DeskWithin n desk → DeskWithin n (f desk)) → (desks : List Desk) → Each (DeskWithin n) desks → Each (DeskWithin n) (on_desk proc f desks)
on_each n proc f keeps [] each = (keeps (empty_desk proc) (empty_within n proc), tt)
on_each n proc f keeps (desk ∷ desks) each =
    by_test (desk.proc.0 == proc.0) (on_each n proc f keeps desks each.1)
  where
    by_test : (b : Bool) → Each (DeskWithin n) (on_desk proc f desks) → Each (DeskWithin n) (cond b (f desk ∷ desks) (desk ∷ on_desk proc f desks))
    by_test true more = (keeps desk each.0, each.1)
    by_test false more = (each.0, more)

-- its input is changed
abbrev pub with_input : (List Poke → List Poke) → Desk → Desk
with_input f desk = record desk { input = f desk.input }

input_within : (n : ℕ) (proc : ProcId) (f : List Poke → List Poke) (desks : List Desk) → Each (DeskWithin n) desks → Each (DeskWithin n) (on_desk proc (with_input f) desks)
input_within n proc f desks each =
    on_each n proc (with_input f) (λ desk is. record { mail = is.mail; hand = is.hand }) desks each

-- ---- each row

poked_within : (n : ℕ) (s : Seen) (req : ReqId) (doc : DocId) (action : Action) → Each (DeskWithin n) s.desks → Each (DeskWithin n) (poked s req doc action)
poked_within n s req doc action each = by_document (document_of s doc) refl
  where
    by_document : (o : Option Document) → document_of s doc ≡ o → Each (DeskWithin n) (poked s req doc action)
    by_document None e = rw e each
    by_document (Some d) e = rw e (input_within n d.proc (λ input. input ++ record { req = req; doc = doc; action = action } ∷ []) s.desks each)

accepted_within : (n : ℕ) (s : Seen) (req : ReqId) (doc : Option DocId) (what : Request) → Each (DeskWithin n) s.desks → Each (DeskWithin n) (desks_accepted s req doc what)
accepted_within n s req None what each = each
accepted_within n s req (Some doc) (requests.Poke nav action) each = poked_within n s req doc action each
accepted_within n s req (Some doc) (requests.Load nav mode address) each = each
accepted_within n s req (Some doc) (requests.Go delta) each = each
accepted_within n s req (Some doc) (requests.Reload nav) each = each

refused_within : (n : ℕ) (desks : List Desk) (actor : Actor) → Each (DeskWithin n) desks → Each (DeskWithin n) (desks_refused desks actor)
refused_within n desks (actors.Proc proc) each = input_within n proc (λ input. drop 1 input) desks each
refused_within n desks actors.Start each = each
refused_within n desks actors.Ui each = each
refused_within n desks actors.Coord each = each

-- the order that is taken was the first of the mail
taken_hand : (n : ℕ) (live dirty : Bool) (mail : List Job) → Each (TellsWithin n) mail → HandWithin n (cond live (option_map (λ job. record { job = job; dirty = dirty }) (slice_get mail 0)) None)
taken_hand n false dirty mail each = tt
taken_hand n true dirty [] each = tt
taken_hand n true dirty (job ∷ mail) each = each.0

taken_within : (n : ℕ) (live dirty : Bool) (desk : Desk) → DeskWithin n desk → DeskWithin n (desk_taken live dirty desk)
taken_within n live dirty desk is =
    record {
      mail = each_less (TellsWithin n) desk.mail is.mail;
      hand = taken_hand n live dirty desk.mail is.mail;
    }

made_within : (n : ℕ) (joins : Bool) (made : Made) (desk : Desk) → DeskWithin n desk → DeskWithin n (desks_made joins made desk)
made_within n true made desk is = record { mail = is.mail; hand = is.hand }
made_within n false made desk is = record { mail = is.mail; hand = is.hand }

-- an order that a row sends tells no index beyond the number
abbrev pub SentWithin : ℕ → RowKind → Type 0
SentWithin n (rows.Sent job) = TellsWithin n job
SentWithin n _ = Unit {0}

pub desks_within : (n : ℕ) (s : Seen) (event : ℕ) (actor : Actor) (kind : RowKind) → SentWithin n kind → Each (DeskWithin n) s.desks → Each (DeskWithin n) (desks_after s (record { event = event; actor = actor; row = kind }))
desks_within n s event actor (rows.Opened entry state doc proc slot address) sent each = (empty_within n proc, tt)
desks_within n s event actor (rows.Accepted req doc what) sent each = accepted_within n s req doc what each
desks_within n s event actor (rows.Started req goal) sent each = each
desks_within n s event actor (rows.Applied req change) sent each = each
desks_within n s event actor (rows.Refused req reason) sent each = refused_within n s.desks actor each
desks_within n s event actor (rows.Dropped req cause) sent each =
    each_map (DeskWithin n) (DeskWithin n) (desk_dropped req) (λ desk is. record { mail = is.mail; hand = is.hand }) s.desks each
desks_within n s event actor (rows.Prompted req doc) sent each = each
desks_within n s event actor (rows.Answered req stay) sent each = each
desks_within n s event actor (rows.Sent job) sent each =
    on_each n job.proc (λ desk. record desk { mail = desk.mail ++ job ∷ [] }) (λ desk is. record { mail = each_more (TellsWithin n) desk.mail job is.mail sent; hand = is.hand }) s.desks each
desks_within n s event actor (rows.Taken proc job live dirty) sent each =
    on_each n proc (desk_taken live dirty) (taken_within n live dirty) s.desks each
desks_within n s event actor (rows.Finished proc job outcome) sent each =
    on_each n proc (desk_finished outcome) (λ desk is. record { mail = is.mail; hand = tt }) s.desks each
desks_within n s event actor (rows.Made proc made) sent each =
    let joins : Bool = follows_finished s (record { event = event; actor = actor; row = rows.Made proc made }) in
    on_each n proc (desks_made joins made) (made_within n joins made) s.desks each
desks_within n s event actor (rows.Delivered proc) sent each =
    on_each n proc desk_delivered (λ desk is. record { mail = is.mail; hand = is.hand }) s.desks each
desks_within n s event actor (rows.Killed proc death) sent each =
    on_each n proc (desk_killed death) (λ desk is. record { mail = is.mail; hand = tt }) s.desks each
desks_within n s event actor (rows.Evicted state) sent each = each
