-- What each row of a log does to the desk of one process.
use Rattle.std.proofs.Common.{◌≡◌, ℕ, Bool, true, false, cond, ◌==◌, List, [], ◌∷◌, ◌++◌, drop, map, Option, Some, None, refl, ap, ◌∙◌, arith}
use Rattle.std.specs.Option.{option_map_or}
use Rattle.std.proofs.lemmas.Bool.Decides.{nat_tests}
use Rattle.tab_ids.specs.declared.ProcId.{ProcId}
use Rattle.tab_ids.specs.declared.ReqId.{ReqId}
use Rattle.tab_ids.specs.declared.DocId.{DocId}
use Rattle.log_model.specs.declared.action.Action.{Action}
use Rattle.log_model.specs.declared.job.Job.{Job}
use Rattle.log_model.specs.declared.made.Made.{Made}
use Rattle.log_model.specs.declared.request.Request.{Request}
use Rattle.log_model.specs.declared.request.Request.TheVariants as requests
use Rattle.log_model.specs.declared.row_kind.Actor.{Actor}
use Rattle.log_model.specs.declared.row_kind.Actor.TheVariants as actors
use Rattle.log_model.specs.declared.row_kind.RowKind.{RowKind}
use Rattle.log_model.specs.declared.row_kind.RowKind.TheVariants as rows
use Rattle.log_model.specs.Seen.{Seen, Desk, Document, empty_desk, desk_in, desk_of, document_of}
use Rattle.log_model.specs.After.{after, on_desk, poked, desks_accepted, desks_made, desk_taken, desk_finished, desk_delivered, desk_killed, desk_dropped, follows_finished}

-- a change of one process, seen from another or the same
abbrev pub mine : ProcId → ProcId → (Desk → Desk) → Desk → Desk
mine p q f desk = cond (q.0 == p.0) (f desk) desk

-- the changes that leave a desk to its process
abbrev pub StaysIts : (Desk → Desk) → Type 0
StaysIts f = (desk : Desk) → (f desk).proc ≡ desk.proc

-- one process's desk changes, and no other's
pub desk_in-on_desk : (p q : ProcId) (f : Desk → Desk) → StaysIts f → (desks : List Desk) → desk_in (on_desk q f desks) p ≡ mine p q f (desk_in desks p)
desk_in-on_desk p q f stays [] = by_test (q.0 == p.0) refl
  where
    by_test : (b : Bool) → (q.0 == p.0) ≡ b → cond ((f (empty_desk q)).proc.0 == p.0) (f (empty_desk q)) (empty_desk p) ≡ cond (q.0 == p.0) (f (empty_desk p)) (empty_desk p)
    by_test true same =
        let at : q.0 ≡ p.0 = grind (arith, nat_tests) in
        let test : ((f (empty_desk q)).proc.0 == p.0) ≡ true = ap (λ (x : ProcId). x.0 == p.0) (stays (empty_desk q)) ∙ same in
        rw (test, same) (ap (λ (n : ℕ). f (empty_desk (record { 0 = n }))) at)
    by_test false other =
        let test : ((f (empty_desk q)).proc.0 == p.0) ≡ false = ap (λ (x : ProcId). x.0 == p.0) (stays (empty_desk q)) ∙ other in
        rw (test, other) refl
desk_in-on_desk p q f stays (desk ∷ desks) =
    by_tests (desk.proc.0 == q.0) (desk.proc.0 == p.0) (q.0 == p.0) refl refl refl (ap (λ (x : ProcId). x.0 == p.0) (stays desk)) (desk_in-on_desk p q f stays desks)
  where
    by_tests : (a b c : Bool) → (desk.proc.0 == q.0) ≡ a → (desk.proc.0 == p.0) ≡ b → (q.0 == p.0) ≡ c → ((f desk).proc.0 == p.0) ≡ (desk.proc.0 == p.0) → desk_in (on_desk q f desks) p ≡ mine p q f (desk_in desks p) → desk_in (on_desk q f (desk ∷ desks)) p ≡ mine p q f (desk_in (desk ∷ desks) p)
    by_tests true true true a b c stays_ rest = rw (a, c, stays_, b) refl
    by_tests true false false a b c stays_ rest = rw (a, c, stays_, b) refl
    by_tests false true false a b c stays_ rest = rw (a, b, c) refl
    by_tests false false d a b c stays_ rest = rw (a, b) rest
    by_tests true true false a b c stays_ rest = absurd (grind (arith, nat_tests))
    by_tests true false true a b c stays_ rest = absurd (grind (arith, nat_tests))
    by_tests false true true a b c stays_ rest = absurd (grind (arith, nat_tests))

-- a change of every process
pub desk_in-dropped : (p : ProcId) (req : ReqId) (desks : List Desk) → desk_in (map (desk_dropped req) desks) p ≡ desk_dropped req (desk_in desks p)
desk_in-dropped p req [] = refl
desk_in-dropped p req (desk ∷ desks) =
    elim (desk.proc.0 == p.0) as (λ b. cond b (desk_dropped req desk) (desk_in (map (desk_dropped req) desks) p) ≡ desk_dropped req (cond b desk (desk_in desks p))) [
      | true ↦ refl
      | false ↦ desk_in-dropped p req desks
    ]

-- a poke comes, the first one leaves, an order comes
abbrev pub desk_poked : ReqId → DocId → Action → Desk → Desk
desk_poked req doc action desk = record desk { input = desk.input ++ record { req = req; doc = doc; action = action } ∷ [] }

abbrev pub desk_served : Desk → Desk
desk_served desk = record desk { input = drop 1 desk.input }

abbrev pub desk_sent : Job → Desk → Desk
desk_sent job desk = record desk { mail = desk.mail ++ job ∷ [] }

-- an accepted poke joins the input where its document is of the process
abbrev pub with_poke : ProcId → ReqId → DocId → Action → Document → Desk → Desk
with_poke p req doc action d desk =
    mine p d.proc (desk_poked req doc action) desk

-- what an accepted request does to the desk of a process
abbrev pub desk_accepted : Seen → ProcId → ReqId → Option DocId → Request → Desk → Desk
desk_accepted s p req (Some doc) (requests.Poke nav action) desk =
    option_map_or (λ d. with_poke p req doc action d desk) (document_of s doc) desk
desk_accepted s p req _ _ desk = desk

-- what a refusal does to it
abbrev pub desk_refused : ProcId → Actor → Desk → Desk
desk_refused p (actors.Proc q) desk = mine p q desk_served desk
desk_refused p _ desk = desk

-- what each row does to it
abbrev pub desk_after : Seen → ProcId → Bool → Actor → RowKind → Desk → Desk
desk_after s p joins actor (rows.Opened entry state doc proc slot address) desk = empty_desk p
desk_after s p joins actor (rows.Accepted req doc what) desk = desk_accepted s p req doc what desk
desk_after s p joins actor (rows.Refused req reason) desk = desk_refused p actor desk
desk_after s p joins actor (rows.Sent job) desk = mine p job.proc (desk_sent job) desk
desk_after s p joins actor (rows.Taken proc job live dirty) desk = mine p proc (desk_taken live dirty) desk
desk_after s p joins actor (rows.Finished proc job outcome) desk = mine p proc (desk_finished outcome) desk
desk_after s p joins actor (rows.Made proc made) desk = mine p proc (desks_made joins made) desk
desk_after s p joins actor (rows.Delivered proc) desk = mine p proc desk_delivered desk
desk_after s p joins actor (rows.Dropped req cause) desk = desk_dropped req desk
desk_after s p joins actor (rows.Killed proc death) desk = mine p proc (desk_killed death) desk
desk_after s p joins actor _ desk = desk

poke_comes : (s : Seen) (p : ProcId) (req : ReqId) (doc : DocId) (action : Action) (found : Option Document) → document_of s doc ≡ found → desk_in (poked s req doc action) p ≡ option_map_or (λ d. with_poke p req doc action d (desk_of s p)) (document_of s doc) (desk_of s p)
poke_comes s p req doc action None at = rw at refl
poke_comes s p req doc action (Some d) at = rw at (desk_in-on_desk p d.proc (desk_poked req doc action) (λ desk. refl) s.desks)

accepted_is : (s : Seen) (p : ProcId) (req : ReqId) (doc : Option DocId) (what : Request) → desk_in (desks_accepted s req doc what) p ≡ desk_accepted s p req doc what (desk_of s p)
accepted_is s p req None what = refl
accepted_is s p req (Some doc) (requests.Poke nav action) = poke_comes s p req doc action (document_of s doc) refl
accepted_is s p req (Some doc) (requests.Load nav mode address) = refl
accepted_is s p req (Some doc) (requests.Go delta) = refl
accepted_is s p req (Some doc) (requests.Reload nav) = refl

made_is_its : (joins : Bool) (made : Made) → StaysIts (desks_made joins made)
made_is_its true made desk = refl
made_is_its false made desk = refl

opened_is : (p q : ProcId) → desk_in (empty_desk q ∷ []) p ≡ empty_desk p
opened_is p q = by_test (q.0 == p.0) refl
  where
    by_test : (b : Bool) → (q.0 == p.0) ≡ b → cond b (empty_desk q) (empty_desk p) ≡ empty_desk p
    by_test true same = let at : q.0 ≡ p.0 = grind (arith, nat_tests) in ap (λ (n : ℕ). empty_desk (record { 0 = n })) at
    by_test false other = refl

-- the desk of a process after one more row
pub desk_of-after : (s : Seen) (p : ProcId) (event : ℕ) (actor : Actor) (kind : RowKind) → desk_of (after s (record { event = event; actor = actor; row = kind })) p ≡ desk_after s p (follows_finished s (record { event = event; actor = actor; row = kind })) actor kind (desk_of s p)
desk_of-after s p event actor (rows.Opened entry state doc proc slot address) = opened_is p proc
desk_of-after s p event actor (rows.Accepted req doc what) = accepted_is s p req doc what
desk_of-after s p event actors.Start (rows.Refused req reason) = refl
desk_of-after s p event actors.Ui (rows.Refused req reason) = refl
desk_of-after s p event actors.Coord (rows.Refused req reason) = refl
desk_of-after s p event (actors.Proc q) (rows.Refused req reason) = desk_in-on_desk p q desk_served (λ desk. refl) s.desks
desk_of-after s p event actor (rows.Sent job) = desk_in-on_desk p job.proc (desk_sent job) (λ desk. refl) s.desks
desk_of-after s p event actor (rows.Taken proc job live dirty) = desk_in-on_desk p proc (desk_taken live dirty) (λ desk. refl) s.desks
desk_of-after s p event actor (rows.Finished proc job outcome) = desk_in-on_desk p proc (desk_finished outcome) (λ desk. refl) s.desks
desk_of-after s p event actor (rows.Made proc made) = desk_in-on_desk p proc (desks_made (follows_finished s (record { event = event; actor = actor; row = rows.Made proc made })) made) (made_is_its (follows_finished s (record { event = event; actor = actor; row = rows.Made proc made })) made) s.desks
desk_of-after s p event actor (rows.Delivered proc) = desk_in-on_desk p proc desk_delivered (λ desk. refl) s.desks
desk_of-after s p event actor (rows.Dropped req cause) = desk_in-dropped p req s.desks
desk_of-after s p event actor (rows.Killed proc death) = desk_in-on_desk p proc (desk_killed death) (λ desk. refl) s.desks
desk_of-after s p event actor (rows.Started req goal) = refl
desk_of-after s p event actor (rows.Applied req change) = refl
desk_of-after s p event actor (rows.Prompted req doc) = refl
desk_of-after s p event actor (rows.Answered req stay) = refl
desk_of-after s p event actor (rows.Evicted state) = refl
