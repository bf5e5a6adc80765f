-- That an order is on its way is kept by what users and processes do, and with one nothing is still.
use Rattle.log_model.specs.After.{desk_finished, desk_taken, desks_made, desks_refused, on_desk, poked, reports_joined, reports_made}
use Rattle.log_model.specs.Logs.{is_idle}
use Rattle.log_model.specs.Seen.{Desk, Document, Seen, desk_in, document_of}
use Rattle.log_model.specs.declared.job.Job.{Job}
use Rattle.log_model.specs.declared.made.Made.{Made}
use Rattle.log_model.specs.declared.made.What.{What}
use Rattle.log_model.specs.declared.outcome.Outcome.{Outcome}
use Rattle.log_model.specs.declared.made.Report.{Report}
use Rattle.log_model.specs.declared.row_kind.Actor.{Actor}
use Rattle.log_model.specs.declared.action.Action.{Action}
use Rattle.log_model.specs.declared.job.Order.{Order}
use Rattle.std.proofs.Common.{Bool, List, None, Option, Some, [], ap, false, length, arith, not, refl, suc, sym, true, ℕ, ◌&&◌, ◌++◌, ◌==◌, ◌||◌, ◌∙◌, ◌∷◌, ◌≡◌}
use Rattle.std.proofs.lemmas.Bool.Decides.{nat_tests}
use Rattle.std.specs.List.{list_all, list_any}
use Rattle.std.specs.Prelude.{is_none, is_some, option_map, slice_get}
use Rattle.tab_facts.specs.TabEvents.Between.{has_order}
use Rattle.tab_ids.specs.declared.DocId.{DocId}
use Rattle.tab_ids.specs.declared.ProcId.{ProcId}
use Rattle.tab_ids.specs.declared.ReqId.{ReqId}
use Rattle.tab_facts.proofs.TabWhole.Ending.{IsNoProcess}
use Rattle.log_model.specs.declared.made.Report.TheVariants as reports
use Rattle.log_model.specs.declared.made.What.TheVariants as whats
use Rattle.log_model.specs.declared.row_kind.Actor.TheVariants as actors

-- where each desk keeps it, a change of one does
pub orders_on : (proc : ProcId) (f : Desk → Desk) (desks : List Desk) → ((desk : Desk) → has_order desk ≡ true → has_order (f desk) ≡ true) → list_any has_order desks ≡ true → list_any has_order (on_desk proc f desks) ≡ true
orders_on proc f [] keeps go = absurd cc
orders_on proc f (desk ∷ desks) keeps go = by_desk (desk.proc.0 == proc.0) refl (has_order desk) refl go (orders_on proc f desks keeps)
  where
    other : (b : Bool) → b ≡ true → (b || list_any has_order desks) ≡ true
    other true e = refl
    other false e = absurd cc

    later : (b : Bool) → list_any has_order desks ≡ true → (b || list_any has_order desks) ≡ true
    later true e = refl
    later false e = e

    by_desk : (its : Bool) → (desk.proc.0 == proc.0) ≡ its → (b : Bool) → has_order desk ≡ b → (b || list_any has_order desks) ≡ true → (list_any has_order desks ≡ true → list_any has_order (on_desk proc f desks) ≡ true) → list_any has_order (on_desk proc f (desk ∷ desks)) ≡ true
    by_desk true its true has h more = rw its (other (has_order (f desk)) (keeps desk has))
    by_desk true its false none h more = rw its (later (has_order (f desk)) h)
    by_desk false its true has h more = rw its (ap (λ (b : Bool). b || list_any has_order (on_desk proc f desks)) has)
    by_desk false its false none h more = rw its (ap (λ (b : Bool). b || list_any has_order (on_desk proc f desks)) none ∙ more h)

-- where the changed desk has one, there is one
pub on_itself : (proc : ProcId) (f : Desk → Desk) (desks : List Desk) → has_order (f (desk_in desks proc)) ≡ true → list_any has_order (on_desk proc f desks) ≡ true
on_itself proc f [] has = ap (λ (b : Bool). b || false) has
on_itself proc f (desk ∷ desks) has = by_desk (desk.proc.0 == proc.0) refl (on_itself proc f desks)
  where
    later : (b c : Bool) → c ≡ true → (b || c) ≡ true
    later true c e = refl
    later false c e = e

    by_desk : (its : Bool) → (desk.proc.0 == proc.0) ≡ its → (has_order (f (desk_in desks proc)) ≡ true → list_any has_order (on_desk proc f desks) ≡ true) → list_any has_order (on_desk proc f (desk ∷ desks)) ≡ true
    by_desk true its more =
        let own : has_order (f desk) ≡ true = (let h = has in let it : has_order (f (desk_in (desk ∷ desks) proc)) ≡ has_order (f desk) = rw its refl in sym it ∙ h) in
        rw its (ap (λ (b : Bool). b || list_any has_order desks) own)
    by_desk false its more =
        let own : has_order (f (desk_in desks proc)) ≡ true = (let it : has_order (f (desk_in (desk ∷ desks) proc)) ≡ has_order (f (desk_in desks proc)) = rw its refl in sym it ∙ has) in
        rw its (later (has_order desk) (list_any has_order (on_desk proc f desks)) (more own))

-- ---- what processes do

some_not : (n : ℕ) → (suc n == 0) ≡ false
some_not n = grind (arith, nat_tests)

-- a list with one more isn't empty
pub one_more : {A : Type 0} (l : List A) (x : A) → (length (l ++ x ∷ []) == 0) ≡ false
one_more [] x = refl
one_more (y ∷ l) x = some_not (length (l ++ x ∷ []))

-- the last of three
third : (a b c : Bool) → c ≡ true → (a || b || c) ≡ true
third true b c e = refl
third false true c e = refl
third false false c e = e

pub finished_order : (outcome : Outcome) (desk : Desk) → has_order desk ≡ true → has_order (desk_finished outcome desk) ≡ true
finished_order outcome desk has = by_hand desk.in_hand refl
  where
    by_hand : (o : Option Order) → desk.in_hand ≡ o → has_order (desk_finished outcome desk) ≡ true
    by_hand None none = (let h = has in let it : has_order (desk_finished outcome desk) ≡ has_order desk = rw none refl in it ∙ h)
    by_hand (Some order) there = rw there (third (not (length desk.mail == 0)) false _ (ap not (one_more desk.reports _)))

with_reports : (a b c d : Bool) → (c ≡ true → d ≡ true) → (a || b || c) ≡ true → (a || b || d) ≡ true
with_reports true b c d keeps has = refl
with_reports false true c d keeps has = refl
with_reports false false c d keeps has = keeps has

joined_as : (made : Made) (l : List Report) → (length (reports_joined made l) == 0) ≡ (length l == 0)
joined_as made [] = refl
joined_as made (reports.Done job outcome joined ∷ []) = refl
joined_as made (reports.Done job outcome joined ∷ report ∷ l) =
    some_not (length (reports_joined made (report ∷ l))) ∙ sym (some_not (length (report ∷ l)))
joined_as made (reports.Made other ∷ l) = some_not (length (reports_joined made l)) ∙ sym (some_not (length l))
joined_as made (reports.Died death ∷ l) = some_not (length (reports_joined made l)) ∙ sym (some_not (length l))

more_made : (l : List Report) (made : Made) (what : What) → not (length l == 0) ≡ true → not (length (reports_made l made what) == 0) ≡ true
more_made l made whats.Edit some = some
more_made l made (whats.Push entry memo address) some = ap not (one_more l (reports.Made made))
more_made l made (whats.Replace over entry memo address) some = ap not (one_more l (reports.Made made))
more_made l made (whats.AddFrame nav) some = ap not (one_more l (reports.Made made))
more_made l made (whats.RemoveFrame nav) some = ap not (one_more l (reports.Made made))
more_made l made (whats.Go delta) some = ap not (one_more l (reports.Made made))

pub made_order : (joins : Bool) (made : Made) (desk : Desk) → has_order desk ≡ true → has_order (desks_made joins made desk) ≡ true
made_order true made desk has =
    with_reports (not (length desk.mail == 0)) (is_some desk.in_hand) (not (length desk.reports == 0)) (not (length (reports_joined made desk.reports) == 0)) (λ some. ap not (joined_as made desk.reports) ∙ some) has
made_order false made desk has =
    with_reports (not (length desk.mail == 0)) (is_some desk.in_hand) (not (length desk.reports == 0)) (not (length (reports_made desk.reports made made.what) == 0)) (λ some. more_made desk.reports made made.what some) has

pub taken_orders : (proc : ProcId) (dirty : Bool) (desks : List Desk) (job : Job) → slice_get (desk_in desks proc).mail 0 ≡ Some job → list_any has_order (on_desk proc (desk_taken true dirty) desks) ≡ true
taken_orders proc dirty desks job first =
    on_itself proc (desk_taken true dirty) desks (middle _ _ _ (ap (λ (o : Option Job). is_some (option_map (λ (job : Job). let x : Order = record { job = job; dirty = dirty } in x) o)) first))
  where
    middle : (a b c : Bool) → b ≡ true → (a || b || c) ≡ true
    middle true b c e = refl
    middle false true c e = refl
    middle false false c e = absurd cc

-- ---- what users do

pub poked_orders : (s : Seen) (req : ReqId) (doc : DocId) (d : Document) → document_of s doc ≡ Some d → (action : Action) → list_any has_order s.desks ≡ true → list_any has_order (poked s req doc action) ≡ true
poked_orders s req doc d found action go = rw found (orders_on d.proc (λ (desk : Desk). record desk { input = desk.input ++ record { req = req; doc = doc; action = action } ∷ [] }) s.desks (λ desk has. has) go)

-- a refusal that is no process's own leaves them
pub unrefused : (desks : List Desk) (actor : Actor) → IsNoProcess actor → desks_refused desks actor ≡ desks
unrefused desks (actors.Proc proc) by = absurd by
unrefused desks actors.Start by = refl
unrefused desks actors.Ui by = refl
unrefused desks actors.Coord by = refl

-- ---- nothing is still

pub not_still : (desks : List Desk) → list_any has_order desks ≡ true → list_all is_idle desks ≡ false
not_still [] go = absurd cc
not_still (desk ∷ desks) go = by_desk (has_order desk) refl go (not_still desks)
  where
    never : (a : Bool) → (a && false) ≡ false
    never true = refl
    never false = refl

    busy : (i m : Bool) (o : Option Order) (r : Bool) → (not m || is_some o || not r) ≡ true → (i && m && is_none o && r) ≡ false
    busy false m o r has = refl
    busy true false o r has = refl
    busy true true (Some order) r has = refl
    busy true true None false has = refl
    busy true true None true has = absurd cc

    by_desk : (b : Bool) → has_order desk ≡ b → (b || list_any has_order desks) ≡ true → (list_any has_order desks ≡ true → list_all is_idle desks ≡ false) → list_all is_idle (desk ∷ desks) ≡ false
    by_desk true has h more =
        ap (λ (b : Bool). b && list_all is_idle desks) (busy (length desk.input == 0) (length desk.mail == 0) desk.in_hand (length desk.reports == 0) has)
    by_desk false none h more = ap (λ (b : Bool). is_idle desk && b) (more h) ∙ never (is_idle desk)
