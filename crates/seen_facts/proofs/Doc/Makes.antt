-- How often a process has the order that makes a document, or a report of it: orders that are sent, taken up and finished, reports that are delivered, and what documents make.
use Rattle.std.proofs.Common.{◌≡◌, ℕ, ◌+◌, Bool, true, false, ◌==◌, List, [], ◌∷◌, ◌++◌, Option, Some, None, refl, ap, ◌∙◌, arith}
use Rattle.std.specs.Prelude.{option_map, option_to_list}
use Rattle.tab_ids.specs.declared.DocId.{DocId}
use Rattle.tab_ids.specs.declared.ProcId.{ProcId}
use Rattle.log_model.specs.declared.job.Job.{Job}
use Rattle.log_model.specs.declared.job.Order.{Order}
use Rattle.log_model.specs.declared.job.Task.{Task}
use Rattle.log_model.specs.declared.job.Task.TheVariants as tasks
use Rattle.log_model.specs.declared.made.Made.{Made}
use Rattle.log_model.specs.declared.made.Report.{Report}
use Rattle.log_model.specs.declared.made.Report.TheVariants as reports
use Rattle.log_model.specs.declared.made.What.{What}
use Rattle.log_model.specs.declared.made.What.TheVariants as whats
use Rattle.log_model.specs.declared.outcome.Outcome.{Outcome}
use Rattle.log_model.specs.After.{desk_finished, desks_made, on_desk, reports_joined, reports_made}
use Rattle.log_model.specs.Seen.{Desk, Seen, desk_of}
use Rattle.seen_facts.specs.Coord.Leading.{orders_of_desk}
use Rattle.seen_facts.proofs.Coord.OneDocument.{mailed}
use Rattle.seen_facts.proofs.Entry.Parts.{each_desk}
use Rattle.seen_facts.specs.Doc.Docs.{makes_by, makes_it, makes_sent, makes_told, makes_at}

-- ---- orders

join_in : {A : Type 0} (xs ys zs : List A) → xs ++ (ys ++ zs) ≡ (xs ++ ys) ++ zs
join_in [] ys zs = refl
join_in (x ∷ xs) ys zs = ap (λ l. x ∷ l) (join_in xs ys zs)

pub orders_more : (job : Job) (desk : Desk) → orders_of_desk (mailed job desk) ≡ orders_of_desk desk ++ job ∷ []
orders_more job desk = join_in (option_to_list (option_map (λ (order : Order). order.job) desk.in_hand)) desk.mail (job ∷ [])

sent_last : (doc : DocId) (jobs : List Job) (job : Job) → makes_sent doc (jobs ++ job ∷ []) ≡ makes_sent doc jobs + makes_it doc job
sent_last doc [] job = omega arith
sent_last doc (first ∷ jobs) job =
    (let more : makes_sent doc (jobs ++ job ∷ []) ≡ makes_sent doc jobs + makes_it doc job = sent_last doc jobs job in omega (arith, more))

-- one order more
pub mailed_makes : (doc : DocId) (job : Job) (desk : Desk) → makes_at doc (mailed job desk) ≡ makes_at doc desk + makes_it doc job
mailed_makes doc job desk =
    let one : makes_sent doc (orders_of_desk (mailed job desk)) ≡ makes_sent doc (orders_of_desk desk) + makes_it doc job = ap (λ (l : List Job). makes_sent doc l) (orders_more job desk) ∙ sent_last doc (orders_of_desk desk) job in
    omega (arith, one)

-- an order that makes no document
abbrev pub MakesNone : Task → Type 0
MakesNone (tasks.Populate nav state address initial) = ⊥
MakesNone _ = Unit {0}

none_by : (b : Bool) (task : Task) → MakesNone task → makes_by b task ≡ 0
none_by false task none = refl
none_by true (tasks.Populate nav state address initial) never = absurd never
none_by true (tasks.Activate entry epoch length index memo address) none = refl
none_by true (tasks.Update length index) none = refl
none_by true tasks.Freeze none = refl
none_by true tasks.Discard none = refl
none_by true (tasks.Ask slot cause) none = refl
none_by true (tasks.DoFragment req mode address) none = refl

pub makes_none : (doc : DocId) (job : Job) → MakesNone job.task → makes_it doc job ≡ 0
makes_none doc job none = none_by (job.doc.0 == doc.0) job.task none

-- ---- it is finished

told_last : (doc : DocId) (waiting_ : List Report) (job : Job) (outcome : Outcome) → makes_told doc (waiting_ ++ reports.Done job outcome None ∷ []) ≡ makes_told doc waiting_ + makes_it doc job
told_last doc [] job outcome = omega arith
told_last doc (reports.Done j o m ∷ waiting_) job outcome =
    let more : makes_told doc (waiting_ ++ reports.Done job outcome None ∷ []) ≡ makes_told doc waiting_ + makes_it doc job = told_last doc waiting_ job outcome in
    omega (arith, more)
told_last doc (reports.Made made ∷ waiting_) job outcome = told_last doc waiting_ job outcome
told_last doc (reports.Died death ∷ waiting_) job outcome = told_last doc waiting_ job outcome

-- its report takes the order's place
pub finished_makes : (doc : DocId) (outcome : Outcome) (desk : Desk) → makes_at doc (desk_finished outcome desk) ≡ makes_at doc desk
finished_makes doc outcome desk = by_hand desk.in_hand refl
  where
    by_hand : (hand : Option Order) → desk.in_hand ≡ hand → makes_at doc (desk_finished outcome desk) ≡ makes_at doc desk
    by_hand None is = rw is refl
    by_hand (Some order) is =
        let told : makes_told doc (desk.reports ++ reports.Done order.job outcome None ∷ []) ≡ makes_told doc desk.reports + makes_it doc order.job = told_last doc desk.reports order.job outcome in
        let sums : makes_sent doc desk.mail + makes_told doc (desk.reports ++ reports.Done order.job outcome None ∷ []) ≡ (makes_it doc order.job + makes_sent doc desk.mail) + makes_told doc desk.reports = omega (arith, told) in
        rw is sums

-- ---- something is made

told_made : (doc : DocId) (waiting_ : List Report) (made : Made) → makes_told doc (waiting_ ++ reports.Made made ∷ []) ≡ makes_told doc waiting_
told_made doc [] made = refl
told_made doc (reports.Done j o m ∷ waiting_) made = (let more : makes_told doc (waiting_ ++ reports.Made made ∷ []) ≡ makes_told doc waiting_ = told_made doc waiting_ made in omega (arith, more))
told_made doc (reports.Made m ∷ waiting_) made = told_made doc waiting_ made
told_made doc (reports.Died death ∷ waiting_) made = told_made doc waiting_ made

told_more : (doc : DocId) (waiting_ : List Report) (made : Made) (what : What) → makes_told doc (reports_made waiting_ made what) ≡ makes_told doc waiting_
told_more doc waiting_ made (whats.Push entry memo address) = told_made doc waiting_ made
told_more doc waiting_ made (whats.Replace over entry memo address) = told_made doc waiting_ made
told_more doc waiting_ made (whats.AddFrame nav) = told_made doc waiting_ made
told_more doc waiting_ made (whats.RemoveFrame nav) = told_made doc waiting_ made
told_more doc waiting_ made (whats.Go delta) = told_made doc waiting_ made
told_more doc waiting_ made whats.Edit = refl

told_joined : (doc : DocId) (made : Made) (waiting_ : List Report) → makes_told doc (reports_joined made waiting_) ≡ makes_told doc waiting_
told_joined doc made [] = refl
told_joined doc made (reports.Done j o m ∷ []) = refl
told_joined doc made (reports.Done j o m ∷ next ∷ waiting_) =
    (let more : makes_told doc (reports_joined made (next ∷ waiting_)) ≡ makes_told doc (next ∷ waiting_) = told_joined doc made (next ∷ waiting_) in omega (arith, more))
told_joined doc made (reports.Made m ∷ waiting_) = told_joined doc made waiting_
told_joined doc made (reports.Died death ∷ waiting_) = told_joined doc made waiting_

-- by a poke, or by the order that was finished just now
pub made_makes : (doc : DocId) (joins : Bool) (made : Made) (desk : Desk) → makes_at doc (desks_made joins made desk) ≡ makes_at doc desk
made_makes doc true made desk =
    ap (λ (k : ℕ). makes_sent doc (orders_of_desk desk) + k) (told_joined doc made desk.reports)
made_makes doc false made desk =
    ap (λ (k : ℕ). makes_sent doc (orders_of_desk desk) + k) (told_more doc desk.reports made made.what)

-- ---- one process has other lists

-- it has the order as often as before, and so has each
pub same_makes : (s t : Seen) (p : ProcId) (f : Desk → Desk) → t.desks ≡ on_desk p f s.desks → ((desk : Desk) → (f desk).proc ≡ desk.proc) → ((doc : DocId) → makes_at doc (f (desk_of s p)) ≡ makes_at doc (desk_of s p)) → (doc : DocId) (proc : ProcId) → makes_at doc (desk_of t proc) ≡ makes_at doc (desk_of s proc)
same_makes s t p f desks keeps same doc proc =
    each_desk s t p f (λ other desk. makes_at doc desk ≡ makes_at doc (desk_of s other)) desks keeps (same doc) (λ other apart. refl) proc
