-- How many orders send a document to a fragment for a request, as one process changes: orders that are sent, taken up and finished.
use Rattle.std.proofs.Common.{◌≡◌, ℕ, ◌+◌, ◌≤◌, Bool, true, false, cond, ◌==◌, List, [], ◌∷◌, ◌++◌, map, Some, None, refl, ap, ◌∙◌, arith}
use Rattle.std.specs.Prelude.{option_map, option_to_list, slice_get}
use Rattle.tab_ids.specs.declared.ProcId.{ProcId}
use Rattle.tab_ids.specs.declared.ReqId.{ReqId}
use Rattle.log_model.specs.declared.job.Job.{Job}
use Rattle.log_model.specs.declared.job.Order.{Order}
use Rattle.log_model.specs.declared.job.Task.{Task}
use Rattle.log_model.specs.declared.job.Task.TheVariants as tasks
use Rattle.log_model.specs.declared.made.Made.{Made}
use Rattle.log_model.specs.declared.outcome.Outcome.{Outcome}
use Rattle.log_model.specs.After.{on_desk, desk_finished, desk_taken, desks_made}
use Rattle.log_model.specs.Seen.{Desk, Seen, desk_in, empty_desk}
use Rattle.seen_laws.proofs.Sums.{over, over_on}
use Rattle.seen_facts.specs.Coord.Leading.{orders_of_desk}
use Rattle.seen_facts.proofs.Coord.OneDocument.{mailed, orders_taken}
use Rattle.seen_facts.proofs.LoadWhereabouts.Trips.{IsNoFragment}
use Rattle.tab_facts.specs.FragmentOrders.Waiting.{fragment_by, fragments_in, fragments_at}

-- ---- one process

more_in : (r : ReqId) (jobs : List Job) (job : Job) → fragments_in r (jobs ++ job ∷ []) ≡ fragments_in r jobs + fragment_by r job.task
more_in r [] job = omega arith
more_in r (first ∷ jobs) job =
    let more : fragments_in r (jobs ++ job ∷ []) ≡ fragments_in r jobs + fragment_by r job.task = more_in r jobs job in
    omega (arith, more)

join_in : {A : Type 0} (xs ys zs : List A) → xs ++ (ys ++ zs) ≡ (xs ++ ys) ++ zs
join_in [] ys zs = refl
join_in (x ∷ xs) ys zs = ap (λ l. x ∷ l) (join_in xs ys zs)

-- one order more
pub mailed_orders : (r : ReqId) (job : Job) (desk : Desk) → fragments_at r (mailed job desk) ≡ fragments_at r desk + fragment_by r job.task
mailed_orders r job desk =
    ap (λ (l : List Job). fragments_in r l) (join_in (option_to_list (option_map (λ (order : Order). order.job) desk.in_hand)) desk.mail (job ∷ []))
    ∙ more_in r (orders_of_desk desk) job

-- an order that sends none to a fragment isn't counted
pub none_by : (r : ReqId) (task : Task) → IsNoFragment task → fragment_by r task ≡ 0
none_by r (tasks.DoFragment req mode address) never = absurd never
none_by r (tasks.Populate nav state address initial) none = refl
none_by r (tasks.Activate entry epoch length index memo address) none = refl
none_by r (tasks.Update length index) none = refl
none_by r tasks.Freeze none = refl
none_by r tasks.Discard none = refl
none_by r (tasks.Ask slot cause) none = refl

-- an order that is taken up moves from the mail to the hand
pub taken_orders : (r : ReqId) (desk : Desk) (job : Job) (dirty : Bool) → desk.in_hand ≡ None → slice_get desk.mail 0 ≡ Some job → fragments_at r (desk_taken true dirty desk) ≡ fragments_at r desk
taken_orders r desk job dirty free first =
    ap (λ (l : List Job). fragments_in r l) (orders_taken desk job dirty free first)

-- one that is finished is gone
pub finished_orders : (r : ReqId) (outcome : Outcome) (desk : Desk) (order : Order) → desk.in_hand ≡ Some order → fragments_at r desk ≡ fragment_by r order.job.task + fragments_at r (desk_finished outcome desk)
finished_orders r outcome desk order in_hand = rw in_hand refl

-- what is made leaves the orders
pub made_orders : (r : ReqId) (joins : Bool) (made : Made) (desk : Desk) → fragments_at r (desks_made joins made desk) ≡ fragments_at r desk
made_orders r true made desk = refl
made_orders r false made desk = refl

-- ---- all processes

-- there are as many as before
abbrev pub SameOrders : Seen → Seen → Type 0
SameOrders s t = (r : ReqId) → over (fragments_at r) t.desks ≡ over (fragments_at r) s.desks

pub desk_same : (r : ReqId) (g : Desk → Desk) (desks : List Desk) (proc : ProcId) → fragments_at r (g (desk_in desks proc)) ≡ fragments_at r (desk_in desks proc) → over (fragments_at r) (on_desk proc g desks) ≡ over (fragments_at r) desks
desk_same r g desks proc same = omega (arith, same, over_on (fragments_at r) g desks proc refl)

pub each_same : (r : ReqId) (g : Desk → Desk) (desks : List Desk) → ((desk : Desk) → fragments_at r (g desk) ≡ fragments_at r desk) → over (fragments_at r) (map g desks) ≡ over (fragments_at r) desks
each_same r g [] same = refl
each_same r g (desk ∷ desks) same = omega (arith, same desk, each_same r g desks same)

-- what one process has is among all
pub desk_within : (f : Desk → ℕ) (desks : List Desk) (proc : ProcId) → f (empty_desk proc) ≡ 0 → f (desk_in desks proc) ≤ over f desks
desk_within f [] proc none = omega (arith, none)
desk_within f (desk ∷ desks) proc none = by_test (desk.proc.0 == proc.0) (desk_within f desks proc none)
  where
    by_test : (b : Bool) → f (desk_in desks proc) ≤ over f desks → f (cond b desk (desk_in desks proc)) ≤ (f desk + over f desks)
    by_test true more = omega arith
    by_test false more = omega (arith, more)
