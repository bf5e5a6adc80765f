-- What is true between two rows of the orders by which loads send documents to fragments: a load that waits for what its document makes of such an order has one on its way, and each such order is of a load that waits.
-- HTML Standard, "Fragment navigations" ("navigate to a fragment"); orders and processes are this project's own.
use Rattle.std.specs.Prelude.{◌≡◌, ℕ, ◌+◌, ◌==◌, true, List, [], ◌∷◌, Option, None, Some, if◌then◌else◌}
use Rattle.tab_ids.specs.declared.ReqId.{ReqId}
use Rattle.log_model.specs.declared.job.Job.{Job}
use Rattle.log_model.specs.declared.job.Task.{Task}
use Rattle.log_model.specs.declared.job.Task.TheVariants as tasks
use Rattle.log_model.specs.Equal.{holds}
use Rattle.log_model.specs.Places.{is_load}
use Rattle.log_model.specs.Seen.{Seen, Asked, Desk, request_in}
use Rattle.seen_facts.specs.Coord.Leading.{orders_of_desk}
use Rattle.seen_facts.specs.LoadWhereabouts.Whereabouts.{waits_to_fragment}
use Rattle.seen_laws.proofs.Sums.{over}

-- the order sends a document to a fragment for the request
abbrev pub fragment_by : ReqId → Task → ℕ
fragment_by req (tasks.DoFragment of mode address) = if of.0 == req.0 then 1 else 0
fragment_by req _ = 0

-- how many of the orders do, of those that the process has in its mail or in hand
abbrev pub fragments_in : ReqId → List Job → ℕ
fragments_in req [] = 0
fragments_in req (job ∷ jobs) = fragment_by req job.task + fragments_in req jobs

abbrev pub fragments_at : ReqId → Desk → ℕ
fragments_at req desk = fragments_in req (orders_of_desk desk)

-- how many there are to be: one while the request waits
abbrev pub fragments_due : Option Asked → ℕ
fragments_due asked = if holds waits_to_fragment asked then 1 else 0

-- so many there are of each request
abbrev pub FragmentsAreOnce : Seen → Type 0
FragmentsAreOnce s = (req : ReqId) → over (fragments_at req) s.desks ≡ fragments_due (request_in s.requests req)

-- nothing was made of a load for which no document was sent to a fragment
abbrev pub UnsentAreUnmade : Seen → Type 0
UnsentAreUnmade s =
    (req : ReqId) (q : Asked) → request_in s.requests req ≡ Some q → is_load q.what ≡ true → q.fragment ≡ None → q.made ≡ None

-- and only a load waits
abbrev pub LoadsWait : Seen → Type 0
LoadsWait s =
    (req : ReqId) (q : Asked) → request_in s.requests req ≡ Some q → waits_to_fragment q ≡ true → is_load q.what ≡ true

pub record AreFragments (s : Seen) : Type 0 where
  pub once : FragmentsAreOnce s
  pub unsent : UnsentAreUnmade s
  pub loads : LoadsWait s
