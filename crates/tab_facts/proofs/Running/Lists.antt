-- Fragment orders of a list find their document running, as the list grows, or another document is as this one.
use Rattle.seen_facts.proofs.Coord.Leadings.{doc_same}
use Rattle.seen_facts.proofs.Coord.OneDocument.{mailed, orders_mailed}
use Rattle.seen_facts.specs.Coord.Leading.{is_live_order, orders_for}
use Rattle.log_model.specs.Seen.{Desk, Document}
use Rattle.log_model.specs.declared.job.Job.{Job}
use Rattle.seen_facts.specs.Rest.Resting.{run_after, runs_in, will_run}
use Rattle.tab_facts.specs.Running.Running.{EachFinds, Finds, IsFoundRunning}
use Rattle.std.proofs.Common.{Bool, List, Option, [], append-nil, false, length, refl, subst, sym, true, ℕ, ◌&&◌, ◌++◌, ◌==◌, ◌∷◌, ◌≡◌}
use Rattle.tab_ids.specs.declared.DocId.{DocId}
use Rattle.std.specs.Prelude.{filter, fold}

-- a live order of a document is to it
pub live_doc : (doc : DocId) (incarnation : ℕ) (job : Job) → is_live_order doc incarnation job ≡ true → job.doc ≡ doc
live_doc doc incarnation job lives = by_number (job.doc.0 == doc.0) refl lives
  where
    by_number : (b : Bool) → (job.doc.0 == doc.0) ≡ b → (b && job.incarnation == incarnation) ≡ true → job.doc ≡ doc
    by_number true e fine = doc_same job.doc doc e
    by_number false e never = absurd cc

-- ---- orders

-- one order more, at the end
pub finds_more : (runs : Option Bool) (jobs : List Job) (job : Job) → EachFinds runs jobs → Finds (fold (λ (r : Option Bool) (j : Job). run_after r j.task) runs jobs) job.task → EachFinds runs (jobs ++ job ∷ [])
finds_more runs [] job all its = (its, tt)
finds_more runs (one ∷ jobs) job all its = (all.0, finds_more (run_after runs one.task) jobs job all.1 its)

-- as many orders come, and it runs as the other
pub finds_alike : (desk other : Desk) (d e : Document) → orders_for other e.nr ≡ orders_for desk d.nr → runs_in e.view ≡ runs_in d.view → IsFoundRunning desk d → IsFoundRunning other e
finds_alike desk other d e orders runs is =
    subst (λ (l : List Job). EachFinds (runs_in e.view) l) (sym orders)
    (subst (λ (r : Option Bool). EachFinds r (orders_for desk d.nr)) (sym runs) is)

-- an order is sent: where it comes to the document, it is to find that running
pub finds_mailed : (desk : Desk) (job : Job) (d : Document) → (is_live_order d.nr (length desk.killed) job ≡ true → Finds (will_run desk d) job.task) → IsFoundRunning desk d → IsFoundRunning (mailed job desk) d
finds_mailed desk job d fits is = by_test (is_live_order d.nr (length desk.killed) job) refl
  where
    by_test : (b : Bool) → is_live_order d.nr (length desk.killed) job ≡ b → IsFoundRunning (mailed job desk) d
    by_test true e =
        let one : filter (is_live_order d.nr (length desk.killed)) (job ∷ []) ≡ job ∷ [] = rw e refl in
        subst (λ (l : List Job). EachFinds (runs_in d.view) l) (sym (orders_mailed job desk d.nr))
        (subst (λ (l : List Job). EachFinds (runs_in d.view) (orders_for desk d.nr ++ l)) (sym one) (finds_more (runs_in d.view) (orders_for desk d.nr) job is (fits e)))
    by_test false e =
        let none : filter (is_live_order d.nr (length desk.killed)) (job ∷ []) ≡ [] = rw e refl in
        subst (λ (l : List Job). EachFinds (runs_in d.view) l) (sym (orders_mailed job desk d.nr))
        (subst (λ (l : List Job). EachFinds (runs_in d.view) (orders_for desk d.nr ++ l)) (sym none) (subst (λ (l : List Job). EachFinds (runs_in d.view) l) (sym (append-nil (orders_for desk d.nr))) is))
