-- What is true of documents stays as a process finishes an order.
use Rattle.std.proofs.Common.{◌≡◌, ℕ, Bool, true, false, cond, ◌==◌, List, [], ◌∷◌, map, Option, Some, None, refl, sym, ap, ◌∙◌, subst}
use Rattle.std.specs.Prelude.{option_map}
use Rattle.tab_ids.specs.declared.DocId.{DocId}
use Rattle.tab_ids.specs.declared.ProcId.{ProcId}
use Rattle.log_model.specs.declared.job.Job.{Job}
use Rattle.log_model.specs.declared.job.Order.{Order}
use Rattle.log_model.specs.declared.outcome.Outcome.{Outcome}
use Rattle.log_model.specs.declared.outcome.Outcome.TheVariants as outcomes
use Rattle.log_model.specs.declared.row_kind.Actor.{Actor}
use Rattle.log_model.specs.declared.row_kind.RowKind.TheVariants as rows
use Rattle.log_model.specs.After.{after, desk_finished}
use Rattle.log_model.specs.AfterDocuments.{task_in_hand, view_finished}
use Rattle.log_model.specs.Seen.{Document, Seen, desk_of, document_of}
use Rattle.seen_facts.specs.Coord.Leading.{orders_of_desk}
use Rattle.seen_facts.specs.Desk.Own.{AreDesksIn, IsOrderIn, IsTaskOf}
use Rattle.seen_facts.specs.Each.Items.{Each}
use Rattle.seen_facts.proofs.Entry.Docs.{its_own}
use Rattle.seen_facts.specs.Doc.Docs.{AreDocs, IsLive, makes_at}
use Rattle.seen_facts.proofs.Doc.Makes.{finished_makes, same_makes}
use Rattle.seen_facts.proofs.Doc.Awakes.{awake_same}
use Rattle.seen_facts.proofs.Doc.Leaves.{KeepsDoc, keeps_both, keeps_if, left_docs, once_alike, thawed_again}
use Rattle.seen_facts.proofs.Doc.Lives.{finished_right, viewed_live}

some_same : {A : Type 0} {a b : A} → (let o : Option A = Some a in o) ≡ Some b → a ≡ b
some_same e = cc

-- ---- an order is finished

-- a document that was populated has no handler
abbrev pub HasNoSlot : Outcome → Type 0
HasNoSlot (outcomes.Populated slot) = slot ≡ None
HasNoSlot _ = Unit {0}

map_both : (f g : Document → Document) (xs : List Document) → map g (map f xs) ≡ map (λ (x : Document). g (f x)) xs
map_both f g [] = refl
map_both f g (x ∷ xs) = ap (λ l. g (f x) ∷ l) (map_both f g xs)

module _ (s : Seen) (event : ℕ) (actor : Actor) (are : AreDocs s) (desks : AreDesksIn s) (proc : ProcId) (order : Order) (outcome : Outcome) (in_hand : (desk_of s proc).in_hand ≡ Some order) (bare : HasNoSlot outcome) where
  abbrev pub finished : Seen
  finished = after s (record { event = event; actor = actor; row = rows.Finished proc order.job.nr outcome })

  orders_are : orders_of_desk (desk_of s proc) ≡ order.job ∷ (desk_of s proc).mail
  orders_are = rw in_hand refl

  its : IsOrderIn s.documents s.places proc order.job
  its = (subst (λ (l : List Job). Each (IsOrderIn s.documents s.places proc) l) orders_are (desks proc).orders).0

  job_is : task_in_hand s proc ≡ Some order.job
  job_is = ap (λ (o : Option Order). option_map (λ (x : Order). x.job) o) in_hand

  abbrev viewed : Document → Document
  viewed d = cond (d.nr.0 == order.job.doc.0) (record d { view = view_finished d order.job.task }) d

  abbrev slotted : Option ℕ → Document → Document
  slotted slot d = cond (d.nr.0 == order.job.doc.0) (record d { slot = slot }) d

  viewed_keeps : KeepsDoc viewed
  viewed_keeps =
      keeps_if (λ (d : Document). d.nr.0 == order.job.doc.0) (λ (d : Document). record d { view = view_finished d order.job.task }) (record { nr = λ d. refl; nav = λ d. refl; state = λ d. refl; proc = λ d. refl; discarded = λ d e. e })

  slotted_keeps : (slot : Option ℕ) → KeepsDoc (slotted slot)
  slotted_keeps slot =
      keeps_if (λ (d : Document). d.nr.0 == order.job.doc.0) (λ (d : Document). record d { slot = slot }) (record { nr = λ d. refl; nav = λ d. refl; state = λ d. refl; proc = λ d. refl; discarded = λ d e. e })

  -- the order's document has the view that the order leaves it
  viewed_lives : (doc : DocId) (d : Document) → document_of s doc ≡ Some d → IsLive d → IsLive (viewed d)
  viewed_lives doc d found is = by_test (d.nr.0 == order.job.doc.0) refl
    where
      by_test : (b : Bool) → (d.nr.0 == order.job.doc.0) ≡ b → IsLive (cond b (record d { view = view_finished d order.job.task }) d)
      by_test false e = is
      by_test true e =
          let same : its.lives.d ≡ d = some_same (sym its.lives.found ∙ its_own s.documents doc order.job.doc d found e) in
          viewed_live d (view_finished d order.job.task) (finished_right d its.place is order.job.task (subst (λ (x : Document). IsTaskOf x its.place order.job.task) same its.task)) is

  slotted_lives : (slot : Option ℕ) → slot ≡ None → (d : Document) → IsLive d → IsLive (slotted slot d)
  slotted_lives slot none d is = by_test (d.nr.0 == order.job.doc.0)
    where
      by_test : (b : Bool) → IsLive (cond b (record d { slot = slot }) d)
      by_test false = is
      by_test true = record { incarnation = is.incarnation; slot = none; lives = is.lives; unknown = is.unknown; viewed = is.viewed; unmade = is.unmade; made = is.made }

  viewed_ready : (d : Document) → (viewed d).is_ready ≡ d.is_ready
  viewed_ready d = elim (d.nr.0 == order.job.doc.0) as (λ b. (let x : Document = cond b (record d { view = view_finished d order.job.task }) d in x).is_ready ≡ d.is_ready) [ true ↦ refl | false ↦ refl ]

  viewed_frozen : (d : Document) → (viewed d).is_frozen ≡ d.is_frozen
  viewed_frozen d = elim (d.nr.0 == order.job.doc.0) as (λ b. (let x : Document = cond b (record d { view = view_finished d order.job.task }) d in x).is_frozen ≡ d.is_frozen) [ true ↦ refl | false ↦ refl ]

  slotted_ready : (slot : Option ℕ) (d : Document) → (slotted slot d).is_ready ≡ d.is_ready
  slotted_ready slot d = elim (d.nr.0 == order.job.doc.0) as (λ b. (let x : Document = cond b (record d { slot = slot }) d in x).is_ready ≡ d.is_ready) [ true ↦ refl | false ↦ refl ]

  slotted_frozen : (slot : Option ℕ) (d : Document) → (slotted slot d).is_frozen ≡ d.is_frozen
  slotted_frozen slot d = elim (d.nr.0 == order.job.doc.0) as (λ b. (let x : Document = cond b (record d { slot = slot }) d in x).is_frozen ≡ d.is_frozen) [ true ↦ refl | false ↦ refl ]

  makes : (n : DocId) (p : ProcId) → makes_at n (desk_of finished p) ≡ makes_at n (desk_of s p)
  makes =
      same_makes s finished proc (desk_finished outcome) refl (λ desk. refl) (λ doc. finished_makes doc outcome (desk_of s proc))

  once_so : (g : Document → Document) → KeepsDoc g → finished.documents ≡ map g s.documents → ((doc : DocId) (d : Document) → document_of s doc ≡ Some d → IsLive d → IsLive (g d)) → ((d : Document) → (g d).is_ready ≡ d.is_ready) → ((d : Document) → (g d).is_frozen ≡ d.is_frozen) → AreDocs finished
  once_so g keeps documents live ready frozen =
      left_docs s finished (record {
        g = g;
        keeps = keeps;
        documents = documents;
        live = live;
        places = λ nav has. has;
        once = λ doc d found is. once_alike (desk_of s d.proc) (desk_of finished d.proc) d (g d) (keeps.nr d) (ready d) (λ n. makes n d.proc) is;
        thawed = thawed_again s finished g keeps documents frozen (awake_same s.places) are.thawed;
      }) are

  plainly : finished.documents ≡ map viewed s.documents → AreDocs finished
  plainly documents = once_so viewed viewed_keeps documents viewed_lives viewed_ready viewed_frozen

  pub finished_docs : AreDocs finished
  finished_docs = by_outcome outcome refl bare
    where
      by_outcome : (u : Outcome) → outcome ≡ u → HasNoSlot u → AreDocs finished
      by_outcome (outcomes.Populated slot) e none =
          once_so (λ (d : Document). slotted slot (viewed d)) (keeps_both viewed (slotted slot) viewed_keeps (slotted_keeps slot)) (rw (job_is, e) (map_both viewed (slotted slot) s.documents))
          (λ doc d found is. slotted_lives slot none (viewed d) (viewed_lives doc d found is)) (λ d. slotted_ready slot (viewed d) ∙ viewed_ready d) (λ d. slotted_frozen slot (viewed d) ∙ viewed_frozen d)
      by_outcome outcomes.Activated e none = plainly (rw (job_is, e) refl)
      by_outcome outcomes.Updated e none = plainly (rw (job_is, e) refl)
      by_outcome outcomes.Frozen e none = plainly (rw (job_is, e) refl)
      by_outcome outcomes.Discarded e none = plainly (rw (job_is, e) refl)
      by_outcome (outcomes.Asked verdict) e none = plainly (rw (job_is, e) refl)
      by_outcome outcomes.Fragmented e none = plainly (rw (job_is, e) refl)
