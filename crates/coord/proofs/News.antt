-- An order that makes a document is to one that wasn't there, where the documents have numbers of their own.
use Rattle.seen_facts.proofs.Coord.Singles.{AreApart}
use Rattle.seen_facts.proofs.Coord.Unread.{next}
use Rattle.seen_facts.specs.Desk.Own.{IsFragmentTask}
use Rattle.seen_facts.proofs.Doc.Lives.{change_as, takes_in}
use Rattle.seen_facts.proofs.Hang.Members.{find_has, has_found, has_map, into_map}
use Rattle.seen_facts.specs.Hang.Members.{Has}
use Rattle.log_model.proofs.Refl.{nat_eq_refl}
use Rattle.log_model.specs.AfterDocuments.{addressed, documents_sent, new_document, on_document}
use Rattle.log_model.specs.Seen.{Document, Seen, document_of}
use Rattle.log_model.specs.declared.job.Job.{Job}
use Rattle.log_model.specs.declared.job.Task.{Task}
use Rattle.log_model.specs.declared.row_kind.Actor.{Actor}
use Rattle.log_model.specs.declared.row_kind.RowKind.{RowKind}
use Rattle.tab_facts.specs.Order.Orders.{IsOfCoord}
use Rattle.tab_facts.specs.Running.Fitting.{IsQuietOrder}
use Rattle.seen_laws.proofs.InEvents.{now_more, first_goes, rest_goes}
use Rattle.seen_laws.specs.InEvent.{InEvent, now_of, GoesThere, EachGoes}
use Rattle.std.proofs.Common.{Bool, List, None, Some, [], ap, append-nil, append_assoc, cond, eqb-true, false, inl, inr, map, refl, subst, sym, true, ℕ, ◌++◌, ◌==◌, ◌∙◌, ◌∷◌, ◌≡◌}
use Rattle.std.proofs.lemmas.List.{map-append}
use Rattle.tab_ids.specs.declared.DocId.{DocId}
use Rattle.tab_ids.specs.declared.NavId.{NavId}
use Rattle.tab_ids.specs.declared.StateId.{StateId}
use Rattle.log_model.specs.declared.job.Task.TheVariants as tasks
use Rattle.log_model.specs.declared.row_kind.RowKind.TheVariants as rows

-- ---- numbers of documents

-- of those that are there
abbrev numbers : List Document → List ℕ
numbers documents = map (λ (d : Document). d.nr.0) documents

-- of the one that an order makes, if it makes one
abbrev new_number : Job → Task → List ℕ
new_number job (tasks.Populate nav state address initial) = job.doc.0 ∷ []
new_number job _ = []

abbrev number_made : RowKind → List ℕ
number_made (rows.Sent job) = new_number job job.task
number_made _ = []

-- of those that rows have made
abbrev numbers_made : List RowKind → List ℕ
numbers_made [] = []
numbers_made (kind ∷ more) = number_made kind ++ numbers_made more

-- ---- over a row of a coordinator, and over some

numbers_same : (g : Document → Document) → ((d : Document) → (g d).nr ≡ d.nr) → (l : List Document) → numbers (map g l) ≡ numbers l
numbers_same g nr [] = refl
numbers_same g nr (d ∷ l) =
    ap (λ (n : DocId). n.0 ∷ numbers (map g l)) (nr d) ∙ ap (λ (m : List ℕ). d.nr.0 ∷ m) (numbers_same g nr l)

numbers_on : (doc : DocId) (f : Document → Document) → ((d : Document) → (f d).nr ≡ d.nr) → (l : List Document) → numbers (on_document doc f l) ≡ numbers l
numbers_on doc f nr l =
    numbers_same (λ (d : Document). cond (d.nr.0 == doc.0) (f d) d) (λ d. elim (d.nr.0 == doc.0) as (λ b. (let x : Document = cond b (f d) d in x).nr ≡ d.nr) [ true ↦ nr d | false ↦ refl ]) l

numbers_sent : (s : Seen) (job : Job) (task : Task) → numbers (documents_sent s job task) ≡ numbers s.documents ++ new_number job task
numbers_sent s job (tasks.Populate nav state address initial) =
    map-append (λ (d : Document). d.nr.0) s.documents (new_document s job nav state ∷ [])
numbers_sent s job tasks.Discard =
    numbers_on job.doc (λ (d : Document). record d { is_discarded = true }) (λ d. refl) s.documents ∙ sym (append-nil (numbers s.documents))
numbers_sent s job (tasks.Activate entry epoch length index memo address) =
    numbers_on job.doc (addressed (tasks.Activate entry epoch length index memo address)) (λ d. refl) s.documents ∙ sym (append-nil (numbers s.documents))
numbers_sent s job (tasks.Update length index) =
    numbers_on job.doc (addressed (tasks.Update length index)) (λ d. refl) s.documents ∙ sym (append-nil (numbers s.documents))
numbers_sent s job tasks.Freeze =
    numbers_on job.doc (addressed tasks.Freeze) (λ d. refl) s.documents ∙ sym (append-nil (numbers s.documents))
numbers_sent s job (tasks.Ask slot cause) =
    numbers_on job.doc (addressed (tasks.Ask slot cause)) (λ d. refl) s.documents ∙ sym (append-nil (numbers s.documents))
numbers_sent s job (tasks.DoFragment req mode address) =
    numbers_on job.doc (addressed (tasks.DoFragment req mode address)) (λ d. refl) s.documents ∙ sym (append-nil (numbers s.documents))

numbers_after : (s : Seen) (event : ℕ) (actor : Actor) (kind : RowKind) → IsOfCoord kind → numbers (next s event actor kind).documents ≡ numbers s.documents ++ number_made kind
numbers_after s event actor (rows.Sent job) fine = numbers_sent s job job.task
numbers_after s event actor (rows.Applied req change) fine =
    numbers_same (takes_in change) (λ d. (change_as change d).nr) s.documents ∙ sym (append-nil (numbers s.documents))
numbers_after s event actor (rows.Started req goal) fine = sym (append-nil (numbers s.documents))
numbers_after s event actor (rows.Refused req reason) fine = sym (append-nil (numbers s.documents))
numbers_after s event actor (rows.Dropped req cause) fine = sym (append-nil (numbers s.documents))
numbers_after s event actor _ fine = absurd fine

-- one row more
numbers_one : (e : InEvent) (was : List RowKind) (kind : RowKind) → GoesThere e was kind → IsOfCoord kind → numbers (now_of e (was ++ kind ∷ [])).documents ≡ numbers (now_of e was).documents ++ number_made kind
numbers_one e was kind goes fine =
    ap (λ (x : Seen). numbers x.documents) (now_more e was kind goes.read) ∙ numbers_after (now_of e was) e.event e.actor kind fine

numbers_over : (e : InEvent) (more was : List RowKind) → EachGoes e was more → ((row : RowKind) → Has more row → IsOfCoord row) → numbers (now_of e (was ++ more)).documents ≡ numbers (now_of e was).documents ++ numbers_made more
numbers_over e [] was goes fine =
    ap (λ (l : List RowKind). numbers (now_of e l).documents) (append-nil was) ∙ sym (append-nil (numbers (now_of e was).documents))
numbers_over e (kind ∷ more) was goes fine =
    sym (ap (λ (l : List RowKind). numbers (now_of e l).documents) (append_assoc was (kind ∷ []) more))
    ∙ numbers_over e more (was ++ kind ∷ []) (rest_goes e was more kind goes) (λ row has. fine row (inr has))
    ∙ ap (λ (m : List ℕ). m ++ numbers_made more) (numbers_one e was kind (first_goes e was more kind goes) (fine kind (inl refl)))
    ∙ append_assoc (numbers (now_of e was).documents) (number_made kind) (numbers_made more)

-- ---- no number comes twice

abbrev ComeOnce : List ℕ → Type 0
ComeOnce [] = Unit {0}
ComeOnce (n ∷ ns) = (Has ns n → ⊥) × ComeOnce ns

come_once : (l : List Document) → AreApart (λ (d : Document). d.nr.0) l → ComeOnce (numbers l)
come_once [] apart = tt
come_once (d ∷ l) apart = (none, come_once l apart.1)
  where
    none : Has (numbers l) d.nr.0 → ⊥
    none has =
        let it = has_map (λ (x : Document). x.nr.0) l d.nr.0 has in
        let same : (it.it.nr.0 == d.nr.0) ≡ true = ap (λ (n : ℕ). n == d.nr.0) it.is ∙ nat_eq_refl d.nr.0 in
        let found = has_found (λ (x : Document). x.nr.0 == d.nr.0) l it.it it.there same in
        let never : None ≡ Some found.0 = sym apart.0 ∙ found.1 in cc

has_behind : (xs ys : List ℕ) (n : ℕ) → Has ys n → Has (xs ++ ys) n
has_behind [] ys n has = has
has_behind (x ∷ xs) ys n has = inr (has_behind xs ys n has)

not_twice : (xs ys : List ℕ) (n : ℕ) → ComeOnce (xs ++ ys) → Has xs n → Has ys n → ⊥
not_twice [] ys n once never there = never
not_twice (x ∷ xs) ys n once (inl is) there =
    once.0 (has_behind xs ys x (subst (λ (k : ℕ). Has ys k) (sym is) there))
not_twice (x ∷ xs) ys n once (inr has) there = not_twice xs ys n once.1 has there

-- the number of the document that an order among the rows makes
number_has : (more : List RowKind) (job : Job) (nav : NavId) (state : StateId) (address : List ℕ) (initial : Bool) → job.task ≡ tasks.Populate nav state address initial → Has more (rows.Sent job) → Has (numbers_made more) job.doc.0
number_has [] job nav state address initial task never = absurd never
number_has (kind ∷ more) job nav state address initial task (inl is) =
    subst (λ (k : RowKind). Has (number_made k ++ numbers_made more) job.doc.0) (sym is) (subst (λ (t : Task). Has (new_number job t ++ numbers_made more) job.doc.0) (sym task) (inl refl))
number_has (kind ∷ more) job nav state address initial task (inr has) =
    has_behind (number_made kind) (numbers_made more) job.doc.0 (number_has more job nav state address initial task has)

-- ---- so an order among rows of a coordinator that is no fragment order makes only a document that wasn't there before them

module _ (e : InEvent) (more was : List RowKind) (goes : EachGoes e was more) (fine : (row : RowKind) → Has more row → IsOfCoord row) (apart : AreApart (λ (d : Document). d.nr.0) (now_of e (was ++ more)).documents) where
  abbrev base : Seen
  base = now_of e was

  there : (doc : DocId) (d : Document) → document_of (now_of e was) doc ≡ Some d → Has (numbers (now_of e was).documents) doc.0
  there doc d found =
      let its = find_has (λ (x : Document). x.nr.0 == doc.0) base.documents d found in
      subst (λ (n : ℕ). Has (numbers base.documents) n) (eqb-true d.nr.0 doc.0 its.1) (into_map (λ (x : Document). x.nr.0) base.documents d its.0)

  is_new : (job : Job) (nav : NavId) (state : StateId) (address : List ℕ) (initial : Bool) → job.task ≡ tasks.Populate nav state address initial → Has more (rows.Sent job) → (d : Document) → document_of (now_of e was) job.doc ≡ Some d → ⊥
  is_new job nav state address initial task has d found =
      not_twice (numbers base.documents) (numbers_made more) job.doc.0 (subst ComeOnce (numbers_over e more was goes fine) (come_once (now_of e (was ++ more)).documents apart)) (there job.doc d found)
      (number_has more job nav state address initial task has)

  pub is_quiet : (job : Job) → Has more (rows.Sent job) → (IsFragmentTask job.task → ⊥) → IsQuietOrder (now_of e was) job job.task
  is_quiet job has none = by_task job.task refl none
    where
      by_task : (task : Task) → job.task ≡ task → (IsFragmentTask task → ⊥) → IsQuietOrder (now_of e was) job task
      by_task (tasks.Populate nav state address initial) is other = is_new job nav state address initial is has
      by_task (tasks.DoFragment req mode address) is other = absurd (other tt)
      by_task (tasks.Activate entry epoch length index memo address) is other = tt
      by_task (tasks.Update length index) is other = tt
      by_task tasks.Freeze is other = tt
      by_task tasks.Discard is other = tt
      by_task (tasks.Ask slot cause) is other = tt
