-- Orders on their way are sound over the rows that an event puts out: nobody is asked, and documents are sent to fragments for loads of their own navigables.
use Rattle.seen_facts.proofs.Coord.Unread.{next}
use Rattle.seen_facts.specs.Hang.Members.{Has}
use Rattle.seen_facts.proofs.Load.Docs.{AreSame, changed_docs}
use Rattle.log_model.specs.Points.{nav_of_request}
use Rattle.log_model.specs.Seen.{Asked, Document, Seen, document_of, request_of}
use Rattle.log_model.specs.declared.job.Job.{Job}
use Rattle.log_model.specs.declared.job.Task.{Task}
use Rattle.log_model.specs.declared.row_kind.Actor.{Actor}
use Rattle.log_model.specs.declared.row_kind.RowKind.{RowKind}
use Rattle.tab_facts.proofs.Order.Rows.{coord_within, orders_on, orders_over}
use Rattle.tab_facts.proofs.Order.Stills.{still_over}
use Rattle.tab_facts.specs.Order.Orders.{AreOrders, IsOfCoord}
use Rattle.row_facts.specs.Owed.Owed.{IsStill}
use Rattle.seen_laws.proofs.InEvents.{now_step, first_goes, rest_goes, since_goes}
use Rattle.seen_laws.proofs.Keyed.{find_map}
use Rattle.seen_laws.specs.InEvent.{InEvent, now_of, EachGoes}
use Rattle.std.proofs.Common.{List, Option, Some, [], ap, append-nil, append_assoc, inl, inr, refl, subst, sym, ℕ, ◌++◌, ◌==◌, ◌∙◌, ◌∷◌, ◌≡◌}
use Rattle.std.specs.Prelude.{find, option_map}
use Rattle.tab_ids.specs.declared.DocId.{DocId}
use Rattle.tab_ids.specs.declared.NavId.{NavId}
use Rattle.tab_ids.specs.declared.ReqId.{ReqId}
use Rattle.tab_settles.proofs.PutOuts.{sent_homes}
use Rattle.tab_settles.specs.Settling.{HasPut, IsPlainTask, IsSoundTask, OrdersAreSound}
use Rattle.log_model.specs.declared.job.Task.TheVariants as tasks
use Rattle.log_model.specs.declared.row_kind.RowKind.TheVariants as rows

-- ---- where requests ask what they asked, and documents are their navigables'

pub record KeepsWhat (s n : Seen) : Type 0 where
  pub asked : (req : ReqId) (q : Asked) → request_of s req ≡ Some q → (now : Asked) × (request_of n req ≡ Some now) × (now.what ≡ q.what)
  pub homes : (doc : DocId) (d : Document) → document_of s doc ≡ Some d → (now : Document) × (document_of n doc ≡ Some now) × (now.nav ≡ d.nav)

pub keeps_then : (s t u : Seen) → KeepsWhat s t → KeepsWhat t u → KeepsWhat s u
keeps_then s t u one two =
    record {
      asked = λ req q at. (let mid = one.asked req q at in let last = two.asked req mid.0 mid.1 in (last.0, last.1, last.2 ∙ mid.2));
      homes = λ doc d found. (let mid = one.homes doc d found in let last = two.homes doc mid.0 mid.1 in (last.0, last.1, last.2 ∙ mid.2));
    }

sound_still : (s n : Seen) → KeepsWhat s n → (doc : DocId) (task : Task) → IsSoundTask s doc task → IsSoundTask n doc task
sound_still s n keeps doc (tasks.DoFragment req mode address) its =
    let q = keeps.asked req its.q its.found in
    let d = keeps.homes doc its.d its.there in
    record {
      q = q.0;
      found = q.1;
      d = d.0;
      there = d.1;
      its = ap nav_of_request q.2 ∙ its.its ∙ ap (λ (x : NavId). let o : Option NavId = Some x in o) (sym d.2);
    }
sound_still s n keeps doc (tasks.Ask slot cause) never = absurd never
sound_still s n keeps doc (tasks.Populate nav state address initial) its = tt
sound_still s n keeps doc (tasks.Activate entry epoch long at memo address) its = tt
sound_still s n keeps doc (tasks.Update long at) its = tt
sound_still s n keeps doc tasks.Freeze its = tt
sound_still s n keeps doc tasks.Discard its = tt

-- what was so of the orders is so by what the log has come to then
pub sound_on : (s n : Seen) → KeepsWhat s n → OrdersAreSound s → AreOrders (λ (job : Job). IsSoundTask n job.doc job.task) s
sound_on s n keeps =
    orders_on (λ (job : Job). IsSoundTask s job.doc job.task) (λ (job : Job). IsSoundTask n job.doc job.task) s (λ job its. sound_still s n keeps job.doc job.task its)

-- ---- over rows of a coordinator

-- a document is its navigable's over each
docs_after : (s : Seen) (event : ℕ) (actor : Actor) (kind : RowKind) → IsOfCoord kind → (doc : DocId) (d : Document) → document_of s doc ≡ Some d → (now : Document) × (document_of (next s event actor kind) doc ≡ Some now) × (now.nav ≡ d.nav)
docs_after s event actor (rows.Sent job) is doc d found = sent_homes s job job.task doc d found
docs_after s event actor (rows.Started req goal) is doc d found = (d, found, refl)
docs_after s event actor (rows.Applied req change) is doc d found =
    let same : AreSame s.documents (next s event actor (rows.Applied req change)).documents = changed_docs change s.documents in (
      same.g d,
      ap (λ (l : List Document). find (λ (x : Document). x.nr.0 == doc.0) l) same.are
          ∙ find_map (λ (x : Document). x.nr.0) same.g doc.0 s.documents (λ x. ap (λ (n : DocId). n.0) (same.keeps.nr x))
          ∙ ap (λ (o : Option Document). option_map same.g o) found,
      same.keeps.nav d,
    )
docs_after s event actor (rows.Refused req reason) is doc d found = (d, found, refl)
docs_after s event actor (rows.Dropped req cause) is doc d found = (d, found, refl)
docs_after s event actor _ is doc d found = absurd is

module _ (e : InEvent) where
  docs_over : (more was : List RowKind) → EachGoes e was more → ((kind : RowKind) → Has more kind → IsOfCoord kind) → (doc : DocId) (d : Document) → document_of (now_of e was) doc ≡ Some d → (now : Document) × (document_of (now_of e (was ++ more)) doc ≡ Some now) × (now.nav ≡ d.nav)
  docs_over [] was goes fine doc d found = (d, ap (λ (l : List RowKind). document_of (now_of e l) doc) (append-nil was) ∙ found, refl)
  docs_over (kind ∷ more) was goes fine doc d found =
      let one : IsThen (now_of e (was ++ kind ∷ [])) = now_step IsThen e was kind (first_goes e was more kind goes) (λ was_. docs_after (now_of e was) e.event e.actor kind (fine kind (inl refl)) doc d found) (d, found, refl) in
      let two = docs_over more (was ++ kind ∷ []) (rest_goes e was more kind goes) (λ k has. fine k (inr has)) doc one.0 one.1 in
      (two.0, ap (λ (l : List RowKind). document_of (now_of e l) doc) (sym (append_assoc was (kind ∷ []) more)) ∙ two.1, two.2 ∙ one.2)
    where
      IsThen : Seen → Type 0
      IsThen x = (now : Document) × (document_of x doc ≡ Some now) × (now.nav ≡ d.nav)

  keeps_over : (more was : List RowKind) → EachGoes e was more → ((kind : RowKind) → Has more kind → IsOfCoord kind) → KeepsWhat (now_of e was) (now_of e (was ++ more))
  keeps_over more was goes fine =
      record {
        asked = λ req q at. (let still : IsStill (now_of e (was ++ more)) req q = still_over e more was goes fine req q at in (still.r, still.at, still.what));
        homes = docs_over more was goes fine;
      }

  plain_sound : (s : Seen) (doc : DocId) (task : Task) → IsPlainTask task → IsSoundTask s doc task
  plain_sound s doc (tasks.Ask slot cause) never = absurd never
  plain_sound s doc (tasks.DoFragment req mode address) never = absurd never
  plain_sound s doc (tasks.Populate nav state address initial) its = tt
  plain_sound s doc (tasks.Activate entry epoch long at memo address) its = tt
  plain_sound s doc (tasks.Update long at) its = tt
  plain_sound s doc tasks.Freeze its = tt
  plain_sound s doc tasks.Discard its = tt

  -- of those that are sent it is so, and of the others still
  pub sound_more : (more was : List RowKind) → EachGoes e was more → ((kind : RowKind) → Has more kind → IsOfCoord kind) → ((job : Job) → Has more (rows.Sent job) → IsSoundTask (now_of e (was ++ more)) job.doc job.task) → OrdersAreSound (now_of e was) → OrdersAreSound (now_of e (was ++ more))
  sound_more more was goes fine sent sound =
      orders_over (λ (job : Job). IsSoundTask (now_of e (was ++ more)) job.doc job.task) e more was goes (λ kind has. coord_within kind (fine kind has)) sent
      (sound_on (now_of e was) (now_of e (was ++ more)) (keeps_over more was goes fine) sound)

  pub put_sound : (was out : List RowKind) → EachGoes e [] out → HasPut e was out → OrdersAreSound (now_of e was) → OrdersAreSound (now_of e out)
  put_sound was out goes put sound =
      subst (λ (l : List RowKind). OrdersAreSound (now_of e l)) (sym put.is)
      (sound_more put.more was (since_goes e was put.more out put.is goes) put.each (λ job has. plain_sound (now_of e (was ++ put.more)) job.doc job.task (put.plain job has)) sound)
