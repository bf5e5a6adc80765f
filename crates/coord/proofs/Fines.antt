-- Rows of a coordinator whose orders are sound, and of which each that makes a document is for one reason: what they leave.
use Rattle.seen_facts.specs.Asked.Asking.{ArePlain}
use Rattle.coord.specs.Standing.{MoveNobody}
use Rattle.seen_facts.specs.Hang.Members.{Has}
use Rattle.log_model.specs.Seen.{Seen}
use Rattle.log_model.specs.declared.job.Job.{Job}
use Rattle.log_model.specs.declared.job.Task.{Task}
use Rattle.log_model.specs.declared.job.Why.{Why}
use Rattle.log_model.specs.declared.request.Mode.{Mode}
use Rattle.log_model.specs.declared.row_kind.RowKind.{RowKind}
use Rattle.tab_facts.proofs.Order.Rows.{coord_within, orders_on, orders_over}
use Rattle.tab_facts.specs.Order.Orders.{IsOfCoord}
use Rattle.seen_laws.specs.InEvent.{InEvent, now_of, EachGoes}
use Rattle.std.proofs.Common.{List, Option, [], ap, false, inl, inr, refl, subst, sym, ℕ, ◌∙◌, ◌∷◌, ◌≡◌}
use Rattle.tab_ids.specs.declared.NavId.{NavId}
use Rattle.tab_ids.specs.declared.ReqId.{ReqId}
use Rattle.tab_ids.specs.declared.StateId.{StateId}
use Rattle.tab_stands.proofs.PassedOn.{cause_more, sound_more}
use Rattle.tab_stands.specs.PassedOn.{IsMake, IsOfItsLoad, IsSoundTask, MakesServe, MayCause, OrdersAreSound}
use Rattle.log_model.specs.declared.job.Task.TheVariants as tasks
use Rattle.log_model.specs.declared.row_kind.RowKind.TheVariants as rows

-- the row changes nothing
abbrev pub AppliesNone : RowKind → Type 0
AppliesNone (rows.Applied req change) = ⊥
AppliesNone _ = Unit {0}

pub record IsFine (n : Seen) (why : Why) (row : RowKind) : Type 0 where
  pub coord : IsOfCoord row
  pub plain : AppliesNone row
  pub makes : (job : Job) → row ≡ rows.Sent job → IsMake job.task → job.why ≡ why
  pub sound : (job : Job) → row ≡ rows.Sent job → IsSoundTask n job.doc job.task

same_job : (a b : Job) → rows.Sent a ≡ rows.Sent b → a ≡ b
same_job a b is = cc

module _ (n : Seen) (why : Why) where
  pub no_job : (row : RowKind) → IsOfCoord row → AppliesNone row → ((job : Job) → row ≡ rows.Sent job → ⊥) → IsFine n why row
  no_job row coord plain never = record { coord = coord; plain = plain; makes = λ job is make. absurd (never job is); sound = λ job is. absurd (never job is) }

  -- an order that sends the load's document to a fragment
  pub fine_fragment : (job : Job) (req : ReqId) (mode : Mode) (address : List ℕ) → job.task ≡ tasks.DoFragment req mode address → IsOfItsLoad n job.doc req → IsFine n why (rows.Sent job)
  fine_fragment job req mode address task its =
      record {
        coord = tt;
        plain = tt;
        makes = λ other is make. absurd (subst (λ (t : Task). IsMake t) task (subst (λ (j : Job). IsMake j.task) (sym (same_job job other is)) make));
        sound = λ other is. subst (λ (j : Job). IsSoundTask n j.doc j.task) (same_job job other is) (subst (λ (t : Task). IsSoundTask n job.doc t) (sym task) its);
      }

  -- one that makes its document
  pub fine_populate : (job : Job) (nav : NavId) (state : StateId) (address : List ℕ) → job.task ≡ tasks.Populate nav state address false → job.why ≡ why → IsFine n why (rows.Sent job)
  fine_populate job nav state address task its =
      record {
        coord = tt;
        plain = tt;
        makes = λ other is make. ap (λ (j : Job). j.why) (sym (same_job job other is)) ∙ its;
        sound = λ other is. subst (λ (j : Job). IsSoundTask n j.doc j.task) (same_job job other is) (subst (λ (t : Task). IsSoundTask n job.doc t) (sym task) tt);
      }

  -- one that discards a document
  pub fine_discard : (job : Job) → job.task ≡ tasks.Discard → IsFine n why (rows.Sent job)
  fine_discard job task =
      record {
        coord = tt;
        plain = tt;
        makes = λ other is make. absurd (subst (λ (t : Task). IsMake t) task (subst (λ (j : Job). IsMake j.task) (sym (same_job job other is)) make));
        sound = λ other is. subst (λ (j : Job). IsSoundTask n j.doc j.task) (same_job job other is) (subst (λ (t : Task). IsSoundTask n job.doc t) (sym task) tt);
      }

  pub one_fine : (first : RowKind) → IsFine n why first → (row : RowKind) → Has (first ∷ []) row → IsFine n why row
  one_fine first fine row (inl is) = subst (λ (r : RowKind). IsFine n why r) is fine
  one_fine first fine row (inr never) = absurd never

  pub more_fine : (first : RowKind) (later : List RowKind) → IsFine n why first → ((row : RowKind) → Has later row → IsFine n why row) → (row : RowKind) → Has (first ∷ later) row → IsFine n why row
  more_fine first later fine rest row (inl is) = subst (λ (r : RowKind). IsFine n why r) is fine
  more_fine first later fine rest row (inr has) = rest row has

-- they move nobody
pub fine_moves : (n s : Seen) (why : Why) (out : List RowKind) → ((row : RowKind) → Has out row → IsFine n why row) → MoveNobody s out
fine_moves n s why out fine req change has = absurd (fine (rows.Applied req change) has).plain

-- what goes on over such rows
module _ (e : InEvent) (run : Option ReqId) (out : List RowKind) (goes : EachGoes e [] out) (why : Why) (plain : ArePlain run (now_of e out)) (may : MayCause (now_of e out) why) (fine : (row : RowKind) → Has out row → IsFine (now_of e out) why row) where
  abbrev serves : Job → Type 0
  serves job = IsMake job.task → MayCause (now_of e out) job.why

  pub makes_over : MakesServe (now_of e []) → MakesServe (now_of e out)
  makes_over makes =
      orders_over serves e out [] goes (λ row has. coord_within row (fine row has).coord) (λ job has make. subst (λ (w : Why). MayCause (now_of e out) w) (sym ((fine (rows.Sent job) has).makes job refl make)) may)
      (orders_on (λ (job : Job). IsMake job.task → MayCause (now_of e []) job.why) serves (now_of e []) (λ job its made. cause_more e run [] out goes (λ row has. (fine row has).coord) plain job.why (its made)) makes)

  pub sound_over : OrdersAreSound (now_of e []) → OrdersAreSound (now_of e out)
  sound_over sound = sound_more e out [] goes (λ row has. (fine row has).coord) (λ job has. (fine (rows.Sent job) has).sound job refl) sound
