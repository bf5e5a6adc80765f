-- Orders on their way that make documents are for what orders may be for, over an event's own row and a refusal.
use Rattle.tab_stands.specs.Standing.{IsOwnRead, seen_start}
use Rattle.seen_facts.proofs.Coord.Unread.{next}
use Rattle.log_model.specs.Seen.{Asked, Seen}
use Rattle.log_model.specs.declared.job.Job.{Job}
use Rattle.log_model.specs.declared.outcome.Denial.{Denial}
use Rattle.log_model.specs.declared.row_kind.Actor.{Actor}
use Rattle.log_model.specs.declared.row_kind.RowKind.{RowKind}
use Rattle.tab_facts.proofs.Order.Rows.{IsWithin, orders_after, orders_on}
use Rattle.tab_facts.specs.Order.Orders.{AreOrders, IsOfCoord}
use Rattle.seen_laws.specs.InEvent.{InEvent, now_of}
use Rattle.seen_laws.specs.Sending.{leads}
use Rattle.std.proofs.Common.{List, [], ap, false, inl, inr, refl, subst, sym, true, ℕ, ◌∙◌, ◌∷◌, ◌≡◌, ◌⊎◌}
use Rattle.tab_ids.specs.declared.ReqId.{ReqId}
use Rattle.tab_settles.specs.PassedOn.{MayServe}
use Rattle.tab_settles.specs.PassedOn.{MayCause}
use Rattle.tab_settles.proofs.Sounds.{KeepsWhat, sound_on}
use Rattle.tab_settles.specs.Settling.{HasPut, IsMake, IsPlainTask, IsSoundTask, MakesServe, OrdersAreSound}
use Rattle.tab_stands.proofs.Coming.{IsComing}
use Rattle.tab_ids.specs.declared.StateId.{StateId}
use Rattle.log_model.specs.declared.row_kind.RowKind.TheVariants as rows

-- a row that is no order
pub makes_after : (s n : Seen) (event : ℕ) (actor : Actor) (kind : RowKind) → IsWithin kind → ((job : Job) → kind ≡ rows.Sent job → ⊥) → ((req : ReqId) → MayServe s req → MayServe n req) → next s event actor kind ≡ n → MakesServe s → MakesServe n
makes_after s n event actor kind within unsent serves is makes =
    subst (λ (x : Seen). MakesServe x) is
    (orders_after served s event actor kind within (λ job sent. absurd (unsent job sent))
    (orders_on (λ (job : Job). IsMake job.task → MayCause s job.why) served s (λ job its made req why_is. subst (λ (x : Seen). MayServe x req) (sym is) (serves req (its made req why_is))) makes))
  where
    served : Job → Type 0
    served job = IsMake job.task → MayCause (next s event actor kind) job.why

-- ---- the own row

own_within : (kind : RowKind) → leads kind ≡ true → IsWithin kind
own_within (rows.Accepted req doc what) is = tt
own_within (rows.Answered req stay) is = tt
own_within (rows.Evicted state) is = tt
own_within (rows.Delivered proc) is = tt
own_within _ is = absurd (let never : false ≡ true = is in cc)

pub makes_first : (e : InEvent) → IsOwnRead e → leads e.own ≡ true → ((req : ReqId) → MayServe (seen_start e) req → MayServe (now_of e []) req) → MakesServe (seen_start e) → MakesServe (now_of e [])
makes_first e aside own serves makes =
    makes_after (seen_start e) (now_of e []) e.event e.actor e.own (own_within e.own own) unsent serves (sym aside) makes
  where
    unsent : (job : Job) → e.own ≡ rows.Sent job → ⊥
    unsent job is = let never : false ≡ true = sym (ap (λ (k : RowKind). leads k) is) ∙ own in absurd cc

-- ---- that they are sound

pub sound_after : (s n : Seen) (event : ℕ) (actor : Actor) (kind : RowKind) → IsWithin kind → ((job : Job) → kind ≡ rows.Sent job → ⊥) → KeepsWhat s n → next s event actor kind ≡ n → OrdersAreSound s → OrdersAreSound n
sound_after s n event actor kind within unsent keeps is sound =
    subst (λ (x : Seen). AreOrders here x) is (orders_after here s event actor kind within (λ job sent. absurd (unsent job sent)) (sound_on s n keeps sound))
  where
    here : Job → Type 0
    here job = IsSoundTask n job.doc job.task

pub sound_first : (e : InEvent) → IsOwnRead e → leads e.own ≡ true → KeepsWhat (seen_start e) (now_of e []) → OrdersAreSound (seen_start e) → OrdersAreSound (now_of e [])
sound_first e aside own keeps sound =
    sound_after (seen_start e) (now_of e []) e.event e.actor e.own (own_within e.own own) unsent keeps (sym aside) sound
  where
    unsent : (job : Job) → e.own ≡ rows.Sent job → ⊥
    unsent job is = let never : false ≡ true = sym (ap (λ (k : RowKind). leads k) is) ∙ own in absurd cc

pub keeps_coming : (blame : List (StateId × ReqId)) (s n : Seen) → IsComing blame s n → KeepsWhat s n
keeps_coming blame s n comes =
    record { asked = λ req q at. (let still = comes.asked req q at in (still.now, still.at, ap (λ (x : Asked). x.what) still.same)); homes = comes.homes }

-- ---- a refusal

-- it is the only row that is put out
pub refusal_put : (e : InEvent) (req : ReqId) (reason : Denial) → HasPut e [] (rows.Refused req reason ∷ [])
refusal_put e req reason = record { more = rows.Refused req reason ∷ []; is = refl; each = each; plain = plain; makes = makes }
  where
    plain : (job : Job) → (rows.Refused req reason ≡ rows.Sent job) ⊎ ⊥ → IsPlainTask job.task
    plain job (inl same) = absurd cc
    plain job (inr never) = absurd never

    each : (row : RowKind) → (rows.Refused req reason ≡ row) ⊎ ⊥ → IsOfCoord row
    each row (inl same) = subst (λ (k : RowKind). IsOfCoord k) same tt
    each row (inr never) = absurd never

    makes : (job : Job) → (rows.Refused req reason ≡ rows.Sent job) ⊎ ⊥ → IsMake job.task → MayCause (now_of e (rows.Refused req reason ∷ [])) job.why
    makes job (inl same) made = absurd cc
    makes job (inr never) made = absurd never
