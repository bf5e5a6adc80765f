-- A request that is no load with a document of its own ends: the last load that was applied is as it was, and where not all have stood since, they haven't, if not all stand.
use Rattle.seen_facts.proofs.Coord.Held.{on_else}
use Rattle.seen_facts.proofs.Coord.Unread.{next}
use Rattle.log_model.specs.After.{ended, is_new_step}
use Rattle.log_model.specs.AfterRequests.{entries_taken, on_request}
use Rattle.log_model.specs.Equal.{holds}
use Rattle.log_model.specs.Places.{all_stand, is_load, is_reload}
use Rattle.log_model.specs.Seen.{Asked, Seen, request_in, request_of}
use Rattle.log_model.specs.declared.change.Change.{Change}
use Rattle.log_model.specs.declared.outcome.Ending.{Ending}
use Rattle.log_model.specs.declared.row_kind.RowKind.{RowKind}
use Rattle.seen_facts.proofs.Load.Rows.{req_same}
use Rattle.seen_laws.specs.InEvent.{InEvent, row_of}
use Rattle.std.proofs.Common.{Bool, List, None, Option, Some, ap, false, not, refl, sym, true, ◌&&◌, ◌==◌, ◌||◌, ◌∙◌, ◌≡◌}
use Rattle.std.specs.Prelude.{if◌then◌else◌}
use Rattle.log_model.specs.Points.{ends_in}
use Rattle.tab_ids.specs.declared.ReqId.{ReqId}
use Rattle.tab_settles.proofs.Lates.{KeepsStep, unstood_by}
use Rattle.tab_settles.proofs.PassedOn.{by_end}
use Rattle.log_model.specs.declared.outcome.Ending.TheVariants as endings
use Rattle.log_model.specs.declared.row_kind.RowKind.TheVariants as rows

-- the request is open, and no reload, nor a load that has begun
pub record IsNoStep (s : Seen) (req : ReqId) : Type 0 where
  pub q : Asked
  pub there : request_of s req ≡ Some q
  pub unstarted : q.is_started ≡ false
  pub no_reload : is_reload q.what ≡ false
  pub unchanged : q.change ≡ None

module _ (e : InEvent) (s : Seen) where
  abbrev Keeps : RowKind → ReqId → Type 0
  Keeps kind req =
      IsNoStep s req → all_stand (next s e.event e.actor kind) (next s e.event e.actor kind).history.current ≡ false → KeepsStep s (next s e.event e.actor kind)

  -- each other request is as it was
  changes_by : (req : ReqId) → IsNoStep s req → (n : Seen) → ((r : ReqId) → (r.0 == req.0) ≡ false → request_of n r ≡ request_of s r) → (r : ReqId) (q : Asked) (change : Change) → request_of s r ≡ Some q → q.change ≡ Some change → (x : Asked) × (request_of n r ≡ Some x) × (x.change ≡ Some change)
  changes_by req its n others r q change at changed = by_test (r.0 == req.0) refl
    where
      by_test : (b : Bool) → (r.0 == req.0) ≡ b → (x : Asked) × (request_of n r ≡ Some x) × (x.change ≡ Some change)
      by_test false apart = (q, others r apart ∙ at, changed)
      by_test true same =
          let one : r ≡ req = req_same r req same in
          let both : Some its.q ≡ Some q = sym its.there ∙ ap (λ (x : ReqId). request_of s x) (sym one) ∙ at in
          let own : its.q ≡ q = cc in
          let never : None ≡ Some change = sym its.unchanged ∙ ap (λ (x : Asked). x.change) own ∙ changed in
          absurd cc

  ended_keeps : (req : ReqId) (ending : Ending) (kind : RowKind) → (next s e.event e.actor kind).requests ≡ ended s.requests req ending → (next s e.event e.actor kind).last_step ≡ s.last_step → (s.has_stood ≡ false → all_stand (next s e.event e.actor kind) (next s e.event e.actor kind).history.current ≡ false → (next s e.event e.actor kind).has_stood ≡ false) → Keeps kind req
  ended_keeps req ending kind requests last unstood its away =
      record {
        changes = changes_by req its (next s e.event e.actor kind) (λ r apart. ap (λ (l : List Asked). request_in l r) requests ∙ on_else s.requests req (λ (q : Asked). record q { ending = Some ending }) r apart);
        last = last;
        unstood = λ off. unstood off away;
      }

  applied_keeps : (req : ReqId) (change : Change) → Keeps (rows.Applied req change) req
  applied_keeps req change its away =
      record {
        changes = changes_by req its (next s e.event e.actor (rows.Applied req change)) others;
        last = ap (λ (b : Bool). if b then Some req else s.last_step) no_step;
        unstood = unstood_by s (record { event = e.event; actor = e.actor; row = rows.Applied req change }) (ap (λ (b : Bool). not b && s.has_stood) no_step) away;
      }
    where
      no_step : is_new_step s req ≡ false
      no_step =
          ap (λ (o : Option Asked). holds (λ (q : Asked). is_reload q.what || (is_load q.what && q.is_started)) o) its.there
          ∙ ap (λ (b : Bool). b || (is_load its.q.what && its.q.is_started)) its.no_reload
          ∙ ap (λ (b : Bool). is_load its.q.what && b) its.unstarted
          ∙ and_none (is_load its.q.what)
        where
          and_none : (b : Bool) → (b && false) ≡ false
          and_none true = refl
          and_none false = refl

      over : List Asked
      over = ended s.requests req endings.Applied

      said : List Asked
      said = on_request req (λ (q : Asked). record q { change = Some change }) over

      others : (r : ReqId) → (r.0 == req.0) ≡ false → request_of (next s e.event e.actor (rows.Applied req change)) r ≡ request_of s r
      others r apart =
          on_else said req (λ (q : Asked). record q { took = entries_taken s.history change }) r apart
          ∙ on_else over req (λ (q : Asked). record q { change = Some change }) r apart
          ∙ on_else s.requests req (λ (q : Asked). record q { ending = Some endings.Applied }) r apart

  pub step_ended : (kind : RowKind) (req : ReqId) → ends_in (row_of e kind) ≡ Some req → IsNoStep s req → all_stand (next s e.event e.actor kind) (next s e.event e.actor kind).history.current ≡ false → KeepsStep s (next s e.event e.actor kind)
  step_ended =
      by_end Keeps applied_keeps
      (λ req reason. ended_keeps req (endings.Refused reason) (rows.Refused req reason) refl refl (λ off away. unstood_by s (record { event = e.event; actor = e.actor; row = rows.Refused req reason }) refl away off))
      (λ req cause. ended_keeps req (endings.Dropped cause) (rows.Dropped req cause) refl refl (λ off away. unstood_by s (record { event = e.event; actor = e.actor; row = rows.Dropped req cause }) refl away off)) e
