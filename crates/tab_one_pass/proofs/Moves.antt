-- Where a traversal runs, whom it hasn't moved stays where it is to be over a pass: no row but an order of the walk shows a document, which is for the traversal then, and no request but a load is dropped.
use Rattle.seen_laws.specs.Unasked.{is_question}
use Rattle.tab_serves.proofs.Orders.{walk_quiet, tells_quiet}
use Rattle.tab_doors.proofs.PassedOn.{dropped_goes, sent_goes}
use Rattle.tab_facts.proofs.Calm.Moves.{AreUnmoved, unmoved_dropped, unmoved_sent}
use Rattle.tab_facts.specs.Calm.Calm.{ShowsOne}
use Rattle.seen_facts.proofs.Hang.Members.{has_map}
use Rattle.seen_facts.specs.Hang.Members.{Has}
use Rattle.seen_facts.proofs.Load.Rows.{req_same}
use Rattle.seen_facts.specs.Load.Loading.{Look, look, look_of}
use Rattle.log_model.specs.After.{after}
use Rattle.log_model.specs.Places.{is_load, is_traversal}
use Rattle.log_model.specs.Seen.{Seen}
use Rattle.log_model.specs.declared.job.Job.{Job}
use Rattle.log_model.specs.declared.job.Task.{Task}
use Rattle.log_model.specs.declared.job.Why.{Why}
use Rattle.log_model.specs.declared.outcome.Cause.{Cause}
use Rattle.log_model.specs.declared.request.Request.{Request}
use Rattle.log_model.specs.declared.row_kind.RowKind.{RowKind}
use Rattle.seen_laws.specs.InEvent.{InEvent, now_of, row_of, GoesThere}
use Rattle.std.proofs.Common.{Bool, List, Some, ap, false, map, refl, subst, sym, true, ◌&&◌, ◌==◌, ◌∙◌, ◌≡◌}
use Rattle.std.proofs.lemmas.Bool.{and_parts}
use Rattle.std.specs.Prelude.{is_none, option_map}
use Rattle.tab_drops.specs.Dropping.{Drop, HasOnlyDropped, IsLoadOf, row_of_drop}
use Rattle.tab_ids.specs.declared.NavId.{NavId}
use Rattle.tab_ids.specs.declared.ReqId.{ReqId}
use Rattle.tab_ids.specs.declared.StateId.{StateId}
use Rattle.tab_one_pass.specs.Passing.{HasPutOut}
use Rattle.tab_serves.proofs.Calms.{only_as}
use Rattle.tab_serves.specs.Serving.{HasOnly, IsServeFor}
use Rattle.tab_serves.specs.PassedOn.{IsUpdateFor, length_index}
use Rattle.tab_sweeps.specs.Sweeping.{HasOnlySwept, IsSweepOf}
pub use Rattle.tab_serves.proofs.PassedOn.{over_each, over_with}
use Rattle.log_model.specs.declared.job.Task.TheVariants as tasks
use Rattle.log_model.specs.declared.job.Why.TheVariants as whys
use Rattle.log_model.specs.declared.request.Request.TheVariants as requests
use Rattle.log_model.specs.declared.row_kind.RowKind.TheVariants as rows

-- ---- rows that leave them

-- an order that shows a document only for the traversal
record IsOrderFor (run : ReqId) (row : RowKind) : Type 0 where
  job : Job
  is : row ≡ rows.Sent job
  quiet : is_question job.task ≡ false
  shows : ShowsOne job.task → job.why ≡ whys.Req run

-- another request is dropped
record IsOtherDrop (run : ReqId) (row : RowKind) : Type 0 where
  req : ReqId
  cause : Cause
  is : row ≡ rows.Dropped req cause
  apart : (run.0 == req.0) ≡ false

module _ (e : InEvent) (run : ReqId) where
  orders_unmoved : (was out : List RowKind) → HasOnly (IsOrderFor run) was out → AreUnmoved run (now_of e was) → AreUnmoved run (now_of e out)
  orders_unmoved = over_each (IsOrderFor run) (AreUnmoved run) e (λ mid row it. subst (GoesThere e mid) (sym it.is) (sent_goes e mid it.job it.quiet)) one
    where
      one : (x : Seen) (row : RowKind) → IsOrderFor run row → AreUnmoved run x → AreUnmoved run (after x (row_of e row))
      one x row it are =
          subst (λ (k : RowKind). AreUnmoved run (after x (row_of e k))) (sym it.is) (unmoved_sent x e.event e.actor it.job run are it.shows)

  drops_unmoved : (was out : List RowKind) → HasOnly (IsOtherDrop run) was out → AreUnmoved run (now_of e was) → AreUnmoved run (now_of e out)
  drops_unmoved = over_each (IsOtherDrop run) (AreUnmoved run) e (λ mid row it. subst (GoesThere e mid) (sym it.is) (dropped_goes e mid it.req it.cause)) one
    where
      one : (x : Seen) (row : RowKind) → IsOtherDrop run row → AreUnmoved run x → AreUnmoved run (after x (row_of e row))
      one x row it are =
          subst (λ (k : RowKind). AreUnmoved run (after x (row_of e k))) (sym it.is) (unmoved_dropped x e.event e.actor it.req it.cause run it.apart are)

  -- ---- those of a pass

  -- a load isn't the traversal that runs
  load_apart : (s : Seen) → AreUnmoved run s → (req : ReqId) (nav : NavId) → IsLoadOf s req nav → (run.0 == req.0) ≡ false
  load_apart s are req nav load = by_test (run.0 == req.0) refl
    where
      apart : (what : Request) → is_load what ≡ true → is_traversal what ≡ true → ⊥
      apart (requests.Load n mode address) is goes = let never : false ≡ true = goes in cc
      apart _ is goes = let never : false ≡ true = is in cc

      by_test : (b : Bool) → (run.0 == req.0) ≡ b → (run.0 == req.0) ≡ false
      by_test false is = is
      by_test true is =
          let one : run ≡ req = req_same run req is in
          let both : Some (look are.q) ≡ Some load.look = sym (ap (option_map look) are.found) ∙ ap (λ (r : ReqId). look_of s r) one ∙ load.at in
          let same : look are.q ≡ load.look = cc in
          absurd (apart are.q.what (ap (λ (l : Look). is_load l.what) same ∙ (and_parts (load.look.is_started && is_none load.look.ending) (is_load load.look.what) load.ongoing).1) are.traverses)

  dropped_unmoved : (Is : Drop → Type 0) (was out : List RowKind) → HasOnlyDropped Is was out → ((d : Drop) → Is d → (run.0 == d.req.0) ≡ false) → AreUnmoved run (now_of e was) → AreUnmoved run (now_of e out)
  dropped_unmoved Is was out only apart = drops_unmoved was out (record { more = map row_of_drop only.drops; is = only.is; each = each })
    where
      each : (row : RowKind) → Has (map row_of_drop only.drops) row → IsOtherDrop run row
      each row has =
          let b = has_map row_of_drop only.drops row has in
          record { req = b.it.req; cause = b.it.cause; is = sym b.is; apart = apart b.it (only.each b.it b.there) }

  swept_unmoved : (s : Seen) (blame : List (StateId × ReqId)) (was out : List RowKind) → HasOnlySwept s blame was out → AreUnmoved run (now_of e was) → AreUnmoved run (now_of e out)
  swept_unmoved s blame was out only = orders_unmoved was out (record { more = only.more; is = only.is; each = λ row has. one row (only.each row has) })
    where
      one : (row : RowKind) → IsSweepOf s blame row → IsOrderFor run row
      one row it =
          record { job = it.job; is = it.is; quiet = ap is_question it.discards; shows = λ shows. absurd (subst (λ (k : Task). ShowsOne k) it.discards shows) }

  told_unmoved : (why : Why) (was out : List RowKind) → HasOnly (IsUpdateFor why) was out → AreUnmoved run (now_of e was) → AreUnmoved run (now_of e out)
  told_unmoved why was out only = orders_unmoved was out (only_as (IsUpdateFor why) (IsOrderFor run) was out one only)
    where
      tells : (task : Task) → length_index task ≡ true → ShowsOne task → ⊥
      tells (tasks.Activate entry epoch long at memo address) is shows = let never : false ≡ true = is in cc
      tells _ is shows = absurd shows

      one : (row : RowKind) → IsUpdateFor why row → IsOrderFor run row
      one (rows.Sent job) it = record { job = job; is = refl; quiet = tells_quiet job.task it.1; shows = λ shows. absurd (tells job.task it.1 shows) }
      one _ it = absurd it

  pub put_unmoved : (cause tells : Why) (was out : List RowKind) → HasPutOut e (Some run) cause tells was out → AreUnmoved run (now_of e was) → AreUnmoved run (now_of e out)
  put_unmoved cause tells was out puts are =
      told_unmoved tells puts.served out puts.told
      (orders_unmoved puts.cleared puts.served (only_as (IsServeFor (Some run) cause) (IsOrderFor run) puts.cleared puts.served (λ row it. record { job = it.job; is = it.is; quiet = walk_quiet it.job.task it.serves; shows = it.shows }) puts.serves) cleared)
    where
      given : AreUnmoved run (now_of e puts.given)
      given =
          dropped_unmoved _ was puts.given puts.gives (λ d it. load_apart (now_of e was) are d.req it.nav it.load) are

      swept : AreUnmoved run (now_of e puts.clears.swept)
      swept = swept_unmoved (now_of e puts.given) puts.blame puts.given puts.clears.swept puts.clears.sweeps given

      cleared : AreUnmoved run (now_of e puts.cleared)
      cleared =
          dropped_unmoved _ puts.clears.swept puts.cleared puts.clears.destroys (λ d it. load_apart (now_of e puts.clears.swept) swept d.req it.nav it.load) swept
