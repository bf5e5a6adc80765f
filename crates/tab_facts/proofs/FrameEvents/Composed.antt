-- Between two events a tab of frames is composed, so that quiet is settled; and so is a tab that was just opened.
use Rattle.tab_facts.proofs.FrameTab.Plainly.{plain_passes}
use Rattle.tab_facts.specs.FrameTab.Asking.{IsFrameRequest, IsPlainlyAsked}
use Rattle.tab_facts.specs.FrameTab.Steady.{IsAskedBy}
use Rattle.tab_facts.specs.FrameTab.Whole.{IsFrameTab}
use Rattle.seen_facts.proofs.Hang.Members.{has_found, slice_has}
use Rattle.seen_facts.specs.Hang.Members.{Has}
use Rattle.log_model.proofs.Refl.{nat_eq_refl}
use Rattle.log_model.specs.Places.{has_passed, has_passed_with, is_gone, is_load, is_reload, is_traversal, is_under_way, passed_traversal}
use Rattle.log_model.specs.Queue.{is_step_under_way}
use Rattle.log_model.specs.Seen.{Asked, Seen, request_in}
use Rattle.log_model.specs.Settled.{is_settled_if_quiet}
use Rattle.log_model.specs.declared.request.Request.{Request}
use Rattle.tab_facts.specs.FrameWhole.Tab.{IsBetween}
use Rattle.seen_facts.specs.Each.Runs.{is_run, is_this}
use Rattle.seen_facts.specs.Request.Whereabouts.{is_of_load}
use Rattle.seen_facts.proofs.Rest.Settled.{quiet_settles}
use Rattle.std.proofs.Common.{Bool, List, None, Option, Some, [], ap, cond, false, refl, sym, true, ◌&&◌, ◌-◌, ◌==◌, ◌||◌, ◌∙◌, ◌≡◌}
use Rattle.std.proofs.lemmas.Bool.{and_parts}
use Rattle.std.specs.Prelude.{slice_get}
use Rattle.seen_facts.specs.Rest.Between.{IsPlain, IsComposed}
use Rattle.tab_ids.specs.declared.ProcId.{ProcId}
use Rattle.tab_ids.specs.declared.ReqId.{ReqId}
use Rattle.log_model.specs.declared.request.Request.TheVariants as requests

-- a frame's request is no load and no reload
pub no_load : (what : Request) → IsFrameRequest what → is_load what ≡ false
no_load (requests.Go delta) is = refl
no_load (requests.Poke nav action) is = refl
no_load (requests.Load nav mode address) never = absurd never
no_load (requests.Reload nav) never = absurd never

pub no_reload : (what : Request) → IsFrameRequest what → is_reload what ≡ false
no_reload (requests.Go delta) is = refl
no_reload (requests.Poke nav action) is = refl
no_reload (requests.Load nav mode address) never = absurd never
no_reload (requests.Reload nav) never = absurd never

-- one of the two, and not the second
the_first : (a b : Bool) → (a || b) ≡ true → b ≡ false → a ≡ true
the_first true b e none = refl
the_first false b e none = (let never : true ≡ false = sym e ∙ none in absurd cc)

-- a request that is found by its number is there
pub asked_has : (asked : List Asked) (req : ReqId) (q : Asked) → request_in asked req ≡ Some q → Has asked q
asked_has asked req q = by_number (req.0 == 0)
  where
    by_number : (b : Bool) → cond b None (slice_get asked (req.0 - 1)) ≡ Some q → Has asked q
    by_number true e = absurd cc
    by_number false e = slice_has asked (req.0 - 1) q e

module _ (home : ProcId) (run : Option ReqId) (s : Seen) (is : IsBetween home run s) where
  framed : IsFrameTab home run [] s
  framed = is.tab.framed

  loads : (req : ReqId) → is_of_load (request_in s.requests req) ≡ false
  loads req = by_found (request_in s.requests req) refl
    where
      by_found : (o : Option Asked) → request_in s.requests req ≡ o → is_of_load o ≡ false
      by_found None e = refl
      by_found (Some q) e = no_load q.what (framed.asked.each req q e).what

  stepping : (req : ReqId) (q : Asked) → request_in s.requests req ≡ Some q → is_step_under_way q ≡ true → (is_traversal q.what ≡ true) × (has_passed s q ≡ true)
  stepping req q at going =
      let plainly : IsPlainlyAsked req q = framed.asked.each req q at in
      (the_first (is_traversal q.what) (is_reload q.what) (and_parts (is_under_way q) (is_traversal q.what || is_reload q.what) going).1 (no_reload q.what plainly.what), plain_passes (is_gone s) req q plainly)

  -- the traversal that runs has passed its check
  unparked : passed_traversal s ≡ None → s.parked ≡ []
  unparked none = is.held (by_run run refl)
    where
      by_run : (r : Option ReqId) → run ≡ r → run ≡ None
      by_run None e = e
      by_run (Some req) e =
          let there : IsAskedBy s.requests run = framed.asked.runs req e in
          let runs : is_run there.q ≡ true = framed.asked.only there.req there.q there.there ∙ ap (λ (r : Option ReqId). is_this r there.req) there.is ∙ nat_eq_refl there.req.0 in
          let passes : (is_under_way there.q && is_traversal there.q.what && has_passed s there.q) ≡ true = rw (plain_passes (is_gone s) there.req there.q (framed.asked.each there.req there.q there.there)) (let parts = and_parts (is_under_way there.q) (is_traversal there.q.what) runs in rw parts.0 (rw parts.1 refl)) in
          let found = has_found (λ (q : Asked). is_under_way q && is_traversal q.what && has_passed_with (is_gone s) q) s.requests there.q (asked_has s.requests there.req there.q there.there) passes in
          let never : None ≡ Some found.0 = sym none ∙ found.1 in absurd cc

  pub between_plain : IsPlain s
  between_plain =
      record {
        alive = λ doc d found. (framed.documents doc d found).alive.lives;
        unknown = λ doc d found. (framed.documents doc d found).alive.unknown;
        unlost = λ nav place found. (framed.steady nav place found).unlost;
        swept = is.swept;
        no_loads = loads;
        steps = stepping;
        unparked = unparked;
      }

  pub between_composed : IsComposed s
  between_composed =
      record {
        sound = is.tab.sound;
        hangs = is.tab.hangs;
        homes = is.tab.homes;
        kept = is.tab.kept;
        served = is.served;
        ways = is.tab.ways;
        rests = is.tab.rests;
        flows = is.flows;
        once = is.tab.once;
        told = is.told;
        stepped = is.stepped;
        plain = between_plain;
      }

  pub between_settled : is_settled_if_quiet s ≡ true
  between_settled = quiet_settles s between_composed
