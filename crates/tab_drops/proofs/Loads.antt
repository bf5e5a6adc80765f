-- An ongoing load of a navigable: its request, and what others there are.
use Rattle.seen_facts.proofs.Hang.Forms.{nav_is}
use Rattle.seen_facts.specs.Load.Loading.{AreLoading, Look, is_ongoing, look}
use Rattle.seen_facts.specs.LoadTies.Tying.{HasLoad, TiesLoads}
use Rattle.load_table.specs.declared.load.Load.{Load}
use Rattle.log_model.specs.Once.{loads}
use Rattle.log_model.specs.Places.{is_load, is_ongoing_load}
use Rattle.log_model.specs.Seen.{Asked, Seen, request_in, request_of}
use Rattle.log_model.specs.declared.outcome.Ending.{Ending}
use Rattle.log_model.specs.declared.request.Mode.{Mode}
use Rattle.log_model.specs.declared.request.Request.{Request}
use Rattle.std.proofs.Common.{Bool, List, None, Option, Some, ap, false, refl, sym, true, ℕ, ◌&&◌, ◌∙◌, ◌≡◌}
use Rattle.std.specs.Prelude.{is_none, option_map}
use Rattle.tab_drops.specs.Dropping.{IsLoadOf, LeavesAll}
use Rattle.tab_ids.specs.declared.NavId.{NavId}
use Rattle.tab_ids.specs.declared.ReqId.{ReqId}
use Rattle.log_model.specs.declared.request.Request.TheVariants as requests

-- what asks for a load of the navigable
pub record IsNavLoad (nav : NavId) (what : Request) : Type 0 where
  pub mode : Mode
  pub address : List ℕ
  pub is : what ≡ requests.Load nav mode address

pub nav_load : (nav : NavId) (what : Request) → loads nav what ≡ true → IsNavLoad nav what
nav_load nav (requests.Load n mode address) is =
    record { mode = mode; address = address; is = ap (λ (x : NavId). requests.Load x mode address) (nav_is n nav is) }
nav_load nav (requests.Go delta) is = absurd cc
nav_load nav (requests.Reload n) is = absurd cc
nav_load nav (requests.Poke n action) is = absurd cc

-- the request, as the log has it
pub record IsAskedFor (s : Seen) (req : ReqId) (nav : NavId) : Type 0 where
  pub q : Asked
  pub at : request_of s req ≡ Some q
  pub ongoing : is_ongoing_load q ≡ true
  pub loads_it : loads nav q.what ≡ true
  pub mode : Mode
  pub address : List ℕ
  pub what : q.what ≡ requests.Load nav mode address

pub asked_for : (s : Seen) (req : ReqId) (nav : NavId) → IsLoadOf s req nav → IsAskedFor s req nav
asked_for s req nav load = by_found (request_in s.requests req) refl load.at
  where
    by_found : (o : Option Asked) → request_in s.requests req ≡ o → option_map look o ≡ Some load.look → IsAskedFor s req nav
    by_found None at is = absurd cc
    by_found (Some q) at is =
        let same : look q ≡ load.look = cc in
        let own : loads nav q.what ≡ true = ap (λ (l : Look). loads nav l.what) same ∙ load.loads_it in
        let it : IsNavLoad nav q.what = nav_load nav q.what own in
        record { q = q; at = at; ongoing = ap is_ongoing same ∙ load.ongoing; loads_it = own; mode = it.mode; address = it.address; what = it.is }

pub load_now : (s : Seen) (req : ReqId) (nav : NavId) (q : Asked) → request_of s req ≡ Some q → is_ongoing_load q ≡ true → loads nav q.what ≡ true → IsLoadOf s req nav
load_now s req nav q at ongoing own =
    record { look = look q; at = ap (λ (o : Option Asked). option_map look o) at; ongoing = ongoing; loads_it = own }

-- where the request is as it was
pub load_on : (s t : Seen) (req : ReqId) (nav : NavId) → request_of t req ≡ request_of s req → IsLoadOf s req nav → IsLoadOf t req nav
load_on s t req nav same load =
    record { look = load.look; at = ap (λ (o : Option Asked). option_map look o) same ∙ load.at; ongoing = load.ongoing; loads_it = load.loads_it }

-- where only loads ended
pub load_back : (s t : Seen) (req : ReqId) (nav : NavId) → LeavesAll s t → IsLoadOf t req nav → IsLoadOf s req nav
load_back s t req nav left load =
    record { look = load.look; at = left.loads req load.look load.at load.ongoing; ongoing = load.ongoing; loads_it = load.loads_it }

-- it has no outcome
pub open_of : (q : Asked) → is_ongoing_load q ≡ true → q.ending ≡ None
open_of q ongoing = by_ending q.ending refl
  where
    open_test : (b c : Bool) → ((b && c) && is_load q.what) ≡ true → c ≡ true
    open_test true true is = refl
    open_test true false is = absurd cc
    open_test false c is = absurd cc

    by_ending : (o : Option Ending) → q.ending ≡ o → q.ending ≡ None
    by_ending None is = is
    by_ending (Some ending) is =
        let never : false ≡ true = ap (λ (o : Option Ending). is_none o) (sym is) ∙ open_test q.is_started (is_none q.ending) ongoing in absurd cc

-- a navigable has one
pub sole_load : (s : Seen) (a b : ReqId) (nav : NavId) → AreLoading s → IsLoadOf s a nav → IsLoadOf s b nav → a ≡ b
sole_load s a b nav loading one other =
    ap (λ (n : ℕ). let x : ReqId = record { 0 = n } in x) (loading.one a b one.look other.look nav one.at other.at one.ongoing other.ongoing one.loads_it other.loads_it)

-- and a request has one navigable
pub sole_nav : (s : Seen) (req : ReqId) (a b : NavId) → IsLoadOf s req a → IsLoadOf s req b → a ≡ b
sole_nav s req a b one other =
    let first = asked_for s req a one in
    let second = asked_for s req b other in
    let both : Some first.q ≡ Some second.q = sym first.at ∙ second.at in
    let same : first.q ≡ second.q = cc in
    by_what (requests.Load a first.mode first.address) (requests.Load b second.mode second.address) (sym first.what ∙ ap (λ (q : Asked). q.what) same ∙ second.what)
  where
    nav_in : Request → NavId
    nav_in (requests.Load nav mode address) = nav
    nav_in _ = a

    by_what : (x y : Request) → x ≡ y → nav_in x ≡ nav_in y
    by_what x y is = ap nav_in is

-- ---- the table

-- the table has it
pub load_held : (s : Seen) (table : List Load) (req : ReqId) (nav : NavId) → TiesLoads s table → IsLoadOf s req nav → HasLoad table nav req
load_held s table req nav ties load =
    let its = asked_for s req nav load in
    ties.all req its.q nav its.at its.ongoing its.loads_it
