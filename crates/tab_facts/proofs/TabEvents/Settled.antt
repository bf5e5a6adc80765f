-- Quiet is settled: what holds between two events is all that this asks.
use Rattle.seen_facts.specs.Coord.Leading.{orders_of_desk}
use Rattle.seen_facts.specs.Doc.Docs.{IsLive}
use Rattle.seen_facts.specs.Each.Runs.{is_run, is_this}
use Rattle.tab_facts.proofs.FrameEvents.Composed.{asked_has}
use Rattle.seen_facts.specs.Asked.Asking.{IsAskedPlainly, IsTabRequest, IsThere}
use Rattle.tab_facts.specs.FragmentOrders.Waiting.{fragments_at, fragments_in}
use Rattle.seen_facts.proofs.Hang.Members.{has_found}
use Rattle.std.proofs.lemmas.Bool.{and_parts}
use Rattle.seen_facts.specs.Hang.Members.{Has}
use Rattle.seen_facts.proofs.LoadWhereabouts.Finding.{open_on_way}
use Rattle.seen_facts.specs.LoadWhereabouts.Whereabouts.{waits_to_fragment}
use Rattle.log_model.specs.Places.{has_passed, has_passed_with, is_gone, is_load, is_ongoing_load, is_reload, is_traversal, is_under_way, passed_traversal}
use Rattle.log_model.specs.Queue.{is_step_under_way}
use Rattle.log_model.specs.Seen.{Asked, Desk, Document, Seen, document_of, request_in}
use Rattle.log_model.specs.Logs.{is_prompt_up, is_quiet, is_still}
use Rattle.log_model.specs.Settled.{is_settled_if_quiet}
use Rattle.log_model.specs.declared.job.Job.{Job}
use Rattle.log_model.specs.declared.request.Request.{Request}
use Rattle.log_model.specs.declared.request.Request.TheVariants as requests
use Rattle.log_model.proofs.Refl.{nat_eq_refl}
use Rattle.seen_facts.specs.Request.Whereabouts.{times_found}
use Rattle.seen_facts.proofs.Rest.Settled.{loads_settle}
use Rattle.row_facts.proofs.RestRows.Again.{rests_each}
use Rattle.seen_facts.specs.Rest.Between.{IsComposedWithLoads, IsOrdered, IsPlainWithLoads}
use Rattle.seen_laws.proofs.Sums.{over}
use Rattle.std.specs.List.{list_all}
use Rattle.std.proofs.Common.{Bool, List, None, Option, Some, [], ap, arith, inl, inr, false, not, refl, subst, suc, sym, true, zero, ℕ, ◌&&◌, ◌<◌, ◌∙◌, ◌∷◌, ◌≡◌, ◌⊎◌, ◌||◌}
use Rattle.tab_facts.proofs.TabEvents.Ordered.{not_still}
use Rattle.tab_facts.specs.TabEvents.Between.{AreSwept, IsBetween, IsBetweenChecks, orders_go}
use Rattle.tab_ids.specs.declared.DocId.{DocId}
use Rattle.tab_ids.specs.declared.ReqId.{ReqId}

-- ---- an order that is counted is there

some_order : (req : ReqId) (jobs : List Job) → 0 < fragments_in req jobs → (job : Job) × Has jobs job
some_order req [] some = absurd (omega (arith, some))
some_order req (job ∷ jobs) some = (job, inl refl)

-- at some desk
record IsAtDesk (desks : List Desk) : Type 0 where
  desk : Desk
  there : Has desks desk
  job : Job
  ordered : Has (orders_of_desk desk) job

some_desk : (req : ReqId) (desks : List Desk) → 0 < over (fragments_at req) desks → IsAtDesk desks
some_desk req [] some = absurd (omega (arith, some))
some_desk req (desk ∷ desks) some = by_count (fragments_at req desk) refl (λ more. some_desk req desks more)
  where
    by_count : (n : ℕ) → fragments_at req desk ≡ n → (0 < over (fragments_at req) desks → IsAtDesk desks) → IsAtDesk (desk ∷ desks)
    by_count zero e rest =
        let at : IsAtDesk desks = rest (omega (arith, some, e)) in
        record { desk = at.desk; there = inr at.there; job = at.job; ordered = at.ordered }
    by_count (suc n) e rest =
        let order : (job : Job) × Has (orders_of_desk desk) job = some_order req (orders_of_desk desk) (omega (arith, e)) in
        record { desk = desk; there = inl refl; job = order.0; ordered = order.1 }

-- ---- a request of such a tab is no reload

no_reload : (what : Request) → IsTabRequest what → is_reload what ≡ false
no_reload (requests.Go delta) is = refl
no_reload (requests.Poke nav action) is = refl
no_reload (requests.Load nav mode address) is = refl
no_reload (requests.Reload nav) never = absurd never

-- one of the two, and not the second
the_first : (a b : Bool) → (a || b) ≡ true → b ≡ false → a ≡ true
the_first true b e none = refl
the_first false b e none = (let never : true ≡ false = sym e ∙ none in absurd cc)

module _ (keep : ℕ) (run : Option ReqId) (s : Seen) (is : IsBetween keep run s) where
  live : (doc : DocId) (d : Document) → document_of s doc ≡ Some d → IsLive d
  live doc d found = (is.tab.docs.each doc d found).live

  -- a load that waits has its order on its way
  ordered : (req : ReqId) (q : Asked) → request_in s.requests req ≡ Some q → waits_to_fragment q ≡ true → IsOrdered s
  ordered req q at waits =
      let one : over (fragments_at req) s.desks ≡ 1 = is.tab.fragments.once req ∙ rw at (rw waits refl) in
      let there : IsAtDesk s.desks = some_desk req s.desks (omega (arith, one)) in
      record { desk = there.desk; there = there.there; job = there.job; ordered = there.ordered }

  -- an open load that is found nowhere is ongoing, or waits
  trips : (req : ReqId) (q : Asked) → request_in s.requests req ≡ Some q → is_load q.what ≡ true → q.ending ≡ None → times_found req s.desks s.joined s.parked [] ≡ 0 → (is_ongoing_load q ≡ true) ⊎ IsOrdered s
  trips req q at load unended nowhere = by_way (open_on_way s [] req q at load is.tab.trips (rw unended refl) nowhere)
    where
      by_way : (is_ongoing_load q ≡ true) ⊎ (waits_to_fragment q ≡ true) → (is_ongoing_load q ≡ true) ⊎ IsOrdered s
      by_way (inl going) = inl going
      by_way (inr waits) = inr (ordered req q at waits)

  -- a step that has begun is a traversal that has passed its check
  stepping : (req : ReqId) (q : Asked) → request_in s.requests req ≡ Some q → is_step_under_way q ≡ true → (is_traversal q.what ≡ true) × (has_passed s q ≡ true)
  stepping req q at going =
      let plainly : IsAskedPlainly req q = is.tab.asked.each req q at in
      (the_first (is_traversal q.what) (is_reload q.what) (and_parts (is_under_way q) (is_traversal q.what || is_reload q.what) going).1 (no_reload q.what plainly.what), is.tab.asked.passed req q at)

  -- the traversal that runs has passed its check
  unparked : passed_traversal s ≡ None → s.parked ≡ []
  unparked none = is.held (by_run run refl)
    where
      by_run : (r : Option ReqId) → run ≡ r → run ≡ None
      by_run None e = e
      by_run (Some req) e =
          let there : IsThere s req = is.tab.asked.runs req e in
          let itself : is_this run req ≡ true = ap (λ (r : Option ReqId). is_this r req) e ∙ nat_eq_refl req.0 in
          let runs : is_run there.q ≡ true = is.tab.asked.only req there.q there.found ∙ itself in
          let passes : (is_under_way there.q && is_traversal there.q.what && has_passed s there.q) ≡ true = rw (is.tab.asked.passed req there.q there.found) (let parts = and_parts (is_under_way there.q) (is_traversal there.q.what) runs in rw parts.0 (rw parts.1 refl)) in
          let found = has_found (λ (q : Asked). is_under_way q && is_traversal q.what && has_passed_with (is_gone s) q) s.requests there.q (asked_has s.requests req there.q there.found) passes in
          let never : None ≡ Some found.0 = sym none ∙ found.1 in absurd cc

  between_plain : AreSwept s → IsPlainWithLoads s
  between_plain swept =
      record {
        alive = λ doc d found. (live doc d found).lives;
        unknown = λ doc d found. (live doc d found).unknown;
        unlost = λ nav place found. (is.tab.standing nav place found).unlost;
        swept = swept;
        loading = is.loading;
        trips = trips;
        steps = stepping;
        unparked = unparked;
      }

  between_composed : AreSwept s → IsComposedWithLoads s
  between_composed swept =
      record {
        sound = is.tab.sound;
        hangs = is.tab.hangs;
        homes = is.tab.homes;
        kept = is.tab.whose;
        served = is.served;
        ways = is.tab.ways;
        rests = rests_each s is.rests;
        flows = is.flows;
        once = is.tab.once;
        told = is.told;
        stepped = is.stepped refl;
        plain = between_plain swept;
      }

  -- it isn't quiet where an order is on its way
  unquiet : orders_go s ≡ true → is_settled_if_quiet s ≡ true
  unquiet go = by_quiet (is_quiet s) refl
    where
      by_quiet : (b : Bool) → is_quiet s ≡ b → is_settled_if_quiet s ≡ true
      by_quiet false is = rw is refl
      by_quiet true is =
          let still : is_still s ≡ true = (and_parts (is_still s) (list_all (λ (q : Asked). not (is_prompt_up q)) s.requests) is).0 in
          let never : true ≡ false = sym still ∙ not_still s.desks go in
          absurd cc

  pub between_settled : is_settled_if_quiet s ≡ true
  between_settled = by_swept is.swept
    where
      by_swept : AreSwept s ⊎ (orders_go s ≡ true) → is_settled_if_quiet s ≡ true
      by_swept (inl swept) = loads_settle s (between_composed swept)
      by_swept (inr go) = unquiet go

-- so it is where checks go on, once none does where it is quiet
pub checks_settled : (keep : ℕ) (run : Option ReqId) (loads : List ReqId) (holds : Bool) (s : Seen) → IsBetweenChecks keep run loads holds s → (is_quiet s ≡ true → (loads ≡ []) × (holds ≡ false)) → is_settled_if_quiet s ≡ true
checks_settled keep run loads holds s is none = by_quiet (is_quiet s) refl
  where
    by_quiet : (b : Bool) → is_quiet s ≡ b → is_settled_if_quiet s ≡ true
    by_quiet false never = rw never refl
    by_quiet true quiet =
        let over_ : (loads ≡ []) × (holds ≡ false) = none quiet in
        between_settled keep run s (subst (λ (b : Bool). IsBetweenChecks keep run [] b s) over_.1 (subst (λ (l : List ReqId). IsBetweenChecks keep run l holds s) over_.0 is))
