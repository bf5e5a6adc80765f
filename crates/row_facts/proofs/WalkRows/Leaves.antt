-- What an order that freezes or discards a document, and a request that ends, leave of the navigables that aren't served by it.
use Rattle.seen_facts.proofs.Coord.Unread.{next}
use Rattle.seen_facts.proofs.Hang.Members.{into_map}
use Rattle.log_model.specs.AfterDocuments.{addressed, on_document}
use Rattle.log_model.specs.AfterPlaces.{put_to_sleep, sleepers_with}
use Rattle.log_model.specs.AfterRequests.{request_served, requests_sent}
use Rattle.log_model.specs.History.{has_nav}
use Rattle.log_model.specs.Orders.{is_being_made}
use Rattle.log_model.specs.Places.{aim_of, is_below, is_gone}
use Rattle.log_model.specs.Seen.{Document, Place, Seen, place_of}
use Rattle.log_model.specs.declared.job.Job.{Job}
use Rattle.log_model.specs.declared.job.Task.{Task}
use Rattle.log_model.specs.declared.outcome.Cause.{Cause}
use Rattle.log_model.specs.declared.outcome.Denial.{Denial}
use Rattle.log_model.specs.declared.row_kind.Actor.{Actor}
use Rattle.seen_facts.proofs.Mover.Orders.{PutsToSleep}
use Rattle.seen_facts.proofs.Asked.Passed.{have_passed}
use Rattle.row_facts.proofs.Owed.Aims.{ended_aim, passed_aim, would_blind, would_lead}
use Rattle.row_facts.proofs.Owed.Requests.{AsksNone}
use Rattle.row_facts.proofs.Owed.Rows.{IsIdle}
use Rattle.seen_facts.specs.Asked.Asking.{HavePassed}
use Rattle.seen_facts.proofs.Request.Readers.{sent_reads}
use Rattle.std.proofs.Common.{Bool, List, None, Option, Some, [], ap, cond, false, inl, inr, map, map-id, refl, subst, sym, true, ℕ, ◌==◌, ◌∙◌, ◌≡◌}
use Rattle.std.specs.Prelude.{option_map}
use Rattle.tab_ids.specs.declared.DocId.{DocId}
use Rattle.tab_ids.specs.declared.NavId.{NavId}
use Rattle.tab_ids.specs.declared.ReqId.{ReqId}
use Rattle.tab_ids.specs.declared.StateId.{StateId}
use Rattle.seen_facts.proofs.Walk.Aims.{aim_again, blur, gone_on, on_served_blur}
use Rattle.seen_facts.proofs.Walk.Placed.{found_nav}
use Rattle.seen_facts.proofs.Walk.Sleepers.{slept, slept_same}
use Rattle.seen_facts.specs.Walk.Serving.{IsMaking}
use Rattle.seen_facts.specs.Walk.Walking.{IsApart, LeavesOthers}
use Rattle.row_facts.proofs.WalkRows.Sleeping.{IsUnder, SleepUnder, place_sleeps, sleep_places}
use Rattle.log_model.specs.declared.job.Task.TheVariants as tasks
use Rattle.log_model.specs.declared.outcome.Ending.TheVariants as endings
use Rattle.log_model.specs.declared.row_kind.RowKind.TheVariants as rows

-- ---- rows that leave the others, one after the other

-- no row at all
pub leaves_none : (s : Seen) (nav : NavId) → LeavesOthers s s nav
leaves_none s nav =
    record { history = refl; aim = refl; others = λ other apart. refl; ways = λ other. refl; making = λ state is. is }

-- who is apart is so still
pub apart_still : (s t : Seen) (nav other : NavId) → LeavesOthers s t nav → IsApart s nav other → IsApart t nav other
apart_still s t nav other leaves apart =
    record { differs = apart.differs; beside = λ place at. by_old place at (place_of s other) refl }
  where
    above_of : Option Place → Option (List NavId)
    above_of o = option_map (λ (p : Place). p.above) o

    by_old : (place : Place) → place_of t other ≡ Some place → (o : Option Place) → place_of s other ≡ o → is_below nav place ≡ false
    by_old place at None there =
        let never : Some place.above ≡ None = sym (ap above_of at) ∙ leaves.ways other ∙ ap above_of there in absurd cc
    by_old place at (Some old) there =
        let both : Some place.above ≡ Some old.above = sym (ap above_of at) ∙ leaves.ways other ∙ ap above_of there in
        let same : place.above ≡ old.above = cc in
        ap (λ (l : List NavId). has_nav l nav) same ∙ apart.beside old there

-- rows that serve one navigable, and then more that serve it
pub leaves_then : (s t u : Seen) (nav : NavId) → LeavesOthers s t nav → LeavesOthers t u nav → LeavesOthers s u nav
leaves_then s t u nav first second =
    record {
      history = second.history ∙ first.history;
      aim = second.aim ∙ first.aim;
      others = λ other apart. second.others other (apart_still s t nav other first apart) ∙ first.others other apart;
      ways = λ other. second.ways other ∙ first.ways other;
      making = λ state is. second.making state (first.making state is);
    }

-- ---- documents that are being made

-- those are so still where one document changes, but not in whether it is made
making_on : (doc : DocId) (f : Document → Document) → ((d : Document) → (f d).state ≡ d.state) → ((d : Document) → is_being_made (f d) ≡ is_being_made d) → (documents : List Document) (state : StateId) → IsMaking documents state → IsMaking (on_document doc f documents) state
making_on doc f of_state made documents state is =
    record {
      document = g is.document;
      there = into_map g documents is.document is.there;
      state_is = (same is.document).0 ∙ is.state_is;
      made = (same is.document).1 ∙ is.made;
    }
  where
    g : Document → Document
    g d = cond (d.nr.0 == doc.0) (f d) d

    same : (d : Document) → ((g d).state ≡ d.state) × (is_being_made (g d) ≡ is_being_made d)
    same d = by_test (d.nr.0 == doc.0)
      where
        by_test : (b : Bool) → ((let x : Document = cond b (f d) d in x).state ≡ d.state) × ((let x : Document = cond b (f d) d in is_being_made x) ≡ is_being_made d)
        by_test true = (of_state d, made d)
        by_test false = (refl, refl)

-- ---- the aim

-- an order that asks no document leaves the aim, where all have passed their checks
pub sent_aim : (s : Seen) (event : ℕ) (actor : Actor) (job : Job) → HavePassed s → AsksNone job.task → aim_of (next s event actor (rows.Sent job)) ≡ aim_of s
sent_aim s event actor job passed none =
    passed_aim s t passed (have_passed s (record { event = event; actor = actor; row = rows.Sent job }) none tt passed) (sent_reads would_lead would_blind s job job.task s.requests) s.history
  where
    t : Seen
    t = next s event actor (rows.Sent job)

-- ---- the orders

module _ (s : Seen) (event : ℕ) (actor : Actor) (job : Job) where
  -- after the order
  abbrev left : Seen
  left = next s event actor (rows.Sent job)

  -- who isn't under the navigable doesn't fall asleep
  others_sleep_not : (nav : NavId) → SleepUnder s job.doc nav → (task : Task) → job.task ≡ task → PutsToSleep task → (other : NavId) → IsApart s nav other → place_of left other ≡ place_of s other
  others_sleep_not nav under task is puts other apart =
      place_sleeps s event actor job task is puts other ∙ by_old (place_of s other) refl
    where
      wakes : (old : Place) → place_of s other ≡ Some old → (b : Bool) → has_nav (sleepers_with s job.doc) other ≡ b → has_nav (sleepers_with s job.doc) other ≡ false
      wakes old there false out = out
      wakes old there true in_ = absurd (by_case (under other in_))
        where
          by_case : IsUnder s nav other → ⊥
          by_case (inl same) = let never : false ≡ true = sym apart.differs ∙ same in cc
          by_case (inr below) = let never : false ≡ true = sym (apart.beside old there) ∙ below old there in cc

      by_old : (o : Option Place) → place_of s other ≡ o → option_map (slept (sleepers_with s job.doc) job.why) o ≡ o
      by_old None there = refl
      by_old (Some old) there =
          let own : old.nav ≡ other = found_nav s.places other old there in
          let out : has_nav (sleepers_with s job.doc) old.nav ≡ false = ap (has_nav (sleepers_with s job.doc)) own ∙ wakes old there (has_nav (sleepers_with s job.doc) other) refl in
          rw out refl

  -- each hangs as before
  ways_asleep : (task : Task) → job.task ≡ task → PutsToSleep task → (other : NavId) → option_map (λ (p : Place). p.above) (place_of left other) ≡ option_map (λ (p : Place). p.above) (place_of s other)
  ways_asleep task is puts other =
      ap (option_map (λ (p : Place). p.above)) (place_sleeps s event actor job task is puts other) ∙ by_old (place_of s other)
    where
      by_old : (o : Option Place) → option_map (λ (p : Place). p.above) (option_map (slept (sleepers_with s job.doc) job.why) o) ≡ option_map (λ (p : Place). p.above) o
      by_old None = refl
      by_old (Some old) = ap (λ (l : List NavId). Some l) (slept_same (sleepers_with s job.doc) job.why old).1

  -- it freezes a document
  pub freeze_leaves : (nav : NavId) → job.task ≡ tasks.Freeze → SleepUnder s job.doc nav → LeavesOthers s left nav
  freeze_leaves nav task under =
      record {
        history = refl;
        aim = aim_again s left (gone_on s left job.doc (addressed tasks.Freeze) documents (λ d. refl) (λ d. refl)) requests refl;
        others = others_sleep_not nav under tasks.Freeze task tt;
        ways = ways_asleep tasks.Freeze task tt;
        making = λ state is. subst (λ (l : List Document). IsMaking l state) (sym documents) (making_on job.doc (addressed tasks.Freeze) (λ d. refl) (λ d. refl) s.documents state is);
      }
    where
      documents : left.documents ≡ on_document job.doc (addressed tasks.Freeze) s.documents
      documents = rw task refl

      requests : map blur (next s event actor (rows.Sent job)).requests ≡ map blur s.requests
      requests =
          subst (λ (k : Task). map blur (requests_sent s job k s.requests) ≡ map blur s.requests) (sym task) (on_served_blur job.why (request_served s job tasks.Freeze) s.requests (λ q. refl))

  -- it discards one, where all have passed their checks
  pub discard_leaves : (nav : NavId) → job.task ≡ tasks.Discard → HavePassed s → SleepUnder s job.doc nav → LeavesOthers s left nav
  discard_leaves nav task passed under =
      record {
        history = refl;
        aim = sent_aim s event actor job passed (subst (λ (k : Task). AsksNone k) (sym task) tt);
        others = others_sleep_not nav under tasks.Discard task tt;
        ways = ways_asleep tasks.Discard task tt;
        making = λ state is. subst (λ (l : List Document). IsMaking l state) (sym documents) (making_on job.doc (λ d. record d { is_discarded = true }) (λ d. refl) (λ d. refl) s.documents state is);
      }
    where
      documents : left.documents ≡ on_document job.doc (λ d. record d { is_discarded = true }) s.documents
      documents = rw task refl

  -- ---- nobody is awake on the document

  module _ (none : sleepers_with s job.doc ≡ []) where
    -- so nobody falls asleep
    none_under : (nav : NavId) → SleepUnder s job.doc nav
    none_under nav other in_ =
        let never : false ≡ true = sym (ap (λ (l : List NavId). has_nav l other) none) ∙ in_ in absurd cc

    -- all places stay
    pub none_places : (task : Task) → job.task ≡ task → PutsToSleep task → left.places ≡ s.places
    none_places task is puts =
        sleep_places s event actor job task is puts
        ∙ ap (λ (l : List NavId). put_to_sleep l job.why s.places) none
        ∙ map-id s.places

    -- it is frozen
    pub freeze_none_leaves : (nav : NavId) → job.task ≡ tasks.Freeze → LeavesOthers s left nav
    freeze_none_leaves nav task = freeze_leaves nav task (none_under nav)

    -- it is discarded
    pub discard_none_leaves : (nav : NavId) → job.task ≡ tasks.Discard → HavePassed s → LeavesOthers s left nav
    discard_none_leaves nav task passed = discard_leaves nav task passed (none_under nav)

-- ---- a request ends that isn't the running traversal

module _ (s : Seen) (event : ℕ) (actor : Actor) (req : ReqId) (idle : IsIdle s req) (nav : NavId) where
  -- it is dropped
  pub dropped_leaves : (cause : Cause) → LeavesOthers s (next s event actor (rows.Dropped req cause)) nav
  dropped_leaves cause =
      record {
        history = refl;
        aim = ended_aim (is_gone s) s.history s.requests req (endings.Dropped cause) idle;
        others = λ other apart. refl;
        ways = λ other. refl;
        making = λ state is. is;
      }

  -- it is refused
  pub refused_leaves : (reason : Denial) → LeavesOthers s (next s event actor (rows.Refused req reason)) nav
  refused_leaves reason =
      record {
        history = refl;
        aim = ended_aim (is_gone s) s.history s.requests req (endings.Refused reason) idle;
        others = λ other apart. refl;
        ways = λ other. refl;
        making = λ state is. is;
      }
