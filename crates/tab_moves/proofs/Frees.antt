-- A document that was left is frozen: all at or below its navigable are asleep, and each document below is to be frozen.
use Rattle.tab_doors.proofs.PassedOn.{sent_now}
use Rattle.seen_facts.proofs.Hang.Hung.{places_distinct}
use Rattle.seen_facts.specs.Hang.AsPlaces.{AreDistinct}
use Rattle.seen_facts.specs.Home.Homes.{AreHomed, IsAtHome}
use Rattle.log_model.proofs.Refl.{nat_eq_refl}
use Rattle.log_model.specs.After.{after}
use Rattle.log_model.specs.AfterDocuments.{addressed}
use Rattle.log_model.specs.AfterPlaces.{sleepers_with, woken_below}
use Rattle.log_model.specs.Checks.{may_go_on}
use Rattle.log_model.specs.Equal.{has_doc}
use Rattle.log_model.specs.History.{has_nav}
use Rattle.log_model.specs.Places.{is_below}
use Rattle.log_model.specs.Seen.{Asked, Document, Place, Seen, asleep, awake, place_in, place_of, request_of}
use Rattle.log_model.specs.declared.job.Job.{Job}
use Rattle.log_model.specs.declared.job.Why.{Why}
use Rattle.log_model.specs.declared.row_kind.RowKind.{RowKind}
use Rattle.row_facts.proofs.RestRows.Again.{rest_more}
use Rattle.seen_laws.proofs.Keyed.{find_on_other}
use Rattle.seen_laws.specs.InEvent.{InEvent, log_of, now_of, row_of}
use Rattle.std.proofs.Common.{Bool, List, Option, Some, [], ap, cond, false, inl, inr, refl, subst, sym, true, ◌++◌, ◌==◌, ◌||◌, ◌∙◌, ◌∷◌, ◌≡◌}
use Rattle.std.proofs.lemmas.Bool.{or_parts}
use Rattle.std.specs.Option.{option_map_or}
use Rattle.std.specs.Prelude.{option_map}
use Rattle.tab_doors.proofs.Keeping.{states_on}
use Rattle.tab_doors.specs.Orders.{order_to}
use Rattle.tab_doors.specs.Working.{KeepsStore}
use Rattle.tab_doors.specs.declared.tables.Tables.{Tables}
use Rattle.tab_ids.specs.declared.DocId.{DocId}
use Rattle.tab_ids.specs.declared.NavId.{NavId}
use Rattle.tab_ids.specs.declared.ReqId.{ReqId}
use Rattle.tab_moves.proofs.Leaves.{distinct, showed, under}
use Rattle.tab_moves.proofs.Shown.{AreEach, IsShown, all_left, apart_left, apart_new, each_below, freezes, home, shown_in}
use Rattle.tab_moves.proofs.Sleeps.{WasSlept, was_slept}
use Rattle.tab_moves.specs.Moving.{AllAsleep, AreLeftUnder, HasLeft, InMoving, IsAtOrBelow, IsToLeave}
use Rattle.tab_passes.proofs.PassedOn.{left_on}
use Rattle.tab_passes.proofs.Freezings.{found_still, new_still}
use Rattle.tab_passes.proofs.Frozen.{freezes_it, frozen_more}
pub use Rattle.tab_passes.proofs.Goings.{goes_on}
pub use Rattle.tab_passes.proofs.Onlies.{only_one, only_then}
use Rattle.tab_passes.proofs.Serveds.{served_causes}
use Rattle.tab_passes.specs.Causes.{MayCause, show_why}
use Rattle.tab_passes.specs.Leaving.{AreLeftBelow, AreLeftDulyFor, IsFreezing, IsLeaving, IsLeftBelow, IsNewFor, IsStill, IsToFreeze, left_then, without_all}
pub use Rattle.tab_passes.specs.Leaving.{HasOnlyFrozen, IsFreezeOf}
pub use Rattle.tab_passes.specs.Sleepers.{docs_below}
use Rattle.seen_facts.proofs.Walk.Placed.{found_nav}
use Rattle.seen_facts.proofs.Walk.Sleepers.{slept}
use Rattle.seen_facts.specs.Walk.Walking.{LeavesOthers}
use Rattle.row_facts.proofs.WalkRows.Leaves.{freeze_leaves, leaves_then}
use Rattle.row_facts.proofs.WalkRows.Sinces.{ShowsThen}
use Rattle.row_facts.proofs.WalkRows.Sleeping.{IsUnder, no_shower, nobody_awake, place_sleeps, slept_under}
use Rattle.log_model.specs.declared.job.Task.TheVariants as tasks
use Rattle.log_model.specs.declared.row_kind.RowKind.TheVariants as rows

module _ (m : InMoving) (nav : NavId) (doc : DocId) (why : Why) (out : List RowKind) (t : Tables) (leaving : IsLeaving m.pass (Some m.move) [] out t) (to : IsToLeave m t.running (now_of m.pass.event out) nav doc why) (then_out : List RowKind) (u : Tables) (is : then_out ≡ out ++ rows.Sent (order_to (now_of m.pass.event out) doc why tasks.Freeze) ∷ []) (keeps : KeepsStore t u) (then_ : IsLeaving m.pass (Some m.move) (left_then (now_of m.pass.event out) doc []) then_out u) where
  abbrev e : InEvent
  e = m.pass.event

  abbrev s : Seen
  s = now_of e out

  abbrev freeze : Job
  freeze = order_to s doc why tasks.Freeze

  abbrev frozen : Seen
  frozen = after s (row_of e (rows.Sent freeze))

  now_is : frozen ≡ now_of e then_out
  now_is = sym (ap (λ (l : List RowKind). now_of e l) is ∙ sent_now e out freeze refl)

  -- ---- all are asleep

  asleep_frozen : AllAsleep frozen nav
  asleep_frozen other place at_or placed =
      slept_under s e.event e.actor freeze tasks.Freeze refl tt (distinct m nav doc why out t leaving to) nav its.place its.showed its.nav_is other place (by_case at_or) placed
    where
      its : ShowsThen s nav doc
      its = showed m nav doc why out t leaving to

      was : WasSlept s freeze other place
      was = was_slept e s freeze tasks.Freeze refl tt other place placed

      by_case : IsAtOrBelow nav other place → IsUnder s nav other
      by_case (inl same) = inl same
      by_case (inr below) = inr (λ p there.
          let both : Some was.old ≡ Some p = sym was.found ∙ there in
          let one : was.old ≡ p = cc in
          ap (λ (q : Place). is_below nav q) (sym one) ∙ ap (λ (l : List NavId). has_nav l nav) (sym was.above) ∙ below)

  -- ---- each document below

  homes : AreHomed frozen
  homes = subst (λ (x : Seen). AreHomed x) (sym now_is) then_.going.tab.homes

  distinct_then : AreDistinct frozen.places
  distinct_then = subst (λ (x : Seen). AreDistinct x.places) (sym now_is) (places_distinct (now_of e then_out) then_.going.tab.sound then_.going.tab.hangs)

  module _ (x : DocId) (its : IsShown m nav doc why out t leaving to x) where
    abbrev its_home_ : IsAtHome s.documents its.place.nav x
    its_home_ = home m nav doc why out t leaving to x its

    freezes_ : IsToFreeze e s nav x
    freezes_ = freezes m nav doc why out t leaving to x its

    apart_ : (doc.0 == x.0) ≡ false
    apart_ = apart_left m nav doc why out t leaving to x its

    -- nobody is awake on it any more
    never : (n : NavId) (p : Place) → place_of frozen n ≡ Some p → p.status ≡ awake x → ⊥
    never n p placed wakes =
        let sleeps : p.status ≡ asleep = asleep_frozen its.place.nav p (inr below) here in
        let no_ : awake x ≡ asleep = sym wakes ∙ sleeps in
        cc
      where
        then_home : IsAtHome frozen.documents p.nav x
        then_home = (homes.homed n p x placed wakes).home

        own : n ≡ its.place.nav
        own =
            let both : Some then_home.document ≡ Some its_home_.document = sym then_home.found ∙ found_still e s doc why x its_home_.document its_home_.found apart_ in
            let same : then_home.document ≡ its_home_.document = cc in
            sym (found_nav frozen.places n p placed) ∙ sym then_home.nav_is ∙ ap (λ (d : Document). d.nav) same ∙ its_home_.nav_is

        here : place_of frozen its.place.nav ≡ Some p
        here = ap (place_of frozen) (sym own) ∙ placed

        below : is_below nav p ≡ true
        below =
            let was = was_slept e s freeze tasks.Freeze refl tt its.place.nav p here in
            let both : Some was.old ≡ Some its.place = sym was.found ∙ its.placed in
            let same : was.old ≡ its.place = cc in
            ap (λ (l : List NavId). has_nav l nav) was.above ∙ ap (λ (q : Place). is_below nav q) same ∙ its.below

    left_ : IsLeftBelow e frozen m.move nav x
    left_ =
        record {
          its = record {
            document = freezes_.document;
            found = found_still e s doc why x freezes_.document freezes_.found apart_;
            ready = freezes_.ready;
            alive = freezes_.alive;
            unfrozen = freezes_.unfrozen;
            unhandled = freezes_.unhandled;
            place = freezes_.place;
            was_awake = freezes_.was_awake;
            below = freezes_.below;
          };
          apart = apart_new m nav doc why out t leaving to x its;
          nobody = nobody_awake frozen x (no_shower frozen x distinct_then never);
        }

  -- ---- all of them

  -- in the words of the list
  left_each : (l : List DocId) → AreEach (IsLeftBelow e frozen m.move nav) l → AreLeftBelow e frozen m.move nav l
  left_each [] are = tt
  left_each (x ∷ l) are = (are.0, are.1, left_each l are.2)

  -- each of them is left duly
  lefts_then : AreLeftUnder e out nav why → (docs : List DocId) → docs ≡ docs_below t.tree nav → AreLeftDulyFor (log_of e then_out) docs why
  lefts_then lefts docs are x has =
      let its : IsShown m nav doc why out t leaving to x = shown_in m nav doc why out t leaving to x (ap (λ (l : List DocId). has_doc l x) (sym are) ∙ has) in
      left_on e out (rows.Sent freeze) then_out is tt x why (lefts its.place.nav its.place x (inr its.below) its.placed its.wakes)

  pub freezing : AreLeftUnder e out nav why → (docs : List DocId) → docs ≡ docs_below t.tree nav → IsFreezing (record { pass = m.pass; move = m.move; nav = nav; cause = m.cause }) why (left_then s doc []) docs then_out u
  freezing lefts docs are =
      record {
        leaving = then_;
        for_run = to.for_run ∙ ap (λ (o : Option ReqId). show_why o m.cause) (sym keeps.running);
        may = subst (λ (x : Seen). MayCause x why) now_is (served_causes s e freeze why (subst (λ (x : Seen). (req : ReqId) (q : Asked) → request_of x req ≡ Some q → may_go_on x req ≡ true) (sym now_is) (goes_on (now_of e then_out) u.running then_.going.tab.asked)) to.may);
        new = subst (λ (x : Seen). IsNewFor e x m.move nav) now_is (new_still e s doc why m.move nav to.new to.apart);
        each = subst (λ (x : Seen). AreLeftBelow e x m.move nav docs) now_is (subst (λ (l : List DocId). AreLeftBelow e frozen m.move nav l) (sym are) (left_each (docs_below t.tree nav) (each_below m nav doc why out t leaving to (IsLeftBelow e frozen m.move nav) left_)));
        lefts = lefts_then lefts docs are;
      }

  -- under the names of a call
  pub freezing_as : AreLeftUnder e out nav why → (n : NavId) → n ≡ nav → (left : List DocId) → left ≡ left_then s doc [] → (docs : List DocId) → docs ≡ docs_below t.tree nav → IsFreezing (record { pass = m.pass; move = m.move; nav = n; cause = m.cause }) why left docs then_out u
  freezing_as lefts n named left is_left docs are =
      subst (λ (x : NavId). IsFreezing (record { pass = m.pass; move = m.move; nav = x; cause = m.cause }) why left docs then_out u) (sym named)
      (subst (λ (l : List DocId). IsFreezing (record { pass = m.pass; move = m.move; nav = nav; cause = m.cause }) why l docs then_out u) (sym is_left) (freezing lefts docs are))

  -- ---- what is left then

  -- ---- the navigable has left

  frozen_leaves : LeavesOthers s frozen nav
  frozen_leaves = freeze_leaves s e.event e.actor freeze nav refl (under m nav doc why out t leaving to)

  -- it fell asleep
  own_place : (place : Place) → place_of s nav ≡ Some place → place_of frozen nav ≡ Some (record place { status = asleep; why = why })
  own_place place at =
      place_sleeps s e.event e.actor freeze tasks.Freeze refl tt nav
      ∙ ap (λ (o : Option Place). option_map (slept (sleepers_with s doc) why) o) at
      ∙ ap (λ (b : Bool). Some (let p : Place = cond b (record place { status = asleep; why = why }) place in p)) among
    where
      its : ShowsThen s nav doc
      its = showed m nav doc why out t leaving to

      among : has_nav (sleepers_with s doc) place.nav ≡ true
      among =
          ap (λ (o : Option Place). has_nav (option_map_or (λ (p : Place). p.nav ∷ woken_below s p.nav) o []) place.nav) its.showed
          ∙ ap (λ (n : NavId). (n.0 == place.nav.0) || has_nav (woken_below s n) place.nav) (its.nav_is ∙ sym (found_nav s.places nav place at))
          ∙ rw (nat_eq_refl place.nav.0) refl

  pub has_left : (docs : List DocId) (then_seen : Seen) → IsStill docs (now_of e then_out) then_seen → HasLeft (doc ∷ docs) why s then_seen nav
  has_left docs then_seen still_ =
      record {
        leaves = leaves_then s frozen then_seen nav frozen_leaves (still.leaves nav);
        own = λ place at. ap (λ (l : List Place). place_in l nav) still.places ∙ own_place place at;
        all = λ other place at_or placed. asleep_frozen other place at_or (ap (λ (l : List Place). place_in l other) (sym still.places) ∙ placed);
        kept = still.kept;
        states = still.states ∙ states_on doc (addressed tasks.Freeze) s.documents s.kept (λ d. refl) (λ d. refl);
        documents = λ x apart.
            let parts = or_parts (doc.0 == x.0) (has_doc docs x) apart in
            still.documents x parts.1 ∙ find_on_other (λ (y : Document). y.nr.0) (addressed tasks.Freeze) doc.0 x.0 s.documents (λ y. refl) parts.0;
      }
    where
      still : IsStill docs frozen then_seen
      still = subst (λ (x : Seen). IsStill docs x then_seen) (sym now_is) still_

  pub left_done : (left : List DocId) → left ≡ left_then s doc [] → (docs : List DocId) → docs ≡ docs_below t.tree nav → (last_out : List RowKind) (v : Tables) → IsLeaving m.pass (Some m.move) (without_all docs left) last_out v → IsLeaving m.pass (Some m.move) [] last_out v
  left_done left is_left docs are last_out v so =
      record {
        work = so.work;
        going = so.going;
        owed = so.owed;
        rests = rest_more (now_of e last_out) (without_all docs left) [] (λ x has. absurd (all_left m nav doc why out t leaving to docs are x (subst (λ (l : List DocId). has_doc (without_all docs l) x ≡ true) is_left has))) so.rests;
        duly = so.duly;
      }

  pub has_left_as : (docs : List DocId) (last_seen : Seen) → docs ≡ docs_below t.tree nav → IsStill docs (now_of e then_out) last_seen → HasLeft (doc ∷ docs_below t.tree nav) why s last_seen nav
  has_left_as docs last_seen are still_ = subst (λ (l : List DocId). HasLeft (doc ∷ l) why s last_seen nav) are (has_left docs last_seen still_)

-- ---- once each is frozen

-- that is all that was put out
pub all_frozen : (s : Seen) (doc : DocId) (why : Why) (docs below : List DocId) (out mid new : List RowKind) → docs ≡ below → mid ≡ out ++ rows.Sent (order_to s doc why tasks.Freeze) ∷ [] → HasOnlyFrozen why docs mid new → HasOnlyFrozen why (doc ∷ below) out new
all_frozen s doc why docs below out mid new are is only =
    subst (λ (l : List DocId). HasOnlyFrozen why (doc ∷ l) out new) are
    (only_then (IsFreezeOf why (doc ∷ docs)) out mid new (only_one (IsFreezeOf why (doc ∷ docs)) out mid (rows.Sent (order_to s doc why tasks.Freeze)) is (freezes_it s doc why docs)) (frozen_more why doc docs mid new only))
