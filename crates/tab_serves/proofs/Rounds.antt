-- One turn after the other, all of the walk are served.
use Rattle.tab_doors.proofs.PassedOn.{sent_now}
use Rattle.apply_plan.specs.Order.{walk_of}
use Rattle.tab_facts.proofs.Calm.Sames.{keeps_none, keeps_then}
use Rattle.tab_facts.specs.Calm.Calm.{ShowsOne}
use Rattle.log_model.specs.Seen.{Place}
use Rattle.log_model.specs.Walk as log
use Rattle.log_model.specs.declared.header.Header.{Header}
use Rattle.log_model.specs.declared.job.Why.{Why}
use Rattle.log_model.specs.declared.row_kind.RowKind.{RowKind}
use Rattle.plan_laws.proofs.WalkLaws.{walk_is}
use Rattle.seen_laws.specs.InEvent.{InEvent, now_of}
use Rattle.seen_laws.specs.Unasked.{is_question}
use Rattle.std.proofs.Common.{Bool, List, Option, [], ap, arith, false, inl, inr, length, map, refl, subst, sym, true, ℕ, ◌+◌, ◌∙◌, ◌∷◌, ◌≡◌, ◌≤◌, ◌⊎◌}
use Rattle.tab_doors.specs.Working.{KeepsStore}
use Rattle.tab_doors.specs.declared.tables.Tables.{Tables}
use Rattle.tab_ids.specs.declared.EntryId.{EntryId}
use Rattle.tab_ids.specs.declared.NavId.{NavId}
use Rattle.tab_ids.specs.declared.ReqId.{ReqId}
use Rattle.tab_walk.specs.PassedOn.{HasMade, IsPassing, is_new_by, make_why}
use Rattle.tab_walk.proofs.PassedOn.{kept_none, kept_then, stand_for}
use Rattle.tab_walk.proofs.Ends.{only_one}
use Rattle.tab_walk.proofs.Overs.{only_as}
pub use Rattle.tab_walk.proofs.PassedOn.{only_none}
pub use Rattle.tab_walk.proofs.Puts.{only_then}
use Rattle.seen_facts.proofs.Hang.Hung.{places_distinct}
use Rattle.tab_serves.proofs.Stills.{off_first}
use Rattle.tab_serves.proofs.Ups.{up_places, up_then}
use Rattle.tab_walk.specs.Cutting.{InPass, show_why}
use Rattle.tab_serves.specs.Serving.{DiscardsNone, DiscardsUnheld, HasOnlyServed, InWalk, IsOfWalk, IsServeFor, IsServing, IsWalking, LeavesLog, MayWalk, walk_by}
use Rattle.tab_walk.specs.Moving.{HasOnly, HasOnlyMoved, IsMoveFor, IsOfMove}
use Rattle.seen_facts.proofs.Walk.Leaving.{all_served}
use Rattle.seen_facts.proofs.Walk.Order.{walk_is as is_walk}
use Rattle.seen_facts.specs.Walk.Serving.{AreServed}
use Rattle.seen_facts.specs.Walk.Walking.{IsWalk}
use Rattle.row_facts.proofs.WalkRows.Sinces.{sent_since, since_itself, since_more}
use Rattle.row_facts.proofs.WalkRows.Walks.{later_first}
use Rattle.row_facts.specs.WalkRows.Since.{AwakeSince}
use Rattle.log_model.specs.declared.job.Task.{Task}
use Rattle.log_model.specs.declared.job.Task.TheVariants as tasks
use Rattle.log_model.specs.declared.row_kind.RowKind.TheVariants as rows
use Rattle.row_facts.proofs.WalkRows.Wakes.{ShowsNone}

-- ---- what was put out

-- a move
pub moved_served : (run : Option ReqId) (cause : Why) (was out : List RowKind) → HasOnlyMoved (show_why run cause) was out → HasOnlyServed run cause was out
moved_served run cause was out only =
    only_as (IsMoveFor (show_why run cause)) (IsServeFor run cause) was out (λ row it. record { job = it.job; is = it.is; serves = by_task it.job.task it.moves; why_is = inl it.why_is; shows = λ shows. it.why_is }) only
  where
    by_task : (task : Task) → IsOfMove task → IsOfWalk task
    by_task (tasks.Activate entry epoch length index memo address) is = tt
    by_task tasks.Freeze is = tt
    by_task tasks.Discard is = tt
    by_task _ is = absurd is

-- a document is made, or was being made
pub made_served : (header : Header) (t : Tables) (nav : NavId) (entry : EntryId) (cause : Why) (was out : List RowKind) → HasMade header t nav entry cause was out → HasOnlyServed t.running cause was out
made_served header t nav entry cause was out (inl making) =
    subst (λ (l : List RowKind). HasOnlyServed t.running cause was l) (sym making.1) (only_none (IsServeFor t.running cause) was)
made_served header t nav entry cause was out (inr made) =
    only_one (IsServeFor t.running cause) was out (rows.Sent made.job) made.is (record { job = made.job; is = refl; serves = subst (λ (k : Task). IsOfWalk k) (sym made.task) tt; why_is = by_new (is_new_by t.tree nav cause) made.why_is; shows = λ shows. absurd (subst (λ (k : Task). ShowsOne k) made.task shows) })
  where
    by_new : (b : Bool) → made.job.why ≡ make_why b t.running cause → (made.job.why ≡ show_why t.running cause) ⊎ (made.job.why ≡ cause)
    by_new true is = inr is
    by_new false is = inl is

-- which discards nothing
pub made_quiet : (header : Header) (t : Tables) (nav : NavId) (entry : EntryId) (cause : Why) (e : InEvent) (was out : List RowKind) → HasMade header t nav entry cause was out → DiscardsUnheld e was out
made_quiet header t nav entry cause e was out (inl making) held =
    subst (λ (l : List RowKind). HasOnly DiscardsNone was l) (sym making.1) (only_none DiscardsNone was)
made_quiet header t nav entry cause e was out (inr made) held =
    only_one DiscardsNone was out (rows.Sent made.job) made.is (rw made.task refl)

-- then nobody wakes
pub made_since : (header : Header) (t : Tables) (nav : NavId) (entry : EntryId) (cause : Why) (e : InEvent) (was out : List RowKind) → HasMade header t nav entry cause was out → AwakeSince (now_of e was) (nav ∷ []) (now_of e out)
made_since header t nav entry cause e was out made =
    since_more (now_of e was) (now_of e out) [] (by_case made) (nav ∷ []) (λ other has. absurd cc)
  where
    by_case : HasMade header t nav entry cause was out → AwakeSince (now_of e was) [] (now_of e out)
    by_case (inl making) = subst (λ (l : List RowKind). AwakeSince (now_of e was) [] (now_of e l)) (sym making.1) (since_itself (now_of e was))
    by_case (inr it) =
        subst (λ (l : List RowKind). AwakeSince (now_of e was) [] (now_of e l)) (sym it.is)
        (subst (λ x. AwakeSince (now_of e was) [] x) (sym (sent_now e was it.job (ap (λ (k : Task). is_question k) it.task)))
        (sent_since (now_of e was) (now_of e was) [] (since_itself (now_of e was)) e.event e.actor it.job (subst (λ (k : Task). ShowsNone k) (sym it.task) tt)))

-- ---- what it leaves, one turn after the other

left_then : (s t u : _) → LeavesLog s t → LeavesLog t u → LeavesLog s u
left_then s t u first then_ =
    record {
      history = then_.history ∙ first.history;
      aim = then_.aim ∙ first.aim;
      parked = then_.parked ∙ first.parked;
      looks = then_.looks ∙ first.looks;
      causes = λ why may. then_.causes why (first.causes why may);
      rows_ = λ are. then_.rows_ (first.rows_ are);
      calms = keeps_then s t u first.history first.aim first.calms then_.calms;
      up = up_then s t u first.history first.aim then_.history first.calms first.up then_.up;
      loading = λ are. then_.loading (first.loading are);
    }

-- ---- the walk

-- the tables' navigables, in the order of the walk, are the log's
walk_here : (p : InPass) (out : List RowKind) (t : Tables) → IsPassing p out t → (navs : List NavId) → navs ≡ walk_of t.tree → IsWalk (now_of p.event out) navs
walk_here p out t passing navs is =
    let the_walk : navs ≡ map (λ (q : Place). q.nav) (log.walk_of (now_of p.event out).places) = is ∙ walk_is (now_of p.event out).places t.tree (stand_for p out t passing).held in
    subst (λ (l : List NavId). IsWalk (now_of p.event out) l) (sym the_walk) (is_walk (now_of p.event out) passing.going.tab.sound passing.going.tab.hangs)

module _ (p : InPass) (cause : Why) (navs : List NavId) where
  abbrev w : InWalk
  w = walk_by p cause navs

  pub serve_begins : (t : Tables) (out : List RowKind) → IsPassing p out t → MayWalk p.event t.running t.kept.keep cause (now_of p.event out) → navs ≡ walk_of t.tree → IsServing w t out t out 0
  serve_begins t out passing may is =
      record {
        walking = record {
          passing = passing;
          walked = record { since = may.since; unwoken = λ all. may.unwoken; still = λ all. may.still; were = may.were; parents = may.parents; loads = may.loads };
          may = may.may;
          unwoken = may.unwoken;
          moves = later_first (now_of p.event out) (show_why t.running cause) navs may.moves;
          leavers = λ nav place later. may.leavers nav place;
          frees = λ nav place later. may.frees nav place;
          rows_ = may.rows_;
          off = off_first p.event out (show_why t.running cause) may.since.distinct (places_distinct (now_of p.event out) passing.going.tab.sound passing.going.tab.hangs) passing.going.tab.homes.homed may.still;
          header = may.header;
          order = walk_here p out t passing navs is;
          served = record { each = λ k nav low at. absurd (omega (arith, low)) };
        };
        left = record { history = refl; aim = refl; parked = refl; looks = refl; causes = λ why so. so; rows_ = λ are. are; calms = keeps_none (now_of p.event out); up = up_places (now_of p.event out) (now_of p.event out) refl; loading = λ are. are };
        only = only_none (IsServeFor t.running cause) out;
        quiet = λ held. only_none DiscardsNone out;
        kept = kept_none t;
      }

  pub serve_goes_on : (t : Tables) (was : List RowKind) (u : Tables) (out : List RowKind) (v : Tables) (new : List RowKind) (n : ℕ) → IsServing w t was u out n → IsWalking w (n + 1) new v → LeavesLog (now_of p.event out) (now_of p.event new) → HasOnlyServed u.running cause out new → DiscardsUnheld p.event out new → KeepsStore u v → IsServing w t was v new (n + 1)
  serve_goes_on t was u out v new n so walking left only quiet kept =
      record {
        walking = walking;
        left = left_then (now_of p.event was) (now_of p.event out) (now_of p.event new) so.left left;
        only = only_then (IsServeFor t.running cause) was out new so.only (subst (λ (r : Option ReqId). HasOnlyServed r cause out new) so.kept.running only);
        quiet = λ held. only_then DiscardsNone was out new (so.quiet held) (quiet held);
        kept = kept_then t u v so.kept kept;
      }

  pub serve_ends : (t : Tables) (was : List RowKind) (u : Tables) (out : List RowKind) (n : ℕ) → IsServing w t was u out n → length navs ≤ n → AreServed (now_of p.event out)
  serve_ends t was u out n so long =
      all_served (now_of p.event out) navs so.walking.order (record { each = λ k nav low at. so.walking.served.each k nav (omega (arith, low, long)) at })
