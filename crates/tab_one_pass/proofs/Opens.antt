-- What goes on through a pass does so over the loads that give way and the documents that are discarded.
use Rattle.log_model.specs.Equal.{holds}
use Rattle.std.specs.Option.{option_map_or}
use Rattle.seen_facts.specs.Hang.Members.{Has}
use Rattle.row_facts.specs.Left.Left.{LastWereShown, OwnersFollow, WasEverShown}
use Rattle.log_model.specs.Places.{aim_of, way_of}
use Rattle.log_model.specs.Seen.{Place, Seen, place_in, place_of, Document, document_of}
use Rattle.log_model.specs.declared.job.Task.{Task}
use Rattle.log_model.specs.declared.job.Why.{Why}
use Rattle.log_model.specs.declared.row_kind.RowKind.{RowKind}
use Rattle.seen_facts.proofs.Mover.Stays.{KeepWays}
use Rattle.seen_laws.specs.InEvent.{now_of}
use Rattle.std.proofs.Common.{List, None, Option, Some, [], ap, refl, subst, sym, ◌∙◌, ◌≡◌, ◌∷◌, ◌≤◌, ℕ, inl, inr, true, ◌⊎◌, ◌==◌}
use Rattle.std.specs.Prelude.{option_map, find}
use Rattle.tab_drops.proofs.Spans.{unheld_on}
pub use Rattle.tab_drops.proofs.Turns.{visited_same}
use Rattle.tab_drops.specs.Dropping.{IsLoadOf, LeavesAll}
use Rattle.tab_ids.specs.declared.DocId.{DocId}
use Rattle.tab_ids.specs.declared.NavId.{NavId}
use Rattle.tab_ids.specs.declared.ReqId.{ReqId}
use Rattle.tab_ids.specs.declared.StateId.{StateId}
use Rattle.tab_one_pass.specs.Passing.{IsOpen, TakersServe, KeepsAwake}
use Rattle.tab_serves.proofs.Calms.{only_as}
use Rattle.tab_serves.specs.PassedOn.{MayServe, IsTab}
use Rattle.tab_serves.specs.Serving.{HasOnly, InPass, IsOfWalk, MayCause, show_why}
use Rattle.tab_serves.proofs.Orders.{IsOrderOf, parents_over, taken_over, ways_over, were_over}
use Rattle.tab_passes.proofs.PassedOn.{leaver_beside, leaver_same}
use Rattle.tab_serves.proofs.Leavers.{ways_same}
use Rattle.tab_serves.specs.Serving.{LeavesVisited, StillAwake}
use Rattle.tab_sweeps.proofs.ForCallers.{above_same, gone_swept, moves_on, need_before, still_swept}
use Rattle.tab_sweeps.specs.Sweeping.{HasOnlySwept, IsSweepOf, IsSweptTurn, NoneStray}
use Rattle.row_facts.proofs.WalkRows.Sinces.{places_since}
use Rattle.row_facts.specs.WalkRows.Since.{AwakeSince, IsVisitedInNeed, WasAwake}
use Rattle.log_model.specs.declared.job.Why.TheVariants as whys

-- what orders may be for, of one request
pub serve_on : (s t : Seen) (req : ReqId) → ((why : Why) → MayCause s why → MayCause t why) → MayServe s req → MayServe t req
serve_on s t req causes may =
    causes (whys.Req req) (λ r same. (let one : req ≡ r = cc in subst (λ (x : ReqId). MayServe s x) one may)) req refl

-- whoever took entries may be so still, where the same did
pub takers_on : (s t : Seen) → ((why : Why) → MayCause s why → MayCause t why) → ((nav : NavId) → option_map (λ (p : Place). p.taken_by) (place_of t nav) ≡ option_map (λ (p : Place). p.taken_by) (place_of s nav)) → TakersServe s → TakersServe t
takers_on s t causes same takers nav place req at is = by_old (place_of s nav) refl
  where
    by_old : (o : Option Place) → place_of s nav ≡ o → MayServe t req
    by_old None none =
        let never : Some place.taken_by ≡ None = sym (ap (λ (o : Option Place). option_map (λ (p : Place). p.taken_by) o) at) ∙ same nav ∙ ap (λ (o : Option Place). option_map (λ (p : Place). p.taken_by) o) none in absurd cc
    by_old (Some old) there =
        let two : Some place.taken_by ≡ Some old.taken_by = sym (ap (λ (o : Option Place). option_map (λ (p : Place). p.taken_by) o) at) ∙ same nav ∙ ap (λ (o : Option Place). option_map (λ (p : Place). p.taken_by) o) there in
        let one : place.taken_by ≡ old.taken_by = cc in
        serve_on s t req causes (takers nav old req there (sym one ∙ is))

-- ---- where places, history and aim are as before

module _ (s t : Seen) (places : t.places ≡ s.places) (history : t.history ≡ s.history) (aim : aim_of t ≡ aim_of s) where
  pub place_same : (nav : NavId) → place_of t nav ≡ place_of s nav
  place_same nav = ap (λ (l : List Place). place_in l nav) places

  pub need_was : (place : Place) → IsVisitedInNeed t place → IsVisitedInNeed s place
  need_was place need = visited_same t s (sym places) (sym history) (sym aim) place need

-- who was awake as the event began is so still, where who is awake stays so, and what is discarded
pub still_on : (start s t : Seen) → KeepsAwake s t → ((doc : DocId) → holds (λ (d : Document). d.is_discarded) (document_of s doc) ≡ true → holds (λ (d : Document). d.is_discarded) (document_of t doc) ≡ true) → StillAwake start s → StillAwake start t
still_on start s t awake_ gone still nav place doc at wakes = by_case (still nav place doc at wakes)
  where
    by_case : WasAwake s nav doc ⊎ (holds (λ (d : Document). d.is_discarded) (document_of s doc) ≡ true) → WasAwake t nav doc ⊎ (holds (λ (d : Document). d.is_discarded) (document_of t doc) ≡ true)
    by_case (inl was) = inl (awake_ nav doc was)
    by_case (inr is) = inr (gone doc is)

-- so where places and documents are as they were
pub still_left : (start s t : Seen) → t.places ≡ s.places → t.documents ≡ s.documents → StillAwake start s → StillAwake start t
still_left start s t places documents still nav place doc at wakes = by_case (still nav place doc at wakes)
  where
    by_case : WasAwake s nav doc ⊎ (holds (λ (d : Document). d.is_discarded) (document_of s doc) ≡ true) → WasAwake t nav doc ⊎ (holds (λ (d : Document). d.is_discarded) (document_of t doc) ≡ true)
    by_case (inl was) = inl (record { place = was.place; placed = ap (λ (l : List Place). place_in l nav) places ∙ was.placed; wakes = was.wakes })
    by_case (inr gone) = inr (ap (λ (l : List Document). holds (λ (d : Document). d.is_discarded) (find (λ (d : Document). d.nr.0 == doc.0) l)) documents ∙ gone)

-- ---- loads gave way

pub open_left : (p : InPass) (run : Option ReqId) (cause : Why) (s t : Seen) → LeavesAll s t → IsOpen p.event run cause s → IsOpen p.event run cause t
open_left p run cause s t left so =
    record {
      may = left.orders cause so.may;
      since = record {
        distinct = so.since.distinct;
        homed = so.since.homed;
        ways = subst (λ (l : List Place). KeepWays p.event.start.places l) (sym left.places) so.since.ways;
      };
      unwoken = places_since p.event.start s [] so.unwoken t left.places;
      still = still_left p.event.start s t left.places left.documents so.still;
      moves = λ nav place at need epoch. left.movers (show_why run cause) nav (so.moves nav place (sym (place_same s t left.places left.history left.aim nav) ∙ at) (need_was s t left.places left.history left.aim place need) epoch);
      leavers = λ nav place at need epoch. leaver_beside s t (show_why run cause) nav left.others (ap (λ (l : List Place). option_map_or way_of (place_in l nav) (nav ∷ [])) left.places) (so.leavers nav place (sym (place_same s t left.places left.history left.aim nav) ∙ at) (need_was s t left.places left.history left.aim place need) epoch);
      were = record {
        lasts = subst (λ (l : List Place). LastWereShown l) (sym left.places) so.were.lasts;
        kept = λ doc there. subst (λ (l : List Place). WasEverShown l doc) (sym left.places) (so.were.kept doc (subst (λ (l : List DocId). Has l doc) left.kept there));
        owned = subst (λ (l : List Place). OwnersFollow l) (sym left.places) so.were.owned;
      };
      parents = λ nav above place up placed has there. so.parents nav above place up (sym (place_same s t left.places left.history left.aim nav) ∙ placed) has (sym (place_same s t left.places left.history left.aim above) ∙ there);
      held = unheld_on p s t left so.held;
      takers = takers_on s t left.orders (λ nav. ap (λ (o : Option Place). option_map (λ (q : Place). q.taken_by) o) (place_same s t left.places left.history left.aim nav)) so.takers;
    }

-- ---- documents were discarded

-- each row is an order of a walk
pub swept_orders : (s : Seen) (blame : List (StateId × ReqId)) (was out : List RowKind) → HasOnlySwept s blame was out → HasOnly (IsOrderOf IsOfWalk) was out
swept_orders s blame was out only =
    only_as (IsSweepOf s blame) (IsOrderOf IsOfWalk) was out (λ row it. record { job = it.job; is = it.is; task = subst (λ (k : Task). IsOfWalk k) (sym it.discards) tt }) (record { more = only.more; is = only.is; each = only.each })

module _ (p : InPass) (run : Option ReqId) (cause : Why) (was out : List RowKind) (tab : IsTab run p.loads p.hand (now_of p.event was)) (then_ : IsTab run p.loads p.hand (now_of p.event out)) (turn : IsSweptTurn (now_of p.event was) (now_of p.event out)) (swept : NoneStray (now_of p.event out)) (only : HasOnly (IsOrderOf IsOfWalk) was out) where
  abbrev s : Seen
  s = now_of p.event was

  abbrev t : Seen
  t = now_of p.event out

  load_was : (req : ReqId) (nav : NavId) → IsLoadOf t req nav → IsLoadOf s req nav
  load_was req nav load = record { look = load.look; at = sym (turn.looks req) ∙ load.at; ongoing = load.ongoing; loads_it = load.loads_it }

  since_then : AwakeSince p.event.start [] s → AwakeSince p.event.start [] t
  since_then since nav place doc outside at wakes =
      let before = turn.awake_ nav place doc refl at wakes in since nav before.place doc refl before.placed before.wakes

  still_then : StillAwake p.event.start s → StillAwake p.event.start t
  still_then still nav place doc at wakes = by_case (still nav place doc at wakes)
    where
      by_case : WasAwake s nav doc ⊎ (holds (λ (d : Document). d.is_discarded) (document_of s doc) ≡ true) → WasAwake t nav doc ⊎ (holds (λ (d : Document). d.is_discarded) (document_of t doc) ≡ true)
      by_case (inl was) = still_swept run p.loads p.hand s t tab then_ turn swept nav was.place doc was.placed was.wakes
      by_case (inr gone) = inr (gone_swept run p.loads p.hand s t tab then_ turn swept doc gone)

  leavers_then : LeavesVisited s (show_why run cause) → LeavesVisited t (show_why run cause)
  leavers_then leavers nav place at need epoch =
      let was = need_before run p.loads p.hand s t tab then_ turn swept nav place at need in
      leaver_same s t (show_why run cause) nav turn.looks (ways_same s t nav (above_same run p.loads p.hand s t tab then_ turn swept nav)) (leavers nav was.old was.there was.need (subst (λ (n : ℕ). 1 ≤ n) was.epoch epoch))

  pub open_swept : IsOpen p.event run cause s → IsOpen p.event run cause t
  open_swept so =
      record {
        may = turn.causes cause so.may;
        since = record { distinct = so.since.distinct; homed = so.since.homed; ways = ways_over p.event was out only p.event.start.places so.since.ways };
        unwoken = since_then so.unwoken;
        still = still_then so.still;
        moves = moves_on run p.loads p.hand s t tab then_ turn swept (show_why run cause) so.moves;
        leavers = leavers_then so.leavers;
        were = were_over p.event was out only so.were;
        parents = parents_over p.event was out only so.parents;
        held = λ req nav load. so.held req nav (load_was req nav load);
        takers = takers_on s t turn.causes (taken_over p.event was out only) so.takers;
      }
