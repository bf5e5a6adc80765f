-- Documents below one that was left are frozen, one after the other.
use Rattle.tab_doors.proofs.PassedOn.{sent_now}
use Rattle.leave_facts.proofs.Events.{left_on}
use Rattle.log_model.proofs.Refl.{nat_eq_refl}
use Rattle.log_model.specs.After.{after}
use Rattle.log_model.specs.AfterDocuments.{addressed}
use Rattle.log_model.specs.AfterPlaces.{put_to_sleep, sleepers_with, without_doc}
use Rattle.log_model.specs.Checks.{may_go_on}
use Rattle.log_model.specs.Equal.{has_doc}
use Rattle.log_model.specs.History.{has_nav}
use Rattle.log_model.specs.Places.{is_asleep, is_awake_on, is_below}
use Rattle.log_model.specs.Seen.{Asked, Document, Place, Seen, desk_of, document_of, request_of}
use Rattle.log_model.specs.declared.job.Why.{Why}
use Rattle.log_model.specs.declared.row_kind.RowKind.{RowKind}
use Rattle.nav_tree.proofs.Lists.{drop-slice_get, take-slice_get}
use Rattle.row_facts.specs.RestRows.Left.{left_below, shown_by}
use Rattle.seen_laws.proofs.Keyed.{find_on_other}
use Rattle.seen_laws.specs.InEvent.{InEvent, now_of, row_of}
use Rattle.std.proofs.Common.{Bool, List, Option, Some, [], ap, inl, arith, drop, false, map, refl, subst, sym, take, true, ℕ, ◌++◌, ◌+◌, ◌==◌, ◌||◌, ◌∙◌, ◌∷◌, ◌≡◌}
use Rattle.std.proofs.lemmas.Bool.Decides.{nat_tests}
use Rattle.std.proofs.lemmas.List.Sums.{fold-append}
use Rattle.std.specs.Option.{option_map_or}
use Rattle.std.specs.Prelude.{filter, find, not, slice_get, ◌&&◌}
use Rattle.tab_doors.specs.Keeping.{Move}
use Rattle.tab_doors.specs.Orders.{IsThere, order_to, proc_at}
use Rattle.tab_doors.specs.Working.{KeepsStore, MaySend}
use Rattle.tab_doors.specs.declared.tables.Tables.{Tables}
use Rattle.tab_ids.specs.declared.DocId.{DocId}
use Rattle.tab_ids.specs.declared.NavId.{NavId}
use Rattle.tab_ids.specs.declared.ReqId.{ReqId}
use Rattle.tab_passes.proofs.Freezable.{freeze_ahead}
use Rattle.tab_passes.proofs.Goings.{for_passed, goes_on, is_passed_for}
use Rattle.tab_passes.proofs.Others.{cause_off}
use Rattle.tab_passes.proofs.Serveds.{served_causes}
use Rattle.tab_passes.proofs.Stills.{still_frozen}
use Rattle.tab_passes.specs.Causes.{MayCause, show_why}
use Rattle.tab_passes.specs.Leaving.{AreLeftBelow, InFreezing, IsFreezing, IsLeaving, IsLeftBelow, IsNewFor, IsStill, IsToFreeze, MayLeave, left_then, without_all}
use Rattle.log_model.specs.declared.job.Task.TheVariants as tasks
use Rattle.log_model.specs.declared.row_kind.RowKind.TheVariants as rows

-- ---- nobody falls asleep with such a document

shown_none : (places : List Place) → shown_by [] places ≡ []
shown_none [] = refl
shown_none (p ∷ places) = shown_none places

pub below_none : (s : Seen) (doc : DocId) → sleepers_with s doc ≡ [] → left_below s doc ≡ []
below_none s doc none = ap (λ (navs : List NavId). without_doc doc (shown_by navs s.places)) none ∙ ap (λ (l : List DocId). without_doc doc l) (shown_none s.places)

slept_none : (why : Why) (places : List Place) → put_to_sleep [] why places ≡ places
slept_none why [] = refl
slept_none why (p ∷ places) = ap (λ (l : List Place). p ∷ l) (slept_none why places)

module _ (e : InEvent) (s : Seen) (doc : DocId) (why : Why) where
  abbrev pub frozen : Seen
  frozen = after s (row_of e (rows.Sent (order_to s doc why tasks.Freeze)))

  -- another document stays as it was
  pub found_still : (x : DocId) (d : Document) → document_of s x ≡ Some d → (doc.0 == x.0) ≡ false → document_of frozen x ≡ Some d
  found_still x d found apart = find_on_other (λ (y : Document). y.nr.0) (addressed tasks.Freeze) doc.0 x.0 s.documents (λ y. refl) apart ∙ found

  -- so does the one that the move shows
  pub new_still : (move : Move) (nav : NavId) → IsNewFor e s move nav → (doc.0 == move.doc.0) ≡ false → IsNewFor e frozen move nav
  new_still move nav new apart = record { document = new.document; found = found_still move.doc new.document new.found apart; nav_is = new.nav_is; other = new.other }

  -- where nobody falls asleep
  module _ (none : sleepers_with s doc ≡ []) where
    places_same : frozen.places ≡ s.places
    places_same = ap (λ (navs : List NavId). put_to_sleep navs why s.places) none ∙ slept_none why s.places

    sleepers_still : (x : DocId) → sleepers_with frozen x ≡ sleepers_with s x
    sleepers_still x =
        ap (λ (ps : List Place). option_map_or (λ (place : Place). place.nav ∷ map (λ (p : Place). p.nav) (filter (λ (p : Place). is_below place.nav p && not (is_asleep p)) ps)) (find (is_awake_on x) ps) []) places_same

    left_still : (move : Move) (nav : NavId) (x : DocId) → IsLeftBelow e s move nav x → (doc.0 == x.0) ≡ false → IsLeftBelow e frozen move nav x
    left_still move nav x its apart =
        record {
          its = record {
            document = its.its.document;
            found = found_still x its.its.document its.its.found apart;
            ready = its.its.ready;
            alive = its.its.alive;
            unfrozen = its.its.unfrozen;
            unhandled = its.its.unhandled;
            place = its.its.place;
            was_awake = its.its.was_awake;
            below = its.its.below;
          };
          apart = its.apart;
          nobody = sleepers_still x ∙ its.nobody;
        }

    all_still : (move : Move) (nav : NavId) (docs : List DocId) → has_doc docs doc ≡ false → AreLeftBelow e s move nav docs → AreLeftBelow e frozen move nav docs
    all_still move nav [] none_ are = tt
    all_still move nav (x ∷ docs) none_ are = by_test (x.0 == doc.0) refl none_ (λ rest. all_still move nav docs rest are.2)
      where
        turned : (x.0 == doc.0) ≡ false → (doc.0 == x.0) ≡ false
        turned is = grind (arith, nat_tests, is)

        by_test : (b : Bool) → (x.0 == doc.0) ≡ b → (b || has_doc docs doc) ≡ false → (has_doc docs doc ≡ false → AreLeftBelow e frozen move nav docs) → AreLeftBelow e frozen move nav (x ∷ docs)
        by_test true is rest more = absurd cc
        by_test false is rest more = (left_still move nav x are.0 (turned is), are.1, more rest)

-- ---- one of them

first_has : (doc : DocId) (docs : List DocId) → has_doc (doc ∷ docs) doc ≡ true
first_has doc docs = rw (nat_eq_refl doc.0) refl

rest_has : (doc : DocId) (docs : List DocId) (x : DocId) → has_doc docs x ≡ true → has_doc (doc ∷ docs) x ≡ true
rest_has doc docs x has = by_first (doc.0 == x.0)
  where
    by_first : (b : Bool) → (b || has_doc docs x) ≡ true
    by_first true = refl
    by_first false = has

module _ (l : InFreezing) (why : Why) (left docs : List DocId) (doc : DocId) (out : List RowKind) (t : Tables) (so : IsFreezing l why left (doc ∷ docs) out t) where
  abbrev s : Seen
  s = now_of l.pass.event out

  its : IsToFreeze l.pass.event s l.nav doc
  its = so.each.0.its

  known_none : (desk_of s its.document.proc).known ≡ 0
  known_none = (so.leaving.going.tab.asked.died its.document.proc).0

  pub freeze_leaves : MayLeave s doc why
  freeze_leaves =
      record {
        document = its.document;
        found = its.found;
        ready = its.ready;
        moves = λ other has. absurd (none_has other has);
        begun = inl so.each.0.nobody;
        may = so.may;
      }
    where
      none_has : (other : NavId) → has_nav (sleepers_with s doc) other ≡ true → ⊥
      none_has other has = let never : false ≡ true = sym (ap (λ (navs : List NavId). has_nav navs other) so.each.0.nobody) ∙ has in cc

  pub freeze_there : IsThere s doc
  freeze_there = record { document = its.document; found = its.found; alive = its.alive; known = known_none }

  pub freeze_may_go : MaySend (Some l.move) l.pass.event out (order_to s doc why tasks.Freeze)
  freeze_may_go =
      freeze_ahead l.pass.event out l.move t l.nav doc why so.leaving.work so.leaving.duly (so.lefts doc (first_has doc docs)) its (so.leaving.going.tab.asked.died (proc_at s doc)).0
      (is_passed_for s t.running so.leaving.going.tab.asked tasks.Freeze why so.may)
      (for_passed s t.running so.leaving.going.tab.asked (order_to s doc why tasks.Freeze) l.cause so.for_run)
      (cause_off l.pass.event out t so.leaving.work so.leaving.going.tab.asked.each why so.may) so.new

  pub freezing_more : (u : Tables) (new : List RowKind) → new ≡ out ++ rows.Sent (order_to s doc why tasks.Freeze) ∷ [] → KeepsStore t u → IsLeaving l.pass (Some l.move) (left_then s doc left) new u → IsFreezing l why (without_doc doc left) docs new u
  freezing_more u new is keeps leaving =
      record {
        leaving = leaving_now;
        for_run = so.for_run ∙ ap (λ (o : Option ReqId). show_why o l.cause) (sym keeps.running);
        may = subst (λ (x : Seen). MayCause x why) now_is (served_causes s l.pass.event (order_to s doc why tasks.Freeze) why (subst (λ (x : Seen). (req : ReqId) (q : Asked) → request_of x req ≡ Some q → may_go_on x req ≡ true) (sym now_is) (goes_on (now_of l.pass.event new) u.running leaving.going.tab.asked)) so.may);
        new = subst (λ (x : Seen). IsNewFor l.pass.event x l.move l.nav) now_is (new_still l.pass.event s doc why l.move l.nav so.new so.each.0.apart);
        each = subst (λ (x : Seen). AreLeftBelow l.pass.event x l.move l.nav docs) now_is (all_still l.pass.event s doc why so.each.0.nobody l.move l.nav docs so.each.1 so.each.2);
        lefts = λ x has. left_on l.pass.event out (rows.Sent (order_to s doc why tasks.Freeze)) new is tt x why (so.lefts x (rest_has doc docs x has));
      }
    where
      now_is : after s (row_of l.pass.event (rows.Sent (order_to s doc why tasks.Freeze))) ≡ now_of l.pass.event new
      now_is = sym (ap (λ (x : List RowKind). now_of l.pass.event x) is ∙ sent_now l.pass.event out (order_to s doc why tasks.Freeze) refl)

      leaving_now : IsLeaving l.pass (Some l.move) (without_doc doc left) new u
      leaving_now = subst (λ (x : List DocId). IsLeaving l.pass (Some l.move) (x ++ without_doc doc left) new u) (below_none s doc so.each.0.nobody) leaving

  pub freezing_still : (new : List RowKind) → new ≡ out ++ rows.Sent (order_to s doc why tasks.Freeze) ∷ [] → IsStill (doc ∷ []) s (now_of l.pass.event new)
  freezing_still new is =
      subst (λ (x : Seen). IsStill (doc ∷ []) s x) (sym (ap (λ (x : List RowKind). now_of l.pass.event x) is ∙ sent_now l.pass.event out (order_to s doc why tasks.Freeze) refl)) (still_frozen l.pass.event s doc why so.each.0.nobody)

-- ---- so many of them

pub freezing_next : (l : InFreezing) (why : Why) (left docs : List DocId) (i : ℕ) (doc : DocId) (out : List RowKind) (t : Tables) → slice_get docs i ≡ Some doc → IsFreezing l why (without_all (take i docs) left) (drop i docs) out t → IsFreezing l why (without_all (take i docs) left) (doc ∷ drop (i + 1) docs) out t
freezing_next l why left docs i doc out t at so = subst (λ (x : List DocId). IsFreezing l why (without_all (take i docs) left) x out t) (drop-slice_get docs i doc at) so

pub frozen_next : (l : InFreezing) (why : Why) (left docs : List DocId) (i : ℕ) (doc : DocId) (out : List RowKind) (t : Tables) → slice_get docs i ≡ Some doc → IsFreezing l why (without_doc doc (without_all (take i docs) left)) (drop (i + 1) docs) out t → IsFreezing l why (without_all (take (i + 1) docs) left) (drop (i + 1) docs) out t
frozen_next l why left docs i doc out t at so = subst (λ (x : List DocId). IsFreezing l why x (drop (i + 1) docs) out t) one so
  where
    one : without_doc doc (without_all (take i docs) left) ≡ without_all (take (i + 1) docs) left
    one = sym (ap (λ (x : List DocId). without_all x left) (take-slice_get docs i doc at) ∙ fold-append (λ (x : List DocId) (d : DocId). without_doc d x) left (take i docs) (doc ∷ []))
