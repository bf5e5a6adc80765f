-- Documents below one that was discarded are discarded, one after the other.
use Rattle.seen_facts.specs.Kept.Keeping.{kept_states}
use Rattle.log_model.specs.AfterPlaces.{sleepers_with, without_doc}
use Rattle.log_model.specs.Equal.{has_doc}
use Rattle.log_model.specs.Orders.{is_below_gone}
use Rattle.log_model.specs.Places.{is_gone}
use Rattle.log_model.specs.Seen.{Document, Place, Seen, document_of, place_in}
use Rattle.log_model.specs.declared.job.Why.{Why}
use Rattle.log_model.specs.declared.row_kind.RowKind.{RowKind}
use Rattle.nav_tree.proofs.Lists.{drop-slice_get, take-slice_get}
use Rattle.nav_tree.specs.Tree.{state_of}
use Rattle.page_cache.specs.Kept.{without}
use Rattle.seen_laws.specs.InEvent.{now_of}
use Rattle.std.proofs.Common.{Bool, List, None, Option, Some, [], ap, arith, drop, false, map, refl, subst, sym, take, true, ℕ, ◌++◌, ◌+◌, ◌==◌, ◌||◌, ◌∙◌, ◌∷◌, ◌≡◌}
use Rattle.std.proofs.lemmas.Bool.Decides.{nat_tests}
use Rattle.std.proofs.lemmas.List.Sums.{fold-append}
use Rattle.std.specs.Prelude.{IsSome, slice_get}
use Rattle.tab_doors.proofs.Sights.{IsSeen, seen_of, sight_of}
use Rattle.tab_doors.specs.Keeping.{LetsGo, with_left}
use Rattle.tab_doors.specs.Look.{Sight, is_live_for, sight}
use Rattle.tab_doors.specs.Orders.{order_to, proc_at}
use Rattle.tab_doors.specs.Working.{MaySend}
use Rattle.tab_doors.specs.declared.tables.Tables.{Tables}
use Rattle.tab_evicts.proofs.Belows.{below_ahead}
use Rattle.tab_evicts.proofs.Offs.{off_gone, quiet_left}
use Rattle.tab_evicts.proofs.Quiets.{IsQuiet, gone_leaving, gone_looks, gone_may, gone_now, gone_other, gone_places, gone_seen, gone_stays, one_document, quiet_discards}
use Rattle.tab_evicts.proofs.Theres.{there_apart, there_gone, there_lives, there_unloaded}
use Rattle.tab_evicts.specs.Evicting.{IsGoneFor, IsThereBelow, NoLoadBelow, StaysPlaced}
use Rattle.tab_ids.specs.declared.DocId.{DocId}
use Rattle.tab_ids.specs.declared.StateId.{StateId}
use Rattle.tab_moves.proofs.Lasts.{has_state_in, live_parts, there_for}
use Rattle.tab_moves.specs.PassedOn.{IsLeaving, left_then, without_all}
use Rattle.tab_walk.specs.Cutting.{AreCutBelow, InCut, IsCutBelow, IsCutting}
use Rattle.row_facts.proofs.WalkRows.Passed.{discard_gone}
use Rattle.log_model.specs.declared.job.Task.TheVariants as tasks
use Rattle.log_model.specs.declared.row_kind.RowKind.TheVariants as rows

module _ (c : InCut) (gone : StateId) (why : Why) (rest docs : List DocId) (doc : DocId) (out : List RowKind) (t : Tables) (so : IsCutting c gone why rest (doc ∷ docs) out t) where
  abbrev s : Seen
  s = now_of c.pass.event out

  abbrev it : IsThereBelow s gone doc
  it = so.each.0.it

  -- ---- its state

  pub cut_state : IsSome (state_of doc t.tree)
  cut_state = by_state (state_of doc t.tree) refl
    where
      by_state : (o : Option StateId) → state_of doc t.tree ≡ o → IsSome (state_of doc t.tree)
      by_state None at = absurd (has_state_in (map sight s.documents) t so.leaving.work.holds.documents doc (sight it.document) (sight_of s doc it.document it.found) it.document.state (there_lives s gone doc it) at)
      by_state (Some x) at = rw at refl

  module _ (its : StateId) (at : state_of doc t.tree ≡ Some its) where
    cut_quiet_state : it.document.state ≡ its
    cut_quiet_state =
        let there = there_for (map sight s.documents) t so.leaving.work.holds.documents doc its at in
        let seen : IsSeen s doc there.document = seen_of s doc there.document there.found in
        let same : it.document ≡ seen.document = one_document s doc it.document seen.document it.found seen.found in
        ap (λ (d : Document). d.state) same ∙ (live_parts its seen.document (ap (λ (y : Sight). is_live_for its y) seen.is ∙ there.lives)).0

    pub cut_quiet : IsQuiet s t doc its
    cut_quiet =
        record {
          document = it.document;
          found = it.found;
          its_state = cut_quiet_state;
          ready = it.ready;
          undiscarded = it.undiscarded;
          unknown = it.unknown;
          listed = (there_for (map sight s.documents) t so.leaving.work.holds.documents doc its at).its;
          nobody = so.each.0.nobody;
          unloaded = there_unloaded s gone doc it t so.leaving.work.loads so.leaving.going.tab.loading so.loads its cut_quiet_state;
        }

    pub cut_sends : MaySend (Some c.move) c.pass.event out (order_to s doc why tasks.Discard)
    cut_sends =
        below_ahead c.pass.event out (Some c.move) t doc why cut_quiet.document so.leaving.work (quiet_left c.pass (Some c.move) out t so.leaving why so.may doc its cut_quiet so.off)
        (record {
          discards = quiet_discards c.pass (Some c.move) out t so.leaving why so.may doc its cut_quiet;
          below = ap (λ (d : Document). is_below_gone s d) (one_document s doc cut_quiet.document it.document cut_quiet.found it.found) ∙ there_gone s gone doc it so.gone_for;
        })
        (so.leaving.going.tab.asked.died (proc_at s doc)).0

    pub cut_lets : LetsGo (Some c.move) t.kept.keep (kept_states s) its
    cut_lets =
        subst (λ (o : Option StateId). without its (with_left o t.kept.keep (kept_states s)) ≡ with_left o t.kept.keep (without its (kept_states s))) (sym so.noted) refl

    -- ---- what it leaves

    abbrev then_ : Seen
    then_ = gone_seen c.pass (Some c.move) out t so.leaving why so.may doc its cut_quiet

    places : then_.places ≡ s.places
    places = gone_places c.pass (Some c.move) out t so.leaving why so.may doc its cut_quiet

    other : (x : DocId) → (doc.0 == x.0) ≡ false → document_of then_ x ≡ document_of s x
    other x apart = gone_other c.pass (Some c.move) out t so.leaving why so.may doc its cut_quiet x apart

    sleepers_same : (x : DocId) → sleepers_with then_ x ≡ sleepers_with s x
    sleepers_same x = ap (λ (l : List Place). sleepers_with (record s { places = l }) x) places

    there_then : (x : DocId) → (doc.0 == x.0) ≡ false → IsCutBelow s gone x → IsCutBelow then_ gone x
    there_then x apart b =
        record {
          it = record {
            document = b.it.document;
            found = other x apart ∙ b.it.found;
            ready = b.it.ready;
            undiscarded = b.it.undiscarded;
            unknown = b.it.unknown;
            place = b.it.place;
            placed = ap (λ (l : List Place). place_in l b.it.document.nav) places ∙ b.it.placed;
            below = b.it.below;
          };
          nobody = sleepers_same x ∙ b.nobody;
        }

    each_then : (l : List DocId) → has_doc l doc ≡ false → AreCutBelow s gone l → AreCutBelow then_ gone l
    each_then [] none are = tt
    each_then (x ∷ l) none are = by_test (x.0 == doc.0) refl none (λ more. each_then l more are.2)
      where
        turned : (x.0 == doc.0) ≡ false → (doc.0 == x.0) ≡ false
        turned is = grind (arith, nat_tests, is)

        by_test : (b : Bool) → (x.0 == doc.0) ≡ b → (b || has_doc l doc) ≡ false → (has_doc l doc ≡ false → AreCutBelow then_ gone l) → AreCutBelow then_ gone (x ∷ l)
        by_test true is h more = absurd cc
        by_test false is h more = (there_then x (turned is) are.0, are.1, more h)

    -- the new one isn't among them
    apart_parts : ((doc.0 == c.move.doc.0) ≡ false) × (has_doc docs c.move.doc ≡ false)
    apart_parts = by_test (doc.0 == c.move.doc.0) refl so.apart
      where
        by_test : (b : Bool) → (doc.0 == c.move.doc.0) ≡ b → (b || has_doc docs c.move.doc) ≡ false → ((doc.0 == c.move.doc.0) ≡ false) × (has_doc docs c.move.doc ≡ false)
        by_test true is h = absurd cc
        by_test false is h = (is, h)

    gone_then : IsGoneFor then_ gone
    gone_then =
        record {
          doc = so.gone_for.doc;
          document = so.gone_for.document;
          found = other so.gone_for.doc (there_apart s gone doc it so.gone_for) ∙ so.gone_for.found;
          discarded = so.gone_for.discarded;
          its_state = so.gone_for.its_state;
        }

    pub cut_done : (new : List RowKind) (u : Tables) → new ≡ out ++ rows.Sent (order_to s doc why tasks.Discard) ∷ [] → IsLeaving c.pass (Some c.move) (left_then s doc rest) new u → IsCutting c gone why (without_doc doc rest) docs new u
    cut_done new u made leaving_ =
        record {
          leaving = leaving;
          noted = so.noted;
          may = gone_may c.pass (Some c.move) out t so.leaving why so.may doc its cut_quiet new u made leaving;
          loads = subst (λ (x : Seen). NoLoadBelow x gone) now_is (λ req l nav place found ongoing own placed. so.loads req l nav place (sym (gone_looks c.pass (Some c.move) out t so.leaving why so.may doc its cut_quiet req) ∙ found) ongoing own (ap (λ (m : List Place). place_in m nav) (sym places) ∙ placed));
          gone_for = subst (λ (x : Seen). IsGoneFor x gone) now_is gone_then;
          gone_left = subst (λ (x : Seen). is_gone x c.left ≡ true) now_is (discard_gone doc s.documents c.left so.gone_left);
          each = subst (λ (x : Seen). AreCutBelow x gone docs) now_is (each_then docs so.each.1 so.each.2);
          new_found = subst (λ (x : Seen). document_of x c.move.doc ≡ Some c.new) now_is (other c.move.doc apart_parts.0 ∙ so.new_found);
          apart = apart_parts.1;
          kept = subst (λ (x : Seen). x.kept ≡ []) now_is (ap (without_doc doc) so.kept);
          off = off_gone c.pass (Some c.move) out t so.leaving why so.may doc its cut_quiet so.off new u made;
          free = so.free;
        }
      where
        leaving : IsLeaving c.pass (Some c.move) (without_doc doc rest) new u
        leaving = gone_leaving c.pass (Some c.move) out t so.leaving why so.may doc its cut_quiet new u made leaving_

        now_is : then_ ≡ now_of c.pass.event new
        now_is = gone_now c.pass (Some c.move) out t so.leaving why so.may doc its cut_quiet new u made

    pub cut_stays : (new : List RowKind) (u : Tables) → new ≡ out ++ rows.Sent (order_to s doc why tasks.Discard) ∷ [] → StaysPlaced s (now_of c.pass.event new)
    cut_stays new u made =
        subst (λ (x : Seen). StaysPlaced s x) (gone_now c.pass (Some c.move) out t so.leaving why so.may doc its cut_quiet new u made) (gone_stays c.pass (Some c.move) out t so.leaving why so.may doc its cut_quiet)

-- ---- so many of them

pub cutting_turn : (c : InCut) (gone : StateId) (why : Why) (rest docs : List DocId) (i : ℕ) (doc : DocId) (out : List RowKind) (t : Tables) → slice_get docs i ≡ Some doc → IsCutting c gone why rest (drop i docs) out t → IsCutting c gone why rest (doc ∷ drop (i + 1) docs) out t
cutting_turn c gone why rest docs i doc out t at so = subst (λ (x : List DocId). IsCutting c gone why rest x out t) (drop-slice_get docs i doc at) so

pub cut_turned : (c : InCut) (gone : StateId) (why : Why) (first rest docs : List DocId) (i : ℕ) (doc : DocId) (out : List RowKind) (t : Tables) → slice_get docs i ≡ Some doc → rest ≡ without_all (take i docs) first → IsCutting c gone why (without_doc doc rest) (drop (i + 1) docs) out t → IsCutting c gone why (without_all (take (i + 1) docs) first) (drop (i + 1) docs) out t
cut_turned c gone why first rest docs i doc out t at is so = subst (λ (x : List DocId). IsCutting c gone why x (drop (i + 1) docs) out t) one so
  where
    one : without_doc doc rest ≡ without_all (take (i + 1) docs) first
    one =
        ap (without_doc doc) is
        ∙ sym (ap (λ (x : List DocId). without_all x first) (take-slice_get docs i doc at) ∙ fold-append (λ (x : List DocId) (d : DocId). without_doc d x) first (take i docs) (doc ∷ []))
