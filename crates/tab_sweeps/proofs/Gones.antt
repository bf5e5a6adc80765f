-- A stray document was discarded: what is left, and that the others are still to be.
use Rattle.tab_doors.proofs.PassedOn.{sent_goes}
use Rattle.log_model.specs.After.{after}
use Rattle.log_model.specs.AfterPlaces.{without_doc}
use Rattle.log_model.specs.Equal.{has_doc}
use Rattle.log_model.specs.Places.{aim_of, all_stand}
use Rattle.log_model.specs.Seen.{Seen}
use Rattle.log_model.specs.declared.job.Job.{Job}
use Rattle.log_model.specs.declared.job.Why.{Why}
use Rattle.log_model.specs.declared.row_kind.RowKind.{RowKind}
use Rattle.nav_tree.specs.Tree.{is_state}
use Rattle.row_facts.proofs.Owed.Ends.{loose_more}
use Rattle.row_facts.proofs.Owed.Rows.{sent_lasts}
use Rattle.row_facts.specs.Owed.Owed.{IsLoose}
use Rattle.seen_facts.specs.Asked.Asking.{HavePassed}
use Rattle.row_facts.proofs.RestRows.Again.{IsPart, doc_same, part_both, part_without, rest_more}
use Rattle.row_facts.specs.RestRows.Left.{left_below}
use Rattle.seen_laws.specs.InEvent.{now_of, row_of}
use Rattle.std.proofs.Common.{Bool, List, None, Some, [], ap, arith, false, inl, inr, length, not, refl, subst, sym, true, ◌++◌, ◌==◌, ◌||◌, ◌∙◌, ◌∷◌, ◌≡◌, ◌≤◌}
use Rattle.std.proofs.lemmas.Bool.Decides.{nat_tests}
use Rattle.std.specs.Map.{lookup}
use Rattle.tab_doors.specs.Orders.{order_to}
use Rattle.tab_doors.specs.Working.{KeepsStore}
use Rattle.tab_doors.specs.declared.tables.Tables.{Tables}
use Rattle.tab_ids.specs.declared.DocId.{DocId}
use Rattle.tab_ids.specs.declared.ReqId.{ReqId}
use Rattle.tab_ids.specs.declared.StateId.{StateId}
use Rattle.tab_passes.proofs.Fews.{fewer as shorter}
use Rattle.tab_passes.proofs.LeftFor.{off_on}
use Rattle.tab_passes.specs.Causes.{MayCause, MayServe}
use Rattle.tab_passes.specs.Leaving.{IsLeavingIn, left_then}
use Rattle.tab_passes.specs.Passing.{InPass}
use Rattle.tab_sweeps.proofs.Discards.{causes_then, leaves_then, now_is, stray_apart, stray_still, stray_was, under_then}
use Rattle.tab_sweeps.proofs.Lists.{first_apart}
use Rattle.tab_sweeps.proofs.Unders.{left_stray}
use Rattle.tab_sweeps.specs.Sweeping.{AreBlamed, IsBlamed, IsStray, IsSweepOf, StraysAreLeft}
use Rattle.tab_sweeps.specs.Turns.{AreStrays, HasSweptEach, IsAnyStray, IsSweeping}
use Rattle.row_facts.proofs.WalkRows.Needs.{sent_stood}
use Rattle.log_model.specs.declared.job.Task.TheVariants as tasks
use Rattle.log_model.specs.declared.job.Why.TheVariants as whys
use Rattle.log_model.specs.declared.row_kind.RowKind.TheVariants as rows

-- what isn't the first is among the others
of_others : (doc x : DocId) (docs : List DocId) → (doc.0 == x.0) ≡ false → has_doc (doc ∷ docs) x ≡ true → has_doc docs x ≡ true
of_others doc x docs apart has = sym (ap (λ (b : Bool). b || has_doc docs x) apart) ∙ has

into_others : (doc x : DocId) (docs : List DocId) → has_doc docs x ≡ true → has_doc (doc ∷ docs) x ≡ true
into_others doc x docs has = by_test (doc.0 == x.0)
  where
    by_test : (b : Bool) → (b || has_doc docs x) ≡ true
    by_test true = refl
    by_test false = has

without_none : (doc : DocId) (docs : List DocId) → has_doc (without_doc doc docs) doc ≡ false
without_none doc [] = refl
without_none doc (d ∷ docs) = by_test (d.0 == doc.0) refl (without_none doc docs)
  where
    by_test : (b : Bool) → (d.0 == doc.0) ≡ b → has_doc (without_doc doc docs) doc ≡ false → has_doc (without_doc doc (d ∷ docs)) doc ≡ false
    by_test true same none = rw same none
    by_test false apart none = rw apart (rw apart none)

turn_round : (a b : DocId) → (a.0 == b.0) ≡ false → (b.0 == a.0) ≡ false
turn_round a b is = grind (arith, nat_tests, is)

-- in s, of which the document is the first of the stray ones
module _ (p : InPass) (blame : List (StateId × ReqId)) (doc : DocId) (rest : List DocId) (out : List RowKind) (t : Tables) (so : IsSweeping p blame (doc ∷ rest) out t) (state : StateId) (stray : IsStray (now_of p.event out) doc state) (req : ReqId) (noted : lookup (is_state state) blame ≡ Some req) where
  abbrev s : Seen
  s = now_of p.event out

  abbrev why : Why
  why = whys.Req req

  abbrev discard : Job
  discard = order_to s doc why tasks.Discard

  abbrev then_ : Seen
  then_ = after s (row_of p.event (rows.Sent discard))

  all_passed : HavePassed s
  all_passed = so.leaving.going.tab.asked.passed

  apart_then : (x : DocId) (own : StateId) → IsStray then_ x own → (doc.0 == x.0) ≡ false
  apart_then = stray_apart p out t so.leaving doc state stray why

  was_stray : (x : DocId) (own : StateId) → IsStray then_ x own → IsStray s x own
  was_stray = stray_was p out t so.leaving doc state stray why

  -- ---- the row was put out

  module _ (new : List RowKind) (u : Tables) (is : new ≡ out ++ rows.Sent discard ∷ []) (keeps : KeepsStore t u) (leaving_ : IsLeavingIn true p None (left_then s doc (doc ∷ rest)) new u) where
    then_is : then_ ≡ now_of p.event new
    then_is = now_is p out t so.leaving doc state stray why new u is leaving_

    causes_still : (cause : Why) → MayCause s cause → MayCause then_ cause
    causes_still = causes_then p out t so.leaving doc state stray why new u is leaving_

    -- the others are left
    strays_then : AreStrays then_ rest
    strays_then =
        record {
          each = λ x has. (let its : IsAnyStray s x = so.strays.each x (into_others doc x rest has) in record { state = its.state; stray = stray_still p out t so.leaving doc state stray why x its.state (first_apart doc rest so.strays.ascending x has) its.stray });
          all = λ x own its. of_others doc x rest (apart_then x own its) (so.strays.all x own (was_stray x own its));
          ascending = so.strays.ascending.1;
        }

    serve_then : (r : ReqId) → MayServe s r → MayServe then_ r
    serve_then r may =
        causes_still (whys.Req r) (λ other same. (let one : r ≡ other = cc in subst (λ (x : ReqId). MayServe s x) one may)) r refl

    blamed_then : AreBlamed then_ blame
    blamed_then x own its =
        let b : IsBlamed s blame x own = so.blamed x own (was_stray x own its) in
        record { req = b.req; noted = b.noted; may = serve_then b.req b.may; moves = under_then p out t so.leaving doc state stray why x (whys.Req b.req) b.moves; leaves = leaves_then p out t so.leaving doc state stray why x b.req (serve_then b.req b.may) b.leaves }

    lefts_then : StraysAreLeft p.event new blame
    lefts_then x own r its found =
        off_on p.event out (rows.Sent discard) new is tt x (whys.Req r)
        (so.lefts x own r (was_stray x own (subst (λ (y : Seen). IsStray y x own) (sym then_is) its)) found)

    -- those that are still to be frozen or discarded are among them
    left_part : IsPart (left_then s doc (doc ∷ rest)) rest
    left_part = part_both (left_below s doc) (without_doc doc (doc ∷ rest)) rest below without
      where
        below : IsPart (left_below s doc) rest
        below x has =
            let its = left_stray t.running p.loads p.hand s so.leaving.going.tab doc state stray x has in
            of_others doc x rest (turn_round x doc its.1) (so.strays.all x its.0.state its.0.stray)

        without : IsPart (without_doc doc (doc ∷ rest)) rest
        without x has = by_test (doc.0 == x.0) refl
          where
            by_test : (b : Bool) → (doc.0 == x.0) ≡ b → has_doc rest x ≡ true
            by_test false apart = of_others doc x rest apart (part_without doc (doc ∷ rest) x has)
            by_test true same = absurd (never (without_none doc (doc ∷ rest)))
              where
                never : has_doc (without_doc doc (doc ∷ rest)) doc ≡ false → ⊥
                never none =
                    let no_ : true ≡ false = sym has ∙ ap (λ (d : DocId). has_doc (without_doc doc (doc ∷ rest)) d) (sym (doc_same doc x same)) ∙ none in cc

    loose_then : all_stand then_ (aim_of then_) ≡ true → IsLoose p.event (out ++ rows.Sent discard ∷ [])
    loose_then stand =
        loose_more p.event out (rows.Sent discard) (sent_goes p.event out discard refl).read (so.loose (sent_stood s p.event.event p.event.actor discard all_passed tt stand)) (sent_lasts s p.event.event p.event.actor discard) (λ end lasts. refl)

    few_then : length then_.kept ≤ u.kept.keep
    few_then =
        let less : length (without_doc doc s.kept) ≤ length s.kept = shorter (λ (d : DocId). not (d.0 == doc.0)) s.kept in
        let low : length s.kept ≤ t.kept.keep = so.few in
        let same : u.kept.keep ≡ t.kept.keep = keeps.keep in
        let all : length (without_doc doc s.kept) ≤ u.kept.keep = omega (arith, less, low, same) in
        all

    pub swept_next : IsSweeping p blame rest new u
    swept_next =
        record {
          leaving = record {
            work = leaving_.work;
            going = leaving_.going;
            owed = leaving_.owed;
            rests = rest_more (now_of p.event new) (left_then s doc (doc ∷ rest)) rest left_part leaving_.rests;
            duly = leaving_.duly;
          };
          loose = λ stand. subst (λ (l : List RowKind). IsLoose p.event l) (sym is) (loose_then (subst (λ (x : Seen). all_stand x (aim_of x) ≡ true) (sym then_is) stand));
          few = subst (λ (x : Seen). length x.kept ≤ u.kept.keep) then_is few_then;
          blamed = subst (λ (x : Seen). AreBlamed x blame) then_is blamed_then;
          lefts = lefts_then;
          strays = subst (λ (x : Seen). AreStrays x rest) then_is strays_then;
        }

    pub swept_one : HasSweptEach s blame (doc ∷ []) out new
    swept_one =
        record {
          more = rows.Sent discard ∷ [];
          is = is;
          each = λ row there. elim there as (λ h. IsSweepOf s blame row) [
            | inl same ↦
                record { job = discard; is = sym same; discards = refl; state = state; stray = stray; req = req; noted = noted; why_is = refl }
            | inr never ↦ absurd never
          ];
          numbers = refl;
        }
