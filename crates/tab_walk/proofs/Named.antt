-- Where none may be kept: the parts together, by the names of a call.
use Rattle.seen_facts.proofs.Kept.States.{AreOfOwnStates}
use Rattle.seen_facts.specs.Kept.Keeping.{kept_states}
use Rattle.log_model.specs.Equal.{has_doc}
use Rattle.log_model.specs.Seen.{Document, Seen, document_of}
use Rattle.log_model.specs.declared.job.Why.{Why}
use Rattle.log_model.specs.declared.row_kind.RowKind.{RowKind}
use Rattle.seen_laws.specs.InEvent.{now_of}
use Rattle.std.proofs.Common.{List, Some, [], ap, refl, subst, sym, true, ◌++◌, ◌∙◌, ◌∷◌, ◌≡◌}
use Rattle.tab_doors.specs.Keeping.{LetsGo}
use Rattle.tab_doors.specs.Orders.{order_to}
use Rattle.tab_doors.specs.Working.{KeepsStore, MaySend}
use Rattle.tab_doors.specs.declared.tables.Tables.{Tables}
use Rattle.tab_evicts.specs.Evicting.{HasOnlyDiscarded, StaysPlaced}
use Rattle.tab_ids.specs.declared.DocId.{DocId}
use Rattle.tab_ids.specs.declared.NavId.{NavId}
use Rattle.tab_ids.specs.declared.StateId.{StateId}
use Rattle.tab_moves.specs.Showing.{IsToShow}
use Rattle.tab_moves.proofs.Leaves.{MayLeave}
use Rattle.tab_moves.specs.PassedOn.{IsGoneAt, IsLeaving, left_then, without_all}
use Rattle.tab_moves.proofs.Frees.{docs_below}
use Rattle.tab_moves.specs.Moving.{AreLeftUnder}
use Rattle.tab_passes.specs.Leaving.{OffAreLeft}
use Rattle.tab_walk.proofs.Cutoffs.{cut_gone, cut_leaves, cut_own, cut_sends}
use Rattle.tab_walk.proofs.Ends.{aimed_then, all_gone, cutting_then, part_cut, sleeps_then}
use Rattle.tab_walk.proofs.Offs.{part_then}
use Rattle.tab_walk.proofs.Shows.{cut_leaving, cut_part, cut_shows}
use Rattle.tab_walk.specs.Cutting.{IsCutting, MayCut, cut_of}
use Rattle.tab_walk.specs.Moving.{InMove, IsPart}
use Rattle.log_model.specs.declared.job.Task.TheVariants as tasks
use Rattle.log_model.specs.declared.row_kind.RowKind.TheVariants as rows

module _ (m : InMove) (out : List RowKind) (t : Tables) (leaving : IsLeaving m.pass (Some (cut_of m)) [] out t) (why : Why) (nav : NavId) (left : DocId) (old : StateId) (may_ : MayCut m t.running (now_of m.pass.event out) nav left old why) (lefts_ : AreLeftUnder m.pass.event out nav why) (off : OffAreLeft m.pass.event out why) where
  abbrev s : Seen
  s = now_of m.pass.event out

  may : MayCut m t.running s m.nav m.left m.state why
  may =
      record {
        its = refl;
        its_left = refl;
        its_state = refl;
        for_run = may_.for_run;
        bound = may_.bound;
        movable = may_.movable;
        were = may_.were;
        loads = may_.loads;
        none = may_.none;
        free = may_.free;
        kept = may_.kept;
      }

  lefts : AreLeftUnder m.pass.event out m.nav why
  lefts = subst (λ (n : NavId). AreLeftUnder m.pass.event out n why) (sym may_.its) lefts_

  -- ---- what the first Discard asks

  pub record IsFirstCut (doc : DocId) (state : StateId) : Type 0 where
    pub leaves : MayLeave s doc why
    pub sends : MaySend (Some (cut_of m)) m.pass.event out (order_to s doc why tasks.Discard)
    pub gone : IsGoneAt s t.tree t.loads doc state
    pub own : AreOfOwnStates s.documents s.kept doc state
    pub lets : LetsGo (Some (cut_of m)) t.kept.keep (kept_states s) state

  pub first_cut : IsFirstCut left old
  first_cut =
      subst (λ (d : DocId). IsFirstCut d old) may_.its_left
      (subst (λ (x : StateId). IsFirstCut m.left x) may_.its_state (record {
        leaves = cut_leaves m out t leaving why may;
        sends = cut_sends m out t leaving why may lefts off;
        gone = cut_gone m out t leaving why may;
        own = cut_own m out t leaving why may;
        lets = refl;
      }))

  -- ---- once it was sent

  module _ (mid : List RowKind) (u : Tables) (is_ : mid ≡ out ++ rows.Sent (order_to s left why tasks.Discard) ∷ []) (keeps : KeepsStore t u) (leaving_ : IsLeaving m.pass (Some (cut_of m)) (left_then s left []) mid u) (new : Document) (new_found : document_of s m.doc ≡ Some new) (rest : List DocId) (rest_is : rest ≡ left_then s left []) (docs : List DocId) (docs_are : docs ≡ docs_below t.tree nav) where
    is : mid ≡ out ++ rows.Sent (order_to s m.left why tasks.Discard) ∷ []
    is = is_ ∙ ap (λ (d : DocId). out ++ rows.Sent (order_to s d why tasks.Discard) ∷ []) (sym may_.its_left)

    then_leaving : IsLeaving m.pass (Some (cut_of m)) (left_then s m.left []) mid u
    then_leaving = subst (λ (d : DocId). IsLeaving m.pass (Some (cut_of m)) (left_then s d []) mid u) (sym may_.its_left) leaving_

    rest_own : rest ≡ left_then s m.left []
    rest_own = rest_is ∙ ap (λ (d : DocId). left_then s d []) (sym may_.its_left)

    docs_own : docs ≡ docs_below t.tree m.nav
    docs_own = docs_are ∙ ap (λ (n : NavId). docs_below t.tree n) (sym may_.its)

    pub cutting_named : IsCutting (record { pass = m.pass; move = cut_of m; left = m.left; new = new }) m.state why rest docs mid u
    cutting_named =
        subst (λ (l : List DocId). IsCutting (record { pass = m.pass; move = cut_of m; left = m.left; new = new }) m.state why l docs mid u) (sym rest_own)
        (subst (λ (l : List DocId). IsCutting (record { pass = m.pass; move = cut_of m; left = m.left; new = new }) m.state why (left_then s m.left []) l mid u) (sym docs_own)
        (cutting_then m out t leaving why may mid u is keeps then_leaving lefts off new new_found))

    module _ (last_out : List RowKind) (v : Tables) (keeps_ : KeepsStore u v) (so : IsCutting (record { pass = m.pass; move = cut_of m; left = m.left; new = new }) m.state why (without_all docs rest) [] last_out v) (only : HasOnlyDiscarded why mid last_out) (stays : StaysPlaced (now_of m.pass.event mid) (now_of m.pass.event last_out)) where
      done : (x : DocId) → has_doc (without_all docs rest) x ≡ true → ⊥
      done x has =
          all_gone m out t leaving why may mid u is keeps then_leaving x (subst (λ (l : List DocId). has_doc (without_all l (left_then s m.left [])) x ≡ true) docs_own (subst (λ (l : List DocId). has_doc (without_all docs l) x ≡ true) rest_own has))

      mid_new : document_of (now_of m.pass.event mid) m.doc ≡ Some new
      mid_new = (cutting_then m out t leaving why may mid u is keeps then_leaving lefts off new new_found).new_found

      pub leaving_named : IsLeaving m.pass (Some (cut_of m)) [] last_out v
      leaving_named =
          cut_leaving m why mid u new (without_all docs rest) mid_new (aimed_then m out t leaving why may mid u is keeps then_leaving) (sleeps_then m out t leaving why may mid u is keeps then_leaving) last_out v keeps_ so done only stays

      pub shows_named : IsToShow (Some (cut_of m)) v.running v.kept.keep (now_of m.pass.event last_out) m.nav m.doc m.entry m.cause
      shows_named =
          cut_shows m why mid u new (without_all docs rest) mid_new (aimed_then m out t leaving why may mid u is keeps then_leaving) (sleeps_then m out t leaving why may mid u is keeps then_leaving) last_out v keeps_ so done only stays

      pub part_named_ : IsPart s (now_of m.pass.event last_out) m.nav
      part_named_ =
          part_then s (now_of m.pass.event mid) (now_of m.pass.event last_out) m.nav (part_cut m out t leaving why may mid u is keeps then_leaving) (cut_part m why mid u new (without_all docs rest) mid_new (aimed_then m out t leaving why may mid u is keeps then_leaving) (sleeps_then m out t leaving why may mid u is keeps then_leaving) last_out v keeps_ so done only stays)
