-- The next stray document of a list is discarded.
use Rattle.seen_facts.proofs.Kept.States.{AreOfOwnStates}
use Rattle.log_model.proofs.Refl.{nat_eq_refl}
use Rattle.log_model.specs.Equal.{has_doc}
use Rattle.log_model.specs.Seen.{Seen}
use Rattle.log_model.specs.declared.row_kind.RowKind.{RowKind}
use Rattle.nav_tree.proofs.Lists.{drop-slice_get}
use Rattle.nav_tree.specs.Tree.{is_state, state_of}
use Rattle.seen_laws.specs.InEvent.{now_of}
use Rattle.std.proofs.Common.{Bool, List, None, Option, Some, [], ap, drop, subst, sym, ℕ, ◌++◌, ◌+◌, ◌||◌, ◌∙◌, ◌∷◌, ◌≡◌, true}
use Rattle.std.specs.Map.{lookup}
use Rattle.std.specs.Prelude.{IsSome, is_some, slice_get}
use Rattle.tab_doors.specs.Orders.{order_to}
use Rattle.tab_doors.specs.Working.{KeepsStore, MaySend}
use Rattle.tab_doors.specs.declared.tables.Tables.{Tables}
use Rattle.tab_ids.specs.declared.DocId.{DocId}
use Rattle.tab_ids.specs.declared.ReqId.{ReqId}
use Rattle.tab_ids.specs.declared.StateId.{StateId}
use Rattle.tab_passes.specs.Leaving.{IsGoneAt, IsLeavingIn, MayLeave, left_then}
use Rattle.tab_passes.specs.Passing.{InPass}
use Rattle.tab_sweeps.proofs.Courses.{sweep_next}
use Rattle.tab_sweeps.proofs.Founds.{stray_listed}
use Rattle.tab_sweeps.proofs.Discards.{swept_turn}
use Rattle.tab_sweeps.proofs.Gones.{swept_next, swept_one}
use Rattle.tab_sweeps.proofs.Sends.{its_stray, sweep_leaves, sweep_sends}
use Rattle.tab_sweeps.proofs.Theres.{stray_gone, stray_own}
use Rattle.tab_sweeps.specs.Sweeping.{IsStray, IsSweptTurn}
use Rattle.tab_sweeps.specs.Turns.{HasSweptEach, HasSweptNext, IsAnyStray, IsSweeping, IsSweepingAt}
use Rattle.log_model.specs.declared.job.Task.TheVariants as tasks
use Rattle.log_model.specs.declared.job.Why.TheVariants as whys
use Rattle.log_model.specs.declared.row_kind.RowKind.TheVariants as rows

module _ (p : InPass) (blame : List (StateId × ReqId)) (docs : List DocId) (i : ℕ) (doc : DocId) (out : List RowKind) (t : Tables) (at : slice_get docs i ≡ Some doc) (so : IsSweepingAt p blame docs i out t) where
  abbrev s : Seen
  s = now_of p.event out

  abbrev rest : List DocId
  rest = drop (i + 1) docs

  here : IsSweeping p blame (doc ∷ drop (i + 1) docs) out t
  here = sweep_next blame docs p i doc out t at so

  any : IsAnyStray s doc
  any = here.strays.each doc (ap (λ (b : Bool). b || has_doc (drop (i + 1) docs) doc) (nat_eq_refl doc.0))

  pub step_listed : IsSome (state_of doc t.tree)
  step_listed = ap (λ (o : Option StateId). is_some o) (stray_listed p None out t here.leaving doc any.state any.stray)

  module _ (state : StateId) (is : state_of doc t.tree ≡ Some state) where
    stray : IsStray s doc state
    stray = its_stray p blame out t here doc state any is

    pub step_noted : IsSome (lookup (is_state state) blame)
    step_noted = ap (λ (o : Option ReqId). is_some o) (here.blamed doc state stray).noted

    module _ (req : ReqId) (noted : lookup (is_state state) blame ≡ Some req) where
      pub step_leaves : MayLeave s doc (whys.Req req)
      step_leaves = sweep_leaves p blame out t here doc state stray req noted

      pub step_sends : MaySend None p.event out (order_to s doc (whys.Req req) tasks.Discard)
      step_sends = sweep_sends p blame out t here doc state stray req noted

      pub step_gone : IsGoneAt s t.tree t.loads doc state
      step_gone = stray_gone p out t here.leaving doc state stray

      pub step_own : AreOfOwnStates s.documents s.kept doc state
      step_own = stray_own p out t here.leaving doc state stray

      module _ (new : List RowKind) (u : Tables) (made : new ≡ out ++ rows.Sent (order_to s doc (whys.Req req) tasks.Discard) ∷ []) (keeps : KeepsStore t u) (leaving_ : IsLeavingIn true p None (left_then s doc (drop i docs)) new u) where
        left : IsLeavingIn true p None (left_then s doc (doc ∷ drop (i + 1) docs)) new u
        left = subst (λ (l : List DocId). IsLeavingIn true p None (left_then s doc l) new u) (drop-slice_get docs i doc at) leaving_

        pub step_next : IsSweepingAt p blame docs (i + 1) new u
        step_next = swept_next p blame doc rest out t here state stray req noted new u made keeps left

        pub step_turn : IsSweptTurn s (now_of p.event new)
        step_turn = swept_turn p out t here.leaving doc state stray (whys.Req req) new u made left

        pub step_only : HasSweptNext s blame docs i out new
        step_only d its =
            let two : Some doc ≡ Some d = sym at ∙ its in
            let same : doc ≡ d = cc in
            subst (λ (x : DocId). HasSweptEach s blame (x ∷ []) out new) same (swept_one p blame doc rest out t here state stray req noted new u made keeps left)
