-- Two histories that are the same but for the order of their rows: their readers answer the same, and a change keeps them the same.
use Rattle.std.proofs.Common.{◌≡◌, Bool, ◌&&◌, List, [], ap, sym, ◌∙◌, filter, fold}
use Rattle.std.specs.List.{list_any}
use Rattle.log_model.specs.declared.row.Row.{Row}
use Rattle.log_model.specs.History.{has_state, is_anchored, tidied, with_step, used_steps}
use Rattle.log_model.specs.Order.{ordered}
use Rattle.log_model.specs.Soundness.{is_in_state, IsRooted}
use Rattle.history_laws.proofs.Members.{IsIn, list_any-filter}
use Rattle.history_laws.proofs.Tidying.{IsClosed, IsClosed-tidied, tidied-closed, tidied-filter}
use Rattle.history_laws.proofs.UsedSteps.{with_step-with_step, used_steps-fold}
use Rattle.history_laws.proofs.Sorted.{ordered-any, ordered-filter, fold-ordered, HaveSteps}

-- ---- rows that are the same but for their order

module _ (one other : List Row) (same : ordered one ≡ ordered other) where
  pub any-same : (test : Row → Bool) → list_any test one ≡ list_any test other
  any-same test = sym (ordered-any test one) ∙ ap (list_any test) same ∙ ordered-any test other

  pub in-same : (row : Row) → IsIn one row → IsIn other row
  in-same row there test passes = sym (any-same test) ∙ there test passes

  pub filter-same_order : (p : Row → Bool) → ordered (filter p one) ≡ ordered (filter p other)
  filter-same_order p = ordered-filter p one ∙ ap (filter p) same ∙ sym (ordered-filter p other)

  -- the same is left by tidying
  pub tidied-same : (whole : List Row) → IsRooted whole → ((row : Row) → IsIn other row → IsIn whole row) → ordered (tidied one) ≡ ordered (tidied other)
  tidied-same whole rooted part =
      ap ordered (tidied-filter one) ∙ filter-same_order (is_anchored (tidied one)) ∙ ap ordered (tidied-closed whole rooted other part (λ state. has_state state (tidied one)) closed)
    where
      closed : IsClosed (λ state. has_state state (tidied one)) other
      closed state =
          IsClosed-tidied one state
          ∙ list_any-filter (is_in_state state) (is_anchored (tidied one)) one
          ∙ any-same (λ row. is_anchored (tidied one) row && is_in_state state row)
          ∙ sym (list_any-filter (is_in_state state) (is_anchored (tidied one)) other)

  -- ---- the readers

  module _ (one_few : HaveSteps one) (other_few : HaveSteps other) where
    -- a fold that takes rows in any order
    pub fold-same : {B : Type 0} (f : B → Row → B) → ((z : B) (a b : Row) → f (f z a) b ≡ f (f z b) a) → (z : B) → fold f z one ≡ fold f z other
    fold-same f turns z =
        sym (fold-ordered f (λ y a b apart. turns y a b) z one one_few) ∙ ap (fold f z) same ∙ fold-ordered f (λ y a b apart. turns y a b) z other other_few

    pub used_steps-same : used_steps one ≡ used_steps other
    used_steps-same =
        sym (used_steps-fold [] one)
        ∙ fold-same (λ steps (row : Row). with_step row.step.0 steps) (λ steps a b. with_step-with_step b.step.0 a.step.0 steps) []
        ∙ used_steps-fold [] other
