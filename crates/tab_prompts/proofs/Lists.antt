-- The prompts of requests one after the other.
use Rattle.log_model.specs.declared.row_kind.RowKind.{RowKind}
use Rattle.std.proofs.Common.{List, [], add-one, ap, append_assoc, get_or, length, sym, take, ℕ, ◌++◌, ◌+◌, ◌<◌, ◌∙◌, ◌∷◌, ◌≡◌}
use Rattle.std.proofs.Math.Seq.{take-suc}
use Rattle.std.proofs.lemmas.List.Elements.{filter_map-append}
use Rattle.tab_ids.specs.declared.ReqId.{ReqId}
use Rattle.tab_prompts.specs.Prompts.{prompt_for, prompts_for}
use Rattle.unload_check.specs.Checks.{OpenCheck}

-- with one more
pub prompts_more : (table : List (ReqId × OpenCheck)) (reqs : List ReqId) (i : ℕ) (other : ReqId) (first was now : List RowKind) → i < length reqs → was ≡ first ++ prompts_for table (take i reqs) → now ≡ was ++ prompts_for table (get_or reqs i other ∷ []) → now ≡ first ++ prompts_for table (take (i + 1) reqs)
prompts_more table reqs i other first was now within before more =
    more
    ∙ ap (λ (l : List RowKind). l ++ prompts_for table (req ∷ [])) before
    ∙ append_assoc first (prompts_for table (take i reqs)) (prompts_for table (req ∷ []))
    ∙ ap (λ (l : List RowKind). first ++ l)
    (sym (filter_map-append (prompt_for table) (take i reqs) (req ∷ []))
    ∙ ap (λ (l : List ReqId). prompts_for table l) taken)
  where
    req : ReqId
    req = get_or reqs i other

    taken : take i reqs ++ req ∷ [] ≡ take (i + 1) reqs
    taken = sym (rw add-one (take-suc reqs i other within))
