-- No more documents are kept than may be, once a navigable is shown another one.
use Rattle.seen_facts.proofs.Hang.Members.{has_filter}
use Rattle.seen_facts.specs.Hang.Members.{Has}
use Rattle.seen_facts.proofs.Kept.States.{AreOfOwnStates, states_many}
use Rattle.seen_facts.specs.Kept.Keeping.{kept_states, state_in}
use Rattle.log_model.specs.AfterPlaces.{without_doc}
use Rattle.log_model.specs.Seen.{Seen}
use Rattle.page_cache.specs.Kept.{left_first, without}
use Rattle.std.proofs.Common.{List, None, Option, Some, ap, arith, filter_map, inl, inr, length, not, subst, sym, take, ℕ, ◌==◌, ◌∙◌, ◌∷◌, ◌≡◌, ◌≤◌}
use Rattle.tab_doors.proofs.Keeping.{states_shown}
use Rattle.tab_doors.specs.Keeping.{HasRoom, Leaves, LeavesFor, LeavesOne, Move, kept_once_shown}
use Rattle.tab_ids.specs.declared.DocId.{DocId}
use Rattle.tab_ids.specs.declared.StateId.{StateId}
use Rattle.tab_moves.specs.Showing.{FewUnlessLeft}
use Rattle.tab_passes.proofs.Fews.{fewer, taken_few}

pub few_shown : (s : Seen) (doc : DocId) (state : StateId) (move : Option Move) (keep : ℕ) → AreOfOwnStates s.documents s.kept doc state → LeavesFor move s doc state keep → FewUnlessLeft move s keep → length (kept_once_shown s doc) ≤ keep
few_shown s doc state move keep own leaves few = by_move move leaves few
  where
    none : kept_once_shown s doc ≡ without_doc doc s.kept → length s.kept ≤ keep → length (kept_once_shown s doc) ≤ keep
    none is low =
        let same : length (kept_once_shown s doc) ≡ length (without_doc doc s.kept) = ap (λ (l : List DocId). length l) is in
        let less : length (without_doc doc s.kept) ≤ length s.kept = fewer (λ (d : DocId). not (d.0 == doc.0)) s.kept in
        omega (arith, same, less, low)

    one : (left : StateId) → LeavesOne s doc left → HasRoom (Some left) keep (kept_states s) state → length (kept_once_shown s doc) ≤ keep
    one left leaves_ room =
        let many : length (filter_map (state_in s.documents) (kept_once_shown s doc)) ≡ length (kept_once_shown s doc) = states_many s.documents (kept_once_shown s doc) there in
        let states : left_first left (without state (kept_states s)) ≡ filter_map (state_in s.documents) (kept_once_shown s doc) = states_shown s doc state left own leaves_ in
        let same : length (kept_once_shown s doc) ≡ length (without state (take keep (left_first left (kept_states s)))) = sym many ∙ ap (λ (l : List StateId). length l) (sym states ∙ sym room) in
        let less : length (without state (take keep (left_first left (kept_states s)))) ≤ length (take keep (left_first left (kept_states s))) = fewer (λ (other : StateId). not (state.0 == other.0)) (take keep (left_first left (kept_states s))) in
        let low : length (take keep (left_first left (kept_states s))) ≤ keep = taken_few keep (left_first left (kept_states s)) in
        omega (arith, same, less, low)
      where
        there : (other : DocId) → Has (kept_once_shown s doc) other → (x : StateId) × (state_in s.documents other ≡ Some x)
        there other has =
            by_place (has_filter (λ (d : DocId). not (d.0 == doc.0)) (leaves_.left ∷ without_doc leaves_.left s.kept) other (subst (λ (l : List DocId). Has l other) leaves_.is has)).0
          where
            by_place : Has (leaves_.left ∷ without_doc leaves_.left s.kept) other → (x : StateId) × (state_in s.documents other ≡ Some x)
            by_place (inl same) = (left, ap (λ (d : DocId). state_in s.documents d) (sym same) ∙ leaves_.own.own)
            by_place (inr more) = leaves_.own.there other (has_filter (λ (d : DocId). not (d.0 == leaves_.left.0)) s.kept other more).0

    by_left : (left : Option StateId) → Leaves s doc left → HasRoom left keep (kept_states s) state → FewUnlessLeft (Some (record { doc = doc; left = left })) s keep → length (kept_once_shown s doc) ≤ keep
    by_left None leaves_ room low = none leaves_ low
    by_left (Some left) leaves_ room low = one left leaves_ room

    by_move : (m : Option Move) → LeavesFor m s doc state keep → FewUnlessLeft m s keep → length (kept_once_shown s doc) ≤ keep
    by_move None is low = none is low
    by_move (Some m) parts low = by_left m.left parts.1 parts.2 low
