-- A navigable leaves a document that is kept, and is shown another one: the parts together.
use Rattle.seen_facts.specs.Kept.Keeping.{kept_states}
use Rattle.log_model.specs.History.{History, target_entry}
use Rattle.log_model.specs.Places.{aim_of}
use Rattle.log_model.specs.Seen.{Seen}
use Rattle.log_model.specs.declared.job.Why.{Why}
use Rattle.log_model.specs.declared.row.Row.{Row}
use Rattle.page_cache.specs.Kept.{left_first}
use Rattle.std.proofs.Common.{List, Option, Some, ap, drop, subst, sym, ℕ, ◌∙◌, ◌≡◌, ◌≤◌}
use Rattle.std.specs.Option.{option_to_list}
use Rattle.tab_ids.specs.declared.DocId.{DocId}
use Rattle.tab_ids.specs.declared.EntryId.{EntryId}
use Rattle.tab_ids.specs.declared.NavId.{NavId}
use Rattle.tab_ids.specs.declared.ReqId.{ReqId}
use Rattle.tab_ids.specs.declared.StateId.{StateId}
pub use Rattle.tab_moves.specs.Showing.{IsTurn}
use Rattle.tab_moves.specs.Making.{show_why}
use Rattle.tab_moves.specs.Moving.{MayBeMoved}
use Rattle.tab_walk.specs.Moving.{HasSetOff, InMove, IsBound, IsPart, MayMakeRoom, MayMoveFrom, MaySetOff, in_move}
use Rattle.row_facts.proofs.WalkRows.Leaves.{leaves_then}

pub part_named : (one other : NavId) → one ≡ other → (s t : Seen) → IsPart s t one → IsPart s t other
part_named one other same s t part = subst (λ (n : NavId). IsPart s t n) same part

pub room_ready : (m : InMove) (run now_run : Option ReqId) (keep now_keep : ℕ) (s t : Seen) (state : StateId) (beyond : Option StateId) (why cause : Why) (nav : NavId) (then_run : Option ReqId) → MayMoveFrom m run keep s state → HasSetOff m now_run t → nav ≡ m.nav → IsPart s t nav → kept_states t ≡ kept_states s → now_keep ≡ keep → why ≡ show_why then_run cause → now_run ≡ then_run → cause ≡ m.cause → option_to_list beyond ≡ drop keep (left_first m.state (kept_states s)) → MayMakeRoom m now_run now_keep t beyond state why
room_ready m run now_run keep now_keep s t state beyond why cause nav then_run may off named part_ states keeps for_run runs caused over =
    record {
      for_run = for_run ∙ ap (λ (r : Option ReqId). show_why r cause) (sym runs) ∙ ap (λ (w : Why). show_why now_run w) caused;
      off = off;
      is_state = ap (λ (r : Row). r.state) target ∙ may.is_state;
      over = over ∙ ap (λ (n : ℕ). drop n (left_first m.state (kept_states s))) (sym keeps) ∙ ap (λ (l : List StateId). drop now_keep (left_first m.state l)) (sym states);
      header = keeps ∙ may.header;
      free = may.free;
      some = subst (λ (n : ℕ). 1 ≤ n) (sym keeps) may.some;
    }
  where
    part : IsPart s t m.nav
    part = part_named nav m.nav named s t part_

    target : off.bound.target ≡ may.bound.target
    target =
        let both : Some off.bound.target ≡ Some may.bound.target = sym off.bound.at ∙ ap (λ (h : History). target_entry h.rows m.nav (aim_of t)) part.others.history ∙ ap (λ (step : ℕ). target_entry s.history.rows m.nav step) part.others.aim ∙ may.bound.at in
        cc

pub part_turn : (s t u : Seen) (nav : NavId) → IsPart s t nav → IsTurn t u nav → IsTurn s u nav
part_turn s t u nav part turn =
    record {
      own = turn.own;
      others = leaves_then s t u nav part.others turn.others;
      parked = turn.parked ∙ part.parked;
      causes = λ why may. turn.causes why (part.causes why may);
    }

-- ---- it sets off

-- what that asks, by the names of a call
pub off_ready : (m : InMove) (nav : NavId) (cause : Why) (doc : DocId) (entry : EntryId) (left : DocId) (old : StateId) → in_move m.pass nav cause doc entry left old ≡ m → (run then_run : Option ReqId) → then_run ≡ run → (why : Why) → why ≡ show_why then_run cause → (keep : ℕ) (s : Seen) (state : StateId) → MayMoveFrom m run keep s state → MaySetOff m then_run s nav left why
off_ready m nav cause doc entry left old its run then_run runs why why_is keep s state may =
    record {
      its = sym named;
      its_left = sym (ap (λ (x : InMove). x.left) its);
      for_run = for_run;
      bound = subst (λ (r : Option ReqId). IsBound m r s) (sym runs) may.bound;
      movable = subst (λ (n : NavId). MayBeMoved m.pass.event s n why) (sym named) (subst (λ (w : Why). MayBeMoved m.pass.event s m.nav w) (sym (for_run ∙ ap (λ (r : Option ReqId). show_why r m.cause) runs)) may.movable);
      were = may.were;
      loads = may.loads;
    }
  where
    named : nav ≡ m.nav
    named = ap (λ (x : InMove). x.nav) its

    for_run : why ≡ show_why then_run m.cause
    for_run = why_is ∙ ap (λ (x : InMove). show_why then_run x.cause) its
