-- What the rows of a turn leave in need: no load begins, and where a load is applied its navigable is in need then.
use Rattle.seen_facts.specs.Hang.Members.{Has}
use Rattle.load_doors.specs.Applying.{new_entry}
use Rattle.load_table.specs.Loads.{ongoing_load}
use Rattle.load_table.specs.declared.load.Load.{Load}
use Rattle.seen_facts.proofs.LoadTies.Begins.{found_nav}
use Rattle.log_model.specs.After.{is_load_request}
use Rattle.log_model.specs.Causes.{nav_of_change}
use Rattle.log_model.specs.Equal.{holds}
use Rattle.log_model.specs.Once.{delta_of, step_at_delta}
use Rattle.log_model.specs.Places.{is_load}
use Rattle.log_model.specs.Seen.{Asked, request_in}
use Rattle.log_model.specs.declared.change.Change.{Change}
use Rattle.log_model.specs.declared.request.Request.{Request}
use Rattle.log_model.specs.declared.row_kind.RowKind.{RowKind}
use Rattle.navigate_core.specs.Navigations.{change_for}
use Rattle.seen_laws.specs.InEvent.{InEvent, now_of}
use Rattle.std.proofs.Common.{Bool, List, None, Option, Some, [], ap, append-nil, append_assoc, false, inl, inr, map, refl, subst, sym, true, ℕ, ℤ, ◌++◌, ◌∙◌, ◌∷◌, ◌≡◌}
use Rattle.std.specs.Prelude.{option_and_then}
use Rattle.tab_applies.specs.PassedOn.{HasGone, IsFirst, WentTo}
use Rattle.tab_begins.proofs.Turns.{drops_each, one_each}
use Rattle.tab_begins.specs.Queueing.{IsLoadApplied, IsOfTurn, LeavesInNeed}
use Rattle.tab_begins.specs.Taking.{HasTaken}
use Rattle.tab_doors.specs.declared.tables.Tables.{Tables}
use Rattle.tab_ids.specs.declared.EntryId.{EntryId}
use Rattle.tab_ids.specs.declared.NavId.{NavId}
use Rattle.tab_ids.specs.declared.ReqId.{ReqId}
use Rattle.tab_ids.specs.declared.Step.{Step}
use Rattle.tab_one_pass.specs.PassedOn.{Drop, InPass, row_of_drop}
use Rattle.log_model.specs.declared.outcome.Denial.TheVariants as denials
use Rattle.log_model.specs.declared.request.Request.TheVariants as requests
use Rattle.log_model.specs.declared.row_kind.RowKind.TheVariants as rows

-- nothing was put out
pub need_none : (e : InEvent) (out : List RowKind) → LeavesInNeed e out out
need_none e out =
    record { grown = record { more = []; is = sym (append-nil out); each = λ row never. absurd never }; begins = λ req goal never. absurd never; needs = λ req change never. absurd never }

-- ---- a traversal's turn

-- a request for a traversal is no load
no_load : (delta : ℤ) (o : Option Asked) → option_and_then (λ (q : Asked). delta_of q.what) o ≡ Some delta → holds (λ (q : Asked). is_load q.what) o ≡ false
no_load delta None asks = absurd cc
no_load delta (Some q) asks = by_what q.what asks
  where
    by_what : (what : Request) → delta_of what ≡ Some delta → is_load what ≡ false
    by_what (requests.Load nav mode address) never = absurd cc
    by_what (requests.Go d) is = refl
    by_what (requests.Poke nav action) is = refl
    by_what (requests.Reload nav) never = absurd cc

module _ (e : InEvent) (out more : List RowKind) (t u : Tables) (req : ReqId) (delta : ℤ) (first : IsFirst (now_of e out) req delta) (gone : HasGone e out more t u req delta) where
  begins_one : (kind : RowKind) → ((r : ReqId) (goal : Option Step) → kind ≡ rows.Started r goal → r ≡ req) → (r : ReqId) (goal : Option Step) → Has (kind ∷ []) (rows.Started r goal) → is_load_request (now_of e out) r ≡ false
  begins_one kind own r goal (inl is) =
      subst (λ (x : ReqId). is_load_request (now_of e out) x ≡ false) (sym (own r goal is)) (no_load delta (request_in (now_of e out).requests req) first.asks)
  begins_one kind own r goal (inr never) = absurd never

  applies_none : (kind : RowKind) → ((r : ReqId) (change : Change) → kind ≡ rows.Applied r change → ⊥) → (r : ReqId) (change : Change) → Has (kind ∷ []) (rows.Applied r change) → ⊥
  applies_none kind none r change (inl is) = none r change is
  applies_none kind none r change (inr never) = never

  pub traverse_need : LeavesInNeed e out more
  traverse_need = by_step (step_at_delta (now_of e out) delta) gone.went
    where
      by_step : (o : Option ℕ) → WentTo out more t u req o → LeavesInNeed e out more
      by_step None went =
          record {
            grown = record { more = rows.Refused req denials.NoStep ∷ []; is = went.0; each = one_each (rows.Refused req denials.NoStep) tt };
            begins = begins_one (rows.Refused req denials.NoStep) (λ r goal never. absurd cc);
            needs = λ r change has. absurd (applies_none (rows.Refused req denials.NoStep) (λ x c never. cc) r change has);
          }
      by_step (Some step) went =
          record {
            grown = record { more = row step ∷ []; is = went.0; each = one_each (row step) tt };
            begins = begins_one (row step) (λ r goal is. cc);
            needs = λ r change has. absurd (applies_none (row step) (λ x c never. cc) r change has);
          }
        where
          row : ℕ → RowKind
          row k = rows.Started req (Some (record { 0 = k }))

-- ---- a load's turn

its_change : (load : Load) (over entry : EntryId) → nav_of_change (change_for load over entry) ≡ Some load.nav
its_change load over entry = by_mode load.replace refl
  where
    by_mode : (b : Bool) → load.replace ≡ b → nav_of_change (change_for load over entry) ≡ Some load.nav
    by_mode true is = rw is refl
    by_mode false is = rw is refl

begins_no_drop : (drops : List Drop) (r : ReqId) (goal : Option Step) → Has (map row_of_drop drops) (rows.Started r goal) → ⊥
begins_no_drop [] r goal never = never
begins_no_drop (d ∷ drops) r goal (inl is) = cc
begins_no_drop (d ∷ drops) r goal (inr has) = begins_no_drop drops r goal has

applies_no_drop : (drops : List Drop) (r : ReqId) (change : Change) → Has (map row_of_drop drops) (rows.Applied r change) → ⊥
applies_no_drop [] r change never = never
applies_no_drop (d ∷ drops) r change (inl is) = cc
applies_no_drop (d ∷ drops) r change (inr has) = applies_no_drop drops r change has

pub load_need : (p : InPass) (out : List RowKind) (t : Tables) (nav : NavId) (load : Load) (more : List RowKind) → ongoing_load nav t.loads ≡ Some load → (req : ReqId) → load.req ≡ req → HasTaken p.event t nav load out more → IsLoadApplied (now_of p.event more) nav req → LeavesInNeed p.event out more
load_need p out t nav load more at req is taken last =
    record {
      grown = record { more = rows.Applied load.req change ∷ later; is = taken.drops.is ∙ ap (λ (l : List RowKind). l ++ later) taken.is ∙ append_assoc out (rows.Applied load.req change ∷ []) later; each = each_row };
      begins = begins;
      needs = needs;
    }
  where
    change : Change
    change = change_for load taken.over (new_entry t)

    later : List RowKind
    later = map row_of_drop taken.drops.drops

    each_row : (row : RowKind) → Has (rows.Applied load.req change ∷ later) row → IsOfTurn row
    each_row row (inl is_) = subst IsOfTurn is_ tt
    each_row row (inr has) = drops_each taken.drops.drops row has

    begins : (r : ReqId) (goal : Option Step) → Has (rows.Applied load.req change ∷ later) (rows.Started r goal) → is_load_request (now_of p.event out) r ≡ false
    begins r goal (inl never) = absurd cc
    begins r goal (inr has) = absurd (begins_no_drop taken.drops.drops r goal has)

    needs : (r : ReqId) (c : Change) → Has (rows.Applied load.req change ∷ later) (rows.Applied r c) → (n : NavId) × ((nav_of_change c ≡ Some n) × IsLoadApplied (now_of p.event more) n r)
    needs r c (inl same) =
        let whose : load.req ≡ r = cc in
        let what : change ≡ c = cc in
        let own : load.nav ≡ nav = found_nav nav t.loads load at in
        let its : nav_of_change c ≡ Some nav = ap nav_of_change (sym what) ∙ its_change load taken.over (new_entry t) ∙ ap (λ (n : NavId). let o : Option NavId = Some n in o) own in
        (nav, (its, subst (λ (x : ReqId). IsLoadApplied (now_of p.event more) nav x) (sym is ∙ whose) last))
    needs r c (inr has) = absurd (applies_no_drop taken.drops.drops r c has)
