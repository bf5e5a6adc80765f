-- All goes on after the load was refused or dropped as the first row that was put out.
use Rattle.tab_passes.proofs.PassedOn.{AreLeftDuly, dropped_duly, refused_duly}
use Rattle.tab_doors.proofs.PassedOn.{dropped_goes, refused_goes}
use Rattle.seen_facts.proofs.Coord.Unread.{next}
use Rattle.tab_facts.proofs.Last.Rows.{dropped_lasting, refused_lasting}
use Rattle.log_model.specs.Places.{aim_of, all_stand}
use Rattle.log_model.specs.Seen.{Seen}
use Rattle.log_model.specs.declared.outcome.Cause.{Cause}
use Rattle.log_model.specs.declared.outcome.Denial.{Denial}
use Rattle.log_model.specs.declared.request.Mode.{Mode}
use Rattle.log_model.specs.declared.row_kind.Actor.{Actor}
use Rattle.log_model.specs.declared.row_kind.RowKind.{RowKind}
use Rattle.row_facts.specs.Owed.Owed.{IsLoose, IsOwed}
use Rattle.row_facts.proofs.RestRows.Rows.{dropped_rests, refused_rests}
use Rattle.row_facts.specs.RestRows.Moving.{AllRest}
use Rattle.seen_laws.proofs.InEvents.{now_more}
use Rattle.seen_laws.specs.InEvent.{InEvent, now_of, GoesThere, log_of}
use Rattle.std.proofs.Common.{List, [], ap, length, refl, subst, sym, true, ℕ, ◌∙◌, ◌∷◌, ◌≡◌, ◌≤◌}
use Rattle.tab_doors.specs.Working.{IsAtWork}
use Rattle.tab_doors.specs.declared.tables.Tables.{Tables}
use Rattle.tab_facts.proofs.TabGoing.Rows.{dropped_going, refused_going}
use Rattle.tab_facts.specs.TabGoing.Going.{IsGoing}
use Rattle.tab_ids.specs.declared.DocId.{DocId}
use Rattle.tab_ids.specs.declared.NavId.{NavId}
use Rattle.tab_ids.specs.declared.ReqId.{ReqId}
use Rattle.tab_loads.proofs.Firsts.{found, of_load, q}
use Rattle.tab_loads.specs.Loading.{IsLoadAsk, pass_of}
use Rattle.tab_passes.specs.Passing.{IsPassing}
use Rattle.tab_facts.proofs.TabWhole.Ending.{IsNoProcess}
use Rattle.tab_facts.proofs.TabWhole.Refusing.{hand_load_dropped_tab, load_refused_tab}
use Rattle.tab_facts.specs.TabWhole.Tab.{IsTab}
use Rattle.log_model.specs.declared.row_kind.RowKind.TheVariants as rows

module _ (e : InEvent) (req : ReqId) (nav : NavId) (mode : Mode) (address : List ℕ) (asks : IsLoadAsk e req nav mode address) (t : Tables) {behind : List ReqId} (going : IsGoing t.running (req ∷ behind) [] (now_of e [])) (rests : AllRest (now_of e [])) (few : length (now_of e []).kept ≤ t.kept.keep) (duly : AreLeftDuly (log_of e [])) where
  abbrev s : Seen
  s = now_of e []

  -- one row more, that leaves the kept documents
  module _ (row : RowKind) (goes : GoesThere e [] row) (then_ : IsGoing t.running behind [] (next s e.event e.actor row)) (rest : AllRest (next s e.event e.actor row)) (kept : (next s e.event e.actor row).kept ≡ s.kept) (owed : IsOwed e (row ∷ [])) (loose : all_stand (next s e.event e.actor row) (aim_of (next s e.event e.actor row)) ≡ true → IsLoose e (row ∷ [])) (duly_then_ : AreLeftDuly (log_of e (row ∷ []))) (new : List RowKind) (u : Tables) (out_is : new ≡ row ∷ []) (same : u ≡ t) (work : IsAtWork e new u) where
    now_is : now_of e (row ∷ []) ≡ next s e.event e.actor row
    now_is = now_more e [] row goes.read

    one_passing : IsPassing (pass_of e behind) (row ∷ []) t
    one_passing =
        record {
          work = subst (λ (x : Tables). IsAtWork e (row ∷ []) x) same (subst (λ (l : List RowKind). IsAtWork e l u) out_is work);
          going = subst (λ (x : Seen). IsGoing t.running behind [] x) (sym now_is) then_;
          owed = owed;
          loose = λ all. loose (subst (λ (x : Seen). all_stand x (aim_of x) ≡ true) now_is all);
          rests = subst (λ (x : Seen). AllRest x) (sym now_is) rest;
          duly = duly_then_;
          few = subst (λ (l : List DocId). length l ≤ t.kept.keep) (sym (ap (λ (x : Seen). x.kept) now_is ∙ kept)) few;
        }

    pub row_passing : IsPassing (pass_of e behind) new u
    row_passing =
        subst (λ (l : List RowKind). IsPassing (pass_of e behind) l u) (sym out_is) (subst (λ (x : Tables). IsPassing (pass_of e behind) (row ∷ []) x) (sym same) one_passing)

  -- ---- it is dropped

  dropped_then : (cause : Cause) → IsGoing t.running behind [] (next s e.event e.actor (rows.Dropped req cause))
  dropped_then cause =
      dropped_going t.running (req ∷ behind) [] s e.event e.actor going req (q e req nav mode address asks) (found e req nav mode address asks) refl cause behind [] (hand_load_dropped_tab t.running req behind [] s e.event going.tab (of_load e req nav mode address asks) e.actor cause) (dropped_lasting s e.event e.actor going.lasting req cause)

  pub dropped_passing : (cause : Cause) → IsOwed e (rows.Dropped req cause ∷ []) → (all_stand (next s e.event e.actor (rows.Dropped req cause)) (aim_of (next s e.event e.actor (rows.Dropped req cause))) ≡ true → IsLoose e (rows.Dropped req cause ∷ [])) → (new : List RowKind) (u : Tables) → new ≡ rows.Dropped req cause ∷ [] → u ≡ t → IsAtWork e new u → IsPassing (pass_of e behind) new u
  dropped_passing cause owed loose =
      row_passing (rows.Dropped req cause) (dropped_goes e [] req cause) (dropped_then cause) (dropped_rests s e.event e.actor [] rests req cause) refl owed loose
      (dropped_duly e [] req cause (rows.Dropped req cause ∷ []) refl duly)

  pub dropped_tab : (cause : Cause) → IsTab t.running behind [] (next s e.event e.actor (rows.Dropped req cause))
  dropped_tab cause = (dropped_then cause).tab

  -- ---- it is refused

  by_user : IsNoProcess e.actor
  by_user = subst (λ (a : Actor). IsNoProcess a) (sym asks.by_user) tt

  refused_then : (reason : Denial) → IsGoing t.running behind [] (next s e.event e.actor (rows.Refused req reason))
  refused_then reason =
      refused_going t.running (req ∷ behind) [] s e.event e.actor going req (q e req nav mode address asks) (found e req nav mode address asks) refl reason behind [] (load_refused_tab t.running req behind [] s e.event going.tab (of_load e req nav mode address asks) e.actor reason by_user) (refused_lasting s e.event e.actor going.lasting req reason)

  pub refused_passing : (reason : Denial) → IsOwed e (rows.Refused req reason ∷ []) → (all_stand (next s e.event e.actor (rows.Refused req reason)) (aim_of (next s e.event e.actor (rows.Refused req reason))) ≡ true → IsLoose e (rows.Refused req reason ∷ [])) → (new : List RowKind) (u : Tables) → new ≡ rows.Refused req reason ∷ [] → u ≡ t → IsAtWork e new u → IsPassing (pass_of e behind) new u
  refused_passing reason owed loose =
      row_passing (rows.Refused req reason) (refused_goes e [] req reason) (refused_then reason) (refused_rests s e.event e.actor [] rests req reason) refl owed loose
      (refused_duly e [] req reason (rows.Refused req reason ∷ []) refl duly)

  pub refused_tab : (reason : Denial) → IsTab t.running behind [] (next s e.event e.actor (rows.Refused req reason))
  refused_tab reason = (refused_then reason).tab
