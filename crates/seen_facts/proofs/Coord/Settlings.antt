-- Where nothing is on its way, the document of an awake navigable shows the navigable's target.
use Rattle.std.proofs.Common.{◌≡◌, ℕ, true, ◌==◌, List, [], ◌∷◌, Option, Some, None, refl, sym, ap, ◌∙◌, subst}
use Rattle.std.specs.Prelude.{fold, slice_get, bytes_eq}
use Rattle.tab_ids.specs.declared.Epoch.{Epoch}
use Rattle.log_model.specs.declared.made.Made.{Made}
use Rattle.log_model.specs.declared.row.Row.{Row}
use Rattle.log_model.specs.Equal.{same_memo, same_pair}
use Rattle.log_model.specs.History.{same_entry, target_entry}
use Rattle.log_model.specs.Views.{View}
use Rattle.log_model.specs.Seen.{Seen, Document, Desk, Place}
use Rattle.log_model.specs.Places.{pair_at}
use Rattle.log_model.specs.Formed.{running_documents}
use Rattle.log_model.specs.Settled.{shows, runs_target}
use Rattle.log_model.proofs.Refl.{nat_eq_refl, bytes_eq_refl, same_entry_refl, same_memo_refl, same_pair_refl}
use Rattle.seen_facts.specs.Coord.Leading.{pending_view, coming, face_of_view, face_after, Face, Leads}
use Rattle.seen_laws.proofs.Sendings.{both}

-- nothing waits in the process, and nothing that it reported is to be delivered
pub record IsIdleDesk (desk : Desk) : Type 0 where
  pub mail : desk.mail ≡ []
  pub hand : desk.in_hand ≡ None
  pub reports : desk.reports ≡ []

-- the document shows the row, with this pair, and runs
pub record ShowsRow (d : Document) (row : Row) (view : View) (pair : ℕ × ℕ) : Type 0 where
  pub has : d.view ≡ Some view
  pub entry : view.entry ≡ row.entry
  pub address : view.address ≡ row.address
  pub memo : view.memo ≡ row.memo
  pub at : (view.length, view.index) ≡ pair
  pub runs : view.running ≡ true

some_same : {A : Type 0} {a b : A} → (let o : Option A = Some a in o) ≡ Some b → a ≡ b
some_same e = cc

-- where what leads has nothing left to do, the document shows the row of its given entry
pub shows_its_row : (rows : List Row) (desk : Desk) (d : Document) (epoch : Epoch) (i : ℕ) (row : Row) (pair : ℕ × ℕ) → IsIdleDesk desk → (leads : Leads rows [] desk d (Some row.entry) epoch) → slice_get rows i ≡ Some row → d.told ≡ Some pair → ShowsRow d row leads.view pair
shows_its_row rows desk d epoch i row pair idle leads there told =
    record {
      has = sym idle_view ∙ leads.pending;
      entry = sym (ap (λ (f : Face). f.entry) face) ∙ given;
      address = sym (ap (λ (f : Face). f.address) face) ∙ sym (leads.is_row i row there (sym given)).0;
      memo = sym (ap (λ (f : Face). f.memo) face) ∙ sym (leads.is_row i row there (sym given)).1;
      at = some_same (sym (leads.pair (rw none refl)) ∙ told);
      runs = leads.runs;
    }
  where
    idle_view : pending_view d desk ≡ d.view
    idle_view = rw (idle.hand, idle.mail) refl

    none : coming [] desk d.nr epoch ≡ []
    none = rw idle.reports refl

    face : leads.face ≡ face_of_view leads.view
    face = sym (ap (λ (l : List Made). fold face_after leads.face l) none) ∙ leads.leads

    given : leads.face.entry ≡ row.entry
    given = some_same leads.is_given

-- it runs its target, and it alone
pub runs_its_target : (s : Seen) (place : Place) (d : Document) (row : Row) (view : View) → ShowsRow d row view (pair_at s s.history.current) → target_entry s.history.rows place.nav s.history.current ≡ Some row → d.state ≡ row.state → running_documents s place.nav ≡ d ∷ [] → runs_target s place ≡ true
runs_its_target s place d row view is at state one =
    let pair : same_pair (view.length, view.index) (pair_at s s.history.current) ≡ true = subst (λ (pair : ℕ × ℕ). same_pair (view.length, view.index) pair ≡ true) is.at (same_pair_refl (view.length, view.index)) in
    let entry : same_entry view.entry row.entry ≡ true = rw is.entry (same_entry_refl row.entry) in
    let address : bytes_eq view.address row.address ≡ true = rw is.address (bytes_eq_refl row.address) in
    let memo : same_memo view.memo row.memo ≡ true = rw is.memo (same_memo_refl row.memo) in
    let shown : shows s row view ≡ true = both (both (both entry address) memo) pair in
    let same : (d.state.0 == row.state.0) ≡ true = rw state (nat_eq_refl row.state.0) in
    rw at (rw one (both same (rw is.has shown)))
