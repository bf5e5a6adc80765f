-- What a row has to leave of a place, and of what is read of it, so that its navigable stands as before.
use Rattle.std.proofs.Common.{◌≡◌, ◌≢◌, ◌⊎◌, inl, inr, ◌≤◌, Bool, false, List, Option, Some, None, refl, sym, ap, ◌∙◌, subst}
use Rattle.std.specs.Prelude.{option_map}
use Rattle.tab_ids.specs.declared.DocId.{DocId}
use Rattle.tab_ids.specs.declared.EntryId.{EntryId}
use Rattle.tab_ids.specs.declared.Epoch.{Epoch}
use Rattle.tab_ids.specs.declared.NavId.{NavId}
use Rattle.tab_ids.specs.declared.ReqId.{ReqId}
use Rattle.log_model.specs.declared.row.Row.{Row}
use Rattle.log_model.specs.History.{has_row}
use Rattle.log_model.specs.Places.{top}
use Rattle.log_model.specs.Seen.{Seen, Document, Place, awake, lost, asleep}
use Rattle.seen_facts.specs.Hang.Members.{Has}
use Rattle.seen_facts.specs.Home.Homes.{document_in}
use Rattle.seen_facts.specs.Place.Standing.{IsAskedBy, IsOfItsLast, IsShownOnce, IsStanding, IsTold, IsUnshownYet}
use Rattle.seen_facts.proofs.Place.Asked.{StayAsked, asked_by_stays}
use Rattle.seen_facts.proofs.Place.Documents.{state_in}

-- ---- one place

-- what is read of a place here, but for how it is awake and who took its last entries
pub record Bearing : Type 0 where
  pub nav : NavId
  pub epoch : Epoch
  pub given : Option EntryId
  pub last : Option DocId
  pub ever_given : List EntryId
  pub is_pending : Bool
  pub is_unmet : Bool
  pub added_by : Option ReqId

-- of this place
abbrev pub bearing : Place → Bearing
bearing place =
    record {
      nav = place.nav;
      epoch = place.epoch;
      given = place.given;
      last = place.last;
      ever_given = place.ever_given;
      is_pending = place.is_pending;
      is_unmet = place.is_unmet;
      added_by = place.added_by;
    }

-- where the navigable stands, but for who took its last entries
pub record IsSettled (s : Seen) (place : Place) : Type 0 where
  pub unlost : place.status ≡ lost → ⊥
  pub unpending : place.is_pending ≡ false
  pub met : place.is_unmet ≡ false
  pub shown : (doc : DocId) → place.status ≡ awake doc → 1 ≤ place.epoch.0
  pub told : IsTold place
  pub of_last : IsOfItsLast s place
  pub added : place.nav ≢ top → IsAskedBy s.requests place.added_by

-- one that stands does
pub settled_of : (s : Seen) (place : Place) → IsStanding s place → IsSettled s place
settled_of s place is =
    record { unlost = is.unlost; unpending = is.unpending; met = is.met; shown = is.shown; told = is.told; of_last = is.of_last; added = is.added }

-- and who took its last entries is known
pub standing_of : (s : Seen) (place : Place) → IsSettled s place → (has_row place.nav s.history.rows ≡ false → IsAskedBy s.requests place.taken_by) → IsStanding s place
standing_of s place is taken =
    record { unlost = is.unlost; unpending = is.unpending; met = is.met; shown = is.shown; told = is.told; of_last = is.of_last; taken = taken; added = is.added }

-- a document then was of the same state
pub was_of_state : (old new : List Document) (doc : DocId) (d : Document) → state_in new doc ≡ state_in old doc → document_in new doc ≡ Some d → (before : Document) × (document_in old doc ≡ Some before) × (before.state ≡ d.state)
was_of_state old new doc d same found = by_old (document_in old doc) refl
  where
    now : state_in old doc ≡ Some d.state
    now = sym same ∙ ap (λ (o : Option Document). option_map (λ (x : Document). x.state) o) found

    by_old : (o : Option Document) → document_in old doc ≡ o → (before : Document) × (document_in old doc ≡ Some before) × (before.state ≡ d.state)
    by_old None e =
        let no_ : None ≡ Some d.state = sym (ap (λ (o : Option Document). option_map (λ (x : Document). x.state) o) e) ∙ now in absurd cc
    by_old (Some before) e =
        let both : Some before.state ≡ Some d.state = sym (ap (λ (o : Option Document). option_map (λ (x : Document). x.state) o) e) ∙ now in
        (before, e, (let one : before.state ≡ d.state = cc in one))

-- the place is as before, or its navigable has fallen asleep; its document is of the same state, and a row of its entry was there
pub record StaysSo (s t : Seen) (before place : Place) : Type 0 where
  pub same : bearing place ≡ bearing before
  pub status : (place.status ≡ before.status) ⊎ (place.status ≡ asleep)
  pub asked : StayAsked s.requests t.requests
  pub states : (doc : DocId) → before.last ≡ Some doc → state_in t.documents doc ≡ state_in s.documents doc
  pub part : (row : Row) → Has t.history.rows row → row.nav ≡ before.nav → before.given ≡ Some row.entry → Has s.history.rows row

-- so it still stands
pub still_settled : (s t : Seen) (before place : Place) → StaysSo s t before place → IsSettled s before → IsSettled t place
still_settled s t before place stays is =
    record {
      unlost = λ e. by_lost stays.status e;
      unpending = ap (λ (b : Bearing). b.is_pending) stays.same ∙ is.unpending;
      met = ap (λ (b : Bearing). b.is_unmet) stays.same ∙ is.met;
      shown = λ doc e. by_awake doc stays.status e;
      told = (none, once);
      of_last = of_last;
      added = λ child. subst (λ (by : Option ReqId). IsAskedBy t.requests by) (sym (ap (λ (b : Bearing). b.added_by) stays.same)) (asked_by_stays s.requests t.requests before.added_by stays.asked (is.added (λ e. child (nav ∙ e))));
    }
  where
    nav : place.nav ≡ before.nav
    nav = ap (λ (b : Bearing). b.nav) stays.same

    epoch : place.epoch ≡ before.epoch
    epoch = ap (λ (b : Bearing). b.epoch) stays.same

    last : place.last ≡ before.last
    last = ap (λ (b : Bearing). b.last) stays.same

    given : place.given ≡ before.given
    given = ap (λ (b : Bearing). b.given) stays.same

    by_lost : (place.status ≡ before.status) ⊎ (place.status ≡ asleep) → place.status ≡ lost → ⊥
    by_lost (inl as_before) e = is.unlost (sym as_before ∙ e)
    by_lost (inr sleeps) e = let no_ : asleep ≡ lost = sym sleeps ∙ e in absurd cc

    by_awake : (doc : DocId) → (place.status ≡ before.status) ⊎ (place.status ≡ asleep) → place.status ≡ awake doc → 1 ≤ place.epoch.0
    by_awake doc (inl as_before) e = subst (λ (n : Epoch). 1 ≤ n.0) (sym epoch) (is.shown doc (sym as_before ∙ e))
    by_awake doc (inr sleeps) e = let no_ : asleep ≡ awake doc = sym sleeps ∙ e in absurd cc

    none : place.epoch.0 ≡ 0 → IsUnshownYet place
    none zero =
        let was : IsUnshownYet before = is.told.0 (ap (λ (n : Epoch). n.0) (sym epoch) ∙ zero) in
        record { given = given ∙ was.given; last = last ∙ was.last }

    once : 1 ≤ place.epoch.0 → IsShownOnce place
    once some =
        let was : IsShownOnce before = is.told.1 (subst (λ (n : Epoch). 1 ≤ n.0) epoch some) in
        record {
          doc = was.doc;
          last = last ∙ was.last;
          entry = was.entry;
          given = given ∙ was.given;
          ever = subst (λ (l : List EntryId). Has l was.entry) (sym (ap (λ (b : Bearing). b.ever_given) stays.same)) was.ever;
        }

    of_last : IsOfItsLast t place
    of_last doc d row is_last found has navs of_given =
        let shown : before.last ≡ Some doc = sym last ∙ is_last in
        let gave : before.given ≡ Some row.entry = sym given ∙ of_given in
        let own : row.nav ≡ before.nav = navs ∙ nav in
        let was = was_of_state s.documents t.documents doc d (stays.states doc shown) found in
        is.of_last doc was.0 row shown was.1 (stays.part row has own gave) own gave ∙ was.2

-- who took its last entries is known as before
pub still_standing : (s t : Seen) (before place : Place) → StaysSo s t before place → place.taken_by ≡ before.taken_by → (has_row before.nav t.history.rows ≡ false → has_row before.nav s.history.rows ≡ false) → IsStanding s before → IsStanding t place
still_standing s t before place stays taken had is =
    standing_of t place (still_settled s t before place stays (settled_of s before is)) (λ none.
    subst (λ (by : Option ReqId). IsAskedBy t.requests by) (sym taken) (asked_by_stays s.requests t.requests before.taken_by stays.asked (is.taken (had (ap (λ (n : NavId). has_row n t.history.rows) (sym nav) ∙ none)))))
  where
    nav : place.nav ≡ before.nav
    nav = ap (λ (b : Bearing). b.nav) stays.same
