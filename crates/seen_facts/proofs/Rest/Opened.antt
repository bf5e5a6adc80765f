-- A tab that was just opened is as one is between two events.
use Rattle.std.proofs.Common.{◌≡◌, ◌⊎◌, inl, inr, ℕ, Bool, true, false, cond, ◌==◌, List, [], ◌∷◌, Option, Some, None, refl, sym, ap, ◌∙◌}
use Rattle.tab_ids.specs.declared.DocId.{DocId}
use Rattle.tab_ids.specs.declared.EntryId.{EntryId}
use Rattle.tab_ids.specs.declared.NavId.{NavId}
use Rattle.tab_ids.specs.declared.ProcId.{ProcId}
use Rattle.tab_ids.specs.declared.ReqId.{ReqId}
use Rattle.tab_ids.specs.declared.StateId.{StateId}
use Rattle.log_model.specs.declared.row.Row.{Row}
use Rattle.log_model.specs.declared.row_kind.Actor.{Actor}
use Rattle.log_model.specs.declared.row_kind.RowKind.TheVariants as rows
use Rattle.log_model.specs.After.{after, opening_document}
use Rattle.log_model.specs.AfterPlaces.{opening_place}
use Rattle.log_model.specs.ActsAtOnce.{ends_told, ends_stepped}
use Rattle.log_model.specs.Opening.{opening_history}
use Rattle.log_model.specs.Places.{aim_of}
use Rattle.log_model.specs.Seen.{Seen, Asked, Document, Place, awake, lost, nothing, document_of, place_of, request_in}
use Rattle.log_model.proofs.Refl.{nat_eq_refl, same_entry_refl}
use Rattle.history_laws.proofs.Opening.{IsSound-opening}
use Rattle.seen_facts.proofs.Coord.Opened.{opened_flows}
use Rattle.seen_facts.proofs.Hang.Members.{find_has}
use Rattle.seen_facts.proofs.Hang.Rows.{opened_hangs}
use Rattle.seen_facts.specs.Hang.Members.{Has}
use Rattle.seen_facts.proofs.Home.Left.{opened_homed}
use Rattle.seen_facts.specs.Walk.Serving.{is_needing, AreServed}
use Rattle.seen_facts.proofs.Transit.Applied.{opened_ways}
use Rattle.seen_facts.specs.Rest.Between.{AreKept, IsPlain, IsComposed}
use Rattle.seen_facts.proofs.Rest.Taken.{opened_rests}

module _ (event : ℕ) (actor : Actor) (entry : EntryId) (state : StateId) (doc : DocId) (proc : ProcId) (slot : Option ℕ) (address : List ℕ) where
  abbrev opened : Seen
  opened = after nothing (record { event = event; actor = actor; row = rows.Opened entry state doc proc slot address })

  abbrev first : Document
  first = opening_document entry state doc proc slot address

  abbrev first_place : Place
  first_place = opening_place entry doc

  place_is : (nav : NavId) (place : Place) → place_of opened nav ≡ Some place → first_place ≡ place
  place_is nav place found = by_case (find_has (λ (p : Place). p.nav.0 == nav.0) (first_place ∷ []) place found).0
    where
      by_case : (first_place ≡ place) ⊎ ⊥ → first_place ≡ place
      by_case (inl same) = same
      by_case (inr never) = absurd never

  document_is : (other : DocId) (d : Document) → document_of opened other ≡ Some d → first ≡ d
  document_is other d found = by_case (find_has (λ (x : Document). x.nr.0 == other.0) (first ∷ []) d found).0
    where
      by_case : (first ≡ d) ⊎ ⊥ → first ≡ d
      by_case (inl same) = same
      by_case (inr never) = absurd never

  no_request : (req : ReqId) → request_in [] req ≡ None
  no_request req = by_number (req.0 == 0)
    where
      by_number : (b : Bool) → (let o : Option Asked = cond b None None in o) ≡ None
      by_number true = refl
      by_number false = refl

  served : AreServed opened
  served = record { each = λ nav. record { serve = λ place found shown reached needs. absurd (never place (place_is nav place found) needs) } }
    where
      settled : is_needing opened.history.rows (aim_of opened) first_place ≡ false
      settled = rw (same_entry_refl entry) refl

      never : (place : Place) → first_place ≡ place → is_needing opened.history.rows (aim_of opened) place ≡ true → ⊥
      never place one needs = (let no_ : false ≡ true = sym settled ∙ ap (λ (p : Place). is_needing opened.history.rows (aim_of opened) p) one ∙ needs in cc)

  kept : AreKept opened
  kept = record { numbered = (refl, tt); whose = λ other d row found has same. by_row d row (document_is other d found) has }
    where
      by_row : (d : Document) (row : Row) → first ≡ d → Has (opening_history entry state address).rows row → row.nav ≡ d.nav
      by_row d row one (inl same) = ap (λ (r : Row). r.nav) (sym same) ∙ ap (λ (x : Document). x.nav) one
      by_row d row one (inr never) = absurd never

  plain : IsPlain opened
  plain =
      record {
        alive = λ other d found. ap (λ (x : Document). x.dead_by) (sym (document_is other d found));
        unknown = λ other d found. ap (λ (x : Document). x.is_known_dead) (sym (document_is other d found));
        unlost = λ nav place found is. (let no_ : awake doc ≡ lost = ap (λ (p : Place). p.status) (place_is nav place found) ∙ is in cc);
        swept = λ other d found ready there. rw (sym (document_is other d found)) (rw (nat_eq_refl state.0) refl);
        no_loads = λ req. rw (no_request req) refl;
        steps = λ req q at going. absurd (let no_ : None ≡ Some q = sym (no_request req) ∙ at in cc);
        unparked = λ none. refl;
      }

  told : ends_told opened ≡ true
  unfolding ends_told
  told = rw (nat_eq_refl doc.0) refl

  stepped : ends_stepped opened ≡ true
  unfolding ends_stepped
  stepped = rw (same_entry_refl entry) refl

  pub opened_composed : IsComposed opened
  opened_composed =
      record {
        sound = IsSound-opening entry state address;
        hangs = opened_hangs event actor entry state doc proc slot address;
        homes = opened_homed event actor entry state doc proc slot address;
        kept = kept;
        served = served;
        ways = opened_ways event actor entry state doc proc slot address;
        rests = opened_rests event actor entry state doc proc slot address;
        flows = opened_flows nothing event actor entry state doc proc slot address refl;
        once = λ req no_load. sym (rw (no_request req) refl);
        told = told;
        stepped = stepped;
        plain = plain;
      }
