-- The entry that a navigable was given, where it stands, is the same row in the tables and in the log; so whether an address is a fragment navigation from it is told by both.
use Rattle.apply_plan.proofs.Targets.{target_found}
use Rattle.tab_facts.proofs.Calm.Calms.{IsGivenRow, given_row as target_given}
use Rattle.seen_facts.proofs.Hang.Targets.{IsTarget, target_has}
use Rattle.load_doors.specs.Loading.{IsGiven}
use Rattle.row_facts.specs.LoadRows.Beginning.{is_to_fragment}
use Rattle.log_model.proofs.Refl.{nat_eq_refl}
use Rattle.log_model.specs.Equal.{holds}
use Rattle.log_model.specs.History.{is_of, row_of, same_entry}
use Rattle.log_model.specs.Places.{given_row, is_awake, is_fragment_navigation, is_given_target}
use Rattle.log_model.specs.Seen.{Place, Seen, Status, asleep, awake, lost, place_of}
use Rattle.log_model.specs.Soundness.{IsSound}
use Rattle.log_model.specs.declared.row.Row.{Row}
use Rattle.nav_tree.specs.declared.node.Node.{Node}
use Rattle.nav_tree.specs.declared.status.NavStatus.{NavStatus}
use Rattle.nav_tree.specs.declared.status.NavStatus.TheVariants as kept
use Rattle.std.proofs.Common.{Bool, List, None, Option, Some, [], ap, cond, false, refl, sym, true, ℕ, ◌&&◌, ◌==◌, ◌∙◌, ◌∷◌, ◌≡◌}
use Rattle.std.specs.Prelude.{find, if◌then◌else◌, option_and_then, option_map}
use Rattle.step_index.specs.Held.{history_held}
use Rattle.tab_doors.proofs.Holding.{HasNode, its_node}
use Rattle.tab_doors.specs.Look.{look_of}
use Rattle.tab_doors.specs.Ties.{Holds, status_of}
use Rattle.tab_doors.specs.declared.tables.Tables.{Tables}
use Rattle.tab_ids.specs.declared.DocId.{DocId}
use Rattle.tab_ids.specs.declared.EntryId.{EntryId}
use Rattle.tab_ids.specs.declared.NavId.{NavId}
use Rattle.tab_ids.specs.declared.ReqId.{ReqId}
use Rattle.tab_loads.specs.Telling.{fragment_in, fragment_of, leads_to_fragment}
use Rattle.tab_moves.proofs.Ups.{held_row}
use Rattle.tab_passes.specs.Telling.{awake_on}

-- the row of an entry is found among those of its navigable
find_both : (rows : List Row) (nav : NavId) (row : Row) → row_of row.entry rows ≡ Some row → is_of nav row ≡ true → find (λ (r : Row). is_of nav r && same_entry r.entry row.entry) rows ≡ Some row
find_both [] nav row found own = absurd cc
find_both (r ∷ rows) nav row found own =
    by_tests (same_entry r.entry row.entry) (is_of nav r) refl found (λ more. find_both rows nav row more own)
  where
    by_tests : (b c : Bool) → is_of nav r ≡ c → (let o : Option Row = cond b (Some r) (row_of row.entry rows) in o) ≡ Some row → (row_of row.entry rows ≡ Some row → find (λ (x : Row). is_of nav x && same_entry x.entry row.entry) rows ≡ Some row) → (let o : Option Row = cond (c && b) (Some r) (find (λ (x : Row). is_of nav x && same_entry x.entry row.entry) rows) in o) ≡ Some row
    by_tests true true is h rest = h
    by_tests true false is h rest =
        let one : r ≡ row = cc in
        let never : false ≡ true = sym is ∙ ap (is_of nav) one ∙ own in
        absurd cc
    by_tests false true is h rest = rest h
    by_tests false false is h rest = rest h

module _ (s : Seen) (run : Option ReqId) (t : Tables) (holds_ : Holds (look_of s run) t) (sound : IsSound s.history) (nav : NavId) (place : Place) (placed : place_of s nav ≡ Some place) (step : ℕ) (given : is_given_target s.history.rows step place ≡ true) where
  its : IsGivenRow s step place
  its = target_given s step place given

  abbrev row : Row
  row = its.row

  target : IsTarget s.history.rows place.nav step row
  target = target_has s.history.rows place.nav step row its.at

  of_it : is_of place.nav row ≡ true
  of_it = ap (λ (n : NavId). n.0 == place.nav.0) target.nav_is ∙ nat_eq_refl place.nav.0

  -- in the log, and in the tables
  log_row : given_row s place ≡ Some row
  log_row =
      ap (λ (o : Option EntryId). option_and_then (λ (entry : EntryId). find (λ (r : Row). is_of place.nav r && same_entry r.entry entry) s.history.rows) o) its.given
      ∙ find_both s.history.rows place.nav row (target_found s.history sound place.nav step row its.at) of_it

  table_row : option_and_then (λ (entry : EntryId). row_of entry (history_held t.store).rows) place.given ≡ Some row
  table_row =
      ap (λ (o : Option EntryId). option_and_then (λ (entry : EntryId). row_of entry (history_held t.store).rows) o) its.given
      ∙ held_row t.store s.history holds_.history sound row target.there

  pub is_given : IsGiven s t nav
  is_given = record { place = place; there = placed; given = log_row ∙ sym table_row }

  pub row_given : (r : Row) × (given_row s place ≡ Some r)
  row_given = (row, log_row)

  -- ---- a fragment

  node : HasNode (look_of s run) t.tree nav place
  node = its_node (look_of s run) t.tree nav place holds_.navs placed

  module _ (address : List ℕ) where
    leads_is : leads_to_fragment (history_held t.store).rows address node.node.nav.given ≡ holds (λ (r : Row). is_fragment_navigation r.address address) (given_row s place)
    leads_is =
        ap (λ (o : Option EntryId). leads_to_fragment (history_held t.store).rows address o) node.tied.given
        ∙ ap (λ (o : Option Row). holds (λ (r : Row). is_fragment_navigation r.address address) o) (table_row ∙ sym log_row)

    fragment_is : fragment_in t nav address ≡ fragment_of (history_held t.store).rows address node.node.nav
    fragment_is =
        ap (λ (o : Option Node). option_and_then (fragment_of (history_held t.store).rows address) (option_map (λ (n : Node). n.nav) o)) node.there

    awake_as : (status : NavStatus) (at : Status) → status_of status ≡ at → (doc : DocId) → awake_on status ≡ Some doc → at ≡ awake doc
    awake_as (kept.Awake d) at is doc on = let same : d ≡ doc = cc in sym is ∙ ap awake same
    awake_as kept.Lost at is doc on = absurd cc
    awake_as kept.Asleep at is doc on = absurd cc

    -- one that is sent there is awake on the document, and the address is a fragment navigation from its given entry
    pub record IsSentThere (doc : DocId) : Type 0 where
      pub wakes : place.status ≡ awake doc
      pub leads : holds (λ (r : Row). is_fragment_navigation r.address address) (given_row s place) ≡ true
      pub is : is_to_fragment s address place ≡ true

    pub sent_there : (doc : DocId) → fragment_in t nav address ≡ Some doc → IsSentThere doc
    sent_there doc is =
        by_leads (leads_to_fragment (history_held t.store).rows address node.node.nav.given) refl (sym fragment_is ∙ is)
      where
        by_leads : (b : Bool) → leads_to_fragment (history_held t.store).rows address node.node.nav.given ≡ b → (if b then awake_on node.node.nav.status else None) ≡ Some doc → IsSentThere doc
        by_leads true e on =
            let wakes_ : place.status ≡ awake doc = awake_as node.node.nav.status place.status node.tied.status doc on in
            let leads_ : holds (λ (r : Row). is_fragment_navigation r.address address) (given_row s place) ≡ true = sym leads_is ∙ e in
            record { wakes = wakes_; leads = leads_; is = rw wakes_ leads_ }
        by_leads false e on = absurd cc

    -- where none is, it isn't
    pub sent_none : fragment_in t nav address ≡ None → is_to_fragment s address place ≡ false
    sent_none is =
        by_leads (leads_to_fragment (history_held t.store).rows address node.node.nav.given) refl (sym fragment_is ∙ is)
      where
        neither : (b : Bool) → (b && false) ≡ false
        neither true = refl
        neither false = refl

        unawake : (status : NavStatus) (at : Status) → status_of status ≡ at → place.status ≡ at → awake_on status ≡ None → is_awake place ≡ false
        unawake (kept.Awake d) at is_ same on = absurd cc
        unawake kept.Lost at is_ same on = let known : place.status ≡ lost = same ∙ sym is_ in rw known refl
        unawake kept.Asleep at is_ same on = let known : place.status ≡ asleep = same ∙ sym is_ in rw known refl

        by_leads : (b : Bool) → leads_to_fragment (history_held t.store).rows address node.node.nav.given ≡ b → (if b then awake_on node.node.nav.status else None) ≡ None → is_to_fragment s address place ≡ false
        by_leads false e on =
            ap (λ (b : Bool). is_awake place && b) (sym leads_is ∙ e) ∙ neither (is_awake place)
        by_leads true e on =
            ap (λ (b : Bool). b && holds (λ (r : Row). is_fragment_navigation r.address address) (given_row s place)) (unawake node.node.nav.status place.status node.tied.status refl on)
