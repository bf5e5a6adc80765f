-- What an applied change has to leave, so that each navigable stands: rows that were there, or are new and so; places given as before, or the one that is given the new entry.
use Rattle.std.proofs.Common.{◌≡◌, inl, ℕ, ◌≤◌, Bool, true, false, cond, not, ◌&&◌, List, map, Option, Some, refl, sym, ap, ◌∙◌, subst, arith}
use Rattle.tab_ids.specs.declared.DocId.{DocId}
use Rattle.tab_ids.specs.declared.EntryId.{EntryId}
use Rattle.tab_ids.specs.declared.NavId.{NavId}
use Rattle.tab_ids.specs.declared.ReqId.{ReqId}
use Rattle.log_model.specs.declared.change.Change.{Change}
use Rattle.log_model.specs.declared.row.Row.{Row}
use Rattle.log_model.specs.declared.row_kind.Actor.{Actor}
use Rattle.log_model.specs.declared.row_kind.RowKind.TheVariants as rows
use Rattle.log_model.specs.After.{after}
use Rattle.log_model.specs.AfterPlaces.{given_entry}
use Rattle.log_model.specs.History.{History, applied, has_row}
use Rattle.log_model.specs.Seen.{Seen, Asked, Document, Place, document_of, place_in, request_of}
use Rattle.seen_facts.specs.Hang.Members.{Has}
use Rattle.seen_facts.proofs.Home.Changed.{taker}
use Rattle.seen_facts.proofs.Mover.Places.{WasThere, was_there}
use Rattle.seen_facts.specs.Place.Standing.{AreStanding, IsAskedBy, IsOfItsLast, IsShownOnce, IsStanding}
use Rattle.seen_facts.proofs.Place.Asked.{StayAsked, asked_by_stays, asked_same, asked_stay}
use Rattle.seen_facts.proofs.Place.Documents.{KeepStates, states_stay}
use Rattle.seen_facts.proofs.Place.Stays.{IsSettled, bearing, settled_of, standing_of, still_settled, was_of_state}

-- the request is there
pub record IsThere (s : Seen) (req : ReqId) : Type 0 where
  pub q : Asked
  pub found : request_of s req ≡ Some q

-- a place before the taker of its last entries is noted: it stands, and if it had none, it is known who took them
pub record IsReady (s t : Seen) (place : Place) : Type 0 where
  pub settled : IsSettled t place
  pub taken : has_row place.nav s.history.rows ≡ false → has_row place.nav t.history.rows ≡ false → IsAskedBy t.requests place.taken_by

module _ (s : Seen) (event : ℕ) (actor : Actor) (req : ReqId) (change : Change) where
  -- what the log has come to then
  abbrev pub applied_then : Seen
  applied_then = after s (record { event = event; actor = actor; row = rows.Applied req change })

  abbrev new : History
  new = applied s.history change

  asked : StayAsked s.requests applied_then.requests
  asked = asked_stay s (rows.Applied req change) tt

  states : KeepStates s.documents applied_then.documents
  states = states_stay s (rows.Applied req change) tt

  by_taker : {B : Type 0} (read : Place → B) → ((p : Place) → read (record p { taken_by = Some req }) ≡ read p) → (p : Place) → read (taker s.history new req p) ≡ read p
  by_taker read same p = elim (has_row p.nav s.history.rows && not (has_row p.nav new.rows)) as (λ b. read (let q : Place = cond b (record p { taken_by = Some req }) p in q) ≡ read p) [ true ↦ same p | false ↦ refl ]

  -- where a navigable loses its last entries, the request is there
  abbrev pub IsTakerThere : Type 0
  IsTakerThere = (nav : NavId) → has_row nav s.history.rows ≡ true → has_row nav new.rows ≡ false → IsThere s req

  -- each place is ready for the taker of its last entries to be noted
  pub applied_standing : (mid : List Place) → applied_then.places ≡ map (taker s.history new req) mid → IsTakerThere → ((nav : NavId) (place : Place) → place_in mid nav ≡ Some place → IsReady s applied_then place) → AreStanding applied_then
  applied_standing mid places takes ready nav place there =
      standing_of applied_then place
      (still_settled applied_then applied_then m place (record {
        same = ap bearing (sym is) ∙ by_taker bearing (λ p. refl) m;
        status = inl (ap (λ (p : Place). p.status) (sym is) ∙ by_taker (λ p. p.status) (λ p. refl) m);
        asked = asked_same applied_then.requests;
        states = λ doc last. refl;
        part = λ row has navs given. has;
      }) r.settled)
      (λ none. by_old (has_row m.nav s.history.rows) refl (ap (λ (n : NavId). has_row n new.rows) own ∙ none))
    where
      w : WasThere (taker s.history new req) mid nav place
      w = was_there (taker s.history new req) mid (by_taker (λ p. p.nav) (λ p. refl)) nav place (ap (λ (l : List Place). place_in l nav) (sym places) ∙ there)

      m : Place
      m = w.before

      is : taker s.history new req m ≡ place
      is = w.is

      r : IsReady s applied_then m
      r = ready nav m w.found

      own : m.nav ≡ place.nav
      own = sym (by_taker (λ p. p.nav) (λ p. refl) m) ∙ ap (λ (p : Place). p.nav) is

      by_old : (b : Bool) → has_row m.nav s.history.rows ≡ b → has_row m.nav new.rows ≡ false → IsAskedBy applied_then.requests place.taken_by
      by_old true had gone =
          let there_ : IsThere s req = takes m.nav had gone in
          let noted : place.taken_by ≡ Some req = ap (λ (p : Place). p.taken_by) (sym is) ∙ (let e : (taker s.history new req m).taken_by ≡ Some req = rw (had, gone) refl in e) in
          asked_by_stays s.requests applied_then.requests place.taken_by asked (record { req = req; is = noted; q = there_.q; there = there_.found })
      by_old false had gone =
          let kept : m.taken_by ≡ place.taken_by = sym (let e : (taker s.history new req m).taken_by ≡ m.taken_by = rw had refl in e) ∙ ap (λ (p : Place). p.taken_by) is in
          subst (λ (by : Option ReqId). IsAskedBy applied_then.requests by) kept (r.taken had gone)

  -- ---- a place as before, or of the navigable that is given the new entry

  -- no new row is of its entry
  pub ready_before : (place : Place) → IsStanding s place → ((row : Row) → Has new.rows row → row.nav ≡ place.nav → place.given ≡ Some row.entry → Has s.history.rows row) → IsReady s applied_then place
  ready_before place is part =
      record {
        settled = still_settled s applied_then place place (record {
          same = refl;
          status = inl refl;
          asked = asked;
          states = λ doc last. states doc;
          part = part;
        }) (settled_of s place is);
        taken = λ had gone. asked_by_stays s.requests applied_then.requests place.taken_by asked (is.taken had);
      }

  -- it was shown a document, and each row of it with the new entry is of the state of the one that it was shown last
  pub ready_given : (entry : EntryId) (place : Place) → IsStanding s place → 1 ≤ place.epoch.0 → ((doc : DocId) (d : Document) (row : Row) → place.last ≡ Some doc → document_of s doc ≡ Some d → Has new.rows row → row.nav ≡ place.nav → row.entry ≡ entry → row.state ≡ d.state) → IsReady s applied_then (given_entry entry place)
  ready_given entry place is later of_state =
      record {
        settled = record {
          unlost = is.unlost;
          unpending = is.unpending;
          met = is.met;
          shown = is.shown;
          told = (λ zero. absurd (none place.epoch.0 later zero), λ some. (let was : IsShownOnce place = is.told.1 some in record { doc = was.doc; last = was.last; entry = entry; given = refl; ever = inl refl }));
          of_last = of_last;
          added = λ child. asked_by_stays s.requests applied_then.requests place.added_by asked (is.added child);
        };
        taken = λ had gone. asked_by_stays s.requests applied_then.requests place.taken_by asked (is.taken had);
      }
    where
      none : (n : ℕ) → 1 ≤ n → n ≡ 0 → ⊥
      none n some zero = omega (arith, some, zero)

      of_last : IsOfItsLast applied_then (given_entry entry place)
      of_last doc d row last found has navs given =
          let its : entry ≡ row.entry = cc in
          let was = was_of_state s.documents applied_then.documents doc d (states doc) found in
          of_state doc was.0 row last was.1 has navs (sym its) ∙ was.2
