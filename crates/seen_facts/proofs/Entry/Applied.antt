-- What an applied change leaves of requests, places and rows: which entries are known, and who has a row.
use Rattle.std.proofs.Common.{◌≡◌, ◌⊎◌, inl, inr, ℕ, ◌+◌, Bool, true, false, cond, not, ◌&&◌, ◌==◌, List, [], ◌∷◌, ◌++◌, map, Option, Some, None, refl, sym, ap, ◌∙◌, subst, arith}
use Rattle.std.specs.Prelude.{filter, nat_le, option_map}
use Rattle.std.specs.List.{list_any}
use Rattle.std.proofs.lemmas.Bool.Decides.{nat_tests}
use Rattle.tab_ids.specs.declared.EntryId.{EntryId}
use Rattle.tab_ids.specs.declared.NavId.{NavId}
use Rattle.tab_ids.specs.declared.ReqId.{ReqId}
use Rattle.tab_ids.specs.declared.StateId.{StateId}
use Rattle.log_model.specs.declared.change.Change.{Change}
use Rattle.log_model.specs.declared.change.Change.TheVariants as changes
use Rattle.log_model.specs.declared.outcome.Ending.TheVariants as endings
use Rattle.log_model.specs.declared.row.Row.{Row}
use Rattle.log_model.specs.declared.row_kind.Actor.{Actor}
use Rattle.log_model.specs.declared.row_kind.RowKind.TheVariants as rows
use Rattle.log_model.specs.After.{after, ended}
use Rattle.log_model.specs.AfterRequests.{entries_taken, on_request}
use Rattle.log_model.specs.History.{History, applied, cleared, fits, has_row, is_of, owner_of, replaced_row, same_entry}
use Rattle.log_model.specs.Seen.{Seen, Asked, Place, request_in}
use Rattle.seen_facts.proofs.Coord.Held.{made_of, on_alike, on_else}
use Rattle.seen_facts.specs.Hang.Members.{Has}
use Rattle.seen_facts.proofs.Hang.Forms.{nav_is}
use Rattle.seen_facts.proofs.Hang.Members.{IsOf, Passing, any_has, has_any, has_filter, has_map, has_more, has_tidied}
use Rattle.seen_facts.proofs.Home.Changed.{taker}
use Rattle.seen_facts.proofs.Request.LookUps.{on_itself}
use Rattle.seen_facts.proofs.Entry.Ends.{Ended}
use Rattle.seen_facts.proofs.Entry.Parts.{LeavesPlace, leaves_if, took_by, took_of}
use Rattle.seen_facts.proofs.Entry.Stays.{IsKnownEntry, IsOfRow, some_same}

module _ (s : Seen) (event : ℕ) (actor : Actor) (req : ReqId) (change : Change) where
  abbrev pub applying : Seen
  applying = after s (record { event = event; actor = actor; row = rows.Applied req change })

  -- ---- the requests

  abbrev one : List Asked
  one = ended s.requests req endings.Applied

  abbrev two : List Asked
  two = on_request req (λ q. record q { change = Some change }) one

  abbrev takes : Asked → Asked
  takes q = record q { took = entries_taken s.history change }

  pub applied_made : (r : ReqId) → made_of (request_in applying.requests r) ≡ made_of (request_in s.requests r)
  applied_made r =
      on_alike made_of two req takes r (λ q. refl)
      ∙ on_alike made_of one req (λ q. record q { change = Some change }) r (λ q. refl)
      ∙ on_alike made_of s.requests req (λ q. record q { ending = Some endings.Applied }) r (λ q. refl)

  pub applied_ends : Ended s applying req
  applied_ends = record { made = applied_made; parked = refl; told = λ proc. refl }

  took_two : (r : ReqId) → took_of (request_in two r) ≡ took_of (request_in s.requests r)
  took_two r =
      on_alike took_of one req (λ q. record q { change = Some change }) r (λ q. refl)
      ∙ on_alike took_of s.requests req (λ q. record q { ending = Some endings.Applied }) r (λ q. refl)

  -- the entries that it took are of rows that were there
  pub applied_tooks : (r : ReqId) (q : Asked) (entry : EntryId) → request_in applying.requests r ≡ Some q → Has q.took entry → IsKnownEntry s entry
  applied_tooks r q entry there has = by_number (r.0 == req.0) refl
    where
      of_rows : Has (entries_taken s.history change) entry → IsKnownEntry s entry
      of_rows in_ =
          let w : IsOf (λ (row : Row). row.entry) (filter (λ (row : Row). not (list_any (λ (left : Row). same_entry left.entry row.entry) (applied s.history change).rows)) s.history.rows) entry = has_map (λ (row : Row). row.entry) (filter (λ (row : Row). not (list_any (λ (left : Row). same_entry left.entry row.entry) (applied s.history change).rows)) s.history.rows) entry in_ in
          inl (record { row = w.it; there = (has_filter (λ (row : Row). not (list_any (λ (left : Row). same_entry left.entry row.entry) (applied s.history change).rows)) s.history.rows w.it w.there).0; is = w.is })

      by_number : (b : Bool) → (r.0 == req.0) ≡ b → IsKnownEntry s entry
      by_number true e =
          let n : r.0 ≡ req.0 = grind (arith, nat_tests, e) in
          let same : r ≡ req = ap (λ (i : ℕ). let x : ReqId = record { 0 = i } in x) n in
          by_found (request_in two req) (sym (on_itself two req takes) ∙ subst (λ (x : ReqId). request_in applying.requests x ≡ Some q) same there)
        where
          by_found : (o : Option Asked) → option_map takes o ≡ Some q → IsKnownEntry s entry
          by_found None h = absurd cc
          by_found (Some x) h = of_rows (subst (λ (y : Asked). Has y.took entry) (sym (some_same h)) has)
      by_number false e =
          let old : request_in two r ≡ Some q = sym (on_else two req takes r e) ∙ there in
          inr (inr (took_by s.requests two took_two r q entry old has))

  -- ---- the places: who took a navigable's rows is noted

  pub taker_leaves : LeavesPlace (taker s.history (applied s.history change) req)
  taker_leaves =
      leaves_if (λ (p : Place). has_row p.nav s.history.rows && not (has_row p.nav (applied s.history change).rows)) (λ (p : Place). record p { taken_by = Some req }) (record { nav = λ p. refl; ever = λ p. refl; status = λ p doc e. refl; given = λ p. refl; epoch = λ p. refl })

pub leaves_both : (f g : Place → Place) → LeavesPlace f → LeavesPlace g → LeavesPlace (λ (p : Place). g (f p))
leaves_both f g one two =
    record {
      nav = λ p. two.nav (f p) ∙ one.nav p;
      ever = λ p. two.ever (f p) ∙ one.ever p;
      status = λ p doc e. one.status p doc (two.status (f p) doc e ∙ e) ∙ two.status (f p) doc e;
      given = λ p. two.given (f p) ∙ one.given p;
      epoch = λ p. two.epoch (f p) ∙ one.epoch p;
    }

pub places_both : (f g : Place → Place) (places : List Place) → map g (map f places) ≡ map (λ (p : Place). g (f p)) places
places_both f g [] = refl
places_both f g (p ∷ places) = ap (λ (l : List Place). g (f p) ∷ l) (places_both f g places)

-- ---- the rows: each entry was one, or is the new one, and who has a row had one

-- in which the new entry is so
pub record RowsGo (rows new : List Row) (G : EntryId → Type 0) : Type 0 where
  pub entries : (row : Row) → Has new row → IsOfRow rows row.entry ⊎ G row.entry
  pub had : (nav : NavId) → has_row nav new ≡ true → has_row nav rows ≡ true

-- a navigable with a row had one, where the navigable of each row had one
pub had_rows : (rows new : List Row) → ((row : Row) → Has new row → has_row row.nav rows ≡ true) → (nav : NavId) → has_row nav new ≡ true → has_row nav rows ≡ true
had_rows rows new each nav has =
    let a : Passing (is_of nav) new = any_has (is_of nav) new has in
    subst (λ (n : NavId). has_row n rows ≡ true) (nav_is a.it.nav nav a.passes) (each a.it a.there)

its_row : (rows : List Row) (row : Row) → Has rows row → has_row row.nav rows ≡ true
its_row rows row there = has_any (is_of row.nav) rows row there (let e : (row.nav.0 == row.nav.0) ≡ true = grind (arith, nat_tests) in e)

pub same_rows : (rows : List Row) (G : EntryId → Type 0) → RowsGo rows rows G
same_rows rows G = record { entries = λ row there. inl (record { row = row; there = there; is = refl }); had = λ nav has. has }

pub part_rows : (rows new : List Row) (G : EntryId → Type 0) → ((row : Row) → Has new row → Has rows row) → RowsGo rows new G
part_rows rows new G part =
    record {
      entries = λ row there. inl (record { row = row; there = part row there; is = refl });
      had = had_rows rows new (λ row there. its_row rows row (part row there));
    }

pub was_cleared : (history : History) (row : Row) → Has (cleared history) row → Has history.rows row
was_cleared history row old =
    (has_filter (λ (r : Row). nat_le r.step.0 history.current) history.rows row (has_tidied (filter (λ (r : Row). nat_le r.step.0 history.current) history.rows) row old).0).0

-- a push that fits
pub pushed_rows : (history : History) (nav : NavId) (entry : EntryId) (state : StateId) (address : List ℕ) (memo : Option (List ℕ)) (G : EntryId → Type 0) → G entry → fits history (changes.Push nav entry state address memo) ≡ true → RowsGo history.rows (applied history (changes.Push nav entry state address memo)).rows G
pushed_rows history nav entry state address memo G new fit =
    record {
      entries = λ row there. of_row row (has_more (cleared history) put row there);
      had = had_rows history.rows (cleared history ++ put ∷ []) (λ row there. had row (has_more (cleared history) put row there));
    }
  where
    put : Row
    put = record { owner = owner_of nav (cleared history); nav = nav; entry = entry; step = record { 0 = history.current + 1 }; state = state; address = address; memo = memo }

    of_row : (row : Row) → Has (cleared history) row ⊎ (put ≡ row) → IsOfRow history.rows row.entry ⊎ G row.entry
    of_row row (inl old) = inl (record { row = row; there = was_cleared history row old; is = refl })
    of_row row (inr is) = inr (subst (λ (r : Row). G r.entry) is new)

    had : (row : Row) → Has (cleared history) row ⊎ (put ≡ row) → has_row row.nav history.rows ≡ true
    had row (inl old) = its_row history.rows row (was_cleared history row old)
    had row (inr is) =
        let a : Passing (is_of nav) (cleared history) = any_has (is_of nav) (cleared history) fit in
        subst (λ (r : Row). has_row r.nav history.rows ≡ true) is (has_any (is_of nav) history.rows a.it (was_cleared history a.it a.there) a.passes)

-- a replace
pub replaced_rows : (history : History) (nav : NavId) (over entry : EntryId) (state : StateId) (address : List ℕ) (memo : Option (List ℕ)) (G : EntryId → Type 0) → G entry → RowsGo history.rows (applied history (changes.Replace nav over entry state address memo)).rows G
replaced_rows history nav over entry state address memo G new =
    record {
      entries = λ row there. of_row row (was row there);
      had = had_rows history.rows (applied history (changes.Replace nav over entry state address memo)).rows (λ row there. had row (was row there));
    }
  where
    put : Row
    put = record { owner = None; nav = nav; entry = entry; step = record { 0 = 0 }; state = state; address = address; memo = memo }

    was : (row : Row) → Has (applied history (changes.Replace nav over entry state address memo)).rows row → IsOf (replaced_row over put) history.rows row
    was row there = has_map (replaced_row over put) history.rows row (has_tidied (map (replaced_row over put) history.rows) row there).0

    of_row : (row : Row) → IsOf (replaced_row over put) history.rows row → IsOfRow history.rows row.entry ⊎ G row.entry
    of_row row w = by_both (same_entry w.it.entry over) (is_of nav w.it) w.is
      where
        by_both : (a b : Bool) → (let x : Row = cond (a && b) (record put { owner = w.it.owner; step = w.it.step }) w.it in x) ≡ row → IsOfRow history.rows row.entry ⊎ G row.entry
        by_both true true e = inr (subst (λ (r : Row). G r.entry) e new)
        by_both true false e = inl (record { row = w.it; there = w.there; is = ap (λ (r : Row). r.entry) e })
        by_both false b e = inl (record { row = w.it; there = w.there; is = ap (λ (r : Row). r.entry) e })

    had : (row : Row) → IsOf (replaced_row over put) history.rows row → has_row row.nav history.rows ≡ true
    had row w = by_both (same_entry w.it.entry over) (is_of nav w.it) refl w.is
      where
        itself : has_row w.it.nav history.rows ≡ true
        itself = its_row history.rows w.it w.there

        by_both : (a b : Bool) → is_of nav w.it ≡ b → (let x : Row = cond (a && b) (record put { owner = w.it.owner; step = w.it.step }) w.it in x) ≡ row → has_row row.nav history.rows ≡ true
        by_both true true h e =
            subst (λ (n : NavId). has_row n history.rows ≡ true) (nav_is w.it.nav nav h ∙ ap (λ (r : Row). r.nav) e) itself
        by_both true false h e = subst (λ (r : Row). has_row r.nav history.rows ≡ true) e itself
        by_both false b h e = subst (λ (r : Row). has_row r.nav history.rows ≡ true) e itself

-- a frame removed
pub removed_rows : (history : History) (nav : NavId) (G : EntryId → Type 0) → RowsGo history.rows (applied history (changes.RemoveFrame nav)).rows G
removed_rows history nav G =
    part_rows history.rows (applied history (changes.RemoveFrame nav)).rows G (λ row there. (has_filter (λ (r : Row). not (is_of nav r)) history.rows row (has_tidied (filter (λ (r : Row). not (is_of nav r)) history.rows) row there).0).0)
