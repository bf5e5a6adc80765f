-- All that holds of a tab between two rows holds after a replace is applied that a document made.
use Rattle.seen_facts.proofs.Asked.Rows.{applied_plain}
use Rattle.seen_facts.proofs.Coord.TakenUp.{once_replaced, replace_face, replace_is}
use Rattle.seen_facts.proofs.Coord.Unread.{next}
use Rattle.seen_facts.specs.Coord.Leading.{coming, is_made_under, is_push}
use Rattle.seen_facts.specs.Each.Mades.{Continues, IsNext, IsOver, entry_after}
use Rattle.seen_facts.proofs.Entry.Applied.{replaced_rows}
use Rattle.seen_facts.proofs.Entry.Firsts.{IsFirstOf, first_with, own_first}
use Rattle.seen_facts.proofs.Entry.Skips.{without_made}
use Rattle.seen_facts.proofs.Entry.Stays.{under_of}
use Rattle.seen_facts.proofs.Entry.Takes.{replaced_entries}
use Rattle.seen_facts.specs.Entry.Entries.{IsItsOwn, mades_of, untold, waiting}
use Rattle.tab_facts.proofs.FrameWhole.Entries.{IsNewRow}
use Rattle.tab_facts.proofs.FrameWhole.Queued.{queued_after}
use Rattle.tab_facts.proofs.FrameWhole.Soundly.{none_entry, sound_replaced}
use Rattle.seen_facts.proofs.Hang.Forms.{nav_is}
use Rattle.seen_facts.proofs.Hang.Members.{IsOf, Passing, any_has, has_any, has_map, has_tidied}
use Rattle.seen_facts.specs.Hang.Changing.{HasState}
use Rattle.seen_facts.specs.Hang.Members.{Has}
use Rattle.history_laws.proofs.Joining.{entry_same}
use Rattle.seen_facts.proofs.Home.Changed.{replaced_homed}
use Rattle.seen_facts.proofs.Home.Shown.{one_row}
use Rattle.log_model.specs.AfterRequests.{without_req}
use Rattle.log_model.specs.History.{applied, has_row, is_of, replaced_row, same_entry}
use Rattle.log_model.specs.Seen.{Asked, Document, Seen, desk_of}
use Rattle.log_model.specs.declared.change.Change.{Change}
use Rattle.log_model.specs.declared.change.Change.TheVariants as changes
use Rattle.log_model.specs.declared.made.Made.{Made}
use Rattle.log_model.specs.declared.made.What.{What}
use Rattle.log_model.specs.declared.made.What.TheVariants as whats
use Rattle.log_model.specs.declared.row.Row.{Row}
use Rattle.log_model.specs.declared.row_kind.Actor.{Actor}
use Rattle.log_model.specs.declared.row_kind.RowKind.TheVariants as rows
use Rattle.seen_facts.proofs.Place.Changes.{given_replace_standing}
use Rattle.seen_facts.specs.Place.Standing.{IsShownOnce}
use Rattle.std.proofs.Common.{Bool, List, None, Option, Some, ap, false, inl, inr, map, refl, subst, sym, true, ℕ, ◌&&◌, ◌==◌, ◌∙◌, ◌∷◌, ◌≡◌, ◌⊎◌}
use Rattle.std.proofs.lemmas.Bool.{and_parts}
use Rattle.std.specs.Prelude.{filter}
use Rattle.tab_ids.specs.declared.EntryId.{EntryId}
use Rattle.tab_ids.specs.declared.Epoch.{Epoch}
use Rattle.tab_ids.specs.declared.NavId.{NavId}
use Rattle.tab_ids.specs.declared.ReqId.{ReqId}
use Rattle.tab_facts.proofs.TabWhole.Changed.{changed_tab}
use Rattle.tab_facts.proofs.TabWhole.FlowsTaken.{place_nav}
use Rattle.tab_facts.proofs.TabWhole.Taken.{IsItsEntry, IsTakenIn, IsToTakeUp, shown_once, taken}
use Rattle.tab_facts.specs.TabWhole.Tab.{IsTab}

-- what comes first of a document comes first of it under the epoch in which it was made
under_first : (xs : List Made) (made : Made) (ys : List Made) → IsFirstOf xs made ys → (epoch : Epoch) → (made.epoch.0 == epoch.0) ≡ true → filter (is_made_under made.doc epoch) xs ≡ made ∷ filter (is_made_under made.doc epoch) ys
under_first xs made ys is epoch under =
    under_of made.doc epoch xs
    ∙ ap (λ (l : List Made). filter (λ (m : Made). m.epoch.0 == epoch.0) l) (own_first xs made ys is)
    ∙ (let its : List Made = filter (λ (m : Made). m.doc.0 == made.doc.0) ys in let one : filter (λ (m : Made). m.epoch.0 == epoch.0) (made ∷ its) ≡ made ∷ filter (λ (m : Made). m.epoch.0 == epoch.0) its = rw under refl in one)
    ∙ ap (λ (l : List Made). made ∷ l) (sym (under_of made.doc epoch ys))

module _ (run : Option ReqId) (loads : List ReqId) (hand : List Made) (s : Seen) (event : ℕ) (actor : Actor) (tab : IsTab run loads hand s) (req : ReqId) (made : Made) (d : Document) (over entry : EntryId) (memo : Option (List ℕ)) (address : List ℕ) (what : made.what ≡ whats.Replace over entry memo address) (up : IsToTakeUp run loads hand s event actor req made d (changes.Replace d.nav over entry d.state address memo)) where
  abbrev change : Change
  change = changes.Replace d.nav over entry d.state address memo

  abbrev pub replaced : Seen
  replaced = next s event actor (rows.Applied req change)

  abbrev put_row : Row
  put_row = record { owner = None; nav = d.nav; entry = entry; step = record { 0 = 0 }; state = d.state; address = address; memo = memo }

  -- the row of the entry that is replaced
  old : Passing (λ (row : Row). same_entry row.entry over && is_of d.nav row) s.history.rows
  old = any_has (λ (row : Row). same_entry row.entry over && is_of d.nav row) s.history.rows up.fit

  old_parts : (same_entry old.it.entry over ≡ true) × (is_of d.nav old.it ≡ true)
  old_parts = and_parts (same_entry old.it.entry over) (is_of d.nav old.it) old.passes

  has : has_row d.nav s.history.rows ≡ true
  has = has_any (is_of d.nav) s.history.rows old.it old.there old_parts.1

  rows_are : (row : Row) → Has (applied s.history change).rows row → Has s.history.rows row ⊎ IsNewRow d entry address memo row
  rows_are row there = by_tests w.it w.there w.is (same_entry w.it.entry over) (is_of d.nav w.it) refl refl
    where
      w : IsOf (replaced_row over put_row) s.history.rows row
      w = has_map (replaced_row over put_row) s.history.rows row (has_tidied (map (replaced_row over put_row) s.history.rows) row there).0

      by_tests : (x : Row) → Has s.history.rows x → replaced_row over put_row x ≡ row → (b c : Bool) → same_entry x.entry over ≡ b → is_of d.nav x ≡ c → Has s.history.rows row ⊎ IsNewRow d entry address memo row
      by_tests x at is_ true true e f =
          let new : record put_row { owner = x.owner; step = x.step } ≡ row = (let v : replaced_row over put_row x ≡ record put_row { owner = x.owner; step = x.step } = rw (e, f) refl in sym v ∙ is_) in
          inr (record { entry_is = ap (λ (r : Row). r.entry) (sym new); address_is = ap (λ (r : Row). r.address) (sym new); memo_is = ap (λ (r : Row). r.memo) (sym new); state_is_its = ap (λ (r : Row). r.state) (sym new) })
      by_tests x at is_ true false e f =
          let v : replaced_row over put_row x ≡ x = rw (e, f) refl in inl (subst (λ (r : Row). Has s.history.rows r) (sym v ∙ is_) at)
      by_tests x at is_ false c e f =
          let v : replaced_row over put_row x ≡ x = rw e refl in inl (subst (λ (r : Row). Has s.history.rows r) (sym v ∙ is_) at)

  made_none : is_push made ≡ false
  made_none = ap (λ (w : What). is_push (record made { what = w })) what

  its_entry : IsItsEntry s made d change entry memo address (once_replaced entry)
  its_entry =
      record {
        after_ = λ before. ap (λ (w : What). entry_after before w) what;
        face = λ face. replace_face face made over entry memo address what;
        maker = λ own. subst (λ (w : What). IsItsOwn made.doc w) what own;
        later = λ from is. subst (λ (w : What). IsNext from w) what is;
        has = has;
        had = (replaced_rows s.history d.nav over entry d.state address memo (λ e. Unit {0}) tt).had;
        rows_are = rows_are;
        its = λ maker. replace_is made d.nav over entry d.state address memo maker;
        nav = λ x. refl;
        told = λ no_ x. refl;
        push_told = λ push. absurd (let never : true ≡ false = sym push ∙ made_none in cc);
      }

  is : IsTakenIn run loads hand s event actor tab req made d change up entry memo address (once_replaced entry) its_entry
  is = taken run loads hand s event actor tab req made d change up entry memo address (once_replaced entry) its_entry

  -- ---- the replaced entry is the one that the navigable was given, of the document's state

  once : IsShownOnce up.place
  once = shown_once run loads hand s event actor tab req made d change up

  navs : up.place.nav ≡ d.nav
  navs = place_nav s d.nav up.place up.placed

  given : up.place.given ≡ Some over
  given = once.given ∙ ap (λ (e : EntryId). let o : Option EntryId = Some e in o) (sym its_over)
    where
      all : Continues once.entry (coming (waiting s hand) (desk_of s d.proc) made.doc up.place.epoch)
      all = tab.entries.continues d.nav up.place made.doc d once.entry up.placed up.wakes up.found (ap (λ (n : NavId). has_row n s.history.rows) navs ∙ has) once.given

      front : coming (waiting s hand) (desk_of s d.proc) made.doc up.place.epoch ≡ made ∷ coming (waiting replaced (without_made req hand)) (desk_of s d.proc) made.doc up.place.epoch
      front =
          under_first (untold (waiting s hand) (desk_of s d.proc)) made (untold (waiting replaced (without_made req hand)) (desk_of s d.proc))
          (first_with (waiting s hand) made (waiting replaced (without_made req hand)) (mades_of (desk_of s d.proc)) up.list) up.place.epoch up.under

      its_over : over ≡ once.entry
      its_over =
          subst (λ (w : What). IsOver once.entry w) what (subst (λ (l : List Made). Continues once.entry l) front all).0

  -- each row with that entry is the one
  of_state : HasState s.history.rows over d.state
  of_state row there same =
      let entries : row.entry ≡ old.it.entry = entry_same row.entry over same ∙ sym old_entry in
      let one : row ≡ old.it = one_row s.history.rows old.it row (tab.sound.entries old.it.entry) old.there there entries in
      ap (λ (r : Row). r.state) one ∙ old_state
    where
      old_entry : old.it.entry ≡ over
      old_entry = entry_same old.it.entry over old_parts.0

      old_state : old.it.state ≡ d.state
      old_state =
          tab.homes.state d.nav up.place made.doc up.placed up.wakes old.it d old.there (nav_is old.it.nav d.nav old_parts.1 ∙ sym navs)
          (given ∙ ap (λ (e : EntryId). let o : Option EntryId = Some e in o) (sym old_entry)) up.found

  pub replaced_tab : IsTab run (without_req req loads) (without_made req hand) replaced
  replaced_tab =
      changed_tab run run loads hand s event actor req change tab
      (record {
        unended = λ x at. (let both : Some up.q ≡ Some x = sym up.there ∙ at in let one : up.q ≡ x = cc in subst (λ (y : Asked). y.ending ≡ None) one up.unended);
        carried = up.carried;
        fit = up.fit;
        sound = sound_replaced s.history d.nav over entry d.state address memo tab.sound up.fit (none_entry s.history.rows entry is.new) (λ row there same. tab.whose.whose made.doc d row up.found there same);
        brings = inl of_state;
        owned = λ doc x found. tab.shown.of_one made.doc doc d x up.found found;
        free = is.free;
        homes = replaced_homed s event actor req tab.homes d.nav over entry d.state address memo is.gives_new;
        standing = given_replace_standing s event actor tab.standing req d.nav over entry d.state address memo is.gives;
        asked = applied_plain run s event actor tab.asked req change up.other;
        queued = queued_after run s event actor tab.queued (rows.Applied req change) up.other;
        entries = replaced_entries hand (without_made req hand) s event actor tab.entries tab.flows.whose req made d over entry memo address what is.take;
        flows = is.flows;
      })
