-- All that holds of a tab between two rows holds after a push is applied that a document made.
use Rattle.seen_facts.proofs.Asked.Rows.{applied_plain}
use Rattle.seen_facts.proofs.Coord.TakenUp.{once_pushed, push_face, push_is}
use Rattle.seen_facts.proofs.Coord.Unread.{next}
use Rattle.seen_facts.specs.Coord.Leading.{is_push}
use Rattle.seen_facts.specs.Each.Mades.{IsNext, entry_after}
use Rattle.seen_facts.proofs.Entry.Applied.{pushed_rows, was_cleared}
use Rattle.seen_facts.proofs.Entry.Skips.{without_made}
use Rattle.seen_facts.proofs.Entry.Takes.{pushed_entries}
use Rattle.seen_facts.specs.Entry.Entries.{IsItsOwn}
use Rattle.tab_facts.proofs.FrameWhole.Entries.{IsNewRow}
use Rattle.tab_facts.proofs.FrameWhole.Queued.{queued_after}
use Rattle.tab_facts.proofs.FrameWhole.Soundly.{none_entry, sound_pushed}
use Rattle.seen_facts.proofs.Hang.Members.{Passing, any_has, has_any, has_more}
use Rattle.seen_facts.specs.Hang.Members.{Has}
use Rattle.seen_facts.proofs.Home.Changed.{pushed_homed}
use Rattle.log_model.specs.AfterRequests.{without_req}
use Rattle.log_model.specs.History.{applied, cleared, has_row, is_of, owner_of}
use Rattle.log_model.specs.Seen.{Asked, Document, Seen}
use Rattle.log_model.specs.declared.change.Change.{Change}
use Rattle.log_model.specs.declared.change.Change.TheVariants as changes
use Rattle.log_model.specs.declared.made.Made.{Made}
use Rattle.log_model.specs.declared.made.What.{What}
use Rattle.log_model.specs.declared.made.What.TheVariants as whats
use Rattle.log_model.specs.declared.row.Row.{Row}
use Rattle.log_model.specs.declared.row_kind.Actor.{Actor}
use Rattle.log_model.specs.declared.row_kind.RowKind.TheVariants as rows
use Rattle.seen_facts.proofs.Place.Changes.{given_push_standing}
use Rattle.std.proofs.Common.{List, None, Option, Some, ap, false, inl, inr, refl, subst, sym, true, ℕ, ◌+◌, ◌∙◌, ◌≡◌, ◌⊎◌}
use Rattle.tab_ids.specs.declared.EntryId.{EntryId}
use Rattle.tab_ids.specs.declared.ReqId.{ReqId}
use Rattle.tab_ids.specs.declared.StateId.{StateId}
use Rattle.tab_facts.proofs.TabWhole.Changed.{changed_tab}
use Rattle.tab_facts.proofs.TabWhole.Taken.{IsItsEntry, IsTakenIn, IsToTakeUp, taken}
use Rattle.tab_facts.specs.TabWhole.Tab.{IsTab}

module _ (run : Option ReqId) (loads : List ReqId) (hand : List Made) (s : Seen) (event : ℕ) (actor : Actor) (tab : IsTab run loads hand s) (req : ReqId) (made : Made) (d : Document) (entry : EntryId) (memo : Option (List ℕ)) (address : List ℕ) (what : made.what ≡ whats.Push entry memo address) (up : IsToTakeUp run loads hand s event actor req made d (changes.Push d.nav entry d.state address memo)) where
  abbrev change : Change
  change = changes.Push d.nav entry d.state address memo

  abbrev pub pushed : Seen
  pushed = next s event actor (rows.Applied req change)

  abbrev new_row : Row
  new_row = record { owner = owner_of d.nav (cleared s.history); nav = d.nav; entry = entry; step = record { 0 = s.history.current + 1 }; state = d.state; address = address; memo = memo }

  -- the navigable has a row that stays
  has : has_row d.nav s.history.rows ≡ true
  has =
      let a : Passing (is_of d.nav) (cleared s.history) = any_has (is_of d.nav) (cleared s.history) up.fit in
      has_any (is_of d.nav) s.history.rows a.it (was_cleared s.history a.it a.there) a.passes

  rows_are : (row : Row) → Has (applied s.history change).rows row → Has s.history.rows row ⊎ IsNewRow d entry address memo row
  rows_are row there = by_case (has_more (cleared s.history) new_row row there)
    where
      by_case : Has (cleared s.history) row ⊎ (new_row ≡ row) → Has s.history.rows row ⊎ IsNewRow d entry address memo row
      by_case (inl old) = inl (was_cleared s.history row old)
      by_case (inr new) =
          inr (record { entry_is = ap (λ (r : Row). r.entry) (sym new); address_is = ap (λ (r : Row). r.address) (sym new); memo_is = ap (λ (r : Row). r.memo) (sym new); state_is_its = ap (λ (r : Row). r.state) (sym new) })

  push_made : is_push made ≡ true
  push_made = ap (λ (w : What). is_push (record made { what = w })) what

  its_entry : IsItsEntry s made d change entry memo address (once_pushed entry)
  its_entry =
      record {
        after_ = λ old. ap (λ (w : What). entry_after old w) what;
        face = λ face. push_face face made entry memo address what;
        maker = λ own. subst (λ (w : What). IsItsOwn made.doc w) what own;
        later = λ from is. subst (λ (w : What). IsNext from w) what is;
        has = has;
        had = (pushed_rows s.history d.nav entry d.state address memo (λ e. Unit {0}) tt up.fit).had;
        rows_are = rows_are;
        its = λ maker. push_is made d.nav entry d.state address memo maker;
        nav = λ x. refl;
        told = λ no_. absurd (let never : true ≡ false = sym push_made ∙ no_ in cc);
        push_told = λ push x. refl;
      }

  is : IsTakenIn run loads hand s event actor tab req made d change up entry memo address (once_pushed entry) its_entry
  is = taken run loads hand s event actor tab req made d change up entry memo address (once_pushed entry) its_entry

  pub pushed_tab : IsTab run (without_req req loads) (without_made req hand) pushed
  pushed_tab =
      changed_tab run run loads hand s event actor req change tab
      (record {
        unended = λ x at. (let both : Some up.q ≡ Some x = sym up.there ∙ at in let one : up.q ≡ x = cc in subst (λ (y : Asked). y.ending ≡ None) one up.unended);
        carried = up.carried;
        fit = up.fit;
        sound = sound_pushed s.history d.nav entry d.state address memo tab.sound up.fit (none_entry s.history.rows entry is.new) (λ row there same. tab.whose.whose made.doc d row up.found there same);
        brings = λ row there same. tab.whose.whose made.doc d row up.found there (ap (λ (n : ℕ). let x : StateId = record { 0 = n } in x) same);
        owned = λ doc x found. tab.shown.of_one made.doc doc d x up.found found;
        free = is.free;
        homes = pushed_homed s event actor req tab.homes d.nav entry d.state address memo is.gives_new;
        standing = given_push_standing s event actor tab.standing req d.nav entry d.state address memo is.gives;
        asked = applied_plain run s event actor tab.asked req change up.other;
        queued = queued_after run s event actor tab.queued (rows.Applied req change) up.other;
        entries = pushed_entries hand (without_made req hand) s event actor tab.entries tab.flows.whose req made d entry memo address what is.take up.fit;
        flows = is.flows;
      })
