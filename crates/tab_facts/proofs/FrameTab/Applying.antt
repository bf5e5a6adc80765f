-- All that holds in a tab of frames holds after a push, a replace, or the removal of a frame that a document made is applied.
use Rattle.std.proofs.Common.{◌≡◌, ◌⊎◌, inl, inr, ℕ, ◌≤◌, Bool, true, false, ◌==◌, List, ◌∷◌, length, map, Option, Some, refl, sym, ap, ◌∙◌, subst, arith}
use Rattle.std.proofs.lemmas.Bool.{eqb-true}
use Rattle.std.proofs.lemmas.Bool.Decides.{nat_tests}
use Rattle.std.proofs.lemmas.List.{length-map}
use Rattle.tab_ids.specs.declared.DocId.{DocId}
use Rattle.tab_ids.specs.declared.EntryId.{EntryId}
use Rattle.tab_ids.specs.declared.NavId.{NavId}
use Rattle.tab_ids.specs.declared.ProcId.{ProcId}
use Rattle.tab_ids.specs.declared.ReqId.{ReqId}
use Rattle.log_model.specs.declared.change.Change.{Change}
use Rattle.log_model.specs.declared.made.Made.{Made}
use Rattle.log_model.specs.declared.made.What.{What}
use Rattle.log_model.specs.declared.made.What.TheVariants as whats
use Rattle.log_model.specs.declared.outcome.Ending.TheVariants as endings
use Rattle.log_model.specs.declared.row.Row.{Row}
use Rattle.log_model.specs.declared.row_kind.Actor.{Actor}
use Rattle.log_model.specs.declared.row_kind.RowKind.TheVariants as rows
use Rattle.log_model.specs.History.{History, has_row, target_entry, applied}
use Rattle.log_model.specs.AfterRequests.{entries_taken}
use Rattle.log_model.specs.Once.{change_of_made}
use Rattle.log_model.specs.After.{ended}
use Rattle.log_model.specs.Places.{top, is_moved_in, is_given_target}
use Rattle.log_model.specs.Seen.{Seen, Document, Asked, Place, desk_of, document_of, place_of, request_in}
use Rattle.seen_facts.proofs.Coord.Unread.{next}
use Rattle.seen_facts.specs.Hang.Forms.{forms_of}
use Rattle.seen_facts.specs.Hang.Members.{Has}
use Rattle.seen_facts.proofs.Hang.Frames.{IsNoFrame, applied_kept}
use Rattle.seen_facts.specs.Home.Homes.{AreHomed}
use Rattle.seen_facts.proofs.Rest.Again.{WasOf, was_of, its_number}
use Rattle.seen_facts.specs.Each.Runs.{is_this}
use Rattle.seen_facts.specs.Each.Mades.{number_after, IsNext}
use Rattle.seen_facts.specs.Each.Items.{Each, IsUpTo}
use Rattle.seen_facts.proofs.Each.Courses.{runs_ended_other, runs_applied}
use Rattle.seen_facts.proofs.Each.Eaches.{after_next}
use Rattle.tab_facts.specs.FrameTab.Desks.{IsItsOwn, IsMadeThere, waiting}
use Rattle.tab_facts.specs.FrameTab.Numbers.{EachBegins, IsNumbered}
use Rattle.tab_facts.specs.FrameTab.Whole.{IsFrameTab}
use Rattle.tab_facts.proofs.FrameTab.Goings.{place_stays, navs_stay}
use Rattle.tab_facts.proofs.FrameTab.Steadies.{WasPlace, was_place}
use Rattle.tab_facts.proofs.FrameTab.Plainly.{applied_reads}
use Rattle.tab_facts.proofs.FrameTab.Running.{moved_same}
use Rattle.tab_facts.proofs.FrameTab.Going.{IsKnownEntry, IsOfRow, entries_again}
use Rattle.tab_facts.proofs.FrameTab.Leaving.{untold}
use Rattle.tab_facts.proofs.FrameTab.Takings.{IsFirstOf, IsTakenOf, IsTaking, takes, taken_of, taken_framed}
use Rattle.tab_facts.proofs.FrameTab.Traversing.{applied_tooks}
use Rattle.tab_facts.proofs.FrameTab.Stating.{WasRow, rows_were, stated_rows}
use Rattle.tab_facts.proofs.FrameTab.Changing.{IsGiving, IsMadeHere, g, g_nav, were_taken, placed_on, steady_then, given_then}

-- the new entry of what was made
abbrev pub IsTheEntry : What → EntryId → Type 0
IsTheEntry (whats.Push new memo address) entry = new ≡ entry
IsTheEntry (whats.Replace over new memo address) entry = new ≡ entry
IsTheEntry _ entry = ⊥

its_maker : (doc : DocId) (what : What) (entry : EntryId) → IsItsOwn doc what → IsTheEntry what entry → entry.maker ≡ doc.0
its_maker doc (whats.Push new memo address) entry own is = ap (λ (e : EntryId). e.maker) (sym is) ∙ own
its_maker doc (whats.Replace over new memo address) entry own is = ap (λ (e : EntryId). e.maker) (sym is) ∙ own
its_maker doc (whats.AddFrame nav) entry own never = absurd never
its_maker doc (whats.RemoveFrame nav) entry own never = absurd never
its_maker doc (whats.Go delta) entry own never = absurd never
its_maker doc whats.Edit entry own never = absurd never

its_number_after : (what : What) (entry : EntryId) (n : ℕ) → IsTheEntry what entry → number_after n what ≡ entry.nr
its_number_after (whats.Push new memo address) entry n is = ap (λ (e : EntryId). e.nr) is
its_number_after (whats.Replace over new memo address) entry n is = ap (λ (e : EntryId). e.nr) is
its_number_after (whats.AddFrame nav) entry n never = absurd never
its_number_after (whats.RemoveFrame nav) entry n never = absurd never
its_number_after (whats.Go delta) entry n never = absurd never
its_number_after whats.Edit entry n never = absurd never

-- what was made may be applied now: it is the first of its document that waits, of an open request that isn't the running one, and was made where its navigable is
pub record IsToTake (home : ProcId) (run : Option ReqId) (hand hand_ : List Made) (s t : Seen) (req : ReqId) (change : Change) (made : Made) (d : Document) : Type 0 where
  pub other : is_this run req ≡ false
  pub q : Asked
  pub there : request_in s.requests req ≡ Some q
  pub makes : q.made ≡ Some made
  pub here : IsMadeHere s made d
  pub own : IsItsOwn made.doc made.what
  pub next_ : IsNext d.last_applied made.what
  pub change_is : change_of_made s d made.what ≡ Some change
  pub list : IsFirstOf (untold (waiting s hand) (desk_of s home)) made (untold (waiting t hand_) (desk_of s home))
  pub waits : Each (IsMadeThere s.documents) (waiting t hand_)

-- the changed history: each row was one, or is of the navigable and in the document state of one; each navigable begins at the first step; and each goes on having its target, but that of what was made, which has the new entry
pub record IsChangedWell (s : Seen) (new : History) (made : Made) (d : Document) (f : Place → Place) (place : Place) : Type 0 where
  pub were : (row : Row) → Has new.rows row → WasRow s.history.rows row
  pub entries : (row : Row) → Has new.rows row → IsOfRow s.history.rows row.entry ⊎ IsTheEntry made.what row.entry
  pub begins : EachBegins new.rows
  pub added : new.added ≡ s.history.added
  pub targets : (nav : NavId) → (nav.0 == d.nav.0) ≡ false → has_row nav new.rows ≡ true → target_entry new.rows nav new.current ≡ target_entry s.history.rows nav s.history.current
  pub own : is_given_target s.history.rows s.history.current place ≡ true → has_row d.nav new.rows ≡ true → is_given_target new.rows new.current (f place) ≡ true

module _ (home : ProcId) (run : Option ReqId) (hand hand_ : List Made) (s : Seen) (event : ℕ) (actor : Actor) (tab : IsFrameTab home run hand s) (homes : AreHomed s) (req : ReqId) (change : Change) (made : Made) (d : Document) (take : IsToTake home run hand hand_ s (next s event actor (rows.Applied req change)) req change made d) (f : Place → Place) (giving : IsGiving d.nav made.what f) where
  abbrev pub changed : Seen
  changed = next s event actor (rows.Applied req change)

  abbrev put : Place → Place
  put = g s event actor req change made d take.here homes tab.steady f giving

  module _ (no_frame : IsNoFrame change) (places : changed.places ≡ map (g s event actor req change made d take.here homes tab.steady f giving) s.places) (ever : (x : Place) (entry : EntryId) → Has (g s event actor req change made d take.here homes tab.steady f giving x).ever_given entry → Has x.ever_given entry ⊎ IsTheEntry made.what entry) (states : changed.states ≡ s.states) (numbers : changed.entries ≡ s.entries) (initial : changed.initial_states ≡ s.initial_states) (well : IsChangedWell s (applied s.history change) made d f take.here.place) where
    old_navs : (nav : NavId) → has_row nav (applied s.history change).rows ≡ true → has_row nav s.history.rows ≡ true
    old_navs = rows_were s.history.rows (applied s.history change).rows well.were

    forms : forms_of changed.places ≡ forms_of s.places
    forms = applied_kept s req change no_frame

    taking : IsTaking home run hand hand_ s changed req change made d
    taking =
        record {
          other = take.other;
          found = take.here.found;
          own = take.own;
          change_is = take.change_is;
          list = take.list;
          waits = take.waits;
          keep = λ nav has. place_stays s.places changed.places nav forms has;
          placed = placed_on s event actor req change made d take.here homes tab.steady f giving places;
          were = were_taken s event actor req change made d take.here homes tab.steady f giving places;
          had_row = λ nav place doc there wakes has. old_navs place.nav has;
        }

    is_taken : IsTakenOf made.doc made.what (takes change)
    is_taken = taken_of s d made.doc made.what change take.own take.change_is

    same_long : length changed.documents ≡ length s.documents
    same_long = length-map s.documents (takes change)

    -- the document of what was made
    its_document : (doc : DocId) (x : Document) → document_of s doc ≡ Some x → (x.nr.0 == made.doc.0) ≡ true → d ≡ x
    its_document doc x found e =
        let n : x.nr.0 ≡ made.doc.0 = eqb-true x.nr.0 made.doc.0 e in
        let nr : x.nr ≡ made.doc = ap (λ (n : ℕ). let y : DocId = record { 0 = n } in y) n in
        let both : Some d ≡ Some x = sym take.here.found ∙ (ap (λ (y : DocId). document_of s y) (sym nr ∙ its_number s doc x found) ∙ found) in
        cc

    numbered : (entry : EntryId) → IsNumbered s.entries (length s.documents) s.documents entry → IsNumbered changed.entries (length changed.documents) changed.documents entry
    numbered entry is =
        record {
          own = λ own. subst (λ (n : ℕ). entry.nr ≤ n) (sym numbers) (is.own own);
          maker = subst (λ (n : ℕ). entry.maker ≤ n) (sym same_long) is.maker;
          applied = λ doc x found.
              let w : WasOf s (takes change) doc x = was_of s changed (takes change) is_taken.nr refl doc x found in
              subst (λ (y : Document). IsUpTo y.last_applied y.nr entry) w.is (up doc w.before w.there (is.applied doc w.before w.there));
        }
      where
        up : (doc : DocId) (x : Document) → document_of s doc ≡ Some x → IsUpTo x.last_applied x.nr entry → IsUpTo (takes change x).last_applied (takes change x).nr entry
        up doc x found is_ maker = by_test (x.nr.0 == made.doc.0) refl
          where
            low : entry.nr ≤ x.last_applied
            low = is_ (maker ∙ ap (λ (n : DocId). n.0) (is_taken.nr x))

            by_test : (b : Bool) → (x.nr.0 == made.doc.0) ≡ b → entry.nr ≤ (takes change x).last_applied
            by_test true e =
                let more : x.last_applied ≤ number_after x.last_applied made.what = after_next x.last_applied made.what (subst (λ (y : Document). IsNext y.last_applied made.what) (its_document doc x found e) take.next_) in
                let now : (takes change x).last_applied ≡ number_after x.last_applied made.what = is_taken.own x e in
                let was : entry.nr ≤ x.last_applied = is_ (maker ∙ ap (λ (n : DocId). n.0) (is_taken.nr x)) in
                omega (arith, more, now, was)
            by_test false e =
                let now : (takes change x).last_applied ≡ x.last_applied = is_taken.other x e in
                let was : entry.nr ≤ x.last_applied = is_ (maker ∙ ap (λ (n : DocId). n.0) (is_taken.nr x)) in
                omega (arith, now, was)

    -- the new entry
    new_numbered : (entry : EntryId) → IsTheEntry made.what entry → IsNumbered changed.entries (length changed.documents) changed.documents entry
    new_numbered entry is =
        let there = tab.documents made.doc d take.here.found in
        let own : entry.maker ≡ made.doc.0 = its_maker made.doc made.what entry take.own is in
        let nr : d.nr.0 ≡ made.doc.0 = ap (λ (n : DocId). n.0) (its_number s made.doc d take.here.found) in
        let low : d.nr.0 ≤ length s.documents = there.number in
        let real : 1 ≤ d.nr.0 = there.real in
        record {
          own = λ zero. absurd (omega (arith, zero, own, nr, real));
          maker = subst (λ (n : ℕ). entry.maker ≤ n) (sym same_long) (omega (arith, own, nr, low));
          applied = λ doc x found.
              let w : WasOf s (takes change) doc x = was_of s changed (takes change) is_taken.nr refl doc x found in
              subst (λ (y : Document). IsUpTo y.last_applied y.nr entry) w.is (up w.before);
        }
      where
        up : (x : Document) → IsUpTo (takes change x).last_applied (takes change x).nr entry
        up x maker =
            let own : entry.maker ≡ made.doc.0 = its_maker made.doc made.what entry take.own is in
            let nr : (takes change x).nr.0 ≡ x.nr.0 = ap (λ (n : DocId). n.0) (is_taken.nr x) in
            let its : x.nr.0 ≡ made.doc.0 = omega (arith, maker, own, nr) in
            let yes : (x.nr.0 == made.doc.0) ≡ true = grind (arith, nat_tests, its) in
            let now : (takes change x).last_applied ≡ entry.nr = is_taken.own x yes ∙ its_number_after made.what entry x.last_applied is in
            omega (arith, now)

    pub changed_framed : IsFrameTab home run hand_ changed
    changed_framed =
        taken_framed home run hand hand_ s event actor tab req change made d taking
        (steady_then s event actor req change made d take.here homes tab.steady f giving places take.q take.there old_navs)
        (stated_rows s changed (takes change) is_taken.nr is_taken.nav is_taken.state refl well.were well.begins states initial (navs_stay s.places changed.places forms ∙ tab.stated.listed ∙ ap (λ (l : List NavId). top ∷ l) (sym well.added)) tab.stated)
        (entries_again (IsNumbered s.entries (length s.documents) s.documents) (IsNumbered changed.entries (length changed.documents) changed.documents) s changed numbered of_rows givens
        (λ r q entry there has. inl (applied_tooks s event actor req change r q entry there has)) tab.entries)
        (given_then s event actor req change made d take.here homes tab.steady f giving places tab.given moved old_navs well.targets well.own)
      where
        of_rows : (row : Row) → Has changed.history.rows row → IsKnownEntry s row.entry ⊎ IsNumbered changed.entries (length changed.documents) changed.documents row.entry
        of_rows row has = by_case (well.entries row has)
          where
            by_case : IsOfRow s.history.rows row.entry ⊎ IsTheEntry made.what row.entry → IsKnownEntry s row.entry ⊎ IsNumbered changed.entries (length changed.documents) changed.documents row.entry
            by_case (inl old) = inl (inl old)
            by_case (inr is) = inr (new_numbered row.entry is)

        givens : (nav : NavId) (place : Place) (entry : EntryId) → place_of changed nav ≡ Some place → Has place.ever_given entry → IsKnownEntry s entry ⊎ IsNumbered changed.entries (length changed.documents) changed.documents entry
        givens nav place entry there has =
            let w : WasPlace s (g s event actor req change made d take.here homes tab.steady f giving) nav place = was_place s changed (g s event actor req change made d take.here homes tab.steady f giving) (g_nav s event actor req change made d take.here homes tab.steady f giving) places nav place there in
            by_case w.before w.there (ever w.before entry (subst (λ (x : Place). Has x.ever_given entry) (sym w.is) has))
          where
            by_case : (x : Place) → place_of s nav ≡ Some x → Has x.ever_given entry ⊎ IsTheEntry made.what entry → IsKnownEntry s entry ⊎ IsNumbered changed.entries (length changed.documents) changed.documents entry
            by_case x at (inl old) = inl (inr (inl (record { nav = nav; place = x; there = at; has = old })))
            by_case x at (inr is) = inr (new_numbered entry is)

        moved : (nav : NavId) → is_moved_in changed.requests nav ≡ false → is_moved_in s.requests nav ≡ false
        moved nav none =
            sym (moved_same run s.requests changed.requests nav tab.asked.only (runs_applied run (ended s.requests req endings.Applied) req change (entries_taken s.history change) (runs_ended_other run s.requests req endings.Applied take.other tab.asked.only)) (applied_reads (λ (q : Asked). q.moved) s.requests req change (entries_taken s.history change) (λ q. refl) (λ q. refl) (λ q. refl)))
            ∙ none
