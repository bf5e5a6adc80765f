-- What a document made is taken up, which is the first of it that waits: what is true between two rows of the documents of all awake navigables stays.
use Rattle.seen_facts.proofs.Coord.Applied.{WereThere}
use Rattle.seen_facts.proofs.Coord.EachDocuments.{HadEpoch}
use Rattle.seen_facts.proofs.Coord.Leadings.{doc_same}
use Rattle.seen_facts.proofs.Coord.OneDocument.{views_alike}
use Rattle.seen_facts.proofs.Coord.Reached.{reaches_alike}
use Rattle.seen_facts.proofs.Coord.SentAway.{within_alike}
use Rattle.seen_facts.proofs.Coord.Within.{within_more}
use Rattle.seen_facts.specs.Coord.Epochs.{EachDocument, MadeWithin}
use Rattle.seen_facts.specs.Coord.Leading.{Face, coming, face_after, is_push, once_finished, orders_for, pending_view}
use Rattle.seen_facts.specs.Coord.Reaching.{EachReaches, Reaches}
use Rattle.seen_facts.proofs.Entry.Firsts.{IsFirstOf, first_with, others_same, own_first}
use Rattle.seen_facts.proofs.Entry.Stays.{under_of}
use Rattle.seen_facts.specs.Entry.Entries.{mades_of, untold, waiting}
use Rattle.tab_facts.proofs.FrameWhole.FlowsAlike.{WithinHand, awake_nav, both_within, held_within}
use Rattle.std.specs.Prelude.{filter, if◌then◌else◌}
use Rattle.tab_facts.specs.FrameWhole.Untold.{EachLeadsIf, FlowsIf, LeadsIf}
use Rattle.log_model.proofs.Refl.{nat_eq_refl}
use Rattle.log_model.specs.AfterRequests.{made_of_report}
use Rattle.log_model.specs.History.{has_row}
use Rattle.log_model.specs.Seen.{Desk, Document, Place, Seen, awake, desk_in, desk_of, document_of, place_of}
use Rattle.log_model.specs.declared.made.Made.{Made}
use Rattle.log_model.specs.declared.made.What.{What}
use Rattle.log_model.specs.declared.row.Row.{Row}
use Rattle.seen_facts.specs.Each.Mades.{entry_after}
use Rattle.seen_laws.proofs.Keyed.{find_has, find_map}
use Rattle.seen_laws.proofs.Sums.{over}
use Rattle.std.proofs.Common.{Bool, List, None, Option, Some, [], ap, false, fold, map, refl, subst, sym, true, ℕ, ◌++◌, ◌==◌, ◌||◌, ◌∙◌, ◌∷◌, ◌≡◌}
use Rattle.std.specs.List.{list_any}
use Rattle.std.specs.Prelude.{filter_map, find, is_some, option_map, slice_get}
use Rattle.tab_ids.specs.declared.DocId.{DocId}
use Rattle.tab_ids.specs.declared.EntryId.{EntryId}
use Rattle.tab_ids.specs.declared.Epoch.{Epoch}
use Rattle.tab_ids.specs.declared.NavId.{NavId}
use Rattle.tab_ids.specs.declared.ProcId.{ProcId}
use Rattle.log_model.specs.declared.made.What.TheVariants as whats
use Rattle.std.proofs.Common.{cond}

face_entry : (face : Face) (made : Made) → (face_after face made).entry ≡ entry_after face.entry made.what
face_entry face made = by_what made.what refl
  where
    by_what : (what : What) → made.what ≡ what → (face_after face made).entry ≡ entry_after face.entry made.what
    by_what (whats.Push entry memo address) e = rw e refl
    by_what (whats.Replace over entry memo address) e = rw e refl
    by_what (whats.AddFrame nav) e = rw e refl
    by_what (whats.RemoveFrame nav) e = rw e refl
    by_what (whats.Go delta) e = rw e refl
    by_what whats.Edit e = rw e refl

some_same : {A : Type 0} {a b : A} → (let o : Option A = Some a in o) ≡ Some b → a ≡ b
some_same e = cc

-- each row with the face's entry shows it
abbrev pub ShowsFace : List Row → Face → Type 0
ShowsFace rows face = (i : ℕ) (row : Row) → slice_get rows i ≡ Some row → row.entry ≡ face.entry → (row.address ≡ face.address) × (row.memo ≡ face.memo)

pub place_nav : (s : Seen) (nav : NavId) (place : Place) → place_of s nav ≡ Some place → place.nav ≡ nav
place_nav s nav place there =
    ap (λ (n : ℕ). let x : NavId = record { 0 = n } in x) (find_has (λ (x : Place). x.nav.0) nav.0 s.places place there)

-- a navigable was awake on the document under the same epoch; that of what was made is given the entry after it, the others what they were
pub record WasTaken (s : Seen) (made : Made) (nav : NavId) (place : Place) (doc : DocId) : Type 0 where
  pub before : Place
  pub there : place_of s nav ≡ Some before
  pub status : before.status ≡ awake doc
  pub epoch : before.epoch ≡ place.epoch
  pub given : (given : EntryId) → place.given ≡ Some given → (old : EntryId) × (before.given ≡ Some old) × (given ≡ (if made.doc.0 == doc.0 then entry_after old made.what else old))
  pub under : (made.doc.0 == doc.0) ≡ true → (made.epoch.0 == place.epoch.0) ≡ true

-- what the row leaves: the processes; each document but for what it was told and what was applied of it, where a push leaves its own untold; what waits, less what was made; each awake navigable, given the entry after it where it made it, which had a row if it has one; and each row that shows the given entry
pub record IsTakenUp (hand next_hand : List Made) (s t : Seen) (made : Made) (g : Document → Document) : Type 0 where
  pub desks : t.desks ≡ s.desks
  pub documents : t.documents ≡ map g s.documents
  pub nr : (x : Document) → (g x).nr ≡ x.nr
  pub nav : (x : Document) → (g x).nav ≡ x.nav
  pub proc : (x : Document) → (g x).proc ≡ x.proc
  pub view : (x : Document) → (g x).view ≡ x.view
  pub told : is_push made ≡ false → (x : Document) → (g x).told ≡ x.told
  pub other_told : (x : Document) → (made.doc.0 == x.nr.0) ≡ false → (g x).told ≡ x.told
  pub push_told : is_push made ≡ true → (x : Document) → (made.doc.0 == x.nr.0) ≡ true → (g x).told ≡ None
  pub list : IsFirstOf (waiting s hand) made (waiting t next_hand)
  pub were : (nav : NavId) (place : Place) (doc : DocId) → place_of t nav ≡ Some place → place.status ≡ awake doc → WasTaken s made nav place doc
  pub had_row : (nav : NavId) (place : Place) (doc : DocId) → place_of t nav ≡ Some place → place.status ≡ awake doc → has_row place.nav t.history.rows ≡ true → has_row place.nav s.history.rows ≡ true
  pub gave : (nav : NavId) (place : Place) (doc : DocId) → place_of t nav ≡ Some place → place.status ≡ awake doc → is_some place.given ≡ true
  pub had : (doc : DocId) (d : Document) (place : Place) → document_of s doc ≡ Some d → place_of t d.nav ≡ Some place → HadEpoch s d.nav place
  pub own_rows : (nav : NavId) (place : Place) (face : Face) → place_of s nav ≡ Some place → place.status ≡ awake made.doc → Some face.entry ≡ place.given → ShowsFace s.history.rows face → ShowsFace t.history.rows (face_after face made)
  pub other_rows : (nav : NavId) (place : Place) (doc : DocId) → place_of s nav ≡ Some place → place.status ≡ awake doc → (made.doc.0 == doc.0) ≡ false → WereThere s.history.rows t.history.rows place.given

module _ (hand next_hand : List Made) (s t : Seen) (made : Made) (g : Document → Document) (is : IsTakenUp hand next_hand s t made g) where
  -- a document that is found was before
  record IsBefore (doc : DocId) (x : Document) : Type 0 where
    old : Document
    there : document_of s doc ≡ Some old
    new : g old ≡ x

  before : (doc : DocId) (x : Document) → document_of t doc ≡ Some x → IsBefore doc x
  before doc x found = by_old (document_of s doc) refl (sym mapped ∙ found)
    where
      mapped : document_of t doc ≡ option_map g (document_of s doc)
      mapped =
          ap (λ (l : List Document). find (λ (y : Document). y.nr.0 == doc.0) l) is.documents
          ∙ find_map (λ (y : Document). y.nr.0) g doc.0 s.documents (λ y. ap (λ (n : DocId). n.0) (is.nr y))

      by_old : (o : Option Document) → document_of s doc ≡ o → option_map g (document_of s doc) ≡ Some x → IsBefore doc x
      by_old None e h = (let never : None ≡ Some x = sym (ap (λ (o : Option Document). option_map g o) e) ∙ h in absurd cc)
      by_old (Some old) e h = record { old = old; there = e; new = some_same (sym (ap (λ (o : Option Document). option_map g o) e) ∙ h) }

  desk_same : (old : Document) → desk_of t (g old).proc ≡ desk_of s old.proc
  desk_same old = ap (λ (l : List Desk). desk_in l (g old).proc) is.desks ∙ ap (λ (p : ProcId). desk_of s p) (is.proc old)

  number : (doc : DocId) (old : Document) → document_of s doc ≡ Some old → old.nr ≡ doc
  number doc old there = ap (λ (n : ℕ). let x : DocId = record { 0 = n } in x) (find_has (λ (x : Document). x.nr.0) doc.0 s.documents old there)

  list_at : (p : ProcId) → IsFirstOf (untold (waiting s hand) (desk_of s p)) made (untold (waiting t next_hand) (desk_of s p))
  list_at p = first_with (waiting s hand) made (waiting t next_hand) (mades_of (desk_of s p)) is.list

  -- what waits is the same for each other document
  coming_else : (p : ProcId) (doc : DocId) (epoch : Epoch) → (made.doc.0 == doc.0) ≡ false → coming (waiting t next_hand) (desk_of s p) doc epoch ≡ coming (waiting s hand) (desk_of s p) doc epoch
  coming_else p doc epoch apart =
      under_of doc epoch (untold (waiting t next_hand) (desk_of s p))
      ∙ ap (λ (l : List Made). filter (λ (m : Made). m.epoch.0 == epoch.0) l) (others_same (untold (waiting s hand) (desk_of s p)) made (untold (waiting t next_hand) (desk_of s p)) (list_at p) doc apart)
      ∙ sym (under_of doc epoch (untold (waiting s hand) (desk_of s p)))

  coming_own : (p : ProcId) (epoch : Epoch) → (made.epoch.0 == epoch.0) ≡ true → coming (waiting s hand) (desk_of s p) made.doc epoch ≡ made ∷ coming (waiting t next_hand) (desk_of s p) made.doc epoch
  coming_own p epoch under =
      under_of made.doc epoch (untold (waiting s hand) (desk_of s p))
      ∙ ap (λ (l : List Made). filter (λ (m : Made). m.epoch.0 == epoch.0) l) (own_first (untold (waiting s hand) (desk_of s p)) made (untold (waiting t next_hand) (desk_of s p)) (list_at p))
      ∙ ap (λ (b : Bool). let l : List Made = cond b (made ∷ filter (λ (m : Made). m.epoch.0 == epoch.0) (filter (λ (m : Made). m.doc.0 == made.doc.0) (untold (waiting t next_hand) (desk_of s p)))) (filter (λ (m : Made). m.epoch.0 == epoch.0) (filter (λ (m : Made). m.doc.0 == made.doc.0) (untold (waiting t next_hand) (desk_of s p)))) in l) under
      ∙ ap (λ (l : List Made). made ∷ l) (sym (under_of made.doc epoch (untold (waiting t next_hand) (desk_of s p))))

  pending_same : (old : Document) → pending_view (g old) (desk_of s old.proc) ≡ pending_view old (desk_of s old.proc)
  pending_same old =
      views_alike (g old) old (orders_for (desk_of s old.proc) (g old).nr) (is.nr old) (is.view old)
      ∙ ap (λ (n : DocId). (fold once_finished old (orders_for (desk_of s old.proc) n)).view) (is.nr old)

  some_of : (o : Option EntryId) → is_some o ≡ true → (x : EntryId) × (o ≡ Some x)
  some_of None e = absurd cc
  some_of (Some x) e = (x, refl)

  -- ---- the document that made it

  own_leads : (nav : NavId) (place : Place) (doc : DocId) (old : Document) → (w : WasTaken s made nav place doc) → is_some place.given ≡ true → document_of s doc ≡ Some old → (made.doc.0 == doc.0) ≡ true → LeadsIf s.history.rows (waiting s hand) (desk_of s old.proc) old w.before.given w.before.epoch → LeadsIf t.history.rows (waiting t next_hand) (desk_of s old.proc) (g old) place.given place.epoch
  own_leads nav place doc old w gave there e led =
      record {
        face = face_after led.face made;
        is_given = ap (λ (x : EntryId). Some x) entry_is ∙ sym given_now.1;
        is_row = is.own_rows nav w.before led.face w.there (w.status ∙ ap (λ (x : DocId). awake x) (sym docs)) led.is_given led.is_row;
        view = led.view;
        pending = pending_same old ∙ led.pending;
        leads =
            ap (λ (n : DocId). fold face_after (face_after led.face made) (coming (waiting t next_hand) (desk_of s old.proc) n place.epoch)) (is.nr old ∙ nr_is)
            ∙ sym (ap (λ (l : List Made). fold face_after led.face l) (coming_own old.proc place.epoch (w.under e)))
            ∙ ap (λ (n : DocId). fold face_after led.face (coming (waiting s hand) (desk_of s old.proc) n place.epoch)) (sym nr_is)
            ∙ ap (λ (k : Epoch). fold face_after led.face (coming (waiting s hand) (desk_of s old.proc) old.nr k)) (sym w.epoch)
            ∙ led.leads;
        runs = led.runs;
        in_epoch = led.in_epoch ∙ w.epoch;
        pair = λ none told. by_push (is_push made) refl (pair_led none) none told;
      }
    where
      docs : made.doc ≡ doc
      docs = doc_same made.doc doc e

      nr_is : old.nr ≡ made.doc
      nr_is = number doc old there ∙ sym docs

      mine : (made.doc.0 == old.nr.0) ≡ true
      mine = ap (λ (n : DocId). made.doc.0 == n.0) nr_is ∙ nat_eq_refl made.doc.0

      given_now : (x : EntryId) × (place.given ≡ Some x)
      given_now = some_of place.given gave

      entry_is : (face_after led.face made).entry ≡ given_now.0
      entry_is =
          let h = w.given given_now.0 given_now.1 in
          let old_is : led.face.entry ≡ h.0 = some_same (led.is_given ∙ h.1) in
          face_entry led.face made ∙ ap (λ (x : EntryId). entry_after x made.what) old_is ∙ sym (h.2 ∙ ap (λ (b : Bool). let x : EntryId = cond b (entry_after h.0 made.what) h.0 in x) e)

      push_now : list_any is_push (coming (waiting s hand) (desk_of s old.proc) old.nr w.before.epoch) ≡ (is_push made || list_any is_push (coming (waiting t next_hand) (desk_of s old.proc) (g old).nr place.epoch))
      push_now =
          ap (λ (n : DocId). list_any is_push (coming (waiting s hand) (desk_of s old.proc) n w.before.epoch)) nr_is
          ∙ ap (λ (k : Epoch). list_any is_push (coming (waiting s hand) (desk_of s old.proc) made.doc k)) w.epoch
          ∙ ap (λ (l : List Made). list_any is_push l) (coming_own old.proc place.epoch (w.under e))
          ∙ ap (λ (n : DocId). is_push made || list_any is_push (coming (waiting t next_hand) (desk_of s old.proc) n place.epoch)) (sym (is.nr old ∙ nr_is))

      pair_led : list_any is_push (coming (waiting t next_hand) (desk_of s old.proc) (g old).nr place.epoch) ≡ false → is_push made ≡ false → is_some old.told ≡ true → old.told ≡ Some (led.view.length, led.view.index)
      pair_led none no_push told = led.pair (push_now ∙ rw no_push none) told

      by_push : (b : Bool) → is_push made ≡ b → (is_push made ≡ false → is_some old.told ≡ true → old.told ≡ Some (led.view.length, led.view.index)) → list_any is_push (coming (waiting t next_hand) (desk_of s old.proc) (g old).nr place.epoch) ≡ false → is_some (g old).told ≡ true → (g old).told ≡ Some (led.view.length, led.view.index)
      by_push true push pair none told =
          let untold_ : false ≡ true = sym (ap (λ (o : Option (ℕ × ℕ)). is_some o) (is.push_told push old mine)) ∙ told in absurd cc
      by_push false push pair none told =
          is.told push old ∙ pair push (sym (ap (λ (o : Option (ℕ × ℕ)). is_some o) (is.told push old)) ∙ told)

  -- ---- the others

  other_leads : (nav : NavId) (place : Place) (doc : DocId) (old : Document) → (w : WasTaken s made nav place doc) → is_some place.given ≡ true → document_of s doc ≡ Some old → (made.doc.0 == doc.0) ≡ false → LeadsIf s.history.rows (waiting s hand) (desk_of s old.proc) old w.before.given w.before.epoch → LeadsIf t.history.rows (waiting t next_hand) (desk_of s old.proc) (g old) place.given place.epoch
  other_leads nav place doc old w gave there e led =
      record {
        face = led.face;
        is_given = ap (λ (x : EntryId). Some x) entry_is ∙ sym given_now.1;
        is_row = λ i row at same.
            (let was = is.other_rows nav w.before doc w.there w.status e i row at (sym led.is_given ∙ ap (λ (x : EntryId). Some x) (sym same)) in
            led.is_row was.0 row was.1 same);
        view = led.view;
        pending = pending_same old ∙ led.pending;
        leads = ap (λ (l : List Made). fold face_after led.face l) comes ∙ led.leads;
        runs = led.runs;
        in_epoch = led.in_epoch ∙ w.epoch;
        pair = λ none told.
            is.other_told old apart
            ∙ led.pair (sym (ap (λ (l : List Made). list_any is_push l) comes) ∙ none) (sym (ap (λ (o : Option (ℕ × ℕ)). is_some o) (is.other_told old apart)) ∙ told);
      }
    where
      apart : (made.doc.0 == old.nr.0) ≡ false
      apart = ap (λ (n : DocId). made.doc.0 == n.0) (number doc old there) ∙ e

      comes : coming (waiting t next_hand) (desk_of s old.proc) (g old).nr place.epoch ≡ coming (waiting s hand) (desk_of s old.proc) old.nr w.before.epoch
      comes =
          ap (λ (n : DocId). coming (waiting t next_hand) (desk_of s old.proc) n place.epoch) (is.nr old)
          ∙ coming_else old.proc old.nr place.epoch apart
          ∙ ap (λ (k : Epoch). coming (waiting s hand) (desk_of s old.proc) old.nr k) (sym w.epoch)

      given_now : (x : EntryId) × (place.given ≡ Some x)
      given_now = some_of place.given gave

      entry_is : led.face.entry ≡ given_now.0
      entry_is =
          let h = w.given given_now.0 given_now.1 in
          some_same (led.is_given ∙ h.1) ∙ sym (h.2 ∙ ap (λ (b : Bool). let x : EntryId = cond b (entry_after h.0 made.what) h.0 in x) e)

  -- ---- the whole

  leads_then : FlowsIf hand s → EachLeadsIf next_hand t
  leads_then flows nav place doc x placed wakes found has =
      let b : IsBefore doc x = before doc x found in
      let w : WasTaken s made nav place doc = is.were nav place doc placed wakes in
      let led : LeadsIf s.history.rows (waiting s hand) (desk_of s b.old.proc) b.old w.before.given w.before.epoch = flows.leads nav w.before doc b.old w.there w.status b.there (before_row b w) in
      subst (λ (y : Document). LeadsIf t.history.rows (waiting t next_hand) (desk_of t y.proc) y place.given place.epoch) b.new
      (subst (λ (desk : Desk). LeadsIf t.history.rows (waiting t next_hand) desk (g b.old) place.given place.epoch) (sym (desk_same b.old))
      (by_document nav place doc b.old w (is.gave nav place doc placed wakes) b.there led (made.doc.0 == doc.0) refl))
    where
      before_row : (b : IsBefore doc x) → (w : WasTaken s made nav place doc) → has_row b.old.nav s.history.rows ≡ true
      before_row b w =
          let navs : b.old.nav ≡ place.nav = awake_nav s flows.whose nav w.before doc b.old w.there w.status b.there ∙ (place_nav s nav w.before w.there ∙ sym (place_nav t nav place placed)) in
          let now : x.nav ≡ place.nav = ap (λ (y : Document). y.nav) (sym b.new) ∙ (is.nav b.old ∙ navs) in
          ap (λ (n : NavId). has_row n s.history.rows) navs
          ∙ is.had_row nav place doc placed wakes (ap (λ (n : NavId). has_row n t.history.rows) (sym now) ∙ has)

      by_document : (nav : NavId) (place : Place) (doc : DocId) (old : Document) (w : WasTaken s made nav place doc) → is_some place.given ≡ true → document_of s doc ≡ Some old → LeadsIf s.history.rows (waiting s hand) (desk_of s old.proc) old w.before.given w.before.epoch → (c : Bool) → (made.doc.0 == doc.0) ≡ c → LeadsIf t.history.rows (waiting t next_hand) (desk_of s old.proc) (g old) place.given place.epoch
      by_document nav place doc old w gave there led true e = own_leads nav place doc old w gave there e led
      by_document nav place doc old w gave there led false e = other_leads nav place doc old w gave there e led

  reaches_then : EachReaches s → EachReaches t
  reaches_then reaches nav place doc x placed wakes found =
      let b : IsBefore doc x = before doc x found in
      let w : WasTaken s made nav place doc = is.were nav place doc placed wakes in
      let was : Reaches (desk_of s b.old.proc) b.old place.epoch = subst (λ (k : Epoch). Reaches (desk_of s b.old.proc) b.old k) w.epoch (reaches nav w.before doc b.old w.there w.status b.there) in
      subst (λ (y : Document). Reaches (desk_of t y.proc) y place.epoch) b.new
      (subst (λ (desk : Desk). Reaches desk (g b.old) place.epoch) (sym (desk_same b.old))
      (reaches_alike (desk_of s b.old.proc) (desk_of s b.old.proc) b.old (g b.old) place.epoch (ap (λ (n : DocId). orders_for (desk_of s b.old.proc) n) (is.nr b.old)) (λ view has. (view, sym (is.view b.old) ∙ has, refl)) was))

  within_then : EachDocument (WithinHand hand s) s → EachDocument (WithinHand next_hand t) t
  within_then each doc x place found placed =
      let b : IsBefore doc x = before doc x found in
      let placed_old : place_of t b.old.nav ≡ Some place = ap (λ (n : NavId). place_of t n) (sym (is.nav b.old) ∙ ap (λ (y : Document). y.nav) b.new) ∙ placed in
      let had : HadEpoch s b.old.nav place = is.had doc b.old place b.there placed_old in
      let was : WithinHand hand s (desk_of s b.old.proc) b.old place.epoch.0 = within_more (waiting s hand) (desk_of s b.old.proc) b.old had.before.epoch.0 place.epoch.0 had.rises (each doc b.old had.before b.there had.there) in
      subst (λ (y : Document). WithinHand next_hand t (desk_of t y.proc) y place.epoch.0) b.new
      (subst (λ (desk : Desk). WithinHand next_hand t desk (g b.old) place.epoch.0) (sym (desk_same b.old))
      (less b.old place.epoch.0 was))
    where
      less_by : (bound : ℕ) (doc_ : DocId) (front rest : List Made) → MadeWithin bound doc_ (front ++ made ∷ rest) → MadeWithin bound doc_ (front ++ rest)
      less_by bound doc_ [] rest all = all.1
      less_by bound doc_ (m ∷ front) rest all = (all.0, less_by bound doc_ front rest all.1)

      both : (old : Document) (bound : ℕ) → WithinHand hand s (desk_of s old.proc) old bound → MadeWithin bound old.nr (waiting t next_hand) × MadeWithin bound old.nr (filter_map made_of_report (desk_of s old.proc).reports)
      both old bound was =
          let list = list_at old.proc in
          held_within bound old.nr (waiting t next_hand) (filter_map made_of_report (desk_of s old.proc).reports)
          (subst (λ (l : List Made). MadeWithin bound old.nr l) (sym list.left)
          (less_by bound old.nr list.before list.later
          (subst (λ (l : List Made). MadeWithin bound old.nr l) list.whole
          (both_within bound old.nr (waiting s hand) (filter_map made_of_report (desk_of s old.proc).reports) was.held_back was.reports))))

      less : (old : Document) (bound : ℕ) → WithinHand hand s (desk_of s old.proc) old bound → WithinHand next_hand t (desk_of s old.proc) (g old) bound
      less old bound was =
          within_alike (waiting t next_hand) (desk_of s old.proc) old (g old) bound (is.nr old) (is.view old)
          (record { view = was.view; orders = was.orders; held_back = (both old bound was).0; reports = (both old bound was).1 })

  pub taken_if : FlowsIf hand s → FlowsIf next_hand t
  taken_if flows =
      record {
        leads = leads_then flows;
        whose = λ nav place doc x placed wakes found.
            (let b : IsBefore doc x = before doc x found in
            let w : WasTaken s made nav place doc = is.were nav place doc placed wakes in
            ap (λ (y : Document). y.nav.0) (sym b.new) ∙ ap (λ (n : NavId). n.0) (is.nav b.old) ∙ flows.whose nav w.before doc b.old w.there w.status b.there);
        reaches = reaches_then flows.reaches;
        within = within_then flows.within;
      }
