-- What a document made is applied: an entry takes the place of the one that its navigable was given.
use Rattle.seen_facts.specs.Hang.Changing.{HasState}
use Rattle.tab_facts.specs.Calm.Calm.{AreRooted, CalmUnless, IsCalmYet, IsHere, IsRooted, UnmovedAreHere}
use Rattle.seen_facts.proofs.Coord.TakenUp.{once_replaced, replace_is}
use Rattle.seen_facts.specs.Coord.Leading.{coming, is_made_under}
use Rattle.seen_facts.specs.Each.Mades.{Continues, IsNext, IsOver}
use Rattle.seen_facts.proofs.Entry.Firsts.{IsFirstOf, first_with, own_first}
use Rattle.seen_facts.proofs.Entry.Stays.{under_of}
use Rattle.seen_facts.specs.Entry.Entries.{IsItsOwn, mades_of, untold, waiting}
use Rattle.entry_store.specs.Store.{MayTake}
use Rattle.seen_facts.proofs.Hang.Forms.{nav_is}
use Rattle.seen_facts.proofs.Hang.Members.{has_any, into_map}
use Rattle.seen_facts.specs.Hang.Members.{Has}
use Rattle.history_laws.proofs.Joining.{entry_same}
use Rattle.seen_facts.proofs.Home.Shown.{one_row}
use Rattle.tab_facts.proofs.Last.Applied.{replaced_lasting}
use Rattle.seen_facts.specs.LoadEnds.Standing.{is_reached}
use Rattle.log_model.proofs.Refl.{nat_eq_refl, same_entry_refl}
use Rattle.log_model.specs.AfterPlaces.{given_entry, on_place, with_taker}
use Rattle.log_model.specs.AfterDocuments.{on_document}
use Rattle.log_model.specs.History.{applied, fits, has_nav, has_row, has_state, is_of, same_entry}
use Rattle.log_model.specs.Once.{change_of_made}
use Rattle.log_model.specs.Places.{aim_of, is_awake, is_below, is_shown, way_of, way_to}
use Rattle.log_model.specs.Seen.{Document, Place, Seen, awake, desk_of, document_of, place_of}
use Rattle.log_model.specs.declared.change.Change.{Change}
use Rattle.log_model.specs.declared.made.Made.{Made}
use Rattle.log_model.specs.declared.made.What.{What}
use Rattle.log_model.specs.declared.row.Row.{Row}
use Rattle.log_model.specs.declared.row_kind.RowKind.{RowKind}
use Rattle.seen_laws.specs.InEvent.{InEvent}
use Rattle.std.proofs.Common.{Bool, List, None, Option, Some, [], ap, cond, false, inl, inr, map, not, refl, subst, sym, true, ℕ, ◌&&◌, ◌++◌, ◌<◌, ◌==◌, ◌∙◌, ◌∷◌, ◌≡◌, ◌≤◌, ◌⊎◌}
use Rattle.std.specs.Prelude.{filter, option_map}
use Rattle.sync_core.specs.declared.judging.Judged.TheVariants as verdicts
use Rattle.tab_doors.specs.Dues.{IsTakeDue, KeepsRows, MayChange}
use Rattle.tab_doors.specs.Ties.{IsAwakeIn}
use Rattle.tab_doors.specs.Working.{IsAtWork, KeepsRun}
use Rattle.tab_doors.specs.declared.tables.Tables.{Tables}
use Rattle.tab_rests.proofs.PassedOn.{IsBare, IsBlamed, IsUnsettled, MayServe, StandOrBare, TakersServe, replaced_going, replaced_tab, serve_on, way_same}
use Rattle.tab_rests.specs.PassedOn.{AreBlamed, InPass, IsGoing, IsLoadOf, IsTab, MayStand, StandOrMove, aim_in}
use Rattle.tab_ids.specs.declared.DocId.{DocId}
use Rattle.tab_ids.specs.declared.EntryId.{EntryId}
use Rattle.tab_ids.specs.declared.Epoch.{Epoch}
use Rattle.tab_ids.specs.declared.NavId.{NavId}
use Rattle.tab_ids.specs.declared.ReqId.{ReqId}
use Rattle.tab_ids.specs.declared.StateId.{StateId}
use Rattle.tab_ids.specs.declared.Step.{Step}
use Rattle.tab_takes.proofs.Applied.{IsAfter, aim_then, aim_was, causes, has_applied, leave_on, loads_back, moved_on, moved_same, n as after_change, stray_unloaded}
use Rattle.tab_takes.proofs.Asks.{unlike, what_is}
use Rattle.tab_takes.proofs.Entries.{entry_fresh, entry_later, entry_maker, entry_new, its_next, its_own, state_of_it}
use Rattle.tab_takes.proofs.Given.{WasAt, WasDoc, become, parents_then, read_doc, usable_then, was_doc}
use Rattle.tab_takes.proofs.Now.{IsGivenHere, awake_in, due, e, given, has, list, may_change, now_, own, q, rest, take_due, target, to_take_up, under, wakes, whole}
use Rattle.tab_takes.proofs.Swapped.{nav_same as nav_as, rows_then, state_same, step_same, swap}
use Rattle.tab_takes.proofs.Swaps.{given_now, has_state_same, place_now, reads, reached_same, row_same, shown_same, target_same, used_same, visited_on, was_place}
use Rattle.tab_takes.proofs.Verdicts.{IsOfIt, Tells}
use Rattle.tab_takes.proofs.Where.{loads_same}
use Rattle.tab_takes.specs.Taking.{HasTaken, IsToTake, asked_in}
use Rattle.seen_facts.proofs.Walk.Placed.{found_nav}
use Rattle.log_model.specs.declared.change.Change.TheVariants as changes
use Rattle.log_model.specs.declared.job.Why.TheVariants as whys
use Rattle.log_model.specs.declared.made.What.TheVariants as whats
use Rattle.log_model.specs.declared.row_kind.RowKind.TheVariants as rows

some_same : {A : Type 0} {a b : A} → (let o : Option A = Some a in o) ≡ Some b → a ≡ b
some_same e = cc

-- what comes first of a document comes first of it under the epoch in which it was made
under_first : (xs : List Made) (made : Made) (ys : List Made) → IsFirstOf xs made ys → (epoch : Epoch) → (made.epoch.0 == epoch.0) ≡ true → filter (is_made_under made.doc epoch) xs ≡ made ∷ filter (is_made_under made.doc epoch) ys
under_first xs made ys is epoch under_ =
    under_of made.doc epoch xs
    ∙ ap (λ (l : List Made). filter (λ (m : Made). m.epoch.0 == epoch.0) l) (own_first xs made ys is)
    ∙ (let its : List Made = filter (λ (m : Made). m.doc.0 == made.doc.0) ys in let one : filter (λ (m : Made). m.epoch.0 == epoch.0) (made ∷ its) ≡ made ∷ filter (λ (m : Made). m.epoch.0 == epoch.0) its = rw under_ refl in one)
    ∙ ap (λ (l : List Made). made ∷ l) (sym (under_of made.doc epoch ys))

module _ (p : InPass) (out : List RowKind) (t : Tables) (blame : List (StateId × ReqId)) (made : Made) (at : IsToTake p out t blame made) (told : Tells p out t blame made at verdicts.Now) (nav : NavId) (over entry : EntryId) (state : StateId) (address : List ℕ) (memo : Option (List ℕ)) (asked : asked_in t made ≡ Some (changes.Replace nav over entry state address memo)) where
  abbrev s : Seen
  s = now_ p out t blame made at told

  abbrev ev : InEvent
  ev = e p out t blame made at told

  abbrev its : IsOfIt p out t blame made at
  its = own p out t blame made at told

  abbrev left : List Made
  left = rest p out t blame made at told

  abbrev replace : Change
  replace = changes.Replace its.d.nav over entry its.d.state address memo

  replace_is_own : changes.Replace nav over entry state address memo ≡ replace
  replace_is_own = unlike p out t blame made at told (changes.Replace nav over entry state address memo) asked replace refl

  what : made.what ≡ whats.Replace over entry memo address
  what = what_is p out t blame made at told (changes.Replace nav over entry state address memo) asked

  maker : entry.maker ≡ made.doc.0
  maker = subst (λ (w : What). IsItsOwn made.doc w) what (its_own p out t blame made at told replace)

  later : its.d.last_applied < entry.nr
  later = subst (λ (w : What). IsNext its.d.last_applied w) what (its_next p out t blame made at told replace)

  fresh : (row : Row) → Has s.history.rows row → row.entry ≡ entry → ⊥
  fresh = entry_fresh p out t blame made at told replace entry maker later

  -- ---- the entry that goes is the one that its navigable was given

  abbrev here : IsGivenHere p out t blame made at told
  here = given p out t blame made at told

  over_is : over ≡ here.row.entry
  over_is = subst (λ (w : What). IsOver here.row.entry w) what (subst (λ (l : List Made). Continues here.row.entry l) front all).0
    where
      all : Continues here.row.entry (coming (waiting s p.hand) (desk_of s its.d.proc) made.doc its.place.epoch)
      all =
          (whole p out t blame made at told).entries.continues its.d.nav its.place made.doc its.d here.row.entry its.placed (wakes p out t blame made at told) its.found (ap (λ (m : NavId). has_row m s.history.rows) its.nav_is ∙ has p out t blame made at told) here.given

      front : coming (waiting s p.hand) (desk_of s its.d.proc) made.doc its.place.epoch ≡ made ∷ coming (waiting (after_change p out t blame made at replace) left) (desk_of s its.d.proc) made.doc its.place.epoch
      front =
          under_first (untold (waiting s p.hand) (desk_of s its.d.proc)) made (untold (waiting (after_change p out t blame made at replace) left) (desk_of s its.d.proc))
          (first_with (waiting s p.hand) made (waiting (after_change p out t blame made at replace) left) (mades_of (desk_of s its.d.proc)) (list p out t blame made at told replace)) its.place.epoch (under p out t blame made at told)

  gave : its.place.given ≡ Some over
  gave = here.given ∙ ap (λ (x : EntryId). let o : Option EntryId = Some x in o) (sym over_is)

  same_over : same_entry here.row.entry over ≡ true
  same_over = ap (same_entry here.row.entry) over_is ∙ same_entry_refl here.row.entry

  own_row : is_of its.d.nav here.row ≡ true
  own_row = ap (λ (m : NavId). m.0 == its.d.nav.0) (target p out t blame made at told).nav_is ∙ nat_eq_refl its.d.nav.0

  of_state : (row : Row) → Has s.history.rows row → same_entry row.entry over ≡ true → is_of its.d.nav row ≡ true → row.state ≡ its.d.state
  of_state row there same of_it =
      let entries : row.entry ≡ here.row.entry = entry_same row.entry over same ∙ over_is in
      let one : row ≡ here.row = one_row s.history.rows here.row row ((whole p out t blame made at told).sound.entries here.row.entry) (target p out t blame made at told).there there entries in
      ap (λ (r : Row). r.state) one ∙ here.state_is

  -- ---- what the door asks

  fit : fits s.history replace ≡ true
  fit =
      has_any (λ (row : Row). same_entry row.entry over && is_of its.d.nav row) s.history.rows here.row (target p out t blame made at told).there (rw (same_over, own_row) refl)

  numbers : MayTake s.history replace
  numbers = (entry_new p out t blame made at told replace entry maker later, state_of_it p out t blame made at told)

  rows_now : (applied s.history replace).rows ≡ map (swap its.d.nav over entry address memo) s.history.rows
  rows_now = rows_then its.d.nav over entry address memo s.history (whole p out t blame made at told).sound its.d.state of_state

  abbrev n : Seen
  n = after_change p out t blame made at replace

  places_now : n.places ≡ with_taker s.history n.history made.req (on_place its.d.nav (given_entry entry) s.places)
  places_now =
      (replace_is made its.d.nav over entry its.d.state address memo maker).places s made.req (q p out t blame made at told) at.taking.there at.taking.makes

  documents_now : n.documents ≡ on_document made.doc (once_replaced entry) s.documents
  documents_now = (replace_is made its.d.nav over entry its.d.state address memo maker).documents s.documents

  keeps_rows : KeepsRows s replace
  keeps_rows m has_ = row_same s n made.req its.d.nav over entry address memo rows_now refl places_now its.place its.placed gave fresh m ∙ has_

  pub replace_awake : IsAwakeIn t.tree nav (record { 0 = entry.maker })
  replace_awake =
      let navs : nav ≡ its.d.nav = (let both : changes.Replace nav over entry state address memo ≡ replace = replace_is_own in cc) in
      subst (λ (m : NavId). IsAwakeIn t.tree m (record { 0 = entry.maker })) (sym navs) (awake_in p out t blame made at told (record { 0 = entry.maker }) (ap (λ (k : ℕ). let x : DocId = record { 0 = k } in x) maker))

  pub replace_ready : IsTakeDue ev out made.req (changes.Replace nav over entry state address memo) × (MayChange s (changes.Replace nav over entry state address memo) × KeepsRows s (changes.Replace nav over entry state address memo))
  replace_ready =
      subst (λ (c : Change). IsTakeDue ev out made.req c × (MayChange s c × KeepsRows s c)) (sym replace_is_own) (
        take_due p out t blame made at told replace (due p out t blame made at told replace (ap (λ (w : What). change_of_made s its.d w) what)) fit (entry_later p out t blame made at told replace entry maker later),
        (may_change p out t blame made at told replace fit numbers, keeps_rows),
      )

  pub replace_of_document : (entry.maker == 0) ≡ false
  replace_of_document = entry_maker p out t blame made at told replace entry maker later

  -- ---- all goes on

  tab_n : IsTab t.running p.loads left n
  tab_n =
      loads_same p out t blame made at n
      (replaced_tab t.running p.loads p.hand s ev.event ev.actor (whole p out t blame made at told) made.req made its.d over entry memo address what (to_take_up p out t blame made at told replace fit))

  going_n : IsGoing t.running p.loads left n
  going_n =
      replaced_going t.running p.loads p.hand s ev.event ev.actor at.passing.going made.req (q p out t blame made at told) at.taking.there at.taking.open_ its.d.nav over entry its.d.state address memo p.loads left tab_n (replaced_lasting s ev.event ev.actor at.passing.going.lasting made.req its.d.nav over entry its.d.state address memo)

  -- the places

  abbrev Was : NavId → Place → Type 0
  Was m place = WasAt s n n.history made.req its.d.nav entry places_now m place

  was : (m : NavId) (place : Place) → place_of n m ≡ Some place → Was m place
  was = was_place s n made.req its.d.nav over entry address memo rows_now refl places_now its.place its.placed gave fresh

  read : {B : Type 0} (f : Place → B) → ((x : Place) → f (record x { taken_by = Some made.req }) ≡ f x) → ((x : Place) → f (given_entry entry x) ≡ f x) → (m : NavId) (place : Place) (w : Was m place) → f w.old ≡ f place
  read {B} f blind given_ m place w =
      reads s n made.req its.d.nav over entry address memo rows_now refl places_now its.place its.placed gave fresh m place w f blind given_

  row_as : (m : NavId) → has_row m n.history.rows ≡ has_row m s.history.rows
  row_as = row_same s n made.req its.d.nav over entry address memo rows_now refl places_now its.place its.placed gave fresh

  state_as : (x : StateId) → has_state x n.history.rows ≡ has_state x s.history.rows
  state_as = has_state_same s n made.req its.d.nav over entry address memo rows_now refl places_now its.place its.placed gave fresh

  aim : aim_of n ≡ aim_of s
  aim = aim_then p out t blame made at replace tab_n ∙ by_run t.running ∙ sym (aim_was p out t blame made at replace)
    where
      by_run : (run : Option ReqId) → aim_in n.history run t.goal ≡ aim_in s.history run t.goal
      by_run None = refl
      by_run (Some run) = used_same s n made.req its.d.nav over entry address memo rows_now refl places_now its.place its.placed gave fresh t.goal.0

  -- nobody lost its last entries
  takers_n : TakersServe n
  takers_n m place req at_ is = by_taken w.old refl
    where
      w : Was m place
      w = was m place at_

      none_lost : (x : Place) → (has_row x.nav s.history.rows && not (has_row x.nav n.history.rows)) ≡ false
      none_lost x = ap (λ (b : Bool). has_row x.nav s.history.rows && not b) (row_as x.nav) ∙ never (has_row x.nav s.history.rows)
        where
          never : (b : Bool) → (b && not b) ≡ false
          never true = refl
          never false = refl

      taken_same : (x : Place) → (become s n n.history made.req its.d.nav entry places_now x).taken_by ≡ x.taken_by
      taken_same x =
          ap (λ (b : Bool). (let y : Place = cond b (record (let z : Place = cond (x.nav.0 == its.d.nav.0) (given_entry entry x) x in z) { taken_by = Some made.req }) (let z : Place = cond (x.nav.0 == its.d.nav.0) (given_entry entry x) x in z) in y).taken_by) (none_lost (let z : Place = cond (x.nav.0 == its.d.nav.0) (given_entry entry x) x in z))
          ∙ by_giver (x.nav.0 == its.d.nav.0)
        where
          by_giver : (b : Bool) → (let z : Place = cond b (given_entry entry x) x in z).taken_by ≡ x.taken_by
          by_giver true = refl
          by_giver false = refl

      by_taken : (old : Place) → w.old ≡ old → MayServe n req
      by_taken old same =
          serve_on s n req (causes p out t blame made at replace tab_n) ((at.open_.open_ whys.Start (λ r never. absurd cc)).takers m w.old req w.there (sym (taken_same w.old) ∙ ap (λ (x : Place). x.taken_by) w.is ∙ is))

  -- ---- loads

  bare_on : (m : NavId) → IsBare s m → IsBare n m
  bare_on m is = row_as m ∙ is

  unsettled_on : (m : NavId) → IsUnsettled s m → IsUnsettled n m
  unsettled_on m away =
      let placed_ = place_now s n made.req its.d.nav over entry address memo rows_now refl places_now its.place its.placed gave fresh in
      record {
        place = become s n n.history made.req its.d.nav entry places_now away.place;
        placed = placed_ m away.place away.placed;
        mover = away.mover;
        on_way = ap (λ (l : List NavId). has_nav l away.mover) (sym (read way_of (λ x. refl) (λ x. refl) m (become s n n.history made.req its.d.nav entry places_now away.place) (record { old = away.place; there = away.placed; is = refl }))) ∙ away.on_way;
        own = become s n n.history made.req its.d.nav entry places_now away.own;
        there = placed_ away.mover away.own away.there;
        need = visited_on s n made.req its.d.nav over entry address memo rows_now refl places_now its.place its.placed gave fresh aim away.mover (become s n n.history made.req its.d.nav entry places_now away.own) (record { old = away.own; there = away.there; is = refl }) away.need;
      }

  reached_on : (m : NavId) → is_reached s m ≡ true → is_reached n m ≡ true
  reached_on m is =
      reached_same s n made.req its.d.nav over entry address memo rows_now refl places_now its.place its.placed gave fresh aim m ∙ is

  stand_bare : StandOrBare s → (r : ReqId) (m : NavId) → IsLoadOf n r m → (is_reached n m ≡ true) ⊎ IsBare n m
  stand_bare so r m load = by_case (so r m (loads_back p out t blame made at replace r m load))
    where
      by_case : (is_reached s m ≡ true) ⊎ IsBare s m → (is_reached n m ≡ true) ⊎ IsBare n m
      by_case (inl is) = inl (reached_on m is)
      by_case (inr is) = inr (bare_on m is)

  stand_move : StandOrMove s → (r : ReqId) (m : NavId) → IsLoadOf n r m → (is_reached n m ≡ true) ⊎ (IsUnsettled n m ⊎ IsBare n m)
  stand_move so r m load = by_case (so r m (loads_back p out t blame made at replace r m load))
    where
      by_case : (is_reached s m ≡ true) ⊎ (IsUnsettled s m ⊎ IsBare s m) → (is_reached n m ≡ true) ⊎ (IsUnsettled n m ⊎ IsBare n m)
      by_case (inl is) = inl (reached_on m is)
      by_case (inr (inl is)) = inr (inl (unsettled_on m is))
      by_case (inr (inr is)) = inr (inr (bare_on m is))

  stand : (run : Option ReqId) → MayStand run s → MayStand run n
  stand None so = stand_bare so
  stand (Some run) so = stand_move so

  -- ---- documents

  was_document : (doc : DocId) (x : Document) → document_of n doc ≡ Some x → WasDoc s n made.doc (once_replaced entry) (λ y. refl) documents_now doc x
  was_document = was_doc s n made.doc (once_replaced entry) (λ y. refl) documents_now

  read_document : {B : Type 0} (f : Document → B) → ((x : Document) → f (once_replaced entry x) ≡ f x) → (doc : DocId) (x : Document) (w : WasDoc s n made.doc (once_replaced entry) (λ y. refl) documents_now doc x) → f w.old ≡ f x
  read_document {B} f same doc x w = read_doc s n made.doc (once_replaced entry) (λ y. refl) documents_now f same doc x w

  blamed : AreBlamed n blame
  blamed doc state_ stray =
      by_old (at.open_.blamed doc state_ (record {
        document = w.old;
        found = w.there;
        its_state = read_document (λ (x : Document). x.state) (λ x. refl) doc stray.document w ∙ stray.its_state;
        ready = read_document (λ (x : Document). x.is_ready) (λ x. refl) doc stray.document w ∙ stray.ready;
        undiscarded = read_document (λ (x : Document). x.is_discarded) (λ x. refl) doc stray.document w ∙ stray.undiscarded;
        bare = sym (state_as state_) ∙ stray.bare;
        unloaded = stray_unloaded p out t blame made at replace stray.document state_ stray.its_state stray.unloaded;
      }))
    where
      w : WasDoc s n made.doc (once_replaced entry) (λ y. refl) documents_now doc stray.document
      w = was_document doc stray.document stray.found

      by_old : IsBlamed s blame doc state_ → IsBlamed n blame doc state_
      by_old before =
          record {
            req = before.req;
            noted = before.noted;
            may = serve_on s n before.req (causes p out t blame made at replace tab_n) before.may;
            moves = λ m place other under_ placed wakes_ there is. (let one = was m place placed in let two = was other under_ there in
                moved_on p out t blame made at replace (whys.Req before.req) other (before.moves m one.old other two.old one.there (read (λ (x : Place). x.status) (λ x. refl) (λ x. refl) m place one ∙ wakes_) two.there (below m other under_ two is)));
            leaves = λ m place placed wakes_. (let one = was m place placed in
                leave_on p out t blame made at replace tab_n before.req m before.may (way_was m place placed one) (before.leaves m one.old one.there (read (λ (x : Place). x.status) (λ x. refl) (λ x. refl) m place one ∙ wakes_)));
          }
        where
          way_was : (m : NavId) (place : Place) → place_of n m ≡ Some place → Was m place → way_to n m ≡ way_to s m
          way_was m place placed w =
              way_same s n m (ap (option_map (λ (x : Place). x.above)) placed ∙ ap (λ (l : List NavId). let o : Option (List NavId) = Some l in o) (sym (read (λ (x : Place). x.above) (λ x. refl) (λ x. refl) m place w)) ∙ sym (ap (option_map (λ (x : Place). x.above)) w.there))

          below : (m other : NavId) (under_ : Place) (two : Was other under_) → ((other.0 == m.0) ≡ true) ⊎ (is_below m under_ ≡ true) → ((other.0 == m.0) ≡ true) ⊎ (is_below m two.old ≡ true)
          below m other under_ two (inl same) = inl same
          below m other under_ two (inr is) = inr (ap (λ (l : List NavId). has_nav l m) (read (λ (x : Place). x.above) (λ x. refl) (λ x. refl) other under_ two) ∙ is)

  -- ---- where navigables are

  here_on : (m : NavId) (place : Place) (w : Was m place) → IsHere s w.old → IsHere n place
  here_on m place w is =
      record {
        shown = ap (λ (x : NavId). is_shown n.history.rows n.history.current x) (sym (read (λ (x : Place). x.nav) (λ x. refl) (λ x. refl) m place w)) ∙ shown_same s n made.req its.d.nav over entry address memo rows_now refl places_now its.place its.placed gave fresh s.history.current w.old.nav ∙ is.shown;
        target = target_same s n made.req its.d.nav over entry address memo rows_now refl places_now its.place its.placed gave fresh m place w s.history.current ∙ is.target;
      }

  calm_on : (run : Option ReqId) → CalmUnless IsCalmYet run s → CalmUnless IsCalmYet run n
  calm_on (Some run) so = tt
  calm_on None so =
      record {
        here = λ m place doc found wakes_. (let w = was m place found in by_here m place w (so.here m w.old doc w.there (read (λ (x : Place). x.status) (λ x. refl) (λ x. refl) m place w ∙ wakes_)));
        wakes = λ m place found shown epoch. (let w = was m place found in
            by_wakes m place w (so.wakes m w.old w.there (sym (shown_same s n made.req its.d.nav over entry address memo rows_now refl places_now its.place its.placed gave fresh s.history.current w.old.nav) ∙ ap (λ (x : NavId). is_shown n.history.rows n.history.current x) (read (λ (x : Place). x.nav) (λ x. refl) (λ x. refl) m place w) ∙ shown) (subst (λ (k : Epoch). 1 ≤ k.0) (sym (read (λ (x : Place). x.epoch) (λ x. refl) (λ x. refl) m place w)) epoch)));
      }
    where
      by_here : (m : NavId) (place : Place) (w : Was m place) → (has_row m s.history.rows ≡ false) ⊎ IsHere s w.old → (has_row m n.history.rows ≡ false) ⊎ IsHere n place
      by_here m place w (inl is) = inl (row_as m ∙ is)
      by_here m place w (inr is) = inr (here_on m place w is)

      by_wakes : (m : NavId) (place : Place) (w : Was m place) → (has_row m s.history.rows ≡ false) ⊎ (is_awake w.old ≡ true) → (has_row m n.history.rows ≡ false) ⊎ (is_awake place ≡ true)
      by_wakes m place w (inl is) = inl (row_as m ∙ is)
      by_wakes m place w (inr is) = inr (sym (read is_awake (λ x. refl) (λ x. refl) m place w) ∙ is)

  unmoved_n : UnmovedAreHere n
  unmoved_n m place doc found wakes_ has_ still =
      let w = was m place found in
      here_on m place w (at.open_.unmoved m w.old doc w.there (read (λ (x : Place). x.status) (λ x. refl) (λ x. refl) m place w ∙ wakes_) (sym (row_as m) ∙ has_) (sym (moved_same p out t blame made at replace tab_n m) ∙ still))

  -- ---- what each was given

  swapped_has : (row : Row) → Has s.history.rows row → Has n.history.rows (swap its.d.nav over entry address memo row)
  swapped_has row there =
      subst (λ (l : List Row). Has l (swap its.d.nav over entry address memo row)) (sym rows_now) (into_map (swap its.d.nav over entry address memo) s.history.rows row there)

  unswapped : (row : Row) → (same_entry row.entry over && is_of its.d.nav row) ≡ false → swap its.d.nav over entry address memo row ≡ row
  unswapped row off = ap (λ (b : Bool). let x : Row = (let y : Row = record row { entry = entry; address = address; memo = memo } in cond b y row) in x) off

  new_entry_of : (swap its.d.nav over entry address memo here.row).entry ≡ entry
  new_entry_of = ap (λ (b : Bool). (let x : Row = (let y : Row = record here.row { entry = entry; address = address; memo = memo } in cond b y here.row) in x).entry) (let both : (same_entry here.row.entry over && is_of its.d.nav here.row) ≡ true = rw (same_over, own_row) refl in both)

  given_as : (m : NavId) (place : Place) (w : Was m place) → place.given ≡ cond (m.0 == its.d.nav.0) (Some entry) w.old.given
  given_as = given_now s n made.req its.d.nav over entry address memo rows_now refl places_now its.place its.placed gave fresh

  rooted_n : AreRooted n
  rooted_n m place doc x found wakes_ there has_ =
      by_case (at.open_.rooted m w.old doc v.old w.there (read (λ (y : Place). y.status) (λ y. refl) (λ y. refl) m place w ∙ wakes_) v.there (ap (λ (y : StateId). has_state y s.history.rows) states ∙ sym (state_as x.state) ∙ has_))
    where
      w : Was m place
      w = was m place found

      v : WasDoc s n made.doc (once_replaced entry) (λ y. refl) documents_now doc x
      v = was_document doc x there

      wakes_s : w.old.status ≡ awake doc
      wakes_s = read (λ (y : Place). y.status) (λ y. refl) (λ y. refl) m place w ∙ wakes_

      states : v.old.state ≡ x.state
      states = read_document (λ (y : Document). y.state) (λ y. refl) doc x v

      own_nav : place.nav ≡ m
      own_nav = sym (read (λ (y : Place). y.nav) (λ y. refl) (λ y. refl) m place w) ∙ found_nav s.places m w.old w.there

      by_own : (row : Row) → Has s.history.rows row → row.nav ≡ w.old.nav → w.old.given ≡ Some row.entry → (b : Bool) → (m.0 == its.d.nav.0) ≡ b → IsRooted n place x
      by_own row has_row_ own_ is true same =
          inl (swap its.d.nav over entry address memo here.row, swapped_has here.row (target p out t blame made at told).there, nav_as its.d.nav over entry address memo here.row ∙ (target p out t blame made at told).nav_is ∙ sym (nav_is m its.d.nav same) ∙ sym own_nav, given_as m place w ∙ ap (λ (b : Bool). let o : Option EntryId = cond b (Some entry) w.old.given in o) same ∙ ap (λ (y : EntryId). let o : Option EntryId = Some y in o) (sym new_entry_of))
      by_own row has_row_ own_ is false apart =
          let navs : row.nav ≡ m = own_ ∙ found_nav s.places m w.old w.there in
          let off : (same_entry row.entry over && is_of its.d.nav row) ≡ false = (let other : is_of its.d.nav row ≡ false = ap (λ (y : NavId). y.0 == its.d.nav.0) navs ∙ apart in neither (same_entry row.entry over) (is_of its.d.nav row) other) in
          inl (row, subst (λ (r : Row). Has n.history.rows r) (unswapped row off) (swapped_has row has_row_), navs ∙ sym own_nav, given_as m place w ∙ ap (λ (b : Bool). let o : Option EntryId = cond b (Some entry) w.old.given in o) apart ∙ is)
        where
          neither : (a b : Bool) → b ≡ false → (a && b) ≡ false
          neither true b h = h
          neither false b h = refl

      by_case : IsRooted s w.old v.old → IsRooted n place x
      by_case (inl root) = by_own root.0 root.1 root.2 root.3 (m.0 == its.d.nav.0) refl
      by_case (inr root) =
          inr (swap its.d.nav over entry address memo root.0, swapped_has root.0 root.1, state_same its.d.nav over entry address memo root.0 ∙ root.2 ∙ states, subst (λ (k : Step). k.0 ≤ s.history.current) (sym (step_same its.d.nav over entry address memo root.0)) root.3)

  -- the replaced entry is of the document state
  over_state : HasState s.history.rows over its.d.state
  over_state row there same =
      let entries : row.entry ≡ here.row.entry = entry_same row.entry over same ∙ over_is in
      let one : row ≡ here.row = one_row s.history.rows here.row row (at.passing.going.tab.sound.entries here.row.entry) (target p out t blame made at told).there there entries in
      ap (λ (r : Row). r.state) one ∙ here.state_is

  pub replace_after : IsAfter p out t blame made at replace blame
  replace_after =
      record {
        tab_n = tab_n;
        going = going_n;
        parents = parents_then s n n.history made.req its.d.nav entry places_now (at.open_.open_ whys.Start (λ r never. absurd cc)).parents;
        takers = takers_n;
        loads = stand t.running at.open_.loads;
        blamed = blamed;
        calm = calm_on t.running at.open_.calm;
        unmoved = unmoved_n;
        rooted = rooted_n;
        usable = usable_then s n made.doc (once_replaced entry) (λ y. refl) documents_now (λ state_ x. refl);
        well = record { sound = at.passing.going.tab.sound; hangs = at.passing.going.tab.hangs; fit = fit; brings = inl over_state; then_sound = tab_n.sound };
        keeps = over_state;
      }

  pub replace_done : (new : List RowKind) (u : Tables) → new ≡ out ++ rows.Applied made.req (changes.Replace nav over entry state address memo) ∷ [] → KeepsRun t u → IsAtWork ev new u → HasTaken p t made out new u blame
  replace_done new u out_is keeps work =
      has_applied p out t blame made at replace blame replace_after new u (out_is ∙ ap (λ (c : Change). out ++ rows.Applied made.req c ∷ []) replace_is_own) keeps work refl refl
