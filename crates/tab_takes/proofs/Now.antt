-- What a document made is taken up now: its navigable is awake on that document, where it is to be at the current step, and the change that it asks is that of its navigable and document state.
use Rattle.seen_facts.specs.Coord.Leading.{held_back}
use Rattle.tab_facts.proofs.Past.Past.{made_by_last}
use Rattle.tab_facts.specs.Calm.Calm.{IsHere}
use Rattle.seen_facts.proofs.Coord.Unread.{next}
use Rattle.seen_facts.proofs.Entry.Applied.{applied_ends}
use Rattle.seen_facts.proofs.Entry.Firsts.{IsFirstOf, at_hand_first, held_first}
use Rattle.seen_facts.proofs.Entry.Skips.{without_made, made_in}
use Rattle.seen_facts.specs.Entry.Entries.{waiting}
use Rattle.tab_facts.specs.Frame.Taking.{IsWaitingHere}
use Rattle.tab_facts.proofs.FrameWhole.Ending.{reqs_of, some_times}
use Rattle.tab_facts.proofs.FrameWhole.Takes.{due_is}
use Rattle.seen_facts.proofs.Hang.Targets.{IsTarget, target_has}
use Rattle.seen_facts.specs.Hang.Members.{Has}
use Rattle.history_laws.proofs.Joining.{entry_same}
use Rattle.seen_facts.specs.Home.Homes.{IsHomed}
use Rattle.log_model.proofs.Refl.{nat_eq_refl}
use Rattle.log_model.specs.AfterRequests.{is_held_up}
use Rattle.log_model.specs.Equal.{has_req, holds}
use Rattle.log_model.specs.History.{fits, has_nav, has_row, same_entry, target_entry}
use Rattle.log_model.specs.Once.{change_of_made, due_change, is_in_order}
use Rattle.log_model.specs.Places.{is_awake, is_moved, is_present, running_traversal}
use Rattle.log_model.specs.Queue.{is_taken_up_at_once}
use Rattle.log_model.specs.Seen.{Asked, Document, Place, Seen, Status, asleep, awake, document_of, lost, place_of, request_in}
use Rattle.log_model.specs.declared.change.Change.{Change}
use Rattle.log_model.specs.declared.made.Made.{Made}
use Rattle.log_model.specs.declared.row.Row.{Row}
use Rattle.log_model.specs.declared.row_kind.RowKind.{RowKind}
use Rattle.nav_tree.specs.Tree.{state_of}
use Rattle.seen_facts.proofs.Request.Times.{times_none}
use Rattle.seen_facts.specs.Request.Whereabouts.{times}
use Rattle.seen_laws.specs.InEvent.{InEvent}
use Rattle.std.proofs.Common.{Bool, List, None, Option, Some, [], ap, arith, false, inl, inr, refl, sym, true, ℕ, ◌&&◌, ◌+◌, ◌<◌, ◌==◌, ◌∙◌, ◌∷◌, ◌≡◌, subst, ◌≤◌, ◌++◌}
use Rattle.std.proofs.lemmas.Bool.{and_parts, eqb-true}
use Rattle.std.specs.Prelude.{option_and_then}
use Rattle.sync_core.specs.declared.judging.Judged.TheVariants as verdicts
use Rattle.entry_store.specs.Store.{MayTake}
use Rattle.nav_tree.specs.declared.status.NavStatus.{NavStatus}
use Rattle.nav_tree.specs.declared.status.NavStatus.TheVariants as kept
use Rattle.tab_doors.specs.Dues.{IsTakeDue, MayChange}
use Rattle.tab_doors.specs.Ties.{IsAwakeIn, status_of}
use Rattle.tab_rests.proofs.PassedOn.{IsToTakeUp, at_most_once, count_few, leaving_none, listed_here, none_at, running_is}
use Rattle.tab_rests.specs.PassedOn.{IsTab, has_ended, InPass}
use Rattle.tab_doors.specs.declared.tables.Tables.{Tables}
use Rattle.tab_ids.specs.declared.DocId.{DocId}
use Rattle.tab_ids.specs.declared.EntryId.{EntryId}
use Rattle.tab_ids.specs.declared.NavId.{NavId}
use Rattle.tab_ids.specs.declared.ReqId.{ReqId}
use Rattle.tab_ids.specs.declared.StateId.{StateId}
use Rattle.tab_takes.proofs.Behind.{none_behind}
use Rattle.tab_takes.proofs.Sorts.{made_for, unbegun}
use Rattle.tab_takes.proofs.Verdicts.{IsOfIt, Tells, apart, has_entry, its, s, tab, unmoved}
use Rattle.tab_takes.proofs.Where.{carried}
use Rattle.tab_takes.specs.Taking.{IsToTake}
use Rattle.log_model.specs.declared.row_kind.RowKind.TheVariants as rows

some_same : {A : Type 0} {a b : A} → (let o : Option A = Some a in o) ≡ Some b → a ≡ b
some_same e = cc

-- the navigable is awake on the document in the tables, too
awake_then : (st : NavStatus) (doc : DocId) → status_of st ≡ awake doc → st ≡ kept.Awake doc
awake_then (kept.Awake d) doc e = (let one : awake d ≡ awake doc = e in cc)
awake_then kept.Lost doc e = absurd cc
awake_then kept.Asleep doc e = absurd cc

has_left : (xs ys : List Made) (x : Made) → Has xs x → Has (xs ++ ys) x
has_left [] ys x never = absurd never
has_left (y ∷ xs) ys x (inl same) = inl same
has_left (y ∷ xs) ys x (inr there) = inr (has_left xs ys x there)

has_right : (xs ys : List Made) (x : Made) → Has ys x → Has (xs ++ ys) x
has_right [] ys x there = there
has_right (y ∷ xs) ys x there = inr (has_right xs ys x there)

module _ (p : InPass) (out : List RowKind) (t : Tables) (blame : List (StateId × ReqId)) (made : Made) (at : IsToTake p out t blame made) (told : Tells p out t blame made at verdicts.Now) where
  abbrev pub e : InEvent
  e = p.event

  abbrev pub now_ : Seen
  now_ = s p out t blame made at

  abbrev pub whole : IsTab t.running p.loads p.hand now_
  whole = tab p out t blame made at

  abbrev pub rest : List Made
  rest = without_made made.req p.hand

  abbrev pub own : IsOfIt p out t blame made at
  own = its p out t blame made at

  abbrev pub q : Asked
  q = at.taking.q

  pub has : has_row own.d.nav now_.history.rows ≡ true
  has = has_entry p out t blame made at told.0

  pub still : is_moved now_ own.d.nav ≡ false
  still = unmoved p out t blame made at told.1.1

  parts : (is_awake own.place ≡ true) × ((own.place.epoch.0 == made.epoch.0) ≡ true)
  parts = and_parts (is_awake own.place) (own.place.epoch.0 == made.epoch.0) told.1.0

  -- ---- the navigable is awake on the document

  record IsAwakeOn : Type 0 where
    doc : DocId
    wakes : own.place.status ≡ awake doc

  awake_on : IsAwakeOn
  awake_on = by_status own.place.status refl
    where
      by_status : (st : Status) → own.place.status ≡ st → IsAwakeOn
      by_status (awake doc) h = record { doc = doc; wakes = h }
      by_status asleep h = absurd (let no : is_awake own.place ≡ false = rw h refl in let never : true ≡ false = sym parts.0 ∙ no in cc)
      by_status lost h = absurd (let no : is_awake own.place ≡ false = rw h refl in let never : true ≡ false = sym parts.0 ∙ no in cc)

  -- it waits, and was made under an epoch
  waits : Has (waiting now_ p.hand) made
  waits = by_where at.taking.here
    where
      made_is : made_in now_.requests made.req ≡ Some made
      made_is =
          ap (λ (o : Option Asked). option_and_then (λ (x : Asked). x.made) o) at.taking.there ∙ at.taking.makes

      by_where : IsWaitingHere p.hand now_ made.req made → Has (waiting now_ p.hand) made
      by_where (inl hand) =
          has_right (held_back now_.requests now_.parked) p.hand made (subst (λ (l : List Made). Has l made) (sym hand.0) (inl refl))
      by_where (inr held) =
          has_left (held_back now_.requests now_.parked) p.hand made (subst (λ (l : List ReqId). Has (held_back now_.requests l) made) (sym held.1) (rw made_is (inl refl)))

  shown : 1 ≤ made.epoch.0
  shown = at.passing.going.lasting.made made.req q at.taking.there made at.taking.makes

  pub wakes : own.place.status ≡ awake made.doc
  wakes =
      let last : own.place.last ≡ Some made.doc = made_by_last p.hand now_ whole.past made waits shown own.d own.place own.found own.placed parts.1 in
      let home : IsHomed now_.documents own.place awake_on.doc = whole.homes.homed own.d.nav own.place awake_on.doc own.placed awake_on.wakes in
      let docs : awake_on.doc ≡ made.doc = some_same (sym home.last ∙ last) in
      awake_on.wakes ∙ ap (λ (x : DocId). awake x) docs

  homed : IsHomed now_.documents own.place made.doc
  homed = whole.homes.homed own.d.nav own.place made.doc own.placed wakes

  same_doc : homed.home.document ≡ own.d
  same_doc = some_same (sym homed.home.found ∙ own.found)

  pub ready : own.d.is_ready ≡ true
  ready = ap (λ (x : Document). x.is_ready) (sym same_doc) ∙ homed.home.ready

  pub undiscarded : own.d.is_discarded ≡ false
  undiscarded = ap (λ (x : Document). x.is_discarded) (sym same_doc) ∙ homed.home.undiscarded

  pub under : (made.epoch.0 == own.place.epoch.0) ≡ true
  under =
      let same : own.place.epoch.0 ≡ made.epoch.0 = eqb-true own.place.epoch.0 made.epoch.0 parts.1 in
      ap (λ (n : ℕ). made.epoch.0 == n) same ∙ nat_eq_refl made.epoch.0

  present : is_present now_ made ≡ true
  present =
      ap (λ (o : Option Document). holds (λ (x : Document). holds (λ (y : Place). is_awake y && y.epoch.0 == made.epoch.0) (place_of now_ x.nav)) o) own.found
      ∙ ap (λ (o : Option Place). holds (λ (y : Place). is_awake y && y.epoch.0 == made.epoch.0) o) own.placed
      ∙ told.1.0

  -- ---- where it is to be

  pub here : IsHere now_ own.place
  here = at.open_.unmoved own.d.nav own.place made.doc own.placed wakes has still

  -- it was given its target
  pub record IsGivenHere : Type 0 where
    pub row : Row
    pub at_ : target_entry now_.history.rows own.d.nav now_.history.current ≡ Some row
    pub given : own.place.given ≡ Some row.entry
    pub state_is : row.state ≡ own.d.state

  pub given : IsGivenHere
  given = by_target (target_entry now_.history.rows own.place.nav now_.history.current) refl here.target
    where
      by_given : (row : Row) → target_entry now_.history.rows own.place.nav now_.history.current ≡ Some row → (o : Option EntryId) → own.place.given ≡ o → holds (same_entry row.entry) o ≡ true → IsGivenHere
      by_given row found None is h = absurd cc
      by_given row found (Some entry) is h =
          let target : IsTarget now_.history.rows own.place.nav now_.history.current row = target_has now_.history.rows own.place.nav now_.history.current row found in
          let gave : own.place.given ≡ Some row.entry = is ∙ ap (λ (x : EntryId). Some x) (sym (entry_same row.entry entry h)) in
          record {
            row = row;
            at_ = ap (λ (n : NavId). target_entry now_.history.rows n now_.history.current) (sym own.nav_is) ∙ found;
            given = gave;
            state_is = whole.homes.state own.d.nav own.place made.doc own.placed wakes row own.d target.there target.nav_is gave own.found;
          }

      by_target : (o : Option Row) → target_entry now_.history.rows own.place.nav now_.history.current ≡ o → holds (λ (row : Row). holds (same_entry row.entry) own.place.given) o ≡ true → IsGivenHere
      by_target None found h = absurd cc
      by_target (Some row) found h = by_given row found own.place.given refl h

  pub target : IsTarget now_.history.rows own.d.nav now_.history.current given.row
  target = target_has now_.history.rows own.d.nav now_.history.current given.row given.at_

  -- ---- it is to be taken up at once

  second : (a b : Bool) → (a && b) ≡ true → b ≡ true
  second true b h = h
  second false b h = absurd cc

  unheld : is_held_up now_ made ≡ false
  unheld =
      ap (λ (o : Option Document). holds (λ (d : Document). holds (λ (r : Asked). has_nav r.activated d.nav) (running_traversal now_)) o) own.found
      ∙ by_run (running_traversal now_) refl
    where
      by_moved : (b c : Bool) → (b ≡ true → c ≡ true) → c ≡ false → b ≡ false
      by_moved true c on off = let never : true ≡ false = sym (on refl) ∙ off in absurd cc
      by_moved false c on off = refl

      by_found : (r : Asked) → running_traversal now_ ≡ Some r → (o : Option ReqId) → t.running ≡ o → option_and_then (λ (req : ReqId). request_in now_.requests req) o ≡ Some r → has_nav r.activated own.d.nav ≡ false
      by_found r runs None none found = absurd cc
      by_found r runs (Some req) some found =
          by_moved (has_nav r.activated own.d.nav) (has_nav r.moved own.d.nav) (λ is. (whole.asked.each req r found).moved own.d.nav is) (sym (ap (holds (λ (x : Asked). has_nav x.moved own.d.nav)) runs) ∙ still)

      by_run : (o : Option Asked) → running_traversal now_ ≡ o → holds (λ (r : Asked). has_nav r.activated own.d.nav) (running_traversal now_) ≡ false
      by_run None runs = ap (holds (λ (r : Asked). has_nav r.activated own.d.nav)) runs
      by_run (Some r) runs =
          ap (holds (λ (x : Asked). has_nav x.activated own.d.nav)) runs
          ∙ by_found r runs t.running refl (sym (running_is now_ t.running whole.asked) ∙ runs)

  pub at_once : is_taken_up_at_once now_ made ≡ true
  at_once = rw at.taking.changes (rw present (rw unheld (rw in_place refl)))
    where
      in_place : holds (λ (d : Document). has_row d.nav now_.history.rows) (document_of now_ made.doc) ≡ true
      in_place = ap (λ (o : Option Document). holds (λ (d : Document). has_row d.nav now_.history.rows) o) own.found ∙ has

  -- ---- it waits first of all that its document made

  module _ (change : Change) where
    abbrev pub then_ : Seen
    then_ = next now_ e.event e.actor (rows.Applied made.req change)

    hand_has : p.hand ≡ made ∷ [] → has_req (reqs_of p.hand) made.req ≡ true
    hand_has is = ap (λ (l : List Made). has_req (reqs_of l) made.req) is ∙ rw (nat_eq_refl made.req.0) refl

    parked_has : (others : List ReqId) → now_.parked ≡ made.req ∷ others → has_req now_.parked made.req ≡ true
    parked_has others is = ap (λ (l : List ReqId). has_req l made.req) is ∙ rw (nat_eq_refl made.req.0) refl

    unparked : p.hand ≡ made ∷ [] → has_req now_.parked made.req ≡ false
    unparked is =
        let all = at_most_once t.running p.loads p.hand now_ whole made.req in
        let n : 0 < times made.req (reqs_of p.hand) = some_times made.req (reqs_of p.hand) (hand_has is) in
        times_none made.req now_.parked (omega (arith, all, n))

    once : (others : List ReqId) → now_.parked ≡ made.req ∷ others → has_req others made.req ≡ false
    once others is =
        let all = at_most_once t.running p.loads p.hand now_ whole made.req in
        let two : times made.req now_.parked ≡ 1 + times made.req others = ap (λ (l : List ReqId). times made.req l) is ∙ rw (nat_eq_refl made.req.0) refl in
        times_none made.req others (omega (arith, all, two))

    none_handed : (others : List ReqId) → now_.parked ≡ made.req ∷ others → (m : Made) → Has p.hand m → (m.req.0 == made.req.0) ≡ false
    none_handed others is m there = by_test (m.req.0 == made.req.0) refl
      where
        by_test : (b : Bool) → (m.req.0 == made.req.0) ≡ b → (m.req.0 == made.req.0) ≡ false
        by_test false no_ = no_
        by_test true same =
            let all = at_most_once t.running p.loads p.hand now_ whole made.req in
            let n : 0 < times made.req now_.parked = some_times made.req now_.parked (parked_has others is) in
            absurd (none_at made.req p.hand m (times_none made.req (reqs_of p.hand) (omega (arith, all, n))) there same)

    pub list : IsFirstOf (waiting now_ p.hand) made (waiting then_ rest)
    list = by_case at.taking.here
      where
        by_case : IsWaitingHere p.hand now_ made.req made → IsFirstOf (waiting now_ p.hand) made (waiting then_ rest)
        by_case (inl is) =
            at_hand_first p.hand now_ then_ made.req made (applied_ends now_ e.event e.actor made.req change) is.0 (nat_eq_refl made.req.0) (unparked is.0) (none_behind p out t blame made at told is.0)
        by_case (inr is) =
            held_first p.hand now_ then_ made.req made (applied_ends now_ e.event e.actor made.req change) is.0 is.1 (once is.0 is.1) (ap (λ (o : Option Asked). option_and_then (λ (x : Asked). x.made) o) at.taking.there ∙ at.taking.makes) (none_handed is.0 is.1)

    pub to_take_up : fits now_.history change ≡ true → IsToTakeUp t.running p.loads p.hand now_ e.event e.actor made.req made own.d change
    to_take_up fit =
        record {
          q = q;
          there = at.taking.there;
          makes = at.taking.makes;
          unended = at.taking.open_;
          other = apart p out t blame made at;
          carried = carried p out t blame made at;
          found = own.found;
          place = own.place;
          placed = own.placed;
          wakes = wakes;
          under = under;
          list = list;
          fit = fit;
        }

  -- whichever change is due
  pub due : (change : Change) → change_of_made now_ own.d made.what ≡ Some change → due_change now_ q ≡ Some change
  due change is = due_is now_ q made own.d at.taking.unstarted (unbegun p out t blame made at) at.taking.makes own.found ∙ is

  pub take_due : (change : Change) → due_change now_ q ≡ Some change → fits now_.history change ≡ true → is_in_order now_ change ≡ true → IsTakeDue e out made.req change
  take_due change due_ fit order =
      record {
        asked = q;
        made = made;
        due = record { at = at.taking.there; open_ = at.taking.open_; due = due_; fit = fit; in_order = order };
        by = made_for p out t blame made at at_once;
        unstarted = at.taking.unstarted;
        changes = at.taking.changes;
        at_once = at_once;
        free = at.taking.free;
        taken = at.taking.taken change;
        held = at.taking.held (rows.Applied made.req change) refl;
      }

  pub may_change : (change : Change) → fits now_.history change ≡ true → MayTake now_.history change → MayChange now_ change
  may_change change fit numbers =
      record { fits = fit; numbers = numbers; room = (let few = count_few has_ended now_.requests in let low = at.passing.going.steps.current in let room = at.passing.going.room in omega (arith, few, low, room)) }

  -- the navigable is awake on it in the tables, too
  pub awake_in : (doc : DocId) → doc ≡ made.doc → IsAwakeIn t.tree own.d.nav doc
  awake_in doc same =
      record {
        node = own.node;
        there = own.there;
        wakes = awake_then own.node.nav.status doc (own.tied.status ∙ (wakes ∙ ap (λ (x : DocId). awake x) (sym same)));
      }

  pub state_listed : state_of made.doc t.tree ≡ Some own.d.state
  state_listed =
      listed_here p None out t (leaving_none p out t at.passing) made.doc own.d.state (record { document = own.d; found = own.found; its_state = refl; ready = ready; undiscarded = undiscarded })
