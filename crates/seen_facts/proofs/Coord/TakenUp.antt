-- What a document made is delivered and applied at once, a push or a replace: for each document what is on its way leads on, but that after a push this one is to be told its length and index anew.
use Rattle.std.proofs.Common.{◌≡◌, ◌≢◌, ◌⊎◌, inl, inr, ℕ, Bool, true, false, cond, ◌==◌, List, [], ◌∷◌, Option, Some, None, refl, sym, ap, ◌∙◌, subst, arith}
use Rattle.std.specs.Prelude.{filter, map, slice_get}
use Rattle.std.specs.List.{list_any}
use Rattle.std.proofs.lemmas.Bool.Decides.{nat_tests}
use Rattle.tab_ids.specs.declared.DocId.{DocId}
use Rattle.tab_ids.specs.declared.EntryId.{EntryId}
use Rattle.tab_ids.specs.declared.Epoch.{Epoch}
use Rattle.tab_ids.specs.declared.NavId.{NavId}
use Rattle.tab_ids.specs.declared.ProcId.{ProcId}
use Rattle.tab_ids.specs.declared.ReqId.{ReqId}
use Rattle.tab_ids.specs.declared.StateId.{StateId}
use Rattle.log_model.specs.declared.change.Change.{Change}
use Rattle.log_model.specs.declared.change.Change.TheVariants as changes
use Rattle.log_model.specs.declared.made.Made.{Made}
use Rattle.log_model.specs.declared.made.What.{What}
use Rattle.log_model.specs.declared.made.What.TheVariants as whats
use Rattle.log_model.specs.declared.row.Row.{Row}
use Rattle.log_model.specs.declared.row_kind.Actor.TheVariants as actors
use Rattle.log_model.specs.declared.row_kind.RowKind.TheVariants as rows
use Rattle.log_model.specs.History.{applied}
use Rattle.log_model.specs.Seen.{Seen, Document, Desk, Asked, Place, awake, document_of, desk_of, place_of, place_in, request_of}
use Rattle.log_model.specs.After.{after, desk_delivered}
use Rattle.log_model.specs.AfterDocuments.{on_document, with_applied, applied_to, told_after_change, documents_delivered}
use Rattle.log_model.specs.AfterPlaces.{on_place, given_entry, with_taker, places_applied, places_delivered}
use Rattle.log_model.proofs.Refl.{nat_eq_refl}
use Rattle.seen_laws.proofs.Keyed.{find_has}
use Rattle.seen_facts.specs.Coord.Leading.{Face, orders_for, is_made_under, is_push, held_back, coming, face_after, Leads, LeadsUntold, LeadsBut, EachAwake, EachLeads, EachLeadsBut, EachIsOfItsNavigable}
use Rattle.seen_facts.specs.Coord.Reaching.{AllTell, LastShows, Reaches, EachReaches}
use Rattle.seen_facts.proofs.Coord.Leadings.{WasAwake, IsOneChange, one_stays, one_settles, at_home}
use Rattle.seen_facts.proofs.Coord.OneDocument.{untold, with_pair, leads_alike}
use Rattle.seen_facts.proofs.Coord.OneTaken.{IsFirstMade, delivered_other, taken_leads_on, taken_told}
use Rattle.seen_facts.proofs.Coord.Given.{WasGiven, was_given}

-- ---- but for one document

pub but_own : (doc : DocId) (rows_ : List Row) (held : List Made) (desk : Desk) (d : Document) (given : Option EntryId) (epoch : Epoch) → (d.nr.0 == doc.0) ≡ true → LeadsUntold rows_ held desk d given epoch → LeadsBut doc rows_ held desk d given epoch
but_own doc rows_ held desk d given epoch e is = rw e is

pub but_other : (doc : DocId) (rows_ : List Row) (held : List Made) (desk : Desk) (d : Document) (given : Option EntryId) (epoch : Epoch) → (d.nr.0 == doc.0) ≡ false → Leads rows_ held desk d given epoch → LeadsBut doc rows_ held desk d given epoch
but_other doc rows_ held desk d given epoch e is = rw e is

pub other_leads : (doc : DocId) (rows_ : List Row) (held : List Made) (desk : Desk) (d : Document) (given : Option EntryId) (epoch : Epoch) → (d.nr.0 == doc.0) ≡ false → LeadsBut doc rows_ held desk d given epoch → Leads rows_ held desk d given epoch
other_leads doc rows_ held desk d given epoch e is = rw e at is

pub but_from : (doc : DocId) (rows_ : List Row) (held : List Made) (desk : Desk) (d : Document) (given : Option EntryId) (epoch : Epoch) → Leads rows_ held desk d given epoch → LeadsBut doc rows_ held desk d given epoch
but_from doc rows_ held desk d given epoch is = by_test (d.nr.0 == doc.0) refl
  where
    by_test : (b : Bool) → (d.nr.0 == doc.0) ≡ b → LeadsBut doc rows_ held desk d given epoch
    by_test true e = but_own doc rows_ held desk d given epoch e (untold rows_ held desk d given epoch is)
    by_test false e = but_other doc rows_ held desk d given epoch e is

-- ---- rows of the history that came since

-- each row was there before, or is one of the entry
abbrev pub OnlyNew : List Row → List Row → EntryId → Type 0
OnlyNew old new entry =
    (i : ℕ) (row : Row) → slice_get new i ≡ Some row → ((j : ℕ) × (slice_get old j ≡ Some row)) ⊎ (row.entry ≡ entry)

-- an entry that wasn't given leads as it did
grown : (old new : List Row) (held : List Made) (desk : Desk) (d : Document) (given : Option EntryId) (epoch : Epoch) (entry : EntryId) → OnlyNew old new entry → given ≢ Some entry → Leads old held desk d given epoch → Leads new held desk d given epoch
grown old new held desk d given epoch entry only fresh is =
    record {
      face = is.face;
      is_given = is.is_given;
      is_row = λ i row there same. by_row i row there same (only i row there);
      view = is.view;
      pending = is.pending;
      leads = is.leads;
      runs = is.runs;
      in_epoch = is.in_epoch;
      pair = is.pair;
    }
  where
    by_row : (i : ℕ) (row : Row) → slice_get new i ≡ Some row → row.entry ≡ is.face.entry → ((j : ℕ) × (slice_get old j ≡ Some row)) ⊎ (row.entry ≡ entry) → (row.address ≡ is.face.address) × (row.memo ≡ is.face.memo)
    by_row i row there same (inl before) = is.is_row before.0 row before.1 same
    by_row i row there same (inr its) =
        let gave : given ≡ Some entry = sym is.is_given ∙ ap (λ (e : EntryId). let o : Option EntryId = Some e in o) (sym same ∙ its) in
        absurd (fresh gave)

-- ---- the documents

-- a document whose push was applied: it shows a guess, and was told nothing since
abbrev pub once_pushed : EntryId → Document → Document
once_pushed entry d = record d { told = None; last_applied = entry.nr }

module _ (nav : NavId) (entry : EntryId) (state : StateId) (address : List ℕ) (memo : Option (List ℕ)) (doc : DocId) (maker : entry.maker ≡ doc.0) where
  abbrev push : Change
  push = changes.Push nav entry state address memo

  one_pushed : (x : Document) → applied_to push (told_after_change x push) ≡ cond (x.nr.0 == doc.0) (once_pushed entry x) x
  one_pushed x =
      subst (λ (n : ℕ). with_applied entry (let y : Document = cond (x.nr.0 == entry.maker) (record x { told = None }) x in y) ≡ cond (x.nr.0 == n) (once_pushed entry x) x) maker (by_test (x.nr.0 == entry.maker) refl)
    where
      by_test : (b : Bool) → (x.nr.0 == entry.maker) ≡ b → with_applied entry (let y : Document = cond b (record x { told = None }) x in y) ≡ cond b (once_pushed entry x) x
      by_test true e = rw e refl
      by_test false e = rw e refl

  all_pushed : (documents : List Document) → map (λ (x : Document). applied_to push (told_after_change x push)) documents ≡ on_document doc (once_pushed entry) documents
  all_pushed [] = refl
  all_pushed (x ∷ documents) =
      ap (λ (y : Document). y ∷ map (λ (z : Document). applied_to push (told_after_change z push)) documents) (one_pushed x)
      ∙ ap (λ (ys : List Document). (let y : Document = cond (x.nr.0 == doc.0) (once_pushed entry x) x in y) ∷ ys) (all_pushed documents)

-- ---- the block

-- what was made is the first report of its process, of a document that its navigable is awake on under this epoch, and nothing of that is held back
pub record IsTakenNow (s : Seen) (proc : ProcId) (made : Made) (d : Document) (own : Place) : Type 0 where
  pub first : IsFirstMade (desk_of s proc) made
  pub there : document_of s made.doc ≡ Some d
  pub home : d.proc ≡ proc
  pub placed : place_of s d.nav ≡ Some own
  pub wakes : own.status ≡ awake made.doc
  pub epoch : own.epoch ≡ made.epoch
  pub none : filter (is_made_under d.nr own.epoch) (held_back s.requests s.parked) ≡ []

-- the face of a push
pub push_face : (face : Face) (made : Made) (entry : EntryId) (memo : Option (List ℕ)) (address : List ℕ) → made.what ≡ whats.Push entry memo address → face_after face made ≡ record { entry = entry; address = address; memo = memo }
push_face face made entry memo address what = ap (λ (w : What). face_after face (record made { what = w })) what

some_same : {A : Type 0} {a b : A} → (let o : Option A = Some a in o) ≡ Some b → a ≡ b
some_same e = cc

pub turned : (a b : ℕ) → (a == b) ≡ false → (b == a) ≡ false
turned a b e = grind (arith, nat_tests, e)

-- which orders come doesn't go by the reports
reaches_again : (desk : Desk) (d next : Document) (epoch : Epoch) → next.nr ≡ d.nr → next.view ≡ d.view → Reaches desk d epoch → Reaches (desk_delivered desk) next epoch
reaches_again desk d next epoch nr view is =
    record {
      reached = λ seen has under. subst (λ (doc : DocId). AllTell (orders_for desk doc)) (sym nr) (is.reached seen (sym view ∙ has) under);
      last = subst (λ (doc : DocId). LastShows epoch (orders_for desk doc)) (sym nr) is.last;
    }

-- how a change of one document, which gives its navigable the entry, goes over the lists
pub record IsItsChange (made : Made) (nav : NavId) (entry : EntryId) (c : Change) (g : Document → Document) : Type 0 where
  pub keeps_number : (x : Document) → (g x).nr ≡ x.nr
  pub keeps_view : (x : Document) → (g x).view ≡ x.view
  pub stays : (x : Document) → (g x).proc ≡ x.proc
  pub documents : (documents : List Document) → map (λ (x : Document). applied_to c (told_after_change x c)) documents ≡ on_document made.doc g documents
  pub places : (t : Seen) (req : ReqId) (q : Asked) → request_of t req ≡ Some q → q.made ≡ Some made → places_applied t req c ≡ with_taker t.history (applied t.history c) req (on_place nav (given_entry entry) t.places)

module _ (s : Seen) (event : ℕ) (proc : ProcId) (req : ReqId) (q : Asked) (made : Made) (d : Document) (own : Place) (entry : EntryId) (memo : Option (List ℕ)) (address : List ℕ) (c : Change) (g : Document → Document) (now : IsTakenNow s proc made d own) (its : IsItsChange made d.nav entry c g) (face_is : (face : Face) → face_after face made ≡ record { entry = entry; address = address; memo = memo }) where
  abbrev pub after_delivery : Seen
  after_delivery = after s (record { event = event; actor = actors.Coord; row = rows.Delivered proc })

  abbrev pub after_change : Seen
  after_change =
      after after_delivery (record { event = event; actor = actors.Coord; row = rows.Applied req c })

  pub documents_are : after_change.documents ≡ on_document made.doc g s.documents
  documents_are =
      ap (λ (documents : List Document). map (λ (x : Document). applied_to c (told_after_change x c)) documents) (ap (λ r. documents_delivered s.documents r) now.first)
      ∙ its.documents s.documents

  pub places_are : request_of after_delivery req ≡ Some q → q.made ≡ Some made → after_change.places ≡ with_taker s.history (applied s.history c) req (on_place d.nav (given_entry entry) s.places)
  places_are asked makes =
      its.places after_delivery req q asked makes
      ∙ ap (λ (places : List Place). with_taker s.history (applied s.history c) req (on_place d.nav (given_entry entry) places)) (ap (λ r. places_delivered s r) now.first)

  -- its number
  number : d.nr.0 ≡ made.doc.0
  number = find_has (λ (x : Document). x.nr.0) made.doc.0 s.documents d now.there

  module _ (asked : request_of after_delivery req ≡ Some q) (makes : q.made ≡ Some made) (whose : EachIsOfItsNavigable s) (each : EachLeads s) (only : OnlyNew s.history.rows after_change.history.rows entry) (fresh : (nav : NavId) (place : Place) → place_of s nav ≡ Some place → place.given ≢ Some entry) (shows : (i : ℕ) (row : Row) → slice_get after_change.history.rows i ≡ Some row → row.entry ≡ entry → (row.address ≡ address) × (row.memo ≡ memo)) where
    -- what leads on, over the rows that there are then, and with what was held back before
    abbrev LeadsOn : Desk → Document → Option EntryId → Epoch → Type 0
    LeadsOn = LeadsBut made.doc after_change.history.rows (held_back s.requests s.parked)

    -- so it did before
    led_before : EachAwake LeadsOn s
    led_before nav place doc x placed wakes found =
        but_from made.doc after_change.history.rows (held_back s.requests s.parked) (desk_of s x.proc) x place.given place.epoch
        (grown s.history.rows after_change.history.rows (held_back s.requests s.parked) (desk_of s x.proc) x place.given place.epoch entry only (fresh nav place placed) (each nav place doc x placed wakes found))

    pub place_before : (nav : NavId) (place : Place) → place_of after_change nav ≡ Some place → WasGiven s.places d.nav nav entry place
    place_before nav place placed =
        was_given s.history (applied s.history c) req d.nav entry s.places nav place (ap (λ (places : List Place). place_in places nav) (sym (places_are asked makes)) ∙ placed)

    -- the navigable of the document
    own_place : (nav : NavId) (before : Place) → place_of s nav ≡ Some before → d.nav.0 ≡ nav.0 → own ≡ before
    own_place nav before there same =
        some_same (sym now.placed ∙ ap (λ (n : ℕ). let x : NavId = record { 0 = n } in place_of s x) same ∙ there)

    own_leads : (nav : NavId) (place : Place) (old : Document) → place_of after_change nav ≡ Some place → place.status ≡ awake made.doc → document_of s made.doc ≡ Some old → LeadsOn (desk_delivered (desk_of s proc)) (g old) place.given place.epoch
    own_leads nav place old placed wakes there =
        let was : WasGiven s.places d.nav nav entry place = place_before nav place placed in
        let same_d : d ≡ old = some_same (sym now.there ∙ there) in
        let mine_nav : d.nav.0 ≡ nav.0 = whose nav was.before made.doc d was.there (was.status ∙ wakes) now.there in
        let same : own ≡ was.before = own_place nav was.before was.there mine_nav in
        let here : (nav.0 == d.nav.0) ≡ true = rw mine_nav (nat_eq_refl nav.0) in
        let gave : Some entry ≡ place.given = sym (was.given ∙ rw here refl) in
        let epoch : own.epoch ≡ place.epoch = ap (λ (p : Place). p.epoch) same ∙ was.epoch in
        let led : Leads s.history.rows (held_back s.requests s.parked) (desk_of s proc) d own.given own.epoch = at_home s proc d own.given own.epoch now.home (each d.nav own made.doc d now.placed now.wakes now.there) in
        let under : is_made_under d.nr own.epoch made ≡ true = rw (number, nat_eq_refl made.doc.0, ap (λ (e : Epoch). e.0) now.epoch) (nat_eq_refl made.epoch.0) in
        let face : face_after led.face made ≡ record { entry = entry; address = address; memo = memo } = face_is led.face in
        let leads_on : LeadsUntold after_change.history.rows (held_back s.requests s.parked) (desk_delivered (desk_of s proc)) (g d) (Some entry) own.epoch = taken_leads_on s.history.rows after_change.history.rows (held_back s.requests s.parked) (desk_of s proc) d (g d) made own.given (Some entry) own.epoch now.first now.none under (its.keeps_number d) (its.keeps_view d) led (ap (λ (f : Face). Some f.entry) face) (λ i row at same_entry. (let shown = shows i row at (same_entry ∙ ap (λ (f : Face). f.entry) face) in (shown.0 ∙ sym (ap (λ (f : Face). f.address) face), shown.1 ∙ sym (ap (λ (f : Face). f.memo) face)))) in
        let mine : ((g d).nr.0 == made.doc.0) ≡ true = rw (its.keeps_number d, number) (nat_eq_refl made.doc.0) in
        subst (λ (x : Document). LeadsOn (desk_delivered (desk_of s proc)) (g x) place.given place.epoch) same_d
        (but_own made.doc after_change.history.rows (held_back s.requests s.parked) (desk_delivered (desk_of s proc)) (g d) place.given place.epoch mine
        (subst (λ (o : Option EntryId). LeadsUntold after_change.history.rows (held_back s.requests s.parked) (desk_delivered (desk_of s proc)) (g d) o place.epoch) gave
        (subst (λ (e : Epoch). LeadsUntold after_change.history.rows (held_back s.requests s.parked) (desk_delivered (desk_of s proc)) (g d) (Some entry) e) epoch leads_on)))

    others_stood : (nav : NavId) (place : Place) (at : DocId) → place_of after_change nav ≡ Some place → place.status ≡ awake at → (made.doc.0 == at.0) ≡ false → WasAwake s nav place
    others_stood nav place at placed wakes apart = by_nav (nav.0 == d.nav.0) refl
      where
        was : WasGiven s.places d.nav nav entry place
        was = place_before nav place placed

        awake_same : (a b : DocId) → awake a ≡ awake b → a ≡ b
        awake_same a b e = cc

        by_nav : (b : Bool) → (nav.0 == d.nav.0) ≡ b → WasAwake s nav place
        by_nav true e =
            let mine_nav : d.nav.0 ≡ nav.0 = grind (arith, nat_tests, e) in
            let same : own ≡ was.before = own_place nav was.before was.there mine_nav in
            let docs : made.doc ≡ at = awake_same made.doc at (sym now.wakes ∙ ap (λ (p : Place). p.status) same ∙ was.status ∙ wakes) in
            let yes : (made.doc.0 == at.0) ≡ true = rw docs (nat_eq_refl at.0) in
            let no_ : true ≡ false = sym yes ∙ apart in absurd cc
        by_nav false e =
            record {
              before = was.before;
              there = was.there;
              status = was.status;
              given = sym (was.given ∙ rw e refl);
              epoch = was.epoch;
            }

    change_is : IsOneChange LeadsOn s after_change proc desk_delivered made.doc g
    change_is =
        record {
          desks = refl;
          documents = documents_are;
          keeps_proc = λ desk. refl;
          keeps_number = its.keeps_number;
          stays = its.stays;
          home = λ x there. (let same : d ≡ x = some_same (sym now.there ∙ there) in ap (λ (y : Document). y.proc) (sym same) ∙ now.home);
          own = own_leads;
          others = others_stood;
          other = λ x given epoch apart is. (let test : (x.nr.0 == made.doc.0) ≡ false = turned made.doc.0 x.nr.0 apart in let none : is_made_under x.nr epoch made ≡ false = rw apart refl in but_other made.doc after_change.history.rows (held_back s.requests s.parked) (desk_delivered (desk_of s proc)) x given epoch test (leads_alike after_change.history.rows (held_back s.requests s.parked) (desk_of s proc) (desk_delivered (desk_of s proc)) x x given epoch (delivered_other (held_back s.requests s.parked) (desk_of s proc) made x epoch now.first none) (other_leads made.doc after_change.history.rows (held_back s.requests s.parked) (desk_of s proc) x given epoch test is)));
        }

    -- where the request isn't one that is held back
    pub change_leads : held_back after_change.requests after_change.parked ≡ held_back s.requests s.parked → EachLeadsBut made.doc after_change
    change_leads held nav place at x placed wakes found =
        subst (λ (l : List Made). LeadsBut made.doc after_change.history.rows l (desk_of after_change x.proc) x place.given place.epoch) (sym held)
        (one_stays LeadsOn s after_change proc desk_delivered made.doc g change_is led_before nav place at x placed wakes found)

    -- where it was no push, and the document was told nothing new, it leads for each in full
    pub change_leads_on : is_push made ≡ false → (g d).told ≡ d.told → held_back after_change.requests after_change.parked ≡ held_back s.requests s.parked → EachLeads after_change
    change_leads_on no_push told held =
        leads_again_at (one_settles LeadsAt s after_change proc desk_delivered made.doc g whole_change others_led)
      where
        LeadsAt : Desk → Document → Option EntryId → Epoch → Type 0
        LeadsAt desk x given epoch =
            Leads after_change.history.rows (held_back s.requests s.parked) desk x given epoch

        own_led : Leads s.history.rows (held_back s.requests s.parked) (desk_of s proc) d own.given own.epoch
        own_led =
            at_home s proc d own.given own.epoch now.home (each d.nav own made.doc d now.placed now.wakes now.there)

        under : is_made_under d.nr own.epoch made ≡ true
        under =
            rw (number, nat_eq_refl made.doc.0, ap (λ (e : Epoch). e.0) now.epoch) (nat_eq_refl made.epoch.0)

        mine : ((g d).nr.0 == made.doc.0) ≡ true
        mine = rw (its.keeps_number d, number) (nat_eq_refl made.doc.0)

        own_whole : (nav : NavId) (place : Place) (old : Document) → place_of after_change nav ≡ Some place → place.status ≡ awake made.doc → document_of s made.doc ≡ Some old → Leads after_change.history.rows (held_back s.requests s.parked) (desk_delivered (desk_of s proc)) (g old) place.given place.epoch
        own_whole nav place old placed wakes there =
            let was : WasGiven s.places d.nav nav entry place = place_before nav place placed in
            let same_d : d ≡ old = some_same (sym now.there ∙ there) in
            let same : own ≡ was.before = own_place nav was.before was.there (whose nav was.before made.doc d was.there (was.status ∙ wakes) now.there) in
            let epoch : own.epoch ≡ place.epoch = ap (λ (p : Place). p.epoch) same ∙ was.epoch in
            let but : LeadsBut made.doc after_change.history.rows (held_back s.requests s.parked) (desk_delivered (desk_of s proc)) (g d) place.given place.epoch = own_leads nav place d placed wakes now.there in
            let open_ : LeadsUntold after_change.history.rows (held_back s.requests s.parked) (desk_delivered (desk_of s proc)) (g d) place.given place.epoch = rw mine at but in
            let pair = taken_told s.history.rows (held_back s.requests s.parked) (desk_of s proc) d (g d) made own.given own.epoch now.first now.none under (its.keeps_number d) (its.keeps_view d) told no_push own_led in
            subst (λ (x : Document). Leads after_change.history.rows (held_back s.requests s.parked) (desk_delivered (desk_of s proc)) (g x) place.given place.epoch) same_d
            (with_pair after_change.history.rows (held_back s.requests s.parked) (desk_delivered (desk_of s proc)) (g d) place.given place.epoch open_ (λ view pending rest. pair view pending (subst (λ (e : Epoch). list_any is_push (coming (held_back s.requests s.parked) (desk_delivered (desk_of s proc)) (g d).nr e) ≡ false) (sym epoch) rest)))

        whole_change : IsOneChange LeadsAt s after_change proc desk_delivered made.doc g
        whole_change =
            record {
              desks = refl;
              documents = documents_are;
              keeps_proc = λ desk. refl;
              keeps_number = its.keeps_number;
              stays = its.stays;
              home = change_is.home;
              own = own_whole;
              others = others_stood;
              other = λ x given epoch apart is. (let none : is_made_under x.nr epoch made ≡ false = rw apart refl in leads_alike after_change.history.rows (held_back s.requests s.parked) (desk_of s proc) (desk_delivered (desk_of s proc)) x x given epoch (delivered_other (held_back s.requests s.parked) (desk_of s proc) made x epoch now.first none) is);
            }

        others_led : (nav : NavId) (place : Place) (at : DocId) (x : Document) → place_of s nav ≡ Some place → place.status ≡ awake at → document_of s at ≡ Some x → (made.doc.0 == at.0) ≡ false → LeadsAt (desk_of s x.proc) x place.given place.epoch
        others_led nav place at x placed wakes found apart =
            grown s.history.rows after_change.history.rows (held_back s.requests s.parked) (desk_of s x.proc) x place.given place.epoch entry only (fresh nav place placed) (each nav place at x placed wakes found)

        leads_again_at : EachAwake LeadsAt after_change → EachLeads after_change
        leads_again_at led nav place at x placed wakes found =
            subst (λ (l : List Made). Leads after_change.history.rows l (desk_of after_change x.proc) x place.given place.epoch) (sym held) (led nav place at x placed wakes found)

    -- the orders that come are as they were
    pub change_reaches : EachReaches s → EachReaches after_change
    change_reaches reaches =
        one_stays (λ desk x given epoch. Reaches desk x epoch) s after_change proc desk_delivered made.doc g
        (record {
          desks = refl;
          documents = documents_are;
          keeps_proc = λ desk. refl;
          keeps_number = its.keeps_number;
          stays = its.stays;
          home = change_is.home;
          own = own_reaches;
          others = others_stood;
          other = λ x given epoch apart is. record { reached = is.reached; last = is.last };
        })
        reaches
      where
        own_reaches : (nav : NavId) (place : Place) (old : Document) → place_of after_change nav ≡ Some place → place.status ≡ awake made.doc → document_of s made.doc ≡ Some old → Reaches (desk_delivered (desk_of s proc)) (g old) place.epoch
        own_reaches nav place old placed wakes there =
            let was : WasGiven s.places d.nav nav entry place = place_before nav place placed in
            let same_d : d ≡ old = some_same (sym now.there ∙ there) in
            let home : old.proc ≡ proc = ap (λ (y : Document). y.proc) (sym same_d) ∙ now.home in
            let before : Reaches (desk_of s old.proc) old was.before.epoch = reaches nav was.before made.doc old was.there (was.status ∙ wakes) there in
            let here : Reaches (desk_of s proc) old place.epoch = subst (λ (p : ProcId). Reaches (desk_of s p) old place.epoch) home (subst (λ (e : Epoch). Reaches (desk_of s old.proc) old e) was.epoch before) in
            reaches_again (desk_of s proc) old (g old) place.epoch (its.keeps_number old) (its.keeps_view old) here

-- ---- a replace

-- a document whose replace was applied
abbrev pub once_replaced : EntryId → Document → Document
once_replaced entry d = record d { last_applied = entry.nr }

module _ (nav : NavId) (over entry : EntryId) (state : StateId) (address : List ℕ) (memo : Option (List ℕ)) (doc : DocId) (maker : entry.maker ≡ doc.0) where
  abbrev replace : Change
  replace = changes.Replace nav over entry state address memo

  one_replaced : (x : Document) → applied_to replace (told_after_change x replace) ≡ cond (x.nr.0 == doc.0) (once_replaced entry x) x
  one_replaced x =
      subst (λ (n : ℕ). with_applied entry x ≡ cond (x.nr.0 == n) (once_replaced entry x) x) maker refl

  all_replaced : (documents : List Document) → map (λ (x : Document). applied_to replace (told_after_change x replace)) documents ≡ on_document doc (once_replaced entry) documents
  all_replaced [] = refl
  all_replaced (x ∷ documents) =
      ap (λ (y : Document). y ∷ map (λ (z : Document). applied_to replace (told_after_change z replace)) documents) (one_replaced x)
      ∙ ap (λ (ys : List Document). (let y : Document = cond (x.nr.0 == doc.0) (once_replaced entry x) x in y) ∷ ys) (all_replaced documents)

replace_places : (t : Seen) (req : ReqId) (q : Asked) (made : Made) (nav : NavId) (over entry : EntryId) (state : StateId) (address : List ℕ) (memo : Option (List ℕ)) → request_of t req ≡ Some q → q.made ≡ Some made → places_applied t req (changes.Replace nav over entry state address memo) ≡ with_taker t.history (applied t.history (changes.Replace nav over entry state address memo)) req (on_place nav (given_entry entry) t.places)
replace_places t req q made nav over entry state address memo asked makes = rw (asked, makes) refl

pub replace_is : (made : Made) (nav : NavId) (over entry : EntryId) (state : StateId) (address : List ℕ) (memo : Option (List ℕ)) → entry.maker ≡ made.doc.0 → IsItsChange made nav entry (changes.Replace nav over entry state address memo) (once_replaced entry)
replace_is made nav over entry state address memo maker =
    record {
      keeps_number = λ x. refl;
      keeps_view = λ x. refl;
      stays = λ x. refl;
      documents = all_replaced nav over entry state address memo made.doc maker;
      places = λ t req q asked makes. replace_places t req q made nav over entry state address memo asked makes;
    }

pub replace_face : (face : Face) (made : Made) (over entry : EntryId) (memo : Option (List ℕ)) (address : List ℕ) → made.what ≡ whats.Replace over entry memo address → face_after face made ≡ record { entry = entry; address = address; memo = memo }
replace_face face made over entry memo address what =
    ap (λ (w : What). face_after face (record made { what = w })) what

-- ---- a push

push_places : (t : Seen) (req : ReqId) (q : Asked) (made : Made) (nav : NavId) (entry : EntryId) (state : StateId) (address : List ℕ) (memo : Option (List ℕ)) → request_of t req ≡ Some q → q.made ≡ Some made → places_applied t req (changes.Push nav entry state address memo) ≡ with_taker t.history (applied t.history (changes.Push nav entry state address memo)) req (on_place nav (given_entry entry) t.places)
push_places t req q made nav entry state address memo asked makes = rw (asked, makes) refl

pub push_is : (made : Made) (nav : NavId) (entry : EntryId) (state : StateId) (address : List ℕ) (memo : Option (List ℕ)) → entry.maker ≡ made.doc.0 → IsItsChange made nav entry (changes.Push nav entry state address memo) (once_pushed entry)
push_is made nav entry state address memo maker =
    record {
      keeps_number = λ x. refl;
      keeps_view = λ x. refl;
      stays = λ x. refl;
      documents = all_pushed nav entry state address memo made.doc maker;
      places = λ t req q asked makes. push_places t req q made nav entry state address memo asked makes;
    }
