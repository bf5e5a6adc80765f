-- A live order is taken up, a document makes something, a report is delivered, a traversal ends: no document is then under an epoch that its navigable hasn't come to.
use Rattle.std.proofs.Common.{◌≡◌, ℕ, ◌≤◌, Bool, true, false, ◌==◌, List, [], ◌∷◌, ◌++◌, drop, Option, Some, None, refl, sym, ap, ◌∙◌, subst, arith, append-nil}
use Rattle.std.specs.Prelude.{filter_map, find, slice_get, option_map}
use Rattle.tab_ids.specs.declared.DocId.{DocId}
use Rattle.tab_ids.specs.declared.Epoch.{Epoch}
use Rattle.tab_ids.specs.declared.NavId.{NavId}
use Rattle.tab_ids.specs.declared.ProcId.{ProcId}
use Rattle.tab_ids.specs.declared.ReqId.{ReqId}
use Rattle.tab_ids.specs.declared.Step.{Step}
use Rattle.log_model.specs.declared.job.Job.{Job}
use Rattle.log_model.specs.declared.made.Made.{Made}
use Rattle.log_model.specs.declared.made.What.{What}
use Rattle.log_model.specs.declared.made.What.TheVariants as whats
use Rattle.log_model.specs.declared.outcome.Outcome.{Outcome}
use Rattle.log_model.specs.declared.request.Poke.{Poke}
use Rattle.log_model.specs.declared.row_kind.Actor.{Actor}
use Rattle.log_model.specs.declared.row_kind.Actor.TheVariants as actors
use Rattle.log_model.specs.declared.row_kind.RowKind.TheVariants as rows
use Rattle.log_model.specs.Views.{View, after_made, made_for}
use Rattle.log_model.specs.Seen.{Seen, Document, Desk, Asked, Place, document_of, desk_of, place_of, place_in}
use Rattle.log_model.specs.After.{after, on_desk, desks_made, desk_made, desk_taken, desk_delivered}
use Rattle.log_model.specs.AfterRequests.{made_of_report}
use Rattle.log_model.proofs.Refl.{nat_eq_refl}
use Rattle.seen_laws.specs.Acting.{IsToAct}
use Rattle.seen_facts.specs.Coord.Leading.{orders_for, held_back}
use Rattle.seen_facts.specs.Coord.Reaching.{EachReaches}
use Rattle.seen_facts.specs.Coord.Epochs.{AllWithin, MadeWithin, IsWithin, EachIsWithin}
use Rattle.seen_laws.proofs.Desks.{desk_on_same, desk_on_other}
use Rattle.seen_facts.proofs.Coord.Leadings.{WasAwake, proc_same}
use Rattle.seen_facts.proofs.Coord.OneTaken.{IsFirstMade, first_told}
use Rattle.seen_facts.proofs.Coord.DeliveredMade as delivered
use Rattle.seen_facts.proofs.Coord.DeliveredMade.{not_its}
use Rattle.seen_facts.proofs.Coord.Kept.{IsPlainOutcome, desk_stays_on}
use Rattle.seen_facts.proofs.Coord.Makes as makes
use Rattle.seen_facts.proofs.Coord.OneMade.{once_made, told_of, told_so}
use Rattle.seen_facts.proofs.Coord.Arrived as arrived
use Rattle.seen_facts.proofs.Coord.Arrived.{IsFirstReport}
use Rattle.seen_facts.proofs.Coord.Traversed as traversed
use Rattle.seen_facts.proofs.Coord.EachDocuments.{HadEpoch, IsOneOfEach, each_stays}
use Rattle.seen_facts.proofs.Coord.Within.{within_more, taken_within}
use Rattle.seen_facts.proofs.Coord.Withins.{WithinIn, within_again, unmoved}
use Rattle.seen_facts.proofs.Coord.WithinLeft.{delivered_within, each_unread}

some_same : {A : Type 0} {a b : A} → (let o : Option A = Some a in o) ≡ Some b → a ≡ b
some_same e = cc

-- a navigable that stood so before had come as far
pub as_far : (s : Seen) (nav : NavId) (place : Place) → WasAwake s nav place → HadEpoch s nav place
as_far s nav place was =
    record { before = was.before; there = was.there; rises = subst (λ (k : Epoch). was.before.epoch.0 ≤ k.0) was.epoch (omega arith) }

-- ---- one desk changes

-- no document is changed, no navigable fell back, and what is held back is as it was
module _ (s next : Seen) (proc : ProcId) (f : Desk → Desk) (documents : next.documents ≡ s.documents) (had : (nav : NavId) (place : Place) → place_of next nav ≡ Some place → HadEpoch s nav place) (held : held_back next.requests next.parked ≡ held_back s.requests s.parked) where
  pub desk_within : next.desks ≡ on_desk proc f s.desks → ((desk : Desk) → (f desk).proc ≡ desk.proc) → ((d : Document) (bound : ℕ) → WithinIn s (desk_of s proc) d bound → WithinIn s (f (desk_of s proc)) d bound) → EachIsWithin s → EachIsWithin next
  desk_within desks keeps on each =
      within_again s next held
      (each_unread (WithinIn s) s next documents had (λ desk d m n more is. within_more (held_back s.requests s.parked) desk d m n more is) (λ d bound is. desk_stays_on (λ desk x given epoch. WithinIn s desk x bound) s next proc f desks keeps (λ x given epoch was. on x bound was) d None (record { 0 = 0 }) is) each)

-- a live order is taken up
module _ (s : Seen) (event : ℕ) (proc : ProcId) (job : Job) (dirty : Bool) (free : (desk_of s proc).in_hand ≡ None) (first : slice_get (desk_of s proc).mail 0 ≡ Some job) where
  abbrev after_taking : Seen
  after_taking =
      after s (record { event = event; actor = actors.Proc proc; row = rows.Taken proc job.nr true dirty })

  pub taken_stays : EachIsWithin s → EachIsWithin after_taking
  taken_stays each =
      desk_within s after_taking proc (desk_taken true dirty) refl (λ nav place placed. unmoved s nav place placed) refl refl (λ desk. refl) (λ d bound is. taken_within (held_back s.requests s.parked) (desk_of s proc) job dirty d bound free first is) each

-- the report of an order that made nothing is delivered
module _ (s : Seen) (event : ℕ) (proc : ProcId) (job : Job) (outcome : Outcome) (first : IsFirstReport (desk_of s proc) job outcome) (plain : IsPlainOutcome outcome) where
  abbrev after_report : Seen
  after_report = after s (record { event = event; actor = actors.Coord; row = rows.Delivered proc })

  pub report_stays : EachIsWithin s → EachIsWithin after_report
  report_stays each =
      desk_within s after_report proc desk_delivered (arrived.documents_as s event proc job outcome first plain) (λ nav place placed. as_far s nav place (arrived.places_before s event proc job outcome first plain nav place placed)) (arrived.held_as s event proc job outcome first plain) refl (λ desk. refl) (λ d bound is. delivered_within (held_back s.requests s.parked) (desk_of s proc) d d bound refl refl is) each

-- ---- a document makes something

made_after : (bound : ℕ) (doc : DocId) (mades : List Made) (made : Made) → MadeWithin bound doc mades → (made.doc.0 ≡ doc.0 → made.epoch.0 ≤ bound) → MadeWithin bound doc (mades ++ made ∷ [])
made_after bound doc [] made all low = (low, tt)
made_after bound doc (first ∷ mades) made all low = (all.0, made_after bound doc mades made all.1 low)

-- so are those of which a report tells
told_after : (bound : ℕ) (doc : DocId) (mades : List Made) (made : Made) (what : What) → MadeWithin bound doc mades → (made.doc.0 ≡ doc.0 → made.epoch.0 ≤ bound) → MadeWithin bound doc (mades ++ told_of made what)
told_after bound doc mades made (whats.Push entry memo address) all low = made_after bound doc mades made all low
told_after bound doc mades made (whats.Replace over entry memo address) all low =
    made_after bound doc mades made all low
told_after bound doc mades made (whats.AddFrame nav) all low = made_after bound doc mades made all low
told_after bound doc mades made (whats.RemoveFrame nav) all low = made_after bound doc mades made all low
told_after bound doc mades made (whats.Go delta) all low = made_after bound doc mades made all low
told_after bound doc mades made whats.Edit all low =
    subst (λ (l : List Made). MadeWithin bound doc l) (sym (append-nil mades)) all

-- it was made under an epoch up to the bound, if by this document; and the document's view keeps its epoch
making_within : (held : List Made) (desk : Desk) (made : Made) (d next : Document) (bound : ℕ) → (made.doc.0 ≡ d.nr.0 → made.epoch.0 ≤ bound) → next.nr ≡ d.nr → ((seen : View) → next.view ≡ Some seen → seen.epoch.0 ≤ bound) → IsWithin held desk d bound → IsWithin held (desk_made made desk) next bound
making_within held desk made d next bound low nr view was =
    record {
      view = view;
      orders = subst (λ (doc : DocId). AllWithin bound (orders_for desk doc)) (sym nr) was.orders;
      held_back = subst (λ (doc : DocId). MadeWithin bound doc held) (sym nr) was.held_back;
      reports = subst (λ (doc : DocId). MadeWithin bound doc (filter_map made_of_report (desk_made made desk).reports)) (sym nr) (subst (λ (l : List Made). MadeWithin bound d.nr l) (sym (told_so desk.reports made made.what)) (told_after bound d.nr (filter_map made_of_report desk.reports) made made.what was.reports low));
    }

made_keeps_epoch : (view : View) (what : What) → (after_made view what).epoch ≡ view.epoch
made_keeps_epoch view (whats.Push entry memo address) = refl
made_keeps_epoch view (whats.Replace over entry memo address) = refl
made_keeps_epoch view (whats.AddFrame nav) = refl
made_keeps_epoch view (whats.RemoveFrame nav) = refl
made_keeps_epoch view (whats.Go delta) = refl
made_keeps_epoch view whats.Edit = refl

module _ (s : Seen) (proc : ProcId) (poke : Poke) (q : Asked) (of : NavId) (d : Document) (view : View) (what : What) (acts : IsToAct s proc poke q of d view) (reaches : EachReaches s) where
  abbrev after_making : Seen
  after_making =
      after s (record { event = s.events; actor = actors.Proc proc; row = rows.Made proc (made_for view poke.req what) })

  its : (x : Document) → document_of s view.doc ≡ Some x → d ≡ x
  its x there = some_same (sym acts.there ∙ there)

  -- the view that acts is within the bound, and keeps its epoch
  low : (x : Document) (bound : ℕ) → document_of s view.doc ≡ Some x → IsWithin (held_back s.requests s.parked) (desk_of s proc) x bound → view.epoch.0 ≤ bound
  low x bound there was = was.view view (ap (λ (y : Document). y.view) (sym (its x there)) ∙ acts.has)

  seen_low : (x : Document) (bound : ℕ) → document_of s view.doc ≡ Some x → IsWithin (held_back s.requests s.parked) (desk_of s proc) x bound → (seen : View) → (once_made what x).view ≡ Some seen → seen.epoch.0 ≤ bound
  seen_low x bound there was seen has =
      let shows : Some (after_made view what) ≡ Some seen = sym (ap (λ (o : Option View). option_map (λ (v : View). after_made v what) o) (ap (λ (y : Document). y.view) (sym (its x there)) ∙ acts.has)) ∙ has in
      let same : after_made view what ≡ seen = some_same shows in
      subst (λ (k : Epoch). k.0 ≤ bound) (sym (made_keeps_epoch view what) ∙ ap (λ (v : View). v.epoch) same) (low x bound there was)

  made_change : IsOneOfEach (WithinIn s) s after_making proc (desk_made (made_for view poke.req what)) view.doc (once_made what)
  made_change =
      record {
        desks = ap (λ (b : Bool). on_desk proc (desks_made b (made_for view poke.req what)) s.desks) (makes.unfollowed s proc poke q of d view what acts reaches);
        documents = refl;
        keeps_proc = λ desk. refl;
        keeps_number = λ x. refl;
        stays = λ x. refl;
        stays_in = λ x. refl;
        had = λ nav place placed. unmoved s nav place placed;
        grows = λ desk x m n more was. within_more (held_back s.requests s.parked) desk x m n more was;
        home = λ x there. ap (λ (y : Document). y.proc) (sym (its x there)) ∙ acts.home;
        own = λ x place there placed was. making_within (held_back s.requests s.parked) (desk_of s proc) (made_for view poke.req what) x (once_made what x) place.epoch.0 (λ mine. low x place.epoch.0 there was) refl (seen_low x place.epoch.0 there was) was;
        other = λ x bound apart was. making_within (held_back s.requests s.parked) (desk_of s proc) (made_for view poke.req what) x x bound (λ mine. (let yes : (view.doc.0 == x.nr.0) ≡ true = rw mine (nat_eq_refl x.nr.0) in let no_ : true ≡ false = sym yes ∙ apart in absurd cc)) refl was.view was;
      }

  -- where the request isn't one that is held back
  pub making_stays : held_back after_making.requests s.parked ≡ held_back s.requests s.parked → EachIsWithin s → EachIsWithin after_making
  making_stays held each =
      within_again s after_making held (each_stays (WithinIn s) s after_making proc (desk_made (made_for view poke.req what)) view.doc (once_made what) made_change each)

-- ---- a traversal ends

module _ (s : Seen) (event : ℕ) (actor : Actor) (req : ReqId) (goal : Step) where
  -- no report is held back then
  pub traversed_stays : s.parked ≡ [] → EachIsWithin s → EachIsWithin (traversed.after_traverse s event actor req goal)
  traversed_stays none each =
      within_again s (traversed.after_traverse s event actor req goal) (traversed.held_none s event actor req goal none)
      (each_unread (WithinIn s) s (traversed.after_traverse s event actor req goal) (traversed.documents_as s event actor req goal) (λ nav place placed. as_far s nav place (traversed.stood s event actor req goal nav place placed)) (λ desk d m n more is. within_more (held_back s.requests s.parked) desk d m n more is) (λ d bound is. is) each)

-- ---- what was made is delivered and held back

-- of a document of the process: it was within as a report
parked_within : (held : List Made) (desk : Desk) (made : Made) (d : Document) (bound : ℕ) → IsFirstMade desk made → IsWithin held desk d bound → IsWithin (held ++ made ∷ []) (desk_delivered desk) d bound
parked_within held desk made d bound first is =
    record {
      view = is.view;
      orders = is.orders;
      held_back = made_after bound d.nr held made is.held_back reported_within.0;
      reports = reported_within.1;
    }
  where
    reported_within : MadeWithin bound d.nr (made ∷ filter_map made_of_report (drop 1 desk.reports))
    reported_within = subst (λ (l : List Made). MadeWithin bound d.nr l) (first_told desk.reports made first) is.reports

-- of a document of another process
parked_apart : (held : List Made) (desk : Desk) (made : Made) (d : Document) (bound : ℕ) → (made.doc.0 == d.nr.0) ≡ false → IsWithin held desk d bound → IsWithin (held ++ made ∷ []) desk d bound
parked_apart held desk made d bound apart is =
    record {
      view = is.view;
      orders = is.orders;
      held_back = made_after bound d.nr held made is.held_back (λ mine. (let yes : (made.doc.0 == d.nr.0) ≡ true = rw mine (nat_eq_refl d.nr.0) in let no_ : true ≡ false = sym yes ∙ apart in absurd cc));
      reports = is.reports;
    }

module _ (s : Seen) (event : ℕ) (proc : ProcId) (made : Made) (first : IsFirstMade (desk_of s proc) made) (home : (d : Document) → document_of s made.doc ≡ Some d → d.proc ≡ proc) (held : held_back (delivered.after_delivery s event proc made first).requests (delivered.after_delivery s event proc made first).parked ≡ held_back s.requests s.parked ++ made ∷ []) where
  abbrev parking : Seen
  parking = delivered.after_delivery s event proc made first

  pub parked_stays : EachIsWithin s → EachIsWithin parking
  parked_stays each doc d place found placed =
      subst (λ (l : List Made). IsWithin l (desk_of parking d.proc) d place.epoch.0) (sym held) (by_process (proc.0 == d.proc.0) refl)
    where
      there : document_of s doc ≡ Some d
      there =
          ap (λ (documents : List Document). find (λ (x : Document). x.nr.0 == doc.0) documents) (sym (delivered.documents_are s event proc made first)) ∙ found

      was : WithinIn s (desk_of s d.proc) d place.epoch.0
      was =
          each doc d place there (ap (λ (places : List Place). place_in places d.nav) (sym (delivered.places_are s event proc made first)) ∙ placed)

      by_process : (b : Bool) → (proc.0 == d.proc.0) ≡ b → IsWithin (held_back s.requests s.parked ++ made ∷ []) (desk_of parking d.proc) d place.epoch.0
      by_process true e =
          let same : proc ≡ d.proc = proc_same proc d.proc e in
          let own : desk_of parking proc ≡ desk_delivered (desk_of s proc) = desk_on_same desk_delivered s.desks proc (λ desk. refl) in
          subst (λ (p : ProcId). IsWithin (held_back s.requests s.parked ++ made ∷ []) (desk_of parking p) d place.epoch.0) same
          (subst (λ (desk : Desk). IsWithin (held_back s.requests s.parked ++ made ∷ []) desk d place.epoch.0) (sym own)
          (parked_within (held_back s.requests s.parked) (desk_of s proc) made d place.epoch.0 first (subst (λ (p : ProcId). WithinIn s (desk_of s p) d place.epoch.0) (sym same) was)))
      by_process false e =
          let other : desk_of parking d.proc ≡ desk_of s d.proc = desk_on_other desk_delivered s.desks proc d.proc (λ desk. refl) e in
          subst (λ (desk : Desk). IsWithin (held_back s.requests s.parked ++ made ∷ []) desk d place.epoch.0) (sym other)
          (parked_apart (held_back s.requests s.parked) (desk_of s d.proc) made d place.epoch.0 (not_its s proc made home doc d there e) was)
