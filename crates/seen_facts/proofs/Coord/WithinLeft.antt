-- Rows that add nothing under a later epoch keep that no document is under an epoch that its navigable hasn't come to.
use Rattle.std.proofs.Common.{◌≡◌, ℕ, ◌≤◌, ◌==◌, List, [], ◌∷◌, drop, Option, Some, None, refl, sym, ap, ◌∙◌, subst, arith}
use Rattle.std.specs.Prelude.{filter_map, find}
use Rattle.tab_ids.specs.declared.DocId.{DocId}
use Rattle.tab_ids.specs.declared.EntryId.{EntryId}
use Rattle.tab_ids.specs.declared.Epoch.{Epoch}
use Rattle.tab_ids.specs.declared.NavId.{NavId}
use Rattle.tab_ids.specs.declared.ProcId.{ProcId}
use Rattle.tab_ids.specs.declared.ReqId.{ReqId}
use Rattle.log_model.specs.declared.change.Change.{Change}
use Rattle.log_model.specs.declared.made.Made.{Made}
use Rattle.log_model.specs.declared.made.Report.{Report}
use Rattle.log_model.specs.declared.made.Report.TheVariants as reports
use Rattle.log_model.specs.declared.request.Poke.{Poke}
use Rattle.log_model.specs.History.{applied}
use Rattle.log_model.specs.Seen.{Seen, Document, Desk, Asked, Place, document_of, desk_of, place_of, place_in, request_of}
use Rattle.log_model.specs.After.{desk_delivered}
use Rattle.log_model.specs.AfterRequests.{made_of_report}
use Rattle.seen_facts.specs.Coord.Leading.{Face, orders_for, held_back, face_after}
use Rattle.seen_facts.specs.Coord.Epochs.{AllWithin, MadeWithin, IsWithin, EachDocument, EachIsWithin}
use Rattle.seen_facts.proofs.Coord.EachDocuments.{HadEpoch, IsOneOfEach, each_stays}
use Rattle.seen_facts.proofs.Coord.Within.{within_more}
use Rattle.seen_facts.proofs.Coord.Withins.{WithinIn, within_again, unmoved}
use Rattle.seen_facts.proofs.Coord.OneTaken.{IsFirstMade}
use Rattle.seen_facts.proofs.Coord.DeliveredMade as delivered
use Rattle.seen_facts.proofs.Coord.DeliveredMade.{same_documents}
use Rattle.seen_facts.proofs.Coord.Given.{WasGiven, was_given}
use Rattle.seen_facts.proofs.Coord.TakenUp as taken
use Rattle.seen_facts.proofs.Coord.TakenUp.{IsTakenNow, IsItsChange}

some_same : {A : Type 0} {a b : A} → (let o : Option A = Some a in o) ≡ Some b → a ≡ b
some_same e = cc

-- ---- a report less

less_made : (bound : ℕ) (doc : DocId) (waiting : List Report) → MadeWithin bound doc (filter_map made_of_report waiting) → MadeWithin bound doc (filter_map made_of_report (drop 1 waiting))
less_made bound doc [] all = all
less_made bound doc (reports.Made made ∷ waiting) all = all.1
less_made bound doc (reports.Done job outcome None ∷ waiting) all = all
less_made bound doc (reports.Done job outcome (Some made) ∷ waiting) all = all.1
less_made bound doc (reports.Died death ∷ waiting) all = all

-- a document and its desk, once a report is delivered, and the document told otherwise
pub delivered_within : (held : List Made) (desk : Desk) (d next : Document) (bound : ℕ) → next.nr ≡ d.nr → next.view ≡ d.view → IsWithin held desk d bound → IsWithin held (desk_delivered desk) next bound
delivered_within held desk d next bound nr view is =
    record {
      view = λ seen has. is.view seen (sym view ∙ has);
      orders = subst (λ (doc : DocId). AllWithin bound (orders_for desk doc)) (sym nr) is.orders;
      held_back = subst (λ (doc : DocId). MadeWithin bound doc held) (sym nr) is.held_back;
      reports = subst (λ (doc : DocId). MadeWithin bound doc (filter_map made_of_report (drop 1 desk.reports))) (sym nr) (less_made bound d.nr desk.reports is.reports);
    }

-- ---- what was made is delivered

module _ (s : Seen) (event : ℕ) (proc : ProcId) (made : Made) (first : IsFirstMade (desk_of s proc) made) (home : (d : Document) → document_of s made.doc ≡ Some d → d.proc ≡ proc) where
  abbrev after_delivery : Seen
  after_delivery = delivered.after_delivery s event proc made first

  delivery_change : IsOneOfEach (WithinIn s) s after_delivery proc desk_delivered made.doc (λ d. d)
  delivery_change =
      record {
        desks = refl;
        documents = delivered.documents_are s event proc made first ∙ sym (same_documents made.doc s.documents);
        keeps_proc = λ desk. refl;
        keeps_number = λ d. refl;
        stays = λ d. refl;
        stays_in = λ d. refl;
        had = λ nav place placed. unmoved s nav place (ap (λ (places : List Place). place_in places nav) (sym (delivered.places_are s event proc made first)) ∙ placed);
        grows = λ desk d m n more is. within_more (held_back s.requests s.parked) desk d m n more is;
        home = home;
        own = λ d place there placed is. delivered_within (held_back s.requests s.parked) (desk_of s proc) d d place.epoch.0 refl refl is;
        other = λ d bound apart is. delivered_within (held_back s.requests s.parked) (desk_of s proc) d d bound refl refl is;
      }

  pub delivered_stays : held_back after_delivery.requests after_delivery.parked ≡ held_back s.requests s.parked → EachIsWithin s → EachIsWithin after_delivery
  delivered_stays held each =
      within_again s after_delivery held (each_stays (WithinIn s) s after_delivery proc desk_delivered made.doc (λ d. d) delivery_change each)

-- ---- nothing that is read changes

-- a fact of each document stays, where none is changed, no navigable fell back, and it stays with each one's desk
pub each_unread : (F : Desk → Document → ℕ → Type 0) (s next : Seen) → next.documents ≡ s.documents → ((nav : NavId) (place : Place) → place_of next nav ≡ Some place → HadEpoch s nav place) → ((desk : Desk) (d : Document) (m n : ℕ) → m ≤ n → F desk d m → F desk d n) → ((d : Document) (bound : ℕ) → F (desk_of s d.proc) d bound → F (desk_of next d.proc) d bound) → EachDocument F s → EachDocument F next
each_unread F s next documents had grows stays_on each doc d place found placed =
    let there : document_of s doc ≡ Some d = ap (λ (l : List Document). find (λ (x : Document). x.nr.0 == doc.0) l) (sym documents) ∙ found in
    let was : HadEpoch s d.nav place = had d.nav place placed in
    stays_on d place.epoch.0 (grows (desk_of s d.proc) d was.before.epoch.0 place.epoch.0 was.rises (each doc d was.before there was.there))

-- the input of a process isn't looked at
pub within_blind : (held : List Made) (desk : Desk) (input : List Poke) (d : Document) (bound : ℕ) → IsWithin held desk d bound → IsWithin held (record desk { input = input }) d bound
within_blind held desk input d bound is =
    record { view = is.view; orders = is.orders; held_back = is.held_back; reports = is.reports }

-- ---- what was made is taken up

module _ (s : Seen) (event : ℕ) (proc : ProcId) (req : ReqId) (q : Asked) (made : Made) (d : Document) (own : Place) (entry : EntryId) (memo : Option (List ℕ)) (address : List ℕ) (c : Change) (g : Document → Document) (now : IsTakenNow s proc made d own) (its : IsItsChange made d.nav entry c g) (face_is : (face : Face) → face_after face made ≡ record { entry = entry; address = address; memo = memo }) (asked : request_of (taken.after_delivery s event proc req q made d own entry memo address c g now its face_is) req ≡ Some q) (makes : q.made ≡ Some made) where
  abbrev after_change : Seen
  after_change = taken.after_change s event proc req q made d own entry memo address c g now its face_is

  had_epoch : (nav : NavId) (place : Place) → place_of after_change nav ≡ Some place → HadEpoch s nav place
  had_epoch nav place placed =
      let was : WasGiven s.places d.nav nav entry place = was_given s.history (applied s.history c) req d.nav entry s.places nav place (ap (λ (places : List Place). place_in places nav) (sym (taken.places_are s event proc req q made d own entry memo address c g now its face_is asked makes)) ∙ placed) in
      record { before = was.before; there = was.there; rises = omega (arith, ap (λ (e : Epoch). e.0) was.epoch) }

  taken_change : ((x : Document) → (g x).nav ≡ x.nav) → IsOneOfEach (WithinIn s) s after_change proc desk_delivered made.doc g
  taken_change stays_in =
      record {
        desks = refl;
        documents = taken.documents_are s event proc req q made d own entry memo address c g now its face_is;
        keeps_proc = λ desk. refl;
        keeps_number = its.keeps_number;
        stays = its.stays;
        stays_in = stays_in;
        had = had_epoch;
        grows = λ desk x m n more is. within_more (held_back s.requests s.parked) desk x m n more is;
        home = λ x there. (let same : d ≡ x = some_same (sym now.there ∙ there) in ap (λ (y : Document). y.proc) (sym same) ∙ now.home);
        own = λ x place there placed is. delivered_within (held_back s.requests s.parked) (desk_of s proc) x (g x) place.epoch.0 (its.keeps_number x) (its.keeps_view x) is;
        other = λ x bound apart is. delivered_within (held_back s.requests s.parked) (desk_of s proc) x x bound refl refl is;
      }

  pub taken_stays : ((x : Document) → (g x).nav ≡ x.nav) → held_back after_change.requests after_change.parked ≡ held_back s.requests s.parked → EachIsWithin s → EachIsWithin after_change
  taken_stays stays_in held each =
      within_again s after_change held (each_stays (WithinIn s) s after_change proc desk_delivered made.doc g (taken_change stays_in) each)
