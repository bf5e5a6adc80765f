-- The report of what a document made is delivered, and nothing is applied yet: where it is of an earlier epoch, or shows no entry, or is held back, what is on its way for each document leads on.
use Rattle.std.proofs.Common.{◌≡◌, ℕ, Bool, true, false, cond, ◌==◌, List, [], ◌∷◌, ◌++◌, drop, Option, Some, refl, sym, ap, ◌∙◌, subst, append_assoc}
use Rattle.std.specs.Prelude.{filter, filter_map, find, fold}
use Rattle.std.specs.List.{list_any}
use Rattle.std.proofs.lemmas.List.Elements.{filter-append}
use Rattle.tab_ids.specs.declared.DocId.{DocId}
use Rattle.tab_ids.specs.declared.EntryId.{EntryId}
use Rattle.tab_ids.specs.declared.Epoch.{Epoch}
use Rattle.tab_ids.specs.declared.NavId.{NavId}
use Rattle.tab_ids.specs.declared.ProcId.{ProcId}
use Rattle.log_model.specs.declared.made.Made.{Made}
use Rattle.log_model.specs.declared.made.What.{What}
use Rattle.log_model.specs.declared.made.What.TheVariants as whats
use Rattle.log_model.specs.declared.row.Row.{Row}
use Rattle.log_model.specs.declared.row_kind.Actor.TheVariants as actors
use Rattle.log_model.specs.declared.row_kind.RowKind.TheVariants as rows
use Rattle.log_model.specs.Seen.{Seen, Document, Desk, Place, awake, document_of, desk_of, place_of, place_in}
use Rattle.log_model.specs.After.{after, desk_delivered}
use Rattle.log_model.specs.AfterDocuments.{on_document, documents_delivered}
use Rattle.log_model.specs.AfterPlaces.{places_delivered}
use Rattle.log_model.specs.AfterRequests.{made_of_report}
use Rattle.seen_facts.specs.Coord.Leading.{Face, is_made_under, held_back, pending_view, coming, face_after, is_push, Leads, EachLeads}
use Rattle.log_model.proofs.Refl.{nat_eq_refl}
use Rattle.seen_laws.proofs.Keyed.{find_has}
use Rattle.seen_laws.proofs.Desks.{desk_on_same, desk_on_other}
use Rattle.seen_facts.proofs.Coord.Leadings.{proc_same, doc_same, as_placed, IsOneChange, one_stays, LeadsIn, at_home, leads_again}
use Rattle.seen_facts.proofs.Coord.OneDocument.{leads_alike}
use Rattle.seen_facts.specs.Coord.Reaching.{Reaches, EachReaches}
use Rattle.seen_facts.proofs.Coord.Kept.{unread_stays, same_places, desk_stays_on}
use Rattle.seen_facts.proofs.Coord.Reached.{delivered_reaches}
use Rattle.seen_facts.proofs.Coord.OneTaken.{IsFirstMade, first_told, delivered_other, coming_taken, taken_pair}

-- documents that stay
pub same_documents : (doc : DocId) (documents : List Document) → on_document doc (λ d. d) documents ≡ documents
same_documents doc [] = refl
same_documents doc (d ∷ documents) = by_test (d.nr.0 == doc.0) (same_documents doc documents)
  where
    by_test : (b : Bool) → on_document doc (λ d. d) documents ≡ documents → (let x : Document = cond b d d in x) ∷ on_document doc (λ d. d) documents ≡ d ∷ documents
    by_test true same = ap (λ (l : List Document). d ∷ l) same
    by_test false same = ap (λ (l : List Document). d ∷ l) same

-- what was made shows no entry
abbrev pub ShowsNone : What → Type 0
ShowsNone (whats.AddFrame nav) = Unit {0}
ShowsNone (whats.RemoveFrame nav) = Unit {0}
ShowsNone (whats.Go delta) = Unit {0}
ShowsNone _ = ⊥

same_face : (face : Face) (made : Made) (what : What) → made.what ≡ what → ShowsNone what → face_after face made ≡ face
same_face face made (whats.AddFrame nav) is shows = ap (λ (w : What). face_after face (record made { what = w })) is
same_face face made (whats.RemoveFrame nav) is shows = ap (λ (w : What). face_after face (record made { what = w })) is
same_face face made (whats.Go delta) is shows = ap (λ (w : What). face_after face (record made { what = w })) is
same_face face made (whats.Push entry memo address) is shows = elim shows [ ]
same_face face made (whats.Replace over entry memo address) is shows = elim shows [ ]
same_face face made whats.Edit is shows = elim shows [ ]

no_push : (made : Made) (what : What) → made.what ≡ what → ShowsNone what → is_push made ≡ false
no_push made (whats.AddFrame nav) is shows = ap (λ (w : What). is_push (record made { what = w })) is
no_push made (whats.RemoveFrame nav) is shows = ap (λ (w : What). is_push (record made { what = w })) is
no_push made (whats.Go delta) is shows = ap (λ (w : What). is_push (record made { what = w })) is
no_push made (whats.Push entry memo address) is shows = elim shows [ ]
no_push made (whats.Replace over entry memo address) is shows = elim shows [ ]
no_push made whats.Edit is shows = elim shows [ ]

-- a document leads on without what shows no entry
neutral : (rows_ : List Row) (held : List Made) (desk : Desk) (d : Document) (made : Made) (given : Option EntryId) (epoch : Epoch) → IsFirstMade desk made → filter (is_made_under d.nr epoch) held ≡ [] → is_made_under d.nr epoch made ≡ true → ShowsNone made.what → Leads rows_ held desk d given epoch → Leads rows_ held (desk_delivered desk) d given epoch
neutral rows_ held desk d made given epoch first none under shows is =
    let face : face_after is.face made ≡ is.face = same_face is.face made made.what refl shows in
    record {
      face = is.face;
      is_given = is.is_given;
      is_row = is.is_row;
      view = is.view;
      pending = is.pending;
      leads = sym (ap (λ (f : Face). fold face_after f (coming held (desk_delivered desk) d.nr epoch)) face) ∙ sym (ap (λ (l : List Made). fold face_after is.face l) (coming_taken held desk made d.nr epoch first none under)) ∙ is.leads;
      runs = is.runs;
      in_epoch = is.in_epoch;
      pair = λ rest. is.pair (taken_pair held desk made d.nr epoch first none under (no_push made made.what refl shows) rest);
    }

-- what is held back waits behind what was held back before, and so in its order
held_alike : (held : List Made) (desk : Desk) (made : Made) (d : Document) (epoch : Epoch) → IsFirstMade desk made → coming (held ++ made ∷ []) (desk_delivered desk) d.nr epoch ≡ coming held desk d.nr epoch
held_alike held desk made d epoch first =
    ap (λ (l : List Made). filter (is_made_under d.nr epoch) l) (append_assoc held (made ∷ []) (filter_map made_of_report (drop 1 desk.reports)) ∙ ap (λ (l : List Made). held ++ l) (sym (first_told desk.reports made first)))

module _ (s : Seen) (event : ℕ) (proc : ProcId) (made : Made) (first : IsFirstMade (desk_of s proc) made) where
  abbrev pub after_delivery : Seen
  after_delivery = after s (record { event = event; actor = actors.Coord; row = rows.Delivered proc })

  pub documents_are : after_delivery.documents ≡ s.documents
  documents_are = ap (λ r. documents_delivered s.documents r) first

  pub places_are : after_delivery.places ≡ s.places
  places_are = ap (λ r. places_delivered s r) first

  -- whatever was made, only orders come after that leave what the document shows
  pub delivery_reaches : EachReaches s → EachReaches after_delivery
  delivery_reaches each =
      unread_stays (λ desk x given epoch. Reaches desk x epoch) s after_delivery
      (record {
        documents = documents_are;
        places = same_places s after_delivery places_are;
        stays_on = desk_stays_on (λ desk x given epoch. Reaches desk x epoch) s after_delivery proc desk_delivered refl (λ desk. refl) (λ d given epoch is. delivered_reaches (desk_of s proc) d epoch is);
      })
      each

  delivery_change : ((d : Document) → document_of s made.doc ≡ Some d → d.proc ≡ proc) → ((nav : NavId) (place : Place) (d : Document) → place_of s nav ≡ Some place → place.status ≡ awake made.doc → document_of s made.doc ≡ Some d → LeadsIn s (desk_delivered (desk_of s proc)) d place.given place.epoch) → IsOneChange (LeadsIn s) s after_delivery proc desk_delivered made.doc (λ d. d)
  delivery_change home own =
      record {
        desks = refl;
        documents = documents_are ∙ sym (same_documents made.doc s.documents);
        keeps_proc = λ desk. refl;
        keeps_number = λ x. refl;
        stays = λ x. refl;
        home = home;
        own = λ nav place d placed wakes there. own nav place d (ap (λ (places : List Place). place_in places nav) (sym places_are) ∙ placed) wakes there;
        others = λ nav place at placed wakes apart. as_placed s nav place (ap (λ (places : List Place). place_in places nav) (sym places_are) ∙ placed);
        other = λ x given epoch apart is. (let none : is_made_under x.nr epoch made ≡ false = rw apart refl in leads_alike s.history.rows (held_back s.requests s.parked) (desk_of s proc) (desk_delivered (desk_of s proc)) x x given epoch (delivered_other (held_back s.requests s.parked) (desk_of s proc) made x epoch first none) is);
      }

  delivery_leads : ((d : Document) → document_of s made.doc ≡ Some d → d.proc ≡ proc) → ((nav : NavId) (place : Place) (d : Document) → place_of s nav ≡ Some place → place.status ≡ awake made.doc → document_of s made.doc ≡ Some d → LeadsIn s (desk_delivered (desk_of s proc)) d place.given place.epoch) → held_back after_delivery.requests after_delivery.parked ≡ held_back s.requests s.parked → EachLeads s → EachLeads after_delivery
  delivery_leads home own held each =
      leads_again s after_delivery refl held (one_stays (LeadsIn s) s after_delivery proc desk_delivered made.doc (λ d. d) (delivery_change home own) each)

  -- of an earlier epoch: nothing of it was coming
  pub outdated_leads : ((d : Document) → document_of s made.doc ≡ Some d → d.proc ≡ proc) → ((nav : NavId) (place : Place) (d : Document) → place_of s nav ≡ Some place → place.status ≡ awake made.doc → document_of s made.doc ≡ Some d → is_made_under d.nr place.epoch made ≡ false) → held_back after_delivery.requests after_delivery.parked ≡ held_back s.requests s.parked → EachLeads s → EachLeads after_delivery
  outdated_leads home old held each =
      delivery_leads home (λ nav place d placed wakes there. leads_alike s.history.rows (held_back s.requests s.parked) (desk_of s proc) (desk_delivered (desk_of s proc)) d d place.given place.epoch (delivered_other (held_back s.requests s.parked) (desk_of s proc) made d place.epoch first (old nav place d placed wakes there)) (at_home s proc d place.given place.epoch (home d there) (each nav place made.doc d placed wakes there))) held each

  -- of the present one, and no entry: a frame that is added or removed, or a traversal
  pub neutral_leads : ((d : Document) → document_of s made.doc ≡ Some d → d.proc ≡ proc) → ((nav : NavId) (place : Place) (d : Document) → place_of s nav ≡ Some place → place.status ≡ awake made.doc → document_of s made.doc ≡ Some d → (is_made_under d.nr place.epoch made ≡ true) × (filter (is_made_under d.nr place.epoch) (held_back s.requests s.parked) ≡ [])) → ShowsNone made.what → held_back after_delivery.requests after_delivery.parked ≡ held_back s.requests s.parked → EachLeads s → EachLeads after_delivery
  neutral_leads home present shows held each =
      delivery_leads home (λ nav place d placed wakes there. (let is = present nav place d placed wakes there in neutral s.history.rows (held_back s.requests s.parked) (desk_of s proc) d made place.given place.epoch first is.1 is.0 shows (at_home s proc d place.given place.epoch (home d there) (each nav place made.doc d placed wakes there)))) held each

-- ---- it is held back

-- what leads does so with another desk and other held back reports, where the orders and what is coming are the same
leads_by : (rows_ : List Row) (held next_held : List Made) (desk next_desk : Desk) (d : Document) (given : Option EntryId) (epoch : Epoch) → pending_view d next_desk ≡ pending_view d desk → coming next_held next_desk d.nr epoch ≡ coming held desk d.nr epoch → Leads rows_ held desk d given epoch → Leads rows_ next_held next_desk d given epoch
leads_by rows_ held next_held desk next_desk d given epoch pending same is =
    record {
      face = is.face;
      is_given = is.is_given;
      is_row = is.is_row;
      view = is.view;
      pending = pending ∙ is.pending;
      leads = ap (λ (l : List Made). fold face_after is.face l) same ∙ is.leads;
      runs = is.runs;
      in_epoch = is.in_epoch;
      pair = λ none. is.pair (sym (ap (λ (l : List Made). list_any is_push l) same) ∙ none);
    }

-- what is held back of another document isn't coming from this one
held_elsewhere : (held : List Made) (desk : Desk) (made : Made) (doc : DocId) (epoch : Epoch) → is_made_under doc epoch made ≡ false → coming (held ++ made ∷ []) desk doc epoch ≡ coming held desk doc epoch
held_elsewhere held desk made doc epoch other =
    ap (λ (l : List Made). filter (is_made_under doc epoch) l) (append_assoc held (made ∷ []) (filter_map made_of_report desk.reports))
    ∙ filter-append (is_made_under doc epoch) held (made ∷ filter_map made_of_report desk.reports)
    ∙ rw other (sym (filter-append (is_made_under doc epoch) held (filter_map made_of_report desk.reports)))

-- a document of another process isn't that of what was made: it would be of this one
pub not_its : (s : Seen) (proc : ProcId) (made : Made) → ((d : Document) → document_of s made.doc ≡ Some d → d.proc ≡ proc) → (doc : DocId) (d : Document) → document_of s doc ≡ Some d → (proc.0 == d.proc.0) ≡ false → (made.doc.0 == d.nr.0) ≡ false
not_its s proc made home doc d there apart = by_document (made.doc.0 == d.nr.0) refl
  where
    by_document : (b : Bool) → (made.doc.0 == d.nr.0) ≡ b → b ≡ false
    by_document false e = refl
    by_document true e =
        let number : d.nr.0 ≡ doc.0 = find_has (λ (x : Document). x.nr.0) doc.0 s.documents d there in
        let same : made.doc ≡ doc = doc_same made.doc doc (rw (sym number) e) in
        let here : d.proc ≡ proc = home d (ap (λ (x : DocId). document_of s x) same ∙ there) in
        let yes : (proc.0 == d.proc.0) ≡ true = rw here (nat_eq_refl proc.0) in
        let no_ : true ≡ false = sym yes ∙ apart in absurd cc

module _ (s : Seen) (event : ℕ) (proc : ProcId) (made : Made) (first : IsFirstMade (desk_of s proc) made) (home : (d : Document) → document_of s made.doc ≡ Some d → d.proc ≡ proc) (held : held_back (after_delivery s event proc made first).requests (after_delivery s event proc made first).parked ≡ held_back s.requests s.parked ++ made ∷ []) where
  abbrev parking : Seen
  parking = after_delivery s event proc made first

  -- a document of the process, and one of another
  parked_here : (d : Document) (given : Option EntryId) (epoch : Epoch) → LeadsIn s (desk_of s proc) d given epoch → Leads s.history.rows (held_back s.requests s.parked ++ made ∷ []) (desk_delivered (desk_of s proc)) d given epoch
  parked_here d given epoch is =
      leads_by s.history.rows (held_back s.requests s.parked) (held_back s.requests s.parked ++ made ∷ []) (desk_of s proc) (desk_delivered (desk_of s proc)) d given epoch refl (held_alike (held_back s.requests s.parked) (desk_of s proc) made d epoch first) is

  parked_there : (d : Document) (given : Option EntryId) (epoch : Epoch) → (made.doc.0 == d.nr.0) ≡ false → LeadsIn s (desk_of s d.proc) d given epoch → Leads s.history.rows (held_back s.requests s.parked ++ made ∷ []) (desk_of s d.proc) d given epoch
  parked_there d given epoch apart is =
      let none : is_made_under d.nr epoch made ≡ false = rw apart refl in
      leads_by s.history.rows (held_back s.requests s.parked) (held_back s.requests s.parked ++ made ∷ []) (desk_of s d.proc) (desk_of s d.proc) d given epoch refl (held_elsewhere (held_back s.requests s.parked) (desk_of s d.proc) made d.nr epoch none) is

  pub parked_leads : EachLeads s → EachLeads parking
  parked_leads each nav place doc d placed wakes found =
      subst (λ (l : List Made). Leads s.history.rows l (desk_of parking d.proc) d place.given place.epoch) (sym held) (by_process (proc.0 == d.proc.0) refl)
    where
      was : LeadsIn s (desk_of s d.proc) d place.given place.epoch
      was =
          each nav place doc d (ap (λ (places : List Place). place_in places nav) (sym (places_are s event proc made first)) ∙ placed) wakes (ap (λ (documents : List Document). find (λ (x : Document). x.nr.0 == doc.0) documents) (sym (documents_are s event proc made first)) ∙ found)

      there : document_of s doc ≡ Some d
      there =
          ap (λ (documents : List Document). find (λ (x : Document). x.nr.0 == doc.0) documents) (sym (documents_are s event proc made first)) ∙ found

      by_process : (b : Bool) → (proc.0 == d.proc.0) ≡ b → Leads s.history.rows (held_back s.requests s.parked ++ made ∷ []) (desk_of parking d.proc) d place.given place.epoch
      by_process true e =
          let same : proc ≡ d.proc = proc_same proc d.proc e in
          let own : desk_of parking proc ≡ desk_delivered (desk_of s proc) = desk_on_same desk_delivered s.desks proc (λ desk. refl) in
          subst (λ (p : ProcId). Leads s.history.rows (held_back s.requests s.parked ++ made ∷ []) (desk_of parking p) d place.given place.epoch) same
          (subst (λ (desk : Desk). Leads s.history.rows (held_back s.requests s.parked ++ made ∷ []) desk d place.given place.epoch) (sym own)
          (parked_here d place.given place.epoch (subst (λ (p : ProcId). LeadsIn s (desk_of s p) d place.given place.epoch) (sym same) was)))
      by_process false e =
          let other : desk_of parking d.proc ≡ desk_of s d.proc = desk_on_other desk_delivered s.desks proc d.proc (λ desk. refl) e in
          subst (λ (desk : Desk). Leads s.history.rows (held_back s.requests s.parked ++ made ∷ []) desk d place.given place.epoch) (sym other) (parked_there d place.given place.epoch (not_its s proc made home doc d there e) was)
