-- The report of what a document made is delivered and goes to hand: it comes behind what is held back, and what is on its way leads on as before.
use Rattle.std.proofs.Common.{◌≡◌, ℕ, Bool, true, false, ◌==◌, List, [], ◌∷◌, ◌++◌, drop, Option, Some, refl, sym, ap, ◌∙◌, subst, append_assoc, append-nil}
use Rattle.std.specs.Prelude.{filter, filter_map, find, fold}
use Rattle.std.specs.List.{list_any}
use Rattle.std.proofs.lemmas.List.Elements.{filter-append}
use Rattle.tab_ids.specs.declared.DocId.{DocId}
use Rattle.tab_ids.specs.declared.EntryId.{EntryId}
use Rattle.tab_ids.specs.declared.Epoch.{Epoch}
use Rattle.tab_ids.specs.declared.ProcId.{ProcId}
use Rattle.log_model.specs.declared.job.Job.{Job}
use Rattle.log_model.specs.declared.made.Made.{Made}
use Rattle.log_model.specs.declared.row.Row.{Row}
use Rattle.log_model.specs.After.{desk_delivered}
use Rattle.log_model.specs.AfterRequests.{made_of_report}
use Rattle.log_model.specs.Seen.{Seen, Document, Desk, document_of, desk_of}
use Rattle.log_model.proofs.Refl.{nat_eq_refl}
use Rattle.seen_laws.proofs.Desks.{desk_on_same, desk_on_other}
use Rattle.seen_facts.specs.Coord.Epochs.{EachDocument, IsWithin, MadeWithin}
use Rattle.seen_facts.specs.Coord.Flowing.{Flows}
use Rattle.seen_facts.specs.Coord.Leading.{coming, face_after, is_made_under, is_push, once_finished, orders_for, held_back, EachAwake, Leads}
use Rattle.seen_facts.specs.Coord.Reaching.{Reaches, EachReaches}
use Rattle.seen_facts.proofs.Coord.DeliveredMade.{not_its}
use Rattle.seen_facts.proofs.Coord.EachDocuments.{HadEpoch}
use Rattle.seen_facts.proofs.Coord.Kept.{unread_stays, desk_stays_on}
use Rattle.seen_facts.proofs.Coord.Leadings.{WasAwake, proc_same}
use Rattle.seen_facts.proofs.Coord.Reached.{delivered_reaches}
use Rattle.seen_facts.proofs.Coord.Whose.{had_status, whose_same}
use Rattle.seen_facts.proofs.Coord.Within.{within_more}
use Rattle.seen_facts.proofs.Coord.WithinRows.{as_far}
use Rattle.seen_facts.specs.Fragment.Fragments.{IsFirstMadeOf}
use Rattle.seen_facts.specs.Fragment.Waiting.{FlowsWith}
use Rattle.seen_facts.proofs.Fragment.Delivered.{after_delivery, documents_are, places_were, first_told}
use Rattle.seen_facts.proofs.Fragment.Joined.{within_after}

-- a fact of one document that looks at the orders to it and at what is coming from it alone
abbrev pub LooksOnly : (List Made → Desk → Document → Option EntryId → Epoch → Type 0) → Type 0
LooksOnly F =
    (held next_held : List Made) (desk next_desk : Desk) (d : Document) (given : Option EntryId) (epoch : Epoch) → orders_for next_desk d.nr ≡ orders_for desk d.nr → coming next_held next_desk d.nr epoch ≡ coming held desk d.nr epoch → F held desk d given epoch → F next_held next_desk d given epoch

-- so does what leads
pub leads_only : (rows : List Row) → LooksOnly (Leads rows)
leads_only rows held next_held desk next_desk d given epoch orders same is =
    record {
      face = is.face;
      is_given = is.is_given;
      is_row = is.is_row;
      view = is.view;
      pending = ap (λ (l : List Job). (fold once_finished d l).view) orders ∙ is.pending;
      leads = ap (λ (l : List Made). fold face_after is.face l) same ∙ is.leads;
      runs = is.runs;
      in_epoch = is.in_epoch;
      pair = λ none. is.pair (sym (ap (λ (l : List Made). list_any is_push l) same) ∙ none);
    }

-- between two events nothing is at hand
pub flows_with : (s : Seen) → Flows s → FlowsWith [] s
flows_with s flows =
    record {
      leads = subst (λ (l : List Made). EachAwake (Leads s.history.rows l) s) (sym (append-nil (held_back s.requests s.parked))) flows.leads;
      whose = flows.whose;
      reaches = flows.reaches;
      within = subst (λ (l : List Made). EachDocument (IsWithin l) s) (sym (append-nil (held_back s.requests s.parked))) flows.within;
    }

pub flows_without : (s : Seen) → FlowsWith [] s → Flows s
flows_without s flows =
    record {
      leads = subst (λ (l : List Made). EachAwake (Leads s.history.rows l) s) (append-nil (held_back s.requests s.parked)) flows.leads;
      whose = flows.whose;
      reaches = flows.reaches;
      within = subst (λ (l : List Made). EachDocument (IsWithin l) s) (append-nil (held_back s.requests s.parked)) flows.within;
    }

module _ (s : Seen) (event : ℕ) (proc : ProcId) (made : Made) (is : IsFirstMadeOf (desk_of s proc) made) (home : (d : Document) → document_of s made.doc ≡ Some d → d.proc ≡ proc) where
  abbrev now : Seen
  now = after_delivery s event proc made is

  found_before : (doc : DocId) (d : Document) → document_of now doc ≡ Some d → document_of s doc ≡ Some d
  found_before doc d found =
      ap (λ (documents : List Document). find (λ (x : Document). x.nr.0 == doc.0) documents) (sym (documents_are s event proc made is)) ∙ found

  own : desk_of now proc ≡ desk_delivered (desk_of s proc)
  own = desk_on_same desk_delivered s.desks proc (λ desk. refl)

  other : (p : ProcId) → (proc.0 == p.0) ≡ false → desk_of now p ≡ desk_of s p
  other p e = desk_on_other desk_delivered s.desks proc p (λ desk. refl) e

  -- from a document of the process the same is coming, in the same order; and from one of another, too
  coming_here : (held : List Made) (doc : DocId) (epoch : Epoch) → coming (held ++ made ∷ []) (desk_delivered (desk_of s proc)) doc epoch ≡ coming held (desk_of s proc) doc epoch
  coming_here held doc epoch =
      ap (λ (l : List Made). filter (is_made_under doc epoch) l) (append_assoc held (made ∷ []) (filter_map made_of_report (drop 1 (desk_of s proc).reports)) ∙ ap (λ (l : List Made). held ++ l) (sym (first_told (desk_of s proc) made is)))

  coming_there : (held : List Made) (desk : Desk) (doc : DocId) (epoch : Epoch) → (made.doc.0 == doc.0) ≡ false → coming (held ++ made ∷ []) desk doc epoch ≡ coming held desk doc epoch
  coming_there held desk doc epoch apart =
      let none : is_made_under doc epoch made ≡ false = rw apart refl in
      ap (λ (l : List Made). filter (is_made_under doc epoch) l) (append_assoc held (made ∷ []) (filter_map made_of_report desk.reports))
      ∙ filter-append (is_made_under doc epoch) held (made ∷ filter_map made_of_report desk.reports)
      ∙ rw none (sym (filter-append (is_made_under doc epoch) held (filter_map made_of_report desk.reports)))

  -- a fact of the document of each awake navigable stays, with what was made behind what waited
  pub at_hand_stays : (F : List Made → Desk → Document → Option EntryId → Epoch → Type 0) → LooksOnly F → (held : List Made) → EachAwake (F held) s → EachAwake (F (held ++ made ∷ [])) now
  at_hand_stays F only held each nav place doc d placed wakes found = by_process (proc.0 == d.proc.0) refl
    where
      was : WasAwake s nav place
      was = places_were s event proc made is nav place placed

      before : F held (desk_of s d.proc) d place.given place.epoch
      before =
          subst (λ (given : Option EntryId). F held (desk_of s d.proc) d given place.epoch) was.given
          (subst (λ (epoch : Epoch). F held (desk_of s d.proc) d was.before.given epoch) was.epoch (each nav was.before doc d was.there (was.status ∙ wakes) (found_before doc d found)))

      by_process : (b : Bool) → (proc.0 == d.proc.0) ≡ b → F (held ++ made ∷ []) (desk_of now d.proc) d place.given place.epoch
      by_process true e =
          let same : proc ≡ d.proc = proc_same proc d.proc e in
          subst (λ (p : ProcId). F (held ++ made ∷ []) (desk_of now p) d place.given place.epoch) same
          (subst (λ (desk : Desk). F (held ++ made ∷ []) desk d place.given place.epoch) (sym own)
          (only held (held ++ made ∷ []) (desk_of s proc) (desk_delivered (desk_of s proc)) d place.given place.epoch refl (coming_here held d.nr place.epoch) (subst (λ (p : ProcId). F held (desk_of s p) d place.given place.epoch) (sym same) before)))
      by_process false e =
          subst (λ (desk : Desk). F (held ++ made ∷ []) desk d place.given place.epoch) (sym (other d.proc e))
          (only held (held ++ made ∷ []) (desk_of s d.proc) (desk_of s d.proc) d place.given place.epoch refl (coming_there held (desk_of s d.proc) d.nr place.epoch (not_its s proc made home doc d (found_before doc d found) e)) before)

  -- no document is ahead of its navigable with it
  pub at_hand_within : (held : List Made) → EachDocument (IsWithin held) s → EachDocument (IsWithin (held ++ made ∷ [])) now
  at_hand_within held each doc d place found placed = by_process (proc.0 == d.proc.0) refl
    where
      there : document_of s doc ≡ Some d
      there = found_before doc d found

      had : HadEpoch s d.nav place
      had = as_far s d.nav place (places_were s event proc made is d.nav place placed)

      was : IsWithin held (desk_of s d.proc) d place.epoch.0
      was =
          within_more held (desk_of s d.proc) d had.before.epoch.0 place.epoch.0 had.rises (each doc d had.before there had.there)

      here : IsWithin held (desk_of s proc) d place.epoch.0 → IsWithin (held ++ made ∷ []) (desk_delivered (desk_of s proc)) d place.epoch.0
      here before =
          let told : MadeWithin place.epoch.0 d.nr (made ∷ filter_map made_of_report (drop 1 (desk_of s proc).reports)) = subst (λ (l : List Made). MadeWithin place.epoch.0 d.nr l) (first_told (desk_of s proc) made is) before.reports in
          record {
            view = before.view;
            orders = before.orders;
            held_back = within_after place.epoch.0 d.nr held made before.held_back told.0;
            reports = told.1;
          }

      elsewhere : (made.doc.0 == d.nr.0) ≡ false → IsWithin (held ++ made ∷ []) (desk_of s d.proc) d place.epoch.0
      elsewhere apart =
          record {
            view = was.view;
            orders = was.orders;
            held_back = within_after place.epoch.0 d.nr held made was.held_back (λ mine. (let yes : (made.doc.0 == d.nr.0) ≡ true = rw mine (nat_eq_refl d.nr.0) in let no_ : true ≡ false = sym yes ∙ apart in absurd cc));
            reports = was.reports;
          }

      by_process : (b : Bool) → (proc.0 == d.proc.0) ≡ b → IsWithin (held ++ made ∷ []) (desk_of now d.proc) d place.epoch.0
      by_process true e =
          let same : proc ≡ d.proc = proc_same proc d.proc e in
          subst (λ (p : ProcId). IsWithin (held ++ made ∷ []) (desk_of now p) d place.epoch.0) same
          (subst (λ (desk : Desk). IsWithin (held ++ made ∷ []) desk d place.epoch.0) (sym own) (here (subst (λ (p : ProcId). IsWithin held (desk_of s p) d place.epoch.0) (sym same) was)))
      by_process false e =
          subst (λ (desk : Desk). IsWithin (held ++ made ∷ []) desk d place.epoch.0) (sym (other d.proc e)) (elsewhere (not_its s proc made home doc d there e))

  -- only orders come after that leave what a document shows
  pub at_hand_reaches : EachReaches s → EachReaches now
  at_hand_reaches each =
      unread_stays (λ desk x given epoch. Reaches desk x epoch) s now
      (record {
        documents = documents_are s event proc made is;
        places = places_were s event proc made is;
        stays_on = desk_stays_on (λ desk x given epoch. Reaches desk x epoch) s now proc desk_delivered refl (λ desk. refl) (λ d given epoch reaches. delivered_reaches (desk_of s proc) d epoch reaches);
      })
      each

  -- where it isn't held back, it comes behind what was at hand
  pub at_hand_more : (hand : List Made) → held_back now.requests now.parked ≡ held_back s.requests s.parked → FlowsWith hand s → FlowsWith (hand ++ made ∷ []) now
  at_hand_more hand held flows =
      record {
        leads = subst (λ (l : List Made). EachAwake (Leads s.history.rows l) now) last (at_hand_stays (Leads s.history.rows) (leads_only s.history.rows) (held_back s.requests s.parked ++ hand) flows.leads);
        whose = whose_same s now (documents_are s event proc made is) (had_status s now (places_were s event proc made is)) flows.whose;
        reaches = at_hand_reaches flows.reaches;
        within = subst (λ (l : List Made). EachDocument (IsWithin l) now) last (at_hand_within (held_back s.requests s.parked ++ hand) flows.within);
      }
    where
      last : (held_back s.requests s.parked ++ hand) ++ made ∷ [] ≡ held_back now.requests now.parked ++ (hand ++ made ∷ [])
      last =
          append_assoc (held_back s.requests s.parked) hand (made ∷ []) ∙ ap (λ (l : List Made). l ++ (hand ++ made ∷ [])) (sym held)

  pub at_hand_flows : held_back now.requests now.parked ≡ held_back s.requests s.parked → Flows s → FlowsWith (made ∷ []) now
  at_hand_flows held flows = at_hand_more [] held (flows_with s flows)
