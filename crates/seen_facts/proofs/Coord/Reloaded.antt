-- A reload is applied: the documents of its navigable are no longer fresh, and what is true between two rows of the documents of all awake navigables stays.
use Rattle.std.proofs.Common.{◌≡◌, ℕ, Bool, true, false, cond, ◌==◌, List, Option, Some, None, refl, sym, ap, ◌∙◌, subst}
use Rattle.std.specs.Prelude.{option_map}
use Rattle.tab_ids.specs.declared.DocId.{DocId}
use Rattle.tab_ids.specs.declared.EntryId.{EntryId}
use Rattle.tab_ids.specs.declared.Epoch.{Epoch}
use Rattle.tab_ids.specs.declared.NavId.{NavId}
use Rattle.tab_ids.specs.declared.ProcId.{ProcId}
use Rattle.tab_ids.specs.declared.ReqId.{ReqId}
use Rattle.log_model.specs.declared.change.Change.TheVariants as changes
use Rattle.log_model.specs.declared.made.Made.{Made}
use Rattle.log_model.specs.declared.row_kind.Actor.{Actor}
use Rattle.log_model.specs.declared.row_kind.RowKind.TheVariants as rows
use Rattle.log_model.specs.Seen.{Seen, Document, Desk, Place, document_of, desk_of, place_of}
use Rattle.log_model.specs.After.{after}
use Rattle.log_model.specs.AfterPlaces.{on_place}
use Rattle.seen_laws.proofs.Keyed.{find_map}
use Rattle.seen_facts.specs.Coord.Leading.{orders_for, held_back, EachAwake, EachIsOfItsNavigable}
use Rattle.seen_facts.specs.Coord.Reaching.{Reaches}
use Rattle.seen_facts.specs.Coord.Epochs.{IsWithin, EachIsWithin}
use Rattle.seen_facts.specs.Coord.Flowing.{Flows}
use Rattle.seen_facts.proofs.Coord.Leadings.{WasAwake, LeadsIn, leads_again}
use Rattle.seen_facts.proofs.Coord.OneDocument.{LooksAlike, leads_alike, views_alike}
use Rattle.seen_facts.proofs.Coord.Given.{IsFrom, placed_from, was_kept}
use Rattle.seen_facts.proofs.Coord.SentAway.{within_alike}
use Rattle.seen_facts.proofs.Coord.Withins.{WithinIn}

-- ---- a document that may be fresh no longer

module _ (nav : NavId) where
  abbrev once_reloaded : Document → Document
  once_reloaded d = cond (d.nav.0 == nav.0) (record d { is_fresh = false }) d

  keeps : {A : Type 0} (read : Document → A) → ((d : Document) → read (record d { is_fresh = false }) ≡ read d) → (d : Document) → read (once_reloaded d) ≡ read d
  keeps read same d = by_test (d.nav.0 == nav.0)
    where
      by_test : (b : Bool) → read (let x : Document = cond b (record d { is_fresh = false }) d in x) ≡ read d
      by_test true = same d
      by_test false = refl

  looks_alike : (held : List Made) (desk : Desk) (d : Document) (epoch : Epoch) → LooksAlike held desk desk d (once_reloaded d) epoch
  looks_alike held desk d epoch = by_test (d.nav.0 == nav.0)
    where
      by_test : (b : Bool) → LooksAlike held desk desk d (let x : Document = cond b (record d { is_fresh = false }) d in x) epoch
      by_test true =
          record { pending = views_alike (record d { is_fresh = false }) d (orders_for desk d.nr) refl refl; coming = refl; told = refl }
      by_test false = record { pending = refl; coming = refl; told = refl }

  reaches_still : (desk : Desk) (d : Document) (epoch : Epoch) → Reaches desk d epoch → Reaches desk (once_reloaded d) epoch
  reaches_still desk d epoch is = by_test (d.nav.0 == nav.0)
    where
      by_test : (b : Bool) → Reaches desk (let x : Document = cond b (record d { is_fresh = false }) d in x) epoch
      by_test true = record { reached = is.reached; last = is.last }
      by_test false = is

  -- a place whose reload is pending
  abbrev pending_at : Place → Place
  pending_at place = cond (place.nav.0 == nav.0) (record place { is_pending = true; is_unmet = true }) place

  place_keeps : {A : Type 0} (read : Place → A) → ((p : Place) → read (record p { is_pending = true; is_unmet = true }) ≡ read p) → (p : Place) → read (pending_at p) ≡ read p
  place_keeps read same p = by_test (p.nav.0 == nav.0)
    where
      by_test : (b : Bool) → read (let q : Place = cond b (record p { is_pending = true; is_unmet = true }) p in q) ≡ read p
      by_test true = same p
      by_test false = refl

  -- ---- the row

  module _ (s : Seen) (event : ℕ) (actor : Actor) (req : ReqId) where
    abbrev pub after_reload : Seen
    after_reload =
        after s (record { event = event; actor = actor; row = rows.Applied req (changes.Reload nav) })

    -- a document that is there then was there before
    record WasDocument (doc : DocId) (d : Document) : Type 0 where
      old : Document
      there : document_of s doc ≡ Some old
      is : once_reloaded old ≡ d

    was_document : (doc : DocId) (d : Document) → document_of after_reload doc ≡ Some d → WasDocument doc d
    was_document doc d found = by_old (document_of s doc) refl
      where
        mapped : document_of after_reload doc ≡ option_map once_reloaded (document_of s doc)
        mapped =
            find_map (λ (x : Document). x.nr.0) once_reloaded doc.0 s.documents (keeps (λ (x : Document). x.nr.0) (λ x. refl))

        by_old : (o : Option Document) → document_of s doc ≡ o → WasDocument doc d
        by_old None e =
            let no_ : None ≡ Some d = sym (mapped ∙ ap (λ (o : Option Document). option_map once_reloaded o) e) ∙ found in absurd cc
        by_old (Some old) e =
            let some : Some (once_reloaded old) ≡ Some d = sym (mapped ∙ ap (λ (o : Option Document). option_map once_reloaded o) e) ∙ found in
            record { old = old; there = e; is = cc }

    stood : (of : NavId) (place : Place) → place_of after_reload of ≡ Some place → WasAwake s of place
    stood of place placed =
        let was = was_kept s.history s.history req (on_place nav (λ (p : Place). record p { is_pending = true; is_unmet = true }) s.places) of place placed in
        let from : IsFrom pending_at s.places of was.0 = placed_from pending_at s.places of was.0 (place_keeps (λ (p : Place). p.nav.0) (λ p. refl)) was.1 in
        record {
          before = from.before;
          there = from.there;
          status = sym (place_keeps (λ (p : Place). p.status) (λ p. refl) from.before) ∙ ap (λ (p : Place). p.status) from.is ∙ was.2;
          given = sym (place_keeps (λ (p : Place). p.given) (λ p. refl) from.before) ∙ ap (λ (p : Place). p.given) from.is ∙ was.3;
          epoch = sym (place_keeps (λ (p : Place). p.epoch) (λ p. refl) from.before) ∙ ap (λ (p : Place). p.epoch) from.is ∙ was.4;
        }

    reload_stays : (F : Desk → Document → Option EntryId → Epoch → Type 0) → ((desk : Desk) (d : Document) (given : Option EntryId) (epoch : Epoch) → F desk d given epoch → F desk (once_reloaded d) given epoch) → EachAwake F s → EachAwake F after_reload
    reload_stays F alike each of place doc d placed wakes found =
        let was : WasAwake s of place = stood of place placed in
        let from : WasDocument doc d = was_document doc d found in
        let before : F (desk_of s from.old.proc) from.old was.before.given was.before.epoch = each of was.before doc from.old was.there (was.status ∙ wakes) from.there in
        let held : F (desk_of s from.old.proc) from.old place.given place.epoch = subst (λ (given : Option EntryId). F (desk_of s from.old.proc) from.old given place.epoch) was.given (subst (λ (epoch : Epoch). F (desk_of s from.old.proc) from.old was.before.given epoch) was.epoch before) in
        subst (λ (x : Document). F (desk_of s x.proc) x place.given place.epoch) from.is
        (subst (λ (p : ProcId). F (desk_of s p) (once_reloaded from.old) place.given place.epoch) (sym (keeps (λ (x : Document). x.proc) (λ x. refl) from.old))
        (alike (desk_of s from.old.proc) from.old place.given place.epoch held))

    whose_reloaded : EachIsOfItsNavigable s → EachIsOfItsNavigable after_reload
    whose_reloaded whose of place doc d placed wakes found =
        let was : WasAwake s of place = stood of place placed in
        let from : WasDocument doc d = was_document doc d found in
        ap (λ (x : Document). x.nav.0) (sym from.is)
        ∙ keeps (λ (x : Document). x.nav.0) (λ x. refl) from.old
        ∙ whose of was.before doc from.old was.there (was.status ∙ wakes) from.there

    within_reloaded : held_back after_reload.requests after_reload.parked ≡ held_back s.requests s.parked → EachIsWithin s → EachIsWithin after_reload
    within_reloaded held each doc d place found placed =
        let was : WasAwake s d.nav place = stood d.nav place placed in
        let from : WasDocument doc d = was_document doc d found in
        let same_nav : d.nav ≡ from.old.nav = ap (λ (x : Document). x.nav) (sym from.is) ∙ keeps (λ (x : Document). x.nav) (λ x. refl) from.old in
        let before : WithinIn s (desk_of s from.old.proc) from.old was.before.epoch.0 = each doc from.old was.before from.there (ap (λ (n : NavId). place_of s n) (sym same_nav) ∙ was.there) in
        let here : WithinIn s (desk_of s from.old.proc) from.old place.epoch.0 = subst (λ (epoch : Epoch). WithinIn s (desk_of s from.old.proc) from.old epoch.0) was.epoch before in
        subst (λ (l : List Made). IsWithin l (desk_of s d.proc) d place.epoch.0) (sym held)
        (subst (λ (x : Document). WithinIn s (desk_of s x.proc) x place.epoch.0) from.is
        (subst (λ (p : ProcId). WithinIn s (desk_of s p) (once_reloaded from.old) place.epoch.0) (sym (keeps (λ (x : Document). x.proc) (λ x. refl) from.old))
        (within_alike (held_back s.requests s.parked) (desk_of s from.old.proc) from.old (once_reloaded from.old) place.epoch.0 (keeps (λ (x : Document). x.nr) (λ x. refl) from.old) (keeps (λ (x : Document). x.view) (λ x. refl) from.old) here)))

    pub reload_flows : held_back after_reload.requests after_reload.parked ≡ held_back s.requests s.parked → Flows s → Flows after_reload
    reload_flows held flows =
        record {
          leads = leads_again s after_reload refl held (reload_stays (LeadsIn s) (λ desk d given epoch leads. leads_alike s.history.rows (held_back s.requests s.parked) desk desk d (once_reloaded d) given epoch (looks_alike (held_back s.requests s.parked) desk d epoch) leads) flows.leads);
          whose = whose_reloaded flows.whose;
          reaches = reload_stays (λ desk x given epoch. Reaches desk x epoch) (λ desk d given epoch is. reaches_still desk d epoch is) flows.reaches;
          within = within_reloaded held flows.within;
        }
