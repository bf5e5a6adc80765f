-- What a document made is delivered and taken up: what leads on for it, and for the others of its process.
use Rattle.std.proofs.Common.{◌≡◌, ℕ, true, false, List, [], ◌∷◌, ◌++◌, drop, Option, Some, refl, sym, ap, ◌∙◌}
use Rattle.std.specs.Prelude.{filter, filter_map, fold, slice_get}
use Rattle.std.specs.List.{list_any}
use Rattle.std.proofs.lemmas.List.Elements.{filter-append}
use Rattle.tab_ids.specs.declared.DocId.{DocId}
use Rattle.tab_ids.specs.declared.EntryId.{EntryId}
use Rattle.tab_ids.specs.declared.Epoch.{Epoch}
use Rattle.log_model.specs.declared.made.Made.{Made}
use Rattle.log_model.specs.declared.made.Report.{Report}
use Rattle.log_model.specs.declared.made.Report.TheVariants as reports
use Rattle.log_model.specs.declared.row.Row.{Row}
use Rattle.log_model.specs.Views.{View}
use Rattle.log_model.specs.Seen.{Document, Desk}
use Rattle.log_model.specs.After.{desk_delivered}
use Rattle.log_model.specs.AfterRequests.{made_of_report}
use Rattle.seen_facts.specs.Coord.Leading.{is_made_under, coming, pending_view, once_finished, orders_for, face_after, is_push, Leads, LeadsUntold}
use Rattle.seen_facts.proofs.Coord.OneDocument.{LooksAlike, views_alike}

-- what was made waits in front
abbrev pub IsFirstMade : Desk → Made → Type 0
IsFirstMade desk made = slice_get desk.reports 0 ≡ Some (reports.Made made)

-- the reports tell of what was made, and then of the rest
pub first_told : (waiting : List Report) (made : Made) → slice_get waiting 0 ≡ Some (reports.Made made) → filter_map made_of_report waiting ≡ made ∷ filter_map made_of_report (drop 1 waiting)
first_told [] made first = cc
first_told (report ∷ waiting) made first =
    let same : report ≡ reports.Made made = cc in rw same refl

-- what is coming, by parts
coming_parts : (held : List Made) (desk : Desk) (made : Made) (doc : DocId) (epoch : Epoch) → IsFirstMade desk made → coming held desk doc epoch ≡ filter (is_made_under doc epoch) held ++ filter (is_made_under doc epoch) (made ∷ filter_map made_of_report (drop 1 desk.reports))
coming_parts held desk made doc epoch first =
    ap (λ (told : List Made). filter (is_made_under doc epoch) (held ++ told)) (first_told desk.reports made first)
    ∙ filter-append (is_made_under doc epoch) held (made ∷ filter_map made_of_report (drop 1 desk.reports))

-- it is the first that is coming from its document, where nothing of that is held back
pub coming_taken : (held : List Made) (desk : Desk) (made : Made) (doc : DocId) (epoch : Epoch) → IsFirstMade desk made → filter (is_made_under doc epoch) held ≡ [] → is_made_under doc epoch made ≡ true → coming held desk doc epoch ≡ made ∷ coming held (desk_delivered desk) doc epoch
coming_taken held desk made doc epoch first none under =
    let rest : coming held (desk_delivered desk) doc epoch ≡ filter (is_made_under doc epoch) (filter_map made_of_report (drop 1 desk.reports)) = filter-append (is_made_under doc epoch) held (filter_map made_of_report (drop 1 desk.reports)) ∙ ap (λ (l : List Made). l ++ filter (is_made_under doc epoch) (filter_map made_of_report (drop 1 desk.reports))) none in
    coming_parts held desk made doc epoch first
    ∙ ap (λ (l : List Made). l ++ filter (is_made_under doc epoch) (made ∷ filter_map made_of_report (drop 1 desk.reports))) none
    ∙ rw under (ap (λ (l : List Made). made ∷ l) (sym rest))

-- nothing else is taken from what is coming
pub coming_left : (held : List Made) (desk : Desk) (made : Made) (doc : DocId) (epoch : Epoch) → IsFirstMade desk made → is_made_under doc epoch made ≡ false → coming held (desk_delivered desk) doc epoch ≡ coming held desk doc epoch
coming_left held desk made doc epoch first other =
    sym (coming_parts held desk made doc epoch first ∙ rw other (sym (filter-append (is_made_under doc epoch) held (filter_map made_of_report (drop 1 desk.reports)))))

-- so it is for each other document
pub delivered_other : (held : List Made) (desk : Desk) (made : Made) (d : Document) (epoch : Epoch) → IsFirstMade desk made → is_made_under d.nr epoch made ≡ false → LooksAlike held desk (desk_delivered desk) d d epoch
delivered_other held desk made d epoch first other =
    record { pending = refl; coming = coming_left held desk made d.nr epoch first other; told = refl }

-- the document leads on from what it made
pub taken_leads_on : (rows next_rows : List Row) (held : List Made) (desk : Desk) (d next : Document) (made : Made) (given next_given : Option EntryId) (epoch : Epoch) → IsFirstMade desk made → filter (is_made_under d.nr epoch) held ≡ [] → is_made_under d.nr epoch made ≡ true → next.nr ≡ d.nr → next.view ≡ d.view → (is : Leads rows held desk d given epoch) → Some (face_after is.face made).entry ≡ next_given → ((i : ℕ) (row : Row) → slice_get next_rows i ≡ Some row → row.entry ≡ (face_after is.face made).entry → (row.address ≡ (face_after is.face made).address) × (row.memo ≡ (face_after is.face made).memo)) → LeadsUntold next_rows held (desk_delivered desk) next next_given epoch
taken_leads_on rows next_rows held desk d next made given next_given epoch first none under nr view is gives shows =
    let on : coming held (desk_delivered desk) next.nr epoch ≡ coming held (desk_delivered desk) d.nr epoch = ap (λ (doc : DocId). coming held (desk_delivered desk) doc epoch) nr in
    record {
      face = face_after is.face made;
      is_given = gives;
      is_row = shows;
      view = is.view;
      pending = views_alike next d (orders_for (desk_delivered desk) next.nr) nr view ∙ ap (λ (doc : DocId). (fold once_finished d (orders_for desk doc)).view) nr ∙ is.pending;
      leads = ap (λ (l : List Made). fold face_after (face_after is.face made) l) on ∙ ap (λ (l : List Made). fold face_after is.face l) (sym (coming_taken held desk made d.nr epoch first none under)) ∙ is.leads;
      runs = is.runs;
      in_epoch = is.in_epoch;
    }

-- and where it was no push and the document was told nothing new, what it was told last is still its view's
pub taken_pair : (held : List Made) (desk : Desk) (made : Made) (doc : DocId) (epoch : Epoch) → IsFirstMade desk made → filter (is_made_under doc epoch) held ≡ [] → is_made_under doc epoch made ≡ true → is_push made ≡ false → list_any is_push (coming held (desk_delivered desk) doc epoch) ≡ false → list_any is_push (coming held desk doc epoch) ≡ false
taken_pair held desk made doc epoch first none under no_push rest =
    ap (λ (l : List Made). list_any is_push l) (coming_taken held desk made doc epoch first none under) ∙ rw (no_push, rest) refl

-- so it is told the pair of its view still
pub taken_told : (rows : List Row) (held : List Made) (desk : Desk) (d next : Document) (made : Made) (given : Option EntryId) (epoch : Epoch) → IsFirstMade desk made → filter (is_made_under d.nr epoch) held ≡ [] → is_made_under d.nr epoch made ≡ true → next.nr ≡ d.nr → next.view ≡ d.view → next.told ≡ d.told → is_push made ≡ false → Leads rows held desk d given epoch → (view : View) → pending_view next (desk_delivered desk) ≡ Some view → list_any is_push (coming held (desk_delivered desk) next.nr epoch) ≡ false → next.told ≡ Some (view.length, view.index)
taken_told rows held desk d next made given epoch first none under nr view told no_push is seen pending rest =
    let same : pending_view next (desk_delivered desk) ≡ pending_view d desk = views_alike next d (orders_for (desk_delivered desk) next.nr) nr view ∙ ap (λ (doc : DocId). (fold once_finished d (orders_for desk doc)).view) nr in
    let views : is.view ≡ seen = some_same (sym is.pending ∙ sym same ∙ pending) in
    let here : list_any is_push (coming held (desk_delivered desk) d.nr epoch) ≡ false = ap (λ (doc : DocId). list_any is_push (coming held (desk_delivered desk) doc epoch)) (sym nr) ∙ rest in
    told ∙ is.pair (taken_pair held desk made d.nr epoch first none under no_push here) ∙ ap (λ (v : View). Some (v.length, v.index)) views
  where
    some_same : {A : Type 0} {a b : A} → (let o : Option A = Some a in o) ≡ Some b → a ≡ b
    some_same e = cc
