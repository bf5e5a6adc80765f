-- All that holds in a tab of frames holds after the running traversal is applied, where each navigable was given its target at the step that it leads to; and which entries an applied change takes.
use Rattle.std.proofs.Common.{◌≡◌, inl, inr, ℕ, Bool, true, false, cond, not, ◌&&◌, ◌==◌, List, [], ◌∷◌, ◌++◌, length, map, Option, Some, None, refl, sym, ap, ◌∙◌, subst, arith}
use Rattle.std.specs.Prelude.{filter, option_map}
use Rattle.std.specs.List.{list_any}
use Rattle.std.proofs.lemmas.Bool.Decides.{nat_tests}
use Rattle.std.proofs.lemmas.List.{map-id}
use Rattle.tab_ids.specs.declared.DocId.{DocId}
use Rattle.tab_ids.specs.declared.EntryId.{EntryId}
use Rattle.tab_ids.specs.declared.NavId.{NavId}
use Rattle.tab_ids.specs.declared.ProcId.{ProcId}
use Rattle.tab_ids.specs.declared.ReqId.{ReqId}
use Rattle.tab_ids.specs.declared.Step.{Step}
use Rattle.log_model.specs.declared.change.Change.{Change}
use Rattle.log_model.specs.declared.change.Change.TheVariants as changes
use Rattle.log_model.specs.declared.made.Made.{Made}
use Rattle.log_model.specs.declared.outcome.Ending.TheVariants as endings
use Rattle.log_model.specs.declared.row.Row.{Row}
use Rattle.log_model.specs.declared.row_kind.Actor.{Actor}
use Rattle.log_model.specs.declared.row_kind.RowKind.TheVariants as rows
use Rattle.log_model.specs.Equal.{has_req}
use Rattle.log_model.specs.History.{same_entry, has_row, used_step_at, applied}
use Rattle.log_model.specs.After.{ended}
use Rattle.log_model.specs.AfterRequests.{on_request, entries_taken}
use Rattle.log_model.specs.Places.{is_given_target}
use Rattle.log_model.specs.Seen.{Seen, Document, Asked, Place, awake, desk_of, place_in, place_of, request_in}
use Rattle.seen_facts.specs.Coord.Leading.{held_back}
use Rattle.seen_facts.proofs.Coord.Held.{held_alike, on_else, without_same, on_alike, made_of}
use Rattle.seen_facts.proofs.Coord.Unread.{next}
use Rattle.seen_facts.specs.Hang.Members.{Has}
use Rattle.seen_facts.proofs.Hang.Members.{IsOf, has_filter, has_map}
use Rattle.seen_facts.proofs.Request.LookUps.{on_itself}
use Rattle.seen_facts.proofs.Request.Readers.{SameReads, reads_then, on_read}
use Rattle.seen_facts.specs.Each.Items.{Each}
use Rattle.seen_facts.proofs.Each.Courses.{was_asked, runs_ended}
use Rattle.tab_facts.specs.FrameTab.Alive.{HasPlace}
use Rattle.tab_facts.specs.FrameTab.Desks.{IsMadeThere, untaken, waiting}
use Rattle.seen_facts.specs.Home.Homes.{document_in}
use Rattle.tab_facts.specs.FrameTab.Numbers.{IsOfItsRows, IsNumbered}
use Rattle.tab_facts.specs.FrameTab.Whole.{IsFrameTab}
use Rattle.tab_facts.proofs.FrameTab.Steadies.{steady_left}
use Rattle.tab_facts.proofs.FrameTab.Theres.{there_mapped}
use Rattle.tab_facts.proofs.FrameTab.Desking.{same_made, same_placed, desks_same}
use Rattle.tab_facts.proofs.FrameTab.Going.{IsKnownEntry, entries_again, numbered_again, same_givens}
use Rattle.tab_facts.proofs.FrameTab.Leaving.{untold, made_again, unmade_again, once_alike, ascends_again, same_shown, continues_again, same_ascends, same_continues, same_unmade}
use Rattle.tab_facts.proofs.FrameTab.Takings.{applied_asked, applied_stay}

some_same : {A : Type 0} {a b : A} → (let o : Option A = Some a in o) ≡ Some b → a ≡ b
some_same e = cc

-- the entries that were taken are of rows that were there
pub applied_tooks : (s : Seen) (event : ℕ) (actor : Actor) (req : ReqId) (change : Change) (r : ReqId) (q : Asked) (entry : EntryId) → request_in (next s event actor (rows.Applied req change)).requests r ≡ Some q → Has q.took entry → IsKnownEntry s entry
applied_tooks s event actor req change r q entry there has = by_number (r.0 == req.0) refl
  where
    two : List Asked
    two = on_request req (λ x. record x { change = Some change }) (ended s.requests req endings.Applied)

    takes : Asked → Asked
    takes x = record x { took = entries_taken s.history change }

    reads : SameReads (λ (x : Asked). x.took) s.requests (on_request req (λ x. record x { change = Some change }) (ended s.requests req endings.Applied))
    reads =
        reads_then (λ (x : Asked). x.took) s.requests (ended s.requests req endings.Applied) (on_request req (λ x. record x { change = Some change }) (ended s.requests req endings.Applied)) (on_read (λ (x : Asked). x.took) s.requests req (λ x. record x { ending = Some endings.Applied }) (λ x. refl)) (on_read (λ (x : Asked). x.took) (ended s.requests req endings.Applied) req (λ x. record x { change = Some change }) (λ x. refl))

    of_rows : Has (entries_taken s.history change) entry → IsKnownEntry s entry
    of_rows in_ =
        let w : IsOf (λ (row : Row). row.entry) (filter (λ (row : Row). not (list_any (λ (left : Row). same_entry left.entry row.entry) (applied s.history change).rows)) s.history.rows) entry = has_map (λ (row : Row). row.entry) (filter (λ (row : Row). not (list_any (λ (left : Row). same_entry left.entry row.entry) (applied s.history change).rows)) s.history.rows) entry in_ in
        inl (record { row = w.it; there = (has_filter (λ (row : Row). not (list_any (λ (left : Row). same_entry left.entry row.entry) (applied s.history change).rows)) s.history.rows w.it w.there).0; is = w.is })

    by_number : (b : Bool) → (r.0 == req.0) ≡ b → IsKnownEntry s entry
    by_number true e =
        let n : r.0 ≡ req.0 = grind (arith, nat_tests, e) in
        let same : r ≡ req = ap (λ (i : ℕ). let x : ReqId = record { 0 = i } in x) n in
        by_found (request_in (on_request req (λ x. record x { change = Some change }) (ended s.requests req endings.Applied)) req) (sym (on_itself (on_request req (λ x. record x { change = Some change }) (ended s.requests req endings.Applied)) req (λ x. record x { took = entries_taken s.history change })) ∙ subst (λ (x : ReqId). request_in (next s event actor (rows.Applied req change)).requests x ≡ Some q) same there)
      where
        by_found : (o : Option Asked) → option_map (λ (x : Asked). record x { took = entries_taken s.history change }) o ≡ Some q → IsKnownEntry s entry
        by_found None h = absurd cc
        by_found (Some x) h = of_rows (subst (λ (y : Asked). Has y.took entry) (sym (some_same h)) has)
    by_number false e =
        let old : request_in (on_request req (λ x. record x { change = Some change }) (ended s.requests req endings.Applied)) r ≡ Some q = sym (on_else (on_request req (λ x. record x { change = Some change }) (ended s.requests req endings.Applied)) req (λ x. record x { took = entries_taken s.history change }) r e) ∙ there in
        let was : (p : Asked) × (request_in s.requests r ≡ Some p) × (p.took ≡ q.took) = was_asked (λ (x : Asked). x.took) s.requests (on_request req (λ x. record x { change = Some change }) (ended s.requests req endings.Applied)) reads r q old in
        inr (inr (record { req = r; q = was.0; there = was.1; has = subst (λ (l : List EntryId). Has l entry) (sym was.2) has }))

-- what was made of each request is as it was
pub applied_made : (s : Seen) (event : ℕ) (actor : Actor) (req : ReqId) (change : Change) (r : ReqId) → made_of (request_in (next s event actor (rows.Applied req change)).requests r) ≡ made_of (request_in s.requests r)
applied_made s event actor req change r =
    on_alike made_of (on_request req (λ x. record x { change = Some change }) (ended s.requests req endings.Applied)) req (λ x. record x { took = entries_taken s.history change }) r (λ q. refl)
    ∙ on_alike made_of (ended s.requests req endings.Applied) req (λ x. record x { change = Some change }) r (λ q. refl)
    ∙ on_alike made_of s.requests req (λ x. record x { ending = Some endings.Applied }) r (λ q. refl)

-- ---- the running traversal

module _ (home : ProcId) (hand : List Made) (s : Seen) (event : ℕ) (actor : Actor) (req : ReqId) (tab : IsFrameTab home (Some req) hand s) (goal : Step) (unparked : has_req s.parked req ≡ false) (stand : (nav : NavId) (place : Place) (doc : DocId) → place_of s nav ≡ Some place → place.status ≡ awake doc → has_row place.nav s.history.rows ≡ true → is_given_target s.history.rows (used_step_at s.history.rows goal.0) place ≡ true) where
  abbrev pub traversed : Seen
  traversed = next s event actor (rows.Applied req (changes.Traverse goal))

  places_same : traversed.places ≡ s.places
  places_same = by_list s.places
    where
      by_list : (l : List Place) → map (λ (p : Place). cond (has_row p.nav s.history.rows && not (has_row p.nav s.history.rows)) (record p { taken_by = Some req }) p) l ≡ l
      by_list [] = refl
      by_list (p ∷ l) =
          ap (λ (x : Place). x ∷ map (λ (p : Place). cond (has_row p.nav s.history.rows && not (has_row p.nav s.history.rows)) (record p { taken_by = Some req }) p) l) (elim (has_row p.nav s.history.rows) as (λ b. (let x : Place = cond (b && not b) (record p { taken_by = Some req }) p in x) ≡ p) [ true ↦ refl | false ↦ refl ])
          ∙ ap (λ (k : List Place). p ∷ k) (by_list l)

  documents_same : traversed.documents ≡ map (λ (d : Document). d) s.documents
  documents_same = refl

  waiting_same : waiting traversed hand ≡ waiting s hand
  waiting_same =
      ap (λ (l : List ReqId). held_back traversed.requests l ++ hand) (without_same s.parked req unparked)
      ∙ ap (λ (l : List Made). l ++ hand) (held_alike s.requests traversed.requests s.parked (applied_made s event actor req (changes.Traverse goal)))

  same : untold (waiting traversed hand) (desk_of traversed home) ≡ untold (waiting s hand) (desk_of s home)
  same = ap (λ (l : List Made). untold l (desk_of s home)) waiting_same

  pub traversed_framed : IsFrameTab home None hand traversed
  traversed_framed =
      record {
        documents = there_mapped home s traversed (λ d. d) (record { nr = λ d. refl; nav = λ d. refl; alive = λ doc d found is. is }) documents_same (λ nav has. subst (λ (l : List Place). HasPlace l nav) (sym places_same) has) tab.documents;
        asked = applied_asked home (Some req) None hand s event actor req (changes.Traverse goal) tab (runs_ended s.requests req endings.Applied tab.asked.only) (λ r never. absurd cc);
        steady = steady_left s traversed places_same refl (applied_stay s event actor req (changes.Traverse goal)) tab.steady;
        stated =
            record {
              one = tab.stated.one;
              begins = tab.stated.begins;
              given = tab.stated.given;
              documents = subst (λ (l : List Document). (doc : DocId) (d : Document) → document_in l doc ≡ Some d → IsOfItsRows s.history.rows s.states d) (sym documents_id) tab.stated.documents;
              listed = ap (λ (l : List Place). map (λ (p : Place). p.nav) l) places_same ∙ tab.stated.listed;
            };
        entries =
            entries_again (IsNumbered s.entries (length s.documents) s.documents) (IsNumbered traversed.entries (length traversed.documents) traversed.documents) s traversed
            (numbered_again s traversed (λ d. d) (λ d. refl) (record { state = λ d. refl; applied = λ d. refl }) documents_same refl)
            (λ row there. inl (inl (record { row = row; there = there; is = refl })))
            (λ nav place entry there has. inl (same_givens s traversed places_same nav place entry there has))
            (λ r q entry there has. inl (applied_tooks s event actor req (changes.Traverse goal) r q entry there has))
            tab.entries;
        desks = desks_same home s traversed refl (same_made s.documents traversed.documents documents_id) (same_placed s.places traversed.places places_same) tab.desks;
        made = made_again home s traversed (λ d. d) (λ d. refl) (λ doc d found is. once_alike (desk_of s home) (desk_of traversed home) d d refl refl (λ n. refl) is) documents_same tab.made;
        unmade = unmade_again home s traversed hand hand (λ d. d) (λ d. refl) (λ doc d found is unready. (let i : (d.last_applied ≡ 0) × (untaken (waiting s hand) (desk_of s home) d.nr ≡ []) = is unready in (i.0, same_unmade (waiting s hand) (waiting traversed hand) (desk_of s home) (desk_of traversed home) same d.nr i.1))) documents_same tab.unmade;
        waits = subst (λ (l : List Document). Each (IsMadeThere l) (waiting traversed hand)) (sym documents_id) (subst (λ (l : List Made). Each (IsMadeThere s.documents) l) (sym waiting_same) tab.waits);
        ascends = ascends_again home s traversed hand hand (λ d. d) (λ d. refl) (λ doc d found is view has. same_ascends (waiting s hand) (waiting traversed hand) (desk_of s home) (desk_of traversed home) same d.nr d.last_applied view.numbered (is view has)) documents_same tab.ascends;
        continues = continues_again home s traversed hand hand (same_shown s traversed places_same) refl (λ nav place doc given there wakes has. same_continues (waiting s hand) (waiting traversed hand) (desk_of s home) (desk_of traversed home) same doc given place.epoch) tab.continues;
        given = λ nav place doc there wakes has unmoved. stand nav place doc (ap (λ (l : List Place). place_in l nav) (sym places_same) ∙ there) wakes has;
      }
    where
      documents_id : traversed.documents ≡ s.documents
      documents_id = map-id s.documents
