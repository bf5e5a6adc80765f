-- A change is applied that gives no awake navigable an entry: what is true between two rows of the documents of all awake navigables stays, where what goes of what waits is no entry of a document that is shown.
use Rattle.seen_facts.proofs.Coord.Applied.{WereThere}
use Rattle.seen_facts.proofs.Coord.EachDocuments.{HadEpoch}
use Rattle.seen_facts.proofs.Coord.Leadings.{WasAwake}
use Rattle.seen_facts.proofs.Coord.Within.{within_more}
use Rattle.seen_facts.specs.Coord.Epochs.{IsWithin}
use Rattle.seen_facts.specs.Coord.Leading.{held_back, is_made_under}
use Rattle.seen_facts.specs.Coord.Reaching.{Reaches}
use Rattle.seen_facts.proofs.Coord.Given.{was_kept}
use Rattle.seen_facts.proofs.Coord.Unread.{next}
use Rattle.seen_facts.proofs.Entry.Applied.{applied_ends}
use Rattle.seen_facts.proofs.Entry.Ends.{IsToEnd}
use Rattle.seen_facts.proofs.Entry.Skips.{IsNoEntry, IsPassed, Skips, hand_skips, held_skips, made_in, skips_append, skips_same, without_made}
use Rattle.seen_facts.specs.Entry.Entries.{mades_of, waiting}
use Rattle.tab_facts.proofs.FrameWhole.FlowsAlike.{LooksOn, WithinHand, awake_nav, if_looks}
use Rattle.tab_facts.proofs.FrameWhole.FlowsEnds.{faces_skip, pushes_skip, within_skip}
use Rattle.tab_facts.specs.FrameWhole.Untold.{FlowsIf, LeadsIf}
use Rattle.log_model.specs.AfterPlaces.{places_applied, with_taker}
use Rattle.log_model.specs.AfterRequests.{without_req}
use Rattle.log_model.specs.History.{applied, has_row}
use Rattle.log_model.specs.Seen.{Desk, Document, Place, Seen, awake, desk_in, desk_of, document_of, place_in, place_of}
use Rattle.log_model.specs.declared.change.Change.{Change}
use Rattle.log_model.specs.declared.row_kind.Actor.{Actor}
use Rattle.log_model.specs.declared.row_kind.RowKind.TheVariants as rows
use Rattle.log_model.specs.declared.made.Made.{Made}
use Rattle.log_model.specs.declared.row.Row.{Row}
use Rattle.seen_laws.proofs.Keyed.{find_has}
use Rattle.std.proofs.Common.{List, Option, Some, ap, arith, refl, subst, sym, true, ℕ, ◌++◌, ◌≤◌, ◌∙◌, ◌≡◌}
use Rattle.tab_ids.specs.declared.DocId.{DocId}
use Rattle.tab_ids.specs.declared.EntryId.{EntryId}
use Rattle.tab_ids.specs.declared.Epoch.{Epoch}
use Rattle.tab_ids.specs.declared.NavId.{NavId}
use Rattle.tab_ids.specs.declared.ReqId.{ReqId}

-- what the row leaves: the processes; each document that is found; each awake navigable, with its entry and its epoch, which had a row if it has one; the rows of its entry; and what waits, but for what is no entry of a document that is shown
pub record IsUnmoved (hand next_hand : List Made) (s t : Seen) : Type 0 where
  pub desks : t.desks ≡ s.desks
  pub documents : (doc : DocId) (d : Document) → document_of t doc ≡ Some d → document_of s doc ≡ Some d
  pub awakes : (nav : NavId) (place : Place) (doc : DocId) → place_of t nav ≡ Some place → place.status ≡ awake doc → WasAwake s nav place
  pub had : (doc : DocId) (d : Document) (place : Place) → document_of s doc ≡ Some d → place_of t d.nav ≡ Some place → HadEpoch s d.nav place
  pub had_row : (nav : NavId) (place : Place) (doc : DocId) → place_of s nav ≡ Some place → place.status ≡ awake doc → has_row place.nav t.history.rows ≡ true → has_row place.nav s.history.rows ≡ true
  pub were : (nav : NavId) (place : Place) (doc : DocId) → place_of s nav ≡ Some place → place.status ≡ awake doc → WereThere s.history.rows t.history.rows place.given
  pub skips : Skips (IsPassed s) (waiting s hand) (waiting t next_hand)

-- what leads does so where each row of the given entry was there
over_rows : (old new : List Row) (held : List Made) (desk : Desk) (d : Document) (given : Option EntryId) (epoch : Epoch) → WereThere old new given → LeadsIf old held desk d given epoch → LeadsIf new held desk d given epoch
over_rows old new held desk d given epoch were is =
    record {
      face = is.face;
      is_given = is.is_given;
      is_row = λ i row there same. (let before = were i row there (sym is.is_given ∙ ap (λ (e : EntryId). let o : Option EntryId = Some e in o) (sym same)) in is.is_row before.0 row before.1 same);
      view = is.view;
      pending = is.pending;
      leads = is.leads;
      runs = is.runs;
      in_epoch = is.in_epoch;
      pair = is.pair;
    }

-- what goes with a request that ends is passed over
pub end_skips : (hand : List Made) (s t : Seen) (req : ReqId) → IsToEnd hand s req → ((r : ReqId) → made_in t.requests r ≡ made_in s.requests r) → t.parked ≡ without_req req s.parked → Skips (IsPassed s) (waiting s hand) (waiting t (without_made req hand))
end_skips hand s t req end made parked =
    subst (λ (l : List ReqId). Skips (IsPassed s) (waiting s hand) (held_back t.requests l ++ without_made req hand)) (sym parked)
    (skips_append (IsPassed s) (held_back s.requests s.parked) (held_back t.requests (without_req req s.parked)) hand (without_made req hand) (held_skips (IsPassed s) s.requests t.requests s.parked req made end.held) (hand_skips (IsPassed s) req hand end.at_hand))

module _ (hand next_hand : List Made) (s t : Seen) (is : IsUnmoved hand next_hand s t) where
  desk_same : (d : Document) → desk_of t d.proc ≡ desk_of s d.proc
  desk_same d = ap (λ (l : List Desk). desk_in l d.proc) is.desks

  looks : (nav : NavId) (place : Place) (doc : DocId) (d : Document) → place_of s nav ≡ Some place → place.status ≡ awake doc → document_of s doc ≡ Some d → has_row place.nav s.history.rows ≡ true → LooksOn (waiting s hand) (waiting t next_hand) (desk_of s d.proc) (desk_of s d.proc) d d place.epoch
  looks nav place doc d placed wakes found has =
      record {
        pending = refl;
        faces = λ face. faces_skip (IsPassed s) d.nr place.epoch passes (waiting s hand ++ told) (waiting t next_hand ++ told) all face;
        pushes = pushes_skip (IsPassed s) d.nr place.epoch passes (waiting s hand ++ told) (waiting t next_hand ++ told) all;
        told = refl;
      }
    where
      told : List Made
      told = mades_of (desk_of s d.proc)

      all : Skips (IsPassed s) (waiting s hand ++ told) (waiting t next_hand ++ told)
      all =
          skips_append (IsPassed s) (waiting s hand) (waiting t next_hand) told told is.skips (skips_same (IsPassed s) told)

      number : d.nr ≡ doc
      number =
          ap (λ (n : ℕ). let x : DocId = record { 0 = n } in x) (find_has (λ (x : Document). x.nr.0) doc.0 s.documents d found)

      passes : (made : Made) → IsPassed s made → is_made_under d.nr place.epoch made ≡ true → IsNoEntry made.what
      passes made passed under_ =
          passed nav place doc placed wakes has (ap (λ (n : DocId). is_made_under n place.epoch made) (sym number) ∙ under_)

  -- the place with what it had
  moved_to : (F : Option EntryId → Epoch → Type 0) (nav : NavId) (place : Place) (was : WasAwake s nav place) → F was.before.given was.before.epoch → F place.given place.epoch
  moved_to F nav place was has =
      subst (λ (given : Option EntryId). F given place.epoch) was.given (subst (λ (epoch : Epoch). F was.before.given epoch) was.epoch has)

  within_then : (doc : DocId) (d : Document) (place : Place) → document_of s doc ≡ Some d → HadEpoch s d.nav place → FlowsIf hand s → WithinHand next_hand t (desk_of t d.proc) d place.epoch.0
  within_then doc d place there had flows =
      subst (λ (desk : Desk). IsWithin (waiting t next_hand) desk d place.epoch.0) (sym (desk_same d))
      (record {
        view = later.view;
        orders = later.orders;
        held_back = within_skip (IsPassed s) place.epoch.0 d.nr (waiting s hand) (waiting t next_hand) is.skips later.held_back;
        reports = later.reports;
      })
    where
      later : IsWithin (waiting s hand) (desk_of s d.proc) d place.epoch.0
      later =
          within_more (waiting s hand) (desk_of s d.proc) d had.before.epoch.0 place.epoch.0 had.rises (flows.within doc d had.before there had.there)

  pub unmoved_if : FlowsIf hand s → FlowsIf next_hand t
  unmoved_if flows =
      record {
        leads = λ nav place doc d placed wakes found has.
            let was : WasAwake s nav place = is.awakes nav place doc placed wakes in
            moved_to (λ (given : Option EntryId) (epoch : Epoch). LeadsIf t.history.rows (waiting t next_hand) (desk_of t d.proc) d given epoch) nav place was
            (subst (λ (desk : Desk). LeadsIf t.history.rows (waiting t next_hand) desk d was.before.given was.before.epoch) (sym (desk_same d))
            (led nav was.before doc d was.there (was.status ∙ wakes) (is.documents doc d found) has));
        whose = λ nav place doc d placed wakes found. (let was : WasAwake s nav place = is.awakes nav place doc placed wakes in flows.whose nav was.before doc d was.there (was.status ∙ wakes) (is.documents doc d found));
        reaches = λ nav place doc d placed wakes found.
            let was : WasAwake s nav place = is.awakes nav place doc placed wakes in
            subst (λ (desk : Desk). Reaches desk d place.epoch) (sym (desk_same d))
            (subst (λ (epoch : Epoch). Reaches (desk_of s d.proc) d epoch) was.epoch (flows.reaches nav was.before doc d was.there (was.status ∙ wakes) (is.documents doc d found)));
        within = λ doc d place found placed. within_then doc d place (is.documents doc d found) (is.had doc d place (is.documents doc d found) placed) flows;
      }
    where
      led : (nav : NavId) (p : Place) (doc : DocId) (d : Document) → place_of s nav ≡ Some p → p.status ≡ awake doc → document_of s doc ≡ Some d → has_row d.nav t.history.rows ≡ true → LeadsIf t.history.rows (waiting t next_hand) (desk_of s d.proc) d p.given p.epoch
      led nav p doc d at on found has =
          let navs : d.nav ≡ p.nav = awake_nav s flows.whose nav p doc d at on found in
          let its : has_row p.nav s.history.rows ≡ true = is.had_row nav p doc at on (ap (λ (n : NavId). has_row n t.history.rows) (sym navs) ∙ has) in
          let own : has_row d.nav s.history.rows ≡ true = ap (λ (n : NavId). has_row n s.history.rows) navs ∙ its in
          over_rows s.history.rows t.history.rows (waiting t next_hand) (desk_of s d.proc) d p.given p.epoch (is.were nav p doc at on)
          (if_looks s.history.rows (waiting s hand) (waiting t next_hand) (desk_of s d.proc) (desk_of s d.proc) d d p.given p.epoch (looks nav p doc d at on found its) (flows.leads nav p doc d at on found own))

-- ---- a change over which each place is as it was, but for the taker of its last entries

module _ (hand : List Made) (s : Seen) (event : ℕ) (actor : Actor) (req : ReqId) (change : Change) (places : places_applied s req change ≡ with_taker s.history (applied s.history change) req s.places) where
  abbrev pub applied_then : Seen
  applied_then = next s event actor (rows.Applied req change)

  stood : (nav : NavId) (place : Place) → place_of applied_then nav ≡ Some place → WasAwake s nav place
  stood nav place placed =
      let was = was_kept s.history (applied s.history change) req s.places nav place (ap (λ (l : List Place). place_in l nav) (sym places) ∙ placed) in
      record { before = was.0; there = was.1; status = was.2; given = was.3; epoch = was.4 }

  pub applied_if : IsToEnd hand s req → ((doc : DocId) (d : Document) → document_of applied_then doc ≡ Some d → document_of s doc ≡ Some d) → ((n : NavId) → has_row n applied_then.history.rows ≡ true → has_row n s.history.rows ≡ true) → ((nav : NavId) (place : Place) → place_of s nav ≡ Some place → WereThere s.history.rows applied_then.history.rows place.given) → FlowsIf hand s → FlowsIf (without_made req hand) applied_then
  applied_if end documents had were =
      unmoved_if hand (without_made req hand) s applied_then (record {
        desks = refl;
        documents = documents;
        awakes = λ nav place doc placed wakes. stood nav place placed;
        had = λ doc d place found placed. (let was : WasAwake s d.nav place = stood d.nav place placed in record { before = was.before; there = was.there; rises = subst (λ (k : Epoch). was.before.epoch.0 ≤ k.0) was.epoch (omega arith) });
        had_row = λ nav place doc placed wakes. had place.nav;
        were = λ nav place doc placed wakes. were nav place placed;
        skips = end_skips hand s applied_then req end (applied_ends s event actor req change).made refl;
      })
