-- A navigable is shown a document, for which nobody falls asleep: what is true between two rows of the documents of all awake navigables stays.
use Rattle.seen_facts.proofs.Coord.EachDocuments.{HadEpoch, IsOneOfEach, each_stays}
use Rattle.seen_facts.proofs.Coord.Shown as showns  -- keep
use Rattle.seen_facts.proofs.Coord.NewEpoch as anew  -- keep
use Rattle.seen_facts.proofs.Coord.Held.{held_alike}
use Rattle.seen_facts.proofs.Coord.Kept.{IsSentHome, is_mine}
use Rattle.seen_facts.proofs.Coord.Leadings.{IsOneChange, WasAwake, as_placed, one_stays}
use Rattle.seen_facts.proofs.Coord.OneDocument.{activated_leads, mailed, mailed_other}
use Rattle.seen_facts.proofs.Coord.Shown.{IsToBeShown}
use Rattle.seen_facts.proofs.Coord.Unread.{next}
use Rattle.seen_facts.proofs.Coord.Within.{sent_apart, sent_within, within_more}
use Rattle.seen_facts.proofs.Coord.Withins.{unmoved}
use Rattle.seen_facts.specs.Coord.Epochs.{IsWithin, ShowsWithin}
use Rattle.seen_facts.specs.Coord.Leading.{coming, held_back, is_live_order, pending_view}
use Rattle.tab_facts.specs.FrameTab.Desks.{waiting}
use Rattle.tab_facts.proofs.FrameWhole.FlowsAlike.{IfIn, WithinHand, held_within, if_again, if_alike, if_leads, within_if}
use Rattle.tab_facts.specs.FrameWhole.Untold.{FlowsIf}
use Rattle.log_model.proofs.Refl.{nat_eq_refl}
use Rattle.log_model.specs.After.{on_document}
use Rattle.log_model.specs.AfterDocuments.{addressed, documents_sent}
use Rattle.log_model.specs.AfterPlaces.{activated, on_place, places_sent, put_to_sleep, sleepers_below}
use Rattle.log_model.specs.AfterRequests.{requests_sent}
use Rattle.log_model.specs.Seen.{Asked, Desk, Document, Place, Seen, awake, desk_of, document_of, place_in, place_of, request_in}
use Rattle.log_model.specs.Views.{View}
use Rattle.log_model.specs.declared.job.Job.{Job}
use Rattle.log_model.specs.declared.job.Task.{Task}
use Rattle.log_model.specs.declared.job.Why.{Why}
use Rattle.log_model.specs.declared.made.Made.{Made}
use Rattle.log_model.specs.declared.row.Row.{Row}
use Rattle.log_model.specs.declared.row_kind.Actor.{Actor}
use Rattle.seen_facts.proofs.Request.Readers.{sent_reads}
use Rattle.seen_laws.proofs.Keyed.{find_has, find_on_other, find_on_same}
use Rattle.std.proofs.Common.{Bool, List, Option, Some, [], ap, append-nil, arith, false, length, refl, subst, sym, true, ℕ, ◌++◌, ◌<◌, ◌==◌, ◌∙◌, ◌∷◌, ◌≡◌, ◌≤◌}
use Rattle.std.proofs.lemmas.Bool.{eqb-true}
use Rattle.std.specs.Option.{option_map_or}
use Rattle.std.specs.Prelude.{option_map, slice_get}
use Rattle.tab_ids.specs.declared.DocId.{DocId}
use Rattle.tab_ids.specs.declared.EntryId.{EntryId}
use Rattle.tab_ids.specs.declared.Epoch.{Epoch}
use Rattle.tab_ids.specs.declared.NavId.{NavId}
use Rattle.tab_ids.specs.declared.ProcId.{ProcId}
use Rattle.seen_facts.proofs.Coord.NewEpoch as anew
use Rattle.log_model.specs.declared.job.Task.TheVariants as tasks
use Rattle.log_model.specs.declared.row_kind.RowKind.TheVariants as rows
use Rattle.seen_facts.proofs.Coord.Held.{made_of}
use Rattle.std.proofs.Common.{None}

made_alike : (a b : Option Asked) → option_map (λ (q : Asked). q.made) a ≡ option_map (λ (q : Asked). q.made) b → made_of a ≡ made_of b
made_alike None None same = refl
made_alike None (Some q) same = absurd cc
made_alike (Some p) None same = absurd cc
made_alike (Some p) (Some q) same = cc

-- an order leaves what waits
pub sent_waits : (s : Seen) (event : ℕ) (actor : Actor) (hand : List Made) (job : Job) → waiting (next s event actor (rows.Sent job)) hand ≡ waiting s hand
sent_waits s event actor hand job =
    ap (λ (l : List Made). l ++ hand)
    (held_alike s.requests (next s event actor (rows.Sent job)).requests s.parked (λ r. made_alike (request_in (next s event actor (rows.Sent job)).requests r) (request_in s.requests r) (sent_reads (λ (q : Asked). q.made) (record { moves = λ q a m. refl; asks = λ q a. refl; fragments = λ q d. refl; misses = λ q b. refl }) s job job.task s.requests r)))

-- what is within with what is at hand, is so without
pub within_held : (held hand : List Made) (desk : Desk) (d : Document) (bound : ℕ) → IsWithin (held ++ hand) desk d bound → IsWithin held desk d bound
within_held held hand desk d bound is =
    record {
      view = is.view;
      orders = is.orders;
      held_back = (held_within bound d.nr held hand is.held_back).0;
      reports = is.reports;
    }

none_sleep : (why : Why) (places : List Place) → put_to_sleep [] why places ≡ places
none_sleep why [] = refl
none_sleep why (p ∷ places) = ap (λ (l : List Place). p ∷ l) (none_sleep why places)

some_same : {A : Type 0} {a b : A} → (let o : Option A = Some a in o) ≡ Some b → a ≡ b
some_same e = cc

module _ (s : Seen) (event : ℕ) (actor : Actor) (hand : List Made) (job : Job) (d : Document) (place : Place) (entry : EntryId) (epoch : Epoch) (long at : ℕ) (memo : Option (List ℕ)) (address : List ℕ) (task : job.task ≡ tasks.Activate entry epoch long at memo address) (sent : IsSentHome s job) (found : document_of s job.doc ≡ Some d) (placed : place_of s d.nav ≡ Some place) (nobody : sleepers_below s job.doc place ≡ []) (greater : place.epoch.0 < epoch.0) (view : View) (pending : pending_view d (desk_of s job.proc) ≡ Some view) (fields : (i : ℕ) (row : Row) → slice_get s.history.rows i ≡ Some row → row.entry ≡ entry → (row.address ≡ address) × (row.memo ≡ memo)) where
  abbrev pub shown : Seen
  shown = next s event actor (rows.Sent job)

  abbrev woken : Place → Place
  woken p = activated job entry epoch d p

  -- ---- the places

  places_are : shown.places ≡ on_place d.nav woken s.places
  places_are =
      ap (λ (t : Task). places_sent s job t) task
      ∙ ap (λ (o : Option Document). option_map_or (λ (x : Document). on_place x.nav (activated job entry epoch x) (put_to_sleep (option_map_or (sleepers_below s job.doc) (place_of s x.nav) []) job.why s.places)) o s.places) found
      ∙ ap (λ (o : Option Place). on_place d.nav woken (put_to_sleep (option_map_or (sleepers_below s job.doc) o []) job.why s.places)) placed
      ∙ ap (λ (l : List NavId). on_place d.nav woken (put_to_sleep l job.why s.places)) nobody
      ∙ ap (λ (l : List Place). on_place d.nav woken l) (none_sleep job.why s.places)

  nav_same : (nav : NavId) → (d.nav.0 == nav.0) ≡ true → d.nav ≡ nav
  nav_same nav e = ap (λ (n : ℕ). let x : NavId = record { 0 = n } in x) (eqb-true d.nav.0 nav.0 e)

  -- that of the document is awake on it
  shown_here : (nav : NavId) (p : Place) → place_of shown nav ≡ Some p → (d.nav.0 == nav.0) ≡ true → woken place ≡ p
  shown_here nav p there e =
      some_same
      (sym (ap (λ (o : Option Place). option_map woken o) placed)
      ∙ sym (ap (λ (l : List Place). place_in l d.nav) places_are ∙ find_on_same (λ (x : Place). x.nav.0) woken d.nav.0 s.places (λ x. refl))
      ∙ ap (λ (n : NavId). place_of shown n) (nav_same nav e)
      ∙ there)

  -- the others are as they were
  shown_else : (nav : NavId) (p : Place) → place_of shown nav ≡ Some p → (d.nav.0 == nav.0) ≡ false → place_of s nav ≡ Some p
  shown_else nav p there e =
      sym (ap (λ (l : List Place). place_in l nav) places_are ∙ find_on_other (λ (x : Place). x.nav.0) woken d.nav.0 nav.0 s.places (λ x. refl) e) ∙ there

  others_stood : (nav : NavId) (p : Place) (doc : DocId) → place_of shown nav ≡ Some p → p.status ≡ awake doc → (job.doc.0 == doc.0) ≡ false → WasAwake s nav p
  others_stood nav p doc there wakes apart = by_nav (d.nav.0 == nav.0) refl
    where
      awake_same : (a b : DocId) → awake a ≡ awake b → a ≡ b
      awake_same a b e = cc

      by_nav : (b : Bool) → (d.nav.0 == nav.0) ≡ b → WasAwake s nav p
      by_nav true e =
          let docs : job.doc ≡ doc = awake_same job.doc doc (ap (λ (x : Place). x.status) (shown_here nav p there e) ∙ wakes) in
          let yes : (job.doc.0 == doc.0) ≡ true = rw docs (nat_eq_refl doc.0) in
          let no_ : true ≡ false = sym yes ∙ apart in absurd cc
      by_nav false e = as_placed s nav p (shown_else nav p there e)

  had_epoch : (nav : NavId) (p : Place) → place_of shown nav ≡ Some p → HadEpoch s nav p
  had_epoch nav p there = by_nav (d.nav.0 == nav.0) refl
    where
      by_nav : (b : Bool) → (d.nav.0 == nav.0) ≡ b → HadEpoch s nav p
      by_nav true e =
          record {
            before = place;
            there = ap (λ (n : NavId). place_of s n) (sym (nav_same nav e)) ∙ placed;
            rises = subst (λ (x : Place). place.epoch.0 ≤ x.epoch.0) (shown_here nav p there e) (omega (arith, greater));
          }
      by_nav false e = unmoved s nav p (shown_else nav p there e)

  -- ---- the documents

  documents_are : shown.documents ≡ on_document job.doc (addressed job.task) s.documents
  documents_are =
      ap (λ (t : Task). documents_sent s job t) task ∙ ap (λ (t : Task). on_document job.doc (addressed t) s.documents) (sym task)

  mine : is_live_order d.nr (length (desk_of s job.proc).killed) job ≡ true
  mine =
      is_mine d.nr (length (desk_of s job.proc).killed) job (sym (find_has (λ (x : Document). x.nr.0) job.doc.0 s.documents d found)) sent.lives

  module _ (flows : FlowsIf hand s) where
    within_here : IsWithin (waiting s hand) (desk_of s job.proc) d place.epoch.0
    within_here =
        subst (λ (p : ProcId). IsWithin (waiting s hand) (desk_of s p) d place.epoch.0) (sent.home d found) (flows.within job.doc d place found placed)

    -- nothing is coming under the new epoch
    pub none_under : coming (waiting s hand) (desk_of s job.proc) d.nr epoch ≡ []
    none_under = anew.nothing_comes place.epoch.0 epoch greater (waiting s hand) (desk_of s job.proc) d within_here

    to_be_shown : IsToBeShown s job d view entry epoch memo address
    to_be_shown =
        record {
          there = found;
          pending = pending;
          none = anew.nothing_comes place.epoch.0 epoch greater (held_back s.requests s.parked) (desk_of s job.proc) d (within_held (held_back s.requests s.parked) hand (desk_of s job.proc) d place.epoch.0 within_here);
          shown = fields;
        }

    held_same : held_back (requests_sent s job job.task s.requests) s.parked ≡ held_back s.requests s.parked
    held_same =
        sym (append-nil (held_back (requests_sent s job job.task s.requests) s.parked)) ∙ sent_waits s event actor [] job ∙ append-nil (held_back s.requests s.parked)

    own : (nav : NavId) (p : Place) (old : Document) → place_of shown nav ≡ Some p → p.status ≡ awake job.doc → document_of s job.doc ≡ Some old → IfIn hand s (mailed job (desk_of s job.proc)) (addressed job.task old) p.given p.epoch
    own nav p old there wakes at_ = by_nav (d.nav.0 == nav.0) refl
      where
        same_d : d ≡ old
        same_d = some_same (sym found ∙ at_)

        by_nav : (b : Bool) → (d.nav.0 == nav.0) ≡ b → IfIn hand s (mailed job (desk_of s job.proc)) (addressed job.task old) p.given p.epoch
        by_nav true e =
            subst (λ (x : Place). IfIn hand s (mailed job (desk_of s job.proc)) (addressed job.task old) x.given x.epoch) (shown_here nav p there e)
            (subst (λ (x : Document). IfIn hand s (mailed job (desk_of s job.proc)) (addressed job.task x) (Some entry) epoch) same_d
            (λ has. if_leads s.history.rows (waiting s hand) (mailed job (desk_of s job.proc)) (addressed job.task d) (Some entry) epoch
            (activated_leads s.history.rows (waiting s hand) (desk_of s job.proc) d job view entry epoch long at memo address task mine pending none_under fields)))
        by_nav false e =
            let yes : (d.nav.0 == nav.0) ≡ true = rw (flows.whose nav p job.doc d (shown_else nav p there e) wakes found) (nat_eq_refl nav.0) in
            let no_ : true ≡ false = sym yes ∙ e in absurd cc

    leads_change : IsOneChange (IfIn hand s) s shown job.proc (mailed job) job.doc (addressed job.task)
    leads_change =
        record {
          desks = refl;
          documents = documents_are;
          keeps_proc = λ desk. refl;
          keeps_number = λ x. refl;
          stays = λ x. refl;
          home = sent.home;
          own = own;
          others = others_stood;
          other = λ x given under apart leads has. if_alike s.history.rows (waiting s hand) (desk_of s job.proc) (mailed job (desk_of s job.proc)) x x given under (mailed_other (waiting s hand) (desk_of s job.proc) job x under apart) (leads has);
        }

    shows : (old : Document) (p : Place) → document_of s job.doc ≡ Some old → place_of shown old.nav ≡ Some p → ShowsWithin p.epoch.0 job.task
    shows old p there at_ =
        let same : d ≡ old = some_same (sym found ∙ there) in
        let here : woken place ≡ p = shown_here old.nav p at_ (ap (λ (x : Document). d.nav.0 == x.nav.0) (sym same) ∙ nat_eq_refl d.nav.0) in
        subst (ShowsWithin p.epoch.0) (sym task) (subst (λ (x : Place). epoch.0 ≤ x.epoch.0) here (omega arith))

    within_change : IsOneOfEach (WithinHand hand s) s shown job.proc (mailed job) job.doc (addressed job.task)
    within_change =
        record {
          desks = refl;
          documents = documents_are;
          keeps_proc = λ desk. refl;
          keeps_number = λ x. refl;
          stays = λ x. refl;
          stays_in = λ x. refl;
          had = had_epoch;
          grows = λ desk x m n more is. within_more (waiting s hand) desk x m n more is;
          home = sent.home;
          own = λ old p there at_ is. sent_within (waiting s hand) (desk_of s job.proc) old job p.epoch.0 (shows old p there at_) (is_mine old.nr (length (desk_of s job.proc).killed) job (sym (find_has (λ (x : Document). x.nr.0) job.doc.0 s.documents old there)) sent.lives) is;
          other = λ x bound apart is. sent_apart (waiting s hand) (desk_of s job.proc) x job bound apart is;
        }

    pub show_if : FlowsIf hand shown
    show_if =
        record {
          leads = if_again s shown hand hand refl (sent_waits s event actor hand job) (one_stays (IfIn hand s) s shown job.proc (mailed job) job.doc (addressed job.task) leads_change flows.leads);
          whose = showns.whose_shown s event actor job d view entry epoch long at memo address task sent to_be_shown flows.whose held_same;
          reaches = showns.show_reaches s event actor job d view entry epoch long at memo address task sent to_be_shown flows.whose held_same (anew.no_view place.epoch.0 epoch greater (waiting s hand) (desk_of s job.proc) d within_here) (anew.no_order place.epoch.0 epoch greater (waiting s hand) (desk_of s job.proc) d within_here) flows.reaches;
          within = within_if s shown hand hand (sent_waits s event actor hand job) (each_stays (WithinHand hand s) s shown job.proc (mailed job) job.doc (addressed job.task) within_change flows.within);
        }
