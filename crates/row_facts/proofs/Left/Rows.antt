-- Every row keeps it: what was shown last was shown, and what is kept was.
use Rattle.seen_facts.proofs.Hang.Forms.{nav_is}
use Rattle.seen_facts.proofs.Hang.Members.{find_has, has_filter}
use Rattle.seen_facts.specs.Hang.Members.{Has}
use Rattle.row_facts.proofs.Left.Places.{KeepsPlace, KeepsShown, LeavesPlace, keeps_same, keeps_then, leaving_keeps, map_keeps, more_keeps, where_keeps, where_leaves}
use Rattle.row_facts.specs.Left.Left.{LastWereShown, OwnersFollow, WasEverShown, WereShown}
use Rattle.log_model.proofs.Refl.{nat_eq_refl}
use Rattle.log_model.specs.After.{after}
use Rattle.log_model.specs.AfterPlaces.{activated, given_entry, is_taken_by, kept_delivered, kept_leaving, kept_sent, new_place, on_place, opening_place, place_arrived, place_bereft, places_added, places_applied, places_delivered, places_given, places_sent, put_to_sleep, sleepers_below, sleepers_with, with_taker, without_doc}
use Rattle.log_model.specs.Equal.{has_doc, holds}
use Rattle.log_model.specs.History.{History, applied, has_nav, has_row}
use Rattle.log_model.specs.Places.{awake_document, holder_of, is_asleep, is_gone}
use Rattle.log_model.specs.Seen.{Asked, Document, Place, Seen, asleep, desk_of, document_of, lost, nothing, place_in, place_of, request_of}
use Rattle.log_model.specs.declared.change.Change.{Change}
use Rattle.log_model.specs.declared.job.Job.{Job}
use Rattle.log_model.specs.declared.job.Task.{Task}
use Rattle.log_model.specs.declared.job.Why.{Why}
use Rattle.log_model.specs.declared.made.Made.{Made}
use Rattle.log_model.specs.declared.made.Report.{Report}
use Rattle.log_model.specs.declared.row_kind.Actor.{Actor}
use Rattle.log_model.specs.declared.row_kind.RowKind.{RowKind}
use Rattle.std.proofs.Common.{Bool, List, None, Option, Some, [], ap, cond, false, inl, inr, not, refl, subst, sym, true, ℕ, ◌++◌, ◌==◌, ◌||◌, ◌∙◌, ◌∷◌, ◌≡◌}
use Rattle.std.specs.List.{list_any}
use Rattle.std.specs.Option.{option_map_or}
use Rattle.std.specs.Prelude.{option_and_then, slice_get, ◌&&◌}
use Rattle.tab_ids.specs.declared.Death.{Death}
use Rattle.tab_ids.specs.declared.DocId.{DocId}
use Rattle.tab_ids.specs.declared.EntryId.{EntryId}
use Rattle.tab_ids.specs.declared.Epoch.{Epoch}
use Rattle.tab_ids.specs.declared.NavId.{NavId}
use Rattle.tab_ids.specs.declared.ProcId.{ProcId}
use Rattle.tab_ids.specs.declared.ReqId.{ReqId}
use Rattle.tab_ids.specs.declared.StateId.{StateId}
use Rattle.log_model.specs.declared.change.Change.TheVariants as changes
use Rattle.log_model.specs.declared.job.Task.TheVariants as tasks
use Rattle.log_model.specs.declared.job.Why.TheVariants as whys
use Rattle.log_model.specs.declared.made.Report.TheVariants as reports
use Rattle.log_model.specs.declared.row_kind.RowKind.TheVariants as rows

-- ---- the places

asleep_keeps : (navs : List NavId) (why : Why) (places : List Place) → KeepsShown places (put_to_sleep navs why places)
asleep_keeps navs why places =
    map_keeps (λ (p : Place). cond (has_nav navs p.nav) (record p { status = asleep; why = why }) p) places
    (leaving_keeps _ (where_leaves (λ (p : Place). has_nav navs p.nav) (λ (p : Place). record p { status = asleep; why = why }) (record { nav = λ p. refl; above = λ p. refl; owners = λ p. refl; ever = λ p. refl; last = λ p. refl })))

on_keeps : (nav : NavId) (f : Place → Place) (places : List Place) → KeepsPlace f → KeepsShown places (on_place nav f places)
on_keeps nav f places keeps = map_keeps (λ (p : Place). cond (p.nav.0 == nav.0) (f p) p) places (where_keeps (λ (p : Place). p.nav.0 == nav.0) f keeps)

taker_keeps : (old new : History) (req : ReqId) (places : List Place) → KeepsShown places (with_taker old new req places)
taker_keeps old new req places =
    map_keeps (λ (p : Place). cond (has_row p.nav old.rows && not (has_row p.nav new.rows)) (record p { taken_by = Some req }) p) places
    (leaving_keeps _ (where_leaves (λ (p : Place). has_row p.nav old.rows && not (has_row p.nav new.rows)) (λ (p : Place). record p { taken_by = Some req }) (record { nav = λ p. refl; above = λ p. refl; owners = λ p. refl; ever = λ p. refl; last = λ p. refl })))

given_keeps : (entry : EntryId) → KeepsPlace (given_entry entry)
given_keeps entry = leaving_keeps (given_entry entry) (record { nav = λ p. refl; above = λ p. refl; owners = λ p. refl; ever = λ p. refl; last = λ p. refl })

arrived_keeps : (job : Job) → KeepsPlace (place_arrived job)
arrived_keeps job = leaving_keeps (place_arrived job) (record { nav = λ p. refl; above = λ p. refl; owners = λ p. refl; ever = λ p. refl; last = λ p. refl })

-- the document that it is shown joins those that it was
activated_keeps : (job : Job) (entry : EntryId) (epoch : Epoch) (d : Document) → KeepsPlace (activated job entry epoch d)
activated_keeps job entry epoch d =
    record {
      nav = λ p. refl;
      above = λ p. refl;
      owners = λ p. refl;
      ever = λ p doc has. or_more (job.doc.0 == doc.0) (has_doc p.ever_awake doc) has;
      last = λ p doc so is. (let same : job.doc ≡ doc = cc in ap (λ (x : DocId). has_doc (job.doc ∷ p.ever_awake) x) (sym same) ∙ ap (λ (b : Bool). b || has_doc p.ever_awake job.doc) (nat_eq_refl job.doc.0));
    }
  where
    or_more : (a b : Bool) → b ≡ true → (a || b) ≡ true
    or_more true b e = refl
    or_more false b e = e

module _ (s : Seen) where
  or_same : {A : Type 0} (f : A → List Place) (o : Option A) → ((x : A) → KeepsShown s.places (f x)) → KeepsShown s.places (option_map_or f o s.places)
  or_same f None each = keeps_same s.places
  or_same f (Some x) each = each x

  sent_keeps : (job : Job) (task : Task) → KeepsShown s.places (places_sent s job task)
  sent_keeps job (tasks.Activate entry epoch length index memo address) =
      or_same (λ (d : Document). on_place d.nav (activated job entry epoch d) (put_to_sleep (option_map_or (sleepers_below s job.doc) (place_of s d.nav) []) job.why s.places)) (document_of s job.doc)
      (λ d. let navs = option_map_or (sleepers_below s job.doc) (place_of s d.nav) [] in keeps_then s.places (put_to_sleep navs job.why s.places) (on_place d.nav (activated job entry epoch d) (put_to_sleep navs job.why s.places)) (asleep_keeps navs job.why s.places) (on_keeps d.nav (activated job entry epoch d) (put_to_sleep navs job.why s.places) (activated_keeps job entry epoch d)))
  sent_keeps job tasks.Freeze = asleep_keeps (sleepers_with s job.doc) job.why s.places
  sent_keeps job tasks.Discard = asleep_keeps (sleepers_with s job.doc) job.why s.places
  sent_keeps job (tasks.Populate nav state address initial) = keeps_same s.places
  sent_keeps job (tasks.Update length index) = keeps_same s.places
  sent_keeps job (tasks.Ask slot cause) = keeps_same s.places
  sent_keeps job (tasks.DoFragment req mode address) = keeps_same s.places

  -- by the report of a death
  bereft_reads : {B : Type 0} (read : Place → B) → ((p : Place) (death : Death) → read (record p { status = asleep; why = whys.Death death }) ≡ read p) → ((p : Place) (death : Death) → read (record p { status = lost; why = whys.Death death }) ≡ read p) → (death : Death) (p : Place) → read (place_bereft s death p) ≡ read p
  bereft_reads read sleeps loses death p = by_test (list_any (λ (nav : NavId). holds (is_hit_ s death) (place_of s nav)) p.above && not (is_asleep p))
    where
      is_hit_ : Seen → Death → Place → Bool
      is_hit_ s death x = holds (is_taken_by s death) (awake_document x)

      lost_or : (b : Bool) → read (let y : Place = cond b (record p { status = lost; why = whys.Death death }) p in y) ≡ read p
      lost_or true = loses p death
      lost_or false = refl

      by_test : (b : Bool) → read (let y : Place = cond b (record p { status = asleep; why = whys.Death death }) (cond (holds (is_taken_by s death) (awake_document p)) (record p { status = lost; why = whys.Death death }) p) in y) ≡ read p
      by_test true = sleeps p death
      by_test false = lost_or (holds (is_taken_by s death) (awake_document p))

  bereft_leaves : (death : Death) → LeavesPlace (place_bereft s death)
  bereft_leaves death =
      record {
        nav = bereft_reads (λ p. p.nav) (λ p d. refl) (λ p d. refl) death;
        above = bereft_reads (λ p. p.above) (λ p d. refl) (λ p d. refl) death;
        owners = bereft_reads (λ p. p.owners) (λ p d. refl) (λ p d. refl) death;
        ever = bereft_reads (λ p. p.ever_awake) (λ p d. refl) (λ p d. refl) death;
        last = bereft_reads (λ p. p.last) (λ p d. refl) (λ p d. refl) death;
      }

  delivered_keeps : (report : Option Report) → KeepsShown s.places (places_delivered s report)
  delivered_keeps None = keeps_same s.places
  delivered_keeps (Some (reports.Died death)) = map_keeps (place_bereft s death) s.places (leaving_keeps (place_bereft s death) (bereft_leaves death))
  delivered_keeps (Some (reports.Made made)) = keeps_same s.places
  delivered_keeps (Some (reports.Done job outcome made)) = by_task job.task
    where
      by_task : (task : Task) → KeepsShown s.places (places_delivered s (Some (reports.Done (record job { task = task }) outcome made)))
      by_task (tasks.Activate entry epoch length index memo address) =
          or_same (λ (d : Document). on_place d.nav (place_arrived job) s.places) (document_of s job.doc) (λ d. on_keeps d.nav (place_arrived job) s.places (arrived_keeps job))
      by_task (tasks.Populate nav state address initial) = keeps_same s.places
      by_task (tasks.Update length index) = keeps_same s.places
      by_task tasks.Freeze = keeps_same s.places
      by_task tasks.Discard = keeps_same s.places
      by_task (tasks.Ask slot cause) = keeps_same s.places
      by_task (tasks.DoFragment req mode address) = keeps_same s.places

  -- a change is applied
  gave_keeps : (req : ReqId) (nav : NavId) (entry : EntryId) → KeepsShown s.places (places_given s req nav entry)
  gave_keeps req nav entry =
      or_same (λ (made : Made). on_place nav (given_entry entry) s.places) (option_and_then (λ (q : Asked). q.made) (request_of s req)) (λ made. on_keeps nav (given_entry entry) s.places (given_keeps entry))

  added_keeps : (req : ReqId) (owner : StateId) (nav : NavId) → KeepsShown s.places (places_added s req owner nav)
  added_keeps req owner nav = by_holder (holder_of owner s.history.rows)
    where
      by_parent : (n : NavId) (o : Option Place) → place_of s n ≡ o → KeepsShown s.places (option_map_or (λ (parent : Place). s.places ++ new_place req nav owner parent ∷ []) o s.places)
      by_parent n None at = keeps_same s.places
      by_parent n (Some parent) at =
          more_keeps s.places (new_place req nav owner parent) parent owner (ap (λ (m : NavId). place_of s m) (own n parent at) ∙ at) refl refl refl
        where
          own : (m : NavId) (p : Place) → place_of s m ≡ Some p → p.nav ≡ m
          own m p found = nav_is p.nav m (find_has (λ (q : Place). q.nav.0 == m.0) s.places p found).1

      by_holder : (o : Option NavId) → KeepsShown s.places (option_map_or (λ (parent : Place). s.places ++ new_place req nav owner parent ∷ []) (option_and_then (place_of s) o) s.places)
      by_holder None = keeps_same s.places
      by_holder (Some n) = by_parent n (place_of s n) refl

  with_taken : (req : ReqId) (change : Change) (mid : List Place) → KeepsShown s.places mid → KeepsShown s.places (with_taker s.history (applied s.history change) req mid)
  with_taken req change mid keeps = keeps_then s.places mid (with_taker s.history (applied s.history change) req mid) keeps (taker_keeps s.history (applied s.history change) req mid)

  applied_keeps : (req : ReqId) (change : Change) → KeepsShown s.places (places_applied s req change)
  applied_keeps req (changes.Push nav entry state address memo) = with_taken req (changes.Push nav entry state address memo) (places_given s req nav entry) (gave_keeps req nav entry)
  applied_keeps req (changes.Replace nav over entry state address memo) = with_taken req (changes.Replace nav over entry state address memo) (places_given s req nav entry) (gave_keeps req nav entry)
  applied_keeps req (changes.AddFrame owner nav entry state) = with_taken req (changes.AddFrame owner nav entry state) (places_added s req owner nav) (added_keeps req owner nav)
  applied_keeps req (changes.Reload nav) =
      with_taken req (changes.Reload nav) (on_place nav (λ (p : Place). record p { is_pending = true; is_unmet = true }) s.places)
      (on_keeps nav (λ (p : Place). record p { is_pending = true; is_unmet = true }) s.places (leaving_keeps (λ (p : Place). record p { is_pending = true; is_unmet = true }) (record { nav = λ p. refl; above = λ p. refl; owners = λ p. refl; ever = λ p. refl; last = λ p. refl })))
  applied_keeps req (changes.RemoveFrame nav) = with_taken req (changes.RemoveFrame nav) s.places (keeps_same s.places)
  applied_keeps req (changes.Traverse goal) = with_taken req (changes.Traverse goal) s.places (keeps_same s.places)
  applied_keeps req changes.Edit = with_taken req changes.Edit s.places (keeps_same s.places)

  -- ---- the kept documents

  -- the document that is left for another one is the one that its navigable was shown last
  left_ever : WereShown s → (left : DocId) (d : Document) → option_and_then (λ (place : Place). place.last) (place_of s d.nav) ≡ Some left → WasEverShown s.places left
  left_ever were left d is = by_place (place_of s d.nav) refl is
    where
      by_place : (o : Option Place) → place_of s d.nav ≡ o → option_and_then (λ (place : Place). place.last) o ≡ Some left → WasEverShown s.places left
      by_place None at last_ = absurd cc
      by_place (Some place) at last_ = record { nav = d.nav; place = place; placed = at; ever = were.lasts d.nav place left at last_ }

  leaving_ever : WereShown s → (doc : DocId) (o : Option DocId) → ((left : DocId) → o ≡ Some left → WasEverShown s.places left) → (x : DocId) → Has (kept_leaving s doc o) x → WasEverShown s.places x
  leaving_ever were doc None each x there = were.kept x (has_filter (λ (d : DocId). not (d.0 == doc.0)) s.kept x there).0
  leaving_ever were doc (Some left) each x there = by_tests (left.0 == doc.0) (is_gone s left) there
    where
      by_tests : (a b : Bool) → Has (let l : List DocId = cond a s.kept (without_doc doc (cond b s.kept (left ∷ without_doc left s.kept))) in l) x → WasEverShown s.places x
      by_tests true b has = were.kept x has
      by_tests false true has = were.kept x (has_filter (λ (d : DocId). not (d.0 == doc.0)) s.kept x has).0
      by_tests false false has = by_first (has_filter (λ (d : DocId). not (d.0 == doc.0)) (left ∷ without_doc left s.kept) x has).0
        where
          by_first : Has (left ∷ without_doc left s.kept) x → WasEverShown s.places x
          by_first (inl same) = each x (ap (λ (d : DocId). Some d) same)
          by_first (inr more) = were.kept x (has_filter (λ (d : DocId). not (d.0 == left.0)) s.kept x more).0

  sent_ever : WereShown s → (doc : DocId) (task : Task) (x : DocId) → Has (kept_sent s doc task) x → WasEverShown s.places x
  sent_ever were doc (tasks.Activate entry epoch length index memo address) x there =
      leaving_ever were doc (option_and_then (λ (d : Document). option_and_then (λ (place : Place). place.last) (place_of s d.nav)) (document_of s doc)) (λ left is. by_document left (document_of s doc) is) x there
    where
      by_document : (left : DocId) (o : Option Document) → option_and_then (λ (d : Document). option_and_then (λ (place : Place). place.last) (place_of s d.nav)) o ≡ Some left → WasEverShown s.places left
      by_document left None is = absurd cc
      by_document left (Some d) is = left_ever were left d is
  sent_ever were doc tasks.Discard x there = were.kept x (has_filter (λ (d : DocId). not (d.0 == doc.0)) s.kept x there).0
  sent_ever were doc tasks.Freeze x there = were.kept x there
  sent_ever were doc (tasks.Populate nav state address initial) x there = were.kept x there
  sent_ever were doc (tasks.Update length index) x there = were.kept x there
  sent_ever were doc (tasks.Ask slot cause) x there = were.kept x there
  sent_ever were doc (tasks.DoFragment req mode address) x there = were.kept x there

  delivered_ever : WereShown s → (report : Option Report) (x : DocId) → Has (kept_delivered s report) x → WasEverShown s.places x
  delivered_ever were (Some (reports.Died death)) x there = were.kept x (has_filter (λ (doc : DocId). not (is_taken_by s death doc)) s.kept x there).0
  delivered_ever were (Some (reports.Made made)) x there = were.kept x there
  delivered_ever were (Some (reports.Done job outcome made)) x there = were.kept x there
  delivered_ever were None x there = were.kept x there

-- ---- each row

-- the row opens no tab
abbrev pub OpensNone : RowKind → Type 0
OpensNone (rows.Opened entry state doc proc slot address) = ⊥
OpensNone _ = Unit {0}

module _ (s : Seen) (event : ℕ) (actor : Actor) (were : WereShown s) where
  abbrev then_ : RowKind → Seen
  then_ kind = after s (record { event = event; actor = actor; row = kind })

  kept_as : (t : Seen) → KeepsShown s.places t.places → ((x : DocId) → Has t.kept x → WasEverShown s.places x) → WereShown t
  kept_as t keeps each = record { lasts = keeps.lasts were.lasts; kept = λ x there. keeps.still x (each x there); owned = keeps.owned were.owned }

  same_as : (t : Seen) → t.places ≡ s.places → t.kept ≡ s.kept → WereShown t
  same_as t places kept =
      record {
        lasts = subst (λ (l : List Place). LastWereShown l) (sym places) were.lasts;
        kept = λ x there. subst (λ (l : List Place). WasEverShown l x) (sym places) (were.kept x (subst (λ (l : List DocId). Has l x) kept there));
        owned = subst (λ (l : List Place). OwnersFollow l) (sym places) were.owned;
      }

  pub were_shown : (kind : RowKind) → OpensNone kind → WereShown (then_ kind)
  were_shown (rows.Opened entry state doc proc slot address) never = absurd never
  were_shown (rows.Applied req change) is = kept_as (then_ (rows.Applied req change)) (applied_keeps s req change) were.kept
  were_shown (rows.Sent job) is = kept_as (then_ (rows.Sent job)) (sent_keeps s job job.task) (λ x there. sent_ever s were job.doc job.task x there)
  were_shown (rows.Delivered proc) is =
      kept_as (then_ (rows.Delivered proc)) (delivered_keeps s (slice_get (desk_of s proc).reports 0)) (λ x there. delivered_ever s were (slice_get (desk_of s proc).reports 0) x there)
  were_shown (rows.Accepted req doc what) is = same_as (then_ (rows.Accepted req doc what)) refl refl
  were_shown (rows.Started req goal) is = same_as (then_ (rows.Started req goal)) refl refl
  were_shown (rows.Refused req reason) is = same_as (then_ (rows.Refused req reason)) refl refl
  were_shown (rows.Dropped req cause) is = same_as (then_ (rows.Dropped req cause)) refl refl
  were_shown (rows.Prompted req doc) is = same_as (then_ (rows.Prompted req doc)) refl refl
  were_shown (rows.Answered req stay) is = same_as (then_ (rows.Answered req stay)) refl refl
  were_shown (rows.Taken proc job live dirty) is = same_as (then_ (rows.Taken proc job live dirty)) refl refl
  were_shown (rows.Finished proc job outcome) is = same_as (then_ (rows.Finished proc job outcome)) refl refl
  were_shown (rows.Made proc made) is = same_as (then_ (rows.Made proc made)) refl refl
  were_shown (rows.Killed proc death) is = same_as (then_ (rows.Killed proc death)) refl refl
  were_shown (rows.Evicted state) is = same_as (then_ (rows.Evicted state)) refl refl

-- ---- a tab that was just opened

pub opened_were : (event : ℕ) (actor : Actor) (entry : EntryId) (state : StateId) (doc : DocId) (proc : ProcId) (slot : Option ℕ) (address : List ℕ) → WereShown (after nothing (record { event = event; actor = actor; row = rows.Opened entry state doc proc slot address }))
opened_were event actor entry state doc proc slot address = record { lasts = opened; kept = λ x there. absurd there; owned = hung }
  where
    opened : LastWereShown (opening_place entry doc ∷ [])
    opened nav place x at is = by_test (0 == nav.0) at
      where
        by_test : (b : Bool) → (let o : Option Place = cond b (Some (opening_place entry doc)) None in o) ≡ Some place → has_doc place.ever_awake x ≡ true
        by_test true at_ =
            let same : opening_place entry doc ≡ place = cc in
            let docs : Some doc ≡ Some x = ap (λ (p : Place). p.last) same ∙ is in
            let one : doc ≡ x = cc in
            ap (λ (p : Place). has_doc p.ever_awake x) (sym same) ∙ ap (λ (d : DocId). has_doc (doc ∷ []) d) (sym one) ∙ rw (nat_eq_refl doc.0) refl
        by_test false at_ = absurd cc

    one : (nav : NavId) (place : Place) → place_in (opening_place entry doc ∷ []) nav ≡ Some place → opening_place entry doc ≡ place
    one nav place at = by_test (0 == nav.0) at
      where
        by_test : (b : Bool) → (let o : Option Place = cond b (Some (opening_place entry doc)) None in o) ≡ Some place → opening_place entry doc ≡ place
        by_test true at_ = (let same : opening_place entry doc ≡ place = cc in same)
        by_test false at_ = absurd cc

    -- the top hangs on none
    hung : OwnersFollow (opening_place entry doc ∷ [])
    hung =
        record {
          child = λ nav place parent others at is. (let never : [] ≡ parent ∷ others = ap (λ (p : Place). p.above) (one nav place at) ∙ is in absurd cc);
          top = λ nav place at is. ap (λ (p : Place). p.owners) (sym (one nav place at));
        }
