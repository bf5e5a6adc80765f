-- Documents that keep number, navigable and document state, and places that keep the documents that their navigables were ever awake on, over each row that makes no document and shows none.
use Rattle.std.proofs.Common.{◌≡◌, Bool, true, false, cond, not, ◌&&◌, ◌==◌, List, [], ◌∷◌, ◌++◌, map, Option, Some, None, refl, sym, ap, ◌∙◌, inl, inr, ◌⊎◌}
use Rattle.std.specs.Prelude.{is_none, option_and_then, option_map}
use Rattle.std.specs.Option.{option_map_or}
use Rattle.tab_ids.specs.declared.DocId.{DocId}
use Rattle.tab_ids.specs.declared.EntryId.{EntryId}
use Rattle.tab_ids.specs.declared.NavId.{NavId}
use Rattle.tab_ids.specs.declared.ProcId.{ProcId}
use Rattle.tab_ids.specs.declared.Death.{Death}
use Rattle.tab_ids.specs.declared.ReqId.{ReqId}
use Rattle.tab_ids.specs.declared.StateId.{StateId}
use Rattle.log_model.specs.declared.change.Change.{Change}
use Rattle.log_model.specs.declared.change.Change.TheVariants as changes
use Rattle.log_model.specs.declared.job.Job.{Job}
use Rattle.log_model.specs.declared.job.Task.{Task}
use Rattle.log_model.specs.declared.job.Task.TheVariants as tasks
use Rattle.log_model.specs.declared.job.Why.{Why}
use Rattle.log_model.specs.declared.made.Made.{Made}
use Rattle.log_model.specs.declared.made.Report.{Report}
use Rattle.log_model.specs.declared.made.Report.TheVariants as reports
use Rattle.log_model.specs.declared.outcome.Outcome.{Outcome}
use Rattle.log_model.specs.declared.outcome.Outcome.TheVariants as outcomes
use Rattle.log_model.specs.AfterDocuments.{addressed, applied_to, documents_delivered, documents_finished, documents_killed, documents_sent, on_document, slot_finished, told_after_change, view_finished}
use Rattle.log_model.specs.AfterPlaces.{given_entry, is_dead_by, new_place, on_place, place_arrived, places_added, places_applied, places_delivered, places_given, places_sent, put_to_sleep, sleepers_with, with_taker}
use Rattle.log_model.specs.Equal.{has_doc}
use Rattle.log_model.specs.History.{applied, has_nav, has_row}
use Rattle.log_model.specs.Places.{holder_of}
use Rattle.log_model.specs.Seen.{Seen, Asked, Document, Place, asleep, document_of, place_in, place_of, request_of}
use Rattle.log_model.specs.Views.{View, after_made}
use Rattle.seen_facts.specs.Home.Homes.{document_in}
use Rattle.seen_laws.proofs.Keyed.{find_map}
use Rattle.seen_facts.proofs.Load.Leaves.{WasDoc, WasAwakeOn}

-- ---- documents

-- a change that leaves number, navigable and document state
pub record KeepsOwner (g : Document → Document) : Type 0 where
  pub nr : (d : Document) → (g d).nr ≡ d.nr
  pub nav : (d : Document) → (g d).nav ≡ d.nav
  pub state : (d : Document) → (g d).state ≡ d.state

pub record AreSame (documents next : List Document) : Type 0 where
  pub g : Document → Document
  pub keeps : KeepsOwner g
  pub are : next ≡ map g documents

map_itself : (documents : List Document) → map (λ (d : Document). d) documents ≡ documents
map_itself [] = refl
map_itself (d ∷ documents) = ap (λ (l : List Document). d ∷ l) (map_itself documents)

map_both : (f g : Document → Document) (documents : List Document) → map g (map f documents) ≡ map (λ (d : Document). g (f d)) documents
map_both f g [] = refl
map_both f g (d ∷ documents) = ap (λ (l : List Document). g (f d) ∷ l) (map_both f g documents)

pub same_all : (documents : List Document) → AreSame documents documents
same_all documents = record { g = λ d. d; keeps = record { nr = λ d. refl; nav = λ d. refl; state = λ d. refl }; are = sym (map_itself documents) }

pub same_mapped : (g : Document → Document) (documents : List Document) → KeepsOwner g → AreSame documents (map g documents)
same_mapped g documents keeps = record { g = g; keeps = keeps; are = refl }

same_then : (one two three : List Document) → AreSame one two → AreSame two three → AreSame one three
same_then one two three a b =
    record {
      g = λ d. b.g (a.g d);
      keeps = record { nr = λ d. b.keeps.nr (a.g d) ∙ a.keeps.nr d; nav = λ d. b.keeps.nav (a.g d) ∙ a.keeps.nav d; state = λ d. b.keeps.state (a.g d) ∙ a.keeps.state d };
      are = b.are ∙ ap (λ (l : List Document). map b.g l) a.are ∙ map_both a.g b.g one;
    }

pub keeps_if : (test : Document → Bool) (f : Document → Document) → KeepsOwner f → KeepsOwner (λ (d : Document). cond (test d) (f d) d)
keeps_if test f keeps =
    record {
      nr = λ d. elim (test d) as (λ b. (let x : Document = cond b (f d) d in x).nr ≡ d.nr) [ true ↦ keeps.nr d | false ↦ refl ];
      nav = λ d. elim (test d) as (λ b. (let x : Document = cond b (f d) d in x).nav ≡ d.nav) [ true ↦ keeps.nav d | false ↦ refl ];
      state = λ d. elim (test d) as (λ b. (let x : Document = cond b (f d) d in x).state ≡ d.state) [ true ↦ keeps.state d | false ↦ refl ];
    }

pub same_at : (doc : DocId) (f : Document → Document) (documents : List Document) → KeepsOwner f → AreSame documents (on_document doc f documents)
same_at doc f documents keeps = same_mapped (λ (d : Document). cond (d.nr.0 == doc.0) (f d) d) documents (keeps_if (λ (d : Document). d.nr.0 == doc.0) f keeps)

-- so each was there
pub was_doc : (s : Seen) (documents : List Document) → AreSame s.documents documents → (doc : DocId) (d : Document) → document_in documents doc ≡ Some d → WasDoc s doc d
was_doc s documents same doc d found = by_old (document_in s.documents doc) refl
  where
    at : document_in documents doc ≡ option_map same.g (document_in s.documents doc)
    at =
        ap (λ (l : List Document). document_in l doc) same.are ∙ find_map (λ (x : Document). x.nr.0) same.g doc.0 s.documents (λ x. ap (λ (n : DocId). n.0) (same.keeps.nr x))

    by_old : (o : Option Document) → document_in s.documents doc ≡ o → WasDoc s doc d
    by_old None e = let no_ : None ≡ Some d = sym (at ∙ ap (λ (o : Option Document). option_map same.g o) e) ∙ found in absurd cc
    by_old (Some x) e =
        let both : Some (same.g x) ≡ Some d = sym (at ∙ ap (λ (o : Option Document). option_map same.g o) e) ∙ found in
        let is : same.g x ≡ d = cc in
        record {
          before = x;
          found = e;
          nav = sym (same.keeps.nav x) ∙ ap (λ (y : Document). y.nav) is;
          state = sym (same.keeps.state x) ∙ ap (λ (y : Document). y.state) is;
        }

-- ---- what each row does to them

pub finished_docs : (documents : List Document) (hand : Option Job) (outcome : Outcome) → AreSame documents (slot_finished (documents_finished documents hand) hand outcome)
finished_docs documents None (outcomes.Populated slot) = same_all documents
finished_docs documents None outcomes.Activated = same_all documents
finished_docs documents None outcomes.Updated = same_all documents
finished_docs documents None outcomes.Frozen = same_all documents
finished_docs documents None outcomes.Discarded = same_all documents
finished_docs documents None (outcomes.Asked verdict) = same_all documents
finished_docs documents None outcomes.Fragmented = same_all documents
finished_docs documents (Some job) outcome = by_outcome outcome
  where
    viewed : AreSame documents (documents_finished documents (Some job))
    viewed = same_at job.doc (λ (d : Document). record d { view = view_finished d job.task }) documents (record { nr = λ d. refl; nav = λ d. refl; state = λ d. refl })

    by_outcome : (u : Outcome) → AreSame documents (slot_finished (documents_finished documents (Some job)) (Some job) u)
    by_outcome (outcomes.Populated slot) =
        same_then documents (documents_finished documents (Some job)) (slot_finished (documents_finished documents (Some job)) (Some job) (outcomes.Populated slot)) viewed (same_at job.doc (λ (d : Document). record d { slot = slot }) (documents_finished documents (Some job)) (record { nr = λ d. refl; nav = λ d. refl; state = λ d. refl }))
    by_outcome outcomes.Activated = viewed
    by_outcome outcomes.Updated = viewed
    by_outcome outcomes.Frozen = viewed
    by_outcome outcomes.Discarded = viewed
    by_outcome (outcomes.Asked verdict) = viewed
    by_outcome outcomes.Fragmented = viewed

pub made_docs : (made : Made) (documents : List Document) → AreSame documents (on_document made.doc (λ d. record d { view = option_map (λ (view : View). after_made view made.what) d.view }) documents)
made_docs made documents =
    same_at made.doc (λ d. record d { view = option_map (λ (view : View). after_made view made.what) d.view }) documents (record { nr = λ d. refl; nav = λ d. refl; state = λ d. refl })

pub killed_docs : (s : Seen) (proc : ProcId) (death : Death) → AreSame s.documents (documents_killed s proc death)
killed_docs s proc death =
    same_mapped (λ (d : Document). cond (d.proc.0 == proc.0 && is_none d.dead_by) (record d { dead_by = Some death; view = None }) d) s.documents (keeps_if (λ (d : Document). d.proc.0 == proc.0 && is_none d.dead_by) (λ (d : Document). record d { dead_by = Some death; view = None }) (record { nr = λ d. refl; nav = λ d. refl; state = λ d. refl }))

pub delivered_docs : (documents : List Document) (report : Option Report) → AreSame documents (documents_delivered documents report)
delivered_docs documents None = same_all documents
delivered_docs documents (Some (reports.Done job (outcomes.Populated slot) made)) =
    same_at job.doc (λ (d : Document). record d { is_ready = true; is_fresh = true }) documents (record { nr = λ d. refl; nav = λ d. refl; state = λ d. refl })
delivered_docs documents (Some (reports.Done job outcomes.Activated made)) = same_all documents
delivered_docs documents (Some (reports.Done job outcomes.Updated made)) = same_all documents
delivered_docs documents (Some (reports.Done job outcomes.Frozen made)) = same_all documents
delivered_docs documents (Some (reports.Done job outcomes.Discarded made)) = same_all documents
delivered_docs documents (Some (reports.Done job (outcomes.Asked verdict) made)) = same_all documents
delivered_docs documents (Some (reports.Done job outcomes.Fragmented made)) = same_all documents
delivered_docs documents (Some (reports.Made made)) = same_all documents
delivered_docs documents (Some (reports.Died death)) =
    same_mapped (λ (d : Document). cond (is_dead_by death d) (record d { is_known_dead = true }) d) documents (keeps_if (λ (d : Document). is_dead_by death d) (λ (d : Document). record d { is_known_dead = true }) (record { nr = λ d. refl; nav = λ d. refl; state = λ d. refl }))

-- the order makes no document
abbrev pub MakesNone : Task → Type 0
MakesNone (tasks.Populate nav state address initial) = ⊥
MakesNone _ = Unit {0}

pub sent_docs : (s : Seen) (job : Job) (task : Task) → MakesNone task → AreSame s.documents (documents_sent s job task)
sent_docs s job (tasks.Populate nav state address initial) never = absurd never
sent_docs s job (tasks.Activate entry epoch length index memo address) none = same_at job.doc (addressed (tasks.Activate entry epoch length index memo address)) s.documents (record { nr = λ d. refl; nav = λ d. refl; state = λ d. refl })
sent_docs s job (tasks.Update length index) none = same_at job.doc (addressed (tasks.Update length index)) s.documents (record { nr = λ d. refl; nav = λ d. refl; state = λ d. refl })
sent_docs s job tasks.Freeze none = same_at job.doc (addressed tasks.Freeze) s.documents (record { nr = λ d. refl; nav = λ d. refl; state = λ d. refl })
sent_docs s job tasks.Discard none = same_at job.doc (λ (d : Document). record d { is_discarded = true }) s.documents (record { nr = λ d. refl; nav = λ d. refl; state = λ d. refl })
sent_docs s job (tasks.Ask slot cause) none = same_at job.doc (addressed (tasks.Ask slot cause)) s.documents (record { nr = λ d. refl; nav = λ d. refl; state = λ d. refl })
sent_docs s job (tasks.DoFragment req mode address) none = same_at job.doc (addressed (tasks.DoFragment req mode address)) s.documents (record { nr = λ d. refl; nav = λ d. refl; state = λ d. refl })

told_same : (c : Change) → KeepsOwner (λ (d : Document). told_after_change d c)
told_same (changes.Push nav entry state address memo) = keeps_if (λ (d : Document). d.nr.0 == entry.maker) (λ (d : Document). record d { told = None }) (record { nr = λ d. refl; nav = λ d. refl; state = λ d. refl })
told_same (changes.Replace nav over entry state address memo) = record { nr = λ d. refl; nav = λ d. refl; state = λ d. refl }
told_same (changes.AddFrame owner nav entry state) = record { nr = λ d. refl; nav = λ d. refl; state = λ d. refl }
told_same (changes.RemoveFrame nav) = record { nr = λ d. refl; nav = λ d. refl; state = λ d. refl }
told_same (changes.Traverse goal) = record { nr = λ d. refl; nav = λ d. refl; state = λ d. refl }
told_same (changes.Reload nav) = record { nr = λ d. refl; nav = λ d. refl; state = λ d. refl }
told_same changes.Edit = record { nr = λ d. refl; nav = λ d. refl; state = λ d. refl }

applied_same : (c : Change) → KeepsOwner (λ (d : Document). applied_to c d)
applied_same (changes.Push nav entry state address memo) = keeps_if (λ (d : Document). d.nr.0 == entry.maker) (λ (d : Document). record d { last_applied = entry.nr }) (record { nr = λ d. refl; nav = λ d. refl; state = λ d. refl })
applied_same (changes.Replace nav over entry state address memo) = keeps_if (λ (d : Document). d.nr.0 == entry.maker) (λ (d : Document). record d { last_applied = entry.nr }) (record { nr = λ d. refl; nav = λ d. refl; state = λ d. refl })
applied_same (changes.AddFrame owner nav entry state) = record { nr = λ d. refl; nav = λ d. refl; state = λ d. refl }
applied_same (changes.RemoveFrame nav) = record { nr = λ d. refl; nav = λ d. refl; state = λ d. refl }
applied_same (changes.Traverse goal) = record { nr = λ d. refl; nav = λ d. refl; state = λ d. refl }
applied_same (changes.Reload nav) = keeps_if (λ (d : Document). d.nav.0 == nav.0) (λ (d : Document). record d { is_fresh = false }) (record { nr = λ d. refl; nav = λ d. refl; state = λ d. refl })
applied_same changes.Edit = record { nr = λ d. refl; nav = λ d. refl; state = λ d. refl }

pub changed_docs : (c : Change) (documents : List Document) → AreSame documents (map (λ (d : Document). applied_to c (told_after_change d c)) documents)
changed_docs c documents =
    same_mapped (λ (d : Document). applied_to c (told_after_change d c)) documents (record {
      nr = λ d. (applied_same c).nr (told_after_change d c) ∙ (told_same c).nr d;
      nav = λ d. (applied_same c).nav (told_after_change d c) ∙ (told_same c).nav d;
      state = λ d. (applied_same c).state (told_after_change d c) ∙ (told_same c).state d;
    })

-- ---- places

-- no navigable was awake on another document than before
abbrev pub KeepAwakes : Seen → List Place → Type 0
KeepAwakes s places = (nav : NavId) (place : Place) (doc : DocId) → place_in places nav ≡ Some place → has_doc place.ever_awake doc ≡ true → WasAwakeOn s nav doc

pub record KeepsEver (g : Place → Place) : Type 0 where
  pub nav : (p : Place) → (g p).nav ≡ p.nav
  pub ever : (p : Place) → (g p).ever_awake ≡ p.ever_awake

pub ever_if : (test : Place → Bool) (f : Place → Place) → KeepsEver f → KeepsEver (λ (p : Place). cond (test p) (f p) p)
ever_if test f keeps =
    record {
      nav = λ p. elim (test p) as (λ b. (let q : Place = cond b (f p) p in q).nav ≡ p.nav) [ true ↦ keeps.nav p | false ↦ refl ];
      ever = λ p. elim (test p) as (λ b. (let q : Place = cond b (f p) p in q).ever_awake ≡ p.ever_awake) [ true ↦ keeps.ever p | false ↦ refl ];
    }

pub same_awakes : (s : Seen) → KeepAwakes s s.places
same_awakes s nav place doc there on = record { place = place; found = there; was = on }

-- places that are changed so, after others
pub then_awakes : (s : Seen) (places : List Place) (g : Place → Place) → KeepsEver g → KeepAwakes s places → KeepAwakes s (map g places)
then_awakes s places g keeps first nav place doc there on = by_old (place_in places nav) refl
  where
    at : place_in (map g places) nav ≡ option_map g (place_in places nav)
    at = find_map (λ (p : Place). p.nav.0) g nav.0 places (λ p. ap (λ (n : NavId). n.0) (keeps.nav p))

    by_old : (o : Option Place) → place_in places nav ≡ o → WasAwakeOn s nav doc
    by_old None e = let no_ : None ≡ Some place = sym (at ∙ ap (λ (o : Option Place). option_map g o) e) ∙ there in absurd cc
    by_old (Some p) e =
        let both : Some (g p) ≡ Some place = sym (at ∙ ap (λ (o : Option Place). option_map g o) e) ∙ there in
        let is : g p ≡ place = cc in
        first nav p doc e (ap (λ (l : List DocId). has_doc l doc) (sym (keeps.ever p) ∙ ap (λ (q : Place). q.ever_awake) is) ∙ on)

pub on_awakes : (s : Seen) (places : List Place) (nav : NavId) (f : Place → Place) → KeepsEver f → KeepAwakes s places → KeepAwakes s (on_place nav f places)
on_awakes s places nav f keeps first = then_awakes s places (λ (p : Place). cond (p.nav.0 == nav.0) (f p) p) (ever_if (λ (p : Place). p.nav.0 == nav.0) f keeps) first

pub asleep_awakes : (s : Seen) (navs : List NavId) (why : Why) → KeepAwakes s (put_to_sleep navs why s.places)
asleep_awakes s navs why =
    then_awakes s s.places (λ (p : Place). cond (has_nav navs p.nav) (record p { status = asleep; why = why }) p) (ever_if (λ (p : Place). has_nav navs p.nav) (λ (p : Place). record p { status = asleep; why = why }) (record { nav = λ p. refl; ever = λ p. refl })) (same_awakes s)

-- what is found of a list with one place more was there, or is the new one
pub found_behind : (nav : NavId) (places : List Place) (new place : Place) → place_in (places ++ new ∷ []) nav ≡ Some place → (place_in places nav ≡ Some place) ⊎ (new ≡ place)
found_behind nav [] new place e = by_test (new.nav.0 == nav.0) e
  where
    by_test : (b : Bool) → (let o : Option Place = cond b (Some new) None in o) ≡ Some place → (place_in [] nav ≡ Some place) ⊎ (new ≡ place)
    by_test true f = inr (let is : new ≡ place = cc in is)
    by_test false f = absurd cc
found_behind nav (p ∷ places) new place e = by_test (p.nav.0 == nav.0) (found_behind nav places new place) e
  where
    by_test : (b : Bool) → (place_in (places ++ new ∷ []) nav ≡ Some place → (place_in places nav ≡ Some place) ⊎ (new ≡ place)) → cond b (Some p) (place_in (places ++ new ∷ []) nav) ≡ Some place → ((let o : Option Place = cond b (Some p) (place_in places nav) in o) ≡ Some place) ⊎ (new ≡ place)
    by_test true more f = inl f
    by_test false more f = more f

-- a new place was awake on none
new_awakes : (s : Seen) (new : Place) → new.ever_awake ≡ [] → KeepAwakes s (s.places ++ new ∷ [])
new_awakes s new none nav place doc there on = by_which (found_behind nav s.places new place there)
  where
    by_which : (place_in s.places nav ≡ Some place) ⊎ (new ≡ place) → WasAwakeOn s nav doc
    by_which (inl was) = record { place = place; found = was; was = on }
    by_which (inr is) = let no_ : false ≡ true = ap (λ (l : List DocId). has_doc l doc) (sym none ∙ ap (λ (p : Place). p.ever_awake) is) ∙ on in absurd cc

given_awakes : (s : Seen) (req : ReqId) (nav : NavId) (entry : EntryId) → KeepAwakes s (places_given s req nav entry)
given_awakes s req nav entry = by_made (option_and_then (λ (q : Asked). q.made) (request_of s req))
  where
    by_made : (o : Option Made) → KeepAwakes s (option_map_or (λ (made : Made). on_place nav (given_entry entry) s.places) o s.places)
    by_made None = same_awakes s
    by_made (Some made) = on_awakes s s.places nav (given_entry entry) (record { nav = λ p. refl; ever = λ p. refl }) (same_awakes s)

added_awakes : (s : Seen) (req : ReqId) (owner : StateId) (nav : NavId) → KeepAwakes s (places_added s req owner nav)
added_awakes s req owner nav = by_parent (option_and_then (place_of s) (holder_of owner s.history.rows))
  where
    by_parent : (o : Option Place) → KeepAwakes s (option_map_or (λ parent. s.places ++ new_place req nav owner parent ∷ []) o s.places)
    by_parent None = same_awakes s
    by_parent (Some parent) = new_awakes s (new_place req nav owner parent) refl

taken_awakes : (s : Seen) (req : ReqId) (change : Change) (places : List Place) → KeepAwakes s places → KeepAwakes s (with_taker s.history (applied s.history change) req places)
taken_awakes s req change places first =
    then_awakes s places (λ (p : Place). cond (has_row p.nav s.history.rows && not (has_row p.nav (applied s.history change).rows)) (record p { taken_by = Some req }) p) (ever_if (λ (p : Place). has_row p.nav s.history.rows && not (has_row p.nav (applied s.history change).rows)) (λ (p : Place). record p { taken_by = Some req }) (record { nav = λ p. refl; ever = λ p. refl })) first

pub applied_awakes : (s : Seen) (req : ReqId) (change : Change) → KeepAwakes s (places_applied s req change)
applied_awakes s req (changes.Push nav entry state address memo) = taken_awakes s req (changes.Push nav entry state address memo) (places_given s req nav entry) (given_awakes s req nav entry)
applied_awakes s req (changes.Replace nav over entry state address memo) = taken_awakes s req (changes.Replace nav over entry state address memo) (places_given s req nav entry) (given_awakes s req nav entry)
applied_awakes s req (changes.AddFrame owner nav entry state) = taken_awakes s req (changes.AddFrame owner nav entry state) (places_added s req owner nav) (added_awakes s req owner nav)
applied_awakes s req (changes.RemoveFrame nav) = taken_awakes s req (changes.RemoveFrame nav) s.places (same_awakes s)
applied_awakes s req (changes.Traverse goal) = taken_awakes s req (changes.Traverse goal) s.places (same_awakes s)
applied_awakes s req (changes.Reload nav) =
    taken_awakes s req (changes.Reload nav) (on_place nav (λ place. record place { is_pending = true; is_unmet = true }) s.places) (on_awakes s s.places nav (λ place. record place { is_pending = true; is_unmet = true }) (record { nav = λ p. refl; ever = λ p. refl }) (same_awakes s))
applied_awakes s req changes.Edit = taken_awakes s req changes.Edit s.places (same_awakes s)

-- no death is reported
abbrev pub NoDeath : Option Report → Type 0
NoDeath (Some (reports.Died death)) = ⊥
NoDeath _ = Unit {0}

arrived_awakes : (s : Seen) (job : Job) (o : Option Document) → KeepAwakes s (option_map_or (λ (d : Document). on_place d.nav (place_arrived job) s.places) o s.places)
arrived_awakes s job None = same_awakes s
arrived_awakes s job (Some d) = on_awakes s s.places d.nav (place_arrived job) (record { nav = λ p. refl; ever = λ p. refl }) (same_awakes s)

pub delivered_awakes : (s : Seen) (report : Option Report) → NoDeath report → KeepAwakes s (places_delivered s report)
delivered_awakes s None no_death = same_awakes s
delivered_awakes s (Some (reports.Died death)) never = absurd never
delivered_awakes s (Some (reports.Made made)) no_death = same_awakes s
delivered_awakes s (Some (reports.Done job outcome made)) no_death = by_task job.task
  where
    by_task : (task : Task) → KeepAwakes s (places_delivered s (Some (reports.Done (record job { task = task }) outcome made)))
    by_task (tasks.Activate entry epoch length index memo address) = arrived_awakes s job (document_of s job.doc)
    by_task (tasks.Populate nav state address initial) = same_awakes s
    by_task (tasks.Update length index) = same_awakes s
    by_task tasks.Freeze = same_awakes s
    by_task tasks.Discard = same_awakes s
    by_task (tasks.Ask slot cause) = same_awakes s
    by_task (tasks.DoFragment req mode address) = same_awakes s

-- the order shows no document
abbrev pub ShowsNone : Task → Type 0
ShowsNone (tasks.Activate entry epoch length index memo address) = ⊥
ShowsNone _ = Unit {0}

pub sent_awakes : (s : Seen) (job : Job) (task : Task) → ShowsNone task → KeepAwakes s (places_sent s job task)
sent_awakes s job (tasks.Activate entry epoch length index memo address) never = absurd never
sent_awakes s job (tasks.Populate nav state address initial) none = same_awakes s
sent_awakes s job (tasks.Update length index) none = same_awakes s
sent_awakes s job tasks.Freeze none = asleep_awakes s (sleepers_with s job.doc) job.why
sent_awakes s job tasks.Discard none = asleep_awakes s (sleepers_with s job.doc) job.why
sent_awakes s job (tasks.Ask slot cause) none = same_awakes s
sent_awakes s job (tasks.DoFragment req mode address) none = same_awakes s
