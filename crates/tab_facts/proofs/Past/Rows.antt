-- It stays over the rows that send no order: what users and processes do, requests that begin or end, changes that are applied, and reports.
use Rattle.seen_facts.proofs.Coord.Kept.{IsInHand, is_mine}
use Rattle.seen_facts.proofs.Coord.Leadings.{doc_same, proc_same}
use Rattle.seen_facts.proofs.Coord.WithinLeft.{delivered_within}
use Rattle.seen_facts.proofs.Fragment.Joined.{within_after}
use Rattle.log_model.proofs.Refl.{nat_eq_refl}
use Rattle.seen_facts.proofs.Coord.Held.{made_of, on_alike}
use Rattle.seen_facts.proofs.Coord.OneMade.{once_made}
use Rattle.seen_facts.proofs.Coord.SentAway.{within_alike}
use Rattle.seen_facts.proofs.Coord.Unread.{DesksLeft, dropped_left, next, refused_left}
use Rattle.seen_facts.proofs.Coord.Within.{finished_apart, finished_within, taken_within}
use Rattle.seen_facts.specs.Coord.Epochs.{AllWithin, IsWithin, MadeWithin}
use Rattle.seen_facts.proofs.Desk.Stays.{NoDeath}
use Rattle.seen_facts.specs.Coord.Leading.{held_back, once_finished, orders_for}
use Rattle.seen_facts.proofs.Doc.Lives.{change_keeps, takes_in}
use Rattle.seen_facts.specs.Doc.Docs.{AreDocs, HasPlace}
use Rattle.seen_facts.proofs.Entry.Applied.{applied_made}
use Rattle.seen_facts.proofs.Entry.Skips.{Skips, hand_skips, held_skips, made_in, skips_append, without_made}
use Rattle.tab_facts.proofs.FrameWhole.FlowsEnds.{within_skip}
use Rattle.seen_facts.specs.Entry.Entries.{waiting}
use Rattle.log_model.specs.After.{desk_delivered, desk_finished, desk_made, desk_taken, desks_made, ended, follows_finished, on_desk, on_document, reports_made}
use Rattle.log_model.specs.AfterDocuments.{documents_delivered, documents_finished, opening_document, slot_finished, told_after_change, view_finished}
use Rattle.log_model.specs.AfterPlaces.{opening_place}
use Rattle.log_model.specs.AfterRequests.{made_of_report, without_req}
use Rattle.log_model.specs.Seen.{Asked, Desk, Document, Place, Seen, desk_of, document_of, nothing}
use Rattle.log_model.specs.Views.{View, after_made}
use Rattle.log_model.specs.declared.change.Change.{Change}
use Rattle.log_model.specs.declared.job.Job.{Job}
use Rattle.log_model.specs.declared.job.Order.{Order}
use Rattle.log_model.specs.declared.made.Made.{Made}
use Rattle.log_model.specs.declared.made.Report.{Report}
use Rattle.log_model.specs.declared.made.What.{What}
use Rattle.log_model.specs.declared.outcome.Cause.{Cause}
use Rattle.log_model.specs.declared.outcome.Denial.{Denial}
use Rattle.log_model.specs.declared.outcome.Ending.{Ending}
use Rattle.log_model.specs.declared.outcome.Outcome.{Outcome}
use Rattle.log_model.specs.declared.row_kind.Actor.{Actor}
use Rattle.tab_facts.proofs.Past.Ones.{IsPastAlike, alike_was, desk_was, one_was}
use Rattle.tab_facts.proofs.Past.Past.{AllWereLast, WasPast, past_over}
use Rattle.tab_facts.proofs.Past.Places.{applied_last, delivered_last, same_last}
use Rattle.tab_facts.specs.Past.Past.{ArePast}
use Rattle.seen_facts.specs.Home.Homes.{document_in}
use Rattle.seen_laws.proofs.Desks.{desk_on_other, desk_on_same}
use Rattle.seen_laws.proofs.Keyed.{find_has, find_map}
use Rattle.std.proofs.Common.{Bool, List, None, Option, Some, [], ap, cond, false, inl, length, map, refl, subst, sym, true, ℕ, ◌++◌, ◌==◌, ◌∙◌, ◌∷◌, ◌≡◌, ◌≤◌}
use Rattle.std.specs.Prelude.{filter_map, option_map, slice_get}
use Rattle.tab_ids.specs.declared.DocId.{DocId}
use Rattle.tab_ids.specs.declared.EntryId.{EntryId}
use Rattle.tab_ids.specs.declared.Epoch.{Epoch}
use Rattle.tab_ids.specs.declared.ProcId.{ProcId}
use Rattle.tab_ids.specs.declared.ReqId.{ReqId}
use Rattle.tab_ids.specs.declared.StateId.{StateId}
use Rattle.log_model.specs.declared.change.Change.TheVariants as changes
use Rattle.log_model.specs.declared.made.Report.TheVariants as reports
use Rattle.log_model.specs.declared.made.What.TheVariants as whats
use Rattle.log_model.specs.declared.outcome.Ending.TheVariants as endings
use Rattle.log_model.specs.declared.outcome.Outcome.TheVariants as outcomes
use Rattle.log_model.specs.declared.row_kind.Actor.TheVariants as actors
use Rattle.log_model.specs.declared.row_kind.RowKind.TheVariants as rows

pub map_same : {A : Type 0} (xs : List A) → map (λ (x : A). x) xs ≡ xs
map_same [] = refl
map_same (x ∷ xs) = ap (λ (l : List _). x ∷ l) (map_same xs)

-- each document has a place
pub have_places : (s : Seen) → AreDocs s → (doc : DocId) (d : Document) → document_of s doc ≡ Some d → HasPlace s.places d.nav
have_places s docs doc d found = (docs.each doc d found).placed

-- ---- each process is as it was, but for its input

-- documents are as they were, and of what waits only some goes
pub left_past : (hand next_hand : List Made) (s t : Seen) → AreDocs s → DesksLeft s t → t.documents ≡ s.documents → AllWereLast s.places t.places → ((bound : ℕ) (doc : DocId) → MadeWithin bound doc (waiting s hand) → MadeWithin bound doc (waiting t next_hand)) → ArePast hand s → ArePast next_hand t
left_past hand next_hand s t docs left documents lasts waits =
    past_over hand next_hand s t
    (alike_was hand next_hand s t (λ (d : Document). d)
    (record {
      documents = documents ∙ sym (map_same s.documents);
      nr = λ d. refl;
      nav = λ d. refl;
      proc = λ d. refl;
      view = λ d. refl;
      orders = λ proc doc. ap (λ (desk : Desk). orders_for desk doc) (left proc).1;
      reports = λ doc d found bound held reports. subst (λ (desk : Desk). MadeWithin bound d.nr (filter_map made_of_report desk.reports)) (sym (left d.proc).1) reports;
      waits = λ doc d found bound held reports. waits bound d.nr held;
    }))
    (have_places s docs) lasts

-- where all of it waits still
pub still_past : (hand next_hand : List Made) (s t : Seen) → AreDocs s → DesksLeft s t → t.documents ≡ s.documents → AllWereLast s.places t.places → waiting t next_hand ≡ waiting s hand → ArePast hand s → ArePast next_hand t
still_past hand next_hand s t docs left documents lasts waits =
    left_past hand next_hand s t docs left documents lasts (λ bound doc held. subst (λ (l : List Made). MadeWithin bound doc l) (sym waits) held)

-- ---- a change is applied

-- documents are as they were, as far as is read, and so are desks; of what waits the first that was told goes
pub changed_past : (hand next_hand : List Made) (s t : Seen) (g : Document → Document) → AreDocs s → IsPastAlike hand next_hand s t g → AllWereLast s.places t.places → ArePast hand s → ArePast next_hand t
changed_past hand next_hand s t g docs alike lasts =
    past_over hand next_hand s t (alike_was hand next_hand s t g alike) (have_places s docs) lasts

-- ---- a finished order

-- what it makes of its document
abbrev finishes : Job → Outcome → Document → Document
finishes job (outcomes.Populated slot) d = record (once_finished d job) { slot = slot }
finishes job outcome d = once_finished d job

finishes_as : (job : Job) (outcome : Outcome) (d : Document) → ((finishes job outcome d).nr ≡ d.nr) × ((finishes job outcome d).proc ≡ d.proc) × ((finishes job outcome d).nav ≡ d.nav) × ((finishes job outcome d).view ≡ (once_finished d job).view)
finishes_as job (outcomes.Populated slot) d = (refl, refl, refl, refl)
finishes_as job outcome d = (refl, refl, refl, refl)

twice : (doc : DocId) (f g : Document → Document) → ((d : Document) → (g d).nr ≡ d.nr) → (documents : List Document) → on_document doc f (on_document doc g documents) ≡ on_document doc (λ (d : Document). f (g d)) documents
twice doc f g keeps [] = refl
twice doc f g keeps (d ∷ documents) =
    ap (λ (x : Document). x ∷ on_document doc f (on_document doc g documents)) (by_test (d.nr.0 == doc.0) refl)
    ∙ ap (λ (l : List Document). (let x : Document = cond (d.nr.0 == doc.0) (f (g d)) d in x) ∷ l) (twice doc f g keeps documents)
  where
    by_test : (b : Bool) → (d.nr.0 == doc.0) ≡ b → (let x : Document = cond b (g d) d in (let y : Document = cond (x.nr.0 == doc.0) (f x) x in y)) ≡ (let z : Document = cond b (f (g d)) d in z)
    by_test true e =
        (let here : ((g d).nr.0 == doc.0) ≡ true = ap (λ (n : DocId). n.0 == doc.0) (keeps d) ∙ e in rw here refl)
    by_test false e = rw e refl

finishes_are : (job : Job) (outcome : Outcome) (documents : List Document) → slot_finished (documents_finished documents (Some job)) (Some job) outcome ≡ on_document job.doc (finishes job outcome) documents
finishes_are job (outcomes.Populated slot) documents =
    twice job.doc (λ (d : Document). record d { slot = slot }) (λ (d : Document). record d { view = view_finished d job.task }) (λ d. refl) documents
finishes_are job outcome documents = refl

-- ---- a process works

module _ (s : Seen) (event : ℕ) (proc : ProcId) (docs : AreDocs s) where
  pub taken_past : (job : Job) (dirty : Bool) → (desk_of s proc).in_hand ≡ None → slice_get (desk_of s proc).mail 0 ≡ Some job → ArePast [] s → ArePast [] (next s event (actors.Proc proc) (rows.Taken proc job.nr true dirty))
  taken_past job dirty free first =
      past_over [] [] s t
      (desk_was [] [] s t proc (desk_taken true dirty) refl (λ desk. refl) refl (λ doc d bound found was. taken_within (waiting s []) (desk_of s proc) job dirty d bound free first was) (λ doc d bound found apart was. was))
      (have_places s docs) (same_last s.places)
    where
      t : Seen
      t = next s event (actors.Proc proc) (rows.Taken proc job.nr true dirty)

  -- an order in hand is finished: what it shows was to come
  pub finished_past : (order : Order) (outcome : Outcome) → IsInHand s proc order → waiting (next s event (actors.Proc proc) (rows.Finished proc order.job.nr outcome)) [] ≡ waiting s [] → ArePast [] s → ArePast [] (next s event (actors.Proc proc) (rows.Finished proc order.job.nr outcome))
  finished_past order outcome in_ waits =
      past_over [] [] s t
      (one_was [] [] s t proc (desk_finished outcome) order.job.doc (finishes order.job outcome)
      (record {
        else_ = record {
          desks = refl;
          documents = ap (λ (job : Option Job). slot_finished (documents_finished s.documents job) job outcome) (ap (λ (o : Option Order). option_map (λ (x : Order). x.job) o) in_.hand) ∙ finishes_are order.job outcome s.documents;
          keeps_proc = λ desk. refl;
          keeps_number = λ d. (finishes_as order.job outcome d).0;
          other = λ d bound apart was. finished_apart (waiting s []) (desk_of s proc) order outcome d bound in_.hand apart was;
          waits = waits;
        };
        stays = λ d. (finishes_as order.job outcome d).1;
        stays_in = λ d. (finishes_as order.job outcome d).2;
        home = in_.home;
        own = λ d bound there was. within_alike (waiting s []) (desk_finished outcome (desk_of s proc)) (once_finished d order.job) (finishes order.job outcome d) bound (finishes_as order.job outcome d).0 (finishes_as order.job outcome d).3 (finished_within (waiting s []) (desk_of s proc) order outcome d bound in_.hand (is_mine d.nr (length (desk_of s proc).killed) order.job (sym (find_has (λ (x : Document). x.nr.0) order.job.doc.0 s.documents d there)) in_.lives) was);
      }))
      (have_places s docs) (same_last s.places)
    where
      t : Seen
      t = next s event (actors.Proc proc) (rows.Finished proc order.job.nr outcome)

  -- ---- a document makes something, under the epoch of its view

  pub record IsActing (t : Seen) (made : Made) (f : Desk → Desk) (g : Document → Document) : Type 0 where
    pub desks : t.desks ≡ on_desk proc f s.desks
    pub documents : t.documents ≡ on_document made.doc g s.documents
    pub places : t.places ≡ s.places
    pub waits : waiting t [] ≡ waiting s []
    pub keeps_proc : (desk : Desk) → (f desk).proc ≡ desk.proc
    pub orders : (doc : DocId) → orders_for (f (desk_of s proc)) doc ≡ orders_for (desk_of s proc) doc
    -- what its reports tell of is within a bound with what it made, unless that isn't reported
    pub told : (bound : ℕ) (doc : DocId) → MadeWithin bound doc (filter_map made_of_report (desk_of s proc).reports) → (made.doc.0 ≡ doc.0 → made.epoch.0 ≤ bound) → MadeWithin bound doc (filter_map made_of_report (f (desk_of s proc)).reports)
    pub keeps_number : (d : Document) → (g d).nr ≡ d.nr
    pub stays : (d : Document) → (g d).proc ≡ d.proc
    pub stays_in : (d : Document) → (g d).nav ≡ d.nav
    pub home : (d : Document) → document_of s made.doc ≡ Some d → d.proc ≡ proc
    pub under : (d : Document) → document_of s made.doc ≡ Some d → (view : View) × (d.view ≡ Some view) × (made.epoch ≡ view.epoch)
    pub views : (d : Document) (view : View) → (g d).view ≡ Some view → (was : View) × (d.view ≡ Some was) × (view.epoch ≡ was.epoch)

  module _ (t : Seen) (made : Made) (f : Desk → Desk) (g : Document → Document) (is : IsActing t made f g) where
    with_it : (d : Document) (bound : ℕ) → (made.doc.0 ≡ d.nr.0 → made.epoch.0 ≤ bound) → IsWithin (waiting s []) (desk_of s proc) d bound → IsWithin (waiting s []) (f (desk_of s proc)) d bound
    with_it d bound low was =
        record {
          view = was.view;
          orders = subst (λ (l : List Job). AllWithin bound l) (sym (is.orders d.nr)) was.orders;
          held_back = was.held_back;
          reports = is.told bound d.nr was.reports low;
        }

    its : (d : Document) (bound : ℕ) → document_of s made.doc ≡ Some d → IsWithin (waiting s []) (desk_of s proc) d bound → made.epoch.0 ≤ bound
    its d bound there was =
        let under = is.under d there in
        subst (λ (k : Epoch). k.0 ≤ bound) (sym under.2) (was.view under.0 under.1)

    changed : (d : Document) (bound : ℕ) → IsWithin (waiting s []) (f (desk_of s proc)) d bound → IsWithin (waiting s []) (f (desk_of s proc)) (g d) bound
    changed d bound was =
        record {
          view = λ view has. (let before = is.views d view has in subst (λ (k : Epoch). k.0 ≤ bound) (sym before.2) (was.view before.0 before.1));
          orders = subst (λ (n : DocId). AllWithin bound (orders_for (f (desk_of s proc)) n)) (sym (is.keeps_number d)) was.orders;
          held_back = subst (λ (n : DocId). MadeWithin bound n (waiting s [])) (sym (is.keeps_number d)) was.held_back;
          reports = subst (λ (n : DocId). MadeWithin bound n (filter_map made_of_report (f (desk_of s proc)).reports)) (sym (is.keeps_number d)) was.reports;
        }

    pub acted_past : ArePast [] s → ArePast [] t
    acted_past =
        past_over [] [] s t
        (one_was [] [] s t proc f made.doc g
        (record {
          else_ = record {
            desks = is.desks;
            documents = is.documents;
            keeps_proc = is.keeps_proc;
            keeps_number = is.keeps_number;
            other = λ d bound apart was. with_it d bound (λ mine. (let yes : (made.doc.0 == d.nr.0) ≡ true = rw mine (nat_eq_refl d.nr.0) in let no_ : true ≡ false = sym yes ∙ apart in absurd cc)) was;
            waits = is.waits;
          };
          stays = is.stays;
          stays_in = is.stays_in;
          home = is.home;
          own = λ d bound there was. changed d bound (with_it d bound (λ mine. its d bound there was) was);
        }))
        (have_places s docs) (subst (λ (l : List Place). AllWereLast s.places l) (sym is.places) (same_last s.places))

-- ---- the row of what a document made

made_views : (what : What) (d : Document) (view : View) → (once_made what d).view ≡ Some view → (was : View) × (d.view ≡ Some was) × (view.epoch ≡ was.epoch)
made_views what d view has = by_view d.view refl has
  where
    keeps : (v : View) (w : What) → (after_made v w).epoch ≡ v.epoch
    keeps v (whats.Push entry memo address) = refl
    keeps v (whats.Replace over entry memo address) = refl
    keeps v (whats.AddFrame nav) = refl
    keeps v (whats.RemoveFrame nav) = refl
    keeps v (whats.Go delta) = refl
    keeps v whats.Edit = refl

    by_view : (o : Option View) → d.view ≡ o → option_map (λ (v : View). after_made v what) o ≡ Some view → (was : View) × (d.view ≡ Some was) × (view.epoch ≡ was.epoch)
    by_view None e never = absurd cc
    by_view (Some v) e mapped =
        let same : after_made v what ≡ view = cc in (v, e, ap (λ (x : View). x.epoch) (sym same) ∙ keeps v what)

module _ (s : Seen) (event : ℕ) (proc : ProcId) (docs : AreDocs s) (made : Made) (d : Document) (view : View) (found : document_of s made.doc ≡ Some d) (has : d.view ≡ Some view) (home : d.proc ≡ proc) (under : made.epoch ≡ view.epoch) where
  abbrev after_making : Seen
  after_making = next s event (actors.Proc proc) (rows.Made proc made)

  -- it joins the report of the order that was just finished, or has one of its own
  pub acted_row_past : (b : Bool) → follows_finished s (record { event = event; actor = actors.Proc proc; row = rows.Made proc made }) ≡ b → filter_map made_of_report (desks_made b made (desk_of s proc)).reports ≡ filter_map made_of_report (desk_of s proc).reports ++ made ∷ [] → waiting after_making [] ≡ waiting s [] → ArePast [] s → ArePast [] after_making
  acted_row_past b e told waits =
      acted_past s event proc docs after_making made (desks_made b made) (once_made made.what)
      (record {
        desks = ap (λ (c : Bool). on_desk proc (desks_made c made) s.desks) e;
        documents = refl;
        places = refl;
        waits = waits;
        keeps_proc = keeps_proc b;
        orders = orders b;
        told = λ bound doc was low. subst (λ (l : List Made). MadeWithin bound doc l) (sym told) (within_after bound doc (filter_map made_of_report (desk_of s proc).reports) made was low);
        keeps_number = λ x. refl;
        stays = λ x. refl;
        stays_in = λ x. refl;
        home = λ x there. ap (λ (y : Document). y.proc) (one x there) ∙ home;
        under = λ x there. (view, ap (λ (y : Document). y.view) (one x there) ∙ has, under);
        views = made_views made.what;
      })
    where
      one : (x : Document) → document_of s made.doc ≡ Some x → x ≡ d
      one x there = (let both : Some x ≡ Some d = sym there ∙ found in cc)

      keeps_proc : (c : Bool) (desk : Desk) → (desks_made c made desk).proc ≡ desk.proc
      keeps_proc true desk = refl
      keeps_proc false desk = refl

      orders : (c : Bool) (doc : DocId) → orders_for (desks_made c made (desk_of s proc)) doc ≡ orders_for (desk_of s proc) doc
      orders true doc = refl
      orders false doc = refl

  -- an edit isn't reported
  pub edited_row_past : made.what ≡ whats.Edit → follows_finished s (record { event = event; actor = actors.Proc proc; row = rows.Made proc made }) ≡ false → waiting after_making [] ≡ waiting s [] → ArePast [] s → ArePast [] after_making
  edited_row_past edits anew waits =
      acted_past s event proc docs after_making made (desk_made made) (once_made made.what)
      (record {
        desks = ap (λ (c : Bool). on_desk proc (desks_made c made) s.desks) anew;
        documents = refl;
        places = refl;
        waits = waits;
        keeps_proc = λ desk. refl;
        orders = λ doc. refl;
        told = λ bound doc was low. subst (λ (w : What). MadeWithin bound doc (filter_map made_of_report (reports_made (desk_of s proc).reports made w))) (sym edits) was;
        keeps_number = λ x. refl;
        stays = λ x. refl;
        stays_in = λ x. refl;
        home = λ x there. ap (λ (y : Document). y.proc) (one x there) ∙ home;
        under = λ x there. (view, ap (λ (y : Document). y.view) (one x there) ∙ has, under);
        views = made_views made.what;
      })
    where
      one : (x : Document) → document_of s made.doc ≡ Some x → x ≡ d
      one x there = (let both : Some x ≡ Some d = sym there ∙ found in cc)

-- ---- a request ends

-- with it goes what was made of it
ended_within : (hand : List Made) (s t : Seen) (req : ReqId) → ((r : ReqId) → made_in t.requests r ≡ made_in s.requests r) → t.parked ≡ without_req req s.parked → (bound : ℕ) (doc : DocId) → MadeWithin bound doc (waiting s hand) → MadeWithin bound doc (waiting t (without_made req hand))
ended_within hand s t req made parked bound doc =
    within_skip (λ (m : Made). Unit {0}) bound doc (waiting s hand) (waiting t (without_made req hand))
    (subst (λ (l : List ReqId). Skips (λ (m : Made). Unit {0}) (waiting s hand) (held_back t.requests l ++ without_made req hand)) (sym parked)
    (skips_append (λ (m : Made). Unit {0}) (held_back s.requests s.parked) (held_back t.requests (without_req req s.parked)) hand (without_made req hand) (held_skips (λ (m : Made). Unit {0}) s.requests t.requests s.parked req made (λ r m its has is. tt)) (hand_skips (λ (m : Made). Unit {0}) req hand (λ m has its. tt))))

pub ended_past : (hand : List Made) (s t : Seen) (req : ReqId) → AreDocs s → DesksLeft s t → t.documents ≡ s.documents → t.places ≡ s.places → ((r : ReqId) → made_in t.requests r ≡ made_in s.requests r) → t.parked ≡ without_req req s.parked → ArePast hand s → ArePast (without_made req hand) t
ended_past hand s t req docs left documents places made parked =
    left_past hand (without_made req hand) s t docs left documents (subst (λ (l : List Place). AllWereLast s.places l) (sym places) (same_last s.places)) (ended_within hand s t req made parked)

ended_made : (s : Seen) (req : ReqId) (ending : Ending) (r : ReqId) → made_in (ended s.requests req ending) r ≡ made_in s.requests r
ended_made s req ending r =
    on_alike made_of s.requests req (λ (q : Asked). record q { ending = Some ending }) r (λ q. refl)

module _ (hand : List Made) (s : Seen) (event : ℕ) (actor : Actor) (docs : AreDocs s) (req : ReqId) where
  pub dropped_past : (cause : Cause) → ArePast hand s → ArePast (without_made req hand) (next s event actor (rows.Dropped req cause))
  dropped_past cause =
      ended_past hand s (next s event actor (rows.Dropped req cause)) req docs (dropped_left s event actor req cause) refl refl (ended_made s req (endings.Dropped cause)) refl

  pub refused_past : (reason : Denial) → ArePast hand s → ArePast (without_made req hand) (next s event actor (rows.Refused req reason))
  refused_past reason =
      ended_past hand s (next s event actor (rows.Refused req reason)) req docs (refused_left s event actor req reason) refl refl (ended_made s req (endings.Refused reason)) refl

-- ---- a change is applied

cond_view : (b : Bool) (x y : Document) → x.view ≡ y.view → (let z : Document = cond b x y in z).view ≡ y.view
cond_view true x y e = e
cond_view false x y e = refl

-- it leaves what a document shows
view_as : (change : Change) (d : Document) → (takes_in change d).view ≡ d.view
view_as (changes.Push nav entry state address memo) d =
    (let told : Document = told_after_change d (changes.Push nav entry state address memo) in cond_view (told.nr.0 == entry.maker) (record told { last_applied = entry.nr }) told refl)
    ∙ cond_view (d.nr.0 == entry.maker) (record d { told = None }) d refl
view_as (changes.Replace nav over entry state address memo) d =
    cond_view (d.nr.0 == entry.maker) (record d { last_applied = entry.nr }) d refl
view_as (changes.Reload nav) d = cond_view (d.nav.0 == nav.0) (record d { is_fresh = false }) d refl
view_as (changes.AddFrame owner nav entry state) d = refl
view_as (changes.RemoveFrame nav) d = refl
view_as (changes.Traverse goal) d = refl
view_as changes.Edit d = refl

module _ (hand : List Made) (s : Seen) (event : ℕ) (actor : Actor) (docs : AreDocs s) (req : ReqId) (change : Change) where
  abbrev t : Seen
  t = next s event actor (rows.Applied req change)

  pub applied_past : ArePast hand s → ArePast (without_made req hand) t
  applied_past =
      changed_past hand (without_made req hand) s t (takes_in change) docs
      (record {
        documents = refl;
        nr = (change_keeps change).nr;
        nav = (change_keeps change).nav;
        proc = (change_keeps change).proc;
        view = view_as change;
        orders = λ proc doc. refl;
        reports = λ doc d found bound held reports. reports;
        waits = λ doc d found bound held reports. ended_within hand s t req (applied_made s event actor req change) refl bound d.nr held;
      })
      (applied_last s req change)

-- ---- a report is delivered

-- what it makes of the documents
abbrev delivers : Option Report → Document → Document
delivers (Some (reports.Done job (outcomes.Populated slot) made)) d =
    cond (d.nr.0 == job.doc.0) (record d { is_ready = true; is_fresh = true }) d
delivers report d = d

-- the one reads as the other
abbrev ReadsAs : Document → Document → Type 0
ReadsAs x d = (x.nr ≡ d.nr) × (x.proc ≡ d.proc) × (x.nav ≡ d.nav) × (x.view ≡ d.view)

delivers_as : (report : Option Report) (d : Document) → ReadsAs (delivers report d) d
delivers_as (Some (reports.Done job (outcomes.Populated slot) made)) d = by_test (d.nr.0 == job.doc.0)
  where
    by_test : (b : Bool) → ReadsAs (cond b (record d { is_ready = true; is_fresh = true }) d) d
    by_test true = (refl, refl, refl, refl)
    by_test false = (refl, refl, refl, refl)
delivers_as report d = (refl, refl, refl, refl)

delivers_are : (report : Option Report) → NoDeath report → (documents : List Document) → documents_delivered documents report ≡ map (delivers report) documents
delivers_are None fine documents = sym (map_same documents)
delivers_are (Some (reports.Made made)) fine documents = sym (map_same documents)
delivers_are (Some (reports.Died death)) never documents = absurd never
delivers_are (Some (reports.Done job outcome made)) fine documents = by_outcome outcome
  where
    by_outcome : (o : Outcome) → documents_delivered documents (Some (reports.Done job o made)) ≡ map (delivers (Some (reports.Done job o made))) documents
    by_outcome (outcomes.Populated slot) = refl
    by_outcome o = sym (map_same documents)

module _ (hand next_hand : List Made) (s : Seen) (event : ℕ) (proc : ProcId) (docs : AreDocs s) (fine : NoDeath (slice_get (desk_of s proc).reports 0)) where
  abbrev came : Seen
  came = next s event actors.Coord (rows.Delivered proc)

  abbrev brings : Document → Document
  brings = delivers (slice_get (desk_of s proc).reports 0)

  module _ (waits : (doc : DocId) (d : Document) → document_of s doc ≡ Some d → (bound : ℕ) → IsWithin (waiting s hand) (desk_of s d.proc) d bound → MadeWithin bound d.nr (waiting came next_hand)) where
    -- with what waits then
    again : (doc : DocId) (d : Document) (desk : Desk) (bound : ℕ) → document_of s doc ≡ Some d → IsWithin (waiting s hand) (desk_of s d.proc) d bound → IsWithin (waiting s hand) desk (brings d) bound → IsWithin (waiting came next_hand) desk (brings d) bound
    again doc d desk bound there was now =
        record {
          view = now.view;
          orders = now.orders;
          held_back = subst (λ (n : DocId). MadeWithin bound n (waiting came next_hand)) (sym (delivers_as (slice_get (desk_of s proc).reports 0) d).0) (waits doc d there bound was);
          reports = now.reports;
        }

    stays : (doc : DocId) (d : Document) (bound : ℕ) → document_of s doc ≡ Some d → IsWithin (waiting s hand) (desk_of s d.proc) d bound → IsWithin (waiting came next_hand) (desk_of came (brings d).proc) (brings d) bound
    stays doc d bound there was =
        subst (λ (p : ProcId). IsWithin (waiting came next_hand) (desk_of came p) (brings d) bound) (sym as_.1) (by_process (proc.0 == d.proc.0) refl)
      where
        as_ : ReadsAs (brings d) d
        as_ = delivers_as (slice_get (desk_of s proc).reports 0) d

        by_process : (b : Bool) → (proc.0 == d.proc.0) ≡ b → IsWithin (waiting came next_hand) (desk_of came d.proc) (brings d) bound
        by_process true e =
            let same : proc ≡ d.proc = proc_same proc d.proc e in
            let own : desk_of came proc ≡ desk_delivered (desk_of s proc) = desk_on_same desk_delivered s.desks proc (λ desk. refl) in
            let desk : desk_of came d.proc ≡ desk_delivered (desk_of s d.proc) = ap (λ (p : ProcId). desk_of came p) (sym same) ∙ own ∙ ap (λ (p : ProcId). desk_delivered (desk_of s p)) same in
            again doc d (desk_of came d.proc) bound there was
            (subst (λ (k : Desk). IsWithin (waiting s hand) k (brings d) bound) (sym desk) (delivered_within (waiting s hand) (desk_of s d.proc) d (brings d) bound as_.0 as_.3 was))
        by_process false e =
            let other : desk_of came d.proc ≡ desk_of s d.proc = desk_on_other desk_delivered s.desks proc d.proc (λ desk. refl) e in
            again doc d (desk_of came d.proc) bound there was
            (subst (λ (k : Desk). IsWithin (waiting s hand) k (brings d) bound) (sym other) (within_alike (waiting s hand) (desk_of s d.proc) d (brings d) bound as_.0 as_.3 was))

    delivered_was : (doc : DocId) (d : Document) → document_of came doc ≡ Some d → WasPast hand next_hand s came doc d
    delivered_was doc d found = by_old (document_of s doc) refl (sym mapped ∙ found)
      where
        mapped : document_of came doc ≡ option_map brings (document_of s doc)
        mapped =
            ap (λ (l : List Document). document_in l doc) (delivers_are (slice_get (desk_of s proc).reports 0) fine s.documents)
            ∙ find_map (λ (x : Document). x.nr.0) brings doc.0 s.documents (λ x. ap (λ (n : DocId). n.0) (delivers_as (slice_get (desk_of s proc).reports 0) x).0)

        by_old : (o : Option Document) → document_of s doc ≡ o → option_map brings o ≡ Some d → WasPast hand next_hand s came doc d
        by_old None e there = absurd cc
        by_old (Some old) e there =
            (let new : brings old ≡ d = cc in record {
              old = old;
              there = e;
              nav_is = sym (delivers_as (slice_get (desk_of s proc).reports 0) old).2 ∙ ap (λ (x : Document). x.nav) new;
              stays = λ bound was. subst (λ (x : Document). IsWithin (waiting came next_hand) (desk_of came x.proc) x bound) new (stays doc old bound e was);
            })

    pub delivered_past : ArePast hand s → ArePast next_hand came
    delivered_past =
        past_over hand next_hand s came delivered_was (have_places s docs) (delivered_last s (slice_get (desk_of s proc).reports 0) fine)

  -- where nothing was made, or what was made goes
  pub unmade_past : waiting came next_hand ≡ waiting s hand → ArePast hand s → ArePast next_hand came
  unmade_past same =
      delivered_past (λ doc d there bound was. subst (λ (l : List Made). MadeWithin bound d.nr l) (sym same) was.held_back)

  -- where something was made, that waits behind what did
  pub made_past : (made : Made) → filter_map made_of_report (desk_of s proc).reports ≡ made ∷ filter_map made_of_report (desk_delivered (desk_of s proc)).reports → ((d : Document) → document_of s made.doc ≡ Some d → d.proc ≡ proc) → waiting came next_hand ≡ waiting s hand ++ made ∷ [] → ArePast hand s → ArePast next_hand came
  made_past made told home behind = delivered_past waits
    where
      low : (doc : DocId) (d : Document) → document_of s doc ≡ Some d → (bound : ℕ) → IsWithin (waiting s hand) (desk_of s d.proc) d bound → made.doc.0 ≡ d.nr.0 → made.epoch.0 ≤ bound
      low doc d there bound was its =
          let nr : d.nr.0 ≡ doc.0 = find_has (λ (x : Document). x.nr.0) doc.0 s.documents d there in
          let same : doc ≡ made.doc = ap (λ (n : ℕ). let x : DocId = record { 0 = n } in x) (sym nr ∙ sym its) in
          let here : d.proc ≡ proc = home d (ap (λ (x : DocId). document_of s x) (sym same) ∙ there) in
          let all : MadeWithin bound d.nr (made ∷ filter_map made_of_report (desk_delivered (desk_of s proc)).reports) = subst (λ (l : List Made). MadeWithin bound d.nr l) (ap (λ (p : ProcId). filter_map made_of_report (desk_of s p).reports) here ∙ told) was.reports in
          all.0 its

      waits : (doc : DocId) (d : Document) → document_of s doc ≡ Some d → (bound : ℕ) → IsWithin (waiting s hand) (desk_of s d.proc) d bound → MadeWithin bound d.nr (waiting came next_hand)
      waits doc d there bound was =
          subst (λ (l : List Made). MadeWithin bound d.nr l) (sym behind) (within_after bound d.nr (waiting s hand) made was.held_back (low doc d there bound was))

-- ---- the tab is opened

module _ (event : ℕ) (actor : Actor) (entry : EntryId) (state : StateId) (doc : DocId) (proc : ProcId) (slot : Option ℕ) (address : List ℕ) where
  -- its one navigable was shown its one document
  pub opened_past : ArePast [] (next nothing event actor (rows.Opened entry state doc proc slot address))
  opened_past x d place found placed =
      inl (ap (λ (p : Place). p.last) (sym (its (0 == d.nav.0) placed)) ∙ ap (λ (y : DocId). Some y) (number (doc.0 == x.0) refl found))
    where
      its : (b : Bool) → (let o : Option Place = cond b (Some (opening_place entry doc)) None in o) ≡ Some place → opening_place entry doc ≡ place
      its true e = cc
      its false e = absurd cc

      number : (b : Bool) → (doc.0 == x.0) ≡ b → (let o : Option Document = cond b (Some (opening_document entry state doc proc slot address)) None in o) ≡ Some d → doc ≡ x
      number true e is = doc_same doc x e
      number false e is = absurd cc
