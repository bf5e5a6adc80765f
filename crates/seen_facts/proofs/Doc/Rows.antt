-- What is true of documents stays over each row that sends no order: what users and processes do, requests that begin or end, reports but of a death, and changes that are applied.
use Rattle.std.proofs.Common.{◌≡◌, ℕ, ◌+◌, Bool, true, false, cond, ◌==◌, List, [], ◌∷◌, ◌++◌, map, Option, Some, None, refl, sym, ap, ◌∙◌, subst}
use Rattle.std.specs.Option.{option_map_or}
use Rattle.std.specs.Prelude.{option_map, slice_get}
use Rattle.tab_ids.specs.declared.DocId.{DocId}
use Rattle.tab_ids.specs.declared.NavId.{NavId}
use Rattle.tab_ids.specs.declared.ProcId.{ProcId}
use Rattle.tab_ids.specs.declared.ReqId.{ReqId}
use Rattle.tab_ids.specs.declared.StateId.{StateId}
use Rattle.tab_ids.specs.declared.Step.{Step}
use Rattle.log_model.specs.declared.action.Action.{Action}
use Rattle.log_model.specs.declared.change.Change.{Change}
use Rattle.log_model.specs.declared.job.Job.{Job}
use Rattle.log_model.specs.declared.made.Made.{Made}
use Rattle.log_model.specs.declared.outcome.Cause.{Cause}
use Rattle.log_model.specs.declared.outcome.Denial.{Denial}
use Rattle.log_model.specs.declared.request.Request.{Request}
use Rattle.log_model.specs.declared.request.Request.TheVariants as requests
use Rattle.log_model.specs.declared.row_kind.Actor.{Actor}
use Rattle.log_model.specs.declared.row_kind.RowKind.{RowKind}
use Rattle.log_model.specs.declared.row_kind.RowKind.TheVariants as rows
use Rattle.log_model.specs.After.{after, desk_taken, desks_made, follows_finished, on_desk}
use Rattle.log_model.specs.Seen.{Desk, Document, Place, Seen, desk_of, document_of}
use Rattle.log_model.specs.Views.{View, after_made}
use Rattle.seen_facts.proofs.Coord.OneDocument.{orders_taken}
use Rattle.seen_facts.proofs.Coord.Unread.{DesksLeft, dropped_left, refused_left}
use Rattle.seen_facts.proofs.Desk.Stays.{applied_at}
use Rattle.seen_facts.proofs.Entry.Parts.{map_itself}
use Rattle.seen_facts.specs.Doc.Docs.{AreDocs, IsLive, makes_at, makes_sent, makes_told}
use Rattle.seen_facts.proofs.Doc.Makes.{made_makes, same_makes}
use Rattle.seen_facts.proofs.Doc.Awakes.{AllWereAwake, applied_awake, awake_same}
use Rattle.seen_facts.proofs.Doc.Leaves.{KeepPlaces, kept_places, itself_keeps, keeps_if, left_docs, once_alike, thawed_again}
use Rattle.seen_facts.proofs.Doc.Lives.{change_as, change_frozen, change_keeps, live_as, making_right, takes_in, viewed_live}

some_same : {A : Type 0} {a b : A} → (let o : Option A = Some a in o) ≡ Some b → a ≡ b
some_same e = cc

-- ---- documents and places stay

pub untouched : (s t : Seen) → t.documents ≡ s.documents → t.places ≡ s.places → ((doc : DocId) (proc : ProcId) → makes_at doc (desk_of t proc) ≡ makes_at doc (desk_of s proc)) → AreDocs s → AreDocs t
untouched s t documents places makes are =
    left_docs s t (record {
      g = λ d. d;
      keeps = itself_keeps;
      documents = same;
      live = λ doc d found is. is;
      places = subst (λ (l : List Place). KeepPlaces s.places l) (sym places) (λ nav has. has);
      once = λ doc d found is. once_alike (desk_of s d.proc) (desk_of t d.proc) d d refl refl (λ n. makes n d.proc) is;
      thawed = thawed_again s t (λ d. d) itself_keeps same (λ d. refl) (subst (λ (l : List Place). AllWereAwake s.places l) (sym places) (awake_same s.places)) are.thawed;
    }) are
  where
    same : t.documents ≡ map (λ (d : Document). d) s.documents
    same = documents ∙ map_itself s.documents

-- and each process is as it was, but for its input
pub unread : (s t : Seen) → DesksLeft s t → t.documents ≡ s.documents → t.places ≡ s.places → AreDocs s → AreDocs t
unread s t left documents places are =
    untouched s t documents places (λ doc proc. ap (makes_at doc) (left proc).1) are

module _ (s : Seen) (event : ℕ) (actor : Actor) (are : AreDocs s) where
  abbrev then_ : RowKind → Seen
  then_ kind = after s (record { event = event; actor = actor; row = kind })

  -- ---- the user's events, and requests that begin or end

  pub accepted_docs : (req : ReqId) (doc : Option DocId) (what : Request) → AreDocs (then_ (rows.Accepted req doc what))
  accepted_docs req doc what = untouched s (then_ (rows.Accepted req doc what)) refl refl (by_request doc what) are
    where
      more : ReqId → DocId → Action → Desk → Desk
      more r x action desk = record desk { input = desk.input ++ record { req = r; doc = x; action = action } ∷ [] }

      by_found : (x : DocId) (nav : NavId) (action : Action) (o : Option Document) → document_of s x ≡ o → (n : DocId) (proc : ProcId) → makes_at n (desk_of (then_ (rows.Accepted req (Some x) (requests.Poke nav action))) proc) ≡ makes_at n (desk_of s proc)
      by_found x nav action None e n proc =
          ap (λ (l : List Desk). makes_at n (desk_of (record s { desks = l }) proc)) (ap (λ (o : Option Document). option_map_or (λ (d : Document). on_desk d.proc (more req x action) s.desks) o s.desks) e)
      by_found x nav action (Some d) e n proc =
          same_makes s (then_ (rows.Accepted req (Some x) (requests.Poke nav action))) d.proc (more req x action) (ap (λ (o : Option Document). option_map_or (λ (d : Document). on_desk d.proc (more req x action) s.desks) o s.desks) e) (λ desk. refl) (λ m. refl) n proc

      by_request : (o : Option DocId) (w : Request) → (n : DocId) (proc : ProcId) → makes_at n (desk_of (then_ (rows.Accepted req o w)) proc) ≡ makes_at n (desk_of s proc)
      by_request None w n proc = refl
      by_request (Some x) (requests.Poke nav action) n proc = by_found x nav action (document_of s x) refl n proc
      by_request (Some x) (requests.Go delta) n proc = refl
      by_request (Some x) (requests.Load nav mode address) n proc = refl
      by_request (Some x) (requests.Reload nav) n proc = refl

  pub started_docs : (req : ReqId) (goal : Option Step) → AreDocs (then_ (rows.Started req goal))
  started_docs req goal = untouched s (then_ (rows.Started req goal)) refl refl (λ doc proc. refl) are

  pub prompted_docs : (req : ReqId) (doc : DocId) → AreDocs (then_ (rows.Prompted req doc))
  prompted_docs req doc = untouched s (then_ (rows.Prompted req doc)) refl refl (λ n proc. refl) are

  pub answered_docs : (req : ReqId) (stay : Bool) → AreDocs (then_ (rows.Answered req stay))
  answered_docs req stay = untouched s (then_ (rows.Answered req stay)) refl refl (λ doc proc. refl) are

  pub evicted_docs : (state : StateId) → AreDocs (then_ (rows.Evicted state))
  evicted_docs state = untouched s (then_ (rows.Evicted state)) refl refl (λ doc proc. refl) are

  pub refused_docs : (req : ReqId) (reason : Denial) → AreDocs (then_ (rows.Refused req reason))
  refused_docs req reason =
      unread s (then_ (rows.Refused req reason)) (refused_left s event actor req reason) refl refl are

  pub dropped_docs : (req : ReqId) (cause : Cause) → AreDocs (then_ (rows.Dropped req cause))
  dropped_docs req cause =
      unread s (then_ (rows.Dropped req cause)) (dropped_left s event actor req cause) refl refl are

  pub applied_docs : (req : ReqId) (change : Change) → AreDocs (then_ (rows.Applied req change))
  applied_docs req change =
      left_docs s (then_ (rows.Applied req change)) (record {
        g = takes_in change;
        keeps = change_keeps change;
        documents = refl;
        live = λ doc d found is. live_as d (takes_in change d) (change_as change d) is;
        places = kept_places s.places (then_ (rows.Applied req change)).places (applied_at s req change);
        once = λ doc d found is. once_alike (desk_of s d.proc) (desk_of s d.proc) d (takes_in change d) (change_as change d).nr (change_as change d).ready (λ n. refl) is;
        thawed = thawed_again s (then_ (rows.Applied req change)) (takes_in change) (change_keeps change) refl (change_frozen change) (applied_awake s req change) are.thawed;
      }) are

  -- ---- the processes' events

  pub taken_docs : (proc : ProcId) (job : Job) (dirty : Bool) → (desk_of s proc).in_hand ≡ None → slice_get (desk_of s proc).mail 0 ≡ Some job → AreDocs (then_ (rows.Taken proc job.nr true dirty))
  taken_docs proc job dirty free first =
      untouched s (then_ (rows.Taken proc job.nr true dirty)) refl refl
      (same_makes s (then_ (rows.Taken proc job.nr true dirty)) proc (desk_taken true dirty) refl (λ desk. refl) (λ doc. ap (λ (l : List Job). makes_sent doc l + makes_told doc (desk_of s proc).reports) (orders_taken (desk_of s proc) job dirty free first))) are

  -- something is made of a poke, or of the order that was finished just before
  pub made_docs : (proc : ProcId) (made : Made) → AreDocs (then_ (rows.Made proc made))
  made_docs proc made =
      left_docs s t (record {
        g = at_doc;
        keeps = keeps_if (λ (d : Document). d.nr.0 == made.doc.0) does (record { nr = λ d. refl; nav = λ d. refl; state = λ d. refl; proc = λ d. refl; discarded = λ d e. e });
        documents = refl;
        live = λ doc d found is. by_doc d (d.nr.0 == made.doc.0) is;
        places = λ nav has. has;
        once = λ doc d found is. once_alike (desk_of s d.proc) (desk_of t d.proc) d (at_doc d) (as_nr d (d.nr.0 == made.doc.0)) (as_ready d (d.nr.0 == made.doc.0)) (λ n. makes n d.proc) is;
        thawed = thawed_again s t at_doc (keeps_if (λ (d : Document). d.nr.0 == made.doc.0) does (record { nr = λ d. refl; nav = λ d. refl; state = λ d. refl; proc = λ d. refl; discarded = λ d e. e })) refl (λ d. as_frozen d (d.nr.0 == made.doc.0)) (awake_same s.places) are.thawed;
      }) are
    where
      t : Seen
      t = then_ (rows.Made proc made)

      does : Document → Document
      does d = record d { view = option_map (λ (v : View). after_made v made.what) d.view }

      at_doc : Document → Document
      at_doc d = cond (d.nr.0 == made.doc.0) (does d) d

      by_doc : (d : Document) (b : Bool) → IsLive d → IsLive (cond b (does d) d)
      by_doc d true is = viewed_live d (option_map (λ (v : View). after_made v made.what) d.view) (making_right d made.what is) is
      by_doc d false is = is

      as_nr : (d : Document) (b : Bool) → (let x : Document = cond b (does d) d in x).nr ≡ d.nr
      as_nr d true = refl
      as_nr d false = refl

      as_ready : (d : Document) (b : Bool) → (let x : Document = cond b (does d) d in x).is_ready ≡ d.is_ready
      as_ready d true = refl
      as_ready d false = refl

      as_frozen : (d : Document) (b : Bool) → (let x : Document = cond b (does d) d in x).is_frozen ≡ d.is_frozen
      as_frozen d true = refl
      as_frozen d false = refl

      joins : Bool
      joins = follows_finished s (record { event = event; actor = actor; row = rows.Made proc made })

      makes : (n : DocId) (p : ProcId) → makes_at n (desk_of t p) ≡ makes_at n (desk_of s p)
      makes = same_makes s t proc (desks_made joins made) refl (keeps_proc joins) (λ doc. made_makes doc joins made (desk_of s proc))
        where
          keeps_proc : (b : Bool) (desk : Desk) → (desks_made b made desk).proc ≡ desk.proc
          keeps_proc true desk = refl
          keeps_proc false desk = refl
