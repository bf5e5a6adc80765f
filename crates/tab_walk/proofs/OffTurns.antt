-- A navigable was moved for a reason: each document on which nobody is awake then had nobody awake on it as the event began, or is left duly for the reason.
use Rattle.log_model.specs.After.{after}
use Rattle.log_model.specs.AfterDocuments.{addressed, documents_sent, on_document}
use Rattle.log_model.specs.AfterPlaces.{activated, on_place, put_to_sleep, sleepers_below}
use Rattle.log_model.specs.Places.{is_below, shower_of}
use Rattle.log_model.specs.Seen.{Document, Place, Seen, Status, awake, document_of, place_in, place_of}
use Rattle.log_model.specs.declared.job.Job.{Job}
use Rattle.log_model.specs.declared.job.Task.TheVariants as tasks
use Rattle.log_model.specs.declared.job.Task.{Task}
use Rattle.log_model.specs.declared.job.Why.{Why}
use Rattle.log_model.specs.declared.row_kind.RowKind.TheVariants as rows
use Rattle.log_model.specs.declared.row_kind.RowKind.{RowKind}
use Rattle.row_facts.proofs.RestRows.Again.{doc_same}
use Rattle.row_facts.proofs.WalkRows.Sinces.{ShowsThen, was_shower}
use Rattle.row_facts.proofs.WalkRows.Sleeping.{IsShower, shower_is}
use Rattle.seen_facts.proofs.Mover.Orders.{PutsToSleep}
use Rattle.log_model.specs.Soundness.{IsSound}
use Rattle.seen_facts.proofs.Hang.Hung.{places_distinct}
use Rattle.seen_facts.specs.Hang.AsPlaces.{AreDistinct}
use Rattle.seen_facts.specs.Hang.Hanging.{Hangs}
use Rattle.seen_facts.specs.Hang.Members.{Has}
use Rattle.seen_facts.specs.Home.Homes.{EachWake, IsHomed}
use Rattle.seen_facts.specs.Walk.Walking.{IsApart, LeavesOthers}
use Rattle.seen_laws.proofs.Keyed.{find_on_other, find_on_same}
use Rattle.seen_laws.specs.InEvent.{InEvent, log_of, now_of, row_of}
use Rattle.seen_laws.specs.Unasked.{is_question}
use Rattle.std.proofs.Common.{Bool, List, None, Option, Some, [], ap, append-nil, append_assoc, false, inl, inr, refl, subst, sym, true, ℕ, ◌++◌, ◌==◌, ◌∙◌, ◌∷◌, ◌≡◌, ◌⊎◌}
use Rattle.std.specs.Option.{option_map_or}
use Rattle.std.specs.Prelude.{find, option_map}
use Rattle.row_facts.specs.WalkRows.Since.{WasAwake}
use Rattle.seen_facts.proofs.Hang.Forms.{nav_is}
use Rattle.tab_doors.proofs.PassedOn.{sent_now}
use Rattle.tab_doors.specs.Orders.{order_to}
use Rattle.tab_doors.specs.declared.tables.Tables.{Tables}
use Rattle.tab_ids.specs.declared.EntryId.{EntryId}
use Rattle.tab_ids.specs.declared.ReqId.{ReqId}
use Rattle.tab_moves.specs.Showing.{IsShownBy, IsToShow}
use Rattle.tab_ids.specs.declared.DocId.{DocId}
use Rattle.tab_ids.specs.declared.NavId.{NavId}
use Rattle.tab_moves.specs.Moving.{AreLeftUnder, IsAtOrBelow}
use Rattle.tab_passes.proofs.PassedOn.{left_on}
use Rattle.tab_passes.specs.Leaving.{IsLeftDulyFor, OffAreLeft, WasOffOrLeft}
use Rattle.tab_walk.proofs.Overs.{only_as, order_goes, over_each}
use Rattle.tab_walk.specs.Moving.{HasOnly, HasOnlyLeft, HasOnlyMoved, IsOfMove}

-- ---- the rows

-- the row is an order that freezes, discards or shows a document
pub record IsMoveRow (row : RowKind) : Type 0 where
  pub job : Job
  pub is : row ≡ rows.Sent job
  pub moves : IsOfMove job.task

sleeps_moves : (task : Task) → PutsToSleep task → IsOfMove task
sleeps_moves tasks.Freeze is = tt
sleeps_moves tasks.Discard is = tt
sleeps_moves _ is = absurd is

pub left_rows : (why : Why) (was out : List RowKind) → HasOnlyLeft why was out → HasOnly IsMoveRow was out
left_rows why was out only =
    only_as _ IsMoveRow was out (λ row it. record { job = it.job; is = it.is; moves = sleeps_moves it.job.task it.puts }) only

pub moved_rows : (why : Why) (was out : List RowKind) → HasOnlyMoved why was out → HasOnly IsMoveRow was out
moved_rows why was out only =
    only_as _ IsMoveRow was out (λ row it. record { job = it.job; is = it.is; moves = it.moves }) only

asks_nobody : (task : Task) → IsOfMove task → is_question task ≡ false
asks_nobody tasks.Freeze is = refl
asks_nobody tasks.Discard is = refl
asks_nobody (tasks.Activate entry epoch length index memo address) is = refl
asks_nobody _ is = absurd is

-- ---- documents

-- it was there before, made and not discarded
pub record WasThere (s : Seen) (doc : DocId) : Type 0 where
  pub old : Document
  pub found : document_of s doc ≡ Some old
  pub ready : old.is_ready ≡ true
  pub undiscarded : old.is_discarded ≡ false

-- a change of documents that makes none and takes no discard back
record IsPlain (f : Document → Document) : Type 0 where
  nr : (d : Document) → (f d).nr.0 ≡ d.nr.0
  ready : (d : Document) → (f d).is_ready ≡ d.is_ready
  undiscarded : (d : Document) → (f d).is_discarded ≡ false → d.is_discarded ≡ false

abbrev there_in : List Document → DocId → Option Document
there_in docs doc = find (λ (d : Document). d.nr.0 == doc.0) docs

was_on : (s : Seen) (at : DocId) (f : Document → Document) → IsPlain f → (doc : DocId) (d : Document) → there_in (on_document at f s.documents) doc ≡ Some d → d.is_ready ≡ true → d.is_discarded ≡ false → WasThere s doc
was_on s at f plain doc d found ready undiscarded = by_test (at.0 == doc.0) refl
  where
    by_old : (o : Option Document) → document_of s at ≡ o → at ≡ doc → option_map f o ≡ Some d → WasThere s doc
    by_old None is same h = absurd cc
    by_old (Some old) is same h =
        let one : f old ≡ d = cc in
        record {
          old = old;
          found = ap (λ (x : DocId). document_of s x) (sym same) ∙ is;
          ready = sym (plain.ready old) ∙ ap (λ (x : Document). x.is_ready) one ∙ ready;
          undiscarded = plain.undiscarded old (ap (λ (x : Document). x.is_discarded) one ∙ undiscarded);
        }

    by_test : (b : Bool) → (at.0 == doc.0) ≡ b → WasThere s doc
    by_test true is =
        let same : at ≡ doc = doc_same at doc is in
        by_old (document_of s at) refl same
        (sym (find_on_same (λ (x : Document). x.nr.0) f at.0 s.documents plain.nr) ∙ ap (λ (x : DocId). there_in (on_document at f s.documents) x) same ∙ found)
    by_test false apart =
        record { old = d; found = sym (find_on_other (λ (x : Document). x.nr.0) f at.0 doc.0 s.documents plain.nr apart) ∙ found; ready = ready; undiscarded = undiscarded }

was_task : (s : Seen) (job : Job) (task : Task) → IsOfMove task → (doc : DocId) (d : Document) → there_in (documents_sent s job task) doc ≡ Some d → d.is_ready ≡ true → d.is_discarded ≡ false → WasThere s doc
was_task s job tasks.Freeze is =
    was_on s job.doc (addressed tasks.Freeze) (record { nr = λ d. refl; ready = λ d. refl; undiscarded = λ d h. h })
was_task s job (tasks.Activate entry epoch length index memo address) is =
    was_on s job.doc (addressed (tasks.Activate entry epoch length index memo address)) (record { nr = λ d. refl; ready = λ d. refl; undiscarded = λ d h. h })
was_task s job tasks.Discard is =
    was_on s job.doc (λ (d : Document). record d { is_discarded = true }) (record { nr = λ d. refl; ready = λ d. refl; undiscarded = λ d h. absurd cc })
was_task s job _ is = absurd is

-- each that is there then was so before
pub docs_before : (e : InEvent) (was out : List RowKind) → HasOnly IsMoveRow was out → (doc : DocId) (d : Document) → document_of (now_of e out) doc ≡ Some d → d.is_ready ≡ true → d.is_discarded ≡ false → WasThere (now_of e was) doc
docs_before e was out only =
    over_each IsMoveRow (λ (x : Seen). (doc : DocId) (d : Document) → document_of x doc ≡ Some d → d.is_ready ≡ true → d.is_discarded ≡ false → WasThere (now_of e was) doc) e
    (λ mid row it. order_goes e mid row (record { job = it.job; is = it.is; quiet = asks_nobody it.job.task it.moves }))
    (λ x row it so doc d found ready undiscarded.
    let before : WasThere x doc = was_task x it.job it.job.task it.moves doc d (subst (λ (k : RowKind). document_of (after x (row_of e k)) doc ≡ Some d) it.is found) ready undiscarded in
    so doc before.old before.found before.ready before.undiscarded)
    was out only (λ doc d found ready undiscarded. record { old = d; found = found; ready = ready; undiscarded = undiscarded })

-- ---- who is left duly

left_one : (e : InEvent) (was : List RowKind) (job : Job) → IsOfMove job.task → (doc : DocId) (why : Why) → IsLeftDulyFor (log_of e was) doc why → IsLeftDulyFor (log_of e (was ++ rows.Sent job ∷ [])) doc why
left_one e was job moves doc why left = by_task job.task refl moves
  where
    as_task : (task : Task) → job.task ≡ task → was ++ rows.Sent job ∷ [] ≡ was ++ rows.Sent (record job { task = task }) ∷ []
    as_task task same = ap (λ (t : Task). was ++ rows.Sent (record job { task = t }) ∷ []) same

    by_task : (task : Task) → job.task ≡ task → IsOfMove task → IsLeftDulyFor (log_of e (was ++ rows.Sent job ∷ [])) doc why
    by_task tasks.Freeze same is = left_on e was (rows.Sent (record job { task = tasks.Freeze })) (was ++ rows.Sent job ∷ []) (as_task tasks.Freeze same) tt doc why left
    by_task tasks.Discard same is = left_on e was (rows.Sent (record job { task = tasks.Discard })) (was ++ rows.Sent job ∷ []) (as_task tasks.Discard same) tt doc why left
    by_task (tasks.Activate entry epoch length index memo address) same is =
        left_on e was (rows.Sent (record job { task = tasks.Activate entry epoch length index memo address })) (was ++ rows.Sent job ∷ []) (as_task (tasks.Activate entry epoch length index memo address) same) tt doc why left
    by_task _ same is = absurd is

left_more : (e : InEvent) (was more : List RowKind) → ((row : RowKind) → Has more row → IsMoveRow row) → (doc : DocId) (why : Why) → IsLeftDulyFor (log_of e was) doc why → IsLeftDulyFor (log_of e (was ++ more)) doc why
left_more e was [] each doc why left = subst (λ (l : List RowKind). IsLeftDulyFor (log_of e l) doc why) (sym (append-nil was)) left
left_more e was (row ∷ more) each doc why left =
    subst (λ (l : List RowKind). IsLeftDulyFor (log_of e l) doc why) (append_assoc was (row ∷ []) more)
    (left_more e (was ++ row ∷ []) more (λ other there. each other (inr there)) doc why (first (each row (inl refl))))
  where
    first : IsMoveRow row → IsLeftDulyFor (log_of e (was ++ row ∷ [])) doc why
    first it = subst (λ (k : RowKind). IsLeftDulyFor (log_of e (was ++ k ∷ [])) doc why) (sym it.is) (left_one e was it.job it.moves doc why left)

pub left_over : (e : InEvent) (was out : List RowKind) → HasOnly IsMoveRow was out → (doc : DocId) (why : Why) → IsLeftDulyFor (log_of e was) doc why → IsLeftDulyFor (log_of e out) doc why
left_over e was out only doc why left =
    subst (λ (l : List RowKind). IsLeftDulyFor (log_of e l) doc why) (sym only.is) (left_more e was only.more only.each doc why left)

-- ---- both

-- who was awake at or below the navigable was so on a document that is left duly, or on which somebody is awake still
abbrev pub LeftOrShown : InEvent → List RowKind → List RowKind → NavId → Why → Type 0
LeftOrShown e was out nav why =
    (other : NavId) (place : Place) (doc : DocId) → IsAtOrBelow nav other place → place_of (now_of e was) other ≡ Some place → place.status ≡ awake doc → IsLeftDulyFor (log_of e was) doc why ⊎ (shower_of (now_of e out) doc ≡ None → ⊥)

module _ (e : InEvent) (was out : List RowKind) (why : Why) (nav : NavId) (only : HasOnly IsMoveRow was out) (others : LeavesOthers (now_of e was) (now_of e out) nav) (distinct : AreDistinct (now_of e was).places) (then_distinct : AreDistinct (now_of e out).places) (then_homed : EachWake (IsHomed (now_of e out).documents) (now_of e out)) (under : LeftOrShown e was out nav why) where
  keep : (doc : DocId) → WasOffOrLeft e was why doc → WasOffOrLeft e out why doc
  keep doc (inl none) = inl none
  keep doc (inr left) = inr (left_over e was out only doc why left)

  pub off_turn : OffAreLeft e was why → OffAreLeft e out why
  off_turn off doc d found ready undiscarded shown = by_shower (shower_of (now_of e was) doc) refl
    where
      old : WasThere (now_of e was) doc
      old = docs_before e was out only doc d found ready undiscarded

      by_left : IsLeftDulyFor (log_of e was) doc why ⊎ (shower_of (now_of e out) doc ≡ None → ⊥) → WasOffOrLeft e out why doc
      by_left (inl left) = inr (left_over e was out only doc why left)
      by_left (inr still) = absurd (still shown)

      -- one that was apart is awake on it still
      apart_on : (p : Place) → IsShower (now_of e was) doc p → IsApart (now_of e was) nav p.nav → ⊥
      apart_on p it apart =
          let on : ShowsThen (now_of e out) p.nav doc = was_shower (now_of e out) p.nav doc then_distinct then_homed (record { place = p; placed = others.others p.nav apart ∙ it.placed; wakes = it.wakes }) in
          let never : None ≡ Some on.place = sym shown ∙ on.showed in
          cc

      by_below : (p : Place) → IsShower (now_of e was) doc p → (p.nav.0 == nav.0) ≡ false → (b : Bool) → is_below nav p ≡ b → WasOffOrLeft e out why doc
      by_below p it differs true below = by_left (under p.nav p doc (inr below) it.placed it.wakes)
      by_below p it differs false beside =
          absurd (apart_on p it (record {
            differs = differs;
            beside = λ q at.
                let both : Some q ≡ Some p = sym at ∙ it.placed in
                let one : q ≡ p = cc in
                ap (λ (x : Place). is_below nav x) one ∙ beside;
          }))

      by_own : (p : Place) → IsShower (now_of e was) doc p → (b : Bool) → (p.nav.0 == nav.0) ≡ b → WasOffOrLeft e out why doc
      by_own p it true same = by_left (under p.nav p doc (inl same) it.placed it.wakes)
      by_own p it false differs = by_below p it differs (is_below nav p) refl

      by_shower : (o : Option Place) → shower_of (now_of e was) doc ≡ o → WasOffOrLeft e out why doc
      by_shower None none = keep doc (off doc old.old old.found old.ready old.undiscarded none)
      by_shower (Some p) is =
          let it : IsShower (now_of e was) doc p = shower_is (now_of e was) doc p distinct is in
          by_own p it (p.nav.0 == nav.0) refl

-- where each of those documents is left duly
pub off_left : (e : InEvent) (was out : List RowKind) (why : Why) (nav : NavId) → HasOnly IsMoveRow was out → LeavesOthers (now_of e was) (now_of e out) nav → IsSound (now_of e was).history → Hangs (now_of e was) → IsSound (now_of e out).history → Hangs (now_of e out) → EachWake (IsHomed (now_of e out).documents) (now_of e out) → AreLeftUnder e was nav why → OffAreLeft e was why → OffAreLeft e out why
off_left e was out why nav only others sound hangs then_sound then_hangs then_homed lefts =
    off_turn e was out why nav only others (places_distinct (now_of e was) sound hangs) (places_distinct (now_of e out) then_sound then_hangs) then_homed (λ other place doc under at up. inl (lefts other place doc under at up))

-- ---- where the navigable leaves none

slept_none : (why : Why) (places : List Place) → put_to_sleep [] why places ≡ places
slept_none why [] = refl
slept_none why (p ∷ places) = ap (λ (l : List Place). p ∷ l) (slept_none why places)

module _ (e : InEvent) (was out : List RowKind) (t : Tables) (run : Option ReqId) (keep_ : ℕ) (nav : NavId) (doc : DocId) (entry : EntryId) (cause why : Why) (to : IsToShow None run keep_ (now_of e was) nav doc entry cause) (by : IsShownBy (now_of e was) t nav doc entry why was out) where
  abbrev before : Seen
  before = now_of e was

  abbrev job : Job
  job = order_to before doc why (tasks.Activate entry by.epoch by.long by.at by.target.memo by.target.address)

  abbrev show_it : Place → Place
  show_it = activated job entry by.epoch to.wanted.document

  now_is : now_of e out ≡ after before (row_of e (rows.Sent job))
  now_is = ap (λ (l : List RowKind). now_of e l) by.is ∙ sent_now e was job refl

  places_then : (now_of e out).places ≡ on_place nav show_it before.places
  places_then =
      ap (λ (x : Seen). x.places) now_is
      ∙ ap (λ (o : Option Document). option_map_or (λ (d : Document). on_place d.nav (activated job entry by.epoch d) (put_to_sleep (option_map_or (sleepers_below before doc) (place_of before d.nav) []) why before.places)) o before.places) to.wanted.found
      ∙ ap (λ (n : NavId). on_place n show_it (put_to_sleep (option_map_or (sleepers_below before doc) (place_of before n) []) why before.places)) to.wanted.nav_is
      ∙ ap (λ (o : Option Place). on_place nav show_it (put_to_sleep (option_map_or (sleepers_below before doc) o []) why before.places)) to.wanted.placed
      ∙ ap (λ (navs : List NavId). on_place nav show_it (put_to_sleep navs why before.places)) to.nobody
      ∙ ap (λ (l : List Place). on_place nav show_it l) (slept_none why before.places)

  -- who is awake is so still
  still : (other : NavId) (place : Place) (x : DocId) → place_of before other ≡ Some place → place.status ≡ awake x → WasAwake (now_of e out) other x
  still other place x at up = by_test (nav.0 == other.0) refl
    where
      by_test : (b : Bool) → (nav.0 == other.0) ≡ b → WasAwake (now_of e out) other x
      by_test true same =
          let own : nav ≡ other = nav_is nav other same in
          let two : Some place ≡ Some to.wanted.place = sym at ∙ ap (λ (n : NavId). place_of before n) (sym own) ∙ to.wanted.placed in
          let one : place ≡ to.wanted.place = cc in
          let doc_is : x ≡ doc = to.own x (ap (λ (p : Place). p.status) (sym one) ∙ up) in
          record {
            place = show_it to.wanted.place;
            placed =
                ap (λ (l : List Place). place_in l other) places_then
                ∙ ap (λ (n : NavId). place_in (on_place nav show_it before.places) n) (sym own)
                ∙ find_on_same (λ (p : Place). p.nav.0) show_it nav.0 before.places (λ p. refl)
                ∙ ap (λ (o : Option Place). option_map show_it o) to.wanted.placed;
            wakes = ap (λ (d : DocId). let st : Status = awake d in st) (sym doc_is);
          }
      by_test false apart =
          record {
            place = place;
            placed = ap (λ (l : List Place). place_in l other) places_then ∙ find_on_other (λ (p : Place). p.nav.0) show_it nav.0 other.0 before.places (λ p. refl) apart ∙ at;
            wakes = up;
          }

  pub shown_under : AreDistinct (now_of e out).places → EachWake (IsHomed (now_of e out).documents) (now_of e out) → (reason : Why) → LeftOrShown e was out nav reason
  shown_under distinct homed reason other place x under at up =
      inr (λ none.
      let on : ShowsThen (now_of e out) other x = was_shower (now_of e out) other x distinct homed (still other place x at up) in
      let never : None ≡ Some on.place = sym none ∙ on.showed in
      cc)

  pub shown_row : HasOnly IsMoveRow was out
  shown_row = record { more = rows.Sent job ∷ []; is = by.is; each = λ row has. one row has }
    where
      one : (row : RowKind) → Has (rows.Sent job ∷ []) row → IsMoveRow row
      one row (inl is) = record { job = job; is = sym is; moves = tt }
      one row (inr never) = absurd never
