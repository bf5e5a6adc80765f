-- Orders of a move may be sent, since the order that shows its document comes later: what is left is frozen or discarded, and the one that is kept too long is discarded.
use Rattle.row_facts.proofs.LeaveRows.Evicts.{activate_leaves, left_then}
use Rattle.row_facts.proofs.LeaveRows.Freezes.{activate_displaces, displaced_by}
use Rattle.row_facts.proofs.LeaveRows.Leaves.{activate_shows_another, left_by}
use Rattle.row_facts.proofs.LeaveRows.LeftMays.{overflow_left_may, unkept_last_may}
use Rattle.row_facts.proofs.LeaveRows.LeftRows.{freeze_left_may}
use Rattle.row_facts.specs.LeaveRows.Evicting.{LeavesLater, shows_none}
use Rattle.row_facts.specs.LeaveRows.Freezing.{IsDisplacedLater}
use Rattle.row_facts.specs.LeaveRows.Leaving.{IsLeftLater, IsTooMany}
use Rattle.row_facts.specs.LeaveRows.MayLeave.{IsFreezeLeft, IsKeptLeft, IsLastLeft, PromptsLater}
use Rattle.log_model.specs.Equal.{holds}
use Rattle.log_model.specs.History.{has_nav}
use Rattle.log_model.specs.Places.{is_awake_on, way_of}
use Rattle.log_model.specs.Seen.{Document, Place, document_of, place_of}
use Rattle.log_model.specs.Suits.{kept_with}
use Rattle.log_model.specs.declared.job.Job.{Job}
use Rattle.log_model.specs.declared.job.Task.{Task}
use Rattle.log_model.specs.declared.row_kind.Actor.{Actor}
use Rattle.log_model.specs.declared.row_kind.LogRow.{LogRow}
use Rattle.log_model.specs.declared.row_kind.RowKind.{RowKind}
use Rattle.seen_laws.specs.Blocks.{Here, MayLog, point_at}
use Rattle.seen_laws.specs.Sending.{IsNumbered, is_led}
use Rattle.std.proofs.Common.{List, Option, Some, [], ap, false, length, refl, subst, sym, true, ℕ, ◌++◌, ◌==◌, ◌∙◌, ◌∷◌, ◌≡◌}
use Rattle.std.specs.List.{list_all}
use Rattle.std.specs.Prelude.{nat_lt}
use Rattle.tab_doors.specs.Keeping.{Move}
use Rattle.tab_doors.specs.Working.{IsAhead, next_shown}
use Rattle.tab_ids.specs.declared.DocId.{DocId}
use Rattle.tab_ids.specs.declared.EntryId.{EntryId}
use Rattle.tab_ids.specs.declared.Epoch.{Epoch}
use Rattle.log_model.specs.declared.job.Task.TheVariants as tasks
use Rattle.log_model.specs.declared.row_kind.RowKind.TheVariants as rows

-- an order that is put out
abbrev sent_row : ℕ → Actor → Job → LogRow
sent_row event actor job = record { event = event; actor = actor; row = rows.Sent job }

-- the first of these rows that shows a document shows this one
record ShowsFirst (later : List LogRow) (doc : DocId) : Type 0 where
  before : List LogRow
  event : ℕ
  actor : Actor
  job : Job
  rest : List LogRow
  entry : EntryId
  epoch : Epoch
  long : ℕ
  at : ℕ
  memo : Option (List ℕ)
  address : List ℕ
  is : later ≡ before ++ sent_row event actor job ∷ rest
  task : job.task ≡ tasks.Activate entry epoch long at memo address
  own : job.doc ≡ doc
  none : list_all shows_none before ≡ true

shows_first : (later : List LogRow) (doc : DocId) → next_shown later ≡ Some doc → ShowsFirst later doc
shows_first [] doc is = cc
shows_first (row ∷ later) doc is = by_kind row.event row.actor row.row (shows_first later doc) is
  where
    -- a row that shows none comes before
    one_before : (row_ : LogRow) → shows_none row_ ≡ true → ShowsFirst later doc → ShowsFirst (row_ ∷ later) doc
    one_before row_ none so =
        record {
          before = row_ ∷ so.before;
          event = so.event;
          actor = so.actor;
          job = so.job;
          rest = so.rest;
          entry = so.entry;
          epoch = so.epoch;
          long = so.long;
          at = so.at;
          memo = so.memo;
          address = so.address;
          is = ap (λ (l : List LogRow). row_ ∷ l) so.is;
          task = so.task;
          own = so.own;
          none = rw none so.none;
        }

    by_task : (event : ℕ) (actor : Actor) (job : Job) (task : Task) → job.task ≡ task → (next_shown later ≡ Some doc → ShowsFirst later doc) → next_shown (sent_row event actor job ∷ later) ≡ Some doc → ShowsFirst (sent_row event actor job ∷ later) doc
    by_task event actor job (tasks.Activate entry epoch long at memo address) task more shows =
        let both : next_shown (sent_row event actor job ∷ later) ≡ Some job.doc = rw task refl in
        let same : Some job.doc ≡ Some doc = sym both ∙ shows in
        record {
          before = [];
          event = event;
          actor = actor;
          job = job;
          rest = later;
          entry = entry;
          epoch = epoch;
          long = long;
          at = at;
          memo = memo;
          address = address;
          is = refl;
          task = task;
          own = cc;
          none = refl;
        }
    by_task event actor job (tasks.Populate nav state address initial) task more shows = one_before (sent_row event actor job) (rw task refl) (more (sym (rw task refl) ∙ shows))
    by_task event actor job (tasks.Update long at) task more shows = one_before (sent_row event actor job) (rw task refl) (more (sym (rw task refl) ∙ shows))
    by_task event actor job tasks.Freeze task more shows = one_before (sent_row event actor job) (rw task refl) (more (sym (rw task refl) ∙ shows))
    by_task event actor job tasks.Discard task more shows = one_before (sent_row event actor job) (rw task refl) (more (sym (rw task refl) ∙ shows))
    by_task event actor job (tasks.Ask slot cause) task more shows = one_before (sent_row event actor job) (rw task refl) (more (sym (rw task refl) ∙ shows))
    by_task event actor job (tasks.DoFragment req mode address) task more shows = one_before (sent_row event actor job) (rw task refl) (more (sym (rw task refl) ∙ shows))

    by_kind : (event : ℕ) (actor : Actor) (kind : RowKind) → (next_shown later ≡ Some doc → ShowsFirst later doc) → (let row_ : LogRow = record { event = event; actor = actor; row = kind } in next_shown (row_ ∷ later) ≡ Some doc) → (let row_ : LogRow = record { event = event; actor = actor; row = kind } in ShowsFirst (row_ ∷ later) doc)
    by_kind event actor (rows.Sent job) more shows = by_task event actor job job.task refl more shows
    by_kind event actor kind more shows = one_before (record { event = event; actor = actor; row = kind }) refl (more shows)

module _ (h : Here) (event : ℕ) (actor : Actor) (job : Job) (move : Move) (led : is_led h.done ≡ true) (numbered : IsNumbered h.now job) (new : Document) (found : document_of h.now move.doc ≡ Some new) where
  -- a document that is left is frozen: its navigable, or one above, is the one that is moved, which wasn't awake on the new document as the event began
  pub freeze_sends : (d : Document) (due : IsFreezeLeft h job d) → has_nav (way_of due.place) new.nav ≡ true → holds (is_awake_on move.doc) (place_of h.start new.nav) ≡ false → MayLog h (sent_row event actor job ∷ []) (IsAhead (Some move))
  freeze_sends d due on_way other later ahead =
      let so = shows_first later move.doc ahead in
      freeze_left_may h event actor job d led numbered due later
      (subst (λ (l : List LogRow). IsDisplacedLater h due.place l) (sym so.is) (displaced_by h due.place new.nav so.before (sent_row so.event so.actor so.job) so.rest on_way (activate_displaces (point_at h (so.before ++ sent_row so.event so.actor so.job ∷ so.rest)) new.nav so.event so.actor so.job new so.entry so.epoch so.long so.at so.memo so.address so.task (ap (λ (x : DocId). document_of h.now x) so.own ∙ found) refl (ap (λ (x : DocId). holds (is_awake_on x) (place_of h.start new.nav)) so.own ∙ other))))

  -- one that is left is discarded, since none may be kept
  pub left_sends : (d : Document) → IsLastLeft h job d → IsTooMany h.header h.now d → new.nav ≡ d.nav → (move.doc.0 == d.nr.0) ≡ false → MayLog h (sent_row event actor job ∷ []) (λ later. IsAhead (Some move) later × PromptsLater h (sent_row event actor job) later)
  left_sends d due many same apart later both =
      let so = shows_first later move.doc both.0 in
      unkept_last_may h event actor job d led numbered due many later
      (both.1, subst (λ (l : List LogRow). IsLeftLater h.now d l) (sym so.is) (left_by h.now d so.before (sent_row so.event so.actor so.job) so.rest (activate_shows_another h.now d so.event so.actor so.job new so.entry so.epoch so.long so.at so.memo so.address so.task (ap (λ (x : DocId). document_of h.now x) so.own ∙ found) same (ap (λ (x : DocId). x.0 == d.nr.0) so.own ∙ apart))))

  -- the one that is kept longest is discarded, since with the one that is left too many would be kept
  pub overflow_sends : (d : Document) (place : Place) (left : DocId) → IsKeptLeft h job d (Some left) → nat_lt h.header.keep (length (kept_with h.now (Some left))) ≡ true → place_of h.now new.nav ≡ Some place → place.last ≡ Some left → (left.0 == move.doc.0) ≡ false → MayLog h (sent_row event actor job ∷ []) (λ later. IsAhead (Some move) later × PromptsLater h (sent_row event actor job) later)
  overflow_sends d place left due many placed last apart later both =
      let so = shows_first later move.doc both.0 in
      overflow_left_may h event actor job d led numbered (Some left) due many later
      (both.1, subst (λ (l : List LogRow). LeavesLater h.now (Some left) l) (sym so.is) (left_then h.now so.before (sent_row so.event so.actor so.job) so.rest left so.none (activate_leaves h.now so.event so.actor so.job new place left so.entry so.epoch so.long so.at so.memo so.address so.rest so.task (ap (λ (x : DocId). document_of h.now x) so.own ∙ found) placed last (ap (λ (x : DocId). left.0 == x.0) so.own ∙ apart))))
