-- What a move puts out: orders that freeze or discard documents, and the one that shows one; and who is awake after them.
use Rattle.tab_doors.proofs.PassedOn.{sent_now}
use Rattle.tab_facts.specs.Calm.Loads.{LoadsHaveDocuments}
use Rattle.log_model.specs.After.{after}
use Rattle.log_model.specs.Seen.{Place, Seen, place_of}
use Rattle.log_model.specs.declared.job.Task.{Task}
use Rattle.log_model.specs.declared.job.Why.{Why}
use Rattle.log_model.specs.declared.row_kind.RowKind.{RowKind}
use Rattle.seen_facts.proofs.Mover.Orders.{PutsToSleep}
use Rattle.seen_laws.specs.InEvent.{InEvent, now_of, row_of}
use Rattle.std.proofs.Common.{List, None, Option, Some, [], ap, refl, subst, sym, ℕ, ◌++◌, ◌∙◌, ◌∷◌, ◌≡◌}
use Rattle.tab_doors.specs.Keeping.{Move}
use Rattle.tab_doors.specs.Orders.{order_to}
use Rattle.tab_doors.specs.declared.tables.Tables.{Tables}
use Rattle.tab_evicts.specs.Evicting.{HasOnlyDiscarded}
use Rattle.tab_ids.specs.declared.DocId.{DocId}
use Rattle.tab_ids.specs.declared.EntryId.{EntryId}
use Rattle.tab_ids.specs.declared.NavId.{NavId}
use Rattle.tab_ids.specs.declared.ReqId.{ReqId}
use Rattle.tab_moves.specs.Showing.{IsShownBy, IsToShow}
use Rattle.tab_moves.proofs.PassedOn.{only_as}
use Rattle.tab_moves.proofs.Frees.{HasOnlyFrozen, only_one}
pub use Rattle.tab_moves.proofs.Frees.{only_then}
use Rattle.tab_walk.proofs.Overs.{IsQuietRow, over_only}
use Rattle.tab_walk.specs.Moving.{HasBeenMoved, HasOnlyLeft, HasOnlyMoved, InMove, IsBound, IsLeaveFor, IsMoveFor, IsOfMove}
use Rattle.row_facts.proofs.WalkRows.Sinces.{sent_since, shown_since, since_itself}
use Rattle.row_facts.proofs.WalkRows.Wakes.{ShowsNone}
use Rattle.row_facts.specs.WalkRows.Since.{AwakeSince}
use Rattle.log_model.specs.declared.job.Task.TheVariants as tasks
use Rattle.log_model.specs.declared.row_kind.RowKind.TheVariants as rows

-- orders that freeze, and orders that discard
pub frozen_left : (why : Why) (docs : List DocId) (was out : List RowKind) → HasOnlyFrozen why docs was out → HasOnlyLeft why was out
frozen_left why docs was out only =
    only_as _ (IsLeaveFor why) was out (λ row it. record { job = it.job; is = it.is; why_is = it.why_is; puts = subst (λ (k : Task). PutsToSleep k) (sym it.freezes) tt }) only

pub discarded_left : (why : Why) (was out : List RowKind) → HasOnlyDiscarded why was out → HasOnlyLeft why was out
discarded_left why was out only =
    only_as _ (IsLeaveFor why) was out (λ row it. record { job = it.job; is = it.is; why_is = it.why_is; puts = subst (λ (k : Task). PutsToSleep k) (sym it.discards) tt }) only

-- one that discards, and more that do
pub cut_left_only : (s : Seen) (why : Why) (doc : DocId) (was mid out : List RowKind) → mid ≡ was ++ rows.Sent (order_to s doc why tasks.Discard) ∷ [] → HasOnlyDiscarded why mid out → HasOnlyLeft why was out
cut_left_only s why doc was mid out is only =
    only_then (IsLeaveFor why) was mid out
    (only_one (IsLeaveFor why) was mid (rows.Sent (order_to s doc why tasks.Discard)) is (record { job = order_to s doc why tasks.Discard; is = refl; why_is = refl; puts = tt }))
    (discarded_left why mid out only)

-- such orders, and then more
pub left_then_left : (why : Why) (was mid out : List RowKind) → HasOnlyLeft why was mid → HasOnlyLeft why mid out → HasOnlyLeft why was out
left_then_left why was mid out = only_then (IsLeaveFor why) was mid out

-- and then one that shows a document
moved_only : (s : Seen) (t : Tables) (nav : NavId) (doc : DocId) (entry : EntryId) (why : Why) (was mid out : List RowKind) → HasOnlyLeft why was mid → IsShownBy s t nav doc entry why mid out → HasOnlyMoved why was out
moved_only s t nav doc entry why was mid out left shown =
    only_then (IsMoveFor why) was mid out (only_as (IsLeaveFor why) (IsMoveFor why) was mid of_left left)
    (only_one (IsMoveFor why) mid out _ shown.is (record { job = _; is = refl; why_is = refl; moves = tt }))
  where
    by_task : (task : Task) → PutsToSleep task → IsOfMove task
    by_task tasks.Freeze puts = tt
    by_task tasks.Discard puts = tt
    by_task _ puts = absurd puts

    of_left : (row : RowKind) → IsLeaveFor why row → IsMoveFor why row
    of_left row it = record { job = it.job; is = it.is; why_is = it.why_is; moves = by_task it.job.task it.puts }

-- the same for one reason, by whatever name each has it
pub moved_for : (s : Seen) (t : Tables) (nav : NavId) (doc : DocId) (entry : EntryId) (left_why show_why why : Why) (was mid out : List RowKind) → left_why ≡ why → show_why ≡ why → HasOnlyLeft left_why was mid → IsShownBy s t nav doc entry show_why mid out → HasOnlyMoved why was out
moved_for s t nav doc entry left_why show_why why was mid out lefts shows left shown =
    moved_only s t nav doc entry why was mid out (subst (λ (w : Why). HasOnlyLeft w was mid) lefts left) (subst (λ (w : Why). IsShownBy s t nav doc entry w mid out) shows shown)

-- ---- who is awake

shows_none : (task : Task) → PutsToSleep task → ShowsNone task
shows_none tasks.Freeze puts = tt
shows_none tasks.Discard puts = tt
shows_none _ puts = absurd puts

-- nobody wakes by orders that freeze or discard
left_since : (e : InEvent) (why : Why) (was out : List RowKind) → HasOnlyLeft why was out → AwakeSince (now_of e was) [] (now_of e out)
left_since e why was out left =
    over_only (λ (s : Seen). AwakeSince (now_of e was) [] s) (λ s event job puts since. sent_since (now_of e was) s [] since event.event event.actor job (shows_none job.task puts)) e was out
    (only_as (IsLeaveFor why) IsQuietRow was out (λ row it. record { job = it.job; is = it.is; puts = it.puts }) left) (since_itself (now_of e was))

-- and by the one that shows a document only its navigable
pub woken : (e : InEvent) (why for_ : Why) (was mid out : List RowKind) (move : Option Move) (run : Option ReqId) (keep : ℕ) (t : Tables) (nav : NavId) (doc : DocId) (entry : EntryId) (cause : Why) → HasOnlyLeft why was mid → IsToShow move run keep (now_of e mid) nav doc entry cause → IsShownBy (now_of e mid) t nav doc entry for_ mid out → AwakeSince (now_of e was) (nav ∷ []) (now_of e out)
woken e why for_ was mid out move run keep t nav doc entry cause left shows shown =
    subst (λ (l : List RowKind). AwakeSince (now_of e was) (nav ∷ []) (now_of e l)) (sym shown.is)
    (subst (λ (s : Seen). AwakeSince (now_of e was) (nav ∷ []) s) (sym (sent_now e mid _ refl))
    (subst (λ (n : NavId). AwakeSince (now_of e was) (n ∷ []) (after (now_of e mid) (row_of e (rows.Sent (order_to (now_of e mid) doc for_ (tasks.Activate entry shown.epoch shown.long shown.at shown.target.memo shown.target.address)))))) shows.wanted.nav_is
    (shown_since (now_of e was) (now_of e mid) [] (left_since e why was mid left) e.event e.actor (order_to (now_of e mid) doc for_ (tasks.Activate entry shown.epoch shown.long shown.at shown.target.memo shown.target.address)) shows.wanted.document entry shown.epoch shown.long shown.at shown.target.memo shown.target.address refl shows.wanted.found)))

-- the same of a move, by the names of a call
pub woken_as : (m : InMove) (nav : NavId) (doc : DocId) (entry : EntryId) → nav ≡ m.nav → doc ≡ m.doc → entry ≡ m.entry → (e : InEvent) (why for_ : Why) (was mid out : List RowKind) (move : Option Move) (run : Option ReqId) (keep : ℕ) (t : Tables) → HasOnlyLeft why was mid → IsToShow move run keep (now_of e mid) m.nav m.doc m.entry m.cause → IsShownBy (now_of e mid) t nav doc entry for_ mid out → AwakeSince (now_of e was) (nav ∷ []) (now_of e out)
woken_as m nav doc entry navs docs entries e why for_ was mid out move run keep t left shows shown =
    woken e why for_ was mid out move run keep t nav doc entry m.cause left
    (subst (λ (n : NavId). IsToShow move run keep (now_of e mid) n doc entry m.cause) (sym navs)
    (subst (λ (d : DocId). IsToShow move run keep (now_of e mid) m.nav d entry m.cause) (sym docs)
    (subst (λ (x : EntryId). IsToShow move run keep (now_of e mid) m.nav m.doc x m.cause) (sym entries) shows)))
    shown

-- ---- all of it

-- what was left, and what is shown
pub moved_by : (e : InEvent) (why for_ : Why) (was mid out : List RowKind) (move : Option Move) (run : Option ReqId) (keep : ℕ) (t : Tables) (nav : NavId) (doc : DocId) (entry : EntryId) (cause : Why) → HasOnlyLeft why was mid → IsToShow move run keep (now_of e mid) nav doc entry cause → (shown : IsShownBy (now_of e mid) t nav doc entry for_ mid out) → ((place : Place) → place_of (now_of e was) nav ≡ Some place → place.last ≡ None → (mid ≡ was) × (shown.epoch.0 ≡ 1)) → (LoadsHaveDocuments (now_of e was) → LoadsHaveDocuments (now_of e mid)) → HasBeenMoved e nav was out
moved_by e why for_ was mid out move run keep t nav doc entry cause left shows shown first loading =
    record {
      mid = mid;
      for_ = why;
      left = left;
      first = λ place placed none. (first place placed none).0;
      loading = loading;
      job = order_to (now_of e mid) doc for_ (tasks.Activate entry shown.epoch shown.long shown.at shown.target.memo shown.target.address);
      entry = entry;
      epoch = shown.epoch;
      one = λ place placed none. (first place placed none).1;
      long = shown.long;
      at = shown.at;
      memo = shown.target.memo;
      address = shown.target.address;
      task = refl;
      wanted = shows.wanted;
      is = shown.is;
    }

-- where it leaves a document, it was shown one
pub left_first_not : (m : InMove) (run : Option ReqId) (s : Seen) (nav : NavId) → nav ≡ m.nav → IsBound m run s → (place : Place) → place_of s nav ≡ Some place → place.last ≡ None → ⊥
left_first_not m run s nav navs bound place placed none =
    let both : Some bound.place ≡ Some place = sym bound.placed ∙ ap (λ (n : NavId). place_of s n) (sym navs) ∙ placed in
    let same : bound.place ≡ place = cc in
    let never : Some m.left ≡ None = sym bound.last ∙ ap (λ (p : Place). p.last) same ∙ none in
    cc

-- the same of a move, by the names of a call
pub moved_as : (m : InMove) (nav : NavId) (doc : DocId) (entry : EntryId) → nav ≡ m.nav → doc ≡ m.doc → entry ≡ m.entry → (e : InEvent) (why for_ : Why) (was mid out : List RowKind) (move : Option Move) (run first_run : Option ReqId) (keep : ℕ) (t : Tables) → IsBound m first_run (now_of e was) → HasOnlyLeft why was mid → IsToShow move run keep (now_of e mid) m.nav m.doc m.entry m.cause → IsShownBy (now_of e mid) t nav doc entry for_ mid out → (LoadsHaveDocuments (now_of e was) → LoadsHaveDocuments (now_of e mid)) → HasBeenMoved e nav was out
moved_as m nav doc entry navs docs entries e why for_ was mid out move run first_run keep t bound left shows shown loading =
    moved_by e why for_ was mid out move run keep t nav doc entry m.cause left
    (subst (λ (n : NavId). IsToShow move run keep (now_of e mid) n doc entry m.cause) (sym navs)
    (subst (λ (d : DocId). IsToShow move run keep (now_of e mid) m.nav d entry m.cause) (sym docs)
    (subst (λ (x : EntryId). IsToShow move run keep (now_of e mid) m.nav m.doc x m.cause) (sym entries) shows)))
    shown
    (λ place placed none. absurd (left_first_not m first_run (now_of e was) nav navs bound place placed none))
    loading
