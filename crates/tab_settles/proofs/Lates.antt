-- Each navigable that is shown and late, that is of whose document, not its first, isn't told yet that it is shown, is so for the load that was applied last: so a pass leaves it where no traversal runs, and so it is where all stood before a turn.
use Rattle.tab_releases.proofs.PassedOn.{over_with}
use Rattle.tab_facts.proofs.Calm.Sames.{way_at}
use Rattle.tab_facts.specs.Calm.Calm.{IsCalmAround, IsCalmYet, ShowsOne}
use Rattle.seen_facts.proofs.Coord.Unread.{next}
use Rattle.seen_facts.proofs.Each.Courses.{is_asked}
use Rattle.log_model.specs.After.{after, changed, has_stood_after, has_stood_now}
use Rattle.log_model.specs.AfterRequests.{on_request, request_begun}
use Rattle.log_model.specs.History.{History, has_nav}
use Rattle.log_model.specs.Places.{aim_of, all_stand, is_awake, is_shown}
use Rattle.log_model.specs.Seen.{Asked, Place, Seen, awake, place_in, place_of, request_of}
use Rattle.log_model.specs.declared.change.Change.{Change}
use Rattle.log_model.specs.declared.job.Job.{Job}
use Rattle.log_model.specs.declared.job.Task.{Task}
use Rattle.log_model.specs.declared.job.Why.{Why}
use Rattle.log_model.specs.declared.row_kind.Actor.{Actor}
use Rattle.log_model.specs.declared.row_kind.LogRow.{LogRow}
use Rattle.log_model.specs.declared.row_kind.RowKind.{RowKind}
use Rattle.row_facts.proofs.Owed.Rows.{reckoned_after, reckoned_now}
use Rattle.row_facts.proofs.Owed.Standing.{sent_eased}
use Rattle.row_facts.specs.Owed.Owed.{IsReckoned}
use Rattle.seen_facts.proofs.Request.Readers.{IsBlind, SameReads, on_read, reads_then, sent_reads}
use Rattle.seen_laws.specs.InEvent.{InEvent, now_of, row_of, EachGoes}
use Rattle.std.proofs.Common.{Bool, List, None, Option, Some, ap, arith, false, inl, inr, not, refl, subst, sym, true, zero, suc, ℕ, ◌&&◌, ◌∙◌, ◌∷◌, ◌≡◌, ◌≤◌, ◌⊎◌, []}
use Rattle.tab_ids.specs.declared.DocId.{DocId}
use Rattle.tab_ids.specs.declared.NavId.{NavId}
use Rattle.tab_ids.specs.declared.ReqId.{ReqId}
use Rattle.tab_releases.specs.PassedOn.{HasOnly, HasPutOut, IsServeFor, IsUp, IsUpdateFor, KeepsUp, length_index}
use Rattle.tab_settles.proofs.Awakes.{AllTold, sent_place}
use Rattle.tab_settles.proofs.PutOuts.{put_each}
use Rattle.tab_settles.specs.Offs.{AreLateKnown, IsLate, IsOffSince, LateKnown, is_new_place}
use Rattle.tab_settles.specs.Settling.{IsAppliedFor, IsCalmBefore}
use Rattle.log_model.specs.declared.job.Task.TheVariants as tasks
use Rattle.log_model.specs.declared.outcome.Ending.TheVariants as endings
use Rattle.log_model.specs.declared.row_kind.RowKind.TheVariants as rows

-- ---- the load that was applied last

-- what each request changed, and the last load that was applied, are as they were; and where not all have stood since, they haven't
pub record KeepsStep (s n : Seen) : Type 0 where
  pub changes : (req : ReqId) (q : Asked) (change : Change) → request_of s req ≡ Some q → q.change ≡ Some change → (r : Asked) × (request_of n req ≡ Some r) × (r.change ≡ Some change)
  pub last : n.last_step ≡ s.last_step
  pub unstood : s.has_stood ≡ false → n.has_stood ≡ false

-- the row is an order, or it begins, refuses or drops a request
abbrev pub IsUnapplied : RowKind → Type 0
IsUnapplied (rows.Sent job) = Unit {0}
IsUnapplied (rows.Started req goal) = Unit {0}
IsUnapplied (rows.Refused req reason) = Unit {0}
IsUnapplied (rows.Dropped req cause) = Unit {0}
IsUnapplied _ = ⊥

-- not all stand after a row that leaves whether all have stood, so they haven't
pub unstood_by : (s : Seen) (row : LogRow) → has_stood_after s row.row ≡ s.has_stood → all_stand (after s row) (after s row).history.current ≡ false → s.has_stood ≡ false → (after s row).has_stood ≡ false
unstood_by s row same away off = ap (λ (b : Bool). has_stood_now b (changed s row)) (same ∙ off) ∙ away

change_blind : IsBlind (λ (q : Asked). q.change)
change_blind = record { moves = λ q a m. refl; asks = λ q a. refl; fragments = λ q d. refl; misses = λ q is. refl }

by_reads : (s n : Seen) → SameReads (λ (q : Asked). q.change) s.requests n.requests → (req : ReqId) (q : Asked) (change : Change) → request_of s req ≡ Some q → q.change ≡ Some change → (r : Asked) × (request_of n req ≡ Some r) × (r.change ≡ Some change)
by_reads s n same req q change at changed =
    (let it = is_asked (λ (x : Asked). x.change) s.requests n.requests same req q at in (it.0, it.1, it.2 ∙ changed))

row_step : (s : Seen) (event : ℕ) (actor : Actor) (kind : RowKind) → IsUnapplied kind → IsReckoned s → KeepsStep s (next s event actor kind)
row_step s event actor (rows.Sent job) is reckoned =
    record {
      changes = by_reads s (next s event actor (rows.Sent job)) (sent_reads (λ (q : Asked). q.change) change_blind s job job.task s.requests);
      last = refl;
      unstood = λ off. unstood_by s (record { event = event; actor = actor; row = rows.Sent job }) refl ((sent_eased s job job.task).unsettled s.history.rows s.history.current (reckoned off)) off;
    }
row_step s event actor (rows.Started req goal) is reckoned =
    record {
      changes = by_reads s (next s event actor (rows.Started req goal)) (reads_then (λ (q : Asked). q.change) s.requests begun _ (on_read (λ (q : Asked). q.change) s.requests req (λ (q : Asked). record q { is_started = true; goal = goal }) (λ q. refl)) (on_read (λ (q : Asked). q.change) begun req (request_begun s) (λ q. refl)));
      last = refl;
      unstood = λ off. unstood_by s (record { event = event; actor = actor; row = rows.Started req goal }) refl (reckoned off) off;
    }
  where
    begun : List Asked
    begun = on_request req (λ (q : Asked). record q { is_started = true; goal = goal }) s.requests
row_step s event actor (rows.Refused req reason) is reckoned =
    record {
      changes = by_reads s (next s event actor (rows.Refused req reason)) (on_read (λ (q : Asked). q.change) s.requests req (λ (q : Asked). record q { ending = Some (endings.Refused reason) }) (λ q. refl));
      last = refl;
      unstood = λ off. unstood_by s (record { event = event; actor = actor; row = rows.Refused req reason }) refl (reckoned off) off;
    }
row_step s event actor (rows.Dropped req cause) is reckoned =
    record {
      changes = by_reads s (next s event actor (rows.Dropped req cause)) (on_read (λ (q : Asked). q.change) s.requests req (λ (q : Asked). record q { ending = Some (endings.Dropped cause) }) (λ q. refl));
      last = refl;
      unstood = λ off. unstood_by s (record { event = event; actor = actor; row = rows.Dropped req cause }) refl (reckoned off) off;
    }
row_step s event actor _ never reckoned = absurd never

pub step_none : (s : Seen) → KeepsStep s s
step_none s = record { changes = λ req q change at changed. (q, at, changed); last = refl; unstood = λ off. off }

pub step_then : (s t u : Seen) → KeepsStep s t → KeepsStep t u → KeepsStep s u
step_then s t u one two =
    record {
      changes = λ req q change at changed. (let mid = one.changes req q change at changed in two.changes req mid.0 change mid.1 mid.2);
      last = two.last ∙ one.last;
      unstood = λ off. two.unstood (one.unstood off);
    }

-- over such rows
pub only_step : (e : InEvent) (was out : List RowKind) → EachGoes e [] out → HasOnly IsUnapplied was out → KeepsStep (now_of e was) (now_of e out)
only_step e was out goes only =
    (over_with IsUnapplied (λ (x : Seen). KeepsStep (now_of e was) x × IsReckoned x) e one was out goes only (step_none (now_of e was), reckoned_now e was)).0
  where
    one : (x : Seen) (kind : RowKind) → IsUnapplied kind → KeepsStep (now_of e was) x × IsReckoned x → KeepsStep (now_of e was) (after x (row_of e kind)) × IsReckoned (after x (row_of e kind))
    one x kind is so =
        (step_then (now_of e was) x (after x (row_of e kind)) so.0 (row_step x e.event e.actor kind is so.1), reckoned_after x (row_of e kind))

-- who is off since that load is so still
pub off_still : (s n : Seen) (nav : NavId) (old place : Place) → KeepsStep s n → place_of s nav ≡ Some old → place_of n nav ≡ Some place → place.above ≡ old.above → place.why ≡ old.why → IsOffSince s nav old → IsOffSince n nav place
off_still s n nav old place keeps was now above why off =
    record {
      req = off.req;
      why = why ∙ off.why;
      by = record {
        mover = mover.0;
        found = mover.1;
        change = off.by.change;
        changed = mover.2;
        top = off.by.top;
        its = off.by.its;
        on_way = ap (λ (l : List NavId). has_nav l off.by.top) (way_at n nav place now ∙ ap (λ (l : List NavId). nav ∷ l) above ∙ sym (way_at s nav old was)) ∙ off.by.on_way;
        last = keeps.last ∙ off.by.last;
        unstood = keeps.unstood off.by.unstood;
      };
    }
  where
    mover : (q : Asked) × (request_of n off.req ≡ Some q) × (q.change ≡ Some off.by.change)
    mover = keeps.changes off.req off.by.mover off.by.change off.by.found off.by.changed

-- ---- who is late

-- it isn't under its first epoch
pub late_epoch : (s : Seen) (nav : NavId) (place : Place) (doc : DocId) → IsLate s nav place doc → 2 ≤ place.epoch.0
late_epoch s nav place doc late = by_epoch place.epoch.0 refl
  where
    wakes : (is_awake place && not place.is_delivered) ≡ true
    wakes = let w = late.wakes in let u = late.untold in rw w (rw u refl)

    by_epoch : (k : ℕ) → place.epoch.0 ≡ k → 2 ≤ place.epoch.0
    by_epoch zero is =
        let new : is_new_place place ≡ true = rw is refl in
        let never : true ≡ false = sym new ∙ late.old in absurd cc
    by_epoch (suc zero) is =
        let new : is_new_place place ≡ true = rw is wakes in
        let never : true ≡ false = sym new ∙ late.old in absurd cc
    by_epoch (suc (suc k)) is = omega (arith, is)

-- where of each that is awake it is told that it is shown, none is late
pub told_known : (run : Option ReqId) (s : Seen) → AllTold s → LateKnown run s
told_known None s told =
    λ nav place doc late shown. (let never : false ≡ true = sym late.untold ∙ told nav place doc late.placed late.wakes in absurd cc)
told_known (Some run) s told = tt

-- so it is known still over such rows, where no place has changed
pub late_put : (e : InEvent) (run : Option ReqId) (was out : List RowKind) → EachGoes e [] out → HasOnly IsUnapplied was out → (now_of e out).places ≡ (now_of e was).places → (now_of e out).history ≡ (now_of e was).history → LateKnown run (now_of e was) → LateKnown run (now_of e out)
late_put e (Some run) was out goes only places history known = tt
late_put e None was out goes only places history known =
    λ nav place doc late shown. off_still (now_of e was) (now_of e out) nav place place (only_step e was out goes only) (same nav place late.placed) late.placed refl refl (known nav place doc (record { placed = same nav place late.placed; wakes = late.wakes; untold = late.untold; old = late.old }) (ap (λ (h : History). is_shown h.rows h.current nav) (sym history) ∙ shown))
  where
    same : (nav : NavId) (place : Place) → place_of (now_of e out) nav ≡ Some place → place_of (now_of e was) nav ≡ Some place
    same nav place at = ap (λ (l : List Place). place_in l nav) (sym places) ∙ at

-- ---- over a pass

-- an order that shows a document is for the cause
abbrev ShowsFor : Why → RowKind → Type 0
ShowsFor cause (rows.Sent job) = ShowsOne job.task → job.why ≡ cause
ShowsFor cause (rows.Dropped req because) = Unit {0}
ShowsFor cause _ = ⊥

for_unapplied : (cause : Why) (kind : RowKind) → ShowsFor cause kind → IsUnapplied kind
for_unapplied cause (rows.Sent job) its = tt
for_unapplied cause (rows.Dropped req because) its = tt
for_unapplied cause _ never = absurd never

module _ (e : InEvent) (cause tells : Why) (was out : List RowKind) (goes : EachGoes e [] out) (put : HasPutOut e None cause tells was out) where
  abbrev s : Seen
  s = now_of e was

  abbrev n : Seen
  n = now_of e out

  only : HasOnly (ShowsFor cause) was out
  only = put_each (ShowsFor cause) e None cause tells was out (λ d. tt) discards serves told put
    where
      none_shown : (task : Task) → task ≡ tasks.Discard → ShowsOne task → ⊥
      none_shown (tasks.Activate entry epoch long at memo address) is shows = cc
      none_shown _ is shows = absurd shows

      discards : (job : Job) → job.task ≡ tasks.Discard → ShowsFor cause (rows.Sent job)
      discards job is shows = absurd (none_shown job.task is shows)

      serves : (row : RowKind) → IsServeFor None cause row → ShowsFor cause row
      serves row it = subst (λ (x : RowKind). ShowsFor cause x) (sym it.is) it.shows

      none_told : (task : Task) → length_index task ≡ true → ShowsOne task → ⊥
      none_told (tasks.Activate entry epoch long at memo address) is shows = let never : false ≡ true = is in cc
      none_told _ is shows = absurd shows

      told : (row : RowKind) → IsUpdateFor tells row → ShowsFor cause row
      told (rows.Sent job) is = λ shows. absurd (none_told job.task is.1 shows)
      told row is = elim is [ ]

  step : KeepsStep s n
  step = only_step e was out goes (record { more = only.more; is = only.is; each = λ row has. for_unapplied cause row (only.each row has) })

  -- each that is awake is as it was, or for the cause
  abbrev IsSameOrFor : Seen → Type 0
  IsSameOrFor x =
      (nav : NavId) (place : Place) (doc : DocId) → place_of x nav ≡ Some place → place.status ≡ awake doc → (place_of s nav ≡ Some place) ⊎ (place.why ≡ cause)

  same_or_for : IsSameOrFor n
  same_or_for = over_with (ShowsFor cause) IsSameOrFor e one was out goes only (λ nav place doc now wakes. inl now)
    where
      one : (x : Seen) (kind : RowKind) → ShowsFor cause kind → IsSameOrFor x → IsSameOrFor (after x (row_of e kind))
      one x (rows.Sent job) shows so nav place doc now wakes =
          by_case (sent_place x e.event e.actor job nav place doc now wakes)
        where
          by_case : (place_of x nav ≡ Some place) ⊎ (ShowsOne job.task × (place.why ≡ job.why)) → (place_of s nav ≡ Some place) ⊎ (place.why ≡ cause)
          by_case (inl same) = so nav place doc same wakes
          by_case (inr it) = inr (it.1 ∙ shows it.0)
      one x (rows.Dropped req because) shows so nav place doc now wakes = so nav place doc now wakes
      one x kind never so nav place doc now wakes = elim never [ ]

  -- and the load that was applied last is so still
  pub applied_after : (at : NavId) → IsAppliedFor cause s at → IsAppliedFor cause n at
  applied_after at it =
      record {
        req = it.req;
        for_ = it.for_;
        last = record {
          mover = mover.0;
          found = mover.1;
          change = it.last.change;
          changed = mover.2;
          its = it.last.its;
          last = step.last ∙ it.last.last;
          unstood = step.unstood it.last.unstood;
        };
      }
    where
      mover : (q : Asked) × (request_of n it.req ≡ Some q) × (q.change ≡ Some it.last.change)
      mover = step.changes it.req it.last.mover it.last.change it.last.found it.last.changed

  pub late_after : n.history ≡ s.history → aim_of s ≡ s.history.current → KeepsUp s n → IsCalmBefore None cause s → AreLateKnown s → AreLateKnown n
  late_after history now keeps calm known nav place doc late shown = by_calm calm
    where
      up : IsUp n nav place doc
      up = record { placed = late.placed; wakes = late.wakes; shown = shown; later = late_epoch n nav place doc late }

      shown_s : is_shown s.history.rows s.history.current nav ≡ true
      shown_s = ap (λ (h : History). is_shown h.rows h.current nav) (sym history) ∙ shown

      as_before : place_of s nav ≡ Some place → IsOffSince n nav place
      as_before same =
          off_still s n nav place place step same late.placed refl refl (known nav place doc (record { placed = same; wakes = late.wakes; untold = late.untold; old = late.old }) shown_s)

      applied : (at : NavId) → IsAppliedFor cause s at → has_nav (nav ∷ place.above) at ≡ true → place.why ≡ cause → IsOffSince n nav place
      applied at it under why =
          record {
            req = it.req;
            why = why ∙ it.for_;
            by = record {
              mover = mover.0;
              found = mover.1;
              change = it.last.change;
              changed = mover.2;
              top = at;
              its = it.last.its;
              on_way = ap (λ (l : List NavId). has_nav l at) (way_at n nav place late.placed) ∙ under;
              last = step.last ∙ it.last.last;
              unstood = step.unstood it.last.unstood;
            };
          }
        where
          mover : (q : Asked) × (request_of n it.req ≡ Some q) × (q.change ≡ Some it.last.change)
          mover = step.changes it.req it.last.mover it.last.change it.last.found it.last.changed

      by_why : (at : NavId) → IsAppliedFor cause s at → has_nav (nav ∷ place.above) at ≡ true → (place_of s nav ≡ Some place) ⊎ (place.why ≡ cause) → IsOffSince n nav place
      by_why at it under (inl same) = as_before same
      by_why at it under (inr why) = applied at it under why

      by_around : (at : NavId) → IsAppliedFor cause s at → (place_of s nav ≡ Some place) ⊎ (has_nav (nav ∷ place.above) at ≡ true) → IsOffSince n nav place
      by_around at it (inl same) = as_before same
      by_around at it (inr under) = by_why at it under (same_or_for nav place doc late.placed late.wakes)

      by_calm : IsCalmYet s ⊎ ((at : NavId) × (IsCalmAround s at × IsAppliedFor cause s at)) → IsOffSince n nav place
      by_calm (inl yet) = as_before (keeps.yet now yet nav place doc up)
      by_calm (inr around) = by_around around.0 around.1.1 (keeps.around now around.0 around.1.0 nav place doc up)
