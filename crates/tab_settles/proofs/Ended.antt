-- The traversal that ran has ended: what was held back for it may be taken up, and then a pass may follow.
use Rattle.seen_laws.proofs.InEvents.{later_more, now_at}
use Rattle.tab_facts.proofs.Calm.Awakes.{calm_stood}
use Rattle.tab_facts.proofs.Calm.Loads.{loads_same}
use Rattle.tab_facts.specs.Calm.Calm.{CalmUnless, IsCalmYet}
use Rattle.tab_facts.specs.Calm.Loads.{LoadsHaveDocuments}
use Rattle.seen_facts.proofs.Coord.Held.{held_alike}
use Rattle.seen_facts.proofs.Coord.Unread.{next}
use Rattle.seen_facts.specs.Coord.Leading.{held_back}
use Rattle.row_facts.specs.FrameRows.Lawful.{has_traversed}
use Rattle.seen_facts.specs.Home.Homes.{document_in}
use Rattle.log_model.specs.Equal.{has_req}
use Rattle.log_model.specs.Places.{aim_of, all_stand}
use Rattle.log_model.specs.Queue.{is_traverse}
use Rattle.log_model.specs.Seen.{Document, Seen}
use Rattle.log_model.specs.declared.job.Why.{Why}
use Rattle.log_model.specs.declared.row_kind.LogRow.{LogRow}
use Rattle.log_model.specs.declared.row_kind.RowKind.{RowKind}
use Rattle.move_queue.specs.Queue.{Queue}
use Rattle.row_facts.specs.Owed.Owed.{IsLoose}
use Rattle.seen_laws.specs.InEvent.{InEvent, later_of, now_of, row_of, EachGoes}
use Rattle.std.proofs.Common.{Bool, List, None, Option, Some, [], ap, append-nil, arith, false, inl, inr, length, map, refl, subst, sym, true, ◌++◌, ◌∙◌, ◌∷◌, ◌≡◌, ◌≤◌, ◌⊎◌}
use Rattle.std.proofs.lemmas.Bool.{and_parts, or_right}
use Rattle.std.proofs.lemmas.List.Folds.{list_any-append}
use Rattle.std.specs.List.{last_or, list_any}
use Rattle.std.specs.Prelude.{is_some}
use Rattle.tab_releases.specs.PassedOn.{IsOfTurn, HasEnded, HasPassed, HasQueue, MayHaveEnded, is_through, show_why}
use Rattle.tab_turns.specs.Ending.{HasRested}
use Rattle.tab_releases.specs.Releasing.{EndsEach, HoldsParked, InPass, IsPassing, IsReleasing, IsTaking, IsTurning, KeepsRun, LoadsMadeOwn, MayBeFor, MayCause, Tables}
use Rattle.tab_ids.specs.declared.ReqId.{ReqId}
use Rattle.tab_ids.specs.declared.StateId.{StateId}
pub use Rattle.tab_releases.proofs.Endings.{IsEnding, is_ending}
pub use Rattle.tab_releases.proofs.Releases.{mades_same}
use Rattle.tab_releases.proofs.PassedOn.{ended_loads, ended_passed, ended_queue, ended_stand, ended_strays, rest_stand}
pub use Rattle.tab_releases.specs.PassedOn.{IsNoneDue}
use Rattle.seen_facts.specs.Asked.Asking.{ArePlain}
use Rattle.seen_facts.specs.Hang.Members.{Has}
use Rattle.log_model.specs.Points.{ends_in}
use Rattle.std.specs.List.{cons_option, filter_map}
use Rattle.tab_settles.proofs.Awakes.{AllTold, stood_told, turns_told}
use Rattle.tab_settles.proofs.Lates.{told_known}
use Rattle.tab_settles.proofs.MovedRows.{shown_idle}
use Rattle.tab_settles.proofs.Puts.{put_then, turn_put}
use Rattle.tab_settles.proofs.Stood.{stood_taking, theirs_over}
use Rattle.tab_settles.specs.Offs.{LateKnown}
use Rattle.tab_settles.specs.Settling.{HasPut, HasSettled, IsCalmBefore, IsQueueing, IsReady, MayRelease, MovedAreShown}
use Rattle.log_model.specs.declared.change.Change.TheVariants as changes
use Rattle.log_model.specs.declared.row_kind.RowKind.TheVariants as rows

-- ---- lists

some_last : {A : Type 0} (x : A) (xs : List A) → (let o : Option A = None in last_or (Some x) xs ≡ o) → ⊥
some_last x [] e = cc
some_last x (y ∷ xs) e = some_last y xs e

none_last : {A : Type 0} (xs : List A) → (let o : Option A = None in last_or o xs ≡ o) → xs ≡ []
none_last [] e = refl
none_last (x ∷ xs) e = absurd (some_last x xs e)

none_long : {A : Type 0} (xs : List A) → length xs ≡ 0 → xs ≡ []
none_long [] e = refl
none_long (x ∷ xs) e = absurd (omega (arith, e))

-- ---- rows that end a request

-- a row that ends a request is of a turn
pub ends_turn : (e : InEvent) (kind : RowKind) (req : ReqId) → ends_in (row_of e kind) ≡ Some req → IsOfTurn kind
ends_turn e (rows.Applied r change) req is = tt
ends_turn e (rows.Refused r reason) req is = tt
ends_turn e (rows.Dropped r cause) req is = tt
ends_turn e (rows.Started r goal) req is = tt
ends_turn e _ req is = absurd cc

-- where as many requests end as there are rows, each row ends one
pub ends_some : (e : InEvent) (more : List RowKind) → length (filter_map ends_in (map (row_of e) more)) ≡ length more → (row : RowKind) → Has more row → (req : ReqId) × (ends_in (row_of e row) ≡ Some req)
ends_some e [] long row never = absurd never
ends_some e (kind ∷ more) long row has =
    by_end (ends_in (row_of e kind)) refl long has (λ same has_. ends_some e more same row has_)
  where
    short : (l : List RowKind) → length (filter_map ends_in (map (row_of e) l)) ≤ length l
    short [] = omega arith
    short (x ∷ l) = by_one (ends_in (row_of e x)) (short l)
      where
        by_one : (o : Option ReqId) → length (filter_map ends_in (map (row_of e) l)) ≤ length l → length (cons_option o (filter_map ends_in (map (row_of e) l))) ≤ length (x ∷ l)
        by_one None low = omega (arith, low)
        by_one (Some r) low = omega (arith, low)

    by_end : (o : Option ReqId) → ends_in (row_of e kind) ≡ o → length (cons_option o (filter_map ends_in (map (row_of e) more))) ≡ length (kind ∷ more) → (kind ≡ row) ⊎ Has more row → (length (filter_map ends_in (map (row_of e) more)) ≡ length more → Has more row → (req : ReqId) × (ends_in (row_of e row) ≡ Some req)) → (req : ReqId) × (ends_in (row_of e row) ≡ Some req)
    by_end None is long_ has_ later = (let low = short more in absurd (omega (arith, low, long_)))
    by_end (Some req) is long_ (inl same) later = (req, ap (λ (k : RowKind). ends_in (row_of e k)) (sym same) ∙ is)
    by_end (Some req) is long_ (inr has_) later =
        later (let same : length (filter_map ends_in (map (row_of e) more)) ≡ length more = omega (arith, long_) in same) has_

each_ends : (e : InEvent) (more : List RowKind) → length (filter_map ends_in (map (row_of e) more)) ≡ length more → (row : RowKind) → Has more row → IsOfTurn row
each_ends e more long row has = let it = ends_some e more long row has in ends_turn e row it.0 it.1

-- ---- the traversal has ended

module _ (p : InPass) (out : List RowKind) (t : Tables) (queue : Queue) (blame : List (StateId × ReqId)) (cause : Why) (at : HasSettled p out t queue blame cause) (mid : List RowKind) (m : Tables) (then_ : IsPassing p mid m) (turning : IsTurning p.event mid) (ended : HasEnded p.event out mid t m) (through : is_through (now_of p.event out) t.running ≡ true) where
  abbrev e : InEvent
  e = p.event

  abbrev s : Seen
  s = now_of e out

  abbrev y : Seen
  y = now_of e mid

  idle : m.running ≡ None
  idle = ended.none_runs

  stand_s : all_stand s (aim_of s) ≡ true
  stand_s = (and_parts (is_some t.running) (all_stand s (aim_of s)) through).1

  passed_m : HasPassed e y
  passed_m = ended_passed p out t at.passing at.passed mid m ended

  stand_m : all_stand y y.history.current ≡ true
  stand_m = ended_stand p out t at.passing at.passed mid m ended stand_s

  theirs_m : LoadsMadeOwn y
  theirs_m = theirs_over s y ended.alone.wishes ended.alone.documents at.theirs

  -- each ongoing load has its document still
  loading_m : LoadsHaveDocuments y
  loading_m =
      loads_same s y (ended_loads p out t at.passing at.passed mid m ended) (λ doc. ap (λ (l : List Document). document_in l doc) ended.alone.documents) at.live.loading

  taking_m : IsTaking e m.running blame y
  taking_m =
      stood_taking p mid m then_ idle passed_m stand_m blame (ended_strays p out t at.passing at.passed mid m ended blame at.strays) loading_m

  loose_m : IsLoose e mid
  loose_m = then_.loose (rest_stand p mid m then_ idle passed_m stand_m)

  queue_m : HasQueue y None queue.waiting
  queue_m =
      subst (λ (r : Option ReqId). HasQueue y r queue.waiting) idle (ended_queue p out t at.passing at.passed mid m ended queue.waiting at.queueing.queued)

  parked_m : HoldsParked y queue.parked
  parked_m =
      at.queueing.parked
      ∙ sym (held_alike s.requests y.requests s.parked (mades_same s y ended.alone.wishes))
      ∙ ap (λ (l : List ReqId). held_back y.requests l) (sym ended.alone.parked)

  abbrev kind : RowKind
  kind = rows.Applied ended.req (changes.Traverse (record { 0 = aim_of s }))

  many_m : length y.requests ≡ length s.requests
  many_m =
      ap (λ (x : Seen). length x.requests) (now_at e out kind mid ended.out then_.work.goes)
      ∙ (let its : IsEnding s (next s e.event e.actor kind) ended.req = is_ending s e kind ended.req refl in its.long)

  traversed_m : has_traversed e mid ≡ true
  traversed_m =
      ap (λ (l : List RowKind). has_traversed e l) ended.out
      ∙ ap (λ (l : List LogRow). list_any is_traverse l) (later_more e out (kind ∷ []))
      ∙ list_any-append is_traverse (later_of e out) (row_of e kind ∷ [])
      ∙ or_right (list_any is_traverse (later_of e out)) (list_any is_traverse (row_of e kind ∷ [])) refl

  releasing_m : (y.parked ≡ [] → ⊥) → IsReleasing e mid
  releasing_m some =
      (let may : MayRelease e out = at.queueing.releasing (λ none. some (ended.alone.parked ∙ none)) stand_s in record {
        by_coord = may.by_coord;
        takes = may.takes;
        many = many_m ∙ may.many;
        ended = traversed_m;
        old = λ req has. may.old req (ap (λ (l : List ReqId). has_req l req) (sym ended.alone.parked) ∙ has);
      })

  pub release_asks : IsPassing p mid m × ((p.hand ≡ []) × (IsTurning e mid × ((m.running ≡ None) × (IsTaking e m.running blame y × (IsLoose e mid × (LoadsMadeOwn y × (HasQueue y None queue.waiting × (HoldsParked y queue.parked × ((y.parked ≡ [] → ⊥) → IsReleasing e mid)))))))))
  release_asks = (then_, (at.empty, (turning, (idle, (taking_m, (loose_m, (theirs_m, (queue_m, (parked_m, releasing_m)))))))))

  -- ---- once it was taken up

  module _ (new : List RowKind) (u : Tables) (noted : List (StateId × ReqId)) (last : Option ReqId) (left : Queue) (passing : IsPassing p new u) (turning_n : IsTurning e new) (taking : IsTaking e u.running noted (now_of e new)) (queued : HasQueue (now_of e new) None left.waiting) (none : (now_of e new).parked ≡ []) (empty : left.parked ≡ []) (each : EndsEach e mid new (now_of e mid).parked) (last_is : last ≡ last_or None (now_of e mid).parked) (theirs : LoadsMadeOwn (now_of e new)) (causes : MayBeFor (now_of e new) last) (waiting : left.waiting ≡ queue.waiting) (kept : KeepsRun m u) where
    n : Seen
    n = now_of e new

    idle_n : u.running ≡ None
    idle_n = kept.running ∙ idle

    -- where nothing was held back, nothing was put out
    may_n : MayCause (now_of e new) (show_why last cause)
    may_n = by_last last refl
      where
        by_last : (o : Option ReqId) → last ≡ o → MayCause (now_of e new) (show_why o cause)
        by_last (Some req) is = causes req is
        by_last None is =
            let nothing : (now_of e mid).parked ≡ [] = none_last (now_of e mid).parked (sym last_is ∙ is) in
            let rows_ : each.more ≡ [] = none_long each.more (each.long ∙ ap (λ (l : List ReqId). length l) nothing) in
            let same : new ≡ mid = each.out ∙ ap (λ (l : List RowKind). mid ++ l) rows_ ∙ append-nil mid in
            subst (λ (l : List RowKind). MayCause (now_of e l) cause) (sym same) (ended.alone.causes cause at.may)

    queueing_n : IsQueueing p new u left
    queueing_n =
        record {
          waits = turning_n.waits;
          queued = subst (λ (r : Option ReqId). HasQueue (now_of e new) r left.waiting) (sym idle_n) queued;
          parked = empty ∙ ap (λ (l : List ReqId). held_back (now_of e new).requests l) (sym none);
          held = λ runs. none;
          over = λ has. none;
          releasing = λ some all. absurd (some none);
        }

    -- of each that is awake it is told that it is shown, since all stood
    told_n : AllTold (now_of e new)
    told_n =
        turns_told e mid new passing.work.goes (record { more = each.more; is = each.out; each = each_ends e each.more (ap (λ (l : List ReqId). length l) each.ends ∙ sym each.long) })
        (stood_told y then_.going.tab.standing (calm_stood y then_.going.tab.sound then_.going.tab.hangs then_.going.tab.homes then_.going.tab.standing passed_m.rows_ stand_m) stand_m)

    pub ready_n : (why : Why) → why ≡ show_why last cause → IsReady p new u left noted why
    ready_n why is =
        subst (λ (w : Why). IsReady p new u left noted w) (sym is) (record {
          passing = passing;
          empty = at.empty;
          header = kept.keep ∙ ended.keep ∙ at.header;
          open_ = taking.open_ (show_why last cause) may_n;
          loads = taking.loads;
          frees = λ nav place placed need since. turning_n.free;
          blamed = taking.blamed;
          calm = subst (λ (r : Option ReqId). IsCalmBefore r (show_why last cause) (now_of e new)) (sym idle_n) (inl (subst (λ (r : Option ReqId). CalmUnless IsCalmYet r (now_of e new)) idle_n taking.calm));
          late = subst (λ (r : Option ReqId). LateKnown r (now_of e new)) (sym idle_n) (told_known None (now_of e new) told_n);
          moved = subst (λ (r : Option ReqId). MovedAreShown r (now_of e new)) (sym idle_n) (shown_idle (now_of e new));
          live = taking.live;
          theirs = theirs;
          queueing = queueing_n;
        })

-- ---- what was put out

-- the traversal's row, and one for each request that was held back
pub finish_put : (e : InEvent) (run : Option ReqId) (out mid new : List RowKind) (t m : Tables) (reqs : List ReqId) → EachGoes e [] new → ArePlain run (now_of e new) → HasEnded e out mid t m → EndsEach e mid new reqs → HasPut e out new
finish_put e run out mid new t m reqs goes plain ended each =
    put_then e run out mid new goes plain
    (turn_put e out mid (record { more = kind ∷ []; is = ended.out; each = one_row }))
    (turn_put e mid new (record { more = each.more; is = each.out; each = each_ends e each.more (ap (λ (l : List ReqId). length l) each.ends ∙ sym each.long) }))
  where
    kind : RowKind
    kind = rows.Applied ended.req (changes.Traverse (record { 0 = aim_of (now_of e out) }))

    one_row : (row : RowKind) → Has (kind ∷ []) row → IsOfTurn row
    one_row row (inl is) = subst IsOfTurn is tt
    one_row row (inr never) = absurd never

-- ---- whether it ended

pub has_ended : (e : InEvent) (old new : List RowKind) (t u : Tables) (b : Bool) → b ≡ true → MayHaveEnded e old new t u b → HasEnded e old new t u
has_ended e old new t u true is ended = ended
has_ended e old new t u false is ended = absurd cc

pub has_rested : (e : InEvent) (old new : List RowKind) (t u : Tables) (b : Bool) → b ≡ false → MayHaveEnded e old new t u b → HasRested old new t u
has_rested e old new t u false is rested = rested
has_rested e old new t u true is rested = absurd cc

module _ (p : InPass) (out : List RowKind) (t : Tables) (queue : Queue) (blame : List (StateId × ReqId)) (cause : Why) (at : HasSettled p out t queue blame cause) (new : List RowKind) (u : Tables) (rested : HasRested out new t u) where
  -- nothing was done, and no turn is due
  pub still_due : is_some t.running ≡ true → false ≡ is_through (now_of p.event out) t.running → IsNoneDue (now_of p.event new) u.running queue.waiting
  still_due runs through =
      subst (λ (l : List RowKind). IsNoneDue (now_of p.event l) u.running queue.waiting) (sym rested.out)
      (subst (λ (x : Tables). IsNoneDue (now_of p.event out) x.running queue.waiting) (sym rested.tables) (by_run t.running runs through))
    where
      by_run : (o : Option ReqId) → is_some o ≡ true → false ≡ is_through (now_of p.event out) o → IsNoneDue (now_of p.event out) o queue.waiting
      by_run None never through_ = absurd cc
      by_run (Some req) runs_ through_ = sym through_
