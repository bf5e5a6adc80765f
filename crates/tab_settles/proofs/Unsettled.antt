-- For callers: where the rows before moved nobody, each change of the event leaves its navigable unsettled, as loads that end in time ask.
use Rattle.seen_facts.specs.Hang.Members.{Has}
use Rattle.seen_facts.specs.LoadEnds.Standing.{is_change_unsettled, is_off}
use Rattle.log_model.specs.Equal.{holds, implies}
use Rattle.log_model.specs.LoadsEndInTime.{is_begun_load}
use Rattle.log_model.specs.Places.{is_load}
use Rattle.log_model.specs.Points.{ends_in}
use Rattle.log_model.specs.Seen.{Asked, Seen}
use Rattle.log_model.specs.declared.change.Change.{Change}
use Rattle.log_model.specs.declared.made.Made.{Made}
use Rattle.log_model.specs.declared.row_kind.RowKind.{RowKind}
use Rattle.seen_laws.specs.InEvent.{InEvent, now_of, row_of, EachGoes}
use Rattle.std.proofs.Common.{Bool, List, None, Option, Some, [], ap, false, inl, inr, refl, subst, sym, true, ◌&&◌, ◌∙◌, ◌∷◌, ◌≡◌, ◌⊎◌}
use Rattle.std.proofs.lemmas.Bool.{and_right}
use Rattle.std.specs.Prelude.{if◌then◌else◌}
use Rattle.tab_ids.specs.declared.NavId.{NavId}
use Rattle.tab_ids.specs.declared.ReqId.{ReqId}
use Rattle.tab_releases.specs.PassedOn.{EndsAlone, IsForTaking, is_reloading}
use Rattle.tab_settles.proofs.EndedOff.{ends_begin, moved_none}
use Rattle.tab_settles.proofs.LoadsOff.{BeginsNoLoad, KeepsBegun, moved_same, rows_begun}
use Rattle.tab_settles.proofs.Puts.{among}
use Rattle.tab_settles.specs.Settling.{LeavesOff, moved_by}
use Rattle.log_model.specs.declared.change.Change.TheVariants as changes
use Rattle.log_model.specs.declared.row_kind.RowKind.TheVariants as rows

-- where the navigable that a change moves doesn't stand
unsettled_by : (s : Seen) (req : ReqId) (change : Change) → ((nav : NavId) → moved_by s req change ≡ Some nav → is_off s nav ≡ true) → is_change_unsettled s req change ≡ true
unsettled_by s req change off = by_change change refl
  where
    if_begun : (nav : NavId) (b : Bool) → is_begun_load s req ≡ b → ((let o : Option NavId = if is_begun_load s req then Some nav else None in o) ≡ Some nav → is_off s nav ≡ true) → implies b (is_off s nav) ≡ true
    if_begun nav true begun so = so (ap (λ (x : Bool). let o : Option NavId = if x then Some nav else None in o) begun)
    if_begun nav false begun so = refl

    by_change : (c : Change) → change ≡ c → is_change_unsettled s req c ≡ true
    by_change (changes.Push nav entry state address memo) same =
        if_begun nav (is_begun_load s req) refl (λ is. off nav (ap (moved_by s req) same ∙ is))
    by_change (changes.Replace nav over entry state address memo) same =
        if_begun nav (is_begun_load s req) refl (λ is. off nav (ap (moved_by s req) same ∙ is))
    by_change (changes.Reload nav) same = off nav (ap (moved_by s req) same)
    by_change (changes.AddFrame owner nav entry state) same = refl
    by_change (changes.RemoveFrame nav) same = refl
    by_change (changes.Traverse goal) same = refl
    by_change changes.Edit same = refl

-- so it is of each change of the event, since the rows that are put out as the tab is brought to rest begin no load
pub leaves_unsettled : (e : InEvent) (was out : List RowKind) → LeavesOff e was out → ((req : ReqId) (change : Change) → Has was (rows.Applied req change) → moved_by (now_of e was) req change ≡ None) → (req : ReqId) (change : Change) → Has out (rows.Applied req change) → is_change_unsettled (now_of e out) req change ≡ true
leaves_unsettled e was out left none req change has = unsettled_by (now_of e out) req change off
  where
    off : (nav : NavId) → moved_by (now_of e out) req change ≡ Some nav → is_off (now_of e out) nav ≡ true
    off nav is =
        by_part (among was left.more (rows.Applied req change) (subst (λ (l : List RowKind). Has l (rows.Applied req change)) left.is has))
      where
        by_part : Has was (rows.Applied req change) ⊎ Has left.more (rows.Applied req change) → is_off (now_of e out) nav ≡ true
        by_part (inl before) =
            let nobody : moved_by (now_of e out) req change ≡ None = moved_same (now_of e was) (now_of e out) req change (left.begins req) ∙ none req change before in
            let never : None ≡ Some nav = sym nobody ∙ is in absurd cc
        by_part (inr behind) = (left.off req change nav behind is).off

-- ---- the rows before

-- the row that takes what a document made moves nobody: its request is a poke, or a load that never begins
pub taken_moves : (e : InEvent) (out : List RowKind) → EachGoes e [] out → (hand : List Made) (made : Made) → IsForTaking e [] hand made → EndsAlone e [] out made → (req : ReqId) (change : Change) → Has out (rows.Applied req change) → moved_by (now_of e out) req change ≡ None
taken_moves e out goes hand made taking ended req change has =
    moved_none (now_of e out) req change unbegun (subst (λ (k : RowKind). is_reloading k ≡ false) is ended.no_reload)
  where
    of_one : Has (ended.kind ∷ []) (rows.Applied req change) → ended.kind ≡ rows.Applied req change
    of_one (inl same) = same
    of_one (inr never) = absurd never

    is : ended.kind ≡ rows.Applied req change
    is = of_one (subst (λ (l : List RowKind). Has l (rows.Applied req change)) ended.out has)

    its : made.req ≡ req
    its =
        let both : Some made.req ≡ Some req = sym ended.ends ∙ ap (λ (k : RowKind). ends_in (row_of e k)) is in
        let one : made.req ≡ req = cc in
        one

    each_begins : (row : RowKind) → Has (ended.kind ∷ []) row → BeginsNoLoad (now_of e []) row
    each_begins row (inl same) = subst (λ (k : RowKind). BeginsNoLoad (now_of e []) k) same (ends_begin (now_of e []) e ended.kind made.req ended.ends)
    each_begins row (inr never) = absurd never

    begun : KeepsBegun (now_of e []) (now_of e out)
    begun = rows_begun e [] out goes (record { more = ended.kind ∷ []; is = ended.out; each = each_begins })

    unbegun_s : is_begun_load (now_of e []) made.req ≡ false
    unbegun_s =
        ap (λ (o : Option Asked). holds (λ (q : Asked). is_load q.what && q.is_started) o) taking.there ∙ and_right (is_load taking.q.what) taking.q.is_started taking.unstarted

    unbegun : is_begun_load (now_of e out) req ≡ false
    unbegun = subst (λ (r : ReqId). is_begun_load (now_of e out) r ≡ false) its (begun.begun made.req ∙ unbegun_s)
