-- The navigable that is reloaded, or given a load's new document, as a tab is brought to rest doesn't stand then. As a load is applied it is in need, so not all stand; a pass lets nobody stand who didn't; and a turn is had only where all stand.
use Rattle.seen_facts.proofs.Coord.Unread.{next}
use Rattle.seen_facts.specs.Hang.Members.{Has}
use Rattle.log_model.specs.After.{after, ended, is_load_request}
use Rattle.log_model.specs.AfterRequests.{entries_taken, on_request, request_begun}
use Rattle.log_model.specs.Causes.{nav_of_change}
use Rattle.log_model.specs.Equal.{holds}
use Rattle.log_model.specs.History.{History}
use Rattle.log_model.specs.LoadsEndInTime.{is_begun_load}
use Rattle.log_model.specs.Places.{aim_of, all_stand, all_stand_in, is_load, is_standing, stands}
use Rattle.log_model.specs.Seen.{Asked, Seen, place_in, place_of, request_in, request_of}
use Rattle.log_model.specs.declared.change.Change.{Change}
use Rattle.log_model.specs.declared.row.Row.{Row}
use Rattle.log_model.specs.declared.row_kind.Actor.{Actor}
use Rattle.log_model.specs.declared.row_kind.RowKind.{RowKind}
use Rattle.row_facts.proofs.Owed.Requests.{found_read}
use Rattle.row_facts.proofs.Owed.Standing.{sent_eased}
use Rattle.seen_facts.proofs.Request.Readers.{IsBlind, SameReads, on_read, reads_then, sent_reads}
use Rattle.seen_laws.specs.InEvent.{InEvent, now_of, row_of, EachGoes}
use Rattle.std.proofs.Common.{Bool, List, None, Option, Some, [], ap, append-nil, append_assoc, false, inl, inr, not, refl, subst, sym, true, ℕ, ◌&&◌, ◌++◌, ◌∙◌, ◌≡◌, ◌⊎◌}
use Rattle.std.proofs.lemmas.Bool.{not-true}
use Rattle.std.specs.Prelude.{option_map, if◌then◌else◌}
use Rattle.tab_ids.specs.declared.NavId.{NavId}
use Rattle.tab_ids.specs.declared.ReqId.{ReqId}
use Rattle.tab_releases.proofs.PassedOn.{over_each, over_with}
use Rattle.tab_releases.specs.PassedOn.{HasOnly, IsLoadApplied, IsOfTurn, LeavesInNeed}
use Rattle.tab_settles.proofs.PutOuts.{only_off, order_or_drop_goes}
use Rattle.tab_settles.proofs.Puts.{among}
use Rattle.tab_settles.specs.Settling.{HasTurned, IsAway, IsOrderOrDrop, LeavesOff, moved_by}
use Rattle.row_facts.proofs.WalkRows.Needs.{need_not_all_stand, need_stands_not}
use Rattle.log_model.specs.declared.change.Change.TheVariants as changes
use Rattle.log_model.specs.declared.outcome.Ending.TheVariants as endings
use Rattle.log_model.specs.declared.row_kind.RowKind.TheVariants as rows

-- ---- which requests are loads that have begun

-- the same requests are loads, and loads that have begun
pub record KeepsBegun (s n : Seen) : Type 0 where
  pub begun : (req : ReqId) → is_begun_load n req ≡ is_begun_load s req
  pub loads : (req : ReqId) → is_load_request n req ≡ is_load_request s req

begun_none : (s : Seen) → KeepsBegun s s
begun_none s = record { begun = λ req. refl; loads = λ req. refl }

pub begun_then : (s t u : Seen) → KeepsBegun s t → KeepsBegun t u → KeepsBegun s u
begun_then s t u one two =
    record { begun = λ req. two.begun req ∙ one.begun req; loads = λ req. two.loads req ∙ one.loads req }

-- the row begins no load
abbrev pub BeginsNoLoad : Seen → RowKind → Type 0
BeginsNoLoad s (rows.Started req goal) = is_load_request s req ≡ false
BeginsNoLoad s (rows.Sent job) = Unit {0}
BeginsNoLoad s (rows.Applied req change) = Unit {0}
BeginsNoLoad s (rows.Refused req reason) = Unit {0}
BeginsNoLoad s (rows.Dropped req cause) = Unit {0}
BeginsNoLoad s _ = ⊥

abbrev loads_it : Asked → Bool
loads_it q = is_load q.what

abbrev has_begun : Asked → Bool
has_begun q = is_load q.what && q.is_started

loads_blind : IsBlind loads_it
loads_blind = record { moves = λ q a m. refl; asks = λ q a. refl; fragments = λ q d. refl; misses = λ q is. refl }

begun_blind : IsBlind has_begun
begun_blind = record { moves = λ q a m. refl; asks = λ q a. refl; fragments = λ q d. refl; misses = λ q is. refl }

holds_read : (test : Asked → Bool) (o : Option Asked) → holds test o ≡ holds (λ (b : Bool). b) (option_map test o)
holds_read test None = refl
holds_read test (Some q) = refl

by_reads : (s n : Seen) → SameReads has_begun s.requests n.requests → SameReads loads_it s.requests n.requests → KeepsBegun s n
by_reads s n begun loads =
    record {
      begun = λ req. tested has_begun begun req;
      loads = λ req. tested loads_it loads req;
    }
  where
    tested : (test : Asked → Bool) → SameReads test s.requests n.requests → (req : ReqId) → holds test (request_of n req) ≡ holds test (request_of s req)
    tested test same req =
        holds_read test (request_of n req) ∙ ap (λ (o : Option Bool). holds (λ (b : Bool). b) o) (same req) ∙ sym (holds_read test (request_of s req))

applied_reads : (read : Asked → Bool) (s : Seen) (event : ℕ) (actor : Actor) (req : ReqId) (change : Change) → ((q : Asked) → read (record q { ending = Some endings.Applied }) ≡ read q) → ((q : Asked) → read (record q { change = Some change }) ≡ read q) → ((q : Asked) → read (record q { took = entries_taken s.history change }) ≡ read q) → SameReads read s.requests (next s event actor (rows.Applied req change)).requests
applied_reads read s event actor req change one two three =
    reads_then read s.requests over_ _ (on_read read s.requests req (λ q. record q { ending = Some endings.Applied }) one)
    (reads_then read over_ changed_ _ (on_read read over_ req (λ q. record q { change = Some change }) two)
    (on_read read changed_ req (λ q. record q { took = entries_taken s.history change }) three))
  where
    over_ : List Asked
    over_ = ended s.requests req endings.Applied

    changed_ : List Asked
    changed_ = on_request req (λ (q : Asked). record q { change = Some change }) over_

row_begun : (s : Seen) (event : ℕ) (actor : Actor) (kind : RowKind) → BeginsNoLoad s kind → KeepsBegun s (next s event actor kind)
row_begun s event actor (rows.Sent job) its =
    by_reads s (next s event actor (rows.Sent job)) (sent_reads has_begun begun_blind s job job.task s.requests) (sent_reads loads_it loads_blind s job job.task s.requests)
row_begun s event actor (rows.Applied req change) its =
    by_reads s (next s event actor (rows.Applied req change)) (applied_reads has_begun s event actor req change (λ q. refl) (λ q. refl) (λ q. refl)) (applied_reads loads_it s event actor req change (λ q. refl) (λ q. refl) (λ q. refl))
row_begun s event actor (rows.Refused req reason) its =
    by_reads s (next s event actor (rows.Refused req reason)) (on_read has_begun s.requests req (λ (q : Asked). record q { ending = Some (endings.Refused reason) }) (λ q. refl)) (on_read loads_it s.requests req (λ (q : Asked). record q { ending = Some (endings.Refused reason) }) (λ q. refl))
row_begun s event actor (rows.Dropped req cause) its =
    by_reads s (next s event actor (rows.Dropped req cause)) (on_read has_begun s.requests req (λ (q : Asked). record q { ending = Some (endings.Dropped cause) }) (λ q. refl)) (on_read loads_it s.requests req (λ (q : Asked). record q { ending = Some (endings.Dropped cause) }) (λ q. refl))
row_begun s event actor (rows.Started req goal) its =
    by_reads s (next s event actor (rows.Started req goal)) (reads_then has_begun s.requests begun _ (found_read has_begun s.requests req begin no_load) (on_read has_begun begun req (request_begun s) (λ q. refl)))
    (reads_then loads_it s.requests begun _ (on_read loads_it s.requests req begin (λ q. refl)) (on_read loads_it begun req (request_begun s) (λ q. refl)))
  where
    begin : Asked → Asked
    begin q = record q { is_started = true; goal = goal }

    begun : List Asked
    begun = on_request req begin s.requests

    no_load : (q : Asked) → request_in s.requests req ≡ Some q → has_begun (begin q) ≡ has_begun q
    no_load q at =
        let none : is_load q.what ≡ false = sym (ap (λ (o : Option Asked). holds loads_it o) at) ∙ its in rw none refl
row_begun s event actor _ never = absurd never

-- one more of them
begun_one : (e : InEvent) (s x : Seen) (kind : RowKind) → BeginsNoLoad s kind → KeepsBegun s x → KeepsBegun s (after x (row_of e kind))
begun_one e s x kind its so =
    begun_then s x (after x (row_of e kind)) so (row_begun x e.event e.actor kind (by_then kind its))
  where
    by_then : (k : RowKind) → BeginsNoLoad s k → BeginsNoLoad x k
    by_then (rows.Started req goal) its = so.loads req ∙ its
    by_then (rows.Sent job) its = tt
    by_then (rows.Applied req change) its = tt
    by_then (rows.Refused req reason) its = tt
    by_then (rows.Dropped req cause) its = tt
    by_then _ never = absurd never

-- over rows that begin no load
pub rows_begun : (e : InEvent) (was out : List RowKind) → EachGoes e [] out → HasOnly (BeginsNoLoad (now_of e was)) was out → KeepsBegun (now_of e was) (now_of e out)
rows_begun e was out goes only =
    over_with (BeginsNoLoad (now_of e was)) (λ (x : Seen). KeepsBegun (now_of e was) x) e (begun_one e (now_of e was)) was out goes only (begun_none (now_of e was))

-- ---- who doesn't stand

-- who didn't stand doesn't
abbrev StaysOff : Seen → Seen → Type 0
StaysOff s n =
    (table : List Row) (step : ℕ) (nav : NavId) → holds (is_standing table step) (place_in s.places nav) ≡ false → holds (is_standing table step) (place_in n.places nav) ≡ false

order_off : (s : Seen) (event : ℕ) (actor : Actor) (kind : RowKind) → IsOrderOrDrop kind → StaysOff s (next s event actor kind)
order_off s event actor (rows.Sent job) its table step nav off = (sent_eased s job job.task).off table step nav off
order_off s event actor (rows.Dropped req cause) its table step nav off = off
order_off s event actor _ never table step nav off = absurd never

orders_off : (e : InEvent) (was out : List RowKind) → HasOnly IsOrderOrDrop was out → StaysOff (now_of e was) (now_of e out)
orders_off e was out only =
    over_each IsOrderOrDrop (λ (x : Seen). StaysOff (now_of e was) x) e (order_or_drop_goes e) (λ x kind its so table step nav off. order_off x e.event e.actor kind its table step nav (so table step nav off)) was out only
    (λ table step nav off. off)

-- ---- who is moved

pub moved_same : (s n : Seen) (req : ReqId) (change : Change) → is_begun_load n req ≡ is_begun_load s req → moved_by n req change ≡ moved_by s req change
moved_same s n req (changes.Push nav entry state address memo) same =
    ap (λ (b : Bool). let o : Option NavId = if b then Some nav else None in o) same
moved_same s n req (changes.Replace nav over entry state address memo) same =
    ap (λ (b : Bool). let o : Option NavId = if b then Some nav else None in o) same
moved_same s n req (changes.Reload nav) same = refl
moved_same s n req (changes.AddFrame owner nav entry state) same = refl
moved_same s n req (changes.RemoveFrame nav) same = refl
moved_same s n req (changes.Traverse goal) same = refl
moved_same s n req changes.Edit same = refl

-- a change moves its own navigable
moved_nav : (s : Seen) (req : ReqId) (change : Change) (nav : NavId) → moved_by s req change ≡ Some nav → nav_of_change change ≡ Some nav
moved_nav s req change nav = by_change change
  where
    if_begun : (b : Bool) (at : NavId) → (let o : Option NavId = if b then Some at else None in o) ≡ Some nav → (let o : Option NavId = Some at in o) ≡ Some nav
    if_begun true at is = is
    if_begun false at never = absurd cc

    by_change : (c : Change) → moved_by s req c ≡ Some nav → nav_of_change c ≡ Some nav
    by_change (changes.Push at entry state address memo) is = if_begun (is_begun_load s req) at is
    by_change (changes.Replace at over entry state address memo) is = if_begun (is_begun_load s req) at is
    by_change (changes.Reload at) is = is
    by_change (changes.AddFrame owner at entry state) never = absurd cc
    by_change (changes.RemoveFrame at) never = absurd cc
    by_change (changes.Traverse goal) never = absurd cc
    by_change changes.Edit never = absurd cc

-- ---- nothing was put out

pub off_none : (e : InEvent) (out : List RowKind) → LeavesOff e out out
off_none e out =
    record { more = []; is = sym (append-nil out); begins = λ req. refl; off = λ req change nav never is. absurd never }

-- ---- over a pass

order_begins : (s : Seen) (kind : RowKind) → IsOrderOrDrop kind → BeginsNoLoad s kind
order_begins s (rows.Sent job) its = tt
order_begins s (rows.Dropped req cause) its = tt
order_begins s _ never = absurd never

module _ (e : InEvent) (was out new : List RowKind) (left : LeavesOff e was out) (only : HasOnly IsOrderOrDrop out new) (history : (now_of e new).history ≡ (now_of e out).history) (aim : aim_of (now_of e new) ≡ aim_of (now_of e out)) where
  abbrev s : Seen
  s = now_of e out

  abbrev n : Seen
  n = now_of e new

  begun : KeepsBegun s n
  begun =
      over_each IsOrderOrDrop (λ (x : Seen). KeepsBegun s x) e (order_or_drop_goes e) (λ x row its so. begun_one e s x row (order_begins s row its) so) out new only (begun_none s)

  still_away : (nav : NavId) → IsAway s nav → IsAway n nav
  still_away nav it =
      record {
        off = ap (λ (b : Bool). not b) fallen;
        unsettled = ap (λ (k : ℕ). all_stand n k) aim
            ∙ ap (λ (h : History). all_stand_in h.rows n.places (aim_of s)) history
            ∙ (only_off e out new only).unsettled s.history.rows (aim_of s) it.unsettled;
      }
    where
      fallen : stands n (aim_of n) nav ≡ false
      fallen =
          ap (λ (k : ℕ). stands n k nav) aim
          ∙ ap (λ (h : History). holds (is_standing h.rows (aim_of s)) (place_of n nav)) history
          ∙ orders_off e out new only s.history.rows (aim_of s) nav (not-true (stands s (aim_of s) nav) it.off)

  pub off_passed : LeavesOff e was new
  off_passed =
      record {
        more = left.more ++ only.more;
        is = only.is ∙ ap (λ (l : List RowKind). l ++ only.more) left.is ∙ append_assoc was left.more only.more;
        begins = λ req. begun.begun req ∙ left.begins req;
        off = λ req change nav has is. by_part req change nav is (among left.more only.more (rows.Applied req change) has);
      }
    where
      by_part : (req : ReqId) (change : Change) (nav : NavId) → moved_by n req change ≡ Some nav → Has left.more (rows.Applied req change) ⊎ Has only.more (rows.Applied req change) → IsAway n nav
      by_part req change nav is (inl has) =
          still_away nav (left.off req change nav has (sym (moved_same s n req change (begun.begun req)) ∙ is))
      by_part req change nav is (inr has) = absurd (only.each (rows.Applied req change) has)

-- ---- over a turn: all stood before, so none was applied yet

pub off_turned : (e : InEvent) (was out new : List RowKind) → LeavesOff e was out → HasTurned e out new → LeavesOff e was new
off_turned e was out new left turned =
    record {
      more = left.more ++ turned.moved.more;
      is = turned.moved.is ∙ ap (λ (l : List RowKind). l ++ turned.moved.more) left.is ∙ append_assoc was left.more turned.moved.more;
      begins = λ req. turned.moved.begins req ∙ left.begins req;
      off = λ req change nav has is. by_part req change nav is (among left.more turned.moved.more (rows.Applied req change) has);
    }
  where
    by_part : (req : ReqId) (change : Change) (nav : NavId) → moved_by (now_of e new) req change ≡ Some nav → Has left.more (rows.Applied req change) ⊎ Has turned.moved.more (rows.Applied req change) → IsAway (now_of e new) nav
    by_part req change nav is (inl has) =
        let before : IsAway (now_of e out) nav = left.off req change nav has (sym (moved_same (now_of e out) (now_of e new) req change (turned.moved.begins req)) ∙ is) in
        let never : true ≡ false = sym turned.stood ∙ before.unsettled in absurd cc
    by_part req change nav is (inr has) = turned.moved.off req change nav has is

-- ---- the turn of a load, or of a traversal that begins

in_need : (s : Seen) (nav : NavId) (req : ReqId) → IsLoadApplied s nav req → IsAway s nav
in_need s nav req last =
    record {
      off = ap (λ (b : Bool). not b) (need_stands_not s nav last.place last.placed last.need);
      unsettled = need_not_all_stand s nav last.place last.placed last.need;
    }

pub need_off : (e : InEvent) (out new : List RowKind) → EachGoes e [] new → LeavesInNeed e out new → LeavesOff e out new
need_off e out new goes need =
    record { more = need.grown.more; is = need.grown.is; begins = (rows_begun e out new goes only).begun; off = off }
  where
    by_row : (row : RowKind) → Has need.grown.more row → IsOfTurn row → BeginsNoLoad (now_of e out) row
    by_row (rows.Started req goal) has its = need.begins req goal has
    by_row (rows.Applied req change) has its = tt
    by_row (rows.Refused req reason) has its = tt
    by_row (rows.Dropped req cause) has its = tt
    by_row _ has never = absurd never

    only : HasOnly (BeginsNoLoad (now_of e out)) out new
    only = record { more = need.grown.more; is = need.grown.is; each = λ row has. by_row row has (need.grown.each row has) }

    off : (req : ReqId) (change : Change) (nav : NavId) → Has need.grown.more (rows.Applied req change) → moved_by (now_of e new) req change ≡ Some nav → IsAway (now_of e new) nav
    off req change nav has is =
        let it = need.needs req change has in
        let both : Some it.0 ≡ Some nav = sym it.1.0 ∙ moved_nav (now_of e new) req change nav is in
        let one : it.0 ≡ nav = cc in
        subst (λ (x : NavId). IsAway (now_of e new) x) one (in_need (now_of e new) it.0 req it.1.1)
