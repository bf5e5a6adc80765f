-- Loads that give way, one navigable after the other: what was put out, in which order, and what is left in the end.
use Rattle.seen_facts.specs.Hang.Members.{Has}
use Rattle.load_table.specs.Loads.{ongoing_load}
use Rattle.load_table.specs.declared.load.Load.{Load}
use Rattle.log_model.specs.Seen.{Place, Seen, place_of, request_of}
use Rattle.log_model.specs.declared.row_kind.RowKind.{RowKind}
use Rattle.seen_laws.specs.InEvent.{now_of}
use Rattle.std.proofs.Common.{Bool, List, Some, [], ap, append-nil, append_assoc, arith, false, inl, inr, length, map, refl, subst, sym, true, ℕ, ◌++◌, ◌+◌, ◌<◌, ◌==◌, ◌∙◌, ◌∷◌, ◌≡◌, ◌≤◌, ◌⊎◌}
use Rattle.std.proofs.lemmas.Bool.Decides.{nat_tests}
use Rattle.std.proofs.lemmas.List.{map-append}
use Rattle.std.proofs.lemmas.Option.{slice_get_within}
use Rattle.std.specs.Prelude.{slice_get}
use Rattle.tab_doors.proofs.Holding.{its_node}
use Rattle.tab_doors.specs.Look.{look_of}
use Rattle.tab_doors.specs.Working.{KeepsStore}
use Rattle.tab_doors.specs.declared.tables.Tables.{Tables}
use Rattle.tab_drops.proofs.Drops.{leaves_none, leaves_then}
use Rattle.tab_drops.proofs.Loads.{load_back, load_held, load_on}
use Rattle.tab_drops.specs.Dropping.{AreRising, AreUnheld, Drop, EndsLoads, HasOnlyDropped, IsLoadOf, LeavesAll, row_of_drop}
use Rattle.tab_drops.specs.Listing.{AreListed}
use Rattle.tab_drops.specs.Turns.{IsAmong, IsDroppingIn, IsOfFirst, IsTurnAt}
use Rattle.tab_ids.specs.declared.NavId.{NavId}
use Rattle.tab_ids.specs.declared.ReqId.{ReqId}
use Rattle.tab_moves.proofs.PassedOn.{kept_none, kept_then}
use Rattle.tab_moves.specs.PassedOn.{IsPassingIn}
use Rattle.tab_moves.specs.Moving.{InPass}

-- ---- what was put out

in_either : {A : Type 0} (xs ys : List A) (x : A) → Has (xs ++ ys) x → Has xs x ⊎ Has ys x
in_either [] ys x there = inr there
in_either (first ∷ xs) ys x (inl same) = inl (inl same)
in_either {A} (first ∷ xs) ys x (inr there) = over (in_either xs ys x there)
  where
    over : Has xs x ⊎ Has ys x → ((first ≡ x) ⊎ Has xs x) ⊎ Has ys x
    over (inl early) = inl (inr early)
    over (inr late) = inr late

pub drops_none : (Is : Drop → Type 0) (out : List RowKind) → HasOnlyDropped Is out out
drops_none Is out =
    record { drops = []; is = sym (append-nil out); each = λ d there. absurd there; order = tt }

pub drops_one : (Is : Drop → Type 0) (out new : List RowKind) (d : Drop) → new ≡ out ++ row_of_drop d ∷ [] → Is d → HasOnlyDropped Is out new
drops_one Is out new d is it =
    record { drops = d ∷ []; is = is; each = λ x there. elim there as (λ h. Is x) [ inl same ↦ subst Is same it | inr never ↦ absurd never ]; order = tt }

-- said otherwise of each
pub drops_as : (Is As : Drop → Type 0) (was out : List RowKind) → ((d : Drop) → Is d → As d) → HasOnlyDropped Is was out → HasOnlyDropped As was out
drops_as Is As was out as_ only =
    record { drops = only.drops; is = only.is; each = λ d there. as_ d (only.each d there); order = only.order }

-- where each of the first has a lower number than each of the others
rising_then : (xs ys : List Drop) → AreRising xs → AreRising ys → ((a b : Drop) → Has xs a → Has ys b → a.req.0 < b.req.0) → AreRising (xs ++ ys)
rising_then [] ys one two less = two
rising_then (a ∷ []) [] one two less = tt
rising_then (a ∷ []) (b ∷ ys) one two less = (less a b (inl refl) (inl refl), two)
rising_then (a ∷ next ∷ xs) ys one two less = (one.0, rising_then (next ∷ xs) ys one.1 two (λ x y there other. less x y (inr there) other))

pub drops_then : (Is : Drop → Type 0) (was out new : List RowKind) (one : HasOnlyDropped Is was out) (two : HasOnlyDropped Is out new) → ((a b : Drop) → Is a → Is b → Has one.drops a → Has two.drops b → a.req.0 < b.req.0) → HasOnlyDropped Is was new
drops_then Is was out new one two less =
    record {
      drops = one.drops ++ two.drops;
      is = two.is ∙ ap (λ (l : List RowKind). l ++ map row_of_drop two.drops) one.is ∙ append_assoc was (map row_of_drop one.drops) (map row_of_drop two.drops) ∙ ap (λ (l : List RowKind). was ++ l) (sym (map-append row_of_drop one.drops two.drops));
      each = λ d there. by_part d (in_either one.drops two.drops d there);
      order = rising_then one.drops two.drops one.order two.order (λ a b there other. less a b (one.each a there) (two.each b other) there other);
    }
  where
    by_part : (d : Drop) → Has one.drops d ⊎ Has two.drops d → Is d
    by_part d (inl early) = one.each d early
    by_part d (inr late) = two.each d late

-- ---- the first of a list

among_more : (navs : List NavId) (n : ℕ) (nav : NavId) → IsAmong navs n nav → IsAmong navs (n + 1) nav
among_more navs n nav is = record { k = is.k; low = (let low = is.low in omega (arith, low)); at = is.at }

among_here : (navs : List NavId) (n : ℕ) (nav : NavId) → slice_get navs n ≡ Some nav → IsAmong navs (n + 1) nav
among_here navs n nav at = record { k = n; low = omega arith; at = at }

among_next : (navs : List NavId) (n : ℕ) (nav other : NavId) → slice_get navs n ≡ Some nav → IsAmong navs (n + 1) other → IsAmong navs n other ⊎ (other ≡ nav)
among_next navs n nav other at is = by_test (is.k == n) refl
  where
    by_test : (b : Bool) → (is.k == n) ≡ b → IsAmong navs n other ⊎ (other ≡ nav)
    by_test true e =
        let same : is.k ≡ n = grind (arith, nat_tests, e) in
        let both : Some other ≡ Some nav = sym is.at ∙ ap (λ (k : ℕ). slice_get navs k) same ∙ at in
        inr cc
    by_test false e =
        let low = is.low in
        inl (record { k = is.k; low = (let less : is.k < n = grind (arith, nat_tests, e, low) in less); at = is.at })

-- ---- the turns

module _ {sweeps : Bool} (p : InPass) (Is : Drop → Type 0) (Gone : NavId → Type 0) (t : Tables) (was : List RowKind) (navs : List NavId) (begins : IsPassingIn sweeps p was t) where
  abbrev s0 : Seen
  s0 = now_of p.event was

  pub drops_begin : IsDroppingIn sweeps p Is Gone t was navs 0 t was
  drops_begin =
      record {
        passing = begins;
        left = leaves_none s0;
        ended = λ req nav load among gone. (let low = among.low in absurd (omega (arith, low)));
        others = λ req nav load not_gone. refl;
        only = drops_none _ was;
        kept = kept_none t;
      }

  -- the table's load of the navigable, as it was at first
  record IsHeldAs (req : ReqId) (nav : NavId) : Type 0 where
    load : Load
    at : ongoing_load nav t.loads ≡ Some load
    req_is : load.req ≡ req

  held : (req : ReqId) (nav : NavId) → IsLoadOf s0 req nav → IsHeldAs req nav
  held req nav load = let it = load_held s0 t.loads req nav begins.work.loads load in record { load = it.load; at = it.at; req_is = it.req_is }

  module _ (listed : AreListed t.tree t.loads navs) (n : ℕ) (u : Tables) (out : List RowKind) (is : IsDroppingIn sweeps p Is Gone t was navs n u out) where
    abbrev s : Seen
    s = now_of p.event out

    -- what stands for the next turn: the words of it as of here
    pub drops_next : (nav : NavId) (IsHere : Drop → Type 0) (GoneHere : NavId → Type 0) (v : Tables) (new : List RowKind) → slice_get navs n ≡ Some nav → ((d : Drop) → IsHere d → Is d) → ((other : NavId) → Gone other → GoneHere other) → ((other : NavId) → GoneHere other → Gone other) → IsTurnAt IsHere GoneHere nav s (now_of p.event new) out new → IsPassingIn sweeps p new v → KeepsStore u v → IsDroppingIn sweeps p Is Gone t was navs (n + 1) v new
    unfolding drops_as
    drops_next nav IsHere GoneHere v new at as_ onto back turn passing keeps =
        record {
          passing = passing;
          left = leaves_then s0 s (now_of p.event new) is.left turn.left;
          ended = λ req other load among gone. ended_then req other load gone (among_next navs n nav other at among);
          others = λ req other load not_gone. others_then req other load not_gone;
          only = drops_then (λ d. Is d × IsOfFirst s0 navs (n + 1) d) was out new (drops_as _ _ was out (λ d both. (both.0, more d both.1)) is.only) (drops_as _ _ out new (λ d both. (as_ d both.0, here d both.1)) turn.only) less;
          kept = kept_then t u v is.kept keeps;
        }
      where
        -- a load that is ongoing then was so here
        was_here : (req : ReqId) (other : NavId) → IsLoadOf (now_of p.event new) req other → IsLoadOf s req other
        was_here req other load = load_back s (now_of p.event new) req other turn.left load

        ended_then : (req : ReqId) (other : NavId) → IsLoadOf (now_of p.event new) req other → Gone other → IsAmong navs n other ⊎ (other ≡ nav) → ⊥
        ended_then req other load gone (inl early) = is.ended req other (was_here req other load) early gone
        ended_then req other load gone (inr same) =
            turn.ended req (subst (λ (x : NavId). IsLoadOf (now_of p.event new) req x) same load) (onto nav (subst Gone same gone))

        others_then : (req : ReqId) (other : NavId) → IsLoadOf s0 req other → (Gone other → ⊥) → request_of (now_of p.event new) req ≡ request_of s0 req
        others_then req other load not_gone =
            let same : request_of s req ≡ request_of s0 req = is.others req other load not_gone in
            turn.others req other (load_on s0 s req other same load) (inr (λ gone. not_gone (back other gone))) ∙ same

        more : (d : Drop) → IsOfFirst s0 navs n d → IsOfFirst s0 navs (n + 1) d
        more d of_first = record { nav = of_first.nav; load = of_first.load; among = among_more navs n of_first.nav of_first.among }

        here : (d : Drop) → IsLoadOf s d.req nav → IsOfFirst s0 navs (n + 1) d
        here d load = record { nav = nav; load = load_back s0 s d.req nav is.left load; among = among_here navs n nav at }

        less : (a b : Drop) → (Is a × IsOfFirst s0 navs (n + 1) a) → (Is b × IsOfFirst s0 navs (n + 1) b) → Has is.only.drops a → Has turn.only.drops b → a.req.0 < b.req.0
        less a b both other there later =
            let early : IsOfFirst s0 navs n a = (is.only.each a there).1 in
            let load : IsLoadOf s0 b.req nav = load_back s0 s b.req nav is.left (turn.only.each b later).1 in
            let one = held a.req early.nav early.load in
            let two = held b.req nav load in
            let order : one.load.req.0 < two.load.req.0 = listed.order early.among.k n early.nav nav one.load two.load early.among.low early.among.at at one.at two.at in
            let left : one.load.req.0 ≡ a.req.0 = ap (λ (r : ReqId). r.0) one.req_is in
            let right : two.load.req.0 ≡ b.req.0 = ap (λ (r : ReqId). r.0) two.req_is in
            omega (arith, order, left, right)

    -- each that is gone is in the list, where it has a place
    pub drops_end : ((req : ReqId) (nav : NavId) → IsLoadOf s0 req nav → Gone nav → (place : Place) × (place_of s0 nav ≡ Some place)) → length navs ≤ n → EndsLoads Gone s0 s
    drops_end placed past =
        record { ended = λ req nav load gone. is.ended req nav load (among req nav (load_back s0 s req nav is.left load) gone) gone; others = is.others }
      where
        among : (req : ReqId) (nav : NavId) → IsLoadOf s0 req nav → Gone nav → IsAmong navs n nav
        among req nav load gone =
            let one = held req nav load in
            let place = placed req nav load gone in
            let node = its_node (look_of s0 t.running) t.tree nav place.0 begins.work.holds.navs place.1 in
            let got = listed.all nav node.node one.load node.there one.at in
            record { k = got.0; low = (let within : got.0 < length navs = slice_get_within navs got.0 nav got.1 in omega (arith, within, past)); at = got.1 }

    pub drops_only : HasOnlyDropped Is was out
    drops_only = drops_as _ Is was out (λ d both. both.0) is.only

-- no load that is ongoing then was held back as the event began
pub unheld_on : (p : InPass) (s t : Seen) → LeavesAll s t → AreUnheld p.event s → AreUnheld p.event t
unheld_on p s t left held req nav load = held req nav (load_back s t req nav left load)
