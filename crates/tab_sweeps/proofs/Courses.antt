-- One stray document after the other is discarded, until none is left.
use Rattle.seen_facts.specs.Hang.Members.{Has}
use Rattle.log_model.specs.History.{has_nav}
use Rattle.log_model.specs.Places.{is_below}
use Rattle.log_model.specs.Seen.{Place, Seen, place_of}
use Rattle.log_model.specs.declared.row_kind.RowKind.{RowKind}
use Rattle.seen_facts.proofs.Mover.Places.{same_ways, ways_both}
use Rattle.nav_tree.proofs.Lists.{drop-slice_get, take-slice_get}
use Rattle.row_facts.proofs.RestRows.Again.{rest_more}
use Rattle.seen_laws.specs.InEvent.{now_of}
use Rattle.std.proofs.Common.{List, None, Option, Some, [], ap, append-nil, append_assoc, arith, drop, drop_of_length-le, false, filter_map, inl, inr, length, refl, subst, suc, sym, take, take_all, true, zero, ℕ, ◌++◌, ◌+◌, ◌<◌, ◌==◌, ◌∙◌, ◌∷◌, ◌≡◌, ◌≤◌, ◌⊎◌}
use Rattle.std.proofs.lemmas.List.{map-append}
use Rattle.std.proofs.lemmas.List.Elements.{filter_map-append}
use Rattle.std.specs.Prelude.{option_map, slice_get}
use Rattle.tab_doors.specs.declared.tables.Tables.{Tables}
use Rattle.tab_ids.specs.declared.DocId.{DocId}
use Rattle.tab_ids.specs.declared.NavId.{NavId}
use Rattle.tab_ids.specs.declared.ReqId.{ReqId}
use Rattle.tab_ids.specs.declared.StateId.{StateId}
use Rattle.tab_passes.proofs.Leavings.{leaving_none, passing_again}
use Rattle.tab_passes.specs.Leaving.{IsLeavingIn}
use Rattle.tab_passes.specs.Passing.{InPass, IsPassingIn}
use Rattle.tab_sweeps.specs.Sweeping.{AreAscending, AreBlamed, HasOnlySwept, IsOnStray, IsSweepOf, IsSweptTurn, NoneStray, StraysAreLeft, but_status, ordered_number}
use Rattle.tab_sweeps.specs.Turns.{AreStrays, HasSweptEach, HasSweptFirst, HasSweptNext, IsSweeping, IsSweepingAt, numbers_of}
use Rattle.row_facts.proofs.WalkRows.Sinces.{since_itself}
use Rattle.row_facts.specs.WalkRows.Since.{WasAwake}

-- ---- what is left

pub turn_none : (s : Seen) → IsSweptTurn s s
turn_none s =
    record {
      history = refl;
      aim = refl;
      looks = λ req. refl;
      parked = refl;
      causes = λ why may. may;
      moved = λ why nav by. by;
      awake_ = since_itself s;
      ways = same_ways s.places;
      places = λ nav. refl;
      states = λ doc. refl;
      ready = λ doc. refl;
      stays = λ nav none. refl;
      others = λ doc none. refl;
      kept = λ doc none. refl;
      fewer = λ doc state stray. stray;
    }

-- what is read of a place but whether its navigable is awake, and why not, is as it was
pub read_same : {B : Type 0} (read : Place → B) → ((place : Place) → read (but_status place) ≡ read place) → (s t : Seen) → IsSweptTurn s t → (nav : NavId) → option_map read (place_of t nav) ≡ option_map read (place_of s nav)
read_same {B} read blind s t turn nav =
    sym (through (place_of t nav)) ∙ ap (option_map read) (turn.places nav) ∙ through (place_of s nav)
  where
    through : (o : Option Place) → option_map read (option_map but_status o) ≡ option_map read o
    through None = refl
    through (Some place) = ap (λ (b : B). Some b) (blind place)

-- who is on a stray document, or below one, was so
pub on_was : (s t : Seen) → IsSweptTurn s t → (nav : NavId) → IsOnStray t nav → IsOnStray s nav
on_was s t turn nav on = by_place (place_of s nav) refl
  where
    was : WasAwake s on.over on.doc
    was = turn.awake_ on.over on.own on.doc refl on.there on.wakes

    above : Some on.place.above ≡ option_map (λ (place : Place). place.above) (place_of s nav)
    above = sym (ap (option_map (λ (place : Place). place.above)) on.placed) ∙ read_same (λ (place : Place). place.above) (λ place. refl) s t turn nav

    by_under : (old : Place) → on.place.above ≡ old.above → ((nav.0 == on.over.0) ≡ true) ⊎ (is_below on.over on.place ≡ true) → ((nav.0 == on.over.0) ≡ true) ⊎ (is_below on.over old ≡ true)
    by_under old same (inl e) = inl e
    by_under old same (inr e) = inr (ap (λ (l : List NavId). has_nav l on.over) (sym same) ∙ e)

    by_place : (o : Option Place) → place_of s nav ≡ o → IsOnStray s nav
    by_place None none =
        let never : Some on.place.above ≡ None = above ∙ ap (option_map (λ (place : Place). place.above)) none in absurd cc
    by_place (Some old) there =
        let both : Some on.place.above ≡ Some old.above = above ∙ ap (option_map (λ (place : Place). place.above)) there in
        record {
          over = on.over;
          own = was.place;
          there = was.placed;
          doc = on.doc;
          wakes = was.wakes;
          state = on.state;
          stray = turn.fewer on.doc on.state on.stray;
          place = old;
          placed = there;
          under = by_under old (let same : on.place.above ≡ old.above = cc in same) on.under;
        }

pub turn_then : (s t u : Seen) → IsSweptTurn s t → IsSweptTurn t u → IsSweptTurn s u
turn_then s t u one two =
    record {
      history = two.history ∙ one.history;
      aim = two.aim ∙ one.aim;
      looks = λ req. two.looks req ∙ one.looks req;
      parked = two.parked ∙ one.parked;
      causes = λ why may. two.causes why (one.causes why may);
      moved = λ why nav by. two.moved why nav (one.moved why nav by);
      awake_ = λ nav place doc none placed wakes. (let w = two.awake_ nav place doc none placed wakes in one.awake_ nav w.place doc none w.placed w.wakes);
      ways = ways_both s.places t.places u.places one.ways two.ways;
      places = λ nav. two.places nav ∙ one.places nav;
      states = λ doc. two.states doc ∙ one.states doc;
      ready = λ doc. two.ready doc ∙ one.ready doc;
      stays = λ nav none. two.stays nav (λ on. none (on_was s t one nav on)) ∙ one.stays nav none;
      others = λ doc none. two.others doc (λ state stray. none state (one.fewer doc state stray)) ∙ one.others doc none;
      kept = λ doc none. two.kept doc (λ state stray. none state (one.fewer doc state stray)) ∙ one.kept doc none;
      fewer = λ doc state stray. one.fewer doc state (two.fewer doc state stray);
    }

-- ---- what was put out

-- a list has one at each place
pub at_low : (docs : List DocId) (i : ℕ) → i < length docs → (doc : DocId) × (slice_get docs i ≡ Some doc)
at_low [] i low = absurd (omega (arith, low))
at_low (doc ∷ docs) zero low = (doc, refl)
at_low (doc ∷ docs) (suc i) low = at_low docs i (omega (arith, low))

in_either : {A : Type 0} (xs ys : List A) (x : A) → Has (xs ++ ys) x → Has xs x ⊎ Has ys x
in_either [] ys x there = inr there
in_either (first ∷ xs) ys x (inl same) = inl (inl same)
in_either {A} (first ∷ xs) ys x (inr there) = over (in_either xs ys x there)
  where
    over : Has xs x ⊎ Has ys x → ((first ≡ x) ⊎ Has xs x) ⊎ Has ys x
    over (inl early) = inl (inr early)
    over (inr late) = inr late

-- the first ones, and then the next one
module _ (blame : List (StateId × ReqId)) (docs : List DocId) where
  pub swept_first : (s : Seen) (out : List RowKind) → HasSweptFirst s blame docs 0 out out
  swept_first s out = record { more = []; is = sym (append-nil out); each = λ row there. absurd there; numbers = refl }

  pub swept_more : (s t : Seen) (i : ℕ) (doc : DocId) (was out new : List RowKind) → slice_get docs i ≡ Some doc → IsSweptTurn s t → HasSweptFirst s blame docs i was out → HasSweptNext t blame docs i out new → HasSweptFirst s blame docs (i + 1) was new
  swept_more s t i doc was out new at turn one two =
      let last : HasSweptEach t blame (doc ∷ []) out new = two doc at in
      record {
        more = one.more ++ last.more;
        is = last.is ∙ ap (λ (l : List RowKind). l ++ last.more) one.is ∙ append_assoc was one.more last.more;
        each = λ row there. by_part last row (in_either one.more last.more row there);
        numbers = filter_map-append ordered_number one.more last.more
            ∙ ap (λ (l : List ℕ). l ++ filter_map ordered_number last.more) one.numbers
            ∙ ap (λ (l : List ℕ). numbers_of (take i docs) ++ l) last.numbers
            ∙ sym (map-append (λ (d : DocId). d.0) (take i docs) (doc ∷ []))
            ∙ sym (ap numbers_of (take-slice_get docs i doc at));
      }
    where
      by_part : (last : HasSweptEach t blame (doc ∷ []) out new) (row : RowKind) → Has one.more row ⊎ Has last.more row → IsSweepOf s blame row
      by_part last row (inl early) = one.each row early
      by_part last row (inr late) =
          let its : IsSweepOf t blame row = last.each row late in
          record { job = its.job; is = its.is; discards = its.discards; state = its.state; stray = turn.fewer its.job.doc its.state its.stray; req = its.req; noted = its.noted; why_is = its.why_is }

  pub swept_only : (s : Seen) (i : ℕ) (was out : List RowKind) → length docs ≤ i → AreAscending (numbers_of docs) → HasSweptFirst s blame docs i was out → HasOnlySwept s blame was out
  swept_only s i was out past up first =
      record {
        more = first.more;
        is = first.is;
        each = first.each;
        ascending = subst (λ (l : List ℕ). AreAscending l) (sym (first.numbers ∙ ap numbers_of (take_all i docs past))) up;
      }

  -- ---- as it begins, and as it ends

  pub sweep_begins : (p : InPass) (out : List RowKind) (t : Tables) → IsPassingIn true p out t → AreBlamed (now_of p.event out) blame → StraysAreLeft p.event out blame → AreStrays (now_of p.event out) docs → IsSweepingAt p blame docs 0 out t
  sweep_begins p out t pass blamed lefts strays =
      let leaving : IsLeavingIn true p None [] out t = leaving_none p out t pass in
      record {
        leaving = record {
          work = leaving.work;
          going = leaving.going;
          owed = leaving.owed;
          rests = rest_more (now_of p.event out) [] docs (λ doc has. absurd cc) leaving.rests;
          duly = leaving.duly;
        };
        loose = pass.loose;
        few = pass.few;
        blamed = blamed;
        lefts = lefts;
        strays = strays;
      }

  module _ (p : InPass) (i : ℕ) (out : List RowKind) (t : Tables) (past : length docs ≤ i) (so : IsSweepingAt p blame docs i out t) where
    ended : IsSweeping p blame [] out t
    ended = subst (λ (l : List DocId). IsSweeping p blame l out t) (drop_of_length-le docs past) so

    pub sweep_passing : IsPassingIn true p out t
    sweep_passing = passing_again p out t ended.leaving ended.loose ended.few

    pub sweep_swept : NoneStray (now_of p.event out)
    sweep_swept doc state stray = let never : false ≡ true = ended.strays.all doc state stray in cc

  -- the next one
  pub sweep_next : (p : InPass) (i : ℕ) (doc : DocId) (out : List RowKind) (t : Tables) → slice_get docs i ≡ Some doc → IsSweepingAt p blame docs i out t → IsSweeping p blame (doc ∷ drop (i + 1) docs) out t
  sweep_next p i doc out t at so = subst (λ (l : List DocId). IsSweeping p blame l out t) (drop-slice_get docs i doc at) so
