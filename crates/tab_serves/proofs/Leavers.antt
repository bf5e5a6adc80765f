-- Who leaves what it shows for a reason, along a walk.
use Rattle.log_model.specs.History.{has_nav}
use Rattle.log_model.proofs.Refl.{nat_eq_refl}
use Rattle.log_model.specs.Places.{is_below, is_traversal, is_under_way, way_of, way_to}
use Rattle.log_model.specs.Seen.{Asked, Place, Seen, place_of, request_in, request_of}
use Rattle.log_model.specs.Soundness.{IsSound}
use Rattle.log_model.specs.declared.job.Why.TheVariants as whys
use Rattle.log_model.specs.declared.job.Why.{Why}
use Rattle.log_model.specs.declared.request.Mode.{Mode}
use Rattle.log_model.specs.declared.request.Request.TheVariants as requests
use Rattle.row_facts.proofs.WalkRows.Walks.{visited_still}
use Rattle.row_facts.specs.WalkRows.Later.{IsLater}
use Rattle.row_facts.specs.WalkRows.Since.{IsVisitedInNeed}
use Rattle.seen_facts.proofs.Hang.Forms.{nav_is}
use Rattle.seen_facts.proofs.Walk.Placed.{found_nav}
use Rattle.seen_facts.specs.Asked.Asking.{ArePlain, IsThere}
use Rattle.seen_facts.specs.Hang.Hanging.{Hangs}
use Rattle.seen_facts.specs.Load.Loading.{look}
use Rattle.seen_facts.specs.Walk.Walking.{IsApart, LeavesOthers}
use Rattle.std.proofs.Common.{Bool, List, None, Option, Some, [], ap, arith, false, inl, inr, map, refl, subst, sym, true, ℕ, ◌&&◌, ◌+◌, ◌-◌, ◌==◌, ◌∙◌, ◌∷◌, ◌≡◌, ◌≤◌}
use Rattle.std.proofs.lemmas.Option.{slice_get-map}
use Rattle.std.specs.Option.{option_map_or}
use Rattle.std.specs.Prelude.{if◌then◌else◌, is_none, option_map, slice_get}
use Rattle.tab_ids.specs.declared.NavId.{NavId}
use Rattle.tab_ids.specs.declared.ReqId.{ReqId}
use Rattle.tab_passes.proofs.PassedOn.{leaver_same}
use Rattle.tab_passes.specs.Leaving.{IsLeaver}
use Rattle.tab_facts.specs.Calm.Calm.{NeedIsNew}
use Rattle.tab_serves.specs.Serving.{LeavesVisited, show_why}

-- ---- over rows that leave how requests look, and the ways

-- the way to a navigable, by what is above it
way_form : (s : Seen) (nav : NavId) → way_to s nav ≡ option_map_or (λ (l : List NavId). nav ∷ l) (option_map (λ (p : Place). p.above) (place_of s nav)) (nav ∷ [])
way_form s nav = by_place (place_of s nav) refl
  where
    by_place : (o : Option Place) → place_of s nav ≡ o → option_map_or way_of o (nav ∷ []) ≡ option_map_or (λ (l : List NavId). nav ∷ l) (option_map (λ (p : Place). p.above) o) (nav ∷ [])
    by_place None is = refl
    by_place (Some p) is = ap (λ (n : NavId). let l : List NavId = n ∷ p.above in l) (found_nav s.places nav p is)

-- so it is the same where that is
pub ways_same : (s t : Seen) (nav : NavId) → option_map (λ (p : Place). p.above) (place_of t nav) ≡ option_map (λ (p : Place). p.above) (place_of s nav) → way_to t nav ≡ way_to s nav
ways_same s t nav ways =
    way_form t nav ∙ ap (λ (o : Option (List NavId)). option_map_or (λ (l : List NavId). nav ∷ l) o (nav ∷ [])) ways ∙ sym (way_form s nav)

-- each request looks as it did
looks_each : (asked next : List Asked) → map look next ≡ map look asked → (req : ReqId) → option_map look (request_in next req) ≡ option_map look (request_in asked req)
looks_each asked next same req = by_number (req.0 == 0)
  where
    by_number : (b : Bool) → option_map look (if b then None else slice_get next (req.0 - 1)) ≡ option_map look (if b then None else slice_get asked (req.0 - 1))
    by_number true = refl
    by_number false = sym (slice_get-map look next (req.0 - 1)) ∙ ap (λ l. slice_get l (req.0 - 1)) same ∙ slice_get-map look asked (req.0 - 1)

pub leaver_still : (s t : Seen) (why : Why) → map look t.requests ≡ map look s.requests → (nav : NavId) → option_map (λ (p : Place). p.above) (place_of t nav) ≡ option_map (λ (p : Place). p.above) (place_of s nav) → IsLeaver s why nav → IsLeaver t why nav
leaver_still s t why looks nav ways its =
    leaver_same s t why nav (looks_each s.requests t.requests looks) (ways_same s t nav ways) its

-- ---- why

-- the traversal that runs is what each one leaves for
pub run_leaver : (s : Seen) (run : ReqId) → ArePlain (Some run) s → (nav : NavId) → IsLeaver s (whys.Req run) nav
run_leaver s run plain nav =
    record { req = run; q = it.q; why = refl; found = it.found; leaves = inl (turned (is_under_way it.q) (is_traversal it.q.what) (plain.only run it.q it.found ∙ nat_eq_refl run.0)) }
  where
    it : IsThere s run
    it = plain.runs run refl

    turned : (a b : Bool) → (a && b) ≡ true → (b && a) ≡ true
    turned true true is = refl
    turned true false is = absurd cc
    turned false b is = absurd cc

-- a load that was applied is what its navigable leaves for, and each one below
pub load_leaver : (s : Seen) (nav : NavId) (req : ReqId) (q : Asked) (at : NavId) (mode : Mode) (address : List ℕ) → request_of s req ≡ Some q → q.what ≡ requests.Load at mode address → q.is_started ≡ true → is_none q.ending ≡ false → has_nav (way_to s nav) at ≡ true → IsLeaver s (whys.Req req) nav
load_leaver s nav req q at mode address found what started ended above =
    record { req = req; q = q; why = refl; found = found; leaves = inr (record { started = started; ended = ended; at = at; leaves = rw what refl; above = above }) }

-- where none runs, nobody is in need who was ever shown a document; or the one that runs is
pub run_leavers : (s : Seen) (run : Option ReqId) → ArePlain run s → (run ≡ None → NeedIsNew s) → (cause : Why) → LeavesVisited s (show_why run cause)
run_leavers s run plain new cause = by_run run refl
  where
    by_run : (o : Option ReqId) → run ≡ o → LeavesVisited s (show_why o cause)
    by_run None is nav place at need epoch =
        let zero_ : place.epoch.0 ≡ 0 = new is nav place at need in absurd (omega (arith, zero_, epoch))
    by_run (Some req) is nav place at need epoch =
        run_leaver s req (subst (λ (o : Option ReqId). ArePlain o s) is plain) nav

-- ---- along the walk

-- what is so of each later one that is visited in need and was shown a document before
abbrev pub LaterHave : (NavId → Type 0) → Seen → List NavId → ℕ → Type 0
LaterHave P s walk n =
    (nav : NavId) (place : Place) → IsLater walk n nav → place_of s nav ≡ Some place → IsVisitedInNeed s place → 1 ≤ place.epoch.0 → P nav

-- rows that serve the next one, after which another thing is so of those of which the one was, and so it is of those below it that are visited in need then
pub later_have : (P Q : NavId → Type 0) (s t : Seen) (walk : List NavId) (n : ℕ) (nav : NavId) → IsSound s.history → Hangs s → slice_get walk n ≡ Some nav → LeavesOthers s t nav → ((other : NavId) → P other → Q other) → ((other : NavId) (place : Place) → place_of t other ≡ Some place → is_below nav place ≡ true → IsVisitedInNeed t place → 1 ≤ place.epoch.0 → Q other) → LaterHave P s walk n → LaterHave Q t walk (n + 1)
later_have P Q s t walk n nav sound hangs here leaves still below so other place later at visited shown =
    by_test (is_below nav place) refl
  where
    differs : (b : Bool) → (other.0 == nav.0) ≡ b → (other.0 == nav.0) ≡ false
    differs false is = is
    differs true is =
        absurd (later n (omega arith) (here ∙ ap (λ (m : NavId). Some m) (sym (nav_is other nav is))))

    by_test : (b : Bool) → is_below nav place ≡ b → Q other
    by_test true is = below other place at is visited shown
    by_test false is =
        let was = visited_still s t nav sound hangs leaves other place apart at visited in
        still other (so other place (λ k low there. later k (omega (arith, low)) there) was.placed was.visited shown)
      where
        above_of : Option Place → Option (List NavId)
        above_of o = option_map (λ (p : Place). p.above) o

        apart : IsApart s nav other
        apart =
            record {
              differs = differs (other.0 == nav.0) refl;
              beside = λ p there.
                  let both : Some place.above ≡ Some p.above = sym (ap above_of at) ∙ leaves.ways other ∙ ap above_of there in
                  let same : place.above ≡ p.above = cc in
                  ap (λ (l : List NavId). has_nav l nav) (sym same) ∙ is;
            }
