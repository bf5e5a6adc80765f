-- What requests may leave once loads gave way; and as stray documents are to be discarded, nobody was awake on each as the event began, or it is left duly for the request that is noted for its state.
use Rattle.log_model.specs.Equal.{holds}
use Rattle.log_model.specs.Places.{is_load, is_ongoing_load, shower_of, way_of}
use Rattle.log_model.specs.Seen.{Asked, Document, Place, Seen, document_of, place_in, request_of}
use Rattle.log_model.specs.declared.row_kind.RowKind.{RowKind}
use Rattle.row_facts.proofs.WalkRows.Sleeping.{IsShower, shower_is}
use Rattle.row_facts.specs.WalkRows.Since.{WasAwake}
use Rattle.seen_facts.proofs.Walk.Placed.{found_nav}
use Rattle.seen_facts.specs.Home.Homes.{IsAtHome}
use Rattle.seen_laws.specs.InEvent.{log_of, now_of}
use Rattle.std.proofs.Common.{Bool, List, None, Option, Some, [], ap, false, inl, inr, refl, subst, sym, true, ◌&&◌, ◌∙◌, ◌∷◌, ◌≡◌, ◌⊎◌}
use Rattle.std.specs.Option.{option_map_or}
use Rattle.std.specs.Prelude.{is_none, option_map}
use Rattle.tab_doors.specs.declared.tables.Tables.{Tables}
use Rattle.tab_drops.specs.Dropping.{LeavesAll}
use Rattle.tab_facts.specs.Frame.Lasting.{Wish, wish}
use Rattle.tab_ids.specs.declared.NavId.{NavId}
use Rattle.tab_ids.specs.declared.ReqId.{ReqId}
use Rattle.tab_ids.specs.declared.StateId.{StateId}
use Rattle.tab_one_pass.specs.PassedOn.{InPass, IsPassingIn}
use Rattle.tab_one_pass.specs.Passing.{IsOpen, MayServe}
use Rattle.tab_passes.specs.Leaving.{IsLeftDulyFor, WasOffOrLeft}
pub use Rattle.tab_sweeps.proofs.MayLeaves.{begun_leaves, load_leaves, may_leave_on, may_leave_reads, may_leave_same, unbegun_leaves, way_same}
use Rattle.tab_sweeps.proofs.MayLeaves.{left_by}
pub use Rattle.tab_sweeps.specs.Sweeping.{IsOverNav, LeavesAwake, MayLeaveNav, NeverBegins}
use Rattle.tab_sweeps.specs.Sweeping.{AreBlamed, IsBlamed, StraysAreLeft}
use Rattle.log_model.specs.declared.job.Why.{Why}
use Rattle.log_model.specs.declared.job.Why.TheVariants as whys

-- ---- loads gave way

-- a request that hasn't begun is no ongoing load
pub unbegun_idle : (q : Asked) → q.is_started ≡ false → is_ongoing_load q ≡ false
unbegun_idle q off = ap (λ (b : Bool). (b && is_none q.ending) && is_load q.what) off

-- what a request asks, where all wishes are as they were
pub whats_same : (s t : Seen) (req : ReqId) → option_map wish (request_of t req) ≡ option_map wish (request_of s req) → option_map (λ (q : Asked). q.what) (request_of t req) ≡ option_map (λ (q : Asked). q.what) (request_of s req)
whats_same s t req same = sym (read (request_of t req)) ∙ ap (option_map (λ (w : Wish). w.what)) same ∙ read (request_of s req)
  where
    read : (o : Option Asked) → option_map (λ (w : Wish). w.what) (option_map wish o) ≡ option_map (λ (q : Asked). q.what) o
    read None = refl
    read (Some q) = refl

-- whom a request may leave it may still
pub may_leave_left : (s t : Seen) → LeavesAll s t → (req : ReqId) (nav : NavId) → MayServe t req → MayLeaveNav s req nav → MayLeaveNav t req nav
may_leave_left s t left req nav may =
    may_leave_on s t req nav may (whats_same s t req (left.wishes req))
    (λ q x at off there. let two : Some x ≡ Some q = sym there ∙ left.others req q at (unbegun_idle q off) in let one : x ≡ q = cc in ap (λ (y : Asked). y.is_started) one ∙ off)
    (ap (λ (l : List Place). option_map_or way_of (place_in l nav) (nav ∷ [])) left.places)

-- ---- before documents are discarded

pub strays_are_left : {sweeps : Bool} (p : InPass) (out : List RowKind) (t : Tables) → IsPassingIn sweeps p out t → (cause : Why) → IsOpen p.event t.running cause (now_of p.event out) → (blame : List (StateId × ReqId)) → AreBlamed (now_of p.event out) blame → StraysAreLeft p.event out blame
strays_are_left p out t pass cause so blame blamed doc state req stray noted = by_shower (shower_of p.event.start doc) refl
  where
    s : Seen
    s = now_of p.event out

    it : IsBlamed s blame doc state
    it = blamed doc state stray

    named : it.req ≡ req
    named = let two : Some it.req ≡ Some req = sym it.noted ∙ noted in cc

    left : (nav : NavId) → WasAwake s nav doc → IsLeftDulyFor (log_of p.event out) doc (whys.Req req)
    left nav was =
        let home : IsAtHome s.documents was.place.nav doc = (pass.going.tab.homes.homed nav was.place doc was.placed was.wakes).home in
        let two : Some home.document ≡ Some stray.document = sym home.found ∙ stray.found in
        let one : home.document ≡ stray.document = cc in
        let own : stray.document.nav ≡ nav = ap (λ (d : Document). d.nav) (sym one) ∙ home.nav_is ∙ found_nav s.places nav was.place was.placed in
        subst (λ (r : ReqId). IsLeftDulyFor (log_of p.event out) doc (whys.Req r)) named
        (left_by p.event out t pass.work pass.going.tab.asked.each pass.duly it.req nav was.place doc stray.document it.may was.placed stray.found own (it.leaves nav was.place was.placed was.wakes))

    by_still : (nav : NavId) → WasAwake s nav doc ⊎ (holds (λ (d : Document). d.is_discarded) (document_of s doc) ≡ true) → WasOffOrLeft p.event out (whys.Req req) doc
    by_still nav (inl was) = inr (left nav was)
    by_still nav (inr gone) =
        let never : true ≡ false = sym gone ∙ ap (λ (o : Option Document). holds (λ (d : Document). d.is_discarded) o) stray.found ∙ stray.undiscarded in
        absurd cc

    by_shower : (o : Option Place) → shower_of p.event.start doc ≡ o → WasOffOrLeft p.event out (whys.Req req) doc
    by_shower None none = inl none
    by_shower (Some place) is =
        let on : IsShower p.event.start doc place = shower_is p.event.start doc place so.since.distinct is in
        by_still place.nav (so.still place.nav place doc on.placed on.wakes)
