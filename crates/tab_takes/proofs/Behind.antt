-- Where what a document made is at hand, and taken up now, nothing that this document made is held back: nothing is while no traversal runs, and while one does only what is of navigables that it has moved.
use Rattle.seen_facts.specs.Asked.Asking.{IsTabRequest, IsThere}
use Rattle.seen_facts.proofs.Coord.Leadings.{doc_same}
use Rattle.seen_facts.specs.Coord.Leading.{held_back}
use Rattle.tab_facts.specs.Frame.Lasting.{IsOfItsNav, wish}
use Rattle.log_model.proofs.Refl.{nat_eq_refl}
use Rattle.log_model.specs.Equal.{has_req, holds}
use Rattle.log_model.specs.History.{has_nav}
use Rattle.log_model.specs.Places.{is_moved, running_traversal}
use Rattle.log_model.specs.Points.{nav_of_request}
use Rattle.log_model.specs.Seen.{Asked, Document, Seen, document_of, request_in}
use Rattle.log_model.specs.declared.made.Made.{Made}
use Rattle.log_model.specs.declared.request.Request.{Request}
use Rattle.log_model.specs.declared.row_kind.RowKind.{RowKind}
use Rattle.seen_facts.specs.Request.Cores.{Core, core, core_of}
use Rattle.seen_facts.specs.Request.Knowns.{AllOf, IsParked, req_itself}
use Rattle.std.proofs.Common.{Bool, List, None, Option, Some, [], ap, false, refl, subst, sym, true, ◌==◌, ◌||◌, ◌∙◌, ◌∷◌, ◌≡◌}
use Rattle.std.proofs.lemmas.Bool.{or_right}
use Rattle.std.specs.Prelude.{filter, option_and_then}
use Rattle.sync_core.specs.declared.judging.Judged.TheVariants as verdicts
use Rattle.tab_doors.specs.declared.tables.Tables.{Tables}
use Rattle.tab_rests.specs.PassedOn.{AreHeldUp, IsTab, InPass}
use Rattle.tab_ids.specs.declared.DocId.{DocId}
use Rattle.tab_ids.specs.declared.ReqId.{ReqId}
use Rattle.tab_ids.specs.declared.StateId.{StateId}
use Rattle.tab_rests.proofs.PassedOn.{running_is}
use Rattle.tab_takes.proofs.Verdicts.{IsOfIt, Tells, its, s, tab, unmoved}
use Rattle.tab_takes.specs.Taking.{IsByItsOwn, IsToTake}
use Rattle.log_model.specs.declared.request.Request.TheVariants as requests

some_same : {A : Type 0} {a b : A} → (let o : Option A = Some a in o) ≡ Some b → a ≡ b
some_same e = cc

-- what was made of the request
abbrev made_at : List Asked → ReqId → Option Made
made_at asked req = option_and_then (λ (q : Asked). q.made) (request_in asked req)

-- the first that is held back isn't of the document, and neither are the others
one_more : (asked : List Asked) (doc : DocId) (req : ReqId) (l : List ReqId) (o : Option Made) → made_at asked req ≡ o → ((m : Made) → made_at asked req ≡ Some m → (m.doc.0 == doc.0) ≡ false) → filter (λ (m : Made). m.doc.0 == doc.0) (held_back asked l) ≡ [] → filter (λ (m : Made). m.doc.0 == doc.0) (held_back asked (req ∷ l)) ≡ []
one_more asked doc req l None is off none = rw is none
one_more asked doc req l (Some m) is off none = rw is (rw (off m is) none)

module _ (p : InPass) (out : List RowKind) (t : Tables) (blame : List (StateId × ReqId)) (made : Made) (at : IsToTake p out t blame made) (told : Tells p out t blame made at verdicts.Now) where
  abbrev now_ : Seen
  now_ = s p out t blame made at

  abbrev whole : IsTab t.running p.loads p.hand now_
  whole = tab p out t blame made at

  abbrev own : IsOfIt p out t blame made at
  own = its p out t blame made at

  unmoved_ : is_moved now_ own.d.nav ≡ false
  unmoved_ = unmoved p out t blame made at told.1.1

  -- what is held back was made by a document of its request's navigable
  held_own : (req : ReqId) (q : Asked) (m : Made) → request_in now_.requests req ≡ Some q → q.made ≡ Some m → IsParked (core_of (request_in now_.requests req)) req → IsByItsOwn now_ q m
  held_own req q m found makes known = by_what q.what refl (whole.asked.each req q found).what
    where
      both : (let o : Option Core = Some (core q) in o) ≡ Some (record { what = known.is.what; doc = known.is.doc; made = Some known.made; ending = None })
      both = sym (ap core_of found) ∙ known.is.is

      same : core q ≡ record { what = known.is.what; doc = known.is.doc; made = Some known.made; ending = None }
      same = some_same both

      what_is : q.what ≡ known.is.what
      what_is = ap (λ (c : Core). c.what) same

      doc_is : q.doc ≡ known.is.doc
      doc_is = ap (λ (c : Core). c.doc) same

      made_is : known.made ≡ m
      made_is = let made_ : q.made ≡ Some known.made = ap (λ (c : Core). c.made) same in some_same (sym made_ ∙ makes)

      by_what : (what : Request) → q.what ≡ what → IsTabRequest what → IsByItsOwn now_ q m
      by_what (requests.Go delta) is plain = absurd (known.is.no_user delta (sym what_is ∙ is))
      by_what (requests.Poke nav action) is plain =
          let poked : known.is.doc ≡ Some known.made.doc = known.is.poked nav action (sym what_is ∙ is) in
          let of : IsOfItsNav now_.documents (wish q) m.doc = at.passing.going.lasting.poked req q found m.doc (doc_is ∙ poked ∙ ap (λ (x : Made). let o : Option DocId = Some x.doc in o) made_is) in
          record { d = of.d; found = of.found; nav_is = of.nav_is }
      by_what (requests.Load nav mode address) is plain = (at.taking.theirs req q m found (rw is refl) makes).0
      by_what (requests.Reload nav) is plain = absurd plain

  -- ---- while a traversal runs

  module _ (run : ReqId) (runs : t.running ≡ Some run) where
    there : IsThere now_ run
    there = whole.asked.runs run runs

    run_is : running_traversal now_ ≡ Some there.q
    run_is =
        running_is now_ t.running whole.asked ∙ ap (λ (o : Option ReqId). option_and_then (λ (req : ReqId). request_in now_.requests req) o) runs ∙ there.found

    stays : has_nav there.q.moved own.d.nav ≡ false
    stays = sym (ap (holds (λ (x : Asked). has_nav x.moved own.d.nav)) run_is) ∙ unmoved_

    held : AreHeldUp (Some run) now_
    held = subst (λ (o : Option ReqId). AreHeldUp o now_) runs at.passing.going.held

    apart : (req : ReqId) (q : Asked) (m : Made) → has_req now_.parked req ≡ true → request_in now_.requests req ≡ Some q → q.made ≡ Some m → IsParked (core_of (request_in now_.requests req)) req → (m.doc.0 == made.doc.0) ≡ false
    apart req q m has found makes known = by_test (m.doc.0 == made.doc.0) refl
      where
        by_test : (b : Bool) → (m.doc.0 == made.doc.0) ≡ b → (m.doc.0 == made.doc.0) ≡ false
        by_test false off = off
        by_test true on =
            let of : IsByItsOwn now_ q m = held_own req q m found makes known in
            let one : m.doc ≡ made.doc = doc_same m.doc made.doc on in
            let same : of.d ≡ own.d = some_same (sym of.found ∙ ap (λ (x : DocId). document_of now_ x) one ∙ own.found) in
            let nav_is : nav_of_request q.what ≡ Some own.d.nav = of.nav_is ∙ ap (λ (x : Document). Some x.nav) same in
            let moves : has_nav there.q.moved own.d.nav ≡ true = held req q there.q own.d.nav has found nav_is there.found in
            absurd (let never : true ≡ false = sym moves ∙ stays in cc)

    off : (req : ReqId) → has_req now_.parked req ≡ true → IsParked (core_of (request_in now_.requests req)) req → (m : Made) → made_at now_.requests req ≡ Some m → (m.doc.0 == made.doc.0) ≡ false
    off req has known m is = by_found (request_in now_.requests req) refl
      where
        by_found : (o : Option Asked) → request_in now_.requests req ≡ o → (m.doc.0 == made.doc.0) ≡ false
        by_found None none = absurd (let never : None ≡ Some m = sym (ap (λ (o : Option Asked). option_and_then (λ (x : Asked). x.made) o) none) ∙ is in cc)
        by_found (Some q) found =
            apart req q m has found (sym (ap (λ (o : Option Asked). option_and_then (λ (x : Asked). x.made) o) found) ∙ is) known

    each : (l : List ReqId) → AllOf IsParked req_itself now_.requests l → ((req : ReqId) → has_req l req ≡ true → has_req now_.parked req ≡ true) → filter (λ (m : Made). m.doc.0 == made.doc.0) (held_back now_.requests l) ≡ []
    each [] all among = refl
    each (req ∷ l) all among =
        one_more now_.requests made.doc req l (made_at now_.requests req) refl (off req (among req (ap (λ (b : Bool). b || has_req l req) (nat_eq_refl req.0))) all.0) (each l all.1 (λ r has. among r (or_right (req.0 == r.0) (has_req l r) has)))

  pub none_behind : p.hand ≡ made ∷ [] → filter (λ (m : Made). m.doc.0 == made.doc.0) (held_back now_.requests now_.parked) ≡ []
  none_behind alone = by_run t.running refl
    where
      by_run : (o : Option ReqId) → t.running ≡ o → filter (λ (m : Made). m.doc.0 == made.doc.0) (held_back now_.requests now_.parked) ≡ []
      by_run None runs =
          let idle : running_traversal now_ ≡ None = running_is now_ t.running whole.asked ∙ ap (λ (o : Option ReqId). option_and_then (λ (req : ReqId). request_in now_.requests req) o) runs in
          ap (λ (l : List ReqId). filter (λ (m : Made). m.doc.0 == made.doc.0) (held_back now_.requests l)) (at.taking.still alone idle)
      by_run (Some run) runs = each run runs now_.parked whole.known.parked (λ r has. has)
