-- The documents below a navigable that leaves its own: each of another navigable, none twice; and all that falls to be left is among them.
use Rattle.seen_facts.proofs.Hang.Forms.{nav_is}
use Rattle.seen_facts.proofs.Hang.Members.{has_filter, has_found}
use Rattle.seen_facts.specs.Hang.AsPlaces.{AreDistinct}
use Rattle.seen_facts.specs.Hang.Members.{Has}
use Rattle.seen_facts.specs.Home.Homes.{IsAtHome}
use Rattle.log_model.proofs.Refl.{nat_eq_refl}
use Rattle.log_model.specs.AfterPlaces.{sleepers_with, without_doc}
use Rattle.log_model.specs.Equal.{has_doc}
use Rattle.log_model.specs.History.{has_nav}
use Rattle.log_model.specs.Places.{awake_document}
use Rattle.log_model.specs.Seen.{Document, Place, Seen, Status, asleep, awake, lost, place_in, place_of}
use Rattle.log_model.specs.Walk.{walk_of}
use Rattle.log_model.specs.declared.job.Why.{Why}
use Rattle.log_model.specs.declared.row_kind.RowKind.{RowKind}
use Rattle.row_facts.proofs.RestRows.Again.{doc_same, turned}
use Rattle.row_facts.specs.RestRows.Left.{left_below, shown_by}
use Rattle.seen_laws.specs.InEvent.{now_of}
use Rattle.std.proofs.Common.{Bool, List, None, Option, Some, [], ap, append-nil, arith, cond, false, filter_map, inl, inr, not, refl, subst, sym, true, ◌==◌, ◌||◌, ◌∙◌, ◌∷◌, ◌≡◌}
use Rattle.std.proofs.lemmas.Bool.Decides.{nat_tests}
use Rattle.std.specs.Prelude.{if◌then◌else◌}
use Rattle.tab_doors.specs.declared.tables.Tables.{Tables}
use Rattle.tab_ids.specs.declared.DocId.{DocId}
use Rattle.tab_ids.specs.declared.NavId.{NavId}
use Rattle.tab_moves.proofs.Leaves.{differs, distinct, docs_apart, home_of, its_home, to_freeze, under}
use Rattle.tab_moves.specs.Moving.{InMoving, IsToLeave}
pub use Rattle.tab_passes.proofs.Sleepers.{at_own}
use Rattle.tab_passes.proofs.Unders.{ShownBelow, below_has, has_docs, shows_parts}
pub use Rattle.tab_passes.proofs.Unders.{below_is, has_filter_map, shows_below, walked_there}
use Rattle.tab_passes.specs.Leaving.{IsLeaving, IsToFreeze, left_then, without_all}
use Rattle.tab_passes.specs.Sleepers.{docs_below}
use Rattle.seen_facts.proofs.Walk.Order.{walk_once}
use Rattle.row_facts.proofs.WalkRows.Sleeping.{IsUnder}

-- ---- lists without some documents

without_has : (doc : DocId) (docs : List DocId) (x : DocId) → has_doc (without_doc doc docs) x ≡ true → (has_doc docs x ≡ true) × ((doc.0 == x.0) ≡ false)
without_has doc [] x has = absurd cc
without_has doc (d ∷ docs) x has = by_test (d.0 == doc.0) refl has (without_has doc docs x)
  where
    by_head : (d.0 == doc.0) ≡ false → (c : Bool) → (d.0 == x.0) ≡ c → (c || has_doc (without_doc doc docs) x) ≡ true → (has_doc (without_doc doc docs) x ≡ true → (has_doc docs x ≡ true) × ((doc.0 == x.0) ≡ false)) → ((c || has_doc docs x) ≡ true) × ((doc.0 == x.0) ≡ false)
    by_head other true same h more = (refl, grind (arith, nat_tests, other, same))
    by_head other false same h more = more h

    skip : (c : Bool) → has_doc docs x ≡ true → (c || has_doc docs x) ≡ true
    skip true h = refl
    skip false h = h

    by_test : (b : Bool) → (d.0 == doc.0) ≡ b → has_doc (let l : List DocId = cond (not b) (d ∷ without_doc doc docs) (without_doc doc docs) in l) x ≡ true → (has_doc (without_doc doc docs) x ≡ true → (has_doc docs x ≡ true) × ((doc.0 == x.0) ≡ false)) → (has_doc (d ∷ docs) x ≡ true) × ((doc.0 == x.0) ≡ false)
    by_test true is h more = (skip (d.0 == x.0) (more h).0, (more h).1)
    by_test false is h more = by_head is (d.0 == x.0) refl h more

without_all_has : (docs left : List DocId) (x : DocId) → has_doc (without_all docs left) x ≡ true → (has_doc left x ≡ true) × (has_doc docs x ≡ false)
without_all_has [] left x has = (has, refl)
without_all_has (d ∷ docs) left x has =
    let rest = without_all_has docs (without_doc d left) x has in
    let own = without_has d left x rest.0 in
    (own.0, rw own.1 rest.1)

docs_turned : (a b : DocId) → (a.0 == b.0) ≡ false → (b.0 == a.0) ≡ false
docs_turned a b is = turned a b is

-- each of these, no two of one number
abbrev pub AreEach : (DocId → Type 0) → List DocId → Type 0
AreEach Q [] = Unit {0}
AreEach Q (x ∷ l) = Q x × (has_doc l x ≡ false) × AreEach Q l

module _ (m : InMoving) (nav : NavId) (doc : DocId) (why : Why) (out : List RowKind) (t : Tables) (leaving : IsLeaving m.pass (Some m.move) [] out t) (to : IsToLeave m t.running (now_of m.pass.event out) nav doc why) where
  abbrev s : Seen
  s = now_of m.pass.event out

  -- ---- one of them

  abbrev pub IsShown : DocId → Type 0
  IsShown x = ShownBelow s t.running t leaving.work.holds leaving.going.tab.sound leaving.going.tab.hangs nav x

  module _ (x : DocId) (its : IsShown x) where
    pub home : IsAtHome s.documents its.place.nav x
    home = home_of m nav doc why out t leaving to its.place.nav its.place x its.placed its.wakes

    pub freezes : IsToFreeze m.pass.event s nav x
    freezes = to_freeze m nav doc why out t leaving to its.place.nav its.place x (inr its.below) its.placed its.wakes

    pub another : (its.place.nav.0 == nav.0) ≡ false
    another = differs m nav doc why out t leaving to its.place its.placed its.below

    pub apart_left : (doc.0 == x.0) ≡ false
    apart_left =
        docs_turned x doc
        (docs_apart m nav doc why out t leaving to x doc home.document (its_home m nav doc why out t leaving to).document home.found (its_home m nav doc why out t leaving to).found
        (ap (λ (n : NavId). n.0 == (its_home m nav doc why out t leaving to).document.nav.0) home.nav_is ∙ ap (λ (n : NavId). its.place.nav.0 == n.0) (its_home m nav doc why out t leaving to).nav_is ∙ another))

    pub apart_new : (x.0 == m.move.doc.0) ≡ false
    apart_new =
        docs_apart m nav doc why out t leaving to x m.move.doc home.document to.new.document home.found to.new.found
        (ap (λ (n : NavId). n.0 == to.new.document.nav.0) home.nav_is ∙ ap (λ (n : NavId). its.place.nav.0 == n.0) to.new.nav_is ∙ another)

  -- ---- all of them

  -- the navigable of a place shows it
  abbrev shown_at : (p : Place) (x : DocId) → Has s.places p → shows_below nav p ≡ Some x → IsShown x
  shown_at p x there shows_ =
      record { place = p; there = there; placed = at_own s t.running t leaving.work.holds leaving.going.tab.sound leaving.going.tab.hangs p there; below = (shows_parts nav p x shows_).0; wakes = (shows_parts nav p x shows_).1 }

  -- two navigables don't show one document
  one_nav : (x : DocId) (one two : IsShown x) → two.place.nav ≡ one.place.nav
  one_nav x one two =
      let first = home x one in
      let second = home x two in
      let both : Some first.document ≡ Some second.document = sym first.found ∙ second.found in
      let same : first.document ≡ second.document = cc in
      sym second.nav_is ∙ ap (λ (d : Document). d.nav) (sym same) ∙ first.nav_is

  -- one that shows it isn't among others
  alone : (l : List Place) (p q : Place) → place_in l p.nav ≡ None → Has l q → q.nav ≡ p.nav → ⊥
  alone l p q gone there navs =
      let named : (q.nav.0 == p.nav.0) ≡ true = ap (λ (n : NavId). n.0 == p.nav.0) navs ∙ nat_eq_refl p.nav.0 in
      let found = has_found (λ (r : Place). r.nav.0 == p.nav.0) l q there named in
      let no_ : None ≡ Some found.0 = sym gone ∙ found.1 in
      cc

  never_again : (p : Place) (x : DocId) (l : List Place) → (one : IsShown x) → one.place ≡ p → place_in l p.nav ≡ None → ((q : Place) → Has l q → Has s.places q) → (d : DocId) → d ≡ x → (q : Place) → Has l q → shows_below nav q ≡ Some d → ⊥
  never_again p x l one is gone all d number q there shows_ =
      alone l p q gone there (one_nav x one (shown_at q x (all q there) (shows_ ∙ ap (λ (y : DocId). Some y) number)) ∙ ap (λ (r : Place). r.nav) is)

  none_again : (p : Place) (x : DocId) (l : List Place) → Has s.places p → shows_below nav p ≡ Some x → place_in l p.nav ≡ None → ((q : Place) → Has l q → Has s.places q) → has_doc (filter_map (shows_below nav) l) x ≡ false
  none_again p x l there shows_ gone all = by_test (has_doc (filter_map (shows_below nav) l) x) refl
    where
      by_test : (b : Bool) → has_doc (filter_map (shows_below nav) l) x ≡ b → has_doc (filter_map (shows_below nav) l) x ≡ false
      by_test false e_ = e_
      by_test true e_ =
          let found = has_docs (filter_map (shows_below nav) l) x e_ in
          let other = has_filter_map (shows_below nav) l found.it found.there in
          absurd (never_again p x l (shown_at p x there shows_) refl gone all found.it (doc_same found.it x found.passes) other.it other.there other.is)

  each_of : (Q : DocId → Type 0) → ((x : DocId) → IsShown x → Q x) → (l : List Place) → AreDistinct l → ((p : Place) → Has l p → Has s.places p) → AreEach Q (filter_map (shows_below nav) l)
  each_of Q q [] apart all = tt
  each_of Q q (p ∷ l) apart all = by_shown (shows_below nav p) refl (each_of Q q l apart.1 (λ r there. all r (inr there)))
    where
      by_shown : (o : Option DocId) → shows_below nav p ≡ o → AreEach Q (filter_map (shows_below nav) l) → AreEach Q (filter_map (shows_below nav) (p ∷ l))
      by_shown None none rest = rw none rest
      by_shown (Some x) shows_ rest =
          rw shows_ (q x (shown_at p x (all p (inl refl)) shows_), none_again p x l (all p (inl refl)) shows_ apart.0 (λ r there. all r (inr there)), rest)

  walked : (p : Place) → Has (walk_of s.places) p → Has s.places p
  walked p there = walked_there s t.running t leaving.work.holds leaving.going.tab.sound leaving.going.tab.hangs p there

  pub each_below : (Q : DocId → Type 0) → ((x : DocId) → IsShown x → Q x) → AreEach Q (docs_below t.tree nav)
  each_below Q q =
      subst (λ (l : List DocId). AreEach Q l) (sym (below_is s t.running t leaving.work.holds leaving.going.tab.sound leaving.going.tab.hangs nav)) (each_of Q q (walk_of s.places) (walk_once s.places (distinct m nav doc why out t leaving to)) walked)

  -- all that is still to be frozen is among those below
  left_listed : (x : DocId) → has_doc (left_below s doc) x ≡ true → has_doc (docs_below t.tree nav) x ≡ true
  left_listed x has =
      let found = has_docs (left_below s doc) x has in
      let parts = has_filter (λ (d : DocId). not (d.0 == doc.0)) (shown_by (sleepers_with s doc) s.places) found.it found.there in
      let one = has_filter_map (λ (p : Place). if has_nav (sleepers_with s doc) p.nav then awake_document p else None) s.places found.it parts.0 in
      by_parts found.it parts.1 one.it one.there (doc_same found.it x found.passes) (if_parts one.it found.it one.is)
    where
      -- it falls asleep, and is awake on the document
      if_parts : (p : Place) (d : DocId) → (let o : Option DocId = if has_nav (sleepers_with s doc) p.nav then awake_document p else None in o) ≡ Some d → (has_nav (sleepers_with s doc) p.nav ≡ true) × (p.status ≡ awake d)
      if_parts p d is_ = by_test (has_nav (sleepers_with s doc) p.nav) p.status is_
        where
          by_test : (b : Bool) (st : Status) → (let o : Option DocId = cond b (awake_document (record p { status = st })) None in o) ≡ Some d → (b ≡ true) × (st ≡ awake d)
          by_test true (awake y) h = (refl, let same : y ≡ d = cc in ap (λ (z : DocId). awake z) same)
          by_test true asleep h = cc
          by_test true lost h = cc
          by_test false st h = cc

      by_parts : (d : DocId) → not (d.0 == doc.0) ≡ true → (p : Place) → Has s.places p → d ≡ x → (has_nav (sleepers_with s doc) p.nav ≡ true) × (p.status ≡ awake d) → has_doc (docs_below t.tree nav) x ≡ true
      by_parts d other p there number parts = by_under (under m nav doc why out t leaving to p.nav parts.0)
        where
          placed : place_of s p.nav ≡ Some p
          placed = at_own s t.running t leaving.work.holds leaving.going.tab.sound leaving.going.tab.hangs p there

          by_under : IsUnder s nav p.nav → has_doc (docs_below t.tree nav) x ≡ true
          by_under (inl same) =
              let own : p.nav ≡ nav = nav_is p.nav nav same in
              let both : Some p ≡ Some to.place = sym placed ∙ ap (place_of s) own ∙ to.placed in
              let one : p ≡ to.place = cc in
              let docs_ : awake d ≡ awake doc = sym parts.1 ∙ ap (λ (q : Place). q.status) one ∙ to.wakes in
              let doc_is : d ≡ doc = cc in
              let no_ : false ≡ true = sym (ap (λ (z : DocId). not (z.0 == doc.0)) doc_is ∙ ap not (nat_eq_refl doc.0)) ∙ other in
              absurd cc
          by_under (inr below) =
              ap (λ (z : DocId). has_doc (docs_below t.tree nav) z) (sym number) ∙ below_has s t.running t leaving.work.holds leaving.going.tab.sound leaving.going.tab.hangs nav p d there (below p placed) parts.1

  -- so nothing is once they are frozen
  pub all_left : (docs : List DocId) → docs ≡ docs_below t.tree nav → (x : DocId) → has_doc (without_all docs (left_then s doc [])) x ≡ true → ⊥
  all_left docs are x has =
      let parts = without_all_has docs (left_then s doc []) x has in
      let listed : has_doc docs x ≡ true = ap (λ (l : List DocId). has_doc l x) are ∙ left_listed x (ap (λ (l : List DocId). has_doc l x) (sym (append-nil (left_below s doc))) ∙ parts.0) in
      let never_ : false ≡ true = sym parts.1 ∙ listed in
      cc

  -- and each of them is shown
  pub shown_in : (x : DocId) → has_doc (docs_below t.tree nav) x ≡ true → IsShown x
  shown_in x has =
      let is : docs_below t.tree nav ≡ filter_map (shows_below nav) (walk_of s.places) = below_is s t.running t leaving.work.holds leaving.going.tab.sound leaving.going.tab.hangs nav in
      let found = has_docs (filter_map (shows_below nav) (walk_of s.places)) x (ap (λ (l : List DocId). has_doc l x) (sym is) ∙ has) in
      let other = has_filter_map (shows_below nav) (walk_of s.places) found.it found.there in
      subst (λ (y : DocId). IsShown y) (doc_same found.it x found.passes) (shown_at other.it found.it (walked other.it other.there) other.is)
