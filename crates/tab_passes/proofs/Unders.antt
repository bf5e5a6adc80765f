-- The documents below a navigable, as the tables tell, are those that the navigables below it are awake on in the log.
use Rattle.seen_facts.proofs.Hang.Forms.{nav_is}
use Rattle.seen_facts.proofs.Hang.Members.{any_has, has_map, slice_has}
use Rattle.seen_facts.specs.Hang.Hanging.{Hangs}
use Rattle.seen_facts.specs.Hang.Members.{Has}
use Rattle.log_model.proofs.Refl.{nat_eq_refl}
use Rattle.log_model.specs.Equal.{has_doc}
use Rattle.log_model.specs.Places.{awake_document, is_below}
use Rattle.log_model.specs.Seen.{Place, Seen, Status, asleep, awake, lost, place_of}
use Rattle.log_model.specs.Soundness.{IsSound}
use Rattle.log_model.specs.Walk.{walk_of}
use Rattle.nav_tree.specs.declared.status.NavStatus.{NavStatus}
use Rattle.nav_tree.specs.declared.status.NavStatus.TheVariants as kept
use Rattle.plan_laws.proofs.WalkLaws.{walk_is as tree_walk}
use Rattle.seen_facts.proofs.Rest.Stands.{get_of}
use Rattle.std.proofs.Common.{Bool, List, None, Option, Some, [], ap, cond, false, filter_map, inl, inr, map, refl, subst, sym, true, ◌==◌, ◌||◌, ◌∙◌, ◌∷◌, ◌≡◌, ◌⊎◌}
use Rattle.std.specs.Prelude.{if◌then◌else◌}
use Rattle.tab_doors.specs.Look.{look_of}
use Rattle.tab_doors.specs.Ties.{Holds, status_of}
use Rattle.tab_doors.specs.declared.tables.Tables.{Tables}
use Rattle.tab_ids.specs.declared.DocId.{DocId}
use Rattle.tab_ids.specs.declared.NavId.{NavId}
use Rattle.tab_ids.specs.declared.ReqId.{ReqId}
use Rattle.tab_passes.proofs.Sleepers.{at_own, below_same, its, stand}
use Rattle.tab_passes.specs.Sleepers.{doc_below, doc_on, docs_below}
use Rattle.tab_passes.specs.Telling.{awake_on}
use Rattle.seen_facts.proofs.Walk.Order.{walk_is as log_walk, walk_member}

-- ---- lists of what some items have

-- the item that has it
pub record IsOfOne {A : Type 0} {B : Type 0} (f : A → Option B) (xs : List A) (y : B) : Type 0 where
  pub it : A
  pub there : Has xs it
  pub is : f it ≡ Some y

pub has_filter_map : {A B : Type 0} (f : A → Option B) (xs : List A) (y : B) → Has (filter_map f xs) y → IsOfOne f xs y
has_filter_map f [] y there = absurd there
has_filter_map {B = B} f (x ∷ xs) y there = by_has (f x) refl there (has_filter_map f xs y)
  where
    later : IsOfOne f xs y → IsOfOne f (x ∷ xs) y
    later more = record { it = more.it; there = inr more.there; is = more.is }

    by_has : (o : Option B) → f x ≡ o → Has (filter_map f (x ∷ xs)) y → (Has (filter_map f xs) y → IsOfOne f xs y) → IsOfOne f (x ∷ xs) y
    by_has None is h more = later (more (let r : Has (filter_map f xs) y = (let same : filter_map f (x ∷ xs) ≡ filter_map f xs = rw is refl in subst (λ (l : List B). Has l y) same h) in r))
    by_has (Some z) is h more =
        let same : filter_map f (x ∷ xs) ≡ z ∷ filter_map f xs = rw is refl in
        by_place (subst (λ (l : List B). Has l y) same h)
      where
        by_place : (z ≡ y) ⊎ Has (filter_map f xs) y → IsOfOne f (x ∷ xs) y
        by_place (inl one) = record { it = x; there = inl refl; is = is ∙ ap (λ (w : B). Some w) one }
        by_place (inr rest) = later (more rest)

pub into_filter_map : {A B : Type 0} (f : A → Option B) (xs : List A) (x : A) (y : B) → Has xs x → f x ≡ Some y → Has (filter_map f xs) y
into_filter_map f [] x y there is = absurd there
into_filter_map {B = B} f (z ∷ xs) x y (inl one) is =
    let same : filter_map f (z ∷ xs) ≡ y ∷ filter_map f xs = rw one (rw is refl) in
    subst (λ (l : List B). Has l y) (sym same) (inl refl)
into_filter_map {B = B} f (z ∷ xs) x y (inr there) is = by_first (f z) refl (into_filter_map f xs x y there is)
  where
    by_first : (o : Option B) → f z ≡ o → Has (filter_map f xs) y → Has (filter_map f (z ∷ xs)) y
    by_first None e more = let same : filter_map f (z ∷ xs) ≡ filter_map f xs = rw e refl in subst (λ (l : List B). Has l y) (sym same) more
    by_first (Some w) e more = let same : filter_map f (z ∷ xs) ≡ w ∷ filter_map f xs = rw e refl in subst (λ (l : List B). Has l y) (sym same) (inr more)

filter_map_mapped : {A B C : Type 0} (f : B → Option C) (h : A → B) (g : A → Option C) (l : List A) → ((x : A) → Has l x → f (h x) ≡ g x) → filter_map f (map h l) ≡ filter_map g l
filter_map_mapped f h g [] same = refl
filter_map_mapped {C = C} f h g (x ∷ l) same =
    by_each (f (h x)) (g x) refl refl (same x (inl refl)) (filter_map_mapped f h g l (λ y there. same y (inr there)))
  where
    by_each : (o p : Option C) → f (h x) ≡ o → g x ≡ p → f (h x) ≡ g x → filter_map f (map h l) ≡ filter_map g l → filter_map f (h x ∷ map h l) ≡ filter_map g (x ∷ l)
    by_each None None i j e more = rw (i, j) more
    by_each (Some y) (Some z) i j e more = let one : y ≡ z = cc in rw (i, j) (rw one (ap (λ (m : List C). z ∷ m) more))
    by_each None (Some z) i j e more = cc
    by_each (Some y) None i j e more = cc

-- ---- lists of documents

pub into_docs : (docs : List DocId) (doc : DocId) → Has docs doc → has_doc docs doc ≡ true
into_docs [] doc there = absurd there
into_docs (d ∷ docs) doc (inl same) = ap (λ (x : DocId). (x.0 == doc.0) || has_doc docs doc) same ∙ rw (nat_eq_refl doc.0) refl
into_docs (d ∷ docs) doc (inr more) = by_test (d.0 == doc.0) (into_docs docs doc more)
  where
    by_test : (b : Bool) → has_doc docs doc ≡ true → (b || has_doc docs doc) ≡ true
    by_test true h = refl
    by_test false h = h

-- the one of the list that has the number
pub record IsListedAs (docs : List DocId) (doc : DocId) : Type 0 where
  pub it : DocId
  pub there : Has docs it
  pub passes : (it.0 == doc.0) ≡ true

pub has_docs : (docs : List DocId) (doc : DocId) → has_doc docs doc ≡ true → IsListedAs docs doc
has_docs [] doc has = absurd cc
has_docs (d ∷ docs) doc has = by_test (d.0 == doc.0) refl has (has_docs docs doc)
  where
    by_test : (b : Bool) → (d.0 == doc.0) ≡ b → (b || has_doc docs doc) ≡ true → (has_doc docs doc ≡ true → IsListedAs docs doc) → IsListedAs (d ∷ docs) doc
    by_test true same h more = record { it = d; there = inl refl; passes = same }
    by_test false apart h more = let its = more h in record { it = its.it; there = inr its.there; passes = its.passes }

-- ---- the documents below

-- the document that a place below the navigable is awake on
abbrev pub shows_below : NavId → Place → Option DocId
shows_below top place = if is_below top place then awake_document place else None

-- where it shows one, it is below and awake on it
pub shows_parts : (top : NavId) (place : Place) (doc : DocId) → shows_below top place ≡ Some doc → (is_below top place ≡ true) × (place.status ≡ awake doc)
shows_parts top place doc is = by_test (is_below top place) refl place.status refl is
  where
    by_test : (b : Bool) → is_below top place ≡ b → (st : Status) → place.status ≡ st → (let o : Option DocId = cond b (awake_document (record place { status = st })) None in o) ≡ Some doc → (b ≡ true) × (st ≡ awake doc)
    by_test true e (awake d) f h = (refl, let same : d ≡ doc = cc in ap (λ (x : DocId). awake x) same)
    by_test true e asleep f h = cc
    by_test true e lost f h = cc
    by_test false e st f h = cc

module _ (s : Seen) (run : Option ReqId) (t : Tables) (holds_ : Holds (look_of s run) t) (sound : IsSound s.history) (hangs : Hangs s) where
  on_same : (place : Place) → Has s.places place → doc_on t.tree place.nav ≡ awake_document place
  on_same place there = let i = its s run t holds_ sound hangs place there in rw i.there (by_status i.node.nav.status i.status)
    where
      by_status : (st : NavStatus) → status_of st ≡ place.status → awake_on st ≡ awake_document place
      by_status (kept.Awake x) e = rw (sym e) refl
      by_status kept.Lost e = rw (sym e) refl
      by_status kept.Asleep e = rw (sym e) refl

  doc_same : (top : NavId) (place : Place) → Has s.places place → doc_below t.tree top place.nav ≡ shows_below top place
  doc_same top place there = rw (below_same s run t holds_ sound hangs top place there) (rw (on_same place there) refl)

  -- the places in the order of the walk are those of the log
  pub walked_there : (place : Place) → Has (walk_of s.places) place → Has s.places place
  walked_there place there =
      let at = get_of (walk_of s.places) place there in
      let k = walk_member s.places at.0 place at.1 in
      slice_has s.places k.0 place k.1

  pub below_is : (top : NavId) → docs_below t.tree top ≡ filter_map (shows_below top) (walk_of s.places)
  below_is top =
      ap (λ (navs : List NavId). filter_map (doc_below t.tree top) navs) (tree_walk s.places t.tree (stand s run t holds_ sound hangs).held)
      ∙ filter_map_mapped (doc_below t.tree top) (λ (p : Place). p.nav) (shows_below top) (walk_of s.places) (λ place there. doc_same top place (walked_there place there))

  -- a navigable below is awake on the document
  pub record ShownBelow (top : NavId) (doc : DocId) : Type 0 where
    pub place : Place
    pub there : Has s.places place
    pub placed : place_of s place.nav ≡ Some place
    pub below : is_below top place ≡ true
    pub wakes : place.status ≡ awake doc

  -- so it is of each of them
  pub below_found : (top : NavId) (doc : DocId) → Has (docs_below t.tree top) doc → ShownBelow top doc
  below_found top doc there =
      let one = has_filter_map (shows_below top) (walk_of s.places) doc (subst (λ (l : List DocId). Has l doc) (below_is top) there) in
      let parts = shows_parts top one.it doc one.is in
      let has = walked_there one.it one.there in
      record { place = one.it; there = has; placed = at_own s run t holds_ sound hangs one.it has; below = parts.0; wakes = parts.1 }

  -- and each such document is among them
  pub below_has : (top : NavId) (place : Place) (doc : DocId) → Has s.places place → is_below top place ≡ true → place.status ≡ awake doc → has_doc (docs_below t.tree top) doc ≡ true
  below_has top place doc there below wakes =
      into_docs (docs_below t.tree top) doc
      (subst (λ (l : List DocId). Has l doc) (sym (below_is top)) (into_filter_map (shows_below top) (walk_of s.places) place doc walked (rw below (rw wakes refl))))
    where
      walked : Has (walk_of s.places) place
      walked =
          let own = at_own s run t holds_ sound hangs place there in
          let named = any_has (λ (n : NavId). n.0 == place.nav.0) (map (λ (q : Place). q.nav) (walk_of s.places)) ((log_walk s sound hangs).all place.nav place own) in
          let one = has_map (λ (q : Place). q.nav) (walk_of s.places) named.it named.there in
          let navs : one.it.nav ≡ place.nav = one.is ∙ nav_is named.it place.nav named.passes in
          let both : Some one.it ≡ Some place = sym (at_own s run t holds_ sound hangs one.it (walked_there one.it one.there)) ∙ ap (place_of s) navs ∙ own in
          let same : one.it ≡ place = cc in
          subst (λ (q : Place). Has (walk_of s.places) q) same one.there
