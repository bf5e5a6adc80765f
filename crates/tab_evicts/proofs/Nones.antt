-- What is left below a document state as documents are discarded: none in the end.
use Rattle.seen_facts.proofs.Hang.Members.{find_has, into_map}
use Rattle.seen_facts.specs.Hang.Members.{Has}
use Rattle.log_model.proofs.Refl.{nat_eq_refl}
use Rattle.log_model.specs.Equal.{has_doc}
use Rattle.log_model.specs.Seen.{Document, Place, Seen, document_of, place_in}
use Rattle.log_model.specs.declared.job.Why.{Why}
use Rattle.log_model.specs.declared.row_kind.RowKind.{RowKind}
use Rattle.nav_tree.proofs.Lists.{take-slice_get}
use Rattle.nav_tree.specs.Tree.{Tree, docs_of, is_placed, state_of}
use Rattle.nav_tree.specs.declared.place.Place as live_place
use Rattle.row_facts.proofs.RestRows.Again.{doc_same}
use Rattle.seen_laws.proofs.Keyed.{find_on_same}
use Rattle.seen_laws.specs.InEvent.{now_of}
use Rattle.std.proofs.Common.{inl, inr, ◌⊎◌, Bool, List, None, Option, Some, [], ap, arith, cond, false, length, map, refl, subst, sym, take, true, ℕ, ◌++◌, ◌+◌, ◌==◌, ◌||◌, ◌∙◌, ◌∷◌, ◌≡◌, ◌≤◌}
use Rattle.std.proofs.lemmas.List.{take_all}
use Rattle.std.proofs.lemmas.List.Sums.{sum_by-cons}
use Rattle.std.proofs.lemmas.List.Sorted.{sum_by-IsPermutation}
use Rattle.std.specs.List.Sorted.{IsPermutation}
use Rattle.std.specs.List.{sum_by}
use Rattle.std.specs.Prelude.{find, if◌then◌else◌, option_and_then, option_map, slice_get}
use Rattle.tab_doors.proofs.Sights.{sight_of}
use Rattle.tab_doors.specs.Keeping.{Move}
use Rattle.tab_doors.specs.Look.{sight}
use Rattle.tab_doors.specs.Orders.{order_to}
use Rattle.tab_doors.specs.Ties.{AreListed, birth_of, nav_in}
use Rattle.tab_doors.specs.declared.birth.Birth.{Birth}
use Rattle.tab_doors.specs.declared.tables.Tables.{Tables}
use Rattle.tab_evicts.proofs.Hangings.{hangs_same}
use Rattle.tab_evicts.proofs.Quiets.{IsQuiet, gone_now, gone_other, gone_places, gone_seen}
use Rattle.tab_evicts.proofs.Theres.{there_lives}
use Rattle.tab_evicts.specs.Evicting.{InLetting, IsLetting, IsNotBelow, IsThereBelow, NoMoreBelow, NoneOfBelow, NoneThereBelow, below_in, hangs_in}
use Rattle.tab_ids.specs.declared.DocId.{DocId}
use Rattle.tab_ids.specs.declared.NavId.{NavId}
use Rattle.tab_ids.specs.declared.StateId.{StateId}
use Rattle.tab_passes.proofs.Lives.{has_state_in}
use Rattle.tab_passes.proofs.Stand.{depth_is}
use Rattle.tab_passes.specs.Causes.{MayCause}
use Rattle.tab_passes.specs.Leaving.{IsLeavingIn}
use Rattle.tab_passes.specs.Passing.{InPass}
use Rattle.log_model.specs.declared.job.Task.TheVariants as tasks
use Rattle.log_model.specs.declared.row_kind.RowKind.TheVariants as rows

-- ---- lists

abbrev one_if : Bool → ℕ
one_if b = cond b 1 0

no_sum : (doc : DocId) (docs : List DocId) → has_doc docs doc ≡ false → sum_by (λ (d : DocId). one_if (d.0 == doc.0)) docs ≡ 0
no_sum doc [] none = refl
no_sum doc (d ∷ docs) none = by_test (d.0 == doc.0) refl none (no_sum doc docs)
  where
    by_test : (b : Bool) → (d.0 == doc.0) ≡ b → (b || has_doc docs doc) ≡ false → (has_doc docs doc ≡ false → sum_by (λ (x : DocId). one_if (x.0 == doc.0)) docs ≡ 0) → sum_by (λ (x : DocId). one_if (x.0 == doc.0)) (d ∷ docs) ≡ 0
    by_test true is h more = absurd cc
    by_test false is h more = rw is (more h)

some_sum : (doc : DocId) (docs : List DocId) → Has docs doc → 1 ≤ sum_by (λ (d : DocId). one_if (d.0 == doc.0)) docs
some_sum doc [] there = absurd there
some_sum doc (d ∷ docs) (inl same) =
    let one : one_if (d.0 == doc.0) ≡ 1 = ap (λ (x : DocId). one_if (x.0 == doc.0)) same ∙ ap one_if (nat_eq_refl doc.0) in
    let all : sum_by (λ (x : DocId). one_if (x.0 == doc.0)) (d ∷ docs) ≡ one_if (d.0 == doc.0) + sum_by (λ (x : DocId). one_if (x.0 == doc.0)) docs = sum_by-cons (λ (x : DocId). one_if (x.0 == doc.0)) d docs in
    omega (arith, one, all)
some_sum doc (d ∷ docs) (inr more) =
    let low : 1 ≤ sum_by (λ (x : DocId). one_if (x.0 == doc.0)) docs = some_sum doc docs more in
    let all : sum_by (λ (x : DocId). one_if (x.0 == doc.0)) (d ∷ docs) ≡ one_if (d.0 == doc.0) + sum_by (λ (x : DocId). one_if (x.0 == doc.0)) docs = sum_by-cons (λ (x : DocId). one_if (x.0 == doc.0)) d docs in
    omega (arith, low, all)

-- a list in another order has the same
ordered_has : (docs other : List DocId) (doc : DocId) → IsPermutation docs other → Has docs doc → has_doc other doc ≡ true
ordered_has docs other doc order there = by_test (has_doc other doc) refl
  where
    by_test : (b : Bool) → has_doc other doc ≡ b → has_doc other doc ≡ true
    by_test true is = is
    by_test false is =
        let none : sum_by (λ (d : DocId). one_if (d.0 == doc.0)) other ≡ 0 = no_sum doc other is in
        let same : sum_by (λ (d : DocId). one_if (d.0 == doc.0)) other ≡ sum_by (λ (d : DocId). one_if (d.0 == doc.0)) docs = sum_by-IsPermutation (λ (d : DocId). one_if (d.0 == doc.0)) docs other order in
        let low : 1 ≤ sum_by (λ (d : DocId). one_if (d.0 == doc.0)) docs = some_sum doc docs there in
        absurd (omega (arith, none, same, low))

-- the first ones and the next
has_next : (docs : List DocId) (doc x : DocId) → has_doc (docs ++ doc ∷ []) x ≡ true → (has_doc docs x ≡ true) ⊎ (doc ≡ x)
has_next [] doc x has = by_test (doc.0 == x.0) refl has
  where
    by_test : (b : Bool) → (doc.0 == x.0) ≡ b → (b || false) ≡ true → (false ≡ true) ⊎ (doc ≡ x)
    by_test true same h = inr (doc_same doc x same)
    by_test false same h = absurd cc
has_next (d ∷ docs) doc x has = by_test (d.0 == x.0) has (has_next docs doc x)
  where
    by_test : (b : Bool) → (b || has_doc (docs ++ doc ∷ []) x) ≡ true → (has_doc (docs ++ doc ∷ []) x ≡ true → (has_doc docs x ≡ true) ⊎ (doc ≡ x)) → ((b || has_doc docs x) ≡ true) ⊎ (doc ≡ x)
    by_test true h more = inl refl
    by_test false h more = more h

-- ---- one after the other

pub no_more_none : (gone : StateId) (s : Seen) → NoMoreBelow gone s s
no_more_none gone s doc there = there

pub no_more_then : (gone : StateId) (s t u : Seen) → NoMoreBelow gone s t → NoMoreBelow gone t u → NoMoreBelow gone s u
no_more_then gone s t u one two doc there = one doc (two doc there)

pub none_of_first : (docs : List DocId) (s : Seen) (gone : StateId) → NoneOfBelow (take 0 docs) s gone
none_of_first docs s gone doc has = absurd cc

pub none_of_next : (docs : List DocId) (i : ℕ) (doc : DocId) (s t : Seen) (gone : StateId) → slice_get docs i ≡ Some doc → NoneOfBelow (take i docs) s gone → NoMoreBelow gone s t → IsNotBelow t gone doc → NoneOfBelow (take (i + 1) docs) t gone
none_of_next docs i doc s t gone at first fewer own x has there =
    by_place (has_next (take i docs) doc x (ap (λ (l : List DocId). has_doc l x) (sym (take-slice_get docs i doc at)) ∙ has))
  where
    by_place : (has_doc (take i docs) x ≡ true) ⊎ (doc ≡ x) → ⊥
    by_place (inl early) = first x early (fewer x there)
    by_place (inr same) = own (subst (λ (d : DocId). IsThereBelow t gone d) (sym same) there)

pub none_of_all : (docs : List DocId) (i : ℕ) (s : Seen) (gone : StateId) → length docs ≤ i → NoneOfBelow (take i docs) s gone → NoneOfBelow docs s gone
none_of_all docs i s gone past first = subst (λ (l : List DocId). NoneOfBelow l s gone) (take_all i docs past) first

-- ---- what is there below, by the tables

module _ (l : InLetting) (gone : StateId) (why : Why) (out : List RowKind) (t : Tables) (so : IsLetting l gone why out t) (doc : DocId) (it : IsThereBelow (now_of l.pass.event out) gone doc) where
  abbrev s : Seen
  s = now_of l.pass.event out

  -- the tables have it
  pub below_known : below_in t gone doc ≡ None → ⊥
  below_known none = has_state_in (map sight s.documents) t so.leaving.work.holds.documents doc (sight it.document) (sight_of s doc it.document it.found) it.document.state (there_lives s gone doc it) (sym is ∙ none)
    where
      nav_is : nav_in t.whose.entries doc ≡ Some it.document.nav
      nav_is =
          ap (λ (o : Option Birth). option_map (λ (b : Birth). b.nav) o) (so.leaving.work.holds.whose doc ∙ ap (λ o. option_map birth_of o) (sight_of s doc it.document it.found))

      hangs : hangs_in t.tree gone it.document.nav ≡ true
      hangs =
          hangs_same s t.running t so.leaving.work.holds.navs so.were.owned gone it.document.nav it.place so.leaving.going.tab.sound so.leaving.going.tab.hangs it.placed (depth_is s t.running t so.leaving.work.holds so.leaving.going.tab.sound so.leaving.going.tab.hangs it.document.nav it.place it.placed)
          ∙ it.below

      is : below_in t gone doc ≡ state_of doc t.tree
      is =
          ap (λ (o : Option NavId). option_and_then (λ (nav : NavId). if hangs_in t.tree gone nav then state_of doc t.tree else None) o) nav_is
          ∙ ap (λ (b : Bool). let o : Option StateId = if b then state_of doc t.tree else None in o) hangs

-- ---- one is discarded

module _ {sweeps : Bool} (p : InPass) (move : Option Move) (out : List RowKind) (t : Tables) (leaving : IsLeavingIn sweeps p move [] out t) (why : Why) (may : MayCause (now_of p.event out) why) (doc : DocId) (state : StateId) (its : IsQuiet (now_of p.event out) t doc state) (gone : StateId) where
  abbrev before : Seen
  before = now_of p.event out

  abbrev then_ : Seen
  then_ = gone_seen p move out t leaving why may doc state its

  discarded : document_of then_ doc ≡ Some (record its.document { is_discarded = true })
  discarded =
      find_on_same (λ (y : Document). y.nr.0) (λ (y : Document). record y { is_discarded = true }) doc.0 before.documents (λ y. refl)
      ∙ ap (λ (o : Option Document). option_map (λ (y : Document). record y { is_discarded = true }) o) its.found

  own_gone : IsNotBelow then_ gone doc
  own_gone it =
      let both : Some it.document ≡ Some (record its.document { is_discarded = true }) = sym it.found ∙ discarded in
      let same : it.document ≡ record its.document { is_discarded = true } = cc in
      let never : false ≡ true = sym it.undiscarded ∙ ap (λ (d : Document). d.is_discarded) same in
      cc

  no_more : NoMoreBelow gone before then_
  no_more x it = by_test (doc.0 == x.0) refl
    where
      by_test : (b : Bool) → (doc.0 == x.0) ≡ b → IsThereBelow before gone x
      by_test true same = absurd (own_gone (subst (λ (y : DocId). IsThereBelow then_ gone y) (sym (doc_same doc x same)) it))
      by_test false apart =
          record {
            document = it.document;
            found = sym (gone_other p move out t leaving why may doc state its x apart) ∙ it.found;
            ready = it.ready;
            undiscarded = it.undiscarded;
            unknown = it.unknown;
            place = it.place;
            placed = ap (λ (l : List Place). place_in l it.document.nav) (sym (gone_places p move out t leaving why may doc state its)) ∙ it.placed;
            below = it.below;
          }

  module _ (new : List RowKind) (u : Tables) (is : new ≡ out ++ rows.Sent (order_to before doc why tasks.Discard) ∷ []) where
    pub not_below : IsNotBelow (now_of p.event new) gone doc
    not_below = subst (λ (x : Seen). IsNotBelow x gone doc) (gone_now p move out t leaving why may doc state its new u is) own_gone

    pub fewer_below : NoMoreBelow gone before (now_of p.event new)
    fewer_below = subst (λ (x : Seen). NoMoreBelow gone before x) (gone_now p move out t leaving why may doc state its new u is) no_more

-- ---- in the end

-- what is there is listed
pub there_listed : (s : Seen) (t : Tables) → AreListed (map sight s.documents) t.tree t.making.entries → (gone : StateId) (doc : DocId) → IsThereBelow s gone doc → Has (docs_of t.tree) doc
there_listed s t listed gone doc it = by_state (state_of doc t.tree) refl
  where
    by_place : (o : Option (StateId × live_place.Place)) → find (is_placed doc) t.tree.places ≡ o → (x : StateId) → option_map (λ (e : StateId × live_place.Place). e.0) o ≡ Some x → Has (docs_of t.tree) doc
    by_place None at x is = absurd cc
    by_place (Some e) at x is =
        let its = find_has (is_placed doc) t.tree.places e at in
        subst (λ (d : DocId). Has (docs_of t.tree) d) (doc_same e.1.doc doc its.1) (into_map (λ (y : StateId × live_place.Place). y.1.doc) t.tree.places e its.0)

    by_state : (o : Option StateId) → state_of doc t.tree ≡ o → Has (docs_of t.tree) doc
    by_state None none = absurd (has_state_in (map sight s.documents) t listed doc (sight it.document) (sight_of s doc it.document it.found) it.document.state (there_lives s gone doc it) none)
    by_state (Some x) is = by_place (find (is_placed doc) t.tree.places) refl x is

-- each that was there is among those that were listed
pub none_there : (l : InLetting) (gone : StateId) (why : Why) (out : List RowKind) (t : Tables) → IsLetting l gone why out t → (was last : Seen) (docs : List DocId) (tree : Tree) → ((doc : DocId) → IsThereBelow was gone doc → Has (docs_of tree) doc) → IsPermutation (docs_of tree) docs → NoMoreBelow gone was (now_of l.pass.event out) → NoMoreBelow gone (now_of l.pass.event out) last → NoneOfBelow docs last gone → NoneThereBelow last gone
none_there l gone why out t so was last docs tree listed order first then_ none doc it =
    none doc (ordered_has (docs_of tree) docs doc order (listed doc (first doc (then_ doc it)))) it
