-- Navigables put under the numbers of their loads' requests: each under its own, in their order.
use Rattle.seen_facts.proofs.Hang.Forms.{nav_is}
use Rattle.seen_facts.proofs.Hang.Members.{has_more, slice_has}
use Rattle.seen_facts.specs.Hang.Members.{Has}
use Rattle.load_table.specs.Loads.{ongoing_load}
use Rattle.load_table.specs.declared.load.Load.{Load}
use Rattle.nav_tree.proofs.Lists.{take-slice_get}
use Rattle.nav_tree.specs.Tree.{Tree, is_nav, node_of}
use Rattle.nav_tree.specs.declared.node.Node.{Node}
use Rattle.apply_plan.specs.Order.{made_in}
use Rattle.seen_facts.proofs.Rest.Stands.{get_of}
use Rattle.std.proofs.Common.{Bool, List, None, Option, Some, [], ap, arith, cond, false, inl, inr, length, map, refl, subst, suc, sym, take, true, zero, ℕ, ◌++◌, ◌+◌, ◌<◌, ◌==◌, ◌∙◌, ◌∷◌, ◌≡◌, ◌≤◌, ◌⊎◌}
use Rattle.std.proofs.lemmas.Bool.Decides.{nat_tests}
use Rattle.std.proofs.lemmas.List.{take_all}
use Rattle.std.proofs.lemmas.Map.Keys.{sorted_head, sorted_tail}
use Rattle.std.proofs.lemmas.Map.Lookups.{exact_unsigned}
use Rattle.std.specs.BTreeMap.{insert_entry}
use Rattle.std.specs.List.Sorted.{IsStrictlySortedBy}
use Rattle.std.specs.List.{AllByRecursion}
use Rattle.std.specs.Map.{lookup}
use Rattle.std.specs.Ordering.{match_ordering, nat_cmp}
use Rattle.std.specs.Prelude.{nat_lt, option_map, slice_get}
use Rattle.std.specs.Option.{option_map_or}
use Rattle.std.specs.declared.cmp.Ordering.TheVariants.{Equal, Greater, Less}
use Rattle.std.specs.declared.cmp.Ordering.{Ordering}
use Rattle.tab_drops.specs.Listing.{AreListed, AreOwn, AreUnder, IsUnder, with_load}
use Rattle.tab_ids.specs.declared.NavId.{NavId}

-- ---- one more under its number

put_has : (es : List (ℕ × NavId)) (k : ℕ) (nav : NavId) (e : ℕ × NavId) → Has (insert_entry nat_cmp es k nav) e → ((k, nav) ≡ e) ⊎ Has es e
put_has [] k nav e (inl same) = inl same
put_has [] k nav e (inr never) = absurd never
put_has (x ∷ es) k nav e there = by_order (nat_cmp k x.0) refl there (put_has es k nav e)
  where
    by_order : (o : Ordering) → nat_cmp k x.0 ≡ o → Has (match_ordering o ((k, nav) ∷ x ∷ es) ((x.0, nav) ∷ es) (x ∷ insert_entry nat_cmp es k nav)) e → (Has (insert_entry nat_cmp es k nav) e → ((k, nav) ≡ e) ⊎ Has es e) → ((k, nav) ≡ e) ⊎ Has (x ∷ es) e
    by_order Less is (inl same) rest = inl same
    by_order Less is (inr more) rest = inr more
    by_order Equal is (inl same) rest = inl (ap (λ (n : ℕ). let p : ℕ × NavId = (n, nav) in p) (exact_unsigned k x.0 is) ∙ same)
    by_order Equal is (inr more) rest = inr (inr more)
    by_order Greater is (inl same) rest = inr (inl same)
    by_order Greater is (inr more) rest = later (rest more)
      where
        later : ((k, nav) ≡ e) ⊎ Has es e → ((k, nav) ≡ e) ⊎ Has (x ∷ es) e
        later (inl own) = inl own
        later (inr old) = inr (inr old)

put_own : (es : List (ℕ × NavId)) (k : ℕ) (nav : NavId) → Has (insert_entry nat_cmp es k nav) (k, nav)
put_own [] k nav = inl refl
put_own (x ∷ es) k nav = by_order (nat_cmp k x.0) refl (put_own es k nav)
  where
    by_order : (o : Ordering) → nat_cmp k x.0 ≡ o → Has (insert_entry nat_cmp es k nav) (k, nav) → Has (match_ordering o ((k, nav) ∷ x ∷ es) ((x.0, nav) ∷ es) (x ∷ insert_entry nat_cmp es k nav)) (k, nav)
    by_order Less is more = inl refl
    by_order Equal is more = inl (ap (λ (n : ℕ). let p : ℕ × NavId = (n, nav) in p) (sym (exact_unsigned k x.0 is)))
    by_order Greater is more = inr more

-- those that are there stay, where what is under the number is the same
put_keeps : (es : List (ℕ × NavId)) (k : ℕ) (nav : NavId) (e : ℕ × NavId) → (e.0 ≡ k → e.1 ≡ nav) → Has es e → Has (insert_entry nat_cmp es k nav) e
put_keeps [] k nav e same there = absurd there
put_keeps (x ∷ es) k nav e same there = by_order (nat_cmp k x.0) refl there (put_keeps es k nav e same)
  where
    by_order : (o : Ordering) → nat_cmp k x.0 ≡ o → (x ≡ e) ⊎ Has es e → (Has es e → Has (insert_entry nat_cmp es k nav) e) → Has (match_ordering o ((k, nav) ∷ x ∷ es) ((x.0, nav) ∷ es) (x ∷ insert_entry nat_cmp es k nav)) e
    by_order Less is old more = inr old
    by_order Equal is (inl own) more =
        let number : x.0 ≡ k = sym (exact_unsigned k x.0 is) in
        let its : e.1 ≡ nav = same (ap (λ (p : ℕ × NavId). p.0) (sym own) ∙ number) in
        inl (ap (λ (n : NavId). let p : ℕ × NavId = (x.0, n) in p) (sym its ∙ ap (λ (p : ℕ × NavId). p.1) (sym own)) ∙ own)
    by_order Equal is (inr old) more = inr old
    by_order Greater is (inl own) more = inl own
    by_order Greater is (inr old) more = inr (more old)

-- ---- from navigable to navigable

pub under_none : (loads : List Load) (navs : List NavId) (entries : List (ℕ × NavId)) → entries ≡ [] → AreUnder loads (take 0 navs) entries
under_none loads navs entries is =
    record {
      each = λ e there. absurd (subst (λ (l : List (ℕ × NavId)). Has l e) is there);
      all = λ nav load there at. absurd there;
    }

module _ (loads : List Load) (own : AreOwn loads) (navs : List NavId) (i : ℕ) (nav : NavId) (old : List (ℕ × NavId)) (here : slice_get navs i ≡ Some nav) (are : AreUnder loads (take i navs) old) where
  next_is : take (i + 1) navs ≡ take i navs ++ nav ∷ []
  next_is = take-slice_get navs i nav here

  -- it has a load
  put_under : (load : Load) → ongoing_load nav loads ≡ Some load → AreUnder loads (take (i + 1) navs) (insert_entry nat_cmp old load.req.0 nav)
  put_under load at =
      record {
        each = λ e there. by_place e (put_has old load.req.0 nav e there);
        all = λ other l there its. by_nav other l its (has_more (take i navs) nav other (subst (λ (x : List NavId). Has x other) next_is there));
      }
    where
      by_place : (e : ℕ × NavId) → ((load.req.0, nav) ≡ e) ⊎ Has old e → IsUnder loads e.0 e.1
      by_place e (inl same) = subst (λ (x : ℕ × NavId). IsUnder loads x.0 x.1) same (record { load = load; at = at; number_is = refl })
      by_place e (inr there) = are.each e there

      by_nav : (other : NavId) (l : Load) → ongoing_load other loads ≡ Some l → Has (take i navs) other ⊎ (nav ≡ other) → Has (insert_entry nat_cmp old load.req.0 nav) (l.req.0, other)
      by_nav other l its (inl early) = put_keeps old load.req.0 nav (l.req.0, other) (λ number. own other nav l load its at number) (are.all other l early its)
      by_nav other l its (inr same) =
          let both : Some load ≡ Some l = sym at ∙ ap (λ (n : NavId). ongoing_load n loads) same ∙ its in
          let one : load ≡ l = cc in
          subst (λ (x : Load). Has (insert_entry nat_cmp old load.req.0 nav) (x.req.0, other)) one (subst (λ (n : NavId). Has (insert_entry nat_cmp old load.req.0 nav) (load.req.0, n)) same (put_own old load.req.0 nav))

  -- it has none
  keep_under : ongoing_load nav loads ≡ None → AreUnder loads (take (i + 1) navs) old
  keep_under none =
      record {
        each = are.each;
        all = λ other l there its. by_nav other l its (has_more (take i navs) nav other (subst (λ (x : List NavId). Has x other) next_is there));
      }
    where
      by_nav : (other : NavId) (l : Load) → ongoing_load other loads ≡ Some l → Has (take i navs) other ⊎ (nav ≡ other) → Has old (l.req.0, other)
      by_nav other l its (inl early) = are.all other l early its
      by_nav other l its (inr same) =
          let never : None ≡ Some l = sym none ∙ ap (λ (n : NavId). ongoing_load n loads) same ∙ its in absurd cc

  pub under_next : (new : List (ℕ × NavId)) → new ≡ with_load loads old nav → AreUnder loads (take (i + 1) navs) new
  under_next new is = subst (λ (l : List (ℕ × NavId)). AreUnder loads (take (i + 1) navs) l) (sym is) (by_load (ongoing_load nav loads) refl)
    where
      by_load : (o : Option Load) → ongoing_load nav loads ≡ o → AreUnder loads (take (i + 1) navs) (option_map_or (λ (load : Load). insert_entry nat_cmp old load.req.0 nav) o old)
      by_load None at = keep_under at
      by_load (Some load) at = put_under load at

pub under_all : (loads : List Load) (navs : List NavId) (i : ℕ) (entries : List (ℕ × NavId)) → length navs ≤ i → AreUnder loads (take i navs) entries → AreUnder loads navs entries
under_all loads navs i entries past are = subst (λ (l : List NavId). AreUnder loads l entries) (take_all i navs past) are

-- ---- places in a list

mapped_get : {A B : Type 0} (f : A → B) (xs : List A) (i : ℕ) → slice_get (map f xs) i ≡ option_map f (slice_get xs i)
mapped_get f [] i = refl
mapped_get f (x ∷ xs) zero = refl
mapped_get f (x ∷ xs) (suc i) = mapped_get f xs i

-- the navigable made at a place
pub made_get : (tree : Tree) (i : ℕ) (nav : NavId) → option_map (λ (e : NavId × Node). e.0) (slice_get tree.navs i) ≡ Some nav → slice_get (made_in tree) i ≡ Some nav
made_get tree i nav at = mapped_get (λ (e : NavId × Node). e.0) tree.navs i ∙ at

-- the entry at a place of the values
record IsEntryAt (entries : List (ℕ × NavId)) (i : ℕ) (nav : NavId) : Type 0 where
  e : ℕ × NavId
  at : slice_get entries i ≡ Some e
  nav_is : e.1 ≡ nav

entry_at : (entries : List (ℕ × NavId)) (i : ℕ) (nav : NavId) → slice_get (map (λ (e : ℕ × NavId). e.1) entries) i ≡ Some nav → IsEntryAt entries i nav
entry_at entries i nav is = by_found (slice_get entries i) refl (sym (mapped_get (λ (e : ℕ × NavId). e.1) entries i) ∙ is)
  where
    by_found : (o : Option (ℕ × NavId)) → slice_get entries i ≡ o → option_map (λ (e : ℕ × NavId). e.1) o ≡ Some nav → IsEntryAt entries i nav
    by_found None at h = absurd cc
    by_found (Some e) at h = record { e = e; at = at; nav_is = cc }

-- numbers that ascend
less_of : (x y : ℕ) → nat_cmp x y ≡ Less → x < y
less_of x y is = by_tests (nat_lt x y) (x == y) refl is
  where
    by_tests : (b c : Bool) → nat_lt x y ≡ b → cond b Less (cond c Equal Greater) ≡ Less → x < y
    by_tests true c less h = grind (arith, nat_tests, less)
    by_tests false true less h = absurd cc
    by_tests false false less h = absurd cc

all_at : (P : ℕ → Type 0) (entries : List (ℕ × NavId)) (i : ℕ) (e : ℕ × NavId) → AllByRecursion P (map (λ (x : ℕ × NavId). x.0) entries) → slice_get entries i ≡ Some e → P e.0
all_at P [] i e all at = absurd cc
all_at P (x ∷ entries) zero e all at = let same : x ≡ e = cc in subst (λ (y : ℕ × NavId). P y.0) same all.0
all_at P (x ∷ entries) (suc i) e all at = all_at P entries i e all.1 at

ascend : (entries : List (ℕ × NavId)) (i j : ℕ) (a b : ℕ × NavId) → IsStrictlySortedBy nat_cmp (map (λ (x : ℕ × NavId). x.0) entries) → i < j → slice_get entries i ≡ Some a → slice_get entries j ≡ Some b → a.0 < b.0
ascend [] i j a b sorted low at there = absurd cc
ascend (x ∷ entries) zero zero a b sorted low at there = absurd (omega (arith, low))
ascend (x ∷ entries) zero (suc j) a b sorted low at there =
    let same : x ≡ a = cc in
    let less : nat_cmp x.0 b.0 ≡ Less = all_at (λ (y : ℕ). nat_cmp x.0 y ≡ Less) entries j b (sorted_head nat_cmp x.0 (map (λ (y : ℕ × NavId). y.0) entries) sorted) there in
    subst (λ (y : ℕ × NavId). y.0 < b.0) same (less_of x.0 b.0 less)
ascend (x ∷ entries) (suc i) zero a b sorted low at there = absurd (omega (arith, low))
ascend (x ∷ entries) (suc i) (suc j) a b sorted low at there =
    ascend entries i j a b (sorted_tail nat_cmp x.0 (map (λ (y : ℕ × NavId). y.0) entries) sorted) (omega (arith, low)) at there

-- ---- the list

-- who has a node is in the tree
pub lookup_has : (es : List (NavId × Node)) (nav : NavId) (node : Node) → lookup (is_nav nav) es ≡ Some node → Has (map (λ (e : NavId × Node). e.0) es) nav
lookup_has [] nav node is = absurd cc
lookup_has (e ∷ es) nav node is = by_test (is_nav nav e.0) refl is (lookup_has es nav node)
  where
    by_test : (b : Bool) → is_nav nav e.0 ≡ b → cond b (Some e.1) (lookup (is_nav nav) es) ≡ Some node → (lookup (is_nav nav) es ≡ Some node → Has (map (λ (x : NavId × Node). x.0) es) nav) → (e.0 ≡ nav) ⊎ Has (map (λ (x : NavId × Node). x.0) es) nav
    by_test true same h more = inl (sym (nav_is nav e.0 same))
    by_test false apart h more = inr (more h)

pub listed_in : (tree : Tree) (loads : List Load) (entries : List (ℕ × NavId)) (navs : List NavId) → AreUnder loads (made_in tree) entries → IsStrictlySortedBy nat_cmp (map (λ (e : ℕ × NavId). e.0) entries) → navs ≡ map (λ (e : ℕ × NavId). e.1) entries → AreListed tree loads navs
listed_in tree loads entries navs under sorted is =
    subst (λ (l : List NavId). AreListed tree loads l) (sym is) (record { order = order; all = all })
  where
    number_of : (e : ℕ × NavId) (nav : NavId) (load : Load) → Has entries e → e.1 ≡ nav → ongoing_load nav loads ≡ Some load → load.req.0 ≡ e.0
    number_of e nav load there own at =
        let its = under.each e there in
        let both : Some its.load ≡ Some load = sym its.at ∙ ap (λ (n : NavId). ongoing_load n loads) own ∙ at in
        let one : its.load ≡ load = cc in
        ap (λ (l : Load). l.req.0) (sym one) ∙ its.number_is

    order : (i j : ℕ) (nav other : NavId) (l m : Load) → i < j → slice_get (map (λ (e : ℕ × NavId). e.1) entries) i ≡ Some nav → slice_get (map (λ (e : ℕ × NavId). e.1) entries) j ≡ Some other → ongoing_load nav loads ≡ Some l → ongoing_load other loads ≡ Some m → l.req.0 < m.req.0
    order i j nav other l m low here there at at_other =
        let a = entry_at entries i nav here in
        let b = entry_at entries j other there in
        let one : l.req.0 ≡ a.e.0 = number_of a.e nav l (slice_has entries i a.e a.at) a.nav_is at in
        let two : m.req.0 ≡ b.e.0 = number_of b.e other m (slice_has entries j b.e b.at) b.nav_is at_other in
        let less : a.e.0 < b.e.0 = ascend entries i j a.e b.e sorted low a.at b.at in
        omega (arith, one, two, less)

    all : (nav : NavId) (node : Node) (load : Load) → node_of nav tree ≡ Some node → ongoing_load nav loads ≡ Some load → (k : ℕ) × (slice_get (map (λ (e : ℕ × NavId). e.1) entries) k ≡ Some nav)
    all nav node load at its =
        let there : Has entries (load.req.0, nav) = under.all nav load (lookup_has tree.navs nav node at) its in
        let got = get_of entries (load.req.0, nav) there in
        (got.0, mapped_get (λ (e : ℕ × NavId). e.1) entries got.0 ∙ ap (λ (o : Option (ℕ × NavId)). option_map (λ (e : ℕ × NavId). e.1) o) got.1)
