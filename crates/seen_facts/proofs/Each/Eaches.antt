-- A fact of each item of a list, and the numbers and entries of what was made.
use Rattle.std.proofs.Common.{◌≡◌, ℕ, ◌≤◌, List, [], ◌∷◌, ◌++◌, drop, Some, subst, arith}
use Rattle.std.specs.Prelude.{map, fold, slice_get}
use Rattle.tab_ids.specs.declared.EntryId.{EntryId}
use Rattle.log_model.specs.declared.made.Made.{Made}
use Rattle.log_model.specs.declared.made.What.{What}
use Rattle.log_model.specs.declared.made.What.TheVariants as whats
use Rattle.seen_facts.specs.Each.Items.{Each}
use Rattle.seen_facts.specs.Each.Mades.{number_after, IsNext, Ascend, entry_after, IsOver, Continues}

pub each_more : {A : Type 0} (F : A → Type 0) (xs : List A) (x : A) → Each F xs → F x → Each F (xs ++ x ∷ [])
each_more F [] x all one = (one, tt)
each_more F (y ∷ xs) x (first, all) one = (first, each_more F xs x all one)

pub each_less : {A : Type 0} (F : A → Type 0) (xs : List A) → Each F xs → Each F (drop 1 xs)
each_less F [] all = all
each_less F (x ∷ xs) (one, all) = all

pub each_first : {A : Type 0} (F : A → Type 0) (xs : List A) (x : A) → slice_get xs 0 ≡ Some x → Each F xs → F x
each_first F [] x first all = cc
each_first F (y ∷ xs) x first (one, all) = let same : y ≡ x = cc in subst F same one

pub each_on : {A : Type 0} (F G : A → Type 0) (xs : List A) → ((x : A) → F x → G x) → Each F xs → Each G xs
each_on F G [] on all = all
each_on F G (x ∷ xs) on (one, all) = (on x one, each_on F G xs on all)

pub each_map : {A B : Type 0} (F : A → Type 0) (G : B → Type 0) (g : A → B) (xs : List A) → ((x : A) → F x → G (g x)) → Each F xs → Each G (map g xs)
each_map F G g [] on all = all
each_map F G g (x ∷ xs) on (one, all) = (on x one, each_map F G g xs on all)

-- ---- numbers

next_lower : (low from : ℕ) (what : What) → low ≤ from → IsNext from what → IsNext low what
next_lower low from (whats.Push entry memo address) less next = omega (arith, less, next)
next_lower low from (whats.Replace over entry memo address) less next = omega (arith, less, next)
next_lower low from (whats.AddFrame nav) less next = tt
next_lower low from (whats.RemoveFrame nav) less next = tt
next_lower low from (whats.Go delta) less next = tt
next_lower low from whats.Edit less next = tt

after_lower : (low from : ℕ) (what : What) → low ≤ from → number_after low what ≤ number_after from what
after_lower low from (whats.Push entry memo address) less = omega arith
after_lower low from (whats.Replace over entry memo address) less = omega arith
after_lower low from (whats.AddFrame nav) less = less
after_lower low from (whats.RemoveFrame nav) less = less
after_lower low from (whats.Go delta) less = less
after_lower low from whats.Edit less = less

pub after_next : (from : ℕ) (what : What) → IsNext from what → from ≤ number_after from what
after_next from (whats.Push entry memo address) next = omega (arith, next)
after_next from (whats.Replace over entry memo address) next = omega (arith, next)
after_next from (whats.AddFrame nav) next = omega arith
after_next from (whats.RemoveFrame nav) next = omega arith
after_next from (whats.Go delta) next = omega arith
after_next from whats.Edit next = omega arith

-- they rise from a lower number, too
pub ascend_lower : (low from to : ℕ) (mades : List Made) → low ≤ from → Ascend from mades to → Ascend low mades to
ascend_lower low from to [] less all = omega (arith, less, all)
ascend_lower low from to (made ∷ mades) less (next, all) =
    (next_lower low from made.what less next, ascend_lower (number_after low made.what) (number_after from made.what) to mades (after_lower low from made.what less) all)

-- one more, and one less
pub ascend_more : (from to : ℕ) (mades : List Made) (made : Made) → Ascend from mades to → IsNext to made.what → Ascend from (mades ++ made ∷ []) (number_after to made.what)
ascend_more from to [] made all next =
    (next_lower from to made.what all next, after_lower from to made.what all)
ascend_more from to (first ∷ mades) made (one, all) next =
    (one, ascend_more (number_after from first.what) to mades made all next)

pub ascend_less : (from to : ℕ) (made : Made) (mades : List Made) → Ascend from (made ∷ mades) to → Ascend from mades to
ascend_less from to made mades (next, all) =
    ascend_lower from (number_after from made.what) to mades (after_next from made.what next) all

-- ---- entries

-- one more
pub continues_more : (entry : EntryId) (mades : List Made) (made : Made) → Continues entry mades → IsOver (fold (λ (e : EntryId) (m : Made). entry_after e m.what) entry mades) made.what → Continues entry (mades ++ made ∷ [])
continues_more entry [] made all over = (over, tt)
continues_more entry (first ∷ mades) made (one, all) over =
    (one, continues_more (entry_after entry first.what) mades made all over)
