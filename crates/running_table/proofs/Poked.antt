-- Whom a poke of a navigable reaches is the newest of those that run in it.
use Rattle.std.proofs.Common.{◌≡◌, ℕ, ◌+◌, ◌≤◌, ◌<◌, Bool, true, false, cond, ◌&&◌, ◌||◌, ◌==◌, nat_lt, List, [], ◌∷◌, fold, map, Option, Some, None, refl, sym, ap, ◌∙◌, subst, arith}
use Rattle.std.specs.Prelude.{filter, option_and_then, option_map, if◌then◌else◌}
use Rattle.std.specs.Option.{option_map_or}
use Rattle.std.proofs.lemmas.Bool.{and_parts}
use Rattle.std.proofs.lemmas.Bool.Decides.{nat_tests}
use Rattle.tab_ids.specs.declared.DocId.{DocId}
use Rattle.tab_ids.specs.declared.Epoch.{Epoch}
use Rattle.tab_ids.specs.declared.NavId.{NavId}
use Rattle.log_model.specs.Equal.{holds}
use Rattle.log_model.specs.Formed.{newer, poked_document, running_documents}
use Rattle.log_model.specs.Seen.{Seen, Document}
use Rattle.log_model.specs.Views.{View}
use Rattle.running_table.specs.Picking.{is_newer, newer_runner}
use Rattle.running_table.specs.Runners.{AreOnce, epoch_of, IsNewest, IsNewestOf, runners_in, RunnersState}
use Rattle.running_table.specs.Telling.{AreInOrder, AreRunners, AscendFrom, found, running_under}
use Rattle.running_table.proofs.Newest.{newest_picked, newest_same}

-- the epoch of a view, or 0
abbrev pub epoch_shown : Option View → Epoch
epoch_shown view = option_map_or (λ (v : View). v.epoch) view (record { 0 = 0 })

-- a document with the epoch of its view
abbrev pub as_runner : Document → DocId × Epoch
as_runner d = (d.nr, epoch_shown d.view)

abbrev pub is_running_in : NavId → Document → Bool
is_running_in nav d = d.nav.0 == nav.0 && holds (λ (v : View). v.running) d.view

-- those of these documents that run in a navigable
abbrev pub runners_of : NavId → List Document → List (DocId × Epoch)
runners_of nav documents = map as_runner (filter (is_running_in nav) documents)

-- ---- numbers that ascend

pub ascend_less : (least more : ℕ) (documents : List Document) → least ≤ more → AscendFrom more documents → AscendFrom least documents
ascend_less least more [] within order = tt
ascend_less least more (d ∷ documents) within order = (omega (arith, within, order.0), order.1)

pub ascend_filter : (test : Document → Bool) (least : ℕ) (documents : List Document) → AscendFrom least documents → AscendFrom least (filter test documents)
ascend_filter test least [] order = tt
ascend_filter test least (d ∷ documents) order =
    by_test (test d) (ascend_filter test (d.nr.0 + 1) documents order.1)
  where
    by_test : (b : Bool) → AscendFrom (d.nr.0 + 1) (filter test documents) → AscendFrom least (cond b (d ∷ filter test documents) (filter test documents))
    by_test true rest = (order.0, rest)
    by_test false rest =
        ascend_less least (d.nr.0 + 1) (filter test documents) (omega (arith, order.0)) rest

-- none has a number below the least
none_below : (least : ℕ) (documents : List Document) (doc : DocId) → AscendFrom least documents → doc.0 < least → epoch_of (map as_runner documents) doc ≡ None
none_below least [] doc order below = refl
none_below least (d ∷ documents) doc order below =
    let apart : (doc.0 == d.nr.0) ≡ false = grind (arith, nat_tests, order.0, below) in
    rw apart (none_below (d.nr.0 + 1) documents doc order.1 (omega (arith, order.0, below)))

pub once_in : (least : ℕ) (documents : List Document) → AscendFrom least documents → AreOnce (map as_runner documents)
once_in least [] order = tt
once_in least (d ∷ documents) order =
    (none_below (d.nr.0 + 1) documents d.nr order.1 (omega arith), once_in (d.nr.0 + 1) documents order.1)

-- ---- who is found among the runners

under_running : (nav : NavId) (d : Document) → is_running_in nav d ≡ true → running_under nav d ≡ Some (epoch_shown d.view)
under_running nav d runs = rw runs (by_view d.view (and_parts (d.nav.0 == nav.0) (holds (λ (v : View). v.running) d.view) runs).1)
  where
    by_view : (view : Option View) → holds (λ (v : View). v.running) view ≡ true → option_map (λ (v : View). v.epoch) view ≡ Some (epoch_shown view)
    by_view None e = cc
    by_view (Some v) e = refl

under_stopped : (nav : NavId) (d : Document) → is_running_in nav d ≡ false → running_under nav d ≡ None
under_stopped nav d stopped = rw stopped refl

flipped : (a b : ℕ) → (a == b) ≡ (b == a)
flipped a b = grind (arith, nat_tests)

pub runner_found : (nav : NavId) (least : ℕ) (documents : List Document) (doc : DocId) → AscendFrom least documents → epoch_of (runners_of nav documents) doc ≡ option_and_then (running_under nav) (found documents doc)
runner_found nav least [] doc order = refl
runner_found nav least (d ∷ documents) doc order =
    by_test (is_running_in nav d) (d.nr.0 == doc.0) refl refl (runner_found nav (d.nr.0 + 1) documents doc order.1)
  where
    rest : List (DocId × Epoch)
    rest = runners_of nav documents

    by_test : (b c : Bool) → is_running_in nav d ≡ b → (d.nr.0 == doc.0) ≡ c → epoch_of (runners_of nav documents) doc ≡ option_and_then (running_under nav) (found documents doc) → epoch_of (map as_runner (cond b (d ∷ filter (is_running_in nav) documents) (filter (is_running_in nav) documents))) doc ≡ option_and_then (running_under nav) (cond c (Some d) (found documents doc))
    by_test true true e same more = rw (flipped doc.0 d.nr.0, same) (sym (under_running nav d e))
    by_test true false e same more = rw (flipped doc.0 d.nr.0, same) more
    by_test false true e same more =
        let lower : doc.0 < d.nr.0 + 1 = grind (arith, nat_tests, same) in
        none_below (d.nr.0 + 1) (filter (is_running_in nav) documents) doc (ascend_filter (is_running_in nav) (d.nr.0 + 1) documents order.1) lower
        ∙ sym (under_stopped nav d e)
    by_test false false e same more = more

-- ---- who is picked

-- the second shows a greater epoch
abbrev shows_newer : Document → Document → Bool
shows_newer best d =
    nat_lt (option_map_or (λ (v : View). v.epoch.0) best.view 0) (option_map_or (λ (v : View). v.epoch.0) d.view 0)

shown_number : (view : Option View) → (epoch_shown view).0 ≡ option_map_or (λ (v : View). v.epoch.0) view 0
shown_number None = refl
shown_number (Some v) = refl

-- which decides, where the second has the greater number
newer_same : (best d : Document) → best.nr.0 < d.nr.0 → is_newer (as_runner best) (as_runner d) ≡ shows_newer best d
newer_same best d after =
    let later : nat_lt d.nr.0 best.nr.0 ≡ false = grind (arith, nat_tests, after) in
    rw (later, shown_number best.view, shown_number d.view) (by_tests (shows_newer best d) (option_map_or (λ (v : View). v.epoch.0) best.view 0 == option_map_or (λ (v : View). v.epoch.0) d.view 0))
  where
    by_tests : (b c : Bool) → (b || (c && false)) ≡ b
    by_tests true c = refl
    by_tests false true = refl
    by_tests false false = refl

picked_same : (best : Document) (documents : List Document) → AscendFrom (best.nr.0 + 1) documents → option_map as_runner (fold newer (Some best) documents) ≡ fold newer_runner (Some (as_runner best)) (map as_runner documents)
picked_same best [] order = refl
picked_same best (d ∷ documents) order =
    let after : best.nr.0 < d.nr.0 = omega (arith, order.0) in
    by_test (shows_newer best d) refl (newer_same best d after) (picked_same d documents order.1) (picked_same best documents (ascend_less (best.nr.0 + 1) (d.nr.0 + 1) documents (omega (arith, after)) order.1))
  where
    by_test : (b : Bool) → shows_newer best d ≡ b → is_newer (as_runner best) (as_runner d) ≡ shows_newer best d
        → option_map as_runner (fold newer (Some d) documents) ≡ fold newer_runner (Some (as_runner d)) (map as_runner documents)
        → option_map as_runner (fold newer (Some best) documents) ≡ fold newer_runner (Some (as_runner best)) (map as_runner documents)
        → option_map as_runner (fold newer (if shows_newer best d then Some d else Some best) documents) ≡ fold newer_runner (if is_newer (as_runner best) (as_runner d) then Some (as_runner d) else Some (as_runner best)) (map as_runner documents)
    by_test true e same first second = rw (same, e) first
    by_test false e same first second = rw (same, e) second

picked_of : (least : ℕ) (documents : List Document) → AscendFrom least documents → option_map as_runner (fold newer None documents) ≡ fold newer_runner None (map as_runner documents)
picked_of least [] order = refl
picked_of least (d ∷ documents) order = picked_same d documents order.1

-- ---- the newest of the table is who is poked

number_of : (o : Option Document) → option_map (λ (e : DocId × Epoch). e.0) (option_map as_runner o) ≡ option_map (λ (d : Document). d.nr) o
number_of None = refl
number_of (Some d) = refl

pub newest_poked : (s : Seen) (t : RunnersState) (nav : NavId) (r : Option DocId) → AreRunners s t → AreInOrder s → IsNewest t nav r → r ≡ option_map (λ (d : Document). d.nr) (poked_document s nav)
newest_poked s t nav r are order newest =
    newest_same (runners_in t.running nav) (runners_of nav s.documents) r (option_map (λ (d : Document). d.nr) (poked_document s nav)) same newest poked
  where
    running : AscendFrom 0 (running_documents s nav)
    running = ascend_filter (is_running_in nav) 0 s.documents order

    same : (doc : DocId) → epoch_of (runners_in t.running nav) doc ≡ epoch_of (runners_of nav s.documents) doc
    same doc = are.runs nav doc ∙ sym (runner_found nav 0 s.documents doc order)

    poked : IsNewestOf (runners_of nav s.documents) (option_map (λ (d : Document). d.nr) (poked_document s nav))
    poked =
        subst (λ (o : Option DocId). IsNewestOf (runners_of nav s.documents) o) (ap (option_map (λ (e : DocId × Epoch). e.0)) (sym (picked_of 0 (running_documents s nav) running)) ∙ number_of (poked_document s nav)) (newest_picked (runners_of nav s.documents) (once_in 0 (running_documents s nav) running))
