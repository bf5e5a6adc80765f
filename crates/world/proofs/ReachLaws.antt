-- Whom a poke of a navigable reaches: of the documents that run in it, the one under the greatest epoch.
use Rattle.log_model.specs.Equal.{holds}
use Rattle.std.proofs.Common.{◌≡◌, Bool, true, false, ◌==◌, List, [], ◌∷◌, Option, Some, None, refl, sym, ap, ◌∙◌, subst, ◌⊎◌, inl, inr, ◌&&◌, cond, eqb-true, ℕ}
use Rattle.std.specs.Prelude.{fold, option_map, nat_lt}
use Rattle.coord.specs.declared.coordinator.Coordinator.{Coordinator}
use Rattle.log_model.specs.declared.outcome.Denial.TheVariants as denials
use Rattle.log_model.specs.Causes.{denial_of_poke}
use Rattle.log_model.specs.Formed.{newer, poked_document, running_documents}
use Rattle.log_model.specs.History.{has_row}
use Rattle.log_model.specs.Seen.{Seen, Document, document_of}
use Rattle.running_table.proofs.ForCallers.{newest_told}
use Rattle.running_table.specs.Runners.{IsNewest, RunnersState}
use Rattle.tab_ids.specs.declared.DocId.{DocId}
use Rattle.tab_ids.specs.declared.NavId.{NavId}
use Rattle.world.specs.Reaching.{AreOf, Reaches}
use Rattle.seen_facts.specs.Hang.Members.{Has}
use Rattle.log_model.specs.Views.{View}
use Rattle.seen_facts.proofs.Hang.Members.{has_filter}
use Rattle.seen_facts.proofs.Rest.Still.{found_itself}
use Rattle.seen_facts.proofs.Entry.Stays.{some_same}
use Rattle.std.proofs.lemmas.Bool.{and_parts}
use Rattle.std.specs.Option.{option_map_or}

-- ---- the document that a poke reaches

-- the newest of some documents is one of them
newest_has : (xs : List Document) (best d : Document) → fold newer (Some best) xs ≡ Some d → (best ≡ d) ⊎ Has xs d
newest_has [] best d e = inl (some_same e)
newest_has (x ∷ xs) best d e =
    by_test (nat_lt (option_map_or (λ (v : View). v.epoch.0) best.view 0) (option_map_or (λ (v : View). v.epoch.0) x.view 0)) e (λ y is. newest_has xs y d is)
  where
    first : (x ≡ d) ⊎ Has xs d → (best ≡ d) ⊎ Has (x ∷ xs) d
    first is = inr is

    same : (best ≡ d) ⊎ Has xs d → (best ≡ d) ⊎ Has (x ∷ xs) d
    same (inl is) = inl is
    same (inr has) = inr (inr has)

    by_test : (b : Bool) → fold newer (let o : Option Document = cond b (Some x) (Some best) in o) xs ≡ Some d → ((y : Document) → fold newer (Some y) xs ≡ Some d → (y ≡ d) ⊎ Has xs d) → (best ≡ d) ⊎ Has (x ∷ xs) d
    by_test true is newest = first (newest x is)
    by_test false is newest = same (newest best is)

-- it is one of the documents of the navigable, and runs
pub record IsReached (s : Seen) (nav : NavId) (d : Document) : Type 0 where
  pub there : Has s.documents d
  pub first : Document
  pub others : List Document
  pub run : running_documents s nav ≡ first ∷ others
  pub nav_is : d.nav ≡ nav
  pub runs : holds (λ (v : View). v.running) d.view ≡ true

pub reached : (s : Seen) (nav : NavId) (d : Document) → poked_document s nav ≡ Some d → IsReached s nav d
reached s nav d is = by_list (running_documents s nav) refl is
  where
    by_has : (x : Document) (xs : List Document) → running_documents s nav ≡ x ∷ xs → Has s.documents d × ((d.nav.0 == nav.0 && holds (λ (v : View). v.running) d.view) ≡ true) → IsReached s nav d
    by_has x xs e its =
        let both = and_parts (d.nav.0 == nav.0) (holds (λ (v : View). v.running) d.view) its.1 in
        record { there = its.0; first = x; others = xs; run = e; nav_is = ap (λ (n : ℕ). let x : NavId = record { 0 = n } in x) (eqb-true d.nav.0 nav.0 both.0); runs = both.1 }

    by_list : (l : List Document) → running_documents s nav ≡ l → fold newer None l ≡ Some d → IsReached s nav d
    by_list [] e never = absurd cc
    by_list (x ∷ xs) e newest =
        by_has x xs e (has_filter (λ (y : Document). y.nav.0 == nav.0 && holds (λ (v : View). v.running) y.view) s.documents d (subst (λ (l : List Document). Has l d) (sym e) (newest_has xs x d newest)))

-- ---- where no reason denies a poke, it reaches a document

newest_some : (xs : List Document) (best : Document) → (d : Document) × (fold newer (Some best) xs ≡ Some d)
newest_some [] best = (best, refl)
newest_some (x ∷ xs) best =
    by_test (nat_lt (option_map_or (λ (v : View). v.epoch.0) best.view 0) (option_map_or (λ (v : View). v.epoch.0) x.view 0)) (λ y. newest_some xs y)
  where
    by_test : (b : Bool) → ((y : Document) → (d : Document) × (fold newer (Some y) xs ≡ Some d)) → (d : Document) × (fold newer (let o : Option Document = cond b (Some x) (Some best) in o) xs ≡ Some d)
    by_test true newest = newest x
    by_test false newest = newest best

-- a navigable without an entry can't be poked
pub no_entry_denied : (s : Seen) (nav : NavId) → has_row nav s.history.rows ≡ false → denial_of_poke s nav ≡ Some denials.NoNavigable
no_entry_denied s nav none = rw none refl

module _ (s : Seen) (c : Coordinator) (runners : RunnersState) (are : AreOf s c runners) (nav : NavId) (row : has_row nav s.history.rows ≡ true) (newest : Option DocId) (is : IsNewest runners nav newest) where
  poked : newest ≡ option_map (λ (d : Document). d.nr) (poked_document s nav)
  poked = newest_told s runners nav newest are.told is

  pub none_denied : newest ≡ None → denial_of_poke s nav ≡ Some denials.NoDocument
  none_denied none = by_list (running_documents s nav) refl
    where
      by_list : (l : List Document) → running_documents s nav ≡ l → denial_of_poke s nav ≡ Some denials.NoDocument
      by_list [] e = rw row (rw e refl)
      by_list (x ∷ xs) e =
          let some = newest_some xs x in
          let at : poked_document s nav ≡ Some some.0 = ap (λ (l : List Document). fold newer None l) e ∙ some.1 in
          absurd (let never : None ≡ Some some.0.nr = sym none ∙ poked ∙ ap (λ (o : Option Document). option_map (λ (d : Document). d.nr) o) at in cc)

  pub newest_reached : (doc : DocId) → newest ≡ Some doc → Reaches s nav doc
  newest_reached doc some = by_poked (poked_document s nav) refl (sym poked ∙ some)
    where
      by_poked : (o : Option Document) → poked_document s nav ≡ o → option_map (λ (d : Document). d.nr) o ≡ Some doc → Reaches s nav doc
      by_poked None e never = absurd cc
      by_poked (Some d) e nr =
          let its = reached s nav d e in
          let number : d.nr ≡ doc = some_same nr in
          record {
            row = row;
            first = its.first;
            others = its.others;
            run = its.run;
            d = d;
            reaches = e;
            nr = number;
            found = ap (λ (n : DocId). document_of s n) (sym number) ∙ found_itself s.documents d are.stands.but.stands.between.tab.whose.numbered its.there;
            nav_is = its.nav_is;
          }
