-- One request after the other is noted, each under a document state.
use Rattle.seen_facts.proofs.Hang.Members.{has_more, into_last, into_more}
use Rattle.seen_facts.specs.Hang.Members.{Has}
use Rattle.indexmap.specs.IndexMap.{insert_entry}
use Rattle.nav_tree.proofs.Lists.{take-slice_get}
use Rattle.nav_tree.specs.Tree.{docs_of, is_state, state_of}
use Rattle.std.specs.Prelude.{IsPermutation}
use Rattle.std.specs.Map.{lookup}
use Rattle.log_model.specs.Equal.{has_doc}
use Rattle.row_facts.proofs.RestRows.Again.{doc_same}
use Rattle.std.proofs.Common.{Bool, List, None, Option, Some, [], ap, false, inl, inr, length, refl, subst, sym, take, true, ℕ, ◌++◌, ◌+◌, ◌==◌, ◌||◌, ◌∙◌, ◌∷◌, ◌≡◌, ◌≤◌, ◌⊎◌}
use Rattle.std.proofs.lemmas.List.{take_all}
use Rattle.std.specs.Prelude.{if◌then◌else◌, option_and_then, option_map, slice_get}
use Rattle.tab_doors.proofs.Keyed.{put_other, put_same, state_same}
use Rattle.tab_doors.specs.declared.tables.Tables.{Tables}
use Rattle.tab_ids.specs.declared.ReqId.{ReqId}
use Rattle.tab_ids.specs.declared.StateId.{StateId}
use Rattle.tab_one_pass.specs.Noting.{AreNotedBy, EntriesAreNoted, IsNotedBy, IsToNoteBy, entered_in, entry_noting, with_noting}
use Rattle.tab_sweeps.proofs.Lists.{ordered_has}
use Rattle.step_index.specs.Held.{history_held}
use Rattle.log_model.specs.History.{has_state}
use Rattle.tab_ids.specs.declared.DocId.{DocId}

pub noted_none : {A : Type 0} (noting : A → Option (StateId × ReqId)) (xs : List A) (was : List (StateId × ReqId)) → AreNotedBy noting (take 0 xs) was was
noted_none noting xs was = record { own = λ state req its. absurd its.there; others = λ state none. refl }

pub noted_all : {A : Type 0} (noting : A → Option (StateId × ReqId)) (xs : List A) (i : ℕ) (was now : List (StateId × ReqId)) → length xs ≤ i → AreNotedBy noting (take i xs) was now → AreNotedBy noting xs was now
noted_all {A} noting xs i was now past are =
    subst (λ (l : List A). AreNotedBy noting l was now) (take_all i xs past) are

module _ {A : Type 0} (noting : A → Option (StateId × ReqId)) (navs : List A) (was mid : List (StateId × ReqId)) (nav : A) (are : AreNotedBy noting navs was mid) where
  abbrev more : List A
  more = navs ++ nav ∷ []

  -- one that was to be noted is so still
  to_more : (state : StateId) (req : ReqId) → IsToNoteBy noting navs state req → IsToNoteBy noting more state req
  to_more state req its = record { it = its.it; there = into_more navs nav its.it its.there; is = its.is }

  -- one that is to be was so, or is the next navigable's
  of_more : (state : StateId) (req : ReqId) → IsToNoteBy noting more state req → IsToNoteBy noting navs state req ⊎ (noting nav ≡ Some (state, req))
  of_more state req its = by_place (has_more navs nav its.it its.there)
    where
      by_place : Has navs its.it ⊎ (nav ≡ its.it) → IsToNoteBy noting navs state req ⊎ (noting nav ≡ Some (state, req))
      by_place (inl there) = inl (record { it = its.it; there = there; is = its.is })
      by_place (inr same) = inr (ap noting same ∙ its.is)

  -- nothing is noted for it
  noted_still : noting nav ≡ None → AreNotedBy noting more was mid
  noted_still none =
      record {
        own = λ state req its. own state req (of_more state req its);
        others = λ state never. are.others state (λ req its. never req (to_more state req its));
      }
    where
      own : (state : StateId) (req : ReqId) → IsToNoteBy noting navs state req ⊎ (noting nav ≡ Some (state, req)) → IsNotedBy noting more mid state
      own state req (inl its) =
          let it : IsNotedBy noting navs mid state = are.own state req its in
          record { req = it.req; found = it.found; its = to_more state it.req it.its }
      own state req (inr is) =
          let never : (let o : Option (StateId × ReqId) = None in o) ≡ Some (state, req) = sym none ∙ is in absurd cc

  -- this is noted for it
  module _ (at : StateId) (one : ReqId) (is : noting nav ≡ Some (at, one)) where
    abbrev put : List (StateId × ReqId)
    put = insert_entry is_state mid at one

    own_note : IsNotedBy noting more put at
    own_note =
        record { req = one; found = put_same mid at one; its = record { it = nav; there = into_last navs nav; is = is } }

    noted_put : AreNotedBy noting more was put
    unfolding own_note
    noted_put =
        record {
          own = λ state req its. by_state state req (at.0 == state.0) refl its;
          others = λ state never. put_other mid at state one (apart state never) ∙ are.others state (λ req its. never req (to_more state req its));
        }
      where
        apart : (state : StateId) → ((req : ReqId) → IsToNoteBy noting more state req → ⊥) → (at.0 == state.0) ≡ false
        apart state never = by_test (at.0 == state.0) refl
          where
            by_test : (b : Bool) → (at.0 == state.0) ≡ b → (at.0 == state.0) ≡ false
            by_test false e = e
            by_test true e =
                absurd (never one (subst (λ (s : StateId). IsToNoteBy noting more s one) (state_same at state e) own_note.its))

        other : (state : StateId) (req : ReqId) → (at.0 == state.0) ≡ false → IsToNoteBy noting navs state req ⊎ (noting nav ≡ Some (state, req)) → IsNotedBy noting more put state
        other state req e (inl its) =
            let it : IsNotedBy noting navs mid state = are.own state req its in
            record { req = it.req; found = put_other mid at state one e ∙ it.found; its = to_more state it.req it.its }
        other state req e (inr same) =
            let two : (let o : Option (StateId × ReqId) = Some (at, one) in o) ≡ Some (state, req) = sym is ∙ same in
            let pair : (let p : StateId × ReqId = (at, one) in p) ≡ (state, req) = cc in
            subst (λ (s : StateId). IsNotedBy noting more put s) (ap (λ (p : StateId × ReqId). p.0) pair) own_note

        by_state : (state : StateId) (req : ReqId) (b : Bool) → (at.0 == state.0) ≡ b → IsToNoteBy noting more state req → IsNotedBy noting more put state
        by_state state req true e its = subst (λ (s : StateId). IsNotedBy noting more put s) (state_same at state e) own_note
        by_state state req false e its = other state req e (of_more state req its)

  noted_with : (o : Option (StateId × ReqId)) → noting nav ≡ o → AreNotedBy noting more was (with_noting o mid)
  noted_with None is = noted_still is
  noted_with (Some one) is = noted_put one.0 one.1 is

-- the next one of a list
pub noted_next : {A : Type 0} (noting : A → Option (StateId × ReqId)) (xs : List A) (i : ℕ) (x : A) (was mid now : List (StateId × ReqId)) → slice_get xs i ≡ Some x → AreNotedBy noting (take i xs) was mid → now ≡ with_noting (noting x) mid → AreNotedBy noting (take (i + 1) xs) was now
noted_next {A} noting xs i x was mid now at are is =
    subst (λ (l : List (StateId × ReqId)). AreNotedBy noting (take (i + 1) xs) was l) (sym is)
    (subst (λ (l : List A). AreNotedBy noting l was (with_noting (noting x) mid)) (sym (take-slice_get xs i x at))
    (noted_with noting (take i xs) was mid x are (noting x) refl))

-- ---- documents of entries

doc_in : (docs : List DocId) (doc : DocId) → has_doc docs doc ≡ true → Has docs doc
doc_in [] doc has = absurd cc
doc_in (d ∷ docs) doc has = by_first (d.0 == doc.0) refl has (doc_in docs doc)
  where
    by_first : (b : Bool) → (d.0 == doc.0) ≡ b → (b || has_doc docs doc) ≡ true → (has_doc docs doc ≡ true → Has docs doc) → (d ≡ doc) ⊎ Has docs doc
    by_first true same h later = inl (doc_same d doc same)
    by_first false apart h later = inr (later h)

pub entries_noted : (t : Tables) (req : ReqId) (docs : List DocId) (was now : List (StateId × ReqId)) → IsPermutation (docs_of t.tree) docs → AreNotedBy (entry_noting t req) docs was now → EntriesAreNoted t req was now
entries_noted t req docs was now order are =
    record { own = own; others = λ state bare. are.others state (λ r its. never state bare r its) }
  where
    own : (doc : DocId) (state : StateId) → Has (docs_of t.tree) doc → entered_in t doc ≡ Some state → lookup (is_state state) now ≡ Some req
    own doc state there is =
        let it : IsNotedBy (entry_noting t req) docs now state = are.own state req (record { it = doc; there = doc_in docs doc (ordered_has (docs_of t.tree) docs doc order there); is = ap (λ (o : Option StateId). option_map {U = StateId × ReqId} (λ (x : StateId). (x, req)) o) is }) in
        it.found ∙ ap (λ (r : ReqId). Some r) (its_req it.its.it state it.req it.its.is)
      where
        its_req : (x : DocId) (st : StateId) (r : ReqId) → entry_noting t req x ≡ Some (st, r) → r ≡ req
        its_req x st r is_ = by_state (entered_in t x) is_
          where
            by_state : (o : Option StateId) → option_map {U = StateId × ReqId} (λ (y : StateId). (y, req)) o ≡ Some (st, r) → r ≡ req
            by_state None h = absurd cc
            by_state (Some y) h =
                let pair : (let one : StateId × ReqId = (y, req) in one) ≡ (st, r) = cc in
                sym (ap (λ (one : StateId × ReqId). one.1) pair)

    never : (state : StateId) → has_state state (history_held t.store).rows ≡ false → (r : ReqId) → IsToNoteBy (entry_noting t req) docs state r → ⊥
    never state bare r its = by_state (state_of its.it t.tree) its.is
      where
        by_test : (own_ : StateId) (b : Bool) → has_state own_ (history_held t.store).rows ≡ b → option_map {U = StateId × ReqId} (λ (y : StateId). (y, req)) (if b then Some own_ else None) ≡ Some (state, r) → ⊥
        by_test own_ false e h = let never_ : (let o : Option (StateId × ReqId) = None in o) ≡ Some (state, r) = h in absurd cc
        by_test own_ true e h =
            let pair : (let one : StateId × ReqId = (own_, req) in one) ≡ (state, r) = cc in
            let same : own_ ≡ state = ap (λ (one : StateId × ReqId). one.0) pair in
            let never_ : true ≡ false = sym e ∙ ap (λ (x : StateId). has_state x (history_held t.store).rows) same ∙ bare in
            absurd cc

        by_state : (o : Option StateId) → option_map {U = StateId × ReqId} (λ (y : StateId). (y, req)) (option_and_then (λ (x : StateId). if has_state x (history_held t.store).rows then Some x else None) o) ≡ Some (state, r) → ⊥
        by_state None h = let never_ : (let o : Option (StateId × ReqId) = None in o) ≡ Some (state, r) = h in absurd cc
        by_state (Some own_) h = by_test own_ (has_state own_ (history_held t.store).rows) refl h
