-- Changes bring no entry, and orders make no document, of the document state of a load in its check.
use Rattle.std.proofs.Common.{◌≡◌, ℕ, ◌+◌, ◌≤◌, Bool, true, false, cond, ◌==◌, List, Option, Some, None, refl, sym, ◌∙◌, subst, arith}
use Rattle.std.specs.Prelude.{option_and_then, option_map}
use Rattle.std.proofs.lemmas.Bool.Decides.{nat_tests}
use Rattle.tab_ids.specs.declared.EntryId.{EntryId}
use Rattle.tab_ids.specs.declared.NavId.{NavId}
use Rattle.tab_ids.specs.declared.ReqId.{ReqId}
use Rattle.tab_ids.specs.declared.StateId.{StateId}
use Rattle.log_model.specs.declared.change.Change.{Change}
use Rattle.log_model.specs.declared.change.Change.TheVariants as changes
use Rattle.log_model.specs.declared.made.Made.{Made}
use Rattle.log_model.specs.declared.made.What.{What}
use Rattle.log_model.specs.declared.made.What.TheVariants as whats
use Rattle.log_model.specs.Equal.{holds}
use Rattle.log_model.specs.History.{owner_of}
use Rattle.log_model.specs.Once.{change_of_load, change_of_made, change_of_report, due_change, has_to_begin, next_entry_of, next_state}
use Rattle.log_model.specs.Places.{is_ongoing_load}
use Rattle.log_model.proofs.Refl.{nat_eq_refl}
use Rattle.log_model.specs.Seen.{Asked, Document, Place, Seen, document_of, place_of, request_of}
use Rattle.unasked_dues.specs.Checking.{NoneChecksFor}
use Rattle.checking_facts.proofs.States.{none_for, of_document, of_load}
use Rattle.checking_facts.specs.States.{AreOwnStates, BringsOff, IsOwnState}

module _ (checking : ReqId → Bool) (s : Seen) (own : AreOwnStates checking s) where
  -- the next document state is none of theirs
  pub of_next : NoneChecksFor checking s (next_state s)
  of_next = none_for checking s (next_state s) (λ state held. apart state (own state held))
    where
      apart : (state : StateId) {req : ReqId} → IsOwnState s req state → (state.0 == (s.states + 1)) ≡ false
      apart state is = let low : state.0 ≤ s.states = is.numbered in grind (arith, nat_tests, low)

  -- ---- what a document made

  by_made : (doc : Document) → NoneChecksFor checking s doc.state → (what : What) (change : Change) → change_of_made s doc what ≡ Some change → BringsOff checking s change
  by_made d off (whats.Push entry memo address) change is =
      let same : changes.Push d.nav entry d.state address memo ≡ change = cc in subst (λ (c : Change). BringsOff checking s c) same off
  by_made d off (whats.Replace over entry memo address) change is =
      let same : changes.Replace d.nav over entry d.state address memo ≡ change = cc in subst (λ (c : Change). BringsOff checking s c) same off
  by_made d off (whats.AddFrame nav) change is =
      let same : changes.AddFrame d.state nav (next_entry_of s) (next_state s) ≡ change = cc in subst (λ (c : Change). BringsOff checking s c) same of_next
  by_made d off (whats.RemoveFrame nav) change is =
      by_owner (holds (λ (owner : StateId). owner.0 == d.state.0) (owner_of nav s.history.rows)) is
    where
      by_owner : (b : Bool) → (let o : Option Change = cond b (Some (changes.RemoveFrame nav)) None in o) ≡ Some change → BringsOff checking s change
      by_owner true e = let same : changes.RemoveFrame nav ≡ change = cc in subst (λ (c : Change). BringsOff checking s c) same tt
      by_owner false e = absurd cc
  by_made d off (whats.Go delta) change is = absurd cc
  by_made d off whats.Edit change is =
      let same : changes.Edit ≡ change = cc in subst (λ (c : Change). BringsOff checking s c) same tt

  pub brings_made : (q : Asked) (change : Change) → q.is_started ≡ false → due_change s q ≡ Some change → BringsOff checking s change
  brings_made q change unstarted due = by_begin (has_to_begin q.what) (sym (rw unstarted refl) ∙ due)
    where
      by_document : (made : Made) (o : Option Document) → document_of s made.doc ≡ o → option_and_then (λ (d : Document). change_of_made s d made.what) o ≡ Some change → BringsOff checking s change
      by_document made None e is = absurd cc
      by_document made (Some d) e is = by_made d (of_document checking s own made.doc d e) made.what change is

      by_report : (o : Option Made) → option_and_then (λ (made : Made). option_and_then (λ d. change_of_made s d made.what) (document_of s made.doc)) o ≡ Some change → BringsOff checking s change
      by_report None is = absurd cc
      by_report (Some made) is = by_document made (document_of s made.doc) refl is

      by_begin : (b : Bool) → (let o : Option Change = cond b None (change_of_report s q) in o) ≡ Some change → BringsOff checking s change
      by_begin true is = absurd cc
      by_begin false is = by_report q.made is

  -- ---- a load with a new document

  pub brings_load : (req : ReqId) (q : Asked) (nav : NavId) (address : List ℕ) (change : Change) → request_of s req ≡ Some q → checking req ≡ false → is_ongoing_load q ≡ true → change_of_load s q nav address ≡ Some change → BringsOff checking s change
  brings_load req q nav address change at off going due = by_state q.state refl
    where
      by_given : (state : StateId) → NoneChecksFor checking s state → (o : Option EntryId) → option_map (λ (over : EntryId). changes.Replace nav over (next_entry_of s) state address None) o ≡ Some change → BringsOff checking s change
      by_given state none None is = absurd cc
      by_given state none (Some over) is =
          let same : changes.Replace nav over (next_entry_of s) state address None ≡ change = cc in
          subst (λ (c : Change). BringsOff checking s c) same none

      by_replace : (state : StateId) → q.state ≡ Some state → NoneChecksFor checking s state → (b : Bool) → q.replaces ≡ b → BringsOff checking s change
      by_replace state is none true e =
          by_given state none (option_and_then (λ (place : Place). place.given) (place_of s nav)) (sym (rw (e, is) refl) ∙ due)
      by_replace state is none false e =
          let made : Some (changes.Push nav (next_entry_of s) state address None) ≡ Some change = sym (rw (e, is) refl) ∙ due in
          let same : changes.Push nav (next_entry_of s) state address None ≡ change = cc in
          subst (λ (c : Change). BringsOff checking s c) same none

      by_none : (b : Bool) → q.replaces ≡ b → q.state ≡ None → BringsOff checking s change
      by_none true e is = let never : None ≡ Some change = sym (rw (e, is) refl) ∙ due in absurd cc
      by_none false e is = let never : None ≡ Some change = sym (rw (e, is) refl) ∙ due in absurd cc

      by_state : (o : Option StateId) → q.state ≡ o → BringsOff checking s change
      by_state None is = by_none q.replaces refl is
      by_state (Some state) is =
          by_replace state is (of_load checking s own req q state at off (rw (going, is) (nat_eq_refl state.0))) q.replaces refl
