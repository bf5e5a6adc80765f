-- All of it is true as a tab opens: the top is awake on the first document, which has its view, and nothing is loaded.
use Rattle.std.proofs.Common.{◌≡◌, ℕ, Bool, true, false, cond, ◌||◌, ◌==◌, List, Option, Some, None, refl, sym, ap, ◌∙◌, subst, eqb-true}
use Rattle.std.specs.Prelude.{is_some, option_map}
use Rattle.tab_ids.specs.declared.DocId.{DocId}
use Rattle.tab_ids.specs.declared.EntryId.{EntryId}
use Rattle.tab_ids.specs.declared.NavId.{NavId}
use Rattle.tab_ids.specs.declared.ProcId.{ProcId}
use Rattle.tab_ids.specs.declared.ReqId.{ReqId}
use Rattle.tab_ids.specs.declared.StateId.{StateId}
use Rattle.log_model.specs.declared.row_kind.Actor.{Actor}
use Rattle.log_model.specs.declared.row_kind.RowKind.TheVariants as rows
use Rattle.log_model.specs.After.{after}
use Rattle.log_model.specs.AfterDocuments.{opening_document}
use Rattle.log_model.specs.AfterPlaces.{opening_place}
use Rattle.log_model.specs.Equal.{has_doc}
use Rattle.log_model.specs.Seen.{Asked, Desk, Document, Place, Seen, awake, desk_of, document_of, empty_desk, nothing, place_of}
use Rattle.log_model.proofs.Refl.{nat_eq_refl}
use Rattle.seen_facts.specs.Coord.Leading.{pending_view}
use Rattle.seen_facts.specs.Load.Loading.{Look, look, look_of}
use Rattle.tab_facts.specs.Shown.Shown.{AreShown, HasDocument}

some_same : {A : Type 0} {a b : A} → (let o : Option A = Some a in o) ≡ Some b → a ≡ b
some_same e = cc

awake_doc : (a b : DocId) → awake a ≡ awake b → a ≡ b
awake_doc a b same = cc

module _ (event : ℕ) (actor : Actor) (entry : EntryId) (state : StateId) (doc : DocId) (proc : ProcId) (slot : Option ℕ) (address : List ℕ) where
  abbrev pub opened : Seen
  opened = after nothing (record { event = event; actor = actor; row = rows.Opened entry state doc proc slot address })

  abbrev first : Document
  first = opening_document entry state doc proc slot address

  is_first : (n : DocId) (d : Document) → document_of opened n ≡ Some d → first ≡ d
  is_first n d found = by_test (doc.0 == n.0) found
    where
      by_test : (b : Bool) → (let o : Option Document = cond b (Some first) None in o) ≡ Some d → first ≡ d
      by_test true e = some_same e
      by_test false e = absurd cc

  is_top : (nav : NavId) (place : Place) → place_of opened nav ≡ Some place → opening_place entry doc ≡ place
  is_top nav place there = by_test (0 == nav.0) there
    where
      by_test : (b : Bool) → (let o : Option Place = cond b (Some (opening_place entry doc)) None in o) ≡ Some place → opening_place entry doc ≡ place
      by_test true e = some_same e
      by_test false e = absurd cc

  has_first : HasDocument opened doc
  has_first =
      record { document = first; found = ap (λ (b : Bool). let o : Option Document = cond b (Some first) None in o) (nat_eq_refl doc.0) }

  -- it was shown the first document, and no other
  shown : (n : DocId) (b : Bool) → (doc.0 == n.0) ≡ b → (b || false) ≡ true → doc ≡ n
  shown n true e is = ap (λ (k : ℕ). let x : DocId = record { 0 = k } in x) (eqb-true doc.0 n.0 e)
  shown n false e never = absurd cc

  none : (req : ReqId) (l : Look) → look_of opened req ≡ Some l → ⊥
  none req l at = by_zero (req.0 == 0) at
    where
      by_zero : (b : Bool) → option_map look (let o : Option Asked = cond b None None in o) ≡ Some l → ⊥
      by_zero true e = cc
      by_zero false e = cc

  first_viewed : is_some (pending_view first (desk_of opened proc)) ≡ true
  first_viewed = by_test (proc.0 == proc.0)
    where
      by_test : (b : Bool) → is_some (pending_view first (let d : Desk = cond b (empty_desk proc) (empty_desk proc) in d)) ≡ true
      by_test true = refl
      by_test false = refl

  pub opened_shown : AreShown opened
  opened_shown =
      record {
        there = λ nav place n there has. subst (λ (x : DocId). HasDocument opened x) (shown n (doc.0 == n.0) refl (ap (λ (p : Place). has_doc p.ever_awake n) (is_top nav place there) ∙ has)) has_first;
        ever = λ nav place n there wakes. ever nav place n there (awake_doc doc n (ap (λ (p : Place). p.status) (is_top nav place there) ∙ wakes));
        of_one = λ n m d e found there same. ap (λ (x : Document). x.nav) (sym (is_first n d found)) ∙ ap (λ (x : Document). x.nav) (is_first m e there);
        placed = λ req l nav mode to at on what. absurd (none req l at);
        viewed = λ n d found open_. subst (λ (x : Document). is_some (pending_view x (desk_of opened x.proc)) ≡ true) (is_first n d found) first_viewed;
      }
    where
      ever : (nav : NavId) (place : Place) (n : DocId) → place_of opened nav ≡ Some place → doc ≡ n → has_doc place.ever_awake n ≡ true
      ever nav place n there same =
          ap (λ (p : Place). has_doc p.ever_awake n) (sym (is_top nav place there)) ∙ ap (λ (x : DocId). (x.0 == n.0) || false) same ∙ rw (nat_eq_refl n.0) refl
