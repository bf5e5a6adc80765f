-- The same of the log without questions: what holds of it as a tab goes on over a row that isn't seen, and where a request passes its check; and its ongoing loads are those of the log that have passed.
use Rattle.std.proofs.Common.{◌≡◌, ℕ, ◌≤◌, Bool, true, false, cond, ◌==◌, List, ◌∷◌, map, Option, Some, None, refl, sym, ap, ◌∙◌, subst, inl, arith}
use Rattle.std.specs.Prelude.{is_some, option_map}
use Rattle.tab_ids.specs.declared.NavId.{NavId}
use Rattle.tab_ids.specs.declared.ReqId.{ReqId}
use Rattle.log_model.specs.declared.made.Made.{Made}
use Rattle.log_model.specs.declared.request.Mode.{Mode}
use Rattle.log_model.specs.Seen.{Asked, Seen, request_in, request_of}
use Rattle.seen_facts.specs.Load.Loading.{AreLoading, Look, is_ongoing, look, look_in}
use Rattle.seen_facts.proofs.Load.Docs.{same_mapped}
use Rattle.seen_facts.proofs.Load.Leaves.{left_loading}
use Rattle.seen_facts.proofs.Load.Docs.{was_doc}
use Rattle.seen_facts.proofs.Load.Rows.{KeepLooks}
use Rattle.tab_facts.specs.TabWhole.Tab.{IsTab}
use Rattle.tab_facts.proofs.TabWhole.Beginning.{IsToGo}
use Rattle.unasked.specs.Premises.{IsNumbered}
use Rattle.seen_laws.specs.Unasked.{unasked, unasked_request, unbegun, unhandled, without_asks}
use Rattle.unasked.proofs.Lists.{request_map}
use Rattle.unasked.proofs.Passings.{passed_unasked}
use Rattle.unasked.proofs.Whole.{silent}
use Rattle.unasked_tab.specs.Passing.{IsToPass}
use Rattle.unasked_tab.proofs.Begun.{some_same}
use Rattle.unasked_tab.proofs.LoadPassed.{load_tab}
use Rattle.unasked_tab.proofs.Passed.{passed_tab}
use Rattle.unasked_tab.proofs.Silent.{silent_tab}

-- where a row isn't seen
pub unseen_tab : (run : Option ReqId) (loads : List ReqId) (hand : List Made) (s next : Seen) (event jobs states : ℕ) → next ≡ silent s event jobs states → s.states ≤ states → IsTab run loads hand s → IsTab run loads hand next
unseen_tab run loads hand s next event jobs states same more tab =
    subst (IsTab run loads hand) (sym same) (silent_tab s event jobs states more run loads hand tab)

-- ---- ongoing loads

module _ (checking : ReqId → Bool) (s : Seen) where
  -- one without questions is one of the log
  unasked_looks : KeepLooks s.requests (map (unasked_request checking) s.requests)
  unasked_looks req l at on =
      by_found (request_in s.requests req) refl (sym (ap (λ (o : Option Asked). option_map look o) (request_map (unasked_request checking) s.requests req)) ∙ at)
    where
      by_test : (q : Asked) (b : Bool) → look (let x : Asked = cond b (unbegun q) (without_asks q) in x) ≡ l → look q ≡ l
      by_test q true same = (let never : false ≡ true = ap is_ongoing same ∙ on in absurd cc)
      by_test q false same = same

      by_found : (o : Option Asked) → request_in s.requests req ≡ o → option_map look (option_map (unasked_request checking) o) ≡ Some l → look_in s.requests req ≡ Some l
      by_found None e is = absurd cc
      by_found (Some q) e is =
          ap (λ (o : Option Asked). option_map look o) e ∙ ap (λ (x : Look). Some x) (by_test q (checking q.nr) (some_same is))

  -- what is known of those of the log is known of those without questions, whichever are in their check
  pub unasked_loading : AreLoading s → AreLoading (unasked checking s)
  unasked_loading are =
      left_loading s (unasked checking s) (record {
        looks = unasked_looks;
        states = (let least : s.states ≤ s.states = omega arith in least);
        rows_ = λ row has. inl (record { row = row; has = has; same = refl });
        documents = λ doc d found. inl (was_doc s (unasked checking s).documents (same_mapped unhandled s.documents (record { nr = λ d. refl; nav = λ d. refl; state = λ d. refl })) doc d found);
        awakes = λ nav place doc d there on found. inl (record { place = place; found = there; was = on });
      }) are

-- ---- a request passes its check, and no other

module _ (checking passed : ReqId → Bool) (s : Seen) (req : ReqId) (q : Asked) (found : request_of s req ≡ Some q) (numbered : (r : ReqId) → IsNumbered s r) (off : passed req ≡ false) (others : (r : ReqId) → (r.0 == req.0) ≡ false → passed r ≡ checking r) (starts : q.is_started ≡ true) where
  -- a traversal, where none runs
  pub passed_unasked_tab : (loads : List ReqId) (hand : List Made) (p : Asked) → IsTab None loads hand (unasked checking s) → IsToGo (unasked checking s) req p → is_some q.goal ≡ true → IsTab (Some req) loads hand (unasked passed s)
  passed_unasked_tab loads hand p tab is goes =
      subst (IsTab (Some req) loads hand) (sym (passed_unasked checking passed s req q found numbered off others)) (passed_tab loads hand (unasked checking s) tab req p is q starts goes)

  -- a load, where the ongoing loads of the log are what they are to be
  pub load_passed_unasked_tab : (run : Option ReqId) (rest : List ReqId) (hand : List Made) (p : Asked) (nav : NavId) (mode : Mode) (address : List ℕ) → IsTab run (req ∷ rest) hand (unasked checking s) → IsToPass (unasked checking s) req p nav mode address → AreLoading s → IsTab run rest hand (unasked passed s)
  load_passed_unasked_tab run rest hand p nav mode address tab is are =
      subst (IsTab run rest hand) (sym (passed_unasked checking passed s req q found numbered off others)) (load_tab run req rest hand (unasked checking s) tab p nav mode address is q starts (subst AreLoading (passed_unasked checking passed s req q found numbered off others) (unasked_loading passed s are)))
