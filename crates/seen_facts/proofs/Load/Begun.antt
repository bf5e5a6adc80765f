-- A load begins: the next document state is numbered for it; and what is true as the tab opens.
use Rattle.std.proofs.Common.{◌≡◌, ℕ, ◌+◌, ◌≤◌, Bool, true, false, cond, ◌==◌, List, Option, Some, None, refl, sym, ap, ◌∙◌, subst, inl, inr, eqb-true, arith}
use Rattle.std.specs.Prelude.{option_map}
use Rattle.tab_ids.specs.declared.DocId.{DocId}
use Rattle.tab_ids.specs.declared.EntryId.{EntryId}
use Rattle.tab_ids.specs.declared.NavId.{NavId}
use Rattle.tab_ids.specs.declared.ProcId.{ProcId}
use Rattle.tab_ids.specs.declared.ReqId.{ReqId}
use Rattle.tab_ids.specs.declared.StateId.{StateId}
use Rattle.log_model.specs.declared.request.Mode.{Mode}
use Rattle.log_model.specs.declared.request.Request.{Request}
use Rattle.log_model.specs.declared.request.Request.TheVariants as requests
use Rattle.log_model.specs.declared.row.Row.{Row}
use Rattle.log_model.specs.declared.row_kind.Actor.{Actor}
use Rattle.log_model.specs.declared.row_kind.RowKind.TheVariants as rows
use Rattle.log_model.specs.After.{after}
use Rattle.log_model.specs.AfterDocuments.{opening_document}
use Rattle.log_model.specs.AfterRequests.{on_request, request_begun}
use Rattle.log_model.specs.Once.{loads}
use Rattle.log_model.specs.Seen.{Seen, Asked, Document, nothing, request_of}
use Rattle.seen_facts.specs.Hang.Members.{Has}
use Rattle.seen_facts.specs.Home.Homes.{document_in}
use Rattle.seen_facts.proofs.Coord.Held.{on_else}
use Rattle.seen_facts.proofs.Request.LookUps.{on_itself}
use Rattle.seen_facts.specs.Load.Loading.{Look, look, look_of, is_ongoing, IsLoading, AreLoading}
use Rattle.seen_facts.proofs.Load.Rows.{req_same}

module _ (s : Seen) (event : ℕ) (actor : Actor) (are : AreLoading s) (req : ReqId) (q : Asked) (nav : NavId) (mode : Mode) (address : List ℕ) (found : request_of s req ≡ Some q) (what : q.what ≡ requests.Load nav mode address) (unmade : q.made ≡ None) (alone : (other : ReqId) (m : Look) → look_of s other ≡ Some m → is_ongoing m ≡ true → loads nav m.what ≡ true → ⊥) where
  abbrev t : Seen
  t = after s (record { event = event; actor = actor; row = rows.Started req None })

  abbrev begin : Asked → Asked
  begin p = record p { is_started = true; goal = None }

  abbrev mid : List Asked
  mid = on_request req begin s.requests

  abbrev next : StateId
  next = record { 0 = s.states + 1 }

  requests_are : t.requests ≡ on_request req (request_begun s) mid
  requests_are = refl

  states_are : t.states ≡ s.states + 1
  states_are = rw (found, what) refl

  more : s.states ≤ t.states
  more = subst (λ (n : ℕ). s.states ≤ n) (sym states_are) (let up : s.states ≤ s.states + 1 = omega arith in up)

  -- its own look
  abbrev begun : Look
  begun = record { what = q.what; is_started = true; ending = q.ending; state = Some next; made = q.made }

  own_look : look_of t req ≡ Some begun
  own_look =
      ap (λ (o : Option Asked). option_map look o) (on_itself mid req (request_begun s) ∙ ap (λ (o : Option Asked). option_map (request_begun s) o) (on_itself s.requests req begin ∙ ap (λ (o : Option Asked). option_map begin o) found))
      ∙ (let is : Some (look (request_begun s (begin q))) ≡ Some begun = rw what refl in is)

  other_look : (r : ReqId) → (r.0 == req.0) ≡ false → look_of t r ≡ look_of s r
  other_look r apart =
      ap (λ (o : Option Asked). option_map look o) (on_else mid req (request_begun s) r apart ∙ on_else s.requests req begin r apart)

  -- a look then is its own, or was there
  record IsOwn (r : ReqId) (l : Look) : Type 0 where
    number : r.0 ≡ req.0
    is : begun ≡ l

  record WasThere (r : ReqId) (l : Look) : Type 0 where
    apart : (r.0 == req.0) ≡ false
    at : look_of s r ≡ Some l

  by_number : (r : ReqId) (l : Look) → look_of t r ≡ Some l → (B : Type 0) → (IsOwn r l → B) → (WasThere r l → B) → B
  by_number r l at B own was = cases (r.0 == req.0) refl
    where
      cases : (b : Bool) → (r.0 == req.0) ≡ b → B
      cases true e =
          let same : r ≡ req = req_same r req e in
          let both : Some begun ≡ Some l = sym own_look ∙ ap (look_of t) (sym same) ∙ at in
          own (record { number = ap (λ (x : ReqId). x.0) same; is = let is : begun ≡ l = cc in is })
      cases false e = was (record { apart = e; at = sym (other_look r e) ∙ at })

  -- the new state is above all that were numbered
  above : (n : ℕ) → n ≤ s.states → n ≡ s.states + 1 → ⊥
  above n low e = omega (arith, low, e)

  own_loading : (l : Look) → begun ≡ l → IsLoading t l
  own_loading l is =
      subst (λ (x : Look). IsLoading t x) is (record {
        nav = nav;
        mode = mode;
        address = address;
        what = what;
        state = next;
        state_is = refl;
        numbered = subst (λ (n : ℕ). s.states + 1 ≤ n) (sym states_are) (let up : s.states + 1 ≤ s.states + 1 = omega arith in up);
        unmade = unmade;
        unheld = λ row has same. above row.state.0 (are.rows_ row has) same;
        whose = λ doc d at same. absurd (above d.state.0 (are.documents doc d at) same);
        unshown = λ doc d at same. absurd (above d.state.0 (are.documents doc d at) same);
      })

  old_loading : (l : Look) → IsLoading s l → IsLoading t l
  old_loading l is =
      record {
        nav = is.nav;
        mode = is.mode;
        address = is.address;
        what = is.what;
        state = is.state;
        state_is = is.state_is;
        numbered = longer is.state.0 s.states t.states is.numbered more;
        unmade = is.unmade;
        unheld = is.unheld;
        whose = is.whose;
        unshown = is.unshown;
      }
    where
      longer : (a b c : ℕ) → a ≤ b → b ≤ c → a ≤ c
      longer a b c one two = omega (arith, one, two)

  longer : (a : ℕ) → a ≤ s.states → a ≤ t.states
  longer a one = subst (λ (n : ℕ). a ≤ n) (sym states_are) (let up : a ≤ s.states + 1 = omega (arith, one) in up)

  -- an ongoing load of before has a lower state
  lower : (r : ReqId) (l : Look) (state : StateId) → look_of s r ≡ Some l → is_ongoing l ≡ true → l.state ≡ Some state → state.0 ≡ s.states + 1 → ⊥
  lower r l state at on has e =
      let is = are.each r l at on in
      let both : Some is.state ≡ Some state = sym is.state_is ∙ has in
      let same : is.state ≡ state = cc in
      above state.0 (subst (λ (x : StateId). x.0 ≤ s.states) same is.numbered) e

  state_of_own : (l : Look) (state : StateId) → begun ≡ l → l.state ≡ Some state → state.0 ≡ s.states + 1
  state_of_own l state is has =
      let both : Some next ≡ Some state = ap (λ (x : Look). x.state) is ∙ has in
      let same : next ≡ state = cc in
      ap (λ (x : StateId). x.0) (sym same)

  nav_of_own : (n : NavId) (l : Look) → begun ≡ l → loads n l.what ≡ true → n ≡ nav
  nav_of_own n l is loads_it =
      let same : (nav.0 == n.0) ≡ true = ap (λ (w : Request). loads n w) (sym what ∙ ap (λ (x : Look). x.what) is) ∙ loads_it in
      ap (λ (k : ℕ). let x : NavId = record { 0 = k } in x) (sym (eqb-true nav.0 n.0 same))

  pub begun_loading : AreLoading t
  begun_loading =
      record {
        each = λ r l at on. by_number r l at (IsLoading t l) (λ own. own_loading l own.is) (λ was. old_loading l (are.each r l was.at on));
        one = one;
        apart = apart;
        rows_ = λ row has. longer row.state.0 (are.rows_ row has);
        documents = λ doc d at. longer d.state.0 (are.documents doc d at);
      }
    where
      one : (a b : ReqId) (l m : Look) (n : NavId) → look_of t a ≡ Some l → look_of t b ≡ Some m → is_ongoing l ≡ true → is_ongoing m ≡ true → loads n l.what ≡ true → loads n m.what ≡ true → a.0 ≡ b.0
      one a b l m n at_a at_b on_a on_b loads_a loads_b =
          by_number a l at_a (a.0 ≡ b.0)
          (λ own. by_number b m at_b (a.0 ≡ b.0) (λ its. own.number ∙ sym its.number) (λ was. absurd (alone b m was.at on_b (subst (λ (k : NavId). loads k m.what ≡ true) (nav_of_own n l own.is loads_a) loads_b))))
          (λ was. by_number b m at_b (a.0 ≡ b.0) (λ its. absurd (alone a l was.at on_a (subst (λ (k : NavId). loads k l.what ≡ true) (nav_of_own n m its.is loads_b) loads_a))) (λ there. are.one a b l m n was.at there.at on_a on_b loads_a loads_b))

      apart : (a b : ReqId) (l m : Look) (state : StateId) → look_of t a ≡ Some l → look_of t b ≡ Some m → is_ongoing l ≡ true → is_ongoing m ≡ true → l.state ≡ Some state → m.state ≡ Some state → a.0 ≡ b.0
      apart a b l m state at_a at_b on_a on_b state_a state_b =
          by_number a l at_a (a.0 ≡ b.0)
          (λ own. by_number b m at_b (a.0 ≡ b.0) (λ its. own.number ∙ sym its.number) (λ was. absurd (lower b m state was.at on_b state_b (state_of_own l state own.is state_a))))
          (λ was. by_number b m at_b (a.0 ≡ b.0) (λ its. absurd (lower a l state was.at on_a state_a (state_of_own m state its.is state_b))) (λ there. are.apart a b l m state was.at there.at on_a on_b state_a state_b))

-- as the tab opens nothing is loaded
pub opened_loading : (event : ℕ) (actor : Actor) (entry : EntryId) (state : StateId) (doc : DocId) (proc : ProcId) (slot : Option ℕ) (address : List ℕ) → state.0 ≤ 1 → AreLoading (after nothing (record { event = event; actor = actor; row = rows.Opened entry state doc proc slot address }))
opened_loading event actor entry state doc proc slot address first =
    record {
      each = λ req l at on. absurd (none req l at);
      one = λ a b l m nav at_a at_b on_a on_b loads_a loads_b. absurd (none a l at_a);
      apart = λ a b l m x at_a at_b on_a on_b state_a state_b. absurd (none a l at_a);
      rows_ = rows_;
      documents = documents;
    }
  where
    opened : Seen
    opened = after nothing (record { event = event; actor = actor; row = rows.Opened entry state doc proc slot address })

    none : (req : ReqId) (l : Look) → look_of opened req ≡ Some l → ⊥
    none req l at = by_zero (req.0 == 0) at
      where
        by_zero : (b : Bool) → option_map look (let o : Option Asked = cond b None None in o) ≡ Some l → ⊥
        by_zero true e = cc
        by_zero false e = cc

    rows_ : (row : Row) → Has opened.history.rows row → row.state.0 ≤ opened.states
    rows_ row (inl same) = subst (λ (r : Row). r.state.0 ≤ 1) same first
    rows_ row (inr never) = absurd never

    documents : (other : DocId) (d : Document) → document_in opened.documents other ≡ Some d → d.state.0 ≤ opened.states
    documents other d at = by_doc (doc.0 == other.0) at
      where
        by_doc : (b : Bool) → (let o : Option Document = cond b (Some (opening_document entry state doc proc slot address)) None in o) ≡ Some d → d.state.0 ≤ 1
        by_doc true e = let same : opening_document entry state doc proc slot address ≡ d = cc in subst (λ (x : Document). x.state.0 ≤ 1) same first
        by_doc false e = absurd cc
