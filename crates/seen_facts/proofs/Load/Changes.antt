-- The ongoing loads over each applied change: it brings an entry of a document state that no other ongoing load has.
use Rattle.std.proofs.Common.{◌≡◌, ℕ, ◌+◌, ◌≤◌, Bool, true, false, not, ◌&&◌, List, map, Option, Some, None, refl, sym, ap, ◌∙◌, subst, inl, inr, ◌⊎◌, arith}
use Rattle.std.specs.Prelude.{filter, nat_le, option_map}
use Rattle.tab_ids.specs.declared.DocId.{DocId}
use Rattle.tab_ids.specs.declared.EntryId.{EntryId}
use Rattle.tab_ids.specs.declared.NavId.{NavId}
use Rattle.tab_ids.specs.declared.ReqId.{ReqId}
use Rattle.tab_ids.specs.declared.StateId.{StateId}
use Rattle.address.specs.Addresses.{blank_text}
use Rattle.log_model.specs.declared.change.Change.{Change}
use Rattle.log_model.specs.declared.change.Change.TheVariants as changes
use Rattle.log_model.specs.declared.outcome.Ending.TheVariants as endings
use Rattle.log_model.specs.declared.row.Row.{Row}
use Rattle.log_model.specs.declared.row_kind.Actor.{Actor}
use Rattle.log_model.specs.declared.row_kind.RowKind.TheVariants as rows
use Rattle.log_model.specs.After.{after, ended}
use Rattle.log_model.specs.AfterRequests.{entries_taken, on_request}
use Rattle.log_model.specs.Equal.{has_doc}
use Rattle.log_model.specs.History.{cleared, first_step, is_of, owner_of, replaced_row, same_entry, tidied}
use Rattle.log_model.specs.Places.{is_load}
use Rattle.log_model.specs.Seen.{Seen, Asked, Document, Place, place_of, request_in}
use Rattle.seen_facts.specs.Hang.Members.{Has}
use Rattle.seen_facts.proofs.Hang.Members.{IsOf, has_filter, has_map, has_more, has_tidied}
use Rattle.seen_facts.specs.Home.Homes.{document_in}
use Rattle.seen_facts.proofs.Request.LookUps.{on_itself}
use Rattle.seen_facts.proofs.Request.Readers.{on_read}
use Rattle.seen_facts.specs.Load.Loading.{Look, look, look_of, is_ongoing, AreLoading}
use Rattle.seen_facts.proofs.Load.Leaves.{IsFree, WasHeld, left_loading}
use Rattle.seen_facts.proofs.Load.Docs.{applied_awakes, changed_docs, was_doc}
use Rattle.seen_facts.proofs.Load.Rows.{KeepLooks, ended_looks, read_looks}

-- ---- what the history has then

-- an entry of the document state was there
was_held : (s : Seen) (row : Row) → Has s.history.rows row → WasHeld s row.state
was_held s row has = record { row = row; has = has; same = refl }

-- a row then is of before, or of the new one's document state
abbrev IsOldOr : Seen → StateId → Row → Type 0
IsOldOr s state row = Has s.history.rows row ⊎ (row.state ≡ state)

replaced : (s : Seen) (over : EntryId) (put : Row) (row : Row) → Has (tidied (map (replaced_row over put) s.history.rows)) row → IsOldOr s put.state row
replaced s over put row has = by_tests w.it w.there w.is (same_entry w.it.entry over) (is_of put.nav w.it) refl refl
  where
    w : IsOf (replaced_row over put) s.history.rows row
    w = has_map (replaced_row over put) s.history.rows row (has_tidied (map (replaced_row over put) s.history.rows) row has).0

    by_tests : (x : Row) → Has s.history.rows x → replaced_row over put x ≡ row → (b c : Bool) → same_entry x.entry over ≡ b → is_of put.nav x ≡ c → IsOldOr s put.state row
    by_tests x there is_ true true e f =
        let new : record put { owner = x.owner; step = x.step } ≡ row = (let v : replaced_row over put x ≡ record put { owner = x.owner; step = x.step } = rw (e, f) refl in sym v ∙ is_) in
        inr (ap (λ (r : Row). r.state) (sym new))
    by_tests x there is_ true false e f =
        let same : x ≡ row = (let v : replaced_row over put x ≡ x = rw (e, f) refl in sym v ∙ is_) in inl (subst (λ (r : Row). Has s.history.rows r) same there)
    by_tests x there is_ false c e f =
        let same : x ≡ row = (let v : replaced_row over put x ≡ x = rw e refl in sym v ∙ is_) in inl (subst (λ (r : Row). Has s.history.rows r) same there)

behind : (s : Seen) (put row : Row) → Has s.history.rows row ⊎ (put ≡ row) → IsOldOr s put.state row
behind s put row (inl old) = inl old
behind s put row (inr same) = inr (ap (λ (r : Row). r.state) (sym same))

pushed_behind : (s : Seen) (put row : Row) → Has (cleared s.history) row ⊎ (put ≡ row) → IsOldOr s put.state row
pushed_behind s put row (inl old) =
    inl (has_filter (λ (r : Row). nat_le r.step.0 s.history.current) s.history.rows row (has_tidied (filter (λ (r : Row). nat_le r.step.0 s.history.current) s.history.rows) row old).0).0
pushed_behind s put row (inr same) = behind s put row (inr same)

-- the document state was numbered, and no ongoing load has it but that of the request
pub record IsOthersFree (s : Seen) (req : ReqId) (state : StateId) : Type 0 where
  pub numbered : state.0 ≤ s.states
  pub others : (other : ReqId) (l : Look) → look_of s other ≡ Some l → is_ongoing l ≡ true → l.state ≡ Some state → other.0 ≡ req.0

-- the document state of a change is none that another ongoing load has: a new frame's is the next, that of a push or a replace was numbered
abbrev pub BringsFree : Seen → ReqId → Change → Type 0
BringsFree s req (changes.Push nav entry state address memo) = IsOthersFree s req state
BringsFree s req (changes.Replace nav over entry state address memo) = IsOthersFree s req state
BringsFree s req (changes.AddFrame owner nav entry state) = state.0 ≡ s.states + 1
BringsFree s req _ = Unit {0}

-- so is the document state of a load that is applied, and that of a document that was ever shown
pub own_free : (s : Seen) (req : ReqId) (l : Look) (state : StateId) → AreLoading s → look_of s req ≡ Some l → is_ongoing l ≡ true → l.state ≡ Some state → IsOthersFree s req state
own_free s req l state are at on has =
    let is = are.each req l at on in
    let both : Some is.state ≡ Some state = sym is.state_is ∙ has in
    let same : is.state ≡ state = cc in
    record { numbered = subst (λ (x : StateId). x.0 ≤ s.states) same is.numbered; others = λ other m there on_m has_m. are.apart other req m l state there at on_m on has_m has }

pub shown_free : (s : Seen) (doc : DocId) (d : Document) (nav : NavId) (place : Place) → AreLoading s → document_in s.documents doc ≡ Some d → place_of s nav ≡ Some place → has_doc place.ever_awake doc ≡ true → IsFree s d.state
shown_free s doc d nav place are found there shown req l at on has =
    let is = are.each req l at on in
    let both : Some is.state ≡ Some d.state = sym is.state_is ∙ has in
    let same : is.state ≡ d.state = cc in
    let never = is.unshown doc d found (ap (λ (x : StateId). x.0) (sym same)) nav place there in
    (let no_ : true ≡ false = sym shown ∙ never in cc)

pub document_free : (s : Seen) (req : ReqId) (doc : DocId) (d : Document) (nav : NavId) (place : Place) → AreLoading s → document_in s.documents doc ≡ Some d → place_of s nav ≡ Some place → has_doc place.ever_awake doc ≡ true → IsOthersFree s req d.state
document_free s req doc d nav place are found there shown =
    record {
      numbered = are.documents doc d found;
      others = λ other l at on has. absurd (shown_free s doc d nav place are found there shown other l at on has);
    }

-- nor has one the document state of an entry
pub row_free : (s : Seen) (row : Row) → AreLoading s → Has s.history.rows row → IsFree s row.state
row_free s row are has req l at on state =
    let is = are.each req l at on in
    let both : Some is.state ≡ Some row.state = sym is.state_is ∙ state in
    let same : is.state ≡ row.state = cc in
    is.unheld row has (ap (λ (x : StateId). x.0) (sym same))

-- ---- the row

module _ (s : Seen) (event : ℕ) (actor : Actor) (are : AreLoading s) (req : ReqId) (change : Change) where
  abbrev t : Seen
  t = after s (record { event = event; actor = actor; row = rows.Applied req change })

  abbrev over : List Asked
  over = ended s.requests req endings.Applied

  abbrev said : Asked → Asked
  said q = record q { change = Some change }

  abbrev taken : Asked → Asked
  taken q = record q { took = entries_taken s.history change }

  looks : KeepLooks s.requests t.requests
  looks r l at on =
      ended_looks s.requests req endings.Applied r l (read_looks over (on_request req said over) (on_read look over req said (λ q. refl)) r l (read_looks (on_request req said over) t.requests (on_read look (on_request req said over) req taken (λ q. refl)) r l at on) on) on

  -- its own request has ended
  own_over : (l : Look) → look_of t req ≡ Some l → is_ongoing l ≡ true → ⊥
  own_over l at on = by_found (request_in s.requests req) refl
    where
      itself : request_in t.requests req ≡ option_map taken (option_map said (option_map (λ q. let x : Asked = record q { ending = Some endings.Applied } in x) (request_in s.requests req)))
      itself =
          on_itself (on_request req said over) req taken
          ∙ ap (λ (o : Option Asked). option_map taken o) (on_itself over req said ∙ ap (λ (o : Option Asked). option_map said o) (on_itself s.requests req (λ q. record q { ending = Some endings.Applied })))

      none : (a b : Bool) → ((a && false) && b) ≡ false
      none true b = refl
      none false b = refl

      by_found : (o : Option Asked) → request_in s.requests req ≡ o → ⊥
      by_found None e =
          let no_ : None ≡ Some l = sym (ap (λ (o : Option Asked). option_map look o) (itself ∙ ap (λ (o : Option Asked). option_map taken (option_map said (option_map (λ q. let x : Asked = record q { ending = Some endings.Applied } in x) o))) e)) ∙ at in
          cc
      by_found (Some q) e =
          let both : Some (record { what = q.what; is_started = q.is_started; ending = Some endings.Applied; state = q.state; made = q.made }) ≡ Some l = sym (ap (λ (o : Option Asked). option_map look o) (itself ∙ ap (λ (o : Option Asked). option_map taken (option_map said (option_map (λ q. let x : Asked = record q { ending = Some endings.Applied } in x) o))) e)) ∙ at in
          let same : (let x : Look = record { what = q.what; is_started = q.is_started; ending = Some endings.Applied; state = q.state; made = q.made } in x) ≡ l = cc in
          let no_ : false ≡ true = sym (none q.is_started (is_load q.what)) ∙ ap is_ongoing same ∙ on in
          cc

  free_then : (state : StateId) → IsOthersFree s req state → IsFree t state
  free_then state free r l at on has =
      let number : r.0 ≡ req.0 = free.others r l (looks r l at on) on has in
      let same : r ≡ req = ap (λ (n : ℕ). let x : ReqId = record { 0 = n } in x) number in
      own_over l (ap (look_of t) (sym same) ∙ at) on

  next_free : (state : StateId) → state.0 ≡ s.states + 1 → IsFree t state
  next_free state next r l at on has =
      let is = are.each r l (looks r l at on) on in
      let both : Some is.state ≡ Some state = sym is.state_is ∙ has in
      let same : is.state ≡ state = cc in
      above state.0 s.states (subst (λ (x : StateId). x.0 ≤ s.states) same is.numbered) next
    where
      above : (n m : ℕ) → n ≤ m → n ≡ m + 1 → ⊥
      above n m low e = omega (arith, low, e)

  -- one of before, or of the new document state
  by_old : (row : Row) (state : StateId) → (IsFree t state × (state.0 ≤ t.states)) → IsOldOr s state row → WasHeld s row.state ⊎ (IsFree t row.state × (row.state.0 ≤ t.states))
  by_old row state new (inl has) = inl (was_held s row has)
  by_old row state new (inr same) = inr (subst (λ (x : StateId). IsFree t x × (x.0 ≤ t.states)) (sym same) new)

  by_rows : s.states ≤ t.states → ((row : Row) → Has t.history.rows row → WasHeld s row.state ⊎ (IsFree t row.state × (row.state.0 ≤ t.states))) → AreLoading t
  by_rows states rows_ =
      left_loading s t (record {
        looks = looks;
        states = states;
        rows_ = rows_;
        documents = λ doc d found. inl (was_doc s t.documents (changed_docs change s.documents) doc d found);
        awakes = λ n place doc d there on found. inl (applied_awakes s req change n place doc there on);
      }) are

least : (n : ℕ) → n ≤ n
least n = omega arith

pub applied_loading : (s : Seen) (event : ℕ) (actor : Actor) → AreLoading s → (req : ReqId) (change : Change) → BringsFree s req change → AreLoading (after s (record { event = event; actor = actor; row = rows.Applied req change }))
applied_loading s event actor are req (changes.Push nav entry state address memo) free =
    by_rows s event actor are req (changes.Push nav entry state address memo) (least s.states) (λ row has. by_old s event actor are req (changes.Push nav entry state address memo) row state (free_then s event actor are req (changes.Push nav entry state address memo) state free, free.numbered) (pushed_behind s put row (has_more (cleared s.history) put row has)))
  where
    put : Row
    put = record { owner = owner_of nav (cleared s.history); nav = nav; entry = entry; step = record { 0 = s.history.current + 1 }; state = state; address = address; memo = memo }
applied_loading s event actor are req (changes.Replace nav over entry state address memo) free =
    by_rows s event actor are req (changes.Replace nav over entry state address memo) (least s.states) (λ row has. by_old s event actor are req (changes.Replace nav over entry state address memo) row state (free_then s event actor are req (changes.Replace nav over entry state address memo) state free, free.numbered) (replaced s over put row has))
  where
    put : Row
    put = record { owner = None; nav = nav; entry = entry; step = record { 0 = 0 }; state = state; address = address; memo = memo }
applied_loading s event actor are req (changes.AddFrame owner nav entry state) next =
    by_rows s event actor are req (changes.AddFrame owner nav entry state) (let up : s.states ≤ s.states + 1 = omega arith in up) (λ row has. by_old s event actor are req (changes.AddFrame owner nav entry state) row state (next_free s event actor are req (changes.AddFrame owner nav entry state) state next, (let low : state.0 ≤ s.states + 1 = omega (arith, next) in low)) (behind s put row (has_more s.history.rows put row has)))
  where
    put : Row
    put = record { owner = Some owner; nav = nav; entry = entry; step = record { 0 = first_step owner s.history.rows }; state = state; address = blank_text; memo = None }
applied_loading s event actor are req (changes.RemoveFrame nav) free =
    by_rows s event actor are req (changes.RemoveFrame nav) (least s.states) (λ row has. inl (was_held s row (has_filter (λ (r : Row). not (is_of nav r)) s.history.rows row (has_tidied (filter (λ (r : Row). not (is_of nav r)) s.history.rows) row has).0).0))
applied_loading s event actor are req (changes.Traverse goal) free =
    by_rows s event actor are req (changes.Traverse goal) (least s.states) (λ row has. inl (was_held s row has))
applied_loading s event actor are req (changes.Reload nav) free =
    by_rows s event actor are req (changes.Reload nav) (least s.states) (λ row has. inl (was_held s row has))
applied_loading s event actor are req changes.Edit free =
    by_rows s event actor are req changes.Edit (least s.states) (λ row has. inl (was_held s row has))
