-- Lists of what was made from which something goes: numbers go on rising, and replaces go on being of the entry before, where what goes is no entry of a document that is shown.
use Rattle.std.proofs.Common.{◌≡◌, ◌⊎◌, inl, inr, ℕ, Bool, true, false, cond, not, ◌||◌, ◌==◌, List, [], ◌∷◌, ◌++◌, Option, Some, None, refl, sym, ap, subst}
use Rattle.std.specs.Prelude.{filter, filter_map, option_and_then}
use Rattle.tab_ids.specs.declared.DocId.{DocId}
use Rattle.tab_ids.specs.declared.EntryId.{EntryId}
use Rattle.tab_ids.specs.declared.NavId.{NavId}
use Rattle.tab_ids.specs.declared.ReqId.{ReqId}
use Rattle.log_model.specs.declared.made.Made.{Made}
use Rattle.log_model.specs.declared.made.What.{What}
use Rattle.log_model.specs.declared.made.What.TheVariants as whats
use Rattle.log_model.specs.Equal.{has_req}
use Rattle.log_model.specs.History.{has_row}
use Rattle.log_model.specs.AfterRequests.{without_req}
use Rattle.log_model.specs.Seen.{Seen, Asked, Place, awake, place_of, request_in}
use Rattle.seen_facts.specs.Coord.Leading.{is_made_under, held_back}
use Rattle.seen_facts.proofs.Coord.Held.{held_alike}
use Rattle.seen_facts.specs.Hang.Members.{Has}
use Rattle.log_model.proofs.Refl.{nat_eq_refl}
use Rattle.seen_facts.specs.Each.Mades.{Ascend, Continues, entry_after, number_after}
use Rattle.seen_facts.specs.Each.Items.{Each}
use Rattle.seen_facts.proofs.Each.Eaches.{ascend_less}

abbrev front : Option Made → List Made → List Made
front None rest = rest
front (Some m) rest = m ∷ rest

-- the second list is the first without some of those that are so
abbrev pub Skips : (Made → Type 0) → List Made → List Made → Type 0
Skips P [] ys = ys ≡ []
Skips P (x ∷ xs) ys = (P x × Skips P xs ys) ⊎ ((zs : List Made) × (ys ≡ x ∷ zs) × Skips P xs zs)

module _ (P : Made → Type 0) where
  pub skips_same : (xs : List Made) → Skips P xs xs
  skips_same [] = refl
  skips_same (x ∷ xs) = inr (xs, refl, skips_same xs)

  pub skips_append : (xs ys us vs : List Made) → Skips P xs ys → Skips P us vs → Skips P (xs ++ us) (ys ++ vs)
  skips_append [] ys us vs none rest = subst (λ (l : List Made). Skips P us (l ++ vs)) (sym none) rest
  skips_append (x ∷ xs) ys us vs (inl (gone, more)) rest = inl (gone, skips_append xs ys us vs more rest)
  skips_append (x ∷ xs) ys us vs (inr (zs, is, more)) rest =
      inr (zs ++ vs, ap (λ (l : List Made). l ++ vs) is, skips_append xs zs us vs more rest)

  -- the numbers go on rising
  pub ascends_skip : (to : ℕ) (xs ys : List Made) → Skips P xs ys → (from : ℕ) → Ascend from xs to → Ascend from ys to
  ascends_skip to [] ys none from is = subst (λ (l : List Made). Ascend from l to) (sym none) is
  ascends_skip to (x ∷ xs) ys (inl (gone, more)) from is = ascends_skip to xs ys more from (ascend_less from to x xs is)
  ascends_skip to (x ∷ xs) ys (inr (zs, same, more)) from is =
      subst (λ (l : List Made). Ascend from l to) (sym same) (is.0, ascends_skip to xs zs more (number_after from x.what) is.1)

  -- where there is nothing, there is nothing
  pub none_skip : (xs ys : List Made) → Skips P xs ys → xs ≡ [] → ys ≡ []
  none_skip [] ys none is = none
  none_skip (x ∷ xs) ys some is = absurd cc

  -- of those that pass a test, what goes passes it
  pub filter_skip : (p : Made → Bool) (xs ys : List Made) → Skips P xs ys → Skips (λ (x : Made). P x × (p x ≡ true)) (filter p xs) (filter p ys)
  filter_skip p [] ys none = ap (filter p) none
  filter_skip p (x ∷ xs) ys (inl (gone, more)) = by_test (p x) refl (filter_skip p xs ys more)
    where
      by_test : (b : Bool) → p x ≡ b → Skips (λ (x : Made). P x × (p x ≡ true)) (filter p xs) (filter p ys) → Skips (λ (x : Made). P x × (p x ≡ true)) (cond b (x ∷ filter p xs) (filter p xs)) (filter p ys)
      by_test true e rest = inl ((gone, e), rest)
      by_test false e rest = rest
  filter_skip p (x ∷ xs) ys (inr (zs, same, more)) =
      subst (λ (l : List Made). Skips (λ (x : Made). P x × (p x ≡ true)) (filter p (x ∷ xs)) (filter p l)) (sym same) (by_test (p x) (filter_skip p xs zs more))
    where
      by_test : (b : Bool) → Skips (λ (x : Made). P x × (p x ≡ true)) (filter p xs) (filter p zs) → Skips (λ (x : Made). P x × (p x ≡ true)) (cond b (x ∷ filter p xs) (filter p xs)) (cond b (x ∷ filter p zs) (filter p zs))
      by_test true rest = inr (filter p zs, refl, rest)
      by_test false rest = rest

  -- what holds of each of the first holds of each of the second
  pub each_skip : (F : Made → Type 0) (xs ys : List Made) → Skips P xs ys → Each F xs → Each F ys
  each_skip F [] ys none all = subst (λ (l : List Made). Each F l) (sym none) all
  each_skip F (x ∷ xs) ys (inl (gone, more)) all = each_skip F xs ys more all.1
  each_skip F (x ∷ xs) ys (inr (zs, same, more)) all =
      subst (λ (l : List Made). Each F l) (sym same) (all.0, each_skip F xs zs more all.1)

-- no new entry was made
abbrev pub IsNoEntry : What → Type 0
IsNoEntry (whats.Push entry memo address) = ⊥
IsNoEntry (whats.Replace over entry memo address) = ⊥
IsNoEntry _ = Unit {0}

no_entry_on : (what : What) → IsNoEntry what → (entry : EntryId) (xs : List Made) → Continues (entry_after entry what) xs → Continues entry xs
no_entry_on (whats.Push new memo address) never entry xs is = absurd never
no_entry_on (whats.Replace over new memo address) never entry xs is = absurd never
no_entry_on (whats.AddFrame nav) none entry xs is = is
no_entry_on (whats.RemoveFrame nav) none entry xs is = is
no_entry_on (whats.Go delta) none entry xs is = is
no_entry_on whats.Edit none entry xs is = is

-- replaces go on being of the entry before
pub continues_skip : (P : Made → Type 0) → ((made : Made) → P made → IsNoEntry made.what) → (xs ys : List Made) → Skips P xs ys → (given : EntryId) → Continues given xs → Continues given ys
continues_skip P none [] ys same given is = subst (λ (l : List Made). Continues given l) (sym same) is
continues_skip P none (x ∷ xs) ys (inl (gone, more)) given is =
    continues_skip P none xs ys more given (no_entry_on x.what (none x gone) given xs is.1)
continues_skip P none (x ∷ xs) ys (inr (zs, same, more)) given is =
    subst (λ (l : List Made). Continues given l) (sym same) (is.0, continues_skip P none xs zs more (entry_after given x.what) is.1)

-- ---- what goes as a request ends

-- it is no entry of a document that is shown, in a navigable with a row, under the epoch in which it was made
abbrev pub IsPassed : Seen → Made → Type 0
IsPassed s made =
    (nav : NavId) (place : Place) (doc : DocId) → place_of s nav ≡ Some place → place.status ≡ awake doc → has_row place.nav s.history.rows ≡ true → is_made_under doc place.epoch made ≡ true → IsNoEntry made.what

-- what was made of a request
abbrev pub made_in : List Asked → ReqId → Option Made
made_in asked req = option_and_then (λ (q : Asked). q.made) (request_in asked req)

-- some of them are left out
left_out : (P : Made → Type 0) (f : ReqId → Option Made) (req : ReqId) (parked : List ReqId) → ((r : ReqId) (made : Made) → (r.0 == req.0) ≡ true → has_req parked r ≡ true → f r ≡ Some made → P made) → Skips P (filter_map f parked) (filter_map f (without_req req parked))
left_out P f req [] gone = refl
left_out P f req (r ∷ parked) gone = by_tests (r.0 == req.0) (f r) refl refl (left_out P f req parked later)
  where
    either : (a b : Bool) → b ≡ true → (a || b) ≡ true
    either true b e = refl
    either false b e = e

    later : (x : ReqId) (made : Made) → (x.0 == req.0) ≡ true → has_req parked x ≡ true → f x ≡ Some made → P made
    later x made e has is = gone x made e (either (r.0 == x.0) (has_req parked x) has) is

    itself : (r.0 == req.0) ≡ true → (made : Made) → f r ≡ Some made → P made
    itself e made is = gone r made e (rw (nat_eq_refl r.0) refl) is

    by_front : (l : List ReqId) (o : Option Made) → f r ≡ o → filter_map f (r ∷ l) ≡ front o (filter_map f l)
    by_front l None e = rw e refl
    by_front l (Some m) e = rw e refl

    by_tests : (b : Bool) (o : Option Made) → (r.0 == req.0) ≡ b → f r ≡ o → Skips P (filter_map f parked) (filter_map f (without_req req parked)) → Skips P (filter_map f (r ∷ parked)) (filter_map f (cond (not b) (r ∷ without_req req parked) (without_req req parked)))
    by_tests true None e is more = subst (λ (l : List Made). Skips P l (filter_map f (without_req req parked))) (sym (by_front parked None is)) more
    by_tests true (Some m) e is more =
        subst (λ (l : List Made). Skips P l (filter_map f (without_req req parked))) (sym (by_front parked (Some m) is)) (inl (itself e m is, more))
    by_tests false None e is more =
        subst (λ (l : List Made). Skips P l (filter_map f (r ∷ without_req req parked))) (sym (by_front parked None is)) (subst (λ (l : List Made). Skips P (filter_map f parked) l) (sym (by_front (without_req req parked) None is)) more)
    by_tests false (Some m) e is more =
        subst (λ (l : List Made). Skips P l (filter_map f (r ∷ without_req req parked))) (sym (by_front parked (Some m) is)) (inr (filter_map f (without_req req parked), by_front (without_req req parked) (Some m) is, more))

-- one of the held back requests ends, or none
pub held_skips : (P : Made → Type 0) (asked next : List Asked) (parked : List ReqId) (req : ReqId) → ((r : ReqId) → made_in next r ≡ made_in asked r) → ((r : ReqId) (made : Made) → (r.0 == req.0) ≡ true → has_req parked r ≡ true → made_in asked r ≡ Some made → P made) → Skips P (held_back asked parked) (held_back next (without_req req parked))
held_skips P asked next parked req same gone =
    subst (λ (l : List Made). Skips P (held_back asked parked) l) (sym (held_alike asked next (without_req req parked) same)) (left_out P (made_in asked) req parked gone)

-- what is at hand of a request goes as the request ends
abbrev pub without_made : ReqId → List Made → List Made
without_made req hand = filter (λ (made : Made). not (made.req.0 == req.0)) hand

pub hand_skips : (P : Made → Type 0) (req : ReqId) (hand : List Made) → ((made : Made) → Has hand made → (made.req.0 == req.0) ≡ true → P made) → Skips P hand (without_made req hand)
hand_skips P req [] gone = refl
hand_skips P req (x ∷ hand) gone = by_test (x.req.0 == req.0) refl (hand_skips P req hand (λ made has e. gone made (inr has) e))
  where
    by_test : (b : Bool) → (x.req.0 == req.0) ≡ b → Skips P hand (without_made req hand) → Skips P (x ∷ hand) (cond (not b) (x ∷ without_made req hand) (without_made req hand))
    by_test true e more = inl (gone x (inl refl) e, more)
    by_test false e more = inr (without_made req hand, refl, more)
