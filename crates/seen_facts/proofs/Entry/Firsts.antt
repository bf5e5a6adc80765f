-- What a document made and waits first of all that it made: the lists without it, and when it is so.
use Rattle.std.proofs.Common.{◌≡◌, inl, inr, Bool, true, false, cond, not, ◌==◌, List, [], ◌∷◌, ◌++◌, Some, refl, sym, ap, ◌∙◌}
use Rattle.std.specs.Prelude.{filter}
use Rattle.std.proofs.lemmas.List.Elements.{filter-append}
use Rattle.tab_ids.specs.declared.DocId.{DocId}
use Rattle.tab_ids.specs.declared.ReqId.{ReqId}
use Rattle.log_model.specs.declared.made.Made.{Made}
use Rattle.log_model.specs.Seen.{Seen, request_in}
use Rattle.seen_facts.specs.Coord.Leading.{held_back}
use Rattle.seen_facts.proofs.Coord.Held.{held_alike, made_of, without_same}
use Rattle.log_model.specs.Equal.{has_req}
use Rattle.log_model.specs.AfterRequests.{without_req}
use Rattle.seen_facts.specs.Hang.Members.{Has}
use Rattle.log_model.proofs.Refl.{nat_eq_refl}
use Rattle.seen_facts.specs.Each.Items.{Each}
use Rattle.seen_facts.specs.Entry.Entries.{waiting}
use Rattle.seen_facts.proofs.Entry.Ends.{Ended}
use Rattle.seen_facts.proofs.Entry.Skips.{without_made}

-- ---- the first of its document that waits, and what waits then

-- it stands in the first list, behind nothing of its document, and the second is the first without it
pub record IsFirstOf (xs : List Made) (made : Made) (ys : List Made) : Type 0 where
  pub before : List Made
  pub later : List Made
  pub whole : xs ≡ before ++ made ∷ later
  pub left : ys ≡ before ++ later
  pub none : filter (λ (m : Made). m.doc.0 == made.doc.0) before ≡ []

join_in : (xs ys zs : List Made) → (xs ++ ys) ++ zs ≡ xs ++ (ys ++ zs)
join_in [] ys zs = refl
join_in (x ∷ xs) ys zs = ap (λ (l : List Made). x ∷ l) (join_in xs ys zs)

-- with more behind
pub first_with : (xs : List Made) (made : Made) (ys more : List Made) → IsFirstOf xs made ys → IsFirstOf (xs ++ more) made (ys ++ more)
first_with xs made ys more is =
    record {
      before = is.before;
      later = is.later ++ more;
      whole = ap (λ (l : List Made). l ++ more) is.whole ∙ join_in is.before (made ∷ is.later) more;
      left = ap (λ (l : List Made). l ++ more) is.left ∙ join_in is.before is.later more;
      none = is.none;
    }

pub each_parts : {A : Type 0} (F : A → Type 0) (xs : List A) (x : A) (ys : List A) → Each F (xs ++ x ∷ ys) → F x × Each F (xs ++ ys)
each_parts F [] x ys all = (all.0, all.1)
each_parts F (z ∷ xs) x ys all = let rest = each_parts F xs x ys all.1 in (rest.0, (all.0, rest.1))

module _ (xs : List Made) (made : Made) (ys : List Made) (is : IsFirstOf xs made ys) where
  abbrev pub its : DocId → List Made → List Made
  its doc l = filter (λ (m : Made). m.doc.0 == doc.0) l

  its_parts : (doc : DocId) → its doc xs ≡ its doc is.before ++ its doc (made ∷ is.later)
  its_parts doc = ap (its doc) is.whole ∙ filter-append (λ (m : Made). m.doc.0 == doc.0) is.before (made ∷ is.later)

  its_left : (doc : DocId) → its doc ys ≡ its doc is.before ++ its doc is.later
  its_left doc = ap (its doc) is.left ∙ filter-append (λ (m : Made). m.doc.0 == doc.0) is.before is.later

  pub others_same : (doc : DocId) → (made.doc.0 == doc.0) ≡ false → its doc ys ≡ its doc xs
  others_same doc apart = its_left doc ∙ sym (its_parts doc ∙ (let one : its doc is.before ++ its doc (made ∷ is.later) ≡ its doc is.before ++ its doc is.later = rw apart refl in one))

  pub own_first : its made.doc xs ≡ made ∷ its made.doc ys
  own_first =
      its_parts made.doc
      ∙ ap (λ (l : List Made). l ++ its made.doc (made ∷ is.later)) is.none
      ∙ (let one : its made.doc (made ∷ is.later) ≡ made ∷ its made.doc is.later = rw (nat_eq_refl made.doc.0) refl in one)
      ∙ ap (λ (l : List Made). made ∷ l) (sym (its_left made.doc ∙ ap (λ (l : List Made). l ++ its made.doc is.later) is.none))

-- ---- how it is met

-- nothing of the request is at hand
without_none : (req : ReqId) (hand : List Made) → ((made : Made) → Has hand made → (made.req.0 == req.0) ≡ false) → without_made req hand ≡ hand
without_none req [] none = refl
without_none req (x ∷ hand) none =
    let first : (x.req.0 == req.0) ≡ false = none x (inl refl) in
    let rest : without_made req hand ≡ hand = without_none req hand (λ made has. none made (inr has)) in
    ap (λ (b : Bool). cond (not b) (x ∷ without_made req hand) (without_made req hand)) first ∙ ap (λ (l : List Made). x ∷ l) rest

module _ (hand : List Made) (s t : Seen) (req : ReqId) (made : Made) (ends : Ended s t req) where
  held_then : (parked : List ReqId) → held_back t.requests parked ≡ held_back s.requests parked
  held_then parked = held_alike s.requests t.requests parked ends.made

  -- it alone is at hand, its request isn't held back, and nothing of its document is
  pub at_hand_first : hand ≡ made ∷ [] → (made.req.0 == req.0) ≡ true → has_req s.parked req ≡ false → filter (λ (m : Made). m.doc.0 == made.doc.0) (held_back s.requests s.parked) ≡ [] → IsFirstOf (waiting s hand) made (waiting t (without_made req hand))
  at_hand_first alone number unparked apart =
      record {
        before = held_back s.requests s.parked;
        later = [];
        whole = ap (λ (l : List Made). held_back s.requests s.parked ++ l) alone;
        left =
            ap (λ (l : List ReqId). held_back t.requests l ++ without_made req hand) (ends.parked ∙ without_same s.parked req unparked)
            ∙ ap (λ (l : List Made). l ++ without_made req hand) (held_then s.parked)
            ∙ ap (λ (l : List Made). held_back s.requests s.parked ++ l) (ap (λ (l : List Made). without_made req l) alone ∙ ap (λ (b : Bool). cond (not b) (made ∷ []) []) number);
        none = apart;
      }

  -- its request is the first that is held back, once, and nothing of it is at hand
  pub held_first : (rest : List ReqId) → s.parked ≡ req ∷ rest → has_req rest req ≡ false → made_of (request_in s.requests req) ≡ Some made → ((m : Made) → Has hand m → (m.req.0 == req.0) ≡ false) → IsFirstOf (waiting s hand) made (waiting t (without_made req hand))
  held_first rest first once makes none =
      record {
        before = [];
        later = held_back s.requests rest ++ hand;
        whole = ap (λ (l : List ReqId). held_back s.requests l ++ hand) first ∙ ap (λ (l : List Made). l ++ hand) (front_is makes);
        left =
            ap (λ (l : List Made). held_back t.requests t.parked ++ l) (without_none req hand none)
            ∙ ap (λ (l : List ReqId). held_back t.requests l ++ hand) (ends.parked ∙ parked_then)
            ∙ ap (λ (l : List Made). l ++ hand) (held_then rest);
        none = refl;
      }
    where
      front_is : made_of (request_in s.requests req) ≡ Some made → held_back s.requests (req ∷ rest) ≡ made ∷ held_back s.requests rest
      front_is e = rw e refl

      parked_then : without_req req s.parked ≡ rest
      parked_then =
          ap (λ (l : List ReqId). without_req req l) first
          ∙ ap (λ (b : Bool). let l : List ReqId = cond (not b) (req ∷ without_req req rest) (without_req req rest) in l) (nat_eq_refl req.0)
          ∙ without_same rest req once
