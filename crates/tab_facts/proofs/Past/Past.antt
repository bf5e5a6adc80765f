-- It stays where each document was there before, each place shows the same one last under the same epoch, and what was within a bound is so still; and what it says of what waits.
use Rattle.seen_facts.specs.Coord.Epochs.{IsWithin, MadeWithin}
use Rattle.seen_facts.specs.Doc.Docs.{HasPlace}
use Rattle.seen_facts.specs.Entry.Entries.{waiting}
use Rattle.seen_facts.specs.Hang.Members.{Has}
use Rattle.log_model.specs.Seen.{Document, Place, Seen, desk_of, document_of, place_in, place_of}
use Rattle.log_model.specs.declared.made.Made.{Made}
use Rattle.tab_facts.specs.Past.Past.{ArePast}
use Rattle.seen_laws.proofs.Keyed.{find_has}
use Rattle.std.proofs.Common.{List, Option, Some, [], ap, arith, inl, inr, subst, suc, sym, true, zero, ℕ, ◌==◌, ◌∙◌, ◌∷◌, ◌≡◌, ◌≤◌, ◌⊎◌}
use Rattle.std.proofs.lemmas.Bool.Decides.{nat_tests}
use Rattle.std.specs.Prelude.{pred}
use Rattle.tab_ids.specs.declared.DocId.{DocId}
use Rattle.tab_ids.specs.declared.NavId.{NavId}
use Rattle.tab_ids.specs.declared.Epoch.{Epoch}

-- the navigable was shown the same document last, under the same epoch
pub record WasLast (places : List Place) (nav : NavId) (place : Place) : Type 0 where
  pub before : Place
  pub there : (let o : Option Place = place_in places nav in o) ≡ Some before
  pub last : before.last ≡ place.last
  pub epoch : before.epoch ≡ place.epoch

-- so it is with each that had a place
abbrev pub AllWereLast : List Place → List Place → Type 0
AllWereLast places next =
    (nav : NavId) (place : Place) → HasPlace places nav → place_in next nav ≡ Some place → WasLast places nav place

-- the document was there before, of the same navigable, and what was within a bound before is so then
pub record WasPast (hand next_hand : List Made) (s t : Seen) (doc : DocId) (d : Document) : Type 0 where
  pub old : Document
  pub there : document_of s doc ≡ Some old
  pub nav_is : old.nav ≡ d.nav
  pub stays : (bound : ℕ) → IsWithin (waiting s hand) (desk_of s old.proc) old bound → IsWithin (waiting t next_hand) (desk_of t d.proc) d bound

-- of one document
pub one_past : (hand next_hand : List Made) (s t : Seen) (doc : DocId) (d : Document) (place : Place) → WasPast hand next_hand s t doc d → WasLast s.places d.nav place → ArePast hand s → (place.last ≡ Some doc) ⊎ IsWithin (waiting t next_hand) (desk_of t d.proc) d (pred place.epoch.0)
one_past hand next_hand s t doc d place was had are =
    by_case (are doc was.old had.before was.there (ap (λ (n : NavId). place_of s n) was.nav_is ∙ had.there))
  where
    by_case : (had.before.last ≡ Some doc) ⊎ IsWithin (waiting s hand) (desk_of s was.old.proc) was.old (pred had.before.epoch.0) → (place.last ≡ Some doc) ⊎ IsWithin (waiting t next_hand) (desk_of t d.proc) d (pred place.epoch.0)
    by_case (inl last) = inl (sym had.last ∙ last)
    by_case (inr past) =
        inr (subst (λ (k : Epoch). IsWithin (waiting t next_hand) (desk_of t d.proc) d (pred k.0)) had.epoch (was.stays (pred had.before.epoch.0) past))

-- of all, each of which has a place
pub past_over : (hand next_hand : List Made) (s t : Seen) → ((doc : DocId) (d : Document) → document_of t doc ≡ Some d → WasPast hand next_hand s t doc d) → ((doc : DocId) (d : Document) → document_of s doc ≡ Some d → HasPlace s.places d.nav) → AllWereLast s.places t.places → ArePast hand s → ArePast next_hand t
past_over hand next_hand s t were have lasts are doc d place found placed =
    let was = were doc d found in
    one_past hand next_hand s t doc d place was (lasts d.nav place (subst (λ (n : NavId). HasPlace s.places n) was.nav_is (have doc was.old was.there)) placed) are

-- ---- what waits

within_bound : (bound : ℕ) (doc : DocId) (mades : List Made) (made : Made) → MadeWithin bound doc mades → Has mades made → made.doc.0 ≡ doc.0 → made.epoch.0 ≤ bound
within_bound bound doc [] made all never its = absurd never
within_bound bound doc (x ∷ mades) made all (inl same) its =
    subst (λ (m : Made). m.epoch.0 ≤ bound) same (all.0 (ap (λ (m : Made). m.doc.0) same ∙ its))
within_bound bound doc (x ∷ mades) made all (inr there) its = within_bound bound doc mades made all.1 there its

not_before : (m n : ℕ) → n ≡ m → 1 ≤ m → m ≤ pred n → ⊥
not_before m zero same high low = omega (arith, same, high)
not_before m (suc n) same high low = omega (arith, same, low)

-- what waits, and was made under the epoch of its document's navigable, was made by the one that this was shown last
pub made_by_last : (hand : List Made) (s : Seen) → ArePast hand s → (made : Made) → Has (waiting s hand) made → 1 ≤ made.epoch.0 → (d : Document) (place : Place) → document_of s made.doc ≡ Some d → place_of s d.nav ≡ Some place → (place.epoch.0 == made.epoch.0) ≡ true → place.last ≡ Some made.doc
made_by_last hand s are made waits shown d place found placed under = by_case (are made.doc d place found placed)
  where
    by_case : (place.last ≡ Some made.doc) ⊎ IsWithin (waiting s hand) (desk_of s d.proc) d (pred place.epoch.0) → place.last ≡ Some made.doc
    by_case (inl last) = last
    by_case (inr past) =
        let low : made.epoch.0 ≤ pred place.epoch.0 = within_bound (pred place.epoch.0) d.nr (waiting s hand) made past.held_back waits (sym (find_has (λ (x : Document). x.nr.0) made.doc.0 s.documents d found)) in
        let same : place.epoch.0 ≡ made.epoch.0 = grind (arith, nat_tests, under) in
        absurd (not_before made.epoch.0 place.epoch.0 same shown low)
