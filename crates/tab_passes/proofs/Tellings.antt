-- Once a document was told the due length and index, its navigable was, and who was told before is so still.
use Rattle.seen_facts.proofs.Coord.Held.{fun_ext}
use Rattle.seen_facts.specs.Coord.Leading.{EachIsOfItsNavigable}
use Rattle.tab_doors.specs.Orders.{next_order}
use Rattle.seen_facts.proofs.Hang.Members.{into_map}
use Rattle.seen_facts.specs.Hang.AsPlaces.{AreDistinct}
use Rattle.seen_facts.specs.Hang.Members.{Has}
use Rattle.log_model.proofs.Refl.{same_pair_refl}
use Rattle.log_model.specs.ActsAtOnce.{ends_told, is_told}
use Rattle.log_model.specs.After.{after}
use Rattle.log_model.specs.AfterDocuments.{addressed}
use Rattle.log_model.specs.Equal.{holds, implies, same_pair}
use Rattle.log_model.specs.History.{has_nav}
use Rattle.log_model.specs.Orders.{is_being_made}
use Rattle.log_model.specs.Places.{aim_of, due_pair, due_pair_with, is_awake, is_gone, told_pair}
use Rattle.log_model.specs.Seen.{Document, Place, Seen, Status, asleep, awake, document_of, lost, place_of}
use Rattle.log_model.specs.declared.job.Why.{Why}
use Rattle.log_model.specs.declared.row_kind.Actor.{Actor}
use Rattle.tab_passes.specs.Telling.{AreToldUpTo, IsToldAt, IsToldMore, IsToldTurn}
use Rattle.seen_facts.proofs.Rest.Stands.{get_of}
use Rattle.seen_laws.proofs.Keyed.{find_on_other, find_on_same}
use Rattle.std.proofs.Common.{Bool, List, None, Option, Some, [], ap, arith, cond, false, inl, inr, map, refl, subst, sym, true, ℕ, ◌+◌, ◌<◌, ◌==◌, ◌∙◌, ◌∷◌, ◌≡◌}
use Rattle.std.proofs.lemmas.Bool.Decides.{nat_tests}
use Rattle.std.specs.List.{list_all}
use Rattle.std.specs.Prelude.{option_and_then, option_map, slice_get}
use Rattle.tab_ids.specs.declared.DocId.{DocId}
use Rattle.tab_ids.specs.declared.NavId.{NavId}
use Rattle.tab_ids.specs.declared.ProcId.{ProcId}
use Rattle.tab_ids.specs.declared.StateId.{StateId}
use Rattle.seen_facts.proofs.Walk.Aims.{aim_again, blur, gone_on}
use Rattle.seen_facts.proofs.Walk.Placed.{each_found, found_nav}
use Rattle.seen_facts.specs.Walk.Serving.{IsMaking}
use Rattle.log_model.specs.declared.job.Task.TheVariants as tasks
use Rattle.log_model.specs.declared.row_kind.RowKind.TheVariants as rows

module _ (s : Seen) (event : ℕ) (actor : Actor) (proc : ProcId) (doc : DocId) (why : Why) (pair : ℕ × ℕ) (nav : NavId) (place : Place) (d : Document) (placed : place_of s nav ≡ Some place) (wakes : place.status ≡ awake doc) (found : document_of s doc ≡ Some d) (whose : EachIsOfItsNavigable s) (due : pair ≡ due_pair s nav) where
  abbrev told_ : Seen
  told_ = after s (record { event = event; actor = actor; row = rows.Sent (next_order s.jobs proc doc why (tasks.Update pair.0 pair.1)) })

  abbrev telling : Document → Document
  telling x = addressed (tasks.Update pair.0 pair.1) x

  gone_same : (other : DocId) → is_gone told_ other ≡ is_gone s other
  gone_same other = gone_on s told_ doc telling refl (λ x. refl) (λ x. refl) other

  due_same : (other : NavId) → due_pair told_ other ≡ due_pair s other
  due_same other = ap (λ (gone : DocId → Bool). due_pair_with gone s.requests s.history other) (fun_ext gone_same)

  own_found : document_of told_ doc ≡ Some (telling d)
  own_found = find_on_same (λ (x : Document). x.nr.0) telling doc.0 s.documents (λ x. refl) ∙ ap (λ (o : Option Document). option_map telling o) found

  other_found : (other : DocId) → (doc.0 == other.0) ≡ false → document_of told_ other ≡ document_of s other
  other_found other apart = find_on_other (λ (x : Document). x.nr.0) telling doc.0 other.0 s.documents (λ x. refl) apart

  -- it is told
  own : IsToldAt told_ nav
  own p at =
      let both_ : Some place ≡ Some p = sym placed ∙ at in
      let same : place ≡ p = cc in
      let awakes : p.status ≡ awake doc = ap (λ (x : Place). x.status) (sym same) ∙ wakes in
      let navs : p.nav ≡ nav = found_nav s.places nav p at in
      let now_ : due_pair told_ p.nav ≡ pair = due_same p.nav ∙ ap (λ (n : NavId). due_pair s n) navs ∙ sym due in
      rw awakes (rw own_found (subst (λ (q : ℕ × ℕ). same_pair q pair ≡ true) (sym now_) (same_pair_refl pair)))

  -- the others are told still
  others : (other : NavId) → IsToldAt s other → IsToldAt told_ other
  others other was p at = by_status p.status refl
    where
      by_doc : (x : DocId) → p.status ≡ awake x → (b : Bool) → (doc.0 == x.0) ≡ b → is_told told_ p ≡ true
      by_doc x is true same =
          let one : doc ≡ x = ap (λ (n : ℕ). let y : DocId = record { 0 = n } in y) (grind (arith, nat_tests, same)) in
          let its : p.status ≡ awake doc = is ∙ ap (λ (y : DocId). awake y) (sym one) in
          let own_nav : d.nav.0 ≡ nav.0 = whose nav place doc d placed wakes found in
          let their_nav : d.nav.0 ≡ other.0 = whose other p doc d at its found in
          let navs : nav ≡ other = ap (λ (n : ℕ). let y : NavId = record { 0 = n } in y) (sym own_nav ∙ their_nav) in
          own p (ap (λ (n : NavId). place_of s n) navs ∙ at)
      by_doc x is false apart =
          let told_before : is_told s p ≡ true = was p at in
          let same_document : told_pair told_ p ≡ told_pair s p = rw is (ap (λ (o : Option Document). option_and_then (λ (y : Document). y.told) o) (other_found x apart)) in
          ap (λ (q : ℕ × ℕ). implies (is_awake p) (holds (same_pair q) (told_pair told_ p))) (due_same p.nav)
          ∙ ap (λ (o : Option (ℕ × ℕ)). implies (is_awake p) (holds (same_pair (due_pair s p.nav)) o)) same_document
          ∙ told_before

      by_status : (st : Status) → p.status ≡ st → is_told told_ p ≡ true
      by_status (awake x) is = by_doc x is (doc.0 == x.0) refl
      by_status lost is = rw is refl
      by_status asleep is = rw is refl

  requests_same : map blur told_.requests ≡ map blur s.requests
  requests_same = refl

  pub telling_aim : aim_of told_ ≡ aim_of s
  telling_aim = aim_again s told_ gone_same requests_same refl

  abbrev told_one : Document → Document
  told_one x = cond (x.nr.0 == doc.0) (telling x) x

  told_alike : (x : Document) → ((told_one x).state ≡ x.state) × (is_being_made (told_one x) ≡ is_being_made x)
  told_alike x = by_test (x.nr.0 == doc.0)
    where
      by_test : (b : Bool) → ((cond b (telling x) x).state ≡ x.state) × (is_being_made (cond b (telling x) x) ≡ is_being_made x)
      by_test true = (refl, refl)
      by_test false = (refl, refl)

  making_more : (state : StateId) → IsMaking s.documents state → IsMaking told_.documents state
  making_more state is =
      record {
        document = told_one is.document;
        there = into_map told_one s.documents is.document is.there;
        state_is = (told_alike is.document).0 ∙ is.state_is;
        made = (told_alike is.document).1 ∙ is.made;
      }

  pub told_turn : IsToldTurn s told_ nav
  told_turn =
      record {
        own = own;
        more = record { places = refl; history = refl; requests = refl; parked = refl; aim = telling_aim; making = making_more; still = others };
      }

-- nobody need be told who isn't awake, or was told what is due
pub told_asleep : (s : Seen) (nav : NavId) → ((p : Place) → place_of s nav ≡ Some p → is_awake p ≡ false) → IsToldAt s nav
told_asleep s nav sleeps p at = rw (sleeps p at) refl

pub told_none : (s : Seen) (nav : NavId) → place_of s nav ≡ None → IsToldAt s nav
told_none s nav none p at = let never : None ≡ Some p = sym none ∙ at in cc

pub more_none : (s : Seen) → IsToldMore s s
more_none s =
    record { places = refl; history = refl; requests = refl; parked = refl; aim = refl; making = λ state m. m; still = λ other was. was }

pub more_then : (s t u : Seen) → IsToldMore s t → IsToldMore t u → IsToldMore s u
more_then s t u first then_ =
    record {
      places = then_.places ∙ first.places;
      history = then_.history ∙ first.history;
      requests = then_.requests ∙ first.requests;
      parked = then_.parked ∙ first.parked;
      aim = then_.aim ∙ first.aim;
      making = λ state m. then_.making state (first.making state m);
      still = λ nav was. then_.still nav (first.still nav was);
    }

pub turn_still : (s : Seen) (nav : NavId) → IsToldAt s nav → IsToldTurn s s nav
turn_still s nav its = record { own = its; more = more_none s }

-- one turn more
pub one_more : (s t : Seen) (walk : List NavId) (n : ℕ) (nav : NavId) → slice_get walk n ≡ Some nav → AreToldUpTo s walk n → IsToldTurn s t nav → AreToldUpTo t walk (n + 1)
one_more s t walk n nav here done turn k other low there = by_test (k == n) refl
  where
    by_test : (b : Bool) → (k == n) ≡ b → IsToldAt t other
    by_test true e =
        let same : k ≡ n = grind (arith, nat_tests, e) in
        let one : Some other ≡ Some nav = sym there ∙ ap (λ (i : ℕ). slice_get walk i) same ∙ here in
        let navs : other ≡ nav = cc in
        subst (λ (m : NavId). IsToldAt t m) (sym navs) turn.own
    by_test false e =
        let less : k < n = grind (arith, nat_tests, e, low) in
        turn.more.still other (done k other less there)

-- where all of a walk were told, each was
pub all_told : (s : Seen) (walk : List NavId) → ((nav : NavId) (place : Place) → place_of s nav ≡ Some place → has_nav walk nav ≡ true) → AreDistinct s.places → ((nav : NavId) → has_nav walk nav ≡ true → IsToldAt s nav) → ends_told s ≡ true
unfolding ends_told
all_told s walk all apart each = each_place s.places (λ p there. let found = place_at p there in each p.nav (all p.nav p found) p found)
  where
    place_at : (p : Place) → Has s.places p → place_of s p.nav ≡ Some p
    place_at p there = let at = get_of s.places p there in each_found s.places apart at.0 p at.1

    each_place : (l : List Place) → ((p : Place) → Has l p → is_told s p ≡ true) → list_all (is_told s) l ≡ true
    each_place [] told = refl
    each_place (p ∷ l) told = rw (told p (inl refl)) (each_place l (λ x there. told x (inr there)))
