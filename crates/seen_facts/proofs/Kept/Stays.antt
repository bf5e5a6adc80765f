-- Documents and places that stay what they are for the kept documents, and that these then are what they were.
use Rattle.std.proofs.Common.{◌≡◌, Bool, true, false, cond, ◌==◌, List, [], ◌∷◌, ◌++◌, map, Option, Some, None, refl, sym, ap, ◌∙◌, subst, inl, inr, ◌⊎◌}
use Rattle.std.specs.Prelude.{option_map}
use Rattle.tab_ids.specs.declared.DocId.{DocId}
use Rattle.tab_ids.specs.declared.NavId.{NavId}
use Rattle.log_model.specs.Seen.{Seen, Document, Place, place_in}
use Rattle.seen_facts.specs.Hang.Members.{Has}
use Rattle.seen_facts.proofs.Home.Again.{AllStayIn}
use Rattle.seen_laws.proofs.Keyed.{find_map}
use Rattle.seen_facts.proofs.Coord.Singles.{AreApart}
use Rattle.seen_facts.specs.Kept.Keeping.{IsMadeFor, IsKeptDoc, AreKeptDocs, is_last}

-- ---- places

-- the navigable's place tells of this document as the last that was shown, or of none
pub record LastIs (places : List Place) (nav : NavId) (last : Option DocId) : Type 0 where
  pub place : Place
  pub found : place_in places nav ≡ Some place
  pub same : place.last ≡ last

-- each place is still there, and was shown nothing since; a new one was shown nothing yet
pub record KeepLasts (old new : List Place) : Type 0 where
  pub on : (nav : NavId) (place : Place) → place_in old nav ≡ Some place → LastIs new nav place.last
  pub back : (nav : NavId) (place : Place) → place_in new nav ≡ Some place → (place.last ≡ None) ⊎ LastIs old nav place.last

pub same_lasts : (places : List Place) → KeepLasts places places
same_lasts places =
    record {
      on = λ nav place found. record { place = place; found = found; same = refl };
      back = λ nav place found. inr (record { place = place; found = found; same = refl });
    }

-- a change of a place that leaves its number and its last document
pub record LeavesLast (g : Place → Place) : Type 0 where
  pub nav : (p : Place) → (g p).nav ≡ p.nav
  pub last : (p : Place) → (g p).last ≡ p.last

pub if_last : (test : Place → Bool) (f : Place → Place) → LeavesLast f → LeavesLast (λ (p : Place). cond (test p) (f p) p)
if_last test f leaves =
    record {
      nav = λ p. elim (test p) as (λ b. (let q : Place = cond b (f p) p in q).nav ≡ p.nav) [ true ↦ leaves.nav p | false ↦ refl ];
      last = λ p. elim (test p) as (λ b. (let q : Place = cond b (f p) p in q).last ≡ p.last) [ true ↦ leaves.last p | false ↦ refl ];
    }

-- what is found of a changed list was there
pub was_there : (g : Place → Place) (places : List Place) (nav : NavId) (place : Place) → ((p : Place) → (g p).nav ≡ p.nav) → place_in (map g places) nav ≡ Some place → (old : Place) × (place_in places nav ≡ Some old) × (g old ≡ place)
was_there g places nav place same there = by_old (place_in places nav) refl
  where
    at : place_in (map g places) nav ≡ option_map g (place_in places nav)
    at = find_map (λ (p : Place). p.nav.0) g nav.0 places (λ p. ap (λ (n : NavId). n.0) (same p))

    by_old : (o : Option Place) → place_in places nav ≡ o → (old : Place) × (place_in places nav ≡ Some old) × (g old ≡ place)
    by_old None e = let no_ : None ≡ Some place = sym (at ∙ ap (λ (o : Option Place). option_map g o) e) ∙ there in absurd cc
    by_old (Some old) e =
        let both : Some (g old) ≡ Some place = sym (at ∙ ap (λ (o : Option Place). option_map g o) e) ∙ there in
        (old, e, let is : g old ≡ place = cc in is)

pub lasts_mapped : (g : Place → Place) (places : List Place) → LeavesLast g → KeepLasts places (map g places)
lasts_mapped g places leaves =
    record {
      on = λ nav place found. record { place = g place; found = find_map (λ (p : Place). p.nav.0) g nav.0 places (λ p. ap (λ (n : NavId). n.0) (leaves.nav p)) ∙ ap (λ (o : Option Place). option_map g o) found; same = leaves.last place };
      back = λ nav place found. inr (let w = was_there g places nav place leaves.nav found in record { place = w.0; found = w.1; same = sym (leaves.last w.0) ∙ ap (λ (p : Place). p.last) w.2 });
    }

-- a new place comes behind
found_more : (nav : NavId) (places : List Place) (new place : Place) → place_in places nav ≡ Some place → place_in (places ++ new ∷ []) nav ≡ Some place
found_more nav [] new place e = cc
found_more nav (p ∷ places) new place e = by_test (p.nav.0 == nav.0) (found_more nav places new place) e
  where
    by_test : (b : Bool) → (place_in places nav ≡ Some place → place_in (places ++ new ∷ []) nav ≡ Some place) → cond b (Some p) (place_in places nav) ≡ Some place → cond b (Some p) (place_in (places ++ new ∷ []) nav) ≡ Some place
    by_test true more f = f
    by_test false more f = more f

was_or_is_new : (nav : NavId) (places : List Place) (new place : Place) → place_in (places ++ new ∷ []) nav ≡ Some place → (place_in places nav ≡ Some place) ⊎ (new ≡ place)
was_or_is_new nav [] new place e = by_test (new.nav.0 == nav.0) e
  where
    by_test : (b : Bool) → (let o : Option Place = cond b (Some new) None in o) ≡ Some place → (place_in [] nav ≡ Some place) ⊎ (new ≡ place)
    by_test true f = inr (let is : new ≡ place = cc in is)
    by_test false f = absurd cc
was_or_is_new nav (p ∷ places) new place e = by_test (p.nav.0 == nav.0) (was_or_is_new nav places new place) e
  where
    by_test : (b : Bool) → (place_in (places ++ new ∷ []) nav ≡ Some place → (place_in places nav ≡ Some place) ⊎ (new ≡ place)) → cond b (Some p) (place_in (places ++ new ∷ []) nav) ≡ Some place → ((let o : Option Place = cond b (Some p) (place_in places nav) in o) ≡ Some place) ⊎ (new ≡ place)
    by_test true more f = inl f
    by_test false more f = more f

pub lasts_more : (places : List Place) (new : Place) → new.last ≡ None → KeepLasts places (places ++ new ∷ [])
lasts_more places new none =
    record {
      on = λ nav place found. record { place = place; found = found_more nav places new place found; same = refl };
      back = λ nav place found. by_which nav place (was_or_is_new nav places new place found);
    }
  where
    by_which : (nav : NavId) (place : Place) → (place_in places nav ≡ Some place) ⊎ (new ≡ place) → (place.last ≡ None) ⊎ LastIs places nav place.last
    by_which nav place (inl was) = inr (record { place = place; found = was; same = refl })
    by_which nav place (inr is) = inl (subst (λ (p : Place). p.last ≡ None) is none)

pub lasts_both : (old mid new : List Place) → KeepLasts old mid → KeepLasts mid new → KeepLasts old new
lasts_both old mid new one two =
    record {
      on = λ nav place found. (let a = one.on nav place found in let b = two.on nav a.place a.found in record { place = b.place; found = b.found; same = b.same ∙ a.same });
      back = λ nav place found. by_last nav place (two.back nav place found);
    }
  where
    by_mid : (nav : NavId) (place : Place) (m : LastIs mid nav place.last) → (m.place.last ≡ None) ⊎ LastIs old nav m.place.last → (place.last ≡ None) ⊎ LastIs old nav place.last
    by_mid nav place m (inl none) = inl (sym m.same ∙ none)
    by_mid nav place m (inr o) = inr (record { place = o.place; found = o.found; same = o.same ∙ m.same })

    by_last : (nav : NavId) (place : Place) → (place.last ≡ None) ⊎ LastIs mid nav place.last → (place.last ≡ None) ⊎ LastIs old nav place.last
    by_last nav place (inl none) = inl none
    by_last nav place (inr m) = by_mid nav place m (one.back nav m.place m.found)

-- ---- all of it

pub kept_again : (old new : List Document) (places next : List Place) (doc : DocId) → AllStayIn old new → KeepLasts places next → IsKeptDoc old places doc → IsKeptDoc new next doc
kept_again old new places next doc stay lasts is =
    let k = stay doc is.d is.found in
    let p = lasts.on is.d.nav is.place is.placed in
    record {
      d = k.new;
      found = k.found;
      ready = k.keeps.ready is.ready;
      undiscarded = k.keeps.discarded ∙ is.undiscarded;
      unknown = k.keeps.known ∙ is.unknown;
      place = p.place;
      placed = ap (λ (n : NavId). place_in next n) k.keeps.nav ∙ p.found;
      left = ap (λ (o : Option DocId). is_last doc (record p.place { last = o })) p.same ∙ is.left;
    }

pub made_again : (old new : List Document) (nav : NavId) (doc : DocId) → AllStayIn old new → IsMadeFor old nav doc → IsMadeFor new nav doc
made_again old new nav doc stay is =
    let k = stay doc is.d is.found in
    record { d = k.new; found = k.found; nav_is = ap (λ (n : NavId). n.0) k.keeps.nav ∙ is.nav_is; ready = k.keeps.ready is.ready }

-- documents stay, places keep what they were shown last, and the same documents are kept
pub left_kept : (s t : Seen) → t.kept ≡ s.kept → AllStayIn s.documents t.documents → KeepLasts s.places t.places → AreKeptDocs s → AreKeptDocs t
left_kept s t same stay lasts are =
    record {
      each = λ doc has. kept_again s.documents t.documents s.places t.places doc stay lasts (are.each doc (subst (λ (l : List DocId). Has l doc) same has));
      apart = subst (λ (l : List DocId). AreApart (λ (doc : DocId). doc.0) l) (sym same) are.apart;
      lasts = λ nav place doc there last. by_back nav place doc last (lasts.back nav place there);
    }
  where
    by_back : (nav : NavId) (place : Place) (doc : DocId) → place.last ≡ Some doc → (place.last ≡ None) ⊎ LastIs s.places nav place.last → IsMadeFor t.documents nav doc
    by_back nav place doc last (inl none) = let no_ : None ≡ Some doc = sym none ∙ last in absurd cc
    by_back nav place doc last (inr was) =
        made_again s.documents t.documents nav doc stay (are.lasts nav was.place doc was.found (was.same ∙ last))
