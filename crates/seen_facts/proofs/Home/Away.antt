-- A document that is frozen or discarded: its navigable falls asleep, and those below it.
use Rattle.std.proofs.Common.{◌≡◌, ℕ, Bool, true, false, cond, not, ◌&&◌, ◌||◌, ◌==◌, List, [], ◌∷◌, Option, Some, None, refl, sym, ap, ◌∙◌, subst, inl, inr, ◌⊎◌, suc}
use Rattle.std.specs.Prelude.{option_map, slice_get}
use Rattle.std.specs.Option.{option_map_or}
use Rattle.std.proofs.lemmas.Bool.{and_parts, eqb-true}
use Rattle.tab_ids.specs.declared.DocId.{DocId}
use Rattle.tab_ids.specs.declared.NavId.{NavId}
use Rattle.log_model.specs.declared.job.Job.{Job}
use Rattle.log_model.specs.AfterDocuments.{on_document}
use Rattle.log_model.specs.AfterPlaces.{woken_below, sleepers_with, put_to_sleep}
use Rattle.log_model.specs.Equal.{holds}
use Rattle.log_model.specs.History.{History, has_nav}
use Rattle.log_model.specs.Places.{is_awake_on, is_asleep, is_below, shower_of}
use Rattle.log_model.specs.Seen.{Seen, Document, Place, Status, awake, lost, asleep, place_in, place_of}
use Rattle.log_model.specs.Soundness.{IsSound}
use Rattle.log_model.proofs.Refl.{nat_eq_refl}
use Rattle.seen_facts.specs.Hang.AsPlaces.{AreDistinct}
use Rattle.seen_facts.specs.Hang.Hanging.{Hangs}
use Rattle.seen_facts.specs.Hang.Members.{Has}
use Rattle.seen_facts.proofs.Hang.Forms.{nav_is}
use Rattle.seen_facts.proofs.Hang.Hung.{place_chain, places_distinct}
use Rattle.seen_facts.proofs.Hang.Members.{find_has, has_found}
use Rattle.seen_laws.proofs.Keyed.{find_map}
use Rattle.seen_facts.proofs.Walk.Placed.{found_nav, each_found}
use Rattle.seen_facts.proofs.Walk.Sleepers.{has_nav_where}
use Rattle.seen_facts.specs.Home.Homes.{document_in, IsHomed, AreHomed}
use Rattle.seen_facts.proofs.Home.Again.{StaysIn, WasOn, homed_again, state_again, hung_again}
use Rattle.seen_facts.proofs.Home.Below.{woken, above_cases}

awake_on : (place : Place) (doc : DocId) → place.status ≡ awake doc → is_awake_on doc place ≡ true
awake_on place doc wakes = rw wakes (nat_eq_refl doc.0)

on_awake : (place : Place) (doc : DocId) → is_awake_on doc place ≡ true → place.status ≡ awake doc
on_awake place doc is = by_status place.status refl is
  where
    by_status : (st : Status) → place.status ≡ st → is_awake_on doc (record place { status = st }) ≡ true → place.status ≡ awake doc
    by_status (awake d) e h = e ∙ ap awake (let number : d.0 ≡ doc.0 = eqb-true d.0 doc.0 h in ap (λ (n : ℕ). let x : DocId = record { 0 = n } in x) number)
    by_status lost e h = cc
    by_status asleep e h = cc

found_has : (places : List Place) (nav : NavId) (place : Place) → place_in places nav ≡ Some place → Has places place
found_has places nav place found = (find_has (λ (p : Place). p.nav.0 == nav.0) places place found).0

module _ (s t : Seen) (job : Job) (f : Document → Document) (sound : IsSound s.history) (hangs : Hangs s) (homes : AreHomed s) (places : t.places ≡ put_to_sleep (sleepers_with s job.doc) job.why s.places) (history : t.history ≡ s.history) (documents : t.documents ≡ on_document job.doc f s.documents) (number : (d : Document) → (f d).nr.0 ≡ d.nr.0) where
  abbrev slept : Place → Place
  slept p = cond (has_nav (sleepers_with s job.doc) p.nav) (record p { status = asleep; why = job.why }) p

  distinct : AreDistinct s.places
  distinct = places_distinct s sound hangs

  place_slept : (nav : NavId) → place_of t nav ≡ option_map slept (place_of s nav)
  place_slept nav =
      ap (λ (l : List Place). place_in l nav) places ∙ find_map (λ (p : Place). p.nav.0) slept nav.0 s.places (λ p. same_number p (has_nav (sleepers_with s job.doc) p.nav))
    where
      same_number : (p : Place) (b : Bool) → (let q : Place = cond b (record p { status = asleep; why = job.why }) p in q).nav.0 ≡ p.nav.0
      same_number p true = refl
      same_number p false = refl

  -- who is awake was so, and is none of those who fall asleep
  record WasAwake (nav : NavId) (place : Place) : Type 0 where
    there : place_of s nav ≡ Some place
    stays : has_nav (sleepers_with s job.doc) place.nav ≡ false

  was_awake : (nav : NavId) (place : Place) (doc : DocId) → place_of t nav ≡ Some place → place.status ≡ awake doc → WasAwake nav place
  was_awake nav place doc there wakes = by_old (place_of s nav) refl
    where
      by_test : (p : Place) → place_of s nav ≡ Some p → (b : Bool) → has_nav (sleepers_with s job.doc) p.nav ≡ b → cond b (record p { status = asleep; why = job.why }) p ≡ place → WasAwake nav place
      by_test p e true is same = let no_ : asleep ≡ awake doc = ap (λ (q : Place). q.status) same ∙ wakes in cc
      by_test p e false is same = record { there = e ∙ ap (λ (q : Place). Some q) same; stays = ap (λ (q : Place). has_nav (sleepers_with s job.doc) q.nav) (sym same) ∙ is }

      by_old : (o : Option Place) → place_of s nav ≡ o → WasAwake nav place
      by_old None e = let no_ : None ≡ Some place = sym (place_slept nav ∙ ap (λ (o : Option Place). option_map slept o) e) ∙ there in cc
      by_old (Some p) e =
          let both : Some (slept p) ≡ Some place = sym (place_slept nav ∙ ap (λ (o : Option Place). option_map slept o) e) ∙ there in
          by_test p e (has_nav (sleepers_with s job.doc) p.nav) refl (let same : slept p ≡ place = cc in same)

  -- the navigable that shows the document
  record IsShower (shower : Place) : Type 0 where
    found : place_of s shower.nav ≡ Some shower
    wakes : shower.status ≡ awake job.doc

  is_shower : (shower : Place) → shower_of s job.doc ≡ Some shower → IsShower shower
  is_shower shower e =
      let h = find_has (is_awake_on job.doc) s.places shower e in
      let at = index_of s.places shower h.0 in
      record { found = each_found s.places distinct at.0 shower at.1; wakes = on_awake shower job.doc h.1 }
    where
      index_of : (l : List Place) (p : Place) → Has l p → (i : ℕ) × (slice_get l i ≡ Some p)
      index_of [] p h = absurd h
      index_of (q ∷ l) p (inl same) = (0, ap (λ (x : Place). Some x) same)
      index_of (q ∷ l) p (inr more) = let m = index_of l p more in (suc m.0, m.1)

  -- no navigable that is awake on it stays awake
  none_on_it : (nav : NavId) (place : Place) → place_of s nav ≡ Some place → place.status ≡ awake job.doc → has_nav (sleepers_with s job.doc) place.nav ≡ true
  none_on_it nav place found wakes =
      let some = has_found (is_awake_on job.doc) s.places place (found_has s.places nav place found) (awake_on place job.doc wakes) in
      let shower = is_shower some.0 some.1 in
      let one : IsHomed s.documents place job.doc = homes.homed nav place job.doc found wakes in
      let two : IsHomed s.documents some.0 job.doc = homes.homed some.0.nav some.0 job.doc shower.found shower.wakes in
      let docs : Some one.home.document ≡ Some two.home.document = sym one.home.found ∙ two.home.found in
      let doc : one.home.document ≡ two.home.document = cc in
      let navs : some.0.nav ≡ place.nav = sym two.home.nav_is ∙ ap (λ (d : Document). d.nav) (sym doc) ∙ one.home.nav_is in
      ap (λ (o : Option Place). has_nav (option_map_or (λ (p : Place). p.nav ∷ woken_below s p.nav) o []) place.nav) some.1
      ∙ ap (λ (n : NavId). (n.0 == place.nav.0) || has_nav (woken_below s some.0.nav) place.nav) navs
      ∙ rw (nat_eq_refl place.nav.0) refl

  was : (nav : NavId) (place : Place) (doc : DocId) → place_of t nav ≡ Some place → place.status ≡ awake doc → WasOn s nav place
  was nav place doc there wakes =
      record { before = place; there = (was_awake nav place doc there wakes).there; status = refl; nav_is = refl; above = refl; owners = refl; last = refl }

  -- so the documents of those who are awake aren't it
  other_doc : (nav : NavId) (place : Place) (doc : DocId) → place_of t nav ≡ Some place → place.status ≡ awake doc → (doc.0 == job.doc.0) ≡ false
  other_doc nav place doc there wakes = by_test (doc.0 == job.doc.0) refl
    where
      by_test : (b : Bool) → (doc.0 == job.doc.0) ≡ b → (doc.0 == job.doc.0) ≡ false
      by_test false e = e
      by_test true e =
          let number : doc.0 ≡ job.doc.0 = eqb-true doc.0 job.doc.0 e in
          let same : doc ≡ job.doc = ap (λ (n : ℕ). let x : DocId = record { 0 = n } in x) number in
          let w = was_awake nav place doc there wakes in
          let no_ : true ≡ false = sym (none_on_it nav place w.there (wakes ∙ ap awake same)) ∙ w.stays in cc

  stays_in : (nav : NavId) (place : Place) (doc : DocId) → place_of t nav ≡ Some place → place.status ≡ awake doc → (d : Document) → document_in s.documents doc ≡ Some d → StaysIn t.documents doc d
  stays_in nav place doc there wakes d found =
      record {
        new = d;
        found = ap (λ (l : List Document). document_in l doc) documents ∙ find_map (λ (x : Document). x.nr.0) (λ (x : Document). cond (x.nr.0 == job.doc.0) (f x) x) doc.0 s.documents same_number ∙ ap (λ (o : Option Document). option_map (λ (x : Document). cond (x.nr.0 == job.doc.0) (f x) x) o) found ∙ ap (λ (b : Bool). Some (cond b (f d) d)) its;
        keeps = record { nav = refl; state = refl; ready = λ e. e; discarded = refl; known = refl };
      }
    where
      same_number : (x : Document) → (cond (x.nr.0 == job.doc.0) (f x) x).nr.0 ≡ x.nr.0
      same_number x = by_test (x.nr.0 == job.doc.0)
        where
          by_test : (b : Bool) → (let y : Document = cond b (f x) x in y).nr.0 ≡ x.nr.0
          by_test true = number x
          by_test false = refl

      its : (d.nr.0 == job.doc.0) ≡ false
      its =
          let is : d.nr.0 ≡ doc.0 = eqb-true d.nr.0 doc.0 (find_has (λ (x : Document). x.nr.0 == doc.0) s.documents d found).1 in
          ap (λ (n : ℕ). n == job.doc.0) is ∙ other_doc nav place doc there wakes

  -- who is above one that stays awake stays awake
  parents : (nav : NavId) (place : Place) (doc : DocId) (parent : NavId) (others : List NavId) → place_of t nav ≡ Some place → place.status ≡ awake doc → place.above ≡ parent ∷ others → (up : Place) (on : DocId) → place_of s parent ≡ Some up → up.status ≡ awake on → (new : Place) × (place_of t parent ≡ Some new) × (new.status ≡ awake on)
  parents nav place doc parent others there wakes is up on found up_wakes =
      (up, place_slept parent ∙ ap (λ (o : Option Place). option_map slept o) found ∙ ap (λ (b : Bool). Some (cond b (record up { status = asleep; why = job.why }) up)) (kept (has_nav (sleepers_with s job.doc) up.nav) refl), up_wakes)
    where
      w : WasAwake nav place
      w = was_awake nav place doc there wakes

      -- else the one below would sleep, too
      falls : (shower : Place) → shower_of s job.doc ≡ Some shower → ((parent.0 == shower.nav.0) ≡ true) ⊎ (is_below shower.nav up ≡ true) → ⊥
      falls shower e how =
          let below : has_nav place.above shower.nav ≡ true = above_cases s.places place.above others parent shower.nav up (place_chain s sound hangs nav place w.there) is found how in
          let own : place_of s place.nav ≡ Some place = ap (place_of s) (found_nav s.places nav place w.there) ∙ w.there in
          let its : has_nav (woken_below s shower.nav) place.nav ≡ true = woken s distinct shower.nav place.nav place doc own wakes below in
          let sleeps : has_nav (sleepers_with s job.doc) place.nav ≡ true =
          ap (λ (o : Option Place). has_nav (option_map_or (λ (p : Place). p.nav ∷ woken_below s p.nav) o []) place.nav) e
          ∙ or_last (shower.nav.0 == place.nav.0) its in
          let no_ : true ≡ false = sym sleeps ∙ w.stays in cc
        where
          or_last : (a : Bool) {b : Bool} → b ≡ true → (a || b) ≡ true
          or_last true e = refl
          or_last false e = e

      up_nav : up.nav ≡ parent
      up_nav = found_nav s.places parent up found

      by_shower : (o : Option Place) → shower_of s job.doc ≡ o → has_nav (option_map_or (λ (p : Place). p.nav ∷ woken_below s p.nav) o []) up.nav ≡ true → ⊥
      by_shower None e h = let no_ : false ≡ true = h in cc
      by_shower (Some shower) e h = by_head (shower.nav.0 == up.nav.0) refl h
        where
          turned : (shower.nav.0 == up.nav.0) ≡ true → (parent.0 == shower.nav.0) ≡ true
          turned same =
              let one : shower.nav ≡ parent = nav_is shower.nav up.nav same ∙ up_nav in
              subst (λ (n : NavId). (n.0 == shower.nav.0) ≡ true) one (nat_eq_refl shower.nav.0)

          below_of : has_nav (woken_below s shower.nav) up.nav ≡ true → is_below shower.nav up ≡ true
          below_of has =
              let own : place_of s up.nav ≡ Some up = ap (place_of s) up_nav ∙ found in
              let is_ : (is_below shower.nav up && not (is_asleep up)) ≡ true = sym (has_nav_where (λ (p : Place). is_below shower.nav p && not (is_asleep p)) s.places up.nav distinct ∙ ap (λ (o : Option Place). holds (λ (p : Place). is_below shower.nav p && not (is_asleep p)) o) own) ∙ has in
              (and_parts (is_below shower.nav up) (not (is_asleep up)) is_).0

          by_head : (b : Bool) → (shower.nav.0 == up.nav.0) ≡ b → (b || has_nav (woken_below s shower.nav) up.nav) ≡ true → ⊥
          by_head true same any = falls shower e (inl (turned same))
          by_head false apart any = falls shower e (inr (below_of any))

      kept : (b : Bool) → has_nav (sleepers_with s job.doc) up.nav ≡ b → has_nav (sleepers_with s job.doc) up.nav ≡ false
      kept false e = e
      kept true e = absurd (by_shower (shower_of s job.doc) refl e)

  pub away_homed : AreHomed t
  away_homed =
      record {
        homed = homed_again s t was stays_in homes.homed;
        state = state_again s t was stays_in homes.homed (λ nav place doc there wakes row has navs is d found. homes.state nav place doc (was_awake nav place doc there wakes).there wakes row d (subst (λ (h : History). Has h.rows row) history has) navs is found);
        hung = hung_again s t was stays_in parents homes.hung;
      }
