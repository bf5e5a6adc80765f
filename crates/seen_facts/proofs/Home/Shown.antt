-- A navigable is shown a document of its target: it is at home, and those who stay awake are.
use Rattle.std.proofs.Common.{◌≡◌, ℕ, ◌≤◌, ◌+◌, Bool, true, false, cond, not, ◌&&◌, ◌==◌, List, [], ◌∷◌, Option, Some, None, refl, sym, ap, ◌∙◌, subst, inl, inr, ◌⊎◌, arith}
use Rattle.std.specs.Prelude.{option_map, slice_get}
use Rattle.std.specs.List.{count_by}
use Rattle.std.specs.Option.{option_map_or}
use Rattle.std.proofs.lemmas.Bool.{and_parts, eqb-true}
use Rattle.std.proofs.lemmas.List.Sums.{sum_by-cons}
use Rattle.tab_ids.specs.declared.DocId.{DocId}
use Rattle.tab_ids.specs.declared.EntryId.{EntryId}
use Rattle.tab_ids.specs.declared.Epoch.{Epoch}
use Rattle.tab_ids.specs.declared.NavId.{NavId}
use Rattle.tab_ids.specs.declared.StateId.{StateId}
use Rattle.log_model.specs.declared.job.Job.{Job}
use Rattle.log_model.specs.declared.job.Task.TheVariants as tasks
use Rattle.log_model.specs.declared.row.Row.{Row}
use Rattle.log_model.specs.declared.row_kind.Actor.{Actor}
use Rattle.log_model.specs.AfterDocuments.{addressed, on_document}
use Rattle.log_model.specs.AfterPlaces.{woken_below, sleepers_below, activated}
use Rattle.log_model.specs.Equal.{holds}
use Rattle.log_model.specs.History.{has_nav}
use Rattle.log_model.specs.Places.{is_asleep, is_below}
use Rattle.log_model.specs.Seen.{Seen, Document, Place, awake, asleep, place_of, document_of}
use Rattle.log_model.specs.Soundness.{is_entry, IsSound}
use Rattle.log_model.proofs.Refl.{nat_eq_refl, same_entry_refl}
use Rattle.seen_facts.specs.Hang.AsPlaces.{AreDistinct}
use Rattle.seen_facts.specs.Hang.Hanging.{Hangs}
use Rattle.seen_facts.specs.Hang.Members.{Has}
use Rattle.seen_facts.proofs.Hang.Forms.{nav_is}
use Rattle.seen_facts.proofs.Hang.Hung.{place_chain, places_distinct, not_above_itself}
use Rattle.seen_facts.proofs.Walk.Placed.{found_nav}
use Rattle.seen_facts.proofs.Walk.Sleepers.{has_nav_where, sleepers_of, slept, slept_same, after_show, becomes, place_becomes}
use Rattle.seen_facts.specs.Home.Homes.{document_in, IsAtHome, EachWake, IsHomed, IsOfState, IsOnAwake, HangsOnAwake, AreHomed}
use Rattle.seen_facts.proofs.Home.Again.{AllStayIn, all_on, home_again}
use Rattle.seen_facts.proofs.Home.Below.{woken, above_cases}

-- an item that passes is counted
counted : (test : Row → Bool) (rows : List Row) (row : Row) → Has rows row → test row ≡ true → 1 ≤ count_by test rows
counted test [] row h is = absurd h
counted test (first ∷ rows) row (inl same) is =
    let here : cond (test first) 1 0 ≡ 1 = ap {B = ℕ} (λ b. cond b 1 0) (subst (λ (r : Row). test r ≡ true) (sym same) is) in
    omega (arith, here, sum_by-cons (λ (r : Row). cond (test r) 1 0) first rows)
counted test (first ∷ rows) row (inr more) is =
    let later : 1 ≤ count_by test rows = counted test rows row more is in
    omega (arith, later, sum_by-cons (λ (r : Row). cond (test r) 1 0) first rows)

twice : (rows : List Row) (entry : EntryId) (row : Row) → Has rows row → is_entry entry row ≡ true → (first : Row) → is_entry entry first ≡ true → count_by (is_entry entry) (first ∷ rows) ≡ cond (is_entry entry first) 1 0 + count_by (is_entry entry) rows → count_by (is_entry entry) (first ∷ rows) ≤ 1 → ⊥
twice rows entry row h is first here sum few =
    let one : cond (is_entry entry first) 1 0 ≡ 1 = ap {B = ℕ} (λ b. cond b 1 0) here in
    let more : 1 ≤ count_by (is_entry entry) rows = counted (is_entry entry) rows row h is in
    omega (arith, one, more, sum, few)

-- of one entry there is one row
pub one_row : (rows : List Row) (one other : Row) → count_by (is_entry one.entry) rows ≤ 1 → Has rows one → Has rows other → other.entry ≡ one.entry → other ≡ one
one_row [] one other few h k same = absurd h
one_row (row ∷ rows) one other few (inl a) (inl b) same = sym b ∙ a
one_row (row ∷ rows) one other few (inl a) (inr k) same =
    absurd (twice rows one.entry other k (subst (λ (e : EntryId). is_entry one.entry (record other { entry = e }) ≡ true) (sym same) (same_entry_refl one.entry)) row (here row one a) (sum_by-cons (λ (r : Row). cond (is_entry one.entry r) 1 0) row rows) few)
  where
    here : (row one : Row) → row ≡ one → is_entry one.entry row ≡ true
    here row one a = subst (λ (r : Row). is_entry one.entry r ≡ true) (sym a) (same_entry_refl one.entry)
one_row (row ∷ rows) one other few (inr h) (inl b) same =
    absurd (twice rows one.entry one h (same_entry_refl one.entry) row (subst (λ (r : Row). is_entry one.entry r ≡ true) (sym b) (subst (λ (e : EntryId). is_entry one.entry (record other { entry = e }) ≡ true) (sym same) (same_entry_refl one.entry))) (sum_by-cons (λ (r : Row). cond (is_entry one.entry r) 1 0) row rows) few)
one_row (row ∷ rows) one other few (inr h) (inr k) same =
    one_row rows one other (fewer (count_by (is_entry one.entry) rows) (cond (is_entry one.entry row) 1 0) (sum_by-cons (λ (r : Row). cond (is_entry one.entry r) 1 0) row rows) few) h k same
  where
    fewer : (n m : ℕ) → count_by (is_entry one.entry) (row ∷ rows) ≡ m + n → count_by (is_entry one.entry) (row ∷ rows) ≤ 1 → n ≤ 1
    fewer n m e l = omega (arith, e, l)

module _ (s : Seen) (event : ℕ) (actor : Actor) (job : Job) (d : Document) (entry : EntryId) (epoch : Epoch) (long at : ℕ) (memo : Option (List ℕ)) (address : List ℕ) (task : job.task ≡ tasks.Activate entry epoch long at memo address) (found : document_of s job.doc ≡ Some d) (sound : IsSound s.history) (hangs : Hangs s) (homes : AreHomed s) (place : Place) (placed : place_of s d.nav ≡ Some place) where
  abbrev t : Seen
  t = after_show s event actor job d entry epoch long at memo address task found

  abbrev be : Place → Place
  be = becomes s event actor job d entry epoch long at memo address task found

  distinct : AreDistinct s.places
  distinct = places_distinct s sound hangs

  stay : AllStayIn s.documents t.documents
  stay =
      subst (λ (l : List Document). AllStayIn s.documents l) (let e : on_document job.doc (addressed (tasks.Activate entry epoch long at memo address)) s.documents ≡ t.documents = rw task refl in e) (all_on job.doc (addressed (tasks.Activate entry epoch long at memo address)) s.documents (λ x. refl) (λ x. record { nav = refl; state = refl; ready = λ e. e; discarded = refl; known = refl }))

  -- a place then: the navigable's own, or one that stays awake as it was
  record IsOther (nav : NavId) (p : Place) : Type 0 where
    there : place_of s nav ≡ Some p
    apart : (p.nav.0 == d.nav.0) ≡ false
    stays : has_nav (sleepers_of s job.doc d.nav) p.nav ≡ false

  record IsOwn (nav : NavId) (p : Place) : Type 0 where
    nav_is_its : nav ≡ d.nav
    is : activated job entry epoch d (slept (sleepers_of s job.doc d.nav) job.why place) ≡ p

  place_then : (nav : NavId) (p : Place) (doc : DocId) → place_of t nav ≡ Some p → p.status ≡ awake doc → IsOwn nav p ⊎ IsOther nav p
  place_then nav p doc there wakes = by_old (place_of s nav) refl
    where
      by_sleep : (old : Place) → place_of s nav ≡ Some old → (old.nav.0 == d.nav.0) ≡ false → (b : Bool) → has_nav (sleepers_of s job.doc d.nav) old.nav ≡ b → cond b (record old { status = asleep; why = job.why }) old ≡ p → IsOwn nav p ⊎ IsOther nav p
      by_sleep old e apart true is same = let no_ : asleep ≡ awake doc = ap (λ (q : Place). q.status) same ∙ wakes in cc
      by_sleep old e apart false is same =
          inr (record {
            there = e ∙ ap (λ (q : Place). Some q) same;
            apart = ap (λ (q : Place). q.nav.0 == d.nav.0) (sym same) ∙ apart;
            stays = ap (λ (q : Place). has_nav (sleepers_of s job.doc d.nav) q.nav) (sym same) ∙ is;
          })

      by_nav : (old : Place) → place_of s nav ≡ Some old → (b : Bool) → (old.nav.0 == d.nav.0) ≡ b → be old ≡ p → IsOwn nav p ⊎ IsOther nav p
      by_nav old e true is same =
          let navs : old.nav ≡ d.nav = nav_is old.nav d.nav is in
          let own : nav ≡ d.nav = sym (found_nav s.places nav old e) ∙ navs in
          let places : Some place ≡ Some old = sym placed ∙ ap (place_of s) (sym own) ∙ e in
          let one : place ≡ old = cc in
          let mine : ((slept (sleepers_of s job.doc d.nav) job.why old).nav.0 == d.nav.0) ≡ true = ap (λ (n : NavId). n.0 == d.nav.0) (slept_same (sleepers_of s job.doc d.nav) job.why old).0 ∙ is in
          let value : be old ≡ activated job entry epoch d (slept (sleepers_of s job.doc d.nav) job.why old) = rw mine refl in
          inl (record { nav_is_its = own; is = ap (λ (q : Place). activated job entry epoch d (slept (sleepers_of s job.doc d.nav) job.why q)) one ∙ sym value ∙ same })
      by_nav old e false is same =
          let other : ((slept (sleepers_of s job.doc d.nav) job.why old).nav.0 == d.nav.0) ≡ false = ap (λ (n : NavId). n.0 == d.nav.0) (slept_same (sleepers_of s job.doc d.nav) job.why old).0 ∙ is in
          let value : be old ≡ slept (sleepers_of s job.doc d.nav) job.why old = rw other refl in
          by_sleep old e is (has_nav (sleepers_of s job.doc d.nav) old.nav) refl (sym value ∙ same)

      by_old : (o : Option Place) → place_of s nav ≡ o → IsOwn nav p ⊎ IsOther nav p
      by_old None e = let no_ : None ≡ Some p = sym (place_becomes s event actor job d entry epoch long at memo address task found nav ∙ ap (λ (o : Option Place). option_map be o) e) ∙ there in cc
      by_old (Some old) e =
          let both : Some (be old) ≡ Some p = sym (place_becomes s event actor job d entry epoch long at memo address task found nav ∙ ap (λ (o : Option Place). option_map be o) e) ∙ there in
          by_nav old e (old.nav.0 == d.nav.0) refl (let same : be old ≡ p = cc in same)

  -- of its own place: it hangs as before, is awake on the document, and given the entry
  record IsOwnPlace (p : Place) : Type 0 where
    nav_is_its : p.nav ≡ d.nav
    above : p.above ≡ place.above
    owners : p.owners ≡ place.owners
    wakes : p.status ≡ awake job.doc
    last : p.last ≡ Some job.doc
    given : p.given ≡ Some entry

  own_place : (nav : NavId) (p : Place) → IsOwn nav p → IsOwnPlace p
  own_place nav p own =
      record {
        nav_is_its = ap (λ (q : Place). q.nav) (sym own.is) ∙ (slept_same (sleepers_of s job.doc d.nav) job.why place).0 ∙ found_nav s.places d.nav place placed;
        above = ap (λ (q : Place). q.above) (sym own.is) ∙ (slept_same (sleepers_of s job.doc d.nav) job.why place).1;
        owners = ap (λ (q : Place). q.owners) (sym own.is) ∙ owners_same (has_nav (sleepers_of s job.doc d.nav) place.nav);
        wakes = ap (λ (q : Place). q.status) (sym own.is);
        last = ap (λ (q : Place). q.last) (sym own.is);
        given = ap (λ (q : Place). q.given) (sym own.is);
      }
    where
      owners_same : (b : Bool) → (let q : Place = cond b (record place { status = asleep; why = job.why }) place in q).owners ≡ place.owners
      owners_same true = refl
      owners_same false = refl

  own_then : (p : Place) → IsOwnPlace p → (q : Place) × (place_of t d.nav ≡ Some q) × (q.status ≡ awake job.doc)
  own_then p own =
      let mine : ((slept (sleepers_of s job.doc d.nav) job.why place).nav.0 == d.nav.0) ≡ true = ap (λ (n : NavId). n.0 == d.nav.0) ((slept_same (sleepers_of s job.doc d.nav) job.why place).0 ∙ found_nav s.places d.nav place placed) ∙ nat_eq_refl d.nav.0 in
      let value : be place ≡ activated job entry epoch d (slept (sleepers_of s job.doc d.nav) job.why place) = rw mine refl in
      (be place, place_becomes s event actor job d entry epoch long at memo address task found d.nav ∙ ap (λ (o : Option Place). option_map be o) placed, ap (λ (q : Place). q.status) value)

  -- who isn't the navigable nor falls asleep is as it was
  stays_then : (nav : NavId) (p : Place) → place_of s nav ≡ Some p → (p.nav.0 == d.nav.0) ≡ false → has_nav (sleepers_of s job.doc d.nav) p.nav ≡ false → place_of t nav ≡ Some p
  stays_then nav p there apart stays_ =
      place_becomes s event actor job d entry epoch long at memo address task found nav ∙ ap (λ (o : Option Place). option_map be o) there
      ∙ (let other : ((slept (sleepers_of s job.doc d.nav) job.why p).nav.0 == d.nav.0) ≡ false = ap (λ (n : NavId). n.0 == d.nav.0) (slept_same (sleepers_of s job.doc d.nav) job.why p).0 ∙ apart in ap (λ (q : Place). Some q) (rw other (rw stays_ refl)))

  -- the document was this navigable's last: then nobody falls asleep, else all below it
  below_sleeps : (nav : NavId) (p : Place) (doc : DocId) → place_of s nav ≡ Some p → p.status ≡ awake doc → is_below d.nav p ≡ true → has_nav (sleepers_of s job.doc d.nav) p.nav ≡ false → holds (λ (last : DocId). last.0 == job.doc.0) place.last ≡ true
  below_sleeps nav p doc there wakes below stays_ = by_last (holds (λ (last : DocId). last.0 == job.doc.0) place.last) refl
    where
      own : place_of s p.nav ≡ Some p
      own = ap (place_of s) (found_nav s.places nav p there) ∙ there

      by_last : (b : Bool) → holds (λ (last : DocId). last.0 == job.doc.0) place.last ≡ b → b ≡ true
      by_last true e = refl
      by_last false e =
          let it : has_nav (woken_below s place.nav) p.nav ≡ true = woken s distinct place.nav p.nav p doc own wakes (ap (λ (n : NavId). is_below n p) (found_nav s.places d.nav place placed) ∙ below) in
          let sleeps : has_nav (sleepers_of s job.doc d.nav) p.nav ≡ true =
          ap (λ (o : Option Place). has_nav (option_map_or (sleepers_below s job.doc) o []) p.nav) placed ∙ ap (λ (b : Bool). has_nav (cond b [] (woken_below s place.nav)) p.nav) e ∙ it in
          let no_ : true ≡ false = sym sleeps ∙ stays_ in cc

  module _ (ready : d.is_ready ≡ true) (undiscarded : d.is_discarded ≡ false) (unknown : d.is_known_dead ≡ false) (target : Row) (there_target : Has s.history.rows target) (entry_is : target.entry ≡ entry) (state_is_its : target.state ≡ d.state) (hung : (parent : NavId) (others : List NavId) → place.above ≡ parent ∷ others → IsOnAwake s place parent) where
    own_home : (nav : NavId) (p : Place) (doc : DocId) → IsOwn nav p → p.status ≡ awake doc → IsHomed t.documents p doc
    own_home nav p doc own wakes =
        let its = own_place nav p own in
        let docs : awake job.doc ≡ awake doc = sym its.wakes ∙ wakes in
        let same : job.doc ≡ doc = cc in
        let old : IsAtHome s.documents p.nav job.doc = record { document = d; found = found; nav_is = sym its.nav_is_its; ready = ready; undiscarded = undiscarded; unknown = unknown } in
        subst (λ (x : DocId). IsHomed t.documents p x) same (record { home = home_again s.documents t.documents p.nav job.doc (λ x at_. stay job.doc x at_) old; last = its.last })

    homed_then : EachWake (IsHomed t.documents) t
    homed_then nav p doc there wakes = by_case (place_then nav p doc there wakes)
      where
        by_case : IsOwn nav p ⊎ IsOther nav p → IsHomed t.documents p doc
        by_case (inl own) = own_home nav p doc own wakes
        by_case (inr other) =
            let h = homes.homed nav p doc other.there wakes in
            record { home = home_again s.documents t.documents p.nav doc (λ x at_. stay doc x at_) h.home; last = h.last }

    state_then : EachWake (IsOfState t.history.rows t.documents) t
    state_then nav p doc there wakes row x has navs given at_ = by_case (place_then nav p doc there wakes)
      where
        -- the state of the document stays
        same_doc : (y : Document) → document_in s.documents doc ≡ Some y → y.state ≡ x.state
        same_doc y f =
            let k = stay doc y f in
            let both : Some k.new ≡ Some x = sym k.found ∙ at_ in
            let one : k.new ≡ x = cc in
            sym k.keeps.state ∙ ap (λ (z : Document). z.state) one

        by_case : IsOwn nav p ⊎ IsOther nav p → row.state ≡ x.state
        by_case (inl own) =
            let its = own_place nav p own in
            let docs : awake job.doc ≡ awake doc = sym its.wakes ∙ wakes in
            let same : job.doc ≡ doc = cc in
            let entries : Some row.entry ≡ Some entry = sym given ∙ its.given in
            let entry_same : row.entry ≡ target.entry = (let e : row.entry ≡ entry = cc in e ∙ sym entry_is) in
            let one : row ≡ target = one_row s.history.rows target row (sound.entries target.entry) there_target has entry_same in
            ap (λ (r : Row). r.state) one ∙ state_is_its ∙ same_doc d (ap (λ (n : DocId). document_in s.documents n) (sym same) ∙ found)
        by_case (inr other) =
            let h = homes.homed nav p doc other.there wakes in
            homes.state nav p doc other.there wakes row h.home.document has navs given h.home.found ∙ same_doc h.home.document h.home.found

    hung_then : EachWake (HangsOnAwake t) t
    hung_then nav p doc there wakes parent others is = by_case (place_then nav p doc there wakes)
      where
        -- a parent that stays awake on its document
        on_again : (owners : List StateId) (b : IsOnAwake s (record p { owners = owners }) parent) → p.owners ≡ owners → (up : Place) → place_of t parent ≡ Some up → up.status ≡ awake b.doc → IsOnAwake t p parent
        on_again owners b same up at_ up_wakes =
            let k = stay b.doc b.document b.found in
            record { above = up; there = at_; doc = b.doc; wakes = up_wakes; document = k.new; found = k.found; owner = ap (λ (l : List StateId). slice_get l 0) same ∙ b.owner ∙ ap (λ (x : StateId). Some x) (sym k.keeps.state) }

        -- the parent isn't this navigable, and isn't below it: else it is so that the document stays
        by_parent : (owners : List StateId) (b : IsOnAwake s (record p { owners = owners }) parent) → p.owners ≡ owners → (((parent.0 == d.nav.0) ≡ true) ⊎ (is_below d.nav b.above ≡ true) → holds (λ (last : DocId). last.0 == job.doc.0) place.last ≡ true) → IsOnAwake t p parent
        by_parent owners b same last_one = by_test (parent.0 == d.nav.0) refl
          where
            up_nav : b.above.nav ≡ parent
            up_nav = found_nav s.places parent b.above b.there

            none_sleeps : holds (λ (last : DocId). last.0 == job.doc.0) place.last ≡ true → (n : NavId) → has_nav (sleepers_of s job.doc d.nav) n ≡ false
            none_sleeps e n = ap (λ (o : Option Place). has_nav (option_map_or (sleepers_below s job.doc) o []) n) placed ∙ ap (λ (c : Bool). has_nav (cond c [] (woken_below s place.nav)) n) e

            wakes_still : (c : Bool) → has_nav (sleepers_of s job.doc d.nav) b.above.nav ≡ c → has_nav (sleepers_of s job.doc d.nav) b.above.nav ≡ false
            wakes_still false e = e
            wakes_still true e = none_sleeps (last_one (inr (is_below_of e))) b.above.nav
              where
                by_last : (c : Bool) → holds (λ (last : DocId). last.0 == job.doc.0) place.last ≡ c → has_nav (cond c [] (woken_below s place.nav)) b.above.nav ≡ true → is_below place.nav b.above ≡ true
                by_last true f h = let no_ : false ≡ true = h in cc
                by_last false f h =
                    let own : place_of s b.above.nav ≡ Some b.above = ap (place_of s) up_nav ∙ b.there in
                    let is_ : (is_below place.nav b.above && not (is_asleep b.above)) ≡ true = sym (has_nav_where (λ (q : Place). is_below place.nav q && not (is_asleep q)) s.places b.above.nav distinct ∙ ap (λ (o : Option Place). holds (λ (q : Place). is_below place.nav q && not (is_asleep q)) o) own) ∙ h in
                    (and_parts (is_below place.nav b.above) (not (is_asleep b.above)) is_).0

                is_below_of : has_nav (sleepers_of s job.doc d.nav) b.above.nav ≡ true → is_below d.nav b.above ≡ true
                is_below_of h =
                    ap (λ (n : NavId). is_below n b.above) (sym (found_nav s.places d.nav place placed))
                    ∙ by_last (holds (λ (last : DocId). last.0 == job.doc.0) place.last) refl (sym (ap (λ (o : Option Place). has_nav (option_map_or (sleepers_below s job.doc) o []) b.above.nav) placed) ∙ h)

            by_test : (c : Bool) → (parent.0 == d.nav.0) ≡ c → IsOnAwake t p parent
            by_test false e =
                on_again owners b same b.above (stays_then parent b.above b.there (ap (λ (n : NavId). n.0 == d.nav.0) up_nav ∙ e) (wakes_still (has_nav (sleepers_of s job.doc d.nav) b.above.nav) refl)) b.wakes
            by_test true e =
                let navs : parent ≡ d.nav = nav_is parent d.nav e in
                let ups : Some place ≡ Some b.above = sym placed ∙ ap (place_of s) (sym navs) ∙ b.there in
                let one : place ≡ b.above = cc in
                let h = homes.homed parent b.above b.doc b.there b.wakes in
                let last_doc : holds (λ (last : DocId). last.0 == job.doc.0) (Some b.doc) ≡ true = ap (λ (o : Option DocId). holds (λ (last : DocId). last.0 == job.doc.0) o) (sym h.last ∙ ap (λ (q : Place). q.last) (sym one)) ∙ last_one (inl e) in
                let docs : b.doc ≡ job.doc = (let number : b.doc.0 ≡ job.doc.0 = eqb-true b.doc.0 job.doc.0 last_doc in ap (λ (n : ℕ). let x : DocId = record { 0 = n } in x) number) in
                let own = own_then_place in
                on_again owners b same own.0 (ap (place_of t) navs ∙ own.1) (own.2 ∙ ap awake (sym docs))
              where
                own_then_place : (q : Place) × (place_of t d.nav ≡ Some q) × (q.status ≡ awake job.doc)
                own_then_place =
                    let mine : ((slept (sleepers_of s job.doc d.nav) job.why place).nav.0 == d.nav.0) ≡ true = ap (λ (n : NavId). n.0 == d.nav.0) ((slept_same (sleepers_of s job.doc d.nav) job.why place).0 ∙ found_nav s.places d.nav place placed) ∙ nat_eq_refl d.nav.0 in
                    let value : be place ≡ activated job entry epoch d (slept (sleepers_of s job.doc d.nav) job.why place) = rw mine refl in
                    (be place, place_becomes s event actor job d entry epoch long at memo address task found d.nav ∙ ap (λ (o : Option Place). option_map be o) placed, ap (λ (q : Place). q.status) value)

        by_case : IsOwn nav p ⊎ IsOther nav p → IsOnAwake t p parent
        by_case (inl own) =
            let its = own_place nav p own in
            let b = hung parent others (sym its.above ∙ is) in
            by_parent place.owners (record { above = b.above; there = b.there; doc = b.doc; wakes = b.wakes; document = b.document; found = b.found; owner = b.owner }) its.owners (λ how.
            let navs : place.nav ≡ d.nav = found_nav s.places d.nav place placed in
            let above_it : has_nav place.above d.nav ≡ true = above_cases s.places place.above others parent d.nav b.above (place_chain s sound hangs d.nav place placed) (sym its.above ∙ is) b.there how in
            let not_ : has_nav place.above d.nav ≡ false = ap (λ (n : NavId). has_nav place.above n) (sym navs) ∙ not_above_itself s sound hangs d.nav place placed in
            let no_ : true ≡ false = sym above_it ∙ not_ in cc)
        by_case (inr other) =
            let b = homes.hung nav p doc other.there wakes parent others is in
            by_parent p.owners (record { above = b.above; there = b.there; doc = b.doc; wakes = b.wakes; document = b.document; found = b.found; owner = b.owner }) refl (λ how. below_sleeps nav p doc other.there wakes (above_cases s.places p.above others parent d.nav b.above (place_chain s sound hangs nav p other.there) is b.there how) other.stays)

    pub shown_homed : AreHomed t
    shown_homed = record { homed = homed_then; state = state_then; hung = hung_then }
