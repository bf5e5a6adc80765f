-- A navigable is shown a document under an epoch that it hasn't come to before: no document is then under an epoch that its navigable hasn't come to.
use Rattle.std.proofs.Common.{◌≡◌, ℕ, ◌≤◌, Bool, true, false, cond, ◌==◌, List, [], length, Option, Some, None, refl, sym, ap, ◌∙◌, subst, arith}
use Rattle.std.specs.Prelude.{option_map}
use Rattle.std.specs.Option.{option_map_or}
use Rattle.std.proofs.lemmas.Bool.Decides.{nat_tests}
use Rattle.tab_ids.specs.declared.EntryId.{EntryId}
use Rattle.tab_ids.specs.declared.Epoch.{Epoch}
use Rattle.tab_ids.specs.declared.NavId.{NavId}
use Rattle.log_model.specs.declared.job.Job.{Job}
use Rattle.log_model.specs.declared.job.Task.{Task}
use Rattle.log_model.specs.declared.job.Task.TheVariants as tasks
use Rattle.log_model.specs.declared.job.Why.{Why}
use Rattle.log_model.specs.declared.row_kind.Actor.{Actor}
use Rattle.log_model.specs.declared.row_kind.RowKind.TheVariants as rows
use Rattle.log_model.specs.History.{has_nav}
use Rattle.log_model.specs.Seen.{Seen, Document, Place, asleep, document_of, desk_of, place_in, place_of}
use Rattle.log_model.specs.After.{after, on_document}
use Rattle.log_model.specs.AfterDocuments.{addressed, documents_sent}
use Rattle.log_model.specs.AfterPlaces.{on_place, put_to_sleep, activated, sleepers_below, places_sent}
use Rattle.log_model.specs.AfterRequests.{requests_sent}
use Rattle.seen_laws.proofs.Keyed.{find_map, find_on_same, find_on_other, find_has}
use Rattle.seen_facts.specs.Coord.Leading.{held_back}
use Rattle.seen_facts.specs.Coord.Epochs.{ShowsWithin, EachIsWithin}
use Rattle.seen_facts.proofs.Coord.OneDocument.{mailed}
use Rattle.seen_facts.proofs.Coord.Kept.{IsSentHome, is_mine}
use Rattle.seen_facts.proofs.Coord.EachDocuments.{HadEpoch, IsOneOfEach, each_stays}
use Rattle.seen_facts.proofs.Coord.Within.{within_more, sent_within, sent_apart}
use Rattle.seen_facts.proofs.Coord.Withins.{WithinIn, within_again}

some_same : {A : Type 0} {a b : A} → (let o : Option A = Some a in o) ≡ Some b → a ≡ b
some_same e = cc

-- who falls asleep keeps the epoch
abbrev put : List NavId → Why → Place → Place
put navs why p = cond (has_nav navs p.nav) (record p { status = asleep; why = why }) p

put_nav : (navs : List NavId) (why : Why) (p : Place) → (put navs why p).nav.0 ≡ p.nav.0
put_nav navs why p = by_test (has_nav navs p.nav)
  where
    by_test : (b : Bool) → (let q : Place = cond b (record p { status = asleep; why = why }) p in q).nav.0 ≡ p.nav.0
    by_test true = refl
    by_test false = refl

put_epoch : (navs : List NavId) (why : Why) (p : Place) → (put navs why p).epoch ≡ p.epoch
put_epoch navs why p = by_test (has_nav navs p.nav)
  where
    by_test : (b : Bool) → (let q : Place = cond b (record p { status = asleep; why = why }) p in q).epoch ≡ p.epoch
    by_test true = refl
    by_test false = refl

pub slept_before : (s : Seen) (navs : List NavId) (why : Why) (nav : NavId) (place : Place) → place_in (put_to_sleep navs why s.places) nav ≡ Some place → (before : Place) × (place_of s nav ≡ Some before) × (before.epoch ≡ place.epoch)
slept_before s navs why nav place there = by_place (place_of s nav) refl (sym (find_map (λ (p : Place). p.nav.0) (put navs why) nav.0 s.places (put_nav navs why)) ∙ there)
  where
    by_place : (o : Option Place) → place_of s nav ≡ o → option_map (put navs why) (place_of s nav) ≡ Some place → (before : Place) × (place_of s nav ≡ Some before) × (before.epoch ≡ place.epoch)
    by_place None e mapped =
        let no_ : None ≡ Some place = sym (ap (λ (o : Option Place). option_map (put navs why) o) e) ∙ mapped in absurd cc
    by_place (Some p) e mapped =
        let is : put navs why p ≡ place = some_same (sym (ap (λ (o : Option Place). option_map (put navs why) o) e) ∙ mapped) in
        (p, e, sym (put_epoch navs why p) ∙ ap (λ (q : Place). q.epoch) is)

module _ (s : Seen) (event : ℕ) (actor : Actor) (job : Job) (d : Document) (entry : EntryId) (epoch : Epoch) (long at : ℕ) (memo : Option (List ℕ)) (address : List ℕ) (task : job.task ≡ tasks.Activate entry epoch long at memo address) (sent : IsSentHome s job) (is_there : document_of s job.doc ≡ Some d) (rises : (place : Place) → place_of s d.nav ≡ Some place → place.epoch.0 ≤ epoch.0) (requests : held_back (requests_sent s job job.task s.requests) s.parked ≡ held_back s.requests s.parked) where
  abbrev after_show : Seen
  after_show = after s (record { event = event; actor = actor; row = rows.Sent job })

  abbrev sleepers : List NavId
  sleepers = option_map_or (sleepers_below s job.doc) (place_of s d.nav) []

  abbrev sleeping : List Place
  sleeping = put_to_sleep sleepers job.why s.places

  places_are : after_show.places ≡ on_place d.nav (activated job entry epoch d) sleeping
  places_are =
      ap (λ (t : Task). places_sent s job t) task
      ∙ ap (λ (o : Option Document). option_map_or (λ (d : Document). on_place d.nav (activated job entry epoch d) (put_to_sleep (option_map_or (sleepers_below s job.doc) (place_of s d.nav) []) job.why s.places)) o s.places) is_there

  found : (nav : NavId) (place : Place) → place_of after_show nav ≡ Some place → place_in (on_place d.nav (activated job entry epoch d) sleeping) nav ≡ Some place
  found nav place placed = ap (λ (places : List Place). place_in places nav) (sym places_are) ∙ placed

  same_nav : (nav : NavId) → (d.nav.0 == nav.0) ≡ true → d.nav ≡ nav
  same_nav nav e = ap (λ (n : ℕ). let x : NavId = record { 0 = n } in x) (let same : d.nav.0 ≡ nav.0 = grind (arith, nat_tests, e) in same)

  -- the navigable that is shown the document comes to the epoch
  shown_epoch : (place : Place) → place_in (on_place d.nav (activated job entry epoch d) sleeping) d.nav ≡ Some place → (p : Place) × (place_in sleeping d.nav ≡ Some p) × (place.epoch ≡ epoch)
  shown_epoch place there = by_place (place_in sleeping d.nav) refl (sym (find_on_same (λ (p : Place). p.nav.0) (activated job entry epoch d) d.nav.0 sleeping (λ p. refl)) ∙ there)
    where
      by_place : (o : Option Place) → place_in sleeping d.nav ≡ o → option_map (activated job entry epoch d) (place_in sleeping d.nav) ≡ Some place → (p : Place) × (place_in sleeping d.nav ≡ Some p) × (place.epoch ≡ epoch)
      by_place None e mapped =
          let no_ : None ≡ Some place = sym (ap (λ (o : Option Place). option_map (activated job entry epoch d) o) e) ∙ mapped in absurd cc
      by_place (Some p) e mapped =
          let is : activated job entry epoch d p ≡ place = some_same (sym (ap (λ (o : Option Place). option_map (activated job entry epoch d) o) e) ∙ mapped) in
          (p, e, ap (λ (q : Place). q.epoch) (sym is))

  had_epoch : (nav : NavId) (place : Place) → place_of after_show nav ≡ Some place → HadEpoch s nav place
  had_epoch nav place placed = by_nav (d.nav.0 == nav.0) refl
    where
      by_nav : (b : Bool) → (d.nav.0 == nav.0) ≡ b → HadEpoch s nav place
      by_nav true e =
          let same : d.nav ≡ nav = same_nav nav e in
          let shown = shown_epoch place (ap (λ (n : NavId). place_in (on_place d.nav (activated job entry epoch d) sleeping) n) same ∙ found nav place placed) in
          let before = slept_before s sleepers job.why d.nav shown.0 shown.1 in
          record {
            before = before.0;
            there = ap (λ (n : NavId). place_of s n) (sym same) ∙ before.1;
            rises = subst (λ (k : Epoch). before.0.epoch.0 ≤ k.0) (sym shown.2) (rises before.0 before.1);
          }
      by_nav false e =
          let before = slept_before s sleepers job.why nav place (sym (find_on_other (λ (p : Place). p.nav.0) (activated job entry epoch d) d.nav.0 nav.0 sleeping (λ p. refl) e) ∙ found nav place placed) in
          record {
            before = before.0;
            there = before.1;
            rises = subst (λ (k : Epoch). before.0.epoch.0 ≤ k.0) before.2 (omega arith);
          }

  -- the order shows within the epoch that the navigable has come to
  shows : (old : Document) (place : Place) → document_of s job.doc ≡ Some old → place_of after_show old.nav ≡ Some place → ShowsWithin place.epoch.0 job.task
  shows old place there placed =
      let same : d ≡ old = some_same (sym is_there ∙ there) in
      let shown = shown_epoch place (found d.nav place (ap (λ (x : Document). place_of after_show x.nav) same ∙ placed)) in
      subst (ShowsWithin place.epoch.0) (sym task) (subst (λ (k : Epoch). epoch.0 ≤ k.0) (sym shown.2) (omega arith))

  show_change : IsOneOfEach (WithinIn s) s after_show job.proc (mailed job) job.doc (addressed job.task)
  show_change =
      record {
        desks = refl;
        documents = ap (λ (t : Task). documents_sent s job t) task ∙ ap (λ (t : Task). on_document job.doc (addressed t) s.documents) (sym task);
        keeps_proc = λ desk. refl;
        keeps_number = λ x. refl;
        stays = λ x. refl;
        stays_in = λ x. refl;
        had = had_epoch;
        grows = λ desk x m n more is. within_more (held_back s.requests s.parked) desk x m n more is;
        home = sent.home;
        own = λ old place there placed is. sent_within (held_back s.requests s.parked) (desk_of s job.proc) old job place.epoch.0 (shows old place there placed) (is_mine old.nr (length (desk_of s job.proc).killed) job (sym (find_has (λ (x : Document). x.nr.0) job.doc.0 s.documents old there)) sent.lives) is;
        other = λ x bound apart is. sent_apart (held_back s.requests s.parked) (desk_of s job.proc) x job bound apart is;
      }

  pub show_stays : EachIsWithin s → EachIsWithin after_show
  show_stays each =
      within_again s after_show requests (each_stays (WithinIn s) s after_show job.proc (mailed job) job.doc (addressed job.task) show_change each)
