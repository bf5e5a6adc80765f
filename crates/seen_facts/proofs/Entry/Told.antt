-- What is known of entries, over a report that is delivered: of nothing made, or of what a document made, which is then at hand, held back, or a traversal that joins the queue.
use Rattle.std.proofs.Common.{◌≡◌, inl, ℕ, Bool, true, false, cond, ◌==◌, List, [], ◌∷◌, ◌++◌, drop, map, Option, Some, None, refl, sym, ap, ◌∙◌, subst, append-nil, arith}
use Rattle.std.specs.Prelude.{filter, filter_map, slice_get, option_and_then, if◌then◌else◌}
use Rattle.std.specs.Option.{option_map_or}
use Rattle.std.proofs.lemmas.Bool.{eqb-true}
use Rattle.std.proofs.lemmas.Bool.Decides.{nat_tests}
use Rattle.std.proofs.lemmas.List.Elements.{filter_map-append, filter-append}
use Rattle.tab_ids.specs.declared.DocId.{DocId}
use Rattle.tab_ids.specs.declared.NavId.{NavId}
use Rattle.tab_ids.specs.declared.ProcId.{ProcId}
use Rattle.tab_ids.specs.declared.ReqId.{ReqId}
use Rattle.log_model.specs.declared.job.Job.{Job}
use Rattle.log_model.specs.declared.job.Task.{Task}
use Rattle.log_model.specs.declared.job.Task.TheVariants as tasks
use Rattle.log_model.specs.declared.made.Made.{Made}
use Rattle.log_model.specs.declared.made.Report.{Report}
use Rattle.log_model.specs.declared.made.Report.TheVariants as reports
use Rattle.log_model.specs.declared.row_kind.Actor.{Actor}
use Rattle.log_model.specs.declared.row_kind.RowKind.TheVariants as rows
use Rattle.log_model.specs.After.{after, desk_delivered}
use Rattle.log_model.specs.AfterPlaces.{on_place, place_arrived, places_delivered}
use Rattle.log_model.specs.AfterRequests.{is_held_back, made_of_report}
use Rattle.log_model.specs.Seen.{Seen, Desk, Document, Place, desk_of, document_of}
use Rattle.seen_facts.specs.Coord.Leading.{held_back}
use Rattle.seen_facts.specs.Home.Homes.{document_in}
use Rattle.seen_facts.specs.Each.Items.{Each}
use Rattle.seen_facts.proofs.Each.Eaches.{each_more}
use Rattle.seen_facts.proofs.Request.Readers.{delivered_reads}
use Rattle.seen_facts.specs.Entry.Entries.{AreEntries, IsMadeIn, IsMadeThere, mades_of, untaken, untold, waiting}
use Rattle.seen_facts.proofs.Entry.Docs.{DocsAre, delivered_docs}
use Rattle.seen_facts.proofs.Entry.Parts.{KeepsAsked, LeavesPlace, SameTold, asked_read, deed, each_desk, given_mapped, goes_entries, held_same, home_same, leaves_if, lists_same, shown_mapped, told_on, waits_same}
use Rattle.seen_facts.proofs.Entry.Skips.{IsNoEntry, IsPassed, Skips, made_in, skips_append, skips_same}
use Rattle.seen_facts.proofs.Entry.Stays.{IsPassedOf, ListsGo, its_number, lists_of, some_same}

-- no death is reported
abbrev pub NoDeath : Option Report → Type 0
NoDeath (Some (reports.Died death)) = ⊥
NoDeath _ = Unit {0}

-- the report tells of nothing made
abbrev pub TellsNone : Option Report → Type 0
TellsNone report = option_and_then made_of_report report ≡ None

-- ---- places

arrived : (job : Job) (nav : NavId) → LeavesPlace (λ (p : Place). cond (p.nav.0 == nav.0) (place_arrived job p) p)
arrived job nav =
    leaves_if (λ (p : Place). p.nav.0 == nav.0) (place_arrived job) (record { nav = λ p. refl; ever = λ p. refl; status = λ p doc e. refl; given = λ p. refl; epoch = λ p. refl })

-- what each becomes
record PlacesAre (places next : List Place) : Type 0 where
  g : Place → Place
  leaves : LeavesPlace g
  are : next ≡ map g places

map_places : (places : List Place) → places ≡ map (λ (p : Place). p) places
map_places [] = refl
map_places (p ∷ places) = ap (λ (l : List Place). p ∷ l) (map_places places)

places_same : (places : List Place) → PlacesAre places places
places_same places =
    record { g = λ p. p; leaves = record { nav = λ p. refl; ever = λ p. refl; status = λ p doc e. refl; given = λ p. refl; epoch = λ p. refl }; are = map_places places }

arrived_places : (s : Seen) (job : Job) (o : Option Document) → PlacesAre s.places (option_map_or (λ (d : Document). on_place d.nav (place_arrived job) s.places) o s.places)
arrived_places s job None = places_same s.places
arrived_places s job (Some d) = record { g = λ p. cond (p.nav.0 == d.nav.0) (place_arrived job p) p; leaves = arrived job d.nav; are = refl }

delivered_places : (s : Seen) (report : Option Report) → NoDeath report → PlacesAre s.places (places_delivered s report)
delivered_places s None no_death = places_same s.places
delivered_places s (Some (reports.Died death)) never = absurd never
delivered_places s (Some (reports.Made made)) no_death = places_same s.places
delivered_places s (Some (reports.Done job outcome made)) no_death = by_task job.task
  where
    by_task : (task : Task) → PlacesAre s.places (places_delivered s (Some (reports.Done (record job { task = task }) outcome made)))
    by_task (tasks.Activate entry epoch length index memo address) = arrived_places s job (document_of s job.doc)
    by_task (tasks.Populate nav state address initial) = places_same s.places
    by_task (tasks.Update length index) = places_same s.places
    by_task tasks.Freeze = places_same s.places
    by_task tasks.Discard = places_same s.places
    by_task (tasks.Ask slot cause) = places_same s.places
    by_task (tasks.DoFragment req mode address) = places_same s.places

-- ---- lists

-- the first report, and the others
abbrev front : Option Made → List Made → List Made
front None rest = rest
front (Some made) rest = made ∷ rest

mades_front : (l : List Report) → filter_map made_of_report l ≡ front (option_and_then made_of_report (slice_get l 0)) (filter_map made_of_report (drop 1 l))
mades_front [] = refl
mades_front (r ∷ l) = by_made (made_of_report r) refl
  where
    by_made : (o : Option Made) → made_of_report r ≡ o → filter_map made_of_report (r ∷ l) ≡ front (made_of_report r) (filter_map made_of_report l)
    by_made None e = rw e refl
    by_made (Some made) e = rw e refl

module _ (hand : List Made) (s : Seen) (event : ℕ) (actor : Actor) (are : AreEntries hand s) (proc : ProcId) (no_death : NoDeath (slice_get (desk_of s proc).reports 0)) where
  abbrev pub delivered : Seen
  delivered = after s (record { event = event; actor = actor; row = rows.Delivered proc })

  docs : DocsAre s.documents delivered.documents
  docs = delivered_docs s.documents (slice_get (desk_of s proc).reports 0)

  places : PlacesAre s.places delivered.places
  places = delivered_places s (slice_get (desk_of s proc).reports 0) no_death

  asked : KeepsAsked s.requests delivered.requests
  asked =
      asked_read s.requests delivered.requests (delivered_reads deed (record { moves = λ q a m. refl; asks = λ q a. refl; fragments = λ q d. refl; misses = λ q b. refl }) (slice_get (desk_of s proc).reports 0) s.requests)

  -- with what waits then
  delivered_so : (hand_ : List Made) → ListsGo hand hand_ s delivered → Each (IsMadeThere s.documents) (waiting delivered hand_) → ((p : ProcId) → Each (IsMadeIn s.documents p) (mades_of (desk_of delivered p))) → AreEntries hand_ delivered
  delivered_so hand_ lists waits home =
      goes_entries hand hand_ s delivered
      (record {
        g = docs.g;
        keeps = docs.keeps;
        applied = docs.applied;
        documents = docs.are;
        views = docs.views;
        lists = lists;
        waits = waits;
        home = home;
        shown = shown_mapped s delivered places.g places.leaves places.are;
        stays = record { history = refl; numbers = refl; given = given_mapped s.places delivered.places places.g places.leaves.nav places.leaves.ever places.are; asked = asked };
      })
      are

  -- it tells of nothing made
  pub told_entries : TellsNone (slice_get (desk_of s proc).reports 0) → AreEntries hand delivered
  told_entries none =
      delivered_so hand (lists_same hand s delivered (record { parked = parked; asked = asked; told = told })) (waits_same hand s delivered (record { parked = parked; asked = asked; told = told }) are) (home_same hand s delivered told are)
    where
      parked : delivered.parked ≡ s.parked
      parked =
          ap (λ (o : Option Made). option_map_or (λ (m : Made). if is_held_back s m then s.parked ++ m.req ∷ [] else s.parked) o s.parked) none

      told : SameTold s delivered
      told =
          told_on s delivered proc desk_delivered refl (λ desk. refl)
          (sym (mades_front (desk_of s proc).reports ∙ ap (λ (o : Option Made). front o (filter_map made_of_report (drop 1 (desk_of s proc).reports))) none))

-- ---- it tells of what a document made

move_in : (xs : List Made) (x : Made) (ys : List Made) → (xs ++ x ∷ []) ++ ys ≡ xs ++ x ∷ ys
move_in [] x ys = refl
move_in (y ∷ xs) x ys = ap (λ (l : List Made). y ∷ l) (move_in xs x ys)

module _ (hand : List Made) (s : Seen) (event : ℕ) (actor : Actor) (are : AreEntries hand s) (proc : ProcId) (no_death : NoDeath (slice_get (desk_of s proc).reports 0)) (made : Made) (first : option_and_then made_of_report (slice_get (desk_of s proc).reports 0) ≡ Some made) where
  abbrev told_of : Seen
  told_of = delivered hand s event actor are proc no_death

  all_told : mades_of (desk_of s proc) ≡ made ∷ filter_map made_of_report (drop 1 (desk_of s proc).reports)
  all_told =
      mades_front (desk_of s proc).reports ∙ ap (λ (o : Option Made). front o (filter_map made_of_report (drop 1 (desk_of s proc).reports))) first

  all_in : Each (IsMadeIn s.documents proc) (made ∷ filter_map made_of_report (drop 1 (desk_of s proc).reports))
  all_in = subst (λ (l : List Made). Each (IsMadeIn s.documents proc) l) all_told (are.home proc)

  home_then : (p : ProcId) → Each (IsMadeIn s.documents p) (mades_of (desk_of told_of p))
  home_then =
      each_desk s told_of proc desk_delivered (λ (p : ProcId) (desk : Desk). Each (IsMadeIn s.documents p) (mades_of desk)) refl (λ desk. refl) all_in.1 (λ p apart. are.home p)

  -- of a document of another process it isn't
  not_its : (doc : DocId) (d : Document) → document_of s doc ≡ Some d → (proc.0 == d.proc.0) ≡ false → (made.doc.0 == d.nr.0) ≡ false
  not_its doc d found apart = by_test (made.doc.0 == d.nr.0) refl
    where
      by_test : (b : Bool) → (made.doc.0 == d.nr.0) ≡ b → (made.doc.0 == d.nr.0) ≡ false
      by_test false e = e
      by_test true e =
          let is : IsMadeIn s.documents proc made = all_in.0 in
          let number : d.nr.0 ≡ doc.0 = its_number s.documents doc d found in
          let same : made.doc.0 ≡ doc.0 = eqb-true made.doc.0 d.nr.0 e ∙ number in
          let at : document_of s made.doc ≡ Some d = ap (λ (n : ℕ). document_in s.documents (record { 0 = n })) same ∙ found in
          let one : is.by.document ≡ d = some_same (sym is.by.found ∙ at) in
          let home : d.proc.0 ≡ proc.0 = ap (λ (x : Document). x.proc.0) (sym one) ∙ ap (λ (p : ProcId). p.0) is.home in
          let yes : (proc.0 == d.proc.0) ≡ true = grind (arith, nat_tests, home) in
          let never : true ≡ false = sym yes ∙ apart in absurd cc

  parked_is : told_of.parked ≡ (if is_held_back s made then s.parked ++ made.req ∷ [] else s.parked)
  parked_is =
      ap (λ (o : Option Made). option_map_or (λ (m : Made). if is_held_back s m then s.parked ++ m.req ∷ [] else s.parked) o s.parked) first

  held_then : (parked : List ReqId) → held_back told_of.requests parked ≡ held_back s.requests parked
  held_then parked =
      held_same s.requests told_of.requests parked (asked hand s event actor are proc no_death)

  -- a traversal, or anything but an entry, that isn't held back
  pub passed_entries : is_held_back s made ≡ false → IsNoEntry made.what → AreEntries hand told_of
  passed_entries free none =
      delivered_so hand s event actor are proc no_death hand
      (lists_of hand hand s told_of (each_desk s told_of proc desk_delivered (λ (p : ProcId) (desk : Desk). Skips (IsPassed s) (untold (waiting s hand) (desk_of s p)) (untold (waiting told_of hand) desk)) refl (λ desk. refl) own others))
      (subst (λ (l : List Made). Each (IsMadeThere s.documents) l) (sym waits) are.waits) home_then
    where
      waits : waiting told_of hand ≡ waiting s hand
      waits =
          ap (λ (l : List Made). l ++ hand) (held_then told_of.parked ∙ ap (λ (l : List ReqId). held_back s.requests l) (parked_is ∙ ap (λ (b : Bool). if b then s.parked ++ made.req ∷ [] else s.parked) free))

      others : (p : ProcId) → (proc.0 == p.0) ≡ false → Skips (IsPassed s) (untold (waiting s hand) (desk_of s p)) (untold (waiting told_of hand) (desk_of s p))
      others p apart =
          subst (λ (l : List Made). Skips (IsPassed s) (untold (waiting s hand) (desk_of s p)) (l ++ mades_of (desk_of s p))) (sym waits) (skips_same (IsPassed s) (untold (waiting s hand) (desk_of s p)))

      own : Skips (IsPassed s) (untold (waiting s hand) (desk_of s proc)) (untold (waiting told_of hand) (desk_delivered (desk_of s proc)))
      own =
          subst (λ (l : List Made). Skips (IsPassed s) (waiting s hand ++ l) (untold (waiting told_of hand) (desk_delivered (desk_of s proc)))) (sym all_told)
          (subst (λ (l : List Made). Skips (IsPassed s) (waiting s hand ++ made ∷ filter_map made_of_report (drop 1 (desk_of s proc).reports)) (l ++ filter_map made_of_report (drop 1 (desk_of s proc).reports))) (sym waits)
          (skips_append (IsPassed s) (waiting s hand) (waiting s hand) (made ∷ filter_map made_of_report (drop 1 (desk_of s proc).reports)) (filter_map made_of_report (drop 1 (desk_of s proc).reports)) (skips_same (IsPassed s) (waiting s hand)) (inl ((λ nav place doc there wakes has under. none), skips_same (IsPassed s) (filter_map made_of_report (drop 1 (desk_of s proc).reports))))))

  -- it waits behind what waited
  with_made : (hand_ : List Made) → waiting told_of hand_ ≡ waiting s hand ++ made ∷ [] → AreEntries hand_ told_of
  with_made hand_ waits =
      delivered_so hand s event actor are proc no_death hand_ lists
      (subst (λ (l : List Made). Each (IsMadeThere s.documents) l) (sym waits) (each_more (IsMadeThere s.documents) (waiting s hand) made are.waits all_in.0.by)) home_then
    where
      lists : ListsGo hand hand_ s told_of
      lists doc d found =
          subst (λ (l : List Made). Skips (IsPassedOf s d.nr) (untaken (waiting s hand) (desk_of s d.proc) d.nr) l)
          (sym (each_desk s told_of proc desk_delivered (λ (p : ProcId) (desk : Desk). (let q : ProcId = p in q) ≡ d.proc → untaken (waiting told_of hand_) desk d.nr ≡ untaken (waiting s hand) (desk_of s p) d.nr) refl (λ desk. refl) (λ same. own) others d.proc refl))
          (skips_same (IsPassedOf s d.nr) (untaken (waiting s hand) (desk_of s d.proc) d.nr))
        where
          own : untaken (waiting told_of hand_) (desk_delivered (desk_of s proc)) d.nr ≡ untaken (waiting s hand) (desk_of s proc) d.nr
          own =
              ap (λ (l : List Made). filter (λ (m : Made). m.doc.0 == d.nr.0) l)
              (ap (λ (l : List Made). l ++ filter_map made_of_report (drop 1 (desk_of s proc).reports)) waits
              ∙ move_in (waiting s hand) made (filter_map made_of_report (drop 1 (desk_of s proc).reports))
              ∙ ap (λ (l : List Made). waiting s hand ++ l) (sym all_told))

          others : (p : ProcId) → (proc.0 == p.0) ≡ false → p ≡ d.proc → untaken (waiting told_of hand_) (desk_of s p) d.nr ≡ untaken (waiting s hand) (desk_of s p) d.nr
          others p apart same =
              let no_ : (made.doc.0 == d.nr.0) ≡ false = not_its doc d found (subst (λ (x : ProcId). (proc.0 == x.0) ≡ false) same apart) in
              ap (λ (l : List Made). filter (λ (m : Made). m.doc.0 == d.nr.0) l) (ap (λ (l : List Made). l ++ mades_of (desk_of s p)) waits ∙ move_in (waiting s hand) made (mades_of (desk_of s p)))
              ∙ filter-append (λ (m : Made). m.doc.0 == d.nr.0) (waiting s hand) (made ∷ mades_of (desk_of s p))
              ∙ ap (λ (l : List Made). filter (λ (m : Made). m.doc.0 == d.nr.0) (waiting s hand) ++ l) (let one : filter (λ (m : Made). m.doc.0 == d.nr.0) (made ∷ mades_of (desk_of s p)) ≡ filter (λ (m : Made). m.doc.0 == d.nr.0) (mades_of (desk_of s p)) = rw no_ refl in one)
              ∙ sym (filter-append (λ (m : Made). m.doc.0 == d.nr.0) (waiting s hand) (mades_of (desk_of s p)))

  join_in : (xs ys zs : List Made) → (xs ++ ys) ++ zs ≡ xs ++ (ys ++ zs)
  join_in [] ys zs = refl
  join_in (x ∷ xs) ys zs = ap (λ (l : List Made). x ∷ l) (join_in xs ys zs)

  -- it is at hand
  pub at_hand_entries : is_held_back s made ≡ false → AreEntries (hand ++ made ∷ []) told_of
  at_hand_entries free =
      with_made (hand ++ made ∷ [])
      (ap (λ (l : List Made). l ++ (hand ++ made ∷ [])) (held_then told_of.parked ∙ ap (λ (l : List ReqId). held_back s.requests l) (parked_is ∙ ap (λ (b : Bool). if b then s.parked ++ made.req ∷ [] else s.parked) free))
      ∙ sym (join_in (held_back s.requests s.parked) hand (made ∷ [])))

-- it is held back, where nothing is at hand
module _ (s : Seen) (event : ℕ) (actor : Actor) (are : AreEntries [] s) (proc : ProcId) (no_death : NoDeath (slice_get (desk_of s proc).reports 0)) (made : Made) (first : option_and_then made_of_report (slice_get (desk_of s proc).reports 0) ≡ Some made) where
  pub held_entries : is_held_back s made ≡ true → made_in s.requests made.req ≡ Some made → AreEntries [] (told_of [] s event actor are proc no_death made first)
  held_entries held its =
      with_made [] s event actor are proc no_death made first []
      (append-nil (held_back (told_of [] s event actor are proc no_death made first).requests (told_of [] s event actor are proc no_death made first).parked)
      ∙ held_then [] s event actor are proc no_death made first (told_of [] s event actor are proc no_death made first).parked
      ∙ ap (λ (l : List ReqId). held_back s.requests l) (parked_is [] s event actor are proc no_death made first ∙ ap (λ (b : Bool). if b then s.parked ++ made.req ∷ [] else s.parked) held)
      ∙ filter_map-append (made_in s.requests) s.parked (made.req ∷ [])
      ∙ ap (λ (l : List Made). held_back s.requests s.parked ++ l) one
      ∙ ap (λ (l : List Made). l ++ made ∷ []) (sym (append-nil (held_back s.requests s.parked))))
    where
      one : filter_map (made_in s.requests) (made.req ∷ []) ≡ made ∷ []
      one = rw its refl
