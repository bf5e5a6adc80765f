-- What a row has to leave of documents, lists, places and requests, so that all that is known of entries is so again.
use Rattle.std.proofs.Common.{◌≡◌, ◌⊎◌, inl, inr, ℕ, ◌+◌, ◌≤◌, ◌<◌, Bool, true, false, ◌==◌, List, [], ◌∷◌, ◌++◌, length, Option, Some, None, refl, sym, ap, ◌∙◌, subst, arith}
use Rattle.std.specs.Prelude.{filter}
use Rattle.std.proofs.lemmas.Bool.{eqb-true}
use Rattle.std.proofs.lemmas.Bool.Decides.{nat_tests}
use Rattle.tab_ids.specs.declared.DocId.{DocId}
use Rattle.tab_ids.specs.declared.EntryId.{EntryId}
use Rattle.tab_ids.specs.declared.Epoch.{Epoch}
use Rattle.tab_ids.specs.declared.NavId.{NavId}
use Rattle.tab_ids.specs.declared.ProcId.{ProcId}
use Rattle.tab_ids.specs.declared.ReqId.{ReqId}
use Rattle.log_model.specs.declared.made.Made.{Made}
use Rattle.log_model.specs.declared.row.Row.{Row}
use Rattle.log_model.specs.History.{has_row}
use Rattle.log_model.specs.Seen.{Seen, Asked, Document, Place, awake, desk_of, document_of, place_in, place_of, request_in}
use Rattle.log_model.specs.Views.{View}
use Rattle.seen_facts.specs.Coord.Leading.{coming, is_made_under}
use Rattle.seen_facts.specs.Hang.Members.{Has}
use Rattle.seen_facts.proofs.Hang.Members.{find_has}
use Rattle.seen_facts.specs.Home.Homes.{document_in}
use Rattle.seen_facts.specs.Each.Mades.{Ascend, Continues}
use Rattle.seen_facts.specs.Each.Items.{Each, IsUpTo}
use Rattle.seen_facts.specs.Entry.Entries.{AreEntries, EachAscends, EachContinues, EachEntry, EachHasMadeNothing, EachThere, IsCounted, IsMadeIn, IsMadeThere, IsNumbered, mades_of, untaken, untold, waiting}
use Rattle.seen_facts.proofs.Entry.Skips.{IsNoEntry, IsPassed, Skips, ascends_skip, continues_skip, filter_skip, none_skip}

pub some_same : {A : Type 0} {a b : A} → (let o : Option A = Some a in o) ≡ Some b → a ≡ b
some_same e = cc

-- ---- entries that are known: of a row, once given, or taken

-- it is the entry of a row
pub record IsOfRow (rows : List Row) (entry : EntryId) : Type 0 where
  pub row : Row
  pub there : Has rows row
  pub is : row.entry ≡ entry

-- a navigable was given it
pub record WasGiven (places : List Place) (entry : EntryId) : Type 0 where
  pub nav : NavId
  pub place : Place
  pub there : (let o : Option Place = place_in places nav in o) ≡ Some place
  pub has : Has place.ever_given entry

-- a request's change took it from the history
pub record WasTook (asked : List Asked) (entry : EntryId) : Type 0 where
  pub req : ReqId
  pub q : Asked
  pub there : request_in asked req ≡ Some q
  pub has : Has q.took entry

-- one of the three
abbrev pub IsKnownEntry : Seen → EntryId → Type 0
IsKnownEntry s entry = IsOfRow s.history.rows entry ⊎ WasGiven s.places entry ⊎ WasTook s.requests entry

known_is : (F : EntryId → Type 0) (s : Seen) (entry : EntryId) → EachEntry F s.history.rows s.places s.requests → IsKnownEntry s entry → F entry
known_is F s entry each (inl r) = subst F r.is (each.of_row r.row r.there)
known_is F s entry each (inr (inl g)) = each.given g.nav g.place entry g.there g.has
known_is F s entry each (inr (inr t)) = each.took t.req t.q entry t.there t.has

-- each entry that is known was known, or is new and so
pub record EntriesGo (G : EntryId → Type 0) (s t : Seen) : Type 0 where
  pub of_rows : (row : Row) → Has t.history.rows row → IsKnownEntry s row.entry ⊎ G row.entry
  pub givens : (nav : NavId) (place : Place) (entry : EntryId) → place_of t nav ≡ Some place → Has place.ever_given entry → IsKnownEntry s entry ⊎ G entry
  pub tooks : (req : ReqId) (q : Asked) (entry : EntryId) → request_in t.requests req ≡ Some q → Has q.took entry → IsKnownEntry s entry ⊎ G entry

pub entries_again : (F G : EntryId → Type 0) (s t : Seen) → ((entry : EntryId) → F entry → G entry) → EntriesGo G s t → EachEntry F s.history.rows s.places s.requests → EachEntry G t.history.rows t.places t.requests
entries_again F G s t on go each =
    record {
      of_row = λ row there. either row.entry (go.of_rows row there);
      given = λ nav place entry there has. either entry (go.givens nav place entry there has);
      took = λ req q entry there has. either entry (go.tooks req q entry there has);
    }
  where
    either : (entry : EntryId) → IsKnownEntry s entry ⊎ G entry → G entry
    either entry (inl known) = on entry (known_is F s entry each known)
    either entry (inr new) = new

-- ---- documents

-- it was there, with its number and in its process, and made if it wasn't unmade
pub record WasDoc (s : Seen) (doc : DocId) (d : Document) : Type 0 where
  pub before : Document
  pub found : document_of s doc ≡ Some before
  pub nr : d.nr ≡ before.nr
  pub proc : d.proc ≡ before.proc
  pub ready : d.is_ready ≡ false → before.is_ready ≡ false

-- or it is new: it has the next number, and no view
pub record IsNewDoc (s t : Seen) (d : Document) : Type 0 where
  pub nr : d.nr.0 ≡ length s.documents + 1
  pub applied : d.last_applied ≡ 0
  pub view : d.view ≡ None
  pub longer : length s.documents + 1 ≤ length t.documents

-- it is still there
pub record StaysDoc (t : Seen) (doc : DocId) (d : Document) : Type 0 where
  pub new : Document
  pub found : document_of t doc ≡ Some new
  pub proc : new.proc ≡ d.proc

-- the documents go on: each was there or is new, each stays, and none is lost of their number
pub record DocsGo (s t : Seen) : Type 0 where
  pub were : (doc : DocId) (d : Document) → document_of t doc ≡ Some d → WasDoc s doc d ⊎ IsNewDoc s t d
  pub stay : (doc : DocId) (d : Document) → document_of s doc ≡ Some d → StaysDoc t doc d
  pub longer : length s.documents ≤ length t.documents

-- the last applied entry of each is as before
abbrev pub SameApplied : Seen → Seen → Type 0
SameApplied s t =
    (doc : DocId) (d before : Document) → document_of t doc ≡ Some d → document_of s doc ≡ Some before → d.last_applied ≡ before.last_applied

-- the view of each has numbered as many entries as before, or its document isn't made yet
abbrev pub IsNumberedSo : Document → ℕ → Type 0
IsNumberedSo d n = (d.is_ready ≡ false) ⊎ ((old : View) × (d.view ≡ Some old) × (old.numbered ≡ n))

-- so it is with each document that was there
abbrev pub ViewsGo : Seen → Seen → Type 0
ViewsGo s t =
    (doc : DocId) (d before : Document) → document_of t doc ≡ Some d → document_of s doc ≡ Some before → (view : View) → d.view ≡ Some view → IsNumberedSo before view.numbered

-- ---- places: an awake one was so, given the same under the same epoch

-- the navigable was as awake as it is, given the same under the same epoch
pub record WasShown (s : Seen) (nav : NavId) (place : Place) : Type 0 where
  pub before : Place
  pub there : place_of s nav ≡ Some before
  pub nav_is : place.nav ≡ before.nav
  pub status : before.status ≡ place.status
  pub given : before.given ≡ place.given
  pub epoch : before.epoch ≡ place.epoch

-- so was each awake one
abbrev pub AllWereShown : Seen → Seen → Type 0
AllWereShown s t = (nav : NavId) (place : Place) (doc : DocId) → place_of t nav ≡ Some place → place.status ≡ awake doc → WasShown s nav place

-- or nothing is coming of its document under its epoch
abbrev pub ComesNone : List Made → Seen → DocId → Epoch → Type 0
ComesNone hand s doc epoch = (d : Document) → document_of s doc ≡ Some d → coming (waiting s hand) (desk_of s d.proc) doc epoch ≡ []

-- one of the two, of each awake one
abbrev pub AllGoOn : List Made → Seen → Seen → Type 0
AllGoOn hand_ s t =
    (nav : NavId) (place : Place) (doc : DocId) → place_of t nav ≡ Some place → place.status ≡ awake doc → WasShown s nav place ⊎ ComesNone hand_ t doc place.epoch

-- one that has a row had one
abbrev pub HadRows : Seen → Seen → Type 0
HadRows s t =
    (nav : NavId) (place : Place) (doc : DocId) → place_of t nav ≡ Some place → place.status ≡ awake doc → has_row place.nav t.history.rows ≡ true → has_row place.nav s.history.rows ≡ true

-- ---- lists of what was made

-- it is passed over, and the document's
abbrev pub IsPassedOf : Seen → DocId → Made → Type 0
IsPassedOf s doc made = IsPassed s made × ((made.doc.0 == doc.0) ≡ true)

-- what waits of each document is what waited of it, but for what is passed over
abbrev pub ListsGo : List Made → List Made → Seen → Seen → Type 0
ListsGo hand hand_ s t =
    (doc : DocId) (d : Document) → document_of s doc ≡ Some d → Skips (IsPassedOf s d.nr) (untaken (waiting s hand) (desk_of s d.proc) d.nr) (untaken (waiting t hand_) (desk_of t d.proc) d.nr)

-- the coordinator's new entry
pub record IsNewEntry (t : Seen) (entry : EntryId) : Type 0 where
  pub maker : entry.maker ≡ 0
  pub number : entry.nr ≤ t.entries

-- what a row leaves, of which nothing new is made and nothing that was made is applied
pub record Leaves (hand hand_ : List Made) (s t : Seen) : Type 0 where
  pub docs : DocsGo s t
  pub applied : SameApplied s t
  pub views : ViewsGo s t
  pub lists : ListsGo hand hand_ s t
  pub waits : Each (IsMadeThere s.documents) (waiting t hand_)
  pub home : (proc : ProcId) → Each (IsMadeIn s.documents proc) (mades_of (desk_of t proc))
  pub shown : AllGoOn hand_ s t
  pub had : HadRows s t
  pub numbers : s.entries ≤ t.entries
  pub entries : EntriesGo (IsNewEntry t) s t

-- ---- numbers

pub its_number : (documents : List Document) (doc : DocId) (d : Document) → document_in documents doc ≡ Some d → d.nr.0 ≡ doc.0
its_number documents doc d found = eqb-true d.nr.0 doc.0 (find_has (λ (x : Document). x.nr.0 == doc.0) documents d found).1

pub counted_again : (s t : Seen) → DocsGo s t → EachThere (IsCounted (length s.documents)) s.documents → EachThere (IsCounted (length t.documents)) t.documents
counted_again s t docs counted doc d found = by_case (docs.were doc d found)
  where
    by_case : WasDoc s doc d ⊎ IsNewDoc s t d → IsCounted (length t.documents) d
    by_case (inl w) =
        let is : IsCounted (length s.documents) w.before = counted doc w.before w.found in
        let same : d.nr.0 ≡ w.before.nr.0 = ap (λ (n : DocId). n.0) w.nr in
        let real : 1 ≤ w.before.nr.0 = is.real in
        let low : w.before.nr.0 ≤ length s.documents = is.number in
        let more : length s.documents ≤ length t.documents = docs.longer in
        record { real = omega (arith, same, real); number = omega (arith, same, low, more) }
    by_case (inr new) =
        let is : d.nr.0 ≡ length s.documents + 1 = new.nr in
        let more : length s.documents + 1 ≤ length t.documents = new.longer in
        record { real = omega (arith, is); number = omega (arith, is, more) }

pub numbered_again : (s t : Seen) → DocsGo s t → SameApplied s t → s.entries ≤ t.entries → (entry : EntryId) → IsNumbered s.entries (length s.documents) s.documents entry → IsNumbered t.entries (length t.documents) t.documents entry
numbered_again s t docs applied numbers entry is =
    record {
      own = λ own. (let low : entry.nr ≤ s.entries = is.own own in omega (arith, low, numbers));
      maker = (let low : entry.maker ≤ length s.documents = is.maker in let more : length s.documents ≤ length t.documents = docs.longer in omega (arith, low, more));
      applied = λ doc d found. by_case doc d found (docs.were doc d found);
    }
  where
    by_case : (doc : DocId) (d : Document) → document_of t doc ≡ Some d → WasDoc s doc d ⊎ IsNewDoc s t d → IsUpTo d.last_applied d.nr entry
    by_case doc d found (inl w) maker =
        let low : entry.nr ≤ w.before.last_applied = is.applied doc w.before w.found (maker ∙ ap (λ (n : DocId). n.0) w.nr) in
        let same : d.last_applied ≡ w.before.last_applied = applied doc d w.before found w.found in
        omega (arith, low, same)
    by_case doc d found (inr new) maker =
        let low : entry.maker ≤ length s.documents = is.maker in
        let nr : d.nr.0 ≡ length s.documents + 1 = new.nr in
        absurd (omega (arith, low, nr, maker))

-- the coordinator's new entry is numbered
pub new_numbered : (t : Seen) → EachThere (IsCounted (length t.documents)) t.documents → (entry : EntryId) → IsNewEntry t entry → IsNumbered t.entries (length t.documents) t.documents entry
new_numbered t counted entry new =
    record {
      own = λ own. new.number;
      maker = (let zero : entry.maker ≡ 0 = new.maker in omega (arith, zero));
      applied = λ doc d found maker. (let zero : entry.maker ≡ 0 = new.maker in let real : 1 ≤ d.nr.0 = (counted doc d found).real in absurd (omega (arith, zero, real, maker)));
    }

-- ---- documents that are there

pub there_again : (s t : Seen) → DocsGo s t → (made : Made) → IsMadeThere s.documents made → IsMadeThere t.documents made
there_again s t docs made is =
    let n : StaysDoc t made.doc is.document = docs.stay made.doc is.document is.found in
    record { document = n.new; found = n.found; own = is.own }

pub in_again : (s t : Seen) → DocsGo s t → (proc : ProcId) (made : Made) → IsMadeIn s.documents proc made → IsMadeIn t.documents proc made
in_again s t docs proc made is =
    let n : StaysDoc t made.doc is.by.document = docs.stay made.doc is.by.document is.by.found in
    record { by = record { document = n.new; found = n.found; own = is.by.own }; home = n.proc ∙ is.home }

pub each_both : {A : Type 0} (F : A → Type 0) (xs ys : List A) → Each F xs → Each F ys → Each F (xs ++ ys)
each_both F [] ys one two = two
each_both F (x ∷ xs) ys one two = (one.0, each_both F xs ys one.1 two)

pub each_so : {A : Type 0} (F G : A → Type 0) (xs : List A) → ((x : A) → F x → G x) → Each F xs → Each G xs
each_so F G [] on all = tt
each_so F G (x ∷ xs) on all = (on x all.0, each_so F G xs on all.1)

-- nothing waits of a document that isn't there
none_of : (documents : List Document) → EachThere (IsCounted (length documents)) documents → (doc : DocId) → length documents < doc.0 → (xs : List Made) → Each (IsMadeThere documents) xs → filter (λ (made : Made). made.doc.0 == doc.0) xs ≡ []
none_of documents counted doc high [] all = refl
none_of documents counted doc high (x ∷ xs) all =
    let is : IsMadeThere documents x = all.0 in
    let number : is.document.nr.0 ≡ x.doc.0 = its_number documents x.doc is.document is.found in
    let low : is.document.nr.0 ≤ length documents = (counted x.doc is.document is.found).number in
    let apart : (x.doc.0 == doc.0) ≡ false = grind (arith, nat_tests, number, low, high) in
    let rest : filter (λ (made : Made). made.doc.0 == doc.0) xs ≡ [] = none_of documents counted doc high xs all.1 in
    (let one : filter (λ (made : Made). made.doc.0 == doc.0) (x ∷ xs) ≡ filter (λ (made : Made). made.doc.0 == doc.0) xs = rw apart refl in one) ∙ rest

-- what is coming under an epoch is of what the document made
pub under_of : (doc : DocId) (epoch : Epoch) (l : List Made) → filter (is_made_under doc epoch) l ≡ filter (λ (m : Made). m.epoch.0 == epoch.0) (filter (λ (m : Made). m.doc.0 == doc.0) l)
under_of doc epoch [] = refl
under_of doc epoch (m ∷ l) = by_tests (m.doc.0 == doc.0) (m.epoch.0 == epoch.0) refl refl (under_of doc epoch l)
  where
    its : List Made → List Made
    its k = filter (λ (x : Made). x.doc.0 == doc.0) k

    by_tests : (a b : Bool) → (m.doc.0 == doc.0) ≡ a → (m.epoch.0 == epoch.0) ≡ b → filter (is_made_under doc epoch) l ≡ filter (λ (x : Made). x.epoch.0 == epoch.0) (its l) → filter (is_made_under doc epoch) (m ∷ l) ≡ filter (λ (x : Made). x.epoch.0 == epoch.0) (its (m ∷ l))
    by_tests true true e f rest = rw (e, f) (ap (λ (k : List Made). m ∷ k) rest)
    by_tests true false e f rest = rw (e, f) rest
    by_tests false b e f rest = rw e rest

-- where the lists of each process go on, those of each document do
pub lists_of : (hand hand_ : List Made) (s t : Seen) → ((proc : ProcId) → Skips (IsPassed s) (untold (waiting s hand) (desk_of s proc)) (untold (waiting t hand_) (desk_of t proc))) → ListsGo hand hand_ s t
lists_of hand hand_ s t go doc d found =
    filter_skip (IsPassed s) (λ (made : Made). made.doc.0 == d.nr.0) (untold (waiting s hand) (desk_of s d.proc)) (untold (waiting t hand_) (desk_of t d.proc)) (go d.proc)

module _ (hand hand_ : List Made) (s t : Seen) (leaves : Leaves hand hand_ s t) (are : AreEntries hand s) where
  -- a new document made nothing
  new_none : (d : Document) → IsNewDoc s t d → (proc : ProcId) → untaken (waiting t hand_) (desk_of t proc) d.nr ≡ []
  new_none d new proc =
      let nr : d.nr.0 ≡ length s.documents + 1 = new.nr in
      none_of s.documents are.counted d.nr (omega (arith, nr)) (untold (waiting t hand_) (desk_of t proc)) (each_both (IsMadeThere s.documents) (waiting t hand_) (mades_of (desk_of t proc)) leaves.waits (each_so (IsMadeIn s.documents proc) (IsMadeThere s.documents) (mades_of (desk_of t proc)) (λ x is. is.by) (leaves.home proc)))

  unmade_then : EachHasMadeNothing t hand_
  unmade_then doc d found unready = by_case (leaves.docs.were doc d found)
    where
      by_case : WasDoc s doc d ⊎ IsNewDoc s t d → (d.last_applied ≡ 0) × (untaken (waiting t hand_) (desk_of t d.proc) d.nr ≡ [])
      by_case (inl w) =
          let b : (w.before.last_applied ≡ 0) × (untaken (waiting s hand) (desk_of s w.before.proc) w.before.nr ≡ []) = are.unmade doc w.before w.found (w.ready unready) in (
            leaves.applied doc d w.before found w.found ∙ b.0,
            ap (λ (n : DocId). untaken (waiting t hand_) (desk_of t d.proc) n) w.nr
                ∙ ap (λ (p : ProcId). untaken (waiting t hand_) (desk_of t p) w.before.nr) w.proc
                ∙ none_skip (IsPassedOf s w.before.nr) (untaken (waiting s hand) (desk_of s w.before.proc) w.before.nr) (untaken (waiting t hand_) (desk_of t w.before.proc) w.before.nr) (leaves.lists doc w.before w.found) b.1,
          )
      by_case (inr new) = (new.applied, new_none d new d.proc)

  ascends_then : EachAscends t hand_
  ascends_then doc d found view has = by_case (leaves.docs.were doc d found)
    where
      by_case : WasDoc s doc d ⊎ IsNewDoc s t d → Ascend d.last_applied (untaken (waiting t hand_) (desk_of t d.proc) d.nr) view.numbered
      by_case (inr new) = (let never : None ≡ Some view = sym new.view ∙ has in absurd cc)
      by_case (inl w) =
          subst (λ (n : DocId). Ascend d.last_applied (untaken (waiting t hand_) (desk_of t d.proc) n) view.numbered) (sym w.nr)
          (subst (λ (p : ProcId). Ascend d.last_applied (untaken (waiting t hand_) (desk_of t p) w.before.nr) view.numbered) (sym w.proc)
          (subst (λ (n : ℕ). Ascend n (untaken (waiting t hand_) (desk_of t w.before.proc) w.before.nr) view.numbered) (sym (leaves.applied doc d w.before found w.found))
          (ascends_skip (IsPassedOf s w.before.nr) view.numbered (untaken (waiting s hand) (desk_of s w.before.proc) w.before.nr) (untaken (waiting t hand_) (desk_of t w.before.proc) w.before.nr) (leaves.lists doc w.before w.found) w.before.last_applied (by_view (leaves.views doc d w.before found w.found view has)))))
        where
          by_view : IsNumberedSo w.before view.numbered → Ascend w.before.last_applied (untaken (waiting s hand) (desk_of s w.before.proc) w.before.nr) view.numbered
          by_view (inl unready) =
              let b : (w.before.last_applied ≡ 0) × (untaken (waiting s hand) (desk_of s w.before.proc) w.before.nr ≡ []) = are.unmade doc w.before w.found unready in
              let zero : w.before.last_applied ≡ 0 = b.0 in
              let low : w.before.last_applied ≤ view.numbered = omega (arith, zero) in
              subst (λ (l : List Made). Ascend w.before.last_applied l view.numbered) (sym b.1) low
          by_view (inr old) =
              subst (λ (n : ℕ). Ascend w.before.last_applied (untaken (waiting s hand) (desk_of s w.before.proc) w.before.nr) n) old.2 (are.ascends doc w.before w.found old.0 old.1)

  continues_then : EachContinues t hand_
  continues_then nav place doc d given there wakes found has is = by_shown (leaves.shown nav place doc there wakes)
    where
      by_case : WasShown s nav place → WasDoc s doc d ⊎ IsNewDoc s t d → Continues given (coming (waiting t hand_) (desk_of t d.proc) doc place.epoch)
      by_case v (inr new) =
          let number : d.nr.0 ≡ doc.0 = its_number t.documents doc d found in
          let nr : d.nr ≡ doc = ap (λ (n : ℕ). let x : DocId = record { 0 = n } in x) number in
          let none : untaken (waiting t hand_) (desk_of t d.proc) doc ≡ [] = ap (λ (n : DocId). untaken (waiting t hand_) (desk_of t d.proc) n) (sym nr) ∙ new_none d new d.proc in
          subst (λ (l : List Made). Continues given l) (sym (under_of doc place.epoch (untold (waiting t hand_) (desk_of t d.proc)) ∙ ap (λ (l : List Made). filter (λ (m : Made). m.epoch.0 == place.epoch.0) l) none)) tt
      by_case v (inl w) =
          subst (λ (p : ProcId). Continues given (coming (waiting t hand_) (desk_of t p) doc place.epoch)) (sym w.proc)
          (subst (λ (l : List Made). Continues given l) (sym (under_of doc place.epoch (untold (waiting t hand_) (desk_of t w.before.proc))))
          (continues_skip (λ (x : Made). IsPassedOf s doc x × ((x.epoch.0 == place.epoch.0) ≡ true)) passes
          (filter (λ (m : Made). m.epoch.0 == place.epoch.0) (untaken (waiting s hand) (desk_of s w.before.proc) doc)) (filter (λ (m : Made). m.epoch.0 == place.epoch.0) (untaken (waiting t hand_) (desk_of t w.before.proc) doc))
          (filter_skip (IsPassedOf s doc) (λ (m : Made). m.epoch.0 == place.epoch.0) (untaken (waiting s hand) (desk_of s w.before.proc) doc) (untaken (waiting t hand_) (desk_of t w.before.proc) doc) lists) given
          (subst (λ (l : List Made). Continues given l) (under_of doc place.epoch (untold (waiting s hand) (desk_of s w.before.proc))) before)))
        where
          had : has_row v.before.nav s.history.rows ≡ true
          had = ap (λ (n : NavId). has_row n s.history.rows) (sym v.nav_is) ∙ leaves.had nav place doc there wakes has

          lists : Skips (IsPassedOf s doc) (untaken (waiting s hand) (desk_of s w.before.proc) doc) (untaken (waiting t hand_) (desk_of t w.before.proc) doc)
          lists =
              let nr : w.before.nr ≡ doc = ap (λ (n : ℕ). let x : DocId = record { 0 = n } in x) (its_number s.documents doc w.before w.found) in
              subst (λ (n : DocId). Skips (IsPassedOf s n) (untaken (waiting s hand) (desk_of s w.before.proc) n) (untaken (waiting t hand_) (desk_of t w.before.proc) n)) nr (leaves.lists doc w.before w.found)

          passes : (made : Made) → IsPassedOf s doc made × ((made.epoch.0 == place.epoch.0) ≡ true) → IsNoEntry made.what
          passes made both =
              let under : is_made_under doc place.epoch made ≡ true = rw (both.0.1, both.1) refl in
              both.0.0 nav v.before doc v.there (v.status ∙ wakes) had (ap (λ (n : Epoch). is_made_under doc n made) v.epoch ∙ under)

          before : Continues given (coming (waiting s hand) (desk_of s w.before.proc) doc place.epoch)
          before =
              subst (λ (n : Epoch). Continues given (coming (waiting s hand) (desk_of s w.before.proc) doc n)) v.epoch
              (are.continues nav v.before doc w.before given v.there (v.status ∙ wakes) w.found had (v.given ∙ is))

      by_shown : WasShown s nav place ⊎ ComesNone hand_ t doc place.epoch → Continues given (coming (waiting t hand_) (desk_of t d.proc) doc place.epoch)
      by_shown (inl v) = by_case v (leaves.docs.were doc d found)
      by_shown (inr none) = subst (λ (l : List Made). Continues given l) (sym (none d found)) tt

  pub left_entries : AreEntries hand_ t
  left_entries =
      record {
        counted = counted_again s t leaves.docs are.counted;
        entries =
            entries_again (IsNumbered s.entries (length s.documents) s.documents) (IsNumbered t.entries (length t.documents) t.documents) s t
            (numbered_again s t leaves.docs leaves.applied leaves.numbers)
            (record {
              of_rows = λ row there. new_or row.entry (leaves.entries.of_rows row there);
              givens = λ nav place entry there has. new_or entry (leaves.entries.givens nav place entry there has);
              tooks = λ req q entry there has. new_or entry (leaves.entries.tooks req q entry there has);
            }) are.entries;
        waits = each_so (IsMadeThere s.documents) (IsMadeThere t.documents) (waiting t hand_) (there_again s t leaves.docs) leaves.waits;
        home = λ proc. each_so (IsMadeIn s.documents proc) (IsMadeIn t.documents proc) (mades_of (desk_of t proc)) (in_again s t leaves.docs proc) (leaves.home proc);
        unmade = unmade_then;
        ascends = ascends_then;
        continues = continues_then;
      }
    where
      new_or : (entry : EntryId) → IsKnownEntry s entry ⊎ IsNewEntry t entry → IsKnownEntry s entry ⊎ IsNumbered t.entries (length t.documents) t.documents entry
      new_or entry (inl known) = inl known
      new_or entry (inr new) = inr (new_numbered t (counted_again s t leaves.docs are.counted) entry new)
