-- What is known of entries, over the applied push or replace of an entry that a document made, which waits first of all that it made.
use Rattle.std.proofs.Common.{◌≡◌, ◌⊎◌, inl, inr, ℕ, ◌≤◌, Bool, true, false, cond, ◌==◌, List, [], ◌∷◌, length, map, Some, refl, sym, ap, ◌∙◌, subst, arith}
use Rattle.std.specs.Prelude.{filter}
use Rattle.std.proofs.lemmas.Bool.{eqb-true}
use Rattle.std.proofs.lemmas.Bool.Decides.{nat_tests}
use Rattle.std.proofs.lemmas.List.{length-map}
use Rattle.tab_ids.specs.declared.DocId.{DocId}
use Rattle.tab_ids.specs.declared.EntryId.{EntryId}
use Rattle.tab_ids.specs.declared.Epoch.{Epoch}
use Rattle.tab_ids.specs.declared.NavId.{NavId}
use Rattle.tab_ids.specs.declared.ProcId.{ProcId}
use Rattle.tab_ids.specs.declared.ReqId.{ReqId}
use Rattle.log_model.specs.declared.change.Change.{Change}
use Rattle.log_model.specs.declared.made.Made.{Made}
use Rattle.log_model.specs.declared.row.Row.{Row}
use Rattle.log_model.specs.declared.row_kind.Actor.{Actor}
use Rattle.log_model.specs.AfterPlaces.{given_entry}
use Rattle.log_model.specs.History.{applied, has_row}
use Rattle.log_model.specs.Seen.{Seen, Document, Place, awake, desk_of, document_of, place_in, place_of, request_in}
use Rattle.seen_facts.specs.Coord.Leading.{EachIsOfItsNavigable, coming}
use Rattle.seen_facts.proofs.Coord.Held.{made_of}
use Rattle.seen_facts.specs.Hang.Members.{Has}
use Rattle.seen_facts.proofs.Home.Changed.{taker}
use Rattle.log_model.proofs.Refl.{nat_eq_refl}
use Rattle.seen_laws.proofs.Keyed.{find_has}
use Rattle.seen_facts.specs.Each.Mades.{Ascend, Continues, IsNext, entry_after, number_after}
use Rattle.seen_facts.specs.Each.Items.{Each, IsUpTo}
use Rattle.seen_facts.proofs.Each.Eaches.{after_next}
use Rattle.seen_facts.specs.Entry.Entries.{AreEntries, EachAscends, EachContinues, EachHasMadeNothing, IsItsOwn, IsMadeIn, IsMadeThere, IsNumbered, mades_of, untaken, untold, waiting}
use Rattle.seen_facts.proofs.Entry.Applied.{RowsGo, applied_tooks, applying, taker_leaves}
use Rattle.seen_facts.proofs.Entry.Changes.{change_read, takes_in}
use Rattle.seen_facts.proofs.Entry.Docs.{its_own}
use Rattle.seen_facts.proofs.Entry.Parts.{LeavesPlace, WasOf, WasPlace, docs_mapped, was_of, was_place}
use Rattle.seen_facts.proofs.Entry.Stays.{DocsGo, IsKnownEntry, IsOfRow, counted_again, each_so, entries_again, in_again, its_number, some_same, there_again, under_of}
use Rattle.seen_facts.proofs.Entry.Firsts.{IsFirstOf, each_parts, first_with, others_same, own_first}

-- ---- the row

-- what was made may be applied now: it is of the request, the first of its document that waits, later than the last applied one, and made where its navigable is, which was given an entry
pub record IsToTake (hand hand_ : List Made) (s t : Seen) (req : ReqId) (made : Made) (d : Document) : Type 0 where
  pub makes : made_of (request_in s.requests req) ≡ Some made
  pub found : document_of s made.doc ≡ Some d
  pub place : Place
  pub placed : place_of s d.nav ≡ Some place
  pub wakes : place.status ≡ awake made.doc
  pub under : (made.epoch.0 == place.epoch.0) ≡ true
  pub gave : EntryId
  pub given : place.given ≡ Some gave
  pub next_ : IsNext d.last_applied made.what
  pub list : IsFirstOf (waiting s hand) made (waiting t hand_)

-- the new entry of what was made
pub record IsEntryOf (made : Made) (entry : EntryId) : Type 0 where
  pub after_ : (old : EntryId) → entry_after old made.what ≡ entry
  pub number : (n : ℕ) → number_after n made.what ≡ entry.nr
  pub maker : IsItsOwn made.doc made.what → entry.maker ≡ made.doc.0

-- the navigable is given the entry
abbrev pub gives : NavId → EntryId → Place → Place
gives nav entry p = cond (p.nav.0 == nav.0) (given_entry entry p) p

-- the last applied entry of each document then: the new one of its maker
pub record TakesEntry (entry : EntryId) (g : Document → Document) : Type 0 where
  pub own : (x : Document) → (x.nr.0 == entry.maker) ≡ true → (g x).last_applied ≡ entry.nr
  pub other : (x : Document) → (x.nr.0 == entry.maker) ≡ false → (g x).last_applied ≡ x.last_applied

module _ (hand hand_ : List Made) (s : Seen) (event : ℕ) (actor : Actor) (are : AreEntries hand s) (homes : EachIsOfItsNavigable s) (req : ReqId) (change : Change) (made : Made) (d : Document) (take : IsToTake hand hand_ s (applying s event actor req change) req made d) (entry : EntryId) (new : IsEntryOf made entry) (takes : TakesEntry entry (takes_in change)) where
  abbrev taken : Seen
  taken = applying s event actor req change

  abbrev g : Document → Document
  g x = takes_in change x

  abbrev put : Place → Place
  put p = taker s.history (applied s.history change) req (gives d.nav entry p)

  module _ (places : taken.places ≡ map put s.places) (go : RowsGo s.history.rows (applied s.history change).rows (λ (e : EntryId). entry ≡ e)) (numbers : taken.entries ≡ s.entries) where
    docs : DocsGo s taken
    docs = docs_mapped s taken g (change_read change).keeps refl

    nr_g : (x : Document) → (g x).nr ≡ x.nr
    nr_g = (change_read change).keeps.nr

    -- it waits, so its entry is the document's
    parts : IsMadeThere s.documents made × Each (IsMadeThere s.documents) (waiting taken hand_)
    parts =
        let all = each_parts (IsMadeThere s.documents) take.list.before made take.list.later (subst (λ (l : List Made). Each (IsMadeThere s.documents) l) take.list.whole are.waits) in
        (all.0, subst (λ (l : List Made). Each (IsMadeThere s.documents) l) (sym take.list.left) all.1)

    maker : entry.maker ≡ made.doc.0
    maker = new.maker parts.0.own

    number_d : d.nr.0 ≡ made.doc.0
    number_d = its_number s.documents made.doc d take.found

    -- ---- documents

    -- the document of what was made, by its number
    is_maker : (doc : DocId) (x : Document) → document_of s doc ≡ Some x → (x.nr.0 == made.doc.0) ≡ true → d ≡ x
    is_maker doc x found e = some_same (sym take.found ∙ its_own s.documents doc made.doc x found e)

    own_applied : (x : Document) → (x.nr.0 == made.doc.0) ≡ true → (g x).last_applied ≡ number_after x.last_applied made.what
    own_applied x e = takes.own x (ap (λ (n : ℕ). x.nr.0 == n) maker ∙ e) ∙ sym (new.number x.last_applied)

    other_applied : (x : Document) → (x.nr.0 == made.doc.0) ≡ false → (g x).last_applied ≡ x.last_applied
    other_applied x e = takes.other x (ap (λ (n : ℕ). x.nr.0 == n) maker ∙ e)

    turned : (x : Document) (b : Bool) → (x.nr.0 == made.doc.0) ≡ b → (made.doc.0 == x.nr.0) ≡ b
    turned x true e = (let n : (made.doc.0 == x.nr.0) ≡ true = grind (arith, nat_tests, e) in n)
    turned x false e = (let n : (made.doc.0 == x.nr.0) ≡ false = grind (arith, nat_tests, e) in n)

    -- ---- lists

    list_at : (p : ProcId) → IsFirstOf (untold (waiting s hand) (desk_of s p)) made (untold (waiting taken hand_) (desk_of s p))
    list_at p = first_with (waiting s hand) made (waiting taken hand_) (mades_of (desk_of s p)) take.list

    own_list : (x : Document) (p : ProcId) → (x.nr.0 == made.doc.0) ≡ true → untaken (waiting s hand) (desk_of s p) x.nr ≡ made ∷ untaken (waiting taken hand_) (desk_of s p) x.nr
    own_list x p e =
        let nr : x.nr ≡ made.doc = ap (λ (n : ℕ). let y : DocId = record { 0 = n } in y) (eqb-true x.nr.0 made.doc.0 e) in
        subst (λ (y : DocId). untaken (waiting s hand) (desk_of s p) y ≡ made ∷ untaken (waiting taken hand_) (desk_of s p) y) (sym nr)
        (own_first (untold (waiting s hand) (desk_of s p)) made (untold (waiting taken hand_) (desk_of s p)) (list_at p))

    other_list : (doc : DocId) (p : ProcId) → (made.doc.0 == doc.0) ≡ false → untaken (waiting taken hand_) (desk_of s p) doc ≡ untaken (waiting s hand) (desk_of s p) doc
    other_list doc p e = others_same (untold (waiting s hand) (desk_of s p)) made (untold (waiting taken hand_) (desk_of s p)) (list_at p) doc e

    -- as it is read of what a document has become
    as_then : (x y : Document) → g x ≡ y → untaken (waiting taken hand_) (desk_of taken y.proc) y.nr ≡ untaken (waiting taken hand_) (desk_of s x.proc) x.nr
    as_then x y is =
        ap (λ (p : ProcId). untaken (waiting taken hand_) (desk_of s p) y.nr) (ap (λ (z : Document). z.proc) (sym is) ∙ (change_read change).keeps.proc x)
        ∙ ap (λ (n : DocId). untaken (waiting taken hand_) (desk_of s x.proc) n) (ap (λ (z : Document). z.nr) (sym is) ∙ nr_g x)

    applied_then : (x y : Document) → g x ≡ y → y.last_applied ≡ (g x).last_applied
    applied_then x y is = ap (λ (z : Document). z.last_applied) (sym is)

    unmade_taken : EachHasMadeNothing taken hand_
    unmade_taken doc y found unready = by_was (was_of s.documents g nr_g doc y found)
      where
        by_was : WasOf s.documents g doc y → (y.last_applied ≡ 0) × (untaken (waiting taken hand_) (desk_of taken y.proc) y.nr ≡ [])
        by_was w = by_test (w.before.nr.0 == made.doc.0) refl
          where
            i : (w.before.last_applied ≡ 0) × (untaken (waiting s hand) (desk_of s w.before.proc) w.before.nr ≡ [])
            i = are.unmade doc w.before w.there ((change_read change).keeps.ready w.before (ap (λ (x : Document). x.is_ready) w.is ∙ unready))

            by_test : (b : Bool) → (w.before.nr.0 == made.doc.0) ≡ b → (y.last_applied ≡ 0) × (untaken (waiting taken hand_) (desk_of taken y.proc) y.nr ≡ [])
            by_test true e = (let never : made ∷ untaken (waiting taken hand_) (desk_of s w.before.proc) w.before.nr ≡ [] = sym (own_list w.before w.before.proc e) ∙ i.1 in absurd cc)
            by_test false e =
                (applied_then w.before y w.is ∙ other_applied w.before e ∙ i.0, as_then w.before y w.is ∙ other_list w.before.nr w.before.proc (turned w.before false e) ∙ i.1)

    ascends_taken : EachAscends taken hand_
    ascends_taken doc y found view has = by_was (was_of s.documents g nr_g doc y found)
      where
        by_was : WasOf s.documents g doc y → Ascend y.last_applied (untaken (waiting taken hand_) (desk_of taken y.proc) y.nr) view.numbered
        by_was w =
            subst (λ (l : List Made). Ascend y.last_applied l view.numbered) (sym (as_then w.before y w.is))
            (subst (λ (n : ℕ). Ascend n (untaken (waiting taken hand_) (desk_of s w.before.proc) w.before.nr) view.numbered) (sym (applied_then w.before y w.is)) (by_test (w.before.nr.0 == made.doc.0) refl))
          where
            old : Ascend w.before.last_applied (untaken (waiting s hand) (desk_of s w.before.proc) w.before.nr) view.numbered
            old = are.ascends doc w.before w.there view (sym ((change_read change).view w.before) ∙ ap (λ (x : Document). x.view) w.is ∙ has)

            by_test : (b : Bool) → (w.before.nr.0 == made.doc.0) ≡ b → Ascend (g w.before).last_applied (untaken (waiting taken hand_) (desk_of s w.before.proc) w.before.nr) view.numbered
            by_test true e =
                subst (λ (n : ℕ). Ascend n (untaken (waiting taken hand_) (desk_of s w.before.proc) w.before.nr) view.numbered) (sym (own_applied w.before e))
                (subst (λ (l : List Made). Ascend w.before.last_applied l view.numbered) (own_list w.before w.before.proc e) old).1
            by_test false e =
                subst (λ (n : ℕ). Ascend n (untaken (waiting taken hand_) (desk_of s w.before.proc) w.before.nr) view.numbered) (sym (other_applied w.before e))
                (subst (λ (l : List Made). Ascend w.before.last_applied l view.numbered) (sym (other_list w.before.nr w.before.proc (turned w.before false e))) old)

    -- ---- places

    taker_is : LeavesPlace (taker s.history (applied s.history change) req)
    taker_is = taker_leaves s event actor req change

    by_given : {B : Type 0} (read : Place → B) → ((p : Place) → read (given_entry entry p) ≡ read p) → (p : Place) → read (gives d.nav entry p) ≡ read p
    by_given read same p = elim (p.nav.0 == d.nav.0) as (λ b. read (let q : Place = cond b (given_entry entry p) p in q) ≡ read p) [ true ↦ same p | false ↦ refl ]

    put_nav : (p : Place) → (put p).nav ≡ p.nav
    put_nav p = taker_is.nav (gives d.nav entry p) ∙ by_given (λ q. q.nav) (λ q. refl) p

    put_status : (p : Place) (doc : DocId) → (put p).status ≡ awake doc → p.status ≡ awake doc
    put_status p doc e = sym (by_given (λ q. q.status) (λ q. refl) p) ∙ taker_is.status (gives d.nav entry p) doc e ∙ e

    put_epoch : (p : Place) → (put p).epoch ≡ p.epoch
    put_epoch p = taker_is.epoch (gives d.nav entry p) ∙ by_given (λ q. q.epoch) (λ q. refl) p

    put_own : (p : Place) → (p.nav.0 == d.nav.0) ≡ true → (put p).given ≡ Some entry
    put_own p e = taker_is.given (gives d.nav entry p) ∙ ap (λ (b : Bool). (let q : Place = cond b (given_entry entry p) p in q).given) e

    put_other : (p : Place) → (p.nav.0 == d.nav.0) ≡ false → (put p).given ≡ p.given
    put_other p e = taker_is.given (gives d.nav entry p) ∙ ap (λ (b : Bool). (let q : Place = cond b (given_entry entry p) p in q).given) e

    was : (nav : NavId) (place : Place) → place_of taken nav ≡ Some place → WasPlace s.places put nav place
    was nav place there = was_place s.places put put_nav nav place (subst (λ (l : List Place). place_in l nav ≡ Some place) places there)

    -- the place of the navigable, by its number
    its_place : (nav : NavId) (p : Place) → place_of s nav ≡ Some p → (p.nav.0 == d.nav.0) ≡ true → p ≡ take.place
    its_place nav p there e =
        let number : p.nav.0 ≡ nav.0 = find_has (λ (x : Place). x.nav.0) nav.0 s.places p there in
        let same : nav ≡ d.nav = ap (λ (n : ℕ). let x : NavId = record { 0 = n } in x) (sym number ∙ eqb-true p.nav.0 d.nav.0 e) in
        some_same (sym there ∙ ap (place_of s) same ∙ take.placed)

    -- ---- what is coming

    coming_first : (epoch : Epoch) → (made.epoch.0 == epoch.0) ≡ true → coming (waiting s hand) (desk_of s d.proc) made.doc epoch ≡ made ∷ coming (waiting taken hand_) (desk_of s d.proc) made.doc epoch
    coming_first epoch under =
        under_of made.doc epoch (untold (waiting s hand) (desk_of s d.proc))
        ∙ ap (λ (l : List Made). filter (λ (m : Made). m.epoch.0 == epoch.0) l) (own_first (untold (waiting s hand) (desk_of s d.proc)) made (untold (waiting taken hand_) (desk_of s d.proc)) (list_at d.proc))
        ∙ (let one : filter (λ (m : Made). m.epoch.0 == epoch.0) (made ∷ untaken (waiting taken hand_) (desk_of s d.proc) made.doc) ≡ made ∷ filter (λ (m : Made). m.epoch.0 == epoch.0) (untaken (waiting taken hand_) (desk_of s d.proc) made.doc) = rw under refl in one)
        ∙ ap (λ (l : List Made). made ∷ l) (sym (under_of made.doc epoch (untold (waiting taken hand_) (desk_of s d.proc))))

    coming_same : (doc : DocId) (p : ProcId) (epoch : Epoch) → (made.doc.0 == doc.0) ≡ false → coming (waiting taken hand_) (desk_of s p) doc epoch ≡ coming (waiting s hand) (desk_of s p) doc epoch
    coming_same doc p epoch apart =
        under_of doc epoch (untold (waiting taken hand_) (desk_of s p))
        ∙ ap (λ (l : List Made). filter (λ (m : Made). m.epoch.0 == epoch.0) l) (other_list doc p apart)
        ∙ sym (under_of doc epoch (untold (waiting s hand) (desk_of s p)))

    continues_taken : EachContinues taken hand_
    continues_taken nav place doc y given there wakes found has is = by_was (was nav place there) (was_of s.documents g nr_g doc y found)
      where
        by_was : WasPlace s.places put nav place → WasOf s.documents g doc y → Continues given (coming (waiting taken hand_) (desk_of taken y.proc) doc place.epoch)
        by_was w x =
            subst (λ (p : ProcId). Continues given (coming (waiting taken hand_) (desk_of s p) doc place.epoch)) (sym (ap (λ (z : Document). z.proc) (sym x.is) ∙ (change_read change).keeps.proc x.before)) (by_doc (made.doc.0 == doc.0) refl)
          where
            woke : w.before.status ≡ awake doc
            woke = put_status w.before doc (ap (λ (p : Place). p.status) w.is ∙ wakes)

            epochs : place.epoch ≡ w.before.epoch
            epochs = ap (λ (p : Place). p.epoch) (sym w.is) ∙ put_epoch w.before

            had : has_row w.before.nav s.history.rows ≡ true
            had = ap (λ (n : NavId). has_row n s.history.rows) (sym (ap (λ (p : Place). p.nav) (sym w.is) ∙ put_nav w.before)) ∙ go.had place.nav has

            given_is : (put w.before).given ≡ Some given
            given_is = ap (λ (p : Place). p.given) w.is ∙ is

            by_doc : (b : Bool) → (made.doc.0 == doc.0) ≡ b → Continues given (coming (waiting taken hand_) (desk_of s x.before.proc) doc place.epoch)
            by_doc true e =
                let nr : made.doc ≡ doc = ap (λ (n : ℕ). let z : DocId = record { 0 = n } in z) (eqb-true made.doc.0 doc.0 e) in
                let one : d ≡ x.before = some_same (sym take.found ∙ ap (document_of s) nr ∙ x.there) in
                let home : d.nav.0 ≡ nav.0 = homes nav w.before doc d w.there woke (ap (document_of s) (sym nr) ∙ take.found) in
                let number : w.before.nav.0 ≡ nav.0 = find_has (λ (p : Place). p.nav.0) nav.0 s.places w.before w.there in
                let yes : (w.before.nav.0 == d.nav.0) ≡ true = grind (arith, nat_tests, home, number) in
                let own : w.before ≡ take.place = its_place nav w.before w.there yes in
                let now : given ≡ entry = some_same (sym given_is ∙ put_own w.before yes) in
                let under : (made.epoch.0 == place.epoch.0) ≡ true = ap (λ (n : Epoch). made.epoch.0 == n.0) (epochs ∙ ap (λ (p : Place). p.epoch) own) ∙ take.under in
                let was_given : w.before.given ≡ Some take.gave = ap (λ (p : Place). p.given) own ∙ take.given in
                let before : Continues take.gave (coming (waiting s hand) (desk_of s d.proc) doc w.before.epoch) = are.continues nav w.before doc d take.gave w.there woke (ap (document_of s) (sym nr) ∙ take.found) had was_given in
                let at : Continues take.gave (coming (waiting s hand) (desk_of s d.proc) made.doc place.epoch) = subst (λ (n : DocId). Continues take.gave (coming (waiting s hand) (desk_of s d.proc) n place.epoch)) (sym nr) (subst (λ (n : Epoch). Continues take.gave (coming (waiting s hand) (desk_of s d.proc) doc n)) (sym epochs) before) in
                let rest : Continues (entry_after take.gave made.what) (coming (waiting taken hand_) (desk_of s d.proc) made.doc place.epoch) = (subst (λ (l : List Made). Continues take.gave l) (coming_first place.epoch under) at).1 in
                subst (λ (z : Document). Continues given (coming (waiting taken hand_) (desk_of s z.proc) doc place.epoch)) one
                (subst (λ (n : DocId). Continues given (coming (waiting taken hand_) (desk_of s d.proc) n place.epoch)) nr
                (subst (λ (n : EntryId). Continues n (coming (waiting taken hand_) (desk_of s d.proc) made.doc place.epoch)) (new.after_ take.gave ∙ sym now) rest))
            by_doc false e =
                let apart : (w.before.nav.0 == d.nav.0) ≡ false = not_own (w.before.nav.0 == d.nav.0) refl in
                let was_given : w.before.given ≡ Some given = sym (put_other w.before apart) ∙ given_is in
                let before : Continues given (coming (waiting s hand) (desk_of s x.before.proc) doc w.before.epoch) = are.continues nav w.before doc x.before given w.there woke x.there had was_given in
                subst (λ (l : List Made). Continues given l) (sym (coming_same doc x.before.proc place.epoch e)) (subst (λ (n : Epoch). Continues given (coming (waiting s hand) (desk_of s x.before.proc) doc n)) (sym epochs) before)
              where
                not_own : (b : Bool) → (w.before.nav.0 == d.nav.0) ≡ b → (w.before.nav.0 == d.nav.0) ≡ false
                not_own false h = h
                not_own true h =
                    let own : w.before ≡ take.place = its_place nav w.before w.there h in
                    let on : awake made.doc ≡ awake doc = sym take.wakes ∙ ap (λ (p : Place). p.status) (sym own) ∙ woke in
                    let nr : made.doc ≡ doc = cc in
                    let yes : (made.doc.0 == doc.0) ≡ true = subst (λ (n : DocId). (made.doc.0 == n.0) ≡ true) nr (nat_eq_refl made.doc.0) in
                    let never : true ≡ false = sym yes ∙ e in absurd cc

    -- ---- entries

    long : length taken.documents ≡ length s.documents
    long = length-map s.documents g

    numbered : (e : EntryId) → IsNumbered s.entries (length s.documents) s.documents e → IsNumbered taken.entries (length taken.documents) taken.documents e
    numbered e is =
        record {
          own = λ own. subst (λ (n : ℕ). e.nr ≤ n) (sym numbers) (is.own own);
          maker = subst (λ (n : ℕ). e.maker ≤ n) (sym long) is.maker;
          applied = λ doc y found. by_was doc y (was_of s.documents g nr_g doc y found);
        }
      where
        by_was : (doc : DocId) (y : Document) → WasOf s.documents g doc y → IsUpTo y.last_applied y.nr e
        by_was doc y w maker_ = by_test (w.before.nr.0 == made.doc.0) refl
          where
            low : e.nr ≤ w.before.last_applied
            low = is.applied doc w.before w.there (maker_ ∙ ap (λ (n : DocId). n.0) (ap (λ (x : Document). x.nr) (sym w.is) ∙ nr_g w.before))

            by_test : (b : Bool) → (w.before.nr.0 == made.doc.0) ≡ b → e.nr ≤ y.last_applied
            by_test true h =
                let at_most : e.nr ≤ w.before.last_applied = is.applied doc w.before w.there (maker_ ∙ ap (λ (n : DocId). n.0) (ap (λ (x : Document). x.nr) (sym w.is) ∙ nr_g w.before)) in
                let one : d ≡ w.before = is_maker doc w.before w.there h in
                let more : w.before.last_applied ≤ number_after w.before.last_applied made.what = after_next w.before.last_applied made.what (subst (λ (x : Document). IsNext x.last_applied made.what) one take.next_) in
                let now : y.last_applied ≡ number_after w.before.last_applied made.what = applied_then w.before y w.is ∙ own_applied w.before h in
                omega (arith, at_most, more, now)
            by_test false h =
                let at_most : e.nr ≤ w.before.last_applied = is.applied doc w.before w.there (maker_ ∙ ap (λ (n : DocId). n.0) (ap (λ (x : Document). x.nr) (sym w.is) ∙ nr_g w.before)) in
                let now : y.last_applied ≡ w.before.last_applied = applied_then w.before y w.is ∙ other_applied w.before h in
                omega (arith, at_most, now)

    new_numbered : IsNumbered taken.entries (length taken.documents) taken.documents entry
    new_numbered =
        let its : entry.maker ≡ made.doc.0 = maker in
        let nr : d.nr.0 ≡ made.doc.0 = number_d in
        let low : d.nr.0 ≤ length s.documents = (are.counted made.doc d take.found).number in
        let real : 1 ≤ d.nr.0 = (are.counted made.doc d take.found).real in
        record {
          own = λ zero. absurd (omega (arith, zero, its, nr, real));
          maker = subst (λ (n : ℕ). entry.maker ≤ n) (sym long) (omega (arith, its, nr, low));
          applied = λ doc y found. by_was doc y (was_of s.documents g nr_g doc y found);
        }
      where
        by_was : (doc : DocId) (y : Document) → WasOf s.documents g doc y → IsUpTo y.last_applied y.nr entry
        by_was doc y w maker_ =
            let its : entry.maker ≡ made.doc.0 = maker in
            let nr : y.nr.0 ≡ w.before.nr.0 = ap (λ (n : DocId). n.0) (ap (λ (x : Document). x.nr) (sym w.is) ∙ nr_g w.before) in
            let yes : (w.before.nr.0 == made.doc.0) ≡ true = grind (arith, nat_tests, its, nr, maker_) in
            let now : y.last_applied ≡ entry.nr = applied_then w.before y w.is ∙ own_applied w.before yes ∙ new.number w.before.last_applied in
            omega (arith, now)

    pub applied_entries : AreEntries hand_ taken
    applied_entries =
        record {
          counted = counted_again s taken docs are.counted;
          entries =
              entries_again (IsNumbered s.entries (length s.documents) s.documents) (IsNumbered taken.entries (length taken.documents) taken.documents) s taken numbered
              (record {
                of_rows = λ row there. of_row row (go.entries row there);
                givens = λ nav place e there has. of_place nav place e (was nav place there) has;
                tooks = λ r q e there has. inl (applied_tooks s event actor req change r q e there has);
              }) are.entries;
          waits = each_so (IsMadeThere s.documents) (IsMadeThere taken.documents) (waiting taken hand_) (there_again s taken docs) parts.1;
          home = λ p. each_so (IsMadeIn s.documents p) (IsMadeIn taken.documents p) (mades_of (desk_of s p)) (in_again s taken docs p) (are.home p);
          unmade = unmade_taken;
          ascends = ascends_taken;
          continues = continues_taken;
        }
      where
        of_row : (row : Row) → IsOfRow s.history.rows row.entry ⊎ (entry ≡ row.entry) → IsKnownEntry s row.entry ⊎ IsNumbered taken.entries (length taken.documents) taken.documents row.entry
        of_row row (inl old) = inl (inl old)
        of_row row (inr is) = inr (subst (λ (e : EntryId). IsNumbered taken.entries (length taken.documents) taken.documents e) is new_numbered)

        of_place : (nav : NavId) (place : Place) (e : EntryId) → WasPlace s.places put nav place → Has place.ever_given e → IsKnownEntry s e ⊎ IsNumbered taken.entries (length taken.documents) taken.documents e
        of_place nav place e w has =
            by_test (w.before.nav.0 == d.nav.0) (subst (λ (l : List EntryId). Has l e) (ap (λ (p : Place). p.ever_given) (sym w.is) ∙ taker_is.ever (gives d.nav entry w.before)) has)
          where
            by_test : (b : Bool) → Has (let p : Place = cond b (given_entry entry w.before) w.before in p).ever_given e → IsKnownEntry s e ⊎ IsNumbered taken.entries (length taken.documents) taken.documents e
            by_test true (inl is) = inr (subst (λ (n : EntryId). IsNumbered taken.entries (length taken.documents) taken.documents n) is new_numbered)
            by_test true (inr old) = inl (inr (inl (record { nav = nav; place = w.before; there = w.there; has = old })))
            by_test false old = inl (inr (inl (record { nav = nav; place = w.before; there = w.there; has = old })))
