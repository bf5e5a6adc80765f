-- What is known of entries, over what a document makes: of its first poke, or of the fragment order that its process has just finished.
use Rattle.std.proofs.Common.{◌≡◌, inl, inr, ℕ, ◌+◌, Bool, true, false, cond, ◌&&◌, ◌==◌, List, [], ◌∷◌, ◌++◌, fold, length, Option, Some, None, refl, sym, ap, ◌∙◌, subst, arith, append-nil}
use Rattle.std.specs.Prelude.{filter, filter_map, option_map}
use Rattle.std.proofs.lemmas.Bool.{eqb-true}
use Rattle.std.proofs.lemmas.Bool.Decides.{nat_tests}
use Rattle.std.proofs.lemmas.List.Elements.{filter-append, filter_map-append}
use Rattle.tab_ids.specs.declared.DocId.{DocId}
use Rattle.tab_ids.specs.declared.EntryId.{EntryId}
use Rattle.tab_ids.specs.declared.Epoch.{Epoch}
use Rattle.tab_ids.specs.declared.NavId.{NavId}
use Rattle.tab_ids.specs.declared.ProcId.{ProcId}
use Rattle.tab_ids.specs.declared.ReqId.{ReqId}
use Rattle.log_model.specs.declared.job.Job.{Job}
use Rattle.log_model.specs.declared.made.Made.{Made}
use Rattle.log_model.specs.declared.made.Report.{Report}
use Rattle.log_model.specs.declared.made.Report.TheVariants as reports
use Rattle.log_model.specs.declared.made.What.{What}
use Rattle.log_model.specs.declared.made.What.TheVariants as whats
use Rattle.log_model.specs.declared.outcome.Outcome.{Outcome}
use Rattle.log_model.specs.declared.row_kind.Actor.{Actor}
use Rattle.log_model.specs.declared.row_kind.LogRow.{LogRow}
use Rattle.log_model.specs.declared.row_kind.RowKind.TheVariants as rows
use Rattle.log_model.specs.After.{after, desk_made, desks_made, follows_finished, on_desk, reports_joined, reports_made}
use Rattle.log_model.specs.AfterRequests.{made_of_report}
use Rattle.log_model.specs.Equal.{has_req}
use Rattle.log_model.specs.Seen.{Seen, Desk, Document, Place, awake, desk_of, document_of, place_of, request_in}
use Rattle.log_model.specs.Views.{View, after_made, next_entry}
use Rattle.seen_facts.specs.Coord.Leading.{coming, is_made_under}
use Rattle.seen_facts.proofs.Coord.Held.{held_apart, on_alike}
use Rattle.seen_facts.specs.Each.Mades.{Ascend, Continues, IsNext, IsOver, entry_after, number_after}
use Rattle.seen_facts.specs.Each.Items.{Each}
use Rattle.seen_facts.proofs.Each.Eaches.{ascend_more, continues_more, each_more}
use Rattle.seen_facts.specs.Entry.Entries.{AreEntries, EachAscends, EachContinues, EachHasMadeNothing, IsItsOwn, IsMadeIn, IsMadeThere, IsNumbered, mades_of, untaken, untold, waiting}
use Rattle.seen_facts.proofs.Entry.Docs.{its_own}
use Rattle.seen_facts.proofs.Entry.Parts.{KeepsDoc, WasOf, applied_mapped, docs_mapped, each_desk, given_same, keeps_if, took_by, took_of, was_of}
use Rattle.seen_facts.proofs.Entry.Stays.{DocsGo, counted_again, each_so, entries_again, in_again, its_number, numbered_again, some_same, there_again, under_of}

-- a document whose view is this makes it: no edit, and a new entry with the next number, in the place of the one it shows where it replaces
abbrev pub IsMadeNew : View → What → Type 0
IsMadeNew view (whats.Push entry memo address) = entry ≡ next_entry view
IsMadeNew view (whats.Replace over entry memo address) = (over ≡ view.entry) × (entry ≡ next_entry view)
IsMadeNew view whats.Edit = ⊥
IsMadeNew view _ = Unit {0}

-- what is coming of a document that a navigable is awake on leads to the entry that its view shows, where this is made under the navigable's epoch
abbrev pub IsFaced : List Made → Seen → Document → View → Made → Type 0
IsFaced hand s d view made =
    (nav : NavId) (place : Place) (given : EntryId) → place_of s nav ≡ Some place → place.status ≡ awake made.doc → place.given ≡ Some given → (made.epoch.0 == place.epoch.0) ≡ true → fold (λ (e : EntryId) (m : Made). entry_after e m.what) given (coming (waiting s hand) (desk_of s d.proc) made.doc place.epoch) ≡ view.entry

-- a made document of the process makes this; its request isn't held back
pub record IsToMake (hand : List Made) (s : Seen) (proc : ProcId) (d : Document) (view : View) (made : Made) : Type 0 where
  pub there : document_of s made.doc ≡ Some d
  pub home : d.proc ≡ proc
  pub ready : d.is_ready ≡ true
  pub has : d.view ≡ Some view
  pub own : view.doc ≡ made.doc
  pub new : IsMadeNew view made.what
  pub unparked : has_req s.parked made.req ≡ false
  pub faced : IsFaced hand s d view made

-- ---- the view, and what it made

once_made : (view : View) (what : What) → IsMadeNew view what → (after_made view what).numbered ≡ number_after view.numbered what
once_made view (whats.Push entry memo address) new = sym (ap (λ (e : EntryId). e.nr) new)
once_made view (whats.Replace over entry memo address) new = sym (ap (λ (e : EntryId). e.nr) new.1)
once_made view (whats.AddFrame nav) new = refl
once_made view (whats.RemoveFrame nav) new = refl
once_made view (whats.Go delta) new = refl
once_made view whats.Edit never = absurd never

its_entry : (view : View) (what : What) → IsMadeNew view what → IsItsOwn view.doc what
its_entry view (whats.Push entry memo address) new = ap (λ (e : EntryId). e.maker) new
its_entry view (whats.Replace over entry memo address) new = ap (λ (e : EntryId). e.maker) new.1
its_entry view (whats.AddFrame nav) new = tt
its_entry view (whats.RemoveFrame nav) new = tt
its_entry view (whats.Go delta) new = tt
its_entry view whats.Edit never = tt

its_next : (view : View) (what : What) → IsMadeNew view what → IsNext view.numbered what
its_next view (whats.Push entry memo address) new = (let n : entry.nr ≡ view.numbered + 1 = ap (λ (e : EntryId). e.nr) new in omega (arith, n))
its_next view (whats.Replace over entry memo address) new = (let n : entry.nr ≡ view.numbered + 1 = ap (λ (e : EntryId). e.nr) new.1 in omega (arith, n))
its_next view (whats.AddFrame nav) new = tt
its_next view (whats.RemoveFrame nav) new = tt
its_next view (whats.Go delta) new = tt
its_next view whats.Edit never = absurd never

its_over : (view : View) (what : What) → IsMadeNew view what → (entry : EntryId) → entry ≡ view.entry → IsOver entry what
its_over view (whats.Push new_ memo address) new entry same = tt
its_over view (whats.Replace over new_ memo address) new entry same = new.0 ∙ sym same
its_over view (whats.AddFrame nav) new entry same = tt
its_over view (whats.RemoveFrame nav) new entry same = tt
its_over view (whats.Go delta) new entry same = tt
its_over view whats.Edit never entry same = absurd never

join_in : (xs ys zs : List Made) → (xs ++ ys) ++ zs ≡ xs ++ (ys ++ zs)
join_in [] ys zs = refl
join_in (x ∷ xs) ys zs = ap (λ (l : List Made). x ∷ l) (join_in xs ys zs)

-- ---- the row, where what was made comes behind what its process tells of

module _ (hand : List Made) (s : Seen) (event : ℕ) (actor : Actor) (are : AreEntries hand s) (proc : ProcId) (made : Made) (d : Document) (view : View) (make : IsToMake hand s proc d view made) (f : Desk → Desk) (keeps : (desk : Desk) → (f desk).proc ≡ desk.proc) (desks_are : (after s (record { event = event; actor = actor; row = rows.Made proc made })).desks ≡ on_desk proc f s.desks) (more : mades_of (f (desk_of s proc)) ≡ mades_of (desk_of s proc) ++ made ∷ []) where
  abbrev acted : Seen
  acted = after s (record { event = event; actor = actor; row = rows.Made proc made })

  abbrev does : Document → Document
  does x = record x { view = option_map (λ (v : View). after_made v made.what) x.view }

  abbrev acts_on : Document → Document
  acts_on x = cond (x.nr.0 == made.doc.0) (does x) x

  keeps_doc : KeepsDoc acts_on
  keeps_doc =
      keeps_if (λ (x : Document). x.nr.0 == made.doc.0) does (record { nr = λ x. refl; proc = λ x. refl; ready = λ x e. e })

  same_applied : (x : Document) → (acts_on x).last_applied ≡ x.last_applied
  same_applied x = elim (x.nr.0 == made.doc.0) as (λ b. (let y : Document = cond b (does x) x in y).last_applied ≡ x.last_applied) [ true ↦ refl | false ↦ refl ]

  docs : DocsGo s acted
  docs = docs_mapped s acted acts_on keeps_doc refl

  waiting_same : waiting acted hand ≡ waiting s hand
  waiting_same = ap (λ (l : List Made). l ++ hand) (held_apart s.requests s.parked made.req (λ x. record x { made = Some made }) make.unparked)

  is_in : IsMadeIn s.documents proc made
  is_in =
      record { by = record { document = d; found = make.there; own = subst (λ (n : DocId). IsItsOwn n made.what) make.own (its_entry view made.what make.new) }; home = make.home }

  -- the document is the maker, by its number
  is_maker : (doc : DocId) (x : Document) → document_of s doc ≡ Some x → (made.doc.0 == x.nr.0) ≡ true → d ≡ x
  is_maker doc x found e =
      let turned : (x.nr.0 == made.doc.0) ≡ true = grind (arith, nat_tests, e) in
      some_same (sym make.there ∙ its_own s.documents doc made.doc x found turned)

  -- what waits of each document: as before, and what was made, if it is of it
  untaken_more : (doc : DocId) (x : Document) → document_of s doc ≡ Some x → untaken (waiting acted hand) (desk_of acted x.proc) x.nr ≡ untaken (waiting s hand) (desk_of s x.proc) x.nr ++ filter (λ (m : Made). m.doc.0 == x.nr.0) (made ∷ [])
  untaken_more doc x found =
      each_desk s acted proc f (λ (p : ProcId) (desk : Desk). (let q : ProcId = p in q) ≡ x.proc → untaken (waiting acted hand) desk x.nr ≡ untaken (waiting s hand) (desk_of s p) x.nr ++ filter (λ (m : Made). m.doc.0 == x.nr.0) (made ∷ [])) desks_are keeps (λ same. own) others x.proc refl
    where
      own : untaken (waiting acted hand) (f (desk_of s proc)) x.nr ≡ untaken (waiting s hand) (desk_of s proc) x.nr ++ filter (λ (m : Made). m.doc.0 == x.nr.0) (made ∷ [])
      own =
          ap (λ (l : List Made). filter (λ (m : Made). m.doc.0 == x.nr.0) l)
          (ap (λ (l : List Made). l ++ mades_of (f (desk_of s proc))) waiting_same
          ∙ ap (λ (l : List Made). waiting s hand ++ l) more
          ∙ sym (join_in (waiting s hand) (mades_of (desk_of s proc)) (made ∷ [])))
          ∙ filter-append (λ (m : Made). m.doc.0 == x.nr.0) (untold (waiting s hand) (desk_of s proc)) (made ∷ [])

      others : (p : ProcId) → (proc.0 == p.0) ≡ false → p ≡ x.proc → untaken (waiting acted hand) (desk_of s p) x.nr ≡ untaken (waiting s hand) (desk_of s p) x.nr ++ filter (λ (m : Made). m.doc.0 == x.nr.0) (made ∷ [])
      others p apart same = by_test (made.doc.0 == x.nr.0) refl
        where
          by_test : (b : Bool) → (made.doc.0 == x.nr.0) ≡ b → untaken (waiting acted hand) (desk_of s p) x.nr ≡ untaken (waiting s hand) (desk_of s p) x.nr ++ filter (λ (m : Made). m.doc.0 == x.nr.0) (made ∷ [])
          by_test true e =
              let one : d ≡ x = is_maker doc x found e in
              let home : proc.0 ≡ p.0 = ap (λ (q : ProcId). q.0) (sym make.home ∙ ap (λ (y : Document). y.proc) one ∙ sym same) in
              let yes : (proc.0 == p.0) ≡ true = grind (arith, nat_tests, home) in
              let never : true ≡ false = sym yes ∙ apart in absurd cc
          by_test false e =
              let none : filter (λ (m : Made). m.doc.0 == x.nr.0) (made ∷ []) ≡ [] = rw e refl in
              ap (λ (l : List Made). filter (λ (m : Made). m.doc.0 == x.nr.0) (l ++ mades_of (desk_of s p))) waiting_same
              ∙ sym (append-nil (untaken (waiting s hand) (desk_of s p) x.nr))
              ∙ ap (λ (l : List Made). untaken (waiting s hand) (desk_of s p) x.nr ++ l) (sym none)

  not_its : (doc : DocId) (x : Document) → document_of s doc ≡ Some x → (made.doc.0 == x.nr.0) ≡ false → untaken (waiting acted hand) (desk_of acted x.proc) x.nr ≡ untaken (waiting s hand) (desk_of s x.proc) x.nr
  not_its doc x found e =
      let none : filter (λ (m : Made). m.doc.0 == x.nr.0) (made ∷ []) ≡ [] = rw e refl in
      untaken_more doc x found
      ∙ ap (λ (l : List Made). untaken (waiting s hand) (desk_of s x.proc) x.nr ++ l) none
      ∙ append-nil (untaken (waiting s hand) (desk_of s x.proc) x.nr)

  -- as it is read of what the document has become
  as_then : (x y : Document) → acts_on x ≡ y → (untaken (waiting acted hand) (desk_of acted y.proc) y.nr ≡ untaken (waiting acted hand) (desk_of acted x.proc) x.nr)
  as_then x y is =
      ap (λ (p : ProcId). untaken (waiting acted hand) (desk_of acted p) y.nr) (ap (λ (z : Document). z.proc) (sym is) ∙ keeps_doc.proc x)
      ∙ ap (λ (n : DocId). untaken (waiting acted hand) (desk_of acted x.proc) n) (ap (λ (z : Document). z.nr) (sym is) ∙ keeps_doc.nr x)

  unmade_acted : EachHasMadeNothing acted hand
  unmade_acted doc y found unready = by_was (was_of s.documents acts_on keeps_doc.nr doc y found)
    where
      by_was : WasOf s.documents acts_on doc y → (y.last_applied ≡ 0) × (untaken (waiting acted hand) (desk_of acted y.proc) y.nr ≡ [])
      by_was w = by_test (made.doc.0 == w.before.nr.0) refl
        where
          before : w.before.is_ready ≡ false
          before = keeps_doc.ready w.before (ap (λ (x : Document). x.is_ready) w.is ∙ unready)

          by_test : (b : Bool) → (made.doc.0 == w.before.nr.0) ≡ b → (y.last_applied ≡ 0) × (untaken (waiting acted hand) (desk_of acted y.proc) y.nr ≡ [])
          by_test true e =
              let one : d ≡ w.before = is_maker doc w.before w.there e in
              let never : true ≡ false = sym make.ready ∙ ap (λ (x : Document). x.is_ready) one ∙ before in absurd cc
          by_test false e =
              let i : (w.before.last_applied ≡ 0) × (untaken (waiting s hand) (desk_of s w.before.proc) w.before.nr ≡ []) = are.unmade doc w.before w.there before in
              (ap (λ (x : Document). x.last_applied) (sym w.is) ∙ same_applied w.before ∙ i.0, as_then w.before y w.is ∙ not_its doc w.before w.there e ∙ i.1)

  ascends_acted : EachAscends acted hand
  ascends_acted doc y found view_ has = by_was (was_of s.documents acts_on keeps_doc.nr doc y found)
    where
      by_was : WasOf s.documents acts_on doc y → Ascend y.last_applied (untaken (waiting acted hand) (desk_of acted y.proc) y.nr) view_.numbered
      by_was w =
          subst (λ (l : List Made). Ascend y.last_applied l view_.numbered) (sym (as_then w.before y w.is))
          (subst (λ (n : ℕ). Ascend n (untaken (waiting acted hand) (desk_of acted w.before.proc) w.before.nr) view_.numbered) (sym (ap (λ (x : Document). x.last_applied) (sym w.is) ∙ same_applied w.before)) (by_test (w.before.nr.0 == made.doc.0) refl))
        where
          by_test : (b : Bool) → (w.before.nr.0 == made.doc.0) ≡ b → Ascend w.before.last_applied (untaken (waiting acted hand) (desk_of acted w.before.proc) w.before.nr) view_.numbered
          by_test true e =
              let turned : (made.doc.0 == w.before.nr.0) ≡ true = grind (arith, nat_tests, e) in
              let one : d ≡ w.before = is_maker doc w.before w.there turned in
              let had : w.before.view ≡ Some view = ap (λ (x : Document). x.view) (sym one) ∙ make.has in
              let now : (does w.before).view ≡ Some view_ = ap (λ (b : Bool). (let x : Document = cond b (does w.before) w.before in x).view) (sym e) ∙ ap (λ (x : Document). x.view) w.is ∙ has in
              let is : after_made view made.what ≡ view_ = some_same (sym (ap (λ (o : Option View). option_map (λ (v : View). after_made v made.what) o) had) ∙ now) in
              let number : view_.numbered ≡ number_after view.numbered made.what = ap (λ (v : View). v.numbered) (sym is) ∙ once_made view made.what make.new in
              let its : filter (λ (m : Made). m.doc.0 == w.before.nr.0) (made ∷ []) ≡ made ∷ [] = rw turned refl in
              subst (λ (n : ℕ). Ascend w.before.last_applied (untaken (waiting acted hand) (desk_of acted w.before.proc) w.before.nr) n) (sym number)
              (subst (λ (l : List Made). Ascend w.before.last_applied l (number_after view.numbered made.what)) (sym (untaken_more doc w.before w.there ∙ ap (λ (l : List Made). untaken (waiting s hand) (desk_of s w.before.proc) w.before.nr ++ l) its))
              (ascend_more w.before.last_applied view.numbered (untaken (waiting s hand) (desk_of s w.before.proc) w.before.nr) made (are.ascends doc w.before w.there view had) (its_next view made.what make.new)))
          by_test false e =
              let turned : (made.doc.0 == w.before.nr.0) ≡ false = grind (arith, nat_tests, e) in
              let now : w.before.view ≡ Some view_ = ap (λ (b : Bool). (let x : Document = cond b (does w.before) w.before in x).view) (sym e) ∙ ap (λ (x : Document). x.view) w.is ∙ has in
              subst (λ (l : List Made). Ascend w.before.last_applied l view_.numbered) (sym (not_its doc w.before w.there turned)) (are.ascends doc w.before w.there view_ now)

  -- ---- what is coming

  and_both : (a b : Bool) → (a && b) ≡ true → (a ≡ true) × (b ≡ true)
  and_both true true e = (refl, refl)
  and_both true false e = absurd cc
  and_both false b e = absurd cc

  coming_more : (doc : DocId) (x : Document) → document_of s doc ≡ Some x → (epoch : Epoch) → coming (waiting acted hand) (desk_of acted x.proc) doc epoch ≡ coming (waiting s hand) (desk_of s x.proc) doc epoch ++ filter (is_made_under doc epoch) (made ∷ [])
  coming_more doc x found epoch =
      under_of doc epoch (untold (waiting acted hand) (desk_of acted x.proc))
      ∙ ap (λ (l : List Made). filter (λ (m : Made). m.epoch.0 == epoch.0) l) (subst (λ (n : DocId). untaken (waiting acted hand) (desk_of acted x.proc) n ≡ untaken (waiting s hand) (desk_of s x.proc) n ++ filter (λ (m : Made). m.doc.0 == n.0) (made ∷ [])) nr (untaken_more doc x found))
      ∙ filter-append (λ (m : Made). m.epoch.0 == epoch.0) (untaken (waiting s hand) (desk_of s x.proc) doc) (filter (λ (m : Made). m.doc.0 == doc.0) (made ∷ []))
      ∙ ap (λ (l : List Made). l ++ filter (λ (m : Made). m.epoch.0 == epoch.0) (filter (λ (m : Made). m.doc.0 == doc.0) (made ∷ []))) (sym (under_of doc epoch (untold (waiting s hand) (desk_of s x.proc))))
      ∙ ap (λ (l : List Made). coming (waiting s hand) (desk_of s x.proc) doc epoch ++ l) (sym (under_of doc epoch (made ∷ [])))
    where
      nr : x.nr ≡ doc
      nr = ap (λ (n : ℕ). let y : DocId = record { 0 = n } in y) (its_number s.documents doc x found)

  continues_acted : EachContinues acted hand
  continues_acted nav place doc y given there wakes found has is = by_was (was_of s.documents acts_on keeps_doc.nr doc y found)
    where
      by_was : WasOf s.documents acts_on doc y → Continues given (coming (waiting acted hand) (desk_of acted y.proc) doc place.epoch)
      by_was w =
          subst (λ (p : ProcId). Continues given (coming (waiting acted hand) (desk_of acted p) doc place.epoch)) (sym (ap (λ (z : Document). z.proc) (sym w.is) ∙ keeps_doc.proc w.before)) (by_test (is_made_under doc place.epoch made) refl)
        where
          before : Continues given (coming (waiting s hand) (desk_of s w.before.proc) doc place.epoch)
          before = are.continues nav place doc w.before given there wakes w.there has is

          by_test : (b : Bool) → is_made_under doc place.epoch made ≡ b → Continues given (coming (waiting acted hand) (desk_of acted w.before.proc) doc place.epoch)
          by_test true e =
              let both : ((made.doc.0 == doc.0) ≡ true) × ((made.epoch.0 == place.epoch.0) ≡ true) = and_both (made.doc.0 == doc.0) (made.epoch.0 == place.epoch.0) e in
              let nr : doc ≡ made.doc = ap (λ (n : ℕ). let z : DocId = record { 0 = n } in z) (sym (eqb-true made.doc.0 doc.0 both.0)) in
              let at : document_of s made.doc ≡ Some w.before = ap (λ (n : DocId). document_of s n) (sym nr) ∙ w.there in
              let one : d ≡ w.before = some_same (sym make.there ∙ at) in
              let face : fold (λ (e : EntryId) (m : Made). entry_after e m.what) given (coming (waiting s hand) (desk_of s d.proc) made.doc place.epoch) ≡ view.entry = make.faced nav place given there (wakes ∙ ap awake nr) is both.1 in
              let its : fold (λ (e : EntryId) (m : Made). entry_after e m.what) given (coming (waiting s hand) (desk_of s w.before.proc) doc place.epoch) ≡ view.entry = ap (λ (n : DocId). fold (λ (e : EntryId) (m : Made). entry_after e m.what) given (coming (waiting s hand) (desk_of s w.before.proc) n place.epoch)) nr ∙ ap (λ (x : Document). fold (λ (e : EntryId) (m : Made). entry_after e m.what) given (coming (waiting s hand) (desk_of s x.proc) made.doc place.epoch)) (sym one) ∙ face in
              let last : filter (is_made_under doc place.epoch) (made ∷ []) ≡ made ∷ [] = rw e refl in
              subst (λ (l : List Made). Continues given l) (sym (coming_more doc w.before w.there place.epoch ∙ ap (λ (l : List Made). coming (waiting s hand) (desk_of s w.before.proc) doc place.epoch ++ l) last))
              (continues_more given (coming (waiting s hand) (desk_of s w.before.proc) doc place.epoch) made before (its_over view made.what make.new _ its))
          by_test false e =
              let none : filter (is_made_under doc place.epoch) (made ∷ []) ≡ [] = rw e refl in
              subst (λ (l : List Made). Continues given l) (sym (coming_more doc w.before w.there place.epoch ∙ ap (λ (l : List Made). coming (waiting s hand) (desk_of s w.before.proc) doc place.epoch ++ l) none ∙ append-nil (coming (waiting s hand) (desk_of s w.before.proc) doc place.epoch))) before

  home_acted : (p : ProcId) → Each (IsMadeIn s.documents p) (mades_of (desk_of acted p))
  home_acted =
      each_desk s acted proc f (λ (p : ProcId) (desk : Desk). Each (IsMadeIn s.documents p) (mades_of desk)) desks_are keeps
      (subst (λ (l : List Made). Each (IsMadeIn s.documents proc) l) (sym more) (each_more (IsMadeIn s.documents proc) (mades_of (desk_of s proc)) made (are.home proc) is_in))
      (λ p apart. are.home p)

  took_same : (r : ReqId) → took_of (request_in acted.requests r) ≡ took_of (request_in s.requests r)
  took_same r = on_alike took_of s.requests made.req (λ x. record x { made = Some made }) r (λ q. refl)

  acted_entries : AreEntries hand acted
  acted_entries =
      record {
        counted = counted_again s acted docs are.counted;
        entries =
            entries_again (IsNumbered s.entries (length s.documents) s.documents) (IsNumbered acted.entries (length acted.documents) acted.documents) s acted
            (numbered_again s acted docs (applied_mapped s acted acts_on keeps_doc.nr refl same_applied) (omega arith))
            (record {
              of_rows = λ row there. inl (inl (record { row = row; there = there; is = refl }));
              givens = λ nav place entry there has. inl (inr (inl (given_same s.places nav place entry there has)));
              tooks = λ req q entry there has. inl (inr (inr (took_by s.requests acted.requests took_same req q entry there has)));
            }) are.entries;
        waits = subst (λ (l : List Made). Each (IsMadeThere acted.documents) l) (sym waiting_same) (each_so (IsMadeThere s.documents) (IsMadeThere acted.documents) (waiting s hand) (there_again s acted docs) are.waits);
        home = λ p. each_so (IsMadeIn s.documents p) (IsMadeIn acted.documents p) (mades_of (desk_of acted p)) (in_again s acted docs p) (home_acted p);
        unmade = unmade_acted;
        ascends = ascends_acted;
        continues = continues_acted;
      }

-- ---- of a poke

poke_told : (made : Made) (what : What) (view : View) → IsMadeNew view what → (l : List Report) → filter_map made_of_report (reports_made l made what) ≡ filter_map made_of_report l ++ made ∷ []
poke_told made (whats.Push entry memo address) view new l = filter_map-append made_of_report l (reports.Made made ∷ [])
poke_told made (whats.Replace over entry memo address) view new l = filter_map-append made_of_report l (reports.Made made ∷ [])
poke_told made (whats.AddFrame nav) view new l = filter_map-append made_of_report l (reports.Made made ∷ [])
poke_told made (whats.RemoveFrame nav) view new l = filter_map-append made_of_report l (reports.Made made ∷ [])
poke_told made (whats.Go delta) view new l = filter_map-append made_of_report l (reports.Made made ∷ [])
poke_told made whats.Edit view never l = absurd never

-- ---- of a fragment order: what was made joins the last report

joined_last : (made : Made) (before : List Report) (job : Job) (outcome : Outcome) → reports_joined made (before ++ reports.Done job outcome None ∷ []) ≡ before ++ reports.Done job outcome (Some made) ∷ []
joined_last made [] job outcome = refl
joined_last made (reports.Done j o m ∷ []) job outcome = refl
joined_last made (reports.Done j o m ∷ r ∷ before) job outcome = ap (λ (l : List Report). reports.Done j o m ∷ l) (joined_last made (r ∷ before) job outcome)
joined_last made (reports.Made m ∷ before) job outcome = ap (λ (l : List Report). reports.Made m ∷ l) (joined_last made before job outcome)
joined_last made (reports.Died death ∷ before) job outcome = ap (λ (l : List Report). reports.Died death ∷ l) (joined_last made before job outcome)

-- the last report of the process is of an order of which nothing was made yet
pub record EndsUnmade (waiting_ : List Report) : Type 0 where
  pub before : List Report
  pub job : Job
  pub outcome : Outcome
  pub is : waiting_ ≡ before ++ reports.Done job outcome None ∷ []

joined_told : (made : Made) (l : List Report) → EndsUnmade l → filter_map made_of_report (reports_joined made l) ≡ filter_map made_of_report l ++ made ∷ []
joined_told made l end =
    ap (λ (k : List Report). filter_map made_of_report (reports_joined made k)) end.is
    ∙ ap (filter_map made_of_report) (joined_last made end.before end.job end.outcome)
    ∙ filter_map-append made_of_report end.before (reports.Done end.job end.outcome (Some made) ∷ [])
    ∙ ap (λ (k : List Made). k ++ made ∷ []) (sym (filter_map-append made_of_report end.before (reports.Done end.job end.outcome None ∷ []) ∙ append-nil (filter_map made_of_report end.before)))
    ∙ ap (λ (k : List Report). filter_map made_of_report k ++ made ∷ []) (sym end.is)

-- ---- the rows

module _ (hand : List Made) (s : Seen) (event : ℕ) (actor : Actor) (are : AreEntries hand s) (proc : ProcId) (made : Made) (d : Document) (view : View) (make : IsToMake hand s proc d view made) where
  abbrev made_row : LogRow
  made_row = record { event = event; actor = actor; row = rows.Made proc made }

  pub poke_entries : follows_finished s made_row ≡ false → AreEntries hand (after s made_row)
  poke_entries anew =
      acted_entries hand s event actor are proc made d view make (desk_made made) (λ desk. refl) (ap (λ (b : Bool). on_desk proc (desks_made b made) s.desks) anew) (poke_told made made.what view make.new (desk_of s proc).reports)

  pub fragment_entries : follows_finished s made_row ≡ true → EndsUnmade (desk_of s proc).reports → AreEntries hand (after s made_row)
  fragment_entries follows end =
      acted_entries hand s event actor are proc made d view make (λ desk. record desk { reports = reports_joined made desk.reports }) (λ desk. refl) (ap (λ (b : Bool). on_desk proc (desks_made b made) s.desks) follows) (joined_told made (desk_of s proc).reports end)
