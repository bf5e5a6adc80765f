-- What leaves documents, places, requests and the lists of processes so that all that is known of entries is so again.
use Rattle.std.proofs.Common.{◌≡◌, inl, inr, ℕ, zero, suc, ◌-◌, Bool, true, false, cond, ◌==◌, List, [], ◌∷◌, ◌++◌, length, map, Option, Some, None, refl, sym, ap, ◌∙◌, subst, arith}
use Rattle.std.specs.Prelude.{option_map, slice_get}
use Rattle.std.proofs.lemmas.List.{length-map}
use Rattle.tab_ids.specs.declared.DocId.{DocId}
use Rattle.tab_ids.specs.declared.EntryId.{EntryId}
use Rattle.tab_ids.specs.declared.NavId.{NavId}
use Rattle.tab_ids.specs.declared.ProcId.{ProcId}
use Rattle.tab_ids.specs.declared.ReqId.{ReqId}
use Rattle.log_model.specs.declared.made.Made.{Made}
use Rattle.log_model.specs.declared.row.Row.{Row}
use Rattle.log_model.specs.After.{on_desk}
use Rattle.log_model.specs.AfterRequests.{on_request}
use Rattle.log_model.specs.History.{has_nav, has_row}
use Rattle.log_model.specs.declared.job.Why.{Why}
use Rattle.log_model.specs.Seen.{Seen, Asked, Desk, Document, Place, awake, asleep, desk_in, desk_of, document_of, place_in, request_in}
use Rattle.log_model.specs.Views.{View}
use Rattle.seen_facts.specs.Coord.Leading.{held_back}
use Rattle.seen_facts.proofs.Coord.Held.{held_alike, made_of, on_alike}
use Rattle.seen_facts.proofs.Coord.Leadings.{proc_same}
use Rattle.seen_facts.specs.Hang.Members.{Has}
use Rattle.seen_facts.proofs.Request.Readers.{SameReads}
use Rattle.seen_laws.proofs.Desks.{desk_on_same, desk_on_other}
use Rattle.seen_laws.proofs.Keyed.{find_map}
use Rattle.seen_facts.specs.Home.Homes.{document_in}
use Rattle.seen_facts.specs.Each.Items.{Each}
use Rattle.seen_facts.specs.Entry.Entries.{AreEntries, IsMadeIn, IsMadeThere, mades_of, untold, waiting}
use Rattle.seen_facts.proofs.Entry.Skips.{IsPassed, Skips, skips_same}
use Rattle.seen_facts.proofs.Entry.Stays.{AllWereShown, DocsGo, EntriesGo, HadRows, IsNewEntry, IsNumberedSo, Leaves, ListsGo, SameApplied, ViewsGo, WasDoc, WasGiven, WasShown, WasTook, left_entries, lists_of, some_same}

-- ---- documents: each is changed, but for its number and process, and unmade only if it was

-- what is kept of a document as it changes
pub record KeepsDoc (g : Document → Document) : Type 0 where
  pub nr : (d : Document) → (g d).nr ≡ d.nr
  pub proc : (d : Document) → (g d).proc ≡ d.proc
  pub ready : (d : Document) → (g d).is_ready ≡ false → d.is_ready ≡ false

-- a document then was one before
pub record WasOf (documents : List Document) (g : Document → Document) (doc : DocId) (d : Document) : Type 0 where
  pub before : Document
  pub there : document_in documents doc ≡ Some before
  pub is : g before ≡ d

pub document_then : (documents : List Document) (g : Document → Document) → ((d : Document) → (g d).nr ≡ d.nr) → (doc : DocId) → document_in (map g documents) doc ≡ option_map g (document_in documents doc)
document_then documents g nr doc = find_map (λ (x : Document). x.nr.0) g doc.0 documents (λ x. ap (λ (n : DocId). n.0) (nr x))

pub was_of : (documents : List Document) (g : Document → Document) → ((d : Document) → (g d).nr ≡ d.nr) → (doc : DocId) (d : Document) → document_in (map g documents) doc ≡ Some d → WasOf documents g doc d
was_of documents g nr doc d found = by_old (document_in documents doc) refl
  where
    by_old : (o : Option Document) → document_in documents doc ≡ o → WasOf documents g doc d
    by_old None e = (let no_ : None ≡ Some d = sym (document_then documents g nr doc ∙ ap (λ (o : Option Document). option_map g o) e) ∙ found in cc)
    by_old (Some old) e =
        let both : Some (g old) ≡ Some d = sym (document_then documents g nr doc ∙ ap (λ (o : Option Document). option_map g o) e) ∙ found in
        record { before = old; there = e; is = some_same both }

pub docs_mapped : (s t : Seen) (g : Document → Document) → KeepsDoc g → t.documents ≡ map g s.documents → DocsGo s t
docs_mapped s t g keeps are =
    record {
      were = λ doc d found. inl (was doc d (was_of s.documents g keeps.nr doc d (subst (λ (l : List Document). document_in l doc ≡ Some d) are found)));
      stay = λ doc d found. record { new = g d; found = subst (λ (l : List Document). document_in l doc ≡ Some (g d)) (sym are) (document_then s.documents g keeps.nr doc ∙ ap (λ (o : Option Document). option_map g o) found); proc = keeps.proc d };
      longer = (let same : length t.documents ≡ length s.documents = ap (λ (l : List Document). length l) are ∙ length-map s.documents g in omega (arith, same));
    }
  where
    was : (doc : DocId) (d : Document) → WasOf s.documents g doc d → WasDoc s doc d
    was doc d w =
        record {
          before = w.before;
          found = w.there;
          nr = ap (λ (x : Document). x.nr) (sym w.is) ∙ keeps.nr w.before;
          proc = ap (λ (x : Document). x.proc) (sym w.is) ∙ keeps.proc w.before;
          ready = λ unready. keeps.ready w.before (ap (λ (x : Document). x.is_ready) w.is ∙ unready);
        }

-- a document then is what it has become
pub is_of_map : (s t : Seen) (g : Document → Document) → ((d : Document) → (g d).nr ≡ d.nr) → t.documents ≡ map g s.documents → (doc : DocId) (d before : Document) → document_of t doc ≡ Some d → document_of s doc ≡ Some before → g before ≡ d
is_of_map s t g nr are doc d before found there =
    some_same (sym (document_then s.documents g nr doc ∙ ap (λ (o : Option Document). option_map g o) there) ∙ subst (λ (l : List Document). document_in l doc ≡ Some d) are found)

pub applied_mapped : (s t : Seen) (g : Document → Document) → ((d : Document) → (g d).nr ≡ d.nr) → t.documents ≡ map g s.documents → ((d : Document) → (g d).last_applied ≡ d.last_applied) → SameApplied s t
applied_mapped s t g nr are same doc d before found there =
    ap (λ (x : Document). x.last_applied) (sym (is_of_map s t g nr are doc d before found there)) ∙ same before

pub views_mapped : (s t : Seen) (g : Document → Document) → ((d : Document) → (g d).nr ≡ d.nr) → t.documents ≡ map g s.documents → ((doc : DocId) (d : Document) → document_of s doc ≡ Some d → (view : View) → (g d).view ≡ Some view → IsNumberedSo d view.numbered) → ViewsGo s t
views_mapped s t g nr are so doc d before found there view has =
    so doc before there view (ap (λ (x : Document). x.view) (is_of_map s t g nr are doc d before found there) ∙ has)

pub map_itself : (documents : List Document) → documents ≡ map (λ (d : Document). d) documents
map_itself [] = refl
map_itself (d ∷ documents) = ap (λ (l : List Document). d ∷ l) (map_itself documents)

pub itself_keeps : KeepsDoc (λ (d : Document). d)
itself_keeps = record { nr = λ d. refl; proc = λ d. refl; ready = λ d e. e }

-- a view that stays
pub view_stays : (d : Document) (view : View) → d.view ≡ Some view → IsNumberedSo d view.numbered
view_stays d view has = inr (view, has, refl)

-- one of them is changed
pub keeps_if : (test : Document → Bool) (f : Document → Document) → KeepsDoc f → KeepsDoc (λ (d : Document). cond (test d) (f d) d)
keeps_if test f keeps =
    record {
      nr = λ d. elim (test d) as (λ b. (let x : Document = cond b (f d) d in x).nr ≡ d.nr) [ true ↦ keeps.nr d | false ↦ refl ];
      proc = λ d. elim (test d) as (λ b. (let x : Document = cond b (f d) d in x).proc ≡ d.proc) [ true ↦ keeps.proc d | false ↦ refl ];
      ready = λ d e. by_test d (test d) e;
    }
  where
    by_test : (d : Document) (b : Bool) → (let x : Document = cond b (f d) d in x).is_ready ≡ false → d.is_ready ≡ false
    by_test d true e = keeps.ready d e
    by_test d false e = e

-- ---- desks

-- what holds of each then: of the one that is changed, and of the others as before
pub each_desk : (s t : Seen) (p : ProcId) (f : Desk → Desk) (F : ProcId → Desk → Type 0) → t.desks ≡ on_desk p f s.desks → ((desk : Desk) → (f desk).proc ≡ desk.proc) → F p (f (desk_of s p)) → ((proc : ProcId) → (p.0 == proc.0) ≡ false → F proc (desk_of s proc)) → (proc : ProcId) → F proc (desk_of t proc)
each_desk s t p f F are keeps own others proc = by_process (p.0 == proc.0) refl
  where
    by_process : (b : Bool) → (p.0 == proc.0) ≡ b → F proc (desk_of t proc)
    by_process true e =
        let now : desk_of t p ≡ f (desk_of s p) = ap (λ (l : List Desk). desk_in l p) are ∙ desk_on_same f s.desks p keeps in
        subst (λ (x : ProcId). F x (desk_of t x)) (proc_same p proc e) (subst (F p) (sym now) own)
    by_process false e =
        subst (F proc) (sym (ap (λ (l : List Desk). desk_in l proc) are ∙ desk_on_other f s.desks p proc keeps e)) (others proc e)

-- the reports of each process stay
abbrev pub SameTold : Seen → Seen → Type 0
SameTold s t = (proc : ProcId) → mades_of (desk_of t proc) ≡ mades_of (desk_of s proc)

pub same_told : (s t : Seen) → t.desks ≡ s.desks → SameTold s t
same_told s t same proc = ap (λ (l : List Desk). mades_of (desk_in l proc)) same

pub told_on : (s t : Seen) (p : ProcId) (f : Desk → Desk) → t.desks ≡ on_desk p f s.desks → ((desk : Desk) → (f desk).proc ≡ desk.proc) → mades_of (f (desk_of s p)) ≡ mades_of (desk_of s p) → SameTold s t
told_on s t p f are keeps same = each_desk s t p f (λ (proc : ProcId) (desk : Desk). mades_of desk ≡ mades_of (desk_of s proc)) are keeps same (λ proc apart. refl)

-- ---- requests: what was made of each and which entries each took

-- the entries that a request took, if there is one
abbrev pub took_of : Option Asked → List EntryId
took_of None = []
took_of (Some q) = q.took

-- both stay, for each number
pub record KeepsAsked (asked next : List Asked) : Type 0 where
  pub made : (r : ReqId) → made_of (request_in next r) ≡ made_of (request_in asked r)
  pub took : (r : ReqId) → took_of (request_in next r) ≡ took_of (request_in asked r)

pub same_asked : (asked : List Asked) → KeepsAsked asked asked
same_asked asked = record { made = λ r. refl; took = λ r. refl }

pub asked_then : (a b c : List Asked) → KeepsAsked a b → KeepsAsked b c → KeepsAsked a c
asked_then a b c one two = record { made = λ r. two.made r ∙ one.made r; took = λ r. two.took r ∙ one.took r }

-- one of them is changed
pub asked_on : (asked : List Asked) (req : ReqId) (f : Asked → Asked) → ((q : Asked) → (f q).made ≡ q.made) → ((q : Asked) → (f q).took ≡ q.took) → KeepsAsked asked (on_request req f asked)
asked_on asked req f made took =
    record { made = λ r. on_alike made_of asked req f r made; took = λ r. on_alike took_of asked req f r took }

-- what is read of a request
abbrev pub Deed : Type 0
Deed = Option Made × List EntryId

-- of this request
abbrev pub deed : Asked → Deed
deed q = (q.made, q.took)

abbrev made_in : Option Deed → Option Made
made_in None = None
made_in (Some d) = d.0

abbrev took_in : Option Deed → List EntryId
took_in None = []
took_in (Some d) = d.1

pub asked_read : (asked next : List Asked) → SameReads deed asked next → KeepsAsked asked next
asked_read asked next same =
    record {
      made = λ r. by_made (request_in next r) ∙ ap made_in (same r) ∙ sym (by_made (request_in asked r));
      took = λ r. by_took (request_in next r) ∙ ap took_in (same r) ∙ sym (by_took (request_in asked r));
    }
  where
    by_made : (o : Option Asked) → made_of o ≡ made_in (option_map deed o)
    by_made None = refl
    by_made (Some q) = refl

    by_took : (o : Option Asked) → took_of o ≡ took_in (option_map deed o)
    by_took None = refl
    by_took (Some q) = refl

-- one request more
more_read : {B : Type 0} (read : Option Asked → B) (asked : List Asked) (q : Asked) (n : ℕ) → read (Some q) ≡ read None → read (slice_get (asked ++ q ∷ []) n) ≡ read (slice_get asked n)
more_read read [] q zero none = none
more_read read [] q (suc n) none = refl
more_read read (x ∷ asked) q zero none = refl
more_read read (x ∷ asked) q (suc n) none = more_read read asked q n none

pub asked_more : (asked : List Asked) (q : Asked) → q.made ≡ None → q.took ≡ [] → KeepsAsked asked (asked ++ q ∷ [])
asked_more asked q made took =
    record { made = λ r. by_number made_of made r (r.0 == 0); took = λ r. by_number took_of took r (r.0 == 0) }
  where
    by_number : {B : Type 0} (read : Option Asked → B) → read (Some q) ≡ read None → (r : ReqId) (b : Bool) → read (cond b None (slice_get (asked ++ q ∷ []) (r.0 - 1))) ≡ read (cond b None (slice_get asked (r.0 - 1)))
    by_number read none r true = refl
    by_number read none r false = more_read read asked q (r.0 - 1) none

-- what is held back stays
pub held_same : (asked next : List Asked) (parked : List ReqId) → KeepsAsked asked next → held_back next parked ≡ held_back asked parked
held_same asked next parked keeps = held_alike asked next parked keeps.made

-- an entry that was taken then was taken before
pub took_by : (asked next : List Asked) → ((r : ReqId) → took_of (request_in next r) ≡ took_of (request_in asked r)) → (req : ReqId) (q : Asked) (entry : EntryId) → request_in next req ≡ Some q → Has q.took entry → WasTook asked entry
took_by asked next same req q entry there has = by_old (request_in asked req) refl
  where
    had : Has (took_of (request_in asked req)) entry
    had = subst (λ (l : List EntryId). Has l entry) (sym (ap took_of there) ∙ same req) has

    by_old : (o : Option Asked) → request_in asked req ≡ o → WasTook asked entry
    by_old None e = absurd (subst (λ (o : Option Asked). Has (took_of o) entry) e had)
    by_old (Some p) e = record { req = req; q = p; there = e; has = subst (λ (o : Option Asked). Has (took_of o) entry) e had }

pub took_before : (asked next : List Asked) → KeepsAsked asked next → (req : ReqId) (q : Asked) (entry : EntryId) → request_in next req ≡ Some q → Has q.took entry → WasTook asked entry
took_before asked next keeps = took_by asked next keeps.took

-- ---- places

pub same_shown : (s t : Seen) → t.places ≡ s.places → AllWereShown s t
same_shown s t same nav place doc there wakes =
    record { before = place; there = ap (λ (l : List Place). place_in l nav) (sym same) ∙ there; nav_is = refl; status = refl; given = refl; epoch = refl }

-- a place then was one before
pub record WasPlace (places : List Place) (g : Place → Place) (nav : NavId) (place : Place) : Type 0 where
  pub before : Place
  pub there : place_in places nav ≡ Some before
  pub is : g before ≡ place

pub place_then : (places : List Place) (g : Place → Place) → ((p : Place) → (g p).nav ≡ p.nav) → (nav : NavId) → place_in (map g places) nav ≡ option_map g (place_in places nav)
place_then places g same nav = find_map (λ (p : Place). p.nav.0) g nav.0 places (λ p. ap (λ (n : NavId). n.0) (same p))

pub was_place : (places : List Place) (g : Place → Place) → ((p : Place) → (g p).nav ≡ p.nav) → (nav : NavId) (place : Place) → place_in (map g places) nav ≡ Some place → WasPlace places g nav place
was_place places g same nav place there = by_old (place_in places nav) refl
  where
    by_old : (o : Option Place) → place_in places nav ≡ o → WasPlace places g nav place
    by_old None e = (let no_ : None ≡ Some place = sym (place_then places g same nav ∙ ap (λ (o : Option Place). option_map g o) e) ∙ there in cc)
    by_old (Some old) e =
        let both : Some (g old) ≡ Some place = sym (place_then places g same nav ∙ ap (λ (o : Option Place). option_map g o) e) ∙ there in
        record { before = old; there = e; is = some_same both }

-- each is changed, but for what is read of it: an awake one was so, given the same under the same epoch
pub record LeavesPlace (g : Place → Place) : Type 0 where
  pub nav : (p : Place) → (g p).nav ≡ p.nav
  pub ever : (p : Place) → (g p).ever_given ≡ p.ever_given
  pub status : (p : Place) (doc : DocId) → (g p).status ≡ awake doc → p.status ≡ (g p).status
  pub given : (p : Place) → (g p).given ≡ p.given
  pub epoch : (p : Place) → (g p).epoch ≡ p.epoch

pub shown_mapped : (s t : Seen) (g : Place → Place) → LeavesPlace g → t.places ≡ map g s.places → AllWereShown s t
shown_mapped s t g leaves are nav place doc there wakes =
    by_was (was_place s.places g leaves.nav nav place (subst (λ (l : List Place). place_in l nav ≡ Some place) are there))
  where
    by_was : WasPlace s.places g nav place → WasShown s nav place
    by_was w =
        record {
          before = w.before;
          there = w.there;
          nav_is = ap (λ (p : Place). p.nav) (sym w.is) ∙ leaves.nav w.before;
          status = leaves.status w.before doc (ap (λ (p : Place). p.status) w.is ∙ wakes) ∙ ap (λ (p : Place). p.status) w.is;
          given = sym (leaves.given w.before) ∙ ap (λ (p : Place). p.given) w.is;
          epoch = sym (leaves.epoch w.before) ∙ ap (λ (p : Place). p.epoch) w.is;
        }

-- no navigable is given an entry
abbrev pub GivenBefore : List Place → List Place → Type 0
GivenBefore places next = (nav : NavId) (place : Place) (entry : EntryId) → place_in next nav ≡ Some place → Has place.ever_given entry → WasGiven places entry

pub given_same : (places : List Place) → GivenBefore places places
given_same places nav place entry there has = record { nav = nav; place = place; there = there; has = has }

pub given_mapped : (places next : List Place) (g : Place → Place) → ((p : Place) → (g p).nav ≡ p.nav) → ((p : Place) → (g p).ever_given ≡ p.ever_given) → next ≡ map g places → GivenBefore places next
given_mapped places next g nav_same ever are nav place entry there has =
    by_was (was_place places g nav_same nav place (subst (λ (l : List Place). place_in l nav ≡ Some place) are there))
  where
    by_was : WasPlace places g nav place → WasGiven places entry
    by_was w = record { nav = nav; place = w.before; there = w.there; has = subst (λ (l : List EntryId). Has l entry) (ap (λ (p : Place). p.ever_given) (sym w.is) ∙ ever w.before) has }

-- some of them are changed
pub leaves_if : (test : Place → Bool) (f : Place → Place) → LeavesPlace f → LeavesPlace (λ (p : Place). cond (test p) (f p) p)
leaves_if test f leaves =
    record {
      nav = λ p. elim (test p) as (λ b. (let q : Place = cond b (f p) p in q).nav ≡ p.nav) [ true ↦ leaves.nav p | false ↦ refl ];
      ever = λ p. elim (test p) as (λ b. (let q : Place = cond b (f p) p in q).ever_given ≡ p.ever_given) [ true ↦ leaves.ever p | false ↦ refl ];
      status = λ p doc e. by_test p doc (test p) e;
      given = λ p. elim (test p) as (λ b. (let q : Place = cond b (f p) p in q).given ≡ p.given) [ true ↦ leaves.given p | false ↦ refl ];
      epoch = λ p. elim (test p) as (λ b. (let q : Place = cond b (f p) p in q).epoch ≡ p.epoch) [ true ↦ leaves.epoch p | false ↦ refl ];
    }
  where
    by_test : (p : Place) (doc : DocId) (b : Bool) → (let q : Place = cond b (f p) p in q).status ≡ awake doc → p.status ≡ (let q : Place = cond b (f p) p in q).status
    by_test p doc true e = leaves.status p doc e
    by_test p doc false e = refl

-- who falls asleep isn't awake
pub sleep_leaves : (navs : List NavId) (why : Why) → LeavesPlace (λ (p : Place). cond (has_nav navs p.nav) (record p { status = asleep; why = why }) p)
sleep_leaves navs why =
    leaves_if (λ (p : Place). has_nav navs p.nav) (λ (p : Place). record p { status = asleep; why = why }) (record { nav = λ p. refl; ever = λ p. refl; status = λ p doc never. (let no_ : asleep ≡ awake doc = never in absurd cc); given = λ p. refl; epoch = λ p. refl })

-- ---- a row that leaves the history

pub had_same : (s t : Seen) → t.history.rows ≡ s.history.rows → HadRows s t
had_same s t same nav place doc there wakes has = ap (λ (l : List Row). has_row place.nav l) (sym same) ∙ has

-- rows and numbers stay, no navigable is given an entry, and no request takes one
pub record KeepsHistory (s t : Seen) : Type 0 where
  pub history : t.history.rows ≡ s.history.rows
  pub numbers : t.entries ≡ s.entries
  pub given : GivenBefore s.places t.places
  pub asked : KeepsAsked s.requests t.requests

pub entries_stay : (s t : Seen) → KeepsHistory s t → EntriesGo (IsNewEntry t) s t
entries_stay s t keeps =
    record {
      of_rows = λ row there. inl (inl (record { row = row; there = subst (λ (l : List Row). Has l row) keeps.history there; is = refl }));
      givens = λ nav place entry there has. inl (inr (inl (keeps.given nav place entry there has)));
      tooks = λ req q entry there has. inl (inr (inr (took_before s.requests t.requests keeps.asked req q entry there has)));
    }

-- what a row leaves that leaves the history, and changes each document and each place as it may
pub record Goes (hand hand_ : List Made) (s t : Seen) : Type 0 where
  pub g : Document → Document
  pub keeps : KeepsDoc g
  pub applied : (d : Document) → (g d).last_applied ≡ d.last_applied
  pub documents : t.documents ≡ map g s.documents
  pub views : (doc : DocId) (d : Document) → document_of s doc ≡ Some d → (view : View) → (g d).view ≡ Some view → IsNumberedSo d view.numbered
  pub lists : ListsGo hand hand_ s t
  pub waits : Each (IsMadeThere s.documents) (waiting t hand_)
  pub home : (proc : ProcId) → Each (IsMadeIn s.documents proc) (mades_of (desk_of t proc))
  pub shown : AllWereShown s t
  pub stays : KeepsHistory s t

pub goes_leaves : (hand hand_ : List Made) (s t : Seen) → Goes hand hand_ s t → Leaves hand hand_ s t
goes_leaves hand hand_ s t go =
    record {
      docs = docs_mapped s t go.g go.keeps go.documents;
      applied = applied_mapped s t go.g go.keeps.nr go.documents go.applied;
      views = views_mapped s t go.g go.keeps.nr go.documents go.views;
      lists = go.lists;
      waits = go.waits;
      home = go.home;
      shown = λ nav place doc there wakes. inl (go.shown nav place doc there wakes);
      had = had_same s t go.stays.history;
      numbers = (let same : t.entries ≡ s.entries = go.stays.numbers in omega (arith, same));
      entries = entries_stay s t go.stays;
    }

pub goes_entries : (hand hand_ : List Made) (s t : Seen) → Goes hand hand_ s t → AreEntries hand s → AreEntries hand_ t
goes_entries hand hand_ s t go are = left_entries hand hand_ s t (goes_leaves hand hand_ s t go) are

-- ---- nothing that was made comes or goes

-- the same is held back, and each process tells of the same
pub record SameLists (hand : List Made) (s t : Seen) : Type 0 where
  pub parked : t.parked ≡ s.parked
  pub asked : KeepsAsked s.requests t.requests
  pub told : SameTold s t

pub waiting_same : (hand : List Made) (s t : Seen) → SameLists hand s t → waiting t hand ≡ waiting s hand
waiting_same hand s t same =
    ap (λ (l : List Made). l ++ hand) (ap (λ (l : List ReqId). held_back t.requests l) same.parked ∙ held_same s.requests t.requests s.parked same.asked)

pub lists_same : (hand : List Made) (s t : Seen) → SameLists hand s t → ListsGo hand hand s t
lists_same hand s t same =
    lists_of hand hand s t (λ proc. subst (λ (l : List Made). Skips (IsPassed s) (untold (waiting s hand) (desk_of s proc)) l) (sym (all proc)) (skips_same (IsPassed s) (untold (waiting s hand) (desk_of s proc))))
  where
    all : (proc : ProcId) → untold (waiting t hand) (desk_of t proc) ≡ untold (waiting s hand) (desk_of s proc)
    all proc = ap (λ (l : List Made). l ++ mades_of (desk_of t proc)) (waiting_same hand s t same) ∙ ap (λ (l : List Made). waiting s hand ++ l) (same.told proc)

pub waits_same : (hand : List Made) (s t : Seen) → SameLists hand s t → AreEntries hand s → Each (IsMadeThere s.documents) (waiting t hand)
waits_same hand s t same are = subst (λ (l : List Made). Each (IsMadeThere s.documents) l) (sym (waiting_same hand s t same)) are.waits

pub home_same : (hand : List Made) (s t : Seen) → SameTold s t → AreEntries hand s → (proc : ProcId) → Each (IsMadeIn s.documents proc) (mades_of (desk_of t proc))
home_same hand s t same are proc = subst (λ (l : List Made). Each (IsMadeIn s.documents proc) l) (sym (same proc)) (are.home proc)
