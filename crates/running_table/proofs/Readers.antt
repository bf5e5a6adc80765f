-- What a change of the documents makes of what is found of each number, and what the table is to say of it.
use Rattle.std.proofs.Common.{◌≡◌, Bool, true, false, cond, ◌&&◌, ◌==◌, List, [], ◌∷◌, ◌++◌, map, Option, Some, None, refl, sym, ap, ◌∙◌, subst}
use Rattle.std.specs.Prelude.{option_and_then, option_map, if◌then◌else◌}
use Rattle.tab_ids.specs.declared.DocId.{DocId}
use Rattle.tab_ids.specs.declared.Epoch.{Epoch}
use Rattle.tab_ids.specs.declared.NavId.{NavId}
use Rattle.log_model.specs.Seen.{Document}
use Rattle.log_model.specs.Views.{View}
use Rattle.log_model.specs.AfterDocuments.{on_document}
use Rattle.seen_laws.proofs.Keyed.{find_map, find_on_other, find_on_same}
use Rattle.running_table.specs.Runners.{RunnersState, Becomes, Keeps, Runs, is_that, nav_at, epoch_at}
use Rattle.running_table.specs.Telling.{AreRunnersOf, found, running_under, there_in, there_of, under_in}
use Rattle.running_table.proofs.Newest.{same_doc}

-- ---- nothing that the table says changes

-- of each number the same is to be said
pub record AreAlike (old new : List Document) : Type 0 where
  pub whose : (doc : DocId) → option_and_then there_of (found new doc) ≡ option_and_then there_of (found old doc)
  pub runs : (nav : NavId) (doc : DocId) → option_and_then (running_under nav) (found new doc) ≡ option_and_then (running_under nav) (found old doc)

pub alike_itself : (documents : List Document) → AreAlike documents documents
alike_itself documents = record { whose = λ doc. refl; runs = λ nav doc. refl }

pub alike_through : (a b c : List Document) → AreAlike a b → AreAlike b c → AreAlike a c
alike_through a b c one two =
    record { whose = λ doc. two.whose doc ∙ one.whose doc; runs = λ nav doc. two.runs nav doc ∙ one.runs nav doc }

-- so the table goes on to say it
pub still_said : (old new : List Document) (t : RunnersState) → AreAlike old new → AreRunnersOf old t → AreRunnersOf new t
still_said old new t alike are =
    record { whose = λ doc. are.whose doc ∙ sym (alike.whose doc); runs = λ nav doc. are.runs nav doc ∙ sym (alike.runs nav doc) }

-- and so does a table that is as before
pub kept_said : (documents : List Document) (t t2 : RunnersState) → Keeps t t2 → AreRunnersOf documents t → AreRunnersOf documents t2
kept_said documents t t2 keeps are =
    record { whose = λ doc. keeps.there doc ∙ are.whose doc; runs = λ nav doc. keeps.runs nav doc ∙ are.runs nav doc }

-- a document's number and navigable stay, and of its view whether it is there, whether it runs and its epoch
pub record IsAs (old new : Document) : Type 0 where
  pub nr : new.nr.0 ≡ old.nr.0
  pub there : there_of new ≡ there_of old
  pub runs : (nav : NavId) → running_under nav new ≡ running_under nav old

-- each document so
pub mapped_alike : (documents : List Document) (g : Document → Document) → ((d : Document) → IsAs d (g d)) → AreAlike documents (map g documents)
mapped_alike documents g is =
    record {
      whose = λ doc. ap (option_and_then there_of) (at doc) ∙ said there_of (λ d. (is d).there) (found documents doc);
      runs = λ nav doc. ap (option_and_then (running_under nav)) (at doc) ∙ said (running_under nav) (λ d. (is d).runs nav) (found documents doc);
    }
  where
    at : (doc : DocId) → found (map g documents) doc ≡ option_map g (found documents doc)
    at doc = find_map (λ (d : Document). d.nr.0) g doc.0 documents (λ d. (is d).nr)

    said : {A : Type 0} (read : Document → Option A) → ((d : Document) → read (g d) ≡ read d) → (o : Option Document) → option_and_then read (option_map g o) ≡ option_and_then read o
    said read same None = refl
    said read same (Some d) = same d

pub as_itself : (d : Document) → IsAs d d
as_itself d = record { nr = refl; there = refl; runs = λ nav. refl }

-- one of them so
pub one_alike : (documents : List Document) (of : DocId) (f : Document → Document) → ((d : Document) → IsAs d (f d)) → AreAlike documents (on_document of f documents)
one_alike documents of f is =
    mapped_alike documents (λ d. if d.nr.0 == of.0 then f d else d) (λ d. by_test d (d.nr.0 == of.0))
  where
    by_test : (d : Document) (b : Bool) → IsAs d (cond b (f d) d)
    by_test d true = is d
    by_test d false = as_itself d

-- ---- one more document

-- that has no view yet
pub joined_alike : (documents : List Document) (new : Document) → new.view ≡ None → AreAlike documents (documents ++ new ∷ [])
joined_alike documents new unseen =
    record {
      whose = said there_of (ap (there_in new.nav) unseen) documents;
      runs = λ nav. said (running_under nav) (ap (under_in new.nav nav) unseen ∙ unseen_under (new.nav.0 == nav.0)) documents;
    }
  where
    unseen_under : (b : Bool) → (if b && false then (let o : Option Epoch = None in o) else None) ≡ None
    unseen_under true = refl
    unseen_under false = refl

    behind : {A : Type 0} (read : Document → Option A) (d : Document) (rest : List Document) (doc : DocId) → option_and_then read (found (rest ++ new ∷ []) doc) ≡ option_and_then read (found rest doc) → option_and_then read (found (d ∷ rest ++ new ∷ []) doc) ≡ option_and_then read (found (d ∷ rest) doc)
    behind read d rest doc more = by_test (d.nr.0 == doc.0)
      where
        by_test : (b : Bool) → option_and_then read (cond b (Some d) (found (rest ++ new ∷ []) doc)) ≡ option_and_then read (cond b (Some d) (found rest doc))
        by_test true = refl
        by_test false = more

    last : {A : Type 0} (read : Document → Option A) → read new ≡ None → (doc : DocId) → option_and_then read (found (new ∷ []) doc) ≡ None
    last read none doc = by_test (new.nr.0 == doc.0)
      where
        by_test : (b : Bool) → option_and_then read (cond b (Some new) None) ≡ None
        by_test true = none
        by_test false = refl

    said : {A : Type 0} (read : Document → Option A) → read new ≡ None → (l : List Document) (doc : DocId) → option_and_then read (found (l ++ new ∷ []) doc) ≡ option_and_then read (found l doc)
    said read none [] doc = last read none doc
    said read none (d ∷ l) doc = behind read d l doc (said read none l doc)

-- ---- one document changes

module _ (documents : List Document) (of : DocId) (f : Document → Document) (keeps : (d : Document) → (f d).nr.0 ≡ d.nr.0) where
  -- what is read of each number
  pub read_on : {A : Type 0} (read : Document → Option A) (doc : DocId) → option_and_then read (found (on_document of f documents) doc) ≡ cond (of.0 == doc.0) (option_and_then (λ (d : Document). read (f d)) (found documents of)) (option_and_then read (found documents doc))
  read_on read doc = by_test (of.0 == doc.0) refl
    where
      by_found : (o : Option Document) → option_and_then read (option_map f o) ≡ option_and_then (λ (d : Document). read (f d)) o
      by_found None = refl
      by_found (Some d) = refl

      own : option_and_then read (found (on_document of f documents) of) ≡ option_and_then (λ (d : Document). read (f d)) (found documents of)
      own =
          ap (option_and_then read) (find_on_same (λ (d : Document). d.nr.0) f of.0 documents keeps)
          ∙ by_found (found documents of)

      by_test : (b : Bool) → (of.0 == doc.0) ≡ b → option_and_then read (found (on_document of f documents) doc) ≡ cond b (option_and_then (λ (d : Document). read (f d)) (found documents of)) (option_and_then read (found documents doc))
      by_test true e =
          subst (λ (x : DocId). option_and_then read (found (on_document of f documents) x) ≡ option_and_then (λ (d : Document). read (f d)) (found documents of)) (same_doc of doc e) own
      by_test false e =
          ap (option_and_then read) (find_on_other (λ (d : Document). d.nr.0) f of.0 doc.0 documents keeps e)

  -- so the table says it, where the navigable of that one becomes what is read of it
  pub whose_on : (t t2 : RunnersState) (nav : Option NavId) → ((doc : DocId) → nav_at t doc ≡ option_and_then there_of (found documents doc)) → option_and_then (λ (d : Document). there_of (f d)) (found documents of) ≡ nav → Becomes of nav t.navs t2.navs → (doc : DocId) → nav_at t2 doc ≡ option_and_then there_of (found (on_document of f documents) doc)
  whose_on t t2 nav are is becomes doc =
      becomes doc
      ∙ (ap (λ (o : Option NavId). cond (of.0 == doc.0) nav o) (are doc)
      ∙ (ap (λ (o : Option NavId). cond (of.0 == doc.0) o (option_and_then there_of (found documents doc))) (sym is) ∙ sym (read_on there_of doc)))

  -- a document that runs, does so in the navigable in which it is there
  not_there : (nav own : NavId) (view : Option View) → is_that (there_in own view) nav ≡ false → under_in own nav view ≡ None
  not_there nav own None e = by_test (own.0 == nav.0)
    where
      by_test : (b : Bool) → (if b && false then (let o : Option Epoch = None in o) else None) ≡ None
      by_test true = refl
      by_test false = refl
  not_there nav own (Some v) e = rw e refl

  -- and where it runs under this epoch in its navigable, or no longer
  pub runs_on : (t t2 : RunnersState) (epoch : Option Epoch) → AreRunnersOf documents t → ((nav : NavId) (d : Document) → running_under nav (f d) ≡ cond (is_that (there_of d) nav) epoch None) → Runs (nav_at t of) of epoch t.running t2.running → (nav : NavId) (doc : DocId) → epoch_at t2 nav doc ≡ option_and_then (running_under nav) (found (on_document of f documents) doc)
  runs_on t t2 epoch are turns runs nav doc =
      runs nav doc ∙ (by_test (of.0 == doc.0) refl ∙ sym (read_on (running_under nav) doc))
    where
      by_that : (d : Document) (b : Bool) → is_that (there_of d) nav ≡ b → cond (b && true) epoch (running_under nav d) ≡ cond b epoch None
      by_that d true e = refl
      by_that d false e = not_there nav d.nav d.view e

      by_found : (o : Option Document) → cond (is_that (option_and_then there_of o) nav && true) epoch (option_and_then (running_under nav) o) ≡ option_and_then (λ (d : Document). running_under nav (f d)) o
      by_found None = refl
      by_found (Some d) = by_that d (is_that (there_of d) nav) refl ∙ sym (turns nav d)

      none_else : (b : Bool) (o : Option Epoch) → cond (b && false) epoch o ≡ o
      none_else true o = refl
      none_else false o = refl

      by_test : (b : Bool) → (of.0 == doc.0) ≡ b → cond (is_that (nav_at t of) nav && b) epoch (epoch_at t nav doc) ≡ cond b (option_and_then (λ (d : Document). running_under nav (f d)) (found documents of)) (option_and_then (running_under nav) (found documents doc))
      by_test true e =
          let at : epoch_at t nav doc ≡ option_and_then (running_under nav) (found documents of) = subst (λ (x : DocId). epoch_at t nav x ≡ option_and_then (running_under nav) (found documents of)) (same_doc of doc e) (are.runs nav of) in
          ap (λ (o : Option Epoch). cond (is_that (nav_at t of) nav && true) epoch o) at
          ∙ (ap (λ (o : Option NavId). cond (is_that o nav && true) epoch (option_and_then (running_under nav) (found documents of))) (are.whose of)
          ∙ by_found (found documents of))
      by_test false e = none_else (is_that (nav_at t of) nav) (epoch_at t nav doc) ∙ are.runs nav doc
