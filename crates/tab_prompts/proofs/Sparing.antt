-- What comes later agrees with what the table noted last, where it spares the documents for whose sake the user is asked: a document is gone only by a row that discards it. And which rows spare them.
use Rattle.check_facts.proofs.Gones.{run_gone}
use Rattle.check_facts.proofs.Notings.{ran_more}
use Rattle.check_facts.specs.Prompting.{Agrees, AgreesNow, none_ran, run_end, todo_of}
use Rattle.checking_facts.specs.Prompts.{discarded_by}
use Rattle.log_model.proofs.Refl.{nat_eq_refl}
use Rattle.log_model.specs.After.{after}
use Rattle.log_model.specs.Checks.{due_prompt, is_of_run}
use Rattle.log_model.specs.Equal.{has_doc, holds}
use Rattle.log_model.specs.Places.{is_gone}
use Rattle.log_model.specs.Seen.{Document, Seen, document_of}
use Rattle.log_model.specs.declared.job.Job.{Job}
use Rattle.log_model.specs.declared.job.Task.TheVariants as tasks
use Rattle.log_model.specs.declared.job.Task.{Task}
use Rattle.log_model.specs.declared.row_kind.Actor.{Actor}
use Rattle.log_model.specs.declared.row_kind.LogRow.{LogRow}
use Rattle.log_model.specs.declared.row_kind.RowKind.TheVariants as rows
use Rattle.log_model.specs.declared.row_kind.RowKind.{RowKind}
use Rattle.seen_facts.proofs.Walk.Aims.{is_away}
use Rattle.seen_facts.specs.Hang.Members.{Has}
use Rattle.seen_laws.proofs.Keyed.{find_has, find_map}
use Rattle.seen_laws.specs.InEvent.{InEvent, row_of}
use Rattle.std.proofs.Common.{Bool, List, None, Option, Some, [], ap, arith, cond, false, inl, inr, map, not, refl, subst, sym, true, ℕ, ◌&&◌, ◌++◌, ◌==◌, ◌||◌, ◌∙◌, ◌∷◌, ◌≡◌}
use Rattle.std.proofs.lemmas.Bool.Decides.{nat_tests}
use Rattle.std.proofs.lemmas.Bool.{and_parts}
use Rattle.std.proofs.lemmas.List.Sums.{take_while-cons}
use Rattle.std.specs.List.{list_all}
use Rattle.std.specs.Option.{option_map_or}
use Rattle.std.specs.Prelude.{filter_map, find, fold, is_none, is_some, option_map, take_while}
use Rattle.tab_ids.specs.declared.DocId.{DocId}
use Rattle.tab_ids.specs.declared.ReqId.{ReqId}
use Rattle.tab_prompts.proofs.Lowest.{due_stays, due_there}
use Rattle.tab_prompts.specs.Sparing.{discards_one, new_note, new_notes, spares}
use Rattle.unload_check.specs.Checks.{OpenCheck, check_of, is_req}

-- ---- a document goes only by a row that discards it

module _ (s : Seen) (event : ℕ) (actor : Actor) (job : Job) (task : job.task ≡ tasks.Discard) where
  abbrev gone_then : Seen
  gone_then = after s (record { event = event; actor = actor; row = rows.Sent job })

  abbrev discarded : Document → Document
  discarded x = cond (x.nr.0 == job.doc.0) (record x { is_discarded = true }) x

  gone_apart : (doc : DocId) → (job.doc.0 == doc.0) ≡ false → is_gone gone_then doc ≡ is_gone s doc
  gone_apart doc apart =
      ap (λ (docs : List Document). holds is_away (find (λ (x : Document). x.nr.0 == doc.0) docs)) (rw task refl)
      ∙ ap (holds is_away) (find_map (λ (x : Document). x.nr.0) discarded doc.0 s.documents number)
      ∙ by_found (document_of s doc) refl
    where
      number : (x : Document) → (discarded x).nr.0 ≡ x.nr.0
      number x = by_test (x.nr.0 == job.doc.0)
        where
          by_test : (b : Bool) → (let y : Document = cond b (record x { is_discarded = true }) x in y).nr.0 ≡ x.nr.0
          by_test true = refl
          by_test false = refl

      by_found : (o : Option Document) → document_of s doc ≡ o → holds is_away (option_map discarded o) ≡ holds is_away o
      by_found None at = refl
      by_found (Some x) at =
          let own : x.nr.0 ≡ doc.0 = find_has (λ (y : Document). y.nr.0) doc.0 s.documents x at in
          let its : (x.nr.0 == job.doc.0) ≡ false = grind (arith, nat_tests, apart, own) in
          rw its refl

none_of : (a b : Bool) → (a || b) ≡ false → (a ≡ false) × (b ≡ false)
none_of true b is = cc
none_of false b is = (refl, is)

doc_same : (a b : DocId) → (a.0 == b.0) ≡ true → a ≡ b
doc_same a b is =
    let n : a.0 ≡ b.0 = grind (arith, nat_tests, is) in ap (λ (i : ℕ). let x : DocId = record { 0 = i } in x) n

-- whoever isn't among these is another
apart_of : (docs : List DocId) (doc other : DocId) → has_doc docs doc ≡ true → has_doc docs other ≡ false → (other.0 == doc.0) ≡ false
apart_of docs doc other has out = by_test (other.0 == doc.0) refl
  where
    by_test : (b : Bool) → (other.0 == doc.0) ≡ b → b ≡ false
    by_test false is = refl
    by_test true is = (let never : true ≡ false = sym has ∙ sym (ap (has_doc docs) (doc_same other doc is)) ∙ out in absurd cc)

module _ (docs : List DocId) (doc : DocId) (has : has_doc docs doc ≡ true) where
  row_spares : (s : Seen) (event : ℕ) (actor : Actor) (kind : RowKind) → is_of_run (record { event = event; actor = actor; row = kind }) ≡ true → not (discards_one docs (record { event = event; actor = actor; row = kind })) ≡ true → is_gone s doc ≡ false → is_gone (after s (record { event = event; actor = actor; row = kind })) doc ≡ false
  row_spares s event actor (rows.Prompted req other) runs off there = there
  row_spares s event actor (rows.Sent job) runs off there = by_task job.task refl
    where
      row : LogRow
      row = record { event = event; actor = actor; row = rows.Sent job }

      out_of : (b : Bool) → not b ≡ true → b ≡ false
      out_of false is = refl
      out_of true is = absurd cc

      never : is_of_run row ≡ false → is_gone (after s row) doc ≡ false
      never none = (let no : true ≡ false = sym runs ∙ none in absurd cc)

      by_task : (task : Task) → job.task ≡ task → is_gone (after s row) doc ≡ false
      by_task tasks.Discard is =
          let named : discarded_by (rows.Sent job) ≡ Some job.doc = rw is refl in
          let off_ : has_doc docs job.doc ≡ false = out_of (has_doc docs job.doc) (sym (ap (λ (o : Option DocId). not (option_map_or (has_doc docs) o false)) named) ∙ off) in
          gone_apart s event actor job is doc (apart_of docs doc job.doc has off_) ∙ there
      by_task (tasks.Populate nav state address initial) is = never (rw is refl)
      by_task (tasks.Activate entry epoch length index memo address) is = never (rw is refl)
      by_task (tasks.Update length index) is = never (rw is refl)
      by_task (tasks.Ask slot cause) is = never (rw is refl)
      by_task (tasks.DoFragment req mode address) is = never (rw is refl)
      by_task tasks.Freeze is = never (rw is refl)
  row_spares s event actor _ runs off there = absurd (let never : false ≡ true = runs in cc)

  -- so one that is there is so where the run ends
  run_spares : (s : Seen) (later : List LogRow) → spares docs later ≡ true → is_gone s doc ≡ false → is_gone (run_end s later) doc ≡ false
  run_spares s [] spared there = there
  run_spares s (row ∷ later) spared there =
      subst (λ (l : List LogRow). is_gone (fold after s l) doc ≡ false) (sym (take_while-cons is_of_run row later)) (by_test (is_of_run row) refl (subst (λ (l : List LogRow). list_all (λ (r : LogRow). not (discards_one docs r)) l ≡ true) (take_while-cons is_of_run row later) spared) (run_spares (after s row) later))
    where
      by_test : (b : Bool) → is_of_run row ≡ b → list_all (λ (r : LogRow). not (discards_one docs r)) (cond b (row ∷ take_while is_of_run later) []) ≡ true → (spares docs later ≡ true → is_gone (after s row) doc ≡ false → is_gone (run_end (after s row) later) doc ≡ false) → is_gone (fold after s (cond b (row ∷ take_while is_of_run later) [])) doc ≡ false
      by_test true runs spared_ more =
          let parts = and_parts (not (discards_one docs row)) (spares docs later) spared_ in
          more parts.1 (row_spares s row.event row.actor row.row runs parts.0 there)
      by_test false ends spared_ more = there

-- ---- the documents of what was noted last

or_true : (b : Bool) → (b || true) ≡ true
or_true true = refl
or_true false = refl

req_same : (a b : ReqId) → (a.0 == b.0) ≡ true → a ≡ b
req_same a b is =
    let n : a.0 ≡ b.0 = grind (arith, nat_tests, is) in ap (λ (i : ℕ). let x : ReqId = record { 0 = i } in x) n

-- what is noted of a request with a check is among what is noted of all
has_noted : (f : ReqId → Option DocId) (req : ReqId) (doc : DocId) (c : OpenCheck) (table : List (ReqId × OpenCheck)) → check_of req table ≡ Some c → f req ≡ Some doc → has_doc (filter_map (λ (check : ReqId × OpenCheck). f check.0) table) doc ≡ true
has_noted f req doc c [] found is = absurd cc
has_noted f req doc c (first ∷ table) found is =
    by_test (is_req req first.0) refl found (λ at. has_noted f req doc c table at is)
  where
    by_note : (o : Option DocId) → f first.0 ≡ o → has_doc (filter_map (λ (check : ReqId × OpenCheck). f check.0) table) doc ≡ true → has_doc (filter_map (λ (check : ReqId × OpenCheck). f check.0) (first ∷ table)) doc ≡ true
    by_note None none rest = rw none rest
    by_note (Some other) some rest = rw some (rw rest (or_true (other.0 == doc.0)))

    by_test : (b : Bool) → is_req req first.0 ≡ b → cond b (Some first.1) (check_of req table) ≡ Some c → (check_of req table ≡ Some c → has_doc (filter_map (λ (check : ReqId × OpenCheck). f check.0) table) doc ≡ true) → has_doc (filter_map (λ (check : ReqId × OpenCheck). f check.0) (first ∷ table)) doc ≡ true
    by_test true same at rest =
        let its : f first.0 ≡ Some doc = ap f (sym (req_same req first.0 same)) ∙ is in
        rw its (rw (nat_eq_refl doc.0) refl)
    by_test false apart at rest = by_note (f first.0) refl (rest at)

-- the requests of which a note is new
new_of : (before then_ : List (ReqId × OpenCheck)) (req : ReqId) (doc : DocId) → ran_more none_ran (todo_of before) (todo_of then_) req ≡ true → todo_of then_ req ≡ Some doc → has_doc (new_notes before then_) doc ≡ true
new_of before then_ req doc ran notes = by_check (check_of req then_) refl
  where
    first_of : (a b : Bool) → (a && b) ≡ true → a ≡ true
    first_of true b is = refl
    first_of false b is = absurd cc

    fresh : is_none (todo_of before req) ≡ true
    fresh = first_of (is_none (todo_of before req)) (is_some (todo_of then_ req)) ran

    is_new : new_note before then_ req ≡ Some doc
    is_new = rw (fresh, notes) refl

    by_check : (o : Option OpenCheck) → check_of req then_ ≡ o → has_doc (new_notes before then_) doc ≡ true
    by_check (Some c) has = has_noted (new_note before then_) req doc c then_ has is_new
    by_check None none =
        let nothing : todo_of then_ req ≡ None = rw none refl in
        let both : (let o : Option DocId = None in o) ≡ Some doc = sym nothing ∙ notes in
        absurd cc

-- ---- what spares them agrees

pub agrees_spared : (before then_ : List (ReqId × OpenCheck)) (now : Seen) (later : List LogRow) → AgreesNow (todo_of then_) (ran_more none_ran (todo_of before) (todo_of then_)) now → spares (new_notes before then_) later ≡ true → Agrees (todo_of then_) (ran_more none_ran (todo_of before) (todo_of then_)) now later
agrees_spared before then_ now later agrees spared req q at ran = by_todo (todo_of then_ req) refl
  where
    second_of : (a b : Bool) → (a && b) ≡ true → b ≡ true
    second_of true b is = is
    second_of false b is = absurd cc

    by_todo : (o : Option DocId) → todo_of then_ req ≡ o → due_prompt (run_end now later) q ≡ todo_of then_ req
    by_todo None none =
        let never : is_some (todo_of then_ req) ≡ true = second_of (is_none (todo_of before req)) (is_some (todo_of then_ req)) ran in
        let no : false ≡ true = sym (ap (λ (o : Option DocId). is_some o) none) ∙ never in
        absurd cc
    by_todo (Some doc) some =
        let due : due_prompt now q ≡ Some doc = agrees req q at ran ∙ some in
        due_stays now (run_end now later) q doc (run_gone now later) (run_spares (new_notes before then_) doc (new_of before then_ req doc ran some) now later spared (due_there now q doc due)) due ∙ sym some

-- ---- which rows spare them

-- none
pub spares_none : (docs : List DocId) → spares docs [] ≡ true
spares_none docs = refl

module _ (docs : List DocId) where
  -- one row more in front, which is of the run, or ends it
  front_spares : (row : LogRow) (later : List LogRow) → discards_one docs row ≡ false → spares docs later ≡ true → spares docs (row ∷ later) ≡ true
  front_spares row later off spared =
      subst (λ (l : List LogRow). list_all (λ (r : LogRow). not (discards_one docs r)) l ≡ true) (sym (take_while-cons is_of_run row later)) (by_test (is_of_run row))
    where
      by_test : (b : Bool) → list_all (λ (r : LogRow). not (discards_one docs r)) (cond b (row ∷ take_while is_of_run later) []) ≡ true
      by_test true = rw off spared
      by_test false = refl

  -- those of which none discards one of these documents
  pub spares_each : (later : List LogRow) → ((row : LogRow) → Has later row → discards_one docs row ≡ false) → spares docs later ≡ true
  spares_each [] each = refl
  spares_each (row ∷ later) each =
      front_spares row later (each row (inl refl)) (spares_each later (λ r there. each r (inr there)))

  -- or any document
  pub spares_quiet : (later : List LogRow) → ((row : LogRow) → Has later row → discarded_by row.row ≡ None) → spares docs later ≡ true
  spares_quiet later quiet =
      spares_each later (λ row has. ap (λ (o : Option DocId). option_map_or (has_doc docs) o false) (quiet row has))

  -- so it is of the rows of an event
  pub spares_put : (e : InEvent) (out : List RowKind) → ((kind : RowKind) → Has out kind → discards_one docs (row_of e kind) ≡ false) → spares docs (map (row_of e) out) ≡ true
  spares_put e [] each = refl
  spares_put e (kind ∷ out) each =
      front_spares (row_of e kind) (map (row_of e) out) (each kind (inl refl)) (spares_put e out (λ k there. each k (inr there)))

  -- such rows, and more such behind them
  pub spares_both : (was more : List LogRow) → spares docs was ≡ true → spares docs more ≡ true → spares docs (was ++ more) ≡ true
  spares_both [] more first_ then_ = then_
  spares_both (first ∷ was) more first_ then_ =
      subst (λ (l : List LogRow). list_all (λ (r : LogRow). not (discards_one docs r)) l ≡ true) (sym (take_while-cons is_of_run first (was ++ more))) (by_test (is_of_run first) refl (subst (λ (l : List LogRow). list_all (λ (r : LogRow). not (discards_one docs r)) l ≡ true) (take_while-cons is_of_run first was) first_) (λ spared. spares_both was more spared then_))
    where
      by_test : (b : Bool) → is_of_run first ≡ b → list_all (λ (r : LogRow). not (discards_one docs r)) (cond b (first ∷ take_while is_of_run was) []) ≡ true → (spares docs was ≡ true → spares docs (was ++ more) ≡ true) → list_all (λ (r : LogRow). not (discards_one docs r)) (cond b (first ∷ take_while is_of_run (was ++ more)) []) ≡ true
      by_test false is spared rest = refl
      by_test true is spared rest =
          let parts = and_parts (not (discards_one docs first)) (spares docs was) spared in
          rw (parts.0, rest parts.1) refl

  -- and whatever comes once a row has ended the run
  pub spares_ended : (was : List LogRow) (row : LogRow) (later : List LogRow) → is_of_run row ≡ false → spares docs was ≡ true → spares docs (was ++ row ∷ later) ≡ true
  spares_ended [] row later ends spared =
      subst (λ (l : List LogRow). list_all (λ (r : LogRow). not (discards_one docs r)) l ≡ true) (sym (take_while-cons is_of_run row later ∙ ap (λ (b : Bool). cond b (row ∷ take_while is_of_run later) []) ends)) refl
  spares_ended (first ∷ was) row later ends spared =
      subst (λ (l : List LogRow). list_all (λ (r : LogRow). not (discards_one docs r)) l ≡ true) (sym (take_while-cons is_of_run first (was ++ row ∷ later))) (by_test (is_of_run first) refl (subst (λ (l : List LogRow). list_all (λ (r : LogRow). not (discards_one docs r)) l ≡ true) (take_while-cons is_of_run first was) spared) (spares_ended was row later ends))
    where
      by_test : (b : Bool) → is_of_run first ≡ b → list_all (λ (r : LogRow). not (discards_one docs r)) (cond b (first ∷ take_while is_of_run was) []) ≡ true → (spares docs was ≡ true → spares docs (was ++ row ∷ later) ≡ true) → list_all (λ (r : LogRow). not (discards_one docs r)) (cond b (first ∷ take_while is_of_run (was ++ row ∷ later)) []) ≡ true
      by_test false is spared_ rest = refl
      by_test true is spared_ rest =
          let parts = and_parts (not (discards_one docs first)) (spares docs was) spared_ in
          rw (parts.0, rest parts.1) refl

-- any, where nothing was noted
pub spares_any : (later : List LogRow) → spares [] later ≡ true
spares_any [] = refl
spares_any (row ∷ later) =
    front_spares [] row later (by_document (discarded_by row.row)) (spares_any later)
  where
    by_document : (o : Option DocId) → option_map_or (has_doc []) o false ≡ false
    by_document None = refl
    by_document (Some doc) = refl

-- so it is where no note is new
notes_none : (f : ReqId → Option DocId) (table : List (ReqId × OpenCheck)) → ((req : ReqId) → f req ≡ None) → filter_map (λ (check : ReqId × OpenCheck). f check.0) table ≡ []
notes_none f [] none = refl
notes_none f (first ∷ table) none = rw (none first.0) (notes_none f table none)

pub new_none : (before then_ : List (ReqId × OpenCheck)) → ((req : ReqId) → ran_more none_ran (todo_of before) (todo_of then_) req ≡ false) → new_notes before then_ ≡ []
new_none before then_ quiet = notes_none (new_note before then_) then_ (λ req. by_todo req (todo_of before req) refl (todo_of then_ req) refl)
  where
    by_todo : (req : ReqId) (o : Option DocId) → todo_of before req ≡ o → (n : Option DocId) → todo_of then_ req ≡ n → new_note before then_ req ≡ None
    by_todo req (Some doc) was n is = rw was refl
    by_todo req None was None is = rw (was, is) refl
    by_todo req None was (Some doc) is =
        let ran : ran_more none_ran (todo_of before) (todo_of then_) req ≡ true = rw (was, is) refl in
        let never : true ≡ false = sym ran ∙ quiet req in
        absurd cc
