-- A table that is told of what rows discarded: each check stays in it, a settled one as it was, and whichever document it notes wanted a prompt before.
use Rattle.check_facts.proofs.Tables.{check_dead}
use Rattle.check_facts.specs.Prompting.{prompt_of}
use Rattle.checking_facts.specs.Prompts.{Told, discarded_by, tell_for, tell_row, told_all, told_by}
use Rattle.log_model.proofs.Refl.{nat_eq_refl}
use Rattle.log_model.specs.declared.row_kind.RowKind.{RowKind}
use Rattle.std.proofs.Common.{Bool, List, None, Option, Some, [], ap, cond, false, map, not, refl, subst, sym, true, ◌&&◌, ◌==◌, ◌||◌, ◌∙◌, ◌∷◌, ◌≡◌}
use Rattle.std.specs.List.{list_any}
use Rattle.std.specs.Prelude.{fold, if◌then◌else◌, nat_lt, option_map}
use Rattle.tab_ids.specs.declared.DocId.{DocId}
use Rattle.tab_ids.specs.declared.ReqId.{ReqId}
use Rattle.tab_prompts.specs.Asking.{told_all}
use Rattle.unload_check.specs.Checks as table
use Rattle.unload_check.specs.Checks.{OpenCheck, after_all_deaths, check_of, is_settled, outcome_of}
use Rattle.unload_check.specs.declared.asked_doc.AskedDoc.{AskedDoc}
use Rattle.unload_check.specs.declared.check.Check.TheVariants as checks

some_same : {A : Type 0} {a b : A} → (let o : Option A = Some a in o) ≡ Some b → a ≡ b
some_same is = cc

-- ---- one check

-- of these documents this one answered that it wants a prompt
abbrev pub wants_in : DocId → List AskedDoc → Bool
wants_in doc asked = list_any (λ (a : AskedDoc). a.doc.0 == doc.0 && table.is_prompt a.verdict) asked

-- a check before it was told of documents that went, and after: one that is settled stays, and no other document wants a prompt
pub record Goes (c d : OpenCheck) : Type 0 where
  pub stays : is_settled c ≡ true → d ≡ c
  pub wants : (doc : DocId) → wants_in doc d.asked ≡ true → wants_in doc c.asked ≡ true

goes_same : (c : OpenCheck) → Goes c c
goes_same c = record { stays = λ is. refl; wants = λ doc is. is }

goes_then : (c d e : OpenCheck) → Goes c d → Goes d e → Goes c e
goes_then c d e one two =
    record {
      stays = λ is. (let same : d ≡ c = one.stays is in two.stays (ap is_settled same ∙ is) ∙ same);
      wants = λ doc is. one.wants doc (two.wants doc is);
    }

dead_wants : (docs : List DocId) (doc : DocId) (asked : List AskedDoc) → wants_in doc (map (table.dead_doc docs) asked) ≡ wants_in doc asked
dead_wants docs doc [] = refl
dead_wants docs doc (a ∷ asked) = by_test (list_any (table.is_doc a.doc) docs) (dead_wants docs doc asked)
  where
    by_test : (b : Bool) → wants_in doc (map (table.dead_doc docs) asked) ≡ wants_in doc asked → (let one : AskedDoc = (if b then record a { died = true } else a) in (one.doc.0 == doc.0 && table.is_prompt one.verdict) || wants_in doc (map (table.dead_doc docs) asked)) ≡ wants_in doc (a ∷ asked)
    by_test true rest = ap (λ (r : Bool). (a.doc.0 == doc.0 && table.is_prompt a.verdict) || r) rest
    by_test false rest = ap (λ (r : Bool). (a.doc.0 == doc.0 && table.is_prompt a.verdict) || r) rest

goes_dead : (docs : List DocId) (c : OpenCheck) → Goes c (table.after_deaths docs c)
goes_dead docs c = by_test (is_settled c) refl
  where
    by_test : (b : Bool) → is_settled c ≡ b → Goes c (if b then c else record c { asked = map (table.dead_doc docs) c.asked })
    by_test true e = goes_same c
    by_test false e =
        record {
          stays = λ is. (let never : true ≡ false = sym is ∙ e in absurd cc);
          wants = λ doc is. sym (dead_wants docs doc c.asked) ∙ is;
        }

-- ---- the checks of all

-- each request has a check, or none, as before
abbrev pub GoesAt : Option OpenCheck → Option OpenCheck → Type 0
GoesAt None d = d ≡ None
GoesAt (Some c) d = (x : OpenCheck) × (d ≡ Some x) × Goes c x

at_same : (o : Option OpenCheck) → GoesAt o o
at_same None = refl
at_same (Some c) = (c, refl, goes_same c)

at_dead : (docs : List DocId) (o p : Option OpenCheck) → GoesAt o p → GoesAt o (option_map (table.after_deaths docs) p)
at_dead docs None p is = ap (λ (x : Option OpenCheck). option_map (table.after_deaths docs) x) is
at_dead docs (Some c) p is =
    (table.after_deaths docs is.0, ap (λ (x : Option OpenCheck). option_map (table.after_deaths docs) x) is.1, goes_then c is.0 (table.after_deaths docs is.0) is.2 (goes_dead docs is.0))

module _ (ran : List DocId) (es : List (ReqId × OpenCheck)) (req : ReqId) where
  abbrev Its : List (ReqId × OpenCheck) → Type 0
  Its now = GoesAt (check_of req es) (check_of req now)

  its_dead : (docs : List DocId) (now : List (ReqId × OpenCheck)) → Its now → Its (after_all_deaths docs now)
  its_dead docs now is =
      subst (λ (o : Option OpenCheck). GoesAt (check_of req es) o) (sym (check_dead req docs now)) (at_dead docs (check_of req es) (check_of req now) is)

  its_row : (told : Told) (kind : RowKind) → Its told.checks → Its (tell_row told kind).checks
  its_row told kind is = by_discard (discarded_by kind)
    where
      by_discard : (o : Option DocId) → Its (tell_for told o).checks
      by_discard (Some doc) = is
      by_discard None = its_dead told.run told.checks is

  its_rows : (told : Told) (out : List RowKind) → Its told.checks → Its (fold tell_row told out).checks
  its_rows told [] is = is
  its_rows told (kind ∷ out) is = its_rows (tell_row told kind) out (its_row told kind is)

  -- told of each run that a row ended
  pub goes_ended : (out : List RowKind) → GoesAt (check_of req es) (check_of req (told_by ran es out).checks)
  goes_ended out = its_rows (record { checks = es; run = ran }) out (at_same (check_of req es))

  -- told of all that the rows discarded
  pub goes_told : (out : List RowKind) → GoesAt (check_of req es) (check_of req (told_all ran es out))
  goes_told out =
      let then_ : Told = fold tell_row (record { checks = es; run = ran }) out in
      its_dead then_.run then_.checks (its_rows (record { checks = es; run = ran }) out (at_same (check_of req es)))

-- ---- what a check notes

-- the document that it notes wants it
abbrev Found : DocId → List AskedDoc → Type 0
Found doc asked = (best : Option DocId) → fold table.lowest_prompting best asked ≡ Some doc → (best ≡ Some doc → wants_in doc asked ≡ true) → wants_in doc asked ≡ true

and_both : (a b : Bool) → a ≡ true → b ≡ true → (a && b) ≡ true
and_both true true is its = refl
and_both true false is its = its
and_both false b is its = is

or_left : (a b : Bool) → a ≡ true → (a || b) ≡ true
or_left true b is = refl
or_left false b is = absurd cc

or_right : (a b : Bool) → b ≡ true → (a || b) ≡ true
or_right true b is = refl
or_right false b is = is

found_more : (doc : DocId) (a : AskedDoc) (asked : List AskedDoc) → Found doc asked → Found doc (a ∷ asked)
found_more doc a asked rest best is was = by_wants (table.wants_prompt a) refl is
  where
    first : Bool
    first = a.doc.0 == doc.0 && table.is_prompt a.verdict

    its_verdict : table.wants_prompt a ≡ true → table.is_prompt a.verdict ≡ true
    its_verdict is = by_parts (table.is_prompt a.verdict) (not a.died) is
      where
        by_parts : (b c : Bool) → (b && c) ≡ true → b ≡ true
        by_parts true c e = refl
        by_parts false c e = e

    itself : table.wants_prompt a ≡ true → a.doc ≡ doc → (first || wants_in doc asked) ≡ true
    itself wants same =
        or_left first (wants_in doc asked) (and_both (a.doc.0 == doc.0) (table.is_prompt a.verdict) (subst (λ (d : DocId). (a.doc.0 == d.0) ≡ true) same (nat_eq_refl a.doc.0)) (its_verdict wants))

    -- what was found before is it, or stands in the rest
    later : (next : Option DocId) → fold table.lowest_prompting next asked ≡ Some doc → (next ≡ Some doc → (first || wants_in doc asked) ≡ true) → (first || wants_in doc asked) ≡ true
    later next is_ before = by_head first (rest next is_) before
      where
        by_head : (h : Bool) → ((next ≡ Some doc → wants_in doc asked ≡ true) → wants_in doc asked ≡ true) → (next ≡ Some doc → (h || wants_in doc asked) ≡ true) → (h || wants_in doc asked) ≡ true
        by_head true more f = refl
        by_head false more f = more f

    by_wants : (b : Bool) → table.wants_prompt a ≡ b → fold table.lowest_prompting (if b then Some (table.lower_doc best a.doc) else best) asked ≡ Some doc → (first || wants_in doc asked) ≡ true
    by_wants true e is_ = later (Some (table.lower_doc best a.doc)) is_ (lowest best was)
      where
        lowest : (b : Option DocId) → (b ≡ Some doc → (first || wants_in doc asked) ≡ true) → (let o : Option DocId = Some (table.lower_doc b a.doc) in o) ≡ Some doc → (first || wants_in doc asked) ≡ true
        lowest None f at = itself e (some_same at)
        lowest (Some low) f at = by_less (nat_lt a.doc.0 low.0) at
          where
            by_less : (l : Bool) → (let o : Option DocId = Some (if l then a.doc else low) in o) ≡ Some doc → (first || wants_in doc asked) ≡ true
            by_less true at_ = itself e (some_same at_)
            by_less false at_ = f at_
    by_wants false e is_ = later best is_ was

found : (doc : DocId) (asked : List AskedDoc) → Found doc asked
found doc [] best is was = was is
found doc (a ∷ asked) best is was = found_more doc a asked (found doc asked) best is was

prompt_decided : (lowest : Option DocId) (stay : Option Bool) (doc : DocId) → prompt_of (table.decided lowest stay) ≡ Some doc → lowest ≡ Some doc
prompt_decided None stay doc is = absurd cc
prompt_decided (Some d) None doc is = is
prompt_decided (Some d) (Some true) doc is = absurd cc
prompt_decided (Some d) (Some false) doc is = absurd cc

-- a check that notes a prompt is settled, and its document wants it
pub noted_in : (c : OpenCheck) (doc : DocId) → prompt_of (outcome_of c) ≡ Some doc → (is_settled c ≡ true) × (wants_in doc c.asked ≡ true)
noted_in c doc is = by_settled (is_settled c) refl is
  where
    by_settled : (b : Bool) → is_settled c ≡ b → prompt_of (cond b (table.decided (table.prompting_doc c.asked) c.stay) checks.Waiting) ≡ Some doc → (is_settled c ≡ true) × (wants_in doc c.asked ≡ true)
    by_settled true e at = (e, found doc c.asked None (prompt_decided (table.prompting_doc c.asked) c.stay doc at) (λ none. absurd cc))
    by_settled false e at = absurd cc
