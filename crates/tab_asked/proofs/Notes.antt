-- Whichever document a table notes before it is told of a run wanted a prompt, where each check that is settled then has its prompt up.
use Rattle.asking_facts.proofs.Closing.{has_checks}
use Rattle.asking_facts.proofs.Notes.{between_notes}
use Rattle.asking_facts.specs.Noting.{IsAllTied}
use Rattle.asking_facts.specs.Prompting.{AllWanted, NotesWanted}
use Rattle.check_facts.proofs.Tables.{check_dead}
use Rattle.check_facts.specs.Prompting.{prompt_of, todo_of}
use Rattle.checking_facts.specs.Prompts.{AreAskedDuly, Told}
use Rattle.log_model.specs.Seen.{Seen}
use Rattle.std.proofs.Common.{Bool, List, None, Option, Some, ap, false, refl, sym, true, ◌∙◌, ◌≡◌}
use Rattle.std.specs.Prelude.{option_and_then, option_map}
use Rattle.tab_ids.specs.declared.DocId.{DocId}
use Rattle.tab_ids.specs.declared.ReqId.{ReqId}
use Rattle.unload_check.specs.Checks.{OpenCheck, after_all_deaths, after_deaths, check_of, is_settled, outcome_of}

-- what a check notes
abbrev note_of : Option OpenCheck → Option DocId
note_of o = option_and_then prompt_of (option_map outcome_of o)

-- what a table notes it notes once it was told of a run, too
note_stays : (req : ReqId) (run : List DocId) (table : List (ReqId × OpenCheck)) (doc : DocId) → todo_of table req ≡ Some doc → todo_of (after_all_deaths run table) req ≡ Some doc
note_stays req run table doc notes = ap note_of (check_dead req run table) ∙ by_check (check_of req table) notes
  where
    by_settled : (c : OpenCheck) (b : Bool) → is_settled c ≡ b → note_of (Some c) ≡ Some doc → note_of (Some (after_deaths run c)) ≡ Some doc
    by_settled c true settled is =
        let same : after_deaths run c ≡ c = rw settled refl in
        ap (λ (x : OpenCheck). note_of (Some x)) same ∙ is
    by_settled c false open_ is =
        let none : note_of (Some c) ≡ None = rw open_ refl in
        let never : (let o : Option DocId = None in o) ≡ Some doc = sym none ∙ is in
        absurd cc

    by_check : (o : Option OpenCheck) → note_of o ≡ Some doc → note_of (option_map (after_deaths run) o) ≡ Some doc
    by_check None is = absurd cc
    by_check (Some c) is = by_settled c (is_settled c) refl is

pub all_noted : (checking : ReqId → Bool) (start now : Seen) (told : Told) → AreAskedDuly checking start now told → IsAllTied now (after_all_deaths told.run told.checks) → AllWanted now → NotesWanted now told.checks
all_noted checking start now told asked settled wanted req q at doc notes =
    between_notes now (after_all_deaths told.run told.checks) (has_checks checking start now told asked settled) wanted req q at doc (note_stays req told.run told.checks doc notes)
