-- What a word may stand for. More words are taken here than a line may have: a row that was read is printed, and only a line that is the same spells it.
-- This project's own.
use Rattle.std.specs.Prelude.{ℕ, ℤ, pos, neg_ℤ, ◌==◌, ◌&&◌, not, Bool, true, false, nat_le, List, [], ◌∷◌, length, codes, bytes_eq, Option, Some, None, Result, Ok, Err, if◌then◌else◌}
use Rattle.std.specs.List.{list_all}
use Rattle.std.specs.Char.{is_ascii_digit}
use Rattle.std.specs.Str.Parse.{digits_value}
use Rattle.tab_ids.specs.declared.NavId.{NavId}
use Rattle.tab_ids.specs.declared.StateId.{StateId}
use Rattle.tab_ids.specs.declared.ReqId.{ReqId}
use Rattle.tab_ids.specs.declared.ProcId.{ProcId}
use Rattle.tab_ids.specs.declared.Step.{Step}
use Rattle.tab_ids.specs.declared.Death.{Death}
use Rattle.tab_ids.specs.declared.DocId.{DocId}
use Rattle.tab_ids.specs.declared.JobId.{JobId}
use Rattle.tab_ids.specs.declared.Epoch.{Epoch}
use Rattle.tab_ids.specs.declared.EntryId.{EntryId}
use Rattle.address.specs.Addresses.{Fault, address_of}
use Rattle.log_model.specs.declared.handler.LeaveCause.{LeaveCause}
use Rattle.log_model.specs.declared.handler.LeaveCause.TheVariants as leaves
use Rattle.log_model.specs.declared.job.Why.{Why}
use Rattle.log_model.specs.declared.job.Why.TheVariants as whys
use Rattle.log_model.specs.declared.outcome.Denial.{Denial}
use Rattle.log_model.specs.declared.outcome.Denial.TheVariants as denials
use Rattle.log_model.specs.declared.request.Mode.{Mode}
use Rattle.log_model.specs.declared.request.Mode.TheVariants as modes
use Rattle.log_model.specs.declared.row_kind.Actor.{Actor}
use Rattle.log_model.specs.declared.row_kind.Actor.TheVariants as actors
use Rattle.log_text.specs.Spellings.{dash}
use Rattle.log_reading.specs.Chain.{◌>>=◌}
use Rattle.log_reading.specs.Readable.{is_word_byte}
use Rattle.log_reading.specs.Words.{before, after}

-- ---- numbers

-- the number that digits write, up to the greatest of its type
unfoldable pub number_of : ℕ → List ℕ → Option ℕ
number_of greatest word = if list_all is_ascii_digit word && nat_le (digits_value 10 word) greatest then Some (digits_value 10 word) else None

abbrev pub small_of : List ℕ → Option ℕ
small_of word = number_of 255 word

abbrev pub plain_of : List ℕ → Option ℕ
plain_of word = number_of 4294967295 word

abbrev pub large_of : List ℕ → Option ℕ
large_of word = number_of 18446744073709551615 word

-- a number after the letter of what it names
abbrev pub named_of : ℕ → ℕ → List ℕ → Option ℕ
named_of letter greatest [] = None
named_of letter greatest (b ∷ word) = if b == letter then number_of greatest word else None

-- ---- numbers that name things

-- a navigable by its number alone, as in the line of a scenario
unfoldable pub plain_nav_of : List ℕ → Option NavId
plain_nav_of word = plain_of word >>= λ nav. Some (record { 0 = nav })

unfoldable pub step_of : List ℕ → Option Step
step_of word = plain_of word >>= λ step. Some (record { 0 = step })

unfoldable pub epoch_of : List ℕ → Option Epoch
epoch_of word = large_of word >>= λ epoch. Some (record { 0 = epoch })

unfoldable pub nav_of : List ℕ → Option NavId
nav_of word = named_of 110 4294967295 word >>= λ nav. Some (record { 0 = nav })

unfoldable pub state_of : List ℕ → Option StateId
state_of word = named_of 115 4294967295 word >>= λ state. Some (record { 0 = state })

unfoldable pub proc_of : List ℕ → Option ProcId
proc_of word = named_of 112 4294967295 word >>= λ proc. Some (record { 0 = proc })

unfoldable pub req_of : List ℕ → Option ReqId
req_of word = named_of 114 4294967295 word >>= λ req. Some (record { 0 = req })

unfoldable pub death_of : List ℕ → Option Death
death_of word = named_of 120 4294967295 word >>= λ death. Some (record { 0 = death })

unfoldable pub doc_of : List ℕ → Option DocId
doc_of word = named_of 100 18446744073709551615 word >>= λ doc. Some (record { 0 = doc })

unfoldable pub job_of : List ℕ → Option JobId
job_of word = named_of 106 18446744073709551615 word >>= λ job. Some (record { 0 = job })

-- how far a traversal goes
unfoldable pub delta_of : List ℕ → Option ℤ
delta_of [] = None
delta_of (b ∷ word) =
    if b == 45 then (number_of 2147483648 word >>= λ number. Some (neg_ℤ (pos number)))
    else (number_of 2147483647 (b ∷ word) >>= λ number. Some (pos number))

-- the maker of an entry and which of that maker's entries it is
unfoldable pub entry_of : List ℕ → Option EntryId
entry_of word = do
  maker ← named_of 101 18446744073709551615 (before 46 word)
  nr ← number_of 4294967295 (after 46 word)
  Some (record { maker = maker; nr = nr })

-- ---- texts

-- a word of one byte or more
unfoldable pub text_of : List ℕ → Option (List ℕ)
text_of word = if not (length word == 0) && list_all is_word_byte word then Some word else None

-- a memo; a dash is none
unfoldable pub memo_of : List ℕ → Option (Option (List ℕ))
memo_of word = if bytes_eq word dash then Some None else (text_of word >>= λ memo. Some (Some memo))

-- a reference, where there is a word
unfoldable pub reference_of : List ℕ → Option (Option (List ℕ))
reference_of word = if length word == 0 then Some None else (text_of word >>= λ reference. Some (Some reference))

-- the address that was read
abbrev pub if_read : Result (List ℕ) Fault → Option (List ℕ)
if_read (Ok address) = Some address
if_read (Err fault) = None

abbrev pub written_of : List ℕ → Option (List ℕ)
written_of word = if_read (address_of word)

-- ---- what may be missing

-- a slot; a dash is none
unfoldable pub slot_of : List ℕ → Option (Option ℕ)
slot_of word = if bytes_eq word dash then Some None else (small_of word >>= λ slot. Some (Some slot))

-- the document that is poked; a dash is none
unfoldable pub poked_of : List ℕ → Option (Option DocId)
poked_of word = if bytes_eq word dash then Some None else (doc_of word >>= λ doc. Some (Some doc))

-- a traversal's goal, where there is a word
unfoldable pub goal_of : List ℕ → Option (Option Step)
goal_of word = if length word == 0 then Some None else (step_of word >>= λ goal. Some (Some goal))

-- ---- who acts, and why

unfoldable pub actor_of : List ℕ → Option Actor
actor_of word =
    if bytes_eq word (codes "start") then Some actors.Start
    else (if bytes_eq word (codes "ui") then Some actors.Ui
    else (if bytes_eq word (codes "co") then Some actors.Coord
    else (proc_of word >>= λ proc. Some (actors.Proc proc))))

-- the word begins with the letter
abbrev pub begins_with : ℕ → List ℕ → Bool
begins_with letter [] = false
begins_with letter (b ∷ word) = b == letter

-- what begins with `r` is a request, with `x` a death
unfoldable pub why_of : List ℕ → Option Why
why_of word =
    if begins_with 114 word then (req_of word >>= λ req. Some (whys.Req req))
    else (if begins_with 120 word then (death_of word >>= λ death. Some (whys.Death death))
    else (if bytes_eq word (codes "evict") then Some whys.Evict
    else None))

unfoldable pub denial_of : List ℕ → Option Denial
denial_of word =
    if bytes_eq word (codes "no-step") then Some denials.NoStep
    else (if bytes_eq word (codes "no-navigable") then Some denials.NoNavigable
    else (if bytes_eq word (codes "not-shown") then Some denials.NotShown
    else (if bytes_eq word (codes "no-document") then Some denials.NoDocument
    else (if bytes_eq word (codes "nav-taken") then Some denials.NavTaken
    else (if bytes_eq word (codes "address") then Some denials.BadAddress
    else None)))))

unfoldable pub leave_cause_of : List ℕ → Option LeaveCause
leave_cause_of word =
    if bytes_eq word (codes "load") then Some leaves.Load
    else (if bytes_eq word (codes "traverse") then Some leaves.Traverse
    else (if bytes_eq word (codes "reload") then Some leaves.Reload
    else None))

unfoldable pub mode_of : List ℕ → Option Mode
mode_of word =
    if bytes_eq word (codes "auto") then Some modes.Auto
    else (if bytes_eq word (codes "push") then Some modes.Push
    else (if bytes_eq word (codes "replace") then Some modes.Replace
    else None))

-- ---- what is so or not

-- one of two words: whether it is the first
unfoldable pub either_of : List ℕ → List ℕ → List ℕ → Option Bool
either_of one other word =
    if bytes_eq word one then Some true
    else (if bytes_eq word other then Some false
    else None)
