-- A field that is written is a word, and is read as it was.
use Rattle.std.proofs.Common.{◌≡◌, ℕ, ◌+◌, ◌<◌, ◌≤◌, ◌^◌, ℤ, pos, negsuc, suc, ◌==◌, Bool, true, false, List, [], ◌∷◌, ◌++◌, length, Option, Some, None, refl, sym, ap, subst, ◌∙◌, arith, rules, append_assoc, length-append}
use Rattle.std.specs.Prelude.{nat_le, codes, decimal, bytes_eq}
use Rattle.std.specs.Fmt.{signed_decimal}
use Rattle.std.specs.List.{list_all}
use Rattle.std.specs.Char.{is_ascii_digit}
use Rattle.std.specs.Str.Parse.{digits_value}
use Rattle.std.proofs.lemmas.Bool.Decides.{nat_tests}
use Rattle.std.proofs.lemmas.Fmt.{digits_decimal, digits_value-decimal, decimal_nonempty}
use Rattle.std.proofs.lemmas.Str.Parse.{IsNumeralModel, numerals_by_value}
use Rattle.tab_ids.specs.declared.NavId.{NavId}
use Rattle.tab_ids.specs.declared.StateId.{StateId}
use Rattle.tab_ids.specs.declared.ReqId.{ReqId}
use Rattle.tab_ids.specs.declared.ProcId.{ProcId}
use Rattle.tab_ids.specs.declared.Step.{Step}
use Rattle.tab_ids.specs.declared.Death.{Death}
use Rattle.tab_ids.specs.declared.DocId.{DocId}
use Rattle.tab_ids.specs.declared.JobId.{JobId}
use Rattle.tab_ids.specs.declared.Epoch.{Epoch}
use Rattle.tab_ids.specs.declared.EntryId.{EntryId}
use Rattle.address.specs.Addresses.{IsAddress}
use Rattle.log_model.specs.declared.job.Why.{Why}
use Rattle.log_model.specs.declared.job.Why.TheVariants as whys
use Rattle.log_model.specs.declared.handler.LeaveCause.{LeaveCause}
use Rattle.log_model.specs.declared.handler.LeaveCause.TheVariants as leaves
use Rattle.log_model.specs.declared.outcome.Denial.{Denial}
use Rattle.log_model.specs.declared.outcome.Denial.TheVariants as denials
use Rattle.log_model.specs.declared.request.Mode.{Mode}
use Rattle.log_model.specs.declared.request.Mode.TheVariants as modes
use Rattle.log_model.specs.declared.row_kind.Actor.{Actor}
use Rattle.log_model.specs.declared.row_kind.Actor.TheVariants as actors
use Rattle.log_text.specs.Spellings.{nav_name, entry_name, state_name, doc_name, proc_name, req_name, job_name, death_name, dash, memo_name, slot_name, poked_name, actor_name, why_name, denial_name, leave_cause_name, mode_name, answer_name, initial_name, dirty_name}
use Rattle.log_reading.specs.Chain.{◌>>=◌}
use Rattle.log_reading.specs.Words.{before, after}
use Rattle.log_reading.specs.Readable.{is_word_byte, IsWord, IsMemo, IsU8, IsU32, IsU64, IsDelta, IsEntry, IsSlot, IsPoked, IsActor, IsWhy}
use Rattle.log_reading.specs.Fields.{number_of, small_of, plain_of, large_of, named_of, plain_nav_of, step_of, epoch_of, nav_of, state_of, proc_of, req_of, death_of, doc_of, job_of, delta_of, entry_of, text_of, memo_of, written_of, slot_of, poked_of, actor_of, why_of, denial_of, leave_cause_of, mode_of, either_of}
use Rattle.log_reading.proofs.WordLaws.{and_first, and_second, Lacks, before_word, after_first_word}

-- ---- numbers

own : IsNumeralModel (λ ds. list_all is_ascii_digit ds ≡ true) (digits_value 10)
own = numerals_by_value _ (search rules)

digits : (n : ℕ) → n < 2 ^ 64 → list_all is_ascii_digit (decimal n) ≡ true
digits n small = digits_decimal own n small

number_back : (greatest n : ℕ) → n ≤ greatest → greatest < 2 ^ 64 → number_of greatest (decimal n) ≡ Some n
unfolding number_of
number_back greatest n within small =
    let fits : nat_le n greatest ≡ true = grind (arith, nat_tests) in
    rw (digits n (omega arith), digits_value-decimal own n (omega arith), fits) refl

pub small_back : (n : ℕ) → IsU8 n → small_of (decimal n) ≡ Some n
small_back n is = number_back 255 n (omega arith) (omega arith)

pub plain_back : (n : ℕ) → IsU32 n → plain_of (decimal n) ≡ Some n
plain_back n is = number_back 4294967295 n (omega arith) (omega arith)

pub large_back : (n : ℕ) → IsU64 n → large_of (decimal n) ≡ Some n
large_back n is = number_back 18446744073709551615 n (omega arith) (omega arith)

digits_are_bytes : (w : List ℕ) → list_all is_ascii_digit w ≡ true → list_all is_word_byte w ≡ true
digits_are_bytes [] are = refl
digits_are_bytes (b ∷ w) are =
    let here : is_ascii_digit b ≡ true = and_first (is_ascii_digit b) (list_all is_ascii_digit w) are in
    let byte : is_word_byte b ≡ true = grind (arith, nat_tests) in
    rw (byte, digits_are_bytes w (and_second (is_ascii_digit b) (list_all is_ascii_digit w) are)) refl

bytes : (n : ℕ) → n < 2 ^ 64 → list_all is_word_byte (decimal n) ≡ true
bytes n small = digits_are_bytes (decimal n) (digits n small)

some_bytes : (w : List ℕ) → 0 < length w → (length w == 0) ≡ false
some_bytes [] some = absurd (omega arith)
some_bytes (b ∷ w) some = let more : (length (b ∷ w) == 0) ≡ false = grind (arith, nat_tests) in more

pub large_word : (n : ℕ) → IsU64 n → IsWord (decimal n)
large_word n is = record { some = some_bytes (decimal n) (decimal_nonempty n is); bytes = bytes n is }

pub plain_word : (n : ℕ) → IsU32 n → IsWord (decimal n)
plain_word n is = large_word n (omega arith)

pub small_word : (n : ℕ) → IsU8 n → IsWord (decimal n)
small_word n is = large_word n (omega arith)

-- a letter that a word may have, and a number
named_word : (letter n : ℕ) → is_word_byte letter ≡ true → IsU64 n → IsWord (letter ∷ decimal n)
named_word letter n byte is = record { some = some_bytes (letter ∷ decimal n) (omega arith); bytes = rw (byte, bytes n is) refl }

-- ---- numbers that name things

pub plain_nav_back : (nav : NavId) → IsU32 nav.0 → plain_nav_of (decimal nav.0) ≡ Some nav
unfolding plain_nav_of
plain_nav_back nav is = rw (plain_back nav.0 is) refl

pub step_back : (step : Step) → IsU32 step.0 → step_of (decimal step.0) ≡ Some step
unfolding step_of
step_back step is = rw (plain_back step.0 is) refl

pub epoch_back : (epoch : Epoch) → IsU64 epoch.0 → epoch_of (decimal epoch.0) ≡ Some epoch
unfolding epoch_of
epoch_back epoch is = rw (large_back epoch.0 is) refl

pub nav_back : (nav : NavId) → IsU32 nav.0 → nav_of (nav_name nav) ≡ Some nav
unfolding nav_of
nav_back nav is = rw (plain_back nav.0 is) refl

pub state_back : (state : StateId) → IsU32 state.0 → state_of (state_name state) ≡ Some state
unfolding state_of
state_back state is = rw (plain_back state.0 is) refl

pub proc_back : (proc : ProcId) → IsU32 proc.0 → proc_of (proc_name proc) ≡ Some proc
unfolding proc_of
proc_back proc is = rw (plain_back proc.0 is) refl

pub req_back : (req : ReqId) → IsU32 req.0 → req_of (req_name req) ≡ Some req
unfolding req_of
req_back req is = rw (plain_back req.0 is) refl

pub death_back : (death : Death) → IsU32 death.0 → death_of (death_name death) ≡ Some death
unfolding death_of
death_back death is = rw (plain_back death.0 is) refl

pub doc_back : (doc : DocId) → IsU64 doc.0 → doc_of (doc_name doc) ≡ Some doc
unfolding doc_of
doc_back doc is = rw (large_back doc.0 is) refl

pub job_back : (job : JobId) → IsU64 job.0 → job_of (job_name job) ≡ Some job
unfolding job_of
job_back job is = rw (large_back job.0 is) refl

pub nav_word : (nav : NavId) → IsU32 nav.0 → IsWord (nav_name nav)
nav_word nav is = named_word 110 nav.0 refl (omega arith)

pub state_word : (state : StateId) → IsU32 state.0 → IsWord (state_name state)
state_word state is = named_word 115 state.0 refl (omega arith)

pub proc_word : (proc : ProcId) → IsU32 proc.0 → IsWord (proc_name proc)
proc_word proc is = named_word 112 proc.0 refl (omega arith)

pub req_word : (req : ReqId) → IsU32 req.0 → IsWord (req_name req)
req_word req is = named_word 114 req.0 refl (omega arith)

pub death_word : (death : Death) → IsU32 death.0 → IsWord (death_name death)
death_word death is = named_word 120 death.0 refl (omega arith)

pub doc_word : (doc : DocId) → IsU64 doc.0 → IsWord (doc_name doc)
doc_word doc is = named_word 100 doc.0 refl is

pub job_word : (job : JobId) → IsU64 job.0 → IsWord (job_name job)
job_word job is = named_word 106 job.0 refl is

-- ---- entries

digits_lack : (w : List ℕ) → list_all is_ascii_digit w ≡ true → Lacks 46 w
digits_lack [] are = tt
digits_lack (b ∷ w) are =
    let here : is_ascii_digit b ≡ true = and_first (is_ascii_digit b) (list_all is_ascii_digit w) are in
    let apart : (b == 46) ≡ false = grind (arith, nat_tests) in
    (apart, digits_lack w (and_second (is_ascii_digit b) (list_all is_ascii_digit w) are))

entry_read : (word front rest : List ℕ) (m k : ℕ) → before 46 word ≡ front → after 46 word ≡ rest → named_of 101 18446744073709551615 front ≡ Some m → number_of 4294967295 rest ≡ Some k → entry_of word ≡ Some (record { maker = m; nr = k })
unfolding entry_of
entry_read word front rest m k e1 e2 e3 e4 =
    let made : ℕ → ℕ → Option EntryId = λ maker nr. Some (record { maker = maker; nr = nr }) in
    ap (λ (l : List ℕ). named_of 101 18446744073709551615 l >>= λ maker. (number_of 4294967295 (after 46 word) >>= λ nr. made maker nr)) e1
    ∙ ap (λ (r : Option ℕ). r >>= λ maker. (number_of 4294967295 (after 46 word) >>= λ nr. made maker nr)) e3
    ∙ ap (λ (l : List ℕ). number_of 4294967295 l >>= λ nr. made m nr) e2
    ∙ ap (λ (r : Option ℕ). r >>= λ nr. made m nr) e4

-- an entry's name is cut at its dot
entry_is : (entry : EntryId) → entry_name entry ≡ (101 ∷ decimal entry.maker) ++ 46 ∷ decimal entry.nr
entry_is entry = append_assoc (101 ∷ decimal entry.maker) (46 ∷ []) (decimal entry.nr)

pub entry_back : (entry : EntryId) → IsEntry entry → entry_of (entry_name entry) ≡ Some entry
entry_back entry is =
    let lacks : Lacks 46 (101 ∷ decimal entry.maker) = (refl, digits_lack (decimal entry.maker) (digits entry.maker is.0)) in
    entry_read (entry_name entry) (101 ∷ decimal entry.maker) (decimal entry.nr) entry.maker entry.nr
    (ap (λ (l : List ℕ). before 46 l) (entry_is entry) ∙ before_word 46 (101 ∷ decimal entry.maker) (decimal entry.nr) refl lacks)
    (ap (λ (l : List ℕ). after 46 l) (entry_is entry) ∙ after_first_word 46 (101 ∷ decimal entry.maker) (decimal entry.nr) refl lacks)
    (large_back entry.maker is.0) (plain_back entry.nr is.1)

bytes_append : (a b : List ℕ) → list_all is_word_byte a ≡ true → list_all is_word_byte b ≡ true → list_all is_word_byte (a ++ b) ≡ true
bytes_append [] b first second = second
bytes_append (x ∷ a) b first second =
    rw (and_first (is_word_byte x) (list_all is_word_byte a) first, bytes_append a b (and_second (is_word_byte x) (list_all is_word_byte a) first) second) refl

pub entry_word : (entry : EntryId) → IsEntry entry → IsWord (entry_name entry)
entry_word entry is =
    let nr : IsU32 entry.nr = is.1 in
    let all = bytes_append (101 ∷ decimal entry.maker) (46 ∷ decimal entry.nr) (named_word 101 entry.maker refl is.0).bytes (named_word 46 entry.nr refl (omega arith)).bytes in
    let long : length (entry_name entry) ≡ length (101 ∷ decimal entry.maker) + length (46 ∷ decimal entry.nr) =
    ap (λ (l : List ℕ). length l) (entry_is entry) ∙ length-append (101 ∷ decimal entry.maker) (46 ∷ decimal entry.nr) in
    record { some = some_bytes (entry_name entry) (omega (arith, long)); bytes = subst (λ (l : List ℕ). list_all is_word_byte l ≡ true) (sym (entry_is entry)) all }

-- ---- deltas

forward_back : (w : List ℕ) (n : ℕ) → list_all is_ascii_digit w ≡ true → 0 < length w → number_of 2147483647 w ≡ Some n → delta_of w ≡ Some (pos n)
unfolding delta_of
forward_back [] n are some read = absurd (omega arith)
forward_back (b ∷ w) n are some read =
    let here : is_ascii_digit b ≡ true = and_first (is_ascii_digit b) (list_all is_ascii_digit w) are in
    let apart : (b == 45) ≡ false = grind (arith, nat_tests) in
    rw (apart, read) refl

pub delta_back : (delta : ℤ) → IsDelta delta → delta_of (signed_decimal delta) ≡ Some delta
unfolding delta_of
delta_back (pos n) is =
    let small : n < 2 ^ 31 = omega (arith, is) in
    forward_back (decimal n) n (digits n (omega arith)) (decimal_nonempty n (omega arith)) (number_back 2147483647 n (omega arith) (omega arith))
delta_back (negsuc n) is =
    let small : n < 2 ^ 31 = omega (arith, is) in
    rw (number_back 2147483648 (suc n) (omega arith) (omega arith)) refl

pub delta_word : (delta : ℤ) → IsDelta delta → IsWord (signed_decimal delta)
delta_word (pos n) is = let small : n < 2 ^ 31 = omega (arith, is) in large_word n (omega arith)
delta_word (negsuc n) is = let small : n < 2 ^ 31 = omega (arith, is) in named_word 45 (suc n) refl (omega arith)

-- ---- texts

pub text_back : (text : List ℕ) → IsWord text → text_of text ≡ Some text
unfolding text_of
text_back text is = rw (is.some, is.bytes) refl

pub memo_back : (memo : Option (List ℕ)) → IsMemo memo → memo_of (memo_name memo) ≡ Some memo
unfolding memo_of
memo_back (Some memo) is = rw (is.1, text_back memo is.0) refl
memo_back None is = refl

pub memo_word : (memo : Option (List ℕ)) → IsMemo memo → IsWord (memo_name memo)
memo_word (Some memo) is = is.0
memo_word None is = record { some = refl; bytes = refl }

pub address_back : (address : List ℕ) → IsAddress address → written_of address ≡ Some address
address_back address is = rw is.reads refl

pub address_word : (address : List ℕ) → IsAddress address → IsWord address
address_word address is = record { some = is.some; bytes = is.bytes }

-- ---- what may be missing

digits_no_dash : (w : List ℕ) → list_all is_ascii_digit w ≡ true → bytes_eq w dash ≡ false
digits_no_dash [] are = refl
digits_no_dash (b ∷ w) are =
    let here : is_ascii_digit b ≡ true = and_first (is_ascii_digit b) (list_all is_ascii_digit w) are in
    let apart : (b == 45) ≡ false = grind (arith, nat_tests) in
    rw apart refl

pub slot_back : (slot : Option ℕ) → IsSlot slot → slot_of (slot_name slot) ≡ Some slot
unfolding slot_of
slot_back (Some slot) is =
    let small : IsU8 slot = is in
    rw (digits_no_dash (decimal slot) (digits slot (omega arith)), small_back slot is) refl
slot_back None is = refl

pub slot_word : (slot : Option ℕ) → IsSlot slot → IsWord (slot_name slot)
slot_word (Some slot) is = small_word slot is
slot_word None is = record { some = refl; bytes = refl }

pub poked_back : (doc : Option DocId) → IsPoked doc → poked_of (poked_name doc) ≡ Some doc
unfolding poked_of
poked_back (Some doc) is = rw (doc_back doc is) refl
poked_back None is = refl

pub poked_word : (doc : Option DocId) → IsPoked doc → IsWord (poked_name doc)
poked_word (Some doc) is = doc_word doc is
poked_word None is = record { some = refl; bytes = refl }

-- ---- who acts, and why

pub actor_back : (actor : Actor) → IsActor actor → actor_of (actor_name actor) ≡ Some actor
unfolding actor_of
actor_back actors.Start is = refl
actor_back actors.Ui is = refl
actor_back actors.Coord is = refl
actor_back (actors.Proc proc) is = rw (proc_back proc is) refl

pub actor_word : (actor : Actor) → IsActor actor → IsWord (actor_name actor)
actor_word actors.Start is = record { some = refl; bytes = refl }
actor_word actors.Ui is = record { some = refl; bytes = refl }
actor_word actors.Coord is = record { some = refl; bytes = refl }
actor_word (actors.Proc proc) is = proc_word proc is

pub why_back : (why : Why) → IsWhy why → why_of (why_name why) ≡ Some why
unfolding why_of
why_back (whys.Req req) is = rw (req_back req is) refl
why_back (whys.Death death) is = rw (death_back death is) refl
why_back whys.Evict is = refl
why_back whys.Start is = absurd is

pub why_word : (why : Why) → IsWhy why → IsWord (why_name why)
why_word (whys.Req req) is = req_word req is
why_word (whys.Death death) is = death_word death is
why_word whys.Evict is = record { some = refl; bytes = refl }
why_word whys.Start is = absurd is

-- ---- words of enums

pub denial_back : (denial : Denial) → denial_of (denial_name denial) ≡ Some denial
unfolding denial_of
denial_back denials.NoStep = refl
denial_back denials.NoNavigable = refl
denial_back denials.NotShown = refl
denial_back denials.NoDocument = refl
denial_back denials.NavTaken = refl
denial_back denials.BadAddress = refl

pub denial_word : (denial : Denial) → IsWord (denial_name denial)
denial_word denials.NoStep = record { some = refl; bytes = refl }
denial_word denials.NoNavigable = record { some = refl; bytes = refl }
denial_word denials.NotShown = record { some = refl; bytes = refl }
denial_word denials.NoDocument = record { some = refl; bytes = refl }
denial_word denials.NavTaken = record { some = refl; bytes = refl }
denial_word denials.BadAddress = record { some = refl; bytes = refl }

pub leave_cause_back : (cause : LeaveCause) → leave_cause_of (leave_cause_name cause) ≡ Some cause
unfolding leave_cause_of
leave_cause_back leaves.Load = refl
leave_cause_back leaves.Traverse = refl
leave_cause_back leaves.Reload = refl

pub leave_cause_word : (cause : LeaveCause) → IsWord (leave_cause_name cause)
leave_cause_word leaves.Load = record { some = refl; bytes = refl }
leave_cause_word leaves.Traverse = record { some = refl; bytes = refl }
leave_cause_word leaves.Reload = record { some = refl; bytes = refl }

pub mode_back : (mode : Mode) → mode_of (mode_name mode) ≡ Some mode
unfolding mode_of
mode_back modes.Auto = refl
mode_back modes.Push = refl
mode_back modes.Replace = refl

pub mode_word : (mode : Mode) → IsWord (mode_name mode)
mode_word modes.Auto = record { some = refl; bytes = refl }
mode_word modes.Push = record { some = refl; bytes = refl }
mode_word modes.Replace = record { some = refl; bytes = refl }

pub answer_back : (stay : Bool) → either_of (codes "stay") (codes "leave") (answer_name stay) ≡ Some stay
unfolding either_of
answer_back true = refl
answer_back false = refl

pub answer_word : (stay : Bool) → IsWord (answer_name stay)
answer_word true = record { some = refl; bytes = refl }
answer_word false = record { some = refl; bytes = refl }

pub initial_back : (initial : Bool) → either_of (codes "initial") (codes "plain") (initial_name initial) ≡ Some initial
unfolding either_of
initial_back true = refl
initial_back false = refl

pub initial_word : (initial : Bool) → IsWord (initial_name initial)
initial_word true = record { some = refl; bytes = refl }
initial_word false = record { some = refl; bytes = refl }

pub dirty_back : (dirty : Bool) → either_of (codes "dirty") (codes "clean") (dirty_name dirty) ≡ Some dirty
unfolding either_of
dirty_back true = refl
dirty_back false = refl

pub dirty_word : (dirty : Bool) → IsWord (dirty_name dirty)
dirty_word true = record { some = refl; bytes = refl }
dirty_word false = record { some = refl; bytes = refl }
