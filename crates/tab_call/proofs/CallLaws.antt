-- The ends of a call put together, and what has no cause.
use Rattle.std.proofs.Common.{◌≡◌, ◌↔◌, ℕ, ◌≤◌, true, false, List, ◌++◌, length, Option, Some, None, Result, Ok, Err, refl, sym, ap, ◌∙◌, subst, arith, append-nil, length-append, inl, inr}
use Rattle.std.specs.Io.KnownBytes.{Consumes, IsAtEnd}
use Rattle.log_model.specs.declared.row_kind.LogRow.{LogRow}
use Rattle.scenario_text.specs.declared.built.Built.TheVariants as builts
use Rattle.scenario_text.specs.declared.error.Refusal.{Refusal}
use Rattle.scenario_text.specs.Scenarios.{Scenario}
use Rattle.scenario_text.specs.Grammar.{scenario_of}
use Rattle.scenario_text.specs.Follows.{IsCutShort, FollowsUpTo}
use Rattle.scenario_text.specs.declared.reason.Reason.TheVariants.{TooLong}
use Rattle.scenario_text.proofs.ForCallers.{scenario_of-too_long}
use Rattle.tab_io.specs.Causes.{Rose}
use Rattle.tab_io.specs.Streams.{ReadsBeyond}
use Rattle.tab_call.specs.declared.status.Status.{Status}
use Rattle.tab_call.specs.declared.status.Status.TheVariants as statuses
use Rattle.tab_call.specs.declared.words.Work.{Work}
use Rattle.tab_call.specs.declared.words.Work.TheVariants as works
use Rattle.tab_call.specs.Words.{asks_to_play, text_due, work_of}
use Rattle.tab_call.specs.Calls.{ReadsSuch, ReadsScenario, ReadsNone, HasReadCause, HasWriteCause, FollowsAs, FollowsFor, FollowsRead, IsDecided, IsHeard, IsMakeEnd, IsUnhindered, IsPlayEnd, IsReadEnd, ReadsAs, ReadsFor, SpellsAs}

-- where no scenario was read nothing is written
pub unwritten : (status : Status) (due taken : Option (List ℕ)) (faults : ℕ) → IsReadEnd status → HasWriteCause status due taken taken faults faults
unwritten statuses.Done due taken faults end = elim end [ ]
unwritten statuses.Usage due taken faults end = refl
unwritten (statuses.Scenario refusal) due taken faults end = refl
unwritten statuses.ReadFault due taken faults end = refl
unwritten statuses.WriteFault due taken faults end = elim end [ ]
unwritten statuses.OutOfMemory due taken faults end = refl
unwritten statuses.LogFull due taken faults end = elim end [ ]
unwritten (statuses.UrlOverflow overflowed) due taken faults end = refl

-- once a scenario was read, that is the cause
pub played_read : (status : Status) (left rest : Option (List ℕ)) (before now : ℕ) → IsPlayEnd status → ReadsScenario left rest → HasReadCause status left rest before now
played_read statuses.Done left rest before now end reads = reads
played_read statuses.Usage left rest before now end reads = elim end [ ]
played_read (statuses.Scenario refusal) left rest before now end reads = elim end [ ]
played_read statuses.ReadFault left rest before now end reads = elim end [ ]
played_read statuses.WriteFault left rest before now end reads = reads
played_read statuses.OutOfMemory left rest before now end reads = tt
played_read statuses.LogFull left rest before now end reads = reads
played_read (statuses.UrlOverflow overflowed) left rest before now end reads = tt

-- what the bytes of the whole source spell
pub read_as : (result : Result Scenario Status) (bytes : List ℕ) (left rest : Option (List ℕ)) (before now : ℕ) → Consumes left rest bytes → IsAtEnd rest → SpellsAs result bytes → ReadsAs result left rest before now
read_as (Ok scenario) bytes left rest before now came end spells =
    record { bytes = bytes; scenario = scenario; came = came; whole = end; spells = spells; such = refl }
read_as (Err statuses.Done) bytes left rest before now came end spells = elim spells [ ]
read_as (Err statuses.Usage) bytes left rest before now came end spells = elim spells [ ]
read_as (Err (statuses.Scenario refusal)) bytes left rest before now came end spells =
    (record { bytes = bytes; came = came; enough = inl end; spells_none = spells }, tt)
read_as (Err statuses.ReadFault) bytes left rest before now came end spells = elim spells [ ]
read_as (Err statuses.WriteFault) bytes left rest before now came end spells = elim spells [ ]
read_as (Err statuses.OutOfMemory) bytes left rest before now came end spells = (tt, tt)
read_as (Err statuses.LogFull) bytes left rest before now came end spells = elim spells [ ]
read_as (Err (statuses.UrlOverflow overflowed)) bytes left rest before now came end spells = (tt, tt)

-- more bytes than the limit spell nothing
pub read_beyond : (left rest : Option (List ℕ)) → ReadsBeyond left rest 4194304 → ReadsNone left rest (record { line = 0; reason = TooLong }) × Unit {0}
read_beyond left rest beyond =
    (record { bytes = beyond.0; came = beyond.1; enough = inr beyond.2; spells_none = scenario_of-too_long false builts.Loads beyond.0 beyond.2 }, tt)

-- ---- the scenario that was read

-- of the scenario that was read
pub reads_such : (left rest : Option (List ℕ)) (scenario : Scenario) (IsSuch : Scenario → Type 0) → ReadsSuch left rest (λ other. other ≡ scenario) → IsSuch scenario → ReadsSuch left rest IsSuch
reads_such left rest scenario IsSuch reads such =
    record {
      bytes = reads.bytes;
      scenario = scenario;
      came = reads.came;
      whole = reads.whole;
      spells = reads.spells ∙ ap Ok reads.such;
      such = such;
    }

-- a log that follows the scenario as its status says
pub follows_read : (status : Status) (left rest : Option (List ℕ)) (log : Option (List LogRow)) (scenario : Scenario) → IsPlayEnd status → ReadsSuch left rest (λ other. other ≡ scenario) → FollowsAs status log scenario → FollowsRead status left rest log
follows_read statuses.Done left rest log scenario end reads follows = reads_such left rest scenario (FollowsAs statuses.Done log) reads follows
follows_read statuses.Usage left rest log scenario end reads follows = elim end [ ]
follows_read (statuses.Scenario refusal) left rest log scenario end reads follows = elim end [ ]
follows_read statuses.ReadFault left rest log scenario end reads follows = elim end [ ]
follows_read statuses.WriteFault left rest log scenario end reads follows = reads_such left rest scenario (FollowsAs statuses.WriteFault log) reads follows
follows_read statuses.OutOfMemory left rest None scenario end reads follows = tt
follows_read statuses.OutOfMemory left rest (Some rows) scenario end reads follows = reads_such left rest scenario (λ s. FollowsUpTo rows s) reads follows
follows_read statuses.LogFull left rest log scenario end reads follows = reads_such left rest scenario (FollowsAs statuses.LogFull log) reads follows
follows_read (statuses.UrlOverflow overflowed) left rest None scenario end reads follows = tt
follows_read (statuses.UrlOverflow overflowed) left rest (Some rows) scenario end reads follows = reads_such left rest scenario (λ s. FollowsUpTo rows s) reads follows

-- where no scenario was read there is no log
pub follows_none : (status : Status) (left rest : Option (List ℕ)) → IsReadEnd status → FollowsRead status left rest None
follows_none statuses.Done left rest end = elim end [ ]
follows_none statuses.Usage left rest end = refl
follows_none (statuses.Scenario refusal) left rest end = refl
follows_none statuses.ReadFault left rest end = refl
follows_none statuses.WriteFault left rest end = elim end [ ]
follows_none statuses.OutOfMemory left rest end = tt
follows_none statuses.LogFull left rest end = elim end [ ]
follows_none (statuses.UrlOverflow overflowed) left rest end = tt

-- ---- what has no cause doesn't come

-- the bytes that a source tells are those that were read to its end
told_whole : (bytes read : List ℕ) (left rest : Option (List ℕ)) → left ≡ Some bytes → Consumes left rest read → IsAtEnd rest → bytes ≡ read
told_whole bytes read None rest told came whole = cc
told_whole bytes read (Some xs) None told came whole = absurd came
told_whole bytes read (Some xs) (Some ys) told came whole =
    let same : xs ≡ bytes = cc in sym same ∙ came ∙ ap (λ (l : List ℕ). read ++ l) whole ∙ append-nil read

-- more were told than were read
told_long : (bytes read : List ℕ) (left rest : Option (List ℕ)) → left ≡ Some bytes → Consumes left rest read → length read ≤ length bytes
told_long bytes read None rest told came = cc
told_long bytes read (Some xs) None told came = absurd came
told_long bytes read (Some xs) (Some ys) told came =
    let same : xs ≡ bytes = cc in
    omega (arith, ap (λ (l : List ℕ). length l) (sym same ∙ came), length-append read ys)

-- the whole source spells what the bytes read spell
told_none : (bytes : List ℕ) (left rest : Option (List ℕ)) (refusal : Refusal) → left ≡ Some bytes → ReadsNone left rest refusal → scenario_of false builts.Loads bytes ≡ Err refusal
told_none bytes left rest refusal told reads =
    elim reads.enough [
      | inl whole ↦ ap (λ (l : List ℕ). scenario_of false builts.Loads l) (told_whole bytes reads.bytes left rest told reads.came whole) ∙ reads.spells_none
      | inr long ↦
          scenario_of-too_long false builts.Loads bytes (omega (arith, long, told_long bytes reads.bytes left rest told reads.came))
          ∙ sym (scenario_of-too_long false builts.Loads reads.bytes long)
          ∙ reads.spells_none
    ]

told_scenario : (bytes : List ℕ) (left rest : Option (List ℕ)) (IsSuch : Scenario → Type 0) → left ≡ Some bytes → (reads : ReadsSuch left rest IsSuch) → scenario_of false builts.Loads bytes ≡ Ok reads.scenario
told_scenario bytes left rest IsSuch told reads =
    ap (λ (l : List ℕ). scenario_of false builts.Loads l) (told_whole bytes reads.bytes left rest told reads.came reads.whole) ∙ reads.spells

-- a result is not both
not_both : {A E : Type 0} (r : Result A E) (a : A) (e : E) → r ≡ Ok a → r ≡ Err e → ⊥
not_both r a e ok err = cc

-- ---- by what the words ask

-- what is said for a work is said for the words that ask for it
pub asked_read : (asked work : Option Work) (status : Status) (left rest : Option (List ℕ)) (before now : ℕ) → work ≡ asked → ReadsFor work status left rest before now → ReadsFor asked status left rest before now
asked_read asked work status left rest before now same read = subst (λ (w : Option Work). ReadsFor w status left rest before now) same read

pub asked_follows : (asked work : Option Work) (status : Status) (left rest : Option (List ℕ)) (log : Option (List LogRow)) → work ≡ asked → FollowsFor work status left rest log → FollowsFor asked status left rest log
asked_follows asked work status left rest log same follows = subst (λ (w : Option Work). FollowsFor w status left rest log) same follows

pub asked_written : (asked work : Option Work) (status : Status) (taken given : Option (List ℕ)) (old new : ℕ) (log : Option (List LogRow)) → work ≡ asked → HasWriteCause status (text_due work log) taken given old new → HasWriteCause status (text_due asked log) taken given old new
asked_written asked work status taken given old new log same written = subst (λ (w : Option Work). HasWriteCause status (text_due w log) taken given old new) same written

-- words that ask to play don't ask for nothing
asks_nothing : (work : Option Work) → asks_to_play work ≡ true → work ≡ None → ⊥
asks_nothing (Some work) asks none = cc
asks_nothing None asks none = cc

-- and what was read and the log are as where a scenario is to be played
plays_read : (work : Option Work) (status : Status) (left rest : Option (List ℕ)) (before now : ℕ) → asks_to_play work ≡ true → ReadsFor work status left rest before now → HasReadCause status left rest before now
plays_read (Some (works.Play output)) status left rest before now asks read = read
plays_read (Some (works.Make n)) status left rest before now asks read = cc
plays_read None status left rest before now asks read = cc

plays_follows : (work : Option Work) (status : Status) (left rest : Option (List ℕ)) (log : Option (List LogRow)) → asks_to_play work ≡ true → FollowsFor work status left rest log → FollowsRead status left rest log
plays_follows (Some (works.Play output)) status left rest log asks follows = follows
plays_follows (Some (works.Make n)) status left rest log asks follows = cc
plays_follows None status left rest log asks follows = cc

-- a call that makes a scenario is done, where its sink didn't fail and there was memory
made_done : (status : Status) (due taken given : Option (List ℕ)) (old new : ℕ) → IsMakeEnd status → HasWriteCause status due taken given old new → IsDecided status → ¬ (Rose old new) → status ≡ statuses.Done
made_done statuses.Done due taken given old new end written decided free = refl
made_done statuses.Usage due taken given old new end written decided free = elim end [ ]
made_done (statuses.Scenario refusal) due taken given old new end written decided free = elim end [ ]
made_done statuses.ReadFault due taken given old new end written decided free = elim end [ ]
made_done statuses.WriteFault due taken given old new end written decided free = absurd (free written.0)
made_done statuses.OutOfMemory due taken given old new end written decided free = elim decided [ ]
made_done statuses.LogFull due taken given old new end written decided free = elim end [ ]
made_done (statuses.UrlOverflow overflowed) due taken given old new end written decided free = elim decided [ ]

pub makes : (status : Status) (asked : Option Work) (left rest : Option (List ℕ)) (before now : ℕ) (due taken given : Option (List ℕ)) (old new : ℕ) → ReadsFor asked status left rest before now → HasWriteCause status due taken given old new → (n : ℕ) → asked ≡ Some (works.Make n) → IsDecided status → ¬ (Rose old new) → status ≡ statuses.Done
makes status asked left rest before now due taken given old new read written n is decided free =
    made_done status due taken given old new (subst (λ (w : Option Work). ReadsFor w status left rest before now) is read).1 written decided free

-- ---- done, or refused

-- a call that plays, is heard and unhindered, of bytes that spell a scenario, is done
played_done : (status : Status) (due : Option (List ℕ)) (words : List (List ℕ)) (left rest : Option (List ℕ)) (before now : ℕ) (taken given : Option (List ℕ)) (old new : ℕ) (log : Option (List LogRow)) → ((status ≡ statuses.Usage) ↔ (work_of words ≡ None)) → HasReadCause status left rest before now → FollowsRead status left rest log → HasWriteCause status due taken given old new → (bytes : List ℕ) (scenario : Scenario) → IsHeard words bytes left before now status → scenario_of false builts.Loads bytes ≡ Ok scenario → IsUnhindered scenario old new log → status ≡ statuses.Done
played_done statuses.Done due words left rest before now taken given old new log usage read follows written bytes scenario heard spells free = refl
played_done statuses.Usage due words left rest before now taken given old new log usage read follows written bytes scenario heard spells free =
    absurd (asks_nothing (work_of words) heard.asks (usage.0 refl))
played_done (statuses.Scenario refusal) due words left rest before now taken given old new log usage read follows written bytes scenario heard spells free =
    absurd (not_both (scenario_of false builts.Loads bytes) scenario refusal spells (told_none bytes left rest refusal heard.told read))
played_done statuses.ReadFault due words left rest before now taken given old new log usage read follows written bytes scenario heard spells free = absurd (heard.read read)
played_done statuses.WriteFault due words left rest before now taken given old new log usage read follows written bytes scenario heard spells free = absurd (free.written written.0)
played_done statuses.OutOfMemory due words left rest before now taken given old new log usage read follows written bytes scenario heard spells free = elim heard.decided [ ]
played_done statuses.LogFull due words left rest before now taken given old new None usage read follows written bytes scenario heard spells free = absurd follows.such
played_done statuses.LogFull due words left rest before now taken given old new (Some rows) usage read follows written bytes scenario heard spells free =
    let same : follows.scenario ≡ scenario = (let e : Ok follows.scenario ≡ Ok scenario = sym (told_scenario bytes left rest (FollowsAs statuses.LogFull (Some rows)) heard.told follows) ∙ spells in cc) in
    absurd (omega (arith, follows.such.1, free.room (subst (λ (s : Scenario). IsCutShort rows s) same follows.such.0)))
played_done (statuses.UrlOverflow overflowed) due words left rest before now taken given old new log usage read follows written bytes scenario heard spells free = elim heard.decided [ ]

-- a call that plays and is heard, of bytes that spell none, names the refusal
played_refused : (status : Status) (words : List (List ℕ)) (left rest : Option (List ℕ)) (before now : ℕ) → ((status ≡ statuses.Usage) ↔ (work_of words ≡ None)) → HasReadCause status left rest before now → (bytes : List ℕ) (refusal : Refusal) → IsHeard words bytes left before now status → scenario_of false builts.Loads bytes ≡ Err refusal → status ≡ statuses.Scenario refusal
played_refused statuses.Done words left rest before now usage read bytes refusal heard none =
    absurd (not_both (scenario_of false builts.Loads bytes) read.scenario refusal (told_scenario bytes left rest _ heard.told read) none)
played_refused statuses.Usage words left rest before now usage read bytes refusal heard none =
    absurd (asks_nothing (work_of words) heard.asks (usage.0 refl))
played_refused (statuses.Scenario given) words left rest before now usage read bytes refusal heard none =
    let e : Err given ≡ Err refusal = sym (told_none bytes left rest given heard.told read) ∙ none in
    let same : given ≡ refusal = cc in ap statuses.Scenario same
played_refused statuses.ReadFault words left rest before now usage read bytes refusal heard none = absurd (heard.read read)
played_refused statuses.WriteFault words left rest before now usage read bytes refusal heard none =
    absurd (not_both (scenario_of false builts.Loads bytes) read.scenario refusal (told_scenario bytes left rest _ heard.told read) none)
played_refused statuses.OutOfMemory words left rest before now usage read bytes refusal heard none = elim heard.decided [ ]
played_refused statuses.LogFull words left rest before now usage read bytes refusal heard none =
    absurd (not_both (scenario_of false builts.Loads bytes) read.scenario refusal (told_scenario bytes left rest _ heard.told read) none)
played_refused (statuses.UrlOverflow overflowed) words left rest before now usage read bytes refusal heard none = elim heard.decided [ ]

-- a call that is heard and unhindered, of bytes that spell a scenario, is done
pub completes : (status : Status) (due : Option (List ℕ)) (words : List (List ℕ)) (left rest : Option (List ℕ)) (before now : ℕ) (taken given : Option (List ℕ)) (old new : ℕ) (log : Option (List LogRow)) → ((status ≡ statuses.Usage) ↔ (work_of words ≡ None)) → ReadsFor (work_of words) status left rest before now → FollowsFor (work_of words) status left rest log → HasWriteCause status due taken given old new → (bytes : List ℕ) (scenario : Scenario) → IsHeard words bytes left before now status → scenario_of false builts.Loads bytes ≡ Ok scenario → IsUnhindered scenario old new log → status ≡ statuses.Done
completes status due words left rest before now taken given old new log usage read follows written bytes scenario heard spells free =
    played_done status due words left rest before now taken given old new log usage
    (plays_read (work_of words) status left rest before now heard.asks read)
    (plays_follows (work_of words) status left rest log heard.asks follows)
    written bytes scenario heard spells free

-- a call that is heard, of bytes that spell none, names the refusal
pub refuses : (status : Status) (words : List (List ℕ)) (left rest : Option (List ℕ)) (before now : ℕ) → ((status ≡ statuses.Usage) ↔ (work_of words ≡ None)) → ReadsFor (work_of words) status left rest before now → (bytes : List ℕ) (refusal : Refusal) → IsHeard words bytes left before now status → scenario_of false builts.Loads bytes ≡ Err refusal → status ≡ statuses.Scenario refusal
refuses status words left rest before now usage read bytes refusal heard none =
    played_refused status words left rest before now usage (plays_read (work_of words) status left rest before now heard.asks read) bytes refusal heard none
