-- How a call of the program ends: what was read and written, the log, and why.
-- This project's own.
use Rattle.std.specs.Prelude.{◌≡◌, ◌⊎◌, ℕ, ◌<◌, ◌≤◌, true, false, List, length, Option, Some, None, Result, Ok, Err, IfSome, IsSomeAnd}
use Rattle.std.specs.Io.KnownBytes.{Appends, Consumes, IsAtEnd}
use Rattle.log_model.specs.declared.row_kind.LogRow.{LogRow}
use Rattle.scenario_text.specs.declared.built.Built.TheVariants as builts
use Rattle.scenario_text.specs.declared.error.Refusal.{Refusal}
use Rattle.scenario_text.specs.Scenarios.{Scenario}
use Rattle.scenario_text.specs.Grammar.{scenario_of}
use Rattle.scenario_text.specs.Follows.{Follows, IsCutShort, FollowsUpTo}
use Rattle.scenario_play.specs.PassedOn.{row_limit}
use Rattle.tab_io.specs.Causes.{Rose}
use Rattle.tab_call.specs.declared.status.Status.{Status}
use Rattle.tab_call.specs.declared.status.Status.TheVariants as statuses
use Rattle.tab_call.specs.declared.words.Work.{Work}
use Rattle.tab_call.specs.declared.words.Work.TheVariants as works
use Rattle.tab_call.specs.Words.{asks_to_play, work_of}
use Rattle.tab_call.specs.Writes.{WritesPart}

-- the most bytes that a scenario may have
abbrev pub byte_limit : ℕ
byte_limit = 4194304

-- the bytes read are all of the source and spell a scenario, and that scenario is such
pub record ReadsSuch (left rest : Option (List ℕ)) (IsSuch : Scenario → Type 0) : Type 0 where
  pub bytes : List ℕ
  pub scenario : Scenario
  pub came : Consumes left rest bytes
  pub whole : IsAtEnd rest
  pub spells : scenario_of false builts.Loads bytes ≡ Ok scenario
  pub such : IsSuch scenario

-- the bytes read are all of the source and spell a scenario
abbrev pub ReadsScenario : Option (List ℕ) → Option (List ℕ) → Type 0
ReadsScenario left rest = ReadsSuch left rest (λ scenario. Unit {0})

-- the bytes read are all of the source, or more than a scenario may have, and they are no scenario
pub record ReadsNone (left rest : Option (List ℕ)) (refusal : Refusal) : Type 0 where
  pub bytes : List ℕ
  pub came : Consumes left rest bytes
  pub enough : IsAtEnd rest ⊎ (byte_limit < length bytes)
  pub spells_none : scenario_of false builts.Loads bytes ≡ Err refusal

-- what each status says of what was read and of the counts of faults, where a scenario is to be played
abbrev pub HasReadCause : Status → Option (List ℕ) → Option (List ℕ) → ℕ → ℕ → Type 0
HasReadCause statuses.Done left rest before now = ReadsScenario left rest
HasReadCause statuses.Usage left rest before now = rest ≡ left
HasReadCause (statuses.Scenario refusal) left rest before now = ReadsNone left rest refusal
HasReadCause statuses.ReadFault left rest before now = Rose before now
HasReadCause statuses.WriteFault left rest before now = ReadsScenario left rest
HasReadCause statuses.OutOfMemory left rest before now = Unit {0}
HasReadCause statuses.LogFull left rest before now = ReadsScenario left rest
HasReadCause (statuses.UrlOverflow overflowed) left rest before now = Unit {0}

-- what each status says of what was written, where this text is due
abbrev pub HasWriteCause : Status → Option (List ℕ) → Option (List ℕ) → Option (List ℕ) → ℕ → ℕ → Type 0
HasWriteCause statuses.Done due before after old now = IsSomeAnd due (λ text. Appends before after text)
HasWriteCause statuses.Usage due before after old now = after ≡ before
HasWriteCause (statuses.Scenario refusal) due before after old now = after ≡ before
HasWriteCause statuses.ReadFault due before after old now = after ≡ before
HasWriteCause statuses.WriteFault due before after old now = Rose old now × IsSomeAnd due (λ text. WritesPart before after text)
HasWriteCause statuses.OutOfMemory due before after old now = after ≡ before
HasWriteCause statuses.LogFull due before after old now = after ≡ before
HasWriteCause (statuses.UrlOverflow overflowed) due before after old now = after ≡ before

-- how the log follows the scenario that was played: to the end; or, in a log that is full, up to an event that was due; or up to a moment
abbrev pub FollowsAs : Status → Option (List LogRow) → Scenario → Type 0
FollowsAs statuses.Done log scenario = IsSomeAnd log (λ rows. Follows rows scenario)
FollowsAs statuses.Usage log scenario = IfSome log (λ rows. FollowsUpTo rows scenario)
FollowsAs (statuses.Scenario refusal) log scenario = IfSome log (λ rows. FollowsUpTo rows scenario)
FollowsAs statuses.ReadFault log scenario = IfSome log (λ rows. FollowsUpTo rows scenario)
FollowsAs statuses.WriteFault log scenario = IsSomeAnd log (λ rows. Follows rows scenario)
FollowsAs statuses.OutOfMemory log scenario = IfSome log (λ rows. FollowsUpTo rows scenario)
FollowsAs statuses.LogFull log scenario =
    IsSomeAnd log (λ rows. IsCutShort rows scenario × (row_limit ≤ length rows))
FollowsAs (statuses.UrlOverflow overflowed) log scenario = IfSome log (λ rows. FollowsUpTo rows scenario)

-- what each status says of the log and of the scenario that was read: the log follows it; where none was read, there is no log
abbrev pub FollowsRead : Status → Option (List ℕ) → Option (List ℕ) → Option (List LogRow) → Type 0
FollowsRead statuses.Done left rest log = ReadsSuch left rest (FollowsAs statuses.Done log)
FollowsRead statuses.Usage left rest log = log ≡ None
FollowsRead (statuses.Scenario refusal) left rest log = log ≡ None
FollowsRead statuses.ReadFault left rest log = log ≡ None
FollowsRead statuses.WriteFault left rest log = ReadsSuch left rest (FollowsAs statuses.WriteFault log)
FollowsRead statuses.OutOfMemory left rest log =
    IfSome log (λ rows. ReadsSuch left rest (λ scenario. FollowsUpTo rows scenario))
FollowsRead statuses.LogFull left rest log = ReadsSuch left rest (FollowsAs statuses.LogFull log)
FollowsRead (statuses.UrlOverflow overflowed) left rest log =
    IfSome log (λ rows. ReadsSuch left rest (λ scenario. FollowsUpTo rows scenario))

-- ---- by what the words ask

-- nothing was read: what is left of the source, and its count of faults, are as they were
pub record IsUnread (left rest : Option (List ℕ)) (before now : ℕ) : Type 0 where
  pub bytes : rest ≡ left
  pub count : now ≡ before

-- what a call may end with that makes a scenario and writes its text
abbrev pub IsMakeEnd : Status → Type 0
IsMakeEnd statuses.Done = Unit {0}
IsMakeEnd statuses.Usage = ⊥
IsMakeEnd (statuses.Scenario refusal) = ⊥
IsMakeEnd statuses.ReadFault = ⊥
IsMakeEnd statuses.WriteFault = Unit {0}
IsMakeEnd statuses.OutOfMemory = Unit {0}
IsMakeEnd statuses.LogFull = ⊥
IsMakeEnd (statuses.UrlOverflow overflowed) = Unit {0}

-- what was read: where a scenario is to be played, what the status says; else nothing, and a call that makes one ends as such a call may
abbrev pub ReadsFor : Option Work → Status → Option (List ℕ) → Option (List ℕ) → ℕ → ℕ → Type 0
ReadsFor (Some (works.Play output)) status left rest before now = HasReadCause status left rest before now
ReadsFor (Some (works.Make n)) status left rest before now = IsUnread left rest before now × IsMakeEnd status
ReadsFor None status left rest before now = IsUnread left rest before now

-- the log: where a scenario is to be played, it follows the one that was read; else there is none
abbrev pub FollowsFor : Option Work → Status → Option (List ℕ) → Option (List ℕ) → Option (List LogRow) → Type 0
FollowsFor (Some (works.Play output)) status left rest log = FollowsRead status left rest log
FollowsFor (Some (works.Make n)) status left rest log = log ≡ None
FollowsFor None status left rest log = log ≡ None

-- ---- what has no cause doesn't come

-- neither want of memory nor an overflow of `url`
abbrev pub IsDecided : Status → Type 0
IsDecided statuses.Done = Unit {0}
IsDecided statuses.Usage = Unit {0}
IsDecided (statuses.Scenario refusal) = Unit {0}
IsDecided statuses.ReadFault = Unit {0}
IsDecided statuses.WriteFault = Unit {0}
IsDecided statuses.OutOfMemory = ⊥
IsDecided statuses.LogFull = Unit {0}
IsDecided (statuses.UrlOverflow overflowed) = ⊥

-- the words ask to play a scenario, the source tells its bytes, its count of faults didn't rise, and there was memory
pub record IsHeard (words : List (List ℕ)) (bytes : List ℕ) (left : Option (List ℕ)) (before now : ℕ) (status : Status) : Type 0 where
  pub asks : asks_to_play (work_of words) ≡ true
  pub told : left ≡ Some bytes
  pub read : ¬ (Rose before now)
  pub decided : IsDecided status

-- and the sink's count didn't rise, and the log has room wherever an event of the scenario is due
pub record IsUnhindered (scenario : Scenario) (before now : ℕ) (log : Option (List LogRow)) : Type 0 where
  pub written : ¬ (Rose before now)
  pub room : IfSome log (λ rows. IsCutShort rows scenario → length rows < row_limit)

-- ---- the parts of a call

-- what a call may end with once the scenario was read
abbrev pub IsPlayEnd : Status → Type 0
IsPlayEnd statuses.Done = Unit {0}
IsPlayEnd statuses.Usage = ⊥
IsPlayEnd (statuses.Scenario refusal) = ⊥
IsPlayEnd statuses.ReadFault = ⊥
IsPlayEnd statuses.WriteFault = Unit {0}
IsPlayEnd statuses.OutOfMemory = Unit {0}
IsPlayEnd statuses.LogFull = Unit {0}
IsPlayEnd (statuses.UrlOverflow overflowed) = Unit {0}

-- what it may end with where no scenario was read
abbrev pub IsReadEnd : Status → Type 0
IsReadEnd statuses.Done = ⊥
IsReadEnd statuses.Usage = ⊥
IsReadEnd (statuses.Scenario refusal) = Unit {0}
IsReadEnd statuses.ReadFault = Unit {0}
IsReadEnd statuses.WriteFault = ⊥
IsReadEnd statuses.OutOfMemory = Unit {0}
IsReadEnd statuses.LogFull = ⊥
IsReadEnd (statuses.UrlOverflow overflowed) = Unit {0}

-- a scenario that was read, or a status with its cause
abbrev pub ReadsAs : Result Scenario Status → Option (List ℕ) → Option (List ℕ) → ℕ → ℕ → Type 0
ReadsAs (Ok scenario) left rest before now = ReadsSuch left rest (λ other. other ≡ scenario)
ReadsAs (Err status) left rest before now = HasReadCause status left rest before now × IsReadEnd status

-- the scenario that bytes spell, or a status that says why there is none
abbrev pub SpellsAs : Result Scenario Status → List ℕ → Type 0
SpellsAs (Ok scenario) bytes = scenario_of false builts.Loads bytes ≡ Ok scenario
SpellsAs (Err (statuses.Scenario refusal)) bytes = scenario_of false builts.Loads bytes ≡ Err refusal
SpellsAs (Err (statuses.UrlOverflow overflowed)) bytes = Unit {0}
SpellsAs (Err statuses.OutOfMemory) bytes = Unit {0}
SpellsAs (Err _) bytes = ⊥
