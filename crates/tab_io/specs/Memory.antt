-- Sources and sinks in memory, which fail at a chosen call. This project's own.
use Rattle.std.specs.Prelude.{ℕ, ◌+◌, ◌-◌, ◌^◌, min, Bool, nat_eq, List, Option, Some}
use Rattle.std.specs.Option.{option_eq}

-- a source or a sink in memory
pub record Memory : Type 0 where
  -- what a source has left, or a sink has taken
  pub bytes : List ℕ
  -- how many bytes a call moves at most
  pub chunk : ℕ
  -- the number of the call that fails, counted from 1
  pub failing : Option ℕ
  -- how many calls and how many faults there were, up to the last value of a u64
  pub calls : ℕ
  pub faults : ℕ

-- before the first call
abbrev pub fresh_memory : List ℕ → ℕ → Option ℕ → Memory
fresh_memory bytes chunk failing = record {
  bytes = bytes;
  chunk = chunk;
  failing = failing;
  calls = 0;
  faults = 0;
}

-- one more, up to the last value of a u64
abbrev pub one_more : ℕ → ℕ
one_more n = min (n + 1) (2 ^ 64 - 1)

-- after one more call
abbrev pub called : Memory → Memory
called m = record m { calls = one_more m.calls }

-- the call at hand is the one that fails
abbrev pub fails : Memory → Bool
fails m = option_eq nat_eq m.failing (Some m.calls)

-- after one more fault
abbrev pub faulted : Memory → Memory
faulted m = record m { faults = one_more m.faults }

-- how many bytes a call moves, of those that there are
abbrev pub moved : Memory → ℕ → ℕ
moved m there = min there m.chunk
