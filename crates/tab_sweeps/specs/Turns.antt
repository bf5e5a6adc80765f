-- While the stray documents are discarded, one after the other.
-- This project's own; HTML Standard, "destroy a document".
use Rattle.seen_facts.specs.Hang.Members.{Has}
use Rattle.log_model.specs.Equal.{has_doc}
use Rattle.log_model.specs.Places.{aim_of, all_stand}
use Rattle.log_model.specs.Seen.{Seen}
use Rattle.log_model.specs.declared.row_kind.RowKind.{RowKind}
use Rattle.row_facts.specs.Owed.Owed.{IsLoose}
use Rattle.seen_laws.specs.InEvent.{now_of}
use Rattle.std.specs.Prelude.{List, None, Some, [], drop, filter_map, length, map, slice_get, take, true, ℕ, ◌++◌, ◌<◌, ◌∷◌, ◌≡◌, ◌≤◌}
use Rattle.tab_doors.specs.declared.tables.Tables.{Tables}
use Rattle.tab_ids.specs.declared.DocId.{DocId}
use Rattle.tab_ids.specs.declared.ReqId.{ReqId}
use Rattle.tab_ids.specs.declared.StateId.{StateId}
use Rattle.tab_passes.specs.Leaving.{IsLeavingIn}
use Rattle.tab_passes.specs.Passing.{InPass}
use Rattle.tab_sweeps.specs.Sweeping.{AreAscending, AreBlamed, IsStray, IsSweepOf, StraysAreLeft, ordered_number}

-- the numbers of documents
abbrev pub numbers_of : List DocId → List ℕ
numbers_of docs = map (λ (doc : DocId). doc.0) docs

-- a document of this number is stray
pub record IsAnyStray (s : Seen) (doc : DocId) : Type 0 where
  pub state : StateId
  pub stray : IsStray s doc state

-- these are the stray documents, in the order of their numbers
pub record AreStrays (s : Seen) (docs : List DocId) : Type 0 where
  pub each : (doc : DocId) → has_doc docs doc ≡ true → IsAnyStray s doc
  pub all : (doc : DocId) (state : StateId) → IsStray s doc state → has_doc docs doc ≡ true
  pub ascending : AreAscending (numbers_of docs)

-- these are still to be discarded, and no other document is to be frozen or discarded
pub record IsSweeping (p : InPass) (blame : List (StateId × ReqId)) (docs : List DocId) (out : List RowKind) (t : Tables) : Type 0 where
  pub leaving : IsLeavingIn true p None docs out t
  pub loose : all_stand (now_of p.event out) (aim_of (now_of p.event out)) ≡ true → IsLoose p.event out
  pub few : length (now_of p.event out).kept ≤ t.kept.keep
  pub blamed : AreBlamed (now_of p.event out) blame
  pub lefts : StraysAreLeft p.event out blame
  pub strays : AreStrays (now_of p.event out) docs

-- where one is: those that are still to be
pub record InSweep : Type 0 where
  pub pass : InPass
  pub docs : List DocId

-- it is the turn of the next one of a list
pub record IsSweepTurn (n : InSweep) (docs : List DocId) (i : ℕ) : Type 0 where
  pub low : i < length docs
  pub left : n.docs ≡ drop i docs

-- so many of a list were
abbrev pub IsSweepingAt : InPass → List (StateId × ReqId) → List DocId → ℕ → List RowKind → Tables → Type 0
IsSweepingAt p blame docs i out t = IsSweeping p blame (drop i docs) out t

-- orders that discard the documents of a list, one after the other, were put out
pub record HasSweptEach (s : Seen) (blame : List (StateId × ReqId)) (docs : List DocId) (was out : List RowKind) : Type 0 where
  pub more : List RowKind
  pub is : out ≡ was ++ more
  pub each : (row : RowKind) → Has more row → IsSweepOf s blame row
  pub numbers : filter_map ordered_number more ≡ numbers_of docs

-- those of the first ones, this many
abbrev pub HasSweptFirst : Seen → List (StateId × ReqId) → List DocId → ℕ → List RowKind → List RowKind → Type 0
HasSweptFirst s blame docs i was out = HasSweptEach s blame (take i docs) was out

-- that of the next one
abbrev pub HasSweptNext : Seen → List (StateId × ReqId) → List DocId → ℕ → List RowKind → List RowKind → Type 0
HasSweptNext s blame docs i was out = (doc : DocId) → slice_get docs i ≡ Some doc → HasSweptEach s blame (doc ∷ []) was out
