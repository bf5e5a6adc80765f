-- Pieces of bytes, one after another.
use Rattle.std.proofs.Common.{◌≡◌, ℕ, ◌+◌, ◌-◌, List, ◌++◌, length, take, drop, sym, subst}
use Rattle.std.proofs.Common.{take-add}
use Rattle.std.proofs.KnownBytes.{Appends-trans, Consumes-trans}
use Rattle.std.proofs.lemmas.List.{take_rest}
use Rattle.std.specs.declared.option.Option.{Option}
use Rattle.std.specs.Io.KnownBytes.{Appends, Consumes}
use Rattle.tab_io.specs.Streams.{IsRestAfter, KeepsCame}

-- the bytes before a place were taken, and then some from there on
pub Appends-piece : (a b c : Option (List ℕ)) (bytes : List ℕ) (at count : ℕ) → Appends a b (take at bytes) → Appends b c (take count (take (length bytes - at) (drop at bytes))) → Appends a c (take (at + count) bytes)
Appends-piece a b c bytes at count before piece =
    let rest : Appends b c (take count (drop at bytes)) = subst (λ xs. Appends b c (take count xs)) (take_rest bytes at) piece in
    subst (Appends a c) (sym (take-add at count bytes)) (Appends-trans a b c (take at bytes) (take count (drop at bytes)) before rest)

-- a piece came after the bytes before
pub KeepsCame-piece : (old new : Option (List ℕ)) (before piece after : List ℕ) → after ≡ before ++ piece → Consumes old new piece → KeepsCame old new before after
KeepsCame-piece old new before piece after grown came start first =
    subst (Consumes start new) (sym grown) (Consumes-trans start old new before piece first came)

pub IsRestAfter-piece : (old new : Option (List ℕ)) (before piece : List ℕ) → Consumes old new piece → IsRestAfter old new before
IsRestAfter-piece old new before piece came start first = (before ++ piece, Consumes-trans start old new before piece first came)

pub ruleset pieces = (KeepsCame-piece, IsRestAfter-piece)
