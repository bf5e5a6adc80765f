-- What a crate above may cite of a reading or a writing whose bytes are told.
use Rattle.std.proofs.Common.{◌≡◌, ℕ, ◌<◌, List, [], ◌++◌, None, Some, Ok, Err, length, take, drop, refl, sym, ap, ◌∙◌, arith, append-nil, length-append, drop_at}
use Rattle.std.specs.declared.option.Option.{Option}
use Rattle.tab_io.specs.Streams.{IsRest, ReadsAll, ReadsBeyond, WritesAll}
use Rattle.tab_io.specs.declared.error.WriteFault.{WriteFault}

-- all that was left is the text, and nothing is left
pub whole_from_ok : (xs : List ℕ) (new : Option (List ℕ)) (limit : ℕ) (text : List ℕ) → ReadsAll (Some xs) new limit (Ok text) → (text ≡ xs) × (new ≡ Some [])
whole_from_ok xs None limit text reads = absurd reads.0
whole_from_ok xs (Some rest) limit text reads =
    (sym (reads.0 ∙ ap (λ l. text ++ l) reads.1 ∙ append-nil text), ap Some reads.1)

-- an input that is too long has more bytes than the limit
pub long_from_beyond : (xs : List ℕ) (new : Option (List ℕ)) (limit : ℕ) → ReadsBeyond (Some xs) new limit → limit < length xs
long_from_beyond xs None limit (bytes, came, long) = absurd came
long_from_beyond xs (Some rest) limit (bytes, came, long) =
    omega (arith, ap length came ∙ length-append bytes rest)

-- and is never read whole
pub no_text_where_long : (xs : List ℕ) (new : Option (List ℕ)) (limit : ℕ) (text : List ℕ) → limit < length xs → ¬ (ReadsAll (Some xs) new limit (Ok text))
no_text_where_long xs new limit text long reads =
    omega (arith, reads.2, ap length (whole_from_ok xs new limit text reads).0)

-- what is left is a rest of what was left
pub rest_is_told : (xs : List ℕ) (new : Option (List ℕ)) → IsRest (Some xs) new → (count : ℕ) × (new ≡ Some (drop count xs))
rest_is_told xs None (bytes, came) = absurd came
rest_is_told xs (Some rest) (bytes, came) =
    (length bytes, ap Some (sym (ap (drop (length bytes)) came ∙ drop_at bytes rest (length bytes) refl)))

-- all bytes were taken after those before
pub taken_from_ok : (xs : List ℕ) (new : Option (List ℕ)) (bytes : List ℕ) → WritesAll (Some xs) new bytes (Ok tt) → new ≡ Some (xs ++ bytes)
taken_from_ok xs None bytes writes = absurd writes
taken_from_ok xs (Some ys) bytes writes = ap Some writes

-- the bytes before some place were taken after those before
pub taken_from_fault : (xs : List ℕ) (new : Option (List ℕ)) (bytes : List ℕ) (fault : WriteFault) → WritesAll (Some xs) new bytes (Err fault) → (count : ℕ) × (count < length bytes) × (new ≡ Some (xs ++ take count bytes))
taken_from_fault xs None bytes fault (count, within, taken) = absurd taken
taken_from_fault xs (Some ys) bytes fault (count, within, taken) = (count, within, ap Some taken)
