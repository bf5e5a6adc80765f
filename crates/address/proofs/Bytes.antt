-- Bytes that are UTF-8, as a fact and as a test.
use Rattle.std.proofs.Common.{◌≡◌, ℕ, false, List, ⊎_elim}
use Rattle.std.specs.Str.{IsUtf8, is_utf8}
use Rattle.std.proofs.lemmas.Bool.{cases_Bool}
use Rattle.std.proofs.lemmas.Str.{IsUtf8-from_is_utf8, is_utf8-from_IsUtf8}

-- bytes that are not UTF-8 fail the test
pub fails_utf8 : (bytes : List ℕ) → ¬ (IsUtf8 bytes) → is_utf8 bytes ≡ false
fails_utf8 bytes not_utf8 = ⊎_elim (λ passes. absurd (not_utf8 (IsUtf8-from_is_utf8 bytes passes))) (λ fails. fails) (cases_Bool (is_utf8 bytes))

pub ruleset utf8_tests = (fails_utf8, is_utf8-from_IsUtf8)
