-- What the URL of an address keeps, and what its text reads as.
use Rattle.std.proofs.Common.{◌≡◌, ℕ, ◌≤◌, List, Ok, Err, Some, length, refl, arith}
use Rattle.std.specs.Prelude.{Bool, Option, Result, IfSome, None, true, false, nat_le, not, ◌||◌, if◌then◌else◌}
use Rattle.std.specs.Str.{is_utf8}
use Rattle.std.proofs.lemmas.Bool.Decides.{nat_tests}
use Rattle.std.proofs.lemmas.Str.{IsUtf8-from_ascii, is_utf8-from_IsUtf8}
use Rattle.url.specs.Canonical.{IsCanonical}
use Rattle.url.specs.Parser.{parse_url}
use Rattle.url.specs.Parts.{Parts, IsValid, has_credentials, serialize}
use Rattle.url.proofs.ParsedCanonical.{parse_url_canonical}
use Rattle.url.proofs.Theorems.{parse_url-serialize}
use Rattle.url.proofs.ValidLemmas.{IsAscii-serialize}
use Rattle.address.specs.Addresses.{IsAddressUrl, Fault, bad_scheme, has_user, too_long, address_of, base_of, base_text, fragment_of, is_blank_url, is_web, judged, judged_parse, origin_of, origin_text, read_against, url_of}

-- the tests that a URL has passed
pub record Passes (url : Parts) : Type 0 where
  pub scheme : not (is_web url || is_blank_url url) ≡ false
  pub user : has_credentials url ≡ false
  pub short : nat_le (length (serialize url)) 2048 ≡ true

-- the judgement, by its three tests
abbrev pub verdict : Bool → Bool → Bool → List ℕ → Result (List ℕ) Fault
verdict bad user short text = if bad then Err bad_scheme else (if user then Err has_user else (if short then Ok text else Err too_long))

passed : (bad user short : Bool) (text read : List ℕ) → verdict bad user short text ≡ Ok read → (bad ≡ false) × (user ≡ false) × (short ≡ true)
passed true user short text read fits = cc
passed false true short text read fits = cc
passed false false true text read fits = (refl, refl, refl)
passed false false false text read fits = cc

-- a URL that is judged an address has passed each test
pub Passes-from_judged : (url : Parts) (read : List ℕ) → judged url ≡ Ok read → Passes url
unfolding judged
Passes-from_judged url read fits =
    let tests = passed (not (is_web url || is_blank_url url)) (has_credentials url) (nat_le (length (serialize url)) 2048) (serialize url) read fits in
    record { scheme = tests.0; user = tests.1; short = tests.2 }

-- once the first two tests are passed the length decides
by_length : (bad user short : Bool) (text : List ℕ) → bad ≡ false → user ≡ false → verdict bad user short text ≡ (if short then Ok text else Err too_long)
by_length bad user short text good free = rw (good, free) refl

pub judged_by_length : (url : Parts) → not (is_web url || is_blank_url url) ≡ false → has_credentials url ≡ false → judged url ≡ (if nat_le (length (serialize url)) 2048 then Ok (serialize url) else Err too_long)
unfolding judged
judged_by_length url = by_length (not (is_web url || is_blank_url url)) (has_credentials url) (nat_le (length (serialize url)) 2048) (serialize url)

-- the URL that an address's text reads as is its own
pub url_of-serialize : (url : Parts) (text : List ℕ) → serialize url ≡ text → IsAddressUrl url → url_of text ≡ Some url
unfolding url_of
url_of-serialize url text spelled kept = rw (← spelled, kept.reads) refl

-- what is read against an address's URL is canonical
pub parsed_canonical : (base : Option Parts) (bytes : List ℕ) (url : Parts) → IfSome base IsAddressUrl → parse_url base bytes ≡ Ok url → IsValid url → IsCanonical url
parsed_canonical None bytes url kept parsed valid = parse_url_canonical None bytes url tt valid parsed
parsed_canonical (Some base) bytes url kept parsed valid = parse_url_canonical (Some base) bytes url (kept.valid, kept.canonical) valid parsed

-- a URL that is judged an address keeps what every address does
pub IsAddressUrl-from_judged : (url : Parts) → IsValid url → IsCanonical url → judged url ≡ Ok (serialize url) → IsAddressUrl url
IsAddressUrl-from_judged url valid canonical fits = record {
  fits = fits;
  reads = parse_url-serialize url None valid canonical;
  valid = valid;
  canonical = canonical;
}

-- an address's text is short
pub address_is_short : (url : Parts) (text : List ℕ) → serialize url ≡ text → IsAddressUrl url → length text ≤ 2048
address_is_short url text spelled kept =
    let short = (Passes-from_judged url _ kept.fits).short in rw (← spelled) (grind (arith, nat_tests, short))

-- an address's text reads as itself
pub serialize_reads : (url : Parts) → IsAddressUrl url → address_of (serialize url) ≡ Ok (serialize url)
unfolding address_of read_against judged_parse
serialize_reads url kept =
    let short = (Passes-from_judged url _ kept.fits).short in
    let utf8 : is_utf8 (serialize url) ≡ true = is_utf8-from_IsUtf8 _ (IsUtf8-from_ascii _ (IsAscii-serialize url kept.valid)) in
    rw (short, utf8, kept.reads) kept.fits

-- the readers of an address's text read its URL
pub base_of-text : (url : Parts) (text : List ℕ) → serialize url ≡ text → IsAddressUrl url → base_of text ≡ base_text url
unfolding base_of
base_of-text url text spelled kept = rw (url_of-serialize url text spelled kept) refl

pub fragment_of-text : (url : Parts) (text : List ℕ) → serialize url ≡ text → IsAddressUrl url → fragment_of text ≡ url.fragment
unfolding fragment_of
fragment_of-text url text spelled kept = rw (url_of-serialize url text spelled kept) refl

pub origin_of-text : (url : Parts) (text : List ℕ) → serialize url ≡ text → IsAddressUrl url → origin_of text ≡ origin_text url
unfolding origin_of
origin_of-text url text spelled kept = rw (url_of-serialize url text spelled kept) refl

pub ruleset readers = (base_of-text, fragment_of-text, origin_of-text)

pub ruleset of_url = (url_of-serialize)

pub ruleset parsed = (parsed_canonical)

pub ruleset kept = (IsAddressUrl-from_judged)
