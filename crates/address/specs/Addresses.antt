-- An address: a URL of http or https with no user name and no password, or about:blank, as its written text.
-- URL Standard, "URL parsing" and "URL serializing"; HTML Standard, "can have its URL rewritten" and
-- "navigate to a fragment". The limits, and which schemes count, are this project's own.
use Rattle.std.specs.Prelude.{◌≡◌, ◌==◌, ℕ, Bool, true, false, not, ◌||◌, ◌&&◌, List, [], ◌++◌, length, codes, bytes_eq, nat_lt, nat_le, Option, Some, None, option_and_then, Result, Ok, Err, MatchResult, if◌then◌else◌}
use Rattle.std.specs.List.{list_all}
use Rattle.std.specs.Str.{is_utf8}
use Rattle.std.specs.Result.{result_ok}
use Rattle.std.specs.Option.{option_map_or}
use Rattle.url.specs.declared.slicing.Position.TheVariants.{BeforeScheme, AfterPort, AfterQuery}
use Rattle.url.specs.Parts.{Parts, IsValid, has_credentials, serialize, text_between}
use Rattle.url.specs.Canonical.{IsCanonical}
use Rattle.url.specs.Parser.{parse_url, Parsed}
use Rattle.url.specs.Setters.{set_fragment}
use Rattle.address.specs.declared.error.AddressError.{AddressError}
use Rattle.address.specs.declared.error.AddressError.TheVariants as errors

-- why a text is no address, in the order of the tests
pub data Fault : Type 0 where
  too_long : Fault
  not_url : Fault
  bad_scheme : Fault
  has_user : Fault

-- the written text of about:blank
abbrev pub blank_text : List ℕ
blank_text = codes "about:blank"

-- the URL's scheme is http or https
unfoldable pub is_web : Parts → Bool
is_web url = bytes_eq url.scheme (codes "http") || bytes_eq url.scheme (codes "https")

-- the text of a URL without `#` and fragment
abbrev pub base_text : Parts → List ℕ
base_text url = text_between url BeforeScheme AfterQuery

-- the URL, its fragment aside, is about:blank
unfoldable pub is_blank_url : Parts → Bool
is_blank_url url = bytes_eq (base_text url) blank_text

-- the written text of a URL that may be an address, or the first test that it fails
unfoldable pub judged : Parts → Result (List ℕ) Fault
judged url =
    if not (is_web url || is_blank_url url) then Err bad_scheme
    else (if has_credentials url then Err has_user
    else (if nat_le (length (serialize url)) 2048 then Ok (serialize url) else Err too_long))

-- what the parser gave, judged
unfoldable pub judged_parse : Parsed Parts → Result (List ℕ) Fault
judged_parse (Ok url) = judged url
judged_parse (Err e) = Err not_url

-- the address that bytes spell, against a base URL where there is one
unfoldable pub read_against : Option Parts → List ℕ → Result (List ℕ) Fault
read_against base bytes =
    if not (nat_le (length bytes) 2048) then Err too_long
    else (if is_utf8 bytes then judged_parse (parse_url base bytes) else Err not_url)

-- the address that bytes spell
unfoldable pub address_of : List ℕ → Result (List ℕ) Fault
address_of bytes = read_against None bytes

-- the URL that an address's text reads as
unfoldable pub url_of : List ℕ → Option Parts
url_of text = result_ok (parse_url None text)

-- the address that a reference spells, read against an address
unfoldable pub resolved : List ℕ → List ℕ → Result (List ℕ) Fault
resolved text reference = read_against (url_of text) reference

-- the address with another fragment
unfoldable pub with_fragment : List ℕ → List ℕ → Result (List ℕ) Fault
with_fragment text fragment =
    if not (is_utf8 fragment) then Err not_url
    else option_map_or (λ url. judged (set_fragment url (Some fragment))) (url_of text) (Err not_url)

-- an address without `#` and fragment
unfoldable pub base_of : List ℕ → List ℕ
base_of text = option_map_or base_text (url_of text) []

-- the fragment of an address
unfoldable pub fragment_of : List ℕ → Option (List ℕ)
fragment_of text = option_and_then (λ (url : Parts). url.fragment) (url_of text)

-- the scheme, host and port of a URL of http or https, which writes no user; none for another scheme
unfoldable pub origin_text : Parts → List ℕ
origin_text url = if is_web url then text_between url BeforeScheme AfterPort else []

-- the scheme, host and port of an address; empty for about:blank
unfoldable pub origin_of : List ℕ → List ℕ
origin_of text = option_map_or origin_text (url_of text) []

-- the address is its origin with the path `/`, no query and no fragment; about:blank has no origin
abbrev pub is_root : List ℕ → Bool
is_root text = bytes_eq text (origin_of text ++ codes "/")

-- two addresses are the same, their fragments aside
unfoldable pub has_same_base : List ℕ → List ℕ → Bool
has_same_base a b = bytes_eq (base_of a) (base_of b)

-- "can have its URL rewritten": scheme, host and port stay; in http and https path, query and fragment
-- may differ, in about:blank the fragment alone
unfoldable pub is_rewritable : List ℕ → List ℕ → Bool
is_rewritable from to = bytes_eq (origin_of from) (origin_of to)

-- the error is that fault; an overflow of `url` and want of memory say nothing
abbrev pub IsFault : AddressError → Result (List ℕ) Fault → Type 0
IsFault errors.TooLong expected = expected ≡ Err too_long
IsFault errors.NotUrl expected = expected ≡ Err not_url
IsFault errors.BadScheme expected = expected ≡ Err bad_scheme
IsFault errors.HasUser expected = expected ≡ Err has_user
IsFault (errors.UrlOverflow _) expected = Unit {0}
IsFault errors.OutOfMemory expected = Unit {0}

-- the error is one that another fragment may have
abbrev pub IsFragmentError : AddressError → Type 0
IsFragmentError errors.TooLong = Unit {0}
IsFragmentError errors.NotUrl = Unit {0}
IsFragmentError errors.BadScheme = ⊥
IsFragmentError errors.HasUser = ⊥
IsFragmentError (errors.UrlOverflow _) = Unit {0}
IsFragmentError errors.OutOfMemory = Unit {0}

-- the result is the expected address or fault, unless `url` overflowed or there was no memory
abbrev pub Reads : Result (List ℕ) AddressError → Result (List ℕ) Fault → Type 0
Reads result expected = MatchResult result (λ text. expected ≡ Ok text) (λ e. IsFault e expected)

-- a byte that an address is written in: above a space, of ASCII, and no delete
abbrev pub is_address_byte : ℕ → Bool
is_address_byte b = nat_lt 32 b && nat_le b 126

-- the origin of an address, a word of such bytes, reads as the address
pub record ReadsAsRoot (text : List ℕ) : Type 0 where
  pub some : (length (origin_of text) == 0) ≡ false
  pub bytes : list_all is_address_byte (origin_of text) ≡ true
  pub reads : address_of (origin_of text) ≡ Ok text

-- what every address keeps: its text, a word of such bytes, reads as itself; where it is its origin and `/`, so does the origin
pub record IsAddress (text : List ℕ) : Type 0 where
  pub some : (length text == 0) ≡ false
  pub bytes : list_all is_address_byte text ≡ true
  pub reads : address_of text ≡ Ok text
  pub root : is_root text ≡ true → ReadsAsRoot text

-- what the URL of every address keeps: it is judged one, and its text reads as it
pub record IsAddressUrl (url : Parts) : Type 0 where
  pub fits : judged url ≡ Ok (serialize url)
  pub reads : parse_url None (serialize url) ≡ Ok url
  pub valid : IsValid url
  pub canonical : IsCanonical url
