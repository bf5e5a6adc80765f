-- about:blank is an address.
use Rattle.std.proofs.Common.{◌≡◌, List, [], ℕ, Ok, refl}
use Rattle.std.specs.Prelude.{None}
use Rattle.url.proofs.OnLiterals.{url_on_literals}
use Rattle.address.specs.Addresses.{address_of, base_of, blank_text, fragment_of, is_blank_url, is_web, judged, judged_parse, origin_of, origin_text, read_against, url_of}

-- its text is read as itself
address_of-blank : address_of blank_text ≡ Ok blank_text
unfolding url_on_literals address_of read_against judged_parse judged is_web is_blank_url
address_of-blank = refl

base_of-blank : base_of blank_text ≡ blank_text
unfolding url_on_literals base_of url_of
base_of-blank = refl

fragment_of-blank : fragment_of blank_text ≡ None
unfolding url_on_literals fragment_of url_of
fragment_of-blank = refl

origin_of-blank : origin_of blank_text ≡ []
unfolding url_on_literals origin_of url_of origin_text is_web
origin_of-blank = refl

-- so what is read of it is that text
pub blank_text-read : (read : List ℕ) → address_of blank_text ≡ Ok read → read ≡ blank_text
blank_text-read read given = let own = address_of-blank in cc

pub base_of-read_blank : (read : List ℕ) → address_of blank_text ≡ Ok read → base_of read ≡ blank_text
base_of-read_blank read given = rw (blank_text-read read given) base_of-blank

pub fragment_of-read_blank : (read : List ℕ) → address_of blank_text ≡ Ok read → fragment_of read ≡ None
fragment_of-read_blank read given = rw (blank_text-read read given) fragment_of-blank

pub origin_of-read_blank : (read : List ℕ) → address_of blank_text ≡ Ok read → origin_of read ≡ []
origin_of-read_blank read given = rw (blank_text-read read given) origin_of-blank
