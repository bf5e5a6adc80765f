-- Which bytes an address is written in, and what its origin reads as.
use Rattle.std.proofs.Common.{◌≡◌, ◌⊎◌, ℕ, ◌<◌, Bool, true, false, cond, not, ◌&&◌, ◌||◌, ◌==◌, List, [], ◌∷◌, length, drop, Some, None, All, refl, sym, ap, subst, ◌∙◌, inl, inr, ⊎_elim, arith, length-append}
use Rattle.std.specs.Prelude.{Option, unwrap_or, option_map, decimal, codes, bytes_eq, nat_le}
use Rattle.std.specs.List.{concat, list_all}
use Rattle.std.proofs.lemmas.Bool.{and_parts}
use Rattle.std.proofs.lemmas.Bool.Decides.{nat_tests}
use Rattle.std.proofs.lemmas.Fmt.{digits_decimal}
use Rattle.std.proofs.lemmas.List.Elements.{All-nil, All-cons, All-append, All-weaker, All-from_get_or}
use Rattle.std.proofs.lemmas.List.Sums.{list_all-from_AllPass}
use Rattle.std.proofs.lemmas.Str.Parse.{numerals_by_value, tells_by_index}
use Rattle.std.proofs.lemmas.Slice.Eq.{bytes_eq-Decides}
use Rattle.percent_encoding.specs.declared.ascii_set.TheConstants.{CONTROLS}
use Rattle.percent_encoding.specs.Percent.{IsKept}
use Rattle.url.specs.declared.sets.TheConstants.{FRAGMENT, PATH, USERINFO, SPECIAL_QUERY, QUERY, FORBIDDEN_HOST, FORBIDDEN_DOMAIN}
use Rattle.url.specs.declared.host.Host.{Host}
use Rattle.url.specs.declared.host.Host.TheVariants.{Domain}
use Rattle.url.specs.declared.scheme.SchemeType.{SchemeType}
use Rattle.url.specs.declared.scheme.SchemeType.TheVariants.{File, SpecialNotFile, NotSpecial}
use Rattle.url.specs.Host.{host_text, IsHostOf}
use Rattle.url.specs.Input.{when}
use Rattle.url.specs.Parts.{Parts, IsValid, IsValidHead, IsPortOf, kind_of, host_or_empty, query_set, pieces, serialize}
use Rattle.url.specs.Scheme.{is_scheme_byte, is_special, scheme_type, default_port}
use Rattle.url.proofs.HostLemmas.{All-host_text}
use Rattle.url.proofs.InputLemmas.{Passes}
use Rattle.url.proofs.PiecesLemmas.{option_cases, concat-split}
use Rattle.url.proofs.SchemeLemmas.{scheme_bytes}
use Rattle.url.proofs.SetLemmas.{passes_from_kept}
use Rattle.url.proofs.TextLemmas.{All-concat, All_one, All_kept, All_part}
use Rattle.url.proofs.ValidLemmas.{segment_list_kept, hierarchical, special_has_authority, base_from_authority}
use Rattle.address.specs.Addresses.{IsAddressUrl, base_text, blank_text, is_address_byte, is_blank_url, is_web}
use Rattle.address.proofs.Urls.{Passes-from_judged}

abbrev pub Fits : ℕ → Type 0
Fits b = Passes is_address_byte b

scheme_fits : (b : ℕ) → Passes is_scheme_byte b → Fits b
scheme_fits b passes = grind (arith, nat_tests)

marks_fit : (test : Bool) → All Fits (cond test (codes "://") (codes ":"))
marks_fit true = All-cons Fits 58 (47 ∷ 47 ∷ []) refl (All-cons Fits 47 (47 ∷ []) refl (All-cons Fits 47 [] refl (All-nil Fits)))
marks_fit false = All-cons Fits 58 [] refl (All-nil Fits)

guard_fits : (test : Bool) → All Fits (when test (codes "/."))
guard_fits true = All-cons Fits 47 (46 ∷ []) refl (All-cons Fits 46 [] refl (All-nil Fits))
guard_fits false = All-nil Fits

opaque_fits : (b : ℕ) → IsKept FORBIDDEN_HOST b → IsKept CONTROLS b → Fits b
opaque_fits b allowed visible =
    let no_space = passes_from_kept FORBIDDEN_HOST (λ x. not (x == 32)) refl b allowed in
    let between = passes_from_kept CONTROLS (λ x. nat_le 32 x && nat_le x 126) refl b visible in
    grind (arith, nat_tests)

host_fits : (kind : SchemeType) (host : Host (List ℕ)) → IsHostOf kind host → All Fits (host_text host)
host_fits kind host =
    All-host_text Fits kind host (passes_from_kept FORBIDDEN_DOMAIN is_address_byte refl) opaque_fits (λ b digit. grind (arith, nat_tests)) (λ b hex. grind (arith, nat_tests)) refl refl

own_host_fits : (url : Parts) → IsValidHead url → All Fits (host_text (host_or_empty url))
own_host_fits url valid =
    let P = λ (o : Option (Host (List ℕ))). All Fits (host_text (unwrap_or o (Domain []))) in
    ⊎_elim (λ none. subst P (sym none) (All-nil Fits)) (λ some. subst P (sym some.1) (host_fits (kind_of url) some.0 (rw some.1 at valid.host))) (option_cases url.host)

port_fits : (scheme : List ℕ) (port : Option ℕ) → IsPortOf scheme port → All Fits (unwrap_or (option_map decimal port) [])
port_fits scheme None valid = All-nil Fits
port_fits scheme (Some n) valid =
    All-from_get_or Fits (decimal n) 0 (λ i inside. let digit = digits_decimal (numerals_by_value _ tells_by_index) n (omega (arith, valid.0)) i inside in grind (arith, nat_tests))

query_fits : (kind : SchemeType) (b : ℕ) → IsKept (query_set kind) b → Fits b
query_fits File = passes_from_kept SPECIAL_QUERY is_address_byte refl
query_fits SpecialNotFile = passes_from_kept SPECIAL_QUERY is_address_byte refl
query_fits NotSpecial = passes_from_kept QUERY is_address_byte refl

fragment_fits : (url : Parts) → IsValid url → All Fits (unwrap_or url.fragment [])
fragment_fits url valid = All_part Fits FRAGMENT url.fragment (passes_from_kept FRAGMENT is_address_byte refl) valid.fragment

-- where the path fits, all fits
all_fit : (url : Parts) → IsValid url → All Fits url.path → All Fits (serialize url)
all_fit url valid path =
    All-concat Fits (pieces url) (
      All-weaker (Passes is_scheme_byte) Fits scheme_fits url.scheme (scheme_bytes url.scheme valid.head.scheme),
      (
        marks_fit _,
        (
          All_kept is_address_byte USERINFO refl url.username valid.head.username,
          (
            All_one Fits _ 58 refl,
            (
              All_kept is_address_byte USERINFO refl url.password valid.head.password,
              (
                All_one Fits _ 64 refl,
                (
                  own_host_fits url valid.head,
                  (
                    All_one Fits _ 58 refl,
                    (
                      port_fits url.scheme url.port valid.head.port,
                      (
                        guard_fits _,
                        (path, (All_one Fits _ 63 refl, (All_part Fits _ url.query (query_fits (kind_of url)) valid.query, (All_one Fits _ 35 refl, (fragment_fits url valid, tt))))),
                      ),
                    ),
                  ),
                ),
              ),
            ),
          ),
        ),
      ),
    )

-- ---- http and https

same_bytes : (a b : List ℕ) → bytes_eq a b ≡ true → a ≡ b
same_bytes a b e = (bytes_eq-Decides a b).0 e

http_kind : scheme_type (codes "http") ≡ SpecialNotFile
unfolding scheme_type default_port
http_kind = refl

https_kind : scheme_type (codes "https") ≡ SpecialNotFile
unfolding scheme_type default_port
https_kind = refl

pub web_kind : (url : Parts) → is_web url ≡ true → kind_of url ≡ SpecialNotFile
unfolding is_web
web_kind url web = by_tests (bytes_eq url.scheme (codes "http")) (bytes_eq url.scheme (codes "https")) refl refl web
  where
    by_tests : (a b : Bool) → bytes_eq url.scheme (codes "http") ≡ a → bytes_eq url.scheme (codes "https") ≡ b → (a || b) ≡ true → kind_of url ≡ SpecialNotFile
    by_tests true b at1 at2 e = ap scheme_type (same_bytes url.scheme (codes "http") at1) ∙ http_kind
    by_tests false true at1 at2 e = ap scheme_type (same_bytes url.scheme (codes "https") at2) ∙ https_kind
    by_tests false false at1 at2 e = cc

web_fits : (url : Parts) → IsValid url → is_web url ≡ true → All Fits (serialize url)
web_fits url valid web =
    let special : is_special (kind_of url) ≡ true = ap is_special (web_kind url web) in
    let path = hierarchical url valid.path (base_from_authority url (special_has_authority url valid.head special)) in
    all_fit url valid (All_kept is_address_byte PATH refl url.path (segment_list_kept _ url.path path.0))

-- ---- about:blank

pub all_from_list : (test : ℕ → Bool) (xs : List ℕ) → list_all test xs ≡ true → All (Passes test) xs
all_from_list test [] all = All-nil (Passes test)
all_from_list test (x ∷ xs) all = All-cons (Passes test) x xs (and_parts _ _ all).0 (all_from_list test xs (and_parts _ _ all).1)

blank_fits : (url : Parts) → IsValid url → is_blank_url url ≡ true → All Fits (serialize url)
unfolding is_blank_url
blank_fits url valid blank =
    let base : base_text url ≡ blank_text = same_bytes (base_text url) blank_text blank in
    let front : All Fits (base_text url) = subst (All Fits) (sym base) (all_from_list is_address_byte blank_text refl) in
    let back : All Fits (concat (drop 13 (pieces url))) = All-concat Fits (drop 13 (pieces url)) (All_one Fits _ 35 refl, (fragment_fits url valid, tt)) in
    subst (All Fits) (sym (concat-split (pieces url) 13)) (All-append Fits (base_text url) (concat (drop 13 (pieces url))) front back)

one_of : (web blank : Bool) → not (web || blank) ≡ false → (web ≡ true) ⊎ (blank ≡ true)
one_of true blank e = inl refl
one_of false true e = inr refl
one_of false false e = cc

-- an address is written in bytes from 33 to 126
pub address_fits : (url : Parts) → IsAddressUrl url → list_all is_address_byte (serialize url) ≡ true
address_fits url kept =
    let which = one_of (is_web url) (is_blank_url url) (Passes-from_judged url _ kept.fits).scheme in
    list_all-from_AllPass is_address_byte (serialize url) (⊎_elim (λ web. web_fits url kept.valid web) (λ blank. blank_fits url kept.valid blank) which)

-- and in some
pub address_some : (url : Parts) → IsAddressUrl url → (length (serialize url) == 0) ≡ false
address_some url kept =
    let scheme = kept.valid.head.scheme.nonempty in
    let long = length-append url.scheme (concat (drop 1 (pieces url))) in
    let some : 0 < length (serialize url) = omega arith in
    grind (arith, nat_tests)
