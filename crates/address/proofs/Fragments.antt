-- An address's URL with another fragment.
use Rattle.std.proofs.Common.{◌≡◌, ◌≢◌, ℕ, ◌-◌, ◌<◌, ◌≤◌, List, [], ◌∷◌, ◌++◌, Ok, Err, Some, All, length, get_or, sym, ◌∙◌, ap, refl, subst, arith, append-nil, length-append}
use Rattle.std.specs.Prelude.{true, nat_le, if◌then◌else◌}
use Rattle.std.specs.Str.{is_utf8}
use Rattle.std.proofs.lemmas.Bool.{cond-true}
use Rattle.std.proofs.lemmas.Bool.Decides.{nat_tests}
use Rattle.std.proofs.lemmas.List.{get_or-append_right}
use Rattle.std.proofs.lemmas.List.Elements.{All-cons}
use Rattle.percent_encoding.specs.Percent.{percent_encode}
use Rattle.url.specs.declared.scheme.SchemeType.{SchemeType}
use Rattle.url.specs.declared.scheme.SchemeType.TheVariants.{File, SpecialNotFile, NotSpecial}
use Rattle.url.specs.declared.sets.TheConstants.{FRAGMENT}
use Rattle.url.specs.declared.slicing.Position.TheVariants.{AfterQuery}
use Rattle.url.specs.Canonical.{EndsVisibly, IsCanonical, IsCanonicalAs}
use Rattle.url.specs.Input.{strip_tabs_and_new_lines}
use Rattle.url.specs.Parts.{Parts, IsValid, kind_of, query_set, serialize, text_before}
use Rattle.url.specs.Setters.{set_fragment}
use Rattle.url.proofs.InputLemmas.{IsNot}
use Rattle.url.proofs.RoundTrip.{fragment_text}
use Rattle.url.proofs.SetLemmas.{All_kept_differs}
use Rattle.url.proofs.ValidLemmas.{IsValid-with_tail, option_unchanged}
use Rattle.address.specs.Addresses.{IsAddressUrl, base_of, origin_of, base_text, is_blank_url, is_web, judged, origin_text, too_long, with_fragment}
use Rattle.address.proofs.Urls.{IsAddressUrl-from_judged, base_of-text, origin_of-text, url_of-serialize, Passes-from_judged, judged_by_length}

-- the URL with this fragment, as it is written
abbrev pub fragmented : Parts → List ℕ → Parts
fragmented url fragment = record url { fragment = Some fragment }

-- a fragment of these bytes, as it is written
abbrev pub written : List ℕ → List ℕ
written bytes = percent_encode FRAGMENT (strip_tabs_and_new_lines bytes)

-- the query of a valid URL is escaped already, so another fragment changes nothing else
pub set_fragment-valid : (url : Parts) (bytes : List ℕ) → IsValid url → set_fragment url (Some bytes) ≡ fragmented url (written bytes)
set_fragment-valid url bytes valid =
    ap (λ query. record url { query = query; fragment = Some (written bytes) }) (option_unchanged (query_set (kind_of url)) url.query valid.query)

-- a text does not end with a byte that its last part has not
last_differs : (front back : List ℕ) (byte : ℕ) → 0 < length back → All (IsNot byte) back → get_or (front ++ back) (length (front ++ back) - 1) 0 ≢ byte
last_differs front back byte some differs last =
    let sum = length-append front back in
    let place : length (front ++ back) - 1 - length front ≡ length back - 1 = omega arith in
    let there = get_or-append_right front back (length front) (length (front ++ back) - 1) 0 refl (omega arith) in
    differs (length back - 1) 0 (omega arith) (ap (λ i. get_or back i 0) (sym place) ∙ sym there ∙ last)

-- a URL with a fragment does not end in a space
ends_visibly : (url : Parts) (fragment : List ℕ) → IsValid (fragmented url fragment) → EndsVisibly (fragmented url fragment)
ends_visibly url fragment valid =
    let new = fragmented url fragment in
    let back = 35 ∷ fragment ++ [] in
    let kept : All (IsNot 32) back = subst (λ part. All (IsNot 32) (35 ∷ part)) (sym (append-nil fragment)) (All-cons (IsNot 32) 35 fragment (λ e. omega arith) (All_kept_differs FRAGMENT 32 refl fragment valid.fragment)) in
    let text : serialize new ≡ text_before new AfterQuery ++ back = fragment_text new in
    rw text (last_differs (text_before new AfterQuery) back 32 (omega arith) kept)

canonical_as : (kind : SchemeType) (url : Parts) (fragment : List ℕ) → IsValid (fragmented url fragment) → IsCanonicalAs kind url → IsCanonicalAs kind (fragmented url fragment)
canonical_as File url fragment valid canonical = record { host = canonical.host; drive = canonical.drive }
canonical_as SpecialNotFile url fragment valid canonical = tt
canonical_as NotSpecial url fragment valid canonical = (canonical.0, ends_visibly url fragment valid, canonical.2)

-- another fragment leaves a canonical URL canonical
pub fragmented_canonical : (url : Parts) (bytes : List ℕ) → IsValid url → IsCanonical url → IsCanonical (set_fragment url (Some bytes))
fragmented_canonical url bytes valid canonical =
    let same = set_fragment-valid url bytes valid in
    let new_valid = subst IsValid same (IsValid-with_tail url url.query (Some (strip_tabs_and_new_lines bytes)) valid.head valid.path) in
    subst IsCanonical (sym same) (canonical_as (kind_of url) url (written bytes) new_valid canonical)

-- the judgement of a URL whose scheme, user and base are those of an address
abbrev pub ByLength : Parts → Type 0
ByLength url = judged url ≡ (if nat_le (length (serialize url)) 2048 then Ok (serialize url) else Err too_long)

fragmented_judged : (url : Parts) (fragment : List ℕ) → IsAddressUrl url → ByLength (fragmented url fragment)
unfolding is_web is_blank_url
fragmented_judged url fragment kept =
    let passes = Passes-from_judged url _ kept.fits in
    judged_by_length (fragmented url fragment) passes.scheme passes.user

-- another fragment changes neither the scheme, the user nor the base
pub judged-set_fragment : (url : Parts) (bytes : List ℕ) → IsAddressUrl url → ByLength (set_fragment url (Some bytes))
judged-set_fragment url bytes kept =
    subst ByLength (sym (set_fragment-valid url bytes kept.valid)) (fragmented_judged url (written bytes) kept)

-- the base and the origin stay
fragmented_parts : (url : Parts) (fragment : List ℕ) → (base_text (fragmented url fragment) ≡ base_text url) × (origin_text (fragmented url fragment) ≡ origin_text url)
unfolding is_web origin_text
fragmented_parts url fragment = (refl, refl)

pub set_fragment_parts : (url : Parts) (bytes : List ℕ) → IsValid url → (base_text (set_fragment url (Some bytes)) ≡ base_text url) × (origin_text (set_fragment url (Some bytes)) ≡ origin_text url)
set_fragment_parts url bytes valid =
    subst (λ (new : Parts). (base_text new ≡ base_text url) × (origin_text new ≡ origin_text url)) (sym (set_fragment-valid url bytes valid)) (fragmented_parts url (written bytes))

-- the new URL, where its text is short
module _ (url new : Parts) (bytes : List ℕ) (kept : IsAddressUrl url) (is_new : new ≡ set_fragment url (Some bytes)) (short : length (serialize new) ≤ 2048) where
  fits : judged new ≡ Ok (serialize new)
  fits =
      let by_length : ByLength new = subst ByLength (sym is_new) (judged-set_fragment url bytes kept) in
      let passes : nat_le (length (serialize new)) 2048 ≡ true = grind (arith, nat_tests) in
      by_length ∙ cond-true (nat_le (length (serialize new)) 2048) (Ok (serialize new)) (Err too_long) passes

  -- it is judged an address
  pub judged-short : judged (set_fragment url (Some bytes)) ≡ Ok (serialize new)
  judged-short = subst (λ (u : Parts). judged u ≡ Ok (serialize new)) is_new fits

  -- and keeps what every address does
  pub IsAddressUrl-short : IsValid new → IsAddressUrl new
  IsAddressUrl-short valid =
      IsAddressUrl-from_judged new valid (subst IsCanonical (sym is_new) (fragmented_canonical url bytes kept.valid kept.canonical)) fits

  -- its base and its origin are the old ones
  module _ (valid : IsValid new) (read : List ℕ) (written : read ≡ serialize new) where
    pub base_of-short : base_of read ≡ base_text url
    base_of-short =
        base_of-text new read (sym written) (IsAddressUrl-short valid) ∙ ap base_text is_new ∙ (set_fragment_parts url bytes kept.valid).0

    pub origin_of-short : origin_of read ≡ origin_text url
    origin_of-short =
        origin_of-text new read (sym written) (IsAddressUrl-short valid) ∙ ap origin_text is_new ∙ (set_fragment_parts url bytes kept.valid).1

-- the definition, at the text of an address and bytes that are UTF-8
pub with_fragment-text : (url : Parts) (text bytes : List ℕ) → serialize url ≡ text → IsAddressUrl url → is_utf8 bytes ≡ true → with_fragment text bytes ≡ judged (set_fragment url (Some bytes))
unfolding with_fragment
with_fragment-text url text bytes spelled kept utf8 = rw (utf8, url_of-serialize url text spelled kept) refl

pub ruleset short = (judged-set_fragment, judged-short, IsAddressUrl-short)

pub ruleset of_text = (with_fragment-text, base_of-text, origin_of-text)
