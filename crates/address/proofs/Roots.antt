-- An origin, without the `/` of its address, reads as the address.
use Rattle.std.proofs.Common.{◌≡◌, ℕ, ◌-◌, ◌<◌, Bool, true, false, cond, not, ◌||◌, ◌==◌, List, [], ◌∷◌, ◌++◌, length, get_or, take, drop, Some, None, Ok, All, refl, sym, ap, subst, ◌∙◌, ⊎_elim, arith, append-nil, append_assoc, length-append, take_all, drop_at}
use Rattle.std.specs.Prelude.{Option, is_some, unwrap_or, codes, bytes_eq, nat_le, reverse}
use Rattle.std.specs.List.{concat, list_all, prefix_len}
use Rattle.std.specs.Str.{is_utf8}
use Rattle.std.proofs.Math.Nat.{sub-zero}
use Rattle.std.proofs.lemmas.Bool.{cond-true, cond-false, cases_Bool, lt-leb}
use Rattle.std.proofs.lemmas.Bool.Decides.{nat_tests}
use Rattle.std.proofs.lemmas.List.{get_or-reverse, length-reverse}
use Rattle.std.proofs.lemmas.List.Elements.{All-nil, All-cons, All-head, All-tail, All-append, All-weaker}
use Rattle.std.proofs.lemmas.List.Sums.{list_all-from_AllPass}
use Rattle.std.proofs.lemmas.Slice.Eq.{bytes_eq-Decides}
use Rattle.std.proofs.lemmas.Str.{IsUtf8-from_ascii, is_utf8-from_IsUtf8}
use Rattle.percent_encoding.proofs.PercentLemmas.{percent_encode-nil}
use Rattle.url.specs.declared.sets.TheConstants.{PATH}
use Rattle.url.specs.declared.scheme.SchemeType.TheVariants.{SpecialNotFile}
use Rattle.url.specs.declared.slicing.Position.TheVariants.{BeforeScheme, BeforeUsername, AfterPort}
use Rattle.url.specs.Head.{head_only, without_tail}
use Rattle.url.specs.Host.{host_text, parse_host, IsHostOf}
use Rattle.url.specs.Input.{when, is_c0_control_or_space, is_tab_or_new_line, trim_c0_control_and_space, strip_tabs_and_new_lines, split_once}
use Rattle.url.specs.Parser.{parse_url, parse_by_scheme, parse_parts, parse_body, parse_authority, after_double_slash, skip_slashes, split_scheme, base_for_scheme, and_then, with_path, with_tail, before_tail}
use Rattle.url.specs.Parts.{Parts, IsValid, kind_of, has_authority, host_or_empty, pieces, serialize, text_between}
use Rattle.url.specs.Path.{segment_len, parse_path_start, parse_segments, push_segment, dot_count}
use Rattle.url.specs.Scheme.{is_scheme_byte, is_special, is_file, is_slash}
use Rattle.url.proofs.InputLemmas.{IsNot, Passes, StopsAt, split_once_none, prefix_len_at, filter_all, is_empty_nonempty}
use Rattle.url.proofs.HostRoundTrip.{parse_special_host-host_text}
use Rattle.url.proofs.ParsedCanonical.{before_special}
use Rattle.url.proofs.PiecesLemmas.{concat-split}
use Rattle.url.proofs.RoundTrip.{split_own_scheme, parse_own_authority, host_nonempty}
use Rattle.url.proofs.SchemeLemmas.{scheme_bytes}
use Rattle.url.proofs.SetterLemmas.{own_host}
use Rattle.url.proofs.TextLemmas.{is_authority_byte, authority_bytes}
use Rattle.url.proofs.ValidLemmas.{IsAscii-head, hierarchical, special_has_authority, base_from_authority}
use Rattle.address.specs.Addresses.{IsAddress, IsAddressUrl, address_of, is_address_byte, is_root, ReadsAsRoot, is_web, judged_parse, origin_of, origin_text, read_against}
use Rattle.address.proofs.Urls.{Passes-from_judged, address_is_short, origin_of-text, serialize_reads}
use Rattle.address.proofs.Written.{Fits, address_fits, address_some, all_from_list, web_kind}

-- ---- nothing is trimmed or stripped of bytes that an address is written in

none_at_front : (xs : List ℕ) → (0 < length xs → 32 < get_or xs 0 0) → prefix_len is_c0_control_or_space xs ≡ 0
none_at_front [] first = refl
none_at_front (x ∷ xs) first = cond-false _ _ _ (lt-leb x 32 (first (omega arith)))

above : (b : ℕ) → Fits b → 32 < b
above b fits = grind (arith, nat_tests)

untrimmed : (xs : List ℕ) → All Fits xs → trim_c0_control_and_space xs ≡ xs
unfolding trim_c0_control_and_space
untrimmed xs fit =
    let start = none_at_front xs (λ inside. above _ (fit 0 0 inside)) in
    let len = length-reverse xs in
    let end = none_at_front (reverse xs) (λ inside. rw (get_or-reverse xs 0 0 (omega arith), sub-zero) (above _ (fit (length xs - 1) 0 (omega arith)))) in
    rw (start, end) (take_all _ xs (omega arith))

unstripped : (xs : List ℕ) → All Fits xs → strip_tabs_and_new_lines xs ≡ xs
unfolding strip_tabs_and_new_lines
unstripped xs fit =
    filter_all _ xs (All-weaker Fits (Passes (λ b. not (is_tab_or_new_line b))) (λ b fits. grind (arith, nat_tests)) xs fit)

-- ---- the path `/`

root_start : parse_path_start SpecialNotFile [] [] ≡ 47 ∷ []
unfolding parse_path_start parse_segments push_segment dot_count
root_start = ap (λ (l : List ℕ). 47 ∷ l) (percent_encode-nil PATH)

no_slash_at : (xs : List ℕ) → 0 < length xs → All (Passes is_authority_byte) xs → StopsAt (λ b. b == 47 || b == 92) xs
no_slash_at [] nonempty all = absurd (omega arith)
no_slash_at (x ∷ xs) nonempty all = let passes = All-head (Passes is_authority_byte) x xs all in grind (arith, nat_tests)

-- a URL of a special scheme that has the path `/` and nothing after it
record IsRoot (url : Parts) : Type 0 where
  pub valid : IsValid url
  pub kind : kind_of url ≡ SpecialNotFile
  pub path : url.path ≡ 47 ∷ []
  pub query : url.query ≡ None
  pub fragment : url.fragment ≡ None

after_root : (url : Parts) → IsRoot url → parse_authority url.scheme (text_between url BeforeUsername AfterPort) ≡ Ok (head_only url) → after_double_slash url.scheme (text_between url BeforeUsername AfterPort) ≡ Ok (without_tail url)
unfolding after_double_slash
after_root url root parses =
    let kind = kind_of url in
    let text = text_between url BeforeUsername AfterPort in
    let test = λ (b : ℕ). not (is_slash kind b) in
    let whole = All-weaker (Passes is_authority_byte) (Passes test) (λ b passes. grind (arith, nat_tests)) text (authority_bytes url root.valid.head) in
    let len = subst (λ (l : List ℕ). prefix_len test l ≡ length text) (append-nil text) (prefix_len_at test text [] whole tt) in
    let front : take (segment_len kind text) text ≡ text = ap (λ n. take n text) len ∙ take_all _ text (omega arith) in
    let back : drop (segment_len kind text) text ≡ [] = ap (λ n. drop n text) len ∙ ap (λ (l : List ℕ). drop (length text) l) (sym (append-nil text)) ∙ drop_at text [] _ refl in
    let path : parse_path_start kind [] [] ≡ url.path = ap (λ k. parse_path_start k [] []) root.kind ∙ root_start ∙ sym root.path in
    ap (λ r. and_then r (λ head. Ok (with_path head (parse_path_start kind [] (drop (segment_len kind text) text))))) (ap (parse_authority url.scheme) front ∙ parses)
    ∙ ap (λ p. Ok (with_path (head_only url) p)) (ap (parse_path_start kind []) back ∙ path)

root_body : (url : Parts) → IsRoot url → after_double_slash url.scheme (skip_slashes (47 ∷ 47 ∷ text_between url BeforeUsername AfterPort)) ≡ Ok (without_tail url)
root_body url root =
    let valid = root.valid in
    let authority = special_has_authority url valid.head (ap is_special root.kind) in
    let host = host_or_empty url in
    let is_host = subst (λ k. IsHostOf k host) root.kind (own_host url valid.head authority) in
    let nonempty = host_nonempty host is_host in
    let text = text_between url BeforeUsername AfterPort in
    let long : 0 < length text = simp length-append (omega arith) in
    let test = λ (b : ℕ). b == 47 || b == 92 in
    let slashes = prefix_len_at test (47 ∷ 47 ∷ []) text (All-cons (Passes test) 47 (47 ∷ []) refl (All-cons (Passes test) 47 [] refl (All-nil (Passes test)))) (no_slash_at text long (authority_bytes url valid.head)) in
    let parses = parse_own_authority url valid.head authority (ap (λ k. parse_host k (host_text host)) root.kind ∙ parse_special_host-host_text host is_host) (rw (is_empty_nonempty _ nonempty)) in
    ap (λ n. after_double_slash url.scheme (drop n (47 ∷ 47 ∷ text))) slashes ∙ after_root url root parses

root_parts : (url : Parts) → IsRoot url → parse_parts url.scheme None (47 ∷ 47 ∷ text_between url BeforeUsername AfterPort) None None ≡ Ok url
unfolding parse_parts parse_body
root_parts url root =
    let body : parse_body url.scheme None (47 ∷ 47 ∷ text_between url BeforeUsername AfterPort) ≡ Ok (without_tail url) =
    cond-false _ _ _ (ap is_file root.kind) ∙ cond-true _ _ _ (ap is_special root.kind) ∙ root_body url root in
    ap (λ r. and_then r (λ u. Ok (with_tail (before_tail u None None) None None))) body
    ∙ ap (λ (u : Parts). Ok (with_tail u None None)) (before_special (without_tail url) None None (ap is_special root.kind))
    ∙ ap Ok (λ i. record url { query = sym root.query i; fragment = sym root.fragment i })

head_text : (url : Parts) → has_authority url ≡ true → text_between url BeforeScheme AfterPort ≡ url.scheme ++ 58 ∷ 47 ∷ 47 ∷ text_between url BeforeUsername AfterPort
head_text url authority = rw authority (simp (append_assoc, append-nil))

-- the text up to the port parses as the URL
root_parses : (url : Parts) → IsRoot url → All Fits (text_between url BeforeScheme AfterPort) → All (Passes (λ b. not (b == 35 || b == 63))) (text_between url BeforeScheme AfterPort) → parse_url None (text_between url BeforeScheme AfterPort) ≡ Ok url
unfolding parse_url
root_parses url root fit plain =
    let valid = root.valid in
    let text = text_between url BeforeScheme AfterPort in
    let body = 47 ∷ 47 ∷ text_between url BeforeUsername AfterPort in
    let authority = special_has_authority url valid.head (ap is_special root.kind) in
    let no_hash = All-weaker (Passes (λ b. not (b == 35 || b == 63))) (IsNot 35) (λ b passes e. grind (arith, nat_tests)) text plain in
    let no_mark = All-weaker (Passes (λ b. not (b == 35 || b == 63))) (IsNot 63) (λ b passes e. grind (arith, nat_tests)) text plain in
    let clean = ap strip_tabs_and_new_lines (untrimmed text fit) ∙ unstripped text fit in
    let hash = ap (split_once 35) clean ∙ split_once_none 35 text no_hash in
    let question = ap (λ r. split_once 63 r.0) hash ∙ split_once_none 63 text no_mark in
    let scheme = ap (λ r. split_scheme r.0) question ∙ ap split_scheme (head_text url authority) ∙ split_own_scheme url.scheme body valid.head.scheme in
    (λ i. parse_by_scheme (scheme i) None (question i).0 (question i).1 (hash i).1)
    ∙ ap (λ s. parse_parts s (base_for_scheme None s) body None None) valid.head.scheme.lower
    ∙ root_parts url root

-- ---- a text that is its origin and `/`

same_bytes : (a b : List ℕ) → bytes_eq a b ≡ true → a ≡ b
same_bytes a b e = (bytes_eq-Decides a b).0 e

path_alone : (path tail : List ℕ) → 0 < length path → path ++ tail ≡ 47 ∷ [] → (path ≡ 47 ∷ []) × (tail ≡ [])
path_alone [] tail some e = absurd (omega arith)
path_alone (b ∷ []) tail some e = let first : b ≡ 47 = cc in let rest : tail ≡ [] = cc in (ap (λ (x : ℕ). x ∷ []) first, rest)
path_alone (b ∷ c ∷ path) tail some e = cc

no_tail : (query fragment : Option (List ℕ)) → when (is_some query) (63 ∷ []) ++ (unwrap_or query [] ++ (when (is_some fragment) (35 ∷ []) ++ (unwrap_or fragment [] ++ []))) ≡ [] → (query ≡ None) × (fragment ≡ None)
no_tail None None e = (refl, refl)
no_tail None (Some fragment) e = cc
no_tail (Some query) fragment e = cc

-- what follows the port is `/`
root_of : (url : Parts) → IsValid url → kind_of url ≡ SpecialNotFile → serialize url ≡ text_between url BeforeScheme AfterPort ++ 47 ∷ [] → IsRoot url
root_of url valid kind spelled =
    let front = text_between url BeforeScheme AfterPort in
    let special : is_special (kind_of url) ≡ true = ap is_special kind in
    let authority = special_has_authority url valid.head special in
    let path = hierarchical url valid.path (base_from_authority url authority) in
    let tail : List ℕ = when (is_some url.query) (63 ∷ []) ++ (unwrap_or url.query [] ++ (when (is_some url.fragment) (35 ∷ []) ++ (unwrap_or url.fragment [] ++ []))) in
    let after : concat (drop 9 (pieces url)) ≡ 47 ∷ [] =
    sym (drop_at front (concat (drop 9 (pieces url))) _ refl) ∙ ap (λ (l : List ℕ). drop (length front) l) (sym (concat-split (pieces url) 9) ∙ spelled) ∙ drop_at front (47 ∷ []) _ refl in
    let unguarded : concat (drop 9 (pieces url)) ≡ url.path ++ tail = rw authority refl in
    let parts = path_alone url.path tail (path.1 special) (sym unguarded ∙ after) in
    let none = no_tail url.query url.fragment parts.1 in
    record { valid = valid; kind = kind; path = parts.0; query = none.0; fragment = none.1 }

fits_before : (xs : List ℕ) → All Fits (xs ++ 47 ∷ []) → All Fits xs
fits_before [] all = All-nil Fits
fits_before (x ∷ xs) all = All-cons Fits x xs (All-head Fits x (xs ++ 47 ∷ []) all) (fits_before xs (All-tail Fits x (xs ++ 47 ∷ []) all))

abbrev HasNoMark : ℕ → Type 0
HasNoMark b = Passes (λ x. not (x == 35 || x == 63)) b

-- no `#` and no `?` stands before the end of the port
head_plain : (url : Parts) → IsValid url → has_authority url ≡ true → All HasNoMark (text_between url BeforeScheme AfterPort)
head_plain url valid authority =
    let rest = text_between url BeforeUsername AfterPort in
    let scheme = All-weaker (Passes is_scheme_byte) HasNoMark (λ b passes. grind (arith, nat_tests)) url.scheme (scheme_bytes url.scheme valid.head.scheme) in
    let after = All-weaker (Passes is_authority_byte) HasNoMark (λ b passes. grind (arith, nat_tests)) rest (authority_bytes url valid.head) in
    let marks = All-cons HasNoMark 58 (47 ∷ 47 ∷ rest) refl (All-cons HasNoMark 47 (47 ∷ rest) refl (All-cons HasNoMark 47 rest refl after)) in
    subst (All HasNoMark) (sym (head_text url authority)) (All-append HasNoMark url.scheme (58 ∷ 47 ∷ 47 ∷ rest) scheme marks)

some_front : (url : Parts) → IsValid url → 0 < length (text_between url BeforeScheme AfterPort)
some_front url valid =
    let scheme = valid.head.scheme.nonempty in
    let long = length-append url.scheme (concat (drop 1 (take 9 (pieces url)))) in
    omega arith

-- the text up to the port is an address where `/` alone follows it
web_root : (url : Parts) → IsAddressUrl url → is_web url ≡ true → serialize url ≡ text_between url BeforeScheme AfterPort ++ 47 ∷ [] → address_of (text_between url BeforeScheme AfterPort) ≡ Ok (serialize url)
unfolding address_of read_against judged_parse
web_root url kept web spelled =
    let valid = kept.valid in
    let front = text_between url BeforeScheme AfterPort in
    let kind = web_kind url web in
    let authority = special_has_authority url valid.head (ap is_special kind) in
    let fit : All Fits front = fits_before front (subst (All Fits) spelled (all_from_list is_address_byte (serialize url) (address_fits url kept))) in
    let parses : parse_url None front ≡ Ok url = root_parses url (root_of url valid kind spelled) fit (head_plain url valid authority) in
    let whole = (Passes-from_judged url _ kept.fits).short in
    let long = ap length spelled ∙ length-append front (47 ∷ []) in
    let short : nat_le (length front) 2048 ≡ true = grind (arith, nat_tests) in
    let utf8 : is_utf8 front ≡ true = is_utf8-from_IsUtf8 _ (IsUtf8-from_ascii _ (IsAscii-head url valid.head)) in
    rw (short, utf8, parses) kept.fits

web_origin : (url : Parts) → is_web url ≡ true → origin_text url ≡ text_between url BeforeScheme AfterPort
unfolding origin_text
web_origin url web = rw web refl

no_origin : (url : Parts) → is_web url ≡ false → origin_text url ≡ []
unfolding origin_text
no_origin url other = rw other refl

marks_long : (test : Bool) → 0 < length (cond test (codes "://") (codes ":"))
marks_long true = omega arith
marks_long false = omega arith

-- no address is `/` alone
not_slash : (url : Parts) → IsValid url → serialize url ≡ 47 ∷ [] → ⊥
not_slash url valid spelled =
    let scheme = valid.head.scheme.nonempty in
    let mark = cond (has_authority url) (codes "://") (codes ":") in
    let first = length-append url.scheme (concat (drop 1 (pieces url))) in
    let second = length-append mark (concat (drop 2 (pieces url))) in
    let some = marks_long (has_authority url) in
    let whole = ap length spelled in
    omega arith

-- the origin of an address that is its origin and `/` reads as the address
pub root_reads : (url : Parts) (text : List ℕ) → serialize url ≡ text → IsAddressUrl url → is_root text ≡ true → ReadsAsRoot text
root_reads url text spelled kept root = ⊎_elim (λ web. of_web web) (λ other. absurd (of_other other)) (cases_Bool (is_web url))
  where
    origin : origin_of text ≡ origin_text url
    origin = origin_of-text url text spelled kept

    whole : text ≡ origin_text url ++ 47 ∷ []
    whole = same_bytes text (origin_of text ++ codes "/") root ∙ ap (λ (l : List ℕ). l ++ 47 ∷ []) origin

    of_other : is_web url ≡ false → ⊥
    of_other other = not_slash url kept.valid (spelled ∙ whole ∙ ap (λ (l : List ℕ). l ++ 47 ∷ []) (no_origin url other))

    of_web : is_web url ≡ true → ReadsAsRoot text
    of_web web =
        let front = text_between url BeforeScheme AfterPort in
        let same : front ≡ origin_of text = sym (origin ∙ web_origin url web) in
        let text_is : serialize url ≡ front ++ 47 ∷ [] = spelled ∙ whole ∙ ap (λ (l : List ℕ). l ++ 47 ∷ []) (web_origin url web) in
        let fit : All Fits front = fits_before front (subst (All Fits) text_is (all_from_list is_address_byte (serialize url) (address_fits url kept))) in
        let reads : address_of front ≡ Ok text = web_root url kept web text_is ∙ ap Ok spelled in
        let long = some_front url kept.valid in
        let some : (length front == 0) ≡ false = grind (arith, nat_tests) in
        record {
          reads = subst (λ (l : List ℕ). address_of l ≡ Ok text) same reads;
          some = subst (λ (l : List ℕ). (length l == 0) ≡ false) same some;
          bytes = subst (λ (l : List ℕ). list_all is_address_byte l ≡ true) same (list_all-from_AllPass is_address_byte front fit);
        }

-- what every address keeps
pub address_keeps : (url : Parts) (text : List ℕ) → serialize url ≡ text → IsAddressUrl url → IsAddress text
address_keeps url text spelled kept = record {
  some = subst (λ (l : List ℕ). (length l == 0) ≡ false) spelled (address_some url kept);
  bytes = subst (λ (l : List ℕ). list_all is_address_byte l ≡ true) spelled (address_fits url kept);
  reads = subst (λ (l : List ℕ). address_of l ≡ Ok l) spelled (serialize_reads url kept);
  root = root_reads url text spelled kept;
}

pub ruleset texts = (address_is_short)
