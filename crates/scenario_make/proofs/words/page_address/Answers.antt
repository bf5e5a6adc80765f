use Rattle.std.proofs.Common.{◌≡◌, ◌++◌, ℕ, List, Ok, sym, ap, subst, ◌∙◌, append_assoc}
use Rattle.std.specs.Prelude.{codes, decimal}
use Rattle.address.specs.Addresses.{address_of}
use Rattle.scenario_make.specs.Turns.{host_text, page_address}
use Rattle.scenario_make.proofs.Addresses.{page_reads}
use Rattle.scenario_make.proofs.words.page_address.Goals as goal

pub address-requires : goal.address-requires
address-requires c =
    let is : c.as_bytes.result.now ≡ page_address c.args.host c.args.page =
    c.as_bytes.ensures.value
    ∙ c.in_ok-text.ensures.ok
    ∙ ap (λ (host : List ℕ). codes "http://" ++ (host ++ (codes ".test/p" ++ decimal c.args.page))) c.host_text-host.ensures
    ∙ ap (λ (l : List ℕ). codes "http://" ++ l) (sym (append_assoc (host_text c.args.host) (codes ".test/p") (decimal c.args.page))) in
    subst (λ (text : List ℕ). address_of text ≡ Ok text) (sym is) (page_reads c.args.host c.args.page c.requires.host c.requires.page)
