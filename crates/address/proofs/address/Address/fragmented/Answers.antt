use Rattle.address.proofs.Fragments.{IsAddressUrl-short, base_of-short, origin_of-short}
use Rattle.address.proofs.address.Address.fragmented.Goals as goal

pub of_url-requires : goal.of_url-requires
of_url-requires c =
    IsAddressUrl-short c.args.url.now c.in_ok-url.url c.args.text.now c.requires c.in_ok-url.ensures (rw c.as_str.ensures.value at c.if-as_str-gt2048.false) c.as_str.ensures.valid

pub returns-clause-base : goal.returns-clause-base
returns-clause-base c =
    base_of-short c.args.url.now c.in_ok-url.url c.args.text.now c.requires c.in_ok-url.ensures (rw c.as_str.ensures.value at c.if-as_str-gt2048.false) c.as_str.ensures.valid c.in_ok-address.address c.in_ok-address.ensures

pub returns-clause-origin : goal.returns-clause-origin
returns-clause-origin c =
    origin_of-short c.args.url.now c.in_ok-url.url c.args.text.now c.requires c.in_ok-url.ensures (rw c.as_str.ensures.value at c.if-as_str-gt2048.false) c.as_str.ensures.valid c.in_ok-address.address c.in_ok-address.ensures
