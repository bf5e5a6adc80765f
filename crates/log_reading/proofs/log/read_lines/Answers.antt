use Rattle.std.proofs.Common.{◌∙◌}
use Rattle.log_reading.proofs.LogLaws.{first_kept, all_read}
use Rattle.log_reading.proofs.log.read_lines.Goals as goal

pub read_rest-requires-clause-few : goal.read_rest-requires-clause-few
read_rest-requires-clause-few c =
    (first_kept c.in_ok-log.log c.in-Ok.first.0 c.in-Ok.first.1.now c.args.bytes.now c.in_ok-log.ensures c.in-Ok.ensures.0 c.in-Ok.ensures.1 c.requires.few).few

pub returns : goal.returns
returns c =
    let kept = first_kept c.in_ok-log.log c.in-Ok.first.0 c.in-Ok.first.1.now c.args.bytes.now c.in_ok-log.ensures c.in-Ok.ensures.0 c.in-Ok.ensures.1 c.requires.few in
    let read = c.in_ok-read_rest.ensures.ok in
    all_read c.read_rest.new.log c.args.bytes.now read.0 (read.1 ∙ kept.text) c.requires.some c.requires.few
