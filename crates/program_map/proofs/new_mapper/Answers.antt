-- `program_map::new_mapper` meets its contract. Assumes nothing.
use Rattle.std.proofs.lemmas.Result.{err_from_is_err_and}
use Rattle.program_map.proofs.Laws.{start_refused, source_starts, start_made}
use Rattle.program_map.proofs.new_mapper.Goals as goal

pub returns-in_err-kept : goal.returns-in_err-kept
returns-in_err-kept c =
    let k = c.next_count-kept in
    let p = err_from_is_err_and c.from_residual.result c.from_residual.ensures.1 in
    rw (p.1, p.2) (start_refused c.args.rate _ c.opu0.ensures _ c.first_remainder-first.ensures k.result k.ensures _ c.in_err-kept.was)

pub returns-in_err-source : goal.returns-in_err-source
returns-in_err-source c =
    let k = c.next_count-kept in
    let x = c.new_source in
    absurd
    (source_starts c.args.rate _ c.opu0.ensures _ c.first_remainder-first.ensures k.result k.ensures _ c.in_ok-kept.was _ c.opu0-2.ensures x.result
    x.ensures _ c.in_err-source.was)

pub returns : goal.returns
returns c =
    let k = c.next_count-kept in
    let x = c.new_source in
    start_made c.args.rate _ c.opu0.ensures _ c.first_remainder-first.ensures k.result k.ensures _ c.in_ok-kept.was _ c.opu0-2.ensures x.result
    x.ensures _ c.in_ok-source.was
