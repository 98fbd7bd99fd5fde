-- `program_demap::demap_frame` meets its contract. Assumes nothing.
use mathlib.Core.Path.{◌∙◌, ap}
use Rattle.gmp_settings.specs.declared.Settings.{Settings}
use Rattle.gmp_settings.specs.Settings.{with_mending, with_type_check}
use Rattle.program_demap.proofs.Laws.{not_refused, takes}
use Rattle.program_demap.proofs.demap_frame.Goals as goal

pub returns-in_default : goal.returns-in_default
returns-in_default c size room =
    let start = c in
    let g = start.args in
    let k = c.lend_call-counted in
    let settings =
    c.with_type_check-settings.ensures
    ∙ ap (λ (s : Settings). with_type_check s g.wanted.type_check)
    (c.with_mending-mending.ensures ∙ ap (λ (s : Settings). with_mending s g.wanted.mending) c.opu0.ensures) in
    let promise = rw (settings, c.new_tallies-card.ensures) at k.ensures in
    absurd
    (not_refused g.wanted g.demapper g.frame.now g.out.now size room k.result.result _ k.result.tallies
    promise _ c.in_default.is)

pub returns : goal.returns
returns c size room =
    let start = c in
    let g = start.args in
    let k = c.lend_call-counted in
    let settings =
    c.with_type_check-settings.ensures
    ∙ ap (λ (s : Settings). with_type_check s g.wanted.type_check)
    (c.with_mending-mending.ensures ∙ ap (λ (s : Settings). with_mending s g.wanted.mending) c.opu0.ensures) in
    let promise = rw (settings, c.new_tallies-card.ensures) at k.ensures in
    takes g.wanted g.demapper g.frame.now g.out.now size room k.result.result _ k.result.tallies promise _
    c.in-Ok.is _ c.standing_number.ensures _ c.tally_of-tally.ensures
