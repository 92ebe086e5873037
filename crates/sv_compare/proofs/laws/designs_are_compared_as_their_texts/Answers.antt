use Rattle.sv_run_laws.proofs.TextLaws.{read_flattened}
use Rattle.sv_compare.proofs.TextFindings.{compared_alike, point_sees}
use Rattle.sv_compare.proofs.laws.designs_are_compared_as_their_texts.Goals as goal

pub returns-clause-texts : goal.returns-clause-texts
returns-clause-texts c text asked design can flat admitted point level first second is =
    compared_alike text asked design can flat admitted point level first second
    (point_sees text asked design can flat admitted point level is)

pub returns-clause-bytes : goal.returns-clause-bytes
returns-clause-bytes c bytes text asked design means releases flat admitted point level first
    second is =
    let can = read_flattened bytes text means releases in
    compared_alike text asked design can flat admitted point level first second
    (point_sees text asked design can flat admitted point level is)
