use Rattle.sv_cli.proofs.OneAnswer.{one_answer}
use Rattle.sv_cli.proofs.laws.each_dialogue_has_one_answer.Goals as goal

pub returns : goal.returns
returns c =
    one_answer c.each_stimulus_of_a_text_has_one_text.ensures.bytes
    c.each_pair_of_stimuli_has_one_finding.ensures.bytes
